use Rattle.std.proofs.Common.{ap, sym, ◌∙◌}
use Rattle.mc_pages.specs.Accounted.{is_cleared}
use Rattle.mc_serial_spec.proofs.MoverSaves.{class_swept, idle_swept, moving-swept, own_swept, target_free}
use Rattle.mc_keeper.proofs.keeper.Keeper.save.Goals as goal

pub target-requires : goal.target-requires
target-requires c = rw c.sweep_class.ensures.swept (class_swept c.args.self.now c.args.class c.args.class c.requires.class)

pub rescue-requires-clause-moving : goal.rescue-requires-clause-moving
rescue-requires-clause-moving c = rw (c.sweep_class.ensures.swept, moving-swept c.args.self.now c.args.class) c.requires.moving

pub rescue-requires-clause-unheld : goal.rescue-requires-clause-unheld
rescue-requires-clause-unheld c = rw c.sweep_class.ensures.swept (idle_swept c.args.self.now c.args.class c.args.chunk c.requires.unheld)

pub rescue-requires-clause-free : goal.rescue-requires-clause-free
rescue-requires-clause-free c =
    rw (own_swept c.args.self.now c.sweep_class.new.self c.args.class c.args.chunk.page c.sweep_class.ensures.swept c.requires.own) (target_free c.sweep_class.new.self c.args.class c.args.chunk.page c.in-Some.new (sym c.in-Some.ensures.target)).0

pub rescue-requires-clause-off : goal.rescue-requires-clause-off
rescue-requires-clause-off c = (target_free c.sweep_class.new.self c.args.class c.args.chunk.page c.in-Some.new (sym c.in-Some.ensures.target)).1

pub evict_moving-requires-clause-moving : goal.evict_moving-requires-clause-moving
evict_moving-requires-clause-moving c = rw (c.sweep_class.ensures.swept, moving-swept c.args.self.now c.args.class) c.requires.moving

pub evict_moving-requires-clause-unheld : goal.evict_moving-requires-clause-unheld
evict_moving-requires-clause-unheld c = rw c.sweep_class.ensures.swept (idle_swept c.args.self.now c.args.class c.args.chunk c.requires.unheld)

pub returns-in_ok-rescue-in-Some-clause-clears : goal.returns-in_ok-rescue-in-Some-clause-clears
returns-in_ok-rescue-in-Some-clause-clears c =
    λ done. ap (λ n. is_cleared c.rescue.new.self.slabs n c.args.chunk) (sym (own_swept c.args.self.now c.sweep_class.new.self c.args.class c.args.chunk.page c.sweep_class.ensures.swept c.requires.own)) ∙ c.in_ok-rescue-in-Some.ensures.clears

pub returns-in-None-clause-clears : goal.returns-in-None-clause-clears
returns-in-None-clause-clears c =
    λ done. ap (λ n. is_cleared c.evict_moving.new.self.slabs n c.args.chunk) (sym (own_swept c.args.self.now c.sweep_class.new.self c.args.class c.args.chunk.page c.sweep_class.ensures.swept c.requires.own)) ∙ c.evict_moving.ensures.clears
