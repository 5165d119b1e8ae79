use Rattle.std.proofs.Common.{◌≡◌, ◌≤◌, None, true, ap, sym, ◌∙◌, arith, refl}
use Rattle.std.proofs.lemmas.Bool.Decides.{nat_tests}
use Rattle.mc_pages.specs.ClassState.{times_in}
use Rattle.mc_pages.specs.Changes.{after_clear}
use Rattle.mc_pages.specs.Accounted.{is_cut, is_cleared, places_in}
use Rattle.mc_pages.specs.SlabState.{HasClass, class_at, class_of_page}
use Rattle.mc_serial_spec.specs.Items.{item_in_chunk}
use Rattle.mc_serial_spec.specs.Machine.{Machine}
use Rattle.mc_serial_spec.proofs.KeptMoverClear.{cleared_after, cleared_there, kept_freed, not_handed, own_from_cut}
use Rattle.mc_keeper.proofs.Watched.{watched-clear}
use Rattle.std.proofs.lemmas.List.{length-set}
use Rattle.mc_keeper.proofs.Counted.{counted_owned}
use Rattle.mc_keeper.proofs.keeper.Keeper.clear_free.Goals as goal

pub is_free-requires-clause-class : goal.is_free-requires-clause-class
is_free-requires-clause-class c =
    let slabs = ap (λ (m : Machine). m.slabs) c.self.view_is in
    let cut : is_cut c.self.inside.slabs.state c.args.class c.args.chunk ≡ true = rw slabs c.requires.cut in
    let own : class_of_page c.self.inside.slabs.state c.args.chunk.page ≡ c.args.class = own_from_cut c.self.inside.slabs.state c.args.class c.args.chunk cut in
    rw own (rw slabs c.requires.class)

pub is_free-requires-clause-cut : goal.is_free-requires-clause-cut
is_free-requires-clause-cut c =
    let slabs = ap (λ (m : Machine). m.slabs) c.self.view_is in
    let cut : is_cut c.self.inside.slabs.state c.args.class c.args.chunk ≡ true = rw slabs c.requires.cut in
    let own : class_of_page c.self.inside.slabs.state c.args.chunk.page ≡ c.args.class = own_from_cut c.self.inside.slabs.state c.args.class c.args.chunk cut in
    rw own cut

pub invariant_of-self : goal.invariant_of-self
invariant_of-self c =
    let slabs = ap (λ (m : Machine). m.slabs) c.self.view_is in
    let cut : is_cut c.self.inside.slabs.state c.args.class c.args.chunk ≡ true = rw slabs c.requires.cut in
    let own : class_of_page c.self.inside.slabs.state c.args.chunk.page ≡ c.args.class = own_from_cut c.self.inside.slabs.state c.args.class c.args.chunk cut in
    let valid : HasClass c.self.inside.slabs.state (class_of_page c.self.inside.slabs.state c.args.chunk.page) = rw own (rw slabs c.requires.class) in
    let empty : item_in_chunk c.self.inside.items c.args.chunk ≡ None = rw (ap (λ (m : Machine). m.items) c.self.view_is) c.requires.empty in
    record {
      kept = rw c.clear.ensures.cleared (kept_freed _ _ _ c.args.chunk c.self.invariant.kept empty valid (rw c.clear.ensures.cleared at c.clear.ensures.accounted));
      watched = rw c.clear.ensures.cleared (watched-clear c.self.inside.slabs.state _ c.self.invariant.watched c.args.chunk);
      counted = rw c.clear.ensures.cleared (counted_owned _ _ _ _ _ _ c.self.invariant.counted (length-set c.self.inside.slabs.state.classes _ _));
      indexed = c.self.invariant.indexed;
      bulk = c.self.invariant.bulk;
    }

pub returns-else-is_free-clause-looked : goal.returns-else-is_free-clause-looked
returns-else-is_free-clause-looked c =
    let slabs = ap (λ (m : Machine). m.slabs) c.self.view_is in
    let cut : is_cut c.self.inside.slabs.state c.args.class c.args.chunk ≡ true = rw slabs c.requires.cut in
    let own : class_of_page c.self.inside.slabs.state c.args.chunk.page ≡ c.args.class = own_from_cut c.self.inside.slabs.state c.args.class c.args.chunk cut in
    let class : HasClass c.self.inside.slabs.state c.args.class = rw slabs c.requires.class in
    let valid : HasClass c.self.inside.slabs.state (class_of_page c.self.inside.slabs.state c.args.chunk.page) = rw own class in
    let empty : item_in_chunk c.self.inside.items c.args.chunk ≡ None = rw (ap (λ (m : Machine). m.items) c.self.view_is) c.requires.empty in
    let order : times_in c.args.chunk (class_at c.self.inside.slabs.state c.args.class).order ≡ 0 = rw own at (not_handed _ _ _ c.args.chunk c.self.invariant.kept empty valid) in
    let free : times_in c.args.chunk (class_at c.self.inside.slabs.state c.args.class).free ≡ 0 = let none = rw own at c.is_free.ensures.free in grind (arith, nat_tests, none, c.if-is_free.false) in
    let cleared : is_cleared c.args.self.now.slabs c.args.class c.args.chunk ≡ true
    = rw (← slabs) (cleared_there _ _ _ c.self.invariant.kept.accounted class cut free order) in
    rw cleared refl

pub returns-else-is_free-clause-clears : goal.returns-else-is_free-clause-clears
returns-else-is_free-clause-clears c =
    let slabs = ap (λ (m : Machine). m.slabs) c.self.view_is in
    let cut : is_cut c.self.inside.slabs.state c.args.class c.args.chunk ≡ true = rw slabs c.requires.cut in
    let own : class_of_page c.self.inside.slabs.state c.args.chunk.page ≡ c.args.class = own_from_cut c.self.inside.slabs.state c.args.class c.args.chunk cut in
    let class : HasClass c.self.inside.slabs.state c.args.class = rw slabs c.requires.class in
    let valid : HasClass c.self.inside.slabs.state (class_of_page c.self.inside.slabs.state c.args.chunk.page) = rw own class in
    let empty : item_in_chunk c.self.inside.items c.args.chunk ≡ None = rw (ap (λ (m : Machine). m.items) c.self.view_is) c.requires.empty in
    let order : times_in c.args.chunk (class_at c.self.inside.slabs.state c.args.class).order ≡ 0 = rw own at (not_handed _ _ _ c.args.chunk c.self.invariant.kept empty valid) in
    let free : times_in c.args.chunk (class_at c.self.inside.slabs.state c.args.class).free ≡ 0 = let none = rw own at c.is_free.ensures.free in grind (arith, nat_tests, none, c.if-is_free.false) in
    rw (← slabs) (cleared_there _ _ _ c.self.invariant.kept.accounted class cut free order)

pub returns-then-is_free-clause-clears : goal.returns-then-is_free-clause-clears
returns-then-is_free-clause-clears c =
    let slabs = ap (λ (m : Machine). m.slabs) c.self.view_is in
    let cut : is_cut c.self.inside.slabs.state c.args.class c.args.chunk ≡ true = rw slabs c.requires.cut in
    let own : class_of_page c.self.inside.slabs.state c.args.chunk.page ≡ c.args.class = own_from_cut c.self.inside.slabs.state c.args.class c.args.chunk cut in
    let free : 1 ≤ times_in c.args.chunk (class_at c.self.inside.slabs.state c.args.class).free = let some = rw own at c.is_free.ensures.free in grind (arith, nat_tests, some, c.if-is_free.true) in
    let placed : 1 ≤ places_in c.self.inside.slabs.state (class_of_page c.self.inside.slabs.state c.args.chunk.page) c.args.chunk = rw own (omega (arith, free)) in
    let cleared = cleared_after c.self.inside.slabs.state c.args.chunk c.self.invariant.kept.accounted (rw c.clear.ensures.cleared at c.clear.ensures.accounted) placed in
    rw c.clear.ensures.cleared (ap (λ n. is_cleared (after_clear c.self.inside.slabs.state c.args.chunk) n c.args.chunk) (sym own) ∙ cleared)
