use Rattle.std.proofs.Common.{ℕ, List, ◌++◌, ap, sym, subst, ◌∙◌}
use Rattle.mc_words.specs.hand.Arenas.{setup_of, view}
use Rattle.mc_items.specs.declared.refs.Ref.{Ref}
use Rattle.mc_workers.specs.Kept.{KeptReference, kept_references}
use Rattle.mc_workers.specs.Asking.{lines_of}
use Rattle.mc_workers.specs.Lines.{ServesEach, all_released, reply_texts}
use Rattle.mc_workers.proofs.KeptRefs.{items_held}
use Rattle.mc_workers.proofs.lines.serve_lines.Goals as goal

pub returns-clause-does : goal.returns-clause-does
returns-clause-does g c =
    let setup = setup_of c.args.shared.now.arena.now in
    let lines = lines_of c.args.worker c.args.shared.now.commands.now in
    let did = c.in_ok-serve_each.ensures.serves in
    let served = c.serve_each.new.hand in
    let left = c.serve_each.new.kept.items in
    record {
      replies = did.replies;
      left = kept_references (view served) left;
      served = served;
      serves = subst (λ (held : List KeptReference). ServesEach setup lines did.replies held c.args.hand.now (kept_references (view served) left) served) (ap (kept_references (view c.args.hand.now)) c.new-kept.ensures.items) did.serves;
      told = did.added ∙ ap (λ (l : List ℕ). l ++ reply_texts lines did.replies) c.requires.empty;
      released = c.release_all.ensures.released ∙ ap (λ (l : List Ref). all_released l (view served)) (sym (items_held (view served) left));
    }
