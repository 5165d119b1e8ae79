use Rattle.std.proofs.Common.{◌≡◌, Some, ap, refl, sym, ◌∙◌, arith}
use Rattle.std.proofs.lemmas.Result.{err_from_is_err_and}
use Rattle.mc_serial_parts.specs.NewWords.{words_of_new}
use Rattle.mc_serial_spec.specs.Machine.{Machine}
use Rattle.mc_serial_spec.specs.Supply.{supply}
use Rattle.mc_pages.specs.ClassState.{first_free}
use Rattle.mc_pages.specs.SlabState.{class_at}
use Rattle.mc_serial_spec.proofs.StoredItems.{stored_asking, stored_in_mode, stored_quietly}
use Rattle.mc_keeper.proofs.keeper.Keeper.store.Goals.{then-not-evicted-via-else-not-evicted+then-automove-ne2, then-not-evicted-via-then-not-evicted}
use Rattle.mc_keeper.proofs.keeper.Keeper.store.Goals as goal

pub returns-in_ok-ask_for_page-in-Some-clause-after :
    goal.returns-in_ok-ask_for_page-in-Some-clause-after
returns-in_ok-ask_for_page-in-Some-clause-after c =
    let head : supply c.args.self.now c.args.class ≡ Some c.in-Some.chunk
    = sym (ap (λ (m : Machine). first_free (class_at m.slabs c.args.class)) (c.self.view_is ∙ c.in_ok-evicted.ensures.after)) ∙ sym c.in-Some.ensures.chunk in
    stored_asking c.args.self.now _ _ _ c.args.class c.args.key (words_of_new c.args.words) c.in-Some.chunk
    c.in_ok-evicted.ensures.after refl c.in_ok-put-in-Some.ensures.put head
    c.ask_for_page.new.self (sym c.in_ok-evicted.ensures.evicted ∙ c.if-not-evicted.false)
    (ap (λ (m : Machine). m.slabs.automove) (sym c.self-in-Some.view_is) ∙ sym c.automove.ensures.mode ∙ c.if-automove-ne2.false)
    c.in_ok-ask_for_page-in-Some.ensures.after

pub returns-then-not-evicted-clause-after : goal.returns-then-not-evicted-clause-after
returns-then-not-evicted-clause-after c =
    let head : supply c.args.self.now c.args.class ≡ Some c.in-Some.chunk
    = sym (ap (λ (m : Machine). first_free (class_at m.slabs c.args.class)) (c.self.view_is ∙ c.in_ok-evicted.ensures.after)) ∙ sym c.in-Some.ensures.chunk in
    elim c.then-not-evicted.branch [
      | then-not-evicted-via-else-not-evicted+then-automove-ne2 w ↦
          stored_in_mode c.args.self.now _ _ _ c.args.class c.args.key (words_of_new c.args.words) c.in-Some.chunk
          c.in_ok-evicted.ensures.after refl c.in_ok-put-in-Some.ensures.put head
          (sym c.in_ok-evicted.ensures.evicted ∙ w.if-not-evicted.false)
          (λ two. w.if-automove-ne2.true (w.automove.ensures.mode ∙ ap (λ (m : Machine). m.slabs.automove) c.self-in-Some.view_is ∙ two))
      | then-not-evicted-via-then-not-evicted w ↦
          stored_quietly c.args.self.now _ _ _ c.args.class c.args.key (words_of_new c.args.words) c.in-Some.chunk
          c.in_ok-evicted.ensures.after refl c.in_ok-put-in-Some.ensures.put head
          (sym c.in_ok-evicted.ensures.evicted ∙ w.if-not-evicted.true)
    ]

-- nothing was stored in the chunk
pub returns-in_err-put-in-Some-clause-refused : goal.returns-in_err-put-in-Some-clause-refused
returns-in_err-put-in-Some-clause-refused c =
    let p = err_from_is_err_and c.from_residual-in_err-put-in-Some.result c.from_residual-in_err-put-in-Some.ensures.1 in
    rw p.1 (1, omega arith, sym (c.in_err-put-in-Some.ensures.refused ∙ c.in_ok-evicted.ensures.after))
