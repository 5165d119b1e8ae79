use Rattle.std.proofs.Common.{◌≡◌, ◌∙◌, ℕ, ◌+◌, ◌/◌, ◌%◌, List, ◌∷◌, [], ◌++◌, true, eqb-true, refl, sym, subst, inl, inr, arith, lt-ltb}
use Rattle.std.proofs.lemmas.Bool.{and_from, cases_eq}
use Rattle.mc_classes.specs.Classes.{arena_pages_of}
use Rattle.mc_pages.proofs.Cuts.{chunk_at}
use Rattle.mc_core.specs.model.Head.{decode}
use Rattle.mc_core.specs.model.Looks.{is_found_alive}
use Rattle.mc_core.specs.model.State.{most_of}
use Rattle.mc_core.specs.declared.look.Look.{Look}
use Rattle.mc_core.specs.declared.look.Look.TheVariants.{Saw}
use Rattle.mc_words.specs.hand.Arenas.{setup_of, view}
use Rattle.mc_words.specs.chunk.Dead.{IsAliveOrNoted}
use Rattle.mc_words.specs.chunk.Sweeps.{LooksAlong}
use Rattle.mc_words.proofs.Chunks.Judging.{after_slabs, odd_alive}
use Rattle.mc_words.proofs.Chunks.Sweeps.{chunk_alive}
use Rattle.mc_words.proofs.Pages.Judged.{alive_still, both_odd, looks_more, not_outside, other_kept}
use Rattle.mc_words.proofs.Pages.LookedOver.{looks_fewer, looks_next}
use Rattle.mc_words.proofs.arena.Arena.are_linked_or_free.Goals as goal

pub head_at-common-requires-clause-in_range : goal.head_at-common-requires-clause-in_range
head_at-common-requires-clause-in_range c =
    let table = (setup_of c.args.self.now).table in
    let page = c.requires.page in
    let most = c.requires.most in
    let below = c.loop-offset-test.true in
    and_from _ _ (lt-ltb c.args.first.page (arena_pages_of table) page) (lt-ltb (c.args.first.index + c.loop-offset.offset) (most_of table) (omega (arith, most, below)))

pub head_at-common-requires-clause-word : goal.head_at-common-requires-clause-word
head_at-common-requires-clause-word c = sym (c.requires.words (c.args.first.index + c.loop-offset.offset))

pub loop-offset-preserved : goal.loop-offset-preserved
loop-offset-preserved c =
    let inv = c.loop-offset.invariant in
    let page = c.args.first.page in
    let from = c.args.first.index in
    let offset = c.loop-offset.offset in
    let chunk = chunk_at page (from + offset) in
    let below = c.loop-offset-test.true in
    let was = view c.loop-offset.hand in
    let now = view c.head_at-common.new.hand in
    let look = c.head_at-common.ensures in
    let head = decode c.head_at-common.result in
    let more = looks_more was now chunk c.head_at-common.result c.args.held.now.shared inv.held look.seen in record {
      arena = look.arena;
      locks = look.locks ∙ inv.locks;
      held = after_slabs was now now c.args.held.now.shared chunk head inv.held look.seen look.happens;
      sees = subst (λ (n : ℕ). LooksAlong page from n (view c.args.hand.now) now) (omega arith)
          (looks_next page from (from + offset) (view c.args.hand.now) was now inv.sees (record { head = head; happens = look.happens; is = look.seen }));
      alive = λ odd index past within.
          let both = both_odd c.loop-offset.common c.head_at-common.result odd in
          let alive = odd_alive c.head_at-common.result both.1 in
          subst (λ (looks : List Look). is_found_alive looks (chunk_at page index) ≡ true) (sym more) (elim (cases_eq index (from + offset)) [
            | inl same ↦ subst (λ (n : ℕ). is_found_alive (was.row.looks ++ Saw chunk head ∷ []) (chunk_at page n) ≡ true) (sym same) (chunk_alive was.row.looks chunk head alive)
            | inr apart ↦ alive_still was.row.looks chunk head alive (chunk_at page index) (inv.alive both.0 index past (omega (arith, within, apart)))
          ]);
      kept = λ dead other outside judged. subst (λ (looks : List Look). IsAliveOrNoted looks dead other) (sym more)
          (other_kept was.row.looks chunk head dead other (λ same. not_outside page from (from + 4) other chunk same refl (omega arith) (omega (arith, below)) outside) (inv.kept dead other outside judged));
    }

pub returns-clause-sees : goal.returns-clause-sees
returns-clause-sees c =
    let from = c.args.first.index in
    let end = c.loop-offset-test.false in
    looks_fewer c.args.first.page from (from + c.loop-offset.offset) (from + 4) (view c.args.hand.now) (view c.loop-offset.hand) (omega (arith, end)) c.loop-offset.invariant.sees

pub returns-clause-alive : goal.returns-clause-alive
returns-clause-alive c is index past below = let end = c.loop-offset-test.false in c.loop-offset.invariant.alive (eqb-true (c.loop-offset.common / 65536 % 2) 1 is) index past (omega (arith, below, end))
