use Rattle.std.proofs.Common.{◌∙◌, ℕ, ◌+◌, sym, subst, inl, inr, arith, lt-ltb}
use Rattle.std.proofs.lemmas.Bool.{and_from, cases_eq}
use Rattle.mc_classes.specs.Classes.{arena_pages_of}
use Rattle.mc_core.specs.model.State.{most_of}
use Rattle.mc_words.specs.hand.Arenas.{setup_of, view}
use Rattle.mc_words.specs.chunk.Dead.{IsAliveOrNoted}
use Rattle.mc_words.specs.chunk.Sweeps.{LooksAlong}
use Rattle.mc_words.proofs.Pages.LookedOver.{looks_next}
use Rattle.mc_words.proofs.arena.Arena.look_from.Goals as goal

pub judge-requires-clause-in_range : goal.judge-requires-clause-in_range
judge-requires-clause-in_range c =
    let table = (setup_of c.args.self.now).table in
    let page = c.requires.page in
    let most = c.requires.most in
    let below = c.loop-offset-test.true in
    and_from _ _ (lt-ltb c.args.first.page (arena_pages_of table) page) (lt-ltb (c.args.first.index + c.loop-offset.offset) (most_of table) (omega (arith, most, below)))

pub judge-requires-clause-word : goal.judge-requires-clause-word
judge-requires-clause-word c = sym (c.requires.words (c.args.first.index + c.loop-offset.offset))

pub loop-offset-preserved : goal.loop-offset-preserved
loop-offset-preserved c =
    let inv = c.loop-offset.invariant in
    let page = c.args.first.page in
    let from = c.args.first.index in
    let offset = c.loop-offset.offset in
    let next = view c.judge.new.hand in record {
      arena = c.judge.ensures.arena;
      locks = c.judge.ensures.locks ∙ inv.locks;
      held = c.judge.ensures.held;
      out = c.judge.ensures.out;
      sees = subst (λ (n : ℕ). LooksAlong page from n (view c.args.hand.now) (view c.judge.new.hand)) (omega arith)
          (looks_next page from (from + offset) (view c.args.hand.now) (view c.loop-offset.hand) (view c.judge.new.hand) inv.sees c.judge.ensures.sees);
      judged = λ other past below. elim (cases_eq other (from + offset)) [
        | inl same ↦ subst (λ (n : ℕ). IsAliveOrNoted next.row.looks c.judge.new.dead (record { page = page; index = n })) (sym same) c.judge.ensures.judged
        | inr apart ↦ c.judge.ensures.kept (record { page = page; index = other }) (inv.judged other past (omega (arith, below, apart)))
      ];
      kept = λ other judged. c.judge.ensures.kept other (inv.kept other judged);
    }

pub returns-clause-judged : goal.returns-clause-judged
returns-clause-judged c index past below = let end = c.loop-offset-test.false in c.loop-offset.invariant.judged index past (omega (arith, below, end))
