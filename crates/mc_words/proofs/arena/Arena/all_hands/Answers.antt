use Rattle.std.proofs.Common.{◌≡◌, ℕ, ◌+◌, ◌-◌, zero, suc, [], ◌∷◌, ◌++◌, List, length, length-append, sym, ap, subst, ◌∙◌, arith}
use Rattle.mc_words.specs.declared.arena.Arena.{Arena}
use Rattle.mc_words.specs.declared.hand.Hand.{Hand}
use Rattle.mc_words.specs.hand.View.{Setup, new_view}
use Rattle.mc_words.specs.hand.Arenas.{setup_of}
use Rattle.mc_words.specs.hand.Hands.{AreHandsFrom}
use Rattle.mc_words.proofs.Hands.Splits.{hands_more, new_hand}
use Rattle.mc_words.proofs.arena.Arena.all_hands.Goals as goal

pub loop-number-init : goal.loop-number-init
loop-number-init c =
    let arena : Arena = c.args.self.now in
    let told = c.in_ok-all.ensures in
    let within_limit = c.hands-count.ensures.within_limit in
    let empty = told.items in (
      c.requires.arena,
      c.requires.first,
      (let e : length c.in_ok-all.all.items ≡ zero = ap length empty in omega arith),
      (let e = told.len in omega arith),
      within_limit.0,
      told.capacity,
      subst (AreHandsFrom arena 1) (sym empty) (record {}),
    )

pub make-hand-requires-clause-arena : goal.make-hand-requires-clause-arena
make-hand-requires-clause-arena c = c.loop-number.invariant.0

pub make-hand-requires-clause-first : goal.make-hand-requires-clause-first
make-hand-requires-clause-first c = c.loop-number.invariant.1

pub push_reserved-requires : goal.push_reserved-requires
push_reserved-requires c =
    let in_range = c.loop-number-test.true in
    let i = c.loop-number.invariant in
    let a = i.3 in let b = i.5 in omega arith

pub loop-number-preserved : goal.loop-number-preserved
loop-number-preserved c =
    let arena : Arena = c.args.self.now in
    let setup : Setup = setup_of arena in
    let in_range = c.loop-number-test.true in
    let i = c.loop-number.invariant in
    let told = c.push_reserved.ensures in
    let made = c.make-hand.ensures in
    let number : ℕ = c.loop-number.number in
    let items : List Hand = c.loop-number.all.items in
    let hand : Hand = c.make-hand.result in
    let long : length items + 1 ≡ number = i.2 in
    let more : length (items ++ hand ∷ []) ≡ length items + 1 = length-append items (hand ∷ []) in (
      made.arena.0,
      made.first ∙ ap (λ n. new_view setup 0 (setup.hands - n)) (omega arith),
      (let e : length c.push_reserved.new.self.items ≡ length (items ++ hand ∷ []) = ap length told.items in omega arith),
      (let e = told.len in let f = i.3 in omega arith),
      (omega arith),
      (let e = told.capacity in let f = i.5 in omega arith),
      subst (AreHandsFrom arena 1) (sym told.items) (hands_more arena 1 items hand i.6 made.arena.1 (made.made ∙ ap (λ n. new_view setup n 0) (omega arith))),
    )

pub returns : goal.returns
returns c =
    let arena : Arena = c.args.self.now in
    let setup : Setup = setup_of arena in
    let i = c.loop-number.invariant in
    let past = c.loop-number-test.false in
    let within_limit = c.hands-count.ensures.within_limit in
    let items : List Hand = c.loop-number.all.items in
    let first : Hand = c.loop-number.first in
    let is : c.insert.new.list.items ≡ first ∷ items = c.in_ok-insert.ensures.items in
    let count : c.hands-count.result ≡ setup.hands = c.hands-count.ensures.hands ∙ ap (λ (s : Setup). s.hands) (sym arena.planned) in
    let end : c.loop-number.number ≡ setup.hands = let e = i.4 in omega arith in
    let long : length items + 1 ≡ c.loop-number.number = i.2 in
    record {
      hands = (
        (let e : length c.insert.new.list.items ≡ suc (length items) = ap length is in omega arith),
        subst (AreHandsFrom arena 0) (sym is) (new_hand arena 0 first i.0 (i.1 ∙ ap (new_view setup 0) (omega arith)), i.6),
      );
    }
