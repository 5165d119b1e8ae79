use Rattle.std.proofs.Common.{ℕ, Ok, ap, sym, subst, ◌∙◌, inr}
use Rattle.mc_pages.specs.Changes.{HasNoPageFor}
use Rattle.mc_pages.specs.Eviction.{eviction_candidates}
use Rattle.mc_pages.specs.SlabState.{SlabState}
use Rattle.mc_words.specs.hand.View.{View}
use Rattle.mc_items.specs.Evicting.{FreesOne, LacksEntry}
use Rattle.mc_items.specs.Sources.{MakesFree, MakesNone}
use Rattle.mc_words.proofs.Hands.HandNumbers.{number_stays}
use Rattle.mc_items.proofs.Made.{made_by}
use Rattle.mc_items.proofs.Supplies.{if_error, if_some}
use Rattle.mc_items.proofs.supplying.make_free.Goals as goal

pub returns-in-Ok-true-clause-makes : goal.returns-in-Ok-true-clause-makes
returns-in-Ok-true-clause-makes c = c.grow_for.ensures.grows (c.in-Ok-true.is ∙ ap (λ b. Ok b) c.in-Ok-true.field-0-test)

pub returns-in-Ok-false-clause-makes : goal.returns-in-Ok-false-clause-makes
returns-in-Ok-false-clause-makes c =
    let none = c.grow_for.ensures.none (c.in-Ok-false.is ∙ ap (λ b. Ok b) c.in-Ok-false.field-0-test) in
    let number = number_stays c.args.hand.now c.grow_for.new.hand (ap (λ (v : View). v.row.ids) none.2) in
    let class = c.args.class in
    let view : View = c.args.hand.now.seat.me.0 in
    let slabs = c.args.held.now.shared in
    let now : View = c.evict_one.new.hand.seat.me.0 in
    let left = c.evict_one.new.slabs.shared in
    if_some (λ supply. FreesOne c.grow_for.new.hand.number class (eviction_candidates c.grow_for.new.held.shared class) supply c.grow_for.new.hand.seat.me.0 c.grow_for.new.held.shared now left) (λ supply. MakesFree c.args.hand.now.number class supply view slabs now left) c.evict_one.result
    (λ supply frees. made_by c.args.hand.now.number class supply view slabs now left none.0
    (subst (λ (p : ℕ × View × SlabState). FreesOne p.0 class (eviction_candidates p.2 class) supply p.1 p.2 now left) (λ k. (number k, none.2 k, none.1 k)) frees))
    c.evict_one.ensures.frees

pub returns-in-Ok-false-clause-none : goal.returns-in-Ok-false-clause-none
returns-in-Ok-false-clause-none c e =
    let none = c.grow_for.ensures.none (c.in-Ok-false.is ∙ ap (λ b. Ok b) c.in-Ok-false.field-0-test) in
    let number = number_stays c.args.hand.now c.grow_for.new.hand (ap (λ (v : View). v.row.ids) none.2) in
    let full = c.grow_for.ensures.full (c.in-Ok-false.is ∙ ap (λ b. Ok b) c.in-Ok-false.field-0-test) in
    let passes = c.evict_one.ensures.none e in
    subst (λ (p : ℕ × View × SlabState). MakesNone p.0 c.args.class p.1 p.2 c.evict_one.new.hand.seat.me.0 c.evict_one.new.slabs.shared) (λ k. (number k, none.2 k, none.1 k))
    (record { full = subst (λ (s : SlabState). HasNoPageFor s c.args.class) (sym none.1) full; passes = passes.0; alive = c.evict_one.ensures.alive e; same = passes.1 })

pub returns-in-Ok-false-clause-no_memory : goal.returns-in-Ok-false-clause-no_memory
returns-in-Ok-false-clause-no_memory c =
    let none = c.grow_for.ensures.none (c.in-Ok-false.is ∙ ap (λ b. Ok b) c.in-Ok-false.field-0-test) in
    let number = number_stays c.args.hand.now c.grow_for.new.hand (ap (λ (v : View). v.row.ids) none.2) in
    if_error c.evict_one.result
    (λ lacks. (inr (none.0, subst (λ (p : ℕ × View × SlabState). LacksEntry p.0 (eviction_candidates p.2 c.args.class) p.1 c.evict_one.new.hand.seat.me.0) (λ k. (number k, none.2 k, none.1 k)) lacks.0), lacks.1 ∙ none.1))
    c.evict_one.ensures.no_memory
