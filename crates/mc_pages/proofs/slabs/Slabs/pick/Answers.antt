use Rattle.std.proofs.Common.{◌≡◌, ◌+◌, ◌-◌, length, sym, ap, ◌∙◌, rules, tests, arith, find}
use Rattle.std.proofs.lemmas.Iterator.{YieldsList-from_range}
use Rattle.std.proofs.lemmas.Iterator.Consumers.{YieldsList-from_chain}
use Rattle.std.proofs.lemmas.Iterator.Search.{find_from_yields_List}
use Rattle.std.proofs.lemmas.Iterator.Adapters.{option_map_id}
use Rattle.mc_pages.specs.SlabState.{SlabState}
use Rattle.mc_pages.specs.Answer.{can_give, classes_in_turn}
use Rattle.mc_pages.specs.InOrder.{slabs_of}
use Rattle.mc_pages.proofs.Roomy.{same_state}
use Rattle.mc_pages.proofs.slabs.Slabs.pick.Goals as goal

pub overflow_add-self-inside : goal.overflow_add-self-inside
overflow_add-self-inside c =
    omega (arith, c.self.invariant.order.accounted.cursor.1, c.class_count-count.ensures.count, c.class_count-count.ensures.below, ap (λ (s : SlabState). length s.classes) (same_state c.self.view_is))

pub overflow_add-self-inside-2 : goal.overflow_add-self-inside-2
overflow_add-self-inside-2 c =
    omega (arith, c.self.invariant.order.accounted.cursor.1, c.class_count-count.ensures.count, c.class_count-count.ensures.below, ap (λ (s : SlabState). length s.classes) (same_state c.self.view_is))

pub returns : goal.returns
returns c =
    let slabs = slabs_of c.self.inside in
    let count : c.class_count-count.result ≡ length slabs.classes = c.class_count-count.ensures.count ∙ ap (λ (s : SlabState). length s.classes) (sym (same_state c.self.view_is)) in
    let first = YieldsList-from_range (slabs.cursor + 1) (c.class_count-count.result + 1) (length slabs.classes - slabs.cursor) c.chain.ensures.first (omega arith) in
    let second = YieldsList-from_range 1 (slabs.cursor + 1) slabs.cursor c.chain.ensures.second (omega arith) in
    let in_turn = YieldsList-from_chain first second c.chain.ensures.first_done c.chain.ensures.second_done in
    sym (option_map_id c.find.result)
    ∙ (find_from_yields_List (can_give c.args.self.now.state c.args.dst) _ _ _ c.find.ensures.ran in_turn (λ x b q k. search (rules, tests))
    ∙ ap (λ (s : SlabState). find (can_give c.args.self.now.state c.args.dst) (classes_in_turn s)) (same_state c.self.view_is))
