use Rattle.std.proofs.Common.{sym, ◌∙◌}
use Rattle.std.specs.Slots.{slots_counts, slots_items}
use Rattle.mc_words.proofs.Rules.Quiet.{has_number}
use Rattle.mc_words.proofs.Rules.Ends.{closes, lists}
use Rattle.mc_words.proofs.arena.Arena.close.Goals as goal

pub invariant_of-result : goal.invariant_of-result
invariant_of-result c =
    let a = c.args.self in
    let closed = c.close_with.result in
    let told = c.close_with.ensures in (
      told.values.0,
      told.values.1,
      record {
        wide = sym (slots_counts closed.words).0 ∙ (told.counts.0 ∙ a.words);
        small = a.small;
        locks = sym (slots_counts closed.slots).0 ∙ (told.counts.1 ∙ a.slots);
        slabs = lists a.table.shared.key a.plan a.planned c.args.hand.seat.id c.args.hand.seat.me.0 (slots_items closed.words) (slots_items closed.slots) told.values.2;
      },
      a.places.1,
      a.counts.0,
    )

pub returns : goal.returns
returns c =
    let a = c.args.self in
    let closed = c.close_with.result in
    let arena = c.requires.arena in
    record { closes = closes a.table.shared.key a.plan a.planned c.args.hand.seat.id c.args.hand.seat.me.0 (slots_items closed.words) (slots_items closed.slots) c.close_with.ensures.values.2 (has_number _ arena.lawful) arena.setup }
