use Rattle.std.proofs.Common.{◌≡◌, ◌≤◌, drop, take}
use Rattle.mc_words.specs.hand.Arenas.{IsHandOf, view}
use Rattle.mc_words.specs.item.Items.{held_item}
use Rattle.mc_items.specs.Reading.{words_seen}
use Rattle.mc_items.proofs.reading.read.Given as goal

abbrev pub invariant-loop-place : goal.invariant-loop-place
invariant-loop-place l =
    IsHandOf l.arena l.hand × (l.hand.locks ≡ l.fn.hand.locks) × (view l.hand ≡ words_seen l.item.reference.chunk 3 l.place (view l.fn.hand))
    × (l.item.len ≤ l.words.cap) × (l.words.items ≡ take l.place (drop 3 (held_item (view l.fn.hand) l.item.reference.chunk)))
