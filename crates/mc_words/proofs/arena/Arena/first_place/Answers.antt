use Rattle.std.proofs.Common.{ℕ, ◌<◌, ap, subst, length, arith}
use Rattle.mc_words.specs.hand.View.{Setup}
use Rattle.mc_words.specs.item.Items.{held_item}
use Rattle.mc_words.specs.rule.Layout.{data_word, config_from}
use Rattle.mc_words.proofs.Items.References.{ref_whole}
use Rattle.mc_words.proofs.Items.WordReads.{item_found, word_near}
use Rattle.mc_words.proofs.arena.Arena.first_place.Goals as goal

pub data_word-requires : goal.data_word-requires
data_word-requires c =
    let ref = c.requires.reference in
    let arena = c.requires.arena in
    let view = c.args.hand.now.seat.me.0 in
    let chunk = c.args.reference.now.chunk in
    let room = c.args.reference.now.room in
    let whole = ref_whole view arena.lawful chunk room ref in
    let some : 0 < length (held_item view chunk) = omega arith in
    let in_range = subst (λ (n : ℕ). 0 < n) (ap length (item_found view chunk ref.holding ref.found)) some in
    record { in_range = subst (λ (s : Setup). data_word s room chunk 0 < config_from s) arena.setup (word_near view chunk room ref arena.lawful 0 in_range) }
