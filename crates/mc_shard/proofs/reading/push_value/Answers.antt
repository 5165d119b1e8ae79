use Rattle.std.proofs.Common.{◌≡◌, ◌+◌, ◌-◌, List, ◌++◌, ap, arith, drop, length, length-drop, replicate, subst, take, ◌∙◌, ℕ, IsOk}
use Rattle.std.proofs.lemmas.List.{length-take}
use Rattle.mc_packing.specs.Packing.{AreWords, bytes_of_words}
use Rattle.mc_words.specs.hand.Arenas.{view}
use Rattle.mc_items.specs.ItemRefs.{item_words}
use Rattle.mc_shard.proofs.Appended.{appended, front_kept, is_first}
use Rattle.mc_shard.proofs.WordsRead.{puts_value}
use Rattle.mc_shard.proofs.reading.push_value.Goals as goal

pub returns-in-Ok-clause-value : goal.returns-in-Ok-clause-value
returns-in-Ok-clause-value c = λ is.
    let ws : List ℕ = item_words (view c.args.hand.now) c.args.item.now in
    let begin : ℕ = c.len-old.result in
    let count : ℕ = c.in-Some.count in
    let items : List ℕ = c.reserve.new.list.items in
    let s : List ℕ = c.as_mut_slice.result.now in
    let place : ℕ = c.value_place.result in
    let same = c.value_len.ensures.reads.words in
    let ok : IsOk c.resize.result = c.resize.ensures.succeeds (omega (arith, c.in-Ok.ensures.ok, c.len-old.ensures)) in
    let len : c.resize.new.list.len ≡ begin + count = is_first c.resize.result c.resize.new.list.len (begin + count) c.reserve.new.list.len ok c.resize.ensures.len in
    let filled = is_first c.resize.result c.resize.new.list.items (take (begin + count) items ++ replicate (begin + count - c.reserve.new.list.len) 0) items ok c.resize.ensures.items in
    let here : length items ≡ begin = omega (arith, c.reserve.new.list.ok.0, c.len-old.ensures) in
    let long : length s ≡ c.resize.new.list.len = c.as_mut_slice.ensures.len in
    let front : take begin s ≡ items =
    ap (λ (l : List ℕ). take begin l) (c.as_mut_slice.ensures.value ∙ filled)
    ∙ front_kept items (replicate (begin + count - c.reserve.new.list.len) 0) begin (begin + count) here (omega arith) in
    let room : length (take (length s - begin) (drop begin s)) ≡ count = omega (arith, length-take (length s - begin) (drop begin s), length-drop begin s) in
    let bytes : c.write_value.new.room ≡ bytes_of_words count (drop place ws) = c.write_value.ensures.bytes ∙ (λ i. bytes_of_words (room i) (drop place (same i))) in
    let written : length c.write_value.new.room ≡ count = c.write_value.auto.room ∙ room in
    let fits : AreWords (drop place ws) = subst (λ (l : List ℕ). AreWords (drop place l)) same c.write_value.ensures.words in
    puts_value c.args.key.now ws count place c.value_place.ensures.place c.in-Some.ensures.looks fits c.args.into.now.items _
    (appended c.resize.new.list s c.write_value.new.room items begin long (omega arith) front here ∙ (λ i. c.reserve.ensures.items i ++ bytes i))
