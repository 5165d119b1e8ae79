-- The words of an item behind its key, stamp and length.
use Rattle.std.proofs.Common.{◌≡◌, ℕ, zero, suc, ◌+◌, ◌^◌, ◌<◌, ◌≤◌, List, [], ◌∷◌, ◌++◌, drop, take, length, slice_index, ap, subst, sym, ◌∙◌, arith}
use Rattle.std.proofs.lemmas.List.{append_assoc, take_more, take_all, get_or-drop, length-drop}
use Rattle.mc_pages.specs.declared.ids.ChunkId.{ChunkId}
use Rattle.mc_core.specs.declared.event.Step.TheVariants as step
use Rattle.mc_words.specs.hand.View.{OwnEvent, Setup, View, made}
use Rattle.mc_words.specs.hand.Views.{word_seen}
use Rattle.mc_core.specs.model.Holdings.{item_of}
use Rattle.mc_words.specs.declared.arena.Arena.{Arena}
use Rattle.mc_words.specs.declared.hand.Hand.{Hand}
use Rattle.mc_words.specs.hand.Arenas.{IsHandOf, view}
use Rattle.mc_words.specs.rule.Layout.{config_from, data_word, word_count}
use Rattle.mc_words.proofs.Items.WordReads.{item_found, word_near}
use Rattle.mc_items.specs.declared.refs.Ref.{Ref}
use Rattle.mc_items.specs.ItemRefs.{IsItemRef}
use Rattle.mc_items.specs.Reading.{reads_of, words_seen}

-- one word more is read
pub one_more : (item : List ℕ) (place word : ℕ) → 3 + place < length item → word ≡ slice_index item (3 + place) → take place (drop 3 item) ++ word ∷ [] ≡ take (place + 1) (drop 3 item)
one_more item place word in_range is =
    let long = length-drop 3 item in
    ap (λ w. take place (drop 3 item) ++ w ∷ []) (is ∙ sym (get_or-drop 3 item place 0)) ∙ sym (take_more (drop 3 item) place 0 (omega arith))

-- all are
pub all_read : (item : List ℕ) (count : ℕ) → length item ≤ 3 + count → take count (drop 3 item) ≡ drop 3 item
all_read item count most = let long = length-drop 3 item in take_all count (drop 3 item) (omega arith)

-- one read more
reads_more : (chunk : ChunkId) (place count : ℕ) → reads_of chunk place count ++ made [] (step.Word chunk (place + count)) ∷ [] ≡ reads_of chunk place (count + 1)
reads_more chunk place zero = ap (λ (at : ℕ). made [] (step.Word chunk at) ∷ []) (omega arith)
reads_more chunk place (suc count) =
    let next : place + suc count ≡ (place + 1) + count = omega arith in
    let more : suc (count + 1) ≡ suc count + 1 = omega arith in
    ap (λ (events : List OwnEvent). made [] (step.Word chunk place) ∷ events) (ap (λ (at : ℕ). reads_of chunk (place + 1) count ++ made [] (step.Word chunk at) ∷ []) next ∙ reads_more chunk (place + 1) count)
    ∙ ap (reads_of chunk place) more

pub one_read : (chunk : ChunkId) (place count : ℕ) (view : View) → word_seen chunk (place + count) (words_seen chunk place count view) ≡ words_seen chunk place (count + 1) view
one_read chunk place count view = ap (λ (events : List OwnEvent). record view { events = events }) (append_assoc view.events (reads_of chunk place count) (made [] (step.Word chunk (place + count)) ∷ []) ∙ ap (λ (more : List OwnEvent). view.events ++ more) (reads_more chunk place count))

-- an item stands in the arena's table, so none of its places is large
pub place_small : (arena : Arena) (hand : Hand) (item : Ref) (place : ℕ) → IsHandOf arena hand → IsItemRef (view hand) item → place < item.len → 3 + place < 2 ^ 63
place_small arena hand item place of is in_range =
    let ref = is.reference in
    let chunk = item.reference.chunk in
    let room = item.reference.room in
    let len = is.len in
    let known = ap length (item_found (view hand) chunk ref.holding ref.found) in
    let within : 3 + place < length (item_of ref.holding) = omega arith in
    let at : data_word (view hand).setup room chunk (3 + place) < config_from (view hand).setup = word_near (view hand) chunk room ref of.lawful (3 + place) within in
    let small : word_count (view hand).setup < 2 ^ 63 = subst (λ (s : Setup). word_count s < 2 ^ 63) (sym (of.setup ∙ arena.planned)) arena.small in
    omega arith
