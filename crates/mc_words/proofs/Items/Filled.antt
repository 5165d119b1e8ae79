-- Holdings that are filled are as many as before, and a fresh chunk stays one.
use Rattle.std.proofs.Common.{◌≡◌, ℕ, Bool, true, false, List, [], ◌∷◌, length, Option, Some, refl, ap, ◌∙◌, cond, length-set, if◌then◌else◌}
use Rattle.std.specs.Option.{option_map}
use Rattle.std.proofs.lemmas.List.{length-map}
use Rattle.std.proofs.lemmas.Option.{none-some}
use Rattle.mc_pages.specs.declared.ids.ChunkId.{ChunkId}
use Rattle.mc_core.specs.declared.holding.Holding.{Holding}
use Rattle.mc_core.specs.declared.holding.Kind.{Kind}
use Rattle.mc_core.specs.declared.holding.Kind.TheVariants.{Fresh, Reference}
use Rattle.mc_core.specs.model.Holdings.{holding_of, is_of_chunk, change_each, is_fresh_kind, words_of_kind}
use Rattle.mc_core.specs.run.Chunks.{holding_with_word, filled_kind}
use Rattle.mc_words.specs.hand.View.{View}
use Rattle.mc_words.specs.hand.Views.{word_filled}
use Rattle.mc_words.specs.item.Fresh.{IsFreshOf}

module _ (chunk : ChunkId) (place word : ℕ) where
  pub fill_holds : (holdings : List Holding) → length (change_each (is_of_chunk chunk) (holding_with_word place word) holdings) ≡ length holdings
  fill_holds holdings = length-map holdings (λ holding. if is_of_chunk chunk holding then holding_with_word place word holding else holding)

  -- what is found of the chunk is filled
  found_filled : (holdings : List Holding) (holding : Holding) → holding_of chunk holdings ≡ Some holding → holding_of chunk (change_each (is_of_chunk chunk) (holding_with_word place word) holdings) ≡ Some (holding_with_word place word holding)
  found_filled [] holding found = absurd (none-some holding found)
  found_filled (first ∷ holdings) holding found = by (is_of_chunk chunk first) refl found (found_filled holdings holding)
    where
      more : Option Holding
      more = holding_of chunk (change_each (is_of_chunk chunk) (holding_with_word place word) holdings)

      turned : Bool → Holding
      turned test = if test then holding_with_word place word first else first

      by : (test : Bool) → is_of_chunk chunk first ≡ test → cond test (Some first) (holding_of chunk holdings) ≡ Some holding → (holding_of chunk holdings ≡ Some holding → more ≡ Some (holding_with_word place word holding)) → cond (is_of_chunk chunk (turned (is_of_chunk chunk first))) (Some (turned (is_of_chunk chunk first))) more ≡ Some (holding_with_word place word holding)
      by true is found later =
          ap (λ (test : Bool). cond (is_of_chunk chunk (turned test)) (Some (turned test)) more) is
          ∙ (ap (λ (test : Bool). cond test (Some (holding_with_word place word first)) more) is ∙ ap (option_map (holding_with_word place word)) found)
      by false is found later =
          ap (λ (test : Bool). cond (is_of_chunk chunk (turned test)) (Some (turned test)) more) is
          ∙ (ap (λ (test : Bool). cond test (Some first) more) is ∙ later found)

  kind_fresh : (kind : Kind) → is_fresh_kind kind ≡ true → is_fresh_kind (filled_kind place word kind) ≡ true
  kind_fresh (Fresh purpose words) fresh = refl
  kind_fresh (Reference item) fresh = fresh

  kind_room : (kind : Kind) → length (words_of_kind (filled_kind place word kind)) ≡ length (words_of_kind kind)
  kind_room (Fresh purpose words) = length-set words place (Some word)
  kind_room (Reference item) = refl

  pub still_fresh : (view : View) (room : ℕ) → IsFreshOf view chunk room → IsFreshOf (word_filled chunk place word view) chunk room
  still_fresh view room fresh = record {
    holding = holding_with_word place word fresh.holding;
    found = found_filled view.row.holdings fresh.holding fresh.found;
    fresh = kind_fresh fresh.holding.kind fresh.fresh;
    room_is = kind_room fresh.holding.kind ∙ fresh.room_is;
  }
