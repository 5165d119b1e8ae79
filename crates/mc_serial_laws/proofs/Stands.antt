-- The chunks that a worker holds, beside the keys and words that it was told of.
use Rattle.std.proofs.Common.{◌≡◌, ℕ, ◌≤◌, List, [], ◌∷◌, length, suc, Bool, true, false, cond, Option, Some, None, refl, ap, sym, ◌∙◌, arith}
use Rattle.std.specs.Prelude.{find, ◌==◌}
use Rattle.std.specs.Option.{option_map_or}
use Rattle.std.proofs.lemmas.Bool.{false≢true}
use Rattle.std.proofs.lemmas.Option.{none-some, same_Some}
use Rattle.mc_pages.specs.declared.ids.ChunkId.{ChunkId}
use Rattle.mc_pages.specs.Accounted.{truth}
use Rattle.mc_pages.specs.ClassState.{is_chunk, times_in, without}
use Rattle.mc_pages.proofs.Chunks.{is_chunk-same, same_from_is_chunk, times-cons}
use Rattle.mc_serial_spec.specs.Item.{Item}
use Rattle.mc_serial_spec.specs.Items.{Items, has_key, item_in_chunk}
use Rattle.mc_serial_laws.specs.Answered.{HeldWords, without_held}
use Rattle.mc_serial_laws.proofs.Lawful.{stored_as}

-- chunk after chunk, its item's key and words are these
abbrev pub Stand : Items → List ChunkId → List HeldWords → Type 0
Stand items [] [] = Unit {0}
Stand items [] (h ∷ held) = ⊥
Stand items (c ∷ chunks) [] = ⊥
Stand items (c ∷ chunks) (h ∷ held) = (stored_as items c ≡ Some h) × Stand items chunks held

-- other items in which each of these chunks stores the same
pub stand_on : (old new : Items) (chunks : List ChunkId) (held : List HeldWords)
    → ((c : ChunkId) → 1 ≤ times_in c chunks → stored_as new c ≡ stored_as old c) → Stand old chunks held → Stand new chunks held
stand_on old new [] [] same all = tt
stand_on old new [] (h ∷ held) same all = all
stand_on old new (c ∷ chunks) [] same all = all
stand_on old new (c ∷ chunks) (h ∷ held) same all = (
  same c (omega (arith, times-cons c c chunks, ap truth (is_chunk-same c))) ∙ all.0,
  stand_on old new chunks held (λ d there. same d (omega (arith, there, times-cons d c chunks))) all.1,
)

-- the test of a key, of what is stored
has_key-stored : (items : Items) (key : ℕ) (c : ChunkId) → has_key items key c ≡ option_map_or (λ (h : HeldWords). h.key == key) (stored_as items c) false
has_key-stored items key c = key_of (item_in_chunk items c) refl
  where
    key_of : (found : Option Item) → item_in_chunk items c ≡ found → has_key items key c ≡ option_map_or (λ (h : HeldWords). h.key == key) (stored_as items c) false
    key_of None is = rw is refl
    key_of (Some item) is = rw is refl

has_key-held : (items : Items) (key : ℕ) (c : ChunkId) (h : HeldWords) → stored_as items c ≡ Some h → has_key items key c ≡ (h.key == key)
has_key-held items key c h stands =
    has_key-stored items key c ∙ ap (λ (o : Option HeldWords). option_map_or (λ (h : HeldWords). h.key == key) o false) stands

-- both searches for the first of a key find none, or one stores what the other found
abbrev pub FindsSame : Items → Option ChunkId → Option HeldWords → Type 0
FindsSame items None None = Unit {0}
FindsSame items None (Some h) = ⊥
FindsSame items (Some c) None = ⊥
FindsSame items (Some c) (Some h) = stored_as items c ≡ Some h

pub finds_same : (items : Items) (key : ℕ) (chunks : List ChunkId) (held : List HeldWords) → Stand items chunks held
    → FindsSame items (find (has_key items key) chunks) (find (λ (h : HeldWords). h.key == key) held)
finds_same items key [] [] all = tt
finds_same items key [] (h ∷ held) all = absurd all
finds_same items key (c ∷ chunks) [] all = absurd all
finds_same items key (c ∷ chunks) (h ∷ held) all =
    find_step (h.key == key) refl (has_key-held items key c h all.0) (finds_same items key chunks held all.1)
  where
    find_step : (b : Bool) → (h.key == key) ≡ b → has_key items key c ≡ (h.key == key)
        → FindsSame items (find (has_key items key) chunks) (find (λ (h : HeldWords). h.key == key) held)
        → FindsSame items (find (has_key items key) (c ∷ chunks)) (find (λ (h : HeldWords). h.key == key) (h ∷ held))
    find_step true is same more = rw (same, is) all.0
    find_step false is same more = rw (same, is) more

-- the first of a key goes from both
pub stand_without : (items : Items) (key : ℕ) (chunk : ChunkId) (chunks : List ChunkId) (held : List HeldWords) → has_key items key chunk ≡ true
    → Stand items chunks held → find (has_key items key) chunks ≡ Some chunk → Stand items (without chunk chunks) (without_held key held)
stand_without items key chunk [] [] has all found = tt
stand_without items key chunk [] (h ∷ held) has all found = absurd all
stand_without items key chunk (c ∷ chunks) [] has all found = absurd all
stand_without items key chunk (c ∷ chunks) (h ∷ held) has all found =
    without_step (h.key == key) (is_chunk c chunk) refl refl (has_key-held items key c h all.0) found
    (λ below. stand_without items key chunk chunks held has all.1 below)
  where
    without_step : (b s : Bool) → (h.key == key) ≡ b → is_chunk c chunk ≡ s → has_key items key c ≡ (h.key == key)
        → find (has_key items key) (c ∷ chunks) ≡ Some chunk
        → (find (has_key items key) chunks ≡ Some chunk → Stand items (without chunk chunks) (without_held key held))
        → Stand items (without chunk (c ∷ chunks)) (without_held key (h ∷ held))
    without_step true true is one same found more = rw (is, one) all.1
    without_step true false is other same found more =
        let first : Some c ≡ Some chunk = rw (same, is) at found in
        let bad : is_chunk c chunk ≡ true = rw (← same_Some c chunk first) (is_chunk-same c) in
        absurd (false≢true (sym other ∙ bad))
    without_step false true is one same found more =
        let bad : has_key items key c ≡ true = rw (same_from_is_chunk c chunk one) has in
        absurd (false≢true (sym is ∙ sym same ∙ bad))
    without_step false false is other same found more = rw (is, other) (all.0, more (rw (same, is) at found))

-- what a search finds passes
pub finds_passing : (p : ChunkId → Bool) (chunks : List ChunkId) (chunk : ChunkId) → find p chunks ≡ Some chunk → p chunk ≡ true
finds_passing p [] chunk found = absurd (none-some chunk found)
finds_passing p (c ∷ chunks) chunk found = find_step (p c) refl found (finds_passing p chunks chunk)
  where
    find_step : (b : Bool) → p c ≡ b → cond b (Some c) (find p chunks) ≡ Some chunk → (find p chunks ≡ Some chunk → p chunk ≡ true) → p chunk ≡ true
    find_step true is first more = rw (← same_Some c chunk first) is
    find_step false is below more = more below

-- without one of its places no chunk stands more often in a list
pub times-without-le : (c chunk : ChunkId) (chunks : List ChunkId) → times_in c (without chunk chunks) ≤ times_in c chunks
times-without-le c chunk [] = omega arith
times-without-le c chunk (d ∷ chunks) = times_step (is_chunk d chunk) refl (times-without-le c chunk chunks)
  where
    times_step : (b : Bool) → is_chunk d chunk ≡ b → times_in c (without chunk chunks) ≤ times_in c chunks → times_in c (without chunk (d ∷ chunks)) ≤ times_in c (d ∷ chunks)
    times_step true is more = rw is (omega (arith, times-cons c d chunks))
    times_step false is more = rw is (omega (arith, more, times-cons c d chunks, times-cons c d (without chunk chunks)))

-- and the list is no longer
pub length-without-le : (chunk : ChunkId) (chunks : List ChunkId) → length (without chunk chunks) ≤ length chunks
length-without-le chunk [] = omega arith
length-without-le chunk (d ∷ chunks) = length_step (is_chunk d chunk) refl (length-without-le chunk chunks)
  where
    length_step : (b : Bool) → is_chunk d chunk ≡ b → length (without chunk chunks) ≤ length chunks → length (without chunk (d ∷ chunks)) ≤ length (d ∷ chunks)
    length_step true is more = rw is (omega arith)
    length_step false is more = rw is (omega (arith, more))

-- as many as it was told of
pub length-stand : (items : Items) (chunks : List ChunkId) (held : List HeldWords) → Stand items chunks held → length held ≡ length chunks
length-stand items [] [] all = refl
length-stand items [] (h ∷ held) all = absurd all
length-stand items (c ∷ chunks) [] all = absurd all
length-stand items (c ∷ chunks) (h ∷ held) all = ap suc (length-stand items chunks held all.1)
