-- How lists and tag change together at each step that moves a chunk from one list to another.
use Rattle.std.proofs.Common.{◌≡◌, ◌≢◌, ℕ, ◌+◌, ◌<◌, ◌≤◌, ◌&&◌, Bool, true, false, List, [], ◌∷◌, ◌++◌, Option, Some, if◌then◌else◌, refl, sym, ap, ap₂, ◌∙◌, inl, inr, arith, eq-eqb, ne_eqb, lt-ltb, le-ltb, nat_lt, slice_get}
use Rattle.std.proofs.lemmas.Bool.{and_parts, and_from, and_left, and_right, cases_eq, cases_lt, both_ways, false_from_ne_true}
use Rattle.mc_pages.specs.declared.ids.ChunkId.{ChunkId}
use Rattle.mc_pages.specs.Ledger.{owner_at}
use Rattle.mc_pages.specs.ClassState.{ClassState, is_chunk, times_in, without, put_back, class_after_replacement, class_after_clear, with_cut}
use Rattle.mc_pages.specs.SlabState.{SlabState, HasClass, class_at, class_of_page}
use Rattle.mc_pages.specs.Changes.{with_class, next_uncut}
use Rattle.mc_pages.specs.Accounted.{truth, is_of_class, is_moving, is_cut, cut_count}
use Rattle.mc_pages.specs.InOrder.{IsBeingCut}
use Rattle.mc_pages.proofs.Chunks.{is_chunk-same, times-cons, times-push, times-without}
use Rattle.mc_pages.proofs.Lists.{times-with_before, without-absent}
use Rattle.mc_pages.proofs.Cleared.{truth-le_one}
use Rattle.mc_pages.proofs.CutNext.{next_uncut-last, next_uncut-more}
use Rattle.mc_pages.proofs.OneClass.{class_at-with_class_kept}
use Rattle.mc_pages.proofs.Owners.{is_of_class-class_of_owner, class_of_owner-is_of_class}
use Rattle.mc_pages.proofs.Redistributed.{is_cut-kept}
use Rattle.mc_core.specs.declared.head.Tag.{Tag}
use Rattle.mc_core.specs.declared.head.Tag.TheVariants.{Out, Free, Unlinked, Linked}
use Rattle.mc_core.specs.model.Head.{is_free}
use Rattle.mc_core.specs.model.State.{has_chunk}
use Rattle.mc_core.specs.model.Columns.{head_in}
use Rattle.mc_core.specs.law.Places.{ArePlaced}
use Rattle.mc_classes.specs.Classes.{Classes}
use Rattle.mc_core.specs.declared.head.Head.{Head}
use Rattle.mc_core.proofs.Places.SamePages.{is_in_hand}
use Rattle.mc_core.proofs.Places.PlacedWritten.{Changes, relisted}

free_not_in_hand : (tag : Tag) → is_free tag ≡ true → is_in_hand tag ≡ false
free_not_in_hand Out h = refl
free_not_in_hand Free h = refl
free_not_in_hand Unlinked h = absurd (cc)
free_not_in_hand Linked h = absurd (cc)

in_hand_not_free : (tag : Tag) → is_in_hand tag ≡ true → is_free tag ≡ false
in_hand_not_free Out h = refl
in_hand_not_free Free h = absurd (cc)
in_hand_not_free Unlinked h = refl
in_hand_not_free Linked h = refl

-- a list without one of its chunks
without_it : (chunk : ChunkId) (chunks : List ChunkId) → times_in chunk chunks ≤ 1 → times_in chunk (without chunk chunks) ≡ 0
without_it chunk chunks once = elim (cases_lt (times_in chunk chunks) 1) [
  | inl absent ↦ ap (times_in chunk) (without-absent chunk chunks (omega arith)) ∙ omega arith
  | inr there ↦ let one : truth (is_chunk chunk chunk) ≡ 1 = ap truth (is_chunk-same chunk) in omega (arith, times-without chunk chunk chunks there, one)
]

-- has the others as often
without_others : (chunk other : ChunkId) (chunks : List ChunkId) → is_chunk chunk other ≡ false → times_in other (without chunk chunks) ≡ times_in other chunks
without_others chunk other chunks apart = elim (cases_lt (times_in chunk chunks) 1) [
  | inl absent ↦ ap (times_in other) (without-absent chunk chunks (omega arith))
  | inr there ↦ let none : truth (is_chunk chunk other) ≡ 0 = ap truth apart in omega (arith, times-without other chunk chunks there, none)
]

-- a list with one more chunk at its head
more_others : (chunk other : ChunkId) (chunks : List ChunkId) → is_chunk chunk other ≡ false → times_in other (chunk ∷ chunks) ≡ times_in other chunks
more_others chunk other chunks apart = let none : truth (is_chunk chunk other) ≡ 0 = ap truth apart in omega (arith, times-cons other chunk chunks, none)

more_it : (chunk : ChunkId) (chunks : List ChunkId) → times_in chunk (chunk ∷ chunks) ≡ times_in chunk chunks + 1
more_it chunk chunks = let one : truth (is_chunk chunk chunk) ≡ 1 = ap truth (is_chunk-same chunk) in omega (arith, times-cons chunk chunk chunks, one)

-- what the next free chunk says of the list
pub first_is : (chunks : List ChunkId) (chunk : ChunkId) → slice_get chunks 0 ≡ Some chunk → (rest : List ChunkId) × (chunks ≡ chunk ∷ rest)
first_is [] chunk h = absurd (cc)
first_is (c ∷ rest) chunk h = let same : c ≡ chunk = (cc) in (rest, ap (λ (x : ChunkId). x ∷ rest) same)

-- each chunk is cut as before where the uncut one stays
same_cuts : (slabs : SlabState) (class : ℕ) (state : ClassState) → HasClass slabs class → state.per_page ≡ (class_at slabs class).per_page → (c : ℕ) (other : ChunkId) → HasClass slabs c →
    is_cut (relisted slabs class state slabs.uncut) c other ≡ is_cut slabs c other
same_cuts slabs class state is size c other here =
    is_cut-kept slabs (with_class slabs class state) c other refl refl (class_at-with_class_kept (λ s. s.per_page) slabs class c state is here.0 size)

module _ (table : Classes) (slabs : SlabState) (heads : List Head) (placed : ArePlaced table slabs heads) where
  abbrev tag_of_chunk : ChunkId → Tag
  tag_of_chunk chunk = (head_in table heads chunk).tag

  module _ (class : ℕ) (chunk : ChunkId) (is : HasClass slabs class) (here : has_chunk table chunk ≡ true) (cut : is_cut slabs class chunk ≡ true) where
    free_count : (b : Bool) → is_free (tag_of_chunk chunk) ≡ b → times_in chunk (class_at slabs class).free ≡ truth b
    free_count b e = placed.free class chunk is ∙ ap₂ (λ x y. truth (x && y)) cut e

    order_count : (b : Bool) → is_in_hand (tag_of_chunk chunk) ≡ b → times_in chunk (class_at slabs class).order ≡ truth b
    order_count b e = placed.order class chunk is ∙ ap₂ (λ x y. truth (x && y)) cut e

    of_class : is_of_class class (owner_at slabs.owners chunk.page) ≡ true
    of_class = (and_parts _ _ cut).0

    -- the head of the free list goes to the back of the order
    pub pop_lists : (rest : List ChunkId) → (class_at slabs class).free ≡ chunk ∷ rest → is_free (tag_of_chunk chunk) ≡ true →
        Changes table slabs class (record (class_at slabs class) { free = rest; order = (class_at slabs class).order ++ chunk ∷ [] }) slabs.uncut chunk Unlinked
    pop_lists rest split free =
        let was = class_at slabs class in
        let state : ClassState = record was { free = rest; order = was.order ++ chunk ∷ [] } in
        let one : truth (is_chunk chunk chunk) ≡ 1 = ap truth (is_chunk-same chunk) in
        record {
          here = here;
          is = is;
          own = of_class;
          size = refl;
          free = λ other apart. sym (more_others chunk other rest apart) ∙ sym (ap (times_in other) split);
          order = λ other apart. let none : truth (is_chunk chunk other) ≡ 0 = ap truth apart in omega (arith, times-push other chunk was.order, none);
          cut = λ c other there apart. same_cuts slabs class state is refl c other there;
          now_cut = same_cuts slabs class state is refl class chunk is ∙ cut;
          now_free =
              let list : times_in chunk was.free ≡ times_in chunk (chunk ∷ rest) = ap (times_in chunk) split in
              let count : times_in chunk was.free ≡ 1 = free_count true free in omega (arith, list, count, more_it chunk rest);
          now_order = let none : times_in chunk was.order ≡ 0 = order_count false (free_not_in_hand (tag_of_chunk chunk) free) in omega (arith, times-push chunk chunk was.order, one, none);
          moving = λ out. absurd (let no : ◌≡◌ {A = Tag} Unlinked Out = out in cc);
        }

    -- a free chunk takes the place of a handed-out one
    pub replace_lists : (old : ChunkId) → 1 ≤ times_in old (class_at slabs class).order → is_free (tag_of_chunk chunk) ≡ true → Changes table slabs class (class_after_replacement (class_at slabs class) chunk old) slabs.uncut chunk Unlinked
    replace_lists old handed free =
        let was = class_at slabs class in
        let state : ClassState = class_after_replacement was chunk old in
        let one : truth (is_chunk chunk chunk) ≡ 1 = ap truth (is_chunk-same chunk) in
        record {
          here = here;
          is = is;
          own = of_class;
          size = refl;
          free = λ other apart. without_others chunk other was.free apart;
          order = λ other apart. let none : truth (is_chunk chunk other) ≡ 0 = ap truth apart in omega (arith, times-with_before other chunk old was.order handed, none);
          cut = λ c other there apart. same_cuts slabs class state is refl c other there;
          now_cut = same_cuts slabs class state is refl class chunk is ∙ cut;
          now_free = let count : times_in chunk was.free ≡ 1 = free_count true free in without_it chunk was.free (omega arith);
          now_order = let none : times_in chunk was.order ≡ 0 = order_count false (free_not_in_hand (tag_of_chunk chunk) free) in omega (arith, times-with_before chunk chunk old was.order handed, one, none);
          moving = λ out. absurd (let no : ◌≡◌ {A = Tag} Unlinked Out = out in cc);
        }

    -- a handed-out chunk goes to the head of the free list
    pub back_lists : is_in_hand (tag_of_chunk chunk) ≡ true → Changes table slabs class (put_back (class_at slabs class) chunk) slabs.uncut chunk Free
    back_lists out =
        let was = class_at slabs class in
        let state : ClassState = put_back was chunk in
        record {
          here = here;
          is = is;
          own = of_class;
          size = refl;
          free = λ other apart. more_others chunk other was.free apart;
          order = λ other apart. without_others chunk other was.order apart;
          cut = λ c other there apart. same_cuts slabs class state is refl c other there;
          now_cut = same_cuts slabs class state is refl class chunk is ∙ cut;
          now_free = let none : times_in chunk was.free ≡ 0 = free_count false (in_hand_not_free (tag_of_chunk chunk) out) in omega (arith, more_it chunk was.free, none);
          now_order = let count : times_in chunk was.order ≡ 1 = order_count true out in without_it chunk was.order (omega arith);
          moving = λ none. absurd (let no : ◌≡◌ {A = Tag} Free Out = none in cc);
        }

    -- a chunk of the moving page leaves its list
    pub clear_lists : is_moving (owner_at slabs.owners chunk.page) ≡ true → Changes table slabs class (class_after_clear (class_at slabs class) chunk) slabs.uncut chunk Out
    clear_lists moves =
        let was = class_at slabs class in
        let state : ClassState = class_after_clear was chunk in
        record {
          here = here;
          is = is;
          own = of_class;
          size = refl;
          free = λ other apart. without_others chunk other was.free apart;
          order = λ other apart. without_others chunk other was.order apart;
          cut = λ c other there apart. same_cuts slabs class state is refl c other there;
          now_cut = same_cuts slabs class state is refl class chunk is ∙ cut;
          now_free = let count = free_count (is_free (tag_of_chunk chunk)) refl in without_it chunk was.free (omega (arith, count, truth-le_one (is_free (tag_of_chunk chunk))));
          now_order = let count = order_count (is_in_hand (tag_of_chunk chunk)) refl in without_it chunk was.order (omega (arith, count, truth-le_one (is_in_hand (tag_of_chunk chunk))));
          moving = λ out. moves;
        }

-- so many chunks of a page are cut while this one is the lowest uncut
uncut_here : (chunk : ChunkId) (per_page : ℕ) → cut_count (Some chunk) chunk.page per_page ≡ chunk.index
uncut_here chunk per_page = ap (λ b. if b then chunk.index else per_page) (eq-eqb chunk.page chunk.page refl)

uncut_off : (chunk : ChunkId) (page per_page : ℕ) → chunk.page ≢ page → cut_count (Some chunk) page per_page ≡ per_page
uncut_off chunk page per_page apart = ap (λ b. if b then chunk.index else per_page) (ne_eqb chunk.page page apart)

-- one more is cut then
cut_here : (chunk : ChunkId) (per_page : ℕ) → chunk.index < per_page → cut_count (next_uncut per_page chunk) chunk.page per_page ≡ chunk.index + 1
cut_here chunk per_page within = elim (cases_lt (chunk.index + 1) per_page) [
  | inl more ↦
      ap (λ (o : Option ChunkId). cut_count o chunk.page per_page) (next_uncut-more per_page chunk more)
      ∙ uncut_here (record { page = chunk.page; index = chunk.index + 1 }) per_page
  | inr last ↦ ap (λ (o : Option ChunkId). cut_count o chunk.page per_page) (next_uncut-last per_page chunk last) ∙ omega arith
]

cut_off : (chunk : ChunkId) (own page per_page : ℕ) → chunk.page ≢ page → cut_count (next_uncut own chunk) page per_page ≡ per_page
cut_off chunk own page per_page apart = elim (cases_lt (chunk.index + 1) own) [
  | inl more ↦ ap (λ (o : Option ChunkId). cut_count o page per_page) (next_uncut-more own chunk more) ∙ uncut_off (record { page = chunk.page; index = chunk.index + 1 }) page per_page apart
  | inr last ↦ ap (λ (o : Option ChunkId). cut_count o page per_page) (next_uncut-last own chunk last)
]

-- another number is below one more as it was below
below_more : (i k : ℕ) → k ≢ i → nat_lt k (i + 1) ≡ nat_lt k i
below_more i k apart = elim (cases_lt k i) [
  | inl below ↦ lt-ltb k (i + 1) (omega arith) ∙ sym (lt-ltb k i below)
  | inr above ↦ le-ltb k (i + 1) (omega arith) ∙ sym (le-ltb k i above)
]

index_apart : (chunk other : ChunkId) → is_chunk chunk other ≡ false → other.page ≡ chunk.page → other.index ≢ chunk.index
index_apart chunk other apart page index = both_ways _ apart (and_from _ _ (eq-eqb chunk.page other.page (sym page)) (eq-eqb chunk.index other.index (sym index)))

-- any other chunk of the page is cut as before
cut_others : (chunk other : ChunkId) (per_page : ℕ) → chunk.index < per_page → is_chunk chunk other ≡ false →
    nat_lt other.index (cut_count (next_uncut per_page chunk) other.page per_page) ≡ nat_lt other.index (cut_count (Some chunk) other.page per_page)
cut_others chunk other per_page within apart = elim (cases_eq other.page chunk.page) [
  | inl same ↦
      let now : cut_count (next_uncut per_page chunk) other.page per_page ≡ chunk.index + 1 = ap (λ p. cut_count (next_uncut per_page chunk) p per_page) same ∙ cut_here chunk per_page within in
      let was : cut_count (Some chunk) other.page per_page ≡ chunk.index = ap (λ p. cut_count (Some chunk) p per_page) same ∙ uncut_here chunk per_page in
      ap (nat_lt other.index) now ∙ below_more chunk.index other.index (index_apart chunk other apart same) ∙ sym (ap (nat_lt other.index) was)
  | inr differs ↦
      let now = cut_off chunk per_page other.page per_page (λ e. differs (sym e)) in
      let was = uncut_off chunk other.page per_page (λ e. differs (sym e)) in
      ap (nat_lt other.index) (now ∙ sym was)
]

-- the lowest uncut chunk goes to the head of the free list
module _ (table : Classes) (slabs : SlabState) (heads : List Head) (placed : ArePlaced table slabs heads) (chunk : ChunkId) (here : has_chunk table chunk ≡ true) (next : slabs.uncut ≡ Some chunk) (on : IsBeingCut slabs chunk) where
  abbrev own : ℕ
  own = class_of_page slabs chunk.page

  abbrev was : ClassState
  was = class_at slabs own

  abbrev with_next : SlabState
  with_next = relisted slabs own (with_cut was chunk) (next_uncut was.per_page chunk)

  of_own : is_of_class own (owner_at slabs.owners chunk.page) ≡ true
  of_own = is_of_class-class_of_owner own (owner_at slabs.owners chunk.page) on.owned.0 refl

  -- it wasn't cut yet
  not_cut : is_cut slabs own chunk ≡ false
  not_cut =
      let count : cut_count slabs.uncut chunk.page was.per_page ≡ chunk.index = ap (λ (o : Option ChunkId). cut_count o chunk.page was.per_page) next ∙ uncut_here chunk was.per_page in
      and_right _ _ (ap (nat_lt chunk.index) count ∙ le-ltb chunk.index chunk.index (omega arith))

  own_size : (c : ℕ) → HasClass slabs c → (class_at with_next c).per_page ≡ (class_at slabs c).per_page
  own_size c there = class_at-with_class_kept (λ s. s.per_page) slabs own c (with_cut was chunk) on.owned there.0 refl

  -- of another class no chunk of the page is cut
  cut_of_other : (c : ℕ) (other : ChunkId) → c ≢ own → other.page ≡ chunk.page → is_of_class c (owner_at slabs.owners other.page) ≡ false
  cut_of_other c other differs same =
      false_from_ne_true _ (λ of. differs (sym (class_of_owner-is_of_class c (owner_at slabs.owners other.page) of) ∙ ap (λ p. class_of_page slabs p) same))

  others_cut : (c : ℕ) (other : ChunkId) → HasClass slabs c → is_chunk chunk other ≡ false → is_cut with_next c other ≡ is_cut slabs c other
  others_cut c other there apart =
      let of = is_of_class c (owner_at slabs.owners other.page) in
      let size = own_size c there in
      let uncut : nat_lt other.index (cut_count slabs.uncut other.page (class_at slabs c).per_page) ≡ nat_lt other.index (cut_count (Some chunk) other.page (class_at slabs c).per_page) =
      ap (λ (o : Option ChunkId). nat_lt other.index (cut_count o other.page (class_at slabs c).per_page)) next in
      elim (cases_eq c own) [
        | inl same ↦
            let sized : (class_at slabs c).per_page ≡ was.per_page = ap (λ n. (class_at slabs n).per_page) same in
            let now = ap (λ n. nat_lt other.index (cut_count (next_uncut was.per_page chunk) other.page n)) (size ∙ sized) in
            let before = ap (λ n. nat_lt other.index (cut_count (Some chunk) other.page n)) sized in
            ap (λ b. of && b) (now ∙ cut_others chunk other was.per_page on.within apart ∙ sym before ∙ sym uncut)
        | inr differs ↦ elim (cases_eq other.page chunk.page) [
          | inl page ↦ let none = cut_of_other c other differs page in and_left _ _ none ∙ sym (and_left _ _ none)
          | inr page ↦
              let now = cut_off chunk was.per_page other.page (class_at with_next c).per_page (λ e. page (sym e)) in
              let before = uncut_off chunk other.page (class_at slabs c).per_page (λ e. page (sym e)) in
              ap (λ b. of && b) (ap (nat_lt other.index) (now ∙ size ∙ sym before) ∙ sym uncut)
        ]
      ]

  pub cut_lists : Changes table slabs own (with_cut was chunk) (next_uncut was.per_page chunk) chunk Free
  cut_lists = record {
    here = here;
    is = on.owned;
    own = of_own;
    size = refl;
    free = λ other apart. more_others chunk other was.free apart;
    order = λ other apart. refl;
    cut = others_cut;
    now_cut =
        let size = own_size own on.owned in
        let count : cut_count (next_uncut was.per_page chunk) chunk.page (class_at with_next own).per_page ≡ chunk.index + 1 =
        ap (cut_count (next_uncut was.per_page chunk) chunk.page) size ∙ cut_here chunk was.per_page on.within in
        and_from _ _ of_own (ap (nat_lt chunk.index) count ∙ lt-ltb chunk.index (chunk.index + 1) (omega arith));
    now_free = let none : times_in chunk was.free ≡ 0 = placed.free own chunk on.owned ∙ ap truth (and_left _ _ not_cut) in omega (arith, more_it chunk was.free, none);
    now_order = placed.order own chunk on.owned ∙ ap truth (and_left _ _ not_cut);
    moving = λ out. absurd (let no : ◌≡◌ {A = Tag} Free Out = out in cc);
  }
