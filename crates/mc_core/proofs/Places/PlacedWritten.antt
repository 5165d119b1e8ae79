-- Chunks keep their places where one header is written and its chunk changes its list.
use Rattle.std.proofs.Common.{◌≡◌, ◌≢◌, ℕ, ◌*◌, ◌&&◌, Bool, true, false, List, length, slice_set, Option, refl, sym, ap, ap₂, subst, ◌∙◌, inl, inr, arith}
use Rattle.std.proofs.lemmas.Bool.{and_left, cases_Bool, cases_eq, both_ways, false_from_ne_true}
use Rattle.mc_classes.specs.Classes.{Classes, arena_pages_of}
use Rattle.mc_pages.specs.declared.ids.ChunkId.{ChunkId}
use Rattle.mc_pages.specs.Ledger.{owner_at}
use Rattle.mc_pages.specs.ClassState.{ClassState, is_chunk, times_in}
use Rattle.mc_pages.specs.SlabState.{SlabState, HasClass, class_at, class_of_page}
use Rattle.mc_pages.specs.Changes.{with_class}
use Rattle.mc_pages.specs.Accounted.{truth, is_of_class, is_moving, is_cut, IsAccounted}
use Rattle.mc_pages.proofs.Chunks.{same_from_is_chunk}
use Rattle.mc_pages.proofs.OneClass.{length-with_class, class_at-with_class_same, class_at-with_class_other, class_at-with_class_kept}
use Rattle.mc_pages.proofs.Owners.{class_of_owner-is_of_class}
use Rattle.mc_core.specs.declared.head.Head.{Head}
use Rattle.mc_core.specs.declared.head.Tag.{Tag}
use Rattle.mc_core.specs.declared.head.Tag.TheVariants.{Out}
use Rattle.mc_core.specs.model.Head.{is_free}
use Rattle.mc_core.specs.model.State.{has_chunk, head_place, most_of}
use Rattle.mc_core.specs.model.Columns.{head_in}
use Rattle.mc_core.specs.law.Places.{ArePlaced, is_cut_there}
use Rattle.mc_core.proofs.Steps.Base.{head_written, head_other}
use Rattle.mc_core.proofs.Places.SamePages.{is_in_hand, cut_there, cut_there_from}

-- the class's lists with another uncut chunk
abbrev pub relisted : SlabState → ℕ → ClassState → Option ChunkId → SlabState
relisted slabs class state uncut = record (with_class slabs class state) { uncut = uncut }

-- a chunk of the class gets this tag, and changes its list as the tag says; all others stay in theirs
pub record Changes (table : Classes) (slabs : SlabState) (class : ℕ) (state : ClassState) (uncut : Option ChunkId) (chunk : ChunkId) (tag : Tag) : Type 0 where
  pub here : has_chunk table chunk ≡ true
  pub is : HasClass slabs class
  pub own : is_of_class class (owner_at slabs.owners chunk.page) ≡ true
  pub size : state.per_page ≡ (class_at slabs class).per_page
  pub free : (other : ChunkId) → is_chunk chunk other ≡ false → times_in other state.free ≡ times_in other (class_at slabs class).free
  pub order : (other : ChunkId) → is_chunk chunk other ≡ false → times_in other state.order ≡ times_in other (class_at slabs class).order
  pub cut : (c : ℕ) (other : ChunkId) → HasClass slabs c → is_chunk chunk other ≡ false → is_cut (relisted slabs class state uncut) c other ≡ is_cut slabs c other
  pub now_cut : is_cut (relisted slabs class state uncut) class chunk ≡ true
  pub now_free : times_in chunk state.free ≡ truth (is_free tag)
  pub now_order : times_in chunk state.order ≡ truth (is_in_hand tag)
  pub moving : tag ≡ Out → is_moving (owner_at slabs.owners chunk.page) ≡ true

same_truth : (cut a b : Bool) → (cut ≡ true → a ≡ b) → truth (cut && a) ≡ truth (cut && b)
same_truth true a b same = ap truth (same refl)
same_truth false a b same = refl

module _ (table : Classes) (slabs : SlabState) (heads : List Head) (class : ℕ) (state : ClassState) (uncut : Option ChunkId) (chunk : ChunkId) (head : Head)
    (all : IsAccounted slabs)
    (placed : ArePlaced table slabs heads)
    (long : length heads ≡ arena_pages_of table * most_of table)
    (in_range : (c : ℕ) (other : ChunkId) → HasClass slabs c → is_cut slabs c other ≡ true → has_chunk table other ≡ true)
    (change : Changes table slabs class state uncut chunk head.tag) where
  abbrev now : SlabState
  now = relisted slabs class state uncut

  abbrev written : List Head
  written = slice_set heads (head_place table chunk) head

  was_class : (c : ℕ) → HasClass now c → HasClass slabs c
  was_class c is = (is.0, omega (arith, is.1, length-with_class slabs class state))

  tag_here : (head_in table written chunk).tag ≡ head.tag
  tag_here = ap (λ (h : Head). h.tag) (head_written table heads chunk head long change.here)

  tag_else : (other : ChunkId) → has_chunk table other ≡ true → is_chunk chunk other ≡ false → (head_in table written other).tag ≡ (head_in table heads other).tag
  tag_else other there apart = ap (λ (h : Head). h.tag) (head_other table heads chunk other head change.here there apart)

  -- the chunk is of no other class
  not_other : (c : ℕ) → c ≢ class → is_of_class c (owner_at slabs.owners chunk.page) ≡ false
  not_other c differs =
      false_from_ne_true _ (λ of.
      differs (sym (class_of_owner-is_of_class c (owner_at slabs.owners chunk.page) of) ∙ class_of_owner-is_of_class class (owner_at slabs.owners chunk.page) change.own))

  module _ (test : Tag → Bool) (part : ClassState → List ChunkId)
      (was : (c : ℕ) (other : ChunkId) → HasClass slabs c → times_in other (part (class_at slabs c)) ≡ truth (is_cut slabs c other && test (head_in table heads other).tag))
      (others : (other : ChunkId) → is_chunk chunk other ≡ false → times_in other (part state) ≡ times_in other (part (class_at slabs class)))
      (mine : times_in chunk (part state) ≡ truth (test head.tag)) where
    -- the chunk in the lists of its class, and of another
    times_here : (c : ℕ) → HasClass slabs c → times_in chunk (part (class_at now c)) ≡ truth (is_cut now c chunk && test (head_in table written chunk).tag)
    times_here c is = elim (cases_eq c class) [
      | inl same ↦
          let list : times_in chunk (part (class_at now class)) ≡ times_in chunk (part state) = ap (λ s. times_in chunk (part s)) (class_at-with_class_same slabs class state change.is) in
          let goal = ap₂ (λ (cut : Bool) (tag : Tag). truth (cut && test tag)) change.now_cut tag_here in
          subst (λ n. times_in chunk (part (class_at now n)) ≡ truth (is_cut now n chunk && test (head_in table written chunk).tag)) (sym same) (list ∙ mine ∙ sym goal)
      | inr differs ↦
          let list : times_in chunk (part (class_at now c)) ≡ times_in chunk (part (class_at slabs c)) = ap (λ s. times_in chunk (part s)) (class_at-with_class_other slabs class c state change.is.0 is.0 differs) in
          let before : is_cut slabs c chunk ≡ false = and_left _ _ (not_other c differs) in
          let after : is_cut now c chunk ≡ false = and_left _ _ (not_other c differs) in
          list ∙ was c chunk is ∙ ap (λ b. truth (b && test (head_in table heads chunk).tag)) before ∙ sym (ap (λ b. truth (b && test (head_in table written chunk).tag)) after)
    ]

    -- any other chunk
    times_else : (c : ℕ) (other : ChunkId) → HasClass slabs c → is_chunk chunk other ≡ false → times_in other (part (class_at now c)) ≡ truth (is_cut now c other && test (head_in table written other).tag)
    times_else c other is apart =
        let list : times_in other (part (class_at now c)) ≡ times_in other (part (class_at slabs c)) = class_at-with_class_kept (λ s. times_in other (part s)) slabs class c state change.is is.0 (others other apart) in
        let tags = same_truth (is_cut slabs c other) (test (head_in table heads other).tag) (test (head_in table written other).tag) (λ cut. sym (ap test (tag_else other (in_range c other is cut) apart))) in
        list ∙ was c other is ∙ tags ∙ sym (ap (λ b. truth (b && test (head_in table written other).tag)) (change.cut c other is apart))

    times_now : (c : ℕ) (other : ChunkId) → HasClass now c → times_in other (part (class_at now c)) ≡ truth (is_cut now c other && test (head_in table written other).tag)
    times_now c other is = elim (cases_Bool (is_chunk chunk other)) [
      | inl same ↦ subst (λ (x : ChunkId). times_in x (part (class_at now c)) ≡ truth (is_cut now c x && test (head_in table written x).tag)) (same_from_is_chunk chunk other same) (times_here c (was_class c is))
      | inr apart ↦ times_else c other (was_class c is) apart
    ]

  cleared_now : (c : ℕ) (other : ChunkId) → HasClass now c → is_cut now c other ≡ true → (head_in table written other).tag ≡ Out → is_moving (owner_at slabs.owners other.page) ≡ true
  cleared_now c other is cut out = elim (cases_Bool (is_chunk chunk other)) [
    | inl same ↦
        let one = same_from_is_chunk chunk other same in
        let tag : head.tag ≡ Out = sym tag_here ∙ ap (λ (x : ChunkId). (head_in table written x).tag) one ∙ out in
        subst (λ (x : ChunkId). is_moving (owner_at slabs.owners x.page) ≡ true) one (change.moving tag)
    | inr apart ↦
        let before = was_class c is in
        let was = sym (change.cut c other before apart) ∙ cut in
        placed.cleared c other before was (sym (tag_else other (in_range c other before was) apart) ∙ out)
  ]

  elsewhere_now : (other : ChunkId) → has_chunk table other ≡ true → is_cut_there now other ≡ false → (head_in table written other).tag ≡ Out
  elsewhere_now other there uncut_now =
      elim (cases_Bool (is_chunk chunk other)) [
        | inl same ↦
            let cut = cut_there_from now class chunk change.now_cut in
            absurd (both_ways _ uncut_now (subst (λ (x : ChunkId). is_cut_there now x ≡ true) (same_from_is_chunk chunk other same) cut))
        | inr apart ↦
            let before : is_cut_there slabs other ≡ false = false_from_ne_true _ (λ cut.
            let is = cut_there slabs other all cut in
            let own = class_of_page slabs other.page in
            both_ways _ uncut_now (cut_there_from now own other (change.cut own other is apart ∙ cut))) in
            tag_else other there apart ∙ placed.elsewhere other there before
      ]

  -- lists and tags still say the same
  pub placed_written : ArePlaced table now written
  placed_written = record {
    free = times_now is_free (λ s. s.free) placed.free change.free change.now_free;
    order = times_now is_in_hand (λ s. s.order) placed.order change.order change.now_order;
    cleared = cleared_now;
    elsewhere = elsewhere_now;
  }
