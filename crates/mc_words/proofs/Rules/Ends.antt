-- What is left of an arena is what its last moment has.
use Rattle.std.proofs.Common.{◌≡◌, ℕ, zero, suc, ◌+◌, ◌*◌, ◌^◌, ◌<◌, ◌==◌, Bool, true, false, List, [], ◌∷◌, length, map, drop, slice_index, slice_index_or, if◌then◌else◌, Option, Some, None, IfSome, refl, sym, ap, ap₂, subst, ◌∙◌, inl, inr, arith, zero-add, eq-eqb, ne_eqb}
use Rattle.std.proofs.lemmas.Bool.{cases_eq}
use Rattle.std.proofs.lemmas.List.{get_or-take, get_or-drop, get_or-map, length-map}
use Rattle.std.proofs.lemmas.List.FromFn.{get_or-map-range_with_len}
use Rattle.std.specs.List.{range_with_len}
use mathlib.Core.Option as maybe
use mathlib.Core.Option.{some}
use lib.ListN.{get_elem?}
use Rattle.atomic_table.specs.Table.{Final, Seen}
use Rattle.atomic_table.proofs.Lists.{at_map, at_index}
use Rattle.mc_classes.specs.Classes.{Classes, arena_pages_of}
use Rattle.mc_pages.specs.declared.ids.ChunkId.{ChunkId}
use Rattle.mc_pages.specs.SlabState.{SlabState}
use Rattle.mc_stripe.specs.StripeState.{ReadyStripe}
use Rattle.mc_core.specs.declared.head.Head.{Head}
use Rattle.mc_core.specs.model.Head.{decode, never_cut}
use Rattle.mc_core.specs.model.InOrder.{IsOfTable}
use Rattle.mc_core.specs.model.State.{State, head_at, most_of, has_chunk, head_place, stripe_at}
use Rattle.mc_words.specs.declared.lock.slot.Slot.{Slot}
use Rattle.mc_words.specs.declared.lock.slot.Slot.TheVariants.{Empty, OfSlabs, OfStripe}
use Rattle.mc_words.specs.hand.View.{Setup, View, settled_view}
use Rattle.mc_words.specs.rule.Layout.{lock_address, head_word, heads_from, head_count}
use Rattle.mc_words.specs.lock.Slots.{slot_at}
use Rattle.mc_words.specs.rule.Meaning.{WordsOfTable, Has, IsRuled}
use Rattle.mc_words.specs.rule.Joins.{Rule, all_settled}
use Rattle.mc_words.specs.rule.End.{Closes, IsLeftOf, ArenaEnd, at_home, left_of, slabs_in, slabs_left, stripe_in, stripe_left}
use Rattle.mc_words.proofs.Rules.Headlines.{rule_gives_headline}
use Rattle.mc_words.proofs.Rules.NextMoments.{lawful_view}
use Rattle.mc_words.proofs.Rules.Settled.{IsSettled, settled_same}
use Rattle.mc_words.proofs.Rules.Written.{slabs_lock_read, lock_read, head_near}

-- what holds of each number of a range
maps_alike : {A : Type 0} (f g : ℕ → A) (first count : ℕ) → ((i : ℕ) → i < count → f (first + i) ≡ g (first + i)) → map f (range_with_len first count) ≡ map g (range_with_len first count)
maps_alike f g first zero each = refl
maps_alike f g first (suc count) each =
    let here : first + 0 ≡ first = omega arith in
    ap₂ (λ x xs. x ∷ xs) (sym (ap f here) ∙ (each 0 (omega arith) ∙ ap g here))
    (maps_alike f g (first + 1) count (λ i in_range. let next : first + suc i ≡ (first + 1) + i = omega arith in sym (ap f next) ∙ (each (suc i) (omega arith) ∙ ap g next)))

read : {A : Type 0} (xs : List A) (i : ℕ) (x default : A) → get_elem? xs i ≡ some x → slice_index_or xs i default ≡ x
read [] i x default at = absurd (maybe.some-ne-none x (sym at))
read (y ∷ xs) zero x default at = maybe.some-injective y x at
read (y ∷ xs) (suc i) x default at = read xs i x default at

slabs_of : (s : State) (slot : Slot) → Has s zero slot → slabs_in slot ≡ Some s.slabs
slabs_of s Empty has = absurd has
slabs_of s (OfSlabs slabs) has = ap Some has
slabs_of s (OfStripe value) has = absurd has

stripe_of : (s : State) (stripe : ℕ) (slot : Slot) → Has s (suc stripe) slot → stripe_in slot ≡ Some (stripe_at s stripe)
stripe_of s stripe Empty has = absurd has
stripe_of s stripe (OfSlabs slabs) has = absurd has
stripe_of s stripe (OfStripe value) has = ap Some has

-- the value in a slot, where the word of its lock is 0
left_by : {X : Type 0} (word lock : ℕ) (found : Option X) (value : X) → word ≡ lock → (word ≡ 0 → found ≡ Some value) → (if word == 0 then found else None) ≡ at_home lock value
left_by word lock found value same free = elim (cases_eq word 0) [
  | inl is ↦ ap (λ (b : Bool). if b then found else None) (eq-eqb word 0 is) ∙ (free is ∙ sym (ap (λ (b : Bool). if b then Some value else None) (eq-eqb lock 0 (sym same ∙ is))))
  | inr not ↦ ap (λ (b : Bool). if b then found else None) (ne_eqb word 0 not) ∙ sym (ap (λ (b : Bool). if b then Some value else None) (ne_eqb lock 0 (λ is. not (same ∙ is))))
]

module _ (setup : Setup) (t : WordsOfTable) (r : IsRuled setup t) (slots : List Slot) (last : (lock : ℕ) (slot : Slot) → get_elem? t.homes lock ≡ some (some slot) → get_elem? slots lock ≡ some slot) where
  abbrev s : State
  s = r.moment.state

  slabs_is : slabs_left t.words slots ≡ at_home s.slabs_lock s.slabs
  slabs_is =
      left_by (slice_index t.words (lock_address zero)) s.slabs_lock (slabs_in (slice_index_or slots (slot_at zero) Empty)) s.slabs
      (slabs_lock_read setup r.cuts t.words s.slabs_lock s.stripe_locks s.heads s.words r.means.words)
      (λ free.
      let (slot, home, has) = r.means.homes zero (omega arith) free in
      ap slabs_in (read slots (slot_at zero) slot Empty (last (slot_at zero) slot home)) ∙ slabs_of s slot has)

  stripe_is : (stripe : ℕ) → stripe < setup.config.stripes → stripe_left t.words slots stripe ≡ at_home (slice_index s.stripe_locks stripe) (stripe_at s stripe)
  stripe_is stripe in_range =
      left_by (slice_index t.words (lock_address (suc stripe))) (slice_index s.stripe_locks stripe) (stripe_in (slice_index_or slots (slot_at (suc stripe)) Empty)) (stripe_at s stripe)
      (lock_read setup r.cuts t.words s.slabs_lock s.stripe_locks s.heads s.words r.means.words stripe in_range)
      (λ free.
      let (slot, home, has) = r.means.homes (suc stripe) (omega arith) free in
      ap stripe_in (read slots (slot_at (suc stripe)) slot Empty (last (slot_at (suc stripe)) slot home)) ∙ stripe_of s stripe slot has)

  lists_are : IfSome (slabs_left t.words slots) (λ slabs. IsOfTable setup.table slabs)
  lists_are =
      subst (λ (o : Option SlabState). IfSome o (λ slabs. IsOfTable setup.table slabs)) (sym slabs_is)
      (elim (s.slabs_lock == 0) as (λ (b : Bool). IfSome (if b then Some s.slabs else None) (λ slabs. IsOfTable setup.table slabs)) [
        | true ↦ subst (λ (table : Classes). IsOfTable table s.slabs) r.means.same_table r.lawful.paged.of_table
        | false ↦ tt
      ])

-- all of it, of the hand that closes it
closed_by : (view : View) (t : WordsOfTable) (slots : List Slot) → ((lock : ℕ) (slot : Slot) → get_elem? t.homes lock ≡ some (some slot) → get_elem? slots lock ≡ some slot) → (id : ℕ) → get_elem? t.views id ≡ some view → IsSettled view → Rule view.setup t
    → Closes view (left_of view.setup t.words slots)
closed_by view t slots last id mine live rule =
    let at : get_elem? (map settled_view t.views) id ≡ some view = at_map settled_view t.views id view mine ∙ ap some (settled_same view live.1) in
    let s = rule.ruled.moment.state in record {
      was = lawful_view view.setup (all_settled t) rule.ruled id view at live.0 refl;
      table = t;
      rule = rule;
      headline = rule_gives_headline view.setup t rule;
      same_moment = refl;
      same_words = refl;
      mine = mine;
      setup = refl;
      heads = rule.ruled.means.words.heads;
      slabs = slabs_is view.setup (all_settled t) rule.ruled slots last;
      stripes = maps_alike (stripe_left t.words slots) (λ stripe. at_home (slice_index s.stripe_locks stripe) (stripe_at s stripe)) 0 view.setup.config.stripes
          (λ i in_range. let e = zero-add i in
          ap (stripe_left t.words slots) e ∙ (stripe_is view.setup (all_settled t) rule.ruled slots last i in_range ∙ sym (ap (λ stripe. at_home (slice_index s.stripe_locks stripe) (stripe_at s stripe)) e)));
    }

-- as the table tells it when it is closed
module _ (setup plan : Setup) (planned : setup ≡ plan) (id : ℕ) (view : View) (words : List ℕ) (slots : List Slot) (final : Final (Seen (Rule setup) id view) words slots) where
  pub closes : IsSettled view → view.setup ≡ setup → Closes view (left_of plan words slots)
  closes live of =
      let (t, seen, same, long, last) = final in
      subst (λ (p : Setup × List ℕ). Closes view (left_of p.0 p.1 slots)) (λ k. ((of ∙ planned) k, same k)) (closed_by view t slots last id seen.1 live (subst (λ (s : Setup). Rule s t) (sym of) seen.0))

  pub lists : IfSome (slabs_left words slots) (λ slabs. IsOfTable plan.table slabs)
  lists =
      let (t, seen, same, long, last) = final in
      subst (λ (p : Setup × List ℕ). IfSome (slabs_left p.1 slots) (λ slabs. IsOfTable p.0.table slabs)) (λ k. (planned k, same k)) (lists_are setup (all_settled t) seen.0.ruled slots last)

-- as it is read
module _ (setup : Setup) (words : List ℕ) (slots : List Slot) (left : IsLeftOf setup words slots) where
  pub head_told : (chunk : ChunkId) (place word : ℕ) → has_chunk setup.table chunk ≡ true → place ≡ head_word setup chunk → get_elem? words place ≡ some word → word ≡ slice_index (left_of setup words slots).heads (head_place setup.table chunk)
  head_told chunk place word in_range is at =
      sym (get_or-take (head_count setup) (drop (heads_from setup) words) (head_place setup.table chunk) 0 (head_near setup chunk in_range)
      ∙ (get_or-drop (heads_from setup) words (head_place setup.table chunk) 0 ∙ (ap (slice_index words) (sym is) ∙ read words place word 0 at)))

  -- pages and lists, where they are at home
  pub slabs_told : (word : ℕ) → get_elem? words (lock_address zero) ≡ some word → word ≡ 0 → (slot : Slot) → slot ≡ slice_index_or slots (slot_at zero) slot → slabs_in slot ≡ (left_of setup words slots).slabs
  slabs_told word at free slot found =
      let count = left.locks in
      let here = read slots (slot_at zero) slot Empty (at_index slots (slot_at zero) slot (omega arith) found) in
      sym (ap (λ (b : Bool). if b then slabs_in (slice_index_or slots (slot_at zero) Empty) else None) (eq-eqb (slice_index words (lock_address zero)) 0 (read words (lock_address zero) word 0 at ∙ free))
      ∙ ap slabs_in here)

  -- the numbers of locks are small
  pub few_stripes : (stripe : ℕ) → stripe < setup.config.stripes → suc stripe < 2 ^ 59
  few_stripes stripe in_range = let small = left.small in omega arith

  module _ (stripe : ℕ) (in_range : stripe < setup.config.stripes) (word : ℕ) (at : get_elem? words (lock_address (suc stripe)) ≡ some word) where
    word_is : slice_index words (lock_address (suc stripe)) ≡ word
    word_is = read words (lock_address (suc stripe)) word 0 at

    of_stripe : slice_index_or (left_of setup words slots).stripes stripe None ≡ stripe_left words slots stripe
    of_stripe = get_or-map-range_with_len (stripe_left words slots) 0 setup.config.stripes stripe stripe None in_range (zero-add stripe)

    -- where a hand has it
    pub none_told : (word ≡ 0 → ⊥) → None ≡ slice_index_or (left_of setup words slots).stripes stripe None
    none_told held = sym (of_stripe ∙ ap (λ (b : Bool). if b then stripe_in (slice_index_or slots (slot_at (suc stripe)) Empty) else None) (ne_eqb (slice_index words (lock_address (suc stripe))) 0 (λ is. held (sym word_is ∙ is))))

    -- and where it is at home
    pub stripe_told : word ≡ 0 → (slot : Slot) → slot ≡ slice_index_or slots (slot_at (suc stripe)) slot → stripe_in slot ≡ slice_index_or (left_of setup words slots).stripes stripe None
    stripe_told free slot found =
        let count = left.locks in
        let here = read slots (slot_at (suc stripe)) slot Empty (at_index slots (slot_at (suc stripe)) slot (omega arith) found) in
        sym (of_stripe
        ∙ (ap (λ (b : Bool). if b then stripe_in (slice_index_or slots (slot_at (suc stripe)) Empty) else None) (eq-eqb (slice_index words (lock_address (suc stripe))) 0 (word_is ∙ free))
        ∙ ap stripe_in here))

-- a slot without a stripe
pub no_stripe_in : (slot : Slot) → ((value : ReadyStripe) → slot ≡ OfStripe value → ⊥) → stripe_in slot ≡ None
no_stripe_in Empty not = refl
no_stripe_in (OfSlabs slabs) not = refl
no_stripe_in (OfStripe value) not = absurd (not value refl)

-- what is read is what the last moment has
module _ (view : View) (left : ArenaEnd) (closes : Closes view left) where
  abbrev ended : State
  ended = closes.was.moment.state

  pub head_at_end : (chunk : ChunkId) → has_chunk left.setup.table chunk ≡ true → decode (slice_index left.heads (head_place left.setup.table chunk)) ≡ head_at ended chunk
  head_at_end chunk in_range =
      let table : ended.table ≡ left.setup.table = closes.was.same_table ∙ ap (λ (s : Setup). s.table) (sym closes.setup) in
      let within = head_near left.setup chunk in_range in
      let long : length left.heads ≡ head_count left.setup =
      sym (length-map left.heads decode) ∙ (ap length closes.heads ∙ (closes.was.lawful.sized.headers ∙ ap (λ (t : Classes). arena_pages_of t * most_of t) table)) in
      sym (ap (λ (t : Classes). slice_index_or ended.heads (head_place t chunk) never_cut) table
      ∙ (ap (λ (heads : List Head). slice_index_or heads (head_place left.setup.table chunk) never_cut) (sym closes.heads)
      ∙ get_or-map decode left.heads (head_place left.setup.table chunk) 0 never_cut (omega arith)))

  pub stripe_at_end : (stripe : ℕ) → stripe < left.setup.config.stripes → slice_index_or left.stripes stripe None ≡ at_home (slice_index ended.stripe_locks stripe) (stripe_at ended stripe)
  stripe_at_end stripe in_range =
      let same : left.setup.config.stripes ≡ view.setup.config.stripes = ap (λ (s : Setup). s.config.stripes) closes.setup in
      ap (λ (stripes : List (Option ReadyStripe)). slice_index_or stripes stripe None) closes.stripes
      ∙ get_or-map-range_with_len (λ stripe. at_home (slice_index ended.stripe_locks stripe) (stripe_at ended stripe)) 0 view.setup.config.stripes stripe stripe None (omega arith) (zero-add stripe)
