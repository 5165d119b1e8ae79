-- What is told after a hold and after a drop.
use Rattle.std.proofs.Common.{◌≡◌, ◌≢◌, ℕ, ◌≤◌, List, [], ◌∷◌, length, Bool, true, false, Option, Some, None, refl, ap, sym, ◌∙◌, subst, arith, inl, inr, eq-eqb, ne_eqb}
use Rattle.std.specs.Prelude.{if◌then◌else◌, ◌==◌, ◌&&◌, not, codes, slice_set}
use Rattle.std.specs.Option.{option_map}
use Rattle.std.proofs.lemmas.Bool.{and_parts, cases_eq, cases_Bool}
use Rattle.std.proofs.lemmas.Bool.Decides.{nat_tests}
use Rattle.std.proofs.lemmas.List.{get_or-set_same, get_or-set_other, length-set}
use Rattle.mc_classes.specs.Limits.{most_refs}
use Rattle.mc_pages.specs.declared.ids.ChunkId.{ChunkId}
use Rattle.mc_pages.specs.Accounted.{truth}
use Rattle.mc_pages.specs.ClassState.{is_chunk, times_in, without}
use Rattle.mc_pages.proofs.Chunks.{same_from_is_chunk, times-cons}
use Rattle.mc_script.specs.declared.command.Command.TheVariants.{Hold, Drop}
use Rattle.mc_serial_spec.specs.Item.{Item}
use Rattle.mc_serial_spec.specs.Items.{has_key, item_in_chunk, linked_chunk}
use Rattle.mc_serial_spec.specs.Holds.{held_by, is_full}
use Rattle.mc_serial_spec.specs.Consistent.{place_count}
use Rattle.mc_serial_spec.specs.Lines.{Outcome, release_outcome, hold_outcome_at, last_hold, release_outcome_at, reply_only as told_line}
use Rattle.mc_serial_spec.specs.Machine.{Machine}
use Rattle.mc_serial_spec.specs.Texts.{key_line}
use Rattle.mc_serial_laws.specs.Answered.{AnsweredCommand, held_words, last_words, with_held, without_held}
use Rattle.mc_serial_spec.proofs.Links.{LinkedIn, linked_in, some_places}
use Rattle.mc_serial_spec.proofs.KeptChanges.{place_once}
use Rattle.mc_serial_laws.proofs.Lawful.{off, IsLawful, as_held, proceeds_same, stored_as}
use Rattle.mc_serial_laws.proofs.Stands.{Stand, finds_passing, length-without-le, stand_without, times-without-le}
use Rattle.mc_serial_laws.proofs.Told.{AreTold, told_on}
use Rattle.mc_serial_laws.proofs.ToldSets.{answered_by, both_pass, first_fails, same_text, second_fails}

-- a worker holds other chunks, and one more answer tells what they store
module _ (m : Machine) (answers : List AnsweredCommand) (answered : AnsweredCommand) (worker : ℕ) (chunks : List ChunkId) (told : AreTold m answers) (within_limit : worker ≤ 63)
    (there : (c : ChunkId) → 1 ≤ times_in c chunks → 1 ≤ place_count c m.items) (short : length chunks ≤ most_refs)
    (same_words : (key : ℕ) → last_words key (answered ∷ answers) ≡ last_words key answers)
    (same_held : (w : ℕ) → (worker == w) ≡ false → held_words w (answered ∷ answers) ≡ held_words w answers)
    (stands : Stand m.items chunks (held_words worker (answered ∷ answers))) where
  held_now : held_by (slice_set m.holds worker chunks) worker ≡ chunks
  held_now = get_or-set_same m.holds worker chunks [] (omega (arith, within_limit, told.lawful.workers))

  held_other : (w : ℕ) → w ≢ worker → held_by (slice_set m.holds worker chunks) w ≡ held_by m.holds w
  held_other w apart = get_or-set_other m.holds worker w chunks [] apart

  lawful_now : IsLawful (record m { holds = slice_set m.holds worker chunks })
  lawful_now = record {
    kept = told.lawful.kept;
    granted = told.lawful.granted;
    order = told.lawful.order;
    workers = length-set m.holds worker chunks ∙ told.lawful.workers;
    within_limit = λ w. elim (cases_eq w worker) [
      | inl same ↦
          let here : held_by (slice_set m.holds worker chunks) w ≡ chunks = ap (held_by (slice_set m.holds worker chunks)) same ∙ held_now in
          omega (arith, short, ap (λ (cs : List ChunkId). length cs) here)
      | inr apart ↦ omega (arith, told.lawful.within_limit w, ap (λ (cs : List ChunkId). length cs) (held_other w apart))
    ];
    stored = λ w c holds. elim (cases_eq w worker) [
      | inl same ↦
          let here : held_by (slice_set m.holds worker chunks) w ≡ chunks = ap (held_by (slice_set m.holds worker chunks)) same ∙ held_now in
          there c (omega (arith, holds, ap (λ (cs : List ChunkId). times_in c cs) here))
      | inr apart ↦ told.lawful.stored w c (omega (arith, holds, ap (λ (cs : List ChunkId). times_in c cs) (held_other w apart)))
    ];
  }

  pub told_holds : AreTold (record m { holds = slice_set m.holds worker chunks }) (answered ∷ answers)
  told_holds = record {
    lawful = lawful_now;
    words = λ key c item at to. same_words key ∙ told.words key c item at to;
    holds = λ w. elim (cases_eq w worker) [
      | inl same ↦
          subst (λ (n : ℕ). Stand m.items (held_by (slice_set m.holds worker chunks) n) (held_words n (answered ∷ answers))) (sym same) (rw held_now stands)
      | inr apart ↦ rw (held_other w apart, same_held w (ne_eqb worker w (λ is. apart (sym is)))) (told.holds w)
    ];
  }

-- a hold that found its key
told_found : (m : Machine) (answers : List AnsweredCommand) (worker key : ℕ) (found : Option ChunkId) → AreTold m answers → worker ≤ 63
    → is_full m.holds worker ≡ false → linked_chunk m.items key ≡ found
    → let served : Outcome = hold_outcome_at m worker key found in
    AreTold served.machine (answered_by (Hold worker key) served ∷ answers)
told_found m answers worker key None told within_limit room leads =
    told_on m m answers _ told (proceeds_same m told.lawful) (λ q. refl) (λ w. second_fails (worker == w) _ _)
told_found m answers worker key (Some chunk) told within_limit room leads =
    let answered : AnsweredCommand = answered_by (Hold worker key) (hold_outcome_at m worker key (Some chunk)) in
    let in_chunk : LinkedIn key chunk m.items
    = linked_in key chunk m.items leads (place_once m.table (off m.slabs) m.items chunk told.lawful.kept) (told.lawful.kept.one_link key) in
    let item : Item = in_chunk.item in
    let tests = and_parts item.linked (item.key == key) in_chunk.linked in
    let its : item.key ≡ key = grind (arith, nat_tests) in
    let words : last_words key answers ≡ Some item.words = told.words key chunk item in_chunk.there in_chunk.linked in
    let now : held_words worker (answered ∷ answers) ≡ record { key = key; words = item.words } ∷ held_words worker answers
    = both_pass (worker == worker) _ _ _ (eq-eqb worker worker refl) (same_text (key_line (codes "HELD") key))
    ∙ ap (λ (o : Option (List ℕ)). with_held key o (held_words worker answers)) words in
    let stands : stored_as m.items chunk ≡ Some (record { key = key; words = item.words })
    = ap (option_map as_held) in_chunk.there ∙ ap (λ (n : ℕ). Some (record { key = n; words = item.words })) its in
    told_holds m answers answered worker (chunk ∷ held_by m.holds worker) told within_limit
    (λ c there. elim (cases_Bool (is_chunk chunk c)) [
      | inl same ↦ rw (← same_from_is_chunk chunk c same) (some_places chunk item m.items in_chunk.there)
      | inr other ↦ told.lawful.stored worker c (omega (arith, there, times-cons c chunk (held_by m.holds worker), ap truth other))
    ])
    (grind (arith, nat_tests, room))
    (λ q. refl) (λ w other. first_fails (worker == w) _ _ _ other) (rw now (stands, told.holds worker))

pub told_hold : (m : Machine) (answers : List AnsweredCommand) (worker key : ℕ) (full : Bool) → AreTold m answers → worker ≤ 63 → is_full m.holds worker ≡ full
    → let served : Outcome = if full then told_line m (key_line (codes "TOO_MANY_REFS") key) else hold_outcome_at m worker key (linked_chunk m.items key) in
    AreTold served.machine (answered_by (Hold worker key) served ∷ answers)
told_hold m answers worker key true told within_limit is =
    told_on m m answers _ told (proceeds_same m told.lawful) (λ q. refl) (λ w. second_fails (worker == w) _ _)
told_hold m answers worker key false told within_limit is = told_found m answers worker key (linked_chunk m.items key) told within_limit is refl

-- a drop that is refused
told_refused : (m : Machine) (answers : List AnsweredCommand) (worker key : ℕ) → AreTold m answers
    → AreTold m (answered_by (Drop worker key) (told_line m (key_line (codes "NOT_HELD") key)) ∷ answers)
told_refused m answers worker key told =
    told_on m m answers _ told (proceeds_same m told.lawful) (λ q. refl)
    (λ w. ap (λ b. if (worker == w) && not b then without_held key (held_words w answers) else held_words w answers) (same_text (key_line (codes "NOT_HELD") key))
    ∙ second_fails (worker == w) _ _)

-- and one that isn't
told_let_go : (m : Machine) (answers : List AnsweredCommand) (worker key : ℕ) (chunk : ChunkId) (found : Option Item) → AreTold m answers → worker ≤ 63
    → last_hold m worker key ≡ Some chunk
    → let served : Outcome = release_outcome_at m worker key chunk found in
    AreTold served.machine (answered_by (Drop worker key) served ∷ answers)
told_let_go m answers worker key chunk None told within_limit last = told_refused m answers worker key told
told_let_go m answers worker key chunk (Some item) told within_limit last =
    let answered : AnsweredCommand = answered_by (Drop worker key) (release_outcome_at m worker key chunk (Some item)) in
    let has : has_key m.items key chunk ≡ true = finds_passing (has_key m.items key) (held_by m.holds worker) chunk last in
    let now : held_words worker (answered ∷ answers) ≡ without_held key (held_words worker answers)
    = both_pass (worker == worker) _ _ _ (eq-eqb worker worker refl) refl in
    told_holds m answers answered worker (without chunk (held_by m.holds worker)) told within_limit
    (λ c there. told.lawful.stored worker c (omega (arith, there, times-without-le c chunk (held_by m.holds worker))))
    (omega (arith, told.lawful.within_limit worker, length-without-le chunk (held_by m.holds worker)))
    (λ q. refl) (λ w other. first_fails (worker == w) _ _ _ other)
    (rw now (stand_without m.items key chunk (held_by m.holds worker) (held_words worker answers) has (told.holds worker) last))

pub told_drop : (m : Machine) (answers : List AnsweredCommand) (worker key : ℕ) (found : Option ChunkId) → AreTold m answers → worker ≤ 63
    → last_hold m worker key ≡ found
    → let served : Outcome = release_outcome m worker key found in
    AreTold served.machine (answered_by (Drop worker key) served ∷ answers)
told_drop m answers worker key None told within_limit last = told_refused m answers worker key told
told_drop m answers worker key (Some chunk) told within_limit last = told_let_go m answers worker key chunk (item_in_chunk m.items chunk) told within_limit last
