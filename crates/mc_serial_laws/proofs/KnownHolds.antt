-- What is known after a get, a hold, a touch and a drop.
use Rattle.std.proofs.Common.{◌≡◌, ◌≢◌, ℕ, ◌+◌, ◌-◌, ◌≤◌, List, ◌∷◌, [], Bool, true, false, Option, Some, None, refl, ap, sym, ◌∙◌, arith, inl, inr, eqb-true, eq-eqb}
use Rattle.std.specs.Prelude.{if◌then◌else◌, ◌==◌, ◌&&◌, not, codes, slice_set}
use Rattle.std.specs.Option.{option_and_then, option_map_or}
use Rattle.std.specs.Str.{bytes_eq}
use Rattle.std.proofs.lemmas.Bool.{and_parts, cases_Bool, cases_eq, cases_lt, false≢true, not-true}
use Rattle.std.proofs.lemmas.Bool.Decides.{nat_tests}
use Rattle.std.proofs.lemmas.List.{get_or-set_same, get_or-set_other}
use Rattle.std.proofs.lemmas.Option.{same_Some}
use Rattle.mc_pages.specs.declared.ids.ChunkId.{ChunkId}
use Rattle.mc_pages.specs.Accounted.{truth}
use Rattle.mc_pages.specs.ClassState.{is_chunk, times_in, without}
use Rattle.mc_pages.proofs.Cleared.{truth-le_one}
use Rattle.mc_pages.proofs.Chunks.{is_chunk-same, same_from_is_chunk, times-cons}
use Rattle.mc_script.specs.declared.command.Command.TheVariants.{Get, Hold, Drop, Touch}
use Rattle.mc_serial_spec.specs.Item.{Item, is_linked_to}
use Rattle.mc_serial_spec.specs.Items.{has_key, item_in_chunk, linked_chunk}
use Rattle.mc_serial_spec.specs.Holds.{held_by, is_full}
use Rattle.mc_serial_spec.specs.Lines.{Outcome, release_outcome, hold_outcome_at, last_hold, release_outcome_at, lookup_outcome, touch_outcome, get_outcome, reply_only}
use Rattle.mc_serial_spec.specs.Machine.{Machine}
use Rattle.mc_serial_spec.specs.Texts.{key_line, words_line}
use Rattle.mc_serial_spec.proofs.Links.{LinkedIn}
use Rattle.mc_serial_laws.specs.Answered.{AnsweredCommand}
use Rattle.mc_serial_laws.specs.Stays.{holds_now, is_seen}
use Rattle.mc_serial_laws.proofs.Known.{AreKnown, HasItem, HoldsItem, known_on, leads_there, seen_either}
use Rattle.mc_serial_laws.proofs.KnownSets.{never_both, one_text}
use Rattle.mc_serial_laws.proofs.Lawful.{IsLawful, proceeds_same}
use Rattle.mc_serial_laws.proofs.ProceedCommands.{proceeds_touched}
use Rattle.mc_serial_laws.proofs.Spares.{spares_items}
use Rattle.mc_serial_laws.proofs.Stands.{finds_passing}
use Rattle.mc_serial_laws.proofs.Told.{AreTold}
use Rattle.mc_serial_laws.proofs.ToldPresent.{linked_now}
use Rattle.mc_serial_laws.proofs.ToldSets.{answered_by}

-- of three tests the last fails
third_fails : {X : Type 0} (b c : Bool) (x y : X) → (if b && (c && false) then x else y) ≡ y
third_fails true true x y = refl
third_fails true false x y = refl
third_fails false c x y = refl

-- the key leads to the chunk's item
has_linked : (m : Machine) (answers : List AnsweredCommand) (key : ℕ) (chunk : ChunkId) (q : ℕ) → AreTold m answers → linked_chunk m.items key ≡ Some chunk
    → (key == q) ≡ true → HasItem m.items q
has_linked m answers key chunk q all leads same =
    let there : LinkedIn key chunk m.items = linked_now m answers all key chunk leads in
    record { chunk = chunk; item = there.item; there = there.there; linked = rw (← eqb-true key q same) there.linked }

module _ (m : Machine) (answers : List AnsweredCommand) (all : AreTold m answers) (known : AreKnown m answers) where
  -- a look-up that is answered by words found the key
  read_shows : (key q : ℕ) (full : Bool) (chunk : Option ChunkId) → linked_chunk m.items key ≡ chunk
      → let reply : List ℕ = (if full then reply_only m (key_line (codes "TOO_MANY_REFS") key) else get_outcome m key (option_and_then (item_in_chunk m.items) chunk)).reply in
      ((key == q) && (not (bytes_eq reply (key_line (codes "NOT_FOUND") q)) && not (bytes_eq reply (key_line (codes "TOO_MANY_REFS") q)))) ≡ true
      → HasItem m.items q
  read_shows key q true chunk leads shown =
      let tests = and_parts (key == q) _ shown in
      let within_limit = and_parts (not (bytes_eq (key_line (codes "TOO_MANY_REFS") key) (key_line (codes "NOT_FOUND") q))) _ tests.1 in
      absurd (false≢true (sym (not-true _ within_limit.1) ∙ one_text (codes "TOO_MANY_REFS") key q tests.0))
  read_shows key q false None leads shown =
      let tests = and_parts (key == q) _ shown in
      let found = and_parts (not (bytes_eq (key_line (codes "NOT_FOUND") key) (key_line (codes "NOT_FOUND") q))) _ tests.1 in
      absurd (false≢true (sym (not-true _ found.0) ∙ one_text (codes "NOT_FOUND") key q tests.0))
  read_shows key q false (Some chunk) leads shown = has_linked m answers key chunk q all leads (and_parts (key == q) _ shown).0

  pub known_get : (worker key : ℕ) → AreKnown m (answered_by (Get worker key) (lookup_outcome m worker key) ∷ answers)
  known_get worker key =
      known_on m m answers (answered_by (Get worker key) (lookup_outcome m worker key)) known (proceeds_same m all.lawful) (spares_items m m refl)
      (λ q shown. read_shows key q (is_full m.holds worker) (linked_chunk m.items key) refl shown) (λ w q. refl)

  pub known_touch : (worker key : ℕ) (found : Option ChunkId) → linked_chunk m.items key ≡ found
      → AreKnown (touch_outcome m key found).machine (answered_by (Touch worker key) (touch_outcome m key found) ∷ answers)
  known_touch worker key None leads =
      known_on m m answers (answered_by (Touch worker key) (touch_outcome m key None)) known (proceeds_same m all.lawful) (spares_items m m refl)
      (λ q shown. never_both (key == q) shown) (λ w q. refl)
  known_touch worker key (Some chunk) leads =
      known_on m (touch_outcome m key (Some chunk)).machine answers (answered_by (Touch worker key) (touch_outcome m key (Some chunk))) known
      (proceeds_touched m key chunk all.lawful leads) (spares_items m (touch_outcome m key (Some chunk)).machine refl)
      (λ q shown. has_linked m answers key chunk q all leads (and_parts (key == q) _ shown).0) (λ w q. refl)

  -- a hold that is refused, or finds nothing
  hold_refused : (worker key : ℕ) → AreKnown m (answered_by (Hold worker key) (reply_only m (key_line (codes "TOO_MANY_REFS") key)) ∷ answers)
  hold_refused worker key =
      known_on m m answers (answered_by (Hold worker key) (reply_only m (key_line (codes "TOO_MANY_REFS") key))) known (proceeds_same m all.lawful) (spares_items m m refl)
      (λ q shown. never_both (key == q) shown) (λ w q. third_fails (worker == w) (key == q) _ _)

  hold_absent : (worker key : ℕ) → AreKnown m (answered_by (Hold worker key) (reply_only m (key_line (codes "NOT_FOUND") key)) ∷ answers)
  hold_absent worker key =
      known_on m m answers (answered_by (Hold worker key) (reply_only m (key_line (codes "NOT_FOUND") key))) known (proceeds_same m all.lawful) (spares_items m m refl)
      (λ q shown. never_both (key == q) shown) (λ w q. third_fails (worker == w) (key == q) _ _)

-- without one place of a chunk every other stands as often in the list, and that one once less
times-without-ge : (other chunk : ChunkId) (chunks : List ChunkId) → times_in other chunks ≤ times_in other (without chunk chunks) + truth (is_chunk chunk other)
times-without-ge other chunk [] = omega arith
times-without-ge other chunk (c ∷ chunks) = times_step (is_chunk c chunk) refl (times-without-ge other chunk chunks)
  where
    times_step : (b : Bool) → is_chunk c chunk ≡ b → times_in other chunks ≤ times_in other (without chunk chunks) + truth (is_chunk chunk other)
        → times_in other (c ∷ chunks) ≤ times_in other (without chunk (c ∷ chunks)) + truth (is_chunk chunk other)
    times_step true same more =
        let one : truth (is_chunk c other) ≡ truth (is_chunk chunk other) = ap (λ (x : ChunkId). truth (is_chunk x other)) (same_from_is_chunk c chunk same) in
        rw same (omega (arith, times-cons other c chunks, one))
    times_step false apart more = rw apart (omega (arith, more, times-cons other c chunks, times-cons other c (without chunk chunks)))

-- what a worker holds when its list changes
module _ (m : Machine) (worker : ℕ) (chunks : List ChunkId) (lawful : IsLawful m) (within_limit : worker ≤ 63) where
  own_list : held_by (slice_set m.holds worker chunks) worker ≡ chunks
  own_list = get_or-set_same m.holds worker chunks [] (omega (arith, within_limit, lawful.workers))

  other_list : (w : ℕ) → w ≢ worker → held_by (slice_set m.holds worker chunks) w ≡ held_by m.holds w
  other_list w apart = get_or-set_other m.holds worker w chunks [] apart

  more_held : (c : ChunkId) (w : ℕ) → times_in c (held_by m.holds worker) ≤ times_in c chunks
      → times_in c (held_by m.holds w) ≤ times_in c (held_by (slice_set m.holds worker chunks) w)
  more_held c w more = elim (cases_eq w worker) [
    | inl same ↦ rw (same, own_list) more
    | inr apart ↦ rw (other_list w apart) (omega arith)
  ]

-- a hold that found its key
module _ (m : Machine) (answers : List AnsweredCommand) (all : AreTold m answers) (known : AreKnown m answers) (worker key : ℕ) (chunk : ChunkId)
    (within_limit : worker ≤ 63) (leads : linked_chunk m.items key ≡ Some chunk) where
  abbrev now : Machine
  now = (hold_outcome_at m worker key (Some chunk)).machine

  hold_seen : (q : ℕ) → is_seen q (record { command = Hold worker key; reply = key_line (codes "HELD") key } ∷ answers) ≡ true → HasItem m.items q
  hold_seen q is = elim (seen_either ((key == q) && bytes_eq (key_line (codes "HELD") key) (key_line (codes "HELD") q)) false (is_seen q answers) is) [
    | inl shown ↦ has_linked m answers key chunk q all leads (and_parts (key == q) _ shown).0
    | inr before ↦ known.seen q before.1
  ]

  -- what was held before, and is of the key, is the chunk to which it leads
  times_before : (n : ℕ) → (1 ≤ n → HoldsItem m worker key n) → n ≤ times_in chunk (held_by m.holds worker)
  times_before n before = elim (cases_lt 0 n) [
    | inl some ↦
        let holds : HoldsItem m worker key n = before (omega (arith, some)) in
        let there : linked_chunk m.items key ≡ Some holds.has.chunk
        = leads_there holds.has.chunk holds.has.item key m.items holds.has.there holds.has.linked (all.lawful.kept.one_link key) in
        let one : holds.has.chunk ≡ chunk = same_Some holds.has.chunk chunk (sym there ∙ leads) in
        rw (← one) holds.at_limit
    | inr none ↦ omega (arith, none)
  ]

  hold_way : (b : Bool) (w q n : ℕ) → ((worker == w) && ((key == q) && bytes_eq (key_line (codes "HELD") key) (key_line (codes "HELD") q))) ≡ b
      → (1 ≤ n → HoldsItem m w q n) → 1 ≤ (if b then n + 1 else n) → HoldsItem now w q (if b then n + 1 else n)
  hold_way true w q n is before some =
      let tests = and_parts (worker == w) _ is in
      let keys = and_parts (key == q) _ tests.1 in
      let who : worker ≡ w = eqb-true worker w tests.0 in
      let what : key ≡ q = eqb-true key q keys.0 in
      let there : LinkedIn key chunk m.items = linked_now m answers all key chunk leads in
      let count : n ≤ times_in chunk (held_by m.holds worker) = times_before n (λ some. rw (who, what) (before some)) in
      let own : times_in chunk (held_by now.holds worker) ≡ times_in chunk (chunk ∷ held_by m.holds worker)
      = ap (λ (cs : List ChunkId). times_in chunk cs) (own_list m worker (chunk ∷ held_by m.holds worker) all.lawful within_limit) in
      let more : n + 1 ≤ times_in chunk (held_by now.holds worker)
      = omega (arith, count, own, times-cons chunk chunk (held_by m.holds worker), ap truth (is_chunk-same chunk)) in
      record {
        has = record { chunk = chunk; item = there.item; there = there.there; linked = rw (← what) there.linked };
        at_limit = rw (← who) more;
      }
  hold_way false w q n is before some =
      let holds : HoldsItem m w q n = before some in
      record {
        has = holds.has;
        at_limit = omega (arith, holds.at_limit, more_held m worker (chunk ∷ held_by m.holds worker) all.lawful within_limit holds.has.chunk w (omega (arith, times-cons holds.has.chunk chunk (held_by m.holds worker))));
      }

  pub known_found : AreKnown now (record { command = Hold worker key; reply = key_line (codes "HELD") key } ∷ answers)
  known_found = record {
    seen = hold_seen;
    held = λ w q some.
        hold_way ((worker == w) && ((key == q) && bytes_eq (key_line (codes "HELD") key) (key_line (codes "HELD") q))) w q (holds_now w q answers) refl
        (known.held w q) some;
  }

pub known_hold : (m : Machine) (answers : List AnsweredCommand) (worker key : ℕ) (full : Bool) (found : Option ChunkId) → AreTold m answers → AreKnown m answers
    → worker ≤ 63 → linked_chunk m.items key ≡ found
    → let served : Outcome = if full then reply_only m (key_line (codes "TOO_MANY_REFS") key) else hold_outcome_at m worker key found in
    AreKnown served.machine (answered_by (Hold worker key) served ∷ answers)
known_hold m answers worker key true found all known within_limit leads = hold_refused m answers all known worker key
known_hold m answers worker key false None all known within_limit leads = hold_absent m answers all known worker key
known_hold m answers worker key false (Some chunk) all known within_limit leads = known_found m answers all known worker key chunk within_limit leads

-- a drop that is refused
drop_refused : (m : Machine) (answers : List AnsweredCommand) (worker key : ℕ) → AreKnown m answers
    → AreKnown m (answered_by (Drop worker key) (reply_only m (key_line (codes "NOT_HELD") key)) ∷ answers)
drop_refused m answers worker key known = record {
  seen = λ q is. known.seen q is;
  held = λ w q some. fewer_way ((worker == w) && (key == q)) w q (holds_now w q answers) (known.held w q) some;
}
  where
    fewer_way : (b : Bool) (w q n : ℕ) → (1 ≤ n → HoldsItem m w q n) → 1 ≤ (if b then n - 1 else n) → HoldsItem m w q (if b then n - 1 else n)
    fewer_way true w q n before some =
        let holds : HoldsItem m w q n = before (omega (arith, some)) in
        record { has = holds.has; at_limit = omega (arith, holds.at_limit) }
    fewer_way false w q n before some = before some

-- where the first of two tests passes and both don't, the second fails
second_failed : (b c : Bool) → b ≡ true → (b && c) ≡ false → c ≡ false
second_failed true c passes fails = fails
second_failed false c passes fails = absurd (false≢true passes)

-- a chunk with an item of one key is none with an item of another
other_chunk : (m : Machine) (key q : ℕ) (chunk c : ChunkId) (item : Item) → has_key m.items key chunk ≡ true → item_in_chunk m.items c ≡ Some item
    → is_linked_to q item ≡ true → (key == q) ≡ false → is_chunk chunk c ≡ false
other_chunk m key q chunk c item has_it there linked apart = elim (cases_Bool (is_chunk chunk c)) [
  | inr other ↦ other
  | inl same ↦
      let here : has_key m.items key c ≡ true = rw (← same_from_is_chunk chunk c same) has_it in
      let own : (item.key == key) ≡ true = sym (ap (λ (o : Option Item). option_map_or (λ (i : Item). i.key == key) o false) there) ∙ here in
      let asked : (item.key == q) ≡ true = (and_parts item.linked (item.key == q) linked).1 in
      let bad : (key == q) ≡ true = grind (arith, nat_tests, own, asked) in
      absurd (false≢true (sym apart ∙ bad))
]

-- and one that gives back the chunk of an item of the key
module _ (m : Machine) (answers : List AnsweredCommand) (all : AreTold m answers) (known : AreKnown m answers) (worker key : ℕ) (chunk : ChunkId)
    (within_limit : worker ≤ 63) (has_it : has_key m.items key chunk ≡ true) where
  abbrev less : List ChunkId
  less = without chunk (held_by m.holds worker)

  abbrev after : Machine
  after = record m { holds = slice_set m.holds worker less }

  drop_way : (b : Bool) (w q n : ℕ) → ((worker == w) && (key == q)) ≡ b → (1 ≤ n → HoldsItem m w q n) → 1 ≤ (if b then n - 1 else n)
      → HoldsItem after w q (if b then n - 1 else n)
  drop_way true w q n is before some =
      let who : worker ≡ w = eqb-true worker w (and_parts (worker == w) _ is).0 in
      let holds : HoldsItem m w q n = before (omega (arith, some)) in
      let c : ChunkId = holds.has.chunk in
      let were : n ≤ times_in c (held_by m.holds worker) = rw who holds.at_limit in
      let own : times_in c (held_by after.holds worker) ≡ times_in c less = ap (λ (cs : List ChunkId). times_in c cs) (own_list m worker less all.lawful within_limit) in
      let left : n - 1 ≤ times_in c (held_by after.holds worker)
      = omega (arith, were, own, times-without-ge c chunk (held_by m.holds worker), truth-le_one (is_chunk chunk c)) in
      record { has = holds.has; at_limit = rw (← who) left }
  drop_way false w q n is before some =
      let holds : HoldsItem m w q n = before some in
      let c : ChunkId = holds.has.chunk in
      let at_limit : n ≤ times_in c (held_by after.holds w) = elim (cases_eq w worker) [
        | inl same ↦
            let own_key : (key == q) ≡ false = second_failed (worker == w) (key == q) (eq-eqb worker w (sym same)) is in
            let other : is_chunk chunk c ≡ false = other_chunk m key q chunk c holds.has.item has_it holds.has.there holds.has.linked own_key in
            let own : times_in c (held_by after.holds w) ≡ times_in c less
            = ap (λ (v : ℕ). times_in c (held_by after.holds v)) same ∙ ap (λ (cs : List ChunkId). times_in c cs) (own_list m worker less all.lawful within_limit) in
            let were : n ≤ times_in c (held_by m.holds worker) = rw (← same) holds.at_limit in
            omega (arith, were, own, times-without-ge c chunk (held_by m.holds worker), ap truth other)
        | inr apart ↦ omega (arith, holds.at_limit, ap (λ (cs : List ChunkId). times_in c cs) (other_list m worker less all.lawful within_limit w apart))
      ] in
      record { has = holds.has; at_limit = at_limit }

  pub known_let_go : (words : List ℕ) → AreKnown after (record { command = Drop worker key; reply = words_line (codes "DROPPED") key words } ∷ answers)
  known_let_go words = record {
    seen = λ q is. known.seen q is;
    held = λ w q some. drop_way ((worker == w) && (key == q)) w q (holds_now w q answers) refl (known.held w q) some;
  }

let_go_known : (m : Machine) (answers : List AnsweredCommand) (worker key : ℕ) (chunk : ChunkId) (found : Option Item) → AreTold m answers → AreKnown m answers → worker ≤ 63
    → last_hold m worker key ≡ Some chunk
    → let served : Outcome = release_outcome_at m worker key chunk found in
    AreKnown served.machine (answered_by (Drop worker key) served ∷ answers)
let_go_known m answers worker key chunk None all known within_limit last = drop_refused m answers worker key known
let_go_known m answers worker key chunk (Some item) all known within_limit last =
    known_let_go m answers all known worker key chunk within_limit (finds_passing (has_key m.items key) (held_by m.holds worker) chunk last) item.words

pub known_drop : (m : Machine) (answers : List AnsweredCommand) (worker key : ℕ) (found : Option ChunkId) → AreTold m answers → AreKnown m answers → worker ≤ 63
    → last_hold m worker key ≡ found
    → let served : Outcome = release_outcome m worker key found in
    AreKnown served.machine (answered_by (Drop worker key) served ∷ answers)
known_drop m answers worker key None all known within_limit last = drop_refused m answers worker key known
known_drop m answers worker key (Some chunk) all known within_limit last = let_go_known m answers worker key chunk (item_in_chunk m.items chunk) all known within_limit last
