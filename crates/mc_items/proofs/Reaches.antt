-- A chunk whose item is to be evicted: what was seen of it, and what follows.
use Rattle.std.proofs.Common.{◌≡◌, ℕ, ◌/◌, ◌%◌, ◌<◌, ◌≤◌, ◌==◌, ◌&&◌, ◌||◌, Bool, true, false, is_none, if◌then◌else◌, List, [], ◌∷◌, ◌++◌, Some, None, refl, sym, ap, subst, ◌∙◌, arith}
use Rattle.std.specs.List.{fold, list_all}
use Rattle.std.specs.Option.{option_map}
use Rattle.std.proofs.lemmas.Bool.{and_from, and_parts, or_right}
use Rattle.std.proofs.lemmas.List.Sums.{fold-append}
use Rattle.mc_classes.specs.Classes.{Classes, size_of}
use Rattle.mc_pages.specs.declared.ids.ChunkId.{ChunkId}
use Rattle.mc_pages.specs.Changes.{next_page}
use Rattle.mc_pages.specs.ClassState.{first_free, is_chunk}
use Rattle.mc_pages.specs.SlabState.{SlabState, class_at, class_of_page}
use Rattle.mc_pages.proofs.Chunks.{is_chunk-same}
use Rattle.mc_stripe.specs.StripeState.{ReadyStripe}
use Rattle.mc_core.specs.declared.head.Head.{Head}
use Rattle.mc_core.specs.declared.head.Tag.{Tag}
use Rattle.mc_core.specs.declared.head.Tag.TheVariants.{Linked, Unlinked, Free, Out}
use Rattle.mc_core.specs.declared.holding.Holding.{Holding}
use Rattle.mc_core.specs.declared.holding.Kind.{Kind}
use Rattle.mc_core.specs.declared.holding.Kind.TheVariants.{Fresh, Reference}
use Rattle.mc_core.specs.declared.look.Look.{Look}
use Rattle.mc_core.specs.declared.look.Look.TheVariants.{Read, Saw}
use Rattle.mc_core.specs.declared.event.Step.TheVariants as step
use Rattle.mc_core.specs.run.Evictions.{has_copy, is_linked_unheld}
use Rattle.mc_core.specs.model.Head.{is_dead, is_linked, is_unlinked}
use Rattle.mc_core.specs.model.Holdings.{has_fresh, is_copy_kind, is_fresh_kind}
use Rattle.mc_core.specs.model.Looks.{is_found_alive, stays_linked, was_linked}
use Rattle.mc_core.specs.law.Seen.{last_read}
use Rattle.mc_core.specs.model.State.{is_class, room_in}
use Rattle.mc_words.specs.lock.Doing.{Doing, UsesRoomForCall}
use Rattle.mc_words.specs.hand.View.{View}
use Rattle.mc_words.specs.item.Removal.{key_seen, knows_reason, stripe_read}
use Rattle.mc_words.specs.rule.Happens.{Happens, LawfulView}
use Rattle.mc_words.specs.item.Items.{word_read}
use Rattle.mc_words.specs.lock.Lent.{BeginsWithSeen, IsLentStripe}
use Rattle.mc_words.specs.hand.Views.{head_seen, stripe_given, stripe_taken}
use Rattle.mc_words.specs.declared.hand.Hand.{Hand}
use Rattle.mc_words.specs.declared.lock.locks.Locks.{Locks}
use Rattle.mc_words.specs.declared.lock.locks.Locks.TheVariants.{Neither, Slabs, Stripe, SlabsLast, StripeLast}
use Rattle.mc_words.specs.hand.Idle.{has_no_stripes}
use Rattle.mc_words.specs.lock.Out.{locks_have_no_stripe, locks_with_stripe, without_stripe}
use Rattle.mc_words.proofs.Locks.Unlocked.{no_stripe_from}
use Rattle.mc_words.proofs.Chunks.Judging.{class_of_table, room_of, seen_is}
use Rattle.mc_words.proofs.Items.Reasoned.{alive_after_look, alive_after_read, all_weaker, room_needed}
use Rattle.mc_items.specs.Calls.{IsFull}
use Rattle.mc_items.specs.Supplying.{LacksCall, ReachesItem}

-- a linked chunk isn't dead
pub not_dead : (head : Head) → is_linked_unheld head ≡ true → is_dead head ≡ false
not_dead head unheld = by head.tag (and_parts (is_linked head.tag) (head.count == 1) unheld).0
  where
    by : (tag : Tag) → is_linked tag ≡ true → (is_unlinked tag && head.count == 0) ≡ false
    by Linked is = refl
    by Unlinked is = absurd (cc)
    by Free is = absurd (cc)
    by Out is = absurd (cc)

-- a hand that fills no chunk has no copy
pub no_copies : (holdings : List Holding) (chunk : ChunkId) → has_fresh holdings ≡ false → has_copy holdings chunk ≡ false
no_copies [] chunk none = refl
no_copies (holding ∷ holdings) chunk none = by holding.kind (has_fresh holdings) (has_copy holdings chunk) none (no_copies holdings chunk)
  where
    by : (kind : Kind) (others copies : Bool) → (is_fresh_kind kind || others) ≡ false → (others ≡ false → copies ≡ false) → (is_copy_kind chunk kind || copies) ≡ false
    by (Reference item) others copies none next = next none
    by (Fresh purpose words) others copies none next = absurd (cc)

-- a chunk of a class has room for a word
pub some_room : (view : View) → LawfulView view → (class : ℕ) → is_class view.setup.table class ≡ true → 0 < room_in view.setup.table class
some_room view was class is =
    let sound = subst Rattle.mc_classes.specs.Classes.IsSound was.same_table was.lawful.sized.sound in
    let size = (sound.sizes class (class_of_table view.setup.table class is)).0 in
    let room = room_of view.setup.table class (size_of view.setup.table class) is refl in
    subst (λ n. 0 < n) room (wide (size_of view.setup.table class) size)
  where
    wide : (size : ℕ) → 24 ≤ size → 0 < size / 8
    wide size most = omega arith

module _ (view : View) (slabs : SlabState) (mine : view.slabs ≡ Some slabs) (chunk : ChunkId) (head : Head) (unheld : is_linked_unheld head ≡ true) (seen : View) (is : seen ≡ head_seen chunk head view) where
  seen_looks : seen.row.looks ≡ view.row.looks ++ Saw chunk head ∷ []
  seen_looks = ap (λ (v : View). v.row.looks) is ∙ ap (λ (v : View). v.row.looks) (seen_is view chunk head slabs mine)

  pub found_linked : was_linked seen.row.looks chunk ≡ true
  found_linked =
      ap (λ (looks : List Look). was_linked looks chunk) seen_looks
      ∙ (fold-append (stays_linked chunk) false view.row.looks (Saw chunk head ∷ []) ∙ or_right (was_linked view.row.looks chunk) (is_chunk chunk chunk && is_linked head.tag) (and_from _ _ (is_chunk-same chunk) (and_parts (is_linked head.tag) (head.count == 1) unheld).0))

  module _ (key stripe : ℕ) (value : ReadyStripe) (read taken : View) (read_is : read ≡ key_seen chunk key seen) (taken_is : taken ≡ stripe_taken stripe value read) where
    taken_looks : taken.row.looks ≡ seen.row.looks ++ Read chunk 0 key ∷ []
    taken_looks = ap (λ (v : View). v.row.looks) taken_is ∙ ap (λ (v : View). v.row.looks) read_is

    taken_setup : taken.setup ≡ seen.setup
    taken_setup = ap (λ (v : View). v.setup) taken_is ∙ ap (λ (v : View). v.setup) read_is

    pub stripe_found : stripe_read taken chunk ≡ Some (key % seen.setup.config.stripes)
    stripe_found =
        let word : word_read taken chunk 0 ≡ Some key =
        ap (λ (looks : List Look). fold (last_read chunk 0) None looks) taken_looks
        ∙ (fold-append (last_read chunk 0) None seen.row.looks (Read chunk 0 key ∷ []) ∙ ap (λ (b : Bool). if b && 0 == 0 then Some key else fold (last_read chunk 0) None seen.row.looks) (is_chunk-same chunk)) in
        (λ k. option_map (λ key. key % (taken_setup k).config.stripes) (word k))

    pub holdings_stay : taken.row.holdings ≡ view.row.holdings
    holdings_stay = ap (λ (v : View). v.row.holdings) taken_is ∙ (ap (λ (v : View). v.row.holdings) read_is ∙ ap (λ (v : View). v.row.holdings) is)

    pub reason_found : (class : ℕ) → class_of_page slabs chunk.page ≡ class → first_free (class_at slabs class) ≡ None → list_all (is_found_alive view.row.looks) (class_at slabs class).order ≡ true → next_page slabs class ≡ None → slabs.uncut ≡ None
        → knows_reason slabs taken.row.looks taken.row.holdings chunk ≡ true
    reason_found class own free alive page whole =
        let all : taken.row.looks ≡ (view.row.looks ++ Saw chunk head ∷ []) ++ Read chunk 0 key ∷ [] = taken_looks ∙ ap (λ (looks : List Look). looks ++ Read chunk 0 key ∷ []) seen_looks in
        let still : list_all (is_found_alive taken.row.looks) (class_at slabs class).order ≡ true =
        subst (λ (looks : List Look). list_all (is_found_alive looks) (class_at slabs class).order ≡ true) (sym all)
        (all_weaker (is_found_alive view.row.looks) (is_found_alive ((view.row.looks ++ Saw chunk head ∷ []) ++ Read chunk 0 key ∷ [])) (class_at slabs class).order
        (λ other was. alive_after_read (view.row.looks ++ Saw chunk head ∷ []) chunk 0 key other ∙ alive_after_look view.row.looks chunk head (not_dead head unheld) other was) alive) in
        room_needed slabs taken.row.looks taken.row.holdings class chunk own free still page (ap is_none whole)

-- the whole, from its parts
pub reached : (Does : ℕ → ℕ → Doing) (number number' : ℕ) (view : View) (chunk : ChunkId) (head : Head) (seen read taken now : View) (key stripe stripe' : ℕ) (value : ReadyStripe) → is_linked_unheld head ≡ true → seen ≡ head_seen chunk head view → read ≡ key_seen chunk key seen
    → stripe ≡ key % view.setup.config.stripes → stripe' ≡ stripe → number' ≡ number → Happens view [] (step.Head chunk) seen → Happens seen [] (step.WordHeld chunk 0) read → Happens read [] (step.TakeStripe stripe) taken → taken ≡ stripe_taken stripe value read
    → IsLentStripe taken stripe value → BeginsWithSeen read stripe value → UsesRoomForCall number' stripe' value (Does number' stripe') taken now → ReachesItem number chunk Does view now
reached Does number number' view chunk head seen read taken now key stripe stripe' value unheld seen_is read_is at same numbers looks reads takes taken_is lent begins done =
    let all : read ≡ key_seen chunk key (head_seen chunk head view) = read_is ∙ ap (key_seen chunk key) seen_is in record {
      head = head;
      unheld = unheld;
      key = key;
      value = value;
      looks = subst (λ (v : View). Happens view [] (step.Head chunk) v) seen_is looks;
      reads = subst (λ (p : View × View). Happens p.0 [] (step.WordHeld chunk 0) p.1) (λ k. (seen_is k, all k)) reads;
      taken = taken;
      takes = subst (λ (p : View × ℕ). Happens p.0 [] (step.TakeStripe p.1) taken) (λ k. (all k, at k)) takes;
      is_taken = taken_is ∙ (λ k. stripe_taken (at k) value (all k));
      lent = subst (λ n. IsLentStripe taken n value) at lent;
      begins = subst (λ (p : View × ℕ). BeginsWithSeen p.0 p.1 value) (λ k. (all k, at k)) begins;
      done = subst (λ (p : ℕ × ℕ). UsesRoomForCall p.0 p.1 value (Does p.0 p.1) taken now) (λ k. (numbers k, (same ∙ at) k)) done;
    }

-- without memory for a call
pub lacked : (view : View) (chunk : ChunkId) (head : Head) (seen read taken now : View) (key stripe stripe' : ℕ) (value : ReadyStripe) → is_linked_unheld head ≡ true → seen ≡ head_seen chunk head view → read ≡ key_seen chunk key seen
    → stripe ≡ key % view.setup.config.stripes → stripe' ≡ stripe → Happens view [] (step.Head chunk) seen → Happens seen [] (step.WordHeld chunk 0) read → Happens read [] (step.TakeStripe stripe) taken → taken ≡ stripe_taken stripe value read → IsLentStripe taken stripe value → BeginsWithSeen read stripe value → IsFull value → now ≡ stripe_given stripe' value taken → LacksCall chunk view now
lacked view chunk head seen read taken now key stripe stripe' value unheld seen_is read_is at same looks reads takes taken_is lent begins full given =
    let all : read ≡ key_seen chunk key (head_seen chunk head view) = read_is ∙ ap (key_seen chunk key) seen_is in record {
      head = head;
      unheld = unheld;
      key = key;
      value = value;
      looks = subst (λ (v : View). Happens view [] (step.Head chunk) v) seen_is looks;
      reads = subst (λ (p : View × View). Happens p.0 [] (step.WordHeld chunk 0) p.1) (λ k. (seen_is k, all k)) reads;
      taken = taken;
      takes = subst (λ (p : View × ℕ). Happens p.0 [] (step.TakeStripe p.1) taken) (λ k. (all k, at k)) takes;
      is_taken = taken_is ∙ (λ k. stripe_taken (at k) value (all k));
      lent = subst (λ n. IsLentStripe taken n value) at lent;
      begins = subst (λ (p : View × ℕ). BeginsWithSeen p.0 p.1 value) (λ k. (all k, at k)) begins;
      full = full;
      given = given ∙ (λ k. stripe_given ((same ∙ at) k) value taken);
    }

-- a stripe's lock that came and went
pub stripe_back : (hand : Hand) (stripe : ℕ) → has_no_stripes hand.seat.me.0 ≡ true → without_stripe (locks_with_stripe stripe hand.locks) ≡ hand.locks
stripe_back hand stripe none = by hand.locks (no_stripe_from hand.seat.me.0 hand.locks hand.noted.4 none)
  where
    by : (locks : Locks) → locks_have_no_stripe locks ≡ true → without_stripe (locks_with_stripe stripe locks) ≡ locks
    by Neither none = refl
    by Slabs none = refl
    by (Stripe other) none = absurd (cc)
    by (SlabsLast other) none = absurd (cc)
    by (StripeLast other) none = absurd (cc)
