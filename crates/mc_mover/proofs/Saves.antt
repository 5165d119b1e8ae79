-- Saving an item: what a sweep and a walk along the free list leave of what is known of the chunk, its class and its page.
use Rattle.std.proofs.Common.{◌≡◌, ℕ, ◌+◌, ◌≤◌, ◌%◌, ◌||◌, Bool, true, false, not, is_some, if◌then◌else◌, List, [], ◌∷◌, ◌++◌, Option, Some, None, slice_index_or, refl, sym, ap, subst, ◌∙◌, inl, inr, arith}
use Rattle.std.specs.List.{fold, list_all}
use Rattle.std.specs.Option.{option_map, option_or}
use Rattle.std.proofs.lemmas.Bool.{and_from, and_parts, cases_Bool}
use Rattle.std.proofs.lemmas.List.Folds.{find-append}
use Rattle.std.proofs.lemmas.List.Sums.{fold-append}
use Rattle.mc_pages.specs.declared.ids.ChunkId.{ChunkId}
use Rattle.mc_pages.specs.Accounted.{IsAccounted, is_cut, truth}
use Rattle.mc_pages.specs.Changes.{after_back, after_replace}
use Rattle.mc_pages.specs.ClassState.{is_chunk, times_in}
use Rattle.mc_pages.specs.SlabState.{HasClass, SlabState, class_at}
use Rattle.mc_pages.proofs.Chunks.{is_chunk-same, same_from_is_chunk, times-cons}
use Rattle.mc_pages.proofs.Cleared.{truth-le_one}
use Rattle.mc_stripe.specs.Changes.{after_reserve}
use Rattle.mc_stripe.specs.StripeState.{ReadyStripe, chunk_and_stamp}
use Rattle.mc_core.specs.declared.head.Head.{Head}
use Rattle.mc_core.specs.declared.holding.Holding.{Holding}
use Rattle.mc_core.specs.declared.holding.Kind.{Kind}
use Rattle.mc_core.specs.declared.holding.Kind.TheVariants.{Fresh, Reference}
use Rattle.mc_core.specs.declared.look.Look.{Look}
use Rattle.mc_core.specs.declared.look.Look.TheVariants.{PoppedOff, Saw, SawStripe}
use Rattle.mc_core.specs.run.Chunks.{head_after_hand_out}
use Rattle.mc_core.specs.run.Evictions.{has_copy}
use Rattle.mc_core.specs.model.Head.{is_dead}
use Rattle.mc_core.specs.model.Holdings.{has_fresh, holding_of, is_copy_kind, is_fresh, is_fresh_kind, is_of_chunk}
use Rattle.mc_core.specs.model.Looks.{is_found_alive, stays_alive, stays_linked, was_linked}
use Rattle.mc_core.specs.law.Seen.{last_read}
use Rattle.mc_words.specs.hand.View.{View}
use Rattle.mc_words.specs.item.Removal.{stripe_read}
use Rattle.mc_words.specs.item.Fresh.{IsFreshIn}
use Rattle.mc_words.specs.rule.Happens.{LawfulView}
use Rattle.mc_words.specs.item.Items.{word_read}
use Rattle.mc_words.specs.lock.Lent.{IsLentStripe}
use Rattle.mc_words.specs.chunk.Copies.{PassesAll, PassesOver, PopsOff}
use Rattle.mc_words.specs.chunk.Sweeps.{Sweeps, SweepsEach, SweepsOne}
use Rattle.mc_words.specs.hand.Views.{copy_holding, stripe_reserved}
use Rattle.mc_words.proofs.Chunks.FreeWalks.{passed_holds}
use Rattle.mc_words.proofs.Chunks.Judging.{seen_is, seen_slabs}
use Rattle.mc_words.proofs.Pages.Owners.{slabs_here}
use Rattle.mc_words.proofs.Items.Refers.{LeadsTo}
use Rattle.mc_words.proofs.Chunks.Sweeps.{other_first}
use Rattle.mc_mover.proofs.Kept.{passes_keep}
use Rattle.mc_mover.proofs.Leads.{Reaches, reaches_passed, reaches_seen}

-- a part of pages and lists that no put back changes
module _ {X : Type 0} (part : SlabState → X) (back : (slabs : SlabState) (chunk : ChunkId) → part (after_back slabs chunk) ≡ part slabs) where
  each_slabs : (chunks : List ChunkId) (view : View) (slabs : SlabState) (now : View) (left : SlabState) → SweepsEach chunks view slabs now left → part left ≡ part slabs
  each_slabs [] view slabs now left (same, is) = ap part is
  each_slabs (chunk ∷ chunks) view slabs now left (next, between, one, rest) = each_slabs chunks next between now left rest ∙ by one
    where
      by : SweepsOne chunk view slabs next between → part between ≡ part slabs
      by (inl (puts, is)) = ap part is ∙ back slabs chunk
      by (inr (sees, is)) = ap part is

  pub sweeps_slabs : (order : List ChunkId) (view : View) (slabs : SlabState) (now : View) (left : SlabState) → Sweeps order view slabs now left → part left ≡ part slabs
  sweeps_slabs order view slabs now left sweeps = let did = sweeps.recovers in each_slabs did.again did.seen slabs now left did.each

-- room was made in the stripe
module _ (view made : View) (slabs : SlabState) (mine : view.slabs ≡ Some slabs) (number word : ℕ) (value : ReadyStripe) (is : made ≡ stripe_reserved number value word view) (key : ℕ) (chunk : ChunkId) (stamp : ℕ) where
  looks_are : made.row.looks ≡ view.row.looks ++ SawStripe number word ∷ []
  looks_are = ap (λ (v : View). v.row.looks) is ∙ ap (λ (b : Bool). if b then view.row.looks ++ SawStripe number word ∷ [] else view.row.looks) (ap is_some mine)

  pub made_reaches : (number' : ℕ) (value' : ReadyStripe) → IsLentStripe view number value → chunk_and_stamp value.state key ≡ Some (chunk, stamp) → was_linked view.row.looks chunk ≡ true → number' ≡ number → value' ≡ after_reserve value → slice_index_or made.stripes number' None ≡ Some value'
      → Reaches made slabs number' value' key chunk stamp (word_read view chunk 0)
  made_reaches number' value' lent leads linked numbers values held = record {
    mine = ap (λ (v : View). v.slabs) is ∙ mine;
    leads = record {
      mine = held;
      of_key = ap (λ (v : View). key % v.setup.config.stripes) is ∙ (lent.keys key (chunk, stamp) leads ∙ sym numbers);
      leads = ap (λ (v : ReadyStripe). chunk_and_stamp v.state key) values ∙ leads;
    };
    linked = ap (λ (looks : List Look). was_linked looks chunk) looks_are ∙ (fold-append (stays_linked chunk) false view.row.looks (SawStripe number word ∷ []) ∙ linked);
    read_is = ap (λ (looks : List Look). fold (last_read chunk 0) None looks) looks_are ∙ fold-append (last_read chunk 0) None view.row.looks (SawStripe number word ∷ []);
  }

-- the stripe of the key that was read
pub stripe_reached : (view now : View) (slabs : SlabState) (number number' : ℕ) (value : ReadyStripe) (key : ℕ) (chunk : ChunkId) (stamp : ℕ) → Reaches now slabs number' value key chunk stamp (word_read view chunk 0) → now.setup ≡ view.setup → stripe_read view chunk ≡ Some number → number' ≡ number → stripe_read now chunk ≡ Some number'
stripe_reached view now slabs number number' value key chunk stamp at setup read numbers =
    (λ k. option_map (λ (key : ℕ). key % (setup k).config.stripes) (at.read_is k)) ∙ (read ∙ ap (λ n. Some n) (sym numbers))

-- a chunk was handed out for a copy
module _ (view now : View) (slabs : SlabState) (chunk copy : ChunkId) (pops : PopsOff view slabs chunk copy now) where
  pub popped_reaches : (number : ℕ) (value : ReadyStripe) (key stamp : ℕ) (read : Option ℕ) → Reaches view slabs number value key chunk stamp read → Reaches now (after_replace slabs copy chunk) number value key chunk stamp read
  popped_reaches number value key stamp read at =
      let passed = reaches_passed number value key chunk stamp read chunk.page pops.finds.before view pops.finds.passed slabs pops.finds.passes at in
      let seen = reaches_seen number value key chunk stamp read pops.finds.passed pops.seen slabs copy pops.finds.fit.head pops.finds.fit.is passed in
      let head = pops.finds.fit.head in record {
        mine = ap (λ (v : View). v.slabs) pops.is;
        leads = subst (λ (v : View). LeadsTo v number value key chunk stamp) (sym pops.is) (record { mine = seen.leads.mine; of_key = seen.leads.of_key; leads = seen.leads.leads });
        linked = ap (λ (v : View). was_linked v.row.looks chunk) pops.is ∙ (fold-append (stays_linked chunk) false pops.seen.row.looks (PoppedOff copy chunk (head_after_hand_out head) ∷ []) ∙ seen.linked);
        read_is = ap (λ (v : View). word_read v chunk 0) pops.is ∙ (fold-append (last_read chunk 0) None pops.seen.row.looks (PoppedOff copy chunk (head_after_hand_out head) ∷ []) ∙ seen.read_is);
      }

same_holding : (a b : Holding) → Some a ≡ Some b → a ≡ b
same_holding a b e = cc

-- a chunk that was got is the hand's last, and its only fresh one
found_not_fresh : (chunk : ChunkId) (holdings : List Holding) (holding : Holding) → holding_of chunk holdings ≡ Some holding → has_fresh holdings ≡ false → is_fresh holding ≡ false
found_not_fresh chunk [] holding found none = absurd (cc)
found_not_fresh chunk (first ∷ holdings) holding found none = by (is_of_chunk chunk first) found (is_fresh first) refl none (found_not_fresh chunk holdings holding)
  where
    by : (b : Bool) → (if b then Some first else holding_of chunk holdings) ≡ Some holding → (f : Bool) → is_fresh first ≡ f → (f || has_fresh holdings) ≡ false → (holding_of chunk holdings ≡ Some holding → has_fresh holdings ≡ false → is_fresh holding ≡ false) → is_fresh holding ≡ false
    by true found false is none next = subst (λ (h : Holding). is_fresh h ≡ false) (same_holding first holding found) is
    by true found true is none next = absurd (cc)
    by false found false is none next = next found none
    by false found true is none next = absurd (cc)

module _ (holdings : List Holding) (holding : Holding) (fresh : has_fresh holdings ≡ false) (room : ℕ) (is : IsFreshIn (holdings ++ holding ∷ []) holding.chunk room) where
  abbrev own_chunk : ChunkId
  own_chunk = holding.chunk

  -- none before it is of that chunk
  pub none_before : holding_of own_chunk holdings ≡ None
  none_before = by (holding_of own_chunk holdings) refl
    where
      by : (o : Option Holding) → holding_of own_chunk holdings ≡ o → holding_of own_chunk holdings ≡ None
      by None is_none = is_none
      by (Some other) found =
          absurd (
          let same : Some is.holding ≡ Some other = sym is.found ∙ (find-append (is_of_chunk own_chunk) holdings (holding ∷ []) ∙ ap (λ (o : Option Holding). option_or o (holding_of own_chunk (holding ∷ []))) found) in
          let stale : is_fresh other ≡ false = found_not_fresh own_chunk holdings other found fresh in
          let never : true ≡ false = sym is.fresh ∙ (ap is_fresh (same_holding is.holding other same) ∙ stale) in cc)

  pub found_last : holding_of own_chunk (holdings ++ holding ∷ []) ≡ Some holding
  found_last =
      find-append (is_of_chunk own_chunk) holdings (holding ∷ [])
      ∙ (ap (λ (o : Option Holding). option_or o (holding_of own_chunk (holding ∷ []))) none_before ∙ ap (λ (b : Bool). if b then Some holding else None) (is_chunk-same own_chunk))

-- what the hand holds then
pub popped_holds : (view now : View) (slabs : SlabState) (chunk copy : ChunkId) → (pops : PopsOff view slabs chunk copy now) → now.row.holdings ≡ view.row.holdings ++ copy_holding chunk copy (pops.finds.fit.head.issue + 1) (Rattle.mc_core.specs.model.State.room_in pops.seen.setup.table (Rattle.mc_pages.specs.SlabState.class_of_page slabs chunk.page)) ∷ []
popped_holds view now slabs chunk copy pops =
    let seen : pops.seen.row.holdings ≡ view.row.holdings = ap (λ (v : View). v.row.holdings) pops.finds.fit.is ∙ passed_holds chunk.page pops.finds.before view pops.finds.passed pops.finds.passes in
    ap (λ (v : View). v.row.holdings) pops.is ∙ ap (λ (hs : List Holding). hs ++ copy_holding chunk copy (pops.finds.fit.head.issue + 1) (Rattle.mc_core.specs.model.State.room_in pops.seen.setup.table (Rattle.mc_pages.specs.SlabState.class_of_page slabs chunk.page)) ∷ []) seen

-- a look at a free chunk finds no handed-out one dead
others_alive : (looks : List Look) (other : ChunkId) (head : Head) (chunks : List ChunkId) → times_in other chunks ≡ 0 → list_all (is_found_alive looks) chunks ≡ true → list_all (is_found_alive (looks ++ Saw other head ∷ [])) chunks ≡ true
others_alive looks other head [] none all = refl
others_alive looks other head (chunk ∷ chunks) none all =
    let parts = and_parts (is_found_alive looks chunk) (list_all (is_found_alive looks) chunks) all in
    let apart = other_first other [] chunk chunks none in
    let turned : is_chunk other chunk ≡ false = elim (cases_Bool (is_chunk other chunk)) [
      | inl same ↦ absurd (let is : is_chunk chunk other ≡ true = ap (λ (x : ChunkId). is_chunk x other) (sym (same_from_is_chunk other chunk same)) ∙ is_chunk-same other in let never : true ≡ false = sym is ∙ apart.0 in cc)
      | inr isnt ↦ isnt
    ] in
    and_from _ _ (fold-append (stays_alive chunk) false looks (Saw other head ∷ []) ∙ (ap (λ (b : Bool). if b then not (is_dead head) else is_found_alive looks chunk) turned ∙ parts.0)) (others_alive looks other head chunks apart.1 parts.1)

same_chunk : (a b : ChunkId) → Some a ≡ Some b → b ≡ a
same_chunk a b e = cc

-- nor does a walk along the free list
pub alive_passed : (page : ℕ) (slabs : SlabState) (order chunks : List ChunkId) (view now : View) → view.slabs ≡ Some slabs → ((other : ChunkId) → 1 ≤ times_in other chunks → times_in other order ≡ 0) → list_all (is_found_alive view.row.looks) order ≡ true → PassesAll page chunks view now
    → list_all (is_found_alive now.row.looks) order ≡ true
alive_passed page slabs order [] view now mine apart all same = ap (λ (v : View). list_all (is_found_alive v.row.looks) order) same ∙ all
alive_passed page slabs order (chunk ∷ chunks) view now mine apart all (next, over, rest) =
    let (mine', all') = by over in
    alive_passed page slabs order chunks next now mine' (λ other there. apart other (let sum = times-cons other chunk chunks in omega arith)) all' rest
  where
    by : PassesOver page chunk view next → (next.slabs ≡ Some slabs) × (list_all (is_found_alive next.row.looks) order ≡ true)
    by (inl (on, same)) = (ap (λ (v : View). v.slabs) same ∙ mine, ap (λ (v : View). list_all (is_found_alive v.row.looks) order) same ∙ all)
    by (inr (off, sees)) =
        let asked : sees.chunk ≡ chunk = same_chunk chunk sees.chunk sees.is_asked in
        let first : 1 ≤ times_in chunk (chunk ∷ chunks) = let sum = times-cons chunk chunk chunks in let one = ap truth (is_chunk-same chunk) in omega arith in
        let none : times_in sees.chunk order ≡ 0 = ap (λ (c : ChunkId). times_in c order) asked ∙ apart chunk first in
        let looks : next.row.looks ≡ view.row.looks ++ Saw sees.chunk sees.head ∷ [] = ap (λ (v : View). v.row.looks) (sees.is ∙ seen_is view sees.chunk sees.head slabs mine) in (
          ap (λ (v : View). v.slabs) sees.is ∙ seen_slabs view sees.chunk sees.head slabs mine,
          ap (λ (l : List Look). list_all (is_found_alive l) order) looks ∙ others_alive view.row.looks sees.chunk sees.head order none all,
        )

-- a free chunk isn't handed out
pub free_apart : (view : View) → LawfulView view → (slabs : SlabState) → view.slabs ≡ Some slabs → (class : ℕ) → HasClass slabs class → (chunk : ChunkId) → 1 ≤ times_in chunk (class_at slabs class).free → times_in chunk (class_at slabs class).order ≡ 0
free_apart view was slabs mine class is chunk there =
    let all : IsAccounted slabs = subst IsAccounted (slabs_here view was slabs mine).1 was.lawful.paged.of_table.accounted in
    let sum = all.chunks class chunk is in
    let most = truth-le_one (is_cut slabs class chunk) in omega arith

-- its number and stamps stay
pub popped_ids : (view now : View) (slabs : SlabState) (chunk copy : ChunkId) → PopsOff view slabs chunk copy now → now.row.ids ≡ view.row.ids
popped_ids view now slabs chunk copy pops =
    ap (λ (v : View). v.row.ids) pops.is ∙ (ap (λ (v : View). v.row.ids) pops.finds.fit.is ∙ passes_keep (λ (v : View). v.row.ids) (λ one v. refl) (λ chunk one v. refl) chunk.page pops.finds.before view pops.finds.passed pops.finds.passes)

-- a hand that fills no chunk has no copy
pub no_copies : (holdings : List Holding) (chunk : ChunkId) → has_fresh holdings ≡ false → has_copy holdings chunk ≡ false
no_copies [] chunk none = refl
no_copies (holding ∷ holdings) chunk none = by holding.kind (has_fresh holdings) (has_copy holdings chunk) none (no_copies holdings chunk)
  where
    by : (kind : Kind) (others copies : Bool) → (is_fresh_kind kind || others) ≡ false → (others ≡ false → copies ≡ false) → (is_copy_kind chunk kind || copies) ≡ false
    by (Reference item) others copies none next = next none
    by (Fresh purpose words) others copies none next = absurd (cc)
