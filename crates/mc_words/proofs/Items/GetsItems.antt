-- What a hand has once it looked a key up and got a reference to its item.
use Rattle.std.proofs.Common.{◌≡◌, ℕ, ◌+◌, ◌/◌, ◌<◌, ◌≤◌, min, [], Some, refl, sym, ap, subst, ◌∙◌, arith, zero-add, slice_index, Contains}
use Rattle.std.proofs.lemmas.List.Elements.{Contains-push}
use Rattle.std.proofs.lemmas.List.FromFn.{get_or-map-range_with_len}
use Rattle.mc_pages.specs.declared.ids.ChunkId.{ChunkId}
use Rattle.mc_stripe.specs.StripeState.{ReadyStripe}
use Rattle.mc_core.specs.declared.head.Head.{Head}
use Rattle.mc_core.specs.declared.holding.Holding.{Holding}
use Rattle.mc_core.specs.declared.event.Step.TheVariants as core
use Rattle.mc_core.specs.model.Head.{decode}
use Rattle.mc_core.specs.model.State.{State, item_at, chunk_room, word_at}
use Rattle.mc_core.specs.past.Past.{Moment, known_by}
use Rattle.mc_core.proofs.Index.Entered.{entry_of}
use Rattle.mc_words.specs.hand.View.{View}
use Rattle.mc_words.specs.rule.Layout.{head_word}
use Rattle.mc_words.specs.rule.Happens.{LawfulView, Happens, HappensAt}
use Rattle.mc_words.specs.item.Refs.{IsRefOf, IsIssueOf}
use Rattle.mc_words.specs.item.Calls.{item_referred, key_got}
use Rattle.mc_words.specs.hand.Views.{with_event}
use Rattle.mc_words.specs.item.References.{reference_to, GetsItem}
use Rattle.mc_words.proofs.Chunks.Heads.{head_is}
use Rattle.mc_words.proofs.Items.References.{is_ref, is_issue, is_item, is_whole, one_room}
use Rattle.mc_words.proofs.Items.Refers.{LeadsTo, leads_here, entry_near, new_one, new_room, referred_view}

-- the first words of an item are those of its chunk
pub item_word : (s : State) (chunk : ChunkId) (place : ℕ) → place < 3 → 3 + word_at s chunk 2 ≤ chunk_room s chunk → slice_index (item_at s chunk) place ≡ word_at s chunk place
item_word s chunk place in_range fits = get_or-map-range_with_len (word_at s chunk) 0 (min (3 + word_at s chunk 2) (chunk_room s chunk)) place place 0 (omega arith) (zero-add place)

-- the issue number of a header's word
pub word_issue : (word : ℕ) → (decode word).issue ≡ word / 262144
unfolding decode
word_issue word = refl

module _ (view : View) (stripe : ℕ) (value : ReadyStripe) (key : ℕ) (chunk : ChunkId) (stamp : ℕ) (to : LeadsTo view stripe value key chunk stamp) (number : ℕ) (numbered : view.row.ids.number ≡ Some number) (now : View) (word : ℕ)
    (at : HappensAt (head_word view.setup chunk) word view [] (core.Refer key) now) (was : LawfulView now) where
  abbrev h : Happens view [] (core.Refer key) now
  h = at.0

  abbrev m : Moment
  m = h.was.moment

  abbrev one : Holding
  one = new_one view stripe value key chunk stamp to number numbered now h

  abbrev room : ℕ
  room = new_room view stripe value key chunk stamp to number numbered now h

  is : now ≡ with_event [] (core.Refer key) (item_referred one room (key_got number stripe value key view))
  is = referred_view view stripe value key chunk stamp to number numbered now h

  has : Contains now.row.holdings one
  has = subst (λ (v : View). Contains v.row.holdings one) (sym is) (Contains-push view.row.holdings one)

  knows : Contains now.row.knows.known (known_by room one)
  knows = subst (λ (v : View). Contains v.row.knows.known (known_by room one)) (sym is) (Contains-push view.row.knows.known (known_by room one))

  -- a reference, whose room is that of its chunk
  pub got_ref : IsRefOf now chunk room
  got_ref = is_ref now was one room refl has knows

  issue_is : one.issue ≡ word / 262144
  issue_is = ap (λ (head : Head). head.issue) (head_is view chunk (entry_near view stripe value key chunk stamp to h.was) h.was) ∙ (ap (λ (n : ℕ). (decode n).issue) at.1 ∙ word_issue word)

  -- of the issue that was found
  pub got_issue : IsIssueOf now chunk (word / 262144)
  got_issue = is_issue now was one room refl has knows ∙ ap Some issue_is

  pub gets_item : (found : ℕ) → IsRefOf now chunk found → GetsItem view number stripe value key chunk (word / 262144) found now
  gets_item found ref =
      let entry = entry_of m h.was.lawful key (chunk, stamp) (leads_here view stripe value key chunk stamp to h.was) in
      let same : room ≡ found = one_room now was chunk room found got_ref ref in record {
        stamp = stamp;
        leads = to.leads;
        item = item_at m.state chunk;
        held = is_item now was one room refl has knows;
        whole = is_whole now was one room refl has knows;
        key_is = item_word m.state chunk 0 (omega arith) entry.fits ∙ entry.same_key;
        stamp_is = item_word m.state chunk 1 (omega arith) entry.fits ∙ entry.same_stamp;
        happens = h;
        is = is ∙ (λ k. with_event [] (core.Refer key) (item_referred (reference_to chunk (issue_is k) (item_at m.state chunk)) (same k) (key_got number stripe value key view)));
      }
