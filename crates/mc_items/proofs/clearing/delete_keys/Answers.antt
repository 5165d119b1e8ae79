use Rattle.std.proofs.Common.{◌≡◌, ◌<◌, ◌+◌, ◌++◌, ◌∷◌, ◌∙◌, [], ℕ, IsSome, length, ap, refl, subst, sym, ◌%◌, false, Some}
use Rattle.std.specs.List.Sorted.{IsPermutation}
use Rattle.std.specs.Map.{keys_of}
use Rattle.std.proofs.lemmas.List.Sorted.{IsPermutation-refl}
use Rattle.mc_pages.specs.declared.ids.ChunkId.{ChunkId}
use Rattle.mc_core.specs.model.Holdings.{has_fresh}
use Rattle.mc_core.proofs.Seen.SeenLooks.{some_is}
use Rattle.mc_stripe.specs.Entries.{AreRising, entry_at, without_entry}
use Rattle.mc_stripe.specs.StripeState.{Index, ReadyStripe, chunk_and_stamp}
use Rattle.mc_stripe.proofs.Entries.{rising_without_entry}
use Rattle.mc_words.specs.declared.hand.held.StripeHeld.{StripeHeld}
use Rattle.mc_words.specs.declared.hand.Hand.{Hand}
use Rattle.mc_words.specs.hand.Arenas.{view}
use Rattle.mc_words.specs.hand.View.{Setup, View}
use Rattle.mc_words.specs.hand.Views.{call_reserved}
use Rattle.mc_words.proofs.Hands.HandNumbers.{number_stays}
use Rattle.mc_items.proofs.Clears.{each_more, led_there, one_aside, one_deleted, one_fewer, one_index, one_keeps, some_more}
use Rattle.mc_items.proofs.Left.{Kept, kept_of}
use Rattle.mc_items.proofs.clearing.delete_keys.Goals as goal

-- the stripe's keys are so, of the arena's stripes
of_setup : (setup setup' : Setup) (number : ℕ) (value : ReadyStripe) → setup ≡ setup' → ((key : ℕ) (place : ChunkId × ℕ) → chunk_and_stamp value.state key ≡ Some place → key % setup.config.stripes ≡ number)
    → (key : ℕ) (place : ChunkId × ℕ) → chunk_and_stamp value.state key ≡ Some place → key % setup'.config.stripes ≡ number
of_setup setup setup' number value same keys key place leads = ap (λ (s : Setup). key % s.config.stripes) (sym same) ∙ keys key place leads

pub loop-key-init : goal.loop-key-init
loop-key-init c = record {
  arena = c.requires.arena;
  locks = refl;
  number = refl;
  same = refl;
  mine = c.requires.lent.mine;
  aside = c.requires.lent.whole;
  fresh = c.requires.fresh;
  rising = c.requires.lent.legal.rising;
  keys = of_setup _ _ c.args.held.now.number c.args.held.now.stripe c.requires.arena.setup c.requires.lent.keys;
  done = record { keys = []; deletes = (refl, refl); each = IsPermutation-refl (keys_of c.args.held.now.stripe.state.index) };
}

pub unlink-requires-clause-of_key : goal.unlink-requires-clause-of_key
unlink-requires-clause-of_key c =
    let value : ReadyStripe = c.loop-key.held.stripe in
    let is : IsSome (chunk_and_stamp value.state c.in-Some.key) = subst (λ (v : ReadyStripe). IsSome (chunk_and_stamp v.state c.in-Some.key)) c.stripe-in-loop-key.ensures.stripe c.in-Some.ensures.there in
    let (place, leads) = some_is (chunk_and_stamp value.state c.in-Some.key) is in
    c.loop-key.invariant.keys c.in-Some.key place leads ∙ sym c.reserve_call.ensures.number

-- room for a call, as the hand and the stripe had it
made_at : (before made : Hand) (stripe stripe' : ℕ) (value : ReadyStripe) → view made ≡ call_reserved stripe value (before.number + 1) (view before) → stripe' ≡ stripe → view made ≡ call_reserved stripe' value (made.number + 1) (view before)
made_at before made stripe stripe' value is same =
    let number : before.number ≡ made.number = sym (number_stays before made (ap (λ (v : View). v.row.ids) is)) in
    is ∙ (λ k. call_reserved (sym same k) value (number k + 1) (view before))

pub loop-key-smaller : goal.loop-key-smaller
loop-key-smaller c =
    let value : ReadyStripe = c.loop-key.held.stripe in
    let key = c.in-Some.key in
    let reserve = c.in_ok-reserve_call.ensures in
    let made : View = c.reserve_call.new.hand.seat.me.0 in
    let ready : ReadyStripe = c.reserve_call.new.held.stripe in
    let left : ReadyStripe = c.unlink.new.held.stripe in
    let is : IsSome (chunk_and_stamp value.state key) = subst (λ (v : ReadyStripe). IsSome (chunk_and_stamp v.state key)) c.stripe-in-loop-key.ensures.stripe c.in-Some.ensures.there in
    let fresh : has_fresh made.row.holdings ≡ false = ap (λ (v : View). has_fresh v.row.holdings) reserve.view ∙ c.loop-key.invariant.fresh in
    let index : left.state.index ≡ without_entry value.state.index key =
    one_index c.reserve_call.new.hand.number c.reserve_call.new.held.number key c.reserve_call.new.hand.number c.reserve_call.new.held.number value ready left c.loop-key.hand.seat.me.0 made c.unlink.new.hand.seat.me.0 c.unlink.result refl refl
    (ap (λ (h : StripeHeld). h.stripe) reserve.reserved) (made_at c.loop-key.hand c.reserve_call.new.hand c.loop-key.held.number c.reserve_call.new.held.number value reserve.view reserve.number) c.unlink.ensures.there is fresh c.unlink.ensures.unlinked c.unlink.ensures.stripe in
    subst (λ (i : Index). length i < length value.state.index) (sym index) (one_fewer value.state.index key is)

pub loop-key-preserved : goal.loop-key-preserved
loop-key-preserved c =
    let inv = c.loop-key.invariant in
    let before = c.loop-key.hand in
    let view : View = before.seat.me.0 in
    let value : ReadyStripe = c.loop-key.held.stripe in
    let key = c.in-Some.key in
    let reserve = c.in_ok-reserve_call.ensures in
    let made : View = c.reserve_call.new.hand.seat.me.0 in
    let ready : ReadyStripe = c.reserve_call.new.held.stripe in
    let got : View = c.unlink.new.hand.seat.me.0 in
    let left : ReadyStripe = c.unlink.new.held.stripe in
    let number = c.args.hand.now.number in
    let stripe = c.args.held.now.number in
    let ids = number_stays before c.reserve_call.new.hand (ap (λ (v : View). v.row.ids) reserve.view) in
    let numbers : c.reserve_call.new.hand.number ≡ number = ids ∙ inv.number in
    let stripes : c.reserve_call.new.held.number ≡ stripe = reserve.number ∙ inv.same in
    let readies = ap (λ (h : StripeHeld). h.stripe) reserve.reserved in
    let mades : made ≡ call_reserved stripe value (number + 1) view = reserve.view ∙ (λ k. call_reserved (inv.same k) value (inv.number k + 1) view) in
    let is : IsSome (chunk_and_stamp value.state key) = subst (λ (v : ReadyStripe). IsSome (chunk_and_stamp v.state key)) c.stripe-in-loop-key.ensures.stripe c.in-Some.ensures.there in
    let fresh : has_fresh made.row.holdings ≡ false = ap (λ (v : View). has_fresh v.row.holdings) reserve.view ∙ inv.fresh in
    let kept : kept_of got ≡ kept_of view =
    one_keeps number stripe key c.reserve_call.new.hand.number c.reserve_call.new.held.number value ready left view made got c.unlink.result numbers stripes readies mades c.unlink.ensures.there is fresh c.unlink.ensures.unlinked c.unlink.ensures.stripe in
    let index : left.state.index ≡ without_entry value.state.index key =
    one_index number stripe key c.reserve_call.new.hand.number c.reserve_call.new.held.number value ready left view made got c.unlink.result numbers stripes readies mades c.unlink.ensures.there is fresh c.unlink.ensures.unlinked c.unlink.ensures.stripe in
    let one = one_deleted number stripe key c.reserve_call.new.hand.number c.reserve_call.new.held.number value ready left view made got c.unlink.result numbers stripes readies mades c.unlink.ensures.there is fresh c.unlink.ensures.unlinked c.unlink.ensures.stripe in
    record {
      arena = c.unlink.ensures.arena;
      locks = c.unlink.ensures.locks ∙ (c.reserve_call.ensures.locks ∙ inv.locks);
      number = number_stays before c.unlink.new.hand (ap (λ (k : Kept). k.3) kept) ∙ inv.number;
      same = c.unlink.ensures.number ∙ stripes;
      mine = c.unlink.ensures.held;
      aside = one_aside number stripe key c.reserve_call.new.hand.number c.reserve_call.new.held.number value ready left view made got c.unlink.result numbers stripes readies mades c.unlink.ensures.there is fresh c.unlink.ensures.unlinked c.unlink.ensures.stripe ∙ inv.aside;
      fresh = ap (λ (k : Kept). has_fresh k.0) kept ∙ inv.fresh;
      rising = subst AreRising (sym index) (rising_without_entry value.state.index key inv.rising);
      keys = λ q place leads.
          inv.keys q place (led_there value.state.index key q place inv.rising (ap (λ (i : Index). entry_at i q) (sym index) ∙ leads))
          ∙ sym (c.unlink.ensures.number ∙ reserve.number);
      done = record {
        keys = inv.done.keys ++ key ∷ [];
        deletes = each_more number stripe key inv.done.keys c.args.held.now.stripe value left c.args.hand.now.seat.me.0 view got inv.done.deletes one;
        each = subst (λ (i : Index). IsPermutation (keys_of c.args.held.now.stripe.state.index) ((inv.done.keys ++ key ∷ []) ++ keys_of i)) (sym index)
            (some_more c.args.held.now.stripe.state.index value.state.index inv.done.keys key is inv.done.each);
      };
    }
