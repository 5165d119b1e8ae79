-- An item that is taken away under both locks, from the parts of the call.
use Rattle.std.proofs.Common.{◌≡◌, ℕ, ◌+◌, ◌%◌, ◌==◌, ◌||◌, Bool, true, false, not, is_some, if◌then◌else◌, List, [], ◌∷◌, ◌++◌, Some, None, nat_lt, refl, sym, ap, subst, ◌∙◌}
use Rattle.std.specs.Option.{option_map, option_map_or}
use Rattle.std.proofs.lemmas.List.Sums.{fold-append}
use Rattle.mc_pages.specs.declared.ids.ChunkId.{ChunkId}
use Rattle.mc_pages.specs.SlabState.{SlabState}
use Rattle.mc_stripe.specs.Changes.{after_reserve_call}
use Rattle.mc_stripe.specs.StripeState.{ReadyStripe}
use Rattle.mc_core.specs.declared.holding.Holding.{Holding}
use Rattle.mc_core.specs.declared.look.Look.{Look}
use Rattle.mc_core.specs.declared.look.Look.TheVariants.{SawStripe}
use Rattle.mc_core.specs.run.Chunks.{most_issue}
use Rattle.mc_core.specs.law.Seen.{last_head, last_read}
use Rattle.mc_words.specs.lock.Doing.{Doing, UsesRoomForCall}
use Rattle.mc_words.specs.hand.View.{View}
use Rattle.mc_words.specs.item.Removal.{knows_reason, stripe_read}
use Rattle.mc_words.specs.item.Items.{word_read}
use Rattle.mc_words.specs.hand.Views.{stripe_given, call_reserved}
use Rattle.mc_words.proofs.Items.Reasoned.{alive_after_other, reason_after}

-- room was made in a stripe, under the slabs lock
module _ (view made : View) (slabs : SlabState) (mine : view.slabs ≡ Some slabs) (stripe word : ℕ) (value : ReadyStripe) (is : made ≡ call_reserved stripe value word view) where
  more : List Look
  more = view.row.looks ++ SawStripe stripe word ∷ []

  looks_are : made.row.looks ≡ view.row.looks ++ SawStripe stripe word ∷ []
  looks_are = ap (λ (v : View). v.row.looks) is ∙ ap (λ (b : Bool). if b then view.row.looks ++ SawStripe stripe word ∷ [] else view.row.looks) (ap is_some mine)

  pub stripe_still : (chunk : ChunkId) → stripe_read made chunk ≡ stripe_read view chunk
  stripe_still chunk =
      let read : word_read made chunk 0 ≡ word_read view chunk 0 = ap (λ (looks : List Look). Rattle.std.specs.List.fold (last_read chunk 0) None looks) looks_are ∙ fold-append (last_read chunk 0) None view.row.looks (SawStripe stripe word ∷ []) in
      (λ k. option_map (λ key. key % (is k).setup.config.stripes) (read k))

  pub reason_still : (chunk : ChunkId) → knows_reason slabs view.row.looks view.row.holdings chunk ≡ true → knows_reason slabs made.row.looks made.row.holdings chunk ≡ true
  reason_still chunk knows =
      subst (λ (p : List Look × List Holding). knows_reason slabs p.0 p.1 chunk ≡ true) (λ k. (sym looks_are k, sym (ap (λ (v : View). v.row.holdings) is) k))
      (reason_after slabs view.row.looks (view.row.looks ++ SawStripe stripe word ∷ []) view.row.holdings chunk
      (λ other was. alive_after_other view.row.looks (SawStripe stripe word) other refl refl ∙ was)
      (λ other unfit. ap (λ seen. other.page == chunk.page || option_map_or (λ head. not (nat_lt head.issue most_issue)) seen false) (fold-append (last_head other) None view.row.looks (SawStripe stripe word ∷ [])) ∙ unfit)
      knows)

-- the call
pub done_so : (Does : ℕ → ℕ → Doing) (number stripe : ℕ) (value : ReadyStripe) (view made last now : View) (number' stripe' stripe'' : ℕ) (ready left : ReadyStripe) → number' ≡ number → stripe' ≡ stripe → stripe'' ≡ stripe → ready ≡ after_reserve_call value
    → made ≡ call_reserved stripe value (number + 1) view → Does number' stripe' ready made left last → now ≡ stripe_given stripe'' left last → UsesRoomForCall number stripe value (Does number stripe) view now
done_so Does number stripe value view made last now number' stripe' stripe'' ready left numbers stripes stripes' readies mades does given = record {
  left = left;
  last = last;
  does = subst (λ (p : View × ℕ × ℕ × ReadyStripe). Does p.1 p.2 p.3 p.0 left last) (λ k. (mades k, numbers k, stripes k, readies k)) does;
  given = given ∙ ap (λ n. stripe_given n left last) stripes';
}
