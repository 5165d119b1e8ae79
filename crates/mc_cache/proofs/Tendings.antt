-- A tender's windows, shard by shard.
use Rattle.std.proofs.Common.{◌≡◌, ◌<◌, ◌≤◌, ◌+◌, ◌++◌, ◌∷◌, ◌∙◌, [], ℕ, List, ap, arith, fold, get_or, length, length-append, refl, set, sym, ⊎_elim}
use Rattle.std.proofs.lemmas.Bool.{cases_eq}
use Rattle.std.proofs.lemmas.List.{get_or-set_other, get_or-set_same, get_or_append_left, get_or_at, get_or_default}
use Rattle.std.proofs.lemmas.List.Sums.{fold-append}
use Rattle.mc_watch.specs.Decider.{DeciderState}
use Rattle.mc_words.specs.declared.hand.Hand.{Hand}
use Rattle.mc_words.specs.hand.Arenas.{view}
use Rattle.mc_items.specs.Keeping.{StoresNothing}
use Rattle.mc_cache.specs.Tending.{SayNothing, TendsFirst}

-- what has another in one place, where it is this and that it was
pub at_place : {A : Type 0} (xs : List A) (place k : ℕ) (y d : A) → k ≡ place → place < length xs → get_or (set xs place y) k d ≡ y
at_place xs place k y d same in_range = ap (λ (n : ℕ). get_or (set xs place y) n d) same ∙ get_or-set_same xs place y d in_range

pub was_there : {A : Type 0} (xs ys : List A) (place k : ℕ) (x d : A) → k ≡ place → place < length xs → x ≡ get_or xs place x → ((shard : ℕ) (e : A) → place ≤ shard → get_or xs shard e ≡ get_or ys shard e) → get_or ys k d ≡ x
was_there xs ys place k x d same in_range is rest = sym (rest k d (omega arith)) ∙ ap (λ (n : ℕ). get_or xs n d) same ∙ sym (is ∙ get_or_default xs place x d in_range)

module _ {Share Total : Type 0} (Tends : Share → DeciderState → Hand → DeciderState → Hand → Type 0) (with_share : Total → Share → Total) (nothing : Total) where
  -- up to a shard windows were done, and from there on all is as it was
  pub record AreTended (count : ℕ) (hands : List Hand) (deciders : List DeciderState) (hands_now : List Hand) (deciders_now : List DeciderState) (done : Total) : Type 0 where
    pub shares : List Share
    pub first : TendsFirst Tends count hands deciders hands_now deciders_now shares
    pub counted : done ≡ fold with_share nothing shares
    pub hands_left : (shard : ℕ) (hand : Hand) → count ≤ shard → get_or hands_now shard hand ≡ get_or hands shard hand
    pub deciders_left : (shard : ℕ) (decider : DeciderState) → count ≤ shard → get_or deciders_now shard decider ≡ get_or deciders shard decider

  pub none_tended : (hands : List Hand) (deciders : List DeciderState) (done : Total) → done ≡ nothing → AreTended 0 hands deciders hands deciders done
  none_tended hands deciders done is = record {
    shares = [];
    first = record { shared = refl; each = λ shard share hand now decider left in_range. absurd (omega arith) };
    counted = is;
    hands_left = λ shard hand from. refl;
    deciders_left = λ shard decider from. refl;
  }

  pub one_tended : (count : ℕ) (hands : List Hand) (deciders : List DeciderState) (hands_now : List Hand) (deciders_now : List DeciderState) (done after : Total) (share : Share) (hand now : Hand) (decider left : DeciderState)
      → count < length hands_now → count < length deciders_now → hand ≡ get_or hands_now count hand → decider ≡ get_or deciders_now count decider → Tends share decider hand left now → after ≡ with_share done share
      → AreTended count hands deciders hands_now deciders_now done → AreTended (count + 1) hands deciders (set hands_now count now) (set deciders_now count left) after
  one_tended count hands deciders hands_now deciders_now done after share hand now decider left in_range near_decider is_hand is_decider tends is h = record {
    shares = h.shares ++ share ∷ [];
    first = record {
      shared = omega (arith, length-append h.shares (share ∷ []), h.first.shared);
      each = λ k sh a b d e less.
          ⊎_elim
          (λ (same : k ≡ count).
          let e1 : get_or (h.shares ++ share ∷ []) k sh ≡ share = get_or_at h.shares share [] sh k (h.first.shared ∙ sym same) in
          let e2 : get_or deciders k d ≡ decider = was_there deciders_now deciders count k decider d same near_decider is_decider h.deciders_left in
          let e3 : get_or hands k a ≡ hand = was_there hands_now hands count k hand a same in_range is_hand h.hands_left in
          let e4 : get_or (set deciders_now count left) k e ≡ left = at_place deciders_now count k left e same near_decider in
          let e5 : get_or (set hands_now count now) k b ≡ now = at_place hands_now count k now b same in_range in
          rw (e1, e2, e3, e4, e5) tends)
          (λ (other : k ≡ count → ⊥).
          let before : k < count = omega arith in
          let e1 : get_or (h.shares ++ share ∷ []) k sh ≡ get_or h.shares k sh = get_or_append_left h.shares (share ∷ []) sh k (omega (arith, h.first.shared)) in
          let e4 : get_or (set deciders_now count left) k e ≡ get_or deciders_now k e = get_or-set_other deciders_now count k left e other in
          let e5 : get_or (set hands_now count now) k b ≡ get_or hands_now k b = get_or-set_other hands_now count k now b other in
          rw (e1, e4, e5) (h.first.each k sh a b d e before))
          (cases_eq k count);
    };
    counted = is ∙ ap (λ (d : Total). with_share d share) h.counted ∙ sym (fold-append with_share nothing h.shares (share ∷ []));
    hands_left = λ k a from. get_or-set_other hands_now count k now a (λ (same : k ≡ count). omega arith) ∙ h.hands_left k a (omega arith);
    deciders_left = λ k d from. get_or-set_other deciders_now count k left d (λ (same : k ≡ count). omega arith) ∙ h.deciders_left k d (omega arith);
  }

  -- at the shard at which a window was refused, those before it had theirs
  pub tended_before : (count : ℕ) (hands : List Hand) (deciders : List DeciderState) (hands_now : List Hand) (deciders_now : List DeciderState) (done : Total) (now : Hand) (left : DeciderState) → (h : AreTended count hands deciders hands_now deciders_now done)
      → TendsFirst Tends count hands deciders (set hands_now count now) (set deciders_now count left) h.shares
  tended_before count hands deciders hands_now deciders_now done now left h = record {
    shared = h.first.shared;
    each = λ k sh a b d e less.
        let apart : k ≡ count → ⊥ = λ same. omega arith in
        let e4 : get_or (set deciders_now count left) k e ≡ get_or deciders_now k e = get_or-set_other deciders_now count k left e apart in
        let e5 : get_or (set hands_now count now) k b ≡ get_or hands_now k b = get_or-set_other hands_now count k now b apart in
        rw (e4, e5) (h.first.each k sh a b d e less);
  }

pub none_said : (hands : List Hand) → SayNothing hands hands
none_said hands shard hand after in_range = ap (λ (h : Hand). (view h).row.knows.stored) (get_or_default hands shard after hand in_range)

-- one hand more was used, and said nothing
pub still_unsaid : (hands hands_now : List Hand) (count : ℕ) (hand now : Hand) → length hands ≡ length hands_now → count < length hands_now → hand ≡ get_or hands_now count hand → StoresNothing (view hand) (view now) → SayNothing hands hands_now → SayNothing hands (set hands_now count now)
still_unsaid hands hands_now count hand now len in_range is stores_nothing h = λ k a b less.
    ⊎_elim
    (λ (same : k ≡ count).
    let e5 : get_or (set hands_now count now) k b ≡ now = at_place hands_now count k now b same in_range in
    let was : get_or hands_now k hand ≡ hand = ap (λ (n : ℕ). get_or hands_now n hand) same ∙ sym is in
    ap (λ (x : Hand). (view x).row.knows.stored) e5 ∙ stores_nothing ∙ ap (λ (x : Hand). (view x).row.knows.stored) (sym was) ∙ h k a hand less)
    (λ (other : k ≡ count → ⊥). ap (λ (x : Hand). (view x).row.knows.stored) (get_or-set_other hands_now count k now b other) ∙ h k a b less)
    (cases_eq k count)

-- and those behind it are as they were
pub still_behind : {X : Type 0} (count : ℕ) (xs xs_now : List X) (now : X) → ((place : ℕ) (x : X) → count ≤ place → get_or xs_now place x ≡ get_or xs place x) → (place : ℕ) (x : X) → count < place → get_or (set xs_now count now) place x ≡ get_or xs place x
still_behind count xs xs_now now left place x behind = get_or-set_other xs_now count place now x (λ (same : place ≡ count). omega arith) ∙ left place x (omega arith)
