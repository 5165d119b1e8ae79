-- Calls on the client of a handle.
use Rattle.std.proofs.Common.{◌≡◌, ℕ, ◌==◌, if◌then◌else◌, Option, None, Some, refl, subst, sym, ◌∙◌}
use Rattle.std.specs.Option.{option_and_then}
use Rattle.mc_c.specs.declared.client.Client.{Client}
use Rattle.mc_c.specs.declared.client.Client.TheVariants.{Worker, Tender}
use Rattle.mc_c.specs.declared.client.TenderClient.{TenderClient}
use Rattle.mc_c.specs.declared.client.WorkerClient.{WorkerClient}
use Rattle.mc_c.specs.declared.handle.Handle.{Handle}
use Rattle.mc_c.specs.Handles.{ActsOn, tender_in, tender_of, worker_in, worker_of}

pub some_same : {A : Type 0} (x y : A) → Some x ≡ Some y → x ≡ y
some_same x y is = cc

none_some : {A : Type 0} (x : A) → Some x ≡ None → ⊥
none_some x is = cc

-- an open handle of a client leads to what the client is
leads_to : {A : Type 0} (found : Client → Option A) (state : ℕ) (client : Client) (a : A) → state ≡ 1 → found client ≡ Some a → option_and_then found (if state == 1 then Some client else None) ≡ Some a
leads_to found state client a is_one is = rw is_one is

module _ {A : Type 0} (found : Client → Option A) (into : A → Client) (is_found : (a : A) → found (into a) ≡ Some a) where
  abbrev there : Handle → Option A
  there handle = option_and_then found (if handle.state == 1 then Some handle.owner.client else None)

  pub acted : (Does : A → A → Type 0) (code : ℕ) (before now : Handle) (client after : A) → before.state ≡ 1 → before.owner.client ≡ into client → now.state ≡ before.state → now.owner.client ≡ into after → Does client after → ActsOn there Does code before now
  acted Does code before now client after is_open is_client same_state is_after does =
      let was : there before ≡ Some client = leads_to found before.state before.owner.client client is_open (subst (λ (c : Client). found c ≡ Some client) (sym is_client) (is_found client)) in
      let left : there now ≡ Some after = leads_to found now.state now.owner.client after (same_state ∙ is_open) (subst (λ (c : Client). found c ≡ Some after) (sym is_after) (is_found after)) in
      record {
        acts = λ own is. (after, left, subst (λ (a : A). Does a after) (some_same client own (sym was ∙ is)) does);
        closed = λ none. absurd (none_some client (sym was ∙ none));
      }

pub worker_acted : (Does : WorkerClient → WorkerClient → Type 0) (code : ℕ) (before now : Handle) (client after : WorkerClient) → before.state ≡ 1 → before.owner.client ≡ Worker client → now.state ≡ before.state → now.owner.client ≡ Worker after → Does client after → ActsOn worker_of Does code before now
worker_acted = acted worker_in Worker (λ worker. refl)

pub tender_acted : (Does : TenderClient → TenderClient → Type 0) (code : ℕ) (before now : Handle) (client after : TenderClient) → before.state ≡ 1 → before.owner.client ≡ Tender client → now.state ≡ before.state → now.owner.client ≡ Tender after → Does client after → ActsOn tender_of Does code before now
tender_acted = acted tender_in Tender (λ tender. refl)
