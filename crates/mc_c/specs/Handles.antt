-- What a handle leads to, and a call by it.
use Rattle.std.specs.Prelude.{◌≡◌, ℕ, ◌==◌, if◌then◌else◌, Option, None, Some}
use Rattle.std.specs.Option.{option_and_then}
use Rattle.mc_c.specs.declared.client.Client.{Client}
use Rattle.mc_c.specs.declared.client.Client.TheVariants.{Worker, Tender}
use Rattle.mc_c.specs.declared.client.TenderClient.{TenderClient}
use Rattle.mc_c.specs.declared.client.WorkerClient.{WorkerClient}
use Rattle.mc_c.specs.declared.handle.Handle.{Handle}

-- the client that a handle leads to, if the handle is open
abbrev pub client_of : Handle → Option Client
client_of handle = if handle.state == 1 then Some handle.owner.client else None

-- the worker that a client is, if it is one
abbrev pub worker_in : Client → Option WorkerClient
worker_in (Worker worker) = Some worker
worker_in (Tender tender) = None

-- the tender that a client is, if it is one
abbrev pub tender_in : Client → Option TenderClient
tender_in (Worker worker) = None
tender_in (Tender tender) = Some tender

-- the worker of an open handle of a worker
abbrev pub worker_of : Handle → Option WorkerClient
worker_of handle = option_and_then worker_in (client_of handle)

-- the tender of an open handle of the tender
abbrev pub tender_of : Handle → Option TenderClient
tender_of handle = option_and_then tender_in (client_of handle)

-- the call did this with the client of the handle; where the handle has none, it returned 9 and left the handle
pub record ActsOn {A : Type 0} (found : Handle → Option A) (Does : A → A → Type 0) (code : ℕ) (before now : Handle) : Type 0 where
  pub acts : (client : A) → found before ≡ Some client → (after : A) × (found now ≡ Some after) × Does client after
  pub closed : found before ≡ None → (code ≡ 9) × (client_of now ≡ client_of before)
