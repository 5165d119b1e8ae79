use Rattle.std.proofs.Common.{[], refl}
use Rattle.mc_stripe.specs.Sequential.{no_stamps}
use Rattle.mc_stripe.proofs.Sequential.{leads_from_replay, replay_from_leads}
use Rattle.mc_stripe.proofs.laws.replay_is_exact.Goals as goal

pub returns-clause-legal : goal.returns-clause-legal
returns-clause-legal c = λ history stamps is. leads_from_replay history no_stamps [] stamps tt (λ key. refl) is

pub returns-clause-replayed : goal.returns-clause-replayed
returns-clause-replayed c = λ history map leads. replay_from_leads history no_stamps map [] tt (λ key. refl) leads
