use Rattle.std.proofs.Common.{Option, ap, ◌∙◌}
use Rattle.std.specs.Option.{option_and_then}
use Rattle.mc_cache.specs.Opening.{cache_refusal}
use Rattle.mc_c.specs.declared.client.Client.{Client}
use Rattle.mc_c.specs.Configs.{config_for}
use Rattle.mc_c.specs.Handles.{tender_in, worker_in}
use Rattle.mc_c.proofs.Opened.{no_success}
use Rattle.mc_c.proofs.mc_open.Goals as goal

pub returns-in-Err-clause-opens : goal.returns-in-Err-clause-opens
returns-in-Err-clause-opens c = λ zero. absurd (no_success (cache_refusal (config_for c.args.config.now c.args.workers)) c.in-Err.code c.in-Err.ensures.refused zero)

pub returns-clause-opens : goal.returns-clause-opens
returns-clause-opens c = λ zero. record {
  worker = c.in-Ok.made.0;
  leads_first = ap (λ (client : Option Client). option_and_then worker_in client) c.of.ensures ∙ ap worker_in c.in-Ok-new.ensures.ok;
  tends = c.in-Ok.made.1;
  leads_tender = ap (λ (client : Option Client). option_and_then tender_in client) c.of-2.ensures ∙ ap tender_in c.in-Ok-new-2.ensures.ok;
  opens = c.in-Ok.ensures.opens;
}
