use Rattle.std.proofs.Common.{◌∙◌, ℕ, List, Ok, Option, Result, ap, subst, true}
use Rattle.mc_cache.specs.Belonging.{ActsOnKey, hash_in}
use Rattle.mc_cache.specs.Versions.{ReadsVersion}
use Rattle.mc_expiry.specs.Storing.{StoresUntil}
use Rattle.mc_expiry.specs.declared.kinds.StoreKind.TheVariants.{Touch}
use Rattle.mc_expiry.specs.declared.storing.ExpiryError.{ExpiryError}
use Rattle.example_calls.proofs.Outcomes.{same_ok}
use Rattle.example_calls.proofs.cache.renewed.renew_and_get.Goals as goal

pub returns-in-Ok-clause-reads : goal.returns-in-Ok-clause-reads
returns-in-Ok-clause-reads g c = λ is.
    let cache = c.args.cache.now in
    let key = c.args.key.now in
    let between = c.touch_until.new.worker in
    let got = c.get.ensures.value (c.in-Ok.is ∙ ap Ok (same_ok c.in-Ok.found true is)) in
    record {
      version = c.in-Ok-Some._version;
      between = between;
      renews = subst (λ (r : Result (Option ℕ) ExpiryError). StoresUntil cache key Touch c.args.time c.args.deadline r c.args.worker.now between) (c.in-Ok-Some.is ∙ ap Ok c.in-Ok-Some.field-0-is) (c.touch_until.ensures.stores c.requires.key);
      value = got.value;
      added = got.added;
      its_deadline = got.finds.has.deadline;
      fits = got.finds.has.fits;
      unexpired = got.finds.has.unexpired;
      its_version = got.version;
      finds = subst (λ (bytes : List ℕ). ActsOnKey cache key (ReadsVersion (hash_in cache key) key bytes got.version) between c.get.new.worker) got.finds.has.is_timed got.finds.gets.reads;
    }
