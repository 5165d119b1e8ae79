-- One that was taken from a stock.
use Rattle.std.proofs.Common.{◌≡◌, ◌∙◌, ℕ, List, Option, None, Some, Result, Ok, Err, refl, subst, sym}
use Rattle.std.specs.Fmt.{decimal}
use Rattle.mc_script.specs.Words.{parsed_number}
use Rattle.mc_cache.specs.declared.cache.Cache.{Cache}
use Rattle.mc_cache.specs.declared.cache.Worker.{Worker}
use Rattle.mc_shard.specs.declared.conditions.Outcome.TheVariants.{Stored}
use Rattle.mc_shard.specs.declared.conditions.When.TheVariants.{Version}
use Rattle.mc_cache.specs.Belonging.{ActsOnKey, hash_in}
use Rattle.mc_cache.specs.Conditional.{SetsValueIf, VersionsAreReplaced}
use Rattle.mc_update.specs.Changes.{number_before}
use Rattle.mc_update.specs.Counting.{CountsValue, ReturnsNumber}
use Rattle.mc_update.specs.Updates.{ChangesValue}
use Rattle.mc_update.specs.declared.change.Change.TheVariants.{Decrement}
use Rattle.mc_update.specs.declared.updater.ChangeError.{ChangeError}
use Rattle.mc_update.proofs.Counted.{digits_of}
use Rattle.example_calls.specs.Stocked.{TakesOne}
use Rattle.example_calls.proofs.Replaced.{stored_over}

module _ (cache : Cache) (key value : List ℕ) (n : ℕ) (before now : Worker) (law : VersionsAreReplaced) where
  taken : (changed : Result (Option ℕ) ChangeError) → ChangesValue cache key (Decrement 1) value changed before now → ReturnsNumber changed value (Ok (Some n)) → TakesOne cache key n now
  taken (Ok (Some stamp)) did returns =
      let set = did.ends in
      let same : returns.0 ≡ n = cc in
      let digits : value ≡ decimal n = subst (λ (m : ℕ). value ≡ decimal m) same returns.1 in
      let (count, read, made) = digits_of (number_before 1) set.old (parsed_number set.old) value refl set.changes in
      record {
        old = set.old;
        count = count;
        writes = read;
        one_less = sym digits ∙ made;
        version = set.version;
        before = did.between;
        between = set.between;
        finds = set.gets.reads;
        stamp = stamp;
        stores = stored_over cache key (decimal n) set.version stamp set.between now law (subst (λ (bytes : List ℕ). ActsOnKey cache key (SetsValueIf (hash_in cache key) key bytes (Version set.version) (Ok (Stored stamp))) set.between now) digits set.sets);
      }
  taken (Ok None) did returns = absurd (cc)
  taken (Err error) did returns = absurd (cc)

  -- a decrement that returned n
  pub takes_one : CountsValue cache key (Decrement 1) value (Ok (Some n)) before now → TakesOne cache key n now
  takes_one counts = taken counts.changed counts.changes counts.returns
