-- A new cache, and the codes where none was made.
use Rattle.std.proofs.Common.{Option, Some, None, ◌≡◌, arith, inl, inr, subst, sym, ◌∙◌, List, ℕ}
use Rattle.mc_classes.specs.declared.config.ConfigError.TheVariants as config_error
use Rattle.mc_cache.specs.declared.cache.Cache.{Cache}
use Rattle.mc_cache.specs.declared.cache.Worker.{Worker}
use Rattle.mc_cache.specs.declared.hashing.HashKey.{HashKey}
use Rattle.mc_cache.specs.declared.opening.CacheConfig.{CacheConfig}
use Rattle.mc_cache.specs.declared.opening.NewError.{NewError}
use Rattle.mc_cache.specs.declared.opening.NewError.TheVariants as new_error
use Rattle.mc_cache.specs.declared.tending.Tender.{Tender}
use Rattle.mc_c.specs.Codes.{new_code}
use Rattle.mc_c.specs.Opening.{IsOpened, IsOpeningCode}

new_code_some : (error : NewError) → new_code error ≡ 0 → ⊥
new_code_some new_error.Shards is = absurd (omega (arith, is))
new_code_some new_error.Workers is = absurd (omega (arith, is))
new_code_some (new_error.Config config_error.PageSize) is = absurd (omega (arith, is))
new_code_some (new_error.Config config_error.FirstSize) is = absurd (omega (arith, is))
new_code_some (new_error.Config config_error.Factor) is = absurd (omega (arith, is))
new_code_some (new_error.Config config_error.ChunkMax) is = absurd (omega (arith, is))
new_code_some (new_error.Config config_error.Limit) is = absurd (omega (arith, is))
new_code_some (new_error.Config config_error.Stripes) is = absurd (omega (arith, is))
new_code_some (new_error.Config config_error.TooManyChunks) is = absurd (omega (arith, is))
new_code_some (new_error.Config config_error.Bulk) is = absurd (omega (arith, is))
new_code_some (new_error.Config (config_error.NoMemory refused)) is = absurd (omega (arith, is))
new_code_some (new_error.NoMemory refused) is = absurd (omega (arith, is))

-- no code of a cache that wasn't made is that of success
pub no_success : (refusal : Option NewError) (code : ℕ) → IsOpeningCode refusal code → code ≡ 0 → ⊥
no_success None code (inl held) is = absurd (omega (arith, held, is))
no_success None code (inr memory) is = absurd (omega (arith, memory, is))
no_success (Some error) code coded is = new_code_some error (sym coded ∙ is)

-- a cache that was made by these, where each of them is another name of what was asked for
pub opened_by : (own config : CacheConfig) (given hashing : HashKey) (made cache : Cache) (all workers : List Worker) (tender : Tender) → own ≡ config → given ≡ hashing → cache ≡ made → all ≡ workers → IsOpened own given made all tender → IsOpened config hashing cache workers tender
opened_by own config given hashing made cache all workers tender is_config is_hashing is_cache is_all opened =
    subst (λ (of : CacheConfig). IsOpened of hashing cache workers tender) is_config
    (subst (λ (of : HashKey). IsOpened own of cache workers tender) is_hashing
    (subst (λ (of : Cache). IsOpened own given of workers tender) (sym is_cache)
    (subst (λ (of : List Worker). IsOpened own given made of tender) is_all opened)))
