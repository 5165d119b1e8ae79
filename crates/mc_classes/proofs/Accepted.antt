-- What the tests leave of a configuration that none of them refuses.
use Rattle.std.proofs.Common.{◌≡◌, ℕ, ◌/◌, ◌%◌, ◌<◌, ◌≤◌, Bool, true, false, not, leb, Option, None, Some, refl, sym, cond}
use Rattle.std.proofs.lemmas.Bool.{and_parts, leb-true, ltb-true, eqb-true}
use Rattle.std.proofs.lemmas.Option.{none-some}
use Rattle.mc_classes.specs.declared.config.Config.{Config}
use Rattle.mc_classes.specs.declared.config.ConfigError.{ConfigError}
use Rattle.mc_classes.specs.Limits.{least_page_bytes, most_page_bytes, most_pages, most_stripes, most_page_chunks, most_bulk}
use Rattle.mc_classes.specs.Refusals.{config_refusal, first_size, is_between}

-- each number is within its bounds
pub record IsAccepted (config : Config) : Type 0 where
  pub page_multiple : config.page % 8 ≡ 0
  pub page : (least_page_bytes ≤ config.page) × (config.page ≤ most_page_bytes)
  pub first : (24 ≤ config.first) × (config.first ≤ config.page)
  pub factor : (0 < config.den) × (config.den < config.num) × (config.num ≤ 65535)
  pub max_multiple : config.max % 8 ≡ 0
  pub max : (config.first ≤ config.max) × (config.max ≤ config.page)
  pub pages : (1 ≤ config.limit / config.page) × (config.limit / config.page ≤ most_pages)
  pub stripes : (1 ≤ config.stripes) × (config.stripes ≤ most_stripes)
  pub chunks : config.page / first_size config ≤ most_page_chunks
  pub bulk : (1 ≤ config.bulk) × (config.bulk ≤ most_bulk)

-- a test that does not refuse is passed, and the next one follows
passed : (test : Bool) (error : ConfigError) (rest : Option ConfigError) → cond (not test) (Some error) rest ≡ None → (test ≡ true) × (rest ≡ None)
passed true error rest h = (refl, h)
passed false error rest h = absurd (none-some error (sym h))

between : (low high n : ℕ) → is_between low high n ≡ true → (low ≤ n) × (n ≤ high)
between low high n h =
    let parts = and_parts (leb low n) (leb n high) h in
    (leb-true low n parts.0, leb-true n high parts.1)

pub accepted : (config : Config) → config_refusal config ≡ None → IsAccepted config
accepted config h =
    let page = passed _ _ _ h in
    let first = passed _ _ _ page.1 in
    let factor = passed _ _ _ first.1 in
    let max = passed _ _ _ factor.1 in
    let limit = passed _ _ _ max.1 in
    let stripes = passed _ _ _ limit.1 in
    let chunks = passed _ _ _ stripes.1 in
    let bulk = passed _ _ _ chunks.1 in
    let page_parts = and_parts _ _ page.0 in
    let den_parts = and_parts _ _ factor.0 in
    let num_parts = and_parts _ _ den_parts.0 in
    let max_parts = and_parts _ _ max.0 in
    record {
      page_multiple = eqb-true _ _ page_parts.0;
      page = between _ _ _ page_parts.1;
      first = between _ _ _ first.0;
      factor = (ltb-true _ _ num_parts.0, ltb-true _ _ num_parts.1, leb-true _ _ den_parts.1);
      max_multiple = eqb-true _ _ max_parts.0;
      max = between _ _ _ max_parts.1;
      pages = between _ _ _ limit.0;
      stripes = between _ _ _ stripes.0;
      chunks = leb-true _ _ chunks.0;
      bulk = between _ _ _ bulk.0;
    }
