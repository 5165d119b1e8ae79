-- Which configurations are refused, and why.
use Rattle.std.specs.Prelude.{ℕ, ◌+◌, ◌*◌, ◌/◌, ◌%◌, ◌==◌, Bool, not, ◌&&◌, nat_le, nat_lt, if◌then◌else◌, Option, None, Some}
use Rattle.mc_classes.specs.Limits.{least_page_bytes, most_page_bytes, most_pages, most_stripes, most_page_chunks, most_bulk}
use Rattle.mc_classes.specs.declared.config.Config.{Config}
use Rattle.mc_classes.specs.declared.config.ConfigError.{ConfigError}
use Rattle.mc_classes.specs.declared.config.ConfigError.TheVariants.{PageSize, FirstSize, Factor, ChunkMax, Limit, Stripes, TooManyChunks, Bulk, NoMemory}

-- n is from low to high
abbrev pub is_between : ℕ → ℕ → ℕ → Bool
is_between low high n = nat_le low n && nat_le n high

-- the least multiple of 8 that is at least n
abbrev pub rounded_up : ℕ → ℕ
rounded_up n = (n + 7) / 8 * 8

-- a class of this raw size comes before the last class
abbrev pub is_below_max : Config → ℕ → Bool
is_below_max config raw = nat_lt (raw * config.num) (config.max * config.den)

-- the size of class 1
abbrev pub first_size : Config → ℕ
first_size config = if is_below_max config config.first then rounded_up config.first else config.max

-- the first test that the configuration fails, in the order of the refusals
abbrev pub config_refusal : Config → Option ConfigError
config_refusal config =
    if not (config.page % 8 == 0 && is_between least_page_bytes most_page_bytes config.page) then Some PageSize
    else if not (is_between 24 config.page config.first) then Some FirstSize
    else if not (nat_lt 0 config.den && nat_lt config.den config.num && nat_le config.num 65535) then Some Factor
    else if not (config.max % 8 == 0 && is_between config.first config.page config.max) then Some ChunkMax
    else if not (is_between 1 most_pages (config.limit / config.page)) then Some Limit
    else if not (is_between 1 most_stripes config.stripes) then Some Stripes
    else if not (nat_le (config.page / first_size config) most_page_chunks) then Some TooManyChunks
    else if not (is_between 1 most_bulk config.bulk) then Some Bulk
    else None

-- the number of a refusal, counted from 1 in the order of the tests
abbrev pub config_error_number : ConfigError → ℕ
config_error_number PageSize = 1
config_error_number FirstSize = 2
config_error_number Factor = 3
config_error_number ChunkMax = 4
config_error_number Limit = 5
config_error_number Stripes = 6
config_error_number TooManyChunks = 7
config_error_number Bulk = 8
config_error_number (NoMemory _) = 9
