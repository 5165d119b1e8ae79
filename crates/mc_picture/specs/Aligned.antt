-- Numbers in columns, at the right or at the left.
use Rattle.std.specs.Prelude.{ℕ, ◌-◌, ◌^◌, List}
use Rattle.std.specs.Fmt.{format_spec, styled_decimal}

-- a number at the right of n places, behind spaces
abbrev pub right : ℕ → ℕ → List ℕ
right width number = styled_decimal (format_spec 32 3 0 width (2 ^ 64 - 1)) number

-- a number at the left of n places, before spaces
abbrev pub left_aligned : ℕ → ℕ → List ℕ
left_aligned width number = styled_decimal (format_spec 32 1 0 width (2 ^ 64 - 1)) number
