use Rattle.std.proofs.Common.{◌≡◌, ◌^◌, ◌<◌, drop}
use Rattle.std.specs.Str.{all_ascii_digits}
use Rattle.std.specs.Str.Parse.{digits_value, digits_value_after}
use Rattle.mc_script.proofs.number.number.Given as goal

-- the bytes that are left decide whether all are digits, and the number so far goes on with them
abbrev pub invariant-loop-byte : goal.invariant-loop-byte
invariant-loop-byte l =
    record {
      fits : l.value < 2 ^ 64;
      digits : all_ascii_digits (drop l.byte-index l.word) ≡ all_ascii_digits l.word;
      told : digits_value_after 10 l.value (drop l.byte-index l.word) ≡ digits_value 10 l.word;
    }
