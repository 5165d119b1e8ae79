use Rattle.std.proofs.Common.{ℕ, List, ◌++◌, ap, append_assoc, ◌∙◌}
use Rattle.std.specs.Prelude.{codes, string_bytes}
use Rattle.serde_json.specs.Written.{compact_text, has_float}
use Rattle.mcmap.proofs.NoFloat.{no_float_map}
use Rattle.mcmap.specs.Json.{map_json}
use Rattle.mcmap.proofs.json.write_json.Goals as goal

pub returns : goal.returns
returns c =
    let value = c.in_ok-value.ensures in
    let old = string_bytes c.args.text.now in
    let none = ap has_float value ∙ no_float_map c.args.line c.args.map.now in
    let written = c.as_str.ensures.value ∙ (c.in_ok-written.ensures.text none ∙ ap compact_text value) in
    record {
      json = c.in_ok-push_str-2.ensures.bytes
          ∙ ap (λ (l : List ℕ). l ++ codes "\n") (c.in_ok-push_str.ensures.bytes ∙ ap (λ (l : List ℕ). old ++ l) written)
          ∙ append_assoc old (compact_text (map_json c.args.line c.args.map.now)) (codes "\n");
    }
