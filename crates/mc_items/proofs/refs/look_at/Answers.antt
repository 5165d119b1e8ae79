use Rattle.std.proofs.Common.{◌≡◌, ℕ, [], List, Some, length, slice_index, ap, sym, subst, ◌∙◌}
use Rattle.std.specs.Option.{option_map, option_map_or}
use Rattle.mc_pages.specs.declared.ids.ChunkId.{ChunkId}
use Rattle.mc_core.specs.declared.holding.Holding.{Holding}
use Rattle.mc_core.specs.model.Holdings.{holding_of, item_of}
use Rattle.mc_core.specs.model.Views.{Row}
use Rattle.mc_words.specs.hand.View.{View}
use Rattle.mc_items.proofs.refs.look_at.Goals as goal

-- the item in a chunk, as the row has it
abbrev item_in_row : Row → ChunkId → List ℕ
item_in_row row chunk = option_map_or item_of (holding_of chunk row.holdings) []

pub returns-clause-item : goal.returns-clause-item
returns-clause-item c =
    let chunk = c.args.reference.chunk in
    let same = ap (λ (v : View). v.row) c.fields-key.ensures.view in record {
      reference = c.fields-key.ensures.reference;
      issue = subst (λ (r : Row). option_map (λ (h : Holding). h.issue) (holding_of chunk r.holdings) ≡ Some c.args.reference.issue) (sym same) c.requires.issue;
      key = ap (λ (r : Row). slice_index (item_in_row r chunk) 0) same ∙ sym c.fields-key.ensures.key;
      stamp = ap (λ (r : Row). slice_index (item_in_row r chunk) 1) same ∙ sym c.fields-key.ensures.stamp;
      len = ap (λ (r : Row). length (item_in_row r chunk)) same ∙ c.fields-key.ensures.len;
    }
