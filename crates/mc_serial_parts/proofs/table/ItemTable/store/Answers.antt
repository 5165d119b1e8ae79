use Rattle.std.proofs.Common.{◌∙◌, ap, refl}
use Rattle.std.proofs.lemmas.Result.{err_from_is_err_and}
use Rattle.std.specs.Vec.{with_item as with_item_at}
use Rattle.mc_serial_spec.specs.Item.{new_item}
use Rattle.mc_serial_spec.specs.Items.{Items, with_item}
use Rattle.mc_serial_parts.specs.NewWords.{words_of_new}
use Rattle.mc_serial_parts.proofs.ItemPlaces.{come_there, kept_there}
use Rattle.mc_serial_parts.proofs.table.ItemTable.store.Goals as goal

pub returns-clause-entries : goal.returns-clause-entries
returns-clause-entries c =
    rw c.in_ok-fill.ensures.filled
    (come_there c.reach.new.pages.items c.args.chunk c.index_mut.result.now c.in_ok-reach.ensures.there c.index_mut.ensures.value _ (new_item c.args.key (words_of_new c.args.words)) refl
    ∙ ap (λ (items : Items). with_item items c.args.chunk (new_item c.args.key (words_of_new c.args.words))) (c.in_ok-reach.ensures.same ∙ c.self.view_is))

-- what was there stays
pub returns-in_err-fill-clause-unchanged : goal.returns-in_err-fill-clause-unchanged
returns-in_err-fill-clause-unchanged c =
    let p = err_from_is_err_and c.from_residual-in_err-fill.result c.from_residual-in_err-fill.ensures.1 in
    rw (p.1, c.in_err-fill.ensures.unchanged)
    (kept_there c.reach.new.pages.items c.args.chunk c.index_mut.result.now c.in_ok-reach.ensures.there c.index_mut.ensures.value
    (with_item_at c.index_mut.result.now c.args.chunk.index c.index_mut-2.result.now) c.index_mut-2.result.now c.index_mut-2.ensures.value refl
    ∙ c.in_ok-reach.ensures.same ∙ c.self.view_is)
