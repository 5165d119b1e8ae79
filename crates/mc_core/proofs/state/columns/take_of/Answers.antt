use Rattle.std.proofs.Common.{◌∙◌, ap, sym}
use Rattle.std.specs.List.{position}
use Rattle.std.proofs.lemmas.List.Quantifiers.{position-Some}
use Rattle.mc_core.specs.model.Holdings.{is_of_chunk}
use Rattle.mc_core.proofs.Steps.Lists.{lost_at, found_at, found_nowhere, lost_nowhere, holding_at}
use Rattle.mc_core.proofs.state.columns.take_of.Goals as goal

pub returns-in-Some-clause-holding : goal.returns-in-Some-clause-holding
returns-in-Some-clause-holding c =
    let test = is_of_chunk c.args.chunk in
    let at = ap (position test) (sym c.as_slice.ensures) ∙ sym c.place_of.ensures ∙ c.in-Some.is in
    sym
    (found_at test c.args.holdings.now c.in-Some.place at
    ∙ holding_at c.args.holdings.now c.in-Some.place c.remove.result (position-Some test c.args.holdings.now c.in-Some.place c.remove.result at).0 c.remove.ensures.value)

pub returns-in-Some-clause-without : goal.returns-in-Some-clause-without
returns-in-Some-clause-without c =
    let test = is_of_chunk c.args.chunk in
    let at = ap (position test) (sym c.as_slice.ensures) ∙ sym c.place_of.ensures ∙ c.in-Some.is in
    c.remove.ensures.rest ∙ sym (lost_at test c.args.holdings.now c.in-Some.place at)

pub returns-in-None-clause-holding : goal.returns-in-None-clause-holding
returns-in-None-clause-holding c =
    let test = is_of_chunk c.args.chunk in
    sym (found_nowhere test c.args.holdings.now (ap (position test) (sym c.as_slice.ensures) ∙ sym c.place_of.ensures ∙ c.in-None.is))

pub returns-in-None-clause-without : goal.returns-in-None-clause-without
returns-in-None-clause-without c =
    let test = is_of_chunk c.args.chunk in
    sym (lost_nowhere test c.args.holdings.now (ap (position test) (sym c.as_slice.ensures) ∙ sym c.place_of.ensures ∙ c.in-None.is))
