use Rattle.mc_replies.proofs.Starts.{starts_append, starts_on}
use Rattle.mc_replies.proofs.text.push_spaced.Goals as goal

pub returns-in_err-push_number-clause-kept : goal.returns-in_err-push_number-clause-kept
returns-in_err-push_number-clause-kept c =
    let spaced = starts_append _ _ c.extend_from_slice.new.list.items c.in_ok-extend_from_slice.ensures.items in
    starts_on _ _ _ (starts_on _ _ _ c.loop-number.invariant.1 spaced) c.push_number.ensures.kept
