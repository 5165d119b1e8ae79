use Rattle.std.proofs.Common.{◌∙◌, Err, ap, string_bytes}
use Rattle.mc_replay.proofs.Played.{all_played, not_all_played}
use Rattle.mc_replay.proofs.write.answer.Goals as goal

pub returns-in-Ok : goal.returns-in-Ok
returns-in-Ok c = all_played string_bytes _ _ _ _ _ _ c.played.result c.replay.ensures c.as_slice.ensures.value c.in-Ok.is c.played.ensures

pub returns-in-Err-NotAllowed : goal.returns-in-Err-NotAllowed
returns-in-Err-NotAllowed c =
    not_all_played string_bytes _ _ _ _ _ c.in-Err-NotAllowed.place c.stop_answer.result c.replay.ensures c.as_slice.ensures.value
    (c.in-Err-NotAllowed.is ∙ ap Err c.in-Err-NotAllowed.field-0-is) c.stop_answer.ensures
