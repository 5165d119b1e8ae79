use Rattle.mc_replay.proofs.Played.{writes_list}
use Rattle.mc_replay.proofs.run.play_list.Goals as goal

pub returns : goal.returns
returns g c = writes_list c.write.result _ _ _ _ _ _ _ _ c.in_ok-bytes.ensures c.deref.ensures.value c.write.ensures.bytes
