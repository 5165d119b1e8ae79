use Rattle.std.proofs.Common.{◌∙◌, ap}
use Rattle.mc_core.specs.model.State.{is_class}
use Rattle.mc_words.specs.chunk.Sweeps.{with_seen}
use Rattle.mc_words.specs.hand.View.{Setup, View}
use Rattle.mc_words.proofs.Pages.LookedOver.{sees_headers_alone}
use Rattle.mc_words.proofs.Chunks.Recovered.{out_still}
use Rattle.mc_words.proofs.Chunks.SweepViews.{sees_alone}
use Rattle.mc_words.proofs.arena.Arena.recover_hinted.Goals as goal

pub returns-clause-recovers : goal.returns-clause-recovers
returns-clause-recovers c =
    let (looked, sees, judged) = c.look_at_hints.ensures.sees in
    let (again, oldest_first, each) = c.put_back_dead.ensures.each in
    let seen = c.look_at_hints.new.hand.seat.me.0 in
    let was = c.look_at_hints.ensures.arena in
    let class = c.args.class in
    let is = ap (λ (s : Setup). is_class s.table class) was.setup ∙ c.requires.class in record {
      looked = looked;
      seen = seen;
      sees = sees;
      again = again;
      oldest_first = oldest_first;
      each = each;
      alive = λ chunk there listed out. c.put_back_dead.ensures.alive chunk (λ listed. judged chunk there)
          (out_still seen was.lawful c.args.held.now.shared c.look_at_hints.ensures.held class is again c.put_back_dead.new.hand.seat.me.0 c.put_back_dead.new.held.shared each chunk listed out);
    }

pub returns-clause-view : goal.returns-clause-view
returns-clause-view c =
    let (looked, sees, judged) = c.look_at_hints.ensures.sees in
    let (again, oldest_first, each) = c.put_back_dead.ensures.each in
    let seen = c.look_at_hints.new.hand.seat.me.0 in
    let now = c.put_back_dead.new.hand.seat.me.0 in
    sees_alone again seen c.args.held.now.shared now c.put_back_dead.new.held.shared each ∙ ap (λ (v : View). with_seen v now) (sees_headers_alone looked c.args.hand.now.seat.me.0 seen sees)
