use Rattle.std.proofs.Common.{◌∙◌, ap}
use Rattle.mc_pages.specs.SlabState.{class_at}
use Rattle.mc_core.specs.model.Looks.{is_found_alive}
use Rattle.mc_core.specs.model.State.{is_class}
use Rattle.mc_words.specs.chunk.Sweeps.{with_seen}
use Rattle.mc_words.specs.hand.View.{Setup, View}
use Rattle.mc_words.proofs.Pages.LookedOver.{all_pass, sees_headers_alone}
use Rattle.mc_words.proofs.Chunks.Recovered.{out_still}
use Rattle.mc_words.proofs.Chunks.SweepViews.{sees_alone}
use Rattle.mc_words.proofs.arena.Arena.sweep.Goals as goal

pub returns-clause-swept : goal.returns-clause-swept
returns-clause-swept c =
    let (looked, sees, whole) = c.look_over.ensures.sees in
    let (again, oldest_first, each) = c.put_back_dead.ensures.each in
    let seen = c.look_over.new.hand.seat.me.0 in
    let was = c.look_over.ensures.arena in
    let slabs = c.args.held.now.shared in
    let class = c.args.class in
    let left = c.put_back_dead.new.held.shared in
    let is = ap (λ (s : Setup). is_class s.table class) was.setup ∙ c.requires.class in record {
      recovers = record {
        looked = looked;
        seen = seen;
        sees = sees;
        again = again;
        oldest_first = oldest_first;
        each = each;
        alive = λ chunk there listed out. c.put_back_dead.ensures.alive chunk (c.look_over.ensures.judged chunk)
            (out_still seen was.lawful slabs c.look_over.ensures.held class is again c.put_back_dead.new.hand.seat.me.0 left each chunk listed out);
      };
      whole = whole;
    }

pub returns-clause-view : goal.returns-clause-view
returns-clause-view c =
    let (looked, sees, whole) = c.look_over.ensures.sees in
    let (again, oldest_first, each) = c.put_back_dead.ensures.each in
    let seen = c.look_over.new.hand.seat.me.0 in
    let now = c.put_back_dead.new.hand.seat.me.0 in
    sees_alone again seen c.args.held.now.shared now c.put_back_dead.new.held.shared each ∙ ap (λ (v : View). with_seen v now) (sees_headers_alone looked c.args.hand.now.seat.me.0 seen sees)

pub returns-clause-alive : goal.returns-clause-alive
returns-clause-alive c =
    all_pass (is_found_alive c.put_back_dead.new.hand.seat.me.0.row.looks) (class_at c.put_back_dead.new.held.shared c.args.class).order
    (λ chunk there. c.put_back_dead.ensures.alive chunk (c.look_over.ensures.judged chunk) there)
