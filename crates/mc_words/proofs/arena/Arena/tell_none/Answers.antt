use Rattle.std.proofs.Common.{◌≡◌, ℕ, suc, ◌%◌, refl, ap, sym, subst, ◌∙◌, length, arith, [], ◌∷◌}
use Rattle.mc_core.specs.declared.event.Change.{Change}
use Rattle.mc_core.specs.declared.event.Step.TheVariants as core
use Rattle.mc_words.specs.hand.View.{View, Setup}
use Rattle.mc_words.specs.rule.Layout.{lock_address}
use Rattle.mc_words.specs.rule.Happens.{Happens, AllowsStep}
use Rattle.mc_words.proofs.Hands.Tallies.{tallied_same}
use Rattle.mc_words.proofs.Locks.Locked.{noted_same}
use Rattle.mc_words.proofs.Items.NoneTold.{LeadsNowhere, may_tell_none, none_told, told_keeps}
use Rattle.mc_words.proofs.Locks.StripeChanges.{stripe_near}
use Rattle.mc_words.proofs.arena.Arena.tell_none.Goals as goal

pub word-word-requires : goal.word-word-requires
word-word-requires g c =
    let a = c.args.self.now in
    let hand = c.args.hand.now in
    let view = hand.seat.me.0 in
    let key = c.args.key in
    let number = c.args.held.now.number in
    let value = c.args.held.now.stripe in
    let (same, (arena, (of_key, (mine, (ready, (inside, none)))))) = c.requires in
    let in_range = stripe_near view number value mine arena.lawful in
    let setup = ap (λ (s : Setup). s.config.stripes) (arena.setup ∙ a.planned) in
    let within_limit = a.within_limit in
    record { within_limit = omega arith }

pub tell-requires : goal.tell-requires
tell-requires g c =
    let a = c.args.self.now in
    let hand = c.args.hand.now in
    let view = hand.seat.me.0 in
    let key = c.args.key in
    let number = c.args.held.now.number in
    let value = c.args.held.now.stripe in
    let (same, (arena, (of_key, (mine, (ready, (inside, none)))))) = c.requires in
    let in_range = stripe_near view number value mine arena.lawful in
    let setup = ap (λ (s : Setup). s.config.stripes) (arena.setup ∙ a.planned) in
    let within_limit = a.within_limit in
    let nowhere : LeadsNowhere view hand.number number value key = record {
      mine = mine;
      numbered = hand.noted.0;
      of_key = ap (λ (s : Setup). key % s.config.stripes) arena.setup ∙ of_key;
      ready = ready;
      inside = inside;
      none = none;
    } in
    let count = a.words in
    let place : c.word-word.result ≡ lock_address (suc number) = c.word-word.ensures.word in
    (refl, (refl, ((omega arith), (arena, subst (λ (n : ℕ). AllowsStep view c.args.change (core.MissStripe number) n (λ found. found)) (sym place) (subst (λ (change : Change). AllowsStep view change (core.MissStripe number) (lock_address (suc number)) (λ found. found)) (sym same) (may_tell_none view hand.number number value key nowhere g.deletes))))))

pub invariant_of-hand : goal.invariant_of-hand
invariant_of-hand g c =
    let hand = c.args.hand.now in
    let view = hand.seat.me.0 in
    let key = c.args.key in
    let number = c.args.held.now.number in
    let value = c.args.held.now.stripe in
    let (same, (arena, (of_key, (mine, (ready, (inside, none)))))) = c.requires in
    let nowhere : LeadsNowhere view hand.number number value key = record {
      mine = mine;
      numbered = hand.noted.0;
      of_key = ap (λ (s : Setup). key % s.config.stripes) arena.setup ∙ of_key;
      ready = ready;
      inside = inside;
      none = none;
    } in
    let is = none_told view hand.number number value key nowhere g.deletes c.tell.new.seat.me.0 (subst (λ (change : Change). Happens view (change ∷ []) (core.MissStripe number) c.tell.new.seat.me.0) same c.tell.ensures.happens) in
    let keeps = told_keeps view hand.number number value key nowhere g.deletes in
    let ids = ap (λ (v : View). v.row.ids) is ∙ keeps.0 in
    let held = ap (λ (v : View). v.row.holdings) is ∙ keeps.1 in
    record { noted = noted_same hand.seat.me c.tell.new.seat.me hand.number hand.chunks hand.chunks hand.locks hand.noted c.tell.ensures.out c.tell.ensures.hand (hand.noted.2 ∙ ap length (sym held)); tallied = tallied_same hand.seat.me c.tell.new.seat.me hand.stamps hand.fresh hand.tallied ids held }

pub returns-clause-view : goal.returns-clause-view
returns-clause-view g c =
    let hand = c.args.hand.now in
    let view = hand.seat.me.0 in
    let key = c.args.key in
    let number = c.args.held.now.number in
    let value = c.args.held.now.stripe in
    let (same, (arena, (of_key, (mine, (ready, (inside, none)))))) = c.requires in
    let nowhere : LeadsNowhere view hand.number number value key = record {
      mine = mine;
      numbered = hand.noted.0;
      of_key = ap (λ (s : Setup). key % s.config.stripes) arena.setup ∙ of_key;
      ready = ready;
      inside = inside;
      none = none;
    } in
    let is = none_told view hand.number number value key nowhere g.deletes c.tell.new.seat.me.0 (subst (λ (change : Change). Happens view (change ∷ []) (core.MissStripe number) c.tell.new.seat.me.0) same c.tell.ensures.happens) in
    is
