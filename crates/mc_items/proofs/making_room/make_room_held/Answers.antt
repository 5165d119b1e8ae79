use Rattle.std.proofs.Common.{ℕ, Ok, ap, sym, subst, ◌∙◌, inl, inr}
use Rattle.mc_pages.specs.SlabState.{SlabState}
use Rattle.mc_core.specs.model.Holdings.{has_fresh}
use Rattle.mc_words.specs.hand.View.{View}
use Rattle.mc_words.specs.lock.Out.{locks_have_no_stripe}
use Rattle.mc_words.proofs.Hands.HandNumbers.{number_stays}
use Rattle.mc_words.proofs.Locks.Unlocked.{no_stripe_from, no_stripes_there}
use Rattle.mc_items.specs.MakingRoom.{EvictsOldestFor, MakesRoom}
use Rattle.mc_items.specs.Supplying.{Grows}
use Rattle.mc_items.specs.Visiting.{LacksCallAtOldest}
use Rattle.mc_items.proofs.Deletes.{ok_map}
use Rattle.mc_items.proofs.Rooms.{lacks_so, makes_by}
use Rattle.mc_items.proofs.Supplies.{if_error}
use Rattle.mc_items.proofs.making_room.make_room_held.Goals as goal

pub returns-then-find_free-clause-makes : goal.returns-then-find_free-clause-makes
returns-then-find_free-clause-makes g c = (c.find_free.ensures.puts_back, sym c.find_free.ensures.free ∙ c.if-find_free.true)

pub returns-in-Ok-true-clause-makes : goal.returns-in-Ok-true-clause-makes
returns-in-Ok-true-clause-makes g c =
    let hand = c.args.hand.now in
    let tried = c.find_free.new in
    let lacks = lacks_so c.args.class hand.seat.me.0 c.args.slabs.now.shared tried.hand.seat.me.0 tried.slabs.shared c.find_free.ensures.puts_back (sym c.find_free.ensures.free ∙ c.if-find_free.false) in
    let number = number_stays hand tried.hand (ap (λ (v : View). v.row.ids) c.find_free.ensures.seen) in record {
      tried = tried.hand.seat.me.0;
      between = tried.slabs.shared;
      lacks = lacks;
      grows = subst (λ n. Grows n c.args.class tried.hand.seat.me.0 tried.slabs.shared c.grow_for.new.hand.seat.me.0 c.grow_for.new.held.shared) number (c.grow_for.ensures.grows (c.in-Ok-true.is ∙ ap (λ b. Ok b) c.in-Ok-true.field-0-test));
    }

pub evict_oldest-requires-clause-one : goal.evict_oldest-requires-clause-one
evict_oldest-requires-clause-one g c =
    let hand = c.args.hand.now in
    let now = c.grow_for.new.hand in
    no_stripes_there now.seat.me.0 now.locks now.noted.4 (ap locks_have_no_stripe (c.grow_for.ensures.locks ∙ c.find_free.ensures.locks) ∙ no_stripe_from hand.seat.me.0 hand.locks hand.noted.4 c.requires.one)

pub evict_oldest-requires-clause-fresh : goal.evict_oldest-requires-clause-fresh
evict_oldest-requires-clause-fresh g c =
    let none = c.grow_for.ensures.none (c.in-Ok-false.is ∙ ap (λ b. Ok b) c.in-Ok-false.field-0-test) in
    ap (λ (v : View). has_fresh v.row.holdings) none.2 ∙ (ap (λ (v : View). has_fresh v.row.holdings) c.find_free.ensures.seen ∙ c.requires.fresh)

pub returns-in-Ok-false-clause-makes : goal.returns-in-Ok-false-clause-makes
returns-in-Ok-false-clause-makes g c =
    let hand = c.args.hand.now in
    let class = c.args.class in
    let slabs = c.args.slabs.now.shared in
    let tried = c.find_free.new in
    let grown = c.grow_for.new in
    let last = c.evict_oldest.new in
    let lacks = lacks_so class hand.seat.me.0 slabs tried.hand.seat.me.0 tried.slabs.shared c.find_free.ensures.puts_back (sym c.find_free.ensures.free ∙ c.if-find_free.false) in
    let is = c.in-Ok-false.is ∙ ap (λ b. Ok b) c.in-Ok-false.field-0-test in
    let none = c.grow_for.ensures.none is in
    let full = c.grow_for.ensures.full is in
    let number = number_stays hand grown.hand (ap (λ (v : View). v.row.ids) none.2 ∙ ap (λ (v : View). v.row.ids) c.find_free.ensures.seen) in
    ok_map (λ room. EvictsOldestFor grown.hand.number class room grown.hand.seat.me.0 grown.held.shared last.hand.seat.me.0 last.slabs.shared) (λ room. MakesRoom hand.number class room hand.seat.me.0 slabs last.hand.seat.me.0 last.slabs.shared) c.evict_oldest.result
    (λ room evicts. makes_by hand.number class room hand.seat.me.0 slabs tried.hand.seat.me.0 tried.slabs.shared last.hand.seat.me.0 last.slabs.shared lacks full
    (subst (λ (p : ℕ × View × SlabState). EvictsOldestFor p.0 class room p.1 p.2 last.hand.seat.me.0 last.slabs.shared) (λ k. (number k, none.2 k, none.1 k)) evicts))
    c.evict_oldest.ensures.evicts

pub returns-in-Ok-false-clause-refused : goal.returns-in-Ok-false-clause-refused
returns-in-Ok-false-clause-refused g c =
    let hand = c.args.hand.now in
    let class = c.args.class in
    let slabs = c.args.slabs.now.shared in
    let tried = c.find_free.new in
    let grown = c.grow_for.new in
    let last = c.evict_oldest.new in
    let lacks = lacks_so class hand.seat.me.0 slabs tried.hand.seat.me.0 tried.slabs.shared c.find_free.ensures.puts_back (sym c.find_free.ensures.free ∙ c.if-find_free.false) in
    let is = c.in-Ok-false.is ∙ ap (λ b. Ok b) c.in-Ok-false.field-0-test in
    let none = c.grow_for.ensures.none is in
    let full = c.grow_for.ensures.full is in
    let number = number_stays hand grown.hand (ap (λ (v : View). v.row.ids) none.2 ∙ ap (λ (v : View). v.row.ids) c.find_free.ensures.seen) in
    if_error c.evict_oldest.result
    (λ lacking. record {
      tried = tried.hand.seat.me.0;
      between = tried.slabs.shared;
      lacks = lacks;
      why = inr (record {
        full = full;
        lacks = subst (λ (p : ℕ × View × SlabState). LacksCallAtOldest p.0 class p.1 p.2 last.hand.seat.me.0 last.slabs.shared) (λ k. (number k, none.2 k, none.1 k)) lacking;
      });
    })
    c.evict_oldest.ensures.no_memory

pub returns-in-Ok-false-clause-whole : goal.returns-in-Ok-false-clause-whole
returns-in-Ok-false-clause-whole g c = c.evict_oldest.ensures.uncut ∙ c.grow_for.ensures.whole

pub returns-in-Err-clause-refused : goal.returns-in-Err-clause-refused
returns-in-Err-clause-refused g c =
    let hand = c.args.hand.now in
    let tried = c.find_free.new in
    let lacks = lacks_so c.args.class hand.seat.me.0 c.args.slabs.now.shared tried.hand.seat.me.0 tried.slabs.shared c.find_free.ensures.puts_back (sym c.find_free.ensures.free ∙ c.if-find_free.false) in record {
      tried = tried.hand.seat.me.0;
      between = tried.slabs.shared;
      lacks = lacks;
      why = inl (record { page = c.in-Err.ensures.page; same = (c.in-Err.ensures.same.1, c.in-Err.ensures.same.0) });
    }
