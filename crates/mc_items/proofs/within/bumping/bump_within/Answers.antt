use Rattle.std.proofs.Common.{ap}
use Rattle.mc_items.proofs.Chains.{hand_still, holdings_stay, kept_refs_keep_items}
use Rattle.mc_items.proofs.Left.{Kept}
use Rattle.mc_items.proofs.Missed.{bump_keeps, bump_tells}
use Rattle.mc_items.proofs.within.bumping.bump_within.Goals as goal

pub returns-clause-holdings : goal.returns-clause-holdings
returns-clause-holdings c =
    let hand = c.args.hand.now in
    let now = c.bump_chunk_within.new.hand in
    let kept = bump_keeps hand.number c.args.tries c.args.item.now.reference.chunk c.bump_chunk_within.result hand.seat.me.0 now.seat.me.0 c.bump_chunk_within.ensures.bumps c.bump_chunk_within.ensures.missed in
    holdings_stay hand.seat.me.0 now.seat.me.0 (ap (λ (k : Kept). k.0) kept) (ap (λ (k : Kept). k.1) kept)

pub returns-clause-stores_nothing : goal.returns-clause-stores_nothing
returns-clause-stores_nothing c =
    let hand = c.args.hand.now in
    let now = c.bump_chunk_within.new.hand in
    ap (λ (k : Kept). k.2) (bump_keeps hand.number c.args.tries c.args.item.now.reference.chunk c.bump_chunk_within.result hand.seat.me.0 now.seat.me.0 c.bump_chunk_within.ensures.bumps c.bump_chunk_within.ensures.missed)

pub returns-clause-calls : goal.returns-clause-calls
returns-clause-calls c =
    let hand = c.args.hand.now in
    let now = c.bump_chunk_within.new.hand in
    bump_tells hand.number c.args.tries c.args.item.now.reference.chunk c.bump_chunk_within.result hand.seat.me.0 now.seat.me.0 c.bump_chunk_within.ensures.bumps c.bump_chunk_within.ensures.missed

pub returns-clause-item : goal.returns-clause-item
returns-clause-item c = (kept_refs_keep_items c.args.hand.now.seat.me.0 c.bump_chunk_within.new.hand.seat.me.0 c.args.item.now (returns-clause-holdings c).references c.requires.item).refers

pub returns-clause-words : goal.returns-clause-words
returns-clause-words c = (kept_refs_keep_items c.args.hand.now.seat.me.0 c.bump_chunk_within.new.hand.seat.me.0 c.args.item.now (returns-clause-holdings c).references c.requires.item).words

pub returns-clause-hand : goal.returns-clause-hand
returns-clause-hand c =
    let hand = c.args.hand.now in
    let now = c.bump_chunk_within.new.hand in
    let kept = bump_keeps hand.number c.args.tries c.args.item.now.reference.chunk c.bump_chunk_within.result hand.seat.me.0 now.seat.me.0 c.bump_chunk_within.ensures.bumps c.bump_chunk_within.ensures.missed in
    hand_still c.args.arena.now hand now c.bump_chunk_within.ensures.arena c.bump_chunk_within.ensures.locks (ap (λ (k : Kept). k.0) kept) (ap (λ (k : Kept). k.3) kept) c.requires.ready
