use Rattle.std.proofs.Common.{ap}
use Rattle.mc_items.proofs.Chains.{hand_still, holdings_stay, kept_refs_keep_items}
use Rattle.mc_items.proofs.Left.{Kept, bumped_keeps, bumped_tells}
use Rattle.mc_items.proofs.bumping.bump.Goals as goal

pub returns-clause-holdings : goal.returns-clause-holdings
returns-clause-holdings g c =
    let kept = bumped_keeps _ _ _ _ c.bump_chunk.ensures.bumps in
    holdings_stay c.args.hand.now.seat.me.0 c.bump_chunk.new.hand.seat.me.0 (ap (λ (k : Kept). k.0) kept) (ap (λ (k : Kept). k.1) kept)

pub returns-clause-stores_nothing : goal.returns-clause-stores_nothing
returns-clause-stores_nothing g c = ap (λ (k : Kept). k.2) (bumped_keeps _ _ _ _ c.bump_chunk.ensures.bumps)

pub returns-clause-calls : goal.returns-clause-calls
returns-clause-calls g c = bumped_tells _ _ _ _ c.bump_chunk.ensures.bumps

pub returns-clause-item : goal.returns-clause-item
returns-clause-item g c = (kept_refs_keep_items c.args.hand.now.seat.me.0 c.bump_chunk.new.hand.seat.me.0 c.args.item.now (returns-clause-holdings g c).references c.requires.item).refers

pub returns-clause-words : goal.returns-clause-words
returns-clause-words g c = (kept_refs_keep_items c.args.hand.now.seat.me.0 c.bump_chunk.new.hand.seat.me.0 c.args.item.now (returns-clause-holdings g c).references c.requires.item).words

pub returns-clause-hand : goal.returns-clause-hand
returns-clause-hand g c =
    hand_still c.args.arena.now c.args.hand.now c.bump_chunk.new.hand c.bump_chunk.ensures.arena c.bump_chunk.ensures.locks (returns-clause-holdings g c).same (ap (λ (k : Kept). k.3) (bumped_keeps _ _ _ _ c.bump_chunk.ensures.bumps)) c.requires.ready
