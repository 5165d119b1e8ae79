use Rattle.std.proofs.Common.{◌≡◌, ℕ, List, IfOk, subst}
use Rattle.mc_words.specs.hand.Arenas.{view}
use Rattle.mc_items.proofs.Chains.{keeping_goes_on, kept_refs_keep_items}
use Rattle.example_calls.proofs.held.read_after_trims.Goals as goal

pub read-requires-clause-item : goal.read-requires-clause-item
read-requires-clause-item g c =
    (kept_refs_keep_items (view c.args.hand.now) (view c.forget.new.hand) c.args.item.now (keeping_goes_on _ _ _ c.trim.ensures.holdings.references c.forget.ensures.holdings.references) c.requires.refers).refers

pub returns-clause-words : goal.returns-clause-words
returns-clause-words g c =
    let stays = kept_refs_keep_items (view c.args.hand.now) (view c.forget.new.hand) c.args.item.now (keeping_goes_on _ _ _ c.trim.ensures.holdings.references c.forget.ensures.holdings.references) c.requires.refers in
    subst (λ (l : List ℕ). IfOk c.read.result (λ read. read.items ≡ l)) stays.words c.read.ensures.words
