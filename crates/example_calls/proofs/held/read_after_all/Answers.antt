use Rattle.std.proofs.Common.{◌≡◌, ℕ, List, IfOk, subst}
use Rattle.mc_words.specs.hand.Arenas.{view}
use Rattle.mc_items.proofs.Chains.{keeping_goes_on, kept_refs_keep_items}
use Rattle.example_calls.proofs.held.read_after_all.Goals as goal

pub read-requires-clause-item : goal.read-requires-clause-item
read-requires-clause-item g c =
    let keeps = keeping_goes_on _ _ _ c.set.ensures.holdings.references (keeping_goes_on _ _ _ c.get_and_release.ensures.keeps (keeping_goes_on _ _ _ c.touch.ensures.holdings.references (keeping_goes_on _ _ _ c.delete.ensures.holdings.references c.turn.ensures.holdings.references))) in
    (kept_refs_keep_items (view c.args.hand.now) (view c.turn.new.hand) c.args.item.now keeps c.requires.refers).refers

pub returns-clause-words : goal.returns-clause-words
returns-clause-words g c =
    let keeps = keeping_goes_on _ _ _ c.set.ensures.holdings.references (keeping_goes_on _ _ _ c.get_and_release.ensures.keeps (keeping_goes_on _ _ _ c.touch.ensures.holdings.references (keeping_goes_on _ _ _ c.delete.ensures.holdings.references c.turn.ensures.holdings.references))) in
    let stays = kept_refs_keep_items (view c.args.hand.now) (view c.turn.new.hand) c.args.item.now keeps c.requires.refers in
    subst (λ (l : List ℕ). IfOk c.read.result (λ read. read.items ≡ l)) stays.words c.read.ensures.words
