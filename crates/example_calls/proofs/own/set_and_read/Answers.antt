use Rattle.std.proofs.Common.{◌∙◌, List, Contains, ap, drop, subst, sym}
use Rattle.std.proofs.lemmas.List.Elements.{Contains-push}
use Rattle.mc_core.specs.past.Past.{StoredItem}
use Rattle.mc_words.specs.hand.Arenas.{view}
use Rattle.mc_words.specs.item.Items.{item_with}
use Rattle.example_calls.proofs.own.set_and_read.Goals as goal

pub returns-in-Ok-found-clause-words : goal.returns-in-Ok-found-clause-words
returns-in-Ok-found-clause-words g c =
    let saying : StoredItem = record { stamp = c.in-Ok.stamp; words = item_with c.args.key c.in-Ok.stamp c.args.words.now } in
    let said = c.read-found.ensures.stores_nothing ∙ (c.get.ensures.stores_nothing ∙ c.in-Ok.ensures.stores_words) in
    let among = subst (λ (l : List StoredItem). Contains l saying) (sym said) (Contains-push (view c.args.hand.now).row.knows.stored saying) in
    ap (drop 3) (sym (c.in-Ok-found.ensures.stores_words.own saying among (sym c.if-stamp.false ∙ c.stamp.ensures.stamp)))
