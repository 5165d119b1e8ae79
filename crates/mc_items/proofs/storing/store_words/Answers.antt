use Rattle.std.proofs.Common.{◌≡◌, ◌%◌, ℕ, List, [], ◌∷◌, ◌++◌, OnErr, OnOk, ap, subst, ◌∙◌}
use Rattle.mc_core.specs.model.Holdings.{numbers_of_known}
use Rattle.mc_core.specs.past.Past.{Own, StoredItem}
use Rattle.mc_words.specs.hand.View.{View}
use Rattle.mc_words.specs.declared.hand.held.Fresh.{Fresh}
use Rattle.mc_items.specs.Storing.{StoresItem}
use Rattle.mc_words.proofs.Hands.HandNumbers.{number_stays}
use Rattle.mc_pages.specs.declared.ids.ChunkId.{ChunkId}
use Rattle.mc_words.specs.item.Items.{issue_in, item_with}
use Rattle.mc_items.specs.FreshChunks.{IsHintInto}
use Rattle.mc_items.proofs.Deletes.{ok_map}
use Rattle.mc_items.proofs.Fills.{issue_filled}
use Rattle.mc_items.proofs.Stored.{numbers_known}
use Rattle.mc_items.proofs.storing.store_words.Goals as goal

pub returns-clause-stores : goal.returns-clause-stores
returns-clause-stores g c =
    let fill = c.fill_item in
    let last : View = c.store.new.hand.seat.me.0 in
    let stripe = c.args.key % c.args.arena.now.table.shared.key.config.stripes in
    let number = number_stays c.args.hand.now fill.new.hand (ap (λ (v : View). v.row.ids) fill.ensures.filled) in
    let freshes : fill.new.fresh ≡ record c.args.fresh { key = c.args.key; stamp = c.args.stamp } = λ k. record { chunk = fill.ensures.same.0 k; room = fill.ensures.same.1 k; key = fill.ensures.key k; stamp = fill.ensures.stamp k } in
    subst (λ (p : ℕ × Fresh × View). OnOk c.store.result (StoresItem c.args.expected p.0 stripe c.args.key p.1.stamp p.1.chunk p.1.room p.2 last)) (λ k. (number k, freshes k, fill.ensures.filled k)) c.store.ensures.stores

pub returns-clause-stores_words : goal.returns-clause-stores_words
returns-clause-stores_words g c =
    let fill = c.fill_item in
    let last : View = c.store.new.hand.seat.me.0 in
    let item = item_with c.args.key c.args.stamp c.args.words.now in
    let words = ap numbers_of_known fill.ensures.words ∙ numbers_known item in
    let said = ap (λ (v : View). v.row.knows.stored) fill.ensures.filled in
    subst (λ (p : List StoredItem × ℕ × List ℕ). OnOk c.store.result (last.row.knows.stored ≡ p.0 ++ record { stamp = p.1; words = p.2 } ∷ [])) (λ k. (said k, fill.ensures.stamp k, words k)) c.store.ensures.stores_words

pub returns-clause-hint : goal.returns-clause-hint
returns-clause-hint g c =
    let fill = c.fill_item in
    let view : View = c.args.hand.now.seat.me.0 in
    let chunk = c.args.fresh.chunk in
    let same = fill.ensures.same.0 in
    let issue = ap (λ (at : ChunkId). issue_in fill.new.hand.seat.me.0 at) same ∙ issue_filled chunk (item_with c.args.key c.args.stamp c.args.words.now) view fill.new.hand.seat.me.0 c.requires.own fill.ensures.filled in
    ok_map (IsHintInto fill.new.hand.seat.me.0 fill.new.fresh) (IsHintInto view c.args.fresh) c.store.result
    (λ hint into. (into.0 ∙ same, into.1 ∙ issue))
    c.store.ensures.hint

pub returns-clause-refused : goal.returns-clause-refused
returns-clause-refused g c =
    let last : View = c.store.new.hand.seat.me.0 in
    subst (λ (mine : List Own). OnErr c.store.result (last.row.knows.mine ≡ mine)) (ap (λ (v : View). v.row.knows.mine) c.fill_item.ensures.filled) c.store.ensures.refused
