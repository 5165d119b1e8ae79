use Rattle.std.proofs.Common.{refl}
use Rattle.mc_words.specs.hand.View.{View}
use Rattle.mc_items.specs.ItemRefs.{item_chunk, item_len, item_words}
use Rattle.mc_shard.proofs.Keyed.{read_leaves}
use Rattle.mc_shard.proofs.listing.read_words.Goals as goal

pub returns-clause-reads : goal.returns-clause-reads
returns-clause-reads c =
    let before : View = c.args.hand.now.seat.me.0 in
    let now : View = c.read.new.hand.seat.me.0 in
    let item = c.args.item.now in
    let stays = c.read.ensures.hand in
    record {
      hand = record { of_arena = stays.arena; ready = stays.ready; refers = c.read.ensures.item };
      number = stays.number;
      words = read_leaves (λ (v : View). item_words v item) (λ chunk count v. refl) (item_chunk item) (item_len item) before now c.read.result c.read.ensures.view c.read.ensures.same;
      holdings = c.read.ensures.holdings.same;
      stores_nothing = c.read.ensures.stores_nothing;
      calls = read_leaves (λ (v : View). v.row.knows.mine) (λ chunk count v. refl) (item_chunk item) (item_len item) before now c.read.result c.read.ensures.view c.read.ensures.same;
      slabs = read_leaves (λ (v : View). v.row.knows.hold.count) (λ chunk count v. refl) (item_chunk item) (item_len item) before now c.read.result c.read.ensures.view c.read.ensures.same;
    }
