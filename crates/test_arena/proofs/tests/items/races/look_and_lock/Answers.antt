use Rattle.std.proofs.Common.{◌≡◌, ◌%◌, Bool, true, false, [], ◌∷◌, Some, refl, sym, ap, ◌∙◌, arith, rules}
use Rattle.std.proofs.lemmas.List.Sums.{fold-append}
use Rattle.mc_classes.specs.declared.config.Config.{Config}
use Rattle.mc_pages.specs.SlabState.{class_of_page}
use Rattle.mc_core.specs.declared.look.Look.TheVariants.{Read}
use Rattle.mc_core.specs.model.Head.{decode}
use Rattle.mc_core.specs.model.Looks.{stays_linked, was_linked}
use Rattle.mc_core.specs.model.State.{room_in}
use Rattle.mc_words.specs.hand.View.{Setup, View}
use Rattle.mc_words.proofs.Chunks.Judging.{seen_slabs}
use Rattle.mc_mover.specs.Linked.{ReadsKey}
use Rattle.mc_mover.proofs.Copied.{three_places}
use Rattle.mc_mover.proofs.SeenChunks.{linked_found}
use Rattle.mc_mover.proofs.Visits.{stripe_found}
use Rattle.test_arena.proofs.tests.items.races.look_and_lock.Goals as goal

pub word_held-key-requires-clause-linked : goal.word_held-key-requires-clause-linked
word_held-key-requires-clause-linked c =
    linked_found c.args.hand.now.seat.me.0 c.head-head.new.hand.seat.me.0 c.args.held.now.shared c.requires.held c.args.chunk (decode c.head-head.result) c.head-head.ensures.seen (sym c.if-not-is_linked.ensures.linked)

pub word_held-key-requires-clause-inside : goal.word_held-key-requires-clause-inside
word_held-key-requires-clause-inside c =
    let view : View = c.args.hand.now.seat.me.0 in
    let seen : View = c.head-head.new.hand.seat.me.0 in
    let slabs = c.args.held.now.shared in
    let setup = c.args.arena.now.table.shared.key in
    let head = decode c.head-head.result in
    let mine = ap (λ (v : View). v.slabs) c.head-head.ensures.seen ∙ seen_slabs view c.args.chunk head slabs c.requires.held in
    let linked = linked_found view seen slabs c.requires.held c.args.chunk head c.head-head.ensures.seen (sym c.if-not-is_linked.ensures.linked) in
    let places = three_places seen setup c.head-head.ensures.arena.lawful c.head-head.ensures.arena.setup slabs mine c.args.chunk c.requires.in_range linked (room_in setup.table (class_of_page slabs c.args.chunk.page)) refl in
    let three = places.0 in omega arith

pub returns-clause-leads : goal.returns-clause-leads
returns-clause-leads c =
    let seen : View = c.head-head.new.hand.seat.me.0 in
    let key = c.word_held-key.result in
    let read : View = c.word_held-key.new.hand.seat.me.0 in
    let at : key % c.config.result.now.stripes ≡ key % seen.setup.config.stripes = ap (λ (g : Config). key % g.stripes) (c.config.ensures.config ∙ ap (λ (s : Setup). s.config) (sym c.head-head.ensures.arena.setup)) in
    let taken : View = c.try_stripe.new.hand.seat.me.0 in
    let slabs = c.args.held.now.shared in
    let value = c.in-Ok.stripe.stripe in
    let stripe = key % c.config.result.now.stripes in
    let reads : ReadsKey c.args.chunk key seen read = (c.word_held-key.ensures.happens, c.word_held-key.ensures.view) in
    let linked : was_linked seen.row.looks c.args.chunk ≡ true = linked_found c.args.hand.now.seat.me.0 seen slabs c.requires.held c.args.chunk (decode c.head-head.result) c.head-head.ensures.seen (sym c.if-not-is_linked.ensures.linked) in
    let looks : View → Bool = λ v. was_linked v.row.looks c.args.chunk in
    let leads = c.if-not-leads_to.ensures.leads refl in
    record {
      of_key = record {
        in_range = c.requires.in_range;
        inside = search rules;
        key = stripe_found c.args.chunk seen read taken slabs key stripe value reads at c.in-Ok.ensures.taken c.in-Ok.ensures.lent c.in-Ok.ensures.whole c.in-Ok.ensures.seen ∙ ap (λ n. Some n) (sym c.in-Ok.ensures.number);
      };
      lent = search rules;
      leads = (key, leads.0, leads.1);
      linked = ap looks c.in-Ok.ensures.lent ∙ (ap looks c.word_held-key.ensures.view ∙ (fold-append (stays_linked c.args.chunk) false seen.row.looks (Read c.args.chunk 0 key ∷ []) ∙ linked));
    }
