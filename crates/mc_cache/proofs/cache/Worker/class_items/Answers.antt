use Rattle.std.proofs.Common.{◌∙◌, List, ap, length, subst, sym}
use Rattle.mc_shard.specs.declared.class_items.ClassItems.{ClassItems}
use Rattle.mc_cache.specs.ClassItems.{AddsItemsInFirst, CountsCacheByClass, HasRowOfEach, empty_rows}
use Rattle.mc_cache.proofs.ByClass.{as_many_rows, counts_cache, has_row_of_each, whole_rows}
use Rattle.mc_cache.proofs.cache.Worker.class_items.Goals as goal

pub returns-clause-rows : goal.returns-clause-rows
returns-clause-rows g c =
    let cache = c.args.cache.now in
    let are = c.in_ok-count_items.ensures.counts in
    let many = as_many_rows cache c.classes.result.now (length cache.arenas.items) c.as_mut_slice.result.now c.count_items.new.rows c.args.self.now.hands.items c.count_items.new.self.hands.items c.classes.ensures.classes are in
    let whole = whole_rows c.in_ok-rows.rows.len c.as_mut_slice.result.now c.in_ok-rows.rows.items c.count_items.new.rows c.as_mut_slice.ensures.value c.as_mut_slice.ensures.len many in
    subst (λ (rows : List ClassItems). HasRowOfEach cache rows) (sym whole)
    (has_row_of_each cache c.classes.result.now c.classes.ensures.classes c.args.self.now c.count_items.new.self c.count_items.new.rows
    (subst (λ (rows : List ClassItems). AddsItemsInFirst cache (length cache.arenas.items) rows c.count_items.new.rows c.args.self.now.hands.items c.count_items.new.self.hands.items) (c.as_mut_slice.ensures.value ∙ (c.in_ok-rows.ensures.rows ∙ ap empty_rows c.count.ensures.count)) are))

pub returns-clause-counts : goal.returns-clause-counts
returns-clause-counts g c =
    let cache = c.args.cache.now in
    let are = c.in_ok-count_items.ensures.counts in
    let many = as_many_rows cache c.classes.result.now (length cache.arenas.items) c.as_mut_slice.result.now c.count_items.new.rows c.args.self.now.hands.items c.count_items.new.self.hands.items c.classes.ensures.classes are in
    let whole = whole_rows c.in_ok-rows.rows.len c.as_mut_slice.result.now c.in_ok-rows.rows.items c.count_items.new.rows c.as_mut_slice.ensures.value c.as_mut_slice.ensures.len many in
    subst (λ (rows : List ClassItems). CountsCacheByClass cache rows c.args.self.now c.count_items.new.self) (sym whole)
    (counts_cache cache c.classes.result.now c.classes.ensures.classes c.args.self.now c.count_items.new.self c.count_items.new.rows
    (subst (λ (rows : List ClassItems). AddsItemsInFirst cache (length cache.arenas.items) rows c.count_items.new.rows c.args.self.now.hands.items c.count_items.new.self.hands.items) (c.as_mut_slice.ensures.value ∙ (c.in_ok-rows.ensures.rows ∙ ap empty_rows c.count.ensures.count)) are))
