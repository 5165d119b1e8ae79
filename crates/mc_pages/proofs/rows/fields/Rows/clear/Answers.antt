use Rattle.std.proofs.Common.{List, sym, ap, ◌∙◌}
use Rattle.mc_pages.specs.declared.ids.ChunkId.{ChunkId}
use Rattle.mc_pages.specs.declared.rows.ListName.TheVariants.{Free, HandedOut}
use Rattle.mc_pages.specs.ClassState.{without, class_after_clear}
use Rattle.mc_pages.specs.Linked.{list_chunks}
use Rattle.mc_pages.proofs.Lists.{without-absent}
use Rattle.mc_pages.proofs.ClassRows.{free≢handed_out, handed_out≢free, has_become, became_free, became_handed_out, listed_row, listed_handed_out, listed_free}
use Rattle.mc_pages.proofs.rows.fields.Rows.clear.Goals as goal

pub mark-requires : goal.mark-requires
mark-requires c = listed_row c.args.self.now c.args.class c.args.chunk c.requires.linked c.requires.listed

pub take_out-requires-clause-there : goal.take_out-requires-clause-there
take_out-requires-clause-there c = listed_handed_out c.args.self.now c.args.class c.args.chunk c.requires.linked c.requires.listed (sym c.mark.ensures ∙ c.in-HandedOut.is)

pub take_out-requires-in_default-clause-there : goal.take_out-requires-in_default-clause-there
take_out-requires-in_default-clause-there c = listed_free c.args.self.now c.args.class c.args.chunk c.requires.linked c.requires.listed (λ h. c.in_default.not-HandedOut (c.mark.ensures ∙ h))

pub returns-in-HandedOut-clause-cleared : goal.returns-in-HandedOut-clause-cleared
returns-in-HandedOut-clause-cleared c =
    let there = listed_handed_out c.args.self.now c.args.class c.args.chunk c.requires.linked c.requires.listed (sym c.mark.ensures ∙ c.in-HandedOut.is) in
    let absent = c.requires.linked.apart (HandedOut c.args.class) (Free c.args.class) c.args.chunk (free≢handed_out c.args.class c.args.class) there in
    has_become _ _ _ _ c.take_out.ensures.linked (became_handed_out c.args.self.now _ c.args.class (λ state. class_after_clear state c.args.chunk) _ c.take_out.ensures.sizes c.take_out.ensures.lists
    (λ state. ap (λ (free : List ChunkId). record state { free = free; order = without c.args.chunk (list_chunks c.args.self.now (HandedOut c.args.class)) }) (sym (without-absent c.args.chunk _ absent))))

pub returns-in_default-clause-cleared : goal.returns-in_default-clause-cleared
returns-in_default-clause-cleared c =
    let there = listed_free c.args.self.now c.args.class c.args.chunk c.requires.linked c.requires.listed (λ h. c.in_default.not-HandedOut (c.mark.ensures ∙ h)) in
    let absent = c.requires.linked.apart (Free c.args.class) (HandedOut c.args.class) c.args.chunk (handed_out≢free c.args.class c.args.class) there in
    has_become _ _ _ _ c.take_out-in_default.ensures.linked (became_free c.args.self.now _ c.args.class (λ state. class_after_clear state c.args.chunk) _ c.take_out-in_default.ensures.sizes c.take_out-in_default.ensures.lists
    (λ state. ap (λ (order : List ChunkId). record state { free = without c.args.chunk (list_chunks c.args.self.now (Free c.args.class)); order = order }) (sym (without-absent c.args.chunk _ absent))))
