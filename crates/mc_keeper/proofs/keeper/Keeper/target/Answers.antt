use Rattle.std.proofs.Common.{◌≡◌, ◌+◌, ◌==◌, ◌∙◌, false, true, not, sym, ap, arith, List, [], length, drop, Option}
use Rattle.std.specs.Prelude.{find, slice_get}
use Rattle.std.proofs.lemmas.Bool.Decides.{nat_tests}
use Rattle.mc_pages.specs.declared.ids.ChunkId.{ChunkId}
use Rattle.mc_pages.specs.ClassState.{behind}
use Rattle.mc_pages.specs.SlabState.{class_at, class_of_chunk}
use Rattle.mc_serial_spec.specs.Machine.{Machine}
use Rattle.mc_serial_spec.proofs.MoverLists.{FreeAt, drop_past, find_behind, find_there, found_free}
use Rattle.mc_pages.proofs.RestOfList.{rest_from}
use Rattle.mc_keeper.proofs.keeper.Keeper.target.Goals as goal

pub returns-then-free-page : goal.returns-then-free-page
returns-then-free-page c =
    let here : FreeAt c.args.self.now c.args.class c.loop-next.invariant.place c.in-Some.free
    = found_free _ _ _ _ _ c.self.invariant.kept c.self.view_is c.requires (sym c.loop-next.invariant.at ∙ c.in-Some.is) in
    let off : not (c.in-Some.free.page == c.args.page) ≡ true = grind (arith, nat_tests) in
    record {
      target = sym (find_there (λ chunk. not (chunk.page == c.args.page)) _ c.loop-next.invariant.place c.in-Some.free here.at off) ∙ c.loop-next.invariant.rest;
    }

pub next_free-next-requires : goal.next_free-next-requires
next_free-next-requires c =
    let here : FreeAt c.args.self.now c.args.class c.loop-next.invariant.place c.in-Some.free
    = found_free _ _ _ _ _ c.self.invariant.kept c.self.view_is c.requires (sym c.loop-next.invariant.at ∙ c.in-Some.is) in
    rw (ap (λ (m : Machine). m.slabs) c.self.view_is) here.listed

pub loop-next-smaller : goal.loop-next-smaller
loop-next-smaller c =
    let here : FreeAt c.args.self.now c.args.class c.loop-next.invariant.place c.in-Some.free
    = found_free _ _ _ _ _ c.self.invariant.kept c.self.view_is c.requires (sym c.loop-next.invariant.at ∙ c.in-Some.is) in
    let next : c.next_free-next.result ≡ slice_get (class_at c.args.self.now.slabs c.args.class).free (c.loop-next.invariant.place + 1)
    = c.next_free-next.ensures.chunk ∙ ap (λ (m : Machine). behind c.in-Some.free (class_of_chunk m.slabs c.in-Some.free).free) c.self.view_is ∙ here.next in
    let left = ap (λ (n : Option ChunkId). length (rest_from n (class_at c.args.self.now.slabs c.args.class).free)) c.in-Some.is in
    omega (arith, left, here.smaller c.next_free-next.result next)

pub loop-next-preserved : goal.loop-next-preserved
loop-next-preserved c =
    let here : FreeAt c.args.self.now c.args.class c.loop-next.invariant.place c.in-Some.free
    = found_free _ _ _ _ _ c.self.invariant.kept c.self.view_is c.requires (sym c.loop-next.invariant.at ∙ c.in-Some.is) in
    let next : c.next_free-next.result ≡ slice_get (class_at c.args.self.now.slabs c.args.class).free (c.loop-next.invariant.place + 1)
    = c.next_free-next.ensures.chunk ∙ ap (λ (m : Machine). behind c.in-Some.free (class_of_chunk m.slabs c.in-Some.free).free) c.self.view_is ∙ here.next in
    let on : not (c.in-Some.free.page == c.args.page) ≡ false = grind (arith, nat_tests) in
    record {
      place = c.loop-next.invariant.place + 1;
      at = next;
      rest = find_behind (λ chunk. not (chunk.page == c.args.page)) _ c.loop-next.invariant.place c.in-Some.free here.at on ∙ c.loop-next.invariant.rest;
    }

pub returns : goal.returns
returns c =
    let none : drop c.loop-next.invariant.place (class_at c.args.self.now.slabs c.args.class).free ≡ []
    = drop_past (class_at c.args.self.now.slabs c.args.class).free c.loop-next.invariant.place (sym c.loop-next.invariant.at ∙ c.in_default.is) in
    record {
      target = sym (ap (λ (chunks : List ChunkId). find (λ chunk. not (chunk.page == c.args.page)) chunks) none) ∙ c.loop-next.invariant.rest;
    }
