use Rattle.std.proofs.Common.{◌≡◌, ℕ, ◌+◌, ◌≤◌, ◌<◌, length, Option, Some, None, sym, ap, ◌∙◌, arith, Contains}
use Rattle.std.specs.Prelude.{slice_get}
use Rattle.std.proofs.lemmas.List.{length-set}
use Rattle.std.proofs.lemmas.Option.{slice_get_within, get_or_from_slice_get}
use Rattle.mc_pages.specs.declared.ids.ChunkId.{ChunkId}
use Rattle.mc_pages.specs.ClassState.{times_in, behind}
use Rattle.mc_pages.specs.SlabState.{HasClass, class_at, class_of_chunk, class_of_page}
use Rattle.mc_serial_spec.specs.Consistent.{IsConsistent}
use Rattle.mc_serial_spec.specs.Machine.{Machine, after_reclaim}
use Rattle.mc_serial_spec.proofs.Bounds.{listed_own, listed_once}
use Rattle.mc_serial_spec.proofs.Sweeps.{SweepsOn, sweeps_on, none_more, swept_none, past_none}
use Rattle.mc_pages.proofs.RestOfList.{behind_there, rest_from, rest_long, rest_short}
use Rattle.mc_keeper.proofs.keeper.Keeper.sweep_order.Goals as goal

-- what holds of the chunk at this place
record AtPlace (m : Machine) (class place : ℕ) (x : ChunkId) : Type 0 where
  pub at : slice_get (class_at m.slabs class).order place ≡ Some x
  pub inside : place < length (class_at m.slabs class).order
  pub own : class_of_page m.slabs x.page ≡ class
  pub listed : Contains (class_of_chunk m.slabs x).order x
  pub once : (y : ChunkId) → times_in y (class_at m.slabs class).order ≤ 1
  -- and the chunk behind it is at the next
  pub next : behind x (class_of_chunk m.slabs x).order ≡ slice_get (class_at m.slabs class).order (place + 1)

at_place : (m now : Machine) (class place : ℕ) (x : ChunkId) → IsConsistent m.table m.slabs m.items → m ≡ now
    → HasClass now.slabs class → slice_get (class_at now.slabs class).order place ≡ Some x → AtPlace now class place x
at_place m now class place x kept same valid at =
    let kept_now : IsConsistent now.table now.slabs now.items = rw same at kept in
    let own : class_of_page now.slabs x.page ≡ class = listed_own now.table now.slabs now.items class kept_now valid place x at in
    let inside : place < length (class_at now.slabs class).order = slice_get_within (class_at now.slabs class).order place x at in
    let once = λ (y : ChunkId). listed_once now.table now.slabs now.items class kept_now valid y in
    record {
      at = at;
      inside = inside;
      own = own;
      listed = rw own (place, inside, get_or_from_slice_get (class_at now.slabs class).order place x x at);
      once = once;
      next = rw own (behind_there (class_at now.slabs class).order place x at (once x));
    }

pub next_out-next-requires : goal.next_out-next-requires
next_out-next-requires c =
    let here : AtPlace c.loop-next.self c.args.class c.loop-next.invariant.place c.in-Some.chunk
    = at_place _ _ _ _ _ c.self-in-Some.invariant.kept c.self-in-Some.view_is c.loop-next.invariant.class (sym c.loop-next.invariant.at ∙ c.in-Some.is) in
    rw (ap (λ (m : Machine). m.slabs) c.self-in-Some.view_is) here.listed

pub reclaim-requires-clause-class : goal.reclaim-requires-clause-class
reclaim-requires-clause-class c =
    let here : AtPlace c.loop-next.self c.args.class c.loop-next.invariant.place c.in-Some.chunk
    = at_place _ _ _ _ _ c.self-in-Some.invariant.kept c.self-in-Some.view_is c.loop-next.invariant.class (sym c.loop-next.invariant.at ∙ c.in-Some.is) in
    rw here.own c.loop-next.invariant.class

pub reclaim-requires-clause-listed : goal.reclaim-requires-clause-listed
reclaim-requires-clause-listed c =
    let here : AtPlace c.loop-next.self c.args.class c.loop-next.invariant.place c.in-Some.chunk
    = at_place _ _ _ _ _ c.self-in-Some.invariant.kept c.self-in-Some.view_is c.loop-next.invariant.class (sym c.loop-next.invariant.at ∙ c.in-Some.is) in
    here.listed

pub loop-next-smaller-then-is_dead : goal.loop-next-smaller-then-is_dead
loop-next-smaller-then-is_dead c =
    let here : AtPlace c.loop-next.self c.args.class c.loop-next.invariant.place c.in-Some.chunk
    = at_place _ _ _ _ _ c.self-in-Some.invariant.kept c.self-in-Some.view_is c.loop-next.invariant.class (sym c.loop-next.invariant.at ∙ c.in-Some.is) in
    let on : SweepsOn c.loop-next.self c.args.class c.loop-next.invariant.place c.in-Some.chunk
    = sweeps_on _ _ _ _ c.loop-next.invariant.class here.own (here.once c.in-Some.chunk) here.at c.loop-next.invariant.none
    (sym c.is_dead.ensures.dead ∙ c.if-is_dead.true) in
    let next : c.next_out-next.result ≡ slice_get (class_at c.loop-next.self.slabs c.args.class).order (c.loop-next.invariant.place + 1)
    = c.next_out-next.ensures.chunk ∙ ap (λ (m : Machine). behind c.in-Some.chunk (class_of_chunk m.slabs c.in-Some.chunk).order) c.self-in-Some.view_is ∙ here.next in
    let long = ap (λ (n : Option ChunkId). length (rest_from n (class_at c.loop-next.self.slabs c.args.class).order)) c.in-Some.is
    ∙ rest_long (class_at c.loop-next.self.slabs c.args.class).order c.loop-next.invariant.place c.in-Some.chunk here.at (here.once c.in-Some.chunk) in
    let short = rest_short (class_at (after_reclaim c.loop-next.self c.in-Some.chunk).slabs c.args.class).order c.loop-next.invariant.place c.next_out-next.result
    (next ∙ sym on.behind) (λ x. on.once x (here.once x)) in
    rw c.reclaim.ensures.reclaimed (omega (arith, here.inside, on.shorter, on.within, long, short))

pub loop-next-preserved-then-is_dead : goal.loop-next-preserved-then-is_dead
loop-next-preserved-then-is_dead c =
    let here : AtPlace c.loop-next.self c.args.class c.loop-next.invariant.place c.in-Some.chunk
    = at_place _ _ _ _ _ c.self-in-Some.invariant.kept c.self-in-Some.view_is c.loop-next.invariant.class (sym c.loop-next.invariant.at ∙ c.in-Some.is) in
    let on : SweepsOn c.loop-next.self c.args.class c.loop-next.invariant.place c.in-Some.chunk
    = sweeps_on _ _ _ _ c.loop-next.invariant.class here.own (here.once c.in-Some.chunk) here.at c.loop-next.invariant.none
    (sym c.is_dead.ensures.dead ∙ c.if-is_dead.true) in
    let next : c.next_out-next.result ≡ slice_get (class_at c.loop-next.self.slabs c.args.class).order (c.loop-next.invariant.place + 1)
    = c.next_out-next.ensures.chunk ∙ ap (λ (m : Machine). behind c.in-Some.chunk (class_of_chunk m.slabs c.in-Some.chunk).order) c.self-in-Some.view_is ∙ here.next in
    rw c.reclaim.ensures.reclaimed (record {
      place = c.loop-next.invariant.place;
      at = next ∙ sym on.behind;
      class = (c.loop-next.invariant.class.0, rw (length-set c.loop-next.self.slabs.classes _ _) c.loop-next.invariant.class.1);
      within = on.within;
      none = on.none;
      rest = on.same ∙ c.loop-next.invariant.rest;
    })

pub loop-next-smaller : goal.loop-next-smaller
loop-next-smaller c =
    let here : AtPlace c.loop-next.self c.args.class c.loop-next.invariant.place c.in-Some.chunk
    = at_place _ _ _ _ _ c.self-in-Some.invariant.kept c.self-in-Some.view_is c.loop-next.invariant.class (sym c.loop-next.invariant.at ∙ c.in-Some.is) in
    let next : c.next_out-next.result ≡ slice_get (class_at c.loop-next.self.slabs c.args.class).order (c.loop-next.invariant.place + 1)
    = c.next_out-next.ensures.chunk ∙ ap (λ (m : Machine). behind c.in-Some.chunk (class_of_chunk m.slabs c.in-Some.chunk).order) c.self-in-Some.view_is ∙ here.next in
    let long = ap (λ (n : Option ChunkId). length (rest_from n (class_at c.loop-next.self.slabs c.args.class).order)) c.in-Some.is
    ∙ rest_long (class_at c.loop-next.self.slabs c.args.class).order c.loop-next.invariant.place c.in-Some.chunk here.at (here.once c.in-Some.chunk) in
    let short = rest_short (class_at c.loop-next.self.slabs c.args.class).order (c.loop-next.invariant.place + 1) c.next_out-next.result next here.once in
    omega (arith, here.inside, long, short)

pub loop-next-preserved : goal.loop-next-preserved
loop-next-preserved c =
    let here : AtPlace c.loop-next.self c.args.class c.loop-next.invariant.place c.in-Some.chunk
    = at_place _ _ _ _ _ c.self-in-Some.invariant.kept c.self-in-Some.view_is c.loop-next.invariant.class (sym c.loop-next.invariant.at ∙ c.in-Some.is) in
    let next : c.next_out-next.result ≡ slice_get (class_at c.loop-next.self.slabs c.args.class).order (c.loop-next.invariant.place + 1)
    = c.next_out-next.ensures.chunk ∙ ap (λ (m : Machine). behind c.in-Some.chunk (class_of_chunk m.slabs c.in-Some.chunk).order) c.self-in-Some.view_is ∙ here.next in
    record {
      place = c.loop-next.invariant.place + 1;
      at = next;
      class = c.loop-next.invariant.class;
      within = omega (arith, here.inside);
      none = none_more c.loop-next.self _ _ _ here.at c.loop-next.invariant.none (sym c.is_dead.ensures.dead ∙ c.if-is_dead.false);
      rest = c.loop-next.invariant.rest;
    }

pub returns : goal.returns
returns c =
    let none : slice_get (class_at c.loop-next.self.slabs c.args.class).order c.loop-next.invariant.place ≡ None
    = sym c.loop-next.invariant.at ∙ c.in_default.is in
    record {
      swept = sym (swept_none c.loop-next.self c.args.class c.loop-next.invariant.place c.loop-next.invariant.none
          (past_none (class_at c.loop-next.self.slabs c.args.class).order c.loop-next.invariant.place none))
          ∙ c.loop-next.invariant.rest;
    }
