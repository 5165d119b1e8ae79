use Rattle.std.proofs.Common.{◌≡◌, ◌++◌, ◌<◌, ◌≤◌, ◌-◌, ◌+◌, ℕ, List, [], ◌∷◌, length, take, slice_get, Option, Some, Result, Ok, IfOk, IfSome, refl, ap, sym, subst, ◌∙◌, arith, append_assoc}
use Rattle.std.specs.Prelude.{Contains}
use Rattle.std.proofs.lemmas.List.{length-append}
use Rattle.mc_pages.specs.declared.ids.ChunkId.{ChunkId}
use Rattle.mc_pages.specs.ClassState.{behind}
use Rattle.mc_pages.specs.Eviction.{eviction_tries}
use Rattle.mc_pages.specs.SlabState.{SlabState, class_at, class_of_chunk}
use Rattle.mc_core.specs.declared.look.Look.TheVariants.{Saw}
use Rattle.mc_core.specs.model.Holdings.{has_fresh}
use Rattle.mc_core.specs.model.State.{is_class}
use Rattle.mc_words.specs.hand.View.{Setup, View}
use Rattle.mc_words.specs.lock.Out.{locks_have_no_stripe}
use Rattle.mc_words.specs.declared.hand.Hand.{Hand}
use Rattle.mc_words.proofs.Chunks.Sweeps.{is_empty, stands_there, sweep_passes, swept_at}
use Rattle.mc_words.proofs.Chunks.SweepViews.{class_here, order_once, stands_out}
use Rattle.mc_words.proofs.Locks.Unlocked.{no_stripe_from, no_stripes_there}
use Rattle.std.specs.Prelude.{⊤}
use Rattle.mc_items.specs.declared.evicting.Supply.{Supply}
use Rattle.mc_items.specs.Evicting.{FreesChunk, PassesEach, PassesOne}
use Rattle.mc_items.proofs.Candidates.{candidates_are_all, candidates_passed, candidates_with, rest_begins}
use Rattle.mc_items.proofs.Freed.{as_error, frees_uncut, on_error}
use Rattle.mc_words.proofs.Hands.HandNumbers.{number_stays}
use Rattle.mc_items.proofs.Passes.{OwnTuple, each_keeps, passed_alive, passes_on}
use Rattle.mc_items.proofs.evicting.evict_one.Goals as goal

-- a hand that passed some chunks has the number that it had
number_here : (before now : Hand) (chunks : List ChunkId) → PassesEach before.number chunks before.seat.me.0 now.seat.me.0 → now.number ≡ before.number
number_here before now chunks passes =
    number_stays before now (ap (λ (o : OwnTuple). o.2) (each_keeps before.number chunks before.seat.me.0 now.seat.me.0 passes))

pub first_out-next-requires : goal.first_out-next-requires
first_out-next-requires c =
    let view : View = c.args.hand.now.seat.me.0 in
    let is = ap (λ (s : Setup). is_class s.table c.args.class) c.requires.arena.setup ∙ c.requires.class in
    subst (λ (s : SlabState). (1 ≤ c.args.class) × (c.args.class ≤ length s.classes)) (sym c.slabs.ensures.slabs) (class_here view c.requires.arena.lawful c.args.slabs.now.shared c.requires.slabs c.args.class is)

pub loop-init : goal.loop-init
loop-init c =
    let first = c.first_out-next.ensures.chunk ∙ ap (λ (x : SlabState). slice_get (class_at x c.args.class).order 0) c.slabs.ensures.slabs in record {
      arena = c.requires.arena;
      locks = refl;
      slabs = c.requires.slabs;
      same = refl;
      walk = ([], record { before = []; rest = (class_at c.args.slabs.now.shared c.args.class).order; split = refl; at = first; alive = refl });
      done = [];
      count = refl;
      split = refl;
      passes = refl;
      alive = c.requires.alive;
    }

pub returns-in_default-clause-none : goal.returns-in_default-clause-none
returns-in_default-clause-none c _ =
    let inv = c.loop.invariant in
    let walk = inv.walk.1 in
    let within_limit : c.loop.counter < eviction_tries = c.loop-test.true in
    let short : length inv.done < eviction_tries = subst (λ n. n < eviction_tries) (sym inv.count) within_limit in
    let none = is_empty walk.rest (sym c.in_default.is ∙ walk.at) in
    let all = candidates_are_all eviction_tries (class_at c.args.slabs.now.shared c.args.class).order inv.done (inv.split ∙ ap (λ (rest : List ChunkId). inv.done ++ rest) none) short in
    (subst (λ (chunks : List ChunkId). PassesEach c.args.hand.now.number chunks c.args.hand.now.seat.me.0 c.loop.hand.seat.me.0) (sym all) inv.passes, inv.same)

pub next_out-next-requires : goal.next_out-next-requires
next_out-next-requires c =
    let inv = c.loop.invariant in
    let chunk = c.in-Some.chunk in
    let view : View = c.args.hand.now.seat.me.0 in
    let slabs = c.args.slabs.now.shared in
    let is = ap (λ (s : Setup). is_class s.table c.args.class) c.requires.arena.setup ∙ c.requires.class in
    let there = stands_there slabs inv.walk.0 c.args.class chunk (swept_at inv.walk.1 (Some chunk) c.in-Some.is) (order_once view c.requires.arena.lawful slabs c.requires.slabs c.args.class is) in
    let out = stands_out view c.requires.arena.lawful slabs c.requires.slabs c.args.class is chunk there in
    subst (λ (x : SlabState). Contains (class_of_chunk x chunk).order chunk) (sym (c.slabs-in-loop.ensures.slabs ∙ inv.same)) out.listed

pub free_one-requires-clause-one : goal.free_one-requires-clause-one
free_one-requires-clause-one c =
    let inv = c.loop.invariant in
    let hand = c.args.hand.now in
    let now = c.loop.hand in
    no_stripes_there now.seat.me.0 now.locks now.noted.4 (ap locks_have_no_stripe inv.locks ∙ no_stripe_from hand.seat.me.0 hand.locks hand.noted.4 c.requires.one)

pub free_one-requires-clause-fresh : goal.free_one-requires-clause-fresh
free_one-requires-clause-fresh c =
    let inv = c.loop.invariant in
    ap (λ (o : OwnTuple). has_fresh o.0) (each_keeps c.args.hand.now.number inv.done c.args.hand.now.seat.me.0 c.loop.hand.seat.me.0 inv.passes) ∙ c.requires.fresh

pub free_one-requires-clause-out : goal.free_one-requires-clause-out
free_one-requires-clause-out c =
    let inv = c.loop.invariant in
    let chunk = c.in-Some.chunk in
    let view : View = c.args.hand.now.seat.me.0 in
    let slabs = c.args.slabs.now.shared in
    let is = ap (λ (s : Setup). is_class s.table c.args.class) c.requires.arena.setup ∙ c.requires.class in
    let there = stands_there slabs inv.walk.0 c.args.class chunk (swept_at inv.walk.1 (Some chunk) c.in-Some.is) (order_once view c.requires.arena.lawful slabs c.requires.slabs c.args.class is) in
    subst (λ (x : SlabState). Contains (class_at x c.args.class).order chunk) (sym inv.same) there

pub returns-in_err-supply-clause-no_memory : goal.returns-in_err-supply-clause-no_memory
returns-in_err-supply-clause-no_memory c =
    let inv = c.loop.invariant in
    let chunk = c.in-Some.chunk in
    let hand = c.args.hand.now in
    let slabs = c.args.slabs.now.shared in
    let within_limit : c.loop.counter < eviction_tries = c.loop-test.true in
    let short : length inv.done < eviction_tries = subst (λ n. n < eviction_tries) (sym inv.count) within_limit in
    let (more, is) = rest_begins inv.walk.1.rest c.loop.next chunk inv.walk.1.at c.in-Some.is in
    let lacks = on_error c.free_one.result c.in_err-supply.field-0.0 c.in_err-supply.was c.free_one.ensures.no_memory in
    as_error c.from_residual.result (
      record {
        before = inv.done;
        chunk = chunk;
        after = take (eviction_tries - (length inv.done + 1)) more;
        first = candidates_with eviction_tries (class_at slabs c.args.class).order inv.done chunk more (inv.split ∙ ap (λ (rest : List ChunkId). inv.done ++ rest) is) short;
        passed = c.loop.hand.seat.me.0;
        passes = inv.passes;
        lacks = lacks.0;
      },
      lacks.1 ∙ inv.same,
    )

-- the chunk was freed so
freed_here : (c : goal.In-Some-2) → FreesChunk c.loop.hand.number c.args.class c.in-Some.chunk c.in-Some-2.supply c.loop.hand.seat.me.0 c.loop.slabs.shared c.free_one.new.hand.seat.me.0 c.free_one.new.slabs.shared
freed_here c =
    subst (λ (r : Result (Option Supply) ⊤). IfOk r (λ freed. IfSome freed (λ supply. FreesChunk c.loop.hand.number c.args.class c.in-Some.chunk supply c.loop.hand.seat.me.0 c.loop.slabs.shared c.free_one.new.hand.seat.me.0 c.free_one.new.slabs.shared)))
    (c.in_ok-supply.was ∙ ap (λ o. Ok o) c.in-Some-2.is) c.free_one.ensures.frees

pub returns-in-Some-2-clause-frees : goal.returns-in-Some-2-clause-frees
returns-in-Some-2-clause-frees c =
    let inv = c.loop.invariant in
    let chunk = c.in-Some.chunk in
    let hand = c.args.hand.now in
    let slabs = c.args.slabs.now.shared in
    let within_limit : c.loop.counter < eviction_tries = c.loop-test.true in
    let short : length inv.done < eviction_tries = subst (λ n. n < eviction_tries) (sym inv.count) within_limit in
    let (more, is) = rest_begins inv.walk.1.rest c.loop.next chunk inv.walk.1.at c.in-Some.is in
    let number = number_here hand c.loop.hand inv.done inv.passes in record {
      before = inv.done;
      chunk = chunk;
      after = take (eviction_tries - (length inv.done + 1)) more;
      first = candidates_with eviction_tries (class_at slabs c.args.class).order inv.done chunk more (inv.split ∙ ap (λ (rest : List ChunkId). inv.done ++ rest) is) short;
      passed = c.loop.hand.seat.me.0;
      passes = inv.passes;
      frees = subst (λ (p : ℕ × SlabState). FreesChunk p.0 c.args.class chunk c.in-Some-2.supply c.loop.hand.seat.me.0 p.1 c.free_one.new.hand.seat.me.0 c.free_one.new.slabs.shared) (λ k. (number k, inv.same k)) (freed_here c);
    }

pub returns-in-Some-2-clause-whole : goal.returns-in-Some-2-clause-whole
returns-in-Some-2-clause-whole c =
    frees_uncut c.loop.hand.number c.args.class c.in-Some.chunk c.in-Some-2.supply c.loop.hand.seat.me.0 c.loop.slabs.shared c.free_one.new.hand.seat.me.0 c.free_one.new.slabs.shared (freed_here c)
    ∙ (ap (λ (s : SlabState). s.uncut) c.loop.invariant.same ∙ c.requires.whole)

pub loop-preserved : goal.loop-preserved
loop-preserved c =
    let inv = c.loop.invariant in
    let class = c.args.class in
    let chunk = c.in-Some.chunk in
    let hand = c.args.hand.now in
    let view : View = hand.seat.me.0 in
    let slabs = c.args.slabs.now.shared in
    let before : View = c.loop.hand.seat.me.0 in
    let now : View = c.free_one.new.hand.seat.me.0 in
    let is = ap (λ (s : Setup). is_class s.table class) c.requires.arena.setup ∙ c.requires.class in
    let once = order_once view c.requires.arena.lawful slabs c.requires.slabs class is in
    let swept = swept_at inv.walk.1 (Some chunk) c.in-Some.is in
    let out = stands_out view c.requires.arena.lawful slabs c.requires.slabs class is chunk (stands_there slabs inv.walk.0 class chunk swept once) in
    let passes = c.free_one.ensures.passes (c.in_ok-supply.was ∙ ap (λ o. Ok o) c.in_default-2.is) in
    let number = number_here hand c.loop.hand inv.done inv.passes in
    let one = subst (λ n. PassesOne n chunk before now) number passes.0 in
    let on = sweep_passes slabs inv.walk.0 class chunk swept once one.alive.head one.alive.other in
    let at : c.next_out-next.result ≡ behind chunk (class_at slabs class).order =
    c.next_out-next.ensures.chunk ∙ (ap (λ (x : SlabState). behind chunk (class_of_chunk x chunk).order) (c.slabs-in-loop.ensures.slabs ∙ inv.same) ∙ ap (λ (n : ℕ). behind chunk (class_at slabs n).order) out.own) in record {
      arena = c.free_one.ensures.arena;
      locks = c.free_one.ensures.locks ∙ inv.locks;
      slabs = c.free_one.ensures.slabs;
      same = passes.1 ∙ inv.same;
      walk = (inv.walk.0 ++ Saw chunk one.alive.head ∷ [], swept_at on.0 c.next_out-next.result (sym at));
      done = inv.done ++ chunk ∷ [];
      count = length-append inv.done (chunk ∷ []) ∙ ap (λ n. n + 1) inv.count;
      split = inv.split ∙ (ap (λ (rest : List ChunkId). inv.done ++ rest) on.1 ∙ sym (append_assoc inv.done (chunk ∷ []) on.0.rest));
      passes = passes_on hand.number chunk before now inv.done view inv.passes one;
      alive = passed_alive hand.number chunk before now one slabs (inv.slabs ∙ ap (λ (s : SlabState). Some s) inv.same) (class_at slabs class).order inv.alive;
    }

pub returns-clause-none : goal.returns-clause-none
returns-clause-none c _ =
    let inv = c.loop.invariant in
    let all = candidates_passed eviction_tries (class_at c.args.slabs.now.shared c.args.class).order inv.done inv.walk.1.rest inv.split (let most = c.loop.auto.counter-end in let over = c.loop-test.false in let at = inv.count in omega arith) in
    (subst (λ (chunks : List ChunkId). PassesEach c.args.hand.now.number chunks c.args.hand.now.seat.me.0 c.loop.hand.seat.me.0) (sym all) inv.passes, inv.same)
