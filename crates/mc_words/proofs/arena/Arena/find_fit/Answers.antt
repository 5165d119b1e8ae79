use Rattle.std.proofs.Common.{◌≡◌, ◌++◌, ◌<◌, ◌≤◌, ℕ, true, List, [], ◌∷◌, length, slice_get, sym, ap, subst, ◌∙◌, append-nil, append_assoc, arith}
use Rattle.std.specs.Prelude.{Contains}
use Rattle.mc_pages.specs.declared.ids.ChunkId.{ChunkId}
use Rattle.mc_pages.specs.ClassState.{behind, times_in}
use Rattle.mc_pages.specs.SlabState.{SlabState, class_at, class_of_chunk}
use Rattle.mc_pages.proofs.RestOfList.{rest_from}
use Rattle.mc_core.specs.model.State.{has_chunk, is_class}
use Rattle.mc_words.specs.hand.View.{Setup}
use Rattle.mc_words.specs.chunk.Copies.{PassesAll}
use Rattle.mc_words.proofs.Chunks.Sweeps.{begins_with, behind_is, elsewhere, is_empty, left_is}
use Rattle.mc_words.proofs.Chunks.FreeWalks.{free_once, passes_again, stands_free}
use Rattle.mc_words.proofs.arena.Arena.find_fit.Goals as goal

pub is_fit-requires-clause-in_range : goal.is_fit-requires-clause-in_range
is_fit-requires-clause-in_range c =
    let inv = c.loop-next.invariant in
    let class = c.args.class in
    let chunk = c.in-Some.chunk in
    let slabs = c.args.held.now.shared in
    let view = c.loop-next.hand.seat.me.0 in
    let is = ap (λ (s : Setup). is_class s.table class) inv.arena.setup ∙ c.requires.class in
    let once = free_once view inv.arena.lawful slabs inv.held class is in
    let (more, rest_is) = begins_with inv.rest chunk (sym c.in-Some.is ∙ inv.at) in
    let stands : (class_at slabs class).free ≡ inv.before ++ chunk ∷ more = inv.split ∙ ap (λ (rest : List ChunkId). inv.before ++ rest) rest_is in
    let free = stands_free view inv.arena.lawful slabs inv.held class is chunk inv.before more stands in
    subst (λ (s : Setup). has_chunk s.table chunk ≡ true) inv.arena.setup free.in_range

pub returns-then-is_fit-clause-found : goal.returns-then-is_fit-clause-found
returns-then-is_fit-clause-found c =
    let inv = c.loop-next.invariant in
    let class = c.args.class in
    let chunk = c.in-Some.chunk in
    let slabs = c.args.held.now.shared in
    let view = c.loop-next.hand.seat.me.0 in
    let is = ap (λ (s : Setup). is_class s.table class) inv.arena.setup ∙ c.requires.class in
    let once = free_once view inv.arena.lawful slabs inv.held class is in
    let (more, rest_is) = begins_with inv.rest chunk (sym c.in-Some.is ∙ inv.at) in
    let stands : (class_at slabs class).free ≡ inv.before ++ chunk ∷ more = inv.split ∙ ap (λ (rest : List ChunkId). inv.before ++ rest) rest_is in
    let free = stands_free view inv.arena.lawful slabs inv.held class is chunk inv.before more stands in
    record {
      before = inv.before;
      after = more;
      stands = stands;
      passed = view;
      passes = inv.passes;
      fit = c.is_fit.ensures.fit c.if-is_fit.true;
    }

pub next_free-next-requires : goal.next_free-next-requires
next_free-next-requires c =
    let inv = c.loop-next.invariant in
    let class = c.args.class in
    let chunk = c.in-Some.chunk in
    let slabs = c.args.held.now.shared in
    let view = c.loop-next.hand.seat.me.0 in
    let is = ap (λ (s : Setup). is_class s.table class) inv.arena.setup ∙ c.requires.class in
    let once = free_once view inv.arena.lawful slabs inv.held class is in
    let (more, rest_is) = begins_with inv.rest chunk (sym c.in-Some.is ∙ inv.at) in
    let stands : (class_at slabs class).free ≡ inv.before ++ chunk ∷ more = inv.split ∙ ap (λ (rest : List ChunkId). inv.before ++ rest) rest_is in
    let free = stands_free view inv.arena.lawful slabs inv.held class is chunk inv.before more stands in
    subst (λ (x : SlabState). Contains (class_of_chunk x chunk).free chunk) (sym c.slabs-in-Some.ensures.slabs) free.listed

pub loop-next-preserved : goal.loop-next-preserved
loop-next-preserved c =
    let inv = c.loop-next.invariant in
    let class = c.args.class in
    let chunk = c.in-Some.chunk in
    let slabs = c.args.held.now.shared in
    let view = c.loop-next.hand.seat.me.0 in
    let is = ap (λ (s : Setup). is_class s.table class) inv.arena.setup ∙ c.requires.class in
    let once = free_once view inv.arena.lawful slabs inv.held class is in
    let (more, rest_is) = begins_with inv.rest chunk (sym c.in-Some.is ∙ inv.at) in
    let stands : (class_at slabs class).free ≡ inv.before ++ chunk ∷ more = inv.split ∙ ap (λ (rest : List ChunkId). inv.before ++ rest) rest_is in
    let free = stands_free view inv.arena.lawful slabs inv.held class is chunk inv.before more stands in
    let none = (elsewhere chunk more inv.before (subst (λ (cs : List ChunkId). times_in chunk cs ≤ 1) stands (once chunk))).0 in
    let at : c.next_free-next.result ≡ slice_get more 0 =
    c.next_free-next.ensures.chunk
    ∙ (ap (λ (x : SlabState). behind chunk (class_of_chunk x chunk).free) c.slabs-in-Some.ensures.slabs
    ∙ (ap (λ (n : ℕ). behind chunk (class_at slabs n).free) free.own ∙ (ap (behind chunk) stands ∙ behind_is chunk more inv.before none))) in
    record {
      arena = c.is_fit.ensures.arena;
      locks = c.is_fit.ensures.locks ∙ inv.locks;
      held = c.is_fit.ensures.held;
      before = inv.before ++ chunk ∷ [];
      rest = more;
      split = stands ∙ sym (append_assoc inv.before (chunk ∷ []) more);
      at = at;
      passes = passes_again c.args.page chunk view c.is_fit.new.hand.seat.me.0 inv.before c.args.hand.now.seat.me.0 inv.passes (c.is_fit.ensures.over c.if-is_fit.false);
    }

pub loop-next-smaller : goal.loop-next-smaller
loop-next-smaller c =
    let inv = c.loop-next.invariant in
    let class = c.args.class in
    let chunk = c.in-Some.chunk in
    let slabs = c.args.held.now.shared in
    let view = c.loop-next.hand.seat.me.0 in
    let is = ap (λ (s : Setup). is_class s.table class) inv.arena.setup ∙ c.requires.class in
    let once = free_once view inv.arena.lawful slabs inv.held class is in
    let (more, rest_is) = begins_with inv.rest chunk (sym c.in-Some.is ∙ inv.at) in
    let stands : (class_at slabs class).free ≡ inv.before ++ chunk ∷ more = inv.split ∙ ap (λ (rest : List ChunkId). inv.before ++ rest) rest_is in
    let free = stands_free view inv.arena.lawful slabs inv.held class is chunk inv.before more stands in
    let none = (elsewhere chunk more inv.before (subst (λ (cs : List ChunkId). times_in chunk cs ≤ 1) stands (once chunk))).0 in
    let at : c.next_free-next.result ≡ slice_get more 0 =
    c.next_free-next.ensures.chunk
    ∙ (ap (λ (x : SlabState). behind chunk (class_of_chunk x chunk).free) c.slabs-in-Some.ensures.slabs
    ∙ (ap (λ (n : ℕ). behind chunk (class_at slabs n).free) free.own ∙ (ap (behind chunk) stands ∙ behind_is chunk more inv.before none))) in
    let split : (class_at slabs class).free ≡ (inv.before ++ chunk ∷ []) ++ more = stands ∙ sym (append_assoc inv.before (chunk ∷ []) more) in
    let long : rest_from c.loop-next.next (class_at slabs class).free ≡ inv.rest =
    ap (rest_from c.loop-next.next) inv.split ∙ left_is c.loop-next.next inv.before inv.rest inv.at (λ other. subst (λ (cs : List ChunkId). times_in other cs ≤ 1) inv.split (once other)) in
    let short : rest_from c.next_free-next.result (class_at slabs class).free ≡ more =
    ap (rest_from c.next_free-next.result) split ∙ left_is c.next_free-next.result (inv.before ++ chunk ∷ []) more at (λ other. subst (λ (cs : List ChunkId). times_in other cs ≤ 1) split (once other)) in
    let one = ap length long in
    let two = ap length short in
    let whole = ap length rest_is in
    let smaller : length (rest_from c.next_free-next.result (class_at slabs class).free) < length (rest_from c.loop-next.next (class_at slabs class).free) = omega arith in
    smaller

pub returns-clause-none : goal.returns-clause-none
returns-clause-none c none =
    let inv = c.loop-next.invariant in
    let whole : (class_at c.args.held.now.shared c.args.class).free ≡ inv.before =
    inv.split ∙ (ap (λ (rest : List ChunkId). inv.before ++ rest) (is_empty inv.rest (sym c.in_default.is ∙ inv.at)) ∙ append-nil inv.before) in
    subst (λ (chunks : List ChunkId). PassesAll c.args.page chunks c.args.hand.now.seat.me.0 c.loop-next.hand.seat.me.0) (sym whole) inv.passes
