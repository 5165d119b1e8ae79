-- The machine goes on by itself: turns of the mover, and the end of a move.
use Rattle.std.proofs.Common.{◌≡◌, ◌≢◌, ℕ, ◌+◌, ◌≤◌, suc, zero, Bool, true, false, not, [], ◌∷◌, ◌++◌, Option, Some, None, refl, sym, ap, ◌∙◌, subst, arith, eqb-true}
use Rattle.std.specs.Prelude.{nat_lt, if◌then◌else◌, ◌==◌}
use Rattle.std.proofs.lemmas.Bool.{ltb-true}
use Rattle.std.proofs.lemmas.Bool.Decides.{nat_tests}
use Rattle.std.proofs.lemmas.Option.{none-some, same_Some}
use Rattle.mc_pages.specs.declared.ids.Moving.{Moving}
use Rattle.mc_pages.specs.declared.ledger.Entry.TheVariants.{Ended}
use Rattle.mc_pages.specs.ClassState.{counter_after}
use Rattle.mc_pages.specs.SlabState.{SlabState, HasClass, class_at}
use Rattle.mc_pages.specs.Changes.{with_given}
use Rattle.mc_pages.specs.Accounted.{IsMove, first_chunks}
use Rattle.mc_pages.specs.InOrder.{AreSlabsInOrder}
use Rattle.mc_pages.specs.Moves.{CanFinish, CanWrap, after_wrap, after_move_end, after_page_release}
use Rattle.mc_pages.proofs.Kept.{IsInOrder-after_wrap, IsInOrder-finished, all_cleared_at_end}
use Rattle.mc_serial_spec.specs.declared.turn.Counts.{Counts}
use Rattle.mc_serial_spec.specs.declared.turn.Ending.TheVariants.{Went, Finished}
use Rattle.mc_serial_spec.specs.Consistent.{IsConsistent}
use Rattle.mc_serial_spec.specs.Machine.{Machine, with_cut_page}
use Rattle.mc_serial_spec.specs.Mover.{MoverCount, TurnsOfMover, is_at_end, is_went, most_turns, turns_after_one, turns_from, with_chunks, with_end, with_finish}
use Rattle.mc_serial_spec.proofs.KeptMoverFinish.{kept_pooled, kept_recut, per_page_finished, per_page_there, uncut_finished}
use Rattle.mc_serial_spec.proofs.KeptMoverPass.{kept_moved}
use Rattle.mc_serial_spec.proofs.Modes.{mode-cuts}
use Rattle.mc_serial_laws.proofs.Lawful.{IsLawful, off, Proceeds, proceeds_same, proceeds_from, proceeds_slabs, proceeds_then}
use Rattle.mc_serial_laws.proofs.ProceedLooks.{proceeds_chunks}
use Rattle.mc_serial_laws.proofs.ProceedPages.{all_cut, off-cut_page}

-- a pass begins anew
proceeds_wrapped : (m : Machine) (move : Moving) → IsLawful m → m.slabs.moving ≡ Some move → is_at_end m move ≡ true → nat_lt 0 move.busy ≡ true
    → Proceeds m (record m { slabs = after_wrap m.slabs })
proceeds_wrapped m move lawful runs at_end busy =
    let is : IsMove (off m.slabs) move = lawful.kept.accounted.move move runs in
    let can : CanWrap (off m.slabs) move = record {
      runs = runs;
      at_end = grind (arith, nat_tests, is.within);
      held_up = ltb-true 0 move.busy busy;
    } in
    let order : AreSlabsInOrder (off (after_wrap m.slabs)) lawful.granted = IsInOrder-after_wrap (off m.slabs) lawful.granted move lawful.order can in
    proceeds_slabs m (after_wrap m.slabs) lawful.granted lawful (kept_moved m.table (off m.slabs) m.items _ _ _ _ lawful.kept order.accounted) order (omega arith) refl

-- where the page has come to
abbrev arrived_by : SlabState → Moving → Bool → SlabState
arrived_by slabs move b = if b then after_page_release slabs move.page move.src else record (with_given (after_page_release slabs move.page move.src) move.dst move.page) { pool = slabs.pool }

-- and the end's entry and count
abbrev ended_from : SlabState → Moving → SlabState → SlabState
ended_from slabs move there = record there { ledger = slabs.ledger ++ Ended move.page move.dst ∷ []; moved = counter_after slabs.moved 1 }

-- whether the automover is on has no part in how a move ends
off-finished : (slabs : SlabState) (move : Moving) → after_move_end (off slabs) move ≡ off (after_move_end slabs move)
off-finished slabs move =
    elim (move.dst == 0) as (λ (b : Bool). ended_from (off slabs) move (arrived_by (off slabs) move b) ≡ off (ended_from slabs move (arrived_by slabs move b))) [ true ↦ refl | false ↦ refl ]

mode-finished : (slabs : SlabState) (move : Moving) → (after_move_end slabs move).automove ≡ slabs.automove
mode-finished slabs move =
    elim (move.dst == 0) as (λ (b : Bool). (ended_from slabs move (arrived_by slabs move b)).automove ≡ slabs.automove) [ true ↦ refl | false ↦ refl ]

-- a move ends: its page goes into the pool, or a class cuts it
finish_way : (b : Bool) (m : Machine) (move : Moving) → IsLawful m → CanFinish (off m.slabs) move → (move.dst == 0) ≡ b
    → Proceeds m (record m { slabs = if b then after_move_end m.slabs move else with_cut_page (after_move_end m.slabs move) move.dst move.page })
finish_way true m move lawful can pool =
    let was : SlabState = off m.slabs in
    let order = IsInOrder-finished was lawful.granted move lawful.order lawful.kept.whole can in
    let kept = kept_pooled m.table was m.items move lawful.kept can (eqb-true move.dst 0 pool) order.accounted in
    let now = off-finished m.slabs move in
    proceeds_slabs m (after_move_end m.slabs move) lawful.granted lawful
    (subst (λ (s : SlabState). IsConsistent m.table s m.items) now kept) (subst (λ (s : SlabState). AreSlabsInOrder s lawful.granted) now order)
    (omega arith) (mode-finished m.slabs move)
finish_way false m move lawful can class =
    let was : SlabState = off m.slabs in
    let is : IsMove was move = lawful.kept.accounted.move move can.runs in
    let new : SlabState = after_move_end was move in
    let per_page : ℕ = (class_at new move.dst).per_page in
    let to : move.dst ≢ 0 = grind (arith, nat_tests) in
    let valid : HasClass was move.dst = (omega (arith, to), is.dst) in
    let same = per_page_finished was move move.dst in
    let order : AreSlabsInOrder new lawful.granted = IsInOrder-finished was lawful.granted move lawful.order lawful.kept.whole can in
    let some : 1 ≤ per_page = rw same (lawful.order.per_page move.dst valid) in
    let cut = all_cut new lawful.granted move.page per_page order (uncut_finished was move to) (per_page_there was move is to ∙ sym same) some in
    let kept = kept_recut m.table was m.items move (first_chunks move.page per_page) lawful.kept can cut.1 cut.0.accounted in
    let now : with_cut_page new move.dst move.page ≡ off (with_cut_page (after_move_end m.slabs move) move.dst move.page)
    = ap (λ (s : SlabState). with_cut_page s move.dst move.page) (off-finished m.slabs move) ∙ off-cut_page (after_move_end m.slabs move) move.dst move.page in
    proceeds_slabs m (with_cut_page (after_move_end m.slabs move) move.dst move.page) lawful.granted lawful
    (subst (λ (s : SlabState). IsConsistent m.table s m.items) now kept) (subst (λ (s : SlabState). AreSlabsInOrder s lawful.granted) now cut.0)
    (omega arith)
    (mode-cuts (after_move_end m.slabs move) (first_chunks move.page (class_at (after_move_end m.slabs move) move.dst).per_page) ∙ mode-finished m.slabs move)

proceeds_finished : (m : Machine) (move : Moving) → IsLawful m → m.slabs.moving ≡ Some move → is_at_end m move ≡ true → nat_lt 0 move.busy ≡ false
    → Proceeds m (with_finish m move)
proceeds_finished m move lawful runs at_end free =
    let is : IsMove (off m.slabs) move = lawful.kept.accounted.move move runs in
    let last : move.at ≡ (class_at m.slabs move.src).per_page = grind (arith, nat_tests, is.within) in
    let none : move.busy ≡ 0 = grind (arith, nat_tests) in
    finish_way (move.dst == 0) m move lawful (all_cleared_at_end (off m.slabs) move lawful.kept.accounted runs last none) refl

-- the end of a turn
proceeds_end : (c : MoverCount) (moving : Option Moving) → IsLawful c.machine → c.machine.slabs.moving ≡ moving → Proceeds c.machine (with_end c moving).machine
proceeds_end c None lawful is = proceeds_same c.machine lawful
proceeds_end c (Some move) lawful is = end_way (is_at_end c.machine move) (nat_lt 0 move.busy) refl refl
  where
    end_way : (b d : Bool) → is_at_end c.machine move ≡ b → nat_lt 0 move.busy ≡ d → Proceeds c.machine (
        let t : TurnsOfMover =
        if not b then record { machine = c.machine; counts = c.counts; ending = Went }
        else if d then record { machine = record c.machine { slabs = after_wrap c.machine.slabs }; counts = c.counts; ending = Went }
        else record { machine = with_finish c.machine move; counts = c.counts; ending = Finished } in
        t.machine
        )
    end_way false d inside any = proceeds_same c.machine lawful
    end_way true true at_end busy = proceeds_wrapped c.machine move lawful is at_end busy
    end_way true false at_end free = proceeds_finished c.machine move lawful is at_end free

-- a turn
proceeds_turned : (m : Machine) (counts : Counts) → IsLawful m → Proceeds m (turns_after_one m counts).machine
proceeds_turned m counts lawful =
    let begun : Machine = record m { turns = m.turns + 1 } in
    let c : MoverCount = with_chunks m.bulk (record { machine = begun; counts = counts }) in
    let first : Proceeds m begun
    = proceeds_from m begun lawful.granted lawful lawful.kept lawful.order (omega arith) refl refl refl (λ worker chunk held. refl)
    (λ chunk item at is. (chunk, at)) in
    let looked : Proceeds begun c.machine = proceeds_chunks m.bulk (record { machine = begun; counts = counts }) first.lawful in
    proceeds_then m c.machine (turns_after_one m counts).machine (proceeds_then m begun c.machine first looked)
    (proceeds_end c c.machine.slabs.moving looked.lawful refl)

-- turns, as long as the run has them
turns_way : (b went : Bool) (count : ℕ) (t u : TurnsOfMover) → IsLawful t.machine
    → ((next : TurnsOfMover) → IsLawful next.machine → turns_from count next ≡ Some u → Proceeds next.machine u.machine)
    → (if b then (if went then turns_from count (turns_after_one t.machine t.counts) else Some (turns_after_one t.machine t.counts)) else None) ≡ Some u
    → Proceeds t.machine u.machine
turns_way false went count t u lawful more done = absurd (none-some u done)
turns_way true true count t u lawful more done =
    let next : TurnsOfMover = turns_after_one t.machine t.counts in
    let first : Proceeds t.machine next.machine = proceeds_turned t.machine t.counts lawful in
    proceeds_then t.machine next.machine u.machine first (more next first.lawful done)
turns_way true false count t u lawful more done =
    subst (λ (v : TurnsOfMover). Proceeds t.machine v.machine) (same_Some (turns_after_one t.machine t.counts) u done) (proceeds_turned t.machine t.counts lawful)

pub proceeds_turns : (count : ℕ) (t u : TurnsOfMover) → IsLawful t.machine → turns_from count t ≡ Some u → Proceeds t.machine u.machine
proceeds_turns zero t u lawful done =
    let same : t ≡ u = same_Some t u done in
    subst (λ (v : TurnsOfMover). Proceeds t.machine v.machine) same (proceeds_same t.machine lawful)
proceeds_turns (suc count) t u lawful done =
    turns_way (nat_lt t.machine.turns most_turns) (is_went (turns_after_one t.machine t.counts).ending) count t u lawful
    (λ next lawful. proceeds_turns count next u lawful) done
