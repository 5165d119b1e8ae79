-- Where a command is left: at one of its stages.
use Rattle.std.proofs.Common.{◌≡◌, ℕ, ◌+◌, ◌-◌, ◌<◌, zero, suc, Bool, true, false, List, [], ◌∷◌, Contains, Option, Some, None, Result, Ok, Err, refl, ap, sym, ◌∙◌, subst, arith}
use Rattle.std.specs.Prelude.{OnErr, nat_lt, if◌then◌else◌}
use Rattle.std.proofs.lemmas.Option.{same_Some}
use Rattle.std.proofs.lemmas.List.Elements.{Contains-append_left, Contains-append_right}
use Rattle.mc_serial_spec.specs.Automove.{decision, with_window}
use Rattle.mc_serial_spec.specs.Lines.{decision_outcome}
use Rattle.mc_serial_spec.specs.Machine.{Machine, all_swept}
use Rattle.mc_serial_spec.specs.Mover.{MoverCount, TurnsOfMover, is_went, most_turns, turns_after_one, turns_from, with_chunk, with_chunks}
use Rattle.mc_keeper.specs.Stages.{look_stages, stages_from, turn_stages, window_stages, with_source_swept}

-- what holds whatever the result
pub on_err : {A E : Type 0} (P : Type 0) (result : Result A E) → P → OnErr result P
on_err P (Ok value) holds = tt
on_err P (Err error) holds = holds

-- what follows from what holds at a refusal
pub on_err_map : {A E : Type 0} (P Q : Type 0) (result : Result A E) → (P → Q) → OnErr result P → OnErr result Q
on_err_map P Q (Ok value) follows holds = tt
on_err_map P Q (Err error) follows holds = follows holds

-- the first of some stages is one of them
pub first_stage : (stage left : Machine) (others : List Machine) → stage ≡ left → Contains (stage ∷ others) left
first_stage stage left others same = (0, omega arith, same)

-- and so is each of the others
pub later_stage : (stage left : Machine) (others : List Machine) → Contains others left → Contains (stage ∷ others) left
later_stage stage left others there = Contains-append_right (stage ∷ []) others left there

-- a window was fed, and nothing was done beside
pub fed_stage : (m now left : Machine) → now ≡ with_window (all_swept m) → now ≡ left → Contains (window_stages m) left
fed_stage m now left ended same =
    let fed : Machine = with_window (all_swept m) in
    let acts : Machine = (decision_outcome fed (decision fed)).machine in
    later_stage (all_swept m) left (fed ∷ acts ∷ []) (first_stage fed left (acts ∷ []) (sym ended ∙ same))

-- some chunks were looked at, and the next one is where the turn ends
pub look_stage : (done left : ℕ) (c now : MoverCount) (m : Machine) → now ≡ with_chunks done c
    → m ≡ with_source_swept now.machine now.machine.slabs.moving → Contains (look_stages (done + suc left) c) m
look_stage zero left c now m so_far is =
    let more : zero + suc left ≡ suc left = omega arith in
    let here : with_source_swept c.machine c.machine.slabs.moving ≡ m
    = ap (λ (n : MoverCount). with_source_swept n.machine n.machine.slabs.moving) (sym so_far) ∙ sym is in
    subst (λ n. Contains (look_stages n c) m) (sym more) (first_stage _ m _ here)
look_stage (suc done) left c now m so_far is =
    let more : suc done + suc left ≡ suc (done + suc left) = omega arith in
    subst (λ n. Contains (look_stages n c) m) (sym more)
    (later_stage _ m _ (look_stage done left (with_chunk c c.machine.slabs.moving) now m so_far is))

-- the turns that are left, one of them done
left_suc : (count done : ℕ) → done < count → count - done ≡ suc (count - (done + 1))
left_suc count done more = omega (arith, more)

-- some turns were done, and the next one isn't begun
pub turn_waits : (count done : ℕ) (t : TurnsOfMover) (left : Machine) → done < count → t.machine ≡ left → Contains (stages_from (count - done) t) left
turn_waits count done t left more same =
    subst (λ n. Contains (stages_from n t) left) (sym (left_suc count done more)) (first_stage t.machine left _ same)

-- or it ends early
pub turn_ends : (count done : ℕ) (t : TurnsOfMover) (left : Machine) → done < count → Contains (turn_stages t.machine t.counts) left
    → Contains (stages_from (count - done) t) left
turn_ends count done t left more there =
    subst (λ n. Contains (stages_from n t) left) (sym (left_suc count done more))
    (later_stage t.machine left _ (Contains-append_left (turn_stages t.machine t.counts) _ left there))

-- the stages of the turns behind it are stages too
pub turn_behind : (count done : ℕ) (t next : TurnsOfMover) (left : Machine) → done < count → turns_after_one t.machine t.counts ≡ next → is_went next.ending ≡ true
    → Contains (stages_from (count - (done + 1)) next) left → Contains (stages_from (count - done) t) left
turn_behind count done t next left more one went there =
    let behind : (if is_went (turns_after_one t.machine t.counts).ending then stages_from (count - (done + 1)) (turns_after_one t.machine t.counts) else (turns_after_one t.machine t.counts).machine ∷ [])
    ≡ stages_from (count - (done + 1)) next
    = rw (one, went) refl in
    subst (λ n. Contains (stages_from n t) left) (sym (left_suc count done more))
    (later_stage t.machine left _
    (Contains-append_right (turn_stages t.machine t.counts) _ left (subst (λ (l : List Machine). Contains l left) (sym behind) there)))

-- how the turns ended is their last stage
some_branch : (b : Bool) (turns : Option TurnsOfMover) (u : TurnsOfMover) → (if b then turns else None) ≡ Some u → turns ≡ Some u
some_branch true turns u is = is
some_branch false turns u is = cc

ended_branch : (b : Bool) (count : ℕ) (next u : TurnsOfMover) → (turns_from count next ≡ Some u → Contains (stages_from count next) u.machine)
    → (if b then turns_from count next else Some next) ≡ Some u → Contains (if b then stages_from count next else next.machine ∷ []) u.machine
ended_branch true count next u more is = more is
ended_branch false count next u more is = first_stage next.machine u.machine [] (ap (λ (t : TurnsOfMover). t.machine) (same_Some next u is))

pub turns_done : (count : ℕ) (t u : TurnsOfMover) → turns_from count t ≡ Some u → Contains (stages_from count t) u.machine
turns_done zero t u is = first_stage t.machine u.machine [] (ap (λ (t : TurnsOfMover). t.machine) (same_Some t u is))
turns_done (suc count) t u is =
    let next : TurnsOfMover = turns_after_one t.machine t.counts in
    later_stage t.machine u.machine _
    (Contains-append_right (turn_stages t.machine t.counts) _ u.machine
    (ended_branch (is_went next.ending) count next u (turns_done count next u) (some_branch (nat_lt t.machine.turns most_turns) _ u is)))
