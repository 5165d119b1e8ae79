-- An empty owner owns nothing. The other owner gives the proof a client to name.
use mathlib.Core.Path.{refl}
use mathlib.Core.List.{List, [], ◌∷◌}
use mathlib.Core.Bool.{false}
use mir.Syntax.{named, w64}
use Rattle.std.proofs.Common.{lit<}
use mir.Val.{Val, vptr, vint, vstruct, vnil, vcons}
use base.Logic.{SProp}
use contract.Running.{tables}
use types.Kit.{‵, raw, ◌⊛◌, ◌$◌, ◌∵◌, !, qed, move, keep, join, split, fsplit, fjoin, fpack, feq_i, suffices, done}
use types.Run.{lit, no_more, and_then, returns, enter}
use types.ByLocal.{alloc_all, pass_all, free_all, look_at, get, sets}
use types.Part.{agg}
use denote.Exit.{yes}
use denote.RattleType.{Valss, owns}
use denote.RawPtr.{RawPtr, null_ptr, ptr_val}
use denote.Ref.{shr_vals, shr_Tells}
use denote.Builtin.{RefOf}
use denote.Signature.{plain, types_at}
use denote.Steps.{nothing}
use denote.Struct.Owning.{shape}
use denote.Struct.Struct.{within}
use denote.Triple.Entry.{alive}
use denote.Triple.Walked.{says, Stays, stay_dropped, walk_of, ends_at, Goes-dropped}
use Rattle.std.proofs.raw_atomic.Walks.{proved}
use Rattle.std_heap.proofs.Handle.{heap_val, heap_Tells}
use Rattle.std_alloc.proofs.BoxSteps.Form.{P, owning}
use Rattle.mc_c.proofs.AsBox.{E}
use Rattle.std_heap.specs.contracts.Global as Heap
use Rattle.mc_c.specs.contracts.owner.Owner as Owner
use Rattle.mc_c.specs.contracts.owner.Owner.empty as F
use Rattle.mc_c.specs.contracts.owner.Owner.empty.Key.{name as #self}
use Rattle.mc_c.proofs.owner.Owner.empty.Statement.{statement}
use Rattle.mc_c.proofs.owner.Owner.empty.Code as code

-- a null pointer and the heap's handle
abbrev word : Val
word = vstruct (vcons (vint w64 0) (vcons heap_val vnil))

abbrev stayed : Stays F.ended.signature.params F.ended.kept
stayed = (stay_dropped _ yes, (stay_dropped _ yes, tt))

pub empty_spec : {M : Type 1} → statement M
empty_spec 𝓤 𝓛 𝓜 𝓡 wired =
    let 𝓣 = tables 𝓤 𝓛.H 𝓜 𝓡 𝓡.env in let c = F.clauses 𝓛 𝓜.mem 𝓡.returns in
    proved 𝓛 F.ended stayed c 𝓜 𝓡 (Goes-dropped 𝓛 1 (plain (λ _. Heap.the_row)) yes (λ κs x f. refl), (Goes-dropped 𝓛 1 (RefOf (0 ∷ []) tt (plain (λ _. Owner.the_row)) (λ _. tt)) yes (λ κs x f. refl), tt)) #self code.function (code.unfolded 𝓤 𝓛.H 𝓜 𝓡 wired)
    (λ κs. ((λ _. heap_val ∷ []), (shr_vals, tt))) (λ κs. (heap_Tells, (shr_Tells (named 0) κs.0 Owner.the_row, tt))) (λ κs qs bounds a gh are.
    let like : Val = vptr a.1.0.ref_ptr.0 a.1.0.ref_ptr.1 in
    let r : Owner.the_row.Denot = record { at = null_ptr; alloc = a.0; full = false; client = a.1.0.now.client } in
    let y : (walk_of 𝓛 F.ended stayed c).Ghost = ((κs, qs, bounds, a, (heap_val ∷ [], (like ∷ [], tt))), gh) in
    let Post : Val → SProp 𝓤 = (walk_of 𝓛 F.ended stayed c).post y in
    qed 𝓛 ((raw (alive 𝓛 F.ended.signature κs qs) ⊛ ‵ (owns (types_at F.ended.signature.params κs) a y.0.4)) ∷ raw ((c κs a).requires gh) ∷ []) ∵
    split ! $ move ! (1 ∷ []) $ fsplit ! $ keep ! (0 ∷ 2 ∷ []) $
    enter ! 𝓣.C 𝓣.Λ code.function (heap_val ∷ like ∷ []) Post $ alloc_all ! (λ l. pass_all ! refl ((tt, ((tt, tt), tt)), ((tt, tt), tt)) $
    sets ! (agg ! (and_then ! (lit ! tt) (and_then ! (get ! refl) (no_more !)))) refl (tt, (record { fits = lit< tt }, (((tt, tt), tt), tt))) $
    returns ! (look_at ! 0 refl) $ free_all ! refl $
    -- [the handle; the tokens]
    nothing ! $ nothing ! $ move ! (2 ∷ 0 ∷ []) $ fjoin ! $ feq_i ! (List Val) (vint w64 0 ∷ []) (ptr_val null_ptr ∷ []) refl $ fjoin ! $
    feq_i ! (List Val) (word ∷ []) (word ∷ []) refl $ fjoin ! $
    fpack ! (Valss (RawPtr ∷ P E ∷ [])) (within (shape (owning E)) (null_ptr, (a.0, tt)) (word ∷ [])) (vint w64 0 ∷ [], (heap_val ∷ [], tt)) $ fjoin ! $
    suffices ! _ (ends_at 𝓛 F.ended stayed c y word r (tt, (tt, tt)) (tt, (tt, tt))) $ says ! refl $
    nothing ! $ nothing ! $ fjoin ! $ nothing ! $ fjoin ! $ join ! $ move ! (1 ∷ 0 ∷ []) $ join ! $ done !))
