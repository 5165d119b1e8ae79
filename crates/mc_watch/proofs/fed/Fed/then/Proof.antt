-- An empty body: what was lent is given back, and the new value has one window more.
use mathlib.Core.Path.{refl}
use Rattle.std.proofs.Common.{List, [], ◌∷◌, length}
use seplogic.Ra.Ura.{Ura}
use mir.Syntax.{named}
use mir.Val.{vstruct, vnil}
use base.Logic.{SProp, ent, emp, via, fst∗}
use prog.Memory.{Memory}
use prog.Routine.{Routine}
use prog.Wp.{Calls, Loops, WpFn, Tables}
use types.Logic.{Logic}
use contract.Monad.{Fun}
use contract.Running.{tables, tables_of}
use sound.WpLaws.{WpFn-mono}
use types.Kit.{‵, raw, ◌$◌, ◌∵◌, !, fjoin3, qed, move, keep, suffices, done}
use types.Run.{no_more, returns, enter}
use types.Part.{agg}
use types.ByLocal.{alloc_all, pass_all, free_all, look_at, sets}
use denote.Exit.{yes}
use denote.RattleType.{owns}
use denote.Builtin.{RefOf, SliceRefOf, u64}
use denote.Ref.{shr_vals, shr_Tells}
use denote.Slice.{Room, shr_slice_vals, shr_slice_Tells}
use denote.Signature.{plain, types_at}
use denote.Shadow.{pure_i}
use denote.Steps.{nothing}
use denote.Triple.Entry.{on_entry, alive}
use denote.Triple.Spec.{Meets, triple_of}
use denote.Triple.Table.{entered}
use denote.Triple.Walked.{says, Stays, stay_dropped, Goes-dropped, walk_of, Walks, ends_at, walked, walk_Meets}
use Rattle.mc_watch.specs.Decider.{Window}
use Rattle.mc_watch.specs.contracts.fed.Fed.then.Key.{name as key}
use Rattle.mc_watch.specs.contracts.fed.Fed.then as f
use Rattle.mc_watch.proofs.fed.Fed.then.Statement as stated
use Rattle.mc_watch.proofs.fed.Fed.then.Code as code
use Rattle.mc_watch.specs.contracts.fed.Fed as made

abbrev stayed : Stays (f.ended).signature.params (f.ended).kept
stayed = (
  stay_dropped (RefOf (0 ∷ []) tt (plain (λ _. made.the_row)) (λ _. tt)) yes,
  (
    stay_dropped (SliceRefOf (1 ∷ []) tt (plain (λ _. u64)) (λ _. tt)) yes,
    (
      stay_dropped (SliceRefOf (2 ∷ []) tt (plain (λ _. u64)) (λ _. tt)) yes,
      (stay_dropped (SliceRefOf (3 ∷ []) tt (plain (λ _. u64)) (λ _. tt)) yes, tt),
    ),
  ),
)

module _ {M : Type 1} {𝓤 : Ura M} (𝓛 : Logic 𝓤) (mem : Memory → SProp 𝓤) (run : Routine → Fun 𝓤) (C : Calls 𝓤 𝓛.H) (Λ : Loops 𝓤 𝓛.H) where
  open 𝓛 use {H}

  abbrev Bound : Type 0
  Bound = (walk_of 𝓛 f.ended stayed (f.clauses 𝓛 mem run)).Ghost

  abbrev spelled : Bound → Bound
  spelled z = ((z.0.0, z.0.1, z.0.2, z.0.3, (shr_vals z.0.3.0, (shr_slice_vals z.0.3.1.0, (shr_slice_vals z.0.3.1.1.0, (shr_slice_vals z.0.3.1.1.1.0, tt))))), z.1)

  walk : (z : Bound) → Room u64 (length z.0.3.1.0.now) → Room u64 (length z.0.3.1.1.0.now) → Room u64 (length z.0.3.1.1.1.0.now)
      → ent 𝓤 (on_entry 𝓛 f.signature z.0.0 z.0.1 z.0.3 (spelled z).0.4)
      (WpFn 𝓤 H C Λ code.function ((walk_of 𝓛 f.ended stayed (f.clauses 𝓛 mem run)).args (spelled z)) ((walk_of 𝓛 f.ended stayed (f.clauses 𝓛 mem run)).post (spelled z)))
  walk z e p r =
      let w : List Window = record { evictions = z.0.3.1.0.now; pages = z.0.3.1.1.0.now; free = z.0.3.1.1.1.0.now } ∷ z.0.3.0.now.windows in
      qed 𝓛 (raw (alive 𝓛 f.signature z.0.0 z.0.1) ∷ ‵ (owns (types_at f.signature.params z.0.0) z.0.3 (spelled z).0.4) ∷ []) ∵
      keep ! (0 ∷ []) $
      enter ! C Λ code.function ((walk_of 𝓛 f.ended stayed (f.clauses 𝓛 mem run)).args (spelled z)) _ $
      alloc_all ! (λ l. pass_all ! refl ((tt, tt), ((tt, (tt, (record { fits = e.0 }, tt))), ((tt, (tt, (record { fits = p.0 }, tt))), ((tt, (tt, (record { fits = r.0 }, tt))), tt)))) $
      sets ! (agg ! (no_more !)) refl (tt, tt) $
      returns ! (look_at ! 0 refl) $ free_all ! refl $
      suffices ! _ (ends_at 𝓛 f.ended stayed (f.clauses 𝓛 mem run) (spelled z) (vstruct vnil) (record { windows = w }) (tt, (tt, (tt, (tt, tt)))) (tt, (tt, (tt, (tt, tt))))) $
      says ! refl $ pure_i ! (made.the_row.own_val (record { windows = w }) (vstruct vnil ∷ [])) ((λ vss. (tt, tt)), tt) ((tt, (refl, tt)), tt) $
      nothing ! $ nothing ! $ nothing ! $ nothing ! $ nothing ! $ fjoin3 ! $ move ! (1 ∷ 2 ∷ 0 ∷ 3 ∷ 4 ∷ []) $ fjoin3 ! $
      move ! (2 ∷ 0 ∷ 1 ∷ []) $ done !)

  walks : Walks 𝓛 f.ended stayed (WpFn 𝓤 H C Λ code.function) (f.clauses 𝓛 mem run)
  walks =
      walked 𝓛 f.ended stayed (f.clauses 𝓛 mem run) (WpFn 𝓤 H C Λ code.function)
      (λ κs. (shr_vals, (shr_slice_vals, (shr_slice_vals, (shr_slice_vals, tt)))))
      (λ κs. (shr_Tells (named 0) κs.0 made.the_row, (shr_slice_Tells (named 1) κs.1.0 u64, (shr_slice_Tells (named 2) κs.1.1.0 u64, (shr_slice_Tells (named 3) κs.1.1.1.0 u64, tt)))))
      (λ κs qs bounds a g are. via 𝓤 _ (fst∗ 𝓤 _ (emp 𝓤))
      (walk ((κs, qs, bounds, a, (shr_vals a.0, (shr_slice_vals a.1.0, (shr_slice_vals a.1.1.0, (shr_slice_vals a.1.1.1.0, tt))))), g) are.1.0.0.1 are.1.1.0.0.1 are.1.1.1.0.0.1))

meets : {M : Type 1} {𝓤 : Ura M} (𝓛 : Logic 𝓤) (mem : Memory → SProp 𝓤) (run : Routine → Fun 𝓤) (𝓣 : Tables 𝓤 𝓛.H)
    → Meets 𝓛 f.signature (WpFn 𝓤 𝓛.H 𝓣.C 𝓣.Λ code.function) (f.spec 𝓛 mem run)
meets {𝓤 = 𝓤} 𝓛 mem run 𝓣 =
    walk_Meets 𝓛 f.ended stayed (
      Goes-dropped 𝓛 4 (RefOf (0 ∷ []) tt (plain (λ _. made.the_row)) (λ _. tt)) yes (λ κs x f. refl),
      (
        Goes-dropped 𝓛 4 (SliceRefOf (1 ∷ []) tt (plain (λ _. u64)) (λ _. tt)) yes (λ κs x f. refl),
        (
          Goes-dropped 𝓛 4 (SliceRefOf (2 ∷ []) tt (plain (λ _. u64)) (λ _. tt)) yes (λ κs x f. refl),
          (Goes-dropped 𝓛 4 (SliceRefOf (3 ∷ []) tt (plain (λ _. u64)) (λ _. tt)) yes (λ κs x f. refl), tt),
        ),
      ),
    ) (f.clauses 𝓛 mem run) (WpFn 𝓤 𝓛.H 𝓣.C 𝓣.Λ code.function)
    (WpFn-mono 𝓤 𝓛.H 𝓛.laws 𝓣 code.function) (walks 𝓛 mem run 𝓣.C 𝓣.Λ)

pub then_spec : {M : Type 1} → stated.statement M
unfolding tables_of
then_spec 𝓤 𝓛 𝓜 𝓡 wired =
    entered 𝓤 𝓛.H (triple_of 𝓛 f.signature (f.spec 𝓛 𝓜.mem 𝓡.returns))
    (tables 𝓤 𝓛.H 𝓜 𝓡 𝓡.env).C (tables 𝓤 𝓛.H 𝓜 𝓡 𝓡.env).Λ key code.function (code.unfolded 𝓤 𝓛.H 𝓜 𝓡 wired)
    (meets 𝓛 𝓜.mem 𝓡.returns (tables_of 𝓤 𝓛.H 𝓜 (tables 𝓤 𝓛.H 𝓜 𝓡 𝓡.env)))
