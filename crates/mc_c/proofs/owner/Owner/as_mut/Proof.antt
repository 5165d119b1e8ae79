-- `as_mut` lends the client, and the owner follows it. (after `as_mut` of the kit's `Box`)
use mathlib.Core.Path.{◌≡◌, refl, sym}
use mathlib.Core.List.{List, [], ◌∷◌}
use mathlib.Core.Bool.{Bool, true}
use Prim.Native.Nat.{ℕ}
use seplogic.Ra.Ura.{Ura}
use base.Fraction.{full_share}
use mir.Syntax.{named}
use mir.Raw.{raw as bare}
use mir.Val.{Val, vptr}
use base.Logic.{SProp, ent, sep, id⊢}
use base.Fml.{Lft, GName, Share, Fml, ftrue, flft, fsep}
use contract.Monad.{Fun, fact}
use contract.Running.{tables}
use prog.Memory.{Memory}
use prog.Routine.{Routine}
use prog.Wp.{Env, Calls, Loops, WpFn}
use types.Logic.{Logic, sem}
use types.Kit.{‵, ◌⊛◌, some, at_ret, ◌$◌, ◌∵◌, !, qed, by, move, keep, use1, drop, split, join, pick, fsplit, fsplit3, fjoin, suffices, frame, done, raw, later, await, group, fpack, rewrite}
use types.Part.{whole, sub, look_in}
use types.Run.{stop, fld, load, of_opd, first, blocks, exec, returns, enter, addr}
use types.ByLocal.{alloc_all, pass_all, free_all, look_at, get, through, sets, env, sets_last}
use denote.Exit.{no}
use denote.RattleType.{owns}
use denote.Memory.{part_at, mem, cell_at, part_of}
use denote.RawPtr.{block_ptr}
use denote.Ref.{MutRef, mut_vals, mut_Tells}
use denote.Signature.{plain, mut_ref_to}
use denote.Steps.{nothing, opens, heard}
use denote.Follow.{follows, Part, lends_Part}
use denote.Triple.Entry.{on_entry}
use denote.Triple.Walked.{says, Stays, stay_dropped, walk_of, ends_at, Goes-spent_ref}
use Rattle.core.proofs.alloc.Calls.{token}
use Rattle.std.proofs.raw_atomic.Walks.{proved}
use Rattle.std_alloc.proofs.BoxSteps.Form.{D, B, R, X, τ, word, handle}
use Rattle.std_alloc.proofs.BoxSteps.Steps.{box_out, box_in}
use Rattle.mc_c.proofs.AsBox.{E}
use Rattle.mc_c.specs.Lending.{with_client}
use Rattle.mc_c.specs.contracts.client.Client as Client
use Rattle.mc_c.specs.contracts.owner.Owner as Owner
use Rattle.mc_c.specs.contracts.owner.Owner.as_mut as F
use Rattle.mc_c.specs.contracts.owner.Owner.as_mut.Key.{name as #self}
use Rattle.mc_c.proofs.owner.Owner.as_mut.Statement.{statement}
use Rattle.mc_c.proofs.owner.Owner.as_mut.Code as code

abbrev O : Type 0
O = Owner.the_row.Denot

abbrev stayed : Stays F.ended.signature.params F.ended.kept
stayed = (stay_dropped (mut_ref_to (0 ∷ []) tt (plain (λ _. Owner.the_row))) no, tt)

module _ {M : Type 1} {𝓤 : Ura M} (𝓛 : Logic 𝓤) (at_mem : Memory → SProp 𝓤) (run : Routine → Fun 𝓤) (κ : Lft) (q : Share) (rb ro : ℕ) (γ : GName) (h : O) (full : h.full ≡ true) where
  open 𝓛 use {H, A}

  abbrev bound : (walk_of 𝓛 F.ended stayed (F.clauses 𝓛 at_mem run)).Ghost
  bound = (((κ, tt), (q, tt), tt, (record { ref_ptr = (rb, ro); ghost_name = γ; now = h }, tt), (vptr rb ro ∷ [], tt)), tt)

  abbrev Post : Val → SProp 𝓤
  Post = (walk_of 𝓛 F.ended stayed (F.clauses 𝓛 at_mem run)).post bound

  -- the owner as a box, with this client
  abbrev boxed : X E → D E
  boxed w = record { ptr = h.at; alloc = h.alloc; value = w }

  -- the owner's words own this, where it is full or not
  abbrev own : Bool → X E → List Val → Fml
  own x w vs = Owner.the_row.own_val (record { at = h.at; alloc = h.alloc; full = x; client = w }) vs

  module _ (b o : ℕ) (hv : Val) where
    -- all of the owner but its client
    abbrev Rest : Fml
    Rest = fsep (fsep (token E.al h.alloc (bare (τ E)) (block_ptr b o)) (handle E h.alloc hv)) (cell_at full_share Owner.the_row.mir (word E hv b o ∷ []) rb ro)

    back : h.at ≡ block_ptr b o → (w : X E) → ent 𝓤 (sep 𝓤 (sem 𝓛 ((mem Client.the_row).own_at w b o)) (sem 𝓛 Rest)) (sem 𝓛 ((mem Owner.the_row).own_at (with_client h w) rb ro))
    unfolding part_of
    back at_b w =
        qed 𝓛 (‵ (part_at (R E) full_share w b o) ∷ ‵ Rest ∷ []) ∵ move ! (1 ∷ []) $ fsplit ! $ fsplit ! $ move ! (3 ∷ []) $
        box_in E ! (boxed w) b o w at_b refl $ use1 𝓛 (‵ (own true w (word E hv b o ∷ []))) (id⊢ 𝓤 _) $
        rewrite ! 0 (λ (x : Bool). ‵ (own x w (word E hv b o ∷ []))) (sym full) refl $ move ! (1 ∷ 0 ∷ []) $ fjoin ! $
        fpack ! (List Val) (λ us. fsep (cell_at full_share Owner.the_row.mir us rb ro) (Owner.the_row.own_val (with_client h w) us)) (word E hv b o ∷ []) $ done !

    exits : (γ' : GName)
        → ent 𝓤 (sep 𝓤 (sem 𝓛 ((MutRef (named 0) κ Client.the_row).own_val (record { ref_ptr = (b, o); ghost_name = γ'; now = h.client }) (vptr b o ∷ []))) (sep 𝓤 (A.lft κ q) (sem 𝓛 (follows Owner.the_row Client.the_row γ γ' (with_client h))))) (Post (vptr b o))
    exits γ' =
        qed 𝓛 (‵ ((MutRef (named 0) κ Client.the_row).own_val (record { ref_ptr = (b, o); ghost_name = γ'; now = h.client }) (vptr b o ∷ [])) ∷ ‵ (flft κ q) ∷ ‵ (follows Owner.the_row Client.the_row γ γ' (with_client h)) ∷ []) ∵
        suffices ! _ (ends_at 𝓛 F.ended stayed (F.clauses 𝓛 at_mem run) bound (vptr b o) (record { ref_ptr = (b, o); ghost_name = γ'; now = h.client }) (tt, tt) (tt, tt)) $
        nothing ! $ nothing ! $ fjoin ! $ join ! $ nothing ! $ move ! (2 ∷ 0 ∷ []) $ join ! $ join ! $ frame ! $ says ! refl $ done !

  module _ (C : Calls 𝓤 H) (Λ : Loops 𝓤 H) where
    walk : ent 𝓤 (on_entry 𝓛 F.ended.signature (κ, tt) (q, tt) (record { ref_ptr = (rb, ro); ghost_name = γ; now = h }, tt) (vptr rb ro ∷ [], tt)) (WpFn 𝓤 H C Λ code.function (vptr rb ro ∷ []) Post)
    walk =
        qed 𝓛 ((‵ (flft κ q) ⊛ ‵ ftrue) ∷ ‵ (owns (MutRef (named 0) κ Owner.the_row ∷ []) (record { ref_ptr = (rb, ro); ghost_name = γ; now = h }, tt) (vptr rb ro ∷ [], tt)) ∷ []) ∵
        enter ! C Λ code.function (vptr rb ro ∷ []) _ $
        alloc_all ! (λ l. pass_all ! refl ((tt, tt), tt) $
        let En : Env 𝓤 H = env code.function.locals l in
        move ! (1 ∷ []) $ fsplit ! $ fsplit3 ! $ drop ! $ move ! (3 ∷ []) $ split ! $ move ! (2 ∷ 3 ∷ 0 ∷ []) $
        opens ! tt Owner.the_row {h = h} rb ro (λ vs. move ! (1 ∷ []) $ rewrite ! 0 (λ (x : Bool). ‵ (own x h.client vs)) full refl $ use1 𝓛 (‵ ((B E).own_val (boxed h.client) vs)) (id⊢ 𝓤 _) $
        box_out E ! (boxed h.client) vs (λ b o hv at_b ws fa. move ! (1 ∷ 2 ∷ []) $ fjoin ! $ move ! (1 ∷ []) $
        rewrite ! 2 (λ (us : List Val). ‵ (cell_at full_share Owner.the_row.mir us rb ro)) ws refl $
        first ! $ blocks ! $
        sets ! (of_opd ! (load ! (through ! refl (fld ! refl (stop !))) (look_in ! 2 (sub ! 0 refl (whole !))))) refl (tt, tt) $
        sets_last ! (addr ! (through ! refl (stop !))) refl (tt, tt) $
        exec ! C Λ En code.Mir.t-2 (at_ret En Post) $
        sets ! (of_opd ! (get ! refl)) refl (tt, tt) $
        move ! (1 ∷ 2 ∷ []) $ fjoin ! $ move ! (2 ∷ 3 ∷ 4 ∷ 1 ∷ 0 ∷ []) $ group ! 5 $
        use1 𝓛 (later (some (λ (γ' : GName). raw (Part 𝓛 Owner.the_row Client.the_row (with_client h) (named 0) κ q rb ro b o γ (sem 𝓛 (Rest b o hv)) (back b o hv at_b) h.client γ'))))
        (lends_Part 𝓛 Owner.the_row Client.the_row (with_client h) (named 0) κ q rb ro b o γ (sem 𝓛 (Rest b o hv)) (back b o hv at_b) (Owner.the_row.coded.code h) (Owner.the_row.coded.code h) h.client) $ await ! tt $ pick ! (λ γ'.
        returns ! (look_at ! 0 refl) $ free_all ! refl $
        keep ! (0 ∷ []) $ by ! (exits b o hv γ')))))

pub as_mut_spec : {M : Type 1} → statement M
as_mut_spec 𝓤 𝓛 𝓜 𝓡 wired =
    let 𝓣 = tables 𝓤 𝓛.H 𝓜 𝓡 𝓡.env in let c = F.clauses 𝓛 𝓜.mem 𝓡.returns in
    proved 𝓛 F.ended stayed c 𝓜 𝓡 (Goes-spent_ref 𝓛 1 (0 ∷ []) tt (plain (λ _. Owner.the_row)), tt) #self code.function (code.unfolded 𝓤 𝓛.H 𝓜 𝓡 wired)
    (λ κs. (mut_vals, tt)) (λ κs. (mut_Tells (named 0) κs.0 Owner.the_row, tt)) (λ κs qs bounds a g are.
    qed 𝓛 (raw (on_entry 𝓛 F.ended.signature κs qs a (mut_vals a.0, tt)) ∷ raw (fact 𝓤 (a.0.now.full ≡ true)) ∷ []) ∵ move ! (1 ∷ []) $ heard ! _ (λ full.
    by ! (walk 𝓛 𝓜.mem 𝓡.returns κs.0 qs.0 a.0.ref_ptr.0 a.0.ref_ptr.1 a.0.ghost_name a.0.now full 𝓣.C 𝓣.Λ)))
