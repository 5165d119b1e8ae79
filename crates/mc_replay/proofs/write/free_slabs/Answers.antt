use Rattle.std.proofs.Common.{◌≡◌, ◌++◌, ℕ, Bool, List, OnOk, string_bytes, if◌then◌else◌, ap, ap₂, sym, ◌∙◌, subst, eq-eqb, ne_eqb, codes}
use Rattle.mc_core.specs.model.State.{State}
use Rattle.mc_replay.specs.Written.{slab_state_text}
use Rattle.mc_replay.proofs.write.free_slabs.Goals as goal

-- what stands behind the lock, where that is known to be free or not
abbrev text_where : State → Bool → List ℕ
text_where state free = if free then slab_state_text state.table state.slabs else codes "slabs none\n"

pub returns-in-Some : goal.returns-in-Some
returns-in-Some c =
    let state = c.args.state.now in
    let free = c.in-Some.ensures.free in
    let told = ap₂ slab_state_text c.table.ensures free.0 ∙ sym (ap (text_where state) (eq-eqb state.slabs_lock 0 free.1)) in
    subst (λ (text : List ℕ). OnOk c.slabs-in-Some.result (string_bytes c.slabs-in-Some.new.text ≡ string_bytes c.args.text.now ++ text)) told c.slabs-in-Some.ensures

pub returns-in_ok-push_str-in-None : goal.returns-in_ok-push_str-in-None
returns-in_ok-push_str-in-None c =
    let state = c.args.state.now in
    c.in_ok-push_str-in-None.ensures.bytes
    ∙ ap (λ (text : List ℕ). string_bytes c.args.text.now ++ text) (sym (ap (text_where state) (ne_eqb state.slabs_lock 0 c.in-None.ensures.free)))
