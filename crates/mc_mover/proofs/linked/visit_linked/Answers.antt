use Rattle.std.proofs.Common.{◌≡◌, ◌%◌, ℕ, Bool, true, false, map, Some, refl, sym, ap, subst, ◌∙◌, inl, inr, arith}
use Rattle.std.specs.Option.{option_map}
use Rattle.mc_classes.specs.declared.config.Config.{Config}
use Rattle.mc_pages.specs.declared.ids.ChunkId.{ChunkId}
use Rattle.mc_pages.specs.declared.moves.Found.{Found}
use Rattle.mc_pages.specs.declared.moves.Found.TheVariants.{Busy}
use Rattle.mc_pages.specs.Moves.{is_held_up}
use Rattle.mc_pages.specs.ClassState.{ClassState}
use Rattle.mc_pages.specs.SlabState.{SlabState, class_at, class_of_page}
use Rattle.mc_pages.proofs.ClassChanges.{per_pages-with_class}
use Rattle.mc_pages.proofs.Cuts.{per_page-map}
use Rattle.mc_core.specs.model.Looks.{was_linked}
use Rattle.mc_core.specs.model.State.{room_in}
use Rattle.mc_words.specs.hand.View.{Setup, View}
use Rattle.mc_words.specs.hand.Idle.{has_no_stripes}
use Rattle.mc_words.specs.lock.Out.{without_stripe}
use Rattle.mc_words.specs.hand.Views.{stripe_given, stripe_missed}
use Rattle.mc_mover.specs.Linked.{GivesThere, OnlyGives, ReadsKey, SavesAs, VisitsLinked}
use Rattle.mc_mover.proofs.ClearedPages.{cleared_after_clear}
use Rattle.mc_mover.proofs.Copied.{linked_read, three_places}
use Rattle.mc_words.proofs.Hands.HandNumbers.{number_stays}
use Rattle.mc_mover.proofs.Refusals.{as_error, no_value}
use Rattle.mc_mover.proofs.Visits.{dead_unused, held_found, held_up, of_ok, reached, saved_found, stripe_back, stripe_found, visited_saved}
use Rattle.mc_mover.proofs.linked.visit_linked.Goals.{then-not-unheld-via-then-not-unheld, then-not-unheld-via-else-not-unheld+then-not-leads_to}
use Rattle.mc_mover.proofs.linked.visit_linked.Goals as goal

pub word_held-key-requires-clause-inside : goal.word_held-key-requires-clause-inside
word_held-key-requires-clause-inside c =
    let view : View = c.args.hand.now.seat.me.0 in
    let slabs = c.args.held.now.shared in
    let setup = c.args.arena.now.table.shared.key in
    let places = three_places view setup c.requires.arena.lawful c.requires.arena.setup slabs c.requires.held c.args.chunk c.requires.in_range c.requires.linked (room_in setup.table (class_of_page slabs c.args.chunk.page)) refl in
    let three = places.0 in omega arith

pub returns-in_default-clause-visits : goal.returns-in_default-clause-visits
returns-in_default-clause-visits c =
    let view : View = c.args.hand.now.seat.me.0 in
    let key = c.word_held-key.result in
    let read : View = c.word_held-key.new.hand.seat.me.0 in
    let at : key % c.config.result.now.stripes ≡ key % view.setup.config.stripes = ap (λ (g : Config). key % g.stripes) (c.config.ensures.config ∙ ap (λ (s : Setup). s.config) (sym c.requires.arena.setup)) in
    let (word, busy, missed) = c.in_default.ensures.held in
    (record { key = key; read = read; reads = (c.word_held-key.ensures.happens, c.word_held-key.ensures.view); word = word; busy = busy; is = missed ∙ ap (λ n. stripe_missed n word read) at }, refl, refl)

pub returns-then-not-unheld-clause-locks : goal.returns-then-not-unheld-clause-locks
returns-then-not-unheld-clause-locks c =
    let back = ap without_stripe c.in-Ok.ensures.locks ∙ (stripe_back c.word_held-key.new.hand (c.word_held-key.result % c.config.result.now.stripes) (ap (λ (v : View). has_no_stripes v) c.word_held-key.ensures.view ∙ c.requires.one) ∙ c.word_held-key.ensures.locks) in
    c.give_stripe.ensures.locks ∙ back

pub returns-then-not-unheld-clause-visits : goal.returns-then-not-unheld-clause-visits
returns-then-not-unheld-clause-visits c =
    let view : View = c.args.hand.now.seat.me.0 in
    let key = c.word_held-key.result in
    let read : View = c.word_held-key.new.hand.seat.me.0 in
    let at : key % c.config.result.now.stripes ≡ key % view.setup.config.stripes = ap (λ (g : Config). key % g.stripes) (c.config.ensures.config ∙ ap (λ (s : Setup). s.config) (sym c.requires.arena.setup)) in
    let taken : View = c.try_stripe.new.hand.seat.me.0 in
    let slabs = c.args.held.now.shared in
    let value = c.in-Ok.stripe.stripe in
    let stripe = key % c.config.result.now.stripes in
    let reads : ReadsKey c.args.chunk key view read = (c.word_held-key.ensures.happens, c.word_held-key.ensures.view) in
    let given = c.give_stripe.ensures.left ∙ ap (λ n. stripe_given n value taken) c.in-Ok.ensures.number in
    let now : View = c.give_stripe.new.hand.seat.me.0 in
    held_up c.args.chunk view read taken slabs key stripe value reads at c.in-Ok.ensures.taken c.in-Ok.ensures.lent c.in-Ok.ensures.whole c.in-Ok.ensures.seen c.args.hand.now.number c.args.class c.args.sweep.now c.args.unheld now given (elim c.then-not-unheld.branch [
      | then-not-unheld-via-then-not-unheld w ↦ inl w.if-not-unheld.true
      | then-not-unheld-via-else-not-unheld+then-not-leads_to w ↦ inr (w.if-not-unheld.false, w.if-not-leads_to.ensures.other refl)
    ])

pub save-requires-clause-linked : goal.save-requires-clause-linked
save-requires-clause-linked c =
    let linked = λ (v : View). was_linked v.row.looks c.args.chunk in
    ap linked c.in-Ok.ensures.lent ∙ (ap linked c.word_held-key.ensures.view ∙ (linked_read c.args.chunk c.args.chunk 0 c.word_held-key.result c.args.hand.now.seat.me.0 ∙ c.requires.linked))

pub save-requires-clause-key : goal.save-requires-clause-key
save-requires-clause-key c =
    let view : View = c.args.hand.now.seat.me.0 in
    let key = c.word_held-key.result in
    let read : View = c.word_held-key.new.hand.seat.me.0 in
    let at : key % c.config.result.now.stripes ≡ key % view.setup.config.stripes = ap (λ (g : Config). key % g.stripes) (c.config.ensures.config ∙ ap (λ (s : Setup). s.config) (sym c.requires.arena.setup)) in
    let taken : View = c.try_stripe.new.hand.seat.me.0 in
    let slabs = c.args.held.now.shared in
    let value = c.in-Ok.stripe.stripe in
    let stripe = key % c.config.result.now.stripes in
    let reads : ReadsKey c.args.chunk key view read = (c.word_held-key.ensures.happens, c.word_held-key.ensures.view) in
    stripe_found c.args.chunk view read taken slabs key stripe value reads at c.in-Ok.ensures.taken c.in-Ok.ensures.lent c.in-Ok.ensures.whole c.in-Ok.ensures.seen ∙ ap (λ n. Some n) (sym c.in-Ok.ensures.number)

pub save-requires-clause-leads : goal.save-requires-clause-leads
save-requires-clause-leads c =
    let (stamp, leads) = c.if-not-leads_to.ensures.leads refl in
    (c.word_held-key.result, stamp, leads)

pub returns-in_err-found-clause-locks : goal.returns-in_err-found-clause-locks
returns-in_err-found-clause-locks c =
    let back = ap without_stripe c.in-Ok.ensures.locks ∙ (stripe_back c.word_held-key.new.hand (c.word_held-key.result % c.config.result.now.stripes) (ap (λ (v : View). has_no_stripes v) c.word_held-key.ensures.view ∙ c.requires.one) ∙ c.word_held-key.ensures.locks) in
    c.save.ensures.locks ∙ back

pub returns-in_err-found-clause-visits : goal.returns-in_err-found-clause-visits
returns-in_err-found-clause-visits c = no_value _ c.from_residual.result c.from_residual.ensures.0

pub returns-in_err-found-clause-clears : goal.returns-in_err-found-clause-clears
returns-in_err-found-clause-clears c = no_value _ c.from_residual.result c.from_residual.ensures.0

pub returns-in_err-found-clause-lacks : goal.returns-in_err-found-clause-lacks
returns-in_err-found-clause-lacks c =
    let view : View = c.args.hand.now.seat.me.0 in
    let key = c.word_held-key.result in
    let read : View = c.word_held-key.new.hand.seat.me.0 in
    let at : key % c.config.result.now.stripes ≡ key % view.setup.config.stripes = ap (λ (g : Config). key % g.stripes) (c.config.ensures.config ∙ ap (λ (s : Setup). s.config) (sym c.requires.arena.setup)) in
    let taken : View = c.try_stripe.new.hand.seat.me.0 in
    let slabs = c.args.held.now.shared in
    let value = c.in-Ok.stripe.stripe in
    let stripe = key % c.config.result.now.stripes in
    let reads : ReadsKey c.args.chunk key view read = (c.word_held-key.ensures.happens, c.word_held-key.ensures.view) in
    let now : View = c.save.new.hand.seat.me.0 in
    let left = c.save.new.slabs.shared in
    let leads = c.if-not-leads_to.ensures.leads refl in
    as_error c.from_residual.result
    (c.if-not-unheld.false, reached c.args.chunk view read taken slabs key stripe value reads at c.in-Ok.ensures.taken c.in-Ok.ensures.lent c.in-Ok.ensures.whole c.in-Ok.ensures.seen (GivesThere c.args.chunk) now left (ap (option_map (λ (place : ChunkId × ℕ). place.0)) leads.1, c.in_err-found.ensures.unready, subst (λ n. OnlyGives n value taken slabs now left) c.in-Ok.ensures.number c.in_err-found.ensures.lacks))

pub returns-clause-locks : goal.returns-clause-locks
returns-clause-locks c =
    let back = ap without_stripe c.in-Ok.ensures.locks ∙ (stripe_back c.word_held-key.new.hand (c.word_held-key.result % c.config.result.now.stripes) (ap (λ (v : View). has_no_stripes v) c.word_held-key.ensures.view ∙ c.requires.one) ∙ c.word_held-key.ensures.locks) in
    c.clear.ensures.locks ∙ (c.save.ensures.locks ∙ back)

pub returns-clause-visits : goal.returns-clause-visits
returns-clause-visits c =
    let view : View = c.args.hand.now.seat.me.0 in
    let key = c.word_held-key.result in
    let read : View = c.word_held-key.new.hand.seat.me.0 in
    let at : key % c.config.result.now.stripes ≡ key % view.setup.config.stripes = ap (λ (g : Config). key % g.stripes) (c.config.ensures.config ∙ ap (λ (s : Setup). s.config) (sym c.requires.arena.setup)) in
    let taken : View = c.try_stripe.new.hand.seat.me.0 in
    let slabs = c.args.held.now.shared in
    let value = c.in-Ok.stripe.stripe in
    let stripe = key % c.config.result.now.stripes in
    let reads : ReadsKey c.args.chunk key view read = (c.word_held-key.ensures.happens, c.word_held-key.ensures.view) in
    let found = c.in_ok-found.found in
    let saved : View = c.save.new.hand.seat.me.0 in
    let kept = c.save.new.slabs.shared in
    let number = number_stays c.args.hand.now c.try_stripe.new.hand (ap (λ (v : View). v.row.ids) c.in-Ok.ensures.lent ∙ ap (λ (v : View). v.row.ids) c.word_held-key.ensures.view) in
    let saves : SavesAs c.args.hand.now.number c.args.class c.args.chunk c.args.sweep.now found stripe value taken slabs saved kept =
    subst (λ (p : ℕ × ℕ). SavesAs p.0 c.args.class c.args.chunk c.args.sweep.now found p.1 value taken slabs saved kept) (λ k. (number k, c.in-Ok.ensures.number k)) c.in_ok-found.ensures.saves in
    let free = saved_found c.args.hand.now.number c.args.class c.args.chunk c.args.sweep.now found stripe value taken slabs saved kept saves (sym c.eq.ensures ∙ c.if-eq.false) in
    let dead = c.in_ok-found.ensures.dead free in
    let clears = of_ok c.clear.result (c.clear.ensures.succeeds (dead_unused _ dead)) c.clear.ensures.cleared in
    let held : c.args.unheld ≡ true = c.if-not-unheld.false in
    subst (λ (b : Bool). VisitsLinked c.args.hand.now.number c.args.class c.args.chunk c.args.sweep.now b found c.save.new.sweep view slabs c.clear.new.hand.seat.me.0 c.clear.new.held.shared) (sym held)
    (visited_saved c.args.hand.now.number c.args.class c.args.chunk c.args.sweep.now found c.save.new.sweep view slabs c.clear.new.hand.seat.me.0 c.clear.new.held.shared free c.in_ok-found.ensures.done
    (record { saved = saved; kept = kept; reaches = reached c.args.chunk view read taken slabs key stripe value reads at c.in-Ok.ensures.taken c.in-Ok.ensures.lent c.in-Ok.ensures.whole c.in-Ok.ensures.seen (λ key. SavesAs c.args.hand.now.number c.args.class c.args.chunk c.args.sweep.now found) saved kept saves; clears = clears.0; left_is = clears.1 }))

pub returns-clause-clears : goal.returns-clause-clears
returns-clause-clears c =
    let view : View = c.args.hand.now.seat.me.0 in
    let key = c.word_held-key.result in
    let read : View = c.word_held-key.new.hand.seat.me.0 in
    let at : key % c.config.result.now.stripes ≡ key % view.setup.config.stripes = ap (λ (g : Config). key % g.stripes) (c.config.ensures.config ∙ ap (λ (s : Setup). s.config) (sym c.requires.arena.setup)) in
    let taken : View = c.try_stripe.new.hand.seat.me.0 in
    let slabs = c.args.held.now.shared in
    let value = c.in-Ok.stripe.stripe in
    let stripe = key % c.config.result.now.stripes in
    let reads : ReadsKey c.args.chunk key view read = (c.word_held-key.ensures.happens, c.word_held-key.ensures.view) in
    let found = c.in_ok-found.found in
    let saved : View = c.save.new.hand.seat.me.0 in
    let kept = c.save.new.slabs.shared in
    let number = number_stays c.args.hand.now c.try_stripe.new.hand (ap (λ (v : View). v.row.ids) c.in-Ok.ensures.lent ∙ ap (λ (v : View). v.row.ids) c.word_held-key.ensures.view) in
    let saves : SavesAs c.args.hand.now.number c.args.class c.args.chunk c.args.sweep.now found stripe value taken slabs saved kept =
    subst (λ (p : ℕ × ℕ). SavesAs p.0 c.args.class c.args.chunk c.args.sweep.now found p.1 value taken slabs saved kept) (λ k. (number k, c.in-Ok.ensures.number k)) c.in_ok-found.ensures.saves in
    let free = saved_found c.args.hand.now.number c.args.class c.args.chunk c.args.sweep.now found stripe value taken slabs saved kept saves (sym c.eq.ensures ∙ c.if-eq.false) in
    let dead = c.in_ok-found.ensures.dead free in
    let clears = of_ok c.clear.result (c.clear.ensures.succeeds (dead_unused _ dead)) c.clear.ensures.cleared in
    let owned : class_of_page kept c.args.chunk.page ≡ c.args.class = ap (λ owners. Rattle.mc_pages.specs.SlabState.class_of_owner (Rattle.mc_pages.specs.Ledger.owner_at owners c.args.chunk.page)) c.in_ok-found.ensures.owners ∙ c.requires.own in
    λ _. cleared_after_clear saved c.clear.new.hand.seat.me.0 kept c.clear.new.held.shared c.args.class c.args.chunk c.save.ensures.slabs c.clear.ensures.held c.clear.ensures.arena.lawful clears.0 clears.1 owned

pub returns-clause-moving : goal.returns-clause-moving
returns-clause-moving c =
    let view : View = c.args.hand.now.seat.me.0 in
    let key = c.word_held-key.result in
    let read : View = c.word_held-key.new.hand.seat.me.0 in
    let at : key % c.config.result.now.stripes ≡ key % view.setup.config.stripes = ap (λ (g : Config). key % g.stripes) (c.config.ensures.config ∙ ap (λ (s : Setup). s.config) (sym c.requires.arena.setup)) in
    let taken : View = c.try_stripe.new.hand.seat.me.0 in
    let slabs = c.args.held.now.shared in
    let value = c.in-Ok.stripe.stripe in
    let stripe = key % c.config.result.now.stripes in
    let reads : ReadsKey c.args.chunk key view read = (c.word_held-key.ensures.happens, c.word_held-key.ensures.view) in
    let found = c.in_ok-found.found in
    let saved : View = c.save.new.hand.seat.me.0 in
    let kept = c.save.new.slabs.shared in
    let number = number_stays c.args.hand.now c.try_stripe.new.hand (ap (λ (v : View). v.row.ids) c.in-Ok.ensures.lent ∙ ap (λ (v : View). v.row.ids) c.word_held-key.ensures.view) in
    let saves : SavesAs c.args.hand.now.number c.args.class c.args.chunk c.args.sweep.now found stripe value taken slabs saved kept =
    subst (λ (p : ℕ × ℕ). SavesAs p.0 c.args.class c.args.chunk c.args.sweep.now found p.1 value taken slabs saved kept) (λ k. (number k, c.in-Ok.ensures.number k)) c.in_ok-found.ensures.saves in
    let free = saved_found c.args.hand.now.number c.args.class c.args.chunk c.args.sweep.now found stripe value taken slabs saved kept saves (sym c.eq.ensures ∙ c.if-eq.false) in
    let dead = c.in_ok-found.ensures.dead free in
    let clears = of_ok c.clear.result (c.clear.ensures.succeeds (dead_unused _ dead)) c.clear.ensures.cleared in
    ap (λ (x : SlabState). x.moving) clears.1 ∙ c.in_ok-found.ensures.moving

pub returns-clause-uncut : goal.returns-clause-uncut
returns-clause-uncut c =
    let view : View = c.args.hand.now.seat.me.0 in
    let key = c.word_held-key.result in
    let read : View = c.word_held-key.new.hand.seat.me.0 in
    let at : key % c.config.result.now.stripes ≡ key % view.setup.config.stripes = ap (λ (g : Config). key % g.stripes) (c.config.ensures.config ∙ ap (λ (s : Setup). s.config) (sym c.requires.arena.setup)) in
    let taken : View = c.try_stripe.new.hand.seat.me.0 in
    let slabs = c.args.held.now.shared in
    let value = c.in-Ok.stripe.stripe in
    let stripe = key % c.config.result.now.stripes in
    let reads : ReadsKey c.args.chunk key view read = (c.word_held-key.ensures.happens, c.word_held-key.ensures.view) in
    let found = c.in_ok-found.found in
    let saved : View = c.save.new.hand.seat.me.0 in
    let kept = c.save.new.slabs.shared in
    let number = number_stays c.args.hand.now c.try_stripe.new.hand (ap (λ (v : View). v.row.ids) c.in-Ok.ensures.lent ∙ ap (λ (v : View). v.row.ids) c.word_held-key.ensures.view) in
    let saves : SavesAs c.args.hand.now.number c.args.class c.args.chunk c.args.sweep.now found stripe value taken slabs saved kept =
    subst (λ (p : ℕ × ℕ). SavesAs p.0 c.args.class c.args.chunk c.args.sweep.now found p.1 value taken slabs saved kept) (λ k. (number k, c.in-Ok.ensures.number k)) c.in_ok-found.ensures.saves in
    let free = saved_found c.args.hand.now.number c.args.class c.args.chunk c.args.sweep.now found stripe value taken slabs saved kept saves (sym c.eq.ensures ∙ c.if-eq.false) in
    let dead = c.in_ok-found.ensures.dead free in
    let clears = of_ok c.clear.result (c.clear.ensures.succeeds (dead_unused _ dead)) c.clear.ensures.cleared in
    ap (λ (x : SlabState). x.uncut) clears.1 ∙ c.in_ok-found.ensures.uncut

pub returns-clause-per_page : goal.returns-clause-per_page
returns-clause-per_page c =
    let view : View = c.args.hand.now.seat.me.0 in
    let key = c.word_held-key.result in
    let read : View = c.word_held-key.new.hand.seat.me.0 in
    let at : key % c.config.result.now.stripes ≡ key % view.setup.config.stripes = ap (λ (g : Config). key % g.stripes) (c.config.ensures.config ∙ ap (λ (s : Setup). s.config) (sym c.requires.arena.setup)) in
    let taken : View = c.try_stripe.new.hand.seat.me.0 in
    let slabs = c.args.held.now.shared in
    let value = c.in-Ok.stripe.stripe in
    let stripe = key % c.config.result.now.stripes in
    let reads : ReadsKey c.args.chunk key view read = (c.word_held-key.ensures.happens, c.word_held-key.ensures.view) in
    let found = c.in_ok-found.found in
    let saved : View = c.save.new.hand.seat.me.0 in
    let kept = c.save.new.slabs.shared in
    let number = number_stays c.args.hand.now c.try_stripe.new.hand (ap (λ (v : View). v.row.ids) c.in-Ok.ensures.lent ∙ ap (λ (v : View). v.row.ids) c.word_held-key.ensures.view) in
    let saves : SavesAs c.args.hand.now.number c.args.class c.args.chunk c.args.sweep.now found stripe value taken slabs saved kept =
    subst (λ (p : ℕ × ℕ). SavesAs p.0 c.args.class c.args.chunk c.args.sweep.now found p.1 value taken slabs saved kept) (λ k. (number k, c.in-Ok.ensures.number k)) c.in_ok-found.ensures.saves in
    let free = saved_found c.args.hand.now.number c.args.class c.args.chunk c.args.sweep.now found stripe value taken slabs saved kept saves (sym c.eq.ensures ∙ c.if-eq.false) in
    let dead = c.in_ok-found.ensures.dead free in
    let clears = of_ok c.clear.result (c.clear.ensures.succeeds (dead_unused _ dead)) c.clear.ensures.cleared in
    per_page-map kept c.clear.new.held.shared c.args.class (ap (λ (s : SlabState). map (λ (x : ClassState). x.per_page) s.classes) clears.1 ∙ per_pages-with_class kept (class_of_page kept c.args.chunk.page) _ refl) ∙ c.in_ok-found.ensures.per_page

pub returns-clause-holdings : goal.returns-clause-holdings
returns-clause-holdings c =
    let view : View = c.args.hand.now.seat.me.0 in
    let key = c.word_held-key.result in
    let read : View = c.word_held-key.new.hand.seat.me.0 in
    let at : key % c.config.result.now.stripes ≡ key % view.setup.config.stripes = ap (λ (g : Config). key % g.stripes) (c.config.ensures.config ∙ ap (λ (s : Setup). s.config) (sym c.requires.arena.setup)) in
    let taken : View = c.try_stripe.new.hand.seat.me.0 in
    let slabs = c.args.held.now.shared in
    let value = c.in-Ok.stripe.stripe in
    let stripe = key % c.config.result.now.stripes in
    let reads : ReadsKey c.args.chunk key view read = (c.word_held-key.ensures.happens, c.word_held-key.ensures.view) in
    let found = c.in_ok-found.found in
    let saved : View = c.save.new.hand.seat.me.0 in
    let kept = c.save.new.slabs.shared in
    let number = number_stays c.args.hand.now c.try_stripe.new.hand (ap (λ (v : View). v.row.ids) c.in-Ok.ensures.lent ∙ ap (λ (v : View). v.row.ids) c.word_held-key.ensures.view) in
    let saves : SavesAs c.args.hand.now.number c.args.class c.args.chunk c.args.sweep.now found stripe value taken slabs saved kept =
    subst (λ (p : ℕ × ℕ). SavesAs p.0 c.args.class c.args.chunk c.args.sweep.now found p.1 value taken slabs saved kept) (λ k. (number k, c.in-Ok.ensures.number k)) c.in_ok-found.ensures.saves in
    let free = saved_found c.args.hand.now.number c.args.class c.args.chunk c.args.sweep.now found stripe value taken slabs saved kept saves (sym c.eq.ensures ∙ c.if-eq.false) in
    let dead = c.in_ok-found.ensures.dead free in
    let clears = of_ok c.clear.result (c.clear.ensures.succeeds (dead_unused _ dead)) c.clear.ensures.cleared in
    ap (λ (v : View). v.row.holdings) clears.0.is ∙ (c.save.ensures.holdings ∙ (ap (λ (v : View). v.row.holdings) c.in-Ok.ensures.lent ∙ ap (λ (v : View). v.row.holdings) c.word_held-key.ensures.view))

pub returns-clause-ids : goal.returns-clause-ids
returns-clause-ids c =
    let view : View = c.args.hand.now.seat.me.0 in
    let key = c.word_held-key.result in
    let read : View = c.word_held-key.new.hand.seat.me.0 in
    let at : key % c.config.result.now.stripes ≡ key % view.setup.config.stripes = ap (λ (g : Config). key % g.stripes) (c.config.ensures.config ∙ ap (λ (s : Setup). s.config) (sym c.requires.arena.setup)) in
    let taken : View = c.try_stripe.new.hand.seat.me.0 in
    let slabs = c.args.held.now.shared in
    let value = c.in-Ok.stripe.stripe in
    let stripe = key % c.config.result.now.stripes in
    let reads : ReadsKey c.args.chunk key view read = (c.word_held-key.ensures.happens, c.word_held-key.ensures.view) in
    let found = c.in_ok-found.found in
    let saved : View = c.save.new.hand.seat.me.0 in
    let kept = c.save.new.slabs.shared in
    let number = number_stays c.args.hand.now c.try_stripe.new.hand (ap (λ (v : View). v.row.ids) c.in-Ok.ensures.lent ∙ ap (λ (v : View). v.row.ids) c.word_held-key.ensures.view) in
    let saves : SavesAs c.args.hand.now.number c.args.class c.args.chunk c.args.sweep.now found stripe value taken slabs saved kept =
    subst (λ (p : ℕ × ℕ). SavesAs p.0 c.args.class c.args.chunk c.args.sweep.now found p.1 value taken slabs saved kept) (λ k. (number k, c.in-Ok.ensures.number k)) c.in_ok-found.ensures.saves in
    let free = saved_found c.args.hand.now.number c.args.class c.args.chunk c.args.sweep.now found stripe value taken slabs saved kept saves (sym c.eq.ensures ∙ c.if-eq.false) in
    let dead = c.in_ok-found.ensures.dead free in
    let clears = of_ok c.clear.result (c.clear.ensures.succeeds (dead_unused _ dead)) c.clear.ensures.cleared in
    ap (λ (v : View). v.row.ids) clears.0.is ∙ (c.save.ensures.ids ∙ (ap (λ (v : View). v.row.ids) c.in-Ok.ensures.lent ∙ ap (λ (v : View). v.row.ids) c.word_held-key.ensures.view))

pub returns-then-eq-clause-locks : goal.returns-then-eq-clause-locks
returns-then-eq-clause-locks c =
    let back = ap without_stripe c.in-Ok.ensures.locks ∙ (stripe_back c.word_held-key.new.hand (c.word_held-key.result % c.config.result.now.stripes) (ap (λ (v : View). has_no_stripes v) c.word_held-key.ensures.view ∙ c.requires.one) ∙ c.word_held-key.ensures.locks) in
    c.save.ensures.locks ∙ back

pub returns-then-eq-clause-visits : goal.returns-then-eq-clause-visits
returns-then-eq-clause-visits c =
    let view : View = c.args.hand.now.seat.me.0 in
    let key = c.word_held-key.result in
    let read : View = c.word_held-key.new.hand.seat.me.0 in
    let at : key % c.config.result.now.stripes ≡ key % view.setup.config.stripes = ap (λ (g : Config). key % g.stripes) (c.config.ensures.config ∙ ap (λ (s : Setup). s.config) (sym c.requires.arena.setup)) in
    let taken : View = c.try_stripe.new.hand.seat.me.0 in
    let slabs = c.args.held.now.shared in
    let value = c.in-Ok.stripe.stripe in
    let stripe = key % c.config.result.now.stripes in
    let reads : ReadsKey c.args.chunk key view read = (c.word_held-key.ensures.happens, c.word_held-key.ensures.view) in
    let found = c.in_ok-found.found in
    let saved : View = c.save.new.hand.seat.me.0 in
    let kept = c.save.new.slabs.shared in
    let number = number_stays c.args.hand.now c.try_stripe.new.hand (ap (λ (v : View). v.row.ids) c.in-Ok.ensures.lent ∙ ap (λ (v : View). v.row.ids) c.word_held-key.ensures.view) in
    let saves : SavesAs c.args.hand.now.number c.args.class c.args.chunk c.args.sweep.now found stripe value taken slabs saved kept =
    subst (λ (p : ℕ × ℕ). SavesAs p.0 c.args.class c.args.chunk c.args.sweep.now found p.1 value taken slabs saved kept) (λ k. (number k, c.in-Ok.ensures.number k)) c.in_ok-found.ensures.saves in
    let busy = held_found c.args.hand.now.number c.args.class c.args.chunk c.args.sweep.now found stripe value taken slabs saved kept saves (sym c.eq.ensures ∙ c.if-eq.true) in
    subst (λ (p : Bool × Found). VisitsLinked c.args.hand.now.number c.args.class c.args.chunk c.args.sweep.now p.0 p.1 c.save.new.sweep view slabs saved kept) (λ k. (sym c.if-not-unheld.false k, sym busy k))
    (inr (reached c.args.chunk view read taken slabs key stripe value reads at c.in-Ok.ensures.taken c.in-Ok.ensures.lent c.in-Ok.ensures.whole c.in-Ok.ensures.seen (λ key. SavesAs c.args.hand.now.number c.args.class c.args.chunk c.args.sweep.now Busy) saved kept (subst (λ (f : Found). SavesAs c.args.hand.now.number c.args.class c.args.chunk c.args.sweep.now f stripe value taken slabs saved kept) busy saves), c.in_ok-found.ensures.done))

pub returns-then-eq-clause-clears : goal.returns-then-eq-clause-clears
returns-then-eq-clause-clears c =
    let view : View = c.args.hand.now.seat.me.0 in
    let key = c.word_held-key.result in
    let read : View = c.word_held-key.new.hand.seat.me.0 in
    let at : key % c.config.result.now.stripes ≡ key % view.setup.config.stripes = ap (λ (g : Config). key % g.stripes) (c.config.ensures.config ∙ ap (λ (s : Setup). s.config) (sym c.requires.arena.setup)) in
    let taken : View = c.try_stripe.new.hand.seat.me.0 in
    let slabs = c.args.held.now.shared in
    let value = c.in-Ok.stripe.stripe in
    let stripe = key % c.config.result.now.stripes in
    let reads : ReadsKey c.args.chunk key view read = (c.word_held-key.ensures.happens, c.word_held-key.ensures.view) in
    let found = c.in_ok-found.found in
    let saved : View = c.save.new.hand.seat.me.0 in
    let kept = c.save.new.slabs.shared in
    let number = number_stays c.args.hand.now c.try_stripe.new.hand (ap (λ (v : View). v.row.ids) c.in-Ok.ensures.lent ∙ ap (λ (v : View). v.row.ids) c.word_held-key.ensures.view) in
    let saves : SavesAs c.args.hand.now.number c.args.class c.args.chunk c.args.sweep.now found stripe value taken slabs saved kept =
    subst (λ (p : ℕ × ℕ). SavesAs p.0 c.args.class c.args.chunk c.args.sweep.now found p.1 value taken slabs saved kept) (λ k. (number k, c.in-Ok.ensures.number k)) c.in_ok-found.ensures.saves in
    let busy = held_found c.args.hand.now.number c.args.class c.args.chunk c.args.sweep.now found stripe value taken slabs saved kept saves (sym c.eq.ensures ∙ c.if-eq.true) in
    λ free. absurd (let held : is_held_up found ≡ true = ap is_held_up busy in let never : true ≡ false = sym held ∙ free in cc)
