use Rattle.std.proofs.Common.{◌≡◌, ◌∙◌, ℕ, ◌<◌, ◌≤◌, true, ◌++◌, ap, sym, subst, inl, inr, arith, ltb-true, nat_lt, Some}
use Rattle.std.specs.Prelude.{Contains}
use Rattle.std.proofs.lemmas.Bool.{and_parts, cases_eq}
use Rattle.mc_classes.specs.Classes.{arena_pages_of}
use Rattle.mc_pages.specs.declared.ids.ChunkId.{ChunkId}
use Rattle.mc_pages.specs.SlabState.{SlabState, class_at, class_of_owner, class_of_page}
use Rattle.mc_core.specs.run.Silent.{is_among}
use Rattle.mc_core.specs.model.State.{is_class, most_of}
use Rattle.mc_words.specs.hand.Arenas.{setup_of}
use Rattle.mc_words.specs.chunk.Dead.{AreHandedOut, IsAliveOrNoted}
use Rattle.mc_words.specs.hand.View.{Setup, View}
use Rattle.mc_words.specs.rule.Happens.{LawfulView}
use Rattle.mc_words.proofs.Pages.Judged.{of_page}
use Rattle.mc_words.proofs.Pages.LookedOver.{all_pass, among_before, among_behind, sees_both}
use Rattle.mc_words.proofs.Chunks.SweepViews.{StandsOut, chunks_at_most, own_page, stands_out}
use Rattle.mc_words.proofs.arena.Arena.look_over.Goals as goal

pub look_along-requires-clause-most : goal.look_along-requires-clause-most
look_along-requires-clause-most c =
    let inv = c.loop-page.invariant in
    let slabs = c.args.held.now.shared in
    let view = c.loop-page.hand.seat.me.0 in
    let is = ap (λ (s : Setup). is_class s.table c.args.class) inv.arena.setup ∙ c.requires.class in
    let own = own_page c.args.class c.loop-page.page c.class.result slabs c.slabs-in-loop-page.result.now.state c.slabs-in-loop-page.ensures.slabs c.if-class.false (c.class.ensures ∙ ap class_of_owner c.owner.ensures.owner) in
    let most = chunks_at_most view inv.arena.lawful slabs inv.held c.args.class is c.loop-page.page own in
    let chunks = c.per_page-per_page.ensures.chunks ∙ ap (λ (s : SlabState). (class_at s c.args.class).per_page) c.slabs.ensures.slabs in
    subst (λ (n : ℕ). n ≤ most_of (setup_of c.args.self.now).table) (sym chunks) (subst (λ (s : Setup). (class_at slabs c.args.class).per_page ≤ most_of s.table) inv.arena.setup most)

pub look_along-requires-clause-out : goal.look_along-requires-clause-out
look_along-requires-clause-out c =
    let inv = c.loop-page.invariant in
    let slabs = c.args.held.now.shared in
    let own = own_page c.args.class c.loop-page.page c.class.result slabs c.slabs-in-loop-page.result.now.state c.slabs-in-loop-page.ensures.slabs c.if-class.false (c.class.ensures ∙ ap class_of_owner c.owner.ensures.owner) in
    subst (λ (n : ℕ). AreHandedOut (setup_of c.args.self.now).table slabs n c.loop-page.dead) (sym own) inv.out

pub loop-page-preserved : goal.loop-page-preserved
loop-page-preserved c =
    let inv = c.loop-page.invariant in
    let slabs = c.args.held.now.shared in
    let page = c.loop-page.page in
    let now = c.loop-page.hand.seat.me.0 in
    let next = c.look_along.new.hand.seat.me.0 in
    let along = c.look_along.ensures in
    let (more, sees, among) = along.sees in
    let per_page = c.per_page-per_page.result in
    let chunks : per_page ≡ (class_at slabs c.args.class).per_page = c.per_page-per_page.ensures.chunks ∙ ap (λ (s : SlabState). (class_at s c.args.class).per_page) c.slabs.ensures.slabs in
    let own = own_page c.args.class page c.class.result slabs c.slabs-in-loop-page.result.now.state c.slabs-in-loop-page.ensures.slabs c.if-class.false (c.class.ensures ∙ ap class_of_owner c.owner.ensures.owner) in record {
      arena = along.arena;
      locks = along.locks ∙ inv.locks;
      held = along.held;
      out = subst (λ (n : ℕ). AreHandedOut (setup_of c.args.self.now).table slabs n c.look_along.new.dead) own along.out;
      looked = inv.looked ++ more;
      sees = sees_both inv.looked more c.args.hand.now.seat.me.0 now next inv.sees sees;
      judged = λ chunk of below within. elim (cases_eq chunk.page page) [
        | inl same ↦
            let within' : chunk.index < per_page = subst (λ (n : ℕ). chunk.index < n) (sym chunks) within in (
              among_behind inv.looked more chunk (of_page (λ c. is_among more c ≡ true) page chunk same (among chunk.index (omega arith) within')),
              subst (λ (n : ℕ). IsAliveOrNoted next.row.looks c.look_along.new.dead (record { page = n; index = chunk.index })) (sym same) (along.judged chunk.index within'),
            )
        | inr apart ↦
            let before = inv.judged chunk of (omega (arith, below, apart)) within in (
              among_before inv.looked more chunk before.0,
              along.kept chunk before.1,
            )
      ];
    }

-- the page is another class's, or nobody's
pub loop-page-preserved-then-class : goal.loop-page-preserved-then-class
loop-page-preserved-then-class c =
    let inv = c.loop-page.invariant in
    let slabs = c.args.held.now.shared in
    let page = c.loop-page.page in record {
      arena = inv.arena;
      locks = inv.locks;
      held = inv.held;
      out = inv.out;
      looked = inv.looked;
      sees = inv.sees;
      judged = λ chunk of below within. elim (cases_eq chunk.page page) [
        | inl same ↦ absurd (c.if-class.true
            (c.class.ensures ∙ (ap class_of_owner c.owner.ensures.owner ∙ (ap (λ (s : SlabState). class_of_page s page) c.slabs-in-loop-page.ensures.slabs ∙ (ap (class_of_page slabs) (sym same) ∙ of)))))
        | inr apart ↦ inv.judged chunk of (omega (arith, below, apart)) within
      ];
    }

-- each chunk that the class handed out is on one of its pages
module _ (view : View) (was : LawfulView view) (slabs : SlabState) (mine : view.slabs ≡ Some slabs) (class : ℕ) (is : is_class view.setup.table class ≡ true) (chunk : ChunkId) (there : Contains (class_at slabs class).order chunk) where
  out : StandsOut view slabs class chunk
  out = stands_out view was slabs mine class is chunk there

  on_page : chunk.page < arena_pages_of view.setup.table
  on_page = ltb-true chunk.page (arena_pages_of view.setup.table) (and_parts (nat_lt chunk.page (arena_pages_of view.setup.table)) (nat_lt chunk.index (most_of view.setup.table)) out.in_range).0

  before : (end page : ℕ) → end ≡ arena_pages_of view.setup.table → end ≤ page → chunk.page < page
  before end page pages past = let on = on_page in omega (arith, on, pages, past)

pub returns-clause-sees : goal.returns-clause-sees
returns-clause-sees c =
    let inv = c.loop-page.invariant in
    let slabs = c.args.held.now.shared in
    let view = c.loop-page.hand.seat.me.0 in
    let is = ap (λ (s : Setup). is_class s.table c.args.class) inv.arena.setup ∙ c.requires.class in
    let pages = c.arena_pages-page-end.ensures.pages ∙ (ap arena_pages_of c.classes.ensures.classes ∙ ap (λ (s : Setup). arena_pages_of s.table) (sym inv.arena.setup)) in (
      inv.looked,
      inv.sees,
      all_pass (is_among inv.looked) (class_at slabs c.args.class).order (λ chunk there.
          let at = out view inv.arena.lawful slabs inv.held c.args.class is chunk there in
          (inv.judged chunk at.own (before view inv.arena.lawful slabs inv.held c.args.class is chunk there c.arena_pages-page-end.result c.loop-page.page pages c.loop-page-test.false) at.within).0),
    )

pub returns-clause-judged : goal.returns-clause-judged
returns-clause-judged c chunk there =
    let inv = c.loop-page.invariant in
    let slabs = c.args.held.now.shared in
    let view = c.loop-page.hand.seat.me.0 in
    let is = ap (λ (s : Setup). is_class s.table c.args.class) inv.arena.setup ∙ c.requires.class in
    let at = out view inv.arena.lawful slabs inv.held c.args.class is chunk there in
    let pages = c.arena_pages-page-end.ensures.pages ∙ (ap arena_pages_of c.classes.ensures.classes ∙ ap (λ (s : Setup). arena_pages_of s.table) (sym inv.arena.setup)) in
    (inv.judged chunk at.own (before view inv.arena.lawful slabs inv.held c.args.class is chunk there c.arena_pages-page-end.result c.loop-page.page pages c.loop-page-test.false) at.within).1
