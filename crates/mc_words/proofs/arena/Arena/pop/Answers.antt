use Rattle.std.proofs.Common.{◌≡◌, ◌+◌, ◌≤◌, ◌<◌, ◌/◌, ℕ, true, [], ◌∷◌, Some, refl, ap, sym, subst, ◌∙◌, length, length-append, arith}
use Rattle.mc_classes.specs.Classes.{Classes}
use Rattle.mc_pages.specs.ClassState.{first_free}
use Rattle.mc_pages.specs.SlabState.{SlabState, HasClass, class_at}
use Rattle.mc_pages.specs.Changes.{after_pop}
use Rattle.mc_core.specs.model.Codes.{word_plus}
use Rattle.mc_core.specs.model.Head.{decode}
use Rattle.mc_core.specs.model.State.{has_chunk, is_class, room_in}
use Rattle.mc_core.specs.declared.event.Step.TheVariants as core
use Rattle.mc_core.specs.run.Chunks.{most_holdings}
use Rattle.mc_words.specs.hand.View.{View, Setup}
use Rattle.mc_words.specs.rule.Layout.{head_word}
use Rattle.mc_words.specs.item.Fresh.{IsFreshOf}
use Rattle.mc_words.specs.hand.Tallies.{fresh_count}
use Rattle.mc_words.specs.rule.Happens.{MayWrite}
use Rattle.mc_words.specs.hand.Views.{fresh_holding}
use Rattle.mc_words.proofs.Pages.Owners.{may_pop, first_near}
use Rattle.mc_words.proofs.Chunks.Judging.{after_slabs, after_last, after_holds, pop_after, pops, is_fresh_of, issue_left, issue_worn, class_of_slabs, class_of_table, room_of}
use Rattle.mc_words.proofs.Locks.Locked.{noted_same}
use Rattle.mc_words.proofs.Hands.Tallies.{fresh_more, fresh_most, tallied_fresh}
use Rattle.mc_words.proofs.arena.Arena.pop.Goals as goal

pub head-head-requires : goal.head-head-requires
head-head-requires c =
    let chunk = c.in-Some.chunk in
    let slabs = c.args.held.now.shared in
    let class = c.args.class in
    let view = c.args.hand.now.seat.me.0 in
    let was = c.requires.arena.lawful in
    let class_is = subst (λ (s : Setup). is_class s.table class ≡ true) (sym c.requires.arena.setup) c.requires.class in
    let first : first_free (class_at slabs class) ≡ Some chunk = ap (λ (x : SlabState). first_free (class_at x class)) (sym c.slabs.ensures.slabs) ∙ sym c.in-Some.ensures.chunk in
    record { arena = c.requires.arena; in_range = subst (λ (s : Setup). has_chunk s.table chunk ≡ true) c.requires.arena.setup (first_near view was slabs class chunk c.requires.held class_is first) }

pub add-requires : goal.add-requires
add-requires c =
    let chunk = c.in-Some.chunk in
    let slabs = c.args.held.now.shared in
    let class = c.args.class in
    let view = c.args.hand.now.seat.me.0 in
    let was = c.requires.arena.lawful in
    let class_is = subst (λ (s : Setup). is_class s.table class ≡ true) (sym c.requires.arena.setup) c.requires.class in
    let first : first_free (class_at slabs class) ≡ Some chunk = ap (λ (x : SlabState). first_free (class_at x class)) (sym c.slabs.ensures.slabs) ∙ sym c.in-Some.ensures.chunk in
    let arena = c.head-head.ensures.arena in
    let seen = c.head-head.new.hand.seat.me.0 in
    let head = decode c.head-head.result in
    let looks = c.head-head.ensures.happens in
    let is = c.head-head.ensures.seen in
    let seen_class = subst (λ (s : Setup). is_class s.table class ≡ true) (sym arena.setup) c.requires.class in
    let in_range = subst (λ (s : Setup). has_chunk s.table chunk ≡ true) (sym arena.setup) (subst (λ (s : Setup). has_chunk s.table chunk ≡ true) c.requires.arena.setup (first_near view was slabs class chunk c.requires.held class_is first)) in
    let place : c.head_word-word.result ≡ head_word seen.setup chunk = c.head_word-word.ensures.word ∙ ap (λ (s : Setup). head_word s chunk) (sym arena.setup) in
    let mine = after_slabs view seen seen slabs chunk head c.requires.held is looks in
    let last = after_last view seen seen slabs chunk head c.requires.held is looks in
    let within_limit : length seen.row.holdings < most_holdings = let within_limit = c.requires.room in let same = ap length (after_holds view seen seen slabs chunk head c.requires.held is looks) in omega arith in
    (refl, (refl, (c.head_word-word.ensures.in_range, (arena, subst (λ (n : ℕ). MayWrite seen (core.Pop class) n (word_plus 327681)) (sym place) (may_pop seen slabs class chunk head mine seen_class first in_range within_limit last (issue_left c.head-head.result c.if-head-ge-MOST_ISSUE.false))))))

pub invariant_of-hand : goal.invariant_of-hand
invariant_of-hand c =
    let chunk = c.in-Some.chunk in
    let slabs = c.args.held.now.shared in
    let class = c.args.class in
    let view = c.args.hand.now.seat.me.0 in
    let was = c.requires.arena.lawful in
    let class_is = subst (λ (s : Setup). is_class s.table class ≡ true) (sym c.requires.arena.setup) c.requires.class in
    let first : first_free (class_at slabs class) ≡ Some chunk = ap (λ (x : SlabState). first_free (class_at x class)) (sym c.slabs.ensures.slabs) ∙ sym c.in-Some.ensures.chunk in
    let arena = c.head-head.ensures.arena in
    let seen = c.head-head.new.hand.seat.me.0 in
    let head = decode c.head-head.result in
    let looks = c.head-head.ensures.happens in
    let is = c.head-head.ensures.seen in
    let seen_class = subst (λ (s : Setup). is_class s.table class ≡ true) (sym arena.setup) c.requires.class in
    let a = c.head-head.new.hand in
    let mine = after_slabs view seen seen slabs chunk head c.requires.held is looks in
    let last = after_last view seen seen slabs chunk head c.requires.held is looks in
    let popped = pops seen c.add.new.seat.me.0 slabs mine class chunk head seen_class first last c.add.ensures.happens in
    let more = length-append seen.row.holdings (fresh_holding chunk (head.issue + 1) (room_in seen.setup.table class) ∷ []) in
    let count = a.noted.2 in
    let fills = a.tallied.1 in
    let fuller = fresh_more seen.row.holdings (fresh_holding chunk (head.issue + 1) (room_in seen.setup.table class)) in
    record { noted = noted_same a.seat.me c.add.new.seat.me a.number a.chunks (a.chunks + 1) a.locks a.noted c.add.ensures.out c.add.ensures.hand ((omega arith) ∙ (sym more ∙ ap (λ (v : View). length v.row.holdings) (sym popped))); tallied = tallied_fresh a.seat.me c.add.new.seat.me a.stamps a.fresh (a.fresh + 1) a.tallied (ap (λ (v : View). v.row.ids) popped) ((omega arith) ∙ (sym fuller ∙ ap (λ (v : View). fresh_count v.row.holdings) (sym popped))) }

pub returns-then-head-ge-MOST_ISSUE-clause-worn : goal.returns-then-head-ge-MOST_ISSUE-clause-worn
returns-then-head-ge-MOST_ISSUE-clause-worn c =
    let chunk = c.in-Some.chunk in
    let slabs = c.args.held.now.shared in
    let class = c.args.class in
    let view = c.args.hand.now.seat.me.0 in
    let was = c.requires.arena.lawful in
    let class_is = subst (λ (s : Setup). is_class s.table class ≡ true) (sym c.requires.arena.setup) c.requires.class in
    let first : first_free (class_at slabs class) ≡ Some chunk = ap (λ (x : SlabState). first_free (class_at x class)) (sym c.slabs.ensures.slabs) ∙ sym c.in-Some.ensures.chunk in
    let arena = c.head-head.ensures.arena in
    let seen = c.head-head.new.hand.seat.me.0 in
    let head = decode c.head-head.result in
    let looks = c.head-head.ensures.happens in
    let is = c.head-head.ensures.seen in
    let seen_class = subst (λ (s : Setup). is_class s.table class ≡ true) (sym arena.setup) c.requires.class in
    (record { chunk = chunk; is_asked = first; head = head; other = issue_worn c.head-head.result c.if-head-ge-MOST_ISSUE.true; happens = looks; is = is }, refl)

pub pop-requires : goal.pop-requires
pop-requires c =
    let chunk = c.in-Some.chunk in
    let slabs = c.args.held.now.shared in
    let class = c.args.class in
    let view = c.args.hand.now.seat.me.0 in
    let was = c.requires.arena.lawful in
    let class_is = subst (λ (s : Setup). is_class s.table class ≡ true) (sym c.requires.arena.setup) c.requires.class in
    let first : first_free (class_at slabs class) ≡ Some chunk = ap (λ (x : SlabState). first_free (class_at x class)) (sym c.slabs.ensures.slabs) ∙ sym c.in-Some.ensures.chunk in
    let arena = c.head-head.ensures.arena in
    let seen = c.head-head.new.hand.seat.me.0 in
    let head = decode c.head-head.result in
    let looks = c.head-head.ensures.happens in
    let is = c.head-head.ensures.seen in
    let seen_class = subst (λ (s : Setup). is_class s.table class ≡ true) (sym arena.setup) c.requires.class in
    subst (λ (x : SlabState). HasClass x class) (sym c.slabs_mut.ensures.slabs) (class_of_slabs view was slabs class c.requires.held class_is)

pub size-room-requires : goal.size-room-requires
size-room-requires c =
    let plan : Setup = c.args.self.now.plan in
    let is = subst (λ (s : Setup). is_class s.table c.args.class ≡ true) c.args.self.now.planned c.requires.class in
    subst (λ (t : Classes). (1 ≤ c.args.class) × (c.args.class ≤ length t.sizes)) (sym c.classes.ensures.classes) (class_of_table plan.table c.args.class is)

pub returns-clause-held : goal.returns-clause-held
returns-clause-held c =
    let chunk = c.in-Some.chunk in
    let slabs = c.args.held.now.shared in
    let class = c.args.class in
    let view = c.args.hand.now.seat.me.0 in
    let was = c.requires.arena.lawful in
    let class_is = subst (λ (s : Setup). is_class s.table class ≡ true) (sym c.requires.arena.setup) c.requires.class in
    let first : first_free (class_at slabs class) ≡ Some chunk = ap (λ (x : SlabState). first_free (class_at x class)) (sym c.slabs.ensures.slabs) ∙ sym c.in-Some.ensures.chunk in
    let arena = c.head-head.ensures.arena in
    let seen = c.head-head.new.hand.seat.me.0 in
    let head = decode c.head-head.result in
    let looks = c.head-head.ensures.happens in
    let is = c.head-head.ensures.seen in
    let seen_class = subst (λ (s : Setup). is_class s.table class ≡ true) (sym arena.setup) c.requires.class in
    let popped = pop_after view seen c.add.new.seat.me.0 slabs chunk head c.requires.held is looks class seen_class first (issue_left c.head-head.result c.if-head-ge-MOST_ISSUE.false) c.add.ensures.happens in
    ap (λ (v : View). v.slabs) popped.is ∙ ap Some (ap (λ slabs. after_pop slabs class) (sym c.slabs_mut.ensures.slabs) ∙ sym c.pop.ensures.popped)

pub returns-clause-popped : goal.returns-clause-popped
returns-clause-popped c =
    let chunk = c.in-Some.chunk in
    let slabs = c.args.held.now.shared in
    let class = c.args.class in
    let view = c.args.hand.now.seat.me.0 in
    let was = c.requires.arena.lawful in
    let class_is = subst (λ (s : Setup). is_class s.table class ≡ true) (sym c.requires.arena.setup) c.requires.class in
    let first : first_free (class_at slabs class) ≡ Some chunk = ap (λ (x : SlabState). first_free (class_at x class)) (sym c.slabs.ensures.slabs) ∙ sym c.in-Some.ensures.chunk in
    let arena = c.head-head.ensures.arena in
    let seen = c.head-head.new.hand.seat.me.0 in
    let head = decode c.head-head.result in
    let looks = c.head-head.ensures.happens in
    let is = c.head-head.ensures.seen in
    let seen_class = subst (λ (s : Setup). is_class s.table class ≡ true) (sym arena.setup) c.requires.class in
    (pop_after view seen c.add.new.seat.me.0 slabs chunk head c.requires.held is looks class seen_class first (issue_left c.head-head.result c.if-head-ge-MOST_ISSUE.false) c.add.ensures.happens, c.pop.ensures.popped ∙ ap (λ slabs. after_pop slabs class) c.slabs_mut.ensures.slabs)

pub returns-clause-fresh : goal.returns-clause-fresh
returns-clause-fresh c =
    let chunk = c.in-Some.chunk in
    let slabs = c.args.held.now.shared in
    let class = c.args.class in
    let view = c.args.hand.now.seat.me.0 in
    let was = c.requires.arena.lawful in
    let class_is = subst (λ (s : Setup). is_class s.table class ≡ true) (sym c.requires.arena.setup) c.requires.class in
    let first : first_free (class_at slabs class) ≡ Some chunk = ap (λ (x : SlabState). first_free (class_at x class)) (sym c.slabs.ensures.slabs) ∙ sym c.in-Some.ensures.chunk in
    let arena = c.head-head.ensures.arena in
    let seen = c.head-head.new.hand.seat.me.0 in
    let head = decode c.head-head.result in
    let looks = c.head-head.ensures.happens in
    let is = c.head-head.ensures.seen in
    let seen_class = subst (λ (s : Setup). is_class s.table class ≡ true) (sym arena.setup) c.requires.class in
    let in_range = subst (λ (s : Setup). has_chunk s.table chunk ≡ true) (sym arena.setup) (subst (λ (s : Setup). has_chunk s.table chunk ≡ true) c.requires.arena.setup (first_near view was slabs class chunk c.requires.held class_is first)) in
    let mine = after_slabs view seen seen slabs chunk head c.requires.held is looks in
    let last = after_last view seen seen slabs chunk head c.requires.held is looks in
    let popped = pops seen c.add.new.seat.me.0 slabs mine class chunk head seen_class first last c.add.ensures.happens in
    let plan : Setup = c.args.self.now.plan in
    let plan_class = subst (λ (s : Setup). is_class s.table class ≡ true) c.args.self.now.planned c.requires.class in
    let room : c.size-room.result / 8 ≡ room_in plan.table class = room_of plan.table class c.size-room.result plan_class (c.size-room.ensures.size ∙ ap (λ t. Rattle.mc_classes.specs.Classes.size_of t class) c.classes.ensures.classes) in
    let room_is = room ∙ ap (λ (s : Setup). room_in s.table class) (sym c.args.self.now.planned) in (
      room_is,
      subst (IsFreshOf c.add.new.seat.me.0 chunk) (sym (room_is ∙ ap (λ (s : Setup). room_in s.table class) (sym arena.setup))) (is_fresh_of seen c.add.new.seat.me.0 slabs mine class chunk head seen_class first arena.lawful in_range popped),
    )

pub overflow_add-hand-2 : goal.overflow_add-hand-2
overflow_add-hand-2 c =
    let slabs = c.args.held.now.shared in
    let view = c.args.hand.now.seat.me.0 in
    let a = c.head-head.new.hand in
    let same = ap length (after_holds view a.seat.me.0 a.seat.me.0 slabs c.in-Some.chunk (decode c.head-head.result) c.requires.held c.head-head.ensures.seen c.head-head.ensures.happens) in
    let within_limit = c.requires.room in
    let most = fresh_most a.seat.me.0.row.holdings in
    let fills = a.tallied.1 in
    omega arith
