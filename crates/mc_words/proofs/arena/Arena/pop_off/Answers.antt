use Rattle.std.proofs.Common.{◌≡◌, ◌+◌, ◌≤◌, ◌<◌, ◌/◌, ℕ, true, [], ◌∷◌, Option, Some, IfSome, refl, ap, sym, subst, ◌∙◌, length, length-append, arith}
use Rattle.std.specs.Prelude.{Contains}
use Rattle.mc_classes.specs.Classes.{Classes, size_of}
use Rattle.mc_pages.specs.declared.ids.ChunkId.{ChunkId}
use Rattle.mc_pages.specs.SlabState.{SlabState, class_at, class_of_chunk, class_of_owner, class_of_page}
use Rattle.mc_pages.specs.Changes.{after_replace}
use Rattle.mc_core.specs.model.Codes.{word_plus}
use Rattle.mc_core.specs.model.State.{has_chunk, is_class, room_in}
use Rattle.mc_core.specs.declared.event.Step.TheVariants as core
use Rattle.mc_core.proofs.Steps.Listed.{Contains_from_among}
use Rattle.mc_core.specs.run.Chunks.{most_holdings}
use Rattle.mc_words.specs.hand.View.{View, Setup}
use Rattle.mc_words.specs.rule.Layout.{head_word}
use Rattle.mc_words.specs.item.Fresh.{IsFreshOf}
use Rattle.mc_words.specs.chunk.Copies.{FindsFit, PassesAll}
use Rattle.mc_words.specs.hand.Tallies.{fresh_count}
use Rattle.mc_words.specs.rule.Happens.{MayWrite}
use Rattle.mc_words.specs.hand.Views.{copy_holding}
use Rattle.mc_words.proofs.Chunks.Copies.{is_fresh_copy, may_pop_off, moving_class, pops_off}
use Rattle.mc_words.proofs.Chunks.FreeWalks.{free_once, passed_holds, sees_none, sees_target, stands_free}
use Rattle.mc_words.proofs.Chunks.Judging.{class_of_table, room_of}
use Rattle.mc_words.proofs.Locks.Locked.{noted_same}
use Rattle.mc_words.proofs.Hands.Tallies.{fresh_more, fresh_most, tallied_fresh}
use Rattle.mc_words.proofs.arena.Arena.pop_off.Goals as goal

pub owner-requires : goal.owner-requires
owner-requires c =
    subst (λ (x : SlabState). c.args.old.page < length x.owners) (sym c.slabs.ensures.slabs) (moving_class c.args.hand.now.seat.me.0 c.requires.arena.lawful c.args.held.now.shared c.args.old.page c.requires.held c.requires.moving).1

pub find_fit-requires-clause-class : goal.find_fit-requires-clause-class
find_fit-requires-clause-class c =
    let old = c.args.old in
    let slabs = c.args.held.now.shared in
    let view = c.args.hand.now.seat.me.0 in
    let was = c.requires.arena.lawful in
    let class = c.class-class.result in
    let own : class ≡ class_of_page slabs old.page = c.class-class.ensures ∙ (ap class_of_owner c.owner.ensures.owner ∙ ap (λ (x : SlabState). class_of_page x old.page) c.slabs.ensures.slabs) in
    let class_is = (moving_class view was slabs old.page c.requires.held c.requires.moving).0 in
    subst (λ (p : Setup × ℕ). is_class p.0.table p.1 ≡ true) (λ k. (c.requires.arena.setup k, sym own k)) class_is

pub returns-in_default-clause-none : goal.returns-in_default-clause-none
returns-in_default-clause-none c none =
    let old = c.args.old in
    let slabs = c.args.held.now.shared in
    let view = c.args.hand.now.seat.me.0 in
    let was = c.requires.arena.lawful in
    let class = c.class-class.result in
    let own : class ≡ class_of_page slabs old.page = c.class-class.ensures ∙ (ap class_of_owner c.owner.ensures.owner ∙ ap (λ (x : SlabState). class_of_page x old.page) c.slabs.ensures.slabs) in
    let class_is = (moving_class view was slabs old.page c.requires.held c.requires.moving).0 in
    (subst (λ (n : ℕ). PassesAll old.page (class_at slabs n).free view c.find_fit.new.hand.seat.me.0) own (c.find_fit.ensures.none c.in_default.is), refl)

pub returns-in_default-clause-no_target : goal.returns-in_default-clause-no_target
returns-in_default-clause-no_target c none =
    let old = c.args.old in
    let slabs = c.args.held.now.shared in
    let view = c.args.hand.now.seat.me.0 in
    let was = c.requires.arena.lawful in
    let class = c.class-class.result in
    let own : class ≡ class_of_page slabs old.page = c.class-class.ensures ∙ (ap class_of_owner c.owner.ensures.owner ∙ ap (λ (x : SlabState). class_of_page x old.page) c.slabs.ensures.slabs) in
    let class_is = (moving_class view was slabs old.page c.requires.held c.requires.moving).0 in
    sees_none old.page class slabs view c.find_fit.new.hand.seat.me.0 c.requires.held (sym own) (c.find_fit.ensures.none c.in_default.is)

pub head_word-word-requires : goal.head_word-word-requires
head_word-word-requires c =
    let old = c.args.old in
    let slabs = c.args.held.now.shared in
    let view = c.args.hand.now.seat.me.0 in
    let was = c.requires.arena.lawful in
    let class = c.class-class.result in
    let own : class ≡ class_of_page slabs old.page = c.class-class.ensures ∙ (ap class_of_owner c.owner.ensures.owner ∙ ap (λ (x : SlabState). class_of_page x old.page) c.slabs.ensures.slabs) in
    let class_is = (moving_class view was slabs old.page c.requires.held c.requires.moving).0 in
    let arena = c.find_fit.ensures.arena in
    let a = c.find_fit.new.hand in
    let seen = a.seat.me.0 in
    let chunk = c.in-Some.chunk in
    let finds : FindsFit slabs (class_of_page slabs old.page) old.page chunk view seen = subst (λ (n : ℕ). FindsFit slabs n old.page chunk view seen) own (subst (λ (o : Option ChunkId). IfSome o (λ chunk. FindsFit slabs class old.page chunk view seen)) c.in-Some.is c.find_fit.ensures.found) in
    let mine = c.find_fit.ensures.held in
    let free = stands_free view was slabs c.requires.held (class_of_page slabs old.page) class_is chunk finds.before finds.after finds.stands in
    let sees = sees_target old.page slabs chunk view seen c.requires.held (free_once view was slabs c.requires.held (class_of_page slabs old.page) class_is) finds in
    let holds : seen.row.holdings ≡ view.row.holdings = ap (λ (v : View). v.row.holdings) finds.fit.is ∙ passed_holds old.page finds.before view finds.passed finds.passes in
    record { in_range = subst (λ (s : Setup). has_chunk s.table chunk ≡ true) c.requires.arena.setup free.in_range }

pub add-requires : goal.add-requires
add-requires c =
    let old = c.args.old in
    let slabs = c.args.held.now.shared in
    let view = c.args.hand.now.seat.me.0 in
    let was = c.requires.arena.lawful in
    let class = c.class-class.result in
    let own : class ≡ class_of_page slabs old.page = c.class-class.ensures ∙ (ap class_of_owner c.owner.ensures.owner ∙ ap (λ (x : SlabState). class_of_page x old.page) c.slabs.ensures.slabs) in
    let class_is = (moving_class view was slabs old.page c.requires.held c.requires.moving).0 in
    let arena = c.find_fit.ensures.arena in
    let a = c.find_fit.new.hand in
    let seen = a.seat.me.0 in
    let chunk = c.in-Some.chunk in
    let finds : FindsFit slabs (class_of_page slabs old.page) old.page chunk view seen = subst (λ (n : ℕ). FindsFit slabs n old.page chunk view seen) own (subst (λ (o : Option ChunkId). IfSome o (λ chunk. FindsFit slabs class old.page chunk view seen)) c.in-Some.is c.find_fit.ensures.found) in
    let mine = c.find_fit.ensures.held in
    let free = stands_free view was slabs c.requires.held (class_of_page slabs old.page) class_is chunk finds.before finds.after finds.stands in
    let sees = sees_target old.page slabs chunk view seen c.requires.held (free_once view was slabs c.requires.held (class_of_page slabs old.page) class_is) finds in
    let holds : seen.row.holdings ≡ view.row.holdings = ap (λ (v : View). v.row.holdings) finds.fit.is ∙ passed_holds old.page finds.before view finds.passed finds.passes in
    let place : c.head_word-word.result ≡ head_word seen.setup chunk = c.head_word-word.ensures.word ∙ ap (λ (s : Setup). head_word s chunk) (sym arena.setup) in
    let within_limit : length seen.row.holdings < most_holdings = let within_limit = c.requires.room in let same = ap length holds in omega arith in
    (refl, (refl, (c.head_word-word.ensures.in_range, (arena, subst (λ (n : ℕ). MayWrite seen (core.PopOff old) n (word_plus 327681)) (sym place) (may_pop_off seen slabs old chunk mine c.requires.moving sees c.requires.out within_limit)))))

pub overflow_add-hand : goal.overflow_add-hand
overflow_add-hand c =
    let old = c.args.old in
    let slabs = c.args.held.now.shared in
    let view = c.args.hand.now.seat.me.0 in
    let was = c.requires.arena.lawful in
    let class = c.class-class.result in
    let own : class ≡ class_of_page slabs old.page = c.class-class.ensures ∙ (ap class_of_owner c.owner.ensures.owner ∙ ap (λ (x : SlabState). class_of_page x old.page) c.slabs.ensures.slabs) in
    let class_is = (moving_class view was slabs old.page c.requires.held c.requires.moving).0 in
    let arena = c.find_fit.ensures.arena in
    let a = c.find_fit.new.hand in
    let seen = a.seat.me.0 in
    let chunk = c.in-Some.chunk in
    let finds : FindsFit slabs (class_of_page slabs old.page) old.page chunk view seen = subst (λ (n : ℕ). FindsFit slabs n old.page chunk view seen) own (subst (λ (o : Option ChunkId). IfSome o (λ chunk. FindsFit slabs class old.page chunk view seen)) c.in-Some.is c.find_fit.ensures.found) in
    let mine = c.find_fit.ensures.held in
    let free = stands_free view was slabs c.requires.held (class_of_page slabs old.page) class_is chunk finds.before finds.after finds.stands in
    let sees = sees_target old.page slabs chunk view seen c.requires.held (free_once view was slabs c.requires.held (class_of_page slabs old.page) class_is) finds in
    let holds : seen.row.holdings ≡ view.row.holdings = ap (λ (v : View). v.row.holdings) finds.fit.is ∙ passed_holds old.page finds.before view finds.passed finds.passes in
    let within_limit = c.requires.room in
    let same = ap length holds in
    let count = a.noted.2 in
    omega arith

pub overflow_add-hand-2 : goal.overflow_add-hand-2
overflow_add-hand-2 c =
    let old = c.args.old in
    let slabs = c.args.held.now.shared in
    let view = c.args.hand.now.seat.me.0 in
    let was = c.requires.arena.lawful in
    let class = c.class-class.result in
    let own : class ≡ class_of_page slabs old.page = c.class-class.ensures ∙ (ap class_of_owner c.owner.ensures.owner ∙ ap (λ (x : SlabState). class_of_page x old.page) c.slabs.ensures.slabs) in
    let class_is = (moving_class view was slabs old.page c.requires.held c.requires.moving).0 in
    let arena = c.find_fit.ensures.arena in
    let a = c.find_fit.new.hand in
    let seen = a.seat.me.0 in
    let chunk = c.in-Some.chunk in
    let finds : FindsFit slabs (class_of_page slabs old.page) old.page chunk view seen = subst (λ (n : ℕ). FindsFit slabs n old.page chunk view seen) own (subst (λ (o : Option ChunkId). IfSome o (λ chunk. FindsFit slabs class old.page chunk view seen)) c.in-Some.is c.find_fit.ensures.found) in
    let mine = c.find_fit.ensures.held in
    let free = stands_free view was slabs c.requires.held (class_of_page slabs old.page) class_is chunk finds.before finds.after finds.stands in
    let sees = sees_target old.page slabs chunk view seen c.requires.held (free_once view was slabs c.requires.held (class_of_page slabs old.page) class_is) finds in
    let holds : seen.row.holdings ≡ view.row.holdings = ap (λ (v : View). v.row.holdings) finds.fit.is ∙ passed_holds old.page finds.before view finds.passed finds.passes in
    let within_limit = c.requires.room in
    let same = ap length holds in
    let most = fresh_most seen.row.holdings in
    let fills = a.tallied.1 in
    omega arith

pub invariant_of-hand : goal.invariant_of-hand
invariant_of-hand c =
    let old = c.args.old in
    let slabs = c.args.held.now.shared in
    let view = c.args.hand.now.seat.me.0 in
    let was = c.requires.arena.lawful in
    let class = c.class-class.result in
    let own : class ≡ class_of_page slabs old.page = c.class-class.ensures ∙ (ap class_of_owner c.owner.ensures.owner ∙ ap (λ (x : SlabState). class_of_page x old.page) c.slabs.ensures.slabs) in
    let class_is = (moving_class view was slabs old.page c.requires.held c.requires.moving).0 in
    let arena = c.find_fit.ensures.arena in
    let a = c.find_fit.new.hand in
    let seen = a.seat.me.0 in
    let chunk = c.in-Some.chunk in
    let finds : FindsFit slabs (class_of_page slabs old.page) old.page chunk view seen = subst (λ (n : ℕ). FindsFit slabs n old.page chunk view seen) own (subst (λ (o : Option ChunkId). IfSome o (λ chunk. FindsFit slabs class old.page chunk view seen)) c.in-Some.is c.find_fit.ensures.found) in
    let mine = c.find_fit.ensures.held in
    let free = stands_free view was slabs c.requires.held (class_of_page slabs old.page) class_is chunk finds.before finds.after finds.stands in
    let sees = sees_target old.page slabs chunk view seen c.requires.held (free_once view was slabs c.requires.held (class_of_page slabs old.page) class_is) finds in
    let holds : seen.row.holdings ≡ view.row.holdings = ap (λ (v : View). v.row.holdings) finds.fit.is ∙ passed_holds old.page finds.before view finds.passed finds.passes in
    let now = c.add.new.seat.me.0 in
    let popped = pops_off seen slabs old chunk mine c.requires.moving sees free.own now c.add.ensures.happens in
    let holding = copy_holding old chunk (finds.fit.head.issue + 1) (room_in seen.setup.table (class_of_page slabs old.page)) in
    let more = length-append seen.row.holdings (holding ∷ []) in
    let count = a.noted.2 in
    let fills = a.tallied.1 in
    let fuller = fresh_more seen.row.holdings holding in
    record { noted = noted_same a.seat.me c.add.new.seat.me a.number a.chunks (a.chunks + 1) a.locks a.noted c.add.ensures.out c.add.ensures.hand ((omega arith) ∙ (sym more ∙ ap (λ (v : View). length v.row.holdings) (sym popped))); tallied = tallied_fresh a.seat.me c.add.new.seat.me a.stamps a.fresh (a.fresh + 1) a.tallied (ap (λ (v : View). v.row.ids) popped) ((omega arith) ∙ (sym fuller ∙ ap (λ (v : View). fresh_count v.row.holdings) (sym popped))) }

pub replace-requires-clause-free : goal.replace-requires-clause-free
replace-requires-clause-free c =
    let old = c.args.old in
    let slabs = c.args.held.now.shared in
    let view = c.args.hand.now.seat.me.0 in
    let was = c.requires.arena.lawful in
    let class = c.class-class.result in
    let own : class ≡ class_of_page slabs old.page = c.class-class.ensures ∙ (ap class_of_owner c.owner.ensures.owner ∙ ap (λ (x : SlabState). class_of_page x old.page) c.slabs.ensures.slabs) in
    let class_is = (moving_class view was slabs old.page c.requires.held c.requires.moving).0 in
    let arena = c.find_fit.ensures.arena in
    let a = c.find_fit.new.hand in
    let seen = a.seat.me.0 in
    let chunk = c.in-Some.chunk in
    let finds : FindsFit slabs (class_of_page slabs old.page) old.page chunk view seen = subst (λ (n : ℕ). FindsFit slabs n old.page chunk view seen) own (subst (λ (o : Option ChunkId). IfSome o (λ chunk. FindsFit slabs class old.page chunk view seen)) c.in-Some.is c.find_fit.ensures.found) in
    let mine = c.find_fit.ensures.held in
    let free = stands_free view was slabs c.requires.held (class_of_page slabs old.page) class_is chunk finds.before finds.after finds.stands in
    let sees = sees_target old.page slabs chunk view seen c.requires.held (free_once view was slabs c.requires.held (class_of_page slabs old.page) class_is) finds in
    let holds : seen.row.holdings ≡ view.row.holdings = ap (λ (v : View). v.row.holdings) finds.fit.is ∙ passed_holds old.page finds.before view finds.passed finds.passes in
    subst (λ (x : SlabState). Contains (class_of_chunk x old).free chunk) (sym c.slabs_mut.ensures.slabs) (subst (λ (n : ℕ). Contains (class_at slabs n).free chunk) free.own free.listed)

pub replace-requires-clause-handed_out : goal.replace-requires-clause-handed_out
replace-requires-clause-handed_out c =
    subst (λ (x : SlabState). Contains (class_of_chunk x c.args.old).order c.args.old) (sym c.slabs_mut.ensures.slabs) (Contains_from_among (class_of_chunk c.args.held.now.shared c.args.old).order c.args.old c.requires.out)

pub size-room-requires : goal.size-room-requires
size-room-requires c =
    let old = c.args.old in
    let slabs = c.args.held.now.shared in
    let view = c.args.hand.now.seat.me.0 in
    let was = c.requires.arena.lawful in
    let class = c.class-class.result in
    let own : class ≡ class_of_page slabs old.page = c.class-class.ensures ∙ (ap class_of_owner c.owner.ensures.owner ∙ ap (λ (x : SlabState). class_of_page x old.page) c.slabs.ensures.slabs) in
    let class_is = (moving_class view was slabs old.page c.requires.held c.requires.moving).0 in
    let plan : Setup = c.args.self.now.plan in
    let is = subst (λ (p : Setup × ℕ). is_class p.0.table p.1 ≡ true) (λ k. ((c.requires.arena.setup ∙ c.args.self.now.planned) k, sym own k)) class_is in
    subst (λ (t : Classes). (1 ≤ class) × (class ≤ length t.sizes)) (sym c.classes.ensures.classes) (class_of_table plan.table class is)

pub returns-clause-held : goal.returns-clause-held
returns-clause-held c =
    let old = c.args.old in
    let slabs = c.args.held.now.shared in
    let view = c.args.hand.now.seat.me.0 in
    let was = c.requires.arena.lawful in
    let class = c.class-class.result in
    let own : class ≡ class_of_page slabs old.page = c.class-class.ensures ∙ (ap class_of_owner c.owner.ensures.owner ∙ ap (λ (x : SlabState). class_of_page x old.page) c.slabs.ensures.slabs) in
    let class_is = (moving_class view was slabs old.page c.requires.held c.requires.moving).0 in
    let arena = c.find_fit.ensures.arena in
    let a = c.find_fit.new.hand in
    let seen = a.seat.me.0 in
    let chunk = c.in-Some.chunk in
    let finds : FindsFit slabs (class_of_page slabs old.page) old.page chunk view seen = subst (λ (n : ℕ). FindsFit slabs n old.page chunk view seen) own (subst (λ (o : Option ChunkId). IfSome o (λ chunk. FindsFit slabs class old.page chunk view seen)) c.in-Some.is c.find_fit.ensures.found) in
    let mine = c.find_fit.ensures.held in
    let free = stands_free view was slabs c.requires.held (class_of_page slabs old.page) class_is chunk finds.before finds.after finds.stands in
    let sees = sees_target old.page slabs chunk view seen c.requires.held (free_once view was slabs c.requires.held (class_of_page slabs old.page) class_is) finds in
    let holds : seen.row.holdings ≡ view.row.holdings = ap (λ (v : View). v.row.holdings) finds.fit.is ∙ passed_holds old.page finds.before view finds.passed finds.passes in
    let now = c.add.new.seat.me.0 in
    let popped = pops_off seen slabs old chunk mine c.requires.moving sees free.own now c.add.ensures.happens in
    ap (λ (v : View). v.slabs) popped ∙ ap Some (ap (λ slabs. after_replace slabs chunk old) (sym c.slabs_mut.ensures.slabs) ∙ sym c.replace.ensures.replaced)

pub returns-clause-popped : goal.returns-clause-popped
returns-clause-popped c =
    let old = c.args.old in
    let slabs = c.args.held.now.shared in
    let view = c.args.hand.now.seat.me.0 in
    let was = c.requires.arena.lawful in
    let class = c.class-class.result in
    let own : class ≡ class_of_page slabs old.page = c.class-class.ensures ∙ (ap class_of_owner c.owner.ensures.owner ∙ ap (λ (x : SlabState). class_of_page x old.page) c.slabs.ensures.slabs) in
    let class_is = (moving_class view was slabs old.page c.requires.held c.requires.moving).0 in
    let arena = c.find_fit.ensures.arena in
    let a = c.find_fit.new.hand in
    let seen = a.seat.me.0 in
    let chunk = c.in-Some.chunk in
    let finds : FindsFit slabs (class_of_page slabs old.page) old.page chunk view seen = subst (λ (n : ℕ). FindsFit slabs n old.page chunk view seen) own (subst (λ (o : Option ChunkId). IfSome o (λ chunk. FindsFit slabs class old.page chunk view seen)) c.in-Some.is c.find_fit.ensures.found) in
    let mine = c.find_fit.ensures.held in
    let free = stands_free view was slabs c.requires.held (class_of_page slabs old.page) class_is chunk finds.before finds.after finds.stands in
    let sees = sees_target old.page slabs chunk view seen c.requires.held (free_once view was slabs c.requires.held (class_of_page slabs old.page) class_is) finds in
    let holds : seen.row.holdings ≡ view.row.holdings = ap (λ (v : View). v.row.holdings) finds.fit.is ∙ passed_holds old.page finds.before view finds.passed finds.passes in
    let now = c.add.new.seat.me.0 in
    let popped = pops_off seen slabs old chunk mine c.requires.moving sees free.own now c.add.ensures.happens in
    (record { seen = seen; finds = finds; happens = c.add.ensures.happens; is = popped }, c.replace.ensures.replaced ∙ ap (λ slabs. after_replace slabs chunk old) c.slabs_mut.ensures.slabs)

pub returns-clause-fresh : goal.returns-clause-fresh
returns-clause-fresh c =
    let old = c.args.old in
    let slabs = c.args.held.now.shared in
    let view = c.args.hand.now.seat.me.0 in
    let was = c.requires.arena.lawful in
    let class = c.class-class.result in
    let own : class ≡ class_of_page slabs old.page = c.class-class.ensures ∙ (ap class_of_owner c.owner.ensures.owner ∙ ap (λ (x : SlabState). class_of_page x old.page) c.slabs.ensures.slabs) in
    let class_is = (moving_class view was slabs old.page c.requires.held c.requires.moving).0 in
    let arena = c.find_fit.ensures.arena in
    let a = c.find_fit.new.hand in
    let seen = a.seat.me.0 in
    let chunk = c.in-Some.chunk in
    let finds : FindsFit slabs (class_of_page slabs old.page) old.page chunk view seen = subst (λ (n : ℕ). FindsFit slabs n old.page chunk view seen) own (subst (λ (o : Option ChunkId). IfSome o (λ chunk. FindsFit slabs class old.page chunk view seen)) c.in-Some.is c.find_fit.ensures.found) in
    let mine = c.find_fit.ensures.held in
    let free = stands_free view was slabs c.requires.held (class_of_page slabs old.page) class_is chunk finds.before finds.after finds.stands in
    let sees = sees_target old.page slabs chunk view seen c.requires.held (free_once view was slabs c.requires.held (class_of_page slabs old.page) class_is) finds in
    let holds : seen.row.holdings ≡ view.row.holdings = ap (λ (v : View). v.row.holdings) finds.fit.is ∙ passed_holds old.page finds.before view finds.passed finds.passes in
    let now = c.add.new.seat.me.0 in
    let popped = pops_off seen slabs old chunk mine c.requires.moving sees free.own now c.add.ensures.happens in
    let plan : Setup = c.args.self.now.plan in
    let is = subst (λ (p : Setup × ℕ). is_class p.0.table p.1 ≡ true) (λ k. ((c.requires.arena.setup ∙ c.args.self.now.planned) k, sym own k)) class_is in
    let room : c.size-room.result / 8 ≡ room_in plan.table class = room_of plan.table class c.size-room.result is (c.size-room.ensures.size ∙ ap (λ t. size_of t class) c.classes.ensures.classes) in
    let room_is : c.size-room.result / 8 ≡ room_in c.args.self.now.table.shared.key.table (class_of_page slabs old.page) = room ∙ (λ k. room_in ((sym c.args.self.now.planned) k).table (own k)) in (
      room_is,
      subst (IsFreshOf now chunk) (sym (room_is ∙ ap (λ (s : Setup). room_in s.table (class_of_page slabs old.page)) (sym arena.setup))) (is_fresh_copy seen slabs old chunk mine c.requires.moving sees arena.lawful now popped),
    )
