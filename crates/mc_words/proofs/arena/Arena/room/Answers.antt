use Rattle.std.proofs.Common.{◌≡◌, ◌<◌, ◌/◌, ℕ, true, sym, ap, subst, ◌∙◌}
use Rattle.mc_classes.specs.Classes.{Classes, arena_pages_of}
use Rattle.mc_core.specs.model.State.{is_class, room_in}
use Rattle.mc_words.specs.hand.View.{View, Setup}
use Rattle.mc_words.specs.rule.Layout.{page_word}
use Rattle.mc_words.specs.item.Refs.{IsRefOf}
use Rattle.mc_words.specs.rule.Shown.{IsShown}
use Rattle.mc_words.specs.rule.Told.{Sits}
use Rattle.mc_words.proofs.Chunks.Judging.{class_of_table, room_of}
use Rattle.mc_words.proofs.Rules.Peeks.{page_near, class_shown}
use Rattle.mc_words.proofs.arena.Arena.room.Goals as goal

pub page_word-word-requires : goal.page_word-word-requires
page_word-word-requires c =
    let arena = c.requires.arena in
    let ref = c.requires.reference in
    record { in_range = subst (λ (s : Setup). c.args.chunk.page < arena_pages_of s.table) arena.setup (page_near c.args.hand.now.seat.me.0 arena.lawful c.args.chunk ref.0 ref.1) }

pub size-size-requires : goal.size-size-requires
size-size-requires c =
    let arena = c.requires.arena in
    let ref = c.requires.reference in
    let view = c.args.hand.now.seat.me.0 in
    let place : c.page_word-word.result ≡ page_word view.setup c.args.chunk.page = c.page_word-word.ensures.word ∙ ap (λ (s : Setup). page_word s c.args.chunk.page) (sym arena.setup) in
    let shown = class_shown view c.args.chunk ref.0 c.peek-class.result ref.1 (subst (λ (n : ℕ). IsShown n c.peek-class.result view) place c.peek-class.ensures.shown) in
    let table : view.setup.table ≡ c.classes.result.now = ap (λ (s : Setup). s.table) arena.setup ∙ sym c.classes.ensures.classes in
    class_of_table c.classes.result.now c.peek-class.result (subst (λ (t : Classes). is_class t c.peek-class.result ≡ true) table shown.0)

pub returns-clause-room : goal.returns-clause-room
returns-clause-room c =
    let arena = c.requires.arena in
    let ref = c.requires.reference in
    let view = c.args.hand.now.seat.me.0 in
    let place : c.page_word-word.result ≡ page_word view.setup c.args.chunk.page = c.page_word-word.ensures.word ∙ ap (λ (s : Setup). page_word s c.args.chunk.page) (sym arena.setup) in
    let shown = class_shown view c.args.chunk ref.0 c.peek-class.result ref.1 (subst (λ (n : ℕ). IsShown n c.peek-class.result view) place c.peek-class.ensures.shown) in
    let table : view.setup.table ≡ c.classes.result.now = ap (λ (s : Setup). s.table) arena.setup ∙ sym c.classes.ensures.classes in
    let is : c.size-size.result / 8 ≡ room_in c.classes.result.now c.peek-class.result =
    room_of c.classes.result.now c.peek-class.result c.size-size.result (subst (λ (t : Classes). is_class t c.peek-class.result ≡ true) table shown.0) c.size-size.ensures.size in
    let room : ref.0 ≡ c.size-size.result / 8 = sym shown.1 ∙ (ap (λ (t : Classes). room_in t c.peek-class.result) table ∙ sym is) in
    subst (λ (p : View × ℕ). IsRefOf p.0 c.args.chunk p.1) (λ k. (ap (λ (m : Sits). m.0) (sym c.peek-class.ensures.same) k, room k)) ref.1
