use Rattle.std.proofs.Common.{◌≡◌, ◌+◌, ◌<◌, ◌≤◌, ℕ, [], true, length, refl, ap, sym, subst, ◌∙◌}
use Rattle.mc_pages.specs.SlabState.{SlabState, class_of_owner, class_of_page}
use Rattle.mc_core.specs.model.State.{has_chunk, room_in}
use Rattle.mc_core.specs.declared.event.Step.TheVariants as core
use Rattle.mc_words.specs.hand.View.{Setup}
use Rattle.mc_words.specs.rule.Layout.{data_word, config_from}
use Rattle.mc_words.specs.rule.Happens.{HappensAt}
use Rattle.mc_words.proofs.Items.HeldReads.{known_word, held_near, held_room, length_fits, may_read_held, owner_near, read_again, read_held}
use Rattle.mc_words.proofs.Chunks.Judging.{class_of_table}
use Rattle.mc_words.proofs.arena.Arena.word_held.Goals as goal

pub owner-requires : goal.owner-requires
owner-requires c =
    let arena = c.requires.arena in
    let in_range = subst (λ (s : Setup). has_chunk s.table c.args.chunk ≡ true) (sym arena.setup) c.requires.in_range in
    subst (λ (x : SlabState). c.args.chunk.page < length x.owners) (sym c.slabs.ensures.slabs) (owner_near c.args.hand.now.seat.me.0 c.args.held.now.shared c.requires.held c.args.chunk in_range arena.lawful)

pub size-room-requires : goal.size-room-requires
size-room-requires c =
    let arena = c.requires.arena in
    let class = c.class-class.ensures ∙ (ap class_of_owner c.owner.ensures.owner ∙ ap (λ (x : SlabState). class_of_page x c.args.chunk.page) c.slabs.ensures.slabs) in
    let room = held_room c.args.self.now.table.shared.key c.args.hand.now.seat.me.0.setup c.classes.result.now c.args.held.now.shared c.args.chunk.page c.class-class.result 0 c.args.place arena.setup c.classes.ensures.classes class c.requires.inside in
    class_of_table c.classes.result.now c.class-class.result room.0

pub data_word-at-requires : goal.data_word-at-requires
data_word-at-requires c =
    let arena = c.requires.arena in
    let view = c.args.hand.now.seat.me.0 in
    let slabs = c.args.held.now.shared in
    let chunk = c.args.chunk in
    let in_range = subst (λ (s : Setup). has_chunk s.table chunk ≡ true) (sym arena.setup) c.requires.in_range in
    let inside = subst (λ (s : Setup). c.args.place < room_in s.table (class_of_page slabs chunk.page)) (sym arena.setup) c.requires.inside in
    let class = c.class-class.ensures ∙ (ap class_of_owner c.owner.ensures.owner ∙ ap (λ (x : SlabState). class_of_page x chunk.page) c.slabs.ensures.slabs) in
    let room = held_room c.args.self.now.table.shared.key view.setup c.classes.result.now slabs chunk.page c.class-class.result c.size-room.result c.args.place arena.setup c.classes.ensures.classes class c.requires.inside in
    record {
      in_range = subst (λ (p : Setup × ℕ). data_word p.0 p.1 chunk c.args.place < config_from p.0) (λ k. (arena.setup k, sym (room.1 c.size-room.ensures.size) k)) (held_near view slabs c.requires.held chunk in_range c.requires.linked c.args.place inside arena.lawful);
    }

pub look-requires : goal.look-requires
look-requires c =
    let arena = c.requires.arena in
    let view = c.args.hand.now.seat.me.0 in
    let slabs = c.args.held.now.shared in
    let in_range = subst (λ (s : Setup). has_chunk s.table c.args.chunk ≡ true) (sym arena.setup) c.requires.in_range in
    let inside = subst (λ (s : Setup). c.args.place < room_in s.table (class_of_page slabs c.args.chunk.page)) (sym arena.setup) c.requires.inside in
    (refl, (refl, (c.data_word-at.ensures.in_range, (arena, may_read_held view slabs c.requires.held c.args.chunk in_range c.requires.linked c.args.place inside c.data_word-at.result))))

pub returns-clause-happens : goal.returns-clause-happens
returns-clause-happens c = c.look.ensures.happens.0

pub returns-clause-view : goal.returns-clause-view
returns-clause-view c =
    let arena = c.requires.arena in
    let view = c.args.hand.now.seat.me.0 in
    let slabs = c.args.held.now.shared in
    let chunk = c.args.chunk in
    let in_range = subst (λ (s : Setup). has_chunk s.table chunk ≡ true) (sym arena.setup) c.requires.in_range in
    let inside = subst (λ (s : Setup). c.args.place < room_in s.table (class_of_page slabs chunk.page)) (sym arena.setup) c.requires.inside in
    let class = c.class-class.ensures ∙ (ap class_of_owner c.owner.ensures.owner ∙ ap (λ (x : SlabState). class_of_page x chunk.page) c.slabs.ensures.slabs) in
    let room = held_room c.args.self.now.table.shared.key view.setup c.classes.result.now slabs chunk.page c.class-class.result c.size-room.result c.args.place arena.setup c.classes.ensures.classes class c.requires.inside in
    let place : c.data_word-at.result ≡ data_word view.setup (room_in view.setup.table (class_of_page slabs chunk.page)) chunk c.args.place =
    c.data_word-at.ensures.word ∙ (λ k. data_word (sym arena.setup k) (room.1 c.size-room.ensures.size k) chunk c.args.place) in
    read_held view slabs c.requires.held chunk in_range c.requires.linked c.args.place inside c.look.new.seat.me.0 c.look.result
    (subst (λ (n : ℕ). HappensAt n c.look.result view [] (core.WordHeld chunk c.args.place) c.look.new.seat.me.0) place c.look.ensures.happens)

pub returns-clause-known : goal.returns-clause-known
returns-clause-known c =
    let arena = c.requires.arena in
    let view = c.args.hand.now.seat.me.0 in
    let slabs = c.args.held.now.shared in
    let chunk = c.args.chunk in
    let in_range = subst (λ (s : Setup). has_chunk s.table chunk ≡ true) (sym arena.setup) c.requires.in_range in
    let inside = subst (λ (s : Setup). c.args.place < room_in s.table (class_of_page slabs chunk.page)) (sym arena.setup) c.requires.inside in
    let class = c.class-class.ensures ∙ (ap class_of_owner c.owner.ensures.owner ∙ ap (λ (x : SlabState). class_of_page x chunk.page) c.slabs.ensures.slabs) in
    let room = held_room c.args.self.now.table.shared.key view.setup c.classes.result.now slabs chunk.page c.class-class.result c.size-room.result c.args.place arena.setup c.classes.ensures.classes class c.requires.inside in
    let place : c.data_word-at.result ≡ data_word view.setup (room_in view.setup.table (class_of_page slabs chunk.page)) chunk c.args.place =
    c.data_word-at.ensures.word ∙ (λ k. data_word (sym arena.setup k) (room.1 c.size-room.ensures.size k) chunk c.args.place) in
    known_word view slabs c.requires.held chunk in_range c.requires.linked c.args.place inside c.look.new.seat.me.0 c.look.result
    (subst (λ (n : ℕ). HappensAt n c.look.result view [] (core.WordHeld chunk c.args.place) c.look.new.seat.me.0) place c.look.ensures.happens)

pub returns-clause-again : goal.returns-clause-again
returns-clause-again c =
    let arena = c.requires.arena in
    let view = c.args.hand.now.seat.me.0 in
    let slabs = c.args.held.now.shared in
    let chunk = c.args.chunk in
    let in_range = subst (λ (s : Setup). has_chunk s.table chunk ≡ true) (sym arena.setup) c.requires.in_range in
    let inside = subst (λ (s : Setup). c.args.place < room_in s.table (class_of_page slabs chunk.page)) (sym arena.setup) c.requires.inside in
    let class = c.class-class.ensures ∙ (ap class_of_owner c.owner.ensures.owner ∙ ap (λ (x : SlabState). class_of_page x chunk.page) c.slabs.ensures.slabs) in
    let room = held_room c.args.self.now.table.shared.key view.setup c.classes.result.now slabs chunk.page c.class-class.result c.size-room.result c.args.place arena.setup c.classes.ensures.classes class c.requires.inside in
    let place : c.data_word-at.result ≡ data_word view.setup (room_in view.setup.table (class_of_page slabs chunk.page)) chunk c.args.place =
    c.data_word-at.ensures.word ∙ (λ k. data_word (sym arena.setup k) (room.1 c.size-room.ensures.size k) chunk c.args.place) in
    read_again view slabs c.requires.held chunk in_range c.requires.linked c.args.place inside c.look.new.seat.me.0 c.look.result
    (subst (λ (n : ℕ). HappensAt n c.look.result view [] (core.WordHeld chunk c.args.place) c.look.new.seat.me.0) place c.look.ensures.happens)

pub returns-clause-fits : goal.returns-clause-fits
returns-clause-fits c =
    let arena = c.requires.arena in
    let view = c.args.hand.now.seat.me.0 in
    let slabs = c.args.held.now.shared in
    let chunk = c.args.chunk in
    let in_range = subst (λ (s : Setup). has_chunk s.table chunk ≡ true) (sym arena.setup) c.requires.in_range in
    let inside = subst (λ (s : Setup). c.args.place < room_in s.table (class_of_page slabs chunk.page)) (sym arena.setup) c.requires.inside in
    let class = c.class-class.ensures ∙ (ap class_of_owner c.owner.ensures.owner ∙ ap (λ (x : SlabState). class_of_page x chunk.page) c.slabs.ensures.slabs) in
    let room = held_room c.args.self.now.table.shared.key view.setup c.classes.result.now slabs chunk.page c.class-class.result c.size-room.result c.args.place arena.setup c.classes.ensures.classes class c.requires.inside in
    let place : c.data_word-at.result ≡ data_word view.setup (room_in view.setup.table (class_of_page slabs chunk.page)) chunk c.args.place =
    c.data_word-at.ensures.word ∙ (λ k. data_word (sym arena.setup k) (room.1 c.size-room.ensures.size k) chunk c.args.place) in
    λ third. subst (λ (s : Setup). 3 + c.look.result ≤ room_in s.table (class_of_page slabs chunk.page)) arena.setup
    (length_fits view slabs c.requires.held chunk in_range c.requires.linked c.args.place inside c.look.new.seat.me.0 c.look.result
    (subst (λ (n : ℕ). HappensAt n c.look.result view [] (core.WordHeld chunk c.args.place) c.look.new.seat.me.0) place c.look.ensures.happens) third)
