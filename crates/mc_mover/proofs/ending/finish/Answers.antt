use Rattle.std.proofs.Common.{◌≡◌, ◌≤◌, ◌==◌, Bool, List, ap, sym, subst, ◌∙◌, ne_eqb}
use Rattle.std.specs.Prelude.{[], if◌then◌else◌, Option}
use Rattle.mc_pages.specs.declared.ids.ChunkId.{ChunkId}
use Rattle.mc_pages.specs.declared.ids.Moving.{Moving}
use Rattle.mc_pages.specs.Accounted.{first_chunks}
use Rattle.mc_pages.specs.Moves.{after_finish, after_move_end}
use Rattle.mc_pages.specs.SlabState.{SlabState, HasClass, class_at, class_of_chunk}
use Rattle.mc_words.specs.hand.View.{View}
use Rattle.mc_words.specs.page.Cuts.{CutsEach}
use Rattle.mc_mover.proofs.Ends.{can_finish_here, class_come, class_finished, per_page_come, per_page_finished, some_here}
use Rattle.mc_mover.proofs.ending.finish.Goals as goal

pub finish_move-requires-clause-cleared : goal.finish_move-requires-clause-cleared
finish_move-requires-clause-cleared c =
    (c.args.moving, can_finish_here c.args.hand.now.seat.me.0 c.requires.arena.lawful c.args.held.now.shared c.requires.held c.args.moving c.requires.at_end c.requires.none)

pub per_page-chunks-requires : goal.per_page-chunks-requires
per_page-chunks-requires c =
    let view : View = c.args.hand.now.seat.me.0 in
    let slabs = c.args.held.now.shared in
    let move = c.args.moving in
    let after : c.finish_move.new.held.shared ≡ after_move_end slabs move = c.finish_move.ensures.finished ∙ ap (λ (o : Option Moving). after_finish slabs o) c.requires.at_end.0 in
    subst (λ (s : SlabState). HasClass s move.dst) (sym (c.slabs.ensures.slabs ∙ after))
    (class_finished slabs move move.dst (class_come view c.requires.arena.lawful slabs c.requires.held move c.requires.at_end.0 c.if-moving-ne0.true))

pub cut_page-requires-clause-chunks : goal.cut_page-requires-clause-chunks
cut_page-requires-clause-chunks c =
    let view : View = c.args.hand.now.seat.me.0 in
    let slabs = c.args.held.now.shared in
    let move = c.args.moving in
    let after : c.finish_move.new.held.shared ≡ after_move_end slabs move = c.finish_move.ensures.finished ∙ ap (λ (o : Option Moving). after_finish slabs o) c.requires.at_end.0 in
    ap (λ (s : SlabState). (class_of_chunk s (record { page = move.page; index = 0 })).per_page) after
    ∙ (per_page_come view c.requires.arena.lawful slabs c.requires.held move c.requires.at_end.0
    ∙ sym (c.per_page-chunks.ensures.chunks ∙ ap (λ (s : SlabState). (class_at s move.dst).per_page) (c.slabs.ensures.slabs ∙ after)))

pub cut_page-requires-clause-some : goal.cut_page-requires-clause-some
cut_page-requires-clause-some c =
    let view : View = c.args.hand.now.seat.me.0 in
    let slabs = c.args.held.now.shared in
    let move = c.args.moving in
    let was = c.requires.arena.lawful in
    let after : c.finish_move.new.held.shared ≡ after_move_end slabs move = c.finish_move.ensures.finished ∙ ap (λ (o : Option Moving). after_finish slabs o) c.requires.at_end.0 in
    let same : c.per_page-chunks.result ≡ (class_at slabs move.dst).per_page =
    c.per_page-chunks.ensures.chunks ∙ (ap (λ (s : SlabState). (class_at s move.dst).per_page) (c.slabs.ensures.slabs ∙ after) ∙ per_page_finished slabs move move.dst) in
    subst (λ n. 1 ≤ n) (sym same) (some_here view was slabs c.requires.held move.dst (class_come view was slabs c.requires.held move c.requires.at_end.0 c.if-moving-ne0.true))

pub returns-then-moving-ne0-clause-finishes : goal.returns-then-moving-ne0-clause-finishes
returns-then-moving-ne0-clause-finishes c =
    let slabs = c.args.held.now.shared in
    let move = c.args.moving in
    let moved : View = c.finish_move.new.hand.seat.me.0 in
    let now : View = c.cut_page.new.hand.seat.me.0 in
    let after : c.finish_move.new.held.shared ≡ after_move_end slabs move = c.finish_move.ensures.finished ∙ ap (λ (o : Option Moving). after_finish slabs o) c.requires.at_end.0 in
    let same : c.per_page-chunks.result ≡ (class_at slabs move.dst).per_page =
    c.per_page-chunks.ensures.chunks ∙ (ap (λ (s : SlabState). (class_at s move.dst).per_page) (c.slabs.ensures.slabs ∙ after) ∙ per_page_finished slabs move move.dst) in
    let listed : first_chunks move.page c.per_page-chunks.result ≡ (if move.dst == 0 then [] else first_chunks move.page (class_at slabs move.dst).per_page) =
    ap (λ n. first_chunks move.page n) same ∙ ap (λ (b : Bool). if b then [] else first_chunks move.page (class_at slabs move.dst).per_page) (sym (ne_eqb move.dst 0 c.if-moving-ne0.true)) in
    record {
      move = move;
      at_end = c.requires.at_end;
      none = c.requires.none;
      moved = moved;
      happens = c.finish_move.ensures.happens;
      is = c.finish_move.ensures.view;
      cuts = subst (λ (chunks : List ChunkId). CutsEach chunks moved (after_finish slabs slabs.moving) now c.cut_page.new.held.shared) listed
          (subst (λ (s : SlabState). CutsEach (first_chunks move.page c.per_page-chunks.result) moved s now c.cut_page.new.held.shared) c.finish_move.ensures.finished c.cut_page.ensures.cuts);
    }
