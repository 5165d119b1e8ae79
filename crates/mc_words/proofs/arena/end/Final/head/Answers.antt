use Rattle.std.proofs.Common.{◌≡◌, ◌*◌, ◌+◌, ℕ, true, sym, ap, subst, ◌∙◌, arith, slice_index}
use Rattle.std.specs.Slots.{slots_counts, slots_items}
use Rattle.mc_core.specs.model.State.{has_chunk, head_place}
use Rattle.mc_words.specs.hand.View.{Setup}
use Rattle.mc_words.specs.rule.Layout.{head_word}
use Rattle.mc_words.specs.rule.End.{ArenaEnd}
use Rattle.mc_words.proofs.Chunks.Heads.{head_word_near}
use Rattle.mc_words.proofs.Rules.Ends.{head_told}
use Rattle.mc_words.proofs.arena.end.Final.head.Goals as goal

pub overflow_add-word-2 : goal.overflow_add-word-2
overflow_add-word-2 c =
    let f = c.self.inside in
    let plan : Setup = f.plan in
    let left = c.self.invariant.2 in
    let in_range = subst (λ (l : ArenaEnd). has_chunk l.setup.table c.args.chunk ≡ true) (sym c.self.view_is) c.requires.in_range in
    let below = head_word_near plan c.args.chunk in_range in
    let first = c.self.invariant.3 in
    let most = ap (λ (n : ℕ). c.args.chunk.page * n) c.self.invariant.4 in
    let small = left.small in
    omega arith

pub word-requires : goal.word-requires
word-requires c =
    let f = c.self.inside in
    let plan : Setup = f.plan in
    let left = c.self.invariant.2 in
    let in_range = subst (λ (l : ArenaEnd). has_chunk l.setup.table c.args.chunk ≡ true) (sym c.self.view_is) c.requires.in_range in
    let below = head_word_near plan c.args.chunk in_range in
    let first = c.self.invariant.3 in
    let most = ap (λ (n : ℕ). c.args.chunk.page * n) c.self.invariant.4 in
    let wide = left.wide in
    let long = (slots_counts f.closed.words).0 in
    (omega arith, c.self.invariant.0)

pub returns : goal.returns
returns c =
    let f = c.self.inside in
    let plan : Setup = f.plan in
    let left = c.self.invariant.2 in
    let in_range = subst (λ (l : ArenaEnd). has_chunk l.setup.table c.args.chunk ≡ true) (sym c.self.view_is) c.requires.in_range in
    let place : f.first_head + c.args.chunk.page * f.most + c.args.chunk.index ≡ head_word plan c.args.chunk =
    let first = c.self.invariant.3 in let most = ap (λ (n : ℕ). c.args.chunk.page * n) c.self.invariant.4 in omega arith in
    record {
      word = head_told plan (slots_items f.closed.words) (slots_items f.closed.slots) left c.args.chunk _ c.word.result in_range place c.word.ensures
          ∙ ap (λ (l : ArenaEnd). slice_index l.heads (head_place l.setup.table c.args.chunk)) c.self.view_is;
    }
