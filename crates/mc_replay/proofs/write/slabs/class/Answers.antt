use Rattle.std.proofs.Common.{ℕ, List, ◌++◌, string_bytes, ap, append_assoc, ◌∙◌}
use Rattle.mc_pages.specs.SlabState.{class_at}
use Rattle.mc_replay.specs.Written.{evictions_text, free_text, order_text}
use Rattle.mc_replay.proofs.write.slabs.class.Goals as goal

pub returns : goal.returns
returns c =
    let state = class_at c.args.slabs.now.state c.args.class in
    let lists = free_text c.args.class state.free ++ order_text state.order in
    c.in_ok-evictions.ensures
    ∙ ap (λ (text : List ℕ). text ++ evictions_text c.numbers.result.evictions) c.in_ok-lists.ensures
    ∙ ap (λ n. (string_bytes c.args.text.now ++ lists) ++ evictions_text n.evictions) c.numbers.ensures.numbers
    ∙ append_assoc (string_bytes c.args.text.now) lists (evictions_text state.evictions)
