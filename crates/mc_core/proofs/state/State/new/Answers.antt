use Rattle.std.proofs.Common.{◌≡◌, ℕ, ◌*◌, ◌/◌, ◌∙◌, replicate, sym, subst, ap₂}
use Rattle.mc_classes.specs.Classes.{arena_pages_of}
use Rattle.mc_pages.specs.SlabState.{SlabState}
use Rattle.mc_pages.specs.Accounted.{IsAccounted}
use Rattle.mc_core.specs.model.State.{State, new_state, page_words}
use Rattle.mc_core.specs.model.InOrder.{IsStateInOrder, callers_state}
use Rattle.mc_core.proofs.Steps.Made.{new_in_order}
use Rattle.mc_core.proofs.state.State.new.Goals as goal

pub invariant_of-result : goal.invariant_of-result
invariant_of-result c =
    let chunks = c.in_ok-heads.ensures in
    let locks = c.in_ok-stripe_locks.ensures in
    let hands = c.in_ok-ids.ensures in
    let pages = c.arena_pages.ensures.pages in
    let bytes = c.page.ensures.page in
    let words : c.in_ok-heads.words.items ≡ replicate (arena_pages_of c.args.table * page_words c.args.table) 0 =
    chunks.words ∙ ap₂ (λ (n m : ℕ). replicate (n * (m / 8)) 0) pages bytes in
    let all = subst (λ (s : SlabState). IsAccounted s) chunks.slabs.0 chunks.slabs.1 in
    let whole : callers_state (record {
      alloc = c.args.alloc;
      table = c.args.table;
      heads = c.in_ok-heads.heads;
      words = c.in_ok-heads.words;
      slabs_lock = 0;
      stripe_locks = c.in_ok-stripe_locks.stripe_locks;
      slabs = c.in_ok-heads.slabs;
      stripes = c.in_ok-stripe_locks.stripes;
      ids = c.in_ok-ids.ids;
      holdings = c.in_ok-ids.holdings;
      looks = c.in_ok-ids.looks;
    }) ≡ new_state c.args.table c.args.stripes c.args.hands c.args.start = λ i. record {
      table = c.args.table;
      heads = chunks.heads i;
      words = words i;
      slabs_lock = 0;
      stripe_locks = locks.locks i;
      slabs = chunks.slabs.0 i;
      stripes = locks.stripes i;
      ids = hands.ids i;
      holdings = hands.holdings i;
      looks = hands.looks i;
    } in
    subst (λ (s : State). IsStateInOrder s) (sym whole) (new_in_order c.args.table c.args.stripes c.args.hands c.args.start c.arena_pages.ensures.sound c.requires.stripes.0 c.requires.start all)
