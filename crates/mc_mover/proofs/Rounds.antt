-- Sections of a turn, one after another: what each needs, and what they leave.
use Rattle.std.proofs.Common.{◌≡◌, ℕ, ◌+◌, ◌-◌, ◌<◌, ◌≤◌, ◌^◌, ◌++◌, true, false, List, [], ◌∷◌, length, min, is_some, Option, Some, None, nat_le, nat_lt, ◌==◌, eq-eqb, lt-ltb, le-leb, refl, sym, ap, subst, ◌∙◌, arith}
use Rattle.std.specs.Option.{option_map_or}
use Rattle.std.proofs.lemmas.Bool.{and_from}
use Rattle.std.proofs.lemmas.List.{length-append}
use Rattle.std.proofs.lemmas.Option.{same_Some}
use Rattle.mc_classes.specs.Classes.{IsSound, per_page_of}
use Rattle.mc_pages.specs.declared.ids.ChunkId.{ChunkId}
use Rattle.mc_pages.specs.declared.ids.Moving.{Moving}
use Rattle.mc_pages.specs.declared.ledger.Owner.TheVariants as owner
use Rattle.mc_pages.specs.Accounted.{IsMove, cut_count, is_cut, is_of_class}
use Rattle.mc_pages.specs.Ledger.{owner_at}
use Rattle.mc_pages.specs.Pages.{is_on_the_move}
use Rattle.mc_pages.specs.declared.moves.Found.{Found}
use Rattle.mc_pages.specs.declared.moves.Found.TheVariants.{Cleared, Rescued, Evicted, Busy, Locked, Already}
use Rattle.mc_pages.specs.Moves.{chunk_at_position, moved_on}
use Rattle.mc_pages.specs.SlabState.{SlabState, HasClass, class_at, class_of_owner, class_of_page}
use Rattle.mc_core.specs.past.Past.{Moment}
use Rattle.mc_core.specs.model.State.{has_chunk, is_class}
use Rattle.mc_core.proofs.Places.FreeChunks.{near_in}
use Rattle.mc_core.proofs.Steps.Listed.{per_page_is, source_of_move}
use Rattle.mc_words.specs.hand.View.{Setup, View}
use Rattle.mc_words.specs.rule.Happens.{LawfulView}
use Rattle.mc_words.proofs.Pages.MoveChanges.{of_table_here}
use Rattle.mc_words.proofs.Pages.Owners.{slabs_here}
use Rattle.mc_mover.specs.declared.counts.Counts.{Counts}
use Rattle.mc_mover.specs.declared.counts.Turn.{Turn}
use Rattle.mc_mover.specs.declared.counts.Turn.TheVariants.{Idle, Went, Finished}
use Rattle.mc_mover.specs.declared.sweep.Sweep.{Sweep}
use Rattle.mc_mover.specs.declared.sweep.Sweep.TheVariants.{Due}
use Rattle.mc_mover.specs.Answering.{RunsStill}
use Rattle.mc_mover.specs.Visiting.{LacksCallToSave}
use Rattle.mc_mover.specs.Turning.{AreBelow, EndsTurn, TurnLacksMemory, LooksFrom, Section, Sections, Turns, counts_with_found, counts_with_all, no_counts}

-- the chunk at a move's position is one of the arena
pub position_near : (view : View) → LawfulView view → (slabs : SlabState) → view.slabs ≡ Some slabs → (move : Moving) → slabs.moving ≡ Some move → move.at < (class_at slabs move.src).per_page
    → has_chunk view.setup.table (chunk_at_position move) ≡ true
position_near view was slabs mine move runs within =
    let m : Moment = was.moment in
    let same : m.state.slabs ≡ slabs = (slabs_here view was slabs mine).1 in
    let is : IsMove m.state.slabs move = was.lawful.paged.of_table.accounted.move move (ap (λ (s : SlabState). s.moving) same ∙ runs) in
    let own : class_of_page m.state.slabs move.page ≡ move.src = ap class_of_owner is.owner in
    let class : HasClass m.state.slabs (class_of_page m.state.slabs move.page) = subst (λ n. HasClass m.state.slabs n) (sym own) is.src in
    let chunks : (class_at m.state.slabs (class_of_page m.state.slabs move.page)).per_page ≡ (class_at slabs move.src).per_page =
    ap (λ (n : ℕ). (class_at m.state.slabs n).per_page) own ∙ ap (λ (s : SlabState). (class_at s move.src).per_page) same in
    ap (λ table. has_chunk table (chunk_at_position move)) (sym was.same_table) ∙ near_in m was.lawful (chunk_at_position move) class (omega arith)

-- of the move that runs, in what the hand has
module _ (view : View) (was : LawfulView view) (slabs : SlabState) (mine : view.slabs ≡ Some slabs) (move : Moving) (runs : slabs.moving ≡ Some move) where
  -- its class has as many chunks a page as the table says
  pub chunks_of : (class_at slabs move.src).per_page ≡ per_page_of view.setup.table move.src
  chunks_of =
      let of = of_table_here view was slabs mine in
      per_page_is view.setup.table slabs move.src of (of.accounted.move move runs).src

  -- these are few
  pub few_chunks : (class_at slabs move.src).per_page ≤ 256
  few_chunks =
      let of = of_table_here view was slabs mine in
      let sound = subst IsSound was.same_table was.lawful.sized.sound in
      let chunks = (sound.chunks move.src (source_of_move view.setup.table slabs move of runs)).1 in
      let same = chunks_of in
      omega arith

  -- and it isn't past the page's end
  pub position_within : move.at ≤ (class_at slabs move.src).per_page
  position_within = ((of_table_here view was slabs mine).accounted.move move runs).within

  -- its source is a class of the table
  pub source_is : is_class view.setup.table move.src ≡ true
  source_is =
      let (some, most) = source_of_move view.setup.table slabs move (of_table_here view was slabs mine) runs in
      and_from (nat_le 1 move.src) (nat_le move.src (length view.setup.table.sizes)) (le-leb 1 move.src some) (le-leb move.src (length view.setup.table.sizes) most)

  owner_is : owner_at slabs.owners move.page ≡ owner.Moving move.src move.dst
  owner_is = ((of_table_here view was slabs mine).accounted.move move runs).owner

  -- which the page is still of
  pub page_is : class_of_page slabs move.page ≡ move.src
  page_is = ap class_of_owner owner_is

  pub page_moves : is_on_the_move slabs move.page ≡ true
  page_moves = ap (λ (m : Option Moving). option_map_or (λ (m : Moving). m.page == move.page) m false) runs ∙ eq-eqb move.page move.page refl

  -- where no page is left to be cut, the chunk at the position is cut
  pub position_cut : slabs.uncut ≡ None → move.at < (class_at slabs move.src).per_page → is_cut slabs move.src (chunk_at_position move) ≡ true
  position_cut whole within =
      let chunks : ℕ = (class_at slabs move.src).per_page in
      and_from (is_of_class move.src (owner_at slabs.owners move.page)) (nat_lt move.at (cut_count slabs.uncut move.page chunks))
      (ap (is_of_class move.src) owner_is ∙ eq-eqb move.src move.src refl)
      (ap (λ (next : Option ChunkId). nat_lt move.at (cut_count next move.page chunks)) whole ∙ lt-ltb move.at chunks within)

-- sections, and then others
sections_on : (number : ℕ) (sweep : Sweep) (found : List Found) (then : Sweep) (more : List Found) (last : Sweep) (view : View) (slabs : SlabState) (between : View) (kept : SlabState) (now : View) (left : SlabState)
    → Sections number sweep found then view slabs between kept → Sections number then more last between kept now left → Sections number sweep (found ++ more) last view slabs now left
sections_on number sweep [] then more last view slabs between kept now left (same, same_slabs, same_sweep) rest =
    subst (λ (p : View × SlabState × Sweep). Sections number p.2 more last p.0 p.1 now left) (λ k. (same k, same_slabs k, same_sweep k)) rest
sections_on number sweep (first ∷ found) then more last view slabs between kept now left (next, mid, after, begins, others) rest =
    (next, mid, after, begins, sections_on number after found then more last next mid between kept now left others rest)

-- one more section
sections_more : (number : ℕ) (sweep : Sweep) (found : List Found) (then : Sweep) (one : Found) (last : Sweep) (view : View) (slabs : SlabState) (between : View) (kept : SlabState) (now : View) (left : SlabState)
    → Sections number sweep found then view slabs between kept → Section number then one last between kept now left → Sections number sweep (found ++ one ∷ []) last view slabs now left
sections_more number sweep found then one last view slabs between kept now left sections section =
    sections_on number sweep found then (one ∷ []) last view slabs between kept now left sections (now, left, last, section, (refl, refl, refl))

counts_more : (found : List Found) (last : Found) (counts : Counts) → counts_with_all (found ++ last ∷ []) counts ≡ counts_with_found last (counts_with_all found counts)
counts_more [] last counts = refl
counts_more (first ∷ found) last counts = counts_more found last (counts_with_found first counts)

small_more : (rounds : ℕ) (found : Found) (counts : Counts) → AreBelow (rounds + 1) counts → AreBelow (rounds + 1 + 1) (counts_with_found found counts)
small_more rounds Cleared counts (a, b, c, d, e) = (omega (arith, a), omega (arith, b), omega (arith, c), omega (arith, d), omega (arith, e))
small_more rounds Rescued counts (a, b, c, d, e) = (omega (arith, a), omega (arith, b), omega (arith, c), omega (arith, d), omega (arith, e))
small_more rounds Evicted counts (a, b, c, d, e) = (omega (arith, a), omega (arith, b), omega (arith, c), omega (arith, d), omega (arith, e))
small_more rounds Busy counts (a, b, c, d, e) = (omega (arith, a), omega (arith, b), omega (arith, c), omega (arith, d), omega (arith, e))
small_more rounds Locked counts (a, b, c, d, e) = (omega (arith, a), omega (arith, b), omega (arith, c), omega (arith, d), omega (arith, e))
small_more rounds Already counts (a, b, c, d, e) = (omega (arith, a), omega (arith, b), omega (arith, c), omega (arith, d), omega (arith, e))

-- a move that runs is some
pub some_move : (moving : Option Moving) → is_some moving ≡ true → (move : Moving) × (moving ≡ Some move)
some_move None runs = absurd (cc)
some_move (Some move) runs = (move, refl)

-- so many sections were gone through, from where the move was to where it is, and the turn's sweep is due or done then
pub record GoneThrough (number rounds : ℕ) (counts : Counts) (sweep : Sweep) (view : View) (slabs : SlabState) (now : View) (left : SlabState) : Type 0 where
  pub found : List Found
  pub count : length found ≡ rounds
  pub counts_are : counts ≡ counts_with_all found no_counts
  pub small : AreBelow (rounds + 1) counts
  pub sections : Sections number Due found sweep view slabs now left
  pub move : Moving
  pub runs : slabs.moving ≡ Some move
  pub next : Moving
  pub runs_on : left.moving ≡ Some next
  pub page : next.page ≡ move.page
  pub src : next.src ≡ move.src
  pub dst : next.dst ≡ move.dst
  pub at : next.at ≡ move.at + rounds

-- at first
pub gone_none : (number : ℕ) (view : View) (slabs : SlabState) (move : Moving) → slabs.moving ≡ Some move → (counts : Counts) → counts ≡ no_counts → GoneThrough number 0 counts Due view slabs view slabs
gone_none number view slabs move runs counts none = record {
  found = [];
  count = refl;
  counts_are = none;
  small = subst (AreBelow 1) (sym none) (omega arith, omega arith, omega arith, omega arith, omega arith);
  sections = (refl, refl, refl);
  move = move;
  runs = runs;
  next = move;
  runs_on = runs;
  page = refl;
  src = refl;
  dst = refl;
  at = omega arith;
}

-- the move runs still
pub gone_runs : (number rounds : ℕ) (counts : Counts) (sweep : Sweep) (view : View) (slabs : SlabState) (now : View) (left : SlabState) → GoneThrough number rounds counts sweep view slabs now left → RunsStill slabs.moving left.moving
gone_runs number rounds counts sweep view slabs now left gone = (gone.move, gone.next, gone.runs, gone.runs_on, (gone.page, gone.src, gone.dst))

-- and after one more
pub gone_more : (number rounds : ℕ) (counts more : Counts) (sweep : Sweep) (found : Found) (then : Sweep) (next : Moving) (view : View) (slabs : SlabState) (between : View) (kept : SlabState) (now : View) (left : SlabState)
    → GoneThrough number rounds counts sweep view slabs between kept → kept.moving ≡ Some next → Section number sweep found then between kept now left → left.moving ≡ Some (moved_on next found) → more ≡ counts_with_found found counts
    → GoneThrough number (rounds + 1) more then view slabs now left
gone_more number rounds counts more sweep found then next view slabs between kept now left gone here section moves is =
    let same : gone.next ≡ next = same_Some gone.next next (sym gone.runs_on ∙ here) in record {
      found = gone.found ++ found ∷ [];
      count = length-append gone.found (found ∷ []) ∙ ap (λ n. n + 1) gone.count;
      counts_are = is ∙ (ap (counts_with_found found) gone.counts_are ∙ sym (counts_more gone.found found no_counts));
      small = subst (AreBelow (rounds + 1 + 1)) (sym is) (small_more rounds found counts gone.small);
      sections = sections_more number Due gone.found sweep found then view slabs between kept now left gone.sections section;
      move = gone.move;
      runs = gone.runs;
      next = moved_on next found;
      runs_on = moves;
      page = ap (λ (m : Moving). m.page) (sym same) ∙ gone.page;
      src = ap (λ (m : Moving). m.src) (sym same) ∙ gone.src;
      dst = ap (λ (m : Moving). m.dst) (sym same) ∙ gone.dst;
      at = let before = gone.at in let at = ap (λ (m : Moving). m.at) same in omega arith;
    }

-- and then there was no memory for the next chunk's item
pub lacks_next : (number rounds : ℕ) (counts : Counts) (sweep : Sweep) (move : Moving) (view : View) (slabs : SlabState) (between : View) (kept : SlabState) (now : View) (left : SlabState)
    → GoneThrough number rounds counts sweep view slabs between kept → rounds < view.setup.config.bulk → kept.moving ≡ Some move → move.at < (class_at kept move.src).per_page
    → LacksCallToSave (chunk_at_position move) between kept now left → TurnLacksMemory number view slabs now left
lacks_next number rounds counts sweep move view slabs between kept now left gone within_limit here within lacks =
    let same : move ≡ gone.next = same_Some move gone.next (sym here ∙ gone.runs_on) in
    let count : length gone.found ≡ rounds = gone.count in record {
      first = gone.move;
      began = gone.runs;
      found = gone.found;
      within_limit = omega arith;
      looked = between;
      kept = kept;
      last = sweep;
      sections = gone.sections;
      move = move;
      runs = here;
      further = (
        ap (λ (m : Moving). m.page) same ∙ gone.page,
        ap (λ (m : Moving). m.src) same ∙ gone.src,
        ap (λ (m : Moving). m.at) same ∙ (gone.at ∙ ap (λ n. gone.move.at + n) (sym count)),
      );
      within = within;
      lacks = lacks;
    }

-- after as many as a turn has
pub looks_through : (number rounds : ℕ) (counts : Counts) (sweep : Sweep) (view : View) (slabs : SlabState) (now : View) (left : SlabState) (gone : GoneThrough number rounds counts sweep view slabs now left)
    → rounds ≡ min view.setup.config.bulk ((class_at slabs gone.move.src).per_page - gone.move.at) → LooksFrom number counts view slabs now left
looks_through number rounds counts sweep view slabs now left gone all = record {
  move = gone.move;
  runs = gone.runs;
  found = gone.found;
  count = gone.count ∙ all;
  counts_are = gone.counts_are;
  last = sweep;
  sections = gone.sections;
}

-- with two views of one arena: how many chunks a page has stays, and the counts stay small
module _ (setup : Setup) (view : View) (was : LawfulView view) (first : view.setup ≡ setup) (slabs : SlabState) (mine : view.slabs ≡ Some slabs)
    (now : View) (is : LawfulView now) (second : now.setup ≡ setup) (left : SlabState) (mine_now : now.slabs ≡ Some left)
    (number rounds : ℕ) (counts : Counts) (sweep : Sweep) (gone : GoneThrough number rounds counts sweep view slabs now left) where
  same_chunks : (class_at left gone.next.src).per_page ≡ (class_at slabs gone.move.src).per_page
  same_chunks =
      chunks_of now is left mine_now gone.next gone.runs_on
      ∙ (ap (λ (n : ℕ). per_page_of now.setup.table n) gone.src ∙ (ap (λ (s : Setup). per_page_of s.table gone.move.src) (second ∙ sym first) ∙ sym (chunks_of view was slabs mine gone.move gone.runs)))

  -- the rounds are at most what was left of the page
  rounds_within : gone.move.at + rounds ≤ (class_at slabs gone.move.src).per_page
  rounds_within =
      let at = gone.at in
      let within = position_within now is left mine_now gone.next gone.runs_on in
      let same = same_chunks in
      omega arith

  pub counts_small : AreBelow (2 ^ 32) counts
  counts_small =
      let within_limit = few_chunks view was slabs mine gone.move gone.runs in
      let within = rounds_within in
      let small = gone.small in
      (omega (arith, small.0), omega (arith, small.1), omega (arith, small.2), omega (arith, small.3), omega (arith, small.4))

  -- the turn had its bulk
  pub all_of_bulk : view.setup.config.bulk ≤ rounds → rounds ≤ view.setup.config.bulk → LooksFrom number counts view slabs now left
  all_of_bulk low high =
      let within = rounds_within in
      looks_through number rounds counts sweep view slabs now left gone (omega (arith))

  -- or it came to the page's end
  pub all_of_page : rounds ≤ view.setup.config.bulk → (next : Moving) → left.moving ≡ Some next → (class_at left next.src).per_page ≤ next.at → LooksFrom number counts view slabs now left
  all_of_page high next here past =
      let one : gone.next ≡ next = same_Some gone.next next (sym gone.runs_on ∙ here) in
      let end = ap (λ (m : Moving). (class_at left m.src).per_page) one in
      let place = ap (λ (m : Moving). m.at) one in
      let at = gone.at in
      let same = same_chunks in
      let within = rounds_within in
      looks_through number rounds counts sweep view slabs now left gone (omega (arith))

-- the sections of a turn, and then its end
pub turns_so : (number : ℕ) (counts : Counts) (turn : Turn) (view : View) (slabs : SlabState) (looked : View) (kept : SlabState) (now : View) (left : SlabState)
    → LooksFrom number counts view slabs looked kept → EndsTurn number counts turn looked kept now left → Turns number turn view slabs now left
turns_so number counts Idle view slabs looked kept now left looks ends = absurd ends
turns_so number counts (Went same) view slabs looked kept now left looks (is, goes_on) =
    record { looked = looked; kept = kept; looks = subst (λ (n : Counts). LooksFrom number n view slabs looked kept) (sym is) looks; ends = goes_on }
turns_so number counts (Finished same) view slabs looked kept now left looks (is, finishes) =
    record { looked = looked; kept = kept; looks = subst (λ (n : Counts). LooksFrom number n view slabs looked kept) (sym is) looks; ends = finishes }
