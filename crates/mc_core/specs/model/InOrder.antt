-- A state in memory, and what it keeps.
use Rattle.std.specs.Prelude.{◌≡◌, ℕ, ◌/◌, ◌^◌, ◌<◌, ◌≤◌, List, length, map, slice_index_or}
use Rattle.mc_classes.specs.Classes.{Classes, IsSound, arena_pages_of}
use Rattle.mc_pages.specs.SlabState.{SlabState}
use Rattle.mc_pages.specs.Accounted.{IsAccounted}
use Rattle.mc_core.specs.declared.head.Head.{Head}
use Rattle.mc_core.specs.declared.state.State.TheInside.{Inside}
use Rattle.mc_core.specs.model.Head.{never_cut}
use Rattle.mc_core.specs.model.State.{State}

-- the state as its callers see it
abbrev pub callers_state : Inside → State
callers_state state = record {
  table = state.table;
  heads = state.heads.items;
  words = state.words.items;
  slabs_lock = state.slabs_lock;
  stripe_locks = state.stripe_locks.items;
  slabs = state.slabs.state;
  stripes = state.stripes.items;
  ids = state.ids.items;
  holdings = state.holdings.items;
  looks = state.looks.items;
}

-- pages and lists have the page size, the limit and the classes of the table, and are accounted for
pub record IsOfTable (table : Classes) (slabs : SlabState) : Type 0 where
  pub page : slabs.page ≡ table.page
  pub limit : slabs.limit ≡ table.limit
  pub per_page : map (λ class. class.per_page) slabs.classes ≡ map (λ size. table.page / size) table.sizes
  pub owners : length slabs.owners ≡ arena_pages_of table
  pub accounted : IsAccounted slabs

-- each issue number fits its bits
abbrev pub AreIssued : List Head → Type 0
AreIssued heads = (place : ℕ) → (slice_index_or heads place never_cut).issue < 2 ^ 46

-- the table is sound, pages and lists are its own, issue numbers fit, and no lock and no row of a hand is missing
pub record IsStateInOrder (state : State) : Type 0 where
  pub sound : IsSound state.table
  pub slabs : IsOfTable state.table state.slabs
  pub issued : AreIssued state.heads
  pub stripes : 1 ≤ length state.stripes
  pub locks : length state.stripe_locks ≡ length state.stripes
  pub holdings : length state.holdings ≡ length state.ids
  pub looks : length state.looks ≡ length state.ids
