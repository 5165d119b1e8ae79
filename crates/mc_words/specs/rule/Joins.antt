-- Two hands that become one.
use Rattle.std.specs.Prelude.{◌≡◌, ℕ, true, List, [], ◌∷◌, ◌++◌, map, Some, None, Contains}
use mathlib.Core.Option.{some}
use lib.ListN.{get_elem?}
use Rattle.mc_core.specs.declared.event.Step.TheVariants.{Join}
use Rattle.mc_core.specs.model.Holdings.{stamp_in_words}
use Rattle.mc_core.specs.past.Past.{KnownItem, Knowledge, StoredItem, moment_after}
use Rattle.mc_core.specs.run.Run.{is_allowed}
use Rattle.mc_core.specs.model.Views.{Row, hand_row}
use Rattle.mc_words.specs.hand.View.{OwnEvent, Setup, View, events_of, joined, view_at, settled_view}
use Rattle.mc_words.specs.rule.Meaning.{WordsOfTable, IsRuled}
use Rattle.mc_words.specs.rule.Happens.{LawfulView, event_of}
use Rattle.mc_words.specs.rule.Told.{Sits, At}

-- a hand took over another one, which had this row and these events: one event of the model, allowed in a lawful moment. The hand knew the
-- one view before it, and the other after it
pub record Joins (view : View) (row : Row) (events : List OwnEvent) (now : View) : Type 0 where
  pub was : LawfulView view
  pub spent : ℕ
  pub row_is : row ≡ hand_row was.moment spent
  pub events_are : events ≡ events_of spent was.run
  pub allowed : is_allowed was.moment.state (event_of was.hand [] (Join was.hand spent)) ≡ true
  pub is : now ≡ view_at view.setup view.spare (view.events ++ joined ∷ []) (moment_after was.moment (event_of was.hand [] (Join was.hand spent))) was.hand

-- what a hand stored and knows agrees: one stamp has one item's words, one chunk with one issue has one item, and a known item's words are
-- those stored with its stamp
pub record KnowledgeAgrees (knows : Knowledge) : Type 0 where
  pub stored : (a b : StoredItem) → Contains knows.stored a → Contains knows.stored b → a.stamp ≡ b.stamp → a.words ≡ b.words
  pub known : (a b : KnownItem) → Contains knows.known a → Contains knows.known b → a.chunk ≡ b.chunk → a.issue ≡ b.issue → a.words ≡ b.words
  pub both : (s : StoredItem) (k : KnownItem) → Contains knows.stored s → Contains knows.known k → s.stamp ≡ stamp_in_words k.words → s.words ≡ k.words

-- a view that was made of two rows was made by a join
abbrev pub IsMade : View → Type 0
IsMade view = (kept spent : Row) (own others : List OwnEvent) → view.made_of ≡ Some (kept, spent, own, others) → Joins (record view { events = own; row = kept; made_of = None }) spent others (settled_view view)

-- the table, where each hand learned what it was made of
abbrev pub all_settled : WordsOfTable → WordsOfTable
all_settled t = record t { views = map settled_view t.views }

-- the rule of the table: it means a lawful moment, and hands that were made of two were made by a join
pub record Rule (setup : Setup) (t : WordsOfTable) : Type 0 where
  pub ruled : IsRuled setup (all_settled t)
  pub made : (hand : ℕ) (view : View) → get_elem? t.views hand ≡ some view → IsMade view

-- the step shows a hand how it was made
pub record ShowsMade (step : At) (me : Sits) (found : ℕ) (now : Sits) : Type 0 where
  pub is : now ≡ (settled_view me.0, me.1)
  pub lawful : LawfulView now.0
  pub made : IsMade me.0
