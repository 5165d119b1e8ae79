-- What a map shows, and what is noted at each command.
use Rattle.std.specs.Prelude.{◌≡◌, ℕ, ◌+◌, Bool, ◌||◌, nat_lt, if◌then◌else◌, List, [], ◌∷◌, length, All, filter, map, unwrap_or, Option}
use Rattle.std.specs.Prelude.{map as list_map}
use Rattle.std.specs.List.{range_with_len}
use Rattle.mc_classes.specs.Classes.{Classes, class_of}
use Rattle.mc_pages.specs.declared.numbers.Numbers.{Numbers}
use Rattle.mc_pages.specs.ClassState.{numbers_of}
use Rattle.mc_pages.specs.SlabState.{SlabState, class_at, totals_of}
use Rattle.mc_script.specs.declared.command.Command.{Command}
use Rattle.mc_script.specs.declared.command.Command.TheVariants as command
use Rattle.mc_serial_spec.specs.Item.{item_bytes}
use Rattle.mc_serial_spec.specs.Machine.{Machine}
use Rattle.mc_map.specs.declared.kept.ClassLine.{ClassLine}
use Rattle.mc_map.specs.declared.map.Map.{Map}
use Rattle.mc_map.specs.Agree.{AgreesOnPages}
use Rattle.mc_map.specs.Books.{Book, glance_of, book_after}
use Rattle.mc_map.specs.Kept.{IsLine}

-- the class of an item of n words, or 0 where it is too large
abbrev pub given_class : Classes → ℕ → ℕ
given_class table words = unwrap_or (class_of table (item_bytes words)) 0

-- the books after a command that led from one machine to another
abbrev pub books_after : Book → Machine → Command → Machine → Book
books_after book m (command.Set worker key words base) after = book_after book (given_class m.table words) (glance_of m.slabs) (glance_of after.slabs)
books_after book m (command.Reassign src dst) after = book_after book 0 (glance_of m.slabs) (glance_of after.slabs)
books_after book m command.Window after = book_after book 0 (glance_of m.slabs) (glance_of after.slabs)
books_after book m (command.Turn turns) after = book_after book 0 (glance_of m.slabs) (glance_of after.slabs)
books_after book m (command.Get worker key) after = book
books_after book m (command.Hold worker key) after = book
books_after book m (command.Drop worker key) after = book
books_after book m (command.Delete worker key) after = book
books_after book m (command.Touch worker key) after = book
books_after book m (command.Automove mode) after = book
books_after book m command.Stats after = book
books_after book m command.StatsSlabs after = book

-- a class with these numbers is shown: it has pages, or an item was evicted
abbrev pub is_class_shown : Numbers → Bool
is_class_shown numbers = nat_lt 0 numbers.pages || nat_lt 0 numbers.evictions

-- the classes that are shown, of the first n
abbrev pub shown_classes : SlabState → ℕ → List ℕ
shown_classes slabs count = filter (λ class. is_class_shown (numbers_of (class_at slabs class))) (map (λ place. place + 1) (range_with_len 0 count))

-- the line, if its class is shown
abbrev pub shown_line : ClassLine → List ClassLine
shown_line line = if nat_lt 0 line.pages || nat_lt 0 line.evictions then line ∷ [] else []

-- the map shows the machine and the books, which agree, and a line for each class that has pages or evictions
pub record IsMap (m : Machine) (book : Book) (keys : List ℕ) (map : Map) : Type 0 where
  pub page : map.page ≡ m.table.page
  pub within : map.within ≡ book.within
  pub owners : map.owners.items ≡ book.owners
  pub agrees : AgreesOnPages m.slabs book.owners
  pub pool : map.pool.items ≡ book.pool
  pub moving : map.moving ≡ m.slabs.moving
  pub totals : map.totals ≡ totals_of m.slabs
  pub ledger : map.ledger.items ≡ book.ledger
  pub classes : All (IsLine m keys) map.classes.items
  pub told : list_map (λ line. line.class) map.classes.items ≡ shown_classes m.slabs (length m.table.sizes)
