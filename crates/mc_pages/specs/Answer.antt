-- Whether a page may begin to move, and which class gives it.
use Rattle.std.specs.Prelude.{◌≡◌, ℕ, ◌+◌, ◌-◌, ◌==◌, Bool, false, not, ◌&&◌, ◌||◌, ◌⊎◌, nat_lt, if◌then◌else◌, List, ◌++◌, length, find, Option, Some, None, Result, Ok, Err}
use Rattle.std.specs.List.{range_with_len}
use Rattle.mc_pages.specs.declared.ids.Moving.{Moving}
use Rattle.mc_pages.specs.declared.moves.Reassign.{Reassign}
use Rattle.mc_pages.specs.declared.moves.Reassign.TheVariants.{Busy, Same, BadClass, NoSpare, NoMemory}
use Rattle.mc_pages.specs.SlabState.{SlabState, class_at}

-- the classes in the order in which a source is looked for: those behind the cursor, then from class 1 up to it
abbrev pub classes_in_turn : SlabState → List ℕ
classes_in_turn slabs = range_with_len (slabs.cursor + 1) (length slabs.classes - slabs.cursor) ++ range_with_len 1 slabs.cursor

-- the class can give a page to this destination without being left with none
abbrev pub can_give : SlabState → ℕ → ℕ → Bool
can_give slabs dst class = not (class == dst) && nat_lt 1 (length (class_at slabs class).pages)

-- the class that is picked where no source is named
abbrev pub picked_class : SlabState → ℕ → Option ℕ
picked_class slabs dst = find (can_give slabs dst) (classes_in_turn slabs)

-- source and destination are one
abbrev pub is_same : Option ℕ → ℕ → Bool
is_same None dst = false
is_same (Some src) dst = src == dst

-- the source that is named, or else the one that the search picks
abbrev pub chosen_source : SlabState → Option ℕ → ℕ → Option ℕ
chosen_source slabs None dst = picked_class slabs dst
chosen_source slabs (Some src) dst = Some src

-- the answer to a move from this source, if there is one: the source, or why no page may move
abbrev pub answer_from : SlabState → ℕ → Option ℕ → Result ℕ Reassign
answer_from slabs dst None = Err BadClass
answer_from slabs dst (Some src) =
    if src == 0 || nat_lt (length slabs.classes) src || nat_lt (length slabs.classes) dst then Err BadClass
    else if nat_lt (length (class_at slabs src).pages) 2 then Err NoSpare
    else Ok src

-- the answer where no page moves yet
abbrev pub answer_at_rest : SlabState → Option ℕ → ℕ → Result ℕ Reassign
answer_at_rest slabs src dst = if is_same src dst then Err Same else answer_from slabs dst (chosen_source slabs src dst)

-- whether a page may begin to move, and from which class: while another moves the answer is `Busy`
abbrev pub answer_if : SlabState → Option ℕ → ℕ → Option Moving → Result ℕ Reassign
answer_if slabs src dst (Some move) = Err Busy
answer_if slabs src dst None = answer_at_rest slabs src dst

-- whether a page may begin to move now, and then the class that gives it; none may while another moves
abbrev pub answer_of : SlabState → Option ℕ → ℕ → Result ℕ Reassign
answer_of slabs src dst = answer_if slabs src dst slabs.moving

-- memory may run out only where the answer would be OK
abbrev pub MayAnswer : Result ℕ Reassign → Result (Unit {0}) Reassign → Type 0
MayAnswer (Err refusal) result = result ≡ Err refusal
MayAnswer (Ok source) result = (result ≡ Ok tt) ⊎ (result ≡ Err (NoMemory tt))

-- the cursor stops at a class that was picked, and stays for one that was named
abbrev pub cursor_after : SlabState → Option ℕ → ℕ → ℕ
cursor_after slabs None source = source
cursor_after slabs (Some src) source = slabs.cursor
