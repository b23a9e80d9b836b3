-- The DO loops and blocks that are open at a place, the innermost first, each with the place where it begins.
use Rattle.std.specs.Prelude.{◌≡◌, ℕ, ◌+◌, Bool, if◌then◌else◌, List, [], ◌∷◌, slice_index, Option, Some, None}
use Rattle.control_structure.specs.declared.open_stack.Entry.{Entry}
use Rattle.layout_rules.specs.Nesting.{is_loop_to, without_loops, stack_after}
use Rattle.layout_rules.specs.declared.nesting.Opened.{Opened}
use Rattle.layout_rules.specs.declared.nesting.Role.{Role}

abbrev pub kind : Entry → Opened
kind e = e.opened

abbrev pub begun : (place : ℕ) → Opened → Entry
begun place opened = record { begin = place; opened = opened }

-- a loop whose range ends at the label
abbrev pub ends_at : ℕ → Entry → Bool
ends_at label e = is_loop_to label e.opened

-- without the loops on top that end at the label
abbrev pub without_ended : ℕ → List Entry → List Entry
without_ended label stack = without_loops kind label stack

-- what is open after a statement at the place; none where it isn't nested right
abbrev pub entries_after : Role → (place label : ℕ) → List Entry → Option (List Entry)
entries_after role place label stack = stack_after kind (begun place) role label stack

-- where the innermost entry begins
abbrev pub head_of : List Entry → Option ℕ
head_of [] = None
head_of (top ∷ rest) = Some top.begin

-- what the innermost entry is
abbrev pub opened_of : List Entry → Option Opened
opened_of [] = None
opened_of (top ∷ rest) = Some top.opened

-- how many loops end at the label
abbrev pub loops_at : ℕ → List Entry → ℕ
loops_at label [] = 0
loops_at label (e ∷ rest) = (if ends_at label e then 1 else 0) + loops_at label rest

-- the loops that are open are counted by their labels; of a label after the end of the table there are none
abbrev pub AreCounted : (stack : List Entry) → (loops : List ℕ) → Type 0
AreCounted stack loops = (label : ℕ) → slice_index loops label ≡ loops_at label stack
