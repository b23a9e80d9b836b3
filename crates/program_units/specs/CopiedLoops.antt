-- DO loops of copies, by the labels of the statements at which their ranges end.
use Rattle.std.specs.Prelude.{◌≡◌, ℕ, ◌+◌, ◌<◌, ◌≤◌, suc, Bool, true, if◌then◌else◌, List, [], ◌∷◌, ◌++◌, Some, slice_get}
use Rattle.f77_tree.specs.declared.statements.Labelled.{Labelled}
use Rattle.layout_rules.specs.Executables.{is_do_to}
use Rattle.layout_rules.specs.Labels.{statement_of}
use Rattle.program_units.specs.Units.{call_in, unit_at}
use Rattle.program_units.specs.Widths.{is_kept, body_labels}
use Rattle.program_units.specs.Copies.{Context, end_by, number_at}
use Rattle.program_units.specs.ListedCopies.{piece_at}

abbrev pub loop_if : (is : Bool) → (place : ℕ) → List ℕ → List ℕ
loop_if is place rest = if is then place ∷ rest else rest

-- of statements that stand at this place and after it, the places of the DOs to the label
abbrev pub loops_from : (label : ℕ) → List Labelled → (place : ℕ) → List ℕ
loops_from label [] place = []
loops_from label (s ∷ rest) place = loop_if (is_do_to label s.stmt) place (loops_from label rest (place + 1))

-- the same of what stands for statements of a context's unit
abbrev pub loops_of_pieces : List (List Labelled) → Context → (at : ℕ → ℕ) → (label : ℕ) → List Labelled → (place : ℕ) → List ℕ
loops_of_pieces us c at label [] place = []
loops_of_pieces us c at label (s ∷ rest) place = loops_from label (piece_at us c place s) (at place) ++ loops_of_pieces us c at label rest (place + 1)

-- the last of the labels of what stands for a statement
abbrev pub last_number : List (List Labelled) → Context → (place : ℕ) → Labelled → ℕ
last_number us c place s = end_by us c.depth (call_in s.stmt) (number_at us c.depth c.unit c.base place)

-- the statement that ends a range is the first one with the label, and stands in copies
pub record IsEndOf (us : List (List Labelled)) (k label : ℕ) (last : Labelled) : Type 0 where
  pub stands : slice_get (unit_at us k) (statement_of (unit_at us k) label) ≡ Some last
  pub bears : last.label ≡ label
  pub some : 0 < label
  pub kept : is_kept k last.stmt ≡ true

pub record HasEndOf (us : List (List Labelled)) (k label : ℕ) : Type 0 where
  pub last : Labelled
  pub is : IsEndOf us k label last

-- each DO of a unit has its end there
abbrev pub HaveEnds : List (List Labelled) → Type 0
HaveEnds us = (k place label : ℕ) (s : Labelled) → slice_get (unit_at us k) place ≡ Some s → is_do_to label s.stmt ≡ true → HasEndOf us k label

-- of all statements of the list only those of the context are DOs to its labels
abbrev pub HasItsLoops : List (List Labelled) → List Labelled → Context → (at : ℕ → ℕ) → Type 0
HasItsLoops us list c at = (label : ℕ) → c.base < label → label ≤ c.base + body_labels us (suc c.depth) c.unit → loops_from label list 0 ≡ loops_of_pieces us c at label (unit_at us c.unit) 0
