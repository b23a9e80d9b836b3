-- How many bytes a line may have.
use Rattle.std.specs.Prelude.{ℕ, max, List, [], ◌∷◌, ◌++◌, Result, Ok, Err}
use Rattle.op_table.specs.declared.Trap.{Trap}
use Rattle.f77_tree.specs.declared.programs.Exec.{Exec}
use Rattle.f77_tree.specs.declared.programs.ExecKind.{ExecKind}
use Rattle.f77_tree.specs.declared.programs.ExecKind.TheVariants.{Print}
use Rattle.f77_tree.specs.Line.{line_room}

-- what an executable may write
abbrev pub kind_room : ExecKind → ℕ
kind_room (Print items next) = line_room items
kind_room _ = 0

-- the most that one of the executables may write
abbrev pub most_room : List Exec → ℕ
most_room [] = 0
most_room (exec ∷ execs) = max (kind_room exec.kind) (most_room execs)

-- what a line is after an item, or the item's trap
abbrev pub item_pushed : List ℕ → Result (List ℕ) Trap → Result (List ℕ) Trap
item_pushed line (Err trap) = Err trap
item_pushed line (Ok text) = Ok (line ++ 32 ∷ text)

-- the rest of a line after its prefix
abbrev pub line_after : List ℕ → Result (List ℕ) Trap → Result (List ℕ) Trap
line_after prefix (Err trap) = Err trap
line_after prefix (Ok rest) = Ok (prefix ++ rest)

-- a line, unless a trap was told
abbrev pub told : {A : Type 0} → Result A Trap → List ℕ → Result (List ℕ) Trap
told (Err trap) line = Err trap
told (Ok x) line = Ok line
