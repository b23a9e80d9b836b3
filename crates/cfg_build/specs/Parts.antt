-- The parts of a program: what its executables do, in pieces, and where control goes from each.
use Rattle.std.specs.Prelude.{ℕ, ◌-◌, if◌then◌else◌, List, [], ◌∷◌, ◌++◌, length, map, flat_map, Option, Some, None, slice_get}
use Rattle.std.specs.List.{range_with_len}
use Rattle.f77_tree.specs.declared.programs.Exec.{Exec}
use Rattle.f77_tree.specs.declared.programs.ExecKind.{ExecKind}
use Rattle.f77_tree.specs.declared.programs.ExecKind.TheVariants as exec
use Rattle.f77_tree.specs.Control.{successors}
use Rattle.f77_tree.specs.Loops.{do_start}
use Rattle.cfg_build.specs.declared.parts.Part.{Part}
use Rattle.cfg_build.specs.declared.parts.Target.{Target}
use Rattle.cfg_build.specs.declared.parts.Target.TheVariants.{Start, First, Test}
use Rattle.cfg_build.specs.declared.pieces.PieceKind.{PieceKind}
use Rattle.cfg_build.specs.declared.pieces.PieceKind.TheVariants as piece
use Rattle.cfg_build.specs.Control.{is_reached}

-- a part of the executable k, which stands at this line
abbrev pub part : (own : Target) → PieceKind → (line k : ℕ) → (outs : List Target) → Part
part own kind line k outs = record { own = own; piece = record { kind = kind; line = line; exec = k }; outs = outs }

-- where control goes from the last part of an executable
abbrev pub ways_on : ExecKind → List Target
ways_on kind = map First (successors kind)

-- what the first part of an executable is
abbrev pub first_kind : ExecKind → PieceKind
first_kind (exec.Assign target value next) = piece.Act
first_kind (exec.Print items next) = piece.Act
first_kind (exec.Pass next) = piece.Pass
first_kind (exec.Test cond if_true if_false) = piece.Branch
first_kind (exec.Sign value neg zero pos) = piece.Branch
first_kind (exec.Pick value targets other) = piece.Branch
first_kind (exec.DoStart loop_no var first last step body exit) = piece.Act
first_kind (exec.DoNext loop_no var body exit) = piece.Act
first_kind exec.End = piece.End

-- The beginning of a DO goes on to the test, and so does its increment; the test goes to the body or the exit. Any other
-- executable is one part. END is a part of its own, after all others.
abbrev pub parts_of : List Exec → (k line : ℕ) → ExecKind → List Part
parts_of execs k line (exec.Assign target value next) = part (First k) piece.Act line k (First next ∷ []) ∷ []
parts_of execs k line (exec.Print items next) = part (First k) piece.Act line k (First next ∷ []) ∷ []
parts_of execs k line (exec.Pass next) = part (First k) piece.Pass line k (First next ∷ []) ∷ []
parts_of execs k line (exec.Test cond if_true if_false) = part (First k) piece.Branch line k (First if_true ∷ First if_false ∷ []) ∷ []
parts_of execs k line (exec.Sign value neg zero pos) = part (First k) piece.Branch line k (First neg ∷ First zero ∷ First pos ∷ []) ∷ []
parts_of execs k line (exec.Pick value targets other) = part (First k) piece.Branch line k (map First (targets ++ other ∷ [])) ∷ []
parts_of execs k line (exec.DoStart loop_no var first last step body exit) = part (First k) piece.Act line k (Test k ∷ []) ∷ part (Test k) piece.Branch line k (First body ∷ First exit ∷ []) ∷ []
parts_of execs k line (exec.DoNext loop_no var body exit) = part (First k) piece.Act line k (Test (do_start execs loop_no) ∷ []) ∷ []
parts_of execs k line exec.End = []

abbrev pub parts_in : List Exec → ℕ → Option Exec → List Part
parts_in execs k None = []
parts_in execs k (Some exec) = parts_of execs k exec.line exec.kind

-- the parts of an executable that control can come to
abbrev pub reached_parts : List Exec → ℕ → List Part
reached_parts execs k = if is_reached execs k then parts_in execs k (slice_get execs k) else []

abbrev pub line_in : Option Exec → ℕ
line_in None = 0
line_in (Some exec) = exec.line

-- the start, which leads to the first executable
abbrev pub start_part : Part
start_part = part Start piece.Start 0 0 (First 0 ∷ [])

-- the last executable, which is END
abbrev pub last_of : List Exec → ℕ
last_of execs = length execs - 1

abbrev pub end_part : List Exec → Part
end_part execs = part (First (last_of execs)) piece.End (line_in (slice_get execs (last_of execs))) (last_of execs) []

-- the parts in the order of the text, between the start and the end
abbrev pub parts : List Exec → List Part
parts execs = start_part ∷ flat_map (reached_parts execs) (range_with_len 0 (length execs)) ++ end_part execs ∷ []
