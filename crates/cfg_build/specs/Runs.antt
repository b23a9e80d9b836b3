-- Which executables stand after pieces.
use Rattle.std.specs.Prelude.{◌≡◌, ℕ, Bool, true, false, List, Some, slice_get}
use Rattle.f77_tree.specs.declared.programs.Exec.{Exec}
use Rattle.f77_tree.specs.declared.programs.ExecKind.{ExecKind}
use Rattle.f77_tree.specs.declared.programs.ExecKind.TheVariants as exec
use Rattle.cfg_build.specs.Joined.{FlowGraph}
use Rattle.cfg_build.specs.Flow.{piece_at}

-- an act runs an assignment, an output, or the beginning or the increment of a DO
abbrev pub is_act : ExecKind → Bool
is_act (exec.Assign target value next) = true
is_act (exec.Print items next) = true
is_act (exec.DoStart loop_no var first last step body exit) = true
is_act (exec.DoNext loop_no var body exit) = true
is_act _ = false

-- a branch goes on by a condition, a sign, a number, or the count of a DO that began
abbrev pub is_branch : ExecKind → Bool
is_branch (exec.Test cond if_true if_false) = true
is_branch (exec.Sign value neg zero pos) = true
is_branch (exec.Pick value targets other) = true
is_branch (exec.DoStart loop_no var first last step body exit) = true
is_branch _ = false

-- the executable that a piece is a part of is one of these
pub record IsPartOf (f : FlowGraph) (execs : List Exec) (node : ℕ) (fits : ExecKind → Bool) : Type 0 where
  pub exec : Exec
  pub found : slice_get execs (piece_at f.pieces node).exec ≡ Some exec
  pub fitting : fits exec.kind ≡ true
