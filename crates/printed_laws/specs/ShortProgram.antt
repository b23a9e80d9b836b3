-- Programs whose numbers have 32 bits.
use Rattle.std.specs.Prelude.{◌<◌, ◌^◌, List, All, length}
use Rattle.f77_tree.specs.declared.programs.Exec.{Exec}
use Rattle.f77_tree.specs.declared.programs.Program.{Program}

-- the line of each of these executables
abbrev pub HaveShortLines : List Exec → Type 0
HaveShortLines execs = All (λ (exec : Exec). exec.line < 2 ^ 32) execs

-- the count of its names, and the lines of its executables
pub record IsShortProgram (p : Program) : Type 0 where
  pub names : length p.names < 2 ^ 32
  pub lines : HaveShortLines p.execs
