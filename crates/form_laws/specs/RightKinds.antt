-- Statements and executables whose expressions are of the right kinds.
use Rattle.std.specs.Prelude.{◌≡◌, List, None, All}
use Rattle.f77_tree.specs.WellFormed.{IsExecutable}
use Rattle.f77_tree.specs.declared.programs.Program.{Program}
use Rattle.f77_tree.specs.declared.statements.Labelled.{Labelled}
use Rattle.layout_rules.specs.Faults.{first_line}
use Rattle.layout_rules.specs.Layout.{names_of}
use Rattle.layout_rules.specs.TypeFaults.{has_wrong_type}

-- no statement has a wrong kind
abbrev pub HasNoWrongKind : List Labelled → Type 0
HasNoWrongKind stmts = first_line (has_wrong_type (names_of stmts)) stmts ≡ None

-- each executable of the program is one by itself
abbrev pub AreExecutables : Program → Type 0
AreExecutables p = All (λ exec. IsExecutable p.names exec.kind) p.execs
