-- What is told of units is so.
use Rattle.std.specs.Prelude.{◌≡◌, ◌≢◌, ℕ, List, [], None}
use Rattle.f77_tree.specs.declared.statements.Labelled.{Labelled}
use Rattle.declared_names.specs.Described.{Described}
use Rattle.unit_statements.specs.Units.{first_line, unit_named}
use Rattle.refusal_causes.specs.declared.call_cause.BlockCause.{BlockCause}
use Rattle.refusal_causes.specs.declared.call_cause.BlockCause.TheVariants.{BlockLength, BlockMember}
use Rattle.refusal_causes.specs.declared.call_cause.CallCause.{CallCause}
use Rattle.refusal_causes.specs.declared.call_cause.CallCause.TheVariants.{ArgumentCount, RealArgument, ArgumentKind, ArgumentBounds}
use Rattle.refusal_causes.specs.declared.call_cause.NameCause.{NameCause}
use Rattle.refusal_causes.specs.declared.call_cause.NameCause.TheVariants.{NoSubroutine, SubroutineTwice, Recursion}

-- an argument, by the declarations of its unit, is other than its dummy by those of the subroutine
abbrev pub IsOther : (here there : Described) → CallCause → Type 0
IsOther here there (ArgumentCount name arguments dummies) = arguments ≢ dummies
IsOther here there (RealArgument name) = here.kind name.now ≡ None
IsOther here there (ArgumentKind name other) = here.kind name.now ≢ there.kind other.now
IsOther here there (ArgumentBounds name other) = here.kind name.now ≡ there.kind other.now
IsOther here there _ = ⊥

-- what is told of a CALL, or of the dummies of a SUBROUTINE
abbrev pub IsOfCall : CallCause → Type 0
IsOfCall (ArgumentCount name arguments dummies) = arguments ≢ dummies
IsOfCall _ = Unit {0}

-- what is told of a block of COMMON
abbrev pub IsOfBlock : BlockCause → Type 0
IsOfBlock (BlockLength block line names others) = names ≢ others
IsOfBlock (BlockMember block line name other) = Unit {0}

-- what is told of the name of a subroutine, at a line
abbrev pub IsOfName : List Labelled → (line : ℕ) → NameCause → Type 0
IsOfName stmts line (NoSubroutine name) = unit_named name.now stmts ≡ []
IsOfName stmts line (SubroutineTwice name) = first_line (unit_named name.now stmts) ≢ line
IsOfName stmts line (Recursion name) = first_line (unit_named name.now stmts) ≡ line
