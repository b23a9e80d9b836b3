-- A program that is read again: as it was, but for lines and the listing of COMMON.
use Rattle.std.specs.Prelude.{◌≡◌, ◌⊎◌, ◌≤◌, ◌+◌, ℕ, Bool, false, true, List, length, map, Option, Result, Ok, Err}
use Rattle.f77_tree.specs.declared.programs.Exec.{Exec}
use Rattle.f77_tree.specs.declared.programs.ExecKind.{ExecKind}
use Rattle.f77_tree.specs.declared.programs.Program.{Program}
use Rattle.f77_tree.specs.Places.{block_names}
use Rattle.f77_tree.specs.WellFormed.{IsWellFormed}
use Rattle.layout_rules.specs.Layout.{program}
use Rattle.f77_source.specs.declared.source_end.Code.TheVariants.{TooManyOps, TooManyClasses}
use Rattle.f77_source.specs.declared.source_end.Refusal.{Refusal}
use Rattle.f77_source.specs.Listed.{is_one_unit}
use Rattle.f77_source.specs.Reading.{Reads}
use Rattle.flat_programs.specs.declared.statements.FlatLine.{FlatLine}
use Rattle.flat_programs.specs.Declarations.{declared}
use Rattle.flat_programs.specs.FlatForm.{AreStatementsOf}
use Rattle.flat_programs.specs.Text.{has_long_text}
use Rattle.read_back.specs.PrintedArrays.{HasNoPrintedArrays}
use Rattle.read_back.specs.SourceStatements.{statements_read}

-- A well-formed program of these flat statements, which are few and short enough for a source text. No array bears a name with which an
-- intrinsic function is printed.
pub record HasText (p : Program) (flat : List FlatLine) : Type 0 where
  pub well_formed : IsWellFormed p
  pub statements : AreStatementsOf p flat
  pub few : length (declared p) + length flat ≤ 4000
  pub short : has_long_text p flat ≡ false
  pub arrays : HasNoPrintedArrays p.names

-- the program that the statements make that a printed program is read as
abbrev pub program_read : Program → List FlatLine → (checked : Bool) → Program
program_read p flat checked = program (statements_read p flat) checked

-- what the executables of a program do, whatever their lines
abbrev pub kinds_of : Program → List ExecKind
kinds_of p = map (λ (exec : Exec). exec.kind) p.execs

-- The first program is the second one but for the lines of its executables, and for COMMON, where each block has the same names in the
-- same order.
pub record IsReadAgain (p q : Program) : Type 0 where
  pub names : p.names ≡ q.names
  pub words : p.words ≡ q.words
  pub initial : p.initial ≡ q.initial
  pub blocks : (block : Option (List ℕ)) → block_names p.names p.commons block ≡ block_names q.names q.commons block
  pub groups : p.groups ≡ q.groups
  pub inits : p.inits ≡ q.inits
  pub execs : kinds_of p ≡ kinds_of q
  pub loops : p.loops ≡ q.loops

-- the text is read as this program again, and is one unit without subroutines
pub record IsReadBack (bytes : List ℕ) (checked : Bool) (q : Program) : Type 0 where
  pub again : Program
  pub reads : Reads bytes checked again
  pub unit : is_one_unit reads.stmts ≡ true
  pub same : IsReadAgain again q

-- the answer is this program, or it is refused for how many operations a statement has or how many alias classes the program has
abbrev pub IsUnlessTooGreat : Program → Result Program Refusal → Type 0
IsUnlessTooGreat p (Ok answer) = answer ≡ p
IsUnlessTooGreat p (Err refusal) = (refusal.code ≡ TooManyOps) ⊎ (refusal.code ≡ TooManyClasses)
