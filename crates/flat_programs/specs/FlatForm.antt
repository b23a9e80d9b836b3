-- Flat statements that a program can have, alone and together.
use Rattle.std.specs.Prelude.{◌≡◌, ◌≤◌, ◌<◌, ◌⊎◌, ◌↔◌, ℕ, suc, List, [], ◌∷◌, length, All, Contains, Some, slice_get, sum_by}
use Rattle.f77_tree.specs.declared.declarations.Kind.TheVariants.{Integer, Logical}
use Rattle.f77_tree.specs.declared.programs.NameInfo.{NameInfo}
use Rattle.f77_tree.specs.declared.programs.Program.{Program}
use Rattle.f77_tree.specs.Kinds.{IsAssignment, IsOfKind}
use Rattle.f77_tree.specs.WellFormed.{IsProperItem, IsDo, IsWellFormed}
use Rattle.flat_programs.specs.declared.statements.Flat.{Flat}
use Rattle.flat_programs.specs.declared.statements.Flat.TheVariants.{Mark, Assignment, Output, LogicalIf, ArithmeticIf, ComputedGoTo, DoLoop, Jump, Finish}
use Rattle.flat_programs.specs.declared.statements.FlatLine.{FlatLine}
use Rattle.flat_programs.specs.Marks.{mark_count, place_of}
use Rattle.flat_programs.specs.Executables.{executables}

-- ---- statements by themselves

-- a statement over a table of names: conditions are logicals; selectors and the parameters of a DO are integers; a computed GO TO has
-- a label
abbrev pub IsProperFlat : List NameInfo → Flat → Type 0
IsProperFlat names Mark = Unit {0}
IsProperFlat names (Assignment target value) = IsAssignment names target value
IsProperFlat names (Output items) = All (IsProperItem names) items
IsProperFlat names (LogicalIf cond target) = IsOfKind names Logical cond
IsProperFlat names (ArithmeticIf value below at above) = IsOfKind names Integer value
IsProperFlat names (ComputedGoTo value targets) = IsOfKind names Integer value × (0 < length targets)
IsProperFlat names (DoLoop end var first last step) = IsDo names var (first ∷ last ∷ step ∷ [])
IsProperFlat names (Jump target) = Unit {0}
IsProperFlat names Finish = Unit {0}

abbrev pub AreProper : List NameInfo → List FlatLine → Type 0
AreProper names flat = All (λ l. IsProperFlat names l.stmt) flat

-- ---- where statements lead

-- the numbers of the marks to which a statement jumps
abbrev pub jumps : Flat → List ℕ
jumps (LogicalIf cond target) = target ∷ []
jumps (ArithmeticIf value below at above) = below ∷ at ∷ above ∷ []
jumps (ComputedGoTo value targets) = targets
jumps (Jump target) = target ∷ []
jumps _ = []

-- the number of the mark at which the range of a DO ends
abbrev pub range_end : Flat → List ℕ
range_end (DoLoop end var first last step) = end ∷ []
range_end _ = []

-- the labels of a computed GO TO
abbrev pub choices : Flat → List ℕ
choices (ComputedGoTo value targets) = targets
choices _ = []

-- the number of a mark
pub record IsNumber (count number : ℕ) : Type 0 where
  pub least : 1 ≤ number
  pub most : number ≤ count

-- each number in a statement is that of one of so many marks
pub record HasNumbers (count : ℕ) (stmt : Flat) : Type 0 where
  pub jumps : All (IsNumber count) (jumps stmt)
  pub range_end : All (IsNumber count) (range_end stmt)

abbrev pub AreNumbered : List FlatLine → Type 0
AreNumbered flat = All (λ l. HasNumbers (mark_count flat) l.stmt) flat

-- an arithmetic IF, a computed GO TO or a DO
abbrev pub IsChoiceOrStart : Flat → Type 0
IsChoiceOrStart (ArithmeticIf value below at above) = Unit {0}
IsChoiceOrStart (ComputedGoTo value targets) = Unit {0}
IsChoiceOrStart (DoLoop end var first last step) = Unit {0}
IsChoiceOrStart _ = ⊥

-- ---- statements together

-- a DO at the place `head`, whose range is what stands after it up to and with the mark at the place `last`
pub record IsSpan (flat : List FlatLine) (head last : ℕ) : Type 0 where
  pub here : FlatLine
  pub is : slice_get flat head ≡ Some here
  pub end : ℕ
  pub ends : range_end here.stmt ≡ end ∷ []
  pub place : last ≡ place_of flat end

pub record LiesIn (head last place : ℕ) : Type 0 where
  pub after : head < place
  pub up_to : place ≤ last

-- a flat program: END is its last statement and no other; numbers are those of marks; the range of a DO ends after it, no two
-- ranges end at one mark, and of two ranges the one lies in the other or they lie apart; nothing jumps into a range; and no GO TO
-- stands directly before its own mark
pub record IsFlat (flat : List FlatLine) : Type 0 where
  pub some : 0 < length flat
  pub ended : (place : ℕ) (l : FlatLine) → slice_get flat place ≡ Some l → (l.stmt ≡ Finish) ↔ (suc place ≡ length flat)
  pub numbered : AreNumbered flat
  pub later : (head last : ℕ) → IsSpan flat head last → head < last
  pub one_range : (head other last : ℕ) → IsSpan flat head last → IsSpan flat other last → head ≡ other
  pub nested : (head last other end : ℕ) → IsSpan flat head last → IsSpan flat other end → head < other → (end < last) ⊎ (last < other)
  pub kept_out : (head last place number : ℕ) (l : FlatLine) → IsSpan flat head last → slice_get flat place ≡ Some l → Contains (jumps l.stmt) number → LiesIn head last (place_of flat number) → LiesIn head last place
  pub moves : (place number : ℕ) (l : FlatLine) → slice_get flat place ≡ Some l → l.stmt ≡ Jump number → place_of flat number ≡ suc place → ⊥

-- ---- programs

-- few enough statements, and labels of computed GO TOs, for the executables of one program
pub record HasFewStatements (flat : List FlatLine) : Type 0 where
  pub statements : length flat ≤ 10000
  pub choices : sum_by (λ l. length (choices l.stmt)) flat ≤ 4000

-- the statements whose executables a program has
pub record AreStatementsOf (p : Program) (flat : List FlatLine) : Type 0 where
  pub form : IsFlat flat
  pub execs : executables flat ≡ p.execs

-- a well-formed program of flat statements
pub record IsFlatProgram (p : Program) : Type 0 where
  pub well_formed : IsWellFormed p
  pub flat : List FlatLine
  pub statements : AreStatementsOf p flat
