-- Well-formed programs: the trees that have a text and a meaning.
use Rattle.std.specs.Prelude.{◌≡◌, ℕ, ◌<◌, ◌≤◌, List, [], ◌∷◌, length, All, sum_by}
use Rattle.f77_tree.specs.declared.declarations.Kind.TheVariants.{Integer, Logical}
use Rattle.f77_tree.specs.declared.declarations.CommonPart.{CommonPart}
use Rattle.f77_tree.specs.declared.declarations.Member.{Member}
use Rattle.f77_tree.specs.declared.declarations.InitPart.{InitPart}
use Rattle.f77_tree.specs.declared.expressions.Expr.{Expr}
use Rattle.f77_tree.specs.declared.programs.NameInfo.{NameInfo}
use Rattle.f77_tree.specs.declared.programs.Item.{Item}
use Rattle.f77_tree.specs.declared.programs.Item.TheVariants.{Value, Chars}
use Rattle.f77_tree.specs.declared.programs.ExecKind.{ExecKind}
use Rattle.f77_tree.specs.declared.programs.ExecKind.TheVariants.{Assign, Print, Pass, Test, Sign, Pick, DoStart, DoNext, End}
use Rattle.f77_tree.specs.declared.programs.Exec.{Exec}
use Rattle.f77_tree.specs.declared.programs.Program.{Program}
use Rattle.f77_tree.specs.Declarations.{IsNameInfo, NamesDiffer, IsCommonPart, CommonOnce, IsGroup, IsIntegerScalar}
use Rattle.f77_tree.specs.Kinds.{IsProper, IsOfKind, IsAssignment}
use Rattle.f77_tree.specs.Control.{EndsWithEnd, SuccessorsExist, targets_of}
use Rattle.f77_tree.specs.Loops.{AreLoops}
use Rattle.f77_tree.specs.Places.{ArePlaces, equations}
use Rattle.f77_tree.specs.InitialWords.{IsInitPart, GivenOnce, AreInitial}

-- ---- executables

-- at least one character, all of them printable
pub record IsText (text : List ℕ) : Type 0 where
  pub some : 0 < length text
  pub printable : All (λ c. (32 ≤ c) × (c ≤ 126)) text

-- an item of PRINT is an expression or a text
abbrev pub IsProperItem : List NameInfo → Item → Type 0
IsProperItem names (Value e) = IsProper names e
IsProperItem names (Chars text) = IsText text

-- the variable of a DO is an integer scalar, and its parameters are integers
pub record IsDo (names : List NameInfo) (var : ℕ) (parameters : List Expr) : Type 0 where
  pub variable : IsIntegerScalar names var
  pub integers : All (IsOfKind names Integer) parameters

-- an executable by itself: conditions are logicals; selectors and the parameters of a DO are integers; a computed GO TO
-- has a label
abbrev pub IsExecutable : List NameInfo → ExecKind → Type 0
IsExecutable names (Assign target value next) = IsAssignment names target value
IsExecutable names (Print items next) = All (IsProperItem names) items
IsExecutable names (Pass next) = Unit {0}
IsExecutable names (Test cond if_true if_false) = IsOfKind names Logical cond
IsExecutable names (Sign value neg zero pos) = IsOfKind names Integer value
IsExecutable names (Pick value targets other) = IsOfKind names Integer value × (0 < length targets)
IsExecutable names (DoStart loop_no var first last step body exit) = IsDo names var (first ∷ last ∷ step ∷ [])
IsExecutable names (DoNext loop_no var body exit) = IsIntegerScalar names var
IsExecutable names End = Unit {0}

-- the executables of a program
pub record AreExecs (names : List NameInfo) (execs : List Exec) (loops : ℕ) : Type 0 where
  pub end : EndsWithEnd execs
  pub successors : SuccessorsExist execs
  pub each : All (λ exec. IsExecutable names exec.kind) execs
  pub loops_nest : AreLoops execs loops
  pub count : length execs ≤ 20000
  pub target_count : sum_by (λ exec. length (targets_of exec.kind)) execs ≤ 4000

-- ---- declarations

-- the declarations of a program
pub record AreDeclarations (names : List NameInfo) (commons : List CommonPart) (groups : List (List Member)) (inits : List InitPart) : Type 0 where
  pub table : All IsNameInfo names
  pub differ : NamesDiffer names
  pub common : All (IsCommonPart names) commons
  pub common_once : CommonOnce names commons
  pub equivalence : All (IsGroup names) groups
  pub init : All (IsInitPart names) inits
  pub given_once : GivenOnce names inits

-- ---- programs

-- a well-formed program: its executables, its declarations, and the places and initial words that they give
pub record IsWellFormed (p : Program) : Type 0 where
  pub execs : AreExecs p.names p.execs p.loops
  pub declarations : AreDeclarations p.names p.commons p.groups p.inits
  pub word_count : p.words ≤ 262144
  pub initial_count : length p.initial ≡ p.words
  pub places : ArePlaces p.names p.commons (equations p.names p.commons p.groups) p.words
  pub initial : AreInitial p.names p.inits p.initial
