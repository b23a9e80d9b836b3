-- Where control goes: the successors of executables, and END (ANSI X3.9-1978, section 11).
use Rattle.std.specs.Prelude.{◌≡◌, ℕ, suc, ◌<◌, ◌↔◌, List, [], ◌∷◌, ◌++◌, length, All, Contains, Option, Some, None, slice_get}
use Rattle.f77_tree.specs.declared.programs.ExecKind.{ExecKind}
use Rattle.f77_tree.specs.declared.programs.ExecKind.TheVariants.{Assign, Print, Pass, Test, Sign, Pick, DoStart, DoNext, End}
use Rattle.f77_tree.specs.declared.programs.Exec.{Exec}

-- the executables that control may go to from an executable
abbrev pub successors : ExecKind → List ℕ
successors (Assign target value next) = next ∷ []
successors (Print items next) = next ∷ []
successors (Pass next) = next ∷ []
successors (Test cond if_true if_false) = if_true ∷ if_false ∷ []
successors (Sign value neg zero pos) = neg ∷ zero ∷ pos ∷ []
successors (Pick value targets other) = targets ++ other ∷ []
successors (DoStart loop_no var first last step body exit) = body ∷ exit ∷ []
successors (DoNext loop_no var body exit) = body ∷ exit ∷ []
successors End = []

abbrev pub successors_in : Option Exec → List ℕ
successors_in None = []
successors_in (Some exec) = successors exec.kind

-- control may go from the executable k to the executable s
abbrev pub LeadsTo : List Exec → ℕ → ℕ → Type 0
LeadsTo execs k s = Contains (successors_in (slice_get execs k)) s

-- the executables that the labels of a computed GO TO stand for
abbrev pub targets_of : ExecKind → List ℕ
targets_of (Pick value targets other) = targets
targets_of _ = []

-- the last executable is END, and no other is
pub record EndsWithEnd (execs : List Exec) : Type 0 where
  pub some : 0 < length execs
  pub last : (k : ℕ) (exec : Exec) → slice_get execs k ≡ Some exec → (exec.kind ≡ End) ↔ (suc k ≡ length execs)

-- each successor is an index of an executable
abbrev pub SuccessorsExist : List Exec → Type 0
SuccessorsExist execs = All (λ exec. All (λ s. s < length execs) (successors exec.kind)) execs
