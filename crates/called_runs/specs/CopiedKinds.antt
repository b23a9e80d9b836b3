-- Executables of units and of their copies, by what they do.
use Rattle.std.specs.Prelude.{◌≡◌, ℕ, ◌≤◌, Bool, List, [], ◌∷◌, ◌++◌, length, map, Option, Some, None, slice_get, slice_index}
use Rattle.f77_tree.specs.declared.programs.ExecKind.{ExecKind}
use Rattle.f77_tree.specs.declared.programs.ExecKind.TheVariants.{Assign as Assigned, Print as Printed, Pass, Test, Sign, Pick, DoStart, DoNext, End as Ended}
use Rattle.f77_tree.specs.declared.programs.NameInfo.{NameInfo}
use Rattle.f77_tree.specs.declared.statements.RawExpr.{RawExpr}
use Rattle.f77_tree.specs.declared.statements.RawItem.{RawItem}
use Rattle.f77_tree.specs.declared.statements.Stmt.{Stmt}
use Rattle.f77_tree.specs.declared.statements.Stmt.TheVariants.{Assign, Print, Take, PickGoTo, SignIf, ThenIf', BlockIf, ElseIf, Do}
use Rattle.f77_tree.specs.Declarations.{index_of}
use Rattle.f77_tree.specs.Kinds.{taken_as}
use Rattle.layout_rules.specs.Executables.{kind_or_integer}
use Rattle.layout_rules.specs.Resolved.{access_of, resolved, resolved_item, resolved_step}
use Rattle.layout_rules.specs.Types.{kind_in}
use Rattle.program_units.specs.Copies.{Change, changed, changed_item, changed_step}

-- the condition of an IF or ELSE IF
abbrev pub condition_of : Stmt → Option RawExpr
condition_of (ThenIf' condition shape row) = Some condition
condition_of (BlockIf condition) = Some condition
condition_of (ElseIf condition) = Some condition
condition_of _ = None

-- each of a list's items with that of another in the same place
abbrev pub ArePairwise : {A B : Type 0} → (A → B → Type 0) → List A → List B → Type 0
ArePairwise R [] [] = Unit {0}
ArePairwise R (x ∷ xs) (y ∷ ys) = R x y × ArePairwise R xs ys
ArePairwise R _ _ = ⊥

-- The second does what the first does, with the changed expressions. `Of` holds of the statement of a unit that makes the
-- executable, or of the condition that it tests, `N` of the executables to which they lead, and `D` of the numbers of DOs.
pub data IsCopyOf (Of : Stmt → Type 0) (OfTest : RawExpr → Type 0) (N D : ℕ → ℕ → Type 0) (names others : List NameInfo) (checked : Bool) (c : Change) : ExecKind → ExecKind → Type 0 where
  assign_alike : (target e : RawExpr) (next next' : ℕ) → Of (Assign target e) → N next next' → IsCopyOf Of OfTest N D names others checked c (Assigned (access_of names checked target) (resolved names checked e) next) (Assigned (access_of others checked (changed c target)) (resolved others checked (changed c e)) next')
  take_alike : (targets : List RawExpr) (target : RawExpr) (k next next' : ℕ) → Of (Take targets) → slice_get targets k ≡ Some target → N next next' → IsCopyOf Of OfTest N D names others checked c (Assigned (access_of names checked target) (taken_as (kind_or_integer (kind_in names target))) next) (Assigned (access_of others checked (changed c target)) (taken_as (kind_or_integer (kind_in others (changed c target)))) next')
  print_alike : (items : List RawItem) (next next' : ℕ) → Of (Print items) → N next next' → IsCopyOf Of OfTest N D names others checked c (Printed (map (resolved_item names checked) items) next) (Printed (map (resolved_item others checked) (map (changed_item c) items)) next')
  pass_alike : (next next' : ℕ) → N next next' → IsCopyOf Of OfTest N D names others checked c (Pass next) (Pass next')
  test_alike : (e : RawExpr) (yes' no' yes_there no_there : ℕ) → OfTest e → N yes' yes_there → N no' no_there → IsCopyOf Of OfTest N D names others checked c (Test (resolved names checked e) yes' no') (Test (resolved others checked (changed c e)) yes_there no_there)
  sign_alike : (e : RawExpr) (a b d x y z x' y' z' : ℕ) → Of (SignIf e a b d) → N x x' → N y y' → N z z' → IsCopyOf Of OfTest N D names others checked c (Sign (resolved names checked e) x y z) (Sign (resolved others checked (changed c e)) x' y' z')
  pick_alike : (e : RawExpr) (labels xs ys : List ℕ) (x y : ℕ) → Of (PickGoTo labels e) → length xs ≡ length ys → ((i : ℕ) → i ≤ length xs → N (slice_index (xs ++ x ∷ []) i) (slice_index (ys ++ y ∷ []) i)) → IsCopyOf Of OfTest N D names others checked c (Pick (resolved names checked e) xs x) (Pick (resolved others checked (changed c e)) ys y)
  start_alike : (label i j : ℕ) (variable : List ℕ) (first last : RawExpr) (step : Option RawExpr) (body exit body' exit' : ℕ) → Of (Do label variable first last step) → D i j → N body body' → N exit exit' → IsCopyOf Of OfTest N D names others checked c (DoStart i (index_of names variable) (resolved names checked first) (resolved names checked last) (resolved_step names checked step) body exit) (DoStart j (index_of others (c.name variable)) (resolved others checked (changed c first)) (resolved others checked (changed c last)) (resolved_step others checked (changed_step c step)) body' exit')
  next_alike : (label i j : ℕ) (variable : List ℕ) (first last : RawExpr) (step : Option RawExpr) (body exit body' exit' : ℕ) → Of (Do label variable first last step) → D i j → N body body' → N exit exit' → IsCopyOf Of OfTest N D names others checked c (DoNext i (index_of names variable) body exit) (DoNext j (index_of others (c.name variable)) body' exit')
  end_alike : IsCopyOf Of OfTest N D names others checked c Ended Ended
