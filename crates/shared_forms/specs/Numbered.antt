-- The numbers of expressions in a list of candidates, and what is looked up of them. No public clause cites this module.
use base.Stored.{Gv, gnil, gnum, gcons}
use Rattle.std.specs.Prelude.{◌≡◌, ◌<◌, ℕ, suc, Bool, true, false, ◌==◌, ◌&&◌, if◌then◌else◌, List, [], ◌∷◌, ◌++◌, length, flat_map, Option, None, Some, option_to_list}
use Rattle.std.specs.Option.{option_map}
use Rattle.f77_tree.specs.contracts.expressions.Expr as contract
use Rattle.f77_tree.specs.declared.expressions.Access.{Access}
use Rattle.f77_tree.specs.declared.expressions.Expr.{Expr}
use Rattle.f77_tree.specs.declared.expressions.Expr.TheVariants.{Const, Truth, Input, Read', Apply'}
use Rattle.f77_tree.specs.declared.programs.Program.{Program}
use Rattle.redundancy.specs.Available.{Availability}
use Rattle.redundancy.specs.Candidates.{row_subexpressions}
use Rattle.simplified_forms.specs.Plans.{AreTold}
use Rattle.shared_forms.specs.Shared.{is_one_of, is_shared, temporary}

-- ---- numbers

abbrev pub same_code : Gv → Gv → Bool
same_code gnil gnil = true
same_code (gnum a) (gnum b) = a == b
same_code (gcons a b) (gcons c d) = same_code a c && same_code b d
same_code _ _ = false

-- whether two expressions are the same tree
abbrev pub is_same : Expr → Expr → Bool
is_same d e = same_code (contract.the_row.coded.code d) (contract.the_row.coded.code e)

-- the place of an expression in a list
abbrev pub number_in : List Expr → Expr → Option ℕ
number_in [] e = None
number_in (d ∷ ds) e = if is_same d e then Some 0 else option_map suc (number_in ds e)

-- the numbers of those expressions that are candidates, in order
abbrev pub numbers_in : (candidates : List Expr) → List Expr → List ℕ
numbers_in candidates es = flat_map (λ e. option_to_list (number_in candidates e)) es

-- what stands in an expression besides itself
abbrev pub parts : Expr → List Expr
parts (Const z) = []
parts (Truth b) = []
parts Input = []
parts (Read' name shape subs) = row_subexpressions subs
parts (Apply' op shape args) = row_subexpressions args

-- ---- temporaries

-- a name without subscripts
abbrev pub name_alone : (name : ℕ) → Access
name_alone name = record { name = name; subs = [] }

-- a number after others, where it isn't among them
abbrev pub added : List ℕ → (n : ℕ) → List ℕ
added seen n = if is_one_of seen n then seen else seen ++ n ∷ []

abbrev pub number_of : Availability → Expr → Option ℕ
number_of a e = number_in a.candidates e

-- the name of the temporary of a candidate, where that is shared
abbrev pub temporary_of : Program → Availability → (n : ℕ) → Option ℕ
temporary_of q a n = if is_shared q a (number_of a) n then Some (temporary q a (number_of a) n) else None

abbrev pub AreTemporaries : Program → Availability → List (Option ℕ) → Type 0
AreTemporaries q a names = AreTold (temporary_of q a) (length a.candidates) names

-- the number of a shared candidate
pub record IsSharedNumber (q : Program) (a : Availability) (n : ℕ) : Type 0 where
  pub within : n < length a.candidates
  pub shared : is_shared q a (number_of a) n ≡ true
