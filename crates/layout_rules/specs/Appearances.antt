-- The names of a program, in the order in which they first appear.
use Rattle.std.specs.Prelude.{ℕ, Bool, not, if◌then◌else◌, ◌||◌, List, [], ◌∷◌, ◌++◌, map, flat_map, fold, Option, Some, None, bytes_eq}
use Rattle.std.specs.List.{list_any}
use Rattle.std.specs.Option.{is_some}
use Rattle.f77_tree.specs.declared.statements.Labelled.{Labelled}
use Rattle.f77_tree.specs.declared.statements.RawExpr.{RawExpr, Row_of-RawExpr, end_of-RawExpr, more_of-RawExpr}
use Rattle.f77_tree.specs.declared.statements.RawExpr.TheVariants.{Int, Truth, Named, Call', Apply'}
use Rattle.f77_tree.specs.declared.statements.RawItem.{RawItem}
use Rattle.f77_tree.specs.declared.statements.RawItem.TheVariants.{Value, Chars}
use Rattle.f77_tree.specs.declared.statements.Stmt.{Stmt, more_of-Stmt}
use Rattle.f77_tree.specs.declared.statements.Stmt.TheVariants.{TypeOf, Dimension, Common, Equivalence, Init, Assign, Print, Take, PickGoTo, SignIf, ThenIf', BlockIf, ElseIf, Do}
use Rattle.layout_rules.specs.Declarations.{is_array, kind_of}
use Rattle.layout_rules.specs.Types.{is_intrinsic}

-- ---- names in an expression, from left to right; the name of an intrinsic function is none, unless it is an array's

abbrev pub called_name : (arrays : List ℕ → Bool) → List ℕ → List (List ℕ)
called_name arrays name = if arrays name || not (is_intrinsic name) then name ∷ [] else []

abbrev mutual
  pub names_in : (arrays : List ℕ → Bool) → RawExpr → List (List ℕ)
  names_in arrays (Int z) = []
  names_in arrays (Truth b) = []
  names_in arrays (Named name) = name ∷ []
  names_in arrays (Call' name shape args) = called_name arrays name ++ names_in_row arrays args
  names_in arrays (Apply' op shape args) = names_in_row arrays args

  pub names_in_row : {m : _} → (arrays : List ℕ → Bool) → Row_of-RawExpr m → List (List ℕ)
  names_in_row arrays end_of-RawExpr = []
  names_in_row arrays (more_of-RawExpr e rest) = names_in arrays e ++ names_in_row arrays rest

abbrev pub names_in_item : (arrays : List ℕ → Bool) → RawItem → List (List ℕ)
names_in_item arrays (Value e) = names_in arrays e
names_in_item arrays (Chars text) = []

abbrev pub names_if_any : (arrays : List ℕ → Bool) → Option RawExpr → List (List ℕ)
names_if_any arrays None = []
names_if_any arrays (Some e) = names_in arrays e

-- ---- names in a statement, from left to right; names of programs and of blocks, and letters, are none

abbrev pub appearing : (arrays : List ℕ → Bool) → Stmt → List (List ℕ)
appearing arrays (TypeOf kind decls) = map (λ decl. decl.name) decls
appearing arrays (Dimension decls) = map (λ decl. decl.name) decls
appearing arrays (Common parts) = flat_map (λ part. map (λ decl. decl.name) part.decls) parts
appearing arrays (Equivalence groups) = flat_map (λ group. map (λ member. member.name) group) groups
appearing arrays (Init parts) = flat_map (λ part. map (λ item. item.name) part.items) parts
appearing arrays (Assign target value) = names_in arrays target ++ names_in arrays value
appearing arrays (Print items) = flat_map (names_in_item arrays) items
appearing arrays (Take targets) = flat_map (names_in arrays) targets
appearing arrays (PickGoTo labels index) = names_in arrays index
appearing arrays (SignIf value negative zero positive) = names_in arrays value
appearing arrays (ThenIf' condition shape (more_of-Stmt stmt rest)) = names_in arrays condition ++ appearing arrays stmt
appearing arrays (BlockIf condition) = names_in arrays condition
appearing arrays (ElseIf condition) = names_in arrays condition
appearing arrays (Do label variable first last step) = variable ∷ (names_in arrays first ++ names_in arrays last ++ names_if_any arrays step)
appearing arrays _ = []

-- ---- the names of the program

abbrev pub with_name : List (List ℕ) → List ℕ → List (List ℕ)
with_name seen name = if list_any (bytes_eq name) seen then seen else seen ++ name ∷ []

-- each name once, at its first place
abbrev pub each_once : List (List ℕ) → List (List ℕ)
each_once names = fold with_name [] names

abbrev pub all_names : List Labelled → List (List ℕ)
all_names stmts = each_once (flat_map (λ s. appearing (is_array stmts) s.stmt) stmts)

-- ---- a name that is neither integer nor logical

abbrev pub has_real_name : (whole above : List Labelled) → Labelled → Bool
has_real_name whole above s = list_any (λ name. not (is_some (kind_of whole name))) (appearing (is_array whole) s.stmt)

-- the name that an expression itself begins with
abbrev pub own_names : (arrays : List ℕ → Bool) → RawExpr → List (List ℕ)
own_names arrays (Named name) = name ∷ []
own_names arrays (Call' name shape args) = called_name arrays name
own_names arrays _ = []
