-- What changes in the copy of a subroutine depends on the new names of those names alone that appear there.
use Rattle.std.proofs.Common.{◌≡◌, ℕ, Bool, true, false, not, ◌&&◌, ◌||◌, if◌then◌else◌, List, [], ◌∷◌, ◌++◌, map, flat_map, Contains, Option, Some, None, find, bytes_eq, ⊎_elim, refl, sym, ap, ◌∙◌, subst, arith}
use Rattle.std.specs.List.{list_any}
use Rattle.std.proofs.lemmas.Bool.{cases_Bool}
use Rattle.std.proofs.lemmas.List.Concat.{flat_map-cons}
use Rattle.std.proofs.lemmas.List.Elements.{Contains-append_left, Contains-append_right}
use Rattle.f77_tree.specs.declared.statements.RawExpr.{RawExpr, Row_of-RawExpr, end_of-RawExpr, more_of-RawExpr}
use Rattle.f77_tree.specs.declared.statements.RawExpr.TheVariants.{Int, Truth, Named, Call as Called, Call', Apply, Apply'}
use Rattle.f77_tree.specs.declared.statements.RawItem.{RawItem}
use Rattle.f77_tree.specs.declared.statements.RawItem.TheVariants.{Value, Chars}
use Rattle.f77_tree.specs.declared.statements.Stmt.{Stmt, more_of-Stmt}
use Rattle.f77_tree.specs.declared.statements.Stmt.TheVariants.{Program, Implicit, ImplicitNone, TypeOf, Dimension, Common, Equivalence, Init, Assign, Print, Take, Continue, Stop, GoTo, PickGoTo, SignIf, ThenIf, ThenIf', BlockIf, ElseIf, Else, EndIf, Do, Sub, CallTo, Back, End}
use Rattle.layout_rules.specs.Appearances.{called_name, names_in, names_in_row, names_in_item, names_if_any}
use Rattle.declared_names.specs.Functions.{intrinsic_named}
use Rattle.layout_rules.specs.Types.{Intrinsic, is_intrinsic, intrinsics}
use Rattle.program_units.specs.Copies.{Change, intrinsic_or, changed_call, changed, changed_row, changed_item, changed_step, changed_stmt}
use Rattle.program_units.specs.Names.{appearing_here}

find-none : {A : Type 0} (p : A → Bool) (xs : List A) → find p xs ≡ None → list_any p xs ≡ false
find-none p [] is = refl
find-none p (x ∷ xs) is = ⊎_elim
    (λ (h : p x ≡ true). let e : Some x ≡ None = sym (ap (λ (b : Bool). if b then Some x else find p xs) h) ∙ is in absurd cc)
    (λ (h : p x ≡ false). ap (λ (b : Bool). b || list_any p xs) h ∙ find-none p xs (sym (ap (λ (b : Bool). if b then Some x else find p xs) h) ∙ is))
    (cases_Bool (p x))

module _ (c : Change) (f : List ℕ → List ℕ) (copied : c.copied ≡ true) where
  abbrev pub renaming : Change
  renaming = record c { name = f }

  -- the same new names
  abbrev pub Same : List (List ℕ) → Type 0
  Same xs = (x : List ℕ) → Contains xs x → c.name x ≡ f x

  left : (xs ys : List (List ℕ)) → Same (xs ++ ys) → Same xs
  left xs ys same x is = same x (Contains-append_left xs ys x is)

  right : (xs ys : List (List ℕ)) → Same (xs ++ ys) → Same ys
  right xs ys same x is = same x (Contains-append_right xs ys x is)

  head : (x : List ℕ) (xs : List (List ℕ)) → Same (x ∷ xs) → c.name x ≡ f x
  head x xs same = same x (0, omega arith, refl)

  -- ---- calls

  call-by : (name : List ℕ) (args : List RawExpr) (is_array : Bool) (found : Option Intrinsic) → (found ≡ None → is_intrinsic name ≡ false) → Same (if is_array || not (is_intrinsic name) then name ∷ [] else [])
      → (if true && not is_array then intrinsic_or found (c.name name) args else Called (c.name name) args) ≡ (if true && not is_array then intrinsic_or found (f name) args else Called (f name) args)
  call-by name args true found other same = ap (λ (n : List ℕ). Called n args) (head name [] same)
  call-by name args false None other same =
      let told : Same (name ∷ []) = λ x is. same x (let e : (if not (is_intrinsic name) then name ∷ [] else []) ≡ name ∷ [] = ap (λ (b : Bool). if not b then name ∷ [] else []) (other refl) in subst (λ (xs : List (List ℕ)). Contains xs x) (sym e) is) in
      ap (λ (n : List ℕ). Called n args) (head name [] told)
  call-by name args false (Some g) other same = refl

  call-alike : (name : List ℕ) (args : List RawExpr) → Same (called_name c.arrays name) → changed_call c name args ≡ changed_call renaming name args
  call-alike name args same =
      ap (λ (b : Bool). if b && not (c.arrays name) then intrinsic_or (intrinsic_named name) (c.name name) args else Called (c.name name) args) copied
      ∙ call-by name args (c.arrays name) (intrinsic_named name) (find-none (λ (g : Intrinsic). bytes_eq g.name name) intrinsics) same
      ∙ ap (λ (b : Bool). if b && not (c.arrays name) then intrinsic_or (intrinsic_named name) (f name) args else Called (f name) args) (sym copied)

  -- ---- expressions

  mutual
    pub expr-alike : (e : RawExpr) → Same (names_in c.arrays e) → changed c e ≡ changed renaming e
    expr-alike (Int z) same = refl
    expr-alike (Truth b) same = refl
    expr-alike (Named name) same = ap Named (head name [] same)
    expr-alike (Call' name shape args) same =
        call-alike name (changed_row c args) (left (called_name c.arrays name) (names_in_row c.arrays args) same)
        ∙ ap (changed_call renaming name) (row-alike _ args (right (called_name c.arrays name) (names_in_row c.arrays args) same))
    expr-alike (Apply' op shape args) same = ap (Apply op) (row-alike _ args same)

    row-alike : (n : _) (row : Row_of-RawExpr n) → Same (names_in_row c.arrays row) → changed_row c row ≡ changed_row renaming row
    row-alike n end_of-RawExpr same = refl
    row-alike n (more_of-RawExpr e rest) same =
        ap (λ (x : RawExpr). x ∷ changed_row c rest) (expr-alike e (left (names_in c.arrays e) (names_in_row c.arrays rest) same))
        ∙ ap (λ (xs : List RawExpr). changed renaming e ∷ xs) (row-alike _ rest (right (names_in c.arrays e) (names_in_row c.arrays rest) same))

  item-alike : (item : RawItem) → Same (names_in_item c.arrays item) → changed_item c item ≡ changed_item renaming item
  item-alike (Value e) same = ap Value (expr-alike e same)
  item-alike (Chars text) same = refl

  map-alike : {X Y : Type 0} (g h : X → Y) (names : X → List (List ℕ)) → ((x : X) → Same (names x) → g x ≡ h x) → (xs : List X) → Same (flat_map names xs) → map g xs ≡ map h xs
  map-alike g h names each [] same = refl
  map-alike g h names each (x ∷ xs) same =
      let split : Same (names x ++ flat_map names xs) = subst Same (flat_map-cons names x xs) same in
      ap (λ y. y ∷ map g xs) (each x (left (names x) (flat_map names xs) split))
      ∙ ap (λ ys. h x ∷ ys) (map-alike g h names each xs (right (names x) (flat_map names xs) split))

  step-alike : (step : Option RawExpr) → Same (names_if_any c.arrays step) → changed_step c step ≡ changed_step renaming step
  step-alike None same = refl
  step-alike (Some e) same = ap Some (expr-alike e same)

  -- ---- statements

  do-alike : (label : ℕ) (variable : List ℕ) (first last : RawExpr) (step : Option RawExpr) → Same (variable ∷ (names_in c.arrays first ++ names_in c.arrays last ++ names_if_any c.arrays step))
      → Do (c.end label) (c.name variable) (changed c first) (changed c last) (changed_step c step) ≡ Do (c.end label) (f variable) (changed renaming first) (changed renaming last) (changed_step renaming step)
  do-alike label variable first last step same =
      let a = names_in c.arrays first in
      let b = names_in c.arrays last in
      let d = names_if_any c.arrays step in
      let behind : Same ((a ++ b) ++ d) = right (variable ∷ []) ((a ++ b) ++ d) same in
      let both : Same (a ++ b) = left (a ++ b) d behind in
      ap (λ (n : List ℕ). Do (c.end label) n (changed c first) (changed c last) (changed_step c step)) (head variable ((a ++ b) ++ d) same)
      ∙ ap (λ (e : RawExpr). Do (c.end label) (f variable) e (changed c last) (changed_step c step)) (expr-alike first (left a b both))
      ∙ ap (λ (e : RawExpr). Do (c.end label) (f variable) (changed renaming first) e (changed_step c step)) (expr-alike last (right a b both))
      ∙ ap (λ (e : Option RawExpr). Do (c.end label) (f variable) (changed renaming first) (changed renaming last) e) (step-alike step (right (a ++ b) d behind))

  assign-alike : (target value : RawExpr) → Same (names_in c.arrays target ++ names_in c.arrays value) → Assign (changed c target) (changed c value) ≡ Assign (changed renaming target) (changed renaming value)
  assign-alike target value same =
      ap (λ (e : RawExpr). Assign e (changed c value)) (expr-alike target (left (names_in c.arrays target) (names_in c.arrays value) same))
      ∙ ap (λ (e : RawExpr). Assign (changed renaming target) e) (expr-alike value (right (names_in c.arrays target) (names_in c.arrays value) same))

  pub stmt-alike : (s : Stmt) → Same (appearing_here c.arrays s) → changed_stmt c s ≡ changed_stmt renaming s
  stmt-alike (Assign target value) same = assign-alike target value same
  stmt-alike (Print items) same = ap Print (map-alike (changed_item c) (changed_item renaming) (names_in_item c.arrays) item-alike items same)
  stmt-alike (Take targets) same = ap Take (map-alike (changed c) (changed renaming) (names_in c.arrays) expr-alike targets same)
  stmt-alike (PickGoTo labels e) same = ap (λ (x : RawExpr). PickGoTo (map c.jump labels) x) (expr-alike e same)
  stmt-alike (SignIf e a b d) same = ap (λ (x : RawExpr). SignIf x (c.jump a) (c.jump b) (c.jump d)) (expr-alike e same)
  stmt-alike (ThenIf' condition shape (more_of-Stmt stmt rest)) same =
      ap (λ (x : RawExpr). ThenIf x (changed_stmt c stmt)) (expr-alike condition (left (names_in c.arrays condition) (appearing_here c.arrays stmt) same))
      ∙ ap (λ (x : Stmt). ThenIf (changed renaming condition) x) (stmt-alike stmt (right (names_in c.arrays condition) (appearing_here c.arrays stmt) same))
  stmt-alike (BlockIf e) same = ap BlockIf (expr-alike e same)
  stmt-alike (ElseIf e) same = ap ElseIf (expr-alike e same)
  stmt-alike (Do label variable first last step) same = do-alike label variable first last step same
  stmt-alike Program same = refl
  stmt-alike (Implicit a) same = refl
  stmt-alike ImplicitNone same = refl
  stmt-alike (TypeOf a b) same = refl
  stmt-alike (Dimension a) same = refl
  stmt-alike (Common a) same = refl
  stmt-alike (Equivalence a) same = refl
  stmt-alike (Init a) same = refl
  stmt-alike Continue same = refl
  stmt-alike Stop same = refl
  stmt-alike (GoTo a) same = refl
  stmt-alike Else same = refl
  stmt-alike EndIf same = refl
  stmt-alike (Sub a b) same = refl
  stmt-alike (CallTo a b) same = refl
  stmt-alike Back same = refl
  stmt-alike End same = refl
