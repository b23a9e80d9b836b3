-- Operands and subscripts, as rows and as lists.
use Rattle.std.proofs.Common.{◌≡◌, ℕ, zero, suc, ◌<◌, ◌≤◌, List, [], ◌∷◌, ◌++◌, length, get_or, map, take, Any, All, Bool, true, false, ◌&&◌, ◌||◌, ◌+◌, length-append, Option, ℤ, inl, inr, ⊎_elim, refl, sym, ap, subst, ◌∙◌, arith}
use Rattle.std.specs.Prelude.{◌⊎◌, ◌↔◌}
use Rattle.std.proofs.lemmas.Bool.{cases_lt}
use Rattle.std.proofs.lemmas.List.{get_or_append_left, get_or_push, take_more, take_all}
use Rattle.std.specs.List.{list_all}
use mathlib.Core.Former.{Count}
use Rattle.op_table.specs.declared.Op.{Op}
use Rattle.f77_tree.specs.declared.expressions.Access.{Access}
use Rattle.f77_tree.specs.declared.expressions.Expr.{Expr, Read, Read', Apply, Apply', Row_of-Expr, end_of-Expr, more_of-Expr, items-the_row-Expr, items_hidden-the_row-Expr-0}
use Rattle.class_set.specs.declared.ClassSet.{ClassSet}
use Rattle.class_set.specs.ClassSet.{holds}
use Rattle.f77_tree.specs.declared.programs.NameInfo.{NameInfo}
use Rattle.f77_tree.specs.Known.{known, row_known}
use Rattle.f77_tree.specs.Value.{row_length, IsExpression, AllExpressions, IsAccess}
use Rattle.alias_classes.specs.Classes.{ClassTable}
use Rattle.alias_classes.specs.Constant.{is_constant, is_constant_row}
use Rattle.alias_classes.specs.Needs.{ExprNeeds, SomeNeeds, HitsName, Needs}

-- the row after a list of operands or subscripts
abbrev pub row_of : Expr → (n : Count) × Row_of-Expr n
row_of (Read' _ _ row) = (_, row)
row_of (Apply' _ _ row) = (_, row)
row_of _ = (_, end_of-Expr)

-- ---- constants

is_constant_row-items : (n : _) (row : Row_of-Expr n) → is_constant_row row ≡ list_all is_constant (items-the_row-Expr n row)
is_constant_row-items n end_of-Expr = refl
is_constant_row-items n (more_of-Expr e rest) = ap (λ b. is_constant e && b) (is_constant_row-items _ rest)

pub is_constant-Apply : (op : Op) (args : List Expr) → is_constant (Apply op args) ≡ list_all is_constant args
is_constant-Apply op args =
    let row = row_of (Apply op args) in
    is_constant_row-items row.0 row.1 ∙ ap (list_all is_constant) (items_hidden-the_row-Expr-0 args)

-- ---- needs

pub any-here : {X : Type 0} (P : X → Type 0) (x : X) (xs : List X) → P x → Any P (x ∷ xs)
any-here P x xs p = (0, x, omega arith, refl, p)

pub any-later : {X : Type 0} (P : X → Type 0) (x : X) (xs : List X) → Any P xs → Any P (x ∷ xs)
any-later P x xs some = (suc some.0, some.1, (let lt = some.2 in omega (arith, lt)), some.3, some.4)

any-at : {X : Type 0} (P : X → Type 0) (x : X) (xs : List X) (k : ℕ) (y : X) → k < length (x ∷ xs) → get_or (x ∷ xs) k y ≡ y → P y → P x ⊎ Any P xs
any-at P x xs zero y lt is p = inl (subst P (sym is) p)
any-at P x xs (suc k) y lt is p = inr (k, y, omega (arith, lt), is, p)

pub any-first : {X : Type 0} (P : X → Type 0) (x : X) (xs : List X) → Any P (x ∷ xs) → P x ⊎ Any P xs
any-first P x xs some = any-at P x xs some.0 some.1 some.2 some.3 some.4

module _ (t : ClassTable) (n : ℕ) where
  abbrev pub NeedsClass : Expr → Type 0
  NeedsClass e = ExprNeeds t e n

  row-any : (m : _) (row : Row_of-Expr m) → SomeNeeds t row n → Any NeedsClass (items-the_row-Expr m row)
  row-any m end_of-Expr some = absurd some
  row-any m (more_of-Expr e rest) (inl here) = any-here NeedsClass e (items-the_row-Expr _ rest) here
  row-any m (more_of-Expr e rest) (inr later) = any-later NeedsClass e (items-the_row-Expr _ rest) (row-any _ rest later)

  any-row : (m : _) (row : Row_of-Expr m) → Any NeedsClass (items-the_row-Expr m row) → SomeNeeds t row n
  any-row m end_of-Expr some = let lt = some.2 in absurd (omega (arith, lt))
  any-row m (more_of-Expr e rest) some = ⊎_elim (λ here. inl here) (λ later. inr (any-row _ rest later)) (any-first NeedsClass e (items-the_row-Expr _ rest) some)

  -- an operator needs what its operands need
  pub Apply-needs : (op : Op) (args : List Expr) → ExprNeeds t (Apply op args) n → Any NeedsClass args
  Apply-needs op args needs =
      let row = row_of (Apply op args) in
      subst (λ (es : List Expr). Any NeedsClass es) (items_hidden-the_row-Expr-0 args) (row-any row.0 row.1 needs)

  pub needs-Apply : (op : Op) (args : List Expr) → Any NeedsClass args → ExprNeeds t (Apply op args) n
  needs-Apply op args some =
      let row = row_of (Apply op args) in
      any-row row.0 row.1 (subst (λ (es : List Expr). Any NeedsClass es) (sym (items_hidden-the_row-Expr-0 args)) some)

  row_known-items : (m : _) (row : Row_of-Expr m) → row_known row ≡ map known (items-the_row-Expr m row)
  row_known-items m end_of-Expr = refl
  row_known-items m (more_of-Expr e rest) = ap (λ ks. known e ∷ ks) (row_known-items _ rest)

  row_known-list : (access : Access) → row_known (row_of (Read access)).1 ≡ map known access.subs
  row_known-list access =
      let row = row_of (Read access) in
      row_known-items row.0 row.1 ∙ ap (map known) (items_hidden-the_row-Expr-0 access.subs)

  -- a read needs what its access needs
  pub Read-needs : (access : Access) → ExprNeeds t (Read access) n → Needs t access n
  Read-needs access (inl some) =
      let row = row_of (Read access) in
      inl (subst (λ (es : List Expr). Any NeedsClass es) (items_hidden-the_row-Expr-0 access.subs) (row-any row.0 row.1 some))
  Read-needs access (inr hits) = inr (subst (λ (ks : List (Option ℤ)). HitsName t access.name ks n) (row_known-list access) hits)

  pub needs-Read : (access : Access) → Needs t access n → ExprNeeds t (Read access) n
  needs-Read access (inl some) =
      let row = row_of (Read access) in
      inl (any-row row.0 row.1 (subst (λ (es : List Expr). Any NeedsClass es) (sym (items_hidden-the_row-Expr-0 access.subs)) some))
  needs-Read access (inr hits) = inr (subst (λ (ks : List (Option ℤ)). HitsName t access.name ks n) (sym (row_known-list access)) hits)

-- ---- expressions that fit the table of names

row_length-items : (n : _) (row : Row_of-Expr n) → row_length row ≡ length (items-the_row-Expr n row)
row_length-items n end_of-Expr = refl
row_length-items n (more_of-Expr e rest) = ap suc (row_length-items _ rest)

All-cons : {X : Type 0} (P : X → Type 0) (x : X) (xs : List X) → P x → All P xs → (k : ℕ) (d : X) → k < length (x ∷ xs) → P (get_or (x ∷ xs) k d)
All-cons P x xs here all zero d lt = here
All-cons P x xs here all (suc k) d lt = all k d (omega (arith, lt))

AllExpressions-items : (names : List NameInfo) (n : _) (row : Row_of-Expr n) → AllExpressions names row → All (IsExpression names) (items-the_row-Expr n row)
AllExpressions-items names n end_of-Expr all = λ k d lt. absurd (omega (arith, lt))
AllExpressions-items names n (more_of-Expr e rest) all = All-cons (IsExpression names) e (items-the_row-Expr _ rest) all.0 (AllExpressions-items names _ rest all.1)

-- each operand is an expression
pub IsExpression-operands : (names : List NameInfo) (op : Op) (args : List Expr) → IsExpression names (Apply op args) → All (IsExpression names) args
IsExpression-operands names op args is =
    let row = row_of (Apply op args) in
    subst (λ (es : List Expr). All (IsExpression names) es) (items_hidden-the_row-Expr-0 args) (AllExpressions-items names row.0 row.1 is.1)

-- what is read is an access of the table
pub IsExpression-access : (names : List NameInfo) (access : Access) → IsExpression names (Read access) → IsAccess names access
IsExpression-access names access is =
    let row = row_of (Read access) in
    record {
      known = is.0;
      as_many = sym (row_length-items row.0 row.1 ∙ ap length (items_hidden-the_row-Expr-0 access.subs)) ∙ is.1;
      subscripts = subst (λ (es : List Expr). All (IsExpression names) es) (items_hidden-the_row-Expr-0 access.subs) (AllExpressions-items names row.0 row.1 is.2);
    }

-- ---- the classes that the first expressions of a list need

pub record NeedsSoFar {W : ℕ} (t : ClassTable) (es : List Expr) (i : ℕ) (set : ClassSet W) : Type 0 where
  pub sound : (n : ℕ) → holds set n ≡ true → Any (λ e. ExprNeeds t e n) (take i es)
  pub whole : (n : ℕ) → Any (λ e. ExprNeeds t e n) (take i es) → holds set n ≡ true

or_true : (a b : Bool) → (a || b) ≡ true → (a ≡ true) ⊎ (b ≡ true)
or_true true b is = inl refl
or_true false b is = inr is

true_or : (a b : Bool) → a ≡ true → (a || b) ≡ true
true_or true b is = refl
true_or false b is = let e : false ≡ true = is in absurd cc

or_of_true : (a b : Bool) → b ≡ true → (a || b) ≡ true
or_of_true true b is = refl
or_of_true false b is = is

any-prefix : {X : Type 0} (P : X → Type 0) (xs : List X) (y : X) → Any P xs → Any P (xs ++ y ∷ [])
any-prefix P xs y some = (some.0, some.1, (let lt = some.2 in omega (arith, lt, length-append xs (y ∷ []))), get_or_append_left xs (y ∷ []) some.1 some.0 some.2 ∙ some.3, some.4)

any-last : {X : Type 0} (P : X → Type 0) (xs : List X) (y : X) → P y → Any P (xs ++ y ∷ [])
any-last P xs y p = (length xs, y, omega (arith, length-append xs (y ∷ [])), get_or_push xs y y (length xs) refl, p)

any-split : {X : Type 0} (P : X → Type 0) (xs : List X) (y : X) → Any P (xs ++ y ∷ []) → Any P xs ⊎ P y
any-split P xs y some = ⊎_elim
    (λ (l : some.0 < length xs). inl (some.0, some.1, l, sym (get_or_append_left xs (y ∷ []) some.1 some.0 l) ∙ some.3, some.4))
    (λ (m : length xs ≤ some.0).
    let lt = some.2 in
    let last : some.0 ≡ length xs = omega (arith, m, lt, length-append xs (y ∷ [])) in
    inr (subst P (sym some.3 ∙ ap (λ k. get_or (xs ++ y ∷ []) k some.1) last ∙ get_or_push xs y some.1 (length xs) refl) some.4))
    (cases_lt some.0 (length xs))

-- one expression more
pub needs-next : {W : ℕ} (t : ClassTable) (es : List Expr) (i : ℕ) (e : Expr) (set more new : ClassSet W) → i < length es → e ≡ get_or es i e → NeedsSoFar t es i set → ((n : ℕ) → (holds more n ≡ true) ↔ ExprNeeds t e n) → ((n : ℕ) → holds new n ≡ (holds set n || holds more n)) → NeedsSoFar t es (i + 1) new
needs-next t es i e set more new lt at so_far needs united =
    let prefix : take (i + 1) es ≡ take i es ++ e ∷ [] = take_more es i e lt ∙ ap (λ (x : Expr). take i es ++ x ∷ []) (sym at) in
    record {
      sound = λ n is.
          let P = λ (x : Expr). ExprNeeds t x n in
          let whole : Any P (take i es ++ e ∷ []) = ⊎_elim
          (λ here. any-prefix P (take i es) e (so_far.sound n here))
          (λ here. any-last P (take i es) e ((needs n).0 here))
          (or_true (holds set n) (holds more n) (sym (united n) ∙ is))
          in
          subst (λ (xs : List Expr). Any P xs) (sym prefix) whole;
      whole = λ n some.
          let P = λ (x : Expr). ExprNeeds t x n in
          united n ∙ ⊎_elim
          (λ here. true_or (holds set n) (holds more n) (so_far.whole n here))
          (λ here. or_of_true (holds set n) (holds more n) ((needs n).1 here))
          (any-split P (take i es) e (subst (λ (xs : List Expr). Any P xs) prefix some));
    }

-- ---- what an expression is, by its form

pub access_of : (names : List NameInfo) (e : Expr) (access : Access) → IsExpression names e → e ≡ Read access → IsAccess names access
access_of names e access is at = IsExpression-access names access (subst (IsExpression names) at is)

pub operands_of : (names : List NameInfo) (e : Expr) (op : Op) (args : List Expr) → IsExpression names e → e ≡ Apply op args → All (IsExpression names) args
operands_of names e op args is at = IsExpression-operands names op args (subst (IsExpression names) at is)

pub read_needs : (t : ClassTable) (e : Expr) (access : Access) (n : ℕ) → e ≡ Read access → (ExprNeeds t e n → Needs t access n) × (Needs t access n → ExprNeeds t e n)
read_needs t e access n at = (λ needs. Read-needs t n access (subst (λ x. ExprNeeds t x n) at needs), λ needs. subst (λ x. ExprNeeds t x n) (sym at) (needs-Read t n access needs))

pub apply_needs : (t : ClassTable) (e : Expr) (op : Op) (args : List Expr) (n : ℕ) → e ≡ Apply op args → (ExprNeeds t e n → Any (λ x. ExprNeeds t x n) args) × (Any (λ x. ExprNeeds t x n) args → ExprNeeds t e n)
apply_needs t e op args n at = (λ needs. Apply-needs t n op args (subst (λ x. ExprNeeds t x n) at needs), λ needs. subst (λ x. ExprNeeds t x n) (sym at) (needs-Apply t n op args needs))

-- all expressions of a list
pub needs-all : {W : ℕ} (t : ClassTable) (es all : List Expr) (i : ℕ) (set : ClassSet W) → length es ≤ i → es ≡ all → NeedsSoFar t es i set → (n : ℕ) → (holds set n ≡ true) ↔ Any (λ e. ExprNeeds t e n) all
needs-all t es all i set end same so_far n =
    let whole : take i es ≡ all = take_all i es end ∙ same in
    let P = λ (x : Expr). ExprNeeds t x n in
    (λ is. subst (λ (xs : List Expr). Any P xs) whole (so_far.sound n is), λ some. so_far.whole n (subst (λ (xs : List Expr). Any P xs) (sym whole) some))
