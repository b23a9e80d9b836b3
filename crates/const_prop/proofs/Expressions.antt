-- Expressions over lists of operands and subscripts.
use Rattle.std.proofs.Common.{◌≡◌, ℕ, zero, suc, ◌+◌, ◌<◌, ◌≤◌, List, [], ◌∷◌, ◌++◌, length, get_or, map, take, All, Option, ℤ, refl, sym, ap, subst, ◌∙◌, arith}
use Rattle.std.specs.Option.{option_map, option_and_then}
use Rattle.std.proofs.lemmas.List.{take_more, take_all, map-append}
use mathlib.Core.Former.{Count}
use Rattle.op_table.specs.declared.Op.{Op}
use Rattle.op_table.specs.Operators.{arity_of}
use Rattle.op_table.specs.Known.{folded}
use Rattle.f77_tree.specs.declared.expressions.Access.{Access}
use Rattle.f77_tree.specs.declared.expressions.Expr.{Expr, Read, Read', Apply, Apply', Row_of-Expr, end_of-Expr, more_of-Expr, items-the_row-Expr, items_hidden-the_row-Expr-0}
use Rattle.f77_tree.specs.declared.programs.NameInfo.{NameInfo}
use Rattle.f77_tree.specs.Known.{known, row_known}
use Rattle.f77_tree.specs.KnownWith.{known_with, row_known_with, known_word}
use Rattle.f77_tree.specs.Value.{row_length, kind_of, read_as, IsExpression, AllExpressions, IsAccess}

-- the row after a list of operands or subscripts
abbrev row_of : Expr → (n : Count) × Row_of-Expr n
row_of (Read' _ _ row) = (_, row)
row_of (Apply' _ _ row) = (_, row)
row_of _ = (_, end_of-Expr)

row_known-items : (m : _) (row : Row_of-Expr m) → row_known row ≡ map known (items-the_row-Expr m row)
row_known-items m end_of-Expr = refl
row_known-items m (more_of-Expr e rest) = ap (λ ks. known e ∷ ks) (row_known-items _ rest)

pub row_known-list : (access : Access) → row_known (row_of (Read access)).1 ≡ map known access.subs
row_known-list access =
    let row = row_of (Read access) in
    row_known-items row.0 row.1 ∙ ap (map known) (items_hidden-the_row-Expr-0 access.subs)

module _ (names : List NameInfo) (words : ℕ → Option ℤ) where
  row_known_with-items : (m : _) (row : Row_of-Expr m) → row_known_with names words row ≡ map (known_with names words) (items-the_row-Expr m row)
  row_known_with-items m end_of-Expr = refl
  row_known_with-items m (more_of-Expr e rest) = ap (λ ks. known_with names words e ∷ ks) (row_known_with-items _ rest)

  pub known_with-Apply : (op : Op) (args : List Expr) → known_with names words (Apply op args) ≡ folded op (map (known_with names words) args)
  known_with-Apply op args =
      let row = row_of (Apply op args) in
      ap (folded op) (row_known_with-items row.0 row.1 ∙ ap (map (known_with names words)) (items_hidden-the_row-Expr-0 args))

  pub known_with-Read : (access : Access) → known_with names words (Read access) ≡ option_map (read_as (kind_of names access.name)) (option_and_then words (known_word names access.name (map known access.subs)))
  known_with-Read access = ap (λ (ks : List (Option ℤ)). option_map (read_as (kind_of names access.name)) (option_and_then words (known_word names access.name ks))) (row_known-list access)

  pub known_with-more : (es : List Expr) (i : ℕ) (e : Expr) (ks : List (Option ℤ)) → i < length es → e ≡ get_or es i e → ks ≡ map (known_with names words) (take i es) → ks ++ known_with names words e ∷ [] ≡ map (known_with names words) (take (i + 1) es)
  known_with-more es i e ks lt at so_far =
      let f = known_with names words in
      ap (λ (xs : List (Option ℤ)). xs ++ f e ∷ []) so_far
      ∙ sym (map-append f (take i es) (e ∷ []))
      ∙ ap (λ (x : Expr). map f (take i es ++ x ∷ [])) at
      ∙ ap (map f) (sym (take_more es i e lt))

  pub operator-known : (e : Expr) (op : Op) (args items : List Expr) (i : ℕ) (ks : List (Option ℤ)) (r : Option ℤ) → e ≡ Apply op args → items ≡ args → length items ≤ i → ks ≡ map (known_with names words) (take i items) → r ≡ folded op ks → r ≡ known_with names words e
  operator-known e op args items i ks r is same end are told =
      told
      ∙ ap (folded op) (are ∙ ap (map (known_with names words)) (take_all i items end ∙ same))
      ∙ sym (known_with-Apply op args)
      ∙ ap (known_with names words) (sym is)

-- ---- expressions that fit the table of names

row_length-items : (n : _) (row : Row_of-Expr n) → row_length row ≡ length (items-the_row-Expr n row)
row_length-items n end_of-Expr = refl
row_length-items n (more_of-Expr e rest) = ap suc (row_length-items _ rest)

All-cons : {X : Type 0} (P : X → Type 0) (x : X) (xs : List X) → P x → All P xs → (k : ℕ) (d : X) → k < length (x ∷ xs) → P (get_or (x ∷ xs) k d)
All-cons P x xs here all zero d lt = here
All-cons P x xs here all (suc k) d lt = all k d (omega (arith, lt))

AllExpressions-items : (names : List NameInfo) (n : _) (row : Row_of-Expr n) → AllExpressions names row → All (IsExpression names) (items-the_row-Expr n row)
AllExpressions-items names n end_of-Expr all = λ k d lt. absurd (omega (arith, lt))
AllExpressions-items names n (more_of-Expr e rest) all = All-cons (IsExpression names) e (items-the_row-Expr _ rest) all.0 (AllExpressions-items names _ rest all.1)

-- each operand is an expression
pub IsExpression-operands : (names : List NameInfo) (op : Op) (args : List Expr) → IsExpression names (Apply op args) → All (IsExpression names) args
IsExpression-operands names op args is =
    let row = row_of (Apply op args) in
    subst (λ (es : List Expr). All (IsExpression names) es) (items_hidden-the_row-Expr-0 args) (AllExpressions-items names row.0 row.1 is.1)

pub IsExpression-arity : (names : List NameInfo) (op : Op) (args : List Expr) → IsExpression names (Apply op args) → length args ≡ arity_of op
IsExpression-arity names op args is =
    let row = row_of (Apply op args) in
    sym (row_length-items row.0 row.1 ∙ ap length (items_hidden-the_row-Expr-0 args)) ∙ is.0

-- what is read is an access of the table
pub IsExpression-access : (names : List NameInfo) (access : Access) → IsExpression names (Read access) → IsAccess names access
IsExpression-access names access is =
    let row = row_of (Read access) in
    record {
      known = is.0;
      as_many = sym (row_length-items row.0 row.1 ∙ ap length (items_hidden-the_row-Expr-0 access.subs)) ∙ is.1;
      subscripts = subst (λ (es : List Expr). All (IsExpression names) es) (items_hidden-the_row-Expr-0 access.subs) (AllExpressions-items names row.0 row.1 is.2);
    }
