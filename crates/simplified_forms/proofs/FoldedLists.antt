-- Folded expressions, over lists of operands and subscripts.
use Rattle.std.proofs.Common.{◌≡◌, ℕ, ◌+◌, ◌<◌, ℤ, Bool, List, [], ◌∷◌, ◌++◌, length, get_or, map, take, Option, Some, None, Result, Ok, Err, refl, sym, ap, ◌∙◌}
use Rattle.std.specs.Prelude.{IfOk}
use Rattle.std.proofs.lemmas.List.{take_more, map-append}
use mathlib.Core.Former.{Count}
use Rattle.op_table.specs.declared.Op.{Op}
use Rattle.op_table.specs.Known.{folded as known_result}
use Rattle.f77_tree.specs.declared.declarations.Kind.{Kind}
use Rattle.f77_tree.specs.declared.expressions.Access.{Access}
use Rattle.f77_tree.specs.declared.expressions.Expr.{Expr, Read, Read', Apply, Apply', Row_of-Expr, end_of-Expr, more_of-Expr, items-the_row-Expr, items_hidden-the_row-Expr-0}
use Rattle.f77_tree.specs.declared.programs.NameInfo.{NameInfo}
use Rattle.f77_tree.specs.KnownWith.{known_with, row_known_with}
use Rattle.f77_tree.specs.Line.{kind_of_expression}
use Rattle.simplified_forms.specs.Literals.{literal, literal_or}
use Rattle.simplified_forms.specs.Folding.{folded, row_folded, known_or}

-- the row after a list of operands or subscripts
abbrev row_of : Expr → (n : Count) × Row_of-Expr n
row_of (Read' _ _ row) = (_, row)
row_of (Apply' _ _ row) = (_, row)
row_of _ = (_, end_of-Expr)

-- an access at other subscripts
abbrev pub access_at : Access → List Expr → Access
access_at access subs = record { name = access.name; subs = subs }

-- what follows from what an answer says
pub if_ok-map : {A E : Type 0} (P Q : A → Type 0) (r : Result A E) → ((x : A) → P x → Q x) → IfOk r P → IfOk r Q
if_ok-map P Q (Ok x) f h = f x h
if_ok-map P Q (Err e) f h = h

-- one more of a list
pub map-more : {X : Type 0} (f : Expr → X) (es : List Expr) (i : ℕ) (e : Expr) (xs : List X) → i < length es → e ≡ get_or es i e → xs ≡ map f (take i es) → xs ++ f e ∷ [] ≡ map f (take (i + 1) es)
map-more {X} f es i e xs lt at so_far =
    ap (λ (ys : List X). ys ++ f e ∷ []) so_far
    ∙ sym (map-append f (take i es) (e ∷ []))
    ∙ ap (λ (x : Expr). map f (take i es ++ x ∷ [])) at
    ∙ ap (map f) (sym (take_more es i e lt))

module _ (names : List NameInfo) (words : ℕ → Option ℤ) where
  row_known_with-items : (m : _) (row : Row_of-Expr m) → row_known_with names words row ≡ map (known_with names words) (items-the_row-Expr m row)
  row_known_with-items m end_of-Expr = refl
  row_known_with-items m (more_of-Expr e rest) = ap (λ ks. known_with names words e ∷ ks) (row_known_with-items _ rest)

  pub known_with-Apply : (op : Op) (args : List Expr) → known_with names words (Apply op args) ≡ known_result op (map (known_with names words) args)
  known_with-Apply op args =
      let row = row_of (Apply op args) in
      ap (known_result op) (row_known_with-items row.0 row.1 ∙ ap (map (known_with names words)) (items_hidden-the_row-Expr-0 args))

module _ (names : List NameInfo) (checked : Bool) (words : ℕ → Option ℤ) where
  pub row_folded-items : (m : _) (row : Row_of-Expr m) → row_folded names checked words row ≡ map (folded names checked words) (items-the_row-Expr m row)
  row_folded-items m end_of-Expr = refl
  row_folded-items m (more_of-Expr e rest) = ap (λ es. folded names checked words e ∷ es) (row_folded-items _ rest)

  row_folded-list : (e : Expr) (es : List Expr) → items-the_row-Expr (row_of e).0 (row_of e).1 ≡ es → row_folded names checked words (row_of e).1 ≡ map (folded names checked words) es
  row_folded-list e es are = row_folded-items (row_of e).0 (row_of e).1 ∙ ap (map (folded names checked words)) are

  pub folded-Apply : (op : Op) (args : List Expr) → folded names checked words (Apply op args) ≡ known_or names checked words (Apply op args) (Apply op (map (folded names checked words) args))
  folded-Apply op args = ap (λ (es : List Expr). known_or names checked words (Apply op args) (Apply op es)) (row_folded-list (Apply op args) args (items_hidden-the_row-Expr-0 args))

  pub folded-Read : (access : Access) → folded names checked words (Read access) ≡ known_or names checked words (Read access) (Read (access_at access (map (folded names checked words) access.subs)))
  folded-Read access = ap (λ (es : List Expr). known_or names checked words (Read access) (Read (access_at access es))) (row_folded-list (Read access) access.subs (items_hidden-the_row-Expr-0 access.subs))

  -- ---- what is made of an expression, by what is known of it

  literal-known : (kind : Kind) (z : ℤ) (told : Option ℤ) (e other : Expr) → told ≡ Some z → e ≡ literal checked kind z → e ≡ literal_or checked kind told other
  literal-known kind z told e other is made = made ∙ ap (λ (o : Option ℤ). literal_or checked kind o other) (sym is)

  other-unknown : (kind : Kind) (told : Option ℤ) (other : Expr) → told ≡ None → other ≡ literal_or checked kind told other
  other-unknown kind told other is = ap (λ (o : Option ℤ). literal_or checked kind o other) (sym is)

  pub read-unknown : (e : Expr) (access : Access) (subs : List Expr) → e ≡ Read access → known_with names words e ≡ None → subs ≡ map (folded names checked words) access.subs → Read (access_at access subs) ≡ folded names checked words e
  read-unknown e access subs is told are =
      ap (λ (es : List Expr). Read (access_at access es)) are
      ∙ other-unknown (kind_of_expression names (Read access)) (known_with names words (Read access)) (Read (access_at access (map (folded names checked words) access.subs))) (ap (known_with names words) (sym is) ∙ told)
      ∙ sym (folded-Read access)
      ∙ ap (folded names checked words) (sym is)

  -- what is known of an operator
  pub operator-told : (e : Expr) (op : Op) (args : List Expr) (known : List (Option ℤ)) (told : Option ℤ) → e ≡ Apply op args → known ≡ map (known_with names words) args → told ≡ known_result op known → told ≡ known_with names words e
  operator-told e op args known told is are told_is = told_is ∙ ap (known_result op) are ∙ sym (known_with-Apply names words op args) ∙ ap (known_with names words) (sym is)

  pub operator-known : (e made : Expr) (op : Op) (args : List Expr) (z : ℤ) → e ≡ Apply op args → known_with names words e ≡ Some z → made ≡ literal checked (kind_of_expression names e) z → made ≡ folded names checked words e
  operator-known e made op args z is told made_is =
      literal-known (kind_of_expression names (Apply op args)) z (known_with names words (Apply op args)) made (Apply op (map (folded names checked words) args)) (ap (known_with names words) (sym is) ∙ told) (made_is ∙ ap (λ x. literal checked (kind_of_expression names x) z) is)
      ∙ sym (folded-Apply op args)
      ∙ ap (folded names checked words) (sym is)

  pub operator-unknown : (e : Expr) (op : Op) (args trees : List Expr) → e ≡ Apply op args → known_with names words e ≡ None → trees ≡ map (folded names checked words) args → Apply op trees ≡ folded names checked words e
  operator-unknown e op args trees is told are =
      ap (λ (es : List Expr). Apply op es) are
      ∙ other-unknown (kind_of_expression names (Apply op args)) (known_with names words (Apply op args)) (Apply op (map (folded names checked words) args)) (ap (known_with names words) (sym is) ∙ told)
      ∙ sym (folded-Apply op args)
      ∙ ap (folded names checked words) (sym is)
