-- Expressions in which temporaries stand for shared candidates, over lists of operands and subscripts.
use Rattle.std.proofs.Common.{◌≡◌, ℕ, Bool, true, false, List, ◌∷◌, map, Option, Some, None, refl, sym, ap, ◌∙◌}
use Rattle.std.specs.Option.{option_and_then}
use Rattle.std.specs.Prelude.{if◌then◌else◌}
use mathlib.Core.Former.{Count}
use Rattle.op_table.specs.declared.Op.{Op}
use Rattle.f77_tree.specs.declared.expressions.Access.{Access}
use Rattle.f77_tree.specs.declared.expressions.Expr.{Expr, Read, Read', Apply, Apply', Row_of-Expr, end_of-Expr, more_of-Expr, items-the_row-Expr, items_hidden-the_row-Expr-0}
use Rattle.f77_tree.specs.declared.programs.Program.{Program}
use Rattle.redundancy.specs.Available.{Availability}
use Rattle.shared_forms.specs.Numbered.{name_alone, number_of, temporary_of}
use Rattle.shared_forms.specs.Shared.{is_shared, replaced, replaced_access, row_replaced, temporary, temporary_or}

abbrev row_of : Expr → (n : Count) × Row_of-Expr n
row_of (Read' _ _ row) = (_, row)
row_of (Apply' _ _ row) = (_, row)
row_of _ = (_, end_of-Expr)

-- a number by which a candidate is told
abbrev told_by : (b : Bool) → ℕ → Option ℕ
told_by b n = if b then Some n else None

choice_none : (b : Bool) (t : ℕ) (other : Expr) → told_by b t ≡ None → (if b then Read (name_alone t) else other) ≡ other
choice_none true t other h = let e : Some t ≡ None = h in absurd cc
choice_none false t other h = refl

module _ (q : Program) (a : Availability) where
  row_replaced-items : (m : _) (row : Row_of-Expr m) → row_replaced q a (number_of a) row ≡ map (replaced q a (number_of a)) (items-the_row-Expr m row)
  row_replaced-items m end_of-Expr = refl
  row_replaced-items m (more_of-Expr e rest) = ap (λ (es : List Expr). replaced q a (number_of a) e ∷ es) (row_replaced-items _ rest)

  row_replaced-list : (e : Expr) (es : List Expr) → items-the_row-Expr (row_of e).0 (row_of e).1 ≡ es → row_replaced q a (number_of a) (row_of e).1 ≡ map (replaced q a (number_of a)) es
  row_replaced-list e es are = row_replaced-items (row_of e).0 (row_of e).1 ∙ ap (map (replaced q a (number_of a))) are

  pub replaced-Apply : (op : Op) (args : List Expr) → replaced q a (number_of a) (Apply op args) ≡ temporary_or q a (number_of a) (number_of a (Apply op args)) (Apply op (map (replaced q a (number_of a)) args))
  replaced-Apply op args = ap (λ (es : List Expr). temporary_or q a (number_of a) (number_of a (Apply op args)) (Apply op es)) (row_replaced-list (Apply op args) args (items_hidden-the_row-Expr-0 args))

  pub replaced-Read : (e : Expr) (access : Access) → e ≡ Read access → Read (replaced_access q a (number_of a) access) ≡ replaced q a (number_of a) e
  replaced-Read e access is =
      sym (ap (λ (es : List Expr). Read (record { name = access.name; subs = es })) (row_replaced-list (Read access) access.subs (items_hidden-the_row-Expr-0 access.subs)))
      ∙ ap (replaced q a (number_of a)) (sym is)

  or_none : (o : Option ℕ) (other : Expr) → option_and_then (temporary_of q a) o ≡ None → temporary_or q a (number_of a) o other ≡ other
  or_none None other h = refl
  or_none (Some n) other h = choice_none (is_shared q a (number_of a) n) (temporary q a (number_of a) n) other h

  pub replaced-other : (e : Expr) (op : Op) (args trees : List Expr) (told : Option ℕ) → e ≡ Apply op args → told ≡ option_and_then (temporary_of q a) (number_of a e) → told ≡ None → trees ≡ map (replaced q a (number_of a)) args → Apply op trees ≡ replaced q a (number_of a) e
  replaced-other e op args trees told is are none trees_are =
      ap (λ (es : List Expr). Apply op es) trees_are
      ∙ sym (or_none (number_of a (Apply op args)) (Apply op (map (replaced q a (number_of a)) args)) (ap (λ (x : Expr). option_and_then (temporary_of q a) (number_of a x)) (sym is) ∙ sym are ∙ none))
      ∙ sym (replaced-Apply op args)
      ∙ ap (replaced q a (number_of a)) (sym is)

  -- an operator that is no candidate, over operands in which nothing is replaced
  pub replaced-untold : (op : Op) (args : List Expr) → number_of a (Apply op args) ≡ None → map (replaced q a (number_of a)) args ≡ args → replaced q a (number_of a) (Apply op args) ≡ Apply op args
  replaced-untold op args none same =
      replaced-Apply op args
      ∙ ap (λ (o : Option ℕ). temporary_or q a (number_of a) o (Apply op (map (replaced q a (number_of a)) args))) none
      ∙ ap (Apply op) same
