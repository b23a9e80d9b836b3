-- What can trap but in excepted subscripts, over lists.
use Rattle.std.proofs.Common.{◌≡◌, ℕ, ◌≤◌, ℤ, List, [], ◌∷◌, length, map, take, drop, Option, Bool, true, false, Any, inl, inr, ⊎_elim, refl, sym, ap, subst, ◌∙◌, arith}
use Rattle.std.specs.Prelude.{◌⊎◌, ◌↔◌, IsTrue}
use Rattle.std.proofs.lemmas.List.{take_all}
use Rattle.op_table.specs.declared.Op.{Op}
use Rattle.op_table.specs.Known.{CanTrap}
use Rattle.f77_tree.specs.declared.declarations.Dim.{Dim}
use Rattle.f77_tree.specs.declared.expressions.Access.{Access}
use Rattle.f77_tree.specs.declared.expressions.Expr.{Expr, Read, Apply, Row_of-Expr, end_of-Expr, more_of-Expr, items-the_row-Expr, items_hidden-the_row-Expr-0}
use Rattle.f77_tree.specs.declared.programs.NameInfo.{NameInfo}
use Rattle.f77_tree.specs.Known.{known, row_known, MayTrapBut, SomeMayTrap, SubscriptsMayTrap, SubscriptMayTrap, AccessMayTrapBut}
use Rattle.f77_tree.specs.Value.{dims_of}
use Rattle.f77_tree.proofs.AllLemmas.{Any-first, Any-rest}
use Rattle.f77_tree.proofs.ExpressionLemmas.{row_of}
use Rattle.alias_classes.proofs.Rows.{any-first}

row_known-items : (n : _) (row : Row_of-Expr n) → row_known row ≡ map known (items-the_row-Expr n row)
row_known-items n end_of-Expr = refl
row_known-items n (more_of-Expr e rest) = ap (λ ks. known e ∷ ks) (row_known-items _ rest)

pub any-none : {X : Type 0} (P : X → Type 0) → Any P [] → ⊥
any-none P some = let lt = some.2 in omega (arith, lt)

module _ (excepted : Expr → Dim → Type 0) (names : List NameInfo) where
  abbrev May : Expr → Type 0
  May e = MayTrapBut excepted names e

  row-some : (n : _) (row : Row_of-Expr n) → SomeMayTrap excepted names row → Any May (items-the_row-Expr n row)
  row-some n end_of-Expr some = absurd some
  row-some n (more_of-Expr e rest) (inl here) = Any-first May e (items-the_row-Expr _ rest) here
  row-some n (more_of-Expr e rest) (inr later) = Any-rest May e (items-the_row-Expr _ rest) (row-some _ rest later)

  some-row : (n : _) (row : Row_of-Expr n) → Any May (items-the_row-Expr n row) → SomeMayTrap excepted names row
  some-row n end_of-Expr some = absurd (any-none May some)
  some-row n (more_of-Expr e rest) some = ⊎_elim (λ here. inl here) (λ later. inr (some-row _ rest later)) (any-first May e (items-the_row-Expr _ rest) some)

  -- an operator can trap where an operand can, or where it can by what is known of them
  pub Apply-traps : (op : Op) (args : List Expr) → MayTrapBut excepted names (Apply op args) ↔ (Any (MayTrapBut excepted names) args ⊎ CanTrap op (map known args))
  Apply-traps op args =
      let row = row_of (Apply op args) in
      let items = items_hidden-the_row-Expr-0 args in
      let ks : row_known row.1 ≡ map known args = row_known-items row.0 row.1 ∙ ap (map known) items in (
        λ may. ⊎_elim
            (λ some. inl (subst (λ (es : List Expr). Any May es) items (row-some row.0 row.1 some)))
            (λ can. inr (subst (CanTrap op) ks can))
            may,
        λ may. ⊎_elim
            (λ some. inl (some-row row.0 row.1 (subst (λ (es : List Expr). Any May es) (sym items) some)))
            (λ can. inr (subst (CanTrap op) (sym ks) can))
            may,
      )

  -- the subscript of a dimension can trap
  abbrev pub OneMayTrap : Dim → Expr → Type 0
  OneMayTrap dim e = SubscriptMayTrap excepted dim e (MayTrapBut excepted names e)

  -- something in the subscripts of these dimensions can trap, over lists
  abbrev pub ListMayTrap : List Dim → List Expr → Type 0
  ListMayTrap dims [] = ⊥
  ListMayTrap [] (e ∷ rest) = MayTrapBut excepted names e ⊎ ListMayTrap [] rest
  ListMayTrap (dim ∷ dims) (e ∷ rest) = OneMayTrap dim e ⊎ ListMayTrap dims rest

  row-list : (dims : List Dim) (n : _) (row : Row_of-Expr n) → SubscriptsMayTrap excepted names dims row → ListMayTrap dims (items-the_row-Expr n row)
  row-list dims n end_of-Expr may = absurd may
  row-list [] n (more_of-Expr e rest) may = ⊎_elim (λ here. inl here) (λ later. inr (row-list [] _ rest later)) may
  row-list (dim ∷ dims) n (more_of-Expr e rest) may = ⊎_elim (λ (here : OneMayTrap dim e). inl here) (λ later. inr (row-list dims _ rest later)) may

  list-row : (dims : List Dim) (n : _) (row : Row_of-Expr n) → ListMayTrap dims (items-the_row-Expr n row) → SubscriptsMayTrap excepted names dims row
  list-row dims n end_of-Expr may = absurd may
  list-row [] n (more_of-Expr e rest) may = ⊎_elim (λ here. inl here) (λ later. inr (list-row [] _ rest later)) may
  list-row (dim ∷ dims) n (more_of-Expr e rest) may = ⊎_elim (λ (here : OneMayTrap dim e). inl here) (λ later. inr (list-row dims _ rest later)) may

  -- an access can trap in its subscripts, or at their bounds
  pub access-traps : (access : Access) → AccessMayTrapBut excepted names access ↔ ListMayTrap (dims_of names access.name) access.subs
  access-traps access =
      let row = row_of (Read access) in
      let dims = dims_of names access.name in
      let items = items_hidden-the_row-Expr-0 access.subs in (
        λ may. subst (λ (es : List Expr). ListMayTrap dims es) items (row-list dims row.0 row.1 may),
        λ may. list-row dims row.0 row.1 (subst (λ (es : List Expr). ListMayTrap dims es) (sym items) may),
      )

  -- the subscripts from k on
  abbrev pub TrapsFrom : List Dim → List Expr → ℕ → Type 0
  TrapsFrom dims subs k = ListMayTrap (drop k dims) (drop k subs)

  -- ---- an operator, after all its operands

  -- it can trap where an operand can
  pub operator-can : (e : Expr) (op : Op) (args items : List Expr) (i : ℕ) (risk : Bool) → e ≡ Apply op args → items ≡ args → length items ≤ i → IsTrue risk ↔ Any (MayTrapBut excepted names) (take i items) → risk ≡ true → IsTrue risk ↔ MayTrapBut excepted names e
  operator-can e op args items i risk is same end risks holds =
      let some : Any May args = subst (λ (es : List Expr). Any May es) (take_all i items end ∙ same) (risks.0 holds) in
      (λ _. subst (λ (x : Expr). May x) (sym is) ((Apply-traps op args).1 (inl some)), λ _. holds)

  -- where none can, it can by what is known of them
  pub operator-may-trap : (e : Expr) (op : Op) (args items : List Expr) (i : ℕ) (ks : List (Option ℤ)) (risk r : Bool) → e ≡ Apply op args → items ≡ args → length items ≤ i → ks ≡ map known (take i items) → IsTrue risk ↔ Any (MayTrapBut excepted names) (take i items) → risk ≡ false → IsTrue r ↔ CanTrap op ks → IsTrue r ↔ MayTrapBut excepted names e
  operator-may-trap e op args items i ks risk r is same end are risks none told =
      let whole : take i items ≡ args = take_all i items end ∙ same in
      let known_are : ks ≡ map known args = are ∙ ap (map known) whole in
      let both = Apply-traps op args in (
        λ holds. subst (λ (x : Expr). May x) (sym is) (both.1 (inr (subst (CanTrap op) known_are (told.0 holds)))),
        λ may. ⊎_elim
            (λ some. let e : false ≡ true = sym none ∙ risks.1 (subst (λ (es : List Expr). Any May es) (sym whole) some) in absurd cc)
            (λ can. told.1 (subst (CanTrap op) (sym known_are) can))
            (both.0 (subst (λ (x : Expr). May x) is may)),
      )
