-- The operations of operands and subscripts, over rows and over lists.
use Rattle.std.proofs.Common.{◌≡◌, ℕ, suc, ◌+◌, ◌<◌, ℤ, pos, ◌*ℤ◌, List, [], ◌∷◌, length, get_or, map, drop, Option, refl, sym, ap, ◌∙◌, add-one, drop-cons}
use Rattle.op_table.specs.declared.Op.{Op}
use Rattle.f77_tree.specs.declared.declarations.Dim.{Dim}
use Rattle.f77_tree.specs.declared.expressions.Access.{Access}
use Rattle.f77_tree.specs.declared.expressions.Expr.{Expr, Read, Apply, Row_of-Expr, end_of-Expr, more_of-Expr, items-the_row-Expr, items_hidden-the_row-Expr-0}
use Rattle.f77_tree.specs.declared.programs.NameInfo.{NameInfo}
use Rattle.f77_tree.specs.Known.{known, row_known}
use Rattle.f77_tree.specs.Value.{dims_of, extent}
use Rattle.f77_tree.proofs.ExpressionLemmas.{row_of}
use Rattle.op_board.specs.Operations.{Operand, Known, Operation, Compiled, CompiledRow, Load, compiled, row_compiled, place_compiled, place_of_read, place_moved, place_operands, operated, with_operation}
use Rattle.operation_lists.specs.OperandLists.{operands_compiled}

module _ (names : List NameInfo) where
  row-list : (done : List Operation) (n : _) (row : Row_of-Expr n) → row_compiled names done row ≡ operands_compiled names done (items-the_row-Expr n row)
  row-list done n end_of-Expr = refl
  row-list done n (more_of-Expr e rest) =
      let first = compiled names done e in
      ap (λ (c : CompiledRow). record { done = c.done; operands = first.operand ∷ c.operands }) (row-list first.done _ rest)

  -- an operator comes after its operands
  pub compiled-Apply : (done : List Operation) (op : Op) (args : List Expr) → compiled names done (Apply op args) ≡ (let c = operands_compiled names done args in operated c.done op c.operands)
  compiled-Apply done op args =
      let row = row_of (Apply op args) in
      ap (λ (c : CompiledRow). operated c.done op c.operands) (row-list done row.0 row.1 ∙ ap (operands_compiled names done) (items_hidden-the_row-Expr-0 args))

  -- the operations of subscripts in a list
  abbrev pub subscripts_compiled : List Operation → List Dim → (size : ℤ) → Operand → List Expr → Compiled
  subscripts_compiled done dims size place [] = record { done = done; operand = place }
  subscripts_compiled done [] size place (e ∷ rest) = record { done = done; operand = place }
  subscripts_compiled done (dim ∷ dims) size place (e ∷ rest) =
      let next = place_moved place dim size (compiled names done e) in
      subscripts_compiled next.done dims (size *ℤ extent dim) next.operand rest

  place-list : (done : List Operation) (dims : List Dim) (size : ℤ) (place : Operand) (n : _) (row : Row_of-Expr n) → place_compiled names done dims size place row ≡ subscripts_compiled done dims size place (items-the_row-Expr n row)
  place-list done dims size place n end_of-Expr = refl
  place-list done [] size place n (more_of-Expr e rest) = refl
  place-list done (dim ∷ dims) size place n (more_of-Expr e rest) =
      let next = place_moved place dim size (compiled names done e) in
      place-list next.done dims (size *ℤ extent dim) next.operand _ rest

  -- the place of an access, over the list of its subscripts
  pub place-Read : (done : List Operation) (access : Access) → place_of_read names done (Read access) ≡ subscripts_compiled done (dims_of names access.name) (pos 1) (Known (pos 0)) access.subs
  place-Read done access =
      let row = row_of (Read access) in
      place-list done (dims_of names access.name) (pos 1) (Known (pos 0)) row.0 row.1 ∙ ap (subscripts_compiled done (dims_of names access.name) (pos 1) (Known (pos 0))) (items_hidden-the_row-Expr-0 access.subs)

  row_known-items : (n : _) (row : Row_of-Expr n) → row_known row ≡ map known (items-the_row-Expr n row)
  row_known-items n end_of-Expr = refl
  row_known-items n (more_of-Expr e rest) = ap (λ ks. known e ∷ ks) (row_known-items _ rest)

  operands-map : {X Y : Type 0} (f : X → Y) (xs : List X) (place : Operand) → place_operands (map f xs) place ≡ place_operands xs place
  operands-map f [] place = refl
  operands-map f (x ∷ xs) place = refl

  -- a load comes after what its subscripts are
  pub compiled-Read : (done : List Operation) (access : Access) → compiled names done (Read access) ≡ (let place = place_of_read names done (Read access) in with_operation place.done (Load access.name (map known access.subs)) (place_operands access.subs place.operand))
  compiled-Read done access =
      let row = row_of (Read access) in
      let place = place_of_read names done (Read access) in
      let subs : row_known row.1 ≡ map known access.subs = row_known-items row.0 row.1 ∙ ap (map known) (items_hidden-the_row-Expr-0 access.subs) in
      ap (λ (ks : List (Option ℤ)). with_operation place.done (Load access.name ks) (place_operands ks place.operand)) subs
      ∙ ap (with_operation place.done (Load access.name (map known access.subs))) (operands-map known access.subs place.operand)

  -- one subscript more
  pub subscripts-next : (done : List Operation) (dims : List Dim) (es : List Expr) (k : ℕ) (dim : Dim) (e : Expr) (size : ℤ) (place : Operand) (next : Compiled) → k < length dims → dim ≡ get_or dims k dim → k < length es → e ≡ get_or es k e → next ≡ place_moved place dim size (compiled names done e) → subscripts_compiled done (drop k dims) size place (drop k es) ≡ subscripts_compiled next.done (drop (k + 1) dims) (size *ℤ extent dim) next.operand (drop (k + 1) es)
  subscripts-next done dims es k dim e size place next lt_dim at_dim lt_e at_e is =
      ap (λ xs. subscripts_compiled done (drop k dims) size place xs) (drop-cons es k e lt_e ∙ ap (λ x. x ∷ drop (suc k) es) (sym at_e))
      ∙ ap (λ ds. subscripts_compiled done ds size place (e ∷ drop (suc k) es)) (drop-cons dims k dim lt_dim ∙ ap (λ d. d ∷ drop (suc k) dims) (sym at_dim))
      ∙ ap (λ (c : Compiled). subscripts_compiled c.done (drop (suc k) dims) (size *ℤ extent dim) c.operand (drop (suc k) es)) (sym is)
      ∙ ap (λ j. subscripts_compiled next.done (drop j dims) (size *ℤ extent dim) next.operand (drop j es)) (sym (add-one k))
