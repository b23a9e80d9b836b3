-- What an expression needs, some operation of it needs.
use Rattle.std.proofs.Common.{◌≡◌, ◌⊎◌, ℕ, suc, ℤ, pos, ◌*ℤ◌, Bool, true, false, List, [], ◌∷◌, ◌++◌, length, map, Option, Some, None, slice_get, refl, sym, ap, ◌∙◌, subst, inl, inr, arith}
use Rattle.std.specs.Prelude.{is_err}
use Rattle.std.specs.Option.{option_map}
use Rattle.op_table.specs.declared.Op.{Op}
use Rattle.op_table.specs.declared.Op.TheVariants.{Bound, Place}
use Rattle.op_table.specs.Known.{CanTrap, MayAllBe, all_known, folded}
use Rattle.op_table.specs.Operators.{applied}
use Rattle.op_table.proofs.Laws.{folded-some}
use Rattle.f77_tree.specs.declared.declarations.Dim.{Dim}
use Rattle.f77_tree.specs.declared.expressions.Expr.{Expr, Row_of-Expr, end_of-Expr, more_of-Expr}
use Rattle.f77_tree.specs.declared.expressions.Expr.TheVariants.{Const, Truth, Input, Read', Apply'}
use Rattle.f77_tree.specs.declared.programs.NameInfo.{NameInfo}
use Rattle.f77_tree.specs.Known.{MayTrap, SomeMayTrap, SubscriptsMayTrap, known, none, row_known}
use Rattle.f77_tree.specs.Value.{AllExpressions, IsExpression, dims_of, extent, row_length}
use Rattle.alias_classes.specs.Classes.{ClassTable}
use Rattle.alias_classes.specs.Needs.{ExprNeeds, SomeNeeds}
use Rattle.net_board.proofs.ListPrefixes.{get_left}
use Rattle.op_board.specs.Needs.{OperationNeeds}
use Rattle.op_board.specs.Operations.{Operand, Known, Load, Operate, Take, Operation, known_of, Compiled, operated_by, operated, place_moved, place_operands, compiled, row_compiled, place_compiled}

-- ---- what is known of operands

operated_by_known : (done : List Operation) (op : Op) (operands : List Operand) (o : Option ℤ) → known_of (operated_by done op operands o).operand ≡ o
operated_by_known done op operands None = refl
operated_by_known done op operands (Some z) = refl

module _ (names : List NameInfo) where
  mutual
    -- what is known of an expression is known of the operand that it is
    pub known_same : (e : Expr) (done : List Operation) → known_of (compiled names done e).operand ≡ known e
    known_same (Const z) done = refl
    known_same (Truth b) done = refl
    known_same Input done = refl
    known_same (Read' name shape subs) done = refl
    known_same (Apply' op shape args) done =
        let row = row_compiled names done args in
        operated_by_known row.done op row.operands (folded op (map known_of row.operands)) ∙ ap (folded op) (known_row _ args done)

    pub known_row : (m : _) (row : Row_of-Expr m) (done : List Operation) → map known_of (row_compiled names done row).operands ≡ row_known row
    known_row m end_of-Expr done = refl
    known_row m (more_of-Expr e rest) done =
        let first = compiled names done e in
        ap (λ k. k ∷ map known_of (row_compiled names first.done rest).operands) (known_same e done) ∙ ap (λ ks. known e ∷ ks) (known_row _ rest first.done)

-- operands that are all known may be those alone
same_known : (ks : List (Option ℤ)) (xs ys : List ℤ) → all_known ks ≡ Some xs → MayAllBe ks ys → ys ≡ xs
same_known [] xs [] is may = cc
same_known [] xs (y ∷ ys) is may = absurd may
same_known (None ∷ ks) xs ys is may = let no : None ≡ Some xs = is in absurd cc
same_known (Some k ∷ ks) xs [] is may = absurd may
same_known (Some k ∷ ks) xs (y ∷ ys) is may = by (λ more was. same_known ks more ys was may.1) (all_known ks) refl is
  where
    by : ((more : List ℤ) → all_known ks ≡ Some more → ys ≡ more) → (o : Option (List ℤ)) → all_known ks ≡ o → option_map (λ (more : List ℤ). k ∷ more) o ≡ Some xs → (y ∷ ys) ≡ xs
    by rest None was e = let no : None ≡ Some xs = e in absurd cc
    by rest (Some more) was e =
        let same : k ∷ more ≡ xs = cc in
        ap (λ z. z ∷ ys) may.0 ∙ ap (λ zs. k ∷ zs) (rest more was) ∙ same

-- the value of an operator that can trap isn't known
pub can_trap_unknown : (op : Op) (ks : List (Option ℤ)) → CanTrap op ks → folded op ks ≡ None
can_trap_unknown op ks can = by (folded op ks) refl
  where
    by : (o : Option ℤ) → folded op ks ≡ o → o ≡ None
    by None is = refl
    by (Some z) is =
        let value = folded-some op ks z is in
        let same = same_known ks value.args can.args value.are_known can.words in
        let fails : true ≡ false = sym can.traps ∙ ap is_err (ap (applied op) same ∙ value.value) in
        absurd cc

-- ---- an operation of a list

pub record OneIs (P : Operation → Type 0) (ops : List Operation) : Type 0 where
  pub number : ℕ
  pub operation : Operation
  pub at : slice_get ops number ≡ Some operation
  pub is : P operation

pub get_last : {X : Type 0} (xs : List X) (x : X) → slice_get (xs ++ x ∷ []) (length xs) ≡ Some x
get_last [] x = refl
get_last (y ∷ ys) x = get_last ys x

module _ (P : Operation → Type 0) where
  pub one_before : (done : List Operation) (added : Operation) → OneIs P done → OneIs P (done ++ added ∷ [])
  one_before done added one = record { number = one.number; operation = one.operation; at = get_left done (added ∷ []) one.number one.operation one.at; is = one.is }

  pub one_added : (done : List Operation) (added : Operation) → P added → OneIs P (done ++ added ∷ [])
  one_added done added is = record { number = length done; operation = added; at = get_last done added; is = is }

  operated_by_before : (done : List Operation) (op : Op) (operands : List Operand) (o : Option ℤ) → OneIs P done → OneIs P (operated_by done op operands o).done
  operated_by_before done op operands None one = one_before done (record { work = Operate op; operands = operands }) one
  operated_by_before done op operands (Some z) one = one

  pub operated_before : (done : List Operation) (op : Op) (operands : List Operand) → OneIs P done → OneIs P (operated done op operands).done
  operated_before done op operands one = operated_by_before done op operands (folded op (map known_of operands)) one

  pub operated_added : (done : List Operation) (op : Op) (operands : List Operand) → folded op (map known_of operands) ≡ None → P (record { work = Operate op; operands = operands }) → OneIs P (operated done op operands).done
  operated_added done op operands unknown is =
      subst (λ (o : Option ℤ). OneIs P (operated_by done op operands o).done) (sym unknown) (one_added done (record { work = Operate op; operands = operands }) is)

  pub moved_before : (place : Operand) (dim : Dim) (size : ℤ) (sub : Compiled) → OneIs P sub.done → OneIs P (place_moved place dim size sub).done
  moved_before place dim size sub one =
      let bounds : List Operand = sub.operand ∷ Known dim.lo ∷ Known dim.hi ∷ [] in
      let offset = operated sub.done Bound bounds in
      operated_before offset.done Place (place ∷ offset.operand ∷ Known size ∷ []) (operated_before sub.done Bound bounds one)

-- ---- classes

module _ (names : List NameInfo) (c : ClassTable) (touches : ℕ → Bool) (n : ℕ) where
  abbrev pub NeedsLine : Operation → Type 0
  NeedsLine op = OperationNeeds c touches op (suc n)

  mutual
    -- a class that the expression needs, or an operation before it
    pub class_needed : (e : Expr) (done : List Operation) → IsExpression names e → OneIs NeedsLine done ⊎ ExprNeeds c e (suc n) → OneIs NeedsLine (compiled names done e).done
    class_needed (Const z) done is (inl one) = one
    class_needed (Const z) done is (inr need) = absurd need
    class_needed (Truth b) done is (inl one) = one
    class_needed (Truth b) done is (inr need) = absurd need
    class_needed Input done is (inl one) = one_before NeedsLine done (record { work = Take; operands = [] }) one
    class_needed Input done is (inr need) = absurd need
    class_needed (Read' name shape subs) done is (inl one) =
        let place = place_compiled names done (dims_of names name) (pos 1) (Known (pos 0)) subs in
        one_before NeedsLine place.done (record { work = Load name (row_known subs); operands = place_operands (row_known subs) place.operand })
        (class_of_place _ subs done (dims_of names name) (pos 1) (Known (pos 0)) is.1 is.2 (inl one))
    class_needed (Read' name shape subs) done is (inr (inl some)) =
        let place = place_compiled names done (dims_of names name) (pos 1) (Known (pos 0)) subs in
        one_before NeedsLine place.done (record { work = Load name (row_known subs); operands = place_operands (row_known subs) place.operand })
        (class_of_place _ subs done (dims_of names name) (pos 1) (Known (pos 0)) is.1 is.2 (inr some))
    class_needed (Read' name shape subs) done is (inr (inr hits)) =
        let place = place_compiled names done (dims_of names name) (pos 1) (Known (pos 0)) subs in
        one_added NeedsLine place.done (record { work = Load name (row_known subs); operands = place_operands (row_known subs) place.operand }) hits
    class_needed (Apply' op shape args) done is need =
        let row = row_compiled names done args in
        operated_before NeedsLine row.done op row.operands (class_of_row _ args done is.1 need)

    class_of_row : (m : _) (row : Row_of-Expr m) (done : List Operation) → AllExpressions names row → OneIs NeedsLine done ⊎ SomeNeeds c row (suc n) → OneIs NeedsLine (row_compiled names done row).done
    class_of_row m end_of-Expr done is (inl one) = one
    class_of_row m end_of-Expr done is (inr some) = absurd some
    class_of_row m (more_of-Expr e rest) done is (inl one) = class_of_row _ rest (compiled names done e).done is.1 (inl (class_needed e done is.0 (inl one)))
    class_of_row m (more_of-Expr e rest) done is (inr (inl here)) = class_of_row _ rest (compiled names done e).done is.1 (inl (class_needed e done is.0 (inr here)))
    class_of_row m (more_of-Expr e rest) done is (inr (inr later)) = class_of_row _ rest (compiled names done e).done is.1 (inr later)

    pub class_of_place : (m : _) (row : Row_of-Expr m) (done : List Operation) (dims : List Dim) (size : ℤ) (place : Operand) → row_length row ≡ length dims → AllExpressions names row → OneIs NeedsLine done ⊎ SomeNeeds c row (suc n) → OneIs NeedsLine (place_compiled names done dims size place row).done
    class_of_place m end_of-Expr done dims size place long is (inl one) = one
    class_of_place m end_of-Expr done dims size place long is (inr some) = absurd some
    class_of_place m (more_of-Expr e rest) done [] size place long is need = absurd (omega (arith, long))
    class_of_place m (more_of-Expr e rest) done (dim ∷ dims) size place long is (inl one) =
        let next = place_moved place dim size (compiled names done e) in
        class_of_place _ rest next.done dims (size *ℤ extent dim) next.operand (omega (arith, long)) is.1 (inl (moved_before NeedsLine place dim size (compiled names done e) (class_needed e done is.0 (inl one))))
    class_of_place m (more_of-Expr e rest) done (dim ∷ dims) size place long is (inr (inl here)) =
        let next = place_moved place dim size (compiled names done e) in
        class_of_place _ rest next.done dims (size *ℤ extent dim) next.operand (omega (arith, long)) is.1 (inl (moved_before NeedsLine place dim size (compiled names done e) (class_needed e done is.0 (inr here))))
    class_of_place m (more_of-Expr e rest) done (dim ∷ dims) size place long is (inr (inr later)) =
        let next = place_moved place dim size (compiled names done e) in
        class_of_place _ rest next.done dims (size *ℤ extent dim) next.operand (omega (arith, long)) is.1 (inr later)

-- ---- traps

module _ (names : List NameInfo) (c : ClassTable) (touches : ℕ → Bool) (touched : touches 0 ≡ true) where
  abbrev pub NeedsOut : Operation → Type 0
  NeedsOut op = OperationNeeds c touches op 0

  -- an operator that can trap at what is known of its operands
  pub trapping_added : (done : List Operation) (op : Op) (operands : List Operand) (ks : List (Option ℤ)) → map known_of operands ≡ ks → CanTrap op ks → OneIs NeedsOut (operated done op operands).done
  trapping_added done op operands ks are can =
      let same : CanTrap op (map known_of operands) = subst (CanTrap op) (sym are) can in
      operated_added NeedsOut done op operands (can_trap_unknown op (map known_of operands) same) (same, touched)

  bound_added : (place : Operand) (dim : Dim) (size : ℤ) (e : Expr) (done : List Operation) → CanTrap Bound (known e ∷ Some dim.lo ∷ Some dim.hi ∷ []) → OneIs NeedsOut (place_moved place dim size (compiled names done e)).done
  bound_added place dim size e done can =
      let sub = compiled names done e in
      let bounds : List Operand = sub.operand ∷ Known dim.lo ∷ Known dim.hi ∷ [] in
      let offset = operated sub.done Bound bounds in
      operated_before NeedsOut offset.done Place (place ∷ offset.operand ∷ Known size ∷ [])
      (trapping_added sub.done Bound bounds (known e ∷ Some dim.lo ∷ Some dim.hi ∷ []) (ap (λ k. k ∷ Some dim.lo ∷ Some dim.hi ∷ []) (known_same names e done)) can)

  mutual
    -- a trap that the expression can have, or an operation before it
    pub trap_needed : (e : Expr) (done : List Operation) → IsExpression names e → OneIs NeedsOut done ⊎ MayTrap names e → OneIs NeedsOut (compiled names done e).done
    trap_needed (Const z) done is (inl one) = one
    trap_needed (Const z) done is (inr may) = absurd may
    trap_needed (Truth b) done is (inl one) = one
    trap_needed (Truth b) done is (inr may) = absurd may
    trap_needed Input done is (inl one) = one_before NeedsOut done (record { work = Take; operands = [] }) one
    trap_needed Input done is (inr may) = one_added NeedsOut done (record { work = Take; operands = [] }) tt
    trap_needed (Read' name shape subs) done is may =
        let place = place_compiled names done (dims_of names name) (pos 1) (Known (pos 0)) subs in
        one_before NeedsOut place.done (record { work = Load name (row_known subs); operands = place_operands (row_known subs) place.operand })
        (trap_of_place _ subs done (dims_of names name) (pos 1) (Known (pos 0)) is.1 is.2 may)
    trap_needed (Apply' op shape args) done is (inl one) =
        let row = row_compiled names done args in
        operated_before NeedsOut row.done op row.operands (trap_of_row _ args done is.1 (inl one))
    trap_needed (Apply' op shape args) done is (inr (inl some)) =
        let row = row_compiled names done args in
        operated_before NeedsOut row.done op row.operands (trap_of_row _ args done is.1 (inr some))
    trap_needed (Apply' op shape args) done is (inr (inr can)) =
        let row = row_compiled names done args in
        trapping_added row.done op row.operands (row_known args) (known_row names _ args done) can

    trap_of_row : (m : _) (row : Row_of-Expr m) (done : List Operation) → AllExpressions names row → OneIs NeedsOut done ⊎ SomeMayTrap none names row → OneIs NeedsOut (row_compiled names done row).done
    trap_of_row m end_of-Expr done is (inl one) = one
    trap_of_row m end_of-Expr done is (inr some) = absurd some
    trap_of_row m (more_of-Expr e rest) done is (inl one) = trap_of_row _ rest (compiled names done e).done is.1 (inl (trap_needed e done is.0 (inl one)))
    trap_of_row m (more_of-Expr e rest) done is (inr (inl here)) = trap_of_row _ rest (compiled names done e).done is.1 (inl (trap_needed e done is.0 (inr here)))
    trap_of_row m (more_of-Expr e rest) done is (inr (inr later)) = trap_of_row _ rest (compiled names done e).done is.1 (inr later)

    pub trap_of_place : (m : _) (row : Row_of-Expr m) (done : List Operation) (dims : List Dim) (size : ℤ) (place : Operand) → row_length row ≡ length dims → AllExpressions names row → OneIs NeedsOut done ⊎ SubscriptsMayTrap none names dims row → OneIs NeedsOut (place_compiled names done dims size place row).done
    trap_of_place m end_of-Expr done dims size place long is (inl one) = one
    trap_of_place m end_of-Expr done dims size place long is (inr some) = absurd some
    trap_of_place m (more_of-Expr e rest) done [] size place long is may = absurd (omega (arith, long))
    trap_of_place m (more_of-Expr e rest) done (dim ∷ dims) size place long is (inl one) =
        let next = place_moved place dim size (compiled names done e) in
        trap_of_place _ rest next.done dims (size *ℤ extent dim) next.operand (omega (arith, long)) is.1 (inl (moved_before NeedsOut place dim size (compiled names done e) (trap_needed e done is.0 (inl one))))
    trap_of_place m (more_of-Expr e rest) done (dim ∷ dims) size place long is (inr (inl (free, inl here))) =
        let next = place_moved place dim size (compiled names done e) in
        trap_of_place _ rest next.done dims (size *ℤ extent dim) next.operand (omega (arith, long)) is.1 (inl (moved_before NeedsOut place dim size (compiled names done e) (trap_needed e done is.0 (inr here))))
    trap_of_place m (more_of-Expr e rest) done (dim ∷ dims) size place long is (inr (inl (free, inr outside))) =
        let next = place_moved place dim size (compiled names done e) in
        trap_of_place _ rest next.done dims (size *ℤ extent dim) next.operand (omega (arith, long)) is.1 (inl (bound_added place dim size e done outside))
    trap_of_place m (more_of-Expr e rest) done (dim ∷ dims) size place long is (inr (inr later)) =
        let next = place_moved place dim size (compiled names done e) in
        trap_of_place _ rest next.done dims (size *ℤ extent dim) next.operand (omega (arith, long)) is.1 (inr later)
