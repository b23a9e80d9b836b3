-- Each operation of a piece but the last gives a value, which one later operation takes.
use Rattle.std.proofs.Common.{◌≡◌, ◌⊎◌, ⊎_elim, ℕ, zero, suc, ◌+◌, ◌<◌, ◌≤◌, ℤ, pos, ◌*ℤ◌, Bool, true, false, List, [], ◌∷◌, ◌++◌, length, map, Option, Some, None, slice_get, refl, sym, ap, ◌∙◌, subst, inl, inr, arith}
use Rattle.std.proofs.lemmas.Option.{slice_get_within}
use Rattle.std.specs.Option.{option_map, option_and_then}
use Rattle.std.specs.Result.{result_ok}
use Rattle.op_table.specs.Operators.{applied}
use Rattle.op_table.specs.declared.Op.{Op}
use Rattle.op_table.specs.declared.Op.TheVariants.{Bound, Place, Step}
use Rattle.op_table.specs.Words.{truth}
use Rattle.op_table.specs.Known.{all_known, folded}
use Rattle.f77_tree.specs.declared.declarations.Dim.{Dim}
use Rattle.f77_tree.specs.declared.expressions.Access.{Access}
use Rattle.f77_tree.specs.declared.expressions.Expr.{Expr, Row_of-Expr, end_of-Expr, more_of-Expr, items-the_row-Expr, items_hidden-the_row-Expr-0}
use Rattle.f77_tree.specs.declared.expressions.Expr.TheVariants.{Const, Truth, Input, Read, Read', Apply'}
use Rattle.f77_tree.specs.declared.programs.ExecKind.{ExecKind}
use Rattle.f77_tree.specs.declared.programs.ExecKind.TheVariants.{Assign, Print, Pass, Test, Sign, Pick, DoStart, DoNext, End}
use Rattle.f77_tree.specs.declared.programs.Item.{Item}
use Rattle.f77_tree.specs.declared.programs.Item.TheVariants.{Value, Chars}
use Rattle.f77_tree.specs.declared.programs.NameInfo.{NameInfo}
use Rattle.f77_tree.specs.Known.{known, row_known}
use Rattle.f77_tree.specs.Value.{dims_of, extent}
use Rattle.f77_tree.proofs.ExpressionLemmas.{row_of}
use Rattle.cfg_build.specs.declared.pieces.PieceKind.{PieceKind}
use Rattle.cfg_build.specs.declared.pieces.PieceKind.TheVariants as kind
use Rattle.op_board.specs.Operations.{Operand, Known, From, Work, Load, Operate, Store, Take, Write, Begin, Advance, DecideTruth, DecideSign, DecideNumber, DecideTrips, DecideFirst, Operation, gives_value, is_decision, known_of, Compiled, with_operation, operated_by, operated, place_moved, place_operands, compiled, row_compiled, place_compiled, place_of_read, items_compiled, ended, assign_operations, print_operations, begin_operations, decide_operations, act_operations, branch_operations, operations_of}
use Rattle.op_board.specs.OperationFacts.{is_parting}
use Rattle.op_board.specs.OperationLists.{takes_one, takes_by, takes_of, IsOperationList}

-- ---- counts

pub takes_one_same : (n more : ℕ) → takes_one n n more ≡ suc more
takes_one_same zero more = refl
takes_one_same (suc n) more = takes_one_same n more

pub takes_one_other : (o n more : ℕ) → (o ≡ n → ⊥) → takes_one o n more ≡ more
takes_one_other zero zero more differ = absurd (differ refl)
takes_one_other zero (suc n) more differ = refl
takes_one_other (suc o) zero more differ = refl
takes_one_other (suc o) (suc n) more differ = takes_one_other o n more (λ same. differ (ap suc same))

takes_one_more : (o n more : ℕ) → takes_one o n more ≡ takes_one o n 0 + more
takes_one_more zero zero more = omega arith
takes_one_more zero (suc n) more = omega arith
takes_one_more (suc o) zero more = omega arith
takes_one_more (suc o) (suc n) more = takes_one_more o n more

pub takes_by_more : (operand : Operand) (operands : List Operand) (n : ℕ) → takes_by (operand ∷ operands) n ≡ takes_by (operand ∷ []) n + takes_by operands n
takes_by_more (Known z) operands n = omega arith
takes_by_more (From o) operands n = takes_one_more o n (takes_by operands n)

pub takes_by_join : (xs ys : List Operand) (n : ℕ) → takes_by (xs ++ ys) n ≡ takes_by xs n + takes_by ys n
takes_by_join [] ys n = omega arith
takes_by_join (x ∷ xs) ys n =
    let all = takes_by_more x (xs ++ ys) n in
    let some = takes_by_more x xs n in
    let rest = takes_by_join xs ys n in
    omega (arith, all, some, rest)

pub takes_of_join : (xs ys : List Operation) (n : ℕ) → takes_of (xs ++ ys) n ≡ takes_of xs n + takes_of ys n
takes_of_join [] ys n = omega arith
takes_of_join (x ∷ xs) ys n =
    let rest = takes_of_join xs ys n in
    omega (arith, rest)

-- operands that are all known are no values
none_taken : (operands : List Operand) (args : List ℤ) (n : ℕ) → all_known (map known_of operands) ≡ Some args → takes_by operands n ≡ 0
none_taken [] args n is = refl
none_taken (From o ∷ operands) args n is = let e : None ≡ Some args = is in absurd cc
none_taken (Known z ∷ operands) args n is = by (λ zs was. none_taken operands zs n was) (all_known (map known_of operands)) refl is
  where
    by : ((zs : List ℤ) → all_known (map known_of operands) ≡ Some zs → takes_by operands n ≡ 0) → (o : Option (List ℤ)) → all_known (map known_of operands) ≡ o → option_map (λ (zs : List ℤ). z ∷ zs) o ≡ Some args → takes_by operands n ≡ 0
    by rest None was e = let no : None ≡ Some args = e in absurd cc
    by rest (Some zs) was e = rest zs was

folded_takes : (op : Op) (operands : List Operand) (z : ℤ) (n : ℕ) → folded op (map known_of operands) ≡ Some z → takes_by operands n ≡ 0
unfolding folded
folded_takes op operands z n is = by (all_known (map known_of operands)) refl is
  where
    by : (o : Option (List ℤ)) → all_known (map known_of operands) ≡ o → option_and_then (λ args. result_ok (applied op args)) o ≡ Some z → takes_by operands n ≡ 0
    by None was e = let no : None ≡ Some z = e in absurd cc
    by (Some zs) was e = none_taken operands zs n was

-- ---- the last item of a list

pub get_end : {X : Type 0} (xs : List X) (x y : X) (i : ℕ) → slice_get (xs ++ x ∷ []) i ≡ Some y → (slice_get xs i ≡ Some y) ⊎ ((i ≡ length xs) × (x ≡ y))
get_end [] x y zero is = inr (refl, cc)
get_end [] x y (suc i) is = let no : None ≡ Some y = is in absurd cc
get_end (z ∷ xs) x y zero is = inl is
get_end (z ∷ xs) x y (suc i) is = by (get_end xs x y i is)
  where
    by : (slice_get xs i ≡ Some y) ⊎ ((i ≡ length xs) × (x ≡ y)) → (slice_get xs i ≡ Some y) ⊎ ((suc i ≡ suc (length xs)) × (x ≡ y))
    by (inl e) = inl e
    by (inr (e, f)) = inr (ap suc e, f)

pub length_end : {X : Type 0} (xs : List X) (x : X) → length (xs ++ x ∷ []) ≡ suc (length xs)
length_end [] x = refl
length_end (z ∷ xs) x = ap suc (length_end xs x)

-- a number lies below another one, or does not
pub below_or_not : (n m : ℕ) → (n < m) ⊎ (m ≤ n)
below_or_not n zero = inr (omega arith)
below_or_not zero (suc m) = inl (omega arith)
below_or_not (suc n) (suc m) = by (below_or_not n m)
  where
    by : (n < m) ⊎ (m ≤ n) → (suc n < suc m) ⊎ (suc m ≤ suc n)
    by (inl lt) = inl (omega (arith, lt))
    by (inr le) = inr (omega (arith, le))

-- ---- operations whose values are taken once

-- Each operation so far gives a value, which one operation after it takes, or which is pending once.
pub record AreTaken (done : List Operation) (pending : ℕ → ℕ) : Type 0 where
  pub inside : (n : ℕ) → n < length done → takes_of done n + pending n ≡ 1
  pub outside : (n : ℕ) → length done ≤ n → takes_of done n + pending n ≡ 0
  pub gives : (i : ℕ) (op : Operation) → slice_get done i ≡ Some op → gives_value op.work ≡ true
  pub later : (i n : ℕ) (op : Operation) → slice_get done i ≡ Some op → 0 < takes_by op.operands n → n < i

-- these operands are pending, and what else is
abbrev pub pending_with : List Operand → (ℕ → ℕ) → ℕ → ℕ
pending_with operands pending n = takes_by operands n + pending n

same_pending : (done : List Operation) (pending other : ℕ → ℕ) → ((n : ℕ) → pending n ≡ other n) → AreTaken done pending → AreTaken done other
same_pending done pending other same is = record {
  inside = λ n lt. let e = same n in let was = is.inside n lt in omega (arith, e, was);
  outside = λ n le. let e = same n in let was = is.outside n le in omega (arith, e, was);
  gives = is.gives;
  later = is.later;
}

-- the operands of one more operation are no longer pending
module _ (done : List Operation) (work : Work) (operands : List Operand) (pending : ℕ → ℕ) (is : AreTaken done (pending_with operands pending)) where
  abbrev added : Operation
  added = record { work = work; operands = operands }

  later_end : (i n : ℕ) (o : Operation) → slice_get (done ++ added ∷ []) i ≡ Some o → 0 < takes_by o.operands n → n < i
  later_end i n o at takes = by (get_end done added o i at)
    where
      last : (n < length done) ⊎ (length done ≤ n) → 0 < takes_by operands n → n < length done
      last (inl lt) some = lt
      last (inr le) some = let none = is.outside n le in absurd (omega (arith, none, some))

      by : (slice_get done i ≡ Some o) ⊎ ((i ≡ length done) × (added ≡ o)) → n < i
      by (inl e) = is.later i n o e takes
      by (inr (e, f)) =
          let some : 0 < takes_by operands n = subst (λ (p : Operation). 0 < takes_by p.operands n) (sym f) takes in
          let lt = last (below_or_not n (length done)) some in
          omega (arith, e, lt)

  taken_end : (n : ℕ) → takes_of (done ++ added ∷ []) n ≡ takes_of done n + takes_by operands n
  taken_end n = let e = takes_of_join done (added ∷ []) n in omega (arith, e)

  operation_more : gives_value work ≡ true → AreTaken (with_operation done work operands).done (pending_with ((with_operation done work operands).operand ∷ []) pending)
  operation_more gives = record {
    inside = λ n lt. inside n (below_or_not n (length done)) lt;
    outside = outside;
    gives = λ i o at. by i o (get_end done added o i at);
    later = later_end;
  }
    where
      inside : (n : ℕ) → (n < length done) ⊎ (length done ≤ n) → n < length (done ++ added ∷ []) → takes_of (done ++ added ∷ []) n + (takes_by (From (length done) ∷ []) n + pending n) ≡ 1
      inside n (inl lt) all =
          let e = taken_end n in
          let was = is.inside n lt in
          let other = takes_one_other (length done) n 0 (λ same. omega (arith, same, lt)) in
          omega (arith, e, was, other)
      inside n (inr le) all =
          let e = taken_end n in
          let was = is.outside n le in
          let long = length_end done added in
          let same : length done ≡ n = omega (arith, le, all, long) in
          let one = subst (λ (k : ℕ). takes_one (length done) k 0 ≡ 1) same (takes_one_same (length done) 0) in
          omega (arith, e, was, one)

      outside : (n : ℕ) → length (done ++ added ∷ []) ≤ n → takes_of (done ++ added ∷ []) n + (takes_by (From (length done) ∷ []) n + pending n) ≡ 0
      outside n le =
          let e = taken_end n in
          let long = length_end done added in
          let was = is.outside n (omega (arith, le, long)) in
          let other = takes_one_other (length done) n 0 (λ same. omega (arith, same, le, long)) in
          omega (arith, e, was, other)

      by : (i : ℕ) (o : Operation) → (slice_get done i ≡ Some o) ⊎ ((i ≡ length done) × (added ≡ o)) → gives_value o.work ≡ true
      by i o (inl e) = is.gives i o e
      by i o (inr (e, f)) = subst (λ (p : Operation). gives_value p.work ≡ true) f gives

-- ---- compiled expressions

-- a value that is known is not pending
known_pending : (done : List Operation) (z : ℤ) (pending : ℕ → ℕ) → AreTaken done pending → AreTaken done (pending_with (Known z ∷ []) pending)
known_pending done z pending is = same_pending done pending (pending_with (Known z ∷ []) pending) (λ n. omega arith) is

-- one operand more
operand_more : (done : List Operation) (operand : Operand) (operands : List Operand) (pending : ℕ → ℕ) → AreTaken done (pending_with operands (pending_with (operand ∷ []) pending)) → AreTaken done (pending_with (operand ∷ operands) pending)
operand_more done operand operands pending is =
    same_pending done (pending_with operands (pending_with (operand ∷ []) pending)) (pending_with (operand ∷ operands) pending) (λ n. let e = takes_by_more operand operands n in omega (arith, e)) is

module _ (done : List Operation) (op : Op) (operands : List Operand) (pending : ℕ → ℕ) (is : AreTaken done (pending_with operands pending)) where
  operated_by_taken : (o : Option ℤ) → folded op (map known_of operands) ≡ o → AreTaken (operated_by done op operands o).done (pending_with ((operated_by done op operands o).operand ∷ []) pending)
  operated_by_taken None known = operation_more done (Operate op) operands pending is refl
  operated_by_taken (Some z) known =
      same_pending done (pending_with operands pending) (pending_with (Known z ∷ []) pending) (λ n. let e = folded_takes op operands z n known in omega (arith, e)) is

  operated_taken : AreTaken (operated done op operands).done (pending_with ((operated done op operands).operand ∷ []) pending)
  operated_taken = operated_by_taken (folded op (map known_of operands)) refl

-- a place is pending, and then the place that a subscript moves it to
moved_taken : (place : Operand) (dim : Dim) (size : ℤ) (sub : Compiled) (pending : ℕ → ℕ) → AreTaken sub.done (pending_with (sub.operand ∷ []) (pending_with (place ∷ []) pending)) → AreTaken (place_moved place dim size sub).done (pending_with ((place_moved place dim size sub).operand ∷ []) pending)
moved_taken place dim size sub pending is =
    let bounds : List Operand = sub.operand ∷ Known dim.lo ∷ Known dim.hi ∷ [] in
    let offset = operated sub.done Bound bounds in
    let at_bounds : AreTaken sub.done (pending_with bounds (pending_with (place ∷ []) pending)) =
    same_pending sub.done (pending_with (sub.operand ∷ []) (pending_with (place ∷ []) pending)) (pending_with bounds (pending_with (place ∷ []) pending)) (λ n. let e = takes_by_more sub.operand (Known dim.lo ∷ Known dim.hi ∷ []) n in omega (arith, e)) is
    in
    let moves : AreTaken offset.done (pending_with (offset.operand ∷ []) (pending_with (place ∷ []) pending)) = operated_taken sub.done Bound bounds (pending_with (place ∷ []) pending) at_bounds in
    operated_taken offset.done Place (place ∷ offset.operand ∷ Known size ∷ []) pending
    (same_pending offset.done (pending_with (offset.operand ∷ []) (pending_with (place ∷ []) pending)) (pending_with (place ∷ offset.operand ∷ Known size ∷ []) pending)
    (λ n.
    let e = takes_by_more place (offset.operand ∷ Known size ∷ []) n in
    let f = takes_by_more offset.operand (Known size ∷ []) n in
    omega (arith, e, f))
    moves)

-- the place of a scalar is known
place_operands_taken : {A : Type 0} (done : List Operation) (subs : List A) (place : Operand) (pending : ℕ → ℕ) → (subs ≡ [] → (n : ℕ) → takes_by (place ∷ []) n ≡ 0) → AreTaken done (pending_with (place ∷ []) pending) → AreTaken done (pending_with (place_operands subs place) pending)
place_operands_taken done [] place pending none is = same_pending done (pending_with (place ∷ []) pending) (pending_with [] pending) (λ n. let e = none refl n in omega (arith, e)) is
place_operands_taken done (sub ∷ subs) place pending none is = is

module _ (names : List NameInfo) where
  -- where there are no subscripts the place is the first one
  place_unmoved : (m : _) (done : List Operation) (dims : List Dim) (size z : ℤ) (row : Row_of-Expr m) → row_known row ≡ [] → (n : ℕ) → takes_by ((place_compiled names done dims size (Known z) row).operand ∷ []) n ≡ 0
  place_unmoved m done dims size z end_of-Expr is n = refl
  place_unmoved m done dims size z (more_of-Expr e rest) is n = absurd cc

  mutual
    pub compiled_taken : (e : Expr) (done : List Operation) (pending : ℕ → ℕ) → AreTaken done pending → AreTaken (compiled names done e).done (pending_with ((compiled names done e).operand ∷ []) pending)
    compiled_taken (Const z) done pending is = known_pending done z pending is
    compiled_taken (Truth b) done pending is = known_pending done (truth b) pending is
    compiled_taken Input done pending is = operation_more done Take [] pending (same_pending done pending (pending_with [] pending) (λ n. omega arith) is) refl
    compiled_taken (Read' name shape subs) done pending is =
        let place = place_compiled names done (dims_of names name) (pos 1) (Known (pos 0)) subs in
        let taken : AreTaken place.done (pending_with (place.operand ∷ []) pending) = place_taken _ subs done (dims_of names name) (pos 1) (Known (pos 0)) pending (known_pending done (pos 0) pending is) in
        operation_more place.done (Load name (row_known subs)) (place_operands (row_known subs) place.operand) pending
        (place_operands_taken place.done (row_known subs) place.operand pending (λ none n. place_unmoved _ done (dims_of names name) (pos 1) (pos 0) subs none n) taken) refl
    compiled_taken (Apply' op shape args) done pending is =
        let c = row_compiled names done args in
        operated_taken c.done op c.operands pending (row_taken _ args done pending is)

    pub row_taken : (m : _) (row : Row_of-Expr m) (done : List Operation) (pending : ℕ → ℕ) → AreTaken done pending → AreTaken (row_compiled names done row).done (pending_with (row_compiled names done row).operands pending)
    row_taken m end_of-Expr done pending is = same_pending done pending (pending_with [] pending) (λ n. omega arith) is
    row_taken m (more_of-Expr e rest) done pending is =
        let first = compiled names done e in
        let others = row_compiled names first.done rest in
        operand_more others.done first.operand others.operands pending (row_taken _ rest first.done (pending_with (first.operand ∷ []) pending) (compiled_taken e done pending is))

    pub place_taken : (m : _) (row : Row_of-Expr m) (done : List Operation) (dims : List Dim) (size : ℤ) (place : Operand) (pending : ℕ → ℕ) → AreTaken done (pending_with (place ∷ []) pending)
        → AreTaken (place_compiled names done dims size place row).done (pending_with ((place_compiled names done dims size place row).operand ∷ []) pending)
    place_taken m end_of-Expr done dims size place pending is = is
    place_taken m (more_of-Expr e rest) done [] size place pending is = is
    place_taken m (more_of-Expr e rest) done (dim ∷ dims) size place pending is =
        let next = place_moved place dim size (compiled names done e) in
        place_taken _ rest next.done dims (size *ℤ extent dim) next.operand pending (moved_taken place dim size (compiled names done e) pending (compiled_taken e done (pending_with (place ∷ []) pending) is))

  -- the place of an access, where it has subscripts
  access_taken : (target : Access) (done : List Operation) (pending : ℕ → ℕ) → AreTaken done pending → AreTaken (place_of_read names done (Read target)).done (pending_with (place_operands target.subs (place_of_read names done (Read target)).operand) pending)
  access_taken target done pending is =
      let row = row_of (Read target) in
      let dims = dims_of names target.name in
      let place = place_compiled names done dims (pos 1) (Known (pos 0)) row.1 in
      place_operands_taken place.done target.subs place.operand pending
      (λ none n. place_unmoved row.0 done dims (pos 1) (pos 0) row.1 (no_known row.0 row.1 (items_hidden-the_row-Expr-0 target.subs) none) n)
      (place_taken row.0 row.1 done dims (pos 1) (Known (pos 0)) pending (known_pending done (pos 0) pending is))
    where
      no_known : (m : _) (row : Row_of-Expr m) → items-the_row-Expr m row ≡ target.subs → target.subs ≡ [] → row_known row ≡ []
      no_known m end_of-Expr is none = refl
      no_known m (more_of-Expr e rest) is none = let no : (e ∷ items-the_row-Expr _ rest) ≡ [] = is ∙ none in absurd cc

  items_taken : (items : List Item) (done : List Operation) (pending : ℕ → ℕ) → AreTaken done pending → AreTaken (items_compiled names done items).done (pending_with (items_compiled names done items).operands pending)
  items_taken [] done pending is = same_pending done pending (pending_with [] pending) (λ n. omega arith) is
  items_taken (Chars text ∷ items) done pending is = items_taken items done pending is
  items_taken (Value e ∷ items) done pending is =
      let first = compiled names done e in
      let others = items_compiled names first.done items in
      operand_more others.done first.operand others.operands pending (items_taken items first.done (pending_with (first.operand ∷ []) pending) (compiled_taken e done pending is))

-- ---- executables

-- nothing is pending but these operands
abbrev only : List Operand → ℕ → ℕ
only operands n = takes_by operands n

none_yet : AreTaken [] (only [])
none_yet = record {
  inside = λ n lt. absurd (omega (arith, lt));
  outside = λ n le. refl;
  gives = λ i op at. let no : None ≡ Some op = at in absurd cc;
  later = λ i n op at takes. let no : None ≡ Some op = at in absurd cc;
}

-- the last operation takes what is pending, and gives nothing
module _ (done : List Operation) (work : Work) (operands : List Operand) (is : AreTaken done (only operands)) where
  abbrev last_one : Operation
  last_one = record { work = work; operands = operands }

  with_none : AreTaken done (pending_with operands (only []))
  with_none = same_pending done (only operands) (pending_with operands (only [])) (λ n. omega arith) is

  pub ended_list : gives_value work ≡ false → IsOperationList (ended done work operands)
  ended_list none = record {
    some = let long = length_end done last_one in omega (arith, long);
    gives = λ i op at lt. gives i op lt (get_end done last_one op i at);
    last = λ i op at end. last_none i op end (get_end done last_one op i at);
    once = λ i lt.
        let e = taken_end done work operands (only []) with_none i in
        let long = length_end done last_one in
        let one = is.inside i (omega (arith, long, lt)) in
        omega (arith, e, one);
    later = λ i n op at takes. later_end done work operands (only []) with_none i n op at takes;
  }
    where
      gives : (i : ℕ) (op : Operation) → suc i < length (done ++ last_one ∷ []) → (slice_get done i ≡ Some op) ⊎ ((i ≡ length done) × (last_one ≡ op)) → gives_value op.work ≡ true
      gives i op lt (inl e) = is.gives i op e
      gives i op lt (inr (e, f)) = let long = length_end done last_one in absurd (omega (arith, e, lt, long))

      last_none : (i : ℕ) (op : Operation) → suc i ≡ length (done ++ last_one ∷ []) → (slice_get done i ≡ Some op) ⊎ ((i ≡ length done) × (last_one ≡ op)) → gives_value op.work ≡ false
      last_none i op end (inl e) = let long = length_end done last_one in let lt = slice_get_within done i op e in absurd (omega (arith, end, long, lt))
      last_none i op end (inr (e, f)) = subst (λ (p : Operation). gives_value p.work ≡ false) f none

  -- no value is taken twice
  pub ended_once : (n : ℕ) → takes_of (ended done work operands) n ≤ 1
  ended_once n = by (below_or_not n (length done))
    where
      by : (n < length done) ⊎ (length done ≤ n) → takes_of (done ++ last_one ∷ []) n ≤ 1
      by (inl lt) = let e = taken_end done work operands (only []) with_none n in let one = is.inside n lt in omega (arith, e, one)
      by (inr le) = let e = taken_end done work operands (only []) with_none n in let none = is.outside n le in omega (arith, e, none)

-- How the operations of a piece end: the last one takes what is pending then, gives nothing, and decides where edges part.
pub record EndsBy (parts : Bool) (ops : List Operation) : Type 0 where
  pub done : List Operation
  pub work : Work
  pub operands : List Operand
  pub is : ops ≡ ended done work operands
  pub taken : AreTaken done (only operands)
  pub no_value : gives_value work ≡ false
  pub decides : is_decision work ≡ parts

module _ (names : List NameInfo) where
  pub assign_ends : (target : Access) (e : Expr) → EndsBy false (assign_operations names target e)
  assign_ends target e =
      let place = place_of_read names [] (Read target) in
      let places = place_operands target.subs place.operand in
      let value = compiled names place.done e in
      let placed : AreTaken place.done (pending_with places (only [])) = access_taken names target [] (only []) none_yet in
      record {
        done = value.done;
        work = Store target.name (map known target.subs);
        operands = places ++ value.operand ∷ [];
        is = refl;
        taken = same_pending value.done (pending_with (value.operand ∷ []) (pending_with places (only []))) (only (places ++ value.operand ∷ []))
            (λ n. let join = takes_by_join places (value.operand ∷ []) n in omega (arith, join))
            (compiled_taken names e place.done (pending_with places (only [])) placed);
        no_value = refl;
        decides = refl;
      }

  pub print_ends : (items : List Item) → EndsBy false (print_operations names items)
  print_ends items =
      let c = items_compiled names [] items in
      record {
        done = c.done;
        work = Write items;
        operands = c.operands;
        is = refl;
        taken = same_pending c.done (pending_with c.operands (only [])) (only c.operands) (λ n. omega arith) (items_taken names items [] (only []) none_yet);
        no_value = refl;
        decides = refl;
      }

  pub begin_ends : (loop_no var : ℕ) (first last step : Expr) → EndsBy false (begin_operations names loop_no var first last step)
  begin_ends loop_no var first last step =
      let a = compiled names [] first in
      let b = compiled names a.done last in
      let c = compiled names b.done step in
      let d = operated c.done Step (c.operand ∷ []) in
      let at_a : ℕ → ℕ = pending_with (a.operand ∷ []) (only []) in
      let at_b : ℕ → ℕ = pending_with (b.operand ∷ []) at_a in
      let began : AreTaken d.done (pending_with (d.operand ∷ []) at_b) =
      operated_taken c.done Step (c.operand ∷ []) at_b (compiled_taken names step b.done at_b (compiled_taken names last a.done at_a (compiled_taken names first [] (only []) none_yet)))
      in
      record {
        done = d.done;
        work = Begin loop_no var;
        operands = a.operand ∷ b.operand ∷ d.operand ∷ [];
        is = refl;
        taken = same_pending d.done (pending_with (d.operand ∷ []) at_b) (only (a.operand ∷ b.operand ∷ d.operand ∷ []))
            (λ n.
            let e = takes_by_more a.operand (b.operand ∷ d.operand ∷ []) n in
            let f = takes_by_more b.operand (d.operand ∷ []) n in
            omega (arith, e, f))
            began;
        no_value = refl;
        decides = refl;
      }

  pub decide_ends : (work : Work) (selector : Expr) → is_decision work ≡ true → gives_value work ≡ false → EndsBy true (decide_operations names work selector)
  decide_ends work selector decides none =
      let c = compiled names [] selector in
      record {
        done = c.done;
        work = work;
        operands = c.operand ∷ [];
        is = refl;
        taken = same_pending c.done (pending_with (c.operand ∷ []) (only [])) (only (c.operand ∷ [])) (λ n. omega arith) (compiled_taken names selector [] (only []) none_yet);
        no_value = none;
        decides = decides;
      }

  pub lone_ends : (work : Work) (parts : Bool) → gives_value work ≡ false → is_decision work ≡ parts → EndsBy parts (ended [] work [])
  lone_ends work parts none decides = record { done = []; work = work; operands = []; is = refl; taken = none_yet; no_value = none; decides = decides }

  act_ends : (exec : ExecKind) → (act_operations names exec ≡ []) ⊎ EndsBy false (act_operations names exec)
  act_ends (Assign target e next) = inr (assign_ends target e)
  act_ends (Print items next) = inr (print_ends items)
  act_ends (DoStart loop_no var first last step body exit) = inr (begin_ends loop_no var first last step)
  act_ends (DoNext loop_no var body exit) = inr (lone_ends (Advance loop_no var) false refl refl)
  act_ends (Pass next) = inl refl
  act_ends (Test cond if_true if_false) = inl refl
  act_ends (Sign e neg zero' pos') = inl refl
  act_ends (Pick e targets other) = inl refl
  act_ends End = inl refl

  branch_ends : (exec : ExecKind) → (branch_operations names exec ≡ []) ⊎ EndsBy true (branch_operations names exec)
  branch_ends (Test cond if_true if_false) = inr (decide_ends DecideTruth cond refl refl)
  branch_ends (Sign e neg zero' pos') = inr (decide_ends DecideSign e refl refl)
  branch_ends (Pick e targets other) = inr (decide_ends (DecideNumber (length targets)) e refl refl)
  branch_ends (DoStart loop_no var first last step body exit) = inr (lone_ends (DecideTrips loop_no) true refl refl)
  branch_ends (Assign target e next) = inl refl
  branch_ends (Print items next) = inl refl
  branch_ends (DoNext loop_no var body exit) = inl refl
  branch_ends (Pass next) = inl refl
  branch_ends End = inl refl

  -- the operations of each piece end so, where there are any
  pub operations_end : (piece : PieceKind) (exec : ExecKind) → (operations_of names piece exec ≡ []) ⊎ EndsBy (is_parting piece) (operations_of names piece exec)
  operations_end kind.Act exec = act_ends exec
  operations_end kind.Branch exec = branch_ends exec
  operations_end kind.Hold exec = inr (lone_ends DecideFirst true refl refl)
  operations_end kind.Start exec = inl refl
  operations_end kind.Pass exec = inl refl
  operations_end kind.Join exec = inl refl
  operations_end kind.End exec = inl refl

-- ---- what follows of such operations

pub list_of : (parts : Bool) (ops : List Operation) → EndsBy parts ops → IsOperationList ops
list_of parts ops e = subst IsOperationList (sym e.is) (ended_list e.done e.work e.operands e.taken e.no_value)

-- no value is taken twice
pub once_of : (parts : Bool) (ops : List Operation) → EndsBy parts ops → (n : ℕ) → takes_of ops n ≤ 1
once_of parts ops e n = subst (λ (xs : List Operation). takes_of xs n ≤ 1) (sym e.is) (ended_once e.done e.work e.operands e.taken n)

pub taken_once : (names : List NameInfo) (piece : PieceKind) (exec : ExecKind) (number : ℕ) → takes_of (operations_of names piece exec) number ≤ 1
taken_once names piece exec number =
    ⊎_elim
    (λ (none : operations_of names piece exec ≡ []). subst (λ (xs : List Operation). takes_of xs number ≤ 1) (sym none) (omega arith))
    (λ (e : EndsBy (is_parting piece) (operations_of names piece exec)). once_of (is_parting piece) (operations_of names piece exec) e number)
    (operations_end names piece exec)

-- a value is taken by a later operation
pub taken_later : (names : List NameInfo) (piece : PieceKind) (exec : ExecKind) (i number : ℕ) (op : Operation) → slice_get (operations_of names piece exec) i ≡ Some op → 0 < takes_by op.operands number → number < i
taken_later names piece exec i number op at takes =
    ⊎_elim
    (λ (none : operations_of names piece exec ≡ []). let no : None ≡ Some op = sym (ap (λ (xs : List Operation). slice_get xs i) none) ∙ at in absurd cc)
    (λ (e : EndsBy (is_parting piece) (operations_of names piece exec)). (list_of (is_parting piece) (operations_of names piece exec) e).later i number op at takes)
    (operations_end names piece exec)
