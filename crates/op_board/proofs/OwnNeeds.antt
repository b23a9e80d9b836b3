-- What the operations of a piece need is what its executable needs.
use Rattle.std.proofs.Common.{◌≡◌, ◌⊎◌, ℕ, ◌<◌, ℤ, pos, ◌*ℤ◌, List, [], ◌∷◌, ◌++◌, length, map, Option, Some, None, slice_get, Any, refl, subst, inl, inr}
use Rattle.op_table.specs.declared.Op.{Op}
use Rattle.op_table.specs.declared.Op.TheVariants.{Bound, Place}
use Rattle.op_table.specs.Known.{folded}
use Rattle.f77_tree.specs.declared.declarations.Dim.{Dim}
use Rattle.f77_tree.specs.declared.expressions.Access.{Access}
use Rattle.f77_tree.specs.declared.expressions.Expr.{Expr, Row_of-Expr, end_of-Expr, more_of-Expr, items-the_row-Expr, items_hidden-the_row-Expr-0}
use Rattle.f77_tree.specs.declared.expressions.Expr.TheVariants.{Const, Truth, Input, Read, Read', Apply'}
use Rattle.f77_tree.specs.declared.programs.NameInfo.{NameInfo}
use Rattle.f77_tree.specs.Known.{row_known}
use Rattle.f77_tree.specs.Touched.{ReadsData, SomeReadsData}
use Rattle.f77_tree.specs.Value.{dims_of, extent, IsExpression, AllExpressions, IsAccess}
use Rattle.f77_tree.proofs.ExpressionLemmas.{row_of, Read-IsExpression}
use Rattle.f77_tree.proofs.AllLemmas.{Any-first, Any-rest}
use Rattle.alias_classes.specs.Classes.{ClassTable}
use Rattle.alias_classes.specs.Needs.{ExprNeeds, HitsName, IsOfLoop, Needs, SomeNeeds}
use Rattle.alias_classes.proofs.Rows.{Read-needs}
use Rattle.op_board.specs.Operations.{Operand, Known, Work, Load, Operate, Store, Take, Write, Begin, Advance, DecideTruth, DecideSign, DecideNumber, DecideTrips, DecideFirst, Operation, known_of, Compiled, operated_by, operated, place_moved, place_operands, compiled, row_compiled, place_compiled, place_of_read}
use Rattle.op_board.proofs.ValueTaking.{get_end}

-- each operation of a list is such
abbrev pub AllAre : (Operation → Type 0) → List Operation → Type 0
AllAre P ops = (i : ℕ) (op : Operation) → slice_get ops i ≡ Some op → P op

pub none_are : (P : Operation → Type 0) → AllAre P []
none_are P i op at = let no : None ≡ Some op = at in absurd cc

pub one_more : (P : Operation → Type 0) (done : List Operation) (added : Operation) → AllAre P done → P added → AllAre P (done ++ added ∷ [])
one_more P done added all is i op at = by (get_end done added op i at)
  where
    by : (slice_get done i ≡ Some op) ⊎ ((i ≡ length done) × (added ≡ op)) → P op
    by (inl before) = all i op before
    by (inr (here, same)) = subst P same is

-- ---- what an operation needs

-- an access hits a class, and each that it hits is one of these
pub record HitsOwn (c : ClassTable) (own : ℕ → Type 0) (name : ℕ) (subs : List (Option ℤ)) : Type 0 where
  pub one : ℕ
  pub hits : HitsName c name subs one
  pub all : (n : ℕ) → HitsName c name subs n → own n

-- What an operation needs is its piece's own: these classes, and where it takes data or writes, the line of output. The value of an
-- operator isn't known.
abbrev pub WorkIsOwn : ClassTable → (own : ℕ → Type 0) → (out : Type 0) → Work → List Operand → Type 0
WorkIsOwn c own out (Load name subs) operands = HitsOwn c own name subs
WorkIsOwn c own out (Operate op) operands = folded op (map known_of operands) ≡ None
WorkIsOwn c own out (Store name subs) operands = HitsOwn c own name subs
WorkIsOwn c own out Take operands = out
WorkIsOwn c own out (Write items) operands = out
WorkIsOwn c own out (Begin loop_no var) operands = (n : ℕ) → IsOfLoop c loop_no var n → own n
WorkIsOwn c own out (Advance loop_no var) operands = (n : ℕ) → IsOfLoop c loop_no var n → own n
WorkIsOwn c own out DecideTruth operands = Unit {0}
WorkIsOwn c own out DecideSign operands = Unit {0}
WorkIsOwn c own out (DecideNumber count) operands = Unit {0}
WorkIsOwn c own out (DecideTrips loop_no) operands = Unit {0}
WorkIsOwn c own out DecideFirst operands = Unit {0}

abbrev pub IsOwn : ClassTable → (own : ℕ → Type 0) → (out : Type 0) → Operation → Type 0
IsOwn c own out op = WorkIsOwn c own out op.work op.operands

-- each name has a class at all that may be known of its subscripts
abbrev pub HasClasses : List NameInfo → ClassTable → Type 0
HasClasses names c = (name : ℕ) (subs : List (Option ℤ)) → name < length names → (n : ℕ) × HitsName c name subs n

-- ---- compiled expressions

module _ (names : List NameInfo) (c : ClassTable) (has : HasClasses names c) (own : ℕ → Type 0) (out : Type 0) where
  abbrev pub AllOwn : List Operation → Type 0
  AllOwn ops = AllAre (IsOwn c own out) ops

  operated_by_own : (done : List Operation) (op : Op) (operands : List Operand) (o : Option ℤ) → folded op (map known_of operands) ≡ o → AllOwn done → AllOwn (operated_by done op operands o).done
  operated_by_own done op operands None unknown all = one_more (IsOwn c own out) done (record { work = Operate op; operands = operands }) all unknown
  operated_by_own done op operands (Some z) is all = all

  pub operated_own : (done : List Operation) (op : Op) (operands : List Operand) → AllOwn done → AllOwn (operated done op operands).done
  operated_own done op operands all = operated_by_own done op operands (folded op (map known_of operands)) refl all

  moved_own : (place : Operand) (dim : Dim) (size : ℤ) (sub : Compiled) → AllOwn sub.done → AllOwn (place_moved place dim size sub).done
  moved_own place dim size sub all =
      let bounds : List Operand = sub.operand ∷ Known dim.lo ∷ Known dim.hi ∷ [] in
      let offset = operated sub.done Bound bounds in
      operated_own offset.done Place (place ∷ offset.operand ∷ Known size ∷ []) (operated_own sub.done Bound bounds all)

  mutual
    pub compiled_own : (e : Expr) (done : List Operation) → IsExpression names e → ((n : ℕ) → ExprNeeds c e n → own n) → (ReadsData e → out) → AllOwn done → AllOwn (compiled names done e).done
    compiled_own (Const z) done is needs reads all = all
    compiled_own (Truth b) done is needs reads all = all
    compiled_own Input done is needs reads all = one_more (IsOwn c own out) done (record { work = Take; operands = [] }) all (reads tt)
    compiled_own (Read' name shape subs) done is needs reads all =
        let place = place_compiled names done (dims_of names name) (pos 1) (Known (pos 0)) subs in
        let hit = has name (row_known subs) is.0 in
        one_more (IsOwn c own out) place.done (record { work = Load name (row_known subs); operands = place_operands (row_known subs) place.operand })
        (place_own _ subs done (dims_of names name) (pos 1) (Known (pos 0)) is.2 (λ n need. needs n (inl need)) reads all)
        (record { one = hit.0; hits = hit.1; all = λ n hits. needs n (inr hits) })
    compiled_own (Apply' op shape args) done is needs reads all =
        let row = row_compiled names done args in
        operated_own row.done op row.operands (row_own _ args done is.1 needs reads all)

    row_own : (m : _) (row : Row_of-Expr m) (done : List Operation) → AllExpressions names row → ((n : ℕ) → SomeNeeds c row n → own n) → (SomeReadsData row → out) → AllOwn done → AllOwn (row_compiled names done row).done
    row_own m end_of-Expr done is needs reads all = all
    row_own m (more_of-Expr e rest) done is needs reads all =
        row_own _ rest (compiled names done e).done is.1 (λ n need. needs n (inr need)) (λ later. reads (inr later))
        (compiled_own e done is.0 (λ n need. needs n (inl need)) (λ here. reads (inl here)) all)

    place_own : (m : _) (row : Row_of-Expr m) (done : List Operation) (dims : List Dim) (size : ℤ) (place : Operand) → AllExpressions names row → ((n : ℕ) → SomeNeeds c row n → own n) → (SomeReadsData row → out) → AllOwn done → AllOwn (place_compiled names done dims size place row).done
    place_own m end_of-Expr done dims size place is needs reads all = all
    place_own m (more_of-Expr e rest) done [] size place is needs reads all = all
    place_own m (more_of-Expr e rest) done (dim ∷ dims) size place is needs reads all =
        let next = place_moved place dim size (compiled names done e) in
        place_own _ rest next.done dims (size *ℤ extent dim) next.operand is.1 (λ n need. needs n (inr need)) (λ later. reads (inr later))
        (moved_own place dim size (compiled names done e) (compiled_own e done is.0 (λ n need. needs n (inl need)) (λ here. reads (inl here)) all))

  -- the subscripts of a target
  pub target_own : (target : Access) (done : List Operation) → IsAccess names target → ((n : ℕ) → Needs c target n → own n) → (Any ReadsData target.subs → out) → AllOwn done → AllOwn (place_of_read names done (Read target)).done
  target_own target done is needs reads all =
      let row = row_of (Read target) in
      let items = items_hidden-the_row-Expr-0 target.subs in
      place_own row.0 row.1 done (dims_of names target.name) (pos 1) (Known (pos 0)) (Read-IsExpression names target is).2
      (λ n need. needs n (Read-needs c n target (inl need)))
      (λ some. reads (subst (λ (es : List Expr). Any ReadsData es) items (reading row.0 row.1 some)))
      all
    where
      reading : (m : _) (row : Row_of-Expr m) → SomeReadsData row → Any ReadsData (items-the_row-Expr m row)
      reading m end_of-Expr some = absurd some
      reading m (more_of-Expr e rest) (inl here) = Any-first ReadsData e (items-the_row-Expr _ rest) here
      reading m (more_of-Expr e rest) (inr later) = Any-rest ReadsData e (items-the_row-Expr _ rest) (reading _ rest later)
