-- Which operation takes a value, and which one of a piece decides: no other one of the piece does.
use Rattle.std.proofs.Common.{◌≡◌, ◌<◌, ◌≤◌, ◌⊎◌, inl, inr, ℕ, zero, suc, Bool, true, List, [], ◌∷◌, length, Some, None, slice_get, refl, sym, ap, ◌∙◌, subst, arith}
use Rattle.f77_tree.specs.declared.programs.ExecKind.{ExecKind}
use Rattle.f77_tree.specs.declared.programs.NameInfo.{NameInfo}
use Rattle.cfg_build.specs.declared.pieces.PieceKind.{PieceKind}
use Rattle.list_laws.specs.Member.{Member}
use Rattle.op_board.specs.Operations.{Operand, Known, From, Operation, Work, Load, Operate, Store, Take, Write, Begin, Advance, DecideTruth, DecideSign, DecideNumber, DecideTrips, DecideFirst, gives_value, is_decision, operations_of}
use Rattle.op_board.specs.OperationFacts.{is_parting}
use Rattle.op_board.specs.OperationLists.{takes_one, takes_by, takes_of}
use Rattle.op_board.proofs.ValueTaking.{EndsBy, get_end, operations_end}

-- ---- takers

some_more : (other number more : ℕ) → 0 < more → 0 < takes_one other number more
some_more zero zero more some = omega arith
some_more zero (suc n) more some = some
some_more (suc o) zero more some = some
some_more (suc o) (suc n) more some = some_more o n more some

own_one : (number more : ℕ) → 0 < takes_one number number more
own_one zero more = omega arith
own_one (suc n) more = own_one n more

-- an operand is the value
pub takes_among : (operands : List Operand) (number : ℕ) → Member operands (From number) → 0 < takes_by operands number
takes_among [] number m = absurd m
takes_among (Known z ∷ operands) number (inl e) = let e : Known z ≡ From number = e in absurd cc
takes_among (Known z ∷ operands) number (inr m) = takes_among operands number m
takes_among (From other ∷ operands) number (inl e) = let same : other ≡ number = cc in subst (λ o. 0 < takes_one o number (takes_by operands number)) (sym same) (own_one number (takes_by operands number))
takes_among (From other ∷ operands) number (inr m) = some_more other number (takes_by operands number) (takes_among operands number m)

some_taker : (ops : List Operation) (i number : ℕ) (op : Operation) → slice_get ops i ≡ Some op → 0 < takes_by op.operands number → 0 < takes_of ops number
some_taker [] i number op at takes = absurd cc
some_taker (first ∷ ops) zero number op at takes =
    let same : first ≡ op = cc in
    let more : 0 < takes_by first.operands number = subst (λ o. 0 < takes_by o.operands number) (sym same) takes in
    omega (arith, more)
some_taker (first ∷ ops) (suc i) number op at takes = let more = some_taker ops i number op at takes in omega (arith, more)

-- of the operations one at most takes a value
pub one_taker : (ops : List Operation) (i j number : ℕ) (a b : Operation) → slice_get ops i ≡ Some a → slice_get ops j ≡ Some b → 0 < takes_by a.operands number → 0 < takes_by b.operands number → takes_of ops number ≤ 1 → i ≡ j
one_taker [] i j number a b first second takes takes_too most = absurd cc
one_taker (op ∷ ops) zero zero number a b first second takes takes_too most = refl
one_taker (op ∷ ops) zero (suc j) number a b first second takes takes_too most =
    let same : op ≡ a = cc in
    let here : 0 < takes_by op.operands number = subst (λ o. 0 < takes_by o.operands number) (sym same) takes in
    let there = some_taker ops j number b second takes_too in
    absurd (omega (arith, here, there, most))
one_taker (op ∷ ops) (suc i) zero number a b first second takes takes_too most =
    let same : op ≡ b = cc in
    let here : 0 < takes_by op.operands number = subst (λ o. 0 < takes_by o.operands number) (sym same) takes_too in
    let there = some_taker ops i number a first takes in
    absurd (omega (arith, here, there, most))
one_taker (op ∷ ops) (suc i) (suc j) number a b first second takes takes_too most = ap suc (one_taker ops i j number a b first second takes takes_too (omega (arith, most)))

-- ---- decisions

no_value : {P : Type 0} (work : Work) → gives_value work ≡ true → is_decision work ≡ true → P
no_value (Load name subs) gives decides = absurd cc
no_value (Operate op) gives decides = absurd cc
no_value (Store name subs) gives decides = absurd cc
no_value Take gives decides = absurd cc
no_value (Write items) gives decides = absurd cc
no_value (Begin loop_no var) gives decides = absurd cc
no_value (Advance loop_no var) gives decides = absurd cc
no_value DecideTruth gives decides = absurd cc
no_value DecideSign gives decides = absurd cc
no_value (DecideNumber count) gives decides = absurd cc
no_value (DecideTrips loop_no) gives decides = absurd cc
no_value DecideFirst gives decides = absurd cc

last_decides : (parts : Bool) (ops : List Operation) (ends : EndsBy parts ops) (i : ℕ) (op : Operation) → slice_get ops i ≡ Some op → is_decision op.work ≡ true → i ≡ length ends.done
last_decides parts ops ends i op at decides =
    by (get_end ends.done (record { work = ends.work; operands = ends.operands }) op i (sym (ap (λ list. slice_get list i) ends.is) ∙ at))
  where
    by : (slice_get ends.done i ≡ Some op) ⊎ ((i ≡ length ends.done) × (record { work = ends.work; operands = ends.operands } ≡ op)) → i ≡ length ends.done
    by (inl before) = no_value op.work (ends.taken.gives i op before) decides
    by (inr last) = last.0

pub one_decision : (names : List NameInfo) (piece : PieceKind) (exec : ExecKind) (i j : ℕ) (a b : Operation) → slice_get (operations_of names piece exec) i ≡ Some a → slice_get (operations_of names piece exec) j ≡ Some b → is_decision a.work ≡ true → is_decision b.work ≡ true → i ≡ j
one_decision names piece exec i j a b first second decides decides_too = by (operations_end names piece exec)
  where
    by : (operations_of names piece exec ≡ []) ⊎ EndsBy (is_parting piece) (operations_of names piece exec) → i ≡ j
    by (inl none) = let e : None ≡ Some a = ap (λ list. slice_get list i) (sym none) ∙ first in absurd cc
    by (inr ends) = last_decides (is_parting piece) (operations_of names piece exec) ends i a first decides ∙ sym (last_decides (is_parting piece) (operations_of names piece exec) ends j b second decides_too)
