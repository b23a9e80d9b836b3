-- How many operands of an operation are values of others.
use Rattle.std.proofs.Common.{◌≡◌, ⊎_elim, ℕ, ℤ, zero, suc, ◌+◌, ◌<◌, ◌≤◌, Bool, true, not, List, [], ◌∷◌, Some, slice_get, refl, sym, ap, ◌∙◌, subst, arith}
use Rattle.std.proofs.lemmas.Bool.{cases_eq}
use Rattle.operation_tables.specs.Waits.{one_if, failing}
use Rattle.op_board.specs.Operations.{Operand, Known, From, Operation}
use Rattle.op_board.specs.OperationLists.{takes_one, takes_by, takes_of}
use Rattle.operation_places.proofs.FailingLists.{one_at_most}

pub takes_same : (o more : ℕ) → takes_one o o more ≡ suc more
takes_same zero more = refl
takes_same (suc o) more = takes_same o more

pub takes_other : (o n more : ℕ) → (o ≡ n → ⊥) → takes_one o n more ≡ more
takes_other zero zero more differ = absurd (differ refl)
takes_other zero (suc n) more differ = refl
takes_other (suc o) zero more differ = refl
takes_other (suc o) (suc n) more differ = takes_other o n more (λ e. differ (ap suc e))

pub takes_more : (o n more : ℕ) → more ≤ takes_one o n more
takes_more o n more = ⊎_elim
    (λ (e : o ≡ n). let s : takes_one o n more ≡ suc more = ap (λ z. takes_one o z more) (sym e) ∙ takes_same o more in omega (arith, s))
    (λ differ. let s = takes_other o n more differ in omega (arith, s))
    (cases_eq o n)

-- an operation takes a value at most as often as all of the piece do
pub takes_within : (ops : List Operation) (i number : ℕ) (op : Operation) → slice_get ops i ≡ Some op → takes_by op.operands number ≤ takes_of ops number
takes_within [] i number op is = absurd cc
takes_within (first ∷ ops) zero number op is =
    let same : first ≡ op = cc in
    subst (λ (o : Operation). takes_by o.operands number ≤ takes_by first.operands number + takes_of ops number) same (omega arith)
takes_within (first ∷ ops) (suc i) number op is = let r = takes_within ops i number op is in omega (arith, r)

-- how often the values of the operations below n are taken
abbrev taken_below : List Operand → ℕ → ℕ
taken_below operands zero = 0
taken_below operands (suc n) = takes_by operands n + taken_below operands n

below_once : (operands : List Operand) (n : ℕ) → ((number : ℕ) → number < n → takes_by operands number ≤ 1) → taken_below operands n ≤ n
below_once operands zero once = omega arith
below_once operands (suc n) once =
    let r = below_once operands n (λ number low. once number (omega (arith, low))) in
    let o = once n (omega arith) in
    omega (arith, r, o)

below_known : (z : ℤ) (operands : List Operand) (n : ℕ) → taken_below (Known z ∷ operands) n ≡ taken_below operands n
below_known z operands zero = refl
below_known z operands (suc n) = ap (λ k. takes_by operands n + k) (below_known z operands n)

below_past : (other : ℕ) (operands : List Operand) (n : ℕ) → n ≤ other → taken_below (From other ∷ operands) n ≡ taken_below operands n
below_past other operands zero past = refl
below_past other operands (suc n) past =
    let here = takes_other other n (takes_by operands n) (λ e. omega (arith, e, past)) in
    let r = below_past other operands n (omega (arith, past)) in
    omega (arith, here, r)

below_from : (other : ℕ) (operands : List Operand) (n : ℕ) → other < n → taken_below (From other ∷ operands) n ≡ suc (taken_below operands n)
below_from other operands zero low = absurd (omega (arith, low))
below_from other operands (suc n) low = ⊎_elim
    (λ (e : other ≡ n).
    let here : takes_one other n (takes_by operands n) ≡ suc (takes_by operands n) = ap (λ z. takes_one z n (takes_by operands n)) e ∙ takes_same n (takes_by operands n) in
    let r = below_past other operands n (omega (arith, e)) in
    omega (arith, here, r))
    (λ (differ : other ≡ n → ⊥).
    let here = takes_other other n (takes_by operands n) differ in
    let r = below_from other operands n (omega (arith, low, differ)) in
    omega (arith, here, r))
    (cases_eq other n)

module _ (given : Operand → Bool) (known : (z : ℤ) → given (Known z) ≡ true) (n : ℕ) where
  failing_below : (operands : List Operand) → ((number : ℕ) → 0 < takes_by operands number → number < n) → failing given operands ≤ taken_below operands n
  failing_below [] earlier = omega arith
  failing_below (Known z ∷ operands) earlier =
      let r = failing_below operands earlier in
      let k = below_known z operands n in
      let none : one_if (not (given (Known z))) ≡ 0 = ap (λ b. one_if (not b)) (known z) in
      omega (arith, r, k, none)
  failing_below (From other ∷ operands) earlier =
      let same = takes_same other (takes_by operands other) in
      let low = earlier other (omega (arith, same)) in
      let r = failing_below operands (λ number some. let more = takes_more other number (takes_by operands number) in earlier number (omega (arith, some, more))) in
      let o = one_at_most (not (given (From other))) in
      let s = below_from other operands n low in
      omega (arith, r, o, s)

  -- no more operands than there are values before are missing
  pub failing_few : (operands : List Operand) → ((number : ℕ) → 0 < takes_by operands number → number < n) → ((number : ℕ) → number < n → takes_by operands number ≤ 1) → failing given operands ≤ n
  failing_few operands earlier once =
      let r = failing_below operands earlier in
      let o = below_once operands n once in
      omega (arith, r, o)
