-- Whose values the operands of a list are, as the list grows.
use Rattle.std.proofs.Common.{◌≡◌, ◌≢◌, ⊎_elim, ℕ, zero, suc, ◌+◌, ◌<◌, nat_lt, Bool, true, false, if◌then◌else◌, List, [], ◌∷◌, ◌++◌, length, map, take, get_or, Option, Some, None, slice_get, option_map, ℤ, refl, sym, ap, ◌∙◌, subst, lt-ltb, arith}
use Rattle.std.proofs.lemmas.Bool.{cases_eq, ltb-false, ltb-true}
use Rattle.std.proofs.lemmas.List.{length-map, map-append, take_more}
use Rattle.std.proofs.lemmas.Option.{slice_get-get_or, slice_get-map}
use Rattle.op_board.specs.Operations as board
use Rattle.op_board.specs.Operations.{Operand, Known, From}
use Rattle.op_board.specs.OperationLists.{takes_by, takes_of, takes_one}
use Rattle.operation_lists.specs.declared.operations.Operand.{Operand as Operand'}
use Rattle.operation_lists.specs.declared.operations.Operation.{Operation}
use Rattle.operation_lists.specs.declared.operations.Operand.TheVariants as operand
use Rattle.op_board.specs.OperationNets.{operation_in}
use Rattle.operation_tables.specs.OperationRows.{IsTakerIn}
use Rattle.operation_lists.specs.Seen.{operand_seen, operation_seen}

-- ---- operands

one_plus : (o n more : ℕ) → takes_one o n more ≡ takes_one o n 0 + more
one_plus zero zero more = omega arith
one_plus zero (suc n) more = omega arith
one_plus (suc o) zero more = omega arith
one_plus (suc o) (suc n) more = one_plus o n more

one_same : (n : ℕ) → takes_one n n 0 ≡ 1
one_same zero = refl
one_same (suc n) = one_same n

one_other : (o n : ℕ) → (o ≡ n → ⊥) → takes_one o n 0 ≡ 0
one_other zero zero apart = absurd (apart refl)
one_other zero (suc n) apart = refl
one_other (suc o) zero apart = refl
one_other (suc o) (suc n) apart = one_other o n (λ same. apart (ap suc same))

takes_join : (xs ys : List Operand) (n : ℕ) → takes_by (xs ++ ys) n ≡ takes_by xs n + takes_by ys n
takes_join [] ys n = zero_plus (takes_by ys n)
  where
    zero_plus : (n : ℕ) → n ≡ 0 + n
    zero_plus n = omega arith
takes_join (Known z ∷ xs) ys n = takes_join xs ys n
takes_join (From o ∷ xs) ys n =
    let all = one_plus o n (takes_by (xs ++ ys) n) in
    let front = one_plus o n (takes_by xs n) in
    let rest = takes_join xs ys n in
    omega (arith, all, front, rest)

-- the operand with this number is the value of the operation n
pub operand_takes : (xs : List Operand) (k n : ℕ) → slice_get xs k ≡ Some (From n) → 0 < takes_by xs n
operand_takes [] k n at = let no : None ≡ Some (From n) = at in absurd cc
operand_takes (x ∷ xs) zero n at = subst (λ (o : Operand). 0 < takes_by (o ∷ xs) n) (sym (same x at)) (let all = one_plus n n (takes_by xs n) in let one = one_same n in omega (arith, all, one))
  where
    same : (x : Operand) → Some x ≡ Some (From n) → x ≡ From n
    same x e = cc
operand_takes (Known z ∷ xs) (suc k) n at = operand_takes xs k n at
operand_takes (From o ∷ xs) (suc k) n at = let rest = operand_takes xs k n at in let all = one_plus o n (takes_by xs n) in omega (arith, all, rest)

-- ---- one operand more

module _ (items : List Operand') (k : ℕ) (d : Operand') (low : k < length items) where
  abbrev taken_by : (front n : ℕ) → ℕ
  taken_by front n = takes_by (map operand_seen (take front items)) n

  by_more : (n : ℕ) → taken_by (k + 1) n ≡ taken_by k n + takes_by (operand_seen (get_or items k d) ∷ []) n
  by_more n =
      ap (λ (xs : List Operand'). takes_by (map operand_seen xs) n) (take_more items k d low)
      ∙ ap (λ (xs : List Operand). takes_by xs n) (map-append operand_seen (take k items) (get_or items k d ∷ []))
      ∙ takes_join (map operand_seen (take k items)) (operand_seen (get_or items k d) ∷ []) n

  -- an operand that is the value of an operation
  pub node_takes : (number : ℕ) → get_or items k d ≡ operand.Node number → 0 < takes_by (map operand_seen items) number
  node_takes number is = operand_takes (map operand_seen items) k number (slice_get-map operand_seen items k ∙ ap (option_map operand_seen) (slice_get-get_or items k d low ∙ ap (λ (o : Operand'). Some o) is))

  module _ (told : ℕ) (old mid new : ℕ → ℕ) (was : (n : ℕ) → mid n ≡ if nat_lt 0 (taken_by k n) then told else old n) where
    pub node_more : (number : ℕ) → get_or items k d ≡ operand.Node number → new number ≡ told → ((n : ℕ) → n ≢ number → new n ≡ mid n) → (n : ℕ) → new n ≡ if nat_lt 0 (taken_by (k + 1) n) then told else old n
    node_more number is here others n = ⊎_elim
        (λ (same : n ≡ number).
        let more : taken_by (k + 1) n ≡ taken_by k n + takes_one number n 0 = by_more n ∙ ap (λ (o : Operand'). taken_by k n + takes_by (operand_seen o ∷ []) n) is in
        let one : takes_one number n 0 ≡ 1 = ap (λ m. takes_one number m 0) same ∙ one_same number in
        ap new same ∙ here ∙ sym (ap (λ b. if b then told else old n) (lt-ltb 0 (taken_by (k + 1) n) (omega (arith, more, one)))))
        (λ (apart : n ≢ number).
        let more : taken_by (k + 1) n ≡ taken_by k n + takes_one number n 0 = by_more n ∙ ap (λ (o : Operand'). taken_by k n + takes_by (operand_seen o ∷ []) n) is in
        let none : takes_one number n 0 ≡ 0 = one_other number n (λ e. apart (sym e)) in
        let same : taken_by (k + 1) n ≡ taken_by k n = omega (arith, more, none) in
        others n apart ∙ was n ∙ ap (λ m. if nat_lt 0 m then told else old n) (sym same))
        (cases_eq n number)

    pub known_more : (z : ℤ) → get_or items k d ≡ operand.Known z → (n : ℕ) → mid n ≡ if nat_lt 0 (taken_by (k + 1) n) then told else old n
    known_more z is n =
        let more : taken_by (k + 1) n ≡ taken_by k n + 0 = by_more n ∙ ap (λ (o : Operand'). taken_by k n + takes_by (operand_seen o ∷ []) n) is in
        let same : taken_by (k + 1) n ≡ taken_by k n = omega (arith, more) in
        was n ∙ ap (λ m. if nat_lt 0 m then told else old n) (sym same)

-- ---- operations

takes_of_join : (xs ys : List board.Operation) (n : ℕ) → takes_of (xs ++ ys) n ≡ takes_of xs n + takes_of ys n
takes_of_join [] ys n = zero_plus (takes_of ys n)
  where
    zero_plus : (n : ℕ) → n ≡ 0 + n
    zero_plus n = omega arith
takes_of_join (x ∷ xs) ys n = let rest = takes_of_join xs ys n in omega (arith, rest)

module _ (items : List Operation) (k : ℕ) (op : Operation) (low : k < length items) (is : op ≡ get_or items k op) where
  pub operation_seen_at : slice_get (map operation_seen items) k ≡ Some (operation_seen op)
  operation_seen_at = slice_get-map operation_seen items k ∙ ap (option_map operation_seen) (slice_get-get_or items k op low ∙ ap (λ (o : Operation). Some o) (sym is))

  of_more : (n : ℕ) → takes_of (map operation_seen (take (k + 1) items)) n ≡ takes_of (map operation_seen (take k items)) n + takes_by (map operand_seen op.operands.items) n
  of_more n =
      let one : takes_of (map operation_seen (take (k + 1) items)) n ≡ takes_of (map operation_seen (take k items)) n + takes_of (operation_seen op ∷ []) n =
      ap (λ (xs : List Operation). takes_of (map operation_seen xs) n) (take_more items k op low)
      ∙ ap (λ (o : Operation). takes_of (map operation_seen (take k items ++ o ∷ [])) n) (sym is)
      ∙ ap (λ (xs : List board.Operation). takes_of xs n) (map-append operation_seen (take k items) (op ∷ []))
      ∙ takes_of_join (map operation_seen (take k items)) (operation_seen op ∷ []) n in
      let alone : takes_of (operation_seen op ∷ []) n ≡ takes_by (map operand_seen op.operands.items) n + 0 = refl in
      omega (arith, one, alone)

  -- those whose values the next operation takes have it as their taker, and others the one that they had
  pub takers_more : (mid new : ℕ → ℕ) → ((n : ℕ) → 0 < takes_of (map operation_seen (take k items)) n → IsTakerIn (map operation_seen items) n (mid n)) → ((n : ℕ) → new n ≡ if nat_lt 0 (takes_by (map operand_seen op.operands.items) n) then k else mid n) → (n : ℕ) → 0 < takes_of (map operation_seen (take (k + 1) items)) n → IsTakerIn (map operation_seen items) n (new n)
  takers_more mid new was is_new n some = by (nat_lt 0 (takes_by (map operand_seen op.operands.items) n)) refl
    where
      by : (b : Bool) → nat_lt 0 (takes_by (map operand_seen op.operands.items) n) ≡ b → IsTakerIn (map operation_seen items) n (new n)
      by true takes = subst (λ t. IsTakerIn (map operation_seen items) n t) (sym (is_new n ∙ ap (λ b. if b then k else mid n) takes)) (record {
        inside = let all = length-map items operation_seen in omega (arith, all, low);
        takes = subst (λ (o : Option board.Operation). 0 < takes_by (operation_in o).operands n) (sym operation_seen_at) (ltb-true 0 (takes_by (map operand_seen op.operands.items) n) takes);
      })
      by false none = subst (λ t. IsTakerIn (map operation_seen items) n t) (sym (is_new n ∙ ap (λ b. if b then k else mid n) none)) (was n (let more = of_more n in let zero = ltb-false 0 (takes_by (map operand_seen op.operands.items) n) none in omega (arith, some, more, zero)))
