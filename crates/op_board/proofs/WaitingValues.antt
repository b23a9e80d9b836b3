-- Which values of a piece's operations wait to be taken, after so many of them.
use Rattle.std.proofs.Common.{◌≡◌, ◌<◌, ◌≤◌, ◌⊎◌, ⊎_elim, ℕ, zero, suc, ◌+◌, ◌==◌, ℤ, Bool, true, false, if◌then◌else◌, List, [], ◌∷◌, ◌++◌, length, take, drop, Option, Some, None, slice_get, refl, sym, ap, ◌∙◌, subst, inl, inr, eqb-true, arith}
use Rattle.std.proofs.lemmas.Bool.{cases_Bool}
use Rattle.list_laws.specs.Member.{Member}
use Rattle.net_board.proofs.ListPlaces.{same_or_not}
use Rattle.net_board.proofs.ListPrefixes.{below_length, get_right, take_more, take_whole}
use Rattle.op_board.specs.Operations.{Operand, Known, From, Operation}
use Rattle.op_board.specs.OperationLists.{takes_one, takes_by, takes_of, IsOperationList}
use Rattle.op_board.specs.OperationNets.{OperationNet, first_operation}
use Rattle.op_board.specs.OperationTokens.{givers}

-- ---- how often a value is taken

takes_join : (ops others : List Operation) (j : ℕ) → takes_of (ops ++ others) j ≡ takes_of ops j + takes_of others j
takes_join [] others j = zero_plus (takes_of others j)
  where
    zero_plus : (n : ℕ) → n ≡ 0 + n
    zero_plus n = omega arith
takes_join (op ∷ ops) others j = ap (λ (n : ℕ). takes_by op.operands j + n) (takes_join ops others j) ∙ plus_assoc (takes_by op.operands j) (takes_of ops j) (takes_of others j)
  where
    plus_assoc : (a b c : ℕ) → a + (b + c) ≡ a + b + c
    plus_assoc a b c = omega arith

pub drop_more : {X : Type 0} (xs : List X) (i : ℕ) (x : X) → slice_get xs i ≡ Some x → drop i xs ≡ x ∷ drop (suc i) xs
drop_more [] i x at = let e : None ≡ Some x = at in absurd cc
drop_more (y ∷ xs) zero x at = by at
  where
    by : Some y ≡ Some x → (y ∷ xs) ≡ (x ∷ xs)
    by same = cc
drop_more (y ∷ xs) (suc i) x at = drop_more xs i x at

pub drop_whole : {X : Type 0} (xs : List X) → drop (length xs) xs ≡ []
drop_whole [] = refl
drop_whole (x ∷ xs) = drop_whole xs

takes_split : (ops : List Operation) (i j : ℕ) → takes_of ops j ≡ takes_of (take i ops) j + takes_of (drop i ops) j
takes_split ops zero j = zero_plus (takes_of ops j)
  where
    zero_plus : (n : ℕ) → n ≡ 0 + n
    zero_plus n = omega arith
takes_split [] (suc i) j = refl
takes_split (op ∷ ops) (suc i) j = ap (λ (n : ℕ). takes_by op.operands j + n) (takes_split ops i j) ∙ plus_assoc (takes_by op.operands j) (takes_of (take i ops) j) (takes_of (drop i ops) j)
  where
    plus_assoc : (a b c : ℕ) → a + (b + c) ≡ a + b + c
    plus_assoc a b c = omega arith

takes_next : (ops : List Operation) (i j : ℕ) (op : Operation) → slice_get ops i ≡ Some op → takes_of (take (suc i) ops) j ≡ takes_of (take i ops) j + takes_by op.operands j
takes_next ops i j op at = ap (λ (xs : List Operation). takes_of xs j) (take_more ops i op at) ∙ takes_join (take i ops) (op ∷ []) j ∙ ap (λ (n : ℕ). takes_of (take i ops) j + n) (plus_zero (takes_by op.operands j))
  where
    plus_zero : (n : ℕ) → n + 0 ≡ n
    plus_zero n = omega arith

takes_same : (j more : ℕ) → takes_one j j more ≡ suc more
takes_same zero more = refl
takes_same (suc j) more = takes_same j more

takes_other : (o j more : ℕ) → (o ≡ j → ⊥) → takes_one o j more ≡ more
takes_other zero zero more differ = absurd (differ refl)
takes_other zero (suc j) more differ = refl
takes_other (suc o) zero more differ = refl
takes_other (suc o) (suc j) more differ = takes_other o j more (λ e. differ (ap suc e))

takes_least : (o j more : ℕ) → more ≤ takes_one o j more
takes_least zero zero more = omega arith
takes_least zero (suc j) more = omega arith
takes_least (suc o) zero more = omega arith
takes_least (suc o) (suc j) more = takes_least o j more

-- ---- the nodes that give operands

module _ (x : OperationNet) (piece : ℕ) where
  pub giver_in : (operands : List Operand) (j : ℕ) → 0 < takes_by operands j → Member (givers x piece operands) (first_operation x piece + j)
  giver_in [] j some = absurd (omega (arith, some))
  giver_in (Known z ∷ operands) j some = giver_in operands j some
  giver_in (From number ∷ operands) j some = by (giver_in operands j) (same_or_not number j)
    where
      by : (0 < takes_by operands j → Member (givers x piece operands) (first_operation x piece + j)) → (number ≡ j) ⊎ (number ≡ j → ⊥) → Member (givers x piece (From number ∷ operands)) (first_operation x piece + j)
      by rest (inl same) = inl (ap (λ (i : ℕ). first_operation x piece + i) same)
      by rest (inr differ) = inr (rest (subst (λ (n : ℕ). 0 < n) (takes_other number j (takes_by operands j) differ) some))

  pub record IsGiver (operands : List Operand) (k : ℕ) : Type 0 where
    pub number : ℕ
    pub is : first_operation x piece + number ≡ k
    pub takes : 0 < takes_by operands number

  pub giver_has : (operands : List Operand) (k : ℕ) → Member (givers x piece operands) k → IsGiver operands k
  giver_has [] k m = absurd m
  giver_has (Known z ∷ operands) k m = let r : IsGiver operands k = giver_has operands k m in record { number = r.number; is = r.is; takes = r.takes }
  giver_has (From number ∷ operands) k (inl same) = record { number = number; is = same; takes = subst (λ (n : ℕ). 0 < n) (sym (takes_same number (takes_by operands number))) (omega arith) }
  giver_has (From number ∷ operands) k (inr m) =
      let r : IsGiver operands k = giver_has operands k m in
      let least = takes_least number r.number (takes_by operands r.number) in
      let some = r.takes in
      record { number = r.number; is = r.is; takes = omega (arith, least, some) }

-- ---- what waits

-- the value of an operation, where those before one have these values: it waits until it is taken
abbrev pub waiting : List Operation → (values : List ℤ) → (i j : ℕ) → Option ℤ
waiting ops values i j = if takes_of (take i ops) j == 0 then slice_get values j else None

abbrev no_value : Option ℤ
no_value = None

none_if : (b : Bool) → (if b then no_value else no_value) ≡ no_value
none_if true = refl
none_if false = refl

pub none_waits : (ops : List Operation) (j : ℕ) → waiting ops [] 0 j ≡ None
none_waits ops j = none_if (takes_of (take 0 ops) j == 0)

not_zero : (n : ℕ) → 0 < n → (n == 0) ≡ false
not_zero n some = ⊎_elim (λ (h : (n == 0) ≡ true). let e = eqb-true n 0 h in absurd (omega (arith, some, e))) (λ (h : (n == 0) ≡ false). h) (cases_Bool (n == 0))

module _ (ops : List Operation) (list : IsOperationList ops) (i : ℕ) (op : Operation) (at : slice_get ops i ≡ Some op) where
  low : i < length ops
  low = below_length ops i op at

  -- what the operation takes was given before, and nobody has taken it
  pub record IsTaken (j : ℕ) : Type 0 where
    pub before : j < i
    pub untaken : takes_of (take i ops) j ≡ 0

  pub taken_here : (j : ℕ) → 0 < takes_by op.operands j → IsTaken j
  taken_here j some =
      let before = list.later i j op at some in
      let once = list.once j (omega (arith, before, low)) in
      let split = takes_split ops (suc i) j in
      let next = takes_next ops i j op at in
      record { before = before; untaken = omega (arith, some, once, split, next) }

  -- at the end each value but the last one has been taken
  pub all_taken : (values : List ℤ) (j : ℕ) → suc i ≡ length ops → j < i → waiting ops values (suc i) j ≡ None
  all_taken values j last before =
      let once = list.once j (omega (arith, before, low)) in
      let whole : takes_of (take (suc i) ops) j ≡ takes_of ops j = ap (λ (n : ℕ). takes_of (take n ops) j) last ∙ ap (λ (xs : List Operation). takes_of xs j) (take_whole ops) in
      ap (λ (b : Bool). if b then slice_get values j else None) (not_zero (takes_of (take (suc i) ops) j) (omega (arith, whole, once)))

  module _ (values : List ℤ) (long : length values ≡ i) (v : ℤ) where
    pub taken_after : (j : ℕ) → 0 < takes_by op.operands j → waiting ops (values ++ v ∷ []) (suc i) j ≡ None
    taken_after j some = let next = takes_next ops i j op at in ap (λ (b : Bool). if b then slice_get (values ++ v ∷ []) j else None) (not_zero (takes_of (take (suc i) ops) j) (omega (arith, next, some)))

    get_same : (j : ℕ) → (j ≡ i → ⊥) → slice_get (values ++ v ∷ []) j ≡ slice_get values j
    get_same j differ = by (low_or_high j i)
      where
        low_or_high : (a b : ℕ) → (a < b) ⊎ (b ≤ a)
        low_or_high a b = grind arith

        more : (xs : List ℤ) (k : ℕ) → length xs ≤ k → (k ≡ length xs → ⊥) → slice_get (xs ++ v ∷ []) k ≡ slice_get xs k
        more [] zero high apart = absurd (apart refl)
        more [] (suc k) high apart = refl
        more (y ∷ xs) zero high apart = absurd (omega (arith, high))
        more (y ∷ xs) (suc k) high apart = more xs k (omega (arith, high)) (λ e. apart (ap suc e))

        less : (xs : List ℤ) (k : ℕ) → k < length xs → slice_get (xs ++ v ∷ []) k ≡ slice_get xs k
        less [] k h = absurd (omega (arith, h))
        less (y ∷ xs) zero h = refl
        less (y ∷ xs) (suc k) h = less xs k (omega (arith, h))

        by : (j < i) ⊎ (i ≤ j) → slice_get (values ++ v ∷ []) j ≡ slice_get values j
        by (inl h) = less values j (omega (arith, h, long))
        by (inr h) = more values j (omega (arith, h, long)) (λ e. differ (e ∙ long))

    -- another value waits as before
    pub others_wait : (j : ℕ) → (j ≡ i → ⊥) → takes_by op.operands j ≡ 0 → waiting ops (values ++ v ∷ []) (suc i) j ≡ waiting ops values i j
    others_wait j differ none =
        let next = takes_next ops i j op at in
        let same : takes_of (take (suc i) ops) j ≡ takes_of (take i ops) j = omega (arith, next, none) in
        ap (λ (n : ℕ). if n == 0 then slice_get (values ++ v ∷ []) j else None) same
        ∙ ap (λ (o : Option ℤ). if takes_of (take i ops) j == 0 then o else None) (get_same j differ)

    untaken_self : (k : ℕ) → k ≤ suc i → takes_of (take k ops) i ≡ 0
    untaken_self zero high = refl
    untaken_self (suc k) high = by (untaken_self k (omega (arith, high))) (get_at ops k (omega (arith, high, low)))
      where
        get_at : (xs : List Operation) (k : ℕ) → k < length xs → Rattle.net_board.proofs.ListPrefixes.HasItem xs k
        get_at xs k below = Rattle.net_board.proofs.ListPrefixes.item_at xs k below

        by : takes_of (take k ops) i ≡ 0 → Rattle.net_board.proofs.ListPrefixes.HasItem ops k → takes_of (take (suc k) ops) i ≡ 0
        by before own =
            let item = own.item in
            let next = takes_next ops k i own.item own.at in
            ⊎_elim
            (λ (some : 0 < takes_by item.operands i). let h = list.later k i own.item own.at some in absurd (omega (arith, h, high)))
            (λ (none : takes_by item.operands i ≡ 0). omega (arith, next, before, none))
            (some_or_none (takes_by item.operands i))
          where
            some_or_none : (n : ℕ) → (0 < n) ⊎ (n ≡ 0)
            some_or_none zero = inr refl
            some_or_none (suc n) = inl (omega arith)

    -- the new value waits
    pub new_waits : waiting ops (values ++ v ∷ []) (suc i) i ≡ Some v
    new_waits =
        let e : length values + 0 ≡ i = omega (arith, long) in
        let here : slice_get (values ++ v ∷ []) i ≡ Some v = subst (λ (k : ℕ). slice_get (values ++ v ∷ []) k ≡ Some v) e (get_right values (v ∷ []) 0 v refl) in
        ap (λ (n : ℕ). if n == 0 then slice_get (values ++ v ∷ []) i else None) (untaken_self (suc i) (omega arith)) ∙ here
