-- How many operations of a piece need a line, and which one is the first.
use Rattle.std.proofs.Common.{◌≡◌, ⊎_elim, ℕ, zero, suc, ◌+◌, ◌-◌, ◌<◌, ◌≤◌, ◌==◌, Bool, true, false, List, [], ◌∷◌, length, filter, Option, Some, None, refl, sym, ap, ◌∙◌, subst, length-append, eqb-true, eq-eqb, arith}
use Rattle.std.specs.List.{list_any, range_with_len}
use Rattle.std.specs.List.Sorted.{IsStrictlyIncreasing}
use Rattle.std.proofs.lemmas.Bool.{cases_Bool, false≢true, ne_eqb}
use Rattle.std.proofs.lemmas.List.Elements.{filter-append}
use Rattle.std.proofs.lemmas.List.FromFn.{get_or-range_with_len, length-range_with_len}
use Rattle.std.proofs.lemmas.List.Kept.{IsStrictlyIncreasing-filter}
use Rattle.list_laws.proofs.Members.{IsPassed, Member-filter, Member-filtered, Member-range, list_any_member, member_of_list_any}
use Rattle.list_laws.proofs.Ranges.{range_more}
use Rattle.net_board.specs.WokenNodes.{passing_below}
use Rattle.op_board.specs.OperationNets.{OperationNet, needing_before, operation_count}
use Rattle.operation_tables.specs.OperationRows.{IsEntry, NextIs}
use Rattle.operation_tables.specs.ScratchLines.{FirstIs}
use Rattle.operation_tables.specs.Waits.{one_if}

-- ---- how many pass a test

pub passing_next : (test : ℕ → Bool) (n : ℕ) → passing_below test (n + 1) ≡ passing_below test n + one_if (test n)
passing_next test n =
    ap (λ (xs : List ℕ). length (filter test xs)) (range_more n)
    ∙ ap length (filter-append test (range_with_len 0 n) (n ∷ []))
    ∙ length-append (filter test (range_with_len 0 n)) (filter test (n ∷ []))
    ∙ ap (λ k. passing_below test n + k) (by (test n) refl)
  where
    by : (b : Bool) → test n ≡ b → length (filter test (n ∷ [])) ≡ one_if b
    by true is = rw is refl
    by false is = rw is refl

pub passing_told : (test : ℕ → Bool) (n : ℕ) → test n ≡ true → passing_below test (n + 1) ≡ suc (passing_below test n)
passing_told test n is = let more = passing_next test n in let one : one_if (test n) ≡ 1 = ap one_if is in omega (arith, more, one)

pub passing_not : (test : ℕ → Bool) (n : ℕ) → test n ≡ false → passing_below test (n + 1) ≡ passing_below test n
passing_not test n is = let more = passing_next test n in let one : one_if (test n) ≡ 0 = ap one_if is in omega (arith, more, one)

passing_grows : (test : ℕ → Bool) (i more : ℕ) → passing_below test i ≤ passing_below test (i + more)
passing_grows test i zero = let e : i + 0 ≡ i = omega arith in subst (λ k. passing_below test i ≤ passing_below test k) (sym e) (omega arith)
passing_grows test i (suc more) =
    let e : (i + more) + 1 ≡ i + suc more = omega arith in
    let before = passing_grows test i more in
    let next = passing_next test (i + more) in
    subst (λ k. passing_below test i ≤ passing_below test k) e (omega (arith, before, next))

pub passing_up : (test : ℕ → Bool) (i j : ℕ) → i ≤ j → passing_below test i ≤ passing_below test j
passing_up test i j low = let e : i + (j - i) ≡ j = omega (arith, low) in subst (λ k. passing_below test i ≤ passing_below test k) e (passing_grows test i (j - i))

pub passing_few : (test : ℕ → Bool) (n : ℕ) → passing_below test n ≤ n
passing_few test zero = omega arith
passing_few test (suc n) =
    let e : n + 1 ≡ suc n = omega arith in
    let before = passing_few test n in
    let next = passing_next test n in
    subst (λ k. passing_below test k ≤ k) e (by (test n) next before)
  where
    by : (b : Bool) → passing_below test (n + 1) ≡ passing_below test n + one_if b → passing_below test n ≤ n → passing_below test (n + 1) ≤ n + 1
    by true next before = omega (arith, next, before)
    by false next before = omega (arith, next, before)

pub passing_none : (test : ℕ → Bool) (n : ℕ) → ((k : ℕ) → k < n → test k ≡ false) → passing_below test n ≡ 0
passing_none test zero none = refl
passing_none test (suc n) none =
    let e : n + 1 ≡ suc n = omega arith in
    subst (λ k. passing_below test k ≡ 0) e (passing_not test n (none n (omega arith)) ∙ passing_none test n (λ k low. none k (omega (arith, low))))

-- ---- lists of numbers that pass a test

pub range_rises : (n : ℕ) → IsStrictlyIncreasing (range_with_len 0 n)
range_rises n k low =
    let size = length-range_with_len 0 n in
    let one = get_or-range_with_len 0 n k 0 (omega (arith, low, size)) in
    let next = get_or-range_with_len 0 n (k + 1) 0 (omega (arith, low, size)) in
    omega (arith, one, next)

pub filter_rises : (test : ℕ → Bool) (n : ℕ) → IsStrictlyIncreasing (filter test (range_with_len 0 n))
filter_rises test n = IsStrictlyIncreasing-filter test (range_with_len 0 n) (range_rises n)

-- a number below the bound is listed where it passes
pub any_filtered : (test : ℕ → Bool) (n k : ℕ) → k < n → list_any (λ other. other == k) (filter test (range_with_len 0 n)) ≡ test k
any_filtered test n k low = by (test k) refl
  where
    by : (b : Bool) → test k ≡ b → list_any (λ other. other == k) (filter test (range_with_len 0 n)) ≡ b
    by true is = list_any_member (λ other. other == k) (filter test (range_with_len 0 n)) k (Member-filter test (range_with_len 0 n) k (Member-range 0 n k (omega arith) (omega (arith, low))) is) (eq-eqb k k refl)
    by false is = ⊎_elim
        (λ (h : list_any (λ other. other == k) (filter test (range_with_len 0 n)) ≡ true).
        let one : IsPassed (λ other. other == k) (filter test (range_with_len 0 n)) = member_of_list_any (λ other. other == k) (filter test (range_with_len 0 n)) h in
        let same : one.one ≡ k = eqb-true one.one k one.passes in
        absurd (false≢true (sym is ∙ ap test (sym same) ∙ (Member-filtered test (range_with_len 0 n) one.one one.among).1)))
        (λ (h : list_any (λ other. other == k) (filter test (range_with_len 0 n)) ≡ false). h)
        (cases_Bool (list_any (λ other. other == k) (filter test (range_with_len 0 n))))

-- ---- the first operation that needs a line

module _ (x : OperationNet) (piece line : ℕ) where
  abbrev test : ℕ → Bool
  test i = x.needs piece i line

  -- from an operation that needs the line the next one is the first one after it
  pub next_is : (i : ℕ) (first : Option ℕ) → i < operation_count x piece → x.needs piece i line ≡ true → FirstIs x piece (i + 1) line first → NextIs x piece i line first
  next_is i None inside needs none = eq-eqb (needing_before x piece (operation_count x piece) line) (suc (needing_before x piece i line)) (none ∙ passing_told test i needs)
  next_is i (Some n) inside needs is =
      let told = passing_told test i needs in
      let first = is.first in
      let next = passing_told test n is.needs in
      let up = passing_up test (n + 1) (operation_count x piece) (let inside = is.inside in omega (arith, inside)) in
      record {
        inside = is.inside;
        needs = is.needs;
        after = is.first ∙ told;
        more = ne_eqb (needing_before x piece (operation_count x piece) line) (suc (needing_before x piece i line)) (λ same. omega (arith, same, told, first, next, up));
      }

  -- an operation that needs the line is the first one from itself on
  pub first_here : (i : ℕ) → i < operation_count x piece → x.needs piece i line ≡ true → FirstIs x piece i line (Some i)
  first_here i inside needs = record { from = omega arith; inside = inside; needs = needs; first = refl }

  -- one that doesn't need it changes nothing
  pub first_before : (i : ℕ) (first : Option ℕ) → x.needs piece i line ≡ false → FirstIs x piece (i + 1) line first → FirstIs x piece i line first
  first_before i None not_needs none = none ∙ passing_not test i not_needs
  first_before i (Some n) not_needs is = let from = is.from in record { from = omega (arith, from); inside = is.inside; needs = is.needs; first = is.first ∙ passing_not test i not_needs }

  -- where an operation needs the line there is a first one
  pub entry_of : (first : Option ℕ) → FirstIs x piece 0 line first → (needing_before x piece (operation_count x piece) line ≡ 0 → ⊥) → (n : ℕ) × ((first ≡ Some n) × IsEntry x piece line n)
  entry_of None none some = absurd (some none)
  entry_of (Some n) is some = (n, (refl, record { inside = is.inside; needs = is.needs; first = is.first }))

  -- and where none does there isn't
  pub no_entry : (first : Option ℕ) → FirstIs x piece 0 line first → ((i : ℕ) → i < operation_count x piece → x.needs piece i line ≡ false) → first ≡ None
  no_entry None none not_needed = refl
  no_entry (Some n) is not_needed = absurd (false≢true (sym (not_needed n is.inside) ∙ is.needs))

  pub some_needs : ((i : ℕ) → i < operation_count x piece → x.needs piece i line ≡ false) → needing_before x piece (operation_count x piece) line ≡ 0
  some_needs none = passing_none test (operation_count x piece) none

  -- where the count is 0 no operation needs the line
  pub none_needs : needing_before x piece (operation_count x piece) line ≡ 0 → (i : ℕ) → i < operation_count x piece → x.needs piece i line ≡ false
  none_needs zero_is i inside = ⊎_elim
      (λ (h : x.needs piece i line ≡ true). let one = passing_told test i h in let up = passing_up test (i + 1) (operation_count x piece) (omega (arith, inside)) in absurd (omega (arith, one, up, zero_is)))
      (λ (h : x.needs piece i line ≡ false). h)
      (cases_Bool (x.needs piece i line))
