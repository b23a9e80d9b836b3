-- How many operations of a piece need a line, and which lines are led on after an operation.
use Rattle.std.proofs.Common.{◌≡◌, ◌<◌, ◌≤◌, ⊎_elim, ℕ, zero, suc, ◌+◌, ◌==◌, ◌&&◌, Bool, true, false, cond, if◌then◌else◌, List, [], ◌∷◌, ◌++◌, length, filter, Option, refl, sym, ap, ◌∙◌, subst, nat_lt, eqb-true, eq-eqb, lt-ltb, arith}
use Rattle.std.proofs.lemmas.Bool.{cases_Bool, and_parts, and_from}
use Rattle.std.specs.List.{range_with_len}
use Rattle.list_laws.specs.Member.{Member}
use Rattle.list_laws.proofs.Members.{Member-filter, Member-filtered, Member-range, Member-in_range}
use Rattle.net_board.proofs.ListPlaces.{put}
use Rattle.net_board.proofs.OrderJoins.{range_more}
use Rattle.net_board.specs.WokenNodes.{passing_below}
use Rattle.op_board.specs.OperationNets.{OperationNet, is_last_at, last_needed, needed}

-- ---- how many pass a test

filter_join : (test : ℕ → Bool) (xs ys : List ℕ) → length (filter test (xs ++ ys)) ≡ length (filter test xs) + length (filter test ys)
filter_join test [] ys = zero_plus (length (filter test ys))
  where
    zero_plus : (n : ℕ) → n ≡ 0 + n
    zero_plus n = omega arith
filter_join test (x ∷ xs) ys = by (test x) (filter_join test xs ys)
  where
    by : (b : Bool) → length (filter test (xs ++ ys)) ≡ length (filter test xs) + length (filter test ys) → length (cond b (x ∷ filter test (xs ++ ys)) (filter test (xs ++ ys))) ≡ length (cond b (x ∷ filter test xs) (filter test xs)) + length (filter test ys)
    by true h = omega (arith, h)
    by false h = h

-- what a truth adds to a number
abbrev pub one_more : Bool → ℕ → ℕ
one_more true n = suc n
one_more false n = n

pub passing_more : (test : ℕ → Bool) (n : ℕ) → passing_below test (suc n) ≡ one_more (test n) (passing_below test n)
passing_more test n =
    let e : 0 + n ≡ n = omega arith in
    ap (λ (xs : List ℕ). length (filter test xs)) (range_more 0 n)
    ∙ filter_join test (range_with_len 0 n) ((0 + n) ∷ [])
    ∙ ap (λ (k : ℕ). passing_below test n + length (filter test (k ∷ []))) e
    ∙ by (test n) (passing_below test n)
  where
    by : (b : Bool) (k : ℕ) → k + length (cond b (n ∷ []) []) ≡ one_more b k
    by true k = omega arith
    by false k = omega arith

pub passing_grows : (test : ℕ → Bool) (i k : ℕ) → passing_below test i ≤ passing_below test (k + i)
passing_grows test i zero = let e : 0 + i ≡ i = omega arith in subst (λ (j : ℕ). passing_below test i ≤ passing_below test j) (sym e) (omega arith)
passing_grows test i (suc k) =
    let before = passing_grows test i k in
    let e : suc (k + i) ≡ suc k + i = omega arith in
    subst (λ (j : ℕ). passing_below test i ≤ passing_below test j) e (by (test (k + i)) (passing_below test (suc (k + i))) (passing_more test (k + i)) before)
  where
    by : (b : Bool) (n : ℕ) → n ≡ one_more b (passing_below test (k + i)) → passing_below test i ≤ passing_below test (k + i) → passing_below test i ≤ n
    by true n is before = omega (arith, is, before)
    by false n is before = omega (arith, is, before)

pub record IsDistance (i j : ℕ) : Type 0 where
  pub more : ℕ
  pub is : more + i ≡ j

pub distance : (i j : ℕ) → i ≤ j → IsDistance i j
distance zero j low = record { more = j; is = omega arith }
distance (suc i) zero low = absurd (omega (arith, low))
distance (suc i) (suc j) low = let r : IsDistance i j = distance i j (omega (arith, low)) in let is = r.is in record { more = r.more; is = omega (arith, is) }

pub passing_up_to : (test : ℕ → Bool) (i j : ℕ) → i ≤ j → passing_below test i ≤ passing_below test j
passing_up_to test i j low = let r : IsDistance i j = distance i j low in subst (λ (k : ℕ). passing_below test i ≤ passing_below test k) r.is (passing_grows test i r.more)

-- one that passes counts
pub passing_some : (test : ℕ → Bool) (i j : ℕ) → i < j → test i ≡ true → passing_below test i < passing_below test j
passing_some test i j low is =
    let more : passing_below test (suc i) ≡ suc (passing_below test i) = passing_more test i ∙ ap (λ (b : Bool). one_more b (passing_below test i)) is in
    let up = passing_up_to test (suc i) j (omega (arith, low)) in
    omega (arith, more, up)

pub passing_none : (test : ℕ → Bool) (j : ℕ) → ((i : ℕ) → i < j → test i ≡ false) → passing_below test j ≡ 0
passing_none test zero none = refl
passing_none test (suc j) none = passing_more test j ∙ ap (λ (b : Bool). one_more b (passing_below test j)) (none j (omega arith)) ∙ passing_none test j (λ i low. none i (omega (arith, low)))

-- ---- where a line stands that has passed n of the N operations of its piece that need it

abbrev pub is_through : (n all : ℕ) → Bool
is_through n all = nat_lt 0 n && (n == all)

abbrev pub line_state : {X : Type 0} → (n all : ℕ) → X → Option X → Option X
line_state n all led old = if is_through n all then put led old else old

abbrev pub passed_state : (n all : ℕ) → ℕ
passed_state n all = if n == all then 0 else n

not_same : (n all : ℕ) → n < all → (n == all) ≡ false
not_same n all low = ⊎_elim (λ (h : (n == all) ≡ true). let e = eqb-true n all h in absurd (omega (arith, low, e))) (λ (h : (n == all) ≡ false). h) (cases_Bool (n == all))

not_through : (n all : ℕ) → n < all → is_through n all ≡ false
not_through n all low = ap (λ (b : Bool). nat_lt 0 n && b) (not_same n all low) ∙ and_false (nat_lt 0 n)
  where
    and_false : (b : Bool) → (b && false) ≡ false
    and_false true = refl
    and_false false = refl

module _ {X : Type 0} where
  pub amid_state : (n all : ℕ) (led : X) (old : Option X) → n < all → line_state n all led old ≡ old
  amid_state n all led old low = ap (λ (b : Bool). if b then put led old else old) (not_through n all low)

  pub through_state : (n all : ℕ) (led : X) (old : Option X) → n ≡ all → 0 < n → line_state n all led old ≡ put led old
  through_state n all led old same some = ap (λ (b : Bool). if b then put led old else old) (and_from (nat_lt 0 n) (n == all) (lt-ltb 0 n some) (eq-eqb n all same))

pub amid_passed : (n all : ℕ) → n < all → passed_state n all ≡ n
amid_passed n all low = ap (λ (b : Bool). if b then 0 else n) (not_same n all low)

pub through_passed : (n all : ℕ) → n ≡ all → passed_state n all ≡ 0
through_passed n all same = ap (λ (b : Bool). if b then 0 else n) (eq-eqb n all same)

-- ---- the lines that an operation needs

module _ (x : OperationNet) (piece i line : ℕ) where
  pub needed_in : line < x.net.routing.lines → x.needs piece i line ≡ true → Member (needed x piece i) line
  needed_in low is = Member-filter (x.needs piece i) (range_with_len 0 x.net.routing.lines) line (Member-range 0 x.net.routing.lines line (omega arith) (omega (arith, low))) is

  pub needed_has : Member (needed x piece i) line → (line < x.net.routing.lines) × (x.needs piece i line ≡ true)
  needed_has m =
      let h = Member-filtered (x.needs piece i) (range_with_len 0 x.net.routing.lines) line m in
      let inside = Member-in_range 0 x.net.routing.lines line h.0 in
      let high = inside.1 in
      (omega (arith, high), h.1)

  pub last_in : line < x.net.routing.lines → x.needs piece i line ≡ true → is_last_at x piece i line ≡ true → Member (last_needed x piece i) line
  last_in low is last = Member-filter (λ l. x.needs piece i l && is_last_at x piece i l) (range_with_len 0 x.net.routing.lines) line (Member-range 0 x.net.routing.lines line (omega arith) (omega (arith, low))) (and_from (x.needs piece i line) (is_last_at x piece i line) is last)

  pub last_has : Member (last_needed x piece i) line → (line < x.net.routing.lines) × (x.needs piece i line ≡ true) × (is_last_at x piece i line ≡ true)
  last_has m =
      let h = Member-filtered (λ l. x.needs piece i l && is_last_at x piece i l) (range_with_len 0 x.net.routing.lines) line m in
      let inside = Member-in_range 0 x.net.routing.lines line h.0 in
      let high = inside.1 in
      let both = and_parts (x.needs piece i line) (is_last_at x piece i line) h.1 in
      (omega (arith, high), both.0, both.1)
