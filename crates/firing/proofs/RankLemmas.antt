-- Ranks in sets that are kept as flags, and counts of their members by blocks.
use Rattle.std.proofs.Common.{◌≡◌, ◌≢◌, ℕ, zero, suc, ◌+◌, ◌<◌, ◌≤◌, Bool, true, false, List, length, set, replicate, refl, sym, ap, subst, ◌∙◌, ⊎_elim, arith, length-set}
use Rattle.std.proofs.lemmas.Bool.{cases_eq, cases_lt}
use Rattle.std.proofs.lemmas.List.{get_or_past, get_or-set_same, get_or-set_other}
use Rattle.firing.specs.Orders.{counted}
use Rattle.firing.specs.ReadySet.{has, rank, member_count}

-- ---- ranks

rank_lack : (flags : List Bool) (n : ℕ) → has flags n ≡ false → rank flags (suc n) ≡ rank flags n
rank_lack flags n lacks = let e : counted (has flags n) ≡ 0 = ap counted lacks in omega (arith, e)

rank_has : (flags : List Bool) (n : ℕ) → has flags n ≡ true → rank flags (suc n) ≡ rank flags n + 1
rank_has flags n member = let e : counted (has flags n) ≡ 1 = ap counted member in omega (arith, e)

one_at_most : (b : Bool) → counted b ≤ 1
one_at_most true = omega arith
one_at_most false = omega arith

-- past the room nothing is counted
pub rank_past : (flags : List Bool) (n : ℕ) → length flags ≤ n → rank flags n ≡ member_count flags
rank_past flags zero le = let e : 0 ≡ length flags = omega (arith, le) in ap (rank flags) e
rank_past flags (suc n) le = ⊎_elim
    (λ (lt : n < length flags). let e : suc n ≡ length flags = omega (arith, lt, le) in ap (rank flags) e)
    (λ (past : length flags ≤ n). rank_lack flags n (get_or_past flags n false past) ∙ rank_past flags n past)
    (cases_lt n (length flags))

pub rank_grows : (flags : List Bool) (a b : ℕ) → a ≤ b → rank flags a ≤ rank flags b
rank_grows flags a zero le = let e : a ≡ 0 = omega (arith, le) in subst (λ n. rank flags n ≤ 0) (sym e) (omega arith)
rank_grows flags a (suc b) le = ⊎_elim
    (λ (same : a ≡ suc b). subst (λ n. rank flags a ≤ rank flags n) same (omega arith))
    (λ differ. let step = rank_grows flags a b (omega (arith, le, differ)) in omega (arith, step))
    (cases_eq a (suc b))

-- so many numbers more have no more members
pub rank_slow : (flags : List Bool) (a b : ℕ) → a ≤ b → rank flags b + a ≤ rank flags a + b
rank_slow flags a zero le = let e : 0 ≡ a = omega (arith, le) in subst (λ n. rank flags 0 + n ≤ rank flags n + 0) e (omega arith)
rank_slow flags a (suc b) le = ⊎_elim
    (λ (same : suc b ≡ a). subst (λ n. rank flags (suc b) + n ≤ rank flags n + suc b) same (omega arith))
    (λ differ. let step = rank_slow flags a b (omega (arith, le, differ)) in let one = one_at_most (has flags b) in omega (arith, step, one))
    (cases_eq (suc b) a)

rank_most : (flags : List Bool) (n : ℕ) → rank flags n ≤ n
rank_most flags zero = omega arith
rank_most flags (suc n) = let step = rank_most flags n in let one = one_at_most (has flags n) in omega (arith, step, one)

pub rank_member : (flags : List Bool) (k a b : ℕ) → has flags k ≡ true → a ≤ k → k < b → rank flags a < rank flags b
rank_member flags k a b member low high = grind (arith, rank_grows flags a k low, rank_has flags k member, rank_grows flags (suc k) b)

pub rank_short : (flags : List Bool) (k n : ℕ) → has flags k ≡ false → k < n → rank flags n < n
rank_short flags k zero lacks lt = absurd (omega (arith, lt))
rank_short flags k (suc n) lacks lt = ⊎_elim
    (λ (same : k ≡ n).
    let here = rank_lack flags n (subst (λ i. has flags i ≡ false) same lacks) in
    let slow = rank_most flags n in
    omega (arith, here, slow))
    (λ differ. let step = rank_short flags k n lacks (omega (arith, lt, differ)) in let one = one_at_most (has flags n) in omega (arith, step, one))
    (cases_eq k n)

pub rank_empty : (room n : ℕ) → rank (replicate room false) n ≡ 0
rank_empty room zero = refl
rank_empty room (suc n) = rank_lack (replicate room false) n (none room n) ∙ rank_empty room n
  where
    none : (room n : ℕ) → has (replicate room false) n ≡ false
    none zero n = get_or_past (replicate zero false) n false (omega arith)
    none (suc room) zero = refl
    none (suc room) (suc n) = none room n

-- ---- one member more

-- the second set has one member more than the first
pub record HasOneMore (few many : List Bool) (k : ℕ) : Type 0 where
  pub same_room : length few ≡ length many
  pub inside : k < length few
  pub lacks : has few k ≡ false
  pub member : has many k ≡ true
  pub others : (j : ℕ) → j ≢ k → has few j ≡ has many j

pub rank_before : (few many : List Bool) (k n : ℕ) → HasOneMore few many k → n ≤ k → rank many n ≡ rank few n
rank_before few many k zero more le = refl
rank_before few many k (suc n) more le = grind (arith, rank_before few many k n more, more.others n)

pub rank_after : (few many : List Bool) (k n : ℕ) → HasOneMore few many k → k < n → rank many n ≡ rank few n + 1
rank_after few many k zero more lt = absurd (omega (arith, lt))
rank_after few many k (suc n) more lt = ⊎_elim
    (λ (same : k ≡ n).
    let step = rank_before few many k n more (omega (arith, same)) in
    let first = rank_lack few n (subst (λ i. has few i ≡ false) same more.lacks) in
    let second = rank_has many n (subst (λ i. has many i ≡ true) same more.member) in
    omega (arith, step, first, second))
    (λ differ.
    let step = rank_after few many k n more (omega (arith, lt, differ)) in
    let here : counted (has few n) ≡ counted (has many n) = ap counted (more.others n (λ e. differ (sym e))) in
    omega (arith, step, here))
    (cases_eq k n)

-- the flag that a write changed
pub more_put : (flags : List Bool) (k : ℕ) → k < length flags → has flags k ≡ false → HasOneMore flags (set flags k true) k
more_put flags k inside lacks = grind (arith, length-set flags k true, get_or-set_same flags k true false inside, get_or-set_other flags k)

pub more_taken : (flags : List Bool) (k : ℕ) → k < length flags → has flags k ≡ true → HasOneMore (set flags k false) flags k
more_taken flags k inside member = grind (arith, length-set flags k false, get_or-set_same flags k false false inside, get_or-set_other flags k)
