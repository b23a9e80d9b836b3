-- The members of a set are gone through, from each to the next.
use Rattle.std.proofs.Common.{◌≡◌, ◌≢◌, ◌<◌, ◌≤◌, ◌-◌, ℕ, Bool, true, false, Option, Some, None, MatchOption, sym, subst, ◌∙◌, ⊎_elim, arith}
use Rattle.std.specs.Option.{is_some}
use Rattle.std.proofs.lemmas.Bool.{cases_eq, cases_lt}
use Rattle.class_set.specs.Members.{IsNext, IsLast}

pub some-member : (P : Type 0) (Q : ℕ → Type 0) (o : Option ℕ) → is_some o ≡ true → MatchOption o P Q → (m : ℕ) × Q m
some-member P Q None is h = let clash : false ≡ true = is in absurd cc
some-member P Q (Some m) is h = (m, h)

-- the number stands before the next member
abbrev pub IsBefore : Option ℕ → ℕ → Type 0
IsBefore None k = Unit {0}
IsBefore (Some m) k = k < m

-- how many numbers are left
abbrev pub numbers_left : (bound : ℕ) → Option ℕ → ℕ
numbers_left bound None = 0
numbers_left bound (Some m) = bound - m

-- a member is next
abbrev pub IsMember : (ℕ → Bool) → Option ℕ → Type 0
IsMember member None = Unit {0}
IsMember member (Some m) = member m ≡ true

pub next-member : (member : ℕ → Bool) (n next : Option ℕ) → MatchOption next (IsLast member n) (IsNext member n) → IsMember member next
next-member member n None h = tt
next-member member n (Some m) h = h.member

none-twice : (member : ℕ → Bool) (k : ℕ) → member k ≡ true → member k ≡ false → ⊥
none-twice member k is is_not = let clash : true ≡ false = sym is ∙ is_not in absurd cc

-- the members before the next are those before this one, and this one
pub before-more : (member : ℕ → Bool) (m : ℕ) (next : Option ℕ) → MatchOption next (IsLast member (Some m)) (IsNext member (Some m)) → (P : ℕ → Type 0) → ((k : ℕ) → member k ≡ true → k < m → P k) → P m → (k : ℕ) → member k ≡ true → IsBefore next k → P k
before-more member m next is_next P old here k is before = ⊎_elim
    (λ (low : k < m). old k is low)
    (λ (high : m ≤ k). ⊎_elim
    (λ (same : k ≡ m). subst P (sym same) here)
    (λ (differ : k ≢ m). absurd (past next is_next before (omega arith)))
    (cases_eq k m))
    (cases_lt k m)
  where
    past : (next : Option ℕ) → MatchOption next (IsLast member (Some m)) (IsNext member (Some m)) → IsBefore next k → m < k → ⊥
    past None last before above = none-twice member k is (last k above)
    past (Some n) next before above = none-twice member k is (next.least k above before)
