-- Any list that isn't too long is that of a `Vec`.
use Rattle.std.proofs.Common.{◌≡◌, ℕ, ◌<◌, ◌≤◌, ◌^◌, List, [], length, Vec, refl, sym, subst, ⊎_elim, nat_lt, if◌then◌else◌, arith}
use Rattle.std.proofs.lemmas.Bool.{cases_lt, cond-true, cond-false, lt-ltb, le-ltb}
use Rattle.std.proofs.Math.Nat.{le_refl}
use Rattle.std.specs.declared.alloc.Global.{Global}
use denote.RawPtr.{null_ptr}

abbrev pub vec_of : {X : Type 0} → (heap : Global) (xs : List X) → length xs < 2 ^ 63 → Vec X Global
vec_of heap xs small = record { ptr = null_ptr; len = length xs; cap = length xs; alloc = heap; items = xs; ok = (refl, le_refl (length xs)); small = small }

abbrev pub the_heap : Global
the_heap = record { memory = record { seal = tt } }

-- a list that is too long counts as none
abbrev pub capped_by : {X : Type 0} → (top : ℕ) → List X → List X
capped_by top xs = if nat_lt (length xs) top then xs else []

pub capped_small : {X : Type 0} (top : ℕ) (xs : List X) → 0 < top → length (capped_by top xs) < top
capped_small top xs some =
    ⊎_elim
    (λ (few : length xs < top). subst (λ (held : List _). length held < top) (sym (cond-true (nat_lt (length xs) top) xs [] (lt-ltb (length xs) top few))) few)
    (λ (many : top ≤ length xs). subst (λ (held : List _). length held < top) (sym (cond-false (nat_lt (length xs) top) xs [] (le-ltb (length xs) top many))) some)
    (cases_lt (length xs) top)

capped_same : {X : Type 0} (top : ℕ) (xs : List X) → length xs < top → capped_by top xs ≡ xs
capped_same top xs few = cond-true (nat_lt (length xs) top) xs [] (lt-ltb (length xs) top few)

-- a list in memory can have an element
pub some_small : 0 < 2 ^ 63
some_small = omega arith

abbrev pub capped : {X : Type 0} → List X → List X
capped xs = capped_by (2 ^ 63) xs

pub capped_is : {X : Type 0} (xs : List X) → length xs < 2 ^ 63 → capped xs ≡ xs
capped_is xs few = capped_same (2 ^ 63) xs few

abbrev pub vec_with : {X : Type 0} → List X → Vec X Global
vec_with xs = vec_of the_heap (capped xs) (capped_small (2 ^ 63) xs some_small)

pub short_is_small : 2 ^ 32 < 2 ^ 63
short_is_small = omega arith
