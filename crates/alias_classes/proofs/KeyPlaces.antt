-- A key's place among keys.
use Rattle.std.proofs.Common.{◌≡◌, ℕ, true, nat_eq, [], refl}
use Rattle.std.proofs.lemmas.Bool.{and_parts, and_from, eqb-true, eq-eqb}
use Rattle.alias_classes.specs.Walk.{same_keys}

pub same_keys-equal : (x y : ℕ × ℕ) → same_keys x y ≡ true → x ≡ y
same_keys-equal x y both =
    let parts = and_parts (nat_eq x.0 y.0) (nat_eq x.1 y.1) both in
    let first : x.0 ≡ y.0 = eqb-true x.0 y.0 parts.0 in
    let second : x.1 ≡ y.1 = eqb-true x.1 y.1 parts.1 in
    λ i. (first i, second i)

pub same_keys-itself : (x : ℕ × ℕ) → same_keys x x ≡ true
same_keys-itself x = and_from (nat_eq x.0 x.0) (nat_eq x.1 x.1) (eq-eqb x.0 x.0 refl) (eq-eqb x.1 x.1 refl)
