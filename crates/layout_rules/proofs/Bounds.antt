-- The smaller and the greater one of two numbers.
use Rattle.std.proofs.Common.{◌≡◌, ◌⊎◌, ℤ, ◌≤ℤ◌, true, false, arith}
use Rattle.std.specs.Prelude.{int_le}
use Rattle.std.specs.Int.{int_min, int_max}
use Rattle.std.proofs.lemmas.Int.{ints}

pub min-cases : (x y : ℤ) → (int_min x y ≤ℤ x) × (int_min x y ≤ℤ y) × ((int_min x y ≡ x) ⊎ (int_min x y ≡ y))
min-cases x y = (grind (arith, ints), grind (arith, ints), grind (arith, ints))

pub le-yes : (x y : ℤ) → int_le x y ≡ true → x ≤ℤ y
le-yes x y h = grind (arith, ints)

pub le-no : (x y : ℤ) → int_le x y ≡ false → x ≤ℤ y → ⊥
le-no x y h le = grind (arith, ints)

pub max-cases : (x y : ℤ) → (x ≤ℤ int_max x y) × (y ≤ℤ int_max x y) × ((int_max x y ≡ x) ⊎ (int_max x y ≡ y))
max-cases x y = (grind (arith, ints), grind (arith, ints), grind (arith, ints))
