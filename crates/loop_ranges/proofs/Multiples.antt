-- Multiples of a step, and the values of a DO's variable among whole numbers.
use Rattle.std.proofs.Common.{◌≡◌, ◌≢◌, ℕ, zero, suc, ◌*◌, ◌≤◌, ℤ, pos, negsuc, neg_ℤ, ◌+ℤ◌, ◌-ℤ◌, ◌*ℤ◌, ◌≤ℤ◌, ◌⊎◌, inl, inr, refl, subst, arith}
use Rattle.std.specs.Prelude.{int_div}
use Rattle.std.proofs.lemmas.Int.{ints}
use Rattle.std.proofs.Math.IntN.{suc_ℤ-*ℤ, pred_ℤ-*ℤ}
use Rattle.std.proofs.Math.Nat.{mul-le-mul_right, div-mul-le_self}
use Rattle.op_table.specs.Trips.{at_least_zero, trip_count}

-- x lies between a and b, one way or the other
abbrev pub IsAmong : (a b x : ℤ) → Type 0
IsAmong a b x = ((a ≤ℤ x) × (x ≤ℤ b)) ⊎ ((b ≤ℤ x) × (x ≤ℤ a))

-- ---- a factor keeps or turns the order

one_more : (n : ℕ) (x : ℤ) → pos (suc n) *ℤ x ≡ pos n *ℤ x +ℤ x
one_more n x = suc_ℤ-*ℤ (pos n) x

one_less : (n : ℕ) (x : ℤ) → negsuc (suc n) *ℤ x ≡ negsuc n *ℤ x -ℤ x
one_less n x = pred_ℤ-*ℤ (negsuc n) x

rises : (n : ℕ) (x y : ℤ) → x ≤ℤ y → (pos n *ℤ x) ≤ℤ (pos n *ℤ y)
rises zero x y le = omega (arith, ints)
rises (suc n) x y le = omega (arith, ints, one_more n x, one_more n y, rises n x y le, le)

falls : (n : ℕ) (x y : ℤ) → x ≤ℤ y → (negsuc n *ℤ y) ≤ℤ (negsuc n *ℤ x)
falls zero x y le = omega (arith, ints, le)
falls (suc n) x y le = omega (arith, ints, one_less n x, one_less n y, falls n x y le, le)

-- what lies between two numbers does so after a factor too
pub scaled : (f a b x : ℤ) → IsAmong a b x → IsAmong (f *ℤ a) (f *ℤ b) (f *ℤ x)
scaled (pos n) a b x (inl is) = inl (rises n a x is.0, rises n x b is.1)
scaled (pos n) a b x (inr is) = inr (rises n b x is.0, rises n x a is.1)
scaled (negsuc n) a b x (inl is) = inr (falls n x b is.1, falls n a x is.0)
scaled (negsuc n) a b x (inr is) = inl (falls n x a is.1, falls n b x is.0)

-- ---- multiples

-- fewer steps lead less far
pub fewer_steps : (i m : ℕ) (s : ℤ) → i ≤ m → IsAmong (pos 0) (pos m *ℤ s) (pos i *ℤ s)
fewer_steps i m (pos n) le = let less : i * n ≤ m * n = mul-le-mul_right n le in inl (omega (arith, ints), omega (arith, ints, less))
fewer_steps i m (negsuc n) le = let less : i * suc n ≤ m * suc n = mul-le-mul_right (suc n) le in inr (omega (arith, ints, less), omega (arith, ints))

-- ---- the count of a DO

-- as many steps as a quotient has lead no further than the dividend, with a step in either direction
abbrev LeadsUpTo : (x s : ℤ) (c : ℕ) → Type 0
LeadsUpTo x s c = ((pos 1 ≤ℤ s) × ((pos c *ℤ s) ≤ℤ x)) ⊎ ((s ≤ℤ negsuc 0) × (x ≤ℤ (pos c *ℤ s)))

none_negative : (n : ℕ) → 1 ≤ at_least_zero (neg_ℤ (pos n)) → ⊥
none_negative zero le = absurd (omega (arith, le))
none_negative (suc n) le = absurd (omega (arith, le))

quotient_leads : (x s : ℤ) → s ≢ pos 0 → 1 ≤ at_least_zero (int_div x s) → LeadsUpTo x s (at_least_zero (int_div x s))
quotient_leads x (pos zero) some le = absurd (some refl)
quotient_leads (pos m) (pos (suc n)) some le = let least = div-mul-le_self m (suc n) in inl (omega (arith, ints), omega (arith, ints, least))
quotient_leads (negsuc m) (pos (suc n)) some le = absurd (none_negative _ le)
quotient_leads (pos m) (negsuc n) some le = absurd (none_negative _ le)
quotient_leads (negsuc m) (negsuc n) some le = let least = div-mul-le_self (suc m) (suc n) in inr (omega (arith, ints), omega (arith, ints, least))

-- the last value of the variable lies between the first one and the terminal parameter
pub last_among : (first last s : ℤ) (m : ℕ) → s ≢ pos 0 → trip_count first last s ≡ suc m → IsAmong first last (first +ℤ pos m *ℤ s)
last_among first last s m some is = by (quotient_leads (last -ℤ first +ℤ s) s some (omega (arith, is)))
  where
    by : LeadsUpTo (last -ℤ first +ℤ s) s (trip_count first last s) → IsAmong first last (first +ℤ pos m *ℤ s)
    by (inl way) =
        let up = way.0 in
        let far : (pos (suc m) *ℤ s) ≤ℤ (last -ℤ first +ℤ s) = subst (λ c. (pos c *ℤ s) ≤ℤ (last -ℤ first +ℤ s)) is way.1 in
        inl (omega (arith, ints, rises m (pos 0) s (omega (arith, ints, up))), omega (arith, ints, far, one_more m s))
    by (inr way) =
        let down = way.0 in
        let far : (last -ℤ first +ℤ s) ≤ℤ (pos (suc m) *ℤ s) = subst (λ c. (last -ℤ first +ℤ s) ≤ℤ (pos c *ℤ s)) is way.1 in
        inr (omega (arith, ints, far, one_more m s), omega (arith, ints, rises m s (pos 0) (omega (arith, ints, down))))
