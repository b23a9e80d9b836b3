-- Orders of firing that follow one another.
use Rattle.std.proofs.Common.{◌≡◌, ℕ, zero, suc, ◌+◌, List, [], ◌∷◌, ◌++◌, refl, sym, ap, ◌∙◌, append_assoc, arith}
use Rattle.std.specs.List.{range_with_len}
use Rattle.firing.specs.Moves.{Moves, line_bytes}
use Rattle.firing.specs.Orders.{IsOrder, after, written, counted, serial_count}

module _ {M : Type 0} (s : Moves M) where
  pub after_join : (m : M) (ks js : List ℕ) → after s m (ks ++ js) ≡ after s (after s m ks) js
  after_join m [] js = refl
  after_join m (k ∷ ks) js = after_join (s.fired m k) ks js

  pub order_join : (m : M) (ks js : List ℕ) → IsOrder s m ks → IsOrder s (after s m ks) js → IsOrder s m (ks ++ js)
  order_join m [] js first then = then
  order_join m (k ∷ ks) js first then = (first.0, order_join (s.fired m k) ks js first.1 then)

  pub written_join : (m : M) (ks js : List ℕ) → written s m (ks ++ js) ≡ written s m ks ++ written s (after s m ks) js
  written_join m [] js = refl
  written_join m (k ∷ ks) js = ap (λ rest. line_bytes (s.line m k) ++ rest) (written_join (s.fired m k) ks js) ∙ sym (append_assoc (line_bytes (s.line m k)) (written s (s.fired m k) ks) (written s (after s (s.fired m k) ks) js))

  pub serial_join : (ks js : List ℕ) → serial_count s (ks ++ js) ≡ serial_count s ks + serial_count s js
  serial_join [] js = zero_plus (serial_count s js)
    where
      zero_plus : (n : ℕ) → n ≡ 0 + n
      zero_plus n = omega arith
  serial_join (k ∷ ks) js = ap (λ (n : ℕ). counted (s.serial k) + n) (serial_join ks js) ∙ plus_assoc (counted (s.serial k)) (serial_count s ks) (serial_count s js)
    where
      plus_assoc : (a b c : ℕ) → a + (b + c) ≡ a + b + c
      plus_assoc a b c = omega arith

pub range_more : (a n : ℕ) → range_with_len a (suc n) ≡ range_with_len a n ++ ((a + n) ∷ [])
range_more a zero = ap (λ (x : ℕ). x ∷ []) plus_zero
  where
    plus_zero : a ≡ a + 0
    plus_zero = omega arith
range_more a (suc n) = ap (λ rest. a ∷ rest) (range_more (a + 1) n ∙ ap (λ (x : ℕ). range_with_len (a + 1) n ++ (x ∷ [])) shift)
  where
    shift : a + 1 + n ≡ a + suc n
    shift = omega arith
