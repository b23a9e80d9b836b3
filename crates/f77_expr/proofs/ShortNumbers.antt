-- No digits of the same number are fewer than those of its decimal.
use Rattle.std.proofs.Common.{◌≡◌, ℕ, suc, ◌+◌, ◌*◌, ◌-◌, ◌<◌, ◌≤◌, ◌^◌, Bool, true, false, ◌&&◌, List, [], ◌∷◌, length, refl, ap, sym, ◌∙◌, arith}
use Rattle.std.specs.Prelude.{decimal, nat_lt}
use Rattle.std.specs.List.{list_all}
use Rattle.std.proofs.Math.Nat.{pow-suc, mul-le-mul_right, mul_comm, mul_assoc}
use Rattle.std.proofs.lemmas.Bool.{leb-true, ltb-true}
use Rattle.std.proofs.lemmas.Fmt.{length-decimal-le}
use Rattle.f77_tree.specs.Name.{is_figure}
use Rattle.f77_tree.specs.Grammar.{is_number, number_of, decimal_after}

left_true : (b c : Bool) → (b && c) ≡ true → b ≡ true
left_true true c is = refl
left_true false c is = absurd cc

right_true : (b c : Bool) → (b && c) ≡ true → c ≡ true
right_true true c is = is
right_true false c is = absurd cc

figure_le : (d : ℕ) → is_figure d ≡ true → d ≤ 57
figure_le d is = leb-true d 57 (right_true _ _ is)

ten_times : (n p : ℕ) → 10 * suc n * p ≡ suc n * (p * 10)
ten_times n p = ap (λ x. x * p) (mul_comm 10 (suc n)) ∙ mul_assoc (suc n) 10 p ∙ ap (λ x. suc n * x) (mul_comm 10 p)

-- so many digits write no number above these
below_power : (n : ℕ) (digits : List ℕ) → list_all is_figure digits ≡ true → suc (decimal_after n digits) ≤ suc n * 10 ^ length digits
below_power n [] figures = omega arith
below_power n (d ∷ digits) figures =
    let m = 10 * n + (d - 48) in
    let p = 10 ^ length digits in
    let le = figure_le d (left_true _ _ figures) in
    let rest : suc (decimal_after m digits) ≤ suc m * p = below_power m digits (right_true (is_figure d) _ figures) in
    let most : suc m * p ≤ 10 * suc n * p = mul-le-mul_right p (omega (arith, le)) in
    let is : 10 * suc n * p ≡ suc n * 10 ^ suc (length digits) = ten_times n p ∙ ap (λ x. suc n * x) (sym (pow-suc 10 (length digits))) in
    omega (arith, rest, most, is)

pub decimal_shortest : (n : ℕ) (digits : List ℕ) → n < 2 ^ 64 → is_number digits ≡ true → number_of digits ≡ n → length (decimal n) ≤ length digits
decimal_shortest n digits fits number is =
    let some : 0 < length digits = ltb-true 0 (length digits) (left_true _ _ number) in
    let most = below_power 0 digits (right_true (nat_lt 0 (length digits)) (list_all is_figure digits) number) in
    let lt : n < 10 ^ length digits = omega (arith, most, is) in
    length-decimal-le (length digits) n some lt fits
