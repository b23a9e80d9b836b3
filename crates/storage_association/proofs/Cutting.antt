-- Numbers that are cut.
use Rattle.std.proofs.Common.{◌≡◌, ℕ, zero, suc, ◌+◌, ◌*◌, ◌<◌, ⊎_elim, min, List, length, get_or, drop, refl, sym, ap, ◌∙◌, add-one, drop-cons, arith}
use Rattle.std.proofs.Math.Nat.{mul-suc, mul-zero, mul_assoc}
use Rattle.std.proofs.lemmas.Bool.{cases_lt}
use Rattle.f77_tree.specs.declared.declarations.Dim.{Dim}
use Rattle.layout_rules.specs.Storage.{elements, extent, size_of, too_many}

-- a factor may be cut first
cut-factor : (a b : ℕ) → min 262145 (min 262145 a * b) ≡ min 262145 (a * b)
cut-factor a zero = rw (mul-zero, mul-zero) refl
cut-factor a (suc b) =
    ⊎_elim
    (λ low. let whole : min 262145 a ≡ a = omega arith in ap (λ x. min 262145 (x * suc b)) whole)
    (λ high.
    let cut : min 262145 a ≡ 262145 = omega arith in
    let left : min 262145 a * suc b ≡ 262145 + 262145 * b = ap (λ x. x * suc b) cut ∙ omega (arith, mul-suc 262145 b) in
    let right = mul-suc a b in
    omega arith)
    (cases_lt a 262145)

pub size-next : (dims : List Dim) (i size new : ℕ) (d : Dim) (e : ℕ) → i < length dims → e ≡ extent (get_or dims i d) → new ≡ min (size * e) 262145 → min too_many (size * elements (drop i dims)) ≡ size_of dims → min too_many (new * elements (drop (i + 1) dims)) ≡ size_of dims
size-next dims i size new d e lt is becomes before =
    let rest = elements (drop (i + 1) dims) in
    let here : elements (drop i dims) ≡ e * rest = rw (add-one, drop-cons dims i d lt, is) refl in
    let turn : new ≡ min 262145 (size * e) = omega arith in
    ap (λ x. min 262145 (x * rest)) turn ∙ cut-factor (size * e) rest ∙ ap (λ x. min 262145 x) (mul_assoc size e rest ∙ ap (λ x. size * x) (sym here)) ∙ before
