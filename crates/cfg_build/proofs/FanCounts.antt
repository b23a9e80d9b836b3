-- How many edges of a fan come to a node, and how many leave one.
use Rattle.std.proofs.Common.{◌≡◌, ℕ, zero, suc, ◌+◌, ◌<◌, Bool, ◌==◌, List, [], ◌∷◌, ◌++◌, length, get_or, sum_by, count_by, refl, sym, ap, ◌∙◌, arith}
use Rattle.std.proofs.lemmas.Bool.{eq-eqb, ne_eqb}
use Rattle.std.proofs.lemmas.List.Sums.{sum_by-cons}
use Rattle.cfg_build.specs.Control.{fan}
use Rattle.cfg_build.proofs.Fans.{spread}
use Rattle.list_laws.proofs.Counts.{count-append, count-map, count_zero, count_every}

abbrev pub comes_to : ℕ → ℕ × ℕ → Bool
comes_to y e = e.1 == y

abbrev pub leaves_from : ℕ → ℕ × ℕ → Bool
leaves_from y e = e.0 == y

abbrev pub heads_to : ℕ → List ℕ → ℕ
heads_to y heads = count_by (λ head. head == y) heads

heads_of_spread : (y node : ℕ) (heads : List ℕ) → count_by (comes_to y) (spread node heads) ≡ heads_to y heads
heads_of_spread y node heads = count-map (comes_to y) (λ (head : ℕ). (node, head)) heads

-- how many edges of a fan come to a node
pub heads_of_fan : (y first : ℕ) (lists : List (List ℕ)) → count_by (comes_to y) (fan first lists) ≡ sum_by (heads_to y) lists
heads_of_fan y first [] = refl
heads_of_fan y first (heads ∷ rest) =
    grind (arith, count_by, spread first heads, count_by (comes_to y) (spread first heads), count_by (comes_to y) (fan (suc first) rest), count-append (comes_to y) (spread first heads) (fan (suc first) rest), sum_by, sum_by (heads_to y) rest, sum_by-cons (heads_to y) heads rest, heads_of_spread y first heads, heads_of_fan y (suc first) rest)

tails_of_spread : (y node : ℕ) (heads : List ℕ) → count_by (leaves_from y) (spread node heads) ≡ count_by (λ head. node == y) heads
tails_of_spread y node heads = count-map (leaves_from y) (λ (head : ℕ). (node, head)) heads

tails_before : (y first : ℕ) (lists : List (List ℕ)) → y < first → count_by (leaves_from y) (fan first lists) ≡ 0
tails_before y first [] less = refl
tails_before y first (heads ∷ rest) less =
    let e : count_by (leaves_from y) (spread first heads ++ fan (suc first) rest) ≡ count_by (leaves_from y) (spread first heads) + count_by (leaves_from y) (fan (suc first) rest) = count-append (leaves_from y) (spread first heads) (fan (suc first) rest) in
    let here : count_by (leaves_from y) (spread first heads) ≡ 0 = tails_of_spread y first heads ∙ count_zero (λ (head : ℕ). first == y) heads (λ head m. ne_eqb first y (λ (h : first ≡ y). omega (arith, h, less))) in
    let r : count_by (leaves_from y) (fan (suc first) rest) ≡ 0 = tails_before y (suc first) rest (omega (arith, less)) in
    omega (arith, e, here, r)

-- how many edges of a fan leave a node
pub tails_of_fan : (first j : ℕ) (lists : List (List ℕ)) → count_by (leaves_from (first + j)) (fan first lists) ≡ length (get_or lists j [])
tails_of_fan first j [] = refl
tails_of_fan first zero (heads ∷ rest) =
    let y : ℕ = first + 0 in
    let e : count_by (leaves_from y) (spread first heads ++ fan (suc first) rest) ≡ count_by (leaves_from y) (spread first heads) + count_by (leaves_from y) (fan (suc first) rest) = count-append (leaves_from y) (spread first heads) (fan (suc first) rest) in
    let here : count_by (leaves_from y) (spread first heads) ≡ length heads = tails_of_spread y first heads ∙ count_every (λ (head : ℕ). first == y) heads (λ head m. eq-eqb first y (omega arith)) in
    let r : count_by (leaves_from y) (fan (suc first) rest) ≡ 0 = tails_before y (suc first) rest (omega arith) in
    omega (arith, e, here, r)
tails_of_fan first (suc j) (heads ∷ rest) =
    let y : ℕ = first + suc j in
    let e : count_by (leaves_from y) (spread first heads ++ fan (suc first) rest) ≡ count_by (leaves_from y) (spread first heads) + count_by (leaves_from y) (fan (suc first) rest) = count-append (leaves_from y) (spread first heads) (fan (suc first) rest) in
    let here : count_by (leaves_from y) (spread first heads) ≡ 0 = tails_of_spread y first heads ∙ count_zero (λ (head : ℕ). first == y) heads (λ head m. ne_eqb first y (λ (h : first ≡ y). omega (arith, h))) in
    let same : suc first + j ≡ y = omega arith in
    let r : count_by (leaves_from y) (fan (suc first) rest) ≡ length (get_or rest j []) = ap (λ n. count_by (leaves_from n) (fan (suc first) rest)) (sym same) ∙ tails_of_fan (suc first) j rest in
    omega (arith, e, here, r)
