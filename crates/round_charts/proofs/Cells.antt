-- What stands in a grid stands in a greater one.
use Rattle.std.proofs.Common.{arith, ◌≡◌, ◌<◌, ◌≤◌, ◌+◌, ℕ, List, [], ◌∷◌, ◌++◌, All, add-one, drop, get_or, length, map, refl, subst}
use Rattle.std.proofs.Math.Seq.{drop-cons}
use Rattle.std.proofs.lemmas.Bool.Decides.{nat_tests}
use Rattle.std.proofs.lemmas.Grind.{common_steps}
use Rattle.std.proofs.lemmas.List.Sorted.{IsPermutation-map}
use Rattle.std.specs.List.Sorted.{IsPermutation}
use Rattle.printed_graphs.specs.declared.trace.Firing.{Firing}
use Rattle.round_charts.specs.declared.grid.Cell.{Cell}
use Rattle.round_charts.specs.declared.grid.Seat.{Seat}
use Rattle.round_charts.specs.Grid.{IsInGrid, Key, key_of, keys_from}

pub grows : (c r wide long : ℕ) → c ≤ wide → r ≤ long → (cells : List Cell) → All (IsInGrid c r) cells → All (IsInGrid wide long) cells
grows c r wide long wider longer cells old = λ k d l. let w = old k d l in (omega (arith, wider, w.0), omega (arith, longer, w.1))

-- firings in another order have the same keys, in that order
pub reordered : (seats order : List Seat) (keys : List Key) → map key_of seats ≡ keys → IsPermutation seats order → IsPermutation keys (map key_of order)
reordered seats order keys same moved = subst (λ (ks : List Key). IsPermutation ks (map key_of order)) same (IsPermutation-map key_of seats order moved)

-- the step of a loop over firings and their rounds, and its end
pub keys_none : (most firing : ℕ) (fs : List Firing) → keys_from most firing fs [] ≡ []
keys_none most firing [] = refl
keys_none most firing (f ∷ fs) = refl

pub keys_taken : (most i k : ℕ) (fs : List Firing) (rs : List ℕ) (d : Firing) (r : ℕ) (keys : List Key) → i ≡ k → k < length fs → i < length rs → r ≤ most → r ≡ get_or rs i r → (keys ++ record { firing = i; node = (get_or fs k d).node; round = r } ∷ []) ++ keys_from most (i + 1) (drop (k + 1) fs) (drop (k + 1) rs) ≡ keys ++ keys_from most i (drop k fs) (drop k rs)
keys_taken most i k fs rs d r keys same inside round_inside low is =
    let round_in : k < length rs = omega (arith, same, round_inside) in
    grind (arith, common_steps, nat_tests, add-one, drop-cons fs k d inside, drop-cons rs k r round_in)

pub keys_left : (most i k : ℕ) (fs : List Firing) (rs : List ℕ) (r : ℕ) → i ≡ k → k < length fs → i < length rs → most < r → r ≡ get_or rs i r → keys_from most (i + 1) (drop (k + 1) fs) (drop (k + 1) rs) ≡ keys_from most i (drop k fs) (drop k rs)
keys_left most i k [] rs r same inside round_inside late is = absurd (omega (arith, inside))
keys_left most i k (f ∷ fs) rs r same inside round_inside late is =
    let round_in : k < length rs = omega (arith, same, round_inside) in
    grind (arith, common_steps, nat_tests, add-one, drop-cons (f ∷ fs) k f inside, drop-cons rs k r round_in)
