-- How large the numbers of classes and regions are.
use Rattle.std.proofs.Common.{◌≡◌, ◌≢◌, ℕ, zero, suc, ◌<◌, ◌≤◌, List, [], ◌∷◌, length, take, slice_index, ⊎_elim, arith}
use Rattle.std.proofs.Math.Nat.{max-le}
use Rattle.std.proofs.lemmas.Bool.{cases_lt}
use Rattle.std.proofs.lemmas.List.{get_or-take, length-take}
use Rattle.closed_walks.specs.Graph.{Graph, edge_count}
use Rattle.closed_walks.specs.Numbering.{fresh, IsNumbering}
use Rattle.region_tree.specs.Tree.{Tree, AreRegions, entry_of}

-- the least number above numbers that are below a bound
fresh_most : (xs : List ℕ) (bound : ℕ) → ((k : ℕ) → k < length xs → slice_index xs k < bound) → fresh xs ≤ bound
fresh_most [] bound below = omega arith
fresh_most (x ∷ xs) bound below =
    let first : x < bound = below 0 (omega arith) in
    max-le (omega arith) (fresh_most xs bound (λ k lt. below (suc k) (omega (arith, lt))))

-- no number of a class is greater than that of its edge
class_at : (g : Graph) (classes : List ℕ) (e : ℕ) → IsNumbering g classes → e < edge_count g → ((d : ℕ) → d < e → slice_index classes d ≤ d) → slice_index classes e ≤ e
class_at g classes e is lt low =
    ⊎_elim
    (λ (above : e < slice_index classes e).
    let differs : (d : ℕ) → d < e → slice_index classes d ≢ slice_index classes e = λ d below same. let l = low d below in absurd (omega (arith, above, below, same, l)) in
    let count = is.edges in
    let long : length (take e classes) ≡ e = omega (arith, lt, count, length-take e classes) in
    let least : slice_index classes e ≡ fresh (take e classes) = is.lowest e lt differs in
    let most : fresh (take e classes) ≤ e =
    fresh_most (take e classes) e (λ k within.
    let below : k < e = omega (arith, within, long) in
    let l = low k below in
    let same : slice_index (take e classes) k ≡ slice_index classes k = get_or-take e classes k 0 below in
    omega (arith, below, l, same))
    in
    omega (arith, least, most))
    (λ (within : slice_index classes e ≤ e). within)
    (cases_lt e (slice_index classes e))

classes_below : (g : Graph) (classes : List ℕ) (n : ℕ) → IsNumbering g classes → n ≤ edge_count g → (e : ℕ) → e < n → slice_index classes e ≤ e
classes_below g classes zero is few e lt = absurd (omega arith)
classes_below g classes (suc n) is few e lt =
    let low = classes_below g classes n is (omega (arith, few)) in
    class_at g classes e is (omega (arith, few, lt)) (λ d below. low d (omega (arith, below, lt)))

pub class_most : (g : Graph) (classes : List ℕ) (e : ℕ) → IsNumbering g classes → e < edge_count g → slice_index classes e ≤ e
class_most g classes e is lt = classes_below g classes (edge_count g) is (omega arith) e lt

-- there are no more classes than edges
pub classes_few : (g : Graph) (classes : List ℕ) → IsNumbering g classes → fresh classes ≤ edge_count g
classes_few g classes is =
    let count = is.edges in
    fresh_most classes (edge_count g) (λ k lt. let within : k < edge_count g = omega (arith, lt, count) in let low = class_most g classes k is within in omega (arith, within, low))

-- entries rise from region to region
entry_least : (g : Graph) (t : Tree) (r : ℕ) → AreRegions g t → suc r < length t.entries → r ≤ entry_of t (suc r)
entry_least g t zero is lt = omega arith
entry_least g t (suc r) is lt =
    let before : r ≤ entry_of t (suc r) = entry_least g t r is (omega (arith, lt)) in
    let rises : entry_of t (suc r) < entry_of t (suc (suc r)) = is.rises (suc r) (suc (suc r)) (omega arith) (omega arith) lt in
    omega (arith, before, rises)

-- there are no more regions than edges
pub regions_few : (g : Graph) (t : Tree) (n : ℕ) → AreRegions g t → length t.entries ≡ suc n → n ≤ edge_count g
regions_few g t zero is long = omega arith
regions_few g t (suc n) is long =
    let low : n ≤ entry_of t (suc n) = entry_least g t n is (omega (arith, long)) in
    let within = (is.sound (suc n) (omega arith, omega (arith, long))).pair.first in
    omega (arith, low, within)
