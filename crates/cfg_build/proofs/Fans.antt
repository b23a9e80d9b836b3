-- Edges by the nodes at which they begin: how many there are, at which place each stands, and that there are no others.
use Rattle.std.proofs.Common.{◌≡◌, ℕ, zero, suc, ◌+◌, ◌-◌, ◌<◌, ◌≤◌, List, [], ◌∷◌, length, get_or, take, map, sum_by, refl, ap, ⊎_elim, add-zero, arith}
use Rattle.std.proofs.lemmas.Bool.{cases_lt}
use Rattle.std.proofs.lemmas.List.{length-append, get_or_append_left, get_or-append-add}
use Rattle.std.proofs.lemmas.List.Sums.{sum_by-cons}
use Rattle.cfg_build.specs.Control.{fan}
use Rattle.std.proofs.lemmas.Grind.{elements}

-- the edges of one node
abbrev pub spread : (node : ℕ) → List ℕ → List (ℕ × ℕ)
spread node heads = map (λ head. (node, head)) heads

pub length-spread : (node : ℕ) (heads : List ℕ) → length (spread node heads) ≡ length heads
length-spread node [] = refl
length-spread node (head ∷ heads) = ap suc (length-spread node heads)

get_or-spread : (node : ℕ) (heads : List ℕ) (i : ℕ) → i < length heads → get_or (spread node heads) i (0, 0) ≡ (node, get_or heads i 0)
get_or-spread node [] i edge = absurd (omega (arith, edge))
get_or-spread node (head ∷ heads) zero edge = refl
get_or-spread node (head ∷ heads) (suc i) edge = get_or-spread node heads i (omega (arith, edge))

-- how many edges the lists before this one give
abbrev pub places_before : List (List ℕ) → ℕ → ℕ
places_before lists j = sum_by (λ heads. length heads) (take j lists)

pub length-fan : (first : ℕ) (lists : List (List ℕ)) → length (fan first lists) ≡ sum_by (λ heads. length heads) lists
length-fan first [] = refl
length-fan first (heads ∷ rest) =
    let e1 : length (fan first (heads ∷ rest)) ≡ length (spread first heads) + length (fan (suc first) rest) = length-append (spread first heads) (fan (suc first) rest) in
    let e2 : length (spread first heads) ≡ length heads = length-spread first heads in
    let e3 : length (fan (suc first) rest) ≡ sum_by (λ heads. length heads) rest = length-fan (suc first) rest in
    let e4 : sum_by (λ heads. length heads) (heads ∷ rest) ≡ length heads + sum_by (λ heads. length heads) rest = sum_by-cons (λ (x : List ℕ). length x) heads rest in
    omega (arith, e1, e2, e3, e4)

places_before_suc : (heads : List ℕ) (rest : List (List ℕ)) (j : ℕ) → places_before (heads ∷ rest) (suc j) ≡ length heads + places_before rest j
places_before_suc heads rest j = sum_by-cons (λ (x : List ℕ). length x) heads (take j rest)

-- the edge number i of the node `first + j`
pub get_or-fan : (first : ℕ) (lists : List (List ℕ)) (j i : ℕ) → j < length lists → i < length (get_or lists j []) → get_or (fan first lists) (places_before lists j + i) (0, 0) ≡ (first + j, get_or (get_or lists j []) i 0)
get_or-fan first [] j i some edge = absurd (omega (arith, some))
get_or-fan first (heads ∷ rest) zero i some edge =
    grind (arith, length-spread first heads, get_or_append_left, get_or-spread first heads i edge, add-zero first)
get_or-fan first (heads ∷ rest) (suc j) i some edge =
    grind (arith, length-spread first heads, places_before_suc heads rest j, get_or-append-add, get_or-fan (suc first) rest j i)

pub fan_below : (first : ℕ) (lists : List (List ℕ)) (j i : ℕ) → j < length lists → i < length (get_or lists j []) → places_before lists j + i < length (fan first lists)
fan_below first [] j i some edge = absurd (omega (arith, some))
fan_below first (heads ∷ rest) zero i some edge = grind (arith, elements, sum_by, length-fan, sum_by-cons)
fan_below first (heads ∷ rest) (suc j) i some edge =
    grind (arith, elements, sum_by, length-fan, sum_by-cons, places_before_suc, fan_below (suc first) rest j i)

-- The edge at this place is the edge number `nth` of the node `first + list`.
pub record IsInFan (lists : List (List ℕ)) (place : ℕ) : Type 0 where
  pub list : ℕ
  pub nth : ℕ
  pub exists : list < length lists
  pub edge : nth < length (get_or lists list [])
  pub at : place ≡ places_before lists list + nth

pub cases_fan : (first : ℕ) (lists : List (List ℕ)) (place : ℕ) → place < length (fan first lists) → IsInFan lists place
cases_fan first [] place below = absurd (omega (arith, below))
cases_fan first (heads ∷ rest) place below =
    let e1 : length (fan first (heads ∷ rest)) ≡ sum_by (λ heads. length heads) (heads ∷ rest) = length-fan first (heads ∷ rest) in
    let e2 : sum_by (λ heads. length heads) (heads ∷ rest) ≡ length heads + sum_by (λ heads. length heads) rest = sum_by-cons (λ (x : List ℕ). length x) heads rest in
    let e3 : length (fan (suc first) rest) ≡ sum_by (λ heads. length heads) rest = length-fan (suc first) rest in
    ⊎_elim
    (λ (here : place < length heads). record { list = 0; nth = place; exists = omega arith; edge = here; at = omega arith })
    (λ (later : length heads ≤ place).
    let there : IsInFan rest (place - length heads) = cases_fan (suc first) rest (place - length heads) (omega (arith, e1, e2, e3, below, later)) in
    let before : places_before (heads ∷ rest) (suc there.list) ≡ length heads + places_before rest there.list = places_before_suc heads rest there.list in
    let at : place - length heads ≡ places_before rest there.list + there.nth = there.at in
    record { list = suc there.list; nth = there.nth; exists = omega (arith, there.exists); edge = there.edge; at = omega (arith, at, later, before) })
    (cases_lt place (length heads))
