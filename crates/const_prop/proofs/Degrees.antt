-- One edge comes to a piece that decides.
use Rattle.std.proofs.Common.{◌≡◌, ◌<◌, ◌≤◌, ◌+◌, ℕ, zero, suc, Bool, true, cond, ◌==◌, List, [], ◌∷◌, length, get_or, count_by, refl, ap, arith}
use Rattle.std.proofs.lemmas.Bool.{eq-eqb, cond-true}
use Rattle.std.proofs.lemmas.List.Sums.{sum_by-cons}
use Rattle.closed_walks.specs.Graph.{Graph, edge_count, to}
use Rattle.cfg_build.specs.Degrees.{in_degree}
use Rattle.cfg_build.specs.Joined.{FlowGraph}
use Rattle.cfg_build.specs.Shape.{IsShaped, kind_at, takes_one}
use Rattle.cfg_build.specs.declared.pieces.PieceKind.{PieceKind}
use Rattle.cfg_build.specs.declared.pieces.PieceKind.TheVariants.{Start, Act, Pass, Branch, Join, Hold, End}
use Rattle.const_prop.specs.Closed.{is_switch}

abbrev bit : Bool → ℕ
bit b = cond b 1 0

module _ {X : Type 0} (p : X → Bool) where
  count-cons : (x : X) (xs : List X) → count_by p (x ∷ xs) ≡ bit (p x) + count_by p xs
  count-cons x xs = sum_by-cons (λ (y : X). bit (p y)) x xs

  some-counted : (xs : List X) (i : ℕ) (d : X) → i < length xs → p (get_or xs i d) ≡ true → 1 ≤ count_by p xs
  some-counted [] i d l is = absurd (omega (arith, l))
  some-counted (x ∷ xs) zero d l is = let e = count-cons x xs in let b : bit (p x) ≡ 1 = cond-true (p x) 1 0 is in omega (arith, e, b)
  some-counted (x ∷ xs) (suc i) d l is = let e = count-cons x xs in let h = some-counted xs i d (omega arith) is in omega (arith, e, h)

  one-counted : (xs : List X) (i j : ℕ) (d : X) → count_by p xs ≡ 1 → i < length xs → j < length xs → p (get_or xs i d) ≡ true → p (get_or xs j d) ≡ true → i ≡ j
  one-counted [] i j d one li lj pi pj = absurd (omega (arith, li))
  one-counted (x ∷ xs) zero zero d one li lj pi pj = refl
  one-counted (x ∷ xs) zero (suc j) d one li lj pi pj = let e = count-cons x xs in let b : bit (p x) ≡ 1 = cond-true (p x) 1 0 pi in let h = some-counted xs j d (omega arith) pj in absurd (omega (arith, e, b, h, one))
  one-counted (x ∷ xs) (suc i) zero d one li lj pi pj = let e = count-cons x xs in let b : bit (p x) ≡ 1 = cond-true (p x) 1 0 pj in let h = some-counted xs i d (omega arith) pi in absurd (omega (arith, e, b, h, one))
  one-counted (x ∷ xs) (suc i) (suc j) d one li lj pi pj =
      let e = count-cons x xs in
      let h = some-counted xs i d (omega arith) pi in
      let rest : count_by p xs ≡ 1 = omega (arith, e, h, one) in
      ap suc (one-counted xs i j d rest (omega arith) (omega arith) pi pj)

pub one_edge_to : (g : Graph) (node i j : ℕ) → in_degree g node ≡ 1 → i < edge_count g → j < edge_count g → to g i ≡ node → to g j ≡ node → i ≡ j
unfolding to
one_edge_to g node i j one li lj ti tj = one-counted (λ (e : ℕ × ℕ). e.1 == node) g.edges i j (0, 0) one li lj (eq-eqb (get_or g.edges i (0, 0)).1 node ti) (eq-eqb (get_or g.edges j (0, 0)).1 node tj)

switch-takes_one : (kind : PieceKind) → is_switch kind ≡ true → takes_one kind ≡ true
switch-takes_one Start s = refl
switch-takes_one Act s = refl
switch-takes_one Pass s = refl
switch-takes_one Branch s = refl
switch-takes_one Hold s = refl
switch-takes_one Join s = absurd cc
switch-takes_one End s = absurd cc

pub one_edge_to_switch : (f : FlowGraph) (finish node i j : ℕ) → IsShaped f finish → node < f.graph.nodes → is_switch (kind_at f node) ≡ true → i < edge_count f.graph → j < edge_count f.graph → to f.graph i ≡ node → to f.graph j ≡ node → i ≡ j
one_edge_to_switch f finish node i j shape inside s li lj ti tj = one_edge_to f.graph node i j (shape.one_comes node inside (switch-takes_one (kind_at f node) s)) li lj ti tj
