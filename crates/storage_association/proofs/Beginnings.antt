-- Names that are each alone in a storage.
use Rattle.std.proofs.Common.{◌≡◌, ℕ, zero, suc, ◌+◌, ◌<◌, ◌≤◌, pos, ◌==◌, List, length, map, refl, sym, ap, ⊎_elim, ◌∙◌, arith}
use Rattle.std.specs.List.{range_with_len}
use Rattle.std.proofs.lemmas.Int.{ints}
use Rattle.std.proofs.lemmas.Bool.Decides.{nat_tests}
use Rattle.std.proofs.lemmas.Bool.{cases_eq}
use Rattle.std.proofs.lemmas.List.FromFn.{length-map-range_with_len, get_or-map-range_with_len}
use Rattle.storage_association.specs.declared.forest.Node.{Node}
use Rattle.layout_rules.specs.Storage.{alone}
use Rattle.storage_association.specs.Trees.{node_at, no_node, leaf, IsForest}
use Rattle.layout_rules.specs.Spots.{storage_at, distance_at, count_in}
use Rattle.layout_rules.proofs.Linking.{count_in-cons, one_if}
use Rattle.layout_rules.proofs.Alone.{storage-alone, distance-alone, alone_at, length-alone}

node_at-leaf : (n k : ℕ) → k < n → node_at (map leaf (range_with_len 0 n)) k ≡ leaf k
node_at-leaf n k lt = get_or-map-range_with_len leaf 0 n k k no_node lt (omega arith)

-- a storage below or above the names has none of them
count-none : (a n k : ℕ) → k < a → count_in (map alone_at (range_with_len a n)) k ≡ 0
count-none a zero k lt = refl
count-none a (suc n) k lt =
    let here : one_if (a == k) ≡ 0 = grind (arith, nat_tests) in
    omega (arith, count_in-cons (alone_at a) (map alone_at (range_with_len (a + 1) n)) k, count-none (a + 1) n k (omega arith))

count-one : (a n k : ℕ) → a ≤ k → k < a + n → count_in (map alone_at (range_with_len a n)) k ≡ 1
count-one a zero k le lt = absurd (omega arith)
count-one a (suc n) k le lt =
    ⊎_elim
    (λ e.
    let here : one_if (a == k) ≡ 1 = grind (arith, nat_tests) in
    omega (arith, count_in-cons (alone_at a) (map alone_at (range_with_len (a + 1) n)) k, count-none (a + 1) n k (omega arith)))
    (λ ne.
    let here : one_if (a == k) ≡ 0 = grind (arith, nat_tests) in
    omega (arith, count_in-cons (alone_at a) (map alone_at (range_with_len (a + 1) n)) k, count-one (a + 1) n k (omega (arith, ne)) (omega arith)))
    (cases_eq a k)

module _ (n : ℕ) where
  abbrev nodes : List Node
  nodes = map leaf (range_with_len 0 n)

  length-nodes : length nodes ≡ n
  length-nodes = length-map-range_with_len leaf 0 n

  parent-leaf : (x : ℕ) → x < n → (node_at nodes x).parent ≡ x
  parent-leaf x lt = ap (λ (m : Node). m.parent) (node_at-leaf n x lt)

  count-alone : (x : ℕ) → x < n → count_in (alone n) (storage_at (alone n) x) ≡ 1
  count-alone x lt = ap (λ k. count_in (alone n) k) (storage-alone n x lt) ∙ count-one 0 n x (omega arith) (omega arith)

  inside : (x : ℕ) → x < length nodes → x < n
  inside x lt = omega (arith, length-nodes)

  pub forest-alone : IsForest nodes (alone n)
  forest-alone = record {
    all = length-nodes ∙ sym (length-alone n);
    parents = λ x lt. rw (parent-leaf x (inside x lt)) lt;
    together = λ x lt. ap (λ y. storage_at (alone n) y) (parent-leaf x (inside x lt));
    beyond = λ x lt.
        let e : distance_at (alone n) (node_at nodes x).parent ≡ distance_at (alone n) x = ap (λ y. distance_at (alone n) y) (parent-leaf x (inside x lt)) in
        let o : (node_at nodes x).offset ≡ pos 0 = ap (λ (m : Node). m.offset) (node_at-leaf n x (inside x lt)) in
        omega (arith, ints);
    one_root = λ x y lt lt' root root' e. sym (storage-alone n x (inside x lt)) ∙ e ∙ storage-alone n y (inside y lt');
    counts = λ x lt root. ap (λ (m : Node). m.count) (node_at-leaf n x (inside x lt)) ∙ sym (count-alone x (inside x lt));
    rising = λ x lt ne. absurd (ne (parent-leaf x (inside x lt)));
    some = λ x lt. rw (node_at-leaf n x (inside x lt)) (omega arith);
    few = λ x lt. rw (node_at-leaf n x (inside x lt)) (omega (arith, length-nodes));
    near = λ x y lt lt' e.
        let i : x < n = omega (arith, length-alone n) in
        let j : y < n = omega (arith, length-alone n) in
        omega (arith, ints, distance-alone n x i, distance-alone n y j, count-alone x i);
  }
