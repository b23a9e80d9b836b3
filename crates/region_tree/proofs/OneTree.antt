-- Two region trees of a graph are equal.
use Rattle.std.proofs.Common.{◌≡◌, ◌≢◌, ℕ, zero, suc, ◌+◌, ◌<◌, ◌≤◌, List, length, sym, ap, ◌∙◌, subst, inl, inr, ⊎_elim, arith}
use Rattle.std.proofs.lemmas.Bool.{cases_eq, cases_lt}
use Rattle.std.proofs.lemmas.Grind.{same_number_lists}
use Rattle.closed_walks.specs.Graph.{Graph}
use Rattle.closed_walks.specs.Region.{IsRegion}
use Rattle.region_tree.specs.Facts.{RegionFacts}
use Rattle.region_tree.specs.Tree.{Tree, entry_of, exit_of, parent_of, innermost_of, IsNumber, IsNumbered, IsIn, IsLeastOrNone, IsAround, AreRegions, IsRegionTree}
use Rattle.region_tree.specs.Nesting.{table}
use Rattle.region_tree.proofs.Within.{least_one}

module _ (g : Graph) (f : RegionFacts g) (t u : Tree) (s : AreRegions g t) (v : AreRegions g u) where
  -- where the lower numbers have the same entries in both, no number of the one has a lesser entry in the other
  no_less : (r : ℕ) → IsNumber t r → ((q : ℕ) → 0 < q → q < r → (q < length u.entries) × (entry_of t q ≡ entry_of u q)) → (r < length u.entries) × (entry_of u r ≤ entry_of t r)
  no_less r number lower =
      let there : IsNumbered u (entry_of t r) (exit_of t r) = v.complete (entry_of t r) (exit_of t r) (s.sound r number) in
      let q = there.number in
      ⊎_elim
      (λ (less : q < r).
      let old = lower q there.exists.0 less in
      let up = s.rises q r there.exists.0 less number.1 in
      let same : entry_of t q ≡ entry_of u q = old.1 in
      let is : entry_of u q ≡ entry_of t r = there.entry in
      absurd (omega (arith, up, same, is)))
      (λ (most : r ≤ q).
      let within : q < length u.entries = there.exists.1 in
      let is : entry_of u q ≡ entry_of t r = there.entry in (
        omega (arith, most, within),
        ⊎_elim
            (λ (less : r < q). let up = v.rises r q number.0 less within in omega (arith, up, is))
            (λ (end : q ≤ r). let same : q ≡ r = omega (arith, most, end) in let at : entry_of u r ≡ entry_of t r = subst (λ n. entry_of u n ≡ entry_of t r) same is in omega (arith, at))
            (cases_lt r q),
      ))
      (cases_lt q r)

module _ (g : Graph) (f : RegionFacts g) (t u : Tree) (s : AreRegions g t) (v : AreRegions g u) where
  -- the numbers below n that the one has, the other has with the same entries
  same_below : (n r : ℕ) → r < n → IsNumber t r → (r < length u.entries) × (entry_of t r ≡ entry_of u r)
  same_below zero r below number = absurd (omega (arith, below))
  same_below (suc n) r below number =
      let first = no_less g f t u s v r number (λ q some less. same_below n q (omega arith) (some, omega (arith, less, number.1))) in
      let other : IsNumber u r = (number.0, first.0) in
      let second = no_less g f u t v s r other (λ q some less. let old = same_below n q (omega arith) (some, omega (arith, less, number.1)) in (omega (arith, less, number.1), sym old.1)) in
      let down : entry_of u r ≤ entry_of t r = first.1 in
      let up : entry_of t r ≤ entry_of u r = second.1 in
      (first.0, omega (arith, down, up))

  pub same_number : (r : ℕ) → IsNumber t r → IsNumber u r
  same_number r number = (number.0, (same_below (r + 1) r (omega arith) number).0)

  pub same_entry : (r : ℕ) → IsNumber t r → entry_of t r ≡ entry_of u r
  same_entry r number = (same_below (r + 1) r (omega arith) number).1

  pub same_exit : (r : ℕ) → IsNumber t r → exit_of t r ≡ exit_of u r
  same_exit r number = f.one_exit (entry_of t r) (exit_of t r) (exit_of u r) (s.sound r number) (subst (λ a. IsRegion g a (exit_of u r)) (sym (same_entry r number)) (v.sound r (same_number r number)))

  -- so no region of the one is left out by the other
  no_longer : length t.entries ≤ length u.entries
  no_longer = ⊎_elim
      (λ (less : length u.entries < length t.entries). let last = same_number (length u.entries) (v.some, less) in let within = last.1 in absurd (omega (arith, within)))
      (λ (most : length t.entries ≤ length u.entries). most)
      (cases_lt (length u.entries) (length t.entries))

  pub same_entries : length t.entries ≡ length u.entries → t.entries ≡ u.entries
  same_entries size = same_number_lists t.entries u.entries size (λ k within. ⊎_elim
      (λ (start : k ≡ 0). rw start (s.no_entry ∙ sym v.no_entry))
      (λ (some : k ≢ 0). same_entry k (omega (arith, some), within))
      (cases_eq k 0))

  pub same_exits : length t.entries ≡ length u.entries → t.exits ≡ u.exits
  same_exits size = same_number_lists t.exits u.exits (s.size ∙ (size ∙ sym v.size)) (λ k within. ⊎_elim
      (λ (start : k ≡ 0). rw start (s.no_exit ∙ sym v.no_exit))
      (λ (some : k ≢ 0). same_exit k (omega (arith, some), omega (arith, within, s.size)))
      (cases_eq k 0))

-- ---- the entries and exits alone tell which region is least

to_table : (g : Graph) (t : Tree) (asked : ℕ → Type 0) (r : ℕ) → IsLeastOrNone g t asked r → IsLeastOrNone g (table t.entries t.exits) asked r
to_table g t asked r (inl none) = inl none
to_table g t asked r (inr l) = inr (record { number = l.number; has = l.has; least = l.least })

from_table : (g : Graph) (t : Tree) (asked : ℕ → Type 0) (r : ℕ) → IsLeastOrNone g (table t.entries t.exits) asked r → IsLeastOrNone g t asked r
from_table g t asked r (inl none) = inl none
from_table g t asked r (inr l) = inr (record { number = l.number; has = l.has; least = l.least })

module _ (g : Graph) (f : RegionFacts g) (t u : Tree) (s : IsRegionTree g t) (v : IsRegionTree g u) where
  size : length t.entries ≡ length u.entries
  size = let up = no_longer g f t u s.regions v.regions in let down = no_longer g f u t v.regions s.regions in omega (arith, up, down)

  entries : t.entries ≡ u.entries
  entries = same_entries g f t u s.regions v.regions size

  exits : t.exits ≡ u.exits
  exits = same_exits g f t u s.regions v.regions size

  moved : (asked : Tree → ℕ → Type 0) (r : ℕ) → IsLeastOrNone g (table t.entries t.exits) (asked (table t.entries t.exits)) r → IsLeastOrNone g (table u.entries u.exits) (asked (table u.entries u.exits)) r
  moved asked r l =
      subst (λ (xs : List ℕ). IsLeastOrNone g (table xs u.exits) (asked (table xs u.exits)) r) entries
      (subst (λ (ys : List ℕ). IsLeastOrNone g (table t.entries ys) (asked (table t.entries ys)) r) exits l)

  same_parent : (r : ℕ) → IsNumber t r → parent_of t r ≡ parent_of u r
  same_parent r number =
      least_one g f u v.regions (λ q. IsAround g u r q) (parent_of t r) (parent_of u r)
      (from_table g u (λ q. IsAround g u r q) (parent_of t r) (moved (λ x q. IsAround g x r q) (parent_of t r) (to_table g t (λ q. IsAround g t r q) (parent_of t r) (s.parents r number))))
      (v.parents r (same_number g f t u s.regions v.regions r number))

  same_innermost : (node : ℕ) → node < g.nodes → innermost_of t node ≡ innermost_of u node
  same_innermost node exists =
      least_one g f u v.regions (λ q. IsIn g u q node) (innermost_of t node) (innermost_of u node)
      (from_table g u (λ q. IsIn g u q node) (innermost_of t node) (moved (λ x q. IsIn g x q node) (innermost_of t node) (to_table g t (λ q. IsIn g t q node) (innermost_of t node) (s.innermost node exists))))
      (v.innermost node exists)

  parents : t.parents ≡ u.parents
  parents = same_number_lists t.parents u.parents (s.parents_size ∙ (size ∙ sym v.parents_size)) (λ k within. ⊎_elim
      (λ (start : k ≡ 0). rw start (s.no_parent ∙ sym v.no_parent))
      (λ (some : k ≢ 0). same_parent k (omega (arith, some), omega (arith, within, s.parents_size)))
      (cases_eq k 0))

  innermost : t.innermost ≡ u.innermost
  innermost = same_number_lists t.innermost u.innermost (s.nodes ∙ sym v.nodes) (λ k within. same_innermost k (omega (arith, within, s.nodes)))

  pub one_tree : t ≡ u
  one_tree =
      let tree : List ℕ → List ℕ → List ℕ → List ℕ → Tree = λ as_entries as_exits as_parents as_innermost. record { entries = as_entries; exits = as_exits; parents = as_parents; innermost = as_innermost } in
      let first : tree t.entries t.exits t.parents t.innermost ≡ tree u.entries t.exits t.parents t.innermost = ap (λ (xs : List ℕ). tree xs t.exits t.parents t.innermost) entries in
      let second : tree u.entries t.exits t.parents t.innermost ≡ tree u.entries u.exits t.parents t.innermost = ap (λ (xs : List ℕ). tree u.entries xs t.parents t.innermost) exits in
      let third : tree u.entries u.exits t.parents t.innermost ≡ tree u.entries u.exits u.parents t.innermost = ap (λ (xs : List ℕ). tree u.entries u.exits xs t.innermost) parents in
      let fourth : tree u.entries u.exits u.parents t.innermost ≡ tree u.entries u.exits u.parents u.innermost = ap (λ (xs : List ℕ). tree u.entries u.exits u.parents xs) innermost in
      first ∙ (second ∙ (third ∙ fourth))
