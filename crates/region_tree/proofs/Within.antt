-- Which regions hold the two ends of an edge.
use Rattle.std.proofs.Common.{◌≡◌, ◌≢◌, ℕ, ◌<◌, ◌⊎◌, length, inl, inr, ⊎_elim, sym, arith}
use Rattle.std.proofs.lemmas.Bool.{cases_eq}
use Rattle.closed_walks.specs.Graph.{Graph, edge_count, from, to}
use Rattle.region_tree.specs.Facts.{RegionFacts, HasSides}
use Rattle.region_tree.specs.Tree.{Tree, entry_of, exit_of, IsNumber, IsIn, IsPart, AreRegions, IsLeast, IsLeastOrNone, IsAround}

module _ (g : Graph) (t : Tree) where
  part_itself : (q r : ℕ) → q ≡ r → IsPart g t r q
  part_itself q r same = grind arith

  -- the least that has one thing is the least that has another, where the same regions have it
  least_same : (asked other : ℕ → Type 0) (r : ℕ) → ((q : ℕ) → IsNumber t q → asked q → other q) → ((q : ℕ) → IsNumber t q → other q → asked q) → IsLeastOrNone g t asked r → IsLeastOrNone g t other r
  least_same asked other r forth back (inl none) = inl (none.0, search (none.1, back))
  least_same asked other r forth back (inr l) = inr (record { number = l.number; has = forth r l.number l.has; least = search (l.least, back) })

  pub least_row : (asked : ℕ → Type 0) (r : ℕ) → 0 < length t.entries → IsLeastOrNone g t asked r → r < length t.entries
  least_row asked r some (inl none) = omega arith
  least_row asked r some (inr l) = omega arith

-- what an edge without one region leaves
abbrev pub IsOuter : Graph → Tree → (e q : ℕ) → Type 0
IsOuter g t e q = IsIn g t q (from g e) × (exit_of t q ≢ e)

module _ (g : Graph) (f : RegionFacts g) (t : Tree) (s : AreRegions g t) where
  pub one_number : (q r : ℕ) → IsNumber t q → IsNumber t r → entry_of t q ≡ entry_of t r → q ≡ r
  one_number q r number other same = grind (arith, s.rises q r, s.rises r q)

  pub one_number_exit : (q r : ℕ) → IsNumber t q → IsNumber t r → exit_of t q ≡ exit_of t r → q ≡ r
  one_number_exit q r number other same = one_number q r number other (f.one_entry (entry_of t q) (exit_of t q) (entry_of t r) (s.sound q number) (rw same (s.sound r other)))

  -- two regions that contain each other are one
  pub one_region : (q r : ℕ) → IsNumber t q → IsNumber t r → IsPart g t q r → IsPart g t r q → q ≡ r
  one_region q r number other part back = one_number q r number other (f.by_nodes _ _ _ _ (s.sound q number) (s.sound r other) (λ node. (part node, back node)))

  pub least_one : (asked : ℕ → Type 0) (q r : ℕ) → IsLeastOrNone g t asked q → IsLeastOrNone g t asked r → q ≡ r
  least_one asked q r (inl a) (inl b) = cc
  least_one asked q r (inl a) (inr b) = absurd (a.1 r b.number b.has)
  least_one asked q r (inr a) (inl b) = absurd (b.1 q a.number a.has)
  least_one asked q r (inr a) (inr b) = one_region q r a.number b.number (a.least r b.number b.has) (b.least q a.number a.has)

  -- ---- one edge and one region

  module _ (r : ℕ) (number : IsNumber t r) where
    sides : HasSides g (entry_of t r) (exit_of t r)
    sides = f.sides (entry_of t r) (exit_of t r) (s.sound r number).pair

    pub entered : (e : ℕ) → entry_of t r ≡ e → IsIn g t r (to g e)
    entered e same = grind (arith, sides.1 (to g e), sides.2)

    not_before : (e : ℕ) → entry_of t r ≡ e → IsIn g t r (from g e) → ⊥
    not_before e same inside = grind (arith, sides.1 (from g e), sides.2)

    pub left : (e : ℕ) → exit_of t r ≡ e → IsIn g t r (from g e)
    left e same = grind (arith, sides.1 (from g e), sides.2)

    not_after : (e : ℕ) → exit_of t r ≡ e → IsIn g t r (to g e) → ⊥
    not_after e same inside = grind (arith, sides.1 (to g e), sides.2)

    module _ (e : ℕ) (edge : e < edge_count g) (not_entry : entry_of t r ≢ e) (not_exit : exit_of t r ≢ e) where
      on : IsIn g t r (from g e) → IsIn g t r (to g e)
      on inside = grind (arith, sides.1 (to g e), sides.1 (from g e), sides.2.others e)

      back : IsIn g t r (to g e) → IsIn g t r (from g e)
      back inside = grind (arith, sides.1 (to g e), sides.1 (from g e), sides.2.others e)

  -- two regions with a node in common are one in the other
  meet : (q r node : ℕ) → IsNumber t q → IsNumber t r → IsIn g t q node → IsIn g t r node → IsPart g t q r ⊎ IsPart g t r q
  meet q r node number other inside inside' = ⊎_elim
      (λ (same : entry_of t q ≡ entry_of t r). inl (part_itself g t r q (sym (one_number q r number other same))))
      (λ apart. ⊎_elim (λ none. absurd (none node inside inside')) (λ nested. nested) (f.nest _ _ _ _ (s.sound q number) (s.sound r other) apart))
      (cases_eq _ _)

  -- ---- one edge and all regions

  module _ (e : ℕ) (edge : e < edge_count g) where
    -- where the edge doesn't leave the least region, no region is left
    pub outer_stays : (r : ℕ) → IsLeastOrNone g t (λ q. IsIn g t q (from g e)) r → exit_of t r ≢ e → IsLeastOrNone g t (λ q. IsOuter g t e q) r
    outer_stays r (inl none) not_exit = inl (none.0, λ q number h. none.1 q number h.0)
    outer_stays r (inr l) not_exit = inr (record { number = l.number; has = (l.has, not_exit); least = λ q number h. l.least q number h.0 })

    -- where it does, its parent is what is left
    pub outer_leaves : (r p : ℕ) → IsLeast g t (λ q. IsIn g t q (from g e)) r → exit_of t r ≡ e → IsLeastOrNone g t (λ q. IsAround g t r q) p → IsLeastOrNone g t (λ q. IsOuter g t e q) p
    outer_leaves r p l is_exit parent = least_same g t (λ q. IsAround g t r q) (λ q. IsOuter g t e q) p
        (λ q number h. (h.1 (from g e) l.has, λ same_exit. grind (arith, one_number_exit q r, l.number)))
        (λ q number h. (λ same. grind arith, l.least q number h.0))
        parent

    outer_head : (q : ℕ) → IsNumber t q → IsOuter g t e q → IsIn g t q (to g e)
    outer_head q number h = on q number e edge (λ is_entry. not_before q number e is_entry h.0) h.1 h.0

    pub head_outer : (q : ℕ) → IsNumber t q → entry_of t q ≢ e → IsIn g t q (to g e) → IsOuter g t e q
    head_outer q number not_entry inside =
        let not_exit : exit_of t q ≢ e = λ is_exit. not_after q number e is_exit inside in
        (back q number e edge not_entry not_exit inside, not_exit)

    -- an edge that enters no region
    pub head_none : (o : ℕ) → ((q : ℕ) → IsNumber t q → entry_of t q ≢ e) → IsLeastOrNone g t (λ q. IsOuter g t e q) o → IsLeastOrNone g t (λ q. IsIn g t q (to g e)) o
    head_none o none l = least_same g t (λ q. IsOuter g t e q) (λ q. IsIn g t q (to g e)) o outer_head (λ q number. head_outer q number (none q number)) l

    -- an edge that enters a region
    module _ (r : ℕ) (number : IsNumber t r) (is_entry : entry_of t r ≡ e) where
      outer_around : (q : ℕ) → IsNumber t q → IsOuter g t e q → IsAround g t r q
      outer_around q other h = (
        λ same. not_before q other e (rw (same, is_entry)) h.0,
        ⊎_elim (λ part. part) (λ part. absurd (not_before r number e is_entry (part (from g e) h.0))) (meet r q (to g e) number other (entered r number e is_entry) (outer_head q other h)),
      )

      around_outer : (q : ℕ) → IsNumber t q → IsAround g t r q → IsOuter g t e q
      around_outer q other h = head_outer q other (λ same. h.0 (one_number q r other number (cc))) (h.1 (to g e) (entered r number e is_entry))

      pub entered_parent : (o : ℕ) → IsLeastOrNone g t (λ q. IsOuter g t e q) o → IsLeastOrNone g t (λ q. IsAround g t r q) o
      entered_parent o l = least_same g t (λ q. IsOuter g t e q) (λ q. IsAround g t r q) o outer_around around_outer l

      pub entered_least : IsLeastOrNone g t (λ q. IsIn g t q (to g e)) r
      entered_least = inr (record {
        number = number;
        has = entered r number e is_entry;
        least = λ q other inside. ⊎_elim
            (λ (same : entry_of t q ≡ e). part_itself g t q r (one_number q r other number (cc)))
            (λ not_entry. (outer_around q other (head_outer q other not_entry inside)).1)
            (cases_eq _ _);
      })
