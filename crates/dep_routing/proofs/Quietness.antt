-- Which nodes quiet regions hold.
use Rattle.std.proofs.Common.{◌≡◌, ◌≢◌, ℕ, zero, suc, ◌<◌, ◌⊎◌, Bool, true, false, List, [], ◌∷◌, refl, sym, ◌∙◌, subst, inl, inr, ⊎_elim, arith}
use Rattle.std.proofs.lemmas.Bool.{cases_eq, cases_Bool, false≢true}
use Rattle.closed_walks.specs.Graph.{Graph, edge_count, from, to}
use Rattle.closed_walks.specs.Walk.{Walk}
use Rattle.closed_walks.specs.Region.{IsPassed}
use Rattle.region_tree.specs.Tree.{Tree, entry_of, exit_of, parent_of, innermost_of, IsNumber, IsIn, IsPart, IsLeast, IsAround}
use Rattle.region_tree.specs.Laws.{AreSeparate, IsOwnRegion}
use Rattle.dep_routing.specs.Facts.{TreeFacts}
use Rattle.dep_routing.specs.Quiet.{IsQuiet, IsTouched, IsInQuiet, IsFree, IsLargest}

walk_ends : (g : Graph) (u v : ℕ) (w : List ℕ) → ((e : ℕ) → e < edge_count g → to g e < g.nodes) → u < g.nodes → Walk g u w v → v < g.nodes
walk_ends g u v [] ends exists leads = subst (λ n. n < g.nodes) leads exists
walk_ends g u v (e ∷ w) ends exists leads = walk_ends g (to g e) v w ends (ends e leads.0) leads.2

module _ (g : Graph) (t : Tree) (f : TreeFacts g t) where
  pub edges : (r : ℕ) → IsNumber t r → (entry_of t r < edge_count g) × (exit_of t r < edge_count g)
  edges r number = let region = f.tree.regions.sound r number in (region.pair.first, region.pair.second)

  pub inside_exists : (r node : ℕ) → IsNumber t r → IsIn g t r node → node < g.nodes
  inside_exists r node number inside = walk_ends g (to g (entry_of t r)) node inside.walk f.flow.sound.ends (f.flow.sound.ends (entry_of t r) (edges r number).0) inside.leads

  -- ---- one edge and one region

  pub not_after : (r : ℕ) → IsNumber t r → IsIn g t r (to g (exit_of t r)) → ⊥
  not_after r number inside = let b = f.borders r number in false≢true (sym b.2.exit_head ∙ (b.1 (to g (exit_of t r))).1 inside)

  pub at_exit : (r : ℕ) → IsNumber t r → IsIn g t r (from g (exit_of t r))
  at_exit r number = let b = f.borders r number in (b.1 (from g (exit_of t r))).0 b.2.exit_tail

  pub not_before : (r : ℕ) → IsNumber t r → IsIn g t r (from g (entry_of t r)) → ⊥
  not_before r number inside = let b = f.borders r number in false≢true (sym b.2.tail ∙ (b.1 (from g (entry_of t r))).1 inside)

  pub at_entry : (r : ℕ) → IsNumber t r → IsIn g t r (to g (entry_of t r))
  at_entry r number = let b = f.borders r number in (b.1 (to g (entry_of t r))).0 b.2.head

  -- an edge that comes into a region is its entry, or begins in it
  pub comes_in : (r e : ℕ) → IsNumber t r → e < edge_count g → IsIn g t r (to g e) → (entry_of t r ≡ e) ⊎ IsIn g t r (from g e)
  comes_in r e number edge inside = let b = f.borders r number in ⊎_elim
      (λ (is_entry : e ≡ entry_of t r). inl (sym is_entry))
      (λ (not_entry : e ≢ entry_of t r). ⊎_elim
      (λ (is_exit : e ≡ exit_of t r). absurd (not_after r number (subst (λ x. IsIn g t r (to g x)) is_exit inside)))
      (λ (not_exit : e ≢ exit_of t r). inr ((b.1 (from g e)).0 (b.2.others e edge not_entry not_exit ∙ (b.1 (to g e)).1 inside)))
      (cases_eq e (exit_of t r)))
      (cases_eq e (entry_of t r))

  -- an edge that begins in a region is its exit, or ends in it
  pub goes_on : (r e : ℕ) → IsNumber t r → e < edge_count g → IsIn g t r (from g e) → (exit_of t r ≡ e) ⊎ IsIn g t r (to g e)
  goes_on r e number edge inside = let b = f.borders r number in ⊎_elim
      (λ (is_exit : e ≡ exit_of t r). inl (sym is_exit))
      (λ (not_exit : e ≢ exit_of t r). ⊎_elim
      (λ (is_entry : e ≡ entry_of t r). absurd (not_before r number (subst (λ x. IsIn g t r (from g x)) is_entry inside)))
      (λ (not_entry : e ≢ entry_of t r). inr ((b.1 (to g e)).0 (sym (b.2.others e edge not_entry not_exit) ∙ (b.1 (from g e)).1 inside)))
      (cases_eq e (entry_of t r)))
      (cases_eq e (exit_of t r))

  -- two regions with a node in common are one in the other
  pub meet : (q r node : ℕ) → IsNumber t q → IsNumber t r → IsIn g t q node → IsIn g t r node → IsPart g t q r ⊎ IsPart g t r q
  meet q r node number other inside inside' = ⊎_elim
      (λ (same : q ≡ r). inl (subst (λ n. IsPart g t q n) same (λ v h. h)))
      (λ (apart : q ≢ r). ⊎_elim
      (λ (none : AreSeparate g t q r). absurd (none node inside inside'))
      (λ nested. nested)
      (f.nest q r number other apart))
      (cases_eq q r)

  module _ (touches : ℕ → ℕ → Bool) (l : ℕ) where
    pub quiet_or_touched : (r : ℕ) → IsNumber t r → IsQuiet g t touches l r ⊎ IsTouched g t touches l r
    quiet_or_touched r number = ⊎_elim
        (λ (none : (node : ℕ) → node < g.nodes → (f.borders r number).0 node ≡ true → touches node l ≡ false). inl (record { number = number; untouched = λ node inside. none node (inside_exists r node number inside) (((f.borders r number).1 node).1 inside) }))
        (λ (some : IsTouched g t touches l r). inr some)
        (below g.nodes)
      where
        below : (n : ℕ) → ((node : ℕ) → node < n → (f.borders r number).0 node ≡ true → touches node l ≡ false) ⊎ IsTouched g t touches l r
        below zero = inl (λ node less. absurd (omega (arith, less)))
        below (suc n) = ⊎_elim
            (λ (none : (node : ℕ) → node < n → (f.borders r number).0 node ≡ true → touches node l ≡ false). ⊎_elim
            (λ (is_touched : touches n l ≡ true). ⊎_elim
            (λ (is_inside : (f.borders r number).0 n ≡ true). inr (record { node = n; inside = ((f.borders r number).1 n).0 is_inside; touched = is_touched }))
            (λ (outside : (f.borders r number).0 n ≡ false). inl (λ node less inside. ⊎_elim
            (λ (same : node ≡ n). absurd (false≢true (sym outside ∙ subst (λ x. (f.borders r number).0 x ≡ true) same inside)))
            (λ (apart : node ≢ n). none node (omega (arith, less, apart)) inside)
            (cases_eq node n)))
            (cases_Bool ((f.borders r number).0 n)))
            (λ (untouched : touches n l ≡ false). inl (λ node less inside. ⊎_elim
            (λ (same : node ≡ n). subst (λ x. touches x l ≡ false) (sym same) untouched)
            (λ (apart : node ≢ n). none node (omega (arith, less, apart)) inside)
            (cases_eq node n)))
            (cases_Bool (touches n l)))
            (λ (some : IsTouched g t touches l r). inr some)
            (below n)

    pub not_both : (r : ℕ) → IsQuiet g t touches l r → IsTouched g t touches l r → ⊥
    not_both r quiet touched = false≢true (sym (quiet.untouched touched.node touched.inside) ∙ touched.touched)

    pub within_quiet : (q r : ℕ) → IsQuiet g t touches l q → IsNumber t r → IsPart g t r q → IsQuiet g t touches l r
    within_quiet q r quiet number part = record { number = number; untouched = λ node inside. quiet.untouched node (part node inside) }

    pub quiet_innermost : (node : ℕ) → node < g.nodes → IsInQuiet g t touches l node → IsQuiet g t touches l (innermost_of t node)
    quiet_innermost node exists i = ⊎_elim
        (λ none. absurd (none.1 i.region i.quiet.number i.holds))
        (λ (least : IsLeast g t (λ q. IsIn g t q node) (innermost_of t node)). within_quiet i.region (innermost_of t node) i.quiet least.number (least.least i.region i.quiet.number i.holds))
        (f.tree.innermost node exists)

    pub innermost_quiet : (node : ℕ) → node < g.nodes → IsQuiet g t touches l (innermost_of t node) → IsInQuiet g t touches l node
    innermost_quiet node exists quiet = ⊎_elim
        (λ none. let some : 0 < innermost_of t node = quiet.number.0 in let zero_is : innermost_of t node ≡ 0 = none.0 in absurd (omega (arith, some, zero_is)))
        (λ (least : IsLeast g t (λ q. IsIn g t q node) (innermost_of t node)). record { region = innermost_of t node; quiet = quiet; holds = least.has })
        (f.tree.innermost node exists)

    -- ---- the largest quiet region

    pub largest_one : (node q r : ℕ) → IsLargest g t touches l node q → IsLargest g t touches l node r → q ≡ r
    largest_one node q r a b = f.one_way q r a.quiet.number b.quiet.number (b.largest q a.quiet a.holds) (a.largest r b.quiet b.holds)

    is_largest : (node q : ℕ) → IsQuiet g t touches l q → IsIn g t q node → ((r : ℕ) → IsNumber t r → IsQuiet g t touches l r → IsAround g t q r → ⊥) → IsLargest g t touches l node q
    is_largest node q quiet inside none = record {
      quiet = quiet;
      holds = inside;
      largest = λ r other holds. ⊎_elim
          (λ (same : r ≡ q). subst (λ n. IsPart g t r n) same (λ v h. h))
          (λ (apart : r ≢ q). ⊎_elim
          (λ (part : IsPart g t r q). part)
          (λ (part : IsPart g t q r). absurd (none r other.number other (apart, part)))
          (meet r q node other.number quiet.number holds inside))
          (cases_eq r q);
    }

    climb : (n node q : ℕ) → f.rank.0 (entry_of t q) < n → IsQuiet g t touches l q → IsIn g t q node → (p : ℕ) × IsLargest g t touches l node p
    climb zero node q low quiet inside = absurd (omega (arith, low))
    climb (suc n) node q low quiet inside = ⊎_elim
        (λ none. (q, is_largest node q quiet inside (λ r other quiet_r around. none.1 r other around)))
        (λ (least : IsLeast g t (λ p. IsAround g t q p) (parent_of t q)). ⊎_elim
        (λ (quiet_parent : IsQuiet g t touches l (parent_of t q)).
        let less : f.rank.0 (entry_of t (parent_of t q)) < f.rank.0 (entry_of t q) = f.rank.2.inwards q (parent_of t q) quiet.number least.number least.has in
        climb n node (parent_of t q) (omega (arith, less, low)) quiet_parent (least.has.1 node inside))
        (λ (touched : IsTouched g t touches l (parent_of t q)).
        (q, is_largest node q quiet inside (λ r other quiet_r around. not_both (parent_of t q) (within_quiet r (parent_of t q) quiet_r least.number (least.least r other around)) touched)))
        (quiet_or_touched (parent_of t q) least.number))
        (f.tree.parents q quiet.number)

    pub largest_of : (node : ℕ) → IsInQuiet g t touches l node → (q : ℕ) × IsLargest g t touches l node q
    largest_of node i = climb f.rank.1 node i.region (f.rank.2.below (entry_of t i.region)) i.quiet i.holds

    pub free_or_largest : (node : ℕ) → node < g.nodes → IsFree g t touches l node ⊎ ((q : ℕ) × IsLargest g t touches l node q)
    free_or_largest node exists = ⊎_elim
        (λ none. inl (λ (i : IsInQuiet g t touches l node). none.1 i.region i.quiet.number i.holds))
        (λ (least : IsLeast g t (λ q. IsIn g t q node) (innermost_of t node)). ⊎_elim
        (λ (quiet : IsQuiet g t touches l (innermost_of t node)). inr (largest_of node (record { region = innermost_of t node; quiet = quiet; holds = least.has })))
        (λ (touched : IsTouched g t touches l (innermost_of t node)). inl (λ (i : IsInQuiet g t touches l node). not_both (innermost_of t node) (quiet_innermost node exists i) touched))
        (quiet_or_touched (innermost_of t node) least.number))
        (f.tree.innermost node exists)

    pub passed_touches : (node a b : ℕ) → IsPassed g node a b → 0 ≢ node → IsFree g t touches l node → touches node l ≡ true
    passed_touches node a b passed away free = ⊎_elim
        (λ (is_touched : touches node l ≡ true). is_touched)
        (λ (untouched : touches node l ≡ false).
        let o : IsOwnRegion g t node a b = f.own node a b passed away in
        absurd (free (record {
          region = o.number;
          quiet = record { number = o.exists; untouched = λ n inside. subst (λ x. touches x l ≡ false) (sym ((o.holds n).0 inside)) untouched };
          holds = (o.holds node).1 refl;
        })))
        (cases_Bool (touches node l))
