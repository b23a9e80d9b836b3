-- The place of a line.
use Rattle.std.proofs.Common.{◌≡◌, ℕ, ◌<◌, ◌↔◌, Bool, refl, sym, subst, inl, inr, ⊎_elim}
use Rattle.closed_walks.specs.Graph.{Graph, edge_count, from, to}
use Rattle.region_tree.specs.Tree.{Tree, entry_of, exit_of, IsIn, IsPart}
use Rattle.dep_routing.specs.Facts.{TreeFacts}
use Rattle.dep_routing.specs.Quiet.{IsInQuiet, IsFree, IsWire, IsLargest}
use Rattle.dep_routing.specs.Next.{IsLast, Next}
use Rattle.dep_routing.specs.Place.{IsAfter, Place}
use Rattle.dep_routing.proofs.Quietness.{edges, not_after, at_entry, comes_in, goes_on, free_or_largest, largest_one}
use Rattle.dep_routing.proofs.Hopping.{next_of, next_one, next_edge, next_wire, Next-hop, Next-last, loose_free, loose_exit}

module _ (g : Graph) (t : Tree) (f : TreeFacts g t) (touches : ℕ → ℕ → Bool) (l : ℕ) where
  largest_in : (node q : ℕ) → IsLargest g t touches l node q → IsInQuiet g t touches l node
  largest_in node q largest = record { region = q; quiet = largest.quiet; holds = largest.holds }

  pub after_next : (node q x : ℕ) → IsLargest g t touches l node q → IsAfter g t touches l node x → Next g t touches l (exit_of t q) x
  after_next node q x largest b = subst (λ n. Next g t touches l (exit_of t n) x) (largest_one g t f touches l node b.region q b.largest largest) b.next

  pub free_next : (e x : ℕ) → IsFree g t touches l (from g e) → Place g t touches l e x → Next g t touches l e x
  free_next e x free (inl p) = p.1
  free_next e x free (inr b) = absurd (free (largest_in (from g e) b.region b.largest))

  pub place_one : (e x y : ℕ) → Place g t touches l e x → Place g t touches l e y → x ≡ y
  place_one e x y (inl a) b = next_one g t f touches l e x y a.1 (free_next e y a.0 b)
  place_one e x y (inr a) (inl b) = absurd (b.0 (largest_in (from g e) a.region a.largest))
  place_one e x y (inr a) (inr b) = next_one g t f touches l (exit_of t a.region) x y a.next (after_next (from g e) a.region y a.largest b)

  pub place_of : (e : ℕ) → e < edge_count g → (x : ℕ) × Place g t touches l e x
  place_of e edge = ⊎_elim
      (λ (free : IsFree g t touches l (from g e)). let n = next_of g t f touches l e in (n.0, inl (free, n.1)))
      (λ (some : (q : ℕ) × IsLargest g t touches l (from g e) q). let n = next_of g t f touches l (exit_of t some.0) in (n.0, inr (record { region = some.0; largest = some.1; next = n.1 })))
      (free_or_largest g t f touches l (from g e) (f.flow.sound.begins e edge))

  pub place_wire : (e x : ℕ) → e < edge_count g → Place g t touches l e x → IsWire g t touches l x
  place_wire e x edge (inl a) = next_wire g t f touches l e x edge (loose_free g t f touches l e a.0) a.1
  place_wire e x edge (inr b) =
      next_wire g t f touches l (exit_of t b.region) x (edges g t f b.region b.largest.quiet.number).1 (loose_exit g t f touches l (from g e) b.region b.largest) b.next

  pub place_edge : (e x : ℕ) → e < edge_count g → Place g t touches l e x → x < edge_count g
  place_edge e x edge (inl a) = next_edge g t f touches l e x edge a.1
  place_edge e x edge (inr b) = next_edge g t f touches l (exit_of t b.region) x (edges g t f b.region b.largest.quiet.number).1 b.next

  -- ---- over a pass

  -- a free node is entered at the place itself
  pub place_free : (e : ℕ) → e < edge_count g → IsFree g t touches l (to g e) → Place g t touches l e e
  place_free e edge free = ⊎_elim
      (λ (begins : IsFree g t touches l (from g e)). inl (begins, Next-last g t f touches l e last))
      (λ (some : (q : ℕ) × IsLargest g t touches l (from g e) q). ⊎_elim
      (λ (is_exit : exit_of t some.0 ≡ e). inr (record { region = some.0; largest = some.1; next = subst (λ d. Next g t touches l d e) (sym is_exit) (Next-last g t f touches l e last) }))
      (λ (inside : IsIn g t some.0 (to g e)). absurd (free (record { region = some.0; quiet = some.1.quiet; holds = inside })))
      (goes_on g t f some.0 e some.1.quiet.number edge some.1.holds))
      (free_or_largest g t f touches l (from g e) (f.flow.sound.begins e edge))
    where
      last : IsLast g t touches l e
      last x hop = free (record { region = hop.region; quiet = hop.quiet; holds = subst (λ d. IsIn g t hop.region (to g d)) hop.entry (at_entry g t f hop.region hop.quiet.number) })

  -- where a quiet region holds the end of an edge, the place is after the largest one
  pub place_quiet : (e q x : ℕ) → e < edge_count g → IsLargest g t touches l (to g e) q → Next g t touches l (exit_of t q) x → Place g t touches l e x
  place_quiet e q x edge largest n = ⊎_elim
      (λ (begins : IsFree g t touches l (from g e)). inl (
        begins,
        ⊎_elim
            (λ (is_entry : entry_of t q ≡ e). over is_entry)
            (λ (inside : IsIn g t q (from g e)). absurd (begins (record { region = q; quiet = largest.quiet; holds = inside })))
            (comes_in g t f q e largest.quiet.number edge largest.holds),
      ))
      (λ (some : (p : ℕ) × IsLargest g t touches l (from g e) p). inr (record {
        region = some.0;
        largest = some.1;
        next = ⊎_elim
            (λ (is_exit : exit_of t some.0 ≡ e). subst (λ d. Next g t touches l d x) (sym is_exit) (⊎_elim
            (λ (is_entry : entry_of t q ≡ e). over is_entry)
            (λ (inside : IsIn g t q (from g e)). absurd (not_after g t f some.0 some.1.quiet.number
            (subst (λ d. IsIn g t some.0 (to g d)) (sym is_exit) (some.1.largest q largest.quiet inside (to g e) largest.holds))))
            (comes_in g t f q e largest.quiet.number edge largest.holds)))
            (λ (inside : IsIn g t some.0 (to g e)).
            let part : IsPart g t some.0 q = largest.largest some.0 some.1.quiet inside in
            let back : IsPart g t q some.0 = some.1.largest q largest.quiet (part (from g e) some.1.holds) in
            subst (λ m. Next g t touches l (exit_of t m) x) (f.one_way q some.0 largest.quiet.number some.1.quiet.number back part) n)
            (goes_on g t f some.0 e some.1.quiet.number edge some.1.holds);
      }))
      (free_or_largest g t f touches l (from g e) (f.flow.sound.begins e edge))
    where
      over : entry_of t q ≡ e → Next g t touches l e x
      over is_entry = Next-hop g t f touches l e (exit_of t q) x (record { region = q; quiet = largest.quiet; entry = is_entry; exit = refl }) n

  -- a quiet region is passed over without a step
  pub place_passes : (e d x : ℕ) → e < edge_count g → d < edge_count g → from g d ≡ to g e → (IsFree g t touches l (to g e) → ⊥) → Place g t touches l d x ↔ Place g t touches l e x
  place_passes e d x edge other meets held = ⊎_elim
      (λ (free : IsFree g t touches l (to g e)). absurd (held free))
      (λ (some : (q : ℕ) × IsLargest g t touches l (to g e) q).
      let n = next_of g t f touches l (exit_of t some.0) in
      let there : IsLargest g t touches l (from g d) some.0 = subst (λ v. IsLargest g t touches l v some.0) (sym meets) some.1 in
      let here : Place g t touches l d n.0 = inr (record { region = some.0; largest = there; next = n.1 }) in
      let before : Place g t touches l e n.0 = place_quiet e some.0 n.0 edge some.1 n.1 in (
        λ p. subst (λ y. Place g t touches l e y) (place_one d n.0 x here p) before,
        λ p. subst (λ y. Place g t touches l d y) (place_one e n.0 x before p) here,
      ))
      (free_or_largest g t f touches l (to g e) (f.flow.sound.ends e edge))
