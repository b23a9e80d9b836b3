-- Hops past quiet regions.
use Rattle.std.proofs.Math.Nat.{suc-add}
use Rattle.std.proofs.Common.{◌≡◌, ◌≢◌, ℕ, zero, suc, ◌+◌, ◌-◌, ◌<◌, ◌≤◌, ◌⊎◌, Bool, length, zero-add, refl, sym, ◌∙◌, subst, inl, inr, ⊎_elim, arith}
use Rattle.std.proofs.lemmas.Bool.{cases_eq, cases_lt}
use Rattle.closed_walks.specs.Graph.{Graph, edge_count, from, to}
use Rattle.region_tree.specs.Tree.{Tree, entry_of, exit_of, IsNumber, IsIn, IsPart}
use Rattle.dep_routing.specs.Facts.{TreeFacts}
use Rattle.dep_routing.specs.Quiet.{IsQuiet, IsTouched, IsFree, IsWire, IsLargest}
use Rattle.dep_routing.specs.Next.{IsHop, IsLast, Hops, Next}
use Rattle.dep_routing.proofs.Quietness.{edges, not_after, at_exit, at_entry, comes_in, meet, quiet_or_touched, not_both}

module _ (g : Graph) (t : Tree) (f : TreeFacts g t) where
  -- a region has the edge as its entry, or none has
  pub region_or_none : (e : ℕ) → ((r : ℕ) × IsNumber t r × (entry_of t r ≡ e)) ⊎ ((r : ℕ) → IsNumber t r → entry_of t r ≡ e → ⊥)
  region_or_none e = ⊎_elim
      (λ (none : (r : ℕ) → r < length t.entries → 0 < r → entry_of t r ≡ e → ⊥). inr (λ r number is. none r number.1 number.0 is))
      (λ (some : (r : ℕ) × IsNumber t r × (entry_of t r ≡ e)). inl some)
      (below (length t.entries) (omega arith))
    where
      below : (n : ℕ) → n ≤ length t.entries → ((r : ℕ) → r < n → 0 < r → entry_of t r ≡ e → ⊥) ⊎ ((r : ℕ) × IsNumber t r × (entry_of t r ≡ e))
      below zero within = inl (λ r less some is. omega (arith, less))
      below (suc n) within = ⊎_elim
          (λ (none : (r : ℕ) → r < n → 0 < r → entry_of t r ≡ e → ⊥). ⊎_elim
          (λ (start : n ≡ 0). inl (λ r less some is. omega (arith, less, some, start)))
          (λ (away : n ≢ 0). ⊎_elim
          (λ (same : entry_of t n ≡ e). inr (n, (omega (arith, away), omega (arith, within)), same))
          (λ (apart : entry_of t n ≢ e). inl (λ r less some is. ⊎_elim
          (λ (last : r ≡ n). apart (subst (λ x. entry_of t x ≡ e) last is))
          (λ (before : r ≢ n). none r (omega (arith, less, before)) some is)
          (cases_eq r n)))
          (cases_eq (entry_of t n) e))
          (cases_eq n 0))
          (λ (some : (r : ℕ) × IsNumber t r × (entry_of t r ≡ e)). inr some)
          (below n (omega (arith, within)))

  module _ (touches : ℕ → ℕ → Bool) (l : ℕ) where
    pub hop_or_last : (e : ℕ) → ((x : ℕ) × IsHop g t touches l e x) ⊎ IsLast g t touches l e
    hop_or_last e = ⊎_elim
        (λ (some : (r : ℕ) × IsNumber t r × (entry_of t r ≡ e)). ⊎_elim
        (λ (quiet : IsQuiet g t touches l some.0). inl (exit_of t some.0, record { region = some.0; quiet = quiet; entry = some.2; exit = refl }))
        (λ (touched : IsTouched g t touches l some.0). inr (λ x (hop : IsHop g t touches l e x). not_both g t f touches l some.0
        (subst (λ n. IsQuiet g t touches l n) (f.one_entry hop.region some.0 hop.quiet.number some.1 (hop.entry ∙ sym some.2)) hop.quiet)
        touched))
        (quiet_or_touched g t f touches l some.0 some.1))
        (λ (none : (r : ℕ) → IsNumber t r → entry_of t r ≡ e → ⊥). inr (λ x (hop : IsHop g t touches l e x). none hop.region hop.quiet.number hop.entry))
        (region_or_none e)

    -- hops rise
    pub hop_rises : (e x : ℕ) → IsHop g t touches l e x → f.rank.0 e < f.rank.0 x
    hop_rises e x hop =
        subst (λ a. f.rank.0 a < f.rank.0 x) hop.entry
        (subst (λ b. f.rank.0 (entry_of t hop.region) < f.rank.0 b) hop.exit (f.rank.2.through hop.region hop.quiet.number))

    -- one hop leads from an edge, and one to it
    pub hop_one : (e x y : ℕ) → IsHop g t touches l e x → IsHop g t touches l e y → x ≡ y
    hop_one e x y a b =
        let same : a.region ≡ b.region = f.one_entry a.region b.region a.quiet.number b.quiet.number (a.entry ∙ sym b.entry) in
        sym a.exit ∙ (subst (λ n. exit_of t n ≡ y) (sym same) b.exit)

    pub hop_back : (e d x : ℕ) → IsHop g t touches l e x → IsHop g t touches l d x → e ≡ d
    hop_back e d x a b =
        let same : a.region ≡ b.region = f.one_exit a.region b.region a.quiet.number b.quiet.number (a.exit ∙ sym b.exit) in
        sym a.entry ∙ (subst (λ n. entry_of t n ≡ d) (sym same) b.entry)

    pub Next-hop : (e x y : ℕ) → IsHop g t touches l e x → Next g t touches l x y → Next g t touches l e y
    Next-hop e x y hop n = record { count = suc n.count; hops = (x, hop, n.hops); last = n.last }

    pub Next-last : (e : ℕ) → IsLast g t touches l e → Next g t touches l e e
    Next-last e last = record { count = zero; hops = refl; last = last }

    from_rank : (n e : ℕ) → f.rank.1 ≤ f.rank.0 e + n → (x : ℕ) × Next g t touches l e x
    from_rank zero e high = let below = f.rank.2.below e in absurd (omega (arith, high, below))
    from_rank (suc n) e high = ⊎_elim
        (λ (some : (x : ℕ) × IsHop g t touches l e x).
        let up = hop_rises e some.0 some.1 in
        let rest = from_rank n some.0 (omega (arith, high, up)) in
        (rest.0, Next-hop e some.0 rest.0 some.1 rest.1))
        (λ (last : IsLast g t touches l e). (e, Next-last e last))
        (hop_or_last e)

    pub next_of : (e : ℕ) → (x : ℕ) × Next g t touches l e x
    next_of e = from_rank f.rank.1 e (omega arith)

    hops_one : (j k e x y : ℕ) → Hops g t touches l j e x → Hops g t touches l k e y → IsLast g t touches l x → IsLast g t touches l y → x ≡ y
    hops_one zero zero e x y a b last_x last_y = sym a ∙ b
    hops_one zero (suc k) e x y a b last_x last_y = absurd (last_x b.0 (subst (λ d. IsHop g t touches l d b.0) a b.1))
    hops_one (suc j) zero e x y a b last_x last_y = absurd (last_y a.0 (subst (λ d. IsHop g t touches l d a.0) b a.1))
    hops_one (suc j) (suc k) e x y a b last_x last_y =
        hops_one j k b.0 x y (subst (λ d. Hops g t touches l j d x) (hop_one e a.0 b.0 a.1 b.1) a.2) b.2 last_x last_y

    pub next_one : (e x y : ℕ) → Next g t touches l e x → Next g t touches l e y → x ≡ y
    next_one e x y a b = hops_one a.count b.count e x y a.hops b.hops a.last b.last

    -- ---- which edges are come to

    hops_edge : (k e x : ℕ) → e < edge_count g → Hops g t touches l k e x → x < edge_count g
    hops_edge zero e x edge same = subst (λ d. d < edge_count g) same edge
    hops_edge (suc k) e x edge h =
        hops_edge k h.0 x (subst (λ d. d < edge_count g) h.1.exit (edges g t f h.1.region h.1.quiet.number).1) h.2

    pub next_edge : (e x : ℕ) → e < edge_count g → Next g t touches l e x → x < edge_count g
    next_edge e x edge n = hops_edge n.count e x edge n.hops

    -- no quiet region holds both ends of the edge
    abbrev pub IsLoose : ℕ → Type 0
    IsLoose e = (q : ℕ) → IsQuiet g t touches l q → IsIn g t q (from g e) → IsIn g t q (to g e) → ⊥

    pub loose_free : (e : ℕ) → IsFree g t touches l (from g e) → IsLoose e
    loose_free e free q quiet begins ends = free (record { region = q; quiet = quiet; holds = begins })

    pub loose_exit : (node q : ℕ) → IsLargest g t touches l node q → IsLoose (exit_of t q)
    loose_exit node q largest r quiet begins ends = ⊎_elim
        (λ (part : IsPart g t q r). not_after g t f q largest.quiet.number (largest.largest r quiet (part node largest.holds) (to g (exit_of t q)) ends))
        (λ (part : IsPart g t r q). not_after g t f q largest.quiet.number (part (to g (exit_of t q)) ends))
        (meet g t f q r (from g (exit_of t q)) largest.quiet.number quiet.number (at_exit g t f q largest.quiet.number) begins)

    loose_hop : (e x : ℕ) → e < edge_count g → IsLoose e → IsHop g t touches l e x → IsLoose x
    loose_hop e x edge loose hop q quiet begins ends =
        let r = hop.region in
        let in_r : IsIn g t r (from g x) = subst (λ d. IsIn g t r (from g d)) hop.exit (at_exit g t f r hop.quiet.number) in
        let out_r : IsIn g t r (to g x) → ⊥ = λ h. not_after g t f r hop.quiet.number (subst (λ d. IsIn g t r (to g d)) (sym hop.exit) h) in
        let first : IsIn g t r (to g e) = subst (λ d. IsIn g t r (to g d)) hop.entry (at_entry g t f r hop.quiet.number) in
        ⊎_elim
        (λ (part : IsPart g t q r). out_r (part (to g x) ends))
        (λ (part : IsPart g t r q). ⊎_elim
        (λ (is_entry : entry_of t q ≡ e). out_r (subst (λ n. IsIn g t n (to g x)) (f.one_entry q r quiet.number hop.quiet.number (is_entry ∙ sym hop.entry)) ends))
        (λ (inside : IsIn g t q (from g e)). loose q quiet inside (part (to g e) first))
        (comes_in g t f q e quiet.number edge (part (to g e) first)))
        (meet g t f q r (from g x) quiet.number hop.quiet.number begins in_r)

    loose_last : (e : ℕ) → e < edge_count g → IsLoose e → IsLast g t touches l e → IsWire g t touches l e
    loose_last e edge loose last i = ⊎_elim
        (λ (is_entry : entry_of t i.region ≡ e). last (exit_of t i.region) (record { region = i.region; quiet = i.quiet; entry = is_entry; exit = refl }))
        (λ (inside : IsIn g t i.region (from g e)). loose i.region i.quiet inside i.holds)
        (comes_in g t f i.region e i.quiet.number edge i.holds)

    hops_wire : (k e x : ℕ) → e < edge_count g → IsLoose e → Hops g t touches l k e x → IsLast g t touches l x → IsWire g t touches l x
    hops_wire zero e x edge loose same last = loose_last x (subst (λ d. d < edge_count g) same edge) (subst (λ d. IsLoose d) same loose) last
    hops_wire (suc k) e x edge loose h last =
        hops_wire k h.0 x (subst (λ d. d < edge_count g) h.1.exit (edges g t f h.1.region h.1.quiet.number).1) (loose_hop e h.0 edge loose h.1) h.2 last

    -- from an edge that no quiet region holds, the line is led to a wire
    pub next_wire : (e x : ℕ) → e < edge_count g → IsLoose e → Next g t touches l e x → IsWire g t touches l x
    next_wire e x edge loose n = hops_wire n.count e x edge loose n.hops n.last

    hops_stay : (k e x : ℕ) → IsWire g t touches l e → Hops g t touches l k e x → x ≡ e
    hops_stay zero e x wire same = sym same
    hops_stay (suc k) e x wire h = absurd (wire (record {
      region = h.1.region;
      quiet = h.1.quiet;
      holds = subst (λ d. IsIn g t h.1.region (to g d)) h.1.entry (at_entry g t f h.1.region h.1.quiet.number);
    }))

    -- from a wire the line is led to no other edge
    pub next_stays : (e x : ℕ) → IsWire g t touches l e → Next g t touches l e x → x ≡ e
    next_stays e x wire n = hops_stay n.count e x wire n.hops

    -- ---- back along the hops

    -- the last hop
    to_end : (k e x : ℕ) → Hops g t touches l (suc k) e x → (y : ℕ) × Hops g t touches l k e y × IsHop g t touches l y x
    to_end zero e x h = (e, refl, subst (λ d. IsHop g t touches l e d) h.2 h.1)
    to_end (suc k) e x h = let rest = to_end k h.0 x h.2 in (rest.0, (h.0, h.1, rest.1), rest.2)

    -- of two rows of hops to one edge the end of the longer one is the shorter one
    prefix_of : (k j e d x : ℕ) → Hops g t touches l k e x → Hops g t touches l (k + j) d x → Hops g t touches l j d e
    prefix_of zero j e d x same h = subst (λ y. Hops g t touches l j d y) (sym same) (subst (λ n. Hops g t touches l n d x) (zero-add j) h)
    prefix_of (suc k) j e d x h long =
        let a = to_end k e x h in
        let b = to_end (k + j) d x (subst (λ n. Hops g t touches l n d x) (suc-add k j) long) in
        prefix_of k j e d a.0 a.1 (subst (λ y. Hops g t touches l (k + j) d y) (hop_back b.0 a.0 x b.2 a.2) b.1)

    -- no hop ends at an edge that begins at a free node
    hops_free : (j d e : ℕ) → IsFree g t touches l (from g e) → Hops g t touches l j d e → d ≡ e
    hops_free zero d e free same = same
    hops_free (suc j) d e free h =
        let a = to_end j d e h in
        absurd (free (record { region = a.2.region; quiet = a.2.quiet; holds = subst (λ x. IsIn g t a.2.region (from g x)) a.2.exit (at_exit g t f a.2.region a.2.quiet.number) }))

    pub next_back : (e d x : ℕ) → IsFree g t touches l (from g e) → IsFree g t touches l (from g d) → Next g t touches l e x → Next g t touches l d x → e ≡ d
    next_back e d x free_e free_d a b = ⊎_elim
        (λ (less : a.count < b.count).
        let long : Hops g t touches l (a.count + (b.count - a.count)) d x = subst (λ n. Hops g t touches l n d x) (omega (arith, less)) b.hops in
        sym (hops_free (b.count - a.count) d e free_e (prefix_of a.count (b.count - a.count) e d x a.hops long)))
        (λ (most : b.count ≤ a.count).
        let long : Hops g t touches l (b.count + (a.count - b.count)) e x = subst (λ n. Hops g t touches l n e x) (omega (arith, most)) a.hops in
        hops_free (a.count - b.count) e d free_d (prefix_of b.count (a.count - b.count) d e x b.hops long))
        (cases_lt a.count b.count)
