-- The edges of the flow graph: where each begins and ends, and which leave each piece, in order.
use Rattle.std.proofs.Common.{◌≡◌, ◌≢◌, ℕ, zero, suc, ◌+◌, ◌-◌, ◌<◌, ◌≤◌, ◌⊎◌, Bool, true, false, ◌==◌, List, [], ◌∷◌, ◌++◌, length, get_or, filter, refl, sym, ap, ◌∙◌, subst, inl, inr, ⊎_elim, zero-add, append-nil, arith}
use Rattle.std.proofs.lemmas.Bool.{cases_Bool, cases_lt, cond-true, cond-false, eqb-true, eq-eqb, ne_eqb}
use Rattle.std.proofs.lemmas.List.Elements.{filter-append}
use Rattle.std.proofs.lemmas.List.Sums.{position_or_len_is}
use Rattle.std.specs.List.{range_with_len}
use Rattle.closed_walks.specs.Graph.{Graph, edge_count, from, to}
use Rattle.f77_tree.specs.declared.programs.Exec.{Exec}
use Rattle.f77_tree.specs.declared.programs.NameInfo.{NameInfo}
use Rattle.f77_tree.specs.WellFormed.{AreExecs}
use Rattle.cfg_build.specs.Parts.{parts}
use Rattle.cfg_build.specs.Joined.{rows, finish, joined}
use Rattle.cfg_build.specs.Holds.{is_held}
use Rattle.cfg_build.specs.Flow.{flow, held, piece_at}
use Rattle.cfg_build.specs.Passes.{outs, out}
use Rattle.cfg_build.specs.Chains.{hold_of}
use Rattle.list_laws.specs.Member.{Member}
use Rattle.list_laws.proofs.Members.{Member-at, Member-filtered, Member-in_range}
use Rattle.cfg_build.proofs.OutEdges.{filter_none, filter_same, filter_row, range_split, first_out, IsOut, out_is}
use Rattle.cfg_build.proofs.ReachedNodes.{IsTold}
use Rattle.cfg_build.proofs.JoinedGraph.{row_graph, heads_at}
use Rattle.cfg_build.proofs.PieceKinds.{pieces_of}
use Rattle.cfg_build.proofs.ReachedPieces.{joined_sound}
use Rattle.cfg_build.proofs.HeldEdges.{edge_for, hold_edge, edges_apart}
use Rattle.cfg_build.proofs.AfterHolds.{stay_of, AfterHolds, after_all}

-- ---- numbers that pass a test, in a row, rise

abbrev Rise : ℕ → List ℕ → Type 0
Rise low [] = Unit {0}
Rise low (x ∷ xs) = (low ≤ x) × Rise (suc x) xs

rise_lower : (low more : ℕ) (xs : List ℕ) → low ≤ more → Rise more xs → Rise low xs
rise_lower low more [] less r = tt
rise_lower low more (x ∷ xs) less r = (omega (arith, less, r.0), r.1)

rise_filter : (test : ℕ → Bool) (a n : ℕ) → Rise a (filter test (range_with_len a n))
rise_filter test a zero = tt
rise_filter test a (suc n) =
    let rest : Rise (a + 1) (filter test (range_with_len (a + 1) n)) = rise_filter test (a + 1) n in
    ⊎_elim
    (λ (h : test a ≡ true).
    subst (λ xs. Rise a xs) (sym (cond-true (test a) (a ∷ filter test (range_with_len (a + 1) n)) (filter test (range_with_len (a + 1) n)) h))
    (omega arith, rise_lower (suc a) (a + 1) (filter test (range_with_len (a + 1) n)) (omega arith) rest))
    (λ (h : test a ≡ false).
    subst (λ xs. Rise a xs) (sym (cond-false (test a) (a ∷ filter test (range_with_len (a + 1) n)) (filter test (range_with_len (a + 1) n)) h))
    (rise_lower a (a + 1) (filter test (range_with_len (a + 1) n)) (omega arith) rest))
    (cases_Bool (test a))

rise_at : (low : ℕ) (xs : List ℕ) (i : ℕ) → Rise low xs → i < length xs → low ≤ get_or xs i 0
rise_at low [] i r some = absurd (omega (arith, some))
rise_at low (x ∷ xs) zero r some = r.0
rise_at low (x ∷ xs) (suc i) r some = let rest : suc x ≤ get_or xs i 0 = rise_at (suc x) xs i r.1 (omega (arith, some)) in omega (arith, rest, r.0)

rises : (low : ℕ) (xs : List ℕ) (i j : ℕ) → Rise low xs → i < j → j < length xs → get_or xs i 0 < get_or xs j 0
rises low [] i j r less some = absurd (omega (arith, some))
rises low (x ∷ xs) i zero r less some = absurd (omega (arith, less))
rises low (x ∷ xs) zero (suc j) r less some = rise_at (suc x) xs j r.1 (omega (arith, some))
rises low (x ∷ xs) (suc i) (suc j) r less some = rises (suc x) xs i j r.1 (omega (arith, less)) (omega (arith, some))

-- numbers that come in pairs, from m on
pub halves : (m n c : ℕ) → n < c + c → (k : ℕ) → k ≡ m + n → (q : ℕ) × (q < c) × ((k ≡ m + (q + q)) ⊎ (k ≡ m + (q + q) + 1))
halves m zero c less k is = (0, omega (arith, less), inl (omega (arith, is)))
halves m (suc zero) c less k is = (0, omega (arith, less), inr (omega (arith, is)))
halves m (suc (suc n)) zero less k is = absurd (omega (arith, less))
halves m (suc (suc n)) (suc c) less k is =
    let r = halves m n c (omega (arith, less)) (m + n) refl in
    (suc r.0, omega (arith, r.1), ⊎_elim (λ (h : m + n ≡ m + (r.0 + r.0)). inl (omega (arith, h, is))) (λ (h : m + n ≡ m + (r.0 + r.0) + 1). inr (omega (arith, h, is))) r.2)

module _ (told : IsTold) (names : List NameInfo) (execs : List Exec) (loops : ℕ) (well : AreExecs names execs loops) where
  abbrev g : Graph
  g = row_graph (parts execs) (finish execs)

  -- the piece that gets the hold with this number
  abbrev pub held_piece : ℕ → ℕ
  held_piece q = get_or (held execs) q 0

  -- the edge on which the hold with this number stands
  abbrev pub held_edge_at : ℕ → ℕ
  held_edge_at q = edge_for told names execs loops well (get_or (held execs) q 0)

  pub record IsHeldPiece (x : ℕ) : Type 0 where
    pub below : x < length (rows (parts execs))
    pub is : is_held (row_graph (parts execs) (finish execs)) (finish execs) x ≡ true

  pub held_is : (x : ℕ) → Member (held execs) x → IsHeldPiece x
  held_is x m = grind (arith, Member-filtered (is_held g (finish execs)) (range_with_len 0 g.nodes) x m, Member-in_range 0 g.nodes x)

  pub held_piece_is : (q : ℕ) → q < length (held execs) → IsHeldPiece (held_piece q)
  held_piece_is q some = held_is (held_piece q) (Member-at (held execs) q 0 some)

  -- held pieces stand in order
  pub held_rise : (q p : ℕ) → q < p → p < length (held execs) → held_piece q < held_piece p
  held_rise q p less some = rises 0 (held execs) q p (rise_filter (is_held g (finish execs)) 0 g.nodes) less some

  -- what holds made of the edges
  pub after : AfterHolds (row_graph (parts execs) (finish execs)) (finish execs) (edge_for told names execs loops well) (held execs) (length (held execs)) (flow execs).graph
  after =
      after_all g (finish execs) (edge_for told names execs loops well) (held execs)
      (λ q some. let h : IsHeldPiece (held_piece q) = held_piece_is q some in (hold_edge told names execs loops well (held_piece q) h.below h.is).exists)
      (λ q p less some.
      let a : IsHeldPiece (held_piece q) = held_piece_is q (omega (arith, less, some)) in
      let b : IsHeldPiece (held_piece p) = held_piece_is p some in
      edges_apart told names execs loops well (held_piece q) (held_piece p) a.below b.below a.is b.is (held_rise q p less some))
      (λ x. piece_at (pieces_of (parts execs)) x) (joined execs) refl

  -- the hold of a piece has the number of its place among the held
  pub hold_of_is : (q : ℕ) → q < length (held execs) → hold_of execs (held_piece q) ≡ length (rows (parts execs)) + q
  hold_of_is q some =
      ap (λ n. length (rows (parts execs)) + n)
      (position_or_len_is (λ x. x == held_piece q) (held execs) q 0 (omega (arith, some))
      (λ k less. let r : held_piece k < held_piece q = held_rise k q less some in ne_eqb (held_piece k) (held_piece q) (λ (s : held_piece k ≡ held_piece q). omega (arith, s, r)))
      (λ h. eq-eqb (held_piece q) (held_piece q) refl))

  -- ---- the edges that leave a piece

  abbrev f : Graph
  f = (flow execs).graph

  abbrev count : ℕ
  count = length (held execs)

  abbrev m : ℕ
  m = edge_count g

  cases_new : (k : ℕ) → m ≤ k → k < m + (count + count) → (q : ℕ) × (q < count) × ((k ≡ m + (q + q)) ⊎ (k ≡ m + (q + q) + 1))
  cases_new k new below = halves m (k - m) count (omega (arith, new, below)) k (omega (arith, new))

  -- an edge that holds brought leaves a hold
  new_from : (k : ℕ) → m ≤ k → k < edge_count f → length (rows (parts execs)) ≤ from f k
  new_from k new below =
      let r = cases_new k new (omega (arith, below, after.edges)) in
      ⊎_elim
      (λ (h : k ≡ m + (r.0 + r.0)). let is : from f k ≡ g.nodes + r.0 = ap (λ n. from f n) h ∙ after.from_stay r.0 r.1 in omega (arith, is))
      (λ (h : k ≡ m + (r.0 + r.0) + 1). let is : from f k ≡ g.nodes + r.0 = ap (λ n. from f n) h ∙ after.from_leave r.0 r.1 in omega (arith, is))
      r.2

  -- the same edges leave a piece as before holds
  pub outs_old : (x : ℕ) → x < length (rows (parts execs)) → outs (flow execs).graph x ≡ outs (row_graph (parts execs) (finish execs)) x
  outs_old x old =
      let split : range_with_len 0 (edge_count f) ≡ range_with_len 0 m ++ range_with_len m (count + count) =
      ap (λ n. range_with_len 0 n) after.edges ∙ range_split 0 m (count + count) ∙ ap (λ n. range_with_len 0 m ++ range_with_len n (count + count)) (zero-add m) in
      ap (λ xs. filter (λ e. from f e == x) xs) split
      ∙ filter-append (λ e. from f e == x) (range_with_len 0 m) (range_with_len m (count + count))
      ∙ ap (λ xs. filter (λ e. from f e == x) (range_with_len 0 m) ++ xs) (filter_none (λ e. from f e == x) (range_with_len m (count + count)) none_new)
      ∙ append-nil (filter (λ e. from f e == x) (range_with_len 0 m))
      ∙ filter_same (λ e. from f e == x) (λ e. from g e == x) (range_with_len 0 m) same_old
    where
      none_new : (k : ℕ) → Member (range_with_len m (count + count)) k → (from f k == x) ≡ false
      none_new k mem =
          let r : (m ≤ k) × (k < m + (count + count)) = Member-in_range m (count + count) k mem in
          let past : length (rows (parts execs)) ≤ from f k = new_from k r.0 (omega (arith, r.1, after.edges)) in
          ne_eqb (from f k) x (λ (s : from f k ≡ x). omega (arith, s, past, old))

      same_old : (k : ℕ) → Member (range_with_len 0 m) k → (from f k == x) ≡ (from g k == x)
      same_old k mem =
          let r : (0 ≤ k) × (k < 0 + m) = Member-in_range 0 m k mem in
          ap (λ n. n == x) (after.tails k (omega (arith, r.1)))

  -- two edges leave a hold
  pub outs_hold : (q : ℕ) → q < length (held execs) → outs (flow execs).graph (length (rows (parts execs)) + q) ≡ stay_of g (finish execs) (edge_for told names execs loops well) (held execs) q ∷ (stay_of g (finish execs) (edge_for told names execs loops well) (held execs) q + 1) ∷ []
  outs_hold q some =
      filter_row (λ e. from f e == g.nodes + q) (edge_count f) (m + (q + q)) 2 (omega (arith, some, after.edges)) only all
    where
      only_new : (k : ℕ) → m ≤ k → k < edge_count f → from f k ≡ g.nodes + q → (m + (q + q) ≤ k) × (k < m + (q + q) + 2)
      only_new k new below is =
          let r = cases_new k new (omega (arith, below, after.edges)) in
          ⊎_elim
          (λ (h : k ≡ m + (r.0 + r.0)).
          let at : from f k ≡ g.nodes + r.0 = ap (λ n. from f n) h ∙ after.from_stay r.0 r.1 in
          (omega (arith, at, is, h), omega (arith, at, is, h)))
          (λ (h : k ≡ m + (r.0 + r.0) + 1).
          let at : from f k ≡ g.nodes + r.0 = ap (λ n. from f n) h ∙ after.from_leave r.0 r.1 in
          (omega (arith, at, is, h), omega (arith, at, is, h)))
          r.2

      only : (k : ℕ) → k < edge_count f → (from f k == g.nodes + q) ≡ true → (m + (q + q) ≤ k) × (k < m + (q + q) + 2)
      only k below test =
          let is : from f k ≡ g.nodes + q = eqb-true (from f k) (g.nodes + q) test in
          ⊎_elim
          (λ (old : k < m).
          let less : from g k < g.nodes = (joined_sound told names execs loops well).begins k old in
          let same : from f k ≡ from g k = after.tails k old in
          absurd (omega (arith, less, same, is)))
          (λ (new : m ≤ k). only_new k new below is)
          (cases_lt k m)

      cases_two : (a k : ℕ) → a ≤ k → k < a + 2 → (a ≡ k) ⊎ (a + 1 ≡ k)
      cases_two a k low high = grind arith

      all : (k : ℕ) → m + (q + q) ≤ k → k < m + (q + q) + 2 → (from f k == g.nodes + q) ≡ true
      all k low high = ⊎_elim
          (λ (h : m + (q + q) ≡ k). eq-eqb (from f k) (g.nodes + q) (ap (λ n. from f n) (sym h) ∙ after.from_stay q some))
          (λ (h : m + (q + q) + 1 ≡ k). eq-eqb (from f k) (g.nodes + q) (ap (λ n. from f n) (sym h) ∙ after.from_leave q some))
          (cases_two (m + (q + q)) k low high)

  -- the first edge of a hold goes on to where the edge led on which it stands
  pub out_of_hold : (q : ℕ) → q < length (held execs) → to (flow execs).graph (out (flow execs).graph (length (rows (parts execs)) + q) 0) ≡ to (row_graph (parts execs) (finish execs)) (held_edge_at q)
  out_of_hold q some = ap (λ (xs : List ℕ). to f (get_or xs 0 0)) (outs_hold q some) ∙ after.to_stay q some

  -- the edge number i of a piece of the joined graph has there and here the same number
  pub out_old : (x i : ℕ) → x < length (rows (parts execs)) → x ≢ finish execs → i < length (heads_at (parts execs) x) → out (flow execs).graph x i ≡ first_out (parts execs) (finish execs) x + i
  out_old x i old other within = ap (λ xs. get_or xs i 0) (outs_old x old) ∙ (out_is (parts execs) (finish execs) x i old other within).is

  -- it leads to its head, where no hold stands on it
  pub free_leads : (x i : ℕ) → x < length (rows (parts execs)) → x ≢ finish execs → i < length (heads_at (parts execs) x) → ((q : ℕ) → q < length (held execs) → held_edge_at q ≢ first_out (parts execs) (finish execs) x + i) → to (flow execs).graph (out (flow execs).graph x i) ≡ get_or (heads_at (parts execs) x) i 0
  free_leads x i old other within none =
      let r : IsOut (parts execs) (finish execs) x i = out_is (parts execs) (finish execs) x i old other within in
      let k : ℕ = first_out (parts execs) (finish execs) x + i in
      let exists : k < m = subst (λ n. n < m) r.is r.exists in
      ap (λ n. to f n) (out_old x i old other within) ∙ after.free k exists none ∙ ap (λ n. to g n) (sym r.is) ∙ r.ends

  -- it leads to the hold that stands on it
  pub held_leads : (x i q : ℕ) → x < length (rows (parts execs)) → x ≢ finish execs → i < length (heads_at (parts execs) x) → q < length (held execs) → held_edge_at q ≡ first_out (parts execs) (finish execs) x + i → to (flow execs).graph (out (flow execs).graph x i) ≡ hold_of execs (held_piece q)
  held_leads x i q old other within some is =
      ap (λ n. to f n) (out_old x i old other within ∙ sym is) ∙ after.held q some ∙ sym (hold_of_is q some)
