-- Which load follows another one along a line, as code finds it.
use Rattle.std.proofs.Common.{◌≡◌, ◌≤◌, ℕ, zero, suc, ◌+◌, ◌==◌, Bool, true, false, cond, if◌then◌else◌, ◌∷◌, length, filter, Some, None, sym, ap, ◌∙◌, subst, arith}
use Rattle.std.specs.List.{range_with_len}
use Rattle.cfg_build.specs.Passes.{out}
use Rattle.dep_routing.specs.Routing.{next_at}
use Rattle.net_board.specs.Nodes.{graph_in}
use Rattle.op_board.specs.OperationNets.{OperationNet, is_last_at, needing_before, operation_count}
use Rattle.operation_tables.specs.OperationRows.{IsNextNeed, NextIs}
use Rattle.fork_board.specs.LoadGroups.{Site, Spot, is_last_there, load_at, load_in, number_at, piece_at, site, spot, spot_after}
use Rattle.fork_board.proofs.LoadSpots.{IsLoadIn, IsNumberAt, load_is, number_is, number_there}
use Rattle.read_forks.specs.LinkTables.{Follows}

-- ---- an operation that is a load

module _ (x : OperationNet) (line : ℕ) where
  -- ---- at a spot

  last_there : (s : Spot) (i : ℕ) (b : Bool) → IsNumberAt x line s i → is_last_at x (piece_at x s) i line ≡ b → is_last_there x line s ≡ b
  last_there s i b at is = ap (λ k. needing_before x (piece_at x s) (operation_count x (piece_at x s)) line == suc k) (sym at.before) ∙ is

  after_next : (s : Spot) (i n : ℕ) → IsNumberAt x line s i → IsNextNeed x (piece_at x s) i line n → load_in x (piece_at x s) (Some n) ≡ load_at x line (spot_after x line s)
  after_next s i n at next =
      let passed : needing_before x (piece_at x s) n line ≡ suc s.passed = next.after ∙ ap suc at.before in
      ap (load_in x (piece_at x s)) (sym (number_there x line s.edge n next.inside next.needs))
      ∙ ap (λ k. load_at x line (spot s.edge k)) passed
      ∙ ap (λ b. load_at x line (if b then spot (next_at x.net.routing line (out (graph_in x.net) (piece_at x s) 0)) 0 else spot s.edge (suc s.passed))) (sym (last_there s i false at next.more))

  few_filtered : (test : ℕ → Bool) (a n : ℕ) → length (filter test (range_with_len a n)) ≤ n
  few_filtered test a zero = omega arith
  few_filtered test a (suc n) = by (test a) (few_filtered test (a + 1) n)
    where
      by : (b : Bool) → length (filter test (range_with_len (a + 1) n)) ≤ n → length (cond b (a ∷ filter test (range_with_len (a + 1) n)) (filter test (range_with_len (a + 1) n))) ≤ suc n
      by true few = omega (arith, few)
      by false few = omega (arith, few)

  -- ---- wherever the line stands before the load

  by_spot : (P : (piece i : ℕ) → Type 0) (s : Spot) (piece i : ℕ) → load_at x line s ≡ Some (site piece i) → ((k : ℕ) → IsNumberAt x line s k → P (piece_at x s) k) → P piece i
  by_spot P s piece i at each =
      let r : IsLoadIn x (piece_at x s) (number_at x line s) (site piece i) = load_is x (piece_at x s) (number_at x line s) (site piece i) at in
      let here : piece_at x s ≡ piece = sym (ap (λ (a : Site). a.piece) r.is) in
      let number : r.number ≡ i = sym (ap (λ (a : Site). a.number) r.is) in
      subst (λ p. P p i) here (subst (λ k. P (piece_at x s) k) number (each r.number (number_is x line s r.number r.at)))

  pub follows_next : (piece i n : ℕ) → NextIs x piece i line (Some n) → Follows x line (site piece i) (load_in x piece (Some n))
  follows_next piece i n next s exists at =
      by_spot (λ p k. IsNextNeed x p k line n → load_in x p (Some n) ≡ load_at x line (spot_after x line s)) s piece i at (λ k there own. after_next s k n there own) next

  -- ---- where the line stands after the load

  pub spot_next : (s : Spot) (piece i n : ℕ) → load_at x line s ≡ Some (site piece i) → NextIs x piece i line (Some n) → spot s.edge (suc s.passed) ≡ spot_after x line s
  spot_next s piece i n at next =
      by_spot (λ p k. IsNextNeed x p k line n → spot s.edge (suc s.passed) ≡ spot_after x line s) s piece i at
      (λ k there own. ap (λ b. if b then spot (next_at x.net.routing line (out (graph_in x.net) (piece_at x s) 0)) 0 else spot s.edge (suc s.passed)) (sym (last_there s k false there own.more)))
      next

  -- the number of the next operation is as large
  pub passed_few : (s : Spot) (piece i n : ℕ) → load_at x line s ≡ Some (site piece i) → NextIs x piece i line (Some n) → suc s.passed ≤ n
  passed_few s piece i n at next =
      by_spot (λ p k. IsNextNeed x p k line n → suc s.passed ≤ n) s piece i at
      (λ k there own.
      let few = few_filtered (λ j. x.needs (piece_at x s) j line) 0 n in
      let after : needing_before x (piece_at x s) n line ≡ suc s.passed = own.after ∙ ap suc there.before in
      omega (arith, few, after))
      next

  pub spot_out : (s : Spot) (piece i : ℕ) → load_at x line s ≡ Some (site piece i) → NextIs x piece i line None → spot (next_at x.net.routing line (out (graph_in x.net) piece 0)) 0 ≡ spot_after x line s
  spot_out s piece i at last =
      by_spot (λ p k. is_last_at x p k line ≡ true → spot (next_at x.net.routing line (out (graph_in x.net) p 0)) 0 ≡ spot_after x line s) s piece i at
      (λ k there own. ap (λ b. if b then spot (next_at x.net.routing line (out (graph_in x.net) (piece_at x s) 0)) 0 else spot s.edge (suc s.passed)) (sym (last_there s k true there own)))
      last
