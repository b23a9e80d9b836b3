-- The operation before which a line stands after a load is the load's successor.
use Rattle.std.proofs.Common.{◌≡◌, ◌<◌, ◌⊎◌, inl, inr, ⊎_elim, ℕ, zero, suc, ◌+◌, ◌-◌, ◌==◌, Bool, true, false, cond, if◌then◌else◌, ◌∷◌, length, filter, Some, None, slice_get, refl, sym, ap, ◌∙◌, subst, eqb-true, eq-eqb, arith}
use Rattle.std.specs.List.{range_with_len}
use Rattle.closed_walks.specs.Graph.{edge_count, to}
use Rattle.cfg_build.specs.declared.pieces.PieceKind.{PieceKind}
use Rattle.cfg_build.specs.declared.pieces.PieceKind.TheVariants as kind
use Rattle.cfg_build.specs.Passes.{out}
use Rattle.dep_routing.specs.Routing.{next_at}
use Rattle.net_board.specs.Nodes.{graph_in, is_acting, kind_in}
use Rattle.net_board.proofs.NodeLaws.{get_some}
use Rattle.op_board.specs.OperationFacts.{is_parting}
use Rattle.op_board.specs.OperationNets.{OperationNet, needing_before, operation_count}
use Rattle.op_board.specs.SoundOperationNets.{IsOperationNet}
use Rattle.op_board.proofs.NeededLines.{passing_some}
use Rattle.fork_board.specs.LoadGroups.{Site, Spot, is_last_there, load_at, number_at, piece_at, spot, spot_after}
use Rattle.fork_board.specs.Successors.{first_along, is_act, needing_from, site_in, successor, successor_by}
use Rattle.fork_board.proofs.ForksFooted.{get_none}
use Rattle.fork_board.proofs.GroupChains.{IsLoadThere, LineFacts, acting, load_there, not_parting}

-- behind a number of a range that passes a test stands the first of those after it that do
after_filtered : (test : ℕ → Bool) (a n d : ℕ) → d < n → test (a + d) ≡ true → slice_get (filter test (range_with_len a n)) (suc (length (filter test (range_with_len a d)))) ≡ slice_get (filter test (range_with_len (suc (a + d)) (n - suc d))) 0
after_filtered test a zero d below passes = absurd (omega (arith, below))
after_filtered test a (suc n) zero below passes =
    let e : a + 0 ≡ a = omega arith in
    let begin : a + 1 ≡ suc (a + 0) = omega arith in
    let count : n ≡ suc n - suc 0 = omega arith in
    ap (λ b. slice_get (cond b (a ∷ filter test (range_with_len (a + 1) n)) (filter test (range_with_len (a + 1) n))) 1) (subst (λ k. test k ≡ true) e passes)
    ∙ ap (λ k. slice_get (filter test (range_with_len k n)) 0) begin
    ∙ ap (λ k. slice_get (filter test (range_with_len (suc (a + 0)) k)) 0) count
after_filtered test a (suc n) (suc d) below passes =
    let e : a + 1 + d ≡ a + suc d = omega arith in
    let begin : suc (a + 1 + d) ≡ suc (a + suc d) = omega arith in
    let count : n - suc d ≡ suc n - suc (suc d) = omega arith in
    by (test a)
    ∙ after_filtered test (a + 1) n d (omega (arith, below)) (subst (λ k. test k ≡ true) (sym e) passes)
    ∙ ap (λ k. slice_get (filter test (range_with_len k (n - suc d))) 0) begin
    ∙ ap (λ k. slice_get (filter test (range_with_len (suc (a + suc d)) k)) 0) count
  where
    by : (b : Bool) → slice_get (cond b (a ∷ filter test (range_with_len (a + 1) n)) (filter test (range_with_len (a + 1) n))) (suc (length (cond b (a ∷ filter test (range_with_len (a + 1) d)) (filter test (range_with_len (a + 1) d)))))
        ≡ slice_get (filter test (range_with_len (a + 1) n)) (suc (length (filter test (range_with_len (a + 1) d))))
    by true = refl
    by false = refl

apart : (all passed : ℕ) → passed < all → (all ≡ suc passed) ⊎ (suc passed < all)
apart zero passed low = absurd (omega (arith, low))
apart (suc zero) zero low = inl refl
apart (suc (suc all)) zero low = inr (omega arith)
apart (suc all) (suc passed) low = ⊎_elim (λ e. inl (ap suc e)) (λ (l : suc passed < all). inr (omega (arith, l))) (apart all passed (omega (arith, low)))

longer : (all passed : ℕ) → passed < all → (all == suc passed) ≡ false → suc passed < all
longer all passed low not = ⊎_elim (λ (same : all ≡ suc passed). let e : true ≡ false = sym (eq-eqb all (suc passed) same) ∙ not in absurd cc) (λ (l : suc passed < all). l) (apart all passed low)

is_act_then : (k : PieceKind) → is_acting k ≡ true → is_parting k ≡ false → is_act k ≡ true
is_act_then kind.Act acts not = refl
is_act_then kind.Branch acts not = absurd cc
is_act_then kind.Hold acts not = absurd cc
is_act_then kind.Join acts not = absurd cc
is_act_then kind.End acts not = absurd cc
is_act_then kind.Start acts not = absurd cc
is_act_then kind.Pass acts not = absurd cc

module _ (x : OperationNet) (n : IsOperationNet x) (line : ℕ) (facts : LineFacts x n line) where
  -- the next operation of the piece
  next_there : (s : Spot) (load : Site) (r : IsLoadThere x n line facts s load) → slice_get (filter (λ j. x.needs (piece_at x s) j line) (range_with_len 0 (operation_count x (piece_at x s)))) (suc s.passed) ≡ slice_get (needing_from x line (piece_at x s) (suc r.number)) 0
  next_there s load r =
      let p : ℕ = piece_at x s in
      let e : 0 + r.number ≡ r.number = omega arith in
      ap (λ c. slice_get (filter (λ j. x.needs p j line) (range_with_len 0 (operation_count x p))) (suc c)) (sym r.at.before)
      ∙ after_filtered (λ j. x.needs p j line) 0 (operation_count x p) r.number r.at.below (subst (λ k. x.needs p k line ≡ true) (sym e) r.at.needs)
      ∙ ap (λ k. slice_get (filter (λ j. x.needs p j line) (range_with_len (suc k) (operation_count x p - suc r.number))) 0) e

  no_less : (k : ℕ) → k - 0 ≡ k
  no_less k = omega arith

  pub meets : (s : Spot) (load : Site) → s.edge < edge_count (graph_in x.net) → load_at x line s ≡ Some load → site_in (piece_at x (spot_after x line s)) (number_at x line (spot_after x line s)) ≡ successor x line load
  meets s load exists at = by (is_last_there x line s) refl ∙ ap (successor x line) (sym r.is)
    where
      r : IsLoadThere x n line facts s load
      r = load_there x n line facts s load at

      by : (b : Bool) → is_last_there x line s ≡ b
          → site_in (piece_at x (if b then spot (next_at x.net.routing line (out (graph_in x.net) (piece_at x s) 0)) 0 else spot s.edge (suc s.passed))) (number_at x line (if b then spot (next_at x.net.routing line (out (graph_in x.net) (piece_at x s) 0)) 0 else spot s.edge (suc s.passed)))
          ≡ successor_by x line (piece_at x s) (slice_get (needing_from x line (piece_at x s) (suc r.number)) 0)
      by true last =
          let all : needing_before x (piece_at x s) (operation_count x (piece_at x s)) line ≡ suc s.passed = eqb-true (needing_before x (piece_at x s) (operation_count x (piece_at x s)) line) (suc s.passed) last in
          let none : slice_get (needing_from x line (piece_at x s) (suc r.number)) 0 ≡ None =
          sym (next_there s load r) ∙ get_none (filter (λ j. x.needs (piece_at x s) j line) (range_with_len 0 (operation_count x (piece_at x s)))) (suc s.passed) (omega (arith, all)) in
          let act : is_act (kind_in x.net (piece_at x s)) ≡ true = is_act_then (kind_in x.net (piece_at x s)) (acting x n line facts s load r) (not_parting x n line facts s load exists r last) in
          let o : ℕ = out (graph_in x.net) (piece_at x s) 0 in
          let q : ℕ = to (graph_in x.net) (next_at x.net.routing line o) in
          ap (λ k. site_in q (slice_get (filter (λ j. x.needs q j line) (range_with_len 0 k)) 0)) (sym (no_less (operation_count x q)))
          ∙ sym (ap (λ b. if b then first_along x line o else None) act)
          ∙ sym (ap (successor_by x line (piece_at x s)) none)
      by false not_last =
          let before = r.at.before in
          let more = passing_some (λ j. x.needs (piece_at x s) j line) r.number (operation_count x (piece_at x s)) r.at.below r.at.needs in
          let some = get_some x.net (filter (λ j. x.needs (piece_at x s) j line) (range_with_len 0 (operation_count x (piece_at x s)))) (suc s.passed) (longer (needing_before x (piece_at x s) (operation_count x (piece_at x s)) line) s.passed (omega (arith, before, more)) not_last) in
          ap (site_in (piece_at x s)) some.1 ∙ sym (ap (successor_by x line (piece_at x s)) (sym (next_there s load r) ∙ some.1))
