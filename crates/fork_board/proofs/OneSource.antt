-- No operation is the successor of two loads.
use Rattle.std.proofs.Common.{◌≡◌, ◌≢◌, ◌<◌, ℕ, suc, Bool, true, false, if◌then◌else◌, filter, Option, Some, None, slice_get, refl, sym, ap, ◌∙◌, subst, eqb-true, arith}
use Rattle.std.specs.List.{range_with_len}
use Rattle.closed_walks.specs.Graph.{edge_count, from, to}
use Rattle.cfg_build.specs.declared.pieces.PieceKind.{PieceKind}
use Rattle.cfg_build.specs.declared.pieces.PieceKind.TheVariants as kind
use Rattle.cfg_build.specs.Passes.{out}
use Rattle.cfg_build.specs.Shape.{leaves_one, takes_one}
use Rattle.dep_routing.specs.Next.{Next}
use Rattle.dep_routing.specs.Quiet.{IsFree}
use Rattle.dep_routing.specs.Routing.{next_at}
use Rattle.dep_routing.specs.Touches.{exec_kind}
use Rattle.net_board.specs.Nodes.{graph_in, is_acting, kind_in}
use Rattle.net_board.proofs.OneWayNodes.{IsOnOneWay, on_one_way, one_to}
use Rattle.op_board.specs.OperationNets.{OperationNet, needing_before, operation_count}
use Rattle.op_board.specs.SoundOperationNets.{IsOperationNet}
use Rattle.fork_board.specs.LoadGroups.{Site, Spot, is_last_there, load_at, load_in, number_at, piece_at, site, spot, spot_after}
use Rattle.fork_board.specs.Successors.{site_in, successor}
use Rattle.fork_board.proofs.ForksApart.{acting_with}
use Rattle.fork_board.proofs.GroupChains.{IsLoadThere, LineFacts, act_leaves_one, acting, load_there, not_parting}
use Rattle.fork_board.proofs.LoadSpots.{IsNumberAt, number_is}
use Rattle.fork_board.proofs.LoadSuccessors.{meets}

acting_takes_one : (k : PieceKind) → is_acting k ≡ true → takes_one k ≡ true
acting_takes_one kind.Act acts = refl
acting_takes_one kind.Branch acts = refl
acting_takes_one kind.Hold acts = refl
acting_takes_one kind.Join acts = absurd cc
acting_takes_one kind.End acts = absurd cc
acting_takes_one kind.Start acts = refl
acting_takes_one kind.Pass acts = refl

module _ (x : OperationNet) (n : IsOperationNet x) (line : ℕ) (facts : LineFacts x n line)
    (free : (node : ℕ) → x.net.touches node line ≡ true → IsFree (graph_in x.net) n.is_net.tree x.net.touches line node)
    (back : (e d f : ℕ) → IsFree (graph_in x.net) n.is_net.tree x.net.touches line (from (graph_in x.net) e) → IsFree (graph_in x.net) n.is_net.tree x.net.touches line (from (graph_in x.net) d) → Next (graph_in x.net) n.is_net.tree x.net.touches line e f → Next (graph_in x.net) n.is_net.tree x.net.touches line d f → e ≡ d) where
  -- the operation stands there
  record IsNext (u : Spot) (c : Site) : Type 0 where
    pub number : ℕ
    pub at : number_at x line u ≡ Some number
    pub is : c ≡ site (piece_at x u) number

  next_is : (u : Spot) (c : Site) → site_in (piece_at x u) (number_at x line u) ≡ Some c → IsNext u c
  next_is u c is = by (number_at x line u) refl is
    where
      by : (o : Option ℕ) → number_at x line u ≡ o → site_in (piece_at x u) o ≡ Some c → IsNext u c
      by None at is = let none : None ≡ Some c = is in absurd cc
      by (Some i) at is = let same : site (piece_at x u) i ≡ c = cc in record { number = i; at = at; is = sym same }

  next_piece : (u w : Spot) (c : Site) → IsNext u c → IsNext w c → piece_at x u ≡ piece_at x w
  next_piece u w c first second = sym (ap (λ (z : Site). z.piece) first.is) ∙ ap (λ (z : Site). z.piece) second.is

  next_passed : (u w : Spot) (c : Site) → IsNext u c → IsNext w c → u.passed ≡ w.passed
  next_passed u w c first second =
      let a : IsNumberAt x line u first.number = number_is x line u first.number first.at in
      let b : IsNumberAt x line w second.number = number_is x line w second.number second.at in
      let number : first.number ≡ second.number = sym (ap (λ (z : Site). z.number) first.is) ∙ ap (λ (z : Site). z.number) second.is in
      sym a.before ∙ ap (λ p. needing_before x p first.number line) (next_piece u w c first second) ∙ ap (λ i. needing_before x (piece_at x w) i line) number ∙ b.before

  same_some : {A : Type 0} (a b : A) → Some a ≡ Some b → a ≡ b
  same_some a b e = cc

  -- one operation stands at a place of a piece
  abbrev load_by : (piece passed : ℕ) → Option Site
  load_by piece passed = load_in x piece (slice_get (filter (λ i. x.needs piece i line) (range_with_len 0 (operation_count x piece))) passed)

  same_loads : (s t : Spot) (a b : Site) → load_at x line s ≡ Some a → load_at x line t ≡ Some b → piece_at x s ≡ piece_at x t → s.passed ≡ t.passed → a ≡ b
  same_loads s t a b first second piece passed = same_some a b (sym first ∙ ap (λ p. load_by p s.passed) piece ∙ ap (λ c. load_by (piece_at x t) c) passed ∙ second)

  -- ---- the edge that leaves an act

  module _ (s : Spot) (a : Site) (exists : s.edge < edge_count (graph_in x.net)) (at : load_at x line s ≡ Some a) where
    there : IsLoadThere x n line facts s a
    there = load_there x n line facts s a at

    below : piece_at x s < (graph_in x.net).nodes
    below = facts.graph.heads s.edge exists

    acts : is_acting (kind_in x.net (piece_at x s)) ≡ true
    acts = acting x n line facts s a there

    begins : is_last_there x line s ≡ true → from (graph_in x.net) (out (graph_in x.net) (piece_at x s) 0) ≡ piece_at x s
    begins last =
        let one : leaves_one (kind_in x.net (piece_at x s)) ≡ true = act_leaves_one (kind_in x.net (piece_at x s)) acts (not_parting x n line facts s a exists there last) in
        let later : 0 ≢ piece_at x s = λ same.
        let start = ap is_acting ((facts.graph.shape.start (piece_at x s) below).1 (sym same)) in
        let e : true ≡ false = sym acts ∙ start in
        absurd cc in
        let way : IsOnOneWay (graph_in x.net) (piece_at x s) = on_one_way (graph_in x.net) (piece_at x s) facts.flow below later (facts.graph.shape.one_comes (piece_at x s) below (acting_takes_one (kind_in x.net (piece_at x s)) acts)) (facts.graph.shape.one_leaves (piece_at x s) below one) in
        let leaves : from (graph_in x.net) way.b ≡ piece_at x s = way.passed.out_begins in
        let is : way.b ≡ out (graph_in x.net) (piece_at x s) 0 = facts.graph.one_out way.b way.passed.exit (subst (λ p. leaves_one (kind_in x.net p) ≡ true) (sym leaves) one) ∙ ap (λ p. out (graph_in x.net) p 0) leaves in
        ap (from (graph_in x.net)) (sym is) ∙ leaves

    is_free_there : is_last_there x line s ≡ true → IsFree (graph_in x.net) n.is_net.tree x.net.touches line (from (graph_in x.net) (out (graph_in x.net) (piece_at x s) 0))
    is_free_there last = subst (λ p. IsFree (graph_in x.net) n.is_net.tree x.net.touches line p) (sym (begins last)) (free (piece_at x s) (facts.operations.touched (piece_at x s) there.number line below there.at.below there.at.needs))

  -- ---- two loads

  module _ (s t : Spot) (a b c : Site) (s_exists : s.edge < edge_count (graph_in x.net)) (t_exists : t.edge < edge_count (graph_in x.net)) (first : load_at x line s ≡ Some a) (second : load_at x line t ≡ Some b) where
    both_last : is_last_there x line s ≡ true → is_last_there x line t ≡ true
        → IsNext (spot (next_at x.net.routing line (out (graph_in x.net) (piece_at x s) 0)) 0) c → IsNext (spot (next_at x.net.routing line (out (graph_in x.net) (piece_at x t) 0)) 0) c → a ≡ b
    both_last s_last t_last u w =
        let o : ℕ = out (graph_in x.net) (piece_at x s) 0 in
        let o' : ℕ = out (graph_in x.net) (piece_at x t) 0 in
        let f : ℕ = next_at x.net.routing line o in
        let h : ℕ = next_at x.net.routing line o' in
        let f_exists = facts.led o (facts.out_exists (piece_at x s)) in
        let h_exists = facts.led o' (facts.out_exists (piece_at x t)) in
        let num : IsNumberAt x line (spot f 0) u.number = number_is x line (spot f 0) u.number u.at in
        let q_below = facts.graph.heads f f_exists in
        let one = facts.graph.shape.one_comes (to (graph_in x.net) f) q_below (acting_takes_one (kind_in x.net (to (graph_in x.net) f)) (acting_with x.net.program.names (kind_in x.net (to (graph_in x.net) f)) (exec_kind x.net.program (to (graph_in x.net) f)) u.number num.below)) in
        let edges : f ≡ h = one_to (graph_in x.net) (to (graph_in x.net) f) f h one f_exists h_exists refl (sym (next_piece (spot f 0) (spot h 0) c u w)) in
        let outs : o ≡ o' = back o o' h (is_free_there s a s_exists first s_last) (is_free_there t b t_exists second t_last)
        (subst (λ e. Next (graph_in x.net) n.is_net.tree x.net.touches line o e) edges (facts.next o (facts.out_exists (piece_at x s)))) (facts.next o' (facts.out_exists (piece_at x t))) in
        let piece : piece_at x s ≡ piece_at x t = sym (begins s a s_exists first s_last) ∙ ap (from (graph_in x.net)) outs ∙ begins t b t_exists second t_last in
        let all : needing_before x (piece_at x s) (operation_count x (piece_at x s)) line ≡ suc s.passed = eqb-true (needing_before x (piece_at x s) (operation_count x (piece_at x s)) line) (suc s.passed) s_last in
        let all_too : needing_before x (piece_at x t) (operation_count x (piece_at x t)) line ≡ suc t.passed = eqb-true (needing_before x (piece_at x t) (operation_count x (piece_at x t)) line) (suc t.passed) t_last in
        let same : suc s.passed ≡ suc t.passed = sym all ∙ ap (λ p. needing_before x p (operation_count x p) line) piece ∙ all_too in
        same_loads s t a b first second piece (omega (arith, same))

    by_last : (k l : Bool) → is_last_there x line s ≡ k → is_last_there x line t ≡ l
        → IsNext (if k then spot (next_at x.net.routing line (out (graph_in x.net) (piece_at x s) 0)) 0 else spot s.edge (suc s.passed)) c
        → IsNext (if l then spot (next_at x.net.routing line (out (graph_in x.net) (piece_at x t) 0)) 0 else spot t.edge (suc t.passed)) c → a ≡ b
    by_last true true s_last t_last u w = both_last s_last t_last u w
    by_last true false s_last t_more u w = let passed = next_passed (spot (next_at x.net.routing line (out (graph_in x.net) (piece_at x s) 0)) 0) (spot t.edge (suc t.passed)) c u w in absurd (omega (arith, passed))
    by_last false true s_more t_last u w = let passed = next_passed (spot s.edge (suc s.passed)) (spot (next_at x.net.routing line (out (graph_in x.net) (piece_at x t) 0)) 0) c u w in absurd (omega (arith, passed))
    by_last false false s_more t_more u w =
        let passed = next_passed (spot s.edge (suc s.passed)) (spot t.edge (suc t.passed)) c u w in
        same_loads s t a b first second (next_piece (spot s.edge (suc s.passed)) (spot t.edge (suc t.passed)) c u w) (omega (arith, passed))

    pub one_source : successor x line a ≡ Some c → successor x line b ≡ Some c → a ≡ b
    one_source s_next t_next =
        by_last (is_last_there x line s) (is_last_there x line t) refl refl
        (next_is (spot_after x line s) c (meets x n line facts s a s_exists first ∙ s_next))
        (next_is (spot_after x line t) c (meets x n line facts t b t_exists second ∙ t_next))
