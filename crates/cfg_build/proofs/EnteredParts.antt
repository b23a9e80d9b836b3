-- Where ways to a part end after holds: at a hold before its first piece, else at that.
use Rattle.std.proofs.Common.{◌≡◌, ◌≢◌, ℕ, ◌<◌, ◌⊎◌, Bool, true, false, cond, ◌==◌, not, List, length, get_or, refl, sym, ap, ◌∙◌, subst, inl, inr, ⊎_elim}
use Rattle.std.proofs.lemmas.Bool.{cases_Bool, eqb-true, eq-eqb, false≢true, and_parts, and_from, not-true, not_from_false}
use Rattle.std.specs.List.{list_any}
use Rattle.closed_walks.specs.Graph.{Graph, edge_count, from, to}
use Rattle.f77_tree.specs.declared.programs.Exec.{Exec}
use Rattle.f77_tree.specs.declared.programs.NameInfo.{NameInfo}
use Rattle.f77_tree.specs.WellFormed.{AreExecs}
use Rattle.cfg_build.specs.Parts.{parts}
use Rattle.cfg_build.specs.Joined.{finish}
use Rattle.cfg_build.specs.Holds.{is_join}
use Rattle.cfg_build.specs.Flow.{held, piece_at}
use Rattle.cfg_build.specs.Chains.{hold_of, is_after_hold}
use Rattle.list_laws.specs.Member.{Member}
use Rattle.list_laws.proofs.Members.{IsAt, at_of, list_any_member, IsPassed, member_of_list_any, Member-at}
use Rattle.cfg_build.proofs.ReachedNodes.{IsTold, stay}
use Rattle.cfg_build.proofs.JoinedGraph.{row_graph}
use Rattle.cfg_build.proofs.JoinedDegrees.{one_comes}
use Rattle.cfg_build.proofs.PieceKinds.{pieces_of}
use Rattle.cfg_build.proofs.Lowest.{IsHeldBy, held_says}
use Rattle.cfg_build.proofs.ReachedPieces.{joined_sound}
use Rattle.cfg_build.proofs.HeldEdges.{edge_for, hold_edge, hold_leaves_join, hold_comes_to_other}
use Rattle.cfg_build.proofs.FlowEdges.{held_piece, held_edge_at, IsHeldPiece, held_is, held_piece_is}
use Rattle.cfg_build.proofs.Shaped.{one_to}

-- the hold before a piece, where there is one, else the piece
abbrev pub entering : List Exec → ℕ → ℕ
entering execs node = cond (is_after_hold execs node) (hold_of execs node) node

module _ (told : IsTold) (names : List NameInfo) (execs : List Exec) (loops : ℕ) (well : AreExecs names execs loops) where
  abbrev g : Graph
  g = row_graph (parts execs) (finish execs)

  abbrev joins : ℕ → Bool
  joins x = is_join (piece_at (pieces_of (parts execs)) x).kind

  -- a held piece has a place among them
  pub record IsHeldAt (x : ℕ) : Type 0 where
    pub place : ℕ
    pub some : place < length (held execs)
    pub is : held_piece told names execs loops well place ≡ x

  pub held_at : (x : ℕ) → Member (held execs) x → IsHeldAt x
  held_at x m = let r : IsAt (held execs) x = at_of (held execs) x m in record { place = r.place; some = r.exists; is = r.is 0 }

  -- a hold stands on the edge
  pub record IsHeldEdge (k : ℕ) : Type 0 where
    pub place : ℕ
    pub some : place < length (held execs)
    pub is : held_edge_at told names execs loops well place ≡ k

  pub cases_held : (k : ℕ) → IsHeldEdge k ⊎ ((q : ℕ) → q < length (held execs) → held_edge_at told names execs loops well q ≢ k)
  cases_held k = ⊎_elim
      (λ (h : list_any (λ x. edge_for told names execs loops well x == k) (held execs) ≡ true).
      let r : IsPassed (λ x. edge_for told names execs loops well x == k) (held execs) = member_of_list_any (λ x. edge_for told names execs loops well x == k) (held execs) h in
      let a : IsHeldAt r.one = held_at r.one r.among in
      inl (record { place = a.place; some = a.some; is = ap (λ x. edge_for told names execs loops well x) a.is ∙ eqb-true (edge_for told names execs loops well r.one) k r.passes }))
      (λ (h : list_any (λ x. edge_for told names execs loops well x == k) (held execs) ≡ false).
      inr (λ q some (is : held_edge_at told names execs loops well q ≡ k). false≢true
      (sym h ∙ list_any_member (λ x. edge_for told names execs loops well x == k) (held execs) (get_or (held execs) q 0) (Member-at (held execs) q 0 some) (eq-eqb (edge_for told names execs loops well (get_or (held execs) q 0)) k is))))
      (cases_Bool (list_any (λ x. edge_for told names execs loops well x == k) (held execs)))

  -- whose hold stands on an edge
  pub holder : (k : ℕ) (e : IsHeldEdge k) → ((joins (held_piece told names execs loops well e.place) ≡ true) × (from (row_graph (parts execs) (finish execs)) k ≡ held_piece told names execs loops well e.place)) ⊎ ((joins (held_piece told names execs loops well e.place) ≡ false) × (to (row_graph (parts execs) (finish execs)) k ≡ held_piece told names execs loops well e.place))
  holder k e =
      let z : ℕ = held_piece told names execs loops well e.place in
      let h : IsHeldPiece told names execs loops well z = held_piece_is told names execs loops well e.place e.some in
      ⊎_elim
      (λ (j : joins z ≡ true). inl (j, ap (λ n. from g n) (sym e.is) ∙ hold_leaves_join told names execs loops well z h.below h.is j))
      (λ (j : joins z ≡ false). inr (j, ap (λ n. to g n) (sym e.is) ∙ hold_comes_to_other told names execs loops well z h.below h.is j))
      (cases_Bool (joins z))

  pub after_then : (y : ℕ) → is_after_hold execs y ≡ true → Member (held execs) y × (joins y ≡ false)
  after_then y h =
      let both = and_parts (list_any (λ x. x == y) (held execs)) (not (joins y)) h in
      let r : IsPassed (λ x. x == y) (held execs) = member_of_list_any (λ x. x == y) (held execs) both.0 in
      (subst (λ x. Member (held execs) x) (eqb-true r.one y r.passes) r.among, not-true (joins y) both.1)

  pub after_from : (y : ℕ) → Member (held execs) y → joins y ≡ false → is_after_hold execs y ≡ true
  after_from y m j = and_from (list_any (λ x. x == y) (held execs)) (not (joins y)) (list_any_member (λ x. x == y) (held execs) y m (eq-eqb y y refl)) (not_from_false (joins y) j)

  -- the only edge to a held piece that is no join is that on which its hold stands
  pub own_edge : (y k : ℕ) → Member (held execs) y → joins y ≡ false → k < edge_count (row_graph (parts execs) (finish execs)) → to (row_graph (parts execs) (finish execs)) k ≡ y → edge_for told names execs loops well y ≡ k
  own_edge y k m j edge ends =
      let h : IsHeldPiece told names execs loops well y = held_is told names execs loops well y m in
      let says : IsHeldBy told g (joined_sound told names execs loops well) (finish execs) y = held_says told g (joined_sound told names execs loops well) (finish execs) y h.below h.is in
      one_to g y (edge_for told names execs loops well y) k
      (one_comes told names execs loops well y h.below (λ (is : y ≡ finish execs). says.stuck (stay g y (finish execs) is)) j)
      (hold_edge told names execs loops well y h.below h.is).exists edge (hold_comes_to_other told names execs loops well y h.below h.is j) ends
