-- Each pass takes an edge that leaves its piece.
use Rattle.std.proofs.Common.{◌≡◌, ◌≢◌, ℕ, ◌+◌, ◌-◌, ◌<◌, ◌≤◌, ◌⊎◌, ◌==◌, List, [], ◌∷◌, length, slice_get, sym, ap, ◌∙◌, subst, inl, inr, ⊎_elim, arith}
use Rattle.std.proofs.lemmas.Bool.{cases_lt, eqb-true, eq-eqb, false≢true}
use Rattle.std.proofs.lemmas.List.{length-map}
use Rattle.std.proofs.lemmas.List.FromFn.{length-range_with_len}
use Rattle.std.specs.List.{range_with_len}
use Rattle.closed_walks.specs.Graph.{Graph, edge_count, from}
use Rattle.f77_tree.specs.declared.programs.Exec.{Exec}
use Rattle.f77_tree.specs.declared.programs.NameInfo.{NameInfo}
use Rattle.f77_tree.specs.Execution.{Memory}
use Rattle.f77_tree.specs.WellFormed.{AreExecs}
use Rattle.cfg_build.specs.declared.parts.Part.{Part}
use Rattle.cfg_build.specs.declared.pieces.PieceKind.TheVariants as piece
use Rattle.cfg_build.specs.Parts.{parts, start_part, end_part}
use Rattle.cfg_build.specs.Joined.{rows, finish}
use Rattle.cfg_build.specs.Flow.{flow, held, piece_at}
use Rattle.cfg_build.specs.Passes.{outs, out, choice, kind_in}
use Rattle.list_laws.specs.Member.{Member}
use Rattle.list_laws.proofs.Members.{Member-at, Member-filter, Member-filtered, Member-range, Member-in_range}
use Rattle.cfg_build.proofs.ReachedNodes.{IsTold, IsEdge}
use Rattle.cfg_build.proofs.Lowest.{IsMet}
use Rattle.cfg_build.proofs.JoinedGraph.{row_graph, heads_at, heads_of_part}
use Rattle.cfg_build.proofs.PartsFound.{IsExecPart, cases_part}
use Rattle.cfg_build.proofs.PieceKinds.{pieces_of, piece_of_part, join_kind}
use Rattle.cfg_build.proofs.PieceNumbers.{part_at, own_piece, first_piece, piece_of}
use Rattle.cfg_build.proofs.ReachedPieces.{leaves_piece}
use Rattle.cfg_build.proofs.OutEdges.{first_out, outs_are}
use Rattle.cfg_build.proofs.HeldEdges.{edge_for}
use Rattle.cfg_build.proofs.AfterHolds.{AfterHolds}
use Rattle.cfg_build.proofs.FlowEdges.{after, outs_old, outs_hold}
use Rattle.cfg_build.proofs.PartRoutes.{old_kind, hold_kind}
use Rattle.cfg_build.proofs.BranchChoices.{IsBelow, IsBranch, is_branch, branch_of}

-- an edge among those that leave a node
pub out_leaves : (g : Graph) (x i : ℕ) → i < length (outs g x) → (out g x i < edge_count g) × (from g (out g x i) ≡ x)
out_leaves g x i some =
    grind (arith, Member-at (outs g x) i 0 some, Member-filtered, Member-in_range 0 (edge_count g) (out g x i), eqb-true (from g (out g x i)) x)

some_member : (xs : List ℕ) (x : ℕ) → Member xs x → 0 < length xs
some_member [] x m = absurd m
some_member (y ∷ xs) x m = omega arith

pub out_some : (g : Graph) (x e : ℕ) → e < edge_count g → from g e ≡ x → 0 < length (outs g x)
out_some g x e edge begins =
    some_member (outs g x) e (Member-filter (λ e. from g e == x) (range_with_len 0 (edge_count g)) e (Member-range 0 (edge_count g) e (omega arith) (omega (arith, edge))) (eq-eqb (from g e) x begins))

module _ (told : IsTold) (met : IsMet) (names : List NameInfo) (execs : List Exec) (loops : ℕ) (well : AreExecs names execs loops) where
  abbrev ps : List Part
  ps = parts execs

  abbrev g : Graph
  g = row_graph (parts execs) (finish execs)

  abbrev n : ℕ
  n = length (rows (parts execs))

  holds_made : AfterHolds (row_graph (parts execs) (finish execs)) (finish execs) (edge_for told names execs loops well) (held execs) (length (held execs)) (flow execs).graph
  holds_made = after told names execs loops well

  -- a node is one of before the holds, or a hold
  cases_node : (x : ℕ) → x < (flow execs).graph.nodes → (x < length (rows (parts execs))) ⊎ ((q : ℕ) × (q < length (held execs)) × (length (rows (parts execs)) + q ≡ x))
  cases_node x node = ⊎_elim
      (λ (l : x < n). inl l)
      (λ (l : n ≤ x). inr (x - n, omega (arith, l, node, holds_made.nodes), omega (arith, l)))
      (cases_lt x n)

  two_of_hold : (q : ℕ) → q < length (held execs) → 0 < length (outs (flow execs).graph (length (rows (parts execs)) + q))
  two_of_hold q some = grind (arith, outs_hold told names execs loops well q some)

  -- an edge leaves each piece but the end
  pub some_out : (x : ℕ) → x < (flow execs).graph.nodes → x ≢ finish execs → 0 < length (outs (flow execs).graph x)
  some_out x node other = ⊎_elim
      (λ (old : x < n). ⊎_elim
      (λ (is : x ≡ finish execs). absurd (other is))
      (λ (r : (y : ℕ) × IsEdge g x y).
      out_some (flow execs).graph x r.1.number (omega (arith, r.1.exists, holds_made.edges)) (holds_made.tails r.1.number r.1.exists ∙ r.1.begins))
      (leaves_piece told names execs loops well x old))
      (λ (h : (q : ℕ) × (q < length (held execs)) × (n + q ≡ x)). subst (λ y. 0 < length (outs (flow execs).graph y)) h.2 (two_of_hold h.0 h.1))
      (cases_node x node)

  chosen : (x : ℕ) (p : Part) → Member (parts execs) p → p.piece.kind ≡ piece.Branch → (length (outs (flow execs).graph x) ≡ length p.outs) → (m : Memory) → IsBelow (length (outs (flow execs).graph x)) (choice names m (kind_in (slice_get execs p.piece.exec)))
  chosen x p among branches count m = ⊎_elim
      (λ (h : start_part ≡ p). absurd (false≢true (ap (λ (q : Part). is_branch q.piece.kind) h ∙ ap is_branch branches)))
      (⊎_elim
      (λ (r : IsExecPart execs p).
      let b : IsBranch names r.at r.exec.kind p = branch_of names execs r.at r.exec.line r.exec.kind p r.among branches in
      let kind : kind_in (slice_get execs p.piece.exec) ≡ r.exec.kind = ap (λ k. kind_in (slice_get execs k)) b.exec_is ∙ ap kind_in r.found in
      subst (λ c. IsBelow c (choice names m (kind_in (slice_get execs p.piece.exec)))) (sym count)
      (subst (λ kind. IsBelow (length p.outs) (choice names m kind)) (sym kind) (b.chooses m)))
      (λ (h : end_part execs ≡ p). absurd (false≢true (ap (λ (q : Part). is_branch q.piece.kind) h ∙ ap is_branch branches))))
      (cases_part execs p among)

  old_chosen : (x : ℕ) → x < length (rows (parts execs)) → x ≢ finish execs → (piece_at (flow execs).pieces x).kind ≡ piece.Branch → (m : Memory) → IsBelow (length (outs (flow execs).graph x)) (choice names m (kind_in (slice_get execs (piece_at (flow execs).pieces x).exec)))
  old_chosen x old other branches m =
      grind (arith, piece_of ps x old, part_at ps, pieces_of ps, old_kind told met names execs loops well x old, own_piece ps, piece_of_part ps, heads_at ps x, heads_at ps, heads_of_part ps, length-map, outs_old told names execs loops well x old, outs_are ps (finish execs) x old other, length-range_with_len (first_out ps (finish execs) x) (length (heads_at ps x)), first_out ps (finish execs) x, chosen x, Member-at ps, first_piece ps, is_branch, join_kind ps)

  -- a branch takes one of its edges
  pub one_chosen : (x : ℕ) → x < (flow execs).graph.nodes → x ≢ finish execs → (piece_at (flow execs).pieces x).kind ≡ piece.Branch → (m : Memory) → IsBelow (length (outs (flow execs).graph x)) (choice names m (kind_in (slice_get execs (piece_at (flow execs).pieces x).exec)))
  one_chosen x node other branches m = ⊎_elim
      (λ (old : x < n). old_chosen x old other branches m)
      (λ (h : (q : ℕ) × (q < length (held execs)) × (n + q ≡ x)).
      absurd (false≢true (ap is_branch (sym (ap (λ y. (piece_at (flow execs).pieces y).kind) (sym h.2) ∙ hold_kind told met names execs loops well h.0 h.1) ∙ branches))))
      (cases_node x node)
