-- How many edges leave each piece of the flow graph, and where the second edge of a hold leads.
use Rattle.std.proofs.Common.{◌≡◌, ◌≢◌, ℕ, suc, ◌+◌, ◌-◌, ◌<◌, ◌≤◌, Bool, true, false, List, [], ◌∷◌, length, get_or, count_by, refl, sym, ap, ◌∙◌, subst, ⊎_elim, arith}
use Rattle.std.specs.Prelude.{slice_get}
use Rattle.std.specs.List.{range_with_len}
use Rattle.std.proofs.lemmas.Bool.{cases_lt, false≢true}
use Rattle.std.proofs.lemmas.List.{length-map}
use Rattle.std.proofs.lemmas.List.FromFn.{length-range_with_len}
use Rattle.std.proofs.lemmas.List.Sums.{length-filter}
use Rattle.list_laws.specs.Member.{Member}
use Rattle.list_laws.proofs.Counts.{bit, count-cons}
use Rattle.list_laws.proofs.Members.{Member-at}
use Rattle.closed_walks.specs.Graph.{Graph, from, to}
use Rattle.f77_tree.specs.declared.programs.Exec.{Exec}
use Rattle.f77_tree.specs.declared.programs.ExecKind.{ExecKind}
use Rattle.f77_tree.specs.declared.programs.NameInfo.{NameInfo}
use Rattle.f77_tree.specs.Control.{successors}
use Rattle.f77_tree.specs.WellFormed.{AreExecs}
use Rattle.cfg_build.specs.declared.parts.Part.{Part}
use Rattle.cfg_build.specs.declared.pieces.PieceKind.{PieceKind}
use Rattle.cfg_build.specs.declared.pieces.PieceKind.TheVariants as piece
use Rattle.cfg_build.specs.Degrees.{out_degree}
use Rattle.cfg_build.specs.Flow.{flow, held}
use Rattle.cfg_build.specs.Joined.{rows, finish}
use Rattle.cfg_build.specs.Parts.{parts, parts_of, start_part, end_part}
use Rattle.cfg_build.specs.Passes.{outs, out, kind_in}
use Rattle.cfg_build.specs.Shape.{kind_at, leaves_one, IsShaped}
use Rattle.cfg_build.specs.WaysOut.{ways_out}
use Rattle.cfg_build.specs.Zones.{exec_at}
use Rattle.cfg_build.proofs.AfterHolds.{AfterHolds}
use Rattle.cfg_build.proofs.BranchChoices.{is_branch}
use Rattle.cfg_build.proofs.EndNumber.{end_is_last}
use Rattle.cfg_build.proofs.FanCounts.{leaves_from}
use Rattle.cfg_build.proofs.FlowEdges.{after, outs_old, outs_hold}
use Rattle.cfg_build.proofs.HeldEdges.{edge_for}
use Rattle.cfg_build.proofs.JoinedGraph.{row_graph, heads_at, heads_of_part}
use Rattle.cfg_build.proofs.Lowest.{IsMet}
use Rattle.cfg_build.proofs.OutEdges.{first_out, outs_are}
use Rattle.cfg_build.proofs.PartRoutes.{old_kind}
use Rattle.cfg_build.proofs.PartsFound.{IsExecPart, cases_part}
use Rattle.cfg_build.proofs.PieceKinds.{pieces_of, piece_of_part, join_kind}
use Rattle.cfg_build.proofs.PieceNumbers.{part_at, own_piece, first_piece, piece_of}
use Rattle.cfg_build.proofs.ReachedNodes.{IsTold}
use Rattle.cfg_build.proofs.Shaped.{shaped}

-- ---- as many edges leave a node as its degree says

-- numbers in a row pass a test as the elements of a list do
count_row : {X : Type 0} (p : X → Bool) (d : X) (test : ℕ → Bool) (xs : List X) (a : ℕ) → ((i : ℕ) → i < length xs → test (a + i) ≡ p (get_or xs i d)) → count_by test (range_with_len a (length xs)) ≡ count_by p xs
count_row p d test [] a same = refl
count_row p d test (x ∷ xs) a same =
    let at : a ≡ a + 0 = omega arith in
    let next : (i : ℕ) → a + 1 + i ≡ a + suc i = λ i. omega arith in
    let first : test a ≡ p x = ap test at ∙ same 0 (omega arith) in
    let rest : count_by test (range_with_len (a + 1) (length xs)) ≡ count_by p xs = count_row p d test xs (a + 1) (λ i less. ap test (next i) ∙ same (suc i) (omega (arith, less))) in
    count-cons test a (range_with_len (a + 1) (length xs)) ∙ ap (λ b. bit b + count_by test (range_with_len (a + 1) (length xs))) first ∙ ap (λ n. bit (p x) + n) rest ∙ sym (count-cons p x xs)

pub outs_count : (g : Graph) (node : ℕ) → length (outs g node) ≡ out_degree g node
unfolding from
outs_count g node = grind (arith, length-filter, count_row (leaves_from node) (0, 0), leaves_from node)

-- ---- a part that branches has a way for each successor

record IsBranching (k : ℕ) (kind : ExecKind) (p : Part) : Type 0 where
  exec_is : p.piece.exec ≡ k
  outs : length p.outs ≡ length (successors kind)

as_branching : (k : ℕ) (kind : ExecKind) (p q : Part) → q ≡ p → IsBranching k kind q → IsBranching k kind p
as_branching k kind p q same b = subst (λ (x : Part). IsBranching k kind x) same b

goes_one_way : (k : ℕ) (kind : ExecKind) (p q : Part) → q ≡ p → is_branch q.piece.kind ≡ false → p.piece.kind ≡ piece.Branch → IsBranching k kind p
goes_one_way k kind p q same not branches = absurd (false≢true (sym not ∙ ap (λ (x : Part). is_branch x.piece.kind) same ∙ ap is_branch branches))

branching : (execs : List Exec) (k line : ℕ) (kind : ExecKind) (p : Part) → Member (parts_of execs k line kind) p → p.piece.kind ≡ piece.Branch → IsBranching k kind p
branching execs k line h p none h2 = grind (arith, goes_one_way, as_branching, length-map)

-- a part that branches is one of an executable
branching_part : (execs : List Exec) (p : Part) → Member (parts execs) p → p.piece.kind ≡ piece.Branch → length p.outs ≡ length (successors (kind_in (slice_get execs p.piece.exec)))
branching_part execs p among branches = ⊎_elim
    (λ (h : start_part ≡ p). absurd (false≢true (ap (λ (q : Part). is_branch q.piece.kind) h ∙ ap is_branch branches)))
    (⊎_elim
    (λ (r : IsExecPart execs p).
    let b : IsBranching r.at r.exec.kind p = branching execs r.at r.exec.line r.exec.kind p r.among branches in
    let kind : kind_in (slice_get execs p.piece.exec) ≡ r.exec.kind = ap (λ k. kind_in (slice_get execs k)) b.exec_is ∙ ap kind_in r.found in
    b.outs ∙ ap (λ (x : ExecKind). length (successors x)) (sym kind))
    (λ (h : end_part execs ≡ p). absurd (false≢true (ap (λ (q : Part). is_branch q.piece.kind) h ∙ ap is_branch branches))))
    (cases_part execs p among)

module _ (told : IsTold) (met : IsMet) (names : List NameInfo) (execs : List Exec) (loops : ℕ) (well : AreExecs names execs loops) where
  abbrev ps : List Part
  ps = parts execs

  abbrev n : ℕ
  n = length (rows (parts execs))

  shape : IsShaped (flow execs) (finish execs)
  shape = shaped told met names execs loops well

  last : length (rows (parts execs)) ≡ finish execs + 1
  last = end_is_last execs well.end

  holds_made : AfterHolds (row_graph (parts execs) (finish execs)) (finish execs) (edge_for told names execs loops well) (held execs) (length (held execs)) (flow execs).graph
  holds_made = after told names execs loops well

  -- ---- holds

  pub hold_leads_to_end : (node : ℕ) → node < (flow execs).graph.nodes → kind_at (flow execs) node ≡ piece.Hold → to (flow execs).graph (out (flow execs).graph node 1) ≡ finish execs
  hold_leads_to_end node below is =
      let past : finish execs < node = (shape.holds node below).0 is in
      let q : ℕ = node - n in
      let some : q < length (held execs) = omega (arith, below, past, last, holds_made.nodes) in
      let here : node ≡ n + q = omega (arith, past, last) in
      ap (λ x. to (flow execs).graph (out (flow execs).graph x 1)) here
      ∙ ap (λ (xs : List ℕ). to (flow execs).graph (get_or xs 1 0)) (outs_hold told names execs loops well q some) ∙ holds_made.to_leave q some

  -- ---- branches

  branch_old : (node : ℕ) → node < length (rows (parts execs)) → node ≢ finish execs → kind_at (flow execs) node ≡ piece.Branch → length (outs (flow execs).graph node) ≡ length (successors (kind_in (slice_get execs (exec_at (flow execs) node))))
  branch_old node old other branches =
      grind (arith, piece_of ps node old, part_at ps, pieces_of ps, old_kind told met names execs loops well node old, own_piece ps, piece_of_part ps, heads_at ps node, heads_at ps, heads_of_part ps, length-map, branching_part execs, Member-at ps, outs_old told names execs loops well node old, outs_are ps (finish execs) node old other, length-range_with_len (first_out ps (finish execs) node) (length (heads_at ps node)), first_out ps (finish execs) node, first_piece ps, is_branch, join_kind ps)

  branch_count : (node : ℕ) → node < (flow execs).graph.nodes → kind_at (flow execs) node ≡ piece.Branch → length (outs (flow execs).graph node) ≡ length (successors (kind_in (slice_get execs (exec_at (flow execs) node))))
  branch_count node below branches = ⊎_elim
      (λ (old : node < n).
      branch_old node old (λ (is : node ≡ finish execs). let no : piece.Branch ≡ piece.End = sym branches ∙ (shape.end node below).1 is in cc) branches)
      (λ (new : n ≤ node). let no : piece.Branch ≡ piece.Hold = sym branches ∙ (shape.holds node below).1 (omega (arith, new, last)) in absurd cc)
      (cases_lt node n)

  -- ---- all pieces

  one_out : (node : ℕ) → node < (flow execs).graph.nodes → (kind : PieceKind) → kind_at (flow execs) node ≡ kind → leaves_one kind ≡ true → length (outs (flow execs).graph node) ≡ 1
  one_out node below kind is one = outs_count (flow execs).graph node ∙ shape.one_leaves node below (ap leaves_one is ∙ one)

  by_kind : (node : ℕ) → node < (flow execs).graph.nodes → (kind : PieceKind) → kind_at (flow execs) node ≡ kind → length (outs (flow execs).graph node) ≡ ways_out kind (kind_in (slice_get execs (exec_at (flow execs) node)))
  by_kind node below piece.Start is = one_out node below piece.Start is refl
  by_kind node below piece.Act is = one_out node below piece.Act is refl
  by_kind node below piece.Pass is = one_out node below piece.Pass is refl
  by_kind node below piece.Branch is = branch_count node below is
  by_kind node below piece.Join is = one_out node below piece.Join is refl
  by_kind node below piece.Hold is = outs_count (flow execs).graph node ∙ shape.two_leave node below is
  by_kind node below piece.End is = one_out node below piece.End is refl

  pub ways_counted : (node : ℕ) → node < (flow execs).graph.nodes → length (outs (flow execs).graph node) ≡ ways_out (kind_at (flow execs) node) (kind_in (slice_get execs (exec_at (flow execs) node)))
  ways_counted node below = by_kind node below (kind_at (flow execs) node) refl
