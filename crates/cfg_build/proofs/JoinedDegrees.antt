-- One edge comes to each piece of the joined graph that is no join and not the end.
use Rattle.std.proofs.Common.{◌≡◌, ◌≢◌, ℕ, ◌+◌, ◌<◌, ◌≤◌, ◌⊎◌, true, false, ◌==◌, List, [], ◌∷◌, length, flat_map, refl, sym, ap, ◌∙◌, subst, inl, inr, ⊎_elim, arith}
use Rattle.std.proofs.lemmas.Bool.{cases_Bool, cases_eq, cond-true, cond-false, and_cases, ltb-false, eq-eqb, ne_eqb, false≢true}
use Rattle.closed_walks.specs.Graph.{Graph, edge_count, to}
use Rattle.f77_tree.specs.declared.programs.Exec.{Exec}
use Rattle.f77_tree.specs.declared.programs.ExecKind.{ExecKind}
use Rattle.f77_tree.specs.declared.programs.NameInfo.{NameInfo}
use Rattle.f77_tree.specs.WellFormed.{AreExecs}
use Rattle.cfg_build.specs.declared.parts.Part.{Part}
use Rattle.cfg_build.specs.declared.parts.Target.{Target}
use Rattle.cfg_build.specs.declared.parts.Target.TheVariants.{Start, First}
use Rattle.cfg_build.specs.declared.pieces.PieceKind.{PieceKind}
use Rattle.cfg_build.specs.declared.pieces.PieceKind.TheVariants as piece
use Rattle.cfg_build.specs.Parts.{parts, start_part, end_part}
use Rattle.cfg_build.specs.Joined.{is_same, is_end, is_joined, ways_to, rows, finish}
use Rattle.cfg_build.specs.Holds.{is_join}
use Rattle.cfg_build.specs.Flow.{piece_at}
use Rattle.cfg_build.specs.Degrees.{in_degree}
use Rattle.list_laws.specs.Member.{Member}
use Rattle.list_laws.proofs.Members.{Member-flat_mapped, Member-at}
use Rattle.cfg_build.proofs.PieceNumbers.{part_at, first_piece, own_piece, joins, IsPieceOf, piece_of}
use Rattle.cfg_build.proofs.PartsFound.{IsWay, ways_in, IsExecPart, cases_part}
use Rattle.cfg_build.proofs.JoinedGraph.{row_graph}
use Rattle.list_laws.proofs.Counts.{bit, bit_true, bit_false, count_zero, count_some}
use Rattle.cfg_build.proofs.FanCounts.{comes_to}
use Rattle.cfg_build.proofs.InDegrees.{same_first, in_degree_first, in_degree_joined}
use Rattle.cfg_build.proofs.PieceKinds.{IsExecKind, cases_kind, pieces_of, join_kind}
use Rattle.cfg_build.proofs.ReachedPieces.{apart, leads, end_piece, reached_piece}
use Rattle.cfg_build.proofs.ReachedNodes.{IsTold, Reaches, kept}
use Rattle.std.proofs.lemmas.Grind.{elements}

-- the edge by which a node is come to
pub record IsEntered (g : Graph) (v : ℕ) : Type 0 where
  pub edge : ℕ
  pub exists : edge < edge_count g
  pub ends : to g edge ≡ v

pub last_edge : (g : Graph) (u v : ℕ) → Reaches g u v → (u ≡ v) ⊎ IsEntered g v
last_edge g u v r = kept g (λ x. (u ≡ x) ⊎ IsEntered g x) (λ e edge here. inr (record { edge = e; exists = edge; ends = refl })) u v r (inl refl)

pub entered_once : (g : Graph) (v : ℕ) → IsEntered g v → 1 ≤ in_degree g v
unfolding to
entered_once g v e = count_some (comes_to v) g.edges e.edge (0, 0) e.exists (eq-eqb (to g e.edge) v e.ends)

-- ---- no way leads to the start

not_start_way : (execs : List Exec) (k : ℕ) (kind : ExecKind) (t : Target) → IsWay execs k kind t → is_same Start t ≡ false
not_start_way execs k kind t h = grind arith

not_start : (execs : List Exec) (p : Part) (t : Target) → Member (parts execs) p → Member p.outs t → is_same Start t ≡ false
not_start execs p t m out = ⊎_elim
    (λ (same : start_part ≡ p).
    let at : Member (First 0 ∷ []) t = subst (λ (x : Part). Member x.outs t) (sym same) out in
    ⊎_elim (λ (is : First 0 ≡ t). sym (ap (λ x. is_same Start x) is)) (λ none. absurd none) at)
    (⊎_elim
    (λ (r : IsExecPart execs p). not_start_way execs r.at r.exec.kind t (ways_in execs r.at r.exec.line r.exec.kind p t r.among out))
    (λ (same : end_part execs ≡ p). absurd (none_of same)))
    (cases_part execs p m)
  where
    none_of : end_part execs ≡ p → ⊥
    none_of same = subst (λ (x : Part). Member x.outs t) (sym same) out

pub no_way_to_start : (execs : List Exec) → ways_to (parts execs) Start ≡ 0
no_way_to_start execs = grind (arith, count_zero (is_same Start), flat_map, Member-flat_mapped, not_start execs)

-- ---- only the end is an end

is_end_of : (p : Part) → (kind : PieceKind) → p.piece.kind ≡ kind → is_end kind ≡ false → is_end p.piece.kind ≡ false
is_end_of p kind is not = ap is_end is ∙ not

pub end_or_not : (execs : List Exec) (p : Part) → Member (parts execs) p → (end_part execs ≡ p) ⊎ (is_end p.piece.kind ≡ false)
end_or_not execs p m = ⊎_elim
    (λ (same : start_part ≡ p). inr (subst (λ (x : Part). is_end x.piece.kind ≡ false) same refl))
    (⊎_elim
    (λ (k : IsExecKind p). inr (⊎_elim
    (λ (h : (p.piece.kind ≡ piece.Act) × (length p.outs ≡ 1)). is_end_of p piece.Act h.0 refl)
    (⊎_elim
    (λ (h : (p.piece.kind ≡ piece.Pass) × (length p.outs ≡ 1)). is_end_of p piece.Pass h.0 refl)
    (λ (h : p.piece.kind ≡ piece.Branch). is_end_of p piece.Branch h refl))
    k))
    (λ (same : end_part execs ≡ p). inl same))
    (cases_kind execs p m)

few_ways : (ps : List Part) (p : Part) → is_joined ps p ≡ false → is_end p.piece.kind ≡ false → ways_to ps p.own ≤ 1
few_ways ps p h not_end = grind (arith, elements, ltb-false, and_cases)

module _ (told : IsTold) (names : List NameInfo) (execs : List Exec) (loops : ℕ) (well : AreExecs names execs loops) where
  abbrev ps : List Part
  ps = parts execs

  abbrev g : Graph
  g = row_graph (parts execs) (finish execs)

  pub first_is_zero : (j : ℕ) → j < length (parts execs) → first_piece (parts execs) j ≡ 0 → part_at (parts execs) j ≡ start_part
  first_is_zero j some is = grind (arith, first_piece, same_first (parts execs) j 0 some, part_at (parts execs))

  one_to_single : (x j : ℕ) → x < length (rows (parts execs)) → x ≢ finish execs → j < length (parts execs) → x ≡ first_piece (parts execs) j → is_joined (parts execs) (part_at (parts execs) j) ≡ false → is_end (part_at (parts execs) j).piece.kind ≡ false → in_degree (row_graph (parts execs) (finish execs)) x ≡ 1
  one_to_single x j below other some is single not_end =
      let p : Part = part_at (parts execs) j in
      let e : in_degree g x ≡ bit (0 == x) + ways_to ps p.own = in_degree_first (parts execs) (finish execs) (apart told names execs loops well) (leads told names execs loops well) x j some is in
      ⊎_elim
      (λ (z : x ≡ 0).
      let b : bit (0 == x) ≡ 1 = bit_true (0 == x) (eq-eqb 0 x (sym z)) in
      let start : p ≡ start_part = first_is_zero j some (sym is ∙ z) in
      let w : ways_to ps p.own ≡ 0 = ap (λ (q : Part). ways_to ps q.own) start ∙ no_way_to_start execs in
      omega (arith, e, b, w))
      (λ (z : x ≡ 0 → ⊥).
      let b : bit (0 == x) ≡ 0 = bit_false (0 == x) (ne_eqb 0 x (λ (h : 0 ≡ x). z (sym h))) in
      let few : ways_to ps p.own ≤ 1 = few_ways ps p single not_end in
      ⊎_elim
      (λ (h : x ≡ finish execs). absurd (other h))
      (λ (r : Reaches g 0 x). ⊎_elim
      (λ (h : 0 ≡ x). absurd (z (sym h)))
      (λ (en : IsEntered g x). let some_in : 1 ≤ in_degree g x = entered_once g x en in omega (arith, e, b, few, some_in))
      (last_edge g 0 x r))
      (reached_piece told names execs loops well x below))
      (cases_eq x 0)

  -- one edge comes to each piece that is no join and not the end
  pub one_comes : (x : ℕ) → x < length (rows (parts execs)) → x ≢ finish execs → is_join (piece_at (pieces_of (parts execs)) x).kind ≡ false → in_degree (row_graph (parts execs) (finish execs)) x ≡ 1
  one_comes x below other not_join =
      let r : IsPieceOf (parts execs) x = piece_of (parts execs) x below in
      let p : Part = part_at (parts execs) r.part in
      let among : Member (parts execs) p = Member-at (parts execs) r.part start_part r.exists in
      ⊎_elim
      (λ (own : x ≡ own_piece (parts execs) r.part). ⊎_elim
      (λ (joined : is_joined (parts execs) p ≡ true).
      let one : joins (parts execs) p ≡ 1 = cond-true (is_joined (parts execs) p) 1 0 joined in
      in_degree_joined (parts execs) (finish execs) (apart told names execs loops well) (leads told names execs loops well) x r.part r.exists joined (omega (arith, own, one)))
      (λ (single : is_joined (parts execs) p ≡ false).
      let none : joins (parts execs) p ≡ 0 = cond-false (is_joined (parts execs) p) 1 0 single in
      ⊎_elim
      (λ (same : end_part execs ≡ p). absurd (other (own ∙ end_piece told names execs loops well r.part r.exists same)))
      (λ (not_end : is_end p.piece.kind ≡ false). one_to_single x r.part below other r.exists (omega (arith, own, none)) single not_end)
      (end_or_not execs p among))
      (cases_Bool (is_joined (parts execs) p)))
      (λ (j : (is_joined (parts execs) p ≡ true) × (x ≡ first_piece (parts execs) r.part)).
      absurd (false≢true (sym not_join ∙ ap (λ n. is_join (piece_at (pieces_of (parts execs)) n).kind) j.1 ∙ ap is_join (join_kind (parts execs) r.part r.exists j.0))))
      r.which
