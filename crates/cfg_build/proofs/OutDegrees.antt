-- How many edges leave each piece of the joined graph, by what stands at it.
use Rattle.std.proofs.Common.{◌≡◌, ◌≢◌, ℕ, ◌+◌, ◌<◌, Bool, true, false, ◌==◌, nat_lt, List, length, count_by, refl, sym, ap, ◌∙◌, ⊎_elim, zero-add, arith}
use Rattle.std.proofs.lemmas.Bool.{cases_Bool, cond-true, cond-false, and_left, eq-eqb, ne_eqb, false≢true}
use Rattle.std.proofs.lemmas.List.{length-map}
use Rattle.closed_walks.specs.Graph.{Graph}
use Rattle.f77_tree.specs.declared.programs.Exec.{Exec}
use Rattle.f77_tree.specs.declared.programs.NameInfo.{NameInfo}
use Rattle.f77_tree.specs.WellFormed.{AreExecs}
use Rattle.cfg_build.specs.declared.parts.Part.{Part}
use Rattle.cfg_build.specs.declared.parts.Target.TheVariants.{Start}
use Rattle.cfg_build.specs.declared.pieces.PieceKind.{PieceKind}
use Rattle.cfg_build.specs.declared.pieces.PieceKind.TheVariants as piece
use Rattle.cfg_build.specs.Control.{fan}
use Rattle.cfg_build.specs.Parts.{parts, start_part, end_part}
use Rattle.cfg_build.specs.Joined.{is_end, is_joined, ways_to, number, rows, finish}
use Rattle.cfg_build.specs.Flow.{piece_at}
use Rattle.cfg_build.specs.Degrees.{out_degree}
use Rattle.cfg_build.specs.Shape.{leaves_one}
use Rattle.list_laws.proofs.Members.{Member-at, IsAt, at_of}
use Rattle.cfg_build.proofs.PieceNumbers.{part_at, first_piece, own_piece, joins, IsPieceOf, piece_of}
use Rattle.cfg_build.proofs.PartsFound.{member_end}
use Rattle.cfg_build.proofs.JoinedGraph.{heads_in, heads_at, heads_of_join, heads_of_part, row_graph, number_of_one}
use Rattle.list_laws.proofs.Counts.{bit, bit_true, bit_false, count-cons}
use Rattle.cfg_build.proofs.FanCounts.{leaves_from, tails_of_fan}
use Rattle.cfg_build.proofs.InDegrees.{same_first, none_between}
use Rattle.cfg_build.proofs.PieceKinds.{IsExecKind, cases_kind, pieces_of, join_kind, part_kind}
use Rattle.cfg_build.proofs.ReachedPieces.{apart, end_piece, end_not_joined}
use Rattle.cfg_build.proofs.JoinedDegrees.{no_way_to_start, first_is_zero}
use Rattle.cfg_build.proofs.ReachedNodes.{IsTold}

pub out_degree_is : (ps : List Part) (finish y : ℕ) → out_degree (row_graph ps finish) y ≡ bit (finish == y) + length (heads_at ps y)
out_degree_is ps finish y =
    grind (arith, row_graph ps finish, bit (finish == y), count_by (leaves_from y) (fan 0 (heads_in ps)), leaves_from y, heads_in ps, count-cons (leaves_from y) (finish, 0) (fan 0 (heads_in ps)), count_by, heads_at ps y, leaves_from, zero-add y, tails_of_fan 0 y (heads_in ps))

-- what may stand between the start and the end, before holds
abbrev pub is_between : PieceKind → Bool
is_between piece.Act = true
is_between piece.Pass = true
is_between piece.Branch = true
is_between piece.Join = true
is_between _ = false

start_not_joined : (execs : List Exec) → is_joined (parts execs) start_part ≡ false
start_not_joined execs = and_left (nat_lt 1 (ways_to (parts execs) Start)) true (ap (λ n. nat_lt 1 n) (no_way_to_start execs))

-- The start, the end, or a piece between them: of such a kind, and left by one edge where it is of a kind with one.
pub data IsPiece (execs : List Exec) (x : ℕ) : Type 0 where
  Starts : x ≡ 0 → x ≢ finish execs → (piece_at (pieces_of (parts execs)) x).kind ≡ piece.Start → out_degree (row_graph (parts execs) (finish execs)) x ≡ 1 → IsPiece execs x
  Ends : x ≡ finish execs → x ≢ 0 → (piece_at (pieces_of (parts execs)) x).kind ≡ piece.End → out_degree (row_graph (parts execs) (finish execs)) x ≡ 1 → IsPiece execs x
  Between : x ≢ 0 → x ≢ finish execs → (kind : PieceKind) → (piece_at (pieces_of (parts execs)) x).kind ≡ kind → is_between kind ≡ true → (leaves_one kind ≡ true → out_degree (row_graph (parts execs) (finish execs)) x ≡ 1) → IsPiece execs x

module _ (told : IsTold) (names : List NameInfo) (execs : List Exec) (loops : ℕ) (well : AreExecs names execs loops) where
  abbrev ps : List Part
  ps = parts execs

  abbrev g : Graph
  g = row_graph (parts execs) (finish execs)

  -- where the end stands among the parts
  record IsEndAt (j : ℕ) : Type 0 where
    exists : j < length (parts execs)
    is : part_at (parts execs) j ≡ end_part execs
    first : first_piece (parts execs) j ≡ finish execs

  end_at : IsEndAt (at_of (parts execs) (end_part execs) (member_end execs)).place
  end_at =
      let r : IsAt ps (end_part execs) = at_of ps (end_part execs) (member_end execs) in
      record { exists = r.exists; is = r.is start_part; first = sym (number_of_one ps (finish execs) (apart told names execs loops well) r.place (end_part execs) r.exists (r.is start_part)) }

  abbrev last : ℕ
  last = (at_of (parts execs) (end_part execs) (member_end execs)).place

  first_is_end : (j : ℕ) → j < length (parts execs) → first_piece (parts execs) j ≡ finish execs → end_part execs ≡ part_at (parts execs) j
  first_is_end j some is =
      let same : j ≡ last = same_first ps j last some end_at.exists (is ∙ sym end_at.first) in
      sym (ap (λ n. part_at ps n) same ∙ end_at.is)

  pub own_is_end : (j : ℕ) → j < length (parts execs) → own_piece (parts execs) j ≡ finish execs → end_part execs ≡ part_at (parts execs) j
  own_is_end j some is = ⊎_elim
      (λ (h : is_joined ps (part_at ps j) ≡ true).
      let one : joins ps (part_at ps j) ≡ 1 = cond-true (is_joined ps (part_at ps j)) 1 0 h in
      let first : first_piece ps last ≡ finish execs = end_at.first in
      absurd (none_between ps last j end_at.exists some h (omega (arith, first, is, one))))
      (λ (h : is_joined ps (part_at ps j) ≡ false).
      let none : joins ps (part_at ps j) ≡ 0 = cond-false (is_joined ps (part_at ps j)) 1 0 h in
      first_is_end j some (omega (arith, is, none)))
      (cases_Bool (is_joined ps (part_at ps j)))

  own_is_start : (j : ℕ) → j < length (parts execs) → own_piece (parts execs) j ≡ 0 → part_at (parts execs) j ≡ start_part
  own_is_start j some is = first_is_zero told names execs loops well j some (omega (arith, is))

  out_other : (x n : ℕ) → x ≢ finish execs → length (heads_at (parts execs) x) ≡ n → out_degree (row_graph (parts execs) (finish execs)) x ≡ n
  out_other x n other heads = grind (arith, bit, heads_at ps, out_degree_is ps, bit_false, ne_eqb)

  out_part : (x j n : ℕ) → j < length (parts execs) → x ≡ own_piece (parts execs) j → x ≢ finish execs → length (part_at (parts execs) j).outs ≡ n → out_degree (row_graph (parts execs) (finish execs)) x ≡ n
  out_part x j n some is other outs =
      grind (arith, out_other x n other, heads_at ps, heads_of_part ps j some, length-map (part_at ps j).outs (number ps), part_at ps j)

  kind_of_own : (x j : ℕ) → j < length (parts execs) → x ≡ own_piece (parts execs) j → (piece_at (pieces_of (parts execs)) x).kind ≡ (part_at (parts execs) j).piece.kind
  kind_of_own x j some is = ap (λ y. (piece_at (pieces_of ps) y).kind) is ∙ part_kind ps j some

  kind_apart : (p : Part) → IsExecKind p → is_between p.piece.kind ≡ true
  kind_apart p k = grind arith

  between_of : (x j : ℕ) → j < length (parts execs) → x ≡ own_piece (parts execs) j → IsExecKind (part_at (parts execs) j) → IsPiece execs x
  between_of x j some own k =
      let p : Part = part_at ps j in
      let plain : is_between p.piece.kind ≡ true = kind_apart p k in
      let not_start : x ≢ 0 = λ (h : x ≡ 0). false≢true (sym (ap (λ (q : Part). is_between q.piece.kind) (own_is_start j some (sym own ∙ h))) ∙ plain) in
      let not_end : x ≢ finish execs = λ (h : x ≡ finish execs). false≢true (ap (λ (q : Part). is_between q.piece.kind) (own_is_end j some (sym own ∙ h)) ∙ plain) in
      Between not_start not_end p.piece.kind (kind_of_own x j some own) plain
      (⊎_elim
      (λ (h : (p.piece.kind ≡ piece.Act) × (length p.outs ≡ 1)). λ one. out_part x j 1 some own not_end h.1)
      (⊎_elim
      (λ (h : (p.piece.kind ≡ piece.Pass) × (length p.outs ≡ 1)). λ one. out_part x j 1 some own not_end h.1)
      (λ (h : p.piece.kind ≡ piece.Branch). λ one. absurd (false≢true (sym (ap leaves_one h) ∙ one))))
      k)

  own_class : (x j : ℕ) → j < length (parts execs) → x ≡ own_piece (parts execs) j → IsPiece execs x
  own_class x j some own =
      let p : Part = part_at ps j in
      ⊎_elim
      (λ (same : start_part ≡ p).
      let none : joins ps p ≡ 0 = ap (λ q. joins ps q) (sym same) ∙ cond-false (is_joined ps start_part) 1 0 (start_not_joined execs) in
      let at : number ps Start ≡ first_piece ps j = number_of_one ps (finish execs) (apart told names execs loops well) j start_part some (sym same) in
      let zero_at : number ps Start ≡ 0 = number_of_one ps (finish execs) (apart told names execs loops well) 0 start_part (omega arith) refl in
      let not_end : x ≢ finish execs = λ (h : x ≡ finish execs). true_kind (own_is_end j some (sym own ∙ h) ∙ sym same) in
      Starts (omega (arith, own, none, at, zero_at)) not_end
      (kind_of_own x j some own ∙ ap (λ (q : Part). q.piece.kind) (sym same))
      (out_part x j 1 some own not_end (ap (λ (q : Part). length q.outs) (sym same))))
      (⊎_elim
      (λ (k : IsExecKind p). between_of x j some own k)
      (λ (same : end_part execs ≡ p).
      let is : x ≡ finish execs = own ∙ end_piece told names execs loops well j some same in
      let e : out_degree g x ≡ bit (finish execs == x) + length (heads_at ps x) = out_degree_is ps (finish execs) x in
      let b : bit (finish execs == x) ≡ 1 = bit_true (finish execs == x) (eq-eqb (finish execs) x (sym is)) in
      let heads : length (heads_at ps x) ≡ 0 = ap (λ y. length (heads_at ps y)) own ∙ ap (λ (xs : List ℕ). length xs) (heads_of_part ps j some) ∙ length-map p.outs (number ps) ∙ ap (λ (q : Part). length q.outs) (sym same) in
      Ends is
      (λ (h : x ≡ 0). true_kind (same ∙ own_is_start j some (sym own ∙ h)))
      (kind_of_own x j some own ∙ ap (λ (q : Part). q.piece.kind) (sym same))
      (omega (arith, e, b, heads))))
      (cases_kind execs p (Member-at ps j start_part some))
    where
      true_kind : end_part execs ≡ start_part → ⊥
      true_kind h = false≢true (ap (λ (q : Part). is_end q.piece.kind) (sym h))

  join_class : (x j : ℕ) → j < length (parts execs) → is_joined (parts execs) (part_at (parts execs) j) ≡ true → x ≡ first_piece (parts execs) j → IsPiece execs x
  join_class x j some joined first =
      let p : Part = part_at ps j in
      let not_end : x ≢ finish execs = λ (h : x ≡ finish execs). false≢true (sym (end_not_joined ps (end_part execs) refl) ∙ ap (λ q. is_joined ps q) (first_is_end j some (sym first ∙ h)) ∙ joined) in
      let not_start : x ≢ 0 = λ (h : x ≡ 0). false≢true (sym (start_not_joined execs) ∙ ap (λ q. is_joined ps q) (sym (first_is_zero told names execs loops well j some (sym first ∙ h))) ∙ joined) in
      Between not_start not_end piece.Join (ap (λ y. (piece_at (pieces_of ps) y).kind) first ∙ join_kind ps j some joined) refl
      (λ one. out_other x 1 not_end (ap (λ y. length (heads_at ps y)) first ∙ ap (λ (xs : List ℕ). length xs) (heads_of_join ps j some joined)))

  pub class_of : (x : ℕ) → x < length (rows (parts execs)) → IsPiece execs x
  class_of x below =
      let r : IsPieceOf ps x = piece_of ps x below in
      ⊎_elim
      (λ (own : x ≡ own_piece ps r.part). own_class x r.part r.exists own)
      (λ (j : (is_joined ps (part_at ps r.part) ≡ true) × (x ≡ first_piece ps r.part)). join_class x r.part r.exists j.0 j.1)
      r.which
