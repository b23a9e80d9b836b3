-- From what an edge to a part enters to the part's own piece: its join, or a hold, or both in either order.
use Rattle.std.proofs.Common.{◌≡◌, ◌≢◌, ℕ, ◌+◌, ◌<◌, ◌≤◌, ◌⊎◌, true, false, List, [], ◌∷◌, length, get_or, count_by, refl, sym, ap, ◌∙◌, subst, inl, inr, ⊎_elim, arith}
use Rattle.std.proofs.lemmas.Bool.{cases_Bool, cond-true, cond-false}
use Rattle.closed_walks.specs.Graph.{from, to}
use Rattle.f77_tree.specs.declared.programs.Exec.{Exec}
use Rattle.f77_tree.specs.declared.programs.NameInfo.{NameInfo}
use Rattle.f77_tree.specs.WellFormed.{AreExecs}
use Rattle.cfg_build.specs.declared.parts.Part.{Part}
use Rattle.cfg_build.specs.declared.pieces.Piece.{Piece}
use Rattle.cfg_build.specs.declared.pieces.PieceKind.{PieceKind}
use Rattle.cfg_build.specs.declared.pieces.PieceKind.TheVariants as piece
use Rattle.cfg_build.specs.Parts.{parts, start_part, end_part}
use Rattle.cfg_build.specs.Joined.{rows, finish, is_joined, number}
use Rattle.cfg_build.specs.Holds.{is_held, is_join}
use Rattle.cfg_build.specs.Flow.{flow, held, piece_at}
use Rattle.cfg_build.specs.Passes.{out}
use Rattle.cfg_build.specs.Chains.{hold_of, is_after_hold}
use Rattle.cfg_build.specs.Routes.{leads_on, is_hold, holds_in, IsRoute}
use Rattle.list_laws.proofs.Counts.{bit, bit_true, bit_false, count-cons}
use Rattle.cfg_build.proofs.EndNumber.{end_is_last}
use Rattle.list_laws.specs.Member.{Member}
use Rattle.list_laws.proofs.Members.{Member-at}
use Rattle.cfg_build.proofs.ReachedNodes.{IsTold}
use Rattle.cfg_build.proofs.JoinedGraph.{row_graph, heads_at, heads_of_join}
use Rattle.cfg_build.proofs.Lowest.{IsMet}
use Rattle.cfg_build.proofs.PieceKinds.{IsExecKind, cases_kind, pieces_of, join_kind, part_kind}
use Rattle.cfg_build.proofs.PieceNumbers.{part_at, first_piece, own_piece, joins, number_is, own_below, first_below}
use Rattle.cfg_build.proofs.ReachedPieces.{apart}
use Rattle.cfg_build.proofs.OutEdges.{first_out}
use Rattle.cfg_build.proofs.HeldEdges.{edge_for, hold_comes_to_other}
use Rattle.cfg_build.proofs.FlowEdges.{held_piece, IsHeldPiece, held_piece_is, hold_of_is, out_of_hold, free_leads, held_leads, after}
use Rattle.cfg_build.proofs.Shaped.{has_holds}
use Rattle.cfg_build.proofs.EnteredParts.{entering, IsHeldAt, held_at, IsHeldEdge, cases_held, holder, after_then}
use Rattle.cfg_build.proofs.WaysEnter.{edge_begins, edge_ends}
use Rattle.std.proofs.lemmas.Grind.{elements}

not_join : (p : Part) (kind : PieceKind) → p.piece.kind ≡ kind → is_join kind ≡ false → is_join p.piece.kind ≡ false
not_join p kind is plain = ap is_join is ∙ plain

part_plain : (execs : List Exec) (p : Part) → Member (parts execs) p → is_join p.piece.kind ≡ false
part_plain execs p m = ⊎_elim
    (λ (h : start_part ≡ p). subst (λ (q : Part). is_join q.piece.kind ≡ false) h refl)
    (⊎_elim
    (λ (k : IsExecKind p). ⊎_elim
    (λ (h : (p.piece.kind ≡ piece.Act) × (length p.outs ≡ 1)). not_join p piece.Act h.0 refl)
    (⊎_elim
    (λ (h : (p.piece.kind ≡ piece.Pass) × (length p.outs ≡ 1)). not_join p piece.Pass h.0 refl)
    (λ (h : p.piece.kind ≡ piece.Branch). not_join p piece.Branch h refl))
    k)
    (λ (h : end_part execs ≡ p). subst (λ (q : Part). is_join q.piece.kind ≡ false) h refl))
    (cases_kind execs p m)

module _ (told : IsTold) (met : IsMet) (names : List NameInfo) (execs : List Exec) (loops : ℕ) (well : AreExecs names execs loops) where
  abbrev ps : List Part
  ps = parts execs

  abbrev n : ℕ
  n = length (rows (parts execs))

  pub own_plain : (j : ℕ) → j < length (parts execs) → is_join (piece_at (pieces_of (parts execs)) (own_piece (parts execs) j)).kind ≡ false
  own_plain j some = ap is_join (part_kind ps j some) ∙ part_plain execs (part_at ps j) (Member-at ps j start_part some)

  pub old_kind : (x : ℕ) → x < length (rows (parts execs)) → piece_at (flow execs).pieces x ≡ piece_at (pieces_of (parts execs)) x
  old_kind x old = (has_holds told met names execs loops well).old_piece x old

  pub hold_kind : (q : ℕ) → q < length (held execs) → (piece_at (flow execs).pieces (length (rows (parts execs)) + q)).kind ≡ piece.Hold
  hold_kind q some =
      grind (arith, row_graph (parts execs) (finish execs), edge_for told names execs loops well, after told names execs loops well, has_holds told met names execs loops well)

  -- a held piece of a part
  pub record IsHeldOf (j : ℕ) : Type 0 where
    pub one : ℕ
    pub below : one < length (rows (parts execs))
    pub is : is_held (row_graph (parts execs) (finish execs)) (finish execs) one ≡ true
    pub of : (one ≡ first_piece (parts execs) j) ⊎ (one ≡ own_piece (parts execs) j)

  pub record IsPrefix (j : ℕ) : Type 0 where
    pub prefix : List ℕ
    pub route : IsRoute (flow execs) (entering execs (first_piece (parts execs) j)) prefix (own_piece (parts execs) j)
    pub few : ((length prefix ≤ 1) × (holds_in (flow execs) prefix ≡ 0)) ⊎ ((length prefix ≤ 2) × (holds_in (flow execs) prefix ≡ 1) × IsHeldOf j)

  hold_alone : (q : ℕ) → q < length (held execs) → holds_in (flow execs) ((length (rows (parts execs)) + q) ∷ []) ≡ 1
  hold_alone q some =
      grind (arith, count_by, bit (is_hold (piece_at (flow execs).pieces (n + q)).kind), count-cons, bit, bit_true (is_hold (piece_at (flow execs).pieces (n + q)).kind), hold_kind q some)

  -- ---- a part with a join

  module _ (j : ℕ) (some : j < length (parts execs)) (joined_here : is_joined (parts execs) (part_at (parts execs) j) ≡ true) where
    abbrev x : ℕ
    x = first_piece (parts execs) j

    abbrev y : ℕ
    y = own_piece (parts execs) j

    heads : heads_at (parts execs) (first_piece (parts execs) j) ≡ own_piece (parts execs) j ∷ []
    heads =
        let one : joins ps (part_at ps j) ≡ 1 = cond-true (is_joined ps (part_at ps j)) 1 0 joined_here in
        let is : number ps (part_at ps j).own ≡ x = number_is ps j (apart told names execs loops well) some in
        let same : number ps (part_at ps j).own + 1 ≡ y = omega (arith, one, is) in
        heads_of_join ps j some joined_here ∙ ap (λ m. m ∷ []) same

    x_below : first_piece (parts execs) j < length (rows (parts execs))
    x_below = first_below ps j some

    not_end : first_piece (parts execs) j ≢ finish execs
    not_end is = grind (arith, elements, joins, part_at, cond-true, own_below, end_is_last)

    within : 0 < length (heads_at (parts execs) (first_piece (parts execs) j))
    within = let e : length (heads_at ps x) ≡ 1 = ap (λ (xs : List ℕ). length xs) heads in omega (arith, e)

    x_joins : is_join (piece_at (pieces_of (parts execs)) (first_piece (parts execs) j)).kind ≡ true
    x_joins = ap is_join (join_kind ps j some joined_here)

    entered : entering execs (first_piece (parts execs) j) ≡ first_piece (parts execs) j
    entered = search (after_then, x_joins, cond-false, arith)

    x_leads : leads_on (piece_at (flow execs).pieces (first_piece (parts execs) j)).kind ≡ true
    x_leads = ap (λ (p : Piece). leads_on p.kind) (old_kind x x_below) ∙ ap leads_on (join_kind ps j some joined_here)

    holds_with : (rest : List ℕ) → holds_in (flow execs) (first_piece (parts execs) j ∷ rest) ≡ holds_in (flow execs) rest
    holds_with rest = grind (arith, count_by, bit, count-cons, bit_false, old_kind, x_below, join_kind ps j some joined_here)

    x_alone : holds_in (flow execs) (first_piece (parts execs) j ∷ []) ≡ 0
    x_alone = holds_with []

    x_and_hold : (q : ℕ) → q < length (held execs) → holds_in (flow execs) (first_piece (parts execs) j ∷ (length (rows (parts execs)) + q) ∷ []) ≡ 1
    x_and_hold q more = holds_with ((n + q) ∷ []) ∙ hold_alone q more

    first_head : get_or (heads_at (parts execs) (first_piece (parts execs) j)) 0 0 ≡ own_piece (parts execs) j
    first_head = ap (λ (xs : List ℕ). get_or xs 0 0) heads

    held_prefix : IsHeldEdge told names execs loops well (first_out (parts execs) (finish execs) (first_piece (parts execs) j) + 0) → IsPrefix j
    held_prefix e =
        let k : ℕ = first_out ps (finish execs) x + 0 in
        let q : ℕ = e.place in
        let z : ℕ = held_piece told names execs loops well q in
        let h : IsHeldPiece told names execs loops well z = held_piece_is told names execs loops well q e.some in
        let to_hold : to (flow execs).graph (out (flow execs).graph x 0) ≡ n + q = held_leads told names execs loops well x 0 q x_below not_end within e.some e.is ∙ hold_of_is told names execs loops well q e.some in
        let on : to (flow execs).graph (out (flow execs).graph (n + q) 0) ≡ y =
        out_of_hold told names execs loops well q e.some ∙ ap (λ m. to (row_graph (parts execs) (finish execs)) m) e.is ∙ edge_ends told names execs loops well x 0 x_below not_end within ∙ first_head in
        record {
          prefix = x ∷ (n + q) ∷ [];
          route = (entered, x_leads, (to_hold, ap leads_on (hold_kind q e.some), on));
          few = inr (
            omega arith,
            x_and_hold q e.some,
            record {
              one = z;
              below = h.below;
              is = h.is;
              of = ⊎_elim
                  (λ (a : (is_join (piece_at (pieces_of ps) z).kind ≡ true) × (from (row_graph (parts execs) (finish execs)) k ≡ z)). inl (sym a.1 ∙ edge_begins told names execs loops well x 0 x_below not_end within))
                  (λ (a : (is_join (piece_at (pieces_of ps) z).kind ≡ false) × (to (row_graph (parts execs) (finish execs)) k ≡ z)). inr (sym a.1 ∙ edge_ends told names execs loops well x 0 x_below not_end within ∙ first_head))
                  (holder told names execs loops well k e);
            },
          );
        }

    pub joined_prefix : IsPrefix j
    joined_prefix = ⊎_elim
        (λ (e : IsHeldEdge told names execs loops well (first_out ps (finish execs) x + 0)). held_prefix e)
        (λ none. record {
          prefix = x ∷ [];
          route = (entered, x_leads, free_leads told names execs loops well x 0 x_below not_end within none ∙ first_head);
          few = inl (omega arith, x_alone);
        })
        (cases_held told names execs loops well (first_out ps (finish execs) x + 0))

  -- ---- a part without a join

  single_prefix : (j : ℕ) → j < length (parts execs) → is_joined (parts execs) (part_at (parts execs) j) ≡ false → IsPrefix j
  single_prefix j some single =
      let x : ℕ = first_piece ps j in
      let none : joins ps (part_at ps j) ≡ 0 = cond-false (is_joined ps (part_at ps j)) 1 0 single in
      let same : x ≡ own_piece ps j = omega (arith, none) in
      ⊎_elim
      (λ (after : is_after_hold execs x ≡ true).
      let h = after_then told names execs loops well x after in
      let a : IsHeldAt told names execs loops well x = held_at told names execs loops well x h.0 in
      let p : IsHeldPiece told names execs loops well x = subst (λ m. IsHeldPiece told names execs loops well m) a.is (held_piece_is told names execs loops well a.place a.some) in
      let enters : entering execs x ≡ n + a.place =
      cond-true (is_after_hold execs x) (hold_of execs x) x after ∙ ap (λ m. hold_of execs m) (sym a.is) ∙ hold_of_is told names execs loops well a.place a.some in
      let on : to (flow execs).graph (out (flow execs).graph (n + a.place) 0) ≡ own_piece ps j =
      out_of_hold told names execs loops well a.place a.some
      ∙ ap (λ m. to (row_graph (parts execs) (finish execs)) (edge_for told names execs loops well m)) a.is
      ∙ hold_comes_to_other told names execs loops well x p.below p.is h.1 ∙ same in
      record { prefix = (n + a.place) ∷ []; route = (enters, ap leads_on (hold_kind a.place a.some), on); few = inr (omega arith, hold_alone a.place a.some, record { one = x; below = p.below; is = p.is; of = inl refl }) })
      (λ (after : is_after_hold execs x ≡ false).
      record { prefix = []; route = cond-false (is_after_hold execs x) (hold_of execs x) x after ∙ same; few = inl (omega arith, refl) })
      (cases_Bool (is_after_hold execs x))

  pub prefix_of : (j : ℕ) → j < length (parts execs) → IsPrefix j
  prefix_of j some = search (joined_prefix, single_prefix, arith)
