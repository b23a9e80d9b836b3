-- The start reaches each piece but perhaps the end, and an edge leaves each piece but the end.
use Rattle.std.proofs.Common.{◌≡◌, ℕ, ◌<◌, ◌⊎◌, true, false, cond, nat_lt, List, [], ◌∷◌, ◌++◌, length, map, slice_get, Some, refl, sym, ap, ◌∙◌, subst, inl, inr, ⊎_elim, arith}
use Rattle.std.proofs.lemmas.Bool.{cond-false, and_right, false≢true}
use Rattle.closed_walks.specs.Graph.{Graph, IsGraph, from, to}
use Rattle.f77_tree.specs.declared.programs.Exec.{Exec}
use Rattle.f77_tree.specs.declared.programs.ExecKind.{ExecKind}
use Rattle.f77_tree.specs.declared.programs.ExecKind.TheVariants.{Assign, Print, Pass, Test as Testing, Sign, Pick, DoStart, DoNext, End}
use Rattle.f77_tree.specs.declared.programs.NameInfo.{NameInfo}
use Rattle.f77_tree.specs.Control.{successors, successors_in, LeadsTo}
use Rattle.f77_tree.specs.Loops.{Loop, incremented, incremented_in, do_start}
use Rattle.f77_tree.specs.WellFormed.{AreExecs}
use Rattle.cfg_build.specs.declared.parts.Part.{Part}
use Rattle.cfg_build.specs.declared.parts.Target.{Target}
use Rattle.cfg_build.specs.declared.parts.Target.TheVariants.{Start, First, Test}
use Rattle.cfg_build.specs.declared.pieces.PieceKind.TheVariants as piece
use Rattle.cfg_build.specs.Control.{control, is_reached}
use Rattle.cfg_build.specs.Parts.{part, parts, parts_of, start_part, end_part, last_of}
use Rattle.cfg_build.specs.Joined.{is_end, is_joined, ways_to, number, rows, finish}
use Rattle.list_laws.specs.Member.{Member}
use Rattle.list_laws.proofs.Members.{Member-right, Member-map, Member-from_Contains, Member-at}
use Rattle.cfg_build.proofs.PartOrder.{AreApart, parts_apart}
use Rattle.cfg_build.proofs.PartsFound.{HasPart, IsExecPart, member_part, member_start, member_end, cases_part, test_part, way_leads, increment_has}
use Rattle.cfg_build.proofs.PieceNumbers.{part_at, first_piece, own_piece, joins, IsPieceOf, piece_of}
use Rattle.cfg_build.proofs.JoinedGraph.{row_graph, step, to_own, way_edge, join_edge, number_of_one, number_below, row_graph_sound}
use Rattle.cfg_build.proofs.ReachedNodes.{IsTold, Reaches, IsEdge, stay, join, along_last, kept}
use Rattle.cfg_build.proofs.ControlGraph.{control_leads, exec_at, reached_of, is_reached_of, control_edge}

-- ---- an executable by itself: what reaches its first part reaches its tests and its successors

module _ (execs : List Exec) (k line : ℕ) (At : Target → Type 0) where
  abbrev GoesOn : ExecKind → Type 0
  GoesOn kind = (p : Part) (t : Target) → Member (parts_of execs k line kind) p → Member p.outs t → At p.own → At t

  abbrev IncrementGoesOn : ExecKind → Type 0
  IncrementGoesOn kind = (loop : Loop) (s : ℕ) → incremented kind ≡ Some loop → Member (loop.body ∷ loop.exit ∷ []) s → At (Test (do_start execs loop.number)) → At (First s)

  pub to_successor : (kind : ExecKind) (s : ℕ) → GoesOn kind → IncrementGoesOn kind → Member (successors kind) s → At (First k) → At (First s)
  to_successor (Assign target value next) s on more m at = on (part (First k) piece.Act line k (First next ∷ [])) (First s) (inl refl) (Member-map First (next ∷ []) s m) at
  to_successor (Print items next) s on more m at = on (part (First k) piece.Act line k (First next ∷ [])) (First s) (inl refl) (Member-map First (next ∷ []) s m) at
  to_successor (Pass next) s on more m at = on (part (First k) piece.Pass line k (First next ∷ [])) (First s) (inl refl) (Member-map First (next ∷ []) s m) at
  to_successor (Testing c if_true if_false) s on more m at = on (part (First k) piece.Branch line k (First if_true ∷ First if_false ∷ [])) (First s) (inl refl) (Member-map First (if_true ∷ if_false ∷ []) s m) at
  to_successor (Sign value neg zero' pos) s on more m at = on (part (First k) piece.Branch line k (First neg ∷ First zero' ∷ First pos ∷ [])) (First s) (inl refl) (Member-map First (neg ∷ zero' ∷ pos ∷ []) s m) at
  to_successor (Pick value targets o) s on more m at = on (part (First k) piece.Branch line k (map First (targets ++ o ∷ []))) (First s) (inl refl) (Member-map First (targets ++ o ∷ []) s m) at
  to_successor (DoStart loop_no var first last step body exit) s on more m at =
      on (part (Test k) piece.Branch line k (First body ∷ First exit ∷ [])) (First s) (inr (inl refl)) (Member-map First (body ∷ exit ∷ []) s m)
      (on (part (First k) piece.Act line k (Test k ∷ [])) (Test k) (inl refl) (inl refl) at)
  to_successor (DoNext loop_no var body exit) s on more m at =
      more (record { number = loop_no; variable = var; body = body; exit = exit }) s refl m
      (on (part (First k) piece.Act line k (Test (do_start execs loop_no) ∷ [])) (Test (do_start execs loop_no)) (inl refl) (inl refl) at)
  to_successor End s on more m at = absurd m

  at_own : (p q : Part) → q ≡ p → At q.own → At p.own
  at_own p q same at = subst (λ (x : Part). At x.own) same at

  pub to_part : (kind : ExecKind) (p : Part) → GoesOn kind → Member (parts_of execs k line kind) p → At (First k) → At p.own
  to_part (Assign target value next) p on (inl same) at = at_own p (part (First k) piece.Act line k (First next ∷ [])) same at
  to_part (Print items next) p on (inl same) at = at_own p (part (First k) piece.Act line k (First next ∷ [])) same at
  to_part (Pass next) p on (inl same) at = at_own p (part (First k) piece.Pass line k (First next ∷ [])) same at
  to_part (Testing c if_true if_false) p on (inl same) at = at_own p (part (First k) piece.Branch line k (First if_true ∷ First if_false ∷ [])) same at
  to_part (Sign value neg zero' pos) p on (inl same) at = at_own p (part (First k) piece.Branch line k (First neg ∷ First zero' ∷ First pos ∷ [])) same at
  to_part (Pick value targets o) p on (inl same) at = at_own p (part (First k) piece.Branch line k (map First (targets ++ o ∷ []))) same at
  to_part (DoStart loop_no var first last step body exit) p on (inl same) at = at_own p (part (First k) piece.Act line k (Test k ∷ [])) same at
  to_part (DoStart loop_no var first last step body exit) p on (inr (inl same)) at =
      at_own p (part (Test k) piece.Branch line k (First body ∷ First exit ∷ [])) same
      (on (part (First k) piece.Act line k (Test k ∷ [])) (Test k) (inl refl) (inl refl) at)
  to_part (DoStart loop_no var first last step body exit) p on (inr (inr none)) at = absurd none
  to_part (DoNext loop_no var body exit) p on (inl same) at = at_own p (part (First k) piece.Act line k (Test (do_start execs loop_no) ∷ [])) same at
  to_part (Assign target value next) p on (inr none) at = absurd none
  to_part (Print items next) p on (inr none) at = absurd none
  to_part (Pass next) p on (inr none) at = absurd none
  to_part (Testing c if_true if_false) p on (inr none) at = absurd none
  to_part (Sign value neg zero' pos) p on (inr none) at = absurd none
  to_part (Pick value targets o) p on (inr none) at = absurd none
  to_part (DoNext loop_no var body exit) p on (inr none) at = absurd none
  to_part End p on none at = absurd none

-- a way leads from the part
pub record HasWay (p : Part) : Type 0 where
  pub target : Target
  pub among : Member p.outs target

has_way_of : (p q : Part) → q ≡ p → HasWay q → HasWay p
has_way_of p q same w = subst (λ (x : Part). HasWay x) same w

has_way : (execs : List Exec) (k line : ℕ) (kind : ExecKind) (p : Part) → Member (parts_of execs k line kind) p → HasWay p
has_way execs k line (Assign target value next) p (inl same) = has_way_of p (part (First k) piece.Act line k (First next ∷ [])) same (record { target = First next; among = inl refl })
has_way execs k line (Print items next) p (inl same) = has_way_of p (part (First k) piece.Act line k (First next ∷ [])) same (record { target = First next; among = inl refl })
has_way execs k line (Pass next) p (inl same) = has_way_of p (part (First k) piece.Pass line k (First next ∷ [])) same (record { target = First next; among = inl refl })
has_way execs k line (Testing c if_true if_false) p (inl same) = has_way_of p (part (First k) piece.Branch line k (First if_true ∷ First if_false ∷ [])) same (record { target = First if_true; among = inl refl })
has_way execs k line (Sign value neg zero' pos) p (inl same) = has_way_of p (part (First k) piece.Branch line k (First neg ∷ First zero' ∷ First pos ∷ [])) same (record { target = First neg; among = inl refl })
has_way execs k line (Pick value targets o) p (inl same) =
    grind (arith, has_way_of p (part (First k) piece.Branch line k (map First (targets ++ o ∷ []))) same, Member-map First (targets ++ o ∷ []) o, Member-right targets (o ∷ []) o)
has_way execs k line (DoStart loop_no var first last step body exit) p (inl same) = has_way_of p (part (First k) piece.Act line k (Test k ∷ [])) same (record { target = Test k; among = inl refl })
has_way execs k line (DoStart loop_no var first last step body exit) p (inr (inl same)) = has_way_of p (part (Test k) piece.Branch line k (First body ∷ First exit ∷ [])) same (record { target = First body; among = inl refl })
has_way execs k line (DoStart loop_no var first last step body exit) p (inr (inr none)) = absurd none
has_way execs k line (DoNext loop_no var body exit) p (inl same) = has_way_of p (part (First k) piece.Act line k (Test (do_start execs loop_no) ∷ [])) same (record { target = Test (do_start execs loop_no); among = inl refl })
has_way execs k line (Assign target value next) p (inr none) = absurd none
has_way execs k line (Print items next) p (inr none) = absurd none
has_way execs k line (Pass next) p (inr none) = absurd none
has_way execs k line (Testing c if_true if_false) p (inr none) = absurd none
has_way execs k line (Sign value neg zero' pos) p (inr none) = absurd none
has_way execs k line (Pick value targets o) p (inr none) = absurd none
has_way execs k line (DoNext loop_no var body exit) p (inr none) = absurd none
has_way execs k line End p none = absurd none

pub end_not_joined : (ps : List Part) (p : Part) → p.piece.kind ≡ piece.End → is_joined ps p ≡ false
end_not_joined ps p is = and_right (nat_lt 1 (ways_to ps p.own)) (cond (is_end p.piece.kind) false true) (ap (λ kind. cond (is_end kind) false true) is)

-- ---- the joined graph

module _ (told : IsTold) (names : List NameInfo) (execs : List Exec) (loops : ℕ) (well : AreExecs names execs loops) where
  abbrev ps : List Part
  ps = parts execs

  abbrev g : Graph
  g = row_graph (parts execs) (finish execs)

  pub apart : AreApart (parts execs)
  apart = parts_apart execs well.end

  pub leads : (p : Part) (t : Target) → Member (parts execs) p → Member p.outs t → HasPart (parts execs) t
  leads = way_leads told names execs loops well

  pub finish_below : finish execs < length (rows (parts execs))
  finish_below = number_below (parts execs) (finish execs) apart (First (last_of execs)) (record { one = end_part execs; among = member_end execs; own = refl })

  pub some_rows : 0 < length (rows (parts execs))
  some_rows = omega (arith, finish_below)

  pub joined_sound : IsGraph (row_graph (parts execs) (finish execs))
  joined_sound = row_graph_sound (parts execs) (finish execs) apart leads finish_below some_rows

  abbrev At : Target → Type 0
  At t = Reaches (row_graph (parts execs) (finish execs)) 0 (number (parts execs) t)

  goes_on : (p : Part) (t : Target) → Member (parts execs) p → Member p.outs t → At p.own → At t
  goes_on p t m out at = step (parts execs) (finish execs) apart 0 p t m out at

  at_start : At Start
  at_start = grind (arith, number_of_one (parts execs) (finish execs) apart 0 start_part, apart, stay g 0 (number (parts execs) Start))

  at_first : At (First 0)
  at_first = goes_on start_part (First 0) (member_start execs) (inl refl) at_start

  module _ (k : ℕ) (exec : Exec) (found : slice_get execs k ≡ Some exec) (reached : is_reached execs k ≡ true) where
    exec_goes_on : GoesOn execs k exec.line At exec.kind
    exec_goes_on p t m out at = goes_on p t (member_part execs p (record { at = k; exec = exec; found = found; reached = reached; among = m })) out at

    increment_goes_on : IncrementGoesOn execs k exec.line At exec.kind
    increment_goes_on loop s increments m at =
        let r = increment_has told names execs loops well k loop (ap (λ e. incremented_in e) found ∙ increments) reached in
        goes_on (test_part (do_start execs loop.number) r.0 loop) (First s) r.1 (Member-map First (loop.body ∷ loop.exit ∷ []) s m) at

    exec_to : (s : ℕ) → LeadsTo execs k s → At (First k) → At (First s)
    exec_to s lead at =
        grind (arith, to_successor execs k exec.line At exec.kind s exec_goes_on increment_goes_on, exec_goes_on, increment_goes_on, Member-from_Contains (successors_in (slice_get execs k)) s lead)

    exec_part : (p : Part) → Member (parts_of execs k exec.line exec.kind) p → At (First k) → At p.own
    exec_part p m at = to_part execs k exec.line At exec.kind p exec_goes_on m at

  -- the start reaches the first part of each executable that control comes to
  pub at_exec : (k : ℕ) → is_reached execs k ≡ true → At (First k)
  at_exec k reached =
      let c : Graph = control execs in
      (kept c (λ x. Reaches c 0 x × At (First x))
      (λ e edge (h : Reaches c 0 (from c e) × At (First (from c e))).
      let k : ℕ = from c e in
      let below : k < length execs = subst (λ x. x < length execs) (sym (control_edge execs e edge).begins) (control_edge execs e edge).exists in
      let x = exec_at execs k below in (
        along_last c 0 k (to c e) h.0 (record { number = e; exists = edge; begins = refl; ends = refl }),
        exec_to k x.0 x.1 (is_reached_of execs well.successors told well.end.some k h.0) (to c e) (control_leads execs e edge) h.1,
      ))
      0 k (reached_of execs well.successors told well.end.some k reached)
      (stay c 0 0 refl, at_first)).1

  at_part : (p : Part) → Member (parts execs) p → (end_part execs ≡ p) ⊎ At p.own
  at_part p m = ⊎_elim
      (λ (same : start_part ≡ p). inr (subst (λ (x : Part). At x.own) same at_start))
      (⊎_elim
      (λ (r : IsExecPart execs p). inr (exec_part r.at r.exec r.found r.reached p r.among (at_exec r.at r.reached)))
      (λ (same : end_part execs ≡ p). inl same))
      (cases_part execs p m)

  pub end_piece : (j : ℕ) → j < length (parts execs) → end_part execs ≡ part_at (parts execs) j → own_piece (parts execs) j ≡ finish execs
  end_piece j some same =
      let none : joins (parts execs) (part_at (parts execs) j) ≡ 0 = ap (λ p. joins (parts execs) p) (sym same) ∙ cond-false (is_joined (parts execs) (end_part execs)) 1 0 (end_not_joined (parts execs) (end_part execs) refl) in
      let is : finish execs ≡ first_piece (parts execs) j = number_of_one (parts execs) (finish execs) apart j (end_part execs) some (sym same) in
      omega (arith, none, is)

  -- the start reaches each piece but perhaps the end
  pub reached_piece : (x : ℕ) → x < length (rows (parts execs)) → (x ≡ finish execs) ⊎ Reaches (row_graph (parts execs) (finish execs)) 0 x
  reached_piece x below =
      let r : IsPieceOf (parts execs) x = piece_of (parts execs) x below in
      let p : Part = part_at (parts execs) r.part in
      let among : Member (parts execs) p = Member-at (parts execs) r.part start_part r.exists in
      ⊎_elim
      (λ (same : end_part execs ≡ p). ⊎_elim
      (λ (own : x ≡ own_piece (parts execs) r.part). inl (own ∙ end_piece r.part r.exists same))
      (λ (j : (is_joined (parts execs) p ≡ true) × (x ≡ first_piece (parts execs) r.part)).
      absurd (false≢true (sym (end_not_joined (parts execs) (end_part execs) refl) ∙ ap (λ q. is_joined (parts execs) q) same ∙ j.0)))
      r.which)
      (λ (at : At p.own).
      let first : Reaches g 0 (first_piece (parts execs) r.part) = subst (λ n. Reaches g 0 n) (number_of_one (parts execs) (finish execs) apart r.part p r.exists refl) at in
      ⊎_elim
      (λ (own : x ≡ own_piece (parts execs) r.part). inr (subst (λ n. Reaches g 0 n) (sym own)
      (join g 0 (first_piece (parts execs) r.part) (own_piece (parts execs) r.part) first (to_own (parts execs) (finish execs) apart r.part r.exists))))
      (λ (j : (is_joined (parts execs) p ≡ true) × (x ≡ first_piece (parts execs) r.part)). inr (subst (λ n. Reaches g 0 n) (sym j.1) first))
      r.which)
      (at_part p among)

  way_of_part : (p : Part) → Member (parts execs) p → (end_part execs ≡ p) ⊎ HasWay p
  way_of_part p m = ⊎_elim
      (λ (same : start_part ≡ p). inr (has_way_of p start_part same (record { target = First 0; among = inl refl })))
      (⊎_elim
      (λ (r : IsExecPart execs p). inr (has_way execs r.at r.exec.line r.exec.kind p r.among))
      (λ (same : end_part execs ≡ p). inl same))
      (cases_part execs p m)

  -- an edge leaves each piece but the end
  pub leaves_piece : (x : ℕ) → x < length (rows (parts execs)) → (x ≡ finish execs) ⊎ ((y : ℕ) × IsEdge (row_graph (parts execs) (finish execs)) x y)
  leaves_piece x below =
      let r : IsPieceOf (parts execs) x = piece_of (parts execs) x below in
      let p : Part = part_at (parts execs) r.part in
      ⊎_elim
      (λ (own : x ≡ own_piece (parts execs) r.part). ⊎_elim
      (λ (same : end_part execs ≡ p). inl (own ∙ end_piece r.part r.exists same))
      (λ (w : HasWay p). inr (number (parts execs) w.target, subst (λ n. IsEdge g n (number (parts execs) w.target)) (sym own) (way_edge (parts execs) (finish execs) apart r.part p w.target r.exists refl w.among)))
      (way_of_part p (Member-at (parts execs) r.part start_part r.exists)))
      (λ (j : (is_joined (parts execs) p ≡ true) × (x ≡ first_piece (parts execs) r.part)).
      inr (own_piece (parts execs) r.part, subst (λ n. IsEdge g n (own_piece (parts execs) r.part)) (sym j.1) (join_edge (parts execs) (finish execs) apart r.part r.exists j.0)))
      r.which
