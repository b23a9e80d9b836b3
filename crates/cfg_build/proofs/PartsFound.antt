-- Which parts a program has, and that each way from one leads to another.
use Rattle.std.proofs.Common.{◌≡◌, ℕ, suc, ◌<◌, ◌⊎◌, true, List, [], ◌∷◌, ◌++◌, length, map, flat_map, Contains, slice_get, Option, Some, None, refl, sym, ap, ◌∙◌, subst, inl, inr, ⊎_elim, arith}
use Rattle.std.proofs.lemmas.Bool.{cond-true, cond-false}
use Rattle.std.specs.List.{range_with_len}
use Rattle.f77_tree.specs.declared.programs.Exec.{Exec}
use Rattle.f77_tree.specs.declared.programs.ExecKind.{ExecKind}
use Rattle.f77_tree.specs.declared.programs.ExecKind.TheVariants.{Assign, Print, Pass, Test as Testing, Sign, Pick, DoStart, DoNext, End}
use Rattle.f77_tree.specs.declared.programs.NameInfo.{NameInfo}
use Rattle.f77_tree.specs.Control.{successors, successors_in, LeadsTo}
use Rattle.f77_tree.specs.Loops.{Loop, begun, begun_in, begun_at, incremented, incremented_in, incremented_at, do_start, do_next, InRange, IsLoop}
use Rattle.f77_tree.specs.WellFormed.{AreExecs}
use Rattle.closed_walks.specs.Graph.{Graph, from, to}
use Rattle.cfg_build.specs.declared.parts.Part.{Part}
use Rattle.cfg_build.specs.declared.parts.Target.{Target}
use Rattle.cfg_build.specs.declared.parts.Target.TheVariants.{First, Test}
use Rattle.cfg_build.specs.declared.pieces.PieceKind.TheVariants as piece
use Rattle.cfg_build.specs.Control.{control, is_reached}
use Rattle.cfg_build.specs.Parts.{part, parts, parts_of, parts_in, reached_parts, start_part, end_part, last_of}
use Rattle.list_laws.specs.Member.{Member}
use Rattle.list_laws.proofs.Members.{Member-left, Member-right, Member-cases, IsImage, Member-mapped, Member-flat_map, IsFromOne, Member-flat_mapped, Member-range, Contains-from_Member}
use Rattle.cfg_build.proofs.PartOrder.{length_is}
use Rattle.cfg_build.proofs.ReachedNodes.{IsTold, Reaches, stay, along_last, kept}
use Rattle.cfg_build.proofs.ControlGraph.{control_leads, exec_at, exec_below, lead_below, reached_of, is_reached_of, reached_first, reached_next}

-- ---- an executable by itself

pub cases_End : (kind : ExecKind) → (kind ≡ End) ⊎ (kind ≡ End → ⊥)
cases_End h = grind arith

-- a part with this target
pub record HasPart (ps : List Part) (t : Target) : Type 0 where
  pub one : Part
  pub among : Member ps one
  pub own : one.own ≡ t

first_in : (execs : List Exec) (k line : ℕ) (kind : ExecKind) → (kind ≡ End → ⊥) → HasPart (parts_of execs k line kind) (First k)
first_in execs k line (Assign target value next) other = record { one = part (First k) piece.Act line k (First next ∷ []); among = inl refl; own = refl }
first_in execs k line (Print items next) other = record { one = part (First k) piece.Act line k (First next ∷ []); among = inl refl; own = refl }
first_in execs k line (Pass next) other = record { one = part (First k) piece.Pass line k (First next ∷ []); among = inl refl; own = refl }
first_in execs k line (Testing c if_true if_false) other = record { one = part (First k) piece.Branch line k (First if_true ∷ First if_false ∷ []); among = inl refl; own = refl }
first_in execs k line (Sign value neg zero' pos) other = record { one = part (First k) piece.Branch line k (First neg ∷ First zero' ∷ First pos ∷ []); among = inl refl; own = refl }
first_in execs k line (Pick value targets o) other = record { one = part (First k) piece.Branch line k (map First (targets ++ o ∷ [])); among = inl refl; own = refl }
first_in execs k line (DoStart loop_no var first last step body exit) other = record { one = part (First k) piece.Act line k (Test k ∷ []); among = inl refl; own = refl }
first_in execs k line (DoNext loop_no var body exit) other = record { one = part (First k) piece.Act line k (Test (do_start execs loop_no) ∷ []); among = inl refl; own = refl }
first_in execs k line End other = absurd (other refl)

-- the test of a DO that an executable begins
abbrev pub test_part : (k line : ℕ) → Loop → Part
test_part k line loop = part (Test k) piece.Branch line k (First loop.body ∷ First loop.exit ∷ [])

some_loop : (a b : Loop) → Some a ≡ Some b → a ≡ b
some_loop a b h = cc

pub test_in : (execs : List Exec) (k line : ℕ) (kind : ExecKind) (loop : Loop) → begun kind ≡ Some loop → Member (parts_of execs k line kind) (test_part k line loop)
test_in execs k line h loop begins = grind (arith, some_loop)

-- A way that leads from an executable's part: to a successor, or to its own test, or to that of a DO that it increments.
pub data IsWay (execs : List Exec) (k : ℕ) (kind : ExecKind) (t : Target) : Type 0 where
  To : (s : ℕ) → Member (successors kind) s → t ≡ First s → IsWay execs k kind t
  Begins : (loop : Loop) → begun kind ≡ Some loop → t ≡ Test k → IsWay execs k kind t
  Increments : (loop : Loop) → incremented kind ≡ Some loop → t ≡ Test (do_start execs loop.number) → IsWay execs k kind t

way_to : (execs : List Exec) (k : ℕ) (kind : ExecKind) (p : Part) (outs : List Target) (t : Target) → outs ≡ map First (successors kind) → Member outs t → IsWay execs k kind t
way_to execs k kind p outs t same m =
    let r : IsImage First (successors kind) t = Member-mapped First (successors kind) t (subst (λ xs. Member xs t) same m) in
    To r.origin r.among (sym r.is)

outs_of : (p q : Part) (t : Target) → q ≡ p → Member p.outs t → Member q.outs t
outs_of p q t same m = subst (λ (x : Part). Member x.outs t) (sym same) m

pub ways_in : (execs : List Exec) (k line : ℕ) (kind : ExecKind) (p : Part) (t : Target) → Member (parts_of execs k line kind) p → Member p.outs t → IsWay execs k kind t
ways_in execs k line (Assign target value next) p t (inl same) m = way_to execs k (Assign target value next) p (First next ∷ []) t refl (outs_of p (part (First k) piece.Act line k (First next ∷ [])) t same m)
ways_in execs k line (Print items next) p t (inl same) m = way_to execs k (Print items next) p (First next ∷ []) t refl (outs_of p (part (First k) piece.Act line k (First next ∷ [])) t same m)
ways_in execs k line (Pass next) p t (inl same) m = way_to execs k (Pass next) p (First next ∷ []) t refl (outs_of p (part (First k) piece.Pass line k (First next ∷ [])) t same m)
ways_in execs k line (Testing c if_true if_false) p t (inl same) m = way_to execs k (Testing c if_true if_false) p (First if_true ∷ First if_false ∷ []) t refl (outs_of p (part (First k) piece.Branch line k (First if_true ∷ First if_false ∷ [])) t same m)
ways_in execs k line (Sign value neg zero' pos) p t (inl same) m = way_to execs k (Sign value neg zero' pos) p (First neg ∷ First zero' ∷ First pos ∷ []) t refl (outs_of p (part (First k) piece.Branch line k (First neg ∷ First zero' ∷ First pos ∷ [])) t same m)
ways_in execs k line (Pick value targets o) p t (inl same) m = way_to execs k (Pick value targets o) p (map First (targets ++ o ∷ [])) t refl (outs_of p (part (First k) piece.Branch line k (map First (targets ++ o ∷ []))) t same m)
ways_in execs k line (DoStart loop_no var first last step body exit) p t (inl same) m =
    let at : Member (Test k ∷ []) t = outs_of p (part (First k) piece.Act line k (Test k ∷ [])) t same m in
    ⊎_elim (λ (h : Test k ≡ t). Begins (record { number = loop_no; variable = var; body = body; exit = exit }) refl (sym h)) (λ h. absurd h) at
ways_in execs k line (DoStart loop_no var first last step body exit) p t (inr (inl same)) m = way_to execs k (DoStart loop_no var first last step body exit) p (First body ∷ First exit ∷ []) t refl (outs_of p (part (Test k) piece.Branch line k (First body ∷ First exit ∷ [])) t same m)
ways_in execs k line (DoStart loop_no var first last step body exit) p t (inr (inr none)) m = absurd none
ways_in execs k line (DoNext loop_no var body exit) p t (inl same) m =
    let at : Member (Test (do_start execs loop_no) ∷ []) t = outs_of p (part (First k) piece.Act line k (Test (do_start execs loop_no) ∷ [])) t same m in
    ⊎_elim (λ (h : Test (do_start execs loop_no) ≡ t). Increments (record { number = loop_no; variable = var; body = body; exit = exit }) refl (sym h)) (λ h. absurd h) at
ways_in execs k line (Assign target value next) p t (inr none) m = absurd none
ways_in execs k line (Print items next) p t (inr none) m = absurd none
ways_in execs k line (Pass next) p t (inr none) m = absurd none
ways_in execs k line (Testing c if_true if_false) p t (inr none) m = absurd none
ways_in execs k line (Sign value neg zero' pos) p t (inr none) m = absurd none
ways_in execs k line (Pick value targets o) p t (inr none) m = absurd none
ways_in execs k line (DoNext loop_no var body exit) p t (inr none) m = absurd none
ways_in execs k line End p t none m = absurd none

-- ---- the parts of a program

-- a part of an executable that control can come to
pub record IsExecPart (execs : List Exec) (p : Part) : Type 0 where
  pub at : ℕ
  pub exec : Exec
  pub found : slice_get execs at ≡ Some exec
  pub reached : is_reached execs at ≡ true
  pub among : Member (parts_of execs at exec.line exec.kind) p

module _ (execs : List Exec) where
  pub member_part : (p : Part) → IsExecPart execs p → Member (parts execs) p
  member_part p r =
      let k : ℕ = r.at in
      let below : k < length execs = exec_below execs k r.exec r.found in
      let in_range : Member (range_with_len 0 (length execs)) k = Member-range 0 (length execs) k (omega arith) (omega (arith, below)) in
      let some : Member (parts_in execs k (slice_get execs k)) p = subst (λ e. Member (parts_in execs k e) p) (sym r.found) r.among in
      let here : Member (reached_parts execs k) p = subst (λ ps. Member ps p) (sym (cond-true (is_reached execs k) (parts_in execs k (slice_get execs k)) [] r.reached)) some in
      inr (Member-left (flat_map (reached_parts execs) (range_with_len 0 (length execs))) (end_part execs ∷ []) p
      (Member-flat_map (reached_parts execs) (range_with_len 0 (length execs)) k p in_range here))

  pub member_start : Member (parts execs) start_part
  member_start = inl refl

  pub member_end : Member (parts execs) (end_part execs)
  member_end = inr (Member-right (flat_map (reached_parts execs) (range_with_len 0 (length execs))) (end_part execs ∷ []) (end_part execs) (inl refl))

  part_in_some : (p : Part) (k : ℕ) (exec : Option Exec) → slice_get execs k ≡ exec → is_reached execs k ≡ true → Member (parts_in execs k exec) p → IsExecPart execs p
  part_in_some p k None found reached m = absurd m
  part_in_some p k (Some exec) found reached m = record { at = k; exec = exec; found = found; reached = reached; among = m }

  part_reached : (p : Part) (k : ℕ) → Member (reached_parts execs k) p → IsExecPart execs p
  part_reached p k m = grind (arith, part_in_some p, cond-true, cond-false)

  pub cases_part : (p : Part) → Member (parts execs) p → (start_part ≡ p) ⊎ (IsExecPart execs p ⊎ (end_part execs ≡ p))
  cases_part p (inl same) = inl same
  cases_part p (inr m) = inr (⊎_elim
      (λ (h : Member (flat_map (reached_parts execs) (range_with_len 0 (length execs))) p).
      let r : IsFromOne (reached_parts execs) (range_with_len 0 (length execs)) p = Member-flat_mapped (reached_parts execs) (range_with_len 0 (length execs)) p h in
      inl (part_reached p r.origin r.has))
      (⊎_elim (λ (same : end_part execs ≡ p). inr same) (λ none. absurd none))
      (Member-cases (flat_map (reached_parts execs) (range_with_len 0 (length execs))) (end_part execs ∷ []) p m))

-- ---- control

lead_of : (execs : List Exec) (k s : ℕ) (exec : Exec) → slice_get execs k ≡ Some exec → Member (successors exec.kind) s → LeadsTo execs k s
lead_of execs k s exec found m = subst (λ e. Contains (successors_in e) s) (sym found) (Contains-from_Member (successors exec.kind) s m)

cases_range : (execs : List Exec) (n k : ℕ) → InRange execs n k ⊎ (InRange execs n k → ⊥)
cases_range execs n k = grind arith

module _ (told : IsTold) (names : List NameInfo) (execs : List Exec) (loops : ℕ) (well : AreExecs names execs loops) where
  some_exec : 0 < length execs
  some_exec = well.end.some

  -- a DO that control increments it began
  pub start_reached : (k : ℕ) (loop : Loop) → is_reached execs k ≡ true → incremented_at execs k ≡ Some loop → is_reached execs (do_start execs loop.number) ≡ true
  start_reached k loop reached increments =
      let n : ℕ = loop.number in
      let d : ℕ = do_start execs n in
      let g : Graph = control execs in
      let few : n < loops = well.loops_nest.nexts k loop increments in
      let is : IsLoop execs n = well.loops_nest.each n few in
      let here : k ≡ do_next execs n = is.one_next k loop increments refl in
      let walk : Reaches g 0 k = reached_of execs well.successors told some_exec k reached in
      let at_k : Reaches g 0 k × (InRange execs n k → Reaches g 0 d) =
      kept g (λ x. Reaches g 0 x × (InRange execs n x → Reaches g 0 d))
      (λ e edge (h : Reaches g 0 (from g e) × (InRange execs n (from g e) → Reaches g 0 d)). (
        along_last g 0 (from g e) (to g e) h.0 (record { number = e; exists = edge; begins = refl; ends = refl }),
        λ (inside : InRange execs n (to g e)). ⊎_elim
            (λ (before : InRange execs n (from g e)). h.1 before)
            (λ (outside : InRange execs n (from g e) → ⊥). subst (λ x. Reaches g 0 x) (well.loops_nest.entered n few (from g e) (to g e) outside (control_leads execs e edge) inside).0 h.0)
            (cases_range execs n (from g e)),
      ))
      0 k walk
      (stay g 0 0 refl, λ (r : InRange execs n 0). absurd (omega (arith, r.after_start))) in
      let inside : InRange execs n k = record { after_start = omega (arith, is.later, here); up_to_next = omega (arith, here) } in
      is_reached_of execs well.successors told some_exec d (at_k.1 inside)

  -- ---- targets that have parts

  pub first_has : (k : ℕ) → k < length execs → is_reached execs k ≡ true → HasPart (parts execs) (First k)
  first_has k below reached =
      let e = exec_at execs k below in
      ⊎_elim
      (λ (last : e.0.kind ≡ End).
      let here : suc k ≡ length execs = (well.end.last k e.0 e.1).0 last in
      let all : length execs ≡ suc (last_of execs) = length_is execs well.end in
      record { one = end_part execs; among = member_end execs; own = ap First (omega (arith, here, all)) })
      (λ (other : e.0.kind ≡ End → ⊥).
      let r : HasPart (parts_of execs k e.0.line e.0.kind) (First k) = first_in execs k e.0.line e.0.kind other in
      record { one = r.one; among = member_part execs r.one (record { at = k; exec = e.0; found = e.1; reached = reached; among = r.among }); own = r.own })
      (cases_End e.0.kind)

  test_found : (k : ℕ) (loop : Loop) (exec : Option Exec) → slice_get execs k ≡ exec → begun_in exec ≡ Some loop → is_reached execs k ≡ true → (line : ℕ) × Member (parts execs) (test_part k line loop)
  test_found k loop None found begins reached = absurd cc
  test_found k loop (Some exec) found begins reached =
      (exec.line, member_part execs (test_part k exec.line loop) (record { at = k; exec = exec; found = found; reached = reached; among = test_in execs k exec.line exec.kind loop begins }))

  pub test_has : (k : ℕ) (loop : Loop) → begun_at execs k ≡ Some loop → is_reached execs k ≡ true → (line : ℕ) × Member (parts execs) (test_part k line loop)
  test_has k loop begins reached = test_found k loop (slice_get execs k) refl begins reached

  -- the test of a DO that control increments leads where the increment's executable names
  pub increment_has : (k : ℕ) (loop : Loop) → incremented_at execs k ≡ Some loop → is_reached execs k ≡ true → (line : ℕ) × Member (parts execs) (test_part (do_start execs loop.number) line loop)
  increment_has k loop increments reached =
      let n : ℕ = loop.number in
      let is : IsLoop execs n = well.loops_nest.each n (well.loops_nest.nexts k loop increments) in
      let here : k ≡ do_next execs n = is.one_next k loop increments refl in
      let same : is.loop ≡ loop = some_loop is.loop loop (sym is.increments ∙ ap (λ x. incremented_at execs x) (sym here) ∙ increments) in
      test_has (do_start execs n) loop (is.begins ∙ ap (λ l. Some l) same) (start_reached k loop reached increments)

  at_of_kind : (k : ℕ) (exec : Exec) (loop : Loop) → slice_get execs k ≡ Some exec → incremented exec.kind ≡ Some loop → incremented_at execs k ≡ Some loop
  at_of_kind k exec loop found increments = ap (λ e. incremented_in e) found ∙ increments

  begun_of_kind : (k : ℕ) (exec : Exec) (loop : Loop) → slice_get execs k ≡ Some exec → begun exec.kind ≡ Some loop → begun_at execs k ≡ Some loop
  begun_of_kind k exec loop found begins = ap (λ e. begun_in e) found ∙ begins

  way_has : (k : ℕ) (exec : Exec) (t : Target) → slice_get execs k ≡ Some exec → is_reached execs k ≡ true → IsWay execs k exec.kind t → HasPart (parts execs) t
  way_has k exec t found reached (To s m is) =
      grind (arith, lead_of execs k s exec found m, first_has s, lead_below execs well.successors k s, reached_next execs well.successors told some_exec k s (exec_below execs k exec found) reached, some_exec, exec_below execs k exec found)
  way_has k exec t found reached (Begins loop begins is) =
      grind (arith, test_has k loop (begun_of_kind k exec loop found begins) reached, begun_of_kind k exec loop found begins)
  way_has k exec t found reached (Increments loop increments is) =
      grind (arith, increment_has k loop (at_of_kind k exec loop found increments) reached, at_of_kind k exec loop found increments)

  none_out : (p : Part) (t : Target) → end_part execs ≡ p → Member p.outs t → ⊥
  none_out p t same m = subst (λ (x : Part). Member x.outs t) (sym same) m

  -- each way from a part leads to a part
  pub way_leads : (p : Part) (t : Target) → Member (parts execs) p → Member p.outs t → HasPart (parts execs) t
  way_leads p t m out = ⊎_elim
      (λ (same : start_part ≡ p).
      let at : Member (First 0 ∷ []) t = subst (λ (x : Part). Member x.outs t) (sym same) out in
      ⊎_elim
      (λ (is : First 0 ≡ t). let r : HasPart (parts execs) (First 0) = first_has 0 some_exec (reached_first execs well.successors told some_exec) in record { one = r.one; among = r.among; own = r.own ∙ is })
      (λ none. absurd none)
      at)
      (⊎_elim
      (λ (r : IsExecPart execs p). way_has r.at r.exec t r.found r.reached (ways_in execs r.at r.exec.line r.exec.kind p t r.among out))
      (λ (same : end_part execs ≡ p). absurd (none_out p t same out)))
      (cases_part execs p m)
