-- The executables of flat statements by their places: where those of a statement stand, and which statement one belongs to.
use Rattle.std.proofs.Common.{◌≡◌, ℕ, zero, suc, ◌+◌, ◌-◌, ◌<◌, ◌≤◌, ◌⊎◌, inl, inr, Bool, true, false, List, ◌∷◌, length, map, refl, sym, ap, ◌∙◌, subst, ⊎_elim, arith}
use Rattle.std.specs.Prelude.{slice_get, Option, Some, None, option_to_list, if◌then◌else◌}
use Rattle.std.proofs.lemmas.Bool.{cases_lt}
use Rattle.std.proofs.lemmas.Option.{slice_get_within}
use Rattle.std.proofs.lemmas.List.{length-map}
use Rattle.f77_tree.specs.declared.programs.Exec.{Exec}
use Rattle.f77_tree.specs.declared.programs.ExecKind.{ExecKind}
use Rattle.flat_programs.specs.declared.statements.Flat.{Flat}
use Rattle.flat_programs.specs.declared.statements.Flat.TheVariants.{Mark, Assignment, Output, LogicalIf, ArithmeticIf, ComputedGoTo, DoLoop, Jump, Finish}
use Rattle.flat_programs.specs.declared.statements.FlatLine.{FlatLine}
use Rattle.flat_programs.specs.Marks.{mark_at, is_end, loop_to}
use Rattle.flat_programs.specs.Executables.{width_by, width, width_in, width_at, first_of, leading, following, increment, executables_in, executables_at, executables}
use Rattle.flat_programs.proofs.FlowLemmas.{first_of-step, first_of-next}
use Rattle.flat_programs.proofs.Rows.{start, start-more, start-rises, rows-length, in_row, row_at, IsInRow}

pub width_by-least : (b : Bool) (stmt : Flat) → 1 ≤ width_by b stmt
width_by-least true Mark = omega arith
width_by-least false Mark = omega arith
width_by-least b (LogicalIf cond target) = omega arith
width_by-least b (Assignment target value) = omega arith
width_by-least b (Output items) = omega arith
width_by-least b (ArithmeticIf value below at above) = omega arith
width_by-least b (ComputedGoTo value targets) = omega arith
width_by-least b (DoLoop end var first last step) = omega arith
width_by-least b (Jump target) = omega arith
width_by-least b Finish = omega arith

mark-width : (b : Bool) (kind : ExecKind) → suc (length (option_to_list (if b then Some kind else None))) ≡ (if b then 2 else 1)
mark-width true kind = refl
mark-width false kind = refl

abbrev pub with_line : ℕ → ExecKind → Exec
with_line line kind = record { line = line; kind = kind }

module _ (flat : List FlatLine) where
  -- ---- widths

  pub kinds-width : (place : ℕ) (stmt : Flat) → suc (length (option_to_list (following flat place stmt))) ≡ width flat place stmt
  kinds-width place Mark = mark-width (is_end flat (mark_at flat place)) (increment flat (loop_to flat (mark_at flat place)) (first_of flat (place + 1)))
  kinds-width place (LogicalIf cond target) = refl
  kinds-width place (Assignment target value) = refl
  kinds-width place (Output items) = refl
  kinds-width place (ArithmeticIf value below at above) = refl
  kinds-width place (ComputedGoTo value targets) = refl
  kinds-width place (DoLoop end var first last step) = refl
  kinds-width place (Jump target) = refl
  kinds-width place Finish = refl

  in-width : (place : ℕ) (o : Option FlatLine) → length (executables_in flat place o) ≡ width_in flat place o
  in-width place None = refl
  in-width place (Some l) = length-map (leading flat place l.stmt ∷ option_to_list (following flat place l.stmt)) (with_line l.line) ∙ kinds-width place l.stmt

  pub at-width : (place : ℕ) → length (executables_at flat place) ≡ width_at flat place
  at-width place = in-width place (slice_get flat place)

  pub first-start : (place : ℕ) → first_of flat place ≡ start (executables_at flat) place
  first-start zero = refl
  first-start (suc place) =
      let add : place + 1 ≡ suc place = omega arith in
      let a = first_of-step flat place in
      let b = start-more (executables_at flat) place in
      let c = first-start place in
      let d = at-width place in
      subst (λ m. first_of flat m ≡ start (executables_at flat) m) add (omega (arith, a, b, c, d))

  pub execs-length : length (executables flat) ≡ first_of flat (length flat)
  execs-length = rows-length (executables_at flat) (length flat) ∙ sym (first-start (length flat))

  -- ---- order

  pub first-rises : (a b : ℕ) → a ≤ b → first_of flat a ≤ first_of flat b
  first-rises a b le =
      let d = b - a in
      let e : a + d ≡ b = omega (arith, le) in
      let less = start-rises (executables_at flat) a d in
      let s = ap (start (executables_at flat)) e in
      omega (arith, less, s, first-start a, first-start b)

  pub first-more : (place : ℕ) (l : FlatLine) → slice_get flat place ≡ Some l → first_of flat place + 1 ≤ first_of flat (place + 1)
  first-more place l is =
      let a = first_of-next flat place l is in
      let b = width_by-least (is_end flat (mark_at flat place)) l.stmt in
      omega (arith, a, b)

  pub first-less : (place b : ℕ) (l : FlatLine) → slice_get flat place ≡ Some l → place < b → first_of flat place < first_of flat b
  first-less place b l is less =
      let a = first-more place l is in
      let c = first-rises (place + 1) b (omega (arith, less)) in
      omega (arith, a, c)

  -- an executable whose index is less than the first one of a place belongs to a place before it
  pub before-first : (a b : ℕ) → first_of flat a < first_of flat b → a < b
  before-first a b less = ⊎_elim (λ lt. lt) (λ (le : b ≤ a). let c = first-rises b a le in absurd (omega (arith, c, less))) (cases_lt a b)

  -- ---- executables of a statement

  -- the executable with this index is one of a statement at a place: the first one, or the one after it
  pub record IsOf (place k : ℕ) (l : FlatLine) (kind : ExecKind) : Type 0 where
    pub is : slice_get flat place ≡ Some l
    pub which : ((k ≡ first_of flat place) × (leading flat place l.stmt ≡ kind)) ⊎ ((k ≡ first_of flat place + 1) × (following flat place l.stmt ≡ Some kind))

  pub record Belongs (k : ℕ) (exec : Exec) : Type 0 where
    pub place : ℕ
    pub line : FlatLine
    pub of : IsOf place k line exec.kind

  row-kind : (place j : ℕ) (l : FlatLine) (exec : Exec) (next : Option ExecKind) → slice_get (map (with_line l.line) (leading flat place l.stmt ∷ option_to_list next)) j ≡ Some exec → ((j ≡ 0) × (leading flat place l.stmt ≡ exec.kind)) ⊎ ((j ≡ 1) × (next ≡ Some exec.kind))
  row-kind place zero l exec next is = let same : with_line l.line (leading flat place l.stmt) ≡ exec = cc in inl (refl, ap (λ (e : Exec). e.kind) same)
  row-kind place (suc zero) l exec None is = absurd cc
  row-kind place (suc (suc j)) l exec None is = absurd cc
  row-kind place (suc zero) l exec (Some kind) is = let same : with_line l.line kind ≡ exec = cc in inr (refl, ap (λ (e : Exec). Some e.kind) same)
  row-kind place (suc (suc j)) l exec (Some kind) is = absurd cc

  row-belongs : (place j : ℕ) (exec : Exec) (o : Option FlatLine) → slice_get flat place ≡ o → slice_get (executables_in flat place o) j ≡ Some exec → Belongs (first_of flat place + j) exec
  row-belongs place j exec None is at = absurd cc
  row-belongs place j exec (Some l) is at = record {
    place = place;
    line = l;
    of = record {
      is = is;
      which = ⊎_elim
          (λ h. inl (let e = h.0 in omega (arith, e), h.1))
          (λ h. inr (let e = h.0 in omega (arith, e), h.1))
          (row-kind place j l exec (following flat place l.stmt) at);
    };
  }

  pub belongs : (k : ℕ) (exec : Exec) → slice_get (executables flat) k ≡ Some exec → Belongs k exec
  belongs k exec is =
      let r : IsInRow (executables_at flat) (length flat) k exec = in_row (executables_at flat) (length flat) k exec is in
      let at : first_of flat r.row + r.place ≡ k = ap (λ m. m + r.place) (first-start r.row) ∙ sym r.index in
      subst (λ (m : ℕ). Belongs m exec) at (row-belongs r.row r.place exec (slice_get flat r.row) refl r.is)

  pub leading-at : (place : ℕ) (l : FlatLine) → slice_get flat place ≡ Some l → slice_get (executables flat) (first_of flat place) ≡ Some (with_line l.line (leading flat place l.stmt))
  leading-at place l is =
      let here : slice_get (executables_at flat place) 0 ≡ Some (with_line l.line (leading flat place l.stmt)) = ap (λ (o : Option FlatLine). slice_get (executables_in flat place o) 0) is in
      let none : first_of flat place ≡ start (executables_at flat) place + 0 = let s = first-start place in omega (arith, s) in
      ap (slice_get (executables flat)) none ∙ row_at (executables_at flat) (length flat) place 0 (with_line l.line (leading flat place l.stmt)) (slice_get_within flat place l is) here

  pub following-at : (place : ℕ) (l : FlatLine) (kind : ExecKind) → slice_get flat place ≡ Some l → following flat place l.stmt ≡ Some kind → slice_get (executables flat) (first_of flat place + 1) ≡ Some (with_line l.line kind)
  following-at place l kind is follows =
      let here : slice_get (executables_at flat place) 1 ≡ Some (with_line l.line kind) =
      ap (λ (o : Option FlatLine). slice_get (executables_in flat place o) 1) is
      ∙ ap (λ (o : Option ExecKind). slice_get (map (with_line l.line) (leading flat place l.stmt ∷ option_to_list o)) 1) follows
      in
      let one : first_of flat place + 1 ≡ start (executables_at flat) place + 1 = let s = first-start place in omega (arith, s) in
      ap (slice_get (executables flat)) one ∙ row_at (executables_at flat) (length flat) place 1 (with_line l.line kind) (slice_get_within flat place l is) here
