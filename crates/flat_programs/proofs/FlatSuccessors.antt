-- Where control goes from an executable of a flat program, told by places of statements.
use Rattle.std.proofs.Common.{rules, ◌≡◌, ℕ, ◌+◌, ◌<◌, ◌≤◌, inl, inr, Bool, true, false, cond, List, [], ◌∷◌, length, map, All, refl, sym, ap, ◌∙◌, subst, ⊎_elim, arith}
use Rattle.std.specs.Prelude.{slice_get, Option, Some, None, if◌then◌else◌, nat_lt, ◌==◌}
use Rattle.std.proofs.lemmas.Bool.{cases_lt}
use Rattle.std.proofs.lemmas.Option.{slice_get_within}
use Rattle.list_laws.specs.Member.{Member}
use Rattle.list_laws.proofs.Members.{Member-cases, Member-mapped}
use Rattle.f77_tree.specs.declared.programs.Exec.{Exec}
use Rattle.f77_tree.specs.declared.programs.ExecKind.{ExecKind}
use Rattle.f77_tree.specs.declared.expressions.Expr.{Expr}
use Rattle.f77_tree.specs.declared.programs.ExecKind.TheVariants.{Pass}
use Rattle.f77_tree.specs.Control.{successors, SuccessorsExist}
use Rattle.f77_tree.proofs.AllLemmas.{All-get}
use Rattle.flat_programs.specs.declared.statements.Flat.{Flat}
use Rattle.flat_programs.specs.declared.statements.Flat.TheVariants.{Mark, Assignment, Output, LogicalIf, ArithmeticIf, ComputedGoTo, DoLoop, Jump, Finish}
use Rattle.flat_programs.specs.declared.statements.FlatLine.{FlatLine}
use Rattle.flat_programs.specs.Marks.{is_mark, is_mark_in, mark_at, mark_count, place_of, is_end, loop_to, ends_at}
use Rattle.flat_programs.specs.Executables.{width_by, width, first_of, marked, beyond, leading, following, increment, executables}
use Rattle.flat_programs.specs.FlatForm.{IsFlat, HasNumbers, IsNumber, jumps, range_end}
use Rattle.flat_programs.proofs.FlowLemmas.{first_of-next}
use Rattle.flat_programs.proofs.MarkLemmas.{found, marks_below, item_at}
use Rattle.flat_programs.proofs.CountedItems.{first-found, All-members, All-items, All-member}
use Rattle.flat_programs.proofs.ExecutableRows.{IsOf, belongs, execs-length, first-less, first-rises}

-- how control comes from the executable k of a statement at a place to the executable s: to the second executable of the statement;
-- to the next statement; to a mark; from a DO to what stands after its range; or from the end of a range to its beginning
pub data GoesTo (flat : List FlatLine) (place k s : ℕ) (stmt : Flat) : Type 0 where
  Stays : k ≡ first_of flat place → s ≡ first_of flat place + 1 → width flat place stmt ≡ 2 → GoesTo flat place k s stmt
  Falls : s ≡ first_of flat (place + 1) → (stmt ≡ Finish → ⊥) → GoesTo flat place k s stmt
  Jumps : (number : ℕ) → Member (jumps stmt) number → s ≡ marked flat number → GoesTo flat place k s stmt
  Skips : (end : ℕ) → range_end stmt ≡ end ∷ [] → s ≡ beyond flat end → GoesTo flat place k s stmt
  Repeats : stmt ≡ Mark → is_end flat (mark_at flat place) ≡ true → s ≡ first_of flat (loop_to flat (mark_at flat place) + 1) → GoesTo flat place k s stmt

module _ (flat : List FlatLine) (place s : ℕ) where
  abbrev first : ℕ
  first = first_of flat place

  mark-goes : (b : Bool) → is_end flat (mark_at flat place) ≡ b → first_of flat (place + 1) ≡ first + width flat place Mark → first + 1 ≡ s → GoesTo flat place first s Mark
  mark-goes true is next at = Stays refl (sym at) (ap (λ b. width_by b Mark) is)
  mark-goes false is next at =
      let one : width flat place Mark ≡ 1 = ap (λ b. width_by b Mark) is in
      Falls (omega (arith, at, next, one)) (λ h. cc)

  pub leading-goes : (stmt : Flat) → first_of flat (place + 1) ≡ first + width flat place stmt → Member (successors (leading flat place stmt)) s → GoesTo flat place first s stmt
  leading-goes Mark next (inl at) = mark-goes (is_end flat (mark_at flat place)) refl next at
  leading-goes Mark next (inr m) = absurd m
  leading-goes (Assignment target value) next (inl at) = Falls (sym at) (λ h. cc)
  leading-goes (Assignment target value) next (inr m) = absurd m
  leading-goes (Output items) next (inl at) = Falls (sym at) (λ h. cc)
  leading-goes (Output items) next (inr m) = absurd m
  leading-goes (LogicalIf cond target) next (inl at) = Stays refl (sym at) refl
  leading-goes (LogicalIf cond target) next (inr (inl at)) = Falls (sym at) (λ h. cc)
  leading-goes (LogicalIf cond target) next (inr (inr m)) = absurd m
  leading-goes (ArithmeticIf value below at above) next (inl is) = Jumps below (inl refl) (sym is)
  leading-goes (ArithmeticIf value below at above) next (inr (inl is)) = Jumps at (inr (inl refl)) (sym is)
  leading-goes (ArithmeticIf value below at above) next (inr (inr (inl is))) = Jumps above (inr (inr (inl refl))) (sym is)
  leading-goes (ArithmeticIf value below at above) next (inr (inr (inr m))) = absurd m
  leading-goes (ComputedGoTo value targets) next m =
      ⊎_elim
      (λ (t : Member (map (marked flat) targets) s). let r = Member-mapped (marked flat) targets s t in Jumps r.origin r.among (sym r.is))
      (λ (o : Member (first_of flat (place + 1) ∷ []) s). ⊎_elim (λ (at : first_of flat (place + 1) ≡ s). Falls (sym at) (λ h. cc)) (λ none. absurd none) o)
      (Member-cases (map (marked flat) targets) (first_of flat (place + 1) ∷ []) s m)
  leading-goes (DoLoop end var first last step) next (inl at) = Falls (sym at) (λ h. cc)
  leading-goes (DoLoop end var first last step) next (inr (inl at)) = Skips end refl (sym at)
  leading-goes (DoLoop end var first last step) next (inr (inr m)) = absurd m
  leading-goes (Jump target) next (inl at) = Jumps target (inl refl) (sym at)
  leading-goes (Jump target) next (inr m) = absurd m
  leading-goes Finish next m = absurd m

  increment-goes : (k : ℕ) (kind : ExecKind) (b : Bool) → is_end flat (mark_at flat place) ≡ b → following flat place Mark ≡ Some kind → Member (successors kind) s → GoesTo flat place k s Mark
  increment-goes k kind true is follows m =
      let some : following flat place Mark ≡ Some (increment flat (loop_to flat (mark_at flat place)) (first_of flat (place + 1))) = ap (λ b. if b then Some (increment flat (loop_to flat (mark_at flat place)) (first_of flat (place + 1))) else None) is in
      let both : Some (increment flat (loop_to flat (mark_at flat place)) (first_of flat (place + 1))) ≡ Some kind = sym some ∙ follows in
      let same : increment flat (loop_to flat (mark_at flat place)) (first_of flat (place + 1)) ≡ kind = cc in
      let among : Member (successors (increment flat (loop_to flat (mark_at flat place)) (first_of flat (place + 1)))) s = subst (λ (e : ExecKind). Member (successors e) s) (sym same) m in
      ⊎_elim
      (λ (at : first_of flat (loop_to flat (mark_at flat place) + 1) ≡ s). Repeats refl is (sym at))
      (λ (o : Member (first_of flat (place + 1) ∷ []) s). ⊎_elim (λ (at : first_of flat (place + 1) ≡ s). Falls (sym at) (λ h. cc)) (λ none. absurd none) o)
      among
  increment-goes k kind false is follows m =
      let none : following flat place Mark ≡ None = ap (λ b. if b then Some (increment flat (loop_to flat (mark_at flat place)) (first_of flat (place + 1))) else None) is in
      let both : None ≡ Some kind = sym none ∙ follows in
      absurd cc

  pass-goes : (k target : ℕ) (kind : ExecKind) (cond : Expr) → Some (Pass (marked flat target)) ≡ Some kind → Member (successors kind) s → GoesTo flat place k s (LogicalIf cond target)
  pass-goes k target kind cond follows m =
      let same : Pass (marked flat target) ≡ kind = cc in
      let among : Member (marked flat target ∷ []) s = subst (λ (e : ExecKind). Member (successors e) s) (sym same) m in
      ⊎_elim (λ (at : marked flat target ≡ s). Jumps target (inl refl) (sym at)) (λ none. absurd none) among

  pub following-goes : (k : ℕ) (stmt : Flat) (kind : ExecKind) → following flat place stmt ≡ Some kind → Member (successors kind) s → GoesTo flat place k s stmt
  following-goes k Mark kind follows m = increment-goes k kind (is_end flat (mark_at flat place)) refl follows m
  following-goes k (LogicalIf cond target) kind follows m = pass-goes k target kind cond follows m
  following-goes k (Assignment target value) kind follows m = absurd cc
  following-goes k (Output items) kind follows m = absurd cc
  following-goes k (ArithmeticIf value below at above) kind follows m = absurd cc
  following-goes k (ComputedGoTo value targets) kind follows m = absurd cc
  following-goes k (DoLoop end var first last step) kind follows m = absurd cc
  following-goes k (Jump target) kind follows m = absurd cc
  following-goes k Finish kind follows m = absurd cc

  pub goes : (k : ℕ) (l : FlatLine) (kind : ExecKind) → IsOf flat place k l kind → Member (successors kind) s → GoesTo flat place k s l.stmt
  goes k l kind of m =
      ⊎_elim
      (λ h.
      let e : k ≡ first = h.0 in
      let same : leading flat place l.stmt ≡ kind = h.1 in
      subst (λ (j : ℕ). GoesTo flat place j s l.stmt) (sym e) (leading-goes l.stmt (first_of-next flat place l of.is) (subst (λ (a : ExecKind). Member (successors a) s) (sym same) m)))
      (λ h. following-goes k l.stmt kind h.1 m)
      of.which

-- ---- places to which statements lead

module _ (flat : List FlatLine) (form : IsFlat flat) where
  -- the mark with a number
  pub record IsMarkAt (number place : ℕ) : Type 0 where
    pub line : FlatLine
    pub is : slice_get flat place ≡ Some line
    pub mark : line.stmt ≡ Mark
    pub numbered : mark_at flat place ≡ number

  is-mark : (stmt : Flat) → is_mark stmt ≡ true → stmt ≡ Mark
  is-mark Mark is = refl
  is-mark (LogicalIf cond target) is = absurd cc
  is-mark (Assignment target value) is = absurd cc
  is-mark (Output items) is = absurd cc
  is-mark (ArithmeticIf value below at above) is = absurd cc
  is-mark (ComputedGoTo value targets) is = absurd cc
  is-mark (DoLoop end var first last step) is = absurd cc
  is-mark (Jump target) is = absurd cc
  is-mark Finish is = absurd cc

  mark-in : (o : Option FlatLine) → is_mark_in o ≡ true → (l : FlatLine) × (o ≡ Some l) × (l.stmt ≡ Mark)
  mark-in None is = absurd cc
  mark-in (Some l) is = (l, refl, is-mark l.stmt is)

  pub mark-of : (number : ℕ) → IsNumber (mark_count flat) number → IsMarkAt number (place_of flat number)
  mark-of number is =
      let f = found flat number is in
      let m = mark-in (slice_get flat (place_of flat number)) f.passes in
      let above = marks_below flat (place_of flat number) (omega (arith, f.within)) in
      let index = f.index in
      record { line = m.0; is = m.1; mark = m.2; numbered = omega (arith, above, index, is.least) }

  pub next-exists : (place : ℕ) (l : FlatLine) → slice_get flat place ≡ Some l → (l.stmt ≡ Finish → ⊥) → place + 1 < length flat
  next-exists place l is other =
      let within = slice_get_within flat place l is in
      ⊎_elim (λ (less : place + 1 < length flat). less) (λ (le : length flat ≤ place + 1). absurd (other ((form.ended place l is).1 (omega (arith, within, le))))) (cases_lt (place + 1) (length flat))

  pub first-exists : (place : ℕ) → place < length flat → first_of flat place < length (executables flat)
  first-exists place less =
      let item = item_at flat place less in
      let a = first-less flat place (length flat) item.0 item.1 less in
      let b = execs-length flat in
      omega (arith, a, b)

  pub after-mark : (number : ℕ) → IsNumber (mark_count flat) number → place_of flat number + 1 < length flat
  after-mark number is =
      let m = mark-of number is in
      next-exists (place_of flat number) m.line m.is (λ h. let e : Mark ≡ Finish = sym m.mark ∙ h in absurd cc)

  pub numbers-of : (place : ℕ) (l : FlatLine) → slice_get flat place ≡ Some l → HasNumbers (mark_count flat) l.stmt
  numbers-of place l is = All-get (λ (l : FlatLine). HasNumbers (mark_count flat) l.stmt) flat place l form.numbered is

  pub end-number : (place end : ℕ) (l : FlatLine) → slice_get flat place ≡ Some l → range_end l.stmt ≡ end ∷ [] → IsNumber (mark_count flat) end
  end-number place end l is ends =
      let all : All (IsNumber (mark_count flat)) (end ∷ []) = subst (λ (ns : List ℕ). All (IsNumber (mark_count flat)) ns) ends (numbers-of place l is).range_end in
      all 0 0 (omega arith)

  -- the DO whose range ends at a mark
  pub record IsLoopTo (number head : ℕ) : Type 0 where
    pub line : FlatLine
    pub is : slice_get flat head ≡ Some line
    pub ends : range_end line.stmt ≡ number ∷ []

  pub loop-of : (number : ℕ) → is_end flat number ≡ true → IsLoopTo number (loop_to flat number)
  loop-of number is =
      let inside : nat_lt (loop_to flat number) (length flat) ≡ true = is in
      let less : loop_to flat number < length flat = search rules in
      let r = first-found (λ (l : FlatLine). ends_at number l.stmt) flat less in
      record { line = r.item; is = r.is; ends = ends-it r.item.stmt r.passes }
    where
      ends-it : (stmt : Flat) → ends_at number stmt ≡ true → range_end stmt ≡ number ∷ []
      ends-it (DoLoop end var first last step) passes =
          let e : (end == number) ≡ true = passes in
          let same : end ≡ number = search rules in
          ap (λ n. n ∷ []) same
      ends-it Mark is = absurd cc
      ends-it (LogicalIf cond target) is = absurd cc
      ends-it (Assignment target value) is = absurd cc
      ends-it (Output items) is = absurd cc
      ends-it (ArithmeticIf value below at above) is = absurd cc
      ends-it (ComputedGoTo value targets) is = absurd cc
      ends-it (Jump target) is = absurd cc
      ends-it Finish is = absurd cc

  pub not-finish : (stmt : Flat) (number : ℕ) → range_end stmt ≡ number ∷ [] → stmt ≡ Finish → ⊥
  not-finish stmt number ends is = let e : range_end Finish ≡ number ∷ [] = ap range_end (sym is) ∙ ends in absurd cc

  -- ---- each successor exists

  pub goes-exists : (place k s : ℕ) (l : FlatLine) → slice_get flat place ≡ Some l → GoesTo flat place k s l.stmt → s < length (executables flat)
  goes-exists place k s l is (Stays at after two) =
      let a = first_of-next flat place l is in
      let b = first-rises flat (place + 1) (length flat) (let w = slice_get_within flat place l is in omega (arith, w)) in
      let c = execs-length flat in
      omega (arith, a, b, c, after, two)
  goes-exists place k s l is (Falls at other) = let a = first-exists (place + 1) (next-exists place l is other) in omega (arith, a, at)
  goes-exists place k s l is (Jumps number among at) =
      let n = All-member (IsNumber (mark_count flat)) (jumps l.stmt) number (numbers-of place l is).jumps among in
      let a = first-exists (place_of flat number) (found flat number n).within in
      omega (arith, a, at)
  goes-exists place k s l is (Skips end ends at) =
      let a = first-exists (place_of flat end + 1) (after-mark end (end-number place end l is ends)) in
      omega (arith, a, at)
  goes-exists place k s l is (Repeats mark ends at) =
      let r = loop-of (mark_at flat place) ends in
      let a = first-exists (loop_to flat (mark_at flat place) + 1) (next-exists (loop_to flat (mark_at flat place)) r.line r.is (not-finish r.line.stmt (mark_at flat place) r.ends)) in
      omega (arith, a, at)

  pub successors-exist : SuccessorsExist (executables flat)
  successors-exist =
      All-items (λ (exec : Exec). All (λ s. s < length (executables flat)) (successors exec.kind)) (executables flat) (λ k exec at.
      let b = belongs flat k exec at in
      All-members (λ s. s < length (executables flat)) (successors exec.kind) (λ s m. goes-exists b.place k s b.line b.of.is (goes flat b.place s k b.line exec.kind b.of m)))
