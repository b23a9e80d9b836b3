-- Labels of a printed program: the marks are numbered one after another, and no other statement has a label, so that no label stands
-- twice; and each number that is used is that of a mark.
use Rattle.std.proofs.Common.{◌≡◌, ◌==◌, ℕ, ◌+◌, ◌-◌, ◌<◌, ◌≤◌, Bool, true, false, cond, not, List, [], ◌∷◌, length, map, take, ◌&&◌, refl, sym, ap, ◌∙◌, subst, ⊎_elim, ◌⊎◌, inl, arith, Some, None}
use Rattle.std.specs.Prelude.{All, decimal, slice_get}
use Rattle.std.specs.List.{list_any}
use Rattle.std.proofs.lemmas.Bool.{cases_lt, ne_eqb, eq-eqb}
use Rattle.std.proofs.lemmas.List.Sums.{count_by-le-length}
use Rattle.std.proofs.lemmas.Map.Keys.{any_passes_from_place}
use Rattle.f77_tree.specs.declared.programs.NameInfo.{NameInfo}
use Rattle.f77_tree.specs.declared.programs.Program.{Program}
use Rattle.f77_tree.specs.declared.statements.Labelled.{Labelled}
use Rattle.f77_tree.specs.declared.statements.RawExpr.{RawExpr}
use Rattle.f77_tree.specs.declared.statements.Stmt.TheVariants.{Continue, GoTo, ThenIf}
use Rattle.f77_tree.specs.Execution.{words_taken}
use Rattle.f77_tree.specs.Grammar.{number_of, reading}
use Rattle.f77_tree.specs.StatementGrammar.{WrittenStatement, statement_of}
use Rattle.f77_tree.proofs.AllLemmas.{All-first, All-rest, All-get}
use Rattle.f77_expr.proofs.PrintedNumbers.{number_of-decimal}
use Rattle.layout_rules.specs.Faults.{first_line}
use Rattle.layout_rules.specs.Labels.{is_labelled_twice, lacks_label, bears, used, is_executable, is_arm, jumps as jumps_read}
use Rattle.flat_programs.specs.declared.statements.Flat.{Flat}
use Rattle.flat_programs.specs.declared.statements.Flat.TheVariants.{Mark, Assignment, Output, LogicalIf, ArithmeticIf, ComputedGoTo, DoLoop, Jump, Finish}
use Rattle.flat_programs.specs.declared.statements.FlatLine.{FlatLine}
use Rattle.flat_programs.specs.Declarations.{declared}
use Rattle.flat_programs.specs.FlatForm.{IsFlat, IsNumber, HasNumbers, jumps}
use Rattle.flat_programs.specs.Marks.{is_mark, mark_at, mark_count, place_of}
use Rattle.flat_programs.specs.Shown.{shown, written}
use Rattle.read_back.specs.SourceStatements.{statements_read}
use Rattle.read_back.proofs.DeclaredEach.{declared_each}
use Rattle.read_back.proofs.FirstFaults.{none_faulty, none_above, none_passes}
use Rattle.read_back.proofs.MarkPlaces.{mark_of, marks_rise}
use Rattle.read_back.proofs.PrintedPlaces.{got_within, IsDeclaredAt, IsFlatAt, first_flat, flat_at, declared_at, each_statement, has_statement}

-- ---- labels

is_Mark : (stmt : Flat) → is_mark stmt ≡ true → stmt ≡ Mark
is_Mark h is = grind arith

module _ (q : Program) (flat : List FlatLine) where
  -- the statement is a CONTINUE with the number of a mark
  pub record BearsMark (k : ℕ) (s : Labelled) : Type 0 where
    pub place : ℕ
    pub l : FlatLine
    pub there : slice_get flat place ≡ Some l
    pub marks : is_mark l.stmt ≡ true
    pub at : k ≡ first_flat q flat + place
    pub label : s.label ≡ mark_at flat place
    pub stmt : s.stmt ≡ Continue

  marked : (place : ℕ) (s : Labelled) (is : IsFlatAt q flat place s) → (b : Bool) → is_mark is.l.stmt ≡ b → (s.label ≡ 0) ⊎ BearsMark (first_flat q flat + place) s
  marked place s is false other = inl (is.label ∙ ap (λ c. cond c (mark_at flat place) 0) other)
  marked place s is true marks = grind (arith, is_Mark)

  -- a statement without a label, or that of a mark
  pub label_of : (k : ℕ) (s : Labelled) → slice_get (statements_read q flat) k ≡ Some s → (s.label ≡ 0) ⊎ BearsMark k s
  label_of k s is =
      ⊎_elim
      (λ (lt : k < first_flat q flat). inl (declared_at q flat k s lt is).label)
      (λ (le : first_flat q flat ≤ k).
      let e : k ≡ first_flat q flat + (k - first_flat q flat) = omega (arith, le) in
      let found = flat_at q flat (k - first_flat q flat) s (ap (slice_get (statements_read q flat)) (sym e) ∙ is) in
      subst (λ (j : ℕ). (s.label ≡ 0) ⊎ BearsMark j s) (sym e) (marked (k - first_flat q flat) s found (is_mark found.l.stmt) refl))
      (cases_lt k (first_flat q flat))

  unlabelled : (label : ℕ) (b : Bool) → label ≡ 0 → (not (label == 0) && b) ≡ false
  unlabelled label b none = ap (λ n. not (n == 0) && b) none

  -- the label of a mark stands on no statement above
  first_with : (k : ℕ) (s : Labelled) → BearsMark k s → (j : ℕ) (a : Labelled) → j < k → slice_get (statements_read q flat) j ≡ Some a → (a.label == s.label) ≡ false
  first_with k s has j a lt there =
      let label = has.label in
      let within = got_within flat has.place has.l has.there in
      ne_eqb a.label s.label (λ same.
      ⊎_elim
      (λ (none : a.label ≡ 0). omega (arith, none, label, same))
      (λ (other : BearsMark j a).
      let at = has.at in
      let from = other.at in
      let number = other.label in
      let rise = marks_rise flat other.place has.place other.l other.there other.marks (omega (arith, at, from, lt)) (omega (arith, within)) in
      omega (arith, rise, number, label, same))
      (label_of j a there))

  no_other : (k : ℕ) (s : Labelled) → BearsMark k s → list_any (λ (a : Labelled). a.label == s.label) (take k (statements_read q flat)) ≡ false
  no_other k s has = none_above (λ (a : Labelled). a.label == s.label) (statements_read q flat) k (first_with k s has)

  pub none_labelled_twice : first_line is_labelled_twice (statements_read q flat) ≡ None
  none_labelled_twice = grind (arith, none_faulty is_labelled_twice (statements_read q flat), unlabelled, no_other, label_of)

-- ---- labels that are used

pub again : (n count : ℕ) → count ≤ 4000 → IsNumber count n → number_of (decimal n) ≡ n
again n count few is = let most = is.most in number_of-decimal n (omega (arith, few, most))

-- a condition and the GO TO after it
guarded_jump : (condition : RawExpr) (label : ℕ) → jumps_read (ThenIf condition (GoTo label)) ≡ label ∷ []
unfolding Rattle.f77_tree.specs.declared.statements.Stmt.TheBlock.hidden-the_row-Stmt-0 denote.Hole.Carrier.hidden
guarded_jump condition label = refl

guarded_use : (condition : RawExpr) (label : ℕ) → used (ThenIf condition (GoTo label)) ≡ label ∷ []
unfolding Rattle.f77_tree.specs.declared.statements.Stmt.TheBlock.hidden-the_row-Stmt-0 denote.Hole.Carrier.hidden
guarded_use condition label = refl

module _ (count : ℕ) (few : count ≤ 4000) where
  pub all_again : (ns : List ℕ) → All (IsNumber count) ns → map number_of (map decimal ns) ≡ ns
  all_again [] all = refl
  all_again (n ∷ ns) all = ap (λ m. m ∷ map number_of (map decimal ns)) (again n count few (All-first (IsNumber count) n ns all)) ∙ ap (λ ms. n ∷ ms) (all_again ns (All-rest (IsNumber count) n ns all))

  nothing_if : (b : Bool) (v w : WrittenStatement) → jumps_read (statement_of v) ≡ [] → jumps_read (statement_of w) ≡ [] → jumps_read (statement_of (cond b v w)) ≡ []
  nothing_if true v w a b = a
  nothing_if false v w a b = b

  -- a printed statement jumps to the labels of the marks to which the flat one jumps
  pub jumps_same : (names : List NameInfo) (stmt : Flat) → All (IsNumber count) (jumps stmt) → jumps_read (statement_of (shown names stmt)) ≡ jumps stmt
  jumps_same names Mark all = refl
  jumps_same names (Assignment target value) all = nothing_if (words_taken value == 1) _ _ refl refl
  jumps_same names (Output items) all = refl
  jumps_same names (LogicalIf condition target) all = guarded_jump (reading (written names condition)) (number_of (decimal target)) ∙ all_again (target ∷ []) all
  jumps_same names (ArithmeticIf value below at above) all = all_again (below ∷ at ∷ above ∷ []) all
  jumps_same names (ComputedGoTo value targets) all = all_again targets all
  jumps_same names (DoLoop end var first last step) all = refl
  jumps_same names (Jump target) all = all_again (target ∷ []) all
  jumps_same names Finish all = refl

  used_if : (b : Bool) (v w : WrittenStatement) → used (statement_of v) ≡ [] → used (statement_of w) ≡ [] → used (statement_of (cond b v w)) ≡ []
  used_if true v w a b = a
  used_if false v w a b = b

  -- it uses these labels, or that of the mark at which the range of a DO ends
  used_same : (names : List NameInfo) (stmt : Flat) → HasNumbers count stmt → All (IsNumber count) (used (statement_of (shown names stmt)))
  used_same names Mark has = has.jumps
  used_same names (Assignment target value) has = subst (All (IsNumber count)) (sym (used_if (words_taken value == 1) _ _ refl refl)) has.jumps
  used_same names (Output items) has = has.jumps
  used_same names (LogicalIf condition target) has = subst (All (IsNumber count)) (sym (guarded_use (reading (written names condition)) (number_of (decimal target)) ∙ all_again (target ∷ []) has.jumps)) has.jumps
  used_same names (ArithmeticIf value below at above) has = subst (All (IsNumber count)) (sym (all_again (below ∷ at ∷ above ∷ []) has.jumps)) has.jumps
  used_same names (ComputedGoTo value targets) has = subst (All (IsNumber count)) (sym (all_again targets has.jumps)) has.jumps
  used_same names (DoLoop end var first last step) has = subst (All (IsNumber count)) (sym (all_again (end ∷ []) has.range_end)) has.range_end
  used_same names (Jump target) has = subst (All (IsNumber count)) (sym (all_again (target ∷ []) has.jumps)) has.jumps
  used_same names Finish has = has.jumps

module _ (q : Program) (flat : List FlatLine) (form : IsFlat flat) (few : length flat ≤ 4000) where
  pub marks_few : mark_count flat ≤ 4000
  marks_few = let most = count_by-le-length (λ (l : FlatLine). is_mark l.stmt) flat in omega (arith, most, few)

  borne : (n : ℕ) → IsNumber (mark_count flat) n → list_any (bears n) (statements_read q flat) ≡ true
  borne n is =
      let mark = mark_of flat n is in
      let has = has_statement q flat (place_of flat n) mark.l mark.there in
      let stmt : has.s.stmt ≡ Continue = has.stmt ∙ ap (λ stmt. statement_of (shown q.names stmt)) (is_Mark mark.l.stmt mark.marks) in
      let label : has.s.label ≡ n = has.label ∙ ap (λ b. cond b (mark_at flat (place_of flat n)) 0) mark.marks ∙ mark.number_is in
      let passes : bears n has.s ≡ true = ap (λ b. b && is_executable has.s.stmt && not (is_arm has.s.stmt)) (eq-eqb has.s.label n label) ∙ ap (λ stmt. is_executable stmt && not (is_arm stmt)) stmt in
      any_passes_from_place (bears n) (statements_read q flat) (first_flat q flat + place_of flat n) has.s has.stands passes

  uses_none : (k : ℕ) (s : Labelled) → IsDeclaredAt q k s → used s.stmt ≡ []
  uses_none k s is =
      ap used is.stmt ∙ All-get (λ w. used (statement_of w) ≡ []) (declared q) k is.w (declared_each (λ w. used (statement_of w) ≡ []) q (λ block. refl) (λ info. refl) (λ group. refl) (λ part. refl)) is.there

  uses_numbers : (place : ℕ) (s : Labelled) → IsFlatAt q flat place s → All (IsNumber (mark_count flat)) (used s.stmt)
  uses_numbers place s is =
      subst (λ stmt. All (IsNumber (mark_count flat)) (used stmt)) (sym is.stmt) (used_same (mark_count flat) marks_few q.names is.l.stmt (All-get (λ (l : FlatLine). HasNumbers (mark_count flat) l.stmt) flat place is.l form.numbered is.there))

  pub none_lacks_label : first_line (lacks_label (statements_read q flat)) (statements_read q flat) ≡ None
  none_lacks_label =
      let lacks : ℕ → Bool = λ label. not (list_any (bears label) (statements_read q flat)) in
      none_faulty (lacks_label (statements_read q flat)) (statements_read q flat)
      (each_statement q flat (λ s. list_any lacks (used s.stmt) ≡ false)
      (λ k s is. ap (list_any lacks) (uses_none k s is))
      (λ place s is. none_passes lacks (used s.stmt) (λ j n there. ap not (borne n (All-get (IsNumber (mark_count flat)) (used s.stmt) j n (uses_numbers place s is) there)))))
