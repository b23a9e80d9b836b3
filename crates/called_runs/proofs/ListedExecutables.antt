-- Where labels lead, and which statements have executables.
use Rattle.std.proofs.Common.{◌≡◌, ℕ, suc, ◌+◌, ◌≤◌, Bool, true, false, not, ◌&&◌, ◌==◌, List, [], ◌∷◌, length, reverse, Some, refl, sym, ap, ◌∙◌, arith}
use Rattle.std.specs.List.{slice_get, list_all}
use Rattle.std.proofs.lemmas.Bool.{and_parts, eqb-true, not-true}
use Rattle.f77_tree.specs.declared.programs.Exec.{Exec}
use Rattle.f77_tree.specs.declared.statements.Labelled.{Labelled}
use Rattle.f77_tree.specs.declared.statements.RawExpr.{RawExpr}
use Rattle.f77_tree.specs.declared.statements.Stmt.{Stmt, more_of-Stmt}
use Rattle.f77_tree.specs.declared.statements.Stmt.TheVariants.{Program, Implicit, ImplicitNone, TypeOf, Dimension, Common, Equivalence, Init, Take, ThenIf', Else, Do, Sub}
use Rattle.layout_rules.specs.Executables.{executables_with_ends, first_of, is_do_to, labelled, loops_to, own_executables}
use Rattle.layout_rules.specs.Labels.{bears, is_arm, is_executable, used}
use Rattle.f77_layout.specs.Leading.{IsLedTo}
use Rattle.program_units.specs.CopiedLoops.{loop_if, loops_from}
use Rattle.program_units.specs.ListedCopies.{HasAt}
use Rattle.unit_laws.proofs.Having.{got, has_second, sum-next}
use Rattle.copied_control.proofs.LoopLists.{loops-are}

pub first-next : (whole : List Labelled) (i : ℕ) (s : Labelled) → slice_get whole i ≡ Some s → first_of whole (i + 1) ≡ first_of whole i + (own_executables s.stmt + length (loops_to whole s.label))
first-next whole i s is = sum-next (executables_with_ends whole) whole i s is

-- ---- executables of a statement's own

pub own-none : (s : Stmt) → is_executable s ≡ false → own_executables s ≡ 0
own-none Program is = refl
own-none (Implicit a) is = refl
own-none ImplicitNone is = refl
own-none (TypeOf a b) is = refl
own-none (Dimension a) is = refl
own-none (Common a) is = refl
own-none (Equivalence a) is = refl
own-none (Init a) is = refl
own-none (Sub a b) is = refl
own-none _ is = let e : true ≡ false = is in absurd cc

pub own-some : (s : Stmt) → ((targets : List RawExpr) → s ≡ Take targets → 1 ≤ length targets) → is_executable s ≡ true → is_arm s ≡ false → 1 ≤ own_executables s
own-some (Take targets) some does no_arm = some targets refl
own-some (ThenIf' condition shape (more_of-Stmt stmt rest)) some does no_arm = omega arith
own-some Else some does no_arm = let h : true ≡ false = no_arm in absurd cc
own-some Program some does no_arm = let h : false ≡ true = does in absurd cc
own-some (Implicit a) some does no_arm = let h : false ≡ true = does in absurd cc
own-some ImplicitNone some does no_arm = let h : false ≡ true = does in absurd cc
own-some (TypeOf a b) some does no_arm = let h : false ≡ true = does in absurd cc
own-some (Dimension a) some does no_arm = let h : false ≡ true = does in absurd cc
own-some (Common a) some does no_arm = let h : false ≡ true = does in absurd cc
own-some (Equivalence a) some does no_arm = let h : false ≡ true = does in absurd cc
own-some (Init a) some does no_arm = let h : false ≡ true = does in absurd cc
own-some (Sub a b) some does no_arm = let h : false ≡ true = does in absurd cc
own-some _ some does no_arm = omega arith

-- ---- statements at which no DO ends

used-do : (label : ℕ) (s : Stmt) → is_do_to label s ≡ true → slice_get (used s) 0 ≡ Some label
used-do label (Do a b c d e) is = ap (λ (n : ℕ). Some n) (eqb-true a label is)
used-do label _ is = let e : false ≡ true = is in absurd cc

pub none-from : (label : ℕ) (xs : List Labelled) (place : ℕ) → ((j : ℕ) (s : Labelled) → slice_get xs j ≡ Some s → is_do_to label s.stmt ≡ false) → loops_from label xs place ≡ []
none-from label [] place none = refl
none-from label (s ∷ rest) place none =
    ap (λ (b : Bool). loop_if b place (loops_from label rest (place + 1))) (none 0 s refl) ∙ none-from label rest (place + 1) (λ j t is. none (suc j) t is)

-- a label that is used leads to the one statement that bears it
abbrev pub LabelsLead : List Labelled → List Exec → Type 0
LabelsLead stmts execs = (i j : ℕ) (s : Labelled) (label : ℕ) → slice_get stmts i ≡ Some s → slice_get (used s.stmt) j ≡ Some label → IsLedTo stmts execs label (labelled stmts label)

module _ (stmts : List Labelled) (execs : List Exec) (leads : LabelsLead stmts execs) where
  -- no DO ends where control can't jump
  pub none-ends : (i : ℕ) (s : Labelled) → slice_get stmts i ≡ Some s → bears s.label s ≡ false → loops_to stmts s.label ≡ []
  none-ends i s is bears_none =
      loops-are stmts s.label ∙ ap (λ (xs : List ℕ). reverse xs) (none-from s.label stmts 0 (λ j t there. by_test j t there (is_do_to s.label t.stmt) refl))
    where
      by_test : (j : ℕ) (t : Labelled) → slice_get stmts j ≡ Some t → (b : Bool) → is_do_to s.label t.stmt ≡ b → is_do_to s.label t.stmt ≡ false
      by_test j t there false no_do = no_do
      by_test j t there true does =
          let led = leads j 0 t s.label there (used-do s.label t.stmt does) in
          let here : i ≡ led.place = led.alone i s is refl in
          let found : Some s ≡ Some led.statement = sym is ∙ ap (λ (n : ℕ). slice_get stmts n) here ∙ led.stands in
          let same : s ≡ led.statement = cc in
          let both : true ≡ false = sym led.bears_it ∙ sym (ap (λ (x : Labelled). bears s.label x) same) ∙ bears_none in
          absurd cc

  bears-declared : (s : Labelled) → is_executable s.stmt ≡ false → bears s.label s ≡ false
  bears-declared s nothing =
      ap (λ (b : Bool). ((s.label == s.label) && b) && not (is_arm s.stmt)) nothing ∙ by_test (s.label == s.label) (is_arm s.stmt)
    where
      by_test : (a b : Bool) → ((a && false) && not b) ≡ false
      by_test true b = refl
      by_test false b = refl

  bears-arm : (s : Labelled) → is_arm s.stmt ≡ true → bears s.label s ≡ false
  bears-arm s arm =
      ap (λ (b : Bool). ((s.label == s.label) && is_executable s.stmt) && not b) arm ∙ by_test ((s.label == s.label) && is_executable s.stmt)
    where
      by_test : (a : Bool) → (a && false) ≡ false
      by_test true = refl
      by_test false = refl

  pub declared-ends : (i : ℕ) (s : Labelled) → slice_get stmts i ≡ Some s → is_executable s.stmt ≡ false → loops_to stmts s.label ≡ []
  declared-ends i s is nothing = none-ends i s is (bears-declared s nothing)

  pub arm-ends : (i : ℕ) (s : Labelled) → slice_get stmts i ≡ Some s → is_arm s.stmt ≡ true → loops_to stmts s.label ≡ []
  arm-ends i s is arm = none-ends i s is (bears-arm s arm)

  -- ---- declarations have no executables

  pub declared-next : (i : ℕ) (s : Labelled) → slice_get stmts i ≡ Some s → is_executable s.stmt ≡ false → first_of stmts (i + 1) ≡ first_of stmts i
  declared-next i s is nothing =
      let next = first-next stmts i s is in
      let own = own-none s.stmt nothing in
      let none : length (loops_to stmts s.label) ≡ 0 = ap (λ (xs : List ℕ). length xs) (declared-ends i s is nothing) in
      omega (arith, next, own, none)

  pub declared-first : (between : List Labelled) (place : ℕ) → HasAt stmts place between → list_all (λ s. not (is_executable s.stmt)) between ≡ true → first_of stmts (place + length between) ≡ first_of stmts place
  declared-first [] place has all = ap (λ (n : ℕ). first_of stmts n) (let e : place + 0 ≡ place = omega arith in e)
  declared-first (s ∷ rest) place has all =
      let both = and_parts (not (is_executable s.stmt)) (list_all (λ t. not (is_executable t.stmt)) rest) all in
      let here : slice_get stmts place ≡ Some s = ap (λ (n : ℕ). slice_get stmts n) (let e : place ≡ place + 0 = omega arith in e) ∙ got stmts (s ∷ rest) place 0 s has refl in
      let behind : HasAt stmts (place + 1) rest = has_second stmts (s ∷ []) rest place has in
      ap (λ (n : ℕ). first_of stmts n) (let e : place + suc (length rest) ≡ place + 1 + length rest = omega arith in e)
      ∙ declared-first rest (place + 1) behind both.1
      ∙ declared-next place s here (not-true (is_executable s.stmt) both.0)
