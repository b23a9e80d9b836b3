-- Where the executables of a statement's own lead, one after another.
use Rattle.std.proofs.Common.{◌≡◌, ℕ, zero, suc, ◌+◌, ◌-◌, Bool, true, false, inl, inr, List, [], ◌∷◌, ◌++◌, length, map, refl, sym, subst, ◌∙◌, arith, Some, None}
use Rattle.std.specs.Prelude.{slice_get}
use Rattle.std.proofs.lemmas.Bool.{cases_Bool, eq-eqb}
use Rattle.f77_tree.specs.declared.programs.ExecKind.{ExecKind}
use Rattle.f77_tree.specs.declared.programs.NameInfo.{NameInfo}
use Rattle.f77_tree.specs.declared.statements.Labelled.{Labelled}
use Rattle.f77_tree.specs.declared.statements.RawExpr.{RawExpr}
use Rattle.f77_tree.specs.declared.statements.Stmt.{Stmt, more_of-Stmt}
use Rattle.f77_tree.specs.declared.statements.Stmt.TheVariants.{Assign, Print, Take, Continue, Stop, GoTo, PickGoTo, SignIf, ThenIf', BlockIf, ElseIf, EndIf, Do, End}
use Rattle.f77_tree.specs.Control.{successors}
use Rattle.layout_rules.specs.Labels.{jumps}
use Rattle.layout_rules.specs.Tables.{begins_arm, has_simple_inner}
use Rattle.layout_rules.specs.Executables.{beyond, own_kinds, taking, first_of, labelled, met, when_false, is_do, is_do_to, exit_of}
use Rattle.control_structure.proofs.Exits.{AllOf}
use Rattle.control_laws.proofs.LoopBegins.{OwnAt, simple-is}

-- what all of the list have, a member has
AllOf-from : (P : ℕ → Type 0) (xs : List ℕ) → ((m x : ℕ) → slice_get xs m ≡ Some x → P x) → AllOf P xs
AllOf-from P [] each = tt
AllOf-from P (x ∷ xs) each = (each 0 x refl, AllOf-from P xs (λ m y got. each (suc m) y got))

module _ (names : List NameInfo) (checked : Bool) (whole : List Labelled) (k : ℕ) (P : ℕ → Type 0) where
  -- the executable k, if it is one of these, leads to where P holds
  abbrev pub EachLeads : ℕ → List ExecKind → Type 0
  EachLeads index [] = Unit {0}
  EachLeads index (kind ∷ rest) = (k ≡ index → AllOf P (successors kind)) × EachLeads (index + 1) rest

  pub each-got : (index j : ℕ) (kinds : List ExecKind) (kind : ExecKind) → EachLeads index kinds → slice_get kinds j ≡ Some kind → k ≡ index + j → AllOf P (successors kind)
  each-got index j [] kind each got at = let e : None ≡ Some kind = got in absurd cc
  each-got index zero (x ∷ rest) kind each got at = let same : x ≡ kind = cc in subst (λ (y : ExecKind). AllOf P (successors y)) same (each.0 (omega (arith, at)))
  each-got index (suc j) (x ∷ rest) kind each got at = each-got (index + 1) j rest kind each.1 got (omega (arith, at))

  taking-leads : (index next : ℕ) (targets : List RawExpr) → P next → ((s : ℕ) → s ≡ k + 1 → P s) → EachLeads index (taking names checked index next targets)
  taking-leads index next [] on step = tt
  taking-leads index next (target ∷ []) on step = (λ e. (on, tt), tt)
  taking-leads index next (target ∷ another ∷ rest) on step = (λ e. (step (index + 1) (omega (arith, e)), tt), taking-leads (index + 1) next (another ∷ rest) on step)

  labels-lead : (labels : List ℕ) (next : ℕ) → AllOf (λ l. P (labelled whole l)) labels → P next → AllOf P (map (labelled whole) labels ++ next ∷ [])
  labels-lead [] next all on = (on, tt)
  labels-lead (l ∷ labels) next all on = (all.0, labels-lead labels next all.1 on)

  -- what a statement that is no DO needs
  own-leads : (place index next : ℕ) (stmt : Stmt) → has_simple_inner stmt ≡ true → is_do stmt ≡ false → P next → P (first_of whole (length whole - 1)) → ((s : ℕ) → s ≡ k + 1 → P s) → AllOf (λ l. P (labelled whole l)) (jumps stmt)
      → (begins_arm stmt ≡ true → P (met whole (place + 1)) × P (when_false whole place)) → EachLeads index (own_kinds names checked whole place index next stmt)
  own-leads place index next (Assign target value) inner other on stop step js arms = (λ e. (on, tt), tt)
  own-leads place index next (Print items) inner other on stop step js arms = (λ e. (on, tt), tt)
  own-leads place index next (Take targets) inner other on stop step js arms = taking-leads index next targets on step
  own-leads place index next Continue inner other on stop step js arms = (λ e. (on, tt), tt)
  own-leads place index next Stop inner other on stop step js arms = (λ e. (stop, tt), tt)
  own-leads place index next (GoTo label) inner other on stop step js arms = (λ e. js, tt)
  own-leads place index next (PickGoTo labels value) inner other on stop step js arms = (λ e. labels-lead labels next js on, tt)
  own-leads place index next (SignIf value negative equal positive) inner other on stop step js arms = (λ e. js, tt)
  own-leads place index next (ThenIf' condition shape (more_of-Stmt stmt rest)) inner other on stop step js arms =
      let is = simple-is stmt inner in
      (λ e. (step (index + 1) (omega (arith, e)), (on, tt)), own-leads place (index + 1) next stmt is.0 is.1 on stop step js (λ arm. let h : true ≡ false = sym arm ∙ is.2 in absurd cc))
  own-leads place index next (BlockIf condition) inner other on stop step js arms = let both = arms refl in (λ e. (both.0, (both.1, tt)), tt)
  own-leads place index next (ElseIf condition) inner other on stop step js arms = let both = arms refl in (λ e. (both.0, (both.1, tt)), tt)
  own-leads place index next EndIf inner other on stop step js arms = (λ e. (on, tt), tt)
  own-leads place index next (Do label variable first last value) inner other on stop step js arms = let h : true ≡ false = other in absurd cc
  own-leads place index next End inner other on stop step js arms = (λ e. tt, tt)
  own-leads place index next _ inner other on stop step js arms = tt

  -- what a DO needs
  do-leads : (place index next : ℕ) (stmt : Stmt) → is_do stmt ≡ true → ((s : ℕ) → s ≡ k + 1 → P s) → ((label : ℕ) → is_do_to label stmt ≡ true → P (exit_of whole label place)) → EachLeads index (own_kinds names checked whole place index next stmt)
  do-leads place index next (Do label variable first last value) is step exit = (λ e. (step (index + 1) (omega (arith, e)), (exit label (eq-eqb label label refl), tt)), tt)
  do-leads place index next _ is step exit = let h : false ≡ true = is in absurd cc

  -- what a statement's own executable needs
  pub own-lead : (kind : ExecKind) (at : OwnAt names checked whole k kind) → has_simple_inner at.s.stmt ≡ true → P (first_of whole (length whole - 1)) → ((s : ℕ) → s ≡ k + 1 → P s) → ((m x : ℕ) → slice_get (jumps at.s.stmt) m ≡ Some x → P (labelled whole x))
      → ((label : ℕ) → is_do_to label at.s.stmt ≡ true → P (exit_of whole label at.place))
      → (is_do at.s.stmt ≡ false → P (beyond whole at.place at.s) × (begins_arm at.s.stmt ≡ true → P (met whole (at.place + 1)) × P (when_false whole at.place))) → AllOf P (successors kind)
  own-lead kind at inner stop step js exit on =
      let stmt = at.s.stmt in
      let index = first_of whole at.place in
      let next = beyond whole at.place at.s in
      let kinds = own_kinds names checked whole at.place index next stmt in
      each-got index at.j kinds kind (elim (cases_Bool (is_do stmt)) as (λ _. EachLeads index kinds) [
        | inl its ↦ do-leads at.place index next stmt its step exit
        | inr other ↦ own-leads at.place index next stmt inner other (on other).0 stop step (AllOf-from (λ l. P (labelled whole l)) (jumps stmt) js) (on other).1
      ]) at.got at.at
