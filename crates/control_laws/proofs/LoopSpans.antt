-- What the nesting says of the ranges of DOs.
use Rattle.std.proofs.Common.{◌≡◌, ℕ, ◌+◌, ◌<◌, ◌≤◌, true, false, inl, inr, List, [], ◌∷◌, length, All, refl, ap, subst, ◌∙◌, arith, Option, Some, None, zero, suc, Bool, cond, ◌++◌, drop, sym}
use Rattle.std.specs.Prelude.{slice_get, reverse}
use Rattle.std.proofs.lemmas.Bool.{eqb-true, eq-eqb}
use Rattle.f77_tree.specs.declared.statements.Labelled.{Labelled}
use Rattle.f77_tree.specs.declared.statements.RawExpr.{RawExpr}
use Rattle.f77_tree.specs.declared.statements.Stmt.{Stmt}
use Rattle.f77_tree.specs.declared.statements.Stmt.TheVariants.{Do}
use Rattle.layout_rules.specs.declared.nesting.Opened.{Opened}
use Rattle.layout_rules.specs.declared.nesting.Opened.TheVariants.{Loop}
use Rattle.layout_rules.specs.Source.{EndsWithEnd}
use Rattle.layout_rules.specs.Labels.{statement_of, used}
use Rattle.layout_rules.specs.Nesting.{first_unnested}
use Rattle.layout_rules.specs.Roles.{role_of}
use Rattle.layout_rules.specs.Tables.{IsStanding, IsUsable}
use Rattle.layout_rules.specs.Executables.{is_do_to, is_do_in, loops_to, loops_above}
use Rattle.control_structure.specs.OpenStack.{begun}
use Rattle.control_structure.proofs.RoleLemmas.{opened_by}
use Rattle.control_structure.proofs.OpenSpans.{OpensAt, after_of, AreLabelled, AreWithin, Has}
use Rattle.control_structure.proofs.Walks.{AreWithin-nested}
use Rattle.control_structure.proofs.Laminar.{nested_entries, opened_stack, before_end, terminal_after, ends_before}
use Rattle.control_structure.proofs.Exits.{AllOf, EndsAmong, more}
use Rattle.control_laws.proofs.LoopPlaces.{usable-at, got_right}

pub AllOf-got : (P : ℕ → Type 0) (xs : List ℕ) (m x : ℕ) → AllOf P xs → slice_get xs m ≡ Some x → P x
AllOf-got P [] m x all is = let e : None ≡ Some x = is in absurd cc
AllOf-got P (y ∷ xs) zero x all is = let same : y ≡ x = cc in subst P same all.0
AllOf-got P (y ∷ xs) (suc m) x all is = AllOf-got P xs m x all.1 is

AllOf-map : (P Q : ℕ → Type 0) → ((x : ℕ) → P x → Q x) → (xs : List ℕ) → AllOf P xs → AllOf Q xs
AllOf-map P Q f [] all = tt
AllOf-map P Q f (x ∷ xs) all = (f x all.0, AllOf-map P Q f xs all.1)

drop_after : (xs : List ℕ) (y : ℕ) (ys : List ℕ) → drop (suc (length xs)) (xs ++ y ∷ ys) ≡ ys
drop_after [] y ys = refl
drop_after (x ∷ xs) y ys = drop_after xs y ys

-- an item that all before it and all after it differ from stands once
once : (xs : List ℕ) (y : ℕ) (ys : List ℕ) (m : ℕ) → AllOf (λ x. y < x) xs → AllOf (λ x. x < y) ys → slice_get (xs ++ y ∷ ys) m ≡ Some y → m ≡ length xs
once [] y ys zero above below is = refl
once [] y ys (suc m) above below is = let lt : y < y = AllOf-got (λ x. x < y) ys m y below is in absurd (omega (arith, lt))
once (x ∷ xs) y ys zero above below is = let same : x ≡ y = cc in absurd (omega (arith, above.0, same))
once (x ∷ xs) y ys (suc m) above below is = let rest = once xs y ys m above.1 below is in omega (arith, rest)

module _ (whole : List Labelled) (label : ℕ) where
  abbrev pub IsEnding : ℕ → ℕ → Type 0
  IsEnding n x = (is_do_in label (slice_get whole x) ≡ true) × (x < n)

  -- all of them are DOs to the label
  pub ends-dos : (n : ℕ) → AllOf (IsEnding n) (reverse (loops_above whole label n))
  ends-dos zero = tt
  ends-dos (suc n) =
      let b = is_do_in label (slice_get whole n) in
      let rest : AllOf (IsEnding (n + 1)) (reverse (loops_above whole label n)) = AllOf-map (IsEnding n) (IsEnding (n + 1)) (λ x h. (h.0, omega (arith, h.1))) (reverse (loops_above whole label n)) (ends-dos n) in
      let step : AllOf (IsEnding (n + 1)) (reverse (loops_above whole label (n + 1))) = subst (λ (xs : List ℕ). AllOf (IsEnding (n + 1)) xs) (sym (more whole label n b refl)) (by b refl rest) in
      subst (λ (k : ℕ). AllOf (IsEnding k) (reverse (loops_above whole label k))) (let e : n + 1 ≡ suc n = omega arith in e) step
    where
      by : (b : Bool) → is_do_in label (slice_get whole n) ≡ b → AllOf (IsEnding (n + 1)) (reverse (loops_above whole label n)) → AllOf (IsEnding (n + 1)) (cond b (n ∷ reverse (loops_above whole label n)) (reverse (loops_above whole label n)))
      by true is all = ((is, omega arith), all)
      by false is all = all

  -- where the DO stands among them
  module _ (d : ℕ) (a : EndsAmong whole label d (loops_to whole label)) where
    pub among-got : slice_get (loops_to whole label) (length a.inner) ≡ Some d
    among-got = ap (λ (xs : List ℕ). slice_get xs (length a.inner)) a.is ∙ got_right a.inner (d ∷ reverse (loops_above whole label d)) (length a.inner) 0 (omega arith)

    pub among-outer : drop (suc (length a.inner)) (loops_to whole label) ≡ reverse (loops_above whole label d)
    among-outer = ap (drop (suc (length a.inner))) a.is ∙ drop_after a.inner d (reverse (loops_above whole label d))

    pub among-once : (m : ℕ) → slice_get (loops_to whole label) m ≡ Some d → m ≡ length a.inner
    among-once m got = once a.inner d (reverse (loops_above whole label d)) m a.beyond (AllOf-map (IsEnding d) (λ x. x < d) (λ x h. h.1) (reverse (loops_above whole label d)) (ends-dos d)) (ap (λ (xs : List ℕ). slice_get xs m) (sym a.is) ∙ got)

-- ---- a DO

-- the statement at this place is a DO whose range ends at the label
pub record IsDo (whole : List Labelled) (d label : ℕ) : Type 0 where
  pub s : Labelled
  pub variable : List ℕ
  pub first : RawExpr
  pub last : RawExpr
  pub step : Option RawExpr
  pub stands : slice_get whole d ≡ Some s
  pub is : s.stmt ≡ Do label variable first last step

pub opens-do : (whole : List Labelled) (d label : ℕ) → IsDo whole d label → OpensAt whole d (Loop label)
opens-do whole d label it = record { s = it.s; stands = it.stands; opens = ap (λ (t : Stmt). opened_by (role_of t)) it.is }

pub do-in : (whole : List Labelled) (d label : ℕ) → IsDo whole d label → is_do_in label (slice_get whole d) ≡ true
do-in whole d label it = ap (is_do_in label) it.stands ∙ (ap (is_do_to label) it.is ∙ eq-eqb label label refl)

pub do-from : (whole : List Labelled) (d label : ℕ) → is_do_in label (slice_get whole d) ≡ true → IsDo whole d label
do-from whole d label is = by (slice_get whole d) refl is
  where
    of : (s : Labelled) (stmt : Stmt) → slice_get whole d ≡ Some s → s.stmt ≡ stmt → is_do_to label stmt ≡ true → IsDo whole d label
    of s (Do terminal variable first last step) here is e = record { s = s; variable = variable; first = first; last = last; step = step; stands = here; is = is ∙ ap (λ (l : ℕ). Do l variable first last step) (eqb-true terminal label e) }
    of s _ here is e = let h : false ≡ true = e in absurd cc

    by : (o : Option Labelled) → slice_get whole d ≡ o → is_do_in label o ≡ true → IsDo whole d label
    by None here e = let h : false ≡ true = e in absurd cc
    by (Some s) here e = of s s.stmt here refl e

pub ends-do : (whole : List Labelled) (label m d : ℕ) → slice_get (loops_to whole label) m ≡ Some d → IsDo whole d label
ends-do whole label m d got = do-from whole d label (AllOf-got (IsEnding whole label (length whole)) (loops_to whole label) m d (ends-dos whole label (length whole)) got).0

-- ---- where ranges end

module _ (whole : List Labelled) (are : AreLabelled whole) (ended : EndsWithEnd whole) (nested : first_unnested [] whole ≡ None) where
  -- the range of a DO ends below it
  pub ends-later : (d label : ℕ) → IsDo whole d label → d < statement_of whole label
  ends-later d label it = terminal_after whole are ended nested d label (opens-do whole d label it)

  -- a DO in a range or an arm ends there
  pub ends-within : (g d label : ℕ) (o : Opened) → OpensAt whole g o → IsDo whole d label → g < d → d < after_of whole g o → statement_of whole label < after_of whole g o
  ends-within g d label o opens it lt later =
      let begins = opens-do whole d label it in
      let opened = opened_stack whole are ended nested d (Loop label) begins in
      let stack = begun d (Loop label) ∷ opened.rest in
      let within : AreWithin whole (d + 1) stack = AreWithin-nested whole are ended (d + 1) stack (before_end whole are ended nested d (Loop label) begins) opened.stands opened.nested in
      let has : Has g o opened.rest = opened.holds g o lt opens later in
      let le : after_of whole d (Loop label) ≤ after_of whole g o = nested_entries whole (d + 1) (d + 1) g d o (Loop label) stack opened.stands.falling within (inr has) (inl (refl, refl)) lt in
      omega (arith, le)

  -- of two DOs the ranges are nested, or one ends above the other
  pub ends-nested : (c d outer inner : ℕ) → IsDo whole c outer → IsDo whole d inner → c < d → d ≤ statement_of whole outer → (d < statement_of whole outer) × (statement_of whole inner ≤ statement_of whole outer)
  ends-nested c d outer inner one other lt le =
      let end : statement_of whole inner < statement_of whole outer + 1 = ends-within c d inner (Loop outer) (opens-do whole c outer one) other lt (omega (arith, le)) in
      let more = ends-later d inner other in
      (omega (arith, end, more), omega (arith, end))

  -- no range ends at END
  pub ends-before : (d label : ℕ) → IsDo whole d label → statement_of whole label + 1 < length whole
  ends-before d label it = ends_before whole are ended nested d (Loop label) (opens-do whole d label it)

-- the label of a DO stands among the statements
pub ends-inside : (whole : List Labelled) → All (IsUsable whole) whole → (d label : ℕ) → IsDo whole d label → statement_of whole label < length whole
ends-inside whole usable d label it =
    let u = usable-at [] true whole usable d it.s it.stands in
    let labels : All (IsStanding whole) (label ∷ []) = subst (λ (t : Stmt). All (IsStanding whole) (used t)) it.is u.labels in
    (labels 0 label (omega arith)).stands
