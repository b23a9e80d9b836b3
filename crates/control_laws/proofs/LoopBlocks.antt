-- A DO below the IF of a block ends in that block, and control doesn't fall into its range from above.
use Rattle.std.proofs.Common.{◌≡◌, ℕ, zero, suc, ◌+◌, ◌-◌, ◌<◌, ◌≤◌, Bool, true, false, ◌&&◌, ◌||◌, eqb, cond, ◌⊎◌, inl, inr, List, [], ◌∷◌, length, drop, refl, sym, ap, ◌∙◌, arith, Some, None}
use Rattle.std.specs.Prelude.{slice_get}
use Rattle.std.proofs.lemmas.Bool.{cases_lt, cases_Bool, eqb-true}
use Rattle.std.proofs.lemmas.Option.{slice_get_within}
use Rattle.std.proofs.Math.Seq.{drop-nil}
use Rattle.f77_tree.specs.declared.statements.Labelled.{Labelled}
use Rattle.f77_tree.specs.declared.statements.Stmt.{Stmt}
use Rattle.f77_tree.specs.declared.statements.Stmt.TheVariants.{BlockIf, Do, ElseIf, Else}
use Rattle.layout_rules.specs.declared.nesting.Opened.TheVariants.{Block}
use Rattle.layout_rules.specs.Source.{EndsWithEnd}
use Rattle.layout_rules.specs.Labels.{statement_of, is_executable, is_arm}
use Rattle.layout_rules.specs.Jumps.{end_after, end_of_block, end_of_arm, is_block_if, is_end_if}
use Rattle.layout_rules.specs.Nesting.{first_unnested}
use Rattle.layout_rules.specs.Roles.{role_of}
use Rattle.layout_rules.specs.Tables.{begins_arm}
use Rattle.layout_rules.specs.Executables.{first_of, met}
use Rattle.control_structure.proofs.Meeting.{arm-begins, met-own, met-arm, met-passed, end_of_block-within}
use Rattle.control_structure.proofs.RoleLemmas.{opened_by}
use Rattle.control_structure.proofs.OpenSpans.{OpensAt, AreLabelled}
use Rattle.control_laws.proofs.LoopPlaces.{first-rises}
use Rattle.control_laws.proofs.LoopSpans.{IsDo, ends-within}
use Rattle.control_laws.proofs.LoopRanges.{Spot, next_of, past, end_after-later, end_of_block-later}
use Rattle.control_structure.proofs.Walks.{item_at}

-- ---- the arms of a block

-- an arm ends where its block does, or at another arm of the block
pub record TurnsAt (inner : ℕ) (rest : List Labelled) (place : ℕ) : Type 0 where
  pub j : ℕ
  pub s : Labelled
  pub stands : slice_get rest j ≡ Some s
  pub its : is_arm s.stmt ≡ true
  pub arm : end_after true inner rest place ≡ place + j
  pub block : end_after false inner rest place ≡ end_after false 0 (drop (suc j) rest) (place + j + 1)

abbrev ArmEnds : ℕ → List Labelled → ℕ → Type 0
ArmEnds inner rest place = (end_after true inner rest place ≡ end_after false inner rest place) ⊎ TurnsAt inner rest place

-- one statement further up, where both pass over it
passes : (inner next place : ℕ) (s : Labelled) (rest : List Labelled) → end_after true inner (s ∷ rest) place ≡ end_after true next rest (place + 1) → end_after false inner (s ∷ rest) place ≡ end_after false next rest (place + 1) → ArmEnds next rest (place + 1) → ArmEnds inner (s ∷ rest) place
passes inner next place s rest arm block ends = elim ends as (λ _. ArmEnds inner (s ∷ rest) place) [
  | inl same ↦ inl (arm ∙ same ∙ sym block)
  | inr turns ↦ inr (record {
    j = suc turns.j;
    s = turns.s;
    stands = turns.stands;
    its = turns.its;
    arm = arm ∙ turns.arm ∙ omega arith;
    block = block ∙ turns.block ∙ ap (end_after false 0 (drop (suc turns.j) rest)) (let e : place + 1 + turns.j + 1 ≡ place + suc turns.j + 1 = omega arith in e);
  })
]

arm_ends : (inner : ℕ) (rest : List Labelled) (place : ℕ) → ArmEnds inner rest place
arm_ends inner [] place = inl refl
arm_ends inner (s ∷ rest) place = by (is_block_if s.stmt) (eqb inner 0) (is_end_if s.stmt) (is_arm s.stmt) refl refl refl refl (λ n. arm_ends n rest (place + 1))
  where
    at : Bool → Bool → Bool → Bool → Bool → ℕ
    at arms b z e a = cond b (end_after arms (inner + 1) rest (place + 1)) (cond (z && (e || (arms && a))) place (cond e (end_after arms (inner - 1) rest (place + 1)) (end_after arms inner rest (place + 1))))

    is : (arms b z e a : Bool) → is_block_if s.stmt ≡ b → eqb inner 0 ≡ z → is_end_if s.stmt ≡ e → is_arm s.stmt ≡ a → end_after arms inner (s ∷ rest) place ≡ at arms b z e a
    is arms b z e a is_b is_z is_e is_a = rw (is_b, is_z, is_e, is_a) refl

    by : (b z e a : Bool) → is_block_if s.stmt ≡ b → eqb inner 0 ≡ z → is_end_if s.stmt ≡ e → is_arm s.stmt ≡ a → ((n : ℕ) → ArmEnds n rest (place + 1)) → ArmEnds inner (s ∷ rest) place
    by true z e a is_b is_z is_e is_a on = passes inner (inner + 1) place s rest (is true true z e a is_b is_z is_e is_a) (is false true z e a is_b is_z is_e is_a) (on (inner + 1))
    by false true true a is_b is_z is_e is_a on = inl (is true false true true a is_b is_z is_e is_a ∙ sym (is false false true true a is_b is_z is_e is_a))
    by false true false true is_b is_z is_e is_a on =
        let none : inner ≡ 0 = eqb-true inner 0 is_z in
        inr (record {
          j = 0;
          s = s;
          stands = refl;
          its = is_a;
          arm = is true false true false true is_b is_z is_e is_a ∙ omega arith;
          block = is false false true false true is_b is_z is_e is_a ∙ ap (λ n. end_after false n rest (place + 1)) none ∙ ap (end_after false 0 rest) (let e : place + 1 ≡ place + 0 + 1 = omega arith in e);
        })
    by false true false false is_b is_z is_e is_a on = passes inner inner place s rest (is true false true false false is_b is_z is_e is_a) (is false false true false false is_b is_z is_e is_a) (on inner)
    by false false true a is_b is_z is_e is_a on = passes inner (inner - 1) place s rest (is true false false true a is_b is_z is_e is_a) (is false false false true a is_b is_z is_e is_a) (on (inner - 1))
    by false false false a is_b is_z is_e is_a on = passes inner inner place s rest (is true false false false a is_b is_z is_e is_a) (is false false false false a is_b is_z is_e is_a) (on inner)

pub got_drop : {X : Type 0} (xs : List X) (n j : ℕ) → slice_get (drop n xs) j ≡ slice_get xs (n + j)
got_drop xs zero j = ap (slice_get xs) (let e : j ≡ 0 + j = omega arith in e)
got_drop [] (suc n) j = refl
got_drop (x ∷ xs) (suc n) j = got_drop xs n j ∙ ap (slice_get (x ∷ xs)) (let e : suc (n + j) ≡ suc n + j = omega arith in e)

drop_twice : {X : Type 0} (xs : List X) (m n : ℕ) → drop m (drop n xs) ≡ drop (n + m) xs
drop_twice xs m zero = ap (λ k. drop k xs) (let e : m ≡ 0 + m = omega arith in e)
drop_twice [] m (suc n) = drop-nil m ∙ sym (drop-nil (suc n + m))
drop_twice (x ∷ xs) m (suc n) = drop_twice xs m n ∙ ap (λ k. drop k (x ∷ xs)) (let e : suc (n + m) ≡ suc n + m = omega arith in e)

-- the next arm of the block after an IF, ELSE IF or ELSE
pub record NextArm (whole : List Labelled) (p : ℕ) : Type 0 where
  pub s : Labelled
  pub stands : slice_get whole (end_of_arm whole p) ≡ Some s
  pub its : is_arm s.stmt ≡ true
  pub block : end_of_block whole p ≡ end_of_block whole (end_of_arm whole p)

pub arm_or_block : (whole : List Labelled) (p : ℕ) → (end_of_arm whole p ≡ end_of_block whole p) ⊎ NextArm whole p
arm_or_block whole p = elim (arm_ends 0 (drop (p + 1) whole) (p + 1)) as (λ _. (end_of_arm whole p ≡ end_of_block whole p) ⊎ NextArm whole p) [
  | inl same ↦ inl same
  | inr turns ↦
      let rest : drop (suc turns.j) (drop (p + 1) whole) ≡ drop (end_of_arm whole p + 1) whole = drop_twice whole (suc turns.j) (p + 1) ∙ ap (λ k. drop k whole) (let e : p + 1 + suc turns.j ≡ end_of_arm whole p + 1 = omega (arith, turns.arm) in e) in
      let place : p + 1 + turns.j + 1 ≡ end_of_arm whole p + 1 = omega (arith, turns.arm) in
      inr (record {
        s = turns.s;
        stands = ap (slice_get whole) turns.arm ∙ sym (got_drop whole (p + 1) turns.j) ∙ turns.stands;
        its = turns.its;
        block = turns.block ∙ ap (λ (xs : List Labelled). end_after false 0 xs (p + 1 + turns.j + 1)) rest ∙ ap (end_after false 0 (drop (end_of_arm whole p + 1) whole)) place;
      })
]

-- ---- a DO in a block

pub record BeginsArm (whole : List Labelled) (p : ℕ) : Type 0 where
  pub is_last : Bool
  pub opens : OpensAt whole p (Block is_last)

pub begins-arm : (whole : List Labelled) (p : ℕ) (s : Labelled) → slice_get whole p ≡ Some s → begins_arm s.stmt ≡ true → BeginsArm whole p
begins-arm whole p s here is = by s.stmt refl is
  where
    by : (stmt : Stmt) → s.stmt ≡ stmt → begins_arm stmt ≡ true → BeginsArm whole p
    by (BlockIf condition) same e = record { is_last = false; opens = record { s = s; stands = here; opens = ap (λ (t : Stmt). opened_by (role_of t)) same } }
    by (ElseIf condition) same e = record { is_last = false; opens = record { s = s; stands = here; opens = ap (λ (t : Stmt). opened_by (role_of t)) same } }
    by Else same e = record { is_last = true; opens = record { s = s; stands = here; opens = ap (λ (t : Stmt). opened_by (role_of t)) same } }
    by _ same e = let h : false ≡ true = e in absurd cc

-- a statement that a test tells from a DO stands elsewhere
pub apart-do : (whole : List Labelled) (d label p : ℕ) (s : Labelled) (it : IsDo whole d label) → slice_get whole p ≡ Some s → (test : Stmt → Bool) → (test (Do label it.variable it.first it.last it.step) ≡ test s.stmt → ⊥) → d ≡ p → ⊥
apart-do whole d label p s it here test other same =
    let there : slice_get whole d ≡ Some s = ap (slice_get whole) same ∙ here in
    let one : it.s ≡ s = let e : Some it.s ≡ Some s = sym it.stands ∙ there in cc in
    other (sym (ap test it.is) ∙ ap (λ (t : Labelled). test t.stmt) one)

-- a DO is no arm
pub not-arm : (whole : List Labelled) (d label p : ℕ) (s : Labelled) → IsDo whole d label → slice_get whole p ≡ Some s → is_arm s.stmt ≡ true → d ≡ p → ⊥
not-arm whole d label p s it here arm = apart-do whole d label p s it here is_arm (λ e. let h : false ≡ true = e ∙ arm in absurd cc)

module _ (whole : List Labelled) (are : AreLabelled whole) (ended : EndsWithEnd whole) (nested : first_unnested [] whole ≡ None) where
  -- a DO in an arm ends in it
  pub ends-in_arm : (p d label : ℕ) → BeginsArm whole p → IsDo whole d label → p < d → d < end_of_arm whole p → statement_of whole label < end_of_arm whole p
  ends-in_arm p d label begins it lt inside = ends-within whole are ended nested p d label (Block begins.is_last) begins.opens it lt inside

  in_block : (n p d label : ℕ) → d ≤ p + n → BeginsArm whole p → IsDo whole d label → p < d → d < end_of_block whole p → statement_of whole label < end_of_block whole p
  in_block zero p d label reach begins it lt inside = absurd (omega (arith, reach, lt))
  in_block (suc n) p d label reach begins it lt inside = elim (arm_or_block whole p) as (λ _. statement_of whole label < end_of_block whole p) [
    | inl same ↦
        let within : d < end_of_arm whole p = omega (arith, inside, same) in
        omega (arith, same, ends-in_arm p d label begins it lt within)
    | inr next ↦
        let e = end_of_arm whole p in
        let beyond : e < end_of_block whole e = end_of_block-later whole e in
        let later : p + 1 ≤ e = end_after-later true 0 (drop (p + 1) whole) (p + 1) in
        elim (cases_lt d e) as (λ _. statement_of whole label < end_of_block whole p) [
          | inl less ↦ omega (arith, next.block, beyond, ends-in_arm p d label begins it lt less)
          | inr ge ↦
              let apart : d ≡ e → ⊥ = not-arm whole d label e next.s it next.stands next.its in
              let more : e < d = omega (arith, ge, apart) in
              let rest : statement_of whole label < end_of_block whole e = in_block n e d label (omega (arith, reach, later)) (begins-arm whole e next.s next.stands (arm-begins next.s.stmt next.its)) it more (omega (arith, inside, next.block)) in
              omega (arith, rest, next.block)
        ]
  ]

  -- a DO in a block ends in it
  pub ends-in_block : (p d label : ℕ) → BeginsArm whole p → IsDo whole d label → p < d → d < end_of_block whole p → statement_of whole label < end_of_block whole p
  ends-in_block p d label begins it lt inside = in_block d p d label (omega arith) begins it lt inside

  -- ---- control that falls from above a DO

  module _ (d label : ℕ) (spot : Spot whole d label) where
    inside-d : d < length whole
    inside-d = slice_get_within whole d spot.it.s spot.it.stands

    falls-block : (p : ℕ) (s : Labelled) → slice_get whole p ≡ Some s → is_arm s.stmt ≡ true → p < d → first_of whole d < first_of whole (end_of_block whole p) → first_of whole (end_of_block whole p) ≤ next_of whole d label spot → ⊥
    falls-block p s here arm lt after upto =
        let block = end_of_block whole p in
        let within : block ≤ length whole = end_of_block-within whole p (slice_get_within whole p s here) in
        elim (cases_lt d block) as (λ _. ⊥) [
          | inl inside ↦
              let ends : statement_of whole label < block = ends-in_block p d label (begins-arm whole p s here (arm-begins s.stmt arm)) spot.it lt inside in
              omega (arith, past whole d label spot block ends within, upto)
          | inr ge ↦ omega (arith, after, first-rises whole block d ge (omega (arith, inside-d)))
        ]

    falls-by : (n p : ℕ) → p + n ≡ d → first_of whole d < met whole p → met whole p ≤ next_of whole d label spot → ⊥
    falls-by zero p sum after upto =
        let own : met whole d ≡ first_of whole d = met-own whole d spot.it.s spot.it.stands (ap is_arm spot.it.is) (ap is_executable spot.it.is) in
        let same : p ≡ d = omega (arith, sum) in
        omega (arith, own, after, ap (met whole) same)
    falls-by (suc n) p sum after upto =
        let here = item_at whole p (omega (arith, sum, inside-d)) in
        elim (cases_Bool (is_arm here.0.stmt)) as (λ _. ⊥) [
          | inl arm ↦
              let at = met-arm whole p here.0 here.1 arm in
              falls-block p here.0 here.1 arm (omega (arith, sum)) (omega (arith, after, at)) (omega (arith, upto, at))
          | inr no_arm ↦ elim (cases_Bool (is_executable here.0.stmt)) as (λ _. ⊥) [
            | inl own ↦ omega (arith, after, met-own whole p here.0 here.1 no_arm own, first-rises whole p d (omega (arith, sum)) (omega (arith, inside-d)))
            | inr none ↦
                let at = met-passed whole p here.0 here.1 no_arm none in
                falls-by n (p + 1) (omega (arith, sum)) (omega (arith, after, at)) (omega (arith, upto, at))
          ]
        ]

    -- it doesn't come into the range
    pub falls-outside : (p : ℕ) → p ≤ d → first_of whole d < met whole p → met whole p ≤ next_of whole d label spot → ⊥
    falls-outside p le after upto = falls-by (d - p) p (omega (arith, le)) after upto
