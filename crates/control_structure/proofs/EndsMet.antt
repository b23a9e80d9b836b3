-- The stack of the ends that were met, on the way from the last statement to the first.
use Rattle.std.proofs.Common.{◌≡◌, ℕ, zero, suc, ◌+◌, ◌<◌, ◌≤◌, Bool, true, ◌&&◌, if◌then◌else◌, ◌==◌, List, [], ◌∷◌, ◌++◌, ◌⊎◌, inl, inr, reverse, length, slice_get, get_or, set, Option, Some, None, MatchOption, option_to_list, refl, sym, ap, subst, ◌∙◌, arith}
use Rattle.std.proofs.lemmas.Bool.{cases_eq, ne_eqb}
use Rattle.std.proofs.lemmas.List.{reverse-append, get_or-set_same, get_or-set_other, get_or_read, length-set}
use Rattle.f77_tree.specs.declared.statements.Labelled.{Labelled}
use Rattle.layout_rules.specs.declared.nesting.Role.{Role}
use Rattle.layout_rules.specs.declared.nesting.Role.TheVariants.{NextArm, LastArm}
use Rattle.layout_rules.specs.Roles.{role_of}
use Rattle.control_structure.specs.BlockEnds.{end_by, AreEnds}
use Rattle.control_structure.proofs.Stops.{end_at, end_at-step, end_at-le}
use mathlib.Core.Path.{fun_ext}

add_one : (k : ℕ) → k + 1 ≡ suc k
add_one k = omega arith

empty : (xs : List ℕ) → length xs ≡ 0 → xs ≡ []
empty [] h = refl
empty (x ∷ xs) h = absurd (omega (arith, h))

-- the item on top of a stack
pub pushed : (xs : List ℕ) (x none k : ℕ) → get_or (reverse (xs ++ x ∷ [])) k none ≡ get_or (x ∷ reverse xs) k none
pushed xs x none k = ap (λ (ys : List ℕ). get_or ys k none) (reverse-append xs (x ∷ []))

-- without its top each item of a stack stands one place higher
pub popped : (old new : List ℕ) (r : Option ℕ) (a b : ℕ) → old ≡ new ++ option_to_list r → MatchOption r ((a ≡ 0) × (b ≡ 0)) (λ _. b + 1 ≡ a) → a ≡ length old → b ≡ length new → (none k : ℕ) → get_or (reverse new) k none ≡ get_or (reverse old) (k + 1) none
popped old new None a b items cases is_a is_b none k =
    ap (λ (xs : List ℕ). get_or (reverse xs) k none) (empty new (sym is_b ∙ cases.1)) ∙ sym (ap (λ (xs : List ℕ). get_or (reverse xs) (k + 1) none) (empty old (sym is_a ∙ cases.0)))
popped old new (Some x) a b items cases is_a is_b none k =
    sym (ap (λ (xs : List ℕ). get_or (reverse xs) (k + 1) none) items ∙ pushed new x none (k + 1) ∙ ap (λ n. get_or (x ∷ reverse new) n none) (add_one k))

-- an arm in place of the one on top
pub turned : (old middle new : List ℕ) (place : ℕ) → ((none k : ℕ) → get_or (reverse middle) k none ≡ get_or (reverse old) (k + 1) none) → new ≡ middle ++ place ∷ [] → (none inner : ℕ) → get_or (reverse new) inner none ≡ (if (inner == 0) && true then place else get_or (reverse old) inner none)
turned old middle new place popped is none zero = ap (λ (xs : List ℕ). get_or (reverse xs) zero none) is ∙ pushed middle place none zero
turned old middle new place popped is none (suc k) =
    ap (λ (xs : List ℕ). get_or (reverse xs) (suc k) none) is ∙ pushed middle place none (suc k) ∙ (popped none k ∙ ap (λ n. get_or (reverse old) n none) (add_one k))
    ∙ sym (ap (λ b. if b && true then place else get_or (reverse old) (suc k) none) (ne_eqb (suc k) 0 (λ h. absurd (omega (arith, h)))))

-- ---- the walk back

pub record IsWalkBack (arms : Bool) (stmts : List Labelled) (i : ℕ) (met ends : List ℕ) : Type 0 where
  pub stack : (k : ℕ) → get_or (reverse met) k (length stmts) ≡ end_at arms stmts i k
  pub as_many : length ends ≡ length stmts
  pub inside : i ≤ length stmts
  pub told : (place : ℕ) → i ≤ place → place < length stmts → get_or ends place 0 ≡ end_at arms stmts (place + 1) 0

pub IsWalkBack-step : (arms : Bool) (stmts : List Labelled) (i : ℕ) (s : Labelled) (met beyond ends : List ℕ) (top : ℕ) → slice_get stmts i ≡ Some s → i < length stmts → IsWalkBack arms stmts (i + 1) met ends → top ≡ get_or (reverse met) 0 (length stmts)
    → ((none inner : ℕ) → get_or (reverse beyond) inner none ≡ end_by arms (role_of s.stmt) i (λ k. get_or (reverse met) k none) inner) → IsWalkBack arms stmts i beyond (set ends i top)
IsWalkBack-step arms stmts i s met beyond ends top here lt walk is_top is = record {
  stack = λ k. is (length stmts) k ∙ ap (λ (next : ℕ → ℕ). end_by arms (role_of s.stmt) i next k) (fun_ext walk.stack) ∙ sym (end_at-step arms stmts i s here k);
  as_many = length-set ends i top ∙ walk.as_many;
  inside = omega (arith, lt);
  told = λ place le less. elim (cases_eq place i) as (λ _. get_or (set ends i top) place 0 ≡ end_at arms stmts (place + 1) 0) [
    | inl same ↦ subst (λ (n : ℕ). get_or (set ends i top) n 0 ≡ end_at arms stmts (n + 1) 0) (sym same) (get_or-set_same ends i top 0 (omega (arith, walk.as_many, lt)) ∙ (is_top ∙ walk.stack 0))
    | inr other ↦ get_or-set_other ends i place top 0 other ∙ walk.told place (omega (arith, le, other)) less
  ];
}

-- where arms are told, one ends at ELSE IF and ELSE
pub arm_ends : (arms : Bool) (role : Role) (place : ℕ) (next : ℕ → ℕ) (inner : ℕ) → ((role ≡ NextArm) ⊎ (role ≡ LastArm)) → arms ≡ true → (if (inner == 0) && true then place else next inner) ≡ end_by arms role place next inner
arm_ends arms role place next inner is told = elim is as (λ _. (if (inner == 0) && true then place else next inner) ≡ end_by arms role place next inner) [
  | inl one ↦ sym (ap (λ (r : Role). end_by arms r place next inner) one ∙ ap (λ (b : Bool). end_by b NextArm place next inner) told)
  | inr last ↦ sym (ap (λ (r : Role). end_by arms r place next inner) last ∙ ap (λ (b : Bool). end_by b LastArm place next inner) told)
]

pub ends-le : (arms : Bool) (stmts : List Labelled) (ends : List ℕ) (place found : ℕ) → AreEnds arms stmts ends → place < length stmts → found ≡ get_or ends place found → found ≤ length stmts
ends-le arms stmts ends place found are lt read =
    let same = get_or_read ends place found (omega (arith, lt, are.as_many)) read 0 in
    let le = end_at-le arms stmts (place + 1) 0 (omega (arith, lt)) in
    omega (arith, same, are.told place lt, le)
