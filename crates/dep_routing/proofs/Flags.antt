-- Flags that tell which executables can trap by their text.
use Rattle.std.proofs.Common.{◌≡◌, ℕ, ◌+◌, ◌<◌, ◌≤◌, ◌↔◌, Bool, true, false, List, [], ◌∷◌, ◌++◌, length, get_or, Option, Some, None, Result, Ok, Err, sym, ap, subst, ◌∙◌, ⊎_elim, length-append, arith}
use Rattle.std.specs.Prelude.{IfOk, slice_get}
use Rattle.std.proofs.lemmas.Bool.{cases_lt, false≢true}
use Rattle.std.proofs.lemmas.List.{get_or_append_left, get_or_past, get_or_push}
use Rattle.std.proofs.lemmas.Option.{slice_get_past}
use Rattle.f77_tree.specs.declared.programs.Exec.{Exec}
use Rattle.f77_tree.specs.declared.programs.Program.{Program}
use Rattle.f77_tree.specs.Known.{ExecMayTrap}
use Rattle.cfg_build.specs.Passes.{kind_in}
use Rattle.dep_routing.specs.Touches.{CanTrapAt, IsFlagged}

-- the flags of the executables below a number
pub record TellFlags (p : Program) (i : ℕ) (flags : List Bool) : Type 0 where
  pub count : length flags ≡ i
  pub each : (k : ℕ) → k < i → IsFlagged flags k ↔ CanTrapAt p k

pub flag-more : (p : Program) (i : ℕ) (flags : List Bool) (exec : Exec) (flag : Bool) → slice_get p.execs i ≡ Some exec → (flag ≡ true) ↔ ExecMayTrap p.names exec.kind → TellFlags p i flags → TellFlags p (i + 1) (flags ++ flag ∷ [])
flag-more p i flags exec flag at told before = record {
  count = let count = before.count in let more = length-append flags (flag ∷ []) in omega (arith, count, more);
  each = λ k below. ⊎_elim
      (λ (less : k < i).
      let count = before.count in
      let same : get_or (flags ++ flag ∷ []) k false ≡ get_or flags k false = get_or_append_left flags (flag ∷ []) false k (omega (arith, less, count)) in
      (λ h. (before.each k less).0 (sym same ∙ h), λ h. same ∙ (before.each k less).1 h))
      (λ (most : i ≤ k).
      let is : i ≡ k = omega (arith, most, below) in
      subst (λ (n : ℕ). IsFlagged (flags ++ flag ∷ []) n ↔ CanTrapAt p n) is here)
      (cases_lt k i);
}
  where
    same_kind : exec.kind ≡ kind_in (slice_get p.execs i)
    same_kind = sym (ap kind_in at)

    value : get_or (flags ++ flag ∷ []) i false ≡ flag
    value = get_or_push flags flag false i before.count

    here : IsFlagged (flags ++ flag ∷ []) i ↔ CanTrapAt p i
    here = (
      λ h. subst (λ x. ExecMayTrap p.names x) same_kind (told.0 (sym value ∙ h)),
      λ can. value ∙ told.1 (subst (λ x. ExecMayTrap p.names x) (sym same_kind) can),
    )

pub flags-all : (p : Program) (i : ℕ) (flags : List Bool) → length p.execs ≤ i → TellFlags p i flags → (k : ℕ) → IsFlagged flags k ↔ CanTrapAt p k
flags-all p i flags whole told k = ⊎_elim
    (λ (less : k < i). told.each k less)
    (λ (most : i ≤ k).
    let count = told.count in
    let none : slice_get p.execs k ≡ None = slice_get_past p.execs k (omega (arith, whole, most)) in
    let off : get_or flags k false ≡ false = get_or_past flags k false (omega (arith, count, most)) in
    let ends : CanTrapAt p k → ⊥ = subst (λ (o : Option Exec). ExecMayTrap p.names (kind_in o) → ⊥) (sym none) (λ can. can) in
    (λ h. absurd (false≢true (sym off ∙ h)), λ can. absurd (ends can)))
    (cases_lt k i)

-- what holds of a result holds as told otherwise
pub if-ok : {A E : Type 0} (r : Result A E) (P Q : A → Type 0) → ((x : A) → P x → Q x) → IfOk r P → IfOk r Q
if-ok (Ok x) P Q step h = step x h
if-ok (Err e) P Q step h = h
