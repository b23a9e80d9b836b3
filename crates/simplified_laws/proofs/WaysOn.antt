-- How an executable goes on: by a jump of its own, to the successor that is left, or to the range or the exit of a DO.
use Rattle.std.proofs.Common.{◌≡◌, ℕ, zero, suc, ◌<◌, ◌⊎◌, List, [], ◌∷◌, ◌++◌, length, Option, Some, None, refl, ap, ◌∙◌, inl, inr, ⊎_elim, arith}
use Rattle.std.specs.Prelude.{slice_index}
use Rattle.list_laws.specs.Member.{Member}
use Rattle.f77_tree.specs.declared.programs.ExecKind.{ExecKind}
use Rattle.f77_tree.specs.declared.programs.ExecKind.TheVariants.{Assign, Print, Pass, Test, Sign, Pick, DoStart, DoNext, End}
use Rattle.f77_tree.specs.Control.{successors}
use Rattle.f77_tree.specs.Loops.{Loop, begun, incremented}
use Rattle.simplified_laws.specs.LiveWays.{MayTake}
use Rattle.simplified_forms.specs.Simplified.{own_jumps, rest}

pub data IsWay (kind : ExecKind) (d : Option ℕ) (j : ℕ) : Type 0 where
  ByJump : Member (own_jumps kind d) j → IsWay kind d j
  ByRest : rest kind d ≡ Some j → IsWay kind d j
  ByStart : (loop : Loop) → begun kind ≡ Some loop → loop.body ≡ j → IsWay kind d j
  ByNext : (loop : Loop) → incremented kind ≡ Some loop → loop.body ≡ j → IsWay kind d j
  ByExit : (loop : Loop) → begun kind ≡ Some loop → loop.exit ≡ j → IsWay kind d j

-- an only successor
alone : (x i j : ℕ) → i < 1 → slice_index (x ∷ []) i ≡ j → x ≡ j
alone x zero j less is = is
alone x (suc i) j less is = absurd (omega (arith, less))

pick-way : (targets : List ℕ) (other i j : ℕ) → i < length (targets ++ other ∷ []) → slice_index (targets ++ other ∷ []) i ≡ j → Member targets j ⊎ (other ≡ j)
pick-way [] other zero j less is = inr is
pick-way [] other (suc i) j less is = absurd (omega (arith, less))
pick-way (x ∷ xs) other zero j less is = inl (inl is)
pick-way (x ∷ xs) other (suc i) j less is = ⊎_elim
    (λ (m : Member xs j). inl (inr m))
    (λ (same : other ≡ j). inr same)
    (pick-way xs other i j (omega (arith, less)) is)

-- the decision that is made is for it
decided-is : (x i : ℕ) → (Some x ≡ None) ⊎ (Some x ≡ Some i) → x ≡ i
decided-is x i (inl none) = absurd cc
decided-is x i (inr same) = cc

pub way-of : (kind : ExecKind) (d : Option ℕ) (i j : ℕ) → i < length (successors kind) → MayTake kind d i → slice_index (successors kind) i ≡ j → IsWay kind d j
way-of (Assign target value next) d i j less may is = ByRest (ap Some (alone next i j less is))
way-of (Print items next) d i j less may is = ByRest (ap Some (alone next i j less is))
way-of (Pass next) d i j less may is = ByRest (ap Some (alone next i j less is))
way-of (Test c a b) None zero j less may is = ByJump (inl is)
way-of (Test c a b) None (suc zero) j less may is = ByRest (ap Some is)
way-of (Test c a b) None (suc (suc i)) j less may is = absurd (omega (arith, less))
way-of (Test c a b) (Some x) i j less may is = ByRest (ap Some (ap (slice_index (a ∷ b ∷ [])) (decided-is x i (may refl)) ∙ is))
way-of (Sign e a b c) None zero j less may is = ByJump (inl is)
way-of (Sign e a b c) None (suc zero) j less may is = ByJump (inr (inl is))
way-of (Sign e a b c) None (suc (suc zero)) j less may is = ByJump (inr (inr (inl is)))
way-of (Sign e a b c) None (suc (suc (suc i))) j less may is = absurd (omega (arith, less))
way-of (Sign e a b c) (Some x) i j less may is = ByRest (ap Some (ap (slice_index (a ∷ b ∷ c ∷ [])) (decided-is x i (may refl)) ∙ is))
way-of (Pick e targets other) None i j less may is = ⊎_elim
    (λ (m : Member targets j). ByJump m)
    (λ (same : other ≡ j). ByRest (ap Some same))
    (pick-way targets other i j less is)
way-of (Pick e targets other) (Some x) i j less may is = ByRest (ap Some (ap (slice_index (targets ++ other ∷ [])) (decided-is x i (may refl)) ∙ is))
way-of (DoStart loop_no var first last step body exit) d zero j less may is = ByStart (record { number = loop_no; variable = var; body = body; exit = exit }) refl is
way-of (DoStart loop_no var first last step body exit) d (suc zero) j less may is = ByExit (record { number = loop_no; variable = var; body = body; exit = exit }) refl is
way-of (DoStart loop_no var first last step body exit) d (suc (suc i)) j less may is = absurd (omega (arith, less))
way-of (DoNext loop_no var body exit) d zero j less may is = ByNext (record { number = loop_no; variable = var; body = body; exit = exit }) refl is
way-of (DoNext loop_no var body exit) d (suc zero) j less may is = ByRest (ap Some is)
way-of (DoNext loop_no var body exit) d (suc (suc i)) j less may is = absurd (omega (arith, less))
way-of End d i j less may is = absurd (omega (arith, less))
