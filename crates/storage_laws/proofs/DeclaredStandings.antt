-- The names that stand in COMMON, one after another, give the equations that the names of each block give.
use Rattle.std.proofs.Common.{◌≡◌, ℕ, ⊎_elim, Bool, true, false, cond, List, [], ◌∷◌, ◌++◌, map, All, Contains, Option, Some, None, refl, sym, ap, subst, ◌∙◌, arith}
use Rattle.std.specs.Prelude.{filter}
use Rattle.std.proofs.lemmas.Bool.{cond_both}
use Rattle.std.proofs.lemmas.List.Elements.{All-head, All-tail, Contains-append_left, Contains-append_right, Contains-append_cases}
use Rattle.f77_tree.specs.declared.programs.NameInfo.{NameInfo}
use Rattle.f77_tree.specs.Places.{Equation, same_block}
use Rattle.f77_tree.proofs.NameLemmas.{same_block-same}
use Rattle.layout_rules.proofs.RightPlaces.{same_block-itself}
use Rattle.layout_rules.proofs.StandingLemmas.{last-push}
use Rattle.layout_rules.specs.Storage.{Standing, last_standing, following, standing_equations}

abbrev pub name_of : Standing → ℕ
name_of s = s.name

-- ---- the equations of one block

abbrev pub is_of : Option (List ℕ) → Standing → Bool
is_of block s = same_block s.block block

-- the names of a block, as they stand
abbrev pub names_standing : Option (List ℕ) → List Standing → List ℕ
names_standing block all = map name_of (filter (is_of block) all)

-- a block that some standing names, with the equation
pub record IsOfBlock (Q : Option (List ℕ) → Type 0) (holds : Option (List ℕ) → Type 0) : Type 0 where
  pub block : Option (List ℕ)
  pub told : Q block
  pub there : holds block

module _ (names : List NameInfo) where
  -- names one after another, after a name if there is one
  abbrev pub beyond : Option ℕ → List ℕ → List Equation
  beyond last [] = []
  beyond last (x ∷ xs) = following names last x ++ beyond (Some x) xs

  -- the equations of the standings that are of a block
  abbrev in_block : Option (List ℕ) → (seen more : List Standing) → List Equation
  in_block block seen [] = []
  in_block block seen (s ∷ more) = cond (is_of block s) (following names (last_standing s.block seen) s.name) [] ++ in_block block (seen ++ s ∷ []) more

  in_block-after : (block : Option (List ℕ)) (seen more : List Standing) → in_block block seen more ≡ beyond (last_standing block seen) (map name_of (filter (is_of block) more))
  in_block-after block seen [] = refl
  in_block-after block seen (s ∷ more) = by (is_of block s) refl (in_block-after block (seen ++ s ∷ []) more)
    where
      by : (b : Bool) → is_of block s ≡ b → in_block block (seen ++ s ∷ []) more ≡ beyond (last_standing block (seen ++ s ∷ [])) (map name_of (filter (is_of block) more))
          → cond b (following names (last_standing s.block seen) s.name) [] ++ in_block block (seen ++ s ∷ []) more ≡ beyond (last_standing block seen) (map name_of (cond b (s ∷ filter (is_of block) more) (filter (is_of block) more)))
      by true is later =
          let same : s.block ≡ block = same_block-same s.block block is in
          let last : last_standing block (seen ++ s ∷ []) ≡ Some s.name = last-push block seen s ∙ ap (λ b. cond b (Some s.name) (last_standing block seen)) is in
          ap (λ (l : Option ℕ). following names l s.name ++ in_block block (seen ++ s ∷ []) more) (ap (λ (o : Option (List ℕ)). last_standing o seen) same)
          ∙ ap (λ (es : List Equation). following names (last_standing block seen) s.name ++ es) (later ∙ ap (λ (l : Option ℕ). beyond l (map name_of (filter (is_of block) more))) last)
      by false is later =
          let last : last_standing block (seen ++ s ∷ []) ≡ last_standing block seen = last-push block seen s ∙ ap (λ b. cond b (Some s.name) (last_standing block seen)) is in
          later ∙ ap (λ (l : Option ℕ). beyond l (map name_of (filter (is_of block) more))) last

  -- ---- all of them

  from_block : (block : Option (List ℕ)) (seen more : List Standing) (e : Equation) → Contains (in_block block seen more) e → Contains (standing_equations names seen more) e
  from_block block seen [] e there = absurd (omega (arith, there.1))
  from_block block seen (s ∷ more) e there =
      let here = following names (last_standing s.block seen) s.name in
      ⊎_elim
      (λ first. Contains-append_left here (standing_equations names (seen ++ s ∷ []) more) e (cond_both (is_of block s) here [] (λ es. Contains es e → Contains here e) (λ is h. h) (λ other none. absurd (omega (arith, none.1))) first))
      (λ later. Contains-append_right here (standing_equations names (seen ++ s ∷ []) more) e (from_block block (seen ++ s ∷ []) more e later))
      (Contains-append_cases (cond (is_of block s) here []) (in_block block (seen ++ s ∷ []) more) e there)

  to_block : (Q : Option (List ℕ) → Type 0) (seen more : List Standing) (e : Equation) → All (λ s. Q s.block) more → Contains (standing_equations names seen more) e → IsOfBlock Q (λ block. Contains (in_block block seen more) e)
  to_block Q seen [] e told there = absurd (omega (arith, there.1))
  to_block Q seen (s ∷ more) e told there =
      let here = following names (last_standing s.block seen) s.name in
      ⊎_elim
      (λ first. record {
        block = s.block;
        told = All-head (λ (a : Standing). Q a.block) s more told;
        there = Contains-append_left (cond (is_of s.block s) here []) (in_block s.block (seen ++ s ∷ []) more) e (subst (λ (b : Bool). Contains (cond b here []) e) (sym (same_block-itself s.block)) first);
      })
      (λ later.
      let rest = to_block Q (seen ++ s ∷ []) more e (All-tail (λ (a : Standing). Q a.block) s more told) later in
      record {
        block = rest.block;
        told = rest.told;
        there = Contains-append_right (cond (is_of rest.block s) here []) (in_block rest.block (seen ++ s ∷ []) more) e rest.there;
      })
      (Contains-append_cases here (standing_equations names (seen ++ s ∷ []) more) e there)

  pub standing_equations-from : (block : Option (List ℕ)) (all : List Standing) (e : Equation) → Contains (beyond None (names_standing block all)) e → Contains (standing_equations names [] all) e
  standing_equations-from block all e there = from_block block [] all e (subst (λ (es : List Equation). Contains es e) (sym (in_block-after block [] all)) there)

  pub standing_equations-to : (Q : Option (List ℕ) → Type 0) (all : List Standing) (e : Equation) → All (λ s. Q s.block) all → Contains (standing_equations names [] all) e → IsOfBlock Q (λ block. Contains (beyond None (names_standing block all)) e)
  standing_equations-to Q all e told there =
      let one = to_block Q [] all e told there in
      record { block = one.block; told = one.told; there = subst (λ (es : List Equation). Contains es e) (in_block-after one.block [] all) one.there }
