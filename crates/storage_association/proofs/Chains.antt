-- The names of a block of COMMON are in one storage, and right places pass the test.
use Rattle.std.proofs.Common.{◌≡◌, ℕ, ⊎_elim, pos, Bool, true, false, cond, ◌==◌, List, [], ◌∷◌, ◌++◌, length, Contains, Option, Some, None, refl, sym, ap, subst, ◌∙◌, arith, append_assoc}
use Rattle.std.specs.Prelude.{fold}
use Rattle.std.specs.List.{list_any}
use Rattle.std.proofs.lemmas.Bool.{cases_Bool}
use Rattle.std.proofs.lemmas.List.Elements.{Contains-append_left, Contains-append_right, Contains-append_cases, Contains-push, Contains-push_cases}
use Rattle.f77_tree.specs.declared.programs.NameInfo.{NameInfo}
use Rattle.f77_tree.specs.Places.{Equation}
use Rattle.layout_rules.specs.Storage.{Spot, Standing, with_standing, last_standing, following, standing_equations, are_right, size_at}
use Rattle.storage_association.specs.Storages.{AreRight}
use Rattle.layout_rules.specs.Standings.{firsts_after}
use Rattle.layout_rules.specs.Spots.{storage_at}
use Rattle.layout_rules.proofs.RightPlaces.{right-from as placed-right}
use Rattle.layout_rules.proofs.StandingLemmas.{first_if, first-there, stands-each, last-stands, last-none}

-- ---- no name stands twice

abbrev pub Once : List Standing → Type 0
Once xs = (a b : Standing) → Contains xs a → Contains xs b → a.name ≡ b.name → a.block ≡ b.block

once-with : (xs : List Standing) (s : Standing) → Once xs → Once (with_standing xs s)
once-with xs s once =
    ⊎_elim
    (λ (h : list_any (λ a. a.name == s.name) xs ≡ true). subst (λ (b : Bool). Once (cond b xs (xs ++ s ∷ []))) (sym h) once)
    (λ (h : list_any (λ a. a.name == s.name) xs ≡ false).
    let clash : (a : Standing) → Contains xs a → a.name ≡ s.name → ⊥ = λ a ia e. let impossible : true ≡ false = sym (stands-each xs a ia) ∙ ap (λ k. list_any (λ x. x.name == k) xs) e ∙ h in absurd cc in
    subst (λ (b : Bool). Once (cond b xs (xs ++ s ∷ []))) (sym h)
    (λ a b ia ib e. grind (arith, Contains-push_cases xs s a ia, Contains-push_cases xs s b ib, once a b, clash a, clash b)))
    (cases_Bool (list_any (λ a. a.name == s.name) xs))

pub once-all : (xs came : List Standing) → Once xs → Once (fold with_standing xs came)
once-all xs [] once = once
once-all xs (s ∷ came) once = once-all (with_standing xs s) came (once-with xs s once)

-- ---- each name of COMMON is in the storage of its block's first name

module _ (names : List NameInfo) (spots : List Spot) (whole : List Standing) (firsts : List ℕ) where
  record HasFirst (a : Standing) : Type 0 where
    first : Standing
    begins : Contains firsts first.name
    stands : Contains whole first
    block_is : first.block ≡ a.block
    together : storage_at spots first.name ≡ storage_at spots a.name

  has-first : (seen xs : List Standing) (s : Standing) → ((k : ℕ) → Contains (firsts_after seen (s ∷ xs)) k → Contains firsts k) → ((e : Equation) → Contains (standing_equations names seen (s ∷ xs)) e → storage_at spots e.from ≡ storage_at spots e.to) → Contains whole s → ((a : Standing) → Contains seen a → HasFirst a) → (last : Option ℕ) → last_standing s.block seen ≡ last → HasFirst s
  has-first seen xs s firsts_in equal stands before None e =
      record { first = s; begins = firsts_in s.name (Contains-append_left (first_if seen s) (firsts_after (seen ++ s ∷ []) xs) s.name (first-there seen s (last-none s.block seen e))); stands = stands; block_is = refl; together = refl }
  has-first seen xs s firsts_in equal stands before (Some b) e =
      let f = last-stands s.block seen b e in
      let has = before f.standing f.stands in
      let equation : Equation = record { from = b; to = s.name; distance = pos (size_at names b) } in
      let here : Contains (following names (last_standing s.block seen) s.name) equation = subst (λ (l : Option ℕ). Contains (following names l s.name) equation) (sym e) (Contains-push [] equation) in
      let joined = equal equation (Contains-append_left (following names (last_standing s.block seen) s.name) (standing_equations names (seen ++ s ∷ []) xs) equation here) in
      record { first = has.first; begins = has.begins; stands = has.stands; block_is = has.block_is ∙ f.block_is; together = has.together ∙ ap (λ k. storage_at spots k) f.name_is ∙ joined }

  chain : (seen xs : List Standing) → ((k : ℕ) → Contains (firsts_after seen xs) k → Contains firsts k) → ((e : Equation) → Contains (standing_equations names seen xs) e → storage_at spots e.from ≡ storage_at spots e.to) → ((a : Standing) → Contains xs a → Contains whole a) → ((a : Standing) → Contains seen a → HasFirst a) → (a : Standing) → Contains (seen ++ xs) a → HasFirst a
  chain seen [] firsts_in equal stands before a h = ⊎_elim (λ l. before a l) (λ (r : Contains [] a). absurd (omega (arith, r.1))) (Contains-append_cases seen [] a h)
  chain seen (s ∷ xs) firsts_in equal stands before a h =
      let s_in : Contains (s ∷ xs) s = Contains-append_left (s ∷ []) xs s (Contains-push [] s) in
      let own : HasFirst s = has-first seen xs s firsts_in equal (stands s s_in) before (last_standing s.block seen) refl in
      chain (seen ++ s ∷ []) xs
      (λ k there. firsts_in k (Contains-append_right (first_if seen s) (firsts_after (seen ++ s ∷ []) xs) k there))
      (λ e there. equal e (Contains-append_right (following names (last_standing s.block seen) s.name) (standing_equations names (seen ++ s ∷ []) xs) e there))
      (λ x there. stands x (Contains-append_right (s ∷ []) xs x there))
      (λ x there. ⊎_elim (λ old. before x old) (λ (new : s ≡ x). subst HasFirst new own) (Contains-push_cases seen s x there))
      a (subst (λ (ys : List Standing). Contains ys a) (sym (append_assoc seen (s ∷ []) xs)) h)

-- ---- right places pass the test

module _ (names : List NameInfo) (spots : List Spot) (standings : List Standing) (all : List Equation) (right : AreRight spots (firsts_after [] standings) all) where
  one-block : Once standings → ((e : Equation) → Contains (standing_equations names [] standings) e → storage_at spots e.from ≡ storage_at spots e.to) → (a b : Standing) → Contains standings a → Contains standings b → storage_at spots a.name ≡ storage_at spots b.name → a.block ≡ b.block
  one-block once equal a b ia ib share =
      let has = chain names spots standings (firsts_after [] standings) [] standings (λ k h. h) equal (λ x h. h) (λ x (h : Contains [] x). absurd (omega (arith, h.1))) in
      let fa = has a ia in
      let fb = has b ib in
      let same = right.apart fa.first.name fb.first.name fa.begins fb.begins (fa.together ∙ share ∙ sym fb.together) in
      sym fa.block_is ∙ once fa.first fb.first fa.stands fb.stands same ∙ fb.block_is

  pub right-from : Once standings → ((e : Equation) → Contains (standing_equations names [] standings) e → storage_at spots e.from ≡ storage_at spots e.to) → are_right (length spots) spots standings all ≡ true
  right-from once equal = placed-right (length spots) spots standings all (record { kept = right.kept; apart = one-block once equal; begins = λ x first y. right.begins x y first })
