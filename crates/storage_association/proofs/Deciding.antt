-- The test of places means what is said of right places.
use Rattle.std.proofs.Common.{◌≡◌, ℕ, ⊎_elim, true, false, List, [], ◌∷◌, ◌++◌, length, Contains, Option, sym, ap, ◌∙◌, arith}
use Rattle.std.specs.List.{list_any}
use Rattle.std.proofs.lemmas.Bool.{or_parts}
use Rattle.std.proofs.lemmas.List.Elements.{Contains-append_left, Contains-append_right, Contains-append_cases, Contains-push}
use Rattle.std.proofs.lemmas.List.Folds.{list_any-append}
use Rattle.f77_tree.specs.Places.{Equation, same_block}
use Rattle.layout_rules.specs.Storage.{Spot, Standing, are_right}
use Rattle.storage_association.specs.Storages.{AreRight}
use Rattle.layout_rules.proofs.RightPlaces.{same_block-itself, right-yes as placed-right}
use Rattle.layout_rules.proofs.StandingLemmas.{first_if, first-here}
use Rattle.layout_rules.specs.Standings.{firsts_after}
use Rattle.layout_rules.specs.Spots.{storage_at}

-- ---- first names of blocks

-- a first name, and the name of COMMON that it is
record IsFirst (seen xs : List Standing) (x : ℕ) : Type 0 where
  standing : Standing
  stands : Contains xs standing
  name_is : standing.name ≡ x
  unseen : list_any (λ a. same_block a.block standing.block) seen ≡ false

any-left : (block : Option (List ℕ)) (seen : List Standing) (s : Standing) → list_any (λ a. same_block a.block block) (seen ++ s ∷ []) ≡ false → (list_any (λ a. same_block a.block block) seen ≡ false) × (same_block s.block block ≡ false)
any-left block seen s h =
    let parts = or_parts _ _ (sym (list_any-append (λ a. same_block a.block block) seen (s ∷ [])) ∙ h) in
    (parts.0, (or_parts _ _ parts.1).0)

is-first : (seen xs : List Standing) (x : ℕ) → Contains (firsts_after seen xs) x → IsFirst seen xs x
is-first seen [] x h = absurd (omega (arith, h.1))
is-first seen (s ∷ xs) x h =
    ⊎_elim
    (λ here. let f = first-here seen s x here in record { standing = s; stands = Contains-append_left (s ∷ []) xs s (Contains-push [] s); name_is = f.1; unseen = f.0 })
    (λ there.
    let f = is-first (seen ++ s ∷ []) xs x there in
    record { standing = f.standing; stands = Contains-append_right (s ∷ []) xs f.standing f.stands; name_is = f.name_is; unseen = (any-left f.standing.block seen s f.unseen).0 })
    (Contains-append_cases (first_if seen s) (firsts_after (seen ++ s ∷ []) xs) x h)

-- first names that share a storage are one, where names of COMMON that do are of one block
module _ (spots : List Spot) where
  abbrev OneBlock : List Standing → Type 0
  OneBlock xs = (a b : Standing) → Contains xs a → Contains xs b → storage_at spots a.name ≡ storage_at spots b.name → a.block ≡ b.block

  firsts-differ : (seen xs : List Standing) → OneBlock xs → (x y : ℕ) → Contains (firsts_after seen xs) x → Contains (firsts_after seen xs) y → storage_at spots x ≡ storage_at spots y → x ≡ y
  firsts-differ seen [] one x y hx hy same = absurd (omega (arith, hx.1))
  firsts-differ seen (s ∷ xs) one x y hx hy same =
      let head = first_if seen s in
      let rest = firsts_after (seen ++ s ∷ []) xs in
      let s_in : Contains (s ∷ xs) s = Contains-append_left (s ∷ []) xs s (Contains-push [] s) in
      let clash : (z w : ℕ) → s.name ≡ z → Contains rest w → storage_at spots z ≡ storage_at spots w → ⊥ = λ z w e there shared.
      let f = is-first (seen ++ s ∷ []) xs w there in
      let block = one s f.standing s_in (Contains-append_right (s ∷ []) xs f.standing f.stands) (ap (λ k. storage_at spots k) e ∙ shared ∙ sym (ap (λ k. storage_at spots k) f.name_is)) in
      let yes' : same_block s.block f.standing.block ≡ true = ap (same_block s.block) (sym block) ∙ same_block-itself s.block in
      let impossible : true ≡ false = sym yes' ∙ (any-left f.standing.block seen s f.unseen).1 in
      absurd cc
      in
      ⊎_elim
      (λ hereX. ⊎_elim
      (λ hereY. sym (first-here seen s x hereX).1 ∙ (first-here seen s y hereY).1)
      (λ thereY. absurd (clash x y (first-here seen s x hereX).1 thereY same))
      (Contains-append_cases head rest y hy))
      (λ thereX. ⊎_elim
      (λ hereY. absurd (clash y x (first-here seen s y hereY).1 thereX (sym same)))
      (λ thereY. firsts-differ (seen ++ s ∷ []) xs (λ a b ia ib. one a b (Contains-append_right (s ∷ []) xs a ia) (Contains-append_right (s ∷ []) xs b ib)) x y thereX thereY same)
      (Contains-append_cases head rest y hy))
      (Contains-append_cases head rest x hx)

pub right-yes : (spots : List Spot) (standings : List Standing) (all : List Equation) → are_right (length spots) spots standings all ≡ true → AreRight spots (firsts_after [] standings) all
right-yes spots standings all h =
    let right = placed-right (length spots) spots standings all h in
    record { kept = right.kept; apart = firsts-differ spots [] standings right.apart; begins = λ x y first. right.begins x first y }
