-- Where no EQUIVALENCE makes the places wrong, they are right.
use Rattle.std.proofs.Common.{◌≡◌, ℕ, suc, ◌<◌, ⊎_elim, pos, true, false, not, List, [], ◌∷◌, ◌++◌, length, Option, Some, None, refl, sym, ap, subst, ◌∙◌, arith, append_assoc, append-nil, Contains}
use Rattle.std.specs.Prelude.{flat_map, ◌&&◌}
use Rattle.std.proofs.lemmas.Bool.{not-false}
use Rattle.std.proofs.lemmas.List.Sums.{fold_push}
use Rattle.std.proofs.lemmas.List.Elements.{Contains-append_left, Contains-append_right, Contains-append_cases}
use Rattle.std.proofs.lemmas.List.Concat.{flat_map-append}
use Rattle.f77_tree.specs.declared.declarations.CommonPart.{CommonPart}
use Rattle.f77_tree.specs.declared.declarations.Member.{Member}
use Rattle.f77_tree.specs.declared.programs.NameInfo.{NameInfo}
use Rattle.f77_tree.specs.declared.statements.Labelled.{Labelled}
use Rattle.f77_tree.specs.declared.statements.Stmt.{Stmt}
use Rattle.f77_tree.specs.declared.statements.Stmt.TheVariants.{Equivalence}
use Rattle.f77_tree.specs.Declarations.{CommonOnce}
use Rattle.f77_tree.specs.Places.{Equation}
use Rattle.layout_rules.specs.Faults.{first_line}
use Rattle.layout_rules.specs.Declarations.{all_commons, all_groups, groups_of}
use Rattle.layout_rules.specs.StorageFaults.{is_equivalence, gives_places, has_wrong_storage}
use Rattle.layout_rules.specs.Storage.{Standing, standings, standings_of, size_at, spots_by, linked, alone, last_standing, following, standing_equations, equations, are_right}
use Rattle.layout_rules.specs.Standings.{ArePartsKnown, firsts_after}
use Rattle.layout_rules.proofs.StorageLines.{kept-after, right_statement}
use Rattle.layout_rules.proofs.StandingLemmas.{equations-push, last-stands, first_if, first-here}
use Rattle.storage_laws.proofs.PlacedEquations.{AreDistinct, absent, standings-once, standings-distinct, standings-in, AreInTable}
use Rattle.layout_rules.proofs.RightPlaces.{right-from}
use Rattle.storage_laws.proofs.PlacedCommon.{AreApart, nothing-apart, stands_in, apart-first, apart-later}

-- ---- names of COMMON, one by one

module _ (names : List NameInfo) (count : ℕ) where
  abbrev from_common : List Standing → List Equation
  from_common xs = standing_equations names [] xs

  abbrev IsSoFar : List Standing → Type 0
  IsSoFar xs = AreApart count xs (from_common xs) (spots_by count (from_common xs))

  -- the places that these equations give
  abbrev IsBy : List Standing → List Equation → Type 0
  IsBy xs all = AreApart count xs all (spots_by count all)

  next : (xs : List Standing) (s : Standing) → AreInTable count xs → s.name < count → stands_in xs s.name ≡ false → IsSoFar xs → IsSoFar (xs ++ s ∷ [])
  next xs s known lt fresh old = by (last_standing s.block xs) refl
    where
      by : (last : Option ℕ) → last_standing s.block xs ≡ last → IsSoFar (xs ++ s ∷ [])
      by None none =
          let same : from_common (xs ++ s ∷ []) ≡ from_common xs = equations-push names [] xs s ∙ ap (λ l. from_common xs ++ following names l s.name) none ∙ append-nil (from_common xs) in
          subst (IsBy (xs ++ s ∷ [])) (sym same) (apart-first count xs (from_common xs) (spots_by count (from_common xs)) s known lt fresh old none)
      by (Some b) some =
          let link : Equation = record { from = b; to = s.name; distance = pos (size_at names b) } in
          let same : from_common (xs ++ s ∷ []) ≡ from_common xs ++ following names (Some b) s.name = equations-push names [] xs s ∙ ap (λ l. from_common xs ++ following names l s.name) some in
          let now = apart-later count xs (from_common xs) (spots_by count (from_common xs)) s known lt fresh old b (last-stands s.block xs b some) (size_at names b) some in
          let spots : linked (spots_by count (from_common xs)) link ≡ spots_by count (from_common xs ++ link ∷ []) = sym (fold_push linked (alone count) (from_common xs) link) in
          subst (IsBy (xs ++ s ∷ [])) (sym same) (subst (AreApart count (xs ++ s ∷ []) (from_common xs ++ link ∷ [])) spots now)

  all-apart : (xs rest : List Standing) → AreDistinct (xs ++ rest) → AreInTable count (xs ++ rest) → IsSoFar xs → IsSoFar (xs ++ rest)
  all-apart xs [] once known old = subst IsSoFar (sym (append-nil xs)) old
  all-apart xs (s ∷ rest) once known old =
      let again : (xs ++ s ∷ []) ++ rest ≡ xs ++ s ∷ rest = append_assoc xs (s ∷ []) rest in
      let now = next xs s (λ t h. known t (Contains-append_left xs (s ∷ rest) t h)) (known s (Contains-append_right xs (s ∷ rest) s (0, omega arith, refl))) (absent xs rest s once) old in
      subst IsSoFar again (all-apart (xs ++ s ∷ []) rest (subst AreDistinct (sym again) once) (subst (AreInTable count) (sym again) known) now)

-- first names are in the table
firsts-in : (count : ℕ) (seen xs : List Standing) → AreInTable count xs → (x : ℕ) → Contains (firsts_after seen xs) x → x < count
firsts-in count seen [] known x h = absurd (omega (arith, h.1))
firsts-in count seen (s ∷ xs) known x h =
    ⊎_elim
    (λ here. subst (λ (k : ℕ). k < count) (first-here seen s x here).1 (known s (0, omega arith, refl)))
    (λ there. firsts-in count (seen ++ s ∷ []) xs (λ t g. known t (suc g.0, omega (arith, g.1), g.2)) x there)
    (Contains-append_cases (first_if seen s) (firsts_after (seen ++ s ∷ []) xs) x h)

-- COMMON alone never makes places wrong
pub common-right : (names : List NameInfo) (commons : List CommonPart) → ArePartsKnown names commons → CommonOnce names commons → are_right (length names) (spots_by (length names) (equations names commons [])) (standings names commons) (equations names commons []) ≡ true
common-right names commons parts once =
    let xs = flat_map (standings_of names) commons in
    let count = length names in
    let known = standings-in names count commons parts in
    let so_far = all-apart names count [] xs (standings-distinct names commons once) known (nothing-apart count) in
    let all = standing_equations names [] xs in
    let right : are_right count (spots_by count all) xs all ≡ true = right-from count (spots_by count all) xs all (record { kept = so_far.kept; apart = so_far.apart; begins = λ x h y lt. so_far.begins x y h (firsts-in count [] xs known x h) lt }) in
    let P : List Standing → Type 0 = λ ys. are_right count (spots_by count (standing_equations names [] ys ++ [])) ys (standing_equations names [] ys ++ []) ≡ true in
    subst P (sym (standings-once names commons once)) (subst (λ (es : List Equation). are_right count (spots_by count es) xs es ≡ true) (sym (append-nil all)) right)

-- ---- EQUIVALENCE, one by one

groups-push : (above : List Labelled) (s : Labelled) → all_groups (above ++ s ∷ []) ≡ all_groups above ++ groups_of s.stmt
groups-push above s = flat_map-append (λ (t : Labelled). groups_of t.stmt) above (s ∷ []) ∙ ap (λ (groups : List (List Member)). all_groups above ++ groups) (append-nil (groups_of s.stmt))

module _ (names placed : List NameInfo) (whole : List Labelled) where
  abbrev Right : List (List Member) → Type 0
  Right groups = gives_places names whole groups ≡ true

  -- a statement without fault leaves right places right
  right-next : (above : List Labelled) (stmt : Stmt) → (is_equivalence stmt && not (gives_places names whole (all_groups above ++ groups_of stmt))) ≡ false → Right (all_groups above) → Right (all_groups above ++ groups_of stmt)
  right-next above (Equivalence groups) clear right = not-false (gives_places names whole (all_groups above ++ groups)) clear
  right-next above _ clear right = subst Right (sym (append-nil (all_groups above))) right

-- where storage is without fault, all statements give right places
pub all-right : (names placed : List NameInfo) (whole : List Labelled) → ArePartsKnown names (all_commons whole) → CommonOnce names (all_commons whole) → first_line (has_wrong_storage names placed whole) whole ≡ None → gives_places names whole (all_groups whole) ≡ true
all-right names placed whole parts once none =
    kept-after (has_wrong_storage names placed whole) (λ stmts. Right names placed whole (all_groups stmts)) (λ above s clear right. subst (Right names placed whole) (sym (groups-push above s)) (right-next names placed whole above s.stmt (right_statement names placed whole above s clear).places right)) [] whole none (common-right names (all_commons whole) parts once)
