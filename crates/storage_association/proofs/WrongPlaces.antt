-- The first EQUIVALENCE statement that makes the places wrong.
use Rattle.std.proofs.Common.{◌≡◌, ℕ, zero, suc, ◌+◌, ◌<◌, ◌≤◌, ⊎_elim, Bool, true, false, List, [], ◌∷◌, ◌++◌, length, get_or, take, drop, Some, None, refl, sym, ap, ◌∙◌, arith}
use Rattle.std.specs.Prelude.{◌&&◌, not, fold, flat_map}
use Rattle.std.proofs.lemmas.Bool.{cases_Bool}
use Rattle.std.proofs.lemmas.List.{length-map, take_more, flat_map_more}
use Rattle.std.proofs.lemmas.List.Elements.{Contains-append_left}
use Rattle.std.proofs.lemmas.Option.{slice_get-get_or, slice_get_within, get_or_from_slice_get}
use Rattle.f77_tree.specs.declared.programs.NameInfo.{NameInfo}
use Rattle.f77_tree.specs.declared.statements.Labelled.{Labelled}
use Rattle.f77_tree.specs.Places.{Equation}
use Rattle.layout_rules.specs.Faults.{first_after, first_line}
use Rattle.layout_rules.specs.Declarations.{all_commons, all_groups, groups_of}
use Rattle.layout_rules.specs.Storage.{Spot, standings, standings_of, spots_by, linked, alone, are_right, common_equations}
use Rattle.layout_rules.specs.StorageFaults.{is_equivalence, has_wrong_places, gives_places}
use Rattle.storage_association.specs.CommonStorages.{equations_to, AreRightTo, StayRight, IsFirstWrong}
use Rattle.layout_rules.proofs.Alone.{length-alone}
use Rattle.layout_rules.proofs.FirstLine.{item-is, first_after-next, first_after-here, first_after-end}
use Rattle.storage_association.proofs.Deciding.{right-yes}
use Rattle.storage_association.proofs.Chains.{Once, once-all, right-from}

length-linked : (spots : List Spot) (es : List Equation) → length (fold linked spots es) ≡ length spots
length-linked spots [] = refl
length-linked spots (e ∷ es) = length-linked (linked spots e) es ∙ length-map spots _

length-spots : (n : ℕ) (es : List Equation) → length (spots_by n es) ≡ n
length-spots n es = length-linked (alone n) es ∙ length-alone n

module _ (names : List NameInfo) (stmts : List Labelled) where
  abbrev test : ℕ → Bool
  test i = are_right (length names) (spots_by (length names) (equations_to names stmts i)) (standings names (all_commons stmts)) (equations_to names stmts i)

  once : Once (standings names (all_commons stmts))
  once = once-all [] (flat_map (standings_of names) (all_commons stmts)) (λ a b ia ib e. absurd (omega (arith, ia.1)))

  test-yes : (i : ℕ) → test i ≡ true → AreRightTo names stmts i
  test-yes i h =
      let spots = spots_by (length names) (equations_to names stmts i) in
      right-yes spots (standings names (all_commons stmts)) (equations_to names stmts i) (ap (λ n. are_right n spots (standings names (all_commons stmts)) (equations_to names stmts i)) (length-spots (length names) (equations_to names stmts i)) ∙ h)

  test-from : (i : ℕ) → AreRightTo names stmts i → test i ≡ true
  test-from i right =
      let spots = spots_by (length names) (equations_to names stmts i) in
      ap (λ n. are_right n spots (standings names (all_commons stmts)) (equations_to names stmts i)) (sym (length-spots (length names) (equations_to names stmts i)))
      ∙ right-from names spots (standings names (all_commons stmts)) (equations_to names stmts i) right once (λ e there. (right.kept e (Contains-append_left (common_equations names (all_commons stmts)) _ e there)).together)

  fault-is : (i : ℕ) (s : Labelled) → i < length stmts → s ≡ get_or stmts i s → has_wrong_places names stmts (take i stmts) s ≡ (is_equivalence s.stmt && not (test (i + 1)))
  fault-is i s lt is =
      let groups : all_groups (take i stmts) ++ groups_of s.stmt ≡ all_groups (take (i + 1) stmts) = flat_map_more (λ (x : Labelled). groups_of x.stmt) [] (take i stmts) s ∙ sym (ap all_groups (take_more stmts i s lt ∙ ap (λ x. take i stmts ++ x ∷ []) (sym is))) in
      ap (λ gs. is_equivalence s.stmt && not (gives_places names stmts gs)) groups

  no-fault : (i : ℕ) (s : Labelled) → i < length stmts → s ≡ get_or stmts i s → (is_equivalence s.stmt ≡ true → AreRightTo names stmts (i + 1)) → has_wrong_places names stmts (take i stmts) s ≡ false
  no-fault i s lt is right = fault-is i s lt is ∙ decide (is_equivalence s.stmt) (λ e. test-from (i + 1) (right e))
    where
      decide : (b : Bool) → (b ≡ true → test (i + 1) ≡ true) → (b && not (test (i + 1))) ≡ false
      decide true h = ap not (h refl)
      decide false h = refl

  fault-here : (i : ℕ) (s : Labelled) → i < length stmts → s ≡ get_or stmts i s → is_equivalence s.stmt ≡ true → (AreRightTo names stmts (i + 1) → ⊥) → has_wrong_places names stmts (take i stmts) s ≡ true
  fault-here i s lt is equates wrong =
      fault-is i s lt is ∙ ap (λ b. b && not (test (i + 1))) equates
      ∙ ⊎_elim (λ (h : test (i + 1) ≡ true). absurd (wrong (test-yes (i + 1) h))) (λ (h : test (i + 1) ≡ false). ap not h) (cases_Bool (test (i + 1)))

  passed : (d : Labelled) (i : ℕ) → i ≤ length stmts → StayRight names stmts i → first_line (has_wrong_places names stmts) stmts ≡ first_after (has_wrong_places names stmts) (take i stmts) (drop i stmts)
  passed d zero le right = refl
  passed d (suc i) le right =
      let s = get_or stmts i d in
      let lt : i < length stmts = omega arith in
      let is = item-is stmts i d lt in
      let before = passed d i (omega arith) (λ j t below. right j t (omega arith)) in
      let e : i + 1 ≡ suc i = omega arith in
      before ∙ first_after-next (has_wrong_places names stmts) stmts i s lt is (no-fault i s lt is (right i s (omega arith) (slice_get-get_or stmts i d lt))) ∙ ap (λ k. first_after (has_wrong_places names stmts) (take k stmts) (drop k stmts)) e

  pub first-wrong : (line : ℕ) → IsFirstWrong names stmts line → first_line (has_wrong_places names stmts) stmts ≡ Some line
  first-wrong line w =
      let lt : w.place < length stmts = slice_get_within stmts w.place w.statement w.stands in
      let is : w.statement ≡ get_or stmts w.place w.statement = sym (get_or_from_slice_get stmts w.place w.statement w.statement w.stands) in
      passed w.statement w.place (omega arith) w.above
      ∙ first_after-here (has_wrong_places names stmts) stmts w.place w.statement lt is (fault-here w.place w.statement lt is w.equates w.wrong)
      ∙ ap Some w.line_is

  pub none-wrong : StayRight names stmts (length stmts) → first_line (has_wrong_places names stmts) stmts ≡ None
  none-wrong right = go stmts refl
    where
      go : (xs : List Labelled) → stmts ≡ xs → first_line (has_wrong_places names stmts) stmts ≡ None
      go [] e = ap (first_after (has_wrong_places names stmts) []) e
      go (d ∷ xs) e = passed d (length stmts) (omega arith) right ∙ first_after-end (has_wrong_places names stmts) stmts (length stmts) (omega arith)
