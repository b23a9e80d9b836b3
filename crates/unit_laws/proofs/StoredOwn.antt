-- The names in COMMON, EQUIVALENCE and DATA of a unit are no dummies.
use Rattle.std.proofs.Common.{◌≡◌, ℕ, zero, suc, ◌+◌, Bool, true, false, cond, List, [], ◌∷◌, ◌++◌, filter, flat_map, Some, None, if◌then◌else◌, refl, sym, ap, subst, ◌∙◌, arith}
use Rattle.std.specs.Prelude.{bytes_eq}
use Rattle.std.specs.List.{list_any, slice_get}
use Rattle.std.proofs.lemmas.Bool.{or_from, or_parts}
use Rattle.std.proofs.lemmas.List.Folds.{list_any-append}
use Rattle.std.proofs.lemmas.List.Sums.{sum_by-append, sum_by-cons}
use Rattle.f77_tree.proofs.NameLemmas.{bytes_eq-same}
use Rattle.f77_tree.specs.declared.statements.Labelled.{Labelled}
use Rattle.layout_rules.specs.Appearances.{appearing}
use Rattle.layout_rules.specs.Declarations.{is_array}
use Rattle.layout_rules.specs.Faults.{first_after, first_answer, first_line, has_repeat}
use Rattle.program_units.specs.declared.sub_end.SubEnd.TheVariants.{BadCall}
use Rattle.program_units.specs.Refusals.{calls_wrongly, end_at, form_refusals, has_bad_call, has_wrong_dummy, is_of_storage, names_of_storage, unit_below}
use Rattle.program_units.specs.Units.{call_in, dummies_of, in_first, is_end, sub_dummies, unit_at, units}
use Rattle.unit_laws.proofs.AcceptedTables.{no-fault}
use Rattle.unit_laws.proofs.NoAnswer.{no-end, none-at}
use Rattle.unit_laws.proofs.UnitSources.{Each}
use Rattle.unit_laws.proofs.UsedNames.{Among, behind, in-front}
use Rattle.unit_laws.proofs.UnitNames.{IsInUnit}

-- ---- statements by their units

below-push : (above : List Labelled) (s : Labelled) → unit_below (above ++ s ∷ []) ≡ unit_below above + cond (is_end s.stmt) 1 0
below-push above s =
    let one : Labelled → ℕ = λ a. cond (is_end a.stmt) 1 0 in
    let split = sum_by-append one above (s ∷ []) in
    let last = sum_by-cons one s [] in
    omega (arith, split, last)

module _ (bad : ℕ → Labelled → Bool) (fault : List Labelled → Labelled → Bool) (tells : (above : List Labelled) (s : Labelled) → fault above s ≡ false → bad (unit_below above) s ≡ false) where
  -- no statement of these units has the fault, where so many units stand before them
  abbrev pub AreRight : ℕ → List (List Labelled) → Type 0
  AreRight n us = (k place : ℕ) (s : Labelled) → slice_get (unit_at us k) place ≡ Some s → bad (n + k) s ≡ false

  one-more : (n : ℕ) (s : Labelled) (us : List (List Labelled)) → bad n s ≡ false → AreRight (n + 1) us → AreRight n ((s ∷ []) ∷ us)
  one-more n s us here more zero zero t there =
      let e : Some s ≡ Some t = there in
      let same : s ≡ t = cc in
      let sum : n ≡ n + 0 = omega arith in
      subst (λ (m : ℕ). bad m t ≡ false) sum (subst (λ (a : Labelled). bad n a ≡ false) same here)
  one-more n s us here more zero (suc place) t there = let e : None ≡ Some t = there in absurd cc
  one-more n s us here more (suc k) place t there =
      let sum : n + 1 + k ≡ n + suc k = omega arith in
      subst (λ (m : ℕ). bad m t ≡ false) sum (more k place t there)

  one-first : (n : ℕ) (s : Labelled) (us : List (List Labelled)) → bad n s ≡ false → AreRight n us → AreRight n (in_first s us)
  one-first n s [] here more k place t there = one-more n s [] here (λ j p a is. let e : None ≡ Some a = is in absurd cc) k place t there
  one-first n s (u ∷ us) here more zero zero t there =
      let e : Some s ≡ Some t = there in
      let same : s ≡ t = cc in
      let sum : n ≡ n + 0 = omega arith in
      subst (λ (m : ℕ). bad m t ≡ false) sum (subst (λ (a : Labelled). bad n a ≡ false) same here)
  one-first n s (u ∷ us) here more zero (suc place) t there = more zero place t there
  one-first n s (u ∷ us) here more (suc k) place t there = more (suc k) place t there

  pub all-right : (above stmts : List Labelled) → first_after fault above stmts ≡ None → AreRight (unit_below above) (units stmts)
  all-right above [] none = λ k place t there. let e : None ≡ Some t = there in absurd cc
  all-right above (s ∷ rest) none =
      let parts = no-fault fault above s rest none in
      let here = tells above s parts.0 in
      by (is_end s.stmt) here (subst (λ (n : ℕ). AreRight n (units rest)) (below-push above s) (all-right (above ++ s ∷ []) rest parts.1))
    where
      by : (b : Bool) → bad (unit_below above) s ≡ false → AreRight (unit_below above + cond b 1 0) (units rest) → AreRight (unit_below above) (if b then (s ∷ []) ∷ units rest else in_first s (units rest))
      by true here more = one-more (unit_below above) s (units rest) here more
      by false here more =
          let sum : unit_below above + 0 ≡ unit_below above = omega arith in
          one-first (unit_below above) s (units rest) here (subst (λ (n : ℕ). AreRight n (units rest)) sum more)

-- ---- no dummy among names

module _ (x : List ℕ) (names : List (List ℕ)) (among : Among x names) where
  none-of : (ds : List (List ℕ)) → list_any (λ d. list_any (bytes_eq d) names) ds ≡ false → list_any (bytes_eq x) ds ≡ false
  none-of [] none = refl
  none-of (d ∷ ds) none =
      let parts = or_parts (list_any (bytes_eq d) names) (list_any (λ d. list_any (bytes_eq d) names) ds) none in
      or_from (bytes_eq x d) (list_any (bytes_eq x) ds) (by (bytes_eq x d) refl parts.0) (none-of ds parts.1)
    where
      by : (b : Bool) → bytes_eq x d ≡ b → list_any (bytes_eq d) names ≡ false → b ≡ false
      by true same absent = let e : true ≡ false = sym among ∙ ap (λ (y : List ℕ). list_any (bytes_eq y) names) (bytes_eq-same x d same) ∙ absent in absurd cc
      by false other absent = refl

  none-in : (stmts : List Labelled) → Each (λ s. list_any (λ d. list_any (bytes_eq d) names) (sub_dummies s.stmt) ≡ false) stmts → list_any (bytes_eq x) (dummies_of stmts) ≡ false
  none-in [] each = refl
  none-in (s ∷ rest) each =
      list_any-append (bytes_eq x) (sub_dummies s.stmt) (dummies_of rest)
      ∙ or_from (list_any (bytes_eq x) (sub_dummies s.stmt)) (list_any (bytes_eq x) (dummies_of rest)) (none-of (sub_dummies s.stmt) (each 0 s refl)) (none-in rest (λ j t here. each (suc j) t here))

-- ---- names of storage

abbrev stored : (arrays : List ℕ → Bool) → List Labelled → List (List ℕ)
stored arrays stmts = flat_map (λ s. appearing arrays s.stmt) (filter (λ s. is_of_storage s.stmt) stmts)

among-stored : (arrays : List ℕ → Bool) (x : List ℕ) (stmts : List Labelled) (j : ℕ) (s : Labelled) → slice_get stmts j ≡ Some s → is_of_storage s.stmt ≡ true → Among x (appearing arrays s.stmt) → Among x (stored arrays stmts)
among-stored arrays x [] j s here is among = let e : None ≡ Some s = here in absurd cc
among-stored arrays x (t ∷ rest) zero s here is among =
    let e : Some t ≡ Some s = here in
    let same : s ≡ t = cc in
    let passes : is_of_storage t.stmt ≡ true = ap (λ (a : Labelled). is_of_storage a.stmt) (sym same) ∙ is in
    let first : Among x (appearing arrays t.stmt) = ap (λ (a : Labelled). list_any (bytes_eq x) (appearing arrays a.stmt)) (sym same) ∙ among in
    ap (λ (b : Bool). list_any (bytes_eq x) (flat_map (λ (a : Labelled). appearing arrays a.stmt) (cond b (t ∷ filter (λ a. is_of_storage a.stmt) rest) (filter (λ a. is_of_storage a.stmt) rest)))) passes
    ∙ in-front x (appearing arrays t.stmt) (stored arrays rest) first
among-stored arrays x (t ∷ rest) (suc j) s here is among = by (is_of_storage t.stmt) (among-stored arrays x rest j s here is among)
  where
    by : (b : Bool) → Among x (stored arrays rest) → Among x (flat_map (λ (a : Labelled). appearing arrays a.stmt) (cond b (t ∷ filter (λ a. is_of_storage a.stmt) rest) (filter (λ a. is_of_storage a.stmt) rest)))
    by true more = behind x (appearing arrays t.stmt) (stored arrays rest) more
    by false more = more

-- ---- a text whose form nothing refuses

module _ (stmts : List Labelled) (checked : Bool) (formed : first_answer (λ r. r) (form_refusals stmts (units stmts) checked) ≡ None) where
  abbrev us : List (List Labelled)
  us = units stmts

  dummies-right : (k place : ℕ) (s : Labelled) → slice_get (unit_at us k) place ≡ Some s → has_wrong_dummy (unit_at us k) s.stmt ≡ false
  dummies-right k place s there =
      let none : first_line (has_bad_call us) stmts ≡ None = no-end BadCall (first_line (has_bad_call us) stmts) (none-at (form_refusals stmts us checked) 4 (end_at BadCall (first_line (has_bad_call us) stmts)) formed refl) in
      let sum : 0 + k ≡ k = omega arith in
      subst (λ (n : ℕ). has_wrong_dummy (unit_at us n) s.stmt ≡ false) sum
      (all-right (λ n t. has_wrong_dummy (unit_at us n) t.stmt) (has_bad_call us) (λ above t right. (or_parts (calls_wrongly us (unit_below above) (call_in t.stmt)) (has_wrong_dummy (unit_at us (unit_below above)) t.stmt) right).1) [] stmts none k place s there)

  pub stored-own : (k : ℕ) (s : Labelled) → IsInUnit us k s → is_of_storage s.stmt ≡ true → (x : List ℕ) → Among x (appearing (is_array (unit_at us k)) s.stmt) → list_any (bytes_eq x) (dummies_of (unit_at us k)) ≡ false
  stored-own k s inside is x among =
      let names : List (List ℕ) = names_of_storage (unit_at us k) in
      none-in x names (among-stored (is_array (unit_at us k)) x (unit_at us k) inside.place s inside.here is among) (unit_at us k)
      (λ j t here. (or_parts (has_repeat bytes_eq [] (sub_dummies t.stmt)) (list_any (λ d. list_any (bytes_eq d) names) (sub_dummies t.stmt)) (dummies-right k j t here)).1)
