-- Statements of a unit are told by their lines, and the main program has no RETURN.
use Rattle.std.proofs.Common.{◌≡◌, ℕ, zero, suc, ◌+◌, ◌<◌, Bool, true, false, not, ◌&&◌, ◌||◌, ◌==◌, cond, find, List, [], ◌∷◌, ◌++◌, length, take, Option, Some, None, if◌then◌else◌, refl, sym, ap, ◌∙◌, arith}
use Rattle.std.specs.List.{slice_get, list_any}
use Rattle.std.proofs.lemmas.Bool.{eq-eqb, ne_eqb, or_parts}
use Rattle.f77_tree.specs.declared.statements.Labelled.{Labelled}
use Rattle.f77_tree.specs.Loops.{AreLoops}
use Rattle.layout_rules.specs.Faults.{first_line}
use Rattle.control_structure.proofs.LabelLemmas.{faultless}
use Rattle.f77_layout.proofs.WellFormedPrograms.{laid-well_formed}
use Rattle.layout_rules.specs.Layout.{program}
use Rattle.program_units.specs.declared.sub_end.SubEnd.TheVariants.{UnitOrder}
use Rattle.program_units.specs.Refusals.{differ, end_at, follows_end, is_out_of_unit, unit_refusal, unit_refusals}
use Rattle.program_units.specs.Texts.{IsText}
use Rattle.program_units.specs.Units.{in_first, inner, is_end, is_return, standing_in, sub_name, unit_at, unit_or_none, units}
use Rattle.unit_laws.proofs.NoAnswer.{no-end, none-at}
use Rattle.called_runs.proofs.AcceptedGrounds.{laid-here, source-here}
use Rattle.std.specs.Option.{is_some}

-- ---- units in the text

-- a statement of the first unit, which no END stands before
pub record IsOfMain (stmts : List Labelled) (i : ℕ) (s : Labelled) : Type 0 where
  pub stands : slice_get stmts i ≡ Some s
  pub none : list_any (λ t. is_end t.stmt) (take i stmts) ≡ false

pub of-main : (stmts : List Labelled) (i : ℕ) (s : Labelled) → slice_get (unit_at (units stmts) 0) i ≡ Some s → IsOfMain stmts i s
of-main [] i s is = let e : None ≡ Some s = is in absurd cc
of-main (x ∷ rest) i s is = by_test (is_end x.stmt) refl is (of-main rest)
  where
    further : (us : List (List Labelled)) → is_end x.stmt ≡ false → (i : ℕ) → slice_get (unit_at (in_first x us) 0) i ≡ Some s → ((j : ℕ) (t : Labelled) → slice_get (unit_at us 0) j ≡ Some t → IsOfMain rest j t) → IsOfMain (x ∷ rest) i s
    further [] no_end zero is later = record { stands = is; none = refl }
    further [] no_end (suc i) is later = let e : None ≡ Some s = is in absurd cc
    further (u ∷ us) no_end zero is later = record { stands = is; none = refl }
    further (u ∷ us) no_end (suc i) is later =
        let more = later i s is in
        record { stands = more.stands; none = ap (λ (b : Bool). b || list_any (λ t. is_end t.stmt) (take i rest)) no_end ∙ more.none }

    by_test : (b : Bool) → is_end x.stmt ≡ b → slice_get (unit_at (if b then (x ∷ []) ∷ units rest else in_first x (units rest)) 0) i ≡ Some s → ((j : ℕ) (t : Labelled) → slice_get (unit_at (units rest) 0) j ≡ Some t → IsOfMain rest j t) → IsOfMain (x ∷ rest) i s
    by_test true ends found later = by_place i found
      where
        by_place : (i : ℕ) → slice_get (x ∷ []) i ≡ Some s → IsOfMain (x ∷ rest) i s
        by_place zero found = record { stands = found; none = refl }
        by_place (suc i) found = let e : None ≡ Some s = found in absurd cc
    by_test false no_end found later = further (units rest) no_end i found later

-- a unit is a stretch of the text
pub record IsStretch (stmts u : List Labelled) : Type 0 where
  pub begin : ℕ
  pub stands : (i : ℕ) (s : Labelled) → slice_get u i ≡ Some s → slice_get stmts (begin + i) ≡ Some s

pub stretch : (stmts : List Labelled) (k : ℕ) (u : List Labelled) → slice_get (units stmts) k ≡ Some u → IsStretch stmts u
stretch [] k u is = let e : None ≡ Some u = is in absurd cc
stretch (x ∷ rest) k u is = by_test (is_end x.stmt) refl k is (λ j there. stretch rest j u there)
  where
    one-more : IsStretch rest u → IsStretch (x ∷ rest) u
    one-more more = record { begin = suc more.begin; stands = λ i s is. ap (λ (n : ℕ). slice_get (x ∷ rest) n) (let e : suc more.begin + i ≡ suc (more.begin + i) = omega arith in e) ∙ more.stands i s is }

    at-front : (v : List Labelled) → v ≡ u → ((i : ℕ) (s : Labelled) → slice_get v i ≡ Some s → slice_get (x ∷ rest) i ≡ Some s) → IsStretch (x ∷ rest) u
    at-front v same stand = record { begin = 0; stands = λ i s is. ap (λ (n : ℕ). slice_get (x ∷ rest) n) (let e : 0 + i ≡ i = omega arith in e) ∙ stand i s (ap (λ (w : List Labelled). slice_get w i) same ∙ is) }

    alone : (i : ℕ) (s : Labelled) → slice_get (x ∷ []) i ≡ Some s → slice_get (x ∷ rest) i ≡ Some s
    alone zero s is = is
    alone (suc i) s is = let e : None ≡ Some s = is in absurd cc

    joined : (v : List Labelled) → ((i : ℕ) (s : Labelled) → slice_get v i ≡ Some s → slice_get rest i ≡ Some s) → (i : ℕ) (s : Labelled) → slice_get (x ∷ v) i ≡ Some s → slice_get (x ∷ rest) i ≡ Some s
    joined v stand zero s is = is
    joined v stand (suc i) s is = stand i s is

    by_first : (us : List (List Labelled)) → units rest ≡ us → (k : ℕ) → slice_get (in_first x us) k ≡ Some u → ((j : ℕ) → slice_get (units rest) j ≡ Some u → IsStretch rest u) → IsStretch (x ∷ rest) u
    by_first [] are zero is later = let e : Some (x ∷ []) ≡ Some u = is in let same : x ∷ [] ≡ u = cc in at-front (x ∷ []) same alone
    by_first [] are (suc k) is later = let e : None ≡ Some u = is in absurd cc
    by_first (v ∷ us) are zero is later =
        let e : Some (x ∷ v) ≡ Some u = is in
        let same : x ∷ v ≡ u = cc in
        at-front (x ∷ v) same (joined v (λ i s there. (of-main rest i s (ap (λ (ws : List (List Labelled)). slice_get (unit_at ws 0) i) are ∙ there)).stands))
    by_first (v ∷ us) are (suc k) is later = one-more (later (suc k) (ap (λ (ws : List (List Labelled)). slice_get ws (suc k)) are ∙ is))

    by_test : (b : Bool) → is_end x.stmt ≡ b → (k : ℕ) → slice_get (if b then (x ∷ []) ∷ units rest else in_first x (units rest)) k ≡ Some u → ((j : ℕ) → slice_get (units rest) j ≡ Some u → IsStretch rest u) → IsStretch (x ∷ rest) u
    by_test true ends zero is later = let e : Some (x ∷ []) ≡ Some u = is in let same : x ∷ [] ≡ u = cc in at-front (x ∷ []) same alone
    by_test true ends (suc k) is later = one-more (later k is)
    by_test false no_end k is later = by_first (units rest) refl k is later

-- ---- the statement of a line

find-first : (p : Labelled → Bool) (xs : List Labelled) (i : ℕ) (s : Labelled) → slice_get xs i ≡ Some s → p s ≡ true → ((j : ℕ) (t : Labelled) → j < i → slice_get xs j ≡ Some t → p t ≡ false) → find p xs ≡ Some s
find-first p [] i s is passes none = let e : None ≡ Some s = is in absurd cc
find-first p (x ∷ xs) zero s is passes none =
    let e : Some x ≡ Some s = is in
    let same : x ≡ s = cc in
    ap (λ (b : Bool). cond b (Some x) (find p xs)) (ap p same ∙ passes) ∙ is
find-first p (x ∷ xs) (suc i) s is passes none =
    ap (λ (b : Bool). cond b (Some x) (find p xs)) (none 0 x (omega arith) refl)
    ∙ find-first p xs i s is passes (λ j t below there. none (suc j) t (omega (arith, below)) there)

module _ (stmts : List Labelled) (checked : Bool) (text : IsText stmts) (accepted : unit_refusal stmts checked ≡ None) where
  abbrev us : List (List Labelled)
  us = units stmts

  pub line-tells : (k place : ℕ) (s : Labelled) → slice_get (unit_at us k) place ≡ Some s → find (λ t. t.line == s.line) (unit_at us k) ≡ Some s
  line-tells k place s is = by_unit (slice_get us k) refl is
    where
      by_unit : (o : Option (List Labelled)) → slice_get us k ≡ o → slice_get (unit_or_none o) place ≡ Some s → find (λ t. t.line == s.line) (unit_or_none o) ≡ Some s
      by_unit None here found = let e : None ≡ Some s = found in absurd cc
      by_unit (Some u) here found =
          let where_it_is = stretch stmts k u here in
          find-first (λ t. t.line == s.line) u place s found (eq-eqb s.line s.line refl)
          (λ j t below there.
          let less = text.rising (where_it_is.begin + j) (where_it_is.begin + place) t s (where_it_is.stands j t there) (where_it_is.stands place s found) (omega (arith, below)) in
          ne_eqb t.line s.line (λ (e : t.line ≡ s.line). omega (arith, e, less)))

  pub main-stays : (place : ℕ) (s : Labelled) → slice_get (unit_at us 0) place ≡ Some s → is_return (inner s.stmt) ≡ false
  main-stays place s is =
      let main = of-main stmts place s is in
      let ordered : first_line is_out_of_unit stmts ≡ None = no-end UnitOrder (first_line is_out_of_unit stmts) (none-at (unit_refusals stmts us checked) 0 (end_at UnitOrder (first_line is_out_of_unit stmts)) accepted refl) in
      let fits : is_out_of_unit ([] ++ take place stmts) s ≡ false = faultless is_out_of_unit [] stmts ordered place s main.stands in
      let second = (or_parts (differ (follows_end (take place stmts)) (is_some (sub_name s.stmt))) (not (list_any (λ t. is_end t.stmt) (take place stmts)) && is_return (inner s.stmt)) fits).1 in
      sym (ap (λ (b : Bool). not b && is_return (inner s.stmt)) main.none) ∙ second

  -- the DOs of a unit's program are nested
  pub unit-loops : (k : ℕ) → k < length us → AreLoops (program (standing_in (unit_at us k)) checked).execs (program (standing_in (unit_at us k)) checked).loops
  unit-loops k inside = (laid-well_formed (standing_in (unit_at us k)) checked (source-here stmts checked text accepted k inside) (program (standing_in (unit_at us k)) checked) (laid-here stmts checked text accepted k inside)).execs.loops_nest
