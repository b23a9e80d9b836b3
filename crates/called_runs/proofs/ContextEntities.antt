-- Contexts are of units that run, and their names stand for entities of the run.
use Rattle.std.proofs.Common.{◌≡◌, ℕ, zero, suc, ◌<◌, ◌==◌, Bool, true, false, List, [], length, map, flat_map, Option, Some, None, ⊎_elim, refl, sym, ap, subst, ◌∙◌, arith}
use Rattle.std.specs.Prelude.{bytes_eq}
use Rattle.std.specs.Cmp.Lexicographic.{nat_list_eq_equiv}
use Rattle.std.specs.List.{list_any, position_or_len, slice_get}
use Rattle.std.specs.Option.{option_map}
use Rattle.std.proofs.lemmas.Bool.{cases_Bool, eq-eqb, eqb-true, or_cases, or_left, or_right}
use Rattle.std.proofs.lemmas.Map.Keys.{any_passes_from_place}
use Rattle.std.proofs.lemmas.Option.{slice_get-map}
use Rattle.f77_tree.specs.declared.statements.Labelled.{Labelled}
use Rattle.layout_rules.specs.Declarations.{is_array}
use Rattle.unit_laws.proofs.AcceptedTables.{alike-lengths, not-not}
use Rattle.unit_laws.proofs.CalledNames.{call-names}
use Rattle.program_units.proofs.CallReach.{chain-from, reach-at, reach-by, reach-few}
use Rattle.unit_laws.proofs.ReachedUnits.{none-past}
use Rattle.program_units.proofs.Counting.{first-inside}
use Rattle.program_units.proofs.StoredNames.{told-all}
use Rattle.program_units.specs.Contexts.{IsReached, called, main}
use Rattle.program_units.specs.Copies.{Context}
use Rattle.program_units.specs.declared.entity.Entity.{Entity}
use Rattle.program_units.specs.Entities.{entity_at, entity_of, stands_for}
use Rattle.program_units.specs.Names.{appearing_here, names_of_unit}
use Rattle.program_units.specs.Refusals.{are_alike, calls_wrongly}
use Rattle.program_units.specs.Storage.{IsOfRun}
use Rattle.program_units.specs.Units.{Call, call_in, calls, calls_unit, dummies_of, reaches, runs, unit_at, unit_of}
use Rattle.list_laws.proofs.Members.{Member-flat_map, Member-from_Contains, list_any_member}
use Rattle.called_runs.proofs.ListedBlocks.{contains-at}
use Rattle.called_runs.proofs.StoredNames.{own-run}

module _ (us : List (List Labelled)) where
  -- one call more
  reach-on : (d j k m : ℕ) → m < length us → reaches us d j k ≡ true → calls us k m ≡ true → reaches us (suc d) j m ≡ true
  reach-on zero j k m inside is step = let e : false ≡ true = is in absurd cc
  reach-on (suc d) j k m inside is step =
      let chain = chain-from us d j k is in
      let more : reaches us (suc d) chain.unit m ≡ true = ⊎_elim
      (λ (same : (chain.unit == k) ≡ true).
      reach-by us d chain.unit m (record { unit = m; inside = inside; called = ap (λ (n : ℕ). calls us n m) (eqb-true chain.unit k same) ∙ step; rest = or_left (m == m) (reaches us d m m) (eq-eqb m m refl) }))
      (λ (later : reaches us d chain.unit k ≡ true). reach-on d chain.unit k m inside later step)
      (or_cases (chain.unit == k) (reaches us d chain.unit k) chain.rest) in
      reach-by us (suc d) j m (record { unit = chain.unit; inside = chain.inside; called = chain.called; rest = or_right (chain.unit == m) (reaches us (suc d) chain.unit m) more })

  -- what a unit that runs calls runs
  call-runs : (k place : ℕ) (s : Labelled) (call : Call) → 0 < length us → runs us k ≡ true → slice_get (unit_at us k) place ≡ Some s → call_in s.stmt ≡ Some call → unit_of us call.name < length us → runs us (unit_of us call.name) ≡ true
  call-runs k place s call some run there calls_it inside =
      let m = unit_of us call.name in
      let test : Labelled → Bool = λ t. calls_unit us m (call_in t.stmt) in
      let step : calls us k m ≡ true = any_passes_from_place test (unit_at us k) place s there (ap (calls_unit us m) calls_it ∙ eq-eqb m m refl) in
      or_right (m == 0) (reaches us (length us) 0 m)
      (⊎_elim
      (λ (first : (k == 0) ≡ true). reach-at us 0 m some inside (ap (λ (n : ℕ). calls us n m) (sym (eqb-true k 0 first)) ∙ step))
      (λ (later : reaches us (length us) 0 k ≡ true). reach-few us (suc (length us)) 0 m some (reach-on (length us) 0 k m inside later step))
      (or_cases (k == 0) (reaches us (length us) 0 k) run))

  module _ (some : 0 < length us) (callee : (k place : ℕ) (s : Labelled) (call : Call) → slice_get (unit_at us k) place ≡ Some s → call_in s.stmt ≡ Some call → unit_of us call.name < length us) where
    pub context-runs : (c : Context) (at : ℕ → ℕ) → IsReached us c at → runs us c.unit ≡ true
    context-runs _ _ main = refl
    context-runs _ _ (called {c} {at} place s call reached is calls_it) = call-runs c.unit place s call some (context-runs c at reached) is calls_it (callee c.unit place s call is calls_it)

    -- an argument is a name of the unit
    argument-named : (k place : ℕ) (s : Labelled) (call : Call) (i : ℕ) (a : List ℕ) → slice_get (unit_at us k) place ≡ Some s → call_in s.stmt ≡ Some call → slice_get call.arguments i ≡ Some a → list_any (bytes_eq a) (names_of_unit (unit_at us k)) ≡ true
    argument-named k place s call i a there calls_it is =
        let u = unit_at us k in
        let here = call-names (is_array u) s.stmt call calls_it a (contains-at call.arguments i a is) in
        let among = Member-flat_map (λ (t : Labelled). appearing_here (is_array u) t.stmt) u s a (Member-from_Contains u s (contains-at u place s there)) (Member-from_Contains (appearing_here (is_array u) s.stmt) a here) in
        told-all a [] (flat_map (λ (t : Labelled). appearing_here (is_array u) t.stmt) u) ∙ list_any_member (bytes_eq a) (flat_map (λ (t : Labelled). appearing_here (is_array u) t.stmt) u) a among (nat_list_eq_equiv.refl a)

    module _ (main_dummies : dummies_of (unit_at us 0) ≡ []) (right : (k place : ℕ) (s : Labelled) → slice_get (unit_at us k) place ≡ Some s → calls_wrongly us k (call_in s.stmt) ≡ false) where
      abbrev AreOfRun : (k : ℕ) → List Entity → Type 0
      AreOfRun k arguments = (x : List ℕ) → list_any (bytes_eq x) (names_of_unit (unit_at us k)) ≡ true → IsOfRun us (stands_for us k arguments x)

      module _ (k : ℕ) (arguments : List Entity) (place : ℕ) (s : Labelled) (call : Call) (outer : AreOfRun k arguments) (there : slice_get (unit_at us k) place ≡ Some s) (calls_it : call_in s.stmt ≡ Some call) (run : runs us (unit_of us call.name) ≡ true) (x : List ℕ) (named : list_any (bytes_eq x) (names_of_unit (unit_at us (unit_of us call.name))) ≡ true) where
        abbrev m : ℕ
        m = unit_of us call.name

        abbrev dummies : List (List ℕ)
        dummies = dummies_of (unit_at us m)

        abbrev at_dummy : ℕ
        at_dummy = position_or_len (bytes_eq x) dummies

        as_many : length call.arguments ≡ length dummies
        as_many =
            let no : calls_wrongly us k (Some call) ≡ false = sym (ap (calls_wrongly us k) calls_it) ∙ right k place s there in
            alike-lengths (unit_at us k) (unit_at us m) call.arguments dummies (not-not (are_alike (unit_at us k) (unit_at us m) call.arguments dummies) no)

        no-dummy : slice_get call.arguments at_dummy ≡ None → list_any (bytes_eq x) dummies ≡ false
        no-dummy none = ⊎_elim
            (λ (is : list_any (bytes_eq x) dummies ≡ true).
            let less = first-inside (bytes_eq x) dummies is in
            absurd (none-past call.arguments at_dummy (omega (arith, less, as_many)) none))
            (λ (is : list_any (bytes_eq x) dummies ≡ false). is)
            (cases_Bool (list_any (bytes_eq x) dummies))

        by-argument : (o : Option (List ℕ)) → slice_get call.arguments at_dummy ≡ o → IsOfRun us (entity_at (entity_of us m x) (option_map (stands_for us k arguments) o))
        by-argument None is = own-run us m x run named (no-dummy is)
        by-argument (Some a) is = outer a (argument-named k place s call at_dummy a there calls_it is)

        passed : IsOfRun us (stands_for us m (map (stands_for us k arguments) call.arguments) x)
        passed = subst (λ (o : Option Entity). IsOfRun us (entity_at (entity_of us m x) o)) (sym (slice_get-map (stands_for us k arguments) call.arguments at_dummy)) (by-argument (slice_get call.arguments at_dummy) refl)

      pub context-entities : (c : Context) (at : ℕ → ℕ) → IsReached us c at → AreOfRun c.unit c.arguments
      context-entities _ _ main = λ x named. own-run us 0 x refl named (ap (list_any (bytes_eq x)) main_dummies)
      context-entities _ _ (called {c} {at} place s call reached is calls_it) =
          λ x named. passed c.unit c.arguments place s call (context-entities c at reached) is calls_it (call-runs c.unit place s call some (context-runs c at reached) is calls_it (callee c.unit place s call is calls_it)) x named
