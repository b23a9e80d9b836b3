-- EQUIVALENCE groups and items of DATA in the list: those of the main program, and of subroutines that run with their new names.
use Rattle.std.proofs.Common.{◌≡◌, ℕ, zero, suc, ◌<◌, ◌-◌, ◌==◌, true, List, [], ◌∷◌, ◌++◌, length, map, flat_map, take, drop, Option, Some, None, ⊎_elim, refl, sym, ap, subst, ◌∙◌, arith}
use Rattle.std.specs.List.{range_with_len, slice_get}
use Rattle.std.proofs.lemmas.Bool.{eqb-true}
use Rattle.std.proofs.lemmas.List.{take-append-drop}
use Rattle.std.proofs.lemmas.List.Concat.{flat_map-append}
use Rattle.std.proofs.lemmas.Option.{slice_get_within}
use Rattle.list_laws.proofs.Members.{Member-cases, Member-filtered, Member-flat_map, Member-flat_mapped, Member-left, Member-map, Member-mapped, Member-right, member_of_list_any}
use Rattle.list_laws.specs.Member.{Member}
use Rattle.f77_tree.specs.declared.declarations.InitPart.{InitPart}
use Rattle.f77_tree.specs.declared.declarations.Member.{Member as Named}
use Rattle.f77_tree.specs.declared.statements.Labelled.{Labelled}
use Rattle.f77_tree.specs.declared.statements.Stmt.{Stmt}
use Rattle.program_units.specs.Entities.{entity_of}
use Rattle.program_units.specs.Expansion.{declared_first, init_for, member_for, members_for, merged, units_but_main, whole_list}
use Rattle.program_units.specs.Names.{name_for}
use Rattle.program_units.specs.Units.{runs, unit_at, unit_or_none}
use Rattle.called_runs.proofs.NamesOfUnits.{in-units}

-- ---- names of the main program stay

module _ (us : List (List Labelled)) (kept : (x : List ℕ) → name_for us (entity_of us 0 x) ≡ x) where
  pub members-same : (group : List Named) → members_for us 0 group ≡ group
  members-same [] = refl
  members-same (m ∷ rest) =
      let same : member_for us 0 m ≡ m = ap (λ (n : List ℕ). record m { name = n }) (kept m.name) in
      ap (λ (n : Named). n ∷ members_for us 0 rest) same ∙ ap (λ (ns : List Named). m ∷ ns) (members-same rest)

  pub init-same : (part : InitPart) → init_for us 0 part ≡ part
  init-same part = ap (λ (items : List Named). record part { items = items }) (members-same part.items)

-- ---- parts of statements

module _ {X : Type 0} (us : List (List Labelled)) (of : Stmt → List X) (changed : ℕ → X → X) where
  abbrev all : List Labelled → List X
  all stmts = flat_map (λ (s : Labelled). of s.stmt) stmts

  -- a part of a unit of the run, and what it is in the list
  pub record IsPartOf (listed : X) : Type 0 where
    pub unit : ℕ
    pub part : X
    pub runs_it : runs us unit ≡ true
    pub among : Member (all (unit_at us unit)) part
    pub is : changed unit part ≡ listed

  module _ (same : (x : X) → changed 0 x ≡ x)
      (listed : all (whole_list us) ≡ all (take (declared_first (unit_at us 0)) (unit_at us 0)) ++ (all (merged us) ++ all (drop (declared_first (unit_at us 0)) (unit_at us 0))))
      (added : all (merged us) ≡ flat_map (λ k. map (changed k) (all (unit_at us k))) (units_but_main us)) where
    abbrev main : List Labelled
    main = unit_at us 0

    abbrev front : List X
    front = all (take (declared_first main) main)

    abbrev back : List X
    back = all (drop (declared_first main) main)

    abbrev of_units : List X
    of_units = flat_map (λ k. map (changed k) (all (unit_at us k))) (units_but_main us)

    main-split : front ++ back ≡ all main
    main-split = sym (flat_map-append (λ (s : Labelled). of s.stmt) (take (declared_first main) main) (drop (declared_first main) main)) ∙ ap all (take-append-drop (declared_first main) main)

    whole : all (whole_list us) ≡ front ++ (of_units ++ back)
    whole = listed ∙ ap (λ (gs : List X). front ++ (gs ++ back)) added

    inside : (k : ℕ) (x : X) → Member (all (unit_at us k)) x → k < length us
    inside k x among = by (slice_get us k) refl among
      where
        by : (o : Option (List Labelled)) → slice_get us k ≡ o → Member (all (unit_or_none o)) x → k < length us
        by None is none = absurd none
        by (Some u) is some = slice_get_within us k u is

    pub part-there : (k : ℕ) (x : X) → runs us k ≡ true → Member (all (unit_at us k)) x → Member (all (whole_list us)) (changed k x)
    part-there zero x run among =
        let both : Member (front ++ back) x = subst (λ (gs : List X). Member gs x) (sym main-split) among in
        let there : Member (front ++ (of_units ++ back)) x = ⊎_elim
        (λ (m : Member front x). Member-left front (of_units ++ back) x m)
        (λ (m : Member back x). Member-right front (of_units ++ back) x (Member-right of_units back x m))
        (Member-cases front back x both) in
        subst (λ (gs : List X). Member gs (changed 0 x)) (sym whole) (subst (λ (g : X). Member (front ++ (of_units ++ back)) g) (sym (same x)) there)
    part-there (suc k) x run among =
        let one = member_of_list_any (λ (j : ℕ). j == suc k) (units_but_main us) (in-units us (suc k) (omega arith) (inside (suc k) x among) run) in
        let unit : Member (units_but_main us) (suc k) = subst (λ (j : ℕ). Member (units_but_main us) j) (eqb-true one.one (suc k) one.passes) one.among in
        let made = Member-flat_map (λ (j : ℕ). map (changed j) (all (unit_at us j))) (units_but_main us) (suc k) (changed (suc k) x) unit (Member-map (changed (suc k)) (all (unit_at us (suc k))) x among) in
        subst (λ (gs : List X). Member gs (changed (suc k) x)) (sym whole) (Member-right front (of_units ++ back) (changed (suc k) x) (Member-left of_units back (changed (suc k) x) made))

    of-main : (x : X) → Member (front ++ back) x → IsPartOf x
    of-main x m = record { unit = 0; part = x; runs_it = refl; among = subst (λ (gs : List X). Member gs x) main-split m; is = same x }

    of-unit : (x : X) → Member of_units x → IsPartOf x
    of-unit x m =
        let one = Member-flat_mapped (λ (j : ℕ). map (changed j) (all (unit_at us j))) (units_but_main us) x m in
        let image = Member-mapped (changed one.origin) (all (unit_at us one.origin)) x one.has in
        record { unit = one.origin; part = image.origin; runs_it = (Member-filtered (runs us) (range_with_len 1 (length us - 1)) one.origin one.among).1; among = image.among; is = image.is }

    pub part-back : (x : X) → Member (all (whole_list us)) x → IsPartOf x
    part-back x m =
        ⊎_elim
        (λ (here : Member front x). of-main x (Member-left front back x here))
        (λ (rest : Member (of_units ++ back) x). ⊎_elim
        (λ (here : Member of_units x). of-unit x here)
        (λ (here : Member back x). of-main x (Member-right front back x here))
        (Member-cases of_units back x rest))
        (Member-cases front (of_units ++ back) x (subst (λ (gs : List X). Member gs x) whole m))
