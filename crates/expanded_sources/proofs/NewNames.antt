-- In a text whose units nothing refuses, what the names of a unit stand for gets symbolic names.
use Rattle.std.proofs.Common.{◌≡◌, ℕ, ◌<◌, ◌^◌, ⊎_elim, Bool, true, false, cond, if◌then◌else◌, List, [], ◌∷◌, length, get_or, take, filter, Option, Some, None, bytes_eq, refl, sym, ap, subst, ◌∙◌, arith}
use Rattle.std.specs.Prelude.{nat_lt}
use Rattle.std.specs.List.{list_any, position_or_len, slice_get}
use Rattle.std.proofs.lemmas.Bool.{cases_Bool, eqb-true, or_parts}
use Rattle.std.proofs.lemmas.Bool.Decides.{nat_tests}
use Rattle.std.proofs.lemmas.Option.{slice_get-get_or}
use Rattle.f77_tree.specs.Name.{is_name}
use Rattle.f77_tree.specs.declared.declarations.CommonPart.{CommonPart}
use Rattle.f77_tree.specs.declared.statements.Labelled.{Labelled}
use Rattle.layout_rules.specs.Declarations.{all_commons}
use Rattle.layout_rules.specs.Faults.{answer_or, first_answer}
use Rattle.program_units.specs.declared.sub_end.SubEnd.TheVariants.{BadBlock, TooManyNames}
use Rattle.program_units.specs.declared.entity.Entity.{Entity}
use Rattle.program_units.specs.declared.entity.Entity.TheVariants.{InBlock}
use Rattle.program_units.specs.Entities.{block_list, entity_of, entity_or, found_in}
use Rattle.program_units.specs.Names.{free_numbers, has_block, is_main, main_name, name_for, own_names, same_entity, y_entities, y_name}
use Rattle.program_units.specs.Refusals.{are_alike, bad_block, end_at, first_unit, first_with, has_great_name, is_mismatched_part, main_line_if, unit_refusal, unit_refusals}
use Rattle.program_units.specs.Texts.{IsText}
use Rattle.program_units.specs.Units.{unit_at, units}
use Rattle.unit_laws.proofs.AcceptedTables.{alike-lengths, not-not}
use Rattle.unit_laws.proofs.MainNames.{Tells, in-first, later, named}
use Rattle.unit_laws.proofs.NoAnswer.{each-none, no-end, no-line, none-at}
use Rattle.unit_laws.proofs.NotedEntities.{noted}
use Rattle.program_units.proofs.Counting.{first-inside}
use Rattle.unit_laws.proofs.SettledCopies.{pass_at}
use Rattle.unit_laws.proofs.ShortNames.{none-passes, numbered-short, taken-at}
use Rattle.unit_laws.proofs.TextNames.{text-short}
use Rattle.entity_names.proofs.NumberedNames.{y-text-named}
use Rattle.expanded_sources.proofs.SymbolicTexts.{block-named, each-unit}

not-great : (us : List (List Labelled)) (great : Bool) → main_line_if us great ≡ None → great ≡ false
not-great us true none = absurd cc
not-great us false none = refl

first-main : (us : List (List Labelled)) (block : Option (List ℕ)) → has_block (unit_at us 0) block ≡ true → first_with us block ≡ unit_at us 0
first-main [] block has = let e : false ≡ true = has in absurd cc
first-main (u ∷ us) block has = ap (λ (b : Bool). first_unit (cond b (u ∷ filter (λ v. has_block v block) us) (filter (λ v. has_block v block) us))) has

main-at : (us : List (List Labelled)) (block : Option (List ℕ)) (place : ℕ) (name : List ℕ) → slice_get (block_list (unit_at us 0) block) place ≡ Some name → main_name us (InBlock block place) ≡ name
main-at us block place name at = rw at refl

module _ (stmts : List Labelled) (checked : Bool) (text : IsText stmts) (accepted : unit_refusal stmts checked ≡ None) where
  abbrev us : List (List Labelled)
  us = units stmts

  -- ---- names of their own

  few-names : has_great_name us ≡ false
  few-names =
      let line : Option ℕ = main_line_if us (has_great_name us) in
      not-great us (has_great_name us) (no-end TooManyNames line (none-at (unit_refusals stmts us checked) 8 (end_at TooManyNames line) accepted refl))

  pub entity-name : (e : Entity) → list_any (same_entity e) (y_entities us) ≡ true → is_name (name_for us e) ≡ true
  entity-name e is =
      let n = numbered-short us (text-short stmts text) few-names e is in
      let count = length (y_entities us) in
      let place = position_or_len (same_entity e) (y_entities us) in
      let inside : place < count = first-inside (same_entity e) (y_entities us) is in
      let small : nat_lt 99999 n.number ≡ false = none-passes (nat_lt 99999) (take count (free_numbers us count)) place n.number few-names (taken-at (free_numbers us count) count place inside ∙ n.stands) in
      ap is_name n.names ∙ y-text-named n.number (under 99999 n.number (10 ^ 5) small (omega arith)) n.below
    where
      under : (most n top : ℕ) → nat_lt most n ≡ false → most < top → n < top
      under most n top small low = grind (arith, nat_tests)

  -- ---- names of the main program's blocks

  none-mismatched : (k : ℕ) → list_any (is_mismatched_part us (unit_at us k)) (all_commons (unit_at us k)) ≡ false
  none-mismatched k =
      let line : Option ℕ = first_answer (bad_block us) us in
      let none : line ≡ None = no-end BadBlock line (none-at (unit_refusals stmts us checked) 5 (end_at BadBlock line) accepted refl) in
      each-unit stmts text (λ (u : List Labelled). list_any (is_mismatched_part us u) (all_commons u) ≡ false) refl (λ j u at. no-line (list_any (is_mismatched_part us u) (all_commons u)) u (each-none (bad_block us) us none j u at)) k

  module _ (k : ℕ) (x : List ℕ) (some : 0 < k) where
    abbrev u : List Labelled
    u = unit_at us k

    in-block : (part : CommonPart) → is_mismatched_part us u part ≡ false → has_block (unit_at us 0) part.block ≡ true → list_any (bytes_eq x) (block_list u part.block) ≡ true
        → is_name (name_for us (InBlock part.block (position_or_len (bytes_eq x) (block_list u part.block)))) ≡ true
    in-block part even has among =
        let block = part.block in
        let own = block_list u block in
        let mains = block_list (unit_at us 0) block in
        let place = position_or_len (bytes_eq x) own in
        let e = InBlock block place in
        let alike : are_alike u (first_with us block) own (block_list (first_with us block) block) ≡ true = not-not (are_alike u (first_with us block) own (block_list (first_with us block) block)) even in
        let long : length own ≡ length mains = alike-lengths u (first_with us block) own (block_list (first_with us block) block) alike ∙ ap (λ (v : List Labelled). length (block_list v block)) (first-main us block has) in
        let early : place < length own = first-inside (bytes_eq x) own among in
        let at : slice_get mains place ≡ Some (get_or mains place []) = slice_get-get_or mains place [] (omega (arith, long, early)) in
        ap (λ (b : Bool). is_name (if b then main_name us e else y_name us e)) has
        ∙ ap is_name (main-at us block place (get_or mains place []) at)
        ∙ pass_at is_name mains place (get_or mains place []) (block-named stmts text 0 block) at

    by-parts : (parts : List CommonPart) → ((block : Option (List ℕ)) → Tells parts x block → Tells (all_commons u) x block) → list_any (is_mismatched_part us u) parts ≡ false
        → is_main us (entity_or k x (first_answer (found_in u x) parts)) ≡ true → is_name (name_for us (entity_or k x (first_answer (found_in u x) parts))) ≡ true
    by-parts [] whole even main = let none : k ≡ 0 = eqb-true k 0 main in absurd (omega (arith, some, none))
    by-parts (part ∷ parts) whole even main =
        let place = position_or_len (bytes_eq x) (block_list u part.block) in
        let made : Bool → Entity = λ b. entity_or k x (answer_or (if b then Some (InBlock part.block place) else None) (first_answer (found_in u x) parts)) in
        let each = or_parts (is_mismatched_part us u part) (list_any (is_mismatched_part us u) parts) even in
        ⊎_elim
        (λ (is : list_any (named x) part.decls ≡ true).
        subst (λ (b : Bool). is_main us (made b) ≡ true → is_name (name_for us (made b)) ≡ true) (sym is) (λ has. in-block part each.0 has (Tells.among (whole part.block (in-first x part parts is)))) main)
        (λ (is : list_any (named x) part.decls ≡ false).
        subst (λ (b : Bool). is_main us (made b) ≡ true → is_name (name_for us (made b)) ≡ true) (sym is) (λ has. by-parts parts (λ block more. whole block (later x part parts block more)) each.1 has) main)
        (cases_Bool (list_any (named x) part.decls))

    -- ---- names of a subroutine's own

    pub own-name : k < length us → list_any (bytes_eq x) (own_names us k) ≡ true → is_name (name_for us (entity_of us k x)) ≡ true
    own-name below own = by (is_main us (entity_of us k x)) refl
      where
        by : (b : Bool) → is_main us (entity_of us k x) ≡ b → is_name (name_for us (entity_of us k x)) ≡ true
        by true is = by-parts (all_commons u) (λ block told. told) (none-mismatched k) is
        by false is = entity-name (entity_of us k x) (noted us k x some below own is)
