-- A number for each entity of the run, so that there can be a word for each behind the words of a program.
use Rattle.std.proofs.Common.{◌≡◌, ℕ, ◌+◌, ◌*◌, ◌<◌, ◌≤◌, ◌^◌, Bool, true, false, ◌||◌, if◌then◌else◌, List, [], ◌∷◌, ◌++◌, length, flat_map, get_or, take, Option, Some, None, refl, sym, ap, ◌∙◌, arith}
use Rattle.std.specs.Prelude.{bytes_eq, nat_lt}
use Rattle.std.specs.List.{list_all, list_any, position_or_len, slice_get}
use Rattle.std.proofs.lemmas.Bool.{and_parts}
use Rattle.std.proofs.lemmas.Bool.Decides.{nat_tests}
use Rattle.std.proofs.lemmas.List.Folds.{list_all-append}
use Rattle.std.proofs.lemmas.Option.{slice_get-get_or, slice_get_within}
use Rattle.f77_tree.proofs.NameLemmas.{bytes_eq-same}
use Rattle.f77_tree.specs.Name.{is_name}
use Rattle.f77_tree.specs.declared.statements.Labelled.{Labelled}
use Rattle.layout_rules.specs.Declarations.{all_commons}
use Rattle.program_units.proofs.Counting.{first-inside}
use Rattle.unit_laws.proofs.ShortNames.{none-passes, numbered-short, taken-at}
use Rattle.unit_laws.proofs.TextNames.{AreNames, text-short, unit-named}
use Rattle.unit_laws.proofs.UnitSources.{IsUnit, text-unit}
use Rattle.program_units.specs.declared.entity.Entity.{Entity}
use Rattle.program_units.specs.declared.entity.Entity.TheVariants.{InBlock}
use Rattle.program_units.specs.Entities.{block_list, entity_of}
use Rattle.program_units.specs.Names.{free_numbers, is_main, name_for, names_of_unit, option_names, own_names, same_entity, y_entities, y_text}
use Rattle.program_units.specs.Refusals.{unit_refusal}
use Rattle.program_units.specs.Storage.{IsOfRun}
use Rattle.program_units.specs.Texts.{IsText}
use Rattle.program_units.specs.Units.{dummies_of, sub_name, unit_at, unit_or_none, units}
use Rattle.called_runs.proofs.BlocksOfTexts.{none-great}
use Rattle.called_runs.proofs.DeclaredAlike.{blocks-even}
use Rattle.called_runs.proofs.EntityNames.{in-names, of-own, own-entity}
use Rattle.called_runs.proofs.NameNumbers.{name-below, name_number, names-apart}

-- ---- by names

-- what is told of a new name
record IsNew (text : ℕ → List ℕ) (top own : ℕ) (name : List ℕ) : Type 0 where
  small : own < top
  names : name ≡ text own

module _ {E : Type 0} (InRun : E → Type 0) (is_old : E → Bool) (name_of : E → List ℕ) (own : E → ℕ) (text : ℕ → List ℕ) (top : ℕ)
    (old : (e : E) → InRun e → is_old e ≡ true → is_name (name_of e) ≡ true)
    (new : (e : E) → InRun e → is_old e ≡ false → IsNew text top (own e) (name_of e)) where
  -- that of a new name, or behind those that of a name by its letters
  abbrev number_of : E → ℕ
  number_of e = if is_old e then top + name_number (name_of e) else own e

  told : (e : E) (b : Bool) → is_old e ≡ b → number_of e ≡ (if b then top + name_number (name_of e) else own e)
  told e b is = ap (λ (c : Bool). if c then top + name_number (name_of e) else own e) is

  inside : (bound : ℕ) → ((x : List ℕ) → is_name x ≡ true → name_number x < bound) → (e : E) → InRun e → number_of e < top + bound
  inside bound below e run = by (is_old e) refl
    where
      by : (b : Bool) → is_old e ≡ b → number_of e < top + bound
      by true is = let same = told e true is in let less = below (name_of e) (old e run is) in omega (arith, same, less)
      by false is = let same = told e false is in let less = (new e run is).small in omega (arith, same, less)

  differ : (e f : E) → InRun e → InRun f → number_of e ≡ number_of f → name_of e ≡ name_of f
  differ e f one two same = by (is_old e) (is_old f) refl refl
    where
      by : (b c : Bool) → is_old e ≡ b → is_old f ≡ c → name_of e ≡ name_of f
      by true true a b = let here = told e true a in let there = told f true b in names-apart (name_of e) (name_of f) (old e one a) (old f two b) (omega (arith, same, here, there))
      by true false a b = let here = told e true a in let there = told f false b in let less = (new f two b).small in absurd (omega (arith, same, here, there, less))
      by false true a b = let here = told e false a in let there = told f true b in let less = (new e one a).small in absurd (omega (arith, same, here, there, less))
      by false false a b =
          let here = told e false a in
          let there = told f false b in
          let alike : own e ≡ own f = omega (arith, same, here, there) in
          (new e one a).names ∙ ap text alike ∙ sym (new f two b).names

-- ---- in a text whose units nothing refuses

-- numbers below so many, and different ones for different names
pub record HaveNumbers (us : List (List Labelled)) : Type 0 where
  pub number : Entity → ℕ
  pub count : ℕ
  pub few : count ≤ 2147221503
  pub within : (e : Entity) → IsOfRun us e → number e < count
  pub apart : (e f : Entity) → IsOfRun us e → IsOfRun us f → number e ≡ number f → name_for us e ≡ name_for us f

named-in : (x : List ℕ) (xs : List (List ℕ)) → AreNames xs → list_any (bytes_eq x) xs ≡ true → is_name x ≡ true
named-in x [] all any = absurd cc
named-in x (y ∷ ys) all any =
    let parts = and_parts (is_name y) (list_all is_name ys) all in
    by (bytes_eq x y) refl any parts.0 (named-in x ys parts.1)
  where
    by : (b : Bool) → bytes_eq x y ≡ b → (b || list_any (bytes_eq x) ys) ≡ true → is_name y ≡ true → (list_any (bytes_eq x) ys ≡ true → is_name x ≡ true) → is_name x ≡ true
    by true is here named more = ap is_name (bytes_eq-same x y is) ∙ named
    by false is here named more = more here

first-named : (xs ys : List (List ℕ)) → AreNames (xs ++ ys) → AreNames xs
first-named xs ys all = (and_parts (list_all is_name xs) (list_all is_name ys) (sym (list_all-append is_name xs ys) ∙ all)).0

in-all : 10 ^ 5 + 26 * 37 ^ 5 ≤ 2147221503
in-all = omega arith

module _ (stmts : List Labelled) (checked : Bool) (text : IsText stmts) (accepted : unit_refusal stmts checked ≡ None) where
  abbrev us : List (List Labelled)
  us = units stmts

  abbrev own : Entity → ℕ
  own e = get_or (free_numbers us (length (y_entities us))) (position_or_len (same_entity e) (y_entities us)) 0

  main-named : AreNames (names_of_unit (unit_at us 0))
  main-named = by (slice_get us 0) refl
    where
      by : (o : Option (List Labelled)) → slice_get us 0 ≡ o → AreNames (names_of_unit (unit_or_none o))
      by None at = refl
      by (Some u) at =
          let subs = flat_map (λ s. option_names (sub_name s.stmt)) u in
          let blocks = flat_map (λ part. option_names part.block) (all_commons u) in
          first-named (names_of_unit u) (dummies_of u) (first-named (names_of_unit u ++ dummies_of u) subs (first-named (names_of_unit u ++ dummies_of u ++ subs) blocks (unit-named u (IsUnit.read (text-unit stmts text 0 u at)).given)))

  -- over any bound
  new-own : (top : ℕ) → 99999 < top → (e : Entity) → list_any (same_entity e) (y_entities us) ≡ true → IsNew y_text top (own e) (name_for us e)
  new-own top low e listed =
      let count = length (y_entities us) in
      let numbers = free_numbers us count in
      let place = position_or_len (same_entity e) (y_entities us) in
      let n = numbered-short us (text-short stmts text) (none-great stmts checked accepted) e listed in
      let there : Some (own e) ≡ Some n.number = sym (slice_get-get_or numbers place 0 (slice_get_within numbers place n.number n.stands)) ∙ n.stands in
      let same : own e ≡ n.number = cc in
      let small : nat_lt 99999 n.number ≡ false = none-passes (nat_lt 99999) (take count numbers) place n.number (none-great stmts checked accepted) (taken-at numbers count place (first-inside (same_entity e) (y_entities us) listed) ∙ n.stands) in
      record { small = under 99999 n.number (own e) small low same; names = n.names ∙ ap y_text (sym same) }
    where
      under : (most n m : ℕ) → nat_lt most n ≡ false → most < top → m ≡ n → m < top
      under most n m small low same = grind (arith, nat_tests)

  module _ (kept : (x : List ℕ) → name_for us (entity_of us 0 x) ≡ x)
      (once : (k : ℕ) (block : Option (List ℕ)) (i : ℕ) (x : List ℕ) → slice_get (block_list (unit_at us k) block) i ≡ Some x → entity_of us k x ≡ InBlock block i)
      (noted : (k : ℕ) (x : List ℕ) → 0 < k → k < length us → list_any (bytes_eq x) (own_names us k) ≡ true → is_main us (entity_of us k x) ≡ false → list_any (same_entity (entity_of us k x)) (y_entities us) ≡ true) where
    old-named : (e : Entity) → IsOfRun us e → is_main us e ≡ true → is_name (name_for us e) ≡ true
    old-named e run is =
        let even = blocks-even stmts checked accepted in
        named-in (name_for us e) (names_of_unit (unit_at us 0)) main-named (in-names us kept once even run.unit run.name e (of-own us kept once even noted run.unit run.name run.appears) run.is is)

    new-named : (e : Entity) → IsOfRun us e → is_main us e ≡ false → IsNew y_text (10 ^ 5) (own e) (name_for us e)
    new-named e run is = new-own (10 ^ 5) (omega arith) e (own-entity us kept once (blocks-even stmts checked accepted) noted e run is)

    pub have-numbers : HaveNumbers us
    have-numbers = record {
      number = number_of (IsOfRun us) (is_main us) (name_for us) own y_text (10 ^ 5) old-named new-named;
      count = 10 ^ 5 + 26 * 37 ^ 5;
      few = in-all;
      within = inside (IsOfRun us) (is_main us) (name_for us) own y_text (10 ^ 5) old-named new-named (26 * 37 ^ 5) name-below;
      apart = differ (IsOfRun us) (is_main us) (name_for us) own y_text (10 ^ 5) old-named new-named;
    }
