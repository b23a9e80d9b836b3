-- Names by what is kept of units.
use Rattle.std.proofs.Common.{◌≡◌, ℕ, zero, suc, ◌<◌, Bool, true, false, List, [], ◌∷◌, length, get_or, map, take, Option, Some, None, option_map, if◌then◌else◌, refl, sym, ap, ◌∙◌, arith}
use Rattle.std.specs.Prelude.{bytes_eq, nat_lt}
use Rattle.std.specs.List.{list_any, position_or_len, slice_get}
use Rattle.std.specs.Option.{is_some}
use Rattle.std.proofs.lemmas.Bool.{ltb-true}
use Rattle.std.proofs.lemmas.Option.{slice_get-get_or, slice_get_read}
use Rattle.indexmap.specs.IndexMap.{get}
use Rattle.f77_tree.specs.declared.statements.Labelled.{Labelled}
use Rattle.entity_names.specs.declared.unit_entities.UnitNames.{UnitNames}
use Rattle.program_units.specs.declared.new_name.NewName.{NewName}
use Rattle.program_units.specs.declared.new_name.NewName.TheVariants.{Argument, Fixed}
use Rattle.program_units.specs.declared.entity.Entity.{Entity}
use Rattle.program_units.specs.declared.entity.Entity.TheVariants.{InBlock}
use Rattle.program_units.specs.Entities.{block_list, entity_of, entity_or}
use Rattle.program_units.specs.NamedEntities.{has_main_name}
use Rattle.program_units.specs.Names.{free_numbers, main_name, name_for, same_entity, y_entities, y_name, y_or, y_text}
use Rattle.program_units.specs.NewNames.{own_texts, new_name}
use Rattle.entity_names.specs.UnitEntities.{AreNamesOf, AreNamesOfAll, entity_by}
use Rattle.program_units.specs.Units.{dummies_of, unit_at}
use Rattle.program_units.proofs.Counting.{inside-is}

-- what is kept of a unit
pub kept-at : (us : List (List Labelled)) (table : List UnitNames) (k : ℕ) (kept : UnitNames) → AreNamesOfAll us table → k < length us → kept ≡ get_or table k kept → AreNamesOf (unit_at us k) kept
kept-at us table k kept all inside is =
    let count = all.count in
    all.each k kept (slice_get_read table (length table) k kept refl (omega (arith, count, inside)) is)

pub entity-is : (us : List (List Labelled)) (k : ℕ) (kept : UnitNames) (x : List ℕ) → AreNamesOf (unit_at us k) kept → entity_by kept k x ≡ entity_of us k x
entity-is us k kept x are = ap (entity_or k x) (are.blocks.entities x)

-- ---- names of entities

main-at : (us : List (List Labelled)) (block : Option (List ℕ)) (place : ℕ) (name : List ℕ) → slice_get (block_list (unit_at us 0) block) place ≡ Some name → name ≡ main_name us (InBlock block place)
main-at us block place name at = rw at refl

-- the name that the main program has at a place of a block
pub main-found : (us : List (List Labelled)) (kept : UnitNames) (entity : Entity) (block : Option (List ℕ)) (place : ℕ) (found : Option (List ℕ)) (name : List ℕ) → AreNamesOf (unit_at us 0) kept → entity ≡ InBlock block place → found ≡ get same_entity kept.blocks.names entity → found ≡ Some name → name ≡ main_name us entity
main-found us kept entity block place found name are is there some =
    main-at us block place name (sym (are.blocks.names block place) ∙ ap (get same_entity kept.blocks.names) (sym is) ∙ sym there ∙ some) ∙ ap (main_name us) (sym is)

some-same : {X : Type 0} (a b : X) → Some a ≡ Some b → a ≡ b
some-same a b is = cc

taken-at : {X Y : Type 0} (f : X → Y) (xs : List X) (n i : ℕ) (y : Y) → slice_get (map f (take n xs)) i ≡ Some y → option_map f (slice_get xs i) ≡ Some y
taken-at f xs zero i y at = let e : None ≡ Some y = at in absurd cc
taken-at f [] (suc n) i y at = let e : None ≡ Some y = at in absurd cc
taken-at f (x ∷ xs) (suc n) zero y at = at
taken-at f (x ∷ xs) (suc n) (suc i) y at = taken-at f xs n i y at

text-of : (n : Option ℕ) (name : List ℕ) → option_map y_text n ≡ Some name → name ≡ y_or n
text-of None name is = let e : None ≡ Some name = is in absurd cc
text-of (Some n) name is = sym (some-same (y_text n) name is)

-- where it has one, there is a main program, and the block has the place
pub main-some : (us : List (List Labelled)) (entity : Entity) (block : Option (List ℕ)) (place : ℕ) → entity ≡ InBlock block place → has_main_name us entity ≡ true → 0 < length us
main-some [] entity block place is has =
    let none : nat_lt place 0 ≡ true = sym (ap (has_main_name []) is) ∙ has in
    absurd (let below = ltb-true place 0 none in omega (arith, below))
main-some (u ∷ us) entity block place is has = omega arith

pub main-there : (us : List (List Labelled)) (kept : UnitNames) (entity : Entity) (block : Option (List ℕ)) (place : ℕ) → AreNamesOf (unit_at us 0) kept → entity ≡ InBlock block place → has_main_name us entity ≡ true → is_some (get same_entity kept.blocks.names entity) ≡ true
main-there us kept entity block place are is has =
    let names = block_list (unit_at us 0) block in
    let below = ltb-true place (length names) (sym (ap (has_main_name us) is) ∙ has) in
    ap (λ (e : Entity). is_some (get same_entity kept.blocks.names e)) is ∙ ap is_some (are.blocks.names block place ∙ slice_get-get_or names place [] (omega (arith, below)))

-- the name of an entity that has one of its own
pub own-found : (us : List (List Labelled)) (entity : Entity) (names : List (List ℕ)) (own : List Entity) (i : ℕ) (name : List ℕ) → names ≡ own_texts us → own ≡ y_entities us → i ≡ position_or_len (same_entity entity) own → slice_get names i ≡ Some name → name ≡ y_name us entity
own-found us entity names own i name texts entities place at =
    let count = length (y_entities us) in
    let there : slice_get (own_texts us) i ≡ Some name = ap (λ (xs : List (List ℕ)). slice_get xs i) (sym texts) ∙ at in
    text-of (slice_get (free_numbers us count) i) name (taken-at y_text (free_numbers us count) count i name there)
    ∙ ap (λ (j : ℕ). y_or (slice_get (free_numbers us count) j)) (place ∙ ap (position_or_len (same_entity entity)) entities)

-- ---- names in copies

argument-if : (b : Bool) (place n : ℕ) (other : NewName) → Some place ≡ (if b then Some n else None) → Argument place ≡ (if b then Argument n else other)
argument-if true place n other is = ap Argument (some-same place n is)
argument-if false place n other is = let e : Some place ≡ None = is in absurd cc

fixed-if : (b : Bool) (n : ℕ) (name : NewName) → None ≡ (if b then Some n else None) → name ≡ (if b then Argument n else name)
fixed-if true n name is = let e : None ≡ Some n = is in absurd cc
fixed-if false n name is = refl

-- a dummy becomes its argument
pub new-argument : (us : List (List Labelled)) (k : ℕ) (kept : UnitNames) (x : List ℕ) (place : ℕ) → AreNamesOf (unit_at us k) kept → Some place ≡ get bytes_eq kept.places x → Argument place ≡ new_name us k x
new-argument us k kept x place are is =
    let p = position_or_len (bytes_eq x) (dummies_of (unit_at us k)) in
    argument-if (nat_lt p (length (dummies_of (unit_at us k)))) place p (Fixed (name_for us (entity_of us k x))) (is ∙ are.places x)

-- a name that has no place among the dummies is none
pub no-dummy : (us : List (List Labelled)) (k : ℕ) (kept : UnitNames) (x : List ℕ) → AreNamesOf (unit_at us k) kept → None ≡ get bytes_eq kept.places x → list_any (bytes_eq x) (dummies_of (unit_at us k)) ≡ false
no-dummy us k kept x are none =
    let dummies = dummies_of (unit_at us k) in
    sym (inside-is (bytes_eq x) dummies) ∙ by (nat_lt (position_or_len (bytes_eq x) dummies) (length dummies)) (none ∙ are.places x)
  where
    by : (b : Bool) → None ≡ (if b then Some (position_or_len (bytes_eq x) (dummies_of (unit_at us k))) else None) → b ≡ false
    by true is = absurd cc
    by false is = refl

-- and another name the name of its entity
pub new-fixed : (us : List (List Labelled)) (k : ℕ) (kept : UnitNames) (x name : List ℕ) → AreNamesOf (unit_at us k) kept → None ≡ get bytes_eq kept.places x → name ≡ name_for us (entity_of us k x) → Fixed name ≡ new_name us k x
new-fixed us k kept x name are none is =
    let p = position_or_len (bytes_eq x) (dummies_of (unit_at us k)) in
    ap Fixed is ∙ fixed-if (nat_lt p (length (dummies_of (unit_at us k)))) p (Fixed (name_for us (entity_of us k x))) (none ∙ are.places x)
