-- What is put behind a list, item by item.
use Rattle.std.proofs.Common.{◌≡◌, ℕ, ◌+◌, ◌-◌, ◌<◌, ◌≤◌, Bool, true, false, ◌||◌, cond, List, [], ◌∷◌, ◌++◌, length, get_or, take, map, flat_map, filter, fold, Option, Some, if◌then◌else◌, refl, sym, ap, ◌∙◌}
use Rattle.std.specs.Prelude.{bytes_eq}
use Rattle.std.specs.List.{list_any, slice_get}
use Rattle.std.proofs.lemmas.List.{append_assoc, map-append, take_more}
use Rattle.std.proofs.lemmas.List.Elements.{filter-append}
use Rattle.std.proofs.lemmas.List.Sums.{fold-append}
use Rattle.std.proofs.lemmas.Option.{get_or_from_slice_get, slice_get_within}
use Rattle.std.proofs.lemmas.Slice.Eq.{bytes_eq-Decides}
use Rattle.f77_tree.specs.declared.statements.Labelled.{Labelled}
use Rattle.layout_rules.specs.Appearances.{each_once, with_name}
use Rattle.layout_rules.specs.Declarations.{all_commons}
use Rattle.layout_rules.proofs.FlatParts.{flat_map_taken}
use Rattle.symbol_table.proofs.NameEntries.{bytes_eq-sym}
use Rattle.entity_names.specs.declared.unit_entities.UnitNames.{UnitNames}
use Rattle.program_units.specs.declared.new_name.NewName.{NewName}
use Rattle.program_units.specs.Names.{names_of_unit, option_names, used_names}
use Rattle.entity_names.specs.UnitEntities.{AreNamesOf, used_by}
use Rattle.program_units.specs.Units.{dummies_of, runs, sub_name}
use Rattle.program_units.specs.NewNames.{new_name}
use Rattle.unit_laws.proofs.ManyBlocks.{added-more, run_to}
use Rattle.program_units.proofs.NamesAbove.{any-push, or-none}

module _ {X Y : Type 0} where
  -- those that pass a test
  pub kept-more : (f : X → Y) (p : X → Bool) (xs : List X) (i : ℕ) (x : X) (start old new : List Y) → slice_get xs i ≡ Some x → old ≡ start ++ map f (filter p (take i xs)) → new ≡ old ++ (if p x then f x ∷ [] else []) → new ≡ start ++ map f (filter p (take (i + 1) xs))
  kept-more f p xs i x start old new there before is =
      let inside = slice_get_within xs i x there in
      let at : get_or xs i x ≡ x = get_or_from_slice_get xs i x x there in
      let more : take (i + 1) xs ≡ take i xs ++ x ∷ [] = take_more xs i x inside ∙ ap (λ (y : X). take i xs ++ y ∷ []) at in
      let split : map f (filter p (take (i + 1) xs)) ≡ map f (filter p (take i xs)) ++ map f (filter p (x ∷ [])) =
      ap (λ (ys : List X). map f (filter p ys)) more ∙ ap (map f) (filter-append p (take i xs) (x ∷ [])) ∙ map-append f (filter p (take i xs)) (filter p (x ∷ [])) in
      is ∙ ap (λ (ys : List Y). ys ++ (if p x then f x ∷ [] else [])) before
      ∙ append_assoc start (map f (filter p (take i xs))) (if p x then f x ∷ [] else [])
      ∙ ap (λ (ys : List Y). start ++ (map f (filter p (take i xs)) ++ ys)) (by_test (p x))
      ∙ ap (λ (ys : List Y). start ++ ys) (sym split)
    where
      by_test : (b : Bool) → (if b then f x ∷ [] else []) ≡ map f (cond b (x ∷ []) [])
      by_test true = refl
      by_test false = refl

  -- what each adds
  pub flat-more : (f : X → List Y) (xs : List X) (i : ℕ) (x : X) (start old new : List Y) → i < length xs → x ≡ get_or xs i x → old ≡ start ++ flat_map f (take i xs) → new ≡ old ++ f x → new ≡ start ++ flat_map f (take (i + 1) xs)
  flat-more f xs i x start old new inside stands before is =
      is ∙ ap (λ (ys : List Y). ys ++ f x) before ∙ append_assoc start (flat_map f (take i xs)) (f x) ∙ ap (λ (ys : List Y). start ++ ys) (sym (flat_map_taken f xs i x inside stands))

  pub fold-more : (g : List Y → Y → List Y) (f : X → List Y) (xs : List X) (i : ℕ) (x : X) (start old new : List Y) → i < length xs → x ≡ get_or xs i x → old ≡ fold g start (flat_map f (take i xs)) → new ≡ fold g old (f x) → new ≡ fold g start (flat_map f (take (i + 1) xs))
  fold-more g f xs i x start old new inside stands before is =
      is ∙ ap (λ (ys : List Y). fold g ys (f x)) before ∙ sym (fold-append g start (flat_map f (take i xs)) (f x)) ∙ ap (fold g start) (sym (flat_map_taken f xs i x inside stands))

module _ {Y : Type 0} where
  -- what each unit that runs adds
  pub run-put : (us : List (List Labelled)) (f : ℕ → List Y) (k : ℕ) (b : Bool) (start old new : List Y) → 1 ≤ k → runs us k ≡ b → old ≡ start ++ flat_map f (run_to us (k - 1)) → new ≡ old ++ (if b then f k else []) → new ≡ start ++ flat_map f (run_to us (k + 1 - 1))
  run-put us f k b start old new some is before made =
      made ∙ ap (λ (ys : List Y). ys ++ (if b then f k else [])) before ∙ append_assoc start (flat_map f (run_to us (k - 1))) (if b then f k else []) ∙ ap (λ (ys : List Y). start ++ ys) (sym (added-more us f k b some is))

  pub put-four : (old a b c d first second third fourth : List Y) → first ≡ old ++ a → second ≡ first ++ b → third ≡ second ++ c → fourth ≡ third ++ d → fourth ≡ old ++ (a ++ b ++ c ++ d)
  put-four old a b c d first second third fourth one two three four =
      four ∙ ap (λ (ys : List Y). ys ++ d) (three ∙ ap (λ (ys : List Y). ys ++ c) (two ∙ ap (λ (ys : List Y). ys ++ b) one))
      ∙ ap (λ (ys : List Y). (ys ++ c) ++ d) (append_assoc old a b)
      ∙ ap (λ (ys : List Y). ys ++ d) (append_assoc old (a ++ b) c)
      ∙ append_assoc old (a ++ b ++ c) d

-- ---- names in use

pub note-more : (names : List (List ℕ)) (i : ℕ) (n : List ℕ) (start old new : List (List ℕ)) → slice_get names i ≡ Some n → old ≡ fold with_name start (take i names) → new ≡ with_name old n → new ≡ fold with_name start (take (i + 1) names)
note-more names i n start old new there before is =
    let more : take (i + 1) names ≡ take i names ++ n ∷ [] = take_more names i n (slice_get_within names i n there) ∙ ap (λ (y : List ℕ). take i names ++ y ∷ []) (get_or_from_slice_get names i n n there) in
    is ∙ ap (λ (seen : List (List ℕ)). with_name seen n) before ∙ sym (ap (fold with_name start) more ∙ fold-append with_name start (take i names) (n ∷ []))

abbrev used_in : List Labelled → List (List ℕ)
used_in u = names_of_unit u ++ dummies_of u ++ flat_map (λ s. option_names (sub_name s.stmt)) u ++ flat_map (λ part. option_names part.block) (all_commons u)

used-is : (u : List Labelled) (kept : UnitNames) → AreNamesOf u kept → used_by kept u ≡ used_in u
used-is u kept are =
    ap (λ (names : List (List ℕ)). names ++ kept.dummies.items ++ flat_map (λ s. option_names (sub_name s.stmt)) u ++ flat_map (λ part. option_names part.block) (all_commons u)) are.names
    ∙ ap (λ (names : List (List ℕ)). names_of_unit u ++ names ++ flat_map (λ s. option_names (sub_name s.stmt)) u ++ flat_map (λ part. option_names part.block) (all_commons u)) are.dummies

pub used-more : (us : List (List Labelled)) (k : ℕ) (u : List Labelled) (kept : UnitNames) (old new : List (List ℕ)) → k < length us → u ≡ get_or us k u → AreNamesOf u kept → old ≡ each_once (used_names (take k us)) → new ≡ fold with_name old (used_by kept u) → new ≡ each_once (used_names (take (k + 1) us))
used-more us k u kept old new inside stands are before is =
    is ∙ ap (fold with_name old) (used-is u kept are)
    ∙ ap (λ (seen : List (List ℕ)). fold with_name seen (used_in u)) before
    ∙ sym (fold-append with_name [] (flat_map used_in (take k us)) (used_in u))
    ∙ ap each_once (sym (flat_map_taken used_in us k u inside stands))

-- ---- new names, one by one

pub named-more : (us : List (List Labelled)) (k : ℕ) (names : List (List ℕ)) (i : ℕ) (n : List ℕ) (old new : List ℕ → Option NewName) (v : NewName) → slice_get names i ≡ Some n → ((x : List ℕ) → list_any (bytes_eq x) (take i names) ≡ true → old x ≡ Some (new_name us k x))
    → ((x : List ℕ) → new x ≡ cond (bytes_eq n x) (Some v) (old x)) → v ≡ new_name us k n → (x : List ℕ) → list_any (bytes_eq x) (take (i + 1) names) ≡ true → new x ≡ Some (new_name us k x)
named-more us k names i n old new v there before after is x any = by_test (bytes_eq n x) refl
  where
    inside : i < length names
    inside = slice_get_within names i n there

    at : get_or names i n ≡ n
    at = get_or_from_slice_get names i n n there

    either : (list_any (bytes_eq x) (take i names) || bytes_eq x n) ≡ true
    either = sym (ap (list_any (bytes_eq x)) (take_more names i n inside ∙ ap (λ (y : List ℕ). take i names ++ y ∷ []) at) ∙ any-push (bytes_eq x) (take i names) n) ∙ any

    by_test : (b : Bool) → bytes_eq n x ≡ b → new x ≡ Some (new_name us k x)
    by_test true same =
        let own : n ≡ x = (bytes_eq-Decides n x).0 same in
        after x ∙ ap (λ (b : Bool). cond b (Some v) (old x)) same ∙ ap Some (is ∙ ap (new_name us k) own)
    by_test false other =
        let none : bytes_eq x n ≡ false = bytes_eq-sym x n ∙ other in
        let told : list_any (bytes_eq x) (take i names) ≡ true = sym (ap (λ (b : Bool). list_any (bytes_eq x) (take i names) || b) none ∙ or-none (list_any (bytes_eq x) (take i names))) ∙ either in
        after x ∙ ap (λ (b : Bool). cond b (Some v) (old x)) other ∙ before x told
