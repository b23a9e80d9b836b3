-- The first places of names in a list, found name by name.
use Rattle.std.proofs.Common.{◌≡◌, ℕ, ◌+◌, ◌<◌, Bool, List, [], ◌∷◌, ◌++◌, length, take, get_or, Option, sym, ap, ◌∙◌, arith, length-take-le}
use Rattle.std.specs.Prelude.{bytes_eq}
use Rattle.std.specs.List.{position_or_len}
use Rattle.std.proofs.lemmas.List.{take_more}
use Rattle.layout_rules.specs.Faults.{answer_or}
use Rattle.symbol_table.proofs.NameEntries.{bytes_eq-sym}
use Rattle.program_units.specs.CallTable.{if_below, unit_if}
use Rattle.program_units.proofs.FirstPlaces.{place-more}

abbrev pub place_in : (x : List ℕ) → List (List ℕ) → Option ℕ
place_in x names = if_below (position_or_len (bytes_eq x) names) (length names)

pub place-next : (x : List ℕ) (names : List (List ℕ)) (i : ℕ) (name : List ℕ) (old new : Option ℕ) → i < length names → name ≡ get_or names i name → old ≡ place_in x (take i names)
    → new ≡ answer_or old (unit_if (bytes_eq name x) i) → new ≡ place_in x (take (i + 1) names)
place-next x names i name old new inside stands before is =
    let long : length (take i names) ≡ i = length-take-le i names (omega (arith, inside)) in
    let more : take (i + 1) names ≡ take i names ++ name ∷ [] = take_more names i name inside ∙ ap (λ (y : List ℕ). take i names ++ y ∷ []) (sym stands) in
    is
    ∙ ap (λ (o : Option ℕ). answer_or o (unit_if (bytes_eq name x) i)) before
    ∙ ap (λ (b : Bool). answer_or (place_in x (take i names)) (unit_if b i)) (bytes_eq-sym name x)
    ∙ ap (λ (n : ℕ). answer_or (place_in x (take i names)) (unit_if (bytes_eq x name) n)) (sym long)
    ∙ sym (ap (place_in x) more ∙ place-more (bytes_eq x) (take i names) name)
