-- Lists that are kept item by item.
use Rattle.std.proofs.Common.{◌≡◌, ℕ, zero, suc, ◌+◌, ◌<◌, ◌≤◌, Bool, List, [], ◌∷◌, ◌++◌, length, Some, None, refl, sym, ap, ◌∙◌, arith, length-append}
use Rattle.f77_tree.specs.declared.declarations.LetterRange.{LetterRange}
use Rattle.f77_parse.specs.Parts.{after_comma}
use Rattle.f77_parse.specs.Keeping.{Keeps, keep_then, kept_next, kept_onto, kept_after, kept_to_end, kept_parts, characters_onto, characters_next, characters_kept, next_character_kept, ranges_onto, kept_ranges, letters_kept}

-- a list of which some items are kept: reading goes on after them
pub record IsBegun {V : Type 0} (item : Bool → List ℕ → Keeps V) (before : List V) (text : List ℕ) (total : Keeps (List V)) (list : List V) (bad : Bool) (rest : List ℕ) : Type 0 where
  pub fuel : ℕ
  pub enough : length rest ≤ fuel
  pub goes_on : total ≡ kept_next (kept_onto fuel item) list bad rest (after_comma rest)
  pub room : length list + length rest ≤ length before + length text
  pub shorter : length rest < length text

module _ {V : Type 0} (item : Bool → List ℕ → Keeps V) where
  grown : (list : List V) (v : V) → length (list ++ v ∷ []) ≡ suc (length list)
  grown list v = length-append list (v ∷ []) ∙ (omega arith)

  pub no_first : (before : List V) (bad : Bool) (text : List ℕ) → item bad text ≡ None → kept_after item before bad text ≡ None
  unfolding kept_after
  no_first before bad text none = ap (λ x. keep_then x (λ v bad_now rest. kept_next (kept_onto (length text) item) (before ++ v ∷ []) bad_now rest (after_comma rest))) none

  pub first_item : (before : List V) (bad : Bool) (text : List ℕ) (v : V) (bad_now : Bool) (rest : List ℕ) → item bad text ≡ Some (v, bad_now, rest) → length rest < length text → IsBegun item before text (kept_after item before bad text) (before ++ v ∷ []) bad_now rest
  unfolding kept_after
  first_item before bad text v bad_now rest some less =
      let longer = grown before v in
      record {
        fuel = length text;
        enough = omega arith;
        goes_on = ap (λ x. keep_then x (λ v bad_now rest. kept_next (kept_onto (length text) item) (before ++ v ∷ []) bad_now rest (after_comma rest))) some;
        room = omega arith;
        shorter = less;
      }

  module _ (before : List V) (text : List ℕ) (total : Keeps (List V)) (list : List V) (bad : Bool) (rest : List ℕ) (begun : IsBegun item before text total list bad rest) where
    pub last_item : after_comma rest ≡ None → total ≡ Some (list, bad, rest)
    last_item none = begun.goes_on ∙ ap (λ x. kept_next (kept_onto begun.fuel item) list bad rest x) none

    beyond : (next : List ℕ) → after_comma rest ≡ Some next → total ≡ kept_onto begun.fuel item list bad next
    beyond next comma = begun.goes_on ∙ ap (λ x. kept_next (kept_onto begun.fuel item) list bad rest x) comma

    onto_none : (n : ℕ) (next : List ℕ) → item bad next ≡ None → kept_onto n item list bad next ≡ None
    onto_none zero next none = refl
    onto_none (suc n) next none = ap (λ x. keep_then x (λ v bad_now more. kept_next (kept_onto n item) (list ++ v ∷ []) bad_now more (after_comma more))) none

    pub no_next : (next : List ℕ) → after_comma rest ≡ Some next → item bad next ≡ None → total ≡ None
    no_next next comma none = beyond next comma ∙ onto_none begun.fuel next none

    more : (n : ℕ) (next : List ℕ) (v : V) (bad_now : Bool) (later : List ℕ) → total ≡ kept_onto n item list bad next → length next < length rest → length rest ≤ n → item bad next ≡ Some (v, bad_now, later) → length later < length next → IsBegun item before text total (list ++ v ∷ []) bad_now later
    more zero next v bad_now later is less enough some shorter = absurd (omega arith)
    more (suc n) next v bad_now later is less enough some shorter =
        let longer = grown list v in
        let room = begun.room in
        let before_less = begun.shorter in
        record {
          fuel = n;
          enough = omega arith;
          goes_on = is ∙ ap (λ x. keep_then x (λ v bad_now more. kept_next (kept_onto n item) (list ++ v ∷ []) bad_now more (after_comma more))) some;
          room = omega arith;
          shorter = omega arith;
        }

    pub next_item : (next : List ℕ) (v : V) (bad_now : Bool) (later : List ℕ) → after_comma rest ≡ Some next → length next < length rest → item bad next ≡ Some (v, bad_now, later) → length later < length next → IsBegun item before text total (list ++ v ∷ []) bad_now later
    next_item next v bad_now later comma less some shorter = more begun.fuel next v bad_now later (beyond next comma) less begun.enough some shorter

-- ---- lists up to the end of the text

-- a list of parts of which some are kept
pub record IsFilled {V : Type 0} (item : Bool → List ℕ → Keeps V) (text : List ℕ) (total : Keeps (List V)) (list : List V) (bad : Bool) (rest : List ℕ) : Type 0 where
  pub fuel : ℕ
  pub enough : length rest ≤ fuel
  pub goes_on : total ≡ kept_to_end fuel item list bad rest
  pub room : length list + length rest ≤ length text
  pub shorter : length rest < length text

module _ {V : Type 0} (first item : Bool → List ℕ → Keeps V) where
  pub no_first_part : (bad : Bool) (text : List ℕ) → first bad text ≡ None → kept_parts first item bad text ≡ None
  unfolding kept_parts
  no_first_part bad text none = ap (λ x. keep_then x (λ v bad_now rest. kept_to_end (length rest) item (v ∷ []) bad_now rest)) none

  pub first_part : (bad : Bool) (text : List ℕ) (v : V) (bad_now : Bool) (rest : List ℕ) → first bad text ≡ Some (v, bad_now, rest) → length rest < length text → IsFilled item text (kept_parts first item bad text) (v ∷ []) bad_now rest
  unfolding kept_parts
  first_part bad text v bad_now rest some less = record {
    fuel = length rest;
    enough = omega arith;
    goes_on = ap (λ x. keep_then x (λ v bad_now rest. kept_to_end (length rest) item (v ∷ []) bad_now rest)) some;
    room = omega arith;
    shorter = less;
  }

module _ {V : Type 0} (item : Bool → List ℕ → Keeps V) (text : List ℕ) (total : Keeps (List V)) (list : List V) (bad : Bool) where
  pub parts_end : (rest : List ℕ) → IsFilled item text total list bad rest → rest ≡ [] → total ≡ Some (list, bad, rest)
  parts_end rest f ends = f.goes_on ∙ ap (λ (r : List ℕ). kept_to_end f.fuel item list bad r) ends ∙ at_nothing f.fuel ∙ ap (λ (r : List ℕ). Some (list, bad, r)) (sym ends)
    where
      at_nothing : (n : ℕ) → kept_to_end n item list bad [] ≡ Some (list, bad, [])
      at_nothing zero = refl
      at_nothing (suc n) = refl

  pub no_part : (rest : List ℕ) → IsFilled item text total list bad rest → item bad rest ≡ None → 0 < length rest → total ≡ None
  no_part rest f none some = f.goes_on ∙ by f.fuel rest none some
    where
      by : (n : ℕ) (r : List ℕ) → item bad r ≡ None → 0 < length r → kept_to_end n item list bad r ≡ None
      by n [] none some = absurd (omega arith)
      by zero (c ∷ r) none some = refl
      by (suc n) (c ∷ r) none some = ap (λ x. keep_then x (λ v bad_now more. kept_to_end n item (list ++ v ∷ []) bad_now more)) none

  pub next_part : (rest : List ℕ) → IsFilled item text total list bad rest → (v : V) (bad_now : Bool) (later : List ℕ) → item bad rest ≡ Some (v, bad_now, later) → length later < length rest → IsFilled item text total (list ++ v ∷ []) bad_now later
  next_part rest f v bad_now later some less = by f.fuel rest f.goes_on f.enough f.room f.shorter some less
    where
      by : (n : ℕ) (r : List ℕ) → total ≡ kept_to_end n item list bad r → length r ≤ n → length list + length r ≤ length text → length r < length text → item bad r ≡ Some (v, bad_now, later) → length later < length r → IsFilled item text total (list ++ v ∷ []) bad_now later
      by n [] is enough room shorter some less = absurd (omega arith)
      by zero (c ∷ r) is enough room shorter some less = absurd (omega arith)
      by (suc n) (c ∷ r) is enough room shorter some less =
          let longer = grown item list v in
          record {
            fuel = n;
            enough = omega arith;
            goes_on = is ∙ ap (λ x. keep_then x (λ v bad_now more. kept_to_end n item (list ++ v ∷ []) bad_now more)) some;
            room = omega arith;
            shorter = omega arith;
          }

-- ---- the characters of a constant

pub record IsQuoting (text : List ℕ) (total : Keeps (List ℕ)) (list : List ℕ) (bad : Bool) (rest : List ℕ) : Type 0 where
  pub fuel : ℕ
  pub enough : length rest < fuel
  pub goes_on : total ≡ characters_onto fuel list bad rest
  pub room : length list + length rest ≤ length text

pub quoting_begins : (bad : Bool) (text : List ℕ) → IsQuoting text (characters_kept bad text) [] bad text
unfolding characters_kept
quoting_begins bad text = record { fuel = suc (length text); enough = omega arith; goes_on = refl; room = omega arith }

module _ (text : List ℕ) (total : Keeps (List ℕ)) (list : List ℕ) (bad : Bool) (rest : List ℕ) (q : IsQuoting text total list bad rest) where
  pub quoting_goes_on : (c : ℕ) (bad_now : Bool) (later : List ℕ) → next_character_kept bad rest ≡ Some (Some c, bad_now, later) → length later < length rest → IsQuoting text total (list ++ c ∷ []) bad_now later
  quoting_goes_on c bad_now later some less = by q.fuel q.enough q.goes_on
    where
      by : (n : ℕ) → length rest < n → total ≡ characters_onto n list bad rest → IsQuoting text total (list ++ c ∷ []) bad_now later
      by zero enough is = absurd (omega arith)
      by (suc n) enough is =
          let longer = length-append list (c ∷ []) in
          let room = q.room in
          record {
            fuel = n;
            enough = omega arith;
            goes_on = is ∙ ap (λ x. keep_then x (λ next bad_now more. characters_next (characters_onto n) list bad_now more next)) some;
            room = omega arith;
          }

-- ---- types and their letters

pub record AreRanged (text : List ℕ) (total : Keeps (List LetterRange)) (list : List LetterRange) (bad : Bool) (rest : List ℕ) : Type 0 where
  pub fuel : ℕ
  pub enough : length rest ≤ fuel
  pub goes_on : total ≡ kept_next (ranges_onto fuel) list bad rest (after_comma rest)
  pub room : length list + length rest ≤ length text
  pub shorter : length rest < length text

pub no_letters : (bad : Bool) (text : List ℕ) → letters_kept [] bad text ≡ None → kept_ranges bad text ≡ None
unfolding kept_ranges
no_letters bad text none = ap (λ x. keep_then x (λ longer bad_now rest. kept_next (ranges_onto (length text)) longer bad_now rest (after_comma rest))) none

pub first_letters : (bad : Bool) (text : List ℕ) (list : List LetterRange) (bad_now : Bool) (rest : List ℕ) → letters_kept [] bad text ≡ Some (list, bad_now, rest) → length rest < length text → length list + length rest ≤ length text → AreRanged text (kept_ranges bad text) list bad_now rest
unfolding kept_ranges
first_letters bad text list bad_now rest some less room = record {
  fuel = length text;
  enough = omega arith;
  goes_on = ap (λ x. keep_then x (λ longer bad_now rest. kept_next (ranges_onto (length text)) longer bad_now rest (after_comma rest))) some;
  room = room;
  shorter = less;
}

module _ (text : List ℕ) (total : Keeps (List LetterRange)) (list : List LetterRange) (bad : Bool) (rest : List ℕ) (r : AreRanged text total list bad rest) where
  letters_after : (next : List ℕ) → after_comma rest ≡ Some next → total ≡ ranges_onto r.fuel list bad next
  letters_after next comma = r.goes_on ∙ ap (λ x. kept_next (ranges_onto r.fuel) list bad rest x) comma

  pub next_letters : (next : List ℕ) (longer : List LetterRange) (bad_now : Bool) (later : List ℕ) → after_comma rest ≡ Some next → length next < length rest → letters_kept list bad next ≡ Some (longer, bad_now, later) → length later < length next → length longer + length later ≤ length list + length next → AreRanged text total longer bad_now later
  next_letters next longer bad_now later comma less some shorter grows = by r.fuel r.enough (letters_after next comma)
    where
      by : (n : ℕ) → length rest ≤ n → total ≡ ranges_onto n list bad next → AreRanged text total longer bad_now later
      by zero enough is = absurd (omega arith)
      by (suc n) enough is =
          let room = r.room in
          let before = r.shorter in
          record {
            fuel = n;
            enough = omega arith;
            goes_on = is ∙ ap (λ x. keep_then x (λ longer bad_now more. kept_next (ranges_onto n) longer bad_now more (after_comma more))) some;
            room = omega arith;
            shorter = omega arith;
          }
