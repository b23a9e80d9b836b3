-- Ranges of letters, and letters with their kind.
use Rattle.std.proofs.Common.{◌≡◌, ◌==◌, ℕ, ◌<◌, ◌≤◌, true, not, List, [], ◌∷◌, ◌++◌, length, map, codes, Option, Some, None, nat_lt, refl, ap, ◌∙◌, arith, append_assoc}
use Rattle.std.proofs.lemmas.Bool.{and_parts, and_from, ltb-true, lt-ltb}
use Rattle.std.specs.List.{list_all}
use Rattle.f77_tree.specs.declared.declarations.Kind.{Kind}
use Rattle.f77_tree.specs.declared.declarations.Kind.TheVariants.{Integer, Logical}
use Rattle.f77_tree.specs.Name.{is_capital}
use Rattle.f77_tree.specs.StatementGrammar.{with_commas, in_brackets, WrittenRange, range_text, is_range, kind_text, WrittenLetters, letters_text, are_letters}
use Rattle.f77_expr.specs.Reader.{Reads, read_as, and_then_read, after_prefix, this_or}
use Rattle.f77_expr.proofs.EachRead.{Each, each_then, each_as, each_this_or}
use Rattle.f77_expr.proofs.Prefixes.{prefix_is}
use Rattle.f77_expr.proofs.Primaries.{capital_from}
use Rattle.f77_parse.specs.Parts.{letter_at, list_at, bracketed_at, range_after, range_at, kind_at, letters_at}
use Rattle.f77_parse.proofs.Followers.{not_at_start, ends_list, anything, IsAtStart, Every, IsListed}
use Rattle.f77_parse.proofs.PartReaders.{after_none}
use Rattle.f77_parse.proofs.PartLists.{every_pass, pass_every, bracketed_sound, bracketed_reads, list_pass_sound, list_pass_reads}
use Rattle.f77_parse.proofs.PartNumbers.{is_no, letter_sound, letter_reads}

-- ---- ranges

pub range_sound : (text : List ℕ) → Each (λ r rest. IsAtStart (λ r. is_range r ≡ true) range_text text r rest) (range_at text)
range_sound text =
    each_then (λ c rest. IsAtStart (λ c. is_capital c ≡ true) (λ c. c ∷ []) text c rest) P (λ first rest. range_after first rest (after_prefix (codes "-") rest)) (letter_at text) (letter_sound text)
    (λ first rest is. here first rest is (after_prefix (codes "-") rest) refl)
  where
    P : WrittenRange → List ℕ → Type 0
    P r rest = IsAtStart (λ r. is_range r ≡ true) range_text text r rest

    here : (first : ℕ) (rest : List ℕ) → IsAtStart (λ c. is_capital c ≡ true) (λ c. c ∷ []) text first rest → (o : Option (List ℕ)) → after_prefix (codes "-") rest ≡ o → Each P (range_after first rest o)
    here first rest is None e = (and_from (is_capital first) (is_capital first) is.0 is.0, is.1)
    here first rest is (Some next) e =
        each_as (λ c tail. IsAtStart (λ c. is_capital c ≡ true) (λ c. c ∷ []) next c tail) P (λ last. record { first = first; last = Some last }) (letter_at next) (letter_sound next)
        (λ last tail h. (
          and_from (is_capital first) (is_capital last) is.0 h.0,
          ap (λ (more : List ℕ). first ∷ 45 ∷ more) h.1 ∙ ap (λ (more : List ℕ). first ∷ more) (prefix_is (codes "-") rest next e) ∙ is.1,
        ))

pub range_reads : (r : WrittenRange) (rest : List ℕ) → is_range r ≡ true → not_at_start 45 rest ≡ true → range_at (range_text r ++ rest) ≡ Some (r, rest)
range_reads r rest fits follows = here r.last fits
  where
    made : Option ℕ → WrittenRange
    made last = record { first = r.first; last = last }

    go : ℕ → List ℕ → Reads WrittenRange
    go first rest = range_after first rest (after_prefix (codes "-") rest)

    here : (last : Option ℕ) → is_range (made last) ≡ true → range_at (range_text (made last) ++ rest) ≡ Some (made last, rest)
    here None fit =
        ap (and_then_read go) (letter_reads r.first rest (and_parts (is_capital r.first) (is_capital r.first) fit).0)
        ∙ ap (range_after r.first rest) (after_none 45 [] rest follows)
    here (Some last) fit =
        let both = and_parts (is_capital r.first) (is_capital last) fit in
        ap (and_then_read go) (letter_reads r.first (45 ∷ last ∷ rest) both.0)
        ∙ ap (read_as (λ last. record { first = r.first; last = Some last })) (letter_reads last rest both.1)

range_no_stroke : (r : WrittenRange) (rest : List ℕ) → is_range r ≡ true → not_at_start 47 (range_text r ++ rest) ≡ true
range_no_stroke r rest fits = here r.last fits
  where
    made : Option ℕ → WrittenRange
    made last = record { first = r.first; last = last }

    capital : is_capital r.first ≡ true → not (r.first == 47) ≡ true
    capital h = let from : 65 ≤ r.first = capital_from r.first h in ap not (is_no 47 r.first (omega arith))

    here : (last : Option ℕ) → is_range (made last) ≡ true → not_at_start 47 (range_text (made last) ++ rest) ≡ true
    here None fit = capital (and_parts (is_capital r.first) (is_capital r.first) fit).0
    here (Some last) fit = capital (and_parts (is_capital r.first) (is_capital last) fit).0

pub range_listed : IsListed range_at range_text (λ r. is_range r ≡ true) (not_at_start 45)
range_listed = record {
  sound = range_sound;
  reads = range_reads;
  comma = λ more. refl;
  bracket = λ more. refl;
  no_stroke = range_no_stroke;
}

-- ---- kinds and letters

pub kind_sound : (text : List ℕ) → Each (λ kind rest. IsAtStart (λ kind. Unit {0}) kind_text text kind rest) (kind_at text)
kind_sound text =
    each_this_or P Integer (after_prefix (codes "INTEGER") text) (this_or Logical (after_prefix (codes "LOGICAL") text) None) (λ rest e. (tt, prefix_is (codes "INTEGER") text rest e))
    (each_this_or P Logical (after_prefix (codes "LOGICAL") text) None (λ rest e. (tt, prefix_is (codes "LOGICAL") text rest e)) tt)
  where
    P : Kind → List ℕ → Type 0
    P kind rest = IsAtStart (λ kind. Unit {0}) kind_text text kind rest

pub kind_reads : (kind : Kind) (rest : List ℕ) → kind_at (kind_text kind ++ rest) ≡ Some (kind, rest)
kind_reads Integer rest = refl
kind_reads Logical rest = refl

abbrev ranges_text : List WrittenRange → List ℕ
ranges_text ranges = in_brackets (with_commas (map range_text ranges))

pub letters_sound : (text : List ℕ) → Each (λ letters rest. IsAtStart (λ letters. are_letters letters ≡ true) letters_text text letters rest) (letters_at text)
letters_sound text =
    each_then (λ kind rest. IsAtStart (λ kind. Unit {0}) kind_text text kind rest) P (λ kind rest. read_as (λ ranges. record { kind = kind; ranges = ranges }) (bracketed_at range_at rest)) (kind_at text) (kind_sound text)
    (λ kind rest is. each_as (λ ranges tail. IsAtStart (λ ranges. (1 ≤ length ranges) × Every (λ r. is_range r ≡ true) ranges) ranges_text rest ranges tail) P (λ ranges. record { kind = kind; ranges = ranges }) (bracketed_at range_at rest) (bracketed_sound range_listed rest)
    (λ ranges tail h. (
      and_from (nat_lt 0 (length ranges)) (list_all is_range ranges) (lt-ltb 0 (length ranges) (omega (arith, h.0.0))) (every_pass is_range ranges h.0.1),
      append_assoc (kind_text kind) (ranges_text ranges) tail ∙ ap (λ more. kind_text kind ++ more) h.1 ∙ is.1,
    )))
  where
    P : WrittenLetters → List ℕ → Type 0
    P letters rest = IsAtStart (λ letters. are_letters letters ≡ true) letters_text text letters rest

pub letters_reads : (letters : WrittenLetters) (rest : List ℕ) → are_letters letters ≡ true → letters_at (letters_text letters ++ rest) ≡ Some (letters, rest)
letters_reads letters rest fits =
    let both = and_parts (nat_lt 0 (length letters.ranges)) (list_all is_range letters.ranges) fits in
    let some : 0 < length letters.ranges = ltb-true 0 (length letters.ranges) both.0 in
    ap letters_at (append_assoc (kind_text letters.kind) (ranges_text letters.ranges) rest)
    ∙ ap (and_then_read (λ kind rest. read_as (λ ranges. record { kind = kind; ranges = ranges }) (bracketed_at range_at rest))) (kind_reads letters.kind (ranges_text letters.ranges ++ rest))
    ∙ ap (read_as (λ ranges. record { kind = letters.kind; ranges = ranges })) (bracketed_reads range_listed letters.ranges rest (omega (arith, some)) (pass_every is_range letters.ranges both.1))

letters_no_stroke : (letters : WrittenLetters) (rest : List ℕ) → are_letters letters ≡ true → not_at_start 47 (letters_text letters ++ rest) ≡ true
letters_no_stroke letters rest fits = ap (not_at_start 47) (append_assoc (kind_text letters.kind) (ranges_text letters.ranges) rest) ∙ here letters.kind (ranges_text letters.ranges ++ rest)
  where
    here : (kind : Kind) (more : List ℕ) → not_at_start 47 (kind_text kind ++ more) ≡ true
    here Integer more = refl
    here Logical more = refl

pub letters_listed : IsListed letters_at letters_text (λ letters. are_letters letters ≡ true) anything
letters_listed = record {
  sound = letters_sound;
  reads = λ letters rest fits follows. letters_reads letters rest fits;
  comma = λ more. refl;
  bracket = λ more. refl;
  no_stroke = letters_no_stroke;
}

pub letters_list_sound : (text : List ℕ) → Each (λ letters rest. IsAtStart (λ letters. (1 ≤ length letters) × (list_all are_letters letters ≡ true)) (λ letters. with_commas (map letters_text letters)) text letters rest) (list_at letters_at text)
letters_list_sound text = list_pass_sound letters_listed text

pub letters_list_reads : (letters : List WrittenLetters) (rest : List ℕ) → 1 ≤ length letters → list_all are_letters letters ≡ true → ends_list rest ≡ true → list_at letters_at (with_commas (map letters_text letters) ++ rest) ≡ Some (letters, rest)
letters_list_reads letters rest some fit ends = list_pass_reads letters_listed letters rest some fit refl ends
