-- Parts of DATA: items and their values between strokes.
use Rattle.std.proofs.Common.{◌≡◌, ℕ, ◌<◌, ◌≤◌, Bool, true, false, ◌&&◌, List, [], ◌∷◌, ◌++◌, length, map, flat_map, codes, Some, nat_lt, refl, sym, ap, ◌∙◌, arith, append_assoc, length-append}
use Rattle.std.proofs.lemmas.Bool.{and_parts, and_from, ltb-true, lt-ltb}
use Rattle.std.specs.List.{list_all}
use Rattle.f77_tree.specs.StatementGrammar.{with_commas, comma_if, WrittenMember, member_text, is_member, WrittenValue, value_text, is_value, WrittenData, data_text, is_data}
use Rattle.f77_expr.specs.Reader.{Reads, read_as, and_then_read}
use Rattle.f77_expr.proofs.EachRead.{Each, each_then, each_as, each_weaker}
use Rattle.f77_parse.specs.Parts.{after, then_prefix, list_at, comma_at, member_at, value_at, data_after, data_at, parts_to_end}
use Rattle.f77_parse.proofs.Followers.{not_at_start, anything, IsAtStart}
use Rattle.f77_parse.proofs.PartReaders.{after_sound, then_prefix_sound, comma_is, comma_reads}
use Rattle.f77_parse.proofs.PartLists.{every_pass, pass_every, list_prefix, list_pass_sound, list_pass_reads}
use Rattle.f77_parse.proofs.PartMembers.{member_not_at_start, member_listed}
use Rattle.f77_parse.proofs.PartConstants.{value_listed}
use Rattle.f77_parse.proofs.PartSequences.{AreAll, parts_sound, parts_reads}

abbrev items_text : List WrittenMember → List ℕ
items_text items = with_commas (map member_text items)

abbrev values_text : List WrittenValue → List ℕ
values_text values = with_commas (map value_text values)

-- what stands after the comma of a part, or after none
abbrev body : WrittenData → List ℕ → List ℕ
body d rest = items_text d.items ++ (47 ∷ (values_text d.values ++ (47 ∷ rest)))

strokes : (comma items values rest : List ℕ) → (comma ++ items ++ codes "/" ++ values ++ codes "/") ++ rest ≡ comma ++ (items ++ (47 ∷ (values ++ (47 ∷ rest))))
strokes comma items values rest = simp append_assoc

data_prefix : (d : WrittenData) (rest : List ℕ) → data_text d ++ rest ≡ comma_if d.comma ++ body d rest
data_prefix d rest = strokes (comma_if d.comma) (items_text d.items) (values_text d.values) rest

-- the parts of the test
abbrev has_items : WrittenData → Bool
has_items d = nat_lt 0 (length d.items) && list_all is_member d.items

record IsData (d : WrittenData) : Type 0 where
  some_items : 1 ≤ length d.items
  members : list_all is_member d.items ≡ true
  some_values : 1 ≤ length d.values
  values_fit : list_all is_value d.values ≡ true

data_parts : (d : WrittenData) → is_data d ≡ true → IsData d
data_parts d fits =
    let three = and_parts (has_items d && nat_lt 0 (length d.values)) (list_all is_value d.values) fits in
    let two = and_parts (has_items d) (nat_lt 0 (length d.values)) three.0 in
    let one = and_parts (nat_lt 0 (length d.items)) (list_all is_member d.items) two.0 in
    let items : 0 < length d.items = ltb-true 0 (length d.items) one.0 in
    let values : 0 < length d.values = ltb-true 0 (length d.values) two.1 in
    record { some_items = omega (arith, items); members = one.1; some_values = omega (arith, values); values_fit = three.1 }

data_from : (d : WrittenData) → IsData d → is_data d ≡ true
data_from d is =
    and_from (has_items d && nat_lt 0 (length d.values)) (list_all is_value d.values)
    (and_from (has_items d) (nat_lt 0 (length d.values))
    (and_from (nat_lt 0 (length d.items)) (list_all is_member d.items) (lt-ltb 0 (length d.items) (omega (arith, is.some_items))) is.members)
    (lt-ltb 0 (length d.values) (omega (arith, is.some_values)))) is.values_fit

-- ---- after the comma

abbrev IsAfter : Bool → List ℕ → WrittenData → List ℕ → Type 0
IsAfter comma text d rest = (is_data d ≡ true) × (d.comma ≡ comma) × (body d rest ≡ text)

beyond_sound : (comma : Bool) (text : List ℕ) → Each (λ d rest. IsAfter comma text d rest) (data_after comma text)
beyond_sound comma text =
    each_then (λ items rest. IsAtStart (λ items. (1 ≤ length items) × (list_all is_member items ≡ true)) items_text text items rest) P
    (λ items rest. after (codes "/") (λ next. then_prefix (codes "/") (read_as (made items) (list_at value_at next))) rest) (list_at member_at text) (list_pass_sound member_listed text)
    (λ items rest is. after_sound P (codes "/") (λ next. then_prefix (codes "/") (read_as (made items) (list_at value_at next))) rest
    (λ next e. then_prefix_sound P Unclosed (codes "/") (read_as (made items) (list_at value_at next))
    (each_as (λ values tail. IsAtStart (λ values. (1 ≤ length values) × (list_all is_value values ≡ true)) values_text next values tail) Unclosed (made items) (list_at value_at next) (list_pass_sound value_listed next)
    (λ values tail h. (
      data_from (made items values) (record { some_items = is.0.0; members = is.0.1; some_values = h.0.0; values_fit = h.0.1 }),
      refl,
      ap (λ more. items_text items ++ (47 ∷ more)) h.1 ∙ ap (λ more. items_text items ++ more) e ∙ is.1,
    )))
    (λ d tail is_d. is_d)))
  where
    P : WrittenData → List ℕ → Type 0
    P d rest = IsAfter comma text d rest

    made : List WrittenMember → List WrittenValue → WrittenData
    made items values = record { comma = comma; items = items; values = values }

    Unclosed : WrittenData → List ℕ → Type 0
    Unclosed d tail = (is_data d ≡ true) × (d.comma ≡ comma) × (items_text d.items ++ (47 ∷ (values_text d.values ++ tail)) ≡ text)

after_reads : (comma : Bool) (d : WrittenData) (rest : List ℕ) → is_data d ≡ true → data_after comma (body d rest) ≡ Some (record { comma = comma; items = d.items; values = d.values }, rest)
after_reads comma d rest fits =
    let is : IsData d = data_parts d fits in
    let made : List WrittenMember → List WrittenValue → WrittenData = λ items values. record { comma = comma; items = items; values = values } in
    ap (and_then_read (λ items rest. after (codes "/") (λ next. then_prefix (codes "/") (read_as (made items) (list_at value_at next))) rest))
    (list_pass_reads member_listed d.items (47 ∷ (values_text d.values ++ (47 ∷ rest))) is.some_items is.members refl refl)
    ∙ ap (λ (x : Reads (List WrittenValue)). then_prefix (codes "/") (read_as (made d.items) x)) (list_pass_reads value_listed d.values (47 ∷ rest) is.some_values is.values_fit refl refl)

-- ---- parts

pub data_sound : (text : List ℕ) → Each (λ d rest. IsAtStart (λ d. is_data d ≡ true) data_text text d rest) (data_at text)
data_sound text =
    let comma : Bool × List ℕ = comma_at text in
    each_weaker (λ d rest. IsAfter comma.0 comma.1 d rest) (λ d rest. IsAtStart (λ d. is_data d ≡ true) data_text text d rest) (data_after comma.0 comma.1)
    (λ d rest is. (is.0, data_prefix d rest ∙ ap (λ there. comma_if there ++ body d rest) is.1 ∙ ap (λ more. comma_if comma.0 ++ more) is.2 ∙ comma_is text)) (beyond_sound comma.0 comma.1)

pub data_reads : (d : WrittenData) (rest : List ℕ) → is_data d ≡ true → data_at (data_text d ++ rest) ≡ Some (d, rest)
data_reads d rest fits =
    let is : IsData d = data_parts d fits in
    ap data_at (data_prefix d rest)
    ∙ ap (λ (comma : Bool × List ℕ). data_after comma.0 comma.1) (comma_reads d.comma (body d rest) (list_prefix member_listed (not_at_start 44) (member_not_at_start 44 (omega arith)) d.items (47 ∷ (values_text d.values ++ (47 ∷ rest))) is.some_items (pass_every is_member d.items is.members)))
    ∙ after_reads d.comma d rest fits

-- the first part of DATA
pub first_data_sound : (text : List ℕ) → Each (λ d rest. IsAtStart (λ d. (is_data d ≡ true) × (d.comma ≡ false)) data_text text d rest) (data_after false text)
first_data_sound text =
    each_weaker (λ d rest. IsAfter false text d rest) (λ d rest. IsAtStart (λ d. (is_data d ≡ true) × (d.comma ≡ false)) data_text text d rest) (data_after false text)
    (λ d rest is. ((is.0, is.1), data_prefix d rest ∙ ap (λ there. comma_if there ++ body d rest) is.1 ∙ is.2)) (beyond_sound false text)

pub first_data_reads : (d : WrittenData) (rest : List ℕ) → is_data d ≡ true → d.comma ≡ false → data_after false (data_text d ++ rest) ≡ Some (d, rest)
first_data_reads d rest fits none =
    ap (data_after false) (data_prefix d rest ∙ ap (λ there. comma_if there ++ body d rest) none)
    ∙ after_reads false d rest fits
    ∙ ap (λ comma. Some (record { comma = comma; items = d.items; values = d.values }, rest)) (sym none)

-- ---- parts up to the end

data_some : (d : WrittenData) → is_data d ≡ true → 1 ≤ length (data_text d)
data_some d fits =
    let prefix : List ℕ = comma_if d.comma ++ items_text d.items ++ codes "/" ++ values_text d.values in
    omega (arith, length-append prefix (codes "/"))

pub data_parts_sound : (text : List ℕ) → Each (λ parts rest. (list_all is_data parts ≡ true) × (flat_map data_text parts ≡ text) × (rest ≡ [])) (parts_to_end (length text) data_at text)
data_parts_sound text =
    each_weaker (λ parts rest. AreAll data_at data_text (λ d. is_data d ≡ true) text parts rest) (λ parts rest. (list_all is_data parts ≡ true) × (flat_map data_text parts ≡ text) × (rest ≡ [])) (parts_to_end (length text) data_at text)
    (λ parts rest is. (every_pass is_data parts is.0, is.1, is.2)) (parts_sound data_at data_text (λ d. is_data d ≡ true) data_sound (length text) text)

pub data_parts_reads : (parts : List WrittenData) → list_all is_data parts ≡ true → parts_to_end (length (flat_map data_text parts)) data_at (flat_map data_text parts) ≡ Some (parts, [])
data_parts_reads parts fit =
    parts_reads data_at data_text (λ d. is_data d ≡ true) anything refl (λ d rest fits. refl) (λ d rest fits follows. data_reads d rest fits) data_some parts (pass_every is_data parts fit)
