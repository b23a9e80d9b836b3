-- A text that is told part after part, after what a buffer held at first.
use Rattle.std.proofs.Common.{◌≡◌, ℕ, suc, ◌+◌, Bool, true, false, List, [], ◌∷◌, ◌++◌, Option, Some, get_or, take, drop, sym, ap, subst, ◌∙◌, append_assoc, append-nil, refl, arith}
use Rattle.std.proofs.Math.Seq.{take-suc}
use Rattle.std.proofs.lemmas.Bool.{cond-true}
use Rattle.std.proofs.lemmas.Grind.{flat_map-append}
use Rattle.std.proofs.lemmas.List.{take-append-drop}
use Rattle.std.proofs.lemmas.Option.{get_or_from_slice_get, slice_get_within}
use Rattle.std.specs.Prelude.{filter, flat_map, slice_get, if◌then◌else◌}
use Rattle.df_io.specs.TextBuffer.{IsWrittenBut}
use Rattle.df_io.specs.Write.{AppendsPrefix}
use Rattle.df_io.proofs.Prefixes.{AppendsPrefix-longer}
use Rattle.df_io.proofs.LongTexts.{one_more_piece, fault_at_piece}

-- the first part, as it was handed over in bytes
pub begun : (a b : Option (List ℕ)) (first left bytes part : List ℕ) → bytes ≡ part → IsWrittenBut left a b (first ++ bytes) → IsWrittenBut left a b (first ++ part)
begun a b first left bytes part is now = subst (λ (text : List ℕ). IsWrittenBut left a b (first ++ text)) is now

pub begun_fault : (a b : Option (List ℕ)) (first bytes part : List ℕ) → bytes ≡ part → AppendsPrefix a b (first ++ bytes) → AppendsPrefix a b (first ++ part)
begun_fault a b first bytes part is prefix = subst (λ (text : List ℕ). AppendsPrefix a b (first ++ text)) is prefix

-- one part more
pub told_more : (a b c : Option (List ℕ)) (first held left text part : List ℕ) → IsWrittenBut held a b (first ++ text) → IsWrittenBut left b c (held ++ part) → IsWrittenBut left a c (first ++ (text ++ part))
told_more a b c first held left text part before now =
    subst (IsWrittenBut left a c) (append_assoc first text part) (one_more_piece a b c held (first ++ text) part left before now)

-- a fault at one part more
pub fault_more : (a b c : Option (List ℕ)) (first held text part : List ℕ) → IsWrittenBut held a b (first ++ text) → AppendsPrefix b c (held ++ part) → AppendsPrefix a c (first ++ (text ++ part))
fault_more a b c first held text part before prefix =
    subst (AppendsPrefix a c) (append_assoc first text part) (fault_at_piece a b c held (first ++ text) part before prefix)

-- a fault before one part more
pub fault_before : (a c : Option (List ℕ)) (first text part : List ℕ) → AppendsPrefix a c (first ++ text) → AppendsPrefix a c (first ++ (text ++ part))
fault_before a c first text part prefix =
    subst (AppendsPrefix a c) (append_assoc first text part) (AppendsPrefix-longer a c (first ++ text) part prefix)

-- what is told where a test holds
pub told : (b : Bool) (a c : Option (List ℕ)) (held left bytes part : List ℕ) → b ≡ true → bytes ≡ part → IsWrittenBut left a c (held ++ bytes) → IsWrittenBut left a c (held ++ (if b then part else []))
told b a c held left bytes part holds is now = begun a c held left bytes (if b then part else []) (is ∙ sym (cond-true b part [] holds)) now

pub told_fault : (b : Bool) (a c : Option (List ℕ)) (held bytes part : List ℕ) → b ≡ true → bytes ≡ part → AppendsPrefix a c (held ++ bytes) → AppendsPrefix a c (held ++ (if b then part else []))
told_fault b a c held bytes part holds is prefix = begun_fault a c held bytes (if b then part else []) (is ∙ sym (cond-true b part [] holds)) prefix

-- what is told of each item that passes a test
abbrev pub tested : {A : Type 0} → (A → Bool) → (A → List ℕ) → A → List ℕ
tested test line item = if test item then line item else []

-- the same as what is told of those that pass it
pub tested_lines : {A : Type 0} (test : A → Bool) (line : A → List ℕ) (items : List A) → flat_map (tested test line) items ≡ flat_map line (filter test items)
tested_lines test line [] = refl
tested_lines {A} test line (item ∷ items) =
    elim (test item) as (λ (b : Bool). (if b then line item else []) ++ flat_map (tested test line) items ≡ flat_map line (if b then item ∷ filter test items else filter test items)) [
      | true ↦ ap (λ (rest : List ℕ). line item ++ rest) (tested_lines test line items)
      | false ↦ tested_lines test line items
    ]

-- ---- what is told of the items of a list, one after another

items_more : {A : Type 0} (line : A → List ℕ) (items : List A) (k : ℕ) (item : A) → slice_get items k ≡ Some item → flat_map line (take (k + 1) items) ≡ flat_map line (take k items) ++ line item
items_more {A} line items k item at =
    let next : k + 1 ≡ suc k = omega arith in
    let is : get_or items k item ≡ item = get_or_from_slice_get items k item item at in
    ap (λ n. flat_map line (take n items)) next
    ∙ ap (flat_map line) (take-suc items k item (slice_get_within items k item at))
    ∙ flat_map-append line (take k items) (get_or items k item ∷ [])
    ∙ ap (λ (x : A). flat_map line (take k items) ++ (line x ++ [])) is
    ∙ ap (λ (end : List ℕ). flat_map line (take k items) ++ end) (append-nil (line item))

pub item_told : {A : Type 0} (line : A → List ℕ) (items : List A) (k : ℕ) (item : A) (first held left bytes : List ℕ) (a b c : Option (List ℕ)) → slice_get items k ≡ Some item → bytes ≡ line item → IsWrittenBut held a b (first ++ flat_map line (take k items)) → IsWrittenBut left b c (held ++ bytes) → IsWrittenBut left a c (first ++ flat_map line (take (k + 1) items))
item_told line items k item first held left bytes a b c at is before now =
    subst (λ (text : List ℕ). IsWrittenBut left a c (first ++ text)) (sym (items_more line items k item at))
    (told_more a b c first held left (flat_map line (take k items)) (line item) before (begun b c held left bytes (line item) is now))

pub fault_at_item : {A : Type 0} (line : A → List ℕ) (items : List A) (k : ℕ) (item : A) (first held bytes : List ℕ) (a b c : Option (List ℕ)) → slice_get items k ≡ Some item → bytes ≡ line item → IsWrittenBut held a b (first ++ flat_map line (take k items)) → AppendsPrefix b c (held ++ bytes) → AppendsPrefix a c (first ++ flat_map line items)
fault_at_item line items k item first held bytes a b c at is before prefix =
    let rest = flat_map line (drop (k + 1) items) in
    let text = flat_map line (take k items) in
    let whole : (text ++ line item) ++ rest ≡ flat_map line items =
    ap (λ (prefix : List ℕ). prefix ++ rest) (sym (items_more line items k item at))
    ∙ sym (flat_map-append line (take (k + 1) items) (drop (k + 1) items))
    ∙ ap (flat_map line) (take-append-drop (k + 1) items) in
    subst (λ (text : List ℕ). AppendsPrefix a c (first ++ text)) whole
    (fault_before a c first (text ++ line item) rest (fault_more a b c first held text (line item) before (begun_fault b c held bytes (line item) is prefix)))
