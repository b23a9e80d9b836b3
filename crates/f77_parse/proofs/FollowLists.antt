-- Lists that are kept item by item, beside lists that are read.
use Rattle.std.proofs.Common.{◌≡◌, ◌==◌, ℕ, zero, suc, Bool, true, false, ◌||◌, List, [], ◌∷◌, ◌++◌, length, map, codes, Option, Some, None, if◌then◌else◌, refl, sym, ap, ◌∙◌, append_assoc}
use Rattle.std.specs.List.{list_any}
use Rattle.std.proofs.Math.Bool.{or_assoc}
use Rattle.f77_expr.specs.Reader.{Reads, read_as, and_then_read, after_prefix}
use Rattle.f77_parse.specs.Parts.{beyond, then_prefix, after_comma, more_listed, listed, list_at, bracketed_or_none, parts_to_end}
use Rattle.f77_parse.specs.Keeping.{Keeps, where_prefix, kept_next, kept_onto, kept_after, kept_list, kept_to_end, kept_parts, closed_list}
use Rattle.std.proofs.lemmas.List.{append-nil}
use Rattle.f77_parse.proofs.FollowLemmas.{told, flag_first, no_flag, then_told, then_prefix_told, one_prefix}

module _ {A V : Type 0} (value : A → V) (is_bad : A → Bool) where
  -- what is kept of a list after the items of another
  abbrev pub told_onto : List V → Bool → Reads (List A) → Keeps (List V)
  told_onto list bad x = told (λ items. list ++ map value items) (list_any is_bad) bad x

  -- one more item first
  onto_more : (list : List V) (bad : Bool) (a : A) (x : Reads (List A)) → told_onto (list ++ value a ∷ []) (bad || is_bad a) x ≡ told_onto list bad (read_as (λ others. a ∷ others) x)
  onto_more list bad a None = refl
  onto_more list bad a (Some (items, rest)) =
      ap (λ (longer : List V). Some (longer, (bad || is_bad a) || list_any is_bad items, rest)) (append_assoc list (value a ∷ []) (map value items))
      ∙ ap (λ (b : Bool). Some (list ++ value a ∷ map value items, b, rest)) (or_assoc bad (is_bad a) (list_any is_bad items))

  module _ (item : List ℕ → Reads A) (kept_item : Bool → List ℕ → Keeps V) (each : (bad : Bool) (text : List ℕ) → kept_item bad text ≡ told value is_bad bad (item text)) where
    onto_told : (n : ℕ) (list : List V) (bad : Bool) (text : List ℕ) → kept_onto n kept_item list bad text ≡ told_onto list bad (listed n item text)
    onto_told zero list bad text = refl
    onto_told (suc n) list bad text =
        then_told value is_bad bad (λ items. list ++ map value items) (list_any is_bad) bad
        (λ a rest. more_listed (λ next. listed n item next) a rest (after_comma rest))
        (λ v bad_now rest. kept_next (kept_onto n kept_item) (list ++ v ∷ []) bad_now rest (after_comma rest))
        (item text) (kept_item bad text) (each bad text) (λ a rest. by (onto_told n) a rest (after_comma rest))
      where
        by : ((list : List V) (bad : Bool) (text : List ℕ) → kept_onto n kept_item list bad text ≡ told_onto list bad (listed n item text)) → (a : A) (rest : List ℕ) (o : Option (List ℕ)) → kept_next (kept_onto n kept_item) (list ++ value a ∷ []) (bad || is_bad a) rest o ≡ told_onto list bad (more_listed (λ next. listed n item next) a rest o)
        by deeper a rest None = ap (λ (b : Bool). Some (list ++ value a ∷ [], b, rest)) (flag_first bad (is_bad a))
        by deeper a rest (Some next) = deeper (list ++ value a ∷ []) (bad || is_bad a) next ∙ onto_more list bad a (listed n item next)

    -- after the items of a list
    pub after_told : (list : List V) (bad : Bool) (text : List ℕ) → kept_after kept_item list bad text ≡ told_onto list bad (list_at item text)
    unfolding kept_after
    after_told list bad text = onto_told (suc (length text)) list bad text

    pub list_told : (bad : Bool) (text : List ℕ) → kept_list kept_item bad text ≡ told (map value) (list_any is_bad) bad (list_at item text)
    list_told bad text = after_told [] bad text

    -- a list and the bracket that closes it
    pub closed_told : (bad : Bool) (text : List ℕ) → closed_list kept_item bad text ≡ told (map value) (list_any is_bad) bad (then_prefix (codes ")") (list_at item text))
    closed_told bad text = then_prefix_told (map value) (list_any is_bad) bad (codes ")") (list_at item text) (kept_list kept_item bad text) (list_told bad text)

    -- ---- parts up to the end

    to_end_told : (n : ℕ) (list : List V) (bad : Bool) (text : List ℕ) → kept_to_end n kept_item list bad text ≡ told_onto list bad (parts_to_end n item text)
    to_end_told n list bad [] = nothing list bad
      where
        nothing : (list : List V) (bad : Bool) → ◌≡◌ {A = Keeps (List V)} (Some (list, bad, [])) (Some (list ++ [], bad || false, []))
        nothing list bad = ap (λ (longer : List V). Some (longer, bad, [])) (sym (append-nil list)) ∙ no_flag (list ++ []) bad []
    to_end_told zero list bad (c ∷ text) = refl
    to_end_told (suc n) list bad (c ∷ text) =
        then_told value is_bad bad (λ items. list ++ map value items) (list_any is_bad) bad
        (λ a rest. read_as (λ others. a ∷ others) (parts_to_end n item rest))
        (λ v bad_now rest. kept_to_end n kept_item (list ++ v ∷ []) bad_now rest)
        (item (c ∷ text)) (kept_item bad (c ∷ text)) (each bad (c ∷ text))
        (λ a rest. to_end_told n (list ++ value a ∷ []) (bad || is_bad a) rest ∙ onto_more list bad a (parts_to_end n item rest))

    -- a first part and the others
    pub parts_told : (first : List ℕ → Reads A) (kept_first : Bool → List ℕ → Keeps V) → ((bad : Bool) (text : List ℕ) → kept_first bad text ≡ told value is_bad bad (first text)) → (bad : Bool) (text : List ℕ) → kept_parts kept_first kept_item bad text ≡ told (map value) (list_any is_bad) bad (and_then_read (λ a rest. read_as (λ others. a ∷ others) (parts_to_end (length rest) item rest)) (first text))
    unfolding kept_parts
    parts_told first kept_first each_first bad text =
        then_told value is_bad bad (map value) (list_any is_bad) bad
        (λ a rest. read_as (λ others. a ∷ others) (parts_to_end (length rest) item rest))
        (λ v bad_now rest. kept_to_end (length rest) kept_item (v ∷ []) bad_now rest)
        (first text) (kept_first bad text) (each_first bad text)
        (λ a rest. to_end_told (length rest) (value a ∷ []) (bad || is_bad a) rest ∙ onto_more [] bad a (parts_to_end (length rest) item rest))

-- a list between brackets, or none where no bracket comes first
module _ {A B W : Type 0} (whole : B → W) (is_bad_whole : B → Bool) (start : Bool) where
  pub brackets_told : (reads : Reads (List A) → Reads B) (there : List ℕ → Keeps W) (others : Keeps W) (item : List ℕ → Reads A) (text : List ℕ) → ((inside : List ℕ) → there inside ≡ told whole is_bad_whole start (reads (then_prefix (codes ")") (list_at item inside)))) → others ≡ told whole is_bad_whole start (reads (Some ([], text))) → where_prefix (after_prefix (codes "(") text) there others ≡ told whole is_bad_whole start (reads (bracketed_or_none item text))
  brackets_told reads there others item [] inside_each none = none
  brackets_told reads there others item (c ∷ text) inside_each none =
      ap (λ (prefix : Option (List ℕ)). where_prefix prefix there others) (one_prefix 40 c text)
      ∙ by (c == 40)
      ∙ ap (λ (prefix : Option (List ℕ)). told whole is_bad_whole start (reads (if c == 40 then beyond (λ inside. then_prefix (codes ")") (list_at item inside)) prefix else Some ([], c ∷ text)))) (sym (one_prefix 40 c text))
    where
      by : (bracket : Bool) → where_prefix (if bracket then Some text else None) there others ≡ told whole is_bad_whole start (reads (if bracket then beyond (λ inside. then_prefix (codes ")") (list_at item inside)) (if bracket then Some text else None) else Some ([], c ∷ text)))
      by true = inside_each text
      by false = none
