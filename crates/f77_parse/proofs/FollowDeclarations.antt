-- Dimensions, declarators, letters of IMPLICIT and parts of COMMON that are kept.
use Rattle.std.proofs.Common.{◌≡◌, ◌==◌, ℕ, zero, suc, Bool, true, false, ◌||◌, ◌&&◌, List, [], ◌∷◌, ◌++◌, codes, length, map, Option, Some, None, if◌then◌else◌, ⊎_elim, refl, sym, ap, ◌∙◌, append_assoc}
use Rattle.std.specs.Prelude.{pos, not, nat_le, nat_lt, flat_map}
use Rattle.std.specs.List.{list_all, list_any}
use Rattle.std.proofs.Math.Bool.{or_assoc}
use Rattle.std.proofs.lemmas.Bool.{cases_lt, lt-ltb, le-ltb, le-leb, lt-leb}
use Rattle.std.proofs.lemmas.List.{append-nil, length-map}
use Rattle.std.proofs.lemmas.List.Folds.{list_any-append}
use Rattle.f77_tree.specs.declared.declarations.Kind.{Kind}
use Rattle.f77_tree.specs.declared.declarations.Kind.TheVariants.{Integer, Logical}
use Rattle.f77_tree.specs.declared.declarations.Decl.{Decl}
use Rattle.f77_tree.specs.declared.declarations.LetterRange.{LetterRange}
use Rattle.f77_tree.specs.StatementGrammar.{is_great, are_great, WrittenDim, dim_numbers, WrittenDecl, decl_numbers, has_dims, WrittenRange, last_of, WrittenLetters, letters_of, WrittenBlock, block_of, WrittenPart}
use Rattle.f77_expr.specs.Reader.{Reads, read_as, and_then_read, after_prefix, this_or}
use Rattle.f77_parse.specs.Parts.{beyond, after, then_prefix, where_it, name_at, letter_at, signed_at, list_at, listed, more_listed, after_comma, bracketed_or_none, dim_after, dim_at, decl_at, range_after, range_at, kind_at, letters_at, block_at, comma_at, part_after, part_at, first_part_at}
use Rattle.f77_parse.specs.Keeping.{Keeps, keep_then, where_prefix, wanted, name_kept, letter_kept, signed_kept, dim_kept, closed_list, decl_kept, is_array, arrays_kept, kept_list, kept_after, kept_next, range_kept, kind_kept, letters_kept, ranges_onto, kept_ranges, block_kept, block_and_decls, first_part_kept, part_kept}
use Rattle.f77_parse.specs.KeptValues.{kept_signed, kept_dim, kept_decl, kept_part}
use Rattle.f77_parse.proofs.FollowLemmas.{told, never_bad, no_flag, or_none, flag_first, flag_last, then_told, as_told, where_told, unless_told, then_as, same_as, prefix_told, wanted_told, then_prefix_told, skipped_comma}
use Rattle.f77_parse.proofs.FollowLists.{after_told, list_told, closed_told, brackets_told}
use Rattle.f77_parse.proofs.FollowNumbers.{name_told, letter_told, signed_told}

-- ---- dimensions

-- a bound is out of range
abbrev pub dim_is_great : WrittenDim → Bool
dim_is_great d = are_great (dim_numbers d)

dim_told : (bad : Bool) (text : List ℕ) → dim_kept bad text ≡ told kept_dim dim_is_great bad (dim_at text)
unfolding dim_kept
dim_told bad text =
    then_told kept_signed (λ n. is_great n.digits) bad kept_dim dim_is_great bad (λ first rest. dim_after first rest (after_prefix (codes ":") rest))
    (λ first bad_now rest. where_prefix (after_prefix (codes ":") rest) (λ beyond. keep_then (signed_kept bad_now beyond) (λ last bad_then more. Some (record { lo = first; hi = last }, bad_then, more))) (Some (record { lo = pos 1; hi = first }, bad_now, rest)))
    (signed_at text) (signed_kept bad text) (signed_told bad text)
    (λ low rest.
    let bad_now = bad || is_great low.digits in
    prefix_told kept_dim dim_is_great bad (λ prefix. dim_after low rest prefix)
    (λ beyond. keep_then (signed_kept bad_now beyond) (λ last bad_then more. Some (record { lo = kept_signed low; hi = last }, bad_then, more))) (Some (record { lo = pos 1; hi = kept_signed low }, bad_now, rest)) (after_prefix (codes ":") rest)
    (λ next. as_told kept_signed (λ n. is_great n.digits) bad_now kept_dim dim_is_great bad (λ high. record { low = Some low; high = high }) (λ last. record { lo = kept_signed low; hi = last }) (signed_at next) (signed_kept bad_now next) (signed_told bad_now next)
    (λ high. refl) (λ high. or_assoc bad (is_great low.digits) (is_great high.digits) ∙ ap (λ (b : Bool). bad || (is_great low.digits || b)) (sym (or_none (is_great high.digits)))))
    (ap (λ (b : Bool). Some (record { lo = pos 1; hi = kept_signed low }, b, rest)) (flag_first bad (is_great low.digits))))

-- ---- declarators

abbrev pub decl_is_great : WrittenDecl → Bool
decl_is_great d = are_great (decl_numbers d)

more_than : (k n : ℕ) → nat_lt k n ≡ not (nat_le n k)
more_than k n = ⊎_elim (λ less. lt-ltb k n less ∙ sym (ap not (lt-leb n k less))) (λ few. le-ltb k n few ∙ sym (ap not (le-leb n k few))) (cases_lt k n)

-- a number is out of range in one of several lists
pub any_among : {A B : Type 0} (is_bad : B → Bool) (parts : A → List B) (items : List A) → list_any is_bad (flat_map parts items) ≡ list_any (λ a. list_any is_bad (parts a)) items
any_among is_bad parts [] = refl
any_among is_bad parts (a ∷ items) = list_any-append is_bad (parts a) (flat_map parts items) ∙ ap (λ (b : Bool). list_any is_bad (parts a) || b) (any_among is_bad parts items)

decl_told : (bad : Bool) (text : List ℕ) → decl_kept bad text ≡ told kept_decl decl_is_great bad (decl_at text)
unfolding decl_kept
decl_told bad text =
    then_told (λ (name : List ℕ). name) never_bad bad kept_decl decl_is_great bad (λ name rest. dims_read name (bracketed_or_none dim_at rest))
    (λ name bad_now rest. where_prefix (after_prefix (codes "(") rest) (after_bracket name bad_now) (Some (record { name = name; dims = [] }, bad_now, rest))) (name_at text) (name_kept bad text) (name_told bad text)
    (λ name rest. brackets_told kept_decl decl_is_great bad (dims_read name) (after_bracket name (bad || false)) (Some (record { name = name; dims = [] }, bad || false, rest)) dim_at rest
    (λ inside. unless_told (map kept_dim) (list_any dim_is_great) (bad || false) kept_decl decl_is_great bad (λ dims. nat_le (length dims) 7) (λ dims. nat_lt 7 (length dims)) (λ dims. record { name = name; dims = dims }) (λ dims. record { name = name; dims = dims }) (then_prefix (codes ")") (list_at dim_at inside)) (closed_list dim_kept (bad || false) inside)
    (closed_told kept_dim dim_is_great dim_at dim_kept dim_told (bad || false) inside)
    (λ dims. ap (nat_lt 7) (length-map dims kept_dim) ∙ more_than 7 (length dims))
    (λ dims. refl)
    (λ dims. flag_last bad (list_any dim_is_great dims) ∙ ap (λ (b : Bool). bad || b) (sym (any_among (λ n. is_great n.digits) dim_numbers dims))))
    refl)
  where
    dims_read : List ℕ → Reads (List WrittenDim) → Reads WrittenDecl
    dims_read name dims = read_as (λ dims. record { name = name; dims = dims }) (where_it (λ dims. nat_le (length dims) 7) dims)

    after_bracket : List ℕ → Bool → List ℕ → Keeps Decl
    after_bracket name bad_now beyond = keep_then (closed_list dim_kept bad_now beyond) (λ dims bad_then more. if nat_lt 7 (length dims) then None else Some (record { name = name; dims = dims }, bad_then, more))

pub decls_told : (bad : Bool) (text : List ℕ) → kept_list decl_kept bad text ≡ told (map kept_decl) (list_any decl_is_great) bad (list_at decl_at text)
decls_told bad text = list_told kept_decl decl_is_great decl_at decl_kept decl_told bad text

all_arrays : (decls : List WrittenDecl) → list_all is_array (map kept_decl decls) ≡ list_all has_dims decls
all_arrays [] = refl
all_arrays (d ∷ decls) = ap (λ (n : ℕ). nat_lt 0 n && list_all is_array (map kept_decl decls)) (length-map d.dims kept_dim) ∙ ap (λ (b : Bool). has_dims d && b) (all_arrays decls)

pub arrays_told : (bad : Bool) (text : List ℕ) → arrays_kept bad text ≡ told (map kept_decl) (list_any decl_is_great) bad (where_it (λ decls. list_all has_dims decls) (list_at decl_at text))
unfolding arrays_kept
arrays_told bad text =
    where_told (map kept_decl) (list_any decl_is_great) bad (map kept_decl) (list_any decl_is_great) bad (λ decls. list_all has_dims decls) (λ decls. list_all is_array decls) (λ decls. decls) (λ decls. decls) (list_at decl_at text) (kept_list decl_kept bad text) (decls_told bad text) all_arrays (λ decls. refl) (λ decls. refl)
    ∙ ap (told (map kept_decl) (list_any decl_is_great) bad) (same_as (where_it (λ decls. list_all has_dims decls) (list_at decl_at text)))

-- ---- letters

-- the letters of a range, of a kind
abbrev range_of : Kind → WrittenRange → LetterRange
range_of kind r = record { kind = kind; from = r.first; to = last_of r.first r.last }

range_told : (kind : Kind) (bad : Bool) (text : List ℕ) → range_kept kind bad text ≡ told (range_of kind) never_bad bad (range_at text)
unfolding range_kept
range_told kind bad text =
    then_told (λ (c : ℕ). c) never_bad bad (range_of kind) never_bad bad (λ first rest. range_after first rest (after_prefix (codes "-") rest))
    (λ first bad_now rest. where_prefix (after_prefix (codes "-") rest) (λ beyond. keep_then (letter_kept bad_now beyond) (λ last bad_then more. Some (record { kind = kind; from = first; to = last }, bad_then, more))) (Some (record { kind = kind; from = first; to = first }, bad_now, rest)))
    (letter_at text) (letter_kept bad text) (letter_told bad text)
    (λ c rest. prefix_told (range_of kind) never_bad bad (λ prefix. range_after c rest prefix)
    (λ beyond. keep_then (letter_kept (bad || false) beyond) (λ last bad_then more. Some (record { kind = kind; from = c; to = last }, bad_then, more))) (Some (record { kind = kind; from = c; to = c }, bad || false, rest)) (after_prefix (codes "-") rest)
    (λ next. as_told (λ (d : ℕ). d) never_bad (bad || false) (range_of kind) never_bad bad (λ last. record { first = c; last = Some last }) (λ last. record { kind = kind; from = c; to = last }) (letter_at next) (letter_kept (bad || false) next) (letter_told (bad || false) next)
    (λ d. refl) (λ d. flag_last bad false))
    refl)

kind_told : (bad : Bool) (text : List ℕ) → kind_kept bad text ≡ told (λ (kind : Kind). kind) never_bad bad (kind_at text)
unfolding kind_kept
kind_told bad text =
    prefix_told (λ kind. kind) never_bad bad (λ prefix. this_or Integer prefix (this_or Logical (after_prefix (codes "LOGICAL") text) None)) (λ rest. Some (Integer, bad, rest)) (keep_then (wanted (codes "LOGICAL") bad text) (λ found bad_now rest. Some (Logical, bad_now, rest))) (after_prefix (codes "INTEGER") text)
    (λ rest. no_flag Integer bad rest)
    (wanted_told (λ kind. kind) never_bad bad (λ prefix. this_or Logical prefix None) (λ found bad_now rest. Some (Logical, bad_now, rest)) (codes "LOGICAL") bad text refl (λ rest. no_flag Logical bad rest))

never_any : {A : Type 0} (items : List A) → list_any never_bad items ≡ false
never_any [] = refl
never_any (a ∷ items) = never_any items

-- what is kept of the letters of a kind, after those of a list
abbrev onto_letters : List LetterRange → WrittenLetters → List LetterRange
onto_letters list letters = list ++ letters_of letters

letters_told : (list : List LetterRange) (bad : Bool) (text : List ℕ) → letters_kept list bad text ≡ told (onto_letters list) never_bad bad (letters_at text)
unfolding letters_kept
letters_told list bad text =
    then_told (λ (kind : Kind). kind) never_bad bad (onto_letters list) never_bad bad (λ kind rest. bracketed kind (after_prefix (codes "(") rest)) (λ kind bad_now rest. keep_then (wanted (codes "(") bad_now rest) (λ found bad_then inside. kept_inside kind bad_then inside)) (kind_at text) (kind_kept bad text) (kind_told bad text)
    (λ kind rest. wanted_told (onto_letters list) never_bad bad (λ prefix. bracketed kind prefix) (λ found bad_then inside. kept_inside kind bad_then inside) (codes "(") (bad || false) rest refl
    (λ inside. closed kind inside (then_prefix_told (λ ranges. list ++ map (range_of kind) ranges) (list_any never_bad) (bad || false) (codes ")") (list_at range_at inside) (kept_after (range_kept kind) list (bad || false) inside) (after_told (range_of kind) never_bad range_at (range_kept kind) (range_told kind) list (bad || false) inside))))
  where
    bracketed : Kind → Option (List ℕ) → Reads WrittenLetters
    bracketed kind prefix = read_as (λ ranges. record { kind = kind; ranges = ranges }) (beyond (λ inside. then_prefix (codes ")") (list_at range_at inside)) prefix)

    kept_inside : Kind → Bool → List ℕ → Keeps (List LetterRange)
    kept_inside kind bad_then inside = keep_then (kept_after (range_kept kind) list bad_then inside) (λ longer bad_later beyond. keep_then (wanted (codes ")") bad_later beyond) (λ found bad_last more. Some (longer, bad_last, more)))

    closed : (kind : Kind) (inside : List ℕ) → kept_inside kind (bad || false) inside ≡ told (λ ranges. list ++ map (range_of kind) ranges) (list_any never_bad) (bad || false) (then_prefix (codes ")") (list_at range_at inside)) → kept_inside kind (bad || false) inside ≡ told (onto_letters list) never_bad bad (bracketed kind (Some inside))
    closed kind inside e = e ∙ by (then_prefix (codes ")") (list_at range_at inside))
      where
        by : (x : Reads (List WrittenRange)) → told (λ ranges. list ++ map (range_of kind) ranges) (list_any never_bad) (bad || false) x ≡ told (onto_letters list) never_bad bad (read_as (λ ranges. record { kind = kind; ranges = ranges }) x)
        by None = refl
        by (Some (ranges, rest)) = ap (λ (b : Bool). Some (list ++ map (range_of kind) ranges, b, rest)) (flag_last bad (list_any never_bad ranges) ∙ ap (λ (b : Bool). bad || b) (never_any ranges))

-- all letters
ranges_onto_told : (n : ℕ) (list : List LetterRange) (bad : Bool) (text : List ℕ) → ranges_onto n list bad text ≡ told (λ items. list ++ flat_map letters_of items) never_bad bad (listed n letters_at text)
ranges_onto_told zero list bad text = refl
ranges_onto_told (suc n) list bad text =
    then_told (onto_letters list) never_bad bad (λ items. list ++ flat_map letters_of items) never_bad bad
    (λ letters rest. more_listed (λ next. listed n letters_at next) letters rest (after_comma rest)) (λ longer bad_now rest. kept_next (ranges_onto n) longer bad_now rest (after_comma rest)) (letters_at text) (letters_kept list bad text) (letters_told list bad text)
    (λ letters rest. by (ranges_onto_told n) letters rest (after_comma rest))
  where
    more : (letters : WrittenLetters) (x : Reads (List WrittenLetters)) → told (λ items. (list ++ letters_of letters) ++ flat_map letters_of items) never_bad (bad || false) x ≡ told (λ items. list ++ flat_map letters_of items) never_bad bad (read_as (λ others. letters ∷ others) x)
    more letters None = refl
    more letters (Some (items, rest)) =
        ap (λ (longer : List LetterRange). Some (longer, (bad || false) || false, rest)) (append_assoc list (letters_of letters) (flat_map letters_of items))
        ∙ ap (λ (b : Bool). Some (list ++ flat_map letters_of (letters ∷ items), b, rest)) (flag_last bad false)

    by : ((list : List LetterRange) (bad : Bool) (text : List ℕ) → ranges_onto n list bad text ≡ told (λ items. list ++ flat_map letters_of items) never_bad bad (listed n letters_at text)) → (letters : WrittenLetters) (rest : List ℕ) (prefix : Option (List ℕ)) → kept_next (ranges_onto n) (list ++ letters_of letters) (bad || false) rest prefix ≡ told (λ items. list ++ flat_map letters_of items) never_bad bad (more_listed (λ next. listed n letters_at next) letters rest prefix)
    by deeper letters rest None = ap (λ (added : List LetterRange). Some (list ++ added, bad || false, rest)) (sym (append-nil (letters_of letters)))
    by deeper letters rest (Some next) = deeper (list ++ letters_of letters) (bad || false) next ∙ more letters (listed n letters_at next)

pub ranges_told : (bad : Bool) (text : List ℕ) → kept_ranges bad text ≡ told (flat_map letters_of) never_bad bad (list_at letters_at text)
unfolding kept_ranges
ranges_told bad text = ranges_onto_told (suc (length text)) [] bad text

-- ---- parts of COMMON

block_told : (bad : Bool) (text : List ℕ) → block_kept bad text ≡ told block_of never_bad bad (block_at text)
unfolding block_kept
block_told bad text =
    prefix_told block_of never_bad bad (λ prefix. this_or WrittenBlock.Blank prefix (after (codes "/") named text)) (λ rest. Some (None, bad, rest)) (keep_then (wanted (codes "/") bad text) (λ found bad_now rest. kept_name bad_now rest)) (after_prefix (codes "//") text)
    (λ rest. no_flag None bad rest)
    (wanted_told block_of never_bad bad (λ prefix. beyond named prefix) (λ found bad_now rest. kept_name bad_now rest) (codes "/") bad text refl (λ rest. named_told rest))
  where
    named : List ℕ → Reads WrittenBlock
    named rest = then_prefix (codes "/") (read_as (λ name. WrittenBlock.Block name) (name_at rest))

    kept_name : Bool → List ℕ → Keeps (Option (List ℕ))
    kept_name bad_now rest = keep_then (name_kept bad_now rest) (λ name bad_then beyond. keep_then (wanted (codes "/") bad_then beyond) (λ found bad_last more. Some (Some name, bad_last, more)))

    named_told : (rest : List ℕ) → kept_name bad rest ≡ told block_of never_bad bad (named rest)
    named_told rest =
        then_told (λ (name : List ℕ). name) never_bad bad block_of never_bad bad (λ name tail. beyond (λ more. Some (WrittenBlock.Block name, more)) (after_prefix (codes "/") tail)) (λ name bad_then tail. keep_then (wanted (codes "/") bad_then tail) (λ found bad_last more. Some (Some name, bad_last, more))) (name_at rest) (name_kept bad rest) (name_told bad rest)
        (λ name tail. wanted_told block_of never_bad bad (λ prefix. beyond (λ more. Some (WrittenBlock.Block name, more)) prefix) (λ found bad_last more. Some (Some name, bad_last, more)) (codes "/") (bad || false) tail refl (λ more. refl))
        ∙ ap (told block_of never_bad bad) (sym (then_as (λ block tail. beyond (λ more. Some (block, more)) (after_prefix (codes "/") tail)) (λ name. WrittenBlock.Block name) (name_at rest)))

-- a bound is out of range in some declarator of a part
abbrev pub part_is_great : WrittenPart → Bool
part_is_great part = list_any decl_is_great part.decls

-- the names of a block
decls_of_block : (bad comma : Bool) (x : Reads WrittenBlock) (k : Keeps (Option (List ℕ))) → k ≡ told block_of never_bad bad x → block_and_decls k ≡ told kept_part part_is_great bad (and_then_read (λ block rest. part_after comma block rest) x)
decls_of_block bad comma x k e =
    then_told block_of never_bad bad kept_part part_is_great bad (λ block rest. part_after comma block rest) (λ block bad_now rest. keep_then (kept_list decl_kept bad_now rest) (λ decls bad_then more. Some (record { block = block; decls = decls }, bad_then, more))) x k e
    (λ block rest. as_told (map kept_decl) (list_any decl_is_great) (bad || false) kept_part part_is_great bad (λ decls. record { comma = comma; block = block; decls = decls }) (λ decls. record { block = block_of block; decls = decls }) (list_at decl_at rest) (kept_list decl_kept (bad || false) rest) (decls_told (bad || false) rest)
    (λ decls. refl) (λ decls. flag_last bad (list_any decl_is_great decls)))

-- names whose block is unsaid
unsaid_told : (bad : Bool) (text : List ℕ) → block_and_decls (Some (None, bad, text)) ≡ told kept_part part_is_great bad (part_after false WrittenBlock.Unsaid text)
unsaid_told bad text = decls_of_block bad false (Some (WrittenBlock.Unsaid, text)) (Some (None, bad, text)) (no_flag None bad text)

pub first_part_told : (bad : Bool) (text : List ℕ) → first_part_kept bad text ≡ told kept_part part_is_great bad (first_part_at text)
unfolding first_part_kept
first_part_told bad [] = unsaid_told bad []
first_part_told bad (c ∷ text) = by (c == 47)
  where
    by : (stroke : Bool) → block_and_decls (if stroke then block_kept bad (c ∷ text) else Some (None, bad, c ∷ text)) ≡ told kept_part part_is_great bad (if stroke then and_then_read (λ block rest. part_after false block rest) (block_at (c ∷ text)) else part_after false WrittenBlock.Unsaid (c ∷ text))
    by true = decls_of_block bad false (block_at (c ∷ text)) (block_kept bad (c ∷ text)) (block_told bad (c ∷ text))
    by false = unsaid_told bad (c ∷ text)

pub part_told : (bad : Bool) (text : List ℕ) → part_kept bad text ≡ told kept_part part_is_great bad (part_at text)
unfolding part_kept
part_told bad text =
    let comma = comma_at text in
    ap (λ (next : List ℕ). block_and_decls (block_kept bad next)) (skipped_comma text)
    ∙ decls_of_block bad comma.0 (block_at comma.1) (block_kept bad comma.1) (block_told bad comma.1)
