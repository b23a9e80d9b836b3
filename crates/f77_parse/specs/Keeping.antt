-- What the code keeps of the parts of statements: the readers on lists, with values in place of what is written. A number
-- that is out of range is told by a flag, which stays up.
use Rattle.std.specs.Prelude.{ℕ, ℤ, pos, ◌-ℤ◌, zero, suc, Bool, true, false, ◌||◌, ◌&&◌, ◌==◌, if◌then◌else◌, nat_le, nat_lt, min, List, [], ◌∷◌, ◌++◌, length, drop, codes, take_while, Option, Some, None}
use Rattle.f77_tree.specs.declared.statements.RawExpr.{RawExpr}
use Rattle.f77_tree.specs.declared.declarations.Kind.{Kind}
use Rattle.f77_tree.specs.declared.declarations.Kind.TheVariants.{Integer, Logical}
use Rattle.f77_tree.specs.declared.declarations.Dim.{Dim}
use Rattle.f77_tree.specs.declared.declarations.Decl.{Decl}
use Rattle.f77_tree.specs.declared.declarations.LetterRange.{LetterRange}
use Rattle.f77_tree.specs.declared.declarations.CommonPart.{CommonPart}
use Rattle.f77_tree.specs.declared.declarations.Member.{Member}
use Rattle.f77_tree.specs.declared.declarations.Lit.{Lit}
use Rattle.f77_tree.specs.declared.declarations.Lit.TheVariants.{Int, Truth}
use Rattle.f77_tree.specs.declared.declarations.InitValue.{InitValue}
use Rattle.f77_tree.specs.declared.declarations.InitPart.{InitPart}
use Rattle.std.specs.List.{list_all}
use Rattle.f77_tree.specs.declared.statements.RawItem.{RawItem}
use Rattle.f77_tree.specs.declared.statements.RawItem.TheVariants.{Value, Chars}
use Rattle.f77_tree.specs.declared.statements.RawExpr.TheVariants.{Named, Call}
use Rattle.f77_tree.specs.Name.{is_figure}
use Rattle.f77_tree.specs.Grammar.{Written, number_of, has_great_number, greatest_constant}
use Rattle.f77_expr.specs.Answers.{kept}
use Rattle.f77_expr.specs.Reader.{Reads, after_prefix}
use Rattle.f77_parse.specs.Parts.{after_comma, number_at, name_at, letter_at, expression_at_start}

-- what is kept of the beginning of a text, whether something was out of range so far, and the rest of the text
abbrev pub Keeps : Type 0 → Type 0
Keeps V = Option (V × Bool × List ℕ)

-- goes on after what was read
abbrev pub keep_then : {V W : Type 0} → Keeps V → (V → Bool → List ℕ → Keeps W) → Keeps W
keep_then None go = None
keep_then (Some (v, bad, rest)) go = go v bad rest

-- goes on after a prefix, if it is there, and else otherwise
abbrev pub where_prefix : {V : Type 0} → Option (List ℕ) → (List ℕ → Keeps V) → Keeps V → Keeps V
where_prefix None there others = others
where_prefix (Some rest) there others = there rest

-- what is read, where nothing in it can be out of range
abbrev pub kept_plain : {A V : Type 0} → (A → V) → Bool → Reads A → Keeps V
kept_plain f bad None = None
kept_plain f bad (Some (a, rest)) = Some (f a, bad, rest)

-- what is left after a prefix, or the whole text where it doesn't begin with it
abbrev pub skipped : Option (List ℕ) → List ℕ → List ℕ
skipped None text = text
skipped (Some rest) text = rest

-- ---- lists

-- what is kept of a list up to here, or of what goes on after a comma
abbrev pub kept_next : {V : Type 0} → (List V → Bool → List ℕ → Keeps (List V)) → List V → Bool → List ℕ → Option (List ℕ) → Keeps (List V)
kept_next go list bad rest None = Some (list, bad, rest)
kept_next go list bad rest (Some next) = go list bad next

-- at most so many items with commas between them, after those of a list
abbrev pub kept_onto : {V : Type 0} → ℕ → (Bool → List ℕ → Keeps V) → List V → Bool → List ℕ → Keeps (List V)
kept_onto zero item list bad text = None
kept_onto (suc n) item list bad text = keep_then (item bad text) (λ v bad_now rest. kept_next (kept_onto n item) (list ++ v ∷ []) bad_now rest (after_comma rest))

-- one or more items with commas between them, after those of a list
unfoldable pub kept_after : {V : Type 0} → (Bool → List ℕ → Keeps V) → List V → Bool → List ℕ → Keeps (List V)
kept_after item list bad text = kept_onto (suc (length text)) item list bad text

-- one or more items with commas between them
abbrev pub kept_list : {V : Type 0} → (Bool → List ℕ → Keeps V) → Bool → List ℕ → Keeps (List V)
kept_list item bad text = kept_after item [] bad text

-- items up to the end of the text, at most so many, after those of a list
abbrev pub kept_to_end : {V : Type 0} → ℕ → (Bool → List ℕ → Keeps V) → List V → Bool → List ℕ → Keeps (List V)
kept_to_end n item list bad [] = Some (list, bad, [])
kept_to_end zero item list bad (c ∷ text) = None
kept_to_end (suc n) item list bad (c ∷ text) = keep_then (item bad (c ∷ text)) (λ v bad_now rest. kept_to_end n item (list ++ v ∷ []) bad_now rest)

unfoldable pub kept_parts : {V : Type 0} → (first item : Bool → List ℕ → Keeps V) → Bool → List ℕ → Keeps (List V)
kept_parts first item bad text = keep_then (first bad text) (λ v bad_now rest. kept_to_end (length rest) item (v ∷ []) bad_now rest)

-- ---- parts that are read as they stand

-- a text begins with this character
abbrev pub begins : ℕ → List ℕ → Bool
begins c [] = false
begins c (d ∷ text) = d == c

unfoldable pub wanted : List ℕ → Bool → List ℕ → Keeps Unit
wanted prefix bad text = where_prefix (after_prefix prefix text) (λ rest. Some (tt, bad, rest)) None

-- the number that digits write, or one more than the greatest constant where that is less
unfoldable pub number_kept : Bool → List ℕ → Keeps ℕ
number_kept bad text = kept_plain (λ digits. min (number_of digits) 2147483648) bad (number_at text)

unfoldable pub few_digits_kept : Bool → List ℕ → Keeps Unit
few_digits_kept bad text =
    let n = length (take_while is_figure text) in
    if nat_lt 0 n && nat_le n 5 then Some (tt, bad, drop n text) else None

unfoldable pub name_kept : Bool → List ℕ → Keeps (List ℕ)
name_kept bad text = kept_plain (λ name. name) bad (name_at text)

unfoldable pub letter_kept : Bool → List ℕ → Keeps ℕ
letter_kept bad text = kept_plain (λ c. c) bad (letter_at text)

unfoldable pub character_kept : Bool → List ℕ → Keeps ℕ
character_kept bad [] = None
character_kept bad (c ∷ text) = Some (c, bad, text)

-- an expression with a constant that is too great is kept with 0 in its place
abbrev pub kept_expression : Bool → Reads Written → Keeps RawExpr
kept_expression bad None = None
kept_expression bad (Some (w, rest)) = Some (kept w, bad || has_great_number w, rest)

unfoldable pub expression_kept : Bool → List ℕ → Keeps RawExpr
expression_kept bad text = kept_expression bad (expression_at_start text)

-- ---- constants, labels and repeats: one that is out of range is kept as 0

abbrev pub is_great_number : ℕ → Bool
is_great_number n = nat_lt greatest_constant n

abbrev pub constant_in : ℕ → ℕ
constant_in n = if is_great_number n then 0 else n

abbrev pub is_no_label : ℕ → Bool
is_no_label n = (n == 0) || nat_lt 99999 n

abbrev pub label_in : ℕ → ℕ
label_in n = if is_no_label n then 0 else n

abbrev pub is_no_repeat : ℕ → Bool
is_no_repeat n = (n == 0) || nat_lt greatest_constant n

abbrev pub repeat_in : ℕ → ℕ
repeat_in n = if is_no_repeat n then 0 else n

unfoldable pub label_kept : Bool → List ℕ → Keeps ℕ
label_kept bad text = keep_then (number_kept bad text) (λ n bad_now rest. Some (label_in n, bad_now || is_no_label n, rest))

unfoldable pub signed_kept : Bool → List ℕ → Keeps ℤ
signed_kept bad text =
    where_prefix (after_prefix (codes "-") text)
    (λ beyond. keep_then (number_kept bad beyond) (λ n bad_now rest. Some (pos 0 -ℤ pos (constant_in n), bad_now || is_great_number n, rest)))
    (keep_then (number_kept bad (skipped (after_prefix (codes "+") text) text)) (λ n bad_now rest. Some (pos (constant_in n), bad_now || is_great_number n, rest)))

unfoldable pub truth_kept : Bool → List ℕ → Keeps Bool
truth_kept bad text =
    where_prefix (after_prefix (codes ".TRUE.") text) (λ rest. Some (true, bad, rest))
    (keep_then (wanted (codes ".FALSE.") bad text) (λ found bad_now rest. Some (false, bad_now, rest)))

unfoldable pub constant_kept : Bool → List ℕ → Keeps Lit
constant_kept bad text =
    if begins 46 text
    then keep_then (truth_kept bad text) (λ b bad_now rest. Some (Truth b, bad_now, rest))
    else keep_then (signed_kept bad text) (λ z bad_now rest. Some (Int z, bad_now, rest))

-- one constant, or so many of them
abbrev pub some_constants : ℕ → Bool → List ℕ → Keeps InitValue
some_constants times bad text = keep_then (constant_kept bad text) (λ constant bad_now rest. Some (record { times = times; value = constant }, bad_now, rest))

unfoldable pub value_kept : Bool → List ℕ → Keeps InitValue
value_kept bad text =
    if nat_lt 0 (length (take_while is_figure text))
    then keep_then (number_kept bad text) (λ n bad_now rest.
    where_prefix (after_prefix (codes "*") rest)
    (λ beyond. some_constants (repeat_in n) (bad_now || is_no_repeat n) beyond)
    (Some (record { times = 1; value = Int (pos (constant_in n)) }, bad_now || is_great_number n, rest)))
    else some_constants 1 bad text

-- ---- declarations

unfoldable pub dim_kept : Bool → List ℕ → Keeps Dim
dim_kept bad text = keep_then (signed_kept bad text) (λ first bad_now rest.
    where_prefix (after_prefix (codes ":") rest)
    (λ beyond. keep_then (signed_kept bad_now beyond) (λ last bad_then more. Some (record { lo = first; hi = last }, bad_then, more)))
    (Some (record { lo = pos 1; hi = first }, bad_now, rest)))

-- a list with the bracket that closes it
abbrev pub closed_list : {V : Type 0} → (Bool → List ℕ → Keeps V) → Bool → List ℕ → Keeps (List V)
closed_list item bad text = keep_then (kept_list item bad text) (λ list bad_now rest. keep_then (wanted (codes ")") bad_now rest) (λ found bad_then more. Some (list, bad_then, more)))

unfoldable pub decl_kept : Bool → List ℕ → Keeps Decl
decl_kept bad text = keep_then (name_kept bad text) (λ name bad_now rest.
    where_prefix (after_prefix (codes "(") rest)
    (λ beyond. keep_then (closed_list dim_kept bad_now beyond) (λ dims bad_then more. if nat_lt 7 (length dims) then None else Some (record { name = name; dims = dims }, bad_then, more)))
    (Some (record { name = name; dims = [] }, bad_now, rest)))

abbrev pub is_array : Decl → Bool
is_array decl = nat_lt 0 (length decl.dims)

unfoldable pub arrays_kept : Bool → List ℕ → Keeps (List Decl)
arrays_kept bad text = keep_then (kept_list decl_kept bad text) (λ decls bad_now rest. if list_all is_array decls then Some (decls, bad_now, rest) else None)

unfoldable pub range_kept : Kind → Bool → List ℕ → Keeps LetterRange
range_kept kind bad text = keep_then (letter_kept bad text) (λ first bad_now rest.
    where_prefix (after_prefix (codes "-") rest)
    (λ beyond. keep_then (letter_kept bad_now beyond) (λ last bad_then more. Some (record { kind = kind; from = first; to = last }, bad_then, more)))
    (Some (record { kind = kind; from = first; to = first }, bad_now, rest)))

unfoldable pub kind_kept : Bool → List ℕ → Keeps Kind
kind_kept bad text =
    where_prefix (after_prefix (codes "INTEGER") text) (λ rest. Some (Integer, bad, rest))
    (keep_then (wanted (codes "LOGICAL") bad text) (λ found bad_now rest. Some (Logical, bad_now, rest)))

-- a type and its letters, after those of a list
unfoldable pub letters_kept : List LetterRange → Bool → List ℕ → Keeps (List LetterRange)
letters_kept list bad text = keep_then (kind_kept bad text) (λ kind bad_now rest.
    keep_then (wanted (codes "(") bad_now rest) (λ found bad_then inside.
    keep_then (kept_after (range_kept kind) list bad_then inside) (λ longer bad_later beyond.
    keep_then (wanted (codes ")") bad_later beyond) (λ closed bad_last more. Some (longer, bad_last, more)))))

-- so many types and their letters at most, with commas between them, after those of a list
abbrev pub ranges_onto : ℕ → List LetterRange → Bool → List ℕ → Keeps (List LetterRange)
ranges_onto zero list bad text = None
ranges_onto (suc n) list bad text = keep_then (letters_kept list bad text) (λ longer bad_now rest. kept_next (ranges_onto n) longer bad_now rest (after_comma rest))

unfoldable pub kept_ranges : Bool → List ℕ → Keeps (List LetterRange)
kept_ranges bad text = ranges_onto (suc (length text)) [] bad text

unfoldable pub block_kept : Bool → List ℕ → Keeps (Option (List ℕ))
block_kept bad text =
    where_prefix (after_prefix (codes "//") text) (λ rest. Some (None, bad, rest))
    (keep_then (wanted (codes "/") bad text) (λ found bad_now rest.
    keep_then (name_kept bad_now rest) (λ name bad_then beyond.
    keep_then (wanted (codes "/") bad_then beyond) (λ closed bad_last more. Some (Some name, bad_last, more)))))

-- the names of a block
abbrev pub block_and_decls : Keeps (Option (List ℕ)) → Keeps CommonPart
block_and_decls block = keep_then block (λ block bad_now rest. keep_then (kept_list decl_kept bad_now rest) (λ decls bad_then more. Some (record { block = block; decls = decls }, bad_then, more)))

unfoldable pub first_part_kept : Bool → List ℕ → Keeps CommonPart
first_part_kept bad text = block_and_decls (if begins 47 text then block_kept bad text else Some (None, bad, text))

unfoldable pub part_kept : Bool → List ℕ → Keeps CommonPart
part_kept bad text = block_and_decls (block_kept bad (skipped (after_prefix (codes ",") text) text))

unfoldable pub member_kept : Bool → List ℕ → Keeps Member
member_kept bad text = keep_then (name_kept bad text) (λ name bad_now rest.
    where_prefix (after_prefix (codes "(") rest)
    (λ beyond. keep_then (closed_list signed_kept bad_now beyond) (λ subs bad_then more. Some (record { name = name; subs = subs }, bad_then, more)))
    (Some (record { name = name; subs = [] }, bad_now, rest)))

unfoldable pub group_kept : Bool → List ℕ → Keeps (List Member)
group_kept bad text = keep_then (wanted (codes "(") bad text) (λ found bad_now rest.
    keep_then (closed_list member_kept bad_now rest) (λ members bad_then more. if nat_lt (length members) 2 then None else Some (members, bad_then, more)))

unfoldable pub init_part_kept : Bool → List ℕ → Keeps InitPart
init_part_kept bad text = keep_then (kept_list member_kept bad text) (λ items bad_now rest.
    keep_then (wanted (codes "/") bad_now rest) (λ found bad_then beyond.
    keep_then (kept_list value_kept bad_then beyond) (λ values bad_later last.
    keep_then (wanted (codes "/") bad_later last) (λ closed bad_last more. Some (record { items = items; values = values }, bad_last, more)))))

unfoldable pub next_init_part_kept : Bool → List ℕ → Keeps InitPart
next_init_part_kept bad text = init_part_kept bad (skipped (after_prefix (codes ",") text) text)

-- ---- parts of executable statements

unfoldable pub variable_kept : Bool → List ℕ → Keeps RawExpr
variable_kept bad text = keep_then (name_kept bad text) (λ name bad_now rest.
    where_prefix (after_prefix (codes "(") rest)
    (λ beyond. keep_then (closed_list expression_kept bad_now beyond) (λ subs bad_then more. Some (Call name subs, bad_then, more)))
    (Some (Named name, bad_now, rest)))

-- names between brackets, of which there may be none, or nothing
unfoldable pub names_kept : Bool → List ℕ → Keeps (List (List ℕ))
names_kept bad text =
    where_prefix (after_prefix (codes "(") text)
    (λ inside. where_prefix (after_prefix (codes ")") inside) (λ rest. Some ([], bad, rest)) (closed_list name_kept bad inside))
    (Some ([], bad, text))

-- the next character of a character constant, or none where the apostrophe that closes it stands
unfoldable pub next_character_kept : Bool → List ℕ → Keeps (Option ℕ)
next_character_kept bad text =
    where_prefix (after_prefix (codes "''") text) (λ rest. Some (Some 39, bad, rest))
    (where_prefix (after_prefix (codes "'") text) (λ rest. Some (None, bad, rest))
    (keep_then (character_kept bad text) (λ c bad_now rest. Some (Some c, bad_now, rest))))

-- what goes on after a character
abbrev pub characters_next : (List ℕ → Bool → List ℕ → Keeps (List ℕ)) → List ℕ → Bool → List ℕ → Option ℕ → Keeps (List ℕ)
characters_next go list bad rest None = Some (list, bad, rest)
characters_next go list bad rest (Some c) = go (list ++ c ∷ []) bad rest

-- the characters up to the apostrophe that closes the constant, at most so many, after those of a list
abbrev pub characters_onto : ℕ → List ℕ → Bool → List ℕ → Keeps (List ℕ)
characters_onto zero list bad text = None
characters_onto (suc n) list bad text = keep_then (next_character_kept bad text) (λ next bad_now rest. characters_next (characters_onto n) list bad_now rest next)

unfoldable pub characters_kept : Bool → List ℕ → Keeps (List ℕ)
characters_kept bad text = characters_onto (suc (length text)) [] bad text

unfoldable pub character_constant_kept : Bool → List ℕ → Keeps (List ℕ)
character_constant_kept bad text = keep_then (wanted (codes "'") bad text) (λ found bad_now rest.
    keep_then (characters_kept bad_now rest) (λ characters bad_then more. if nat_lt 0 (length characters) then Some (characters, bad_then, more) else None))

unfoldable pub item_kept : Bool → List ℕ → Keeps RawItem
item_kept bad text =
    if begins 39 text
    then keep_then (character_constant_kept bad text) (λ characters bad_now rest. Some (Chars characters, bad_now, rest))
    else keep_then (expression_kept bad text) (λ e bad_now rest. Some (Value e, bad_now, rest))
