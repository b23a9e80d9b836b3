-- Readers of the parts of statements, on lists: each takes a part from the beginning of a text, as long as it can be.
use Rattle.std.specs.Prelude.{ℕ, zero, suc, Bool, true, false, not, ◌&&◌, ◌==◌, if◌then◌else◌, nat_le, nat_lt, List, [], ◌∷◌, length, drop, codes, take_while, Option, Some, None}
use Rattle.f77_tree.specs.declared.declarations.Kind.{Kind}
use Rattle.f77_tree.specs.declared.declarations.Kind.TheVariants.{Integer, Logical}
use Rattle.f77_tree.specs.Name.{is_capital, is_figure, is_name}
use Rattle.f77_tree.specs.Grammar.{Written, Arguments}
use Rattle.f77_tree.specs.StatementGrammar.{Sign, SignedDigits, WrittenDim, WrittenDecl, WrittenRange, WrittenLetters, WrittenBlock, WrittenPart, WrittenMember, WrittenConstant, WrittenValue, WrittenData, WrittenItem}
use Rattle.f77_expr.specs.Reader.{Reads, read_as, and_then_read, after_prefix, this_or, is_symbolic, expression_at}
use Rattle.f77_expr.specs.Piece.{nothing_open, ends_piece}

-- goes on after a prefix that a text begins with
abbrev pub beyond : {A : Type 0} → (List ℕ → Reads A) → Option (List ℕ) → Reads A
beyond go None = None
beyond go (Some rest) = go rest

-- goes on after these characters
abbrev pub after : {A : Type 0} → List ℕ → (List ℕ → Reads A) → List ℕ → Reads A
after prefix go text = beyond go (after_prefix prefix text)

-- what was read, where these characters stand after it
abbrev pub then_prefix : {A : Type 0} → List ℕ → Reads A → Reads A
then_prefix prefix read = and_then_read (λ a rest. beyond (λ more. Some (a, more)) (after_prefix prefix rest)) read

-- what was read, where it passes a test
abbrev pub where_it : {A : Type 0} → (A → Bool) → Reads A → Reads A
where_it test read = and_then_read (λ a rest. if test a then Some (a, rest) else None) read

-- ---- numbers and names

abbrev pub number_at : List ℕ → Reads (List ℕ)
number_at text = let digits = take_while is_figure text in if nat_lt 0 (length digits) then Some (digits, drop (length digits) text) else None

abbrev pub name_at : List ℕ → Reads (List ℕ)
name_at text = let name = take_while is_symbolic text in if is_name name then Some (name, drop (length name) text) else None

abbrev pub letter_at : List ℕ → Reads ℕ
letter_at [] = None
letter_at (c ∷ text) = if is_capital c then Some (c, text) else None

-- the sign of a number, if it has one
abbrev pub sign_at : List ℕ → Sign × List ℕ
sign_at [] = (Sign.No_sign, [])
sign_at (c ∷ text) =
    if c == 43 then (Sign.Plus_sign, text)
    else (if c == 45 then (Sign.Minus_sign, text)
    else (Sign.No_sign, c ∷ text))

abbrev pub signed_at : List ℕ → Reads SignedDigits
signed_at text = let sign = sign_at text in read_as (λ digits. record { sign = sign.0; digits = digits }) (number_at sign.1)

-- ---- lists

-- a text after a comma, if it begins with one; but a comma before a stroke stands before a block of COMMON
abbrev pub after_comma : List ℕ → Option (List ℕ)
after_comma [] = None
after_comma (c ∷ []) = if c == 44 then Some [] else None
after_comma (c ∷ d ∷ text) = if (c == 44) && not (d == 47) then Some (d ∷ text) else None

-- the items after one, where a comma follows it
abbrev pub more_listed : {A : Type 0} → (List ℕ → Reads (List A)) → A → List ℕ → Option (List ℕ) → Reads (List A)
more_listed more a rest None = Some (a ∷ [], rest)
more_listed more a rest (Some next) = read_as (λ others. a ∷ others) (more next)

-- at most so many items with commas between them
abbrev pub listed : {A : Type 0} → ℕ → (List ℕ → Reads A) → List ℕ → Reads (List A)
listed zero item text = None
listed (suc n) item text = and_then_read (λ a rest. more_listed (λ next. listed n item next) a rest (after_comma rest)) (item text)

-- one or more items with commas between them: a text has no more items than characters
abbrev pub list_at : {A : Type 0} → (List ℕ → Reads A) → List ℕ → Reads (List A)
list_at item text = listed (suc (length text)) item text

-- a list between brackets
abbrev pub bracketed_at : {A : Type 0} → (List ℕ → Reads A) → List ℕ → Reads (List A)
bracketed_at item text = after (codes "(") (λ inside. then_prefix (codes ")") (list_at item inside)) text

-- a list between brackets, or no items where no bracket comes first
abbrev pub bracketed_or_none : {A : Type 0} → (List ℕ → Reads A) → List ℕ → Reads (List A)
bracketed_or_none item [] = Some ([], [])
bracketed_or_none item (c ∷ text) = if c == 40 then bracketed_at item (c ∷ text) else Some ([], c ∷ text)

-- names after an opening bracket, with the bracket that closes them; there may be none
abbrev pub names_inside : List ℕ → Reads (List (List ℕ))
names_inside text = this_or [] (after_prefix (codes ")") text) (then_prefix (codes ")") (list_at name_at text))

abbrev pub names_begun : List ℕ → Option (List ℕ) → Reads (Option (List (List ℕ)))
names_begun text None = Some (None, text)
names_begun text (Some inside) = read_as (λ names. Some names) (names_inside inside)

-- names between brackets, or nothing where no bracket comes first
abbrev pub names_at : List ℕ → Reads (Option (List (List ℕ)))
names_at text = names_begun text (after_prefix (codes "(") text)

-- ---- parts of declarations

-- a bound, or two with a colon between them
abbrev pub dim_after : SignedDigits → List ℕ → Option (List ℕ) → Reads WrittenDim
dim_after first rest None = Some (record { low = None; high = first }, rest)
dim_after first rest (Some next) = read_as (λ high. record { low = Some first; high = high }) (signed_at next)

abbrev pub dim_at : List ℕ → Reads WrittenDim
dim_at text = and_then_read (λ first rest. dim_after first rest (after_prefix (codes ":") rest)) (signed_at text)

-- a name, with at most seven dimensions or without
abbrev pub decl_at : List ℕ → Reads WrittenDecl
decl_at text = and_then_read (λ name rest. read_as (λ dims. record { name = name; dims = dims }) (where_it (λ dims. nat_le (length dims) 7) (bracketed_or_none dim_at rest))) (name_at text)

abbrev pub range_after : ℕ → List ℕ → Option (List ℕ) → Reads WrittenRange
range_after first rest None = Some (record { first = first; last = None }, rest)
range_after first rest (Some next) = read_as (λ last. record { first = first; last = Some last }) (letter_at next)

-- a letter, or two with a minus sign between them
abbrev pub range_at : List ℕ → Reads WrittenRange
range_at text = and_then_read (λ first rest. range_after first rest (after_prefix (codes "-") rest)) (letter_at text)

abbrev pub kind_at : List ℕ → Reads Kind
kind_at text = this_or Integer (after_prefix (codes "INTEGER") text) (this_or Logical (after_prefix (codes "LOGICAL") text) None)

-- a kind and its letters
abbrev pub letters_at : List ℕ → Reads WrittenLetters
letters_at text = and_then_read (λ kind rest. read_as (λ ranges. record { kind = kind; ranges = ranges }) (bracketed_at range_at rest)) (kind_at text)

-- blank common as two strokes, or a named block
abbrev pub block_at : List ℕ → Reads WrittenBlock
block_at text = this_or WrittenBlock.Blank (after_prefix (codes "//") text) (after (codes "/") (λ rest. then_prefix (codes "/") (read_as (λ name. WrittenBlock.Block name) (name_at rest))) text)

-- the comma that may stand before a part
abbrev pub comma_at : List ℕ → Bool × List ℕ
comma_at [] = (false, [])
comma_at (c ∷ text) = if c == 44 then (true, text) else (false, c ∷ text)

-- the names of a block
abbrev pub part_after : Bool → WrittenBlock → List ℕ → Reads WrittenPart
part_after comma block text = read_as (λ decls. record { comma = comma; block = block; decls = decls }) (list_at decl_at text)

-- a part of COMMON that tells its block, with a leading comma or without
abbrev pub part_at : List ℕ → Reads WrittenPart
part_at text = let comma = comma_at text in and_then_read (λ block rest. part_after comma.0 block rest) (block_at comma.1)

-- the first part of COMMON, which may tell its block
abbrev pub first_part_at : List ℕ → Reads WrittenPart
first_part_at [] = None
first_part_at (c ∷ text) = if c == 47 then and_then_read (λ block rest. part_after false block rest) (block_at (c ∷ text)) else part_after false WrittenBlock.Unsaid (c ∷ text)

-- a name, with subscripts or without
abbrev pub member_at : List ℕ → Reads WrittenMember
member_at text = and_then_read (λ name rest. read_as (λ subs. record { name = name; subs = subs }) (bracketed_or_none signed_at rest)) (name_at text)

-- two members or more, between brackets
abbrev pub group_at : List ℕ → Reads (List WrittenMember)
group_at text = where_it (λ members. nat_le 2 (length members)) (bracketed_at member_at text)

abbrev pub truth_at : List ℕ → Reads Bool
truth_at text = this_or true (after_prefix (codes ".TRUE.") text) (this_or false (after_prefix (codes ".FALSE.") text) None)

-- a constant that begins with a point is a logical one
abbrev pub constant_at : List ℕ → Reads WrittenConstant
constant_at [] = None
constant_at (c ∷ text) = if c == 46 then read_as (λ b. WrittenConstant.Logical_value b) (truth_at (c ∷ text)) else read_as (λ n. WrittenConstant.Whole n) (signed_at (c ∷ text))

abbrev pub unsigned : List ℕ → SignedDigits
unsigned digits = record { sign = Sign.No_sign; digits = digits }

-- digits before an asterisk are a repeat, and others are the constant
abbrev pub value_after : List ℕ → List ℕ → Option (List ℕ) → Reads WrittenValue
value_after digits rest None = Some (record { times = None; constant = WrittenConstant.Whole (unsigned digits) }, rest)
value_after digits rest (Some next) = read_as (λ constant. record { times = Some digits; constant = constant }) (constant_at next)

abbrev pub value_begun : List ℕ → Reads (List ℕ) → Reads WrittenValue
value_begun text None = read_as (λ constant. record { times = None; constant = constant }) (constant_at text)
value_begun text (Some (digits, rest)) = value_after digits rest (after_prefix (codes "*") rest)

-- a constant, alone or repeated
abbrev pub value_at : List ℕ → Reads WrittenValue
value_at text = value_begun text (number_at text)

-- items of DATA and their values, after a comma or none
abbrev pub data_after : Bool → List ℕ → Reads WrittenData
data_after comma text = and_then_read (λ items rest. after (codes "/") (λ next. then_prefix (codes "/") (read_as (λ values. record { comma = comma; items = items; values = values }) (list_at value_at next))) rest) (list_at member_at text)

abbrev pub data_at : List ℕ → Reads WrittenData
data_at text = let comma = comma_at text in data_after comma.0 comma.1

-- parts up to the end of the text, at most so many
abbrev pub parts_to_end : {A : Type 0} → ℕ → (List ℕ → Reads A) → List ℕ → Reads (List A)
parts_to_end n part [] = Some ([], [])
parts_to_end zero part (c ∷ text) = None
parts_to_end (suc n) part (c ∷ text) = and_then_read (λ a rest. read_as (λ others. a ∷ others) (parts_to_end n part rest)) (part (c ∷ text))

-- ---- parts of executable statements

-- what may stand after an expression: nothing, or a comma, a closing bracket, an equals sign or a colon
abbrev pub ends_expression : List ℕ → Bool
ends_expression [] = true
ends_expression (c ∷ text) = ends_piece nothing_open c

-- an expression, where what is after it ends it
abbrev pub expression_at_start : List ℕ → Reads Written
expression_at_start text = and_then_read (λ w rest. if ends_expression rest then Some (w, rest) else None) (expression_at 0 text)

abbrev pub arguments_of : Written → List Written → Arguments
arguments_of w [] = Arguments.last w
arguments_of w (next ∷ more) = Arguments.before w (arguments_of next more)

-- a name alone, or one with these subscripts
abbrev pub variable_of : List ℕ → List Written → Written
variable_of name [] = Written.name name
variable_of name (w ∷ more) = Written.call name (arguments_of w more)

-- a variable or an array element
abbrev pub variable_at : List ℕ → Reads Written
variable_at text = and_then_read (λ name rest. read_as (λ subs. variable_of name subs) (bracketed_or_none expression_at_start rest)) (name_at text)

-- the characters of a constant after its apostrophe, up to the one that closes it
abbrev pub characters_after : List ℕ → Reads (List ℕ)
characters_after [] = None
characters_after (c ∷ []) = if c == 39 then Some ([], []) else None
characters_after (c ∷ d ∷ text) =
    if c == 39
    then (if d == 39 then read_as (λ characters. 39 ∷ characters) (characters_after text) else Some ([], d ∷ text))
    else read_as (λ characters. c ∷ characters) (characters_after (d ∷ text))

-- a character constant of at least one character
abbrev pub characters_at : List ℕ → Reads (List ℕ)
characters_at text = after (codes "'") (λ rest. where_it (λ characters. nat_lt 0 (length characters)) (characters_after rest)) text

-- an item of output: one that begins with an apostrophe is a character constant
abbrev pub item_at : List ℕ → Reads WrittenItem
item_at [] = None
item_at (c ∷ text) = if c == 39 then read_as (λ characters. WrittenItem.Characters characters) (characters_at (c ∷ text)) else read_as (λ w. WrittenItem.Expression w) (expression_at_start (c ∷ text))
