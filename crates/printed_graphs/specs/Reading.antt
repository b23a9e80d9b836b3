-- Reading from left to right: what is left of a text after a part of it, where it begins with one.
use Rattle.std.specs.Prelude.{◌≡◌, ℕ, zero, suc, ◌+◌, ◌-◌, ◌*◌, ◌^◌, Bool, true, false, ◌&&◌, ◌||◌, List, [], ◌∷◌, length, drop, take, Option, Some, None, is_some, Result, Ok, Err, option_and_then, unwrap_or, nat_lt, nat_le, ◌==◌, if◌then◌else◌, codes}
use Rattle.std.specs.Char.{is_ascii_digit, is_ascii_uppercase}
use Rattle.std.specs.List.{list_any, prefix_len}
use Rattle.std.specs.Str.{bytes_eq}
use Rattle.printed_graphs.specs.declared.flow.PieceKind.{PieceKind}
use Rattle.printed_graphs.specs.declared.flow.PieceKind.TheVariants as kind
use Rattle.printed_graphs.specs.declared.flow_lines.Counts.{Counts}
use Rattle.printed_graphs.specs.declared.fault.Stop.{Stop}
use Rattle.printed_graphs.specs.declared.fault.Stop.TheVariants.{Unread}
use Rattle.printed_graphs.specs.Names.{kind_text}

infixl 10 ◌>>=◌
abbrev pub ◌>>=◌ : {A B : Type 0} → Option A → (A → Option B) → Option B
o >>= f = option_and_then f o

-- what comes after a begin, where it was there, else another
abbrev pub choose : Option (List ℕ) → (List ℕ → Option (List ℕ)) → Option (List ℕ) → Option (List ℕ)
choose None after other = other
choose (Some text) after other = after text

-- ---- what a reader answers

-- it answers the value that comes next, and passes its text, or there is none
abbrev pub Gives : {X : Type 0} → Result X Stop → (after : List ℕ) → Option (X × List ℕ) → Type 0
Gives (Ok x) after read = read ≡ Some (x, after)
Gives (Err stop) after read = (stop ≡ Unread) × (read ≡ None)

-- it passes the part that comes next, or there is none
abbrev pub Passes : {X : Type 0} → Result X Stop → (after : List ℕ) → Option (List ℕ) → Type 0
Passes (Ok x) after read = read ≡ Some after
Passes (Err stop) after read = (stop ≡ Unread) × (read ≡ None)

-- it passes the part that comes next, or there is none, or no memory
abbrev pub PassesInMemory : {X : Type 0} → Result X Stop → (after : List ℕ) → Option (List ℕ) → Type 0
PassesInMemory (Ok x) after read = read ≡ Some after
PassesInMemory (Err stop) after read = stop ≡ Unread → read ≡ None

-- ---- words and numbers

unfoldable pub after_word : (word text : List ℕ) → Option (List ℕ)
after_word [] text = Some text
after_word (c ∷ word) [] = None
after_word (c ∷ word) (d ∷ text) = if c == d then after_word word text else None

abbrev pub begins_with : (word text : List ℕ) → Bool
begins_with word text = is_some (after_word word text)

unfoldable pub digit_at : List ℕ → Option (ℕ × List ℕ)
digit_at [] = None
digit_at (c ∷ text) = if is_ascii_digit c then Some (c - 48, text) else None

-- A number goes on with each digit that comes. A zero is a number by itself.
unfoldable pub digits_on : (number : ℕ) → List ℕ → Option (ℕ × List ℕ)
digits_on n [] = Some (n, [])
digits_on n (c ∷ text) = if nat_lt 0 n && is_ascii_digit c then (if nat_lt (n * 10 + (c - 48)) (2 ^ 64) then digits_on (n * 10 + (c - 48)) text else None) else Some (n, c ∷ text)

unfoldable pub long_number_at : List ℕ → Option (ℕ × List ℕ)
long_number_at text = do
  first ← digit_at text
  digits_on first.0 first.1

unfoldable pub number_at : List ℕ → Option (ℕ × List ℕ)
number_at text = do
  n ← long_number_at text
  if nat_lt n.0 (2 ^ 32) then Some n else None

-- this number
unfoldable pub after_number : ℕ → List ℕ → Option (List ℕ)
after_number n text = do
  m ← number_at text
  if m.0 == n then Some m.1 else None

unfoldable pub field_at : List ℕ → Option (ℕ × List ℕ)
field_at text = do
  number ← after_word (codes " ") text
  number_at number

-- any number
unfoldable pub after_short : List ℕ → Option (List ℕ)
after_short text = do
  n ← number_at text
  Some n.1

-- a text after the minus sign that it may begin with
abbrev pub after_minus : List ℕ → List ℕ
after_minus text = unwrap_or (after_word (codes "-") text) text

-- the numbers of 32 bits with this sign; there is no negative zero
abbrev pub fits_signed : (is_negative : Bool) → ℕ → Bool
fits_signed true n = nat_lt 0 n && nat_le n (2 ^ 31)
fits_signed false n = nat_lt n (2 ^ 31)

-- a word of the machine
unfoldable pub after_signed : List ℕ → Option (List ℕ)
after_signed text = do
  n ← number_at (after_minus text)
  if fits_signed (begins_with (codes "-") text) n.0 then Some n.1 else None

abbrev pub is_word_char : ℕ → Bool
is_word_char c = is_ascii_uppercase c || is_ascii_digit c

-- how many letters and digits a text begins with
abbrev pub word_length : List ℕ → ℕ
word_length text = prefix_len is_word_char text

-- ---- many parts

-- lines, each with its number, from this one on
unfoldable pub lines_at : (line : ℕ → List ℕ → Option (List ℕ)) → (number count : ℕ) → List ℕ → Option (List ℕ)
lines_at line number zero text = Some text
lines_at line number (suc count) text = do
  after ← line number text
  lines_at line (number + 1) count after

-- parts, as long as one begins, at most so many
unfoldable pub parts_at : (begin : List ℕ → Option (List ℕ)) → (part : List ℕ → Option (List ℕ)) → (most : ℕ) → List ℕ → Option (List ℕ)
parts_at begin part zero text = Some text
parts_at begin part (suc most) text = choose (begin text) (λ inner. part inner >>= parts_at begin part most) (Some text)

abbrev pub all_at : (begin : List ℕ → Option (List ℕ)) → (part : List ℕ → Option (List ℕ)) → List ℕ → Option (List ℕ)
all_at begin part text = parts_at begin part (length text) text

-- numbers, each after a blank
abbrev pub after_numbers : List ℕ → Option (List ℕ)
after_numbers text = all_at (after_word (codes " ")) after_short text

-- a word of letters and digits that is one of these names
unfoldable pub after_name : (is_name : List ℕ → Bool) → List ℕ → Option (List ℕ)
after_name is_name text = if is_name (take (word_length text) text) then Some (drop (word_length text) text) else None

-- ---- flow graphs

abbrev pub kinds : List PieceKind
kinds = kind.Act ∷ kind.Join ∷ kind.Branch ∷ kind.Pass ∷ kind.Start ∷ kind.Hold ∷ kind.End ∷ []

unfoldable pub is_kind : (word : List ℕ) → Bool
is_kind word = list_any (λ kind. bytes_eq (kind_text kind) word) kinds

unfoldable pub count_at : (word text : List ℕ) → Option (ℕ × List ℕ)
count_at word text = do
  number ← after_word word text
  number_at number

unfoldable pub counts_at : List ℕ → Option (Counts × List ℕ)
counts_at text = do
  pieces ← count_at (codes "PIECES ") text
  edges ← count_at (codes " EDGES ") pieces.1
  classes ← count_at (codes " CLASSES ") edges.1
  regions ← count_at (codes " REGIONS ") classes.1
  end ← after_word (codes "\n") regions.1
  Some (record { pieces = pieces.0; edges = edges.0; classes = classes.0; regions = regions.0 }, end)

unfoldable pub piece_at : (number : ℕ) → List ℕ → Option (List ℕ)
piece_at k text = do
  number ← after_word (codes "P ") text
  blank ← after_number k number
  kind ← after_word (codes " ") blank
  line ← after_name is_kind kind
  end ← field_at line
  after_word (codes "\n") end.1

unfoldable pub edge_at : (number : ℕ) → List ℕ → Option (List ℕ)
edge_at k text = do
  number ← after_word (codes "E ") text
  from ← after_number k number
  to ← field_at from
  class ← field_at to.1
  end ← field_at class.1
  after_word (codes "\n") end.1

unfoldable pub region_at : (place : ℕ) → List ℕ → Option (List ℕ)
region_at place text = do
  number ← after_word (codes "R ") text
  entry ← after_number (place + 1) number
  exit ← field_at entry
  parent ← field_at exit.1
  end ← field_at parent.1
  after_word (codes "\n") end.1

unfoldable pub flow_at : List ℕ → Option (List ℕ)
flow_at text = do
  counts ← counts_at text
  pieces ← lines_at piece_at 0 counts.0.pieces counts.1
  edges ← lines_at edge_at 0 counts.0.edges pieces
  lines_at region_at 0 counts.0.regions edges
