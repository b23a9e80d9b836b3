-- The value of an expression over a store, and the word that an access names.
--
-- Contracts see the operands of an expression, and the subscripts of an access, as a list: `Apply op args`,
-- `Read access`. A definition that goes into them takes them as a row, which is what lies after the list: `Apply' op
-- shape row`, `Read' name shape row`. A row ends at `end_of-Expr`, and `more_of-Expr e rest` has e before the rest; its
-- shape says how long it is, and nothing more.
use Rattle.std.specs.Prelude.{◌≡◌, ℕ, suc, ◌<◌, ◌≤◌, ℤ, pos, ◌+ℤ◌, ◌-ℤ◌, ◌*ℤ◌, ◌≤ℤ◌, nat_abs, List, [], ◌∷◌, length, map, Option, Some, None, Result, Ok, Err, slice_get, unwrap_or, ok_or, All}
use Rattle.op_table.specs.declared.Op.TheVariants.{Bound, Place}
use Rattle.op_table.specs.declared.Trap.{Trap}
use Rattle.op_table.specs.declared.Trap.TheVariants.{Input as NoInput}
use Rattle.op_table.specs.Words.{is_true, truth}
use Rattle.op_table.specs.Operators.{arity_of, applied}
use Rattle.f77_tree.specs.declared.declarations.Dim.{Dim}
use Rattle.f77_tree.specs.declared.declarations.Kind.{Kind}
use Rattle.f77_tree.specs.declared.declarations.Kind.TheVariants.{Integer, Logical}
use Rattle.f77_tree.specs.declared.expressions.Access.{Access}
use Rattle.f77_tree.specs.declared.expressions.Expr.{Expr, Row_of-Expr, end_of-Expr, more_of-Expr}
use Rattle.f77_tree.specs.declared.expressions.Expr.TheVariants.{Const, Truth, Input, Read', Apply'}
use Rattle.f77_tree.specs.declared.programs.NameInfo.{NameInfo}

-- ---- names and words: a name outside the table is an integer scalar at word 0, and a word outside the store is 0

abbrev pub place_in : Option NameInfo → ℕ
place_in None = 0
place_in (Some info) = info.place

abbrev pub kind_in : Option NameInfo → Kind
kind_in None = Integer
kind_in (Some info) = info.kind

abbrev pub dims_in : Option NameInfo → List Dim
dims_in None = []
dims_in (Some info) = info.dims

-- the first word of a name
abbrev pub place_of : List NameInfo → ℕ → ℕ
place_of names k = place_in (slice_get names k)

abbrev pub kind_of : List NameInfo → ℕ → Kind
kind_of names k = kind_in (slice_get names k)

abbrev pub dims_of : List NameInfo → ℕ → List Dim
dims_of names k = dims_in (slice_get names k)

-- a word of the store
abbrev pub word_at : List ℤ → ℕ → ℤ
word_at store k = unwrap_or (slice_get store k) (pos 0)

-- a word as a name of this kind is read: a logical one is its truth
abbrev pub read_as : Kind → ℤ → ℤ
read_as Integer z = z
read_as Logical z = truth (is_true z)

-- how many subscripts a dimension has
abbrev pub extent : Dim → ℤ
extent dim = dim.hi -ℤ dim.lo +ℤ pos 1

-- how many words a name of these dimensions has
abbrev pub size_of : List Dim → ℤ
size_of [] = pos 1
size_of (dim ∷ dims) = extent dim *ℤ size_of dims

-- ---- what traps ends the evaluation

abbrev pub and_then : {A B : Type 0} → (A → Result B Trap) → Result A Trap → Result B Trap
and_then f (Err trap) = Err trap
and_then f (Ok x) = f x

-- one value more first, unless an operand traps
abbrev pub value_before : Result ℤ Trap → Result (List ℤ) Trap → Result (List ℤ) Trap
value_before (Err trap) more = Err trap
value_before (Ok z) (Err trap) = Err trap
value_before (Ok z) (Ok zs) = Ok (z ∷ zs)

-- the values of the operands, or the first trap from the left
abbrev pub all_values : List (Result ℤ Trap) → Result (List ℤ) Trap
all_values [] = Ok []
all_values (value ∷ values) = value_before value (all_values values)

-- ---- subscripts

-- the place p, moved by a subscript v of a dimension of which each part has so many words
abbrev pub moved : (size : ℤ) → Dim → (p v : ℤ) → Result ℤ Trap
moved size dim p v = and_then (λ d. applied Place (p ∷ d ∷ size ∷ [])) (applied Bound (v ∷ dim.lo ∷ dim.hi ∷ []))

-- the place p, moved by each subscript: they are evaluated and checked one after another, from left to right, and the
-- first dimension's parts are the smallest
abbrev pub subscripted : List Dim → (size p : ℤ) → List (Result ℤ Trap) → Result ℤ Trap
subscripted dims size p [] = Ok p
subscripted [] size p (value ∷ values) = Ok p
subscripted (dim ∷ dims) size p (value ∷ values) = and_then (λ q. subscripted dims (size *ℤ extent dim) q values) (and_then (moved size dim p) value)

-- the word of a name at the values of its subscripts
abbrev pub word_of : List NameInfo → ℕ → List (Result ℤ Trap) → Result ℕ Trap
word_of names k values = and_then (λ p. Ok (nat_abs p)) (subscripted (dims_of names k) (pos 1) (pos (place_of names k)) values)

-- what is read of a name at this word
abbrev pub read_of : List NameInfo → List ℤ → ℕ → Result ℕ Trap → Result ℤ Trap
read_of names store k word = and_then (λ w. Ok (read_as (kind_of names k) (word_at store w))) word

-- ---- expressions

abbrev mutual
  -- the value of an expression over a store and the next word of the data, if there is one: operands are evaluated from
  -- left to right, and the first trap is the answer
  pub value : List NameInfo → List ℤ → Option ℤ → Expr → Result ℤ Trap
  value names store next (Const z) = Ok z
  value names store next (Truth b) = Ok (truth b)
  value names store next Input = ok_or next NoInput
  value names store next (Read' name shape subs) = read_of names store name (word_of names name (row_values names store next subs))
  value names store next (Apply' op shape args) = and_then (applied op) (all_values (row_values names store next args))

  pub row_values : {m : _} → List NameInfo → List ℤ → Option ℤ → Row_of-Expr m → List (Result ℤ Trap)
  row_values names store next end_of-Expr = []
  row_values names store next (more_of-Expr e rest) = value names store next e ∷ row_values names store next rest

-- the word that an access names, whose subscripts have their values over the store
abbrev pub place : List NameInfo → List ℤ → Option ℤ → Access → Result ℕ Trap
place names store next access = word_of names access.name (map (value names store next) access.subs)

-- ---- expressions that fit the table of names

-- how many there are in a row
abbrev pub row_length : {m : _} → Row_of-Expr m → ℕ
row_length end_of-Expr = 0
row_length (more_of-Expr e rest) = suc (row_length rest)

abbrev mutual
  -- each name is one of the table, with as many subscripts as it has dimensions, and each operator has as many operands
  -- as it takes
  pub IsExpression : List NameInfo → Expr → Type 0
  IsExpression names (Const z) = Unit {0}
  IsExpression names (Truth b) = Unit {0}
  IsExpression names Input = Unit {0}
  IsExpression names (Read' name shape subs) = (name < length names) × (row_length subs ≡ length (dims_of names name)) × AllExpressions names subs
  IsExpression names (Apply' op shape args) = (row_length args ≡ arity_of op) × AllExpressions names args

  pub AllExpressions : {m : _} → List NameInfo → Row_of-Expr m → Type 0
  AllExpressions names end_of-Expr = Unit {0}
  AllExpressions names (more_of-Expr e rest) = IsExpression names e × AllExpressions names rest

-- an access of a name of the table, with as many subscripts as the name has dimensions
pub record IsAccess (names : List NameInfo) (access : Access) : Type 0 where
  pub known : access.name < length names
  pub as_many : length access.subs ≡ length (dims_of names access.name)
  pub subscripts : All (IsExpression names) access.subs

-- ---- tables that fit a store

-- the words of a name lie in a store of so many words
pub record IsPlaced (words : ℕ) (info : NameInfo) : Type 0 where
  pub bounds : All (λ dim. dim.lo ≤ℤ dim.hi) info.dims
  pub inside : (pos info.place +ℤ size_of info.dims) ≤ℤ pos words

-- the words of each name lie in the store, whose words have numbers that are words
pub record ArePlaced (names : List NameInfo) (words : ℕ) : Type 0 where
  pub each : All (IsPlaced words) names
  pub few : words ≤ 2147483647
