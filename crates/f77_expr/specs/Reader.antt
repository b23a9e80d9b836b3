-- A reader of expressions by descent over the levels of the grammar, on lists: what the code computes.
use Rattle.std.specs.Prelude.{ℕ, zero, suc, ◌+◌, ◌*◌, Bool, true, false, ◌&&◌, ◌||◌, ◌==◌, if◌then◌else◌, nat_le, List, [], ◌∷◌, length, drop, codes, take_while, Option, Some, None}
use Rattle.op_table.specs.declared.Op.{Op}
use Rattle.op_table.specs.declared.Op.TheVariants.{Add, Sub, Mul, Div, Pow, Lt, Le, Eq, Ne, Ge, Gt, And, Or, Eqv, Neqv}
use Rattle.f77_tree.specs.Name.{is_capital, is_figure}
use Rattle.f77_tree.specs.Grammar.{Written, Arguments, symbol, level, operator_level, left_level, right_level}

-- what is read from the beginning of a text, and the rest of the text
abbrev pub Reads : Type 0 → Type 0
Reads A = Option (A × List ℕ)

-- what was read, changed
abbrev pub read_as : {A B : Type 0} → (A → B) → Reads A → Reads B
read_as f None = None
read_as f (Some (a, rest)) = Some (f a, rest)

-- goes on after what was read
abbrev pub and_then_read : {A B : Type 0} → (A → List ℕ → Reads B) → Reads A → Reads B
and_then_read go None = None
and_then_read go (Some (a, rest)) = go a rest

-- ---- parts of a text

-- the rest of a text that begins with these characters
abbrev pub after_prefix : List ℕ → List ℕ → Option (List ℕ)
after_prefix [] text = Some text
after_prefix (c ∷ prefix) [] = None
after_prefix (c ∷ prefix) (d ∷ text) = if c == d then after_prefix prefix text else None

-- this one where its characters come first, else what the others read
abbrev pub this_or : {A : Type 0} → A → Option (List ℕ) → Reads A → Reads A
this_or a (Some rest) others = Some (a, rest)
this_or a None others = others

-- the operators between operands: ** stands before *, since it begins with it
abbrev pub operators : List Op
operators = Pow ∷ Mul ∷ Div ∷ Add ∷ Sub ∷ Lt ∷ Le ∷ Eq ∷ Ne ∷ Ge ∷ Gt ∷ And ∷ Or ∷ Eqv ∷ Neqv ∷ []

abbrev pub operator_among : List Op → List ℕ → Reads Op
operator_among [] text = None
operator_among (op ∷ ops) text = this_or op (after_prefix (symbol op) text) (operator_among ops text)

-- the operator between operands with which a text begins
abbrev pub operator_at : List ℕ → Reads Op
operator_at text = operator_among operators text

-- what may stand before an operand
pub data Prefix : Type 0 where
  Plus : Prefix
  Minus : Prefix
  Negation : Prefix

-- the prefix with which a text begins, where an expression of this level or a higher one may begin with it
abbrev pub prefix_at : (least : ℕ) → List ℕ → Reads Prefix
prefix_at least text =
    let sign = if nat_le least 5 then this_or Plus (after_prefix (codes "+") text) (this_or Minus (after_prefix (codes "-") text) None) else None in
    if nat_le least 3 then this_or Negation (after_prefix (codes ".NOT.") text) sign else sign

-- the least level of a prefix's operand
abbrev pub operand_level : Prefix → ℕ
operand_level Plus = 6
operand_level Minus = 6
operand_level Negation = 4

abbrev pub prefixed : Prefix → Written → Written
prefixed Plus w = Written.plus w
prefixed Minus w = Written.minus w
prefixed Negation w = Written.negation w

-- the logical constant with which a text begins
abbrev pub truth_at : List ℕ → Reads Written
truth_at text = this_or (Written.truth true) (after_prefix (codes ".TRUE.") text) (this_or (Written.truth false) (after_prefix (codes ".FALSE.") text) None)

-- a character that may stand in a name
abbrev pub is_symbolic : ℕ → Bool
is_symbolic c = is_capital c || is_figure c

-- what is read, where a closing bracket stands after it
abbrev pub closed : Written → List ℕ → Reads Written
closed w [] = None
closed w (c ∷ text) = if c == 41 then Some (w, text) else None

-- ---- the descent

-- readers of an expression of some level, of the operators and operands after one, of a primary, and of arguments with
-- the bracket that closes them
pub record Readers : Type 0 where
  pub expression : (least : ℕ) → List ℕ → Reads Written
  pub chain : (least : ℕ) → Written → List ℕ → Reads Written
  pub primary : List ℕ → Reads Written
  pub arguments : List ℕ → Reads Arguments

-- readers of nothing
abbrev pub no_readers : Readers
no_readers = record { expression = λ least text. None; chain = λ least w text. None; primary = λ text. None; arguments = λ text. None }

-- a prefix and its operand, or a primary; and what goes on after it
abbrev pub begun : Readers → (least : ℕ) → List ℕ → Reads Prefix → Reads Written
begun r least text None = and_then_read (λ w rest. r.chain least w rest) (r.primary text)
begun r least text (Some (prefix, operand)) = and_then_read (λ w rest. r.chain least (prefixed prefix w) rest) (r.expression (operand_level prefix) operand)

-- an operator that may stand after what was read, and its operand on the right
abbrev pub continued : Readers → (least : ℕ) → Written → List ℕ → Reads Op → Reads Written
continued r least w text None = Some (w, text)
continued r least w text (Some (op, operand)) =
    if nat_le least (operator_level op) && nat_le (left_level op) (level w)
    then and_then_read (λ right rest. r.chain least (Written.binary op w right) rest) (r.expression (right_level op) operand)
    else Some (w, text)

-- a name, and its arguments where a bracket follows
abbrev pub named : Readers → List ℕ → List ℕ → Reads Written
named r name [] = Some (Written.name name, [])
named r name (c ∷ text) = if c == 40 then read_as (λ arguments. Written.call name arguments) (r.arguments text) else Some (Written.name name, c ∷ text)

abbrev pub primary_by : Readers → List ℕ → Reads Written
primary_by r [] = None
primary_by r (c ∷ text) =
    let digits = take_while is_figure (c ∷ text) in
    let name = take_while is_symbolic (c ∷ text) in
    if is_figure c then Some (Written.number digits, drop (length digits) (c ∷ text))
    else (if is_capital c then (if nat_le (length name) 6 then named r name (drop (length name) (c ∷ text)) else None)
    else (if c == 40 then and_then_read (λ w rest. closed (Written.bracketed w) rest) (r.expression 0 text)
    else truth_at (c ∷ text)))

-- the arguments after one
abbrev pub more_arguments : Readers → Written → List ℕ → Reads Arguments
more_arguments r w [] = None
more_arguments r w (c ∷ text) =
    if c == 44 then read_as (λ more. Arguments.before w more) (r.arguments text)
    else (if c == 41 then Some (Arguments.last w, text) else None)

-- readers whose calls of one another go through these
abbrev pub deeper : Readers → Readers
deeper r = record {
  expression = λ least text. begun r least text (prefix_at least text);
  chain = λ least w text. continued r least w text (operator_at text);
  primary = λ text. primary_by r text;
  arguments = λ text. and_then_read (λ w rest. more_arguments r w rest) (r.expression 0 text);
}

-- readers whose calls are nested at most so deep
abbrev pub readers : ℕ → Readers
readers zero = no_readers
readers (suc depth) = deeper (readers depth)

-- a depth that no text reaches: between two characters at most three calls are nested
abbrev pub enough : List ℕ → ℕ
enough text = 3 * length text + 4

-- an expression of at least this level at the beginning of a text, as long as it can be
unfoldable pub expression_at : (least : ℕ) → List ℕ → Reads Written
expression_at least text = (readers (enough text)).expression least text

-- what was read, with the operators and operands that go on after it
unfoldable pub chain_at : (least : ℕ) → Written → List ℕ → Reads Written
chain_at least w text = (readers (enough text)).chain least w text

unfoldable pub primary_at : List ℕ → Reads Written
primary_at text = (readers (enough text)).primary text

-- arguments with the bracket that closes them
unfoldable pub arguments_at : List ℕ → Reads Arguments
arguments_at text = (readers (enough text)).arguments text

-- all four of them
abbrev pub the_readers : Readers
the_readers = record { expression = λ least text. expression_at least text; chain = λ least w text. chain_at least w text; primary = λ text. primary_at text; arguments = λ text. arguments_at text }
