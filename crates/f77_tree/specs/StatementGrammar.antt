-- Statements as they are written (ANSI X3.9-1978, sections 4 and 5 and 7 to 12), and the statements that are read from
-- them. Texts are free of blanks but for those in character constants.
use Rattle.std.specs.Prelude.{◌≡◌, ◌≤◌, ℕ, ℤ, pos, ◌-ℤ◌, Bool, true, false, not, if◌then◌else◌, ◌&&◌, ◌||◌, nat_le, nat_lt, ◌==◌, List, [], ◌∷◌, ◌++◌, length, map, flat_map, codes, Option, Some, None, All, IsTrue}
use Rattle.std.specs.Int.{is_in_range}
use Rattle.std.specs.List.{list_all, list_any}
use Rattle.f77_tree.specs.declared.declarations.Kind.{Kind}
use Rattle.f77_tree.specs.declared.declarations.Kind.TheVariants.{Integer, Logical}
use Rattle.f77_tree.specs.declared.declarations.Dim.{Dim}
use Rattle.f77_tree.specs.declared.declarations.Decl.{Decl}
use Rattle.f77_tree.specs.declared.declarations.LetterRange.{LetterRange}
use Rattle.f77_tree.specs.declared.declarations.CommonPart.{CommonPart}
use Rattle.f77_tree.specs.declared.declarations.Member.{Member}
use Rattle.f77_tree.specs.declared.declarations.Lit.{Lit}
use Rattle.f77_tree.specs.declared.declarations.Lit.TheVariants.{Int, Truth}
use Rattle.f77_tree.specs.declared.declarations.InitValue.{InitValue}
use Rattle.f77_tree.specs.declared.declarations.InitPart.{InitPart}
use Rattle.f77_tree.specs.declared.statements.RawExpr.{RawExpr}
use Rattle.f77_tree.specs.declared.statements.RawItem.{RawItem}
use Rattle.f77_tree.specs.declared.statements.RawItem.TheVariants.{Value, Chars}
use Rattle.f77_tree.specs.declared.statements.Stmt.{Stmt, more_of-Stmt}
use Rattle.f77_tree.specs.declared.statements.Stmt.TheVariants.{Program, Implicit, ImplicitNone, TypeOf, Dimension, Common, Equivalence, Init, Assign, Print, Take, Continue, Stop, GoTo, PickGoTo, SignIf, ThenIf, ThenIf', BlockIf, ElseIf, Else, EndIf, Do, Sub, CallTo, Back, End}
use Rattle.f77_tree.specs.Name.{is_capital, is_name}
use Rattle.f77_tree.specs.Grammar.{Written, IsGrammatical, spelling, reading, has_great_number, is_number, number_of, greatest_constant, truth_text}

-- ---- lists

-- texts with commas between them
abbrev pub with_commas : List (List ℕ) → List ℕ
with_commas [] = []
with_commas (text ∷ []) = text
with_commas (text ∷ next ∷ more) = text ++ codes "," ++ with_commas (next ∷ more)

abbrev pub in_brackets : List ℕ → List ℕ
in_brackets text = codes "(" ++ text ++ codes ")"

-- a comma, if it is there
abbrev pub comma_if : Bool → List ℕ
comma_if there = if there then codes "," else []

-- ---- signed numbers

pub data Sign : Type 0 where
  No_sign : Sign
  Plus_sign : Sign
  Minus_sign : Sign

abbrev pub sign_text : Sign → List ℕ
sign_text No_sign = []
sign_text Plus_sign = codes "+"
sign_text Minus_sign = codes "-"

pub record SignedDigits : Type 0 where
  pub sign : Sign
  pub digits : List ℕ

abbrev pub signed_text : SignedDigits → List ℕ
signed_text n = sign_text n.sign ++ n.digits

abbrev pub signed_value : Sign → ℕ → ℤ
signed_value Minus_sign n = pos 0 -ℤ pos n
signed_value _ n = pos n

abbrev pub whole_number : SignedDigits → ℤ
whole_number n = signed_value n.sign (number_of n.digits)

abbrev pub is_signed : SignedDigits → Bool
is_signed n = is_number n.digits

abbrev pub is_great : List ℕ → Bool
is_great digits = nat_lt greatest_constant (number_of digits)

-- ---- declarations

-- a bound alone, or two with a colon between them; the lower one is 1 where it is alone
pub record WrittenDim : Type 0 where
  pub low : Option SignedDigits
  pub high : SignedDigits

abbrev pub low_text : Option SignedDigits → List ℕ
low_text None = []
low_text (Some n) = signed_text n ++ codes ":"

abbrev pub dim_text : WrittenDim → List ℕ
dim_text d = low_text d.low ++ signed_text d.high

abbrev pub low_of : Option SignedDigits → ℤ
low_of None = pos 1
low_of (Some n) = whole_number n

abbrev pub dim_of : WrittenDim → Dim
dim_of d = record { lo = low_of d.low; hi = whole_number d.high }

abbrev pub numbers_of : Option SignedDigits → List SignedDigits
numbers_of None = []
numbers_of (Some n) = n ∷ []

abbrev pub dim_numbers : WrittenDim → List SignedDigits
dim_numbers d = numbers_of d.low ++ (d.high ∷ [])

-- a name, with dimensions or without
pub record WrittenDecl : Type 0 where
  pub name : List ℕ
  pub dims : List WrittenDim

-- nothing, or these in brackets
abbrev pub bracketed_list : List (List ℕ) → List ℕ
bracketed_list [] = []
bracketed_list (text ∷ more) = in_brackets (with_commas (text ∷ more))

abbrev pub decl_text : WrittenDecl → List ℕ
decl_text d = d.name ++ bracketed_list (map dim_text d.dims)

abbrev pub decls_text : List WrittenDecl → List ℕ
decls_text ds = with_commas (map decl_text ds)

abbrev pub decl_of : WrittenDecl → Decl
decl_of d = record { name = d.name; dims = map dim_of d.dims }

abbrev pub decl_numbers : WrittenDecl → List SignedDigits
decl_numbers d = flat_map dim_numbers d.dims

-- at most seven dimensions
pub record IsDecl (d : WrittenDecl) : Type 0 where
  pub symbolic : is_name d.name ≡ true
  pub few : length d.dims ≤ 7
  pub numbers : list_all is_signed (decl_numbers d) ≡ true

-- an array's declarator has dimensions
abbrev pub has_dims : WrittenDecl → Bool
has_dims d = nat_lt 0 (length d.dims)

-- a letter, or two with a minus sign between them
pub record WrittenRange : Type 0 where
  pub first : ℕ
  pub last : Option ℕ

abbrev pub last_text : Option ℕ → List ℕ
last_text None = []
last_text (Some c) = codes "-" ++ (c ∷ [])

abbrev pub range_text : WrittenRange → List ℕ
range_text r = r.first ∷ last_text r.last

abbrev pub last_of : ℕ → Option ℕ → ℕ
last_of first None = first
last_of first (Some c) = c

abbrev pub is_range : WrittenRange → Bool
is_range r = is_capital r.first && is_capital (last_of r.first r.last)

-- a kind and its letters
pub record WrittenLetters : Type 0 where
  pub kind : Kind
  pub ranges : List WrittenRange

abbrev pub kind_text : Kind → List ℕ
kind_text Integer = codes "INTEGER"
kind_text Logical = codes "LOGICAL"

abbrev pub letters_text : WrittenLetters → List ℕ
letters_text letters = kind_text letters.kind ++ in_brackets (with_commas (map range_text letters.ranges))

abbrev pub letters_of : WrittenLetters → List LetterRange
letters_of letters = map (λ r. record { kind = letters.kind; from = r.first; to = last_of r.first r.last }) letters.ranges

abbrev pub are_letters : WrittenLetters → Bool
are_letters letters = nat_lt 0 (length letters.ranges) && list_all is_range letters.ranges

-- the block of the names after it: blank common, unsaid or as two strokes, or a named one
pub data WrittenBlock : Type 0 where
  Unsaid : WrittenBlock
  Blank : WrittenBlock
  Block : List ℕ → WrittenBlock

abbrev pub block_text : WrittenBlock → List ℕ
block_text Unsaid = []
block_text Blank = codes "//"
block_text (Block name) = codes "/" ++ name ++ codes "/"

abbrev pub block_of : WrittenBlock → Option (List ℕ)
block_of Unsaid = None
block_of Blank = None
block_of (Block name) = Some name

abbrev pub is_block : WrittenBlock → Bool
is_block (Block name) = is_name name
is_block _ = true

abbrev pub is_said : WrittenBlock → Bool
is_said Unsaid = false
is_said _ = true

-- names of a block, with a leading comma or without
pub record WrittenPart : Type 0 where
  pub comma : Bool
  pub block : WrittenBlock
  pub decls : List WrittenDecl

abbrev pub part_text : WrittenPart → List ℕ
part_text p = comma_if p.comma ++ block_text p.block ++ decls_text p.decls

abbrev pub part_of : WrittenPart → CommonPart
part_of p = record { block = block_of p.block; decls = map decl_of p.decls }

pub record IsPart (p : WrittenPart) : Type 0 where
  pub block : is_block p.block ≡ true
  pub some : 1 ≤ length p.decls
  pub decls : All IsDecl p.decls

-- no comma stands before the first part, and the others tell their block
abbrev pub are_in_place : List WrittenPart → Bool
are_in_place [] = false
are_in_place (first ∷ others) = not first.comma && list_all (λ p. is_said p.block) others

-- a name, with subscripts or without
pub record WrittenMember : Type 0 where
  pub name : List ℕ
  pub subs : List SignedDigits

abbrev pub member_text : WrittenMember → List ℕ
member_text m = m.name ++ bracketed_list (map signed_text m.subs)

abbrev pub member_of : WrittenMember → Member
member_of m = record { name = m.name; subs = map whole_number m.subs }

abbrev pub is_member : WrittenMember → Bool
is_member m = is_name m.name && list_all is_signed m.subs

abbrev pub group_text : List WrittenMember → List ℕ
group_text members = in_brackets (with_commas (map member_text members))

-- two members or more
abbrev pub is_group : List WrittenMember → Bool
is_group members = nat_le 2 (length members) && list_all is_member members

pub data WrittenConstant : Type 0 where
  Whole : SignedDigits → WrittenConstant
  Logical_value : Bool → WrittenConstant

abbrev pub constant_text : WrittenConstant → List ℕ
constant_text (Whole n) = signed_text n
constant_text (Logical_value b) = truth_text b

abbrev pub constant_of : WrittenConstant → Lit
constant_of (Whole n) = Int (whole_number n)
constant_of (Logical_value b) = Truth b

abbrev pub is_constant : WrittenConstant → Bool
is_constant (Whole n) = is_signed n
is_constant (Logical_value b) = true

abbrev pub constant_is_great : WrittenConstant → Bool
constant_is_great (Whole n) = is_great n.digits
constant_is_great (Logical_value b) = false

-- a constant, alone or repeated
pub record WrittenValue : Type 0 where
  pub times : Option (List ℕ)
  pub constant : WrittenConstant

abbrev pub times_text : Option (List ℕ) → List ℕ
times_text None = []
times_text (Some digits) = digits ++ codes "*"

abbrev pub value_text : WrittenValue → List ℕ
value_text v = times_text v.times ++ constant_text v.constant

abbrev pub times_of : Option (List ℕ) → ℕ
times_of None = 1
times_of (Some digits) = number_of digits

abbrev pub value_of : WrittenValue → InitValue
value_of v = record { times = times_of v.times; value = constant_of v.constant }

abbrev pub are_times : Option (List ℕ) → Bool
are_times None = true
are_times (Some digits) = is_number digits

abbrev pub is_value : WrittenValue → Bool
is_value v = are_times v.times && is_constant v.constant

-- a repeat of 0 is no repeat
abbrev pub value_is_bad : WrittenValue → Bool
value_is_bad v = nat_lt greatest_constant (times_of v.times) || (times_of v.times == 0) || constant_is_great v.constant

-- items of DATA and their values, with a leading comma or without
pub record WrittenData : Type 0 where
  pub comma : Bool
  pub items : List WrittenMember
  pub values : List WrittenValue

abbrev pub data_text : WrittenData → List ℕ
data_text d = comma_if d.comma ++ with_commas (map member_text d.items) ++ codes "/" ++ with_commas (map value_text d.values) ++ codes "/"

abbrev pub data_of : WrittenData → InitPart
data_of d = record { items = map member_of d.items; values = map value_of d.values }

abbrev pub is_data : WrittenData → Bool
is_data d = nat_lt 0 (length d.items) && list_all is_member d.items && nat_lt 0 (length d.values) && list_all is_value d.values

-- no comma stands before the first part
abbrev pub begins_alone : List WrittenData → Bool
begins_alone [] = false
begins_alone (first ∷ others) = not first.comma

-- ---- executable statements

-- a character of a character constant: an apostrophe is written as two
abbrev pub character_text : ℕ → List ℕ
character_text c = if c == 39 then 39 ∷ 39 ∷ [] else (c ∷ [])

abbrev pub characters_text : List ℕ → List ℕ
characters_text characters = codes "'" ++ flat_map character_text characters ++ codes "'"

pub data WrittenItem : Type 0 where
  Expression : Written → WrittenItem
  Characters : List ℕ → WrittenItem

abbrev pub item_text : WrittenItem → List ℕ
item_text (Expression w) = spelling w
item_text (Characters characters) = characters_text characters

abbrev pub item_of : WrittenItem → RawItem
item_of (Expression w) = Value (reading w)
item_of (Characters characters) = Chars characters

abbrev pub IsItem : WrittenItem → Type 0
IsItem (Expression w) = IsGrammatical w
IsItem (Characters characters) = 1 ≤ length characters

abbrev pub item_is_great : WrittenItem → Bool
item_is_great (Expression w) = has_great_number w
item_is_great (Characters characters) = false

-- PRINT *, or WRITE to the unit * or 6
pub data PrintForm : Type 0 where
  Print_star : PrintForm
  Write_star : PrintForm
  Write_six : PrintForm

-- a comma before each
abbrev pub after_commas : List (List ℕ) → List ℕ
after_commas texts = flat_map (λ text. codes "," ++ text) texts

abbrev pub print_text : PrintForm → List (List ℕ) → List ℕ
print_text Print_star items = codes "PRINT*" ++ after_commas items
print_text Write_star items = codes "WRITE(*,*)" ++ with_commas items
print_text Write_six items = codes "WRITE(6,*)" ++ with_commas items

-- READ *, or READ from the unit * or 5
pub data ReadForm : Type 0 where
  Read_star : ReadForm
  Read_unit_star : ReadForm
  Read_five : ReadForm

abbrev pub read_text : ReadForm → List ℕ
read_text Read_star = codes "READ*,"
read_text Read_unit_star = codes "READ(*,*)"
read_text Read_five = codes "READ(5,*)"

-- what STOP shows
pub data WrittenStop : Type 0 where
  Nothing_shown : WrittenStop
  Digits : List ℕ → WrittenStop
  Shown : List ℕ → WrittenStop

abbrev pub stop_text : WrittenStop → List ℕ
stop_text Nothing_shown = []
stop_text (Digits digits) = digits
stop_text (Shown characters) = characters_text characters

abbrev pub is_stop : WrittenStop → Bool
is_stop Nothing_shown = true
is_stop (Digits digits) = is_number digits && nat_le (length digits) 5
is_stop (Shown characters) = nat_lt 0 (length characters)

-- a variable or an array element
abbrev pub is_variable : Written → Bool
is_variable (Written.name n) = true
is_variable (Written.call n arguments) = true
is_variable _ = false

pub record IsVariable (w : Written) : Type 0 where
  pub grammatical : IsGrammatical w
  pub variable : is_variable w ≡ true

-- the step of a DO, if it is said
abbrev pub step_text : Option Written → List ℕ
step_text None = []
step_text (Some w) = codes "," ++ spelling w

abbrev pub step_of : Option Written → Option RawExpr
step_of None = None
step_of (Some w) = Some (reading w)

abbrev pub IsStep : Option Written → Type 0
IsStep None = Unit {0}
IsStep (Some w) = IsGrammatical w

abbrev pub step_is_great : Option Written → Bool
step_is_great None = false
step_is_great (Some w) = has_great_number w

-- what stands after the name of a subroutine: nothing, or names between brackets, of which there may be none
abbrev pub names_text : Option (List (List ℕ)) → List ℕ
names_text None = []
names_text (Some names) = in_brackets (with_commas names)

abbrev pub names_of : Option (List (List ℕ)) → List (List ℕ)
names_of None = []
names_of (Some names) = names

abbrev pub are_names : Option (List (List ℕ)) → Bool
are_names names = list_all is_name (names_of names)

-- ---- statements

pub data WrittenStatement : Type 0 where
  program : List ℕ → WrittenStatement
  implicit_none : WrittenStatement
  implicit : List WrittenLetters → WrittenStatement
  typed : Kind → List WrittenDecl → WrittenStatement
  dimension : List WrittenDecl → WrittenStatement
  common : List WrittenPart → WrittenStatement
  equivalence : List (List WrittenMember) → WrittenStatement
  init : List WrittenData → WrittenStatement
  assignment : (target value : Written) → WrittenStatement
  print : PrintForm → List WrittenItem → WrittenStatement
  read : ReadForm → List Written → WrittenStatement
  continue : WrittenStatement
  stop : WrittenStop → WrittenStatement
  go_to : (label : List ℕ) → WrittenStatement
  computed_go_to : (labels : List (List ℕ)) → (comma : Bool) → Written → WrittenStatement
  arithmetic_if : Written → (negative zero positive : List ℕ) → WrittenStatement
  logical_if : Written → WrittenStatement → WrittenStatement
  block_if : Written → WrittenStatement
  else_if : Written → WrittenStatement
  else : WrittenStatement
  end_if : WrittenStatement
  do_loop : (label : List ℕ) → (comma : Bool) → (variable : List ℕ) → (first last : Written) → Option Written → WrittenStatement
  subroutine : (name : List ℕ) → (dummies : Option (List (List ℕ))) → WrittenStatement
  call_of : (name : List ℕ) → (arguments : Option (List (List ℕ))) → WrittenStatement
  go_back : WrittenStatement
  end : WrittenStatement

abbrev pub statement_text : WrittenStatement → List ℕ
statement_text (WrittenStatement.program n) = codes "PROGRAM" ++ n
statement_text WrittenStatement.implicit_none = codes "IMPLICITNONE"
statement_text (WrittenStatement.implicit letters) = codes "IMPLICIT" ++ with_commas (map letters_text letters)
statement_text (WrittenStatement.typed kind decls) = kind_text kind ++ decls_text decls
statement_text (WrittenStatement.dimension decls) = codes "DIMENSION" ++ decls_text decls
statement_text (WrittenStatement.common parts) = codes "COMMON" ++ flat_map part_text parts
statement_text (WrittenStatement.equivalence groups) = codes "EQUIVALENCE" ++ with_commas (map group_text groups)
statement_text (WrittenStatement.init parts) = codes "DATA" ++ flat_map data_text parts
statement_text (WrittenStatement.assignment target value) = spelling target ++ codes "=" ++ spelling value
statement_text (WrittenStatement.print form items) = print_text form (map item_text items)
statement_text (WrittenStatement.read form targets) = read_text form ++ with_commas (map spelling targets)
statement_text WrittenStatement.continue = codes "CONTINUE"
statement_text (WrittenStatement.stop shown) = codes "STOP" ++ stop_text shown
statement_text (WrittenStatement.go_to label) = codes "GOTO" ++ label
statement_text (WrittenStatement.computed_go_to labels comma w) = codes "GOTO" ++ in_brackets (with_commas labels) ++ comma_if comma ++ spelling w
statement_text (WrittenStatement.arithmetic_if w negative zero positive) = codes "IF" ++ in_brackets (spelling w) ++ with_commas (negative ∷ zero ∷ positive ∷ [])
statement_text (WrittenStatement.logical_if w s) = codes "IF" ++ in_brackets (spelling w) ++ statement_text s
statement_text (WrittenStatement.block_if w) = codes "IF" ++ in_brackets (spelling w) ++ codes "THEN"
statement_text (WrittenStatement.else_if w) = codes "ELSEIF" ++ in_brackets (spelling w) ++ codes "THEN"
statement_text WrittenStatement.else = codes "ELSE"
statement_text WrittenStatement.end_if = codes "ENDIF"
statement_text (WrittenStatement.do_loop label comma variable first last step) = codes "DO" ++ label ++ comma_if comma ++ variable ++ codes "=" ++ spelling first ++ codes "," ++ spelling last ++ step_text step
statement_text (WrittenStatement.subroutine name dummies) = codes "SUBROUTINE" ++ name ++ names_text dummies
statement_text (WrittenStatement.call_of name arguments) = codes "CALL" ++ name ++ names_text arguments
statement_text WrittenStatement.go_back = codes "RETURN"
statement_text WrittenStatement.end = codes "END"

-- a statement that may stand in a logical IF
abbrev pub is_simple : WrittenStatement → Bool
is_simple (WrittenStatement.program n) = false
is_simple WrittenStatement.implicit_none = false
is_simple (WrittenStatement.implicit letters) = false
is_simple (WrittenStatement.typed kind decls) = false
is_simple (WrittenStatement.dimension decls) = false
is_simple (WrittenStatement.common parts) = false
is_simple (WrittenStatement.equivalence groups) = false
is_simple (WrittenStatement.init parts) = false
is_simple (WrittenStatement.assignment target value) = true
is_simple (WrittenStatement.print form items) = true
is_simple (WrittenStatement.read form targets) = true
is_simple WrittenStatement.continue = true
is_simple (WrittenStatement.stop shown) = true
is_simple (WrittenStatement.go_to label) = true
is_simple (WrittenStatement.computed_go_to labels comma w) = true
is_simple (WrittenStatement.arithmetic_if w negative zero positive) = true
is_simple (WrittenStatement.logical_if w s) = false
is_simple (WrittenStatement.block_if w) = false
is_simple (WrittenStatement.else_if w) = false
is_simple WrittenStatement.else = false
is_simple WrittenStatement.end_if = false
is_simple (WrittenStatement.do_loop label comma variable first last step) = false
is_simple (WrittenStatement.subroutine name dummies) = false
is_simple (WrittenStatement.call_of name arguments) = true
is_simple WrittenStatement.go_back = true
is_simple WrittenStatement.end = false

-- the grammar of statements
abbrev pub IsStatement : WrittenStatement → Type 0
IsStatement (WrittenStatement.program n) = is_name n ≡ true
IsStatement WrittenStatement.implicit_none = Unit {0}
IsStatement (WrittenStatement.implicit letters) = (1 ≤ length letters) × (list_all are_letters letters ≡ true)
IsStatement (WrittenStatement.typed kind decls) = (1 ≤ length decls) × All IsDecl decls
IsStatement (WrittenStatement.dimension decls) = (1 ≤ length decls) × All IsDecl decls × (list_all has_dims decls ≡ true)
IsStatement (WrittenStatement.common parts) = (are_in_place parts ≡ true) × All IsPart parts
IsStatement (WrittenStatement.equivalence groups) = (1 ≤ length groups) × (list_all is_group groups ≡ true)
IsStatement (WrittenStatement.init parts) = (begins_alone parts ≡ true) × (list_all is_data parts ≡ true)
IsStatement (WrittenStatement.assignment target value) = IsVariable target × IsGrammatical value
IsStatement (WrittenStatement.print form items) = All IsItem items
IsStatement (WrittenStatement.read form targets) = (1 ≤ length targets) × All IsVariable targets
IsStatement WrittenStatement.continue = Unit {0}
IsStatement (WrittenStatement.stop shown) = is_stop shown ≡ true
IsStatement (WrittenStatement.go_to label) = is_number label ≡ true
IsStatement (WrittenStatement.computed_go_to labels comma w) = (1 ≤ length labels) × (list_all is_number labels ≡ true) × IsGrammatical w
IsStatement (WrittenStatement.arithmetic_if w negative zero positive) = IsGrammatical w × (list_all is_number (negative ∷ zero ∷ positive ∷ []) ≡ true)
IsStatement (WrittenStatement.logical_if w s) = IsGrammatical w × IsStatement s × (is_simple s ≡ true)
IsStatement (WrittenStatement.block_if w) = IsGrammatical w
IsStatement (WrittenStatement.else_if w) = IsGrammatical w
IsStatement WrittenStatement.else = Unit {0}
IsStatement WrittenStatement.end_if = Unit {0}
IsStatement (WrittenStatement.do_loop label comma variable first last step) = (is_number label ≡ true) × (is_name variable ≡ true) × IsGrammatical first × IsGrammatical last × IsStep step
IsStatement (WrittenStatement.subroutine name dummies) = (is_name name ≡ true) × (are_names dummies ≡ true)
IsStatement (WrittenStatement.call_of name arguments) = (is_name name ≡ true) × (are_names arguments ≡ true)
IsStatement WrittenStatement.go_back = Unit {0}
IsStatement WrittenStatement.end = Unit {0}

-- ---- the statements that are read

abbrev pub statement_of : WrittenStatement → Stmt
statement_of (WrittenStatement.program n) = Program
statement_of WrittenStatement.implicit_none = ImplicitNone
statement_of (WrittenStatement.implicit letters) = Implicit (flat_map letters_of letters)
statement_of (WrittenStatement.typed kind decls) = TypeOf kind (map decl_of decls)
statement_of (WrittenStatement.dimension decls) = Dimension (map decl_of decls)
statement_of (WrittenStatement.common parts) = Common (map part_of parts)
statement_of (WrittenStatement.equivalence groups) = Equivalence (map (λ members. map member_of members) groups)
statement_of (WrittenStatement.init parts) = Init (map data_of parts)
statement_of (WrittenStatement.assignment target value) = Assign (reading target) (reading value)
statement_of (WrittenStatement.print form items) = Print (map item_of items)
statement_of (WrittenStatement.read form targets) = Take (map reading targets)
statement_of WrittenStatement.continue = Continue
statement_of (WrittenStatement.stop shown) = Stop
statement_of (WrittenStatement.go_to label) = GoTo (number_of label)
statement_of (WrittenStatement.computed_go_to labels comma w) = PickGoTo (map number_of labels) (reading w)
statement_of (WrittenStatement.arithmetic_if w negative zero positive) = SignIf (reading w) (number_of negative) (number_of zero) (number_of positive)
statement_of (WrittenStatement.logical_if w s) = ThenIf (reading w) (statement_of s)
statement_of (WrittenStatement.block_if w) = BlockIf (reading w)
statement_of (WrittenStatement.else_if w) = ElseIf (reading w)
statement_of WrittenStatement.else = Else
statement_of WrittenStatement.end_if = EndIf
statement_of (WrittenStatement.do_loop label comma variable first last step) = Do (number_of label) variable (reading first) (reading last) (step_of step)
statement_of (WrittenStatement.subroutine name dummies) = Sub name (names_of dummies)
statement_of (WrittenStatement.call_of name arguments) = CallTo name (names_of arguments)
statement_of WrittenStatement.go_back = Back
statement_of WrittenStatement.end = End

-- ---- constants

-- a label is a number from 1 to 99999
abbrev pub is_bad_label : List ℕ → Bool
is_bad_label digits = (number_of digits == 0) || nat_lt 99999 (number_of digits)

abbrev pub are_great : List SignedDigits → Bool
are_great numbers = list_any (λ n. is_great n.digits) numbers

-- a number above the greatest constant, a label that is none, or a repeat of 0
abbrev pub has_bad_constant : WrittenStatement → Bool
has_bad_constant (WrittenStatement.program n) = false
has_bad_constant WrittenStatement.implicit_none = false
has_bad_constant (WrittenStatement.implicit letters) = false
has_bad_constant (WrittenStatement.typed kind decls) = are_great (flat_map decl_numbers decls)
has_bad_constant (WrittenStatement.dimension decls) = are_great (flat_map decl_numbers decls)
has_bad_constant (WrittenStatement.common parts) = are_great (flat_map (λ p. flat_map decl_numbers p.decls) parts)
has_bad_constant (WrittenStatement.equivalence groups) = are_great (flat_map (λ members. flat_map (λ m. m.subs) members) groups)
has_bad_constant (WrittenStatement.init parts) = list_any (λ d. are_great (flat_map (λ m. m.subs) d.items) || list_any value_is_bad d.values) parts
has_bad_constant (WrittenStatement.assignment target value) = has_great_number target || has_great_number value
has_bad_constant (WrittenStatement.print form items) = list_any item_is_great items
has_bad_constant (WrittenStatement.read form targets) = list_any has_great_number targets
has_bad_constant WrittenStatement.continue = false
has_bad_constant (WrittenStatement.stop shown) = false
has_bad_constant (WrittenStatement.go_to label) = is_bad_label label
has_bad_constant (WrittenStatement.computed_go_to labels comma w) = list_any is_bad_label labels || has_great_number w
has_bad_constant (WrittenStatement.arithmetic_if w negative zero positive) = has_great_number w || list_any is_bad_label (negative ∷ zero ∷ positive ∷ [])
has_bad_constant (WrittenStatement.logical_if w s) = has_great_number w || has_bad_constant s
has_bad_constant (WrittenStatement.block_if w) = has_great_number w
has_bad_constant (WrittenStatement.else_if w) = has_great_number w
has_bad_constant WrittenStatement.else = false
has_bad_constant WrittenStatement.end_if = false
has_bad_constant (WrittenStatement.do_loop label comma variable first last step) = is_bad_label label || has_great_number first || has_great_number last || step_is_great step
has_bad_constant (WrittenStatement.subroutine name dummies) = false
has_bad_constant (WrittenStatement.call_of name arguments) = false
has_bad_constant WrittenStatement.go_back = false
has_bad_constant WrittenStatement.end = false

-- a statement of the grammar that a text spells
pub record IsWrittenStatement (text : List ℕ) (s : WrittenStatement) : Type 0 where
  pub grammatical : IsStatement s
  pub is : statement_text s ≡ text

-- a text that is read as a statement, each constant of which is in range
pub record IsReadAs (text : List ℕ) (stmt : Stmt) : Type 0 where
  pub written : WrittenStatement
  pub spells : IsWrittenStatement text written
  pub is : statement_of written ≡ stmt
  pub constants : has_bad_constant written ≡ false

-- a character that may stand in a text: from the blank of ASCII to the tilde
abbrev pub is_printable : ℕ → Bool
is_printable c = is_in_range 32 126 c

-- a statement that some text of printable characters is read as: whoever works on a program may take this for given of
-- each of its statements
pub record IsGiven (stmt : Stmt) : Type 0 where
  pub text : List ℕ
  pub printable : IsTrue (list_all is_printable text)
  pub is_read : IsReadAs text stmt

-- a statement of subroutines, alone or after a condition
abbrev pub is_of_subroutines : Stmt → Bool
is_of_subroutines (Sub name dummies) = true
is_of_subroutines (CallTo name arguments) = true
is_of_subroutines Back = true
is_of_subroutines (ThenIf' condition shape (more_of-Stmt stmt rest)) = is_of_subroutines stmt
is_of_subroutines Program = false
is_of_subroutines (Implicit ranges) = false
is_of_subroutines ImplicitNone = false
is_of_subroutines (TypeOf kind decls) = false
is_of_subroutines (Dimension decls) = false
is_of_subroutines (Common parts) = false
is_of_subroutines (Equivalence groups) = false
is_of_subroutines (Init parts) = false
is_of_subroutines (Assign target value) = false
is_of_subroutines (Print items) = false
is_of_subroutines (Take targets) = false
is_of_subroutines Continue = false
is_of_subroutines Stop = false
is_of_subroutines (GoTo label) = false
is_of_subroutines (PickGoTo labels index) = false
is_of_subroutines (SignIf value negative zero positive) = false
is_of_subroutines (BlockIf condition) = false
is_of_subroutines (ElseIf condition) = false
is_of_subroutines Else = false
is_of_subroutines EndIf = false
is_of_subroutines (Do label variable first last step) = false
is_of_subroutines End = false
