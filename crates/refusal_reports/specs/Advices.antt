-- What is told of codes without the names of the text.
use Rattle.std.specs.Prelude.{ℕ, ◌==◌, ◌-◌, ◌||◌, nat_le, nat_eq, if◌then◌else◌, List, codes, slice_get, slice_index, Option, Some, None}
use Rattle.std.specs.List.{starts_with}
use Rattle.std.specs.Option.{is_some}
use Rattle.f77_source.specs.declared.source_end.Code.{Code}
use Rattle.f77_source.specs.declared.source_end.Code.TheVariants as code
use Rattle.f77_source.specs.declared.source_end.Refusal.{Refusal}
use Rattle.f77_tree.specs.declared.statements.Labelled.{Labelled}
use Rattle.refusal_causes.specs.Places.{advice_on_layout, advice_on_nesting, advice_on_order}
use Rattle.refusal_reports.specs.Columns.{column_of_byte, column_of_label}

-- ---- what is wrong

abbrev pub tab : List ℕ
tab = codes "a tab stands in a statement"

abbrev pub carriage_return : List ℕ
carriage_return = codes "a carriage return stands inside a line"

abbrev pub not_ascii : List ℕ
not_ascii = codes "a character stands here that isn't of ASCII"

abbrev pub control : List ℕ
control = codes "a control character stands in a statement"

abbrev pub exclamation : List ℕ
exclamation = codes "a comment begins with !"

abbrev pub no_label : List ℕ
no_label = codes "columns 1 to 5 have another character than digits and blanks"

abbrev pub continued_label : List ℕ
continued_label = codes "a continuation line has a label"

abbrev pub zero : List ℕ
zero = codes "a label is 0"

abbrev pub stray : List ℕ
stray = codes "a continuation line has no statement above it"

abbrev pub continuations : List ℕ
continuations = codes "a statement has more than 19 continuation lines"

abbrev pub statements : List ℕ
statements = codes "there are more than 4,000 statements, those of a subroutine counted at each CALL of it"

abbrev pub no_end : List ℕ
no_end = codes "the last statement isn't END"

abbrev pub brackets : List ℕ
brackets = codes "more than 60 brackets are open at one place"

abbrev pub constant : List ℕ
constant = codes "a number is out of range"

abbrev pub names : List ℕ
names = codes "the copies of subroutines have more than 99,999 names of their own"

abbrev pub jump : List ℕ
jump = codes "a jump leads into the range of a DO, or into an arm of an IF, from outside"

abbrev pub words : List ℕ
words = codes "all names together have more than 262,144 words"

abbrev pub operations : List ℕ
operations = codes "the statement takes more than 500 operations, or the text has more than 4,000 labels in computed GO TO, or items of READ"

abbrev pub classes : List ℕ
classes = codes "there are more than 1,023 classes of names that share words"

abbrev pub other : List ℕ
other = codes "the text is refused here"

abbrev pub advice_of_byte : ℕ → List ℕ
advice_of_byte c = if c == 9 then tab else (if c == 13 then carriage_return else (if nat_le 128 c then not_ascii else control))

abbrev pub advice_at_byte : (line : List ℕ) → Option ℕ → List ℕ
advice_at_byte line None = control
advice_at_byte line (Some column) = advice_of_byte (slice_index line (column - 1))

-- of the first byte that is no character of the source
abbrev pub advice_on_byte : (line : List ℕ) → List ℕ
advice_on_byte line = advice_at_byte line (column_of_byte line)

-- by column 6, where columns 1 to 5 have digits and blanks alone
abbrev pub advice_by_mark : Option ℕ → List ℕ
advice_by_mark None = zero
advice_by_mark (Some c) = if c == 32 || c == 48 then zero else continued_label

-- of columns 1 to 5
abbrev pub advice_on_label : (line : List ℕ) → List ℕ
advice_on_label line =
    if starts_with nat_eq line (codes "!") then exclamation
    else (if is_some (column_of_label line) then no_label
    else advice_by_mark (slice_get line 5))

-- of a code alone
abbrev pub advice_at : Code → List ℕ
advice_at code.StrayContinuation = stray
advice_at code.TooManyContinuations = continuations
advice_at code.TooManyStatements = statements
advice_at code.NoEnd = no_end
advice_at code.TooDeep = brackets
advice_at code.BadConstant = constant
advice_at code.TooManyNames = names
advice_at code.JumpInto = jump
advice_at code.TooManyWords = words
advice_at code.TooManyOps = operations
advice_at code.TooManyClasses = classes
advice_at _ = other

abbrev pub advice_by_code : (line : List ℕ) → List Labelled → (number : ℕ) → Code → List ℕ
advice_by_code line stmts number code.BadByte = advice_on_byte line
advice_by_code line stmts number code.BadLabelField = advice_on_label line
advice_by_code line stmts number code.OutOfOrder = advice_on_order stmts number
advice_by_code line stmts number code.LayoutWrong = advice_on_layout stmts number
advice_by_code line stmts number code.BadNesting = advice_on_nesting stmts number
advice_by_code line stmts number code = advice_at code

-- of a refusal: of the line that it names, and of the statements of the text
abbrev pub advice_on : (line : List ℕ) → List Labelled → Refusal → List ℕ
advice_on line stmts refusal = advice_by_code line stmts refusal.line refusal.code
