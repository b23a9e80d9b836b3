-- A dataflow graph that was printed is read again.
use Rattle.std.proofs.Common.{◌≡◌, ℕ, suc, ◌+◌, ◌^◌, ◌<◌, ◌≤◌, ℤ, pos, negsuc, true, cond, ltb, leb, List, [], ◌∷◌, ◌++◌, length, drop, flat_map, codes, Some, None, refl, sym, ap, ◌∙◌, append_assoc, arith, inl, inr, Vec}
use Rattle.std.specs.declared.alloc.Global.{Global}
use Rattle.std.specs.Fmt.{decimal, signed_decimal}
use Rattle.std.specs.List.{All}
use Rattle.std.proofs.lemmas.Bool.{cases_eq, ne_eqb, lt-ltb, le-leb}
use Rattle.std.proofs.lemmas.List.{drop_at}
use Rattle.std.proofs.lemmas.List.Elements.{All-head, All-tail}
use Rattle.op_table.specs.declared.Op.TheVariants as op
use Rattle.printed_graphs.specs.declared.dataflow.Bypass.{Bypass}
use Rattle.printed_graphs.specs.declared.dataflow.Node.{Node}
use Rattle.printed_graphs.specs.declared.dataflow.Node.TheVariants as node
use Rattle.printed_graphs.specs.declared.dataflow.Operand.{Operand}
use Rattle.printed_graphs.specs.declared.dataflow.Operand.TheVariants as operand
use Rattle.printed_graphs.specs.declared.dataflow.PrintedGraph.{PrintedGraph}
use Rattle.printed_graphs.specs.declared.dataflow.TokenLine.{TokenLine}
use Rattle.printed_graphs.specs.declared.dataflow.TokenLine.TheVariants as line
use Rattle.printed_graphs.specs.declared.dataflow.Value.{Value}
use Rattle.printed_graphs.specs.declared.dataflow.Wires.{Wires}
use Rattle.printed_graphs.specs.declared.dataflow.Work.{Work}
use Rattle.printed_graphs.specs.declared.dataflow.Work.TheVariants as work
use Rattle.printed_graphs.specs.DataflowText.{size_text, name_text, names_text, line_name_text, token_line_text, node_text, node_line_text, operand_text, value_text, wires_text, bypass_text, graph_text}
use Rattle.printed_graphs.specs.GraphReading.{after_two, is_work, size_at, after_letters, after_names, line_name_at, token_line_at, operation_at, node_at, node_line_at, operand_at, after_operands, value_at, after_values, wires_at, bypass_at, after_bypasses, graph_at}
use Rattle.printed_graphs.specs.Names.{work_text}
use Rattle.printed_graphs.specs.Printable.{IsPrintableName, IsPrintableLine, AreShort, IsPrintableNode, IsPrintableOperand, IsPrintableValue, IsPrintableWires, IsPrintableBypass, IsPrintableGraph}
use Rattle.printed_graphs.specs.Reading.{choose, after_word, digit_at, after_short, after_signed, field_at, is_word_char, word_length, after_name, after_numbers, lines_at}
use Rattle.printed_graphs.specs.Words.{field_text, numbers_text, lines_from}
use Rattle.printed_graphs.proofs.Again.{number_again, after_number_again, after_short_again}
use Rattle.printed_graphs.proofs.FlowAgain.{number_blank, number_end, lines_again}
use Rattle.printed_graphs.proofs.TraceAgain.{IsReadAgain, parts_again, no_word, number_begins, two_end}
use Rattle.printed_graphs.proofs.Loops.{operand_some, value_some, bypass_some}

-- ---- lists of numbers

abbrev pub IsShort : ℕ → Type 0
IsShort n = n < 2 ^ 32

abbrev pub NoDigit : List ℕ → Type 0
NoDigit rest = digit_at rest ≡ None

blank_no_digit : (rest : List ℕ) → digit_at (32 ∷ rest) ≡ None
unfolding digit_at
blank_no_digit rest = refl

end_no_digit : (rest : List ℕ) → digit_at (10 ∷ rest) ≡ None
unfolding digit_at
end_no_digit rest = refl

word_blank : (rest : List ℕ) → after_word (codes " ") (32 ∷ rest) ≡ Some rest
unfolding after_word
word_blank rest = refl

end_no_blank : (rest : List ℕ) → after_word (codes " ") (10 ∷ rest) ≡ None
unfolding after_word
end_no_blank rest = refl

field_some : (n : ℕ) → 0 < length (field_text n)
field_some n = omega arith

numbers_law : IsReadAgain (after_word (codes " ")) after_short field_text IsShort NoDigit
numbers_law = record {
  some = field_some;
  front = λ n rest fits. blank_no_digit (decimal n ++ rest);
  inner = λ n rest. decimal n ++ rest;
  begins = λ n rest fits end. word_blank (decimal n ++ rest);
  again = λ n rest fits end. after_short_again n rest fits end;
}

pub numbers_again : (numbers : List ℕ) (rest : List ℕ) → AreShort numbers → after_numbers (numbers_text numbers ++ 10 ∷ rest) ≡ Some (10 ∷ rest)
numbers_again numbers rest fits = parts_again (after_word (codes " ")) after_short field_text IsShort NoDigit numbers_law numbers (10 ∷ rest) (length (numbers_text numbers ++ 10 ∷ rest)) fits (end_no_digit rest) (end_no_blank rest) (omega arith)

-- ---- names

abbrev pub NoLetter : List ℕ → Type 0
NoLetter rest = word_length rest ≡ 0

word_whole : (w rest : List ℕ) → All (λ c. is_word_char c ≡ true) w → word_length rest ≡ 0 → word_length (w ++ rest) ≡ length w
word_whole [] rest all end = end
word_whole (c ∷ w) rest all end =
    let first : is_word_char c ≡ true = All-head (λ c. is_word_char c ≡ true) c w all in
    let others = word_whole w rest (All-tail (λ c. is_word_char c ≡ true) c w all) end in
    ap (λ b. cond b (1 + word_length (w ++ rest)) 0) first ∙ ap (λ n. 1 + n) others ∙ (omega arith)

letters_again : (w rest : List ℕ) → All (λ c. is_word_char c ≡ true) w → word_length rest ≡ 0 → after_letters (w ++ rest) ≡ Some rest
letters_again w rest all end = ap (λ n. Some (drop n (w ++ rest))) (word_whole w rest all end) ∙ ap Some (drop_at w rest (length w) refl)

name_some : (name : Vec ℕ Global) → 0 < length (name_text name)
name_some name = omega arith

names_law : IsReadAgain (after_word (codes " ")) after_letters name_text IsPrintableName NoLetter
names_law = record {
  some = name_some;
  front = λ name rest fits. refl;
  inner = λ name rest. name.items ++ rest;
  begins = λ name rest fits end. word_blank (name.items ++ rest);
  again = λ name rest fits end. letters_again name.items rest fits end;
}

pub names_again : (names : List (Vec ℕ Global)) (rest : List ℕ) → All IsPrintableName names → after_names (names_text names ++ 10 ∷ rest) ≡ Some (10 ∷ rest)
names_again names rest fits = parts_again (after_word (codes " ")) after_letters name_text IsPrintableName NoLetter names_law names (10 ∷ rest) (length (names_text names ++ 10 ∷ rest)) fits refl (end_no_blank rest) (omega arith)

-- ---- token lines

star_is_none : is_word_char 42 ≡ true → ⊥
star_is_none e = absurd cc

-- a letter or a digit is no star
no_star : (c : ℕ) (word rest : List ℕ) → is_word_char c ≡ true → after_word (32 ∷ 42 ∷ word) (32 ∷ c ∷ rest) ≡ None
unfolding after_word
no_star c word rest letter =
    elim (cases_eq 42 c) [
      | inl same ↦ absurd (star_is_none (ap is_word_char same ∙ letter))
      | inr apart ↦ rw (ne_eqb 42 c apart) refl
    ]

one_no_star : (word name : List ℕ) (names : List (Vec ℕ Global)) (rest : List ℕ) → All (λ c. is_word_char c ≡ true) name → after_word (32 ∷ 42 ∷ word) (((32 ∷ name) ++ names_text names) ++ 10 ∷ rest) ≡ None
unfolding after_word
one_no_star word [] [] rest fits = refl
one_no_star word [] (other ∷ names) rest fits = refl
one_no_star word (c ∷ name) names rest fits = no_star c word ((name ++ names_text names) ++ 10 ∷ rest) (All-head (λ c. is_word_char c ≡ true) c name fits)

-- names do not begin with a star
names_no_star : (word : List ℕ) (names : List (Vec ℕ Global)) (rest : List ℕ) → All IsPrintableName names → after_word (32 ∷ 42 ∷ word) (names_text names ++ 10 ∷ rest) ≡ None
unfolding after_word
names_no_star word [] rest fits = refl
names_no_star word (name ∷ names) rest fits = one_no_star word name.items names rest (All-head IsPrintableName name names fits)

pub line_name_again : (line : TokenLine) (rest : List ℕ) → IsPrintableLine line → line_name_at (line_name_text line ++ 10 ∷ rest) ≡ Some (10 ∷ rest)
unfolding line_name_at after_word
line_name_again line.Output rest fits = refl
line_name_again (line.Loop n) rest fits = after_short_again n (10 ∷ rest) fits (end_no_digit rest)
line_name_again (line.Class names) rest fits =
    let text = names_text names.items ++ 10 ∷ rest in
    ap (λ o. choose o (λ end. Some end) (choose (after_word (codes " *DO") text) after_short (after_names text))) (names_no_star (codes "OUT") names.items rest fits)
    ∙ ap (λ o. choose o after_short (after_names text)) (names_no_star (codes "DO") names.items rest fits)
    ∙ names_again names.items rest fits

names_no_digit : (names : List (Vec ℕ Global)) (rest : List ℕ) → digit_at (names_text names ++ 10 ∷ rest) ≡ None
unfolding digit_at
names_no_digit [] rest = refl
names_no_digit (name ∷ names) rest = refl

name_no_digit : (line : TokenLine) (rest : List ℕ) → digit_at (line_name_text line ++ 10 ∷ rest) ≡ None
unfolding digit_at
name_no_digit line.Output rest = refl
name_no_digit (line.Loop n) rest = refl
name_no_digit (line.Class names) rest = names_no_digit names.items rest

pub token_line_again : (k : ℕ) (line : TokenLine) (rest : List ℕ) → k < 2 ^ 32 → IsPrintableLine line → token_line_at k (token_line_text k line ++ rest) ≡ Some rest
unfolding token_line_at after_word
token_line_again k line rest few fits =
    let name = line_name_text line ++ 10 ∷ rest in
    let regrouped : token_line_text k line ++ rest ≡ 76 ∷ 32 ∷ (decimal k ++ name) = simp append_assoc in
    ap (token_line_at k) regrouped
    ∙ rw (after_number_again k name few (name_no_digit line rest), line_name_again line rest fits) refl

-- ---- nodes

two_law : (a b : ℕ) (rest : List ℕ) → a < 2 ^ 32 → b < 2 ^ 32 → after_two ((decimal a ++ field_text b) ++ 10 ∷ rest) ≡ Some (10 ∷ rest)
two_law a b rest small short = ap after_two (append_assoc (decimal a) (field_text b) (10 ∷ rest)) ∙ two_end a b rest small short

-- what an operation does, before a blank or the end of the line
work_blank : (work : Work) (rest : List ℕ) → after_name is_work (work_text work ++ 32 ∷ rest) ≡ Some (32 ∷ rest)
unfolding after_name is_work
work_blank work.Load rest = refl
work_blank work.Store rest = refl
work_blank work.Write rest = refl
work_blank work.Begin rest = refl
work_blank work.Advance rest = refl
work_blank work.Decide rest = refl
work_blank work.Take rest = refl
work_blank (work.Apply op.Add) rest = refl
work_blank (work.Apply op.Sub) rest = refl
work_blank (work.Apply op.Mul) rest = refl
work_blank (work.Apply op.Div) rest = refl
work_blank (work.Apply op.Pow) rest = refl
work_blank (work.Apply op.Neg) rest = refl
work_blank (work.Apply op.Lt) rest = refl
work_blank (work.Apply op.Le) rest = refl
work_blank (work.Apply op.Eq) rest = refl
work_blank (work.Apply op.Ne) rest = refl
work_blank (work.Apply op.Ge) rest = refl
work_blank (work.Apply op.Gt) rest = refl
work_blank (work.Apply op.Not) rest = refl
work_blank (work.Apply op.And) rest = refl
work_blank (work.Apply op.Or) rest = refl
work_blank (work.Apply op.Eqv) rest = refl
work_blank (work.Apply op.Neqv) rest = refl
work_blank (work.Apply op.Mod) rest = refl
work_blank (work.Apply op.Abs) rest = refl
work_blank (work.Apply op.Sign) rest = refl
work_blank (work.Apply op.Max) rest = refl
work_blank (work.Apply op.Min) rest = refl
work_blank (work.Apply op.Truth) rest = refl
work_blank (work.Apply op.Bound) rest = refl
work_blank (work.Apply op.Place) rest = refl
work_blank (work.Apply op.Three) rest = refl
work_blank (work.Apply op.Pick) rest = refl
work_blank (work.Apply op.Step) rest = refl
work_blank (work.Apply op.AddChecked) rest = refl
work_blank (work.Apply op.SubChecked) rest = refl
work_blank (work.Apply op.MulChecked) rest = refl
work_blank (work.Apply op.NegChecked) rest = refl
work_blank (work.Apply op.AbsChecked) rest = refl
work_blank (work.Apply op.PowChecked) rest = refl

work_end : (work : Work) (rest : List ℕ) → after_name is_work (work_text work ++ 10 ∷ rest) ≡ Some (10 ∷ rest)
unfolding after_name is_work
work_end work.Load rest = refl
work_end work.Store rest = refl
work_end work.Write rest = refl
work_end work.Begin rest = refl
work_end work.Advance rest = refl
work_end work.Decide rest = refl
work_end work.Take rest = refl
work_end (work.Apply op.Add) rest = refl
work_end (work.Apply op.Sub) rest = refl
work_end (work.Apply op.Mul) rest = refl
work_end (work.Apply op.Div) rest = refl
work_end (work.Apply op.Pow) rest = refl
work_end (work.Apply op.Neg) rest = refl
work_end (work.Apply op.Lt) rest = refl
work_end (work.Apply op.Le) rest = refl
work_end (work.Apply op.Eq) rest = refl
work_end (work.Apply op.Ne) rest = refl
work_end (work.Apply op.Ge) rest = refl
work_end (work.Apply op.Gt) rest = refl
work_end (work.Apply op.Not) rest = refl
work_end (work.Apply op.And) rest = refl
work_end (work.Apply op.Or) rest = refl
work_end (work.Apply op.Eqv) rest = refl
work_end (work.Apply op.Neqv) rest = refl
work_end (work.Apply op.Mod) rest = refl
work_end (work.Apply op.Abs) rest = refl
work_end (work.Apply op.Sign) rest = refl
work_end (work.Apply op.Max) rest = refl
work_end (work.Apply op.Min) rest = refl
work_end (work.Apply op.Truth) rest = refl
work_end (work.Apply op.Bound) rest = refl
work_end (work.Apply op.Place) rest = refl
work_end (work.Apply op.Three) rest = refl
work_end (work.Apply op.Pick) rest = refl
work_end (work.Apply op.Step) rest = refl
work_end (work.Apply op.AddChecked) rest = refl
work_end (work.Apply op.SubChecked) rest = refl
work_end (work.Apply op.MulChecked) rest = refl
work_end (work.Apply op.NegChecked) rest = refl
work_end (work.Apply op.AbsChecked) rest = refl
work_end (work.Apply op.PowChecked) rest = refl

work_numbers : (work : Work) (numbers rest : List ℕ) → after_name is_work (work_text work ++ (numbers_text numbers ++ 10 ∷ rest)) ≡ Some (numbers_text numbers ++ 10 ∷ rest)
work_numbers work [] rest = work_end work rest
work_numbers work (n ∷ ns) rest = work_blank work ((decimal n ++ numbers_text ns) ++ 10 ∷ rest)

operation_again : (piece number : ℕ) (work : Work) (lines rest : List ℕ) → piece < 2 ^ 32 → number < 2 ^ 32 → AreShort lines → operation_at (codes " OP " ++ (decimal piece ++ 32 ∷ (decimal number ++ 32 ∷ (work_text work ++ (numbers_text lines ++ 10 ∷ rest))))) ≡ Some (10 ∷ rest)
unfolding operation_at after_word field_at
operation_again piece number work lines rest small short fits =
    let tail = work_text work ++ (numbers_text lines ++ 10 ∷ rest) in
    rw (number_blank piece (decimal number ++ 32 ∷ tail) small, number_blank number tail short, work_numbers work lines rest) (numbers_again lines rest fits)

pub node_again : (node : Node) (rest : List ℕ) → IsPrintableNode node → node_at (node_text node ++ 10 ∷ rest) ≡ Some (10 ∷ rest)
unfolding node_at after_word
node_again (node.Switch a b) rest fits = two_law a b rest fits.0 fits.1
node_again (node.Merge a b) rest fits = two_law a b rest fits.0 fits.1
node_again (node.Operation piece number work lines) rest fits =
    let regrouped : node_text (node.Operation piece number work lines) ++ 10 ∷ rest ≡ codes " OP " ++ (decimal piece ++ 32 ∷ (decimal number ++ 32 ∷ (work_text work ++ (numbers_text lines.items ++ 10 ∷ rest)))) = simp append_assoc in
    ap node_at regrouped ∙ operation_again piece number work lines.items rest fits.0 fits.1 fits.2

node_no_digit : (node : Node) (rest : List ℕ) → digit_at (node_text node ++ 10 ∷ rest) ≡ None
unfolding digit_at
node_no_digit (node.Operation piece number work lines) rest = refl
node_no_digit (node.Switch a b) rest = refl
node_no_digit (node.Merge a b) rest = refl

pub node_line_again : (k : ℕ) (node : Node) (rest : List ℕ) → k < 2 ^ 32 → IsPrintableNode node → node_line_at k (node_line_text k node ++ rest) ≡ Some rest
unfolding node_line_at after_word
node_line_again k node rest few fits =
    let name = node_text node ++ 10 ∷ rest in
    let regrouped : node_line_text k node ++ rest ≡ 78 ∷ 32 ∷ (decimal k ++ name) = simp append_assoc in
    ap (node_line_at k) regrouped
    ∙ rw (after_number_again k name few (node_no_digit node rest), node_again node rest fits) refl

-- ---- values

minus_none : (n : ℕ) (rest : List ℕ) → n < 2 ^ 64 → after_word (codes "-") (decimal n ++ rest) ≡ None
minus_none n rest fits = no_word 45 [] (decimal n ++ rest) refl (number_begins n rest fits)

equals_none : (n : ℕ) (rest : List ℕ) → n < 2 ^ 64 → after_word (codes "=") (decimal n ++ rest) ≡ None
equals_none n rest fits = no_word 61 [] (decimal n ++ rest) refl (number_begins n rest fits)

negative_again : (n : ℕ) (rest : List ℕ) → n < 2 ^ 31 → digit_at rest ≡ None → after_signed (45 ∷ (decimal (suc n) ++ rest)) ≡ Some rest
unfolding after_signed after_word
negative_again n rest fits end =
    let short : suc n < 2 ^ 32 = omega arith in
    let some : ltb 0 (suc n) ≡ true = lt-ltb 0 (suc n) (omega arith) in
    let small : leb (suc n) (2 ^ 31) ≡ true = le-leb (suc n) (2 ^ 31) (omega arith) in
    rw (number_again (suc n) rest short end, some, small) refl

signed_again : (z : ℤ) (rest : List ℕ) → IsPrintableOperand (operand.Known z) → digit_at rest ≡ None → after_signed (signed_decimal z ++ rest) ≡ Some rest
unfolding after_signed
signed_again (pos n) rest fits end =
    let long : n < 2 ^ 64 = omega arith in
    let short : n < 2 ^ 32 = omega arith in
    let minus : after_word (codes "-") (decimal n ++ rest) ≡ None = minus_none n rest long in
    let small : ltb n (2 ^ 31) ≡ true = lt-ltb n (2 ^ 31) fits in
    rw (minus, number_again n rest short end, small) refl
signed_again (negsuc n) rest fits end = negative_again n rest fits end

operand_inner : Operand → List ℕ → List ℕ
operand_inner (operand.From n) rest = decimal n ++ rest
operand_inner (operand.Known z) rest = 61 ∷ (signed_decimal z ++ rest)

operand_begins : (operand : Operand) (rest : List ℕ) → after_word (codes " ") (operand_text operand ++ rest) ≡ Some (operand_inner operand rest)
unfolding after_word operand_inner
operand_begins (operand.From n) rest = refl
operand_begins (operand.Known z) rest = refl

operand_again : (operand : Operand) (rest : List ℕ) → IsPrintableOperand operand → digit_at rest ≡ None → operand_at (operand_inner operand rest) ≡ Some rest
unfolding operand_at after_word operand_inner
operand_again (operand.From n) rest fits end =
    ap (λ o. choose o after_signed (after_short (decimal n ++ rest))) (equals_none n rest (omega arith)) ∙ after_short_again n rest fits end
operand_again (operand.Known z) rest fits end = signed_again z rest fits end

operand_no_digit : (operand : Operand) (rest : List ℕ) → digit_at (operand_text operand ++ rest) ≡ None
unfolding digit_at
operand_no_digit (operand.From n) rest = refl
operand_no_digit (operand.Known z) rest = refl

operands_law : IsReadAgain (after_word (codes " ")) operand_at operand_text IsPrintableOperand NoDigit
operands_law = record {
  some = operand_some;
  front = λ x rest fits. operand_no_digit x rest;
  inner = operand_inner;
  begins = λ x rest fits end. operand_begins x rest;
  again = λ x rest fits end. operand_again x rest fits end;
}

operands_again : (operands : List Operand) (rest : List ℕ) → All IsPrintableOperand operands → after_operands (flat_map operand_text operands ++ 10 ∷ rest) ≡ Some (10 ∷ rest)
operands_again operands rest fits = parts_again (after_word (codes " ")) operand_at operand_text IsPrintableOperand NoDigit operands_law operands (10 ∷ rest) (length (flat_map operand_text operands ++ 10 ∷ rest)) fits (end_no_digit rest) (end_no_blank rest) (omega arith)

operands_no_digit : (operands : List Operand) (rest : List ℕ) → digit_at (flat_map operand_text operands ++ 10 ∷ rest) ≡ None
operands_no_digit [] rest = end_no_digit rest
operands_no_digit (x ∷ xs) rest = ap digit_at (append_assoc (operand_text x) (flat_map operand_text xs) (10 ∷ rest)) ∙ operand_no_digit x (flat_map operand_text xs ++ 10 ∷ rest)

value_inner : Value → List ℕ → List ℕ
value_inner value rest = decimal value.node ++ (flat_map operand_text value.operands.items ++ 10 ∷ rest)

value_begins : (value : Value) (rest : List ℕ) → after_word (codes "V ") (value_text value ++ rest) ≡ Some (value_inner value rest)
unfolding after_word value_inner
value_begins value rest =
    let regrouped : value_text value ++ rest ≡ 86 ∷ 32 ∷ (decimal value.node ++ (flat_map operand_text value.operands.items ++ 10 ∷ rest)) = simp append_assoc in
    ap (after_word (codes "V ")) regrouped

value_again : (value : Value) (rest : List ℕ) → IsPrintableValue value → value_at (value_inner value rest) ≡ Some rest
unfolding value_at after_word value_inner
value_again value rest fits =
    let operands = flat_map operand_text value.operands.items ++ 10 ∷ rest in
    rw (number_again value.node operands fits.node (operands_no_digit value.operands.items rest), operands_again value.operands.items rest fits.operands) refl

abbrev Anything : List ℕ → Type 0
Anything rest = Unit {0}

values_law : IsReadAgain (after_word (codes "V ")) value_at value_text IsPrintableValue Anything
values_law = record {
  some = value_some;
  front = λ x rest fits. tt;
  inner = value_inner;
  begins = λ x rest fits end. value_begins x rest;
  again = λ x rest fits end. value_again x rest fits;
}

values_again : (values : List Value) (rest : List ℕ) → All IsPrintableValue values → after_word (codes "V ") rest ≡ None → after_values (flat_map value_text values ++ rest) ≡ Some rest
values_again values rest fits none = parts_again (after_word (codes "V ")) value_at value_text IsPrintableValue Anything values_law values rest (length (flat_map value_text values ++ rest)) fits tt none (omega arith)

-- ---- wires

numbers_no_digit : (numbers rest : List ℕ) → digit_at (numbers_text numbers ++ 10 ∷ rest) ≡ None
unfolding digit_at
numbers_no_digit [] rest = refl
numbers_no_digit (n ∷ ns) rest = refl

wires_again : (k : ℕ) (wires : Wires) (rest : List ℕ) → k < 2 ^ 32 → IsPrintableWires wires → wires_at k (wires_text k wires ++ rest) ≡ Some rest
unfolding wires_at after_word
wires_again k wires rest few fits =
    let edges = numbers_text wires.edges.items ++ 10 ∷ rest in
    let regrouped : wires_text k wires ++ rest ≡ 87 ∷ 32 ∷ (decimal k ++ edges) = simp append_assoc in
    ap (wires_at k) regrouped
    ∙ rw (after_number_again k edges few (numbers_no_digit wires.edges.items rest), numbers_again wires.edges.items rest fits) refl

bypass_inner : Bypass → List ℕ → List ℕ
bypass_inner bypass rest = decimal bypass.line ++ 32 ∷ (decimal bypass.edge ++ 32 ∷ (decimal bypass.next ++ 10 ∷ rest))

bypass_begins : (bypass : Bypass) (rest : List ℕ) → after_word (codes "H ") (bypass_text bypass ++ rest) ≡ Some (bypass_inner bypass rest)
unfolding after_word bypass_inner
bypass_begins bypass rest =
    let regrouped : bypass_text bypass ++ rest ≡ 72 ∷ 32 ∷ (decimal bypass.line ++ 32 ∷ (decimal bypass.edge ++ 32 ∷ (decimal bypass.next ++ 10 ∷ rest))) = simp append_assoc in
    ap (after_word (codes "H ")) regrouped

bypass_again : (bypass : Bypass) (rest : List ℕ) → IsPrintableBypass bypass → bypass_at (bypass_inner bypass rest) ≡ Some rest
unfolding bypass_at after_word field_at bypass_inner
bypass_again bypass rest fits =
    let next = decimal bypass.next ++ 10 ∷ rest in
    rw (number_blank bypass.line (decimal bypass.edge ++ 32 ∷ next) fits.line, number_blank bypass.edge next fits.edge, number_end bypass.next rest fits.next) refl

bypasses_law : IsReadAgain (after_word (codes "H ")) bypass_at bypass_text IsPrintableBypass Anything
bypasses_law = record {
  some = bypass_some;
  front = λ x rest fits. tt;
  inner = bypass_inner;
  begins = λ x rest fits end. bypass_begins x rest;
  again = λ x rest fits end. bypass_again x rest fits;
}

bypasses_again : (bypasses : List Bypass) (rest : List ℕ) → All IsPrintableBypass bypasses → after_word (codes "H ") rest ≡ None → after_bypasses (flat_map bypass_text bypasses ++ rest) ≡ Some rest
bypasses_again bypasses rest fits none = parts_again (after_word (codes "H ")) bypass_at bypass_text IsPrintableBypass Anything bypasses_law bypasses rest (length (flat_map bypass_text bypasses ++ rest)) fits tt none (omega arith)

-- ---- the whole

size_again : (lines nodes : ℕ) (rest : List ℕ) → lines < 2 ^ 32 → nodes < 2 ^ 32 → size_at (size_text lines nodes ++ rest) ≡ Some (record { lines = lines; nodes = nodes }, rest)
unfolding size_at after_word
size_again lines nodes rest l n =
    let second = codes "NODES " ++ (decimal nodes ++ 10 ∷ rest) in
    let regrouped : size_text lines nodes ++ rest ≡ codes "LINES " ++ (decimal lines ++ 32 ∷ second) = simp append_assoc in
    ap size_at regrouped ∙ rw (number_blank lines second l, number_end nodes rest n) refl

-- neither wires nor bypasses begin as a value does
bypasses_no_value : (bypasses : List Bypass) (rest : List ℕ) → after_word (codes "V ") rest ≡ None → after_word (codes "V ") (flat_map bypass_text bypasses ++ rest) ≡ None
unfolding after_word
bypasses_no_value [] rest none = none
bypasses_no_value (x ∷ xs) rest none = refl

wires_no_value : (k : ℕ) (wires : List Wires) (rest : List ℕ) → after_word (codes "V ") rest ≡ None → after_word (codes "V ") (lines_from wires_text k wires ++ rest) ≡ None
unfolding after_word
wires_no_value k [] rest none = none
wires_no_value k (x ∷ xs) rest none = refl

pub graph_again : (graph : PrintedGraph) (rest : List ℕ) → IsPrintableGraph graph → after_word (codes "V ") rest ≡ None → after_word (codes "H ") rest ≡ None → graph_at (graph_text graph ++ rest) ≡ Some rest
unfolding graph_at
graph_again graph rest fits no_value no_bypass =
    let lines = graph.lines.items in
    let nodes = graph.nodes.items in
    let values = graph.values.items in
    let wires = graph.wires.items in
    let bypasses = graph.bypasses.items in
    let fifth = flat_map bypass_text bypasses ++ rest in
    let fourth = lines_from wires_text 0 wires ++ fifth in
    let third = flat_map value_text values ++ fourth in
    let second = lines_from node_line_text 0 nodes ++ third in
    let first = lines_from token_line_text 0 lines ++ second in
    let regrouped : graph_text graph ++ rest ≡ size_text (length lines) (length nodes) ++ first = simp append_assoc in
    let few_lines : 0 + length lines ≤ 2 ^ 32 = omega (arith, fits.few_lines) in
    let few_nodes : 0 + length nodes ≤ 2 ^ 32 = omega (arith, fits.few_nodes) in
    let few_wires : 0 + length wires ≤ 2 ^ 32 = omega (arith, fits.few_lines, fits.wired) in
    let wired : lines_at wires_at 0 (length lines) fourth ≡ Some fifth =
    ap (λ n. lines_at wires_at 0 n fourth) (sym fits.wired) ∙ lines_again wires_text wires_at (2 ^ 32) IsPrintableWires wires_again 0 wires fifth few_wires fits.wires in
    ap graph_at regrouped
    ∙ rw (
      size_again (length lines) (length nodes) first fits.few_lines fits.few_nodes,
      lines_again token_line_text token_line_at (2 ^ 32) IsPrintableLine token_line_again 0 lines second few_lines fits.lines,
      lines_again node_line_text node_line_at (2 ^ 32) IsPrintableNode node_line_again 0 nodes third few_nodes fits.nodes,
      values_again values fourth fits.values (wires_no_value 0 wires fifth (bypasses_no_value bypasses rest no_value)),
      wired,
    ) (bypasses_again bypasses rest fits.bypasses no_bypass)
