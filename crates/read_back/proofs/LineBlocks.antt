-- Lines that make statements without a fault: an initial line, and the continuation lines after it.
use Rattle.std.proofs.Common.{◌≡◌, ℕ, suc, ◌+◌, ◌<◌, ◌≤◌, Bool, true, false, cond, leb, eqb, List, [], ◌∷◌, ◌++◌, length, map, Option, None, refl, ap, ◌∙◌, arith}
use Rattle.std.specs.Prelude.{flat_map, codes}
use Rattle.std.specs.List.{filter}
use Rattle.std.specs.Option.{option_or}
use Rattle.std.proofs.lemmas.Bool.{lt-leb, ne_eqb}
use Rattle.fixed_form.specs.declared.form_end.FormEnd.{FormEnd}
use Rattle.fixed_form.specs.declared.raw_stmt.RawStmt.{RawStmt}
use Rattle.fixed_form.specs.Columns.{kind, is_blank, label_field, has_bad_label, has_bad_byte}
use Rattle.fixed_form.specs.SourceLine.{SourceLine, is_initial_kind, is_continuation_kind, is_statement_kind, is_initial_line, is_continuation_line, is_statement_line}
use Rattle.fixed_form.specs.Statement.{continuations, statement_of, statements_of}
use Rattle.fixed_form.specs.Fault.{initial_count, continuation_count, fault, first_fault}
use Rattle.std.proofs.lemmas.Grind.{elements}

-- cards of the two kinds of line that statements have
abbrev pub initial_card : List ℕ
initial_card = codes "      A"

abbrev pub continuation_card : List ℕ
continuation_card = codes "     &A"

-- a line that begins a statement, without a fault of its own
pub record IsInitial (line : SourceLine) : Type 0 where
  pub of_kind : kind line.card ≡ kind initial_card
  pub characters : has_bad_byte line.card ≡ false
  pub labelled : has_bad_label line.card ≡ false

-- a line that goes on with a statement, without a fault of its own
pub record IsContinuation (line : SourceLine) : Type 0 where
  pub of_kind : kind line.card ≡ kind continuation_card
  pub characters : has_bad_byte line.card ≡ false
  pub unlabelled : is_blank (label_field line.card) ≡ true

abbrev pub AreContinuations : List SourceLine → Type 0
AreContinuations [] = Unit {0}
AreContinuations (line ∷ lines) = IsContinuation line × AreContinuations lines

-- the lines of a statement
pub record Block : Type 0 where
  pub initial : SourceLine
  pub more : List SourceLine

pub record IsBlock (b : Block) : Type 0 where
  pub initial : IsInitial b.initial
  pub more : AreContinuations b.more
  pub few : length b.more ≤ 19

abbrev pub AreBlocks : List Block → Type 0
AreBlocks [] = Unit {0}
AreBlocks (b ∷ bs) = IsBlock b × AreBlocks bs

abbrev pub block_lines : Block → List SourceLine
block_lines b = b.initial ∷ b.more

abbrev pub all_lines : List Block → List SourceLine
all_lines bs = flat_map block_lines bs

abbrev pub block_statement : Block → RawStmt
block_statement b = statement_of b.initial b.more

-- ---- faults

none_of_three : (a b c : Bool) (x y z : Option FormEnd) → a ≡ false → b ≡ false → c ≡ false → cond a x (cond b y (cond c z None)) ≡ None
none_of_three h b c x y z p q r = cc

none_of_four : (a b c d : Bool) (w x y z : Option FormEnd) → a ≡ false → b ≡ false → c ≡ false → d ≡ false → cond a w (cond b x (cond c y (cond d z None))) ≡ None
none_of_four true b c d w x y z p q r s = absurd cc
none_of_four false b c d w x y z p q r s = none_of_three b c d x y z q r s

initial_fault : (above : List SourceLine) (line : SourceLine) → IsInitial line → initial_count above < 4000 → fault above line ≡ None
initial_fault above line is few = grind (arith, elements, none_of_three, leb, lt-leb)

continuation_fault : (above : List SourceLine) (line : SourceLine) → IsContinuation line → 0 < initial_count above → continuation_count above < 19 → fault above line ≡ None
continuation_fault above line is some few = grind (arith, elements, none_of_four, eqb, leb, ne_eqb, lt-leb)

-- ---- counts

initial_true : (line : SourceLine) → IsInitial line → is_initial_line line ≡ true
initial_true line is = ap is_initial_kind is.of_kind

initial_goes_on : (line : SourceLine) → IsInitial line → is_continuation_line line ≡ false
initial_goes_on line is = ap is_continuation_kind is.of_kind

initial_stands : (line : SourceLine) → IsInitial line → is_statement_line line ≡ true
initial_stands line is = ap is_statement_kind is.of_kind

goes_on_initial : (line : SourceLine) → IsContinuation line → is_initial_line line ≡ false
goes_on_initial line is = ap is_initial_kind is.of_kind

goes_on : (line : SourceLine) → IsContinuation line → is_continuation_line line ≡ true
goes_on line is = ap is_continuation_kind is.of_kind

goes_on_stands : (line : SourceLine) → IsContinuation line → is_statement_line line ≡ true
goes_on_stands line is = ap is_statement_kind is.of_kind

count_initial : (above : List SourceLine) (line : SourceLine) → IsInitial line → initial_count (line ∷ above) ≡ suc (initial_count above)
count_initial above line is = ap (λ (b : Bool). length (cond b (line ∷ filter is_initial_line above) (filter is_initial_line above))) (initial_true line is)

count_continuation : (above : List SourceLine) (line : SourceLine) → IsContinuation line → initial_count (line ∷ above) ≡ initial_count above
count_continuation above line is = ap (λ (b : Bool). length (cond b (line ∷ filter is_initial_line above) (filter is_initial_line above))) (goes_on_initial line is)

initial_none : (above : List SourceLine) (line : SourceLine) → IsInitial line → continuation_count (line ∷ above) ≡ 0
initial_none above line is = cc

continuation_more : (above : List SourceLine) (line : SourceLine) → IsContinuation line → continuation_count (line ∷ above) ≡ suc (continuation_count above)
continuation_more above line is = cc

-- ---- lines below others

-- lines, listed from the last one up, and these below them
abbrev onto : List SourceLine → List SourceLine → List SourceLine
onto above [] = above
onto above (line ∷ lines) = onto (line ∷ above) lines

onto_count : (above lines : List SourceLine) → AreContinuations lines → initial_count (onto above lines) ≡ initial_count above
onto_count above [] are = refl
onto_count above (line ∷ lines) are = onto_count (line ∷ above) lines are.1 ∙ count_continuation above line are.0

continued : (above lines rest : List SourceLine) → AreContinuations lines → 0 < initial_count above → continuation_count above + length lines ≤ 19 → first_fault above (lines ++ rest) ≡ first_fault (onto above lines) rest
continued above [] rest are some few = refl
continued above (line ∷ lines) rest are some few =
    grind (arith, count_continuation above line are.0, continuation_more above line are.0, continuation_fault above line are.0 some, continued (line ∷ above) lines rest are.1)

pub no_fault : (above : List SourceLine) (bs : List Block) → AreBlocks bs → initial_count above + length bs ≤ 4000 → first_fault above (all_lines bs) ≡ None
no_fault above [] are few = refl
no_fault above (b ∷ bs) are few =
    let is = are.0 in
    let begun = b.initial ∷ above in
    let count = count_initial above b.initial is.initial in
    let none = initial_none above b.initial is.initial in
    let short = is.few in
    let after = onto_count begun b.more is.more in
    ap (λ f. option_or f (first_fault begun (b.more ++ all_lines bs))) (initial_fault above b.initial is.initial (omega (arith, few)))
    ∙ continued begun b.more (all_lines bs) is.more (omega (arith, count)) (omega (arith, none, short))
    ∙ no_fault (onto begun b.more) bs are.1 (omega (arith, few, count, after))

-- ---- no comments

stand_more : (lines rest : List SourceLine) → AreContinuations lines → filter is_statement_line (lines ++ rest) ≡ lines ++ filter is_statement_line rest
stand_more [] rest are = refl
stand_more (line ∷ lines) rest are = grind (arith, goes_on_stands line are.0, stand_more lines rest are.1)

pub all_stand : (bs : List Block) → AreBlocks bs → filter is_statement_line (all_lines bs) ≡ all_lines bs
all_stand [] are = refl
all_stand (b ∷ bs) are = grind (arith, initial_stands b.initial are.0.initial, stand_more b.more (all_lines bs) are.0.more, all_stand bs are.1)

-- ---- statements

none_continued : (bs : List Block) → AreBlocks bs → continuations (all_lines bs) ≡ []
none_continued [] are = refl
none_continued (b ∷ bs) are = ap (λ (t : Bool). cond t (b.initial ∷ continuations (b.more ++ all_lines bs)) []) (initial_goes_on b.initial are.0.initial)

taken : (lines rest : List SourceLine) → AreContinuations lines → continuations rest ≡ [] → continuations (lines ++ rest) ≡ lines
taken [] rest are none = none
taken (line ∷ lines) rest are none = grind (arith, goes_on line are.0, taken lines rest are.1 none)

passed : (lines rest : List SourceLine) → AreContinuations lines → statements_of (lines ++ rest) ≡ statements_of rest
passed [] rest are = refl
passed (line ∷ lines) rest are = grind (arith, goes_on_initial line are.0, passed lines rest are.1)

pub block_statements : (bs : List Block) → AreBlocks bs → statements_of (all_lines bs) ≡ map block_statement bs
block_statements [] are = refl
block_statements (b ∷ bs) are =
    grind (arith, initial_true b.initial are.0.initial, taken b.more (all_lines bs) are.0.more (none_continued bs are.1), none_continued bs are.1, passed b.more (all_lines bs) are.0.more, block_statements bs are.1)
