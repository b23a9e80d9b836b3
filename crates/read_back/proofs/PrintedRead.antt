-- Printed statements are read from their lines.
use Rattle.std.proofs.Common.{◌≡◌, ◌==◌, ℕ, zero, suc, ◌+◌, ◌-◌, ◌<◌, ◌≤◌, Bool, true, cond, List, [], ◌∷◌, ◌++◌, length, map, Option, None, Ok, refl, sym, ap, ◌∙◌, arith}
use Rattle.std.specs.Prelude.{flat_map, codes}
use Rattle.std.specs.List.{list_all, range_with_len, All}
use Rattle.std.proofs.Math.Dec.{eqb-suc-zero}
use Rattle.std.proofs.lemmas.Bool.{and_from, not-true}
use Rattle.std.proofs.lemmas.List.Concat.{flat_map-append}
use Rattle.std.proofs.lemmas.List.Folds.{list_all-append}
use Rattle.fixed_form.specs.declared.raw_stmt.RawStmt.{RawStmt}
use Rattle.fixed_form.specs.declared.form_end.FormEnd.{FormEnd}
use Rattle.fixed_form.specs.Columns.{is_character}
use Rattle.fixed_form.specs.SourceLine.{numbered_from}
use Rattle.fixed_form.specs.Statement.{ends_with_end, text}
use Rattle.fixed_form.specs.Reading.{outcome, reading}
use Rattle.flat_programs.specs.Lines.{Typeset, digits_of_label, right_justified, line_count, line_of, lines_of}
use Rattle.read_back.specs.ReadLines.{CanStand, begins_visibly, read_from}
use Rattle.read_back.proofs.LabelColumns.{columns_of, tells_label}
use Rattle.read_back.proofs.LineBlocks.{Block, IsBlock, AreBlocks, all_lines, block_lines, block_statement, no_fault, all_stand, block_statements}
use Rattle.read_back.proofs.PrintedBlocks.{piece, next_line, next_lines, statement_lines, block_of, block_fine, block_reads, all_dropped}
use Rattle.read_back.proofs.PrintedCards.{all_taken}
use Rattle.read_back.proofs.PrintedSource.{ended, AreLines, both_lines, lines_again, numbered-append}

-- ---- one statement

-- how many lines go on with it
abbrev continued : List ℕ → ℕ
continued xs = line_count xs - 1

abbrev raw_lines : Typeset → List (List ℕ)
raw_lines t = statement_lines (columns_of t.label) t.text (continued t.text)

counted : (xs : List ℕ) → 0 < length xs → line_count xs ≡ suc (continued xs)
counted xs some = omega (arith, some)

visible_some : (xs : List ℕ) → begins_visibly xs ≡ true → 0 < length xs
visible_some [] h = absurd cc
visible_some (c ∷ xs) h = omega arith

line_later : (t : Typeset) (k : ℕ) → line_of t (suc k) ≡ ended (next_line t.text (suc k))
line_later t k = ap (λ (b : Bool). cond b (right_justified (digits_of_label t.label) ++ codes " ") (codes "     &") ++ piece t.text (suc k) ++ 10 ∷ []) (eqb-suc-zero k)

lines_later : (t : Typeset) (k n : ℕ) → flat_map (line_of t) (range_with_len (suc k) n) ≡ flat_map ended (next_lines t.text (suc k) n)
lines_later t k zero = refl
lines_later t k (suc n) =
    grind (arith, line_later t k, ended (next_line t.text (suc k)), next_line t.text (suc k), lines_later t (suc k) n, ended, next_lines t.text)

as_lines : (t : Typeset) → 0 < length t.text → lines_of t ≡ flat_map ended (raw_lines t)
as_lines t some = grind (arith, counted t.text some, lines_later t 0 (continued t.text))

later_lines : (xs : List ℕ) (k n : ℕ) → list_all is_character xs ≡ true → AreLines (next_lines xs k n)
later_lines xs k zero all = tt
later_lines xs k (suc n) all = search (all_taken, all_dropped, later_lines xs (k + 1) n all, arith)

are_lines : (t : Typeset) → CanStand t → AreLines (raw_lines t)
are_lines t can =
    grind (arith, columns_of t.label, tells_label t.label can.label, list_all-append is_character, and_from, all_taken is_character 66 t.text can.characters, later_lines t.text 1 (continued t.text) can.characters)

raw_count : (t : Typeset) → 0 < length t.text → length (raw_lines t) ≡ line_count t.text
raw_count t some = ap suc (raw_next 1 (continued t.text)) ∙ sym (counted t.text some)
  where
    raw_next : (k n : ℕ) → length (next_lines t.text k n) ≡ n
    raw_next k zero = refl
    raw_next k (suc n) = ap suc (raw_next (k + 1) n)

abbrev block_at : ℕ → Typeset → Block
block_at line t = block_of (columns_of t.label) t.text line (continued t.text)

fine : (line : ℕ) (t : Typeset) (xs : List ℕ) → CanStand t → t.text ≡ xs → IsBlock (block_at line t)
fine line t [] can is = cc
fine line t (c ∷ xs) can is =
    grind (arith, block_of (columns_of t.label), columns_of t.label, block_fine t.label (columns_of t.label) c xs line (continued (c ∷ xs)) (tells_label t.label can.label), tells_label t.label can.label, not-true (c == 32))

reads : (line : ℕ) (t : Typeset) → CanStand t → block_statement (block_at line t) ≡ record { label = t.label; line = line; text = text t.text }
reads line t can =
    grind (arith, visible_some t.text can.begins, block_reads t.label (columns_of t.label) t.text line (continued t.text) (tells_label t.label can.label), columns_of t.label, tells_label t.label can.label)

-- ---- all statements

abbrev AllStand : List Typeset → Type 0
AllStand [] = Unit {0}
AllStand (t ∷ ts) = CanStand t × AllStand ts

all_stand_from : (ts : List Typeset) → All CanStand ts → AllStand ts
all_stand_from [] can = tt
all_stand_from (t ∷ ts) can =
    let first : CanStand t = can 0 t (omega arith) in
    let rest : All CanStand ts = λ k d lt. can (suc k) d (omega (arith, lt)) in
    (first, all_stand_from ts rest)

abbrev all_raw : List Typeset → List (List ℕ)
all_raw ts = flat_map raw_lines ts

abbrev blocks_from : ℕ → List Typeset → List Block
blocks_from line [] = []
blocks_from line (t ∷ ts) = block_at line t ∷ blocks_from (line + line_count t.text) ts

all_are_lines : (ts : List Typeset) → AllStand ts → AreLines (all_raw ts)
all_are_lines [] can = tt
all_are_lines (t ∷ ts) can = both_lines (raw_lines t) (all_raw ts) (are_lines t can.0) (all_are_lines ts can.1)

all_as_lines : (ts : List Typeset) → AllStand ts → flat_map lines_of ts ≡ flat_map ended (all_raw ts)
all_as_lines [] can = refl
all_as_lines (t ∷ ts) can =
    grind (arith, as_lines t (visible_some t.text can.0.begins), visible_some t.text can.0.begins, ended, all_as_lines ts can.1, flat_map-append ended (raw_lines t) (all_raw ts))

all_numbered : (line : ℕ) (ts : List Typeset) → AllStand ts → numbered_from line (all_raw ts) ≡ all_lines (blocks_from line ts)
all_numbered line [] can = refl
all_numbered line (t ∷ ts) can =
    grind (arith, numbered-append line (raw_lines t) (all_raw ts), raw_count t (visible_some t.text can.0.begins), visible_some t.text can.0.begins, block_lines (block_at line t), all_numbered (line + line_count t.text) ts can.1)

are_blocks : (line : ℕ) (ts : List Typeset) → AllStand ts → AreBlocks (blocks_from line ts)
are_blocks line [] can = tt
are_blocks line (t ∷ ts) can = (fine line t t.text can.0 refl, are_blocks (line + line_count t.text) ts can.1)

block_count : (line : ℕ) (ts : List Typeset) → length (blocks_from line ts) ≡ length ts
block_count line [] = refl
block_count line (t ∷ ts) = ap suc (block_count (line + line_count t.text) ts)

all_read : (line : ℕ) (ts : List Typeset) → AllStand ts → map block_statement (blocks_from line ts) ≡ read_from line ts
all_read line [] can = refl
all_read line (t ∷ ts) can = grind (arith, block_statement, reads line t can.0, all_read (line + line_count t.text) ts can.1)

-- what a text without fault is
no_fault_reads : (faults : Option FormEnd) (statements read : List RawStmt) (n : ℕ) → faults ≡ None → statements ≡ read → ends_with_end read ≡ true → outcome faults statements n ≡ Ok read
no_fault_reads faults statements read n none is end = cc

pub printed_read : (ts : List Typeset) → length ts ≤ 4000 → All CanStand ts → ends_with_end (read_from 1 ts) ≡ true → reading (flat_map lines_of ts) ≡ Ok (read_from 1 ts)
printed_read ts few each end =
    grind (arith, all_stand_from ts each, are_blocks 1 ts, all_lines, all_as_lines ts, lines_again (all_raw ts), all_are_lines ts, all_numbered 1 ts, block_count 1 ts, no_fault_reads, no_fault, all_stand, block_statements, all_read 1 ts)
