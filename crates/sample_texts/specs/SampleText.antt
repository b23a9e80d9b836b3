-- The texts of sample programs, which grow with their number. Each has blocks of a DO that a jump leaves early for its end, and of an
-- IF, over three classes of words that all blocks share.
use Rattle.std.specs.Prelude.{ℕ, zero, suc, ◌+◌, ◌-◌, ◌*◌, ◌/◌, List, [], ◌∷◌, ◌++◌, length, replicate, codes, decimal}

-- ---- lines

-- a statement without a label stands from column 7 on
abbrev pub statement : List ℕ → List ℕ
statement text = codes "      " ++ text ++ 10 ∷ []

-- a label stands on the right of columns 1 to 5
abbrev pub labelled : (label : ℕ) → List ℕ → List ℕ
labelled label text = replicate (5 - length (decimal label)) 32 ++ decimal label ++ 32 ∷ text ++ 10 ∷ []

-- ---- blocks, which are numbered from 1

-- the labels in a block: where its DO ends, and where its IF leads
abbrev pub loop_label : (block : ℕ) → ℕ
loop_label block = 2 * block - 1

abbrev pub jump_label : (block : ℕ) → ℕ
jump_label block = 2 * block

abbrev pub loop_lines : (block label : ℕ) → List ℕ
loop_lines block label = statement (codes "J=" ++ decimal block) ++ statement (codes "DO " ++ decimal label ++ codes " I=1,4") ++ statement (codes "A(I)=A(I)+J") ++ statement (codes "IF(A(I).GT.B)GO TO " ++ decimal label) ++ statement (codes "C=C+B*J") ++ labelled label (codes "B=B+1")

abbrev pub jump_lines : (label : ℕ) → List ℕ
jump_lines label = statement (codes "K=C-J") ++ statement (codes "IF(K.LT.B)GO TO " ++ decimal label) ++ statement (codes "C=K-1") ++ labelled label (codes "A(1)=C")

abbrev pub block_lines : (block : ℕ) → List ℕ
block_lines block = loop_lines block (loop_label block) ++ jump_lines (jump_label block)

-- ---- texts

-- B shares its word with an element of A
abbrev pub first_lines : List ℕ
first_lines = statement (codes "INTEGER A(4),B,C") ++ statement (codes "EQUIVALENCE (A(2),B)")

abbrev pub last_lines : List ℕ
last_lines = statement (codes "PRINT *,B,C,J") ++ statement (codes "END")

-- one block for each twelve, and one for what is left over
abbrev pub block_count : (n : ℕ) → ℕ
block_count n = (n + 11) / 12

-- the blocks up to this number
abbrev pub blocks_to : (last : ℕ) → List ℕ
blocks_to zero = []
blocks_to (suc last) = blocks_to last ++ block_lines (suc last)

-- the text of the sample n; it is no abbreviation, so that no proof reads it byte for byte
unfoldable pub sample_text : (n : ℕ) → List ℕ
sample_text n = first_lines ++ blocks_to (block_count n) ++ last_lines
