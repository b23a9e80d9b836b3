-- Writes of constants to words (ANSI X3.9-1978, section 9).
use Rattle.std.specs.Prelude.{ℕ, ℤ, List, [], ◌∷◌, zip, slice_set}
use Rattle.f77_tree.specs.declared.declarations.Lit.{Lit}
use Rattle.f77_tree.specs.declared.declarations.InitPart.{InitPart}
use Rattle.f77_tree.specs.declared.programs.NameInfo.{NameInfo}
use Rattle.f77_tree.specs.InitialWords.{lit_word, part_words, constants}

-- the words after each constant was written to its word, one after another
abbrev pub written : List ℤ → List (ℕ × Lit) → List ℤ
written words [] = words
written words (pair ∷ pairs) = written (slice_set words pair.0 (lit_word pair.1)) pairs

-- the words of a part of DATA, each with its constant
abbrev pub part_pairs : List NameInfo → InitPart → List (ℕ × Lit)
part_pairs names part = zip (part_words names part) (constants part)
