-- Alias classes: words of storage that the same names cover form one, and so do the count and the step of each DO.
use Rattle.std.specs.Prelude.{◌≡◌, ◌≢◌, ℕ, suc, ◌+◌, ◌<◌, ◌≤◌, ◌↔◌, ◌⊎◌, List, length, slice_index}
use Rattle.f77_tree.specs.declared.programs.NameInfo.{NameInfo}
use Rattle.f77_tree.specs.declared.programs.Program.{Program}
use Rattle.f77_tree.specs.Places.{IsWordOf}

-- the classes of a program: its names, the number of the class of each word, how many classes of words there are, and how
-- many DOs
pub record ClassTable : Type 0 where
  pub names : List NameInfo
  pub numbers : List ℕ
  pub word_classes : ℕ
  pub loops : ℕ

-- the class of a word; 0 is none
abbrev pub class_of_word : ClassTable → ℕ → ℕ
class_of_word t word = slice_index t.numbers word

-- the class of the count and the step of a DO
abbrev pub class_of_loop : ClassTable → ℕ → ℕ
class_of_loop t n = t.word_classes + 1 + n

-- how many classes there are, which is the greatest number of one
abbrev pub class_count : ClassTable → ℕ
class_count t = t.word_classes + t.loops

-- ---- the walk through the names in the order of the table, and through the words of each in their order

-- `covers k w` says that w is one of the words of the name k
module _ (covers : ℕ → ℕ → Type 0) where
  -- the word v is met before the walk comes to the word w of the name k
  pub record IsMet (k w v : ℕ) : Type 0 where
    pub name : ℕ
    pub has : covers name v
    pub before : (name < k) ⊎ ((name ≡ k) × (v < w))

  -- the least number above those of the words that are met before; the first one is 1
  pub record IsNextNumber (numbers : List ℕ) (k w n : ℕ) : Type 0 where
    pub above : (v : ℕ) → IsMet k w v → slice_index numbers v < n
    pub least : (n ≡ 1) ⊎ ((v : ℕ) × IsMet k w v × (suc (slice_index numbers v) ≡ n))

  -- the same names cover two words
  abbrev pub SameNames : ℕ → ℕ → Type 0
  SameNames v w = (k : ℕ) → covers k v ↔ covers k w

  -- One number for each word: the same for two words exactly where the same names cover them. A word of whose class the walk
  -- has met none has the least number above those that it has met, so that the classes are numbered from 1 in the order in
  -- which the walk meets them. A word that no name covers has the number 0.
  pub record IsNumbering (words : ℕ) (numbers : List ℕ) (count : ℕ) : Type 0 where
    pub each : length numbers ≡ words
    pub same : (v w : ℕ) → v < words → w < words → (slice_index numbers v ≡ slice_index numbers w) ↔ SameNames v w
    pub first : (k w : ℕ) → covers k w → ((v : ℕ) → IsMet k w v → slice_index numbers v ≢ slice_index numbers w) → IsNextNumber numbers k w (slice_index numbers w)
    pub bare : (w : ℕ) → ((k : ℕ) → covers k w → ⊥) → slice_index numbers w ≡ 0
    pub some : (k w : ℕ) → covers k w → 1 ≤ slice_index numbers w
    pub most : (w : ℕ) → slice_index numbers w ≤ count
    pub reached : (count ≡ 0) ⊎ ((w : ℕ) × (slice_index numbers w ≡ count))

-- ---- programs

-- these are the classes of a program
pub record IsClasses (p : Program) (t : ClassTable) : Type 0 where
  pub names : t.names ≡ p.names
  pub numbering : IsNumbering (IsWordOf p.names) p.words t.numbers t.word_classes
  pub loops : t.loops ≡ p.loops
