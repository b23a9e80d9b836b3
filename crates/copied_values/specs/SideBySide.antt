-- Two memories side by side: words of one are words of the other, and executables do alike.
use Rattle.std.specs.Prelude.{◌≡◌, ℕ, ◌+◌, ◌<◌, ◌⊎◌, Bool, true, pos, ◌<ℤ◌, List, length, Contains, slice_index}
use Rattle.f77_tree.specs.declared.programs.NameInfo.{NameInfo}
use Rattle.f77_tree.specs.Declarations.{index_of}
use Rattle.f77_tree.specs.Execution.{Memory, Outcome, Goes, Stops, Ends}
use Rattle.f77_tree.specs.Value.{ArePlaced, place_of, size_of, word_at}
use Rattle.layout_rules.specs.Types.{dims_named}
use Rattle.copied_values.specs.ChangedTables.{AreChangedTables, AreKnown}
use Rattle.program_units.specs.Copies.{Change}

-- which numbers are paired, by a test
abbrev pub Are : (ℕ → ℕ → Bool) → (ℕ → ℕ → Type 0)
Are pairs v w = pairs v w ≡ true

-- each with one other
pub record IsPairing (R : ℕ → ℕ → Type 0) : Type 0 where
  pub there : (v w x y : ℕ) → R v w → R x y → v ≡ x → w ≡ y
  pub back : (v w x y : ℕ) → R v w → R x y → w ≡ y → v ≡ x

-- these pairs, and one more
abbrev pub with_pair : (ℕ → ℕ → Type 0) → (v w : ℕ) → (ℕ → ℕ → Type 0)
with_pair R v w x y = R x y ⊎ ((x ≡ v) × (y ≡ w))

-- The memories hold the same: at these words, for these DOs, and as much data is taken.
pub record HoldAlike (R L : ℕ → ℕ → Type 0) (m n : Memory) : Type 0 where
  pub store : (v w : ℕ) → R v w → word_at m.store v ≡ word_at n.store w
  pub counts : (i j : ℕ) → L i j → slice_index m.counts i ≡ slice_index n.counts j
  pub steps : (i j : ℕ) → L i j → word_at m.steps i ≡ word_at n.steps j
  pub taken : m.taken ≡ n.taken

-- there is room for paired words and DOs in both
pub record HaveRoom (R D : ℕ → ℕ → Type 0) (m n : Memory) : Type 0 where
  pub words : (v w : ℕ) → R v w → (v < length m.store) × (w < length n.store)
  pub counts : (i j : ℕ) → D i j → (i < length m.counts) × (j < length n.counts)
  pub steps : (i j : ℕ) → D i j → (i < length m.steps) × (j < length n.steps)

-- the words of these names are paired with those of their new names
abbrev pub ArePaired : (R : ℕ → ℕ → Type 0) → (names others : List NameInfo) → Change → List (List ℕ) → Type 0
ArePaired R names others c xs = (x : List ℕ) → Contains xs x → (offset : ℕ) → pos offset <ℤ size_of (dims_named names x) → R (place_of names (index_of names x) + offset) (place_of others (index_of others (c.name x)) + offset)

-- these names are known in the other table, and their words are paired
pub record AreTied (R : ℕ → ℕ → Type 0) (names others : List NameInfo) (c : Change) (xs : List (List ℕ)) : Type 0 where
  pub known : AreKnown names others c xs
  pub paired : ArePaired R names others c xs

-- The table and the memory of a unit, and those of the list. Of the DOs that are paired some hold the same counts and steps.
pub record AreSideBySide (R L D : ℕ → ℕ → Type 0) (names others : List NameInfo) (c : Change) (m n : Memory) : Type 0 where
  pub tables : AreChangedTables names others c
  pub words : ℕ
  pub placed : ArePlaced names words
  pub other_words : ℕ
  pub other_placed : ArePlaced others other_words
  pub words_paired : IsPairing R
  pub loops_paired : IsPairing D
  pub of_loops : (i j : ℕ) → L i j → D i j
  pub room : HaveRoom R D m n
  pub alike : HoldAlike R L m n

-- Control goes on to paired executables after the same text, with memories that hold the same; or there is one trap; or both
-- runs end.
abbrev pub GoAlike : (R L N : ℕ → ℕ → Type 0) → Outcome → Outcome → Type 0
GoAlike R L N (Goes next m text) (Goes next' n text') = N next next' × (text ≡ text') × HoldAlike R L m n
GoAlike R L N (Stops trap) (Stops trap') = trap ≡ trap'
GoAlike R L N Ends Ends = Unit {0}
GoAlike R L N _ _ = ⊥
