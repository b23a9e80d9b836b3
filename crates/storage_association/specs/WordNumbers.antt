-- Words of storages: how far each storage reaches from its root, and the numbers of the words.
use Rattle.std.specs.Prelude.{◌≡◌, ℕ, ◌+◌, ◌<◌, ◌⊎◌, ℤ, pos, ◌+ℤ◌, ◌≤ℤ◌, List, length, map, nat_lt, if◌then◌else◌, Option, Some, None, get_or}
use Rattle.std.specs.List.{range_with_len}
use Rattle.f77_tree.specs.declared.programs.NameInfo.{NameInfo}
use Rattle.storage_association.specs.declared.forest.Node.{Node}
use Rattle.storage_association.specs.declared.word_numbers.Span.{Span}
use Rattle.storage_association.specs.declared.word_numbers.WordNumbers.{WordNumbers}
use Rattle.layout_rules.specs.Storage.{Spot, size_at, words_before, place_of, words_in_all, spots_by}
use Rattle.storage_association.specs.Trees.{IsRoot, IsForest}
use Rattle.layout_rules.specs.Spots.{storage_at, distance_at, IsBelow}
use Rattle.f77_tree.specs.Places.{Equation}
use Rattle.storage_association.specs.declared.storages.Storages.{Storages}
use Rattle.storage_association.specs.Storages.{AreStorages}

-- a name of the storage at this place
pub record IsReached (spots : List Spot) (root : ℕ) (place : ℤ) : Type 0 where
  pub name : ℕ
  pub known : name < length spots
  pub there : IsBelow spots name root place

-- a name of the storage ends at this place
pub record IsEnd (names : List NameInfo) (spots : List Spot) (root : ℕ) (place : ℤ) : Type 0 where
  pub name : ℕ
  pub known : name < length spots
  pub together : storage_at spots root ≡ storage_at spots name
  pub there : distance_at spots name +ℤ pos (size_at names name) ≡ distance_at spots root +ℤ place

-- the words of the names of the root's storage, of those that stand before name k, and of the root's first place
pub record IsSpan (names : List NameInfo) (spots : List Spot) (k root : ℕ) (span : Span) : Type 0 where
  pub low : span.low ≤ℤ pos 0
  pub high : pos 0 ≤ℤ span.high
  pub least : (y : ℕ) → y < k → storage_at spots root ≡ storage_at spots y → (distance_at spots root +ℤ span.low) ≤ℤ distance_at spots y
  pub greatest : (y : ℕ) → y < k → storage_at spots root ≡ storage_at spots y
      → (distance_at spots y +ℤ pos (size_at names y)) ≤ℤ (distance_at spots root +ℤ span.high)
  pub begins : IsReached spots root span.low
  pub ends : (span.high ≡ pos 0) ⊎ IsEnd names spots root span.high

abbrev pub no_span : Span
no_span = record { low = pos 0; high = pos 0 }

abbrev pub span_at : List Span → ℕ → Span
span_at spans x = get_or spans x no_span

abbrev pub AreSpans : List NameInfo → List Node → List Spot → (k : ℕ) → List Span → Type 0
AreSpans names nodes spots k spans = (x : ℕ) → x < length nodes → IsRoot nodes x → IsSpan names spots k x (span_at spans x)

-- where the words of a root's storage begin, once its lowest name stands before name k
abbrev pub base_by : List NameInfo → List Spot → (k root : ℕ) → Option ℕ
base_by names spots k root = if nat_lt (storage_at spots root) k then Some (words_before names spots (storage_at spots root)) else None

abbrev pub base_at : List (Option ℕ) → ℕ → Option ℕ
base_at bases x = get_or bases x None

-- where the words of a storage begin, and the first word after all so far: a storage that has no words yet begins there
abbrev pub begun : Option ℕ → (words size : ℕ) → ℕ × ℕ
begun (Some base) words size = (base, words)
begun None words size = (words, words + size)

-- the words of the names before name k are numbered
pub record AreNumbered (names : List NameInfo) (nodes : List Node) (spots : List Spot) (k words : ℕ)
    (places : List ℕ) (bases : List (Option ℕ)) : Type 0 where
  pub words_are : words ≡ words_before names spots k
  pub places_are : places ≡ map (place_of names spots) (range_with_len 0 k)
  pub bases_are : (x : ℕ) → x < length nodes → IsRoot nodes x → base_at bases x ≡ base_by names spots k x

-- the numbers of the first words of all names, and of all words
pub record AreNumbers (names : List NameInfo) (spots : List Spot) (w : WordNumbers) : Type 0 where
  pub places_are : w.places.items ≡ map (place_of names spots) (range_with_len 0 (length spots))
  pub words_are : w.words ≡ words_in_all names spots

-- how far the storages of all names reach, whatever places the trees stand for
abbrev pub AreSpansOf : List NameInfo → List Node → List Span → Type 0
AreSpansOf names nodes spans = (spots : List Spot) → IsForest nodes spots → AreSpans names nodes spots (length names) spans

-- the numbers of the words that the storages have
abbrev pub AreNumbersOf : List NameInfo → Storages → WordNumbers → Type 0
AreNumbersOf names storages w = (firsts : List ℕ) (all : List Equation)
    → AreStorages (length names) firsts all storages → AreNumbers names (spots_by (length names) all) w
