-- Initial words: DATA gives values to words, and each other word begins at 0 (ANSI X3.9-1978, section 9).
use Rattle.std.specs.Prelude.{◌≡◌, ℕ, zero, suc, ◌+◌, ◌<◌, ◌≤◌, ℤ, pos, nat_abs, ◌==◌, List, [], ◌∷◌, map, length, replicate, All, flat_map, zip, find, Option, Some, None, slice_get}
use Rattle.op_table.specs.Words.{truth}
use Rattle.f77_tree.specs.declared.declarations.Kind.{Kind}
use Rattle.f77_tree.specs.declared.declarations.Kind.TheVariants.{Integer, Logical}
use Rattle.f77_tree.specs.declared.declarations.Lit.{Lit}
use Rattle.f77_tree.specs.declared.declarations.Lit.TheVariants.{Int, Truth}
use Rattle.f77_tree.specs.declared.declarations.Member.{Member}
use Rattle.f77_tree.specs.declared.declarations.InitValue.{InitValue}
use Rattle.f77_tree.specs.declared.declarations.InitPart.{InitPart}
use Rattle.f77_tree.specs.declared.programs.NameInfo.{NameInfo}
use Rattle.f77_tree.specs.Value.{kind_of, dims_of, place_of, size_of}
use Rattle.f77_tree.specs.Declarations.{CanBeWritten, IsMember, member_index, offset_of}

-- ---- values

-- the kind of a constant
abbrev pub lit_kind : Lit → Kind
lit_kind (Int z) = Integer
lit_kind (Truth b) = Logical

-- a constant as a word: a truth is 1 or 0
abbrev pub lit_word : Lit → ℤ
lit_word (Int z) = z
lit_word (Truth b) = truth b

-- a constant that a source can write
abbrev pub IsLit : Lit → Type 0
IsLit (Int z) = CanBeWritten z
IsLit (Truth b) = Unit {0}

-- a constant, at least once
pub record IsInitValue (value : InitValue) : Type 0 where
  pub repeated : 1 ≤ value.times
  pub constant : IsLit value.value

-- the constants of a part, each as often as it stands there
abbrev pub constants : InitPart → List Lit
constants part = flat_map (λ value. replicate value.times value.value) part.values

-- ---- words

-- n words from the first one on
abbrev pub words_from : ℕ → ℕ → List ℕ
words_from first zero = []
words_from first (suc n) = first ∷ words_from (suc first) n

-- all words of a name
abbrev pub words_of : List NameInfo → ℕ → List ℕ
words_of names k = words_from (place_of names k) (nat_abs (size_of (dims_of names k)))

-- the word of a name's element with these subscripts
abbrev pub element_word : List NameInfo → ℕ → List ℤ → ℕ
element_word names k subs = place_of names k + nat_abs (offset_of (dims_of names k) subs)

-- the words of a name with these subscripts: without any the name stands for all its elements
abbrev pub words_at : List NameInfo → ℕ → List ℤ → List ℕ
words_at names k [] = words_of names k
words_at names k (sub ∷ subs) = element_word names k (sub ∷ subs) ∷ []

-- the words of an item
abbrev pub item_words : List NameInfo → Member → List ℕ
item_words names item = words_at names (member_index names item) item.subs

-- the kind of an item, once for each of its words
abbrev pub item_kinds : List NameInfo → Member → List Kind
item_kinds names item = map (λ word. kind_of names (member_index names item)) (item_words names item)

-- the words of a part, in order
abbrev pub part_words : List NameInfo → InitPart → List ℕ
part_words names part = flat_map (item_words names) part.items

abbrev pub part_kinds : List NameInfo → InitPart → List Kind
part_kinds names part = flat_map (item_kinds names) part.items

-- items, and as many constants as they have words, each of the kind of its word
pub record IsInitPart (names : List NameInfo) (part : InitPart) : Type 0 where
  pub some_items : 0 < length part.items
  pub some_values : 0 < length part.values
  pub members : All (IsMember names) part.items
  pub written : All IsInitValue part.values
  pub kinds : part_kinds names part ≡ map lit_kind (constants part)

-- the words that DATA gives values to
abbrev pub given_words : List NameInfo → List InitPart → List ℕ
given_words names inits = flat_map (part_words names) inits

-- the constants of all parts
abbrev pub given_constants : List InitPart → List Lit
given_constants inits = flat_map constants inits

-- no word is given a value twice
abbrev pub GivenOnce : List NameInfo → List InitPart → Type 0
GivenOnce names inits = (j k word : ℕ) → slice_get (given_words names inits) j ≡ Some word → slice_get (given_words names inits) k ≡ Some word → j ≡ k

-- ---- initial words

-- the words that DATA gives values to, each with its constant
abbrev pub given : List NameInfo → List InitPart → List (ℕ × Lit)
given names inits = zip (given_words names inits) (given_constants inits)

abbrev pub word_of_pair : Option (ℕ × Lit) → ℤ
word_of_pair None = pos 0
word_of_pair (Some pair) = lit_word pair.1

-- what a word begins as: the constant beside it, or else 0
abbrev pub initial_word : List NameInfo → List InitPart → ℕ → ℤ
initial_word names inits word = word_of_pair (find (λ pair. pair.0 == word) (given names inits))

-- each word begins as DATA says
abbrev pub AreInitial : List NameInfo → List InitPart → List ℤ → Type 0
AreInitial names inits initial = (word : ℕ) → word < length initial → slice_get initial word ≡ Some (initial_word names inits word)
