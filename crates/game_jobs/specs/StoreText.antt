-- The text that tells a store: each name with its words.
use Rattle.std.specs.Prelude.{ℕ, ℤ, List, [], ◌∷◌, ◌++◌, flat_map, codes, if◌then◌else◌}
use Rattle.std.specs.Fmt.{decimal, signed_decimal}
use Rattle.op_table.specs.Words.{is_true}
use Rattle.f77_tree.specs.declared.declarations.Kind.{Kind}
use Rattle.f77_tree.specs.declared.declarations.Kind.TheVariants.{Integer, Logical}
use Rattle.f77_tree.specs.declared.programs.NameInfo.{NameInfo}
use Rattle.f77_tree.specs.Value.{word_at}
use Rattle.graph_texts.specs.NameWords.{words_of}

-- a word of an integer in decimal, and one of a logical as a truth
abbrev pub word_text : Kind → ℤ → List ℕ
word_text Integer z = signed_decimal z
word_text Logical z = if is_true z then codes "T" else codes "F"

-- a name with its words, in the order of their storage
abbrev pub name_line : (store : List ℤ) → NameInfo → List ℕ
name_line store info = info.name ++ flat_map (λ word. 32 ∷ word_text info.kind (word_at store word)) (words_of info) ++ 10 ∷ []

-- all names, in the order in which they first appear
abbrev pub store_text : List NameInfo → (store : List ℤ) → List ℕ
store_text names store = flat_map (name_line store) names

-- how many nodes fired
abbrev pub fired_line : (firings : ℕ) → List ℕ
fired_line firings = codes "FIRED " ++ decimal firings ++ 10 ∷ []
