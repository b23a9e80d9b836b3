-- A repeat in a DATA statement that isn't too long is no greater than the greatest constant: each item of the statement takes some of
-- its characters, and has at most as many words as an array may have.
use Rattle.std.proofs.Common.{◌≡◌, ℕ, zero, suc, ◌*◌, ◌≤◌, ℤ, pos, nat_abs, true, List, [], ◌∷◌, ◌++◌, length, map, replicate, refl, ap, arith, length-append}
use Rattle.std.specs.Prelude.{flat_map, All, codes}
use Rattle.std.proofs.lemmas.Int.{ints}
use Rattle.std.proofs.lemmas.List.{length-map, length-replicate}
use Rattle.f77_tree.specs.declared.declarations.Dim.{Dim}
use Rattle.f77_tree.specs.declared.declarations.InitPart.{InitPart}
use Rattle.f77_tree.specs.declared.declarations.InitValue.{InitValue}
use Rattle.f77_tree.specs.declared.declarations.Lit.{Lit}
use Rattle.f77_tree.specs.declared.declarations.Member.{Member}
use Rattle.f77_tree.specs.declared.programs.NameInfo.{NameInfo}
use Rattle.f77_tree.specs.Declarations.{AreDims, IsNameInfo}
use Rattle.f77_tree.specs.Grammar.{greatest_constant}
use Rattle.f77_tree.specs.InitialWords.{IsInitPart, words_from, words_at, item_kinds, constants, lit_kind}
use Rattle.f77_tree.specs.StatementGrammar.{member_text, with_commas, bracketed_list, signed_text}
use Rattle.f77_tree.specs.Value.{dims_of, place_of, size_of}
use Rattle.f77_tree.specs.Name.{is_name}
use Rattle.f77_tree.proofs.AllLemmas.{All-first, All-rest}
use Rattle.f77_tree.proofs.Places.{count_of, count-is}
use Rattle.flat_programs.specs.Declarations.{signed, written_member, init_statement}
use Rattle.flat_programs.specs.Typeset.{typeset}
use Rattle.read_back.proofs.PlainTexts.{name_parts}
use Rattle.std.proofs.lemmas.Grind.{elements}

-- ---- words of items

words_count : (first n : ℕ) → length (words_from first n) ≡ n
words_count first zero = refl
words_count first (suc n) = ap suc (words_count (suc first) n)

dims_count : (dims : List Dim) → AreDims dims → nat_abs (size_of dims) ≤ 262144
dims_count dims are = grind (arith, pos (count_of dims), count_of dims, count-is dims, pos, count_of, ints, nat_abs)

name_count : (names : List NameInfo) (k : ℕ) → All IsNameInfo names → nat_abs (size_of (dims_of names k)) ≤ 262144
name_count [] k table = omega arith
name_count (info ∷ names) zero table = dims_count info.dims (All-first IsNameInfo info names table).dimensions
name_count (info ∷ names) (suc k) table = name_count names k (All-rest IsNameInfo info names table)

words_most : (names : List NameInfo) (k : ℕ) (subs : List ℤ) → All IsNameInfo names → length (words_at names k subs) ≤ 262144
words_most names k [] table =
    grind (arith, words_count (place_of names k) (nat_abs (size_of (dims_of names k))), nat_abs (size_of (dims_of names k)), name_count names k table)
words_most names k (sub ∷ subs) table = omega arith

kinds_most : (names : List NameInfo) (items : List Member) → All IsNameInfo names → length (flat_map (item_kinds names) items) ≤ 262144 * length items
kinds_most names [] table = omega arith
kinds_most names (item ∷ items) table = grind (arith, elements, words_most, kinds_most names items table)

-- ---- repeats

abbrev repeated : InitValue → List Lit
repeated v = replicate v.times v.value

abbrev IsAtMost : ℕ → InitValue → Type 0
IsAtMost n v = v.times ≤ n

repeats_most : (vs : List InitValue) (n : ℕ) → length (flat_map repeated vs) ≤ n → All (IsAtMost n) vs
repeats_most [] n le k d lt = absurd (omega (arith, lt))
repeats_most (v ∷ vs) n le zero d lt = grind (arith, length-replicate v.times v.value, length-append (repeated v) (flat_map repeated vs))
repeats_most (v ∷ vs) n le (suc k) d lt = grind (arith, length-append (repeated v) (flat_map repeated vs), repeats_most vs n)

-- ---- characters

abbrev texts : List Member → List (List ℕ)
texts items = map member_text (map written_member items)

name_some : (m : Member) → is_name m.name ≡ true → 1 ≤ length (member_text (written_member m))
name_some m is = grind (arith, name_parts m.name is, length-append m.name (bracketed_list (map signed_text (map signed m.subs))))

items_few : (items : List Member) → All (λ (m : Member). is_name m.name ≡ true) items → length items ≤ length (with_commas (texts items))
items_few [] all = omega arith
items_few (m ∷ []) all = name_some m (All-first (λ (n : Member). is_name n.name ≡ true) m [] all)
items_few (m ∷ next ∷ more) all =
    let text = member_text (written_member m) in
    let rest = items_few (next ∷ more) (All-rest (λ (n : Member). is_name n.name ≡ true) m (next ∷ more) all) in
    let some = name_some m (All-first (λ (n : Member). is_name n.name ≡ true) m (next ∷ more) all) in
    omega (arith, rest, some, length-append (text ++ codes ",") (with_commas (texts (next ∷ more))), length-append text (codes ","))

pub repeats_few : (names : List NameInfo) (part : InitPart) → All IsNameInfo names → IsInitPart names part → All (λ (m : Member). is_name m.name ≡ true) part.items → length (typeset (init_statement part)) ≤ 1320 → All (λ (v : InitValue). v.times ≤ greatest_constant) part.values
repeats_few names part table is symbolic short =
    grind (arith, items_few, length-append, length-append (codes "DATA "), kinds_most names, length-map (constants part) lit_kind, repeats_most)
