-- The table of names as a map keeps it: where a name stands in it.
use Rattle.std.proofs.Common.{◌≡◌, ℕ, ◌+◌, Bool, true, false, not, ◌||◌, List, [], ◌∷◌, ◌++◌, length, map, Option, Some, None, refl, sym, ap, ◌∙◌, arith}
use Rattle.std.specs.Prelude.{bytes_eq, cond, position}
use Rattle.std.specs.Cmp.Lexicographic.{nat_list_eq_equiv}
use Rattle.std.specs.List.{position_or_len}
use Rattle.std.specs.Map.{keys_of}
use Rattle.std.proofs.lemmas.List.Sums.{prefix_len-le-length}
use Rattle.std.specs.List.{list_any}
use Rattle.std.specs.Option.{is_some}
use Rattle.std.specs.Map.{lookup}
use Rattle.f77_tree.specs.Declarations.{index_of}
use Rattle.symbol_table.specs.declared.names.Symbol.{Symbol}
use Rattle.symbol_table.specs.NameTable.{info_of}

pub bytes_eq-sym : (a b : List ℕ) → bytes_eq a b ≡ bytes_eq b a
bytes_eq-sym a b = nat_list_eq_equiv.symm a b

pub index-entries : (entries : List (List ℕ × Symbol)) (name : List ℕ) → index_of (map info_of entries) name ≡ position_or_len (bytes_eq name) (keys_of entries)
index-entries [] name = refl
index-entries (e ∷ entries) name =
    ap (λ same. cond (not same) (1 + index_of (map info_of entries) name) 0) (bytes_eq-sym e.0 name) ∙ ap (λ k. cond (not (bytes_eq name e.0)) (1 + k) 0) (index-entries entries name)

pub position-some : {X : Type 0} (test : X → Bool) (xs : List X) (k : ℕ) → Some k ≡ position test xs → k ≡ position_or_len test xs
position-some test xs k is = grind arith

pub position-none : {X : Type 0} (test : X → Bool) (xs : List X) → None ≡ position test xs → length xs ≡ position_or_len test xs
position-none test xs is = grind (arith, prefix_len-le-length (λ x. not (test x)) xs)

-- a name is in the table where it is a key
pub has-entries : (entries : List (List ℕ × Symbol)) (name : List ℕ) → list_any (λ info. bytes_eq name info.name) (map info_of entries) ≡ is_some (lookup (bytes_eq name) entries)
has-entries [] name = refl
has-entries (e ∷ entries) name =
    elim (bytes_eq name e.0) as (λ same. (same || list_any (λ info. bytes_eq name info.name) (map info_of entries)) ≡ is_some (cond same (Some e.1) (lookup (bytes_eq name) entries))) [ true ↦ refl | false ↦ has-entries entries name ]

-- an entry more is a name more
pub info-append : (entries : List (List ℕ × Symbol)) (e : List ℕ × Symbol) → map info_of (entries ++ e ∷ []) ≡ map info_of entries ++ info_of e ∷ []
info-append [] e = refl
info-append (x ∷ entries) e = ap (λ rest. info_of x ∷ rest) (info-append entries e)

pub absent-entries : (entries : List (List ℕ × Symbol)) (name : List ℕ) → list_any (λ info. bytes_eq name info.name) (map info_of entries) ≡ false → lookup (bytes_eq name) entries ≡ None
absent-entries entries name absent = none_from (lookup (bytes_eq name) entries) (sym (has-entries entries name) ∙ absent)
  where
    none_from : {X : Type 0} (o : Option X) → is_some o ≡ false → o ≡ None
    none_from None h = refl
    none_from (Some x) h = absurd cc
