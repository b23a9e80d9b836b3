-- Names that are found in the table.
use Rattle.std.proofs.Common.{◌≡◌, ℕ, suc, ◌+◌, ◌<◌, List, [], ◌∷◌, length, Bool, true, false, Option, Some, None, refl, ap, subst, arith}
use Rattle.std.specs.Prelude.{slice_get, bytes_eq, nat_eq, not, cond}
use Rattle.std.specs.Cmp.{unsigned_Decides}
use Rattle.f77_tree.specs.declared.programs.NameInfo.{NameInfo}
use Rattle.f77_tree.specs.Declarations.{index_of}
use Rattle.f77_tree.specs.Places.{same_block}
use Rattle.std.proofs.lemmas.Bool.{and_parts}

-- names that compare equal are one name
pub bytes_eq-same : (xs ys : List ℕ) → bytes_eq xs ys ≡ true → xs ≡ ys
bytes_eq-same [] [] h = refl
bytes_eq-same [] (y ∷ ys) h = absurd cc
bytes_eq-same (x ∷ xs) [] h = absurd cc
bytes_eq-same (x ∷ xs) (y ∷ ys) h =
    let parts = and_parts (nat_eq x y) (bytes_eq xs ys) h in
    let first : x ≡ y = (unsigned_Decides x y).0 parts.0 in
    let rest : xs ≡ ys = bytes_eq-same xs ys parts.1 in
    cc

-- blocks that compare equal are one block
pub same_block-same : (a b : Option (List ℕ)) → same_block a b ≡ true → a ≡ b
same_block-same None None h = refl
same_block-same None (Some b) h = absurd cc
same_block-same (Some a) None h = absurd cc
same_block-same (Some a) (Some b) h = ap Some (bytes_eq-same a b h)

abbrev name_in : Option NameInfo → List ℕ
name_in None = []
name_in (Some info) = info.name

found : (info : NameInfo) (names : List NameInfo) (name : List ℕ) (test : Bool) (rest : ℕ) → (test ≡ true → info.name ≡ name) → (rest < length names → name_in (slice_get names rest) ≡ name) →
    cond (not test) (1 + rest) 0 < suc (length names) → name_in (slice_get (info ∷ names) (cond (not test) (1 + rest) 0)) ≡ name
found info names name true rest same more lt = same refl
found info names name false rest same more lt =
    let next : suc rest ≡ 1 + rest = omega arith in
    subst (λ k. name_in (slice_get (info ∷ names) k) ≡ name) next (more (omega (arith, lt)))

-- the name that is found is the name that was looked for
pub index_of-name : (names : List NameInfo) (name : List ℕ) → index_of names name < length names → name_in (slice_get names (index_of names name)) ≡ name
index_of-name [] name lt = absurd (omega (arith, lt))
index_of-name (info ∷ names) name lt =
    found info names name (bytes_eq info.name name) (index_of names name) (bytes_eq-same info.name name) (index_of-name names name) lt
