-- No array comes to the table of names with temporaries.
use Rattle.std.proofs.Common.{◌≡◌, ℕ, zero, suc, ◌+◌, Bool, true, false, cond, not, List, [], ◌∷◌, ◌++◌, length, All, Option, Some, None, refl, sym, ap, ◌∙◌, arith}
use Rattle.std.specs.Prelude.{nat_lt, bytes_eq, slice_get}
use Rattle.std.specs.List.{range_with_len}
use Rattle.f77_tree.specs.declared.declarations.Dim.{Dim}
use Rattle.f77_tree.specs.declared.expressions.Expr.{Expr}
use Rattle.f77_tree.specs.declared.programs.NameInfo.{NameInfo}
use Rattle.f77_tree.specs.declared.programs.Program.{Program}
use Rattle.f77_tree.specs.Declarations.{index_of}
use Rattle.f77_tree.specs.Value.{dims_of}
use Rattle.f77_tree.proofs.AllLemmas.{All-first, All-nil, All-rest}
use Rattle.layout_rules.specs.Types.{is_array_in}
use Rattle.redundancy.specs.Available.{Availability}
use Rattle.shared_forms.specs.Shared.{shared, temporaries, temporary_at, temporary_info, with_temporaries}
use Rattle.read_back.specs.PrintedArrays.{HasNoPrintedArrays}
use Rattle.rewritten_texts.proofs.FoldedDialects.{all-flat_map, all-one}
use Rattle.rewritten_texts.proofs.SimplifiedDialects.{Anything, anything}

abbrev IsScalar : NameInfo → Type 0
IsScalar info = info.dims ≡ []

-- the dimensions of a name with this index are none
abbrev is_array_at : List NameInfo → ℕ → Bool
is_array_at names k = nat_lt 0 (length (dims_of names k))

scalars-alone : (more : List NameInfo) (k : ℕ) → All IsScalar more → is_array_at more k ≡ false
scalars-alone [] k all = refl
scalars-alone (info ∷ more) zero all = ap (λ (dims : List Dim). nat_lt 0 (length dims)) (All-first IsScalar info more all)
scalars-alone (info ∷ more) (suc k) all = scalars-alone more k (All-rest IsScalar info more all)

after-first : (info : NameInfo) (names : List NameInfo) (k : ℕ) → is_array_at (info ∷ names) (1 + k) ≡ is_array_at names k
after-first info names k = let e : 1 + k ≡ suc k = omega arith in ap (is_array_at (info ∷ names)) e

found-by : (test : Bool) (info : NameInfo) (names others : List NameInfo) (i j : ℕ) → (is_array_at names i ≡ false → is_array_at others j ≡ false) → is_array_at (info ∷ names) (cond (not test) (1 + i) 0) ≡ false → is_array_at (info ∷ others) (cond (not test) (1 + j) 0) ≡ false
found-by true info names others i j rest is = is
found-by false info names others i j rest is = after-first info others j ∙ rest (sym (after-first info names i) ∙ is)

-- names of scalars after those of a table leave it without an array of a name
array-longer : (names more : List NameInfo) (name : List ℕ) → All IsScalar more → is_array_in names name ≡ false → is_array_in (names ++ more) name ≡ false
array-longer [] more name all is = scalars-alone more (index_of more name) all
array-longer (info ∷ names) more name all is = found-by (bytes_eq info.name name) info names (names ++ more) (index_of names name) (index_of (names ++ more) name) (array-longer names more name all) is

pub no-arrays : (names more : List NameInfo) → All IsScalar more → HasNoPrintedArrays names → HasNoPrintedArrays (names ++ more)
no-arrays names more all has = record {
  abs = array-longer names more _ all has.abs;
  mod_of = array-longer names more _ all has.mod_of;
  sign = array-longer names more _ all has.sign;
  max_of = array-longer names more _ all has.max_of;
  min_of = array-longer names more _ all has.min_of;
}

module _ (q : Program) (a : Availability) (number : Expr → Option ℕ) where
  one-scalar : (j : ℕ) (o : Option ℕ) → All IsScalar (temporary_at q a number j o)
  one-scalar j None = All-nil IsScalar
  one-scalar j (Some n) = all-one IsScalar (temporary_info q a number j n) refl

  temporaries-scalars : All IsScalar (temporaries q a number)
  temporaries-scalars =
      let places = range_with_len 0 (length (shared q a number)) in
      all-flat_map Anything IsScalar (λ j. temporary_at q a number j (slice_get (shared q a number) j)) places (λ j h. one-scalar j (slice_get (shared q a number) j)) (anything places)

  pub longer-arrays : HasNoPrintedArrays q.names → HasNoPrintedArrays (with_temporaries q a number).names
  longer-arrays has = no-arrays q.names (temporaries q a number) temporaries-scalars has
