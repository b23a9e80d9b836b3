-- Changed expressions of a unit that is a program by itself: they are trees, and their names are symbolic where the new ones are.
use Rattle.std.proofs.Common.{◌≡◌, ℕ, ◌||◌, ◌&&◌, ◌==◌, Bool, true, false, not, if◌then◌else◌, List, [], ◌∷◌, length, flat_map, All, Option, Some, None, refl, sym, ap, subst, ◌∙◌, arith}
use Rattle.std.specs.List.{list_all}
use Rattle.std.specs.Option.{is_some}
use Rattle.std.proofs.lemmas.Bool.{and_parts}
use Rattle.f77_tree.specs.Kinds.{operand_kind}
use Rattle.f77_tree.specs.Line.{kind_of_op}
use Rattle.f77_tree.specs.Name.{is_name}
use Rattle.f77_tree.specs.declared.declarations.Kind.{Kind}
use Rattle.f77_tree.specs.declared.declarations.Kind.TheVariants.{Integer, Logical}
use Rattle.f77_tree.specs.declared.programs.NameInfo.{NameInfo}
use Rattle.f77_tree.specs.declared.statements.RawExpr.{RawExpr, Row_of-RawExpr, end_of-RawExpr, more_of-RawExpr}
use Rattle.f77_tree.specs.declared.statements.RawExpr.TheVariants.{Int, Truth, Named, Call as Called, Call', Apply'}
use Rattle.f77_tree.proofs.AllLemmas.{All-cons, All-nil}
use Rattle.layout_rules.specs.Appearances.{called_name, names_in, names_in_row}
use Rattle.declared_names.specs.Functions.{intrinsic_named}
use Rattle.layout_rules.specs.ReadExpressions.{AllReadings, IsReading}
use Rattle.layout_rules.specs.Types.{Intrinsic, count_of_row, dims_named, intrinsics, is_array_in, is_intrinsic, is_kind, is_row_of, kind_in, kind_named, kind_of_call, takes}
use Rattle.program_units.specs.Copies.{Change, changed, changed_call, changed_row, intrinsic_or}
use Rattle.expanded_sources.proofs.ReadRows.{AreNames, IsFunction, IsReading-Apply, IsReading-Call, applied-names, called-names, function-found, joined, pairs-names, pairs-reading, parted}

-- ---- tests

pub some-kind : (kind : Kind) (o : Option Kind) → is_kind kind o ≡ true → is_some o ≡ true
some-kind Integer None is = let e : false ≡ true = is in absurd cc
some-kind Logical None is = let e : false ≡ true = is in absurd cc
some-kind kind (Some k) is = refl

only-if : {A : Type 0} (b : Bool) (o : Option A) → is_some (if b then o else None) ≡ true → (b ≡ true) × (is_some o ≡ true)
only-if true o is = (refl, is)
only-if false o is = let e : false ≡ true = is in absurd cc

negated : (b : Bool) → not b ≡ true → b ≡ false
negated true is = let e : false ≡ true = is in absurd cc
negated false is = refl

stays-or : (a b : Bool) → (a && not b) ≡ false → (not a || b) ≡ true
stays-or true true is = refl
stays-or true false is = let e : true ≡ false = is in absurd cc
stays-or false b is = refl

taken : (array function : Bool) (o : Option Kind) → array ≡ false → is_some (if array then o else if function then Some Integer else None) ≡ true → function ≡ true
taken true function o scalar some = let e : true ≡ false = scalar in absurd cc
taken false true o scalar some = refl
taken false false o scalar some = let e : false ≡ true = some in absurd cc

-- ---- a change

-- the name of a call stays a name: that of an array, and any name of the main program
abbrev pub stays : Change → List ℕ → Bool
stays c x = not c.copied || c.arrays x

-- the new names of these are symbolic
abbrev pub AreNew : Change → List (List ℕ) → Type 0
AreNew c xs = list_all (λ x. is_name (c.name x)) xs ≡ true

module _ (c : Change) (names : List NameInfo) (tables : (x : List ℕ) → c.arrays x ≡ is_array_in names x) where
  -- a call of no array of a copied unit is one of an intrinsic function that takes as many arguments
  a-function : (name : List ℕ) (count : ℕ) → (c.copied && not (c.arrays name)) ≡ true → is_some (kind_of_call names name count) ≡ true → IsFunction intrinsics name count
  a-function name count changes some =
      let scalar : is_array_in names name ≡ false = sym (tables name) ∙ negated (c.arrays name) (and_parts c.copied (not (c.arrays name)) changes).1 in
      function-found name count (taken (is_array_in names name) (takes name count) (if length (dims_named names name) == count then Some (kind_named names name) else None) scalar some)

  call-reading : (name : List ℕ) (args : List RawExpr) → All IsReading args → is_some (kind_of_call names name (length args)) ≡ true → IsReading (changed_call c name args)
  call-reading name args all some = by (c.copied && not (c.arrays name)) refl
    where
      by : (b : Bool) → (c.copied && not (c.arrays name)) ≡ b → IsReading (if b then intrinsic_or (intrinsic_named name) (c.name name) args else Called (c.name name) args)
      by false is = IsReading-Call (c.name name) args all
      by true is =
          let found = a-function name (length args) is some in
          subst (λ (o : Option Intrinsic). IsReading (intrinsic_or o (c.name name) args)) (sym found.found) (pairs-reading found.f.op args found.suits all)

  pub row-length : {m : _} (args : Row_of-RawExpr m) → length (changed_row c args) ≡ count_of_row args
  row-length end_of-RawExpr = refl
  row-length (more_of-RawExpr e rest) = let more = row-length rest in omega (arith, more)

  mutual
    pub changed-reading : (e : RawExpr) → IsReading e → is_some (kind_in names e) ≡ true → IsReading (changed c e)
    changed-reading (Int z) is some = is
    changed-reading (Truth b) is some = tt
    changed-reading (Named name) is some = tt
    changed-reading (Call' name shape args) is some =
        let parts = only-if (is_row_of names Integer args) (kind_of_call names name (count_of_row args)) some in
        call-reading name (changed_row c args) (row-reading args Integer is parts.0) (subst (λ (n : ℕ). is_some (kind_of_call names name n) ≡ true) (sym (row-length args)) parts.1)
    changed-reading (Apply' op shape args) is some =
        let parts = only-if (is_row_of names (operand_kind op) args) (Some (kind_of_op op)) some in
        IsReading-Apply op (changed_row c args) is.0 (row-length args ∙ is.1) (row-reading args (operand_kind op) is.2 parts.0)

    row-reading : {m : _} (args : Row_of-RawExpr m) (kind : Kind) → AllReadings args → is_row_of names kind args ≡ true → All IsReading (changed_row c args)
    row-reading end_of-RawExpr kind is kinds = All-nil IsReading
    row-reading (more_of-RawExpr e rest) kind is kinds =
        let parts = and_parts (is_kind kind (kind_in names e)) (is_row_of names kind rest) kinds in
        All-cons IsReading (changed c e) (changed_row c rest) (changed-reading e is.0 (some-kind kind (kind_in names e) parts.0)) (row-reading rest kind is.1 parts.1)

  -- ---- names

  module _ (arrays : List ℕ → Bool) where
    call-names : (name : List ℕ) (args : List RawExpr) → AreNew c (called_name (stays c) name) → AreNames (flat_map (names_in arrays) args) → is_some (kind_of_call names name (length args)) ≡ true → AreNames (names_in arrays (changed_call c name args))
    call-names name args new all some = by (c.copied && not (c.arrays name)) refl
      where
        by : (b : Bool) → (c.copied && not (c.arrays name)) ≡ b → AreNames (names_in arrays (if b then intrinsic_or (intrinsic_named name) (c.name name) args else Called (c.name name) args))
        by false is =
            let kept : called_name (stays c) name ≡ name ∷ [] = ap (λ (b : Bool). if b || not (is_intrinsic name) then name ∷ [] else []) (stays-or c.copied (c.arrays name) is) in
            let one : AreNew c (name ∷ []) = subst (AreNew c) kept new in
            called-names arrays (c.name name) args (and_parts (is_name (c.name name)) true one).0 all
        by true is =
            let found = a-function name (length args) is some in
            subst (λ (o : Option Intrinsic). AreNames (names_in arrays (intrinsic_or o (c.name name) args))) (sym found.found) (pairs-names arrays found.f.op args all)

    mutual
      pub changed-names : (e : RawExpr) → is_some (kind_in names e) ≡ true → AreNew c (names_in (stays c) e) → AreNames (names_in arrays (changed c e))
      changed-names (Int z) some new = refl
      changed-names (Truth b) some new = refl
      changed-names (Named name) some new = new
      changed-names (Call' name shape args) some new =
          let parts = only-if (is_row_of names Integer args) (kind_of_call names name (count_of_row args)) some in
          let both = parted (λ x. is_name (c.name x)) (called_name (stays c) name) (names_in_row (stays c) args) new in
          call-names name (changed_row c args) both.0 (row-names args Integer parts.0 both.1) (subst (λ (n : ℕ). is_some (kind_of_call names name n) ≡ true) (sym (row-length args)) parts.1)
      changed-names (Apply' op shape args) some new =
          let parts = only-if (is_row_of names (operand_kind op) args) (Some (kind_of_op op)) some in
          applied-names arrays op (changed_row c args) (row-names args (operand_kind op) parts.0 new)

      row-names : {m : _} (args : Row_of-RawExpr m) (kind : Kind) → is_row_of names kind args ≡ true → AreNew c (names_in_row (stays c) args) → AreNames (flat_map (names_in arrays) (changed_row c args))
      row-names end_of-RawExpr kind kinds new = refl
      row-names (more_of-RawExpr e rest) kind kinds new =
          let parts = and_parts (is_kind kind (kind_in names e)) (is_row_of names kind rest) kinds in
          let both = parted (λ x. is_name (c.name x)) (names_in (stays c) e) (names_in_row (stays c) rest) new in
          joined (names_in arrays (changed c e)) (flat_map (names_in arrays) (changed_row c rest)) (changed-names e (some-kind kind (kind_in names e) parts.0) both.0) (row-names rest kind parts.1 both.1)
