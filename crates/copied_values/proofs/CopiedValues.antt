-- Changed expressions over another table and another store: they have the same values, words and lines.
use Rattle.std.proofs.Common.{◌≡◌, ℕ, suc, ℤ, Bool, true, false, not, ◌||◌, if◌then◌else◌, List, [], ◌∷◌, ◌++◌, length, map, fold, Contains, Option, Some, None, Result, Ok, Err, find, bytes_eq, refl, sym, ap, subst, ◌∙◌, arith}
use Rattle.std.specs.Prelude.{nat_lt}
use Rattle.std.specs.Option.{is_some}
use Rattle.std.proofs.lemmas.Bool.{and_parts}
use Rattle.std.proofs.lemmas.Bool.Decides.{nat_tests}
use Rattle.std.proofs.lemmas.List.Elements.{Contains-append_left, Contains-append_right}
use Rattle.op_table.specs.declared.Op.{Op}
use Rattle.op_table.specs.declared.Trap.{Trap}
use Rattle.op_table.specs.Operators.{applied}
use Rattle.f77_tree.specs.declared.declarations.Dim.{Dim}
use Rattle.f77_tree.specs.declared.declarations.Kind.{Kind}
use Rattle.f77_tree.specs.declared.declarations.Kind.TheVariants.{Integer}
use Rattle.f77_tree.specs.declared.expressions.Access.{Access}
use Rattle.f77_tree.specs.declared.expressions.Expr.{Expr}
use Rattle.f77_tree.specs.declared.expressions.Expr.TheVariants.{Read, Apply as ApplyOf}
use Rattle.f77_tree.specs.declared.programs.NameInfo.{NameInfo}
use Rattle.f77_tree.specs.declared.statements.RawExpr.{RawExpr, Row_of-RawExpr, end_of-RawExpr, more_of-RawExpr}
use Rattle.f77_tree.specs.declared.statements.RawExpr.TheVariants.{Int, Truth, Named, Call', Apply, Apply'}
use Rattle.f77_tree.specs.Declarations.{index_of}
use Rattle.f77_tree.specs.Kinds.{operand_kind}
use Rattle.f77_tree.specs.Line.{kind_of_op}
use Rattle.f77_tree.specs.Value.{ArePlaced, all_values, and_then, place, read_as, read_of, value, word_at, word_of}
use Rattle.f77_tree.proofs.ExpressionLemmas.{value-Apply, value-Read}
use Rattle.layout_rules.specs.Appearances.{called_name, names_in, names_in_row, names_if_any}
use Rattle.layout_rules.specs.Resolved.{access_of, in_dialect, intrinsic_call, nested, resolved, resolved_call, resolved_row, resolved_step}
use Rattle.layout_rules.specs.Types.{Intrinsic, count_of_row, dims_named, intrinsics, is_array_in, is_intrinsic, is_kind, is_row_of, is_step, is_target, kind_in, kind_named, kind_of_call}
use Rattle.copied_values.specs.ChangedTables.{AreChangedTables, AreHeld, AreKnown, AreSameElement, HoldTheSame, IsKnownAs, target_name}
use Rattle.program_units.specs.Copies.{Change, changed, changed_call, changed_row, changed_step}
use Rattle.copied_values.proofs.ChangedValues.{IsCall, Array, Function, IsFunction, FunctionChanged, Paired, Stays, array-call, array-known, call-is, function, function-call}
use Rattle.copied_values.proofs.RawTrees.{access_of-Call, resolved-Apply, resolved-Call, resolved-pairs}
use Rattle.copied_values.proofs.SameElements.{elements}

none-long : (dims : List Dim) → nat_lt 0 (length dims) ≡ false → 0 ≡ length dims
none-long [] is = refl
none-long (dim ∷ dims) is = grind (arith, nat_tests)

pub kind-some : (kind : Kind) (o : Option Kind) → is_kind kind o ≡ true → is_some o ≡ true
kind-some kind None is = by kind is
  where
    by : (kind : Kind) → is_kind kind None ≡ true → is_some (let none : Option Kind = None in none) ≡ true
    by Integer is = absurd cc
    by _ is = absurd cc
kind-some kind (Some other) is = refl

length-resolved : (names : List NameInfo) (checked : Bool) (n : _) (row : Row_of-RawExpr n) → length (resolved_row names checked row) ≡ count_of_row row
length-resolved names checked n end_of-RawExpr = refl
length-resolved names checked n (more_of-RawExpr e rest) = let more = length-resolved names checked _ rest in omega (arith, more)

length-each : {A B : Type 0} (f : A → B) (xs : List A) → length (map f xs) ≡ length xs
length-each f [] = refl
length-each f (x ∷ xs) = ap suc (length-each f xs)

-- a scalar has a kind, an array without subscripts has none
scalar-named : (names : List NameInfo) (name : List ℕ) → is_some (kind_in names (Named name)) ≡ true → 0 ≡ length (dims_named names name)
scalar-named names name some = by (is_array_in names name) refl some
  where
    by : (b : Bool) → is_array_in names name ≡ b → is_some (if b then None else Some (kind_named names name)) ≡ true → 0 ≡ length (dims_named names name)
    by true is some = absurd cc
    by false is some = none-long (dims_named names name) is

pub array-resolved : (names : List NameInfo) (checked : Bool) (name : List ℕ) (args : List Expr) → is_array_in names name ≡ true → resolved_call names checked name args ≡ Read (record { name = index_of names name; subs = args })
array-resolved names checked name args is = ap (λ (b : Bool). if b then Read (record { name = index_of names name; subs = args }) else intrinsic_call checked (find (λ f. bytes_eq f.name name) intrinsics) args) is

pub function-resolved : (names : List NameInfo) (checked : Bool) (name : List ℕ) (args : List Expr) → is_array_in names name ≡ false → (is : IsFunction intrinsics name) → resolved_call names checked name args ≡ nested (in_dialect checked is.f.op) args
function-resolved names checked name args scalar is =
    ap (λ (b : Bool). if b then Read (record { name = index_of names name; subs = args }) else intrinsic_call checked (find (λ f. bytes_eq f.name name) intrinsics) args) scalar
    ∙ ap (λ (o : Option Intrinsic). intrinsic_call checked o args) is.found

module _ (names others : List NameInfo) (words words' : ℕ) (a b : List ℤ) (c : Change) (checked : Bool) (tables : AreChangedTables names others c) (placed : ArePlaced names words) (placed' : ArePlaced others words') where
  left-known : (xs ys : List (List ℕ)) → AreKnown names others c (xs ++ ys) → AreKnown names others c xs
  left-known xs ys all x is = all x (Contains-append_left xs ys x is)

  right-known : (xs ys : List (List ℕ)) → AreKnown names others c (xs ++ ys) → AreKnown names others c ys
  right-known xs ys all x is = all x (Contains-append_right xs ys x is)

  left-held : (xs ys : List (List ℕ)) → AreHeld names others a b c (xs ++ ys) → AreHeld names others a b c xs
  left-held xs ys all x is = all x (Contains-append_left xs ys x is)

  right-held : (xs ys : List (List ℕ)) → AreHeld names others a b c (xs ++ ys) → AreHeld names others a b c ys
  right-held xs ys all x is = all x (Contains-append_right xs ys x is)

  array-held : (name : List ℕ) (rest : List (List ℕ)) → is_array_in names name ≡ true → AreHeld names others a b c (called_name c.arrays name ++ rest) → HoldTheSame names others a b name (c.name name)
  array-held name rest is all = all name (subst (λ (xs : List (List ℕ)). Contains (xs ++ rest) name) (sym (ap (λ (b : Bool). if b || not (is_intrinsic name) then name ∷ [] else []) (tables.arrays name ∙ is))) (0, omega arith, refl))

  read-same : (x y : List ℕ) → IsKnownAs names others x y → HoldTheSame names others a b x y → (r s : Result ℕ Trap) → AreSameElement names others x y r s → read_of others b (index_of others y) s ≡ read_of names a (index_of names x) r
  read-same x y known held (Ok v) (Ok w) is =
      ap (λ (k : Kind). Ok (read_as k (word_at b w))) known.kinds
      ∙ ap (λ (z : ℤ). Ok (read_as (kind_named names x) z)) (ap (word_at b) is.there ∙ sym (held is.offset is.inside) ∙ ap (word_at a) (sym is.here))
  read-same x y known held (Err trap) (Err other) is = ap (λ (t : Trap). Err t) (sym is)
  read-same x y known held (Ok v) (Err trap) is = absurd is
  read-same x y known held (Err trap) (Ok w) is = absurd is

  -- what is read of an array, or of a scalar
  access-same : (x y : List ℕ) (es fs : List Expr) → (next : Option ℤ) → IsKnownAs names others x y → HoldTheSame names others a b x y → length es ≡ length (dims_named names x) → map (value others b next) fs ≡ map (value names a next) es
      → value others b next (Read (record { name = index_of others y; subs = fs })) ≡ value names a next (Read (record { name = index_of names x; subs = es }))
  access-same x y es fs next known held many same =
      let there : Access = record { name = index_of others y; subs = fs } in
      let here : Access = record { name = index_of names x; subs = es } in
      let values = map (value names a next) es in
      value-Read others b next there
      ∙ ap (λ (rs : List (Result ℤ Trap)). read_of others b (index_of others y) (word_of others (index_of others y) rs)) same
      ∙ read-same x y known held (word_of names (index_of names x) values) (word_of others (index_of others y) values) (elements names others words words' x y values placed placed' known (length-each (value names a next) es ∙ many))
      ∙ sym (value-Read names a next here)

  module _ (next : Option ℤ) where
    abbrev here : Expr → Result ℤ Trap
    here e = value names a next e

    abbrev there : Expr → Result ℤ Trap
    there e = value others b next e

    -- ---- operators

    operator-same : (op : Op) (es fs : List Expr) → map there fs ≡ map here es → there (ApplyOf op fs) ≡ here (ApplyOf op es)
    operator-same op es fs same = value-Apply others b next op fs ∙ ap (λ (rs : List (Result ℤ Trap)). and_then (applied op) (all_values rs)) same ∙ sym (value-Apply names a next op es)

    fold-same : (op : Op) (e f : Expr) (es fs : List Expr) → there f ≡ here e → map there fs ≡ map here es → there (fold (λ e c. ApplyOf op (e ∷ c ∷ [])) f fs) ≡ here (fold (λ e c. ApplyOf op (e ∷ c ∷ [])) e es)
    fold-same op e f [] [] first same = first
    fold-same op e f [] (y ∷ fs) first same = absurd cc
    fold-same op e f (x ∷ es) [] first same = absurd cc
    fold-same op e f (x ∷ es) (y ∷ fs) first same =
        let heads : there y ≡ here x = cc in
        fold-same op (ApplyOf op (e ∷ x ∷ [])) (ApplyOf op (f ∷ y ∷ [])) es fs (operator-same op (e ∷ x ∷ []) (f ∷ y ∷ []) (ap (λ (r : Result ℤ Trap). r ∷ there y ∷ []) first ∙ ap (λ (r : Result ℤ Trap). here e ∷ r ∷ []) heads)) cc

    nested-same : (op : Op) (es fs : List Expr) → map there fs ≡ map here es → there (nested op fs) ≡ here (nested op es)
    nested-same op [] [] same = operator-same op [] [] same
    nested-same op [] (y ∷ fs) same = absurd cc
    nested-same op (x ∷ es) [] same = absurd cc
    nested-same op (x ∷ []) (y ∷ []) same = operator-same op (x ∷ []) (y ∷ []) same
    nested-same op (x ∷ []) (y ∷ z ∷ fs) same = absurd cc
    nested-same op (x ∷ z ∷ es) (y ∷ []) same = absurd cc
    nested-same op (x ∷ x' ∷ es) (y ∷ y' ∷ fs) same =
        let heads : there y ≡ here x = cc in
        let next_heads : there y' ≡ here x' = cc in
        fold-same op (ApplyOf op (x ∷ x' ∷ [])) (ApplyOf op (y ∷ y' ∷ [])) es fs (operator-same op (x ∷ x' ∷ []) (y ∷ y' ∷ []) (ap (λ (r : Result ℤ Trap). r ∷ there y' ∷ []) heads ∙ ap (λ (r : Result ℤ Trap). here x ∷ r ∷ []) next_heads)) cc

    -- ---- calls

    call-same : (name : List ℕ) (rest : List (List ℕ)) (n : _) (args : Row_of-RawExpr n) → AreKnown names others c (called_name c.arrays name ++ rest) → AreHeld names others a b c (called_name c.arrays name ++ rest) → IsCall names name (count_of_row args)
        → map there (map (resolved others checked) (changed_row c args)) ≡ map here (resolved_row names checked args) → there (resolved others checked (changed_call c name (changed_row c args))) ≡ here (resolved_call names checked name (resolved_row names checked args))
    call-same name rest n args all held (Array is) same =
        let known = array-known names others c tables name rest is.is_array all in
        let array : is_array_in others (c.name name) ≡ true = ap (λ (dims : List Dim). nat_lt 0 (length dims)) known.dims ∙ is.is_array in
        ap (λ (e : RawExpr). there (resolved others checked e)) (array-call names others c tables name (changed_row c args) is.is_array)
        ∙ ap there (resolved-Call others checked (c.name name) (changed_row c args) ∙ array-resolved others checked (c.name name) (map (resolved others checked) (changed_row c args)) array)
        ∙ access-same name (c.name name) (resolved_row names checked args) (map (resolved others checked) (changed_row c args)) next known (array-held name rest is.is_array held) (length-resolved names checked n args ∙ sym is.as_many) same
        ∙ ap here (sym (array-resolved names checked name (resolved_row names checked args) is.is_array))
    call-same name rest n args all held (Function is) same = by (function name (count_of_row args) is.taken)
      where
        by : IsFunction intrinsics name → there (resolved others checked (changed_call c name (changed_row c args))) ≡ here (resolved_call names checked name (resolved_row names checked args))
        by f = by_change (function-call names others c tables name (changed_row c args) is.scalar f)
          where
            values : there (nested (in_dialect checked f.f.op) (map (resolved others checked) (changed_row c args))) ≡ here (resolved_call names checked name (resolved_row names checked args))
            values = nested-same (in_dialect checked f.f.op) (resolved_row names checked args) (map (resolved others checked) (changed_row c args)) same ∙ ap here (sym (function-resolved names checked name (resolved_row names checked args) is.scalar f))

            by_change : FunctionChanged names others c tables name (changed_row c args) f.f.op → there (resolved others checked (changed_call c name (changed_row c args))) ≡ here (resolved_call names checked name (resolved_row names checked args))
            by_change (Paired e) = ap (λ (x : RawExpr). there (resolved others checked x)) e ∙ ap there (resolved-pairs others checked f.f.op (changed_row c args)) ∙ values
            by_change (Stays e scalar) =
                ap (λ (x : RawExpr). there (resolved others checked x)) e
                ∙ ap there (resolved-Call others checked name (changed_row c args) ∙ function-resolved others checked name (map (resolved others checked) (changed_row c args)) scalar f)
                ∙ values

    -- ---- expressions

    mutual
      pub values : (e : RawExpr) → AreKnown names others c (names_in c.arrays e) → AreHeld names others a b c (names_in c.arrays e) → is_some (kind_in names e) ≡ true → value others b next (resolved others checked (changed c e)) ≡ value names a next (resolved names checked e)
      values (Int z) all held some = refl
      values (Truth z) all held some = refl
      values (Named name) all held some = access-same name (c.name name) [] [] next (all name (0, omega arith, refl)) (held name (0, omega arith, refl)) (scalar-named names name some) refl
      values (Call' name shape args) all held some = by (is_row_of names Integer args) refl some (λ is. rows Integer _ args (right-known (called_name c.arrays name) (names_in_row c.arrays args) all) (right-held (called_name c.arrays name) (names_in_row c.arrays args) held) is)
        where
          by : (t : Bool) → is_row_of names Integer args ≡ t → is_some (if t then kind_of_call names name (count_of_row args) else None) ≡ true → (is_row_of names Integer args ≡ true → map there (map (resolved others checked) (changed_row c args)) ≡ map here (resolved_row names checked args))
              → there (resolved others checked (changed_call c name (changed_row c args))) ≡ here (resolved_call names checked name (resolved_row names checked args))
          by false is some each = absurd cc
          by true is some each = call-same name (names_in_row c.arrays args) _ args all held (call-is names name (count_of_row args) some) (each is)
      values (Apply' op shape args) all held some = by (is_row_of names (operand_kind op) args) refl some (λ is. rows (operand_kind op) _ args all held is)
        where
          by : (t : Bool) → is_row_of names (operand_kind op) args ≡ t → is_some (if t then Some (kind_of_op op) else None) ≡ true → (is_row_of names (operand_kind op) args ≡ true → map there (map (resolved others checked) (changed_row c args)) ≡ map here (resolved_row names checked args))
              → there (resolved others checked (Apply op (changed_row c args))) ≡ here (ApplyOf (in_dialect checked op) (resolved_row names checked args))
          by false is some each = absurd cc
          by true is some each = ap there (resolved-Apply others checked op (changed_row c args)) ∙ operator-same (in_dialect checked op) (resolved_row names checked args) (map (resolved others checked) (changed_row c args)) (each is)

      pub rows : (kind : Kind) (n : _) (row : Row_of-RawExpr n) → AreKnown names others c (names_in_row c.arrays row) → AreHeld names others a b c (names_in_row c.arrays row) → is_row_of names kind row ≡ true → map (value others b next) (map (resolved others checked) (changed_row c row)) ≡ map (value names a next) (resolved_row names checked row)
      rows kind n end_of-RawExpr all held are = refl
      rows kind n (more_of-RawExpr e rest) all held are =
          let parts = and_parts (is_kind kind (kind_in names e)) (is_row_of names kind rest) are in
          let front = names_in c.arrays e in
          let back = names_in_row c.arrays rest in
          ap (λ (r : Result ℤ Trap). r ∷ map there (map (resolved others checked) (changed_row c rest))) (values e (left-known front back all) (left-held front back held) (kind-some kind (kind_in names e) parts.0))
          ∙ ap (λ (rs : List (Result ℤ Trap)). here (resolved names checked e) ∷ rs) (rows kind _ rest (right-known front back all) (right-held front back held) parts.1)

    -- the step of a DO
    pub steps : (step : Option RawExpr) → AreKnown names others c (names_if_any c.arrays step) → AreHeld names others a b c (names_if_any c.arrays step) → is_step names step ≡ true → value others b next (resolved_step others checked (changed_step c step)) ≡ value names a next (resolved_step names checked step)
    steps None all held is = refl
    steps (Some e) all held is = values e all held (kind-some Integer (kind_in names e) is)

    -- ---- variables and elements

    pub places : (e : RawExpr) → AreKnown names others c (names_in c.arrays e) → AreHeld names others a b c (names_in c.arrays e) → is_target names e ≡ true
        → AreSameElement names others (target_name e) (c.name (target_name e)) (place names a next (access_of names checked e)) (place others b next (access_of others checked (changed c e)))
    places (Int z) all held is = absurd cc
    places (Truth z) all held is = absurd cc
    places (Apply' op shape args) all held is = absurd cc
    places (Named name) all held is = elements names others words words' name (c.name name) [] placed placed' (all name (0, omega arith, refl)) (scalar-named names name is)
    places (Call' name shape args) all held is =
        let parts = and_parts (is_array_in names name) (is_some (kind_in names (Call' name shape args))) is in
        by (is_row_of names Integer args) refl parts.0 parts.1 (λ are. rows Integer _ args (right-known (called_name c.arrays name) (names_in_row c.arrays args) all) (right-held (called_name c.arrays name) (names_in_row c.arrays args) held) are)
      where
        at : (es fs : List Expr) → IsKnownAs names others name (c.name name) → length es ≡ length (dims_named names name) → map there fs ≡ map here es → AreSameElement names others name (c.name name) (word_of names (index_of names name) (map here es)) (word_of others (index_of others (c.name name)) (map there fs))
        at es fs known many same = subst (λ (rs : List (Result ℤ Trap)). AreSameElement names others name (c.name name) (word_of names (index_of names name) (map here es)) (word_of others (index_of others (c.name name)) rs)) (sym same) (elements names others words words' name (c.name name) (map here es) placed placed' known (length-each here es ∙ many))

        by : (t : Bool) → is_row_of names Integer args ≡ t → is_array_in names name ≡ true → is_some (if t then kind_of_call names name (count_of_row args) else None) ≡ true → (is_row_of names Integer args ≡ true → map there (map (resolved others checked) (changed_row c args)) ≡ map here (resolved_row names checked args))
            → AreSameElement names others name (c.name name) (place names a next (record { name = index_of names name; subs = resolved_row names checked args })) (place others b next (access_of others checked (changed_call c name (changed_row c args))))
        by false are array some each = absurd cc
        by true are array some each = by_call (call-is names name (count_of_row args) some)
          where
            by_call : IsCall names name (count_of_row args) → AreSameElement names others name (c.name name) (place names a next (record { name = index_of names name; subs = resolved_row names checked args })) (place others b next (access_of others checked (changed_call c name (changed_row c args))))
            by_call (Function f) = let e : true ≡ false = sym array ∙ f.scalar in absurd cc
            by_call (Array call) =
                let known = array-known names others c tables name (names_in_row c.arrays args) array all in
                let form : place others b next (access_of others checked (changed_call c name (changed_row c args))) ≡ word_of others (index_of others (c.name name)) (map there (map (resolved others checked) (changed_row c args))) =
                ap (λ (e : RawExpr). place others b next (access_of others checked e)) (array-call names others c tables name (changed_row c args) array)
                ∙ ap (place others b next) (access_of-Call others checked (c.name name) (changed_row c args)) in
                subst (λ (r : Result ℕ Trap). AreSameElement names others name (c.name name) (word_of names (index_of names name) (map here (resolved_row names checked args))) r) (sym form)
                (at (resolved_row names checked args) (map (resolved others checked) (changed_row c args)) known (length-resolved names checked _ args ∙ sym call.as_many) (each are))
