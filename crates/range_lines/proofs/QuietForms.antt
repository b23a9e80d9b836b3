-- A subscript that is linear in a scalar variable takes no data, nothing in it is known to trap, and its value isn't known.
use Rattle.std.proofs.Common.{◌≡◌, ℕ, suc, ℤ, Bool, true, false, if◌then◌else◌, ◌==◌, List, [], ◌∷◌, length, Option, Some, None, Result, Ok, Err, IsErr, ⊎_elim, refl, sym, ap, ◌∙◌}
use Rattle.std.specs.Option.{option_map}
use Rattle.std.proofs.lemmas.Bool.{eqb-true}
use Rattle.op_table.specs.declared.Op.{Op}
use Rattle.op_table.specs.declared.Trap.{Trap}
use Rattle.op_table.specs.Known.{all_known, folded}
use Rattle.op_table.specs.Operators.{applied}
use Rattle.op_table.proofs.Laws.{folded-some}
use Rattle.f77_tree.specs.declared.declarations.Dim.{Dim}
use Rattle.f77_tree.specs.declared.expressions.Expr.{Expr, Row_of-Expr, end_of-Expr, more_of-Expr}
use Rattle.f77_tree.specs.declared.expressions.Expr.TheVariants.{Const, Truth, Input, Read', Apply'}
use Rattle.f77_tree.specs.declared.programs.NameInfo.{NameInfo}
use Rattle.f77_tree.specs.Known.{known, row_known}
use Rattle.f77_tree.specs.Touched.{ReadsData, SomeReadsData}
use Rattle.f77_tree.specs.Value.{dims_of, row_length, AllExpressions, IsExpression}
use Rattle.dep_routing.specs.KnownTraps.{TrapsAt, IsKnownToTrap, SomeKnownToTrap, SubscriptsKnownToTrap}
use Rattle.loop_ranges.specs.Linear.{Linear, Operand, Variable, Number, Other, of_known, operand, row_operands, alone, sum, difference, product, of_two, combined, linear_in}
use Rattle.loop_ranges.proofs.Arithmetic.{Does, Sums, Differences, Products, does}

-- ---- known values

-- the first operand of some that are all known, and the others
record AllKnown (k : Option ℤ) (ks : List (Option ℤ)) : Type 0 where
  first : ℤ
  is_first : k ≡ Some first
  rest : List ℤ
  are_rest : all_known ks ≡ Some rest

all-known : (k : Option ℤ) (ks : List (Option ℤ)) (zs : List ℤ) → all_known (k ∷ ks) ≡ Some zs → AllKnown k ks
all-known None ks zs is = let no : None ≡ Some zs = is in absurd cc
all-known (Some x) ks zs is = by (all_known ks) refl is
  where
    by : (o : Option (List ℤ)) → all_known ks ≡ o → option_map (λ args. x ∷ args) o ≡ Some zs → AllKnown (Some x) ks
    by None f h = let no : None ≡ Some zs = h in absurd cc
    by (Some more) f h = record { first = x; is_first = refl; rest = more; are_rest = f }

same-list : (xs ys : List ℤ) → Some xs ≡ Some ys → xs ≡ ys
same-list xs ys is = cc

value-no-error : (r : Result ℤ Trap) (z : ℤ) → r ≡ Ok z → IsErr r → ⊥
value-no-error (Ok y) z is failed = let no : false ≡ true = failed in absurd cc
value-no-error (Err trap) z is failed = let no : Err trap ≡ Ok z = is in absurd cc

-- an operator that gives a value at known operands doesn't trap at them
gives-or-traps : (op : Op) (operands : List (Option ℤ)) (z : ℤ) → folded op operands ≡ Some z → TrapsAt op operands → ⊥
gives-or-traps op operands z is traps =
    let given = folded-some op operands z is in
    let args : given.args ≡ traps.args = same-list given.args traps.args (sym given.are_known ∙ traps.are_known) in
    value-no-error (applied op traps.args) z (ap (applied op) (sym args) ∙ given.value) traps.traps

-- an operator has no known value where an operand has none
unknown-operator : (op : Op) (operands : List (Option ℤ)) → all_known operands ≡ None → folded op operands ≡ None
unknown-operator op operands none = by (folded op operands) refl
  where
    by : (o : Option ℤ) → folded op operands ≡ o → folded op operands ≡ None
    by None is = is
    by (Some z) is =
        let given = folded-some op operands z is in
        let no : None ≡ Some given.args = sym none ∙ given.are_known in
        absurd cc

module _ (names : List NameInfo) where
  mutual
    known-reads : (e : Expr) (z : ℤ) → known e ≡ Some z → ReadsData e → ⊥
    known-reads (Const c) z is reads = reads
    known-reads (Truth b) z is reads = reads
    known-reads Input z is reads = let no : None ≡ Some z = is in absurd cc
    known-reads (Read' name shape subs) z is reads = let no : None ≡ Some z = is in absurd cc
    known-reads (Apply' op shape args) z is reads = let given = folded-some op (row_known args) z is in row-reads _ args given.args given.are_known reads

    row-reads : (n : _) (row : Row_of-Expr n) (zs : List ℤ) → all_known (row_known row) ≡ Some zs → SomeReadsData row → ⊥
    row-reads n end_of-Expr zs is some = some
    row-reads n (more_of-Expr e rest) zs is some =
        let all = all-known (known e) (row_known rest) zs is in
        ⊎_elim (λ here. known-reads e all.first all.is_first here) (λ later. row-reads _ rest all.rest all.are_rest later) some

  mutual
    known-traps : (e : Expr) (z : ℤ) → known e ≡ Some z → IsKnownToTrap names e → ⊥
    known-traps (Const c) z is traps = traps
    known-traps (Truth b) z is traps = traps
    known-traps Input z is traps = traps
    known-traps (Read' name shape subs) z is traps = let no : None ≡ Some z = is in absurd cc
    known-traps (Apply' op shape args) z is traps =
        let given = folded-some op (row_known args) z is in
        ⊎_elim (λ some. row-traps _ args given.args given.are_known some) (λ here. gives-or-traps op (row_known args) z is here) traps

    row-traps : (n : _) (row : Row_of-Expr n) (zs : List ℤ) → all_known (row_known row) ≡ Some zs → SomeKnownToTrap names row → ⊥
    row-traps n end_of-Expr zs is some = some
    row-traps n (more_of-Expr e rest) zs is some =
        let all = all-known (known e) (row_known rest) zs is in
        ⊎_elim (λ here. known-traps e all.first all.is_first here) (λ later. row-traps _ rest all.rest all.are_rest later) some

  -- ---- quiet expressions

  -- it takes no data, and nothing in it is known to trap
  pub record IsQuiet (e : Expr) : Type 0 where
    pub reads : ReadsData e → ⊥
    pub traps : IsKnownToTrap names e → ⊥

  -- beside that its value isn't known
  pub record IsHarmless (e : Expr) : Type 0 where
    pub quiet : IsQuiet e
    pub unknown : known e ≡ None

  known-quiet : (e : Expr) (z : ℤ) → known e ≡ Some z → IsQuiet e
  known-quiet e z is = record { reads = known-reads e z is; traps = known-traps e z is }

  empty-reads : (n : _) (row : Row_of-Expr n) → row_length row ≡ 0 → SomeReadsData row → ⊥
  empty-reads n end_of-Expr none some = some
  empty-reads n (more_of-Expr e rest) none some = let no : suc (row_length rest) ≡ 0 = none in absurd cc

  empty-traps : (dims : List Dim) (n : _) (row : Row_of-Expr n) → row_length row ≡ 0 → SubscriptsKnownToTrap names dims row → ⊥
  empty-traps dims n end_of-Expr none some = some
  empty-traps dims n (more_of-Expr e rest) none some = let no : suc (row_length rest) ≡ 0 = none in absurd cc

  module _ (variable : ℕ) (scalar : dims_of names variable ≡ []) where
    -- what is told of an operand is so of its expression
    abbrev OperandIs : Operand → Expr → Type 0
    OperandIs Variable e = IsHarmless e
    OperandIs (Number k) e = IsQuiet e × (known e ≡ Some k)
    OperandIs Other e = Unit {0}

    known-operand : (e : Expr) → OperandIs (of_known (known e)) e
    known-operand e = by (known e) refl
      where
        by : (k : Option ℤ) → known e ≡ k → OperandIs (of_known k) e
        by None is = tt
        by (Some k) is = (known-quiet e k is, is)

    operand-is : (e : Expr) → IsExpression names e → OperandIs (operand variable e) e
    operand-is (Read' name shape subs) fits = by (name == variable) refl
      where
        by : (b : Bool) → (name == variable) ≡ b → OperandIs (if b then Variable else Other) (Read' name shape subs)
        by true same =
            let none : row_length subs ≡ 0 = fits.1 ∙ ap (λ k. length (dims_of names k)) (eqb-true name variable same) ∙ ap length scalar in
            record { quiet = record { reads = empty-reads _ subs none; traps = empty-traps (dims_of names name) _ subs none }; unknown = refl }
        by false same = tt
    operand-is (Const z) fits = known-operand (Const z)
    operand-is (Truth b) fits = known-operand (Truth b)
    operand-is Input fits = known-operand Input
    operand-is (Apply' op shape args) fits = known-operand (Apply' op shape args)

    -- one operand is the variable, and the other a number
    abbrev Pair : Operand → Operand → Type 0
    Pair Variable (Number k) = Unit {0}
    Pair (Number k) Variable = Unit {0}
    Pair _ _ = ⊥

    sum-pair : (x y : Operand) (form : Linear) → sum x y ≡ Some form → Pair x y
    sum-pair Variable (Number k) form is = tt
    sum-pair (Number k) Variable form is = tt
    sum-pair Variable Variable form is = let no : None ≡ Some form = is in absurd cc
    sum-pair Variable Other form is = let no : None ≡ Some form = is in absurd cc
    sum-pair (Number k) (Number j) form is = let no : None ≡ Some form = is in absurd cc
    sum-pair (Number k) Other form is = let no : None ≡ Some form = is in absurd cc
    sum-pair Other Variable form is = let no : None ≡ Some form = is in absurd cc
    sum-pair Other (Number k) form is = let no : None ≡ Some form = is in absurd cc
    sum-pair Other Other form is = let no : None ≡ Some form = is in absurd cc

    difference-pair : (x y : Operand) (form : Linear) → difference x y ≡ Some form → Pair x y
    difference-pair Variable (Number k) form is = tt
    difference-pair (Number k) Variable form is = tt
    difference-pair Variable Variable form is = let no : None ≡ Some form = is in absurd cc
    difference-pair Variable Other form is = let no : None ≡ Some form = is in absurd cc
    difference-pair (Number k) (Number j) form is = let no : None ≡ Some form = is in absurd cc
    difference-pair (Number k) Other form is = let no : None ≡ Some form = is in absurd cc
    difference-pair Other Variable form is = let no : None ≡ Some form = is in absurd cc
    difference-pair Other (Number k) form is = let no : None ≡ Some form = is in absurd cc
    difference-pair Other Other form is = let no : None ≡ Some form = is in absurd cc

    product-pair : (x y : Operand) (form : Linear) → product x y ≡ Some form → Pair x y
    product-pair Variable (Number k) form is = tt
    product-pair (Number k) Variable form is = tt
    product-pair Variable Variable form is = let no : None ≡ Some form = is in absurd cc
    product-pair Variable Other form is = let no : None ≡ Some form = is in absurd cc
    product-pair (Number k) (Number j) form is = let no : None ≡ Some form = is in absurd cc
    product-pair (Number k) Other form is = let no : None ≡ Some form = is in absurd cc
    product-pair Other Variable form is = let no : None ≡ Some form = is in absurd cc
    product-pair Other (Number k) form is = let no : None ≡ Some form = is in absurd cc
    product-pair Other Other form is = let no : None ≡ Some form = is in absurd cc

    two-pair : (op : Op) (x y : Operand) (form : Linear) → of_two op x y ≡ Some form → Pair x y
    two-pair op x y form is = by (does x y form op is)
      where
        by : Does x y form op → Pair x y
        by (Sums form_is so) = sum-pair x y form form_is
        by (Differences form_is so) = difference-pair x y form form_is
        by (Products form_is so) = product-pair x y form form_is

    -- operands that take no data, are not known to trap, and of which one isn't known
    abbrev AreHarmless : {m : _} → Row_of-Expr m → Type 0
    AreHarmless row = (SomeReadsData row → ⊥) × (SomeKnownToTrap names row → ⊥) × (all_known (row_known row) ≡ None)

    first-fits : (n : _) (e : Expr) (rest : Row_of-Expr n) → AllExpressions names (more_of-Expr e rest) → IsExpression names e
    first-fits n e rest all = all.0

    rest-fits : (n : _) (e : Expr) (rest : Row_of-Expr n) → AllExpressions names (more_of-Expr e rest) → AllExpressions names rest
    rest-fits n e rest all = all.1

    both-quiet : (a b : Expr) → IsQuiet a → IsQuiet b → all_known (known a ∷ known b ∷ []) ≡ None → AreHarmless (more_of-Expr a (more_of-Expr b end_of-Expr))
    both-quiet a b one two none = (
      λ some. ⊎_elim one.reads (λ rest. ⊎_elim two.reads (λ no. no) rest) some,
      λ some. ⊎_elim one.traps (λ rest. ⊎_elim two.traps (λ no. no) rest) some,
      none,
    )

    pair-harmless : (x y : Operand) (a b : Expr) → OperandIs x a → OperandIs y b → Pair x y → AreHarmless (more_of-Expr a (more_of-Expr b end_of-Expr))
    pair-harmless Variable (Number k) a b one two pair = both-quiet a b one.quiet two.0 (ap (λ j. all_known (j ∷ known b ∷ [])) one.unknown)
    pair-harmless (Number k) Variable a b one two pair =
        both-quiet a b one.0 two.quiet (ap (λ j. all_known (j ∷ known b ∷ [])) one.1 ∙ ap (λ j. all_known (Some k ∷ j ∷ [])) two.unknown)
    pair-harmless Variable Variable a b one two pair = absurd pair
    pair-harmless Variable Other a b one two pair = absurd pair
    pair-harmless (Number k) (Number j) a b one two pair = absurd pair
    pair-harmless (Number k) Other a b one two pair = absurd pair
    pair-harmless Other Variable a b one two pair = absurd pair
    pair-harmless Other (Number k) a b one two pair = absurd pair
    pair-harmless Other Other a b one two pair = absurd pair

    row-harmless : (op : Op) (n : _) (row : Row_of-Expr n) (form : Linear) → AllExpressions names row → combined op (row_operands variable row) ≡ Some form → AreHarmless row
    row-harmless op n end_of-Expr form fits is = let no : None ≡ Some form = is in absurd cc
    row-harmless op n (more_of-Expr a end_of-Expr) form fits is = let no : None ≡ Some form = is in absurd cc
    row-harmless op n (more_of-Expr a (more_of-Expr b end_of-Expr)) form fits is =
        pair-harmless (operand variable a) (operand variable b) a b (operand-is a (first-fits _ a (more_of-Expr b end_of-Expr) fits)) (operand-is b (first-fits _ b end_of-Expr (rest-fits _ a (more_of-Expr b end_of-Expr) fits))) (two-pair op (operand variable a) (operand variable b) form is)
    row-harmless op n (more_of-Expr a (more_of-Expr b (more_of-Expr c rest))) form fits is = let no : None ≡ Some form = is in absurd cc

    variable-harmless : (x : Operand) (e : Expr) (form : Linear) → OperandIs x e → alone x ≡ Some form → IsHarmless e
    variable-harmless Variable e form at is = at
    variable-harmless (Number k) e form at is = let no : None ≡ Some form = is in absurd cc
    variable-harmless Other e form at is = let no : None ≡ Some form = is in absurd cc

    pub linear-harmless : (e : Expr) (form : Linear) → IsExpression names e → linear_in variable e ≡ Some form → IsHarmless e
    linear-harmless (Apply' op shape args) form fits is =
        let row = row-harmless op _ args form fits.1 is in
        record {
          quiet = record {
            reads = row.0;
            traps = λ traps. ⊎_elim row.1 (λ (here : TrapsAt op (row_known args)). let no : None ≡ Some here.args = sym row.2 ∙ here.are_known in absurd cc) traps;
          };
          unknown = unknown-operator op (row_known args) row.2;
        }
    linear-harmless (Read' name shape subs) form fits is = variable-harmless (operand variable (Read' name shape subs)) (Read' name shape subs) form (operand-is (Read' name shape subs) fits) is
    linear-harmless (Const z) form fits is = let no : None ≡ Some form = is in absurd cc
    linear-harmless (Truth b) form fits is = let no : None ≡ Some form = is in absurd cc
    linear-harmless Input form fits is = let no : None ≡ Some form = is in absurd cc
