-- Changed expressions over another table: they have the same kinds and the same values.
use Rattle.std.proofs.Common.{◌≡◌, ℕ, Bool, true, false, not, ◌&&◌, ◌||◌, ◌==◌, cond, if◌then◌else◌, List, [], ◌∷◌, ◌++◌, length, fold, Contains, Option, Some, None, find, bytes_eq, refl, sym, ap, subst, ◌∙◌, arith}
use Rattle.std.specs.Prelude.{nat_lt}
use Rattle.std.specs.List.{list_all, list_any}
use Rattle.std.specs.Option.{is_some}
use Rattle.std.proofs.lemmas.Bool.{and_parts, and_from, eqb-true}
use Rattle.std.proofs.lemmas.List.Elements.{Contains-append_left, Contains-append_right}
use Rattle.op_table.specs.declared.Op.{Op}
use Rattle.f77_tree.specs.declared.declarations.Dim.{Dim}
use Rattle.f77_tree.specs.declared.declarations.Kind.{Kind}
use Rattle.f77_tree.specs.declared.declarations.Kind.TheVariants.{Integer, Logical}
use Rattle.f77_tree.specs.declared.programs.NameInfo.{NameInfo}
use Rattle.f77_tree.specs.declared.statements.RawExpr.{RawExpr, Row_of-RawExpr, end_of-RawExpr, more_of-RawExpr}
use Rattle.f77_tree.specs.declared.statements.RawExpr.TheVariants.{Int, Truth, Named, Call as Called, Call', Apply, Apply'}
use Rattle.f77_tree.specs.Kinds.{operand_kind}
use Rattle.f77_tree.specs.Line.{kind_of_op}
use Rattle.layout_rules.specs.Appearances.{called_name, names_in, names_in_row}
use Rattle.declared_names.specs.Functions.{intrinsic_named}
use Rattle.layout_rules.specs.Types.{Intrinsic, count_of_row, dims_named, intrinsics, is_array_in, is_intrinsic, is_kind, is_of_kind, is_row_of, kind_in, kind_named, kind_of_call, takes}
use Rattle.copied_values.specs.ChangedTables.{AreChangedTables, AreKnown, IsKnownAs}
use Rattle.program_units.specs.Copies.{Change, changed, changed_call, changed_row, intrinsic_or, pairs}
use Rattle.layout_rules.proofs.RawRows.{kind_in-Apply, kind_in-Call}

-- ---- kinds and functions

pub kinds-same : (kind : Kind) (o : Option Kind) → is_kind kind o ≡ true → o ≡ Some kind
kinds-same Integer (Some Integer) is = refl
kinds-same Integer (Some Logical) is = absurd cc
kinds-same Integer None is = absurd cc
kinds-same Logical (Some Integer) is = absurd cc
kinds-same Logical (Some Logical) is = refl
kinds-same Logical None is = absurd cc

kind-itself : (kind : Kind) → is_kind kind (Some kind) ≡ true
kind-itself Integer = refl
kind-itself Logical = refl

-- a function of integers
pub record IsFunction (fs : List Intrinsic) (name : List ℕ) : Type 0 where
  pub f : Intrinsic
  pub found : find (λ f. bytes_eq f.name name) fs ≡ Some f
  pub named : list_any (λ f. bytes_eq f.name name) fs ≡ true
  pub operands : operand_kind f.op ≡ Integer
  pub gives : kind_of_op f.op ≡ Integer

abbrev pub takes_among : List Intrinsic → List ℕ → ℕ → Bool
takes_among fs name count = list_any (λ f. bytes_eq f.name name && (f.arguments == count || (f.list && nat_lt f.arguments count))) fs

pub first-or-later : (f : Intrinsic) (rest : List Intrinsic) (name : List ℕ) (count : ℕ) → operand_kind f.op ≡ Integer → kind_of_op f.op ≡ Integer → (takes_among rest name count ≡ true → IsFunction rest name) → takes_among (f ∷ rest) name count ≡ true → IsFunction (f ∷ rest) name
first-or-later f rest name count operands gives later takes = by (bytes_eq f.name name) refl
  where
    by : (b : Bool) → bytes_eq f.name name ≡ b → IsFunction (f ∷ rest) name
    by true is = record { f = f; found = ap (λ (b : Bool). cond b (Some f) (find (λ f. bytes_eq f.name name) rest)) is; named = ap (λ (b : Bool). b || list_any (λ f. bytes_eq f.name name) rest) is; operands = operands; gives = gives }
    by false is =
        let there = later (sym (ap (λ (b : Bool). (b && (f.arguments == count || (f.list && nat_lt f.arguments count))) || takes_among rest name count) is) ∙ takes) in
        record { f = there.f; found = ap (λ (b : Bool). cond b (Some f) (find (λ f. bytes_eq f.name name) rest)) is ∙ there.found; named = ap (λ (b : Bool). b || list_any (λ f. bytes_eq f.name name) rest) is ∙ there.named; operands = there.operands; gives = there.gives }

pub function : (name : List ℕ) (count : ℕ) → takes name count ≡ true → IsFunction intrinsics name
function name count =
    first-or-later _ _ name count refl refl
    (first-or-later _ _ name count refl refl
    (first-or-later _ _ name count refl refl
    (first-or-later _ _ name count refl refl
    (first-or-later _ _ name count refl refl
    (first-or-later _ _ name count refl refl
    (first-or-later _ _ name count refl refl
    (first-or-later _ _ name count refl refl
    (first-or-later _ _ name count refl refl
    (λ none. absurd cc)))))))))

-- what is known of a call that has a kind
pub record IsArrayCall (names : List NameInfo) (name : List ℕ) (count : ℕ) : Type 0 where
  pub is_array : is_array_in names name ≡ true
  pub as_many : length (dims_named names name) ≡ count
  pub kind : kind_of_call names name count ≡ Some (kind_named names name)

pub record IsFunctionCall (names : List NameInfo) (name : List ℕ) (count : ℕ) : Type 0 where
  pub scalar : is_array_in names name ≡ false
  pub taken : takes name count ≡ true
  pub kind : kind_of_call names name count ≡ Some Integer

pub data IsCall (names : List NameInfo) (name : List ℕ) (count : ℕ) : Type 0 where
  Array : IsArrayCall names name count → IsCall names name count
  Function : IsFunctionCall names name count → IsCall names name count

pub call-is : (names : List NameInfo) (name : List ℕ) (count : ℕ) → is_some (kind_of_call names name count) ≡ true → IsCall names name count
call-is names name count some = by (is_array_in names name) (length (dims_named names name) == count) (takes name count) refl refl refl some
  where
    form : (a b t : Bool) → Option Kind
    form a b t = if a then (if b then Some (kind_named names name) else None) else if t then Some Integer else None

    by : (a b t : Bool) → is_array_in names name ≡ a → (length (dims_named names name) == count) ≡ b → takes name count ≡ t → is_some (form a b t) ≡ true → IsCall names name count
    by true true t is many taken some = Array (record { is_array = is; as_many = eqb-true (length (dims_named names name)) count many; kind = ap (λ (a : Bool). form a (length (dims_named names name) == count) (takes name count)) is ∙ ap (λ (b : Bool). form true b (takes name count)) many })
    by true false t is many taken some = absurd cc
    by false b true is many taken some = Function (record { scalar = is; taken = taken; kind = ap (λ (a : Bool). form a (length (dims_named names name) == count) (takes name count)) is ∙ ap (λ (t : Bool). form false (length (dims_named names name) == count) t) taken })
    by false b false is many taken some = absurd cc

-- ---- what a change makes of a call

module _ (names others : List NameInfo) (c : Change) (tables : AreChangedTables names others c) where
  pub left : (xs ys : List (List ℕ)) → AreKnown names others c (xs ++ ys) → AreKnown names others c xs
  left xs ys all x is = all x (Contains-append_left xs ys x is)

  pub right : (xs ys : List (List ℕ)) → AreKnown names others c (xs ++ ys) → AreKnown names others c ys
  right xs ys all x is = all x (Contains-append_right xs ys x is)

  -- the name of an array is known
  pub array-named : (name : List ℕ) → is_array_in names name ≡ true → called_name c.arrays name ≡ name ∷ []
  array-named name is = ap (λ (b : Bool). if b || not (is_intrinsic name) then name ∷ [] else []) (tables.arrays name ∙ is)

  pub array-known : (name : List ℕ) (rest : List (List ℕ)) → is_array_in names name ≡ true → AreKnown names others c (called_name c.arrays name ++ rest) → IsKnownAs names others name (c.name name)
  array-known name rest is all = all name (subst (λ (xs : List (List ℕ)). Contains (xs ++ rest) name) (sym (array-named name is)) (0, omega arith, refl))

  pub array-call : (name : List ℕ) (args : List RawExpr) → is_array_in names name ≡ true → changed_call c name args ≡ Called (c.name name) args
  array-call name args is = ap (λ (b : Bool). if c.copied && not b then intrinsic_or (intrinsic_named name) (c.name name) args else Called (c.name name) args) (tables.arrays name ∙ is) ∙ by c.copied
    where
      by : (b : Bool) → (if b && not true then intrinsic_or (intrinsic_named name) (c.name name) args else Called (c.name name) args) ≡ Called (c.name name) args
      by true = refl
      by false = refl

  -- a function becomes its operator, or stays in the main program
  pub data FunctionChanged (name : List ℕ) (args : List RawExpr) (op : Op) : Type 0 where
    Paired : changed_call c name args ≡ pairs op args → FunctionChanged name args op
    Stays : changed_call c name args ≡ Called name args → is_array_in others name ≡ false → FunctionChanged name args op

  pub function-call : (name : List ℕ) (args : List RawExpr) → is_array_in names name ≡ false → (is : IsFunction intrinsics name) → FunctionChanged name args is.f.op
  function-call name args scalar is = by c.copied refl
    where
      form : (copied arrays : Bool) → RawExpr
      form copied arrays = if copied && not arrays then intrinsic_or (intrinsic_named name) (c.name name) args else Called (c.name name) args

      by : (b : Bool) → c.copied ≡ b → FunctionChanged name args is.f.op
      by true copied = Paired (ap (λ (b : Bool). form b (c.arrays name)) copied ∙ ap (form true) (tables.arrays name ∙ scalar) ∙ ap (λ (o : Option Intrinsic). intrinsic_or o (c.name name) args) is.found)
      by false copied = Stays (ap (λ (b : Bool). form b (c.arrays name)) copied ∙ ap (λ (n : List ℕ). Called n args) (tables.kept copied name)) (tables.functions copied name is.named scalar)

  -- ---- kinds

  -- integers pair by pair are an integer
  fold-kind : (op : Op) → operand_kind op ≡ Integer → kind_of_op op ≡ Integer → (e : RawExpr) (rest : List RawExpr) → kind_in others e ≡ Some Integer → list_all (is_of_kind others Integer) rest ≡ true → kind_in others (fold (λ e c. Apply op (e ∷ c ∷ [])) e rest) ≡ Some Integer
  fold-kind op operands gives e [] first all = first
  fold-kind op operands gives e (x ∷ rest) first all =
      let parts = and_parts (is_of_kind others Integer x) (list_all (is_of_kind others Integer) rest) all in
      fold-kind op operands gives (Apply op (e ∷ x ∷ [])) rest (two e x first parts.0) parts.1
    where
      two : (e x : RawExpr) → kind_in others e ≡ Some Integer → is_of_kind others Integer x ≡ true → kind_in others (Apply op (e ∷ x ∷ [])) ≡ Some Integer
      two e x first second =
          kind_in-Apply others op (e ∷ x ∷ [])
          ∙ ap (λ (k : Kind). if list_all (is_of_kind others k) (e ∷ x ∷ []) then Some (kind_of_op op) else None) operands
          ∙ ap (λ (b : Bool). if b && (is_of_kind others Integer x && true) then Some (kind_of_op op) else None) (ap (is_kind Integer) first)
          ∙ ap (λ (b : Bool). if b && true then Some (kind_of_op op) else None) second
          ∙ ap (λ (k : Kind). Some k) gives

  operator-kind : (op : Op) → operand_kind op ≡ Integer → kind_of_op op ≡ Integer → (args : List RawExpr) → list_all (is_of_kind others Integer) args ≡ true → kind_in others (Apply op args) ≡ Some Integer
  operator-kind op operands gives args all =
      kind_in-Apply others op args
      ∙ ap (λ (k : Kind). if list_all (is_of_kind others k) args then Some (kind_of_op op) else None) operands
      ∙ ap (λ (b : Bool). if b then Some (kind_of_op op) else None) all
      ∙ ap (λ (k : Kind). Some k) gives

  pairs-kind : (op : Op) → operand_kind op ≡ Integer → kind_of_op op ≡ Integer → (args : List RawExpr) → list_all (is_of_kind others Integer) args ≡ true → kind_in others (pairs op args) ≡ Some Integer
  pairs-kind op operands gives [] all = operator-kind op operands gives [] all
  pairs-kind op operands gives (a ∷ []) all = operator-kind op operands gives (a ∷ []) all
  pairs-kind op operands gives (a ∷ b ∷ rest) all =
      let first = and_parts (is_of_kind others Integer a) (is_of_kind others Integer b && list_all (is_of_kind others Integer) rest) all in
      let second = and_parts (is_of_kind others Integer b) (list_all (is_of_kind others Integer) rest) first.1 in
      fold-kind op operands gives (Apply op (a ∷ b ∷ [])) rest
      (operator-kind op operands gives (a ∷ b ∷ []) (and_from (is_of_kind others Integer a) (is_of_kind others Integer b && true) first.0 (and_from (is_of_kind others Integer b) true second.0 refl))) second.1

  call-kind : (name : List ℕ) (args : List RawExpr) → list_all (is_of_kind others Integer) args ≡ true → kind_in others (Called name args) ≡ kind_of_call others name (length args)
  call-kind name args all = kind_in-Call others name args ∙ ap (λ (b : Bool). if b then kind_of_call others name (length args) else None) all

  -- a call of an array or of a function, where the arguments are integers in the other table too
  changed-call-kind : (name : List ℕ) (rest : List (List ℕ)) (args : List RawExpr) → AreKnown names others c (called_name c.arrays name ++ rest) → IsCall names name (length args) → list_all (is_of_kind others Integer) args ≡ true → kind_in others (changed_call c name args) ≡ kind_of_call names name (length args)
  changed-call-kind name rest args all (Array is) integers =
      let known = array-known name rest is.is_array all in
      let array : is_array_in others (c.name name) ≡ true = ap (λ (dims : List Dim). nat_lt 0 (length dims)) known.dims ∙ is.is_array in
      ap (kind_in others) (array-call name args is.is_array)
      ∙ call-kind (c.name name) args integers
      ∙ ap (λ (b : Bool). if b then (if length (dims_named others (c.name name)) == length args then Some (kind_named others (c.name name)) else None) else if takes (c.name name) (length args) then Some Integer else None) array
      ∙ ap (λ (dims : List Dim). if length dims == length args then Some (kind_named others (c.name name)) else None) known.dims
      ∙ ap (λ (k : Kind). if length (dims_named names name) == length args then Some k else None) known.kinds
      ∙ sym (ap (λ (b : Bool). if b then (if length (dims_named names name) == length args then Some (kind_named names name) else None) else if takes name (length args) then Some Integer else None) is.is_array)
  changed-call-kind name rest args all (Function is) integers = by (function name (length args) is.taken)
    where
      by : IsFunction intrinsics name → kind_in others (changed_call c name args) ≡ kind_of_call names name (length args)
      by f = by_change (function-call name args is.scalar f)
        where
          by_change : FunctionChanged name args f.f.op → kind_in others (changed_call c name args) ≡ kind_of_call names name (length args)
          by_change (Paired e) = ap (kind_in others) e ∙ pairs-kind f.f.op f.operands f.gives args integers ∙ sym is.kind
          by_change (Stays e scalar) =
              ap (kind_in others) e ∙ call-kind name args integers
              ∙ ap (λ (b : Bool). if b then (if length (dims_named others name) == length args then Some (kind_named others name) else None) else if takes name (length args) then Some Integer else None) scalar
              ∙ ap (λ (b : Bool). if b then Some Integer else None) is.taken
              ∙ sym is.kind

  length-changed : (n : _) (row : Row_of-RawExpr n) → length (changed_row c row) ≡ count_of_row row
  length-changed n end_of-RawExpr = refl
  length-changed n (more_of-RawExpr e rest) = let more = length-changed _ rest in omega (arith, more)

  pub named-kind : (name : List ℕ) → IsKnownAs names others name (c.name name) → kind_in others (Named (c.name name)) ≡ kind_in names (Named name)
  named-kind name known =
      ap (λ (dims : List Dim). if nat_lt 0 (length dims) then None else Some (kind_named others (c.name name))) known.dims
      ∙ ap (λ (k : Kind). if is_array_in names name then None else Some k) known.kinds

  mutual
    pub kinds : (e : RawExpr) → AreKnown names others c (names_in c.arrays e) → is_some (kind_in names e) ≡ true → kind_in others (changed c e) ≡ kind_in names e
    kinds (Int z) all some = refl
    kinds (Truth b) all some = refl
    kinds (Named name) all some = named-kind name (all name (0, omega arith, refl))
    kinds (Call' name shape args) all some = by (is_row_of names Integer args) refl some (λ is. rows Integer _ args (right (called_name c.arrays name) (names_in_row c.arrays args) all) is)
      where
        by : (b : Bool) → is_row_of names Integer args ≡ b → is_some (if b then kind_of_call names name (count_of_row args) else None) ≡ true → (is_row_of names Integer args ≡ true → list_all (is_of_kind others Integer) (changed_row c args) ≡ true) → kind_in others (changed_call c name (changed_row c args)) ≡ (if is_row_of names Integer args then kind_of_call names name (count_of_row args) else None)
        by false is some each = absurd cc
        by true is some each =
            let integers = each is in
            let count = length-changed _ args in
            let call : IsCall names name (length (changed_row c args)) = call-is names name (length (changed_row c args)) (ap (λ (k : ℕ). is_some (kind_of_call names name k)) count ∙ some) in
            changed-call-kind name (names_in_row c.arrays args) (changed_row c args) all call integers
            ∙ ap (kind_of_call names name) count
            ∙ sym (ap (λ (b : Bool). if b then kind_of_call names name (count_of_row args) else None) is)
    kinds (Apply' op shape args) all some = by (is_row_of names (operand_kind op) args) refl some (λ is. rows (operand_kind op) _ args all is)
      where
        by : (b : Bool) → is_row_of names (operand_kind op) args ≡ b → is_some (if b then Some (kind_of_op op) else None) ≡ true → (is_row_of names (operand_kind op) args ≡ true → list_all (is_of_kind others (operand_kind op)) (changed_row c args) ≡ true) → kind_in others (Apply op (changed_row c args)) ≡ (if is_row_of names (operand_kind op) args then Some (kind_of_op op) else None)
        by false is some each = absurd cc
        by true is some each =
            kind_in-Apply others op (changed_row c args)
            ∙ ap (λ (b : Bool). if b then Some (kind_of_op op) else None) (each is ∙ sym is)

    pub rows : (kind : Kind) (n : _) (row : Row_of-RawExpr n) → AreKnown names others c (names_in_row c.arrays row) → is_row_of names kind row ≡ true → list_all (is_of_kind others kind) (changed_row c row) ≡ true
    rows kind n end_of-RawExpr all are = refl
    rows kind n (more_of-RawExpr e rest) all are =
        let parts = and_parts (is_kind kind (kind_in names e)) (is_row_of names kind rest) are in
        let is : kind_in names e ≡ Some kind = kinds-same kind (kind_in names e) parts.0 in
        let there : kind_in others (changed c e) ≡ Some kind = kinds e (left (names_in c.arrays e) (names_in_row c.arrays rest) all) (ap is_some is) ∙ is in
        and_from (is_of_kind others kind (changed c e)) (list_all (is_of_kind others kind) (changed_row c rest)) (ap (is_kind kind) there ∙ kind-itself kind)
        (rows kind _ rest (right (names_in c.arrays e) (names_in_row c.arrays rest) all) parts.1)
