-- Changed items over another table and another store make the same lines; and resolved expressions take no data.
use Rattle.std.proofs.Common.{◌≡◌, ℕ, ℤ, Bool, true, false, not, ◌&&◌, if◌then◌else◌, List, [], ◌∷◌, ◌++◌, map, fold, flat_map, Option, Some, None, Result, Ok, find, bytes_eq, refl, sym, ap, subst, ◌∙◌}
use Rattle.std.specs.List.{list_all}
use Rattle.std.specs.Option.{is_some}
use Rattle.std.proofs.lemmas.Bool.{and_parts}
use Rattle.std.proofs.lemmas.List.Concat.{flat_map-cons}
use Rattle.std.proofs.lemmas.List.Elements.{Contains-append_left, Contains-append_right}
use Rattle.op_table.specs.declared.Op.{Op}
use Rattle.op_table.specs.declared.Op.TheVariants.{Add, Sub, Mul, Neg, Abs, Pow}
use Rattle.op_table.specs.declared.Trap.{Trap}
use Rattle.f77_tree.specs.declared.declarations.Kind.{Kind}
use Rattle.f77_tree.specs.declared.declarations.Kind.TheVariants.{Integer}
use Rattle.f77_tree.specs.declared.expressions.Expr.{Expr, Row_of-Expr, end_of-Expr, more_of-Expr, items-the_row-Expr, items_hidden-the_row-Expr-0}
use Rattle.f77_tree.specs.declared.expressions.Expr.TheVariants.{Read, Apply as ApplyOf}
use Rattle.f77_tree.specs.declared.programs.NameInfo.{NameInfo}
use Rattle.f77_tree.specs.declared.statements.RawExpr.{RawExpr, Row_of-RawExpr, end_of-RawExpr, more_of-RawExpr}
use Rattle.f77_tree.specs.declared.statements.RawExpr.TheVariants.{Int, Truth, Named, Call', Apply' as RawApply'}
use Rattle.f77_tree.specs.declared.statements.RawItem.{RawItem}
use Rattle.f77_tree.specs.declared.statements.RawItem.TheVariants.{Value, Chars}
use Rattle.f77_tree.specs.Declarations.{index_of}
use Rattle.f77_tree.specs.Execution.{count_if, is_input, is_truth, row_inputs, words_taken}
use Rattle.f77_tree.specs.Kinds.{operand_kind}
use Rattle.f77_tree.specs.Line.{item_text, kind_of_expression, kind_of_op, line_of, line_of_texts, text_of}
use Rattle.f77_tree.specs.Value.{ArePlaced, and_then, value}
use Rattle.f77_tree.proofs.ExpressionLemmas.{row_of}
use Rattle.layout_rules.specs.Appearances.{names_in, names_in_item}
use Rattle.layout_rules.specs.Resolved.{in_dialect, intrinsic_call, nested, resolved, resolved_call, resolved_item, resolved_row}
use Rattle.layout_rules.specs.Types.{Intrinsic, count_of_row, intrinsics, is_array_in, is_item, is_row_of, kind_in, kind_named, kind_of_call}
use Rattle.copied_values.specs.ChangedTables.{AreChangedTables, AreHeld, AreKnown}
use Rattle.program_units.specs.Copies.{Change, changed, changed_item}
use Rattle.copied_values.proofs.ChangedValues.{IsCall, Array, Function, IsFunction, call-is, function, kinds}
use Rattle.copied_values.proofs.CopiedValues.{array-resolved, function-resolved, values}

-- ---- the kind of what an expression is resolved to

dialect-kind : (checked : Bool) (op : Op) → kind_of_op (in_dialect checked op) ≡ kind_of_op op
dialect-kind false op = refl
dialect-kind true Add = refl
dialect-kind true Sub = refl
dialect-kind true Mul = refl
dialect-kind true Neg = refl
dialect-kind true Abs = refl
dialect-kind true Pow = refl
dialect-kind true _ = refl

fold-kind : (names : List NameInfo) (op : Op) (e : Expr) (rest : List Expr) → kind_of_expression names e ≡ kind_of_op op → kind_of_expression names (fold (λ e c. ApplyOf op (e ∷ c ∷ [])) e rest) ≡ kind_of_op op
fold-kind names op e [] is = is
fold-kind names op e (c ∷ rest) is = fold-kind names op (ApplyOf op (e ∷ c ∷ [])) rest refl

nested-kind : (names : List NameInfo) (op : Op) (args : List Expr) → kind_of_expression names (nested op args) ≡ kind_of_op op
nested-kind names op [] = refl
nested-kind names op (a ∷ []) = refl
nested-kind names op (a ∷ b ∷ rest) = fold-kind names op (ApplyOf op (a ∷ b ∷ [])) rest refl

resolved-kind : (names : List NameInfo) (checked : Bool) (e : RawExpr) → is_some (kind_in names e) ≡ true → kind_in names e ≡ Some (kind_of_expression names (resolved names checked e))
resolved-kind names checked (Int z) some = refl
resolved-kind names checked (Truth b) some = refl
resolved-kind names checked (Named name) some = by (is_array_in names name) some
  where
    by : (b : Bool) → is_some (if b then None else Some (kind_named names name)) ≡ true → (if b then None else Some (kind_named names name)) ≡ Some (kind_named names name)
    by true some = absurd cc
    by false some = refl
resolved-kind names checked (Call' name shape args) some = by (is_row_of names Integer args) some
  where
    by_call : IsCall names name (count_of_row args) → kind_of_call names name (count_of_row args) ≡ Some (kind_of_expression names (resolved_call names checked name (resolved_row names checked args)))
    by_call (Array is) = is.kind ∙ ap (λ (e : Expr). Some (kind_of_expression names e)) (sym (array-resolved names checked name (resolved_row names checked args) is.is_array))
    by_call (Function is) = by_function (function name (count_of_row args) is.taken)
      where
        by_function : IsFunction intrinsics name → kind_of_call names name (count_of_row args) ≡ Some (kind_of_expression names (resolved_call names checked name (resolved_row names checked args)))
        by_function f =
            is.kind
            ∙ ap (λ (k : Kind). Some k) (sym (nested-kind names (in_dialect checked f.f.op) (resolved_row names checked args) ∙ dialect-kind checked f.f.op ∙ f.gives))
            ∙ ap (λ (e : Expr). Some (kind_of_expression names e)) (sym (function-resolved names checked name (resolved_row names checked args) is.scalar f))

    by : (b : Bool) → is_some (if b then kind_of_call names name (count_of_row args) else None) ≡ true → (if b then kind_of_call names name (count_of_row args) else None) ≡ Some (kind_of_expression names (resolved_call names checked name (resolved_row names checked args)))
    by false some = absurd cc
    by true some = by_call (call-is names name (count_of_row args) some)
resolved-kind names checked (RawApply' op shape args) some = by (is_row_of names (operand_kind op) args) some
  where
    by : (b : Bool) → is_some (if b then Some (kind_of_op op) else None) ≡ true → (if b then Some (kind_of_op op) else None) ≡ Some (kind_of_op (in_dialect checked op))
    by false some = absurd cc
    by true some = ap (λ (k : Kind). Some k) (sym (dialect-kind checked op))

-- ---- lines

module _ (names others : List NameInfo) (words words' : ℕ) (a b : List ℤ) (c : Change) (checked : Bool) (tables : AreChangedTables names others c) (placed : ArePlaced names words) (placed' : ArePlaced others words') where
  expression-kind : (e : RawExpr) → AreKnown names others c (names_in c.arrays e) → is_some (kind_in names e) ≡ true → kind_of_expression others (resolved others checked (changed c e)) ≡ kind_of_expression names (resolved names checked e)
  expression-kind e all some =
      let same = kinds names others c tables e all some in
      let both : Some (kind_of_expression others (resolved others checked (changed c e))) ≡ Some (kind_of_expression names (resolved names checked e)) =
      sym (resolved-kind others checked (changed c e) (ap is_some same ∙ some)) ∙ same ∙ resolved-kind names checked e some in
      cc

  item-same : (item : RawItem) → AreKnown names others c (names_in_item c.arrays item) → AreHeld names others a b c (names_in_item c.arrays item) → is_item names item ≡ true → item_text others b (resolved_item others checked (changed_item c item)) ≡ item_text names a (resolved_item names checked item)
  item-same (Value e) all held is =
      ap (λ (k : Kind). and_then (λ z. Ok (text_of k z)) (value others b None (resolved others checked (changed c e)))) (expression-kind e all is)
      ∙ ap (and_then (λ z. Ok (text_of (kind_of_expression names (resolved names checked e)) z))) (values names others words words' a b c checked tables placed placed' None e all held is)
  item-same (Chars text) all held is = refl

  texts-same : (items : List RawItem) → AreKnown names others c (flat_map (names_in_item c.arrays) items) → AreHeld names others a b c (flat_map (names_in_item c.arrays) items) → list_all (is_item names) items ≡ true
      → map (item_text others b) (map (resolved_item others checked) (map (changed_item c) items)) ≡ map (item_text names a) (map (resolved_item names checked) items)
  texts-same [] all held are = refl
  texts-same (item ∷ items) all held are =
      let front = names_in_item c.arrays item in
      let back = flat_map (names_in_item c.arrays) items in
      let parts = and_parts (is_item names item) (list_all (is_item names) items) are in
      let known : AreKnown names others c (front ++ back) = subst (AreKnown names others c) (flat_map-cons (names_in_item c.arrays) item items) all in
      let kept : AreHeld names others a b c (front ++ back) = subst (AreHeld names others a b c) (flat_map-cons (names_in_item c.arrays) item items) held in
      ap (λ (r : Result (List ℕ) Trap). r ∷ map (item_text others b) (map (resolved_item others checked) (map (changed_item c) items))) (item-same item (λ x is. known x (Contains-append_left front back x is)) (λ x is. kept x (Contains-append_left front back x is)) parts.0)
      ∙ ap (λ (rs : List (Result (List ℕ) Trap)). item_text names a (resolved_item names checked item) ∷ rs) (texts-same items (λ x is. known x (Contains-append_right front back x is)) (λ x is. kept x (Contains-append_right front back x is)) parts.1)

  pub lines : (items : List RawItem) → AreKnown names others c (flat_map (names_in_item c.arrays) items) → AreHeld names others a b c (flat_map (names_in_item c.arrays) items) → list_all (is_item names) items ≡ true
      → line_of others b (map (resolved_item others checked) (map (changed_item c) items)) ≡ line_of names a (map (resolved_item names checked) items)
  lines items all held are = ap line_of_texts (texts-same items all held are)

-- ---- data

row-inputs-items : (n : _) (row : Row_of-Expr n) → row_inputs row ≡ map is_input (items-the_row-Expr n row)
row-inputs-items n end_of-Expr = refl
row-inputs-items n (more_of-Expr e rest) = ap (λ (bs : List Bool). is_input e ∷ bs) (row-inputs-items _ rest)

none-counted : (b : Bool) (inputs : List Bool) → list_all not inputs ≡ true → count_if b inputs ≡ 0
none-counted false inputs none = refl
none-counted true [] none = refl
none-counted true (false ∷ inputs) none = refl
none-counted true (true ∷ inputs) none = absurd cc

operator-takes : (op : Op) (args : List Expr) → list_all not (map is_input args) ≡ true → words_taken (ApplyOf op args) ≡ 0
operator-takes op args none =
    let row = row_of (ApplyOf op args) in
    ap (count_if (is_truth op)) (row-inputs-items row.0 row.1 ∙ ap (map is_input) (items_hidden-the_row-Expr-0 args)) ∙ none-counted (is_truth op) (map is_input args) none

fold-takes : (op : Op) (e : Expr) (rest : List Expr) → words_taken e ≡ 0 → is_input e ≡ false → list_all not (map is_input rest) ≡ true → words_taken (fold (λ e c. ApplyOf op (e ∷ c ∷ [])) e rest) ≡ 0
fold-takes op e [] none is all = none
fold-takes op e (c ∷ rest) none is all =
    let parts = and_parts (not (is_input c)) (list_all not (map is_input rest)) all in
    let two : list_all not (is_input e ∷ is_input c ∷ []) ≡ true = ap (λ (b : Bool). not b && (not (is_input c) && true)) is ∙ ap (λ (b : Bool). b && true) parts.0 in
    fold-takes op (ApplyOf op (e ∷ c ∷ [])) rest (operator-takes op (e ∷ c ∷ []) two) refl parts.1

nested-takes : (op : Op) (args : List Expr) → list_all not (map is_input args) ≡ true → words_taken (nested op args) ≡ 0
nested-takes op [] all = operator-takes op [] refl
nested-takes op (a ∷ []) all = operator-takes op (a ∷ []) all
nested-takes op (a ∷ b ∷ rest) all =
    let first = and_parts (not (is_input a)) (not (is_input b) && list_all not (map is_input rest)) all in
    let second = and_parts (not (is_input b)) (list_all not (map is_input rest)) first.1 in
    let two : list_all not (is_input a ∷ is_input b ∷ []) ≡ true = ap (λ (x : Bool). x && (not (is_input b) && true)) first.0 ∙ ap (λ (x : Bool). x && true) second.0 in
    fold-takes op (ApplyOf op (a ∷ b ∷ [])) rest (operator-takes op (a ∷ b ∷ []) two) refl second.1

fold-no-input : (op : Op) (e : Expr) (rest : List Expr) → is_input e ≡ false → is_input (fold (λ e c. ApplyOf op (e ∷ c ∷ [])) e rest) ≡ false
fold-no-input op e [] is = is
fold-no-input op e (c ∷ rest) is = fold-no-input op (ApplyOf op (e ∷ c ∷ [])) rest refl

nested-no-input : (op : Op) (args : List Expr) → is_input (nested op args) ≡ false
nested-no-input op [] = refl
nested-no-input op (a ∷ []) = refl
nested-no-input op (a ∷ b ∷ rest) = fold-no-input op (ApplyOf op (a ∷ b ∷ [])) rest refl

module _ (names : List NameInfo) (checked : Bool) where
  function-no-input : (f : Option Intrinsic) (args : List Expr) → is_input (intrinsic_call checked f args) ≡ false
  function-no-input None args = refl
  function-no-input (Some f) args = nested-no-input (in_dialect checked f.op) args

  no-input : (e : RawExpr) → is_input (resolved names checked e) ≡ false
  no-input (Int z) = refl
  no-input (Truth b) = refl
  no-input (Named name) = refl
  no-input (Call' name shape args) = by (is_array_in names name)
    where
      by : (b : Bool) → is_input (if b then Read (record { name = index_of names name; subs = resolved_row names checked args }) else intrinsic_call checked (find (λ f. bytes_eq f.name name) intrinsics) (resolved_row names checked args)) ≡ false
      by true = refl
      by false = function-no-input (find (λ f. bytes_eq f.name name) intrinsics) (resolved_row names checked args)
  no-input (RawApply' op shape args) = refl

  rows-no-input : (n : _) (row : Row_of-RawExpr n) → list_all not (map is_input (resolved_row names checked row)) ≡ true
  rows-no-input n end_of-RawExpr = refl
  rows-no-input n (more_of-RawExpr e rest) = ap (λ (b : Bool). not b && list_all not (map is_input (resolved_row names checked rest))) (no-input e) ∙ rows-no-input _ rest

  function-takes : (f : Option Intrinsic) (args : List Expr) → list_all not (map is_input args) ≡ true → words_taken (intrinsic_call checked f args) ≡ 0
  function-takes None args none = refl
  function-takes (Some f) args none = nested-takes (in_dialect checked f.op) args none

  pub takes-none : (e : RawExpr) → words_taken (resolved names checked e) ≡ 0
  takes-none (Int z) = refl
  takes-none (Truth b) = refl
  takes-none (Named name) = refl
  takes-none (Call' name shape args) = by (is_array_in names name)
    where
      by : (b : Bool) → words_taken (if b then Read (record { name = index_of names name; subs = resolved_row names checked args }) else intrinsic_call checked (find (λ f. bytes_eq f.name name) intrinsics) (resolved_row names checked args)) ≡ 0
      by true = refl
      by false = function-takes (find (λ f. bytes_eq f.name name) intrinsics) (resolved_row names checked args) (rows-no-input _ args)
  takes-none (RawApply' op shape args) = operator-takes (in_dialect checked op) (resolved_row names checked args) (rows-no-input _ args)
