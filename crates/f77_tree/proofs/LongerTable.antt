-- Names after those of a table leave the meaning of what the table fits.
use Rattle.std.proofs.Common.{◌≡◌, ℕ, ◌+◌, ◌<◌, if◌then◌else◌, ℤ, pos, nat_abs, List, [], ◌∷◌, ◌++◌, length, map, All, Option, None, Result, Ok, slice_get, refl, ap, ◌∙◌}
use Rattle.op_table.specs.declared.Trap.{Trap}
use Rattle.op_table.specs.Operators.{applied}
use Rattle.op_table.specs.Words.{is_true}
use Rattle.f77_tree.specs.declared.expressions.Access.{Access}
use Rattle.f77_tree.specs.declared.expressions.Expr.{Expr, Row_of-Expr, end_of-Expr, more_of-Expr}
use Rattle.f77_tree.specs.declared.expressions.Expr.TheVariants.{Const, Truth, Input, Read', Apply'}
use Rattle.f77_tree.specs.declared.programs.ExecKind.{ExecKind}
use Rattle.f77_tree.specs.declared.programs.ExecKind.TheVariants.{Assign, Print, Pass, Test, Sign, Pick, DoStart, DoNext, End}
use Rattle.f77_tree.specs.declared.programs.Item.{Item}
use Rattle.f77_tree.specs.declared.programs.Item.TheVariants.{Value, Chars}
use Rattle.f77_tree.specs.declared.programs.NameInfo.{NameInfo}
use Rattle.f77_tree.specs.declared.programs.Program.{Program}
use Rattle.f77_tree.specs.CanRun.{CanExecute, CanPrint, CanLoop}
use Rattle.f77_tree.specs.Execution.{Memory, outcome, words_taken, assigned, printed, branched, do_begun, do_incremented, by_sign, by_number}
use Rattle.f77_tree.specs.Line.{item_text, line_of_texts, text_of, kind_of_expression}
use Rattle.f77_tree.specs.Value.{value, row_values, all_values, and_then, place, word_of, read_of, read_as, kind_in, dims_in, place_in, place_of, subscripted, word_at, IsExpression, AllExpressions, IsAccess}
use Rattle.f77_tree.proofs.AllLemmas.{All-first, All-rest, get-longer}

-- the word at subscripts, of a name by its entry of the table
abbrev entry_word : Option NameInfo → List (Result ℤ Trap) → Result ℕ Trap
entry_word info values = and_then (λ p. Ok (nat_abs p)) (subscripted (dims_in info) (pos 1) (pos (place_in info)) values)

module _ (names more : List NameInfo) (store : List ℤ) (next : Option ℤ) where
  word-longer : (name : ℕ) (values : List (Result ℤ Trap)) → name < length names → word_of (names ++ more) name values ≡ word_of names name values
  word-longer name values lt = ap (λ o. entry_word o values) (get-longer names more name lt)

  read-longer : (name : ℕ) (values : List (Result ℤ Trap)) → name < length names → read_of (names ++ more) store name (word_of (names ++ more) name values) ≡ read_of names store name (word_of names name values)
  read-longer name values lt = ap (λ o. and_then (λ w. Ok (read_as (kind_in o) (word_at store w))) (entry_word o values)) (get-longer names more name lt)

  mutual
    -- an expression that fits the table has the same value over the longer one
    pub value-longer : (e : Expr) → IsExpression names e → value (names ++ more) store next e ≡ value names store next e
    value-longer (Const z) is = refl
    value-longer (Truth b) is = refl
    value-longer Input is = refl
    value-longer (Read' name shape subs) is =
        ap (λ rs. read_of (names ++ more) store name (word_of (names ++ more) name rs)) (row-longer subs is.2) ∙ read-longer name (row_values names store next subs) is.0
    value-longer (Apply' op shape args) is = ap (λ rs. and_then (applied op) (all_values rs)) (row-longer args is.1)

    row-longer : {m : _} (row : Row_of-Expr m) → AllExpressions names row → row_values (names ++ more) store next row ≡ row_values names store next row
    row-longer end_of-Expr are = refl
    row-longer (more_of-Expr e rest) are =
        ap (λ r. r ∷ row_values (names ++ more) store next rest) (value-longer e are.0) ∙ ap (λ rs. value names store next e ∷ rs) (row-longer rest are.1)

  list-longer : (es : List Expr) → All (IsExpression names) es → map (value (names ++ more) store next) es ≡ map (value names store next) es
  list-longer [] are = refl
  list-longer (e ∷ es) are =
      ap (λ r. r ∷ map (value (names ++ more) store next) es) (value-longer e (All-first (IsExpression names) e es are)) ∙ ap (λ rs. value names store next e ∷ rs) (list-longer es (All-rest (IsExpression names) e es are))

  -- an access of the table names the same word over the longer one
  pub place-longer : (access : Access) → IsAccess names access → place (names ++ more) store next access ≡ place names store next access
  place-longer access is = ap (word_of (names ++ more) access.name) (list-longer access.subs is.subscripts) ∙ word-longer access.name (map (value names store next) access.subs) is.known

-- ---- executables

module _ (p : Program) (more : List NameInfo) (input : List ℤ) (m : Memory) where
  given-longer : (e : Expr) → IsExpression p.names e → value (p.names ++ more) m.store None e ≡ value p.names m.store None e
  given-longer e is = value-longer p.names more m.store None e is

  kind-longer : (e : Expr) → IsExpression p.names e → kind_of_expression (p.names ++ more) e ≡ kind_of_expression p.names e
  kind-longer (Const z) is = refl
  kind-longer (Truth b) is = refl
  kind-longer Input is = refl
  kind-longer (Read' name shape subs) is = ap kind_in (get-longer p.names more name is.0)
  kind-longer (Apply' op shape args) is = refl

  item-longer : (item : Item) → CanPrint p.names item → item_text (p.names ++ more) m.store item ≡ item_text p.names m.store item
  item-longer (Value e) is =
      ap (λ kind. and_then (λ z. Ok (text_of kind z)) (value (p.names ++ more) m.store None e)) (kind-longer e is)
      ∙ ap (and_then (λ z. Ok (text_of (kind_of_expression p.names e) z))) (given-longer e is)
  item-longer (Chars text) is = refl

  items-longer : (items : List Item) → All (CanPrint p.names) items → map (item_text (p.names ++ more) m.store) items ≡ map (item_text p.names m.store) items
  items-longer [] are = refl
  items-longer (item ∷ items) are =
      ap (λ t. t ∷ map (item_text (p.names ++ more) m.store) items) (item-longer item (All-first (CanPrint p.names) item items are))
      ∙ ap (λ ts. item_text p.names m.store item ∷ ts) (items-longer items (All-rest (CanPrint p.names) item items are))

  variable-longer : (loop_no var body exit : ℕ) → CanLoop p loop_no var body exit → place_of (p.names ++ more) var ≡ place_of p.names var
  variable-longer loop_no var body exit can = ap place_in (get-longer p.names more var can.name)

  -- an executable that fits the table has the same outcome over the longer one
  pub outcome-longer : (kind : ExecKind) → CanExecute p kind → outcome (p.names ++ more) input m kind ≡ outcome p.names input m kind
  outcome-longer (Assign target e next) can =
      let word = slice_get input m.taken in
      ap (λ at. assigned m next (m.taken + words_taken e) at (value (p.names ++ more) m.store word e)) (place-longer p.names more m.store word target can.0)
      ∙ ap (assigned m next (m.taken + words_taken e) (place p.names m.store word target)) (value-longer p.names more m.store word e can.1)
  outcome-longer (Print items next) can = ap (λ texts. printed m next (line_of_texts texts)) (items-longer items can.0)
  outcome-longer (Pass next) can = refl
  outcome-longer (Test cond if_true if_false) can = ap (branched m (λ z. if is_true z then if_true else if_false)) (given-longer cond can.0)
  outcome-longer (Sign e neg equal pos') can = ap (branched m (by_sign neg equal pos')) (given-longer e can.0)
  outcome-longer (Pick e targets other) can = ap (branched m (by_number targets other (pos (length targets)))) (given-longer e can.0)
  outcome-longer (DoStart loop_no var first last step body exit) can =
      let longer : List NameInfo = p.names ++ more in
      ap (λ w. do_begun m loop_no w body exit (value longer m.store None first) (value longer m.store None last) (value longer m.store None step)) (variable-longer loop_no var body exit can.0)
      ∙ ap (λ a. do_begun m loop_no (place_of p.names var) body exit a (value longer m.store None last) (value longer m.store None step)) (given-longer first can.1)
      ∙ ap (λ b. do_begun m loop_no (place_of p.names var) body exit (value p.names m.store None first) b (value longer m.store None step)) (given-longer last can.2)
      ∙ ap (do_begun m loop_no (place_of p.names var) body exit (value p.names m.store None first) (value p.names m.store None last)) (given-longer step can.3)
  outcome-longer (DoNext loop_no var body exit) can = ap (λ w. do_incremented m loop_no w body exit) (variable-longer loop_no var body exit can)
  outcome-longer End can = refl
