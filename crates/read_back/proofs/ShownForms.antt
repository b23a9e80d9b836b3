-- The statements of a flat program can be printed and read.
use Rattle.std.proofs.Common.{◌≡◌, ◌==◌, ℕ, zero, suc, ◌^◌, ◌<◌, ◌≤◌, Bool, true, false, cond, List, [], ◌∷◌, length, ◌||◌, nat_lt, leb, map, refl, sym, ap, ◌∙◌, arith, Some, None, ⊎_elim}
use Rattle.std.specs.Prelude.{decimal, All, slice_get}
use Rattle.std.specs.List.{list_all, list_any}
use Rattle.std.proofs.lemmas.Bool.{and_from, le-leb, le-ltb, ne_eqb}
use Rattle.std.proofs.lemmas.List.{length-map}
use Rattle.op_table.specs.declared.Op.TheVariants.{Truth}
use Rattle.f77_tree.specs.declared.declarations.Kind.{Kind}
use Rattle.f77_tree.specs.declared.declarations.Kind.TheVariants.{Integer, Logical}
use Rattle.f77_tree.specs.declared.expressions.Access.{Access}
use Rattle.f77_tree.specs.declared.expressions.Expr.{Expr}
use Rattle.f77_tree.specs.declared.expressions.Expr.TheVariants.{Input, Read}
use Rattle.f77_tree.specs.declared.programs.Item.{Item}
use Rattle.f77_tree.specs.declared.programs.Item.TheVariants.{Value, Chars}
use Rattle.f77_tree.specs.declared.programs.NameInfo.{NameInfo}
use Rattle.f77_tree.specs.Declarations.{IsNameInfo}
use Rattle.f77_tree.specs.Execution.{words_taken}
use Rattle.f77_tree.specs.Grammar.{IsGrammatical, has_great_number, is_number}
use Rattle.f77_tree.specs.Kinds.{IsAssignment, IsOfKind, IsProper, taken_as}
use Rattle.f77_tree.specs.Name.{is_name}
use Rattle.f77_tree.specs.StatementGrammar.{WrittenStatement, Print_star, Read_star, WrittenItem, IsItem, item_is_great, IsVariable, is_variable, IsStep, step_is_great, is_bad_label, IsStatement}
use Rattle.f77_tree.specs.Value.{kind_of}
use Rattle.f77_tree.specs.WellFormed.{IsProperItem, IsDo}
use Rattle.f77_tree.proofs.AllLemmas.{All-nil, All-cons, All-first, All-rest}
use Rattle.f77_tree.proofs.Taking.{words_taken_apply}
use Rattle.f77_expr.specs.Printing.{Printed, name_in, name_at, printed_access}
use Rattle.f77_expr.proofs.PrintedLaws.{proper-writes}
use Rattle.f77_expr.proofs.PrintedNumbers.{is_number-decimal, number_of-decimal}
use Rattle.fixed_form.specs.Columns.{is_character}
use Rattle.flat_programs.specs.declared.statements.Flat.{Flat}
use Rattle.flat_programs.specs.declared.statements.Flat.TheVariants.{Mark, Assignment, Output, LogicalIf, ArithmeticIf, ComputedGoTo, DoLoop, Jump, Finish}
use Rattle.flat_programs.specs.FlatForm.{IsProperFlat, IsNumber, HasNumbers}
use Rattle.flat_programs.specs.Shown.{written, written_item, is_one, written_step, shown}
use Rattle.read_back.proofs.DeclaredForms.{CanBePrinted}
use Rattle.read_back.proofs.Prints.{IsPrintable, read_prints, assignment_prints, print_prints, continue_prints, end_prints, go_to_prints, computed_prints, arithmetic_prints, logical_prints, do_prints}

-- ---- labels

none_of : (a b : Bool) → a ≡ false → b ≡ false → (a || b) ≡ false
none_of true b h k = absurd cc
none_of false b h k = k

-- digits of a label
record IsLabel (digits : List ℕ) : Type 0 where
  number : is_number digits ≡ true
  good : is_bad_label digits ≡ false

good_label : (m most : ℕ) → 1 ≤ m → m ≤ most → ((m == 0) || nat_lt most m) ≡ false
good_label m most least le = none_of (m == 0) (nat_lt most m) (ne_eqb m 0 (λ e. omega (arith, e, least))) (le-ltb most m le)

label_is : (count m : ℕ) → count ≤ 99999 → IsNumber count m → IsLabel (decimal m)
label_is count m few is =
    let least = is.least in
    let most = is.most in
    let le : m ≤ 99999 = omega (arith, few, most) in
    let fits : m < 2 ^ 64 = omega (arith, le) in
    record {
      number = is_number-decimal m fits;
      good = ap (λ n. (n == 0) || nat_lt 99999 n) (number_of-decimal m fits) ∙ good_label m 99999 least le;
    }

labels_are : (count : ℕ) (ms : List ℕ) → count ≤ 99999 → All (IsNumber count) ms → (list_all is_number (map decimal ms) ≡ true) × (list_any is_bad_label (map decimal ms) ≡ false)
labels_are count [] few all = (refl, refl)
labels_are count (m ∷ ms) few all =
    let here = label_is count m few (All-first (IsNumber count) m ms all) in
    let rest = labels_are count ms few (All-rest (IsNumber count) m ms all) in
    (and_from (is_number (decimal m)) (list_all is_number (map decimal ms)) here.number rest.0, none_of (is_bad_label (decimal m)) (list_any is_bad_label (map decimal ms)) here.good rest.1)

-- ---- expressions

pub taken-one : (kind : Kind) → words_taken (taken_as kind) ≡ 1
taken-one Integer = refl
taken-one Logical = words_taken_apply Truth (Input ∷ [])

-- the value of an assignment that takes no data is an expression of the program
pub value_proper : (names : List NameInfo) (target : Access) (value : Expr) → IsAssignment names target value → (words_taken value == 1) ≡ false → IsProper names value
value_proper names target value is none =
    ⊎_elim
    (λ (of : IsOfKind names (kind_of names target.name) value). of.proper)
    (λ (taken : value ≡ taken_as (kind_of names target.name)).
    let one : words_taken value ≡ 1 = ap words_taken taken ∙ taken-one (kind_of names target.name) in
    let e : true ≡ false = ap (λ n. n == 1) (sym one) ∙ none in
    absurd cc)
    is.of_kind

access_variable : (name : List ℕ) (subs : List Printed) → is_variable (printed_access name subs).alone ≡ true
access_variable name [] = refl
access_variable name (sub ∷ subs) = refl

character_at : (c : ℕ) → (32 ≤ c) × (c ≤ 126) → is_character c ≡ true
character_at c h = and_from (leb 32 c) (leb c 126) (le-leb 32 c h.0) (le-leb c 126 h.1)

abbrev IsPrinted : ℕ → Type 0
IsPrinted c = (32 ≤ c) × (c ≤ 126)

characters_at : (cs : List ℕ) → All IsPrinted cs → list_all is_character cs ≡ true
characters_at [] all = refl
characters_at (c ∷ cs) all =
    and_from (is_character c) (list_all is_character cs) (character_at c (All-first IsPrinted c cs all)) (characters_at cs (All-rest IsPrinted c cs all))

name_symbolic : (names : List NameInfo) (k : ℕ) → All IsNameInfo names → k < length names → is_name (name_in (slice_get names k)) ≡ true
name_symbolic [] k all lt = absurd (omega (arith, lt))
name_symbolic (info ∷ names) zero all lt = (All-first IsNameInfo info names all).symbolic
name_symbolic (info ∷ names) (suc k) all lt = name_symbolic names k (All-rest IsNameInfo info names all) (omega (arith, lt))

module _ (names : List NameInfo) (table : All IsNameInfo names) where
  symbolic : All (λ (info : NameInfo). is_name info.name ≡ true) names
  symbolic k d lt = (table k d lt).symbolic

  grammatical : (e : Expr) → IsProper names e → IsGrammatical (written names e)
  grammatical e proper = (proper-writes names e proper symbolic).grammatical

  small : (e : Expr) → IsProper names e → has_great_number (written names e) ≡ false
  small e proper = (proper-writes names e proper symbolic).constants

  variable : (target : Access) → IsProper names (Read target) → IsVariable (written names (Read target))
  variable target proper = record { grammatical = grammatical (Read target) proper; variable = access_variable (name_at names target.name) _ }

  -- ---- assignments

  read_can : (target : Access) → IsProper names (Read target) → CanBePrinted (WrittenStatement.read Read_star (written names (Read target) ∷ []))
  read_can target proper =
      let w = written names (Read target) in
      let grammar : IsStatement (WrittenStatement.read Read_star (w ∷ [])) = (omega arith, All-cons IsVariable w [] (variable target proper) (All-nil IsVariable)) in
      record { prints = read_prints w grammar; grammatical = grammar; constants = none_of (has_great_number w) false (small (Read target) proper) refl }

  assign_can : (target : Access) (value : Expr) → IsProper names (Read target) → IsProper names value → CanBePrinted (WrittenStatement.assignment (written names (Read target)) (written names value))
  assign_can target value proper of =
      let a = written names (Read target) in
      let b = written names value in
      let grammar : IsStatement (WrittenStatement.assignment a b) = (variable target proper, grammatical value of) in
      record { prints = assignment_prints a b grammar; grammatical = grammar; constants = none_of (has_great_number a) (has_great_number b) (small (Read target) proper) (small value of) }

  assigned_can : (target : Access) (value : Expr) (takes : Bool) → IsAssignment names target value → (words_taken value == 1) ≡ takes → CanBePrinted (cond takes (WrittenStatement.read Read_star (written names (Read target) ∷ [])) (WrittenStatement.assignment (written names (Read target)) (written names value)))
  assigned_can target value true is takes = read_can target is.access
  assigned_can target value false is takes = assign_can target value is.access (value_proper names target value is takes)

  -- ---- output

  item_is : (item : Item) → IsProperItem names item → IsItem (written_item names item)
  item_is (Value e) proper = grammatical e proper
  item_is (Chars text) proper = let some = proper.some in omega (arith, some)

  item_printable : (item : Item) → IsProperItem names item → IsPrintable (written_item names item)
  item_printable (Value e) proper = tt
  item_printable (Chars text) proper = characters_at text proper.printable

  item_small : (item : Item) → IsProperItem names item → item_is_great (written_item names item) ≡ false
  item_small (Value e) proper = small e proper
  item_small (Chars text) proper = refl

  record AreItems (items : List WrittenItem) : Type 0 where
    are : All IsItem items
    printable : All IsPrintable items
    small_ones : list_any item_is_great items ≡ false

  items_are : (items : List Item) → All (IsProperItem names) items → AreItems (map (written_item names) items)
  items_are [] all = record { are = All-nil IsItem; printable = All-nil IsPrintable; small_ones = refl }
  items_are (item ∷ items) all =
      let here = All-first (IsProperItem names) item items all in
      let rest = items_are items (All-rest (IsProperItem names) item items all) in
      let w = written_item names item in
      let ws = map (written_item names) items in
      record {
        are = All-cons IsItem w ws (item_is item here) rest.are;
        printable = All-cons IsPrintable w ws (item_printable item here) rest.printable;
        small_ones = none_of (item_is_great w) (list_any item_is_great ws) (item_small item here) rest.small_ones;
      }

  output_can : (items : List Item) → All (IsProperItem names) items → CanBePrinted (WrittenStatement.print Print_star (map (written_item names) items))
  output_can items all =
      let ws = map (written_item names) items in
      let of = items_are items all in
      record { prints = print_prints ws of.are of.printable; grammatical = of.are; constants = of.small_ones }

  -- ---- control

  go_to_can : (count m : ℕ) → count ≤ 99999 → IsNumber count m → CanBePrinted (WrittenStatement.go_to (decimal m))
  go_to_can count m few is =
      let label = label_is count m few is in
      record { prints = go_to_prints (decimal m) label.number; grammatical = label.number; constants = label.good }

  logical_can : (condition : Expr) (count m : ℕ) → IsProper names condition → count ≤ 99999 → IsNumber count m → CanBePrinted (WrittenStatement.logical_if (written names condition) (WrittenStatement.go_to (decimal m)))
  logical_can condition count m proper few is =
      let w = written names condition in
      let inner = go_to_can count m few is in
      record {
        prints = logical_prints w (WrittenStatement.go_to (decimal m)) (grammatical condition proper) inner.prints;
        grammatical = (grammatical condition proper, inner.grammatical, refl);
        constants = none_of (has_great_number w) (is_bad_label (decimal m)) (small condition proper) inner.constants;
      }

  arithmetic_can : (value : Expr) (count below at above : ℕ) → IsProper names value → count ≤ 99999 → All (IsNumber count) (below ∷ at ∷ above ∷ []) → CanBePrinted (WrittenStatement.arithmetic_if (written names value) (decimal below) (decimal at) (decimal above))
  arithmetic_can value count below at above proper few all =
      let w = written names value in
      let labels = labels_are count (below ∷ at ∷ above ∷ []) few all in
      let grammar : IsStatement (WrittenStatement.arithmetic_if w (decimal below) (decimal at) (decimal above)) = (grammatical value proper, labels.0) in
      record {
        prints = arithmetic_prints w (decimal below) (decimal at) (decimal above) grammar;
        grammatical = grammar;
        constants = none_of (has_great_number w) (list_any is_bad_label (decimal below ∷ decimal at ∷ decimal above ∷ [])) (small value proper) labels.1;
      }

  computed_can : (value : Expr) (count : ℕ) (targets : List ℕ) → IsProper names value → 0 < length targets → count ≤ 99999 → All (IsNumber count) targets → CanBePrinted (WrittenStatement.computed_go_to (map decimal targets) true (written names value))
  computed_can value count targets proper some few all =
      let w = written names value in
      let labels = labels_are count targets few all in
      let size = length-map targets decimal in
      let grammar : IsStatement (WrittenStatement.computed_go_to (map decimal targets) true w) = (omega (arith, some, size), labels.0, grammatical value proper) in
      record {
        prints = computed_prints (map decimal targets) w grammar;
        grammatical = grammar;
        constants = none_of (list_any is_bad_label (map decimal targets)) (has_great_number w) labels.1 (small value proper);
      }

  step_is : (step : Expr) (one : Bool) → IsProper names step → IsStep (cond one None (Some (written names step)))
  step_is step true proper = tt
  step_is step false proper = grammatical step proper

  step_small : (step : Expr) (one : Bool) → IsProper names step → step_is_great (cond one None (Some (written names step))) ≡ false
  step_small step true proper = refl
  step_small step false proper = small step proper

  loop_can : (count end var : ℕ) (first last step : Expr) → count ≤ 99999 → IsNumber count end → IsDo names var (first ∷ last ∷ step ∷ []) → CanBePrinted (shown names (DoLoop end var first last step))
  loop_can count end var first last step few is of =
      let label = label_is count end few is in
      let integer = IsOfKind names Integer in
      let a = All-first integer first (last ∷ step ∷ []) of.integers in
      let later = All-rest integer first (last ∷ step ∷ []) of.integers in
      let b = All-first integer last (step ∷ []) later in
      let c = All-first integer step [] (All-rest integer last (step ∷ []) later) in
      let name = name_symbolic names var table of.variable.known in
      let grammar : IsStatement (shown names (DoLoop end var first last step)) = (label.number, name, grammatical first a.proper, grammatical last b.proper, step_is step (is_one step) c.proper) in
      record {
        prints = do_prints (decimal end) (name_at names var) (written names first) (written names last) (written_step names step) grammar;
        grammatical = grammar;
        constants = none_of (is_bad_label (decimal end) || has_great_number (written names first) || has_great_number (written names last)) (step_is_great (written_step names step)) (none_of (is_bad_label (decimal end) || has_great_number (written names first)) (has_great_number (written names last)) (none_of (is_bad_label (decimal end)) (has_great_number (written names first)) label.good (small first a.proper)) (small last b.proper)) (step_small step (is_one step) c.proper);
      }

  -- ---- all

  pub shown_can : (count : ℕ) (stmt : Flat) → count ≤ 99999 → IsProperFlat names stmt → HasNumbers count stmt → CanBePrinted (shown names stmt)
  shown_can count Mark few proper has = record { prints = continue_prints; grammatical = tt; constants = refl }
  shown_can count (Assignment target value) few proper has = assigned_can target value (words_taken value == 1) proper refl
  shown_can count (Output items) few proper has = output_can items proper
  shown_can count (LogicalIf condition target) few proper has = logical_can condition count target proper.proper few (All-first (IsNumber count) target [] has.jumps)
  shown_can count (ArithmeticIf value below at above) few proper has = arithmetic_can value count below at above proper.proper few has.jumps
  shown_can count (ComputedGoTo value targets) few proper has = computed_can value count targets proper.0.proper proper.1 few has.jumps
  shown_can count (DoLoop end var first last step) few proper has = loop_can count end var first last step few (All-first (IsNumber count) end [] has.range_end) proper
  shown_can count (Jump target) few proper has = go_to_can count target few (All-first (IsNumber count) target [] has.jumps)
  shown_can count Finish few proper has = record { prints = end_prints; grammatical = tt; constants = refl }
