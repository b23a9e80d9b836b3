-- The printed texts of statements are read as their texts.
use Rattle.std.proofs.Common.{◌≡◌, ℕ, true, false, not, List, [], ◌∷◌, ◌++◌, nat_le, map, refl, ap, ◌∙◌, arith, append-nil, Option}
use Rattle.std.specs.Prelude.{codes, All}
use Rattle.std.specs.List.{list_all}
use Rattle.std.proofs.lemmas.Bool.{and_parts, ne_eqb, leb-true}
use Rattle.f77_tree.specs.declared.declarations.Kind.{Kind}
use Rattle.f77_tree.specs.declared.declarations.Kind.TheVariants.{Integer, Logical}
use Rattle.f77_tree.specs.Name.{is_name}
use Rattle.f77_tree.specs.Grammar.{Written, IsGrammatical, is_number, spelling}
use Rattle.f77_tree.specs.StatementGrammar.{WrittenStatement, Print_star, Read_star, WrittenDecl, WrittenBlock, WrittenMember, WrittenData, WrittenItem, Expression, Characters, IsItem, item_text, IsPart, IsStatement, IsVariable, is_variable, is_group, is_data, block_text, decls_text, group_text, data_text, in_brackets, with_commas, after_commas, step_text, statement_text}
use Rattle.f77_tree.proofs.AllLemmas.{All-first, All-rest}
use Rattle.fixed_form.specs.Columns.{is_character}
use Rattle.read_back.specs.ReadLines.{begins_visibly}
use Rattle.flat_programs.specs.Typeset.{blank, typeset}
use Rattle.read_back.proofs.Folds.{Folds, AllFold, both, plain_folds, constant_folds, after_commas_fold}
use Rattle.read_back.proofs.PlainTexts.{Plain, joined, number_plain, name_parts, spelling_plain}
use Rattle.read_back.proofs.PlainParts.{commas_plain, brackets_plain, numbers_plain, decls_plain, block_plain, group_plain, data_plain, step_plain}

-- a statement whose printed text is read as its text
pub record Prints (w : WrittenStatement) : Type 0 where
  pub folds : Folds (typeset w) (statement_text w)
  pub begins : begins_visibly (typeset w) ≡ true

folds_to : (a x y : List ℕ) → x ≡ y → Folds a x → Folds a y
folds_to a x y e f = record { is = f.is ∙ e; closed = f.closed; characters = f.characters }

blank_folds : Folds blank []
blank_folds = record { is = refl; closed = refl; characters = refl }

-- a blank behind it is dropped
then_blank : (a x : List ℕ) → Folds a x → Folds (a ++ blank) x
then_blank a x f = folds_to (a ++ blank) (x ++ []) x (append-nil x) (both a blank x [] f blank_folds)

-- a plain text after it
then_plain : (a x t : List ℕ) → Folds a x → Plain t → Folds (a ++ t) (x ++ t)
then_plain a x t f plain = both a t x t f (plain_folds t plain)

-- ---- declarations

pub typed_prints : (kind : Kind) (decls : List WrittenDecl) → IsStatement (WrittenStatement.typed kind decls) → Prints (WrittenStatement.typed kind decls)
typed_prints Integer decls is = record {
  folds = then_plain (codes "INTEGER ") (codes "INTEGER") (decls_text decls) (record { is = refl; closed = refl; characters = refl }) (decls_plain decls is.1);
  begins = refl;
}
typed_prints Logical decls is = record {
  folds = then_plain (codes "LOGICAL ") (codes "LOGICAL") (decls_text decls) (record { is = refl; closed = refl; characters = refl }) (decls_plain decls is.1);
  begins = refl;
}

pub common_prints : (block : WrittenBlock) (decls : List WrittenDecl) → IsStatement (WrittenStatement.common (record { comma = false; block = block; decls = decls } ∷ [])) → Prints (WrittenStatement.common (record { comma = false; block = block; decls = decls } ∷ []))
common_prints block decls is =
    let part = All-first IsPart (record { comma = false; block = block; decls = decls }) [] is.1 in
    let name = block_text block in
    let names = decls_text decls in
    let inner : Folds (name ++ blank ++ names ++ []) (name ++ names ++ []) = then_plain (name ++ blank ++ names) (name ++ names) [] (then_plain (name ++ blank) name names (then_blank name name (plain_folds name (block_plain block part.block))) (decls_plain decls part.decls)) refl in
    record {
      folds = both (codes "COMMON ") (name ++ blank ++ names ++ []) (codes "COMMON") (name ++ names ++ []) (record { is = refl; closed = refl; characters = refl }) inner;
      begins = refl;
    }

pub equivalence_prints : (group : List WrittenMember) → IsStatement (WrittenStatement.equivalence (group ∷ [])) → Prints (WrittenStatement.equivalence (group ∷ []))
equivalence_prints group is = record {
  folds = then_plain (codes "EQUIVALENCE ") (codes "EQUIVALENCE") (group_text group) (record { is = refl; closed = refl; characters = refl }) (group_plain group (and_parts (is_group group) true is.1).0);
  begins = refl;
}

pub init_prints : (part : WrittenData) → IsStatement (WrittenStatement.init (part ∷ [])) → Prints (WrittenStatement.init (part ∷ []))
init_prints part is = record {
  folds = then_plain (codes "DATA ") (codes "DATA") (data_text part ++ []) (record { is = refl; closed = refl; characters = refl }) (joined (data_text part) [] (data_plain part (and_parts (is_data part) true is.1).0) refl);
  begins = refl;
}

-- ---- assignments, input and output

name_begins : (name : List ℕ) (rest : List ℕ) → is_name name ≡ true → begins_visibly (name ++ rest) ≡ true
name_begins [] rest h = absurd cc
name_begins (c ∷ more) rest h =
    let parts = name_parts (c ∷ more) h in
    let least = leb-true 65 c (and_parts (nat_le 65 c) (nat_le c 90) parts.capital).0 in
    ap not (ne_eqb c 32 (λ e. omega (arith, e, least)))

variable_begins : (w : Written) (a b : List ℕ) → IsGrammatical w → is_variable w ≡ true → begins_visibly (spelling w ++ a ++ b) ≡ true
variable_begins (Written.name []) a b is v = absurd cc
variable_begins (Written.name (c ∷ more)) a b is v = name_begins (c ∷ more) [] is
variable_begins (Written.call [] arguments) a b is v = absurd cc
variable_begins (Written.call (c ∷ more) arguments) a b is v = name_begins (c ∷ more) [] is.0
variable_begins (Written.number digits) a b is v = absurd cc
variable_begins (Written.truth t) a b is v = absurd cc
variable_begins (Written.bracketed w) a b is v = absurd cc
variable_begins (Written.plus w) a b is v = absurd cc
variable_begins (Written.minus w) a b is v = absurd cc
variable_begins (Written.negation w) a b is v = absurd cc
variable_begins (Written.binary op x y) a b is v = absurd cc

pub assignment_prints : (target value : Written) → IsStatement (WrittenStatement.assignment target value) → Prints (WrittenStatement.assignment target value)
assignment_prints target value is =
    let left = spelling target in
    let plain = joined (left ++ codes "=") (spelling value) (joined left (codes "=") (spelling_plain target is.0.grammatical) refl) (spelling_plain value is.1) in
    record {
      folds = plain_folds (left ++ codes "=" ++ spelling value) plain;
      begins = variable_begins target (codes "=") (spelling value) is.0.grammatical is.0.variable;
    }

pub read_prints : (target : Written) → IsStatement (WrittenStatement.read Read_star (target ∷ [])) → Prints (WrittenStatement.read Read_star (target ∷ []))
read_prints target is =
    let variable = All-first IsVariable target [] is.1 in
    record {
      folds = then_plain (codes "READ *,") (codes "READ*,") (spelling target) (record { is = refl; closed = refl; characters = refl }) (spelling_plain target variable.grammatical);
      begins = refl;
    }

-- an item whose characters a source can have
abbrev pub IsPrintable : WrittenItem → Type 0
IsPrintable (Expression w) = Unit {0}
IsPrintable (Characters characters) = list_all is_character characters ≡ true

item_folds : (item : WrittenItem) → IsItem item → IsPrintable item → Folds (item_text item) (item_text item)
item_folds (Expression w) is printable = plain_folds (spelling w) (spelling_plain w is)
item_folds (Characters characters) is printable = constant_folds characters printable

items_fold : (items : List WrittenItem) → All IsItem items → All IsPrintable items → AllFold (map item_text items)
items_fold [] are printable = tt
items_fold (item ∷ items) are printable =
    (item_folds item (All-first IsItem item items are) (All-first IsPrintable item items printable), items_fold items (All-rest IsItem item items are) (All-rest IsPrintable item items printable))

pub print_prints : (items : List WrittenItem) → IsStatement (WrittenStatement.print Print_star items) → All IsPrintable items → Prints (WrittenStatement.print Print_star items)
print_prints items is printable = record {
  folds = both (codes "PRINT *") (after_commas (map item_text items)) (codes "PRINT*") (after_commas (map item_text items)) (record { is = refl; closed = refl; characters = refl }) (after_commas_fold (map item_text items) (items_fold items is printable));
  begins = refl;
}

-- ---- control

pub continue_prints : Prints WrittenStatement.continue
continue_prints = record { folds = plain_folds (codes "CONTINUE") refl; begins = refl }

pub end_prints : Prints WrittenStatement.end
end_prints = record { folds = plain_folds (codes "END") refl; begins = refl }

pub go_to_prints : (label : List ℕ) → is_number label ≡ true → Prints (WrittenStatement.go_to label)
go_to_prints label is = record {
  folds = then_plain (codes "GO TO ") (codes "GOTO") label (record { is = refl; closed = refl; characters = refl }) (number_plain label is);
  begins = refl;
}

pub computed_prints : (labels : List (List ℕ)) (w : Written) → IsStatement (WrittenStatement.computed_go_to labels true w) → Prints (WrittenStatement.computed_go_to labels true w)
computed_prints labels w is =
    let list = in_brackets (with_commas labels) in
    let head = then_plain (codes "GO TO ") (codes "GOTO") list (record { is = refl; closed = refl; characters = refl }) (brackets_plain (with_commas labels) (commas_plain labels (numbers_plain labels is.1))) in
    record {
      folds = then_plain (codes "GO TO " ++ list ++ codes ",") (codes "GOTO" ++ list ++ codes ",") (spelling w) (then_plain (codes "GO TO " ++ list) (codes "GOTO" ++ list) (codes ",") head refl) (spelling_plain w is.2);
      begins = refl;
    }

-- the condition of an IF, and a blank
condition_folds : (w : Written) → IsGrammatical w → Folds (codes "IF " ++ in_brackets (spelling w) ++ blank) (codes "IF" ++ in_brackets (spelling w))
condition_folds w is =
    let condition = in_brackets (spelling w) in
    then_blank (codes "IF " ++ condition) (codes "IF" ++ condition) (then_plain (codes "IF ") (codes "IF") condition (record { is = refl; closed = refl; characters = refl }) (brackets_plain (spelling w) (spelling_plain w is)))

pub arithmetic_prints : (w : Written) (negative zero positive : List ℕ) → IsStatement (WrittenStatement.arithmetic_if w negative zero positive) → Prints (WrittenStatement.arithmetic_if w negative zero positive)
arithmetic_prints w negative zero positive is =
    let labels = negative ∷ zero ∷ positive ∷ [] in
    record {
      folds = then_plain (codes "IF " ++ in_brackets (spelling w) ++ blank) (codes "IF" ++ in_brackets (spelling w)) (with_commas labels) (condition_folds w is.0) (commas_plain labels (numbers_plain labels is.1));
      begins = refl;
    }

pub logical_prints : (w : Written) (s : WrittenStatement) → IsGrammatical w → Prints s → Prints (WrittenStatement.logical_if w s)
logical_prints w s is prints = record {
  folds = both (codes "IF " ++ in_brackets (spelling w) ++ blank) (typeset s) (codes "IF" ++ in_brackets (spelling w)) (statement_text s) (condition_folds w is) prints.folds;
  begins = refl;
}

pub do_prints : (label variable : List ℕ) (first last : Written) (step : Option Written) → IsStatement (WrittenStatement.do_loop label false variable first last step) → Prints (WrittenStatement.do_loop label false variable first last step)
do_prints label variable first last step is =
    let head = codes "DO" ++ label ++ [] in
    let begun : Folds (codes "DO " ++ label ++ blank ++ []) head = then_plain (codes "DO " ++ label ++ blank) (codes "DO" ++ label) [] (then_blank (codes "DO " ++ label) (codes "DO" ++ label) (then_plain (codes "DO ") (codes "DO") label (record { is = refl; closed = refl; characters = refl }) (number_plain label is.0))) refl in
    let printed = codes "DO " ++ label ++ blank ++ [] in
    let a = spelling first in
    let b = spelling last in
    let named = then_plain printed head variable begun (name_parts variable is.1).plain in
    let equal = then_plain (printed ++ variable) (head ++ variable) (codes "=") named refl in
    let from = then_plain (printed ++ variable ++ codes "=") (head ++ variable ++ codes "=") a equal (spelling_plain first is.2) in
    let comma = then_plain (printed ++ variable ++ codes "=" ++ a) (head ++ variable ++ codes "=" ++ a) (codes ",") from refl in
    let upto = then_plain (printed ++ variable ++ codes "=" ++ a ++ codes ",") (head ++ variable ++ codes "=" ++ a ++ codes ",") b comma (spelling_plain last is.3) in
    record {
      folds = then_plain (printed ++ variable ++ codes "=" ++ a ++ codes "," ++ b) (head ++ variable ++ codes "=" ++ a ++ codes "," ++ b) (step_text step) upto (step_plain step is.4);
      begins = refl;
    }
