-- The names in the statements of a source are symbolic names.
use Rattle.std.proofs.Common.{◌≡◌, ℕ, Bool, true, not, ◌&&◌, ◌||◌, List, [], ◌∷◌, ◌++◌, length, map, Option, Some, None, All, refl, sym, subst, ◌∙◌}
use Rattle.std.specs.Prelude.{bytes_eq, flat_map, fold, nat_le, nat_lt}
use Rattle.std.specs.List.{list_all, list_any}
use Rattle.std.proofs.lemmas.Bool.{and_from, and_parts, cond_both}
use Rattle.std.proofs.lemmas.List.Elements.{All-map}
use Rattle.std.proofs.lemmas.List.Folds.{list_all-append}
use Rattle.std.proofs.lemmas.List.Sums.{AllPass-from_list_all}
use Rattle.op_table.specs.declared.Op.TheVariants.{Neg, Not}
use Rattle.f77_tree.specs.Grammar.{Arguments, AreGrammatical, IsGrammatical, Written, reading, readings}
use Rattle.f77_tree.specs.declared.statements.Labelled.{Labelled}
use Rattle.f77_tree.specs.declared.statements.Stmt.{Stmt}
use Rattle.f77_tree.specs.Name.{is_name}
use Rattle.f77_tree.specs.StatementGrammar.{IsDecl, IsGiven, IsItem, IsPart, IsStatement, IsStep, IsVariable, WrittenData, WrittenDecl, WrittenItem, Expression, Characters, WrittenMember, WrittenStatement, data_of, decl_of, is_data, is_group, is_member, is_signed, is_value, item_of, member_of, part_of, statement_of, step_of}
use Rattle.f77_tree.proofs.AllLemmas.{All-first, All-rest}
use Rattle.layout_rules.specs.Appearances.{all_names, appearing, called_name, names_if_any, names_in, names_in_item, with_name}
use Rattle.layout_rules.specs.Declarations.{is_array}
use Rattle.layout_rules.specs.Layout.{name_info, names_of}
use Rattle.layout_rules.specs.Source.{IsSource}
use Rattle.layout_rules.specs.StatementTrees.{IsTree}
use Rattle.layout_rules.specs.Types.{is_intrinsic}
use Rattle.layout_rules.proofs.NamesIn.{names_in-Apply, names_in-Call}
use Rattle.layout_rules.proofs.NamesOf.{appearing-ThenIf}

-- each is a symbolic name
abbrev AreSymbolic : List (List ℕ) → Type 0
AreSymbolic names = list_all is_name names ≡ true

joined : (xs ys : List (List ℕ)) → AreSymbolic xs → AreSymbolic ys → AreSymbolic (xs ++ ys)
joined xs ys h i = list_all-append is_name xs ys ∙ and_from (list_all is_name xs) (list_all is_name ys) h i

one : (name : List ℕ) → is_name name ≡ true → AreSymbolic (name ∷ [])
one name is = and_from (is_name name) true is refl

-- the names of each item
each : {W X : Type 0} (P : W → Type 0) (of : W → X) (names : X → List (List ℕ)) → ((w : W) → P w → AreSymbolic (names (of w))) → (ws : List W) → All P ws → AreSymbolic (flat_map names (map of ws))
each P of names symbolic [] all = refl
each P of names symbolic (w ∷ ws) all =
    joined (names (of w)) (flat_map names (map of ws)) (symbolic w (All-first P w ws all)) (each P of names symbolic ws (All-rest P w ws all))

-- the name of each item
each_name : {W X : Type 0} (P : W → Type 0) (of : W → X) (name : X → List ℕ) → ((w : W) → P w → is_name (name (of w)) ≡ true) → (ws : List W) → All P ws → AreSymbolic (map name (map of ws))
each_name P of name symbolic [] all = refl
each_name P of name symbolic (w ∷ ws) all =
    and_from (is_name (name (of w))) (list_all is_name (map name (map of ws))) (symbolic w (All-first P w ws all)) (each_name P of name symbolic ws (All-rest P w ws all))

-- ---- expressions

module _ (arrays : List ℕ → Bool) where
  called_symbolic : (name : List ℕ) → is_name name ≡ true → AreSymbolic (called_name arrays name)
  called_symbolic name is = cond_both (arrays name || not (is_intrinsic name)) (name ∷ []) [] AreSymbolic (λ t. one name is) (λ f. refl)

  mutual
    pub expression_symbolic : (w : Written) → IsGrammatical w → AreSymbolic (names_in arrays (reading w))
    expression_symbolic (Written.number digits) is = refl
    expression_symbolic (Written.truth b) is = refl
    expression_symbolic (Written.name n) is = one n is
    expression_symbolic (Written.call n arguments) is =
        subst AreSymbolic (sym (names_in-Call arrays n (readings arguments))) (joined (called_name arrays n) (flat_map (names_in arrays) (readings arguments)) (called_symbolic n is.0) (arguments_symbolic arguments is.1))
    expression_symbolic (Written.bracketed w) is = expression_symbolic w is
    expression_symbolic (Written.plus w) is = expression_symbolic w is.0
    expression_symbolic (Written.minus w) is = subst AreSymbolic (sym (names_in-Apply arrays Neg (reading w ∷ []))) (joined (names_in arrays (reading w)) [] (expression_symbolic w is.0) refl)
    expression_symbolic (Written.negation w) is = subst AreSymbolic (sym (names_in-Apply arrays Not (reading w ∷ []))) (joined (names_in arrays (reading w)) [] (expression_symbolic w is.0) refl)
    expression_symbolic (Written.binary op a b) is =
        subst AreSymbolic (sym (names_in-Apply arrays op (reading a ∷ reading b ∷ [])))
        (joined (names_in arrays (reading a)) (names_in arrays (reading b) ++ []) (expression_symbolic a is.0) (joined (names_in arrays (reading b)) [] (expression_symbolic b is.1) refl))

    arguments_symbolic : (arguments : Arguments) → AreGrammatical arguments → AreSymbolic (flat_map (names_in arrays) (readings arguments))
    arguments_symbolic (Arguments.last w) is = joined (names_in arrays (reading w)) [] (expression_symbolic w is) refl
    arguments_symbolic (Arguments.before w more) is = joined (names_in arrays (reading w)) (flat_map (names_in arrays) (readings more)) (expression_symbolic w is.0) (arguments_symbolic more is.1)

  item_symbolic : (item : WrittenItem) → IsItem item → AreSymbolic (names_in_item arrays (item_of item))
  item_symbolic (Expression w) is = expression_symbolic w is
  item_symbolic (Characters characters) is = refl

  step_symbolic : (step : Option Written) → IsStep step → AreSymbolic (names_if_any arrays (step_of step))
  step_symbolic None is = refl
  step_symbolic (Some w) is = expression_symbolic w is

-- ---- declarations

decls_symbolic : (decls : List WrittenDecl) → All IsDecl decls → AreSymbolic (map (λ decl. decl.name) (map decl_of decls))
decls_symbolic decls all = each_name IsDecl decl_of (λ decl. decl.name) (λ w is. is.symbolic) decls all

members_symbolic : (members : List WrittenMember) → list_all is_member members ≡ true → AreSymbolic (map (λ member. member.name) (map member_of members))
members_symbolic members tested = each_name (λ m. is_member m ≡ true) member_of (λ member. member.name) (λ m is. (and_parts (is_name m.name) (list_all is_signed m.subs) is).0) members (AllPass-from_list_all is_member members tested)

groups_symbolic : (groups : List (List WrittenMember)) → list_all is_group groups ≡ true → AreSymbolic (flat_map (λ group. map (λ member. member.name) group) (map (λ members. map member_of members) groups))
groups_symbolic groups tested =
    each (λ members. is_group members ≡ true) (λ members. map member_of members) (λ group. map (λ member. member.name) group) (λ members is. members_symbolic members (and_parts (nat_le 2 (length members)) (list_all is_member members) is).1) groups (AllPass-from_list_all is_group groups tested)

items_tested : (d : WrittenData) → is_data d ≡ true → list_all is_member d.items ≡ true
items_tested d tested =
    let with_values = and_parts (nat_lt 0 (length d.items) && list_all is_member d.items && nat_lt 0 (length d.values)) (list_all is_value d.values) tested in
    let some = and_parts (nat_lt 0 (length d.items) && list_all is_member d.items) (nat_lt 0 (length d.values)) with_values.0 in
    (and_parts (nat_lt 0 (length d.items)) (list_all is_member d.items) some.0).1

data_symbolic : (parts : List WrittenData) → list_all is_data parts ≡ true → AreSymbolic (flat_map (λ part. map (λ item. item.name) part.items) (map data_of parts))
data_symbolic parts tested = each (λ d. is_data d ≡ true) data_of (λ part. map (λ item. item.name) part.items) (λ d is. members_symbolic d.items (items_tested d is)) parts (AllPass-from_list_all is_data parts tested)

-- ---- statements

statement_symbolic : (arrays : List ℕ → Bool) (s : WrittenStatement) → IsStatement s → AreSymbolic (appearing arrays (statement_of s))
statement_symbolic arrays (WrittenStatement.typed kind decls) is = decls_symbolic decls is.1
statement_symbolic arrays (WrittenStatement.dimension decls) is = decls_symbolic decls is.1
statement_symbolic arrays (WrittenStatement.common parts) is = each IsPart part_of (λ part. map (λ decl. decl.name) part.decls) (λ w part. decls_symbolic w.decls part.decls) parts is.1
statement_symbolic arrays (WrittenStatement.equivalence groups) is = groups_symbolic groups is.1
statement_symbolic arrays (WrittenStatement.init parts) is = data_symbolic parts is.1
statement_symbolic arrays (WrittenStatement.assignment target value) is =
    joined (names_in arrays (reading target)) (names_in arrays (reading value)) (expression_symbolic arrays target is.0.grammatical) (expression_symbolic arrays value is.1)
statement_symbolic arrays (WrittenStatement.print form items) is = each IsItem item_of (names_in_item arrays) (item_symbolic arrays) items is
statement_symbolic arrays (WrittenStatement.read form targets) is = each IsVariable reading (names_in arrays) (λ w variable. expression_symbolic arrays w variable.grammatical) targets is.1
statement_symbolic arrays (WrittenStatement.computed_go_to labels comma w) is = expression_symbolic arrays w is.2
statement_symbolic arrays (WrittenStatement.arithmetic_if w negative zero positive) is = expression_symbolic arrays w is.0
statement_symbolic arrays (WrittenStatement.logical_if w s) is =
    subst AreSymbolic (sym (appearing-ThenIf arrays (reading w) (statement_of s)))
    (joined (names_in arrays (reading w)) (appearing arrays (statement_of s)) (expression_symbolic arrays w is.0) (statement_symbolic arrays s is.1))
statement_symbolic arrays (WrittenStatement.block_if w) is = expression_symbolic arrays w is
statement_symbolic arrays (WrittenStatement.else_if w) is = expression_symbolic arrays w is
statement_symbolic arrays (WrittenStatement.do_loop label comma variable first last step) is =
    let beyond = names_in arrays (reading first) ++ names_in arrays (reading last) ++ names_if_any arrays (step_of step) in
    and_from (is_name variable) (list_all is_name beyond) is.1
    (joined (names_in arrays (reading first) ++ names_in arrays (reading last)) (names_if_any arrays (step_of step))
    (joined (names_in arrays (reading first)) (names_in arrays (reading last)) (expression_symbolic arrays first is.2) (expression_symbolic arrays last is.3))
    (step_symbolic arrays step is.4))
statement_symbolic arrays _ is = refl

-- the names of a statement of a source
pub given_symbolic : (arrays : List ℕ → Bool) (stmt : Stmt) → IsGiven stmt → list_all is_name (appearing arrays stmt) ≡ true
given_symbolic arrays stmt given =
    subst (λ (s : Stmt). AreSymbolic (appearing arrays s)) given.is_read.is (statement_symbolic arrays given.is_read.written given.is_read.spells.grammatical)

-- ---- the table of names

statements_symbolic : (arrays : List ℕ → Bool) (stmts : List Labelled) → All (λ s. IsTree s.stmt) stmts → AreSymbolic (flat_map (λ s. appearing arrays s.stmt) stmts)
statements_symbolic arrays [] all = refl
statements_symbolic arrays (s ∷ stmts) all =
    joined (appearing arrays s.stmt) (flat_map (λ a. appearing arrays a.stmt) stmts) ((All-first (λ a. IsTree a.stmt) s stmts all).names arrays) (statements_symbolic arrays stmts (All-rest (λ a. IsTree a.stmt) s stmts all))

with_symbolic : (seen : List (List ℕ)) (name : List ℕ) → AreSymbolic seen → is_name name ≡ true → AreSymbolic (with_name seen name)
with_symbolic seen name symbolic is = cond_both (list_any (bytes_eq name) seen) seen (seen ++ name ∷ []) AreSymbolic (λ met. symbolic) (λ absent. joined seen (name ∷ []) symbolic (one name is))

once_symbolic : (seen names : List (List ℕ)) → AreSymbolic seen → AreSymbolic names → AreSymbolic (fold with_name seen names)
once_symbolic seen [] symbolic rest = symbolic
once_symbolic seen (name ∷ names) symbolic rest =
    once_symbolic (with_name seen name) names (with_symbolic seen name symbolic ((and_parts (is_name name) (list_all is_name names) rest).0)) ((and_parts (is_name name) (list_all is_name names) rest).1)

-- each name in the table is symbolic
pub table_symbolic : (stmts : List Labelled) → IsSource stmts → All (λ info. is_name info.name ≡ true) (names_of stmts)
table_symbolic stmts source =
    All-map (λ info. is_name info.name ≡ true) (name_info stmts) (all_names stmts) (AllPass-from_list_all is_name (all_names stmts) (once_symbolic [] (flat_map (λ s. appearing (is_array stmts) s.stmt) stmts) refl (statements_symbolic (is_array stmts) stmts source.trees)))
