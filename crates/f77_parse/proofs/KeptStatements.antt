-- What is kept of a statement is the statement, where no number in it is out of range.
use Rattle.std.proofs.Common.{◌≡◌, ℕ, ℤ, Bool, false, ◌||◌, List, [], ◌∷◌, map, Option, Some, None, refl, sym, ap, ◌∙◌}
use Rattle.std.specs.Prelude.{pos, flat_map}
use Rattle.std.specs.List.{list_any}
use Rattle.std.proofs.lemmas.Bool.{or_parts}
use Rattle.f77_tree.specs.declared.declarations.Dim.{Dim}
use Rattle.f77_tree.specs.declared.declarations.Decl.{Decl}
use Rattle.f77_tree.specs.declared.declarations.Lit.{Lit}
use Rattle.f77_tree.specs.declared.declarations.Lit.TheVariants.{Int}
use Rattle.f77_tree.specs.declared.declarations.CommonPart.{CommonPart}
use Rattle.f77_tree.specs.declared.declarations.Member.{Member}
use Rattle.f77_tree.specs.declared.declarations.InitValue.{InitValue}
use Rattle.f77_tree.specs.declared.declarations.InitPart.{InitPart}
use Rattle.f77_tree.specs.declared.statements.RawExpr.{RawExpr}
use Rattle.f77_tree.specs.declared.statements.RawItem.{RawItem}
use Rattle.f77_tree.specs.declared.statements.RawItem.TheVariants.{Value}
use Rattle.f77_tree.specs.declared.statements.Stmt.{Stmt}
use Rattle.f77_tree.specs.declared.statements.Stmt.TheVariants.{TypeOf, Dimension, Common, Equivalence, Init, Assign, Print, Take, GoTo, PickGoTo, SignIf, ThenIf, BlockIf, ElseIf, Do}
use Rattle.f77_tree.specs.Grammar.{Written, reading, has_great_number, number_of}
use Rattle.f77_tree.specs.StatementGrammar.{SignedDigits, signed_value, whole_number, is_great, are_great, is_bad_label, WrittenDim, dim_of, dim_numbers, WrittenDecl, decl_of, decl_numbers, block_of, WrittenPart, part_of, WrittenMember, member_of, WrittenConstant, constant_of, constant_is_great, WrittenValue, value_of, value_is_bad, WrittenData, data_of, WrittenItem, item_of, item_is_great, step_of, step_is_great, WrittenStatement, statement_of, has_bad_constant}
use Rattle.f77_expr.specs.Answers.{kept}
use Rattle.f77_expr.proofs.Whole.{kept-reading}
use Rattle.f77_parse.specs.KeptValues.{or_zero, kept_label, kept_signed, kept_dim, kept_decl, kept_part, kept_member, kept_constant, is_bad_repeat, kept_value, kept_data, kept_item, kept_step, kept_statement}
use Rattle.f77_parse.proofs.FollowFormsDeclared.{great_in}

-- ---- lists

map_good : {A V : Type 0} (f g : A → V) (is_bad : A → Bool) → ((a : A) → is_bad a ≡ false → f a ≡ g a) → (items : List A) → list_any is_bad items ≡ false → map f items ≡ map g items
map_good f g is_bad each [] good = refl
map_good {V = V} f g is_bad each (a ∷ items) good =
    let parts = or_parts (is_bad a) (list_any is_bad items) good in
    ap (λ (v : V). v ∷ map f items) (each a parts.0) ∙ ap (λ (vs : List V). g a ∷ vs) (map_good f g is_bad each items parts.1)

-- ---- parts

in_range : (is_out : Bool) (n : ℕ) → is_out ≡ false → or_zero is_out n ≡ n
in_range is_out n good = ap (λ (b : Bool). or_zero b n) good

label_good : (digits : List ℕ) → is_bad_label digits ≡ false → kept_label digits ≡ number_of digits
label_good digits good = in_range (is_bad_label digits) (number_of digits) good

signed_good : (n : SignedDigits) → is_great n.digits ≡ false → kept_signed n ≡ whole_number n
signed_good n good = ap (signed_value n.sign) (in_range (is_great n.digits) (number_of n.digits) good)

dim_good : (d : WrittenDim) → are_great (dim_numbers d) ≡ false → kept_dim d ≡ dim_of d
dim_good d good = by d.low good
  where
    by : (low : Option SignedDigits) → are_great (dim_numbers (record { low = low; high = d.high })) ≡ false → kept_dim (record { low = low; high = d.high }) ≡ dim_of (record { low = low; high = d.high })
    by None good = ap (λ (z : ℤ). record { lo = pos 1; hi = z }) (signed_good d.high (or_parts (is_great d.high.digits) false good).0)
    by (Some low) good =
        let parts = or_parts (is_great low.digits) (is_great d.high.digits || false) good in
        ap (λ (z : ℤ). record { lo = z; hi = kept_signed d.high }) (signed_good low parts.0)
        ∙ ap (λ (z : ℤ). record { lo = whole_number low; hi = z }) (signed_good d.high (or_parts (is_great d.high.digits) false parts.1).0)

decl_good : (d : WrittenDecl) → are_great (decl_numbers d) ≡ false → kept_decl d ≡ decl_of d
decl_good d good = ap (λ (dims : List Dim). record { name = d.name; dims = dims }) (map_good kept_dim dim_of (λ dim. are_great (dim_numbers dim)) dim_good d.dims (sym (great_in dim_numbers d.dims) ∙ good))

decls_good : (decls : List WrittenDecl) → are_great (flat_map decl_numbers decls) ≡ false → map kept_decl decls ≡ map decl_of decls
decls_good decls good = map_good kept_decl decl_of (λ d. are_great (decl_numbers d)) decl_good decls (sym (great_in decl_numbers decls) ∙ good)

part_good : (p : WrittenPart) → are_great (flat_map decl_numbers p.decls) ≡ false → kept_part p ≡ part_of p
part_good p good = ap (λ (decls : List Decl). record { block = block_of p.block; decls = decls }) (decls_good p.decls good)

member_good : (m : WrittenMember) → are_great m.subs ≡ false → kept_member m ≡ member_of m
member_good m good = ap (λ (subs : List ℤ). record { name = m.name; subs = subs }) (map_good kept_signed whole_number (λ n. is_great n.digits) signed_good m.subs good)

members_good : (members : List WrittenMember) → are_great (flat_map (λ m. m.subs) members) ≡ false → map kept_member members ≡ map member_of members
members_good members good = map_good kept_member member_of (λ m. are_great m.subs) member_good members (sym (great_in (λ m. m.subs) members) ∙ good)

constant_good : (c : WrittenConstant) → constant_is_great c ≡ false → kept_constant c ≡ constant_of c
constant_good (WrittenConstant.Whole n) good = ap (λ (z : ℤ). Int z) (signed_good n good)
constant_good (WrittenConstant.Logical_value b) good = refl

value_good : (v : WrittenValue) → value_is_bad v ≡ false → kept_value v ≡ value_of v
value_good v good = by v.times good
  where
    by : (times : Option (List ℕ)) → value_is_bad (record { times = times; constant = v.constant }) ≡ false → kept_value (record { times = times; constant = v.constant }) ≡ value_of (record { times = times; constant = v.constant })
    by None good = ap (λ (c : Lit). record { times = 1; value = c }) (constant_good v.constant good)
    by (Some digits) good =
        let parts = or_parts (is_bad_repeat digits) (constant_is_great v.constant) good in
        ap (λ (n : ℕ). record { times = n; value = kept_constant v.constant }) (in_range (is_bad_repeat digits) (number_of digits) parts.0)
        ∙ ap (λ (c : Lit). record { times = number_of digits; value = c }) (constant_good v.constant parts.1)

data_good : (d : WrittenData) → (are_great (flat_map (λ m. m.subs) d.items) || list_any value_is_bad d.values) ≡ false → kept_data d ≡ data_of d
data_good d good =
    let parts = or_parts (are_great (flat_map (λ m. m.subs) d.items)) (list_any value_is_bad d.values) good in
    ap (λ (items : List Member). record { items = items; values = map kept_value d.values }) (members_good d.items parts.0)
    ∙ ap (λ (values : List InitValue). record { items = map member_of d.items; values = values }) (map_good kept_value value_of value_is_bad value_good d.values parts.1)

item_good : (i : WrittenItem) → item_is_great i ≡ false → kept_item i ≡ item_of i
item_good (WrittenItem.Expression w) good = ap (λ (e : RawExpr). Value e) (kept-reading w good)
item_good (WrittenItem.Characters characters) good = refl

step_good : (step : Option Written) → step_is_great step ≡ false → kept_step step ≡ step_of step
step_good None good = refl
step_good (Some w) good = ap (λ (e : RawExpr). Some e) (kept-reading w good)

-- ---- statements

pub statement_good : (s : WrittenStatement) → has_bad_constant s ≡ false → kept_statement s ≡ statement_of s
statement_good (WrittenStatement.program n) good = refl
statement_good WrittenStatement.implicit_none good = refl
statement_good (WrittenStatement.implicit letters) good = refl
statement_good (WrittenStatement.typed kind decls) good = ap (λ (ds : List Decl). TypeOf kind ds) (decls_good decls good)
statement_good (WrittenStatement.dimension decls) good = ap (λ (ds : List Decl). Dimension ds) (decls_good decls good)
statement_good (WrittenStatement.common parts) good =
    ap (λ (ps : List CommonPart). Common ps) (map_good kept_part part_of (λ p. are_great (flat_map decl_numbers p.decls)) part_good parts (sym (great_in (λ p. flat_map decl_numbers p.decls) parts) ∙ good))
statement_good (WrittenStatement.equivalence groups) good =
    ap (λ (gs : List (List Member)). Equivalence gs) (map_good (λ members. map kept_member members) (λ members. map member_of members) (λ members. are_great (flat_map (λ m. m.subs) members)) members_good groups (sym (great_in (λ members. flat_map (λ m. m.subs) members) groups) ∙ good))
statement_good (WrittenStatement.init parts) good =
    ap (λ (ps : List InitPart). Init ps) (map_good kept_data data_of (λ d. are_great (flat_map (λ m. m.subs) d.items) || list_any value_is_bad d.values) data_good parts good)
statement_good (WrittenStatement.assignment target value) good =
    let parts = or_parts (has_great_number target) (has_great_number value) good in
    ap (λ (e : RawExpr). Assign e (kept value)) (kept-reading target parts.0) ∙ ap (λ (e : RawExpr). Assign (reading target) e) (kept-reading value parts.1)
statement_good (WrittenStatement.print form items) good = ap (λ (is : List RawItem). Print is) (map_good kept_item item_of item_is_great item_good items good)
statement_good (WrittenStatement.read form targets) good = ap (λ (es : List RawExpr). Take es) (map_good kept reading has_great_number kept-reading targets good)
statement_good WrittenStatement.continue good = refl
statement_good (WrittenStatement.stop shown) good = refl
statement_good (WrittenStatement.go_to label) good = ap (λ (n : ℕ). GoTo n) (label_good label good)
statement_good (WrittenStatement.computed_go_to labels comma w) good =
    let parts = or_parts (list_any is_bad_label labels) (has_great_number w) good in
    ap (λ (ns : List ℕ). PickGoTo ns (kept w)) (map_good kept_label number_of is_bad_label label_good labels parts.0) ∙ ap (λ (e : RawExpr). PickGoTo (map number_of labels) e) (kept-reading w parts.1)
statement_good (WrittenStatement.arithmetic_if w negative zero positive) good =
    let outer = or_parts (has_great_number w) (is_bad_label negative || (is_bad_label zero || (is_bad_label positive || false))) good in
    let inner = or_parts (is_bad_label negative) (is_bad_label zero || (is_bad_label positive || false)) outer.1 in
    let last = or_parts (is_bad_label zero) (is_bad_label positive || false) inner.1 in
    ap (λ (e : RawExpr). SignIf e (kept_label negative) (kept_label zero) (kept_label positive)) (kept-reading w outer.0)
    ∙ ap (λ (n : ℕ). SignIf (reading w) n (kept_label zero) (kept_label positive)) (label_good negative inner.0)
    ∙ ap (λ (n : ℕ). SignIf (reading w) (number_of negative) n (kept_label positive)) (label_good zero last.0)
    ∙ ap (λ (n : ℕ). SignIf (reading w) (number_of negative) (number_of zero) n) (label_good positive (or_parts (is_bad_label positive) false last.1).0)
statement_good (WrittenStatement.logical_if w s) good =
    let parts = or_parts (has_great_number w) (has_bad_constant s) good in
    ap (λ (e : RawExpr). ThenIf e (kept_statement s)) (kept-reading w parts.0) ∙ ap (λ (stmt : Stmt). ThenIf (reading w) stmt) (statement_good s parts.1)
statement_good (WrittenStatement.block_if w) good = ap (λ (e : RawExpr). BlockIf e) (kept-reading w good)
statement_good (WrittenStatement.else_if w) good = ap (λ (e : RawExpr). ElseIf e) (kept-reading w good)
statement_good WrittenStatement.else good = refl
statement_good WrittenStatement.end_if good = refl
statement_good (WrittenStatement.do_loop label comma variable first last step) good =
    let outer = or_parts (is_bad_label label || has_great_number first || has_great_number last) (step_is_great step) good in
    let inner = or_parts (is_bad_label label || has_great_number first) (has_great_number last) outer.0 in
    let parts = or_parts (is_bad_label label) (has_great_number first) inner.0 in
    ap (λ (n : ℕ). Do n variable (kept first) (kept last) (kept_step step)) (label_good label parts.0)
    ∙ ap (λ (e : RawExpr). Do (number_of label) variable e (kept last) (kept_step step)) (kept-reading first parts.1)
    ∙ ap (λ (e : RawExpr). Do (number_of label) variable (reading first) e (kept_step step)) (kept-reading last inner.1)
    ∙ ap (λ (e : Option RawExpr). Do (number_of label) variable (reading first) (reading last) e) (step_good step outer.1)
statement_good (WrittenStatement.subroutine name dummies) good = refl
statement_good (WrittenStatement.call_of name arguments) good = refl
statement_good WrittenStatement.go_back good = refl
statement_good WrittenStatement.end good = refl
