-- Declarations that are read from a text: their numbers, and how many parts each of their lists has.
use Rattle.std.proofs.Common.{◌≡◌, ℕ, ◌<◌, ◌≤◌, ◌||◌, ◌&&◌, Bool, true, false, List, [], ◌∷◌, length, map, All, Option, Some, None, sym, subst, ◌∙◌, arith}
use Rattle.std.specs.Prelude.{flat_map, nat_lt, nat_le, ◌==◌}
use Rattle.std.specs.List.{list_all, list_any}
use Rattle.std.proofs.lemmas.Bool.{and_parts, or_parts, ltb-false, ltb-true}
use Rattle.std.proofs.lemmas.Bool.Decides.{nat_tests}
use Rattle.std.proofs.lemmas.Int.{ints}
use Rattle.std.proofs.lemmas.List.{length-map}
use Rattle.std.proofs.lemmas.List.Elements.{All-nil, All-head, All-tail, All-append, All-weaker, All-map}
use Rattle.std.proofs.lemmas.List.Sums.{AllPass-from_list_all}
use Rattle.f77_tree.specs.declared.declarations.CommonPart.{CommonPart}
use Rattle.f77_tree.specs.declared.statements.Labelled.{Labelled}
use Rattle.f77_tree.specs.declared.statements.Stmt.{Stmt}
use Rattle.f77_tree.specs.Grammar.{greatest_constant, number_of}
use Rattle.f77_tree.specs.StatementGrammar.{Sign, No_sign, Plus_sign, Minus_sign, SignedDigits, WrittenDim, WrittenDecl, WrittenBlock, Unsaid, Blank, Block, WrittenPart, WrittenMember, WrittenConstant, Whole, Logical_value, WrittenValue, WrittenData, WrittenStatement, IsDecl, IsPart, IsStatement, IsGiven, signed_value, whole_number, is_great, are_great, low_of, dim_of, dim_numbers, decl_of, decl_numbers, is_block, block_of, part_of, member_of, is_member, is_group, constant_of, constant_is_great, times_of, value_of, value_is_bad, is_value, is_data, data_of, statement_of, has_bad_constant}
use Rattle.f77_tree.specs.Declarations.{CanBeWritten, IsBlock}
use Rattle.f77_tree.specs.InitialWords.{IsLit, IsInitValue}
use Rattle.layout_rules.specs.Declarations.{declarators, all_declarators, parts_of, all_commons, groups_of, all_groups, inits_of, all_inits}
use Rattle.layout_rules.specs.ReadDeclarations.{IsReadDecl, IsReadPart, IsReadGroup, IsReadInit, IsReadDeclaration}
use Rattle.layout_rules.specs.StatementTrees.{IsTree}
use Rattle.layout_rules.proofs.FlatParts.{list_any-flat_map, read_each}

-- ---- lists

-- what holds of each item of each part
pub All-flat_map : {S X : Type 0} (P : X → Type 0) (f : S → List X) (ss : List S) → All (λ s. All P (f s)) ss → All P (flat_map f ss)
All-flat_map P f [] all = All-nil P
All-flat_map P f (s ∷ ss) all =
    All-append P (f s) (flat_map f ss) (All-head (λ s. All P (f s)) s ss all) (All-flat_map P f ss (All-tail (λ s. All P (f s)) s ss all))

-- ---- numbers

signed : (sign : Sign) (n : ℕ) → n ≤ greatest_constant → CanBeWritten (signed_value sign n)
signed No_sign n le = le
signed Plus_sign n le = le
signed Minus_sign n le = omega (arith, ints)

small : (n : SignedDigits) → is_great n.digits ≡ false → CanBeWritten (whole_number n)
small n h = signed n.sign (number_of n.digits) (ltb-false greatest_constant (number_of n.digits) h)

-- ---- declarators

low : (n : Option SignedDigits) (top : SignedDigits) → are_great (dim_numbers (record { low = n; high = top })) ≡ false → CanBeWritten (low_of n)
low None top h = omega arith
low (Some n) top h = small n (or_parts (is_great n.digits) (are_great (top ∷ [])) h).0

high : (n : Option SignedDigits) (top : SignedDigits) → are_great (dim_numbers (record { low = n; high = top })) ≡ false → CanBeWritten (whole_number top)
high None top h = small top (or_parts (is_great top.digits) false h).0
high (Some n) top h = small top (or_parts (is_great top.digits) false (or_parts (is_great n.digits) (are_great (top ∷ [])) h).1).0

read_decl : (d : WrittenDecl) → IsDecl d → are_great (decl_numbers d) ≡ false → IsReadDecl (decl_of d)
read_decl d is few =
    let each : list_any (λ dim. are_great (dim_numbers dim)) d.dims ≡ false = sym (list_any-flat_map (λ (n : SignedDigits). is_great n.digits) dim_numbers d.dims) ∙ few in
    let any : All (λ (dim : WrittenDim). Unit {0}) d.dims = λ k e lt. tt in
    let as_many = length-map d.dims dim_of in
    let most = is.few in
    record {
      lower = read_each (λ dim. Unit {0}) (λ dim. are_great (dim_numbers dim)) dim_of (λ dim. CanBeWritten dim.lo) (λ dim u h. low dim.low dim.high h) d.dims any each;
      upper = read_each (λ dim. Unit {0}) (λ dim. are_great (dim_numbers dim)) dim_of (λ dim. CanBeWritten dim.hi) (λ dim u h. high dim.low dim.high h) d.dims any each;
      few = omega (arith, as_many, most);
    }

read_decls : (decls : List WrittenDecl) → All IsDecl decls → are_great (flat_map decl_numbers decls) ≡ false → All IsReadDecl (map decl_of decls)
read_decls decls are few = read_each IsDecl (λ d. are_great (decl_numbers d)) decl_of IsReadDecl read_decl decls are (sym (list_any-flat_map (λ (n : SignedDigits). is_great n.digits) decl_numbers decls) ∙ few)

abbrev AllReadDecls : CommonPart → Type 0
AllReadDecls part = All IsReadDecl part.decls

read_declarators : (w : WrittenStatement) → IsStatement w → has_bad_constant w ≡ false → All IsReadDecl (declarators (statement_of w))
read_declarators (WrittenStatement.typed kind decls) is few = read_decls decls is.1 few
read_declarators (WrittenStatement.dimension decls) is few = read_decls decls is.1 few
read_declarators (WrittenStatement.common parts) is few =
    All-flat_map IsReadDecl (λ part. part.decls) (map part_of parts)
    (read_each IsPart (λ p. are_great (flat_map decl_numbers p.decls)) part_of AllReadDecls (λ p part h. read_decls p.decls part.decls h) parts is.1
    (sym (list_any-flat_map (λ (n : SignedDigits). is_great n.digits) (λ (p : WrittenPart). flat_map decl_numbers p.decls) parts) ∙ few))
read_declarators _ is few = All-nil IsReadDecl

-- ---- COMMON

a_block : (block : WrittenBlock) → is_block block ≡ true → IsBlock (block_of block)
a_block Unsaid is = tt
a_block Blank is = tt
a_block (Block name) is = is

read_part : (p : WrittenPart) → IsPart p → IsReadPart (part_of p)
read_part p is =
    let as_many = length-map p.decls decl_of in
    let some = is.some in
    record { block_name = a_block p.block is.block; some = omega (arith, as_many, some) }

read_parts : (w : WrittenStatement) → IsStatement w → All IsReadPart (parts_of (statement_of w))
read_parts (WrittenStatement.common parts) is = All-map IsReadPart part_of parts (λ k d lt. read_part _ (is.1 k d lt))
read_parts _ is = All-nil IsReadPart

-- ---- EQUIVALENCE

read_group : (members : List WrittenMember) → is_group members ≡ true → IsReadGroup (map member_of members)
read_group members is =
    let two = (and_parts (nat_le 2 (length members)) (list_all is_member members) is).0 in
    let as_many = length-map members member_of in
    let some : 2 ≤ length members = grind (arith, nat_tests) in
    omega (arith, as_many, some)

read_groups : (w : WrittenStatement) → IsStatement w → All IsReadGroup (groups_of (statement_of w))
read_groups (WrittenStatement.equivalence groups) is = All-map IsReadGroup (λ members. map member_of members) groups (λ k d lt. read_group _ (AllPass-from_list_all is_group groups is.1 k d lt))
read_groups _ is = All-nil IsReadGroup

-- ---- DATA

a_constant : (c : WrittenConstant) → constant_is_great c ≡ false → IsLit (constant_of c)
a_constant (Whole n) h = small n h
a_constant (Logical_value b) h = tt

read_value : (v : WrittenValue) → value_is_bad v ≡ false → IsInitValue (value_of v)
read_value v h =
    let with_times = or_parts (nat_lt greatest_constant (times_of v.times) || (times_of v.times == 0)) (constant_is_great v.constant) h in
    let some = (or_parts (nat_lt greatest_constant (times_of v.times)) (times_of v.times == 0) with_times.0).1 in
    record { repeated = grind (arith, nat_tests); constant = a_constant v.constant with_times.1 }

abbrev bad_numbers : WrittenData → Bool
bad_numbers d = are_great (flat_map (λ m. m.subs) d.items) || list_any value_is_bad d.values

read_init : (d : WrittenData) → is_data d ≡ true → bad_numbers d ≡ false → IsReadInit (data_of d)
read_init d is few =
    let with_some = and_parts (nat_lt 0 (length d.items) && list_all is_member d.items && nat_lt 0 (length d.values)) (list_all is_value d.values) is in
    let values = and_parts (nat_lt 0 (length d.items) && list_all is_member d.items) (nat_lt 0 (length d.values)) with_some.0 in
    let items = and_parts (nat_lt 0 (length d.items)) (list_all is_member d.items) values.0 in
    let as_many_items = length-map d.items member_of in
    let as_many_values = length-map d.values value_of in
    let some_items : 0 < length d.items = ltb-true 0 (length d.items) items.0 in
    let some_values : 0 < length d.values = ltb-true 0 (length d.values) values.1 in
    let bad = or_parts (are_great (flat_map (λ (m : WrittenMember). m.subs) d.items)) (list_any value_is_bad d.values) few in
    record {
      some_items = omega (arith, as_many_items, some_items);
      some_values = omega (arith, as_many_values, some_values);
      written = read_each (λ v. Unit {0}) value_is_bad value_of IsInitValue (λ v u h. read_value v h) d.values (λ k e lt. tt) bad.1;
    }

read_inits : (w : WrittenStatement) → IsStatement w → has_bad_constant w ≡ false → All IsReadInit (inits_of (statement_of w))
read_inits (WrittenStatement.init parts) is few = read_each (λ d. is_data d ≡ true) bad_numbers data_of IsReadInit read_init parts (AllPass-from_list_all is_data parts is.1) few
read_inits _ is few = All-nil IsReadInit

-- ---- statements

pub given-IsReadDeclaration : (stmt : Stmt) → IsGiven stmt → IsReadDeclaration stmt
given-IsReadDeclaration stmt given =
    let read = given.is_read in
    let is = read.spells.grammatical in
    subst IsReadDeclaration read.is (record {
      decls = read_declarators read.written is read.constants;
      parts = read_parts read.written is;
      groups = read_groups read.written is;
      inits = read_inits read.written is read.constants;
    })

-- ---- all statements

module _ (stmts : List Labelled) (trees : All (λ s. IsTree s.stmt) stmts) where
  each : All (λ s. IsReadDeclaration s.stmt) stmts
  each = All-weaker (λ (s : Labelled). IsTree s.stmt) (λ s. IsReadDeclaration s.stmt) (λ s is. is.declares) stmts trees

  pub all_declarators-read : All IsReadDecl (all_declarators stmts)
  all_declarators-read = All-flat_map IsReadDecl (λ s. declarators s.stmt) stmts (All-weaker (λ (s : Labelled). IsReadDeclaration s.stmt) (λ s. All IsReadDecl (declarators s.stmt)) (λ s is. is.decls) stmts each)

  pub all_commons-read : All IsReadPart (all_commons stmts)
  all_commons-read = All-flat_map IsReadPart (λ s. parts_of s.stmt) stmts (All-weaker (λ (s : Labelled). IsReadDeclaration s.stmt) (λ s. All IsReadPart (parts_of s.stmt)) (λ s is. is.parts) stmts each)

  pub all_groups-read : All IsReadGroup (all_groups stmts)
  all_groups-read = All-flat_map IsReadGroup (λ s. groups_of s.stmt) stmts (All-weaker (λ (s : Labelled). IsReadDeclaration s.stmt) (λ s. All IsReadGroup (groups_of s.stmt)) (λ s is. is.groups) stmts each)

  pub all_inits-read : All IsReadInit (all_inits stmts)
  all_inits-read = All-flat_map IsReadInit (λ s. inits_of s.stmt) stmts (All-weaker (λ (s : Labelled). IsReadDeclaration s.stmt) (λ s. All IsReadInit (inits_of s.stmt)) (λ s is. is.inits) stmts each)
