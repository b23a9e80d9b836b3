-- EQUIVALENCE and DATA of a printed program are read as they were.
use Rattle.std.proofs.Common.{◌≡◌, ◌==◌, ℕ, ◌≤◌, Bool, true, false, cond, List, [], ◌∷◌, ◌++◌, map, refl, sym, ap, ◌∙◌, Some, None, append-nil}
use Rattle.std.specs.Prelude.{All, decimal}
use Rattle.std.specs.List.{list_any}
use Rattle.std.proofs.lemmas.Bool.{eqb-true}
use Rattle.f77_tree.specs.declared.declarations.InitPart.{InitPart}
use Rattle.f77_tree.specs.declared.declarations.InitValue.{InitValue}
use Rattle.f77_tree.specs.declared.declarations.Lit.{Lit}
use Rattle.f77_tree.specs.declared.declarations.Lit.TheVariants.{Int, Truth}
use Rattle.f77_tree.specs.declared.declarations.Member.{Member}
use Rattle.f77_tree.specs.declared.programs.NameInfo.{NameInfo}
use Rattle.f77_tree.specs.declared.programs.Program.{Program}
use Rattle.f77_tree.specs.Declarations.{IsNameInfo, IsMember, IsGroup}
use Rattle.f77_tree.specs.Grammar.{greatest_constant}
use Rattle.f77_tree.specs.InitialWords.{IsLit, IsInitValue, IsInitPart}
use Rattle.f77_tree.specs.StatementGrammar.{WrittenStatement, statement_of, member_of, constant_of, times_of, value_of}
use Rattle.f77_tree.proofs.AllLemmas.{All-first, All-rest}
use Rattle.f77_expr.proofs.PrintedNumbers.{number_of-decimal}
use Rattle.layout_rules.specs.Declarations.{groups_of, inits_of, all_groups, all_inits}
use Rattle.flat_programs.specs.declared.statements.FlatLine.{FlatLine}
use Rattle.flat_programs.specs.Declarations.{written_member, written_constant, written_value, group_statement, init_statement, commons}
use Rattle.flat_programs.specs.Text as page
use Rattle.read_back.specs.PrintedStatements.{CanBeText}
use Rattle.read_back.specs.SourceStatements.{statements_read}
use Rattle.read_back.proofs.DeclaredEach.{mapped_each, commons_each}
use Rattle.read_back.proofs.DeclaredForms.{members_symbolic}
use Rattle.read_back.proofs.DeclaredTable.{number_again}
use Rattle.read_back.proofs.GatheredParts.{of_written, none_written, gathered_of}
use Rattle.read_back.proofs.PrintedDimensions.{member_again}
use Rattle.read_back.proofs.ProgramRead.{is_long_alone, inits_short, is_short}
use Rattle.read_back.proofs.RepeatBound.{repeats_few}
use Rattle.read_back.proofs.StatementParts.{HoldsOfRead}
use Rattle.read_back.proofs.WrittenNumbers.{small_fits}
use Rattle.std.proofs.lemmas.Grind.{elements}
use Rattle.std.proofs.Common.{arith}

no_groups : (names : List NameInfo) → HoldsOfRead (λ s. groups_of s ≡ []) names
no_groups names = grind arith

no_inits : (names : List NameInfo) → HoldsOfRead (λ s. inits_of s ≡ []) names
no_inits names = grind arith

-- ---- as they were

module _ (names : List NameInfo) (table : All IsNameInfo names) where
  members_again : (ms : List Member) → All (IsMember names) ms → map member_of (map written_member ms) ≡ ms
  members_again [] all = refl
  members_again (m ∷ ms) all = grind (arith, elements, member_again, All-first, All-rest, members_again ms (All-rest (IsMember names) m ms all))

  groups_again : (groups : List (List Member)) → All (IsGroup names) groups → of_written groups_of (map group_statement groups) ≡ groups
  groups_again [] all = refl
  groups_again (group ∷ groups) all =
      ap (λ g. g ∷ of_written groups_of (map group_statement groups)) (members_again group (All-first (IsGroup names) group groups all).members) ∙ ap (λ gs. group ∷ gs) (groups_again groups (All-rest (IsGroup names) group groups all))

  times_if : (n : ℕ) (one : Bool) → (n == 1) ≡ one → n ≤ greatest_constant → times_of (cond one None (Some (decimal n))) ≡ n
  times_if n true is few = sym (eqb-true n 1 is)
  times_if n false is few = number_of-decimal n (small_fits n few)

  constant_again : (l : Lit) → IsLit l → constant_of (written_constant l) ≡ l
  constant_again (Int z) is = ap Int (number_again z is)
  constant_again (Truth b) is = refl

  value_again : (v : InitValue) → IsInitValue v → v.times ≤ greatest_constant → value_of (written_value v) ≡ v
  value_again v is few = grind (arith, times_if v.times (v.times == 1), constant_again v.value is.constant)

  abbrev IsFew : InitValue → Type 0
  IsFew v = v.times ≤ greatest_constant

  values_again : (vs : List InitValue) → All IsInitValue vs → All IsFew vs → map value_of (map written_value vs) ≡ vs
  values_again [] all few = refl
  values_again (v ∷ vs) all few =
      ap (λ w. w ∷ map value_of (map written_value vs)) (value_again v (All-first IsInitValue v vs all) (All-first IsFew v vs few)) ∙ ap (λ ws. v ∷ ws) (values_again vs (All-rest IsInitValue v vs all) (All-rest IsFew v vs few))

  part_again : (part : InitPart) → IsInitPart names part → is_long_alone (init_statement part) ≡ false → inits_of (statement_of (init_statement part)) ≡ part ∷ []
  part_again part is short =
      grind (arith, repeats_few names part table is (members_symbolic names table part.items is.members) (is_short (page.unlabelled (init_statement part)) short).length_few, members_symbolic names table part.items is.members, is_short (page.unlabelled (init_statement part)) short, members_again part.items is.members, values_again part.values is.written)

  inits_again : (inits : List InitPart) → All (IsInitPart names) inits → list_any is_long_alone (map init_statement inits) ≡ false → of_written inits_of (map init_statement inits) ≡ inits
  inits_again [] all short = refl
  inits_again (part ∷ inits) all short =
      grind (arith, is_long_alone (init_statement part), is_long_alone, of_written inits_of (map init_statement inits), part_again part (All-first (IsInitPart names) part inits all), All-first (IsInitPart names) part inits all, inits_again inits (All-rest (IsInitPart names) part inits all), All-rest (IsInitPart names) part inits all)

-- ---- the whole program

module _ (q : Program) (flat : List FlatLine) (given : CanBeText q flat) where
  pub groups_same : all_groups (statements_read q flat) ≡ q.groups
  groups_same =
      let NoGroup : WrittenStatement → Type 0 = λ w. groups_of (statement_of w) ≡ [] in
      let blocks = none_written groups_of (commons q.commons) (commons_each NoGroup q.commons (λ block. refl)) in
      let data_none = none_written groups_of (map init_statement q.inits) (mapped_each NoGroup init_statement q.inits (λ part. refl)) in
      gathered_of groups_of q flat (λ info. refl) (no_groups q.names)
      ∙ ap (λ xs. xs ++ (of_written groups_of (map group_statement q.groups) ++ of_written groups_of (map init_statement q.inits))) blocks
      ∙ ap (λ xs. of_written groups_of (map group_statement q.groups) ++ xs) data_none
      ∙ append-nil (of_written groups_of (map group_statement q.groups))
      ∙ groups_again q.names given.declarations.table q.groups given.declarations.equivalence

  pub inits_same : all_inits (statements_read q flat) ≡ q.inits
  inits_same =
      let NoInit : WrittenStatement → Type 0 = λ w. inits_of (statement_of w) ≡ [] in
      let blocks = none_written inits_of (commons q.commons) (commons_each NoInit q.commons (λ block. refl)) in
      let groups_none = none_written inits_of (map group_statement q.groups) (mapped_each NoInit group_statement q.groups (λ group. refl)) in
      gathered_of inits_of q flat (λ info. refl) (no_inits q.names)
      ∙ ap (λ xs. xs ++ (of_written inits_of (map group_statement q.groups) ++ of_written inits_of (map init_statement q.inits))) blocks
      ∙ ap (λ xs. xs ++ of_written inits_of (map init_statement q.inits)) groups_none
      ∙ inits_again q.names given.declarations.table q.inits given.declarations.init (inits_short q flat given.short)
