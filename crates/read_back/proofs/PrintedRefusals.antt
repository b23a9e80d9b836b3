-- What a printed program can be refused for by the layout: storage and operations alone.
use Rattle.std.proofs.Common.{◌≡◌, ℕ, Bool, List, [], refl, sym, ap, ◌∙◌, subst, arith, Option, Some, None, Ok, Err}
use Rattle.std.specs.Prelude.{IfErr, Result}
use Rattle.f77_tree.specs.declared.programs.Program.{Program}
use Rattle.f77_tree.specs.declared.statements.Labelled.{Labelled}
use Rattle.layout_rules.specs.declared.layout_end.LayoutEnd.{LayoutEnd}
use Rattle.layout_rules.specs.declared.layout_end.LayoutEnd.TheVariants.{OutOfOrder, RealName, TypeWrong, LayoutWrong, LabelTwice, LabelMissing, BadNesting, JumpInto, TooManyWords, TooManyOps}
use Rattle.layout_rules.specs.Appearances.{has_real_name}
use Rattle.layout_rules.specs.Counts.{is_too_great}
use Rattle.layout_rules.specs.Faults.{first_line, answer_or}
use Rattle.layout_rules.specs.Jumps.{jumps_into}
use Rattle.layout_rules.specs.Labels.{is_labelled_twice, lacks_label}
use Rattle.layout_rules.specs.Layout.{names_of, placed_names, line_of_words, at_line, refusal, layout, program, unless_refused, HasForm}
use Rattle.layout_rules.specs.LowestLines.{lowest_line}
use Rattle.layout_rules.specs.Nesting.{first_unnested}
use Rattle.layout_rules.specs.Order.{is_out_of_order}
use Rattle.layout_rules.specs.StorageLines.{storage_line}
use Rattle.layout_rules.specs.TypeFaults.{has_wrong_type}
use Rattle.flat_programs.specs.declared.statements.FlatLine.{FlatLine}
use Rattle.read_back.specs.PrintedArrays.{HasNoPrintedArrays}
use Rattle.read_back.specs.PrintedStatements.{CanBeText}
use Rattle.read_back.specs.SourceStatements.{statements_read}
use Rattle.read_back.specs.StorageRefusals.{IsOfStorage}
use Rattle.read_back.proofs.PrintedJumps.{none_jumps_into}
use Rattle.read_back.proofs.PrintedLabels.{none_labelled_twice, none_lacks_label}
use Rattle.read_back.proofs.PrintedNesting.{none_unnested}
use Rattle.read_back.proofs.PrintedOrder.{none_out_of_order}
use Rattle.read_back.proofs.PrintedTable.{none_real}
use Rattle.read_back.proofs.PrintedTypes.{none_wrong_type}

-- a refusal that isn't there leaves the later ones
skip : (end : ℕ → LayoutEnd) (line : Option ℕ) (later : Option LayoutEnd) → line ≡ None → answer_or (at_line end line) later ≡ later
skip end line later none = ap (λ found. answer_or (at_line end found) later) none

refused_by : (p : Program) (found : Option LayoutEnd) (end : LayoutEnd) → unless_refused found p ≡ Err end → found ≡ Some end
refused_by p None end is = absurd cc
refused_by p (Some other) end is = let same : other ≡ end = cc in ap Some same

of_storage : (wrong words ops : Option ℕ) (end : LayoutEnd) → answer_or (at_line LayoutWrong wrong) (answer_or (at_line TooManyWords words) (answer_or (at_line TooManyOps ops) None)) ≡ Some end → IsOfStorage end
of_storage (Some line) words ops end is = let same : LayoutWrong line ≡ end = cc in subst IsOfStorage same tt
of_storage None (Some line) ops end is = let same : TooManyWords line ≡ end = cc in subst IsOfStorage same tt
of_storage None None (Some line) end is = let same : TooManyOps line ≡ end = cc in subst IsOfStorage same tt
of_storage None None None end is = absurd cc

module _ (q : Program) (flat : List FlatLine) (given : CanBeText q flat) (free : HasNoPrintedArrays q.names) (checked : Bool) where
  abbrev stmts : List Labelled
  stmts = statements_read q flat

  abbrev wrong : Option ℕ
  wrong = storage_line (names_of stmts) (placed_names stmts) stmts

  abbrev ops : Option ℕ
  ops = lowest_line (is_too_great (names_of stmts) checked stmts) stmts

  -- the refusals up to those of words and operations
  abbrev refused_before : Option LayoutEnd → Option LayoutEnd
  refused_before last =
      let jumped = answer_or (at_line JumpInto (first_line (jumps_into stmts) stmts)) last in
      let nested = answer_or (at_line BadNesting (first_unnested [] stmts)) jumped in
      let missing = answer_or (at_line LabelMissing (first_line (lacks_label stmts) stmts)) nested in
      let labelled = answer_or (at_line LabelTwice (first_line is_labelled_twice stmts)) missing in
      let stored = answer_or (at_line LayoutWrong wrong) labelled in
      let typed = answer_or (at_line TypeWrong (first_line (has_wrong_type (names_of stmts)) stmts)) stored in
      let named = answer_or (at_line RealName (first_line (has_real_name stmts) stmts)) typed in
      answer_or (at_line OutOfOrder (first_line is_out_of_order stmts)) named

  only_storage : (last : Option LayoutEnd) → refused_before last ≡ answer_or (at_line LayoutWrong wrong) last
  only_storage last =
      let few = given.few in
      let later = answer_or (at_line JumpInto (first_line (jumps_into stmts) stmts)) last in
      let nested = answer_or (at_line BadNesting (first_unnested [] stmts)) later in
      let missing = answer_or (at_line LabelMissing (first_line (lacks_label stmts) stmts)) nested in
      let labels : answer_or (at_line LabelTwice (first_line is_labelled_twice stmts)) missing ≡ last =
      skip LabelTwice (first_line is_labelled_twice stmts) missing (none_labelled_twice q flat)
      ∙ skip LabelMissing (first_line (lacks_label stmts) stmts) nested (none_lacks_label q flat given.form (omega (arith, few)))
      ∙ skip BadNesting (first_unnested [] stmts) later (none_unnested q flat given.form (omega (arith, few)))
      ∙ skip JumpInto (first_line (jumps_into stmts) stmts) last (none_jumps_into q flat given.form (omega (arith, few)))
      in
      let stored = answer_or (at_line LayoutWrong wrong) (answer_or (at_line LabelTwice (first_line is_labelled_twice stmts)) missing) in
      let typed = answer_or (at_line TypeWrong (first_line (has_wrong_type (names_of stmts)) stmts)) stored in
      let named = answer_or (at_line RealName (first_line (has_real_name stmts) stmts)) typed in
      skip OutOfOrder (first_line is_out_of_order stmts) named (none_out_of_order q flat given.form)
      ∙ skip RealName (first_line (has_real_name stmts) stmts) typed (none_real q flat given free)
      ∙ skip TypeWrong (first_line (has_wrong_type (names_of stmts)) stmts) stored (none_wrong_type q flat given free)
      ∙ ap (answer_or (at_line LayoutWrong wrong)) labels

  abbrev last_ones : Option LayoutEnd
  last_ones = answer_or (at_line TooManyWords (line_of_words stmts)) (answer_or (at_line TooManyOps ops) None)

  pub refused_for_storage : (end : LayoutEnd) → layout (statements_read q flat) checked ≡ Err end → IsOfStorage end
  refused_for_storage end is =
      of_storage wrong (line_of_words stmts) ops end (sym (only_storage last_ones) ∙ refused_by (program stmts checked) (refusal stmts checked) end is)

  -- where its storage is right
  module _ (right : wrong ≡ None) (few : line_of_words stmts ≡ None) where
    pub has_form : HasForm (statements_read q flat)
    has_form =
        only_storage (answer_or (at_line TooManyWords (line_of_words stmts)) None)
        ∙ skip LayoutWrong wrong (answer_or (at_line TooManyWords (line_of_words stmts)) None) right
        ∙ skip TooManyWords (line_of_words stmts) None few

pub if_refused : (Q : LayoutEnd → Type 0) (answer : Result Program LayoutEnd) → ((end : LayoutEnd) → answer ≡ Err end → Q end) → IfErr answer Q
if_refused Q (Ok p) refused = tt
if_refused Q (Err end) refused = refused end refl
