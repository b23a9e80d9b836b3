-- A printed program is read again as it was, but for lines and the listing of COMMON.
use Rattle.std.proofs.Common.{◌≡◌, ℕ, ◌<◌, Bool, true, List, length, map, get_or, All, Some, refl, sym, ap, subst, ◌∙◌, arith}
use Rattle.std.specs.Prelude.{slice_get, option_to_list}
use Rattle.std.specs.List.{range_with_len}
use Rattle.std.proofs.lemmas.List.FromFn.{length-range_with_len, get_or-range_with_len}
use Rattle.f77_tree.specs.declared.programs.Exec.{Exec}
use Rattle.f77_tree.specs.declared.programs.NameInfo.{NameInfo}
use Rattle.f77_tree.specs.declared.programs.Program.{Program}
use Rattle.f77_tree.specs.declared.statements.Labelled.{Labelled}
use Rattle.f77_tree.specs.Dialects.{ExecHasDialect, IsOfDialect}
use Rattle.f77_tree.specs.Loops.{AreLoops}
use Rattle.f77_tree.specs.Places.{block_names}
use Rattle.f77_tree.proofs.AllLemmas.{All-first}
use Rattle.layout_rules.specs.Declarations.{all_commons}
use Rattle.layout_rules.specs.Layout.{HasForm, program}
use Rattle.layout_rules.proofs.FlatParts.{each_part}
use Rattle.flat_programs.specs.declared.statements.FlatLine.{FlatLine}
use Rattle.flat_programs.specs.Executables.{leading, following, executables, executables_in, executables_at}
use Rattle.flat_programs.specs.FlatForm.{AreProper}
use Rattle.flat_programs.specs.Text.{text}
use Rattle.read_back.specs.PrintedStatements.{CanBeText}
use Rattle.read_back.specs.ReadAgain.{HasText, program_read, kinds_of, IsReadAgain, IsReadBack}
use Rattle.read_back.specs.SourceStatements.{CanBeRead, HasStatements, statements_read}
use Rattle.read_back.proofs.LoopTotals.{StandFirst, AreOnly, loops_counted}
use Rattle.read_back.proofs.PrintedForm.{none_wrong_storage, few_words, initial_again}
use Rattle.read_back.proofs.PrintedPlaces.{got_within}
use Rattle.read_back.proofs.PrintedRefusals.{has_form}
use Rattle.read_back.proofs.PrintedStorage.{table_again, words_again, blocks_again}
use Rattle.read_back.proofs.PrintedUnit.{printed_listed, printed_unit}
use Rattle.read_back.proofs.ReadDeclarations.{groups_same, inits_same}
use Rattle.read_back.proofs.ReadExecutables.{executables_same}
use Rattle.read_back.proofs.ReadLoops.{loops_same}

abbrev AllOfDialect : (checked : Bool) → List Exec → Type 0
AllOfDialect checked execs = All (λ exec. ExecHasDialect checked exec.kind) execs

-- the first executable of a statement is of the dialect
first_dialect : (flat : List FlatLine) (checked : Bool) → AllOfDialect checked (executables flat) → (place : ℕ) (l : FlatLine) → slice_get flat place ≡ Some l → ExecHasDialect checked (leading flat place l.stmt)
first_dialect flat checked dialect place l there =
    let Has : Exec → Type 0 = λ exec. ExecHasDialect checked exec.kind in
    let n = length flat in
    let lt = got_within flat place l there in
    let within : place < length (range_with_len 0 n) = omega (arith, lt, length-range_with_len 0 n) in
    let each = each_part Has (executables_at flat) (range_with_len 0 n) dialect place place within in
    let at : get_or (range_with_len 0 n) place place ≡ place = get_or-range_with_len 0 n place place lt ∙ omega arith in
    let here : All Has (executables_at flat place) = subst (λ k. All Has (executables_at flat k)) at each in
    let own : All Has (executables_in flat place (Some l)) = subst (λ found. All Has (executables_in flat place found)) there here in
    All-first Has (record { line = l.line; kind = leading flat place l.stmt }) (map (λ kind. record { line = l.line; kind = kind }) (option_to_list (following flat place l.stmt))) own

pub can_be_read : (p : Program) (flat : List FlatLine) → HasText p flat → AreProper p.names flat → CanBeRead p flat
can_be_read p flat is proper = record {
  text = record { declarations = is.well_formed.declarations; form = is.statements.form; proper = proper; few = is.few; short = is.short };
  arrays = is.arrays;
}

-- ---- the whole program

module _ (p : Program) (flat : List FlatLine) (given : CanBeText p flat) (is : HasText p flat) where
  abbrev stmts : List Labelled
  stmts = statements_read p flat

  pub form_again : HasForm (statements_read p flat)
  form_again = has_form p flat given is.arrays true (none_wrong_storage p flat given is.arrays is.well_formed.places) (few_words p flat given is.arrays is.well_formed.places is.well_formed.word_count)

  module _ (checked : Bool) where
    pub kinds_again : IsOfDialect checked p → kinds_of (program_read p flat checked) ≡ kinds_of p
    kinds_again dialect =
        executables_same p flat given is.arrays checked (first_dialect flat checked (subst (AllOfDialect checked) (sym is.statements.execs) dialect))
        ∙ ap (λ (execs : List Exec). map (λ (exec : Exec). exec.kind) execs) is.statements.execs

    module _ (first : StandFirst) (only : AreOnly) where
      loops_again : (program_read p flat checked).loops ≡ p.loops
      loops_again =
          let loops : AreLoops (executables flat) p.loops = subst (λ (execs : List Exec). AreLoops execs p.loops) (sym is.statements.execs) is.well_formed.execs.loops_nest in
          loops_same p flat ∙ sym (loops_counted flat first only p.loops loops)

      read_again : IsOfDialect checked p → IsReadAgain (program_read p flat checked) p
      read_again dialect = record {
        names = table_again p flat given is.arrays p.words is.well_formed.places;
        words = words_again p flat given is.arrays p.words is.well_formed.places;
        initial = initial_again p flat given is.arrays is.well_formed.places checked is.well_formed.initial_count is.well_formed.initial;
        blocks = λ block. ap (λ (names : List NameInfo). block_names names (all_commons stmts) block) (table_again p flat given is.arrays p.words is.well_formed.places) ∙ blocks_again p flat given is.arrays block;
        groups = groups_same p flat given;
        inits = inits_same p flat given;
        execs = kinds_again dialect;
        loops = loops_again;
      }

      pub read_back : HasStatements (text p flat) (statements_read p flat) → IsOfDialect checked p → IsReadBack (text p flat) checked p
      read_back has dialect = record {
        again = program stmts checked;
        reads = record { raws = has.raws; stmts = stmts; lines = has.lines; statements = has.statements; list = stmts; units = printed_listed p flat checked is.statements.form; form = form_again; is = refl };
        unit = printed_unit p flat is.statements.form;
        same = read_again dialect;
      }
