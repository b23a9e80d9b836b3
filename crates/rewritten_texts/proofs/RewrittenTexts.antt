-- The rewritten form of a program has a text, which is read back.
use Rattle.std.proofs.Common.{◌≡◌, ℕ, ◌+◌, ◌<◌, ◌≤◌, ⊎_elim, Bool, true, false, List, length, All, Some, None, refl, sym, ap, subst, ◌∙◌}
use Rattle.std.specs.Prelude.{nat_lt, if◌then◌else◌}
use Rattle.std.proofs.lemmas.Bool.{cases_lt, false≢true}
use Rattle.std.proofs.lemmas.Bool.Decides.{Decides-ltb}
use Rattle.f77_tree.specs.declared.programs.Program.{Program}
use Rattle.f77_tree.specs.Dialects.{IsOfDialect}
use Rattle.f77_tree.specs.StatementGrammar.{is_of_subroutines}
use Rattle.f77_tree.specs.WellFormed.{IsWellFormed}
use Rattle.alias_classes.specs.Classes.{ClassTable}
use Rattle.cfg_build.specs.Flow.{flow}
use Rattle.f77_source.specs.Listed.{is_one_unit}
use Rattle.flat_programs.specs.declared.statements.FlatLine.{FlatLine}
use Rattle.flat_programs.specs.Declarations.{declared}
use Rattle.flat_programs.specs.FlatForm.{AreProper, AreStatementsOf, IsFlat, IsFlatProgram}
use Rattle.flat_programs.specs.Text.{has_long_text, text as text_of}
use Rattle.redundancy.specs.Available.{Availability, IsAvailability}
use Rattle.shared_forms.specs.declared.ends.RewriteEnd.TheVariants.{TooManyNames, TooManyStatements, LongText}
use Rattle.shared_forms.specs.Shared.{has_many_names, shared_flat, shared_program, with_temporaries, IsShared}
use Rattle.shared_laws.specs.SharedFlat.{SharedStatementsAreFlat}
use Rattle.simplified_forms.specs.Simplified.{has_many_statements, most_statements}
use Rattle.rewriting.specs.Rewritten.{IsRewritten, IsSharedOf}
use Rattle.read_back.specs.PrintedArrays.{HasNoPrintedArrays}
use Rattle.read_back.specs.PrintedStatements.{CanBeText}
use Rattle.read_back.specs.ReadAgain.{HasText, IsReadBack}
use Rattle.read_back.specs.SourceStatements.{HasStatements, statements_read}
use Rattle.rewritten_texts.specs.Texts.{RewrittenProgramsHaveText, RewrittenTextsAreOneUnit, RewrittenTextsAreReadBack}
use Rattle.rewritten_texts.proofs.RewrittenTables.{longer-arrays}

-- ---- limits

-- neither of these limits is passed
record PassesNone (statements text : Bool) : Type 0 where
  few : statements ≡ false
  short : text ≡ false

passes-none : (names statements text : Bool) → (if names then Some TooManyNames else if statements then Some TooManyStatements else if text then Some LongText else None) ≡ None → PassesNone statements text
passes-none true statements text is = absurd cc
passes-none false true text is = absurd cc
passes-none false false true is = absurd cc
passes-none false false false is = record { few = refl; short = refl }

at-most : (most n : ℕ) → nat_lt most n ≡ false → n ≤ most
at-most most n is = ⊎_elim
    (λ (less : most < n). absurd (false≢true (sym is ∙ (Decides-ltb most n).1 less)))
    (λ (le : n ≤ most). le)
    (cases_lt most n)

-- ---- what flat programs and shared forms are

abbrev pub OneList : Type 0
OneList = (p : Program) (flat other : List FlatLine) → AreStatementsOf p flat → AreStatementsOf p other → flat ≡ other

abbrev pub SharedAreFlat : Type 0
SharedAreFlat = (q : Program) (c : ClassTable) (a : Availability) (s : Program) → IsFlatProgram q → IsAvailability q (flow q.execs) c a → IsShared q a s → IsFlatProgram s

abbrev pub AreProperStatements : Type 0
AreProperStatements = (p : Program) (flat : List FlatLine) → IsWellFormed p → AreStatementsOf p flat → AreProper p.names flat

-- ---- what printed programs are

abbrev pub HaveTheirStatements : Type 0
HaveTheirStatements = (q : Program) (flat : List FlatLine) → CanBeText q flat → HasStatements (text_of q flat) (statements_read q flat)

abbrev pub AreOneUnit : Type 0
AreOneUnit = (q : Program) (flat : List FlatLine) → IsFlat flat → is_one_unit (statements_read q flat) ≡ true

abbrev pub HaveNoSubroutines : Type 0
HaveNoSubroutines = (q : Program) (flat : List FlatLine) → IsFlat flat → All (λ s. is_of_subroutines s.stmt ≡ false) (statements_read q flat)

-- ---- texts

-- a well-formed program of these flat statements, which are few and short enough for a source text
record IsShort (s : Program) (flat : List FlatLine) : Type 0 where
  well_formed : IsWellFormed s
  statements : AreStatementsOf s flat
  few : length (declared s) + length flat ≤ 4000
  short : has_long_text s flat ≡ false

module _ (one : OneList) (shared : SharedAreFlat) (stay : SharedStatementsAreFlat) where
  shared-short : (q s : Program) (flat : List FlatLine) → IsSharedOf q s → AreStatementsOf s flat → IsShort s flat
  shared-short q s flat is statements =
      let a = is.table in
      let h = is.shared in
      let all = shared_flat q a h.number h.flat in
      let longer = with_temporaries q a h.number in
      let form = shared_program q a h.number h.flat in
      let stands : AreStatementsOf form all = record { form = stay q a h.number h.flat h.sharing.statements.form; execs = refl } in
      let same : flat ≡ all = one s flat all statements (subst (λ (x : Program). AreStatementsOf x all) (sym h.is) stands) in
      let well = shared q is.available.classes a s is.available.flat is.available.available h in
      let none = passes-none (has_many_names q a h.number) (has_many_statements longer all) (has_long_text longer all) h.sharing.ends in
      let short : IsShort form all = record {
        well_formed = subst IsWellFormed h.is well.well_formed;
        statements = stands;
        few = at-most most_statements (length (declared longer) + length all) none.few;
        short = none.short;
      } in
      subst (λ (x : List FlatLine). IsShort s x) (sym same) (subst (λ (x : Program). IsShort x all) (sym h.is) short)

  pub rewritten_text : RewrittenProgramsHaveText
  rewritten_text p checked s flat arrays is statements =
      let names : is.form.names ≡ p.names = ap (λ (x : Program). x.names) is.simplified.simplified.is in
      let h = is.shared.shared in
      let short = shared-short is.form s flat is.shared statements in
      let longer = longer-arrays is.form is.shared.table h.number (subst HasNoPrintedArrays (sym names) arrays) in
      record {
        well_formed = short.well_formed;
        statements = short.statements;
        few = short.few;
        short = short.short;
        arrays = subst (λ (x : Program). HasNoPrintedArrays x.names) (sym h.is) longer;
      }

  pub text_one_unit : AreProperStatements → HaveTheirStatements → AreOneUnit → HaveNoSubroutines → RewrittenTextsAreOneUnit
  text_one_unit proper have unit plain p checked text is =
      let short = shared-short is.rewritten.form is.form is.flat is.rewritten.shared is.statements in
      let can : CanBeText is.form is.flat = record {
        declarations = short.well_formed.declarations;
        form = is.statements.form;
        proper = proper is.form is.flat short.well_formed is.statements;
        few = short.few;
        short = short.short;
      } in
      record {
        stmts = statements_read is.form is.flat;
        has = subst (λ (xs : List ℕ). HasStatements xs (statements_read is.form is.flat)) (sym is.is) (have is.form is.flat can);
        unit = unit is.form is.flat is.statements.form;
        plain = plain is.form is.flat is.statements.form;
      }

abbrev pub KeepDialects : Type 0
KeepDialects = (p : Program) (checked : Bool) (s : Program) → IsOfDialect checked p → IsRewritten p checked s → IsOfDialect checked s

abbrev pub AreReadBack : Type 0
AreReadBack = (p : Program) (flat : List FlatLine) (checked : Bool) → HasText p flat → IsOfDialect checked p → IsReadBack (text_of p flat) checked p

pub text_read_back : RewrittenProgramsHaveText → KeepDialects → AreReadBack → RewrittenTextsAreReadBack
text_read_back have keep read p checked bytes arrays dialect is =
    let text = have p checked is.form is.flat arrays is.rewritten is.statements in
    let of = keep p checked is.form dialect is.rewritten in
    subst (λ (xs : List ℕ). IsReadBack xs checked is.form) (sym is.is) (read is.form is.flat checked text of)
