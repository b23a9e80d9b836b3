-- In a text whose units nothing refuses, and whose expansion is laid out, all is known that control in copies needs.
use Rattle.std.proofs.Common.{◌≡◌, ℕ, suc, ◌+◌, ◌<◌, Bool, true, false, ◌&&◌, ◌||◌, List, [], ◌∷◌, length, drop, Option, Some, None, Ok, if◌then◌else◌, refl, sym, ap, subst, ◌∙◌, arith}
use Rattle.std.specs.List.{slice_get}
use Rattle.std.proofs.lemmas.Bool.{lt-ltb}
use Rattle.f77_tree.specs.declared.programs.Program.{Program}
use Rattle.f77_tree.specs.declared.statements.Labelled.{Labelled}
use Rattle.layout_rules.specs.declared.layout_end.LayoutEnd.{LayoutEnd}
use Rattle.layout_rules.specs.Executables.{is_do_to}
use Rattle.layout_rules.specs.Jumps.{end_after, is_block_if, is_end_if}
use Rattle.layout_rules.specs.Labels.{is_arm, statement_of}
use Rattle.layout_rules.specs.Layout.{layout, program, refusal, unless_refused}
use Rattle.layout_rules.specs.Source.{IsSource}
use Rattle.f77_layout.proofs.LabelsLead.{labels-lead}
use Rattle.control_laws.proofs.SuccessorBlocks.{IsEnded as EndsInEnd, stops}
use Rattle.program_units.specs.Units.{is_end, standing_in, unit_at, unit_or_none, units}
use Rattle.program_units.specs.Widths.{body_labels}
use Rattle.program_units.specs.Contexts.{IsReached}
use Rattle.program_units.specs.Copies.{Context}
use Rattle.program_units.specs.Expansion.{whole_list}
use Rattle.program_units.specs.Heights.{height, reached}
use Rattle.program_units.specs.OpenBlocks.{IsEnded}
use Rattle.program_units.specs.Refusals.{unit_refusal}
use Rattle.program_units.specs.Texts.{IsText}
use Rattle.unit_laws.proofs.NoAnswer.{laid}
use Rattle.unit_laws.proofs.PieceLabels.{whole-labels}
use Rattle.unit_laws.proofs.ReachedUnits.{none-past, unit-ended, unit-inside}
use Rattle.unit_laws.proofs.UnitSources.{IsUnit, LastIsEnd, stands-last, text-unit, unit-source}
use Rattle.copied_control.proofs.AcceptedUnits.{closed-units, ends-in-units, placed}
use Rattle.copied_control.proofs.LoopsTo.{none-to-nought}
use Rattle.copied_control.proofs.RangeEnds.{nested, not-end, twice-none}
use Rattle.called_runs.proofs.ControlRoles.{stand-role}
use Rattle.called_runs.proofs.Grounds.{AreLaid, IsCopied, StopsAt}
use Rattle.called_runs.specs.CopiedPositions.{standing}
use Rattle.called_runs.proofs.StandingLists.{standing-at, standing-end, stands-for}

ends-in-end : (u : List Labelled) → LastIsEnd u → EndsInEnd u
ends-in-end [] e = e
ends-in-end (s ∷ []) e = e
ends-in-end (s ∷ t ∷ rest) e = ends-in-end (t ∷ rest) e

module _ (stmts : List Labelled) (checked : Bool) (text : IsText stmts) (accepted : unit_refusal stmts checked ≡ None) where
  abbrev us : List (List Labelled)
  us = units stmts

  -- ---- a unit of the text

  module _ (k : ℕ) (inside : k < length us) where
    unit-here : (u : List Labelled) × (slice_get us k ≡ Some u)
    unit-here = by_item (slice_get us k) refl
      where
        by_item : (o : Option (List Labelled)) → slice_get us k ≡ o → (u : List Labelled) × (slice_get us k ≡ Some u)
        by_item None here = absurd (none-past us k inside here)
        by_item (Some u) here = (u, here)

    unit-is : unit_at us k ≡ unit-here.0
    unit-is = ap unit_or_none unit-here.1

    pub of-unit : IsUnit (unit_at us k)
    of-unit = subst IsUnit (sym unit-is) (text-unit stmts text k unit-here.0 unit-here.1)

    pub source-here : IsSource (standing_in (unit_at us k))
    source-here = subst (λ (u : List Labelled). IsSource (standing_in u)) (sym unit-is) (unit-source stmts text k unit-here.0 unit-here.1)

    pub refused-none : refusal (standing_in (unit_at us k)) checked ≡ None
    refused-none = ap (λ (u : List Labelled). refusal (standing_in u) checked) unit-is ∙ laid stmts checked accepted k unit-here.0 unit-here.1

    pub laid-here : layout (standing_in (unit_at us k)) checked ≡ Ok (program (standing_in (unit_at us k)) checked)
    laid-here = ap (λ (o : Option LayoutEnd). unless_refused o (program (standing_in (unit_at us k)) checked)) refused-none

    high : 0 < height us k
    high = let e : height us k ≡ 1 + reached us k = ap (λ (b : Bool). if b then 1 + reached us k else 0) (lt-ltb k (length us) inside) in omega (arith, e)

  module _ (c : Context) (at : ℕ → ℕ) (is_reached : IsReached us c at) where
    abbrev unit : List Labelled
    unit = unit_at us c.unit

    in_it : c.unit < length us
    in_it = unit-inside stmts checked text accepted c at is_reached

    ended : IsEnded unit
    ended = unit-ended stmts checked text accepted c at is_reached

    stopping : (arms : Bool) (i : ℕ) (s : Labelled) → slice_get unit i ≡ Some s → (is_block_if s.stmt || is_arm s.stmt) ≡ true → StopsAt arms unit (end_after arms 0 (drop (i + 1) unit) (i + 1))
    stopping arms i s is opens =
        let stood = standing_in unit in
        let begins : (is_block_if (standing s).stmt || is_arm (standing s).stmt) ≡ true = ap (λ (b : Bool). b || is_arm (standing s).stmt) (stand-role s.stmt).begins ∙ ap (λ (b : Bool). is_block_if s.stmt || b) (stand-role s.stmt).arm ∙ opens in
        let stop = stops arms stood (ends-in-end stood (stands-last unit (of-unit c.unit in_it).ended)) (nested us checked c.unit (refused-none c.unit in_it) ended) i (standing s) (standing-at unit i s is) begins in
        let there : slice_get stood (end_after arms 0 (drop (i + 1) unit) (i + 1)) ≡ Some stop.s = ap (λ (n : ℕ). slice_get stood n) (sym (standing-end arms unit i)) ∙ stop.stands in
        let whose = stands-for unit (end_after arms 0 (drop (i + 1) unit) (i + 1)) stop.s there in
        let role = stand-role whose.s.stmt in
        record {
          s = whose.s;
          is = whose.is;
          ends = ap (λ (b : Bool). b || (arms && is_arm whose.s.stmt)) (sym role.ends) ∙ ap (λ (b : Bool). is_end_if (standing whose.s).stmt || (arms && b)) (sym role.arm) ∙ ap (λ (x : Labelled). is_end_if x.stmt || (arms && is_arm x.stmt)) (sym whose.same) ∙ stop.ends;
        }

    open-ended : (place label : ℕ) (s t : Labelled) → slice_get unit place ≡ Some s → is_do_to label s.stmt ≡ true → slice_get unit (statement_of unit label) ≡ Some t → is_end t.stmt ≡ false
    open-ended place label s t is does there = by_test (is_end t.stmt) refl
      where
        by_test : (b : Bool) → is_end t.stmt ≡ b → is_end t.stmt ≡ false
        by_test false no_end = no_end
        by_test true ends =
            let end = ends-in-units stmts checked text accepted c.unit place label s is does in
            let found : Some end.last ≡ Some t = sym end.is.stands ∙ there in
            let same : end.last ≡ t = cc in
            let has : t.label ≡ label = ap (λ (x : Labelled). x.label) (sym same) ∙ end.is.bears in
            absurd (not-end us checked c.unit (refused-none c.unit in_it) ended place (statement_of unit label) label s t end.is.some is does there has ends)

    pub copied : IsCopied us (whole_list us) c at
    copied =
        let where_it_is = placed stmts checked text accepted c at is_reached in
        let high_enough = where_it_is.deep in
        let some = high c.unit in_it in
        record {
          deep = omega (arith, high_enough, some);
          stands = where_it_is.stands;
          loops = where_it_is.loops;
          ended = ended;
          source = source-here c.unit in_it;
          once = twice-none us checked c.unit (refused-none c.unit in_it) ended;
          stops = stopping;
          open_ended = open-ended;
          execs = (program (standing_in unit) checked).execs;
          leads = labels-lead (standing_in unit) checked (program (standing_in unit) checked) (source-here c.unit in_it) (laid-here c.unit in_it);
        }

  pub grounds : (p : Program) → IsSource (whole_list us) → layout (whole_list us) checked ≡ Ok p → AreLaid us (whole_list us)
  grounds p source is = record {
    closed = closed-units stmts checked text accepted;
    have = ends-in-units stmts checked text accepted;
    count = body_labels us (suc (length us)) 0;
    rows = whole-labels us;
    nought = none-to-nought us (ends-in-units stmts checked text accepted);
    execs = p.execs;
    leads = labels-lead (whole_list us) checked p source is;
    copied = copied;
  }
