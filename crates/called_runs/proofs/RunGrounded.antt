-- What is known of an expanded text, and of a storage of it, is all that the run needs.
use Rattle.std.proofs.Common.{◌≡◌, ℕ, ◌<◌, Bool, true, List, length, filter, Some, sym, ap, subst, ◌∙◌, arith}
use Rattle.std.specs.List.{slice_get}
use Rattle.f77_tree.specs.declared.programs.Program.{Program}
use Rattle.f77_tree.specs.declared.statements.Labelled.{Labelled}
use Rattle.f77_tree.specs.OtherPlaces.{DifferInPlaces}
use Rattle.f77_tree.specs.Value.{ArePlaced}
use Rattle.layout_rules.specs.Appearances.{appearing}
use Rattle.layout_rules.specs.Declarations.{is_array}
use Rattle.layout_rules.specs.Executables.{is_do}
use Rattle.layout_rules.specs.Labels.{is_executable}
use Rattle.layout_rules.specs.Layout.{names_of, program}
use Rattle.layout_rules.specs.Types.{is_well_kinded}
use Rattle.copied_values.specs.ChangedTables.{AreChangedTables}
use Rattle.copied_values.specs.SideBySide.{AreTied, IsPairing}
use Rattle.copied_values.proofs.FrameTables.{frame-table, program-table}
use Rattle.program_units.specs.declared.entity.Entity.{Entity}
use Rattle.program_units.specs.Contexts.{IsReached}
use Rattle.program_units.specs.Copies.{Context, changes}
use Rattle.program_units.specs.Expansion.{whole_list}
use Rattle.program_units.specs.Layouts.{own_program}
use Rattle.program_units.specs.Units.{standing_in, unit_at, units}
use Rattle.unit_laws.proofs.ReachedUnits.{unit-inside}
use Rattle.called_runs.specs.Expanded.{IsExpanded}
use Rattle.called_runs.proofs.AcceptedGrounds.{grounds, laid-here, source-here}
use Rattle.called_runs.proofs.Grounds.{AreLaid}
use Rattle.called_runs.proofs.PlacedProgram.{laid-program}
use Rattle.called_runs.proofs.RunBegins.{run-begins}
use Rattle.called_runs.proofs.RunExecs.{order-increments, order-own}
use Rattle.called_runs.proofs.RunGrounds.{AreRunGrounds, IsGrounded, table_of}
use Rattle.called_runs.proofs.RunLines.{line-tells, main-stays, unit-loops}
use Rattle.called_runs.proofs.RunPlaces.{loops-apart, loops-numbered, loops-paired}
use Rattle.called_runs.proofs.StandingLists.{counted}

module _ (stmts : List Labelled) (checked : Bool) (p : Program) (is : IsExpanded stmts checked p) (spot : Entity → ℕ) (words : ℕ) (Paired : ℕ → ℕ → Type 0) where
  abbrev us : List (List Labelled)
  us = units stmts

  laid : AreLaid us (whole_list us)
  laid = grounds stmts checked is.text is.accepted p is.source is.laid

  same-program : program (whole_list us) checked ≡ p
  same-program = laid-program (whole_list us) checked p is.laid

  module _ (tables : (c : Context) → AreChangedTables (table_of us checked spot c) p.names (changes us c))
      (framed : (c : Context) (at : ℕ → ℕ) → IsReached us c at → ArePlaced (table_of us checked spot c) words)
      (tied : (c : Context) (at : ℕ → ℕ) → IsReached us c at → (place : ℕ) (s : Labelled) → slice_get (unit_at us c.unit) place ≡ Some s → is_executable s.stmt ≡ true → AreTied Paired (table_of us checked spot c) p.names (changes us c) (appearing (is_array (unit_at us c.unit)) s.stmt))
      (kinded : (c : Context) (place : ℕ) (s : Labelled) → slice_get (unit_at us c.unit) place ≡ Some s → is_well_kinded (table_of us checked spot c) s.stmt ≡ true) where
    grounded : (c : Context) (at : ℕ → ℕ) → IsReached us c at → IsGrounded us checked spot p words Paired c at
    grounded c at reached =
        let inside = unit-inside stmts checked is.text is.accepted c at reached in
        let unit = unit_at us c.unit in
        let stood = standing_in unit in
        let held = laid.copied c at reached in
        let source = source-here stmts checked is.text is.accepted c.unit inside in
        let own = laid-here stmts checked is.text is.accepted c.unit inside in
        let differ : DifferInPlaces (names_of stood) (table_of us checked spot c) = frame-table us spot c.unit c.arguments stood checked in
        record {
          loops = unit-loops stmts checked is.text is.accepted c.unit inside;
          loops_paired = loops-paired us (whole_list us) laid c at held;
          loops_numbered = λ i j are.
              let both = loops-numbered us (whole_list us) laid c at held i j are in
              let mine : length (filter (λ s. is_do s.stmt) unit) ≡ (own_program unit checked).loops = sym (counted unit) in
              let there : length (filter (λ s. is_do s.stmt) (whole_list us)) ≡ p.loops = ap (λ (q : Program). q.loops) same-program in
              let less = both.0 in
              let less_too = both.1 in
              (omega (arith, less, mine), omega (arith, less_too, there));
          tables = tables c;
          placed = framed c at reached;
          tied = λ place s there does. record { tied = tied c at reached place s there does; kinded = kinded c place s there };
          execs = record {
            own = order-own stood checked (own_program unit checked) source own (table_of us checked spot c) differ;
            increments = order-increments stood checked (own_program unit checked) source own (table_of us checked spot c) differ;
          };
          lines = line-tells stmts checked is.text is.accepted c.unit;
          no_return = λ main place s there. main-stays stmts checked is.text is.accepted place s (ap (λ (k : ℕ). slice_get (unit_at us k) place) (sym main) ∙ there);
        }

    pub run-grounds : IsPairing Paired → ((v w : ℕ) → Paired v w → (v < words) × (w < p.words)) → ArePlaced p.names p.words → AreRunGrounds us checked spot p words Paired
    run-grounds paired inside placed_too =
        let differ : DifferInPlaces (names_of (whole_list us)) p.names = subst (λ (q : Program). DifferInPlaces (names_of (whole_list us)) q.names) same-program (program-table (whole_list us) checked) in
        record {
          laid = laid;
          words_paired = paired;
          inside = inside;
          placed = placed_too;
          execs = record {
            own = order-own (whole_list us) checked p is.source is.laid p.names differ;
            increments = order-increments (whole_list us) checked p is.source is.laid p.names differ;
          };
          begins = run-begins us laid;
          ended = is.source.ended;
          contexts = grounded;
          apart = λ c d at there i j k reached inner one other. loops-apart us (whole_list us) laid c d at there i j k reached inner one other;
        }
