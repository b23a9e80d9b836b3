-- The increment of a DO, and that of its copy.
use Rattle.std.proofs.Common.{◌≡◌, ℕ, zero, suc, ◌+◌, ◌<◌, ℤ, Bool, true, false, List, [], ◌∷◌, length, map, Some, None, slice_get, refl, sym, ap, ◌∙◌, arith}
use Rattle.f77_tree.specs.declared.programs.Exec.{Exec}
use Rattle.f77_tree.specs.declared.programs.ExecKind.{ExecKind}
use Rattle.f77_tree.specs.declared.programs.ExecKind.TheVariants.{DoNext}
use Rattle.f77_tree.specs.declared.programs.NameInfo.{NameInfo}
use Rattle.f77_tree.specs.declared.programs.Program.{Program}
use Rattle.f77_tree.specs.declared.statements.Labelled.{Labelled}
use Rattle.f77_tree.specs.declared.statements.Stmt.{Stmt}
use Rattle.f77_tree.specs.declared.statements.Stmt.TheVariants.{Do}
use Rattle.f77_tree.specs.Declarations.{index_of}
use Rattle.f77_tree.specs.Run.{State}
use Rattle.layout_rules.specs.Executables.{exit_after, first_of, increments, is_do_to, loop_number, loops_to, own_executables, variable_of}
use Rattle.layout_rules.specs.Labels.{is_executable}
use Rattle.control_structure.proofs.ExecutableLemmas.{length-increments}
use Rattle.program_units.specs.declared.entity.Entity.{Entity}
use Rattle.program_units.specs.Calls.{CallState, Does, act}
use Rattle.program_units.specs.Contexts.{IsReached}
use Rattle.program_units.specs.Copies.{Context, changes}
use Rattle.program_units.specs.Expansion.{whole_list}
use Rattle.program_units.specs.Layouts.{own_program}
use Rattle.program_units.specs.Units.{is_end, standing_in, unit_at}
use Rattle.program_units.specs.Widths.{is_kept}
use Rattle.called_runs.specs.CopiedPositions.{Stands, first_increment, last_place, standing}
use Rattle.called_runs.proofs.ControlRoles.{stand-role}
use Rattle.called_runs.proofs.CopiedOutcomes.{IsTiedStatement, IsTiedTest}
use Rattle.called_runs.proofs.FramesBeside.{Beside}
use Rattle.called_runs.proofs.Grounds.{IsCopied}
use Rattle.called_runs.proofs.LastPieces.{IsLast, last-one}
use Rattle.called_runs.proofs.PlainRows.{HavePair, Like, does-alike, pair-at}
use Rattle.called_runs.proofs.RunGrounds.{AreRunGrounds, IsGrounded, table_of}
use Rattle.called_runs.proofs.RunSteps.{Followed}
use Rattle.called_runs.proofs.StandingIncrements.{end-loops, increments-alike}
use Rattle.called_runs.proofs.StandingLists.{standing-at, standing-first, standing-loops}

do-executes : (label : ℕ) (t : Stmt) → is_do_to label t ≡ true → is_executable t ≡ true
do-executes label (Do a b c d e) does = refl
do-executes label _ does = let e : false ≡ true = does in absurd cc

-- an increment does what it says
next-does : (us : List (List Labelled)) (k line : ℕ) (names : List NameInfo) (whole : List Labelled) (place index : ℕ) (ds : List ℕ) (i : ℕ) (kind : ExecKind) → slice_get (increments names whole place index ds) i ≡ Some kind → act us k (record { line = line; kind = kind }) ≡ Does
next-does us k line names whole place index [] i kind is = let e : None ≡ Some kind = is in absurd cc
next-does us k line names whole place index (d ∷ ds) zero kind is =
    let made = DoNext (loop_number whole d) (index_of names (variable_of (slice_get whole d))) (first_of whole d + 1) (exit_after whole place index ds) in
    let e : Some made ≡ Some kind = is in
    let same : made ≡ kind = cc in
    ap (λ (n : ExecKind). act us k (record { line = line; kind = n })) (sym same)
next-does us k line names whole place index (d ∷ ds) (suc i) kind is = next-does us k line names whole place (index + 1) ds i kind is

module _ (us : List (List Labelled)) (checked : Bool) (spot : Entity → ℕ) (input opening : List ℤ) (p : Program) (words : ℕ) (Paired : ℕ → ℕ → Type 0) (g : AreRunGrounds us checked spot p words Paired) where
  abbrev list : List Labelled
  list = whole_list us

  module _ (c : Context) (at : ℕ → ℕ) (reached : IsReached us c at) (place : ℕ) (s : Labelled) (is : slice_get (unit_at us c.unit) place ≡ Some s) (kept : is_kept c.unit s.stmt ≡ true) where
    abbrev unit : List Labelled
    unit = unit_at us c.unit

    abbrev own : Program
    own = own_program unit checked

    abbrev table : List NameInfo
    table = table_of us checked spot c

    abbrev Comes : ℕ → ℕ → Type 0
    Comes = Stands us list c at

    grounds : IsGrounded us checked spot p words Paired c at
    grounds = g.contexts c at reached

    held : IsCopied us list c at
    held = g.laid.copied c at reached

    last : IsLast us list g.laid c at held place s
    last = last-one us list g.laid c at held place s is kept

    abbrev kinds : List ExecKind
    kinds = increments table (standing_in unit) place (first_of unit place + own_executables s.stmt) (loops_to unit s.label)

    abbrev others : List ExecKind
    others = increments p.names list (last_place us c at place s) (first_increment us list c at place s) (map at (loops_to unit s.label))

    found : (i : ℕ) (kind : ExecKind) → slice_get kinds i ≡ Some kind → slice_get own.execs (first_of unit place + own_executables s.stmt + i) ≡ Some (record { line = s.line; kind = kind })
    found i kind at_i =
        let same : increments table (standing_in unit) place (first_of (standing_in unit) place + own_executables (standing s).stmt) (loops_to (standing_in unit) (standing s).label) ≡ kinds =
        ap (λ (n : ℕ). increments table (standing_in unit) place (n + own_executables (standing s).stmt) (loops_to (standing_in unit) (standing s).label)) (standing-first unit place)
        ∙ ap (λ (n : ℕ). increments table (standing_in unit) place (first_of unit place + n) (loops_to (standing_in unit) (standing s).label)) (stand-role s.stmt).own
        ∙ ap (λ (ds : List ℕ). increments table (standing_in unit) place (first_of unit place + own_executables s.stmt) ds) (standing-loops unit s.label) in
        ap (λ (n : ℕ). slice_get own.execs (n + own_executables s.stmt + i)) (sym (standing-first unit place))
        ∙ ap (λ (n : ℕ). slice_get own.execs (first_of (standing_in unit) place + n + i)) (sym (stand-role s.stmt).own)
        ∙ grounds.execs.increments place i (standing s) kind (standing-at unit place s is) (ap (λ (ks : List ExecKind). slice_get ks i) same ∙ at_i)

    found-there : (i : ℕ) (kind : ExecKind) → slice_get others i ≡ Some kind → slice_get p.execs (first_increment us list c at place s + i) ≡ Some (record { line = s.line; kind = kind })
    found-there i kind at_i =
        let place' = last_place us c at place s in
        let same : increments p.names list place' (first_of list place' + own_executables last.last.stmt) (loops_to list last.last.label) ≡ others =
        ap (λ (n : ℕ). increments p.names list place' (first_of list place' + n) (loops_to list last.last.label)) last.own
        ∙ ap (λ (ds : List ℕ). increments p.names list place' (first_increment us list c at place s) ds) last.loops in
        ap (λ (n : ℕ). slice_get p.execs (first_of list place' + n + i)) (sym last.own)
        ∙ g.execs.increments place' i last.last kind last.stands (ap (λ (ks : List ExecKind). slice_get ks i) same ∙ at_i)
        ∙ ap (λ (n : ℕ). let z : Exec = record { line = n; kind = kind } in Some z) last.line

    module _ (x : CallState) (y : State) (b : Beside us checked p input words Paired c at Comes x y) (i : ℕ) (here : b.position ≡ first_of unit place + own_executables s.stmt + i) (there : y.position ≡ first_increment us list c at place s + i) where
      by-pair : HavePair (Like us checked spot input opening p words Paired g c at reached) kinds others i → Followed us checked spot input opening p words Paired x y
      by-pair both =
          does-alike us checked spot input opening p words Paired g c at reached x y b (record { line = s.line; kind = both.first }) (record { line = s.line; kind = both.second })
          (ap (slice_get own.execs) here ∙ found i both.first both.is) (ap (slice_get p.execs) there ∙ found-there i both.second both.there) refl
          (next-does us c.unit s.line table (standing_in unit) place (first_of unit place + own_executables s.stmt) (loops_to unit s.label) i both.first both.is) both.related

      pub at-increment : i < length (loops_to unit s.label) → Followed us checked spot input opening p words Paired x y
      at-increment within = by-end (is_end s.stmt) refl
        where
          by-end : (e : Bool) → is_end s.stmt ≡ e → Followed us checked spot input opening p words Paired x y
          by-end true ends = let none : length (loops_to unit s.label) ≡ 0 = ap (λ (ds : List ℕ). length ds) (end-loops (IsTiedStatement Paired table p.names (changes us c)) (IsTiedTest Paired table p.names (changes us c)) table p.names checked us list g.laid c at held place s is ends) in absurd (omega (arith, within, none))
          by-end false no_end =
              let alike = increments-alike (IsTiedStatement Paired table p.names (changes us c)) (IsTiedTest Paired table p.names (changes us c)) table p.names checked us list g.laid c at held place s is kept no_end (λ d t at_d does. grounds.tied d t at_d (do-executes s.label t.stmt does)) in
              let long = length-increments table checked (standing_in unit) place (first_of unit place + own_executables s.stmt) (loops_to unit s.label) in
              by-pair (pair-at (Like us checked spot input opening p words Paired g c at reached) kinds others i alike (omega (arith, within, long)))
