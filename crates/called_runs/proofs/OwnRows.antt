-- Executables of a statement that has one copy: all but STOP and RETURN, and END of the main program.
use Rattle.std.proofs.Common.{◌≡◌, ℕ, zero, suc, ◌+◌, ◌<◌, ◌==◌, ◌⊎◌, inl, inr, ℤ, Bool, true, false, not, List, [], ◌∷◌, length, Some, None, slice_get, if◌then◌else◌, refl, sym, ap, ◌∙◌, arith}
use Rattle.std.specs.List.{list_all}
use Rattle.std.proofs.lemmas.Bool.{and_parts}
use Rattle.f77_tree.specs.declared.programs.Exec.{Exec}
use Rattle.f77_tree.specs.declared.programs.ExecKind.{ExecKind}
use Rattle.f77_tree.specs.declared.programs.ExecKind.TheVariants.{End as Ended}
use Rattle.f77_tree.specs.declared.programs.NameInfo.{NameInfo}
use Rattle.f77_tree.specs.declared.programs.Program.{Program}
use Rattle.f77_tree.specs.declared.statements.Labelled.{Labelled}
use Rattle.f77_tree.specs.declared.statements.RawExpr.{RawExpr}
use Rattle.f77_tree.specs.declared.statements.Stmt.{Stmt, more_of-Stmt}
use Rattle.f77_tree.specs.declared.statements.Stmt.TheVariants.{Take, ThenIf', Sub, CallTo, Back, End}
use Rattle.f77_tree.specs.Run.{Running, State, Ended as HasEnded}
use Rattle.f77_tree.specs.StatementGrammar.{is_of_subroutines}
use Rattle.f77_tree.proofs.AllLemmas.{All-get}
use Rattle.f77_tree.proofs.RunLaws.{step-running}
use Rattle.layout_rules.specs.Executables.{beyond, first_of, own_executables, own_kinds, taking}
use Rattle.layout_rules.specs.Labels.{is_executable}
use Rattle.layout_rules.specs.StatementTrees.{IsTree}
use Rattle.layout_rules.specs.Tables.{has_simple_inner, is_simple}
use Rattle.control_structure.proofs.ExecutableLemmas.{length-own}
use Rattle.program_units.specs.declared.entity.Entity.{Entity}
use Rattle.program_units.specs.Calls.{CallState, Does, Halts, Returns, act}
use Rattle.program_units.specs.Contexts.{IsReached}
use Rattle.program_units.specs.Copies.{Context, changed_stmt, changes}
use Rattle.program_units.specs.Expansion.{whole_list}
use Rattle.program_units.specs.Layouts.{own_program}
use Rattle.program_units.specs.Units.{inner, is_end, stand_in, standing_in, unit_at}
use Rattle.program_units.specs.Widths.{is_kept}
use Rattle.copied_control.proofs.WhichPieces.{IsPlain}
use Rattle.called_runs.specs.CopiedPositions.{Stands, leaves, standing, copy_of}
use Rattle.called_runs.proofs.ControlRoles.{stand-role}
use Rattle.called_runs.proofs.CopiedOutcomes.{IsTiedStatement, IsTiedTest}
use Rattle.called_runs.proofs.FramesBeside.{Beside}
use Rattle.called_runs.proofs.Grounds.{IsCopied}
use Rattle.called_runs.proofs.ListedExecutables.{own-none}
use Rattle.called_runs.proofs.PlainRows.{HavePair, Like, does-alike, kind-acts, pair-at}
use Rattle.called_runs.proofs.ReturnRows.{unit-found}
use Rattle.called_runs.proofs.RunGrounds.{AreRunGrounds, IsGrounded, table_of}
use Rattle.called_runs.proofs.RunSteps.{Followed, followed, frame-executes}
use Rattle.called_runs.proofs.StandingLists.{standing-at}
use Rattle.called_runs.proofs.StandingOwn.{own-alike}
use Rattle.called_runs.proofs.StandingPlaces.{copy-at}
use Rattle.called_runs.proofs.TiedParts.{inner-tied, test-tied}

-- ---- only END has an END

abbrev is_ended : ExecKind → Bool
is_ended Ended = true
is_ended _ = false

abbrev goes_on : List ExecKind → Bool
goes_on kinds = list_all (λ kind. not (is_ended kind)) kinds

none-ends : (kinds : List ExecKind) (j : ℕ) → goes_on kinds ≡ true → slice_get kinds j ≡ Some Ended → ⊥
none-ends [] j on is = let e : None ≡ Some Ended = is in cc
none-ends (kind ∷ kinds) zero on is =
    let e : Some kind ≡ Some Ended = is in
    let same : kind ≡ Ended = cc in
    let no : not (is_ended Ended) ≡ true = ap (λ k. not (is_ended k)) (sym same) ∙ (and_parts (not (is_ended kind)) (goes_on kinds) on).0 in
    let both : false ≡ true = no in
    cc
none-ends (kind ∷ kinds) (suc j) on is = none-ends kinds j (and_parts (not (is_ended kind)) (goes_on kinds) on).1 is

module _ (names : List NameInfo) (checked : Bool) (whole : List Labelled) (place : ℕ) where
  takes-on : (index next : ℕ) (targets : List RawExpr) → goes_on (taking names checked index next targets) ≡ true
  takes-on index next [] = refl
  takes-on index next (target ∷ []) = refl
  takes-on index next (target ∷ another ∷ rest) = takes-on (index + 1) next (another ∷ rest)

  simple-on : (index next : ℕ) (t : Stmt) → is_simple t ≡ true → goes_on (own_kinds names checked whole place index next t) ≡ true
  simple-on index next (Take targets) simple = takes-on index next targets
  simple-on index next (ThenIf' condition shape row) simple = let e : false ≡ true = simple in absurd cc
  simple-on index next End simple = let e : false ≡ true = simple in absurd cc
  simple-on index next _ simple = refl

  kinds-on : (index next : ℕ) (t : Stmt) → has_simple_inner t ≡ true → is_end t ≡ false → goes_on (own_kinds names checked whole place index next t) ≡ true
  kinds-on index next (Take targets) simple no_end = takes-on index next targets
  kinds-on index next (ThenIf' condition shape (more_of-Stmt stmt rest)) simple no_end = simple-on (index + 1) next stmt simple
  kinds-on index next End simple no_end = let e : true ≡ false = no_end in absurd cc
  kinds-on index next _ simple no_end = refl

stand-end : (t : Stmt) → is_end (stand_in t) ≡ is_end t
stand-end (ThenIf' condition shape (more_of-Stmt stmt rest)) = refl
stand-end (Sub a b) = refl
stand-end (CallTo a b) = refl
stand-end Back = refl
stand-end _ = refl

main-only : (k : ℕ) (t : Stmt) → is_kept k t ≡ true → is_end t ≡ true → k ≡ 0
main-only zero t kept ends = refl
main-only (suc k) End kept ends = let e : false ≡ true = kept in absurd cc
main-only (suc k) _ kept ends = let e : false ≡ true = ends in absurd cc

module _ (us : List (List Labelled)) (checked : Bool) (spot : Entity → ℕ) (input opening : List ℤ) (p : Program) (words : ℕ) (Paired : ℕ → ℕ → Type 0) (g : AreRunGrounds us checked spot p words Paired) where
  abbrev list : List Labelled
  list = whole_list us

  module _ (c : Context) (at : ℕ → ℕ) (reached : IsReached us c at) (place : ℕ) (s : Labelled) (is : slice_get (unit_at us c.unit) place ≡ Some s) (plain : IsPlain us c place s) where
    abbrev unit : List Labelled
    unit = unit_at us c.unit

    abbrev own : Program
    own = own_program unit checked

    abbrev table : List NameInfo
    table = table_of us checked spot c

    abbrev Comes : ℕ → ℕ → Type 0
    Comes = Stands us list c at

    grounds : IsGrounded us checked spot p words Paired c at
    grounds = g.contexts c at reached

    held : IsCopied us list c at
    held = g.laid.copied c at reached

    pub tree : IsTree (stand_in s.stmt)
    tree = All-get (λ (t : Labelled). IsTree t.stmt) (standing_in unit) place (standing s) held.source.trees (standing-at unit place s is)

    no_subroutine : is_of_subroutines (stand_in s.stmt) ≡ false
    no_subroutine = All-get (λ (t : Labelled). is_of_subroutines t.stmt ≡ false) (standing_in unit) place (standing s) held.source.no_subroutines (standing-at unit place s is)

    abbrev kinds : List ExecKind
    kinds = own_kinds table checked (standing_in unit) place (first_of (standing_in unit) place) (beyond (standing_in unit) place (standing s)) (stand_in s.stmt)

    abbrev pub others : List ExecKind
    others = own_kinds p.names checked list (at place) (first_of list (at place)) (beyond list (at place) (copy_of us c place s)) (changed_stmt (changes us c) s.stmt)

    pub long : length kinds ≡ own_executables s.stmt
    long = length-own table checked (standing_in unit) place (first_of (standing_in unit) place) (beyond (standing_in unit) place (standing s)) (stand_in s.stmt) tree.inner no_subroutine ∙ (stand-role s.stmt).own

    -- an executable of the copy
    pub copy-found : (j : ℕ) (kind : ExecKind) → slice_get others j ≡ Some kind → slice_get p.execs (first_of list (at place) + j) ≡ Some (record { line = s.line; kind = kind })
    copy-found j kind found = g.execs.own (at place) j (copy_of us c place s) kind (copy-at us list g.laid c at held place s is plain) found

    does-something : (j : ℕ) → j < own_executables s.stmt → is_executable s.stmt ≡ true
    does-something j within = by (is_executable s.stmt) refl
      where
        by : (does : Bool) → is_executable s.stmt ≡ does → is_executable s.stmt ≡ true
        by true does = does
        by false does = let none = own-none s.stmt does in absurd (omega (arith, none, within))

    module _ (x : CallState) (y : State) (b : Beside us checked p input words Paired c at Comes x y) where
      -- END of the main program
      ends : (line : ℕ) → c.unit ≡ 0 → slice_get own.execs b.position ≡ Some (record { line = line; kind = Ended }) → slice_get p.execs y.position ≡ Some (record { line = line; kind = Ended }) → Followed us checked spot input opening p words Paired x y
      ends line first found found' =
          let r : Exec = record { line = line; kind = Ended } in
          let halts : act us c.unit r ≡ Halts = ap (λ (k : ℕ). if k == 0 then Halts else Returns) first in
          followed us checked spot input opening p words Paired x y (record x { mark = HasEnded }) (record y { mark = HasEnded }) 1 (omega arith)
          (frame-executes us checked spot input opening p words Paired c at Comes x y b b.position refl r Halts found halts)
          (step-running p input y r b.other_going found')
          (inr (record { stopped = λ h. let no : HasEnded ≡ Running = h in cc; marks = refl; outs = b.out; store = b.store })) (λ none. absurd cc)

      module _ (stays : leaves (inner s.stmt) ≡ false) (j : ℕ) (here : b.position ≡ first_of unit place + j) (there : y.position ≡ first_of list (at place) + j) (both : HavePair (Like us checked spot input opening p words Paired g c at reached) kinds others j) where
        abbrev r : Exec
        r = record { line = s.line; kind = both.first }

        abbrev r' : Exec
        r' = record { line = s.line; kind = both.second }

        found : slice_get own.execs b.position ≡ Some r
        found = ap (slice_get own.execs) here ∙ unit-found us checked spot input opening p words Paired g c at reached place j s both.first is both.is

        found' : slice_get p.execs y.position ≡ Some r'
        found' = ap (slice_get p.execs) there ∙ copy-found j both.second both.there

        by-end : both.first ≡ Ended → both.second ≡ Ended → (e : Bool) → is_end s.stmt ≡ e → Followed us checked spot input opening p words Paired x y
        by-end first second true at_end = ends s.line (main-only c.unit s.stmt plain.kept at_end) (found ∙ ap (λ k. let z : Exec = record { line = s.line; kind = k } in Some z) first) (found' ∙ ap (λ k. let z : Exec = record { line = s.line; kind = k } in Some z) second)
        by-end first second false no_end = absurd (none-ends kinds j (kinds-on table checked (standing_in unit) place (first_of (standing_in unit) place) (beyond (standing_in unit) place (standing s)) (stand_in s.stmt) tree.inner (stand-end s.stmt ∙ no_end)) (both.is ∙ ap (λ k. Some k) first))

        by-acts : (act us c.unit r ≡ Does) ⊎ ((both.first ≡ Ended) × (both.second ≡ Ended)) → Followed us checked spot input opening p words Paired x y
        by-acts (inl does) = does-alike us checked spot input opening p words Paired g c at reached x y b r r' found found' refl does both.related
        by-acts (inr end) = by-end end.0 end.1 (is_end s.stmt) refl

        by-pair : Followed us checked spot input opening p words Paired x y
        by-pair = by-acts (kind-acts us checked spot input opening p words Paired g c at reached place s is plain.none stays both.first both.second both.related)

      pub at-own : leaves (inner s.stmt) ≡ false → (j : ℕ) → j < own_executables s.stmt → b.position ≡ first_of unit place + j → y.position ≡ first_of list (at place) + j → Followed us checked spot input opening p words Paired x y
      at-own stays j within here there =
          let tied = grounds.tied place s is (does-something j within) in
          let alike = own-alike (IsTiedStatement Paired table p.names (changes us c)) (IsTiedTest Paired table p.names (changes us c)) table p.names checked us list g.laid c at held place s is plain stays tied (inner-tied Paired table p.names (changes us c) s.stmt tied) (λ e condition. test-tied Paired table p.names (changes us c) s.stmt e condition tied) in
          let same = long in
          by-pair stays j here there (pair-at (Like us checked spot input opening p words Paired g c at reached) kinds others j alike (omega (arith, within, same)))
