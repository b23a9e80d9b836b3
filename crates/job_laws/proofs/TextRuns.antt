-- The runs of a text are alike with those of the program that it comes to.
use Rattle.std.proofs.Common.{◌≡◌, ℕ, ◌+◌, ◌-◌, arith, ℤ, Bool, true, false, cond, List, [], Ok, Err, refl, sym, ap, subst, ◌∙◌, append-nil}
use Rattle.std.specs.Prelude.{Result}
use Rattle.f77_tree.specs.declared.programs.Program.{Program}
use Rattle.f77_tree.specs.declared.statements.Labelled.{Labelled}
use Rattle.f77_tree.specs.Run.{Ended, State, source}
use Rattle.layout_rules.specs.Layout.{layout}
use Rattle.layout_rules.specs.Source.{IsSource}
use Rattle.program_units.specs.declared.entity.Entity.{Entity}
use Rattle.program_units.specs.Calls.{RunsAlike, called}
use Rattle.program_units.specs.Refusals.{expansion}
use Rattle.program_units.specs.Storage.{IsStorage}
use Rattle.program_units.specs.Texts.{IsText}
use Rattle.program_units.specs.Units.{units}
use Rattle.called_runs.specs.Expanded.{IsExpanded}
use Rattle.called_runs.specs.RunsAsCalled.{HoldsByName, KeepsPace, KeepsPaceWithCalls, RunsAsCalled}
use Rattle.called_runs.specs.SpareWords.{HasStorage}
use Rattle.fixed_form.specs.declared.raw_stmt.RawStmt.{RawStmt}
use Rattle.fixed_form.specs.Reading as lines
use Rattle.f77_source.specs.Listed.{is_one_unit}
use Rattle.f77_source.specs.Reading.{HasStatements, IsProgramOf, statements_of}
use Rattle.job_laws.specs.GameLaws.{StopFirst}
use Rattle.job_laws.specs.SourceRuns.{AreAlike, AreRunsOf, UnitsEndByName, EndsByName, HasRuns, RunsAs, SourceRun, SourceRuns, of_one_unit, of_units, run_of, run_of_units}
use Rattle.job_laws.proofs.Soon.{keeps_up_itself}

-- ---- a text has its statements

same_value : {A E : Type 0} (read : Result A E) (a b : A) → read ≡ Ok a → read ≡ Ok b → a ≡ b
same_value (Ok x) a b is also = let left : Ok x ≡ Ok a = is in let right : Ok x ≡ Ok b = also in cc
same_value (Err end) a b is also = absurd cc

same_statements : (bytes : List ℕ) (a b : List Labelled) → HasStatements bytes a → HasStatements bytes b → a ≡ b
same_statements bytes a b is also =
    let same : is.raws ≡ also.raws = same_value (lines.reading bytes) is.raws also.raws is.lines also.lines in
    same_value (statements_of also.raws) a b (subst (λ (raws : List RawStmt). statements_of raws ≡ Ok a) same is.statements) also.statements

-- a run that has ended stays as it is
abbrev pub StaysEnded : Type 0
StaysEnded = (p : Program) (input : List ℤ) (n k : ℕ) → (source p input n).mark ≡ Ended → source p input (k + n) ≡ source p input n

-- ---- runs that are alike

alike_itself : (run : SourceRun) → AreAlike run run
alike_itself run = record {
  front = λ n. record { steps = n; rest = []; is = sym (append-nil (run.out n)) };
  back = λ n. record { steps = n; rest = []; is = sym (append-nil (run.out n)) };
  ends = λ text. (λ is. is, λ is. is);
  traps = λ trap line text. (λ is. is, λ is. is);
  keeps_up = keeps_up_itself run;
}

module _ (us : List (List Labelled)) (checked : Bool) (spot : Entity → ℕ) (opening input : List ℤ) (p : Program) (paced : (n : ℕ) → KeepsPace us p.names spot (called us checked spot input opening) (source p input) n) where
  alike_called : RunsAlike (called us checked spot input opening) (source p input) → AreAlike (run_of_units us checked spot opening input) (run_of p input)
  alike_called is = record {
    front = is.front;
    back = is.back;
    ends = is.ends;
    traps = is.traps;
    keeps_up = λ n. let s = paced n in record { steps = s.steps; few = s.few; outs = s.outs; marks = s.marks };
  }

  -- the program ends too, and then it stays
  ends_by_name : StopFirst → StaysEnded → (n : ℕ) → (called us checked spot input opening n).mark ≡ Ended → EndsByName us spot (called us checked spot input opening n) p input n
  ends_by_name stop_first stays n ended =
      let s = paced n in
      let first = stop_first p input s.steps Ended (λ e. absurd cc) (sym s.marks ∙ ended) in
      let few = s.few in
      let within = first.within in
      let sum : s.steps - first.count + first.count ≡ s.steps = omega (arith, within) in
      let same : source p input s.steps ≡ source p input first.count = ap (source p input) (sym sum) ∙ stays p input first.count (s.steps - first.count) first.stops.reached in
      record {
        steps = first.count;
        few = omega (arith, few, within);
        ends = first.stops;
        words = subst (λ (y : State). HoldsByName us p.names spot (called us checked spot input opening n).store y.memory.store) same s.words;
      }

-- ---- texts

-- what is known of texts of several units
pub record CallLaws : Type 0 where
  pub sources : (stmts list : List Labelled) (checked : Bool) → IsText stmts → expansion stmts checked ≡ Ok list → IsSource list
  pub expanded : (stmts list : List Labelled) (checked : Bool) (p : Program) → IsText stmts → expansion stmts checked ≡ Ok list → IsSource list → layout list checked ≡ Ok p → IsExpanded stmts checked p
  pub runs : (stmts : List Labelled) (checked : Bool) (p : Program) → IsExpanded stmts checked p → RunsAsCalled stmts checked p
  pub paced : (stmts : List Labelled) (checked : Bool) (p : Program) → IsExpanded stmts checked p → KeepsPaceWithCalls stmts checked p
  pub storage : (stmts : List Labelled) (checked : Bool) (p : Program) → IsExpanded stmts checked p → HasStorage (units stmts) checked
  pub first : StopFirst
  pub stays : StaysEnded

module _ (laws : CallLaws) (bytes : List ℕ) (checked : Bool) (p : Program) (is : IsProgramOf bytes checked p) where
  abbrev stmts : List Labelled
  stmts = is.stmts

  -- a text of several units
  module _ (several : is_one_unit stmts ≡ false) where
    expansion_is : expansion stmts checked ≡ Ok is.are.list
    expansion_is = ap (λ (one : Bool). cond one (Ok stmts) (expansion stmts checked)) (sym several) ∙ is.are.units

    expanded : IsExpanded stmts checked p
    expanded = laws.expanded stmts is.are.list checked p is.are.text expansion_is (laws.sources stmts is.are.list checked is.are.text expansion_is) is.are.laid

    has_frames : HasRuns bytes checked p
    has_frames =
        let s : HasStorage (units stmts) checked = laws.storage stmts checked p expanded in
        record { runs = run_of_units (units stmts) checked s.spot s.opening; are = of_units stmts is.has several s.spot s.words s.opening s.storage }

  has_runs : (one : Bool) → is_one_unit stmts ≡ one → HasRuns bytes checked p
  has_runs true same = record { runs = run_of p; are = of_one_unit stmts is.has same }
  has_runs false same = has_frames same

  runs_alike : (runs : SourceRuns) → AreRunsOf bytes checked p runs → (input : List ℤ) → AreAlike (runs input) (run_of p input)
  runs_alike runs (of_one_unit others has one) input = alike_itself (run_of p input)
  runs_alike runs (of_units others has several spot words opening storage) input =
      let same : others ≡ stmts = same_statements bytes others stmts has is.has in
      let here : is_one_unit stmts ≡ false = subst (λ (xs : List Labelled). is_one_unit xs ≡ false) same several in
      let laid : IsStorage (units stmts) checked spot words opening = subst (λ (xs : List Labelled). IsStorage (units xs) checked spot words opening) same storage in
      subst (λ (xs : List Labelled). AreAlike (run_of_units (units xs) checked spot opening input) (run_of p input)) (sym same)
      (alike_called (units stmts) checked spot opening input p (laws.paced stmts checked p (expanded here) spot words opening input laid) (laws.runs stmts checked p (expanded here) spot words opening input laid))

  by_name : (several : is_one_unit stmts ≡ false) → UnitsEndByName stmts checked p
  by_name several spot words opening input n storage ended =
      ends_by_name (units stmts) checked spot opening input p (laws.paced stmts checked p (expanded several) spot words opening input storage) laws.first laws.stays n ended

  pub runs_as : RunsAs bytes checked p
  runs_as = record {
    has = has_runs (is_one_unit stmts) refl;
    alike = runs_alike;
    ends = λ others has several.
        let same : others ≡ stmts = same_statements bytes others stmts has is.has in
        subst (λ (xs : List Labelled). UnitsEndByName xs checked p) (sym same) (by_name (subst (λ (xs : List Labelled). is_one_unit xs ≡ false) same several));
  }
