-- The firing of a load: its value first, and then its lines.
use Rattle.std.proofs.Common.{◌≡◌, ⊎_elim, ℕ, ◌==◌, Bool, true, false, if◌then◌else◌, List, Option, Some, refl, sym, ap, ◌∙◌, subst, eqb-true}
use Rattle.std.proofs.lemmas.Bool.{cases_Bool, eq-eqb}
use mathlib.Core.Path.{fun_ext}
use Rattle.list_laws.specs.Member.{Member}
use Rattle.list_laws.proofs.Members.{IsPassed, list_any_member, member_of_list_any}
use Rattle.cfg_build.specs.Passes.{out}
use Rattle.net_board.specs.Nodes.{all_lines, graph_in, switches}
use Rattle.net_board.specs.Tokens.{with_all}
use Rattle.net_board.proofs.NodeLaws.{Distinct, distinct_filter, distinct_range}
use Rattle.firing.specs.declared.system.NodeName.TheVariants.{Op}
use Rattle.op_board.specs.Operations.{Work, Load, Operate, Store, Take, Write, Begin, Advance, DecideTruth, DecideSign, DecideNumber, DecideTrips, DecideFirst, is_decision}
use Rattle.op_board.specs.OperationNets.{OperationNet, needed, operation_at}
use Rattle.op_board.specs.OperationTokens.{OperationTokens, fired_as, replaced}
use Rattle.op_board.proofs.NeededLines.{needed_has}
use Rattle.fork_board.specs.LoadGroups.{is_load}
use Rattle.fork_board.specs.ForkTokens.{ForkTokens, after_load, fork_fired_as, loaded_on}
use Rattle.fork_board.proofs.ForkNodes.{IsLoadDone, load_done, load_fired}
use Rattle.read_forks.specs.LoadSteps as steps
use Rattle.read_forks.proofs.LinesRead.{all_stood, is_in, read_all}

pub needed_distinct : (x : OperationNet) (piece i : ℕ) → Distinct (needed x piece i)
needed_distinct x piece i = distinct_filter (x.needs piece i) (all_lines x.net) (distinct_range 0 x.net.routing.lines)

-- a load decides nothing
no_decision : (work : Work) → is_load work ≡ true → is_decision work ≡ false
no_decision (Load name subs) loads = refl
no_decision (Operate op) loads = refl
no_decision (Store name subs) loads = refl
no_decision Take loads = refl
no_decision (Write items) loads = refl
no_decision (Begin loop_no var) loads = refl
no_decision (Advance loop_no var) loads = refl
no_decision DecideTruth loads = absurd cc
no_decision DecideSign loads = absurd cc
no_decision (DecideNumber count) loads = absurd cc
no_decision (DecideTrips loop_no) loads = absurd cc
no_decision DecideFirst loads = absurd cc

module _ (x : OperationNet) (piece i : ℕ) (exist : (line : ℕ) → x.needs piece i line ≡ true → Member (needed x piece i) line) where
  pub needed_is : (line : ℕ) → is_in (needed x piece i) line ≡ x.needs piece i line
  needed_is line = ⊎_elim
      (λ (needs : x.needs piece i line ≡ true). list_any_member (λ l. l == line) (needed x piece i) line (exist line needs) (eq-eqb line line refl) ∙ sym needs)
      (λ (not : x.needs piece i line ≡ false). none not (is_in (needed x piece i) line) refl ∙ sym not)
      (cases_Bool (x.needs piece i line))
    where
      none : x.needs piece i line ≡ false → (b : Bool) → is_in (needed x piece i) line ≡ b → is_in (needed x piece i) line ≡ false
      none not true is =
          let p : IsPassed (λ l. l == line) (needed x piece i) = member_of_list_any (λ l. l == line) (needed x piece i) is in
          let own : x.needs piece i line ≡ true = subst (λ l. x.needs piece i l ≡ true) (eqb-true p.one line p.passes) ((needed_has x piece i p.one p.among).1) in
          let e : true ≡ false = sym own ∙ not in
          absurd cc
      none not false is = is

  module _ (m : ForkTokens) (k : ℕ) (loads : is_load (operation_at x piece i).work ≡ true) where
    abbrev before : ForkTokens
    before = steps.load_performed x m k piece i

    abbrev after : OperationTokens
    after = fired_as x m.operations k (Op piece i)

    -- the marking after it, where this has become of the edges that are left, and these loads have fired
    abbrev with_rest : ((line piece number : ℕ) → Bool) → List (Option ℕ) → ForkTokens
    with_rest loaded edges = record {
      operations = record {
        tokens = record m.operations.tokens { lines = with_all m.operations.tokens.lines (needed x piece i) (λ line. (after_load x m piece i line).edge); edges = edges };
        passed = replaced m.operations.passed (needed x piece i) (λ line. (after_load x m piece i line).passed);
        values = after.values;
      };
      loaded = loaded;
    }

    abbrev read : (line piece number : ℕ) → Bool
    read line = if x.needs piece i line then (after_load x m piece i line).loaded else m.loaded line

    -- a load leaves the memory, the edges that are left and the trap
    abbrev left_by : Bool → List (Option ℕ)
    left_by decides = if decides then with_all m.operations.tokens.edges (switches x.net piece) (λ switch. Some (out (graph_in x.net) piece 0)) else m.operations.tokens.edges

    all_at_once : all_stood before (needed x piece i) (after_load x m piece i) ≡ loaded_on x m piece i after
    all_at_once =
        let done : IsLoadDone x m.operations k piece i = load_done x m.operations k piece i loads in
        ap (λ (loaded : (line piece number : ℕ) → Bool). with_rest loaded m.operations.tokens.edges) (fun_ext (λ line. ap (λ b. if b then (after_load x m piece i line).loaded else m.loaded line) (needed_is line)))
        ∙ ap (λ b. with_rest read (left_by b)) (sym (no_decision (operation_at x piece i).work loads))
        ∙ ap (λ (o : OperationTokens). record (with_rest read m.operations.tokens.edges) { operations = record (with_rest read m.operations.tokens.edges).operations { tokens = record o.tokens { lines = with_all m.operations.tokens.lines (needed x piece i) (λ line. (after_load x m piece i line).edge) } } }) (sym done.is)

    pub fired_in_steps : fork_fired_as x m k (Op piece i) ≡ steps.load_fired x m k piece i
    fired_in_steps =
        load_fired x m k piece i loads
        ∙ sym all_at_once
        ∙ sym (read_all x piece i before (needed x piece i) (after_load x m piece i) (needed_distinct x piece i) (λ j among. refl))
