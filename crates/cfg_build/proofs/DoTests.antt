-- The test of a DO that begins or is incremented.
use Rattle.std.proofs.Common.{◌≡◌, ℕ, ◌<◌, ℤ, true, if◌then◌else◌, nat_lt, List, [], ◌∷◌, length, Option, Some, None, Result, Ok, slice_get, slice_index, refl, ap, ◌∙◌, unwrap_or, arith}
use Rattle.std.proofs.lemmas.Bool.{false≢true}
use Rattle.op_table.specs.declared.Trap.{Trap}
use Rattle.f77_tree.specs.declared.programs.Exec.{Exec}
use Rattle.f77_tree.specs.declared.programs.ExecKind.{ExecKind}
use Rattle.f77_tree.specs.declared.programs.ExecKind.TheVariants.{Assign, Print, Pass, Test, Sign, Pick, DoStart, DoNext, End}
use Rattle.f77_tree.specs.declared.programs.NameInfo.{NameInfo}
use Rattle.f77_tree.specs.declared.programs.Program.{Program}
use Rattle.f77_tree.specs.Control.{successors}
use Rattle.f77_tree.specs.Execution.{Memory, outcome, value_in}
use Rattle.f77_tree.specs.Loops.{Loop, begun, begun_in, begun_at, incremented, incremented_at, do_start, IsLoop, AreLoops}
use Rattle.f77_tree.specs.Value.{place_of}
use Rattle.cfg_build.specs.Joined.{FlowGraph}
use Rattle.cfg_build.specs.Passes.{choice, kind_in}
use Rattle.cfg_build.specs.Chains.{has_test}
use Rattle.cfg_build.specs.Routes.{IsLast, owner}
use Rattle.cfg_build.proofs.PassOutcomes.{Tested, start_tested, next_tested}
use Rattle.cfg_build.proofs.ChainSteps.{two_last}
use Rattle.cfg_build.proofs.TestSteps.{IsTest}

some_loop : (a b : Loop) → Some a ≡ Some b → a ≡ b
some_loop a b same = ap (λ (o : Option Loop). unwrap_or o a) same

abbrev by_count : Memory → ℕ → Result ℕ Trap
by_count m loop_no = Ok (if nat_lt 0 (slice_index m.counts loop_no) then 0 else 1)

choice_begun : (names : List NameInfo) (m : Memory) (kind : ExecKind) (loop : Loop) → begun kind ≡ Some loop → choice names m kind ≡ by_count m loop.number
choice_begun names m h loop is = grind (arith, some_loop)

choice_at : (names : List NameInfo) (m : Memory) (exec : Option Exec) (loop : Loop) → begun_in exec ≡ Some loop → choice names m (kind_in exec) ≡ by_count m loop.number
choice_at names m None loop is = absurd cc
choice_at names m (Some exec) loop is = choice_begun names m exec.kind loop is

-- what is known of a DO that begins or is incremented
pub record IsDoStep (p : Program) (input : List ℤ) (k : ℕ) (kind : ExecKind) : Type 0 where
  pub loop_no : ℕ
  pub body : ℕ
  pub exit : ℕ
  pub few : loop_no < p.loops
  pub leads : successors kind ≡ body ∷ exit ∷ []
  pub tells : (m : Memory) → loop_no < length m.counts → Tested loop_no body exit (outcome p.names input m kind)
  pub chooses : (m : Memory) → choice p.names m (kind_in (slice_get p.execs (owner p.execs k kind))) ≡ Ok (if nat_lt 0 (slice_index m.counts loop_no) then 0 else 1)

module _ (p : Program) (input : List ℤ) (loops : AreLoops p.execs p.loops) where
  pub do_step : (k : ℕ) (kind : ExecKind) → ((loop : Loop) → begun kind ≡ Some loop → begun_at p.execs k ≡ Some loop) → ((loop : Loop) → incremented kind ≡ Some loop → incremented_at p.execs k ≡ Some loop) → has_test kind ≡ true → IsDoStep p input k kind
  do_step k (DoStart loop_no var first last step body exit) begins increments h =
      let loop : Loop = record { number = loop_no; variable = var; body = body; exit = exit } in
      record {
        loop_no = loop_no;
        body = body;
        exit = exit;
        few = loops.starts k loop (begins loop refl);
        leads = refl;
        tells = λ m few. start_tested m loop_no (place_of p.names var) body exit (value_in p.names m first) (value_in p.names m last) (value_in p.names m step) few;
        chooses = λ m. choice_at p.names m (slice_get p.execs k) loop (begins loop refl);
      }
  do_step k (DoNext loop_no var body exit) begins increments h =
      let loop : Loop = record { number = loop_no; variable = var; body = body; exit = exit } in
      let few : loop_no < p.loops = loops.nexts k loop (increments loop refl) in
      let is : IsLoop p.execs loop_no = loops.each loop_no few in
      record {
        loop_no = loop_no;
        body = body;
        exit = exit;
        few = few;
        leads = refl;
        tells = λ m some. next_tested m loop_no (place_of p.names var) body exit some;
        chooses = λ m. choice_at p.names m (slice_get p.execs (do_start p.execs loop_no)) is.loop is.begins ∙ ap (λ n. by_count m n) is.number;
      }
  do_step k (Assign target value next) begins increments h = absurd (false≢true h)
  do_step k (Print items next) begins increments h = absurd (false≢true h)
  do_step k (Pass next) begins increments h = absurd (false≢true h)
  do_step k (Test c a b) begins increments h = absurd (false≢true h)
  do_step k (Sign e a b c) begins increments h = absurd (false≢true h)
  do_step k (Pick e targets other) begins increments h = absurd (false≢true h)
  do_step k End begins increments h = absurd (false≢true h)

  -- the last piece of its chain is a test
  pub test_of : (f : FlowGraph) (entry : ℕ → ℕ) (k : ℕ) (kind : ExecKind) (node : ℕ) → has_test kind ≡ true → (d : IsDoStep p input k kind) → IsLast f entry p.execs k kind node → IsTest f entry p node d.loop_no d.body d.exit
  test_of f entry k kind node two d last = grind (arith, two_last kind two, last.leads 0, slice_index, last.leads 1)
