-- A step of a program and the steps of its simplified form that follow it, by what comes of their executables.
use Rattle.std.proofs.Common.{◌*◌, ◌≡◌, ℕ, suc, ◌+◌, ◌<◌, ◌≤◌, ℤ, Bool, List, [], ◌++◌, Some, refl, sym, ap, subst, ◌∙◌, arith, append-nil}
use Rattle.std.specs.Prelude.{slice_get}
use Rattle.op_table.specs.declared.Trap.{Trap}
use Rattle.f77_tree.specs.declared.programs.Exec.{Exec}
use Rattle.f77_tree.specs.declared.programs.Program.{Program}
use Rattle.f77_tree.specs.Execution.{Memory, Outcome, Goes, Stops, Ends, outcome}
use Rattle.f77_tree.specs.Operations.{exec_operations}
use Rattle.f77_tree.specs.Run.{State, Running, Ended, Trapped, after, step}
use Rattle.alias_classes.specs.Classes.{ClassTable}
use Rattle.const_prop.specs.Table.{Knowns}
use Rattle.simplified_laws.specs.InStep.{entry, operations_in, AreInStep, AreMemoriesInStep}
use Rattle.simplified_laws.proofs.EntriesLed.{new_form, Leads, LeadsOn}
use Rattle.simplified_laws.proofs.Stepping.{step-is, steps_on, steps_on-more, taken-more, taken_at, taken_on, Comes}

module _ (p : Program) (c : ClassTable) (t : Knowns) (checked : Bool) (is_item : ℕ → Bool) (input : List ℤ) where
  abbrev q : Program
  q = new_form p c t checked is_item input

  -- after a step from the state x, the simplified form is in step after at most three steps from the state y, which take at most twice
  -- the operations, and it makes none only where control goes on to a later executable
  pub record Follows (x y : State) : Type 0 where
    pub count : ℕ
    pub most : count ≤ 3
    pub in_step : AreInStep p c t checked is_item (step p input x) (steps_on q input count y)
    pub operations : taken_on q input count y ≤ 2 * operations_in (slice_get p.execs x.position)
    pub later : count ≡ 0 → (step p input x).mark ≡ Running → x.position < (step p input x).position

  -- ---- outcomes

  -- from an executable control goes on; from one of the simplified form it goes on to where the next one begins, or to a jump there
  pub record GoAlike (next : ℕ) (m : Memory) (text : List ℕ) (new_next : ℕ) (new : Memory) (new_text : List ℕ) : Type 0 where
    pub text_is : new_text ≡ text
    pub memory : AreMemoriesInStep p c t checked is_item m new
    pub leads : Leads p c t checked is_item input new_next (entry p c t checked is_item next)

  abbrev pub Meets : Outcome → Outcome → Type 0
  Meets (Goes next m text) (Goes new_next new new_text) = GoAlike next m text new_next new new_text
  Meets (Stops trap) (Stops new_trap) = new_trap ≡ trap
  Meets Ends Ends = Unit {0}
  Meets _ _ = ⊥

  module _ (x y : State) (in_step : AreInStep p c t checked is_item x y) (runs : x.mark ≡ Running) where
    -- ---- a statement that is left

    module _ (from count line : ℕ) (few : count ≤ 1) (comes : Comes q input y from count) (cheap : taken_at q input (steps_on q input count y) ≤ 2 * operations_in (slice_get p.execs x.position)) where
      abbrev z : State
      z = steps_on q input count y

      memory-there : AreMemoriesInStep p c t checked is_item x.memory z.memory
      memory-there = subst (AreMemoriesInStep p c t checked is_item x.memory) (sym comes.memory) in_step.memory

      out-there : z.out ≡ x.out
      out-there = comes.out ∙ in_step.out

      own-taken : taken_on q input (suc count) y ≤ 2 * operations_in (slice_get p.execs x.position)
      own-taken = let none = comes.idle in omega (arith, none, cheap)

      both-step : (a b : State) → step p input x ≡ a → step q input z ≡ b → AreInStep p c t checked is_item a b → AreInStep p c t checked is_item (step p input x) (steps_on q input (suc count) y)
      both-step a b is there in_it = subst (λ (s : State). AreInStep p c t checked is_item s (step q input z)) (sym is) (subst (AreInStep p c t checked is_item a) (sym there) in_it)

      trapped : (trap new_trap : Trap) → step p input x ≡ after x line (Stops trap) → step q input z ≡ after z line (Stops new_trap) → new_trap ≡ trap → Follows x y
      trapped trap new_trap is there same = record {
        count = suc count;
        most = omega (arith, few);
        in_step = both-step (after x line (Stops trap)) (after z line (Stops new_trap)) is there
            (record { position = λ h. let no : Trapped trap line ≡ Running = h in absurd cc; memory = memory-there; out = out-there; mark = ap (λ tr. Trapped tr line) same });
        operations = own-taken;
        later = λ none h. absurd cc;
      }

      ended : step p input x ≡ after x line Ends → step q input z ≡ after z line Ends → Follows x y
      ended is there = record {
        count = suc count;
        most = omega (arith, few);
        in_step = both-step (after x line Ends) (after z line Ends) is there
            (record { position = λ h. let no : Ended ≡ Running = h in absurd cc; memory = memory-there; out = out-there; mark = refl });
        operations = own-taken;
        later = λ none h. absurd cc;
      }

      gone : (next : ℕ) (m : Memory) (text : List ℕ) (new_next : ℕ) (new : Memory) (new_text : List ℕ) → step p input x ≡ after x line (Goes next m text) → step q input z ≡ after z line (Goes new_next new new_text) → GoAlike next m text new_next new new_text → Follows x y
      gone next m text new_next new new_text is there g =
          let w : State = after z line (Goes new_next new new_text) in
          let r : Comes q input w (entry p c t checked is_item next) g.leads.extra = g.leads.comes w comes.mark refl in
          let last : steps_on q input (g.leads.extra + suc count) y ≡ steps_on q input g.leads.extra w = steps_on-more q input g.leads.extra (suc count) y ∙ ap (steps_on q input g.leads.extra) there in
          let at : AreInStep p c t checked is_item (after x line (Goes next m text)) (steps_on q input g.leads.extra w) = record {
            position = λ h. r.position;
            memory = subst (AreMemoriesInStep p c t checked is_item m) (sym r.memory) g.memory;
            out = r.out ∙ ap (λ o. o ++ new_text) out-there ∙ ap (λ o. x.out ++ o) g.text_is;
            mark = r.mark ∙ sym runs;
          } in
          record {
            count = g.leads.extra + suc count;
            most = let few_more = g.leads.most in omega (arith, few, few_more);
            in_step = subst (λ (s : State). AreInStep p c t checked is_item s (steps_on q input (g.leads.extra + suc count) y)) (sym is) (subst (AreInStep p c t checked is_item (after x line (Goes next m text))) (sym last) at);
            operations =
                let sum = taken-more q input g.leads.extra (suc count) y in
                let none : taken_on q input g.leads.extra (steps_on q input (suc count) y) ≡ 0 = ap (taken_on q input g.leads.extra) there ∙ r.idle in
                let own = own-taken in
                omega (arith, sum, none, own);
            later = λ none h. absurd (omega (arith, none));
          }

      met : (o new_o : Outcome) → step p input x ≡ after x line o → step q input z ≡ after z line new_o → Meets o new_o → Follows x y
      met (Goes next m text) (Goes new_next new new_text) is there meets = gone next m text new_next new new_text is there meets
      met (Stops trap) (Stops new_trap) is there meets = trapped trap new_trap is there meets
      met Ends Ends is there meets = ended is there
      met (Goes next m text) (Stops trap) is there meets = absurd meets
      met (Goes next m text) Ends is there meets = absurd meets
      met (Stops trap) (Goes next m text) is there meets = absurd meets
      met (Stops trap) Ends is there meets = absurd meets
      met Ends (Goes next m text) is there meets = absurd meets
      met Ends (Stops trap) is there meets = absurd meets

    -- after at most one step over its mark, the statement does what the executable does
    pub follows-own : (from count : ℕ) (exec new_exec : Exec) → count ≤ 1 → Comes q input y from count → slice_get p.execs x.position ≡ Some exec → slice_get q.execs from ≡ Some new_exec → new_exec.line ≡ exec.line → exec_operations new_exec.kind ≤ 2 * exec_operations exec.kind
        → Meets (outcome p.names input x.memory exec.kind) (outcome p.names input y.memory new_exec.kind) → Follows x y
    follows-own from count exec new_exec few comes found new_found line few_operations meets =
        let z = steps_on q input count y in
        let is : step p input x ≡ after x exec.line (outcome p.names input x.memory exec.kind) = step-is p input x exec runs found in
        let there : step q input z ≡ after z exec.line (outcome p.names input y.memory new_exec.kind) =
        step-is q input z new_exec comes.mark (ap (slice_get q.execs) comes.position ∙ new_found)
        ∙ ap (λ l. after z l (outcome p.names input z.memory new_exec.kind)) line
        ∙ ap (λ (m : Memory). after z exec.line (outcome p.names input m new_exec.kind)) comes.memory in
        let new_taken : taken_at q input z ≡ exec_operations new_exec.kind = ap operations_in (ap (slice_get q.execs) comes.position ∙ new_found) in
        let old_taken : operations_in (slice_get p.execs x.position) ≡ exec_operations exec.kind = ap operations_in found in
        met from count exec.line few comes (omega (arith, new_taken, old_taken, few_operations)) (outcome p.names input x.memory exec.kind) (outcome p.names input y.memory new_exec.kind) is there meets

    -- ---- where nothing is left

    pub follows-none : (from count s : ℕ) (exec : Exec) → count ≤ 1 → Comes q input y from count → slice_get p.execs x.position ≡ Some exec → outcome p.names input x.memory exec.kind ≡ Goes s x.memory [] → LeadsOn p c t checked is_item input from x.position s → Follows x y
    follows-none from count s exec few comes found goes on =
        let z = steps_on q input count y in
        let next : State = after x exec.line (Goes s x.memory []) in
        let is : step p input x ≡ next = step-is p input x exec runs found ∙ ap (after x exec.line) goes in
        let r : Comes q input z (entry p c t checked is_item s) on.leads.extra = on.leads.comes z comes.mark comes.position in
        let last : steps_on q input (on.leads.extra + count) y ≡ steps_on q input on.leads.extra z = steps_on-more q input on.leads.extra count y in
        let at : AreInStep p c t checked is_item next (steps_on q input on.leads.extra z) = record {
          position = λ h. r.position;
          memory = subst (AreMemoriesInStep p c t checked is_item x.memory) (sym (r.memory ∙ comes.memory)) in_step.memory;
          out = r.out ∙ comes.out ∙ in_step.out ∙ sym (append-nil x.out);
          mark = r.mark ∙ sym runs;
        } in
        record {
          count = on.leads.extra + count;
          most = let few_more = on.leads.most in omega (arith, few, few_more);
          in_step = subst (λ (a : State). AreInStep p c t checked is_item a (steps_on q input (on.leads.extra + count) y)) (sym is) (subst (AreInStep p c t checked is_item next) (sym last) at);
          operations =
              let sum = taken-more q input on.leads.extra count y in
              let first = comes.idle in
              let second = r.idle in
              omega (arith, sum, first, second);
          later = λ none h. subst (λ (a : State). x.position < a.position) (sym is) (on.later (omega (arith, none)));
        }
