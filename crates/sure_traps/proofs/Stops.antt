-- An executable that has a cause stops the run.
use Rattle.std.proofs.Common.{◌≡◌, ℕ, ℤ, pos, Bool, true, false, List, [], ◌∷◌, ◌+◌, map, length, Option, None, Some, Result, Ok, Err, IsErr, ⊎_elim, refl, sym, ap, subst, ◌∙◌}
use Rattle.std.specs.Prelude.{◌⊎◌, if◌then◌else◌, IsSome, slice_get}
use Rattle.std.specs.Option.{option_or}
use Rattle.std.specs.Ordering.{int_eq}
use mathlib.Core.Logic.{inl, inr}
use Rattle.op_table.specs.declared.Op.TheVariants.{Step}
use Rattle.op_table.specs.declared.Trap.{Trap}
use Rattle.op_table.specs.declared.Trap.TheVariants.{Step as NoStep}
use Rattle.op_table.specs.Operators.{applied, in_a_word, unary}
use Rattle.f77_tree.specs.declared.expressions.Access.{Access}
use Rattle.f77_tree.specs.declared.expressions.Expr.{Expr, Read}
use Rattle.f77_tree.specs.declared.programs.Exec.{Exec}
use Rattle.f77_tree.specs.declared.programs.ExecKind.{ExecKind}
use Rattle.f77_tree.specs.declared.programs.ExecKind.TheVariants.{Assign, Print, Pass, Test, Sign, Pick, DoStart, DoNext, End}
use Rattle.f77_tree.specs.declared.programs.Item.{Item}
use Rattle.f77_tree.specs.declared.programs.Item.TheVariants.{Value, Chars}
use Rattle.f77_tree.specs.declared.programs.NameInfo.{NameInfo}
use Rattle.f77_tree.specs.declared.programs.Program.{Program}
use Rattle.f77_tree.specs.Execution.{Memory, Outcome, Goes, Stops, Ends, assigned, branched, by_number, by_sign, do_begun, next_word, outcome, printed, words_taken}
use Rattle.f77_tree.specs.Known.{known}
use Rattle.f77_tree.specs.Line.{item_before, item_text, kind_of_expression, line_of_texts, text_of}
use Rattle.f77_tree.specs.Run.{State, Running, Trapped, source, step, step_from, executed_at, after}
use Rattle.f77_tree.specs.Value.{place, place_of, read_of, value}
use Rattle.f77_tree.proofs.ExpressionLemmas.{value-Read}
use Rattle.f77_tree.proofs.Safety.{known-is}
use Rattle.op_table.specs.Words.{is_true}
use Rattle.sure_traps.specs.Causes.{access_cause, cause_in, cause_of, first_some, item_cause, operator_cause, step_cause}
use Rattle.sure_traps.specs.SureTraps.{ExecutableTraps, IsStop, IsSure, TrapsNext}
use Rattle.sure_traps.specs.declared.causes.SureTrap.{SureTrap}
use Rattle.sure_traps.proofs.Sound.{and_then-err, either-some, operator-sound, sound}

-- ---- outcomes

target_stops : (m : Memory) (next taken : ℕ) (at : Result ℕ Trap) (given : Result ℤ Trap) → IsErr at → IsStop (assigned m next taken at given)
target_stops m next taken (Err trap) given h = tt
target_stops m next taken (Ok word) given h = absurd cc

given_stops : (m : Memory) (next taken : ℕ) (at : Result ℕ Trap) (given : Result ℤ Trap) → IsErr given → IsStop (assigned m next taken at given)
given_stops m next taken (Err trap) given h = tt
given_stops m next taken (Ok word) (Err trap) h = tt
given_stops m next taken (Ok word) (Ok z) h = absurd cc

branch_stops : (m : Memory) (next_at : ℤ → ℕ) (given : Result ℤ Trap) → IsErr given → IsStop (branched m next_at given)
branch_stops m next_at (Err trap) h = tt
branch_stops m next_at (Ok z) h = absurd cc

print_stops : (m : Memory) (next : ℕ) (line : Result (List ℕ) Trap) → IsErr line → IsStop (printed m next line)
print_stops m next (Err trap) h = tt
print_stops m next (Ok line) h = absurd cc

module _ (m : Memory) (loop_no word body exit : ℕ) where
  first_stops : (first last step : Result ℤ Trap) → IsErr first → IsStop (do_begun m loop_no word body exit first last step)
  first_stops (Err trap) last step h = tt
  first_stops (Ok a) last step h = absurd cc

  last_stops : (first last step : Result ℤ Trap) → IsErr last → IsStop (do_begun m loop_no word body exit first last step)
  last_stops (Err trap) last step h = tt
  last_stops (Ok a) (Err trap) step h = tt
  last_stops (Ok a) (Ok b) step h = absurd cc

  step_stops : (first last step : Result ℤ Trap) → IsErr step → IsStop (do_begun m loop_no word body exit first last step)
  step_stops (Err trap) last step h = tt
  step_stops (Ok a) (Err trap) step h = tt
  step_stops (Ok a) (Ok b) (Err trap) h = tt
  step_stops (Ok a) (Ok b) (Ok c) h = absurd cc

  zero_stops : (first last : Result ℤ Trap) (c : ℤ) → int_eq c (pos 0) ≡ true → IsStop (do_begun m loop_no word body exit first last (Ok c))
  zero_stops (Err trap) last c h = tt
  zero_stops (Ok a) (Err trap) c h = tt
  zero_stops (Ok a) (Ok b) c h = rw h tt

-- a step that traps as an operator does is 0
by_test : (b : Bool) (c : ℤ) → IsErr (in_a_word (if b then Err NoStep else Ok c)) → b ≡ true
by_test true c h = refl
by_test false c h = h

step_zero : (c : ℤ) → IsErr (applied Step (c ∷ [])) → int_eq c (pos 0) ≡ true
unfolding applied unary
step_zero c h = by_test (int_eq c (pos 0)) c h

-- ---- executables

module _ (names : List NameInfo) where
  item_stops : (store : List ℤ) (item : Item) → IsSome (item_cause names item) → IsErr (item_text names store item)
  item_stops store (Value e) h = and_then-err (λ z. Ok (text_of (kind_of_expression names e) z)) (value names store None e) (sound names store None e h)
  item_stops store (Chars text) h = absurd cc

  before_stops : (text rest : Result (List ℕ) Trap) → IsErr text ⊎ IsErr rest → IsErr (item_before text rest)
  before_stops (Err trap) rest h = refl
  before_stops (Ok text) (Err trap) h = refl
  before_stops (Ok text) (Ok more) (inl h) = absurd cc
  before_stops (Ok text) (Ok more) (inr h) = absurd cc

  items_stop : (store : List ℤ) (items : List Item) → IsSome (first_some (map (item_cause names) items)) → IsErr (line_of_texts (map (item_text names store) items))
  items_stop store [] h = absurd cc
  items_stop store (item ∷ items) h = before_stops (item_text names store item) (line_of_texts (map (item_text names store) items)) (⊎_elim
      (λ here. inl (item_stops store item here))
      (λ later. inr (items_stop store items later))
      (either-some (item_cause names item) (first_some (map (item_cause names) items)) h))

  read_err : (store : List ℤ) (name : ℕ) (at : Result ℕ Trap) → IsErr (read_of names store name at) → IsErr at
  read_err store name (Err trap) h = refl
  read_err store name (Ok word) h = h

  place_stops : (store : List ℤ) (next : Option ℤ) (access : Access) → IsSome (access_cause names access) → IsErr (place names store next access)
  place_stops store next access h = read_err store access.name (place names store next access) (subst (λ r. IsErr r) (value-Read names store next access) (sound names store next (Read access) h))

  do_stops : (m : Memory) (loop_no word body exit : ℕ) (first last step : Expr) → IsSome (step_cause names step) → IsStop (do_begun m loop_no word body exit (value names m.store None first) (value names m.store None last) (value names m.store None step))
  do_stops m loop_no word body exit first last step h =
      let a = value names m.store None first in
      let b = value names m.store None last in
      ⊎_elim
      (λ here. step_stops m loop_no word body exit a b (value names m.store None step) (sound names m.store None step here))
      (λ zero_is. by_known (known step) refl zero_is)
      (either-some (cause_in names step) (operator_cause Step (known step ∷ [])) h)
    where
      by_known : (k : Option ℤ) → known step ≡ k → IsSome (operator_cause Step (k ∷ [])) → IsStop (do_begun m loop_no word body exit (value names m.store None first) (value names m.store None last) (value names m.store None step))
      by_known None is zero_is = absurd cc
      by_known (Some c) is zero_is =
          subst (λ r. IsStop (do_begun m loop_no word body exit (value names m.store None first) (value names m.store None last) r)) (sym (known-is names m.store None step c is))
          (zero_stops m loop_no word body exit (value names m.store None first) (value names m.store None last) c (step_zero c (operator-sound Step (Some c ∷ []) (c ∷ []) (refl, tt) zero_is)))

  pub stops : (kind : ExecKind) → IsSome (cause_of names kind) → ExecutableTraps names kind
  stops (Assign target e next) h input m =
      let word = next_word input m in
      let at = place names m.store word target in
      let given = value names m.store word e in
      ⊎_elim
      (λ here. target_stops m next (m.taken + words_taken e) at given (place_stops m.store word target here))
      (λ there. given_stops m next (m.taken + words_taken e) at given (sound names m.store word e there))
      (either-some (access_cause names target) (cause_in names e) h)
  stops (Print items next) h input m = print_stops m next (line_of_texts (map (item_text names m.store) items)) (items_stop m.store items h)
  stops (Pass next) h input m = absurd cc
  stops (Test e if_true if_false) h input m = branch_stops m (λ z. if is_true z then if_true else if_false) (value names m.store None e) (sound names m.store None e h)
  stops (Sign e neg equal more) h input m = branch_stops m (by_sign neg equal more) (value names m.store None e) (sound names m.store None e h)
  stops (Pick e targets other) h input m = branch_stops m (by_number targets other (pos (length targets))) (value names m.store None e) (sound names m.store None e h)
  stops (DoStart loop_no var first last step body exit) h input m =
      let a = value names m.store None first in
      let b = value names m.store None last in
      let c = value names m.store None step in
      let word = place_of names var in
      ⊎_elim
      (λ here. first_stops m loop_no word body exit a b c (sound names m.store None first here))
      (λ later. ⊎_elim
      (λ here. last_stops m loop_no word body exit a b c (sound names m.store None last here))
      (λ there. do_stops m loop_no word body exit first last step there)
      (either-some (cause_in names last) (step_cause names step) later))
      (either-some (cause_in names first) (option_or (cause_in names last) (step_cause names step)) h)
  stops (DoNext loop_no var body exit) h input m = absurd cc
  stops End h input m = absurd cc

-- ---- runs

stopped : (x : State) (line : ℕ) (o : Outcome) → IsStop o → (trap : Trap) × ((after x line o).mark ≡ Trapped trap line)
stopped x line (Stops trap) h = (trap, refl)
stopped x line (Goes next memory text) h = absurd h
stopped x line Ends h = absurd h

pub run_stops : (p : Program) (k : ℕ) (exec : Exec) → slice_get p.execs k ≡ Some exec → IsSome (cause_of p.names exec.kind) → (input : List ℤ) (n : ℕ) → (source p input n).mark ≡ Running → (source p input n).position ≡ k → TrapsNext p input n exec.line
run_stops p k exec stands h input n running here =
    let x = source p input n in
    let end = stopped x exec.line (outcome p.names input x.memory exec.kind) (stops p.names exec.kind h input x.memory) in
    let found : slice_get p.execs x.position ≡ Some exec = ap (slice_get p.execs) here ∙ stands in
    let went : step p input x ≡ after x exec.line (outcome p.names input x.memory exec.kind) = ap (step_from p input x) running ∙ ap (executed_at p input x) found in
    record { trap = end.0; is = ap (λ y. y.mark) went ∙ end.1 }

pub sure : (p : Program) (k : ℕ) (exec : Exec) (trap : SureTrap) → slice_get p.execs k ≡ Some exec → exec.line ≡ trap.line → IsSome (cause_of p.names exec.kind) → IsSure p trap
sure p k exec trap stands at_line h = record {
  place = k;
  exec = exec;
  stands = stands;
  at_line = at_line;
  traps = λ input n running here. subst (TrapsNext p input n) at_line (run_stops p k exec stands h input n running here);
}
