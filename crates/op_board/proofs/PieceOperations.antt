-- The operations of a piece do what its pass does.
use Rattle.std.proofs.Common.{◌≡◌, ℕ, ℤ, pos, Bool, true, false, List, [], ◌∷◌, None, Result, Ok, Err, All, refl, sym, ap, subst, ◌∙◌, slice_set}
use Rattle.std.specs.Prelude.{if◌then◌else◌}
use Rattle.std.specs.Ordering.{int_eq}
use Rattle.std.proofs.lemmas.Bool.Decides.{Decides-int_eq}
use Rattle.op_table.specs.declared.Op.TheVariants.{Step}
use Rattle.op_table.specs.declared.Trap.{Trap}
use Rattle.op_table.specs.declared.Trap.TheVariants.{Step as NoStep}
use Rattle.op_table.specs.Operators.{applied}
use Rattle.op_table.specs.Trips.{trip_count}
use Rattle.op_table.specs.Words.{IsWord}
use Rattle.op_table.proofs.Laws.{applied-Step, applied-Step-zero}
use Rattle.f77_tree.specs.declared.programs.Item.{Item}
use Rattle.f77_tree.specs.declared.programs.Item.TheVariants.{Value, Chars}
use Rattle.f77_tree.specs.declared.programs.NameInfo.{NameInfo}
use Rattle.f77_tree.specs.Execution.{Memory, Stops, do_begun, started, printed, print_outcome}
use Rattle.f77_tree.specs.Line.{item_values, line_with}
use Rattle.f77_tree.specs.Value.{value, and_then, all_values, place_of, ArePlaced}
use Rattle.f77_tree.specs.WellFormed.{IsProperItem}
use Rattle.f77_tree.proofs.AllLemmas.{All-first, All-rest}
use Rattle.f77_tree.proofs.LineLaws.{line-values}
use Rattle.cfg_build.specs.Passes.{Passed, Along, Traps, acted}
use Rattle.op_board.specs.Operations.{Operand, Work, Begin, Write, Operation, Compiled, CompiledRow, compiled, items_compiled, operated, print_operations, ended}
use Rattle.op_board.specs.Effects.{Effect, begun, changes, Ran, All_done, Stopped, performed, ran_all}
use Rattle.op_board.proofs.ExpressionOperations.{compiled_longer, expression_gives, row_gives}
use Rattle.op_board.proofs.OperationRuns.{IsLonger, same_length, longer_yet, operated_longer, operator_given, HasRun, HasStopped, HasGiven, Gives, GiveAll, run_none, ended_ran, stopped_longer}

-- ---- how operations end

-- they do what a pass does, and where one traps the memory is what it was at first
abbrev pub DoesAs : Memory → (out : ℕ → ℕ) → Ran → Passed → Type 0
DoesAs m out (All_done last) (Along edge memory text) = (out last.choice ≡ edge) × (last.memory ≡ memory) × (last.text ≡ text)
DoesAs m out (Stopped at memory trap) (Traps other) = (trap ≡ other) × (memory ≡ m)
DoesAs m out _ _ = ⊥

does_stop : (m : Memory) (out : ℕ → ℕ) (r : Ran) (number : ℕ) (trap : Trap) → r ≡ Stopped number m trap → DoesAs m out r (Traps trap)
does_stop m out r number trap e = subst (λ x. DoesAs m out x (Traps trap)) (sym e) (refl, refl)

pub does_end : (m : Memory) (out : ℕ → ℕ) (r : Ran) (last : Effect) → r ≡ All_done last → DoesAs m out r (Along (out last.choice) last.memory last.text)
does_end m out r last e = subst (λ x. DoesAs m out x (Along (out last.choice) last.memory last.text)) (sym e) (refl, refl, refl)

-- the pass that ends by this effect of a value, or by its trap
abbrev pub ends_by : {A : Type 0} → (out : ℕ → ℕ) → (A → Effect) → Result A Trap → Passed
ends_by out last (Err trap) = Traps trap
ends_by out last (Ok z) = Along (out (last z).choice) (last z).memory (last z).text

module _ (names : List NameInfo) (input : List ℤ) (m : Memory) (out : ℕ → ℕ) where
  -- operations up to a last one, of which one traps
  pub stop_does : (done : List Operation) (work : Work) (operands : List Operand) (trap : Trap) → HasStopped names input m done trap → DoesAs m out (ran_all names input m (ended done work operands)) (Traps trap)
  stop_does done work operands trap stop = does_stop m out (ran_all names input m (ended done work operands)) stop.number trap (stop.is _)

  -- one value, and the last operation at it
  pub value_does : (c : Compiled) (work : Work) (last : ℤ → Effect) (r : Result ℤ Trap) → Gives names input m m [] c r → ((z : ℤ) → performed names input m work (z ∷ []) ≡ Ok (last z)) →
      DoesAs m out (ran_all names input m (ended c.done work (c.operand ∷ []))) (ends_by out last r)
  value_does c work last (Err trap) stop is = stop_does c.done work (c.operand ∷ []) trap stop
  value_does c work last (Ok z) given is =
      does_end m out (ran_all names input m (ended c.done work (c.operand ∷ []))) (last z) (ended_ran names input m m c.done given.now work (c.operand ∷ []) (z ∷ []) (last z) given.run (given.gives, tt) (is z))

  -- many values, and the last operation at them
  pub values_do : (c : CompiledRow) (work : Work) (last : List ℤ → Effect) (r : Result (List ℤ) Trap) → GiveAll names input m m [] c r → ((zs : List ℤ) → performed names input m work zs ≡ Ok (last zs)) →
      DoesAs m out (ran_all names input m (ended c.done work c.operands)) (ends_by out last r)
  values_do c work last (Err trap) stop is = stop_does c.done work c.operands trap stop
  values_do c work last (Ok zs) given is =
      does_end m out (ran_all names input m (ended c.done work c.operands)) (last zs) (ended_ran names input m m c.done given.now work c.operands zs (last zs) given.run given.gives (is zs))

-- ---- PRINT

pub items_longer : (names : List NameInfo) (done : List Operation) (items : List Item) → IsLonger done (items_compiled names done items).done
items_longer names done [] = same_length done
items_longer names done (Chars text ∷ items) = items_longer names done items
items_longer names done (Value e ∷ items) = let first = compiled names done e in longer_yet done first.done _ (compiled_longer names done e) (items_longer names first.done items)

module _ (names : List NameInfo) (input : List ℤ) (m : Memory) (words : ℕ) (placed : ArePlaced names words) where
  -- the values of the items
  items_give : (items : List Item) (done : List Operation) (values : List ℤ) → All (IsProperItem names) items → HasRun names input m m done values → GiveAll names input m m values (items_compiled names done items) (all_values (item_values names m.store items))
  items_give [] done values proper run = record { now = values; keeps = λ operand z h. h; run = run; gives = tt }
  items_give (Chars text ∷ items) done values proper run = items_give items done values (All-rest (IsProperItem names) (Chars text) items proper) run
  items_give (Value e ∷ items) done values proper run =
      let first = compiled names done e in
      row_gives names input m values first (items_compiled names first.done items) (value names m.store None e) (all_values (item_values names m.store items)) (items_longer names first.done items)
      (expression_gives names input m None words placed e done values (All-first (IsProperItem names) (Value e) items proper) run)
      (λ now ran. items_give items first.done now (All-rest (IsProperItem names) (Value e) items proper) ran)

  abbrev line_written : List Item → List ℤ → Effect
  line_written items zs = record { value = None; memory = m; text = line_with names items zs; choice = 0 }

  pass_printed : (out : ℕ → ℕ) (items : List Item) (next : ℕ) (r : Result (List ℤ) Trap) → ends_by out (line_written items) r ≡ acted (out 0) (printed m next (and_then (λ zs. Ok (line_with names items zs)) r))
  pass_printed out items next (Err trap) = refl
  pass_printed out items next (Ok zs) = refl

  pub print_does : (out : ℕ → ℕ) (items : List Item) (next : ℕ) → All (IsProperItem names) items → DoesAs m out (ran_all names input m (print_operations names items)) (acted (out 0) (print_outcome names m items next))
  print_does out items next proper =
      let c = items_compiled names [] items in
      let r = all_values (item_values names m.store items) in
      subst (λ p. DoesAs m out (ran_all names input m (print_operations names items)) p) (pass_printed out items next r ∙ ap (λ line. acted (out 0) (printed m next line)) (sym (line-values names m.store items)))
      (values_do names input m out c (Write items) (line_written items) r (items_give items [] [] proper (run_none names input m)) (λ zs. refl))

-- ---- DO

same_int : (x y : ℤ) → int_eq x y ≡ true → x ≡ y
same_int x y e = (Decides-int_eq x y).0 e

module _ (names : List NameInfo) (input : List ℤ) (m : Memory) (out : ℕ → ℕ) where
  -- a DO that begins, at values of its parameters of which the last one isn't 0
  begun_at : (loop_no var body exit : ℕ) (x y z : ℤ) → int_eq z (pos 0) ≡ false →
      Along (out 0) (begun names m loop_no var (x ∷ y ∷ z ∷ [])) [] ≡ acted (out 0) (do_begun m loop_no (place_of names var) body exit (Ok x) (Ok y) (Ok z))
  begun_at loop_no var body exit x y z e =
      let word = place_of names var in
      ap (λ b. Along (out 0) (record m { store = slice_set m.store word x; counts = slice_set m.counts loop_no (if b then 0 else trip_count x y z); steps = slice_set m.steps loop_no z }) []) e
      ∙ sym (ap (λ b. acted (out 0) (if b then Stops NoStep else started m loop_no word body exit x y z)) e)

  pub begin_does : (loop_no var body exit : ℕ) (a b c : Compiled) (r s t : Result ℤ Trap) → IsLonger a.done b.done → IsLonger b.done c.done → Gives names input m m [] a r → ((now : List ℤ) → HasRun names input m m a.done now → Gives names input m m now b s) → ((now : List ℤ) → HasRun names input m m b.done now → Gives names input m m now c t) → ((z : ℤ) → t ≡ Ok z → IsWord z) →
      DoesAs m out (ran_all names input m (ended (operated c.done Step (c.operand ∷ [])).done (Begin loop_no var) (a.operand ∷ b.operand ∷ (operated c.done Step (c.operand ∷ [])).operand ∷ []))) (acted (out 0) (do_begun m loop_no (place_of names var) body exit r s t))
  begin_does loop_no var body exit a b c (Err trap) s t second third stop more last words =
      let d = operated c.done Step (c.operand ∷ []) in
      let to_b = longer_yet a.done b.done c.done second third in
      let to_d = longer_yet a.done c.done d.done to_b (operated_longer c.done Step (c.operand ∷ [])) in
      stop_does names input m out d.done (Begin loop_no var) (a.operand ∷ b.operand ∷ d.operand ∷ []) trap (stopped_longer names input m a.done d.done trap to_d stop)
  begin_does loop_no var body exit a b c (Ok x) (Err trap) t second third first more last words =
      let d = operated c.done Step (c.operand ∷ []) in
      let to_d = longer_yet b.done c.done d.done third (operated_longer c.done Step (c.operand ∷ [])) in
      stop_does names input m out d.done (Begin loop_no var) (a.operand ∷ b.operand ∷ d.operand ∷ []) trap (stopped_longer names input m b.done d.done trap to_d (more first.now first.run))
  begin_does loop_no var body exit a b c (Ok x) (Ok y) (Err trap) second third first more last words =
      let d = operated c.done Step (c.operand ∷ []) in
      let given = more first.now first.run in
      stop_does names input m out d.done (Begin loop_no var) (a.operand ∷ b.operand ∷ d.operand ∷ []) trap (stopped_longer names input m c.done d.done trap (operated_longer c.done Step (c.operand ∷ [])) (last given.now given.run))
  begin_does loop_no var body exit a b c (Ok x) (Ok y) (Ok z) second third first more last words = by (int_eq z (pos 0)) refl
    where
      d : Compiled
      d = operated c.done Step (c.operand ∷ [])

      ops : List Operation
      ops = ended d.done (Begin loop_no var) (a.operand ∷ b.operand ∷ d.operand ∷ [])

      given : HasGiven names input m m first.now b y
      given = more first.now first.run

      at : HasGiven names input m m given.now c z
      at = last given.now given.run

      stepped : Gives names input m m at.now d (applied Step (z ∷ []))
      stepped = operator_given names input m c.done at.now Step (c.operand ∷ []) (z ∷ []) at.run (at.gives, tt)

      stops : z ≡ pos 0 → DoesAs m out (ran_all names input m ops) (Traps NoStep)
      stops is =
          let e : applied Step (z ∷ []) ≡ Err NoStep = ap (λ v. applied Step (v ∷ [])) is ∙ applied-Step-zero in
          stop_does names input m out d.done (Begin loop_no var) (a.operand ∷ b.operand ∷ d.operand ∷ []) NoStep (subst (Gives names input m m at.now d) e stepped)

      begins : HasGiven names input m m at.now d z → DoesAs m out (ran_all names input m ops) (Along (out 0) (begun names m loop_no var (x ∷ y ∷ z ∷ [])) [])
      begins step =
          let x_now = step.keeps a.operand x (at.keeps a.operand x (given.keeps a.operand x first.gives)) in
          let y_now = step.keeps b.operand y (at.keeps b.operand y given.gives) in
          does_end m out (ran_all names input m ops) (changes (begun names m loop_no var (x ∷ y ∷ z ∷ [])))
          (ended_ran names input m m d.done step.now (Begin loop_no var) (a.operand ∷ b.operand ∷ d.operand ∷ []) (x ∷ y ∷ z ∷ []) (changes (begun names m loop_no var (x ∷ y ∷ z ∷ []))) step.run (x_now, (y_now, (step.gives, tt))) refl)

      by : (q : Bool) → int_eq z (pos 0) ≡ q → DoesAs m out (ran_all names input m ops) (acted (out 0) (do_begun m loop_no (place_of names var) body exit (Ok x) (Ok y) (Ok z)))
      by true e = subst (λ q. DoesAs m out (ran_all names input m ops) (acted (out 0) (if q then Stops NoStep else started m loop_no (place_of names var) body exit x y z))) (sym e) (stops (same_int z (pos 0) e))
      by false e =
          let other : z ≡ pos 0 → ⊥ = λ is. let no : true ≡ false = sym ((Decides-int_eq z (pos 0)).1 is) ∙ e in absurd cc in
          let step = subst (Gives names input m m at.now d) (applied-Step z (words z refl) other) stepped in
          subst (λ p. DoesAs m out (ran_all names input m ops) p) (begun_at loop_no var body exit x y z e) (begins step)
