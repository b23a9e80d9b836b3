-- A run of a program of the plain dialect doesn't trap by overflow.
use Rattle.std.proofs.Common.{◌≡◌, ◌≢◌, ℕ, zero, suc, ◌+◌, ℤ, pos, Bool, true, false, if◌then◌else◌, List, [], ◌∷◌, length, All, Option, Some, None, Result, Ok, Err, slice_get, refl, ap, subst}
use Rattle.std.specs.Ordering.{int_eq}
use Rattle.op_table.specs.declared.Trap.{Trap}
use Rattle.op_table.specs.declared.Trap.TheVariants.{Step as NoStep, Overflow}
use Rattle.op_table.specs.Words.{is_true}
use Rattle.f77_tree.specs.declared.programs.Exec.{Exec}
use Rattle.f77_tree.specs.declared.programs.ExecKind.{ExecKind}
use Rattle.f77_tree.specs.declared.programs.ExecKind.TheVariants.{Assign, Print, Pass, Test, Sign, Pick, DoStart, DoNext, End}
use Rattle.f77_tree.specs.declared.programs.Item.{Item}
use Rattle.f77_tree.specs.declared.programs.Item.TheVariants.{Value, Chars}
use Rattle.f77_tree.specs.declared.programs.NameInfo.{NameInfo}
use Rattle.f77_tree.specs.declared.programs.Program.{Program}
use Rattle.f77_tree.specs.Dialects.{ItemHasDialect, ExecHasDialect, IsOfDialect}
use Rattle.f77_tree.specs.Execution.{Memory, Outcome, Goes, Stops, Ends, outcome, words_taken, assigned, printed, branched, do_begun, started, by_sign, by_number}
use Rattle.f77_tree.specs.Line.{item_text, item_before, line_of, text_of, kind_of_expression}
use Rattle.f77_tree.specs.Run.{Mark, Running, Ended, Trapped, State, after, executed_at, step_from, step, source}
use Rattle.f77_tree.specs.Value.{value, place, place_of}
use Rattle.f77_tree.proofs.AllLemmas.{All-first, All-rest, All-get}
use Rattle.f77_tree.proofs.DialectLaws.{NoOverflow, ok-plain, and_then-plain, value-plain, place-plain}

-- another trap than overflow, where there is one
abbrev StopsPlainly : Outcome → Type 0
StopsPlainly (Stops trap) = trap ≢ Overflow
StopsPlainly _ = Unit {0}

-- so it is with the mark of a run
abbrev IsPlainMark : Mark → Type 0
IsPlainMark (Trapped trap line) = trap ≢ Overflow
IsPlainMark _ = Unit {0}

-- ---- executables

trap-plain : {A : Type 0} (trap : Trap) → NoOverflow {A = A} (Err trap) → trap ≢ Overflow
trap-plain trap none = λ e. none.never (ap Err e)

assigned-plain : (m : Memory) (next taken : ℕ) (at : Result ℕ Trap) (given : Result ℤ Trap) → NoOverflow at → NoOverflow given → StopsPlainly (assigned m next taken at given)
assigned-plain m next taken (Err trap) given at_word value_given = trap-plain trap at_word
assigned-plain m next taken (Ok k) (Err trap) at_word value_given = trap-plain trap value_given
assigned-plain m next taken (Ok k) (Ok y) at_word value_given = tt

printed-plain : (m : Memory) (next : ℕ) (line : Result (List ℕ) Trap) → NoOverflow line → StopsPlainly (printed m next line)
printed-plain m next (Err trap) none = trap-plain trap none
printed-plain m next (Ok line) none = tt

branched-plain : (m : Memory) (next_at : ℤ → ℕ) (given : Result ℤ Trap) → NoOverflow given → StopsPlainly (branched m next_at given)
branched-plain m next_at (Err trap) none = trap-plain trap none
branched-plain m next_at (Ok y) none = tt

started-plain : (m : Memory) (loop_no word body exit : ℕ) (a b c : ℤ) (none : Bool) → StopsPlainly (if none then Stops NoStep else started m loop_no word body exit a b c)
started-plain m loop_no word body exit a b c true = λ e. cc
started-plain m loop_no word body exit a b c false = tt

begun-plain : (m : Memory) (loop_no word body exit : ℕ) (first last step : Result ℤ Trap) → NoOverflow first → NoOverflow last → NoOverflow step → StopsPlainly (do_begun m loop_no word body exit first last step)
begun-plain m loop_no word body exit (Err trap) last step one two three = trap-plain trap one
begun-plain m loop_no word body exit (Ok a) (Err trap) step one two three = trap-plain trap two
begun-plain m loop_no word body exit (Ok a) (Ok b) (Err trap) one two three = trap-plain trap three
begun-plain m loop_no word body exit (Ok a) (Ok b) (Ok c) one two three = started-plain m loop_no word body exit a b c (int_eq c (pos 0))

before-plain : (text rest : Result (List ℕ) Trap) → NoOverflow text → NoOverflow rest → NoOverflow (item_before text rest)
before-plain (Err trap) rest one more = one
before-plain (Ok text) (Err trap) one more = more
before-plain (Ok text) (Ok line) one more = ok-plain _

module _ (names : List NameInfo) (input : List ℤ) (m : Memory) where
  item-plain : (item : Item) → ItemHasDialect false item → NoOverflow (item_text names m.store item)
  item-plain (Value e) has = and_then-plain (λ z. Ok (text_of (kind_of_expression names e) z)) (value names m.store None e) (value-plain names m.store None e has) (λ z. ok-plain _)
  item-plain (Chars text) has = ok-plain text

  line-plain : (items : List Item) → All (ItemHasDialect false) items → NoOverflow (line_of names m.store items)
  line-plain [] have = ok-plain _
  line-plain (item ∷ items) have =
      before-plain (item_text names m.store item) (line_of names m.store items) (item-plain item (All-first (ItemHasDialect false) item items have)) (line-plain items (All-rest (ItemHasDialect false) item items have))

  outcome-plain : (kind : ExecKind) → ExecHasDialect false kind → StopsPlainly (outcome names input m kind)
  outcome-plain (Assign target e next) has =
      let word = slice_get input m.taken in
      assigned-plain m next (m.taken + words_taken e) (place names m.store word target) (value names m.store word e) (place-plain names m.store word target has.0) (value-plain names m.store word e has.1)
  outcome-plain (Print items next) has = printed-plain m next (line_of names m.store items) (line-plain items has)
  outcome-plain (Pass next) has = tt
  outcome-plain (Test cond if_true if_false) has = branched-plain m (λ z. if is_true z then if_true else if_false) (value names m.store None cond) (value-plain names m.store None cond has)
  outcome-plain (Sign e neg equal pos') has = branched-plain m (by_sign neg equal pos') (value names m.store None e) (value-plain names m.store None e has)
  outcome-plain (Pick e targets other) has = branched-plain m (by_number targets other (pos (length targets))) (value names m.store None e) (value-plain names m.store None e has)
  outcome-plain (DoStart loop_no var first last step body exit) has =
      begun-plain m loop_no (place_of names var) body exit (value names m.store None first) (value names m.store None last) (value names m.store None step)
      (value-plain names m.store None first has.0) (value-plain names m.store None last has.1) (value-plain names m.store None step has.2)
  outcome-plain (DoNext loop_no var body exit) has = tt
  outcome-plain End has = tt

-- ---- runs

after-plain : (x : State) (line : ℕ) (o : Outcome) → IsPlainMark x.mark → StopsPlainly o → IsPlainMark (after x line o).mark
after-plain x line (Goes next memory text) plain stops = plain
after-plain x line (Stops trap) plain stops = stops
after-plain x line Ends plain stops = tt

module _ (p : Program) (input : List ℤ) (has : IsOfDialect false p) where
  executed-plain : (x : State) (o : Option Exec) → slice_get p.execs x.position ≡ o → IsPlainMark x.mark → IsPlainMark (executed_at p input x o).mark
  executed-plain x None at plain = plain
  executed-plain x (Some exec) at plain =
      after-plain x exec.line (outcome p.names input x.memory exec.kind) plain
      (outcome-plain p.names input x.memory exec.kind (All-get (λ (e : Exec). ExecHasDialect false e.kind) p.execs x.position exec has at))

  step_from-plain : (x : State) (mark : Mark) → IsPlainMark x.mark → IsPlainMark (step_from p input x mark).mark
  step_from-plain x Running plain = executed-plain x (slice_get p.execs x.position) refl plain
  step_from-plain x Ended plain = plain
  step_from-plain x (Trapped trap line) plain = plain

  source-plain : (n : ℕ) → IsPlainMark (source p input n).mark
  source-plain zero = tt
  source-plain (suc n) = step_from-plain (source p input n) (source p input n).mark (source-plain n)

  -- no run traps by overflow
  pub run-never : (n line : ℕ) → (source p input n).mark ≢ Trapped Overflow line
  run-never n line is = let plain : IsPlainMark (Trapped Overflow line) = subst IsPlainMark is (source-plain n) in plain refl
