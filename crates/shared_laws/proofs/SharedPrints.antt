-- Two runs, of which one follows the other, print alike.
use Rattle.std.proofs.Common.{◌≡◌, ℕ, zero, suc, ◌+◌, ◌-◌, ◌<◌, ◌≤◌, ℤ, List, [], length, Option, refl, sym, ap, ◌∙◌, arith, append-nil}
use Rattle.op_table.specs.declared.Trap.{Trap}
use Rattle.f77_tree.specs.declared.expressions.Expr.{Expr}
use Rattle.f77_tree.specs.declared.programs.Program.{Program}
use Rattle.f77_tree.specs.Prefixes.{IsPrefix}
use Rattle.f77_tree.specs.Run.{Ended, Trapped, State, out, source, HasEnded, HasTrapped, PrintAlike, Reaches}
use Rattle.f77_tree.specs.Value.{word_at}
use Rattle.redundancy.specs.Available.{Availability}
use Rattle.shared_forms.specs.Shared.{due}
use Rattle.shared_laws.specs.SharedRuns.{shared_steps, AgreeUpTo}

pub steps-later : (q : Program) (a : Availability) (number : Expr → Option ℕ) (input : List ℤ) (n : ℕ) → n ≤ shared_steps q a number input n
steps-later q a number input zero = omega arith
steps-later q a number input (suc n) =
    let less = steps-later q a number input n in
    let next : shared_steps q a number input (suc n) ≡ shared_steps q a number input n + (length (due q a number (source q input n).position) + 1) = refl in
    omega (arith, less, next)

module _ (q r : Program) (input : List ℤ) (f : ℕ → ℕ) (words : ℕ) (later : (n : ℕ) → n ≤ f n) (agree : (n : ℕ) → AgreeUpTo words (source q input n) (source r input (f n)))
    (ended : (p : Program) (n k : ℕ) → (source p input n).mark ≡ Ended → source p input (k + n) ≡ source p input n)
    (trapped : (p : Program) (n k : ℕ) (trap : Trap) (line : ℕ) → (source p input n).mark ≡ Trapped trap line → source p input (k + n) ≡ source p input n)
    (grows : (p : Program) (n k : ℕ) → IsPrefix (out p input n) (out p input (k + n))) where
  split : (n : ℕ) → (f n - n) + n ≡ f n
  split n = let less = later n in omega (arith, less)

  prefix : (n : ℕ) → Reaches (source r input) (source q input n).out
  prefix n = record { steps = f n; rest = []; is = (agree n).text ∙ sym (append-nil (source q input n).out) }

  back : (n : ℕ) → Reaches (source q input) (source r input n).out
  back n =
      let p = grows r n (f n - n) in
      record { steps = n; rest = p.more; is = sym (agree n).text ∙ ap (out r input) (sym (split n)) ∙ p.is }

  -- where the second run has stopped, it has also stopped at the step at which it follows
  ended-there : (n : ℕ) → (source r input n).mark ≡ Ended → source r input (f n) ≡ source r input n
  ended-there n is = ap (source r input) (sym (split n)) ∙ ended r n (f n - n) is

  trapped-there : (n : ℕ) (trap : Trap) (line : ℕ) → (source r input n).mark ≡ Trapped trap line → source r input (f n) ≡ source r input n
  trapped-there n trap line is = ap (source r input) (sym (split n)) ∙ trapped r n (f n - n) trap line is

  ends-too : HasEnded (source q input) → HasEnded (source r input)
  ends-too h = record { steps = f h.steps; ended = (agree h.steps).mark ∙ h.ended }

  ends-back : HasEnded (source r input) → HasEnded (source q input)
  ends-back h = record { steps = h.steps; ended = sym (agree h.steps).mark ∙ ap (λ (x : State). x.mark) (ended-there h.steps h.ended) ∙ h.ended }

  traps-too : (trap : Trap) (text : List ℕ) → HasTrapped (source q input) trap text → HasTrapped (source r input) trap text
  traps-too trap text h = record { steps = f h.steps; line = h.line; trapped = (agree h.steps).mark ∙ h.trapped; whole = (agree h.steps).text ∙ h.whole }

  traps-back : (trap : Trap) (text : List ℕ) → HasTrapped (source r input) trap text → HasTrapped (source q input) trap text
  traps-back trap text h =
      let same = trapped-there h.steps trap h.line h.trapped in
      record {
        steps = h.steps;
        line = h.line;
        trapped = sym (agree h.steps).mark ∙ ap (λ (x : State). x.mark) same ∙ h.trapped;
        whole = sym (agree h.steps).text ∙ ap (λ (x : State). x.out) same ∙ h.whole;
      }

  pub print-alike : PrintAlike (source q input) (source r input)
  print-alike = record { prefix = prefix; back = back; ends = (ends-too, ends-back); traps = λ trap text. (traps-too trap text, traps-back trap text) }

  -- at the end the words are the same
  pub same-words : (m n word : ℕ) → (source q input m).mark ≡ Ended → (source r input n).mark ≡ Ended → word < words → word_at (source q input m).memory.store word ≡ word_at (source r input n).memory.store word
  same-words m n word old new less =
      let both = n + m in
      let first = ended q m n old in
      let e : (f both - n) + n ≡ f both = let more = later both in omega (arith, more) in
      let second : source r input (f both) ≡ source r input n = ap (source r input) (sym e) ∙ ended r n (f both - n) new in
      ap (λ (x : State). word_at x.memory.store word) (sym first)
      ∙ sym ((agree both).store word less)
      ∙ ap (λ (x : State). word_at x.memory.store word) second
