-- Runs that print alike have the same whole outputs.
use Rattle.std.proofs.Common.{◌≡◌, ◌⊎◌, inl, inr, ℕ, ◌+◌, ◌-◌, ◌≤◌, ℤ, List, [], ◌∷◌, ◌++◌, length, refl, sym, ap, subst, ◌∙◌, append_assoc, append-nil, length-append, arith}
use Rattle.op_table.specs.declared.Trap.{Trap}
use Rattle.f77_tree.specs.declared.programs.Program.{Program}
use Rattle.f77_tree.specs.Prefixes.{IsPrefix}
use Rattle.f77_tree.specs.Run as runs
use Rattle.f77_tree.specs.Run.{HasEnded, HasTrapped, PrintAlike, Reaches, State, out, source}
use Rattle.job_laws.specs.GameLaws.{StopFirst}
use Rattle.job_laws.specs.SourceRuns.{PrintTheSame, Stops, StopsByTrap, run_of}

-- two lists that are prefixes of each other are the same
both_ways : (a b x y : List ℕ) → b ≡ a ++ x → a ≡ b ++ y → a ≡ b
both_ways a b x y is also =
    let long = length-append a x in
    let back = length-append b y in
    let size : length b ≡ length (a ++ x) = ap length is in
    let other : length a ≡ length (b ++ y) = ap length also in
    let none : length x ≡ 0 = omega (arith, long, back, size, other) in
    sym (is ∙ ap (λ (end : List ℕ). a ++ end) (empty x none) ∙ append-nil a)
  where
    empty : (x : List ℕ) → length x ≡ 0 → x ≡ []
    empty [] is = refl
    empty (c ∷ x) is = absurd cc

-- what is known of runs
pub record RunsStay : Type 0 where
  pub ended : (p : Program) (input : List ℤ) (n k : ℕ) → (source p input n).mark ≡ runs.Ended → source p input (k + n) ≡ source p input n
  pub trapped : (p : Program) (input : List ℤ) (n k : ℕ) (trap : Trap) (line : ℕ) → (source p input n).mark ≡ runs.Trapped trap line → source p input (k + n) ≡ source p input n
  pub text : (p : Program) (input : List ℤ) (n k : ℕ) → IsPrefix (out p input n) (out p input (k + n))
  pub first : StopFirst

module _ (stay : RunsStay) (p s : Program) (input : List ℤ) (alike : PrintAlike (source p input) (source s input)) where
  -- what was written at any time is a prefix of what was written at the end
  before_end : (q : Program) (n m : ℕ) → (source q input n).mark ≡ runs.Ended → IsPrefix (out q input m) (out q input n)
  before_end q n m ended = on (n_or_more n m)
    where
      n_or_more : (n m : ℕ) → (m ≤ n) ⊎ (n ≤ m)
      n_or_more n m = grind arith

      on : (m ≤ n) ⊎ (n ≤ m) → IsPrefix (out q input m) (out q input n)
      on (inl low) =
          let sum : n - m + m ≡ n = omega (arith, low) in
          subst (λ k. IsPrefix (out q input m) (out q input k)) sum (stay.text q input m (n - m))
      on (inr high) =
          let sum : m - n + n ≡ m = omega (arith, high) in
          let same : out q input m ≡ out q input n = ap (out q input) (sym sum) ∙ ap (λ (x : State). x.out) (stay.ended q input n (m - n) ended) in
          record { more = []; is = sym same ∙ sym (append-nil (out q input m)) }

  -- where both have ended, they have written the same
  pub same_end : (m n : ℕ) → (source p input m).mark ≡ runs.Ended → (source s input n).mark ≡ runs.Ended → out s input n ≡ out p input m
  same_end m n ended also =
      let there : Reaches (source s input) (out p input m) = alike.prefix m in
      let back : Reaches (source p input) (out s input n) = alike.back n in
      let wide = before_end s n there.steps also in
      let whole = before_end p m back.steps ended in
      sym (both_ways (out p input m) (out s input n) (there.rest ++ wide.more) (back.rest ++ whole.more)
      (wide.is ∙ ap (λ (bytes : List ℕ). bytes ++ wide.more) there.is ∙ append_assoc (out p input m) there.rest wide.more)
      (whole.is ∙ ap (λ (bytes : List ℕ). bytes ++ whole.more) back.is ∙ append_assoc (out s input n) back.rest whole.more))

  ends_there : (text : List ℕ) → Stops (run_of p input) runs.Ended text → Stops (run_of s input) runs.Ended text
  ends_there text has =
      let there : HasEnded (source s input) = alike.ends.0 (record { steps = has.steps; ended = has.is }) in
      record { steps = there.steps; is = there.ended; whole = same_end has.steps there.steps has.is there.ended ∙ has.whole }

  ends_here : (text : List ℕ) → Stops (run_of s input) runs.Ended text → Stops (run_of p input) runs.Ended text
  ends_here text has =
      let here : HasEnded (source p input) = alike.ends.1 (record { steps = has.steps; ended = has.is }) in
      record { steps = here.steps; is = here.ended; whole = sym (same_end here.steps has.steps here.ended has.is) ∙ has.whole }

  traps_there : (trap : Trap) (text : List ℕ) → StopsByTrap (run_of p input) trap text → StopsByTrap (run_of s input) trap text
  traps_there trap text has =
      let there : HasTrapped (source s input) trap text = (alike.traps trap text).0 (record { steps = has.stops.steps; line = has.line; trapped = has.stops.is; whole = has.stops.whole }) in
      record { line = there.line; stops = record { steps = there.steps; is = there.trapped; whole = there.whole } }

  traps_here : (trap : Trap) (text : List ℕ) → StopsByTrap (run_of s input) trap text → StopsByTrap (run_of p input) trap text
  traps_here trap text has =
      let here : HasTrapped (source p input) trap text = (alike.traps trap text).1 (record { steps = has.stops.steps; line = has.line; trapped = has.stops.is; whole = has.stops.whole }) in
      record { line = here.line; stops = record { steps = here.steps; is = here.trapped; whole = here.whole } }

  pub print_the_same : PrintTheSame (run_of p input) (run_of s input)
  print_the_same = record {
    front = λ n. let there = alike.prefix n in record { steps = there.steps; rest = there.rest; is = there.is };
    back = λ n. let here = alike.back n in record { steps = here.steps; rest = here.rest; is = here.is };
    ends = λ text. (ends_there text, ends_here text);
    traps = λ trap text. (traps_there trap text, traps_here trap text);
  }
