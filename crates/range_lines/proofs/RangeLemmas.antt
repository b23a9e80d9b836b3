-- From the reaches of names to the marks of subscripts.
use Rattle.std.proofs.Common.{◌≡◌, ℕ, zero, suc, ◌+◌, ◌<◌, List, length, replicate, Option, Some, None, slice_get, slice_set, refl, sym, ap, subst, ◌∙◌, ⊎_elim, length-set, arith}
use Rattle.std.proofs.lemmas.Bool.{cases_eq}
use Rattle.std.proofs.lemmas.List.{length-replicate}
use Rattle.f77_tree.specs.declared.expressions.Expr.{Expr}
use Rattle.f77_tree.specs.declared.programs.Exec.{Exec}
use Rattle.f77_tree.specs.declared.programs.ExecKind.{ExecKind}
use Rattle.f77_tree.specs.declared.programs.ExecKind.TheVariants.{Assign, Print, Pass, Test, Sign, Pick, DoStart, DoNext, End}
use Rattle.f77_tree.specs.declared.programs.Program.{Program}
use Rattle.f77_tree.specs.CanRun.{CanExecute}
use Rattle.f77_tree.specs.Loops.{Loop, begun, begun_in, begun_at, do_start}
use Rattle.f77_tree.specs.Value.{place_of}
use Rattle.f77_tree.proofs.Keeping.{get-set_other, get-set_same}
use Rattle.alias_classes.specs.Classes.{ClassTable, IsClasses, class_of_word}
use Rattle.alias_classes.specs.Writes.{ExecWrites}
use Rattle.loop_ranges.specs.Plain.{Parameters, IsPlain}
use Rattle.range_lines.specs.declared.reaches.Reach.{Reach}
use Rattle.range_lines.specs.Ranges.{after_exec, BeginsBefore, IsCurrent}
use Rattle.range_lines.specs.Reaches.{IsReach}

same-loop : (a b : Loop) → Some a ≡ Some b → a ≡ b
same-loop a b is = cc

same-reach : (a b : Option Reach) → Some a ≡ Some b → a ≡ b
same-reach a b is = cc

no-reach : (n v : ℕ) (r : Reach) → slice_get (replicate n None) v ≡ Some (Some r) → ⊥
no-reach zero v r is = let no : None ≡ Some (Some r) = is in absurd cc
no-reach (suc n) zero r is = let no : Some None ≡ Some (Some r) = is in absurd cc
no-reach (suc n) (suc v) r is = no-reach n v r is

-- before the first executable no DO has begun
pub current-first : (p : Program) (t : ClassTable) (current : List (Option Reach)) → current ≡ replicate (length p.names) None → IsCurrent p t 0 current
current-first p t current is = record {
  each = ap length is ∙ length-replicate (length p.names) None;
  sound = λ v r some. absurd (no-reach (length p.names) v r (ap (λ xs. slice_get xs v) (sym is) ∙ some));
  whole = λ n loop q plain before within. absurd (omega (arith, before));
}

module _ (p : Program) (t : ClassTable) (classes : IsClasses p t) (k : ℕ) (exec : Exec) (at : slice_get p.execs k ≡ Some exec) (current : List (Option Reach)) (now : IsCurrent p t k current) where
  begun-is : (n : ℕ) (loop : Loop) (q : Parameters) → IsPlain p t n loop q → do_start p.execs n ≡ k → begun exec.kind ≡ Some loop
  begun-is n loop q plain here = ap begun_in (sym at) ∙ ap (begun_at p.execs) (sym here) ∙ plain.begins

  later : (v : ℕ) (r : Reach) → BeginsBefore p t k v r → BeginsBefore p t (k + 1) v r
  later v r is = let before = is.before in record { number = is.number; loop = is.loop; parameters = is.parameters; plain = is.plain; is_variable = is.is_variable; before = omega (arith, before); is = is.is }

  -- an executable that begins no DO
  not-start : begun exec.kind ≡ None → IsCurrent p t (k + 1) current
  not-start other = record {
    each = now.each;
    sound = λ v r some. later v r (now.sound v r some);
    whole = λ n loop q plain before within. ⊎_elim
        (λ (here : do_start p.execs n ≡ k). let no : None ≡ Some loop = sym other ∙ begun-is n loop q plain here in absurd cc)
        (λ (not_here : do_start p.execs n ≡ k → ⊥). now.whole n loop q plain (omega (arith, before, not_here)) (omega (arith, within)))
        (cases_eq (do_start p.execs n) k);
  }

  -- one that begins one
  start : (loop_no var : ℕ) (first last step : Expr) (body exit : ℕ) (r : Option Reach) → exec.kind ≡ DoStart loop_no var first last step body exit → var < length p.names → IsReach p t k r → IsCurrent p t (k + 1) (slice_set current var r)
  start loop_no var first last step body exit r is lt reach = record {
    each = length-set current var r ∙ now.each;
    sound = λ v found some. ⊎_elim
        (λ (same : var ≡ v).
        let is_r : r ≡ Some found = same-reach r (Some found) (sym (get-set_same current var r room) ∙ ap (slice_get (slice_set current var r)) same ∙ some) in
        let b = reach.sound found is_r in
        let here = b.here in
        record { number = b.number; loop = b.loop; parameters = b.parameters; plain = b.plain; is_variable = variable b.number b.loop b.parameters b.plain here ∙ same; before = omega (arith, here); is = b.is })
        (λ (other : var ≡ v → ⊥). later v found (now.sound v found (sym (get-set_other current var v r other) ∙ some)))
        (cases_eq var v);
    whole = λ n loop q plain before within. ⊎_elim
        (λ (here : do_start p.execs n ≡ k). ap (slice_get (slice_set current var r)) (variable n loop q plain here) ∙ get-set_same current var r room ∙ ap (λ o. Some o) (reach.whole n loop q plain here))
        (λ (not_here : do_start p.execs n ≡ k → ⊥). ⊎_elim
        (λ (same : var ≡ loop.variable). absurd (plain.keeps k exec (record { after_start = omega (arith, before, not_here); before_next = omega (arith, within) }) at (writes loop.variable same)))
        (λ (other : var ≡ loop.variable → ⊥). get-set_other current var loop.variable r other ∙ now.whole n loop q plain (omega (arith, before, not_here)) (omega (arith, within)))
        (cases_eq var loop.variable))
        (cases_eq (do_start p.execs n) k);
  }
    where
      room : var < length current
      room = let same = now.each in omega (arith, lt, same)

      variable : (n : ℕ) (loop : Loop) (q : Parameters) → IsPlain p t n loop q → do_start p.execs n ≡ k → loop.variable ≡ var
      variable n loop q plain here = ap (λ (l : Loop). l.variable) (same-loop loop (record { number = loop_no; variable = var; body = body; exit = exit }) (sym (begun-is n loop q plain here) ∙ ap begun is))

      writes : (v : ℕ) → var ≡ v → ExecWrites t exec.kind (class_of_word t (place_of p.names v))
      writes v same = subst (λ (kind : ExecKind). ExecWrites t kind (class_of_word t (place_of p.names v))) (sym is) (ap (λ names. class_of_word t (place_of names var)) classes.names ∙ ap (λ j. class_of_word t (place_of p.names j)) same)

  after-kind : (kind : ExecKind) (r : Option Reach) → exec.kind ≡ kind → CanExecute p kind → IsReach p t k r → IsCurrent p t (k + 1) (after_exec kind r current)
  after-kind (DoStart loop_no var first last step body exit) r is can reach = start loop_no var first last step body exit r is can.0.name reach
  after-kind (Assign target e next) r is can reach = not-start (ap begun is)
  after-kind (Print items next) r is can reach = not-start (ap begun is)
  after-kind (Pass next) r is can reach = not-start (ap begun is)
  after-kind (Test cond if_true if_false) r is can reach = not-start (ap begun is)
  after-kind (Sign e neg equal pos') r is can reach = not-start (ap begun is)
  after-kind (Pick e targets other) r is can reach = not-start (ap begun is)
  after-kind (DoNext loop_no var body exit) r is can reach = not-start (ap begun is)
  after-kind End r is can reach = not-start (ap begun is)

  -- after any executable
  pub current-next : (r : Option Reach) → CanExecute p exec.kind → IsReach p t k r → IsCurrent p t (k + 1) (after_exec exec.kind r current)
  current-next r can reach = after-kind exec.kind r refl can reach
