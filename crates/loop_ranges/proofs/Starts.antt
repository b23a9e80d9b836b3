-- What is told of the executables that begin and increment a DO, and what others leave of its count and step.
use Rattle.std.proofs.Common.{◌≡◌, ℕ, ◌<◌, ◌≤◌, ℤ, ◌⊎◌, inl, inr, List, Option, Some, None, refl, ap, arith}
use Rattle.std.proofs.lemmas.Bool.{cases_lt}
use Rattle.f77_tree.specs.declared.expressions.Expr.{Expr}
use Rattle.f77_tree.specs.declared.programs.Exec.{Exec}
use Rattle.f77_tree.specs.declared.programs.ExecKind.{ExecKind}
use Rattle.f77_tree.specs.declared.programs.ExecKind.TheVariants.{Assign, Print, Pass, Test, Sign, Pick, DoStart, DoNext, End}
use Rattle.f77_tree.specs.Known.{known}
use Rattle.f77_tree.specs.Loops.{Loop, begun, incremented, do_start, do_next, InRange}
use Rattle.f77_tree.specs.Touched.{SetsCount, SetsStep}
use Rattle.loop_ranges.specs.Plain.{Parameters, all_three, parameters}

-- ---- the DoStart and the DoNext of a DO

pub record IsStart (kind : ExecKind) (loop : Loop) (q : Parameters) : Type 0 where
  pub first : Expr
  pub last : Expr
  pub step : Expr
  pub is : kind ≡ DoStart loop.number loop.variable first last step loop.body loop.exit
  pub first_known : known first ≡ Some q.first
  pub last_known : known last ≡ Some q.last
  pub step_known : known step ≡ Some q.step

record AreThree (first last step : Option ℤ) (q : Parameters) : Type 0 where
  first_is : first ≡ Some q.first
  last_is : last ≡ Some q.last
  step_is : step ≡ Some q.step

three : (first last step : Option ℤ) (q : Parameters) → all_three first last step ≡ Some q → AreThree first last step q
three (Some a) (Some b) (Some c) q is =
    let same : record { first = a; last = b; step = c } ≡ q = cc in
    record { first_is = ap (λ (r : Parameters). Some r.first) same; last_is = ap (λ (r : Parameters). Some r.last) same; step_is = ap (λ (r : Parameters). Some r.step) same }
three None last step q is = let no : None ≡ Some q = is in absurd cc
three (Some a) None step q is = let no : None ≡ Some q = is in absurd cc
three (Some a) (Some b) None q is = let no : None ≡ Some q = is in absurd cc

pub begun-start : (kind : ExecKind) (loop : Loop) (q : Parameters) → begun kind ≡ Some loop → parameters kind ≡ Some q → IsStart kind loop q
begun-start (DoStart loop_no var first last step body exit) loop q begins are =
    let same : record { number = loop_no; variable = var; body = body; exit = exit } ≡ loop = cc in
    let all = three (known first) (known last) (known step) q are in
    record {
      first = first;
      last = last;
      step = step;
      is = ap (λ (l : Loop). DoStart l.number l.variable first last step l.body l.exit) same;
      first_known = all.first_is;
      last_known = all.last_is;
      step_known = all.step_is;
    }
begun-start (Assign target e next) loop q begins are = absurd cc
begun-start (Print items next) loop q begins are = absurd cc
begun-start (Pass next) loop q begins are = absurd cc
begun-start (Test cond if_true if_false) loop q begins are = absurd cc
begun-start (Sign e neg equal pos') loop q begins are = absurd cc
begun-start (Pick e targets other) loop q begins are = absurd cc
begun-start (DoNext loop_no var body exit) loop q begins are = absurd cc
begun-start End loop q begins are = absurd cc

pub incremented-next : (kind : ExecKind) (loop : Loop) → incremented kind ≡ Some loop → kind ≡ DoNext loop.number loop.variable loop.body loop.exit
incremented-next (DoNext loop_no var body exit) loop is =
    let same : record { number = loop_no; variable = var; body = body; exit = exit } ≡ loop = cc in
    ap (λ (l : Loop). DoNext l.number l.variable l.body l.exit) same
incremented-next (Assign target e next) loop is = absurd cc
incremented-next (Print items next) loop is = absurd cc
incremented-next (Pass next) loop is = absurd cc
incremented-next (Test cond if_true if_false) loop is = absurd cc
incremented-next (Sign e neg equal pos') loop is = absurd cc
incremented-next (Pick e targets other) loop is = absurd cc
incremented-next (DoStart loop_no var first last step body exit) loop is = absurd cc
incremented-next End loop is = absurd cc

-- ---- what sets a count is the DoStart or the DoNext of the DO

pub data Sets (kind : ExecKind) (n : ℕ) : Type 0 where
  Begins : (loop : Loop) → begun kind ≡ Some loop → loop.number ≡ n → Sets kind n
  Increments : (loop : Loop) → incremented kind ≡ Some loop → loop.number ≡ n → Sets kind n

pub sets-count : (kind : ExecKind) (n : ℕ) → SetsCount kind n → Sets kind n
sets-count (DoStart loop_no var first last step body exit) n is = Begins (record { number = loop_no; variable = var; body = body; exit = exit }) refl is
sets-count (DoNext loop_no var body exit) n is = Increments (record { number = loop_no; variable = var; body = body; exit = exit }) refl is
sets-count (Assign target e next) n is = absurd is
sets-count (Print items next) n is = absurd is
sets-count (Pass next) n is = absurd is
sets-count (Test cond if_true if_false) n is = absurd is
sets-count (Sign e neg equal pos') n is = absurd is
sets-count (Pick e targets other) n is = absurd is
sets-count End n is = absurd is

pub step-count : (kind : ExecKind) (n : ℕ) → SetsStep kind n → SetsCount kind n
step-count (DoStart loop_no var first last step body exit) n is = is
step-count (DoNext loop_no var body exit) n is = absurd is
step-count (Assign target e next) n is = absurd is
step-count (Print items next) n is = absurd is
step-count (Pass next) n is = absurd is
step-count (Test cond if_true if_false) n is = absurd is
step-count (Sign e neg equal pos') n is = absurd is
step-count (Pick e targets other) n is = absurd is
step-count End n is = absurd is

-- ---- where an executable stands

pub in_range : (execs : List Exec) (n k : ℕ) → InRange execs n k ⊎ (InRange execs n k → ⊥)
in_range execs n k = by (cases_lt (do_start execs n) k) (cases_lt (do_next execs n) k)
  where
    by : (do_start execs n < k) ⊎ (k ≤ do_start execs n) → (do_next execs n < k) ⊎ (k ≤ do_next execs n) → InRange execs n k ⊎ (InRange execs n k → ⊥)
    by (inr before) other = inr (λ is. let after = is.after_start in omega (arith, before, after))
    by (inl after) (inl beyond) = inr (λ is. let up_to = is.up_to_next in omega (arith, beyond, up_to))
    by (inl after) (inr up_to) = inl (record { after_start = after; up_to_next = up_to })
