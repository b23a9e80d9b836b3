-- The operations of each kind of piece do what its pass does.
use Rattle.std.proofs.Common.{◌≡◌, ℕ, ℤ, pos, true, false, List, [], ◌∷◌, length, None, Result, Ok, Err, All, refl, subst}
use Rattle.std.specs.Prelude.{if◌then◌else◌}
use Rattle.op_table.specs.declared.Trap.{Trap}
use Rattle.op_table.specs.Operators.{picked, which_of_three}
use Rattle.op_table.specs.Trips.{at_least_zero}
use Rattle.op_table.specs.Words.{IsWord, is_true}
use Rattle.f77_tree.specs.declared.declarations.Kind.TheVariants.{Integer}
use Rattle.f77_tree.specs.declared.expressions.Expr.{Expr}
use Rattle.f77_tree.specs.declared.programs.ExecKind.{ExecKind}
use Rattle.f77_tree.specs.declared.programs.ExecKind.TheVariants.{Assign, Print, Pass, Test, Sign, Pick, DoStart, DoNext, End}
use Rattle.f77_tree.specs.declared.programs.NameInfo.{NameInfo}
use Rattle.f77_tree.specs.Execution.{Memory, outcome}
use Rattle.f77_tree.specs.Kinds.{IsOfKind, IsProper}
use Rattle.f77_tree.specs.Value.{value, and_then, ArePlaced}
use Rattle.f77_tree.specs.WellFormed.{IsDo, IsExecutable}
use Rattle.f77_tree.proofs.AllLemmas.{All-first, All-rest}
use Rattle.f77_tree.proofs.WordValues.{value-is_word}
use Rattle.cfg_build.specs.Passes.{acted, branched, choice}
use Rattle.cfg_build.specs.Runs.{is_act, is_branch}
use Rattle.op_board.specs.Operations.{Work, DecideTruth, DecideSign, DecideNumber, compiled, act_operations, begin_operations, branch_operations, decide_operations}
use Rattle.op_board.specs.Effects.{performed, ran_all, tells}
use Rattle.op_board.proofs.AssignOperations.{assign_does}
use Rattle.op_board.proofs.ExpressionOperations.{compiled_longer, expression_gives}
use Rattle.op_board.proofs.OperationRuns.{run_none}
use Rattle.op_board.proofs.PieceOperations.{DoesAs, begin_does, ends_by, print_does, value_does}

module _ (names : List NameInfo) (input : List ℤ) (m : Memory) (out : ℕ → ℕ) (words : ℕ) (placed : ArePlaced names words) where
  -- ---- acts

  start_does : (loop_no var : ℕ) (first last step : Expr) (body exit : ℕ) → All IsWord m.store → IsDo names var (first ∷ last ∷ step ∷ []) →
      DoesAs m out (ran_all names input m (begin_operations names loop_no var first last step)) (acted (out 0) (outcome names input m (DoStart loop_no var first last step body exit)))
  start_does loop_no var first last step body exit holds is =
      let kinds = is.integers in
      let rest = All-rest (IsOfKind names Integer) first (last ∷ step ∷ []) kinds in
      let end = All-rest (IsOfKind names Integer) last (step ∷ []) rest in
      let first_proper : IsProper names first = (All-first (IsOfKind names Integer) first (last ∷ step ∷ []) kinds).proper in
      let last_proper : IsProper names last = (All-first (IsOfKind names Integer) last (step ∷ []) rest).proper in
      let step_proper : IsProper names step = (All-first (IsOfKind names Integer) step [] end).proper in
      let a = compiled names [] first in
      let b = compiled names a.done last in
      let c = compiled names b.done step in
      begin_does names input m out loop_no var body exit a b c (value names m.store None first) (value names m.store None last) (value names m.store None step) (compiled_longer names a.done last) (compiled_longer names b.done step)
      (expression_gives names input m None words placed first [] [] first_proper (run_none names input m))
      (λ now run. expression_gives names input m None words placed last a.done now last_proper run)
      (λ now run. expression_gives names input m None words placed step b.done now step_proper run)
      (λ z e. value-is_word names m.store None holds step z step_proper e)

  pub act_does : (kind : ExecKind) → All IsWord m.store → IsExecutable names kind → is_act kind ≡ true → DoesAs m out (ran_all names input m (act_operations names kind)) (acted (out 0) (outcome names input m kind))
  act_does (Assign target e next) holds is act = assign_does names input m out words placed target e next is
  act_does (Print items next) holds is act = print_does names input m words placed out items next is
  act_does (Pass next) holds is act = let no : false ≡ true = act in absurd cc
  act_does (Test cond if_true if_false) holds is act = let no : false ≡ true = act in absurd cc
  act_does (Sign e neg zero' pos') holds is act = let no : false ≡ true = act in absurd cc
  act_does (Pick e targets other) holds is act = let no : false ≡ true = act in absurd cc
  act_does (DoStart loop_no var first last step body exit) holds is act = start_does loop_no var first last step body exit holds is
  act_does (DoNext loop_no var body exit) holds is act = (refl, refl, refl)
  act_does End holds is act = let no : false ≡ true = act in absurd cc

  -- ---- branches

  taken_by : (f : ℤ → ℕ) (r : Result ℤ Trap) → ends_by out (λ z. tells m (f z)) r ≡ branched m out (and_then (λ z. Ok (f z)) r)
  taken_by f (Err trap) = refl
  taken_by f (Ok z) = refl

  decide_does : (work : Work) (f : ℤ → ℕ) (e : Expr) → IsProper names e → ((z : ℤ) → performed names input m work (z ∷ []) ≡ Ok (tells m (f z))) →
      DoesAs m out (ran_all names input m (decide_operations names work e)) (branched m out (and_then (λ z. Ok (f z)) (value names m.store None e)))
  decide_does work f e proper is =
      subst (λ p. DoesAs m out (ran_all names input m (decide_operations names work e)) p) (taken_by f (value names m.store None e))
      (value_does names input m out (compiled names [] e) work (λ z. tells m (f z)) (value names m.store None e) (expression_gives names input m None words placed e [] [] proper (run_none names input m)) is)

  pub branch_does : (kind : ExecKind) → IsExecutable names kind → is_branch kind ≡ true → DoesAs m out (ran_all names input m (branch_operations names kind)) (branched m out (choice names m kind))
  branch_does (Test cond if_true if_false) is branch = decide_does DecideTruth (λ z. if is_true z then 0 else 1) cond is.proper (λ z. refl)
  branch_does (Sign e neg zero' pos') is branch = decide_does DecideSign (λ z. at_least_zero (which_of_three z)) e is.proper (λ z. refl)
  branch_does (Pick e targets other) is branch = decide_does (DecideNumber (length targets)) (λ z. at_least_zero (picked z (pos (length targets)))) e is.0.proper (λ z. refl)
  branch_does (DoStart loop_no var first last step body exit) is branch = (refl, refl, refl)
  branch_does (Assign target e next) is branch = let no : false ≡ true = branch in absurd cc
  branch_does (Print items next) is branch = let no : false ≡ true = branch in absurd cc
  branch_does (Pass next) is branch = let no : false ≡ true = branch in absurd cc
  branch_does (DoNext loop_no var body exit) is branch = let no : false ≡ true = branch in absurd cc
  branch_does End is branch = let no : false ≡ true = branch in absurd cc
