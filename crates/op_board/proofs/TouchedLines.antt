-- Each line that a piece touches some operation of it needs.
use Rattle.std.proofs.Common.{◌≡◌, ◌⊎◌, ⊎_elim, ℕ, suc, pos, Bool, true, List, [], ◌∷◌, ◌++◌, map, Any, All, sym, ap, subst, inl, inr, arith}
use Rattle.std.proofs.lemmas.Bool.{false≢true}
use Rattle.op_table.specs.declared.Op.TheVariants.{Step}
use Rattle.f77_tree.specs.declared.expressions.Access.{Access}
use Rattle.f77_tree.specs.declared.expressions.Expr.{Expr, Row_of-Expr, end_of-Expr, more_of-Expr, items-the_row-Expr, items_hidden-the_row-Expr-0}
use Rattle.f77_tree.specs.declared.expressions.Expr.TheVariants.{Read}
use Rattle.f77_tree.specs.declared.programs.ExecKind.{ExecKind}
use Rattle.f77_tree.specs.declared.programs.ExecKind.TheVariants.{Assign, Print, Pass, Test, Sign, Pick, DoStart, DoNext, End}
use Rattle.f77_tree.specs.declared.programs.Item.{Item}
use Rattle.f77_tree.specs.declared.programs.Item.TheVariants.{Value, Chars}
use Rattle.f77_tree.specs.declared.programs.NameInfo.{NameInfo}
use Rattle.f77_tree.specs.declared.programs.Program.{Program}
use Rattle.f77_tree.specs.CanRun.{CanExecute, CanPrint}
use Rattle.f77_tree.specs.Known.{ExecMayTrap, MayTrap, known}
use Rattle.f77_tree.specs.Touched.{ExecReadsData}
use Rattle.f77_tree.specs.Value.{dims_of}
use Rattle.f77_tree.proofs.AllLemmas.{All-first, All-rest}
use Rattle.f77_tree.proofs.ExpressionLemmas.{row_of, Read-IsExpression}
use Rattle.f77_tree.proofs.ForesightLemmas.{taking-traps}
use Rattle.alias_classes.specs.Classes.{ClassTable}
use Rattle.alias_classes.specs.Needs.{ExecNeeds, ExprNeeds, ItemNeeds, SomeNeeds}
use Rattle.alias_classes.proofs.Rows.{any-first}
use Rattle.cfg_build.specs.Runs.{is_act}
use Rattle.dep_routing.specs.Touches.{Prints}
use Rattle.op_board.specs.Needs.{OperationNeeds, WorkNeeds}
use Rattle.op_board.specs.Operations.{Operand, Known, Work, Load, Operate, Store, Take, Write, Begin, Advance, DecideTruth, DecideSign, DecideNumber, DecideTrips, DecideFirst, Operation, is_decision, operated, place_operands, compiled, place_of_read, items_compiled, ended, assign_operations, begin_operations, act_operations}
use Rattle.op_board.proofs.NeededOperations.{NeedsLine, NeedsOut, OneIs, class_needed, class_of_place, known_same, one_added, one_before, operated_before, trap_needed, trap_of_place, trapping_added}
use Rattle.op_board.proofs.ValueTaking.{EndsBy}

ended_before : (P : Operation → Type 0) (done : List Operation) (work : Work) (operands : List Operand) → OneIs P done → OneIs P (ended done work operands)
ended_before P done work operands one = one_before P done (record { work = work; operands = operands }) one

ended_last : (P : Operation → Type 0) (done : List Operation) (work : Work) (operands : List Operand) → P (record { work = work; operands = operands }) → OneIs P (ended done work operands)
ended_last P done work operands is = one_added P done (record { work = work; operands = operands }) is

-- what some of a list of subscripts needs
any_row : (c : ClassTable) (n : ℕ) (m : _) (row : Row_of-Expr m) → Any (λ e. ExprNeeds c e n) (items-the_row-Expr m row) → SomeNeeds c row n
any_row c n m end_of-Expr some = let lt = some.2 in absurd (omega (arith, lt))
any_row c n m (more_of-Expr e rest) some = ⊎_elim (λ here. inl here) (λ later. inr (any_row c n _ rest later)) (any-first (λ x. ExprNeeds c x n) e (items-the_row-Expr _ rest) some)

-- ---- acts

module _ (p : Program) (c : ClassTable) (touches : ℕ → Bool) where
  abbrev names : List NameInfo
  names = p.names

  module _ (n : ℕ) where
    abbrev Needing : Operation → Type 0
    Needing op = NeedsLine names c touches n op

    abbrev Has : List Operation → Type 0
    Has ops = OneIs Needing ops

    items_needed : (items : List Item) (done : List Operation) → All (CanPrint names) items → Has done ⊎ Any (λ item. ItemNeeds c item (suc n)) items → Has (items_compiled names done items).done
    items_needed [] done can (inl one) = one
    items_needed [] done can (inr some) = let lt = some.2 in absurd (omega (arith, lt))
    items_needed (Chars text ∷ items) done can (inl one) = items_needed items done (All-rest (CanPrint names) (Chars text) items can) (inl one)
    items_needed (Chars text ∷ items) done can (inr some) =
        items_needed items done (All-rest (CanPrint names) (Chars text) items can) (⊎_elim (λ here. absurd here) (λ later. inr later) (any-first (λ item. ItemNeeds c item (suc n)) (Chars text) items some))
    items_needed (Value e ∷ items) done can (inl one) =
        items_needed items (compiled names done e).done (All-rest (CanPrint names) (Value e) items can) (inl (class_needed names c touches n e done (All-first (CanPrint names) (Value e) items can) (inl one)))
    items_needed (Value e ∷ items) done can (inr some) =
        items_needed items (compiled names done e).done (All-rest (CanPrint names) (Value e) items can)
        (⊎_elim
        (λ here. inl (class_needed names c touches n e done (All-first (CanPrint names) (Value e) items can) (inr here)))
        (λ later. inr later)
        (any-first (λ item. ItemNeeds c item (suc n)) (Value e) items some))

    assign_needed : (target : Access) (e : Expr) (next : ℕ) → CanExecute p (Assign target e next) → ExecNeeds c (Assign target e next) (suc n) → Has (assign_operations names target e)
    assign_needed target e next can need = by need
      where
        place : List Operation
        place = (place_of_read names [] (Read target)).done

        operands : List Operand
        operands = place_operands target.subs (place_of_read names [] (Read target)).operand ++ (compiled names place e).operand ∷ []

        after : Has place ⊎ ExprNeeds c e (suc n) → Has (assign_operations names target e)
        after one = ended_before Needing (compiled names place e).done (Store target.name (map known target.subs)) operands (class_needed names c touches n e place can.1 one)

        by : ExecNeeds c (Assign target e next) (suc n) → Has (assign_operations names target e)
        by (inl (inl some)) =
            let row = row_of (Read target) in
            let is = Read-IsExpression names target can.0 in
            let needed = any_row c (suc n) row.0 row.1 (subst (λ (es : List Expr). Any (λ x. ExprNeeds c x (suc n)) es) (sym (items_hidden-the_row-Expr-0 target.subs)) some) in
            after (inl (class_of_place names c touches n row.0 row.1 [] (dims_of names target.name) (pos 1) (Known (pos 0)) is.1 is.2 (inr needed)))
        by (inl (inr hits)) = ended_last Needing (compiled names place e).done (Store target.name (map known target.subs)) operands hits
        by (inr here) = after (inr here)

    begin_needed : (loop_no var body exit : ℕ) (first last step : Expr) → CanExecute p (DoStart loop_no var first last step body exit) → ExecNeeds c (DoStart loop_no var first last step body exit) (suc n) → Has (begin_operations names loop_no var first last step)
    begin_needed loop_no var body exit first last step can need = by need
      where
        a : List Operation
        a = (compiled names [] first).done

        b : List Operation
        b = (compiled names a last).done

        s : List Operation
        s = (compiled names b step).done

        step_operands : List Operand
        step_operands = (compiled names b step).operand ∷ []

        operands : List Operand
        operands = (compiled names [] first).operand ∷ (compiled names a last).operand ∷ (operated s Step step_operands).operand ∷ []

        after : Has b ⊎ ExprNeeds c step (suc n) → Has (begin_operations names loop_no var first last step)
        after one = ended_before Needing (operated s Step step_operands).done (Begin loop_no var) operands (operated_before Needing s Step step_operands (class_needed names c touches n step b can.3 one))

        by : ExecNeeds c (DoStart loop_no var first last step body exit) (suc n) → Has (begin_operations names loop_no var first last step)
        by (inl (inl here)) = after (inl (class_needed names c touches n last a can.2 (inl (class_needed names c touches n first [] can.1 (inr here)))))
        by (inl (inr (inl here))) = after (inl (class_needed names c touches n last a can.2 (inr here)))
        by (inl (inr (inr here))) = after (inr here)
        by (inr loop) = ended_last Needing (operated s Step step_operands).done (Begin loop_no var) operands loop

    pub act_class : (exec : ExecKind) → is_act exec ≡ true → CanExecute p exec → ExecNeeds c exec (suc n) → Has (act_operations names exec)
    act_class (Assign target e next) fit can need = assign_needed target e next can need
    act_class (Print items next) fit can need =
        let s = items_compiled names [] items in
        ended_before Needing s.done (Write items) s.operands (items_needed items [] can.0 (inr need))
    act_class (DoStart loop_no var first last step body exit) fit can need = begin_needed loop_no var body exit first last step can need
    act_class (DoNext loop_no var body exit) fit can need = ended_last Needing [] (Advance loop_no var) [] need
    act_class (Pass next) fit can need = absurd need
    act_class (Test cond if_true if_false) fit can need = absurd (false≢true fit)
    act_class (Sign e neg zero' pos') fit can need = absurd (false≢true fit)
    act_class (Pick e targets other) fit can need = absurd (false≢true fit)
    act_class End fit can need = absurd need

  module _ (touched : touches 0 ≡ true) where
    abbrev NeedingOut : Operation → Type 0
    NeedingOut op = NeedsOut names c touches touched op

    abbrev HasOut : List Operation → Type 0
    HasOut ops = OneIs NeedingOut ops

    assign_out : (target : Access) (e : Expr) (next : ℕ) → CanExecute p (Assign target e next) → ExecMayTrap names (Assign target e next) → HasOut (assign_operations names target e)
    assign_out target e next can may = by may
      where
        place : List Operation
        place = (place_of_read names [] (Read target)).done

        operands : List Operand
        operands = place_operands target.subs (place_of_read names [] (Read target)).operand ++ (compiled names place e).operand ∷ []

        after : HasOut place ⊎ MayTrap names e → HasOut (assign_operations names target e)
        after one = ended_before NeedingOut (compiled names place e).done (Store target.name (map known target.subs)) operands (trap_needed names c touches touched e place can.1 one)

        by : ExecMayTrap names (Assign target e next) → HasOut (assign_operations names target e)
        by (inl there) =
            let row = row_of (Read target) in
            let is = Read-IsExpression names target can.0 in
            after (inl (trap_of_place names c touches touched row.0 row.1 [] (dims_of names target.name) (pos 1) (Known (pos 0)) is.1 is.2 (inr there)))
        by (inr here) = after (inr here)

    begin_out : (loop_no var body exit : ℕ) (first last step : Expr) → CanExecute p (DoStart loop_no var first last step body exit) → ExecMayTrap names (DoStart loop_no var first last step body exit) → HasOut (begin_operations names loop_no var first last step)
    begin_out loop_no var body exit first last step can may = by may
      where
        a : List Operation
        a = (compiled names [] first).done

        b : List Operation
        b = (compiled names a last).done

        s : List Operation
        s = (compiled names b step).done

        step_operands : List Operand
        step_operands = (compiled names b step).operand ∷ []

        operands : List Operand
        operands = (compiled names [] first).operand ∷ (compiled names a last).operand ∷ (operated s Step step_operands).operand ∷ []

        end : HasOut (operated s Step step_operands).done → HasOut (begin_operations names loop_no var first last step)
        end one = ended_before NeedingOut (operated s Step step_operands).done (Begin loop_no var) operands one

        after : HasOut b ⊎ MayTrap names step → HasOut (begin_operations names loop_no var first last step)
        after one = end (operated_before NeedingOut s Step step_operands (trap_needed names c touches touched step b can.3 one))

        by : ExecMayTrap names (DoStart loop_no var first last step body exit) → HasOut (begin_operations names loop_no var first last step)
        by (inl here) = after (inl (trap_needed names c touches touched last a can.2 (inl (trap_needed names c touches touched first [] can.1 (inr here)))))
        by (inr (inl here)) = after (inl (trap_needed names c touches touched last a can.2 (inr here)))
        by (inr (inr (inl here))) = after (inr here)
        by (inr (inr (inr can_be_0))) = end (trapping_added names c touches touched s Step step_operands (known step ∷ []) (ap (λ k. k ∷ []) (known_same names step b)) can_be_0)

    -- an act that prints, takes data or can trap
    pub act_out : (exec : ExecKind) → is_act exec ≡ true → CanExecute p exec → Prints exec ⊎ (ExecReadsData exec ⊎ ExecMayTrap names exec) → HasOut (act_operations names exec)
    act_out exec fit can why = by exec fit can (prints_or_traps why)
      where
        prints_or_traps : Prints exec ⊎ (ExecReadsData exec ⊎ ExecMayTrap names exec) → Prints exec ⊎ ExecMayTrap names exec
        prints_or_traps (inl prints) = inl prints
        prints_or_traps (inr (inl takes)) = inr (taking-traps names exec takes)
        prints_or_traps (inr (inr may)) = inr may

        by : (exec : ExecKind) → is_act exec ≡ true → CanExecute p exec → Prints exec ⊎ ExecMayTrap names exec → HasOut (act_operations names exec)
        by (Assign target e next) fit can (inl prints) = absurd prints
        by (Assign target e next) fit can (inr may) = assign_out target e next can may
        by (Print items next) fit can why = let s = items_compiled names [] items in ended_last NeedingOut s.done (Write items) s.operands tt
        by (DoStart loop_no var first last step body exit) fit can (inl prints) = absurd prints
        by (DoStart loop_no var first last step body exit) fit can (inr may) = begin_out loop_no var body exit first last step can may
        by (DoNext loop_no var body exit) fit can (inl prints) = absurd prints
        by (DoNext loop_no var body exit) fit can (inr may) = absurd may
        by (Pass next) fit can why = absurd (false≢true fit)
        by (Test cond if_true if_false) fit can why = absurd (false≢true fit)
        by (Sign e neg zero' pos') fit can why = absurd (false≢true fit)
        by (Pick e targets other) fit can why = absurd (false≢true fit)
        by End fit can why = absurd (false≢true fit)

-- ---- decisions

-- a decision needs each line that its piece touches
pub decision_needs : (c : ClassTable) (touches : ℕ → Bool) (work : Work) (operands : List Operand) (line : ℕ) → is_decision work ≡ true → touches line ≡ true → WorkNeeds c touches work operands line
decision_needs c touches DecideTruth operands line is touched = touched
decision_needs c touches DecideSign operands line is touched = touched
decision_needs c touches (DecideNumber count) operands line is touched = touched
decision_needs c touches (DecideTrips loop_no) operands line is touched = touched
decision_needs c touches DecideFirst operands line is touched = touched
decision_needs c touches (Load name subs) operands line is touched = absurd (false≢true is)
decision_needs c touches (Operate op) operands line is touched = absurd (false≢true is)
decision_needs c touches (Store name subs) operands line is touched = absurd (false≢true is)
decision_needs c touches Take operands line is touched = absurd (false≢true is)
decision_needs c touches (Write items) operands line is touched = absurd (false≢true is)
decision_needs c touches (Begin loop_no var) operands line is touched = absurd (false≢true is)
decision_needs c touches (Advance loop_no var) operands line is touched = absurd (false≢true is)

-- where edges part the last operation decides
pub parting_needs : (c : ClassTable) (touches : ℕ → Bool) (ops : List Operation) (line : ℕ) → EndsBy true ops → touches line ≡ true → OneIs (λ op. OperationNeeds c touches op line) ops
parting_needs c touches ops line e touched =
    subst (OneIs (λ op. OperationNeeds c touches op line)) (sym e.is)
    (ended_last (λ op. OperationNeeds c touches op line) e.done e.work e.operands (decision_needs c touches e.work e.operands line e.decides touched))
