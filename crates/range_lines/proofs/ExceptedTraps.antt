-- What can trap but in excepted subscripts: fewer exceptions, what takes data, and what is known to trap.
use Rattle.std.proofs.Common.{◌≡◌, ℤ, List, [], ◌∷◌, All, Any, Option, Some, None, inl, inr, ⊎_elim, refl, sym, ap, subst, ◌∙◌}
use Rattle.std.specs.Prelude.{slice_get}
use Rattle.op_table.specs.declared.Op.TheVariants.{Bound}
use Rattle.op_table.specs.Known.{all_known}
use Rattle.f77_tree.specs.declared.declarations.Dim.{Dim}
use Rattle.f77_tree.specs.declared.expressions.Access.{Access}
use Rattle.f77_tree.specs.declared.expressions.Expr.{Expr, Read, Row_of-Expr, end_of-Expr, more_of-Expr, items-the_row-Expr, items_hidden-the_row-Expr-0}
use Rattle.f77_tree.specs.declared.expressions.Expr.TheVariants.{Const, Truth, Input, Read', Apply'}
use Rattle.f77_tree.specs.declared.programs.ExecKind.{ExecKind}
use Rattle.f77_tree.specs.declared.programs.ExecKind.TheVariants.{Assign, Print, Pass, Test, Sign, Pick, DoStart, DoNext, End}
use Rattle.f77_tree.specs.declared.programs.Item.{Item}
use Rattle.f77_tree.specs.declared.programs.Item.TheVariants.{Value, Chars}
use Rattle.f77_tree.specs.declared.programs.NameInfo.{NameInfo}
use Rattle.f77_tree.specs.declared.programs.Program.{Program}
use Rattle.f77_tree.specs.CanRun.{CanExecute, CanPrint}
use Rattle.f77_tree.specs.Declarations.{IsDim, IsNameInfo}
use Rattle.f77_tree.specs.Known.{known, row_known, MayTrapBut, SomeMayTrap, SubscriptsMayTrap, ItemMayTrapBut, ExecMayTrapBut}
use Rattle.f77_tree.specs.Touched.{ReadsData, SomeReadsData, ExecReadsData}
use Rattle.f77_tree.specs.Value.{dims_of, AllExpressions, IsExpression}
use Rattle.f77_tree.proofs.AllLemmas.{All-first, All-rest}
use Rattle.f77_tree.proofs.ExpressionLemmas.{row_of, All-at, Read-IsExpression}
use Rattle.alias_classes.proofs.Rows.{any-first}
use Rattle.dep_routing.specs.KnownTraps.{TrapsAt, IsKnownToTrap, SomeKnownToTrap, SubscriptsKnownToTrap, ItemKnownToTrap, ExecKnownToTrap}
use Rattle.dep_routing.proofs.KnownRisks.{operator_known}
use Rattle.range_lines.proofs.QuietForms.{IsHarmless}
use Rattle.range_lines.proofs.RiskTraps.{any-none}
use Rattle.range_lines.proofs.RowLemmas.{dims-at}

-- ---- what the finer exceptions leave can trap where the coarser ones leave it

module _ (fine coarse : Expr → Dim → Type 0) (names : List NameInfo) (table : All IsNameInfo names) (within : (sub : Expr) (dim : Dim) → IsDim dim → fine sub dim → coarse sub dim) where
  mutual
    expression-may : (e : Expr) → MayTrapBut coarse names e → MayTrapBut fine names e
    expression-may (Const z) may = may
    expression-may (Truth b) may = may
    expression-may Input may = tt
    expression-may (Read' name shape subs) may = subscripts-may (dims_of names name) (dims-at names table (slice_get names name) name refl) _ subs may
    expression-may (Apply' op shape args) (inl some) = inl (some-may _ args some)
    expression-may (Apply' op shape args) (inr can) = inr can

    some-may : (n : _) (row : Row_of-Expr n) → SomeMayTrap coarse names row → SomeMayTrap fine names row
    some-may n end_of-Expr may = may
    some-may n (more_of-Expr e rest) (inl here) = inl (expression-may e here)
    some-may n (more_of-Expr e rest) (inr later) = inr (some-may _ rest later)

    subscripts-may : (dims : List Dim) → All IsDim dims → (n : _) (row : Row_of-Expr n) → SubscriptsMayTrap coarse names dims row → SubscriptsMayTrap fine names dims row
    subscripts-may dims all n end_of-Expr may = may
    subscripts-may [] all n (more_of-Expr e rest) (inl here) = inl (expression-may e here)
    subscripts-may [] all n (more_of-Expr e rest) (inr later) = inr (subscripts-may [] all _ rest later)
    subscripts-may (dim ∷ dims) all n (more_of-Expr e rest) (inl here) = inl (λ excepted. here.0 (within e dim (All-first IsDim dim dims all) excepted), ⊎_elim (λ inside. inl (expression-may e inside)) (λ outside. inr outside) here.1)
    subscripts-may (dim ∷ dims) all n (more_of-Expr e rest) (inr later) = inr (subscripts-may dims (All-rest IsDim dim dims all) _ rest later)

  item-may : (item : Item) → ItemMayTrapBut coarse names item → ItemMayTrapBut fine names item
  item-may (Value e) may = expression-may e may
  item-may (Chars text) may = may

  pub exec-may : (kind : ExecKind) → ExecMayTrapBut coarse names kind → ExecMayTrapBut fine names kind
  exec-may (Assign target e next) (inl there) = inl (expression-may (Read target) there)
  exec-may (Assign target e next) (inr here) = inr (expression-may e here)
  exec-may (Print items next) some = (some.0, some.1, some.2, some.3, item-may some.1 some.4)
  exec-may (Pass next) may = may
  exec-may (Test cond if_true if_false) may = expression-may cond may
  exec-may (Sign e neg equal above) may = expression-may e may
  exec-may (Pick e targets other) may = expression-may e may
  exec-may (DoStart loop_no var first last step body exit) (inl one) = inl (expression-may first one)
  exec-may (DoStart loop_no var first last step body exit) (inr (inl two)) = inr (inl (expression-may last two))
  exec-may (DoStart loop_no var first last step body exit) (inr (inr (inl three))) = inr (inr (inl (expression-may step three)))
  exec-may (DoStart loop_no var first last step body exit) (inr (inr (inr at_zero))) = inr (inr (inr at_zero))
  exec-may (DoNext loop_no var body exit) may = may
  exec-may End may = may

-- ---- where excepted subscripts are harmless

some-reading : (n : _) (row : Row_of-Expr n) → Any ReadsData (items-the_row-Expr n row) → SomeReadsData row
some-reading n end_of-Expr some = absurd (any-none ReadsData some)
some-reading n (more_of-Expr e rest) some = ⊎_elim (λ here. inl here) (λ later. inr (some-reading _ rest later)) (any-first ReadsData e (items-the_row-Expr _ rest) some)

-- over the row of an access
access-reading : (access : Access) → Any ReadsData access.subs → SomeReadsData (row_of (Read access)).1
access-reading access some =
    let row = row_of (Read access) in
    some-reading row.0 row.1 (subst (λ (es : List Expr). Any ReadsData es) (sym (items_hidden-the_row-Expr-0 access.subs)) some)

-- a subscript whose value isn't known isn't known to lie outside its bounds
not-outside : (dim : Dim) (k : Option ℤ) → k ≡ None → TrapsAt Bound (k ∷ Some dim.lo ∷ Some dim.hi ∷ []) → ⊥
not-outside dim k none traps =
    let no : None ≡ Some traps.args = ap (λ j. all_known (j ∷ Some dim.lo ∷ Some dim.hi ∷ [])) (sym none) ∙ traps.are_known in
    absurd cc

module _ (excepted : Expr → Dim → Type 0) (p : Program) (harmless : (sub : Expr) (dim : Dim) → IsExpression p.names sub → excepted sub dim → IsHarmless p.names sub) where
  -- what takes data can trap
  mutual
    reading : (e : Expr) → IsExpression p.names e → ReadsData e → MayTrapBut excepted p.names e
    reading (Const z) fits reads = reads
    reading (Truth b) fits reads = reads
    reading Input fits reads = tt
    reading (Read' name shape subs) fits reads = reading-subscripts (dims_of p.names name) _ subs fits.2 reads
    reading (Apply' op shape args) fits reads = inl (reading-some _ args fits.1 reads)

    reading-some : (n : _) (row : Row_of-Expr n) → AllExpressions p.names row → SomeReadsData row → SomeMayTrap excepted p.names row
    reading-some n end_of-Expr fits some = some
    reading-some n (more_of-Expr e rest) fits (inl here) = inl (reading e fits.0 here)
    reading-some n (more_of-Expr e rest) fits (inr later) = inr (reading-some _ rest fits.1 later)

    reading-subscripts : (dims : List Dim) (n : _) (row : Row_of-Expr n) → AllExpressions p.names row → SomeReadsData row → SubscriptsMayTrap excepted p.names dims row
    reading-subscripts dims n end_of-Expr fits some = some
    reading-subscripts [] n (more_of-Expr e rest) fits (inl here) = inl (reading e fits.0 here)
    reading-subscripts [] n (more_of-Expr e rest) fits (inr later) = inr (reading-subscripts [] _ rest fits.1 later)
    reading-subscripts (dim ∷ dims) n (more_of-Expr e rest) fits (inl here) = inl (λ x. (harmless e dim fits.0 x).quiet.reads here, inl (reading e fits.0 here))
    reading-subscripts (dim ∷ dims) n (more_of-Expr e rest) fits (inr later) = inr (reading-subscripts dims _ rest fits.1 later)

  -- what is known to trap can
  mutual
    knowing : (e : Expr) → IsExpression p.names e → IsKnownToTrap p.names e → MayTrapBut excepted p.names e
    knowing (Const z) fits traps = traps
    knowing (Truth b) fits traps = traps
    knowing Input fits traps = tt
    knowing (Read' name shape subs) fits traps = knowing-subscripts (dims_of p.names name) _ subs fits.2 traps
    knowing (Apply' op shape args) fits (inl some) = inl (knowing-some _ args fits.1 some)
    knowing (Apply' op shape args) fits (inr here) = inr (operator_known op (row_known args) here)

    knowing-some : (n : _) (row : Row_of-Expr n) → AllExpressions p.names row → SomeKnownToTrap p.names row → SomeMayTrap excepted p.names row
    knowing-some n end_of-Expr fits some = some
    knowing-some n (more_of-Expr e rest) fits (inl here) = inl (knowing e fits.0 here)
    knowing-some n (more_of-Expr e rest) fits (inr later) = inr (knowing-some _ rest fits.1 later)

    knowing-subscripts : (dims : List Dim) (n : _) (row : Row_of-Expr n) → AllExpressions p.names row → SubscriptsKnownToTrap p.names dims row → SubscriptsMayTrap excepted p.names dims row
    knowing-subscripts dims n end_of-Expr fits some = some
    knowing-subscripts [] n (more_of-Expr e rest) fits (inl here) = inl (knowing e fits.0 here)
    knowing-subscripts [] n (more_of-Expr e rest) fits (inr later) = inr (knowing-subscripts [] _ rest fits.1 later)
    knowing-subscripts (dim ∷ dims) n (more_of-Expr e rest) fits (inl (inl inside)) = inl (λ x. (harmless e dim fits.0 x).quiet.traps inside, inl (knowing e fits.0 inside))
    knowing-subscripts (dim ∷ dims) n (more_of-Expr e rest) fits (inl (inr outside)) =
        inl (λ x. not-outside dim (known e) (harmless e dim fits.0 x).unknown outside, inr (operator_known Bound (known e ∷ Some dim.lo ∷ Some dim.hi ∷ []) outside))
    knowing-subscripts (dim ∷ dims) n (more_of-Expr e rest) fits (inr later) = inr (knowing-subscripts dims _ rest fits.1 later)

  item-knowing : (item : Item) → CanPrint p.names item → ItemKnownToTrap p.names item → ItemMayTrapBut excepted p.names item
  item-knowing (Value e) can traps = knowing e can traps
  item-knowing (Chars text) can traps = traps

  -- an executable that takes data can trap
  pub exec-reading : (kind : ExecKind) → CanExecute p kind → ExecReadsData kind → ExecMayTrapBut excepted p.names kind
  exec-reading (Assign target e next) can (inl some) =
      inl (reading (Read target) (Read-IsExpression p.names target can.0) (access-reading target some))
  exec-reading (Assign target e next) can (inr here) = inr (reading e can.1 here)
  exec-reading _ can reads = absurd reads

  -- and so can one that is known to trap
  pub exec-knowing : (kind : ExecKind) → CanExecute p kind → ExecKnownToTrap p.names kind → ExecMayTrapBut excepted p.names kind
  exec-knowing (Assign target e next) can (inl there) = inl (knowing (Read target) (Read-IsExpression p.names target can.0) there)
  exec-knowing (Assign target e next) can (inr here) = inr (knowing e can.1 here)
  exec-knowing (Print items next) can some = (some.0, some.1, some.2, some.3, item-knowing some.1 (All-at (CanPrint p.names) items some.0 some.1 some.2 (sym some.3) can.0) some.4)
  exec-knowing (Pass next) can traps = traps
  exec-knowing (Test cond if_true if_false) can traps = knowing cond can.0 traps
  exec-knowing (Sign e neg equal above) can traps = knowing e can.0 traps
  exec-knowing (Pick e targets other) can traps = knowing e can.0 traps
  exec-knowing (DoStart loop_no var first last step body exit) can (inl one) = inl (knowing first can.1 one)
  exec-knowing (DoStart loop_no var first last step body exit) can (inr (inl two)) = inr (inl (knowing last can.2 two))
  exec-knowing (DoStart loop_no var first last step body exit) can (inr (inr (inl three))) = inr (inr (inl (knowing step can.3 three)))
  exec-knowing (DoStart loop_no var first last step body exit) can (inr (inr (inr at_zero))) = inr (inr (inr (operator_known _ _ at_zero)))
  exec-knowing (DoNext loop_no var body exit) can traps = traps
  exec-knowing End can traps = traps
