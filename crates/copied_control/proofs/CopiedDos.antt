-- DOs and their copies.
use Rattle.std.proofs.Common.{◌≡◌, ℕ, zero, suc, true, false, Some, refl}
use Rattle.std.proofs.lemmas.Bool.{eqb-true, eq-eqb}
use Rattle.f77_tree.specs.declared.statements.Stmt.{Stmt, more_of-Stmt}
use Rattle.f77_tree.specs.declared.statements.Stmt.TheVariants.{Program, Implicit, ImplicitNone, TypeOf, Dimension, Common, Equivalence, Init, Assign, Print, Take, Continue, Stop, GoTo, PickGoTo, SignIf, ThenIf', BlockIf, ElseIf, Else, EndIf, Do, Sub, CallTo, Back, End}
use Rattle.layout_rules.specs.Executables.{is_do_to}
use Rattle.layout_rules.specs.Labels.{is_executable}
use Rattle.program_units.specs.Units.{Call, call_in}
use Rattle.program_units.specs.Widths.{is_kept}
use Rattle.program_units.specs.Copies.{Change, changed_stmt}
use Rattle.std.proofs.Common.{arith}

-- the DO whose copy this is
pub record IsDoOf (x : Change) (s : Stmt) (m : ℕ) : Type 0 where
  pub label : ℕ
  pub is : is_do_to label s ≡ true
  pub ends : x.end label ≡ m

pub do-of : (x : Change) (s : Stmt) (m : ℕ) → is_do_to m (changed_stmt x s) ≡ true → IsDoOf x s m
unfolding Rattle.f77_tree.specs.declared.statements.Stmt.TheBlock.hidden-the_row-Stmt-0 denote.Hole.Carrier.hidden
do-of x Program m is = let h : false ≡ true = is in absurd cc
do-of x (Implicit a) m is = let h : false ≡ true = is in absurd cc
do-of x ImplicitNone m is = let h : false ≡ true = is in absurd cc
do-of x (TypeOf a b) m is = let h : false ≡ true = is in absurd cc
do-of x (Dimension a) m is = let h : false ≡ true = is in absurd cc
do-of x (Common a) m is = let h : false ≡ true = is in absurd cc
do-of x (Equivalence a) m is = let h : false ≡ true = is in absurd cc
do-of x (Init a) m is = let h : false ≡ true = is in absurd cc
do-of x (Assign a b) m is = let h : false ≡ true = is in absurd cc
do-of x (Print a) m is = let h : false ≡ true = is in absurd cc
do-of x (Take a) m is = let h : false ≡ true = is in absurd cc
do-of x Continue m is = let h : false ≡ true = is in absurd cc
do-of x Stop m is = let h : false ≡ true = is in absurd cc
do-of x (GoTo a) m is = let h : false ≡ true = is in absurd cc
do-of x (PickGoTo a b) m is = let h : false ≡ true = is in absurd cc
do-of x (SignIf a b c d) m is = let h : false ≡ true = is in absurd cc
do-of x (ThenIf' a b (more_of-Stmt c d)) m is = let h : false ≡ true = is in absurd cc
do-of x (BlockIf a) m is = let h : false ≡ true = is in absurd cc
do-of x (ElseIf a) m is = let h : false ≡ true = is in absurd cc
do-of x Else m is = let h : false ≡ true = is in absurd cc
do-of x EndIf m is = let h : false ≡ true = is in absurd cc
do-of x (Do a b c d e) m is = record { label = a; is = eq-eqb a a refl; ends = eqb-true (x.end a) m is }
do-of x (Sub a b) m is = let h : false ≡ true = is in absurd cc
do-of x (CallTo a b) m is = let h : false ≡ true = is in absurd cc
do-of x Back m is = let h : false ≡ true = is in absurd cc
do-of x End m is = let h : false ≡ true = is in absurd cc

pub do-copied : (x : Change) (s : Stmt) (label : ℕ) → is_do_to label s ≡ true → is_do_to (x.end label) (changed_stmt x s) ≡ true
do-copied x h label is = grind (arith, eqb-true, eq-eqb)

left-out-none : (k : ℕ) (s : Stmt) (label : ℕ) → is_kept (suc k) s ≡ false → is_do_to label s ≡ false
left-out-none k h label is = grind arith

pub left-out-no-do : (k : ℕ) (s : Stmt) (label : ℕ) → is_kept k s ≡ false → is_do_to label s ≡ false
left-out-no-do zero s label is = let h : true ≡ false = is in absurd cc
left-out-no-do (suc k) s label is = left-out-none k s label is

pub call-no-do : (s : Stmt) (call : Call) (label : ℕ) → call_in s ≡ Some call → is_do_to label s ≡ false
call-no-do h call label is = grind arith

pub declared-no-do : (s : Stmt) (label : ℕ) → is_executable s ≡ false → is_do_to label s ≡ false
declared-no-do h label is = grind arith
