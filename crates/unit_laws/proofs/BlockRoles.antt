-- The part that statements play in blocks of IF, and whether they do something, is the same in a copy.
use Rattle.std.proofs.Common.{◌≡◌, ℕ, zero, suc, true, false, Some, None, refl}
use Rattle.f77_tree.specs.declared.statements.Stmt.{Stmt, more_of-Stmt}
use Rattle.f77_tree.specs.declared.statements.Stmt.TheVariants.{Program, Implicit, ImplicitNone, TypeOf, Dimension, Common, Equivalence, Init, Assign, Print, Take, Continue, Stop, GoTo, PickGoTo, SignIf, ThenIf', BlockIf, ElseIf, Else, EndIf, Do, Sub, CallTo, Back, End}
use Rattle.layout_rules.specs.Labels.{is_executable, is_arm}
use Rattle.layout_rules.specs.Jumps.{is_block_if, is_end_if}
use Rattle.program_units.specs.Units.{Call, call_in, is_end}
use Rattle.program_units.specs.Widths.{is_kept}
use Rattle.program_units.specs.Copies.{Change, changed_stmt}

-- the tests that tell how blocks go on
pub record Alike (s t : Stmt) : Type 0 where
  pub begins : is_block_if s ≡ is_block_if t
  pub ends : is_end_if s ≡ is_end_if t
  pub arm : is_arm s ≡ is_arm t
  pub does : is_executable s ≡ is_executable t

-- a statement that leaves the blocks as they are
pub record IsNeutral (s : Stmt) : Type 0 where
  pub begins : is_block_if s ≡ false
  pub ends : is_end_if s ≡ false
  pub arm : is_arm s ≡ false

pub changed-alike : (x : Change) (s : Stmt) → Alike (changed_stmt x s) s
unfolding Rattle.f77_tree.specs.declared.statements.Stmt.TheBlock.hidden-the_row-Stmt-0 denote.Hole.Carrier.hidden
changed-alike x Program = record { begins = refl; ends = refl; arm = refl; does = refl }
changed-alike x (Implicit a) = record { begins = refl; ends = refl; arm = refl; does = refl }
changed-alike x ImplicitNone = record { begins = refl; ends = refl; arm = refl; does = refl }
changed-alike x (TypeOf a b) = record { begins = refl; ends = refl; arm = refl; does = refl }
changed-alike x (Dimension a) = record { begins = refl; ends = refl; arm = refl; does = refl }
changed-alike x (Common a) = record { begins = refl; ends = refl; arm = refl; does = refl }
changed-alike x (Equivalence a) = record { begins = refl; ends = refl; arm = refl; does = refl }
changed-alike x (Init a) = record { begins = refl; ends = refl; arm = refl; does = refl }
changed-alike x (Assign a b) = record { begins = refl; ends = refl; arm = refl; does = refl }
changed-alike x (Print a) = record { begins = refl; ends = refl; arm = refl; does = refl }
changed-alike x (Take a) = record { begins = refl; ends = refl; arm = refl; does = refl }
changed-alike x Continue = record { begins = refl; ends = refl; arm = refl; does = refl }
changed-alike x Stop = record { begins = refl; ends = refl; arm = refl; does = refl }
changed-alike x (GoTo a) = record { begins = refl; ends = refl; arm = refl; does = refl }
changed-alike x (PickGoTo a b) = record { begins = refl; ends = refl; arm = refl; does = refl }
changed-alike x (SignIf a b c d) = record { begins = refl; ends = refl; arm = refl; does = refl }
changed-alike x (ThenIf' a b (more_of-Stmt c d)) = record { begins = refl; ends = refl; arm = refl; does = refl }
changed-alike x (BlockIf a) = record { begins = refl; ends = refl; arm = refl; does = refl }
changed-alike x (ElseIf a) = record { begins = refl; ends = refl; arm = refl; does = refl }
changed-alike x Else = record { begins = refl; ends = refl; arm = refl; does = refl }
changed-alike x EndIf = record { begins = refl; ends = refl; arm = refl; does = refl }
changed-alike x (Do a b c d e) = record { begins = refl; ends = refl; arm = refl; does = refl }
changed-alike x (Sub a b) = record { begins = refl; ends = refl; arm = refl; does = refl }
changed-alike x (CallTo a b) = record { begins = refl; ends = refl; arm = refl; does = refl }
changed-alike x Back = record { begins = refl; ends = refl; arm = refl; does = refl }
changed-alike x End = record { begins = refl; ends = refl; arm = refl; does = refl }

pub does_nothing : (s : Stmt) → is_executable s ≡ false → IsNeutral s
does_nothing Program is = record { begins = refl; ends = refl; arm = refl }
does_nothing (Implicit a) is = record { begins = refl; ends = refl; arm = refl }
does_nothing ImplicitNone is = record { begins = refl; ends = refl; arm = refl }
does_nothing (TypeOf a b) is = record { begins = refl; ends = refl; arm = refl }
does_nothing (Dimension a) is = record { begins = refl; ends = refl; arm = refl }
does_nothing (Common a) is = record { begins = refl; ends = refl; arm = refl }
does_nothing (Equivalence a) is = record { begins = refl; ends = refl; arm = refl }
does_nothing (Init a) is = record { begins = refl; ends = refl; arm = refl }
does_nothing (Assign a b) is = let e : true ≡ false = is in absurd cc
does_nothing (Print a) is = let e : true ≡ false = is in absurd cc
does_nothing (Take a) is = let e : true ≡ false = is in absurd cc
does_nothing Continue is = let e : true ≡ false = is in absurd cc
does_nothing Stop is = let e : true ≡ false = is in absurd cc
does_nothing (GoTo a) is = let e : true ≡ false = is in absurd cc
does_nothing (PickGoTo a b) is = let e : true ≡ false = is in absurd cc
does_nothing (SignIf a b c d) is = let e : true ≡ false = is in absurd cc
does_nothing (ThenIf' a b c) is = let e : true ≡ false = is in absurd cc
does_nothing (BlockIf a) is = let e : true ≡ false = is in absurd cc
does_nothing (ElseIf a) is = let e : true ≡ false = is in absurd cc
does_nothing Else is = let e : true ≡ false = is in absurd cc
does_nothing EndIf is = let e : true ≡ false = is in absurd cc
does_nothing (Do a b c d e) is = let e : true ≡ false = is in absurd cc
does_nothing (Sub a b) is = record { begins = refl; ends = refl; arm = refl }
does_nothing (CallTo a b) is = let e : true ≡ false = is in absurd cc
does_nothing Back is = let e : true ≡ false = is in absurd cc
does_nothing End is = let e : true ≡ false = is in absurd cc

unkept : (k : ℕ) (s : Stmt) → is_kept (suc k) s ≡ false → IsNeutral s
unkept k Program is = record { begins = refl; ends = refl; arm = refl }
unkept k (Implicit a) is = record { begins = refl; ends = refl; arm = refl }
unkept k ImplicitNone is = record { begins = refl; ends = refl; arm = refl }
unkept k (TypeOf a b) is = record { begins = refl; ends = refl; arm = refl }
unkept k (Dimension a) is = record { begins = refl; ends = refl; arm = refl }
unkept k (Common a) is = record { begins = refl; ends = refl; arm = refl }
unkept k (Equivalence a) is = record { begins = refl; ends = refl; arm = refl }
unkept k (Init a) is = record { begins = refl; ends = refl; arm = refl }
unkept k (Assign a b) is = let e : true ≡ false = is in absurd cc
unkept k (Print a) is = let e : true ≡ false = is in absurd cc
unkept k (Take a) is = let e : true ≡ false = is in absurd cc
unkept k Continue is = let e : true ≡ false = is in absurd cc
unkept k Stop is = let e : true ≡ false = is in absurd cc
unkept k (GoTo a) is = let e : true ≡ false = is in absurd cc
unkept k (PickGoTo a b) is = let e : true ≡ false = is in absurd cc
unkept k (SignIf a b c d) is = let e : true ≡ false = is in absurd cc
unkept k (ThenIf' a b c) is = let e : true ≡ false = is in absurd cc
unkept k (BlockIf a) is = let e : true ≡ false = is in absurd cc
unkept k (ElseIf a) is = let e : true ≡ false = is in absurd cc
unkept k Else is = let e : true ≡ false = is in absurd cc
unkept k EndIf is = let e : true ≡ false = is in absurd cc
unkept k (Do a b c d e) is = let e : true ≡ false = is in absurd cc
unkept k (Sub a b) is = record { begins = refl; ends = refl; arm = refl }
unkept k (CallTo a b) is = let e : true ≡ false = is in absurd cc
unkept k Back is = let e : true ≡ false = is in absurd cc
unkept k End is = record { begins = refl; ends = refl; arm = refl }

pub unkept_neutral : (k : ℕ) (s : Stmt) → is_kept k s ≡ false → IsNeutral s
unkept_neutral zero s is = let e : true ≡ false = is in absurd cc
unkept_neutral (suc k) s is = unkept k s is

-- a statement that isn't kept and does something is END
unkept_end : (k : ℕ) (s : Stmt) → is_kept (suc k) s ≡ false → is_executable s ≡ true → is_end s ≡ true
unkept_end k Program is does = let e : false ≡ true = does in absurd cc
unkept_end k (Implicit a) is does = let e : false ≡ true = does in absurd cc
unkept_end k ImplicitNone is does = let e : false ≡ true = does in absurd cc
unkept_end k (TypeOf a b) is does = let e : false ≡ true = does in absurd cc
unkept_end k (Dimension a) is does = let e : false ≡ true = does in absurd cc
unkept_end k (Common a) is does = let e : false ≡ true = does in absurd cc
unkept_end k (Equivalence a) is does = let e : false ≡ true = does in absurd cc
unkept_end k (Init a) is does = let e : false ≡ true = does in absurd cc
unkept_end k (Assign a b) is does = let e : true ≡ false = is in absurd cc
unkept_end k (Print a) is does = let e : true ≡ false = is in absurd cc
unkept_end k (Take a) is does = let e : true ≡ false = is in absurd cc
unkept_end k Continue is does = let e : true ≡ false = is in absurd cc
unkept_end k Stop is does = let e : true ≡ false = is in absurd cc
unkept_end k (GoTo a) is does = let e : true ≡ false = is in absurd cc
unkept_end k (PickGoTo a b) is does = let e : true ≡ false = is in absurd cc
unkept_end k (SignIf a b c d) is does = let e : true ≡ false = is in absurd cc
unkept_end k (ThenIf' a b c) is does = let e : true ≡ false = is in absurd cc
unkept_end k (BlockIf a) is does = let e : true ≡ false = is in absurd cc
unkept_end k (ElseIf a) is does = let e : true ≡ false = is in absurd cc
unkept_end k Else is does = let e : true ≡ false = is in absurd cc
unkept_end k EndIf is does = let e : true ≡ false = is in absurd cc
unkept_end k (Do a b c d e) is does = let e : true ≡ false = is in absurd cc
unkept_end k (Sub a b) is does = let e : false ≡ true = does in absurd cc
unkept_end k (CallTo a b) is does = let e : true ≡ false = is in absurd cc
unkept_end k Back is does = let e : true ≡ false = is in absurd cc
unkept_end k End is does = refl

pub unkept_is_end : (k : ℕ) (s : Stmt) → is_kept k s ≡ false → is_executable s ≡ true → is_end s ≡ true
unkept_is_end zero s is does = let e : true ≡ false = is in absurd cc
unkept_is_end (suc k) s is does = unkept_end k s is does

pub record IsCalling (s : Stmt) : Type 0 where
  pub neutral : IsNeutral s
  pub does : is_executable s ≡ true

pub call_neutral : (s : Stmt) (call : Call) → call_in s ≡ Some call → IsCalling s
call_neutral Program call is = let e : None ≡ Some call = is in absurd cc
call_neutral (Implicit a) call is = let e : None ≡ Some call = is in absurd cc
call_neutral ImplicitNone call is = let e : None ≡ Some call = is in absurd cc
call_neutral (TypeOf a b) call is = let e : None ≡ Some call = is in absurd cc
call_neutral (Dimension a) call is = let e : None ≡ Some call = is in absurd cc
call_neutral (Common a) call is = let e : None ≡ Some call = is in absurd cc
call_neutral (Equivalence a) call is = let e : None ≡ Some call = is in absurd cc
call_neutral (Init a) call is = let e : None ≡ Some call = is in absurd cc
call_neutral (Assign a b) call is = let e : None ≡ Some call = is in absurd cc
call_neutral (Print a) call is = let e : None ≡ Some call = is in absurd cc
call_neutral (Take a) call is = let e : None ≡ Some call = is in absurd cc
call_neutral Continue call is = let e : None ≡ Some call = is in absurd cc
call_neutral Stop call is = let e : None ≡ Some call = is in absurd cc
call_neutral (GoTo a) call is = let e : None ≡ Some call = is in absurd cc
call_neutral (PickGoTo a b) call is = let e : None ≡ Some call = is in absurd cc
call_neutral (SignIf a b c d) call is = let e : None ≡ Some call = is in absurd cc
call_neutral (ThenIf' a b c) call is = record { neutral = record { begins = refl; ends = refl; arm = refl }; does = refl }
call_neutral (BlockIf a) call is = let e : None ≡ Some call = is in absurd cc
call_neutral (ElseIf a) call is = let e : None ≡ Some call = is in absurd cc
call_neutral Else call is = let e : None ≡ Some call = is in absurd cc
call_neutral EndIf call is = let e : None ≡ Some call = is in absurd cc
call_neutral (Do a b c d e) call is = let e : None ≡ Some call = is in absurd cc
call_neutral (Sub a b) call is = let e : None ≡ Some call = is in absurd cc
call_neutral (CallTo a b) call is = record { neutral = record { begins = refl; ends = refl; arm = refl }; does = refl }
call_neutral Back call is = let e : None ≡ Some call = is in absurd cc
call_neutral End call is = let e : None ≡ Some call = is in absurd cc

-- no ELSE IF or ELSE is END IF
pub arm-no-end : (s : Stmt) → is_block_if s ≡ false → is_arm s ≡ true → is_end_if s ≡ false
arm-no-end Program begins arm = refl
arm-no-end (Implicit a) begins arm = refl
arm-no-end ImplicitNone begins arm = refl
arm-no-end (TypeOf a b) begins arm = refl
arm-no-end (Dimension a) begins arm = refl
arm-no-end (Common a) begins arm = refl
arm-no-end (Equivalence a) begins arm = refl
arm-no-end (Init a) begins arm = refl
arm-no-end (Assign a b) begins arm = refl
arm-no-end (Print a) begins arm = refl
arm-no-end (Take a) begins arm = refl
arm-no-end Continue begins arm = refl
arm-no-end Stop begins arm = refl
arm-no-end (GoTo a) begins arm = refl
arm-no-end (PickGoTo a b) begins arm = refl
arm-no-end (SignIf a b c d) begins arm = refl
arm-no-end (ThenIf' a b c) begins arm = refl
arm-no-end (BlockIf a) begins arm = refl
arm-no-end (ElseIf a) begins arm = refl
arm-no-end Else begins arm = refl
arm-no-end EndIf begins arm = let e : false ≡ true = arm in absurd cc
arm-no-end (Do a b c d e) begins arm = refl
arm-no-end (Sub a b) begins arm = refl
arm-no-end (CallTo a b) begins arm = refl
arm-no-end Back begins arm = refl
arm-no-end End begins arm = refl

-- where a statement is left out, END is
pub unkept_end_kept : (k : ℕ) (s : Stmt) → is_kept k s ≡ false → is_kept k End ≡ false
unkept_end_kept zero s is = is
unkept_end_kept (suc k) s is = refl

pub end-no-arm : (s : Stmt) → is_end s ≡ true → is_arm s ≡ false
end-no-arm Program ended = refl
end-no-arm (Implicit a) ended = refl
end-no-arm ImplicitNone ended = refl
end-no-arm (TypeOf a b) ended = refl
end-no-arm (Dimension a) ended = refl
end-no-arm (Common a) ended = refl
end-no-arm (Equivalence a) ended = refl
end-no-arm (Init a) ended = refl
end-no-arm (Assign a b) ended = refl
end-no-arm (Print a) ended = refl
end-no-arm (Take a) ended = refl
end-no-arm Continue ended = refl
end-no-arm Stop ended = refl
end-no-arm (GoTo a) ended = refl
end-no-arm (PickGoTo a b) ended = refl
end-no-arm (SignIf a b c d) ended = refl
end-no-arm (ThenIf' a b c) ended = refl
end-no-arm (BlockIf a) ended = refl
end-no-arm (ElseIf a) ended = let e : false ≡ true = ended in absurd cc
end-no-arm Else ended = let e : false ≡ true = ended in absurd cc
end-no-arm EndIf ended = refl
end-no-arm (Do a b c d e) ended = refl
end-no-arm (Sub a b) ended = refl
end-no-arm (CallTo a b) ended = refl
end-no-arm Back ended = refl
end-no-arm End ended = refl

pub end-does : (s : Stmt) → is_end s ≡ true → is_executable s ≡ true
end-does Program ended = let e : false ≡ true = ended in absurd cc
end-does (Implicit a) ended = let e : false ≡ true = ended in absurd cc
end-does ImplicitNone ended = let e : false ≡ true = ended in absurd cc
end-does (TypeOf a b) ended = let e : false ≡ true = ended in absurd cc
end-does (Dimension a) ended = let e : false ≡ true = ended in absurd cc
end-does (Common a) ended = let e : false ≡ true = ended in absurd cc
end-does (Equivalence a) ended = let e : false ≡ true = ended in absurd cc
end-does (Init a) ended = let e : false ≡ true = ended in absurd cc
end-does (Assign a b) ended = refl
end-does (Print a) ended = refl
end-does (Take a) ended = refl
end-does Continue ended = refl
end-does Stop ended = refl
end-does (GoTo a) ended = refl
end-does (PickGoTo a b) ended = refl
end-does (SignIf a b c d) ended = refl
end-does (ThenIf' a b c) ended = refl
end-does (BlockIf a) ended = refl
end-does (ElseIf a) ended = refl
end-does Else ended = refl
end-does EndIf ended = refl
end-does (Do a b c d e) ended = refl
end-does (Sub a b) ended = let e : false ≡ true = ended in absurd cc
end-does (CallTo a b) ended = refl
end-does Back ended = refl
end-does End ended = refl
