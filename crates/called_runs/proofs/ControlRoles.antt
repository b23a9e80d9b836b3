-- What stands in for a statement, and its copy, play the same part in control as the statement.
use Rattle.std.proofs.Common.{◌≡◌, ℕ, ◌+◌, refl, ap}
use Rattle.std.proofs.lemmas.List.{length-map}
use Rattle.f77_tree.specs.declared.statements.Stmt.{Stmt, more_of-Stmt}
use Rattle.f77_tree.specs.declared.statements.Stmt.TheVariants.{Program, Implicit, ImplicitNone, TypeOf, Dimension, Common, Equivalence, Init, Assign, Print, Take, Continue, Stop, GoTo, PickGoTo, SignIf, ThenIf', BlockIf, ElseIf, Else, EndIf, Do, Sub, CallTo, Back, End}
use Rattle.layout_rules.specs.Executables.{is_do, is_do_to, own_executables}
use Rattle.layout_rules.specs.Jumps.{is_block_if, is_end_if}
use Rattle.layout_rules.specs.Labels.{is_arm, is_executable}
use Rattle.program_units.specs.Copies.{Change, changed, changed_stmt}
use Rattle.program_units.specs.Units.{stand_in, stand_in_alone}

-- the tests that tell how control goes on
pub record SameRole (s t : Stmt) : Type 0 where
  pub own : own_executables s ≡ own_executables t
  pub begins_loop : is_do s ≡ is_do t
  pub ends_at : (label : ℕ) → is_do_to label s ≡ is_do_to label t
  pub begins : is_block_if s ≡ is_block_if t
  pub ends : is_end_if s ≡ is_end_if t
  pub arm : is_arm s ≡ is_arm t
  pub does : is_executable s ≡ is_executable t

own-alone : (s : Stmt) → own_executables (stand_in_alone s) ≡ own_executables s
own-alone Program = refl
own-alone (Implicit a) = refl
own-alone ImplicitNone = refl
own-alone (TypeOf a b) = refl
own-alone (Dimension a) = refl
own-alone (Common a) = refl
own-alone (Equivalence a) = refl
own-alone (Init a) = refl
own-alone (Assign a b) = refl
own-alone (Print a) = refl
own-alone (Take a) = refl
own-alone Continue = refl
own-alone Stop = refl
own-alone (GoTo a) = refl
own-alone (PickGoTo a b) = refl
own-alone (SignIf a b c d) = refl
own-alone (ThenIf' a b c) = refl
own-alone (BlockIf a) = refl
own-alone (ElseIf a) = refl
own-alone Else = refl
own-alone EndIf = refl
own-alone (Do a b c d e) = refl
own-alone (Sub a b) = refl
own-alone (CallTo a b) = refl
own-alone Back = refl
own-alone End = refl

pub stand-role : (s : Stmt) → SameRole (stand_in s) s
unfolding Rattle.f77_tree.specs.declared.statements.Stmt.TheBlock.hidden-the_row-Stmt-0 denote.Hole.Carrier.hidden
stand-role Program = record { own = refl; begins_loop = refl; ends_at = λ label. refl; begins = refl; ends = refl; arm = refl; does = refl }
stand-role (Implicit a) = record { own = refl; begins_loop = refl; ends_at = λ label. refl; begins = refl; ends = refl; arm = refl; does = refl }
stand-role ImplicitNone = record { own = refl; begins_loop = refl; ends_at = λ label. refl; begins = refl; ends = refl; arm = refl; does = refl }
stand-role (TypeOf a b) = record { own = refl; begins_loop = refl; ends_at = λ label. refl; begins = refl; ends = refl; arm = refl; does = refl }
stand-role (Dimension a) = record { own = refl; begins_loop = refl; ends_at = λ label. refl; begins = refl; ends = refl; arm = refl; does = refl }
stand-role (Common a) = record { own = refl; begins_loop = refl; ends_at = λ label. refl; begins = refl; ends = refl; arm = refl; does = refl }
stand-role (Equivalence a) = record { own = refl; begins_loop = refl; ends_at = λ label. refl; begins = refl; ends = refl; arm = refl; does = refl }
stand-role (Init a) = record { own = refl; begins_loop = refl; ends_at = λ label. refl; begins = refl; ends = refl; arm = refl; does = refl }
stand-role (Assign a b) = record { own = refl; begins_loop = refl; ends_at = λ label. refl; begins = refl; ends = refl; arm = refl; does = refl }
stand-role (Print a) = record { own = refl; begins_loop = refl; ends_at = λ label. refl; begins = refl; ends = refl; arm = refl; does = refl }
stand-role (Take a) = record { own = refl; begins_loop = refl; ends_at = λ label. refl; begins = refl; ends = refl; arm = refl; does = refl }
stand-role Continue = record { own = refl; begins_loop = refl; ends_at = λ label. refl; begins = refl; ends = refl; arm = refl; does = refl }
stand-role Stop = record { own = refl; begins_loop = refl; ends_at = λ label. refl; begins = refl; ends = refl; arm = refl; does = refl }
stand-role (GoTo a) = record { own = refl; begins_loop = refl; ends_at = λ label. refl; begins = refl; ends = refl; arm = refl; does = refl }
stand-role (PickGoTo a b) = record { own = refl; begins_loop = refl; ends_at = λ label. refl; begins = refl; ends = refl; arm = refl; does = refl }
stand-role (SignIf a b c d) = record { own = refl; begins_loop = refl; ends_at = λ label. refl; begins = refl; ends = refl; arm = refl; does = refl }
stand-role (ThenIf' a b (more_of-Stmt c d)) = record { own = ap (λ (n : ℕ). 1 + n) (own-alone c); begins_loop = refl; ends_at = λ label. refl; begins = refl; ends = refl; arm = refl; does = refl }
stand-role (BlockIf a) = record { own = refl; begins_loop = refl; ends_at = λ label. refl; begins = refl; ends = refl; arm = refl; does = refl }
stand-role (ElseIf a) = record { own = refl; begins_loop = refl; ends_at = λ label. refl; begins = refl; ends = refl; arm = refl; does = refl }
stand-role Else = record { own = refl; begins_loop = refl; ends_at = λ label. refl; begins = refl; ends = refl; arm = refl; does = refl }
stand-role EndIf = record { own = refl; begins_loop = refl; ends_at = λ label. refl; begins = refl; ends = refl; arm = refl; does = refl }
stand-role (Do a b c d e) = record { own = refl; begins_loop = refl; ends_at = λ label. refl; begins = refl; ends = refl; arm = refl; does = refl }
stand-role (Sub a b) = record { own = refl; begins_loop = refl; ends_at = λ label. refl; begins = refl; ends = refl; arm = refl; does = refl }
stand-role (CallTo a b) = record { own = refl; begins_loop = refl; ends_at = λ label. refl; begins = refl; ends = refl; arm = refl; does = refl }
stand-role Back = record { own = refl; begins_loop = refl; ends_at = λ label. refl; begins = refl; ends = refl; arm = refl; does = refl }
stand-role End = record { own = refl; begins_loop = refl; ends_at = λ label. refl; begins = refl; ends = refl; arm = refl; does = refl }

pub own-changed : (x : Change) (s : Stmt) → own_executables (changed_stmt x s) ≡ own_executables s
unfolding Rattle.f77_tree.specs.declared.statements.Stmt.TheBlock.hidden-the_row-Stmt-0 denote.Hole.Carrier.hidden
own-changed x Program = refl
own-changed x (Implicit a) = refl
own-changed x ImplicitNone = refl
own-changed x (TypeOf a b) = refl
own-changed x (Dimension a) = refl
own-changed x (Common a) = refl
own-changed x (Equivalence a) = refl
own-changed x (Init a) = refl
own-changed x (Assign a b) = refl
own-changed x (Print a) = refl
own-changed x (Take a) = length-map a (changed x)
own-changed x Continue = refl
own-changed x Stop = refl
own-changed x (GoTo a) = refl
own-changed x (PickGoTo a b) = refl
own-changed x (SignIf a b c d) = refl
own-changed x (ThenIf' a b (more_of-Stmt c d)) = ap (λ (n : ℕ). 1 + n) (own-changed x c)
own-changed x (BlockIf a) = refl
own-changed x (ElseIf a) = refl
own-changed x Else = refl
own-changed x EndIf = refl
own-changed x (Do a b c d e) = refl
own-changed x (Sub a b) = refl
own-changed x (CallTo a b) = refl
own-changed x Back = refl
own-changed x End = refl
