-- Which statements of a subroutine stand in its copies.
use Rattle.std.proofs.Common.{◌≡◌, ℕ, zero, suc, ◌⊎◌, true, false, not, ◌&&◌, ◌==◌, None, inl, inr, refl}
use Rattle.f77_tree.specs.declared.statements.Stmt.{Stmt}
use Rattle.f77_tree.specs.declared.statements.Stmt.TheVariants.{Program, Implicit, ImplicitNone, TypeOf, Dimension, Common, Equivalence, Init, Assign, Print, Take, Continue, Stop, GoTo, PickGoTo, SignIf, ThenIf', BlockIf, ElseIf, Else, EndIf, Do, Sub, CallTo, Back, End}
use Rattle.layout_rules.specs.Labels.{is_executable}
use Rattle.program_units.specs.Units.{call_in, is_end}
use Rattle.program_units.specs.Widths.{is_kept}

kept-copied : (k : ℕ) (s : Stmt) → is_kept (suc k) s ≡ (not (is_end s) && is_executable s)
kept-copied k Program = refl
kept-copied k (Implicit a) = refl
kept-copied k ImplicitNone = refl
kept-copied k (TypeOf a b) = refl
kept-copied k (Dimension a) = refl
kept-copied k (Common a) = refl
kept-copied k (Equivalence a) = refl
kept-copied k (Init a) = refl
kept-copied k (Assign a b) = refl
kept-copied k (Print a) = refl
kept-copied k (Take a) = refl
kept-copied k Continue = refl
kept-copied k Stop = refl
kept-copied k (GoTo a) = refl
kept-copied k (PickGoTo a b) = refl
kept-copied k (SignIf a b c d) = refl
kept-copied k (ThenIf' a b c) = refl
kept-copied k (BlockIf a) = refl
kept-copied k (ElseIf a) = refl
kept-copied k Else = refl
kept-copied k EndIf = refl
kept-copied k (Do a b c d e) = refl
kept-copied k (Sub a b) = refl
kept-copied k (CallTo a b) = refl
kept-copied k Back = refl
kept-copied k End = refl

pub kept-by : (k : ℕ) (s : Stmt) → (k == 0) ≡ false → is_kept k s ≡ (not (is_end s) && is_executable s)
kept-by zero s is = let h : true ≡ false = is in absurd cc
kept-by (suc k) s is = kept-copied k s

kept_copied_or : (k : ℕ) (s : Stmt) → (is_kept (suc k) s ≡ true) ⊎ (call_in s ≡ None)
kept_copied_or k Program = inr refl
kept_copied_or k (Implicit a) = inr refl
kept_copied_or k ImplicitNone = inr refl
kept_copied_or k (TypeOf a b) = inr refl
kept_copied_or k (Dimension a) = inr refl
kept_copied_or k (Common a) = inr refl
kept_copied_or k (Equivalence a) = inr refl
kept_copied_or k (Init a) = inr refl
kept_copied_or k (Assign a b) = inl refl
kept_copied_or k (Print a) = inl refl
kept_copied_or k (Take a) = inl refl
kept_copied_or k Continue = inl refl
kept_copied_or k Stop = inl refl
kept_copied_or k (GoTo a) = inl refl
kept_copied_or k (PickGoTo a b) = inl refl
kept_copied_or k (SignIf a b c d) = inl refl
kept_copied_or k (ThenIf' a b c) = inl refl
kept_copied_or k (BlockIf a) = inl refl
kept_copied_or k (ElseIf a) = inl refl
kept_copied_or k Else = inl refl
kept_copied_or k EndIf = inl refl
kept_copied_or k (Do a b c d e) = inl refl
kept_copied_or k (Sub a b) = inr refl
kept_copied_or k (CallTo a b) = inl refl
kept_copied_or k Back = inl refl
kept_copied_or k End = inr refl

-- each CALL stands in copies
pub kept_or_none : (k : ℕ) (s : Stmt) → (is_kept k s ≡ true) ⊎ (call_in s ≡ None)
kept_or_none zero s = inl refl
kept_or_none (suc k) s = kept_copied_or k s
