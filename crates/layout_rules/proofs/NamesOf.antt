-- The names of statements of several parts.
use Rattle.std.proofs.Common.{◌≡◌, ℕ, Bool, List, ◌∷◌, ◌++◌, refl, ap, sym, ◌∙◌, fold}
use Rattle.std.proofs.lemmas.List.Sums.{fold-append}
use Rattle.f77_tree.specs.declared.statements.RawExpr.{RawExpr}
use Rattle.f77_tree.specs.declared.statements.Stmt.{Stmt}
use Rattle.f77_tree.specs.declared.statements.Stmt.TheVariants.{ThenIf}
use Rattle.layout_rules.specs.Appearances.{appearing, names_in}

-- a condition and the statement after it
pub appearing-ThenIf : (arrays : List ℕ → Bool) (condition : RawExpr) (stmt : Stmt) → appearing arrays (ThenIf condition stmt) ≡ names_in arrays condition ++ appearing arrays stmt
unfolding Rattle.f77_tree.specs.declared.statements.Stmt.TheBlock.hidden-the_row-Stmt-0 denote.Hole.Carrier.hidden
appearing-ThenIf arrays condition stmt = refl

module _ {A S : Type 0} (note : S → A → S) where
  pub noted_two : (start middle : S) (xs ys : List A) → middle ≡ fold note start xs → fold note middle ys ≡ fold note start (xs ++ ys)
  noted_two start middle xs ys is = ap (λ s. fold note s ys) is ∙ sym (fold-append note start xs ys)

  -- one, and then those of three parts
  pub noted_loop : (start first second third : S) (x : A) (xs ys zs : List A) → first ≡ note start x → second ≡ fold note first xs → third ≡ fold note second ys → fold note third zs ≡ fold note start (x ∷ (xs ++ ys ++ zs))
  noted_loop start first second third x xs ys zs is_first is_second is_third =
      ap (λ s. fold note s zs) (is_third ∙ noted_two first second xs ys is_second)
      ∙ sym (fold-append note first (xs ++ ys) zs)
      ∙ ap (λ s. fold note s (xs ++ ys ++ zs)) is_first
