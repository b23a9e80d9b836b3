-- Digests of expressions. No public clause cites this module.
use Rattle.std.specs.Prelude.{ℕ, ◌+◌, ◌*◌, ◌%◌, ◌^◌, List, fold, unsigned_abs}
use Rattle.f77_tree.specs.declared.expressions.Expr.{Expr, Row_of-Expr, end_of-Expr, more_of-Expr}
use Rattle.f77_tree.specs.declared.expressions.Expr.TheVariants.{Const, Truth, Input, Read', Apply'}

-- a digest with one number more
unfoldable pub mixed : ℕ → ℕ → ℕ
mixed all next = (all * 11400714819323198485 % 2 ^ 64 + next) % 2 ^ 64

abbrev mutual
  pub digest : Expr → ℕ
  digest (Const z) = unsigned_abs z
  digest (Truth b) = 1
  digest Input = 2
  digest (Read' name shape subs) = mixed (row_digest 3 subs) name
  digest (Apply' op shape args) = row_digest 3 args

  pub row_digest : {m : _} → ℕ → Row_of-Expr m → ℕ
  row_digest all end_of-Expr = all
  row_digest all (more_of-Expr e rest) = row_digest (mixed all (digest e)) rest

abbrev pub digest_of_all : List Expr → ℕ
digest_of_all es = fold (λ all e. mixed all (digest e)) 3 es
