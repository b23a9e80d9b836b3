-- Numbers of expressions. No public clause cites this module.
use Rattle.std.specs.Prelude.{◌≡◌, ℕ, ◌<◌, ◌*◌, ◌%◌, ◌^◌, bit_or, List, [], ◌∷◌, ◌++◌, ◌⊎◌, All, Contains, Some, length, slice_get, slice_index_or}
use Rattle.f77_tree.specs.declared.expressions.Expr.{Expr}
use Rattle.redundancy.specs.Digests.{digest}

-- the expression has the number in the new list, which is the old one, or, where it isn't in that, has it one after it
pub record IsNumbered (e : Expr) (old new : List Expr) (k : ℕ) : Type 0 where
  pub at : slice_get new k ≡ Some e
  pub grows : (new ≡ old) ⊎ ((new ≡ old ++ e ∷ []) × (Contains old e → ⊥))

-- each number in a bucket is that of an expression, and the bucket of an expression has its number
pub record IsTable (exprs : List Expr) (buckets : List (List ℕ)) : Type 0 where
  pub some : 0 < length buckets
  pub inside : (b : ℕ) → All (λ k. k < length exprs) (slice_index_or buckets b [])
  pub all : (k : ℕ) (e : Expr) → slice_get exprs k ≡ Some e → Contains (slice_index_or buckets (digest e % length buckets) []) k

-- a word with one bit more
abbrev pub with_bit : (word k : ℕ) → ℕ
with_bit word k = bit_or word (1 * 2 ^ k % 2 ^ 64)
