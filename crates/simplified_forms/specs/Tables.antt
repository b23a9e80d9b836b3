-- Tables of the first values of functions. No public clause cites this module.
use Rattle.std.specs.Prelude.{◌≡◌, ℕ, ◌<◌, Bool, false, List, length, slice_index, slice_index_or}

-- the first n values of a function
pub record IsTable (f : ℕ → ℕ) (n : ℕ) (table : List ℕ) : Type 0 where
  pub size : length table ≡ n
  pub entry : (k : ℕ) → k < n → slice_index table k ≡ f k

-- the first n answers of a test
pub record AreAnswers (f : ℕ → Bool) (n : ℕ) (table : List Bool) : Type 0 where
  pub size : length table ≡ n
  pub entry : (k : ℕ) → k < n → slice_index_or table k false ≡ f k
