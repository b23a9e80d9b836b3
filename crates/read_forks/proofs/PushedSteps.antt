-- One more row of a step, and the number of that row.
use Rattle.std.proofs.Common.{◌≡◌, ◌<◌, ℕ, zero, suc, List, [], ◌∷◌, ◌++◌, length, map, Some, slice_get, refl, ap, ◌∙◌, arith}
use Rattle.std.proofs.lemmas.List.{map-append}
use Rattle.read_forks.specs.StepRows.{row_at, step_in}
use Rattle.read_forks.specs.declared.steps.Step.{Step}

get_left : (xs ys : List Step) (k : ℕ) → k < length xs → slice_get (xs ++ ys) k ≡ slice_get xs k
get_left [] ys k low = absurd (omega (arith, low))
get_left (x ∷ xs) ys zero low = refl
get_left (x ∷ xs) ys (suc k) low = get_left xs ys k (omega (arith, low))

module _ (rows : List Step) (step : Step) where
  abbrev pub more : List Step
  more = rows ++ step ∷ []

  rows_before : (numbers : List ℕ) → ((k n : ℕ) → slice_get numbers k ≡ Some n → n < length rows) → map (row_at more) numbers ≡ map (row_at rows) numbers
  rows_before [] exist = refl
  rows_before (n ∷ numbers) exist =
      ap (λ (s : Step). s ∷ map (row_at more) numbers) (ap step_in (get_left rows (step ∷ []) n (exist 0 n refl)))
      ∙ ap (λ (ss : List Step). row_at rows n ∷ ss) (rows_before numbers (λ k. exist (suc k)))

last_row : (rows : List Step) (step : Step) → row_at (rows ++ step ∷ []) (length rows) ≡ step
last_row [] step = refl
last_row (row ∷ rows) step = last_row rows step

pub steps_pushed : (rows : List Step) (numbers : List ℕ) (step : Step) (number : ℕ) → ((k n : ℕ) → slice_get numbers k ≡ Some n → n < length rows) → number ≡ length rows → map (row_at (rows ++ step ∷ [])) (numbers ++ number ∷ []) ≡ map (row_at rows) numbers ++ step ∷ []
steps_pushed rows numbers step number exist is =
    map-append (row_at (rows ++ step ∷ [])) numbers (number ∷ [])
    ∙ ap (λ (ss : List Step). ss ++ row_at (rows ++ step ∷ []) number ∷ []) (rows_before rows step numbers exist)
    ∙ ap (λ (s : Step). map (row_at rows) numbers ++ s ∷ []) (ap (row_at (rows ++ step ∷ [])) is ∙ last_row rows step)
