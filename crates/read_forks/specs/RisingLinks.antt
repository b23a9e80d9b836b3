-- The links of a node in the order of their lines.
use Rattle.std.specs.Prelude.{◌≡◌, ◌<◌, ◌≤◌, ◌+◌, ℕ, List, Option, Some, None, slice_get}
use Rattle.read_forks.specs.declared.steps.Link.{Link}
use Rattle.read_forks.specs.declared.steps.Step.{Step}

abbrev pub line_in : Option Link → ℕ
line_in None = 0
line_in (Some link) = link.line

-- the line of the link with this number
abbrev pub line_at : List Link → (n : ℕ) → ℕ
line_at links n = line_in (slice_get links n)

-- the lines of the links of a node rise
abbrev pub AreRising : List Link → Step → Type 0
AreRising links step = (i j : ℕ) → i < j → j < step.count → line_at links (step.first + i) < line_at links (step.first + j)

-- one of these links is for the line
pub record HasLine (links : List Link) (line low high : ℕ) : Type 0 where
  pub place : ℕ
  pub from : low ≤ place
  pub below : place < high
  pub is : line_at links place ≡ line
