-- Token lines, of which 0 is that of output and each other one is a class.
use Rattle.std.proofs.Common.{zero, suc}
use Rattle.std.specs.Prelude.{ℕ}

-- the line of output, where this holds
abbrev pub OutputLine : Type 0 → (line : ℕ) → Type 0
OutputLine holds zero = holds
OutputLine holds (suc n) = ⊥

-- the line of a class of which this holds
abbrev pub ClassLine : (ℕ → Type 0) → (line : ℕ) → Type 0
ClassLine holds zero = ⊥
ClassLine holds (suc n) = holds (suc n)
