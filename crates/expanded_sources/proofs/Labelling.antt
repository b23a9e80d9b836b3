-- The labels that a copy's statements name.
use Rattle.std.proofs.Common.{ℕ}
use Rattle.layout_rules.specs.Labels.{IsLabel}
use Rattle.program_units.specs.Copies.{Change}

-- whatever label is changed, the new one is a label
pub record HasLabels (c : Change) : Type 0 where
  pub jump : (l : ℕ) → IsLabel (c.jump l)
  pub end : (l : ℕ) → IsLabel (c.end l)
  pub back : IsLabel c.back
