-- Blocks of IF that are open in a list of statements.
use Rattle.std.specs.Prelude.{◌≡◌, ℕ, ◌+◌, ◌-◌, Bool, true, false, ◌&&◌, nat_lt, ◌==◌, if◌then◌else◌, List, [], ◌∷◌, ◌++◌}
use Rattle.std.specs.List.{list_any}
use Rattle.f77_tree.specs.declared.statements.Labelled.{Labelled}
use Rattle.layout_rules.specs.Labels.{is_arm}
use Rattle.layout_rules.specs.Jumps.{is_block_if, is_end_if}
use Rattle.program_units.specs.Units.{is_end, unit_at}

-- The blocks of IF in these statements, and those that are open before them, so many, end in them, and each ELSE IF, ELSE and
-- END IF stands in a block.
abbrev pub are_closed : (opened : ℕ) → List Labelled → Bool
are_closed opened [] = opened == 0
are_closed opened (s ∷ rest) = if is_block_if s.stmt then are_closed (opened + 1) rest else if is_end_if s.stmt then nat_lt 0 opened && are_closed (opened - 1) rest else if is_arm s.stmt then nat_lt 0 opened && are_closed opened rest else are_closed opened rest

-- the blocks of each unit end in it
abbrev pub AreClosedUnits : List (List Labelled) → Type 0
AreClosedUnits us = (k : ℕ) → are_closed 0 (unit_at us k) ≡ true

-- END stands last, and nowhere else
pub record IsEnded (unit : List Labelled) : Type 0 where
  pub front : List Labelled
  pub last : Labelled
  pub is : unit ≡ front ++ last ∷ []
  pub ended : is_end last.stmt ≡ true
  pub none : list_any (λ s. is_end s.stmt) front ≡ false
