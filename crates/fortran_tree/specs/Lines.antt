-- The lines of statements that are printed.
use Rattle.std.specs.Prelude.{◌≡◌, ◌-◌, List, ◌++◌, length, replicate}
use Rattle.fortran_tree.specs.declared.error.Place.{Place}

-- places, and behind them this one some times more
abbrev pub AreMore : Place → List Place → List Place → Type 0
AreMore place old new = new ≡ old ++ replicate (length new - length old) place
