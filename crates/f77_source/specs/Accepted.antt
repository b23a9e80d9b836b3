-- The statements of an accepted text in fixed form.
use Rattle.std.specs.Prelude.{◌≡◌, ℕ, ◌+◌, ◌≤◌, true, List, [], ◌∷◌}
use Rattle.fixed_form.specs.declared.raw_stmt.RawStmt.{RawStmt}
use Rattle.fixed_form.specs.Statement.{ends_with_end}

-- each line is at least n, and above the one before it
abbrev pub RiseFrom : ℕ → List RawStmt → Type 0
RiseFrom n [] = Unit {0}
RiseFrom n (s ∷ rest) = (n ≤ s.line) × RiseFrom (s.line + 1) rest

-- the last one is END, and their lines rise
pub record IsAccepted (raws : List RawStmt) : Type 0 where
  pub ended : ends_with_end raws ≡ true
  pub rise : RiseFrom 1 raws
