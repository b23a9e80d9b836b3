-- A program has at most one rewritten form in a dialect, and passes at most one limit, and never has both.
use Rattle.std.specs.Prelude.{◌≡◌, Bool}
use Rattle.f77_tree.specs.declared.programs.Program.{Program}
use Rattle.f77_tree.specs.WellFormed.{IsWellFormed}
use Rattle.shared_forms.specs.declared.ends.RewriteEnd.{RewriteEnd}
use Rattle.rewriting.specs.Rewritten.{IsRewritten, IsSimplifiedOf, PassesLimit}

-- two simplified forms of a program are the same
abbrev pub OneSimplifiedForm : Type 0
OneSimplifiedForm = (p : Program) (checked : Bool) (q other : Program)
    → IsWellFormed p → IsSimplifiedOf p checked q → IsSimplifiedOf p checked other → q ≡ other

-- so are two rewritten forms
abbrev pub OneRewrittenForm : Type 0
OneRewrittenForm = (p : Program) (checked : Bool) (s other : Program)
    → IsWellFormed p → IsRewritten p checked s → IsRewritten p checked other → s ≡ other

-- a program with a rewritten form passes no limit
abbrev pub RewrittenPassesNoLimit : Type 0
RewrittenPassesNoLimit = (p : Program) (checked : Bool) (s : Program) (end : RewriteEnd)
    → IsWellFormed p → IsRewritten p checked s → PassesLimit p checked end → ⊥

-- two limits that a program passes are the same
abbrev pub OneLimit : Type 0
OneLimit = (p : Program) (checked : Bool) (end other : RewriteEnd)
    → IsWellFormed p → PassesLimit p checked end → PassesLimit p checked other → end ≡ other
