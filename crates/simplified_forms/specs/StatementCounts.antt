-- How many statements executables become. No public clause cites this module.
use Rattle.std.specs.Prelude.{ℕ, Option, Some, None}
use Rattle.f77_tree.specs.declared.programs.ExecKind.{ExecKind}
use Rattle.f77_tree.specs.declared.programs.ExecKind.TheVariants.{Assign, Print, Pass, Test, Sign, Pick, DoStart, DoNext, End}

-- how many statements are left of an executable itself, where its decision is told
abbrev pub left_count : ExecKind → (decided : Option ℕ) → ℕ
left_count (Assign target value next) decided = 1
left_count (Print items next) decided = 1
left_count (Pass next) decided = 0
left_count (Test cond if_true if_false) None = 1
left_count (Test cond if_true if_false) (Some i) = 0
left_count (Sign value below at above) None = 1
left_count (Sign value below at above) (Some i) = 0
left_count (Pick value targets other) None = 1
left_count (Pick value targets other) (Some i) = 0
left_count (DoStart loop_no var first last step body exit) decided = 1
left_count (DoNext loop_no var body exit) decided = 0
left_count End decided = 1
