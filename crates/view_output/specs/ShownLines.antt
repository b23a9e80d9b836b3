-- Which lines of tokens are shown.
use Rattle.std.specs.Prelude.{ℕ, ◌==◌, Bool, true}
use Rattle.std.specs.List.{list_any}
use Rattle.view_output.specs.declared.shown_lines.Lines.{Lines}
use Rattle.view_output.specs.declared.shown_lines.Lines.TheVariants.{All, Only}

abbrev pub is_shown : Lines → (line : ℕ) → Bool
is_shown All line = true
is_shown (Only numbers) line = list_any (λ n. n == line) numbers.items
