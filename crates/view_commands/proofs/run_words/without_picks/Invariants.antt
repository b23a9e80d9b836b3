use Rattle.std.proofs.Common.{◌≡◌, ◌++◌, drop, map}
use Rattle.std.specs.String.{string_bytes}
use Rattle.view_commands.specs.RunWords.{picks_left_out}
use Rattle.view_commands.proofs.run_words.without_picks.Given as goal

abbrev pub invariant-loop-word : goal.invariant-loop-word
invariant-loop-word l = map string_bytes l.all.items ++ picks_left_out (map string_bytes (drop l.word-index l.words)) ≡ picks_left_out (map string_bytes l.words)
