use Rattle.std.proofs.Common.{◌≡◌, drop, map}
use Rattle.std.specs.List.{list_any}
use Rattle.std.specs.String.{string_bytes}
use Rattle.view_commands.specs.RunWords.{begins_with}
use Rattle.view_commands.proofs.run_words.any_begins.Given as goal

abbrev pub invariant-loop-word : goal.invariant-loop-word
invariant-loop-word l = list_any (begins_with l.prefix) (map string_bytes (drop l.word-index l.words)) ≡ list_any (begins_with l.prefix) (map string_bytes l.words)
