use Rattle.std.proofs.Common.{◌≡◌, drop, map}
use Rattle.std.specs.String.{string_bytes}
use Rattle.dfc_c.specs.Words.{words_in}
use Rattle.dfc_c.proofs.WordLists.{with_rest}
use Rattle.dfc_c.proofs.words.words_of.Given as goal

abbrev pub invariant-loop-c : goal.invariant-loop-c
invariant-loop-c l = with_rest (map string_bytes l.words.items) l.word.items (drop l.c-index l.text) ≡ words_in l.text
