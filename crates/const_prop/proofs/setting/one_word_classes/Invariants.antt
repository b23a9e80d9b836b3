use Rattle.std.proofs.Common.{◌≡◌, ◌<◌, ℕ, false, length, get_or}
use Rattle.const_prop.specs.Closed.{is_one_word}
use Rattle.const_prop.proofs.setting.one_word_classes.Given as goal

abbrev pub invariant-loop-line : goal.invariant-loop-line
invariant-loop-line g l = record {
  size : length l.one_word.items ≡ l.line;
  tells : (k : ℕ) → k < l.line → get_or l.one_word.items k false ≡ is_one_word l.c k;
}
