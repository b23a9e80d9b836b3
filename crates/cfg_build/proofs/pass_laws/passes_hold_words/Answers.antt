use Rattle.cfg_build.proofs.PassWords.{passes_words}
use Rattle.cfg_build.proofs.pass_laws.passes_hold_words.Goals as goal

pub returns : goal.returns
returns c = λ p input n is words. passes_words p input (λ m k exec at before. c.runs_hold_words.ensures.steps p input m k exec is words at before) n (c.runs_hold_words.ensures.states p input 0 is words)
