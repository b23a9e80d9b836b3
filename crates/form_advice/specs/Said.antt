-- What is said of a statement that has no form.
use Rattle.std.specs.Prelude.{ℕ, List}
use Rattle.form_advice.specs.declared.advice.Advice.{Advice}

-- what is wrong, and what to write instead
pub record Said : Type 0 where
  pub wrong : List ℕ
  pub instead : List ℕ

abbrev pub said : Advice → Said
said advice = record { wrong = advice.wrong.now; instead = advice.instead.now }
