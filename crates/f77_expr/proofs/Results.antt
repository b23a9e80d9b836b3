-- Results that are passed on.
use Rattle.std.proofs.Common.{◌≡◌, Result, Ok, Err, sym, subst}
use Rattle.f77_expr.specs.declared.parsed.ReadEnd.{ReadEnd}
use Rattle.f77_expr.specs.declared.parsed.ReadEnd.TheVariants.{NoForm, NoMemory}
use Rattle.f77_expr.specs.Answers.{Answers}

module _ {A B : Type 0} (P : A → Type 0) (Q : B → Type 0) (NoneOf NoneIs : Type 0) where
  failed : (e : ReadEnd) → (NoneOf → NoneIs) → Answers P NoneOf (Err e) → Answers Q NoneIs (Err e)
  failed NoForm none h = none h
  failed NoMemory none h = tt

  -- an error of a part is one of the whole
  pub fails : (part : Result A ReadEnd) (whole : Result B ReadEnd) (e : ReadEnd) → part ≡ Err e → whole ≡ Err e → Answers P NoneOf part → (NoneOf → NoneIs) → Answers Q NoneIs whole
  fails part whole e part_is whole_is h none =
      subst (λ (r : Result B ReadEnd). Answers Q NoneIs r) (sym whole_is) (failed e none (subst (λ (r : Result A ReadEnd). Answers P NoneOf r) part_is h))

-- what a part answers is what the whole does
pub passed_on : {A : Type 0} (P Q : A → Type 0) (NoneOf NoneIs : Type 0) (result : Result A ReadEnd) → ((a : A) → P a → Q a) → (NoneOf → NoneIs) → Answers P NoneOf result → Answers Q NoneIs result
passed_on P Q NoneOf NoneIs (Ok a) some none h = some a h
passed_on P Q NoneOf NoneIs (Err NoForm) some none h = none h
passed_on P Q NoneOf NoneIs (Err NoMemory) some none h = tt
