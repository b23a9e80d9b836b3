-- Results that are passed on.
use Rattle.std.proofs.Common.{◌≡◌, ℕ, Bool, List, None, Result, Err, sym, subst}
use Rattle.f77_expr.specs.declared.parsed.ReadEnd.{ReadEnd}
use Rattle.f77_expr.specs.declared.parsed.ReadEnd.TheVariants.{NoForm, NoMemory}
use Rattle.f77_parse.specs.Keeping.{Keeps}
use Rattle.f77_parse.specs.Answers.{Gives}

-- an error of a part is one of the whole
pub given_fails : {A B : Type 0} (x : Keeps A) (y : Keeps B) (part : Result A ReadEnd) (whole : Result B ReadEnd) (e : ReadEnd) (bad bad_now : Bool) (rest rest_now : List ℕ) → part ≡ Err e → whole ≡ Err e → Gives x part bad rest → (x ≡ None → y ≡ None) → Gives y whole bad_now rest_now
given_fails {A = A} {B = B} x y part whole e bad bad_now rest rest_now part_is whole_is h none =
    subst (λ (r : Result B ReadEnd). Gives y r bad_now rest_now) (sym whole_is) (by e (subst (λ (r : Result A ReadEnd). Gives x r bad rest) part_is h))
  where
    by : (end : ReadEnd) → Gives x (Err end) bad rest → Gives y (Err end) bad_now rest_now
    by NoForm is_none = none is_none
    by NoMemory free = tt
