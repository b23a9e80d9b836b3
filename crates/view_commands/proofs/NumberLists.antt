-- Numbers between commas, as a loop over a text goes.
use Rattle.std.proofs.Common.{◌≡◌, ℕ, ◌+◌, ◌<◌, false, eqb, List, [], ◌∷◌, ◌++◌, length, drop, get_or, Option, Some, None, refl, sym, ap, ◌∙◌, append_assoc}
use Rattle.std.specs.Prelude.{option_map, option_and_then, unwrap_or}
use Rattle.std.proofs.lemmas.List.{at_drop_more}
use Rattle.std.specs.Prelude.{Err}
use Rattle.view_output.specs.declared.fault.Fault.{Fault}
use Rattle.view_output.specs.declared.fault.Fault.TheVariants as fault
use Rattle.view_commands.specs.Numbers.{Answers, numbers_on, with_digit}

-- what is read so far, and what is still to come
abbrev pub with_rest : (all : List ℕ) (begun : Option ℕ) (text : List ℕ) → Option (List ℕ)
with_rest all begun text = option_map (λ ns. all ++ ns) (numbers_on begun text)

glue : (all : List ℕ) (n : ℕ) (o : Option (List ℕ)) → option_map (λ ns. (all ++ n ∷ []) ++ ns) o ≡ option_map (λ ns. all ++ ns) (option_map (λ ns. n ∷ ns) o)
glue all n None = refl
glue all n (Some ns) = ap Some (append_assoc all (n ∷ []) ns)

-- a number that ends at a comma
pub numbers_comma : (all : List ℕ) (n : ℕ) (text : List ℕ) (whole : Option (List ℕ)) → with_rest all (Some n) (44 ∷ text) ≡ whole → with_rest (all ++ n ∷ []) None text ≡ whole
unfolding numbers_on
numbers_comma all n text whole so_far = glue all n (numbers_on None text) ∙ so_far

-- a comma with no number before it
pub numbers_missing : (all text : List ℕ) (whole : Option (List ℕ)) → with_rest all None (44 ∷ text) ≡ whole → whole ≡ None
unfolding numbers_on
numbers_missing all text whole so_far = sym so_far

at_other : (begun : Option ℕ) (c : ℕ) (text : List ℕ) → eqb c 44 ≡ false → numbers_on begun (c ∷ text) ≡ option_and_then (λ n. numbers_on (Some n) text) (with_digit (unwrap_or begun 0) c)
unfolding numbers_on
at_other begun c text other = rw other refl

-- one more digit
pub numbers_digit : (all : List ℕ) (begun : Option ℕ) (c n : ℕ) (text : List ℕ) (whole : Option (List ℕ)) → eqb c 44 ≡ false → with_digit (unwrap_or begun 0) c ≡ Some n → with_rest all begun (c ∷ text) ≡ whole → with_rest all (Some n) text ≡ whole
numbers_digit all begun c n text whole other digit so_far =
    sym (ap (option_map (λ ns. all ++ ns)) (at_other begun c text other ∙ ap (option_and_then (λ m. numbers_on (Some m) text)) digit)) ∙ so_far

-- what is no digit
pub numbers_other : (all : List ℕ) (begun : Option ℕ) (c : ℕ) (text : List ℕ) (whole : Option (List ℕ)) → eqb c 44 ≡ false → with_digit (unwrap_or begun 0) c ≡ None → with_rest all begun (c ∷ text) ≡ whole → whole ≡ None
numbers_other all begun c text whole other digit so_far =
    sym so_far ∙ ap (option_map (λ ns. all ++ ns)) (at_other begun c text other ∙ ap (option_and_then (λ m. numbers_on (Some m) text)) digit)

-- the end of the text, after a number or none
pub numbers_end : (all : List ℕ) (n : ℕ) (whole : Option (List ℕ)) → with_rest all (Some n) [] ≡ whole → whole ≡ Some (all ++ n ∷ [])
unfolding numbers_on
numbers_end all n whole so_far = sym so_far

pub numbers_none : (all : List ℕ) (whole : Option (List ℕ)) → with_rest all None [] ≡ whole → whole ≡ None
unfolding numbers_on
numbers_none all whole so_far = sym so_far

-- a fault is passed on where nothing is meant any more
pub fault_passes : {X Y A B : Type 0} (meaning : X → A) (other : Y → B) (why : Fault) (meant : Option A) (whole : Option B) → Answers meaning (Err why) meant → (meant ≡ None → whole ≡ None) → Answers other (Err why) whole
fault_passes meaning other fault.Usage meant whole none then = then none
fault_passes meaning other _ meant whole none then = none

-- what is read so far, before this place of a text and at it
pub at_place : (all : List ℕ) (begun : Option ℕ) (text : List ℕ) (i c d : ℕ) (whole : Option (List ℕ)) → i < length text → get_or text i d ≡ c → with_rest all begun (drop i text) ≡ whole → with_rest all begun (c ∷ drop (i + 1) text) ≡ whole
at_place all begun text i c d whole more same so_far =
    ap (λ x. with_rest all begun (x ∷ drop (i + 1) text)) (sym same) ∙ sym (at_drop_more (with_rest all begun) text i d more) ∙ so_far
