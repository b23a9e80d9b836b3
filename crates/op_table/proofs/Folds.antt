-- The value that is known of an operator.
use Rattle.std.proofs.Common.{◌≡◌, ℕ, ℤ, List, [], ◌∷◌, ◌<◌, length, get_or, Option, Some, None, Result, refl, sym, ap, ◌∙◌, arith, suc, zero}
use Rattle.std.specs.Option.{option_map, option_and_then}
use Rattle.std.specs.Result.{result_ok}
use Rattle.op_table.specs.declared.Op.{Op}
use Rattle.op_table.specs.declared.Trap.{Trap}
use Rattle.op_table.specs.Operators.{applied}
use Rattle.op_table.specs.Known.{all_known, folded}

missing_head : (known : List (Option ℤ)) → 0 < length known → get_or known 0 None ≡ None → all_known known ≡ None
missing_head [] h e = absurd (omega arith)
missing_head (None ∷ known) h e = refl
missing_head (Some x ∷ known) h e = let no : Some x ≡ None = e in absurd cc

-- one operand isn't known
pub missing : (known : List (Option ℤ)) (k : ℕ) → k < length known → get_or known k None ≡ None → all_known known ≡ None
missing known zero h e = missing_head known h e
missing [] (suc k) h e = absurd (omega arith)
missing (None ∷ known) (suc k) h e = refl
missing (Some x ∷ known) (suc k) h e = ap (option_map (λ args. x ∷ args)) (missing known k (omega arith) e)

-- the operands, one by one
pub next_known : (k : Option ℤ) (known : List (Option ℤ)) (x : ℤ) (args : List ℤ) → k ≡ Some x → all_known known ≡ Some args → all_known (k ∷ known) ≡ Some (x ∷ args)
next_known k known x args e h = ap (λ y. all_known (y ∷ known)) e ∙ ap (option_map (λ more. x ∷ more)) h

pub one_known : (known : List (Option ℤ)) (a : ℤ) → length known ≡ 1 → get_or known 0 None ≡ Some a → all_known known ≡ Some (a ∷ [])
one_known [] a h ea = absurd (omega arith)
one_known (x ∷ []) a h ea = next_known x [] a [] ea refl
one_known (x ∷ y ∷ more) a h ea = absurd (omega arith)

pub both_known : (known : List (Option ℤ)) (a b : ℤ) → length known ≡ 2 → get_or known 0 None ≡ Some a → get_or known 1 None ≡ Some b → all_known known ≡ Some (a ∷ b ∷ [])
both_known [] a b h ea eb = absurd (omega arith)
both_known (x ∷ known) a b h ea eb = next_known x known a (b ∷ []) ea (one_known known b (omega arith) eb)

pub three_known : (known : List (Option ℤ)) (a b c : ℤ) → length known ≡ 3 → get_or known 0 None ≡ Some a → get_or known 1 None ≡ Some b → get_or known 2 None ≡ Some c → all_known known ≡ Some (a ∷ b ∷ c ∷ [])
three_known [] a b c h ea eb ec = absurd (omega arith)
three_known (x ∷ known) a b c h ea eb ec = next_known x known a (b ∷ c ∷ []) ea (both_known known b c (omega arith) eb ec)

-- where an operand isn't known, there is no value
pub none_folded : (op : Op) (known : List (Option ℤ)) → all_known known ≡ None → None ≡ folded op known
unfolding folded
none_folded op known e = sym (ap (option_and_then (λ args. result_ok (applied op args))) e)

-- where all are known, it is the operator's
pub some_folded : (op : Op) (known : List (Option ℤ)) (args : List ℤ) (r : Result ℤ Trap) → all_known known ≡ Some args → r ≡ applied op args → result_ok r ≡ folded op known
unfolding folded
some_folded op known args r e h = ap result_ok h ∙ sym (ap (option_and_then (λ args. result_ok (applied op args))) e)
