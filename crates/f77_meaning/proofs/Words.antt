-- Words of a list, as indexing reads them.
use Rattle.std.proofs.Common.{◌≡◌, ℕ, zero, suc, ◌+◌, ◌<◌, ◌≤◌, ℤ, Result, Err, slice_get, IfOk, ap, ◌∙◌, List, [], ◌∷◌, Option, Ok, length, slice_index_or, sym, arith}
use Rattle.f77_tree.specs.declared.expressions.Access.{Access}
use Rattle.f77_tree.specs.declared.programs.NameInfo.{NameInfo}
use Rattle.f77_tree.specs.Value.{word_at, value, place, IsAccess, ArePlaced}
use Rattle.f77_tree.specs.Execution.{words_taken}
use Rattle.f77_tree.specs.declared.expressions.Expr.{Expr}
use Rattle.op_table.specs.declared.Trap.{Trap}
use Rattle.f77_tree.proofs.Taking.{taken_within}
use Rattle.f77_tree.proofs.Places.{place-inside}

pub word_at_is : (xs : List ℤ) (k : ℕ) (z : ℤ) → k < length xs → z ≡ slice_index_or xs k z → word_at xs k ≡ z
word_at_is [] k z lt is = absurd (omega (arith, lt))
word_at_is (x ∷ xs) zero z lt is = sym is
word_at_is (x ∷ xs) (suc k) z lt is = word_at_is xs k z (omega (arith, lt)) is

pub place_inside : (names : List NameInfo) (store : List ℤ) (next : Option ℤ) (access : Access) (w : ℕ) → ArePlaced names (length store) → IsAccess names access → place names store next access ≡ Ok w → w < length store
place_inside names store next access w placed is e = place-inside names store next access w placed is e

-- where a value does not trap, no more words are taken than there are
pub taken_if_ok : (names : List NameInfo) (store input : List ℤ) (taken : ℕ) (next : Option ℤ) (e : Expr) (r : Result ℤ Trap) → taken ≤ length input → next ≡ slice_get input taken → r ≡ value names store next e → IfOk r (λ z. taken + words_taken e ≤ length input)
taken_if_ok names store input taken next e (Err trap) le at is = tt
taken_if_ok names store input taken next e (Ok z) le at is = taken_within names store input taken e z le (ap (λ n. value names store n e) (sym at) ∙ sym is)
