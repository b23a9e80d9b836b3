-- Parts of texts as the code takes them off.
use Rattle.std.proofs.Common.{◌≡◌, ◌==◌, ℕ, ◌+◌, ◌<◌, Bool, true, false, eqb, if◌then◌else◌, ◌&&◌, ◌||◌, List, [], ◌∷◌, length, take, drop, get_or, Option, Some, None, MatchOption, refl, sym, ap, ◌∙◌}
use Rattle.std.specs.Borrow.{Bor}
use Rattle.std.specs.Option.{option_copied}
use Rattle.std.proofs.lemmas.Bool.{or_parts, eqb-true, eqb-false, eq-eqb, ne_eqb}
use Rattle.std.proofs.lemmas.List.{at_drop_more}
use lib.Pointwise.{pointwise}
use Rattle.op_table.specs.declared.Op.{Op}
use Rattle.f77_tree.specs.Grammar.{symbol}
use Rattle.f77_expr.specs.Reader.{after_prefix, this_or, operator_among, operator_at}
use Rattle.f77_expr.specs.Answers.{begins_operator}

eqb-swapped : (a b : ℕ) → eqb a b ≡ eqb b a
eqb-swapped a b = by (eqb a b) refl
  where
    by : (t : Bool) → eqb a b ≡ t → t ≡ eqb b a
    by true e = sym (eq-eqb b a (sym (eqb-true a b e)))
    by false e = sym (ne_eqb b a (λ same. eqb-false a b e (sym same)))

-- a prefix is what a text begins with, character by character
prefix_tested : (prefix text : List ℕ) → after_prefix prefix text ≡ (if pointwise eqb (take (length prefix) text) prefix then Some (drop (length prefix) text) else None)
prefix_tested [] text = refl
prefix_tested (c ∷ prefix) [] = refl
prefix_tested (c ∷ prefix) (d ∷ text) = by (eqb c d) (eqb-swapped d c) (prefix_tested prefix text)
  where
    by : (b : Bool) → eqb d c ≡ b → after_prefix prefix text ≡ (if pointwise eqb (take (length prefix) text) prefix then Some (drop (length prefix) text) else None) → (if b then after_prefix prefix text else None) ≡ (if eqb d c && pointwise eqb (take (length prefix) text) prefix then Some (drop (length prefix) text) else None)
    by true e ih = rw e ih
    by false e ih = rw e refl

-- what taking a prefix off a text gives
pub prefix_stripped : (prefix text : List ℕ) (r : Option (Bor (List ℕ))) → MatchOption r (pointwise eqb (take (length prefix) text) prefix ≡ false) (λ x. (pointwise eqb (take (length prefix) text) prefix ≡ true) × (x.now ≡ drop (length prefix) text) × (length x.now + length prefix ≡ length text)) → option_copied r ≡ after_prefix prefix text
prefix_stripped prefix text None h = sym (prefix_tested prefix text ∙ ap (λ b. if b then Some (drop (length prefix) text) else None) h)
prefix_stripped prefix text (Some x) h = ap (λ (rest : List ℕ). Some rest) h.1 ∙ sym (prefix_tested prefix text ∙ ap (λ b. if b then Some (drop (length prefix) text) else None) h.0)

-- the first of some operators doesn't come first: one of the others may
pub among_missed : (ops : List Op) (i : ℕ) (d : Op) (text : List ℕ) → i < length ops → after_prefix (symbol (get_or ops i d)) text ≡ None → operator_among (drop i ops) text ≡ operator_among (drop (i + 1) ops) text
among_missed ops i d text lt e =
    at_drop_more (λ rest. operator_among rest text) ops i d lt ∙ ap (λ tail. this_or (get_or ops i d) tail (operator_among (drop (i + 1) ops) text)) e

-- no operator begins with another character
pub no_operator : (text : List ℕ) → begins_operator text ≡ false → operator_at text ≡ None
no_operator [] none = refl
no_operator (c ∷ text) none =
    let some = or_parts (c == 42 || c == 47 || c == 43 || c == 45) (c == 46) none in
    let signs = or_parts (c == 42 || c == 47 || c == 43) (c == 45) some.0 in
    let plus = or_parts (c == 42 || c == 47) (c == 43) signs.0 in
    let stars = or_parts (c == 42) (c == 47) plus.0 in
    let star : eqb 42 c ≡ false = eqb-swapped 42 c ∙ stars.0 in
    let slash : eqb 47 c ≡ false = eqb-swapped 47 c ∙ stars.1 in
    let add : eqb 43 c ≡ false = eqb-swapped 43 c ∙ plus.1 in
    let minus : eqb 45 c ≡ false = eqb-swapped 45 c ∙ signs.1 in
    let dot : eqb 46 c ≡ false = eqb-swapped 46 c ∙ some.1 in
    rw (star, slash, add, minus, dot) refl
