use Rattle.std.proofs.Common.{◌≡◌, ℕ, ℤ, ◌+◌, List, [], ◌∷◌, ◌++◌, sym, ap, subst, ◌∙◌, true, false, ◌==◌, w32, arith}
use Rattle.std.proofs.lemmas.Int.{to_z-of_z}
use Rattle.std.proofs.lemmas.Bool.Decides.{nat_tests}
use Rattle.dfc_driver.specs.Words.{is_piece, word_value}
use Rattle.dfc_driver.specs.declared.words.Setting.TheVariants.{Data}
use Rattle.dfc_driver.proofs.Pieces.{AreTaken, all_taken, last_good, taken_last, taken_more, taken_on}
use Rattle.dfc_driver.proofs.numbers.word_list.Goals as goal
use Rattle.dfc_driver.proofs.numbers.word_list.Goals.{then-c-eq44+in_ok-push, else-c-eq44}

is_comma : (c : ℕ) → c ≡ 44 → (c == 44) ≡ true
is_comma c is = grind (arith, nat_tests)

is_other : (c : ℕ) → (c ≡ 44 → ⊥) → (c == 44) ≡ false
is_other c is = grind (arith, nat_tests)

pub loop-k-preserved : goal.loop-k-preserved
loop-k-preserved c =
    let text = c.args.text.now in
    let k = c.loop-k.k in
    elim c.if-c-eq44.branch [
      | then-c-eq44+in_ok-push w ↦
          rw w.begin-is (rw w.list-is (subst (λ (xs : List ℤ). AreTaken (is_piece Data) word_value text (k + 1) (k + 1) xs) (sym (w.in_ok-push.ensures.items ∙ ap (λ x. c.loop-k.list.items ++ x ∷ []) (to_z-of_z w32 w.word_of.result w.word_of.ensures.fits ∙ w.word_of.ensures.value))) (taken_more (is_piece Data) word_value text c.loop-k.begin k 0 c.loop-k.list.items c.loop-k.invariant c.loop-k-test.true (is_comma _ w.if-c-eq44.true))))
      | else-c-eq44 w ↦
          rw w.begin-is (rw w.list-is (taken_on (is_piece Data) word_value text c.loop-k.begin k 0 c.loop-k.list.items c.loop-k.invariant c.loop-k-test.true (is_other _ w.if-c-eq44.false)))
    ]

pub word_of-requires-2 : goal.word_of-requires-2
word_of-requires-2 c =
    let text = c.args.text.now in
    last_good (is_piece Data) word_value text c.loop-k.begin c.loop-k.list.items (taken_last (is_piece Data) word_value text c.loop-k.begin c.loop-k.k c.loop-k.list.items c.loop-k-test.false c.loop-k.invariant)

pub returns : goal.returns
returns c =
    let text = c.args.text.now in
    c.in_ok-push-2.ensures.items ∙ ap (λ x. c.loop-k.list.items ++ x ∷ []) (to_z-of_z w32 c.word_of-2.result c.word_of-2.ensures.fits ∙ c.word_of-2.ensures.value)
    ∙ sym (all_taken (is_piece Data) word_value text c.loop-k.begin c.loop-k.list.items (taken_last (is_piece Data) word_value text c.loop-k.begin c.loop-k.k c.loop-k.list.items c.loop-k-test.false c.loop-k.invariant))
