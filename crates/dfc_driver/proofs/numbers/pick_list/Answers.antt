use Rattle.std.proofs.Common.{◌≡◌, ℕ, ◌+◌, List, [], ◌∷◌, ◌++◌, sym, ap, subst, ◌∙◌, true, false, ◌==◌, arith}
use Rattle.std.proofs.lemmas.Bool.Decides.{nat_tests}
use Rattle.fixed_form.specs.Columns.{number}
use Rattle.dfc_driver.specs.Words.{is_piece}
use Rattle.dfc_driver.specs.declared.words.Setting.TheVariants.{Picks}
use Rattle.dfc_driver.proofs.Pieces.{AreTaken, taken_more, taken_on}
use Rattle.dfc_driver.proofs.numbers.pick_list.Goals as goal
use Rattle.dfc_driver.proofs.numbers.pick_list.Goals.{then-c-eq44+in_ok-push, else-c-eq44}

is_comma : (c : ℕ) → c ≡ 44 → (c == 44) ≡ true
is_comma c is = grind (arith, nat_tests)

is_other : (c : ℕ) → (c ≡ 44 → ⊥) → (c == 44) ≡ false
is_other c is = grind (arith, nat_tests)

pub loop-k-preserved : goal.loop-k-preserved
loop-k-preserved c =
    let text = c.args.text.now in
    let k = c.loop-k.k in
    elim c.if-c-eq44.branch [
      | then-c-eq44+in_ok-push w ↦
          rw w.begin-is (rw w.list-is (subst (λ (xs : List ℕ). AreTaken (is_piece Picks) number text (k + 1) (k + 1) xs) (sym (w.in_ok-push.ensures.items ∙ ap (λ x. c.loop-k.list.items ++ x ∷ []) w.pick_of.ensures)) (taken_more (is_piece Picks) number text c.loop-k.begin k 0 c.loop-k.list.items c.loop-k.invariant c.loop-k-test.true (is_comma _ w.if-c-eq44.true))))
      | else-c-eq44 w ↦
          rw w.begin-is (rw w.list-is (taken_on (is_piece Picks) number text c.loop-k.begin k 0 c.loop-k.list.items c.loop-k.invariant c.loop-k-test.true (is_other _ w.if-c-eq44.false)))
    ]
