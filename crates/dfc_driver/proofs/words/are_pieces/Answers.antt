use Rattle.std.proofs.Common.{◌≡◌, ℕ, sym, ◌∙◌, true, false, ◌==◌, arith}
use Rattle.std.proofs.lemmas.Bool.Decides.{nat_tests}
use Rattle.dfc_driver.proofs.Pieces.{goes_on, ends}
use Rattle.dfc_driver.proofs.words.are_pieces.Goals as goal
use Rattle.dfc_driver.proofs.words.are_pieces.Goals.{then-c-eq44+else-not-is_piece, else-c-eq44}

is_comma : (c : ℕ) → c ≡ 44 → (c == 44) ≡ true
is_comma c is = grind (arith, nat_tests)

is_other : (c : ℕ) → (c ≡ 44 → ⊥) → (c == 44) ≡ false
is_other c is = grind (arith, nat_tests)

pub loop-k-preserved : goal.loop-k-preserved
loop-k-preserved c =
    let text = c.args.text.now in
    let k = c.loop-k.k in
    elim c.if-c-eq44.branch [
      | then-c-eq44+else-not-is_piece w ↦
          rw w.begin-is (ends c.args.setting text c.loop-k.begin k 0 c.loop-k-test.true (is_comma _ w.if-c-eq44.true) (sym w.is_piece.ensures ∙ w.if-not-is_piece.false) c.loop-k.invariant)
      | else-c-eq44 w ↦
          rw w.begin-is (goes_on c.args.setting text c.loop-k.begin k 0 c.loop-k-test.true (is_other _ w.if-c-eq44.false) c.loop-k.invariant)
    ]
