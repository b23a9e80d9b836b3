-- Rounds over rows, from any widths on.
use Rattle.std.proofs.Common.{◌≡◌, ℕ, zero, suc, List, length, map, refl, sym, ap, ◌∙◌}
use Rattle.program_units.specs.CallTable.{AreAfter, AreSettled, CallRow, row_width, widths_from}

module _ (limit : ℕ) (rows : List CallRow) (widths : List ℕ) where
  pub begun : AreAfter limit rows 0 widths
  begun = record { start = widths; is = refl }

  -- a round that changes nothing is the last
  still : map (row_width limit widths) rows ≡ widths → (rounds : ℕ) → widths_from limit rows widths rounds ≡ widths
  still same zero = refl
  still same (suc n) = ap (λ (ws : List ℕ). map (row_width limit ws) rows) (still same n) ∙ same

  pub same-settled : map (row_width limit widths) rows ≡ widths → AreSettled limit rows widths
  same-settled same = record { start = widths; is = sym (still same (suc (length rows))) }

  pub one-more : (n : ℕ) (next : List ℕ) → AreAfter limit rows n widths → next ≡ map (row_width limit widths) rows → AreAfter limit rows (suc n) next
  one-more n next after is = record { start = after.start; is = is ∙ ap (λ (ws : List ℕ). map (row_width limit ws) rows) after.is }
