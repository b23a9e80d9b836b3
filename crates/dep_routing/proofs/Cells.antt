-- Cells of tables with a row for each edge.
use Rattle.std.proofs.Common.{◌≡◌, ◌≢◌, ℕ, zero, suc, ◌<◌, List, [], ◌∷◌, length, map, set, get_or, refl, ap, ◌∙◌, arith, zero-add, get_or-set_same, get_or-set_other}
use Rattle.std.specs.List.{range_with_len}
use Rattle.std.proofs.lemmas.List.FromFn.{get_or-map-range_with_len, length-map-range_with_len}
use Rattle.dep_routing.specs.LineTable.{led, table}

module _ {A : Type 0} (edges lines : ℕ) (cell : (line e : ℕ) → A) where
  pub row_at : (e : ℕ) → e < edges → get_or (table edges lines cell) e [] ≡ map (λ line. cell line e) (range_with_len 0 lines)
  row_at e inside = get_or-map-range_with_len (λ x. map (λ line. cell line x) (range_with_len 0 lines)) 0 edges e e [] inside (zero-add e)

  pub cell_at : (line e : ℕ) (d : A) → line < lines → e < edges → get_or (get_or (table edges lines cell) e []) line d ≡ cell line e
  cell_at line e d low inside = ap (λ row. get_or row line d) (row_at e inside) ∙ get_or-map-range_with_len (λ x. cell x e) 0 lines line line d low (zero-add line)

  pub rows_length : length (table edges lines cell) ≡ edges
  rows_length = length-map-range_with_len (λ x. map (λ line. cell line x) (range_with_len 0 lines)) 0 edges

  pub cells_length : (e : ℕ) → e < edges → length (get_or (table edges lines cell) e []) ≡ lines
  cells_length e inside = ap length (row_at e inside) ∙ length-map-range_with_len (λ line. cell line e) 0 lines

-- the row of an edge was written
pub led-written : (rows : List (List ℕ)) (e : ℕ) (row : List ℕ) (line : ℕ) → e < length rows → line < length row → led (set rows e row) line e ≡ get_or row line 0
led-written rows e row line inside low = ap (λ xs. get_or xs line e) (get_or-set_same rows e row [] inside) ∙ cell_of row line e low
  where
    cell_of : (xs : List ℕ) (k d : ℕ) → k < length xs → get_or xs k d ≡ get_or xs k 0
    cell_of [] k d within = absurd (omega (arith, within))
    cell_of (x ∷ xs) zero d within = refl
    cell_of (x ∷ xs) (suc k) d within = cell_of xs k d (omega arith)

pub led-other : (rows : List (List ℕ)) (a : ℕ) (row : List ℕ) (line e : ℕ) → e ≢ a → led (set rows a row) line e ≡ led rows line e
led-other rows a row line e apart = ap (λ xs. get_or xs line e) (get_or-set_other rows a e row [] apart)
