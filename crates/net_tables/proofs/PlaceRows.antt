-- A row for one more piece, or none.
use Rattle.std.proofs.Common.{◌≡◌, ℕ, zero, suc, ◌-◌, ◌<◌, ◌≤◌, List, [], ◌∷◌, ◌++◌, Option, None, Some, length, map, set, get_or, refl, sym, ap, ◌∙◌, subst, ⊎_elim, arith}
use Rattle.std.proofs.lemmas.Bool.{cases_lt}
use Rattle.std.proofs.lemmas.List.{get_or_append_left, get_or-append_right, get_or-map, get_or_default, length-map, map_push}
use Rattle.net_board.specs.Nodes.{NetOf, graph_in}
use Rattle.shared_rows.specs.Table.{AreThere, Table, numbered_row, numbered_rows, row_at, with_number, with_row, with_row_at}
use Rattle.shared_rows.proofs.Numbered.{numbered_stay, older_stays, one_more, there_stay}
use Rattle.shared_rows.proofs.Tables.{last_replaced, last_row, replaced_row, replaced_written}
use Rattle.net_tables.specs.NetTables.{all_pieces, kept_places}
use Rattle.net_tables.specs.PlaceRowSteps.{IsBlank, IsPushed, IsRewritten}
use Rattle.net_tables.proofs.TableLemmas.{mapped_at, mapped_length}

module _ (t new : Table) (row : List ℕ) where
  pub blank_stays : (net : NetOf) (o : Option ℕ) → IsPushed t new o row → IsBlank net t → IsBlank net new
  blank_stays net None p b = subst (λ x. IsBlank net x) (sym p.0) b
  blank_stays net (Some k) p b = record {
    wide = ap (λ (x : Table). x.width) p.1 ∙ b.wide;
    some = let m = one_more t new row p.1 in omega (arith, m);
    blank = older_stays t new row p.1 0 b.some ∙ b.blank;
  }

  pushed_row : (o : Option ℕ) → IsPushed t new o row → numbered_row new o ≡ row
  pushed_row None p = sym p.1
  pushed_row (Some k) p = ap (λ n. row_at new n) p.0 ∙ ap (λ (x : Table). row_at x (length t.rows)) p.1 ∙ last_row t row

  stay : (numbers : List (Option ℕ)) (o : Option ℕ) → IsPushed t new o row → AreThere t numbers → numbered_rows new numbers ≡ numbered_rows t numbers
  stay numbers None p there = ap (λ x. numbered_rows x numbers) p.0
  stay numbers (Some k) p there = numbered_stay t new row p.1 numbers there

  pub rows_pushed : (numbers : List (Option ℕ)) (o : Option ℕ) → IsPushed t new o row → AreThere t numbers → numbered_rows new (numbers ++ o ∷ []) ≡ numbered_rows t numbers ++ row ∷ []
  rows_pushed numbers o p there = map_push (numbered_row new) numbers o
      ∙ ap (λ (rows : List (List ℕ)). rows ++ numbered_row new o ∷ []) (stay numbers o p there)
      ∙ ap (λ (r : List ℕ). numbered_rows t numbers ++ r ∷ []) (pushed_row o p)

  still : (numbers : List (Option ℕ)) (o : Option ℕ) → IsPushed t new o row → AreThere t numbers → AreThere new numbers
  still numbers None p there = subst (λ x. AreThere x numbers) (sym p.0) there
  still numbers (Some k) p there = there_stay t new row p.1 numbers there

  new_there : (o : Option ℕ) → IsPushed t new o row → (k : ℕ) → o ≡ Some k → k < length new.rows
  new_there None p k is = absurd cc
  new_there (Some n) p k is =
      let same : n ≡ k = cc in
      let at = p.0 in
      let m = one_more t new row p.1 in
      omega (arith, same, at, m)

  pub there_pushed : (numbers : List (Option ℕ)) (o : Option ℕ) → IsPushed t new o row → AreThere t numbers → AreThere new (numbers ++ o ∷ [])
  there_pushed numbers o p there i k at = ⊎_elim
      (λ (old : i < length numbers). still numbers o p there i k (sym (get_or_append_left numbers (o ∷ []) None i old) ∙ at))
      (λ (past : length numbers ≤ i). last (i - length numbers) (sym (get_or-append_right numbers (o ∷ []) (length numbers) i None refl past) ∙ at))
      (cases_lt i (length numbers))
    where
      last : (j : ℕ) → get_or (o ∷ []) j None ≡ Some k → k < length new.rows
      last zero is = new_there o p k is
      last (suc j) is = absurd cc

-- the row of a piece, as it is told
module _ (net : NetOf) (t : Table) (numbers : List (Option ℕ)) (are : numbered_rows t numbers ≡ map (kept_places net) (all_pieces net)) where
  pub numbers_length : length numbers ≡ (graph_in net).nodes
  numbers_length = sym (length-map numbers (numbered_row t)) ∙ mapped_length (kept_places net) (numbered_rows t numbers) (graph_in net).nodes are

  pub told_row : (piece : ℕ) (o : Option ℕ) → piece < (graph_in net).nodes → o ≡ get_or numbers piece o → numbered_row t o ≡ kept_places net piece
  told_row piece o exists is =
      let many = numbers_length in
      ap (numbered_row t) is ∙ sym (get_or-map (numbered_row t) numbers piece o [] (omega (arith, many, exists)))
      ∙ mapped_at (kept_places net) (numbered_rows t numbers) (graph_in net).nodes piece [] are exists

  pub told_there : (piece k : ℕ) (o : Option ℕ) → AreThere t numbers → piece < (graph_in net).nodes → o ≡ get_or numbers piece o → o ≡ Some k → k < length t.rows
  told_there piece k o there exists is at =
      let many = numbers_length in
      there piece k (sym (get_or_default numbers piece o None (omega (arith, many, exists))) ∙ sym is ∙ at)

-- a row that was pushed, and may be written then
module _ (t first : Table) (base : List ℕ) (k : ℕ) (pushed : first ≡ with_row t base) (last : k ≡ length t.rows) where
  pub base_is : row_at first k ≡ base
  base_is = ap (λ n. row_at first n) last ∙ ap (λ (x : Table). row_at x (length t.rows)) pushed ∙ last_row t base

  pub width_is : first.width ≡ t.width
  width_is = ap (λ (x : Table). x.width) pushed

  pub there_is : k < length first.rows
  there_is = let m = one_more t first base pushed in omega (arith, m, last)

  pub written_is : (second : Table) (number : ℕ → ℕ) (written : IsRewritten first k second number) → second ≡ with_row t written.row
  written_is second number written = written.is ∙ ap (λ n. with_row_at first n written.row) last ∙ ap (λ (x : Table). with_row_at x (length t.rows) written.row) pushed ∙ last_replaced t base written.row

-- a number is written into a row
module _ (t : Table) (k : ℕ) (below : k < length t.rows) (now next : Table) (line number : ℕ) (is : now ≡ with_row_at t k (row_at now k)) (step : next ≡ with_number now k line number) where
  rewritten : next ≡ with_row_at t k (set (row_at now k) line number)
  rewritten = step ∙ ap (λ (x : Table). with_number x k line number) is ∙ replaced_written t k below (row_at now k) line number

  pub row_next : row_at next k ≡ set (row_at now k) line number
  row_next = ap (λ (x : Table). row_at x k) rewritten ∙ replaced_row t k below (set (row_at now k) line number)

  pub is_next : next ≡ with_row_at t k (row_at next k)
  is_next = rewritten ∙ ap (λ (r : List ℕ). with_row_at t k r) (sym row_next)
