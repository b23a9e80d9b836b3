-- The rows of the first pieces, where one piece more comes, and what is found among them.
use Rattle.std.proofs.Common.{◌≡◌, ◌<◌, ◌≤◌, ◌+◌, ◌++◌, ⊎_elim, ℕ, zero, suc, true, List, [], ◌∷◌, length, map, take, drop, get_or, Option, Some, Vec, Global, slice_get, refl, sym, ap, ◌∙◌, subst, arith, length-append}
use Rattle.std.proofs.Math.Logic.{∥∥₁_elim, ∥∥₁_map}
use Rattle.std.proofs.Props.{props}
use Rattle.std.specs.List.{range_with_len}
use Rattle.std.proofs.lemmas.Bool.{cases_lt}
use Rattle.std.proofs.lemmas.Option.{slice_get_read}
use Rattle.net_board.specs.Nodes.{is_acting, kind_in, touched}
use Rattle.op_board.specs.OperationNets.{OperationNet, operation_count}
use Rattle.operation_tables.specs.declared.rows.PieceRows.{PieceRows}
use Rattle.operation_tables.specs.declared.rows.Row.{Row}
use Rattle.operation_tables.specs.OperationRows.{AreRows, EntryIs, IsRow}
use Rattle.operation_tables.specs.PieceTables.{AreFirstRows, entry_at, entry_in, rows_before}
use Rattle.operation_tables.proofs.GrownLists.{get_before, get_end, mapped_at, mapped_length, mapped_more}

module _ {X : Type 0} where
  -- what stands behind the first ones
  get_behind : (xs ys : List X) (k : ℕ) → slice_get (xs ++ ys) (length xs + k) ≡ slice_get ys k
  get_behind [] ys k = ap (slice_get ys) (Rattle.std.proofs.Common.zero-add k)
  get_behind (x ∷ xs) ys k = let e : length (x ∷ xs) + k ≡ suc (length xs + k) = omega arith in ap (slice_get (x ∷ (xs ++ ys))) e ∙ get_behind xs ys k

  taken_at : (xs : List X) (n i : ℕ) (y : X) → slice_get (take n xs) i ≡ Some y → (i < n) × (slice_get xs i ≡ Some y)
  taken_at [] zero i y at = absurd cc
  taken_at [] (suc n) i y at = absurd cc
  taken_at (x ∷ xs) zero i y at = absurd cc
  taken_at (x ∷ xs) (suc n) zero y at = (omega arith, at)
  taken_at (x ∷ xs) (suc n) (suc i) y at = let r = taken_at xs n i y at in let low = r.0 in (omega (arith, low), r.1)

  -- what stands in a part of a list
  pub part_at : (xs : List X) (s n i : ℕ) (y : X) → slice_get (take n (drop s xs)) i ≡ Some y → (i < n) × (slice_get xs (s + i) ≡ Some y)
  part_at xs zero n i y at = let r = taken_at xs n i y at in (r.0, ap (slice_get xs) (Rattle.std.proofs.Common.zero-add i) ∙ r.1)
  part_at [] (suc s) n i y at = absurd (let r = taken_at [] n i y at in let none = r.1 in cc)
  part_at (x ∷ xs) (suc s) n i y at =
      let r = part_at xs s n i y at in
      let e : suc s + i ≡ suc (s + i) = omega arith in
      (r.0, ap (slice_get (x ∷ xs)) e ∙ r.1)

module _ (x : OperationNet) where
  -- the rows of a piece end where those of the next one begin
  pub rows_rise : (piece n : ℕ) → piece < n → rows_before x piece + operation_count x piece ≤ rows_before x n
  rows_rise piece zero low = absurd (omega (arith, low))
  rows_rise piece (suc n) low = ⊎_elim
      (λ (before : piece < n). let r = rows_rise piece n before in omega (arith, r))
      (λ (past : n ≤ piece).
      let same : piece ≡ n = omega (arith, past, low) in
      subst (λ (k : ℕ). rows_before x k + operation_count x k ≤ rows_before x (suc n)) (sym same) (omega arith))
      (cases_lt piece n)

  -- ---- the rows of one piece more

  module _ (n : ℕ) (rows : List Row) (starts : List ℕ) (entries : List (Vec ℕ Global)) (are : AreFirstRows x n rows starts entries) (made : PieceRows) (new : ∥ AreRows x n made ∥₁) where
    made_count : length made.rows.items ≡ operation_count x n
    made_count = ∥∥₁_elim new (Prim.hlevel props) (λ (own : AreRows x n made). own.count)

    pub all_count : length (rows ++ made.rows.items) ≡ rows_before x n + operation_count x n
    all_count = let l = length-append rows made.rows.items in let count = are.count in omega (arith, l, count, made_count)

    row_more : (piece i : ℕ) (row : Row) → piece < suc n → i < operation_count x piece → slice_get (rows ++ made.rows.items) (rows_before x piece + i) ≡ Some row → ∥ IsRow x piece i row ∥₁
    row_more piece i row below inside at = ⊎_elim
        (λ (before : piece < n).
        let rise = rows_rise piece n before in
        let count = are.count in
        are.rows piece i row before inside (sym (get_before rows made.rows.items (rows_before x piece + i) (omega (arith, rise, inside, count))) ∙ at))
        (λ (past : n ≤ piece).
        let same : n ≡ piece = omega (arith, past, below) in
        let place : length rows + i ≡ rows_before x piece + i = ap (λ (k : ℕ). k + i) (are.count ∙ ap (rows_before x) same) in
        let there : slice_get made.rows.items i ≡ Some row = sym (get_behind rows made.rows.items i) ∙ ap (slice_get (rows ++ made.rows.items)) place ∙ at in
        subst (λ (k : ℕ). ∥ IsRow x k i row ∥₁) same (∥∥₁_map new (λ (own : AreRows x n made). own.rows i row there)))
        (cases_lt piece n)

    entry_more : (piece place line : ℕ) → piece < suc n → is_acting (kind_in x.net piece) ≡ true → slice_get (touched x.net piece) place ≡ Some line → ∥ EntryIs x piece line (entry_at (entries ++ made.entries ∷ []) piece place) ∥₁
    entry_more piece place line below acts there = ⊎_elim
        (λ (before : piece < n).
        let pieces = are.pieces in
        let at = get_before entries (made.entries ∷ []) piece (omega (arith, before, pieces)) in
        subst (λ (o : Option (Vec ℕ Global)). ∥ EntryIs x piece line (entry_in o place) ∥₁) (sym at) (are.entries piece place line before acts there))
        (λ (past : n ≤ piece).
        let same : n ≡ piece = omega (arith, past, below) in
        let at : slice_get (entries ++ made.entries ∷ []) piece ≡ Some made.entries = get_end entries made.entries piece (sym (are.pieces ∙ same)) in
        let own : ∥ AreRows x piece made ∥₁ = subst (λ (k : ℕ). ∥ AreRows x k made ∥₁) same new in
        subst (λ (o : Option (Vec ℕ Global)). ∥ EntryIs x piece line (entry_in o place) ∥₁) (sym at) (∥∥₁_map own (λ (all : AreRows x piece made). all.entries acts place line there)))
        (cases_lt piece n)

    pub next_rows : (new_rows : List Row) (new_starts : List ℕ) (new_entries : List (Vec ℕ Global)) (number : ℕ) → new_rows ≡ rows ++ made.rows.items → number ≡ length new_rows → rows_before x (suc n) < 4294967296 → new_starts ≡ starts ++ number ∷ [] → new_entries ≡ entries ++ made.entries ∷ [] → AreFirstRows x (n + 1) new_rows new_starts new_entries
    next_rows new_rows new_starts new_entries number more_rows is fits more_starts more_entries = subst (λ (k : ℕ). AreFirstRows x k new_rows new_starts new_entries) (let one : suc n ≡ n + 1 = omega arith in one) (record {
      starts = mapped_more (rows_before x) starts new_starts (suc n) number are.starts (is ∙ ap length more_rows ∙ all_count) more_starts ∙ ap (λ (k : ℕ). map (rows_before x) (range_with_len 0 k)) (let one : suc n + 1 ≡ suc (suc n) = omega arith in one);
      count = ap length more_rows ∙ all_count;
      few = let long = ap length more_rows in let all = all_count in omega (arith, long, all, fits);
      rows = λ piece i row below inside at. row_more piece i row below inside (ap (λ (all : List Row). slice_get all (rows_before x piece + i)) (sym more_rows) ∙ at);
      pieces = let e = ap length more_entries in let l = length-append entries (made.entries ∷ []) in let count = are.pieces in omega (arith, e, l, count);
      entries = λ piece place line below acts there. subst (λ (all : List (Vec ℕ Global)). ∥ EntryIs x piece line (entry_at all piece place) ∥₁) (sym more_entries) (entry_more piece place line below acts there);
    })

  -- ---- what is found

  module _ (n : ℕ) (rows : List Row) (starts : List ℕ) (entries : List (Vec ℕ Global)) (are : AreFirstRows x n rows starts entries) where
    pub starts_count : length starts ≡ suc n
    starts_count = mapped_length (rows_before x) starts (suc n) are.starts

    pub start_at : (piece d : ℕ) → piece ≤ n → get_or starts piece d ≡ rows_before x piece
    start_at piece d low = mapped_at (rows_before x) starts (suc n) piece d are.starts (omega (arith, low))

    pub row_low : (piece i : ℕ) → piece < n → i < operation_count x piece → rows_before x piece + i < length rows
    row_low piece i exists inside = let rise = rows_rise piece n exists in let count = are.count in omega (arith, rise, inside, count)

    pub row_there : (piece i : ℕ) (row : Row) → piece < n → i < operation_count x piece → row ≡ get_or rows (rows_before x piece + i) row → ∥ IsRow x piece i row ∥₁
    row_there piece i row exists inside own = are.rows piece i row exists inside (slice_get_read rows (length rows) (rows_before x piece + i) row refl (row_low piece i exists inside) own)
