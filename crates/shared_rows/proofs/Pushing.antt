-- One more row stands after the others, of blocks that may stand in other places too.
use Rattle.std.proofs.Common.{◌≡◌, ℕ, ◌+◌, ◌-◌, ◌*◌, ◌/◌, ◌%◌, ◌<◌, ◌≤◌, List, [], ◌∷◌, ◌++◌, length, take, replicate, get_or, refl, sym, ap, ◌∙◌, arith, length-append, get_or-append-add}
use Rattle.std.specs.List.{slice_range}
use Rattle.std.proofs.lemmas.Grind.{elements}
use Rattle.std.proofs.lemmas.List.{get_or_append_left, get_or-replicate, get_or_push, length-replicate, take_all}
use Rattle.shared_rows.specs.Blocks.{AreKept, IsKept, cell, place, row as row_of, rows, table_of}
use Rattle.shared_rows.specs.Table.{row_at}
use Rattle.shared_rows.specs.declared.rows.SharedRows.TheInside.{Inside}
use Rattle.shared_rows.proofs.Cells.{AreAlike, cell_read, listed_at, listed_length, next_row, place_below, rows_more}

module _ (pool pool' : List (List ℕ)) (numbers added : List ℕ) (own blocks width count : ℕ) (wide : width < 16 * blocks) (size : length numbers ≡ count * blocks) (kept : AreKept pool numbers own)
    (more : length pool ≤ length pool') (stay : (b : ℕ) → b < length pool → get_or pool' b [] ≡ get_or pool b []) (many : length added ≡ blocks) where
  pub pushed_size : length (numbers ++ added) ≡ (count + 1) * blocks
  pushed_size = omega (arith, length-append numbers added, size, many)

  alike : AreAlike pool pool' numbers (numbers ++ added) blocks width count
  alike k column below inside = grind (arith, get_or_append_left, place_below blocks width count k column wide below inside, kept.exist (place blocks k column), stay, size)

  pub pushed_rows : (last : List ℕ) → length last ≡ width → ((c : ℕ) → c < width → get_or last c 0 ≡ get_or (get_or pool' (get_or added (c / 16) 0) []) (c % 16) 0)
      → rows pool' (numbers ++ added) blocks width (count + 1) ≡ rows pool numbers blocks width count ++ last ∷ []
  pushed_rows last long cells = rows_more pool pool' numbers (numbers ++ added) blocks width count alike last long
      (λ c inside. cells c inside ∙ ap (λ n. get_or (get_or pool' n []) (c % 16) 0) (sym (get_or-append-add numbers added (c / 16) 0))
      ∙ ap (λ n. get_or (get_or pool' (get_or (numbers ++ added) (n + c / 16) 0) []) (c % 16) 0) size)

  module _ (exist : (i : ℕ) → i < blocks → get_or added i 0 < length pool') (full : (b : ℕ) → b < length pool' → length (get_or pool' b []) ≡ 16) where
    there : (i : ℕ) → i < length (numbers ++ added) → get_or (numbers ++ added) i 0 < length pool'
    there i low = grind (arith, elements, kept.exist i, exist (i - length numbers), many)

    pub pushed_kept : (now : ℕ) → now ≡ length pool' → AreKept pool' (numbers ++ added) now
    pushed_kept now is = record {
      few = omega (arith, is);
      exist = there;
      full = full;
      alone = λ i j low low' mine same. absurd (omega (arith, there i low, mine, is));
    }

-- a part of a list
module _ (xs : List ℕ) (from n : ℕ) (within : from + n ≤ length xs) where
  part_length : length (slice_range xs from (from + n)) ≡ n
  part_length = grind (arith, elements)

  part_at : (i : ℕ) → i < n → get_or (slice_range xs from (from + n)) i 0 ≡ get_or xs (from + i) 0
  part_at i low = grind (arith, elements)

-- the blocks of a row once more
module _ (d : Inside) (kept : IsKept d) (row : ℕ) (below : row < d.count) where
  pub part_within : place d.blocks row 0 + d.blocks ≤ length d.numbers.items
  part_within = omega (arith, next_row d.blocks row d.count below, kept.size)

  abbrev pub part : List ℕ
  part = slice_range d.numbers.items (place d.blocks row 0) (place d.blocks row 0 + d.blocks)

  pub copied_kept : AreKept d.pool.items (d.numbers.items ++ part) (length d.pool.items)
  copied_kept = pushed_kept d.pool.items d.pool.items d.numbers.items part d.own d.blocks d.width d.count kept.wide kept.size kept.blocks (omega arith) (λ b low. refl)
      (part_length d.numbers.items (place d.blocks row 0) d.blocks part_within)
      (λ i low. let e = part_at d.numbers.items (place d.blocks row 0) d.blocks part_within i low in
      let h = kept.blocks.exist (place d.blocks row 0 + i) (omega (arith, low, part_within)) in omega (arith, e, h))
      kept.blocks.full (length d.pool.items) refl

  pub copied_size : length (d.numbers.items ++ part) ≡ (d.count + 1) * d.blocks
  copied_size = pushed_size d.pool.items d.pool.items d.numbers.items part d.own d.blocks d.width d.count kept.wide kept.size kept.blocks (omega arith) (λ b low. refl)
      (part_length d.numbers.items (place d.blocks row 0) d.blocks part_within)

  pub copied_rows : rows d.pool.items (d.numbers.items ++ part) d.blocks d.width (d.count + 1) ≡ rows d.pool.items d.numbers.items d.blocks d.width d.count ++ row_at (table_of d) row ∷ []
  copied_rows = pushed_rows d.pool.items d.pool.items d.numbers.items part d.own d.blocks d.width d.count kept.wide kept.size kept.blocks (omega arith) (λ b low. refl)
      (part_length d.numbers.items (place d.blocks row 0) d.blocks part_within)
      (row_at (table_of d) row)
      (ap length (listed_at (row_of d.pool.items d.numbers.items d.blocks d.width) d.count row [] below) ∙ listed_length (cell d.pool.items d.numbers.items d.blocks row) d.width)
      (λ c inside.
      let low : c / 16 < d.blocks = let wide = kept.wide in omega (arith, wide, inside) in
      let at : place d.blocks row 0 + c / 16 ≡ place d.blocks row c = omega arith in
      cell_read d.pool.items d.numbers.items d.blocks d.width d.count row c below inside
      ∙ ap (λ n. get_or (get_or d.pool.items n []) (c % 16) 0) (sym (part_at d.numbers.items (place d.blocks row 0) d.blocks part_within (c / 16) low ∙ ap (λ i. get_or d.numbers.items i 0) at)))

-- a list that was filled up with so many numbers
pub filled_up : (xs kept ys : List ℕ) (len len' n b number : ℕ) → ys ≡ take (len + n) kept ++ replicate ((len + n) - len') b → kept ≡ xs → len ≡ len' → len' ≡ length kept → b ≡ number → ys ≡ xs ++ replicate n number
filled_up xs kept ys len len' n b number is same equal all value = grind (arith, take_all)

-- one new block, in all places of the row
module _ (d : Inside) (kept : IsKept d) (number : ℕ) where
  abbrev pub grown : List (List ℕ)
  grown = d.pool.items ++ replicate 16 number ∷ []

  abbrev pub filled : List ℕ
  filled = replicate d.blocks (length d.pool.items)

  grown_length : length grown ≡ length d.pool.items + 1
  grown_length = length-append d.pool.items (replicate 16 number ∷ [])

  stays : (b : ℕ) → b < length d.pool.items → get_or grown b [] ≡ get_or d.pool.items b []
  stays b low = get_or_append_left d.pool.items (replicate 16 number ∷ []) [] b low

  newest : get_or grown (length d.pool.items) [] ≡ replicate 16 number
  newest = get_or_push d.pool.items (replicate 16 number) [] (length d.pool.items) refl

  filled_at : (i : ℕ) → i < d.blocks → get_or filled i 0 ≡ length d.pool.items
  filled_at i low = get_or-replicate d.blocks i (length d.pool.items) 0 low

  full : (b : ℕ) → b < length grown → length (get_or grown b []) ≡ 16
  full b low = grind (arith, elements, grown_length, stays b, newest, kept.blocks.full b, length-replicate)

  pub filled_kept : (now : ℕ) → now ≡ length grown → AreKept grown (d.numbers.items ++ filled) now
  filled_kept = pushed_kept d.pool.items grown d.numbers.items filled d.own d.blocks d.width d.count kept.wide kept.size kept.blocks (let e = grown_length in omega (arith, e)) stays
      (length-replicate d.blocks (length d.pool.items))
      (λ i low. let e = filled_at i low in let many = grown_length in omega (arith, e, many))
      full

  pub filled_size : length (d.numbers.items ++ filled) ≡ (d.count + 1) * d.blocks
  filled_size = pushed_size d.pool.items grown d.numbers.items filled d.own d.blocks d.width d.count kept.wide kept.size kept.blocks (let e = grown_length in omega (arith, e)) stays
      (length-replicate d.blocks (length d.pool.items))

  pub filled_rows : rows grown (d.numbers.items ++ filled) d.blocks d.width (d.count + 1) ≡ rows d.pool.items d.numbers.items d.blocks d.width d.count ++ replicate d.width number ∷ []
  filled_rows = pushed_rows d.pool.items grown d.numbers.items filled d.own d.blocks d.width d.count kept.wide kept.size kept.blocks (let e = grown_length in omega (arith, e)) stays
      (length-replicate d.blocks (length d.pool.items))
      (replicate d.width number) (length-replicate d.width number)
      (λ c inside.
      let low : c / 16 < d.blocks = let wide = kept.wide in omega (arith, wide, inside) in
      get_or-replicate d.width c number 0 inside
      ∙ sym (ap (λ n. get_or (get_or grown n []) (c % 16) 0) (filled_at (c / 16) low) ∙ ap (λ (xs : List ℕ). get_or xs (c % 16) 0) newest ∙ get_or-replicate 16 (c % 16) number 0 (omega arith)))
