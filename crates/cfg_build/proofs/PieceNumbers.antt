-- The number of each part, and the row of each piece.
use Rattle.std.proofs.Common.{◌≡◌, ℕ, zero, suc, ◌+◌, ◌<◌, ◌≤◌, ◌⊎◌, true, false, cond, List, [], ◌∷◌, length, get_or, take, flat_map, sum_by, refl, ap, inl, inr, ⊎_elim, arith}
use Rattle.std.proofs.lemmas.Bool.{cases_Bool, cond_both, cond-true, cond-false}
use Rattle.std.proofs.lemmas.List.{length-append, get_or_append_left, get_or-append-add}
use Rattle.std.proofs.lemmas.List.Sums.{position_or_len_is, sum_by-cons}
use Rattle.std.specs.List.{position_or_len}
use Rattle.cfg_build.specs.declared.parts.Part.{Part}
use Rattle.cfg_build.specs.Parts.{start_part}
use Rattle.cfg_build.specs.Joined.{Row, is_same, is_joined, width, number, join_row, part_row, rows_of, rows}
use Rattle.cfg_build.proofs.Places.{begins_at, begins_at_suc, ends_within, IsPlace, place_of}
use Rattle.cfg_build.proofs.PartOrder.{AreApart, is_same_itself}

-- the part with this number in the list
abbrev pub part_at : List Part → ℕ → Part
part_at ps j = get_or ps j start_part

-- the number of its first piece, which is a join where there is one
abbrev pub first_piece : List Part → ℕ → ℕ
first_piece ps j = begins_at (width ps) ps j

-- how many joins stand before the part
abbrev pub joins : List Part → Part → ℕ
joins ps p = cond (is_joined ps p) 1 0

-- the number of the piece that is the part itself
abbrev pub own_piece : List Part → ℕ → ℕ
own_piece ps j = first_piece ps j + joins ps (part_at ps j)

-- ---- numbers

pub position_of : (ps : List Part) (j : ℕ) → AreApart ps → j < length ps → position_or_len (λ part. is_same (part_at ps j).own part.own) ps ≡ j
position_of ps j apart some = grind (arith, position_or_len_is, is_same_itself (part_at ps j).own)

-- a target's number is that of its part's first piece
pub number_is : (ps : List Part) (j : ℕ) → AreApart ps → j < length ps → number ps (part_at ps j).own ≡ first_piece ps j
number_is ps j apart some = ap (λ n. sum_by (width ps) (take n ps)) (position_of ps j apart some)

pub some_width : (ps : List Part) (p : Part) → 1 ≤ width ps p
some_width ps p = cond_both (is_joined ps p) 2 1 (λ n. 1 ≤ n) (λ h. omega arith) (λ h. omega arith)

pub width_is : (ps : List Part) (p : Part) → width ps p ≡ 1 + joins ps p
width_is ps p = grind (arith, cond-true, cond-false)

-- ---- rows

length_rows_of : (ps : List Part) (p : Part) → length (rows_of ps p) ≡ width ps p
length_rows_of ps p = grind (arith, cond-true, cond-false)

pub length_rows_on : (ps qs : List Part) → length (flat_map (rows_of ps) qs) ≡ sum_by (width ps) qs
length_rows_on ps [] = refl
length_rows_on ps (q ∷ qs) =
    grind (arith, flat_map (rows_of ps) (q ∷ qs), flat_map (rows_of ps) qs, length-append (rows_of ps q) (flat_map (rows_of ps) qs), length_rows_of ps q, sum_by (width ps) qs, length_rows_on ps qs, sum_by, sum_by-cons (width ps) q qs)

pub length_rows : (ps : List Part) → length (rows ps) ≡ sum_by (width ps) ps
length_rows ps = length_rows_on ps ps

rows_on : (ps qs : List Part) (j i : ℕ) (d : Row) → j < length qs → i < width ps (part_at qs j) → get_or (flat_map (rows_of ps) qs) (begins_at (width ps) qs j + i) d ≡ get_or (rows_of ps (part_at qs j)) i d
rows_on ps [] j i d some within = absurd (omega (arith, some))
rows_on ps (q ∷ qs) zero i d some within =
    grind (arith, length_rows_of ps q, begins_at, flat_map (rows_of ps) qs, get_or_append_left (rows_of ps q) (flat_map (rows_of ps) qs) d i)
rows_on ps (q ∷ qs) (suc j) i d some within =
    grind (arith, length_rows_of ps q, begins_at, begins_at (width ps) qs j, begins_at_suc (width ps) q qs j, flat_map (rows_of ps) qs, get_or-append-add (rows_of ps q) (flat_map (rows_of ps) qs) (begins_at (width ps) qs j + i) d, rows_on ps qs j i d)

-- the row of a join
pub row_of_join : (ps : List Part) (j : ℕ) (d : Row) → j < length ps → is_joined ps (part_at ps j) ≡ true → get_or (rows ps) (first_piece ps j) d ≡ join_row ps (part_at ps j)
row_of_join ps j d some joins = grind (arith, cond-true, rows_on ps ps j 0 d some)

-- the row of a part
pub row_of_part : (ps : List Part) (j : ℕ) (d : Row) → j < length ps → get_or (rows ps) (own_piece ps j) d ≡ part_row ps (part_at ps j)
row_of_part ps j d some = grind (arith, width_is, rows_on)

-- ---- each piece is a part or its join

pub own_below : (ps : List Part) (j : ℕ) → j < length ps → own_piece ps j < length (rows ps)
own_below ps j some = grind (arith, width_is ps, sum_by (width ps) ps, length_rows ps, ends_within (width ps) ps j start_part some)

pub first_below : (ps : List Part) (j : ℕ) → j < length ps → first_piece ps j < length (rows ps)
first_below ps j some = grind (arith, own_below ps j some)

pub record IsPieceOf (ps : List Part) (piece : ℕ) : Type 0 where
  pub part : ℕ
  pub exists : part < length ps
  pub which : (piece ≡ own_piece ps part) ⊎ ((is_joined ps (part_at ps part) ≡ true) × (piece ≡ first_piece ps part))

pub piece_of : (ps : List Part) (piece : ℕ) → piece < length (rows ps) → IsPieceOf ps piece
piece_of ps piece below =
    let all : length (rows ps) ≡ sum_by (width ps) ps = length_rows ps in
    let r : IsPlace (width ps) ps start_part piece = place_of (width ps) ps start_part piece (omega (arith, all, below)) in
    record { part = r.one; exists = r.exists; which = which ps piece r.one r.nth r.within r.at }
  where
    which : (ps : List Part) (piece one nth : ℕ) → nth < width ps (part_at ps one) → piece ≡ first_piece ps one + nth → (piece ≡ own_piece ps one) ⊎ ((is_joined ps (part_at ps one) ≡ true) × (piece ≡ first_piece ps one))
    which ps piece one nth within at = ⊎_elim
        (λ (h : is_joined ps (part_at ps one) ≡ true).
        let wide : width ps (part_at ps one) ≡ 2 = cond-true (is_joined ps (part_at ps one)) 2 1 h in
        let more : joins ps (part_at ps one) ≡ 1 = cond-true (is_joined ps (part_at ps one)) 1 0 h in
        ⊎_elim
        (λ (z : nth ≡ 0). inr (h, omega (arith, at, z)))
        (λ (z : nth ≡ 1). inl (omega (arith, at, z, more)))
        (two nth (omega (arith, within, wide))))
        (λ (h : is_joined ps (part_at ps one) ≡ false).
        let wide : width ps (part_at ps one) ≡ 1 = cond-false (is_joined ps (part_at ps one)) 2 1 h in
        let more : joins ps (part_at ps one) ≡ 0 = cond-false (is_joined ps (part_at ps one)) 1 0 h in
        inl (omega (arith, at, within, wide, more)))
        (cases_Bool (is_joined ps (part_at ps one)))
      where
        two : (n : ℕ) → n < 2 → (n ≡ 0) ⊎ (n ≡ 1)
        two n h = grind arith
