-- A bracket that is put on top of a list.
use Rattle.std.proofs.Common.{◌≡◌, ◌≢◌, inl, inr, ℕ, ◌+◌, ◌*◌, ◌<◌, ◌^◌, List, [], ◌∷◌, length, get_or, set, slice_index_or, IsSome, is_some, Option, Some, None, refl, sym, ap, subst, ◌∙◌, ⊎_elim, arith, length-set}
use Rattle.std.proofs.lemmas.Bool.{cases_eq}
use Rattle.std.proofs.lemmas.List.{get_or_default, get_or-set_same, get_or-set_other, length-map}
use Rattle.std.specs.Option.{option_or}
use Rattle.brackets.specs.Brackets.{AreApart, IsFree, IsOnce, Stands, list_at}
use Rattle.brackets.specs.Kept.{AreKept, HasCell, IsKept, above, above_in, below, below_in, brackets_of, lists_of, no_ends, with_above}
use Rattle.brackets.specs.Links.{IsChain, first_of}
use Rattle.brackets.specs.declared.lists.Cell.{Cell}
use Rattle.brackets.specs.declared.lists.Ends.{Ends}
use Rattle.brackets.proofs.ApartLemmas.{apart_put}
use Rattle.brackets.proofs.CellLemmas.{cell_inside, set_above, set_below, set_other, set_here}
use Rattle.brackets.proofs.ChainLemmas.{AreSame, chain_below, chain_same, last_or, same_all}
use Rattle.brackets.proofs.KeptLemmas.{Link, are_kept, links, lists_are}
use Rattle.brackets.proofs.SizeLemmas.{length_most}

-- what a cell that is told its upper neighbour keeps
module _ (cells : List (Option Cell)) (up : Option ℕ) where
  pub told_below : (cell : Option ℕ) (y : ℕ) → HasCell cells cell → below (with_above cells cell up) y ≡ below cells y
  told_below None y has = refl
  told_below (Some x) y has = ⊎_elim
      (λ (same : y ≡ x). subst (λ n. below (with_above cells (Some x) up) n ≡ below cells n) (sym same) (set_below cells x (cell_inside cells x has) (record { above = up; below = below cells x })))
      (λ differ. ap below_in (set_other cells x (cell_inside cells x has) (record { above = up; below = below cells x }) y differ))
      (cases_eq y x)

  pub told_above : (cell : Option ℕ) (y : ℕ) → HasCell cells cell → cell ≢ Some y → above (with_above cells cell up) y ≡ above cells y
  told_above None y has differ = refl
  told_above (Some x) y has differ = ap above_in (set_other cells x (cell_inside cells x has) (record { above = up; below = below cells x }) y (λ e. differ (ap Some (sym e))))

  pub told_here : (y : ℕ) → HasCell cells (Some y) → above (with_above cells (Some y) up) y ≡ up
  told_here y has = set_above cells y (cell_inside cells y has) (record { above = up; below = below cells y })

  pub told_length : (cell : Option ℕ) → length (with_above cells cell up) ≡ length cells
  told_length None = refl
  told_length (Some x) = length-set cells x (Some (record { above = up; below = below cells x }))

module _ (cells : List (Option Cell)) (lists : List Ends) (are : AreKept cells lists) (l : ℕ) (inside : l < length lists) (ends : Ends) (read : ends ≡ get_or lists l ends) where
  -- the sequence of the list, and its ends
  pub kept_here : IsKept cells ends (list_at (lists_of cells lists) l)
  kept_here = subst (λ e. IsKept cells e (list_at (lists_of cells lists) l)) (sym (read ∙ get_or_default lists l ends no_ends inside)) ((links cells lists are).kept l inside)

  pub has_first : (xs : List ℕ) → ((y : ℕ) → Stands xs y → y < 2 * length lists) → HasCell cells (first_of xs None)
  has_first [] range = tt
  has_first (x ∷ xs) range = are.has_cell x (range x (inl refl))

  same_length : length (lists_of cells lists) ≡ length lists
  same_length = length-map lists (brackets_of cells)

  range_here : (y : ℕ) → Stands (list_at (lists_of cells lists) l) y → y < 2 * length lists
  range_here y stands = let lt = are.apart.in_range l y stands in let many = same_length in omega (arith, lt, many)

  pub has_top : HasCell cells ends.top
  has_top = subst (HasCell cells) (sym kept_here.top) (has_first (list_at (lists_of cells lists) l) range_here)

  pub size_fits : (x : ℕ) → x < 2 * length lists → IsFree (lists_of cells lists) x → ends.size + 1 < 2 ^ 32
  size_fits x small free =
      let xs = list_at (lists_of cells lists) l in
      let most = length_most (x ∷ xs) (2 * length lists) (free l, are.apart.once l) (λ y stands. ⊎_elim (λ is. subst (λ n. n < 2 * length lists) is small) (λ later. range_here y later) stands) in
      let size = kept_here.size in
      let few = are.few in
      let next : length (x ∷ xs) ≡ length xs + 1 = omega arith in
      omega (arith, most, size, few, next)

-- the lists as their callers see them
pub inside_seen : (cells : List (Option Cell)) (lists : List Ends) (value : List (List ℕ)) → lists_of cells lists ≡ value → length value ≡ length lists
inside_seen cells lists value seen = ap length (sym seen) ∙ length-map lists (brackets_of cells)

-- ---- what a push makes

abbrev pub pushed_cells : List (Option Cell) → Ends → ℕ → List (Option Cell)
pushed_cells cells ends x = set (with_above cells ends.top (Some x)) x (Some (record { above = None; below = ends.top }))

abbrev pub pushed_ends : Ends → ℕ → Ends
pushed_ends ends x = record { top = Some x; bottom = option_or ends.bottom (Some x); size = ends.size + 1 }

first_stands : (xs : List ℕ) (y : ℕ) → first_of xs None ≡ Some y → Stands xs y
first_stands [] y is = absurd cc
first_stands (x ∷ xs) y is = inl cc

pub told_has : (cells : List (Option Cell)) (up cell : Option ℕ) (y : ℕ) → HasCell cells cell → IsSome (slice_index_or cells y None) → IsSome (slice_index_or (with_above cells cell up) y None)
told_has cells up None y has some = some
told_has cells up (Some x) y has some = ⊎_elim
    (λ (same : y ≡ x). subst (λ n. IsSome (slice_index_or (with_above cells (Some x) up) n None)) (sym same) (ap is_some (set_here cells x (cell_inside cells x has) (record { above = up; below = below cells x }))))
    (λ differ. subst IsSome (sym (set_other cells x (cell_inside cells x has) (record { above = up; below = below cells x }) y differ)) some)
    (cases_eq y x)

module _ (cells : List (Option Cell)) (lists : List Ends) (are : AreKept cells lists) (l : ℕ) (inside : l < length lists) (ends : Ends) (read : ends ≡ get_or lists l ends) (x : ℕ) (small : x < 2 * length lists) (free : IsFree (lists_of cells lists) x) where
  top_has : HasCell cells ends.top
  top_has = has_top cells lists are l inside ends read

  x_inside : x < length (with_above cells ends.top (Some x))
  x_inside = let lt = cell_inside cells x (are.has_cell x small) in let many = told_length cells (Some x) ends.top in omega (arith, lt, many)

  other_cell : (y : ℕ) → y ≢ x → slice_index_or (pushed_cells cells ends x) y None ≡ slice_index_or (with_above cells ends.top (Some x)) y None
  other_cell y differ = set_other (with_above cells ends.top (Some x)) x x_inside (record { above = None; below = ends.top }) y differ

  new_below : (y : ℕ) → y ≢ x → below (pushed_cells cells ends x) y ≡ below cells y
  new_below y differ = ap below_in (other_cell y differ) ∙ told_below cells (Some x) ends.top y top_has

  new_above : (y : ℕ) → y ≢ x → ends.top ≢ Some y → above (pushed_cells cells ends x) y ≡ above cells y
  new_above y differ not_top = ap above_in (other_cell y differ) ∙ told_above cells (Some x) ends.top y top_has not_top

  above_top : (y : ℕ) → y ≢ x → ends.top ≡ Some y → above (pushed_cells cells ends x) y ≡ Some x
  above_top y differ is_top =
      ap above_in (other_cell y differ)
      ∙ ap (λ cell. above (with_above cells cell (Some x)) y) is_top
      ∙ told_here cells (Some x) y (subst (HasCell cells) is_top top_has)

  not_x : (m y : ℕ) → Stands (list_at (lists_of cells lists) m) y → y ≢ x
  not_x m y stands is = free m (subst (Stands (list_at (lists_of cells lists) m)) is stands)

  top_stands : (y : ℕ) → ends.top ≡ Some y → Stands (list_at (lists_of cells lists) l) y
  top_stands y is = first_stands (list_at (lists_of cells lists) l) y (sym (kept_here cells lists are l inside ends read).top ∙ is)

  -- the sequences of other lists
  other_same : (m : ℕ) → m ≢ l → AreSame (above cells) (below cells) (above (pushed_cells cells ends x)) (below (pushed_cells cells ends x)) (list_at (lists_of cells lists) m)
  other_same m differ = same_all (above cells) (below cells) (above (pushed_cells cells ends x)) (below (pushed_cells cells ends x)) (list_at (lists_of cells lists) m)
      (λ y stands. (new_above y (not_x m y stands) (λ is_top. differ (are.apart.one_list m l y stands (top_stands y is_top))), new_below y (not_x m y stands)))

  -- the sequence below the bracket
  under : (xs : List ℕ) → IsOnce xs → ((y : ℕ) → Stands xs y → y ≢ x) → ends.top ≡ first_of xs None → IsChain (above cells) (below cells) None xs None → IsChain (above (pushed_cells cells ends x)) (below (pushed_cells cells ends x)) (Some x) xs None
  under [] once others top chain = tt
  under (y ∷ ys) (not, once) others top chain =
      chain_below (above cells) (below cells) (above (pushed_cells cells ends x)) (below (pushed_cells cells ends x)) None (Some x) y ys None
      (above_top y (others y (inl refl)) top)
      (new_below y (others y (inl refl)))
      (same_all (above cells) (below cells) (above (pushed_cells cells ends x)) (below (pushed_cells cells ends x)) ys
      (λ z stands. (new_above z (others z (inr stands)) (λ is_top. let e : y ≡ z = cc in not (subst (Stands ys) (sym e) stands)), new_below z (others z (inr stands)))))
      chain

  pub pushed_kept : IsKept (pushed_cells cells ends x) (pushed_ends ends x) (x ∷ list_at (lists_of cells lists) l)
  pushed_kept =
      let xs = list_at (lists_of cells lists) l in
      let old = kept_here cells lists are l inside ends read in
      record {
        chain = (
          set_above (with_above cells ends.top (Some x)) x x_inside (record { above = None; below = ends.top }),
          set_below (with_above cells ends.top (Some x)) x x_inside (record { above = None; below = ends.top }) ∙ old.top,
          under xs (are.apart.once l) (not_x l) old.top old.chain,
        );
        top = refl;
        bottom = ap (λ cell. option_or cell (Some x)) old.bottom ∙ last_or xs (Some x);
        size = let size = old.size in let next : length (x ∷ xs) ≡ length xs + 1 = omega arith in omega (arith, size, next);
      }

  seen_inside : l < length (lists_of cells lists)
  seen_inside = let many = length-map lists (brackets_of cells) in omega (arith, inside, many)

  pushed_has : (y : ℕ) → y < 2 * length lists → IsSome (slice_index_or (pushed_cells cells ends x) y None)
  pushed_has y lt = ⊎_elim
      (λ (same : y ≡ x). subst (λ n. IsSome (slice_index_or (pushed_cells cells ends x) n None)) (sym same) (ap is_some (set_here (with_above cells ends.top (Some x)) x x_inside (record { above = None; below = ends.top }))))
      (λ differ. subst IsSome (sym (other_cell y differ)) (told_has cells (Some x) ends.top y top_has (are.has_cell y lt)))
      (cases_eq y x)

  pushed_other : (m : ℕ) → m < length lists → m ≢ l → IsKept (pushed_cells cells ends x) (get_or lists m no_ends) (list_at (lists_of cells lists) m)
  pushed_other m lt differ =
      let old = (links cells lists are).kept m lt in
      record {
        chain = chain_same (above cells) (below cells) (above (pushed_cells cells ends x)) (below (pushed_cells cells ends x)) None (list_at (lists_of cells lists) m) None (other_same m differ) old.chain;
        top = old.top;
        bottom = old.bottom;
        size = old.size;
      }

  pub push_links : Link (pushed_cells cells ends x) (set lists l (pushed_ends ends x)) (set (lists_of cells lists) l (x ∷ list_at (lists_of cells lists) l))
  push_links = record {
    same_length = length-set (lists_of cells lists) l (x ∷ list_at (lists_of cells lists) l) ∙ length-map lists (brackets_of cells) ∙ sym (length-set lists l (pushed_ends ends x));
    few = let few = are.few in let many = length-set lists l (pushed_ends ends x) in omega (arith, few, many);
    has_cell = λ y lt. let many = length-set lists l (pushed_ends ends x) in pushed_has y (omega (arith, lt, many));
    kept = λ m lt. ⊎_elim
        (λ (same : m ≡ l). subst (λ n. IsKept (pushed_cells cells ends x) (get_or (set lists l (pushed_ends ends x)) n no_ends) (list_at (set (lists_of cells lists) l (x ∷ list_at (lists_of cells lists) l)) n)) (sym same)
        (subst (λ e. IsKept (pushed_cells cells ends x) e (list_at (set (lists_of cells lists) l (x ∷ list_at (lists_of cells lists) l)) l)) (sym (get_or-set_same lists l (pushed_ends ends x) no_ends inside))
        (subst (IsKept (pushed_cells cells ends x) (pushed_ends ends x)) (sym (get_or-set_same (lists_of cells lists) l (x ∷ list_at (lists_of cells lists) l) [] seen_inside)) pushed_kept)))
        (λ differ.
        subst (λ e. IsKept (pushed_cells cells ends x) e (list_at (set (lists_of cells lists) l (x ∷ list_at (lists_of cells lists) l)) m)) (sym (get_or-set_other lists l m (pushed_ends ends x) no_ends differ))
        (subst (IsKept (pushed_cells cells ends x) (get_or lists m no_ends)) (sym (get_or-set_other (lists_of cells lists) l m (x ∷ list_at (lists_of cells lists) l) [] differ))
        (pushed_other m (let many = length-set lists l (pushed_ends ends x) in omega (arith, lt, many)) differ)))
        (cases_eq m l);
  }

  push_apart : AreApart (set (lists_of cells lists) l (x ∷ list_at (lists_of cells lists) l))
  push_apart = apart_put (lists_of cells lists) are.apart l (x ∷ list_at (lists_of cells lists) l) seen_inside (free l, are.apart.once l)
      (λ y stands. ⊎_elim (λ is. inr (subst (IsFree (lists_of cells lists)) is free)) (λ later. inl later) stands)
      (λ y stands. ⊎_elim (λ is. subst (λ n. n < 2 * length (lists_of cells lists)) is (let many = length-map lists (brackets_of cells) in omega (arith, small, many))) (λ later. are.apart.in_range l y later) stands)

  pub pushed_are : AreKept (pushed_cells cells ends x) (set lists l (pushed_ends ends x))
  pushed_are = are_kept (pushed_cells cells ends x) (set lists l (pushed_ends ends x)) (set (lists_of cells lists) l (x ∷ list_at (lists_of cells lists) l)) push_links push_apart

  pub pushed_seen : lists_of (pushed_cells cells ends x) (set lists l (pushed_ends ends x)) ≡ set (lists_of cells lists) l (x ∷ list_at (lists_of cells lists) l)
  pushed_seen = lists_are (pushed_cells cells ends x) (set lists l (pushed_ends ends x)) (set (lists_of cells lists) l (x ∷ list_at (lists_of cells lists) l)) push_links
