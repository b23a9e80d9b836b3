-- A list whose brackets are put under those of another one.
use Rattle.std.proofs.Common.{◌≡◌, ◌≢◌, inl, inr, ℕ, ◌+◌, ◌*◌, ◌<◌, ◌^◌, ◌++◌, List, [], ◌∷◌, length, get_or, set, Option, None, refl, sym, ap, subst, ◌∙◌, ⊎_elim, arith, length-set, length-append}
use Rattle.std.proofs.lemmas.Bool.{cases_eq}
use Rattle.std.proofs.lemmas.List.{get_or-set_same, get_or-set_other, length-map, set_comm}
use Rattle.std.specs.Option.{option_or}
use Rattle.brackets.specs.Brackets.{AreApart, IsFree, IsOnce, Stands, list_at}
use Rattle.brackets.specs.Kept.{AreKept, HasCell, IsKept, above, below, brackets_of, lists_of, no_ends}
use Rattle.brackets.specs.Links.{first_of, last_of}
use Rattle.brackets.specs.declared.lists.Cell.{Cell}
use Rattle.brackets.specs.declared.lists.Ends.{Ends}
use Rattle.brackets.proofs.ApartLemmas.{apart_put, once_append, stands_append}
use Rattle.brackets.proofs.ChainLemmas.{chain_same, first_append, first_or, last_append, last_or}
use Rattle.brackets.proofs.JoinLemmas.{first_in, join_chain, join_has, join_same, joined, last_in, split_last}
use Rattle.brackets.proofs.KeptLemmas.{Link, are_kept, links, lists_are}
use Rattle.brackets.proofs.PushLemmas.{has_top, kept_here}
use Rattle.brackets.proofs.SizeLemmas.{length_most}

abbrev pub joined_ends : Ends → Ends → Ends
joined_ends ends under = record { top = option_or ends.top under.top; bottom = option_or under.bottom ends.bottom; size = ends.size + under.size }

-- the lower end of a list has a cell
module _ (cells : List (Option Cell)) (lists : List Ends) (are : AreKept cells lists) where
  many : length (lists_of cells lists) ≡ length lists
  many = length-map lists (brackets_of cells)

  pub range_of : (l y : ℕ) → Stands (list_at (lists_of cells lists) l) y → y < 2 * length lists
  range_of l y stands = let lt = are.apart.in_range l y stands in let n = many in omega (arith, lt, n)

  pub has_last : (xs : List ℕ) → ((y : ℕ) → Stands xs y → y < 2 * length lists) → HasCell cells (last_of xs None)
  has_last [] range = tt
  has_last (x ∷ xs) range =
      let split = split_last x xs in
      subst (HasCell cells) (sym (split.ends None)) (are.has_cell split.last (range split.last (last_in (x ∷ xs) split.last (split.ends None))))

  pub has_bottom : (l : ℕ) → l < length lists → (ends : Ends) → ends ≡ get_or lists l ends → HasCell cells ends.bottom
  has_bottom l inside ends read = subst (HasCell cells) (sym (kept_here cells lists are l inside ends read).bottom) (has_last (list_at (lists_of cells lists) l) (range_of l))

module _ (cells : List (Option Cell)) (lists : List Ends) (are : AreKept cells lists) (u w : ℕ) (differ : u ≢ w) (u_in : u < length lists) (w_in : w < length lists) (ends under : Ends) (read_u : ends ≡ get_or lists u ends) (read_w : under ≡ get_or lists w under) where
  upper_has : HasCell cells ends.bottom
  upper_has = has_bottom cells lists are u u_in ends read_u

  lower_has : HasCell cells under.top
  lower_has = has_top cells lists are w w_in under read_w

  disjoint : (y : ℕ) → Stands (list_at (lists_of cells lists) u) y → Stands (list_at (lists_of cells lists) w) y → ⊥
  disjoint y first second = differ (are.apart.one_list u w y first second)

  both_once : IsOnce (list_at (lists_of cells lists) u ++ list_at (lists_of cells lists) w)
  both_once = once_append (list_at (lists_of cells lists) u) (list_at (lists_of cells lists) w) (are.apart.once u) (are.apart.once w) disjoint

  both_range : (y : ℕ) → Stands (list_at (lists_of cells lists) u ++ list_at (lists_of cells lists) w) y → y < 2 * length lists
  both_range y stands = ⊎_elim (λ first. range_of cells lists are u y first) (λ second. range_of cells lists are w y second) (stands_append (list_at (lists_of cells lists) u) (list_at (lists_of cells lists) w) y stands)

  pub sizes_fit : ends.size + under.size < 2 ^ 32
  sizes_fit =
      let xs = list_at (lists_of cells lists) u in
      let ys = list_at (lists_of cells lists) w in
      let most = length_most (xs ++ ys) (2 * length lists) both_once both_range in
      let first = (kept_here cells lists are u u_in ends read_u).size in
      let second = (kept_here cells lists are w w_in under read_w).size in
      let few = are.few in
      let all = length-append xs ys in
      omega (arith, most, first, second, few, all)

  joined_kept : IsKept (joined cells ends.bottom under.top) (joined_ends ends under) (list_at (lists_of cells lists) u ++ list_at (lists_of cells lists) w)
  joined_kept =
      let xs = list_at (lists_of cells lists) u in
      let ys = list_at (lists_of cells lists) w in
      let first = kept_here cells lists are u u_in ends read_u in
      let second = kept_here cells lists are w w_in under read_w in
      record {
        chain = join_chain cells ends.bottom under.top upper_has lower_has xs ys None None first.bottom second.top (are.apart.once u) (are.apart.once w) disjoint first.chain second.chain;
        top = ap (λ cell. option_or cell under.top) first.top ∙ ap (λ cell. option_or (first_of xs None) cell) second.top ∙ first_or xs (first_of ys None) ∙ sym (first_append xs ys None);
        bottom = ap (λ cell. option_or cell ends.bottom) second.bottom ∙ ap (λ cell. option_or (last_of ys None) cell) first.bottom ∙ last_or ys (last_of xs None) ∙ sym (last_append xs ys None);
        size = let a = first.size in let b = second.size in let all = length-append xs ys in omega (arith, a, b, all);
      }

  other_kept : (m : ℕ) → m < length lists → m ≢ u → m ≢ w → IsKept (joined cells ends.bottom under.top) (get_or lists m no_ends) (list_at (lists_of cells lists) m)
  other_kept m lt not_u not_w =
      let old = (links cells lists are).kept m lt in
      let first = kept_here cells lists are u u_in ends read_u in
      let second = kept_here cells lists are w w_in under read_w in
      record {
        chain = chain_same (above cells) (below cells) (above (joined cells ends.bottom under.top)) (below (joined cells ends.bottom under.top)) None (list_at (lists_of cells lists) m) None
            (join_same cells ends.bottom under.top upper_has lower_has (list_at (lists_of cells lists) m) (λ y stands. (
              λ is. not_u (are.apart.one_list m u y stands (last_in (list_at (lists_of cells lists) u) y (sym first.bottom ∙ is))),
              λ is. not_w (are.apart.one_list m w y stands (first_in (list_at (lists_of cells lists) w) y (sym second.top ∙ is))),
            )))
            old.chain;
        top = old.top;
        bottom = old.bottom;
        size = old.size;
      }

  abbrev both : List ℕ
  both = list_at (lists_of cells lists) u ++ list_at (lists_of cells lists) w

  abbrev new_lists : List (List ℕ)
  new_lists = set (set (lists_of cells lists) u both) w []

  abbrev new_ends : List Ends
  new_ends = set (set lists u (joined_ends ends under)) w no_ends

  ends_length : length new_ends ≡ length lists
  ends_length = length-set (set lists u (joined_ends ends under)) w no_ends ∙ length-set lists u (joined_ends ends under)

  lists_length : length new_lists ≡ length lists
  lists_length = length-set (set (lists_of cells lists) u both) w [] ∙ length-set (lists_of cells lists) u both ∙ length-map lists (brackets_of cells)

  seen_in : (l : ℕ) → l < length lists → l < length (lists_of cells lists)
  seen_in l lt = let n = length-map lists (brackets_of cells) in omega (arith, lt, n)

  list_w : list_at new_lists w ≡ []
  list_w = get_or-set_same (set (lists_of cells lists) u both) w [] [] (let n = length-set (lists_of cells lists) u both in let lt = seen_in w w_in in omega (arith, n, lt))

  ends_w : get_or new_ends w no_ends ≡ no_ends
  ends_w = get_or-set_same (set lists u (joined_ends ends under)) w no_ends no_ends (let n = length-set lists u (joined_ends ends under) in omega (arith, n, w_in))

  list_u : list_at new_lists u ≡ both
  list_u = get_or-set_other (set (lists_of cells lists) u both) w u [] [] differ ∙ get_or-set_same (lists_of cells lists) u both [] (seen_in u u_in)

  ends_u : get_or new_ends u no_ends ≡ joined_ends ends under
  ends_u = get_or-set_other (set lists u (joined_ends ends under)) w u no_ends no_ends differ ∙ get_or-set_same lists u (joined_ends ends under) no_ends u_in

  list_m : (m : ℕ) → m ≢ u → m ≢ w → list_at new_lists m ≡ list_at (lists_of cells lists) m
  list_m m not_u not_w = get_or-set_other (set (lists_of cells lists) u both) w m [] [] not_w ∙ get_or-set_other (lists_of cells lists) u m both [] not_u

  ends_m : (m : ℕ) → m ≢ u → m ≢ w → get_or new_ends m no_ends ≡ get_or lists m no_ends
  ends_m m not_u not_w = get_or-set_other (set lists u (joined_ends ends under)) w m no_ends no_ends not_w ∙ get_or-set_other lists u m (joined_ends ends under) no_ends not_u

  no_kept : IsKept (joined cells ends.bottom under.top) no_ends []
  no_kept = record { chain = tt; top = refl; bottom = refl; size = refl }

  told : (m : ℕ) (e : Ends) (xs : List ℕ) → get_or new_ends m no_ends ≡ e → list_at new_lists m ≡ xs → IsKept (joined cells ends.bottom under.top) e xs → IsKept (joined cells ends.bottom under.top) (get_or new_ends m no_ends) (list_at new_lists m)
  told m e xs is also kept = subst (λ d. IsKept (joined cells ends.bottom under.top) d (list_at new_lists m)) (sym is) (subst (IsKept (joined cells ends.bottom under.top) e) (sym also) kept)

  each_kept : (m : ℕ) → m < length lists → IsKept (joined cells ends.bottom under.top) (get_or new_ends m no_ends) (list_at new_lists m)
  each_kept m lt = ⊎_elim
      (λ (at_w : m ≡ w). told m no_ends [] (ap (λ n. get_or new_ends n no_ends) at_w ∙ ends_w) (ap (list_at new_lists) at_w ∙ list_w) no_kept)
      (λ not_w. ⊎_elim
      (λ (at_u : m ≡ u). told m (joined_ends ends under) both (ap (λ n. get_or new_ends n no_ends) at_u ∙ ends_u) (ap (list_at new_lists) at_u ∙ list_u) joined_kept)
      (λ not_u. told m (get_or lists m no_ends) (list_at (lists_of cells lists) m) (ends_m m not_u not_w) (list_m m not_u not_w) (other_kept m lt not_u not_w))
      (cases_eq m u))
      (cases_eq m w)

  concat_links : Link (joined cells ends.bottom under.top) new_ends new_lists
  concat_links = record {
    same_length = lists_length ∙ sym ends_length;
    few = let few = are.few in let n = ends_length in omega (arith, few, n);
    has_cell = λ x lt. join_has cells ends.bottom under.top upper_has lower_has x (are.has_cell x (let n = ends_length in omega (arith, lt, n)));
    kept = λ m lt. each_kept m (let n = ends_length in omega (arith, lt, n));
  }

  -- ---- brackets stand once

  abbrev emptied : List (List ℕ)
  emptied = set (lists_of cells lists) w []

  emptied_apart : AreApart emptied
  emptied_apart = apart_put (lists_of cells lists) are.apart w [] (seen_in w w_in) tt (λ x stands. absurd stands) (λ x stands. absurd stands)

  emptied_other : (m : ℕ) → m ≢ w → list_at emptied m ≡ list_at (lists_of cells lists) m
  emptied_other m not_w = get_or-set_other (lists_of cells lists) w m [] [] not_w

  freed : (y : ℕ) → Stands (list_at (lists_of cells lists) w) y → IsFree emptied y
  freed y stands m there = ⊎_elim
      (λ (at_w : m ≡ w). let none : list_at emptied m ≡ [] = ap (list_at emptied) at_w ∙ get_or-set_same (lists_of cells lists) w [] [] (seen_in w w_in) in absurd (subst (λ xs. Stands xs y) none there))
      (λ not_w. absurd (not_w (are.apart.one_list m w y (subst (λ xs. Stands xs y) (emptied_other m not_w) there) stands)))
      (cases_eq m w)

  emptied_length : length emptied ≡ length lists
  emptied_length = length-set (lists_of cells lists) w [] ∙ length-map lists (brackets_of cells)

  turned_apart : AreApart (set emptied u both)
  turned_apart = apart_put emptied emptied_apart u both (let n = emptied_length in omega (arith, n, u_in)) both_once
      (λ y stands. ⊎_elim
      (λ first. inl (subst (λ xs. Stands xs y) (sym (emptied_other u differ)) first))
      (λ second. inr (freed y second))
      (stands_append (list_at (lists_of cells lists) u) (list_at (lists_of cells lists) w) y stands))
      (λ y stands. let lt = both_range y stands in let n = emptied_length in omega (arith, lt, n))

  concat_apart : AreApart new_lists
  concat_apart = subst AreApart (set_comm (lists_of cells lists) w u [] both (λ e. differ (sym e))) turned_apart

  pub concat_are : AreKept (joined cells ends.bottom under.top) (set (set lists u (joined_ends ends under)) w no_ends)
  concat_are = are_kept (joined cells ends.bottom under.top) new_ends new_lists concat_links concat_apart

  pub concat_seen : lists_of (joined cells ends.bottom under.top) (set (set lists u (joined_ends ends under)) w no_ends) ≡ set (set (lists_of cells lists) u (list_at (lists_of cells lists) u ++ list_at (lists_of cells lists) w)) w []
  concat_seen = lists_are (joined cells ends.bottom under.top) new_ends new_lists concat_links
