-- Two sequences that are linked into one.
use Rattle.std.proofs.Common.{◌≡◌, ◌≢◌, inl, inr, ℕ, ◌++◌, List, [], ◌∷◌, slice_index_or, IsSome, is_some, Option, Some, None, refl, sym, ap, subst, ◌∙◌, ⊎_elim}
use Rattle.std.proofs.lemmas.Bool.{cases_eq}
use Rattle.brackets.specs.Brackets.{IsOnce, Stands}
use Rattle.brackets.specs.Kept.{HasCell, above, above_in, below, below_in, with_above, with_below}
use Rattle.brackets.specs.Links.{IsChain, first_of, last_of}
use Rattle.brackets.specs.declared.lists.Cell.{Cell}
use Rattle.brackets.proofs.CellLemmas.{cell_inside, set_above, set_below, set_other, set_here}
use Rattle.brackets.proofs.ChainLemmas.{AreSame, chain_above, chain_below, chain_joins, same_all}
use Rattle.brackets.proofs.PushLemmas.{told_above, told_below, told_has, told_here}

-- ---- a cell that is told its lower neighbour

module _ (cells : List (Option Cell)) (down : Option ℕ) where
  pub led_above : (cell : Option ℕ) (y : ℕ) → HasCell cells cell → above (with_below cells cell down) y ≡ above cells y
  led_above None y has = refl
  led_above (Some x) y has = ⊎_elim
      (λ (same : y ≡ x). subst (λ n. above (with_below cells (Some x) down) n ≡ above cells n) (sym same) (set_above cells x (cell_inside cells x has) (record { above = above cells x; below = down })))
      (λ differ. ap above_in (set_other cells x (cell_inside cells x has) (record { above = above cells x; below = down }) y differ))
      (cases_eq y x)

  pub led_below : (cell : Option ℕ) (y : ℕ) → HasCell cells cell → cell ≢ Some y → below (with_below cells cell down) y ≡ below cells y
  led_below None y has differ = refl
  led_below (Some x) y has differ = ap below_in (set_other cells x (cell_inside cells x has) (record { above = above cells x; below = down }) y (λ e. differ (ap Some (sym e))))

  pub led_here : (y : ℕ) → HasCell cells (Some y) → below (with_below cells (Some y) down) y ≡ down
  led_here y has = set_below cells y (cell_inside cells y has) (record { above = above cells y; below = down })

  pub led_has : (cell : Option ℕ) (y : ℕ) → HasCell cells cell → IsSome (slice_index_or cells y None) → IsSome (slice_index_or (with_below cells cell down) y None)
  led_has None y has some = some
  led_has (Some x) y has some = ⊎_elim
      (λ (same : y ≡ x). subst (λ n. IsSome (slice_index_or (with_below cells (Some x) down) n None)) (sym same) (ap is_some (set_here cells x (cell_inside cells x has) (record { above = above cells x; below = down }))))
      (λ differ. subst IsSome (sym (set_other cells x (cell_inside cells x has) (record { above = above cells x; below = down }) y differ)) some)
      (cases_eq y x)

  pub led_cell : (cell other : Option ℕ) → HasCell cells cell → HasCell cells other → HasCell (with_below cells cell down) other
  led_cell cell None has some = tt
  led_cell cell (Some y) has some = led_has cell y has some

-- ---- two cells that become neighbours

-- the cells after the one is told to stand above the other
abbrev pub joined : List (Option Cell) → Option ℕ → Option ℕ → List (Option Cell)
joined cells upper lower = with_above (with_below cells upper lower) lower upper

module _ (cells : List (Option Cell)) (upper lower : Option ℕ) (has_upper : HasCell cells upper) (has_lower : HasCell cells lower) where
  still_lower : HasCell (with_below cells upper lower) lower
  still_lower = led_cell cells lower upper lower has_upper has_lower

  pub join_above : (y : ℕ) → lower ≢ Some y → above (joined cells upper lower) y ≡ above cells y
  join_above y differ = told_above (with_below cells upper lower) upper lower y still_lower differ ∙ led_above cells lower upper y has_upper

  pub join_below : (y : ℕ) → upper ≢ Some y → below (joined cells upper lower) y ≡ below cells y
  join_below y differ = told_below (with_below cells upper lower) upper lower y still_lower ∙ led_below cells lower upper y has_upper differ

  pub join_lower : (y : ℕ) → lower ≡ Some y → above (joined cells upper lower) y ≡ upper
  join_lower y is =
      ap (λ cell. above (with_above (with_below cells upper lower) cell upper) y) is
      ∙ told_here (with_below cells upper lower) upper y (subst (HasCell (with_below cells upper lower)) is still_lower)

  pub join_upper : (y : ℕ) → upper ≡ Some y → below (joined cells upper lower) y ≡ lower
  join_upper y is =
      told_below (with_below cells upper lower) upper lower y still_lower
      ∙ ap (λ cell. below (with_below cells cell lower) y) is
      ∙ led_here cells lower y (subst (HasCell cells) is has_upper)

  pub join_has : (y : ℕ) → IsSome (slice_index_or cells y None) → IsSome (slice_index_or (joined cells upper lower) y None)
  join_has y some = told_has (with_below cells upper lower) upper lower y still_lower (led_has cells lower upper y has_upper some)

  -- sequences that have neither of them
  pub join_same : (zs : List ℕ) → ((y : ℕ) → Stands zs y → (upper ≢ Some y) × (lower ≢ Some y)) → AreSame (above cells) (below cells) (above (joined cells upper lower)) (below (joined cells upper lower)) zs
  join_same zs apart = same_all (above cells) (below cells) (above (joined cells upper lower)) (below (joined cells upper lower)) zs
      (λ y stands. let not = apart y stands in (join_above y not.1, join_below y not.0))

-- ---- sequences by their last one

pub record SplitLast (y : ℕ) (ys : List ℕ) : Type 0 where
  pub prefix : List ℕ
  pub last : ℕ
  pub is : y ∷ ys ≡ prefix ++ (last ∷ [])
  pub ends : (before : Option ℕ) → last_of (y ∷ ys) before ≡ Some last

pub split_last : (y : ℕ) (ys : List ℕ) → SplitLast y ys
split_last y [] = record { prefix = []; last = y; is = refl; ends = λ before. refl }
split_last y (z ∷ zs) =
    let later = split_last z zs in
    record { prefix = y ∷ later.prefix; last = later.last; is = ap (λ xs. y ∷ xs) later.is; ends = λ before. later.ends (Some y) }

stands_end : (xs : List ℕ) (x : ℕ) → Stands (xs ++ (x ∷ [])) x
stands_end [] x = inl refl
stands_end (y ∷ ys) x = inr (stands_end ys x)

pub first_in : (xs : List ℕ) (y : ℕ) → first_of xs None ≡ Some y → Stands xs y
first_in [] y is = absurd cc
first_in (x ∷ xs) y is = inl cc

pub last_in : (xs : List ℕ) (y : ℕ) → last_of xs None ≡ Some y → Stands xs y
last_in [] y is = absurd cc
last_in (x ∷ xs) y is =
    let split = split_last x xs in
    let e : Some split.last ≡ Some y = sym (split.ends None) ∙ is in
    let same : split.last ≡ y = cc in
    subst (λ zs. Stands zs y) (sym split.is) (subst (λ n. Stands (split.prefix ++ (split.last ∷ [])) n) same (stands_end split.prefix split.last))

pub stands_prefix : (xs ys : List ℕ) (x : ℕ) → Stands xs x → Stands (xs ++ ys) x
stands_prefix [] ys x stands = absurd stands
stands_prefix (z ∷ zs) ys x (inl is) = inl is
stands_prefix (z ∷ zs) ys x (inr later) = inr (stands_prefix zs ys x later)

once_last : (prefix : List ℕ) (last : ℕ) → IsOnce (prefix ++ (last ∷ [])) → Stands prefix last → ⊥
once_last [] last once stands = stands
once_last (z ∷ zs) last (not, once) (inl is) = not (subst (λ n. Stands (zs ++ (last ∷ [])) n) (sym is) (stands_end zs last))
once_last (z ∷ zs) last (not, once) (inr later) = once_last zs last once later

-- ---- the chains

module _ (cells : List (Option Cell)) (upper lower : Option ℕ) (has_upper : HasCell cells upper) (has_lower : HasCell cells lower) where
  -- the upper sequence ends above the lower one
  upper_split : (prefix : List ℕ) (last : ℕ) (after : Option ℕ) → upper ≡ Some last → IsOnce (prefix ++ (last ∷ [])) → ((y : ℕ) → Stands (prefix ++ (last ∷ [])) y → lower ≢ Some y) → IsChain (above cells) (below cells) None (prefix ++ (last ∷ [])) after → IsChain (above (joined cells upper lower)) (below (joined cells upper lower)) None (prefix ++ (last ∷ [])) lower
  upper_split prefix last after is once apart chain =
      chain_above (above cells) (below cells) (above (joined cells upper lower)) (below (joined cells upper lower)) None prefix last after lower
      (join_same cells upper lower has_upper has_lower prefix (λ y stands. (λ same. let e : last ≡ y = cc in once_last prefix last once (subst (Stands prefix) (sym e) stands), apart y (stands_prefix prefix (last ∷ []) y stands))))
      (join_above cells upper lower has_upper has_lower last (apart last (stands_end prefix last)))
      (join_upper cells upper lower has_upper has_lower last is)
      chain

  pub upper_chain : (ps : List ℕ) (after : Option ℕ) → upper ≡ last_of ps None → IsOnce ps → ((y : ℕ) → Stands ps y → lower ≢ Some y) → IsChain (above cells) (below cells) None ps after → IsChain (above (joined cells upper lower)) (below (joined cells upper lower)) None ps lower
  upper_chain [] after is once apart chain = tt
  upper_chain (y ∷ ys) after is once apart chain =
      let split = split_last y ys in
      subst (λ xs. IsChain (above (joined cells upper lower)) (below (joined cells upper lower)) None xs lower) (sym split.is)
      (upper_split split.prefix split.last after (is ∙ split.ends None) (subst IsOnce split.is once)
      (λ z stands. apart z (subst (λ xs. Stands xs z) (sym split.is) stands))
      (subst (λ xs. IsChain (above cells) (below cells) None xs after) split.is chain))

  -- the lower sequence begins below the upper one
  pub lower_chain : (qs : List ℕ) (before : Option ℕ) → lower ≡ first_of qs None → IsOnce qs → ((y : ℕ) → Stands qs y → upper ≢ Some y) → IsChain (above cells) (below cells) before qs None → IsChain (above (joined cells upper lower)) (below (joined cells upper lower)) upper qs None
  lower_chain [] before is once apart chain = tt
  lower_chain (q ∷ qs) before is (not, once) apart chain =
      chain_below (above cells) (below cells) (above (joined cells upper lower)) (below (joined cells upper lower)) before upper q qs None
      (join_lower cells upper lower has_upper has_lower q is)
      (join_below cells upper lower has_upper has_lower q (apart q (inl refl)))
      (join_same cells upper lower has_upper has_lower qs (λ y stands. (apart y (inr stands), λ same. let e : q ≡ y = cc in not (subst (Stands qs) (sym e) stands))))
      chain

  pub join_chain : (ps qs : List ℕ) (after before : Option ℕ) → upper ≡ last_of ps None → lower ≡ first_of qs None → IsOnce ps → IsOnce qs → ((y : ℕ) → Stands ps y → Stands qs y → ⊥) → IsChain (above cells) (below cells) None ps after → IsChain (above cells) (below cells) before qs None → IsChain (above (joined cells upper lower)) (below (joined cells upper lower)) None (ps ++ qs) None
  join_chain ps qs after before up down once_p once_q apart chain_p chain_q =
      chain_joins (above (joined cells upper lower)) (below (joined cells upper lower)) None ps qs None
      (subst (IsChain (above (joined cells upper lower)) (below (joined cells upper lower)) None ps) down (upper_chain ps after up once_p (λ y stands is. apart y stands (first_in qs y (sym down ∙ is))) chain_p))
      (subst (λ cell. IsChain (above (joined cells upper lower)) (below (joined cells upper lower)) cell qs None) up (lower_chain qs before down once_q (λ y stands is. apart y (last_in ps y (sym up ∙ is)) stands) chain_q))
