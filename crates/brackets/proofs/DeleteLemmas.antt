-- A bracket that leaves its list.
use Rattle.std.proofs.Common.{◌≡◌, ◌≢◌, ◌==◌, inl, inr, ℕ, ◌+◌, ◌-◌, ◌*◌, ◌<◌, ◌≤◌, ◌++◌, true, false, if◌then◌else◌, List, [], ◌∷◌, length, get_or, set, slice_index_or, Option, Some, None, refl, sym, ap, subst, ◌∙◌, ⊎_elim, arith, length-set, length-append}
use Rattle.std.proofs.lemmas.Bool.{cases_Bool, cases_eq, cases_lt, eqb-true, eq-eqb}
use Rattle.std.proofs.lemmas.List.{get_or_default, get_or_past, get_or-set_same, get_or-set_other, length-map}
use Rattle.brackets.specs.Brackets.{AreApart, IsOnce, Stands, list_at, without}
use Rattle.brackets.specs.Kept.{AreKept, HasCell, IsKept, above, above_in, below, below_in, brackets_of, end_after, lists_of, no_ends}
use Rattle.brackets.specs.Links.{IsChain, first_of, last_of}
use Rattle.brackets.specs.declared.lists.Cell.{Cell}
use Rattle.brackets.specs.declared.lists.Ends.{Ends}
use Rattle.brackets.proofs.ApartLemmas.{apart_put, once_append, stands_append}
use Rattle.brackets.proofs.ChainLemmas.{chain_lower, chain_same, chain_upper, last_append}
use Rattle.brackets.proofs.ConcatLemmas.{has_last, range_of}
use Rattle.brackets.proofs.JoinLemmas.{first_in, join_chain, join_has, join_same, joined, last_in, split_last, stands_prefix}
use Rattle.brackets.proofs.KeptLemmas.{Link, are_kept, links, lists_are}
use Rattle.brackets.proofs.PushLemmas.{has_first, kept_here}

-- ---- a sequence about one of its brackets

pub record Splits (xs : List ℕ) (x : ℕ) : Type 0 where
  pub over : List ℕ
  pub under : List ℕ
  pub is : xs ≡ over ++ (x ∷ under)
  pub rest : without xs x ≡ over ++ under

pub splits : (xs : List ℕ) (x : ℕ) → Stands xs x → Splits xs x
splits [] x stands = absurd stands
splits (y ∷ ys) x stands = ⊎_elim
    (λ (here : (y == x) ≡ true). record {
      over = [];
      under = ys;
      is = ap (λ n. n ∷ ys) (eqb-true y x here);
      rest = ap (λ b. if b then ys else y ∷ without ys x) here;
    })
    (λ (not : (y == x) ≡ false).
    let later : Stands ys x = ⊎_elim (λ (is : y ≡ x). let e : true ≡ false = sym (eq-eqb y x is) ∙ not in absurd cc) (λ more. more) stands in
    let more = splits ys x later in
    record {
      over = y ∷ more.over;
      under = more.under;
      is = ap (λ zs. y ∷ zs) more.is;
      rest = ap (λ b. if b then ys else y ∷ without ys x) not ∙ ap (λ zs. y ∷ zs) more.rest;
    })
    (cases_Bool (y == x))

stands_back : (ps qs : List ℕ) (y : ℕ) → Stands qs y → Stands (ps ++ qs) y
stands_back [] qs y stands = stands
stands_back (p ∷ ps) qs y stands = inr (stands_back ps qs y stands)

pub record OnceParts (ps qs : List ℕ) : Type 0 where
  pub first : IsOnce ps
  pub second : IsOnce qs
  pub apart : (y : ℕ) → Stands ps y → Stands qs y → ⊥

once_parts : (ps qs : List ℕ) → IsOnce (ps ++ qs) → OnceParts ps qs
once_parts [] qs once = record { first = tt; second = once; apart = λ y none there. none }
once_parts (p ∷ ps) qs (not, once) =
    let parts = once_parts ps qs once in
    record {
      first = (λ stands. not (stands_prefix ps qs p stands), parts.first);
      second = parts.second;
      apart = λ y stands there. ⊎_elim (λ is. not (stands_back ps qs p (subst (Stands qs) (sym is) there))) (λ more. parts.apart y more there) stands;
    }

-- the ends without the bracket
top_after : (ps qs : List ℕ) (x : ℕ) → end_after (last_of ps None) (first_of (ps ++ (x ∷ qs)) None) (first_of qs None) ≡ first_of (ps ++ qs) None
top_after [] qs x = refl
top_after (p ∷ ps) qs x = let split = split_last p ps in ap (λ cell. end_after cell (Some p) (first_of qs None)) (split.ends None)

bottom_after : (ps qs : List ℕ) (x : ℕ) → end_after (first_of qs None) (last_of (ps ++ (x ∷ qs)) None) (last_of ps None) ≡ last_of (ps ++ qs) None
bottom_after ps [] x = sym (last_append ps [] None)
bottom_after ps (q ∷ qs) x = last_append ps (x ∷ q ∷ qs) None ∙ sym (last_append ps (q ∷ qs) None)

-- a list with a bracket is there
pub list_inside : (lists : List (List ℕ)) (l x : ℕ) → Stands (list_at lists l) x → l < length lists
list_inside lists l x stands = ⊎_elim
    (λ lt. lt)
    (λ (past : length lists ≤ l). absurd (subst (λ xs. Stands xs x) (get_or_past lists l [] past) stands))
    (cases_lt l (length lists))

-- the ends of a list with a bracket, as they are read
pub own_read : (cells : List (Option Cell)) (lists : List Ends) (l x : ℕ) → Stands (list_at (lists_of cells lists) l) x → get_or lists l no_ends ≡ get_or lists l (get_or lists l no_ends)
own_read cells lists l x stands = get_or_default lists l no_ends (get_or lists l no_ends) (let lt = list_inside (lists_of cells lists) l x stands in let n = length-map lists (brackets_of cells) in omega (arith, lt, n))

abbrev pub ends_without : Ends → Option ℕ → Option ℕ → Ends
ends_without ends upper lower = record { top = end_after upper ends.top lower; bottom = end_after lower ends.bottom upper; size = ends.size - 1 }

module _ (cells : List (Option Cell)) (lists : List Ends) (are : AreKept cells lists) (l x : ℕ) (stands : Stands (list_at (lists_of cells lists) l) x) (ends : Ends) (read : ends ≡ get_or lists l ends) (cell : Cell) (holds : slice_index_or cells x None ≡ Some cell) where
  here : l < length lists
  here = let lt = list_inside (lists_of cells lists) l x stands in let n = length-map lists (brackets_of cells) in omega (arith, lt, n)

  abbrev parts : Splits (list_at (lists_of cells lists) l) x
  parts = splits (list_at (lists_of cells lists) l) x stands

  old : IsKept cells ends (parts.over ++ (x ∷ parts.under))
  old = subst (IsKept cells ends) parts.is (kept_here cells lists are l here ends read)

  once : OnceParts parts.over (x ∷ parts.under)
  once = once_parts parts.over (x ∷ parts.under) (subst IsOnce parts.is (are.apart.once l))

  about : IsChain (above cells) (below cells) (last_of parts.over None) (x ∷ parts.under) None
  about = chain_lower (above cells) (below cells) None parts.over (x ∷ parts.under) None old.chain

  pub upper_is : cell.above ≡ last_of parts.over None
  upper_is = sym (ap above_in holds) ∙ about.0

  pub lower_is : cell.below ≡ first_of parts.under None
  lower_is = sym (ap below_in holds) ∙ about.1

  range : (y : ℕ) → Stands (parts.over ++ (x ∷ parts.under)) y → y < 2 * length lists
  range y there = range_of cells lists are l y (subst (λ xs. Stands xs y) (sym parts.is) there)

  pub has_upper : HasCell cells cell.above
  has_upper = subst (HasCell cells) (sym upper_is) (has_last cells lists are parts.over (λ y there. range y (stands_prefix parts.over (x ∷ parts.under) y there)))

  pub has_lower : HasCell cells cell.below
  has_lower = subst (HasCell cells) (sym lower_is) (has_first cells lists are l here ends read parts.under (λ y there. range y (stands_back parts.over (x ∷ parts.under) y (inr there))))

  once_under : IsOnce parts.under
  once_under = once.second.1

  disjoint : (y : ℕ) → Stands parts.over y → Stands parts.under y → ⊥
  disjoint y first second = once.apart y first (inr second)

  deleted_kept : IsKept (joined cells cell.above cell.below) (ends_without ends cell.above cell.below) (parts.over ++ parts.under)
  deleted_kept = record {
    chain = join_chain cells cell.above cell.below has_upper has_lower parts.over parts.under (Some x) (Some x) upper_is lower_is once.first once_under disjoint
        (chain_upper (above cells) (below cells) None parts.over (x ∷ parts.under) None old.chain)
        about.2;
    top = ap (λ c. end_after c ends.top cell.below) upper_is ∙ ap (λ c. end_after (last_of parts.over None) ends.top c) lower_is ∙ ap (λ c. end_after (last_of parts.over None) c (first_of parts.under None)) old.top ∙ top_after parts.over parts.under x;
    bottom = ap (λ c. end_after c ends.bottom cell.above) lower_is ∙ ap (λ c. end_after (first_of parts.under None) ends.bottom c) upper_is ∙ ap (λ c. end_after (first_of parts.under None) c (last_of parts.over None)) old.bottom ∙ bottom_after parts.over parts.under x;
    size =
        let size = old.size in
        let all = length-append parts.over (x ∷ parts.under) in
        let fewer = length-append parts.over parts.under in
        let next : length (x ∷ parts.under) ≡ length parts.under + 1 = omega arith in
        omega (arith, size, all, fewer, next);
  }

  upper_stands : (y : ℕ) → cell.above ≡ Some y → Stands (list_at (lists_of cells lists) l) y
  upper_stands y is = subst (λ xs. Stands xs y) (sym parts.is) (stands_prefix parts.over (x ∷ parts.under) y (last_in parts.over y (sym upper_is ∙ is)))

  lower_stands : (y : ℕ) → cell.below ≡ Some y → Stands (list_at (lists_of cells lists) l) y
  lower_stands y is = subst (λ xs. Stands xs y) (sym parts.is) (stands_back parts.over (x ∷ parts.under) y (inr (first_in parts.under y (sym lower_is ∙ is))))

  other_kept : (m : ℕ) → m < length lists → m ≢ l → IsKept (joined cells cell.above cell.below) (get_or lists m no_ends) (list_at (lists_of cells lists) m)
  other_kept m lt differ =
      let kept = (links cells lists are).kept m lt in
      record {
        chain = chain_same (above cells) (below cells) (above (joined cells cell.above cell.below)) (below (joined cells cell.above cell.below)) None (list_at (lists_of cells lists) m) None
            (join_same cells cell.above cell.below has_upper has_lower (list_at (lists_of cells lists) m) (λ y there. (
              λ is. differ (are.apart.one_list m l y there (upper_stands y is)),
              λ is. differ (are.apart.one_list m l y there (lower_stands y is)),
            )))
            kept.chain;
        top = kept.top;
        bottom = kept.bottom;
        size = kept.size;
      }

  abbrev left : List ℕ
  left = parts.over ++ parts.under

  seen_in : l < length (lists_of cells lists)
  seen_in = list_inside (lists_of cells lists) l x stands

  told : (m : ℕ) (e : Ends) (xs : List ℕ) → get_or (set lists l (ends_without ends cell.above cell.below)) m no_ends ≡ e → list_at (set (lists_of cells lists) l left) m ≡ xs → IsKept (joined cells cell.above cell.below) e xs → IsKept (joined cells cell.above cell.below) (get_or (set lists l (ends_without ends cell.above cell.below)) m no_ends) (list_at (set (lists_of cells lists) l left) m)
  told m e xs is also kept = subst (λ d. IsKept (joined cells cell.above cell.below) d (list_at (set (lists_of cells lists) l left) m)) (sym is) (subst (IsKept (joined cells cell.above cell.below) e) (sym also) kept)

  delete_links : Link (joined cells cell.above cell.below) (set lists l (ends_without ends cell.above cell.below)) (set (lists_of cells lists) l left)
  delete_links = record {
    same_length = length-set (lists_of cells lists) l left ∙ length-map lists (brackets_of cells) ∙ sym (length-set lists l (ends_without ends cell.above cell.below));
    few = let few = are.few in let n = length-set lists l (ends_without ends cell.above cell.below) in omega (arith, few, n);
    has_cell = λ y lt. join_has cells cell.above cell.below has_upper has_lower y (are.has_cell y (let n = length-set lists l (ends_without ends cell.above cell.below) in omega (arith, lt, n)));
    kept = λ m lt. ⊎_elim
        (λ (same : m ≡ l). told m (ends_without ends cell.above cell.below) left
        (ap (λ n. get_or (set lists l (ends_without ends cell.above cell.below)) n no_ends) same ∙ get_or-set_same lists l (ends_without ends cell.above cell.below) no_ends here)
        (ap (list_at (set (lists_of cells lists) l left)) same ∙ get_or-set_same (lists_of cells lists) l left [] seen_in)
        deleted_kept)
        (λ differ. told m (get_or lists m no_ends) (list_at (lists_of cells lists) m)
        (get_or-set_other lists l m (ends_without ends cell.above cell.below) no_ends differ)
        (get_or-set_other (lists_of cells lists) l m left [] differ)
        (other_kept m (let n = length-set lists l (ends_without ends cell.above cell.below) in omega (arith, lt, n)) differ))
        (cases_eq m l);
  }

  left_stands : (y : ℕ) → Stands left y → Stands (list_at (lists_of cells lists) l) y
  left_stands y there = subst (λ xs. Stands xs y) (sym parts.is) (⊎_elim (λ first. stands_prefix parts.over (x ∷ parts.under) y first) (λ second. stands_back parts.over (x ∷ parts.under) y (inr second)) (stands_append parts.over parts.under y there))

  delete_apart : AreApart (set (lists_of cells lists) l left)
  delete_apart = apart_put (lists_of cells lists) are.apart l left seen_in (once_append parts.over parts.under once.first once_under disjoint)
      (λ y there. inl (left_stands y there))
      (λ y there. are.apart.in_range l y (left_stands y there))

  pub delete_are : AreKept (joined cells cell.above cell.below) (set lists l (ends_without ends cell.above cell.below))
  delete_are = are_kept (joined cells cell.above cell.below) (set lists l (ends_without ends cell.above cell.below)) (set (lists_of cells lists) l left) delete_links delete_apart

  pub delete_seen : lists_of (joined cells cell.above cell.below) (set lists l (ends_without ends cell.above cell.below)) ≡ set (lists_of cells lists) l (without (list_at (lists_of cells lists) l) x)
  delete_seen = lists_are (joined cells cell.above cell.below) (set lists l (ends_without ends cell.above cell.below)) (set (lists_of cells lists) l left) delete_links ∙ ap (set (lists_of cells lists) l) (sym parts.rest)
