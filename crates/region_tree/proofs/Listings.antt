-- The steps that list the edges with a next one.
use Rattle.std.proofs.Common.{◌≡◌, ◌≢◌, ℕ, ◌+◌, ◌<◌, ◌≤◌, List, [], ◌∷◌, ◌++◌, Option, Some, None, length, get_or, refl, sym, ◌∙◌, subst, ⊎_elim, arith, length-append}
use Rattle.std.proofs.lemmas.Bool.{cases_lt}
use Rattle.std.proofs.lemmas.List.{get_or_append_left, get_or_push}
use Rattle.region_tree.specs.Listing.{next_at, IsListedAt, HasListed, IsListing, AreEntryNumbers}

-- a longer list has what it had at its places
IsListedAt-more : (entries : List ℕ) (x e r : ℕ) → IsListedAt entries e r → IsListedAt (entries ++ x ∷ []) e r
IsListedAt-more entries x e r l = record {
  some = l.some;
  within = omega (arith, l.within, length-append entries (x ∷ []));
  entry = get_or_append_left entries (x ∷ []) 0 r l.within ∙ l.entry;
}

HasListed-more : (entries : List ℕ) (x e r : ℕ) (n : Option ℕ) → HasListed entries e r n → HasListed (entries ++ x ∷ []) e r n
HasListed-more entries x e r None h = h
HasListed-more entries x e r (Some f) h = IsListedAt-more entries x e r h

module _ (next : List (Option ℕ)) (k : ℕ) (numbers entries exits : List ℕ) (l : IsListing next k numbers entries exits) where
  pub IsListing-skip : next_at next k ≡ None → IsListing next (k + 1) (numbers ++ 0 ∷ []) entries exits
  IsListing-skip none = record {
    some = l.some;
    few = omega (arith, l.few);
    exits_size = l.exits_size;
    no_entry = l.no_entry;
    no_exit = l.no_exit;
    listed = λ r some within. let p = l.listed r some within in let below = p.0 in (omega (arith, below), p.1);
    rises = l.rises;
    numbers_size = omega (arith, l.numbers_size, length-append numbers (0 ∷ []));
    numbered = λ e below. ⊎_elim
        (λ (old : e < k). subst (λ r. HasListed entries e r (next_at next e)) (sym (get_or_append_left numbers (0 ∷ []) 0 e (omega (arith, old, l.numbers_size)))) (l.numbered e old))
        (λ (new : k ≤ e).
        let same : e ≡ k = omega (arith, below, new) in
        rw (same, none) (get_or_push numbers 0 0 k l.numbers_size))
        (cases_lt e k);
  }

  pub IsListing-take : (exit : ℕ) → next_at next k ≡ Some exit → IsListing next (k + 1) (numbers ++ length entries ∷ []) (entries ++ k ∷ []) (exits ++ exit ∷ [])
  IsListing-take exit some_next =
      let more = length-append entries (k ∷ []) in
      let more_exits = length-append exits (exit ∷ []) in
      record {
        some = omega (arith, l.some, more);
        few = omega (arith, l.few, more);
        exits_size = omega (arith, l.exits_size, more, more_exits);
        no_entry = get_or_append_left entries (k ∷ []) 0 0 l.some ∙ l.no_entry;
        no_exit = get_or_append_left exits (exit ∷ []) 0 0 (omega (arith, l.some, l.exits_size)) ∙ l.no_exit;
        listed = λ r some within. ⊎_elim
            (λ (old : r < length entries).
            let p = l.listed r some old in
            let below = p.0 in
            rw (get_or_append_left entries (k ∷ []) 0 r old, get_or_append_left exits (exit ∷ []) 0 r (omega (arith, old, l.exits_size))) (omega (arith, below), p.1))
            (λ (new : length entries ≤ r).
            let last : length entries ≡ r = omega (arith, new, within, more) in
            let last_exit : length exits ≡ r = omega (arith, last, l.exits_size) in
            rw (get_or_push entries k 0 r last, get_or_push exits exit 0 r last_exit) (omega arith, some_next))
            (cases_lt r (length entries));
        rises = λ q r some less within. ⊎_elim
            (λ (old : r < length entries).
            let before : q < length entries = omega (arith, less, old) in
            rw (get_or_append_left entries (k ∷ []) 0 q before, get_or_append_left entries (k ∷ []) 0 r old) (l.rises q r some less old))
            (λ (new : length entries ≤ r).
            let last : length entries ≡ r = omega (arith, new, within, more) in
            let before : q < length entries = omega (arith, less, last) in
            rw (get_or_append_left entries (k ∷ []) 0 q before, get_or_push entries k 0 r last) (l.listed q some before).0)
            (cases_lt r (length entries));
        numbers_size = omega (arith, l.numbers_size, length-append numbers (length entries ∷ []));
        numbered = λ e below. ⊎_elim
            (λ (old : e < k).
            subst (λ r. HasListed (entries ++ k ∷ []) e r (next_at next e)) (sym (get_or_append_left numbers (length entries ∷ []) 0 e (omega (arith, old, l.numbers_size))))
            (HasListed-more entries k e (get_or numbers e 0) (next_at next e) (l.numbered e old)))
            (λ (new : k ≤ e).
            let same : e ≡ k = omega (arith, below, new) in
            rw (same, some_next, get_or_push numbers (length entries) 0 k l.numbers_size) (record {
              some = l.some;
              within = omega (arith, more);
              entry = get_or_push entries k 0 (length entries) refl;
            }))
            (cases_lt e k);
      }

-- ---- the numbers of entries

module _ (next : List (Option ℕ)) (count : ℕ) (numbers entries exits : List ℕ) (l : IsListing next count numbers entries exits) where
  entered_at : (e : ℕ) (n : Option ℕ) → HasListed entries e (get_or numbers e 0) n → get_or numbers e 0 ≢ 0 → IsListedAt entries e (get_or numbers e 0)
  entered_at e None h some = absurd (some h)
  entered_at e (Some f) h some = h

  not_none : (e r f : ℕ) (n : Option ℕ) → n ≡ Some f → HasListed entries e (get_or numbers e 0) n → get_or numbers e 0 ≡ 0 → ⊥
  not_none e r f None is h none = absurd (let other = is in cc)
  not_none e r f (Some x) is h none = let some = h.some in absurd (omega (arith, some, none))

  pub AreEntryNumbers-all : AreEntryNumbers count numbers entries
  AreEntryNumbers-all = record {
    size = l.numbers_size;
    entered = λ e edge some. entered_at e (next_at next e) (l.numbered e edge) some;
    none = λ e r edge zero_at at.
        let is = (l.listed r at.some at.within).1 in
        not_none e r (get_or exits r 0) (next_at next e) (subst (λ x. next_at next x ≡ Some (get_or exits r 0)) at.entry is) (l.numbered e edge) zero_at;
  }
