-- Rows of edges, by numbers of rows of a table.
use Rattle.std.proofs.Common.{◌≡◌, ◌≢◌, ℕ, zero, suc, ◌<◌, ◌≤◌, List, [], ◌∷◌, Option, None, Some, IfSome, length, replicate, set, get_or, refl, sym, ap, ◌∙◌, ⊎_elim, arith, get_or-set_same, get_or-set_other}
use Rattle.std.proofs.lemmas.Bool.{cases_eq, cases_lt}
use Rattle.std.proofs.lemmas.List.{get_or-map, get_or-replicate, get_or_default, get_or_past, length-replicate, map-set}
use Rattle.shared_rows.specs.Table.{AreThere, IsFull, Table, numbered_row, numbered_rows, row_at, with_row}
use Rattle.shared_rows.proofs.Numbered.{numbered_stay, one_more}
use Rattle.shared_rows.proofs.Tables.{last_row}
use Rattle.dep_routing.specs.LineTable.{led}
use Rattle.dep_routing.specs.Rows.{begun_row}

none_at : (n e : ℕ) → get_or (replicate {A = Option ℕ} n None) e None ≡ None
none_at n e = ⊎_elim
    (λ (inside : e < n). get_or-replicate n e None None inside)
    (λ (past : n ≤ e). get_or_past (replicate {A = Option ℕ} n None) e None (let long = length-replicate {A = Option ℕ} n None in omega (arith, long, past)))
    (cases_lt e n)

module _ (t : Table) where
  blank : (numbers : List (Option ℕ)) (e : ℕ) → get_or numbers e None ≡ None → get_or (numbered_rows t numbers) e [] ≡ []
  blank [] e none = refl
  blank (n ∷ numbers) zero none = ap (numbered_row t) none
  blank (n ∷ numbers) (suc e) none = blank numbers e none

  -- where no edge has a row, no line is led on
  pub led-none : (n line e : ℕ) → led (numbered_rows t (replicate {A = Option ℕ} n None)) line e ≡ e
  led-none n line e = ap (λ (xs : List ℕ). get_or xs line e) (blank (replicate {A = Option ℕ} n None) e (none_at n e))

  pub there-none : (n : ℕ) → AreThere t (replicate {A = Option ℕ} n None)
  there-none n e k is = let none = none_at n e in absurd cc

  -- where the row of an edge leads lines
  pub led-row : (numbers : List (Option ℕ)) (line e : ℕ) (number : Option ℕ) → e < length numbers → number ≡ get_or numbers e number → led (numbered_rows t numbers) line e ≡ get_or (numbered_row t number) line e
  led-row numbers line e number inside is = ap (λ (xs : List ℕ). get_or xs line e)
      (get_or-map (numbered_row t) numbers e number [] inside ∙ ap (numbered_row t) (sym is))

  -- the row that is begun from that of an edge
  pub led-begun : IsFull t → (number : Option ℕ) (line e : ℕ) → IfSome number (λ k. k < length t.rows) → line < t.width → get_or (begun_row t number e) line 0 ≡ get_or (numbered_row t number) line e
  led-begun full None line e there low = get_or-replicate t.width line e 0 low
  led-begun full (Some k) line e there low = get_or_default (row_at t k) line 0 e (let long = full k [] there in omega (arith, long, low))

  module _ (new : Table) (row : List ℕ) (is : new ≡ with_row t row) (numbers : List (Option ℕ)) (there : AreThere t numbers) where
    -- an edge gets the new row
    pub rows-added : (e : ℕ) → numbered_rows new (set numbers e (Some (length t.rows))) ≡ set (numbered_rows t numbers) e row
    rows-added e = map-set (numbered_row new) numbers e (Some (length t.rows))
        ∙ ap (λ (r : List ℕ). set (numbered_rows new numbers) e r) (ap (λ (x : Table). row_at x (length t.rows)) is ∙ last_row t row)
        ∙ ap (λ (rows : List (List ℕ)). set rows e row) (numbered_stay t new row is numbers there)

    pub there-added : (e : ℕ) → e < length numbers → AreThere new (set numbers e (Some (length t.rows)))
    there-added e inside d k at = ⊎_elim
        (λ (same : d ≡ e).
        let own : Some (length t.rows) ≡ Some k = sym (get_or-set_same numbers e (Some (length t.rows)) None inside) ∙ ap (λ n. get_or (set numbers e (Some (length t.rows))) n None) (sym same) ∙ at in
        let n : length t.rows ≡ k = cc in
        let m = one_more t new row is in omega (arith, n, m))
        (λ (apart : d ≢ e).
        let h = there d k (sym (get_or-set_other numbers e d (Some (length t.rows)) None apart) ∙ at) in
        let m = one_more t new row is in omega (arith, h, m))
        (cases_eq d e)
