-- Rows in which the cells of the lines that a test tells are written, from one such line to the next.
use Rattle.std.proofs.Common.{◌≡◌, ◌≢◌, ℕ, ◌<◌, ◌≤◌, Bool, true, false, if◌then◌else◌, List, length, set, get_or, sym, ap, ◌∙◌, subst, ⊎_elim, arith, length-set, get_or-set_same, get_or-set_other}
use Rattle.std.proofs.lemmas.Bool.{cases_eq, cases_lt}

-- Of a row in the making: the cells below the next line have what is due, and those from it on what stood there before. The next line
-- is one that the test tells, or all are written.
pub record IsFilling (test : ℕ → Bool) (new old : ℕ → ℕ) (lines next : ℕ) (row : List ℕ) : Type 0 where
  pub size : length row ≡ lines
  pub within : next ≤ lines
  pub member : next < lines → test next ≡ true
  pub done : (k : ℕ) → k < next → get_or row k 0 ≡ (if test k then new k else old k)
  pub ahead : (k : ℕ) → next ≤ k → k < lines → get_or row k 0 ≡ old k

module _ (test : ℕ → Bool) (new old : ℕ → ℕ) where
  told : (k : ℕ) → test k ≡ true → new k ≡ (if test k then new k else old k)
  told k is = ap (λ b. if b then new k else old k) (sym is)

  not_told : (k : ℕ) → test k ≡ false → old k ≡ (if test k then new k else old k)
  not_told k is = ap (λ b. if b then new k else old k) (sym is)

  module _ (lines : ℕ) where
    pub IsFilling-begin : (row : List ℕ) → length row ≡ lines → ((k : ℕ) → k < lines → get_or row k 0 ≡ old k) → (next : ℕ) → next ≤ lines → (next < lines → test next ≡ true) → ((k : ℕ) → k < next → test k ≡ false) → IsFilling test new old lines next row
    IsFilling-begin row size cells next within member none = record {
      size = size;
      within = within;
      member = member;
      done = λ k below. cells k (omega (arith, below, within)) ∙ not_told k (none k below);
      ahead = λ k from low. cells k low;
    }

    module _ (line : ℕ) (row : List ℕ) (low : line < lines) (f : IsFilling test new old lines line row) where
      other : (k : ℕ) → k ≢ line → get_or (set row line (new line)) k 0 ≡ get_or row k 0
      other k apart = get_or-set_other row line k (new line) 0 apart

      inside : line < length row
      inside = subst (λ n. line < n) (sym f.size) low

      pub IsFilling-more : (next : ℕ) → next ≤ lines → (next < lines → (test next ≡ true) × (line < next)) → ((k : ℕ) → line < k → k < next → test k ≡ false) → IsFilling test new old lines next (set row line (new line))
      IsFilling-more next within member none =
          let above : line < next = ⊎_elim (λ more. (member more).1) (λ past. omega (arith, past, low)) (cases_lt next lines) in
          record {
            size = length-set row line (new line) ∙ f.size;
            within = within;
            member = λ more. (member more).0;
            done = λ k below. ⊎_elim
                (λ (same : k ≡ line). ap (λ j. get_or (set row line (new line)) j 0) same ∙ get_or-set_same row line (new line) 0 inside ∙ ap new (sym same) ∙ told k (subst (λ j. test j ≡ true) (sym same) (f.member low)))
                (λ (apart : k ≢ line). other k apart ∙ ⊎_elim
                (λ (first : k < line). f.done k first)
                (λ (past : line ≤ k). f.ahead k past (omega (arith, below, within)) ∙ not_told k (none k (omega (arith, past, apart)) below))
                (cases_lt k line))
                (cases_eq k line);
            ahead = λ k from end. other k (omega (arith, from, above)) ∙ f.ahead k (omega (arith, from, above)) end;
          }
