-- Counts and lines of executables, one executable more.
use Rattle.std.proofs.Common.{◌≡◌, ℕ, zero, suc, ◌+◌, ◌<◌, ◌≤◌, Bool, List, [], ◌∷◌, ◌++◌, length, map, ap, ◌∙◌, arith}
use Rattle.std.specs.Prelude.{slice_get, slice_index, Option, Some, None, option_to_list, count_by}
use Rattle.std.specs.List.{range_with_len}
use Rattle.std.proofs.lemmas.List.{length-map, map-append}
use Rattle.list_laws.proofs.Ranges.{range_more}
use Rattle.list_laws.proofs.Counts.{bit, count-append, count-cons}
use Rattle.f77_tree.specs.declared.programs.Exec.{Exec}
use Rattle.flat_programs.specs.declared.statements.Flat.{Flat}
use Rattle.flat_programs.specs.declared.statements.FlatLine.{FlatLine}
use Rattle.flat_programs.specs.Recovered.{statement_of, lines_in, lines_at}

-- ---- numbers below a bound

module _ (p : ℕ → Bool) where
  -- how many of the first numbers pass
  abbrev pub passed : ℕ → ℕ
  passed n = count_by p (range_with_len 0 n)

  pub passed-more : (n : ℕ) → passed (n + 1) ≡ passed n + bit (p n)
  passed-more n =
      let one : count_by p (n ∷ []) ≡ bit (p n) = let c = count-cons p n [] in omega (arith, c) in
      ap (count_by p) (range_more n) ∙ count-append p (range_with_len 0 n) (n ∷ []) ∙ ap (λ m. passed n + m) one

pub values-more : (f : ℕ → ℕ) (n : ℕ) → map f (range_with_len 0 (n + 1)) ≡ map f (range_with_len 0 n) ++ f n ∷ []
values-more f n = ap (map f) (range_more n) ∙ map-append f (range_with_len 0 n) (n ∷ [])

value-from : (f : ℕ → ℕ) (a n k : ℕ) → k < n → slice_index (map f (range_with_len a n)) k ≡ f (a + k)
value-from f a zero k less = absurd (omega (arith, less))
value-from f a (suc n) zero less = ap f (omega arith)
value-from f a (suc n) (suc k) less =
    let same : a + 1 + k ≡ a + suc k = omega arith in
    value-from f (a + 1) n k (omega (arith, less)) ∙ ap f same

-- the value at a number among those at the first numbers
pub value-at : (f : ℕ → ℕ) (n k : ℕ) → k < n → slice_index (map f (range_with_len 0 n)) k ≡ f k
value-at f n k less = let same : 0 + k ≡ k = omega arith in value-from f 0 n k less ∙ ap f same

-- ---- lines

option-most : {X : Type 0} (o : Option X) → length (option_to_list o) ≤ 1
option-most None = omega arith
option-most (Some x) = omega arith

module _ (execs : List Exec) (k : ℕ) where
  lines_in-most : (o : Option Exec) → length (lines_in execs k o) ≤ 1
  lines_in-most None = omega arith
  lines_in-most (Some exec) =
      let size = length-map {B = FlatLine} (option_to_list (statement_of execs k exec.kind)) (λ (stmt : Flat). record { line = exec.line; stmt = stmt }) in
      omega (arith, size, option-most (statement_of execs k exec.kind))

  pub lines_at-most : length (lines_at execs k) ≤ 1
  lines_at-most = lines_in-most (slice_get execs k)
