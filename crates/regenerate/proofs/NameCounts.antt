-- Names of temporaries, and how many there are.
use Rattle.std.proofs.Common.{◌≡◌, ℕ, zero, suc, ◌+◌, ◌-◌, ◌<◌, ◌≤◌, Bool, List, [], ◌∷◌, ◌++◌, length, Option, Some, None, if◌then◌else◌, sym, ap, subst, ◌∙◌, ⊎_elim, arith}
use Rattle.std.specs.List.{count_by, range_with_len}
use Rattle.std.proofs.lemmas.Bool.{cases_eq}
use Rattle.std.proofs.lemmas.List.{get_or_push, get_or_append_left, length_push}
use Rattle.list_laws.proofs.Counts.{bit}
use Rattle.f77_tree.specs.declared.programs.Program.{Program}
use Rattle.redundancy.specs.Available.{Availability}
use Rattle.shared_forms.specs.Numbered.{number_of, temporary_of}
use Rattle.simplified_forms.specs.Plans.{answer, AreTold}
use Rattle.shared_forms.specs.Shared.{is_shared}
use Rattle.simplified_forms.specs.Tables.{AreAnswers}
use Rattle.simplified_forms.proofs.RangeCounts.{count-range-more, count-range-same}

count_up : (p : ℕ → Bool) (k j : ℕ) → count_by p (range_with_len 0 k) ≤ count_by p (range_with_len 0 (k + j))
count_up p k zero = let e : k ≡ k + 0 = omega arith in subst (λ n. count_by p (range_with_len 0 k) ≤ count_by p (range_with_len 0 n)) e (omega arith)
count_up p k (suc j) =
    let e : k + j + 1 ≡ k + suc j = omega arith in
    let more = count-range-more p (k + j) in
    let rest = count_up p k j in
    subst (λ n. count_by p (range_with_len 0 k) ≤ count_by p (range_with_len 0 n)) e (omega (arith, more, rest))

-- one more is among all
pub count_within : (p : ℕ → Bool) (k n : ℕ) → k < n → count_by p (range_with_len 0 k) + bit (p k) ≤ count_by p (range_with_len 0 n)
count_within p k n less =
    let e : k + 1 + (n - (k + 1)) ≡ n = omega (arith, less) in
    let up = subst (λ m. count_by p (range_with_len 0 (k + 1)) ≤ count_by p (range_with_len 0 m)) e (count_up p (k + 1) (n - (k + 1))) in
    let more = count-range-more p k in
    omega (arith, up, more)

-- one more in a table of what is told
pub told-push : (f : ℕ → Option ℕ) (k : ℕ) (v : Option ℕ) (table : List (Option ℕ)) → AreTold f k table → v ≡ f k → AreTold f (k + 1) (table ++ v ∷ [])
told-push f k v table are is =
    let size = length_push table v in
    record {
      size = omega (arith, size, are.size);
      entry = λ j less.
          ⊎_elim
          (λ (here : j ≡ k). get_or_push table v None j (are.size ∙ sym here) ∙ is ∙ sym (ap f here))
          (λ other. get_or_append_left table (v ∷ []) None j (omega (arith, less, other, are.size)) ∙ are.entry j (omega (arith, less, other)))
          (cases_eq j k);
    }

pub temporary-told : (q : Program) (a : Availability) (shared : List Bool) (k next : ℕ) (b : Bool) (v : Option ℕ) → AreAnswers (is_shared q a (number_of a)) (length a.candidates) shared → k < length a.candidates → b ≡ answer shared k → next ≡ length q.names + count_by (answer shared) (range_with_len 0 k) → v ≡ (if b then Some next else None) → v ≡ temporary_of q a k
temporary-told q a shared k next b v are less here counted is =
    is
    ∙ ap (λ n. if b then Some n else None) (counted ∙ ap (λ n. length q.names + n) (count-range-same (answer shared) (is_shared q a (number_of a)) k (λ j below. are.entry j (omega (arith, below, less)))))
    ∙ ap (λ c. if c then Some (length q.names + count_by (is_shared q a (number_of a)) (range_with_len 0 k)) else None) (here ∙ are.entry k less)
