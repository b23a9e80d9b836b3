-- Dependences in order, each once.
use Rattle.std.proofs.Common.{◌≡◌, ◌↔◌, ◌==◌, ◌∙◌, ℕ, zero, suc, Bool, true, false, List, Contains, Option, None, Some, ap, arith, refl, subst, sym}
use Rattle.std.specs.Cmp.{unsigned_ties}
use Rattle.std.specs.List.{dedup}
use Rattle.std.specs.List.Sorted.{IsPermutation, IsSorted, IsStrictlySortedBy}
use Rattle.std.specs.Option.{option_cmp}
use Rattle.std.specs.Ordering.{bool_cmp, is_eq, nat_cmp, ordering_then}
use Rattle.std.specs.declared.cmp.Ordering.{Ordering}
use Rattle.std.specs.declared.cmp.Ordering.TheVariants.{Less, Equal, Greater}
use Rattle.std.proofs.lemmas.List.Kept.{Contains-dedup, Contains-from_dedup, IsStrictlySortedBy-dedup}
use Rattle.std.proofs.lemmas.List.Sorted.{Contains-permutation, IsPermutation-sym}
use Rattle.graph_dependences.specs.InOrder.{in_order, kind_place}
use Rattle.graph_dependences.specs.contracts.dependence.DependenceEq.TheImpl.Laws.{laws-law}
use Rattle.graph_dependences.specs.contracts.dependence.DependenceOrd.TheImpl as ord
use Rattle.graph_dependences.specs.contracts.dependence.DependenceOrd.TheImpl.Laws.{matches_eq-law, total-law}
use Rattle.graph_dependences.specs.contracts.dependence.DependencePartialEq.TheImpl as eq
use Rattle.graph_dependences.specs.contracts.kinds.KindOrd.TheImpl as kind_ord
use Rattle.graph_dependences.specs.declared.dependence.Dependence.{Dependence}
use Rattle.graph_dependences.specs.declared.kinds.Kind.{Kind}
use Rattle.graph_dependences.specs.declared.kinds.Kind.TheVariants as kind

-- ---- the order is that which the types derive

same_kinds : (a b : Kind) → (kind_ord.ghosts).cmp a b ≡ nat_cmp (kind_place a) (kind_place b)
same_kinds kind.Flow kind.Flow = refl
same_kinds kind.Flow kind.Anti = refl
same_kinds kind.Flow kind.Output = refl
same_kinds kind.Flow kind.Order = refl
same_kinds kind.Flow kind.Control = refl
same_kinds kind.Anti kind.Flow = refl
same_kinds kind.Anti kind.Anti = refl
same_kinds kind.Anti kind.Output = refl
same_kinds kind.Anti kind.Order = refl
same_kinds kind.Anti kind.Control = refl
same_kinds kind.Output kind.Flow = refl
same_kinds kind.Output kind.Anti = refl
same_kinds kind.Output kind.Output = refl
same_kinds kind.Output kind.Order = refl
same_kinds kind.Output kind.Control = refl
same_kinds kind.Order kind.Flow = refl
same_kinds kind.Order kind.Anti = refl
same_kinds kind.Order kind.Output = refl
same_kinds kind.Order kind.Order = refl
same_kinds kind.Order kind.Control = refl
same_kinds kind.Control kind.Flow = refl
same_kinds kind.Control kind.Anti = refl
same_kinds kind.Control kind.Output = refl
same_kinds kind.Control kind.Order = refl
same_kinds kind.Control kind.Control = refl

same_order : (a b : Dependence) → (ord.ghosts).cmp a b ≡ in_order a b
same_order a b =
    ap (λ kinds. ordering_then (nat_cmp a.from b.from) (ordering_then (nat_cmp a.to b.to) (ordering_then kinds (ordering_then (option_cmp nat_cmp a.token_line b.token_line) (bool_cmp a.is_carried b.is_carried)))))
    (same_kinds a.kind b.kind)

-- ---- what has the same place is the same

is_equal : (r : Ordering) → is_eq r ≡ true → r ≡ Equal
is_equal Less e = absurd cc
is_equal Equal e = refl
is_equal Greater e = absurd cc

all_equal : (r s t u v : Ordering) → ordering_then r (ordering_then s (ordering_then t (ordering_then u v))) ≡ Equal → (r ≡ Equal) × (s ≡ Equal) × (t ≡ Equal) × (u ≡ Equal) × (v ≡ Equal)
all_equal Less s t u v e = absurd cc
all_equal Greater s t u v e = absurd cc
all_equal Equal Less t u v e = absurd cc
all_equal Equal Greater t u v e = absurd cc
all_equal Equal Equal Less u v e = absurd cc
all_equal Equal Equal Greater u v e = absurd cc
all_equal Equal Equal Equal Less v e = absurd cc
all_equal Equal Equal Equal Greater v e = absurd cc
all_equal Equal Equal Equal Equal v e = (refl, refl, refl, refl, e)

same_numbers : (a b : ℕ) → nat_cmp a b ≡ Equal → a ≡ b
same_numbers a b e = let same : (a == b) ≡ true = unsigned_ties a b ∙ ap is_eq e in grind (arith)

kind_at : ℕ → Kind
kind_at zero = kind.Flow
kind_at (suc zero) = kind.Anti
kind_at (suc (suc zero)) = kind.Output
kind_at (suc (suc (suc zero))) = kind.Order
kind_at _ = kind.Control

at_place : (a : Kind) → kind_at (kind_place a) ≡ a
unfolding kind_at
at_place kind.Flow = refl
at_place kind.Anti = refl
at_place kind.Output = refl
at_place kind.Order = refl
at_place kind.Control = refl

same_lines : (a b : Option ℕ) → option_cmp nat_cmp a b ≡ Equal → a ≡ b
same_lines None None e = refl
same_lines None (Some b) e = absurd cc
same_lines (Some a) None e = absurd cc
same_lines (Some a) (Some b) e = ap Some (same_numbers a b e)

same_tests : (a b : Bool) → bool_cmp a b ≡ Equal → a ≡ b
same_tests false false e = refl
same_tests false true e = absurd cc
same_tests true false e = absurd cc
same_tests true true e = refl

same_place : (a b : Dependence) → in_order a b ≡ Equal → a ≡ b
same_place a b e =
    let all = all_equal (nat_cmp a.from b.from) (nat_cmp a.to b.to) (nat_cmp (kind_place a.kind) (kind_place b.kind)) (option_cmp nat_cmp a.token_line b.token_line) (bool_cmp a.is_carried b.is_carried) e in
    let from : a.from ≡ b.from = same_numbers a.from b.from all.0 in
    let to : a.to ≡ b.to = same_numbers a.to b.to all.1 in
    let kinds : a.kind ≡ b.kind = sym (at_place a.kind) ∙ ap kind_at (same_numbers (kind_place a.kind) (kind_place b.kind) all.2) ∙ at_place b.kind in
    let lines : a.token_line ≡ b.token_line = same_lines a.token_line b.token_line all.3 in
    let tests : a.is_carried ≡ b.is_carried = same_tests a.is_carried b.is_carried all.4 in
    λ i. record { from = from i; to = to i; kind = kinds i; token_line = lines i; is_carried = tests i }

same : (a b : Dependence) → (eq.ghosts).eq a b ≡ true → a ≡ b
same a b e = same_place a b (sym (same_order a b) ∙ is_equal ((ord.ghosts).cmp a b) (sym (matches_eq-law a b) ∙ e))

-- ---- sorted, and one of each left

pub sorted_once : (xs ys : List Dependence) → IsSorted (ord.ghosts).cmp xs → ys ≡ dedup (eq.ghosts).eq xs → IsStrictlySortedBy in_order ys
sorted_once xs ys up is =
    subst (λ zs. IsStrictlySortedBy in_order zs) (sym is) (subst (λ (R : Dependence → Dependence → Ordering). IsStrictlySortedBy R (dedup (eq.ghosts).eq xs)) (λ i a b. same_order a b i) (IsStrictlySortedBy-dedup total-law matches_eq-law xs up))

pub all_kept : (xs ys zs : List Dependence) → IsPermutation xs ys → zs ≡ dedup (eq.ghosts).eq ys → (d : Dependence) → Contains zs d ↔ Contains xs d
all_kept xs ys zs moved is d = (
  λ h. Contains-permutation ys xs d (IsPermutation-sym xs ys moved) (Contains-from_dedup (eq.ghosts).eq ys d (subst (λ ds. Contains ds d) is h)),
  λ h. subst (λ ds. Contains ds d) (sym is) (Contains-dedup laws-law same ys d (Contains-permutation xs ys d moved h)),
)
