-- Where the operands of nodes stand, and tables before any firing.
use Rattle.std.proofs.Common.{◌≡◌, ℕ, suc, ◌+◌, ◌<◌, Bool, true, false, ◌&&◌, ◌==◌, if◌then◌else◌, List, [], ◌∷◌, length, drop, get_or, subst, Some, slice_get, slice_index, nat_lt, ap, sym, ◌∙◌, add-one}
use Rattle.std.proofs.Math.Seq.{drop-cons}
use Rattle.std.proofs.lemmas.Bool.{lt-ltb}
use Rattle.std.proofs.lemmas.Option.{slice_get-get_or}
use Rattle.printed_graphs.specs.declared.dataflow.Value.{Value}
use Rattle.trace_profiles.specs.Rounds.{operands_in}
use Rattle.trace_profiles.specs.Tables.{IsMarked, operands_by, operands_in_value}

place_told : (values : List Value) (i k len place old new : ℕ) (v : Value) (b : Bool) → nat_lt k len ≡ true → new ≡ (if nat_lt k len && b then place else old) → place ≡ suc i → slice_get values i ≡ Some v → operands_by new values ≡ (if b then v.operands.items else operands_by old values)
place_told values i k len place old new v true some is at there = ap (λ n. operands_by n values) (is ∙ ap (λ (t : Bool). if t && true then place else old) some ∙ at) ∙ ap operands_in_value there
place_told values i k len place old new v false some is at there = ap (λ n. operands_by n values) (is ∙ ap (λ (t : Bool). if t && false then place else old) some)

-- one value more
pub one_more_place : (values : List Value) (i place nodes : ℕ) (old new : List ℕ) (v : Value) → i < length values → v ≡ get_or values i v → place ≡ i + 1 → length old ≡ nodes → IsMarked old new (λ k. v.node == k) place → ((k : ℕ) → k < nodes → operands_in (drop i values) k (operands_by (slice_index old k) values) ≡ operands_in values k []) → (k : ℕ) → k < nodes → operands_in (drop (i + 1) values) k (operands_by (slice_index new k) values) ≡ operands_in values k []
one_more_place values i place nodes old new v inside is at count marked told k lt =
    let here : slice_get values i ≡ Some v = slice_get-get_or values i v inside ∙ ap (λ x. Some x) (sym is) in
    let within : nat_lt k (length old) ≡ true = lt-ltb k (length old) (subst (λ n. k < n) (sym count) lt) in
    let own = place_told values i k (length old) place (slice_index old k) (slice_index new k) v (v.node == k) within (marked k) (at ∙ add-one i) here in
    let rest : drop i values ≡ v ∷ drop (i + 1) values = drop-cons values i v inside ∙ ap (λ x. x ∷ drop (suc i) values) (sym is) ∙ ap (λ n. v ∷ drop n values) (sym (add-one i)) in
    ap (operands_in (drop (i + 1) values) k) own
    ∙ ap (λ vs. operands_in vs k (operands_by (slice_index old k) values)) (sym rest)
    ∙ told k lt
