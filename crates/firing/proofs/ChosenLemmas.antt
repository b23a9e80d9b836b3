-- The ready nodes in number order, and marks of them.
use Rattle.std.proofs.Common.{◌≡◌, ◌≢◌, ◌⊎◌, ℕ, zero, suc, ◌+◌, ◌%◌, ◌<◌, ◌≤◌, ◌++◌, Bool, true, false, if◌then◌else◌, List, [], ◌∷◌, length, get_or, slice_index, None, refl, sym, ap, subst, ◌∙◌, ⊎_elim, length-append, append-nil, arith}
use Rattle.std.proofs.lemmas.Bool.{cases_eq, cases_lt}
use Rattle.std.proofs.lemmas.List.{get_or_push, get_or_append_left}
use Rattle.std.proofs.Math.Nat.{mod-lt}
use Rattle.std.specs.List.{Contains}
use Rattle.firing.specs.Laws.{IsLawful}
use Rattle.firing.specs.Marks.{AreMarks, DifferAt, Wakes}
use Rattle.firing.specs.Moves.{Moves, CanFire}
use Rattle.firing.specs.Orders.{IsOver, counted}
use Rattle.firing.specs.Choice.{chosen, ready_below, ready_nodes}
use Rattle.firing.specs.ReadySet.{IsMemberAt, rank, member_count}
use Rattle.firing.proofs.Pulling.{are_ready}
use Rattle.firing.proofs.RankLemmas.{rank_member}

-- one node more, if it is ready
abbrev with_if : List ℕ → ℕ → Bool → List ℕ
with_if nodes k ready = nodes ++ (if ready then k ∷ [] else [])

with_count : (nodes : List ℕ) (k : ℕ) (ready : Bool) → length (with_if nodes k ready) ≡ length nodes + counted ready
with_count nodes k true = length-append nodes (k ∷ [])
with_count nodes k false = ap length (append-nil nodes) ∙ omega arith

with_prefix : (nodes : List ℕ) (k : ℕ) (ready : Bool) (i : ℕ) → i < length nodes → get_or (with_if nodes k ready) i 0 ≡ get_or nodes i 0
with_prefix nodes k ready i lt = get_or_append_left nodes (if ready then k ∷ [] else []) 0 i lt

-- ---- the list

-- a node below n that is ready
record IsReadyBelow {M : Type 0} (s : Moves M) (m : M) (n k : ℕ) : Type 0 where
  node : k < n
  ready : s.ready m k ≡ true

module _ {M : Type 0} (s : Moves M) (m : M) where
  -- what the last place of the list below n + 1 has
  last_place : (n i : ℕ) (ready : Bool) → s.ready m n ≡ ready → length (ready_below s m n) ≤ i → i < length (with_if (ready_below s m n) n ready) → IsReadyBelow s m (suc n) (get_or (with_if (ready_below s m n) n ready) i 0)
  last_place n i true is le lt = grind (arith, with_count (ready_below s m n) n true, get_or_push (ready_below s m n) n 0 i)
  last_place n i false is le lt = let count = with_count (ready_below s m n) n false in absurd (omega (arith, le, lt, count))

  place_ready : (n i : ℕ) → i < length (ready_below s m n) → IsReadyBelow s m n (get_or (ready_below s m n) i 0)
  place_ready zero i lt = absurd (omega (arith, lt))
  place_ready (suc n) i lt = ⊎_elim
      (λ (before : i < length (ready_below s m n)).
      let is = place_ready n i before in
      let node = is.node in
      subst (IsReadyBelow s m (suc n)) (sym (with_prefix (ready_below s m n) n (s.ready m n) i before)) (record { node = omega (arith, node); ready = is.ready }))
      (λ (after : length (ready_below s m n) ≤ i). last_place n i (s.ready m n) refl after lt)
      (cases_lt i (length (ready_below s m n)))

  some_below : (n k : ℕ) → k < n → s.ready m k ≡ true → 0 < length (ready_below s m n)
  some_below zero k lt ready = absurd (omega (arith, lt))
  some_below (suc n) k lt ready = ⊎_elim
      (λ (same : k ≡ n).
      let is : s.ready m n ≡ true = ap (s.ready m) (sym same) ∙ ready in
      let count = with_count (ready_below s m n) n (s.ready m n) in
      let one : counted (s.ready m n) ≡ 1 = ap counted is in
      omega (arith, count, one))
      (λ differ.
      let more = some_below n k (omega (arith, lt, differ)) ready in
      let count = with_count (ready_below s m n) n (s.ready m n) in
      omega (arith, count, more))
      (cases_eq k n)

  -- the node at a place can fire
  pub place_fires : (i : ℕ) → s.trap m ≡ None → i < length (ready_nodes s m) → CanFire s m (slice_index (ready_nodes s m) i)
  place_fires i none lt = let is = place_ready s.nodes i lt in record { going = none; node = is.node; ready = is.ready }

  pub none_ready : length (ready_nodes s m) ≡ 0 → IsOver s m
  none_ready none k can = let some = some_below s.nodes k can.node can.ready in omega (arith, some, none)

  -- ---- marks of its nodes

  module _ {marks : List Bool} (are : AreMarks s.nodes (s.ready m) marks) where
    ready_count : (n : ℕ) → n ≤ s.nodes → length (ready_below s m n) ≡ rank marks n
    ready_count zero le = refl
    ready_count (suc n) le = grind (arith, ready_count n, with_count (ready_below s m n) n (s.ready m n))

    ready_place : (n k : ℕ) → n ≤ s.nodes → k < n → s.ready m k ≡ true → get_or (ready_below s m n) (rank marks k) 0 ≡ k
    ready_place zero k le lt ready = absurd (omega (arith, lt))
    ready_place (suc n) k le lt ready = ⊎_elim
        (λ (same : k ≡ n).
        let count = ready_count n (omega (arith, le)) in
        let is : s.ready m n ≡ true = ap (s.ready m) (sym same) ∙ ready in
        ap (λ b. get_or (with_if (ready_below s m n) n b) (rank marks k) 0) is
        ∙ get_or_push (ready_below s m n) n 0 (rank marks k) (count ∙ ap (rank marks) (sym same))
        ∙ sym same)
        (λ differ.
        let below : k < n = omega (arith, lt, differ) in
        let inside : rank marks k < length (ready_below s m n) =
        let count = ready_count n (omega (arith, le)) in
        let more = rank_member marks k k n (are.right k (omega (arith, le, lt)) ∙ ready) (omega arith) below in
        omega (arith, count, more) in
        with_prefix (ready_below s m n) n (s.ready m n) (rank marks k) inside ∙ ready_place n k (omega (arith, le)) below ready)
        (cases_eq k n)

    -- there are as many ready nodes as marked ones
    pub marked_count : member_count marks ≡ length (ready_nodes s m)
    marked_count = ap (rank marks) are.room ∙ sym (ready_count s.nodes (omega arith))

    -- the marked node at a place is the ready one there
    pub marked_place : (place k : ℕ) → IsMemberAt marks place k → k ≡ slice_index (ready_nodes s m) place
    marked_place place k at = grind (arith, ready_place s.nodes k)

-- ---- the marks after a firing

module _ {M : Type 0} (sound : M → Type 0) (s : Moves M) (lawful : IsLawful sound s) (m : M) (is_sound : sound m) (k : ℕ) (can : CanFire s m k) (none : s.trap (s.fired m k) ≡ None) (woken : List ℕ) (wakes : Wakes s m k woken) where
  same_or_woken : (j : ℕ) (before now : Bool) → j < s.nodes → j ≢ k → s.ready m j ≡ before → s.ready (s.fired m k) j ≡ now → (now ≡ before) ⊎ Contains woken j
  same_or_woken j h now node differ was is = grind (arith, are_ready)

  -- the firing makes no other nodes ready or unready than those that it wakes
  pub woken_differ : DifferAt s.nodes k woken (s.ready m) (s.ready (s.fired m k))
  woken_differ j node differ = same_or_woken j (s.ready m j) (s.ready (s.fired m k) j) node differ refl refl

-- ---- what a system with an equal net tells

module _ {N M : Type 0} (moves : N → Moves M) {net other : N} (same : other ≡ net) (m : M) {count place k : ℕ} (pick : ℕ) (counts : count ≡ length (ready_nodes (moves other) m)) (placed : place ≡ pick % count) (at : k ≡ slice_index (ready_nodes (moves other) m) place) where
  count_here : count ≡ length (ready_nodes (moves net) m)
  count_here = counts ∙ ap (λ n. length (ready_nodes (moves n) m)) same

  -- the node at a pick's place is the one that the pick chooses
  pub pick_chosen : k ≡ chosen (moves net) m pick
  pick_chosen = cc

  pub pick_fires : count ≢ 0 → (moves net).trap m ≡ None → CanFire (moves net) m k
  pick_fires some none =
      grind (arith, count_here, mod-lt pick, pick_chosen, place_fires (moves net) m (pick % length (ready_nodes (moves net) m)) none)
