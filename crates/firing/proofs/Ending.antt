-- Runs end: by a stop, or at the limit.
use Rattle.std.proofs.Common.{◌≡◌, ◌≢◌, ℕ, zero, suc, ◌+◌, ◌%◌, ◌<◌, ◌≤◌, ◌++◌, ◌⊎◌, Bool, true, false, if◌then◌else◌, List, [], ◌∷◌, length, get_or, slice_index, Option, Some, None, refl, sym, ap, subst, ◌∙◌, inl, inr, ⊎_elim, length-append, append-nil, arith}
use Rattle.std.proofs.lemmas.Bool.{cases_eq}
use Rattle.std.proofs.lemmas.List.{get_or_push, get_or_append_left}
use Rattle.std.proofs.Math.Nat.{mod-lt}
use Rattle.op_table.specs.declared.Trap.{Trap}
use Rattle.firing.specs.declared.playing.PlayEnd.{PlayEnd}
use Rattle.firing.specs.declared.playing.PlayEnd.TheVariants.{Rest, Trapped, Limit}
use Rattle.firing.specs.Choice.{ready_below, chosen}
use Rattle.firing.specs.Control.{Course, IsInStep, KeepsStep, due_at, due_node}
use Rattle.firing.specs.Laws.{IsLawful}
use Rattle.firing.specs.Moves.{Moves, CanFire}
use Rattle.firing.specs.Orders.{IsOver}
use Rattle.firing.specs.Play.{Moment, Way, EndsBy, next, node_of, node_at, played, by_order, by_picks}
use Rattle.firing.specs.Runs.{IsOwnEnd, IsRun, HasEnd}
use Rattle.firing.specs.SourceOrder.{IsSourceOrder}
use Rattle.firing.proofs.ControlLemmas.{control_stays, due_fires, due_here, in_step_next, none_due}

-- ---- the list of ready nodes

module _ {M : Type 0} (s : Moves M) (m : M) where
  -- a ready node below a number
  record IsReadyBelow (n k : ℕ) : Type 0 where
    inside : k < n
    ready : s.ready m k ≡ true

  wider : (n k : ℕ) → IsReadyBelow n k → IsReadyBelow (suc n) k
  wider n k is = record { inside = omega (arith, is.inside); ready = is.ready }

  listed_if : (n i : ℕ) (b : Bool) → s.ready m n ≡ b → ((j : ℕ) → j < length (ready_below s m n) → IsReadyBelow n (get_or (ready_below s m n) j 0)) → i < length (ready_below s m n ++ (if b then n ∷ [] else [])) → IsReadyBelow (suc n) (get_or (ready_below s m n ++ (if b then n ∷ [] else [])) i 0)
  listed_if n i true is before lt = grind (arith, length-append, get_or_push, get_or_append_left, wider n)
  listed_if n i false is before lt = grind (arith, append-nil, wider n)

  listed : (n i : ℕ) → i < length (ready_below s m n) → IsReadyBelow n (get_or (ready_below s m n) i 0)
  listed zero i lt = absurd (omega (arith, lt))
  listed (suc n) i lt = listed_if n i (s.ready m n) refl (listed n) lt

  none_if : (n k : ℕ) (b : Bool) → s.ready m n ≡ b → (length (ready_below s m n) ≡ 0 → k < n → ⊥) → length (ready_below s m n ++ (if b then n ∷ [] else [])) ≡ 0 → k < suc n → s.ready m k ≡ true → ⊥
  none_if n k true is before none lt ready = let count = length-append (ready_below s m n) (n ∷ []) in absurd (omega (arith, count, none))
  none_if n k false is before none lt ready = grind (arith, append-nil)

  none_listed : (n k : ℕ) → length (ready_below s m n) ≡ 0 → k < n → s.ready m k ≡ true → ⊥
  none_listed zero k none lt ready = absurd (omega (arith, lt))
  none_listed (suc n) k none lt ready = none_if n k (s.ready m n) refl (λ less low. none_listed n k less low ready) none lt ready

-- ---- runs

module _ {M P : Type 0} (w : Way M P) where
  -- what comes at a moment: a trap has come, nothing can fire, or the node that is chosen can
  abbrev Comes : ℕ → Moment M P → Type 0
  Comes i x = ((trap : Trap × ℕ) × (w.moves.trap x.marking ≡ Some trap)) ⊎ (((w.moves.trap x.marking ≡ None) × IsOver w.moves x.marking) ⊎ CanFire w.moves x.marking (w.choice i x))

  module _ (Kept : Moment M P → Type 0) (comes : (i : ℕ) (x : Moment M P) → Kept x → Comes i x) (keeps : (i : ℕ) (x : Moment M P) → Kept x → CanFire w.moves x.marking (w.choice i x) → Kept (next w x (w.choice i x))) (start : Moment M P) (limit : ℕ) where
    goes_on : (n : ℕ) → ((j : ℕ) → j < n → CanFire w.moves (played w start j).marking (node_at w start j)) → CanFire w.moves (played w start n).marking (node_at w start n) → (j : ℕ) → j < suc n → CanFire w.moves (played w start j).marking (node_at w start j)
    goes_on n going can j lt = ⊎_elim
        (λ (same : j ≡ n). subst (λ i. CanFire w.moves (played w start i).marking (node_at w start i)) (sym same) can)
        (λ differ. going j (omega (arith, lt, differ)))
        (cases_eq j n)

    ends_from : (left n : ℕ) → n + left ≡ limit → Kept (played w start n) → ((j : ℕ) → j < n → CanFire w.moves (played w start j).marking (node_at w start j)) → Comes n (played w start n) → HasEnd w start limit
    ends_from left n is kept going (inl (trap, trapped)) = record { firings = n; end = Trapped trap.0 trap.1; run = record { going = going; bounded = omega (arith, is); ends = trapped; own = tt } }
    ends_from left n is kept going (inr (inl (none, over))) = record { firings = n; end = Rest n; run = record { going = going; bounded = omega (arith, is); ends = (refl, none, over); own = tt } }
    ends_from zero n is kept going (inr (inr can)) = record { firings = n; end = Limit; run = record { going = going; bounded = omega (arith, is); ends = (omega (arith, is), can); own = tt } }
    ends_from (suc left) n is kept going (inr (inr can)) = grind (arith, ends_from left (suc n), goes_on n going can)

    pub ends : Kept start → HasEnd w start limit
    ends kept = ends_from limit 0 (omega arith) kept (λ j lt. absurd (omega (arith, lt))) (comes 0 start kept)

-- ---- by picks

module _ {M P : Type 0} (s : Moves M) (course : Course M P) (picks : List ℕ) where
  pick_comes : (x : Moment M P) (q : ℕ) (trap : Option (Trap × ℕ)) → s.trap x.marking ≡ trap → (count : ℕ) → length (ready_below s x.marking s.nodes) ≡ count → ((t : Trap × ℕ) × (s.trap x.marking ≡ Some t)) ⊎ (((s.trap x.marking ≡ None) × IsOver s x.marking) ⊎ CanFire s x.marking (chosen s x.marking q))
  pick_comes x q (Some t) is count counted = inl (t, is)
  pick_comes x q None is zero counted = inr (inl (is, λ k can. none_listed s x.marking s.nodes k counted can.node can.ready))
  pick_comes x q None is (suc count) counted = grind (arith, mod-lt q, listed s x.marking)

  pub picks_end : (start : Moment M P) (limit : ℕ) → HasEnd (by_picks s course picks) start limit
  picks_end start limit = ends (by_picks s course picks) (λ x. Unit {0}) (λ i x kept. pick_comes x (slice_index picks (i % length picks)) (s.trap x.marking) refl (length (ready_below s x.marking s.nodes)) refl) (λ i x kept can. tt) start limit tt

-- ---- in the source's own order

module _ {M P : Type 0} (sound : M → Type 0) (s : Moves M) (course : Course M P) (in_step : M → P → Type 0) (lawful : IsLawful sound s) (steady : KeepsStep sound s course in_step) (ordered : IsSourceOrder sound s course in_step) where
  record IsKept (x : Moment M P) : Type 0 where
    is_sound : sound x.marking
    step : IsInStep s in_step x.marking x.control
    control : x.control ≢ None

  due_comes : (x : Moment M P) → IsKept x → (trap : Option (Trap × ℕ)) → s.trap x.marking ≡ trap → (due : Option ℕ) → due_at course x.marking x.control ≡ due → ((t : Trap × ℕ) × (s.trap x.marking ≡ Some t)) ⊎ (((s.trap x.marking ≡ None) × IsOver s x.marking) ⊎ CanFire s x.marking (node_of (due_node s course x.marking x.control)))
  due_comes x kept h is due told = grind (arith, none_due, due_here, due_fires)

  -- the node that can fire is the one that is due
  is_due : (x : Moment M P) → IsKept x → (due : Option ℕ) → due_at course x.marking x.control ≡ due → CanFire s x.marking (node_of (due_node s course x.marking x.control)) → due_at course x.marking x.control ≡ Some (node_of (due_node s course x.marking x.control))
  is_due x kept None told can = absurd (none_due ordered x.marking x.control kept.control kept.is_sound kept.step can.going told (node_of (due_node s course x.marking x.control)) can)
  is_due x kept (Some k) told can = told ∙ ap Some (sym (ap node_of (due_here course s x.marking x.control k told)))

  due_keeps : (i : ℕ) (x : Moment M P) → IsKept x → CanFire s x.marking (node_of (due_node s course x.marking x.control)) → IsKept (next (by_order s course) x (node_of (due_node s course x.marking x.control)))
  due_keeps i x kept can =
      grind (arith, in_step_next steady x.marking x.control, control_stays course x.marking x.control, is_due x kept (due_at course x.marking x.control))

  pub order_ends : (start : Moment M P) (limit : ℕ) → sound start.marking → IsInStep s in_step start.marking start.control → start.control ≢ None → HasEnd (by_order s course) start limit
  order_ends start limit is_sound step control = ends (by_order s course) IsKept (λ i x kept. due_comes x kept (s.trap x.marking) refl (due_at course x.marking x.control) refl) due_keeps start limit (record { is_sound = is_sound; step = step; control = control })

-- ---- a run has one end

module _ {M P : Type 0} (w : Way M P) (start : Moment M P) (limit : ℕ) where
  -- where a run ends, no other goes on
  stops : (n m : ℕ) (end : PlayEnd) → IsOwnEnd end → EndsBy w start limit n end → m ≤ limit → n < m → CanFire w.moves (played w start n).marking (node_at w start n) → ⊥
  stops n m h own ended le lt can = grind arith

  pub same_count : (n m : ℕ) (end other : PlayEnd) → IsRun w start limit n end → IsRun w start limit m other → n ≡ m
  same_count n m end other run rest = grind (arith, stops)

  module _ (n : ℕ) where
    same_end : (end other : PlayEnd) → IsOwnEnd end → IsOwnEnd other → EndsBy w start limit n end → EndsBy w start limit n other → end ≡ other
    same_end end other own too a b = grind arith

  pub one_end : (n m : ℕ) (end other : PlayEnd) → IsRun w start limit n end → IsRun w start limit m other → (n ≡ m) × (end ≡ other)
  one_end n m end other run rest = grind (arith, same_count n m end other run rest, same_end n end other run.own rest.own run.ends)

  pub longest : (n m : ℕ) (end : PlayEnd) → IsRun w start limit m end → n ≤ limit → ((j : ℕ) → j < n → CanFire w.moves (played w start j).marking (node_at w start j)) → n ≤ m
  longest n m end run le going = search (stops, arith)
