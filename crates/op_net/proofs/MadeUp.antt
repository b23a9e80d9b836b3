-- Changes that make up, one after another, for what the count of a node that fires is ahead by.
use Rattle.std.proofs.Common.{◌≡◌, ◌+◌, ℕ, All, Vec, Global, subst, arith}
use Rattle.std.proofs.Math.Logic.{∥∥₁_elim, ∥∥₁_map}
use Rattle.std.proofs.Props.{props}
use Rattle.op_board.specs.OperationNets.{OperationNet}
use Rattle.operation_places.specs.Leads.{IsLead}
use Rattle.operation_places.specs.declared.leads.Lead.{Lead}
use Rattle.operation_places.specs.declared.places.Places.{Places}
use Rattle.operation_places.specs.PlacesView.{IsAheadBy, IsCountedAhead, MakesUp}

-- of this much a change leaves so much
abbrev pub LeavesAhead : OperationNet → (old new : Places) (k much left : ℕ) → Type 0
LeavesAhead x old new k much left = (rest : ℕ) → IsCountedAhead x old k (much + rest) → IsCountedAhead x new k (left + rest)

module _ (x : OperationNet) (k : ℕ) where
  pub leaves_all : (s : Places) (much : ℕ) → LeavesAhead x s s k much much
  leaves_all s much rest are = are

  pub leaves_next : (s t u : Places) (much left one more : ℕ) → LeavesAhead x s t k much left → left ≡ one + more → MakesUp x t u k one → LeavesAhead x s u k much more
  leaves_next s t u much left one more first is second rest are =
      let sum : left + rest ≡ one + (more + rest) = omega (arith, is) in
      second (more + rest) (subst (λ (n : ℕ). IsCountedAhead x t k n) sum (first rest are))

  pub leaves_end : (s t : Places) (much left : ℕ) → LeavesAhead x s t k much left → left ≡ 0 → MakesUp x s t k much
  leaves_end s t much left leaves none rest are =
      let sum : left + rest ≡ rest = omega (arith, none) in
      subst (λ (n : ℕ). IsCountedAhead x t k n) sum (leaves rest are)

  -- the next change may be made
  pub leaves_ahead : (s t : Places) (much left one more : ℕ) → ∥ IsAheadBy x s k much ∥₁ → LeavesAhead x s t k much left → left ≡ one + more → ∥ IsAheadBy x t k one ∥₁
  leaves_ahead s t much left one more ahead leaves is = ∥∥₁_map ahead (λ (by : IsAheadBy x s k much).
      let sum : left + by.rest ≡ one + (more + by.rest) = let r = by.rest in omega (arith, is) in
      record { rest = more + by.rest; counted = subst (λ (n : ℕ). IsCountedAhead x t k n) sum (leaves by.rest by.counted) })

  -- ---- whole changes

  pub makes_none : (s : Places) → MakesUp x s s k 0
  makes_none s rest are =
      let sum : 0 + rest ≡ rest = omega arith in
      subst (λ (n : ℕ). IsCountedAhead x s k n) sum are

  pub makes_more : (s t u : Places) (first second : ℕ) → MakesUp x s t k first → MakesUp x t u k second → MakesUp x s u k (first + second)
  makes_more s t u first second one two rest are =
      let sum : first + second + rest ≡ first + (second + rest) = omega arith in
      two rest (one (second + rest) (subst (λ (n : ℕ). IsCountedAhead x s k n) sum are))

  -- the count is ahead by less
  pub ahead_less : (s : Places) (first second : ℕ) → ∥ IsAheadBy x s k (first + second) ∥₁ → ∥ IsAheadBy x s k first ∥₁
  ahead_less s first second ahead = ∥∥₁_map ahead (λ (by : IsAheadBy x s k (first + second)).
      let sum : first + second + by.rest ≡ first + (second + by.rest) = let r = by.rest in omega arith in
      record { rest = second + by.rest; counted = subst (λ (n : ℕ). IsCountedAhead x s k n) sum by.counted })

  -- after a change it is ahead by the rest
  pub ahead_left : (s t : Places) (first second : ℕ) → ∥ IsAheadBy x s k (first + second) ∥₁ → MakesUp x s t k first → ∥ IsAheadBy x t k second ∥₁
  ahead_left s t first second ahead makes = ∥∥₁_map ahead (λ (by : IsAheadBy x s k (first + second)).
      let sum : first + second + by.rest ≡ first + (second + by.rest) = let r = by.rest in omega arith in
      record { rest = by.rest; counted = makes (second + by.rest) (subst (λ (n : ℕ). IsCountedAhead x s k n) sum by.counted) })

  -- ---- what is remembered of lines

  pub ahead_leads : (s : Places) (least : ℕ) → ∥ IsAheadBy x s k least ∥₁ → All (IsLead x) s.leads.items
  ahead_leads s least ahead j d low = record {
    wire = λ exists. ∥∥₁_elim ahead (Prim.hlevel props) (λ (by : IsAheadBy x s k least). (by.counted.leads j d low).wire exists);
    node = λ exists i below. ∥∥₁_elim ahead (Prim.hlevel props) (λ (by : IsAheadBy x s k least). (by.counted.leads j d low).node exists i below);
  }

  with_leads : (s : Places) (leads : Vec Lead Global) (ahead : ℕ) → All (IsLead x) leads.items → IsCountedAhead x s k ahead → IsCountedAhead x (record s { leads = leads }) k ahead
  with_leads s leads ahead right are = record { counts = are.counts; marks = are.marks; none = are.none; leads = right }

  pub led_ahead : (s : Places) (leads : Vec Lead Global) (least : ℕ) → All (IsLead x) leads.items → ∥ IsAheadBy x s k least ∥₁ → ∥ IsAheadBy x (record s { leads = leads }) k least ∥₁
  led_ahead s leads least right ahead = ∥∥₁_map ahead (λ (by : IsAheadBy x s k least). record { rest = by.rest; counted = with_leads s leads (least + by.rest) right by.counted })

  -- that is right after the change
  pub led_makes : (s t : Places) (leads : Vec Lead Global) (much : ℕ) → All (IsLead x) leads.items → MakesUp x (record s { leads = leads }) t k much → MakesUp x s t k much
  led_makes s t leads much right makes rest are = makes rest (with_leads s leads (much + rest) right are)
