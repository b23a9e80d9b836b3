-- A flag for each node, one after another.
use Rattle.std.proofs.Common.{◌≡◌, ◌<◌, ◌≤◌, ◌⊎◌, inl, inr, ⊎_elim, ℕ, zero, suc, ◌+◌, Bool, List, [], ◌∷◌, ◌++◌, length, refl, sym, ap, ◌∙◌, arith}
use Rattle.firing.specs.ReadySet.{has}
use Rattle.op_board.specs.OperationNets.{OperationNet, all_operation_nodes, operation_node}
use Rattle.fork_board.specs.ForkTokens.{is_load_node}
use Rattle.read_forks.specs.LoadFlags.{AreLoadFlags}

pub record AreFlagsBelow (x : OperationNet) (n : ℕ) (flags : List Bool) : Type 0 where
  pub all : length flags ≡ n
  pub each : (k : ℕ) → k < n → has flags k ≡ is_load_node x (operation_node x k)

pub no_flags : (x : OperationNet) (flags : List Bool) → flags ≡ [] → AreFlagsBelow x 0 flags
no_flags x flags none = record { all = ap length none; each = λ k below. absurd (omega (arith, below)) }

long_end : (flags : List Bool) (b : Bool) → length (flags ++ b ∷ []) ≡ length flags + 1
long_end [] b = refl
long_end (f ∷ flags) b = let r = long_end flags b in omega (arith, r)

has_front : (flags : List Bool) (b : Bool) (k : ℕ) → k < length flags → has (flags ++ b ∷ []) k ≡ has flags k
has_front [] b k below = absurd (omega (arith, below))
has_front (f ∷ flags) b zero below = refl
has_front (f ∷ flags) b (suc k) below = has_front flags b k (omega (arith, below))

has_end : (flags : List Bool) (b : Bool) → has (flags ++ b ∷ []) (length flags) ≡ b
has_end [] b = refl
has_end (f ∷ flags) b = has_end flags b

pub below_or_last : (k n : ℕ) → k < n + 1 → (k < n) ⊎ (k ≡ n)
below_or_last zero zero low = inr refl
below_or_last zero (suc n) low = inl (omega arith)
below_or_last (suc k) zero low = absurd (omega (arith, low))
below_or_last (suc k) (suc n) low = ⊎_elim (λ (l : k < n). inl (omega (arith, l))) (λ (e : k ≡ n). inr (ap suc e)) (below_or_last k n (omega (arith, low)))

pub flags_more : (x : OperationNet) (n : ℕ) (old new : List Bool) (b : Bool) → b ≡ is_load_node x (operation_node x n) → AreFlagsBelow x n old → new ≡ old ++ b ∷ [] → AreFlagsBelow x (n + 1) new
flags_more x n old new b is below grown = record {
  all = ap length grown ∙ long_end old b ∙ ap (λ k. k + 1) below.all;
  each = λ k low. ap (λ (flags : List Bool). has flags k) grown ∙ ⊎_elim
      (λ (under : k < n). has_front old b k (let long = below.all in omega (arith, under, long)) ∙ below.each k under)
      (λ (e : k ≡ n). ap (has (old ++ b ∷ [])) (e ∙ sym below.all) ∙ has_end old b ∙ is ∙ ap (λ j. is_load_node x (operation_node x j)) (sym e))
      (below_or_last k n low);
}

pub all_flags : (x : OperationNet) (n : ℕ) (flags : List Bool) → length (all_operation_nodes x) ≤ n → AreFlagsBelow x n flags → AreLoadFlags x flags
all_flags x n flags over below = λ k low. below.each k (omega (arith, over, low))
