-- Orders of firing, and what all of them come to.
use Rattle.std.specs.Prelude.{◌≡◌, ◌≤◌, ◌+◌, ◌++◌, ℕ, Bool, true, false, List, [], ◌∷◌, length, Some, None}
use Rattle.op_table.specs.declared.Trap.{Trap}
use Rattle.firing.specs.Moves.{Moves, CanFire, line_bytes}

-- the marking after firings in this order
abbrev pub after : {M : Type 0} → Moves M → M → List ℕ → M
after s m [] = m
after s m (k ∷ ks) = after s (s.fired m k) ks

-- the lines that firings in this order write
abbrev pub written : {M : Type 0} → Moves M → M → List ℕ → List ℕ
written s m [] = []
written s m (k ∷ ks) = line_bytes (s.line m k) ++ written s (s.fired m k) ks

-- each node may fire in its turn
abbrev pub IsOrder : {M : Type 0} → Moves M → M → List ℕ → Type 0
IsOrder s m [] = Unit {0}
IsOrder s m (k ∷ ks) = CanFire s m k × IsOrder s (s.fired m k) ks

-- what a truth adds to a count
abbrev pub counted : Bool → ℕ
counted true = 1
counted false = 0

-- how many firings of an order are of serial nodes
abbrev pub serial_count : {M : Type 0} → Moves M → List ℕ → ℕ
serial_count s [] = 0
serial_count s (k ∷ ks) = counted (s.serial k) + serial_count s ks

-- no node may fire
abbrev pub IsOver : {M : Type 0} → Moves M → M → Type 0
IsOver s m = (k : ℕ) → CanFire s m k → ⊥

-- an order that can't be made longer
pub record IsWhole {M : Type 0} (s : Moves M) (m : M) (ks : List ℕ) : Type 0 where
  pub order : IsOrder s m ks
  pub over : IsOver s (after s m ks)

-- the second list begins with the first one
pub record IsPrefix (bytes all : List ℕ) : Type 0 where
  pub more : List ℕ
  pub is : all ≡ bytes ++ more

-- an order that leads from this marking to that one
pub record Leads {M : Type 0} (s : Moves M) (m : M) (n : ℕ) (end : M) : Type 0 where
  pub rest : List ℕ
  pub order : IsOrder s m rest
  pub count : length rest ≡ n
  pub is : after s m rest ≡ end

-- Whatever the order, it comes to rest at this marking, after n firings, and nothing traps.
pub record Settles {M : Type 0} (s : Moves M) (m : M) (n : ℕ) (end : M) : Type 0 where
  pub output : List ℕ
  pub at_most : (ks : List ℕ) → IsOrder s m ks → length ks ≤ n
  pub no_trap : (ks : List ℕ) → IsOrder s m ks → s.trap (after s m ks) ≡ None
  pub prefix : (ks : List ℕ) → IsOrder s m ks → IsPrefix (written s m ks) output
  -- one that can't be made longer has n firings, and one of n firings has that marking
  pub whole : (ks : List ℕ) → IsWhole s m ks → length ks ≡ n
  pub same_end : (ks : List ℕ) → IsOrder s m ks → length ks ≡ n → after s m ks ≡ end
  pub same_output : (ks : List ℕ) → IsOrder s m ks → length ks ≡ n → written s m ks ≡ output
  -- whatever has fired, the rest can
  pub goes_on : (ks : List ℕ) → IsOrder s m ks → (k : ℕ) → length ks + k ≡ n → Leads s (after s m ks) k end

-- a trap can still come, with this output where that was written before
pub record Fails {M : Type 0} (s : Moves M) (m : M) (trap : Trap × ℕ) (before output : List ℕ) : Type 0 where
  pub rest : List ℕ
  pub order : IsOrder s m rest
  pub trapped : s.trap (after s m rest) ≡ Some trap
  pub lines : before ++ written s m rest ≡ output

-- Whatever the order, it ends only at this trap, with this output.
pub record Traps {M : Type 0} (s : Moves M) (m : M) (trap : Trap × ℕ) : Type 0 where
  pub output : List ℕ
  pub same_trap : (ks : List ℕ) → IsWhole s m ks → s.trap (after s m ks) ≡ Some trap
  pub same_output : (ks : List ℕ) → IsWhole s m ks → written s m ks ≡ output
  pub prefix : (ks : List ℕ) → IsOrder s m ks → IsPrefix (written s m ks) output
  -- whatever has fired, the trap can still come
  pub goes_on : (ks : List ℕ) → IsOrder s m ks → Fails s (after s m ks) trap (written s m ks) output

-- An order that doesn't trap, and whose output is the beginning of another order's.
pub record WritesPrefixOf {M : Type 0} (s : Moves M) (m : M) (ks others : List ℕ) : Type 0 where
  pub no_trap : s.trap (after s m ks) ≡ None
  pub prefix : IsPrefix (written s m ks) (written s m others)
