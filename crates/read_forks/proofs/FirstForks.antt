-- The marking and the control before any firing, as code has them.
use Rattle.std.proofs.Common.{◌≡◌, ◌<◌, ◌≤◌, ◌⊎◌, inl, inr, ℕ, ◌&&◌, Bool, true, false, not, length, Option, Some, refl, sym, ap, ◌∙◌, subst}
use mathlib.Core.Path.{fun_ext}
use Rattle.firing.specs.Control.{IsInStep, KeepsStep}
use Rattle.firing.specs.SourceOrder.{IsSourceOrder}
use Rattle.net_board.specs.declared.control.Control.{Control}
use Rattle.net_board.specs.ControlCourse.{first_control}
use Rattle.net_board.specs.Tokens.{joined}
use Rattle.op_board.specs.OperationNets.{OperationNet}
use Rattle.op_board.specs.OperationTokens.{OperationTokens, first_operation_tokens, passed_by}
use Rattle.op_board.proofs.PieceLines.{low_or_high}
use Rattle.fork_board.specs.ForkLockstep.{IsInForkLockstep}
use Rattle.fork_board.specs.ForkTokens.{ForkTokens, first_fork_tokens, fork_course, fork_moves, none_loaded}
use Rattle.fork_board.specs.SoundForks.{ForksCanCome}
use Rattle.fork_board.proofs.ForksFooted.{get_none}
use Rattle.read_forks.specs.KeptLoads.{opened_of}
use Rattle.read_forks.specs.LoadChanges.{Loaded}
use Rattle.read_forks.specs.LoadedGroups.{is_near_on}
use Rattle.read_forks.specs.OpenGroups.{is_near_in, marking_by}
use Rattle.read_forks.specs.StaysInForkStep.{StaysInForkStep}
use Rattle.read_forks.specs.declared.waiting.Waiting.{Waiting}

-- where all lines are open for the loads before which they stand, none of these has fired
pub none_fired : (x : OperationNet) (m : OperationTokens) (opened : Loaded) → length m.tokens.lines ≡ x.net.routing.lines → ((line : ℕ) → line < x.net.routing.lines → (piece number : ℕ) → opened line piece number ≡ is_near_in x m line piece number)
    → (line piece number : ℕ) → (marking_by x m opened).loaded line piece number ≡ false
none_fired x m opened long are line piece number = by (low_or_high line x.net.routing.lines)
  where
    opposed : (b : Bool) → (b && not b) ≡ false
    opposed true = refl
    opposed false = refl

    by : (line < x.net.routing.lines) ⊎ (x.net.routing.lines ≤ line) → (is_near_in x m line piece number && not (opened line piece number)) ≡ false
    by (inl low) = ap (λ b. is_near_in x m line piece number && not b) (are line low piece number) ∙ opposed (is_near_in x m line piece number)
    by (inr high) =
        ap (λ b. b && not (opened line piece number))
        (ap (is_near_on x line piece number (passed_by m line)) (ap joined (get_none m.tokens.lines line (subst (λ n. n ≤ line) (sym long) high))))

module _ (x : OperationNet) (m : OperationTokens) (loaded : Loaded) (none : (line piece number : ℕ) → loaded line piece number ≡ false) where
  abbrev now : ForkTokens
  now = record { operations = m; loaded = loaded }

  pub first_marking : m ≡ first_operation_tokens x → now ≡ first_fork_tokens x
  first_marking is =
      let nothing : loaded ≡ (λ line. none_loaded) = fun_ext (λ line. fun_ext (λ piece. fun_ext (λ number. none line piece number))) in
      ap (λ (t : OperationTokens). record { operations = t; loaded = loaded }) is ∙ ap (λ (l : Loaded). record { operations = first_operation_tokens x; loaded = l }) nothing

  module _ (is : m ≡ first_operation_tokens x) where
    pub first_sound : ForksCanCome x (first_fork_tokens x) → ForksCanCome x now
    first_sound comes = subst (λ (t : ForkTokens). ForksCanCome x t) (sym (first_marking is)) comes

    pub first_in_step : (place : Option Control) → place ≡ Some (first_control x.net) → IsInForkLockstep x (first_fork_tokens x) (first_control x.net)
        → KeepsStep (ForksCanCome x) (fork_moves x) (fork_course x) (IsInForkLockstep x) → IsSourceOrder (ForksCanCome x) (fork_moves x) (fork_course x) (IsInForkLockstep x)
        → IsInStep (fork_moves x) (StaysInForkStep x) now place
    first_in_step place at begins steady ordered =
        subst (λ (p : Option Control). IsInStep (fork_moves x) (StaysInForkStep x) now p) (sym at)
        (subst (λ (t : ForkTokens). IsInStep (fork_moves x) (StaysInForkStep x) t (Some (first_control x.net))) (sym (first_marking is))
        (λ going. record { lockstep = begins; steady = steady; ordered = ordered }))

-- ---- where all lines are open

-- each line is open for the loads before which it stands
abbrev pub AreAllOpen : OperationNet → OperationTokens → Waiting → Type 0
AreAllOpen x m w = (line : ℕ) → line < x.net.routing.lines → (piece number : ℕ) → opened_of x w line piece number ≡ is_near_in x m line piece number

pub open_there : (x y : OperationNet) (m n : OperationTokens) (w : Waiting) → y ≡ x → n ≡ m → AreAllOpen x m w → AreAllOpen y n w
open_there x y m n w net marking are = subst (λ (z : OperationNet). AreAllOpen z n w) (sym net) (subst (λ (t : OperationTokens). AreAllOpen x t w) (sym marking) are)

module _ (x : OperationNet) (m : OperationTokens) (w : Waiting) (are : AreAllOpen x m w) (sound : ForksCanCome x (first_fork_tokens x)) (is : m ≡ first_operation_tokens x) where
  abbrev loaded_now : Loaded
  loaded_now = (marking_by x m (opened_of x w)).loaded

  none : (line piece number : ℕ) → loaded_now line piece number ≡ false
  none = none_fired x m (opened_of x w) (ap (λ (t : OperationTokens). length t.tokens.lines) is ∙ sound.is_marking.tokens.lines) are

  pub marking_begins : marking_by x m (opened_of x w) ≡ first_fork_tokens x
  marking_begins = first_marking x m loaded_now none is

  pub sound_begins : ForksCanCome x (marking_by x m (opened_of x w))
  sound_begins = first_sound x m loaded_now none is sound

  pub in_step_begins : (place : Option Control) → place ≡ Some (first_control x.net) → IsInForkLockstep x (first_fork_tokens x) (first_control x.net)
      → KeepsStep (ForksCanCome x) (fork_moves x) (fork_course x) (IsInForkLockstep x) → IsSourceOrder (ForksCanCome x) (fork_moves x) (fork_course x) (IsInForkLockstep x)
      → IsInStep (fork_moves x) (StaysInForkStep x) (marking_by x m (opened_of x w)) place
  in_step_begins = first_in_step x m loaded_now none is
