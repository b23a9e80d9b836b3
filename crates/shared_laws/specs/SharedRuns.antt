-- Runs of a flat program, and of its shared form.
use Rattle.std.specs.Prelude.{◌≡◌, ◌<◌, ◌+◌, ℕ, zero, suc, ℤ, true, List, length, Contains, Option, Some, Ok}
use Rattle.f77_tree.specs.declared.expressions.Expr.{Expr}
use Rattle.f77_tree.specs.declared.programs.Program.{Program}
use Rattle.f77_tree.specs.Run.{State, source}
use Rattle.f77_tree.specs.Value.{place_of, value, word_at}
use Rattle.f77_tree.specs.WellFormed.{IsWellFormed}
use Rattle.alias_classes.specs.Classes.{ClassTable, IsClasses}
use Rattle.cfg_build.specs.Flow.{flow}
use Rattle.redundancy.specs.Available.{Availability, IsAvailability}
use Rattle.shared_forms.specs.Shared.{due, is_shared, temporary, with_temporaries, IsShared}

-- the word of the temporary of a shared candidate
abbrev pub temporary_word : Program → Availability → (number : Expr → Option ℕ) → (n : ℕ) → ℕ
temporary_word q a number n = place_of (with_temporaries q a number).names (temporary q a number n)

-- the temporary of each shared candidate among these expressions has the candidate's value
abbrev pub HoldValues : Program → Availability → (number : Expr → Option ℕ) → (store : List ℤ) → (next : Option ℤ) → List Expr → Type 0
HoldValues q a number store next es = (d : Expr) (n : ℕ) → Contains es d → number d ≡ Some n → is_shared q a number n ≡ true → value q.names store next d ≡ Ok (word_at store (temporary_word q a number n))

-- how many steps the shared form takes for so many steps of the program: one for each, after those for the assignments that are due there
abbrev pub shared_steps : Program → Availability → (number : Expr → Option ℕ) → List ℤ → (n : ℕ) → ℕ
shared_steps q a number input zero = 0
shared_steps q a number input (suc n) = shared_steps q a number input n + (length (due q a number (source q input n).position) + 1)

-- two states with the same mark, after the same text, whose first words are equal
pub record AgreeUpTo (words : ℕ) (x y : State) : Type 0 where
  pub mark : y.mark ≡ x.mark
  pub text : y.out ≡ x.out
  pub taken : y.memory.taken ≡ x.memory.taken
  pub store : (word : ℕ) → word < words → word_at y.memory.store word ≡ word_at x.memory.store word

-- the shared form of a well-formed program, by its available expressions
pub record IsSharedBy (q : Program) (c : ClassTable) (a : Availability) (r : Program) : Type 0 where
  pub program : IsWellFormed q
  pub classes : IsClasses q c
  pub available : IsAvailability q (flow q.execs) c a
  pub shared : IsShared q a r
