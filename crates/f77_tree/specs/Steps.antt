-- What is said of steps: what an executable leaves as it is, when two memories make it do the same, and when a run stops.
use Rattle.std.specs.Prelude.{◌≡◌, ℕ, ◌≤◌, ◌⊎◌, ℤ, List, length, Ok, slice_get, slice_index, All, Contains}
use Rattle.op_table.specs.Words.{IsWord}
use Rattle.f77_tree.specs.declared.programs.ExecKind.{ExecKind}
use Rattle.f77_tree.specs.declared.programs.ExecKind.TheVariants.{Assign, DoStart, DoNext}
use Rattle.f77_tree.specs.declared.programs.NameInfo.{NameInfo}
use Rattle.f77_tree.specs.declared.programs.Program.{Program}
use Rattle.f77_tree.specs.Execution.{Memory, next_word, Outcome, Goes, Stops, Ends, outcome}
use Rattle.f77_tree.specs.Run.{Mark, StopsFirst}
use Rattle.f77_tree.specs.Touched.{ExecMayRead, ExecReadsData, SetsCount, SetsStep, ReadsCount}
use Rattle.f77_tree.specs.Value.{place, place_of, word_at}
use Rattle.f77_tree.specs.Control.{successors}

-- what is said of an outcome holds where it goes on
abbrev pub IfGoes : Outcome → (ℕ → Memory → List ℕ → Type 0) → Type 0
IfGoes (Goes next memory text) P = P next memory text
IfGoes (Stops trap) P = Unit {0}
IfGoes Ends P = Unit {0}

-- it goes on, or the run ends
abbrev pub DoesNotTrap : Outcome → Type 0
DoesNotTrap (Stops trap) = ⊥
DoesNotTrap _ = Unit {0}

-- ---- sizes

-- a memory of a program over its data: as many words, counts and steps as the program has, and no more data taken than
-- there is
pub record IsMemoryOf (p : Program) (input : List ℤ) (m : Memory) : Type 0 where
  pub words : length m.store ≡ p.words
  pub counts : length m.counts ≡ p.loops
  pub steps : length m.steps ≡ p.loops
  pub taken : m.taken ≤ length input

-- a memory in whose store and steps each number is a word
pub record HoldsWords (m : Memory) : Type 0 where
  pub store : All IsWord m.store
  pub steps : All IsWord m.steps

-- ---- what is kept

-- the word that an executable changes where it goes on: its target's, or that of a DO variable
abbrev pub Changes : List NameInfo → List ℤ → Memory → ExecKind → ℕ → Type 0
Changes names input m (Assign target e next) word = place names m.store (next_word input m) target ≡ Ok word
Changes names input m (DoStart loop_no var first last step body exit) word = place_of names var ≡ word
Changes names input m (DoNext loop_no var body exit) word = place_of names var ≡ word
Changes names input m _ word = ⊥

-- what an executable leaves as it is: every other word, the count of every DO that isn't its own, the step of every DO that
-- it doesn't begin, and the data, where it reads none
pub record KeepsRest (names : List NameInfo) (input : List ℤ) (kind : ExecKind) (m new : Memory) : Type 0 where
  pub store : (word : ℕ) → (Changes names input m kind word → ⊥) → slice_get new.store word ≡ slice_get m.store word
  pub counts : (n : ℕ) → (SetsCount kind n → ⊥) → slice_get new.counts n ≡ slice_get m.counts n
  pub steps : (n : ℕ) → (SetsStep kind n → ⊥) → slice_get new.steps n ≡ slice_get m.steps n
  pub taken : (ExecReadsData kind → ⊥) → new.taken ≡ m.taken

-- ---- what is read

-- two memories agree on what an executable may read
pub record AgreeFor (names : List NameInfo) (kind : ExecKind) (m n : Memory) : Type 0 where
  pub store : (word : ℕ) → ExecMayRead names kind word → word_at m.store word ≡ word_at n.store word
  pub counts : (k : ℕ) → ReadsCount kind k → slice_index m.counts k ≡ slice_index n.counts k
  pub steps : (k : ℕ) → ReadsCount kind k → word_at m.steps k ≡ word_at n.steps k
  pub taken : ExecReadsData kind → m.taken ≡ n.taken

-- a memory with room for the words and the DOs of a program
pub record HasRoomFor (p : Program) (m : Memory) : Type 0 where
  pub words : p.words ≤ length m.store
  pub counts : p.loops ≤ length m.counts
  pub steps : p.loops ≤ length m.steps

-- from two memories, two others: each word that the executable changes, or on which the two agreed before, is then the
-- same in both; so for counts and steps, and for the data
pub record ChangeAlike (names : List NameInfo) (input : List ℤ) (kind : ExecKind) (m n new_m new_n : Memory) : Type 0 where
  pub store : (word : ℕ) → Changes names input m kind word ⊎ (word_at m.store word ≡ word_at n.store word) → word_at new_m.store word ≡ word_at new_n.store word
  pub counts : (k : ℕ) → SetsCount kind k ⊎ (slice_index m.counts k ≡ slice_index n.counts k) → slice_index new_m.counts k ≡ slice_index new_n.counts k
  pub steps : (k : ℕ) → SetsStep kind k ⊎ (word_at m.steps k ≡ word_at n.steps k) → word_at new_m.steps k ≡ word_at new_n.steps k
  pub taken : m.taken ≡ n.taken → new_m.taken ≡ new_n.taken

-- two outcomes, from the memories m and n: the same executable follows after the same text, and what is changed is the
-- same; or both trap in the same way; or both end the run
abbrev pub AreAlike : List NameInfo → List ℤ → ExecKind → (m n : Memory) → Outcome → Outcome → Type 0
AreAlike names input kind m n (Goes next new_m text) (Goes next' new_n text') = (next ≡ next') × (text ≡ text') × ChangeAlike names input kind m n new_m new_n
AreAlike names input kind m n (Stops trap) (Stops trap') = trap ≡ trap'
AreAlike names input kind m n Ends Ends = Unit {0}
AreAlike names input kind m n _ _ = ⊥

-- ---- ends

-- a run stops with this mark at some step up to n, and goes on before that step
pub record StopsWithin (p : Program) (input : List ℤ) (n : ℕ) (mark : Mark) : Type 0 where
  pub count : ℕ
  pub within : count ≤ n
  pub stops : StopsFirst p input count mark

-- an executable that goes on goes to one of its successors
abbrev pub ExecutablesLeadToSuccessors : Type 0
ExecutablesLeadToSuccessors = (names : List NameInfo) (input : List ℤ) (m : Memory) (kind : ExecKind)
    → IfGoes (outcome names input m kind) (λ next new text. Contains (successors kind) next)
