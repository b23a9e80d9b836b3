-- What the running of a piece answers.
use Rattle.std.specs.Prelude.{◌≡◌, ◌≢◌, ◌<◌, ℕ, List, []}
use Rattle.f77_tree.specs.declared.programs.ExecKind.{ExecKind}
use Rattle.f77_tree.specs.declared.programs.ExecKind.TheVariants.{Test, Sign, Pick, DoStart}
use Rattle.f77_tree.specs.declared.programs.NameInfo.{NameInfo}
use Rattle.f77_tree.specs.Execution.{Memory}
use Rattle.f77_tree.specs.Value.{IsExpression}
use Rattle.f77_meaning.specs.declared.storage.Storage.{Storage}
use Rattle.cfg_build.specs.Passes.{Passed, Along, Traps, Done}
use Rattle.token_net.specs.declared.pieces_run.Ran.{Ran}
use Rattle.token_net.specs.declared.pieces_run.Ran.TheVariants as ran

-- the pass that an answer tells, in the memory and with the line there are then
abbrev pub told : Ran → Memory → (line : List ℕ) → Passed
told (ran.Along edge) m line = Along edge m []
told (ran.Wrote edge) m line = Along edge m line
told (ran.Trapped trap) m line = Traps trap

-- a pass, which at an end goes on by the first edge
abbrev pub going_on : (first : ℕ) → Memory → Passed → Passed
going_on first m Done = Along first m []
going_on first m (Along edge memory text) = Along edge memory text
going_on first m (Traps trap) = Traps trap

-- a trap leaves the storage as it was, and so does a line
abbrev pub KeepsStorage : Ran → (old new : Storage) → Type 0
KeepsStorage (ran.Along edge) old new = Unit {0}
KeepsStorage (ran.Wrote edge) old new = new ≡ old
KeepsStorage (ran.Trapped trap) old new = new ≡ old

-- what a branch evaluates is an expression, and the count that it looks at is there
abbrev pub MayChoose : List NameInfo → (counts : ℕ) → ExecKind → Type 0
MayChoose names counts (Test cond if_true if_false) = IsExpression names cond
MayChoose names counts (Sign value neg zero' pos') = IsExpression names value
MayChoose names counts (Pick value targets other) = IsExpression names value
MayChoose names counts (DoStart loop_no var first last step body exit) = loop_no < counts
MayChoose names counts _ = Unit {0}

-- a line that was made isn't empty
abbrev pub HasLine : Ran → (line : List ℕ) → Type 0
HasLine (ran.Along edge) line = Unit {0}
HasLine (ran.Wrote edge) line = line ≢ []
HasLine (ran.Trapped trap) line = Unit {0}
