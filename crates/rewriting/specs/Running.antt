-- Runs of a program and of its rewritten form.
use Rattle.std.specs.Prelude.{◌≡◌, ◌<◌, ℕ, ℤ, Bool, List, All}
use Rattle.op_table.specs.Words.{IsWord}
use Rattle.f77_tree.specs.declared.programs.Program.{Program}
use Rattle.f77_tree.specs.Run.{source, Ended, PrintAlike}
use Rattle.f77_tree.specs.Value.{word_at}
use Rattle.f77_tree.specs.WellFormed.{IsWellFormed}
use Rattle.shared_laws.specs.RewrittenSteps.{FollowsWithin}
use Rattle.rewriting.specs.Rewritten.{IsRewritten}

-- The rewritten form of a program prints what the program prints, over data of words: it writes the same, ends where the program ends,
-- and traps where the program traps, in the same way.
abbrev pub RewrittenProgramsPrintAlike : Type 0
RewrittenProgramsPrintAlike = (p : Program) (checked : Bool) (s : Program) (input : List ℤ)
    → IsWellFormed p → IsRewritten p checked s → All IsWord input → PrintAlike (source p input) (source s input)

-- Where both have ended, the words of the program are the same.
abbrev pub RewrittenProgramsLeaveTheSameWords : Type 0
RewrittenProgramsLeaveTheSameWords = (p : Program) (checked : Bool) (s : Program) (input : List ℤ) (m n word : ℕ)
    → IsWellFormed p → IsRewritten p checked s → All IsWord input
    → (source p input m).mark ≡ Ended → (source s input n).mark ≡ Ended → word < p.words
    → word_at (source s input n).memory.store word ≡ word_at (source p input m).memory.store word

-- After n steps of the program the rewritten form has the words of the program, has written and taken the same, and goes on, has ended
-- or has trapped like it, after at most so many steps for each of them: three, and one for each operation of the statement that asks for
-- most.
abbrev pub RewrittenProgramsTakeFewSteps : Type 0
RewrittenProgramsTakeFewSteps = (p : Program) (checked : Bool) (s : Program) (input : List ℤ) (n : ℕ)
    → IsWellFormed p → IsRewritten p checked s → All IsWord input → FollowsWithin p s input n
