-- How many blocks of IF are open where a statement stands (ANSI X3.9-1978, section 11.6).
use Rattle.std.specs.Prelude.{ℕ, ◌+◌, ◌-◌, List, fold, take}
use Rattle.f77_tree.specs.declared.statements.Labelled.{Labelled}
use Rattle.f77_tree.specs.declared.statements.Stmt.{Stmt}
use Rattle.f77_tree.specs.declared.statements.Stmt.TheVariants.{BlockIf, EndIf}

-- block IF opens one, and END IF ends one
abbrev pub blocks_after : ℕ → Stmt → ℕ
blocks_after count (BlockIf condition) = count + 1
blocks_after count EndIf = count - 1
blocks_after count _ = count

-- the blocks that the statements above a place leave open
abbrev pub blocks_open : List Labelled → (place : ℕ) → ℕ
blocks_open stmts place = fold (λ count s. blocks_after count s.stmt) 0 (take place stmts)
