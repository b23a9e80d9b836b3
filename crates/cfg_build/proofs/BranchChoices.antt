-- A branch takes one of its edges.
use Rattle.std.proofs.Common.{◌≡◌, ℕ, ◌<◌, ℤ, pos, Bool, true, false, cond, List, length, Result, Ok, Err, slice_index, sym, ap, ◌∙◌, subst, arith}
use Rattle.std.proofs.lemmas.Bool.{false≢true}
use Rattle.std.proofs.lemmas.List.{length-append, length-map}
use Rattle.op_table.specs.declared.Trap.{Trap}
use Rattle.f77_tree.specs.declared.programs.Exec.{Exec}
use Rattle.f77_tree.specs.declared.programs.ExecKind.{ExecKind}
use Rattle.f77_tree.specs.declared.programs.NameInfo.{NameInfo}
use Rattle.f77_tree.specs.Execution.{Memory}
use Rattle.f77_tree.specs.Value.{and_then}
use Rattle.cfg_build.specs.declared.parts.Part.{Part}
use Rattle.cfg_build.specs.declared.pieces.PieceKind.{PieceKind}
use Rattle.cfg_build.specs.declared.pieces.PieceKind.TheVariants as piece
use Rattle.cfg_build.specs.Parts.{parts_of}
use Rattle.cfg_build.specs.Passes.{choice}
use Rattle.list_laws.specs.Member.{Member}
use Rattle.cfg_build.proofs.PassOutcomes.{sign_below, picked-le}

-- a number below this one, or a trap
abbrev pub IsBelow : ℕ → Result ℕ Trap → Type 0
IsBelow n (Ok i) = i < n
IsBelow n (Err trap) = Unit {0}

below_then : (n : ℕ) (index : ℤ → ℕ) (r : Result ℤ Trap) → ((z : ℤ) → index z < n) → IsBelow n (and_then (λ z. Ok (index z)) r)
below_then n index (Err trap) below = tt
below_then n index (Ok z) below = below z

one_of_two : (b : Bool) → cond b 0 1 < 2
one_of_two true = omega arith
one_of_two false = omega arith

-- what is known of a part that branches
pub record IsBranch (names : List NameInfo) (k : ℕ) (kind : ExecKind) (p : Part) : Type 0 where
  pub exec_is : p.piece.exec ≡ k
  pub chooses : (m : Memory) → IsBelow (length p.outs) (choice names m kind)

as_branch : (names : List NameInfo) (k : ℕ) (kind : ExecKind) (p q : Part) → q ≡ p → IsBranch names k kind q → IsBranch names k kind p
as_branch names k kind p q same b = subst (λ (x : Part). IsBranch names k kind x) same b

abbrev pub is_branch : PieceKind → Bool
is_branch piece.Branch = true
is_branch _ = false

acts_not : (names : List NameInfo) (k : ℕ) (kind : ExecKind) (p q : Part) → q ≡ p → is_branch q.piece.kind ≡ false → p.piece.kind ≡ piece.Branch → IsBranch names k kind p
acts_not names k kind p q same not branches = absurd (false≢true (sym not ∙ ap (λ (x : Part). is_branch x.piece.kind) same ∙ ap is_branch branches))

pub branch_of : (names : List NameInfo) (execs : List Exec) (k line : ℕ) (kind : ExecKind) (p : Part) → Member (parts_of execs k line kind) p → p.piece.kind ≡ piece.Branch → IsBranch names k kind p
branch_of names execs k line h p none h2 =
    grind (arith, acts_not, as_branch, below_then, one_of_two, sign_below, length-map, length-append, pos, picked-le, slice_index)
