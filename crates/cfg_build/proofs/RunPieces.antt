-- The executables of which acts and branches are parts.
use Rattle.std.proofs.Common.{◌≡◌, ℕ, ◌<◌, ◌≤◌, true, List, length, sym, ap, subst, ◌∙◌, ⊎_elim}
use Rattle.std.specs.Prelude.{Bool, Some, slice_get}
use Rattle.std.proofs.lemmas.Bool.{cases_lt}
use Rattle.f77_tree.specs.declared.programs.Exec.{Exec}
use Rattle.f77_tree.specs.declared.programs.ExecKind.{ExecKind}
use Rattle.f77_tree.specs.declared.programs.NameInfo.{NameInfo}
use Rattle.f77_tree.specs.WellFormed.{AreExecs}
use Rattle.cfg_build.specs.declared.parts.Part.{Part}
use Rattle.cfg_build.specs.declared.pieces.Piece.{Piece}
use Rattle.cfg_build.specs.declared.pieces.PieceKind.{PieceKind}
use Rattle.cfg_build.specs.declared.pieces.PieceKind.TheVariants as piece
use Rattle.cfg_build.specs.Parts.{parts, parts_of, start_part, end_part}
use Rattle.cfg_build.specs.Joined.{is_joined, rows, joined, finish}
use Rattle.cfg_build.specs.Flow.{flow, piece_at}
use Rattle.cfg_build.specs.Runs.{is_act, is_branch, IsPartOf}
use Rattle.cfg_build.specs.Shape.{kind_at}
use Rattle.cfg_build.proofs.HoldDegrees.{HasHolds}
use Rattle.cfg_build.proofs.Lowest.{IsMet}
use Rattle.list_laws.specs.Member.{Member}
use Rattle.list_laws.proofs.Members.{Member-at}
use Rattle.cfg_build.proofs.PartsFound.{IsExecPart, cases_part}
use Rattle.cfg_build.proofs.PieceKinds.{pieces_of, piece_of_part, join_kind}
use Rattle.cfg_build.proofs.PieceNumbers.{part_at, own_piece, first_piece, IsPieceOf, piece_of}
use Rattle.cfg_build.proofs.ReachedNodes.{IsTold}
use Rattle.cfg_build.proofs.Shaped.{has_holds}
use Rattle.std.proofs.Common.{arith}

-- which executables an act runs, and a branch
abbrev fits_of : PieceKind → ExecKind → Bool
fits_of piece.Act kind = is_act kind
fits_of piece.Branch kind = is_branch kind
fits_of _ kind = true

-- a part of an executable has its number, and fits it
record IsFit (k : ℕ) (kind : ExecKind) (p : Part) : Type 0 where
  number : p.piece.exec ≡ k
  fits : fits_of p.piece.kind kind ≡ true

fit_of : (k : ℕ) (kind : ExecKind) (p q : Part) → q ≡ p → IsFit k kind q → IsFit k kind p
fit_of k kind p q same fit = subst (λ (x : Part). IsFit k kind x) same fit

part_fits : (execs : List Exec) (k line : ℕ) (kind : ExecKind) (p : Part) → Member (parts_of execs k line kind) p → IsFit k kind p
part_fits execs k line h p none = grind (arith, fit_of)

-- what a part is told to be a part of
record HasExec (execs : List Exec) (x : Piece) : Type 0 where
  exec : Exec
  found : slice_get execs x.exec ≡ Some exec
  fits : fits_of x.kind exec.kind ≡ true

-- a part that is neither the start nor the end is one of an executable
part_exec : (execs : List Exec) (p : Part) → Member (parts execs) p → (piece.Start ≡ p.piece.kind → ⊥) → (piece.End ≡ p.piece.kind → ⊥) → HasExec execs p.piece
part_exec execs p among not_start not_end = ⊎_elim
    (λ (same : start_part ≡ p). absurd (not_start (ap (λ (q : Part). q.piece.kind) same)))
    (⊎_elim
    (λ (r : IsExecPart execs p).
    let fit : IsFit r.at r.exec.kind p = part_fits execs r.at r.exec.line r.exec.kind p r.among in
    record { exec = r.exec; found = ap (slice_get execs) fit.number ∙ r.found; fits = fit.fits })
    (λ (same : end_part execs ≡ p). absurd (not_end (ap (λ (q : Part). q.piece.kind) same))))
    (cases_part execs p among)

module _ (told : IsTold) (met : IsMet) (names : List NameInfo) (execs : List Exec) (loops : ℕ) (well : AreExecs names execs loops) where
  -- a piece of a kind that is none of those that only lead on
  piece_exec : (node : ℕ) (kind : PieceKind) → node < (flow execs).graph.nodes → kind_at (flow execs) node ≡ kind → (piece.Start ≡ kind → ⊥) → (piece.End ≡ kind → ⊥) → (piece.Join ≡ kind → ⊥) → (piece.Hold ≡ kind → ⊥) → HasExec execs (piece_at (flow execs).pieces node)
  piece_exec node kind below is not_start not_end not_join not_hold = ⊎_elim
      (λ (old : node < length (rows (parts execs))).
      let ps : List Part = parts execs in
      let same : piece_at (flow execs).pieces node ≡ piece_at (pieces_of ps) node = holds.old_piece node old in
      let r : IsPieceOf ps node = piece_of ps node old in
      subst (HasExec execs) (sym same) (⊎_elim
      (λ (own : node ≡ own_piece ps r.part).
      let at : piece_at (pieces_of ps) node ≡ (part_at ps r.part).piece = ap (piece_at (pieces_of ps)) own ∙ piece_of_part ps r.part r.exists in
      let its : (part_at ps r.part).piece.kind ≡ kind = sym (ap (λ (x : Piece). x.kind) (same ∙ at)) ∙ is in
      subst (HasExec execs) (sym at) (part_exec execs (part_at ps r.part) (Member-at ps r.part start_part r.exists) (λ e. not_start (e ∙ its)) (λ e. not_end (e ∙ its))))
      (λ (j : (is_joined ps (part_at ps r.part) ≡ true) × (node ≡ first_piece ps r.part)).
      let its : piece.Join ≡ kind = sym (join_kind ps r.part r.exists j.0) ∙ ap (λ x. (piece_at (pieces_of ps) x).kind) (sym j.1) ∙ sym (ap (λ (x : Piece). x.kind) same) ∙ is in
      absurd (not_join its))
      r.which))
      (λ (new : length (rows (parts execs)) ≤ node). absurd (not_hold (sym (holds.new_piece node new below) ∙ is)))
      (cases_lt node (length (rows (parts execs))))
    where
      holds : HasHolds (joined execs) (finish execs) (flow execs)
      holds = has_holds told met names execs loops well

  pub act_runs : (node : ℕ) → node < (flow execs).graph.nodes → kind_at (flow execs) node ≡ piece.Act → IsPartOf (flow execs) execs node is_act
  act_runs node below is = grind (arith, piece_exec node piece.Act below is)

  pub branch_runs : (node : ℕ) → node < (flow execs).graph.nodes → kind_at (flow execs) node ≡ piece.Branch → IsPartOf (flow execs) execs node is_branch
  branch_runs node below is = grind (arith, piece_exec node piece.Branch below is)
