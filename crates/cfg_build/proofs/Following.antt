-- The chain that is followed is the one that is led along.
use Rattle.std.proofs.Common.{◌≡◌, ℕ, zero, suc, ◌+◌, ◌≤◌, Bool, true, false, cond, List, [], ◌∷◌, ◌++◌, length, slice_get, ap, ◌∙◌, arith}
use Rattle.closed_walks.specs.Graph.{to}
use Rattle.f77_tree.specs.declared.programs.Exec.{Exec}
use Rattle.cfg_build.specs.declared.pieces.PieceKind.{PieceKind}
use Rattle.cfg_build.specs.Flow.{flow, piece_at}
use Rattle.cfg_build.specs.Passes.{out, kind_in}
use Rattle.cfg_build.specs.Chains.{has_test, goes_on, goes_on_from, following}
use Rattle.cfg_build.specs.Routes.{leads_on, IsRoute}

leads_goes : (kind : PieceKind) (b : Bool) → leads_on kind ≡ true → goes_on_from kind b ≡ true
leads_goes h b h2 = grind arith

module _ (execs : List Exec) where
  abbrev next : ℕ → ℕ
  next node = to (flow execs).graph (out (flow execs).graph node 0)

  pub goes_further : (most node : ℕ) → goes_on execs (piece_at (flow execs).pieces node) ≡ true → following (suc most) execs node ≡ node ∷ following most execs (to (flow execs).graph (out (flow execs).graph node 0))
  goes_further most node h = ap (λ b. node ∷ cond b (following most execs (next node)) []) h

  pub goes_no_further : (most node : ℕ) → goes_on execs (piece_at (flow execs).pieces node) ≡ false → following (suc most) execs node ≡ node ∷ []
  goes_no_further most node h = ap (λ b. node ∷ cond b (following most execs (next node)) []) h

  -- no more pieces are followed than there is room for
  pub following_few : (most node : ℕ) → length (following most execs node) ≤ most
  following_few zero node = omega arith
  following_few (suc most) node = grind (arith, following_few most (next node))

  -- where more room adds no piece, there are never more pieces than that room takes
  pub few_followed : (room node : ℕ) → ((most : ℕ) → room ≤ most → following most execs node ≡ following room execs node) → (most : ℕ) → length (following most execs node) ≤ room
  few_followed room node whole most = grind (arith, following_few)

  pub along_prefix : (prefix : List ℕ) (node last most : ℕ) → IsRoute (flow execs) node prefix last → following (length prefix + most) execs node ≡ prefix ++ following most execs last
  along_prefix [] node last most route = let e : 0 + most ≡ most = omega arith in ap (λ n. following n execs node) e ∙ ap (λ n. following most execs n) route
  along_prefix (first ∷ rest) node last most route =
      let e : suc (length rest) + most ≡ suc (length rest + most) = omega arith in
      let piece = piece_at (flow execs).pieces first in
      ap (λ n. following n execs node) e
      ∙ ap (λ n. following (suc (length rest + most)) execs n) route.0
      ∙ goes_further (length rest + most) first (leads_goes piece.kind (has_test (kind_in (slice_get execs piece.exec))) route.1)
      ∙ ap (λ xs. first ∷ xs) (along_prefix rest (next first) last most route.2)
