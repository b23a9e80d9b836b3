-- Which executable a piece runs.
use Rattle.std.proofs.Common.{◌≡◌, ◌≢◌, ℕ, ◌<◌, ◌≤◌, Bool, true, false, ◌==◌, ◌&&◌, length, get_or, All, refl, sym, ap, ◌∙◌, ⊎_elim, arith}
use Rattle.std.specs.Prelude.{nat_lt}
use Rattle.std.specs.List.{position_or_len, range_with_len}
use Rattle.std.proofs.lemmas.Bool.{cases_eq, eq-eqb}
use Rattle.std.proofs.lemmas.Bool.Decides.{nat_tests}
use Rattle.std.proofs.lemmas.List.Folds.{list_any_none}
use Rattle.std.proofs.lemmas.List.FromFn.{get_or-range_with_len, length-range_with_len}
use Rattle.closed_walks.specs.Graph.{Graph, IsGraph, edge_count, to}
use Rattle.list_laws.proofs.KeyPlaces.{absent}
use Rattle.f77_tree.specs.declared.programs.Program.{Program}
use Rattle.cfg_build.specs.declared.pieces.Piece.{Piece}
use Rattle.simplified_forms.specs.Items.{kind_at, is_own, is_piece_of}

-- ---- tests

both-right : (a b : Bool) → (a && b) ≡ true → b ≡ true
both-right true b e = e
both-right false b e = let no : false ≡ true = e in absurd cc

left-no : (a b : Bool) → a ≡ false → (a && b) ≡ false
left-no a b e = ap (λ x. x && b) e

both-yes : (a b : Bool) → a ≡ true → b ≡ true → (a && b) ≡ true
both-yes a b e f = ap (λ x. x && b) e ∙ f

right-no : (a b c : Bool) → a ≡ true → (a && b) ≡ false → (c && b) ≡ false
right-no a b true e none = sym (ap (λ x. x && b) e) ∙ none
right-no a b false e none = refl

pub not-equal : (a k : ℕ) → k ≢ a → (a == k) ≡ false
not-equal a k ne = grind (arith, nat_tests, ne)

-- ---- pieces

module _ (p : Program) (piece : Piece) where
  pub piece-own : (nat_lt piece.exec (length p.execs) && is_own piece.kind (kind_at p piece.exec)) ≡ true → is_piece_of p piece.exec piece ≡ true
  piece-own is = both-yes (piece.exec == piece.exec) (is_own piece.kind (kind_at p piece.exec)) (eq-eqb piece.exec piece.exec refl) (both-right (nat_lt piece.exec (length p.execs)) (is_own piece.kind (kind_at p piece.exec)) is)

  pub piece-other : (k : ℕ) → k ≢ piece.exec → is_piece_of p k piece ≡ false
  piece-other k ne = left-no (piece.exec == k) (is_own piece.kind (kind_at p k)) (not-equal piece.exec k ne)

  pub piece-none : (nat_lt piece.exec (length p.execs) && is_own piece.kind (kind_at p piece.exec)) ≡ false → (k : ℕ) → k < length p.execs → is_piece_of p k piece ≡ false
  piece-none none k less =
      ⊎_elim
      (λ (e : k ≡ piece.exec).
      let inside : nat_lt piece.exec (length p.execs) ≡ true = grind (arith, nat_tests, less, e) in
      ap (λ m. is_piece_of p m piece) e ∙ right-no (nat_lt piece.exec (length p.execs)) (is_own piece.kind (kind_at p piece.exec)) (piece.exec == piece.exec) inside none)
      (λ ne. piece-other k ne)
      (cases_eq k piece.exec)

-- ---- edges

-- no edge leads to what is no node
pub no-edge : (g : Graph) (node : ℕ) → IsGraph g → g.nodes ≤ node → position_or_len (λ e. to g e == node) (range_with_len 0 (edge_count g)) ≡ edge_count g
no-edge g node sound past =
    let size = length-range_with_len 0 (edge_count g) in
    let others : All (λ e. (to g e == node) ≡ false) (range_with_len 0 (edge_count g)) =
    λ k d less.
    let e = get_or (range_with_len 0 (edge_count g)) k d in
    let is = get_or-range_with_len 0 (edge_count g) k d (omega (arith, less, size)) in
    let below = sound.ends e (omega (arith, is, less, size)) in
    not-equal (to g e) node (λ (same : node ≡ to g e). omega (arith, same, below, past))
    in
    let none = list_any_none (λ e. to g e == node) (range_with_len 0 (edge_count g)) others in
    (absent (λ (x : ℕ) e. to g e == node) 0 0 (range_with_len 0 (edge_count g)) none).last ∙ size
