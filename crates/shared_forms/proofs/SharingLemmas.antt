-- Numbers that are appended, and candidates that are noted as shared.
use Rattle.std.proofs.Common.{◌≡◌, ℕ, ◌+◌, ◌<◌, ◌≤◌, All, subst, Bool, true, false, ◌||◌, ◌&&◌, List, [], ◌∷◌, length, Option, option_to_list, refl, sym, ap, ◌∙◌}
use Rattle.std.specs.List.{list_any, range_with_len}
use Rattle.std.proofs.lemmas.List.{append-nil}
use Rattle.std.proofs.lemmas.List.Folds.{list_any-append}
use Rattle.list_laws.proofs.Ranges.{range_more}
use Rattle.f77_tree.specs.declared.expressions.Expr.{Expr}
use Rattle.shared_forms.specs.Numbered.{number_in, number_of, numbers_in}
use Rattle.shared_forms.specs.Shared.{computed, is_available, is_one_of}
use Rattle.f77_tree.specs.declared.programs.Program.{Program}
use Rattle.std.proofs.lemmas.Option.{slice_get_past}
use Rattle.cfg_build.specs.declared.pieces.Piece.{Piece}
use Rattle.cfg_build.specs.Flow.{flow, piece_at, piece_in}
use Rattle.cfg_build.specs.Joined.{FlowGraph}
use Rattle.redundancy.specs.Available.{Availability, available_at}
use Rattle.redundancy.specs.Computed.{computed_by}
use Rattle.simplified_forms.specs.Items.{own_piece}
use Rattle.shared_forms.proofs.NumberLemmas.{numbers_in-below}

pub numbers-one : (ds : List Expr) (e : Expr) → numbers_in ds (e ∷ []) ≡ option_to_list (number_in ds e)
numbers-one ds e = append-nil (option_to_list (number_in ds e))

-- ---- notes

pub or_false : (b : Bool) → (b || false) ≡ b
or_false true = refl
or_false false = refl

pub list_any-range_more : (p : ℕ → Bool) (k : ℕ) → list_any p (range_with_len 0 (k + 1)) ≡ (list_any p (range_with_len 0 k) || p k)
list_any-range_more p k = ap (list_any p) (range_more k) ∙ list_any-append p (range_with_len 0 k) (k ∷ []) ∙ ap (λ b. list_any p (range_with_len 0 k) || b) (or_false (p k))

-- ---- an executable

pub numbers_at-below : (ds es : List Expr) (ns : List ℕ) → ns ≡ numbers_in ds es → All (λ n. n < length ds) ns
numbers_at-below ds es ns are = subst (λ (xs : List ℕ). All (λ n. n < length ds) xs) (sym are) (numbers_in-below ds es)

module _ (q : Program) (a : Availability) (f : FlowGraph) (k node : ℕ) (ns : List ℕ) (flows : f ≡ flow q.execs) (own : node ≡ own_piece q k) (are : ns ≡ numbers_in a.candidates (computed_by q.execs (piece_at f.pieces node))) where
  pub numbers-computed : ns ≡ computed q a (number_of a) k
  numbers-computed =
      are
      ∙ ap (λ (g : FlowGraph). numbers_in a.candidates (computed_by q.execs (piece_at g.pieces node))) flows
      ∙ ap (λ x. numbers_in a.candidates (computed_by q.execs (piece_at (flow q.execs).pieces x))) own

  pub noted-then : (n : ℕ) (old new : Bool) → new ≡ (old || (is_one_of ns n && available_at a n node)) → new ≡ (old || (is_one_of (computed q a (number_of a) k) n && is_available q a (number_of a) k n))
  noted-then n old new is =
      is
      ∙ ap (λ (xs : List ℕ). old || (is_one_of xs n && available_at a n node)) numbers-computed
      ∙ ap (λ x. old || (is_one_of (computed q a (number_of a) k) n && available_at a n x)) own

  pub none-computed : length f.pieces ≤ node → ns ≡ []
  none-computed past = are ∙ ap (λ (o : Option Piece). numbers_in a.candidates (computed_by q.execs (piece_in o))) (slice_get_past f.pieces node past)

  pub noted-else : (n : ℕ) (old new : Bool) → length f.pieces ≤ node → new ≡ old → new ≡ (old || (is_one_of (computed q a (number_of a) k) n && is_available q a (number_of a) k n))
  noted-else n old new past is =
      is
      ∙ sym (or_false old)
      ∙ ap (λ (xs : List ℕ). old || (is_one_of xs n && is_available q a (number_of a) k n)) (sym (none-computed past) ∙ numbers-computed)
