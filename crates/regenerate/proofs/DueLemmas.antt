-- What is due before a statement.
use Rattle.std.proofs.Common.{◌≡◌, ℕ, ◌≤◌, not, ◌&&◌, List, [], length, filter, fold, sym, ap, ◌∙◌}
use Rattle.f77_tree.specs.declared.programs.Program.{Program}
use Rattle.cfg_build.specs.Flow.{flow, piece_at}
use Rattle.cfg_build.specs.Joined.{FlowGraph}
use Rattle.redundancy.specs.Available.{Availability, available_at}
use Rattle.redundancy.specs.Computed.{computed_by}
use Rattle.simplified_forms.specs.Items.{own_piece}
use Rattle.shared_forms.specs.Numbered.{added, number_of, numbers_in}
use Rattle.shared_forms.specs.Shared.{computed, due, is_available, is_shared}
use Rattle.shared_forms.proofs.SharingLemmas.{none-computed, numbers-computed}

module _ (q : Program) (a : Availability) (f : FlowGraph) (k node : ℕ) (ns : List ℕ) (flows : f ≡ flow q.execs) (own : node ≡ own_piece q k) (are : ns ≡ numbers_in a.candidates (computed_by q.execs (piece_at f.pieces node))) where
  pub due-computed : fold added [] (filter (λ n. is_shared q a (number_of a) n && not (available_at a n node)) ns) ≡ due q a (number_of a) k
  due-computed =
      ap (λ (xs : List ℕ). fold added [] (filter (λ n. is_shared q a (number_of a) n && not (available_at a n node)) xs)) (numbers-computed q a f k node ns flows own are)
      ∙ ap (λ x. fold added [] (filter (λ n. is_shared q a (number_of a) n && not (available_at a n x)) (computed q a (number_of a) k))) own

  pub due-none : length f.pieces ≤ node → ns ≡ due q a (number_of a) k
  due-none past =
      none-computed q a f k node ns flows own are past
      ∙ ap (λ (xs : List ℕ). fold added [] (filter (λ n. is_shared q a (number_of a) n && not (is_available q a (number_of a) k n)) xs)) (sym (none-computed q a f k node ns flows own are past) ∙ numbers-computed q a f k node ns flows own are)
