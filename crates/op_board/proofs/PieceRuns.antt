-- All operations of a piece, one after another.
use Rattle.std.proofs.Common.{◌≡◌, ◌<◌, ◌⊎◌, ℕ, zero, suc, ◌+◌, true, List, [], ◌++◌, Option, Some, None, slice_get, Result, Ok, Err, refl, sym, ap, ◌∙◌, subst, inl, inr, arith}
use Rattle.std.specs.List.{range_with_len}
use Rattle.op_table.specs.declared.Trap.{Trap}
use Rattle.f77_tree.specs.Execution.{Memory}
use Rattle.cfg_build.specs.Passes.{Along, Traps, out}
use Rattle.firing.specs.Moves.{CanFire, line_bytes}
use Rattle.firing.specs.Orders.{IsOrder, after, written}
use Rattle.net_board.specs.Tokens.{Tokens, acted, pass_at, source_line, text_of}
use Rattle.net_board.proofs.ListPrefixes.{HasItem, item_at}
use Rattle.op_board.specs.Operations.{Operation}
use Rattle.op_board.specs.Effects.{Effect, Stopped}
use Rattle.op_board.specs.OperationFacts.{OperationFacts}
use Rattle.net_board.specs.Nodes.{graph_in}
use Rattle.op_board.specs.OperationCourse.{choice_of, decided}
use Rattle.op_board.specs.OperationNets.{OperationNet, first_operation, operation_count, operation_node, operations_at}
use Rattle.op_board.specs.OperationOrder.{ran_at}
use Rattle.op_board.specs.OperationTokens.{OperationTokens, between_pieces, fired_as, line_as, operation_moves, performed_at}
use Rattle.op_board.specs.SoundOperationNets.{IsOperationNet}
use Rattle.op_board.proofs.OperationEnds.{IsGone, exit_is, is_gone, part_last, text_last}
use Rattle.op_board.proofs.OperationSteps.{IsStopped, line_is, performed_is, part_next, result, silent_next, stops}
use Rattle.op_board.proofs.AmidPieces.{IsAtPiece, IsPart, exit, list, op_is, part_can, part_first}
use Rattle.op_board.proofs.RangeOrders.{after_more, order_less, order_more, written_more}

pub trap_or_none : (trap : Trap × ℕ) → Some trap ≡ None → ⊥
trap_or_none trap e = cc

traps_or_goes : (trap : Trap) (edge : ℕ) (memory : Memory) (text : List ℕ) → Traps trap ≡ Along edge memory text → ⊥
traps_or_goes trap edge memory text e = cc

module _ (x : OperationNet) (n : IsOperationNet x) (facts : OperationFacts x) (piece : ℕ) (m : Tokens) (at : IsAtPiece x piece m) where
  -- the marking after so many operations
  abbrev pub amid : (i : ℕ) → OperationTokens
  amid i = after (operation_moves x) (between_pieces x m) (range_with_len (first_operation x piece) i)

  pub record IsPartRun (i : ℕ) : Type 0 where
    pub order : IsOrder (operation_moves x) (between_pieces x m) (range_with_len (first_operation x piece) i)
    pub part : IsPart x n facts piece m at i (amid i)
    pub quiet : written (operation_moves x) (between_pieces x m) (range_with_len (first_operation x piece) i) ≡ []

  -- all of them have fired, and have done what the piece does
  pub record IsAllRun : Type 0 where
    pub order : IsOrder (operation_moves x) (between_pieces x m) (range_with_len (first_operation x piece) (operation_count x piece))
    pub is : amid (operation_count x piece) ≡ between_pieces x (acted x.net m piece (pass_at x.net piece m.memory))
    pub lines : written (operation_moves x) (between_pieces x m) (range_with_len (first_operation x piece) (operation_count x piece)) ≡ line_bytes (text_of (pass_at x.net piece m.memory))
    pub goes : (trap : Trap) → pass_at x.net piece m.memory ≡ Traps trap → ⊥

  -- one of them has trapped, as the piece does
  pub record IsStopRun : Type 0 where
    pub number : ℕ
    pub inside : number < operation_count x piece
    pub memory : Memory
    pub trap : Trap
    pub ran_is : ran_at x piece m.memory ≡ Stopped number memory trap
    pub made : pass_at x.net piece m.memory ≡ Traps trap
    pub order : IsOrder (operation_moves x) (between_pieces x m) (range_with_len (first_operation x piece) (suc number))
    pub trapped : (amid (suc number)).tokens.trap ≡ Some (trap, source_line x.net piece)
    pub memory_is : (amid (suc number)).tokens.memory ≡ m.memory
    pub lines : written (operation_moves x) (between_pieces x m) (range_with_len (first_operation x piece) (suc number)) ≡ []
    pub needs : x.needs piece number 0 ≡ true

  pub none_run : IsPartRun 0
  none_run = record { order = tt; part = part_first x n facts piece m at; quiet = refl }

  module _ (i : ℕ) (run : IsPartRun i) (op : Operation) (is : slice_get (operations_at x piece) i ≡ Some op) where
    pub next_is : amid (suc i) ≡ fired_as x (amid i) (first_operation x piece + i) (operation_node x (first_operation x piece + i))
    next_is = after_more (operation_moves x) (between_pieces x m) (first_operation x piece) i

    pub can : CanFire (operation_moves x) (amid i) (first_operation x piece + i)
    can = part_can x n facts piece m at i (amid i) run.part op is

    pub next_order : IsOrder (operation_moves x) (between_pieces x m) (range_with_len (first_operation x piece) (suc i))
    next_order = order_more (operation_moves x) (between_pieces x m) (first_operation x piece) i run.order can

    next_lines : (o : Option (List ℕ)) → line_as x (amid i) (operation_node x (first_operation x piece + i)) ≡ o → written (operation_moves x) (between_pieces x m) (range_with_len (first_operation x piece) (suc i)) ≡ line_bytes o
    next_lines o same =
        written_more (operation_moves x) (between_pieces x m) (first_operation x piece) i
        ∙ ap (λ (before : List ℕ). before ++ line_bytes (line_as x (amid i) (operation_node x (first_operation x piece + i)))) run.quiet
        ∙ ap line_bytes same

    pub run_next : (e : Effect) → result x n facts piece m at i (amid i) run.part op is ≡ Ok e → suc i < operation_count x piece → IsPartRun (suc i)
    run_next e ok more = record {
      order = next_order;
      part = subst (λ (t : OperationTokens). IsPart x n facts piece m at (suc i) t) (sym next_is) (part_next x n facts piece m at i (amid i) run.part op is e ok more);
      quiet = next_lines None (silent_next x n facts piece m at i (amid i) run.part op is e ok more);
    }

    pub run_last : (e : Effect) → result x n facts piece m at i (amid i) run.part op is ≡ Ok e → suc i ≡ operation_count x piece → IsAllRun
    run_last e ok last =
        let gone_on : IsGone x n facts piece m at i (amid i) run.part op is e ok last = is_gone x n facts piece m at i (amid i) run.part op is e ok last in
        record {
          order = subst (λ (k : ℕ). IsOrder (operation_moves x) (between_pieces x m) (range_with_len (first_operation x piece) k)) last next_order;
          is = ap amid (sym last) ∙ next_is ∙ part_last x n facts piece m at i (amid i) run.part op is e ok last;
          lines = ap (λ (k : ℕ). written (operation_moves x) (between_pieces x m) (range_with_len (first_operation x piece) k)) (sym last) ∙ next_lines (text_of (pass_at x.net piece m.memory)) (text_last x n facts piece m at i (amid i) run.part op is e ok last);
          goes = λ trap traps. traps_or_goes trap gone_on.edge gone_on.memory gone_on.text (sym traps ∙ gone_on.made);
        }

    -- the last one tells the edge by which control leaves the piece
    pub decided_last : (e : Effect) → result x n facts piece m at i (amid i) run.part op is ≡ Ok e → suc i ≡ operation_count x piece → decided x (amid i) piece i ≡ exit x n facts piece m at
    decided_last e ok last =
        ap (λ (o : Operation). out (graph_in x.net) piece (choice_of (performed_at x (amid i) piece o))) (op_is x n facts piece m at i (amid i) run.part op is)
        ∙ ap (λ r. out (graph_in x.net) piece (choice_of r)) (performed_is x n facts piece m at i (amid i) run.part op is ∙ ok)
        ∙ exit_is x n facts piece m at i (amid i) run.part op is e ok last

    pub run_stops : (trap : Trap) → i < operation_count x piece → result x n facts piece m at i (amid i) run.part op is ≡ Err trap → IsStopRun
    run_stops trap low err =
        let stopped : IsStopped x n facts piece m at i (amid i) run.part op is trap = stops x n facts piece m at i (amid i) run.part op is trap err in
        let part = run.part in
        record {
          number = i;
          inside = low;
          memory = part.last.memory;
          trap = trap;
          ran_is = stopped.ran_is;
          made = stopped.made;
          order = next_order;
          trapped = ap (λ (t : OperationTokens). t.tokens.trap) next_is ∙ stopped.trapped;
          memory_is = ap (λ (t : OperationTokens). t.tokens.memory) next_is ∙ stopped.memory;
          lines = next_lines None (line_is x n facts piece m at i (amid i) run.part op is ∙ ap Rattle.op_board.specs.OperationTokens.text_written err);
          needs = stopped.needs;
        }

  -- from some operation on
  run_from : (more i : ℕ) → suc (more + i) ≡ operation_count x piece → IsPartRun i → IsAllRun ⊎ IsStopRun
  run_from zero i sum run = on (item_at (operations_at x piece) i (omega (arith, sum)))
    where
      ends : (op : Operation) (is : slice_get (operations_at x piece) i ≡ Some op) (r : Result Effect Trap) → result x n facts piece m at i (amid i) run.part op is ≡ r → IsAllRun ⊎ IsStopRun
      ends op is (Err trap) same = inr (run_stops i run op is trap (omega (arith, sum)) same)
      ends op is (Ok e) same = inl (run_last i run op is e same (omega (arith, sum)))

      on : HasItem (operations_at x piece) i → IsAllRun ⊎ IsStopRun
      on own = ends own.item own.at (result x n facts piece m at i (amid i) run.part own.item own.at) refl
  run_from (suc more) i sum run = on (run_from more (suc i) (shifted more i (operation_count x piece) sum)) (item_at (operations_at x piece) i (omega (arith, sum)))
    where
      shifted : (a b c : ℕ) → suc (suc a + b) ≡ c → suc (a + suc b) ≡ c
      shifted a b c e = omega (arith, e)

      ends : (IsPartRun (suc i) → IsAllRun ⊎ IsStopRun) → (op : Operation) (is : slice_get (operations_at x piece) i ≡ Some op) (r : Result Effect Trap) → result x n facts piece m at i (amid i) run.part op is ≡ r → IsAllRun ⊎ IsStopRun
      ends rest op is (Err trap) same = inr (run_stops i run op is trap (omega (arith, sum)) same)
      ends rest op is (Ok e) same = rest (run_next i run op is e same (omega (arith, sum)))

      on : (IsPartRun (suc i) → IsAllRun ⊎ IsStopRun) → HasItem (operations_at x piece) i → IsAllRun ⊎ IsStopRun
      on rest own = ends rest own.item own.at (result x n facts piece m at i (amid i) run.part own.item own.at) refl

  pub run_all : IsAllRun ⊎ IsStopRun
  run_all = by (operation_count x piece) refl
    where
      by : (all : ℕ) → operation_count x piece ≡ all → IsAllRun ⊎ IsStopRun
      by zero same = let some = (list x n facts piece m at).some in absurd (omega (arith, some, same))
      by (suc all) same = run_from all 0 (sum all (operation_count x piece) same) none_run
        where
          sum : (a b : ℕ) → b ≡ suc a → suc (a + 0) ≡ b
          sum a b e = omega (arith, e)

  -- ---- by an order that has fired without a trap

  pub run_by_order : (i : ℕ) → i < operation_count x piece → IsOrder (operation_moves x) (between_pieces x m) (range_with_len (first_operation x piece) i) → (amid i).tokens.trap ≡ None → IsPartRun i
  run_by_order zero low order going = none_run
  run_by_order (suc i) low order going =
      let parts = order_less (operation_moves x) (between_pieces x m) (first_operation x piece) i order in
      let fires : CanFire (operation_moves x) (amid i) (first_operation x piece + i) = parts.1 in
      on (run_by_order i (omega (arith, low)) parts.0 fires.going) (item_at (operations_at x piece) i (omega (arith, low)))
    where
      ends : (run : IsPartRun i) (op : Operation) (is : slice_get (operations_at x piece) i ≡ Some op) (r : Result Effect Trap) → result x n facts piece m at i (amid i) run.part op is ≡ r → IsPartRun (suc i)
      ends run op is (Ok e) same = run_next i run op is e same low
      ends run op is (Err trap) same =
          let stopped : IsStopped x n facts piece m at i (amid i) run.part op is trap = stops x n facts piece m at i (amid i) run.part op is trap same in
          absurd (trap_or_none (trap, source_line x.net piece) (sym stopped.trapped ∙ ap (λ (t : OperationTokens). t.tokens.trap) (sym (next_is i run op is)) ∙ going))

      on : IsPartRun i → HasItem (operations_at x piece) i → IsPartRun (suc i)
      on run own = ends run own.item own.at (result x n facts piece m at i (amid i) run.part own.item own.at) refl

  -- where all of them fire, the last one tells the edge of the piece
  pub decided_end : IsAllRun → (i : ℕ) → suc i ≡ operation_count x piece → decided x (amid i) piece i ≡ exit x n facts piece m at
  decided_end all i last =
      let whole : IsOrder (operation_moves x) (between_pieces x m) (range_with_len (first_operation x piece) (suc i)) = subst (λ (k : ℕ). IsOrder (operation_moves x) (between_pieces x m) (range_with_len (first_operation x piece) k)) (sym last) all.order in
      let parts = order_less (operation_moves x) (between_pieces x m) (first_operation x piece) i whole in
      let fires : CanFire (operation_moves x) (amid i) (first_operation x piece + i) = parts.1 in
      on (run_by_order i (omega (arith, last)) parts.0 fires.going) (item_at (operations_at x piece) i (omega (arith, last)))
    where
      ends : (run : IsPartRun i) (op : Operation) (is : slice_get (operations_at x piece) i ≡ Some op) (r : Result Effect Trap) → result x n facts piece m at i (amid i) run.part op is ≡ r → decided x (amid i) piece i ≡ exit x n facts piece m at
      ends run op is (Ok e) same = decided_last i run op is e same last
      ends run op is (Err trap) same = let stop : IsStopRun = run_stops i run op is trap (omega (arith, last)) same in absurd (all.goes stop.trap stop.made)

      on : IsPartRun i → HasItem (operations_at x piece) i → decided x (amid i) piece i ≡ exit x n facts piece m at
      on run own = ends run own.item own.at (result x n facts piece m at i (amid i) run.part own.item own.at) refl
