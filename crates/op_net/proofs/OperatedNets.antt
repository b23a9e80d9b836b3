-- The firing of an operation, put together from what its parts change of the places.
use Rattle.std.proofs.Common.{◌≡◌, ◌≢◌, ◌<◌, ◌+◌, ◌-◌, ℕ, ℤ, pos, Bool, true, false, if◌then◌else◌, List, [], length, Option, None, Some, Result, Ok, Err, slice_get, refl, sym, ap, subst, ◌∙◌, arith}
use Rattle.std.specs.List.{list_all}
use Rattle.op_table.specs.declared.Trap.{Trap}
use Rattle.cfg_build.specs.declared.pieces.Piece.{Piece}
use Rattle.cfg_build.specs.Flow.{piece_in}
use Rattle.cfg_build.specs.Joined.{FlowGraph}
use Rattle.cfg_build.specs.Passes.{out}
use Rattle.f77_tree.specs.Execution.{Memory}
use Rattle.firing.specs.declared.system.Fired.{Fired}
use Rattle.firing.specs.declared.system.Fired.TheVariants.{Line, Moved, Trapped}
use Rattle.firing.specs.declared.system.NodeName.TheVariants.{Op}
use Rattle.firing.specs.Moves.{FiredIs, newest}
use Rattle.net_board.specs.Nodes.{graph_in, switches}
use Rattle.net_board.specs.Tokens.{source_line}
use Rattle.op_board.specs.Effects.{Effect, gives, performed, tells}
use Rattle.op_board.specs.OperationCourse.{choice_of}
use Rattle.op_board.specs.OperationNets.{OperationNet, first_operation, needed, operation_at, operation_node}
use Rattle.op_board.specs.OperationTokens.{OperationTokens, can_operate, givers, has_room, line_as, operated, operation_moves, performed_at, stands_before, value_at}
use Rattle.op_board.specs.Operations.{Operation, gives_value, is_decision}
use Rattle.operation_effects.specs.declared.performing.Did.{Did}
use Rattle.operation_effects.specs.declared.performing.Did.TheVariants as did
use Rattle.operation_effects.specs.Done.{told}
use Rattle.operation_places.specs.declared.places.Places.{Places}
use Rattle.op_net.specs.FiringChanges.{given_on, remembered, stopped_on, told_on}
use Rattle.operation_tables.specs.OperationRows.{room_of, waits_anew}
use Rattle.operation_tables.specs.PlanFacts.{PlanFacts}
use Rattle.operation_places.specs.PlacesView.{IsAheadBy, IsCountedAhead, MakesUp, standing}
use Rattle.operation_places.specs.StandingChanges.{lines_dropped, values_taken}
use Rattle.operation_places.specs.Steering.{LeadsBy}
use Rattle.operation_tables.specs.Waits.{node_total, one_if}
use Rattle.operation_places.proofs.ControlMoveLemmas.{operation_leads}
use Rattle.operation_tables.proofs.NodeNames.{IsOperationAt, operation_at_node}
use Rattle.op_net.proofs.FiringParts.{IsReadyOperation, args_same, gave_gives, gave_marking, gives_tell_nothing, new_line, ready_operation, same_at_trap, same_line, silent, taken_empty, tells_give_nothing, told_marking, trap_answered, trapped_gives, trapped_marking, wrote, wrote_marking}

-- the places with this memory and this trap make this marking
abbrev pub whole : OperationTokens → Memory → Option (Trap × ℕ) → OperationTokens
whole m memory trap = record m { tokens = record m.tokens { memory = memory; trap = trap } }

-- the source line of a piece
pub line_told : (own real : FlowGraph) (piece : ℕ) (p : Piece) → own ≡ real → slice_get own.pieces piece ≡ Some p → p.line ≡ (piece_in (slice_get real.pieces piece)).line
line_told own real piece p same is = sym (ap (λ o. (piece_in o).line) (ap (λ (f : FlowGraph). slice_get f.pieces piece) (sym same) ∙ is))

-- ---- the count of the operation, which is ahead

pub room_some : (x : OperationNet) (piece i : ℕ) → is_decision (operation_at x piece i).work ≡ true → room_of x piece i ≡ length (switches x.net piece)
room_some x piece i decides = ap (λ (b : Bool). if b then length (switches x.net piece) else 0) decides

pub room_none : (x : OperationNet) (piece i : ℕ) → is_decision (operation_at x piece i).work ≡ false → room_of x piece i ≡ 0
room_none x piece i decides = ap (λ (b : Bool). if b then length (switches x.net piece) else 0) decides

pub ahead_by : (x : OperationNet) (s : Places) (k least rest : ℕ) → IsCountedAhead x s k (least + rest) → ∥ IsAheadBy x s k least ∥₁
ahead_by x s k least rest ahead = ∣ record { rest = rest; counted = ahead } ∣₁

pub ahead_other : (x : OperationNet) (s : Places) (k least other : ℕ) → least ≡ other → ∥ IsAheadBy x s k least ∥₁ → ∥ IsAheadBy x s k other ∥₁
ahead_other x s k least other is ahead = subst (λ (n : ℕ). ∥ IsAheadBy x s k n ∥₁) is ahead

-- where nothing changes there is nothing to make up for
pub none_made : (x : OperationNet) (s : Places) (k much : ℕ) → much ≡ 0 → MakesUp x s s k much
none_made x s k much none rest ahead = let same : much + rest ≡ rest = omega (arith, none) in subst (IsCountedAhead x s k) same ahead

module _ (x : OperationNet) (s : Places) (k piece i : ℕ) (is : k ≡ first_operation x piece + i) where
  abbrev lines : ℕ
  lines = length (needed x piece i)

  abbrev values : ℕ
  values = length (givers x piece (operation_at x piece i).operands)

  abbrev own : ℕ
  own = one_if (gives_value (operation_at x piece i).work)

  at_operation : (n m : ℕ) → n ≡ m → IsCountedAhead x s k n → IsCountedAhead x s (first_operation x piece + i) m
  at_operation n m same ahead = subst (λ (j : ℕ). IsCountedAhead x s j m) is (subst (IsCountedAhead x s k) same ahead)

  at_node : (n m : ℕ) → n ≡ m → IsCountedAhead x s (first_operation x piece + i) n → IsCountedAhead x s k m
  at_node n m same ahead = subst (λ (j : ℕ). IsCountedAhead x s j m) (sym is) (subst (IsCountedAhead x s (first_operation x piece + i)) same ahead)

  -- before its operands are taken
  pub ahead_whole : IsCountedAhead x s k (waits_anew x piece i) → IsCountedAhead x s (first_operation x piece + i) (values + (lines + (own + room_of x piece i)))
  ahead_whole ahead = at_operation (waits_anew x piece i) (values + (lines + (own + room_of x piece i))) (omega arith) ahead

  -- after that, where it gives a value
  pub ahead_gives : gives_value (operation_at x piece i).work ≡ true → IsCountedAhead x s (first_operation x piece + i) (lines + (own + room_of x piece i)) → IsCountedAhead x s k (1 + lines + 0)
  ahead_gives gives ahead =
      let one : own ≡ 1 = ap one_if gives in
      let none = room_none x piece i (gives_tell_nothing (operation_at x piece i).work gives) in
      at_node (lines + (own + room_of x piece i)) (1 + lines + 0) (omega (arith, one, none)) ahead

  -- and where it gives none
  pub ahead_tells : gives_value (operation_at x piece i).work ≡ false → IsCountedAhead x s (first_operation x piece + i) (lines + (own + room_of x piece i)) → IsCountedAhead x s (first_operation x piece + i) (room_of x piece i + lines + 0)
  ahead_tells gives ahead =
      let none : own ≡ 0 = ap one_if gives in
      subst (IsCountedAhead x s (first_operation x piece + i)) (omega (arith, none)) ahead

  -- a load whose lines another game moves
  pub ahead_apart : (waits hops more : ℕ) → gives_value (operation_at x piece i).work ≡ true → waits ≡ waits_anew x piece i → hops ≡ lines → more ≡ waits - hops → IsCountedAhead x s k more → IsCountedAhead x s (first_operation x piece + i) (values + 1)
  ahead_apart waits hops more gives waits_is hops_is more_is ahead =
      let one : own ≡ 1 = ap one_if gives in
      let none = room_none x piece i (gives_tell_nothing (operation_at x piece i).work gives) in
      at_operation more (values + 1) (omega (arith, one, none, waits_is, hops_is, more_is)) ahead

  pub ahead_load : IsCountedAhead x s (first_operation x piece + i) 1 → IsCountedAhead x s k 1
  ahead_load ahead = at_node 1 1 refl ahead

-- ---- what the firing does

-- the marking to which it leads, the edge that it tells, what it answers and the newest line
pub record IsOperated (x : OperationNet) (m new : OperationTokens) (k piece i edge : ℕ) (fired : Fired) (old line : List ℕ) : Type 0 where
  pub marking : new ≡ operated x m k piece i (operation_at x piece i) (performed_at x m piece (operation_at x piece i))
  pub leads : LeadsBy x m k edge
  pub fired_is : FiredIs (operation_moves x) m k fired
  pub last : line ≡ newest (line_as x m (Op piece i)) old

-- what is performed depends on no trap
pub performed_so : (x : OperationNet) (m : OperationTokens) (memory : Memory) (before : Option (Trap × ℕ)) (piece i : ℕ) (n : OperationTokens) (r : Result Effect Trap) → n ≡ m → performed_at x (remembered n memory) piece (operation_at x piece i) ≡ r → performed_at x (whole m memory before) piece (operation_at x piece i) ≡ r
performed_so x m memory before piece i n r same is =
    ap (performed x.net.program.names x.net.input memory (operation_at x piece i).work) (args_same x piece (whole m memory before) (remembered m memory) refl (operation_at x piece i).operands)
    ∙ ap (λ (t : OperationTokens). performed_at x (remembered t memory) piece (operation_at x piece i)) (sym same)
    ∙ is

-- ---- an operation that is performed, and that hasn't given its value

-- a ready operation is performed, whose operands are taken then: it did this, and left this memory and this line
pub record IsPerformed (x : OperationNet) (m : OperationTokens) (memory : Memory) (before : Option (Trap × ℕ)) (t : Places) (k piece i : ℕ) (d : Did) (after : Memory) (line : List ℕ) : Type 0 where
  pub node : k < node_total x
  pub name : operation_node x k ≡ Op piece i
  pub at : IsOperationAt x k piece i
  pub ready : IsReadyOperation x (whole m memory before) k piece i
  pub taken : standing t ≡ values_taken x m piece i
  pub ahead : IsCountedAhead x t (first_operation x piece + i) (length (needed x piece i) + (one_if (gives_value (operation_at x piece i).work) + room_of x piece i))
  pub done : performed_at x (whole m memory before) piece (operation_at x piece i) ≡ told d after line
  pub line_some : d ≡ did.Wrote → line ≢ []
  pub memory_same : (trap : Trap) → d ≡ did.Trapped trap → after ≡ memory

pub has_performed : (x : OperationNet) (m : OperationTokens) (memory : Memory) (before : Option (Trap × ℕ)) (s t : Places) (k piece i waits : ℕ) (d : Did) (after : Memory) (line : List ℕ)
    → k < node_total x → operation_node x k ≡ Op piece i → can_operate x (whole m memory before) k piece i (operation_at x piece i) ≡ true
    → waits ≡ waits_anew x piece i → IsCountedAhead x s k waits → standing s ≡ m
    → standing t ≡ values_taken x (standing s) piece i → MakesUp x s t (first_operation x piece + i) (length (givers x piece (operation_at x piece i).operands))
    → performed_at x (remembered (standing s) memory) piece (operation_at x piece i) ≡ told d after line → (d ≡ did.Wrote → line ≢ []) → ((trap : Trap) → d ≡ did.Trapped trap → after ≡ memory)
    → IsPerformed x m memory before t k piece i d after line
has_performed x m memory before s t k piece i waits d after line node name ready waits_is ahead same taken made done some kept =
    let at : IsOperationAt x k piece i = operation_at_node x k piece i node name in
    record {
      node = node;
      name = name;
      at = at;
      ready = ready_operation x (whole m memory before) k piece i ready;
      taken = taken ∙ ap (λ (n : OperationTokens). values_taken x n piece i) same;
      ahead = made _ (ahead_whole x s k piece i at.number (subst (IsCountedAhead x s k) waits_is ahead));
      done = performed_so x m memory before piece i (standing s) _ same done;
      line_some = some;
      memory_same = kept;
    }

-- whether an operation gives a value that did this
abbrev gives_by : Did → Bool
gives_by (did.Gave z) = true
gives_by did.Changed = false
gives_by did.Wrote = false
gives_by (did.Told choice) = false
gives_by (did.Trapped trap) = true

gives_as : (x : OperationNet) (m : OperationTokens) (k piece i : ℕ) (d : Did) (after : Memory) (line : List ℕ) → performed_at x m piece (operation_at x piece i) ≡ told d after line → gives_value (operation_at x piece i).work ≡ gives_by d
gives_as x m k piece i (did.Gave z) after line is = gave_gives x m k piece i after z is
gives_as x m k piece i did.Changed after line is = tells_give_nothing x m k piece i (tells after 0) is refl
gives_as x m k piece i did.Wrote after line is = tells_give_nothing x m k piece i (record { value = None; memory = after; text = line; choice = 0 }) is refl
gives_as x m k piece i (did.Told choice) after line is = tells_give_nothing x m k piece i (tells after choice) is refl
gives_as x m k piece i (did.Trapped trap) after line is = trapped_gives x m k piece i trap is

-- what is left to do for an operation: to give its value, or to tell an edge
pub record IsGiving (x : OperationNet) (t : Places) (k piece i : ℕ) : Type 0 where
  pub gives : gives_value (operation_at x piece i).work ≡ true
  pub counted : IsCountedAhead x t k (1 + length (needed x piece i) + 0)
  pub ahead : ∥ IsAheadBy x t k (1 + length (needed x piece i)) ∥₁

pub record IsTelling (x : OperationNet) (t : Places) (piece i : ℕ) : Type 0 where
  pub counted : IsCountedAhead x t (first_operation x piece + i) (room_of x piece i + length (needed x piece i) + 0)
  pub ahead : ∥ IsAheadBy x t (first_operation x piece + i) (room_of x piece i + length (needed x piece i)) ∥₁

module _ {x : OperationNet} {m : OperationTokens} {memory : Memory} {before : Option (Trap × ℕ)} {t : Places} {k piece i : ℕ} {d : Did} {after : Memory} {line : List ℕ} (p : IsPerformed x m memory before t k piece i d after line) where
  abbrev op : Operation
  op = operation_at x piece i

  abbrev start : OperationTokens
  start = whole m memory before

  abbrev result : Result Effect Trap
  result = performed_at x start piece op

  still : (P : OperationTokens → Type 0) → P (values_taken x m piece i) → P (standing t)
  still P holds = subst P (sym p.taken) holds

  pub place_empty : value_at (standing t) k ≡ None
  place_empty = still (λ n. value_at n k ≡ None) (taken_empty x m k piece i p.ready.empty)

  pub lines_stand : list_all (stands_before x (standing t) piece i) (needed x piece i) ≡ true
  lines_stand = still (λ n. list_all (stands_before x n piece i) (needed x piece i) ≡ true) p.ready.stand

  pub room_there : has_room x (standing t) piece op.work ≡ true
  room_there = still (λ n. has_room x n piece op.work ≡ true) p.ready.room

  gives_so : gives_value op.work ≡ gives_by d
  gives_so = gives_as x start k piece i d after line p.done

  pub giving : (e : Did) → d ≡ e → gives_by e ≡ true → IsGiving x t k piece i
  giving e is some =
      let gives = gives_so ∙ ap gives_by is ∙ some in
      let counted = ahead_gives x t k piece i p.at.number gives p.ahead in
      record { gives = gives; counted = counted; ahead = ahead_by x t k (1 + length (needed x piece i)) 0 counted }

  pub telling : (e : Did) → d ≡ e → gives_by e ≡ false → IsTelling x t piece i
  telling e is none =
      let counted = ahead_tells x t k piece i p.at.number (gives_so ∙ ap gives_by is ∙ none) p.ahead in
      record { counted = counted; ahead = ahead_by x t (first_operation x piece + i) (room_of x piece i + length (needed x piece i)) 0 counted }

  module _ (facts : PlanFacts x) (going : before ≡ None) (new : OperationTokens) (edge : ℕ) (old : List ℕ) where
    leads_so : (choice : ℕ) → choice_of result ≡ choice → edge ≡ out (graph_in x.net) piece choice → LeadsBy x start k edge
    leads_so choice chosen is = subst (LeadsBy x start k) (sym is) (operation_leads x facts k p.node start piece i choice p.name chosen)

    done_so : (e : Did) → d ≡ e → result ≡ told e after line
    done_so e is = p.done ∙ ap (λ (e : Did). told e after line) is

    pub has_given : (z : ℤ) → d ≡ did.Gave z → new ≡ given_on x (standing t) k piece i z → edge ≡ out (graph_in x.net) piece 0 → IsOperated x start (whole new after before) k piece i edge Moved old old
    has_given z is new_is out_is =
        let done : result ≡ Ok (gives after z) = done_so (did.Gave z) is in
        record {
          marking = ap (λ (n : OperationTokens). whole n after before) (new_is ∙ ap (λ (n : OperationTokens). given_on x n k piece i z) p.taken) ∙ gave_marking x start k piece i after z done;
          leads = leads_so 0 (ap choice_of done) out_is;
          fired_is = silent x start k piece i p.name going (gives after z) done refl;
          last = same_line x start k piece i (gives after z) old done refl;
        }

    pub has_told : (e : Did) (choice : ℕ) → d ≡ e → told e after line ≡ Ok (tells after choice) → new ≡ told_on x (standing t) piece i choice → edge ≡ out (graph_in x.net) piece choice → IsOperated x start (whole new after before) k piece i edge Moved old old
    has_told e choice is tells_is new_is out_is =
        let done : result ≡ Ok (tells after choice) = done_so e is ∙ tells_is in
        record {
          marking = ap (λ (n : OperationTokens). whole n after before) (new_is ∙ ap (λ (n : OperationTokens). told_on x n piece i choice) p.taken) ∙ told_marking x start k piece i after choice p.ready.empty done;
          leads = leads_so choice (ap choice_of done) out_is;
          fired_is = silent x start k piece i p.name going (tells after choice) done refl;
          last = same_line x start k piece i (tells after choice) old done refl;
        }

    pub has_written : d ≡ did.Wrote → new ≡ told_on x (standing t) piece i 0 → edge ≡ out (graph_in x.net) piece 0 → IsOperated x start (whole new after before) k piece i edge Line old line
    has_written is new_is out_is =
        let effect : Effect = record { value = None; memory = after; text = line; choice = 0 } in
        let done : result ≡ Ok effect = done_so did.Wrote is in
        record {
          marking = ap (λ (n : OperationTokens). whole n after before) (new_is ∙ ap (λ (n : OperationTokens). told_on x n piece i 0) p.taken) ∙ wrote_marking x start k piece i after line p.ready.empty done;
          leads = leads_so 0 (ap choice_of done) out_is;
          fired_is = wrote x start k piece i p.name going effect done (p.line_some is);
          last = new_line x start k piece i effect old done (p.line_some is);
        }

    module _ (trap : Trap) (is : d ≡ did.Trapped trap) (out_is : edge ≡ out (graph_in x.net) piece 0) where
      failed : result ≡ Err trap
      failed = done_so (did.Trapped trap) is

      trapped_as : (b : Bool) → x.needs piece i 0 ≡ b → (if b then stopped_on x (whole (values_taken x m piece i) after before) piece i trap else given_on x (whole (values_taken x m piece i) after before) k piece i (pos 0)) ≡ operated x start k piece i op result
      trapped_as b needs =
          ap (λ (b : Bool). if b then stopped_on x (whole (values_taken x m piece i) after before) piece i trap else given_on x (whole (values_taken x m piece i) after before) k piece i (pos 0)) (sym needs)
          ∙ trapped_marking x start k piece i after trap (p.memory_same trap is) failed

      -- an operation that doesn't need the line of output gives 0
      pub has_passed : x.needs piece i 0 ≡ false → new ≡ given_on x (standing t) k piece i (pos 0) → IsOperated x start (whole new after before) k piece i edge Moved old old
      has_passed needs new_is = record {
        marking = ap (λ (n : OperationTokens). whole n after before) (new_is ∙ ap (λ (n : OperationTokens). given_on x n k piece i (pos 0)) p.taken) ∙ trapped_as false needs;
        leads = leads_so 0 (ap choice_of failed) out_is;
        fired_is = trap_answered x start k piece i p.name going trap Moved failed needs;
        last = same_at_trap x start k piece i trap old failed;
      }

      pub has_stopped : (source : ℕ) → source ≡ source_line x.net piece → x.needs piece i 0 ≡ true → new ≡ lines_dropped x (standing t) piece i → IsOperated x start (whole new after (Some (trap, source))) k piece i edge Trapped old old
      has_stopped source source_is needs new_is = record {
        marking =
            ap (λ (l : ℕ). whole new after (Some (trap, l))) source_is
            ∙ ap (λ (n : OperationTokens). whole n after (Some (trap, source_line x.net piece))) (new_is ∙ ap (λ (n : OperationTokens). lines_dropped x n piece i) p.taken)
            ∙ trapped_as true needs;
        leads = leads_so 0 (ap choice_of failed) out_is;
        fired_is = trap_answered x start k piece i p.name going trap Trapped failed needs;
        last = same_at_trap x start k piece i trap old failed;
      }
