-- Several firings of a net of operations at once: of one node, of all nodes of a piece, and of these one after another.
use Rattle.std.proofs.Common.{◌≡◌, ◌≢◌, ◌≤◌, ◌+◌, ℕ, List, Option, None, Some, refl, sym, ap, subst, ◌∙◌, arith}
use Rattle.cfg_build.specs.Passes.{out}
use Rattle.f77_tree.specs.Execution.{Memory}
use Rattle.firing.specs.declared.system.Fired.{Fired}
use Rattle.firing.specs.declared.system.Fired.TheVariants.{Moved}
use Rattle.firing.specs.Control.{IsInStep, due_at, steered}
use Rattle.firing.specs.Moves.{CanFire, FiredIs, newest}
use Rattle.firing.specs.Play.{Way, moment}
use Rattle.firing.specs.SourceOrder.{FiresTo, newest_after}
use Rattle.net_board.specs.declared.control.Control.{Control}
use Rattle.net_board.specs.ControlCourse.{arrived}
use Rattle.net_board.specs.Nodes.{graph_in}
use Rattle.net_board.specs.Tokens.{written}
use Rattle.op_board.specs.Effects.{Effect}
use Rattle.op_board.specs.OperationCourse.{due_operation, operation_course}
use Rattle.op_board.specs.OperationNets.{OperationNet, operation_node_count}
use Rattle.op_board.specs.OperationTokens.{OperationTokens, operation_moves}
use Rattle.op_board.specs.SoundOperationNets.{OperationsCanCome}
use Rattle.op_board.specs.WholePieces.{PiecePasses, answer_of, own_way, piece_passed}
use Rattle.op_board.proofs.OperationLaws.{operations_lawful}
use Rattle.op_net.specs.declared.net.OpNet.{OpNet}
use Rattle.op_net.specs.declared.piece_performing.PieceEnd.{PieceEnd}
use Rattle.op_net.specs.declared.piece_performing.PieceEnd.TheVariants.{Along, Wrote}
use Rattle.op_net.specs.FiringChanges.{remembered}
use Rattle.op_net.specs.NetFirings.{HasFired, IsAsBefore}
use Rattle.op_net.specs.NetView.{marking_of, net_of}
use Rattle.op_net.specs.PieceEnds.{effect_told}
use Rattle.operation_places.specs.StandingChanges.{lines_led}
use Rattle.op_net.specs.StaysInStep.{StaysInStep}
use Rattle.op_net.specs.StepLaws.{keeps_step, source_order}
use Rattle.op_net.proofs.DueFirings.{AreDueFirings, GoesOnDue, IsDueFiring, can_go_on, first_firing, goes_on_due}
use Rattle.op_net.proofs.JoinedFirings.{more_firings}

-- ---- all nodes of a piece

-- the firings of a piece, as a system tells them
pub passes_told : (x : OperationNet) {m then : OperationTokens} {place later : Option Control} {count : ℕ} {fired : Fired} {old new : List ℕ} (c : Control) (last : Effect) → PiecePasses x m c last → place ≡ Some c → count ≡ operation_node_count x c.piece → fired ≡ answer_of (written last.text) → then ≡ piece_passed x m c.piece last → later ≡ Some (arrived x.net (out (graph_in x.net) c.piece last.choice)) → new ≡ newest (written last.text) old → AreDueFirings (operation_moves x) (operation_course x) (moment m place) old count count fired then later new
passes_told x {m} {then} {place} {later} {count} {fired} {old} {new} c last passes here size answer marking control text =
    let own : Way OperationTokens Control = own_way x in
    let end : Option Control = Some (arrived x.net (out (graph_in x.net) c.piece last.choice)) in
    let sized : FiresTo own (moment m (Some c)) count count (answer_of (written last.text)) (moment (piece_passed x m c.piece last) end) = subst (λ (n : ℕ). FiresTo own (moment m (Some c)) n n (answer_of (written last.text)) (moment (piece_passed x m c.piece last) end)) (sym size) passes.to in
    let answered : FiresTo own (moment m (Some c)) count count fired (moment (piece_passed x m c.piece last) end) = subst (λ (f : Fired). FiresTo own (moment m (Some c)) count count f (moment (piece_passed x m c.piece last) end)) (sym answer) sized in
    let led : FiresTo own (moment m (Some c)) count count fired (moment then end) = subst (λ (t : OperationTokens). FiresTo own (moment m (Some c)) count count fired (moment t end)) (sym marking) answered in
    let left : FiresTo own (moment m (Some c)) count count fired (moment then later) = subst (λ (p : Option Control). FiresTo own (moment m (Some c)) count count fired (moment then p)) (sym control) led in
    record {
      to = subst (λ (p : Option Control). FiresTo own (moment m p) count count fired (moment then later)) (sym here) left;
      line = text
          ∙ sym (passes.line old)
          ∙ ap (λ (n : ℕ). newest_after own (moment m (Some c)) n old) (sym size)
          ∙ ap (λ (p : Option Control). newest_after own (moment m p) count old) (sym here);
    }

-- the marking after a piece, in which the memory was changed first and then the lines
pub marking_passed : (x : OperationNet) (m : OperationTokens) (piece choice : ℕ) (memory : Memory) (last : Effect) → choice ≡ last.choice → memory ≡ last.memory → lines_led x (remembered m memory) piece (out (graph_in x.net) piece choice) ≡ piece_passed x m piece last
marking_passed x m piece choice memory last chosen same =
    ap (λ (i : ℕ). lines_led x (remembered m memory) piece (out (graph_in x.net) piece i)) chosen
    ∙ ap (λ (s : Memory). lines_led x (remembered m s) piece (out (graph_in x.net) piece last.choice)) same

-- ---- how control leaves a piece

pub memory_told : (end : PieceEnd) (memory : Memory) (line : List ℕ) → memory ≡ (effect_told end memory line).memory
memory_told (Along choice) memory line = refl
memory_told Wrote memory line = refl

-- ---- states of a net

module _ {W : ℕ} where
  -- one firing
  pub one_fired : {old new : OpNet W} {c : Control} {k : ℕ} {fired : Fired} → old.control ≡ Some c → due_operation (net_of old) c ≡ Some k → CanFire (operation_moves (net_of old)) (marking_of old) k → net_of new ≡ net_of old → marking_of new ≡ (operation_moves (net_of old)).fired (marking_of old) k → new.control ≡ steered (operation_course (net_of old)) (marking_of old) old.control k → FiredIs (operation_moves (net_of old)) (marking_of old) k fired → new.text.items ≡ newest ((operation_moves (net_of old)).line (marking_of old) k) old.text.items → HasFired old 1 1 fired new
  one_fired {old} {new} {c} {k} {fired} here due can net marking place did line =
      let x = net_of old in
      let m = marking_of old in
      let firing : IsDueFiring (operation_moves x) (operation_course x) m old.control k fired (marking_of new) new.control old.text.items new.text.items = record {
        due = ap (due_at (operation_course x) m) here ∙ due;
        can = can;
        marking = marking;
        place = place;
        did = did;
        line = line;
      } in
      let are = first_firing (operation_moves x) (operation_course x) 1 (omega arith) firing in
      record { net = net; to = are.to; line = are.line }

  pub fired_within : {old new : OpNet W} {few count : ℕ} {fired : Fired} (most : ℕ) → count ≤ most → HasFired old few count fired new → HasFired old most count fired new
  fired_within most within f = record { net = f.net; to = record { some = f.to.some; bounded = within; leads = f.to.leads; going = f.to.going; silent = f.to.silent; last = f.to.last }; line = f.line }

  -- firings from a state that is as another one
  pub fired_from : {old same new : OpNet W} {most count : ℕ} {fired : Fired} → IsAsBefore old same → HasFired same most count fired new → HasFired old most count fired new
  fired_from {old} {same} {new} {most} {count} {fired} as_before f =
      let x = net_of old in
      let m = marking_of same in
      let own : Way OperationTokens Control = own_way x in
      let end = moment (marking_of new) new.control in
      let to0 : FiresTo own (moment m same.control) most count fired end = subst (λ (y : OperationNet). FiresTo (own_way y) (moment m same.control) most count fired end) as_before.net f.to in
      let to1 : FiresTo own (moment m old.control) most count fired end = subst (λ (p : Option Control). FiresTo own (moment m p) most count fired end) as_before.control to0 in
      record {
        net = f.net ∙ as_before.net;
        to = subst (λ (t : OperationTokens). FiresTo own (moment t old.control) most count fired end) as_before.marking to1;
        line = f.line
            ∙ ap (λ (y : OperationNet). newest_after (own_way y) (moment m same.control) count same.text.items) as_before.net
            ∙ ap (λ (p : Option Control). newest_after own (moment m p) count same.text.items) as_before.control
            ∙ ap (λ (t : OperationTokens). newest_after own (moment t old.control) count same.text.items) as_before.marking
            ∙ ap (newest_after own (moment (marking_of old) old.control) count) as_before.line;
      }

  -- firings after others
  pub fired_on : {start mid end : OpNet W} {most few count n : ℕ} {last fired : Fired} → last ≡ Moved → count + n ≤ most → HasFired start most count last mid → HasFired mid few n fired end → HasFired start most (count + n) fired end
  fired_on {start} {mid} {end} {most} {few} {count} {n} {last} {fired} moved fits before more =
      let x = net_of start in
      let y = net_of mid in
      let first : AreDueFirings (operation_moves x) (operation_course x) (moment (marking_of start) start.control) start.text.items most count last (marking_of mid) mid.control mid.text.items = record { to = before.to; line = before.line } in
      let second : AreDueFirings (operation_moves y) (operation_course y) (moment (marking_of mid) mid.control) mid.text.items few n fired (marking_of end) end.control end.text.items = record { to = more.to; line = more.line } in
      let all = more_firings operation_moves operation_course before.net moved fits first second in
      record { net = more.net ∙ before.net; to = all.to; line = all.line }

  -- what a state can go on from, and where firings lead
  abbrev pub CanGoOn : OpNet W → Type 0
  CanGoOn s = GoesOnDue (OperationsCanCome (net_of s)) (operation_moves (net_of s)) (StaysInStep (net_of s)) (marking_of s) s.control

  pub can_fire_due : (s : OpNet W) {c : Control} {k : ℕ} → CanGoOn s → s.control ≡ Some c → due_operation (net_of s) c ≡ Some k → CanFire (operation_moves (net_of s)) (marking_of s) k
  can_fire_due s {c} {k} goes here due = can_go_on operation_moves operation_course operations_lawful keeps_step source_order goes (ap (due_at (operation_course (net_of s)) (marking_of s)) here ∙ due)

  pub goes_on : {start mid : OpNet W} {most count : ℕ} {fired : Fired} → HasFired start most count fired mid → fired ≡ Moved → OperationsCanCome (net_of start) (marking_of start) → IsInStep (operation_moves (net_of start)) (StaysInStep (net_of start)) (marking_of start) start.control → due_at (operation_course (net_of start)) (marking_of start) start.control ≢ None → CanGoOn mid
  goes_on f moved sound step due = goes_on_due operation_moves operation_course operations_lawful keeps_step source_order f.net moved sound step due f.to

  pub still_goes : {old same : OpNet W} → IsAsBefore old same → CanGoOn old → CanGoOn same
  still_goes {old} {same} as_before goes =
      let x = net_of old in
      subst (λ (y : OperationNet). GoesOnDue (OperationsCanCome y) (operation_moves y) (StaysInStep y) (marking_of same) same.control) (sym as_before.net)
      (subst (λ (t : OperationTokens). GoesOnDue (OperationsCanCome x) (operation_moves x) (StaysInStep x) t same.control) (sym as_before.marking)
      (subst (λ (p : Option Control). GoesOnDue (OperationsCanCome x) (operation_moves x) (StaysInStep x) (marking_of old) p) (sym as_before.control) goes))
