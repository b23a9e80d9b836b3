-- The lines of a load in turn, as links tell them.
use Rattle.std.proofs.Common.{◌≡◌, ◌<◌, ◌≤◌, inl, ℕ, ◌+◌, ◌-◌, true, false, List, ◌∷◌, length, drop, Some, slice_get, refl, sym, ap, ◌∙◌, subst, arith}
use Rattle.list_laws.specs.Member.{Member}
use Rattle.firing.specs.declared.system.NodeName.TheVariants.{Op}
use Rattle.net_board.proofs.NodeLaws.{get_some}
use Rattle.op_board.specs.OperationNets.{OperationNet, needed, operation_node}
use Rattle.op_board.specs.SoundOperationNets.{OperationsCanCome}
use Rattle.op_net.specs.ApartLoads.{KeepsApart}
use Rattle.op_net.specs.NetView.{marking_of as operations_on, net_of as net_in}
use Rattle.operation_tables.specs.Waits.{node_total}
use Rattle.op_net.specs.declared.net.OpNet.{OpNet}
use Rattle.fork_board.specs.Chains.{ComeOnce, GroupsEnd}
use Rattle.read_forks.specs.KeptLoads.{AreClosedFor, AreLinesKept, opened_of}
use Rattle.read_forks.specs.LoadChanges.{IsPut}
use Rattle.read_forks.specs.LoadSteps.{line_read, lines_read}
use Rattle.read_forks.specs.NodeLinks.{IsStep, linked_lines}
use Rattle.read_forks.specs.OpenGroups.{marking_by}
use Rattle.read_forks.specs.RisingLinks.{line_at, line_in}
use Rattle.read_forks.specs.declared.steps.Step.{Step}
use Rattle.read_forks.specs.declared.waiting.Waiting.{Waiting}
use Rattle.read_forks.proofs.ClosedLoads.{IsAmidClosing, begins, closes_next, ends, next_left}
use Rattle.read_forks.proofs.KeptNets.{kept_apart, kept_self}
use Rattle.read_forks.proofs.LoadFirings.{needed_distinct}

-- the lines of the links before this one were closed
pub record IsAmid {W : ℕ} (start : OpNet W) (first : Waiting) (step : Step) (at : ℕ) (now : OpNet W) (w : Waiting) : Type 0 where
  pub net : net_in now ≡ net_in start
  pub from : step.first ≤ at
  pub sound : OperationsCanCome (net_in start) (operations_on now)
  pub lines : AreLinesKept (net_in start) (operations_on now) w
  pub closed : w.closed ≡ first.closed
  pub steps : w.steps ≡ first.steps
  pub amid : IsAmidClosing (net_in start) step.piece step.number (needed (net_in start) step.piece step.number) (marking_by (net_in start) (operations_on start) (opened_of (net_in start) first)) (marking_by (net_in start) (operations_on now) (opened_of (net_in start) w)) (opened_of (net_in start) first) (opened_of (net_in start) w)
      (drop (at - step.first) (needed (net_in start) step.piece step.number))
  pub apart : KeepsApart start now
  pub place : now.control ≡ start.control
  pub last : now.text.items ≡ start.text.items

module _ {W : ℕ} (start : OpNet W) (first : Waiting) (k : ℕ) (step : Step) (own : slice_get first.steps k ≡ Some step) (name : operation_node (net_in start) k ≡ Op step.piece step.number) where
  abbrev x : OperationNet
  x = net_in start

  abbrev all : List ℕ
  all = needed x step.piece step.number

  pub none_closed_yet : OperationsCanCome x (operations_on start) → AreLinesKept x (operations_on start) first → ((line : ℕ) → Member all line → opened_of x first line step.piece step.number ≡ true) → IsAmid start first step step.first start first
  none_closed_yet sound lines wide =
      let none : step.first - step.first ≡ 0 = omega arith in
      record {
        net = refl;
        from = omega arith;
        sound = sound;
        lines = lines;
        closed = refl;
        steps = refl;
        amid = subst (λ (j : ℕ). IsAmidClosing x step.piece step.number all (marking_by x (operations_on start) (opened_of x first)) (marking_by x (operations_on start) (opened_of x first)) (opened_of x first) (opened_of x first) (drop j all)) (sym none)
            (begins x step.piece step.number all (marking_by x (operations_on start) (opened_of x first)) (opened_of x first) wide);
        apart = kept_self start;
        place = refl;
        last = refl;
      }

  module _ (at : ℕ) (now : OpNet W) (w : Waiting) (before : IsAmid start first step at now w) where
    is_step : IsStep x w.links.items k step
    is_step = before.lines.tables.steps.each k step (ap (λ (steps : List Step). slice_get steps k) before.steps ∙ own)

    count_is : step.count ≡ length all
    count_is = is_step.has_links.count ∙ ap (λ n. length (linked_lines x n)) name

    turn : at < step.first + step.count → slice_get all (at - step.first) ≡ Some (line_at w.links.items at)
    turn below =
        let from = before.from in
        let inside = is_step.has_links.inside in
        let found = get_some x.net w.links.items at (omega (arith, below, inside)) in
        let one : step.first + (at - step.first) ≡ at = omega (arith, from) in
        ap (λ n. slice_get (linked_lines x n) (at - step.first)) (sym name)
        ∙ is_step.has_links.line (at - step.first) found.0 (omega (arith, from, below)) (ap (slice_get w.links.items) one ∙ found.1)
        ∙ ap (λ (l : ℕ). Some l) (sym (ap line_in found.1))

    -- what is wanted to close the next one
    abbrev CanClose : OperationNet → Type 0
    CanClose y =
        (k < node_total y)
        × ((slice_get w.steps k ≡ Some step)
        × ((operation_node y k ≡ Op step.piece step.number)
        × ((step.first ≤ at)
        × ((at < step.first + step.count)
        × (OperationsCanCome y (operations_on now)
        × (GroupsEnd y
        × (ComeOnce y
        × (AreLinesKept y (operations_on now) w
        × (opened_of y w (line_at w.links.items at) step.piece step.number ≡ true)))))))))

    pub can_close : k < node_total x → GroupsEnd x → ComeOnce x → at < step.first + step.count → CanClose (net_in now)
    can_close node goes once below =
        let line = line_at w.links.items at in
        let is : drop (at - step.first) all ≡ line ∷ drop ((at - step.first) + 1) all = next_left all (at - step.first) line (turn below) in
        let among : Member (drop (at - step.first) all) line = subst (λ (lines : List ℕ). Member lines line) (sym is) (inl refl) in
        subst (λ (y : OperationNet). CanClose y) (sym before.net)
        (node, (ap (λ (steps : List Step). slice_get steps k) before.steps ∙ own, (name, (before.from, (below, (before.sound, (goes, (once, (before.lines, before.amid.wide line among)))))))))

    -- and what comes of it
    abbrev HasClosed : OperationNet → OpNet W → Waiting → Type 0
    HasClosed y then_net v =
        OperationsCanCome y (operations_on then_net)
        × ((marking_by y (operations_on then_net) (opened_of y v) ≡ line_read y step.piece step.number (marking_by y (operations_on now) (opened_of y w)) (line_at w.links.items at))
        × (AreLinesKept y (operations_on then_net) v × IsPut (line_at w.links.items at) step.piece step.number false (opened_of y w) (opened_of y v)))

    pub one_closed : at < step.first + step.count → (then_net : OpNet W) (v : Waiting) → net_in then_net ≡ net_in now → HasClosed (net_in now) then_net v → v.closed ≡ w.closed → v.steps ≡ w.steps → KeepsApart now then_net → then_net.control ≡ now.control → then_net.text.items ≡ now.text.items → IsAmid start first step (at + 1) then_net v
    one_closed below then_net v net did closed steps apart place last =
        let told : HasClosed x then_net v = subst (λ (y : OperationNet). HasClosed y then_net v) before.net did in
        let from = before.from in
        let next : (at - step.first) + 1 ≡ (at + 1) - step.first = omega (arith, from) in
        record {
          net = net ∙ before.net;
          from = omega (arith, from);
          sound = told.0;
          lines = told.1.1.0;
          closed = closed ∙ before.closed;
          steps = steps ∙ before.steps;
          amid = subst (λ (j : ℕ). IsAmidClosing x step.piece step.number all (marking_by x (operations_on start) (opened_of x first)) (marking_by x (operations_on then_net) (opened_of x v)) (opened_of x first) (opened_of x v) (drop j all)) next
              (closes_next x step.piece step.number all (marking_by x (operations_on start) (opened_of x first)) (opened_of x first) (marking_by x (operations_on now) (opened_of x w)) (marking_by x (operations_on then_net) (opened_of x v)) (opened_of x w) (opened_of x v)
              (at - step.first) (line_at w.links.items at) (needed_distinct x step.piece step.number) (turn below) told.1.0 told.1.1.1 before.amid);
          apart = kept_apart start now then_net before.apart apart;
          place = place ∙ before.place;
          last = last ∙ before.last;
        }

    pub all_closed : step.first + step.count ≤ at → (marking_by x (operations_on now) (opened_of x w) ≡ lines_read x step.piece step.number (marking_by x (operations_on start) (opened_of x first)) all) × AreClosedFor all step.piece step.number (opened_of x first) (opened_of x w)
    all_closed over =
        let count = count_is in
        ends x step.piece step.number all (marking_by x (operations_on start) (opened_of x first)) (opened_of x first) (marking_by x (operations_on now) (opened_of x w)) (opened_of x w) (at - step.first) (omega (arith, over, count)) before.amid
