use Rattle.std.proofs.Common.{◌≡◌, true, false, Bool, List, All, sym, subst}
use Rattle.firing.specs.ReadySet.{has}
use Rattle.op_board.specs.OperationTokens.{OperationTokens}
use Rattle.operation_tables.specs.BoardView.{operation_net_on}
use Rattle.operation_places.specs.Counts.{AreCounts}
use Rattle.operation_places.specs.Leads.{IsLead}
use Rattle.operation_places.specs.PlacesView.{standing}
use Rattle.operation_tables.specs.Waits.{awaits, node_total}
use Rattle.operation_places.proofs.places.Places.keep_counts.Goals as goal

pub returns-clause-counted : goal.returns-clause-counted
returns-clause-counted g c =
    let x = operation_net_on c.args.board.now in
    let new = c.count_all.new.self in
    let all : AreCounts (node_total x) (awaits x new.apart.items (standing new)) (has new.apart.items) new.counts.items new.set =
    subst (λ (m : OperationTokens). AreCounts (node_total x) (awaits x new.apart.items m) (has new.apart.items) new.counts.items new.set) (sym c.count_all.ensures.standing)
    (subst (λ (led : List Bool). AreCounts (node_total x) (awaits x led (standing c.args.self.now)) (has led) new.counts.items new.set) (sym c.count_all.ensures.apart) c.count_all.ensures.counts) in
    record {
      counts = λ counted. all.counts;
      marks = λ counted. all.marks;
      none = λ (none : true ≡ false). absurd cc;
      leads = subst (All (IsLead x)) (sym c.count_all.ensures.leads) c.requires.counted.leads;
    }
