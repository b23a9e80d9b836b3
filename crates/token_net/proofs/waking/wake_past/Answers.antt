use Rattle.std.proofs.Common.{◌≡◌, ℕ, List, length, vec_len, subst, sym, ap, arith, rules}
use Rattle.list_laws.specs.Member.{Member}
use Rattle.net_board.specs.TokenEdges.{edge_at}
use Rattle.net_tables.specs.LookupView.{net_on}
use Rattle.token_net.proofs.ActLemmas.{switches_are, switches_few}
use Rattle.token_net.proofs.WakeLoops.{next_kept}
use Rattle.token_net.proofs.waking.wake_past.Goals as goal

pub wake_after-requires-clause-room : goal.wake_after-requires-clause-room
wake_after-requires-clause-room g c =
    let few = switches_few (net_on c.args.board.now) c.args.piece c.first-first.result c.end-end.result c.requires.acts c.first-first.ensures c.end-end.ensures.end in
    let room : length c.args.woken.now.items ≡ vec_len c.args.woken.now = search rules in
    let empty = ap length c.requires.none in
    omega (arith, few, room, empty, c.wake_lines.ensures.few, c.wake_lines.ensures.capacity, c.touched-moved.ensures.few, c.requires.room)

pub returns-clause-next : goal.returns-clause-next
returns-clause-next g c = λ line m.
    next_kept (net_on c.args.board.now) c.wake_lines.new.woken.items c.wake_after.new.woken.items line (edge_at c.args.lines.now.items line) c.wake_after.ensures.kept (c.wake_lines.ensures.has line (subst (λ (xs : List ℕ). Member xs line) (sym c.touched-moved.ensures.lines) m))

pub returns-clause-waiting : goal.returns-clause-waiting
returns-clause-waiting g c = λ j m.
    c.wake_after.ensures.has j (subst (λ (row : List ℕ). Member row j) (sym (switches_are (net_on c.args.board.now) c.args.piece c.first-first.result c.end-end.result c.requires.acts c.first-first.ensures c.end-end.ensures.end)) m)
