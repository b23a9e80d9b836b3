use Rattle.std.proofs.Common.{◌≡◌, [], subst, sym, ap, ◌∙◌, arith}
use Rattle.f77_meaning.specs.Storage.{memory_of}
use Rattle.f77_meaning.specs.declared.storage.Storage.{Storage}
use Rattle.cfg_build.specs.Passes.{Along, Traps, out}
use Rattle.net_board.specs.SoundNets.{HasSizesOf}
use Rattle.net_board.specs.ControlCourse.{edge_or}
use Rattle.net_board.specs.Nodes.{graph_in}
use Rattle.net_board.specs.Tokens.{acted, pass_at}
use Rattle.token_net.specs.declared.pieces_run.Ran.{Ran}
use Rattle.token_net.specs.NetView.{net_of, tokens_of}
use Rattle.token_net.specs.PieceRuns.{KeepsStorage, going_on, told}
use Rattle.token_net.proofs.ActLemmas.{IsActing, act_named}
use Rattle.net_tables.proofs.LookupLemmas.{some_edge}
use Rattle.token_net.proofs.FiredLemmas.{trap_answered}
use Rattle.token_net.proofs.FiringLemmas.{acted_told, edge_told, edge_exists, trap_told}
use Rattle.token_net.proofs.ControlMoveLemmas.{act_leads}
use Rattle.token_net.proofs.net.Net.act.Goals as goal

pub run_on-ran-requires : goal.run_on-ran-requires
run_on-ran-requires g c =
    let n : IsActing (net_of c.args.self.now) c.args.piece c.args.k = act_named (net_of c.args.self.now) c.args.piece c.args.k c.requires.node c.requires.name in
    (omega arith, (n.exists, (c.requires.readable.can_run, (c.requires.readable.sizes, (c.args.self.now.data, c.args.self.now.draft_room)))))

pub go-requires : goal.go-requires
go-requires g c =
    let net = net_of c.args.self.now in
    let m = tokens_of c.args.self.now in
    let n : IsActing net c.args.piece c.args.k = act_named net c.args.piece c.args.k c.requires.node c.requires.name in
    let mem = memory_of c.run_on-ran.new.storage in
    let pass : going_on (out (graph_in net) c.args.piece 0) m.memory (pass_at net c.args.piece m.memory) ≡ Along c.in-Along.edge mem [] = c.run_on-ran.ensures.pass ∙ ap (λ (r : Ran). told r mem c.run_on-ran.new.draft.items) c.in-Along.is in
    (omega arith, (n.exists, (n.acts, (edge_exists net c.args.piece m c.in-Along.edge mem [] (some_edge c.args.self.now.board.plan) pass))))

pub go-requires-in-Wrote : goal.go-requires-in-Wrote
go-requires-in-Wrote g c =
    let net = net_of c.args.self.now in
    let m = tokens_of c.args.self.now in
    let n : IsActing net c.args.piece c.args.k = act_named net c.args.piece c.args.k c.requires.node c.requires.name in
    let mem = memory_of c.run_on-ran.new.storage in
    let text = c.run_on-ran.new.draft.items in
    let pass : going_on (out (graph_in net) c.args.piece 0) m.memory (pass_at net c.args.piece m.memory) ≡ Along c.in-Wrote.edge mem text = c.run_on-ran.ensures.pass ∙ ap (λ (r : Ran). told r mem text) c.in-Wrote.is in
    (omega arith, (n.exists, (n.acts, (edge_exists net c.args.piece m c.in-Wrote.edge mem text (some_edge c.args.self.now.board.plan) pass))))

pub stop_or_go-requires : goal.stop_or_go-requires
stop_or_go-requires g c =
    let net = net_of c.args.self.now in
    let n : IsActing net c.args.piece c.args.k = act_named net c.args.piece c.args.k c.requires.node c.requires.name in
    let kept : c.run_on-ran.new.storage ≡ c.args.self.now.storage = subst (λ (r : Ran). KeepsStorage r c.args.self.now.storage c.run_on-ran.new.storage) c.in-Trapped.is c.run_on-ran.ensures.kept in
    let sizes : HasSizesOf net.program (memory_of c.run_on-ran.new.storage) = subst (λ (s : Storage). HasSizesOf net.program (memory_of s)) (sym kept) c.requires.readable.sizes in
    (omega arith, (n.exists, (n.acts, record { can_run = c.requires.readable.can_run; sizes = sizes; stand = c.requires.readable.stand; lie = c.requires.readable.lie })))

pub returns-in-Along-clause-marking : goal.returns-in-Along-clause-marking
returns-in-Along-clause-marking g c =
    let net = net_of c.args.self.now in
    let m = tokens_of c.args.self.now in
    let mem = memory_of c.run_on-ran.new.storage in
    let pass : going_on (out (graph_in net) c.args.piece 0) m.memory (pass_at net c.args.piece m.memory) ≡ Along c.in-Along.edge mem [] = c.run_on-ran.ensures.pass ∙ ap (λ (r : Ran). told r mem c.run_on-ran.new.draft.items) c.in-Along.is in
    c.go.ensures.marking ∙ sym (acted_told net c.args.piece m c.in-Along.edge mem [] (pass_at net c.args.piece m.memory) pass)

pub returns-in-Along-clause-place : goal.returns-in-Along-clause-place
returns-in-Along-clause-place g c =
    let net = net_of c.args.self.now in
    let m = tokens_of c.args.self.now in
    let mem = memory_of c.run_on-ran.new.storage in
    let pass : going_on (out (graph_in net) c.args.piece 0) m.memory (pass_at net c.args.piece m.memory) ≡ Along c.in-Along.edge mem [] = c.run_on-ran.ensures.pass ∙ ap (λ (r : Ran). told r mem c.run_on-ran.new.draft.items) c.in-Along.is in
    c.go.ensures.place m (act_leads net m c.args.k c.requires.node c.args.piece c.in-Along.edge c.requires.name (edge_told net c.args.piece m c.in-Along.edge mem [] (pass_at net c.args.piece m.memory) pass))

pub returns-in-Wrote-clause-marking : goal.returns-in-Wrote-clause-marking
returns-in-Wrote-clause-marking g c =
    let net = net_of c.args.self.now in
    let m = tokens_of c.args.self.now in
    let mem = memory_of c.run_on-ran.new.storage in
    let text = c.run_on-ran.new.draft.items in
    let pass : going_on (out (graph_in net) c.args.piece 0) m.memory (pass_at net c.args.piece m.memory) ≡ Along c.in-Wrote.edge mem text = c.run_on-ran.ensures.pass ∙ ap (λ (r : Ran). told r mem text) c.in-Wrote.is in
    c.go-in-Wrote.ensures.marking ∙ sym (acted_told net c.args.piece m c.in-Wrote.edge mem text (pass_at net c.args.piece m.memory) pass)

pub returns-in-Wrote-clause-place : goal.returns-in-Wrote-clause-place
returns-in-Wrote-clause-place g c =
    let net = net_of c.args.self.now in
    let m = tokens_of c.args.self.now in
    let mem = memory_of c.run_on-ran.new.storage in
    let text = c.run_on-ran.new.draft.items in
    let pass : going_on (out (graph_in net) c.args.piece 0) m.memory (pass_at net c.args.piece m.memory) ≡ Along c.in-Wrote.edge mem text = c.run_on-ran.ensures.pass ∙ ap (λ (r : Ran). told r mem text) c.in-Wrote.is in
    c.go-in-Wrote.ensures.place m (act_leads net m c.args.k c.requires.node c.args.piece c.in-Wrote.edge c.requires.name (edge_told net c.args.piece m c.in-Wrote.edge mem text (pass_at net c.args.piece m.memory) pass))

pub returns-in-Trapped-clause-marking : goal.returns-in-Trapped-clause-marking
returns-in-Trapped-clause-marking g c =
    let net = net_of c.args.self.now in
    let m = tokens_of c.args.self.now in
    let kept : c.run_on-ran.new.storage ≡ c.args.self.now.storage = subst (λ (r : Ran). KeepsStorage r c.args.self.now.storage c.run_on-ran.new.storage) c.in-Trapped.is c.run_on-ran.ensures.kept in
    let pass : pass_at net c.args.piece m.memory ≡ Traps c.in-Trapped.trap = trap_told net c.args.piece m c.in-Trapped.trap (pass_at net c.args.piece m.memory) (c.run_on-ran.ensures.pass ∙ ap (λ (r : Ran). told r (memory_of c.run_on-ran.new.storage) c.run_on-ran.new.draft.items) c.in-Trapped.is) in
    c.stop_or_go.ensures.marking
    ∙ ap (λ (s : Storage). acted net (record { lines = m.lines; edges = m.edges; memory = memory_of s; trap = m.trap }) c.args.piece (Traps c.in-Trapped.trap)) kept
    ∙ ap (acted net m c.args.piece) (sym pass)

pub returns-in-Trapped-clause-place : goal.returns-in-Trapped-clause-place
returns-in-Trapped-clause-place g c =
    let net = net_of c.args.self.now in
    let m = tokens_of c.args.self.now in
    let pass : pass_at net c.args.piece m.memory ≡ Traps c.in-Trapped.trap = trap_told net c.args.piece m c.in-Trapped.trap (pass_at net c.args.piece m.memory) (c.run_on-ran.ensures.pass ∙ ap (λ (r : Ran). told r (memory_of c.run_on-ran.new.storage) c.run_on-ran.new.draft.items) c.in-Trapped.is) in
    c.stop_or_go.ensures.place m (act_leads net m c.args.k c.requires.node c.args.piece (out (graph_in net) c.args.piece 0) c.requires.name (ap (edge_or (out (graph_in net) c.args.piece 0)) pass))

pub returns-in-Trapped-clause-fired : goal.returns-in-Trapped-clause-fired
returns-in-Trapped-clause-fired g c =
    let net = net_of c.args.self.now in
    let m = tokens_of c.args.self.now in
    let pass : pass_at net c.args.piece m.memory ≡ Traps c.in-Trapped.trap = trap_told net c.args.piece m c.in-Trapped.trap (pass_at net c.args.piece m.memory) (c.run_on-ran.ensures.pass ∙ ap (λ (r : Ran). told r (memory_of c.run_on-ran.new.storage) c.run_on-ran.new.draft.items) c.in-Trapped.is) in
    trap_answered net m c.args.k c.requires.going c.args.piece c.requires.name c.in-Trapped.trap c.stop_or_go.result pass c.stop_or_go.ensures.fired
