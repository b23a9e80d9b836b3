use Rattle.std.proofs.Common.{◌≡◌, ◌&&◌, Bool, is_some, Option, ℕ, sym, ap, ◌∙◌, arith, rules}
use Rattle.net_board.specs.Tokens.{left_for, ready_as}
use Rattle.token_net.specs.NetView.{net_of, tokens_of}
use Rattle.token_net.proofs.ActLemmas.{IsActing, IsSwitching, IsMerging, act_named, switch_named, merge_named}
use Rattle.net_tables.proofs.TokenLineLemmas.{read_edge}
use Rattle.token_net.proofs.net.Net.is_ready.Goals as goal

pub can_act-requires : goal.can_act-requires
can_act-requires g c =
    let n : IsActing (net_of c.args.self.now) c.in-Act.piece c.args.k = act_named (net_of c.args.self.now) c.in-Act.piece c.args.k c.requires.node (sym c.name.ensures ∙ c.in-Act.is) in
    (omega arith, (n.exists, (n.acts, c.requires.readable)))

pub is_before-requires : goal.is_before-requires
is_before-requires g c =
    let n : IsSwitching (net_of c.args.self.now) c.in-Switch.piece c.in-Switch.line c.args.k = switch_named (net_of c.args.self.now) c.in-Switch.piece c.args.k c.in-Switch.line c.requires.node (sym c.name.ensures ∙ c.in-Switch.is) in
    (omega arith, (omega (arith, n.inside, c.args.self.now.every_line), c.requires.readable.stand))

pub is_before-requires-in-Merge : goal.is_before-requires-in-Merge
is_before-requires-in-Merge g c =
    let n : IsMerging (net_of c.args.self.now) c.in-Merge.piece c.in-Merge.line c.args.k = merge_named (net_of c.args.self.now) c.in-Merge.piece c.args.k c.in-Merge.line c.requires.node (sym c.name.ensures ∙ c.in-Merge.is) in
    (omega arith, (omega (arith, n.inside, c.args.self.now.every_line), c.requires.readable.stand))

pub returns-in-Act : goal.returns-in-Act
returns-in-Act g c = c.can_act.ensures c.args.k ∙ ap (ready_as (net_of c.args.self.now) (tokens_of c.args.self.now) c.args.k) (sym (sym c.name.ensures ∙ c.in-Act.is))

pub returns-then-is_before : goal.returns-then-is_before
returns-then-is_before g c =
    let net = net_of c.args.self.now in
    let m = tokens_of c.args.self.now in
    let left : left_for m c.args.k ≡ c.index.result.now = read_edge m.edges c.args.k c.index.result.now (omega (arith, c.requires.node, c.args.self.now.every_node)) c.index.ensures in
    let some : c.is_some.result ≡ is_some c.index.result.now = search rules in
    some
    ∙ ap (λ (o : Option ℕ). is_some o) (sym left)
    ∙ ap (λ (b : Bool). b && is_some (left_for m c.args.k)) (sym (sym c.is_before.ensures ∙ c.if-is_before.true))
    ∙ ap (ready_as net m c.args.k) (sym (sym c.name.ensures ∙ c.in-Switch.is))
