use Rattle.std.proofs.Common.{◌≡◌, ◌≤◌, List, ℕ, length, subst, ◌∙◌, arith}
use Rattle.std.specs.Prelude.{IfOk}
use Rattle.cfg_build.specs.Flow.{piece_at}
use Rattle.redundancy.specs.Computed.{computed_by}
use Rattle.regenerate.proofs.DueLemmas.{due-computed, due-none}
use Rattle.shared_forms.proofs.SharingLemmas.{numbers_at-below}
use Rattle.regenerate.proofs.due.due.Goals as goal

pub due_among-requires-clause-numbers : goal.due_among-requires-clause-numbers
due_among-requires-clause-numbers c = numbers_at-below c.args.t.now.a.now.candidates (computed_by c.args.t.now.q.now.execs (piece_at c.args.f.now.pieces c.args.node)) c.deref.result.now (c.deref.ensures.value ∙ c.in_ok-numbers.ensures)

pub returns-then-node-pieces : goal.returns-then-node-pieces
returns-then-node-pieces c =
    subst
    (λ (due : List ℕ). IfOk c.due_among.result (λ ns. ns.items ≡ due))
    (due-computed c.args.t.now.q.now c.args.t.now.a.now c.args.f.now c.args.k c.args.node c.deref.result.now c.requires.flow c.requires.node (c.deref.ensures.value ∙ c.in_ok-numbers.ensures))
    c.due_among.ensures

pub returns-else-node-pieces : goal.returns-else-node-pieces
returns-else-node-pieces c =
    let past : length c.args.f.now.pieces ≤ c.args.node = omega (arith, c.if-node-pieces.false, c.pieces.ensures.count) in
    due-none c.args.t.now.q.now c.args.t.now.a.now c.args.f.now c.args.k c.args.node c.in_ok-numbers.numbers.items c.requires.flow c.requires.node c.in_ok-numbers.ensures past
