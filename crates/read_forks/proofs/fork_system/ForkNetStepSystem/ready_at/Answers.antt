use Rattle.std.proofs.Common.{◌<◌, Bool, List, sym, subst}
use Rattle.firing.specs.ReadySet.{IsMemberAt, member_count}
use Rattle.firing.proofs.ChosenLemmas.{marked_count, marked_place}
use Rattle.fork_board.specs.ForkTokens.{fork_moves}
use Rattle.read_forks.specs.ForkView.{marking_of, net_of}
use Rattle.read_forks.proofs.fork_system.ForkNetStepSystem.ready_at.Goals as goal

pub at-requires : goal.at-requires
at-requires g c =
    let all = marked_count (fork_moves (net_of c.args.self.now)) (marking_of c.args.self.now) c.requires.keeps.marks in
    subst (λ (flags : List Bool). c.args.nth < member_count flags) (sym c.marked.ensures) (subst (λ n. c.args.nth < n) (sym all) c.requires.some)

pub returns : goal.returns
returns g c =
    marked_place (fork_moves (net_of c.args.self.now)) (marking_of c.args.self.now) c.requires.keeps.marks c.args.nth c.at.result (subst (λ (flags : List Bool). IsMemberAt flags c.args.nth c.at.result) c.marked.ensures c.at.ensures)
