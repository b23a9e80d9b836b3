use Rattle.std.proofs.Common.{length, sym, ap, subst}
use Rattle.firing.specs.Marks.{AreMarks}
use Rattle.net_board.specs.Nodes.{nodes_of}
use Rattle.net_board.specs.Tokens.{net_moves}
use Rattle.token_net.specs.NetView.{Unmarked}
use Rattle.token_net.proofs.net_system.NetStepSystem.keep_ready.Goals as goal

pub returns-clause-keeps : goal.returns-clause-keeps
returns-clause-keeps g c =
    let did = c.mark_ready.ensures in
    record {
      kept = ap (λ (u : Unmarked). u.kept) did.rest;
      marks = λ none. subst (λ (u : Unmarked). AreMarks (length (nodes_of u.net)) ((net_moves u.net).ready u.tokens) c.mark_ready.new.sys.set) (sym did.rest) did.marks;
    }

pub returns-clause-net : goal.returns-clause-net
returns-clause-net g c = ap (λ (u : Unmarked). u.net) c.mark_ready.ensures.rest
