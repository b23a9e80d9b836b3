use Rattle.std.proofs.Common.{◌≡◌, [], Some, None, ap, ◌∙◌, rules}
use Rattle.printed_graphs.specs.GraphReading.{printed_at}
use Rattle.printed_graphs.proofs.PrintedAgain.{printed_again}
use Rattle.printed_graphs.proofs.printed.read_printed.Goals as goal

pub returns-in-Err-Unread-clause-reads : goal.returns-in-Err-Unread-clause-reads
returns-in-Err-Unread-clause-reads c = λ given.
    let read : printed_at c.args.text.now ≡ Some [] = ap printed_at given.2 ∙ printed_again given.0 given.1 in
    let none : printed_at c.args.text.now ≡ None = c.in-Err-Unread.ensures.after (search rules) in
    absurd cc
