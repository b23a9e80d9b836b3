use Rattle.std.proofs.Common.{arith}
use Rattle.read_back.proofs.PrintedJumps.{none_jumps_into}
use Rattle.read_back.proofs.PrintedLabels.{none_labelled_twice, none_lacks_label}
use Rattle.read_back.proofs.PrintedNesting.{none_unnested}
use Rattle.read_back.proofs.PrintedOrder.{none_out_of_order}
use Rattle.read_back.proofs.refusals.printed_statements_are_in_order.Goals as goal

pub returns-clause-order : goal.returns-clause-order
returns-clause-order c = λ q flat given. none_out_of_order q flat given.form

pub returns-clause-label_once : goal.returns-clause-label_once
returns-clause-label_once c = λ q flat given. none_labelled_twice q flat

pub returns-clause-label_borne : goal.returns-clause-label_borne
returns-clause-label_borne c = λ q flat given. let few = given.few in none_lacks_label q flat given.form (omega (arith, few))

pub returns-clause-nesting : goal.returns-clause-nesting
returns-clause-nesting c = λ q flat given. let few = given.few in none_unnested q flat given.form (omega (arith, few))

pub returns-clause-jumps : goal.returns-clause-jumps
returns-clause-jumps c = λ q flat given. let few = given.few in none_jumps_into q flat given.form (omega (arith, few))
