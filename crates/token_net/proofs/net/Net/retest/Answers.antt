use Rattle.std.proofs.Common.{refl, ap}
use Rattle.token_net.specs.NetView.{Unmarked, tokens_of}
use Rattle.token_net.proofs.net.Net.retest.Goals as goal

pub retest_fired-requires-clause-woken : goal.retest_fired-requires-clause-woken
retest_fired-requires-clause-woken g c = (c.wake_fired.ensures.woken (tokens_of c.args.self.now) refl).are_nodes

pub returns-then-self-clause-net : goal.returns-then-self-clause-net
returns-then-self-clause-net g c = ap (λ (u : Unmarked). u.net) c.retest_fired.ensures.rest

pub returns-then-self-clause-marks : goal.returns-then-self-clause-marks
returns-then-self-clause-marks g c = λ kept before are differ.
    c.retest_fired.ensures.marks before are (differ c.wake_fired.new.woken.items (c.wake_fired.ensures.woken (tokens_of c.args.self.now) refl))
