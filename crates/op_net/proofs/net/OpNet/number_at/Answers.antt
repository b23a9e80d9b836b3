use Rattle.std.proofs.Common.{◌≡◌, ◌-◌, ℕ, Bool, true, false, filter, slice_get, sym, ap, ◌∙◌, arith}
use Rattle.std.specs.List.{range_with_len}
use Rattle.op_board.specs.OperationNets.{operation_count}
use Rattle.op_net.specs.NetView.{net_of}
use Rattle.op_net.proofs.ApartNets.{fails_next, none_beyond, passes_here, passes_next}
use Rattle.op_net.proofs.net.OpNet.number_at.Goals as goal

pub loop-i-init : goal.loop-i-init
loop-i-init g c =
    let x = net_of c.args.self.now in
    let all : c.operations-count.result - 0 ≡ operation_count x c.args.piece = omega (arith, c.operations-count.ensures) in
    ap (λ n. slice_get (filter (λ j. x.needs c.args.piece j c.args.line) (range_with_len 0 n)) c.args.passed) all

pub loop-i-preserved-then-not-needs_line : goal.loop-i-preserved-then-not-needs_line
loop-i-preserved-then-not-needs_line g c =
    let x = net_of c.args.self.now in
    let needs : ℕ → Bool = λ j. x.needs c.args.piece j c.args.line in
    let is : needs c.loop-i.i ≡ false = sym c.needs_line.ensures ∙ c.if-not-needs_line.true in
    sym (fails_next needs c.loop-i.i c.operations-count.result c.loop-i.left c.loop-i-test.true is) ∙ c.loop-i.invariant

pub returns-then-left-eq0 : goal.returns-then-left-eq0
returns-then-left-eq0 g c =
    let x = net_of c.args.self.now in
    let needs : ℕ → Bool = λ j. x.needs c.args.piece j c.args.line in
    let is : needs c.loop-i.i ≡ true = sym c.needs_line.ensures ∙ c.if-not-needs_line.false in
    sym (passes_here needs c.loop-i.i c.operations-count.result c.loop-i-test.true is)
    ∙ ap (slice_get (filter needs (range_with_len c.loop-i.i (c.operations-count.result - c.loop-i.i)))) (sym c.if-left-eq0.true)
    ∙ c.loop-i.invariant

pub loop-i-preserved : goal.loop-i-preserved
loop-i-preserved g c =
    let x = net_of c.args.self.now in
    let needs : ℕ → Bool = λ j. x.needs c.args.piece j c.args.line in
    let is : needs c.loop-i.i ≡ true = sym c.needs_line.ensures ∙ c.if-not-needs_line.false in
    let some = c.if-left-eq0.false in
    sym (passes_next needs c.loop-i.i c.operations-count.result c.loop-i.left c.loop-i-test.true is (omega (arith, some))) ∙ c.loop-i.invariant

pub returns : goal.returns
returns g c =
    let x = net_of c.args.self.now in
    sym (none_beyond (λ j. x.needs c.args.piece j c.args.line) c.loop-i.i c.operations-count.result c.loop-i.left c.loop-i-test.false) ∙ c.loop-i.invariant
