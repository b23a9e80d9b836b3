use Rattle.std.proofs.Common.{◌≡◌, ℕ, Option, Some, slice_get, subst, arith}
use Rattle.net_board.proofs.NodeLaws.{member_at}
use Rattle.op_board.specs.OperationNets.{needed}
use Rattle.op_board.proofs.NeededLines.{needed_has}
use Rattle.op_board.proofs.OperationNumbers.{operation_number}
use Rattle.op_net.specs.NetView.{net_of}
use Rattle.operation_tables.specs.OperationRows.{IsNextNeed, NextIs}
use Rattle.read_forks.specs.NodeLinks.{IsStep}
use Rattle.read_forks.proofs.FoundWays.{next_line, way_before, way_here}
use Rattle.read_forks.proofs.LoadWalks.{within}
use Rattle.read_forks.proofs.OpenLines.{IsOperationHere, is_operation_here}
use Rattle.read_forks.proofs.new_steps.way_from.Goals as goal

pub needed_next-requires : goal.needed_next-requires
needed_next-requires g c =
    let x = net_of c.args.net.now in
    let steps = c.args.steps.now in
    let links = c.args.links.now.items in
    let piece = c.args.step.piece in
    let i = c.args.step.number in
    let line = c.args.link.line in
    let here : IsOperationHere x piece i = is_operation_here x c.args.link.node piece i c.requires.node c.requires.name in
    let of_piece = here.exists in
    let of_operation = here.inside in
    (omega arith, (of_piece, (of_operation, within (needed x piece i) c.args.j line c.requires.line)))

pub operation_node-to-requires : goal.operation_node-to-requires
operation_node-to-requires g c =
    let x = net_of c.args.net.now in
    let steps = c.args.steps.now in
    let links = c.args.links.now.items in
    let piece = c.args.step.piece in
    let i = c.args.step.number in
    let line = c.args.link.line in
    let here : IsOperationHere x piece i = is_operation_here x c.args.link.node piece i c.requires.node c.requires.name in
    let n = c.in-Some.n in
    let follows : IsNextNeed x piece i line n = subst (λ (o : Option ℕ). NextIs x piece i line o) c.in-Some.is (c.needed_next.ensures line c.requires.line) in
    let of_piece = here.exists in
    let inside = follows.inside in
    (omega arith, (of_piece, inside))

pub link_near-requires-clause-exist : goal.link_near-requires-clause-exist
link_near-requires-clause-exist g c =
    let x = net_of c.args.net.now in
    let steps = c.args.steps.now in
    let links = c.args.links.now.items in
    let piece = c.args.step.piece in
    let i = c.args.step.number in
    let line = c.args.link.line in
    let here : IsOperationHere x piece i = is_operation_here x c.args.link.node piece i c.requires.node c.requires.name in
    let n = c.in-Some.n in
    let follows : IsNextNeed x piece i line n = subst (λ (o : Option ℕ). NextIs x piece i line o) c.in-Some.is (c.needed_next.ensures line c.requires.line) in
    let to = c.operation_node-to.result in
    let low = c.operation_node-to.ensures.exists in
    let is = operation_number x to piece n low c.operation_node-to.ensures.name in
    let next = c.at-next.result in
    let all = c.requires.steps.all in
    let at : slice_get steps to ≡ Some next = c.at-next.ensures in
    let step : IsStep x links to next = c.requires.steps.each to next at in
    step.has_links.inside

pub link_near-requires-clause-rise : goal.link_near-requires-clause-rise
link_near-requires-clause-rise g c =
    let x = net_of c.args.net.now in
    let steps = c.args.steps.now in
    let links = c.args.links.now.items in
    let piece = c.args.step.piece in
    let i = c.args.step.number in
    let line = c.args.link.line in
    let here : IsOperationHere x piece i = is_operation_here x c.args.link.node piece i c.requires.node c.requires.name in
    let n = c.in-Some.n in
    let follows : IsNextNeed x piece i line n = subst (λ (o : Option ℕ). NextIs x piece i line o) c.in-Some.is (c.needed_next.ensures line c.requires.line) in
    let to = c.operation_node-to.result in
    let low = c.operation_node-to.ensures.exists in
    let is = operation_number x to piece n low c.operation_node-to.ensures.name in
    let next = c.at-next.result in
    let all = c.requires.steps.all in
    let at : slice_get steps to ≡ Some next = c.at-next.ensures in
    let step : IsStep x links to next = c.requires.steps.each to next at in
    step.rise

pub link_near-requires-clause-there : goal.link_near-requires-clause-there
link_near-requires-clause-there g c =
    let x = net_of c.args.net.now in
    let steps = c.args.steps.now in
    let links = c.args.links.now.items in
    let piece = c.args.step.piece in
    let i = c.args.step.number in
    let line = c.args.link.line in
    let here : IsOperationHere x piece i = is_operation_here x c.args.link.node piece i c.requires.node c.requires.name in
    let n = c.in-Some.n in
    let follows : IsNextNeed x piece i line n = subst (λ (o : Option ℕ). NextIs x piece i line o) c.in-Some.is (c.needed_next.ensures line c.requires.line) in
    let to = c.operation_node-to.result in
    let low = c.operation_node-to.ensures.exists in
    let is = operation_number x to piece n low c.operation_node-to.ensures.name in
    let next = c.at-next.result in
    let all = c.requires.steps.all in
    let at : slice_get steps to ≡ Some next = c.at-next.ensures in
    let step : IsStep x links to next = c.requires.steps.each to next at in
    next_line x links piece i line n follows here.exists to is next step (needed_has x piece i line (member_at (needed x piece i) c.args.j line c.requires.line)).0

pub returns-then-next : goal.returns-then-next
returns-then-next g c =
    let x = net_of c.args.net.now in
    let steps = c.args.steps.now in
    let links = c.args.links.now.items in
    let piece = c.args.step.piece in
    let i = c.args.step.number in
    let line = c.args.link.line in
    let here : IsOperationHere x piece i = is_operation_here x c.args.link.node piece i c.requires.node c.requires.name in
    let n = c.in-Some.n in
    let follows : IsNextNeed x piece i line n = subst (λ (o : Option ℕ). NextIs x piece i line o) c.in-Some.is (c.needed_next.ensures line c.requires.line) in
    let to = c.operation_node-to.result in
    let low = c.operation_node-to.ensures.exists in
    let is = operation_number x to piece n low c.operation_node-to.ensures.name in
    let next = c.at-next.result in
    let all = c.requires.steps.all in
    let at : slice_get steps to ≡ Some next = c.at-next.ensures in
    let step : IsStep x links to next = c.requires.steps.each to next at in
    ∣ way_here x links piece i line n follows here.exists to is next step c.if-next.true c.link_near.result c.link_near.ensures.line c.link_near.ensures.from c.link_near.ensures.below ∣₁

pub returns-else-next : goal.returns-else-next
returns-else-next g c =
    let x = net_of c.args.net.now in
    let steps = c.args.steps.now in
    let links = c.args.links.now.items in
    let piece = c.args.step.piece in
    let i = c.args.step.number in
    let line = c.args.link.line in
    let here : IsOperationHere x piece i = is_operation_here x c.args.link.node piece i c.requires.node c.requires.name in
    let n = c.in-Some.n in
    let follows : IsNextNeed x piece i line n = subst (λ (o : Option ℕ). NextIs x piece i line o) c.in-Some.is (c.needed_next.ensures line c.requires.line) in
    let to = c.operation_node-to.result in
    let low = c.operation_node-to.ensures.exists in
    let is = operation_number x to piece n low c.operation_node-to.ensures.name in
    let next = c.at-next.result in
    let all = c.requires.steps.all in
    let at : slice_get steps to ≡ Some next = c.at-next.ensures in
    let step : IsStep x links to next = c.requires.steps.each to next at in
    ∣ way_before x links piece i line n follows here.exists to is next step c.if-next.false ∣₁

pub way_over-requires : goal.way_over-requires
way_over-requires g c =
    let x = net_of c.args.net.now in
    let steps = c.args.steps.now in
    let links = c.args.links.now.items in
    let piece = c.args.step.piece in
    let i = c.args.step.number in
    let line = c.args.link.line in
    let here : IsOperationHere x piece i = is_operation_here x c.args.link.node piece i c.requires.node c.requires.name in
    let of_piece = here.exists in
    let low = (needed_has x piece i line (member_at (needed x piece i) c.args.j line c.requires.line)).0 in
    let last = subst (λ (o : Option ℕ). NextIs x piece i line o) c.in-None.is (c.needed_next.ensures line c.requires.line) in
    (omega arith, (c.requires.steps, (of_piece, (low, last))))
