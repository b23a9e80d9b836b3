use Rattle.std.proofs.Common.{rules, ◌≡◌, ℕ, ◌+◌, ◌<◌, true, arith, ap, subst, ◌∙◌, Some, length, refl, List, get_or}
use Rattle.std.specs.Prelude.{slice_get, slice_index}
use Rattle.std.proofs.lemmas.List.{get_or_read}
use Rattle.std.proofs.lemmas.Option.{slice_get_read}
use Rattle.f77_tree.specs.declared.statements.Labelled.{Labelled}
use Rattle.layout_rules.specs.Labels.{statement_of}
use Rattle.layout_rules.specs.Executables.{is_do_in, own_executables, loops_above, first_of, met}
use Rattle.executable_lists.specs.declared.flow.Flow.{Flow}
use Rattle.executable_lists.specs.Flows.{IsFlow}
use Rattle.control_structure.proofs.Exits.{exit-outermost, exit-numbers, IsExit, rank-do}
use Rattle.executable_lists.proofs.flow.Flow.exit.Goals as goal
use Rattle.executable_lists.proofs.flow.Flow.exit.Goals.{After-own_executables}

-- what is looked up first: the statement at which the range ends, and how many DOs further out end there
outer-is : (stmts : List Labelled) (flow : Flow) (label place read : ℕ) → IsFlow stmts flow → place < length stmts → is_do_in label (slice_get stmts place) ≡ true → read ≡ slice_index flow.loops.ranks.items place → read ≡ length (loops_above stmts label place)
outer-is stmts flow label place read is inside begins e = e ∙ is.ranks.entry place inside ∙ rank-do stmts label place begins

-- where the range goes on, the statement at which it ends is looked up too
exits : (c : After-own_executables) → IsExit c.args.stmts.now c.args.label c.args.place c.index-2.result.now c.own_executables.result (length (loops_above c.args.stmts.now c.args.label (length c.args.stmts.now))) c.rank-outer.result
exits c =
    let flow = c.requires.flow in
    let stmts = c.args.stmts.now in
    let label = c.args.label in
    let place = c.args.place in
    let terminal = statement_of stmts label in
    let s = c.index-stmts-terminal.result in
    let at : c.place-terminal.result ≡ terminal = c.place-terminal.ensures ∙ flow.labels label in
    let here : slice_get stmts terminal ≡ Some s = slice_get_read stmts (length stmts) terminal s refl c.requires.stands (subst (λ (t : ℕ). s ≡ get_or stmts t s) at c.index-stmts-terminal.is) in
    let first = get_or_read c.args.self.now.first.items c.place-terminal.result c.index-2.result.now (omega (arith, at, c.requires.stands, flow.first.size)) c.index-2.ensures 0 ∙ flow.first.entry c.place-terminal.result (omega (arith, at, c.requires.stands)) ∙ ap (first_of stmts) at in
    let own : c.own_executables.result ≡ own_executables s.stmt = search rules in
    exit-numbers stmts label place _ _ _ _ s c.requires.place c.requires.begins here first own refl (outer-is stmts c.args.self.now label place c.rank-outer.result flow c.requires.place c.requires.begins c.rank-outer.ensures)

pub returns-then-outer-eq0 : goal.returns-then-outer-eq0
returns-then-outer-eq0 c =
    let flow = c.requires.flow in
    let stmts = c.args.stmts.now in
    let label = c.args.label in
    let place = c.args.place in
    let terminal = statement_of stmts label in
    let at = c.place-terminal.ensures ∙ flow.labels label in
    let outer = outer-is stmts c.args.self.now label place c.rank-outer.result flow c.requires.place c.requires.begins c.rank-outer.ensures in
    get_or_read c.args.self.now.met.items (c.place-terminal.result + 1) c.index.result.now (omega (arith, flow.met.size, at)) c.index.ensures 0
    ∙ flow.met.entry (c.place-terminal.result + 1) (omega (arith, at))
    ∙ ap (λ t. met stmts (t + 1)) at
    ∙ exit-outermost stmts label place c.requires.place c.requires.begins (omega (arith, outer))

pub overflow_add-increments : goal.overflow_add-increments
overflow_add-increments c = let is = exits (goal.at.overflow_add-increments c).After-own_executables in search (rules, is.fits, c.requires.flow.few)

pub overflow_sub-result : goal.overflow_sub-result
overflow_sub-result c =
    let is = exits (goal.at.overflow_sub-result c).After-own_executables in
    omega (arith, is.inner, c.len.ensures ∙ ap (λ (ds : List ℕ). length ds) (c.to.ensures ∙ c.requires.flow.loops c.args.label))

pub overflow_add-result : goal.overflow_add-result
overflow_add-result c =
    let is = exits (goal.at.overflow_add-result c).After-own_executables in
    omega (arith, is.fits, is.inner, c.requires.flow.few, c.len.ensures ∙ ap (λ (ds : List ℕ). length ds) (c.to.ensures ∙ c.requires.flow.loops c.args.label))

pub returns : goal.returns
returns c =
    let is = exits (goal.at.returns c).After-own_executables in
    omega (arith, is.exit (omega arith), c.len.ensures ∙ ap (λ (ds : List ℕ). length ds) (c.to.ensures ∙ c.requires.flow.loops c.args.label))
