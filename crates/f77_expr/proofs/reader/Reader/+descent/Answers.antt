use Rattle.std.proofs.Common.{◌≡◌, ◌<◌, ℕ, Bool, true, false, slice_get, length, List, [], ◌∷◌, ◌++◌, Some, None, Err, rules, sym, ap, subst, ◌∙◌, arith}
use Rattle.f77_tree.specs.declared.statements.RawExpr.{RawExpr}
use Rattle.f77_tree.specs.declared.statements.RawExpr.TheVariants.{Apply}
use Rattle.f77_tree.specs.Name.{is_figure, is_capital, is_name}
use Rattle.f77_tree.specs.Grammar.{right_level, operator_level}
use Rattle.f77_expr.specs.Reader.{operator_at, prefix_at, operand_level, truth_at, expression_at, primary_at, arguments_at}
use Rattle.f77_expr.specs.Answers.{allowed, passed, meant, prefix_level, kept_prefixed, IsRead, AreRead}
use Rattle.f77_expr.proofs.Results.{fails, passed_on}
use Rattle.f77_expr.proofs.Chains.{operator_shorter, after_shorter, begun_ends, begun_more, begun_fails}
use Rattle.f77_expr.proofs.Lists.{AreBegun, first_argument, no_first, next_argument, no_next, last_argument}
use Rattle.f77_expr.proofs.Begins.{run_of, after_run, primary-nothing, primary-number, primary-no_name, primary-call, primary-no_call, primary-name, call-shorter, primary-bracketed, primary-truth, primary-from, begun_primary, no_primary, begun_prefixed, no_operand}
use Rattle.f77_expr.proofs.reader.Reader.+descent.Goals as goal

pub arguments-returns-in_err-expression : goal.arguments-returns-in_err-expression
arguments-returns-in_err-expression t c =
    let text = c.args.self.now.rest.now in
    let great = c.args.self.now.has_great in
    let whole : c.from_residual-in_err-expression.result ≡ Err c.in_err-expression.field-0.0 = search rules in
    fails _ _ _ _ c.expression.result c.from_residual-in_err-expression.result c.in_err-expression.field-0.0 c.in_err-expression.was whole c.expression.ensures (λ none. no_first text great none)

pub arguments-loop-alloc-init : goal.arguments-loop-alloc-init
arguments-loop-alloc-init t c =
    let text = c.args.self.now.rest.now in
    let great = c.args.self.now.has_great in
    let e = c.in_ok-expression.field-0 in
    let list : c.push.new.self ≡ e ∷ [] = search rules in
    let first : IsRead text great (expression_at 0 text) e c.expression.new.self.rest.now c.expression.new.self.has_great = search rules in
    subst (λ (es : List RawExpr). AreBegun text great es c.expression.new.self.rest.now c.expression.new.self.has_great) (sym list) (first_argument text great e c.expression.new.self.rest.now c.expression.new.self.has_great first)

pub arguments-returns-in_err-expression-2 : goal.arguments-returns-in_err-expression-2
arguments-returns-in_err-expression-2 t c =
    let text = c.args.self.now.rest.now in
    let great = c.args.self.now.has_great in
    let list = c.loop-alloc.list in
    let rest = c.loop-alloc.self.rest.now in
    let great_now = c.loop-alloc.self.has_great in
    let begun = c.loop-alloc.invariant in
    let beyond = c.passes.new.self.rest.now in
    let comma : passed 44 rest ≡ Some beyond = search rules in
    let whole : c.from_residual-in_err-expression-2.result ≡ Err c.in_err-expression-2.field-0.0 = search rules in
    fails _ _ _ _ c.expression-in-loop-alloc.result c.from_residual-in_err-expression-2.result c.in_err-expression-2.field-0.0 c.in_err-expression-2.was whole c.expression-in-loop-alloc.ensures
    (λ none. no_next text great list rest great_now begun beyond comma none)

pub arguments-loop-alloc-preserved : goal.arguments-loop-alloc-preserved
arguments-loop-alloc-preserved t c =
    let text = c.args.self.now.rest.now in
    let great = c.args.self.now.has_great in
    let list = c.loop-alloc.list in
    let rest = c.loop-alloc.self.rest.now in
    let great_now = c.loop-alloc.self.has_great in
    let begun = c.loop-alloc.invariant in
    let beyond = c.passes.new.self.rest.now in
    let comma : passed 44 rest ≡ Some beyond = search rules in
    let e = c.in_ok-expression-2.field-0 in
    let rest_now = c.expression-in-loop-alloc.new.self.rest.now in
    let great_later = c.expression-in-loop-alloc.new.self.has_great in
    let same : c.passes.new.self.has_great ≡ great_now = search rules in
    let longer : c.push-in-loop-alloc.new.self ≡ list ++ e ∷ [] = search rules in
    let next : IsRead beyond c.passes.new.self.has_great (expression_at 0 beyond) e rest_now great_later = search rules in
    let next_same = subst (λ (g : Bool). IsRead beyond g (expression_at 0 beyond) e rest_now great_later) same next in
    subst (λ (es : List RawExpr). AreBegun text great es rest_now great_later) (sym longer) (next_argument text great list rest great_now begun beyond e rest_now great_later comma next_same)

pub arguments-returns-then-passes : goal.arguments-returns-then-passes
arguments-returns-then-passes t c =
    let text = c.args.self.now.rest.now in
    let great = c.args.self.now.has_great in
    let list = c.loop-alloc.list in
    let rest = c.loop-alloc.self.rest.now in
    let great_now = c.loop-alloc.self.has_great in
    let begun = c.loop-alloc.invariant in
    let no_comma : passed 44 rest ≡ None = search rules in
    let same : c.passes.new.self.rest.now ≡ rest = search rules in
    let bracket : passed 41 c.passes.new.self.rest.now ≡ Some c.passes-2.new.self.rest.now = search rules in
    let great_same : c.passes-2.new.self.has_great ≡ great_now = search rules in
    subst (λ (g : Bool). AreRead text great (arguments_at text) list c.passes-2.new.self.rest.now g) (sym great_same)
    (last_argument text great list rest great_now begun c.passes-2.new.self.rest.now no_comma (subst (λ (r : List ℕ). passed 41 r ≡ Some c.passes-2.new.self.rest.now) same bracket))

pub expression-expression-requires : goal.expression-expression-requires
expression-expression-requires t c =
    let text = c.args.self.now.rest.now in
    let great = c.args.self.now.has_great in
    let rest = c.loop-op.self.rest.now in
    let left = c.loop-op.left in
    let some : allowed c.args.least left.level (operator_at rest) ≡ Some (c.in-Some.op, c.in-Some.rest.now) = search rules in
    let less = after_shorter c.args.least text great left.expr left.level rest c.loop-op.self.has_great c.loop-op.invariant c.in-Some.op c.in-Some.rest.now some in
    let room = c.requires.room in
    let d = c.decreases in
    (omega (arith, d, less), omega (arith, less, room))

pub expression-returns-in_err-right : goal.expression-returns-in_err-right
expression-returns-in_err-right t c =
    let text = c.args.self.now.rest.now in
    let great = c.args.self.now.has_great in
    let rest = c.loop-op.self.rest.now in
    let left = c.loop-op.left in
    let some : allowed c.args.least left.level (operator_at rest) ≡ Some (c.in-Some.op, c.in-Some.rest.now) = search rules in
    let less = after_shorter c.args.least text great left.expr left.level rest c.loop-op.self.has_great c.loop-op.invariant c.in-Some.op c.in-Some.rest.now some in
    let level : c.levels_of-levels.result.right ≡ right_level c.in-Some.op = search rules in
    let whole : c.from_residual-in_err-right.result ≡ Err c.in_err-right.field-0.0 = search rules in
    fails _ _ _ _ c.expression.result c.from_residual-in_err-right.result c.in_err-right.field-0.0 c.in_err-right.was whole c.expression.ensures
    (λ none. begun_fails c.args.least text great left.expr left.level rest c.loop-op.self.has_great c.loop-op.invariant c.in-Some.op c.in-Some.rest.now some c.levels_of-levels.result.right level none)

pub expression-loop-op-smaller : goal.expression-loop-op-smaller
expression-loop-op-smaller t c =
    let rest = c.loop-op.self.rest.now in
    let some : allowed c.args.least c.loop-op.left.level (operator_at rest) ≡ Some (c.in-Some.op, c.in-Some.rest.now) = search rules in
    let less : length c.in-Some.rest.now < length rest = operator_shorter c.args.least c.loop-op.left.level rest c.in-Some.op c.in-Some.rest.now some in
    let right : IsRead c.in-Some.rest.now c.loop-op.self.has_great (expression_at c.levels_of-levels.result.right c.in-Some.rest.now) c.in_ok-right.right c.expression.new.self.rest.now c.expression.new.self.has_great = search rules in
    let shorter = right.shorter in
    let falls : length c.expression.new.self.rest.now < length rest = omega arith in
    falls

pub expression-loop-op-preserved : goal.expression-loop-op-preserved
expression-loop-op-preserved t c =
    let text = c.args.self.now.rest.now in
    let great = c.args.self.now.has_great in
    let rest = c.loop-op.self.rest.now in
    let left = c.loop-op.left in
    let some : allowed c.args.least left.level (operator_at rest) ≡ Some (c.in-Some.op, c.in-Some.rest.now) = search rules in
    let less = after_shorter c.args.least text great left.expr left.level rest c.loop-op.self.has_great c.loop-op.invariant c.in-Some.op c.in-Some.rest.now some in
    let level : c.levels_of-levels.result.right ≡ right_level c.in-Some.op = search rules in
    let right : IsRead c.in-Some.rest.now c.loop-op.self.has_great (expression_at c.levels_of-levels.result.right c.in-Some.rest.now) c.in_ok-right.right c.expression.new.self.rest.now c.expression.new.self.has_great = search rules in
    let made : c.in_ok-two.field-0 ≡ Apply c.in-Some.op (left.expr ∷ c.in_ok-right.right ∷ []) = search rules in
    let made_level : c.levels_of-levels.result.own ≡ operator_level c.in-Some.op = search rules in
    begun_more c.args.least text great left.expr left.level rest c.loop-op.self.has_great c.loop-op.invariant c.in-Some.op c.in-Some.rest.now some c.in_ok-two.field-0 c.in_ok-right.right c.levels_of-levels.result.own c.levels_of-levels.result.right c.expression.new.self.rest.now c.expression.new.self.has_great right level made made_level

pub expression-returns : goal.expression-returns
expression-returns t c =
    let text = c.args.self.now.rest.now in
    let great = c.args.self.now.has_great in
    let rest = c.loop-op.self.rest.now in
    let left = c.loop-op.left in
    let none : allowed c.args.least left.level (operator_at rest) ≡ None = search rules in
    begun_ends c.args.least text great left.expr left.level rest c.loop-op.self.has_great c.loop-op.invariant none

pub named-returns-in_default : goal.named-returns-in_default
named-returns-in_default t c =
    let text = c.args.self.now.rest.now in
    let is_none : is_name (run_of text) ≡ false = search rules in
    primary-no_name text c.requires.letter is_none

pub named-arguments-requires : goal.named-arguments-requires
named-arguments-requires t c =
    let text = c.args.self.now.rest.now in
    let great = c.args.self.now.has_great in
    let moved : c.name.new.self.rest.now ≡ after_run text = search rules in
    let beyond = c.passes.new.self.rest.now in
    let passed_there : passed 40 c.name.new.self.rest.now ≡ Some beyond = search rules in
    let bracket = subst (λ (r : List ℕ). passed 40 r ≡ Some beyond) moved passed_there in
    let less = call-shorter text beyond bracket in
    let d = c.decreases in
    let room = c.requires.room in
    (omega (arith, d, less), omega (arith, less, room))

pub named-returns-in_err-arguments : goal.named-returns-in_err-arguments
named-returns-in_err-arguments t c =
    let text = c.args.self.now.rest.now in
    let great = c.args.self.now.has_great in
    let moved : c.name.new.self.rest.now ≡ after_run text = search rules in
    let is_one : is_name (run_of text) ≡ true = search rules in
    let name : c.in-Some.name ≡ run_of text = search rules in
    let beyond = c.passes.new.self.rest.now in
    let passed_there : passed 40 c.name.new.self.rest.now ≡ Some beyond = search rules in
    let bracket = subst (λ (r : List ℕ). passed 40 r ≡ Some beyond) moved passed_there in
    let whole : c.from_residual.result ≡ Err c.in_err-arguments.field-0.0 = search rules in
    fails _ _ _ _ c.arguments.result c.from_residual.result c.in_err-arguments.field-0.0 c.in_err-arguments.was whole c.arguments.ensures
    (λ none. primary-no_call text c.requires.letter is_one beyond bracket none)

pub named-returns-in_ok-arguments : goal.named-returns-in_ok-arguments
named-returns-in_ok-arguments t c =
    let text = c.args.self.now.rest.now in
    let great = c.args.self.now.has_great in
    let moved : c.name.new.self.rest.now ≡ after_run text = search rules in
    let is_one : is_name (run_of text) ≡ true = search rules in
    let name : c.in-Some.name ≡ run_of text = search rules in
    let beyond = c.passes.new.self.rest.now in
    let passed_there : passed 40 c.name.new.self.rest.now ≡ Some beyond = search rules in
    let bracket = subst (λ (r : List ℕ). passed 40 r ≡ Some beyond) moved passed_there in
    let es = c.in_ok-arguments.field-0 in
    let rest_now = c.arguments.new.self.rest.now in
    let great_now = c.arguments.new.self.has_great in
    let same : c.passes.new.self.has_great ≡ great = search rules in
    let read : AreRead beyond c.passes.new.self.has_great (arguments_at beyond) es rest_now great_now = search rules in
    primary-call text c.requires.letter is_one great c.in-Some.name es beyond rest_now great_now name bracket (subst (λ (g : Bool). AreRead beyond g (arguments_at beyond) es rest_now great_now) same read)

pub named-returns-else-passes : goal.named-returns-else-passes
named-returns-else-passes t c =
    let text = c.args.self.now.rest.now in
    let great = c.args.self.now.has_great in
    let moved : c.name.new.self.rest.now ≡ after_run text = search rules in
    let is_one : is_name (run_of text) ≡ true = search rules in
    let name : c.in-Some.name ≡ run_of text = search rules in
    let unmoved : c.passes.new.self.rest.now ≡ c.name.new.self.rest.now = search rules in
    let passed_there : passed 40 c.name.new.self.rest.now ≡ None = search rules in
    let same : c.passes.new.self.has_great ≡ great = search rules in
    primary-name text c.requires.letter is_one great c.in-Some.name c.passes.new.self.rest.now c.passes.new.self.has_great name (subst (λ (r : List ℕ). passed 40 r ≡ None) moved passed_there) (unmoved ∙ moved) same

pub operand-returns-in_err-operand-in-Some : goal.operand-returns-in_err-operand-in-Some
operand-returns-in_err-operand-in-Some t c =
    let text = c.args.self.now.rest.now in
    let great = c.args.self.now.has_great in
    let some : prefix_at c.args.least text ≡ Some (meant c.in-Some.prefix, c.in-Some.rest.now) = search rules in
    let level : c.operand_level.result ≡ operand_level (meant c.in-Some.prefix) = search rules in
    let whole : c.from_residual.result ≡ Err c.in_err-operand-in-Some.field-0.0 = search rules in
    fails _ _ _ _ c.expression.result c.from_residual.result c.in_err-operand-in-Some.field-0.0 c.in_err-operand-in-Some.was whole c.expression.ensures
    (λ none. no_operand c.args.least text c.in-Some.prefix c.in-Some.rest.now some c.operand_level.result level none)

pub operand-returns-in_err-primary-in-None : goal.operand-returns-in_err-primary-in-None
operand-returns-in_err-primary-in-None t c =
    let text = c.args.self.now.rest.now in
    let great = c.args.self.now.has_great in
    let no_prefix : prefix_at c.args.least text ≡ None = search rules in
    let whole : c.from_residual-in_err-primary-in-None.result ≡ Err c.in_err-primary-in-None.field-0.0 = search rules in
    fails _ _ _ _ c.primary.result c.from_residual-in_err-primary-in-None.result c.in_err-primary-in-None.field-0.0 c.in_err-primary-in-None.was whole c.primary.ensures
    (λ none. no_primary c.args.least text no_prefix none)

pub operand-returns-in_ok-prefixed-in-Some : goal.operand-returns-in_ok-prefixed-in-Some
operand-returns-in_ok-prefixed-in-Some t c =
    let text = c.args.self.now.rest.now in
    let great = c.args.self.now.has_great in
    let e = c.in_ok-operand-in-Some.operand in
    let rest_now = c.expression.new.self.rest.now in
    let great_now = c.expression.new.self.has_great in
    let some : prefix_at c.args.least text ≡ Some (meant c.in-Some.prefix, c.in-Some.rest.now) = search rules in
    let level : c.operand_level.result ≡ operand_level (meant c.in-Some.prefix) = search rules in
    let operand : IsRead c.in-Some.rest.now great (expression_at c.operand_level.result c.in-Some.rest.now) e rest_now great_now = search rules in
    let made : c.in_ok-prefixed-in-Some.field-0 ≡ kept_prefixed c.in-Some.prefix e = search rules in
    let made_level : c.prefix_level.result ≡ prefix_level c.in-Some.prefix = search rules in
    begun_prefixed c.args.least text c.in-Some.prefix c.in-Some.rest.now some c.operand_level.result level great c.in_ok-prefixed-in-Some.field-0 e c.prefix_level.result rest_now great_now operand made made_level

pub operand-returns-in_ok-primary-in-None : goal.operand-returns-in_ok-primary-in-None
operand-returns-in_ok-primary-in-None t c =
    let text = c.args.self.now.rest.now in
    let great = c.args.self.now.has_great in
    let e = c.in_ok-primary-in-None.field-0 in
    let no_prefix : prefix_at c.args.least text ≡ None = search rules in
    let primary : IsRead text great (primary_at text) e c.primary.new.self.rest.now c.primary.new.self.has_great = search rules in
    begun_primary c.args.least text no_prefix great e c.primary.new.self.rest.now c.primary.new.self.has_great primary

pub primary-returns-in_default : goal.primary-returns-in_default
primary-returns-in_default t c =
    let text = c.args.self.now.rest.now in
    let none : slice_get text 0 ≡ None = search rules in
    primary-nothing text none

pub primary-returns-then-is_digit : goal.primary-returns-then-is_digit
primary-returns-then-is_digit t c =
    let text = c.args.self.now.rest.now in
    let great = c.args.self.now.has_great in
    let first : slice_get text 0 ≡ Some c.in-Some.first.now = search rules in
    let figure : is_figure c.in-Some.first.now ≡ true = search rules in
    primary-number text c.in-Some.first.now first figure great c.number.result c.number.new.self.rest.now c.number.new.self.has_great c.number.ensures.kept c.number.ensures.rest c.number.ensures.great

pub primary-returns-then-passes : goal.primary-returns-then-passes
primary-returns-then-passes t c =
    let text = c.args.self.now.rest.now in
    let great = c.args.self.now.has_great in
    let first : slice_get text 0 ≡ Some c.in-Some.first.now = search rules in
    let figure : is_figure c.in-Some.first.now ≡ false = search rules in
    let capital : is_capital c.in-Some.first.now ≡ false = search rules in
    let beyond = c.passes.new.self.rest.now in
    let bracket : passed 40 text ≡ Some beyond = search rules in
    let same : c.passes.new.self.has_great ≡ great = search rules in
    let is = primary-bracketed text c.in-Some.first.now first figure capital beyond bracket in
    passed_on _ _ _ _ c.bracketed.result
    (λ e read. primary-from text beyond great c.passes.new.self.has_great _ e c.bracketed.new.self.rest.now c.bracketed.new.self.has_great is same read)
    (λ none. is ∙ none) c.bracketed.ensures

pub primary-returns-else-passes : goal.primary-returns-else-passes
primary-returns-else-passes t c =
    let text = c.args.self.now.rest.now in
    let great = c.args.self.now.has_great in
    let first : slice_get text 0 ≡ Some c.in-Some.first.now = search rules in
    let figure : is_figure c.in-Some.first.now ≡ false = search rules in
    let capital : is_capital c.in-Some.first.now ≡ false = search rules in
    let no_bracket : passed 40 text ≡ None = search rules in
    let unmoved : c.passes.new.self.rest.now ≡ text = search rules in
    let same : c.passes.new.self.has_great ≡ great = search rules in
    let is : primary_at text ≡ truth_at c.passes.new.self.rest.now = primary-truth text c.in-Some.first.now first figure capital no_bracket ∙ ap truth_at (sym unmoved) in
    passed_on _ _ _ _ c.truth.result
    (λ e read. primary-from text c.passes.new.self.rest.now great c.passes.new.self.has_great _ e c.truth.new.self.rest.now c.truth.new.self.has_great is same read)
    (λ none. is ∙ none) c.truth.ensures
