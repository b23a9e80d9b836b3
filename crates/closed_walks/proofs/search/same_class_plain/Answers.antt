use Rattle.std.proofs.Common.{sym, ◌∙◌}
use Rattle.std.proofs.lemmas.Bool.{false≢true, not-true, not_from_false, false_from_ne_true}
use Rattle.closed_walks.proofs.Classes.{first_closed, second_closed, IsCycleEquivalent-closed}
use Rattle.closed_walks.proofs.search.same_class_plain.Goals as goal
use Rattle.std.proofs.Common.{arith}

pub returns-then-branch : goal.returns-then-branch
returns-then-branch c =
    grind (arith, first_closed c.args.g.now c.args.a c.args.b c.requires.first c.if-a-b.false, c.in_ok-returns_without.ensures.0 c.if-branch.true)

pub returns : goal.returns
returns c = (
  λ none. IsCycleEquivalent-closed c.args.g.now c.args.a c.args.b
      (λ r. false≢true (sym c.if-branch.false ∙ c.in_ok-returns_without.ensures.1 r))
      (λ r. false≢true (sym (not-true c.in_ok-back.back none) ∙ c.in_ok-back.ensures.1 r)),
  λ same. not_from_false c.in_ok-back.back
      (false_from_ne_true c.in_ok-back.back
      (λ found. second_closed c.args.g.now c.args.a c.args.b c.requires.second c.if-a-b.false same (c.in_ok-back.ensures.0 found))),
)
