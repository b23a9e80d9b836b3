-- What was kept of the declarations, as the statements are read.
use Rattle.std.proofs.Common.{◌≡◌, ℕ, ◌+◌, ◌<◌, ◌||◌, List, length, get_or, take, None, ap, ◌∙◌, sym}
use Rattle.std.specs.List.{list_any}
use Rattle.std.proofs.lemmas.List.Folds.{list_any_more}
use Rattle.f77_tree.specs.declared.statements.Labelled.{Labelled}
use Rattle.declared_names.specs.declared.declarations.Declarations.{Declarations}
use Rattle.layout_rules.specs.Faults.{first_answer, answer_or}
use Rattle.layout_rules.specs.Declarations.{dims_told, declarators, kind_typed, kind_implied, is_implicit_none}
use Rattle.declared_names.specs.KeptDeclarations.{Tells, TellsMore}
use Rattle.layout_rules.proofs.FirstLine.{first_answer-more, first_answer-flat_more}

-- one more statement was read
pub Tells-more : (old new : Declarations) (stmts : List Labelled) (i : ℕ) (s : Labelled) → i < length stmts → s ≡ get_or stmts i s → Tells old (take i stmts) → TellsMore old new s.stmt → Tells new (take (i + 1) stmts)
Tells-more old new stmts i s lt is tells more =
    record {
      dims = λ name. more.dims name ∙ ap (λ kept. answer_or kept (first_answer (dims_told name) (declarators s.stmt))) (tells.dims name) ∙ first_answer-flat_more (dims_told name) (λ a. declarators a.stmt) None stmts i s lt is;
      kinds = λ name. more.kinds name ∙ ap (λ kept. answer_or kept (kind_typed name s.stmt)) (tells.kinds name) ∙ first_answer-more (λ a. kind_typed name a.stmt) None stmts i s lt is;
      letters = λ letter. more.letters letter ∙ ap (λ kept. answer_or kept (kind_implied letter s.stmt)) (tells.letters letter) ∙ first_answer-more (λ a. kind_implied letter a.stmt) None stmts i s lt is;
      implicit_none = more.implicit_none ∙ ap (λ kept. kept || is_implicit_none s.stmt) tells.implicit_none ∙ ap (λ a. list_any (λ b. is_implicit_none b.stmt) (take i stmts) || is_implicit_none a.stmt) is ∙ sym (list_any_more (λ a. is_implicit_none a.stmt) stmts i s lt);
    }
