-- The names of a unit, met statement by statement.
use Rattle.std.proofs.Common.{◌≡◌, ℕ, ◌+◌, ◌<◌, Bool, List, [], ◌++◌, length, get_or, take, fold, refl, sym, ap, ◌∙◌}
use Rattle.std.specs.Prelude.{flat_map}
use Rattle.std.proofs.lemmas.List.Sums.{fold-append}
use Rattle.f77_tree.specs.declared.statements.Labelled.{Labelled}
use Rattle.f77_tree.specs.declared.statements.RawExpr.{RawExpr}
use Rattle.f77_tree.specs.declared.statements.Stmt.{Stmt}
use Rattle.f77_tree.specs.declared.statements.Stmt.TheVariants.{ThenIf}
use Rattle.layout_rules.specs.Appearances.{each_once, names_in, with_name}
use Rattle.layout_rules.specs.Declarations.{is_array}
use Rattle.declared_names.specs.Described.{Described, described, is_array_told}
use Rattle.layout_rules.proofs.FlatParts.{flat_map_taken}
use Rattle.program_units.specs.Names.{appearing_here}

pub appearing_here-ThenIf : (arrays : List ℕ → Bool) (condition : RawExpr) (stmt : Stmt) → appearing_here arrays (ThenIf condition stmt) ≡ names_in arrays condition ++ appearing_here arrays stmt
unfolding Rattle.f77_tree.specs.declared.statements.Stmt.TheBlock.hidden-the_row-Stmt-0 denote.Hole.Carrier.hidden
appearing_here-ThenIf arrays condition stmt = refl

-- the names of a statement, after those of the statements above it
pub met-more : (unit : List Labelled) (i : ℕ) (s : Labelled) (said : Described) → i < length unit → s ≡ get_or unit i s → said ≡ described unit
    → fold with_name (each_once (flat_map (λ a. appearing_here (is_array unit) a.stmt) (take i unit))) (appearing_here (is_array_told said) s.stmt) ≡ each_once (flat_map (λ a. appearing_here (is_array unit) a.stmt) (take (i + 1) unit))
met-more unit i s said inside stands is =
    let here : Labelled → List (List ℕ) = λ a. appearing_here (is_array unit) a.stmt in
    ap (λ (told : Described). fold with_name (each_once (flat_map here (take i unit))) (appearing_here (is_array_told told) s.stmt)) is
    ∙ sym (fold-append with_name [] (flat_map here (take i unit)) (here s))
    ∙ ap each_once (sym (flat_map_taken here unit i s inside stands))

-- the names of a condition, and then those of the statement after it
pub met-ThenIf : (arrays : List ℕ → Bool) (condition : RawExpr) (stmt : Stmt) (old new : List (List ℕ)) → new ≡ fold with_name old (names_in arrays condition)
    → fold with_name new (appearing_here arrays stmt) ≡ fold with_name old (appearing_here arrays (ThenIf condition stmt))
met-ThenIf arrays condition stmt old new is =
    ap (λ (names : List (List ℕ)). fold with_name names (appearing_here arrays stmt)) is
    ∙ sym (fold-append with_name old (names_in arrays condition) (appearing_here arrays stmt))
    ∙ ap (fold with_name old) (sym (appearing_here-ThenIf arrays condition stmt))
