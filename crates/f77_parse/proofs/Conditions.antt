-- Conditions of an IF that were read as an array element.
use Rattle.std.proofs.Common.{◌≡◌, ℕ, List, [], None, if◌then◌else◌, codes, ap}
use Rattle.std.specs.Str.{bytes_eq}
use Rattle.f77_tree.specs.declared.statements.RawExpr.{RawExpr, items_hidden-the_row-RawExpr-0}
use Rattle.f77_tree.specs.declared.statements.RawExpr.TheVariants.{Call}
use Rattle.f77_parse.specs.KeptForms.{the_only, condition_in}

pub condition_call : (name : List ℕ) (args : List RawExpr) → condition_in (Call name args) ≡ (if bytes_eq name (codes "IF") then the_only args else None)
condition_call name args = ap (λ (es : List RawExpr). if bytes_eq name (codes "IF") then the_only es else None) (items_hidden-the_row-RawExpr-0 args)
