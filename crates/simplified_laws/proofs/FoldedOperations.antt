-- What is left of an executable takes at most twice the operations.
use Rattle.std.proofs.Common.{ℕ, ◌+◌, ◌*◌, ◌≤◌, ℤ, Bool, List, [], ◌∷◌, map, Option, arith}
use Rattle.std.specs.Prelude.{sum_by}
use Rattle.std.proofs.lemmas.List.Sums.{sum_by-cons}
use Rattle.f77_tree.specs.declared.expressions.Access.{Access}
use Rattle.f77_tree.specs.declared.expressions.Expr.{Expr}
use Rattle.f77_tree.specs.declared.programs.Item.{Item}
use Rattle.f77_tree.specs.declared.programs.Item.TheVariants.{Value, Chars}
use Rattle.f77_tree.specs.declared.programs.NameInfo.{NameInfo}
use Rattle.f77_tree.specs.Operations.{operations, access_operations, item_operations}
use Rattle.simplified_forms.specs.Folding.{folded, folded_access, folded_item}
use Rattle.simplified_laws.proofs.FoldedLaws.{folded-operations}

module _ (names : List NameInfo) (checked : Bool) (words : ℕ → Option ℤ) where
  subs-operations : (subs : List Expr) → sum_by (λ e. 2 + operations e) (map (folded names checked words) subs) ≤ 2 * sum_by (λ e. 2 + operations e) subs
  subs-operations [] = omega arith
  subs-operations (e ∷ subs) =
      let here = folded-operations names checked words e in
      let more = subs-operations subs in
      let old = sum_by-cons (λ e. 2 + operations e) e subs in
      let new = sum_by-cons (λ e. 2 + operations e) (folded names checked words e) (map (folded names checked words) subs) in
      omega (arith, here, more, old, new)

  pub access-operations : (access : Access) → access_operations (folded_access names checked words access) ≤ 2 * access_operations access
  access-operations access = let few = subs-operations access.subs in omega (arith, few)

  item-operations : (item : Item) → item_operations (folded_item names checked words item) ≤ 2 * item_operations item
  item-operations (Value e) = let few = folded-operations names checked words e in omega (arith, few)
  item-operations (Chars text) = omega arith

  pub items-operations : (items : List Item) → sum_by item_operations (map (folded_item names checked words) items) ≤ 2 * sum_by item_operations items
  items-operations [] = omega arith
  items-operations (item ∷ items) =
      let here = item-operations item in
      let more = items-operations items in
      let old = sum_by-cons item_operations item items in
      let new = sum_by-cons item_operations (folded_item names checked words item) (map (folded_item names checked words) items) in
      omega (arith, here, more, old, new)
