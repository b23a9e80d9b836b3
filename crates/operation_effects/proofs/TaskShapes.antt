-- The tasks of accesses of arrays.
use Rattle.std.proofs.Common.{◌≡◌, ℕ, pos, List, [], ◌∷◌, map, refl}
use Rattle.f77_tree.specs.declared.declarations.Kind.{Kind}
use Rattle.f77_tree.specs.declared.expressions.Expr.{Expr}
use Rattle.f77_tree.specs.declared.programs.NameInfo.{NameInfo}
use Rattle.f77_tree.specs.Known.{known}
use Rattle.f77_tree.specs.Value.{dims_of, kind_of, place_of, size_of}
use Rattle.op_board.specs.Operations as board
use Rattle.operation_effects.specs.declared.tasks.Task.TheVariants as task
use Rattle.operation_effects.specs.Tasks.{IsTaskOf}
use Rattle.operation_effects.specs.Works.{HasOperands}

module _ (names : List NameInfo) (name : ℕ) (word size : ℕ) (word_is : word ≡ place_of names name) (size_is : pos size ≡ size_of (dims_of names name)) where
  pub loads_at : (subs : List Expr) (kind : Kind) → (subs ≡ [] → ⊥) → kind ≡ kind_of names name → IsTaskOf names (board.Load name (map known subs)) (task.LoadAt word size kind)
  loads_at [] kind some is = absurd (some refl)
  loads_at (sub ∷ subs) kind some is = (word_is, size_is, is)

  pub stores_at : (subs : List Expr) → (subs ≡ [] → ⊥) → IsTaskOf names (board.Store name (map known subs)) (task.StoreAt word size)
  stores_at [] some = absurd (some refl)
  stores_at (sub ∷ subs) some = (word_is, size_is)

pub loads_by_place : (name : ℕ) (subs : List Expr) (count : ℕ) → (subs ≡ [] → ⊥) → HasOperands (board.Load name (map known subs)) count → count ≡ 1
loads_by_place name [] count some has = absurd (some refl)
loads_by_place name (sub ∷ subs) count some has = has

pub stores_by_place : (name : ℕ) (subs : List Expr) (count : ℕ) → (subs ≡ [] → ⊥) → HasOperands (board.Store name (map known subs)) count → count ≡ 2
stores_by_place name [] count some has = absurd (some refl)
stores_by_place name (sub ∷ subs) count some has = has
