-- Entities as keys of maps.
use Rattle.std.proofs.Common.{◌≡◌, refl}
use mathlib.Core.Path.{fun_ext}
use Rattle.program_units.specs.contracts.entity.EntityPartialEq.TheImpl.{eq-value}
use Rattle.program_units.specs.Entities.{Entity, Local, InBlock}
use Rattle.program_units.specs.Names.{same_entity}

derived-is : (a b : Entity) → eq-value.it a b ≡ same_entity a b
derived-is (Local j x) (Local k y) = refl
derived-is (Local j x) (InBlock b i) = refl
derived-is (InBlock a i) (Local k y) = refl
derived-is (InBlock a i) (InBlock b j) = refl

-- two keys are equal where the entities are the same
pub same-keys : eq-value.it ≡ same_entity
same-keys = fun_ext (λ a. fun_ext (λ b. derived-is a b))
