-- An entity is the same as itself.
use Rattle.std.proofs.Common.{◌≡◌, ◌==◌, true, refl}
use Rattle.std.specs.Prelude.{bytes_eq}
use Rattle.std.proofs.lemmas.Bool.{and_from, eq-eqb}
use Rattle.std.proofs.lemmas.Slice.Eq.{bytes_eq-Decides}
use Rattle.f77_tree.specs.Places.{same_block}
use Rattle.program_units.specs.declared.entity.Entity.{Entity}
use Rattle.program_units.specs.declared.entity.Entity.TheVariants.{Local, InBlock}
use Rattle.program_units.specs.Names.{same_entity}
use Rattle.unit_laws.proofs.MainNames.{same_block-itself}

pub same-itself : (e : Entity) → same_entity e e ≡ true
same-itself (Local k x) = and_from (k == k) (bytes_eq x x) (eq-eqb k k refl) ((bytes_eq-Decides x x).1 refl)
same-itself (InBlock block i) = and_from (same_block block block) (i == i) (same_block-itself block) (eq-eqb i i refl)
