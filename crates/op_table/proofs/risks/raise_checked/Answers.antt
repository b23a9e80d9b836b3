use Rattle.std.proofs.Common.{◌∷◌, [], ℤ, Option, None, refl, sym, subst}
use Rattle.op_table.specs.declared.Op.TheVariants.{PowChecked}
use Rattle.op_table.specs.Known.{CanTrap}
use Rattle.op_table.proofs.Trapping.{two_can, powc_any}
use Rattle.op_table.proofs.risks.raise_checked.Goals as goal

pub returns-in-None-None : goal.returns-in-None-None
returns-in-None-None c =
    let any : CanTrap PowChecked (None ∷ None ∷ []) = let can = two_can PowChecked None None in can.0 powc_any in
    let with_b : CanTrap PowChecked (None ∷ c.args.b ∷ []) = subst (λ (b : Option ℤ). CanTrap PowChecked (None ∷ b ∷ [])) (sym c.in-None-None.is-1) any in
    (λ e. subst (λ (a : Option ℤ). CanTrap PowChecked (a ∷ c.args.b ∷ [])) (sym c.in-None-None.is-0) with_b, λ t. refl)
