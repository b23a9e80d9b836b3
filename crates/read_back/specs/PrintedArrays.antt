-- Arrays that bear the names of intrinsic functions.
use Rattle.std.specs.Prelude.{◌≡◌, false, List, codes}
use Rattle.f77_tree.specs.declared.programs.NameInfo.{NameInfo}
use Rattle.layout_rules.specs.Types.{is_array_in}

-- no array bears a name with which an intrinsic function is printed
pub record HasNoPrintedArrays (names : List NameInfo) : Type 0 where
  pub abs : is_array_in names (codes "ABS") ≡ false
  pub mod_of : is_array_in names (codes "MOD") ≡ false
  pub sign : is_array_in names (codes "SIGN") ≡ false
  pub max_of : is_array_in names (codes "MAX") ≡ false
  pub min_of : is_array_in names (codes "MIN") ≡ false
