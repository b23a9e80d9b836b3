-- Over tables that differ in places alone a statement has the right kinds over both or over none.
use Rattle.std.proofs.Common.{◌≡◌, Bool, true, not, ◌&&◌, List, [], ◌∷◌, Option, Some, None, refl, ap, ◌∙◌}
use Rattle.std.specs.List.{list_all}
use Rattle.std.specs.Option.{is_some}
use Rattle.f77_tree.specs.declared.declarations.Kind.{Kind}
use Rattle.f77_tree.specs.declared.declarations.Kind.TheVariants.{Integer, Logical}
use Rattle.f77_tree.specs.declared.programs.NameInfo.{NameInfo}
use Rattle.f77_tree.specs.declared.statements.RawExpr.{RawExpr}
use Rattle.f77_tree.specs.declared.statements.RawExpr.TheVariants.{Int, Truth, Named, Call', Apply'}
use Rattle.f77_tree.specs.declared.statements.RawItem.{RawItem}
use Rattle.f77_tree.specs.declared.statements.RawItem.TheVariants.{Value, Chars}
use Rattle.f77_tree.specs.declared.statements.Stmt.{Stmt, more_of-Stmt}
use Rattle.f77_tree.specs.declared.statements.Stmt.TheVariants.{Assign, Print, Take, PickGoTo, SignIf, ThenIf', BlockIf, ElseIf, Do}
use Rattle.f77_tree.specs.OtherPlaces.{DifferInPlaces}
use Rattle.layout_rules.specs.Types.{is_array_in, is_item, is_kind, is_kind_of_target, is_of_kind, is_step, is_target, is_variable, is_well_kinded, kind_in, kind_named}
use Rattle.copied_values.proofs.SameTrees.{kinds-same, same-array, same-kind}

module _ (names others : List NameInfo) (differ : DifferInPlaces names others) where
  of-kind-same : (kind : Kind) (e : RawExpr) → is_of_kind others kind e ≡ is_of_kind names kind e
  of-kind-same kind e = ap (is_kind kind) (kinds-same names others differ e)

  variable-same : (e : RawExpr) → is_variable others e ≡ is_variable names e
  variable-same (Int z) = refl
  variable-same (Truth b) = refl
  variable-same (Named name) = refl
  variable-same (Call' name shape args) = same-array names others differ name
  variable-same (Apply' op shape args) = refl

  items-same : (xs : List RawItem) → list_all (is_item others) xs ≡ list_all (is_item names) xs
  items-same [] = refl
  items-same (Value e ∷ xs) = ap (λ (o : Option Kind). is_some o && list_all (is_item others) xs) (kinds-same names others differ e) ∙ ap (λ (b : Bool). is_some (kind_in names e) && b) (items-same xs)
  items-same (Chars text ∷ xs) = ap (λ (b : Bool). true && b) (items-same xs)

  targets-same : (es : List RawExpr) → list_all (is_target others) es ≡ list_all (is_target names) es
  targets-same [] = refl
  targets-same (e ∷ es) =
      ap (λ (b : Bool). (b && is_some (kind_in others e)) && list_all (is_target others) es) (variable-same e)
      ∙ ap (λ (o : Option Kind). (is_variable names e && is_some o) && list_all (is_target others) es) (kinds-same names others differ e)
      ∙ ap (λ (b : Bool). is_target names e && b) (targets-same es)

  step-same : (o : Option RawExpr) → is_step others o ≡ is_step names o
  step-same None = refl
  step-same (Some e) = of-kind-same Integer e

  pub well-kinded-same : (s : Stmt) → is_well_kinded others s ≡ is_well_kinded names s
  well-kinded-same (Assign target value) =
      ap (λ (b : Bool). b && is_kind_of_target (kind_in others target) (kind_in others value)) (variable-same target)
      ∙ ap (λ (o : Option Kind). is_variable names target && is_kind_of_target o (kind_in others value)) (kinds-same names others differ target)
      ∙ ap (λ (o : Option Kind). is_variable names target && is_kind_of_target (kind_in names target) o) (kinds-same names others differ value)
  well-kinded-same (Print xs) = items-same xs
  well-kinded-same (Take es) = targets-same es
  well-kinded-same (PickGoTo labels e) = of-kind-same Integer e
  well-kinded-same (SignIf e a b d) = of-kind-same Integer e
  well-kinded-same (ThenIf' condition shape (more_of-Stmt stmt rest)) =
      ap (λ (b : Bool). b && is_well_kinded others stmt) (of-kind-same Logical condition) ∙ ap (λ (b : Bool). is_of_kind names Logical condition && b) (well-kinded-same stmt)
  well-kinded-same (BlockIf e) = of-kind-same Logical e
  well-kinded-same (ElseIf e) = of-kind-same Logical e
  well-kinded-same (Do label variable first last step) =
      ap (λ (b : Bool). (((not b && is_kind Integer (Some (kind_named others variable))) && is_of_kind others Integer first) && is_of_kind others Integer last) && is_step others step) (same-array names others differ variable)
      ∙ ap (λ (k : Kind). (((not (is_array_in names variable) && is_kind Integer (Some k)) && is_of_kind others Integer first) && is_of_kind others Integer last) && is_step others step) (same-kind names others differ variable)
      ∙ ap (λ (b : Bool). (((not (is_array_in names variable) && is_kind Integer (Some (kind_named names variable))) && b) && is_of_kind others Integer last) && is_step others step) (of-kind-same Integer first)
      ∙ ap (λ (b : Bool). (((not (is_array_in names variable) && is_kind Integer (Some (kind_named names variable))) && is_of_kind names Integer first) && b) && is_step others step) (of-kind-same Integer last)
      ∙ ap (λ (b : Bool). (((not (is_array_in names variable) && is_kind Integer (Some (kind_named names variable))) && is_of_kind names Integer first) && is_of_kind names Integer last) && b) (step-same step)
  well-kinded-same s = refl
