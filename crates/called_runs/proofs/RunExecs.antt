-- The executables of statements, over a table of names that differs from theirs in places alone.
use Rattle.std.proofs.Common.{◌≡◌, ℕ, ◌+◌, Bool, List, [], ◌∷◌, map, Option, Some, None, Ok, refl, sym, ap, ◌∙◌}
use Rattle.std.specs.List.{slice_get}
use Rattle.f77_tree.specs.declared.expressions.Access.{Access}
use Rattle.f77_tree.specs.declared.expressions.Expr.{Expr}
use Rattle.f77_tree.specs.declared.declarations.Kind.{Kind}
use Rattle.f77_tree.specs.declared.programs.ExecKind.{ExecKind}
use Rattle.f77_tree.specs.declared.programs.ExecKind.TheVariants.{Assign as Assigned, Print as Printed, Test, Sign, Pick, DoStart, DoNext}
use Rattle.f77_tree.specs.declared.programs.Item.{Item}
use Rattle.f77_tree.specs.declared.programs.Item.TheVariants.{Value as Shown}
use Rattle.f77_tree.specs.declared.programs.NameInfo.{NameInfo}
use Rattle.f77_tree.specs.declared.programs.Program.{Program}
use Rattle.f77_tree.specs.declared.statements.Labelled.{Labelled}
use Rattle.f77_tree.specs.declared.statements.RawExpr.{RawExpr}
use Rattle.f77_tree.specs.declared.statements.RawItem.{RawItem}
use Rattle.f77_tree.specs.declared.statements.RawItem.TheVariants.{Value, Chars}
use Rattle.f77_tree.specs.declared.statements.Stmt.{Stmt, more_of-Stmt}
use Rattle.f77_tree.specs.declared.statements.Stmt.TheVariants.{Assign, Print, Take, PickGoTo, SignIf, ThenIf', BlockIf, ElseIf, Do}
use Rattle.f77_tree.specs.Declarations.{index_of}
use Rattle.f77_tree.specs.Kinds.{taken_as}
use Rattle.f77_tree.specs.OtherPlaces.{DifferInPlaces}
use Rattle.layout_rules.specs.Executables.{beyond, exit_after, exit_of, first_of, increments, kind_or_integer, labelled, loop_number, loops_to, met, own_executables, own_kinds, taking, variable_of, when_false}
use Rattle.layout_rules.specs.Layout.{layout, names_of}
use Rattle.layout_rules.specs.Resolved.{access_of, resolved, resolved_item, resolved_step}
use Rattle.layout_rules.specs.Source.{IsSource}
use Rattle.layout_rules.specs.Types.{kind_in}
use Rattle.f77_layout.proofs.LabelsLead.{increments-stand, own-stand}
use Rattle.copied_values.proofs.SameTrees.{accesses-same, kinds-same, same-index, trees-same}

module _ (names others : List NameInfo) (differ : DifferInPlaces names others) (checked : Bool) where
  tree : (e : RawExpr) → resolved others checked e ≡ resolved names checked e
  tree e = trees-same names others differ checked e

  access : (e : RawExpr) → access_of others checked e ≡ access_of names checked e
  access e = accesses-same names others differ checked e

  item : (i : RawItem) → resolved_item others checked i ≡ resolved_item names checked i
  item (Value e) = ap (λ (x : Expr). Shown x) (tree e)
  item (Chars text) = refl

  items : (xs : List RawItem) → map (resolved_item others checked) xs ≡ map (resolved_item names checked) xs
  items [] = refl
  items (i ∷ xs) = ap (λ (y : Item). y ∷ map (resolved_item others checked) xs) (item i) ∙ ap (λ (ys : List Item). resolved_item names checked i ∷ ys) (items xs)

  step : (o : Option RawExpr) → resolved_step others checked o ≡ resolved_step names checked o
  step None = refl
  step (Some e) = tree e

  taken : (e : RawExpr) (next : ℕ) → Assigned (access_of others checked e) (taken_as (kind_or_integer (kind_in others e))) next ≡ Assigned (access_of names checked e) (taken_as (kind_or_integer (kind_in names e))) next
  taken e next =
      ap (λ (a : Access). Assigned a (taken_as (kind_or_integer (kind_in others e))) next) (access e)
      ∙ ap (λ (k : Option Kind). Assigned (access_of names checked e) (taken_as (kind_or_integer k)) next) (kinds-same names others differ e)

  reads : (index next : ℕ) (xs : List RawExpr) → taking others checked index next xs ≡ taking names checked index next xs
  reads index next [] = refl
  reads index next (e ∷ []) = ap (λ (k : ExecKind). k ∷ []) (taken e next)
  reads index next (e ∷ f ∷ rest) =
      ap (λ (k : ExecKind). k ∷ taking others checked (index + 1) next (f ∷ rest)) (taken e (index + 1))
      ∙ ap (λ (ks : List ExecKind). Assigned (access_of names checked e) (taken_as (kind_or_integer (kind_in names e))) (index + 1) ∷ ks) (reads (index + 1) next (f ∷ rest))

  test : (e : RawExpr) (x y : ℕ) (rest : List ExecKind) → Test (resolved others checked e) x y ∷ rest ≡ Test (resolved names checked e) x y ∷ rest
  test e x y rest = ap (λ (v : Expr). Test v x y ∷ rest) (tree e)

  pub own-same : (whole : List Labelled) (place index next : ℕ) (t : Stmt) → own_kinds others checked whole place index next t ≡ own_kinds names checked whole place index next t
  own-same whole place index next (Assign target value) =
      ap (λ (a : Access). Assigned a (resolved others checked value) next ∷ []) (access target) ∙ ap (λ (e : Expr). Assigned (access_of names checked target) e next ∷ []) (tree value)
  own-same whole place index next (Print xs) = ap (λ (ys : List Item). Printed ys next ∷ []) (items xs)
  own-same whole place index next (Take targets) = reads index next targets
  own-same whole place index next (PickGoTo labels e) = ap (λ (v : Expr). Pick v (map (labelled whole) labels) next ∷ []) (tree e)
  own-same whole place index next (SignIf e a b d) = ap (λ (v : Expr). Sign v (labelled whole a) (labelled whole b) (labelled whole d) ∷ []) (tree e)
  own-same whole place index next (ThenIf' condition shape (more_of-Stmt stmt rest)) =
      test condition (index + 1) next (own_kinds others checked whole place (index + 1) next stmt)
      ∙ ap (λ (ks : List ExecKind). Test (resolved names checked condition) (index + 1) next ∷ ks) (own-same whole place (index + 1) next stmt)
  own-same whole place index next (BlockIf e) = test e (met whole (place + 1)) (when_false whole place) []
  own-same whole place index next (ElseIf e) = test e (met whole (place + 1)) (when_false whole place) []
  own-same whole place index next (Do label variable first last by) =
      let number = loop_number whole place in
      let exit = exit_of whole label place in
      ap (λ (k : ℕ). DoStart number k (resolved others checked first) (resolved others checked last) (resolved_step others checked by) (index + 1) exit ∷ []) (same-index names others differ variable)
      ∙ ap (λ (e : Expr). DoStart number (index_of names variable) e (resolved others checked last) (resolved_step others checked by) (index + 1) exit ∷ []) (tree first)
      ∙ ap (λ (e : Expr). DoStart number (index_of names variable) (resolved names checked first) e (resolved_step others checked by) (index + 1) exit ∷ []) (tree last)
      ∙ ap (λ (e : Expr). DoStart number (index_of names variable) (resolved names checked first) (resolved names checked last) e (index + 1) exit ∷ []) (step by)
  own-same whole place index next _ = refl

  pub increments-same : (whole : List Labelled) (place index : ℕ) (ds : List ℕ) → increments others whole place index ds ≡ increments names whole place index ds
  increments-same whole place index [] = refl
  increments-same whole place index (d ∷ outer) =
      ap (λ (k : ℕ). DoNext (loop_number whole d) k (first_of whole d + 1) (exit_after whole place index outer) ∷ increments others whole place (index + 1) outer) (same-index names others differ (variable_of (slice_get whole d)))
      ∙ ap (λ (ks : List ExecKind). DoNext (loop_number whole d) (index_of names (variable_of (slice_get whole d))) (first_of whole d + 1) (exit_after whole place index outer) ∷ ks) (increments-same whole place (index + 1) outer)

-- the executables of statements that are laid out stand one after another
module _ (stmts : List Labelled) (checked : Bool) (p : Program) (source : IsSource stmts) (laid : layout stmts checked ≡ Ok p) (others : List NameInfo) (differ : DifferInPlaces (names_of stmts) others) where
  pub order-own : (place j : ℕ) (s : Labelled) (kind : ExecKind) → slice_get stmts place ≡ Some s → slice_get (own_kinds others checked stmts place (first_of stmts place) (beyond stmts place s) s.stmt) j ≡ Some kind → slice_get p.execs (first_of stmts place + j) ≡ Some (record { line = s.line; kind = kind })
  order-own place j s kind is has =
      own-stand stmts checked p source laid place j s kind is (ap (λ (ks : List ExecKind). slice_get ks j) (sym (own-same (names_of stmts) others differ checked stmts place (first_of stmts place) (beyond stmts place s) s.stmt)) ∙ has)

  pub order-increments : (place j : ℕ) (s : Labelled) (kind : ExecKind) → slice_get stmts place ≡ Some s → slice_get (increments others stmts place (first_of stmts place + own_executables s.stmt) (loops_to stmts s.label)) j ≡ Some kind → slice_get p.execs (first_of stmts place + own_executables s.stmt + j) ≡ Some (record { line = s.line; kind = kind })
  order-increments place j s kind is has =
      increments-stand stmts checked p source laid place j s kind is (ap (λ (ks : List ExecKind). slice_get ks j) (sym (increments-same (names_of stmts) others differ checked stmts place (first_of stmts place + own_executables s.stmt) (loops_to stmts s.label))) ∙ has)
