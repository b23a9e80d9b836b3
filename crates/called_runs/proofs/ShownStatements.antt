-- The names of a statement stand in its copy, as the change of names makes them.
use Rattle.std.proofs.Common.{◌≡◌, ℕ, inl, inr, ⊎_elim, Bool, true, false, not, ◌&&◌, List, [], ◌∷◌, ◌++◌, flat_map, map, Option, Some, None, refl, sym, ap, subst}
use Rattle.std.specs.List.{list_all}
use Rattle.std.specs.Option.{is_some}
use Rattle.std.proofs.lemmas.Bool.{and_parts}
use Rattle.list_laws.proofs.Members.{Member-cases, Member-left, Member-right}
use Rattle.list_laws.specs.Member.{Member}
use Rattle.f77_tree.specs.declared.declarations.Kind.{Kind}
use Rattle.f77_tree.specs.declared.declarations.Kind.TheVariants.{Integer, Logical}
use Rattle.f77_tree.specs.declared.programs.NameInfo.{NameInfo}
use Rattle.f77_tree.specs.declared.statements.RawExpr.{RawExpr}
use Rattle.f77_tree.specs.declared.statements.RawItem.{RawItem}
use Rattle.f77_tree.specs.declared.statements.RawItem.TheVariants.{Value, Chars}
use Rattle.f77_tree.specs.declared.statements.Stmt.{Stmt, more_of-Stmt}
use Rattle.f77_tree.specs.declared.statements.Stmt.TheVariants.{Program, Implicit, ImplicitNone, TypeOf, Dimension, Common, Equivalence, Init, Assign, Print, Take, Continue, Stop, GoTo, PickGoTo, SignIf, ThenIf', BlockIf, ElseIf, Else, EndIf, Do, Sub, CallTo, Back, End}
use Rattle.layout_rules.proofs.NamesOf.{appearing-ThenIf}
use Rattle.layout_rules.specs.Appearances.{appearing, names_if_any, names_in, names_in_item}
use Rattle.layout_rules.specs.Types.{is_array_in, is_item, is_kind, is_kind_of_target, is_of_kind, is_step, is_target, is_variable, is_well_kinded, kind_in, kind_named}
use Rattle.program_units.specs.Copies.{Change, changed, changed_item, changed_step, changed_stmt}
use Rattle.called_runs.proofs.ShownNames.{has-kind, shown}

-- no declaration, alone or after a condition
abbrev pub Does : Stmt → Type 0
Does (TypeOf kind decls) = ⊥
Does (Dimension decls) = ⊥
Does (Common parts) = ⊥
Does (Equivalence groups) = ⊥
Does (Init parts) = ⊥
Does (ThenIf' condition shape (more_of-Stmt stmt rest)) = Does stmt
Does s = Unit {0}

target-kinds : (a b : Option Kind) → is_kind_of_target a b ≡ true → (is_some a ≡ true) × (is_some b ≡ true)
target-kinds None b is = let e : false ≡ true = is in absurd cc
target-kinds (Some kind) b is = (refl, has-kind kind b is)

in-both : (x y : List ℕ) (xs ys new_xs new_ys : List (List ℕ)) → (Member xs x → Member new_xs y) → (Member ys x → Member new_ys y) → Member (xs ++ ys) x → Member (new_xs ++ new_ys) y
in-both x y xs ys new_xs new_ys first second m = ⊎_elim (λ (here : Member xs x). Member-left new_xs new_ys y (first here)) (λ (later : Member ys x). Member-right new_xs new_ys y (second later)) (Member-cases xs ys x m)

module _ (names : List NameInfo) (c : Change) (there : List ℕ → Bool) (arrays : (x : List ℕ) → c.arrays x ≡ is_array_in names x) (x : List ℕ) (kept : c.arrays x ≡ true → there (c.name x) ≡ true) where
  pub of-kind : (kind : Kind) (e : RawExpr) → is_of_kind names kind e ≡ true → Member (names_in c.arrays e) x → Member (names_in there (changed c e)) (c.name x)
  of-kind kind e is m = shown names c there arrays x kept e (has-kind kind (kind_in names e) is) m

  items : (xs : List RawItem) → list_all (is_item names) xs ≡ true → Member (flat_map (names_in_item c.arrays) xs) x → Member (flat_map (names_in_item there) (map (changed_item c) xs)) (c.name x)
  items [] is m = absurd m
  items (Value e ∷ xs) is m =
      let parts = and_parts (is_some (kind_in names e)) (list_all (is_item names) xs) is in
      in-both x (c.name x) (names_in c.arrays e) (flat_map (names_in_item c.arrays) xs) (names_in there (changed c e)) (flat_map (names_in_item there) (map (changed_item c) xs)) (shown names c there arrays x kept e parts.0) (items xs parts.1) m
  items (Chars text ∷ xs) is m = items xs (and_parts true (list_all (is_item names) xs) is).1 m

  targets : (es : List RawExpr) → list_all (is_target names) es ≡ true → Member (flat_map (names_in c.arrays) es) x → Member (flat_map (names_in there) (map (changed c) es)) (c.name x)
  targets [] is m = absurd m
  targets (e ∷ es) is m =
      let parts = and_parts (is_target names e) (list_all (is_target names) es) is in
      let kind = (and_parts (is_variable names e) (is_some (kind_in names e)) parts.0).1 in
      in-both x (c.name x) (names_in c.arrays e) (flat_map (names_in c.arrays) es) (names_in there (changed c e)) (flat_map (names_in there) (map (changed c) es)) (shown names c there arrays x kept e kind) (targets es parts.1) m

  step-shown : (o : Option RawExpr) → is_step names o ≡ true → Member (names_if_any c.arrays o) x → Member (names_if_any there (changed_step c o)) (c.name x)
  step-shown None is m = absurd m
  step-shown (Some e) is m = of-kind Integer e is m

  pub shown-stmt : (s : Stmt) → Does s → is_well_kinded names s ≡ true → Member (appearing c.arrays s) x → Member (appearing there (changed_stmt c s)) (c.name x)
  shown-stmt (Assign target value) does is m =
      let parts = and_parts (is_variable names target) (is_kind_of_target (kind_in names target) (kind_in names value)) is in
      let kinds = target-kinds (kind_in names target) (kind_in names value) parts.1 in
      in-both x (c.name x) (names_in c.arrays target) (names_in c.arrays value) (names_in there (changed c target)) (names_in there (changed c value)) (shown names c there arrays x kept target kinds.0) (shown names c there arrays x kept value kinds.1) m
  shown-stmt (Print xs) does is m = items xs is m
  shown-stmt (Take es) does is m = targets es is m
  shown-stmt (PickGoTo labels e) does is m = of-kind Integer e is m
  shown-stmt (SignIf e a b d) does is m = of-kind Integer e is m
  shown-stmt (ThenIf' condition shape (more_of-Stmt stmt rest)) does is m =
      let parts = and_parts (is_of_kind names Logical condition) (is_well_kinded names stmt) is in
      subst (λ (xs : List (List ℕ)). Member xs (c.name x)) (sym (appearing-ThenIf there (changed c condition) (changed_stmt c stmt)))
      (in-both x (c.name x) (names_in c.arrays condition) (appearing c.arrays stmt) (names_in there (changed c condition)) (appearing there (changed_stmt c stmt)) (of-kind Logical condition parts.0) (shown-stmt stmt does parts.1) m)
  shown-stmt (BlockIf e) does is m = of-kind Logical e is m
  shown-stmt (ElseIf e) does is m = of-kind Logical e is m
  shown-stmt (Do label variable first last step) does is m =
      let scalar = not (is_array_in names variable) && is_kind Integer (Some (kind_named names variable)) in
      let one = and_parts ((scalar && is_of_kind names Integer first) && is_of_kind names Integer last) (is_step names step) is in
      let two = and_parts (scalar && is_of_kind names Integer first) (is_of_kind names Integer last) one.0 in
      let three = and_parts scalar (is_of_kind names Integer first) two.0 in
      let firsts = names_in c.arrays first in
      let lasts = names_in c.arrays last in
      let steps = names_if_any c.arrays step in
      let new_firsts = names_in there (changed c first) in
      let new_lasts = names_in there (changed c last) in
      let new_steps = names_if_any there (changed_step c step) in
      ⊎_elim
      (λ (same : variable ≡ x). inl (ap c.name same))
      (λ (later : Member (firsts ++ lasts ++ steps) x). inr
      (in-both x (c.name x) (firsts ++ lasts) steps (new_firsts ++ new_lasts) new_steps
      (λ front. in-both x (c.name x) firsts lasts new_firsts new_lasts (of-kind Integer first three.1) (of-kind Integer last two.1) front)
      (step-shown step one.1) later))
      m
  shown-stmt (TypeOf a b) does is m = absurd does
  shown-stmt (Dimension a) does is m = absurd does
  shown-stmt (Common a) does is m = absurd does
  shown-stmt (Equivalence a) does is m = absurd does
  shown-stmt (Init a) does is m = absurd does
  shown-stmt Program does is m = absurd m
  shown-stmt (Implicit a) does is m = absurd m
  shown-stmt ImplicitNone does is m = absurd m
  shown-stmt Continue does is m = absurd m
  shown-stmt Stop does is m = absurd m
  shown-stmt (GoTo a) does is m = absurd m
  shown-stmt Else does is m = absurd m
  shown-stmt EndIf does is m = absurd m
  shown-stmt (Sub a b) does is m = absurd m
  shown-stmt (CallTo a b) does is m = absurd m
  shown-stmt Back does is m = absurd m
  shown-stmt End does is m = absurd m
