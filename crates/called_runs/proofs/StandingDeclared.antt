-- What stands in for a unit declares what the unit does.
use Rattle.std.proofs.Common.{◌≡◌, ℕ, Bool, ◌||◌, List, [], ◌∷◌, ◌++◌, flat_map, Option, refl, sym, ap, ◌∙◌}
use Rattle.std.specs.Prelude.{slice_index}
use Rattle.std.specs.List.{list_any}
use Rattle.std.proofs.lemmas.List.Concat.{flat_map-cons}
use Rattle.f77_tree.specs.declared.declarations.Decl.{Decl}
use Rattle.f77_tree.specs.declared.declarations.InitPart.{InitPart}
use Rattle.f77_tree.specs.declared.declarations.Kind.{Kind}
use Rattle.f77_tree.specs.declared.statements.Labelled.{Labelled}
use Rattle.f77_tree.specs.declared.statements.Stmt.{Stmt, more_of-Stmt}
use Rattle.f77_tree.specs.declared.statements.Stmt.TheVariants.{Program, Implicit, ImplicitNone, TypeOf, Dimension, Common, Equivalence, Init, Assign, Print, Take, Continue, Stop, GoTo, PickGoTo, SignIf, ThenIf', BlockIf, ElseIf, Else, EndIf, Do, Sub, CallTo, Back, End}
use Rattle.layout_rules.specs.Declarations.{all_declarators, all_inits, declarators, dims_told, dims_or_none, inits_of, is_implicit_none, kind_by_default, kind_implied, kind_of, kind_typed}
use Rattle.layout_rules.specs.Faults.{answer_or, first_answer}
use Rattle.called_runs.specs.DeclaredNames.{AreDeclaredAlike}
use Rattle.program_units.specs.Units.{stand_in, standing_in}

-- what a statement tells of a name
record Told : Type 0 where
  decls : List Decl
  typed : Option Kind
  implied : Option Kind
  none : Bool
  inits : List InitPart

abbrev told : (x : List ℕ) → Stmt → Told
told x s = record { decls = declarators s; typed = kind_typed x s; implied = kind_implied (slice_index x 0) s; none = is_implicit_none s; inits = inits_of s }

module _ (x : List ℕ) where
  told-same : (s : Stmt) → told x (stand_in s) ≡ told x s
  told-same Program = refl
  told-same (Implicit a) = refl
  told-same ImplicitNone = refl
  told-same (TypeOf a b) = refl
  told-same (Dimension a) = refl
  told-same (Common a) = refl
  told-same (Equivalence a) = refl
  told-same (Init a) = refl
  told-same (Assign a b) = refl
  told-same (Print a) = refl
  told-same (Take a) = refl
  told-same Continue = refl
  told-same Stop = refl
  told-same (GoTo a) = refl
  told-same (PickGoTo a b) = refl
  told-same (SignIf a b c d) = refl
  told-same (ThenIf' a b (more_of-Stmt c d)) = refl
  told-same (BlockIf a) = refl
  told-same (ElseIf a) = refl
  told-same Else = refl
  told-same EndIf = refl
  told-same (Do a b c d e) = refl
  told-same (Sub a b) = refl
  told-same (CallTo a b) = refl
  told-same Back = refl
  told-same End = refl

  answers-same : {A : Type 0} (f : Stmt → Option A) → ((s : Stmt) → f (stand_in s) ≡ f s) → (u : List Labelled) → first_answer (λ s. f s.stmt) (standing_in u) ≡ first_answer (λ s. f s.stmt) u
  answers-same f same [] = refl
  answers-same f same (s ∷ u) = ap (λ o. answer_or o (first_answer (λ a. f a.stmt) (standing_in u))) (same s.stmt) ∙ ap (answer_or (f s.stmt)) (answers-same f same u)

  none-same : (u : List Labelled) → list_any (λ s. is_implicit_none s.stmt) (standing_in u) ≡ list_any (λ s. is_implicit_none s.stmt) u
  none-same [] = refl
  none-same (s ∷ u) =
      ap (λ (b : Bool). b || list_any (λ s. is_implicit_none s.stmt) (standing_in u)) (ap (λ (t : Told). t.none) (told-same s.stmt)) ∙ ap (λ (b : Bool). is_implicit_none s.stmt || b) (none-same u)

  declarators-same : (u : List Labelled) → all_declarators (standing_in u) ≡ all_declarators u
  declarators-same [] = refl
  declarators-same (s ∷ u) =
      flat_map-cons (λ (a : Labelled). declarators a.stmt) (record s { stmt = stand_in s.stmt }) (standing_in u)
      ∙ ap (λ (decls : List Decl). decls ++ all_declarators (standing_in u)) (ap (λ (t : Told). t.decls) (told-same s.stmt))
      ∙ ap (λ (decls : List Decl). declarators s.stmt ++ decls) (declarators-same u)
      ∙ sym (flat_map-cons (λ (a : Labelled). declarators a.stmt) s u)

  kinds-same : (u : List Labelled) → kind_of (standing_in u) x ≡ kind_of u x
  kinds-same u =
      let letter = slice_index x 0 in
      let typed = answers-same (kind_typed x) (λ s. ap (λ (t : Told). t.typed) (told-same s)) u in
      let implied = answers-same (kind_implied letter) (λ s. ap (λ (t : Told). t.implied) (told-same s)) u in
      ap (λ (o : Option Kind). answer_or o (answer_or (first_answer (λ s. kind_implied letter s.stmt) (standing_in u)) (kind_by_default (list_any (λ s. is_implicit_none s.stmt) (standing_in u)) letter))) typed
      ∙ ap (λ (o : Option Kind). answer_or (first_answer (λ s. kind_typed x s.stmt) u) (answer_or o (kind_by_default (list_any (λ s. is_implicit_none s.stmt) (standing_in u)) letter))) implied
      ∙ ap (λ (b : Bool). answer_or (first_answer (λ s. kind_typed x s.stmt) u) (answer_or (first_answer (λ s. kind_implied letter s.stmt) u) (kind_by_default b letter))) (none-same u)

  pub standing-declared : (u : List Labelled) → AreDeclaredAlike (standing_in u) u x x
  standing-declared u = record { kinds = kinds-same u; dims = ap (λ (decls : List Decl). dims_or_none (first_answer (dims_told x) decls)) (declarators-same u) }

-- ---- storage

module _ {X : Type 0} (f : Stmt → List X) (same : (s : Stmt) → f (stand_in s) ≡ f s) where
  of-same : (u : List Labelled) → flat_map (λ (s : Labelled). f s.stmt) (standing_in u) ≡ flat_map (λ (s : Labelled). f s.stmt) u
  of-same [] = refl
  of-same (s ∷ u) = ap (λ (xs : List X). xs ++ flat_map (λ (t : Labelled). f t.stmt) (standing_in u)) (same s.stmt) ∙ ap (λ (xs : List X). f s.stmt ++ xs) (of-same u)

pub inits-same : (u : List Labelled) → all_inits (standing_in u) ≡ all_inits u
inits-same u = of-same inits_of (λ s. ap (λ (t : Told). t.inits) (told-same [] s)) u
