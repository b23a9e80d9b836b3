-- The names in a CALL and in the condition before it appear in the statement.
use Rattle.std.proofs.Common.{◌≡◌, ℕ, Bool, List, Contains, Some, None, sym, subst}
use Rattle.std.proofs.lemmas.List.Elements.{Contains-append_left, Contains-append_right}
use Rattle.f77_tree.specs.declared.statements.RawExpr.{RawExpr}
use Rattle.f77_tree.specs.declared.statements.Stmt.{Stmt, more_of-Stmt}
use Rattle.f77_tree.specs.declared.statements.Stmt.TheVariants.{Program, Implicit, ImplicitNone, TypeOf, Dimension, Common, Equivalence, Init, Assign, Print, Take, Continue, Stop, GoTo, PickGoTo, SignIf, ThenIf', BlockIf, ElseIf, Else, EndIf, Do, Sub, CallTo, Back, End}
use Rattle.layout_rules.specs.Appearances.{names_in}
use Rattle.program_units.specs.Units.{Call, call_by, call_in, guard_of}
use Rattle.program_units.specs.Names.{appearing_here}

module _ (arrays : List ℕ → Bool) where
  abbrev Has : Stmt → List (List ℕ) → Type 0
  Has s xs = (x : List ℕ) → Contains xs x → Contains (appearing_here arrays s) x

  none : (s : Stmt) (call : Call) → None ≡ Some call → Has s call.arguments
  none s call e = absurd cc

  call-by-names : (s : Stmt) (call : Call) → call_by s ≡ Some call → Has s call.arguments
  call-by-names (CallTo name arguments) call e = λ x is.
      let own : Call = record { name = name; arguments = arguments } in
      let h : Some own ≡ Some call = e in
      let same : own ≡ call = cc in
      subst (λ (c : Call). Contains c.arguments x) (sym same) is
  call-by-names Program call e = none Program call e
  call-by-names (Implicit a) call e = none (Implicit a) call e
  call-by-names ImplicitNone call e = none ImplicitNone call e
  call-by-names (TypeOf a b) call e = none (TypeOf a b) call e
  call-by-names (Dimension a) call e = none (Dimension a) call e
  call-by-names (Common a) call e = none (Common a) call e
  call-by-names (Equivalence a) call e = none (Equivalence a) call e
  call-by-names (Init a) call e = none (Init a) call e
  call-by-names (Assign a b) call e = none (Assign a b) call e
  call-by-names (Print a) call e = none (Print a) call e
  call-by-names (Take a) call e = none (Take a) call e
  call-by-names Continue call e = none Continue call e
  call-by-names Stop call e = none Stop call e
  call-by-names (GoTo a) call e = none (GoTo a) call e
  call-by-names (PickGoTo a b) call e = none (PickGoTo a b) call e
  call-by-names (SignIf a b c d) call e = none (SignIf a b c d) call e
  call-by-names (ThenIf' a b c) call e = none (ThenIf' a b c) call e
  call-by-names (BlockIf a) call e = none (BlockIf a) call e
  call-by-names (ElseIf a) call e = none (ElseIf a) call e
  call-by-names Else call e = none Else call e
  call-by-names EndIf call e = none EndIf call e
  call-by-names (Do a b c d g) call e = none (Do a b c d g) call e
  call-by-names (Sub a b) call e = none (Sub a b) call e
  call-by-names Back call e = none Back call e
  call-by-names End call e = none End call e

  pub call-names : (s : Stmt) (call : Call) → call_in s ≡ Some call → Has s call.arguments
  call-names (ThenIf' condition shape (more_of-Stmt stmt rest)) call e = λ x is. Contains-append_right (names_in arrays condition) (appearing_here arrays stmt) x (call-by-names stmt call e x is)
  call-names (CallTo name arguments) call e = call-by-names (CallTo name arguments) call e
  call-names Program call e = none Program call e
  call-names (Implicit a) call e = none (Implicit a) call e
  call-names ImplicitNone call e = none ImplicitNone call e
  call-names (TypeOf a b) call e = none (TypeOf a b) call e
  call-names (Dimension a) call e = none (Dimension a) call e
  call-names (Common a) call e = none (Common a) call e
  call-names (Equivalence a) call e = none (Equivalence a) call e
  call-names (Init a) call e = none (Init a) call e
  call-names (Assign a b) call e = none (Assign a b) call e
  call-names (Print a) call e = none (Print a) call e
  call-names (Take a) call e = none (Take a) call e
  call-names Continue call e = none Continue call e
  call-names Stop call e = none Stop call e
  call-names (GoTo a) call e = none (GoTo a) call e
  call-names (PickGoTo a b) call e = none (PickGoTo a b) call e
  call-names (SignIf a b c d) call e = none (SignIf a b c d) call e
  call-names (BlockIf a) call e = none (BlockIf a) call e
  call-names (ElseIf a) call e = none (ElseIf a) call e
  call-names Else call e = none Else call e
  call-names EndIf call e = none EndIf call e
  call-names (Do a b c d g) call e = none (Do a b c d g) call e
  call-names (Sub a b) call e = none (Sub a b) call e
  call-names Back call e = none Back call e
  call-names End call e = none End call e

  no_guard : (s : Stmt) (condition : RawExpr) → None ≡ Some condition → Has s (names_in arrays condition)
  no_guard s condition e = absurd cc

  pub guard-names : (s : Stmt) (condition : RawExpr) → guard_of s ≡ Some condition → Has s (names_in arrays condition)
  guard-names (ThenIf' own shape (more_of-Stmt stmt rest)) condition e = λ x is.
      let h : Some own ≡ Some condition = e in
      let same : own ≡ condition = cc in
      Contains-append_left (names_in arrays own) (appearing_here arrays stmt) x (subst (λ (c : RawExpr). Contains (names_in arrays c) x) (sym same) is)
  guard-names (CallTo a b) condition e = no_guard (CallTo a b) condition e
  guard-names Program condition e = no_guard Program condition e
  guard-names (Implicit a) condition e = no_guard (Implicit a) condition e
  guard-names ImplicitNone condition e = no_guard ImplicitNone condition e
  guard-names (TypeOf a b) condition e = no_guard (TypeOf a b) condition e
  guard-names (Dimension a) condition e = no_guard (Dimension a) condition e
  guard-names (Common a) condition e = no_guard (Common a) condition e
  guard-names (Equivalence a) condition e = no_guard (Equivalence a) condition e
  guard-names (Init a) condition e = no_guard (Init a) condition e
  guard-names (Assign a b) condition e = no_guard (Assign a b) condition e
  guard-names (Print a) condition e = no_guard (Print a) condition e
  guard-names (Take a) condition e = no_guard (Take a) condition e
  guard-names Continue condition e = no_guard Continue condition e
  guard-names Stop condition e = no_guard Stop condition e
  guard-names (GoTo a) condition e = no_guard (GoTo a) condition e
  guard-names (PickGoTo a b) condition e = no_guard (PickGoTo a b) condition e
  guard-names (SignIf a b c d) condition e = no_guard (SignIf a b c d) condition e
  guard-names (BlockIf a) condition e = no_guard (BlockIf a) condition e
  guard-names (ElseIf a) condition e = no_guard (ElseIf a) condition e
  guard-names Else condition e = no_guard Else condition e
  guard-names EndIf condition e = no_guard EndIf condition e
  guard-names (Do a b c d g) condition e = no_guard (Do a b c d g) condition e
  guard-names (Sub a b) condition e = no_guard (Sub a b) condition e
  guard-names Back condition e = no_guard Back condition e
  guard-names End condition e = no_guard End condition e
