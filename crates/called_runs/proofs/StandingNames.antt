-- What stands in for a unit has names of the unit alone, and its table says of them what the unit declares.
use Rattle.std.proofs.Common.{◌≡◌, ℕ, ◌+◌, Bool, true, List, [], ◌∷◌, length, get_or, map, flat_map, All, inl, inr, ⊎_elim, refl, sym, ap, subst, ◌∙◌}
use Rattle.std.specs.Prelude.{bytes_eq, nat_lt, ◌≤ℤ◌}
use Rattle.std.specs.Cmp.Lexicographic.{nat_list_eq_equiv}
use Rattle.std.specs.List.{list_any}
use Rattle.std.proofs.lemmas.List.Elements.{All-cons, All-nil, All-weaker}
use Rattle.std.proofs.lemmas.Slice.Eq.{bytes_eq-Decides}
use mathlib.Core.Path.{fun_ext}
use Rattle.list_laws.proofs.Members.{Member-cases, Member-flat_map, Member-flat_mapped, Member-left, Member-mapped, Member-right, list_any_member, member_of_list_any}
use Rattle.list_laws.specs.Member.{Member}
use Rattle.f77_tree.specs.declared.declarations.Dim.{Dim}
use Rattle.f77_tree.specs.declared.programs.NameInfo.{NameInfo}
use Rattle.f77_tree.specs.declared.statements.Labelled.{Labelled}
use Rattle.f77_tree.specs.declared.statements.Stmt.{Stmt, more_of-Stmt}
use Rattle.f77_tree.specs.declared.statements.Stmt.TheVariants.{Program, Implicit, ImplicitNone, TypeOf, Dimension, Common, Equivalence, Init, Assign, Print, Take, Continue, Stop, GoTo, PickGoTo, SignIf, ThenIf', BlockIf, ElseIf, Else, EndIf, Do, Sub, CallTo, Back, End}
use Rattle.f77_tree.specs.Declarations.{IsDim, IsNameInfo}
use Rattle.f77_tree.specs.Value.{size_of}
use Rattle.layout_rules.proofs.NamesOf.{appearing-ThenIf}
use Rattle.layout_rules.specs.Appearances.{all_names, appearing, names_in}
use Rattle.layout_rules.specs.Declarations.{dims_of, is_array}
use Rattle.layout_rules.specs.Layout.{name_info, names_of, placed_from, placed_names, spots_of}
use Rattle.layout_rules.specs.Storage.{Spot}
use Rattle.program_units.proofs.StoredNames.{told-all}
use Rattle.program_units.specs.declared.entity.Entity.{Entity}
use Rattle.program_units.specs.Entities.{stands_for}
use Rattle.program_units.specs.Layouts.{own_program}
use Rattle.program_units.specs.Names.{appearing_here, names_of_unit}
use Rattle.program_units.specs.Storage.{IsOfRun}
use Rattle.program_units.specs.Units.{stand_in, stand_in_alone, standing_in, unit_at}
use Rattle.called_runs.specs.DeclaredNames.{IsDeclaredAs}
use Rattle.called_runs.specs.PairedWords.{IsEntryOf}

-- ---- names that appear

module _ (arrays : List ℕ → Bool) (x : List ℕ) where
  -- those of CALL are names of the unit too
  here-too : (s : Stmt) → Member (appearing arrays s) x → Member (appearing_here arrays s) x
  here-too (CallTo a b) m = absurd m
  here-too (ThenIf' condition shape (more_of-Stmt stmt rest)) m =
      ⊎_elim
      (λ (here : Member (names_in arrays condition) x). Member-left (names_in arrays condition) (appearing_here arrays stmt) x here)
      (λ (there : Member (appearing arrays stmt) x). Member-right (names_in arrays condition) (appearing_here arrays stmt) x (here-too stmt there))
      (Member-cases (names_in arrays condition) (appearing arrays stmt) x m)
  here-too Program m = m
  here-too (Implicit a) m = m
  here-too ImplicitNone m = m
  here-too (TypeOf a b) m = m
  here-too (Dimension a) m = m
  here-too (Common a) m = m
  here-too (Equivalence a) m = m
  here-too (Init a) m = m
  here-too (Assign a b) m = m
  here-too (Print a) m = m
  here-too (Take a) m = m
  here-too Continue m = m
  here-too Stop m = m
  here-too (GoTo a) m = m
  here-too (PickGoTo a b) m = m
  here-too (SignIf a b c d) m = m
  here-too (BlockIf a) m = m
  here-too (ElseIf a) m = m
  here-too Else m = m
  here-too EndIf m = m
  here-too (Do a b c d e) m = m
  here-too (Sub a b) m = m
  here-too Back m = m
  here-too End m = m

  alone : (s : Stmt) → Member (appearing arrays (stand_in_alone s)) x → Member (appearing_here arrays s) x
  alone (Sub a b) m = absurd m
  alone (CallTo a b) m = absurd m
  alone Back m = absurd m
  alone s m = here-too s m

  pub stood : (s : Stmt) → Member (appearing arrays (stand_in s)) x → Member (appearing_here arrays s) x
  stood (ThenIf' condition shape (more_of-Stmt stmt rest)) m =
      ⊎_elim
      (λ (here : Member (names_in arrays condition) x). Member-left (names_in arrays condition) (appearing_here arrays stmt) x here)
      (λ (there : Member (appearing arrays (stand_in_alone stmt)) x). Member-right (names_in arrays condition) (appearing_here arrays stmt) x (alone stmt there))
      (Member-cases (names_in arrays condition) (appearing arrays (stand_in_alone stmt)) x (subst (λ (xs : List (List ℕ)). Member xs x) (appearing-ThenIf arrays condition (stand_in_alone stmt)) m))
  stood s m = alone s m

-- ---- the table of what stands in for a unit

-- an entry of a table of these names
pub record IsNamed (stmts : List Labelled) (names : List (List ℕ)) (info : NameInfo) : Type 0 where
  pub among : Member names info.name
  pub dims : info.dims ≡ dims_of stmts info.name

pub each-named : (stmts : List Labelled) (all : List (List ℕ)) (table : List NameInfo) (spots : List Spot) (k : ℕ) (names : List (List ℕ)) → ((x : List ℕ) → Member names x → Member all x) → All (IsNamed stmts all) (placed_from table spots k (map (name_info stmts) names))
each-named stmts all table spots k [] sub = All-nil (IsNamed stmts all)
each-named stmts all table spots k (x ∷ names) sub =
    All-cons (IsNamed stmts all) _ (placed_from table spots (k + 1) (map (name_info stmts) names)) (record { among = sub x (inl refl); dims = refl }) (each-named stmts all table spots (k + 1) names (λ y m. sub y (inr m)))

pub all-named : (stmts : List Labelled) → All (IsNamed stmts (all_names stmts)) (placed_names stmts)
all-named stmts = each-named stmts (all_names stmts) (names_of stmts) (spots_of stmts) 0 (all_names stmts) (λ x m. m)

module _ (u : List Labelled) (same : (x : List ℕ) → dims_of (standing_in u) x ≡ dims_of u x) where
  pub arrays-same : is_array (standing_in u) ≡ is_array u
  arrays-same = fun_ext (λ x. ap (λ (dims : List Dim). nat_lt 0 (length dims)) (same x))

  pub stood-named : (x : List ℕ) → Member (all_names (standing_in u)) x → list_any (bytes_eq x) (names_of_unit u) ≡ true
  stood-named x m =
      let arrays = is_array (standing_in u) in
      let all = flat_map (λ (s : Labelled). appearing arrays s.stmt) (standing_in u) in
      let met : list_any (bytes_eq x) all ≡ true = sym (told-all x [] all) ∙ list_any_member (bytes_eq x) (all_names (standing_in u)) x m (nat_list_eq_equiv.refl x) in
      let one = member_of_list_any (bytes_eq x) all met in
      let own : x ≡ one.one = (bytes_eq-Decides x one.one).0 one.passes in
      let part = Member-flat_mapped (λ (s : Labelled). appearing arrays s.stmt) (standing_in u) one.one one.among in
      let image = Member-mapped (λ (s : Labelled). record s { stmt = stand_in s.stmt }) u part.origin part.among in
      let s = image.origin in
      let has : Member (appearing arrays (stand_in s.stmt)) one.one = subst (λ (t : Labelled). Member (appearing arrays t.stmt) one.one) (sym image.is) part.has in
      let here : Member (appearing_here (is_array u) s.stmt) x = subst (λ (a : List ℕ → Bool). Member (appearing_here a s.stmt) x) arrays-same (subst (λ (y : List ℕ). Member (appearing_here arrays s.stmt) y) (sym own) (stood arrays one.one s.stmt has)) in
      let whole = flat_map (λ (t : Labelled). appearing_here (is_array u) t.stmt) u in
      told-all x [] whole ∙ list_any_member (bytes_eq x) whole x (Member-flat_map (λ (t : Labelled). appearing_here (is_array u) t.stmt) u s x image.among here) (nat_list_eq_equiv.refl x)

-- ---- entries and entities

module _ (us : List (List Labelled)) (k : ℕ) (arguments : List Entity) (checked : Bool)
    (same : (x : List ℕ) → dims_of (standing_in (unit_at us k)) x ≡ dims_of (unit_at us k) x)
    (run : (x : List ℕ) → list_any (bytes_eq x) (names_of_unit (unit_at us k)) ≡ true → IsOfRun us (stands_for us k arguments x))
    (declared : (x : List ℕ) → IsDeclaredAs us (unit_at us k) x (stands_for us k arguments x)) where
  entry : (info : NameInfo) → IsNameInfo info → IsNamed (standing_in (unit_at us k)) (all_names (standing_in (unit_at us k))) info → IsEntryOf us k arguments info
  entry info is named = record {
    bounds = All-weaker IsDim (λ (dim : Dim). dim.lo ≤ℤ dim.hi) (λ dim bound. bound.order) info.dims is.dimensions.bounds;
    of_run = run info.name (stood-named (unit_at us k) same info.name named.among);
    size = ap size_of (named.dims ∙ same info.name ∙ (declared info.name).dims);
  }

  pub entries : All IsNameInfo (own_program (unit_at us k) checked).names → All (IsEntryOf us k arguments) (own_program (unit_at us k) checked).names
  entries table = λ j d less. entry (get_or (own_program (unit_at us k) checked).names j d) (table j d less) (all-named (standing_in (unit_at us k)) j d less)
