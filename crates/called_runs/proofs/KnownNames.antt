-- The names of a copied statement stand in the list as well, so both tables know them, as the same.
use Rattle.std.proofs.Common.{◌≡◌, ℕ, zero, suc, ◌+◌, ◌==◌, ⊎_elim, Bool, true, false, not, List, [], ◌∷◌, map, Option, Some, None, if◌then◌else◌, refl, sym, ap, subst, ◌∙◌, arith}
use Rattle.std.specs.List.{slice_get}
use Rattle.std.proofs.lemmas.Bool.{and_from, and_parts, cases_Bool, ne_eqb}
use Rattle.list_laws.proofs.Members.{Member-cases}
use Rattle.list_laws.specs.Member.{Member}
use Rattle.f77_tree.specs.declared.declarations.Kind.TheVariants.{Logical}
use Rattle.f77_tree.specs.declared.programs.NameInfo.{NameInfo}
use Rattle.f77_tree.specs.declared.statements.Labelled.{Labelled}
use Rattle.f77_tree.specs.declared.statements.RawExpr.{RawExpr}
use Rattle.f77_tree.specs.declared.statements.Stmt.{Stmt, more_of-Stmt}
use Rattle.f77_tree.specs.declared.statements.Stmt.TheVariants.{TypeOf, Dimension, Common, Equivalence, Init, ThenIf', BlockIf, CallTo, End}
use Rattle.layout_rules.proofs.NamesOf.{appearing-ThenIf}
use Rattle.layout_rules.specs.Appearances.{appearing, names_in}
use Rattle.layout_rules.specs.Declarations.{is_array}
use Rattle.layout_rules.specs.Labels.{is_executable}
use Rattle.layout_rules.specs.Tables.{has_simple_inner, is_simple}
use Rattle.layout_rules.specs.Types.{is_array_in, is_of_kind, is_well_kinded}
use Rattle.unit_laws.proofs.Having.{got}
use Rattle.unit_laws.proofs.Kept.{kept-by}
use Rattle.program_units.specs.Entities.{stands_for}
use Rattle.program_units.specs.Copies.{Context, around, bare, changed, changed_stmt, changes, copy, number_at, piece_by}
use Rattle.program_units.specs.Expansion.{whole_list}
use Rattle.program_units.specs.ListedCopies.{HasAt, piece_at}
use Rattle.program_units.specs.Units.{Call, call_by, call_in, guard_of, is_end, stand_in, stand_in_alone, unit_at, unit_of}
use Rattle.program_units.specs.Widths.{body_labels, is_kept}
use Rattle.called_runs.proofs.PlainNames.{plain-kinds, plain-names}
use Rattle.called_runs.proofs.ShownStatements.{Does, of-kind, shown-stmt}

-- ---- statements that do something

simple-does : (s : Stmt) → is_simple (stand_in_alone s) ≡ true → Does s
simple-does (TypeOf a b) is = let e : false ≡ true = is in absurd cc
simple-does (Dimension a) is = let e : false ≡ true = is in absurd cc
simple-does (Common a) is = let e : false ≡ true = is in absurd cc
simple-does (Equivalence a) is = let e : false ≡ true = is in absurd cc
simple-does (Init a) is = let e : false ≡ true = is in absurd cc
simple-does (ThenIf' a b (more_of-Stmt c d)) is = let e : false ≡ true = is in absurd cc
simple-does s is = tt

pub executable-does : (s : Stmt) → is_executable s ≡ true → has_simple_inner (stand_in s) ≡ true → Does s
unfolding Rattle.f77_tree.specs.declared.statements.Stmt.TheBlock.hidden-the_row-Stmt-0 denote.Hole.Carrier.hidden
executable-does (TypeOf a b) is inner = let e : false ≡ true = is in absurd cc
executable-does (Dimension a) is inner = let e : false ≡ true = is in absurd cc
executable-does (Common a) is inner = let e : false ≡ true = is in absurd cc
executable-does (Equivalence a) is inner = let e : false ≡ true = is in absurd cc
executable-does (Init a) is inner = let e : false ≡ true = is in absurd cc
executable-does (ThenIf' a b (more_of-Stmt stmt d)) is inner = simple-does stmt inner
executable-does s is inner = tt

-- ---- where a name stands in the list

pub record IsInList (list : List Labelled) (y : List ℕ) : Type 0 where
  pub place : ℕ
  pub statement : Labelled
  pub stands : slice_get list place ≡ Some statement
  pub appears : Member (appearing (is_array list) statement.stmt) y

module _ (us : List (List Labelled)) (c : Context) (names : List NameInfo) (arrays : (x : List ℕ) → is_array (unit_at us c.unit) x ≡ is_array_in names x) (x : List ℕ)
    (kept : is_array (unit_at us c.unit) x ≡ true → is_array (whole_list us) ((changes us c).name x) ≡ true) where
  abbrev list : List Labelled
  list = whole_list us

  abbrev new : List ℕ
  new = (changes us c).name x

  -- of a statement without a CALL
  in-copy : (at label line : ℕ) (s : Stmt) → HasAt list at (bare label line (changed_stmt (changes us c) s) ∷ []) → Does s → is_well_kinded names (stand_in s) ≡ true → Member (appearing (is_array (unit_at us c.unit)) (stand_in s)) x → IsInList list new
  in-copy at label line s has does kinds m = record {
    place = at + 0;
    statement = bare label line (changed_stmt (changes us c) s);
    stands = got list (bare label line (changed_stmt (changes us c) s) ∷ []) at 0 (bare label line (changed_stmt (changes us c) s)) has refl;
    appears = shown-stmt names (changes us c) (is_array list) arrays x kept s does (sym (plain-kinds names s) ∙ kinds) (plain-names (is_array (unit_at us c.unit)) x s m);
  }

  -- of the condition of a CALL
  in-guard : (at a b line : ℕ) (condition : RawExpr) (body : List Labelled) → HasAt list at (around (changes us c) a b line (Some condition) body) → is_of_kind names Logical condition ≡ true → Member (names_in (is_array (unit_at us c.unit)) condition) x → IsInList list new
  in-guard at a b line condition body has kind m = record {
    place = at + 1;
    statement = bare 0 line (BlockIf (changed (changes us c) condition));
    stands = got list (around (changes us c) a b line (Some condition) body) at 1 (bare 0 line (BlockIf (changed (changes us c) condition))) has refl;
    appears = of-kind names (changes us c) (is_array list) arrays x kept Logical condition kind m;
  }

  no-names : (s : Stmt) (call : Call) → call_by s ≡ Some call → Member (appearing (is_array (unit_at us c.unit)) (stand_in_alone s)) x → ⊥
  no-names (CallTo a b) call is m = absurd m
  no-names s call is m = let e : None ≡ Some call = is in absurd cc

  guarded : (s : Stmt) (call : Call) (at a b line : ℕ) (body : List Labelled) → call_in s ≡ Some call → HasAt list at (around (changes us c) a b line (guard_of s) body) → is_well_kinded names s ≡ true → Member (appearing (is_array (unit_at us c.unit)) (stand_in s)) x → IsInList list new
  guarded (CallTo f xs) call at a b line body is has kinds m = absurd m
  guarded (ThenIf' condition shape (more_of-Stmt stmt rest)) call at a b line body is has kinds m =
      let arrays_here = is_array (unit_at us c.unit) in
      ⊎_elim
      (λ (here : Member (names_in arrays_here condition) x). in-guard at a b line condition body has (and_parts (is_of_kind names Logical condition) (is_well_kinded names stmt) kinds).0 here)
      (λ (later : Member (appearing arrays_here (stand_in_alone stmt)) x). absurd (no-names stmt call is later))
      (Member-cases (names_in arrays_here condition) (appearing arrays_here (stand_in_alone stmt)) x (subst (λ (ns : List (List ℕ)). Member ns x) (appearing-ThenIf arrays_here condition (stand_in_alone stmt)) m))
  guarded s call at a b line body is has kinds m = let e : None ≡ Some call = is in absurd cc

  by-call : (s : Labelled) (at m : ℕ) (o : Option Call) → call_in s.stmt ≡ o → HasAt list at (piece_by (copy us c.depth) us c m s o) → Does s.stmt → is_well_kinded names (stand_in s.stmt) ≡ true → Member (appearing (is_array (unit_at us c.unit)) (stand_in s.stmt)) x → IsInList list new
  by-call s at m None is has does kinds among = in-copy at (if s.label == 0 then 0 else m) s.line s.stmt has does kinds among
  by-call s at m (Some call) is has does kinds among =
      guarded s.stmt call at m (m + body_labels us c.depth (unit_of us call.name) + 1) s.line (copy us c.depth (unit_of us call.name) (map (stands_for us c.unit c.arguments) call.arguments) m) is has (sym (plain-kinds names s.stmt) ∙ kinds) among

  end-none : (s : Stmt) → is_end s ≡ true → Member (appearing (is_array (unit_at us c.unit)) (stand_in s)) x → ⊥
  end-none End is m = absurd m
  end-none s is m = let e : false ≡ true = is in absurd cc

  kept-there : (s : Stmt) → is_executable s ≡ true → Member (appearing (is_array (unit_at us c.unit)) (stand_in s)) x → is_kept c.unit s ≡ true
  kept-there s does m = by (c.unit) refl
    where
      by : (k : ℕ) → c.unit ≡ k → is_kept c.unit s ≡ true
      by zero is = ap (λ (k : ℕ). is_kept k s) is
      by (suc k) is = ⊎_elim
          (λ (end : is_end s ≡ true). absurd (end-none s end m))
          (λ (no_end : is_end s ≡ false). ap (λ (n : ℕ). is_kept n s) is ∙ kept-by (suc k) s (ne_eqb (suc k) 0 (λ (e : suc k ≡ 0). omega (arith, e))) ∙ and_from (not (is_end s)) (is_executable s) (ap not no_end) does)
          (cases_Bool (is_end s))

  pub in-list : (at : ℕ → ℕ) (place : ℕ) (s : Labelled) → HasAt list (at place) (piece_at us c place s) → is_executable s.stmt ≡ true → has_simple_inner (stand_in s.stmt) ≡ true → is_well_kinded names (stand_in s.stmt) ≡ true → Member (appearing (is_array (unit_at us c.unit)) (stand_in s.stmt)) x → IsInList list new
  in-list at place s has does inner kinds m =
      let number = number_at us c.depth c.unit c.base place in
      by-call s (at place) number (call_in s.stmt) refl (subst (λ (b : Bool). HasAt list (at place) (if b then piece_by (copy us c.depth) us c number s (call_in s.stmt) else [])) (kept-there s.stmt does m) has) (executable-does s.stmt does inner) kinds m
