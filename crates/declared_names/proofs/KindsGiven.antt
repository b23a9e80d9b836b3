-- What is known of the kinds that the statements above give, as they are kept.
use Rattle.std.proofs.Common.{◌≡◌, ℕ, ◌+◌, ◌<◌, Bool, true, false, not, ◌&&◌, ◌||◌, ◌==◌, List, [], ◌∷◌, ◌++◌, length, get_or, take, refl, sym, ap, ◌∙◌, add-one, append-nil, arith}
use Rattle.std.specs.Prelude.{flat_map, bytes_eq}
use Rattle.std.specs.List.{list_any}
use Rattle.std.proofs.lemmas.List.Folds.{list_any-append}
use Rattle.std.proofs.lemmas.Grind.{flat_map-append}
use Rattle.std.proofs.Math.Seq.{take-suc}
use Rattle.f77_tree.specs.declared.programs.NameInfo.{NameInfo}
use Rattle.f77_tree.specs.declared.statements.Labelled.{Labelled}
use Rattle.f77_tree.specs.declared.statements.Stmt.{Stmt}
use Rattle.f77_tree.specs.declared.statements.Stmt.TheVariants.{Implicit, ImplicitNone}
use Rattle.declared_names.specs.declared.type_faults.Given.{Given}
use Rattle.layout_rules.specs.Declarations.{is_implicit_none}
use Rattle.layout_rules.specs.Faults.{has_repeat}
use Rattle.layout_rules.specs.Types.{is_well_kinded}
use Rattle.layout_rules.specs.TypeFaults.{typed_names, implied_letters, is_implicit, is_beside_none, has_wrong_type}
use Rattle.declared_names.specs.KindsGiven.{gives_again, GivesMore}

-- what the statements above give
pub record IsGivenBy (above : List Labelled) (given : Given) : Type 0 where
  pub typed : given.typed.keys ≡ flat_map (λ a. typed_names a.stmt) above
  pub implied : given.implied.keys ≡ flat_map (λ a. implied_letters a.stmt) above
  pub implicit : given.has_implicit ≡ list_any (λ a. is_implicit a.stmt) above
  pub none : given.has_none ≡ list_any (λ a. is_implicit_none a.stmt) above

-- ---- IMPLICIT NONE beside another IMPLICIT

none-implicit : (stmt : Stmt) → is_implicit_none stmt ≡ true → is_implicit stmt ≡ true
none-implicit ImplicitNone h = refl
none-implicit (Implicit ranges) h = refl
none-implicit _ h = absurd cc

one-beside : (p q n x y : Bool) → (q ≡ true → p ≡ true) → ((p && (q || n)) || ((n && x) || y)) ≡ ((n && (p || x)) || (q || y))
one-beside p q n x y h = grind (arith, h)

beside : (n : Bool) (above : List Labelled) → list_any (λ a. is_implicit a.stmt && (is_implicit_none a.stmt || n)) above ≡ ((n && list_any (λ a. is_implicit a.stmt) above) || list_any (λ a. is_implicit_none a.stmt) above)
beside true [] = refl
beside false [] = refl
beside n (a ∷ above) =
    ap (λ b. (is_implicit a.stmt && (is_implicit_none a.stmt || n)) || b) (beside n above)
    ∙ one-beside (is_implicit a.stmt) (is_implicit_none a.stmt) n (list_any (λ a. is_implicit a.stmt) above) (list_any (λ a. is_implicit_none a.stmt) above) (none-implicit a.stmt)

-- ---- the fault of a statement below them

pub given-fault : (names : List NameInfo) (above : List Labelled) (given : Given) (s : Labelled) → IsGivenBy above given → has_wrong_type names above s ≡ (gives_again given s.stmt || not (is_well_kinded names s.stmt))
given-fault names above given s is =
    let stmt = s.stmt in
    let typed : has_repeat bytes_eq (flat_map (λ a. typed_names a.stmt) above) (typed_names stmt) ≡ has_repeat bytes_eq given.typed.keys (typed_names stmt) = ap (λ (ks : List (List ℕ)). has_repeat bytes_eq ks (typed_names stmt)) (sym is.typed) in
    let implied : has_repeat (λ a b. a == b) (flat_map (λ a. implied_letters a.stmt) above) (implied_letters stmt) ≡ has_repeat (λ a b. a == b) given.implied.keys (implied_letters stmt) = ap (λ (ks : List ℕ). has_repeat (λ a b. a == b) ks (implied_letters stmt)) (sym is.implied) in
    let implicit : is_beside_none above s ≡ (is_implicit stmt && ((is_implicit_none stmt && given.has_implicit) || given.has_none)) =
    ap (λ b. is_implicit stmt && b) (beside (is_implicit_none stmt) above)
    ∙ ap (λ b. is_implicit stmt && ((is_implicit_none stmt && b) || list_any (λ a. is_implicit_none a.stmt) above)) (sym is.implicit)
    ∙ ap (λ b. is_implicit stmt && ((is_implicit_none stmt && given.has_implicit) || b)) (sym is.none)
    in
    λ i. (typed i || implied i || implicit i || not (is_well_kinded names stmt))

-- ---- one statement more

one_any : (p : Labelled → Bool) (above : List Labelled) (s : Labelled) → list_any p (above ++ s ∷ []) ≡ (list_any p above || p s)
one_any p above s = list_any-append p above (s ∷ []) ∙ grind arith

one_given : {A : Type 0} (f : Labelled → List A) (above : List Labelled) (s : Labelled) → flat_map f (above ++ s ∷ []) ≡ flat_map f above ++ f s
one_given f above s = flat_map-append f above (s ∷ []) ∙ ap (λ xs. flat_map f above ++ xs) (append-nil (f s))

with_one : (above : List Labelled) (s : Labelled) (given after : Given) → IsGivenBy above given → GivesMore given s.stmt after → IsGivenBy (above ++ s ∷ []) after
with_one above s given after is more = record {
  typed = more.typed ∙ ap (λ (ks : List (List ℕ)). ks ++ typed_names s.stmt) is.typed ∙ sym (one_given (λ a. typed_names a.stmt) above s);
  implied = more.implied ∙ ap (λ (ks : List ℕ). ks ++ implied_letters s.stmt) is.implied ∙ sym (one_given (λ a. implied_letters a.stmt) above s);
  implicit = more.implicit ∙ ap (λ b. b || is_implicit s.stmt) is.implicit ∙ sym (one_any (λ a. is_implicit a.stmt) above s);
  none = more.none ∙ ap (λ b. b || is_implicit_none s.stmt) is.none ∙ sym (one_any (λ a. is_implicit_none a.stmt) above s);
}

pub given-next : (stmts : List Labelled) (i : ℕ) (s : Labelled) (given after : Given) → i < length stmts → s ≡ get_or stmts i s → IsGivenBy (take i stmts) given → GivesMore given s.stmt after → IsGivenBy (take (i + 1) stmts) after
given-next stmts i s given after lt is by more = rw (add-one, take-suc stmts i s lt, ← is) (with_one (take i stmts) s given after by more)
