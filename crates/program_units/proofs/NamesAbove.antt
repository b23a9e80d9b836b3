-- Names of subroutines, met statement by statement.
use Rattle.std.proofs.Common.{◌≡◌, ℕ, ◌+◌, ◌<◌, Bool, true, false, ◌||◌, List, [], ◌∷◌, ◌++◌, length, get_or, take, drop, Option, Some, None, not, refl, sym, ap, ◌∙◌, append-nil, arith}
use Rattle.std.specs.Prelude.{bytes_eq, option_to_list}
use Rattle.std.specs.List.{list_any}
use Rattle.std.proofs.lemmas.List.{take_all, take_more}
use Rattle.f77_tree.specs.declared.statements.Labelled.{Labelled}
use Rattle.layout_rules.specs.Faults.{first_line, first_after}
use Rattle.layout_rules.proofs.FirstLine.{first_after-next, first_after-end}
use Rattle.program_units.specs.Units.{Call, call_in, is_named, is_sub_of, sub_name}
use Rattle.program_units.specs.Refusals.{AreSubNames, is_one_of, is_told, is_sub_again, lacks_sub, lacks_sub_of, lacks_told}

or-step : (b u v w : Bool) → u ≡ (v || w) → (b || u) ≡ ((b || v) || w)
or-step true u v w same = refl
or-step false u v w same = same

pub or-none : (b : Bool) → (b || false) ≡ b
or-none true = refl
or-none false = refl

pub any-push : {X : Type 0} (p : X → Bool) (xs : List X) (y : X) → list_any p (xs ++ y ∷ []) ≡ (list_any p xs || p y)
any-push p [] y = or-none (p y)
any-push p (x ∷ xs) y = or-step (p x) (list_any p (xs ++ y ∷ [])) (list_any p xs) (p y) (any-push p xs y)

any-named : (x : List ℕ) (names : List (List ℕ)) (name : Option (List ℕ)) → list_any (bytes_eq x) (names ++ option_to_list name) ≡ (list_any (bytes_eq x) names || is_named x name)
any-named x names None = ap (list_any (bytes_eq x)) (append-nil names) ∙ sym (or-none (list_any (bytes_eq x) names))
any-named x names (Some name) = any-push (bytes_eq x) names name

-- the names of the subroutines above a statement
pub record AreAbove (stmts : List Labelled) (i : ℕ) (names : List (List ℕ)) : Type 0 where
  pub first : first_line is_sub_again stmts ≡ first_after is_sub_again (take i stmts) (drop i stmts)
  pub same : (x : List ℕ) → list_any (bytes_eq x) names ≡ list_any (is_sub_of x) (take i stmts)

module _ (stmts : List Labelled) (i : ℕ) (names : List (List ℕ)) (above : AreAbove stmts i names) where
  told-is : (name : Option (List ℕ)) → is_told names name ≡ is_one_of name (take i stmts)
  told-is None = refl
  told-is (Some name) = above.same name

  pub again-is : (s : Labelled) → is_told names (sub_name s.stmt) ≡ is_sub_again (take i stmts) s
  again-is s = told-is (sub_name s.stmt)

  pub names-more : (s : Labelled) → i < length stmts → s ≡ get_or stmts i s → is_sub_again (take i stmts) s ≡ false → AreAbove stmts (i + 1) (names ++ option_to_list (sub_name s.stmt))
  names-more s inside stands no_fault = record {
    first = above.first ∙ first_after-next is_sub_again stmts i s inside stands no_fault;
    same = λ x.
        any-named x names (sub_name s.stmt)
        ∙ ap (λ (b : Bool). b || is_named x (sub_name s.stmt)) (above.same x)
        ∙ sym (any-push (is_sub_of x) (take i stmts) s)
        ∙ ap (list_any (is_sub_of x)) (sym (take_more stmts i s inside ∙ ap (λ (a : Labelled). take i stmts ++ a ∷ []) (sym stands)));
  }

pub names-all : (stmts : List Labelled) (names : List (List ℕ)) → AreAbove stmts (length stmts) names → (first_line is_sub_again stmts ≡ None) × AreSubNames stmts names
names-all stmts names above =
    let whole : take (length stmts) stmts ≡ stmts = take_all (length stmts) stmts (omega arith) in
    (above.first ∙ first_after-end is_sub_again stmts (length stmts) (omega arith), record { same = λ x. above.same x ∙ ap (list_any (is_sub_of x)) whole })

lacking-by : (whole : List Labelled) (names : List (List ℕ)) → AreSubNames whole names → (call : Option Call) → lacks_told names call ≡ lacks_sub_of whole call
lacking-by whole names are None = refl
lacking-by whole names are (Some call) = ap not (are.same call.name)

pub lacking-is : (whole : List Labelled) (names : List (List ℕ)) → AreSubNames whole names → (above : List Labelled) (s : Labelled) → lacks_told names (call_in s.stmt) ≡ lacks_sub whole above s
lacking-is whole names are above s = lacking-by whole names are (call_in s.stmt)
