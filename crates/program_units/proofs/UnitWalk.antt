-- The order of units, found statement by statement.
use Rattle.std.proofs.Common.{◌≡◌, ℕ, ◌+◌, ◌-◌, ◌<◌, Bool, true, false, not, ◌&&◌, ◌||◌, List, [], ◌∷◌, ◌++◌, length, get_or, take, drop, Some, refl, sym, ap, ◌∙◌, arith, length-append}
use Rattle.std.specs.List.{list_any, slice_get}
use Rattle.std.specs.Option.{is_some}
use Rattle.std.proofs.lemmas.List.{take_more}
use Rattle.f77_tree.specs.declared.statements.Labelled.{Labelled}
use Rattle.layout_rules.specs.Faults.{first_line, first_after}
use Rattle.layout_rules.proofs.FirstLine.{first_after-next}
use Rattle.program_units.specs.Units.{is_end, is_return, inner, sub_name}
use Rattle.program_units.specs.Refusals.{differ, is_end_at, follows_end, is_out_of_unit}

abbrev ends : Labelled → Bool
ends s = is_end s.stmt

last_of : (xs : List Labelled) (s : Labelled) → slice_get (xs ++ s ∷ []) (length xs) ≡ Some s
last_of [] s = refl
last_of (x ∷ xs) s = last_of xs s

pub follows-push : (xs : List Labelled) (s : Labelled) → follows_end (xs ++ s ∷ []) ≡ ends s
follows-push xs s =
    let place : length (xs ++ s ∷ []) - 1 ≡ length xs = let e = length-append xs (s ∷ []) in omega (arith, e) in
    ap (λ (n : ℕ). is_end_at (slice_get (xs ++ s ∷ []) n)) place ∙ ap is_end_at (last_of xs s)

none-step : (b u v w : Bool) → not u ≡ (not v && w) → not (b || u) ≡ (not (b || v) && w)
none-step true u v w same = refl
none-step false u v w same = same

none-last : (b : Bool) → not (b || false) ≡ (true && not b)
none-last true = refl
none-last false = refl

none-push : (xs : List Labelled) (s : Labelled) → not (list_any ends (xs ++ s ∷ [])) ≡ (not (list_any ends xs) && not (ends s))
none-push [] s = none-last (ends s)
none-push (x ∷ xs) s = none-step (ends x) (list_any ends (xs ++ s ∷ [])) (list_any ends xs) (not (ends s)) (none-push xs s)

-- what is known above a statement
pub record IsAbove (stmts : List Labelled) (i : ℕ) (after_end in_main : Bool) : Type 0 where
  pub first : first_line is_out_of_unit stmts ≡ first_after is_out_of_unit (take i stmts) (drop i stmts)
  pub end : follows_end (take i stmts) ≡ after_end
  pub main : not (list_any ends (take i stmts)) ≡ in_main

pub above-none : (stmts : List Labelled) → IsAbove stmts 0 false true
above-none stmts = record { first = refl; end = refl; main = refl }

module _ (stmts : List Labelled) (i : ℕ) (after_end in_main : Bool) (above : IsAbove stmts i after_end in_main) (s : Labelled) where
  pub fault-is : is_out_of_unit (take i stmts) s ≡ (differ after_end (is_some (sub_name s.stmt)) || (in_main && is_return (inner s.stmt)))
  fault-is =
      ap (λ (b : Bool). differ b (is_some (sub_name s.stmt)) || (not (list_any ends (take i stmts)) && is_return (inner s.stmt))) above.end
      ∙ ap (λ (b : Bool). differ after_end (is_some (sub_name s.stmt)) || (b && is_return (inner s.stmt))) above.main

  pub above-more : i < length stmts → s ≡ get_or stmts i s → is_out_of_unit (take i stmts) s ≡ false → IsAbove stmts (i + 1) (ends s) (in_main && not (ends s))
  above-more inside stands no_fault =
      let more : take (i + 1) stmts ≡ take i stmts ++ s ∷ [] = take_more stmts i s inside ∙ ap (λ (x : Labelled). take i stmts ++ x ∷ []) (sym stands) in
      record {
        first = above.first ∙ first_after-next is_out_of_unit stmts i s inside stands no_fault;
        end = ap follows_end more ∙ follows-push (take i stmts) s;
        main = ap (λ (xs : List Labelled). not (list_any ends xs)) more ∙ none-push (take i stmts) s ∙ ap (λ (b : Bool). b && not (ends s)) above.main;
      }
