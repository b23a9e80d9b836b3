-- A line stands before a load exactly where it is open for it.
use Rattle.std.proofs.Common.{◌≡◌, ℕ, ◌+◌, ◌==◌, ◌&&◌, Bool, true, false, not, List, [], ◌∷◌, Option, Some, None, refl, sym, ap, ◌∙◌, arith}
use Rattle.std.proofs.lemmas.Bool.{ne_eqb}
use Rattle.std.specs.List.{list_all}
use Rattle.net_board.specs.Tokens.{edge_of}
use Rattle.op_board.specs.OperationNets.{OperationNet}
use Rattle.op_board.specs.OperationTokens.{OperationTokens, passed_by}
use Rattle.operation_tables.specs.Waits.{failing, one_if}
use Rattle.fork_board.specs.ForkTokens.{Standing, is_open, is_open_on, standing}
use Rattle.fork_board.specs.LoadGroups.{group_at, is_among, spot}
use Rattle.read_forks.specs.LoadChanges.{Loaded}
use Rattle.read_forks.specs.LoadedGroups.{is_near_on}
use Rattle.read_forks.specs.OpenGroups.{AreOpenNear, marking_by}

module _ (x : OperationNet) (m : OperationTokens) (opened : Loaded) (near : AreOpenNear x m opened) (line piece number : ℕ) where
  abbrev here : Standing
  here = standing (marking_by x m opened) line

  pub open_is : is_open x line piece number here ≡ opened line piece number
  open_is = ap (is_open_on x line piece number here) refl ∙ by (edge_of m.tokens line) refl
    where
      nowhere : (o : Bool) → (o ≡ true → false ≡ true) → false ≡ o
      nowhere true none = absurd (let e : false ≡ true = none refl in absurd cc)
      nowhere false none = refl

      there : (among o : Bool) → (o ≡ true → among ≡ true) → (among && not (among && not o)) ≡ o
      there true true is = refl
      there true false is = refl
      there false true is = let e : false ≡ true = is refl in absurd cc
      there false false is = refl

      by : (edge : Option ℕ) → edge_of m.tokens line ≡ edge → is_open_on x line piece number here edge ≡ opened line piece number
      by None at = nowhere (opened line piece number) (λ is. sym (ap (is_near_on x line piece number (passed_by m line)) at) ∙ near line piece number is)
      by (Some edge) at =
          ap (λ b. is_among (group_at x line (spot edge (passed_by m line))) piece number && not (b && not (opened line piece number))) (ap (is_near_on x line piece number (passed_by m line)) at)
          ∙ there (is_among (group_at x line (spot edge (passed_by m line))) piece number) (opened line piece number) (λ is. sym (ap (is_near_on x line piece number (passed_by m line)) at) ∙ near line piece number is)

-- no line is closed where all are open
pub none_closed : (passes : ℕ → Bool) (lines : List ℕ) → (failing passes lines == 0) ≡ list_all passes lines
none_closed passes [] = refl
none_closed passes (line ∷ lines) = both (passes line) (failing passes lines) (list_all passes lines) (none_closed passes lines)
  where
    both : (b : Bool) (n : ℕ) (rest : Bool) → (n == 0) ≡ rest → ((one_if (not b) + n) == 0) ≡ (b && rest)
    both true n rest is = let e : 0 + n ≡ n = omega arith in ap (λ (k : ℕ). k == 0) e ∙ is
    both false n rest is = ne_eqb (1 + n) 0 (λ e. let f : 1 + n ≡ 0 = e in absurd (omega (arith, f)))

module _ (x : OperationNet) (m : OperationTokens) (opened : Loaded) (near : AreOpenNear x m opened) (piece number : ℕ) where
  pub all_open : (lines : List ℕ) → list_all (λ line. is_open x line piece number (standing (marking_by x m opened) line)) lines ≡ list_all (λ line. opened line piece number) lines
  all_open [] = refl
  all_open (line ∷ lines) =
      ap (λ b. b && list_all (λ l. is_open x l piece number (standing (marking_by x m opened) l)) lines) (open_is x m opened near line piece number)
      ∙ ap (λ b. opened line piece number && b) (all_open lines)
