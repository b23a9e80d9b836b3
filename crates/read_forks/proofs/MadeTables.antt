-- One node more in the tables, as code appends it.
use Rattle.std.proofs.Common.{◌≡◌, ◌<◌, ◌≤◌, inl, inr, ℕ, zero, suc, ◌+◌, ◌^◌, Bool, true, false, cond, get_or, List, [], ◌∷◌, ◌++◌, length, map, filter, take, Option, Some, None, slice_get, refl, sym, ap, ◌∙◌, subst, append-nil, arith}
use Rattle.std.proofs.lemmas.List.{append_assoc, length-append, length-map}
use Rattle.firing.specs.ReadySet.{has}
use Rattle.firing.specs.declared.system.NodeName.{NodeName}
use Rattle.firing.specs.declared.system.NodeName.TheVariants.{Act, Merge, Op, Switch}
use Rattle.op_board.specs.Operations.{Operand, Known, From}
use Rattle.op_board.specs.OperationNets.{OperationNet, first_operation, needed, operation_at, operation_node}
use Rattle.op_board.proofs.OperationNumbers.{IsOperationNamed, operation_named}
use Rattle.op_net.specs.ApartLoads.{giver_of}
use Rattle.operation_tables.specs.Waits.{node_total}
use Rattle.fork_board.specs.ForkTokens.{is_load_node}
use Rattle.read_forks.specs.MadeSteps.{AreTablesBelow, load_givers, new_link_of}
use Rattle.read_forks.specs.NodeLinks.{AreValueLoads, IsLoadTaker, is_turn, linked_lines, turn_step}
use Rattle.read_forks.specs.Retests.{takes}
use Rattle.read_forks.specs.declared.steps.Link.{Link}
use Rattle.read_forks.specs.declared.steps.Step.{Step}
use Rattle.read_forks.proofs.MadeGivers.{among_exists, among_loads, load_among, no_load_taker, no_values, values_more}
use Rattle.read_forks.proofs.MadeLinks.{needed_rise, no_steps, steps_more, turn_not, turn_steps_more}
use Rattle.read_forks.proofs.TestedLoads.{mapped}

-- ---- a node that is no operation

module _ (x : OperationNet) (n : ℕ) (steps : List Step) (links : List Link) (listed : List ℕ) (made : AreTablesBelow x n steps links listed) (turns : is_turn (operation_node x n) ≡ true) where
  takes_none : (name : NodeName) (k : ℕ) → is_turn name ≡ true → takes x name k ≡ true → ⊥
  takes_none (Op p i) k is taken = absurd cc
  takes_none (Switch p l) k is taken = absurd cc
  takes_none (Merge p l) k is taken = absurd cc
  takes_none (Act p) k is taken = absurd cc

  pub turn_more : (new_steps : List Step) → new_steps ≡ steps ++ turn_step ∷ [] → node_total x < 2 ^ 32 → AreTablesBelow x (n + 1) new_steps links listed
  turn_more new_steps grown few =
      subst (λ (ss : List Step). AreTablesBelow x (n + 1) ss links listed) (sym grown) (record {
        steps_made = turn_steps_more x n steps links made.steps_made turns;
        values = subst (λ (gs : List ℕ). AreValueLoads x (steps ++ turn_step ∷ []) gs) (append-nil listed)
            (values_more x n steps listed made.steps_made.all made.values turn_step []
            (λ k below load taken. absurd (takes_none (operation_node x n) k turns taken))
            (λ k among. absurd among)
            (λ k among. absurd among)
            (inl refl)
            (omega arith)
            (omega arith)
            (no_load_taker x n (λ p i is. absurd (turn_not (operation_node x n) turns p i is)) turn_step.taker (omega (arith, few)))
            (λ below. absurd (omega (arith, below, few))));
      })

-- ---- an operation

module _ (x : OperationNet) (n : ℕ) (steps : List Step) (links : List Link) (listed : List ℕ) (made : AreTablesBelow x n steps links listed) (low : n < node_total x) (step : Step) (new_steps : List Step) (new_links : List Link) (grown : new_steps ≡ steps ++ step ∷ []) (first : step.first ≡ length links) where
  module _ (piece i : ℕ) (name : operation_node x n ≡ Op piece i) where
    named : IsOperationNamed x (Op piece i)
    named = subst (λ (a : NodeName). IsOperationNamed x a) name (operation_named x n low)

    pub operation_more : (new_listed : List ℕ) → step.piece ≡ piece → step.number ≡ i → step.loads ≡ is_load_node x (operation_node x n) → step.turns ≡ false → new_links ≡ links ++ map (new_link_of n) (needed x piece i) → step.first + step.count ≡ length new_links
        → new_listed ≡ listed ++ load_givers x piece (operation_at x piece i).operands → step.giver ≡ length listed → step.giver + step.givers ≡ length new_listed → IsLoadTaker x n step.taker → (step.taker < node_total x → is_load_node x (operation_node x step.taker) ≡ true) → AreTablesBelow x (n + 1) new_steps new_links new_listed
    operation_more new_listed of_piece of_number loads turns longer end more giver giver_end taker taker_loads =
        let lines : List ℕ = needed x piece i in
        let these : List ℕ = load_givers x piece (operation_at x piece i).operands in
        let long : length new_links ≡ length links + length lines = ap length longer ∙ length-append links (map (new_link_of n) lines) ∙ ap (λ (l : ℕ). length links + l) (length-map lines (new_link_of n)) in
        let long_listed : length new_listed ≡ length listed + length these = ap length more ∙ length-append listed these in
        subst (λ (ss : List Step). AreTablesBelow x (n + 1) ss new_links new_listed) (sym grown)
        (subst (λ (ls : List Link). AreTablesBelow x (n + 1) (steps ++ step ∷ []) ls new_listed) (sym longer)
        (subst (λ (gs : List ℕ). AreTablesBelow x (n + 1) (steps ++ step ∷ []) (links ++ map (new_link_of n) lines) gs) (sym more) (record {
          steps_made = steps_more x n steps links made.steps_made step lines low (ap (linked_lines x) name) (needed_rise x piece i) same_name loads (turns ∙ sym (ap is_turn name)) first (omega (arith, first, end, long));
          values = values_more x n steps listed made.steps_made.all made.values step these
              (λ k below load taken. load_among x piece i named.exists named.fits.2 k load (sym (ap (λ (a : NodeName). takes x a k) name) ∙ taken))
              (λ k among. among_loads x piece i named.exists named.fits.2 k among)
              (λ k among. among_exists x piece i named.exists named.fits.2 k among)
              (inr giver)
              (omega (arith, giver, giver_end, long_listed))
              (omega (arith, giver))
              taker
              taker_loads;
        })))
      where
        same_name : (p q : ℕ) → operation_node x n ≡ Op p q → (step.piece ≡ p) × (step.number ≡ q)
        same_name p q is =
            let both : Op piece i ≡ Op p q = sym name ∙ is in
            let e : piece ≡ p = cc in
            let f : i ≡ q = cc in
            (of_piece ∙ e, of_number ∙ f)

pub no_tables : (x : OperationNet) (steps : List Step) (links : List Link) (listed : List ℕ) → steps ≡ [] → links ≡ [] → listed ≡ [] → AreTablesBelow x 0 steps links listed
no_tables x steps links listed none nothing empty = record { steps_made = no_steps x steps links none nothing; values = no_values x steps listed none empty }

-- ---- lists that grow one by one

one_more : (j : ℕ) → suc j ≡ j + 1
one_more j = omega arith

-- the lines up to one more
pub mapped_more : {A B : Type 0} (f : A → B) (old now new : List B) (xs : List A) (j : ℕ) (a : A) (b : B) → slice_get xs j ≡ Some a → b ≡ f a → now ≡ old ++ map f (take j xs) → new ≡ now ++ b ∷ [] → new ≡ old ++ map f (take (j + 1) xs)
mapped_more {A} {B} f old now new xs j a b at is so grown =
    grown ∙ ap (λ (bs : List B). bs ++ b ∷ []) so ∙ append_assoc old (map f (take j xs)) (b ∷ []) ∙ ap (λ (bs : List B). old ++ bs) (ends xs j at) ∙ ap (λ (n : ℕ). old ++ map f (take n xs)) (one_more j)
  where
    ends : (ys : List A) (k : ℕ) → slice_get ys k ≡ Some a → map f (take k ys) ++ b ∷ [] ≡ map f (take (suc k) ys)
    ends [] k e = absurd cc
    ends (y ∷ ys) zero e = let g : y ≡ a = cc in ap (λ (c : B). c ∷ []) (is ∙ sym (ap f g))
    ends (y ∷ ys) (suc k) e = ap (λ (bs : List B). f y ∷ bs) (ends ys k e)

-- the loads among the operands up to one more
module _ (x : OperationNet) (piece : ℕ) where
  abbrev loads_one : ℕ → Bool
  loads_one k = is_load_node x (operation_node x k)

  givers_next : (operands : List Operand) (j : ℕ) (operand : Operand) → slice_get operands j ≡ Some operand → load_givers x piece (take (suc j) operands) ≡ load_givers x piece (take j operands) ++ load_givers x piece (operand ∷ [])
  givers_next [] j operand at = absurd cc
  givers_next (o ∷ operands) zero operand at = let e : o ≡ operand = cc in ap (λ (p : Operand). load_givers x piece (p ∷ [])) e
  givers_next (Known z ∷ operands) (suc j) operand at = givers_next operands j operand at
  givers_next (From number ∷ operands) (suc j) operand at = by (loads_one (first_operation x piece + number)) (givers_next operands j operand at)
    where
      by : (b : Bool) → load_givers x piece (take (suc j) operands) ≡ load_givers x piece (take j operands) ++ load_givers x piece (operand ∷ [])
          → cond b ((first_operation x piece + number) ∷ load_givers x piece (take (suc j) operands)) (load_givers x piece (take (suc j) operands)) ≡ cond b ((first_operation x piece + number) ∷ load_givers x piece (take j operands)) (load_givers x piece (take j operands)) ++ load_givers x piece (operand ∷ [])
      by true so = ap (λ (gs : List ℕ). (first_operation x piece + number) ∷ gs) so
      by false so = so

  -- there are no more than operands
  pub load_few : (operands : List Operand) → length (load_givers x piece operands) ≤ length operands
  load_few [] = omega arith
  load_few (Known z ∷ operands) = let few = load_few operands in omega (arith, few)
  load_few (From number ∷ operands) = by (loads_one (first_operation x piece + number)) (load_few operands)
    where
      by : (b : Bool) → length (load_givers x piece operands) ≤ length operands → length (cond b ((first_operation x piece + number) ∷ load_givers x piece operands) (load_givers x piece operands)) ≤ suc (length operands)
      by true few = omega (arith, few)
      by false few = omega (arith, few)

  pub givers_more : (operands : List Operand) (j : ℕ) (operand : Operand) (old now new : List ℕ) → slice_get operands j ≡ Some operand → now ≡ old ++ load_givers x piece (take j operands) → new ≡ now ++ load_givers x piece (operand ∷ []) → new ≡ old ++ load_givers x piece (take (j + 1) operands)
  givers_more operands j operand old now new at so grown =
      grown
      ∙ ap (λ (gs : List ℕ). gs ++ load_givers x piece (operand ∷ [])) so
      ∙ append_assoc old (load_givers x piece (take j operands)) (load_givers x piece (operand ∷ []))
      ∙ sym (ap (λ (gs : List ℕ). old ++ gs) (givers_next operands j operand at))
      ∙ ap (λ (n : ℕ). old ++ load_givers x piece (take n operands)) (one_more j)

  -- one operand
  pub giver_of_one : (operand : Operand) (number k : ℕ) (flags : List Bool) (old new : List ℕ) → giver_of operand ≡ Some number → k ≡ first_operation x piece + number → has flags k ≡ loads_one k → new ≡ old ++ filter (has flags) (k ∷ []) → new ≡ old ++ load_givers x piece (operand ∷ [])
  giver_of_one (Known z) number k flags old new told is same grown = absurd cc
  giver_of_one (From other) number k flags old new told is same grown =
      let e : number ≡ other = cc in
      grown
      ∙ ap (λ b. old ++ cond b (k ∷ []) []) same
      ∙ ap (λ (m : ℕ). old ++ filter loads_one (m ∷ [])) (is ∙ ap (λ (o : ℕ). first_operation x piece + o) e)

  pub no_giver_of_one : (operand : Operand) (old : List ℕ) → giver_of operand ≡ None → old ≡ old ++ load_givers x piece (operand ∷ [])
  no_giver_of_one (Known z) old told = sym (append-nil old)
  no_giver_of_one (From other) old told = absurd cc

  -- what is told of the operand
  pub told_of : (operands : List Operand) (j : ℕ) (operand : Operand) (o : Option ℕ) → slice_get operands j ≡ Some operand → slice_get (map giver_of operands) j ≡ Some o → giver_of operand ≡ o
  told_of operands j operand o at told = let e : Some (giver_of operand) ≡ Some o = sym (mapped giver_of operands j operand at) ∙ told in cc

-- the flag that is read there
pub flag_read : (flags : List Bool) (k : ℕ) (b : Bool) → k < length flags → b ≡ get_or flags k b → has flags k ≡ b
flag_read [] k b inside read = absurd (omega (arith, inside))
flag_read (f ∷ flags) zero b inside read = sym read
flag_read (f ∷ flags) (suc k) b inside read = flag_read flags k b (omega (arith, inside)) read
