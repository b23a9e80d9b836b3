-- Loads whose values a firing leaves as they were.
use Rattle.std.proofs.Common.{◌≡◌, ◌<◌, ◌+◌, inl, inr, ℕ, ℤ, ◌==◌, ◌&&◌, ◌||◌, Bool, true, false, not, List, [], ◌∷◌, length, Option, is_some, refl, sym, ap, ◌∙◌, subst}
use Rattle.std.specs.List.{list_all}
use Rattle.std.proofs.lemmas.Bool.{eq-eqb, ne_eqb}
use Rattle.list_laws.specs.Member.{Member}
use Rattle.list_laws.proofs.Members.{list_any_member}
use Rattle.firing.specs.Footprints.{IsReadyAt, SharesFootprints}
use Rattle.firing.specs.Moves.{CanFire}
use Rattle.firing.specs.declared.system.NodeName.{NodeName}
use Rattle.firing.specs.declared.system.NodeName.TheVariants.{Act, Merge, Switch, Op}
use Rattle.alias_classes.specs.Classes.{ClassTable}
use Rattle.net_board.specs.Footprints.{Line}
use Rattle.op_board.specs.Operations.{Operand, Known, From}
use Rattle.op_board.specs.OperationFootprints.{Given, Token, foot_as, is_giver}
use Rattle.op_board.specs.OperationNets.{OperationNet, all_operation_nodes, first_operation, operation_at, operation_node}
use Rattle.op_board.specs.OperationTokens.{givers, is_given, value_at, value_of}
use Rattle.op_board.proofs.OperationFirings.{FiringFacts}
use Rattle.op_board.proofs.OperationLaws.{firing_facts}
use Rattle.op_board.proofs.OperationNumbers.{IsOperationNamed, one_operation_number, operation_named}
use Rattle.op_board.proofs.OperationsApart.{same_taker}
use Rattle.operation_tables.specs.Waits.{goes_through}
use Rattle.fork_board.specs.ForkFootprints.{Rest, fork_foot, fork_part_at, fork_shares, fork_update}
use Rattle.fork_board.specs.ForkTokens.{ForkTokens, fork_moves, is_load_node}
use Rattle.fork_board.specs.SoundForks.{ForksCanCome}
use Rattle.fork_board.proofs.ForkFirings.{both_ways}
use Rattle.fork_board.proofs.ForkNodes.{IsLoadNamed, load_named}
use Rattle.fork_board.proofs.ForksFooted.{forks_footed}
use Rattle.read_forks.specs.Retests.{takes}
use Rattle.read_forks.specs.WaitingLoads.{has_values}

-- ---- tests of lists

pub same_all : {A : Type 0} (one other : A → Bool) (xs : List A) → ((a : A) → Member xs a → one a ≡ other a) → list_all one xs ≡ list_all other xs
same_all one other [] same = refl
same_all one other (a ∷ xs) same = ap (λ b. b && list_all one xs) (same a (inl refl)) ∙ ap (λ b. other a && b) (same_all one other xs (λ c among. same c (inr among)))

giver_of_operand : (x : OperationNet) (piece : ℕ) (operands : List Operand) (number : ℕ) → Member operands (From number) → Member (givers x piece operands) (first_operation x piece + number)
giver_of_operand x piece [] number among = absurd among
giver_of_operand x piece (Known z ∷ operands) number (inl e) = let e : Known z ≡ From number = e in absurd cc
giver_of_operand x piece (Known z ∷ operands) number (inr among) = giver_of_operand x piece operands number among
giver_of_operand x piece (From other ∷ operands) number (inl e) = let same : other ≡ number = cc in inl (ap (λ n. first_operation x piece + n) same)
giver_of_operand x piece (From other ∷ operands) number (inr among) = inr (giver_of_operand x piece operands number among)

-- ---- parts of nodes

foot_given : (x : OperationNet) (c : ClassTable) (k g : ℕ) (name : NodeName) → (k ≡ g → ⊥) → takes x name g ≡ false → foot_as x c k name (Given g) ≡ false
foot_given x c k g (Op piece i) differ not = ap (λ b. b || is_giver x piece i g) (ne_eqb k g differ) ∙ not
foot_given x c k g (Switch piece line) differ not = refl
foot_given x c k g (Merge piece line) differ not = refl
foot_given x c k g (Act piece) differ not = refl

pub foot_through : (x : OperationNet) (c : ClassTable) (k line : ℕ) (name : NodeName) → foot_as x c k name (Token (Line line)) ≡ goes_through x name line
foot_through x c k line (Op piece i) = refl
foot_through x c k line (Switch piece own) = refl
foot_through x c k line (Merge piece own) = refl
foot_through x c k line (Act piece) = refl

-- ---- values

module _ (x : OperationNet) (m : ForkTokens) (comes : ForksCanCome x m) (k : ℕ) (can : CanFire (fork_moves x) m k) where
  abbrev classes : ClassTable
  classes = comes.is_net.is_net.classes

  abbrev facts : FiringFacts x classes
  facts = firing_facts comes.ground x comes.is_net

  abbrev then_is : ForkTokens
  then_is = (fork_moves x).fired m k

  abbrev name : NodeName
  name = operation_node x k

  footed : SharesFootprints (ForksCanCome x) (fork_moves x) fork_part_at (fork_foot x classes) (fork_shares x classes) (fork_update x)
  footed = forks_footed comes.ground x comes.is_net facts

  ready_now : IsReadyAt (ForksCanCome x) (fork_moves x) m k
  ready_now = record { is_sound = comes; node = can.node; ready = can.ready }

  named : IsOperationNamed x name
  named = operation_named x k can.node

  same_value : (g : ℕ) → (k ≡ g → ⊥) → takes x name g ≡ false → value_at then_is.operations g ≡ value_at m.operations g
  same_value g differ not = ap value_of (footed.outside m k ready_now (Rest (Given g)) (foot_given x classes k g name differ not))

  -- the load is another node, and neither takes the value of the other one
  module _ (j p i : ℕ) (below : j < length (all_operation_nodes x)) (own_name : operation_node x j ≡ Op p i) (differ : k ≡ j → ⊥) (takes_not : is_giver x p i k ≡ false) (gives_not : takes x name j ≡ false) where
    own_named : IsOperationNamed x (Op p i)
    own_named = subst (λ a. IsOperationNamed x a) own_name (operation_named x j below)

    -- no other node takes what it takes
    one_takes : (g : ℕ) → is_giver x p i g ≡ true → (n : NodeName) → name ≡ n → takes x n g ≡ false
    one_takes g gives (Op q s) is = by (is_giver x q s g) refl
      where
        by : (b : Bool) → is_giver x q s g ≡ b → is_giver x q s g ≡ false
        by true too =
            let same : Op q s ≡ Op p i = same_taker comes.ground x comes.is_net.is_net facts.touched q s p i g (subst (λ a. IsOperationNamed x a) is named) own_named too gives in
            absurd (differ (one_operation_number x k j can.node below (is ∙ same ∙ sym own_name)))
        by false not = not
    one_takes g gives (Switch piece line) is = refl
    one_takes g gives (Merge piece line) is = refl
    one_takes g gives (Act piece) is = refl

    same_operand : (o : Operand) → Member (operation_at x p i).operands o → is_given x then_is.operations p o ≡ is_given x m.operations p o
    same_operand (Known z) among = refl
    same_operand (From number) among =
        let g = first_operation x p + number in
        let gives : is_giver x p i g ≡ true = list_any_member (λ giver. giver == g) (givers x p (operation_at x p i).operands) g (giver_of_operand x p (operation_at x p i).operands number among) (eq-eqb g g refl) in
        ap is_some (same_value g (λ same. both_ways (is_giver x p i g) gives (subst (λ n. is_giver x p i n ≡ false) same takes_not)) (one_takes g gives name refl))

    same_values : has_values x then_is.operations j (Op p i) ≡ has_values x m.operations j (Op p i)
    same_values =
        ap (λ b. b && not (is_some (value_at then_is.operations j))) (same_all (is_given x then_is.operations p) (is_given x m.operations p) (operation_at x p i).operands same_operand)
        ∙ ap (λ (v : Option ℤ). list_all (is_given x m.operations p) (operation_at x p i).operands && not (is_some v)) (same_value j differ gives_not)

  pub far_values : (j : ℕ) → j < length (all_operation_nodes x) → is_load_node x (operation_node x j) ≡ true → (k ≡ j → ⊥) → takes x (operation_node x j) k ≡ false → takes x name j ≡ false
      → has_values x then_is.operations j (operation_node x j) ≡ has_values x m.operations j (operation_node x j)
  far_values j below loads differ takes_not gives_not =
      let l : IsLoadNamed x (operation_node x j) = load_named x (operation_node x j) loads in
      ap (has_values x then_is.operations j) l.is
      ∙ same_values j l.piece l.number below l.is differ (sym (ap (λ n. takes x n k) l.is) ∙ takes_not) gives_not
      ∙ sym (ap (has_values x m.operations j) l.is)
