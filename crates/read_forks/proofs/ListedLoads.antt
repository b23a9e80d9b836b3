-- The loads that are looked up of nodes: those whose values a node takes, and the one that takes its value.
use Rattle.std.proofs.Common.{◌≡◌, ◌<◌, ◌≤◌, ℕ, ◌+◌, true, false, List, Option, Some, None, slice_get, sym, ap, ◌∙◌, eqb-true}
use Rattle.std.specs.List.{range_with_len}
use Rattle.list_laws.proofs.Members.{IsPassed, Member-in_range, member_of_list_any}
use Rattle.firing.specs.declared.system.NodeName.TheVariants.{Op}
use Rattle.op_board.specs.OperationNets.{OperationNet, operation_node}
use Rattle.fork_board.specs.ForkTokens.{is_load_node}
use Rattle.fork_board.proofs.ForkNodes.{IsLoadNamed, load_named}
use Rattle.read_forks.specs.NodeLinks.{IsStep, is_listed, is_that}
use Rattle.read_forks.specs.declared.steps.Link.{Link}
use Rattle.read_forks.specs.declared.steps.Step.{Step}

-- the place at which a node is listed
pub record IsListedAt (giver : ℕ) (listed : List ℕ) (first count : ℕ) : Type 0 where
  pub place : ℕ
  pub from : first ≤ place
  pub below : place < first + count
  pub at : slice_get listed place ≡ Some giver

pub listed_place : (giver : ℕ) (listed : List ℕ) (first count : ℕ) → is_listed giver listed first count ≡ true → IsListedAt giver listed first count
listed_place giver listed first count is =
    let p : IsPassed (λ n. is_that giver (slice_get listed n)) (range_with_len first count) = member_of_list_any (λ n. is_that giver (slice_get listed n)) (range_with_len first count) is in
    let r = Member-in_range first count p.one p.among in
    record { place = p.one; from = r.0; below = r.1; at = there (slice_get listed p.one) p.passes }
  where
    there : (o : Option ℕ) → is_that giver o ≡ true → o ≡ Some giver
    there None e = let f : false ≡ true = e in absurd cc
    there (Some other) e = ap (λ (n : ℕ). Some n) (eqb-true other giver e)

-- the name of a load, as it is looked up
pub load_step : (x : OperationNet) (links : List Link) (j : ℕ) (step : Step) → IsStep x links j step → is_load_node x (operation_node x j) ≡ true → operation_node x j ≡ Op step.piece step.number
load_step x links j step is loads =
    let l : IsLoadNamed x (operation_node x j) = load_named x (operation_node x j) loads in
    let told = is.named l.piece l.number l.is in
    l.is ∙ (λ n. Op (sym told.0 n) (sym told.1 n))
