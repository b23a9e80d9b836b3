-- What stays as it was where nets of operations change but for what is told here.
use Rattle.std.proofs.Common.{◌≡◌, ◌<◌, ℕ, Bool, List, refl, sym, ap, ◌∙◌, subst, arith}
use Rattle.firing.specs.ReadySet.{has}
use Rattle.op_board.specs.OperationNets.{OperationNet, operation_node}
use Rattle.op_board.specs.OperationTokens.{OperationTokens}
use Rattle.op_net.specs.ApartLoads.{KeepsApart, apart_of}
use Rattle.op_net.specs.NetView.{net_of as net_in}
use Rattle.operation_tables.specs.Waits.{node_total}
use Rattle.op_net.specs.declared.net.OpNet.{OpNet}
use Rattle.fork_board.specs.ForkTokens.{is_load_node}
use Rattle.read_forks.specs.KeptLoads.{AreKept}
use Rattle.read_forks.specs.MarkedNets.{AreLoadsApart}
use Rattle.read_forks.specs.WaitingLoads.{IsRemarked}
use Rattle.read_forks.specs.declared.waiting.Waiting.{Waiting}

module _ {W : ℕ} where
  -- ---- loads are led apart

  pub apart_too : (old new : OpNet W) → net_in new ≡ net_in old → apart_of new ≡ apart_of old → AreLoadsApart old → AreLoadsApart new
  apart_too old new net apart are = λ k below.
      ap (λ (flags : List Bool). has flags k) apart
      ∙ are k (subst (λ (y : OperationNet). k < node_total y) net below)
      ∙ ap (λ (y : OperationNet). is_load_node y (operation_node y k)) (sym net)

  pub kept_self : (net : OpNet W) → KeepsApart net net
  kept_self net = record { counted = refl; marks = refl; room = omega arith; apart = refl; flags = λ k is. refl }

  pub kept_apart : (a b c : OpNet W) → KeepsApart a b → KeepsApart b c → KeepsApart a c
  kept_apart a b c first second = record {
    counted = second.counted ∙ first.counted;
    marks = second.marks ∙ first.marks;
    room = let one = first.room in let other = second.room in omega (arith, one, other);
    apart = second.apart ∙ first.apart;
    flags = λ k is. second.flags k (ap (λ (flags : List Bool). has flags k) first.apart ∙ is) ∙ first.flags k is;
  }

  -- ---- nothing but marks changes

  pub remarked_self : (net : OpNet W) → IsRemarked net net
  remarked_self net = record { net = refl; marking = refl; place = refl; text = refl; apart = refl; counted = refl; room = refl }

  pub remarked_twice : (a b c : OpNet W) → IsRemarked a b → IsRemarked b c → IsRemarked a c
  remarked_twice a b c first second = record {
    net = second.net ∙ first.net;
    marking = second.marking ∙ first.marking;
    place = second.place ∙ first.place;
    text = second.text ∙ first.text;
    apart = second.apart ∙ first.apart;
    counted = second.counted ∙ first.counted;
    room = second.room ∙ first.room;
  }

-- what is kept for loads is kept for the same net at the same marking
pub kept_there : (x y : OperationNet) (m n : OperationTokens) (w : Waiting) → y ≡ x → n ≡ m → AreKept x m w → AreKept y n w
kept_there x y m n w net marking kept =
    subst (λ (z : OperationNet). AreKept z n w) (sym net) (subst (λ (t : OperationTokens). AreKept x t w) (sym marking) kept)
