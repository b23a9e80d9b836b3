-- Nets with groups of loads keep the laws of firing, and begin soundly.
use Rattle.firing.specs.Laws.{IsLawful}
use Rattle.firing.proofs.FootprintLemmas.{shared_lawful}
use Rattle.op_board.specs.OperationNets.{OperationNet}
use Rattle.op_board.specs.OperationTokens.{first_operation_tokens}
use Rattle.op_board.specs.SoundOperationNets.{IsOperationNet, OperationsCanCome}
use Rattle.op_board.proofs.OperationLaws.{firing_facts}
use Rattle.fork_board.specs.ForkFootprints.{fork_foot, fork_part_at, fork_shares, fork_update}
use Rattle.fork_board.specs.ForkTokens.{ForkTokens, first_fork_tokens, fork_moves}
use Rattle.fork_board.specs.SoundForks.{ForksCanCome}
use Rattle.fork_board.proofs.ForksFooted.{forks_footed}

pub forks_lawful : (x : OperationNet) → IsLawful (ForksCanCome x) (fork_moves x)
forks_lawful x = record {
  either_order = λ m j k both. (laws both.is_sound).either_order m j k both;
  stays_ready = λ m j k both. (laws both.is_sound).stays_ready m j k both;
  one_serial = λ m j k both serial. (laws both.is_sound).one_serial m j k both serial;
  same_line = λ m j k both none. (laws both.is_sound).same_line m j k both none;
  same_trap = λ m j k both none. (laws both.is_sound).same_trap m j k both none;
  silent = λ m k comes can_fire not_serial. (laws comes).silent m k comes can_fire not_serial;
  stays_sound = λ m k comes can_fire. (laws comes).stays_sound m k comes can_fire;
}
  where
    laws : {m : ForkTokens} → ForksCanCome x m → IsLawful (ForksCanCome x) (fork_moves x)
    laws comes =
        shared_lawful (ForksCanCome x) (fork_moves x) fork_part_at (fork_foot x comes.is_net.is_net.classes) (fork_shares x comes.is_net.is_net.classes) (fork_update x)
        (forks_footed comes.ground x comes.is_net (firing_facts comes.ground x comes.is_net))

pub forks_begin : ((x : OperationNet) → IsOperationNet x → OperationsCanCome x (first_operation_tokens x)) → (x : OperationNet) → IsOperationNet x → ForksCanCome x (first_fork_tokens x)
forks_begin begin x n = let comes = begin x n in record { ground = comes.ground; is_net = comes.is_net; is_marking = comes.is_marking }
