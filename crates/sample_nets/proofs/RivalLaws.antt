-- Rivals don't keep the laws of firing.
use Rattle.std.proofs.Common.{◌≡◌, ◌<◌, ℕ, true, false, refl, arith}
use Rattle.firing.specs.Laws.{IsLawful, AreReady}
use Rattle.firing.specs.Moves.{CanFire}
use Rattle.sample_nets.specs.declared.rivals.Token.{Token}
use Rattle.sample_nets.specs.Rivals.{rivals, free_token}

can : (k : ℕ) → k < 2 → CanFire rivals free_token k
can k node = record { going = refl; node = node; ready = refl }

both : (sound : Token → Type 0) → sound free_token → AreReady sound rivals free_token 0 1
both sound is_sound = record { is_sound = is_sound; differ = λ e. absurd cc; first = can 0 (omega arith); second = can 1 (omega arith) }

pub no_laws : (sound : Token → Type 0) → sound free_token → IsLawful sound rivals → ⊥
no_laws sound is_sound lawful = let stays : false ≡ true = lawful.stays_ready free_token 0 1 (both sound is_sound) in absurd cc
