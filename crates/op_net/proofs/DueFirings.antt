-- Several firings of nodes that are due, one after another, in a system whose net stays the same.
use Rattle.std.proofs.Common.{◌≡◌, ◌≢◌, ◌<◌, ℕ, List, Option, None, Some, sym, subst, ◌∙◌}
use Rattle.firing.specs.declared.system.Fired.{Fired}
use Rattle.firing.specs.declared.system.Fired.TheVariants.{Moved, Trapped}
use Rattle.firing.specs.Control.{Course, IsInStep, KeepsStep, due_at, steered}
use Rattle.firing.specs.Laws.{IsLawful}
use Rattle.firing.specs.Moves.{CanFire, FiredIs, Moves, newest}
use Rattle.firing.specs.Play.{Moment, by_order, moment}
use Rattle.firing.specs.SourceOrder.{FiresTo, IsSourceOrder, newest_after}
use Rattle.firing.proofs.ControlLemmas.{due_control, due_fires}
use Rattle.firing.proofs.DueLemmas.{in_step_after, one_due, one_line, sound_after, trap_told_after}

-- What a system tells of one firing of the node that is due.
pub record IsDueFiring {M P : Type 0} (s : Moves M) (course : Course M P) (m : M) (c : Option P) (k : ℕ) (fired : Fired) (then : M) (later : Option P) (before after : List ℕ) : Type 0 where
  pub due : due_at course m c ≡ Some k
  pub can : CanFire s m k
  pub marking : then ≡ s.fired m k
  pub place : later ≡ steered course m c k
  pub did : FiredIs s m k fired
  pub line : after ≡ newest (s.line m k) before

-- So many firings from a start lead to this marking and this place, and to this newest line.
pub record AreDueFirings {M P : Type 0} (s : Moves M) (course : Course M P) (start : Moment M P) (old : List ℕ) (most count : ℕ) (fired : Fired) (then : M) (later : Option P) (new : List ℕ) : Type 0 where
  pub to : FiresTo (by_order s course) start most count fired (moment then later)
  pub line : new ≡ newest_after (by_order s course) start count old

-- What a system that has fired can go on from.
pub record GoesOnDue {M P : Type 0} (sound : M → Type 0) (s : Moves M) (in_step : M → P → Type 0) (m : M) (c : Option P) : Type 0 where
  pub is_sound : sound m
  pub stays : IsInStep s in_step m c
  pub going : s.trap m ≡ None

module _ {M P : Type 0} (s : Moves M) (course : Course M P) where
  pub first_firing : {m then : M} {c later : Option P} {k : ℕ} {fired : Fired} {old new : List ℕ} (most : ℕ) → 0 < most → IsDueFiring s course m c k fired then later old new → AreDueFirings s course (moment m c) old most 1 fired then later new
  first_firing {m} {then} {c} {later} {k} {fired} {old} {new} most some f = record {
    to = one_due s course m c k f.due most fired some f.can f.did f.marking f.place;
    line = one_line s course m c k f.due old f.line;
  }

module _ {N M P : Type 0} (moves : N → Moves M) (course : N → Course M P) where
  module _ {sound : N → M → Type 0} {in_step : N → M → P → Type 0} (lawful : (n : N) → IsLawful (sound n) (moves n)) (steady : (n : N) → KeepsStep (sound n) (moves n) (course n) (in_step n)) (order : (n : N) → IsSourceOrder (sound n) (moves n) (course n) (in_step n)) where
    pub goes_on_due : {x y : N} {start m : M} {place c : Option P} {most count : ℕ} {fired : Fired} → y ≡ x → fired ≡ Moved → sound x start → IsInStep (moves x) (in_step x) start place → due_at (course x) start place ≢ None → FiresTo (by_order (moves x) (course x)) (moment start place) most count fired (moment m c) → GoesOnDue (sound y) (moves y) (in_step y) m c
    goes_on_due {x} {y} {start} {m} {place} {c} {most} {count} {fired} same moved is_sound step due to =
        let some : place ≢ None = due_control (course x) start place due in
        subst (λ (n : N). GoesOnDue (sound n) (moves n) (in_step n) m c) (sym same) (record {
          is_sound = sound_after (moves x) (course x) to (lawful x) (steady x) (order x) is_sound step some;
          stays = in_step_after (moves x) (course x) to (lawful x) (steady x) (order x) is_sound step some;
          going = trap_told_after (moves x) (course x) to (λ trapped. let clash : Moved ≡ Trapped = sym moved ∙ trapped in absurd cc);
        })

    pub can_go_on : {y : N} {m : M} {c : Option P} {k : ℕ} → GoesOnDue (sound y) (moves y) (in_step y) m c → due_at (course y) m c ≡ Some k → CanFire (moves y) m k
    can_go_on {y} {m} {c} {k} goes due = due_fires (order y) m c k goes.is_sound goes.stays goes.going due
