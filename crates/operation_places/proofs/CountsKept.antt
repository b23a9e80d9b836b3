-- It is counted after several changes as it was before.
use Rattle.std.proofs.Common.{◌≡◌, ℕ, Bool, true, false, List, set, refl, ap, sym, subst, ◌∙◌, arith}
use Rattle.std.proofs.lemmas.List.{get_or-set_other}
use Rattle.firing.specs.ReadySet.{has}
use Rattle.operation_places.specs.declared.places.Places.{Places}
use Rattle.operation_places.specs.PlacesView.{KeepsCounts}
use Rattle.operation_tables.specs.Waits.{one_if}

pub keeps_own : (s : Places) → KeepsCounts s s
keeps_own s = record { counted = refl; marks = refl; room = omega arith; apart = refl; flags = λ k is. refl }

pub keeps_more : (s t u : Places) → KeepsCounts s t → KeepsCounts t u → KeepsCounts s u
keeps_more s t u first second = record {
  counted = second.counted ∙ first.counted;
  marks = second.marks ∙ first.marks;
  room = let a = first.room in let b = second.room in omega (arith, a, b);
  apart = second.apart ∙ first.apart;
  flags = λ k is. second.flags k (subst (λ (led : List Bool). has led k ≡ true) (sym first.apart) is) ∙ first.flags k is;
}

-- a node that waits for nothing is led by no other game
pub none_apart : (apart : List Bool) (k : ℕ) → one_if (has apart k) ≡ 0 → has apart k ≡ true → ⊥
none_apart apart k none is = let one : one_if (has apart k) ≡ 1 = ap one_if is in absurd (omega (arith, none, one))

pub led_not : (apart : List Bool) (k : ℕ) → one_if (has apart k) ≡ 0 → has apart k ≡ false
led_not apart k none = by (has apart k) none
  where
    by : (b : Bool) → one_if b ≡ 0 → b ≡ false
    by true one = absurd (omega (arith, one))
    by false one = refl

-- where the mark of another node changes, those of nodes that another game leads stay
pub flags_kept : (apart flags : List Bool) (k : ℕ) (b : Bool) → (has apart k ≡ true → ⊥) → (j : ℕ) → has apart j ≡ true → has (set flags k b) j ≡ has flags j
flags_kept apart flags k b free j is = get_or-set_other flags k j b false (λ e. free (subst (λ (n : ℕ). has apart n ≡ true) e is))
