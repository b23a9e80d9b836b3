-- Lists with a set of lines for each node, or for each region.
use Rattle.std.proofs.Common.{◌≡◌, ◌≢◌, ℕ, zero, suc, ◌<◌, ◌≤◌, false, List, [], ◌∷◌, ◌++◌, Some, length, set, get_or, refl, ap, arith}
use Rattle.std.specs.Prelude.{slice_get}
use Rattle.class_set.specs.ClassSet.{holds}
use Rattle.class_set.specs.declared.ClassSet.{ClassSet}
use Rattle.dep_routing.specs.Noise.{marks_of}
use Rattle.dep_routing.specs.Order.{is_marked}
use Rattle.dep_routing.specs.Touch.{touches_in}

pub touches-at : {W : ℕ} (sets : List (ClassSet W)) (node line : ℕ) (s : ClassSet W) → slice_get sets node ≡ Some s → touches_in sets node line ≡ holds s line
touches-at [] node line s is = absurd cc
touches-at (x ∷ sets) zero line s is = let same : x ≡ s = cc in ap (λ y. holds y line) same
touches-at (x ∷ sets) (suc node) line s is = touches-at sets node line s is

pub touches-read : {W : ℕ} (sets : List (ClassSet W)) (node line : ℕ) (s : ClassSet W) → node < length sets → s ≡ get_or sets node s → holds s line ≡ touches_in sets node line
touches-read [] node line s within is = absurd (omega (arith, within))
touches-read (x ∷ sets) zero line s within is = ap (λ y. holds y line) is
touches-read (x ∷ sets) (suc node) line s within is = touches-read sets node line s (omega arith) is

pub touches-past : {W : ℕ} (sets : List (ClassSet W)) (node line : ℕ) → length sets ≤ node → touches_in sets node line ≡ false
touches-past [] node line past = refl
touches-past (x ∷ sets) zero line past = absurd (omega (arith, past))
touches-past (x ∷ sets) (suc node) line past = touches-past sets node line (omega arith)

-- the marks of a line tell the same
pub touches-marks : {W : ℕ} (sets : List (ClassSet W)) (r line : ℕ) → is_marked (marks_of sets line) r ≡ touches_in sets r line
touches-marks [] r line = refl
touches-marks (x ∷ sets) zero line = refl
touches-marks (x ∷ sets) (suc r) line = touches-marks sets r line

pub touches-set : {W : ℕ} (sets : List (ClassSet W)) (r line : ℕ) (s : ClassSet W) → r < length sets → touches_in (set sets r s) r line ≡ holds s line
touches-set [] r line s within = absurd (omega (arith, within))
touches-set (x ∷ sets) zero line s within = refl
touches-set (x ∷ sets) (suc r) line s within = touches-set sets r line s (omega arith)

pub touches-apart : {W : ℕ} (sets : List (ClassSet W)) (r k line : ℕ) (s : ClassSet W) → k ≢ r → touches_in (set sets r s) k line ≡ touches_in sets k line
touches-apart [] r k line s apart = refl
touches-apart (x ∷ sets) zero zero line s apart = absurd (apart refl)
touches-apart (x ∷ sets) zero (suc k) line s apart = refl
touches-apart (x ∷ sets) (suc r) zero line s apart = refl
touches-apart (x ∷ sets) (suc r) (suc k) line s apart = touches-apart sets r k line s (λ same. apart (ap suc same))

pub touches-before : {W : ℕ} (sets : List (ClassSet W)) (set : ClassSet W) (node line : ℕ) → node < length sets → touches_in (sets ++ set ∷ []) node line ≡ touches_in sets node line
touches-before [] set node line lt = absurd (omega (arith, lt))
touches-before (first ∷ sets) set zero line lt = refl
touches-before (first ∷ sets) set (suc node) line lt = touches-before sets set node line (omega (arith, lt))

pub touches-last : {W : ℕ} (sets : List (ClassSet W)) (set : ClassSet W) (node line : ℕ) → node ≡ length sets → touches_in (sets ++ set ∷ []) node line ≡ holds set line
touches-last [] set zero line is = refl
touches-last [] set (suc node) line is = absurd (omega (arith, is))
touches-last (first ∷ sets) set zero line is = absurd (omega (arith, is))
touches-last (first ∷ sets) set (suc node) line is = touches-last sets set node line (omega (arith, is))
