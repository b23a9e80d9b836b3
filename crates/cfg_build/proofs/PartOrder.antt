-- No two parts of a program have the same target: targets have keys, which rise along the parts.
use Rattle.std.proofs.Common.{◌≡◌, ℕ, zero, suc, ◌+◌, ◌<◌, ◌≤◌, true, false, List, [], ◌∷◌, ◌++◌, length, get_or, flat_map, slice_get, Option, Some, None, refl, sym, ap, ⊎_elim, zero-add, arith}
use Rattle.std.proofs.lemmas.Bool.{cases_Bool, cond_both, eqb-true, eq-eqb}
use Rattle.std.proofs.lemmas.List.Concat.{flat_map-append}
use Rattle.std.proofs.lemmas.List.{append-nil}
use Rattle.std.specs.List.{range_with_len}
use Rattle.f77_tree.specs.declared.programs.Exec.{Exec}
use Rattle.f77_tree.specs.declared.programs.ExecKind.{ExecKind}
use Rattle.f77_tree.specs.declared.programs.ExecKind.TheVariants.{End}
use Rattle.f77_tree.specs.Control.{EndsWithEnd}
use Rattle.cfg_build.specs.declared.parts.Part.{Part}
use Rattle.cfg_build.specs.declared.parts.Target.{Target}
use Rattle.cfg_build.specs.declared.parts.Target.TheVariants.{Start, First, Test}
use Rattle.cfg_build.specs.Control.{is_reached}
use Rattle.cfg_build.specs.Parts.{parts, parts_of, parts_in, reached_parts, start_part, last_of}
use Rattle.cfg_build.specs.Joined.{is_same}
use Rattle.list_laws.proofs.Ranges.{range_last}

-- ---- targets

abbrev pub key : Target → ℕ
key Start = 0
key (First k) = suc (k + k)
key (Test k) = suc (suc (k + k))

pub is_same_itself : (t : Target) → is_same t t ≡ true
is_same_itself h = grind (arith, eq-eqb)

pub same_of : (t s : Target) → is_same t s ≡ true → t ≡ s
same_of h h2 h3 = grind (arith, eqb-true)

pub not_same : (t s : Target) → (t ≡ s → ⊥) → is_same t s ≡ false
not_same t s apart = ⊎_elim (λ (h : is_same t s ≡ true). absurd (apart (same_of t s h))) (λ h. h) (cases_Bool (is_same t s))

-- ---- keys that rise

-- the keys rise from the lower bound on, and stay below the upper one
abbrev pub Rise : (low high : ℕ) → List Part → Type 0
Rise low high [] = low ≤ high
Rise low high (p ∷ ps) = (low ≤ key p.own) × Rise (suc (key p.own)) high ps

Rise-lower : (low more high : ℕ) (ps : List Part) → low ≤ more → Rise more high ps → Rise low high ps
Rise-lower low more high [] less rise = omega (arith, less, rise)
Rise-lower low more high (p ∷ ps) less rise = (omega (arith, less, rise.0), rise.1)

Rise-append : (low middle high : ℕ) (ps qs : List Part) → Rise low middle ps → Rise middle high qs → Rise low high (ps ++ qs)
Rise-append low middle high [] qs rise more = Rise-lower low middle high qs rise more
Rise-append low middle high (p ∷ ps) qs rise more = (rise.0, Rise-append (suc (key p.own)) middle high ps qs rise.1 more)

rise_of : (execs : List Exec) (k line : ℕ) (kind : ExecKind) → Rise (suc (k + k)) (suc (suc k + suc k)) (parts_of execs k line kind)
rise_of execs k line h = grind arith

rise_in : (execs : List Exec) (k : ℕ) (exec : Option Exec) → Rise (suc (k + k)) (suc (suc k + suc k)) (parts_in execs k exec)
rise_in execs k None = omega arith
rise_in execs k (Some exec) = rise_of execs k exec.line exec.kind

rise_reached : (execs : List Exec) (k : ℕ) → Rise (suc (k + k)) (suc (suc k + suc k)) (reached_parts execs k)
rise_reached execs k = grind (arith, cond_both (is_reached execs k) (parts_in execs k (slice_get execs k)), rise_in execs k (slice_get execs k))

rise_from : (execs : List Exec) (k n : ℕ) → Rise (suc (k + k)) (suc ((k + n) + (k + n))) (flat_map (reached_parts execs) (range_with_len k n))
rise_from execs k zero = omega arith
rise_from execs k (suc n) =
    grind (arith, flat_map (reached_parts execs) (range_with_len (k + 1) n), rise_from execs (k + 1) n, Rise-append (suc (k + k)) (suc (suc k + suc k)) (suc ((k + suc n) + (k + suc n))) (reached_parts execs k) (flat_map (reached_parts execs) (range_with_len (k + 1) n)) (rise_reached execs k), rise_reached execs k)

-- ---- the last executable has no part but the end

no_parts : (execs : List Exec) (k line : ℕ) (kind : ExecKind) → kind ≡ End → parts_of execs k line kind ≡ []
no_parts execs k line kind same = ap (λ x. parts_of execs k line x) same

module _ (execs : List Exec) (end : EndsWithEnd execs) where
  pub length_is : length execs ≡ suc (last_of execs)
  length_is = omega (arith, end.some)

  last_in : (exec : Option Exec) → slice_get execs (last_of execs) ≡ exec → parts_in execs (last_of execs) exec ≡ []
  last_in None same = refl
  last_in (Some exec) same = no_parts execs (last_of execs) exec.line exec.kind ((end.last (last_of execs) exec same).1 (sym length_is))

  pub none_of_last : reached_parts execs (last_of execs) ≡ []
  none_of_last =
      grind (arith, cond_both (is_reached execs (last_of execs)) (parts_in execs (last_of execs) (slice_get execs (last_of execs))), last_in (slice_get execs (last_of execs)))

  middle_parts : flat_map (reached_parts execs) (range_with_len 0 (length execs)) ≡ flat_map (reached_parts execs) (range_with_len 0 (last_of execs))
  middle_parts =
      grind (arith, flat_map (reached_parts execs), length_is, range_last 0, flat_map-append (reached_parts execs), zero-add, none_of_last, append-nil)

  pub parts_rise : Rise 0 (suc (suc (last_of execs + last_of execs))) (parts execs)
  parts_rise = grind (arith, flat_map (reached_parts execs), zero-add, rise_from execs 0, Rise-append 1, middle_parts)

-- ---- so they differ

rise_at : (low high : ℕ) (ps : List Part) (i : ℕ) (d : Part) → Rise low high ps → i < length ps → low ≤ key (get_or ps i d).own
rise_at low high [] i d rise some = absurd (omega (arith, some))
rise_at low high (p ∷ ps) zero d rise some = rise.0
rise_at low high (p ∷ ps) (suc i) d rise some = grind (arith, rise_at (suc (key p.own)) high ps i d rise.1)

keys_rise : (low high : ℕ) (ps : List Part) (i j : ℕ) (d : Part) → Rise low high ps → i < j → j < length ps → key (get_or ps i d).own < key (get_or ps j d).own
keys_rise low high [] i j d rise less some = absurd (omega (arith, some))
keys_rise low high (p ∷ ps) i zero d rise less some = absurd (omega (arith, less))
keys_rise low high (p ∷ ps) zero (suc j) d rise less some = rise_at (suc (key p.own)) high ps j d rise.1 (omega (arith, some))
keys_rise low high (p ∷ ps) (suc i) (suc j) d rise less some = keys_rise (suc (key p.own)) high ps i j d rise.1 (omega (arith, less)) (omega (arith, some))

-- each part is told by its target
abbrev pub AreApart : List Part → Type 0
AreApart ps = (i j : ℕ) → i < j → j < length ps → is_same (get_or ps j start_part).own (get_or ps i start_part).own ≡ false

pub parts_apart : (execs : List Exec) → EndsWithEnd execs → AreApart (parts execs)
parts_apart execs end i j less some =
    let ps : List Part = parts execs in
    let keys : key (get_or ps i start_part).own < key (get_or ps j start_part).own = keys_rise 0 (suc (suc (last_of execs + last_of execs))) ps i j start_part (parts_rise execs end) less some in
    not_same (get_or ps j start_part).own (get_or ps i start_part).own
    (λ (same : (get_or ps j start_part).own ≡ (get_or ps i start_part).own). let e : key (get_or ps j start_part).own ≡ key (get_or ps i start_part).own = ap key same in omega (arith, e, keys))
