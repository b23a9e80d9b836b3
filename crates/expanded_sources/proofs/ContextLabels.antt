-- The labels of copies: as many as the list has, and one more.
use Rattle.std.proofs.Common.{◌≡◌, ℕ, suc, ◌+◌, ◌<◌, ◌≤◌, Bool, true, List, length, Option, Some, None, if◌then◌else◌, ⊎_elim, refl, sym, ap, ◌∙◌, arith}
use Rattle.std.specs.List.{slice_get}
use Rattle.std.proofs.lemmas.List.Sums.{sum_by-take-le}
use Rattle.f77_tree.specs.declared.statements.Labelled.{Labelled}
use Rattle.layout_rules.specs.Labels.{statement_of}
use Rattle.program_units.specs.Copies.{Context, call_at, changes, end_by, number_at}
use Rattle.program_units.specs.Units.{Call, call_in, unit_at, unit_of}
use Rattle.program_units.specs.Widths.{body_labels, is_kept, labels, labels_by}
use Rattle.unit_laws.proofs.Kept.{kept_or_none}
use Rattle.unit_laws.proofs.PieceLabels.{number-within}
use Rattle.expanded_sources.proofs.Labelling.{HasLabels}

-- all labels of the copy are at most so many
pub record HasFewLabels (us : List (List Labelled)) (total : ℕ) (c : Context) : Type 0 where
  pub few : c.base + body_labels us (suc c.depth) c.unit ≤ total

module _ (us : List (List Labelled)) (c : Context) where
  abbrev number : ℕ → ℕ
  number place = number_at us c.depth c.unit c.base place

  -- how many labels stand for a CALL
  call-counts : (s : Labelled) (call : Call) → call_in s.stmt ≡ Some call → labels (body_labels us c.depth) us c.unit s ≡ 2 + body_labels us c.depth (unit_of us call.name)
  call-counts s call is = ⊎_elim
      (λ (kept : is_kept c.unit s.stmt ≡ true).
      ap (λ (b : Bool). if b then labels_by (body_labels us c.depth) us s.label (call_in s.stmt) else 0) kept ∙ ap (labels_by (body_labels us c.depth) us s.label) is)
      (λ (none : call_in s.stmt ≡ None). let e : None ≡ Some call = sym none ∙ is in absurd cc)
      (kept_or_none c.unit s.stmt)

  module _ (total : ℕ) (labelled : HasFewLabels us total c) where
    -- the copy at a CALL of the unit has as few
    pub called-few : (place depth : ℕ) (s : Labelled) (call : Call) → c.depth ≡ suc depth → slice_get (unit_at us c.unit) place ≡ Some s → call_in s.stmt ≡ Some call → number place + body_labels us (suc depth) (unit_of us call.name) ≤ total
    called-few place depth s call deep here is =
        let within = number-within us c place s here in
        let count = call-counts s call is in
        let same : body_labels us c.depth (unit_of us call.name) ≡ body_labels us (suc depth) (unit_of us call.name) = ap (λ (d : ℕ). body_labels us d (unit_of us call.name)) deep in
        let few = labelled.few in
        omega (arith, within, count, same, few)

    number-low : (place : ℕ) → number place ≤ total + 1
    number-low place =
        let below = sum_by-take-le (labels (body_labels us c.depth) us c.unit) (unit_at us c.unit) place in
        let few = labelled.few in
        omega (arith, below, few)

    ends-low : (place : ℕ) (o : Option Labelled) → slice_get (unit_at us c.unit) place ≡ o → end_by us c.depth (call_at o) (number place) ≤ total + 1
    ends-low place None here = number-low place
    ends-low place (Some s) here = by (call_in s.stmt) refl
      where
        by : (o : Option Call) → call_in s.stmt ≡ o → end_by us c.depth o (number place) ≤ total + 1
        by None is = number-low place
        by (Some call) is =
            let within = number-within us c place s here in
            let count = call-counts s call is in
            let few = labelled.few in
            omega (arith, within, count, few)

    ends-some : (place : ℕ) (o : Option Call) → 0 < end_by us c.depth o (number place)
    ends-some place None = omega arith
    ends-some place (Some call) = omega arith

    -- over any bound
    label-of : (top n : ℕ) → total + 1 < top → 0 < n → n ≤ total + 1 → (n ≡ 0 → ⊥) × (n < top)
    label-of top n room some low = (λ (e : n ≡ 0). absurd (omega (arith, e, some)), omega (arith, room, low))

    pub has-labels : total + 1 < 100000 → HasLabels (changes us c)
    has-labels room = record {
      jump = λ l. label-of 100000 (number (statement_of (unit_at us c.unit) l)) room (omega arith) (number-low (statement_of (unit_at us c.unit) l));
      end = λ l. let place : ℕ = statement_of (unit_at us c.unit) l in
          label-of 100000 (end_by us c.depth (call_at (slice_get (unit_at us c.unit) place)) (number place)) room (ends-some place (call_at (slice_get (unit_at us c.unit) place))) (ends-low place (slice_get (unit_at us c.unit) place) refl);
      back = label-of 100000 (number (length (unit_at us c.unit))) room (omega arith) (number-low (length (unit_at us c.unit)));
    }
