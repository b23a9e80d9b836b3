use Rattle.std.proofs.Common.{rules, ◌≡◌, ◌+◌, ◌++◌, ◌∷◌, [], length, sym, ap, ◌∙◌, arith, Some, true, false}
use Rattle.std.specs.Prelude.{slice_get}
use Rattle.std.proofs.lemmas.List.{length_push}
use Rattle.flat_programs.specs.Marks.{is_mark}
use Rattle.flat_programs.proofs.MarkLemmas.{marks_above-next, places_in, places_out}
use Rattle.flat_programs.proofs.flow.mark_places.Goals as goal
use Rattle.flat_programs.proofs.flow.mark_places.Goals.{then-is_mark+in_ok-push, else-is_mark}

pub loop-place-preserved : goal.loop-place-preserved
loop-place-preserved c =
    let flat = c.args.flat.now in
    let place = c.loop-place.place in
    let l = c.at.result.now in
    let at : slice_get flat place ≡ Some l = c.at.ensures.item in
    let next = marks_above-next flat place l at in
    elim c.if-is_mark.branch [
      | then-is_mark+in_ok-push w ↦
          let mark : is_mark l.stmt ≡ true = search rules in
          let pushed : c.if-is_mark.marks.items ≡ c.loop-place.marks.items ++ place ∷ [] = search rules in
          record {
            marks = pushed ∙ ap (λ ks. ks ++ place ∷ []) c.loop-place.invariant.marks ∙ sym (places_in flat place l at mark);
            count = ap length pushed ∙ length_push c.loop-place.marks.items place ∙ ap (λ n. n + 1) c.loop-place.invariant.count ∙ sym (rw mark at next);
          }
      | else-is_mark w ↦
          let other : is_mark l.stmt ≡ false = search rules in
          let same : c.if-is_mark.marks.items ≡ c.loop-place.marks.items = search rules in
          record {
            marks = same ∙ c.loop-place.invariant.marks ∙ sym (places_out flat place l at other);
            count = ap length same ∙ c.loop-place.invariant.count ∙ sym (rw other at next ∙ omega arith);
          }
    ]
