use Rattle.std.proofs.Common.{◌≡◌, ℕ, ◌==◌, Bool, true, false, not, ◌+◌, ◌&&◌, ◌||◌, List, ◌++◌, take, drop, refl, subst, ap, sym, ◌∙◌}
use Rattle.std.specs.List.{flat_map}
use Rattle.std.specs.Ordering.{nat_cmp}
use Rattle.std.specs.BTreeMap.{get}
use Rattle.std.proofs.lemmas.List.{append_assoc}
use Rattle.layout_rules.specs.Faults.{has_repeat}
use Rattle.storage_checks.specs.Runs.{span_words}
use Rattle.storage_checks.specs.GivenWords.{Holds}
use Rattle.layout_rules.proofs.FlatParts.{flat_map_taken, repeat_split}
use Rattle.storage_checks.proofs.given_words.GivenWords.add_spans.Goals as goal

-- none is given twice where neither the next one nor a later one is
none_next : (free new twice later : Bool) → new ≡ not twice → (free && not (twice || later)) ≡ ((free && new) && not later)
none_next false new twice later is = refl
none_next true new true later is = rw is refl
none_next true new false later is = rw is refl

pub loop-span-preserved : goal.loop-span-preserved
loop-span-preserved c = λ seen holds.
    let inv = c.loop-span.invariant seen holds in
    let spans = c.args.spans.now in
    let i = c.loop-span.span-index in
    let x = c.span-item.result in
    let prefix = seen ++ flat_map span_words (take i spans) in
    let new = c.in_ok-new.ensures.free prefix inv.0 in
    let added = c.in_ok-new.ensures.added prefix inv.0 in
    let taken = append_assoc seen (flat_map span_words (take i spans)) (span_words x) ∙ ap (λ (ys : List ℕ). seen ++ ys) (sym (flat_map_taken span_words spans i x c.loop-span-test.true c.span-item.is)) in (
      subst (Holds (get nat_cmp c.add.new.self.ends)) taken added,
      inv.1
          ∙ ap (λ b. c.loop-span.free && not b) (repeat_split span_words spans i x c.loop-span-test.true c.span-item.is (λ a b. a == b) seen)
          ∙ none_next c.loop-span.free _ (has_repeat (λ a b. a == b) prefix (span_words x)) (has_repeat (λ a b. a == b) (seen ++ flat_map span_words (take (i + 1) spans)) (flat_map span_words (drop (i + 1) spans))) new,
    )
