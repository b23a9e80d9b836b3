use Rattle.std.proofs.Common.{◌<◌, ◌+◌, List, ℕ, Option, length, refl, sym, subst, ◌∙◌, arith}
use Rattle.shared_forms.specs.Numbered.{temporary_of}
use Rattle.simplified_forms.specs.Plans.{answer, AreTold}
use Rattle.regenerate.proofs.NameCounts.{count_within, told-push, temporary-told}
use Rattle.simplified_forms.proofs.RangeCounts.{byte-bit, count-range-more}
use Rattle.regenerate.proofs.names.temporary_names.Goals as goal

pub overflow_add-next : goal.overflow_add-next
overflow_add-next c =
    let shared = c.args.shared.now in
    let i = c.loop-is_one.is_one-index in
    let added = c.from-next.ensures ∙ byte-bit (answer shared i) in
    let within = count_within (answer shared) i (length shared) c.loop-is_one-test.true in
    omega (arith, added, within, c.loop-is_one.invariant.next, c.requires.few)

pub loop-is_one-preserved : goal.loop-is_one-preserved
loop-is_one-preserved c =
    let q = c.args.q.now in
    let a = c.args.a.now in
    let shared = c.args.shared.now in
    let i = c.loop-is_one.is_one-index in
    let kept = c.loop-is_one.invariant in
    let less : i < length a.candidates = omega (arith, c.loop-is_one-test.true, c.requires.shared.size) in
    let added = c.from-next.ensures ∙ byte-bit (answer shared i) in
    let more = count-range-more (answer shared) i in
    record {
      names = subst (λ (xs : List (Option ℕ)). AreTold (temporary_of q a) (i + 1) xs) (sym c.in_ok-push.ensures.items) (told-push (temporary_of q a) i c.told.result c.loop-is_one.names.items kept.names (temporary-told q a shared i c.loop-is_one.next (answer shared i) c.told.result c.requires.shared less refl kept.next c.told.ensures));
      next = omega (arith, kept.next, added, more);
    }
