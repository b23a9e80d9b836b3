use Rattle.std.proofs.Common.{◌≡◌, ◌+◌, ◌^◌, ℕ, List, length, take, min, nat_eq, Option, refl, sym, ap, subst, ◌∙◌, arith}
use Rattle.std.proofs.lemmas.List.{take_all}
use Rattle.indexmap.specs.IndexMap.{get}
use Rattle.f77_tree.specs.declared.statements.Labelled.{Labelled}
use Rattle.inlined_copies.specs.declared.unit_table.NewLabel.{NewLabel}
use Rattle.inlined_copies.specs.LabelCounts.{labels_of}
use Rattle.inlined_copies.specs.LabelTables.{number_in}
use Rattle.inlined_copies.proofs.TabledLabels.{Told, told-more, before-more, told-first, told-last}
use Rattle.inlined_copies.proofs.counted_units.LabelCounts.new_labels.Goals as goal

pub loop-s-preserved : goal.loop-s-preserved
loop-s-preserved c =
    let us = c.args.self.now.us.now in
    let counts = c.args.self.now.counts.now in
    let k = c.args.k in
    let unit = c.args.unit.now in
    let i = c.loop-s.s-index in
    let s = c.s-item.result in
    let before = c.loop-s.before in
    record {
      before = c.add_within-before.ensures ∙ ap (λ (n : ℕ). min (before + n) (2 ^ 20)) c.labels-in-loop-s.ensures ∙ before-more us (2 ^ 20) counts k unit i s before c.loop-s-test.true c.s-item.is c.loop-s.invariant.before;
      told = λ label. subst (λ (found : Option NewLabel). Told us (2 ^ 20) counts k (take (i + 1) unit) label found) (sym (c.in_ok-note_label.ensures label))
          (told-more us (2 ^ 20) counts k unit i s before label (get nat_eq c.loop-s.labels label) _ c.loop-s-test.true c.s-item.is c.loop-s.invariant.before (c.loop-s.invariant.told label) refl (ap (λ (n : ℕ). before + 1 + n) c.labels_behind.ensures.count));
    }

pub returns : goal.returns
returns c =
    let us = c.args.self.now.us.now in
    let counts = c.args.self.now.counts.now in
    let k = c.args.k in
    let unit = c.args.unit.now in
    let i = c.loop-s.s-index in
    let whole : take i unit ≡ unit = take_all i unit c.loop-s-test.false in
    let all : take (length unit) unit ≡ unit = take_all (length unit) unit (omega arith) in
    let behind : c.loop-s.before + 1 ≡ number_in us (2 ^ 20) counts k unit (length unit) =
    ap (λ (n : ℕ). n + 1) (c.loop-s.invariant.before ∙ ap (λ (xs : List Labelled). min (labels_of us counts k xs) (2 ^ 20)) (whole ∙ sym all)) in
    let told : (l : ℕ) → Told us (2 ^ 20) counts k unit l (get nat_eq c.loop-s.labels l) = λ l. subst (λ (xs : List Labelled). Told us (2 ^ 20) counts k xs l (get nat_eq c.loop-s.labels l)) whole (c.loop-s.invariant.told l) in
    let most = c.loop-s.invariant.before in
    record {
      labels = record {
        firsts = λ l. told-first us (2 ^ 20) counts k unit l (c.loop-s.before + 1) behind (get nat_eq c.loop-s.labels l) (told l);
        lasts = λ l. told-last us (2 ^ 20) counts k unit l (c.loop-s.before + 1) behind (get nat_eq c.loop-s.labels l) (told l);
        is_behind = behind;
      };
      few = omega (arith, most);
    }
