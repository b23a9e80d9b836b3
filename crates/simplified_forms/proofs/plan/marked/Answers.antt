use Rattle.std.proofs.Common.{rules, ◌≡◌, ◌+◌, ◌<◌, ◌&&◌, ◌||◌, Bool, List, length, false, sym, ap, subst, ◌∙◌, arith}
use Rattle.std.proofs.lemmas.List.{get_or_read}
use Rattle.cfg_build.specs.Passes.{kind_in}
use Rattle.simplified_forms.specs.Items.{kind_at}
use Rattle.simplified_forms.specs.Plans.{answer}
use Rattle.simplified_forms.specs.Simplified.{has_mark, is_increment}
use Rattle.simplified_forms.specs.Tables.{AreAnswers}
use Rattle.simplified_forms.proofs.RangeCounts.{answers-push}
use Rattle.simplified_forms.proofs.plan.marked.Goals as goal

pub loop-k-preserved : goal.loop-k-preserved
loop-k-preserved c =
    let p = c.args.p.now in
    let items = c.args.ways.now.items.items in
    let jumped = c.in_ok-jumped.jumped.items in
    let k = c.loop-k.k in
    let less : k < length p.execs = omega (arith, c.loop-k-test.true, c.len-k-end.ensures) in
    let item : c.index-is_item.result.now ≡ answer items k = get_or_read items k c.index-is_item.result.now (omega (arith, less, c.requires.size)) c.index-is_item.ensures false in
    let told_jumped : c.index.result.now ≡ answer jumped k = get_or_read jumped k c.index.result.now (omega (arith, less, c.in_ok-jumped.ensures.size)) c.index.ensures false in
    record {
      size = search rules;
      marked = λ t told.
          let kind : c.at.result.now.kind ≡ kind_at p k = sym (ap kind_in c.at.ensures.item) in
          let is : c.is_marked.result ≡ has_mark p t (answer items) k =
          c.is_marked.ensures
          ∙ ap (λ b. b && (is_increment c.at.result.now.kind || c.index.result.now)) item
          ∙ ap (λ x. answer items k && (is_increment x || c.index.result.now)) kind
          ∙ ap (λ b. answer items k && (is_increment (kind_at p k) || b)) (told_jumped ∙ (c.in_ok-jumped.ensures.jumped t told).entry k less)
          in
          subst (λ (xs : List Bool). AreAnswers (has_mark p t (answer items)) (k + 1) xs) (sym c.in_ok-push.ensures.items) (answers-push (has_mark p t (answer items)) k c.is_marked.result c.loop-k.marked.items (c.loop-k.invariant.marked t told) is);
    }

pub returns-clause-marked : goal.returns-clause-marked
returns-clause-marked c = λ t told.
    let p = c.args.p.now in
    let end : c.loop-k.k ≡ length p.execs = omega (arith, c.loop-k-test.false, c.len-k-end.ensures) in
    subst (λ n. AreAnswers (has_mark p t (answer c.args.ways.now.items.items)) n c.loop-k.marked.items) end (c.loop-k.invariant.marked t told)
