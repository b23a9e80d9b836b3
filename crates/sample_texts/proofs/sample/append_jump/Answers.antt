use Rattle.std.proofs.Common.{◌++◌}
use Rattle.std.specs.Prelude.{codes, decimal}
use Rattle.std.proofs.lemmas.Result.{on_ok_weaker}
use Rattle.sample_texts.specs.SampleText.{labelled, statement}
use Rattle.sample_texts.proofs.Joined.{before}
use Rattle.sample_texts.proofs.sample.append_jump.Goals as goal

pub returns : goal.returns
returns c =
    let label = c.args.label in
    let old = c.args.out.now.items in
    let s1 = statement (codes "K=C-J") in
    let s2 = statement (codes "IF(K.LT.B)GO TO " ++ decimal label) in
    let s3 = statement (codes "C=K-1") in
    let s4 = labelled label (codes "A(1)=C") in
    let o1 = c.append_statement.new.out.items in
    let o2 = c.append_up_to_number.new.out.items in
    let o3 = c.append_statement-2.new.out.items in
    let e2 = before old o1 o2 s1 s2 c.in_ok-append_statement.ensures c.in_ok-append_up_to_number.ensures in
    let e3 = before old o2 o3 (s1 ++ s2) s3 e2 c.in_ok-append_statement-2.ensures in
    on_ok_weaker c.append_labelled.result (λ is. before old o3 c.append_labelled.new.out.items (s1 ++ s2 ++ s3) s4 e3 is) c.append_labelled.ensures
