use Rattle.std.proofs.Common.{◌++◌}
use Rattle.std.specs.Prelude.{codes, decimal}
use Rattle.std.proofs.lemmas.Result.{on_ok_weaker}
use Rattle.sample_texts.specs.SampleText.{labelled, statement}
use Rattle.sample_texts.proofs.Joined.{before}
use Rattle.sample_texts.proofs.sample.append_loop.Goals as goal

pub returns : goal.returns
returns c =
    let label = c.args.label in
    let old = c.args.out.now.items in
    let s1 = statement (codes "J=" ++ decimal c.args.block) in
    let s2 = statement (codes "DO " ++ decimal label ++ codes " I=1,4") in
    let s3 = statement (codes "A(I)=A(I)+J") in
    let s4 = statement (codes "IF(A(I).GT.B)GO TO " ++ decimal label) in
    let s5 = statement (codes "C=C+B*J") in
    let s6 = labelled label (codes "B=B+1") in
    let o1 = c.append_up_to_number.new.out.items in
    let o2 = c.append_around_number.new.out.items in
    let o3 = c.append_statement.new.out.items in
    let o4 = c.append_up_to_number-2.new.out.items in
    let o5 = c.append_statement-2.new.out.items in
    let e2 = before old o1 o2 s1 s2 c.in_ok-append_up_to_number.ensures c.in_ok-append_around_number.ensures in
    let e3 = before old o2 o3 (s1 ++ s2) s3 e2 c.in_ok-append_statement.ensures in
    let e4 = before old o3 o4 (s1 ++ s2 ++ s3) s4 e3 c.in_ok-append_up_to_number-2.ensures in
    let e5 = before old o4 o5 (s1 ++ s2 ++ s3 ++ s4) s5 e4 c.in_ok-append_statement-2.ensures in
    on_ok_weaker c.append_labelled.result (λ is. before old o5 c.append_labelled.new.out.items (s1 ++ s2 ++ s3 ++ s4 ++ s5) s6 e5 is) c.append_labelled.ensures
