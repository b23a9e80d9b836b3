use Rattle.std.proofs.Common.{◌≡◌, ◌+◌, All, List, [], ◌∷◌, ◌++◌, ℕ, length, map, ap, sym, subst, ◌∙◌, arith}
use Rattle.std.proofs.lemmas.List.{length-append}
use Rattle.flat_programs.specs.declared.statements.FlatLine.{FlatLine}
use Rattle.simplified_forms.specs.Items.{own_piece}
use Rattle.shared_forms.specs.Numbered.{number_of, IsSharedNumber}
use Rattle.shared_forms.specs.Shared.{kept_value, replaced_in}
use Rattle.simplified_forms.specs.Simplified.{most_statements}
use Rattle.simplified_forms.proofs.RangeCounts.{entry_read}
use Rattle.shared_forms.proofs.SharedLineLemmas.{due-shared, first-below, first-read, line-length, line-shared, lines-many, lines-next}
use Rattle.regenerate.proofs.TurnedLists.{next-turned}
use Rattle.regenerate.proofs.shared_lines.shared_statements.Goals as goal

pub index-node-requires : goal.index-node-requires
index-node-requires c =
    let flat = c.args.flat in
    let place = c.loop-l.place in
    let here_is = next-turned flat place c.in-Some.l c.loop-l.waiting c.pop.new.self c.loop-l.invariant.waiting c.in-Some.ensures.items in
    let less = here_is.within in
    let within = first-below flat place c.index-k.result.now c.in-Some.l c.in_ok-first.first.items c.args.t.now.q.now.execs c.in_ok-first.ensures less here_is.item c.requires.execs c.index-k.ensures in
    omega (arith, within, c.in_ok-own.ensures.size)

pub due-requires-clause-node : goal.due-requires-clause-node
due-requires-clause-node c =
    let q = c.args.t.now.q.now in
    let flat = c.args.flat in
    let place = c.loop-l.place in
    let here_is = next-turned flat place c.in-Some.l c.loop-l.waiting c.pop.new.self c.loop-l.invariant.waiting c.in-Some.ensures.items in
    let less = here_is.within in
    let within = first-below flat place c.index-k.result.now c.in-Some.l c.in_ok-first.first.items q.execs c.in_ok-first.ensures less here_is.item c.requires.execs c.index-k.ensures in
    entry_read (own_piece q) (length q.execs) c.index-k.result.now c.index-node.result.now c.in_ok-own.own.items c.in_ok-own.ensures within c.index-node.ensures

pub returns-then-from-len : goal.returns-then-from-len
returns-then-from-len c =
    let q = c.args.t.now.q.now in
    let a = c.args.t.now.a.now in
    let flat = c.args.flat in
    let place = c.loop-l.place in
    let k = c.index-k.result.now in
    let l = c.in-Some.l in
    let ns = c.in_ok-due.due.items in
    let here_is = next-turned flat place c.in-Some.l c.loop-l.waiting c.pop.new.self c.loop-l.invariant.waiting c.in-Some.ensures.items in
    let less = here_is.within in
    let first = first-read flat place k c.in_ok-first.first.items c.in_ok-first.ensures less c.index-k.ensures in
    let last : FlatLine = record { line = l.line; stmt = replaced_in q a (number_of a) l.stmt } in
    let here : List FlatLine = map (kept_value q a (number_of a) l.line) ns ++ last ∷ [] in
    let is = line-shared q a flat place k l ns here_is.item first c.in_ok-due.ensures in
    let few = line-length q a l.line last ns in
    let so_far = ap length c.loop-l.invariant.all in
    lines-many q a flat place most_statements here less is (omega (arith, few, so_far))

pub append_statement-requires-clause-due : goal.append_statement-requires-clause-due
append_statement-requires-clause-due c =
    let q = c.args.t.now.q.now in
    let a = c.args.t.now.a.now in
    subst (λ (ns : List ℕ). All (IsSharedNumber q a) ns) (sym (c.deref.ensures.value ∙ c.in_ok-due.ensures)) (due-shared q a c.index-k.result.now)

pub loop-l-preserved : goal.loop-l-preserved
loop-l-preserved c =
    let q = c.args.t.now.q.now in
    let a = c.args.t.now.a.now in
    let flat = c.args.flat in
    let place = c.loop-l.place in
    let l = c.in-Some.l in
    let ns = c.deref.result.now in
    let here_is = next-turned flat place c.in-Some.l c.loop-l.waiting c.pop.new.self c.loop-l.invariant.waiting c.in-Some.ensures.items in
    let less = here_is.within in
    let first = first-read flat place c.index-k.result.now c.in_ok-first.first.items c.in_ok-first.ensures less c.index-k.ensures in
    let last : FlatLine = record { line = l.line; stmt = replaced_in q a (number_of a) l.stmt } in
    let here : List FlatLine = map (kept_value q a (number_of a) l.line) ns ++ last ∷ [] in
    let is = line-shared q a flat place c.index-k.result.now l ns here_is.item first (c.deref.ensures.value ∙ c.in_ok-due.ensures) in
    let size : length c.append_statement.new.all ≡ length c.loop-l.all + length here = ap length c.in_ok-append_statement.ensures ∙ length-append c.loop-l.all here in
    let few = line-length q a l.line last ns in
    record {
      place = omega (arith, less);
      waiting = here_is.others;
      few = omega (arith, size, few, ap length c.deref.ensures.value);
      all = lines-next q a flat place c.loop-l.all c.append_statement.new.all here c.loop-l.invariant.all is c.in_ok-append_statement.ensures;
    }
