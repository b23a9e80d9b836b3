use Rattle.std.proofs.Common.{rules, ◌≡◌, ◌+◌, ◌<◌, length, sym, ap, ◌∙◌, arith, Some, true, false}
use Rattle.std.specs.Prelude.{slice_get, nat_lt}
use Rattle.flat_programs.specs.Marks.{mark_at, loop_at, is_end, variable_in}
use Rattle.flat_programs.specs.Executables.{first_of, increment}
use Rattle.flat_programs.proofs.FlowLemmas.{number_within, end_found, test_is, entry_read, increments-none, increments-some, increment-is}
use Rattle.flat_programs.proofs.executables.increment_at.Goals as goal

pub index-head-requires : goal.index-head-requires
index-head-requires c =
    let flat = c.args.flat.now in
    omega (arith, c.requires.flow.ends.size, number_within flat c.args.place c.index.result.now c.args.flow.now.numbers.items c.requires.flow.numbers c.requires.place c.index.ensures)

pub returns-then-head-len : goal.returns-then-head-len
returns-then-head-len c =
    let flat = c.args.flat.now in
    let place = c.args.place in
    let head = c.index-head.result.now in
    let number = mark_at flat place in
    let is = end_found flat place c.index.result.now head c.args.flow.now.numbers.items c.args.flow.now.ends.items c.requires.flow.numbers c.requires.flow.ends c.requires.place c.index.ensures c.index-head.ensures in
    let past : nat_lt head (length flat) ≡ false = search rules in
    let none : is_end flat number ≡ false = sym (test_is flat head place is) ∙ past in
    sym (increments-none flat number (first_of flat (place + 1)) none)

pub returns : goal.returns
returns c =
    let flat = c.args.flat.now in
    let place = c.args.place in
    let head = c.index-head.result.now in
    let number = mark_at flat place in
    let first = c.args.flow.now.first.items in
    let is = end_found flat place c.index.result.now head c.args.flow.now.numbers.items c.args.flow.now.ends.items c.requires.flow.numbers c.requires.flow.ends c.requires.place c.index.ensures c.index-head.ensures in
    let inside : nat_lt head (length flat) ≡ true = search rules in
    let below : head < length flat = search rules in
    let some : is_end flat number ≡ true = sym (test_is flat head place is) ∙ inside in
    let l = c.at.result.now in
    let a : c.index-2.result.now ≡ loop_at flat head = entry_read flat (loop_at flat) (length flat + 1) head c.index-2.result.now c.args.flow.now.loops.items c.requires.flow.loops (omega (arith, below)) c.index-2.ensures in
    let b : c.variable.result ≡ variable_in (slice_get flat head) = c.variable.ensures ∙ ap variable_in (sym c.at.ensures.item) in
    let d : c.index-3.result.now ≡ first_of flat (head + 1) = entry_read flat (first_of flat) (length flat + 1) (head + 1) c.index-3.result.now first c.requires.flow.first (omega (arith, below)) c.index-3.ensures in
    let e : c.index-4.result.now ≡ first_of flat (place + 1) = entry_read flat (first_of flat) (length flat + 1) (place + 1) c.index-4.result.now first c.requires.flow.first (omega (arith, c.requires.place)) c.index-4.ensures in
    ap Some (increment-is flat head (first_of flat (place + 1)) c.index-2.result.now c.variable.result c.index-3.result.now c.index-4.result.now a b d e) ∙ ap (λ h. Some (increment flat h (first_of flat (place + 1)))) is ∙ sym (increments-some flat number (first_of flat (place + 1)) some)
