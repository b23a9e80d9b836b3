use Rattle.std.proofs.Common.{◌∙◌, ℕ, List, [], get_or, ap, arith, Result, Ok, Err, OnErr}
use Rattle.std.proofs.lemmas.List.{get_or_default}
use Rattle.shared_rows.specs.Table.{Table, with_number}
use Rattle.shared_rows.proofs.Standing.{is_row, is_column, place_within}
use Rattle.shared_rows.proofs.Writing.{own_exists, same_rows, written_rows}
use Rattle.shared_rows.proofs.rows.SharedRows.set.Goals as goal

pub place-i-requires : goal.place-i-requires
place-i-requires c =
    let d = c.self.inside in
    let row = is_row d c.args.self.now c.self.view_is c.args.row c.requires.row in
    let column = is_column d c.args.self.now c.self.view_is c.args.column c.requires.column in
    let within = place_within d c.self.invariant c.args.row c.args.column row column in
    omega (arith, within, d.numbers.ok.0)

pub own_block-requires-clause-place : goal.own_block-requires-clause-place
own_block-requires-clause-place c =
    let d = c.self.inside in
    let row = is_row d c.args.self.now c.self.view_is c.args.row c.requires.row in
    let column = is_column d c.args.self.now c.self.view_is c.args.column c.requires.column in
    let within = place_within d c.self.invariant c.args.row c.args.column row column in
    let at = c.place-i.ensures in
    omega (arith, within, at)

on_err : {T E P : Type 0} (r : Result T E) → P → OnErr r P
on_err (Ok x) p = tt
on_err (Err e) p = p

pub returns-in_err-block-clause-err : goal.returns-in_err-block-clause-err
returns-in_err-block-clause-err c =
    let d = c.self.inside in
    on_err c.from_residual.result
    (ap (λ (xs : List (List ℕ)). record { width = d.width; rows = xs }) (same_rows d.pool.items c.own_block.new.pool.items d.numbers.items c.own_block.new.numbers.items d.blocks d.width d.count c.self.invariant.wide c.self.invariant.size c.own_block.ensures.same)
    ∙ c.self.view_is)

pub index_mut-requires : goal.index_mut-requires
index_mut-requires c =
    let d = c.self.inside in
    let row = is_row d c.args.self.now c.self.view_is c.args.row c.requires.row in
    let column = is_column d c.args.self.now c.self.view_is c.args.column c.requires.column in
    let exists = own_exists d.pool.items c.own_block.new.pool.items d.numbers.items c.own_block.new.numbers.items d.blocks d.width d.count c.self.invariant.wide c.self.invariant.size c.own_block.ensures.same
    d.own c.own_block.ensures.kept c.args.row c.args.column row column c.in_ok-block.block (c.in_ok-block.ensures.own.0 ∙ ap (λ i. get_or c.own_block.new.numbers.items i 0) c.place-i.ensures) in
    omega (arith, exists)

pub returns-clause-ok : goal.returns-clause-ok
returns-clause-ok c =
    let d = c.self.inside in
    let t = c.args.self.now in
    let row = is_row d t c.self.view_is c.args.row c.requires.row in
    let column = is_column d t c.self.view_is c.args.column c.requires.column in
    let is = c.in_ok-block.ensures.own.0 ∙ ap (λ i. get_or c.own_block.new.numbers.items i 0) c.place-i.ensures in
    let exists = own_exists d.pool.items c.own_block.new.pool.items d.numbers.items c.own_block.new.numbers.items d.blocks d.width d.count c.self.invariant.wide c.self.invariant.size c.own_block.ensures.same
    d.own c.own_block.ensures.kept c.args.row c.args.column row column c.in_ok-block.block is in
    let read = c.index_mut.ensures.value ∙ get_or_default c.own_block.new.pool.items c.in_ok-block.block c.index_mut.result.now [] exists in
    ap (λ (xs : List (List ℕ)). record { width = d.width; rows = xs })
    (written_rows d.pool.items c.own_block.new.pool.items d.numbers.items c.own_block.new.numbers.items d.blocks d.width d.count c.self.invariant.wide c.self.invariant.size c.own_block.ensures.same
    d.own c.own_block.ensures.kept c.args.row c.args.column row column c.in_ok-block.block is c.args.number c.in_ok-block.ensures.own.1 c.index_mut.result.now read)
    ∙ ap (λ (x : Table). with_number x c.args.row c.args.column c.args.number) c.self.view_is
