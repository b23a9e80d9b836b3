use Rattle.std.proofs.Common.{◌≡◌, Some, None, sym, ◌∙◌, arith}
use Rattle.program_units.specs.Merged.{first_with_block}
use Rattle.entity_names.proofs.FirstBlocks.{no-size, size-kept, table-inside}
use Rattle.f77_subs.proofs.declaring.block_size.Goals as goal

pub index-requires : goal.index-requires
index-requires c =
    let put = c.args.put.now in
    let us = put.new.now.text.now.us.now in
    let block = c.args.block.now in
    let k = c.in-Some.k.now in
    let first : first_with_block us block ≡ Some k = sym (put.first_units block) ∙ sym c.in-Some.ensures.value in
    let kept = put.new.now.text.now.kept in
    let inside = table-inside us kept.items put.new.now.text.now.all_kept block k first in
    omega (arith, inside, kept.ok.0)

pub returns-in-Some : goal.returns-in-Some
returns-in-Some c =
    let put = c.args.put.now in
    let us = put.new.now.text.now.us.now in
    let block = c.args.block.now in
    let k = c.in-Some.k.now in
    let first : first_with_block us block ≡ Some k = sym (put.first_units block) ∙ sym c.in-Some.ensures.value in
    size-kept us put.new.now.text.now.kept.items put.new.now.text.now.all_kept block k c.size.result c.index.result.now first c.index.ensures c.size.ensures

pub returns-in-None : goal.returns-in-None
returns-in-None c =
    let put = c.args.put.now in
    let us = put.new.now.text.now.us.now in
    let block = c.args.block.now in
    let none : first_with_block us block ≡ None = sym (put.first_units block) ∙ sym c.in-None.ensures.value in
    sym (no-size us block none)
