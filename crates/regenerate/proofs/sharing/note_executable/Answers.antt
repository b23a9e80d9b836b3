use Rattle.std.proofs.Common.{rules, ◌≡◌, ◌≤◌, List, Bool, length, ap, ◌∙◌, arith}
use Rattle.redundancy.specs.Computed.{computed_by}
use Rattle.cfg_build.specs.Flow.{piece_at}
use Rattle.simplified_forms.specs.Plans.{answer}
use Rattle.shared_forms.proofs.SharingLemmas.{numbers_at-below, noted-then, noted-else}
use Rattle.regenerate.proofs.sharing.note_executable.Goals as goal
use Rattle.regenerate.proofs.sharing.note_executable.Goals.{then-node-pieces, else-node-pieces}

pub note-requires-clause-numbers : goal.note-requires-clause-numbers
note-requires-clause-numbers c = numbers_at-below c.args.a.now.candidates (computed_by c.args.q.now.execs (piece_at c.args.f.now.pieces c.args.node)) c.deref.result.now (c.deref.ensures.value ∙ c.in_ok-numbers.ensures)

pub returns-clause-noted : goal.returns-clause-noted
returns-clause-noted c = λ n less.
    let q = c.args.q.now in
    let a = c.args.a.now in
    let f = c.args.f.now in
    let old = answer c.args.shared.now.items n in
    elim c.if-node-pieces.branch [
      | then-node-pieces w ↦
          let same : c.if-node-pieces.shared.items ≡ w.note.new.shared.items = search rules in
          ap (λ (xs : List Bool). answer xs n) same
          ∙ noted-then q a f c.args.k c.args.node w.deref.result.now c.requires.flow c.requires.node (w.deref.ensures.value ∙ c.in_ok-numbers.ensures) n old (answer w.note.new.shared.items n) (w.note.ensures.noted n less)
      | else-node-pieces w ↦
          let same : c.if-node-pieces.shared.items ≡ c.args.shared.now.items = search rules in
          let past : length f.pieces ≤ c.args.node = omega (arith, w.if-node-pieces.false, c.pieces.ensures.count) in
          noted-else q a f c.args.k c.args.node c.in_ok-numbers.numbers.items c.requires.flow c.requires.node c.in_ok-numbers.ensures n old (answer c.if-node-pieces.shared.items n) past (ap (λ (xs : List Bool). answer xs n) same)
    ]
