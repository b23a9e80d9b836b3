use Rattle.std.proofs.Common.{◌≡◌, ◌-◌, false, length, Some, slice_get, refl, sym, ap, ◌∙◌, subst, arith}
use Rattle.std.proofs.lemmas.Option.{slice_get_read}
use Rattle.op_net.specs.NetView.{marking_of as operations_on, net_of as net_in}
use Rattle.read_forks.specs.KeptLoads.{opened_of}
use Rattle.read_forks.specs.LoadChanges.{IsPut}
use Rattle.read_forks.specs.LoadSteps.{line_read}
use Rattle.read_forks.specs.OpenGroups.{marking_by}
use Rattle.read_forks.specs.RisingLinks.{line_in}
use Rattle.read_forks.specs.declared.steps.Group.{Group}
use Rattle.std.specs.Vec.{with_item}
use Rattle.read_forks.specs.declared.steps.Link.{Link}
use Rattle.read_forks.specs.declared.waiting.Waiting.{Waiting}
use Rattle.read_forks.proofs.ClosedLinks.{before_is, goes_kept, goes_read_then, goes_sound, group_is, in_groups, inside, low, put_then, some_left, stays_kept, stays_read_then}
use Rattle.read_forks.proofs.waiting.Waiting.close_link.Goals as goal

pub index-group-requires : goal.index-group-requires
index-group-requires g c =
    let x = net_in c.args.net.now in
    let m = operations_on c.args.net.now in
    let w = c.args.self.now in
    let q = c.requires in
    let link : Link = c.index.result.now in
    let is : slice_get w.links.items c.args.at ≡ Some link = slice_get_read w.links.items (length w.links.items) c.args.at link refl (inside x m w c.args.k c.args.step c.args.at q.sound q.lines q.step q.name q.from q.below) c.index.ensures in
    let low_group = in_groups x m w c.args.k c.args.step c.args.at q.sound q.lines q.step q.name q.from q.below link is q.open in
    omega (arith, low_group)

pub overflow_sub-group : goal.overflow_sub-group
overflow_sub-group g c =
    let x = net_in c.args.net.now in
    let m = operations_on c.args.net.now in
    let w = c.args.self.now in
    let q = c.requires in
    let link : Link = c.index.result.now in
    let group : Group = c.index-group.result.now in
    let is : slice_get w.links.items c.args.at ≡ Some link = slice_get_read w.links.items (length w.links.items) c.args.at link refl (inside x m w c.args.k c.args.step c.args.at q.sound q.lines q.step q.name q.from q.below) c.index.ensures in
    let was : slice_get w.groups.items link.line ≡ Some group = slice_get_read w.groups.items (length w.groups.items) link.line group refl (in_groups x m w c.args.k c.args.step c.args.at q.sound q.lines q.step q.name q.from q.below link is q.open) c.index-group.ensures in
    let some = some_left x m w c.args.k c.args.step c.args.at q.sound q.lines q.step q.name q.from q.below link is q.open (record link { «open» = false }) refl refl refl refl q.once q.ends group was in
    omega (arith, some)

pub index_mut-requires-2 : goal.index_mut-requires-2
index_mut-requires-2 g c =
    let x = net_in c.args.net.now in
    let m = operations_on c.args.net.now in
    let w = c.args.self.now in
    let q = c.requires in
    let link : Link = c.index.result.now in
    let is : slice_get w.links.items c.args.at ≡ Some link = slice_get_read w.links.items (length w.links.items) c.args.at link refl (inside x m w c.args.k c.args.step c.args.at q.sound q.lines q.step q.name q.from q.below) c.index.ensures in
    let low_group = in_groups x m w c.args.k c.args.step c.args.at q.sound q.lines q.step q.name q.from q.below link is q.open in
    omega (arith, low_group)

pub put_between-requires : goal.put_between-requires
put_between-requires g c =
    let x = net_in c.args.net.now in
    let m = operations_on c.args.net.now in
    let w = c.args.self.now in
    let q = c.requires in
    let link : Link = c.index.result.now in
    let group : Group = c.index-group.result.now in
    let is : slice_get w.links.items c.args.at ≡ Some link = slice_get_read w.links.items (length w.links.items) c.args.at link refl (inside x m w c.args.k c.args.step c.args.at q.sound q.lines q.step q.name q.from q.below) c.index.ensures in
    let was : slice_get w.groups.items link.line ≡ Some group = slice_get_read w.groups.items (length w.groups.items) link.line group refl (in_groups x m w c.args.k c.args.step c.args.at q.sound q.lines q.step q.name q.from q.below link is q.open) c.index-group.ensures in
    let at = group_is x m w c.args.k c.args.step c.args.at q.sound q.lines q.step q.name q.from q.below link is q.open group was in (
      omega arith,
      (
        low x m w c.args.k c.args.step c.args.at q.sound q.lines q.step q.name q.from q.below link is q.open,
        (
          at.exists,
          (
            before_is x m w c.args.k c.args.step c.args.at q.sound q.lines q.step q.name q.from q.below link is q.open group was,
            at.to,
          ),
        ),
      ),
    )

pub returns-then-group-eq1-clause-sound : goal.returns-then-group-eq1-clause-sound
returns-then-group-eq1-clause-sound g c =
    let x = net_in c.args.net.now in
    let m = operations_on c.args.net.now in
    let w = c.args.self.now in
    let q = c.requires in
    let link : Link = c.index.result.now in
    let group : Group = c.index-group.result.now in
    let is : slice_get w.links.items c.args.at ≡ Some link = slice_get_read w.links.items (length w.links.items) c.args.at link refl (inside x m w c.args.k c.args.step c.args.at q.sound q.lines q.step q.name q.from q.below) c.index.ensures in
    let was : slice_get w.groups.items link.line ≡ Some group = slice_get_read w.groups.items (length w.groups.items) link.line group refl (in_groups x m w c.args.k c.args.step c.args.at q.sound q.lines q.step q.name q.from q.below link is q.open) c.index-group.ensures in
    let link2 : Link = c.index_mut.result.now in
    let is2 : slice_get w.links.items c.args.at ≡ Some link2 = slice_get_read w.links.items (length w.links.items) c.args.at link2 refl (inside x m w c.args.k c.args.step c.args.at q.sound q.lines q.step q.name q.from q.below) c.index_mut.ensures.value in
    let links_same : Some link2 ≡ Some link = sym is2 ∙ is in
    let same : link2 ≡ link = cc in
    let changed : Link = record { line = link2.line; node = link2.node; way = link2.way; «open» = false } in
    let lines : changed.line ≡ link.line = ap (λ (l : Link). l.line) same in
    let nodes : changed.node ≡ link.node = ap (λ (l : Link). l.node) same in
    let ways : changed.way ≡ link.way = ap (λ (l : Link). l.way) same in
    let group2 : Group = c.index_mut-2.result.now in
    let was2 : slice_get w.groups.items link.line ≡ Some group2 = slice_get_read w.groups.items (length w.groups.items) link.line group2 refl (in_groups x m w c.args.k c.args.step c.args.at q.sound q.lines q.step q.name q.from q.below link is q.open) c.index_mut-2.ensures.value in
    let groups_same : Some group2 ≡ Some group = sym was2 ∙ was in
    let same_group : group2 ≡ group = cc in
    let h : Group = record { left = group.left - 1; edge = group2.edge; passed = group2.passed; from = group2.from; to = group2.to } in
    let then_is : Waiting = record { steps = w.steps; links = with_item w.links c.args.at changed; givers = w.givers; closed = w.closed; groups = with_item w.groups link.line h } in
    let h_is : h ≡ record group { left = group.left - 1 } = ap (λ (a : Group). record a { left = group.left - 1 }) same_group in
    let one : group.left ≡ 1 = omega (arith, c.if-group-eq1.true) in
    let n = operations_on c.put_between.new.self in
    goes_sound x m w c.args.k c.args.step c.args.at q.sound q.lines q.step q.name q.from q.below link is q.open changed lines nodes ways refl q.once q.ends group was then_is refl refl refl refl h h_is refl one n c.put_between.ensures.marking

pub returns-then-group-eq1-clause-marking : goal.returns-then-group-eq1-clause-marking
returns-then-group-eq1-clause-marking g c =
    let x = net_in c.args.net.now in
    let m = operations_on c.args.net.now in
    let w = c.args.self.now in
    let q = c.requires in
    let link : Link = c.index.result.now in
    let group : Group = c.index-group.result.now in
    let is : slice_get w.links.items c.args.at ≡ Some link = slice_get_read w.links.items (length w.links.items) c.args.at link refl (inside x m w c.args.k c.args.step c.args.at q.sound q.lines q.step q.name q.from q.below) c.index.ensures in
    let was : slice_get w.groups.items link.line ≡ Some group = slice_get_read w.groups.items (length w.groups.items) link.line group refl (in_groups x m w c.args.k c.args.step c.args.at q.sound q.lines q.step q.name q.from q.below link is q.open) c.index-group.ensures in
    let link2 : Link = c.index_mut.result.now in
    let is2 : slice_get w.links.items c.args.at ≡ Some link2 = slice_get_read w.links.items (length w.links.items) c.args.at link2 refl (inside x m w c.args.k c.args.step c.args.at q.sound q.lines q.step q.name q.from q.below) c.index_mut.ensures.value in
    let links_same : Some link2 ≡ Some link = sym is2 ∙ is in
    let same : link2 ≡ link = cc in
    let changed : Link = record { line = link2.line; node = link2.node; way = link2.way; «open» = false } in
    let lines : changed.line ≡ link.line = ap (λ (l : Link). l.line) same in
    let nodes : changed.node ≡ link.node = ap (λ (l : Link). l.node) same in
    let ways : changed.way ≡ link.way = ap (λ (l : Link). l.way) same in
    let group2 : Group = c.index_mut-2.result.now in
    let was2 : slice_get w.groups.items link.line ≡ Some group2 = slice_get_read w.groups.items (length w.groups.items) link.line group2 refl (in_groups x m w c.args.k c.args.step c.args.at q.sound q.lines q.step q.name q.from q.below link is q.open) c.index_mut-2.ensures.value in
    let groups_same : Some group2 ≡ Some group = sym was2 ∙ was in
    let same_group : group2 ≡ group = cc in
    let h : Group = record { left = group.left - 1; edge = group2.edge; passed = group2.passed; from = group2.from; to = group2.to } in
    let then_is : Waiting = record { steps = w.steps; links = with_item w.links c.args.at changed; givers = w.givers; closed = w.closed; groups = with_item w.groups link.line h } in
    let h_is : h ≡ record group { left = group.left - 1 } = ap (λ (a : Group). record a { left = group.left - 1 }) same_group in
    let one : group.left ≡ 1 = omega (arith, c.if-group-eq1.true) in
    let n = operations_on c.put_between.new.self in
    goes_read_then x m w c.args.k c.args.step c.args.at q.sound q.lines q.step q.name q.from q.below link is q.open changed lines nodes ways refl q.once q.ends group was then_is refl refl refl refl h h_is refl one n c.put_between.ensures.marking
    ∙ ap (line_read x c.args.step.piece c.args.step.number (marking_by x m (opened_of x w))) (sym (ap line_in is))

pub returns-then-group-eq1-clause-lines : goal.returns-then-group-eq1-clause-lines
returns-then-group-eq1-clause-lines g c =
    let x = net_in c.args.net.now in
    let m = operations_on c.args.net.now in
    let w = c.args.self.now in
    let q = c.requires in
    let link : Link = c.index.result.now in
    let group : Group = c.index-group.result.now in
    let is : slice_get w.links.items c.args.at ≡ Some link = slice_get_read w.links.items (length w.links.items) c.args.at link refl (inside x m w c.args.k c.args.step c.args.at q.sound q.lines q.step q.name q.from q.below) c.index.ensures in
    let was : slice_get w.groups.items link.line ≡ Some group = slice_get_read w.groups.items (length w.groups.items) link.line group refl (in_groups x m w c.args.k c.args.step c.args.at q.sound q.lines q.step q.name q.from q.below link is q.open) c.index-group.ensures in
    let link2 : Link = c.index_mut.result.now in
    let is2 : slice_get w.links.items c.args.at ≡ Some link2 = slice_get_read w.links.items (length w.links.items) c.args.at link2 refl (inside x m w c.args.k c.args.step c.args.at q.sound q.lines q.step q.name q.from q.below) c.index_mut.ensures.value in
    let links_same : Some link2 ≡ Some link = sym is2 ∙ is in
    let same : link2 ≡ link = cc in
    let changed : Link = record { line = link2.line; node = link2.node; way = link2.way; «open» = false } in
    let lines : changed.line ≡ link.line = ap (λ (l : Link). l.line) same in
    let nodes : changed.node ≡ link.node = ap (λ (l : Link). l.node) same in
    let ways : changed.way ≡ link.way = ap (λ (l : Link). l.way) same in
    let group2 : Group = c.index_mut-2.result.now in
    let was2 : slice_get w.groups.items link.line ≡ Some group2 = slice_get_read w.groups.items (length w.groups.items) link.line group2 refl (in_groups x m w c.args.k c.args.step c.args.at q.sound q.lines q.step q.name q.from q.below link is q.open) c.index_mut-2.ensures.value in
    let groups_same : Some group2 ≡ Some group = sym was2 ∙ was in
    let same_group : group2 ≡ group = cc in
    let h : Group = record { left = group.left - 1; edge = group2.edge; passed = group2.passed; from = group2.from; to = group2.to } in
    let then_is : Waiting = record { steps = w.steps; links = with_item w.links c.args.at changed; givers = w.givers; closed = w.closed; groups = with_item w.groups link.line h } in
    let h_is : h ≡ record group { left = group.left - 1 } = ap (λ (a : Group). record a { left = group.left - 1 }) same_group in
    let one : group.left ≡ 1 = omega (arith, c.if-group-eq1.true) in
    let n = operations_on c.put_between.new.self in
    goes_kept x m w c.args.k c.args.step c.args.at q.sound q.lines q.step q.name q.from q.below link is q.open changed lines nodes ways refl q.once q.ends group was then_is refl refl refl refl h h_is refl one n c.put_between.ensures.marking

pub returns-then-group-eq1-clause-opened : goal.returns-then-group-eq1-clause-opened
returns-then-group-eq1-clause-opened g c =
    let x = net_in c.args.net.now in
    let m = operations_on c.args.net.now in
    let w = c.args.self.now in
    let q = c.requires in
    let link : Link = c.index.result.now in
    let group : Group = c.index-group.result.now in
    let is : slice_get w.links.items c.args.at ≡ Some link = slice_get_read w.links.items (length w.links.items) c.args.at link refl (inside x m w c.args.k c.args.step c.args.at q.sound q.lines q.step q.name q.from q.below) c.index.ensures in
    let was : slice_get w.groups.items link.line ≡ Some group = slice_get_read w.groups.items (length w.groups.items) link.line group refl (in_groups x m w c.args.k c.args.step c.args.at q.sound q.lines q.step q.name q.from q.below link is q.open) c.index-group.ensures in
    let link2 : Link = c.index_mut.result.now in
    let is2 : slice_get w.links.items c.args.at ≡ Some link2 = slice_get_read w.links.items (length w.links.items) c.args.at link2 refl (inside x m w c.args.k c.args.step c.args.at q.sound q.lines q.step q.name q.from q.below) c.index_mut.ensures.value in
    let links_same : Some link2 ≡ Some link = sym is2 ∙ is in
    let same : link2 ≡ link = cc in
    let changed : Link = record { line = link2.line; node = link2.node; way = link2.way; «open» = false } in
    let lines : changed.line ≡ link.line = ap (λ (l : Link). l.line) same in
    let nodes : changed.node ≡ link.node = ap (λ (l : Link). l.node) same in
    let ways : changed.way ≡ link.way = ap (λ (l : Link). l.way) same in
    let group2 : Group = c.index_mut-2.result.now in
    let was2 : slice_get w.groups.items link.line ≡ Some group2 = slice_get_read w.groups.items (length w.groups.items) link.line group2 refl (in_groups x m w c.args.k c.args.step c.args.at q.sound q.lines q.step q.name q.from q.below link is q.open) c.index_mut-2.ensures.value in
    let groups_same : Some group2 ≡ Some group = sym was2 ∙ was in
    let same_group : group2 ≡ group = cc in
    let h : Group = record { left = group.left - 1; edge = group2.edge; passed = group2.passed; from = group2.from; to = group2.to } in
    let then_is : Waiting = record { steps = w.steps; links = with_item w.links c.args.at changed; givers = w.givers; closed = w.closed; groups = with_item w.groups link.line h } in
    let h_is : h ≡ record group { left = group.left - 1 } = ap (λ (a : Group). record a { left = group.left - 1 }) same_group in
    subst (λ l. IsPut l c.args.step.piece c.args.step.number false (opened_of x w) (opened_of x then_is)) (sym (ap line_in is)) (put_then x m w c.args.k c.args.step c.args.at q.sound q.lines q.step q.name q.from q.below link is q.open changed lines nodes ways refl q.once q.ends group was then_is refl refl refl refl h h_is refl)

pub returns-else-group-eq1-clause-marking : goal.returns-else-group-eq1-clause-marking
returns-else-group-eq1-clause-marking g c =
    let x = net_in c.args.net.now in
    let m = operations_on c.args.net.now in
    let w = c.args.self.now in
    let q = c.requires in
    let link : Link = c.index.result.now in
    let group : Group = c.index-group.result.now in
    let is : slice_get w.links.items c.args.at ≡ Some link = slice_get_read w.links.items (length w.links.items) c.args.at link refl (inside x m w c.args.k c.args.step c.args.at q.sound q.lines q.step q.name q.from q.below) c.index.ensures in
    let was : slice_get w.groups.items link.line ≡ Some group = slice_get_read w.groups.items (length w.groups.items) link.line group refl (in_groups x m w c.args.k c.args.step c.args.at q.sound q.lines q.step q.name q.from q.below link is q.open) c.index-group.ensures in
    let link2 : Link = c.index_mut.result.now in
    let is2 : slice_get w.links.items c.args.at ≡ Some link2 = slice_get_read w.links.items (length w.links.items) c.args.at link2 refl (inside x m w c.args.k c.args.step c.args.at q.sound q.lines q.step q.name q.from q.below) c.index_mut.ensures.value in
    let links_same : Some link2 ≡ Some link = sym is2 ∙ is in
    let same : link2 ≡ link = cc in
    let changed : Link = record { line = link2.line; node = link2.node; way = link2.way; «open» = false } in
    let lines : changed.line ≡ link.line = ap (λ (l : Link). l.line) same in
    let nodes : changed.node ≡ link.node = ap (λ (l : Link). l.node) same in
    let ways : changed.way ≡ link.way = ap (λ (l : Link). l.way) same in
    let group2 : Group = c.index_mut-2.result.now in
    let was2 : slice_get w.groups.items link.line ≡ Some group2 = slice_get_read w.groups.items (length w.groups.items) link.line group2 refl (in_groups x m w c.args.k c.args.step c.args.at q.sound q.lines q.step q.name q.from q.below link is q.open) c.index_mut-2.ensures.value in
    let groups_same : Some group2 ≡ Some group = sym was2 ∙ was in
    let same_group : group2 ≡ group = cc in
    let h : Group = record { left = group.left - 1; edge = group2.edge; passed = group2.passed; from = group2.from; to = group2.to } in
    let then_is : Waiting = record { steps = w.steps; links = with_item w.links c.args.at changed; givers = w.givers; closed = w.closed; groups = with_item w.groups link.line h } in
    let h_is : h ≡ record group { left = group.left - 1 } = ap (λ (a : Group). record a { left = group.left - 1 }) same_group in
    let more : group.left ≡ 1 → ⊥ = λ e. omega (arith, e, c.if-group-eq1.false) in
    stays_read_then x m w c.args.k c.args.step c.args.at q.sound q.lines q.step q.name q.from q.below link is q.open changed lines nodes ways refl q.once q.ends group was then_is refl refl refl refl h h_is refl more
    ∙ ap (line_read x c.args.step.piece c.args.step.number (marking_by x m (opened_of x w))) (sym (ap line_in is))

pub returns-else-group-eq1-clause-lines : goal.returns-else-group-eq1-clause-lines
returns-else-group-eq1-clause-lines g c =
    let x = net_in c.args.net.now in
    let m = operations_on c.args.net.now in
    let w = c.args.self.now in
    let q = c.requires in
    let link : Link = c.index.result.now in
    let group : Group = c.index-group.result.now in
    let is : slice_get w.links.items c.args.at ≡ Some link = slice_get_read w.links.items (length w.links.items) c.args.at link refl (inside x m w c.args.k c.args.step c.args.at q.sound q.lines q.step q.name q.from q.below) c.index.ensures in
    let was : slice_get w.groups.items link.line ≡ Some group = slice_get_read w.groups.items (length w.groups.items) link.line group refl (in_groups x m w c.args.k c.args.step c.args.at q.sound q.lines q.step q.name q.from q.below link is q.open) c.index-group.ensures in
    let link2 : Link = c.index_mut.result.now in
    let is2 : slice_get w.links.items c.args.at ≡ Some link2 = slice_get_read w.links.items (length w.links.items) c.args.at link2 refl (inside x m w c.args.k c.args.step c.args.at q.sound q.lines q.step q.name q.from q.below) c.index_mut.ensures.value in
    let links_same : Some link2 ≡ Some link = sym is2 ∙ is in
    let same : link2 ≡ link = cc in
    let changed : Link = record { line = link2.line; node = link2.node; way = link2.way; «open» = false } in
    let lines : changed.line ≡ link.line = ap (λ (l : Link). l.line) same in
    let nodes : changed.node ≡ link.node = ap (λ (l : Link). l.node) same in
    let ways : changed.way ≡ link.way = ap (λ (l : Link). l.way) same in
    let group2 : Group = c.index_mut-2.result.now in
    let was2 : slice_get w.groups.items link.line ≡ Some group2 = slice_get_read w.groups.items (length w.groups.items) link.line group2 refl (in_groups x m w c.args.k c.args.step c.args.at q.sound q.lines q.step q.name q.from q.below link is q.open) c.index_mut-2.ensures.value in
    let groups_same : Some group2 ≡ Some group = sym was2 ∙ was in
    let same_group : group2 ≡ group = cc in
    let h : Group = record { left = group.left - 1; edge = group2.edge; passed = group2.passed; from = group2.from; to = group2.to } in
    let then_is : Waiting = record { steps = w.steps; links = with_item w.links c.args.at changed; givers = w.givers; closed = w.closed; groups = with_item w.groups link.line h } in
    let h_is : h ≡ record group { left = group.left - 1 } = ap (λ (a : Group). record a { left = group.left - 1 }) same_group in
    let more : group.left ≡ 1 → ⊥ = λ e. omega (arith, e, c.if-group-eq1.false) in
    stays_kept x m w c.args.k c.args.step c.args.at q.sound q.lines q.step q.name q.from q.below link is q.open changed lines nodes ways refl q.once q.ends group was then_is refl refl refl refl h h_is refl more

pub returns-else-group-eq1-clause-opened : goal.returns-else-group-eq1-clause-opened
returns-else-group-eq1-clause-opened g c =
    let x = net_in c.args.net.now in
    let m = operations_on c.args.net.now in
    let w = c.args.self.now in
    let q = c.requires in
    let link : Link = c.index.result.now in
    let group : Group = c.index-group.result.now in
    let is : slice_get w.links.items c.args.at ≡ Some link = slice_get_read w.links.items (length w.links.items) c.args.at link refl (inside x m w c.args.k c.args.step c.args.at q.sound q.lines q.step q.name q.from q.below) c.index.ensures in
    let was : slice_get w.groups.items link.line ≡ Some group = slice_get_read w.groups.items (length w.groups.items) link.line group refl (in_groups x m w c.args.k c.args.step c.args.at q.sound q.lines q.step q.name q.from q.below link is q.open) c.index-group.ensures in
    let link2 : Link = c.index_mut.result.now in
    let is2 : slice_get w.links.items c.args.at ≡ Some link2 = slice_get_read w.links.items (length w.links.items) c.args.at link2 refl (inside x m w c.args.k c.args.step c.args.at q.sound q.lines q.step q.name q.from q.below) c.index_mut.ensures.value in
    let links_same : Some link2 ≡ Some link = sym is2 ∙ is in
    let same : link2 ≡ link = cc in
    let changed : Link = record { line = link2.line; node = link2.node; way = link2.way; «open» = false } in
    let lines : changed.line ≡ link.line = ap (λ (l : Link). l.line) same in
    let nodes : changed.node ≡ link.node = ap (λ (l : Link). l.node) same in
    let ways : changed.way ≡ link.way = ap (λ (l : Link). l.way) same in
    let group2 : Group = c.index_mut-2.result.now in
    let was2 : slice_get w.groups.items link.line ≡ Some group2 = slice_get_read w.groups.items (length w.groups.items) link.line group2 refl (in_groups x m w c.args.k c.args.step c.args.at q.sound q.lines q.step q.name q.from q.below link is q.open) c.index_mut-2.ensures.value in
    let groups_same : Some group2 ≡ Some group = sym was2 ∙ was in
    let same_group : group2 ≡ group = cc in
    let h : Group = record { left = group.left - 1; edge = group2.edge; passed = group2.passed; from = group2.from; to = group2.to } in
    let then_is : Waiting = record { steps = w.steps; links = with_item w.links c.args.at changed; givers = w.givers; closed = w.closed; groups = with_item w.groups link.line h } in
    let h_is : h ≡ record group { left = group.left - 1 } = ap (λ (a : Group). record a { left = group.left - 1 }) same_group in
    subst (λ l. IsPut l c.args.step.piece c.args.step.number false (opened_of x w) (opened_of x then_is)) (sym (ap line_in is)) (put_then x m w c.args.k c.args.step c.args.at q.sound q.lines q.step q.name q.from q.below link is q.open changed lines nodes ways refl q.once q.ends group was then_is refl refl refl refl h h_is refl)
