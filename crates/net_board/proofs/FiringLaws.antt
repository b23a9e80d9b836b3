-- Nets keep the laws of firing, by their footprints.
use Rattle.std.proofs.Common.{◌≡◌, ◌<◌, ◌≤◌, ◌⊎◌, inl, inr, ⊎_elim, ℕ, zero, suc, ◌==◌, ◌&&◌, Bool, true, false, not, if◌then◌else◌, pos, List, [], ◌∷◌, length, replicate, Option, Some, None, is_some, slice_get, slice_index, slice_set, refl, sym, ap, ◌∙◌, subst, arith}
use Rattle.std.specs.List.{list_all, range_with_len}
use Rattle.std.specs.Option.{option_map}
use Rattle.std.proofs.lemmas.List.{length-map, length-replicate}
use Rattle.std.proofs.lemmas.List.FromFn.{length-range_with_len}
use Rattle.std.proofs.lemmas.Option.{slice_get-map}
use Rattle.std.proofs.lemmas.Bool.{cases_Bool, eqb-true, eq-eqb}
use Rattle.op_table.specs.declared.Trap.{Trap as Kind_of_trap}
use Rattle.closed_walks.specs.Graph.{Graph, edge_count, from, to}
use Rattle.f77_tree.specs.declared.programs.Exec.{Exec}
use Rattle.f77_tree.specs.declared.programs.ExecKind.{ExecKind}
use Rattle.f77_tree.specs.declared.programs.ExecKind.TheVariants as exec
use Rattle.f77_tree.specs.CanRun.{CanExecute}
use Rattle.f77_tree.specs.Execution.{Memory}
use Rattle.alias_classes.specs.Classes.{ClassTable, class_of_word, class_of_loop, class_count}
use Rattle.cfg_build.specs.declared.pieces.PieceKind.{PieceKind}
use Rattle.cfg_build.specs.declared.pieces.PieceKind.TheVariants as kind
use Rattle.cfg_build.specs.Flow.{flow, piece_at}
use Rattle.cfg_build.specs.Passes.{Passed, Along, Traps, Done, IfAlong, out, outs, kind_in as exec_in}
use Rattle.dep_routing.specs.Touches.{piece_kind, exec_kind, KindNeeds}
use Rattle.dep_routing.specs.Routing.{next_at}
use Rattle.firing.specs.declared.system.NodeName.{NodeName}
use Rattle.firing.specs.declared.system.NodeName.TheVariants.{Act, Merge, Switch, Op}
use Rattle.firing.specs.Footprints.{HasFootprints}
use Rattle.firing.specs.Laws.{IsLawful, AreReady}
use Rattle.firing.proofs.FootprintLemmas.{lawful as by_feet}
use Rattle.net_board.specs.SoundNets.{IsNet, IsMarking, HasSizesOf, CanCome}
use Rattle.net_board.specs.Footprints.{Part, Line, Left, Word, Count, StepOf, Taken, Trap, at, is_switch, foot_as, foot}
use Rattle.net_board.specs.ProgramFacts.{ProgramFacts}
use Rattle.list_laws.specs.Member.{Member}
use Rattle.net_board.specs.Nodes.{is_acting, NetOf, graph_in, kind_in, all_lines, touched, nodes_of, node_at, switches}
use Rattle.net_board.specs.Tokens.{Tokens, joined, edge_of, left_for, leads_to, is_before, ready_as, pass_at, with_all, led_from, gone, stopped, acted, switched, merged, fired_as, written, text_of, line_as, serial_as, net_moves, first_tokens}
use Rattle.list_laws.proofs.Members.{Member-filtered, Member-in_range, list_any_member, IsPassed, member_of_list_any}
use Rattle.net_board.proofs.NodeLaws.{piece_of, Fits, touched_is, is_touched, one_number, IsNamed, named, switch_is}
use Rattle.net_board.proofs.PassEffects.{IsTouching, AgreeOn, KeepsOthers, PassAlike, IsFramed, pass_alike, pass_framed, pass_out}
use Rattle.net_board.proofs.ListPlaces.{same_list, put, get_set_same, get_set_other, length_slice_set, length_with_all, with_all_other, with_all_same, same_or_not, member_or_not, all_pass, same_tests}
use Rattle.std.proofs.lemmas.Bool.{and_parts}

-- ---- equal parts

pub equal : (m n : Tokens) → ((part : Part) → at m part ≡ at n part) → m ≡ n
equal m n same =
    let lines = same_list m.lines n.lines (λ k. same (Line k)) in
    let edges = same_list m.edges n.edges (λ k. same (Left k)) in
    let store = same_list m.memory.store n.memory.store (λ k. same (Word k)) in
    let counts = same_list m.memory.counts n.memory.counts (λ k. same (Count k)) in
    let steps = same_list m.memory.steps n.memory.steps (λ k. same (StepOf k)) in
    let taken = same Taken in
    let trap = same Trap in
    λ i. record { lines = lines i; edges = edges i; memory = record { store = store i; counts = counts i; steps = steps i; taken = taken i }; trap = trap i }

-- ---- many places

pub with_all_alike : (a b : List (Option ℕ)) (places : List ℕ) (value : ℕ → Option ℕ) (k : ℕ) → slice_get a k ≡ slice_get b k → slice_get (with_all a places value) k ≡ slice_get (with_all b places value) k
with_all_alike a b places value k same = by (member_or_not places k)
  where
    by : Member places k ⊎ (Member places k → ⊥) → slice_get (with_all a places value) k ≡ slice_get (with_all b places value) k
    by (inl m) = with_all_same a places value k m ∙ ap (put (value k)) same ∙ sym (with_all_same b places value k m)
    by (inr none) = with_all_other a places value k none ∙ same ∙ sym (with_all_other b places value k none)

pub set_alike : (a b : List (Option ℕ)) (place : ℕ) (value : Option ℕ) (k : ℕ) → slice_get a k ≡ slice_get b k → slice_get (slice_set a place value) k ≡ slice_get (slice_set b place value) k
set_alike a b place value k same = by (same_or_not place k)
  where
    by : (place ≡ k) ⊎ (place ≡ k → ⊥) → slice_get (slice_set a place value) k ≡ slice_get (slice_set b place value) k
    by (inl e) = subst (λ (p : ℕ). slice_get (slice_set a p value) k ≡ slice_get (slice_set b p value) k) (sym e) (get_set_same a k value ∙ ap (put value) same ∙ sym (get_set_same b k value))
    by (inr n) = get_set_other a place k value n ∙ same ∙ sym (get_set_other b place k value n)

-- what stands at any place then is an edge of so many
pub with_all_below : (bound : ℕ) (values : List (Option ℕ)) (places : List ℕ) (value : ℕ → Option ℕ) → ((k e : ℕ) → joined (slice_get values k) ≡ Some e → e < bound) → ((k e : ℕ) → Member places k → value k ≡ Some e → e < bound) → (k e : ℕ) → joined (slice_get (with_all values places value) k) ≡ Some e → e < bound
with_all_below bound values places value old new k e is = by (member_or_not places k)
  where
    put_is : (o : Option (Option ℕ)) → joined (put (value k) o) ≡ Some e → value k ≡ Some e
    put_is None is = absurd cc
    put_is (Some x) is = is

    by : Member places k ⊎ (Member places k → ⊥) → e < bound
    by (inl m) = new k e m (put_is (slice_get values k) (sym (ap joined (with_all_same values places value k m)) ∙ is))
    by (inr none) = old k e (sym (ap joined (with_all_other values places value k none)) ∙ is)

pub set_below : (bound : ℕ) (values : List (Option ℕ)) (place : ℕ) (value : Option ℕ) → ((k e : ℕ) → joined (slice_get values k) ≡ Some e → e < bound) → ((e : ℕ) → value ≡ Some e → e < bound) → (k e : ℕ) → joined (slice_get (slice_set values place value) k) ≡ Some e → e < bound
set_below bound values place value old new k e is = by (same_or_not place k)
  where
    put_is : (o : Option (Option ℕ)) → joined (put value o) ≡ Some e → value ≡ Some e
    put_is None is = absurd cc
    put_is (Some x) is = is

    by : (place ≡ k) ⊎ (place ≡ k → ⊥) → e < bound
    by (inl same) = new e (put_is (slice_get values k) (sym (ap joined (subst (λ (p : ℕ). slice_get (slice_set values p value) k ≡ put value (slice_get values k)) (sym same) (get_set_same values k value))) ∙ is))
    by (inr n) = old k e (sym (ap joined (get_set_other values place k value n)) ∙ is)

-- ---- edges that leave a piece

slice_index_below : (bound : ℕ) → 0 < bound → (xs : List ℕ) → ((x : ℕ) → Member xs x → x < bound) → (i : ℕ) → slice_index xs i < bound
slice_index_below bound some [] below i = some
slice_index_below bound some (x ∷ xs) below zero = below x (inl refl)
slice_index_below bound some (x ∷ xs) below (suc i) = slice_index_below bound some xs (λ y m. below y (inr m)) i

pub out_below : (g : Graph) (piece i : ℕ) → 0 < edge_count g → out g piece i < edge_count g
out_below g piece i some =
    slice_index_below (edge_count g) some (outs g piece) (λ e m. let f = Member-filtered (λ e. from g e == piece) (range_with_len 0 (edge_count g)) e m in let r = Member-in_range 0 (edge_count g) e f.0 in let high = r.1 in omega (arith, high)) i

-- ---- what a piece needs

needs_some : (c : ClassTable) (loop_no : ℕ) → loop_no < c.loops → (1 ≤ class_of_loop c loop_no) × (class_of_loop c loop_no ≤ class_count c)
needs_some c loop_no below = (omega arith, omega (arith, below))

module _ (ground : ProgramFacts) (net : NetOf) (is : IsNet net) where
  exec_can : (k : ℕ) (o : Option Exec) → slice_get net.program.execs k ≡ o → CanExecute net.program (exec_in o)
  exec_can k None at = tt
  exec_can k (Some e) at = is.can_run.executes k e at

  pub can : (piece : ℕ) → CanExecute net.program (exec_kind net.program piece)
  can piece = exec_can (piece_at (flow net.program.execs).pieces piece).exec (slice_get net.program.execs (piece_at (flow net.program.execs).pieces piece).exec) refl

  kind_classes : (k : PieceKind) (e : ExecKind) → CanExecute net.program e → (n : ℕ) → KindNeeds is.classes k e n → (1 ≤ n) × (n ≤ class_count is.classes)
  kind_classes kind.Act e can n need = ground.are_classes net.program is.classes e n is.program is.own_classes can need
  kind_classes kind.Branch (exec.DoStart loop_no var first last step body exit) can n need =
      let loops = is.own_classes.loops in
      let below = can.0.loop in
      subst (λ (n : ℕ). (1 ≤ n) × (n ≤ class_count is.classes)) need (needs_some is.classes loop_no (omega (arith, loops, below)))
  kind_classes kind.Branch (exec.Assign target e next) can n need = ground.are_classes net.program is.classes (exec.Assign target e next) n is.program is.own_classes can need
  kind_classes kind.Branch (exec.Print items next) can n need = ground.are_classes net.program is.classes (exec.Print items next) n is.program is.own_classes can need
  kind_classes kind.Branch (exec.Pass next) can n need = ground.are_classes net.program is.classes (exec.Pass next) n is.program is.own_classes can need
  kind_classes kind.Branch (exec.Test cond yes' no') can n need = ground.are_classes net.program is.classes (exec.Test cond yes' no') n is.program is.own_classes can need
  kind_classes kind.Branch (exec.Sign e neg zero' pos') can n need = ground.are_classes net.program is.classes (exec.Sign e neg zero' pos') n is.program is.own_classes can need
  kind_classes kind.Branch (exec.Pick e targets other) can n need = ground.are_classes net.program is.classes (exec.Pick e targets other) n is.program is.own_classes can need
  kind_classes kind.Branch (exec.DoNext loop_no var body exit) can n need = ground.are_classes net.program is.classes (exec.DoNext loop_no var body exit) n is.program is.own_classes can need
  kind_classes kind.Branch exec.End can n need = absurd need
  kind_classes kind.Start e can n need = absurd need
  kind_classes kind.Pass e can n need = absurd need
  kind_classes kind.Join e can n need = absurd need
  kind_classes kind.Hold e can n need = absurd need
  kind_classes kind.End e can n need = absurd need

  touching : (piece : ℕ) → piece < (graph_in net).nodes → IsTouching is.classes (net.touches piece) (piece_kind net.program piece) (exec_kind net.program piece)
  touching piece exists = record {
    needs = λ n need. by n (kind_classes (piece_kind net.program piece) (exec_kind net.program piece) (can piece) n need).0 need;
    must = is.sound_touches.must piece exists;
  }
    where
      by : (n : ℕ) → 1 ≤ n → KindNeeds is.classes (piece_kind net.program piece) (exec_kind net.program piece) n → net.touches piece n ≡ true
      by zero some need = absurd (omega (arith, some))
      by (suc n) some need = (is.sound_touches.classes piece n exists).1 need

  pub touched_line : (piece line : ℕ) → piece < (graph_in net).nodes → net.touches piece line ≡ true → line < net.routing.lines
  touched_line piece zero exists touched = let count = is.own_routing.count in omega (arith, count)
  touched_line piece (suc n) exists touched =
      let r = kind_classes (piece_kind net.program piece) (exec_kind net.program piece) (can piece) (suc n) ((is.sound_touches.classes piece n exists).0 touched) in
      let count = is.own_routing.count in
      let most = r.1 in
      omega (arith, count, most)

  pub some_edge : 0 < edge_count (graph_in net)
  some_edge = (ground.strong net.program.names net.program.execs net.program.loops is.program.execs).some

  pub led_below : (edge line : ℕ) → edge < edge_count (graph_in net) → line < net.routing.lines → next_at net.routing line edge < edge_count (graph_in net)
  led_below edge line exists below =
      let count = is.own_routing.count in
      let low : line < suc (class_count is.classes) = omega (arith, count, below) in
      ground.next_exists (graph_in net) is.tree net.touches line edge (next_at net.routing line edge) (ground.strong net.program.names net.program.execs net.program.loops is.program.execs) is.own_tree exists (is.own_routing.next line edge low exists)

  -- ---- a feature of tests

  pub both_ways : {P : Type 0} (b : Bool) → b ≡ true → b ≡ false → P
  both_ways b yes' no' = let e : true ≡ false = sym yes' ∙ no' in absurd cc

  pub switch_true : (piece k : ℕ) → Member (switches net piece) k → is_switch net piece k ≡ true
  switch_true piece k m = list_any_member (λ switch. switch == k) (switches net piece) k m (eq-eqb k k refl)

  pub true_switch : (piece k : ℕ) → is_switch net piece k ≡ true → Member (switches net piece) k
  true_switch piece k is =
      let r : IsPassed (λ switch. switch == k) (switches net piece) = member_of_list_any (λ switch. switch == k) (switches net piece) is in
      subst (λ j. Member (switches net piece) j) (eqb-true r.one k r.passes) r.among

  -- ---- what a firing leaves

  gone_outside : (m : Tokens) (k piece edge : ℕ) (new : Memory) → KeepsOthers is.classes (net.touches piece) m.memory new → (part : Part) → foot_as net is.classes k (Act piece) part ≡ false → at (gone net m piece edge new) part ≡ at m part
  gone_outside m k piece edge new keeps (Line line) not_in = with_all_other m.lines (touched net piece) (led_from net edge) line (λ t. both_ways (net.touches piece line) (touched_is net piece line t) not_in)
  gone_outside m k piece edge new keeps (Left node) not_in = with_all_other m.edges (switches net piece) (λ switch. Some edge) node (λ t. both_ways (is_switch net piece node) (switch_true piece node t) not_in)
  gone_outside m k piece edge new keeps (Word word) not_in = keeps.store word not_in
  gone_outside m k piece edge new keeps (Count loop_no) not_in = keeps.counts loop_no not_in
  gone_outside m k piece edge new keeps (StepOf loop_no) not_in = keeps.steps loop_no not_in
  gone_outside m k piece edge new keeps Taken not_in = keeps.taken not_in
  gone_outside m k piece edge new keeps Trap not_in = refl

  stopped_outside : (m : Tokens) (k piece : ℕ) (trap : Kind_of_trap) → net.touches piece 0 ≡ true → (part : Part) → foot_as net is.classes k (Act piece) part ≡ false → at (stopped net m piece trap) part ≡ at m part
  stopped_outside m k piece trap touches (Line line) not_in = with_all_other m.lines (touched net piece) (λ line. None) line (λ t. both_ways (net.touches piece line) (touched_is net piece line t) not_in)
  stopped_outside m k piece trap touches (Left node) not_in = refl
  stopped_outside m k piece trap touches (Word word) not_in = refl
  stopped_outside m k piece trap touches (Count loop_no) not_in = refl
  stopped_outside m k piece trap touches (StepOf loop_no) not_in = refl
  stopped_outside m k piece trap touches Taken not_in = refl
  stopped_outside m k piece trap touches Trap not_in = both_ways (net.touches piece 0) touches not_in

  same_memory : (piece : ℕ) (m : Memory) → KeepsOthers is.classes (net.touches piece) m m
  same_memory piece m = record { store = λ word not_in. refl; counts = λ k not_in. refl; steps = λ k not_in. refl; taken = λ not_in. refl }

  trap_outside : (m : Tokens) (k piece : ℕ) (trap : Kind_of_trap) (b : Bool) → net.touches piece 0 ≡ b → (part : Part) → foot_as net is.classes k (Act piece) part ≡ false → at (if b then stopped net m piece trap else gone net m piece (out (graph_in net) piece 0) m.memory) part ≡ at m part
  trap_outside m k piece trap true touches part not_in = stopped_outside m k piece trap touches part not_in
  trap_outside m k piece trap false touches part not_in = gone_outside m k piece (out (graph_in net) piece 0) m.memory (same_memory piece m.memory) part not_in

  acted_outside : (m : Tokens) (k piece : ℕ) (pass : Passed) → IfAlong pass (λ edge new text. IsFramed net.program is.classes (net.touches piece) m.memory new text) → (part : Part) → foot_as net is.classes k (Act piece) part ≡ false → at (acted net m piece pass) part ≡ at m part
  acted_outside m k piece (Along edge new text) framed part not_in = gone_outside m k piece edge new framed.keeps part not_in
  acted_outside m k piece (Traps trap) framed part not_in = trap_outside m k piece trap (net.touches piece 0) refl part not_in
  acted_outside m k piece Done framed part not_in = gone_outside m k piece (out (graph_in net) piece 0) m.memory (same_memory piece m.memory) part not_in

  set_outside : (values : List (Option ℕ)) (place other : ℕ) (value : Option ℕ) → (place == other) ≡ false → slice_get (slice_set values place value) other ≡ slice_get values other
  set_outside values place other value not_in = get_set_other values place other value (λ e. both_ways (place == other) (eq-eqb place other e) not_in)

  pub switched_outside : (m : Tokens) (k piece line : ℕ) (left : Option ℕ) (part : Part) → foot_as net is.classes k (Switch piece line) part ≡ false → at (switched net m k line left) part ≡ at m part
  switched_outside m k piece line None part not_in = refl
  switched_outside m k piece line (Some edge) (Line other) not_in = set_outside m.lines line other (led_from net edge line) not_in
  switched_outside m k piece line (Some edge) (Left node) not_in = set_outside m.edges k node None not_in
  switched_outside m k piece line (Some edge) (Word word) not_in = refl
  switched_outside m k piece line (Some edge) (Count loop_no) not_in = refl
  switched_outside m k piece line (Some edge) (StepOf loop_no) not_in = refl
  switched_outside m k piece line (Some edge) Taken not_in = refl
  switched_outside m k piece line (Some edge) Trap not_in = refl

  pub merged_outside : (m : Tokens) (k piece line : ℕ) (part : Part) → foot_as net is.classes k (Merge piece line) part ≡ false → at (merged net m piece line) part ≡ at m part
  merged_outside m k piece line (Line other) not_in = set_outside m.lines line other (led_from net (out (graph_in net) piece 0) line) not_in
  merged_outside m k piece line (Left node) not_in = refl
  merged_outside m k piece line (Word word) not_in = refl
  merged_outside m k piece line (Count loop_no) not_in = refl
  merged_outside m k piece line (StepOf loop_no) not_in = refl
  merged_outside m k piece line Taken not_in = refl
  merged_outside m k piece line Trap not_in = refl

  framed : (piece : ℕ) (m : Memory) → piece < (graph_in net).nodes → HasSizesOf net.program m → IfAlong (pass_at net piece m) (λ edge new text. IsFramed net.program is.classes (net.touches piece) m new text)
  framed piece m exists sizes = pass_framed ground net.program net.input is.classes is.own_classes is.can_run (net.touches piece) (out (graph_in net) piece) (piece_kind net.program piece) (exec_kind net.program piece) (can piece) (touching piece exists) m sizes

  outside : (m : Tokens) (k : ℕ) (name : NodeName) → piece_of name < (graph_in net).nodes → HasSizesOf net.program m.memory → (part : Part) → foot_as net is.classes k name part ≡ false → at (fired_as net m k name) part ≡ at m part
  outside m k (Act piece) exists sizes part not_in = acted_outside m k piece (pass_at net piece m.memory) (framed piece m.memory exists sizes) part not_in
  outside m k (Switch piece line) exists sizes part not_in = switched_outside m k piece line (left_for m k) part not_in
  outside m k (Merge piece line) exists sizes part not_in = merged_outside m k piece line part not_in
  outside m k (Op piece i) exists sizes part not_in = refl

  -- ---- what a firing depends on

  -- two markings agree on the footprint of a node
  abbrev Agree : (m n : Tokens) (k : ℕ) → NodeName → Type 0
  Agree m n k name = (part : Part) → foot_as net is.classes k name part ≡ true → at n part ≡ at m part

  agree_on : (m n : Tokens) (k piece : ℕ) → Agree m n k (Act piece) → AgreeOn is.classes (net.touches piece) n.memory m.memory
  agree_on m n k piece agree = record {
    store = λ word touched. agree (Word word) touched;
    counts = λ j touched. agree (Count j) touched;
    steps = λ j touched. agree (StepOf j) touched;
    taken = λ touched. agree Taken touched;
  }

  alike : (m n : Tokens) (k piece : ℕ) → piece < (graph_in net).nodes → HasSizesOf net.program m.memory → HasSizesOf net.program n.memory → Agree m n k (Act piece) → PassAlike is.classes (net.touches piece) (pass_at net piece n.memory) (pass_at net piece m.memory)
  alike m n k piece exists first second agree =
      pass_alike ground net.program net.input is.classes is.own_classes is.can_run (net.touches piece) (out (graph_in net) piece) (piece_kind net.program piece) (exec_kind net.program piece) (can piece) (touching piece exists) n.memory m.memory second first (agree_on m n k piece agree)

  pub same_before : (m n : Tokens) (piece line : ℕ) → slice_get n.lines line ≡ slice_get m.lines line → is_before net n piece line ≡ is_before net m piece line
  same_before m n piece line same = ap (λ o. leads_to (graph_in net) piece (joined o)) same

  same_ready : (m n : Tokens) (k : ℕ) (name : NodeName) → Agree m n k name → ready_as net n k name ≡ ready_as net m k name
  same_ready m n k (Act piece) agree =
      let lines = same_tests (is_before net n piece) (is_before net m piece) (touched net piece) (λ line t. same_before m n piece line (agree (Line line) (touched_is net piece line t))) in
      let lefts = same_tests (λ switch. not (is_some (left_for n switch))) (λ switch. not (is_some (left_for m switch))) (switches net piece) (λ switch t. ap (λ o. not (is_some (joined o))) (agree (Left switch) (switch_true piece switch t))) in
      ap (λ b. b && list_all (λ switch. not (is_some (left_for n switch))) (switches net piece)) lines ∙ ap (λ b. list_all (is_before net m piece) (touched net piece) && b) lefts
  same_ready m n k (Switch piece line) agree =
      ap (λ b. b && is_some (left_for n k)) (same_before m n piece line (agree (Line line) (eq-eqb line line refl))) ∙ ap (λ o. is_before net m piece line && is_some (joined o)) (agree (Left k) (eq-eqb k k refl))
  same_ready m n k (Merge piece line) agree = same_before m n piece line (agree (Line line) (eq-eqb line line refl))
  same_ready m n k (Op piece i) agree = refl

  same_text : (piece : ℕ) (a b : Passed) → PassAlike is.classes (net.touches piece) a b → text_of a ≡ text_of b
  same_text piece (Along edge new text) (Along edge' new' text') same = ap written same.1
  same_text piece (Along edge new text) (Traps trap) same = absurd same
  same_text piece (Along edge new text) Done same = absurd same
  same_text piece (Traps trap) (Along edge new text) same = absurd same
  same_text piece (Traps trap) (Traps trap') same = refl
  same_text piece (Traps trap) Done same = absurd same
  same_text piece Done (Along edge new text) same = absurd same
  same_text piece Done (Traps trap) same = absurd same
  same_text piece Done Done same = refl

  same_line : (m n : Tokens) (k : ℕ) (name : NodeName) → piece_of name < (graph_in net).nodes → HasSizesOf net.program m.memory → HasSizesOf net.program n.memory → Agree m n k name → line_as net n name ≡ line_as net m name
  same_line m n k (Act piece) exists first second agree = same_text piece (pass_at net piece n.memory) (pass_at net piece m.memory) (alike m n k piece exists first second agree)
  same_line m n k (Switch piece line) exists first second agree = refl
  same_line m n k (Merge piece line) exists first second agree = refl
  same_line m n k (Op piece i) exists first second agree = refl

  -- ---- what a firing makes of its footprint

  gone_inside : (m n : Tokens) (k piece edge : ℕ) (new new' : Memory) → Agree m n k (Act piece) → AgreeOn is.classes (net.touches piece) new new' → (part : Part) → foot_as net is.classes k (Act piece) part ≡ true → at (gone net n piece edge new) part ≡ at (gone net m piece edge new') part
  gone_inside m n k piece edge new new' agree same (Line line) mine = with_all_alike n.lines m.lines (touched net piece) (led_from net edge) line (agree (Line line) mine)
  gone_inside m n k piece edge new new' agree same (Left node) mine = with_all_alike n.edges m.edges (switches net piece) (λ switch. Some edge) node (agree (Left node) mine)
  gone_inside m n k piece edge new new' agree same (Word word) mine = same.store word mine
  gone_inside m n k piece edge new new' agree same (Count loop_no) mine = same.counts loop_no mine
  gone_inside m n k piece edge new new' agree same (StepOf loop_no) mine = same.steps loop_no mine
  gone_inside m n k piece edge new new' agree same Taken mine = same.taken mine
  gone_inside m n k piece edge new new' agree same Trap mine = agree Trap mine

  stopped_inside : (m n : Tokens) (k piece : ℕ) (trap : Kind_of_trap) → Agree m n k (Act piece) → (part : Part) → foot_as net is.classes k (Act piece) part ≡ true → at (stopped net n piece trap) part ≡ at (stopped net m piece trap) part
  stopped_inside m n k piece trap agree (Line line) mine = with_all_alike n.lines m.lines (touched net piece) (λ line. None) line (agree (Line line) mine)
  stopped_inside m n k piece trap agree (Left node) mine = agree (Left node) mine
  stopped_inside m n k piece trap agree (Word word) mine = agree (Word word) mine
  stopped_inside m n k piece trap agree (Count loop_no) mine = agree (Count loop_no) mine
  stopped_inside m n k piece trap agree (StepOf loop_no) mine = agree (StepOf loop_no) mine
  stopped_inside m n k piece trap agree Taken mine = agree Taken mine
  stopped_inside m n k piece trap agree Trap mine = refl

  trap_inside : (m n : Tokens) (k piece : ℕ) (trap : Kind_of_trap) (b : Bool) → Agree m n k (Act piece) → (part : Part) → foot_as net is.classes k (Act piece) part ≡ true → at (if b then stopped net n piece trap else gone net n piece (out (graph_in net) piece 0) n.memory) part ≡ at (if b then stopped net m piece trap else gone net m piece (out (graph_in net) piece 0) m.memory) part
  trap_inside m n k piece trap true agree part mine = stopped_inside m n k piece trap agree part mine
  trap_inside m n k piece trap false agree part mine = gone_inside m n k piece (out (graph_in net) piece 0) n.memory m.memory agree (agree_on m n k piece agree) part mine

  acted_inside : (m n : Tokens) (k piece : ℕ) → Agree m n k (Act piece) → (a b : Passed) → PassAlike is.classes (net.touches piece) a b → (part : Part) → foot_as net is.classes k (Act piece) part ≡ true → at (acted net n piece a) part ≡ at (acted net m piece b) part
  acted_inside m n k piece agree (Along edge new text) (Along edge' new' text') same part mine =
      gone_inside m n k piece edge new new' agree same.2 part mine ∙ ap (λ e. at (gone net m piece e new') part) same.0
  acted_inside m n k piece agree (Along edge new text) (Traps trap) same part mine = absurd same
  acted_inside m n k piece agree (Along edge new text) Done same part mine = absurd same
  acted_inside m n k piece agree (Traps trap) (Along edge new text) same part mine = absurd same
  acted_inside m n k piece agree (Traps trap) (Traps trap') same part mine =
      trap_inside m n k piece trap (net.touches piece 0) agree part mine ∙ ap (λ t. at (acted net m piece (Traps t)) part) same
  acted_inside m n k piece agree (Traps trap) Done same part mine = absurd same
  acted_inside m n k piece agree Done (Along edge new text) same part mine = absurd same
  acted_inside m n k piece agree Done (Traps trap) same part mine = absurd same
  acted_inside m n k piece agree Done Done same part mine = gone_inside m n k piece (out (graph_in net) piece 0) n.memory m.memory agree (agree_on m n k piece agree) part mine

  pub switched_inside : (m n : Tokens) (k piece line : ℕ) (left : Option ℕ) → Agree m n k (Switch piece line) → (part : Part) → foot_as net is.classes k (Switch piece line) part ≡ true → at (switched net n k line left) part ≡ at (switched net m k line left) part
  switched_inside m n k piece line None agree part mine = agree part mine
  switched_inside m n k piece line (Some edge) agree (Line other) mine = set_alike n.lines m.lines line (led_from net edge line) other (agree (Line other) mine)
  switched_inside m n k piece line (Some edge) agree (Left node) mine = set_alike n.edges m.edges k None node (agree (Left node) mine)
  switched_inside m n k piece line (Some edge) agree (Word word) mine = absurd cc
  switched_inside m n k piece line (Some edge) agree (Count loop_no) mine = absurd cc
  switched_inside m n k piece line (Some edge) agree (StepOf loop_no) mine = absurd cc
  switched_inside m n k piece line (Some edge) agree Taken mine = absurd cc
  switched_inside m n k piece line (Some edge) agree Trap mine = absurd cc

  pub merged_inside : (m n : Tokens) (k piece line : ℕ) → Agree m n k (Merge piece line) → (part : Part) → foot_as net is.classes k (Merge piece line) part ≡ true → at (merged net n piece line) part ≡ at (merged net m piece line) part
  merged_inside m n k piece line agree (Line other) mine = set_alike n.lines m.lines line (led_from net (out (graph_in net) piece 0) line) other (agree (Line other) mine)
  merged_inside m n k piece line agree (Left node) mine = absurd cc
  merged_inside m n k piece line agree (Word word) mine = absurd cc
  merged_inside m n k piece line agree (Count loop_no) mine = absurd cc
  merged_inside m n k piece line agree (StepOf loop_no) mine = absurd cc
  merged_inside m n k piece line agree Taken mine = absurd cc
  merged_inside m n k piece line agree Trap mine = absurd cc

  inside : (m n : Tokens) (k : ℕ) (name : NodeName) → piece_of name < (graph_in net).nodes → HasSizesOf net.program m.memory → HasSizesOf net.program n.memory → Agree m n k name → (part : Part) → foot_as net is.classes k name part ≡ true → at (fired_as net n k name) part ≡ at (fired_as net m k name) part
  inside m n k (Act piece) exists first second agree part mine = acted_inside m n k piece agree (pass_at net piece n.memory) (pass_at net piece m.memory) (alike m n k piece exists first second agree) part mine
  inside m n k (Switch piece line) exists first second agree part mine =
      switched_inside m n k piece line (left_for n k) agree part mine ∙ ap (λ o. at (switched net m k line (joined o)) part) (agree (Left k) (eq-eqb k k refl))
  inside m n k (Merge piece line) exists first second agree part mine = merged_inside m n k piece line agree part mine
  inside m n k (Op piece i) exists first second agree part mine = agree part mine

  -- ---- traps and silence

  same_trap_by : (m n : Tokens) (piece : ℕ) → n.trap ≡ m.trap → (a b : Passed) → PassAlike is.classes (net.touches piece) a b → (acted net n piece a).trap ≡ (acted net m piece b).trap
  same_trap_by m n piece traps (Along edge new text) (Along edge' new' text') same = traps
  same_trap_by m n piece traps (Along edge new text) (Traps trap) same = absurd same
  same_trap_by m n piece traps (Along edge new text) Done same = absurd same
  same_trap_by m n piece traps (Traps trap) (Along edge new text) same = absurd same
  same_trap_by m n piece traps (Traps trap) (Traps trap') same = by (net.touches piece 0) ∙ ap (λ t. (acted net m piece (Traps t)).trap) same
    where
      by : (b : Bool) → (if b then stopped net n piece trap else gone net n piece (out (graph_in net) piece 0) n.memory).trap ≡ (if b then stopped net m piece trap else gone net m piece (out (graph_in net) piece 0) m.memory).trap
      by true = refl
      by false = traps
  same_trap_by m n piece traps (Traps trap) Done same = absurd same
  same_trap_by m n piece traps Done (Along edge new text) same = absurd same
  same_trap_by m n piece traps Done (Traps trap) same = absurd same
  same_trap_by m n piece traps Done Done same = traps

  pub switched_trap : (m : Tokens) (k line : ℕ) (left : Option ℕ) → (switched net m k line left).trap ≡ m.trap
  switched_trap m k line None = refl
  switched_trap m k line (Some edge) = refl

  same_trap : (m n : Tokens) (k : ℕ) (name : NodeName) → piece_of name < (graph_in net).nodes → HasSizesOf net.program m.memory → HasSizesOf net.program n.memory → Agree m n k name → n.trap ≡ m.trap → (fired_as net n k name).trap ≡ (fired_as net m k name).trap
  same_trap m n k (Act piece) exists first second agree traps = same_trap_by m n piece traps (pass_at net piece n.memory) (pass_at net piece m.memory) (alike m n k piece exists first second agree)
  same_trap m n k (Switch piece line) exists first second agree traps = switched_trap n k line (left_for n k) ∙ traps ∙ sym (switched_trap m k line (left_for m k))
  same_trap m n k (Merge piece line) exists first second agree traps = traps
  same_trap m n k (Op piece i) exists first second agree traps = traps

  quiet_by : (m : Tokens) (piece : ℕ) (pass : Passed) → net.touches piece 0 ≡ false → IfAlong pass (λ edge new text. IsFramed net.program is.classes (net.touches piece) m.memory new text) → (text_of pass ≡ None) × ((acted net m piece pass).trap ≡ m.trap)
  quiet_by m piece (Along edge new text) not_out framed = (ap written (framed.silent not_out), refl)
  quiet_by m piece (Traps trap) not_out framed = (refl, ap (λ b. (if b then stopped net m piece trap else gone net m piece (out (graph_in net) piece 0) m.memory).trap) not_out)
  quiet_by m piece Done not_out framed = (refl, refl)

  quiet : (m : Tokens) (k : ℕ) (name : NodeName) → piece_of name < (graph_in net).nodes → HasSizesOf net.program m.memory → serial_as net name ≡ false → (line_as net m name ≡ None) × ((fired_as net m k name).trap ≡ m.trap)
  quiet m k (Act piece) exists sizes not_out = quiet_by m piece (pass_at net piece m.memory) not_out (framed piece m.memory exists sizes)
  quiet m k (Switch piece line) exists sizes not_out = (refl, switched_trap m k line (left_for m k))
  quiet m k (Merge piece line) exists sizes not_out = (refl, refl)
  quiet m k (Op piece i) exists sizes not_out = (refl, refl)

  serial_foot : (k : ℕ) (name : NodeName) → serial_as net name ≡ true → foot_as net is.classes k name (Line 0) ≡ true
  serial_foot k (Act piece) serial = serial
  serial_foot k (Switch piece line) serial = serial
  serial_foot k (Merge piece line) serial = serial
  serial_foot k (Op piece i) serial = absurd cc

  -- ---- markings that can come

  gone_marking : (m : Tokens) (piece edge : ℕ) (new : Memory) → edge < edge_count (graph_in net) → HasSizesOf net.program new → IsMarking net m → IsMarking net (gone net m piece edge new)
  gone_marking m piece edge new exists sizes mark = record {
    lines = length_with_all m.lines (touched net piece) (led_from net edge) ∙ mark.lines;
    nodes = length_with_all m.edges (switches net piece) (λ switch. Some edge) ∙ mark.nodes;
    stand = with_all_below (edge_count (graph_in net)) m.lines (touched net piece) (led_from net edge) mark.stand (λ line e t at. by line e t at);
    lie = with_all_below (edge_count (graph_in net)) m.edges (switches net piece) (λ switch. Some edge) mark.lie (λ k e t at. subst (λ d. d < edge_count (graph_in net)) (one edge e at) exists);
    memory = sizes;
  }
    where
      one : (a b : ℕ) → Some a ≡ Some b → a ≡ b
      one a b e = cc

      by : (line e : ℕ) → Member (touched net piece) line → led_from net edge line ≡ Some e → e < edge_count (graph_in net)
      by line e t at =
          let f = Member-filtered (net.touches piece) (range_with_len 0 net.routing.lines) line t in
          let r = Member-in_range 0 net.routing.lines line f.0 in
          let high = r.1 in
          subst (λ d. d < edge_count (graph_in net)) (one (next_at net.routing line edge) e at) (led_below edge line exists (omega (arith, high)))

  stopped_marking : (m : Tokens) (piece : ℕ) (trap : Kind_of_trap) → IsMarking net m → IsMarking net (stopped net m piece trap)
  stopped_marking m piece trap mark = record {
    lines = length_with_all m.lines (touched net piece) (λ line. None) ∙ mark.lines;
    nodes = mark.nodes;
    stand = with_all_below (edge_count (graph_in net)) m.lines (touched net piece) (λ line. None) mark.stand (λ line e t at. none e at);
    lie = mark.lie;
    memory = mark.memory;
  }
    where
      none : (e : ℕ) → None ≡ Some e → e < edge_count (graph_in net)
      none e at = absurd cc

  trap_marking : (m : Tokens) (piece : ℕ) (trap : Kind_of_trap) (b : Bool) → IsMarking net m → IsMarking net (if b then stopped net m piece trap else gone net m piece (out (graph_in net) piece 0) m.memory)
  trap_marking m piece trap true mark = stopped_marking m piece trap mark
  trap_marking m piece trap false mark = gone_marking m piece (out (graph_in net) piece 0) m.memory (out_below (graph_in net) piece 0 some_edge) mark.memory mark

  acted_marking : (m : Tokens) (piece : ℕ) (pass : Passed) → IfAlong pass (λ edge new text. IsFramed net.program is.classes (net.touches piece) m.memory new text) → IfAlong pass (λ edge new text. edge < edge_count (graph_in net)) → IsMarking net m → IsMarking net (acted net m piece pass)
  acted_marking m piece (Along edge new text) framed exists mark = gone_marking m piece edge new exists framed.sizes mark
  acted_marking m piece (Traps trap) framed exists mark = trap_marking m piece trap (net.touches piece 0) mark
  acted_marking m piece Done framed exists mark = gone_marking m piece (out (graph_in net) piece 0) m.memory (out_below (graph_in net) piece 0 some_edge) mark.memory mark

  edge_exists : (piece : ℕ) (pass : Passed) → IfAlong pass (λ edge new text. (number : ℕ) × (edge ≡ out (graph_in net) piece number)) → IfAlong pass (λ edge new text. edge < edge_count (graph_in net))
  edge_exists piece (Along edge new text) leaves = subst (λ d. d < edge_count (graph_in net)) (sym leaves.1) (out_below (graph_in net) piece leaves.0 some_edge)
  edge_exists piece (Traps trap) leaves = tt
  edge_exists piece Done leaves = tt

  one_set : (m : Tokens) (line edge : ℕ) → edge < edge_count (graph_in net) → line < net.routing.lines → IsMarking net m → (other e : ℕ) → joined (slice_get (slice_set m.lines line (led_from net edge line)) other) ≡ Some e → e < edge_count (graph_in net)
  one_set m line edge exists below mark = set_below (edge_count (graph_in net)) m.lines line (led_from net edge line) mark.stand (λ e at. subst (λ d. d < edge_count (graph_in net)) (one (next_at net.routing line edge) e at) (led_below edge line exists below))
    where
      one : (a b : ℕ) → Some a ≡ Some b → a ≡ b
      one a b e = cc

  pub switched_marking : (m : Tokens) (k line : ℕ) (left : Option ℕ) → left_for m k ≡ left → line < net.routing.lines → IsMarking net m → IsMarking net (switched net m k line left)
  switched_marking m k line None at below mark = mark
  switched_marking m k line (Some edge) at below mark = record {
    lines = length_slice_set m.lines line (led_from net edge line) ∙ mark.lines;
    nodes = length_slice_set m.edges k None ∙ mark.nodes;
    stand = one_set m line edge (mark.lie k edge at) below mark;
    lie = set_below (edge_count (graph_in net)) m.edges k None mark.lie (λ e at. none e at);
    memory = mark.memory;
  }
    where
      none : (e : ℕ) → None ≡ Some e → e < edge_count (graph_in net)
      none e at = absurd cc

  pub merged_marking : (m : Tokens) (piece line : ℕ) → line < net.routing.lines → IsMarking net m → IsMarking net (merged net m piece line)
  merged_marking m piece line below mark = record {
    lines = length_slice_set m.lines line (led_from net (out (graph_in net) piece 0) line) ∙ mark.lines;
    nodes = mark.nodes;
    stand = one_set m line (out (graph_in net) piece 0) (out_below (graph_in net) piece 0 some_edge) below mark;
    lie = mark.lie;
    memory = mark.memory;
  }

  fired_marking : (m : Tokens) (k : ℕ) (name : NodeName) → IsNamed net name → IsMarking net m → IsMarking net (fired_as net m k name)
  fired_marking m k (Act piece) named mark =
      acted_marking m piece (pass_at net piece m.memory) (framed piece m.memory named.exists mark.memory)
      (edge_exists piece (pass_at net piece m.memory) (pass_out (out (graph_in net) piece) net.program net.input (piece_kind net.program piece) (exec_kind net.program piece) m.memory)) mark
  fired_marking m k (Switch piece line) named mark = switched_marking m k line (left_for m k) refl (named.fits.2) mark
  fired_marking m k (Merge piece line) named mark = merged_marking m piece line (named.fits.2) mark
  fired_marking m k (Op piece i) named mark = mark

  -- ---- two ready nodes

  before : (m : Tokens) (k : ℕ) (name : NodeName) (line : ℕ) → IsNamed net name → ready_as net m k name ≡ true → foot_as net is.classes k name (Line line) ≡ true → is_before net m (piece_of name) line ≡ true
  before m k (Act piece) line named ready mine =
      all_pass (is_before net m piece) (touched net piece) line
      ((and_parts (list_all (is_before net m piece) (touched net piece)) (list_all (λ switch. not (is_some (left_for m switch))) (switches net piece)) ready).0)
      (is_touched net piece line (touched_line piece line named.exists mine) mine)
  before m k (Switch piece own) line named ready mine =
      subst (λ l. is_before net m piece l ≡ true) (eqb-true own line mine) ((and_parts (is_before net m piece own) (is_some (left_for m k)) ready).0)
  before m k (Merge piece own) line named ready mine = subst (λ l. is_before net m piece l ≡ true) (eqb-true own line mine) ready
  before m k (Op piece i) line named ready mine = absurd named.fits

  pub one_piece : (p q : ℕ) (o : Option ℕ) → leads_to (graph_in net) p o ≡ true → leads_to (graph_in net) q o ≡ true → p ≡ q
  one_piece p q None first second = absurd cc
  one_piece p q (Some edge) first second = sym (eqb-true (to (graph_in net) edge) p first) ∙ eqb-true (to (graph_in net) edge) q second

  untouched : {P : Type 0} (piece own line : ℕ) → net.touches piece line ≡ true → net.touches piece own ≡ false → (own == line) ≡ true → P
  untouched piece own line touched not_touched same =
      both_ways (net.touches piece line) touched (subst (λ l. net.touches piece l ≡ false) (eqb-true own line same) not_touched)

  same_name : (piece : ℕ) (k : PieceKind) (i j line : ℕ) (a b : NodeName) → Fits net piece k a → Fits net piece k b → foot_as net is.classes i a (Line line) ≡ true → foot_as net is.classes j b (Line line) ≡ true → a ≡ b
  same_name piece k i j line (Act p) (Act q) first second mine theirs = ap (λ n. Act n) (first.0 ∙ sym second.0)
  same_name piece k i j line (Act p) (Switch q own) first second mine theirs =
      untouched piece own line (subst (λ n. net.touches n line ≡ true) first.0 mine) second.3 theirs
  same_name piece k i j line (Act p) (Merge q own) first second mine theirs = both_ways (is_acting k) first.1 second.1
  same_name piece k i j line (Act p) (Op q n) first second mine theirs = absurd second
  same_name piece k i j line (Switch p own) (Act q) first second mine theirs =
      untouched piece own line (subst (λ n. net.touches n line ≡ true) second.0 theirs) first.3 mine
  same_name piece k i j line (Switch p own) (Switch q other) first second mine theirs =
      ap (λ n. Switch n own) (first.0 ∙ sym second.0) ∙ ap (λ l. Switch q l) (eqb-true own line mine ∙ sym (eqb-true other line theirs))
  same_name piece k i j line (Switch p own) (Merge q other) first second mine theirs = both_ways (is_acting k) first.1 second.1
  same_name piece k i j line (Switch p own) (Op q n) first second mine theirs = absurd second
  same_name piece k i j line (Merge p own) (Act q) first second mine theirs = both_ways (is_acting k) second.1 first.1
  same_name piece k i j line (Merge p own) (Switch q other) first second mine theirs = both_ways (is_acting k) second.1 first.1
  same_name piece k i j line (Merge p own) (Merge q other) first second mine theirs =
      ap (λ n. Merge n own) (first.0 ∙ sym second.0) ∙ ap (λ l. Merge q l) (eqb-true own line mine ∙ sym (eqb-true other line theirs))
  same_name piece k i j line (Merge p own) (Op q n) first second mine theirs = absurd second
  same_name piece k i j line (Op p n) b first second mine theirs = absurd first

  -- two nodes that are ready at a marking
  record AreTwo (m : Tokens) (i j : ℕ) (a b : NodeName) : Type 0 where
    pub first : IsNamed net a
    pub second : IsNamed net b
    pub first_ready : ready_as net m i a ≡ true
    pub second_ready : ready_as net m j b ≡ true

  same_by_line : (m : Tokens) (i j line : ℕ) (a b : NodeName) → AreTwo m i j a b → foot_as net is.classes i a (Line line) ≡ true → foot_as net is.classes j b (Line line) ≡ true → a ≡ b
  same_by_line m i j line a b two mine theirs =
      let at : piece_of b ≡ piece_of a = one_piece (piece_of b) (piece_of a) (edge_of m line) (before m j b line two.second two.second_ready theirs) (before m i a line two.first two.first_ready mine) in
      same_name (piece_of a) (kind_in net (piece_of a)) i j line a b two.first.fits (subst (λ p. Fits net p (kind_in net p) b) at two.second.fits) mine theirs

  -- the line to which a part of the memory belongs
  word_line : (k : ℕ) (name : NodeName) (word : ℕ) → foot_as net is.classes k name (Word word) ≡ true → foot_as net is.classes k name (Line (class_of_word is.classes word)) ≡ true
  word_line k (Act piece) word mine = mine
  word_line k (Switch piece line) word mine = absurd cc
  word_line k (Merge piece line) word mine = absurd cc
  word_line k (Op piece i) word mine = absurd cc

  count_line : (k : ℕ) (name : NodeName) (n : ℕ) → foot_as net is.classes k name (Count n) ≡ true → foot_as net is.classes k name (Line (class_of_loop is.classes n)) ≡ true
  count_line k (Act piece) n mine = mine
  count_line k (Switch piece line) n mine = absurd cc
  count_line k (Merge piece line) n mine = absurd cc
  count_line k (Op piece i) n mine = absurd cc

  step_line : (k : ℕ) (name : NodeName) (n : ℕ) → foot_as net is.classes k name (StepOf n) ≡ true → foot_as net is.classes k name (Line (class_of_loop is.classes n)) ≡ true
  step_line k (Act piece) n mine = mine
  step_line k (Switch piece line) n mine = absurd cc
  step_line k (Merge piece line) n mine = absurd cc
  step_line k (Op piece i) n mine = absurd cc

  taken_line : (k : ℕ) (name : NodeName) → foot_as net is.classes k name Taken ≡ true → foot_as net is.classes k name (Line 0) ≡ true
  taken_line k (Act piece) mine = mine
  taken_line k (Switch piece line) mine = absurd cc
  taken_line k (Merge piece line) mine = absurd cc
  taken_line k (Op piece i) mine = absurd cc

  trap_line : (k : ℕ) (name : NodeName) → foot_as net is.classes k name Trap ≡ true → foot_as net is.classes k name (Line 0) ≡ true
  trap_line k (Act piece) mine = mine
  trap_line k (Switch piece line) mine = absurd cc
  trap_line k (Merge piece line) mine = absurd cc
  trap_line k (Op piece i) mine = absurd cc

  -- an act is ready where nothing is left for its switches, a switch where something is
  empty_and_full : {P : Type 0} (m : Tokens) (p q i k line : ℕ) → ready_as net m i (Act p) ≡ true → ready_as net m k (Switch q line) ≡ true → is_switch net p k ≡ true → P
  empty_and_full m p q i k line act switch mine =
      let empty : not (is_some (left_for m k)) ≡ true = all_pass (λ s. not (is_some (left_for m s))) (switches net p) k ((and_parts (list_all (is_before net m p) (touched net p)) (list_all (λ s. not (is_some (left_for m s))) (switches net p)) act).1) (true_switch p k mine) in
      let full : is_some (left_for m k) ≡ true = (and_parts (is_before net m q line) (is_some (left_for m k)) switch).1 in
      by (is_some (left_for m k)) full empty
    where
      by : {P : Type 0} (b : Bool) → b ≡ true → not b ≡ true → P
      by true full empty = absurd cc
      by false full empty = absurd cc

  same_switch : (a b : NodeName) (p q l n : ℕ) → a ≡ Switch p l → a ≡ Switch q n → p ≡ q
  same_switch a b p q l n first second = ap piece_of (sym first ∙ second)

  same_by_left : (m : Tokens) (i j node : ℕ) (a b : NodeName) → AreTwo m i j a b → foot_as net is.classes i a (Left node) ≡ true → foot_as net is.classes j b (Left node) ≡ true → (a ≡ b) ⊎ (i ≡ j)
  same_by_left m i j node (Act p) (Act q) two mine theirs =
      let r = switch_is net p node two.first.exists (true_switch p node mine) in
      let s = switch_is net q node two.second.exists (true_switch q node theirs) in
      inl (ap (λ n. Act n) (same_switch (node_at net node) (node_at net node) p q r.line s.line r.is s.is))
  same_by_left m i j node (Act p) (Switch q line) two mine theirs =
      empty_and_full m p q i j line two.first_ready two.second_ready (subst (λ n. is_switch net p n ≡ true) (sym (eqb-true j node theirs)) mine)
  same_by_left m i j node (Switch p line) (Act q) two mine theirs =
      empty_and_full m q p j i line two.second_ready two.first_ready (subst (λ n. is_switch net q n ≡ true) (sym (eqb-true i node mine)) theirs)
  same_by_left m i j node (Switch p line) (Switch q other) two mine theirs = inr (eqb-true i node mine ∙ sym (eqb-true j node theirs))
  same_by_left m i j node (Merge p line) b two mine theirs = absurd cc
  same_by_left m i j node (Op p n) b two mine theirs = absurd two.first.fits
  same_by_left m i j node (Act p) (Merge q line) two mine theirs = absurd cc
  same_by_left m i j node (Act p) (Op q n) two mine theirs = absurd two.second.fits
  same_by_left m i j node (Switch p line) (Merge q other) two mine theirs = absurd cc
  same_by_left m i j node (Switch p line) (Op q n) two mine theirs = absurd two.second.fits

  same_by : (m : Tokens) (i j : ℕ) (a b : NodeName) (part : Part) → AreTwo m i j a b → foot_as net is.classes i a part ≡ true → foot_as net is.classes j b part ≡ true → (a ≡ b) ⊎ (i ≡ j)
  same_by m i j a b (Line line) two mine theirs = inl (same_by_line m i j line a b two mine theirs)
  same_by m i j a b (Left node) two mine theirs = same_by_left m i j node a b two mine theirs
  same_by m i j a b (Word word) two mine theirs = inl (same_by_line m i j (class_of_word is.classes word) a b two (word_line i a word mine) (word_line j b word theirs))
  same_by m i j a b (Count n) two mine theirs = inl (same_by_line m i j (class_of_loop is.classes n) a b two (count_line i a n mine) (count_line j b n theirs))
  same_by m i j a b (StepOf n) two mine theirs = inl (same_by_line m i j (class_of_loop is.classes n) a b two (step_line i a n mine) (step_line j b n theirs))
  same_by m i j a b Taken two mine theirs = inl (same_by_line m i j 0 a b two (taken_line i a mine) (taken_line j b theirs))
  same_by m i j a b Trap two mine theirs = inl (same_by_line m i j 0 a b two (trap_line i a mine) (trap_line j b theirs))

  apart : (m : Tokens) (j k : ℕ) → AreReady (CanCome net) (net_moves net) m j k → (part : Part) → foot net is.classes j part ≡ true → foot net is.classes k part ≡ false
  apart m j k both part theirs = ⊎_elim
      (λ (mine : foot net is.classes k part ≡ true). absurd (both.differ (⊎_elim (λ same. one_number net j k both.first.node both.second.node same) (λ same. same) (same_by m j k (node_at net j) (node_at net k) part two theirs mine))))
      (λ not_mine. not_mine)
      (cases_Bool (foot net is.classes k part))
    where
      two : AreTwo m j k (node_at net j) (node_at net k)
      two = record { first = named net j both.first.node; second = named net k both.second.node; first_ready = both.first.ready; second_ready = both.second.ready }

  sizes_in : (m : Tokens) → CanCome net m → HasSizesOf net.program m.memory
  sizes_in m comes = comes.is_marking.memory

  pub footed : HasFootprints (CanCome net) (net_moves net) at (foot net is.classes)
  footed = record {
    equal = equal;
    outside = λ m k ready part not_in. outside m k (node_at net k) ((named net k ready.node).exists) (sizes_in m ready.is_sound) part not_in;
    ready = λ m n k seen. same_ready m n k (node_at net k) seen.agree ∙ seen.first.ready;
    line = λ m n k seen. same_line m n k (node_at net k) ((named net k seen.first.node).exists) (sizes_in m seen.first.is_sound) (sizes_in n seen.second) seen.agree;
    trap = λ m n k seen going other. same_trap m n k (node_at net k) ((named net k seen.first.node).exists) (sizes_in m seen.first.is_sound) (sizes_in n seen.second) seen.agree (other ∙ sym going);
    inside = λ m n k seen part mine. inside m n k (node_at net k) ((named net k seen.first.node).exists) (sizes_in m seen.first.is_sound) (sizes_in n seen.second) seen.agree part mine;
    apart = apart;
    output = Line 0;
    serial = λ k serial. serial_foot k (node_at net k) serial;
    silent = λ m k comes can_fire not_serial.
        let q = quiet m k (node_at net k) ((named net k can_fire.node).exists) (sizes_in m comes) not_serial in
        record { line = q.0; trap = q.1 ∙ can_fire.going };
    stays_sound = λ m k comes can_fire. record { ground = comes.ground; is_net = comes.is_net; is_marking = fired_marking m k (node_at net k) (named net k can_fire.node) comes.is_marking };
  }

-- what can come of a net keeps the laws of firing
pub net_laws : (net : NetOf) → IsLawful (CanCome net) (net_moves net)
net_laws net = record {
  either_order = λ m j k both. (laws both.is_sound).either_order m j k both;
  stays_ready = λ m j k both. (laws both.is_sound).stays_ready m j k both;
  one_serial = λ m j k both serial. (laws both.is_sound).one_serial m j k both serial;
  same_line = λ m j k both none. (laws both.is_sound).same_line m j k both none;
  same_trap = λ m j k both none. (laws both.is_sound).same_trap m j k both none;
  silent = λ m k comes can_fire not_serial. (laws comes).silent m k comes can_fire not_serial;
  stays_sound = λ m k comes can_fire. (laws comes).stays_sound m k comes can_fire;
}
  where
    laws : {m : Tokens} → CanCome net m → IsLawful (CanCome net) (net_moves net)
    laws comes = by_feet (CanCome net) (net_moves net) at (foot net comes.is_net.classes) (footed comes.ground net comes.is_net)

-- ---- the marking before any firing

-- the marking before any firing can come
pub first_comes : (ground : ProgramFacts) (net : NetOf) → IsNet net → CanCome net (first_tokens net)
first_comes ground net is = record {
  ground = ground;
  is_net = is;
  is_marking = record {
    lines = length-map (all_lines net) (led_from net 1) ∙ length-range_with_len 0 net.routing.lines;
    nodes = length-replicate (length (nodes_of net)) None;
    stand = λ line edge at. stand line edge (sym (ap joined (slice_get-map (led_from net 1) (all_lines net) line)) ∙ at);
    lie = λ k edge at. none (length (nodes_of net)) k edge at;
    memory = record { words = is.can_run.initial; counts = length-replicate net.program.loops 0; steps = length-replicate net.program.loops (pos 0) };
  };
}
  where
    none : (n k edge : ℕ) → joined (slice_get (replicate n None) k) ≡ Some edge → edge < edge_count (graph_in net)
    none zero k edge at = absurd cc
    none (suc n) zero edge at = absurd cc
    none (suc n) (suc k) edge at = none n k edge at

    within : (xs : List ℕ) (k x : ℕ) → slice_get xs k ≡ Some x → Member xs x
    within [] k x at = absurd cc
    within (y ∷ ys) zero x at = inl (same y x at)
      where
        same : (a b : ℕ) → Some a ≡ Some b → a ≡ b
        same a b e = cc
    within (y ∷ ys) (suc k) x at = inr (within ys k x at)

    two_edges : 1 < edge_count (graph_in net)
    two_edges = (ground.shaped net.program.names net.program.execs net.program.loops is.program.execs).two_edges

    found : (o : Option ℕ) (edge : ℕ) → ((line : ℕ) → o ≡ Some line → line < net.routing.lines) → joined (option_map (led_from net 1) o) ≡ Some edge → edge < edge_count (graph_in net)
    found None edge below at = absurd cc
    found (Some line) edge below at = subst (λ d. d < edge_count (graph_in net)) (same (next_at net.routing line 1) edge at) (led_below ground net is 1 line two_edges (below line refl))
      where
        same : (a b : ℕ) → Some a ≡ Some b → a ≡ b
        same a b e = cc

    stand : (k edge : ℕ) → joined (option_map (led_from net 1) (slice_get (all_lines net) k)) ≡ Some edge → edge < edge_count (graph_in net)
    stand k edge at = found (slice_get (all_lines net) k) edge (λ line is_at. let r = Member-in_range 0 net.routing.lines line (within (all_lines net) k line is_at) in let high = r.1 in omega (arith, high)) at
