-- All nodes of a piece to which control has come, one after another: the marking after them, and what they write.
use Rattle.std.proofs.Common.{◌≡◌, ◌<◌, ◌≤◌, ◌⊎◌, ⊎_elim, ℕ, zero, suc, ◌+◌, true, false, List, [], ◌∷◌, length, map, flat_map, Option, Some, None, slice_get, Result, Ok, Err, refl, sym, ap, ◌∙◌, subst, inl, inr, arith}
use Rattle.std.proofs.lemmas.Bool.{cases_Bool}
use Rattle.std.specs.List.{range_with_len}
use Rattle.op_table.specs.declared.Trap.{Trap}
use Rattle.f77_tree.specs.Execution.{Memory}
use Rattle.f77_tree.specs.Steps.{HoldsWords}
use Rattle.f77_tree.specs.declared.programs.ExecKind.{ExecKind}
use Rattle.cfg_build.specs.declared.pieces.PieceKind.{PieceKind}
use Rattle.cfg_build.specs.declared.pieces.PieceKind.TheVariants as kind
use Rattle.cfg_build.specs.Joined.{is_end}
use Rattle.cfg_build.specs.Passes.{Passed, Along, Traps, Done, branched, choice, out, pass, pass_of, passes}
use Rattle.dep_routing.specs.Sound.{DoesTrap}
use Rattle.dep_routing.specs.Touches.{exec_kind}
use Rattle.firing.specs.Orders.{IsOrder, after}
use Rattle.firing.specs.declared.system.NodeName.{NodeName}
use Rattle.firing.specs.declared.system.NodeName.TheVariants.{Act, Merge, Switch}
use Rattle.list_laws.proofs.Members.{IsImage, Member-mapped}
use Rattle.net_board.specs.NetLockstep.{IsBetween, IsInLockstep}
use Rattle.net_board.specs.Nodes.{graph_in, kind_in, first_node, is_acting, led_to, node_count, nodes_at, nodes_by, passing}
use Rattle.net_board.specs.SoundNets.{CanCome}
use Rattle.net_board.specs.Tokens.{Tokens, joined, led_from, net_moves, pass_at, with_all}
use Rattle.net_board.specs.WithinPiece.{leaving, memory_or, moved_by}
use Rattle.net_board.proofs.ControlWays.{along_exists}
use Rattle.net_board.proofs.ListPlaces.{same_list}
use Rattle.net_board.proofs.ListPrefixes.{HasItem, below_length, item_at, member_at, take_whole}
use Rattle.net_board.proofs.LockstepLaws.{later, piece_exists}
use Rattle.net_board.proofs.PassFirings.{IsPartFired, part_fired}
use Rattle.net_board.proofs.PieceEnds.{all_fired}
use Rattle.op_board.specs.Effects.{Effect, Ran, All_done, changes, ran_all}
use Rattle.op_board.specs.Operations.{operations_of}
use Rattle.op_board.specs.OperationFacts.{OperationFacts}
use Rattle.op_board.specs.OperationLists.{DoesAsPass}
use Rattle.op_board.specs.OperationNets.{OperationNet, first_operation, operation_count, operation_node, operation_node_count}
use Rattle.op_board.specs.OperationOrder.{ran_at}
use Rattle.op_board.specs.OperationTokens as game
use Rattle.op_board.specs.OperationTokens.{OperationTokens, between_pieces, operation_moves}
use Rattle.op_board.specs.SoundOperationNets.{IsOperationNet}
use Rattle.op_board.specs.WholePieces.{lines_moved_at}
use Rattle.op_board.proofs.AmidPieces.{IsAtPiece}
use Rattle.op_board.proofs.NeededLines.{IsDistance, distance}
use Rattle.op_board.proofs.OperationControl.{at_place, at_start}
use Rattle.op_board.proofs.PieceNodes.{acting_count, nodes_same, operation_named, others_same}
use Rattle.op_board.proofs.PieceRuns.{IsAllRun, IsStopRun, run_all}
use Rattle.op_board.proofs.PiecesBeside.{AreBeside, act_first, all_beside}

-- ---- the pass of a piece whose operations were all performed

along_by : (g : ℕ → ℕ) (last : Effect) (made : Passed) → DoesAsPass g (All_done last) made → made ≡ Along (g last.choice) last.memory last.text
along_by g last (Along d new text) does = ap (λ (e : ℕ). Along e new text) (sym does.0) ∙ ap (λ (y : Memory). Along (g last.choice) y text) (sym does.1) ∙ ap (Along (g last.choice) last.memory) (sym does.2)
along_by g last (Traps trap) does = absurd does
along_by g last Done does = absurd does

same_last : (a b : Effect) → All_done a ≡ All_done b → a ≡ b
same_last a b e = cc

same_left : (xs ys : List (Option ℕ)) (k : ℕ) → length xs ≡ length ys → joined (slice_get xs k) ≡ None → joined (slice_get ys k) ≡ None → slice_get xs k ≡ slice_get ys k
same_left [] [] k long here there = refl
same_left [] (y ∷ ys) k long here there = absurd (omega (arith, long))
same_left (x ∷ xs) [] k long here there = absurd (omega (arith, long))
same_left (x ∷ xs) (y ∷ ys) zero long here there = ap (λ (o : Option ℕ). Some o) (here ∙ sym there)
same_left (x ∷ xs) (y ∷ ys) (suc k) long here there = same_left xs ys k (omega (arith, long)) here there

same_tokens : (t : Tokens) (lines edges : List (Option ℕ)) (memory : Memory) (trap : Option (Trap × ℕ)) → t.lines ≡ lines → t.edges ≡ edges → t.memory ≡ memory → t.trap ≡ trap → t ≡ record { lines = lines; edges = edges; memory = memory; trap = trap }
same_tokens t lines edges memory trap a b c d =
    ap (λ (y : List (Option ℕ)). record { lines = y; edges = t.edges; memory = t.memory; trap = t.trap }) a
    ∙ ap (λ (y : List (Option ℕ)). record { lines = lines; edges = y; memory = t.memory; trap = t.trap }) b
    ∙ ap (λ (y : Memory). record { lines = lines; edges = edges; memory = y; trap = t.trap }) c
    ∙ ap (λ (y : Option (Trap × ℕ)). record { lines = lines; edges = edges; memory = memory; trap = y }) d

module _ (x : OperationNet) where
  idle_ran : (k : PieceKind) (exec : ExecKind) (memory : Memory) → is_acting k ≡ false → ran_all x.net.program.names x.net.input memory (operations_of x.net.program.names k exec) ≡ All_done (changes memory)
  idle_ran kind.Act exec memory idle = absurd cc
  idle_ran kind.Branch exec memory idle = absurd cc
  idle_ran kind.Hold exec memory idle = absurd cc
  idle_ran kind.Start exec memory idle = refl
  idle_ran kind.Pass exec memory idle = refl
  idle_ran kind.Join exec memory idle = refl
  idle_ran kind.End exec memory idle = refl

  idle_along : (k : PieceKind) (exec : ExecKind) (memory : Memory) (g : ℕ → ℕ) → is_acting k ≡ false → is_end k ≡ false → pass_of x.net.program x.net.input memory g k exec ≡ Along (g 0) memory []
  idle_along kind.Act exec memory g idle not_end = absurd cc
  idle_along kind.Branch exec memory g idle not_end = absurd cc
  idle_along kind.Hold exec memory g idle not_end = absurd cc
  idle_along kind.Start exec memory g idle not_end = refl
  idle_along kind.Pass exec memory g idle not_end = refl
  idle_along kind.Join exec memory g idle not_end = refl
  idle_along kind.End exec memory g idle not_end = absurd cc

  -- only a piece that acts alone writes
  pub quiet_by : (k : PieceKind) (exec : ExecKind) (memory : Memory) (g : ℕ → ℕ) (d : ℕ) (new : Memory) (text : List ℕ) → (k ≡ kind.Act → ⊥) → pass_of x.net.program x.net.input memory g k exec ≡ Along d new text → text ≡ []
  quiet_by kind.Act exec memory g d new text other is = absurd (other refl)
  quiet_by kind.Branch exec memory g d new text other is = by (choice x.net.program.names memory exec) is
    where
      by : (r : Result ℕ Trap) → branched memory g r ≡ Along d new text → text ≡ []
      by (Ok i) same = let e : Along (g i) memory [] ≡ Along d new text = same in cc
      by (Err trap) same = let e : Traps trap ≡ Along d new text = same in absurd cc
  quiet_by kind.Hold exec memory g d new text other is = let e : Along (g 0) memory [] ≡ Along d new text = is in cc
  quiet_by kind.Start exec memory g d new text other is = let e : Along (g 0) memory [] ≡ Along d new text = is in cc
  quiet_by kind.Pass exec memory g d new text other is = let e : Along (g 0) memory [] ≡ Along d new text = is in cc
  quiet_by kind.Join exec memory g d new text other is = let e : Along (g 0) memory [] ≡ Along d new text = is in cc
  quiet_by kind.End exec memory g d new text other is = let e : Done ≡ Along d new text = is in absurd cc

  -- ---- switches and merges write nothing

  silent_mapped : (t : OperationTokens) (f : ℕ → NodeName) (lines : List ℕ) (j : ℕ) (name : NodeName) → ((line : ℕ) → game.line_as x t (f line) ≡ None) → slice_get (map f lines) j ≡ Some name → game.line_as x t name ≡ None
  silent_mapped t f lines j name silent at =
      let r : IsImage f lines name = Member-mapped f lines name (member_at (map f lines) j name at) in
      subst (λ (a : NodeName). game.line_as x t a ≡ None) r.is (silent r.origin)

  silent_switch : (t : OperationTokens) (piece j : ℕ) (k : PieceKind) (name : NodeName) → is_acting k ≡ true → slice_get (nodes_by x.net piece k) (suc j) ≡ Some name → game.line_as x t name ≡ None
  silent_switch t piece j kind.Act name acts at = let e : None ≡ Some name = at in absurd cc
  silent_switch t piece j kind.Branch name acts at = silent_mapped t (Switch piece) (passing x.net piece) j name (λ line. refl) at
  silent_switch t piece j kind.Hold name acts at = silent_mapped t (Switch piece) (passing x.net piece) j name (λ line. refl) at
  silent_switch t piece j kind.Start name acts at = absurd cc
  silent_switch t piece j kind.Pass name acts at = absurd cc
  silent_switch t piece j kind.Join name acts at = absurd cc
  silent_switch t piece j kind.End name acts at = absurd cc

  silent_idle : (t : OperationTokens) (piece j : ℕ) (k : PieceKind) (name : NodeName) → is_acting k ≡ false → slice_get (nodes_by x.net piece k) j ≡ Some name → game.line_as x t name ≡ None
  silent_idle t piece j kind.Act name idle at = absurd cc
  silent_idle t piece j kind.Branch name idle at = absurd cc
  silent_idle t piece j kind.Hold name idle at = absurd cc
  silent_idle t piece j kind.Start name idle at = let e : None ≡ Some name = at in absurd cc
  silent_idle t piece j kind.Pass name idle at = let e : None ≡ Some name = at in absurd cc
  silent_idle t piece j kind.Join name idle at = silent_mapped t (Merge piece) (led_to x.net piece) j name (λ line. refl) at
  silent_idle t piece j kind.End name idle at = silent_mapped t (Merge piece) (led_to x.net piece) j name (λ line. refl) at

  -- nodes that aren't operations write nothing
  pub silent_other : (t : OperationTokens) (piece i : ℕ) → piece < (graph_in x.net).nodes → operation_count x piece ≤ i → i < operation_node_count x piece → game.line_as x t (operation_node x (first_operation x piece + i)) ≡ None
  silent_other t piece i exists high low = by (cases_Bool (is_acting (kind_in x.net piece)))
    where
      past : is_acting (kind_in x.net piece) ≡ true → IsDistance (operation_count x piece) i → game.line_as x t (operation_node x (first_operation x piece + i)) ≡ None
      past acts r =
          let sum = r.is in
          let count = acting_count x piece acts in
          let own : HasItem (nodes_at x.net piece) (suc r.more) = item_at (nodes_at x.net piece) (suc r.more) (omega (arith, sum, count, low)) in
          let same : operation_count x piece + r.more ≡ i = omega (arith, sum) in
          ap (λ (j : ℕ). game.line_as x t (operation_node x (first_operation x piece + j))) (sym same)
          ∙ ap (game.line_as x t) (operation_named x piece (operation_count x piece + r.more) own.item exists (others_same x piece acts r.more own.item own.at))
          ∙ silent_switch t piece r.more (kind_in x.net piece) own.item acts own.at

      by : (is_acting (kind_in x.net piece) ≡ true) ⊎ (is_acting (kind_in x.net piece) ≡ false) → game.line_as x t (operation_node x (first_operation x piece + i)) ≡ None
      by (inl acts) = past acts (distance (operation_count x piece) i high)
      by (inr idle) =
          let all : operation_node_count x piece ≡ node_count x.net piece = ap (λ (names : List NodeName). length names) (nodes_same x piece idle) in
          let own : HasItem (nodes_at x.net piece) i = item_at (nodes_at x.net piece) i (omega (arith, all, low)) in
          ap (game.line_as x t) (operation_named x piece i own.item exists (subst (λ (names : List NodeName). slice_get names i ≡ Some own.item) (sym (nodes_same x piece idle)) own.at))
          ∙ silent_idle t piece i (kind_in x.net piece) own.item idle own.at

  -- a piece that acts alone has no other nodes
  pub alone : (piece : ℕ) → kind_in x.net piece ≡ kind.Act → operation_node_count x piece ≡ operation_count x piece
  alone piece is =
      let count = acting_count x piece (ap is_acting is) in
      let one : node_count x.net piece ≡ 1 = ap (λ (k : PieceKind). length (nodes_by x.net piece k)) is in
      omega (arith, count, one)

-- ---- from a marking at which control has come to the piece

module _ (x : OperationNet) (n : IsOperationNet x) (facts : OperationFacts x) (words : (k : ℕ) → HoldsWords (passes x.net.program x.net.input k).memory) (start : Tokens) (piece left : ℕ) (lockstep : IsInLockstep x.net start (at_place piece 0 left)) (comes : CanCome x.net start) (not_end : is_end (kind_in x.net piece) ≡ false) (last : Effect) (ran : ran_at x piece start.memory ≡ All_done last) where
  pub exists : piece < (graph_in x.net).nodes
  exists = piece_exists x.net start (at_place piece 0 left) lockstep

  pub some_nodes : 0 < node_count x.net piece
  some_nodes = lockstep.due not_end

  pub some_here : 0 < operation_node_count x piece
  some_here = ⊎_elim
      (λ (acts : is_acting (kind_in x.net piece) ≡ true).
      let count = acting_count x piece acts in
      let some = below_length (nodes_at x.net piece) 0 (Act piece) (act_first x.net piece (kind_in x.net piece) acts) in
      let list = facts.lists piece exists acts in
      let own = list.some in
      omega (arith, count, some, own))
      (λ (idle : is_acting (kind_in x.net piece) ≡ false). subst (λ (names : List NodeName). 0 < length names) (sym (nodes_same x piece idle)) some_nodes)
      (cases_Bool (is_acting (kind_in x.net piece)))

  pub at : is_acting (kind_in x.net piece) ≡ true → IsAtPiece x piece start
  at acts = at_start x n facts words start piece left lockstep comes acts

  pub along : pass_at x.net piece start.memory ≡ Along (out (graph_in x.net) piece last.choice) last.memory last.text
  along = by (cases_Bool (is_acting (kind_in x.net piece)))
    where
      by : (is_acting (kind_in x.net piece) ≡ true) ⊎ (is_acting (kind_in x.net piece) ≡ false) → pass_at x.net piece start.memory ≡ Along (out (graph_in x.net) piece last.choice) last.memory last.text
      by (inl acts) =
          let here : IsAtPiece x piece start = at acts in
          along_by (out (graph_in x.net) piece) last (pass_at x.net piece start.memory) (subst (λ (r : Ran). DoesAsPass (out (graph_in x.net) piece) r (pass_at x.net piece start.memory)) ran (facts.passes piece start.memory here.exists here.acts here.sizes here.words))
      by (inr idle) =
          let same : changes start.memory ≡ last = same_last (changes start.memory) last (sym (idle_ran x (kind_in x.net piece) (exec_kind x.net.program piece) start.memory idle) ∙ ran) in
          subst (λ (e : Effect). pass_at x.net piece start.memory ≡ Along (out (graph_in x.net) piece e.choice) e.memory e.text) same (idle_along x (kind_in x.net piece) (exec_kind x.net.program piece) start.memory (out (graph_in x.net) piece) idle not_end)

  pub goes : DoesTrap (pass_at x.net piece start.memory) → ⊥
  goes does = subst DoesTrap along does

  pub runs : (acts : is_acting (kind_in x.net piece) ≡ true) → (here : IsAtPiece x piece start) × IsAllRun x n facts piece start here
  runs acts = (at acts, by (run_all x n facts piece start (at acts)))
    where
      by : IsAllRun x n facts piece start (at acts) ⊎ IsStopRun x n facts piece start (at acts) → IsAllRun x n facts piece start (at acts)
      by (inl run) = run
      by (inr stop) = absurd (goes (subst DoesTrap (sym stop.made) tt))

  -- ---- the marking after them

  between : IsBetween x.net lockstep.is_net.tree start lockstep.edge start.memory
  between =
      let old = lockstep.between in
      let now = lockstep.amid in
      record {
        lines = λ line place low stands. old.lines line place low (ap (λ (lines : List (Option ℕ)). joined (slice_get lines line)) (sym now.lines) ∙ stands);
        stand = λ line low. let own = old.stand line low in (own.0, ap (λ (lines : List (Option ℕ)). joined (slice_get lines line)) now.lines ∙ own.1);
        edges = now.at_first refl;
        memory_is = refl;
        trap_is = now.trap_is;
      }

  there : (j : ℕ) → j ≤ node_count x.net piece → IsPartFired x.net lockstep.is_net lockstep.ground lockstep.edge piece lockstep.way.exists lockstep.comes (later x.net start (at_place piece 0 left) lockstep) start start.memory between comes.is_marking.nodes j
  there j few = part_fired x.net lockstep.is_net lockstep.ground lockstep.edge piece lockstep.way.exists lockstep.comes (later x.net start (at_place piece 0 left) lockstep) start start.memory between comes.is_marking.nodes j goes few

  orders : (j : ℕ) → j ≤ node_count x.net piece → IsOrder (net_moves x.net) start (range_with_len (first_node x.net piece) j)
  orders j few = let part : IsPartFired x.net lockstep.is_net lockstep.ground lockstep.edge piece lockstep.way.exists lockstep.comes (later x.net start (at_place piece 0 left) lockstep) start start.memory between comes.is_marking.nodes j = there j few in part.order

  pub beside_all : AreBeside x n facts lockstep.is_net lockstep.ground piece start exists (operation_node_count x piece) (node_count x.net piece)
  beside_all = all_beside x n facts lockstep.is_net lockstep.ground piece start exists orders runs

  abbrev passed : Tokens
  passed = after (net_moves x.net) start (range_with_len (first_node x.net piece) (node_count x.net piece))

  pub passed_is : after (net_moves x.net) start (range_with_len (first_node x.net piece) (node_count x.net piece)) ≡ record start { lines = with_all start.lines (lines_moved_at x.net piece) (led_from x.net (out (graph_in x.net) piece last.choice)); memory = last.memory }
  passed_is =
      let part : IsPartFired x.net lockstep.is_net lockstep.ground lockstep.edge piece lockstep.way.exists lockstep.comes (later x.net start (at_place piece 0 left) lockstep) start start.memory between comes.is_marking.nodes (node_count x.net piece) = there (node_count x.net piece) (omega arith) in
      let own = part.amid in
      let leaves : leaving x.net piece (pass_at x.net piece start.memory) ≡ out (graph_in x.net) piece last.choice = ap (leaving x.net piece) along in
      let on_edge : pass x.net.program x.net.input lockstep.edge start.memory ≡ Along (out (graph_in x.net) piece last.choice) last.memory last.text = ap (λ (p : ℕ). pass_at x.net p start.memory) lockstep.comes ∙ along in
      let exit = along_exists x.net lockstep.is_net lockstep.ground lockstep.edge (out (graph_in x.net) piece last.choice) start.memory last.memory last.text lockstep.way.exists on_edge in
      let then : IsBetween x.net lockstep.is_net.tree passed (out (graph_in x.net) piece last.choice) (memory_or start.memory (pass_at x.net piece start.memory)) = all_fired x.net lockstep.is_net lockstep.ground lockstep.edge piece lockstep.way.exists lockstep.comes (later x.net start (at_place piece 0 left) lockstep) start start.memory between passed own (out (graph_in x.net) piece last.choice) leaves exit.0 (exit.1 ∙ lockstep.comes) in
      let room : length passed.edges ≡ length start.edges = part.room_is ∙ sym comes.is_marking.nodes in
      same_tokens passed (with_all start.lines (lines_moved_at x.net piece) (led_from x.net (out (graph_in x.net) piece last.choice))) start.edges last.memory start.trap
      (own.lines
      ∙ ap (λ (names : List NodeName). with_all start.lines (flat_map (moved_by x.net) names) (led_from x.net (leaving x.net piece (pass_at x.net piece start.memory)))) (take_whole (nodes_at x.net piece))
      ∙ ap (λ (d : ℕ). with_all start.lines (lines_moved_at x.net piece) (led_from x.net d)) leaves)
      (same_list passed.edges start.edges (λ k. same_left passed.edges start.edges k room (then.edges k) (between.edges k)))
      (then.memory_is ∙ ap (memory_or start.memory) along)
      (then.trap_is ∙ sym between.trap_is)

  pub all_is : after (operation_moves x) (between_pieces x start) (range_with_len (first_operation x piece) (operation_node_count x piece)) ≡ between_pieces x (record start { lines = with_all start.lines (lines_moved_at x.net piece) (led_from x.net (out (graph_in x.net) piece last.choice)); memory = last.memory })
  all_is = let all : AreBeside x n facts lockstep.is_net lockstep.ground piece start exists (operation_node_count x piece) (node_count x.net piece) = beside_all in all.is ∙ ap (between_pieces x) passed_is
