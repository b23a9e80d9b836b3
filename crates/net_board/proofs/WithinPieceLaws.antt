-- How the nodes of a piece fire one after another.
use Rattle.std.proofs.Common.{◌≡◌, ℕ, zero, suc, ◌<◌, ◌⊎◌, ◌&&◌, Bool, true, false, not, List, [], ◌∷◌, ◌++◌, length, map, take, flat_map, Some, None, slice_get, refl, sym, ap, ◌∙◌, subst, inl, inr, ⊎_elim, arith}
use Rattle.std.specs.List.{range_with_len}
use Rattle.f77_tree.specs.declared.programs.ExecKind.{ExecKind}
use Rattle.f77_tree.specs.Execution.{Memory}
use Rattle.cfg_build.specs.declared.pieces.PieceKind.{PieceKind}
use Rattle.cfg_build.specs.declared.pieces.PieceKind.TheVariants as kind
use Rattle.cfg_build.specs.Joined.{is_end}
use Rattle.cfg_build.specs.Passes.{out, pass_of}
use Rattle.dep_routing.specs.Sound.{DoesTrap}
use Rattle.firing.specs.declared.system.NodeName.{NodeName}
use Rattle.firing.specs.declared.system.NodeName.TheVariants.{Act, Merge, Switch}
use Rattle.net_board.specs.WithinPiece.{moved_by, moved_first, leaving, memory_or, text_in}
use Rattle.list_laws.specs.Member.{Member}
use Rattle.net_board.specs.Nodes.{NetOf, graph_in, is_free, touched, led_to, passing, nodes_by, switch_lines}
use Rattle.list_laws.proofs.Members.{Member-filtered, Member-cases}
use Rattle.net_board.proofs.ListPrefixes.{member_at, not_before, HasItem, item_at}

-- ---- which node comes next

-- what the nodes of a piece of this kind are
module _ (net : NetOf) (piece j : ℕ) (k : PieceKind) where
  pub record IsAct : Type 0 where
    pub first : j ≡ 0
    pub acts : is_end k ≡ false
    pub name : slice_get (nodes_by net piece k) j ≡ Some (Act piece)

  pub record IsSwitch : Type 0 where
    pub i : ℕ
    pub line : ℕ
    pub place : j ≡ suc i
    pub name : slice_get (nodes_by net piece k) j ≡ Some (Switch piece line)
    pub at : slice_get (passing net piece) i ≡ Some line
    pub count : length (switch_lines net piece k) ≡ length (passing net piece)
    pub moved : moved_first net (nodes_by net piece k) j ≡ touched net piece ++ take i (passing net piece)

  -- a merge stands where the pass takes the one edge, and changes nothing
  pub record IsMerge : Type 0 where
    pub line : ℕ
    pub name : slice_get (nodes_by net piece k) j ≡ Some (Merge piece line)
    pub at : slice_get (led_to net piece) j ≡ Some line
    pub none : length (switch_lines net piece k) ≡ 0
    pub moved : moved_first net (nodes_by net piece k) j ≡ take j (led_to net piece)
    pub edge : (m : Memory) (e : ExecKind) → leaving net piece (pass_of net.program net.input m (out (graph_in net) piece) k e) ≡ out (graph_in net) piece 0
    pub memory : (m : Memory) (e : ExecKind) → memory_or m (pass_of net.program net.input m (out (graph_in net) piece) k e) ≡ m
    pub goes : (m : Memory) (e : ExecKind) → DoesTrap (pass_of net.program net.input m (out (graph_in net) piece) k e) → ⊥
    pub quiet : (m : Memory) (e : ExecKind) → text_in (pass_of net.program net.input m (out (graph_in net) piece) k e) ≡ []

  abbrev pub NodeCase : Type 0
  NodeCase = IsAct ⊎ IsSwitch ⊎ IsMerge

module _ (net : NetOf) (piece : ℕ) where
  moved_switches : (lines : List ℕ) (i : ℕ) → flat_map (moved_by net) (take i (map (Switch piece) lines)) ≡ take i lines
  moved_switches lines zero = refl
  moved_switches [] (suc i) = refl
  moved_switches (line ∷ lines) (suc i) = ap (λ rest. line ∷ rest) (moved_switches lines i)

  moved_merges : (lines : List ℕ) (i : ℕ) → flat_map (moved_by net) (take i (map (Merge piece) lines)) ≡ take i lines
  moved_merges lines zero = refl
  moved_merges [] (suc i) = refl
  moved_merges (line ∷ lines) (suc i) = ap (λ rest. line ∷ rest) (moved_merges lines i)

  get_map : (f : ℕ → NodeName) (lines : List ℕ) (j line : ℕ) → slice_get lines j ≡ Some line → slice_get (map f lines) j ≡ Some (f line)
  get_map f [] j line at = let e : None ≡ Some line = at in absurd cc
  get_map f (x ∷ lines) zero line at = by at
    where
      by : Some x ≡ Some line → Some (f x) ≡ Some (f line)
      by same = cc
  get_map f (x ∷ lines) (suc j) line at = get_map f lines j line at

  length_map : (f : ℕ → NodeName) (lines : List ℕ) → length (map f lines) ≡ length lines
  length_map f [] = refl
  length_map f (x ∷ lines) = ap suc (length_map f lines)

  switch_case : (i : ℕ) (k : PieceKind) → nodes_by net piece k ≡ Act piece ∷ map (Switch piece) (passing net piece) → switch_lines net piece k ≡ passing net piece → suc i < length (nodes_by net piece k) → IsSwitch net piece (suc i) k
  switch_case i k nodes lines below =
      let long : length (nodes_by net piece k) ≡ suc (length (passing net piece)) = ap length nodes ∙ ap suc (length_map (Switch piece) (passing net piece)) in
      let r : HasItem (passing net piece) i = item_at (passing net piece) i (omega (arith, below, long)) in
      record {
        i = i;
        line = r.item;
        place = refl;
        name = ap (λ (xs : List NodeName). slice_get xs (suc i)) nodes ∙ get_map (Switch piece) (passing net piece) i r.item r.at;
        at = r.at;
        count = ap length lines;
        moved = ap (λ xs. moved_first net xs (suc i)) nodes ∙ ap (λ rest. touched net piece ++ rest) (moved_switches (passing net piece) i);
      }

  merge_case : (j : ℕ) (k : PieceKind) → nodes_by net piece k ≡ map (Merge piece) (led_to net piece) → switch_lines net piece k ≡ [] → j < length (nodes_by net piece k) → ((m : Memory) (e : ExecKind) → (leaving net piece (pass_of net.program net.input m (out (graph_in net) piece) k e) ≡ out (graph_in net) piece 0) × (memory_or m (pass_of net.program net.input m (out (graph_in net) piece) k e) ≡ m) × (DoesTrap (pass_of net.program net.input m (out (graph_in net) piece) k e) → ⊥) × (text_in (pass_of net.program net.input m (out (graph_in net) piece) k e) ≡ [])) → IsMerge net piece j k
  merge_case j k nodes lines below plain =
      let long : length (nodes_by net piece k) ≡ length (led_to net piece) = ap length nodes ∙ length_map (Merge piece) (led_to net piece) in
      let r : HasItem (led_to net piece) j = item_at (led_to net piece) j (omega (arith, below, long)) in
      record {
        line = r.item;
        name = ap (λ (xs : List NodeName). slice_get xs j) nodes ∙ get_map (Merge piece) (led_to net piece) j r.item r.at;
        at = r.at;
        none = ap length lines;
        moved = ap (λ xs. moved_first net xs j) nodes ∙ moved_merges (led_to net piece) j;
        edge = λ m e. (plain m e).0;
        memory = λ m e. (plain m e).1;
        goes = λ m e. (plain m e).2;
        quiet = λ m e. (plain m e).3;
      }

  pub node_case : (j : ℕ) (k : PieceKind) → j < length (nodes_by net piece k) → NodeCase net piece j k
  node_case zero kind.Act below = inl (record { first = refl; acts = refl; name = refl })
  node_case zero kind.Branch below = inl (record { first = refl; acts = refl; name = refl })
  node_case zero kind.Hold below = inl (record { first = refl; acts = refl; name = refl })
  node_case (suc j) kind.Act below = absurd (omega (arith, below))
  node_case (suc j) kind.Branch below = inr (inl (switch_case j kind.Branch refl refl below))
  node_case (suc j) kind.Hold below = inr (inl (switch_case j kind.Hold refl refl below))
  node_case j kind.Join below = inr (inr (merge_case j kind.Join refl refl below (λ m e. (refl, refl, λ (t : ⊥). t, refl))))
  node_case j kind.End below = inr (inr (merge_case j kind.End refl refl below (λ m e. (refl, refl, λ (t : ⊥). t, refl))))
  node_case j kind.Start below = absurd (omega (arith, below))
  node_case j kind.Pass below = absurd (omega (arith, below))

  -- no node moves a line that one before it has moved
  pub not_moved : (j : ℕ) (k : PieceKind) (name : NodeName) (line : ℕ) → j < length (nodes_by net piece k) → slice_get (nodes_by net piece k) j ≡ Some name → Member (moved_by net name) line → Member (moved_first net (nodes_by net piece k) j) line → ⊥
  not_moved j k name line below at one other = by (node_case j k below)
    where
      same_name : (a b : NodeName) → Some a ≡ Some b → a ≡ b
      same_name a b e = cc

      by : NodeCase net piece j k → ⊥
      by (inl act) = subst (λ (i : ℕ). Member (moved_first net (nodes_by net piece k) i) line) act.first other
      by (inr (inl switch)) =
          let mine : Member (switch.line ∷ []) line = subst (λ n. Member (moved_by net n) line) (same_name name (Switch piece switch.line) (sym at ∙ switch.name)) one in
          let there : Member (touched net piece ++ take switch.i (passing net piece)) line = subst (λ (xs : List ℕ). Member xs line) switch.moved other in
          let through : slice_get (passing net piece) switch.i ≡ Some line = switch.at ∙ ap (λ (l : ℕ). Some l) (⊎_elim (λ (e : switch.line ≡ line). e) (λ (r : ⊥). absurd r) mine) in
          let passes = (Member-filtered (λ l. is_free net piece l && not (net.touches piece l)) (range_with_len 0 net.routing.lines) line (member_at (passing net piece) switch.i line through)).1 in
          ⊎_elim
          (λ (t : Member (touched net piece) line). no_both (is_free net piece line) (net.touches piece line) passes (Member-filtered (net.touches piece) (range_with_len 0 net.routing.lines) line t).1)
          (λ (t : Member (take switch.i (passing net piece)) line). not_before (λ l. is_free net piece l && not (net.touches piece l)) 0 net.routing.lines line switch.i through t)
          (Member-cases (touched net piece) (take switch.i (passing net piece)) line there)
        where
          no_both : (a b : Bool) → (a && not b) ≡ true → b ≡ true → ⊥
          no_both a true p q = by_a a p
            where
              by_a : (a : Bool) → (a && false) ≡ true → ⊥
              by_a true p = absurd cc
              by_a false p = absurd cc
          no_both a false p q = absurd cc
      by (inr (inr merge)) =
          let mine : Member (merge.line ∷ []) line = subst (λ n. Member (moved_by net n) line) (same_name name (Merge piece merge.line) (sym at ∙ merge.name)) one in
          let through : slice_get (led_to net piece) j ≡ Some line = merge.at ∙ ap (λ (l : ℕ). Some l) (⊎_elim (λ (e : merge.line ≡ line). e) (λ (r : ⊥). absurd r) mine) in
          let there : Member (take j (led_to net piece)) line = subst (λ (xs : List ℕ). Member xs line) merge.moved other in
          not_before (is_free net piece) 0 net.routing.lines line j through there
