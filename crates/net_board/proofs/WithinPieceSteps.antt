-- The next node of a piece is ready, and what its firing leads to.
use Rattle.std.proofs.Common.{◌≡◌, ℕ, zero, suc, ◌+◌, ◌<◌, ◌≤◌, ◌⊎◌, Bool, true, if◌then◌else◌, List, [], ◌∷◌, ◌++◌, length, take, flat_map, Option, Some, None, slice_get, slice_set, refl, sym, ap, ◌∙◌, subst, inl, inr, ⊎_elim, append-nil, arith}
use Rattle.std.proofs.lemmas.Grind.{flat_map-append}
use Rattle.f77_tree.specs.Execution.{Memory}
use Rattle.cfg_build.specs.Passes.{Passed, Along, Traps, Done, out}
use Rattle.dep_routing.specs.Sound.{DoesTrap}
use Rattle.firing.specs.declared.system.NodeName.{NodeName}
use Rattle.firing.specs.declared.system.NodeName.TheVariants.{Act, Merge, Switch}
use Rattle.net_board.specs.WithinPiece.{moved_by, moved_first, leaving, memory_or, memory_amid, switch_count, IsAmid}
use Rattle.list_laws.specs.Member.{Member}
use Rattle.net_board.specs.Nodes.{NetOf, graph_in, nodes_at, first_node, switches}
use Rattle.net_board.specs.Tokens.{Tokens, joined, left_for, with_all, led_from, gone, stopped, acted, switched, merged}
use Rattle.list_laws.proofs.Members.{Member-range, Member-in_range}
use Rattle.net_board.proofs.ListPrefixes.{take_more, HasItem, item_at}
use Rattle.net_board.proofs.ListPlaces.{put, get_set_same, get_set_other, with_all_other, with_all_same}

-- ---- lines

with_all_more : (values : List (Option ℕ)) (xs ys : List ℕ) (value : ℕ → Option ℕ) → with_all values (xs ++ ys) value ≡ with_all (with_all values xs value) ys value
with_all_more values [] ys value = refl
with_all_more values (x ∷ xs) ys value = with_all_more (slice_set values x (value x)) xs ys value

moved_more : (net : NetOf) (nodes : List NodeName) (j : ℕ) (name : NodeName) → slice_get nodes j ≡ Some name → moved_first net nodes (suc j) ≡ moved_first net nodes j ++ moved_by net name
moved_more net nodes j name at =
    ap (flat_map (moved_by net)) (take_more nodes j name at)
    ∙ flat_map-append (moved_by net) (take j nodes) (name ∷ [])
    ∙ ap (λ rest. moved_first net nodes j ++ rest) (append-nil (moved_by net name))

lines_more : (net : NetOf) (nodes : List NodeName) (j : ℕ) (name : NodeName) (first now : List (Option ℕ)) (value : ℕ → Option ℕ) → slice_get nodes j ≡ Some name → now ≡ with_all first (moved_first net nodes j) value → with_all now (moved_by net name) value ≡ with_all first (moved_first net nodes (suc j)) value
lines_more net nodes j name first now value at is =
    ap (λ values. with_all values (moved_by net name) value) is
    ∙ sym (with_all_more first (moved_first net nodes j) (moved_by net name) value)
    ∙ ap (λ xs. with_all first xs value) (sym (moved_more net nodes j name at))

-- ---- what is left for nodes

joined_put : (o : Option (Option ℕ)) → joined (put None o) ≡ None
joined_put None = refl
joined_put (Some old) = refl

left_taken : (edges : List (Option ℕ)) (k : ℕ) → joined (slice_get (slice_set edges k None) k) ≡ None
left_taken edges k = ap joined (get_set_same edges k None) ∙ joined_put (slice_get edges k)

left_given : (edges : List (Option ℕ)) (places : List ℕ) (edge k : ℕ) → Member places k → k < length edges → joined (slice_get (with_all edges places (λ place. Some edge)) k) ≡ Some edge
left_given edges places edge k m below =
    let r : HasItem edges k = item_at edges k below in
    ap joined (with_all_same edges places (λ place. Some edge) k m ∙ ap (put (Some edge)) r.at)

same_or_not : (j k : ℕ) → (j ≡ k) ⊎ (j ≡ k → ⊥)
same_or_not zero zero = inl refl
same_or_not zero (suc k) = inr (λ e. cc)
same_or_not (suc j) zero = inr (λ e. cc)
same_or_not (suc j) (suc k) = by (same_or_not j k)
  where
    by : (j ≡ k) ⊎ (j ≡ k → ⊥) → (suc j ≡ suc k) ⊎ (suc j ≡ suc k → ⊥)
    by (inl e) = inl (ap suc e)
    by (inr n) = inr (λ (e : suc j ≡ suc k). n (omega (arith, e)))

-- ---- the firings

module _ (net : NetOf) (start m : Tokens) (piece : ℕ) (memory : Memory) where
  gone_amid : (edge : ℕ) (new : Memory) (text : List ℕ) → IsAmid net start m piece 0 memory (Along edge new text) → slice_get (nodes_at net piece) 0 ≡ Some (Act piece) → first_node net piece + switch_count net piece < length m.edges → IsAmid net start (gone net m piece edge new) piece 1 memory (Along edge new text)
  gone_amid edge new text amid name room =
      let value : ℕ → Option ℕ = λ switch. Some edge in
      record {
        lines = lines_more net (nodes_at net piece) 0 (Act piece) start.lines m.lines (led_from net edge) name amid.lines;
        at_first = λ one. let e : suc 0 ≡ 0 = one in cc;
        before = λ k low. ap joined (with_all_other m.edges (switches net piece) value k (λ s. let inside = (Member-in_range (suc (first_node net piece)) (switch_count net piece) k s).0 in omega (arith, low, inside))) ∙ amid.at_first refl k;
        left = λ k some low high. left_given m.edges (switches net piece) edge k (Member-range (suc (first_node net piece)) (switch_count net piece) k (omega (arith, low)) (omega (arith, high))) (omega (arith, high, room));
        after = λ k high. ap joined (with_all_other m.edges (switches net piece) value k (λ s. let inside = (Member-in_range (suc (first_node net piece)) (switch_count net piece) k s).1 in omega (arith, high, inside))) ∙ amid.at_first refl k;
        memory_is = refl;
        trap_is = amid.trap_is;
        no_trap = λ some (t : ⊥). t;
      }

  pub act_amid : (made : Passed) → IsAmid net start m piece 0 memory made → slice_get (nodes_at net piece) 0 ≡ Some (Act piece) → first_node net piece + switch_count net piece < length m.edges → (made ≡ Done → ⊥) → (DoesTrap made → net.touches piece 0 ≡ true) → (acted net m piece made).trap ≡ None → IsAmid net start (acted net m piece made) piece 1 memory made
  act_amid (Along edge new text) amid name room going traps no_trap = gone_amid edge new text amid name room
  act_amid Done amid name room going traps no_trap = absurd (going refl)
  act_amid (Traps trap) amid name room going traps no_trap =
      let e : (if true then stopped net m piece trap else gone net m piece (out (graph_in net) piece 0) m.memory).trap ≡ None = subst (λ (b : Bool). (if b then stopped net m piece trap else gone net m piece (out (graph_in net) piece 0) m.memory).trap ≡ None) (traps tt) no_trap in
      absurd cc

  pub switch_amid : (made : Passed) (fired line : ℕ) → IsAmid net start m piece (suc fired) memory made → slice_get (nodes_at net piece) (suc fired) ≡ Some (Switch piece line) → suc fired ≤ switch_count net piece → IsAmid net start (switched net m (first_node net piece + suc fired) line (Some (leaving net piece made))) piece (suc (suc fired)) memory made
  switch_amid made fired line amid name few =
      let own = first_node net piece + suc fired in
      record {
        lines = lines_more net (nodes_at net piece) (suc fired) (Switch piece line) start.lines m.lines (led_from net (leaving net piece made)) name amid.lines;
        at_first = λ one. let e : suc (suc fired) ≡ 0 = one in cc;
        before = λ k low. ⊎_elim
            (λ (same : own ≡ k). subst (λ (i : ℕ). joined (slice_get (slice_set m.edges own None) i) ≡ None) same (left_taken m.edges own))
            (λ (other : own ≡ k → ⊥). ap joined (get_set_other m.edges own k None other) ∙ amid.before k (lower k low other))
            (same_or_not own k);
        left = λ k some low high. ap joined (get_set_other m.edges own k None (λ same. omega (arith, same, low))) ∙ amid.left k (omega arith) (omega (arith, low)) high;
        after = λ k high. ap joined (get_set_other m.edges own k None (λ same. omega (arith, same, high, few))) ∙ amid.after k high;
        memory_is = amid.memory_is;
        trap_is = amid.trap_is;
        no_trap = λ some. amid.no_trap (omega arith);
      }
    where
      lower : (k : ℕ) → k < first_node net piece + suc (suc fired) → (first_node net piece + suc fired ≡ k → ⊥) → k < first_node net piece + suc fired
      lower k low other = at_most (first_node net piece + suc fired) k (omega (arith, low)) other
        where
          at_most : (a k : ℕ) → k ≤ a → (a ≡ k → ⊥) → k < a
          at_most a k low other = grind (arith, low, other)

  pub merge_amid : (made : Passed) (fired line : ℕ) → IsAmid net start m piece fired memory made → slice_get (nodes_at net piece) fired ≡ Some (Merge piece line) → switch_count net piece ≡ 0 → leaving net piece made ≡ out (graph_in net) piece 0 → memory_or memory made ≡ memory → (DoesTrap made → ⊥) → IsAmid net start (merged net m piece line) piece (suc fired) memory made
  merge_amid made fired line amid name none edge same goes = record {
    lines = ap (λ (d : ℕ). slice_set m.lines line (led_from net d line)) (sym edge) ∙ lines_more net (nodes_at net piece) fired (Merge piece line) start.lines m.lines (led_from net (leaving net piece made)) name amid.lines;
    at_first = λ one. let e : suc fired ≡ 0 = one in cc;
    before = λ k low. nothing fired refl k;
    left = λ k some low high. absurd (omega (arith, low, high, none));
    after = λ k high. nothing fired refl k;
    memory_is = amid.memory_is ∙ still fired ∙ sym same;
    trap_is = amid.trap_is;
    no_trap = λ some. goes;
  }
    where
      still : (i : ℕ) → memory_amid memory made i ≡ memory
      still zero = refl
      still (suc i) = same

      nothing : (i : ℕ) → i ≡ fired → (k : ℕ) → left_for m k ≡ None
      nothing zero is k = amid.at_first (sym is) k
      nothing (suc i) is k = by (low_or_high k)
        where
          low_or_high : (k : ℕ) → (k < first_node net piece + fired) ⊎ (first_node net piece < k)
          low_or_high k = split (first_node net piece) fired k (omega (arith, is))
            where
              split : (a b k : ℕ) → 0 < b → (k < a + b) ⊎ (a < k)
              split a b k some = grind (arith, some)

          by : (k < first_node net piece + fired) ⊎ (first_node net piece < k) → left_for m k ≡ None
          by (inl low) = amid.before k low
          by (inr high) = amid.after k (omega (arith, high, none))
