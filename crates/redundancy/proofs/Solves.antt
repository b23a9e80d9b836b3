-- The steps of finding what is missing where.
use Rattle.std.proofs.Common.{◌≡◌, ◌≢◌, ℕ, zero, suc, ◌+◌, ◌^◌, ◌<◌, ◌≤◌, ◌⊎◌, Bool, true, false, not, ◌&&◌, ◌||◌, ◌↔◌, List, [], ◌∷◌, ◌++◌, length, get_or, set, drop, refl, sym, ap, ◌∙◌, subst, inl, inr, ⊎_elim, arith, add-one, drop-cons, bit_or, get_or-set_same, get_or-set_other, length-set, length-append}
use Rattle.std.proofs.lemmas.Bool.{cases_eq, or_left}
use Rattle.std.proofs.lemmas.List.{drop_all, get_or_default}
use Rattle.std.proofs.lemmas.Nat.{le_or_l}
use Rattle.closed_walks.specs.Graph.{Graph, edge_count, from, to, touches, edges_at}
use Rattle.closed_walks.specs.Walk.{Walk, Holds}
use Rattle.closed_walks.specs.Region.{IsFlowGraph}
use Rattle.redundancy.specs.Available.{has_bit}
use Rattle.redundancy.specs.Solving.{bit, HasBit, IsLost, missing_after, IsSolving, Nothing, room, work}
use Rattle.redundancy.proofs.Bits.{or_bit}
use Rattle.closed_walks.proofs.Held.{Holds-left, Holds-right, Holds-append}
use Rattle.redundancy.proofs.OnWalks.{lost-after}
use Rattle.closed_walks.proofs.Held.{Holds-at}

-- ---- lists

Holds-drop : (xs : List ℕ) (k x : ℕ) → k < length xs → Holds (drop k xs) x → (get_or xs k 0 ≡ x) ⊎ Holds (drop (k + 1) xs) x
Holds-drop xs k x within holds = rw (add-one k) (subst (λ ys. Holds ys x) (drop-cons xs k 0 within) holds)

Holds-drop_end : (xs : List ℕ) (k x : ℕ) → length xs ≤ k → Holds (drop k xs) x → ⊥
Holds-drop_end xs k x end holds = subst (λ ys. Holds ys x) (drop_all k xs end) holds

-- a word that grows leaves less room
pub room-set : (limit : ℕ) (words : List ℕ) (v word : ℕ) → v < length words → get_or words v 0 < word → word ≤ limit → room limit (set words v word) + 1 ≤ room limit words
room-set limit [] v word within more most = absurd (omega (arith, within))
room-set limit (w ∷ words) zero word within more most = omega (arith, more, most)
room-set limit (w ∷ words) (suc v) word within more most = let rest = room-set limit words v word (omega arith) more most in omega (arith, rest)

-- ---- bits

bit_grows : (missing : List ℕ) (n word k v : ℕ) → n < length missing → HasBit missing k v → HasBit (set missing n (bit_or (get_or missing n 0) word)) k v
bit_grows missing n word k v within has = ⊎_elim
    (λ (same : v ≡ n).
    let now : get_or (set missing n (bit_or (get_or missing n 0) word)) n 0 ≡ bit_or (get_or missing n 0) word = get_or-set_same missing n (bit_or (get_or missing n 0) word) 0 within in
    let has_n : has_bit (get_or missing n 0) k ≡ true = subst (λ x. HasBit missing k x) same has in
    rw same (ap (λ w. has_bit w k) now ∙ or_bit (get_or missing n 0) word k ∙ or_left (has_bit (get_or missing n 0) k) (has_bit word k) has_n))
    (λ (apart : v ≢ n). ap (λ w. has_bit w k) (get_or-set_other missing n v (bit_or (get_or missing n 0) word) 0 apart) ∙ has)
    (cases_eq v n)

or_cases : (a b : Bool) → (a || b) ≡ true → (a ≡ true) ⊎ (b ≡ true)
or_cases true b is = inl refl
or_cases false b is = inr is

or_right : (a b : Bool) → b ≡ true → (a || b) ≡ true
or_right true b is = refl
or_right false b is = is

bit_cases : (missing : List ℕ) (n word k v : ℕ) → n < length missing → HasBit (set missing n (bit_or (get_or missing n 0) word)) k v → HasBit missing k v ⊎ ((v ≡ n) × (has_bit word k ≡ true))
bit_cases missing n word k v within has = ⊎_elim
    (λ (same : v ≡ n).
    let now : get_or (set missing n (bit_or (get_or missing n 0) word)) n 0 ≡ bit_or (get_or missing n 0) word = get_or-set_same missing n (bit_or (get_or missing n 0) word) 0 within in
    let has_n : has_bit (get_or (set missing n (bit_or (get_or missing n 0) word)) n 0) k ≡ true = subst (λ x. HasBit (set missing n (bit_or (get_or missing n 0) word)) k x) same has in
    ⊎_elim
    (λ old. inl (subst (λ x. HasBit missing k x) (sym same) old))
    (λ new. inr (same, new))
    (or_cases (has_bit (get_or missing n 0) k) (has_bit word k) (sym (ap (λ w. has_bit w k) now ∙ or_bit (get_or missing n 0) word k) ∙ has_n)))
    (λ (apart : v ≢ n). inl (sym (ap (λ w. has_bit w k) (get_or-set_other missing n v (bit_or (get_or missing n 0) word) 0 apart)) ∙ has))
    (cases_eq v n)

-- ---- the edges of one node

-- the edge begins at the node, and stands in the list
abbrev pub RestOf : Graph → ℕ → List ℕ → ℕ → Type 0
RestOf g node edges e = (from g e ≡ node) × Holds edges e

-- What has been done for a node after its first i edges, since the words and the nodes that wait were as before.
pub record IsSpreading (g : Graph) (computes kills : List ℕ) (node : ℕ) (edges : List ℕ) (i : ℕ) (before first missing waiting : List ℕ) : Type 0 where
  pub edges_are : edges ≡ edges_at g node
  pub solving : IsSolving g computes kills missing waiting (RestOf g node (drop i edges))
  pub same : (get_or missing node 0 ≡ get_or before node 0) ⊎ Holds waiting node
  pub less : work missing waiting ≤ work before first

-- the word has what is missing after the node
abbrev pub IsAfter : (computes kills before : List ℕ) → (node word : ℕ) → Type 0
IsAfter computes kills before node word = (k : ℕ) → k < 64 → has_bit word k ≡ missing_after (bit computes k) (bit kills k) (bit before k) node

module _ (g : Graph) (computes kills : List ℕ) (node : ℕ) (before first : List ℕ) where
  module _ (edges : List ℕ) (i : ℕ) (missing waiting : List ℕ) (s : IsSpreading g computes kills node edges i before first missing waiting) where
    pub spread-done : length edges ≤ i → IsSolving g computes kills missing waiting Nothing
    spread-done end = record {
      nodes = s.solving.nodes;
      waits = s.solving.waits;
      start = s.solving.start;
      lost = s.solving.lost;
      closed = λ e k edge within after. ⊎_elim
          (λ has. inl has)
          (⊎_elim
          (λ waits. inr (inl waits))
          (λ rest. absurd (Holds-drop_end edges i e end rest.1)))
          (s.solving.closed e k edge within after);
    }

    module _ (within : i < length edges) (word : ℕ) (is_after : IsAfter computes kills before node word) where
      -- what is missing after the node is in the word, or the node waits again
      in_word : (k : ℕ) → k < 64 → missing_after (bit computes k) (bit kills k) (bit missing k) node ≡ true → (has_bit word k ≡ true) ⊎ Holds waiting node
      in_word k few after = ⊎_elim
          (λ (same : get_or missing node 0 ≡ get_or before node 0).
          let old : missing_after (bit computes k) (bit kills k) (bit missing k) node ≡ missing_after (bit computes k) (bit kills k) (bit before k) node = ap (λ w. bit kills k node || (has_bit w k && not (bit computes k node))) same in
          inl (is_after k few ∙ sym old ∙ after))
          (λ waits. inr waits)
          s.same

      pub spread-skip : (from g (get_or edges i 0) ≡ node → bit_or (get_or missing (to g (get_or edges i 0)) 0) word ≡ get_or missing (to g (get_or edges i 0)) 0) → IsSpreading g computes kills node edges (i + 1) before first missing waiting
      spread-skip stays = record {
        edges_are = s.edges_are;
        solving = record {
          nodes = s.solving.nodes;
          waits = s.solving.waits;
          start = s.solving.start;
          lost = s.solving.lost;
          closed = λ e k edge few after. ⊎_elim
              (λ has. inl has)
              (⊎_elim
              (λ waits. inr (inl waits))
              (λ rest. ⊎_elim
              (λ (same : get_or edges i 0 ≡ e).
              let begins : from g e ≡ node = rest.0 in
              let at_node : missing_after (bit computes k) (bit kills k) (bit missing k) node ≡ true = subst (λ x. missing_after (bit computes k) (bit kills k) (bit missing k) x ≡ true) begins after in
              ⊎_elim
              (λ (has : has_bit word k ≡ true).
              let all : bit_or (get_or missing (to g e) 0) word ≡ get_or missing (to g e) 0 = subst (λ x. bit_or (get_or missing (to g x) 0) word ≡ get_or missing (to g x) 0) same (stays (ap (from g) same ∙ begins)) in
              inl (sym (ap (λ w. has_bit w k) all) ∙ or_bit (get_or missing (to g e) 0) word k ∙ or_right (has_bit (get_or missing (to g e) 0) k) (has_bit word k) has))
              (λ (waits : Holds waiting node). inr (inl (subst (λ x. Holds waiting x) (sym begins) waits)))
              (in_word k few at_node))
              (λ later. inr (inr (rest.0, later)))
              (Holds-drop edges i e within rest.1)))
              (s.solving.closed e k edge few after);
        };
        same = s.same;
        less = s.less;
      }

      pub spread-grow : (n : ℕ) → IsFlowGraph g → node < g.nodes → IsSolving g computes kills before first (λ e. from g e ≡ node) → get_or edges i 0 < edge_count g → from g (get_or edges i 0) ≡ node → n ≡ to g (get_or edges i 0) → n < g.nodes → bit_or (get_or missing n 0) word ≢ get_or missing n 0 → bit_or (get_or missing n 0) word ≤ 2 ^ 64
          → IsSpreading g computes kills node edges (i + 1) before first (set missing n (bit_or (get_or missing n 0) word)) (waiting ++ n ∷ [])
      spread-grow n flow here was edge begins ends exists changes fits =
          let inside : n < length missing = omega (arith, s.solving.nodes, exists) in
          let less = s.less in
          let old_word = get_or missing n 0 in
          let all = bit_or old_word word in
          let grows : old_word ≤ all = le_or_l old_word word in
          let more : old_word < all = omega (arith, grows, changes) in
          let shrinks = room-set (2 ^ 64) missing n all inside more fits in
          let one = length-append waiting (n ∷ []) in
          record {
            edges_are = s.edges_are;
            solving = record {
              nodes = length-set missing n all ∙ s.solving.nodes;
              waits = λ v holds. ⊎_elim
                  (λ old. s.solving.waits v old)
                  (⊎_elim (λ (same : n ≡ v). subst (λ x. x < g.nodes) same exists) (λ none. absurd none))
                  (Holds-append waiting (n ∷ []) v holds);
              start = λ k few. bit_grows missing n word k 0 inside (s.solving.start k few);
              lost = λ v k few has. ⊎_elim
                  (λ old. s.solving.lost v k few old)
                  (λ new.
                  let x = get_or edges i 0 in
                  let reach = flow.strong 0 node (omega (arith, here)) here in
                  let leads : Walk g 0 reach.walk (from g x) = subst (λ y. Walk g 0 reach.walk y) (sym begins) reach.leads in
                  let after : missing_after (bit computes k) (bit kills k) (bit before k) (from g x) ≡ true = subst (λ y. missing_after (bit computes k) (bit kills k) (bit before k) y ≡ true) (sym begins) (sym (is_after k few) ∙ new.1) in
                  let found = lost-after g (bit computes k) (bit kills k) (bit before k) x reach.walk edge leads (λ gone. was.lost (from g x) k few gone) after in
                  subst (λ y. IsLost g (HasBit computes k) (HasBit kills k) y) (sym ends ∙ sym new.0) found)
                  (bit_cases missing n word k v inside has);
              closed = λ e k e_edge few after. ⊎_elim
                  (λ (same : from g e ≡ n). inr (inl (Holds-right waiting (n ∷ []) (from g e) (inl (sym same)))))
                  (λ (apart : from g e ≢ n).
                  let word_is : get_or (set missing n all) (from g e) 0 ≡ get_or missing (from g e) 0 = get_or-set_other missing n (from g e) all 0 apart in
                  let old : missing_after (bit computes k) (bit kills k) (bit missing k) (from g e) ≡ true = sym (ap (λ w. bit kills k (from g e) || (has_bit w k && not (bit computes k (from g e)))) word_is) ∙ after in
                  ⊎_elim
                  (λ has. inl (bit_grows missing n word k (to g e) inside has))
                  (⊎_elim
                  (λ waits. inr (inl (Holds-left waiting (n ∷ []) (from g e) waits)))
                  (λ rest. ⊎_elim
                  (λ (same : get_or edges i 0 ≡ e).
                  let at_node : missing_after (bit computes k) (bit kills k) (bit missing k) node ≡ true = subst (λ x. missing_after (bit computes k) (bit kills k) (bit missing k) x ≡ true) rest.0 old in
                  ⊎_elim
                  (λ (has : has_bit word k ≡ true).
                  let to_n : to g e ≡ n = sym (ends ∙ ap (to g) same) in
                  inl (ap (λ y. has_bit (get_or (set missing n all) y 0) k) to_n ∙ ap (λ w. has_bit w k) (get_or-set_same missing n all 0 inside) ∙ or_bit old_word word k ∙ or_right (has_bit old_word k) (has_bit word k) has))
                  (λ (waits : Holds waiting node). inr (inl (Holds-left waiting (n ∷ []) (from g e) (subst (λ x. Holds waiting x) (sym rest.0) waits))))
                  (in_word k few at_node))
                  (λ later. inr (inr (rest.0, later)))
                  (Holds-drop edges i e within rest.1)))
                  (s.solving.closed e k e_edge few old))
                  (cases_eq (from g e) n);
            };
            same = ⊎_elim
                (λ (at : node ≡ n). inr (Holds-right waiting (n ∷ []) node (inl (sym at))))
                (λ (apart : node ≢ n). ⊎_elim
                (λ same. inl (get_or-set_other missing n node all 0 apart ∙ same))
                (λ waits. inr (Holds-left waiting (n ∷ []) node waits))
                s.same)
                (cases_eq node n);
            less = omega (arith, shrinks, one, less);
          }

-- an edge of the list is one of the graph
pub edge_exists : (g : Graph) (node : ℕ) (edges : List ℕ) (k : ℕ) → ((node e : ℕ) → Holds (edges_at g node) e ↔ ((e < edge_count g) × (touches g node e ≡ true))) → edges ≡ edges_at g node → k < length edges → get_or edges k 0 < edge_count g
edge_exists g node edges k touch is within = ((touch node (get_or edges k 0)).0 (subst (λ xs. Holds xs (get_or edges k 0)) is (Holds-at edges k within))).0

-- a word that was read
pub word_read : (words : List ℕ) (k word : ℕ) → k < length words → word ≡ get_or words k word → get_or words k 0 ≡ word
word_read words k word within read = get_or_default words k 0 word within ∙ sym read

pub after_read : (computes kills before : List ℕ) (node word old : ℕ) → get_or before node 0 ≡ old → ((k : ℕ) → k < 64 → has_bit word k ≡ (has_bit (get_or kills node 0) k || (has_bit old k && not (has_bit (get_or computes node 0) k)))) → IsAfter computes kills before node word
after_read computes kills before node word old read told k few = told k few ∙ ap (λ w. has_bit (get_or kills node 0) k || (has_bit w k && not (has_bit (get_or computes node 0) k))) (sym read)
