-- The whole search for what is missing where.
use Rattle.std.proofs.Common.{◌≡◌, ◌≢◌, ℕ, zero, ◌+◌, ◌-◌, ◌<◌, ◌≤◌, true, false, ◌↔◌, List, [], ◌∷◌, ◌++◌, length, get_or, set, replicate, refl, sym, ap, ◌∙◌, subst, inl, inr, ⊎_elim, arith, get_or-set_same, get_or-set_other, length-set}
use Rattle.std.proofs.lemmas.Bool.{cases_Bool, cases_eq, cases_lt, false≢true}
use Rattle.std.proofs.lemmas.List.{get_or_past, get_or-replicate, length-replicate}
use Rattle.closed_walks.specs.Graph.{Graph, from}
use Rattle.closed_walks.specs.Walk.{Holds}
use Rattle.closed_walks.specs.Region.{IsFlowGraph}
use Rattle.redundancy.specs.Available.{has_bit, IsOnAllWalks}
use Rattle.redundancy.specs.Solving.{bit, HasBit, IsLost, IsSolving, Nothing}
use Rattle.redundancy.proofs.Bits.{zero_bit, full_bit}
use Rattle.closed_walks.proofs.Held.{Holds-left, Holds-right, Holds-append}
use Rattle.redundancy.proofs.OnWalks.{lost-start, not-missing}

pub nothing_left : (xs : List ℕ) → length xs ≡ 0 → xs ≡ []
nothing_left [] none = refl
nothing_left (x ∷ xs) none = absurd (omega (arith, none))

-- ---- all nodes wait

pub record AreNodes (nodes done : ℕ) (waiting : List ℕ) : Type 0 where
  pub are : (v : ℕ) → Holds waiting v → v < nodes
  pub all : (v : ℕ) → v < nodes → nodes ≤ v + done → Holds waiting v

pub AreNodes-push : (nodes done last : ℕ) (waiting : List ℕ) → last ≡ nodes - 1 - done → done < nodes → AreNodes nodes done waiting → AreNodes nodes (done + 1) (waiting ++ last ∷ [])
AreNodes-push nodes done last waiting is less s = record {
  are = λ v holds. ⊎_elim
      (λ old. s.are v old)
      (⊎_elim (λ (same : last ≡ v). omega arith) (λ none. absurd none))
      (Holds-append waiting (last ∷ []) v holds);
  all = λ v within far. ⊎_elim
      (λ (same : v ≡ last). Holds-right waiting (last ∷ []) v (inl (sym same)))
      (λ (apart : v ≢ last). Holds-left waiting (last ∷ []) v (s.all v within (omega arith)))
      (cases_eq v last);
}

-- ---- the search

pub first_node : (g : Graph) → IsFlowGraph g → 0 < g.nodes
first_node g flow = subst (λ x. x < g.nodes) flow.start (flow.sound.ends 0 flow.some)

zero_word : (n v : ℕ) → get_or (replicate n zero) v 0 ≡ 0
zero_word n v = ⊎_elim
    (λ (h : v < n). get_or-replicate n v 0 0 h)
    (λ (h : n ≤ v). get_or_past (replicate n zero) v 0 (rw length-replicate h))
    (cases_lt v n)

pub solving-begin : (g : Graph) (computes kills waiting : List ℕ) → IsFlowGraph g → ((v : ℕ) → Holds waiting v ↔ (v < g.nodes)) → IsSolving g computes kills (set (replicate g.nodes zero) 0 18446744073709551615) waiting Nothing
solving-begin g computes kills waiting flow waits =
    let zeros = replicate g.nodes zero in
    let len : length zeros ≡ g.nodes = length-replicate g.nodes 0 in
    let some = first_node g flow in
    let inside : 0 < length zeros = omega arith in
    record {
      nodes = length-set zeros 0 18446744073709551615 ∙ len;
      waits = λ v holds. (waits v).0 holds;
      start = λ k few. ap (λ w. has_bit w k) (get_or-set_same zeros 0 18446744073709551615 0 inside) ∙ full_bit k few;
      lost = λ v k few has. ⊎_elim
          (λ (same : v ≡ 0). subst (λ x. IsLost g (HasBit computes k) (HasBit kills k) x) (sym same) (lost-start g (HasBit computes k) (HasBit kills k)))
          (λ (apart : v ≢ 0).
          let word : get_or (set zeros 0 18446744073709551615) v 0 ≡ 0 = get_or-set_other zeros 0 v 18446744073709551615 0 apart ∙ zero_word g.nodes v in
          absurd (false≢true (sym (ap (λ w. has_bit w k) word ∙ zero_bit k) ∙ has)))
          (cases_eq v 0);
      closed = λ e k edge few after. inr (inl ((waits (from g e)).1 (flow.sound.begins e edge)));
    }

module _ (g : Graph) (computes kills missing : List ℕ) where
  pub solving-pop : (all waiting : List ℕ) (u : ℕ) → all ≡ waiting ++ u ∷ [] → IsSolving g computes kills missing all Nothing → IsSolving g computes kills missing waiting (λ e. from g e ≡ u)
  solving-pop all waiting u parts s = record {
    nodes = s.nodes;
    waits = λ v holds. s.waits v (subst (λ z. Holds z v) (sym parts) (Holds-left waiting (u ∷ []) v holds));
    start = s.start;
    lost = s.lost;
    closed = λ e k edge few after. ⊎_elim
        (λ has. inl has)
        (⊎_elim
        (λ waits. ⊎_elim
        (λ old. inr (inl old))
        (⊎_elim (λ (same : u ≡ from g e). inr (inr (sym same))) (λ none. absurd none))
        (Holds-append waiting (u ∷ []) (from g e) (subst (λ z. Holds z (from g e)) parts waits)))
        (λ none. absurd none))
        (s.closed e k edge few after);
  }

  pub popped_exists : (all waiting : List ℕ) (u : ℕ) → all ≡ waiting ++ u ∷ [] → IsSolving g computes kills missing all Nothing → u < g.nodes
  popped_exists all waiting u parts s = s.waits u (subst (λ z. Holds z u) (sym parts) (Holds-right waiting (u ∷ []) u (inl refl)))

  pub solved : (waiting : List ℕ) → length waiting ≡ 0 → IsSolving g computes kills missing waiting Nothing → (node k : ℕ) → node < g.nodes → k < 64 → (bit missing k node ≡ false) ↔ IsOnAllWalks g (HasBit computes k) (HasBit kills k) node
  solved waiting none s node k within few =
      let empty : waiting ≡ [] = nothing_left waiting none in (
        λ lacks. not-missing g (bit computes k) (bit kills k) (bit missing k)
            (λ e edge after. ⊎_elim
            (λ has. has)
            (λ rest. absurd (⊎_elim (λ (waits : Holds waiting (from g e)). let h : ⊥ = subst (λ z. Holds z (from g e)) empty waits in h) (λ no. no) rest))
            (s.closed e k edge few after))
            (s.start k few) node lacks,
        λ always. ⊎_elim
            (λ (has : bit missing k node ≡ true). let l = s.lost node k few has in absurd (l.lost (always l.walk l.leads)))
            (λ lacks. lacks)
            (cases_Bool (bit missing k node)),
      )
