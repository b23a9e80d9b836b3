-- Each load is once in the group before which a line stands.
use Rattle.std.proofs.Common.{◌≡◌, ◌<◌, ℕ, zero, suc, ◌+◌, ◌==◌, ◌||◌, Bool, true, false, List, [], ◌∷◌, length, count_by, Option, Some, None, refl, sym, ap, ◌∙◌, subst, arith}
use Rattle.std.proofs.lemmas.Bool.{and_from, eq-eqb}
use Rattle.list_laws.proofs.Counts.{bit, count-cons}
use Rattle.closed_walks.specs.Graph.{edge_count}
use Rattle.net_board.specs.Nodes.{graph_in}
use Rattle.net_board.specs.ProgramFacts.{ProgramFacts}
use Rattle.op_board.specs.OperationNets.{OperationNet}
use Rattle.op_board.specs.SoundOperationNets.{IsOperationNet}
use Rattle.fork_board.specs.Chains.{ComeOnce}
use Rattle.fork_board.specs.LoadGroups.{Site, Spot, followed_by, here_or, is_among, is_site, load_at, loads_within, site, spot_after, spot_behind}
use Rattle.fork_board.proofs.ForkFirings.{both_ways}
use Rattle.fork_board.proofs.ForkLines.{same_site}
use Rattle.read_forks.proofs.LoadPlaces.{after_exists}

pub own_site : (load : Site) → is_site load.piece load.number load ≡ true
own_site load = and_from (load.piece == load.piece) (load.number == load.number) (eq-eqb load.piece load.piece refl) (eq-eqb load.number load.number refl)

-- ---- counts of loads

-- two tests that tell the same of all loads but one
pub record DifferByOne (piece i : ℕ) (one other : (piece number : ℕ) → Bool) : Type 0 where
  pub had : one piece i ≡ true
  pub has_not : other piece i ≡ false
  pub same : (p n : ℕ) → ((p ≡ piece) × (n ≡ i) → ⊥) → other p n ≡ one p n

abbrev pub count_of : ((piece number : ℕ) → Bool) → List Site → ℕ
count_of test sites = count_by (λ (load : Site). test load.piece load.number) sites

counted : (test : (piece number : ℕ) → Bool) (load : Site) (sites : List Site) (b : Bool) → test load.piece load.number ≡ b → count_of test (load ∷ sites) ≡ bit b + count_of test sites
counted test load sites b is = count-cons (λ (s : Site). test s.piece s.number) load sites ∙ ap (λ (c : Bool). bit c + count_of test sites) is

or_false : (b c : Bool) → (b || c) ≡ false → (b ≡ false) × (c ≡ false)
or_false false false e = (refl, refl)
or_false true c e = absurd cc
or_false false true e = absurd cc

module _ (piece i : ℕ) (one other : (piece number : ℕ) → Bool) (differ : DifferByOne piece i one other) where
  another : (load : Site) → is_site piece i load ≡ false → other load.piece load.number ≡ one load.piece load.number
  another load not = differ.same load.piece load.number (λ both. both_ways (is_site piece i load) (and_from (load.piece == piece) (load.number == i) (eq-eqb load.piece piece both.0) (eq-eqb load.number i both.1)) not)

  -- where the load isn't among them there are as many
  pub as_many : (sites : List Site) → is_among sites piece i ≡ false → count_of one sites ≡ count_of other sites
  as_many [] none = refl
  as_many (load ∷ sites) none =
      let parts = or_false (is_site piece i load) (is_among sites piece i) none in
      counted one load sites (one load.piece load.number) refl
      ∙ ap (λ n. bit (one load.piece load.number) + n) (as_many sites parts.1)
      ∙ sym (counted other load sites (one load.piece load.number) (another load parts.0))

-- ---- places of loads

-- after so many loads the line stands before this one
record IsReached (x : OperationNet) (line : ℕ) (s : Spot) (piece i : ℕ) : Type 0 where
  steps : ℕ
  full : length (loads_within steps x line s) ≡ steps
  at : load_at x line (spot_behind steps x line s) ≡ Some (site piece i)

reached : (x : OperationNet) (line most : ℕ) (s : Spot) (piece i : ℕ) → is_among (loads_within most x line s) piece i ≡ true → IsReached x line s piece i
reached x line zero s piece i among = let e : false ≡ true = among in absurd cc
reached x line (suc most) s piece i among = by (λ some. reached x line most (spot_after x line s) piece i some) (load_at x line s) refl among
  where
    there : (is_among (loads_within most x line (spot_after x line s)) piece i ≡ true → IsReached x line (spot_after x line s) piece i) → (load : Site) → load_at x line s ≡ Some load → (b : Bool) → is_site piece i load ≡ b → (b || is_among (loads_within most x line (spot_after x line s)) piece i) ≡ true → IsReached x line s piece i
    there later load is true own some =
        let same = same_site piece i load own in
        let e : load ≡ site piece i = λ n. record { piece = same.0 n; number = same.1 n } in
        record { steps = 0; full = refl; at = is ∙ ap (λ (z : Site). Some z) e }
    there later load is false other some =
        let r : IsReached x line (spot_after x line s) piece i = later some in
        record {
          steps = suc r.steps;
          full = ap (λ (o : Option Site). length (followed_by o (loads_within r.steps x line (spot_after x line s)))) is ∙ ap suc r.full;
          at = ap (λ (o : Option Site). load_at x line (here_or o s (spot_behind r.steps x line (spot_after x line s)))) is ∙ r.at;
        }

    by : (is_among (loads_within most x line (spot_after x line s)) piece i ≡ true → IsReached x line (spot_after x line s) piece i) → (o : Option Site) → load_at x line s ≡ o → is_among (followed_by o (loads_within most x line (spot_after x line s))) piece i ≡ true → IsReached x line s piece i
    by later None is some = let e : false ≡ true = some in absurd cc
    by later (Some load) is some = there later load is (is_site piece i load) refl some

module _ (x : OperationNet) (line : ℕ) (once : ComeOnce x) (ground : ProgramFacts) (is_net : IsOperationNet x) (low : line < x.net.routing.lines) where
  abbrev Exists : Spot → Type 0
  Exists s = s.edge < edge_count (graph_in x.net)

  -- no load comes a second time
  pub not_later : (most : ℕ) (s : Spot) (load : Site) → Exists s → load_at x line s ≡ Some load → is_among (loads_within most x line (spot_after x line s)) load.piece load.number ≡ false
  not_later most s load exists is = by (is_among (loads_within most x line (spot_after x line s)) load.piece load.number) refl
    where
      by : (b : Bool) → is_among (loads_within most x line (spot_after x line s)) load.piece load.number ≡ b → is_among (loads_within most x line (spot_after x line s)) load.piece load.number ≡ false
      by false none = none
      by true some =
          let r : IsReached x line (spot_after x line s) load.piece load.number = reached x line most (spot_after x line s) load.piece load.number some in
          let never : is_among (loads_within (suc r.steps) x line s) load.piece load.number ≡ false =
          once line (suc r.steps) s (site load.piece load.number) low exists
          (ap (λ (o : Option Site). length (followed_by o (loads_within r.steps x line (spot_after x line s)))) is ∙ ap suc r.full)
          (ap (λ (o : Option Site). load_at x line (here_or o s (spot_behind r.steps x line (spot_after x line s)))) is ∙ r.at) in
          let here : is_among (loads_within (suc r.steps) x line s) load.piece load.number ≡ true =
          ap (λ (o : Option Site). is_among (followed_by o (loads_within r.steps x line (spot_after x line s))) load.piece load.number) is
          ∙ ap (λ b. b || is_among (loads_within r.steps x line (spot_after x line s)) load.piece load.number) (own_site load) in
          both_ways (is_among (loads_within (suc r.steps) x line s) load.piece load.number) here never

  -- of a group there is one load less of which this holds
  module _ (piece i : ℕ) (one other : (piece number : ℕ) → Bool) (differ : DifferByOne piece i one other) where
    pub one_less : (most : ℕ) (s : Spot) → Exists s → is_among (loads_within most x line s) piece i ≡ true → count_of one (loads_within most x line s) ≡ suc (count_of other (loads_within most x line s))
    one_less zero s exists among = let e : false ≡ true = among in absurd cc
    one_less (suc most) s exists among = by (λ some. one_less most (spot_after x line s) (after_exists x line ground is_net low s exists) some) (load_at x line s) refl among
      where
        there : (is_among (loads_within most x line (spot_after x line s)) piece i ≡ true → count_of one (loads_within most x line (spot_after x line s)) ≡ suc (count_of other (loads_within most x line (spot_after x line s)))) → (load : Site) → load_at x line s ≡ Some load → (b : Bool) → is_site piece i load ≡ b → (b || is_among (loads_within most x line (spot_after x line s)) piece i) ≡ true → count_of one (load ∷ (loads_within most x line (spot_after x line s))) ≡ suc (count_of other (load ∷ (loads_within most x line (spot_after x line s))))
        there fewer load is true own some =
            let same = same_site piece i load own in
            let later : is_among (loads_within most x line (spot_after x line s)) piece i ≡ false =
            subst (λ (p : ℕ). is_among (loads_within most x line (spot_after x line s)) p i ≡ false) same.0 (subst (λ (n : ℕ). is_among (loads_within most x line (spot_after x line s)) load.piece n ≡ false) same.1 (not_later most s load exists is)) in
            let had = counted one load (loads_within most x line (spot_after x line s)) true (ap (λ (p : ℕ). one p load.number) same.0 ∙ ap (λ (n : ℕ). one piece n) same.1 ∙ differ.had) in
            let has = counted other load (loads_within most x line (spot_after x line s)) false (ap (λ (p : ℕ). other p load.number) same.0 ∙ ap (λ (n : ℕ). other piece n) same.1 ∙ differ.has_not) in
            let others = as_many piece i one other differ (loads_within most x line (spot_after x line s)) later in
            let some_bit : bit true ≡ 1 = refl in
            let no_bit : bit false ≡ 0 = refl in
            omega (arith, had, has, others, some_bit, no_bit)
        there fewer load is false apart some =
            let more : count_of one (loads_within most x line (spot_after x line s)) ≡ suc (count_of other (loads_within most x line (spot_after x line s))) = fewer some in
            let left = counted one load (loads_within most x line (spot_after x line s)) (one load.piece load.number) refl in
            let right = counted other load (loads_within most x line (spot_after x line s)) (one load.piece load.number) (another piece i one other differ load apart) in
            omega (arith, more, left, right)

        by : (is_among (loads_within most x line (spot_after x line s)) piece i ≡ true → count_of one (loads_within most x line (spot_after x line s)) ≡ suc (count_of other (loads_within most x line (spot_after x line s)))) → (o : Option Site) → load_at x line s ≡ o → is_among (followed_by o (loads_within most x line (spot_after x line s))) piece i ≡ true → count_of one (followed_by o (loads_within most x line (spot_after x line s))) ≡ suc (count_of other (followed_by o (loads_within most x line (spot_after x line s))))
        by fewer None is some = let e : false ≡ true = some in absurd cc
        by fewer (Some load) is some = there fewer load is (is_site piece i load) refl some
