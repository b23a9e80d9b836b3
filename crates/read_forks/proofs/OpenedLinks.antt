-- What it changes to open or to close a line for one load.
use Rattle.std.proofs.Common.{◌≡◌, ◌<◌, ◌≤◌, ◌⊎◌, inl, inr, ℕ, zero, suc, ◌+◌, ◌-◌, ◌==◌, ◌&&◌, ◌||◌, Bool, true, false, List, [], ◌∷◌, Some, slice_get, slice_set, refl, sym, ap, ◌∙◌, eqb-true, arith}
use Rattle.std.specs.List.{list_any}
use Rattle.std.proofs.lemmas.Bool.{and_from, and_parts, cases_lt, eq-eqb, false_from_ne_true}
use Rattle.firing.specs.declared.system.NodeName.{NodeName}
use Rattle.firing.specs.declared.system.NodeName.TheVariants.{Act, Merge, Op, Switch}
use Rattle.net_board.proofs.NodeLaws.{get_some}
use Rattle.op_board.specs.OperationNets.{OperationNet, operation_node}
use Rattle.op_board.proofs.OperationNumbers.{one_operation_number}
use Rattle.read_forks.specs.LoadChanges.{IsPut}
use Rattle.read_forks.specs.NodeLinks.{AreSteps, IsOwnLink, names_operation, opened_in, opens}
use Rattle.read_forks.specs.RisingLinks.{line_at, line_in}
use Rattle.read_forks.specs.declared.steps.Link.{Link}
use Rattle.read_forks.specs.declared.steps.Step.{Step}
use Rattle.read_forks.proofs.SameLinks.{get_set_here, same_steps, set_links}

-- ---- one among a list

module _ {A : Type 0} (test : A → Bool) where
  pub any_at : (xs : List A) (n : ℕ) (a : A) → slice_get xs n ≡ Some a → test a ≡ true → list_any test xs ≡ true
  any_at [] n a at passes = absurd cc
  any_at (y ∷ xs) zero a at passes = let e : y ≡ a = cc in ap (λ b. b || list_any test xs) (ap test e ∙ passes)
  any_at (y ∷ xs) (suc n) a at passes = by (test y) (any_at xs n a at passes)
    where
      by : (b : Bool) → list_any test xs ≡ true → (b || list_any test xs) ≡ true
      by true rest = refl
      by false rest = rest

  pub record PassesAt (xs : List A) : Type 0 where
    pub place : ℕ
    pub one : A
    pub at : slice_get xs place ≡ Some one
    pub passes : test one ≡ true

  pub passes_at : (xs : List A) → list_any test xs ≡ true → PassesAt xs
  passes_at [] some = absurd cc
  passes_at (y ∷ xs) some = by (λ rest. passes_at xs rest) (test y) refl some
    where
      later : PassesAt xs → PassesAt (y ∷ xs)
      later r = record { place = suc r.place; one = r.one; at = r.at; passes = r.passes }

      by : (list_any test xs ≡ true → PassesAt xs) → (b : Bool) → test y ≡ b → (b || list_any test xs) ≡ true → PassesAt (y ∷ xs)
      by rest true passes some = record { place = 0; one = y; at = refl; passes = passes }
      by rest false fails some = later (rest some)

  -- one that passes as the one before it did takes its place
  pub any_same : (xs : List A) (n : ℕ) (a b : A) → slice_get xs n ≡ Some a → test b ≡ test a → list_any test (slice_set xs n b) ≡ list_any test xs
  any_same [] n a b at same = refl
  any_same (y ∷ xs) zero a b at same = let e : a ≡ y = cc in ap (λ o. o || list_any test xs) (same ∙ ap test e)
  any_same (y ∷ xs) (suc n) a b at same = ap (λ o. test y || o) (any_same xs n a b at same)

-- ---- names

pub names_is : (name : NodeName) (piece number : ℕ) → names_operation name piece number ≡ true → name ≡ Op piece number
names_is (Op p i) piece number is =
    let both = and_parts (p == piece) (i == number) is in
    let e : p ≡ piece = eqb-true p piece both.0 in
    let f : i ≡ number = eqb-true i number both.1 in
    cc
names_is (Switch p l) piece number is = absurd cc
names_is (Merge p l) piece number is = absurd cc
names_is (Act p) piece number is = absurd cc

pub is_named : (name : NodeName) (piece number : ℕ) → name ≡ Op piece number → names_operation name piece number ≡ true
is_named name piece number is =
    ap (λ (n : NodeName). names_operation n piece number) is
    ∙ ap (λ b. b && (number == number)) (eq-eqb piece piece refl)
    ∙ eq-eqb number number refl

-- ---- open links

-- a link by which the line is open for the operation
pub record IsOpenLink (x : OperationNet) (links : List Link) (line piece number : ℕ) : Type 0 where
  pub place : ℕ
  pub link : Link
  pub at : slice_get links place ≡ Some link
  pub name : operation_node x link.node ≡ Op piece number
  pub for_line : link.line ≡ line
  pub is_open : link.open ≡ true

module _ (x : OperationNet) (links : List Link) where
  pub opened_link : (line piece number : ℕ) → opened_in x links line piece number ≡ true → IsOpenLink x links line piece number
  opened_link line piece number is =
      let p : PassesAt (opens x line piece number) links = passes_at (opens x line piece number) links is in
      let both = and_parts (names_operation (operation_node x p.one.node) piece number) ((p.one.line == line) && p.one.open) p.passes in
      let rest = and_parts (p.one.line == line) p.one.open both.1 in
      record {
        place = p.place;
        link = p.one;
        at = p.at;
        name = names_is (operation_node x p.one.node) piece number both.0;
        for_line = eqb-true p.one.line line rest.0;
        is_open = rest.1;
      }

  pub is_opened : (line piece number : ℕ) → IsOpenLink x links line piece number → opened_in x links line piece number ≡ true
  is_opened line piece number o =
      any_at (opens x line piece number) links o.place o.link o.at (and_from (names_operation (operation_node x o.link.node) piece number) ((o.link.line == line) && o.link.open)
      (is_named (operation_node x o.link.node) piece number o.name)
      (and_from (o.link.line == line) o.link.open (eq-eqb o.link.line line o.for_line) o.is_open))

  -- no line is open where no link is
  pub none_opened : ((n : ℕ) (link : Link) → slice_get links n ≡ Some link → link.open ≡ false) → (line piece number : ℕ) → opened_in x links line piece number ≡ false
  none_opened closed line piece number = false_from_ne_true (opened_in x links line piece number) (λ is.
      let o : IsOpenLink x links line piece number = opened_link line piece number is in
      let e : true ≡ false = sym o.is_open ∙ closed o.place o.link o.at in
      absurd cc)

  module _ (steps : List Step) (are : AreSteps x steps links) where
    not_before : (n m : ℕ) (l r : Link) → slice_get links n ≡ Some l → slice_get links m ≡ Some r → l.node ≡ r.node → l.line ≡ r.line → n < m → ⊥
    not_before n m l r first second node line less =
        let own : IsOwnLink x steps n l = are.own n l first in
        let other : IsOwnLink x steps m r = are.own m r second in
        let exists = own.node in
        let all = are.all in
        let found = get_some x.net steps l.node (omega (arith, exists, all)) in
        let from = own.from found.0 found.1 in
        let below = other.below found.0 (ap (slice_get steps) (sym node) ∙ found.1) in
        let step = are.each l.node found.0 found.1 in
        let one : found.0.first + (n - found.0.first) ≡ n = omega (arith, from) in
        let two : found.0.first + (m - found.0.first) ≡ m = omega (arith, from, less) in
        let rises = step.rise (n - found.0.first) (m - found.0.first) (omega (arith, from, less)) (omega (arith, from, less, below)) in
        let a : line_at links (found.0.first + (n - found.0.first)) ≡ l.line = ap (line_at links) one ∙ ap line_in first in
        let b : line_at links (found.0.first + (m - found.0.first)) ≡ r.line = ap (line_at links) two ∙ ap line_in second in
        omega (arith, rises, a, b, line)

    -- a node has one link for a line
    pub one_link : (n m : ℕ) (l r : Link) → slice_get links n ≡ Some l → slice_get links m ≡ Some r → l.node ≡ r.node → l.line ≡ r.line → n ≡ m
    one_link n m l r first second node line = by (cases_lt n m) (cases_lt m n)
      where
        by : (n < m) ⊎ (m ≤ n) → (m < n) ⊎ (n ≤ m) → n ≡ m
        by (inl less) other = absurd (not_before n m l r first second node line less)
        by (inr over) (inl less) = absurd (not_before m n r l second first (sym node) (sym line) less)
        by (inr over) (inr under) = omega (arith, over, under)

    -- by the link of an operation it is told whether the line is open for this
    pub opened_at : (n : ℕ) (link : Link) (piece number : ℕ) → slice_get links n ≡ Some link → operation_node x link.node ≡ Op piece number → opened_in x links link.line piece number ≡ link.open
    opened_at n link piece number at name = by link.open refl
      where
        by : (b : Bool) → link.open ≡ b → opened_in x links link.line piece number ≡ b
        by true wide = is_opened link.line piece number (record { place = n; link = link; at = at; name = name; for_line = refl; is_open = wide })
        by false shut = false_from_ne_true (opened_in x links link.line piece number) (λ is.
            let o : IsOpenLink x links link.line piece number = opened_link link.line piece number is in
            let low = (are.own o.place o.link o.at).node in
            let below = (are.own n link at).node in
            let node : o.link.node ≡ link.node = one_operation_number x o.link.node link.node low below (o.name ∙ sym name) in
            let place : o.place ≡ n = one_link o.place n o.link link o.at at node o.for_line in
            let both : Some o.link ≡ Some link = sym o.at ∙ ap (slice_get links) place ∙ at in
            let e : o.link ≡ link = cc in
            let f : true ≡ false = sym o.is_open ∙ ap (λ (l : Link). l.open) e ∙ shut in
            absurd cc)

-- ---- one link is opened or closed

module _ (x : OperationNet) (steps : List Step) (links : List Link) (are : AreSteps x steps links) (at : ℕ) (link changed : Link) (is : slice_get links at ≡ Some link) (line : changed.line ≡ link.line) (node : changed.node ≡ link.node) where
  abbrev now : List Link
  now = slice_set links at changed

  pub set_steps : AreSteps x steps now
  set_steps = same_steps links now (set_links links at link changed is line node) x steps are

  -- for all but this load the line is open as before
  pub set_opened : (piece number : ℕ) → operation_node x link.node ≡ Op piece number → IsPut link.line piece number changed.open (opened_in x links) (opened_in x now)
  set_opened piece number name = record {
    here = ap (λ (l : ℕ). opened_in x now l piece number) (sym line) ∙ opened_at x now steps set_steps at changed piece number (get_set_here links at link changed is) (ap (operation_node x) node ∙ name);
    others = λ l p n differ. any_same (opens x l p n) links at link changed is (other l p n changed line node differ ∙ sym (other l p n link refl refl differ));
  }
    where
      other : (l p n : ℕ) (one : Link) → one.line ≡ link.line → one.node ≡ link.node → ((l ≡ link.line) × (p ≡ piece) × (n ≡ number) → ⊥) → opens x l p n one ≡ false
      other l p n one own_line own_node differ = false_from_ne_true (opens x l p n one) (λ opened.
          let both = and_parts (names_operation (operation_node x one.node) p n) ((one.line == l) && one.open) opened in
          let rest = and_parts (one.line == l) one.open both.1 in
          let named : Op piece number ≡ Op p n = sym name ∙ ap (operation_node x) (sym own_node) ∙ names_is (operation_node x one.node) p n both.0 in
          let of_piece : piece ≡ p = cc in
          let of_number : number ≡ n = cc in
          differ (sym (eqb-true one.line l rest.0) ∙ own_line, sym of_piece, sym of_number))
