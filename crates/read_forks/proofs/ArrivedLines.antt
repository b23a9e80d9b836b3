-- Lines that are opened one after another.
use Rattle.std.proofs.Common.{◌≡◌, ◌<◌, ◌≤◌, ◌⊎◌, ⊎_elim, inl, inr, ℕ, zero, suc, ◌+◌, ◌==◌, ◌||◌, Bool, true, false, List, [], ◌∷◌, ◌++◌, length, take, Some, slice_get, refl, sym, ap, ◌∙◌, subst, arith}
use Rattle.std.specs.List.{list_any}
use Rattle.std.proofs.lemmas.Bool.{eq-eqb, ne_eqb}
use Rattle.std.proofs.lemmas.List.Folds.{list_any-append}
use Rattle.list_laws.proofs.Members.{list_any_member}
use Rattle.firing.specs.declared.system.NodeName.{NodeName}
use Rattle.firing.specs.declared.system.NodeName.TheVariants.{Act, Merge, Op, Switch}
use Rattle.net_board.proofs.ListPlaces.{same_or_not}
use Rattle.net_board.proofs.ListPrefixes.{HasItem, item_at, member_at, take_more}
use Rattle.net_board.proofs.NodeLaws.{Distinct, one_place}
use Rattle.op_board.specs.OperationNets.{OperationNet, operation_node}
use Rattle.op_board.specs.OperationTokens.{OperationTokens, passed_by}
use Rattle.op_net.specs.ApartLoads.{KeepsApart, flags_of}
use Rattle.op_net.specs.NetView.{marking_of as operations_on, net_of as net_in}
use Rattle.operation_tables.specs.Waits.{node_total}
use Rattle.op_net.specs.declared.net.OpNet.{OpNet}
use Rattle.fork_board.specs.ForkTokens.{is_load_node}
use Rattle.read_forks.specs.KeptLoads.{AreKept, AreOpened, IsOpenForNone, opened_of}
use Rattle.read_forks.specs.LedLines.{HasGoneOn, IsLedOn}
use Rattle.read_forks.specs.LoadChanges.{Loaded}
use Rattle.read_forks.specs.MarkedNets.{AreLoadsApart}
use Rattle.read_forks.specs.NodeLinks.{IsStep, is_turn, linked_lines, moved_lines}
use Rattle.read_forks.specs.OpenGroups.{is_near_in}
use Rattle.read_forks.specs.WaitingLoads.{IsRemarked, KeepsMarks}
use Rattle.read_forks.specs.declared.steps.Link.{Link}
use Rattle.read_forks.specs.declared.steps.Step.{Step}
use Rattle.read_forks.specs.declared.waiting.Waiting.{Waiting}
use Rattle.read_forks.proofs.KeptNets.{kept_there, remarked_self, remarked_twice}
use Rattle.read_forks.proofs.LoadFirings.{needed_distinct}
use Rattle.read_forks.proofs.WaitTests.{kept_twice, marks_kept}

-- ---- the same net at the same marking

module _ (x y : OperationNet) (m n : OperationTokens) (net : y ≡ x) (marking : n ≡ m) where
  pub opened_there : (lines : List ℕ) (a b : Waiting) → AreOpened y n lines (opened_of y a) (opened_of y b) → AreOpened x m lines (opened_of x a) (opened_of x b)
  opened_there lines a b are = subst (λ (t : OperationTokens). AreOpened x t lines (opened_of x a) (opened_of x b)) marking (subst (λ (z : OperationNet). AreOpened z n lines (opened_of z a) (opened_of z b)) net are)

  pub marks_there : (old new : List ℕ) (before after : List Bool) → KeepsMarks y n old new before after → KeepsMarks x m old new before after
  marks_there old new before after are = subst (λ (t : OperationTokens). KeepsMarks x t old new before after) marking (subst (λ (z : OperationNet). KeepsMarks z n old new before after) net are)

-- ---- one line more

is_it : (line l : ℕ) → list_any (λ (n : ℕ). n == l) (line ∷ []) ≡ (line == l)
is_it line l = by (line == l)
  where
    by : (b : Bool) → (b || false) ≡ b
    by true = refl
    by false = refl

pub is_other : (line l : ℕ) → (line ≡ l → ⊥) → list_any (λ (n : ℕ). n == l) (line ∷ []) ≡ false
is_other line l differ = is_it line l ∙ ne_eqb line l differ

pub is_own : (line : ℕ) → list_any (λ (n : ℕ). n == line) (line ∷ []) ≡ true
is_own line = is_it line line ∙ eq-eqb line line refl

module _ (x : OperationNet) (m : OperationTokens) where
  pub nothing_opened : (old : Loaded) → AreOpened x m [] old old
  nothing_opened old = record { here = λ line among piece number. let e : false ≡ true = among in absurd cc; others = λ line not piece number. refl }

  pub one_opened : (lines : List ℕ) (line : ℕ) (a b c : Loaded) → AreOpened x m lines a b → AreOpened x m (line ∷ []) b c → AreOpened x m (lines ++ line ∷ []) a c
  one_opened lines line a b c first second = record {
    here = λ l among piece number. by l piece number (list_any (λ (n : ℕ). n == l) (line ∷ [])) refl (sym (list_any-append (λ (n : ℕ). n == l) lines (line ∷ [])) ∙ among);
    others = λ l not piece number.
        let both = neither (list_any (λ (n : ℕ). n == l) lines) (list_any (λ (n : ℕ). n == l) (line ∷ [])) (sym (list_any-append (λ (n : ℕ). n == l) lines (line ∷ [])) ∙ not) in
        second.others l both.1 piece number ∙ first.others l both.0 piece number;
  }
    where
      neither : (b d : Bool) → (b || d) ≡ false → (b ≡ false) × (d ≡ false)
      neither true d is = absurd cc
      neither false d is = (refl, is)

      first_of : (b : Bool) → (b || false) ≡ true → b ≡ true
      first_of true is = refl
      first_of false is = is

      by : (l piece number : ℕ) (d : Bool) → list_any (λ (n : ℕ). n == l) (line ∷ []) ≡ d → (list_any (λ (n : ℕ). n == l) lines || list_any (λ (n : ℕ). n == l) (line ∷ [])) ≡ true → c l piece number ≡ is_near_in x m l piece number
      by l piece number true own among = second.here l own piece number
      by l piece number false other among =
          second.others l other piece number
          ∙ first.here l (first_of (list_any (λ (n : ℕ). n == l) lines) (sym (ap (λ d. list_any (λ (n : ℕ). n == l) lines || d) other) ∙ among)) piece number

  -- it stays closed on another one
  pub still_none : (line l : ℕ) (old new : Loaded) → (line ≡ l → ⊥) → AreOpened x m (line ∷ []) old new → IsOpenForNone old l → IsOpenForNone new l
  still_none line l old new differ are none piece number = are.others l (is_other line l differ) piece number ∙ none piece number

-- the one that this link is for
pub one_link_opened : (x : OperationNet) (m : OperationTokens) (links : List Link) (n : ℕ) (link : Link) → slice_get links n ≡ Some link → (old new : Loaded) → AreOpened x m (link.line ∷ []) old new → (other : Link) → slice_get links n ≡ Some other → AreOpened x m (other.line ∷ []) old new
one_link_opened x m links n link at old new are other there =
    let e : Some link ≡ Some other = sym at ∙ there in
    let same : link ≡ other = cc in
    subst (λ (l : Link). AreOpened x m (l.line ∷ []) old new) same are

-- what comes of a line that is opened, after the net has been asked where it was led to
pub record IsArrived {W : ℕ} (line : ℕ) (w v : Waiting) (old new : OpNet W) : Type 0 where
  pub rest : IsRemarked old new
  pub kept : AreKept (net_in old) (operations_on old) v
  pub opened : AreOpened (net_in old) (operations_on old) (line ∷ []) (opened_of (net_in old) w) (opened_of (net_in old) v)
  pub marks : KeepsMarks (net_in old) (operations_on old) w.closed.items v.closed.items (flags_of old) (flags_of new)
  pub steps : v.steps ≡ w.steps

module _ {W : ℕ} where
  -- marks of loads are as they were
  same_marks : (x : OperationNet) (m : OperationTokens) (closed : List ℕ) (old new : OpNet W) → net_in old ≡ x → KeepsApart old new → AreLoadsApart old → KeepsMarks x m closed closed (flags_of old) (flags_of new)
  same_marks x m closed old new net kept apart = record {
    room = kept.marks;
    marks = λ k low inside loads right. kept.flags k (apart k (subst (λ (y : OperationNet). k < node_total y) (sym net) low) ∙ ap (λ (y : OperationNet). is_load_node y (operation_node y k)) net ∙ loads) ∙ right;
  }

  pub led_arrived : (old mid new : OpNet W) (w v : Waiting) (line : ℕ) → IsRemarked old mid → KeepsApart old mid → AreLoadsApart old → IsRemarked mid new → AreKept (net_in mid) (operations_on mid) v
      → AreOpened (net_in mid) (operations_on mid) (line ∷ []) (opened_of (net_in mid) w) (opened_of (net_in mid) v)
      → KeepsMarks (net_in mid) (operations_on mid) w.closed.items v.closed.items (flags_of mid) (flags_of new) → v.steps ≡ w.steps → IsArrived line w v old new
  led_arrived old mid new w v line rest apart are_apart again kept opened marks steps =
      let x = net_in old in
      let m = operations_on old in
      record {
        rest = remarked_twice old mid new rest again;
        kept = kept_there (net_in mid) x (operations_on mid) m v (sym rest.net) (sym rest.marking) kept;
        opened = opened_there x (net_in mid) m (operations_on mid) rest.net rest.marking (line ∷ []) w v opened;
        marks = kept_twice x m w.closed.items w.closed.items v.closed.items (flags_of old) (flags_of mid) (flags_of new) (same_marks x m w.closed.items old mid refl apart are_apart)
            (marks_there x (net_in mid) m (operations_on mid) rest.net rest.marking w.closed.items v.closed.items (flags_of mid) (flags_of new) marks);
        steps = steps;
      }

-- ---- all lines

module _ {W : ℕ} where
  -- the lines below this one are open for the loads before which they stand, and the others for none
  pub record AreFirstOpen (line : ℕ) (w : Waiting) (old now : OpNet W) : Type 0 where
    pub rest : IsRemarked old now
    pub kept : AreKept (net_in old) (operations_on old) w
    pub opens : (l : ℕ) → l < line → (piece number : ℕ) → opened_of (net_in old) w l piece number ≡ is_near_in (net_in old) (operations_on old) l piece number
    pub left : (l : ℕ) → line ≤ l → IsOpenForNone (opened_of (net_in old) w) l

  pub first_begins : (w : Waiting) (net : OpNet W) → AreKept (net_in net) (operations_on net) w → ((line : ℕ) → IsOpenForNone (opened_of (net_in net) w) line) → AreFirstOpen 0 w net net
  first_begins w net kept none = record {
    rest = remarked_self net;
    kept = kept;
    opens = λ l low piece number. absurd (omega (arith, low));
    left = λ l high. none l;
  }

  pub first_more : (line : ℕ) (w v : Waiting) (old now next : OpNet W) → AreFirstOpen line w old now → IsRemarked now next → AreKept (net_in now) (operations_on now) v
      → AreOpened (net_in now) (operations_on now) (line ∷ []) (opened_of (net_in now) w) (opened_of (net_in now) v) → AreFirstOpen (line + 1) v old next
  first_more line w v old now next before rest kept opened = record {
    rest = remarked_twice old now next before.rest rest;
    kept = kept_there (net_in now) x (operations_on now) m v (sym before.rest.net) (sym before.rest.marking) kept;
    opens = λ l low piece number. by l low (same_or_not line l) piece number;
    left = λ l high. still_none x m line l (opened_of x w) (opened_of x v) (λ e. omega (arith, high, e)) are (before.left l (omega (arith, high)));
  }
    where
      x : OperationNet
      x = net_in old

      m : OperationTokens
      m = operations_on old

      are : AreOpened x m (line ∷ []) (opened_of x w) (opened_of x v)
      are = opened_there x (net_in now) m (operations_on now) before.rest.net before.rest.marking (line ∷ []) w v opened

      by : (l : ℕ) → l < line + 1 → (line ≡ l) ⊎ (line ≡ l → ⊥) → (piece number : ℕ) → opened_of x v l piece number ≡ is_near_in x m l piece number
      by l low (inl e) piece number = are.here l (subst (λ (n : ℕ). list_any (λ (k : ℕ). k == n) (line ∷ []) ≡ true) e (is_own line)) piece number
      by l low (inr differ) piece number = are.others l (is_other line l differ) piece number ∙ before.opens l (below l low differ) piece number
        where
          below : (l : ℕ) → l < line + 1 → (line ≡ l → ⊥) → l < line
          below l low differ = ⊎_elim (λ (e : l < line). e) (λ (h : line ≤ l). absurd (differ (omega (arith, low, h)))) (Rattle.op_board.proofs.PieceLines.low_or_high l line)

-- ---- the line that a switch or a merge has led on

-- the line has left a piece, and is open for no load yet
pub record IsTurned (x : OperationNet) (m : OperationTokens) (opened : Loaded) (line : ℕ) : Type 0 where
  pub exists : line < x.net.routing.lines
  pub passed : passed_by m line ≡ 0
  pub none : IsOpenForNone opened line

turned_nothing : (x : OperationNet) (m : OperationTokens) (name : NodeName) (line : ℕ) → is_turn name ≡ true → HasGoneOn x m name line → passed_by m line ≡ 0
turned_nothing x m (Op piece i) line turns gone = let e : false ≡ true = turns in absurd cc
turned_nothing x m (Switch piece own) line turns gone = gone
turned_nothing x m (Merge piece own) line turns gone = gone
turned_nothing x m (Act piece) line turns gone = gone

module _ (x : OperationNet) (m : OperationTokens) (name : NodeName) (line : ℕ) (moves : moved_lines x name ≡ line ∷ []) where
  pub turn_led : (opened : Loaded) → is_turn name ≡ true → ((l : ℕ) → list_any (λ n. n == l) (moved_lines x name) ≡ true → IsLedOn x m opened name l) → IsTurned x m opened line
  turn_led opened turns led =
      let own : IsLedOn x m opened name line = led line (subst (λ (ls : List ℕ). list_any (λ (n : ℕ). n == line) ls ≡ true) (sym moves) (is_own line)) in
      record { exists = own.exists; passed = turned_nothing x m name line turns own.gone; none = own.none }

  pub turn_opened : (old new : Loaded) → AreOpened x m (line ∷ []) old new → AreOpened x m (moved_lines x name) old new
  turn_opened old new are = subst (λ (ls : List ℕ). AreOpened x m ls old new) (sym moves) are

-- ---- the lines that an operation has led on

linked_distinct : (x : OperationNet) (name : NodeName) → Distinct (linked_lines x name)
linked_distinct x (Op piece i) = needed_distinct x piece i
linked_distinct x (Switch piece line) = tt
linked_distinct x (Merge piece line) = tt
linked_distinct x (Act piece) = tt

pub all_linked : (x : OperationNet) (name : NodeName) → is_turn name ≡ false → linked_lines x name ≡ moved_lines x name
all_linked x (Op piece i) operates = refl
all_linked x (Switch piece line) operates = let e : true ≡ false = operates in absurd cc
all_linked x (Merge piece line) operates = let e : true ≡ false = operates in absurd cc
all_linked x (Act piece) operates = let e : true ≡ false = operates in absurd cc

module _ {W : ℕ} where
  abbrev pub lines_of : OpNet W → (k : ℕ) → List ℕ
  lines_of net k = linked_lines (net_in net) (operation_node (net_in net) k)

  -- so many of its lines have been opened, and the others are led on
  pub record AreLedOpen (k j : ℕ) (first w : Waiting) (old now : OpNet W) : Type 0 where
    pub rest : IsRemarked old now
    pub kept : AreKept (net_in old) (operations_on old) w
    pub opened : AreOpened (net_in old) (operations_on old) (take j (lines_of old k)) (opened_of (net_in old) first) (opened_of (net_in old) w)
    pub marks : KeepsMarks (net_in old) (operations_on old) first.closed.items w.closed.items (flags_of old) (flags_of now)
    pub steps : w.steps ≡ first.steps
    pub left : (n line : ℕ) → j ≤ n → slice_get (lines_of old k) n ≡ Some line → IsLedOn (net_in old) (operations_on old) (opened_of (net_in old) w) (operation_node (net_in old) k) line

  pub led_begins : (k : ℕ) (first : Waiting) (old : OpNet W) → AreKept (net_in old) (operations_on old) first
      → ((line : ℕ) → list_any (λ (l : ℕ). l == line) (lines_of old k) ≡ true → IsLedOn (net_in old) (operations_on old) (opened_of (net_in old) first) (operation_node (net_in old) k) line) → AreLedOpen k 0 first first old old
  led_begins k first old kept led = record {
    rest = remarked_self old;
    kept = kept;
    opened = nothing_opened (net_in old) (operations_on old) (opened_of (net_in old) first);
    marks = marks_kept (net_in old) (operations_on old) first.closed.items (flags_of old);
    steps = refl;
    left = λ n line high is. led line (list_any_member (λ (l : ℕ). l == line) (lines_of old k) line (member_at (lines_of old k) n line is) (eq-eqb line line refl));
  }

  pub led_more : (k j line : ℕ) (first w v : Waiting) (old now next : OpNet W) → AreLedOpen k j first w old now → slice_get (lines_of old k) j ≡ Some line → IsRemarked now next → AreKept (net_in now) (operations_on now) v
      → AreOpened (net_in now) (operations_on now) (line ∷ []) (opened_of (net_in now) w) (opened_of (net_in now) v)
      → KeepsMarks (net_in now) (operations_on now) w.closed.items v.closed.items (flags_of now) (flags_of next) → v.steps ≡ w.steps → AreLedOpen k (j + 1) first v old next
  led_more k j line first w v old now next before at rest kept opened marks steps = record {
    rest = remarked_twice old now next before.rest rest;
    kept = kept_there (net_in now) x (operations_on now) m v (sym before.rest.net) (sym before.rest.marking) kept;
    opened = subst (λ (ls : List ℕ). AreOpened x m ls (opened_of x first) (opened_of x v)) (sym further) (one_opened x m (take j lines) line (opened_of x first) (opened_of x w) (opened_of x v) before.opened are);
    marks = kept_twice x m first.closed.items w.closed.items v.closed.items (flags_of old) (flags_of now) (flags_of next) before.marks (marks_there x (net_in now) m (operations_on now) before.rest.net before.rest.marking w.closed.items v.closed.items (flags_of now) (flags_of next) marks);
    steps = steps ∙ before.steps;
    left = λ n l high is.
        let led : IsLedOn x m (opened_of x w) (operation_node x k) l = before.left n l (omega (arith, high)) is in
        record { exists = led.exists; gone = led.gone; none = still_none x m line l (opened_of x w) (opened_of x v) (apart n l high is) are led.none };
  }
    where
      x : OperationNet
      x = net_in old

      m : OperationTokens
      m = operations_on old

      lines : List ℕ
      lines = lines_of old k

      are : AreOpened x m (line ∷ []) (opened_of x w) (opened_of x v)
      are = opened_there x (net_in now) m (operations_on now) before.rest.net before.rest.marking (line ∷ []) w v opened

      further : take (j + 1) lines ≡ take j lines ++ line ∷ []
      further = let e : j + 1 ≡ suc j = omega arith in ap (λ (n : ℕ). take n lines) e ∙ take_more lines j line at

      apart : (n l : ℕ) → j + 1 ≤ n → slice_get lines n ≡ Some l → line ≡ l → ⊥
      apart n l high is same =
          let e : j ≡ n = one_place lines j n line (linked_distinct x (operation_node x k)) at (is ∙ ap (λ (i : ℕ). Some i) (sym same)) in
          omega (arith, high, e)

  -- the node has a link for each of its lines
  pub step_lines : (k j : ℕ) (step : Step) (first w : Waiting) (old now : OpNet W) → AreLedOpen k j first w old now → slice_get first.steps k ≡ Some step → step.count ≡ length (lines_of old k)
  step_lines k j step first w old now amid own = (amid.kept.tables.steps.each k step (subst (λ (v : List Step). slice_get v k ≡ Some step) (sym amid.steps) own)).has_links.count

  -- the next link
  module _ (k j : ℕ) (step : Step) (first w : Waiting) (old now : OpNet W) (amid : AreLedOpen k j first w old now) (own : slice_get first.steps k ≡ Some step) (low : j < step.count) where
    pub step_is : IsStep (net_in old) w.links.items k step
    step_is = amid.kept.tables.steps.each k step (subst (λ (v : List Step). slice_get v k ≡ Some step) (sym amid.steps) own)

    pub link_inside : step.first + j < length w.links.items
    link_inside = let inside = step_is.has_links.inside in omega (arith, inside, low)

    pub link_line : (link : Link) → slice_get w.links.items (step.first + j) ≡ Some link → slice_get (lines_of old k) j ≡ Some link.line
    link_line link at = step_is.has_links.line j link low at

    pub link_other : is_load_node (net_in old) (operation_node (net_in old) k) ≡ false → (link : Link) → slice_get w.links.items (step.first + j) ≡ Some link → is_load_node (net_in now) (operation_node (net_in now) link.node) ≡ false
    link_other other link at =
        subst (λ (y : OperationNet). is_load_node y (operation_node y link.node) ≡ false) (sym amid.rest.net)
        (subst (λ (n : ℕ). is_load_node (net_in old) (operation_node (net_in old) n) ≡ false) (sym (step_is.has_links.node j link low at)) other)

    pub link_led : (link : Link) → slice_get w.links.items (step.first + j) ≡ Some link → IsLedOn (net_in now) (operations_on now) (opened_of (net_in now) w) (operation_node (net_in now) link.node) link.line
    link_led link at =
        subst (λ (n : OperationTokens). IsLedOn (net_in now) n (opened_of (net_in now) w) (operation_node (net_in now) link.node) link.line) (sym amid.rest.marking)
        (subst (λ (y : OperationNet). IsLedOn y (operations_on old) (opened_of y w) (operation_node y link.node) link.line) (sym amid.rest.net)
        (subst (λ (n : ℕ). IsLedOn (net_in old) (operations_on old) (opened_of (net_in old) w) (operation_node (net_in old) n) link.line) (sym (step_is.has_links.node j link low at))
        (amid.left j link.line (omega arith) (link_line link at))))

    -- its line is opened too
    pub next_led : (v : Waiting) (next : OpNet W) → IsRemarked now next → AreKept (net_in now) (operations_on now) v
        → ((link : Link) → slice_get w.links.items (step.first + j) ≡ Some link → AreOpened (net_in now) (operations_on now) (link.line ∷ []) (opened_of (net_in now) w) (opened_of (net_in now) v))
        → KeepsMarks (net_in now) (operations_on now) w.closed.items v.closed.items (flags_of now) (flags_of next) → v.steps ≡ w.steps → AreLedOpen k (j + 1) first v old next
    next_led v next rest kept opened marks steps =
        let there : HasItem w.links.items (step.first + j) = item_at w.links.items (step.first + j) link_inside in
        led_more k j there.item.line first w v old now next amid (link_line there.item there.at) rest kept (opened there.item there.at) marks steps

  pub led_all : (k j : ℕ) (first w : Waiting) (old now : OpNet W) → length (lines_of old k) ≤ j → AreLedOpen k j first w old now → AreOpened (net_in old) (operations_on old) (lines_of old k) (opened_of (net_in old) first) (opened_of (net_in old) w)
  led_all k j first w old now all are = subst (λ (ls : List ℕ). AreOpened (net_in old) (operations_on old) ls (opened_of (net_in old) first) (opened_of (net_in old) w)) (taken_whole (lines_of old k) j all) are.opened
    where
      taken_whole : (xs : List ℕ) (n : ℕ) → length xs ≤ n → take n xs ≡ xs
      taken_whole [] zero low = refl
      taken_whole [] (suc n) low = refl
      taken_whole (a ∷ xs) zero low = absurd (omega (arith, low))
      taken_whole (a ∷ xs) (suc n) low = ap (λ rest. a ∷ rest) (taken_whole xs n (omega (arith, low)))
