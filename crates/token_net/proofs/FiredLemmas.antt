-- What firings answer, and the set of the ready nodes after them.
use Rattle.std.proofs.Common.{◌≡◌, ℕ, Bool, true, false, if◌then◌else◌, List, length, None, sym, ap, ◌∙◌, subst}
use Rattle.op_table.specs.declared.Trap.{Trap}
use Rattle.cfg_build.specs.Passes.{Passed, Traps, out}
use Rattle.firing.specs.declared.system.Fired.{Fired}
use Rattle.firing.specs.declared.system.Fired.TheVariants.{Moved, Line, Trapped}
use Rattle.firing.specs.declared.system.NodeName.{NodeName}
use Rattle.firing.specs.declared.system.NodeName.TheVariants.{Act}
use Rattle.firing.specs.Marks.{AreMarks, DifferAt}
use Rattle.firing.specs.Moves.{CanFire, FiredIs, IsSilent}
use Rattle.firing.proofs.ChosenLemmas.{woken_differ}
use Rattle.net_board.specs.SoundNets.{CanCome}
use Rattle.net_board.specs.Nodes.{NetOf, graph_in, nodes_of, node_at}
use Rattle.net_board.specs.ControlPlaces.{AnswersTrap}
use Rattle.net_board.specs.Tokens.{Tokens, acted, stopped, gone, fired_as, line_as, net_moves, pass_at, text_of}
use Rattle.net_board.specs.TokenEdges.{IsReadable}
use Rattle.net_board.specs.WokenNodes.{IsWoken}
use Rattle.net_board.proofs.FiringLaws.{net_laws}
use Rattle.net_board.proofs.WokenNodeLaws.{wakes}

-- ---- the set of the ready nodes

-- a marking that can come can be read
pub readable : (net : NetOf) (m : Tokens) → CanCome net m → IsReadable net m
readable net m comes = record { can_run = comes.is_net.can_run; sizes = comes.is_marking.memory; stand = comes.is_marking.stand; lie = comes.is_marking.lie }

-- so can the one after a firing
pub readable_next : (net other : NetOf) (m new : Tokens) (k : ℕ) → CanCome net m → CanFire (net_moves net) m k → other ≡ net → new ≡ fired_as net m k (node_at net k) → IsReadable other new
readable_next net other m new k comes can same is =
    subst (λ (n : NetOf). IsReadable n new) (sym same)
    (subst (IsReadable net) (sym is) (readable net (fired_as net m k (node_at net k)) ((net_laws net).stays_sound m k comes can)))

-- the set tells the ready nodes
abbrev Told : NetOf → Tokens → List Bool → Type 0
Told net m set = AreMarks (length (nodes_of net)) ((net_moves net).ready m) set

-- where it told them before a firing and was tested again, it tells them after it
pub marks_next : (net : NetOf) (m : Tokens) (k : ℕ) → CanCome net m → CanFire (net_moves net) m k → (first second : NetOf) (mid last : Tokens) (old kept new : List Bool)
    → first ≡ net → second ≡ first → mid ≡ fired_as net m k (node_at net k) → last ≡ mid → kept ≡ old
    → ((before : ℕ → Bool) → AreMarks (length (nodes_of first)) before kept → ((woken : List ℕ) → IsWoken first mid (node_at first k) woken → DifferAt (length (nodes_of first)) k woken before ((net_moves first).ready mid)) → AreMarks (length (nodes_of first)) ((net_moves first).ready mid) new)
    → AreMarks (length (nodes_of net)) ((net_moves net).ready m) old → last.trap ≡ None
    → AreMarks (length (nodes_of second)) ((net_moves second).ready last) new
marks_next net m k comes can first second mid last old kept new one two moved same as_old tested are none =
    subst (λ (n : NetOf). Told n last new) (sym (two ∙ one))
    (subst (λ (x : Tokens). Told net x new) (sym (same ∙ moved)) here)
  where
    after : Tokens
    after = fired_as net m k (node_at net k)

    quiet : after.trap ≡ None
    quiet = ap (λ (x : Tokens). x.trap) (sym (same ∙ moved)) ∙ none

    Tested : NetOf → Tokens → List Bool → Type 0
    Tested n x marks = (before : ℕ → Bool) → AreMarks (length (nodes_of n)) before marks → ((woken : List ℕ) → IsWoken n x (node_at n k) woken → DifferAt (length (nodes_of n)) k woken before ((net_moves n).ready x)) → Told n x new

    tests : Tested net after old
    tests = subst (λ marks. Tested net after marks) as_old (subst (λ x. Tested net x kept) moved (subst (λ n. Tested n mid kept) one tested))

    here : Told net after new
    here = tests ((net_moves net).ready m) are (λ woken is. woken_differ (CanCome net) (net_moves net) (net_laws net) m comes k can quiet woken (wakes net m k woken comes can is))

-- ---- what they answer

module _ (net : NetOf) (m : Tokens) (k : ℕ) (going : m.trap ≡ None) where
  silent_as : (name : NodeName) → node_at net k ≡ name → line_as net m name ≡ None → (fired_as net m k name).trap ≡ None → IsSilent (net_moves net) m k
  silent_as name is line trap = record { line = ap (line_as net m) is ∙ line; trap = ap (λ (n : NodeName). (fired_as net m k n).trap) is ∙ trap }

  module _ (piece : ℕ) (name : node_at net k ≡ Act piece) where
    trap_by : (trap : Trap) (b : Bool) → net.touches piece 0 ≡ b → acted net m piece (Traps trap) ≡ (if b then stopped net m piece trap else gone net m piece (out (graph_in net) piece 0) m.memory)
    trap_by trap b is = ap (λ (x : Bool). if x then stopped net m piece trap else gone net m piece (out (graph_in net) piece 0) m.memory) is

    -- the answer to a trap
    pub trap_answered : (trap : Trap) (result : Fired) → pass_at net piece m.memory ≡ Traps trap → AnswersTrap net piece result → FiredIs (net_moves net) m k result
    trap_answered trap Moved is over =
        silent_as (Act piece) name (ap text_of is) (ap (λ (p : Passed). (acted net m piece p).trap) is ∙ ap (λ (t : Tokens). t.trap) (trap_by trap false over) ∙ going)
    trap_answered trap Line is none = absurd none
    trap_answered trap Trapped is stops =
        let there : (fired_as net m k (node_at net k)).trap ≡ (stopped net m piece trap).trap = ap (λ (n : NodeName). (fired_as net m k n).trap) name ∙ ap (λ (p : Passed). (acted net m piece p).trap) is ∙ ap (λ (t : Tokens). t.trap) (trap_by trap true stops) in
        (ap (line_as net m) name ∙ ap text_of is, λ none. let clash : (stopped net m piece trap).trap ≡ None = sym there ∙ none in cc)
