-- The lines of a trace, as both sides write them.
use Rattle.std.proofs.Common.{◌≡◌, ℕ, zero, suc, ◌<◌, ◌≤◌, ◌^◌, List, [], ◌∷◌, ◌++◌, length, flat_map, codes, All, Some, None, refl, ap, sym, ◌∙◌, subst, append_assoc, append-nil, arith}
use Rattle.std.specs.Fmt.{decimal}
use Rattle.std.proofs.Math.Nat.{lt_of_le_of_lt, lt_trans}
use Rattle.std.proofs.lemmas.Grind.{flat_map-append}
use Rattle.std.proofs.lemmas.List.{length-append}
use Rattle.std.proofs.lemmas.List.Elements.{All-nil, All-push}
use Rattle.op_table.specs.declared.Trap.{Trap}
use Rattle.op_table.specs.declared.Trap.TheVariants as trap
use Rattle.firing.specs.declared.playing.PlayEnd.{PlayEnd}
use Rattle.firing.specs.declared.playing.PlayEnd.TheVariants as end
use Rattle.firing.specs.declared.playing.Show.TheVariants.{Nodes}
use Rattle.firing.specs.declared.system.NodeName.{NodeName}
use Rattle.firing.specs.declared.system.NodeName.TheVariants.{Act, Merge, Switch, Op}
use Rattle.firing.specs.NameLine.{name_line}
use Rattle.firing.specs.Play.{Moment, Way, node_at, shown}
use Rattle.job_terms.specs.Due.{Due, all_due, trap_name}
use Rattle.game_jobs.specs.DueGames.{IsDueBy}
use Rattle.printed_graphs.specs.declared.trace.Firing.{Firing}
use Rattle.printed_graphs.specs.declared.trace.NodeName.{NodeName as PrintedName}
use Rattle.printed_graphs.specs.declared.trace.NodeName.TheVariants as name
use Rattle.printed_graphs.specs.declared.trace.PrintedTrace.{PrintedTrace}
use Rattle.printed_graphs.specs.declared.trace.TraceEnd.{TraceEnd}
use Rattle.printed_graphs.specs.declared.trace.TraceEnd.TheVariants as ended
use Rattle.printed_graphs.specs.Names.{trap_text}
use Rattle.printed_graphs.specs.Printable.{IsPrintableEnd, IsPrintableFiring, IsPrintableNodeName, IsPrintableTrace}
use Rattle.printed_graphs.specs.TraceText.{end_text, firing_text, trace_text}
use Rattle.printed_laws.proofs.Parts.{IsTraceText}
use Rattle.printed_laws.proofs.Rows.{vec_with, capped, capped_is}

-- ---- firings

-- a name that is written in numbers of 32 bits, and no action of a whole piece
abbrev pub IsShortName : NodeName → Type 0
IsShortName (Op piece i) = (piece < 2 ^ 32) × (i < 2 ^ 32)
IsShortName (Switch piece line) = (piece < 2 ^ 32) × (line < 2 ^ 32)
IsShortName (Merge piece line) = (piece < 2 ^ 32) × (line < 2 ^ 32)
IsShortName (Act piece) = ⊥

abbrev pub name_of : NodeName → PrintedName
name_of (Op piece i) = name.Operation piece i
name_of (Switch piece line) = name.Switch piece line
name_of (Merge piece line) = name.Merge piece line
-- there is no such node
name_of (Act piece) = name.Merge 0 0

abbrev pub firing_of : ℕ → NodeName → Firing
firing_of k n = record { node = k; name = name_of n }

groups : (k word p i : List ℕ) → k ++ (word ++ p ++ (32 ∷ i)) ++ (10 ∷ []) ≡ k ++ word ++ p ++ (32 ∷ []) ++ i ++ (10 ∷ [])
groups k word p i =
    ap (λ l. l ++ (10 ∷ []))
    (sym (append_assoc k (word ++ p) (32 ∷ i))
    ∙ ap (λ l. l ++ (32 ∷ i)) (sym (append_assoc k word p))
    ∙ sym (append_assoc (k ++ word ++ p) (32 ∷ []) i))

firing_same : (k : ℕ) (n : NodeName) → IsShortName n → firing_text (firing_of k n) ≡ name_line k n
firing_same k (Op piece i) short = groups (decimal k) (codes " OP ") (decimal piece) (decimal i)
firing_same k (Switch piece line) short = groups (decimal k) (codes " SWITCH ") (decimal piece) (decimal line)
firing_same k (Merge piece line) short = groups (decimal k) (codes " MERGE ") (decimal piece) (decimal line)
firing_same k (Act piece) short = absurd short

name_printable : (n : NodeName) → IsShortName n → IsPrintableNodeName (name_of n)
name_printable (Op piece i) short = short
name_printable (Switch piece line) short = short
name_printable (Merge piece line) short = short
name_printable (Act piece) short = absurd short

-- ---- ends

trap_same : (t : Trap) → trap_text t ≡ trap_name t
trap_same trap.Divide = refl
trap_same trap.Subscript = refl
trap_same trap.Step = refl
trap_same trap.Input = refl
trap_same trap.Overflow = refl

-- why a game ended, where that was not the sink
abbrev pub end_of : PlayEnd → (limit : ℕ) → TraceEnd
end_of (end.Rest n) limit = ended.Rest
end_of (end.Trapped t line) limit = ended.Trapped t line
end_of end.Limit limit = ended.Limit limit
end_of (end.WriteFault n) limit = ended.Rest

-- the line of a trap has 32 bits
abbrev pub HasShortTrap : PlayEnd → Type 0
HasShortTrap (end.Trapped t line) = line < 2 ^ 32
HasShortTrap _ = Unit {0}

end_printable : (e : PlayEnd) (limit : ℕ) → HasShortTrap e → limit < 2 ^ 64 → IsPrintableEnd (end_of e limit)
end_printable (end.Rest n) limit short few = tt
end_printable (end.Trapped t line) limit short few = short
end_printable end.Limit limit short few = few
end_printable (end.WriteFault n) limit short few = tt

due_same : (e : PlayEnd) (limit : ℕ) (text : List ℕ) (due : Due) → IsDueBy e limit text due → all_due due ≡ text ++ end_text (end_of e limit)
due_same (end.Rest n) limit text due is = ap all_due is
due_same (end.Trapped t line) limit text due is = ap all_due is ∙ ap (λ word. text ++ (codes "TRAP " ++ word ++ codes " LINE " ++ decimal line ++ (10 ∷ []))) (sym (trap_same t))
due_same end.Limit limit text due is = ap all_due is
due_same (end.WriteFault n) limit text due is = absurd is

-- ---- traces

longer : 2 ^ 63 < 2 ^ 64
longer = omega arith

-- Where a trace has no text, there is none.
trace_told : (trace : PrintedTrace) (text : List ℕ) → IsPrintableTrace trace → trace_text trace ≡ text → IsTraceText text
trace_told trace [] fits is = record { trace = None; fits = tt; some = tt; is = refl }
trace_told trace (c ∷ more) fits is = record { trace = Some trace; fits = fits; some = subst (λ text. 0 < length text) (sym is) (omega arith); is = sym is }

module _ {M P : Type 0} (w : Way M P) (start : Moment M P) where
  abbrev fired_at : (n : ℕ) → Firing
  fired_at n = firing_of (node_at w start n) (w.moves.name (node_at w start n))

  abbrev fired_to : (count : ℕ) → List Firing
  fired_to zero = []
  fired_to (suc n) = fired_to n ++ fired_at n ∷ []

  -- the numbers of each firing have 32 bits
  pub record AreShortTo (count : ℕ) : Type 0 where
    pub nodes : (n : ℕ) → n < count → node_at w start n < 2 ^ 32
    pub names : (n : ℕ) → n < count → IsShortName (w.moves.name (node_at w start n))

  all_but_last : (n : ℕ) → AreShortTo (suc n) → AreShortTo n
  all_but_last n short = record { nodes = λ m lt. short.nodes m (omega (arith, lt)); names = λ m lt. short.names m (omega (arith, lt)) }

  fired_counted : (n : ℕ) → length (fired_to n) ≡ n
  fired_counted zero = refl
  fired_counted (suc n) = let before = fired_counted n in length-append (fired_to n) (fired_at n ∷ []) ∙ omega (arith, before)

  fired_told : (n : ℕ) → AreShortTo n → flat_map firing_text (fired_to n) ≡ shown w Nodes start n
  fired_told zero short = refl
  fired_told (suc n) short =
      flat_map-append firing_text (fired_to n) (fired_at n ∷ [])
      ∙ ap (λ l. l ++ (firing_text (fired_at n) ++ [])) (fired_told n (all_but_last n short))
      ∙ ap (λ r. shown w Nodes start n ++ r) (append-nil (firing_text (fired_at n)) ∙ firing_same (node_at w start n) (w.moves.name (node_at w start n)) (short.names n (omega arith)))

  fired_printable : (n : ℕ) → AreShortTo n → All IsPrintableFiring (fired_to n)
  fired_printable zero short = All-nil IsPrintableFiring
  fired_printable (suc n) short =
      All-push IsPrintableFiring (fired_to n) (fired_at n) (fired_printable n (all_but_last n short))
      (record { node = short.nodes n (omega arith); name = name_printable (w.moves.name (node_at w start n)) (short.names n (omega arith)) })

  -- a game that was told by its nodes
  pub game_told_by : (limit count : ℕ) (e : PlayEnd) (due : Due) → limit < 2 ^ 63 → count ≤ limit → AreShortTo count → HasShortTrap e → IsDueBy e limit (shown w Nodes start count) due → IsTraceText (all_due due)
  game_told_by limit count e due few most short trap_short is =
      let kept : capped (fired_to count) ≡ fired_to count = capped_is (fired_to count) (subst (λ n. n < 2 ^ 63) (sym (fired_counted count)) (lt_of_le_of_lt most few)) in
      let trace : PrintedTrace = record { firings = vec_with (fired_to count); end = end_of e limit } in
      trace_told trace (all_due due)
      (record {
        firings = subst (λ (fs : List Firing). All IsPrintableFiring fs) (sym kept) (fired_printable count short);
        end = end_printable e limit trap_short (lt_trans few longer);
      })
      (ap (λ (fs : List Firing). flat_map firing_text fs ++ end_text (end_of e limit)) kept
      ∙ ap (λ text. text ++ end_text (end_of e limit)) (fired_told count short)
      ∙ sym (due_same e limit (shown w Nodes start count) due is))
