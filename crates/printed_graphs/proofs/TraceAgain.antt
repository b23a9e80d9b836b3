-- A trace that was printed is read again.
use Rattle.std.proofs.Common.{◌≡◌, ℕ, suc, ◌+◌, ◌-◌, ◌^◌, ◌<◌, ◌≤◌, ◌/◌, ◌%◌, Bool, true, false, cond, List, [], ◌∷◌, ◌++◌, length, flat_map, codes, Option, Some, None, is_some, refl, sym, ap, ◌∙◌, append_assoc, arith, inl, inr, length-append}
use Rattle.std.specs.Char.{is_ascii_digit}
use Rattle.std.specs.Fmt.{decimal}
use Rattle.std.specs.List.{All}
use Rattle.std.proofs.lemmas.Bool.{cases_eq, ne_eqb}
use Rattle.std.proofs.lemmas.Fmt.{decimal_by_steps}
use Rattle.std.proofs.lemmas.List.Elements.{All-head, All-tail}
use Rattle.op_table.specs.declared.Trap.{Trap}
use Rattle.op_table.specs.declared.Trap.TheVariants as trap
use Rattle.printed_graphs.specs.declared.trace.Firing.{Firing}
use Rattle.printed_graphs.specs.declared.trace.NodeName.{NodeName}
use Rattle.printed_graphs.specs.declared.trace.NodeName.TheVariants as name
use Rattle.printed_graphs.specs.declared.trace.PrintedTrace.{PrintedTrace}
use Rattle.printed_graphs.specs.declared.trace.TraceEnd.{TraceEnd}
use Rattle.printed_graphs.specs.declared.trace.TraceEnd.TheVariants as end
use Rattle.printed_graphs.specs.GraphReading.{after_two, is_trap, at_digit, node_name_at, firing_at, trapped_at, limit_at, end_at, trace_at}
use Rattle.printed_graphs.specs.Names.{trap_text}
use Rattle.printed_graphs.specs.Printable.{IsPrintableNodeName, IsPrintableFiring, IsPrintableEnd, IsPrintableTrace}
use Rattle.printed_graphs.specs.Reading.{◌>>=◌, after_word, digit_at, field_at, after_name, parts_at}
use Rattle.printed_graphs.specs.TraceText.{name_text, firing_text, end_text, trace_text}
use Rattle.printed_graphs.specs.Words.{field_text}
use Rattle.printed_graphs.proofs.Again.{digit_again, number_again, long_number_again}
use Rattle.printed_graphs.proofs.FlowAgain.{number_blank, number_end}
use Rattle.printed_graphs.proofs.Loops.{one_part, no_part, digit_there, firing_some}

-- ---- parts

-- a part that is read wherever it comes before such a rest
pub record IsReadAgain {A : Type 0} (begin part : List ℕ → Option (List ℕ)) (text : A → List ℕ) (fits : A → Type 0) (Ends : List ℕ → Type 0) : Type 0 where
  pub some : (x : A) → 0 < length (text x)
  pub front : (x : A) (rest : List ℕ) → fits x → Ends (text x ++ rest)
  pub inner : A → List ℕ → List ℕ
  pub begins : (x : A) (rest : List ℕ) → fits x → Ends rest → begin (text x ++ rest) ≡ Some (inner x rest)
  pub again : (x : A) (rest : List ℕ) → fits x → Ends rest → part (inner x rest) ≡ Some rest

pub Ends_front : {A : Type 0} (begin part : List ℕ → Option (List ℕ)) (text : A → List ℕ) (fits : A → Type 0) (Ends : List ℕ → Type 0) → IsReadAgain begin part text fits Ends → (xs : List A) (rest : List ℕ) → All fits xs → Ends rest → Ends (flat_map text xs ++ rest)
Ends_front begin part text fits Ends law [] rest all end = end
Ends_front begin part text fits Ends law (x ∷ xs) rest all end = rw (append_assoc (text x) (flat_map text xs) rest) (law.front x (flat_map text xs ++ rest) (All-head fits x xs all))

pub parts_again : {A : Type 0} (begin part : List ℕ → Option (List ℕ)) (text : A → List ℕ) (fits : A → Type 0) (Ends : List ℕ → Type 0) → IsReadAgain begin part text fits Ends → (xs : List A) (rest : List ℕ) (most : ℕ) → All fits xs → Ends rest → begin rest ≡ None → length (flat_map text xs ++ rest) ≤ most → parts_at begin part most (flat_map text xs ++ rest) ≡ Some rest
parts_again begin part text fits Ends law [] rest most all end none enough = no_part begin part most rest none
parts_again begin part text fits Ends law (x ∷ xs) rest most all end none enough =
    let more = flat_map text xs ++ rest in
    let ends : Ends more = Ends_front begin part text fits Ends law xs rest (All-tail fits x xs all) end in
    let fit = All-head fits x xs all in
    let split : flat_map text (x ∷ xs) ++ rest ≡ text x ++ more = append_assoc (text x) (flat_map text xs) rest in
    let longer : length (flat_map text (x ∷ xs) ++ rest) ≡ length (text x) + length more = ap length split ∙ length-append (text x) more in
    let some = law.some x in
    let fewer : length more ≤ most - 1 = omega arith in
    let step : most ≡ suc (most - 1) = omega arith in
    ap (parts_at begin part most) split
    ∙ ap (λ n. parts_at begin part n (text x ++ more)) step
    ∙ one_part begin part (most - 1) (text x ++ more) (law.inner x more) (law.begins x more fit ends)
    ∙ ap (λ r. r >>= parts_at begin part (most - 1)) (law.again x more fit ends)
    ∙ parts_again begin part text fits Ends law xs rest (most - 1) (All-tail fits x xs all) end none fewer

-- ---- digits at the front

abbrev BeginsWithDigit : ℕ → List ℕ → Type 0
BeginsWithDigit n digits = (rest : List ℕ) → is_some (digit_at (digits ++ rest)) ≡ true

one_begins : (n : ℕ) → n < 10 → BeginsWithDigit n ((48 + n) ∷ [])
one_begins n small rest = rw (digit_again n rest small) refl

more_begins : (n : ℕ) (digits : List ℕ) → 10 ≤ n → BeginsWithDigit (n / 10) digits → BeginsWithDigit n (digits ++ ((48 + n % 10) ∷ []))
more_begins n digits ten front rest = rw (append_assoc digits ((48 + n % 10) ∷ []) rest) (front ((48 + n % 10) ∷ rest))

pub number_begins : (n : ℕ) (rest : List ℕ) → n < 2 ^ 64 → is_some (digit_at (decimal n ++ rest)) ≡ true
number_begins n rest fits = decimal_by_steps BeginsWithDigit one_begins more_begins n fits rest

both : {X : Type 0} (b : Bool) (x : X) → b ≡ false → is_some (cond b (Some x) None) ≡ true → ⊥
both true x off on = absurd cc
both false x off on = absurd cc

-- a word that does not begin with a digit
pub no_word : (c : ℕ) (word text : List ℕ) → is_ascii_digit c ≡ false → is_some (digit_at text) ≡ true → after_word (c ∷ word) text ≡ None
unfolding after_word digit_at
no_word c word [] letter digit = absurd cc
no_word c word (d ∷ text) letter digit =
    elim (cases_eq c d) [
      | inl same ↦ absurd (both (is_ascii_digit d) (d - 48, text) (ap is_ascii_digit (sym same) ∙ letter) digit)
      | inr apart ↦ rw (ne_eqb c d apart) refl
    ]

-- ---- firings

pub two_end : (a b : ℕ) (rest : List ℕ) → a < 2 ^ 32 → b < 2 ^ 32 → after_two (decimal a ++ 32 ∷ (decimal b ++ 10 ∷ rest)) ≡ Some (10 ∷ rest)
unfolding after_two field_at after_word
two_end a b rest small short = rw (number_blank a (decimal b ++ 10 ∷ rest) small, number_end b rest short) refl

pub name_again : (name : NodeName) (rest : List ℕ) → IsPrintableNodeName name → node_name_at (name_text name ++ 10 ∷ rest) ≡ Some (10 ∷ rest)
unfolding node_name_at after_word
name_again (name.Operation a b) rest fits = ap after_two (append_assoc (decimal a) (field_text b) (10 ∷ rest)) ∙ two_end a b rest fits.0 fits.1
name_again (name.Switch a b) rest fits = ap after_two (append_assoc (decimal a) (field_text b) (10 ∷ rest)) ∙ two_end a b rest fits.0 fits.1
name_again (name.Merge a b) rest fits = ap after_two (append_assoc (decimal a) (field_text b) (10 ∷ rest)) ∙ two_end a b rest fits.0 fits.1

-- a name begins with a blank
name_blank : (name : NodeName) (rest : List ℕ) → digit_at (name_text name ++ rest) ≡ None
unfolding digit_at
name_blank (name.Operation a b) rest = refl
name_blank (name.Switch a b) rest = refl
name_blank (name.Merge a b) rest = refl

split_firing : (firing : Firing) (rest : List ℕ) → firing_text firing ++ rest ≡ decimal firing.node ++ (name_text firing.name ++ 10 ∷ rest)
split_firing firing rest = simp append_assoc

pub firing_again : (firing : Firing) (rest : List ℕ) → IsPrintableFiring firing → firing_at (firing_text firing ++ rest) ≡ Some rest
unfolding firing_at after_word
firing_again firing rest fits =
    ap firing_at (split_firing firing rest)
    ∙ rw (number_again firing.node (name_text firing.name ++ 10 ∷ rest) fits.node (name_blank firing.name (10 ∷ rest)), name_again firing.name rest fits.name) refl

pub firing_begins : (firing : Firing) (rest : List ℕ) → IsPrintableFiring firing → is_some (digit_at (firing_text firing ++ rest)) ≡ true
firing_begins firing rest fits = rw (split_firing firing rest) (number_begins firing.node (name_text firing.name ++ 10 ∷ rest) (omega (arith, fits.node)))

firings_law : IsReadAgain at_digit firing_at firing_text IsPrintableFiring (λ _. Unit {0})
firings_law = record {
  some = firing_some;
  front = λ x rest fits. tt;
  inner = λ x rest. firing_text x ++ rest;
  begins = λ x rest fits end. digit_there (firing_text x ++ rest) (firing_begins x rest fits);
  again = λ x rest fits end. firing_again x rest fits;
}

-- ---- ends

trap_again : (trap : Trap) (rest : List ℕ) → after_name is_trap (trap_text trap ++ 32 ∷ rest) ≡ Some (32 ∷ rest)
unfolding after_name is_trap
trap_again trap.Divide rest = refl
trap_again trap.Subscript rest = refl
trap_again trap.Step rest = refl
trap_again trap.Input rest = refl
trap_again trap.Overflow rest = refl

end_no_digit : (end : TraceEnd) → at_digit (end_text end) ≡ None
unfolding digit_at
end_no_digit end.Rest = refl
end_no_digit (end.Trapped trap line) = refl
end_no_digit (end.Limit limit) = refl

end_again : (end : TraceEnd) → IsPrintableEnd end → end_at (end_text end) ≡ Some []
unfolding end_at trapped_at limit_at after_word digit_at
end_again end.Rest fits = refl
end_again (end.Trapped why line) fits =
    let tail = codes "LINE " ++ (decimal line ++ 10 ∷ []) in
    let regrouped : end_text (end.Trapped why line) ≡ codes "TRAP " ++ (trap_text why ++ 32 ∷ tail) = simp append_assoc in
    ap end_at regrouped ∙ rw (trap_again why tail, number_end line [] fits) refl
end_again (end.Limit limit) fits = rw (long_number_again limit (10 ∷ []) fits refl) refl

pub trace_again : (trace : PrintedTrace) → IsPrintableTrace trace → trace_at (trace_text trace) ≡ Some []
unfolding trace_at
trace_again trace fits =
    rw (parts_again at_digit firing_at firing_text IsPrintableFiring (λ _. Unit {0}) firings_law trace.firings.items (end_text trace.end) (length (trace_text trace)) fits.firings tt (end_no_digit trace.end) (omega arith)) (end_again trace.end fits.end)

front_of : (c : ℕ) (word : List ℕ) (firings : List Firing) (end : List ℕ) → All IsPrintableFiring firings → is_ascii_digit c ≡ false → after_word (c ∷ word) end ≡ None → after_word (c ∷ word) (flat_map firing_text firings ++ end) ≡ None
front_of c word [] end fits letter none = none
front_of c word (x ∷ xs) end fits letter none =
    rw (append_assoc (firing_text x) (flat_map firing_text xs) end) (no_word c word (firing_text x ++ (flat_map firing_text xs ++ end)) letter (firing_begins x (flat_map firing_text xs ++ end) (All-head IsPrintableFiring x xs fits)))

-- what a trace does not begin with
pub trace_front : (c : ℕ) (word : List ℕ) (trace : PrintedTrace) → IsPrintableTrace trace → is_ascii_digit c ≡ false → after_word (c ∷ word) (end_text trace.end) ≡ None → after_word (c ∷ word) (trace_text trace) ≡ None
trace_front c word trace fits letter end = front_of c word trace.firings.items (end_text trace.end) fits.firings letter end
