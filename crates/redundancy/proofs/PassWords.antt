-- The words of a run hold words at each pass.
use Rattle.std.proofs.Common.{◌≡◌, ℕ, ◌+◌, if◌then◌else◌, ℤ, pos, ◌+ℤ◌, Bool, true, false, List, [], ◌∷◌, map, All, Option, Some, None, Result, Ok, Err, refl, sym, ap, ◌∙◌, subst, ⊎_elim, arith, w32}
use Rattle.std.specs.Prelude.{ok_or}
use Rattle.std.specs.Ordering.{int_eq}
use Rattle.std.proofs.lemmas.Int.{SFits-int_wrap}
use Rattle.std.proofs.lemmas.List.Elements.{All-set}
use Rattle.op_table.specs.declared.Op.TheVariants.{Truth as ToTruth}
use Rattle.op_table.specs.declared.Trap.{Trap}
use Rattle.op_table.specs.Operators.{applied, unary}
use Rattle.op_table.specs.Words.{IsWord, wrapped, truth, is_true}
use Rattle.f77_tree.specs.declared.declarations.Kind.{Kind}
use Rattle.f77_tree.specs.declared.declarations.Kind.TheVariants.{Integer, Logical}
use Rattle.f77_tree.specs.declared.expressions.Expr.{Expr, Apply, Row_of-Expr, end_of-Expr, more_of-Expr, items-the_row-Expr, items_hidden-the_row-Expr-0}
use Rattle.f77_tree.specs.declared.expressions.Expr.TheVariants.{Input}
use Rattle.f77_tree.specs.declared.programs.ExecKind.{ExecKind}
use Rattle.f77_tree.specs.declared.programs.ExecKind.TheVariants.{Assign, Print, Pass, Test, Sign, Pick, DoStart, DoNext, End}
use Rattle.f77_tree.specs.declared.programs.NameInfo.{NameInfo}
use Rattle.f77_tree.specs.Execution.{Memory, Outcome, Stops, outcome, assigned, printed, branched, do_begun, started, words_taken, next_word}
use Rattle.f77_tree.specs.Kinds.{IsProper, IsOfKind, taken_as}
use Rattle.f77_tree.specs.Line.{line_of}
use Rattle.f77_tree.specs.Steps.{IfGoes}
use Rattle.f77_tree.specs.Value.{value, row_values, all_values, and_then, place, place_of, word_at}
use Rattle.f77_tree.specs.WellFormed.{IsExecutable}
use Rattle.redundancy.proofs.Executables.{all-get}
use Rattle.redundancy.proofs.Operands.{row_of}

-- ---- outcomes that go on

abbrev HasWords : ℕ → Memory → List ℕ → Type 0
HasWords next new text = All IsWord new.store

assigned_words : (m : Memory) (next taken : ℕ) (at : Result ℕ Trap) (given : Result ℤ Trap) → All IsWord m.store → ((z : ℤ) → given ≡ Ok z → IsWord z) → IfGoes (assigned m next taken at given) HasWords
assigned_words m next taken (Err trap) given words are = tt
assigned_words m next taken (Ok word) (Err trap) words are = tt
assigned_words m next taken (Ok word) (Ok z) words are = All-set IsWord m.store word z (are z refl) words

printed_words : (m : Memory) (next : ℕ) (line : Result (List ℕ) Trap) → All IsWord m.store → IfGoes (printed m next line) HasWords
printed_words m next (Err trap) words = tt
printed_words m next (Ok text) words = words

branched_words : (m : Memory) (next_at : ℤ → ℕ) (given : Result ℤ Trap) → All IsWord m.store → IfGoes (branched m next_at given) HasWords
branched_words m next_at (Err trap) words = tt
branched_words m next_at (Ok z) words = words

tested_words : (zero' : Bool) (o : Outcome) (trap : Trap) → IfGoes o HasWords → IfGoes (if zero' then Stops trap else o) HasWords
tested_words true o trap words = tt
tested_words false o trap words = words

begun_words : (m : Memory) (loop_no word body exit : ℕ) (first last step : Result ℤ Trap) → All IsWord m.store → ((z : ℤ) → first ≡ Ok z → IsWord z) → IfGoes (do_begun m loop_no word body exit first last step) HasWords
begun_words m loop_no word body exit (Err trap) last step words are = tt
begun_words m loop_no word body exit (Ok a) (Err trap) step words are = tt
begun_words m loop_no word body exit (Ok a) (Ok b) (Err trap) words are = tt
begun_words m loop_no word body exit (Ok a) (Ok b) (Ok c) words are = tested_words (int_eq c (pos 0)) (started m loop_no word body exit a b c) _ (All-set IsWord m.store word a (are a refl) words)

-- ---- what is assigned

row_values-items : (names : List NameInfo) (store : List ℤ) (next : Option ℤ) (n : _) (row : Row_of-Expr n) → row_values names store next row ≡ map (value names store next) (items-the_row-Expr n row)
row_values-items names store next n end_of-Expr = refl
row_values-items names store next n (more_of-Expr e rest) = ap (λ vs. value names store next e ∷ vs) (row_values-items names store next _ rest)

next_word_is : (next : Option ℤ) (trap : Trap) (z : ℤ) → ok_or next trap ≡ Ok z → next ≡ Some z
next_word_is None trap z e = let no' : Err trap ≡ Ok z = e in absurd cc
next_word_is (Some x) trap z e = let is : x ≡ z = cc in ap Some is

truth_word : (r : Result ℤ Trap) (z : ℤ) → and_then (applied ToTruth) (all_values (r ∷ [])) ≡ Ok z → IsWord z
unfolding applied unary
truth_word (Err trap) z e = let no' : Err trap ≡ Ok z = e in absurd cc
truth_word (Ok a) z e = let is : wrapped (truth (is_true a)) ≡ z = cc in subst IsWord is (SFits-int_wrap w32 (truth (is_true a)))

taken_word : (names : List NameInfo) (store : List ℤ) (next : Option ℤ) (kind : Kind) (z : ℤ) → ((d : ℤ) → next ≡ Some d → IsWord d) → value names store next (taken_as kind) ≡ Ok z → IsWord z
taken_word names store next Integer z fed e = fed z (next_word_is next _ z e)
taken_word names store next Logical z fed e =
    let row = row_of (Apply ToTruth (Input ∷ [])) in
    let same = row_values-items names store next row.0 row.1 ∙ ap (map (value names store next)) (items_hidden-the_row-Expr-0 (Input ∷ [])) in
    truth_word (value names store next Input) z (sym (ap (λ vs. and_then (applied ToTruth) (all_values vs)) same) ∙ e)

-- ---- executables

-- an executable of the program leaves words in the store, where values of expressions of the program are words
pub exec_words : (names : List NameInfo) (input : List ℤ) (m : Memory) (kind : ExecKind) → ((next : Option ℤ) (e : Expr) (z : ℤ) → IsProper names e → value names m.store next e ≡ Ok z → IsWord z) → All IsWord input → IsExecutable names kind → All IsWord m.store → IfGoes (outcome names input m kind) HasWords
exec_words names input m (Assign target e next) values fed is words =
    let word = next_word input m in
    assigned_words m next (m.taken + words_taken e) (place names m.store word target) (value names m.store word e) words
    (λ z given. ⊎_elim
    (λ (o : IsOfKind names _ e). values word e z o.proper given)
    (λ same. taken_word names m.store word _ z (λ d at. all-get IsWord input m.taken d fed at) (ap (value names m.store word) (sym same) ∙ given))
    is.of_kind)
exec_words names input m (Print items next) values fed is words = printed_words m next (line_of names m.store items) words
exec_words names input m (Pass next) values fed is words = words
exec_words names input m (Test cond a b) values fed is words = branched_words m _ (value names m.store None cond) words
exec_words names input m (Sign e a b d) values fed is words = branched_words m _ (value names m.store None e) words
exec_words names input m (Pick e targets other) values fed is words = branched_words m _ (value names m.store None e) words
exec_words names input m (DoStart loop_no var first last step body exit) values fed is words =
    begun_words m loop_no (place_of names var) body exit (value names m.store None first) (value names m.store None last) (value names m.store None step) words
    (λ z given. values None first z (is.integers 0 first (omega arith)).proper given)
exec_words names input m (DoNext loop_no var body exit) values fed is words = All-set IsWord m.store (place_of names var) _ (SFits-int_wrap w32 (word_at m.store (place_of names var) +ℤ word_at m.steps loop_no)) words
exec_words names input m End values fed is words = tt
