-- Each expression of the grammar is read as it is written, and what goes on after it is read on.
use Rattle.std.proofs.Common.{◌≡◌, ℕ, ◌≤◌, true, List, ◌∷◌, ◌++◌, Some, None, ◌&&◌, nat_le, refl, ap, ◌∙◌, arith}
use Rattle.std.proofs.lemmas.Bool.{le-leb, and_from}
use Rattle.op_table.specs.declared.Op.{Op}
use Rattle.f77_tree.specs.Name.{is_name}
use Rattle.f77_tree.specs.Grammar.{Written, Arguments, symbol, level, operator_level, left_level, right_level, IsGrammatical, AreGrammatical, spelling, spellings, truth_text}
use Rattle.f77_expr.specs.Reader.{read_as, and_then_read, Prefix, prefix_at, operand_level, prefixed, begun, continued, more_arguments, the_readers, expression_at, chain_at, primary_at, arguments_at}
use Rattle.f77_expr.specs.Reader.Prefix.{Plus, Minus, Negation}
use Rattle.f77_expr.proofs.EachRead.{if_true}
use Rattle.f77_expr.proofs.Prefixes.{prefix_text, prefix_level}
use Rattle.f77_expr.proofs.Spellings.{binary_spelling, call_spelling, bracketed_spelling, before_spelling, prefixed_spelling}
use Rattle.f77_expr.proofs.Levels.{levels_of, level_most, edge, level_edge, takes_whole}
use Rattle.f77_expr.proofs.Followers.{is_follower, prefix_none, Stops, stops_more, follower_stops, chain_stops, operator_reads, operator_stops, prefix_reads, truth_no_prefix}
use Rattle.f77_expr.proofs.Primaries.{number_reads, name_reads, call_reads, bracketed_reads, truth_reads, number_no_prefix, name_no_prefix, first_no_asterisk}
use Rattle.f77_expr.proofs.Depth.{expression-step, chain-step, arguments-step}

-- what is written before what stops there is read, and then what goes on after it
abbrev pub IsReadWhole : Written → Type 0
IsReadWhole w = (least : ℕ) (text : List ℕ) → least ≤ level w → Stops (edge w) text → expression_at least (spelling w ++ text) ≡ chain_at least w text

-- where nothing goes on after it, it is what is read
alone : (w : Written) → IsReadWhole w → (least : ℕ) (text : List ℕ) → least ≤ level w → Stops least text → expression_at least (spelling w ++ text) ≡ Some (w, text)
alone w whole least text allowed stops =
    let reaches : level w ≤ edge w = level_edge w in
    whole least text allowed (stops_more least (edge w) text (omega arith) stops) ∙ chain_stops least w text stops

module _ (least : ℕ) (text : List ℕ) where
  from_primary : (whole : List ℕ) (w : Written) → prefix_at least whole ≡ None → primary_at whole ≡ Some (w, text) → expression_at least whole ≡ chain_at least w text
  from_primary whole w no_prefix reads =
      expression-step least whole ∙ ap (begun the_readers least whole) no_prefix ∙ ap (and_then_read (λ v rest. chain_at least v rest)) reads

  from_prefix : (prefix : Prefix) (w : Written) → IsReadWhole w → operand_level prefix ≤ level w → least ≤ prefix_level prefix → Stops (operand_level prefix) text → expression_at least (spelling (prefixed prefix w) ++ text) ≡ chain_at least (prefixed prefix w) text
  from_prefix prefix w whole fits allowed stops =
      let operand : List ℕ = spelling w ++ text in
      ap (expression_at least) (prefixed_spelling prefix w text)
      ∙ expression-step least (prefix_text prefix ++ operand)
      ∙ ap (begun the_readers least (prefix_text prefix ++ operand)) (prefix_reads least prefix operand allowed)
      ∙ ap (and_then_read (λ v rest. chain_at least (prefixed prefix v) rest)) (alone w whole (operand_level prefix) text fits stops)

  from_binary : (op : Op) (a b : Written) → IsReadWhole a → IsReadWhole b → IsGrammatical (Written.binary op a b) → least ≤ operator_level op → Stops (right_level op) text → expression_at least (spelling (Written.binary op a b) ++ text) ≡ chain_at least (Written.binary op a b) text
  from_binary op a b whole_a whole_b h allowed stops =
      let beyond : List ℕ = spelling b ++ text in
      let most : level a ≤ 8 = level_most a h.0 in
      let left : left_level op ≤ level a = h.2 in
      let own : operator_level op ≤ left_level op = (levels_of op).from_left in
      let real : left_level op ≤ 8 = omega arith in
      let starless = first_no_asterisk b h.1 text in
      let goes_on : (nat_le least (operator_level op) && nat_le (left_level op) (level a)) ≡ true = and_from (nat_le least (operator_level op)) (nat_le (left_level op) (level a)) (le-leb least (operator_level op) allowed) (le-leb (left_level op) (level a) left) in
      ap (expression_at least) (binary_spelling op a b text)
      ∙ whole_a least (symbol op ++ beyond) (omega arith) (operator_stops (edge a) op beyond real starless (takes_whole op a h.0 left))
      ∙ chain-step least a (symbol op ++ beyond)
      ∙ ap (continued the_readers least a (symbol op ++ beyond)) (operator_reads op beyond real starless)
      ∙ if_true (nat_le least (operator_level op) && nat_le (left_level op) (level a)) (and_then_read (λ right rest. chain_at least (Written.binary op a right) rest) (expression_at (right_level op) beyond)) (Some (a, symbol op ++ beyond)) goes_on
      ∙ ap (and_then_read (λ right rest. chain_at least (Written.binary op a right) rest)) (alone b whole_b (right_level op) text h.3 stops)

-- the arguments of a call
abbrev pub AreReadWhole : Arguments → Type 0
AreReadWhole args = (text : List ℕ) → arguments_at (spellings args ++ (41 ∷ text)) ≡ Some (args, text)

from_last : (w : Written) → IsReadWhole w → AreReadWhole (Arguments.last w)
from_last w whole text =
    arguments-step (spelling w ++ (41 ∷ text))
    ∙ ap (and_then_read (λ v rest. more_arguments the_readers v rest)) (alone w whole 0 (41 ∷ text) (omega arith) (follower_stops 0 (41 ∷ text) refl))

from_before : (w : Written) (more : Arguments) → IsReadWhole w → AreReadWhole more → AreReadWhole (Arguments.before w more)
from_before w more whole others text =
    let beyond : List ℕ = spellings more ++ (41 ∷ text) in
    ap arguments_at (before_spelling w more (41 ∷ text))
    ∙ arguments-step (spelling w ++ (44 ∷ beyond))
    ∙ ap (and_then_read (λ v rest. more_arguments the_readers v rest)) (alone w whole 0 (44 ∷ beyond) (omega arith) (follower_stops 0 (44 ∷ beyond) refl))
    ∙ ap (read_as (λ arguments. Arguments.before w arguments)) (others text)

from_bracketed : (w : Written) → IsReadWhole w → IsReadWhole (Written.bracketed w)
from_bracketed w whole least text allowed stops =
    let inside : List ℕ = spelling w ++ (41 ∷ text) in
    ap (expression_at least) (bracketed_spelling w text)
    ∙ from_primary least text (40 ∷ inside) (Written.bracketed w) (prefix_none least 40 inside refl)
    (bracketed_reads w inside text (alone w whole 0 (41 ∷ text) (omega arith) (follower_stops 0 (41 ∷ text) refl)))

from_call : (name : List ℕ) (args : Arguments) → is_name name ≡ true → AreReadWhole args → IsReadWhole (Written.call name args)
from_call name args is whole least text allowed stops =
    let inside : List ℕ = spellings args ++ (41 ∷ text) in
    ap (expression_at least) (call_spelling name args text)
    ∙ from_primary least text (name ++ (40 ∷ inside)) (Written.call name args) (name_no_prefix least name (40 ∷ inside) is) (call_reads name args inside text is (whole text))

mutual
  pub read_whole : (w : Written) → IsGrammatical w → IsReadWhole w
  read_whole (Written.number digits) h = λ least text allowed stops. from_primary least text (digits ++ text) (Written.number digits) (number_no_prefix least digits text h) (number_reads digits text h stops.breaks)
  read_whole (Written.truth b) h = λ least text allowed stops. from_primary least text (truth_text b ++ text) (Written.truth b) (truth_no_prefix least b text) (truth_reads b text)
  read_whole (Written.name name) h = λ least text allowed stops. from_primary least text (name ++ text) (Written.name name) (name_no_prefix least name text h) (name_reads name text h stops.breaks)
  read_whole (Written.call name args) h = from_call name args h.0 (are_read_whole args h.1)
  read_whole (Written.bracketed w) h = from_bracketed w (read_whole w h)
  read_whole (Written.plus w) h = λ least text allowed stops. from_prefix least text Plus w (read_whole w h.0) h.1 allowed stops
  read_whole (Written.minus w) h = λ least text allowed stops. from_prefix least text Minus w (read_whole w h.0) h.1 allowed stops
  read_whole (Written.negation w) h = λ least text allowed stops. from_prefix least text Negation w (read_whole w h.0) h.1 allowed stops
  read_whole (Written.binary op a b) h = λ least text allowed stops. from_binary least text op a b (read_whole a h.0) (read_whole b h.1) h allowed stops

  pub are_read_whole : (args : Arguments) → AreGrammatical args → AreReadWhole args
  are_read_whole (Arguments.last w) h = from_last w (read_whole w h)
  are_read_whole (Arguments.before w more) h = from_before w more (read_whole w h.0) (are_read_whole more h.1)

-- before what ends an expression, each is read as it is written
pub read_at_start : (w : Written) (text : List ℕ) → IsGrammatical w → is_follower text ≡ true → expression_at 0 (spelling w ++ text) ≡ Some (w, text)
read_at_start w text h follows = alone w (read_whole w h) 0 text (omega arith) (follower_stops 0 text follows)
