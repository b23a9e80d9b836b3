-- Depth beyond what a text needs changes nothing, and so the readers are what they call one another for.
use Rattle.std.proofs.Common.{◌≡◌, ◌==◌, ℕ, zero, suc, ◌+◌, ◌*◌, ◌<◌, ◌≤◌, List, [], ◌∷◌, length, drop, take_while, Some, None, if◌then◌else◌, ◌&&◌, nat_le, refl, sym, ap, ◌∙◌, arith}
use Rattle.std.proofs.lemmas.Bool.{or_left}
use Rattle.op_table.specs.declared.Op.{Op}
use Rattle.f77_tree.specs.Name.{is_capital, is_figure}
use Rattle.f77_tree.specs.Grammar.{Written, Arguments, level, operator_level, left_level, right_level}
use Rattle.f77_expr.specs.Reader.{Reads, read_as, and_then_read, operator_at, Prefix, prefix_at, operand_level, prefixed, truth_at, is_symbolic, closed, Readers, begun, continued, named, primary_by, more_arguments, deeper, readers, enough, expression_at, chain_at, primary_at, arguments_at, the_readers}
use Rattle.f77_expr.proofs.EachRead.{Each, each_at, if_same, then_same}
use Rattle.f77_expr.proofs.Prefixes.{IsOperatorIn, operator_prefix, IsPrefixIn, prefix_at_start, run_shorter}
use Rattle.f77_expr.proofs.Descent.{Shorter, readers_shorter}

-- two readers that read alike what this depth suffices for
pub record Agree (r q : Readers) (depth : ℕ) : Type 0 where
  pub expression : (least : ℕ) (text : List ℕ) → 3 * length text + 3 ≤ depth → r.expression least text ≡ q.expression least text
  pub chain : (least : ℕ) (w : Written) (text : List ℕ) → 3 * length text + 1 ≤ depth → r.chain least w text ≡ q.chain least w text
  pub primary : (text : List ℕ) → 3 * length text + 2 ≤ depth → r.primary text ≡ q.primary text
  pub arguments : (text : List ℕ) → 3 * length text + 4 ≤ depth → r.arguments text ≡ q.arguments text

module _ (r q : Readers) (depth : ℕ) (s : Shorter r) (agree : Agree r q depth) where
  same_begun : (least : ℕ) (text : List ℕ) (p : Reads Prefix) → Each (λ prefix rest. IsPrefixIn least text prefix rest) p → 3 * length text + 3 ≤ suc depth → begun r least text p ≡ begun q least text p
  same_begun least text None h deep =
      then_same (λ w rest. length rest < length text) (λ w rest. r.chain least w rest) (λ w rest. q.chain least w rest) (r.primary text) (q.primary text)
      (agree.primary text (omega arith)) (s.primary text) (λ w rest lt. agree.chain least w rest (omega arith))
  same_begun least text (Some (prefix, operand)) h deep =
      let lt : length operand < length text = h.1 in
      then_same (λ w rest. length rest < length operand) (λ w rest. r.chain least (prefixed prefix w) rest) (λ w rest. q.chain least (prefixed prefix w) rest) (r.expression (operand_level prefix) operand) (q.expression (operand_level prefix) operand)
      (agree.expression (operand_level prefix) operand (omega arith)) (s.expression (operand_level prefix) operand) (λ w rest less. agree.chain least (prefixed prefix w) rest (omega arith))

  same_continued : (least : ℕ) (w : Written) (text : List ℕ) (o : Reads Op) → Each (λ op rest. IsOperatorIn text op rest) o → 3 * length text + 1 ≤ suc depth → continued r least w text o ≡ continued q least w text o
  same_continued least w text None h deep = refl
  same_continued least w text (Some (op, operand)) h deep =
      let lt : length operand < length text = h.1 in
      if_same (nat_le least (operator_level op) && nat_le (left_level op) (level w))
      (and_then_read (λ right rest. r.chain least (Written.binary op w right) rest) (r.expression (right_level op) operand)) (and_then_read (λ right rest. q.chain least (Written.binary op w right) rest) (q.expression (right_level op) operand)) (Some (w, text)) (Some (w, text))
      (λ goes_on. then_same (λ right rest. length rest < length operand) (λ right rest. r.chain least (Written.binary op w right) rest) (λ right rest. q.chain least (Written.binary op w right) rest) (r.expression (right_level op) operand) (q.expression (right_level op) operand)
      (agree.expression (right_level op) operand (omega arith)) (s.expression (right_level op) operand) (λ right rest less. agree.chain least (Written.binary op w right) rest (omega arith)))
      (λ stops. refl)

  same_named : (name text : List ℕ) → 3 * length text + 1 ≤ depth → named r name text ≡ named q name text
  same_named name [] deep = refl
  same_named name (c ∷ text) deep =
      if_same (c == 40) (read_as (λ arguments. Written.call name arguments) (r.arguments text)) (read_as (λ arguments. Written.call name arguments) (q.arguments text)) (Some (Written.name name, c ∷ text)) (Some (Written.name name, c ∷ text))
      (λ bracket. ap (read_as (λ arguments. Written.call name arguments)) (agree.arguments text (omega arith)))
      (λ none. refl)

  same_more : (w : Written) (text : List ℕ) → 3 * length text + 1 ≤ depth → more_arguments r w text ≡ more_arguments q w text
  same_more w [] deep = refl
  same_more w (c ∷ text) deep =
      let others : Reads Arguments = if c == 41 then Some (Arguments.last w, text) else None in
      if_same (c == 44) (read_as (λ more. Arguments.before w more) (r.arguments text)) (read_as (λ more. Arguments.before w more) (q.arguments text)) others others
      (λ comma. ap (read_as (λ more. Arguments.before w more)) (agree.arguments text (omega arith)))
      (λ none. refl)

  same_primary : (text : List ℕ) → 3 * length text + 2 ≤ suc depth → primary_by r text ≡ primary_by q text
  same_primary [] deep = refl
  same_primary (c ∷ text) deep =
      if_same (is_figure c) number number (not_number r) (not_number q) (λ figure. refl)
      (λ no_figure. if_same (is_capital c) (name_or r) (name_or q) (not_name r) (not_name q)
      (λ capital.
      let less : length beyond < length (c ∷ text) = run_shorter is_symbolic c text (or_left (is_capital c) (is_figure c) capital) in
      if_same (nat_le (length run) 6) (named r run beyond) (named q run beyond) None None (λ short. same_named run beyond (omega arith)) (λ long. refl))
      (λ no_capital. if_same (c == 40) (bracket_or r) (bracket_or q) (truth_at (c ∷ text)) (truth_at (c ∷ text))
      (λ bracket. ap (and_then_read (λ w rest. closed (Written.bracketed w) rest)) (agree.expression 0 text (omega arith)))
      (λ none. refl)))
    where
      run : List ℕ
      run = take_while is_symbolic (c ∷ text)

      beyond : List ℕ
      beyond = drop (length (take_while is_symbolic (c ∷ text))) (c ∷ text)

      number : Reads Written
      number = Some (Written.number (take_while is_figure (c ∷ text)), drop (length (take_while is_figure (c ∷ text))) (c ∷ text))

      bracket_or : Readers → Reads Written
      bracket_or one = and_then_read (λ w rest. closed (Written.bracketed w) rest) (one.expression 0 text)

      name_or : Readers → Reads Written
      name_or one = if nat_le (length run) 6 then named one run beyond else None

      not_name : Readers → Reads Written
      not_name one = if c == 40 then bracket_or one else truth_at (c ∷ text)

      not_number : Readers → Reads Written
      not_number one = if is_capital c then name_or one else not_name one

  deeper_agree : Agree (deeper r) (deeper q) (suc depth)
  deeper_agree = record {
    expression = λ least text deep. same_begun least text (prefix_at least text) (prefix_at_start least text) deep;
    chain = λ least w text deep. same_continued least w text (operator_at text) (operator_prefix text) deep;
    primary = λ text deep. same_primary text deep;
    arguments = λ text deep.
        then_same (λ w rest. length rest < length text) (λ w rest. more_arguments r w rest) (λ w rest. more_arguments q w rest) (r.expression 0 text) (q.expression 0 text)
        (agree.expression 0 text (omega arith)) (s.expression 0 text) (λ w rest less. same_more w rest (omega arith));
  }

-- what a depth suffices for is read alike at any greater depths
readers_agree : (depth n k : ℕ) → depth ≤ n → depth ≤ k → Agree (readers n) (readers k) depth
readers_agree zero n k at_n at_k = record { expression = λ least text deep. absurd (omega arith); chain = λ least w text deep. absurd (omega arith); primary = λ text deep. absurd (omega arith); arguments = λ text deep. absurd (omega arith) }
readers_agree (suc depth) zero k at_n at_k = absurd (omega arith)
readers_agree (suc depth) (suc n) zero at_n at_k = absurd (omega arith)
readers_agree (suc depth) (suc n) (suc k) at_n at_k =
    deeper_agree (readers n) (readers k) depth (readers_shorter n) (readers_agree depth n k (omega arith) (omega arith))

-- ---- the four readers with no depth

-- they are the readers of any depth that suffices
pub enough_agree : (n : ℕ) → Agree the_readers (readers n) n
unfolding expression_at chain_at primary_at arguments_at
enough_agree n = record {
  expression = λ least text deep. (readers_agree (3 * length text + 3) (enough text) n (omega arith) deep).expression least text (omega arith);
  chain = λ least w text deep. (readers_agree (3 * length text + 1) (enough text) n (omega arith) deep).chain least w text (omega arith);
  primary = λ text deep. (readers_agree (3 * length text + 2) (enough text) n (omega arith) deep).primary text (omega arith);
  arguments = λ text deep. (readers_agree (3 * length text + 4) (enough text) n (omega arith) deep).arguments text (omega arith);
}

-- the rests that they leave
pub the_readers_shorter : Shorter the_readers
unfolding expression_at chain_at primary_at arguments_at
the_readers_shorter = record {
  expression = λ least text. (readers_shorter (enough text)).expression least text;
  chain = λ least w text. (readers_shorter (enough text)).chain least w text;
  primary = λ text. (readers_shorter (enough text)).primary text;
  arguments = λ text. (readers_shorter (enough text)).arguments text;
}

-- they are what they call one another for
module _ (n : ℕ) where
  one_more : Agree (deeper the_readers) (readers (suc n)) (suc n)
  one_more = deeper_agree the_readers (readers n) n the_readers_shorter (enough_agree n)

pub expression-step : (least : ℕ) (text : List ℕ) → expression_at least text ≡ (deeper the_readers).expression least text
expression-step least text =
    let n : ℕ = 3 * length text + 3 in
    (enough_agree (suc n)).expression least text (omega arith) ∙ sym ((one_more n).expression least text (omega arith))

pub chain-step : (least : ℕ) (w : Written) (text : List ℕ) → chain_at least w text ≡ (deeper the_readers).chain least w text
chain-step least w text =
    let n : ℕ = 3 * length text + 3 in
    (enough_agree (suc n)).chain least w text (omega arith) ∙ sym ((one_more n).chain least w text (omega arith))

pub primary-step : (text : List ℕ) → primary_at text ≡ (deeper the_readers).primary text
primary-step text =
    let n : ℕ = 3 * length text + 3 in
    (enough_agree (suc n)).primary text (omega arith) ∙ sym ((one_more n).primary text (omega arith))

pub arguments-step : (text : List ℕ) → arguments_at text ≡ (deeper the_readers).arguments text
arguments-step text =
    let n : ℕ = 3 * length text + 3 in
    (enough_agree (suc n)).arguments text (omega arith) ∙ sym ((one_more n).arguments text (omega arith))

pub primary_shorter : (text : List ℕ) (w : Written) (rest : List ℕ) → primary_at text ≡ Some (w, rest) → length rest < length text
primary_shorter text w rest e = each_at (λ v tail. length tail < length text) (primary_at text) (the_readers_shorter.primary text) w rest e
