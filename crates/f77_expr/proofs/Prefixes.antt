-- Fronts of texts: characters, operators and prefixes.
use Rattle.std.proofs.Common.{◌≡◌, ◌==◌, ℕ, suc, ◌+◌, ◌<◌, ◌≤◌, Bool, true, false, List, [], ◌∷◌, ◌++◌, length, drop, take_while, cond, Some, None, if◌then◌else◌, nat_le, codes, refl, sym, ap, subst, ◌∙◌, arith, length-append, length-drop}
use Rattle.std.proofs.lemmas.Bool.{eqb-true, leb-true, and_parts, and_from}
use Rattle.std.proofs.lemmas.List.Sums.{take_while-cons}
use Rattle.std.specs.List.{list_all}
use Rattle.f77_tree.specs.Grammar.{Written, symbol, level, IsGrammatical, spelling}
use Rattle.op_table.specs.declared.Op.{Op}
use Rattle.f77_expr.specs.Reader.{Reads, after_prefix, this_or, operator_among, operators, operator_at, Prefix, prefix_at, truth_at}
use Rattle.f77_expr.specs.Reader.Prefix.{Plus, Minus, Negation}
use Rattle.f77_expr.proofs.EachRead.{Each, each_if, each_this_or}

-- a prefix that stands there is what the text begins with
pub prefix_is : (prefix text rest : List ℕ) → after_prefix prefix text ≡ Some rest → prefix ++ rest ≡ text
prefix_is [] text rest e = cc
prefix_is (c ∷ prefix) [] rest e = absurd cc
prefix_is (c ∷ prefix) (d ∷ text) rest e = here (c == d) refl e (λ tail. prefix_is prefix text rest tail)
  where
    here : (b : Bool) → (c == d) ≡ b → (if b then after_prefix prefix text else None) ≡ Some rest → (after_prefix prefix text ≡ Some rest → prefix ++ rest ≡ text) → c ∷ (prefix ++ rest) ≡ d ∷ text
    here true test h ih = let same : c ≡ d = eqb-true c d test in let tail : prefix ++ rest ≡ text = ih h in cc
    here false test h ih = absurd cc

-- the rest after a prefix is shorter by as much
pub prefix_shorter : (prefix text rest : List ℕ) → after_prefix prefix text ≡ Some rest → length prefix + length rest ≡ length text
prefix_shorter prefix text rest e = sym (length-append prefix rest) ∙ ap length (prefix_is prefix text rest e)

-- an operator that was read is one that has a symbol, and the rest follows it
abbrev pub IsOperatorIn : List ℕ → Op → List ℕ → Type 0
IsOperatorIn text op rest = (symbol op ++ rest ≡ text) × (length rest < length text)

abbrev pub HasSymbol : Op → Type 0
HasSymbol op = 0 < length (symbol op)

abbrev HaveSymbols : List Op → Type 0
HaveSymbols [] = Unit {0}
HaveSymbols (op ∷ ops) = HasSymbol op × HaveSymbols ops

operator_in : (text : List ℕ) (ops : List Op) → HaveSymbols ops → Each (λ op rest. IsOperatorIn text op rest) (operator_among ops text)
operator_in text [] h = tt
operator_in text (op ∷ ops) h =
    each_this_or (λ op rest. IsOperatorIn text op rest) op (after_prefix (symbol op) text) (operator_among ops text)
    (λ rest e. (prefix_is (symbol op) text rest e, omega (arith, prefix_shorter (symbol op) text rest e, h.0)))
    (operator_in text ops h.1)

pub operator_prefix : (text : List ℕ) → Each (λ op rest. IsOperatorIn text op rest) (operator_at text)
operator_prefix text = operator_in text operators (search arith)

-- how a prefix is written, and the level of what it begins
abbrev pub prefix_text : Prefix → List ℕ
prefix_text Plus = codes "+"
prefix_text Minus = codes "-"
prefix_text Negation = codes ".NOT."

abbrev pub prefix_level : Prefix → ℕ
prefix_level Plus = 5
prefix_level Minus = 5
prefix_level Negation = 3

-- a prefix that was read is before the rest, where its level is allowed
abbrev pub IsPrefixIn : (least : ℕ) → List ℕ → Prefix → List ℕ → Type 0
IsPrefixIn least text prefix rest = (prefix_text prefix ++ rest ≡ text) × (length rest < length text) × (least ≤ prefix_level prefix)

pub prefix_at_start : (least : ℕ) (text : List ℕ) → Each (λ prefix rest. IsPrefixIn least text prefix rest) (prefix_at least text)
prefix_at_start least text =
    each_if P (nat_le least 3) (this_or Negation (after_prefix (codes ".NOT.") text) sign) sign
    (λ low. each_this_or P Negation (after_prefix (codes ".NOT.") text) sign (λ rest e. (prefix_is (codes ".NOT.") text rest e, omega (arith, prefix_shorter (codes ".NOT.") text rest e), leb-true least 3 low)) signs)
    (λ high. signs)
  where
    P : Prefix → List ℕ → Type 0
    P prefix rest = IsPrefixIn least text prefix rest

    minus : Reads Prefix
    minus = this_or Minus (after_prefix (codes "-") text) None

    both : Reads Prefix
    both = this_or Plus (after_prefix (codes "+") text) minus

    sign : Reads Prefix
    sign = if nat_le least 5 then both else None

    signs : Each P sign
    signs = each_if P (nat_le least 5) both None
        (λ low. each_this_or P Plus (after_prefix (codes "+") text) minus
        (λ rest e. (prefix_is (codes "+") text rest e, omega (arith, prefix_shorter (codes "+") text rest e), leb-true least 5 low))
        (each_this_or P Minus (after_prefix (codes "-") text) None
        (λ rest e. (prefix_is (codes "-") text rest e, omega (arith, prefix_shorter (codes "-") text rest e), leb-true least 5 low)) tt))
        (λ high. tt)

-- ---- runs of characters of one kind

module _ (p : ℕ → Bool) where
  pub run_grows : (c : ℕ) (text : List ℕ) → p c ≡ true → take_while p (c ∷ text) ≡ c ∷ take_while p text
  run_grows c text h = take_while-cons p c text ∙ ap (λ b. cond b (c ∷ take_while p text) []) h

  pub run_ends : (c : ℕ) (text : List ℕ) → p c ≡ false → take_while p (c ∷ text) ≡ []
  run_ends c text h = take_while-cons p c text ∙ ap (λ b. cond b (c ∷ take_while p text) []) h

  -- a run is of its kind, and what is dropped for it is the rest
  pub run_of_kind : (text : List ℕ) → list_all p (take_while p text) ≡ true
  run_of_kind [] = refl
  run_of_kind (c ∷ text) = here (p c) refl (run_of_kind text)
    where
      here : (b : Bool) → p c ≡ b → list_all p (take_while p text) ≡ true → list_all p (take_while p (c ∷ text)) ≡ true
      here true e ih = ap (list_all p) (run_grows c text e) ∙ and_from (p c) (list_all p (take_while p text)) e ih
      here false e ih = ap (list_all p) (run_ends c text e)

  pub run_and_rest : (text : List ℕ) → take_while p text ++ drop (length (take_while p text)) text ≡ text
  run_and_rest [] = refl
  run_and_rest (c ∷ text) = here (p c) refl (run_and_rest text)
    where
      Q : List ℕ → Type 0
      Q run = run ++ drop (length run) (c ∷ text) ≡ c ∷ text

      here : (b : Bool) → p c ≡ b → take_while p text ++ drop (length (take_while p text)) text ≡ text → Q (take_while p (c ∷ text))
      here true e ih = subst Q (sym (run_grows c text e)) (ap (λ (rest : List ℕ). c ∷ rest) ih)
      here false e ih = subst Q (sym (run_ends c text e)) refl

  -- a whole run before what doesn't go on with it
  pub whole_run : (run text : List ℕ) → list_all p run ≡ true → take_while p text ≡ [] → take_while p (run ++ text) ≡ run
  whole_run [] text all ends = ends
  whole_run (c ∷ run) text all ends =
      let both = and_parts (p c) (list_all p run) all in
      run_grows c (run ++ text) both.0 ∙ ap (λ (rest : List ℕ). c ∷ rest) (whole_run run text both.1 ends)

pub drop_prefix : (run text : List ℕ) → drop (length run) (run ++ text) ≡ text
drop_prefix [] text = refl
drop_prefix (c ∷ run) text = drop_prefix run text

pub run_shorter : (p : ℕ → Bool) (c : ℕ) (text : List ℕ) → p c ≡ true → length (drop (length (take_while p (c ∷ text))) (c ∷ text)) < length (c ∷ text)
run_shorter p c text h =
    let some : length (take_while p (c ∷ text)) ≡ suc (length (take_while p text)) = ap length (run_grows p c text h) in
    omega (arith, length-drop (length (take_while p (c ∷ text))) (c ∷ text))

-- ---- logical constants

abbrev pub IsTruthIn : List ℕ → Written → List ℕ → Type 0
IsTruthIn text w rest = IsGrammatical w × (level w ≡ 8) × (spelling w ++ rest ≡ text) × (length rest < length text)

pub truth_prefix : (text : List ℕ) → Each (λ w rest. IsTruthIn text w rest) (truth_at text)
truth_prefix text =
    each_this_or P (Written.truth true) (after_prefix (codes ".TRUE.") text) others
    (λ rest e. (tt, refl, prefix_is (codes ".TRUE.") text rest e, omega (arith, prefix_shorter (codes ".TRUE.") text rest e)))
    (each_this_or P (Written.truth false) (after_prefix (codes ".FALSE.") text) None
    (λ rest e. (tt, refl, prefix_is (codes ".FALSE.") text rest e, omega (arith, prefix_shorter (codes ".FALSE.") text rest e))) tt)
  where
    P : Written → List ℕ → Type 0
    P w rest = IsTruthIn text w rest

    others : Reads Written
    others = this_or (Written.truth false) (after_prefix (codes ".FALSE.") text) None
