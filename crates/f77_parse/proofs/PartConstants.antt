-- Constants and values of DATA.
use Rattle.std.proofs.Common.{◌≡◌, ◌==◌, ℕ, Bool, true, false, List, [], ◌∷◌, ◌++◌, codes, Option, Some, None, refl, sym, ap, ◌∙◌, arith}
use Rattle.std.proofs.lemmas.Bool.{and_parts, and_from}
use Rattle.f77_tree.specs.Grammar.{is_number, truth_text}
use Rattle.f77_tree.specs.StatementGrammar.{Sign, signed_text, is_signed, WrittenConstant, constant_text, is_constant, WrittenValue, value_text, is_value}
use Rattle.f77_tree.specs.StatementGrammar.Sign.{No_sign, Plus_sign, Minus_sign}
use Rattle.f77_tree.specs.StatementGrammar.WrittenConstant.{Whole, Logical_value}
use Rattle.f77_expr.specs.Reader.{Reads, read_as, after_prefix, this_or}
use Rattle.f77_expr.proofs.EachRead.{Each, each_if, each_as, each_this_or, if_false}
use Rattle.f77_expr.proofs.Prefixes.{prefix_is}
use Rattle.f77_parse.specs.Parts.{number_at, signed_at, truth_at, constant_at, value_after, value_begun, value_at}
use Rattle.f77_parse.proofs.Followers.{not_at_start, no_figure, ends_value, IsAtStart, IsListed}
use Rattle.f77_parse.proofs.PartReaders.{not_at_start_in, after_none, between}
use Rattle.f77_parse.proofs.PartNumbers.{number_sound, number_reads, number_none, number_not_at_start, signed_sound, signed_reads, signed_not_at_start, signed_no_stroke}

-- ---- constants

truth_sound : (text : List ℕ) → Each (λ b rest. truth_text b ++ rest ≡ text) (truth_at text)
truth_sound text =
    each_this_or P true (after_prefix (codes ".TRUE.") text) (this_or false (after_prefix (codes ".FALSE.") text) None) (λ rest e. prefix_is (codes ".TRUE.") text rest e)
    (each_this_or P false (after_prefix (codes ".FALSE.") text) None (λ rest e. prefix_is (codes ".FALSE.") text rest e) tt)
  where
    P : Bool → List ℕ → Type 0
    P b rest = truth_text b ++ rest ≡ text

pub constant_sound : (text : List ℕ) → Each (λ k rest. IsAtStart (λ k. is_constant k ≡ true) constant_text text k rest) (constant_at text)
constant_sound [] = tt
constant_sound (c ∷ text) =
    each_if P (c == 46) (read_as (λ b. Logical_value b) (truth_at (c ∷ text))) (read_as (λ n. Whole n) (signed_at (c ∷ text)))
    (λ point. each_as (λ b rest. truth_text b ++ rest ≡ c ∷ text) P (λ b. Logical_value b) (truth_at (c ∷ text)) (truth_sound (c ∷ text)) (λ b rest is. (refl, is)))
    (λ none. each_as (λ n rest. IsAtStart (λ n. is_signed n ≡ true) signed_text (c ∷ text) n rest) P (λ n. Whole n) (signed_at (c ∷ text)) (signed_sound (c ∷ text)) (λ n rest is. is))
  where
    P : WrittenConstant → List ℕ → Type 0
    P k rest = IsAtStart (λ k. is_constant k ≡ true) constant_text (c ∷ text) k rest

-- what begins with no point is no logical constant
whole_at : (text : List ℕ) → not_at_start 46 text ≡ true → constant_at text ≡ read_as (λ n. Whole n) (signed_at text)
whole_at [] h = refl
whole_at (c ∷ text) h = if_false (c == 46) (read_as (λ b. Logical_value b) (truth_at (c ∷ text))) (read_as (λ n. Whole n) (signed_at (c ∷ text))) (not_at_start_in 46 c text h)

pub constant_reads : (k : WrittenConstant) (rest : List ℕ) → is_constant k ≡ true → no_figure rest ≡ true → constant_at (constant_text k ++ rest) ≡ Some (k, rest)
constant_reads (Whole n) rest fits follows =
    whole_at (signed_text n ++ rest) (signed_not_at_start 46 n rest fits (omega arith) refl refl) ∙ ap (read_as (λ n. Whole n)) (signed_reads n rest fits follows)
constant_reads (Logical_value true) rest fits follows = refl
constant_reads (Logical_value false) rest fits follows = refl

-- ---- values

pub value_sound : (text : List ℕ) → Each (λ v rest. IsAtStart (λ v. is_value v ≡ true) value_text text v rest) (value_at text)
value_sound text = begun (number_at text) (number_sound text)
  where
    P : WrittenValue → List ℕ → Type 0
    P v rest = IsAtStart (λ v. is_value v ≡ true) value_text text v rest

    Constant : List ℕ → WrittenConstant → List ℕ → Type 0
    Constant inside k rest = IsAtStart (λ k. is_constant k ≡ true) constant_text inside k rest

    here : (digits rest : List ℕ) → IsAtStart (λ digits. is_number digits ≡ true) (λ digits. digits) text digits rest → (o : Option (List ℕ)) → after_prefix (codes "*") rest ≡ o → Each P (value_after digits rest o)
    here digits rest is None e = is
    here digits rest is (Some next) e =
        each_as (Constant next) P (λ constant. record { times = Some digits; constant = constant }) (constant_at next) (constant_sound next)
        (λ k tail h. (
          and_from (is_number digits) (is_constant k) is.0 h.0,
          between digits (codes "*") (constant_text k) tail ∙ ap (λ more. digits ++ (42 ∷ more)) h.1 ∙ ap (λ more. digits ++ more) (prefix_is (codes "*") rest next e) ∙ is.1,
        ))

    begun : (x : Reads (List ℕ)) → Each (λ digits rest. IsAtStart (λ digits. is_number digits ≡ true) (λ digits. digits) text digits rest) x → Each P (value_begun text x)
    begun None h = each_as (Constant text) P (λ constant. record { times = None; constant = constant }) (constant_at text) (constant_sound text) (λ k rest is. is)
    begun (Some (digits, rest)) h = here digits rest h (after_prefix (codes "*") rest) refl

-- a constant that is no number without a sign
alone_reads : (k : WrittenConstant) (c : ℕ) (more rest : List ℕ) → is_constant k ≡ true → no_figure rest ≡ true → constant_text k ++ rest ≡ c ∷ more → number_at (c ∷ more) ≡ None → value_at (constant_text k ++ rest) ≡ Some (record { times = None; constant = k }, rest)
alone_reads k c more rest fits follows is none =
    ap value_at is ∙ ap (value_begun (c ∷ more)) none ∙ ap (λ text. read_as (λ constant. record { times = None; constant = constant }) (constant_at text)) (sym is)
    ∙ ap (read_as (λ constant. record { times = None; constant = constant })) (constant_reads k rest fits follows)

constant_alone : (k : WrittenConstant) (rest : List ℕ) → is_constant k ≡ true → ends_value rest ≡ true → value_at (constant_text k ++ rest) ≡ Some (record { times = None; constant = k }, rest)
constant_alone (Logical_value true) rest fits follows = alone_reads (Logical_value true) 46 (codes "TRUE." ++ rest) rest fits (and_parts (no_figure rest) (not_at_start 42 rest) follows).0 refl (number_none 46 (codes "TRUE." ++ rest) refl)
constant_alone (Logical_value false) rest fits follows = alone_reads (Logical_value false) 46 (codes "FALSE." ++ rest) rest fits (and_parts (no_figure rest) (not_at_start 42 rest) follows).0 refl (number_none 46 (codes "FALSE." ++ rest) refl)
constant_alone (Whole n) rest fits follows = here n.sign
  where
    made : Sign → WrittenConstant
    made sign = Whole (record { sign = sign; digits = n.digits })

    ends : (no_figure rest ≡ true) × (not_at_start 42 rest ≡ true)
    ends = and_parts (no_figure rest) (not_at_start 42 rest) follows

    here : (sign : Sign) → value_at (constant_text (made sign) ++ rest) ≡ Some (record { times = None; constant = made sign }, rest)
    here No_sign =
        ap (value_begun (n.digits ++ rest)) (number_reads n.digits rest fits ends.0)
        ∙ ap (value_after n.digits rest) (after_none 42 [] rest ends.1)
    here Plus_sign = alone_reads (made Plus_sign) 43 (n.digits ++ rest) rest fits ends.0 refl (number_none 43 (n.digits ++ rest) refl)
    here Minus_sign = alone_reads (made Minus_sign) 45 (n.digits ++ rest) rest fits ends.0 refl (number_none 45 (n.digits ++ rest) refl)

pub value_reads : (v : WrittenValue) (rest : List ℕ) → is_value v ≡ true → ends_value rest ≡ true → value_at (value_text v ++ rest) ≡ Some (v, rest)
value_reads v rest fits follows = here v.times fits
  where
    made : Option (List ℕ) → WrittenValue
    made times = record { times = times; constant = v.constant }

    here : (times : Option (List ℕ)) → is_value (made times) ≡ true → value_at (value_text (made times) ++ rest) ≡ Some (made times, rest)
    here None fit = constant_alone v.constant rest fit follows
    here (Some digits) fit =
        let both = and_parts (is_number digits) (is_constant v.constant) fit in
        let beyond : List ℕ = 42 ∷ (constant_text v.constant ++ rest) in
        ap value_at (between digits (codes "*") (constant_text v.constant) rest)
        ∙ ap (value_begun (digits ++ beyond)) (number_reads digits beyond both.0 refl)
        ∙ ap (read_as (λ constant. record { times = Some digits; constant = constant })) (constant_reads v.constant rest both.1 (and_parts (no_figure rest) (not_at_start 42 rest) follows).0)

constant_no_stroke : (k : WrittenConstant) (rest : List ℕ) → is_constant k ≡ true → not_at_start 47 (constant_text k ++ rest) ≡ true
constant_no_stroke (Whole n) rest fits = signed_no_stroke n rest fits
constant_no_stroke (Logical_value true) rest fits = refl
constant_no_stroke (Logical_value false) rest fits = refl

value_no_stroke : (v : WrittenValue) (rest : List ℕ) → is_value v ≡ true → not_at_start 47 (value_text v ++ rest) ≡ true
value_no_stroke v rest fits = here v.times fits
  where
    made : Option (List ℕ) → WrittenValue
    made times = record { times = times; constant = v.constant }

    here : (times : Option (List ℕ)) → is_value (made times) ≡ true → not_at_start 47 (value_text (made times) ++ rest) ≡ true
    here None fit = constant_no_stroke v.constant rest fit
    here (Some digits) fit =
        ap (not_at_start 47) (between digits (codes "*") (constant_text v.constant) rest)
        ∙ number_not_at_start 47 digits (42 ∷ (constant_text v.constant ++ rest)) (and_parts (is_number digits) (is_constant v.constant) fit).0 (omega arith)

pub value_listed : IsListed value_at value_text (λ v. is_value v ≡ true) ends_value
value_listed = record {
  sound = value_sound;
  reads = value_reads;
  comma = λ more. refl;
  bracket = λ more. refl;
  no_stroke = value_no_stroke;
}
