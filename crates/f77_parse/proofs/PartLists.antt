-- Lists of items with commas between them, between brackets or not, for any reader of items.
use Rattle.std.proofs.Common.{◌≡◌, ◌==◌, ℕ, zero, suc, ◌≤◌, Bool, true, false, not, ◌&&◌, List, [], ◌∷◌, ◌++◌, length, map, codes, All, Option, Some, None, if◌then◌else◌, refl, sym, ap, ◌∙◌, arith, append_assoc, append-nil, length-append}
use Rattle.std.proofs.lemmas.Bool.{not-true, eqb-true, and_parts, and_from}
use Rattle.std.proofs.lemmas.List.Elements.{All-nil, All-cons}
use Rattle.std.specs.List.{list_all}
use Rattle.f77_tree.specs.StatementGrammar.{with_commas, in_brackets, bracketed_list, after_commas}
use Rattle.f77_expr.specs.Reader.{Reads, read_as, and_then_read}
use Rattle.f77_expr.proofs.EachRead.{Each, each_if, each_then, each_as, each_weaker, if_false}
use Rattle.f77_parse.specs.Parts.{then_prefix, after_comma, more_listed, listed, list_at, bracketed_at, bracketed_or_none}
use Rattle.f77_parse.proofs.Followers.{not_at_start, ends_list, IsAtStart, Every, IsListed}
use Rattle.f77_parse.proofs.PartReaders.{after_sound, then_prefix_sound, not_at_start_in, brackets_prefix}

-- ---- what holds of each item

module _ {A : Type 0} (Fits : A → Type 0) where
  pub every_all : (xs : List A) → Every Fits xs → All Fits xs
  every_all [] h = All-nil Fits
  every_all (x ∷ xs) h = All-cons Fits x xs h.0 (every_all xs h.1)

  pub all_every : (xs : List A) → All Fits xs → Every Fits xs
  all_every [] h = tt
  all_every (x ∷ xs) h = (h 0 x (omega arith), all_every xs (λ k d below. h (suc k) d (omega arith)))

module _ {A : Type 0} (p : A → Bool) where
  pub every_pass : (xs : List A) → Every (λ a. p a ≡ true) xs → list_all p xs ≡ true
  every_pass [] h = refl
  every_pass (x ∷ xs) h = and_from (p x) (list_all p xs) h.0 (every_pass xs h.1)

  pub pass_every : (xs : List A) → list_all p xs ≡ true → Every (λ a. p a ≡ true) xs
  pass_every [] h = tt
  pass_every (x ∷ xs) h = let both = and_parts (p x) (list_all p xs) h in (both.0, pass_every xs both.1)

-- ---- commas

comma_prefix : (rest next : List ℕ) → after_comma rest ≡ Some next → 44 ∷ next ≡ rest
comma_prefix [] next e = absurd cc
comma_prefix (c ∷ []) next e = here (c == 44) refl e
  where
    here : (b : Bool) → (c == 44) ≡ b → ◌≡◌ {A = Option (List ℕ)} (if b then Some [] else None) (Some next) → 44 ∷ next ≡ c ∷ []
    here true test h = let same : c ≡ 44 = eqb-true c 44 test in cc
    here false test h = absurd cc
comma_prefix (c ∷ d ∷ text) next e = here ((c == 44) && not (d == 47)) refl e
  where
    here : (b : Bool) → ((c == 44) && not (d == 47)) ≡ b → ◌≡◌ {A = Option (List ℕ)} (if b then Some (d ∷ text) else None) (Some next) → 44 ∷ next ≡ c ∷ d ∷ text
    here true test h = let same : c ≡ 44 = eqb-true c 44 (and_parts (c == 44) (not (d == 47)) test).0 in cc
    here false test h = absurd cc

comma_none : (rest : List ℕ) → ends_list rest ≡ true → after_comma rest ≡ None
comma_none [] h = refl
comma_none (c ∷ []) h = alone (c == 44) h
  where
    alone : (b : Bool) → not (b && true) ≡ true → ◌≡◌ {A = Option (List ℕ)} (if b then Some [] else None) None
    alone true e = absurd cc
    alone false e = refl
comma_none (c ∷ d ∷ text) h = if_false ((c == 44) && not (d == 47)) (Some (d ∷ text)) None (not-true ((c == 44) && not (d == 47)) h)

comma_some : (next : List ℕ) → not_at_start 47 next ≡ true → after_comma (44 ∷ next) ≡ Some next
comma_some [] h = refl
comma_some (d ∷ text) h = ap (λ (b : Bool). if b then Some (d ∷ text) else None) h

-- a comma before each item is one before them all
pub after_commas_is : (text : List ℕ) (more : List (List ℕ)) → after_commas (text ∷ more) ≡ codes "," ++ with_commas (text ∷ more)
after_commas_is text [] = append-nil _
after_commas_is text (next ∷ more) =
    ap (λ (rest : List ℕ). (44 ∷ text) ++ rest) (after_commas_is next more) ∙ ap (λ (rest : List ℕ). 44 ∷ rest) (sym (append_assoc text (codes ",") (with_commas (next ∷ more))))

-- ---- lists

module _ {A : Type 0} {item : List ℕ → Reads A} {to_text : A → List ℕ} {Fits : A → Type 0} {follows : List ℕ → Bool} (r : IsListed item to_text Fits follows) where
  abbrev list_text : List A → List ℕ
  list_text items = with_commas (map to_text items)

  abbrev IsList : List A → Type 0
  IsList items = (1 ≤ length items) × Every Fits items

  abbrev IsListIn : List ℕ → List A → List ℕ → Type 0
  IsListIn text items rest = IsAtStart IsList list_text text items rest

  -- one item and others after it
  commas_prefix : (a : A) (others : List A) (rest : List ℕ) → 1 ≤ length others → list_text (a ∷ others) ++ rest ≡ to_text a ++ (44 ∷ (list_text others ++ rest))
  commas_prefix a [] rest some = absurd (omega arith)
  commas_prefix a (b ∷ more) rest some = simp append_assoc

  more_listed_sound : (more : List ℕ → Reads (List A)) → ((next : List ℕ) → Each (λ items rest. IsListIn next items rest) (more next)) → (text : List ℕ) (a : A) (rest : List ℕ) → IsAtStart Fits to_text text a rest → (o : Option (List ℕ)) → after_comma rest ≡ o → Each (λ items tail. IsListIn text items tail) (more_listed more a rest o)
  more_listed_sound more sound text a rest is None e = ((omega arith, (is.0, tt)), is.1)
  more_listed_sound more sound text a rest is (Some next) e =
      each_as (λ items tail. IsListIn next items tail) (λ items tail. IsListIn text items tail) (λ others. a ∷ others) (more next) (sound next)
      (λ others tail h. ((omega arith, (is.0, h.0.1)), commas_prefix a others tail h.0.0 ∙ ap (λ after_it. to_text a ++ (44 ∷ after_it)) h.1 ∙ ap (λ after_it. to_text a ++ after_it) (comma_prefix rest next e) ∙ is.1))

  listed_sound : (n : ℕ) (text : List ℕ) → Each (λ items rest. IsListIn text items rest) (listed n item text)
  listed_sound zero text = tt
  listed_sound (suc n) text =
      each_then (λ a rest. IsAtStart Fits to_text text a rest) (λ items rest. IsListIn text items rest) (λ a rest. more_listed (λ next. listed n item next) a rest (after_comma rest)) (item text) (r.sound text)
      (λ a rest is. more_listed_sound (λ next. listed n item next) (λ next. listed_sound n next) text a rest is (after_comma rest) refl)

  -- one or more items with commas between them
  pub list_sound : (text : List ℕ) → Each (λ items rest. IsAtStart (λ items. (1 ≤ length items) × Every Fits items) (λ items. with_commas (map to_text items)) text items rest) (list_at item text)
  list_sound text = listed_sound (suc (length text)) text

  -- a list begins as its items do
  pub list_prefix : (prefix : List ℕ → Bool) → ((a : A) (rest : List ℕ) → Fits a → prefix (to_text a ++ rest) ≡ true) → (items : List A) (rest : List ℕ) → 1 ≤ length items → Every Fits items → prefix (with_commas (map to_text items) ++ rest) ≡ true
  list_prefix prefix each [] rest some fit = absurd (omega arith)
  list_prefix prefix each (a ∷ []) rest some fit = each a rest fit.0
  list_prefix prefix each (a ∷ b ∷ more) rest some fit = ap prefix (commas_prefix a (b ∷ more) rest (omega arith)) ∙ each a (44 ∷ (list_text (b ∷ more) ++ rest)) fit.0

  -- a list has no more items than one more than characters
  few_items : (items : List A) (rest : List ℕ) → length items ≤ suc (length (list_text items ++ rest))
  few_items [] rest = omega arith
  few_items (a ∷ []) rest = omega arith
  few_items (a ∷ b ∷ more) rest =
      let others : List ℕ = list_text (b ∷ more) ++ rest in
      omega (arith, few_items (b ∷ more) rest, ap length (commas_prefix a (b ∷ more) rest (omega arith)), length-append (to_text a) (44 ∷ others))

  listed_reads : (n : ℕ) (items : List A) (rest : List ℕ) → length items ≤ n → IsList items → follows rest ≡ true → ends_list rest ≡ true → listed n item (list_text items ++ rest) ≡ Some (items, rest)
  listed_reads n [] rest few is follow ends = absurd (omega (arith, is.0))
  listed_reads zero (a ∷ more) rest few is follow ends = absurd (omega arith)
  listed_reads (suc n) (a ∷ []) rest few is follow ends =
      ap (and_then_read (λ b tail. more_listed (λ next. listed n item next) b tail (after_comma tail))) (r.reads a rest is.1.0 follow)
      ∙ ap (more_listed (λ next. listed n item next) a rest) (comma_none rest ends)
  listed_reads (suc n) (a ∷ b ∷ more) rest few is follow ends =
      let others : List ℕ = list_text (b ∷ more) ++ rest in
      ap (listed (suc n) item) (commas_prefix a (b ∷ more) rest (omega arith))
      ∙ ap (and_then_read (λ b tail. more_listed (λ next. listed n item next) b tail (after_comma tail))) (r.reads a (44 ∷ others) is.1.0 (r.comma others))
      ∙ ap (more_listed (λ next. listed n item next) a (44 ∷ others)) (comma_some others (list_prefix (not_at_start 47) r.no_stroke (b ∷ more) rest (omega arith) is.1.1))
      ∙ ap (read_as (λ items. a ∷ items)) (listed_reads n (b ∷ more) rest (omega arith) (omega arith, is.1.1) follow ends)

  pub list_reads : (items : List A) (rest : List ℕ) → 1 ≤ length items → Every Fits items → follows rest ≡ true → ends_list rest ≡ true → list_at item (with_commas (map to_text items) ++ rest) ≡ Some (items, rest)
  list_reads items rest some fit follow ends = listed_reads (suc (length (list_text items ++ rest))) items rest (few_items items rest) (some, fit) follow ends

  -- between brackets
  pub bracketed_sound : (text : List ℕ) → Each (λ items rest. IsAtStart (λ items. (1 ≤ length items) × Every Fits items) (λ items. in_brackets (with_commas (map to_text items))) text items rest) (bracketed_at item text)
  bracketed_sound text =
      after_sound P (codes "(") (λ inside. then_prefix (codes ")") (list_at item inside)) text
      (λ inside e. then_prefix_sound P (λ items rest. IsListIn inside items rest) (codes ")") (list_at item inside) (list_sound inside)
      (λ items rest is. (is.0, brackets_prefix (list_text items) rest ∙ ap (λ (more : List ℕ). 40 ∷ more) is.1 ∙ e)))
    where
      P : List A → List ℕ → Type 0
      P items rest = IsAtStart IsList (λ items. in_brackets (with_commas (map to_text items))) text items rest

  pub bracketed_reads : (items : List A) (rest : List ℕ) → 1 ≤ length items → Every Fits items → bracketed_at item (in_brackets (with_commas (map to_text items)) ++ rest) ≡ Some (items, rest)
  bracketed_reads items rest some fit =
      ap (bracketed_at item) (brackets_prefix (list_text items) rest)
      ∙ ap (then_prefix (codes ")")) (list_reads items (41 ∷ rest) some fit (r.bracket rest) refl)

  bracketed_some : (items : List A) (rest : List ℕ) → 1 ≤ length items → bracketed_list (map to_text items) ++ rest ≡ in_brackets (list_text items) ++ rest
  bracketed_some [] rest some = absurd (omega arith)
  bracketed_some (a ∷ more) rest some = refl

  -- between brackets, or none
  pub bracketed_or_none_sound : (text : List ℕ) → Each (λ items rest. IsAtStart (λ items. Every Fits items) (λ items. bracketed_list (map to_text items)) text items rest) (bracketed_or_none item text)
  bracketed_or_none_sound [] = (tt, refl)
  bracketed_or_none_sound (c ∷ text) =
      each_if Q (c == 40) (bracketed_at item (c ∷ text)) (Some ([], c ∷ text))
      (λ bracket. each_weaker (λ items rest. IsAtStart IsList (λ items. in_brackets (with_commas (map to_text items))) (c ∷ text) items rest) Q (bracketed_at item (c ∷ text))
      (λ items rest is. (is.0.1, bracketed_some items rest is.0.0 ∙ is.1)) (bracketed_sound (c ∷ text)))
      (λ none. (tt, refl))
    where
      Q : List A → List ℕ → Type 0
      Q items rest = IsAtStart (λ items. Every Fits items) (λ items. bracketed_list (map to_text items)) (c ∷ text) items rest

  pub bracketed_or_none_reads : (items : List A) (rest : List ℕ) → Every Fits items → not_at_start 40 rest ≡ true → bracketed_or_none item (bracketed_list (map to_text items) ++ rest) ≡ Some (items, rest)
  bracketed_or_none_reads [] [] fit none = refl
  bracketed_or_none_reads [] (c ∷ rest) fit none = if_false (c == 40) (bracketed_at item (c ∷ rest)) (Some ([], c ∷ rest)) (not_at_start_in 40 c rest none)
  bracketed_or_none_reads (a ∷ more) rest fit none = bracketed_reads (a ∷ more) rest (omega arith) fit

  -- ---- with what holds of each item in the words of lists

  pub list_all_sound : (text : List ℕ) → Each (λ items rest. IsAtStart (λ items. (1 ≤ length items) × All Fits items) (λ items. with_commas (map to_text items)) text items rest) (list_at item text)
  list_all_sound text =
      each_weaker (λ items rest. IsListIn text items rest) (λ items rest. IsAtStart (λ items. (1 ≤ length items) × All Fits items) list_text text items rest) (list_at item text)
      (λ items rest is. ((is.0.0, every_all Fits items is.0.1), is.1)) (list_sound text)

  pub list_all_reads : (items : List A) (rest : List ℕ) → 1 ≤ length items → All Fits items → follows rest ≡ true → ends_list rest ≡ true → list_at item (with_commas (map to_text items) ++ rest) ≡ Some (items, rest)
  list_all_reads items rest some fit follow ends = list_reads items rest some (all_every Fits items fit) follow ends

module _ {A : Type 0} {item : List ℕ → Reads A} {to_text : A → List ℕ} {p : A → Bool} {follows : List ℕ → Bool} (r : IsListed item to_text (λ a. p a ≡ true) follows) where
  pub list_pass_sound : (text : List ℕ) → Each (λ items rest. IsAtStart (λ items. (1 ≤ length items) × (list_all p items ≡ true)) (λ items. with_commas (map to_text items)) text items rest) (list_at item text)
  list_pass_sound text =
      each_weaker (λ items rest. IsAtStart (λ items. (1 ≤ length items) × Every (λ a. p a ≡ true) items) (λ items. with_commas (map to_text items)) text items rest) (λ items rest. IsAtStart (λ items. (1 ≤ length items) × (list_all p items ≡ true)) (λ items. with_commas (map to_text items)) text items rest) (list_at item text)
      (λ items rest is. ((is.0.0, every_pass p items is.0.1), is.1)) (list_sound r text)

  pub list_pass_reads : (items : List A) (rest : List ℕ) → 1 ≤ length items → list_all p items ≡ true → follows rest ≡ true → ends_list rest ≡ true → list_at item (with_commas (map to_text items) ++ rest) ≡ Some (items, rest)
  list_pass_reads items rest some fit follow ends = list_reads r items rest some (pass_every p items fit) follow ends
