-- What is kept of what is read: readers one after another.
use Rattle.std.proofs.Common.{◌≡◌, ◌==◌, ℕ, Bool, true, false, ◌||◌, List, [], ◌∷◌, Option, Some, None, if◌then◌else◌, ⊎_elim, codes, refl, sym, ap, ◌∙◌}
use Rattle.std.specs.Prelude.{not}
use Rattle.std.proofs.lemmas.Bool.{cases_Bool, eqb-true, eq-eqb}
use Rattle.f77_expr.specs.Reader.{Reads, read_as, and_then_read, after_prefix}
use Rattle.f77_expr.proofs.EachRead.{Each}
use Rattle.f77_parse.specs.Parts.{beyond, then_prefix, where_it, comma_at}
use Rattle.f77_parse.specs.Keeping.{Keeps, keep_then, where_prefix, kept_plain, skipped, wanted}
use Rattle.f77_parse.proofs.PartReaders.{flip}

-- what is kept of what was read: its value, and the flag, which goes up where a number in it is out of range
abbrev pub told : {A V : Type 0} → (A → V) → (A → Bool) → Bool → Reads A → Keeps V
told value is_bad bad None = None
told value is_bad bad (Some (a, rest)) = Some (value a, bad || is_bad a, rest)

-- no number is in it
abbrev pub never_bad : {A : Type 0} → A → Bool
never_bad a = false

-- ---- flags

pub or_none : (b : Bool) → (b || false) ≡ b
or_none true = refl
or_none false = refl

-- what changes no flag
pub no_flag : {V : Type 0} (v : V) (bad : Bool) (rest : List ℕ) → ◌≡◌ {A = Keeps V} (Some (v, bad, rest)) (Some (v, bad || false, rest))
no_flag v bad rest = ap (λ (b : Bool). Some (v, b, rest)) (sym (or_none bad))

-- a part after one that has no numbers
pub flag_last : (bad last : Bool) → ((bad || false) || last) ≡ (bad || last)
flag_last bad last = ap (λ (b : Bool). b || last) (or_none bad)

-- a part before one that has none
pub flag_first : (bad first : Bool) → (bad || first) ≡ (bad || (first || false))
flag_first bad first = ap (λ (b : Bool). bad || b) (sym (or_none first))

-- ---- parts one after another

pub plain_told : {A V : Type 0} (f : A → V) (bad : Bool) (x : Reads A) → kept_plain f bad x ≡ told f never_bad bad x
plain_told f bad None = refl
plain_told f bad (Some (a, rest)) = no_flag (f a) bad rest

module _ {A B V W : Type 0} (value : A → V) (is_bad : A → Bool) (bad : Bool) (whole : B → W) (is_bad_whole : B → Bool) (start : Bool) where
  pub then_told : (go : A → List ℕ → Reads B) (next : V → Bool → List ℕ → Keeps W) (x : Reads A) (k : Keeps V) → k ≡ told value is_bad bad x → ((a : A) (rest : List ℕ) → next (value a) (bad || is_bad a) rest ≡ told whole is_bad_whole start (go a rest)) → keep_then k next ≡ told whole is_bad_whole start (and_then_read go x)
  then_told go next None k e on = ap (λ (y : Keeps V). keep_then y next) e
  then_told go next (Some (a, rest)) k e on = ap (λ (y : Keeps V). keep_then y next) e ∙ on a rest

  -- with what holds of each answer
  pub then_each_told : (P : A → List ℕ → Type 0) (go : A → List ℕ → Reads B) (next : V → Bool → List ℕ → Keeps W) (x : Reads A) (k : Keeps V) → k ≡ told value is_bad bad x → Each P x → ((a : A) (rest : List ℕ) → P a rest → next (value a) (bad || is_bad a) rest ≡ told whole is_bad_whole start (go a rest)) → keep_then k next ≡ told whole is_bad_whole start (and_then_read go x)
  then_each_told P go next None k e each on = ap (λ (y : Keeps V). keep_then y next) e
  then_each_told P go next (Some (a, rest)) k e each on = ap (λ (y : Keeps V). keep_then y next) e ∙ on a rest each

  -- what was read, changed
  pub told_as : (f : A → B) (g : V → W) (x : Reads A) → ((a : A) → g (value a) ≡ whole (f a)) → ((a : A) → (bad || is_bad a) ≡ (start || is_bad_whole (f a))) → keep_then (told value is_bad bad x) (λ v bad_now rest. Some (g v, bad_now, rest)) ≡ told whole is_bad_whole start (read_as f x)
  told_as f g None same flag = refl
  told_as f g (Some (a, rest)) same flag = ap (λ (v : W). Some (v, bad || is_bad a, rest)) (same a) ∙ ap (λ (b : Bool). Some (whole (f a), b, rest)) (flag a)

  pub as_told : (f : A → B) (g : V → W) (x : Reads A) (k : Keeps V) → k ≡ told value is_bad bad x → ((a : A) → g (value a) ≡ whole (f a)) → ((a : A) → (bad || is_bad a) ≡ (start || is_bad_whole (f a))) → keep_then k (λ v bad_now rest. Some (g v, bad_now, rest)) ≡ told whole is_bad_whole start (read_as f x)
  as_told f g x k e same flag = ap (λ (y : Keeps V). keep_then y (λ v bad_now rest. Some (g v, bad_now, rest))) e ∙ told_as f g x same flag

  -- what passed a test
  pub where_told : (test : A → Bool) (passes : V → Bool) (f : A → B) (g : V → W) (x : Reads A) (k : Keeps V) → k ≡ told value is_bad bad x → ((a : A) → passes (value a) ≡ test a) → ((a : A) → g (value a) ≡ whole (f a)) → ((a : A) → (bad || is_bad a) ≡ (start || is_bad_whole (f a))) → keep_then k (λ v bad_now rest. if passes v then Some (g v, bad_now, rest) else None) ≡ told whole is_bad_whole start (read_as f (where_it test x))
  where_told test passes f g None k e agree same flag = ap (λ (y : Keeps V). keep_then y (λ v bad_now rest. if passes v then Some (g v, bad_now, rest) else None)) e
  where_told test passes f g (Some (a, rest)) k e agree same flag =
      ap (λ (y : Keeps V). keep_then y (λ v bad_now rest. if passes v then Some (g v, bad_now, rest) else None)) e
      ∙ ap (λ (b : Bool). if b then Some (g (value a), bad || is_bad a, rest) else None) (agree a) ∙ by (test a)
    where
      by : (b : Bool) → (if b then Some (g (value a), bad || is_bad a, rest) else None) ≡ told whole is_bad_whole start (read_as f (if b then Some (a, rest) else None))
      by true = ap (λ (v : W). Some (v, bad || is_bad a, rest)) (same a) ∙ ap (λ (c : Bool). Some (whole (f a), c, rest)) (flag a)
      by false = refl

  -- what failed none
  pub unless_told : (test : A → Bool) (fails : V → Bool) (f : A → B) (g : V → W) (x : Reads A) (k : Keeps V) → k ≡ told value is_bad bad x → ((a : A) → fails (value a) ≡ not (test a)) → ((a : A) → g (value a) ≡ whole (f a)) → ((a : A) → (bad || is_bad a) ≡ (start || is_bad_whole (f a))) → keep_then k (λ v bad_now rest. if fails v then None else Some (g v, bad_now, rest)) ≡ told whole is_bad_whole start (read_as f (where_it test x))
  unless_told test fails f g None k e agree same flag = ap (λ (y : Keeps V). keep_then y (λ v bad_now rest. if fails v then None else Some (g v, bad_now, rest))) e
  unless_told test fails f g (Some (a, rest)) k e agree same flag =
      ap (λ (y : Keeps V). keep_then y (λ v bad_now rest. if fails v then None else Some (g v, bad_now, rest))) e
      ∙ ap (λ (b : Bool). if b then None else Some (g (value a), bad || is_bad a, rest)) (agree a) ∙ by (test a)
    where
      by : (b : Bool) → (if not b then None else Some (g (value a), bad || is_bad a, rest)) ≡ told whole is_bad_whole start (read_as f (if b then Some (a, rest) else None))
      by true = ap (λ (v : W). Some (v, bad || is_bad a, rest)) (same a) ∙ ap (λ (c : Bool). Some (whole (f a), c, rest)) (flag a)
      by false = refl

-- what was changed before what goes on after it
pub then_as : {A B C : Type 0} (go : B → List ℕ → Reads C) (f : A → B) (x : Reads A) → and_then_read go (read_as f x) ≡ and_then_read (λ a rest. go (f a) rest) x
then_as go f None = refl
then_as go f (Some (a, rest)) = refl

pub same_as : {A : Type 0} (x : Reads A) → read_as (λ a. a) x ≡ x
same_as None = refl
same_as (Some (a, rest)) = refl

-- readers one after another, grouped otherwise
pub then_then : {A B C : Type 0} (go : B → List ℕ → Reads C) (f : A → List ℕ → Reads B) (x : Reads A) → and_then_read go (and_then_read f x) ≡ and_then_read (λ a rest. and_then_read go (f a rest)) x
then_then go f None = refl
then_then go f (Some (a, rest)) = refl

pub as_then : {A B C : Type 0} (f : B → C) (go : A → List ℕ → Reads B) (x : Reads A) → read_as f (and_then_read go x) ≡ and_then_read (λ a rest. read_as f (go a rest)) x
as_then f go None = refl
as_then f go (Some (a, rest)) = refl

-- ---- prefixes

module _ {A V : Type 0} (value : A → V) (is_bad : A → Bool) (start : Bool) where
  -- where a prefix stands there, and where it doesn't
  pub prefix_told : (reads : Option (List ℕ) → Reads A) (there : List ℕ → Keeps V) (others : Keeps V) (prefix : Option (List ℕ)) → ((rest : List ℕ) → there rest ≡ told value is_bad start (reads (Some rest))) → others ≡ told value is_bad start (reads None) → where_prefix prefix there others ≡ told value is_bad start (reads prefix)
  prefix_told reads there others None here none = none
  prefix_told reads there others (Some rest) here none = here rest

  -- a prefix that has to stand there
  pub wanted_told : (reads : Option (List ℕ) → Reads A) (next : Unit {0} → Bool → List ℕ → Keeps V) (prefix : List ℕ) (bad : Bool) (text : List ℕ) → reads None ≡ None → ((rest : List ℕ) → next tt bad rest ≡ told value is_bad start (reads (Some rest))) → keep_then (wanted prefix bad text) next ≡ told value is_bad start (reads (after_prefix prefix text))
  unfolding wanted
  wanted_told reads next prefix bad text none here = by (after_prefix prefix text)
    where
      by : (o : Option (List ℕ)) → keep_then (where_prefix o (λ rest. Some (tt, bad, rest)) None) next ≡ told value is_bad start (reads o)
      by None = ap (told value is_bad start) (sym none)
      by (Some rest) = here rest

  pub if_told : (b : Bool) (x y : Reads A) (k l : Keeps V) → k ≡ told value is_bad start x → l ≡ told value is_bad start y → (if b then k else l) ≡ told value is_bad start (if b then x else y)
  if_told true x y k l here others = here
  if_told false x y k l here others = others

  -- what stands before a prefix
  pub then_prefix_told : (prefix : List ℕ) (x : Reads A) (k : Keeps V) → k ≡ told value is_bad start x → keep_then k (λ v bad rest. keep_then (wanted prefix bad rest) (λ found bad_then more. Some (v, bad_then, more))) ≡ told value is_bad start (then_prefix prefix x)
  then_prefix_told prefix x k e =
      then_told value is_bad start value is_bad start (λ a rest. beyond (λ more. Some (a, more)) (after_prefix prefix rest)) (λ v bad rest. keep_then (wanted prefix bad rest) (λ found bad_then more. Some (v, bad_then, more))) x k e
      (λ a rest. wanted_told (λ o. beyond (λ more. Some (a, more)) o) (λ found bad_then more. Some (value a, bad_then, more)) prefix (start || is_bad a) rest refl (λ more. refl))

-- ---- one character

pub eq_flip : (a b : ℕ) → (a == b) ≡ (b == a)
eq_flip a b = ⊎_elim (λ yes. yes ∙ sym (eq-eqb b a (sym (eqb-true a b yes)))) (λ no. no ∙ sym (flip b a no)) (cases_Bool (a == b))

-- a text that begins with a character
pub one_prefix : (c d : ℕ) (text : List ℕ) → after_prefix (c ∷ []) (d ∷ text) ≡ (if d == c then Some text else None)
one_prefix c d text = ap (λ (b : Bool). if b then Some text else None) (eq_flip c d)

module _ {A V : Type 0} (value : A → V) (is_bad : A → Bool) (start : Bool) where
  pub character_told : (c d : ℕ) (text : List ℕ) (x y : Reads A) (there : List ℕ → Keeps V) (others : Keeps V) → there text ≡ told value is_bad start x → others ≡ told value is_bad start y → where_prefix (after_prefix (c ∷ []) (d ∷ text)) there others ≡ told value is_bad start (if d == c then x else y)
  character_told c d text x y there others here none = ap (λ (o : Option (List ℕ)). where_prefix o there others) (one_prefix c d text) ∙ by (d == c)
    where
      by : (b : Bool) → where_prefix (if b then Some text else None) there others ≡ told value is_bad start (if b then x else y)
      by true = here
      by false = none

  pub wanted_character_told : (c d : ℕ) (text : List ℕ) (x : Reads A) (next : Unit {0} → Bool → List ℕ → Keeps V) (bad : Bool) → next tt bad text ≡ told value is_bad start x → keep_then (wanted (c ∷ []) bad (d ∷ text)) next ≡ told value is_bad start (if d == c then x else None)
  unfolding wanted
  wanted_character_told c d text x next bad here = ap (λ (o : Option (List ℕ)). keep_then {V = Unit {0}} (where_prefix o (λ rest. Some (tt, bad, rest)) None) next) (one_prefix c d text) ∙ by (d == c)
    where
      by : (b : Bool) → keep_then {V = Unit {0}} (where_prefix (if b then Some text else None) (λ rest. Some (tt, bad, rest)) None) next ≡ told value is_bad start (if b then x else None)
      by true = here
      by false = refl

-- the comma that may stand before a part
pub skipped_comma : (text : List ℕ) → skipped (after_prefix (codes ",") text) text ≡ (comma_at text).1
skipped_comma [] = refl
skipped_comma (c ∷ text) = ap (λ (o : Option (List ℕ)). skipped o (c ∷ text)) (one_prefix 44 c text) ∙ by (c == 44)
  where
    by : (b : Bool) → skipped (if b then Some text else None) (c ∷ text) ≡ (if◌then◌else◌ {A = Bool × List ℕ} b (true, text) (false, c ∷ text)).1
    by true = refl
    by false = refl
