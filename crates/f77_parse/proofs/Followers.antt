-- What may stand after the parts of statements, and what holds of a part that was read.
use Rattle.std.proofs.Common.{◌≡◌, ◌==◌, ℕ, Bool, true, false, not, ◌&&◌, List, [], ◌∷◌, ◌++◌, Some, refl}
use Rattle.f77_tree.specs.Name.{is_capital, is_figure}
use Rattle.f77_expr.specs.Reader.{Reads, is_symbolic}
use Rattle.f77_expr.proofs.EachRead.{Each}
use Rattle.f77_expr.proofs.Followers.{breaks_off}

-- ---- what may follow, by the first characters of what stands after

-- no such character first
abbrev pub not_at_start : ℕ → List ℕ → Bool
not_at_start c [] = true
not_at_start c (d ∷ more) = not (d == c)

-- no digit first: after a number
abbrev pub no_figure : List ℕ → Bool
no_figure [] = true
no_figure (c ∷ more) = not (is_figure c)

-- no letter and no digit first: after a name alone
abbrev pub no_symbol : List ℕ → Bool
no_symbol [] = true
no_symbol (c ∷ more) = not (is_symbolic c)

-- after a dimension: no digit and no colon
abbrev pub ends_dim : List ℕ → Bool
ends_dim text = no_figure text && not_at_start 58 text

-- after a value of DATA: no digit and no asterisk
abbrev pub ends_value : List ℕ → Bool
ends_value text = no_figure text && not_at_start 42 text

-- after a list: no comma, but for one before a stroke
abbrev pub ends_list : List ℕ → Bool
ends_list [] = true
ends_list (c ∷ more) = not ((c == 44) && not_at_start 47 more)

-- after declarators
abbrev pub ends_decls : List ℕ → Bool
ends_decls text = breaks_off text && ends_list text

-- anything
abbrev pub anything : List ℕ → Bool
anything text = true

-- ---- what comes first

-- some character first, but not this one
abbrev pub other_prefix : ℕ → List ℕ → Bool
other_prefix k [] = false
other_prefix k (c ∷ more) = not (c == k)

-- a digit first
abbrev pub figure_prefix : List ℕ → Bool
figure_prefix [] = false
figure_prefix (c ∷ more) = is_figure c

-- a letter first
abbrev pub capital_prefix : List ℕ → Bool
capital_prefix [] = false
capital_prefix (c ∷ more) = is_capital c

pub other_not_at_start : (k : ℕ) (text : List ℕ) → other_prefix k text ≡ true → not_at_start k text ≡ true
other_not_at_start k [] h = refl
other_not_at_start k (c ∷ more) h = h

-- ---- parts that were read

-- a part fits its grammar, and its text stands before the rest
abbrev pub IsAtStart : {A : Type 0} → (A → Type 0) → (A → List ℕ) → List ℕ → A → List ℕ → Type 0
IsAtStart Fits to_text text a rest = Fits a × (to_text a ++ rest ≡ text)

-- what holds of each item of a list
abbrev pub Every : {A : Type 0} → (A → Type 0) → List A → Type 0
Every Fits [] = Unit {0}
Every Fits (a ∷ more) = Fits a × Every Fits more

-- a reader of items that may stand in a list
pub record IsListed {A : Type 0} (item : List ℕ → Reads A) (to_text : A → List ℕ) (Fits : A → Type 0) (follows : List ℕ → Bool) : Type 0 where
  -- what is read fits, before the rest
  pub sound : (text : List ℕ) → Each (λ a rest. IsAtStart Fits to_text text a rest) (item text)
  -- what fits is read, before what may follow
  pub reads : (a : A) (rest : List ℕ) → Fits a → follows rest ≡ true → item (to_text a ++ rest) ≡ Some (a, rest)
  -- a comma and a closing bracket may follow
  pub comma : (more : List ℕ) → follows (44 ∷ more) ≡ true
  pub bracket : (more : List ℕ) → follows (41 ∷ more) ≡ true
  -- none begins with a stroke
  pub no_stroke : (a : A) (rest : List ℕ) → Fits a → not_at_start 47 (to_text a ++ rest) ≡ true
