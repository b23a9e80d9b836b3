-- Dimensions, declarators, ranges of letters, and letters with their kind.
use Rattle.std.proofs.Common.{◌≡◌, ℕ, ◌≤◌, Bool, true, ◌&&◌, List, [], ◌∷◌, ◌++◌, length, map, flat_map, codes, All, Option, Some, None, nat_le, refl, sym, ap, ◌∙◌, arith, append_assoc}
use Rattle.std.proofs.lemmas.Bool.{and_parts, and_from, leb-true, le-leb}
use Rattle.std.proofs.lemmas.List.Folds.{list_all-append}
use Rattle.std.specs.List.{list_all}
use Rattle.f77_tree.specs.Name.{is_name}
use Rattle.f77_tree.specs.StatementGrammar.{SignedDigits, signed_text, is_signed, WrittenDim, dim_text, dim_numbers, bracketed_list, WrittenDecl, decl_text, decls_text, IsDecl}
use Rattle.f77_expr.specs.Reader.{Reads, read_as, and_then_read, after_prefix}
use Rattle.f77_expr.proofs.EachRead.{Each, each_then, each_as}
use Rattle.f77_expr.proofs.Prefixes.{prefix_is}
use Rattle.f77_expr.proofs.Followers.{breaks_off}
use Rattle.f77_parse.specs.Parts.{where_it, name_at, signed_at, list_at, bracketed_or_none, dim_after, dim_at, decl_at}
use Rattle.f77_parse.proofs.Followers.{not_at_start, no_figure, no_symbol, ends_dim, ends_list, ends_decls, IsAtStart, Every, IsListed}
use Rattle.f77_parse.proofs.PartReaders.{where_sound, where_reads, after_none, between}
use Rattle.f77_parse.proofs.PartLists.{bracketed_or_none_sound, bracketed_or_none_reads, list_all_sound, list_all_reads}
use Rattle.f77_parse.proofs.PartNumbers.{name_not_at_start, breaks_symbol, breaks_bracket, name_sound, name_reads, signed_sound, signed_reads, signed_no_stroke}

-- ---- dimensions

abbrev pub is_dim : WrittenDim → Bool
is_dim d = list_all is_signed (dim_numbers d)

pub dim_sound : (text : List ℕ) → Each (λ d rest. IsAtStart (λ d. is_dim d ≡ true) dim_text text d rest) (dim_at text)
dim_sound text =
    each_then (λ n rest. IsAtStart (λ n. is_signed n ≡ true) signed_text text n rest) P (λ first rest. dim_after first rest (after_prefix (codes ":") rest)) (signed_at text) (signed_sound text)
    (λ first rest is. here first rest is (after_prefix (codes ":") rest) refl)
  where
    P : WrittenDim → List ℕ → Type 0
    P d rest = IsAtStart (λ d. is_dim d ≡ true) dim_text text d rest

    here : (first : SignedDigits) (rest : List ℕ) → IsAtStart (λ n. is_signed n ≡ true) signed_text text first rest → (o : Option (List ℕ)) → after_prefix (codes ":") rest ≡ o → Each P (dim_after first rest o)
    here first rest is None e = (and_from (is_signed first) true is.0 refl, is.1)
    here first rest is (Some next) e =
        each_as (λ n tail. IsAtStart (λ n. is_signed n ≡ true) signed_text next n tail) P (λ high. record { low = Some first; high = high }) (signed_at next) (signed_sound next)
        (λ high tail h. (
          and_from (is_signed first) (is_signed high && true) is.0 (and_from (is_signed high) true h.0 refl),
          between (signed_text first) (codes ":") (signed_text high) tail ∙ ap (λ more. signed_text first ++ (58 ∷ more)) h.1 ∙ ap (λ more. signed_text first ++ more) (prefix_is (codes ":") rest next e) ∙ is.1,
        ))

pub dim_reads : (d : WrittenDim) (rest : List ℕ) → is_dim d ≡ true → ends_dim rest ≡ true → dim_at (dim_text d ++ rest) ≡ Some (d, rest)
dim_reads d rest fits follows = here d.low fits
  where
    made : Option SignedDigits → WrittenDim
    made low = record { low = low; high = d.high }

    ends : (no_figure rest ≡ true) × (not_at_start 58 rest ≡ true)
    ends = and_parts (no_figure rest) (not_at_start 58 rest) follows

    go : SignedDigits → List ℕ → Reads WrittenDim
    go first rest = dim_after first rest (after_prefix (codes ":") rest)

    here : (low : Option SignedDigits) → is_dim (made low) ≡ true → dim_at (dim_text (made low) ++ rest) ≡ Some (made low, rest)
    here None fit =
        ap (and_then_read go) (signed_reads d.high rest (and_parts (is_signed d.high) true fit).0 ends.0)
        ∙ ap (dim_after d.high rest) (after_none 58 [] rest ends.1)
    here (Some first) fit =
        let both = and_parts (is_signed first) (is_signed d.high && true) fit in
        ap dim_at (between (signed_text first) (codes ":") (signed_text d.high) rest)
        ∙ ap (and_then_read go) (signed_reads first (58 ∷ (signed_text d.high ++ rest)) both.0 refl)
        ∙ ap (read_as (λ high. record { low = Some first; high = high })) (signed_reads d.high rest (and_parts (is_signed d.high) true both.1).0 ends.0)

dim_no_stroke : (d : WrittenDim) (rest : List ℕ) → is_dim d ≡ true → not_at_start 47 (dim_text d ++ rest) ≡ true
dim_no_stroke d rest fits = here d.low fits
  where
    made : Option SignedDigits → WrittenDim
    made low = record { low = low; high = d.high }

    here : (low : Option SignedDigits) → is_dim (made low) ≡ true → not_at_start 47 (dim_text (made low) ++ rest) ≡ true
    here None fit = signed_no_stroke d.high rest (and_parts (is_signed d.high) true fit).0
    here (Some first) fit = ap (not_at_start 47) (between (signed_text first) (codes ":") (signed_text d.high) rest) ∙ signed_no_stroke first (58 ∷ (signed_text d.high ++ rest)) (and_parts (is_signed first) (is_signed d.high && true) fit).0

pub dim_listed : IsListed dim_at dim_text (λ d. is_dim d ≡ true) ends_dim
dim_listed = record {
  sound = dim_sound;
  reads = dim_reads;
  comma = λ more. refl;
  bracket = λ more. refl;
  no_stroke = dim_no_stroke;
}

-- ---- declarators

-- what passes in all lists passes in them one after another
all_flat : {A B : Type 0} (p : B → Bool) (f : A → List B) (xs : List A) → Every (λ a. list_all p (f a) ≡ true) xs → list_all p (flat_map f xs) ≡ true
all_flat p f [] h = refl
all_flat p f (x ∷ xs) h = list_all-append p (f x) (flat_map f xs) ∙ and_from (list_all p (f x)) (list_all p (flat_map f xs)) h.0 (all_flat p f xs h.1)

flat_all : {A B : Type 0} (p : B → Bool) (f : A → List B) (xs : List A) → list_all p (flat_map f xs) ≡ true → Every (λ a. list_all p (f a) ≡ true) xs
flat_all p f [] h = tt
flat_all p f (x ∷ xs) h =
    let both = and_parts (list_all p (f x)) (list_all p (flat_map f xs)) (sym (list_all-append p (f x) (flat_map f xs)) ∙ h) in
    (both.0, flat_all p f xs both.1)

-- brackets after a name, or what may stand after it
pub name_ends : (texts : List (List ℕ)) (rest : List ℕ) → breaks_off rest ≡ true → no_symbol (bracketed_list texts ++ rest) ≡ true
name_ends [] rest h = breaks_symbol rest h
name_ends (text ∷ more) rest h = refl

abbrev few_dims : List WrittenDim → Bool
few_dims dims = nat_le (length dims) 7

pub decl_sound : (text : List ℕ) → Each (λ d rest. IsAtStart IsDecl decl_text text d rest) (decl_at text)
decl_sound text =
    each_then (λ name rest. IsAtStart (λ name. is_name name ≡ true) (λ name. name) text name rest) P
    (λ name rest. read_as (λ dims. record { name = name; dims = dims }) (where_it few_dims (bracketed_or_none dim_at rest))) (name_at text) (name_sound text)
    (λ name rest is. each_as (λ dims tail. Dims rest dims tail × (few_dims dims ≡ true)) P (λ dims. record { name = name; dims = dims }) (where_it few_dims (bracketed_or_none dim_at rest))
    (where_sound (Dims rest) few_dims (bracketed_or_none dim_at rest) (bracketed_or_none_sound dim_listed rest))
    (λ dims tail h. (
      record { symbolic = is.0; few = leb-true (length dims) 7 h.1; numbers = all_flat is_signed dim_numbers dims h.0.0 },
      append_assoc name (bracketed_list (map dim_text dims)) tail ∙ ap (λ more. name ++ more) h.0.1 ∙ is.1,
    )))
  where
    P : WrittenDecl → List ℕ → Type 0
    P d rest = IsAtStart IsDecl decl_text text d rest

    Dims : List ℕ → List WrittenDim → List ℕ → Type 0
    Dims inside dims rest = IsAtStart (λ dims. Every (λ d. is_dim d ≡ true) dims) (λ dims. bracketed_list (map dim_text dims)) inside dims rest

pub decl_reads : (d : WrittenDecl) (rest : List ℕ) → IsDecl d → breaks_off rest ≡ true → decl_at (decl_text d ++ rest) ≡ Some (d, rest)
decl_reads d rest fits follows =
    let beyond : List ℕ = bracketed_list (map dim_text d.dims) ++ rest in
    ap decl_at (append_assoc d.name (bracketed_list (map dim_text d.dims)) rest)
    ∙ ap (and_then_read (λ name rest. read_as (λ dims. record { name = name; dims = dims }) (where_it few_dims (bracketed_or_none dim_at rest)))) (name_reads d.name beyond fits.symbolic (name_ends (map dim_text d.dims) rest follows))
    ∙ ap (read_as (λ dims. record { name = d.name; dims = dims }))
    (where_reads few_dims (bracketed_or_none dim_at beyond) d.dims rest
    (bracketed_or_none_reads dim_listed d.dims rest (flat_all is_signed dim_numbers d.dims fits.numbers) (breaks_bracket rest follows)) (le-leb (length d.dims) 7 fits.few))

decl_no_stroke : (d : WrittenDecl) (rest : List ℕ) → IsDecl d → not_at_start 47 (decl_text d ++ rest) ≡ true
decl_no_stroke d rest fits =
    ap (not_at_start 47) (append_assoc d.name (bracketed_list (map dim_text d.dims)) rest) ∙ name_not_at_start 47 d.name (bracketed_list (map dim_text d.dims) ++ rest) fits.symbolic (omega arith)

pub decl_listed : IsListed decl_at decl_text IsDecl breaks_off
decl_listed = record {
  sound = decl_sound;
  reads = decl_reads;
  comma = λ more. refl;
  bracket = λ more. refl;
  no_stroke = decl_no_stroke;
}

pub decls_sound : (text : List ℕ) → Each (λ ds rest. IsAtStart (λ ds. (1 ≤ length ds) × All IsDecl ds) decls_text text ds rest) (list_at decl_at text)
decls_sound text = list_all_sound decl_listed text

pub decls_reads : (ds : List WrittenDecl) (rest : List ℕ) → 1 ≤ length ds → All IsDecl ds → ends_decls rest ≡ true → list_at decl_at (decls_text ds ++ rest) ≡ Some (ds, rest)
decls_reads ds rest some fit follows = let both = and_parts (breaks_off rest) (ends_list rest) follows in list_all_reads decl_listed ds rest some fit both.0 both.1
