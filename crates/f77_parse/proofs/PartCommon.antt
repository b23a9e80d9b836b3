-- Blocks and parts of COMMON.
use Rattle.std.proofs.Common.{◌≡◌, ◌==◌, ℕ, ◌≤◌, Bool, true, false, List, [], ◌∷◌, ◌++◌, length, flat_map, codes, All, Option, Some, refl, sym, ap, ◌∙◌, arith, append_assoc, length-append}
use Rattle.std.specs.List.{list_all}
use Rattle.f77_tree.specs.Name.{is_name}
use Rattle.f77_tree.specs.StatementGrammar.{comma_if, WrittenDecl, decls_text, IsDecl, WrittenBlock, block_text, is_block, is_said, WrittenPart, part_text, IsPart}
use Rattle.f77_tree.specs.StatementGrammar.WrittenBlock.{Unsaid, Blank, Block}
use Rattle.f77_expr.specs.Reader.{Reads, read_as, and_then_read, after_prefix, this_or}
use Rattle.f77_expr.proofs.EachRead.{Each, each_if, each_then, each_as, each_this_or, each_weaker, if_false}
use Rattle.f77_expr.proofs.Prefixes.{prefix_is}
use Rattle.f77_parse.specs.Parts.{after, then_prefix, name_at, list_at, decl_at, block_at, comma_at, part_after, part_at, first_part_at, parts_to_end}
use Rattle.f77_parse.proofs.Followers.{not_at_start, ends_decls, IsAtStart, Every}
use Rattle.f77_parse.proofs.PartReaders.{after_sound, then_prefix_sound, not_at_start_in, after_none, between, comma_is, comma_reads}
use Rattle.f77_parse.proofs.PartLists.{every_all, all_every, every_pass, pass_every, list_prefix}
use Rattle.f77_parse.proofs.PartNumbers.{name_not_at_start, name_sound, name_reads}
use Rattle.f77_parse.proofs.PartDeclarations.{decl_listed, decls_sound, decls_reads}
use Rattle.f77_parse.proofs.PartSequences.{AreAll, parts_sound, parts_follow, parts_reads}

-- ---- blocks

pub block_sound : (text : List ℕ) → Each (λ b rest. IsAtStart (λ b. (is_block b ≡ true) × (is_said b ≡ true)) block_text text b rest) (block_at text)
block_sound text =
    each_this_or P Blank (after_prefix (codes "//") text) (after (codes "/") (λ rest. then_prefix (codes "/") (read_as (λ name. Block name) (name_at rest))) text)
    (λ rest e. ((refl, refl), prefix_is (codes "//") text rest e))
    (after_sound P (codes "/") (λ rest. then_prefix (codes "/") (read_as (λ name. Block name) (name_at rest))) text
    (λ next e. then_prefix_sound P Unclosed (codes "/") (read_as (λ name. Block name) (name_at next))
    (each_as (λ name rest. IsAtStart (λ name. is_name name ≡ true) (λ name. name) next name rest) Unclosed (λ name. Block name) (name_at next) (name_sound next)
    (λ name rest is. ((is.0, refl), ap (λ (more : List ℕ). 47 ∷ more) is.1 ∙ e)))
    (λ b rest is. (is.0, closing b rest is.0.1 ∙ is.1))))
  where
    P : WrittenBlock → List ℕ → Type 0
    P b rest = IsAtStart (λ b. (is_block b ≡ true) × (is_said b ≡ true)) block_text text b rest

    open_text : WrittenBlock → List ℕ
    open_text (Block name) = 47 ∷ name
    open_text _ = codes "/"

    Unclosed : WrittenBlock → List ℕ → Type 0
    Unclosed b rest = ((is_block b ≡ true) × (is_said b ≡ true)) × (open_text b ++ rest ≡ text)

    closing : (b : WrittenBlock) (rest : List ℕ) → is_said b ≡ true → block_text b ++ rest ≡ open_text b ++ (47 ∷ rest)
    closing Unsaid rest said = absurd cc
    closing Blank rest said = refl
    closing (Block name) rest said = append_assoc (47 ∷ name) (codes "/") rest

pub block_reads : (b : WrittenBlock) (rest : List ℕ) → is_block b ≡ true → is_said b ≡ true → block_at (block_text b ++ rest) ≡ Some (b, rest)
block_reads Unsaid rest fits said = absurd cc
block_reads Blank rest fits said = refl
block_reads (Block name) rest fits said =
    let beyond : List ℕ = name ++ (47 ∷ rest) in
    let named : Reads WrittenBlock = then_prefix (codes "/") (read_as (λ name. Block name) (name_at beyond)) in
    ap block_at (append_assoc (47 ∷ name) (codes "/") rest)
    ∙ ap (λ (o : Option (List ℕ)). this_or Blank o named) (after_none 47 [] beyond (name_not_at_start 47 name (47 ∷ rest) fits (omega arith)))
    ∙ ap (λ (x : Reads (List ℕ)). then_prefix (codes "/") (read_as (λ name. Block name) x)) (name_reads name (47 ∷ rest) fits refl)

-- ---- parts

part_prefix : (p : WrittenPart) (rest : List ℕ) → part_text p ++ rest ≡ comma_if p.comma ++ (block_text p.block ++ (decls_text p.decls ++ rest))
part_prefix p rest = between (comma_if p.comma) (block_text p.block) (decls_text p.decls) rest

abbrev IsPartOf : Bool → WrittenBlock → WrittenPart → Type 0
IsPartOf comma block p = IsPart p × (p.comma ≡ comma) × (p.block ≡ block)

beyond_sound : (comma : Bool) (block : WrittenBlock) (text next : List ℕ) → is_block block ≡ true → comma_if comma ++ (block_text block ++ next) ≡ text → Each (λ p rest. IsAtStart (IsPartOf comma block) part_text text p rest) (part_after comma block next)
beyond_sound comma block text next fits e =
    each_as (λ ds rest. IsAtStart (λ ds. (1 ≤ length ds) × All IsDecl ds) decls_text next ds rest) (λ p rest. IsAtStart (IsPartOf comma block) part_text text p rest) made (list_at decl_at next) (decls_sound next)
    (λ ds rest is. (
      (record { block = fits; some = is.0.0; decls = is.0.1 }, refl, refl),
      part_prefix (made ds) rest ∙ ap (λ more. comma_if comma ++ (block_text block ++ more)) is.1 ∙ e,
    ))
  where
    made : List WrittenDecl → WrittenPart
    made ds = record { comma = comma; block = block; decls = ds }

-- a part that tells its block
abbrev IsSaidPart : WrittenPart → Type 0
IsSaidPart p = IsPart p × (is_said p.block ≡ true)

pub part_sound : (text : List ℕ) → Each (λ p rest. IsAtStart (λ p. IsPart p × (is_said p.block ≡ true)) part_text text p rest) (part_at text)
part_sound text =
    let comma : Bool × List ℕ = comma_at text in
    each_then (λ b rest. IsAtStart (λ b. (is_block b ≡ true) × (is_said b ≡ true)) block_text comma.1 b rest) (λ p rest. IsAtStart IsSaidPart part_text text p rest) (λ block rest. part_after comma.0 block rest) (block_at comma.1) (block_sound comma.1)
    (λ block rest is. each_weaker (λ p tail. IsAtStart (IsPartOf comma.0 block) part_text text p tail) (λ p tail. IsAtStart IsSaidPart part_text text p tail) (part_after comma.0 block rest)
    (λ p tail h. ((h.0.0, ap is_said h.0.2 ∙ is.0.1), h.1))
    (beyond_sound comma.0 block text rest is.0.0 (ap (λ more. comma_if comma.0 ++ more) is.1 ∙ comma_is text)))

pub first_part_sound : (text : List ℕ) → Each (λ p rest. IsAtStart (λ p. IsPart p × (p.comma ≡ false)) part_text text p rest) (first_part_at text)
first_part_sound [] = tt
first_part_sound (c ∷ text) =
    each_if P (c == 47) (and_then_read (λ block rest. part_after false block rest) (block_at (c ∷ text))) (part_after false Unsaid (c ∷ text))
    (λ stroke. each_then (λ b rest. IsAtStart (λ b. (is_block b ≡ true) × (is_said b ≡ true)) block_text (c ∷ text) b rest) P (λ block rest. part_after false block rest) (block_at (c ∷ text)) (block_sound (c ∷ text))
    (λ block rest is. weaker block rest (beyond_sound false block (c ∷ text) rest is.0.0 is.1)))
    (λ none. weaker Unsaid (c ∷ text) (beyond_sound false Unsaid (c ∷ text) (c ∷ text) refl refl))
  where
    P : WrittenPart → List ℕ → Type 0
    P p rest = IsAtStart (λ p. IsPart p × (p.comma ≡ false)) part_text (c ∷ text) p rest

    weaker : (block : WrittenBlock) (next : List ℕ) → Each (λ p rest. IsAtStart (IsPartOf false block) part_text (c ∷ text) p rest) (part_after false block next) → Each P (part_after false block next)
    weaker block next h = each_weaker (λ p rest. IsAtStart (IsPartOf false block) part_text (c ∷ text) p rest) P (part_after false block next) (λ p rest is. ((is.0.0, is.0.1), is.1)) h

after_reads : (comma : Bool) (p : WrittenPart) (rest : List ℕ) → IsPart p → ends_decls rest ≡ true → part_after comma p.block (decls_text p.decls ++ rest) ≡ Some (record { comma = comma; block = p.block; decls = p.decls }, rest)
after_reads comma p rest fits follows = ap (read_as (λ decls. record { comma = comma; block = p.block; decls = decls })) (decls_reads p.decls rest fits.some fits.decls follows)

block_no_comma : (b : WrittenBlock) (rest : List ℕ) → is_said b ≡ true → not_at_start 44 (block_text b ++ rest) ≡ true
block_no_comma Unsaid rest said = absurd cc
block_no_comma Blank rest said = refl
block_no_comma (Block name) rest said = refl

pub part_reads : (p : WrittenPart) (rest : List ℕ) → IsPart p → is_said p.block ≡ true → ends_decls rest ≡ true → part_at (part_text p ++ rest) ≡ Some (p, rest)
part_reads p rest fits said follows =
    let decls : List ℕ = decls_text p.decls ++ rest in
    ap part_at (part_prefix p rest)
    ∙ ap (λ (comma : Bool × List ℕ). and_then_read (λ block rest. part_after comma.0 block rest) (block_at comma.1)) (comma_reads p.comma (block_text p.block ++ decls) (block_no_comma p.block decls said))
    ∙ ap (and_then_read (λ block rest. part_after p.comma block rest)) (block_reads p.block decls fits.block said)
    ∙ after_reads p.comma p rest fits follows

-- what begins with no stroke has names of blank common
unsaid_at : (text : List ℕ) → not_at_start 47 text ≡ true → first_part_at text ≡ part_after false Unsaid text
unsaid_at [] h = refl
unsaid_at (c ∷ text) h = if_false (c == 47) (and_then_read (λ block rest. part_after false block rest) (block_at (c ∷ text))) (part_after false Unsaid (c ∷ text)) (not_at_start_in 47 c text h)

pub first_part_reads : (p : WrittenPart) (rest : List ℕ) → IsPart p → p.comma ≡ false → ends_decls rest ≡ true → first_part_at (part_text p ++ rest) ≡ Some (p, rest)
first_part_reads p rest fits none follows =
    ap first_part_at (part_prefix p rest ∙ ap (λ there. comma_if there ++ (block_text p.block ++ decls)) none)
    ∙ here p.block refl
    ∙ after_reads false p rest fits follows
    ∙ ap (λ comma. Some (record { comma = comma; block = p.block; decls = p.decls }, rest)) (sym none)
  where
    decls : List ℕ
    decls = decls_text p.decls ++ rest

    said_reads : (b : WrittenBlock) → p.block ≡ b → is_said b ≡ true → and_then_read (λ block rest. part_after false block rest) (block_at (block_text b ++ decls)) ≡ part_after false b decls
    said_reads b e said = ap (and_then_read (λ block rest. part_after false block rest)) (block_reads b decls (ap is_block (sym e) ∙ fits.block) said)

    here : (b : WrittenBlock) → p.block ≡ b → first_part_at (block_text b ++ decls) ≡ part_after false b decls
    here Unsaid e = unsaid_at decls (list_prefix decl_listed (not_at_start 47) decl_listed.no_stroke p.decls rest fits.some (all_every IsDecl p.decls fits.decls))
    here Blank e = said_reads Blank e refl
    here (Block name) e = said_reads (Block name) e refl

-- ---- parts up to the end

part_follows : (p : WrittenPart) (rest : List ℕ) → is_said p.block ≡ true → ends_decls (part_text p ++ rest) ≡ true
part_follows p rest said = ap ends_decls (part_prefix p rest) ∙ here p.comma p.block (decls_text p.decls ++ rest) said
  where
    here : (comma : Bool) (b : WrittenBlock) (more : List ℕ) → is_said b ≡ true → ends_decls (comma_if comma ++ (block_text b ++ more)) ≡ true
    here comma Unsaid more h = absurd cc
    here true Blank more h = refl
    here false Blank more h = refl
    here true (Block name) more h = refl
    here false (Block name) more h = refl

part_some : (p : WrittenPart) → is_said p.block ≡ true → 1 ≤ length (part_text p)
part_some p said =
    let prefix : List ℕ = comma_if p.comma in
    omega (arith, block_some p.block said, length-append (prefix ++ block_text p.block) (decls_text p.decls), length-append prefix (block_text p.block))
  where
    block_some : (b : WrittenBlock) → is_said b ≡ true → 1 ≤ length (block_text b)
    block_some Unsaid h = absurd cc
    block_some Blank h = omega arith
    block_some (Block name) h = omega (arith, length-append (47 ∷ name) (codes "/"))

said_every : (parts : List WrittenPart) → All IsPart parts → list_all (λ p. is_said p.block) parts ≡ true → Every IsSaidPart parts
said_every parts fit said = both parts (all_every IsPart parts fit) (pass_every (λ p. is_said p.block) parts said)
  where
    both : (parts : List WrittenPart) → Every IsPart parts → Every (λ p. is_said p.block ≡ true) parts → Every IsSaidPart parts
    both [] h g = tt
    both (p ∷ more) h g = ((h.0, g.0), both more h.1 g.1)

every_said : (parts : List WrittenPart) → Every IsSaidPart parts → All IsPart parts × (list_all (λ p. is_said p.block) parts ≡ true)
every_said parts h = (every_all IsPart parts (fit parts h), every_pass (λ p. is_said p.block) parts (said parts h))
  where
    fit : (parts : List WrittenPart) → Every IsSaidPart parts → Every IsPart parts
    fit [] h = tt
    fit (p ∷ more) h = (h.0.0, fit more h.1)

    said : (parts : List WrittenPart) → Every IsSaidPart parts → Every (λ p. is_said p.block ≡ true) parts
    said [] h = tt
    said (p ∷ more) h = (h.0.1, said more h.1)

-- parts of COMMON up to the end
pub common_parts_sound : (text : List ℕ) → Each (λ parts rest. All IsPart parts × (list_all (λ p. is_said p.block) parts ≡ true) × (flat_map part_text parts ≡ text) × (rest ≡ [])) (parts_to_end (length text) part_at text)
common_parts_sound text =
    each_weaker (λ parts rest. AreAll part_at part_text IsSaidPart text parts rest) (λ parts rest. All IsPart parts × (list_all (λ p. is_said p.block) parts ≡ true) × (flat_map part_text parts ≡ text) × (rest ≡ [])) (parts_to_end (length text) part_at text)
    (λ parts rest is. let both = every_said parts is.0 in (both.0, both.1, is.1, is.2)) (parts_sound part_at part_text IsSaidPart part_sound (length text) text)

pub common_parts_reads : (parts : List WrittenPart) → All IsPart parts → list_all (λ p. is_said p.block) parts ≡ true → parts_to_end (length (flat_map part_text parts)) part_at (flat_map part_text parts) ≡ Some (parts, [])
common_parts_reads parts fit said =
    parts_reads part_at part_text IsSaidPart ends_decls refl (λ p rest fits. part_follows p rest fits.1) (λ p rest fits follows. part_reads p rest fits.0 fits.1 follows) (λ p fits. part_some p fits.1) parts (said_every parts fit said)

-- and they may stand after a part
pub common_parts_follow : (parts : List WrittenPart) → list_all (λ p. is_said p.block) parts ≡ true → ends_decls (flat_map part_text parts) ≡ true
common_parts_follow parts said =
    parts_follow part_at part_text (λ p. is_said p.block ≡ true) ends_decls refl part_follows parts (pass_every (λ p. is_said p.block) parts said)
