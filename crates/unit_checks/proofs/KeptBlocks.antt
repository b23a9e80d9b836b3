-- What is kept of COMMON blocks, part by part.
use Rattle.std.proofs.Common.{◌≡◌, ℕ, ◌+◌, ◌<◌, Bool, true, false, not, ◌||◌, cond, List, [], ◌∷◌, ◌++◌, length, get_or, take, Option, Some, None, refl, sym, ap, ◌∙◌, append-nil}
use Rattle.std.specs.Prelude.{flat_map, filter, if◌then◌else◌, unwrap_or}
use Rattle.std.specs.List.{list_any}
use Rattle.std.specs.Option.{is_none}
use Rattle.std.proofs.lemmas.List.{take_more}
use Rattle.std.proofs.lemmas.List.Concat.{flat_map-append}
use Rattle.std.proofs.lemmas.List.Elements.{filter-append}
use Rattle.f77_tree.specs.declared.declarations.CommonPart.{CommonPart}
use Rattle.f77_tree.specs.Places.{same_block}
use Rattle.f77_tree.proofs.NameLemmas.{same_block-same}
use Rattle.unit_checks.specs.declared.block_names.BlockNames.{BlockNames}
use Rattle.unit_checks.specs.BlockTables.{AreNoted, decl_names, found_names, has_part, names_if, names_in}
use Rattle.program_units.proofs.NamesAbove.{any-push}

-- ---- the names of a block, with one part more

abbrev added : (part : CommonPart) (block : Option (List ℕ)) → List (List ℕ)
added part block = if same_block part.block block then decl_names part.decls else []

one : (part : CommonPart) (block : Option (List ℕ)) → names_in (part ∷ []) block ≡ added part block
one part block = by (same_block part.block block)
  where
    by : (b : Bool) → flat_map (λ (q : CommonPart). decl_names q.decls) (cond b (part ∷ []) []) ≡ cond b (decl_names part.decls) []
    by true = append-nil (decl_names part.decls)
    by false = refl

names-push : (parts : List CommonPart) (part : CommonPart) (block : Option (List ℕ)) → names_in (parts ++ part ∷ []) block ≡ names_in parts block ++ added part block
names-push parts part block =
    let here : CommonPart → Bool = λ q. same_block q.block block in
    let names : CommonPart → List (List ℕ) = λ q. decl_names q.decls in
    ap (flat_map names) (filter-append here parts (part ∷ []))
    ∙ flat_map-append names (filter here parts) (filter here (part ∷ []))
    ∙ ap (λ (xs : List (List ℕ)). names_in parts block ++ xs) (one part block)

pub none-here : (parts : List CommonPart) (block : Option (List ℕ)) → has_part parts block ≡ false → names_in parts block ≡ []
none-here [] block none = refl
none-here (part ∷ parts) block none = by (same_block part.block block) none (none-here parts block)
  where
    by : (b : Bool) → (b || has_part parts block) ≡ false → (has_part parts block ≡ false → names_in parts block ≡ []) → flat_map (λ (q : CommonPart). decl_names q.decls) (cond b (part ∷ filter (λ (q : CommonPart). same_block q.block block) parts) (filter (λ (q : CommonPart). same_block q.block block) parts)) ≡ []
    by true is more = let e : true ≡ false = is in absurd cc
    by false is more = more is

kept-step : (has here : Bool) (names more : List (List ℕ)) → (has ≡ false → names ≡ []) → (if here then Some (unwrap_or (names_if has names) [] ++ more) else names_if has names) ≡ names_if (has || here) (names ++ (if here then more else []))
kept-step true true names more none = refl
kept-step false true names more none = ap (λ (xs : List (List ℕ)). Some (xs ++ more)) (sym (none refl))
kept-step true false names more none = ap (λ (xs : List (List ℕ)). Some xs) (sym (append-nil names))
kept-step false false names more none = refl

-- ---- tests of blocks

passing : (test : Option (List ℕ) → Bool) (parts : List CommonPart) (block : Option (List ℕ)) → has_part parts block ≡ true → test block ≡ true → list_any (λ (q : CommonPart). test q.block) parts ≡ true
passing test [] block has is = let e : false ≡ true = has in absurd cc
passing test (part ∷ parts) block has is = by (same_block part.block block) refl has (λ there. passing test parts block there is)
  where
    or-true : (b : Bool) → (b || true) ≡ true
    or-true true = refl
    or-true false = refl

    by : (b : Bool) → same_block part.block block ≡ b → (b || has_part parts block) ≡ true → (has_part parts block ≡ true → list_any (λ (q : CommonPart). test q.block) parts ≡ true) → (test part.block || list_any (λ (q : CommonPart). test q.block) parts) ≡ true
    by true same there later = ap (λ (b : Bool). b || list_any (λ (q : CommonPart). test q.block) parts) (ap test (same_block-same part.block block same) ∙ is)
    by false same there later = ap (λ (b : Bool). test part.block || b) (later there) ∙ or-true (test part.block)

or-known : (a b : Bool) → (a ≡ true → b ≡ true) → b ≡ (b || a)
or-known true b known = known refl ∙ ap (λ (c : Bool). c || true) (sym (known refl))
or-known false true known = refl
or-known false false known = refl

new-block : (has : Bool) (names : List (List ℕ)) → is_none (names_if has names) ≡ not has
new-block true names = refl
new-block false names = refl

module _ (parts : List CommonPart) (i : ℕ) (part : CommonPart) (lt : i < length parts) (is : part ≡ get_or parts i part) where
  abbrev above : List CommonPart
  above = take i parts

  more : take (i + 1) parts ≡ above ++ part ∷ []
  more = take_more parts i part lt ∙ ap (λ (q : CommonPart). above ++ q ∷ []) (sym is)

  has-more : (block : Option (List ℕ)) → has_part (take (i + 1) parts) block ≡ (has_part above block || same_block part.block block)
  has-more block = ap (λ (ps : List CommonPart). has_part ps block) more ∙ any-push (λ (q : CommonPart). same_block q.block block) above part

  names-more : (block : Option (List ℕ)) → names_in (take (i + 1) parts) block ≡ names_in above block ++ added part block
  names-more block = ap (λ (ps : List CommonPart). names_in ps block) more ∙ names-push above part block

  tested-more : (test : Option (List ℕ) → Bool) → list_any (λ (q : CommonPart). test q.block) (take (i + 1) parts) ≡ (list_any (λ (q : CommonPart). test q.block) above || test part.block)
  tested-more test = ap (list_any (λ (q : CommonPart). test q.block)) more ∙ any-push (λ (q : CommonPart). test q.block) above part

  tested-next : (test : Option (List ℕ) → Bool) (blocks : List (Option (List ℕ))) → list_any test blocks ≡ list_any (λ (q : CommonPart). test q.block) above → (b : Bool) → has_part above part.block ≡ b
      → list_any test (blocks ++ (if not b then part.block ∷ [] else [])) ≡ list_any (λ (q : CommonPart). test q.block) (take (i + 1) parts)
  tested-next test blocks before true has =
      ap (list_any test) (append-nil blocks)
      ∙ before
      ∙ or-known (test part.block) (list_any (λ (q : CommonPart). test q.block) above) (λ passes. passing test above part.block has passes)
      ∙ sym (tested-more test)
  tested-next test blocks before false has =
      any-push test blocks part.block
      ∙ ap (λ (b : Bool). b || test part.block) before
      ∙ sym (tested-more test)

  pub kept-more : (old new : BlockNames) (blocks after : List (Option (List ℕ))) → AreNoted above old blocks
      → ((block : Option (List ℕ)) → found_names new block ≡ (if same_block part.block block then Some (unwrap_or (found_names old block) [] ++ decl_names part.decls) else found_names old block))
      → after ≡ blocks ++ (if is_none (found_names old part.block) then part.block ∷ [] else []) → AreNoted (take (i + 1) parts) new after
  kept-more old new blocks after are names_now blocks_now = record {
    names = λ block.
        names_now block
        ∙ ap (λ (o : Option (List (List ℕ))). if same_block part.block block then Some (unwrap_or o [] ++ decl_names part.decls) else o) (are.names block)
        ∙ kept-step (has_part above block) (same_block part.block block) (names_in above block) (decl_names part.decls) (none-here above block)
        ∙ ap (λ (b : Bool). names_if b (names_in above block ++ added part block)) (sym (has-more block))
        ∙ ap (names_if (has_part (take (i + 1) parts) block)) (sym (names-more block));
    tested = λ test.
        ap (list_any test) blocks_now
        ∙ ap (λ (b : Bool). list_any test (blocks ++ (if b then part.block ∷ [] else []))) (ap is_none (are.names part.block) ∙ new-block (has_part above part.block) (names_in above part.block))
        ∙ tested-next test blocks (are.tested test) (has_part above part.block) refl;
  }

pub kept-none : (parts : List CommonPart) (kept : BlockNames) (blocks : List (Option (List ℕ))) → ((block : Option (List ℕ)) → found_names kept block ≡ None) → blocks ≡ [] → AreNoted (take 0 parts) kept blocks
kept-none parts kept blocks none empty = record { names = none; tested = λ test. ap (list_any test) empty }
