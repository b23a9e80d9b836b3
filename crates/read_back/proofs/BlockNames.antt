-- Each block of COMMON of a printed program is read with the names that it had, in their order.
use Rattle.std.proofs.Common.{◌≡◌, ℕ, zero, suc, ◌≤◌, ◌||◌, Bool, true, false, cond, List, [], ◌∷◌, ◌++◌, length, map, take, refl, sym, ap, ◌∙◌, arith, Option, Some, None, append-nil}
use Rattle.std.specs.Prelude.{filter, flat_map, slice_get}
use Rattle.std.specs.List.{list_any, range_with_len}
use Rattle.std.proofs.lemmas.List.{map-append}
use Rattle.std.proofs.lemmas.List.Concat.{flat_map-append}
use Rattle.std.proofs.lemmas.List.Elements.{filter-append}
use Rattle.std.proofs.lemmas.List.Folds.{list_any-append}
use Rattle.list_laws.proofs.Ranges.{range_more}
use Rattle.f77_tree.specs.declared.declarations.CommonPart.{CommonPart}
use Rattle.f77_tree.specs.declared.declarations.Decl.{Decl}
use Rattle.f77_tree.specs.declared.programs.NameInfo.{NameInfo}
use Rattle.f77_tree.specs.Declarations.{index_of, part_names}
use Rattle.f77_tree.specs.Places.{same_block, block_names}
use Rattle.f77_tree.specs.StatementGrammar.{WrittenStatement, statement_of, decl_of}
use Rattle.f77_tree.proofs.NameLemmas.{same_block-same}
use Rattle.layout_rules.specs.Declarations.{parts_of}
use Rattle.flat_programs.specs.Declarations.{name_alone, block_decls, block_statement, is_continued, common_at, commons}
use Rattle.read_back.proofs.GatheredParts.{of_written}
use Rattle.read_back.proofs.MarkPlaces.{take_next, take_all}
use Rattle.read_back.proofs.PrintedPlaces.{get_some}

-- ---- lists

pub filter_nothing : {X : Type 0} (p : X → Bool) (xs : List X) → list_any p xs ≡ false → filter p xs ≡ []
filter_nothing p [] none = refl
filter_nothing p (x ∷ xs) none = grind (arith, filter_nothing p xs)

-- ---- one statement for each block

module _ (names : List NameInfo) (parts : List CommonPart) where
  -- what the statement of a block is read as
  abbrev read_part : Option (List ℕ) → CommonPart
  read_part block = record { block = block; decls = map decl_of (block_decls parts block) }

  part_read : (block : Option (List ℕ)) → parts_of (statement_of (block_statement parts block)) ≡ read_part block ∷ []
  part_read None = refl
  part_read (Some name) = refl

  abbrev index : Decl → ℕ
  index d = index_of names d.name

  alone_indexed : (decls : List Decl) → map index (map decl_of (map name_alone decls)) ≡ map index decls
  alone_indexed [] = refl
  alone_indexed (d ∷ decls) = ap (λ ks. index d ∷ ks) (alone_indexed decls)

  parts_indexed : (ps : List CommonPart) → map index (map decl_of (flat_map (λ (part : CommonPart). map name_alone part.decls) ps)) ≡ flat_map (part_names names) ps
  parts_indexed [] = refl
  parts_indexed (part ∷ ps) = grind (arith, map-append decl_of, map-append index, alone_indexed part.decls, parts_indexed ps)

  module _ (block : Option (List ℕ)) where
    abbrev is_of : CommonPart → Bool
    is_of part = same_block part.block block

    -- the names of the block
    abbrev own : List ℕ
    own = block_names names parts block

    -- those that some statements give to it
    abbrev given : List WrittenStatement → List ℕ
    given ws = block_names names (of_written parts_of ws) block

    given-append : (vs ws : List WrittenStatement) → given (vs ++ ws) ≡ given vs ++ given ws
    given-append vs ws =
        grind (arith, flat_map-append, filter-append is_of (of_written parts_of vs) (of_written parts_of ws), of_written parts_of vs, of_written parts_of ws, flat_map-append (part_names names) (filter is_of (of_written parts_of vs)) (filter is_of (of_written parts_of ws)))

    given_one : (part : CommonPart) (c : Bool) → same_block part.block block ≡ c → given (block_statement parts part.block ∷ []) ≡ cond c own []
    given_one part c is =
        grind (arith, part_read part.block, append-nil (part_names names (read_part part.block)), parts_indexed, same_block-same part.block block)

    abbrev here : ℕ → Option CommonPart → List ℕ
    here k part = given (common_at parts k part)

    abbrev below : ℕ → List WrittenStatement
    below k = flat_map (λ j. common_at parts j (slice_get parts j)) (range_with_len 0 k)

    below_next : (k : ℕ) → below (suc k) ≡ below k ++ common_at parts k (slice_get parts k)
    below_next k = grind (arith, range_more k, flat_map-append, append-nil)

    -- the block's names come with its first part
    one_more : (b c d : Bool) (k : ℕ) (part : CommonPart) → same_block part.block block ≡ c → is_continued parts k part ≡ d → (c ≡ true → d ≡ b) → cond b own [] ++ given (cond d [] (block_statement parts part.block ∷ [])) ≡ cond (b || c) own []
    one_more h h2 h3 k part is_c is_d same = grind (arith, append-nil, given_one)

    up_to : (k : ℕ) → k ≤ length parts → given (below k) ≡ cond (list_any is_of (take k parts)) own []
    up_to zero le = refl
    up_to (suc k) le =
        let found = get_some parts k (omega (arith, le)) in
        let part = found.0 in
        let stood = list_any is_of (take k parts) in
        let or_none : (b : Bool) → (b || false) ≡ b = λ b. false_last b in
        ap given (below_next k) ∙ given-append (below k) (common_at parts k (slice_get parts k))
        ∙ ap (λ ks. ks ++ here k (slice_get parts k)) (up_to k (omega (arith, le)))
        ∙ ap (λ (o : Option CommonPart). cond stood own [] ++ here k o) found.1
        ∙ one_more stood (is_of part) (is_continued parts k part) k part refl refl (λ is. ap (λ (o : Option (List ℕ)). list_any (λ (p : CommonPart). same_block p.block o) (take k parts)) (same_block-same part.block block is))
        ∙ ap (λ b. cond (stood || b) own []) (sym (or_none (is_of part)))
        ∙ ap (λ b. cond b own []) (sym (list_any-append is_of (take k parts) (part ∷ [])))
        ∙ ap (λ ps. cond (list_any is_of ps) own []) (sym (take_next parts k part found.1))
      where
        false_last : (b : Bool) → (b || false) ≡ b
        false_last true = refl
        false_last false = refl

    pub block_again : block_names names (of_written parts_of (commons parts)) block ≡ block_names names parts block
    block_again = grind (arith, up_to, take_all, filter_nothing)
