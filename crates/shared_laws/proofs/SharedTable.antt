-- With its temporaries the table of a well-formed program is that of a well-formed one.
use Rattle.std.proofs.Common.{◌≡◌, ℕ, ◌+◌, ◌-◌, ◌<◌, ◌≤◌, ◌⊎◌, ℤ, pos, Bool, true, false, ◌||◌, List, [], ◌++◌, length, Some, refl, sym, ap, subst, ◌∙◌, inl, inr, ⊎_elim, arith}
use Rattle.std.specs.Prelude.{nat_lt, replicate, slice_get}
use Rattle.std.proofs.lemmas.Bool.{cases_lt, false≢true}
use Rattle.std.proofs.lemmas.Bool.Decides.{Decides-ltb}
use Rattle.std.proofs.lemmas.List.{length-append, length-replicate}
use Rattle.std.proofs.lemmas.List.Elements.{All-weaker}
use Rattle.std.proofs.lemmas.Option.{slice_get_within, slice_get-get_or}
use Rattle.f77_tree.specs.declared.declarations.CommonPart.{CommonPart}
use Rattle.f77_tree.specs.declared.declarations.InitPart.{InitPart}
use Rattle.f77_tree.specs.declared.declarations.Member.{Member}
use Rattle.f77_tree.specs.declared.programs.Exec.{Exec}
use Rattle.f77_tree.specs.declared.programs.ExecKind.{ExecKind}
use Rattle.f77_tree.specs.declared.programs.NameInfo.{NameInfo}
use Rattle.f77_tree.specs.declared.programs.Program.{Program}
use Rattle.f77_tree.specs.AddedNames.{AreNewScalars}
use Rattle.f77_tree.specs.Declarations.{NamesDiffer}
use Rattle.f77_tree.specs.InitialWords.{AreInitial}
use Rattle.f77_tree.specs.Name.{is_name}
use Rattle.f77_tree.specs.Places.{ArePlaces, equations}
use Rattle.f77_tree.specs.WellFormed.{AreDeclarations, IsExecutable, IsWellFormed}
use Rattle.redundancy.specs.Available.{Availability}
use Rattle.shared_forms.specs.Numbered.{number_of}
use Rattle.shared_forms.specs.Shared.{has_many_names, most_words, shared, temporaries, temporary_info, with_temporaries}
use Rattle.shared_forms.specs.Temporaries.{free_names}
use Rattle.shared_laws.proofs.FreeNames.{free-apart, free-name, not-free, temporary_name-symbolic, IsFree}
use Rattle.shared_forms.proofs.SpreadFlat.{All-items}
use Rattle.shared_forms.proofs.SpreadLists.{item_at}
use Rattle.shared_forms.proofs.TemporaryTable.{info-there, slice_get-left, slice_get-right, temporaries-length}

-- what scalars that are added to a table leave as it was
pub record KeepScalars : Type 0 where
  pub declarations : (names more : List NameInfo) (commons : List CommonPart) (groups : List (List Member)) (inits : List InitPart) (words : ℕ) → AreNewScalars names more words → AreDeclarations names commons groups inits → AreDeclarations (names ++ more) commons groups inits
  pub places : (names more : List NameInfo) (commons : List CommonPart) (groups : List (List Member)) (inits : List InitPart) (words : ℕ) → AreNewScalars names more words → AreDeclarations names commons groups inits → ArePlaces names commons (equations names commons groups) words → ArePlaces (names ++ more) commons (equations (names ++ more) commons groups) (words + length more)
  pub initial : (names more : List NameInfo) (commons : List CommonPart) (groups : List (List Member)) (inits : List InitPart) (initial : List ℤ) (words : ℕ) → AreDeclarations names commons groups inits → ArePlaces names commons (equations names commons groups) words → length initial ≡ words → AreInitial names inits initial → AreInitial (names ++ more) inits (initial ++ replicate (length more) (pos 0))
  pub executables : (names more : List NameInfo) (kind : ExecKind) → IsExecutable names kind → IsExecutable (names ++ more) kind

-- ---- limits that aren't passed

pub at-most : (m n : ℕ) → nat_lt m n ≡ false → n ≤ m
at-most m n is = ⊎_elim
    (λ (less : m < n). absurd (false≢true (sym is ∙ (Decides-ltb m n).1 less)))
    (λ (most : n ≤ m). most)
    (cases_lt m n)

neither : (b c : Bool) → (b || c) ≡ false → (b ≡ false) × (c ≡ false)
neither true c is = absurd cc
neither false c is = (refl, is)

same-info : (x y : NameInfo) → Some x ≡ Some y → x ≡ y
same-info x y is = cc

module _ (q : Program) (a : Availability) (formed : IsWellFormed q) (few : has_many_names q a (number_of a) ≡ false) where
  abbrev all : List ℕ
  all = shared q a (number_of a)

  abbrev added : List NameInfo
  added = temporaries q a (number_of a)

  enough-free : length all ≤ length (free_names q.names)
  enough-free = at-most (length (free_names q.names)) (length all) (neither (nat_lt (length (free_names q.names)) (length all)) (nat_lt most_words (q.words + length all)) few).0

  enough-words : q.words + length all ≤ most_words
  enough-words = at-most most_words (q.words + length all) (neither (nat_lt (length (free_names q.names)) (length all)) (nat_lt most_words (q.words + length all)) few).1

  -- ---- what is added

  record IsAdded (j : ℕ) (info : NameInfo) : Type 0 where
    number : ℕ
    is : info ≡ temporary_info q a (number_of a) j number
    named : slice_get (free_names q.names) j ≡ Some info.name

  added-at : (j : ℕ) (info : NameInfo) → slice_get added j ≡ Some info → IsAdded j info
  added-at j info at =
      let less = slice_get_within added j info at in
      let size = temporaries-length q a in
      let free = enough-free in
      let item = item_at all j (omega (arith, less, size)) in
      let is : info ≡ temporary_info q a (number_of a) j item.0 = same-info info (temporary_info q a (number_of a) j item.0) (sym at ∙ info-there q a j item.0 item.1) in
      record {
        number = item.0;
        is = is;
        named = slice_get-get_or (free_names q.names) j [] (omega (arith, less, size, free)) ∙ ap Some (ap (λ (i : NameInfo). i.name) (sym is));
      }

  symbolic-at : (j : ℕ) (info : NameInfo) → slice_get added j ≡ Some info → is_name info.name ≡ true
  symbolic-at j info at =
      let r = free-name q.names j info.name (added-at j info at).named in
      ap is_name r.is ∙ temporary_name-symbolic r.number

  -- a name of the table isn't that of a temporary
  apart : (k j : ℕ) (x y : NameInfo) → slice_get q.names k ≡ Some x → slice_get added j ≡ Some y → x.name ≡ y.name → ⊥
  apart k j x y at also same =
      let free = free-name q.names j y.name (added-at j y also).named in
      not-free q.names _ k x at (subst (IsFree q.names _) (sym same) free)

  one-temporary : (i j : ℕ) (x y : NameInfo) → slice_get added i ≡ Some x → slice_get added j ≡ Some y → x.name ≡ y.name → i ≡ j
  one-temporary i j x y at also same = free-apart q.names i j y.name ((added-at i x at).named ∙ ap Some same) (added-at j y also).named

  -- an entry of the longer table
  record IsEntry (k : ℕ) (info : NameInfo) : Type 0 where
    index : ℕ
    stands : k ≡ length q.names + index
    there : slice_get added index ≡ Some info

  entry : (k : ℕ) (info : NameInfo) → slice_get (q.names ++ added) k ≡ Some info → (slice_get q.names k ≡ Some info) ⊎ IsEntry k info
  entry k info at = ⊎_elim
      (λ (less : k < length q.names). inl (sym (slice_get-left q.names added k less) ∙ at))
      (λ (past : length q.names ≤ k).
      let same : length q.names + (k - length q.names) ≡ k = omega (arith, past) in
      inr (record { index = k - length q.names; stands = sym same; there = sym (slice_get-right q.names added (k - length q.names)) ∙ ap (slice_get (q.names ++ added)) same ∙ at }))
      (cases_lt k (length q.names))

  differ : NamesDiffer (q.names ++ added)
  differ j k x y at also same = ⊎_elim
      (λ (here : slice_get q.names j ≡ Some x). ⊎_elim
      (λ (here_too : slice_get q.names k ≡ Some y). formed.declarations.differ j k x y here here_too same)
      (λ (e : IsEntry k y). absurd (apart j e.index x y here e.there same))
      (entry k y also))
      (λ (d : IsEntry j x). ⊎_elim
      (λ (here : slice_get q.names k ≡ Some y). absurd (apart k d.index y x here d.there (sym same)))
      (λ (e : IsEntry k y).
      let one = one-temporary d.index e.index x y d.there e.there same in
      d.stands ∙ ap (λ n. length q.names + n) one ∙ sym e.stands)
      (entry k y also))
      (entry j x at)

  pub new-scalars : AreNewScalars q.names added q.words
  new-scalars = record {
    symbolic = All-items (λ (info : NameInfo). is_name info.name ≡ true) added symbolic-at;
    scalars = All-items (λ (info : NameInfo). info.dims ≡ []) added (λ j info at. ap (λ (i : NameInfo). i.dims) (added-at j info at).is);
    differ = differ;
    places = λ j info at. ap (λ (i : NameInfo). i.place) (added-at j info at).is;
  }

  -- ---- the longer program

  pub longer-formed : KeepScalars → IsWellFormed (with_temporaries q a (number_of a))
  longer-formed keep =
      let count = temporaries-length q a in
      let new = new-scalars in
      let zeros = length-replicate (length all) (pos 0) in
      let sizes = length-append q.initial (replicate (length all) (pos 0)) in
      let initial_count = formed.initial_count in
      record {
        execs = record {
          end = formed.execs.end;
          successors = formed.execs.successors;
          each = All-weaker (λ (exec : Exec). IsExecutable q.names exec.kind) (λ (exec : Exec). IsExecutable (q.names ++ added) exec.kind) (λ (exec : Exec) is. keep.executables q.names added exec.kind is) q.execs formed.execs.each;
          loops_nest = formed.execs.loops_nest;
          count = formed.execs.count;
          target_count = formed.execs.target_count;
        };
        declarations = keep.declarations q.names added q.commons q.groups q.inits q.words new formed.declarations;
        word_count = enough-words;
        initial_count = omega (arith, zeros, sizes, initial_count);
        places = subst (λ n. ArePlaces (q.names ++ added) q.commons (equations (q.names ++ added) q.commons q.groups) (q.words + n)) count (keep.places q.names added q.commons q.groups q.inits q.words new formed.declarations formed.places);
        initial = subst (λ n. AreInitial (q.names ++ added) q.inits (q.initial ++ replicate n (pos 0))) count (keep.initial q.names added q.commons q.groups q.inits q.initial q.words formed.declarations formed.places formed.initial_count formed.initial);
      }
