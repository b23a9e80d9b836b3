-- How far statements were laid out without a refusal, and what was made of them on the way.
use Rattle.std.specs.Prelude.{◌≡◌, ◌<◌, ◌^◌, List, [], length, All, None}
use Rattle.f77_tree.specs.declared.programs.NameInfo.{NameInfo}
use Rattle.f77_tree.specs.declared.statements.Labelled.{Labelled}
use Rattle.control_structure.specs.declared.blocks.Blocks.{Blocks}
use Rattle.control_structure.specs.declared.labels.Labels.{Labels}
use Rattle.storage_association.specs.declared.word_numbers.WordNumbers.{WordNumbers}
use Rattle.layout_rules.specs.Appearances.{has_real_name}
use Rattle.control_structure.specs.BlockEnds.{AreBlocksOf}
use Rattle.layout_rules.specs.Faults.{first_line}
use Rattle.layout_rules.specs.Jumps.{jumps_into}
use Rattle.control_structure.specs.LabelTable.{ArePlacesOf}
use Rattle.layout_rules.specs.Labels.{is_labelled_twice, lacks_label}
use Rattle.layout_rules.specs.Layout.{names_of, placed_names, spots_of}
use Rattle.layout_rules.specs.Nesting.{first_unnested}
use Rattle.layout_rules.specs.Order.{is_out_of_order}
use Rattle.layout_rules.specs.Source.{IsSource}
use Rattle.layout_rules.specs.StorageLines.{storage_line}
use Rattle.layout_rules.specs.Spots.{AreLowest}
use Rattle.layout_rules.specs.TypeFaults.{has_wrong_type}
use Rattle.storage_association.specs.WordNumbers.{AreNumbers}

-- the statements stand in order, and these are their names, of which none is real
pub record HasNames (stmts : List Labelled) (names : List NameInfo) : Type 0 where
  pub source : IsSource stmts
  pub ordered : first_line is_out_of_order stmts ≡ None
  pub known : first_line (has_real_name stmts) stmts ≡ None
  pub table : names ≡ names_of stmts

-- these are the numbers of the words, and no name's first word has a number of more than 63 bits
pub record AreStored (stmts : List Labelled) (numbers : WordNumbers) : Type 0 where
  pub all : length (spots_of stmts) ≡ length (names_of stmts)
  pub lowest : AreLowest (spots_of stmts)
  pub numbered : AreNumbers (names_of stmts) (spots_of stmts) numbers
  pub few : All (λ place. place < 2 ^ 63) numbers.places.items

-- kinds and storage are right, and these are the numbers of the words
pub record HasWords (stmts : List Labelled) (names : List NameInfo) (numbers : WordNumbers) : Type 0 where
  pub named : HasNames stmts names
  pub kinds : first_line (has_wrong_type (names_of stmts)) stmts ≡ None
  pub stored : storage_line (names_of stmts) (placed_names stmts) stmts ≡ None
  pub numbered : AreStored stmts numbers

-- each label stands once, those that are used stand where they may, and these are their places
pub record HasLabels (stmts : List Labelled) (names : List NameInfo) (numbers : WordNumbers) (labels : Labels) : Type 0 where
  pub words : HasWords stmts names numbers
  pub once : first_line is_labelled_twice stmts ≡ None
  pub borne : first_line (lacks_label stmts) stmts ≡ None
  pub places : ArePlacesOf stmts labels

-- loops and blocks are nested, no jump leads into them, and these are the ends of the blocks
pub record HasBlocks (stmts : List Labelled) (names : List NameInfo) (numbers : WordNumbers) (labels : Labels) (blocks : Blocks) : Type 0 where
  pub labelled : HasLabels stmts names numbers labels
  pub nested : first_unnested [] stmts ≡ None
  pub stays : first_line (jumps_into stmts) stmts ≡ None
  pub ends : AreBlocksOf stmts blocks
