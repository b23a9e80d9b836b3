-- What a `RegionTree` keeps.
use Rattle.std.specs.Prelude.{◌≡◌, ◌<◌, ◌≤◌, ◌^◌, length}
use Rattle.region_tree.specs.Tree.{Tree}
use Rattle.region_tree.specs.declared.tree.RegionTree.TheInside.{Inside}

abbrev pub tree_of : Inside → Tree
tree_of d = record { entries = d.entries.items; exits = d.exits.items; parents = d.parents.items; innermost = d.innermost.items }

-- there is a row for each number
pub record HaveRows (t : Tree) : Type 0 where
  pub some : 0 < length t.entries
  pub few : length t.entries ≤ 2 ^ 31
  pub exits : length t.exits ≡ length t.entries
  pub parents : length t.parents ≡ length t.entries

abbrev pub IsKept : Inside → Type 0
IsKept d = HaveRows (tree_of d)
