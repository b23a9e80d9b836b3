use Rattle.flow_analysis.proofs.graph.flow_regions.Given as goal

-- the ledger of the count of steps
abbrev pub ghosts-edge_numbers : goal.ghosts-edge_numbers
ghosts-edge_numbers a = record { name = a.blank.name; parts = a.blank.parts }
