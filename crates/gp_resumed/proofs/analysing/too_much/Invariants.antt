use Rattle.gp_resumed.proofs.analysing.too_much.Given as goal

-- the properties and the old report that were handed in
abbrev pub ghosts-too_much_named : goal.ghosts-too_much_named
ghosts-too_much_named g a = record { properties = a.properties.now; old = a.old.now }
