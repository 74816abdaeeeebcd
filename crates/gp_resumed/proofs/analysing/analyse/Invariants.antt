use Rattle.gp_resumed.proofs.analysing.analyse.Given as goal

-- the properties and the old report that were handed in
abbrev pub ghosts-analyse_named : goal.ghosts-analyse_named
ghosts-analyse_named g a = record { properties = a.properties.now; old = a.old.now }
