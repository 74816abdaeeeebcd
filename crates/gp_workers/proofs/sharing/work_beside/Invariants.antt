use Rattle.gp_workers.proofs.sharing.work_beside.Given as goal

-- the inboxes are those that were handed in
abbrev pub ghosts-work_named : goal.ghosts-work_named
ghosts-work_named g a = record { inboxes = a.inboxes.now }
