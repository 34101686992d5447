use Rattle.nc_live.proofs.top.answer_to.Given as goal

-- the scenario that was just read
abbrev pub ghosts-live_run : goal.ghosts-live_run
ghosts-live_run g a = record { scene = a.sc.now }
