use Rattle.nc_live.proofs.live.make_history.Given as goal

-- the pool that was just made
abbrev pub ghosts-with_pool : goal.ghosts-with_pool
ghosts-with_pool g a = record { pool = a.pool.id }
