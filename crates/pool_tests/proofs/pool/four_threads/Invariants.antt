use Rattle.pool_tests.proofs.pool.four_threads.Given as goal

-- the pool that was just made
abbrev pub ghosts-run_crew : goal.ghosts-run_crew
ghosts-run_crew g a = record { pool = a.pool.id }
