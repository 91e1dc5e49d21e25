use Rattle.machine_lock.proofs.lock.Turnstile.split.Given as goal

abbrev pub ghosts-cut : goal.ghosts-cut
ghosts-cut g a = record { parts = a.parts }
