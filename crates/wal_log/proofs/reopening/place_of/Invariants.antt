use Rattle.found_log.specs.Found.{place_of_log}
use Rattle.wal_log.proofs.reopening.place_of.Given as goal

abbrev pub ghosts-picked_place : goal.ghosts-picked_place
ghosts-picked_place a = record { place = place_of_log a._log.now }
