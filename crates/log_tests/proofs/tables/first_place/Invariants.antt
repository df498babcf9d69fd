use Rattle.wal_page.specs.LogPlace.{new_place}
use Rattle.log_tests.proofs.tables.first_place.Given as goal

abbrev pub ghosts-of : goal.ghosts-of
ghosts-of a = record { place = new_place 1048576 }
