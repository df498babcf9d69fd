use Rattle.wal_page.specs.LogPlace.{new_place}
use Rattle.wal_rule.proofs.place.OrderPlace.of_new_log.Given as goal

abbrev pub ghosts-picked : goal.ghosts-picked
ghosts-picked a = record { place = new_place (a._setup).seg_size }
