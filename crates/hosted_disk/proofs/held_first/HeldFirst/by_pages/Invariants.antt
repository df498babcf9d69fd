use Rattle.hosted_disk.specs.HostSegments.{segments_by}
use Rattle.hosted_disk.proofs.held_first.HeldFirst.by_pages.Given as goal

abbrev pub ghosts-picked : goal.ghosts-picked
ghosts-picked g a = record { segments = segments_by g.L.HostDisk.segments a._pages.now }
