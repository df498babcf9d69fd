use Rattle.found_log.specs.Words.{words_upto}
use Rattle.found_log.proofs.words_below.WordsBelow.upto.Given as goal

abbrev pub ghosts-picked : goal.ghosts-picked
ghosts-picked g a = record {
  words = words_upto a._geometry (g.D.Disk.tape a._disk.now) a._end.0 a._page.now;
}
