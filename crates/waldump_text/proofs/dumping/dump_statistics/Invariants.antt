use Rattle.waldump_text.proofs.dumping.dump_statistics.Given as goal

abbrev pub ghosts-tally_log : goal.ghosts-tally_log
ghosts-tally_log g a = record { filter = a.filter.now }
