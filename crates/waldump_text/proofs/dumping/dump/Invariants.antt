use Rattle.waldump_text.proofs.dumping.dump.Given as goal

abbrev pub ghosts-dump_lines : goal.ghosts-dump_lines
ghosts-dump_lines g a = record { filter = a.filter.now }
