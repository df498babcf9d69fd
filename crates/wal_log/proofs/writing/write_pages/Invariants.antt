use Rattle.wal_log.proofs.WriteLaws.{HasWrittenTo}
use Rattle.wal_log.proofs.writing.write_pages.Given as goal

-- the pages before this one are written, and stored as written
abbrev pub invariant-loop-page : goal.invariant-loop-page
invariant-loop-page g l = HasWrittenTo g.D.Disk.tape g.D.Disk.moment g.D.Disk.faults l.known l.page
    l.fn.seated l.seated
