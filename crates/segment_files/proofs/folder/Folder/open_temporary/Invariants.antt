use Rattle.std.specs.Bool.{IsTrue}
use Rattle.segment_files.proofs.folder.Folder.open_temporary.Given as goal

abbrev pub invariant-loop-number : goal.invariant-loop-number
invariant-loop-number g l = IsTrue l.initial.self.has_failed → IsTrue l.self.has_failed
