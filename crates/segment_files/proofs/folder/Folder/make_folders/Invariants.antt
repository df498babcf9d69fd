use Rattle.std.specs.Bool.{IsTrue}
use Rattle.segment_files.proofs.folder.Folder.make_folders.Given as goal

abbrev pub invariant-loop-end : goal.invariant-loop-end
invariant-loop-end g l = IsTrue l.initial.self.has_failed → IsTrue l.self.has_failed
