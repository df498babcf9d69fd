use Rattle.segment_disk.specs.Crash.{takes_write}
use Rattle.segment_disk.proofs.TakenWords.{TakenUpto}
use Rattle.segment_disk.proofs.memory.taking.take_words.Given as goal

abbrev pub invariant-loop-word : goal.invariant-loop-word
invariant-loop-word l =
    TakenUpto (takes_write l.pick l.rest l.number) l.initial.bytes l.written l.bytes l.word
