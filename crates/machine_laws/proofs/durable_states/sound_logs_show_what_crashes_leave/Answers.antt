use Rattle.std.specs.Prelude.{map}
use Rattle.machine_state.specs.Words.{down_word, flushed_word, moment_word}
use Rattle.machine_state.specs.Views.{receipts_of}
use Rattle.machine_laws.proofs.CrashLaws.{crashes_leave_the_log, down_tells}
use Rattle.machine_laws.proofs.durable_states.sound_logs_show_what_crashes_leave.Goals as goal

pub returns-clause-crashes : goal.returns-clause-crashes
returns-clause-crashes c = λ first opening words home views s.
    crashes_leave_the_log opening s.order (flushed_word words) (moment_word words)
    (down_word words) home s.writer (map receipts_of views) s.durable (s.setup_is).size
    (s.reserved).placed

pub returns-clause-down : goal.returns-clause-down
returns-clause-down c = λ first opening words home views s.
    down_tells opening s.order (flushed_word words) (moment_word words) (down_word words) home
    s.writer (map receipts_of views) s.durable
