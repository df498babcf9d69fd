-- All that is checked of a moment, by its parts.
use Rattle.machine_state.specs.Words.{log_start}
use Rattle.machine_tests.specs.declared.moment.MachineNow.{MachineNow}
use Rattle.machine_tests.specs.declared.moment.Part.{Part}
use Rattle.machine_tests.specs.declared.moment.Part.TheVariants.{Order, Locks, Turns, Progress, Ring, Pages, Positions}
use Rattle.machine_tests.specs.Order.{OrderAgrees}
use Rattle.machine_tests.specs.Locks.{LocksAgree}
use Rattle.machine_tests.specs.Turns.{TurnsAgree}
use Rattle.machine_tests.specs.Progress.{ProgressAgrees}
use Rattle.machine_tests.specs.Ring.{RingAgrees}
use Rattle.machine_tests.specs.Pages.{PagesAgree}
use Rattle.machine_tests.specs.Positions.{PositionsAgree}

-- a part of the words agrees with the records and the backends
abbrev pub Agrees : MachineNow → Part → Type 0
Agrees m Order = OrderAgrees (log_start m.setup) m.words.now m.order.now m.backends.now
Agrees m Locks = LocksAgree m.words.now m.backends.now
Agrees m Turns = TurnsAgree m.words.now m.backends.now
Agrees m Progress = ProgressAgrees m.words.now m.backends.now
Agrees m Ring = RingAgrees m.setup m.words.now m.log.now m.backends.now
Agrees m Pages = PagesAgree m.setup m.words.now m.backends.now
Agrees m Positions = PositionsAgree m.setup.seg_size m.words.now m.log.now m.backends.now
