use Rattle.machine_laws.proofs.DurableCallSteps.{create_keeps, sync_keeps, write_keeps}
use Rattle.machine_laws.proofs.device_calls.calls_keep_durability.Goals as goal

pub returns-clause-create : goal.returns-clause-create
returns-clause-create g = λ c segment outcome met may.
    create_keeps c.opening c.order c.flushed c.moment c.down c.home c.writer c.parts c.durable c.id
    c.view c.here c.opening_is c.setup_is c.turn c.writers c.turn_is c.among c.written c.flights
    c.writings c.positions segment outcome met may

pub returns-clause-write : goal.returns-clause-write
returns-clause-write g = λ c segment page upto bytes outcome met may.
    write_keeps c.opening c.order c.flushed c.moment c.down c.home c.writer c.parts c.durable c.id
    c.view c.here c.opening_is c.setup_is c.turn c.writers c.turn_is c.among c.written c.flights
    c.writings c.positions segment page upto bytes outcome met may

pub returns-clause-sync : goal.returns-clause-sync
returns-clause-sync g = λ c segment outcome met may.
    sync_keeps c.opening c.order c.flushed c.moment c.down c.home c.writer c.parts c.durable c.id
    c.view c.here c.opening_is c.setup_is c.turn c.writers c.turn_is c.among c.written c.flights
    c.writings c.positions segment outcome met may
