use Rattle.machine_laws.proofs.PutWords.{end_put, ring_put, ring_place-below, put_is}
use Rattle.machine_laws.proofs.ring_words.stores_change_one_value.Goals as goal

pub returns-clause-end : goal.returns-clause-end
returns-clause-end c = λ setup words buffer value wide. end_put setup words wide buffer value

pub returns-clause-ring : goal.returns-clause-ring
returns-clause-ring c = λ setup words place value wide. ring_put setup words wide place value

pub returns-clause-place : goal.returns-clause-place
returns-clause-place c = λ setup k some. ring_place-below setup some k

pub returns-clause-memory : goal.returns-clause-memory
returns-clause-memory c = put_is
