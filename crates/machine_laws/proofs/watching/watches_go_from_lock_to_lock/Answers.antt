use Rattle.machine_state.specs.Words.{end_form, order_end}
use Rattle.machine_laws.proofs.WatchLaws.{watch_visits}
use Rattle.machine_laws.proofs.watching.watches_go_from_lock_to_lock.Goals as goal

pub returns : goal.returns
returns c = λ opening order lock works watches id i limit v valid held told known seen k mine
    here.
    watch_visits opening.setup.seg_size lock works held
    (end_form opening.setup (order_end opening order)) told opening valid order watches id i limit
    v known seen k mine here
