use Rattle.run_script.proofs.Inserts.{plain_is}
use Rattle.run_script.proofs.records.insert_plain.Goals as goal

pub returns-in-Some : goal.returns-in-Some
returns-in-Some c =
    let spelled = c.in_ok-put_data.ensures in
    rw (plain_is c.args.header.xid c.args.header.rmid c.args.header.info c.args.main.now c.clear_to_front.new.room.items spelled.0 c.put_data.new.bytes.items c.in_ok-clear_to_front.ensures spelled.1 spelled.2) c.insert_plain_in.ensures

pub returns-in-None : goal.returns-in-None
returns-in-None c =
    let spelled = c.in_ok-put_data.ensures in
    rw (plain_is c.args.header.xid c.args.header.rmid c.args.header.info c.args.main.now c.clear_to_front.new.room.items spelled.0 c.put_data.new.bytes.items c.in_ok-clear_to_front.ensures spelled.1 spelled.2) c.insert_plain_alone.ensures
