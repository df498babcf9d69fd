use Rattle.std.proofs.Common.{◌≡◌, ℕ, ◌-◌, ◌∙◌, List, None, drop, length, take, take_all, sym, subst, arith}
use Rattle.std.proofs.lemmas.List.{length-drop}
use Rattle.wal_types.specs.declared.record.Xid.{Xid}
use Rattle.wal_spelling.specs.Record.{plain_record}
use Rattle.wal_spelling.specs.Refusal.{refusal_of}
use Rattle.wal_spelling.proofs.Acceptance.{accepted_record}
use Rattle.wal_spelling.proofs.plain.spell_plain_in.Goals as goal

pub put_front-start-requires-clause-short : goal.put_front-start-requires-clause-short
put_front-start-requires-clause-short c =
    let xid : Xid = record { 0 = 0 } in
    let room = c.args.room.now in
    let main = drop 5 room in
    let all : take (length room - 5) main ≡ main = take_all (length room - 5) main (omega (arith, length-drop 5 room)) in
    let none : refusal_of (plain_record xid c.args.rmid c.args.info main) ≡ None = subst (λ (bytes : List ℕ). refusal_of (plain_record xid c.args.rmid c.args.info bytes) ≡ None) all (sym (c.refusal_of_plain.ensures xid) ∙ c.in_default.is) in
    (accepted_record (plain_record xid c.args.rmid c.args.info main) none).short
