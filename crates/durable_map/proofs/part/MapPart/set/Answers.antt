use Rattle.std.proofs.Common.{arith, subst}
use Rattle.std.specs.Prelude.{Some}
use Rattle.wal_spelling.specs.Spelling.{Assembled, assembled}
use Rattle.wal_log.specs.Committing.{IsSealed}
use Rattle.wal_log.specs.Logs.{setup_of_log}
use Rattle.durable_map.specs.Changes.{MapChange}
use Rattle.durable_map.specs.Records.{change_record}
use Rattle.durable_map.specs.Stores.{Slots, TakesIn, view_of_part}
use Rattle.durable_map.proofs.Changed.{takes_in_over}
use Rattle.durable_map.proofs.part.MapPart.set.Goals as goal

pub returns : goal.returns
returns g c =
    let change : MapChange = record { key = c.args.key.now; value = Some c.args.value.items } in
    let filled = subst (λ (entries : Slots). TakesIn change entries c.fill_slot.new.entries)
    c.commit.ensures.entries c.fill_slot.ensures in
    let body = rw c.as_slice.ensures.value at c.in_ok-body.ensures.body in
    record {
      answers = record {
        loggable = record {
          key = c.if-key-gt-LONGEST.false;
          value = omega (arith, c.if-len-gt-LONGEST.false, c.len.ensures);
        };
        told = subst (λ (body : Assembled). IsSealed (setup_of_log c.args.log.now) body
            (view_of_part c.args.self.now) (view_of_part c.commit.new.self)
            c.in_ok-sealed.sealed) {y = assembled (change_record change)} body
            c.in_ok-sealed.ensures.commits;
        taken = takes_in_over change c.args.self.now.entries c.make_slot.new.entries
            c.fill_slot.new.entries c.make_slot.ensures.same filled;
      };
      pass = c.commit.ensures.pass;
      keeps = c.commit.ensures.keeps;
    }
