use Rattle.std.proofs.Common.{subst}
use Rattle.std.specs.Prelude.{None}
use Rattle.wal_spelling.specs.Spelling.{Assembled}
use Rattle.wal_log.specs.Committing.{IsSealed}
use Rattle.wal_log.specs.Logs.{setup_of_log}
use Rattle.durable_map.specs.Changes.{MapChange}
use Rattle.durable_map.specs.Stores.{Slots, TakesIn, view_of_part}
use Rattle.durable_map.proofs.part.MapPart.del.Goals as goal

pub returns : goal.returns
returns g c =
    let change : MapChange = record { key = c.args.key.now; value = None } in
    record {
      answers = record {
        loggable = record { key = c.if-key-gt-LONGEST.false; value = tt };
        told = subst (λ (body : Assembled). IsSealed (setup_of_log c.args.log.now) body
            (view_of_part c.args.self.now) (view_of_part c.commit.new.self)
            c.in_ok-sealed.sealed) c.in_ok-body.ensures.body c.in_ok-sealed.ensures.commits;
        taken = subst (λ (entries : Slots). TakesIn change entries c.take_out.new.entries)
            c.commit.ensures.entries c.take_out.ensures;
      };
      pass = c.commit.ensures.pass;
      keeps = c.commit.ensures.keeps;
    }
