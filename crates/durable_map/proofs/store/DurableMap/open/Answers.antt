use Rattle.std.proofs.Common.{ℕ, subst}
use Rattle.durable_map.specs.Opening.{AreRead}
use Rattle.durable_map.proofs.ReadLaws.{same_records}
use Rattle.durable_map.proofs.store.DurableMap.open.Goals as goal

pub returns-in-Ok-reopen-clause-opened : goal.returns-in-Ok-reopen-clause-opened
returns-in-Ok-reopen-clause-opened g c =
    let setup = c.args.setup in
    let tape = g.D.Disk.tape c.args.disk in
    let again = g.D.Disk.tape c.read_entries.new.disk in
    let read = subst (λ (size : ℕ). AreRead size tape c.in-Ok.entries) c.in-Some.ensures.1
    c.in-Ok.ensures.read in
    let reopened = c.in-Ok-reopen.ensures.reopened in
    record {
      read = read;
      handed = c.read_entries.new.disk;
      only_read = record {
        uncalled = c.in-Ok.ensures.uncalled;
        unfailed = c.in-Ok.ensures.no_fault;
      };
      found = c.in-Ok-reopen.field-0-2;
      reopened = reopened;
      same = same_records setup.seg_size setup.cap_segments reopened.made reopened.place
          read.records reopened.records tape again c.decoding_is_settled.ensures.settled
          c.in-Some.ensures.0 c.in-Ok.ensures.uncalled.same_tape read.whole reopened.read;
    }
