use Rattle.std.proofs.Common.{ℕ, sym, ap, ◌∙◌}
use Rattle.byte_position.specs.Position.{end_address_of}
use Rattle.machine_state.specs.declared.setup.Setup.{Setup}
use Rattle.wal_rule.specs.Passes.{view_of_pass}
use Rattle.wal_rule.specs.Tables.{began_of_table}
use Rattle.wal_log.specs.Logs.{opening_of_log, table_of}
use Rattle.wal_log.proofs.Closes.{position_low}
use Rattle.wal_log.proofs.wal.Wal.close.Goals as goal

pub to_end_lsn-requires : goal.to_end_lsn-requires
to_end_lsn-requires g c = position_low g.D.Disk.tape g.D.Disk.moment g.D.Disk.faults
    (began_of_table g.D.Disk.tape (table_of c.args.self)) (opening_of_log c.args.self)
    (view_of_pass c.args.pass) c.close-writer.result.0 c.close-writer.result.1
    c.close-writer.ensures

pub returns : goal.returns
returns g c = record {
  writer = c.close-writer.result.0;
  position = c.close-writer.result.1;
  disk_is = sym c.into_disk.ensures;
  closes = c.close-writer.ensures;
  end_is = c.to_end_lsn.ensures
      ∙ ap (λ (n : ℕ). end_address_of n c.close-writer.result.1)
      (c.geometry-geometry.ensures
      ∙ ap (λ (s : Setup). s.seg_size) c.args.self.table.shaped);
  down_is = c.fault-down.ensures;
}
