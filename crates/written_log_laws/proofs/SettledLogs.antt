-- Images that a crash leaves while a log is settled are lawful, and so decode to fronts.
use Rattle.flush_core.proofs.SettledLogs.{settling_keeps_lawful, synced_logs_are_lawful}
use Rattle.written_log_laws.specs.SettledLog.{SettlingLogsDecodeToFronts, SyncedLogsDecodeToFronts}
use Rattle.written_log_laws.proofs.LawfulLaws.{lawful_images_decode_to_fronts}

pub settling_logs_decode_to_fronts : SettlingLogsDecodeToFronts
settling_logs_decode_to_fronts size sysid count end moment m es before tape image may loses later leaves no_torn =
    lawful_images_decode_to_fronts size sysid 0 image es may.valid may.known may.narrow may.chained may.bounded (settling_keeps_lawful size sysid count end moment m es before tape image may.valid may.chained may.lawful loses later leaves) no_torn

pub synced_logs_decode_to_fronts : SyncedLogsDecodeToFronts
synced_logs_decode_to_fronts size sysid count end upto since moment m es before tape image may within reached reads loses keeps later after leaves no_torn =
    lawful_images_decode_to_fronts size sysid upto image es may.valid may.known may.narrow may.chained may.bounded (synced_logs_are_lawful size sysid count end upto since moment m es before tape image may.valid may.chained may.lawful within reached reads loses keeps later after leaves) no_torn
