use Rattle.cluster_listing.proofs.ending.Ending.tell.Goals as goal

pub returns-in-Torn : goal.returns-in-Torn
returns-in-Torn g c = rw (c.in-Torn.is, ← c.name.ensures) c.tell_kind.ensures

pub returns-in-Damaged : goal.returns-in-Damaged
returns-in-Damaged g c = rw (c.in-Damaged.is, ← c.name-in-Damaged.ensures) c.tell_kind-in-Damaged.ensures

pub returns-in-Compressed : goal.returns-in-Compressed
returns-in-Compressed g c = rw c.in-Compressed.is c.tell_place-in-Compressed.ensures

pub returns-in-OutOfMemory : goal.returns-in-OutOfMemory
returns-in-OutOfMemory g c = rw c.in-OutOfMemory.is c.put_all.ensures

pub returns-in-DiskFault : goal.returns-in-DiskFault
returns-in-DiskFault g c = rw c.in-DiskFault.is c.put_all-in-DiskFault.ensures

pub returns-in-SinkFault : goal.returns-in-SinkFault
returns-in-SinkFault g c = rw c.in-SinkFault.is c.put_all-in-SinkFault.ensures
