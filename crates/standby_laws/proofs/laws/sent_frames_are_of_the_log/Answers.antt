-- A log that was left is read, and synced, before it is sent.
use Rattle.standby_laws.proofs.SentFrames.{sent_frames_are_of_log, sent_frames_come_of_log}
use Rattle.standby_laws.proofs.laws.sent_frames_are_of_the_log.Goals as goal

pub returns-clause-sent : goal.returns-clause-sent
returns-clause-sent c = sent_frames_are_of_log

pub returns-clause-handed : goal.returns-clause-handed
returns-clause-handed c = sent_frames_come_of_log
