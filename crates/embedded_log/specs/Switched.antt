-- What a segment switch of a session comes to.
use Rattle.wal_spelling.specs.Spelling.{Assembled}
use Rattle.wal_log.specs.Switching.{FindsSegmentStart}
use Rattle.wal_log.specs.SwitchTries.{TellsSwitchTry}
use Rattle.embedded_log.specs.declared.session.LogSession.{LogSession}
use Rattle.embedded_log.specs.declared.switching.SegmentSwitch.{SegmentSwitch}
use Rattle.embedded_log.specs.declared.switching.SegmentSwitch.TheVariants.{Begun, Refused, Stayed}
use Rattle.embedded_log.specs.Appended.{AnswersAppend}
use Rattle.embedded_log.specs.Sessions.{GoesOnOpen, setup_of_session, view_of_session}

-- switch: its record, the session before it, and what it came to
abbrev pub AnswersSegmentSwitch : {H : Type 0} → Assembled → LogSession H → SegmentSwitch H
    → Type 0
AnswersSegmentSwitch body old (Begun append) = AnswersAppend body old append
AnswersSegmentSwitch body old (Stayed end new) =
    FindsSegmentStart (setup_of_session old) end.0 (view_of_session old) (view_of_session new)
    × GoesOnOpen old new
AnswersSegmentSwitch body old (Refused why new) =
    TellsSwitchTry (setup_of_session old) body (view_of_session old) (view_of_session new) why
    × GoesOnOpen old new
