-- A run of frames, and what is received, are events of a standby's history.
use Rattle.std.proofs.Common.{◌≡◌, ℕ, ◌≤◌, List, [], ◌∷◌, ◌++◌, Option, sym, subst, ◌∙◌}
use Rattle.std.proofs.lemmas.List.{append-nil, append_assoc}
use Rattle.segment_disk.specs.Tape.{Tape}
use Rattle.wal_page.specs.Order.{Entry}
use Rattle.wal_stream.specs.Following.{AreSentSteps, ComesOfLog, Harden, NotHardened, Offer, SentStep, promises_of, standby_behind}
use Rattle.wal_stream.specs.Opened.{StandsAtFound}
use Rattle.wal_stream.specs.Standby.{standby_disk, standby_end}
use Rattle.wal_stream.specs.declared.standby.Standby.{Standby}
use Rattle.wal_stream.proofs.FollowLaws.{follows_and_keeps}
use Rattle.wal_stream.specs.Fetched.{SourceState}
use Rattle.wal_stream.specs.Receiving.{Receives}
use Rattle.wal_stream.specs.Sent.{HandsOutLog, promised_at}
use Rattle.wal_stream.specs.declared.outcome.Received.{Received}
use Rattle.wal_stream.proofs.SentLaws.{is_sent_run}
use Rattle.standby_laws.specs.History.{Closed, IsFoundSince, Lived, NoneTornRead, Open, closes, fails_to_harden, hardens, is_offered, opens}

module _ {D : Type 0} (tape : D → Option Tape) (moment faults : D → ℕ) (size sysid : ℕ)
    (es : List Entry) (since hardened : ℕ) where
  abbrev LivedOpen : List (ℕ × ℕ) → Standby D → Type 0
  LivedOpen told s = Lived tape moment faults size sysid es since told (Open s)

  lived_steps : (told : List (ℕ × ℕ)) (first : Standby D) (steps : List (SentStep × Standby D))
      → first.geometry ≡ size → AreSentSteps tape moment faults sysid es hardened first steps
      → LivedOpen told first
      → LivedOpen (told ++ promises_of moment steps) (standby_behind first steps)
  lived_steps told first [] size_is are lived =
      subst (λ (l : List (ℕ × ℕ)). LivedOpen l first) (sym (append-nil told)) lived
  lived_steps told first ((Offer bytes answer, new) ∷ steps) size_is are lived =
      lived_steps told new steps
      ((follows_and_keeps tape moment faults sysid es since hardened first
      ((Offer bytes answer, new) ∷ []) (are.0, tt)).stays.size ∙ size_is) are.1
      (is_offered since told hardened first new bytes answer lived
      (subst (λ (n : ℕ). ComesOfLog n sysid es hardened bytes) size_is are.0.0) are.0.1)
  lived_steps told first ((Harden upto, new) ∷ steps) size_is are lived =
      let promise : ℕ × ℕ = (moment (standby_disk new), upto) in
      subst (λ (l : List (ℕ × ℕ)). LivedOpen l (standby_behind new steps))
      (append_assoc told (promise ∷ []) (promises_of moment steps))
      (lived_steps (told ++ promise ∷ []) new steps (are.0.kind.size ∙ size_is) are.1
      (hardens since told upto first new lived are.0))
  lived_steps told first ((NotHardened count, new) ∷ steps) size_is are lived =
      lived_steps told new steps (are.0.kind.size ∙ size_is) are.1
      (fails_to_harden since told count first new lived are.0)

  -- a standby is opened, receives what a source hands out, and is closed
  pub lived_receiving : (told : List (ℕ × ℕ)) (cap from : ℕ) (disk : D) (first last : Standby D)
      (before after : SourceState) (received : Received)
      → Lived tape moment faults size sysid es since told (Closed disk) → cap ≤ 4096
      → NoneTornRead size es (tape disk)
      → StandsAtFound tape moment faults size cap disk first
      → IsFoundSince tape moment disk (standby_disk first) from
      → Receives tape moment faults before after first last received
      → HandsOutLog size sysid es hardened before after
      → Lived tape moment faults size sysid es since
      ((told ++ (from, standby_end first) ∷ [])
      ++ promised_at received.ended (moment (standby_disk last)) received.upto.0)
      (Closed (standby_disk last))
  lived_receiving told cap from disk first last before after received lived few none_torn stands since_then receives sent =
      let run = is_sent_run tape moment faults sysid es hardened before after first last received
      receives (subst (λ (n : ℕ). HandsOutLog n sysid es hardened before after)
      (sym stands.size_is) sent) in
      let found : List (ℕ × ℕ) = told ++ (from, standby_end first) ∷ [] in
      let more = promised_at received.ended (moment (standby_disk last)) received.upto.0 in
      let opened = opens since told cap from disk first lived few none_torn stands since_then in
      let behind = lived_steps found first run.steps stands.size_is run.are opened in
      let promised = subst (λ (l : List (ℕ × ℕ)). LivedOpen (found ++ l)
      (standby_behind first run.steps)) run.promised behind in
      let at_last = subst (LivedOpen (found ++ more)) run.behind promised in
      closes since (found ++ more) last at_last
