-- A record that was begun stays so while it is copied, and is appended once it is whole.
use Rattle.std.proofs.Common.{◌≡◌, ℕ, List, [], ◌∷◌, refl, sym, ap, ◌∙◌, subst, arith}
use mathlib.Core.Option.{Option, some}
use Rattle.wal_spelling.specs.Spelling.{Assembled}
use Rattle.wal_page.specs.Order.{Entry, position_behind}
use Rattle.wal_types.specs.declared.answers.Receipt.{Receipt}
use Rattle.wal_types.specs.declared.lsn.Lsn.{Lsn}
use Rattle.machine_state.specs.declared.setup.Setup.{Setup}
use Rattle.machine_state.specs.Views.{View}
use Rattle.wal_rule.specs.declared.pass.Pass.{Pass}
use Rattle.wal_rule.specs.Passes.{view_of_pass}
use Rattle.wal_log.specs.declared.in_flight.Inflight.{Inflight}
use Rattle.wal_log.specs.declared.wal.Wal.{Wal}
use Rattle.wal_log.specs.Beginning.{IsBegunUnder}
use Rattle.wal_log.specs.Flights.{Finishes, KeepsLog, view_of_flight}
use Rattle.wal_log.specs.Inserting.{HasReserved}
use Rattle.wal_log.specs.PassLogs.{PassLog, log_with_entry}
use Rattle.wal_log.specs.Standing.{KeepsPass, entry_in_flight}
use Rattle.wal_log.specs.Whole.{CopiesWhole}
use Rattle.wal_log.proofs.InsertLaws.{ends_there}
use Rattle.wal_log.proofs.Keeping.{further_pass, same_pass}
use Rattle.wal_log.proofs.WholeLaws.{copied_since}
use Rattle.wal_log_laws.specs.Growing.{GrowsTo}
use Rattle.wal_log_laws.proofs.Grown.{front_itself}
use Rattle.embedded_log.specs.Appended.{IsAppended, IsBegunBy}
use Rattle.embedded_log.specs.Sessions.{HasSeenEnd}
use Rattle.embedded_log.proofs.Ends.{copied_ends_whole}

same_entry : (e f : Entry) (o : Option Entry) → o ≡ some e → o ≡ some f → e ≡ f
same_entry e f o first second = cc

-- a log is one to which an entry was added: it has grown
pub grown_by_entry : (e : Entry) (l m : PassLog) → m ≡ log_with_entry e l → GrowsTo l m
grown_by_entry e l m is = subst (λ (x : PassLog). GrowsTo l x) (sym is) (record {
  entries = (e ∷ [], refl);
  stops = front_itself l.stops;
  promises = front_itself l.promises;
})

module _ (setup : Setup) (body : Assembled) (old : View) where
  pub begins : (flight : Inflight) (locks : List ℕ)
      → IsBegunUnder setup body locks old (view_of_flight flight) (flight.begun).start.0
      (flight.begun).end.0 (flight.begun).placed
      → KeepsPass old (view_of_flight flight) → IsBegunBy setup body old flight
  begins flight locks began keeps =
      let b = flight.begun in let now = view_of_flight flight in record {
        entry = began.entry;
        reserved = began.reserved;
        keeps = keeps;
        in_flight = began.in_flight;
        start_is = began.start_is;
        end_is = ends_there setup body locks old now now b.start.0 b.end.0 b.placed began keeps
            (same_pass now) refl;
      }

  -- what a call keeps of a pass and its log keeps an entry reserved
  kept : (mid new : View) (e : Entry) → HasReserved setup body old mid e → KeepsLog mid new
      → HasReserved setup body old new e
  kept mid new e reserved kept_log = record {
    own = reserved.own;
    log_is = kept_log.log ∙ reserved.log_is;
    seen = (let low = reserved.seen in let rises = (kept_log.keeps).rises in
        omega (arith, low, rises));
  }

  pub goes_on : (flight next : Inflight) → IsBegunBy setup body old flight
      → (next.begun).start ≡ (flight.begun).start → (next.begun).end ≡ (flight.begun).end
      → entry_in_flight (view_of_flight next) ≡ entry_in_flight (view_of_flight flight)
      → KeepsLog (view_of_flight flight) (view_of_flight next) → IsBegunBy setup body old next
  goes_on flight next begun start end same keeps =
      let mid = view_of_flight flight in let new = view_of_flight next in record {
        entry = begun.entry;
        reserved = kept mid new begun.entry begun.reserved keeps;
        keeps = further_pass old mid new begun.keeps keeps.keeps;
        in_flight = same ∙ begun.in_flight;
        start_is = ap (λ (l : Lsn). l.0) start ∙ begun.start_is;
        end_is = ap (λ (l : Lsn). l.0) end ∙ begun.end_is;
      }

  pub ends : {D : Type 0} (wal : Wal D) (flight : Inflight) (receipt : Receipt) (pass : Pass)
      → IsBegunBy setup body old flight → Finishes wal flight receipt pass
      → IsAppended setup body old (view_of_pass pass) receipt
  ends wal flight receipt pass begun done =
      let mid = view_of_flight flight in let new = view_of_pass pass in
      let same = same_entry done.entry begun.entry (entry_in_flight mid) done.in_flight
      begun.in_flight in record {
        entry = begun.entry;
        reserved = kept mid new begun.entry begun.reserved done.keeps;
        copied = copied_since old mid new begun.entry begun.keeps
            (subst (λ (e : Entry). CopiesWhole mid new e) same done.whole);
        start_is = ap (λ (l : Lsn). l.0) done.start_is ∙ begun.start_is;
        end_is = ap (λ (l : Lsn). l.0) done.end_is ∙ begun.end_is;
      }

  -- where it ends the pass has seen
  pub ends_seen : (new : View) (receipt : Receipt) → (new.opening).setup ≡ setup
      → IsAppended setup body old new receipt
      → HasSeenEnd setup receipt.end.0 (new.reserving).seen
  ends_seen new receipt own done =
      let whole = copied_ends_whole setup old new done.entry own done.copied in record {
        at = position_behind setup.seg_size done.entry;
        end_is = done.end_is;
        whole = omega (arith, done.end_is, whole);
        below = (done.reserved).seen;
      }

  pub given_up : (flight : Inflight) (new : View) → IsBegunBy setup body old flight
      → KeepsLog (view_of_flight flight) new
      → (e : Entry) × HasReserved setup body old new e
  given_up flight new begun keeps =
      (begun.entry, kept (view_of_flight flight) new begun.entry begun.reserved keeps)
