-- An entry that was sealed is found in whatever a crash leaves.
use Rattle.std.proofs.Common.{◌≡◌, inl, inr, ℕ, ◌<◌, ◌≤◌, cond, Bool, true, false, Contains, List, [], ◌∷◌, length, take, Option, Some, refl, sym, ap, ◌∙◌, subst, arith, get_or}
use Rattle.std.proofs.lemmas.List.{get_or-take, length-take-le}
use Rattle.std.proofs.lemmas.List.Elements.{All-contains, Contains-append_cases, Contains-append_left, Contains-append_right, Contains-push, Contains-push_cases}
use Rattle.std.proofs.lemmas.Option.{slice_get_read}
use Rattle.byte_position.specs.Position.{address_of}
use Rattle.wal_spelling.specs.Spelling.{Assembled}
use Rattle.wal_types.specs.declared.answers.Sealed.{Sealed}
use Rattle.flush_core.specs.Pages.{HoldsNothing}
use Rattle.segment_disk.specs.Tape.{Tape}
use Rattle.wal_page.specs.Order.{Entry, finish_of}
use Rattle.machine_state.specs.Ordered.{entries_under, is_pass}
use Rattle.machine_state.specs.Views.{FlushPromise, Joined, View}
use Rattle.machine_state.specs.Words.{Opening}
use Rattle.wal_reader.specs.declared.found.FoundRecord.{FoundRecord}
use Rattle.written_log_laws.specs.Written.{found_entry, found_from}
use Rattle.wal_rule.specs.declared.pass.Pass.{Pass}
use Rattle.wal_rule.specs.Passes.{view_of_pass}
use Rattle.run_laws.specs.Rising.{LogsAreOfOrder}
use Rattle.run_laws.specs.Surviving.{IsFrontAsPromised}
use Rattle.wal_log.specs.declared.closing.Closed.{Closed}
use Rattle.wal_log.specs.declared.wal.Wal.{Wal}
use Rattle.wal_log.specs.Committing.{IsSealed}
use Rattle.wal_log.specs.Logs.{opening_of_log, setup_of_log}
use Rattle.wal_log.specs.PassLogs.{PassLog, log_of_pass, log_with_entry}
use Rattle.wal_log_laws.specs.Growing.{HasGrown, HasLog}
use Rattle.wal_log_laws.specs.Keeping.{KeepsPromises, LeavesOrder}
use Rattle.wal_log_laws.specs.Surviving.{Survives}
use Rattle.wal_log_laws.specs.Told.{HasEntry, HasPromise, promise_to}
use Rattle.wal_log_laws.proofs.Promised.{commit_promises, commit_reserved, still_entry, still_promise, was_promised}

-- ---- lists

-- what the rest has, the whole has, with the first one or without it
with_first : (first : Bool) (x e : Entry) (under rest : List Entry)
    → (Contains under e → Contains rest e) → Contains (cond first (x ∷ under) under) e
    → Contains (x ∷ rest) e
with_first true x e under rest goes has = elim (Contains-append_cases (x ∷ []) under e has) [
  | inl here ↦ Contains-append_left (x ∷ []) rest e here
  | inr there ↦ Contains-append_right (x ∷ []) rest e (goes there)
]
with_first false x e under rest goes has = Contains-append_right (x ∷ []) rest e (goes has)

in_order : (number : ℕ) (order : List Entry) (e : Entry)
    → Contains (entries_under number order) e → Contains order e
in_order number [] e has = has
in_order number (x ∷ order) e has = with_first (is_pass number x.pass) x e
    (entries_under number order) order (in_order number order e) has

-- an only one
only_one : (x e : Entry) → Contains (x ∷ []) e → x ≡ e
only_one x e has = elim (Contains-push_cases [] x e has) [
  | inl none ↦ absurd (omega (arith, none.1))
  | inr is ↦ is
]

-- an entry of a front is found in it
pub found_there : (size prev : ℕ) (es : List Entry) (e : Entry) → Contains es e
    → (before : ℕ) × Contains (found_from size prev es) (found_entry size before e)
found_there size prev [] e has = absurd (omega (arith, has.1))
found_there size prev (x ∷ es) e has = elim (Contains-append_cases (x ∷ []) es e has) [
  | inl here ↦ (
    prev,
    subst (λ (y : Entry). Contains (found_from size prev (x ∷ es)) (found_entry size prev y))
        (only_one x e here)
        (Contains-append_left (found_entry size prev x ∷ [])
        (found_from size (address_of size x.start) es) (found_entry size prev x)
        (Contains-push [] (found_entry size prev x))),
  )
  | inr there ↦
      let later = found_there size (address_of size x.start) es e there in (
        later.0,
        Contains-append_right (found_entry size prev x ∷ [])
            (found_from size (address_of size x.start) es) (found_entry size later.0 e) later.1,
      )
]

in_front : (order : List Entry) (e : Entry) (n count : ℕ) → n < length order
    → n < count → count ≤ length order → e ≡ get_or order n e → Contains (take count order) e
in_front order e n count within below low is =
    (n, omega (arith, length-take-le count order low, below), get_or-take count order n e below ∙ sym is)

-- ---- what a pass has is in the order

log_in_order : (opening : Opening) (order : List Entry) (v : View)
    → LogsAreOfOrder opening order v.reserving → (l : PassLog) → HasLog l v
    → (number : ℕ) × (l.entries ≡ entries_under number order)
log_in_order opening order v logs l (inl own) =
    ((v.reserving).number, ap (λ (x : PassLog). x.entries) own ∙ logs.own)
log_in_order opening order v logs l (inr its) = (
  (its.0).number,
  ap (λ (x : PassLog). x.entries) its.2
      ∙ All-contains (λ (j : Joined). j.entries ≡ entries_under j.number order)
      (v.reserving).joined its.0 logs.joined its.1,
)

pub entry_in_order : (opening : Opening) (order : List Entry) (v : View)
    → LogsAreOfOrder opening order v.reserving → (e : Entry) → HasEntry e v → Contains order e
entry_in_order opening order v logs e has =
    let part = log_in_order opening order v logs has.0 has.1 in
    in_order part.0 order e (subst (λ (es : List Entry). Contains es e) part.1 has.2)

-- ---- what survives

pub survives : (opening : Opening) (order : List Entry) (t : Tape) (v : View) → KeepsPromises opening order t v → (e : Entry)
    (p : FlushPromise) → HasEntry e v → HasPromise (finish_of (opening.setup).seg_size e) p v
    → Survives (opening.setup).seg_size order t p.moment e
survives opening order t v k e p has told moment image since left torn found answer decodes =
    let size = (opening.setup).seg_size in
    let was = was_promised v (finish_of size e) p told in
    let began = (k.timely (told.0).entries p was).since in
    let f : IsFrontAsPromised size moment order v found =
    k.fronts moment image (omega (arith, began, since)) left torn found answer decodes in
    let at = entry_in_order opening order v k.logs e has in
    let below = f.promised (told.0).entries p was since at.0 e
    (slice_get_read order (length order) at.0 e refl at.1 (sym at.2)) (told.2).reaches in
    let holds = in_front order e at.0 f.count at.1 below f.within (sym at.2) in
    let there = found_there size 0 (take f.count order) e holds in
    record {
      count = f.count;
      front = f.front;
      holds = holds;
      prev = there.0;
      there = subst (λ (rs : List FoundRecord). Contains rs (found_entry size there.0 e))
          (sym f.front) there.1;
    }

pub sealed_survives : {D : Type 0} → (tape : D → Option Tape) (disk : D) (wal : Wal D)
    (pass : Pass) (closed : Closed D) (order : List Entry)
    → LeavesOrder tape disk wal pass closed order → HoldsNothing (tape disk)
    → (t : Tape) → tape closed.disk ≡ Some t
    → (body : Assembled) (old new : View) (sealed : Sealed)
    (s : IsSealed (setup_of_log wal) body old new sealed)
    → HasGrown (log_of_pass new) (view_of_pass pass)
    → Survives (setup_of_log wal).seg_size order t sealed.moment s.entry
sealed_survives tape disk wal pass closed order leaves nothing t told body old new sealed s grown =
    let setup = setup_of_log wal in
    let v = view_of_pass pass in
    let p = promise_to (log_with_entry s.entry (log_of_pass old)) s.upto sealed.moment in
    survives (opening_of_log wal) order t v
    (leaves.keeps nothing t told) s.entry p
    (still_entry (log_of_pass new) v s.entry (commit_reserved setup body old new sealed s) grown)
    (still_promise (log_of_pass new) v (finish_of setup.seg_size s.entry) p
    (commit_promises setup body old new sealed s) grown)
