-- The calls that put a page, as the four functions make them that it takes.
use Rattle.std.proofs.Common.{◌≡◌, ℕ, ◌/◌, ◌%◌, Bool, inl, inr, eqb, List, [], ◌∷◌, ◌++◌, nat_lt, if◌then◌else◌, sym, ap, ◌∙◌, append_assoc}
use Rattle.std.proofs.lemmas.Bool.{cases_Bool}
use Rattle.byte_position.specs.Geometry.{pages_of}
use Rattle.segment_disk.specs.declared.disk.Call.{Call}
use Rattle.segment_disk.specs.Tape.{sync_call, write_call}
use Rattle.flush_core.specs.declared.protocol.NextCall.TheVariants.{Sync, Write}
use Rattle.flush_core.specs.Calls.{calls_before, calls_behind, make_calls, maybe, page_calls, to_sync, waiting_calls}
use Rattle.machine_state.specs.Views.{Plain}

-- with the page's segment by a count of pages
module _ (size count page upto : ℕ) (bytes : List ℕ) (a : Plain) where
  abbrev pub settled : List Call
  settled = calls_before size a.made a.waiting (page / count)

  abbrev pub made : List Call
  made = make_calls size (page / count) (nat_lt a.made (page / count))

  abbrev pub written : List Call
  written = write_call size (page / count) (page % count) bytes ∷ []

  abbrev pub full : List Call
  full = if eqb (upto % size) 0 then sync_call size (page / count) ∷ [] else []

  pub in_order : count ≡ pages_of size
      → settled ++ (made ++ (written ++ full)) ≡ page_calls size a.made a.waiting page upto bytes
  in_order many = ap (λ (n : ℕ). calls_before size a.made a.waiting (page / n)
      ++ (make_calls size (page / n) (nat_lt a.made (page / n))
      ++ ((write_call size (page / n) (page % n) bytes ∷ [])
      ++ (if eqb (upto % size) 0 then sync_call size (page / n) ∷ [] else [])))) many
      ∙ ap (λ (l : List Call). calls_before size a.made a.waiting (page / pages_of size) ++ l)
      (sym (append_assoc
      (make_calls size (page / pages_of size) (nat_lt a.made (page / pages_of size)))
      (write_call size (page / pages_of size) (page % pages_of size) bytes ∷ [])
      (if eqb (upto % size) 0 then sync_call size (page / pages_of size) ∷ [] else [])))

-- what is called behind a page is the sync of its segment, where that ends there
behind_is : (size page upto : ℕ)
    → calls_behind size page upto
    ≡ (if eqb (upto % size) 0 then sync_call size (page / pages_of size) ∷ [] else [])
behind_is size page upto = elim (cases_Bool (eqb (upto % size) 0)) [
  | inl ends ↦ ap (λ (b : Bool). waiting_calls size (maybe (to_sync (if b
      then Sync (page / pages_of size) else Write)))) ends
      ∙ sym (ap (λ (b : Bool). if b then sync_call size (page / pages_of size) ∷ [] else []) ends)
  | inr inside ↦ ap (λ (b : Bool). waiting_calls size (maybe (to_sync (if b
      then Sync (page / pages_of size) else Write)))) inside
      ∙ sym (ap (λ (b : Bool). if b then sync_call size (page / pages_of size) ∷ [] else []) inside)
]

-- with what comes behind the page in the end
pub all_in_order : (size count page upto last : ℕ) (bytes : List ℕ) (a : Plain)
    → count ≡ pages_of size → last ≡ upto
    → (settled size count page upto bytes a ++ (made size count page upto bytes a
    ++ written size count page upto bytes a)) ++ calls_behind size page last
    ≡ page_calls size a.made a.waiting page upto bytes
all_in_order size count page upto last bytes a many is =
    let first = settled size count page upto bytes a in
    let next = made size count page upto bytes a in
    let third = written size count page upto bytes a in
    ap (λ (l : List Call). (first ++ (next ++ third)) ++ l)
    (ap (λ (n : ℕ). calls_behind size page n) is ∙ behind_is size page upto
    ∙ ap (λ (n : ℕ). if eqb (upto % size) 0 then sync_call size (page / n) ∷ [] else [])
    (sym many))
    ∙ append_assoc first (next ++ third) (full size count page upto bytes a)
    ∙ ap (λ (l : List Call). first ++ l)
    (append_assoc next third (full size count page upto bytes a))
    ∙ in_order size count page upto bytes a many

-- the same calls, where size and last segment made are told otherwise
pub make_again : (other size segment last first : ℕ) → other ≡ size → last ≡ first
    → make_calls other segment (nat_lt last segment)
    ≡ make_calls size segment (nat_lt first segment)
make_again other size segment last first same still =
    ap (λ (n : ℕ). make_calls n segment (nat_lt last segment)) same
    ∙ ap (λ (n : ℕ). make_calls size segment (nat_lt n segment)) still
