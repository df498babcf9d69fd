-- What a lane is told of the calls that it makes.
use Rattle.std.proofs.Common.{◌≡◌, ℕ, List, [], ◌∷◌, ◌++◌, append_assoc, Global, Option, None, Some, Vec, inl, inr, refl, sym, ap, ◌∙◌, subst}
use Rattle.std.specs.Prelude.{MatchOption, option_to_list}
use Rattle.std.proofs.lemmas.List.{append-nil}
use Rattle.wal_log.specs.declared.wal.Wal.{Wal}
use Rattle.wal_log.specs.Standing.{KeepsPass}
use Rattle.wal_log.proofs.Keeping.{further_pass, same_pass}
use Rattle.durable_map.specs.Asked.{AreTold, TellsChange, TellsPart, change_told, changes_of_call, changes_told}
use Rattle.durable_map.specs.Calls.{ChangeCall, LeadTo}
use Rattle.durable_map.specs.Sharing.{GivesTold, IsSameLane, MakesItsCalls, WorksOff, view_in_lane}
use Rattle.durable_map.specs.Stores.{IsPartOfLog, view_of_part}
use Rattle.durable_map.specs.declared.asked.MapCall.{MapCall}
use Rattle.durable_map.specs.declared.asked.MapCall.TheVariants.{Set, Get, Del}
use Rattle.durable_map.specs.declared.asked.MapTold.{MapTold}
use Rattle.durable_map.specs.declared.asked.MapTold.TheVariants.{Changed, Value, NoMemory}
use Rattle.durable_map.specs.declared.part.MapPart.{MapPart}
use Rattle.durable_map.specs.declared.sharing.MapLane.{MapLane}

-- ---- one answer is taken

pub gives_told : (first : Option MapTold) (old new : MapLane) → new.part ≡ old.part
    → new.calls ≡ old.calls → (old.told).items ≡ option_to_list first ++ (new.told).items
    → MatchOption first (IsSameLane old new) (λ told. GivesTold told old new)
gives_told None old new part calls told = record {
  part = part;
  calls = ap (λ (c : Vec MapCall Global). c.items) calls;
  told = sym told;
}
gives_told (Some one) old new part calls told = record {
  part = part;
  calls = ap (λ (c : Vec MapCall Global). c.items) calls;
  told_is = told;
}

module _ {D : Type 0} (wal : Wal D) where
  -- ---- one call more

  pub told_more : (done : List MapCall) (call : MapCall) (made : List MapTold) (told : MapTold)
      (old mid new : MapPart) → AreTold wal done old made mid → TellsPart wal call mid new told
      → AreTold wal (done ++ call ∷ []) old (made ++ told ∷ []) new
  told_more [] call [] told old mid new are tells =
      (new, subst (λ (part : MapPart). TellsPart wal call part new told) are tells, refl)
  told_more [] call (t ∷ made) told old mid new are tells = absurd are
  told_more (c ∷ done) call [] told old mid new are tells = absurd are
  told_more (c ∷ done) call (t ∷ made) told old mid new are tells =
      (are.0, are.1, told_more done call made told are.0 mid new are.2 tells)

  -- a lane has made some of these calls, and others are left
  pub record IsWorking (all : List MapCall) (first now : MapLane) (left : List MapCall)
      : Type 0 where
    pub pass : IsPartOfLog wal now.part
    pub keeps : KeepsPass (view_in_lane first) (view_in_lane now)
    pub same_calls : now.calls ≡ first.calls
    pub done : List MapCall
    pub made : List MapTold
    pub asked : all ≡ done ++ left
    pub told_is : (now.told).items ≡ (first.told).items ++ made
    pub are : AreTold wal done first.part made now.part

  pub none_made : (all left : List MapCall) (first : MapLane) → left ≡ all
      → IsPartOfLog wal first.part → IsWorking all first first left
  none_made all left first is pass = record {
    pass = pass;
    keeps = same_pass (view_in_lane first);
    same_calls = refl;
    done = [];
    made = [];
    asked = sym is;
    told_is = sym (append-nil (first.told).items);
    are = refl;
  }

  pub one_made : (all rest left : List MapCall) (first now next : MapLane) (call : MapCall)
      (told : MapTold) → IsWorking all first now rest → rest ≡ call ∷ left
      → IsPartOfLog wal next.part → KeepsPass (view_in_lane now) (view_in_lane next)
      → TellsPart wal call now.part next.part told → next.calls ≡ now.calls
      → (next.told).items ≡ (now.told).items ++ told ∷ [] → IsWorking all first next left
  one_made all rest left first now next call told w are pass keeps tells calls more = record {
    pass = pass;
    keeps = further_pass (view_in_lane first) (view_in_lane now) (view_in_lane next) w.keeps keeps;
    same_calls = calls ∙ w.same_calls;
    done = w.done ++ call ∷ [];
    made = w.made ++ told ∷ [];
    asked = w.asked ∙ ap (λ (l : List MapCall). w.done ++ l) are
        ∙ sym (append_assoc w.done (call ∷ []) left);
    told_is = more ∙ ap (λ (l : List MapTold). l ++ told ∷ []) w.told_is
        ∙ append_assoc (first.told).items w.made (told ∷ []);
    are = told_more w.done call w.made told first.part now.part next.part w.are tells;
  }

  pub all_made : (all left : List MapCall) (first now : MapLane) → IsWorking all first now left
      → left ≡ [] → MakesItsCalls wal all first now
  all_made all left first now w none = record {
    pass = w.pass;
    keeps = w.keeps;
    same_calls = w.same_calls;
    made = w.made;
    told_is = w.told_is;
    are = subst (λ (calls : List MapCall). AreTold wal calls first.part w.made now.part)
        (sym (w.asked ∙ ap (λ (l : List MapCall). w.done ++ l) none ∙ append-nil w.done)) w.are;
  }

  -- the calls are taken out of the lane first
  pub worked_off : (taken empty : Vec MapCall Global) (first old new : MapLane)
      → taken ≡ first.calls → old.calls ≡ empty → empty.items ≡ [] → old.part ≡ first.part
      → (old.told).items ≡ (first.told).items → MakesItsCalls wal taken.items old new
      → WorksOff wal first new
  worked_off taken empty first old new is cleared none part told m = record {
    pass = m.pass;
    keeps = subst (λ (p : MapPart). KeepsPass (view_of_part p) (view_in_lane new)) part m.keeps;
    none_left = ap (λ (c : Vec MapCall Global). c.items) (m.same_calls ∙ cleared) ∙ none;
    made = m.made;
    told_is = m.told_is ∙ ap (λ (l : List MapTold). l ++ m.made) told;
    are = inl (subst (λ (c : Vec MapCall Global). AreTold wal c.items first.part m.made new.part)
        is (subst (λ (p : MapPart). AreTold wal taken.items p m.made new.part) part m.are));
  }

  pub not_worked : (empty : Vec MapCall Global) (first new : MapLane)
      → IsPartOfLog wal first.part → new.calls ≡ empty → empty.items ≡ []
      → new.part ≡ first.part → (new.told).items ≡ (first.told).items → WorksOff wal first new
  not_worked empty first new pass cleared none part told = record {
    pass = subst (IsPartOfLog wal) (sym part) pass;
    keeps = subst (λ (p : MapPart). KeepsPass (view_in_lane first) (view_of_part p)) (sym part)
        (same_pass (view_in_lane first));
    none_left = ap (λ (c : Vec MapCall Global). c.items) cleared ∙ none;
    made = [];
    told_is = told ∙ sym (append-nil (first.told).items);
    are = inr (refl, part);
  }

  -- ---- what was changed

  change_leads : (key : List ℕ) (value : Option (List ℕ)) (told : MapTold)
      (old next new : MapPart) (rest : List ChangeCall)
      → TellsChange wal key value old next told → LeadTo wal rest next new
      → LeadTo wal (change_told key value told ++ rest) old new
  change_leads key value (Changed answer) old next new rest tells leads = (next, tells, leads)
  change_leads key value (Value told) old next new rest tells leads = absurd tells
  change_leads key value NoMemory old next new rest tells leads = absurd tells

  call_leads : (call : MapCall) (told : MapTold) (old next new : MapPart) (rest : List ChangeCall)
      → TellsPart wal call old next told → LeadTo wal rest next new
      → LeadTo wal (changes_of_call call told ++ rest) old new
  call_leads (Set key value) told old next new rest tells leads =
      change_leads key.items (Some value.items) told old next new rest tells leads
  call_leads (Del key) told old next new rest tells leads =
      change_leads key.items None told old next new rest tells leads
  call_leads (Get key) told old next new rest tells leads =
      subst (λ (part : MapPart). LeadTo wal rest part new) tells.0 leads

  pub told_leads : (calls : List MapCall) (made : List MapTold) (old new : MapPart)
      → AreTold wal calls old made new → LeadTo wal (changes_told calls made) old new
  told_leads [] [] old new are = are
  told_leads [] (told ∷ made) old new are = absurd are
  told_leads (call ∷ calls) [] old new are = absurd are
  told_leads (call ∷ calls) (told ∷ made) old new are =
      call_leads call told old are.0 new (changes_told calls made) are.1
      (told_leads calls made are.0 new are.2)
