-- Texts of records put into a sink, one behind another.
use Rattle.std.proofs.Common.{◌≡◌, ℕ, List, [], ◌∷◌, ◌++◌, take, Option, refl, ap, subst, sym, ◌∙◌}
use Rattle.std.proofs.lemmas.List.{append-nil}
use Rattle.std.proofs.lemmas.Grind.{flat_map-append}
use Rattle.segment_disk.specs.Stream.{with_behind}
use Rattle.waldump_filter.specs.declared.listed.Listed.{Listed}
use Rattle.waldump_text.specs.Put.{HasPut}
use Rattle.waldump_text.proofs.SinkLaws.{HasPut-front_of_next, with_behind-append}
use Rattle.cluster_listing.specs.Form.{record_text}
use Rattle.cluster_listing.specs.Listing.{FaultsBy, PutAll, PutFront, records_text}
use Rattle.cluster_listing.specs.declared.form.Form.{Form}
use Rattle.cluster_listing.specs.declared.taking.TakeErr.{TakeErr}

-- a record's text fails behind those that were put, whatever would have come behind it
pub put_front : (form : Form) (old mid new : Option (List ℕ)) (before between after : ℕ) (e : TakeErr) (past : List Listed) (r : Listed) (more : List Listed)
    → PutAll old mid before between (records_text form past) → (n : ℕ) × (new ≡ with_behind mid (take n (record_text form r))) → FaultsBy e between after → PutFront old new before after e (records_text form (past ++ r ∷ more))
put_front form old mid new before between after e past r more all front faults =
    let whole : HasPut old mid before between (records_text form (past ++ r ∷ more)) (record_text form r ++ records_text form more) =
    record { front = records_text form past; parts = flat_map-append (record_text form) past (r ∷ more); taken = all.put; faults = all.faults } in
    let taken = HasPut-front_of_next (record_text form r) (records_text form more) whole refl front in
    record { count = taken.0; put = taken.1; faults = subst (λ n. FaultsBy e n after) all.faults faults }

-- a record's text goes behind those that were put
pub put_more : (form : Form) (old mid new : Option (List ℕ)) (before between after : ℕ) (past : List Listed) (r : Listed)
    → PutAll old mid before between (records_text form past) → new ≡ with_behind mid (record_text form r) → after ≡ between → PutAll old new before after (records_text form (past ++ r ∷ []))
put_more form old mid new before between after past r all taken faults = record {
  put =
      taken
      ∙ ap (λ (text : Option (List ℕ)). with_behind text (record_text form r)) all.put
      ∙ with_behind-append old (records_text form past) (record_text form r)
      ∙ ap (with_behind old) (sym (flat_map-append (record_text form) past (r ∷ []) ∙ ap (λ text. records_text form past ++ text) (append-nil (record_text form r))));
  faults = faults ∙ all.faults;
}
