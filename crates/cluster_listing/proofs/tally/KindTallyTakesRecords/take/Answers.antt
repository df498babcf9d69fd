use Rattle.std.proofs.Common.{◌≡◌, ℕ, ◌+◌, ◌*◌, ◌<◌, [], ◌∷◌, ◌++◌, set, ap, subst, ◌∙◌, append_assoc, arith}
use Rattle.waldump_text.proofs.TallyLaws.{with_one}
use Rattle.cluster_listing.specs.Statistics.{TalliesKinds, kind_number, row_of}
use Rattle.cluster_listing.specs.declared.tally.KindTally.{KindTally}
use Rattle.cluster_listing.proofs.TallyLaws.{TalliesKinds-more, added}
use Rattle.cluster_listing.proofs.tally.KindTallyTakesRecords.take.Goals as goal

pub returns-clause-took : goal.returns-clause-took
returns-clause-took c =
    let r = c.args.r.now in
    let old = c.args.self.now in
    let rmid = c.args.r.now.value.rmid in
    let kind = c.args.r.now.value.rmid * 16 + c.kind_of.result in
    let new : KindTally = record { managers = set old.managers rmid c.in_ok-self.field-0; kinds = set old.kinds kind c.in_ok-self-2.field-0; all = c.in_ok-self-3.field-0 } in
    let low : c.args.r.now.value.rmid < 256 = omega arith in
    let is_kind : kind ≡ kind_number r = ap (λ (n : ℕ). c.args.r.now.value.rmid * 16 + n) c.kind_of.ensures.value in
    let small : kind < 4096 = omega (arith, c.kind_of.ensures.few) in
    let managers = ap (set old.managers rmid) (added r (row_of old.managers rmid) _ _ c.images_of-images.ensures c.in_ok-self.ensures.more) in
    let kinds = ap (set old.kinds kind) (added r (row_of old.kinds kind) _ _ c.images_of-images.ensures c.in_ok-self-2.ensures.more) ∙ ap (λ (n : ℕ). set old.kinds n (with_one r (row_of old.kinds n))) is_kind in
    let all = added r old.all _ _ c.images_of-images.ensures c.in_ok-self-3.ensures.more in
    λ first before was. (λ earlier tallies.
    (subst (TalliesKinds new) (append_assoc earlier before (r ∷ []))
    (TalliesKinds-more old new r (earlier ++ before) low (subst (λ (n : ℕ). n < 4096) is_kind small) managers kinds all (was earlier tallies))))
