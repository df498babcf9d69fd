-- `of` makes a value of no memory, whose place is the one that was picked.
use Rattle.atomic_table.proofs.Names.{[], ◌∷◌, refl, a_type, dcons, dnil, Val, vstruct, vcons, vnil, inst_fn, SProp, ftrue, flft, ‵, raw, ◌⊛◌, ◌$◌, ◌∵◌, !, qed, done, join, keep, move, split, suffices, no_more, and_then, returns, enter, alloc_all, pass_all, free_all, look_at, get, sets, agg, tables, owns, types_at, nothing, bounded, Stays, ends_at, walk_of, fact}
use denote.Shadow.{pure_i}
use denote.Triple.Walked.{says}
use Rattle.atomic_table.proofs.Walks.{proved}
use Rattle.wal_rule.specs.declared.place.OrderPlace.{OrderPlace}
use Rattle.wal_rule.specs.contracts.place.OrderPlace as T
use Rattle.wal_rule.specs.contracts.place.OrderPlace.of.{ended, clauses}
use Rattle.wal_rule.specs.contracts.place.OrderPlace.of.Key.{name as #self}
use Rattle.wal_rule.proofs.place.OrderPlace.of.Statement.{statement}
use Rattle.wal_rule.proofs.place.OrderPlace.of.Code as code

abbrev v : Val
v = vstruct (vcons (vstruct vnil) vnil)

pub of_spec : {M : Type 1} → statement M
of_spec 𝓤 𝓛 𝓜 𝓡 wired B _ g d _ =
    let H = 𝓛.H in let 𝓣 = tables 𝓤 H 𝓜 𝓡 𝓡.env in
    let En = ended B g d in let c = clauses B g d 𝓛 𝓜.mem 𝓡.returns in
    let inst = bounded (a_type ∷ []) (B, tt) (dcons d dnil) in let fn = inst_fn inst code.function in
    let hs : Stays En.signature.params En.kept = tt in
    proved 𝓛 En hs c 𝓜 𝓡 tt (#self inst) fn (code.unfolded 𝓤 H 𝓜 𝓡 wired (B, tt) d)
    (λ κs. tt) (λ κs. tt) (λ κs qs bounds a gh are.
    let r : OrderPlace = record { marker = record {}; place = g.place } in
    let y : (walk_of 𝓛 En hs c).Ghost = ((κs, qs, bounds, a, tt), gh) in
    let Post : Val → SProp 𝓤 = (walk_of 𝓛 En hs c).post y in
    qed 𝓛 (((‵ (flft κs.0 qs.0) ⊛ ‵ ftrue) ⊛ ‵ (owns (types_at En.signature.params κs) a tt)) ∷ raw (fact 𝓤 _) ∷ ‵ ftrue ∷ []) ∵
    keep ! (0 ∷ []) $ split ! $ keep ! (0 ∷ []) $
    enter ! 𝓣.C 𝓣.Λ fn [] Post $ alloc_all ! (λ l. pass_all ! refl tt $
    sets ! (agg ! (no_more !)) refl (tt, tt) $ sets ! (agg ! (and_then ! (get ! refl) (no_more !))) refl (tt, (tt, tt)) $
    returns ! (look_at ! 0 refl) $ free_all ! refl $
    pure_i ! ((T.the_row).own_val r (v ∷ [])) ((λ vss. (tt, ((λ uss. (tt, tt)), tt))), tt) (((vstruct vnil ∷ [], tt), (refl, ((tt, (refl, tt)), tt))), tt) $
    suffices ! _ (ends_at 𝓛 En hs c y v r tt tt) $ says ! refl $ nothing ! $ join ! $ move ! (1 ∷ 0 ∷ []) $ join ! $ done !))
