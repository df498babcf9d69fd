-- `of` makes a value of no memory, whose segments are those that were picked.
use Rattle.std.proofs.Common.{[], ◌∷◌, refl}
use seplogic.Ra.Ura.{Ura}
use mir.Syntax.{Callee, Fn, a_type, dcons, dnil}
use mir.Val.{Val, vstruct, vcons, vnil}
use mir.MapTy.{inst_fn}
use base.Logic.{SProp, ent, sep}
use base.Fml.{flft, ftrue}
use prog.Model.{Model}
use prog.Wp.{Closed, WpFn}
use types.Logic.{Logic}
use types.Kit.{‵, raw, ◌⊛◌, ◌$◌, ◌∵◌, !, qed, done, join, keep, move, split, suffices}
use types.Run.{no_more, and_then, returns, enter}
use types.ByLocal.{alloc_all, pass_all, free_all, look_at, get, sets}
use types.Part.{agg}
use contract.Lifetimes.{Lfts, Shares, AllOutlive}
use contract.Monad.{fact}
use contract.Running.{Running, MachineTables, tables, tables_of}
use sound.WpLaws.{WpFn-mono}
use denote.Laws.{Spells, Tellss, Ises, Are, valss}
use denote.Param.{bounded}
use denote.RattleType.{flat, owns}
use denote.Signature.{Signature, types_at}
use denote.Steps.{nothing}
use denote.Triple.Clauses.{Ended, Clauses, closing}
use denote.Triple.Entry.{Args, on_entry}
use denote.Triple.Spec.{Meets, triple_of}
use denote.Triple.Table.{entered}
use denote.Triple.Walked.{Stays, AllGo, ends_at, walk_of, walked, walk_Meets}
use denote.Shadow.{pure_i}
use denote.Triple.Walked.{says}
use Rattle.hosted_disk.specs.declared.held_first.HeldFirst.{HeldFirst}
use Rattle.hosted_disk.specs.contracts.held_first.HeldFirst as T
use Rattle.hosted_disk.specs.contracts.held_first.HeldFirst.of.{ended, clauses}
use Rattle.hosted_disk.specs.contracts.held_first.HeldFirst.of.Key.{name as #self}
use Rattle.hosted_disk.proofs.held_first.HeldFirst.of.Statement.{statement}
use Rattle.hosted_disk.proofs.held_first.HeldFirst.of.Code as code

abbrev v : Val
v = vstruct (vcons (vstruct vnil) vnil)

module _ {M : Type 1} {𝓤 : Ura M} (𝓛 : Logic 𝓤) (T : Ended) (hs : Stays T.signature.params T.kept) (c : Clauses 𝓤 T) where
  open 𝓛 use {H}

  abbrev S : Signature
  S = T.signature

  module _ (𝓜 : Model 𝓤 H) (𝓡 : Running 𝓤 H 𝓜) where
    abbrev 𝓣 : MachineTables 𝓤 H 𝓜
    𝓣 = tables 𝓤 H 𝓜 𝓡 𝓡.env

    proved : AllGo 𝓛 S.lifetimes S.params T.kept hs → (k : Callee) (e : Fn) → Closed 𝓤 H 𝓣.C 𝓣.Λ k e
        → (sp : (κs : Lfts S.lifetimes) → Spells (types_at S.params κs)) → ((κs : Lfts S.lifetimes) → Tellss (types_at S.params κs) (Ises (types_at S.params κs)) (sp κs))
        → ((κs : Lfts S.lifetimes) (qs : Shares S.lifetimes) (bounds : AllOutlive S.lifetimes S.outlives κs) (a : Args S κs) (g : (c κs a).ghost)
        → Are (types_at S.params κs) (Ises (types_at S.params κs)) a (valss (types_at S.params κs) (sp κs) a)
        → ent 𝓤 (sep 𝓤 (on_entry 𝓛 S κs qs a (valss (types_at S.params κs) (sp κs) a)) ((c κs a).requires g))
        (WpFn 𝓤 H 𝓣.C 𝓣.Λ e (flat (types_at S.params κs) (valss (types_at S.params κs) (sp κs) a)) ((walk_of 𝓛 T hs c).post ((κs, qs, bounds, a, valss (types_at S.params κs) (sp κs) a), g))))
        → Meets 𝓛 S (𝓣.C k) (closing 𝓛 T c)
    unfolding tables_of
    proved go k e closed sp tells walk = entered 𝓤 H (triple_of 𝓛 S (closing 𝓛 T c)) 𝓣.C 𝓣.Λ k e closed
        (walk_Meets 𝓛 T hs go c (WpFn 𝓤 H 𝓣.C 𝓣.Λ e) (WpFn-mono 𝓤 H 𝓛.laws (tables_of 𝓤 H 𝓜 𝓣) e) (walked 𝓛 T hs c (WpFn 𝓤 H 𝓣.C 𝓣.Λ e) sp tells walk))

pub of_spec : {M : Type 1} → statement M
of_spec 𝓤 𝓛 𝓜 𝓡 wired B _ g d _ =
    let H = 𝓛.H in let 𝓣 = tables 𝓤 H 𝓜 𝓡 𝓡.env in
    let En = ended B g d in let c = clauses B g d 𝓛 𝓜.mem 𝓡.returns in
    let inst = bounded (a_type ∷ []) (B, tt) (dcons d dnil) in let fn = inst_fn inst code.function in
    let hs : Stays En.signature.params En.kept = tt in
    proved 𝓛 En hs c 𝓜 𝓡 tt (#self inst) fn (code.unfolded 𝓤 H 𝓜 𝓡 wired (B, tt) d)
    (λ κs. tt) (λ κs. tt) (λ κs qs bounds a gh are.
    let r : HeldFirst = record { marker = record {}; segments = g.segments } in
    let y : (walk_of 𝓛 En hs c).Ghost = ((κs, qs, bounds, a, tt), gh) in
    let Post : Val → SProp 𝓤 = (walk_of 𝓛 En hs c).post y in
    qed 𝓛 (((‵ (flft κs.0 qs.0) ⊛ ‵ ftrue) ⊛ ‵ (owns (types_at En.signature.params κs) a tt)) ∷ raw (fact 𝓤 _) ∷ ‵ ftrue ∷ []) ∵
    keep ! (0 ∷ []) $ split ! $ keep ! (0 ∷ []) $
    enter ! 𝓣.C 𝓣.Λ fn [] Post $ alloc_all ! (λ l. pass_all ! refl tt $
    sets ! (agg ! (no_more !)) refl (tt, tt) $ sets ! (agg ! (and_then ! (get ! refl) (no_more !))) refl (tt, (tt, tt)) $
    returns ! (look_at ! 0 refl) $ free_all ! refl $
    pure_i ! ((T.the_row).own_val r (v ∷ [])) ((λ vss. (tt, ((λ uss. (tt, tt)), tt))), tt) (((vstruct vnil ∷ [], tt), (refl, ((tt, (refl, tt)), tt))), tt) $
    suffices ! _ (ends_at 𝓛 En hs c y v r tt tt) $ says ! refl $ nothing ! $ join ! $ move ! (1 ∷ 0 ∷ []) $ join ! $ done !))
