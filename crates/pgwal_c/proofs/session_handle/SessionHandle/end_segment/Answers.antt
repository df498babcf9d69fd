use Rattle.std.proofs.Common.{◌∙◌, None, Some, ap, inr, refl, sym}
use Rattle.embedded_log.specs.declared.appending.Appending.{Appending}
use Rattle.pgwal_c.specs.declared.said.ProgramSaid.{ProgramSaid}
use Rattle.pgwal_c.specs.Told.{SeenSession}
use Rattle.pgwal_c.proofs.Telling.{begins_switching, goes_on_switching, switch_done, switch_knows, switch_refused, switching_was}
use Rattle.pgwal_c.proofs.session_handle.SessionHandle.end_segment.Goals as goal

pub switched-requires : goal.switched-requires
switched-requires c =
    let held = rw (← c.in-Some.ensures.value) at c.self.invariant.1 in (
      held.0,
      held.1,
      c.go_on-append.ensures held.0 held.1 (rw c.into_inner.ensures held.2),
    )

pub returns-in-Some : goal.returns-in-Some
returns-in-Some c =
    goes_on_switching c.args.self.now c.switched.new.self c.into_inner.result c.switched.new.call
    c.switched.result
    (switching_was c.self.inside.switching c.args.self.now
    (ap (λ (x : SeenSession). x.switching) c.self.view_is) (Some c.in-Some.going)
    (sym c.take.ensures.value ∙ c.in-Some.is)
    ∙ ap (λ (x : Appending ProgramSaid). Some x) (sym c.into_inner.ensures))
    (λ body s going. c.switched.ensures body s (c.go_on-append.ensures body s going))

pub returns-in-Stayed : goal.returns-in-Stayed
returns-in-Stayed c =
    begins_switching c.args.self.now _ c.in-Some-take.session _ 0
    (sym (ap (λ (x : SeenSession). x.session) c.self.view_is)
    ∙ (sym c.take-2.ensures.value ∙ c.in-Some-take.is))
    (switching_was c.self.inside.switching c.args.self.now
    (ap (λ (x : SeenSession). x.switching) c.self.view_is) None
    (sym c.take.ensures.value ∙ c.in_default.is))
    (switch_done _ c.in-Some-take.session c.in-Stayed.session _ _ refl c.in-Stayed.ensures.1
    (inr c.in-Stayed.ensures.0))

pub returns-in-Refused : goal.returns-in-Refused
returns-in-Refused c =
    begins_switching c.args.self.now _ c.in-Some-take.session _ _
    (sym (ap (λ (x : SeenSession). x.session) c.self.view_is)
    ∙ (sym c.take-2.ensures.value ∙ c.in-Some-take.is))
    (switching_was c.self.inside.switching c.args.self.now
    (ap (λ (x : SeenSession). x.switching) c.self.view_is) None
    (sym c.take.ensures.value ∙ c.in_default.is))
    (switch_refused _ c.in-Some-take.session c.in-Refused.session _ _ _
    (c.switch_answer.ensures.other).0 (c.switch_answer.ensures.other).1
    (λ down. switch_knows _ c.in-Some-take.session c.in-Refused.session c.in-Refused.why _
    (c.switch_answer.ensures.down down) c.in-Refused.ensures.0) refl c.in-Refused.ensures.1)
