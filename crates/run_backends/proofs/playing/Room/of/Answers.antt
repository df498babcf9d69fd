use Rattle.std.proofs.Common.{◌≡◌, ◌++◌, All, List, [], ◌∷◌, length, refl, sym, ap, ◌∙◌, subst, arith}
use Rattle.std.proofs.lemmas.List.Elements.{All-push}
use Rattle.std.specs.Prelude.{Vec}
use Rattle.std.specs.declared.alloc.Global.{Global}
use Rattle.run_script.specs.declared.line.Line.{Line}
use Rattle.run_backends.specs.declared.backend.AnsweredLines.{AnsweredLines}
use Rattle.run_backends.specs.Backends.{HasRoom, scripts_of}
use Rattle.run_backends.proofs.playing.Room.of.Goals as goal

-- one backend more, whose lines are the next ones
one_more : (done : List AnsweredLines) (next : AnsweredLines) (rest : List (Vec Line Global))
    → scripts_of (done ++ next ∷ []) ++ rest ≡ scripts_of done ++ next.lines ∷ rest
one_more [] next rest = refl
one_more (first ∷ done) next rest =
    ap (λ (scripts : List (Vec Line Global)). first.lines ∷ scripts) (one_more done next rest)

pub loop-lines-preserved : goal.loop-lines-preserved
loop-lines-preserved c =
    let done : List AnsweredLines = c.loop-lines.backends.items in
    let next : AnsweredLines = c.in_ok-of.field-0 in
    let rest : List (Vec Line Global) = c.next.new.self.rest.items in
    let pushed = c.push_reserved.ensures in
    let step = c.in-Some.ensures.steps.0 in
    let before = c.loop-lines.invariant in
    let len_old = c.loop-lines.backends.ok.0 in
    let len_new = c.push_reserved.new.self.ok.0 in
    let one = ap length step in record {
      lines = ap (λ (all : List AnsweredLines). scripts_of all ++ rest) pushed.items
          ∙ one_more done next rest
          ∙ ap (λ (lines : Vec Line Global). scripts_of done ++ lines ∷ rest)
          c.in_ok-of.ensures.lines
          ∙ ap (λ (left : List (Vec Line Global)). scripts_of done ++ left) (sym step)
          ∙ before.lines;
      each = subst (All HasRoom) (sym pushed.items)
          (All-push HasRoom done next before.each c.in_ok-of.ensures.room);
      room = omega (arith, len_old, len_new, pushed.len, pushed.capacity, one, before.room);
    }
