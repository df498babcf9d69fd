use Rattle.std.proofs.Common.{◌≡◌, ℕ, Bool, List, [], ◌∷◌, ◌++◌, codes, Option, Err, refl, ap, sym, ◌∙◌, append_assoc}
use Rattle.std.proofs.lemmas.List.{append-nil}
use Rattle.std.proofs.lemmas.Result.{err_from_is_err_and}
use Rattle.waldump_text.specs.Put.{HasPut, Puts, joined}
use Rattle.waldump_text.specs.Listing.{blocks_text, data_text, head_pieces, line_text}
use Rattle.waldump_filter.specs.declared.listed.Listed.{Listed}
use Rattle.waldump_text.specs.declared.putting.SinkFault.{SinkFault}
use Rattle.waldump_text.proofs.JoinedLaws.{joined-append}
use Rattle.waldump_text.proofs.SinkLaws.{HasPut-none, HasPut-further, HasPut-same, Puts-failed, Puts-last}
use Rattle.waldump_text.proofs.lines.put_line.Goals as goal
use Rattle.waldump_text.proofs.lines.put_line.Goals.{In_ok-put_data, In_ok-put_blocks}

-- what a line has behind its data
abbrev ending : Listed → List ℕ
ending r = blocks_text r.value.blocks ++ codes "\n"

-- a line by its head, which is held back, its data and the rest
line_text-parts : (times : Bool) (r : Listed) (head : List ℕ) → head ≡ joined (head_pieces r) → line_text times r ≡ (head ++ data_text times r.value) ++ ending r
line_text-parts times r head is =
    joined-append (head_pieces r) (data_text times r.value ∷ blocks_text r.value.blocks ∷ codes "\n" ∷ [])
    ∙ ap (λ text. text ++ (data_text times r.value ++ ending r)) (sym is)
    ∙ sym (append_assoc head (data_text times r.value) (ending r))

module _ (old : Option (List ℕ)) (before : ℕ) (times : Bool) (r : Listed) where
  data_failed : (new : Option (List ℕ)) (after : ℕ) (head : List ℕ) (fault : SinkFault) → head ≡ joined (head_pieces r) → Puts old new before after (head ++ data_text times r.value) (Err fault) → Puts old new before after (line_text times r) (Err fault)
  data_failed new after head fault is fails = Puts-failed (head ++ data_text times r.value) (ending r) fault (HasPut-none old before (line_text times r)) (line_text-parts times r head is) fails

  -- the line up to its data is put but for what is held back
  data_put : (new : Option (List ℕ)) (after : ℕ) (head held : List ℕ) → head ≡ joined (head_pieces r) → HasPut old new before after (head ++ data_text times r.value) held → HasPut old new before after (line_text times r) (held ++ ending r)
  data_put new after head held is put = HasPut-further (head ++ data_text times r.value) (ending r) (HasPut-none old before (line_text times r)) (line_text-parts times r head is) put

  module _ (mid : Option (List ℕ)) (between : ℕ) (head : List ℕ) (upto : HasPut old mid before between (line_text times r) (head ++ ending r)) (blocks : List _) (same : blocks ≡ r.value.blocks) where
    abbrev parts : head ++ ending r ≡ (head ++ blocks_text blocks) ++ codes "\n"
    parts = ap (λ bs. head ++ (blocks_text bs ++ codes "\n")) (sym same) ∙ sym (append_assoc head (blocks_text blocks) (codes "\n"))

    blocks_failed : (new : Option (List ℕ)) (after : ℕ) (fault : SinkFault) → Puts mid new between after (head ++ blocks_text blocks) (Err fault) → Puts old new before after (line_text times r) (Err fault)
    blocks_failed new after fault fails = Puts-failed (head ++ blocks_text blocks) (codes "\n") fault upto parts fails

    -- the line up to its end is put but for what is held back
    blocks_put : (new : Option (List ℕ)) (after : ℕ) (held : List ℕ) → HasPut mid new between after (head ++ blocks_text blocks) held → HasPut old new before after (line_text times r) (held ++ codes "\n")
    blocks_put new after held put = HasPut-further (head ++ blocks_text blocks) (codes "\n") upto parts put

  module _ (mid : Option (List ℕ)) (between : ℕ) (head : List ℕ) (upto : HasPut old mid before between (line_text times r) (head ++ codes "\n")) where
    end_failed : (new : Option (List ℕ)) (after : ℕ) (fault : SinkFault) → Puts mid new between after (head ++ codes "\n") (Err fault) → Puts old new before after (line_text times r) (Err fault)
    end_failed new after fault fails = Puts-failed (head ++ codes "\n") [] fault upto (sym (append-nil (head ++ codes "\n"))) fails

    end_put : (new : Option (List ℕ)) (after : ℕ) (held : List ℕ) → HasPut mid new between after (head ++ codes "\n") held → HasPut old new before after (line_text times r) held
    end_put new after held put = HasPut-same (HasPut-further (head ++ codes "\n") [] upto (sym (append-nil (head ++ codes "\n"))) put) (append-nil held)

pub returns-in_err-put_data-clause-put : goal.returns-in_err-put_data-clause-put
returns-in_err-put_data-clause-put g c =
    let p = err_from_is_err_and c.from_residual.result c.from_residual.ensures.1 in
    rw p.1 (data_failed _ _ c.args.times c.args.r.now _ _ _ _ c.push_head.ensures (rw p.2 c.in_err-put_data.ensures))

up_to_data : (g : _) (c : In_ok-put_data g) → HasPut (g.O.Sink.taken c.args.out.now) (g.O.Sink.taken c.put_data.new.out) (g.O.Sink.faults c.args.out.now) (g.O.Sink.faults c.put_data.new.out) (line_text c.args.times c.args.r.now) (c.put_data.new.buffer ++ ending c.args.r.now)
up_to_data g c = data_put _ _ c.args.times c.args.r.now _ _ _ _ c.push_head.ensures c.in_ok-put_data.ensures

pub returns-in_err-put_blocks-clause-put : goal.returns-in_err-put_blocks-clause-put
returns-in_err-put_blocks-clause-put g c =
    let p = err_from_is_err_and c.from_residual-in_err-put_blocks.result c.from_residual-in_err-put_blocks.ensures.1 in
    let upto = up_to_data g ((goal.at.returns-in_err-put_blocks-clause-put g c).In_ok-put_data) in
    rw p.1 (blocks_failed _ _ c.args.times c.args.r.now _ _ _ upto _ c.as_slice.ensures _ _ _ (rw p.2 c.in_err-put_blocks.ensures))

up_to_blocks : (g : _) (c : In_ok-put_blocks g) → HasPut (g.O.Sink.taken c.args.out.now) (g.O.Sink.taken c.put_blocks.new.out) (g.O.Sink.faults c.args.out.now) (g.O.Sink.faults c.put_blocks.new.out) (line_text c.args.times c.args.r.now) (c.put_blocks.new.buffer ++ codes "\n")
up_to_blocks g c = blocks_put _ _ c.args.times c.args.r.now _ _ _ (data_put _ _ c.args.times c.args.r.now _ _ _ _ c.push_head.ensures c.in_ok-put_data.ensures) _ c.as_slice.ensures _ _ _ c.in_ok-put_blocks.ensures

pub returns-in_err-append-clause-put : goal.returns-in_err-append-clause-put
returns-in_err-append-clause-put g c =
    let p = err_from_is_err_and c.from_residual-in_err-append.result c.from_residual-in_err-append.ensures.1 in
    let upto = up_to_blocks g ((goal.at.returns-in_err-append-clause-put g c).In_ok-put_blocks) in
    rw p.1 (end_failed _ _ c.args.times c.args.r.now _ _ _ upto _ _ _ (rw p.2 c.in_err-append.ensures))

pub returns-clause-put : goal.returns-clause-put
returns-clause-put g c =
    let upto = up_to_blocks g ((goal.at.returns-clause-put g c).In_ok-put_blocks) in
    let all = end_put _ _ c.args.times c.args.r.now _ _ _ upto _ _ _ c.in_ok-append.ensures in
    Puts-last _ _ c.append.new.self c.flush.result all refl c.flush.ensures.put
