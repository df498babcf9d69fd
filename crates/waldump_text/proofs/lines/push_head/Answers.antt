use Rattle.std.proofs.Common.{[]}
use Rattle.waldump_text.specs.Listing.{head_pieces}
use Rattle.waldump_text.proofs.JoinedLaws.{pushed-is_joined}
use Rattle.waldump_text.proofs.lines.push_head.Goals as goal

pub returns : goal.returns
returns c =
    rw (
      c.push_piece-8.ensures.text,
      c.push.ensures.text,
      c.as_bytes-2.ensures,
      c.record_word.ensures.text,
      c.push_piece-7.ensures.text,
      c.push_position-2.ensures.text,
      c.push_piece-6.ensures.text,
      c.push_position.ensures.text,
      c.push_piece-5.ensures.text,
      c.push_right_aligned-3.ensures.text,
      c.push_piece-4.ensures.text,
      c.push_right_aligned-2.ensures.text,
      c.push_piece-3.ensures.text,
      c.push_right_aligned.ensures.text,
      c.images_len.ensures,
      c.as_slice.ensures,
      c.push_piece-2.ensures.text,
      c.push_left_aligned.ensures.text,
      c.as_bytes.ensures,
      c.manager_name.ensures.text,
      c.push_piece.ensures.text,
      c.requires.empty,
    ) (pushed-is_joined [] (head_pieces c.args.r.now))
