-- What the adapters' reader and writer hold, where these tell it.
use Rattle.std.specs.Prelude.{ℕ, List, Option}
use Rattle.std.specs.Io.Buffered.{writer_contents, writer_buffer}
use Rattle.segment_files.specs.declared.sink.StandardSink.{StandardSink}
use Rattle.segment_files.specs.declared.source.StandardSource.{StandardSource}

-- the bytes that a source's reader has left
abbrev pub reader_left : {R : Type 0} → (R → Option (List ℕ)) → StandardSource R → Option (List ℕ)
reader_left remaining source = remaining source.reader

-- the bytes that a sink's writer holds, and then those that are kept
abbrev pub writer_taken : {W : Type 0} → (W → Option (List ℕ)) → StandardSink W → Option (List ℕ)
writer_taken contents sink = writer_contents contents sink.writer

-- the bytes that are kept and not written yet
abbrev pub kept_bytes : {W : Type 0} → StandardSink W → List ℕ
kept_bytes sink = writer_buffer sink.writer
