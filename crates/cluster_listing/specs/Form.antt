-- What is printed of a record.
use Rattle.std.specs.Prelude.{ℕ, List, []}
use Rattle.waldump_filter.specs.declared.listed.Listed.{Listed}
use Rattle.cluster_listing.specs.Json.{object_text}
use Rattle.cluster_listing.specs.Line.{record_line}
use Rattle.cluster_listing.specs.declared.form.Form.{Form}
use Rattle.cluster_listing.specs.declared.form.Form.TheVariants.{Quiet, Line, Json}

abbrev pub record_text : Form → Listed → List ℕ
record_text Quiet r = []
record_text (Line whole) r = record_line whole r
record_text (Json whole) r = object_text whole r
