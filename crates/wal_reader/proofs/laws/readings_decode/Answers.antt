use Rattle.std.proofs.Common.{refl}
use Rattle.wal_reader.proofs.SoFarLaws.{read_more, read_none, read_to_end}
use Rattle.wal_reader.proofs.laws.readings_decode.Goals as goal

pub returns : goal.returns
returns g c = record {
  begins = λ size start end disk reader valid is knows. read_none valid is knows;
  goes_on = λ size start end first disk disk_now reader reader_now found next before makes.
      read_more before makes next refl;
  ends = λ size start end first disk disk_now reader reader_now found step before makes.
      read_to_end before makes;
}
