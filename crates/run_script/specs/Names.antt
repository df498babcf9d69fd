-- The words by which reports name what is wrong with a script.
use Rattle.std.specs.Prelude.{ℕ, List, codes}
use Rattle.run_script.specs.declared.line.ScriptFault.{ScriptFault}
use Rattle.run_script.specs.declared.line.ScriptFault.TheVariants as faults

-- a fault's name
abbrev pub fault_name : ScriptFault → List ℕ
fault_name faults.Length = codes "length"
fault_name faults.Word = codes "word"
fault_name faults.Count = codes "count"
fault_name faults.Number = codes "number"
fault_name faults.Hex = codes "hex"
fault_name faults.Block = codes "block"
fault_name faults.Image = codes "image"
fault_name faults.Backends = codes "backends"
fault_name faults.Schedule = codes "schedule"
fault_name faults.BadManager = codes "bad manager"
fault_name faults.Switch = codes "switch"
fault_name faults.BadBlock = codes "bad block"
fault_name faults.TooLong = codes "too long"
