-- A writer that serves as a sink.
use Rattle.mmdb_tool.specs.declared.sink.Fault.{Fault}
use Rattle.mmdb_tool.specs.declared.sink.Out.{Out}

-- the writer
abbrev pub writer_of : {W : Type 0} → Out W → W
writer_of out = out.inner

-- the first fault that it met
abbrev pub fault_of : {W : Type 0} → Out W → Fault
fault_of out = out.fault
