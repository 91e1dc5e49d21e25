-- A process that is alone shares no segment.
use Rattle.process.proofs.Common.{None}
use Rattle.process.proofs.ExecGates.{none_of_segment}
use Rattle.process.proofs.parts.Parts.exec_gate.Goals as goal

pub returns : goal.returns
returns c s p tied lt is = c.exec_gate_beside.ensures (record { setting = s; plain = p; beside = None }) tied lt none_of_segment is
