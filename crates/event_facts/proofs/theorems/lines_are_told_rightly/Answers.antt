use Rattle.std.proofs.Common.{length, refl}
use Rattle.event_facts.proofs.ToldLines.{as_written, told_executed, told_stores}
use Rattle.event_facts.proofs.theorems.lines_are_told_rightly.Goals as goal

pub returns-clause-waiting : goal.returns-clause-waiting
returns-clause-waiting c = λ s log h run. told_stores (length log) s log refl run h

pub returns-clause-executed : goal.returns-clause-executed
returns-clause-executed c = λ before h. told_executed h before

pub returns-clause-written : goal.returns-clause-written
returns-clause-written c = λ s before a. as_written s before a
