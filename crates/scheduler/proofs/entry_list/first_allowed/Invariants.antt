use Rattle.std.proofs.Common.{◌≡◌, drop, find}
use Rattle.scheduler.specs.Entries.{is_for}
use Rattle.scheduler.proofs.entry_list.first_allowed.Given as goal

-- none of those before may run on the hart
abbrev pub invariant-loop-entry : goal.invariant-loop-entry
invariant-loop-entry l = find (is_for l.hart) l.entries ≡ find (is_for l.hart) (drop l.entry-index l.entries)
