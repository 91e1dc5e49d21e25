use Rattle.std.proofs.Common.{◌≡◌, map}
use Rattle.place_text.specs.Live.{told}
use Rattle.place_text.proofs.LiveThreads.{told_up_to}
use Rattle.place_text.proofs.threads.live_threads.Given as goal

-- those of the numbers so far that are live
abbrev pub invariant-loop-earlier : goal.invariant-loop-earlier
invariant-loop-earlier l = map told l.live.items ≡ told_up_to l.threads.saved l.earlier l.threads.threads.live
