use Rattle.std.proofs.Common.{◌++◌, ap}
use Rattle.std.proofs.lemmas.Result.{IfOk-equal}
use Rattle.place_text.specs.Seen.{here_of}
use Rattle.place_text.proofs.HartStates.{idle_hart, running_hart, running_here}
use Rattle.place_text.proofs.harts.push_hart.Goals as goal

pub returns-in-Some : goal.returns-in-Some
returns-in-Some c =
    let here = here_of c.args.machine.now c.args.hart.0 in
    let on = running_here here _ c.in-Some.tid _ _ _ c.hart-state.ensures c.in-Some.is in
    IfOk-equal _ _ _ _ c.push_running.ensures (ap (λ l. c.args.text.now.items ++ l) (running_hart here c.in-Some.tid.0 on))

pub returns-in-None : goal.returns-in-None
returns-in-None c =
    let here = here_of c.args.machine.now c.args.hart.0 in
    IfOk-equal _ _ _ _ c.push_idle.ensures (ap (λ l. c.args.text.now.items ++ l) (idle_hart here _ _ _ _ c.hart-state.ensures c.in-None.is))
