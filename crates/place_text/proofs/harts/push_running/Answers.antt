use Rattle.std.proofs.lemmas.Result.{IfOk-equal}
use Rattle.place_text.specs.Seen.{here_of}
use Rattle.place_text.proofs.HartStates.{running_shown}
use Rattle.place_text.proofs.Lists.{four_pieces}
use Rattle.place_text.proofs.harts.push_running.Goals as goal

pub returns : goal.returns
returns c =
    let here = here_of c.args.machine.now c.args.hart.0 in
    let whole = running_shown here _ c.args.tid.0 _ _ _ c.hart-state.ensures c.requires.runs in
    IfOk-equal _ _ _ _ c.push_sequence.ensures
    (four_pieces _ _ _ _ _ _ _ _ _ c.in_ok-push_thread_state.ensures c.in_ok-push_kept.ensures c.in_ok-push_barrier.ensures whole)
