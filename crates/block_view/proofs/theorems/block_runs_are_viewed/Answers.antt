use Rattle.std.proofs.Common.{◌≡◌, ℕ, List, Result, Ok, Err, sym, ◌∙◌}
use Rattle.mach_types.specs.declared.events.Entry.{Entry}
use Rattle.block_model.specs.Replay.{script_of}
use Rattle.block_model.proofs.Laws.{is_refused, replays}
use Rattle.block_view.proofs.theorems.block_runs_are_viewed.Goals as goal

pub returns : goal.returns
returns c = λ s log number run refused.
    let made : Result (List Entry) ℕ = Ok log in
    let no : made ≡ Err number = sym (replays s log run) ∙ is_refused s (script_of log) number refused in
    cc
