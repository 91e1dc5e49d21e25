use Rattle.std.proofs.Common.{◌∙◌, ◌++◌, List, ℕ, ap}
use Rattle.block_model.specs.Deciding.{history}
use Rattle.block_model.specs.Setting.{Seen}
use Rattle.trace_text.specs.Traces.{open_text, trace_tail, trace_text}
use Rattle.script_runs.proofs.Playing.{playing-start}
use Rattle.traced_runs.proofs.ToldLogs.{told_at_start}
use Rattle.traced_runs.proofs.tracing.play_traced.Goals as goal

pub lines-init : goal.lines-init
lines-init c =
    let booted = c.in_ok-machine.ensures in
    let start = playing-start _ c.in_ok-machine.machine _ _ c.new-reader.result booted c.new-reader.ensures in
    let none = ap (λ (m : Seen). m.log) booted in
    record {
      setting = start.0;
      playing = start.1;
      told = told_at_start c.args.span.now c.in_ok-machine.machine c.in_ok-followed.followed _ none c.new-text.ensures.items
          (c.in_ok-followed.ensures c.in_ok-machine.machine (ap (λ (m : Seen). m.setting.limits.harts) booted) none);
    }

pub push_open-requires : goal.push_open-requires
push_open-requires c = c.in_ok-tell_next.ensures.told.followed.sequences

pub returns-clause-text : goal.returns-clause-text
unfolding trace_text
returns-clause-text c =
    let m = c.tell_next.new.machine in
    let span = c.args.span.now in
    c.in_ok-push_tail.ensures
    ∙ ap (λ (l : List ℕ). l ++ trace_tail m.setting (history m.setting m.log))
    (c.in_ok-push_open.ensures ∙ ap (λ (l : List ℕ). l ++ open_text span m.setting m.log) c.in_ok-tell_next.ensures.told.text)
