-- The output of a command is what the plain machine prints.
use Rattle.std.proofs.Common.{◌≡◌, ℕ, List, refl, sym, ◌∙◌, Option, Some, None}
use Rattle.mach_types.specs.declared.events.Entry.{Entry}
use Rattle.block_model.specs.Plain.{PlainRun, plain_end, plain_solo}
use Rattle.block_model.specs.PlainSays.{SaysOf}
use Rattle.block_model.specs.Replay.{script_of}
use Rattle.block_model.specs.Run.{IsBlockRun}
use Rattle.block_model.specs.Setting.{Setting}
use Rattle.block_model.proofs.Laws.{answers_itself, plain_makes, plain_solo_log, plain_solo_says, run_is_played}
use Rattle.drawn_runs.specs.Manners.{manner_for}
use Rattle.drawn_runs.specs.WholeRuns.{IsDrawnRun}
use Rattle.command_words.specs.Shown.{Shown}
use Rattle.command_words.specs.Commands.{Command, Runs, Makes, Tries, Explores, Searches, Pairs, Source, Rule, Script, Workers, Drawn, DrawnAfter}
use Rattle.outcomes.specs.Outputs.{IsDrawnAfter, IsLogOf, IsOutputOf, IsPlainOutputOf, IsPlainRunOf, IsPlainRunOver, plain_text}
use Rattle.outcomes.specs.Outputs.{setting_for, shown_text, text_of}
use Rattle.outcomes.specs.Guests.{setting_tried}
use Rattle.run_texts.specs.LogTexts.{trial_text, tried_text}
use Rattle.outcomes.specs.Programs.{Files}
use Rattle.whole_runs.specs.Runs.{IsChosenRun}

-- of a machine that says of a log what is read from it, the same is shown as of the log
shows_alike : (shown : Shown) (s : Setting) (log : List Entry) (run : PlainRun) → run.log ≡ log
    → SaysOf s log run.machine → shown_text shown s log ≡ plain_text shown s run
shows_alike shown s log run same says =
    λ i. text_of shown s (sym says.same_console i) (sym same i) (sym says.same_end i)

tried_alike : (s : Setting) (log : List Entry) (run : PlainRun) → run.log ≡ log → SaysOf s log run.machine
    → tried_text s log ≡ trial_text s run.machine.kernel.console run.log (plain_end s run.machine)
tried_alike s log run same says = λ i. trial_text s (sym says.same_console i) (sym same i) (sym says.same_end i)

-- a run of the plain machine, of this kind, beside the log of a run
record IsRunAlike (IsOfKind : PlainRun → Type 0) (s : Setting) (log : List Entry) : Type 0 where
  run : PlainRun
  same : run.log ≡ log
  made : IsOfKind run
  says : SaysOf s log run.machine

-- it goes over the entries of the log
over_log : (s : Setting) (IsOfKind : List Entry → Type 0) (log : List Entry) → IsBlockRun s log → IsOfKind log
    → IsRunAlike (IsPlainRunOver s IsOfKind) s log
over_log s IsOfKind log run kind =
    let made = plain_makes s (script_of log) log
    (run_is_played s (script_of log) log run (answers_itself log)) in
    record {
      run = record { log = log; machine = made.machine };
      same = refl;
      made = record { log = log; kind = kind; made = made.made };
      says = made.says;
    }

run_alike : (files : Files) (source : Source) (s : Setting) (log : List Entry) → IsLogOf files source s log
    → IsRunAlike (IsPlainRunOf files source s) s log
run_alike files Rule s log run = record {
  run = plain_solo s s.limits.steps;
  same = plain_solo_log s log run.block_run run.rule run.over;
  made = refl;
  says = plain_solo_says s log run.block_run run.rule run.over;
}
run_alike files (Script name) s log played =
    let made = plain_makes s played.run.lines log
    (run_is_played s played.run.lines log played.run.block_run played.run.answers) in
    record {
      run = record { log = log; machine = made.machine };
      same = refl;
      made = record {
        lines = played.lines;
        read = played.read;
        asks = played.run.lines;
        readable = played.run.readable;
        made = made.made;
      };
      says = made.says;
    }
run_alike files (Workers seed) s log run = over_log s (IsChosenRun s seed) log run.block_run run
run_alike files (Drawn seed draws) s log run = over_log s (IsDrawnRun s (manner_for draws.policies draws.calm seed s.limits.steps)) log run.block_run run
run_alike files (DrawnAfter name seed draws) s log run =
    over_log s (IsDrawnAfter files name seed draws s) log run.drawn.block_run run

pub plain_output_of : (files : Files) (command : Option Command) (written : List ℕ)
    → IsOutputOf files command written → IsPlainOutputOf files command written
plain_output_of files None written output = absurd output
plain_output_of files (Some (Makes guest)) written output = output
plain_output_of files (Some (Explores program settings)) written output = output
plain_output_of files (Some (Searches program settings)) written output = output
plain_output_of files (Some (Pairs pair)) written output = output
plain_output_of files (Some (Tries trial)) written output =
    let s = setting_tried trial output.image in
    let made = plain_makes s (script_of output.log) output.log
    (run_is_played s (script_of output.log) output.log output.made.block_run (answers_itself output.log)) in
    let run : PlainRun = record { log = output.log; machine = made.machine } in
    record {
      image = output.image;
      taken = output.taken;
      run = run;
      made = record { log = output.log; rounds = output.made; made = made.made };
      text = output.text ∙ tried_alike s output.log run refl made.says;
    }
plain_output_of files (Some (Runs run)) written output =
    let s = setting_for run output.image in
    let alike = run_alike files run.source s output.log output.made in
    record {
      image = output.image;
      taken = output.taken;
      run = alike.run;
      made = alike.made;
      text = output.text ∙ shows_alike run.shown s output.log alike.run alike.same alike.says;
    }
