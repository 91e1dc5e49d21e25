-- From a whole run to the text of a command.
use Rattle.std.proofs.Common.{◌≡◌, ◌≤◌, ◌++◌, ℕ, List, true, length, take, drop, subst, sym, ap, ◌∙◌, arith}
use Rattle.std.proofs.lemmas.List.{take-append-drop}
use Rattle.mach_types.specs.declared.events.Entry.{Entry}
use Rattle.mach_types.specs.declared.limits.Limits.{Limits}
use Rattle.mach_types.specs.Limits.{InRange}
use Rattle.elf_load.specs.declared.image.Image.{Image}
use Rattle.block_model.specs.Run.{IsBlockRun}
use Rattle.block_model.specs.Setting.{Setting, Seen, setting_of}
use Rattle.block_model.proofs.Laws.{within_limit}
use Rattle.drawn_runs.specs.Manners.{manner_behind, manner_for}
use Rattle.drawn_runs.specs.WholeRuns.{IsDrawnRun, IsWholeDrawn}
use Rattle.drawn_runs.specs.declared.manner.Manner.{Manner}
use Rattle.command_words.specs.declared.commands.Draws.{Draws}
use Rattle.command_words.specs.Commands.{IsShownAtEnd, IsShownOf, Source, Rule, Script, Workers, Drawn, DrawnAfter, is_by_workers}
use Rattle.command_words.specs.Shown.{Shown, Output, Summary, Place, Acts, Gathered, Trace}
use Rattle.outcomes.specs.Outputs.{HasRun}
use Rattle.outcomes.specs.Programs.{Files, IsProgram}
use Rattle.whole_runs.specs.Runs.{IsWholeRun, IsWholeSolo}
use Rattle.output_laws.proofs.Laws.{block_run_of}

pub run_by_rule : (files : Files) (program : List ℕ) (limits : Limits) (image : Image) (m : Seen)
    → IsProgram files program limits image → IsWholeSolo (setting_of image limits) m
    → HasRun files program Rule limits image m
run_by_rule files program limits image m taken whole =
    record { taken = taken; setting = whole.setting; made = whole.run }

pub run_by_workers : (files : Files) (program : List ℕ) (limits : Limits) (seed : ℕ) (image : Image) (m : Seen)
    → IsProgram files program limits image → IsWholeRun (setting_of image limits) seed m
    → HasRun files program (Workers seed) limits image m
run_by_workers files program limits seed image m taken whole =
    record { taken = taken; setting = whole.setting; made = whole.run }

pub run_by_draws : (files : Files) (program : List ℕ) (limits : Limits) (seed : ℕ) (draws : Draws) (image : Image) (m : Seen)
    → IsProgram files program limits image
    → IsWholeDrawn (setting_of image limits) (manner_for draws.policies draws.calm seed limits.steps) m
    → HasRun files program (Drawn seed draws) limits image m
run_by_draws files program limits seed draws image m taken whole =
    record { taken = taken; setting = whole.setting; made = whole.run }

-- what a script began is drawn on
abbrev pub behind : Draws → ℕ → Limits → ℕ → Manner
behind draws seed limits scripted = manner_behind scripted (manner_for draws.policies draws.calm seed limits.steps)

pub run_behind_script : (files : Files) (program script : List ℕ) (limits : Limits) (seed : ℕ) (draws : Draws) (image : Image)
    (begun m : Seen) (manner : Manner)
    → HasRun files program (Script script) limits image begun → manner ≡ behind draws seed limits (length begun.log)
    → m.setting ≡ begun.setting → take (length begun.log) m.log ≡ begun.log → IsDrawnRun m.setting manner m.log
    → HasRun files program (DrawnAfter script seed draws) limits image m
run_behind_script files program script limits seed draws image begun m manner run is same begins drawn =
    let s = setting_of image limits in
    let setting : m.setting ≡ s = same ∙ run.setting in
    let whole : m.log ≡ begun.log ++ drop (length begun.log) m.log =
    sym (take-append-drop (length begun.log) m.log)
    ∙ ap (λ (l : List Entry). l ++ drop (length begun.log) m.log) begins in
    let here : IsDrawnRun s manner m.log = subst (λ (t : Setting). IsDrawnRun t manner m.log) setting drawn in
    record {
      taken = run.taken;
      setting = setting;
      made = record {
        first = begun.log;
        script = run.made;
        more = drop (length begun.log) m.log;
        whole = whole;
        drawn = subst (λ (n : Manner). IsDrawnRun s n m.log) is here;
      };
    }

-- a machine's log is short
pub short_at_end : (files : Files) (program : List ℕ) (source : Source) (limits : Limits) (image : Image) (m : Seen) → InRange limits
    → HasRun files program source limits image m → length m.log ≤ 1000000
short_at_end files program source limits image m range run =
    let steps = within_limit (setting_of image limits) m.log (block_run_of files source (setting_of image limits) m.log run.made) in
    omega (arith, steps, range.most_steps)

-- the limits of a machine are those of its run
pub range_at_end : (files : Files) (program : List ℕ) (source : Source) (limits : Limits) (image : Image) (m : Seen) → InRange limits
    → HasRun files program source limits image m → InRange m.setting.limits
range_at_end files program source limits image m range run =
    subst (λ (s : Setting). InRange s.limits) (sym run.setting) range

-- the machine at its end made a block run
pub block_run_at_end : (files : Files) (program : List ℕ) (source : Source) (limits : Limits) (image : Image) (m : Seen)
    → HasRun files program source limits image m → IsBlockRun m.setting m.log
block_run_at_end files program source limits image m run =
    subst (λ (s : Setting). IsBlockRun s m.log) (sym run.setting)
    (block_run_of files source (setting_of image limits) m.log run.made)

-- of a run by workers only such is shown as is shown at the end
pub shown_by_workers : (source : Source) (shown : Shown) → is_by_workers source ≡ true → IsShownOf source shown → IsShownAtEnd shown
shown_by_workers source Output by is = tt
shown_by_workers source (Place memory) by is = tt
shown_by_workers source Acts by is = tt
shown_by_workers source Gathered by is = tt
shown_by_workers Rule Summary by is = absurd is
shown_by_workers (Script name) Summary by is = absurd cc
shown_by_workers (Workers seed) Summary by is = absurd is
shown_by_workers (Drawn seed draws) Summary by is = absurd is
shown_by_workers (DrawnAfter name seed draws) Summary by is = absurd is
shown_by_workers Rule (Trace span) by is = absurd is
shown_by_workers (Script name) (Trace span) by is = absurd cc
shown_by_workers (Workers seed) (Trace span) by is = absurd is
shown_by_workers (Drawn seed draws) (Trace span) by is = absurd is
shown_by_workers (DrawnAfter name seed draws) (Trace span) by is = absurd is
