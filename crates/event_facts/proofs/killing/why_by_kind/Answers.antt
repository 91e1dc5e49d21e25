use Rattle.std.proofs.Common.{◌∙◌, Some, ap, refl, subst, sym}
use Rattle.mach_types.specs.Events.{kind_of, nature_of}
use Rattle.mach_types.specs.Kernel.Threads.{Threads, is_live}
use Rattle.mach_types.specs.declared.events.Choice.{Choice}
use Rattle.mach_types.specs.declared.events.Choice.TheVariants as asked
use Rattle.mach_types.specs.declared.events.Kind.TheVariants as kind
use Rattle.block_model.specs.Sequences.{area_here, can_write_words}
use Rattle.fact_types.specs.declared.killing.KillWhy.TheVariants.{AreaWords}
use Rattle.event_facts.specs.Killing.{IsReason, kills_by}
use Rattle.event_facts.specs.Telling.{here_on}
use Rattle.event_facts.proofs.Due.{due}
use Rattle.event_facts.proofs.FoundReasons.{choice_is, lives, runs_now, words_reason}
use Rattle.event_facts.proofs.killing.why_by_kind.Goals as goal

pub why_executing-requires-clause-hart : goal.why_executing-requires-clause-hart
why_executing-requires-clause-hart c = (due c.args.machine.now c.args.entry c.requires.run c.requires.decided).lt

pub why_executing-requires-clause-runs : goal.why_executing-requires-clause-runs
why_executing-requires-clause-runs c =
    let m = c.args.machine.now in
    let e = c.args.entry in
    runs_now m e c.requires.run c.requires.decided asked.Exec (choice_is m e c.requires.run c.requires.decided kind.Exec c.in-Exec.is) refl refl

pub why_executing-requires-clause-live : goal.why_executing-requires-clause-live
why_executing-requires-clause-live c =
    let m = c.args.machine.now in
    let e = c.args.entry in
    lives m e c.requires.run c.requires.decided
    (runs_now m e c.requires.run c.requires.decided asked.Exec (choice_is m e c.requires.run c.requires.decided kind.Exec c.in-Exec.is) refl refl)

pub why_delivering-requires : goal.why_delivering-requires
why_delivering-requires c =
    let m = c.args.machine.now in
    let e = c.args.entry in
    c.kernel.ensures.signals_held e.tid.0
    ∙ ap (λ (ts : Threads). is_live e.tid.0 ts) c.kernel.ensures.threads
    ∙ lives m e c.requires.run c.requires.decided
    (runs_now m e c.requires.run c.requires.decided asked.Signal (choice_is m e c.requires.run c.requires.decided kind.Signal c.in-Signal.is) refl refl)

pub returns-in-Run : goal.returns-in-Run
returns-in-Run c =
    let m = c.args.machine.now in
    let e = c.args.entry in
    let here = here_on m e.hart.0 in
    subst (λ (k : Choice). IsReason (Some AreaWords) (kills_by (nature_of (kind_of k)).interruption k here e.tid.0))
    (sym (choice_is m e c.requires.run c.requires.decided kind.Run c.in-Run.is)) (words_reason (can_write_words here (area_here here e.tid.0)))
