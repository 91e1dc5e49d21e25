use Rattle.std.proofs.Common.{◌++◌, ◌∙◌, List, ℕ, ap, length, subst}
use Rattle.mach_types.specs.Limits.{InRange}
use Rattle.block_model.specs.Setting.{Seen}
use Rattle.event_facts.specs.Telling.{past_of}
use Rattle.traced_runs.proofs.ToldLogs.{event_told, its_hart, line_is}
use Rattle.traced_runs.proofs.tracing.push_made.Goals as goal

pub seen_after-passed-requires : goal.seen_after-passed-requires
seen_after-passed-requires c = record { limits = c.requires.limits; made = (c.requires.made.0, c.requires.made.1.made) }

pub follow-requires : goal.follow-requires
follow-requires c =
    let m = c.requires.made.0 in
    let x = c.requires.made.1 in
    record {
      earlier = m;
      now = c.args.machine.now;
      entry = c.args.made.now.entry;
      follows = x.sequences;
      made = c.seen_after-passed.ensures m x.made x.ahead;
    }

pub push_within-requires : goal.push_within-requires
push_within-requires c =
    let m = c.requires.made.0 in
    let x = c.requires.made.1 in
    its_hart m c.args.made.now.entry x.run x.made.decided (subst (λ (z : Seen). InRange z.setting.limits) x.made.longer c.requires.limits)

pub returns-clause-followed : goal.returns-clause-followed
returns-clause-followed c m x = record {
  lines = x.lines;
  sequences = c.in_ok-turn.ensures.follows m c.args.machine.now c.args.made.now.entry x.sequences (c.seen_after-passed.ensures m x.made x.ahead);
}

pub returns-clause-text : goal.returns-clause-text
returns-clause-text c m x =
    let e = c.args.made.now.entry in
    let line = line_is m c.args.machine.now e _ x.made.longer (ap length c.log-number.ensures) in
    let turn = c.in_ok-turn.ensures.turn m c.args.machine.now e x.sequences (c.seen_after-passed.ensures m x.made x.ahead) in
    c.in_ok-push_within.ensures
    ∙ ap (λ (l : List ℕ). c.args.text.now.items ++ l) (event_told c.args.span.now m.setting (past_of m) e _ _ c.in_ok-turn.turn line x.told turn)
