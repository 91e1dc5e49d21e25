use Rattle.std.proofs.Common.{◌+◌, List, get_or, length, take, sym, ap, subst, arith}
use Rattle.std.proofs.lemmas.List.{get_or_default, take_more}
use Rattle.mach_types.specs.declared.events.Entry.{Entry}
use Rattle.mach_types.specs.declared.events.Kind.TheVariants as kind
use Rattle.block_model.specs.Setting.{setting_of}
use Rattle.block_view.proofs.Entering.{HasMadeLog, first_refused, logged_few, logged_more}
use Rattle.block_view.proofs.viewing.counts.Goals as goal

-- the entry that a loop is at, within the log
abbrev no_entry : Entry
no_entry = record { hart = record { 0 = 0 }; kind = kind.Exec; tid = record { 0 = 0 }; pc = 0 }

pub overflow_cast-number : goal.overflow_cast-number
overflow_cast-number c =
    let few = logged_few _ _ c.loop-entry.machine c.loop-entry.invariant.made c.requires.limits in
    omega (arith, ap length c.log.ensures)

pub overflow_add-number : goal.overflow_add-number
overflow_add-number c =
    let few = logged_few _ _ c.loop-entry.machine c.loop-entry.invariant.made c.requires.limits in
    omega (arith, ap length c.log.ensures)

pub returns-in_default-clause-cause : goal.returns-in_default-clause-cause
returns-in_default-clause-cause c =
    let log = c.args.log.now in
    let i = c.loop-entry.entry-index in
    let entry = get_or log i no_entry in
    first_refused (setting_of c.args.image.now c.args.limits.now) log i c.loop-entry.machine entry (length c.log.result.now + 1)
    c.loop-entry.invariant.made (get_or_default log i no_entry entry c.loop-entry-test.true) c.loop-entry-test.true c.in_default.ensures.refused
    (ap (λ (entries : List Entry). length entries + 1) c.log.ensures)

pub loop-entry-preserved : goal.loop-entry-preserved
loop-entry-preserved c =
    let s = setting_of c.args.image.now c.args.limits.now in
    let log = c.args.log.now in
    let i = c.loop-entry.entry-index in
    let entry = get_or log i no_entry in
    let m = c.make_again.new.machine in
    let again = c.in-Some.ensures.made in
    record {
      made = subst (λ (entries : List Entry). HasMadeLog s entries m) (sym (take_more log i no_entry c.loop-entry-test.true))
          (logged_more s (take i log) c.loop-entry.machine m entry c.loop-entry.invariant.made again.made);
      counted = c.in_ok-follow.ensures c.loop-entry.machine m entry c.loop-entry.invariant.counted again;
    }
