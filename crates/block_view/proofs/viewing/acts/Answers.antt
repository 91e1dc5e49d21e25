use Rattle.std.proofs.Common.{◌≡◌, ◌+◌, List, [], get_or, length, take, sym, ap, subst, arith}
use Rattle.std.proofs.lemmas.List.{get_or_default, take_all, take_more}
use Rattle.mach_types.specs.declared.events.Entry.{Entry}
use Rattle.mach_types.specs.declared.events.Kind.TheVariants as kind
use Rattle.block_model.specs.Setting.{setting_of}
use Rattle.block_view.specs.Ledgers.{Kept, kept_in, noted}
use Rattle.block_view.specs.Tied.{IsOfLog}
use Rattle.block_view.proofs.Closing.{has_places}
use Rattle.block_view.proofs.Entering.{HasMade, are_acts, first_refused, hart_is_kept, logged_few, made_more, made_none}
use Rattle.block_view.proofs.FollowedLogs.{follows_whole}
use Rattle.block_view.proofs.GoneActs.{behind_none}
use Rattle.block_view.proofs.viewing.acts.Goals as goal

-- the entry that a loop is at, within the log
abbrev no_entry : Entry
no_entry = record { hart = record { 0 = 0 }; kind = kind.Exec; tid = record { 0 = 0 }; pc = 0 }

pub loop-entry-init : goal.loop-entry-init
loop-entry-init c =
    made_none (setting_of c.args.image.now c.args.limits.now) 0 c.in_ok-machine.machine (kept_in c.in_ok-ledger.ledger) c.in_ok-machine.ensures
    c.in_ok-ledger.ensures

pub overflow_cast-number : goal.overflow_cast-number
overflow_cast-number c =
    let few = logged_few _ _ c.loop-entry.machine c.loop-entry.invariant.so_far c.requires.limits in
    omega (arith, ap length c.log.ensures)

pub overflow_add-number : goal.overflow_add-number
overflow_add-number c =
    let few = logged_few _ _ c.loop-entry.machine c.loop-entry.invariant.so_far c.requires.limits in
    omega (arith, ap length c.log.ensures)

pub returns-in_default-clause-cause : goal.returns-in_default-clause-cause
returns-in_default-clause-cause c =
    let log = c.args.log.now in
    let i = c.loop-entry.entry-index in
    let entry = get_or log i no_entry in
    first_refused (setting_of c.args.image.now c.args.limits.now) log i c.loop-entry.machine entry (length c.log.result.now + 1)
    c.loop-entry.invariant.so_far (get_or_default log i no_entry entry c.loop-entry-test.true) c.loop-entry-test.true c.in_default.ensures.refused
    (ap (λ (entries : List Entry). length entries + 1) c.log.ensures)

pub note-requires-clause-hart : goal.note-requires-clause-hart
note-requires-clause-hart c =
    hart_is_kept _ _ c.loop-entry.machine c.make_again.new.machine (kept_in c.loop-entry.ledger) (get_or c.args.log.now c.loop-entry.entry-index no_entry)
    c.in-Some.passed c.loop-entry.invariant c.in-Some.ensures.made

pub note-requires-clause-places : goal.note-requires-clause-places
note-requires-clause-places c = has_places _ _ (kept_in c.loop-entry.ledger) c.loop-entry.invariant.tied

pub loop-entry-preserved : goal.loop-entry-preserved
loop-entry-preserved c =
    let s = setting_of c.args.image.now c.args.limits.now in
    let log = c.args.log.now in
    let i = c.loop-entry.entry-index in
    let entry = get_or log i no_entry in
    let m = c.make_again.new.machine in
    let k = kept_in c.loop-entry.ledger in
    subst (λ (kept : Kept). HasMade s (take (i + 1) log) m kept) (sym c.in_ok-_turn.ensures.noted)
    (subst (λ (entries : List Entry). HasMade s entries m (noted c.in-Some.passed k)) (sym (take_more log i no_entry c.loop-entry-test.true))
    (made_more s (take i log) c.loop-entry.machine m k entry c.in-Some.passed c.loop-entry.invariant c.in-Some.ensures.made))

pub close-requires-clause-follows : goal.close-requires-clause-follows
close-requires-clause-follows c = follows_whole c.loop-entry.machine (kept_in c.loop-entry.ledger) c.loop-entry.invariant.tied

pub returns-clause-acts : goal.returns-clause-acts
returns-clause-acts c =
    let s = setting_of c.args.image.now c.args.limits.now in
    let log = c.args.log.now in
    let whole : take c.loop-entry.entry-index log ≡ log = take_all c.loop-entry.entry-index log (omega arith) in
    let k = kept_in c.loop-entry.ledger in
    let tied = subst (IsOfLog c.loop-entry.machine) (sym (behind_none k)) c.loop-entry.invariant.tied in
    are_acts s log c.loop-entry.machine k c.close.new.ledger.list.items
    (subst (λ (entries : List Entry). HasMade s entries c.loop-entry.machine k) whole c.loop-entry.invariant)
    (ap (λ (x : Kept). x.acts) (c.close.ensures [] tied))
