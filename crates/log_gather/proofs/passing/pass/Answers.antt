use Rattle.std.proofs.Common.{◌≡◌, ◌+◌, ◌∷◌, ◌++◌, [], List, get_or, set, length, refl, replicate, rules, take, sym, ap, subst, arith, Bool, false}
use Rattle.std.proofs.lemmas.List.{get_or_default, take_all, take_more}
use Rattle.mach_types.specs.declared.events.Entry.{Entry}
use Rattle.mach_types.specs.declared.events.Kind.TheVariants as kind
use Rattle.block_model.specs.Setting.{setting_of}
use Rattle.block_view.proofs.Laws.{first_refused, logged_few}
use Rattle.log_gather.specs.declared.steps.Step.{Step}
use Rattle.log_gather.specs.Marks.{are_known, steps_of}
use Rattle.log_gather.specs.Passing.{IsSeen}
use Rattle.log_gather.proofs.Passages.{HasSeen, fits_eight, is_passage, seen_more, seen_none}
use Rattle.log_gather.proofs.passing.pass.Goals as goal

-- the entry that a loop is at, within the log
abbrev no_entry : Entry
no_entry = record { hart = record { 0 = 0 }; kind = kind.Exec; tid = record { 0 = 0 }; pc = 0 }

pub loop-entry-init : goal.loop-entry-init
loop-entry-init c =
    let s = setting_of c.args.image.now c.args.limits.now in
    let d = c.new-details.result in
    let none : c.new-marks.result.items ≡ [] = search rules in
    record {
      seen =
          subst (λ (xs : List Step). HasSeen s [] c.in_ok-machine.machine xs (replicate 8 false)) (ap (steps_of d) (sym none))
          (seen_none s 0 c.in_ok-machine.machine c.in_ok-machine.ensures);
      known = ap (are_known d) none;
    }

pub overflow_cast-number : goal.overflow_cast-number
overflow_cast-number c =
    let few = logged_few _ _ c.loop-entry.machine c.loop-entry.invariant.seen.so_far c.requires.limits in
    omega (arith, ap length c.log.ensures)

pub overflow_add-number : goal.overflow_add-number
overflow_add-number c =
    let few = logged_few _ _ c.loop-entry.machine c.loop-entry.invariant.seen.so_far c.requires.limits in
    omega (arith, ap length c.log.ensures)

pub returns-in_default-clause-cause : goal.returns-in_default-clause-cause
returns-in_default-clause-cause c =
    let log = c.args.log.now in
    let i = c.loop-entry.entry-index in
    let entry = get_or log i no_entry in
    first_refused (setting_of c.args.image.now c.args.limits.now) log i c.loop-entry.machine entry (length c.log.result.now + 1)
    c.loop-entry.invariant.seen.so_far (get_or_default log i no_entry entry c.loop-entry-test.true) c.loop-entry-test.true c.in_default.ensures.refused
    (ap (λ (entries : List Entry). length entries + 1) c.log.ensures)

pub loop-entry-preserved : goal.loop-entry-preserved
loop-entry-preserved c =
    let s = setting_of c.args.image.now c.args.limits.now in
    let log = c.args.log.now in
    let i = c.loop-entry.entry-index in
    let entry = get_or log i no_entry in
    let m = c.loop-entry.machine in
    let m' = c.see.new.machine in
    let steps = steps_of c.loop-entry.details c.loop-entry.marks.items in
    let within = c.loop-entry.within in
    let step = c.in-Some.step in
    let seen = c.loop-entry.invariant.seen in
    let made : IsSeen m m' entry (get_or within entry.hart.0 false) step = subst (λ (b : Bool). IsSeen m m' entry b step) c.is_set-was.ensures c.in-Some.ensures.made in
    let fits = fits_eight s (take i log) m m' entry steps within _ step seen made c.requires.limits.eight_harts in
    let more = c.in_ok-add.ensures in
    record {
      seen =
          subst (λ (xs : List Step). HasSeen s (take (i + 1) log) m' xs (set within entry.hart.0 step.within)) (sym more.events)
          (subst (λ (l : List Entry). HasSeen s l m' (steps ++ step ∷ []) (set within entry.hart.0 step.within)) (sym (take_more log i no_entry c.loop-entry-test.true))
          (seen_more s (take i log) m m' entry steps within step seen made fits));
      known = more.known;
    }

pub returns-clause-passage : goal.returns-clause-passage
returns-clause-passage c =
    let s = setting_of c.args.image.now c.args.limits.now in
    let log = c.args.log.now in
    let m = c.loop-entry.machine in
    let steps = steps_of c.loop-entry.details c.loop-entry.marks.items in
    let within = c.loop-entry.within in
    let whole : take c.loop-entry.entry-index log ≡ log = take_all c.loop-entry.entry-index log (omega arith) in
    is_passage s log m steps within (subst (λ (l : List Entry). HasSeen s l m steps within) whole c.loop-entry.invariant.seen) _ refl c.loop-entry.invariant.known
    c.inside_of_harts-inside_at_end.ensures
