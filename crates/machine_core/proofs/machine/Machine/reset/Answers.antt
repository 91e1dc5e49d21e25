-- A machine that begins anew is tied to its empty log.
use Rattle.machine_core.proofs.Common.{◌≡◌, ap, arith, length, subst, sym, start_run, start_plain, setting_by, IsTied, Setting, setting_of, plain_start}
use Rattle.elf_load.specs.Start.{Program}
use Rattle.machine_core.proofs.Boot.{credits_start, generators_start, none_made}
use Rattle.machine_core.proofs.machine.Machine.reset.Goals as goal

pub reset-requires-clause-image : goal.reset-requires-clause-image
reset-requires-clause-image c = rw (← c.self.view_is) at c.requires.image

pub reset-requires-clause-limits : goal.reset-requires-clause-limits
reset-requires-clause-limits c = c.self.invariant.limits

pub reset-requires-clause-harts : goal.reset-requires-clause-harts
reset-requires-clause-harts c = c.self.invariant.tied.all_harts

pub invariant_of-self-2 : goal.invariant_of-self-2
invariant_of-self-2 c =
    let s = setting_of c.self.inside in
    let same : s ≡ setting_by c.args.image.now c.self.inside.limits =
    ap (λ (p : Program). let q : Setting = record { program = p; limits = c.self.inside.limits } in q) (rw (← c.self.view_is) at c.requires.program) in
    let tied = c.reset.ensures.tied in
    record {
      run = rw c.clear.ensures.items (start_run s);
      tied = rw (c.clear.ensures.items, start_plain s) (subst (λ (t : Setting). IsTied t (plain_start t) c.reset.new.self) (sym same) tied);
      chosen = rw c.clear.ensures.items (none_made s c.args.seed);
      credits = λ h lt. rw c.clear.ensures.items (credits_start s c.args.seed c.reset.new.self.harts.items h c.reset.ensures.idle (omega (arith, lt, tied.all_harts)));
      generators = λ chosen h lt. rw (c.clear.ensures.items, c.new-self-inside.ensures) (generators_start s c.args.seed h (omega (arith, lt, c.self.invariant.limits.eight_harts)));
      held = ap length c.new-self-inside.ensures;
      limits = c.self.invariant.limits;
      room = omega (arith, c.self.invariant.room, c.clear.ensures.capacity);
    }
