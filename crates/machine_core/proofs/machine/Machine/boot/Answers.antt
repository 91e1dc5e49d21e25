-- A machine at boot is tied to its empty log.
use Rattle.machine_core.proofs.Common.{◌≡◌, ◌∙◌, ap, arith, length, start_run, start_plain, setting_by}
use Rattle.machine_core.proofs.Boot.{credits_start, generators_start, none_made}
use Rattle.machine_core.proofs.machine.Machine.boot.Goals as goal

pub invariant_of-result : goal.invariant_of-result
invariant_of-result c =
    let same_pages : c.in_ok-code.code ≡ c.args.image.now.pages.items = c.in_ok-code.ensures ∙ c.deref.ensures.value in
    let s = setting_by c.args.image.now c.args.limits in
    let harts = c.in_ok-parts.parts.harts.items in
    let tied = c.in_ok-parts.ensures.tied in
    let count : length harts ≡ c.args.limits.harts = tied.all_harts in
    record {
      run = rw (c.in_ok-log.ensures.items, same_pages) (start_run s);
      tied = rw (c.in_ok-log.ensures.items, same_pages, start_plain s) tied;
      chosen = rw (c.in_ok-log.ensures.items, same_pages) (none_made s c.args.seed);
      credits = λ h lt. rw (c.in_ok-log.ensures.items, same_pages) (credits_start s c.args.seed harts h c.in_ok-parts.ensures.idle (omega (arith, lt, count)));
      generators = λ chosen h lt. rw (c.in_ok-log.ensures.items, same_pages, c.new-chooser.ensures) (generators_start s c.args.seed h (omega (arith, lt, c.requires.limits.eight_harts)));
      held = ap length c.new-chooser.ensures;
      limits = c.requires.limits;
      room = c.in_ok-log.ensures.capacity;
    }
