-- checkpoints after kept entries stand as before
use Rattle.std.proofs.Common.{◌∙◌, ◌++◌, ◌-◌, ◌≤◌, ap, arith, drop, if◌then◌else◌, is_ok, length, subst, take, List}
use Rattle.mach_types.specs.declared.events.Entry.{Entry}
use Rattle.checkpoints.proofs.Copies.{still_one}
use Rattle.checkpoints.proofs.checkpoints.Checkpoints.follow.Goals as goal

pub returns-clause-standing : goal.returns-clause-standing
returns-clause-standing c s stand i k lt at =
    let n = c.common-same.result in
    let used = c.kept_to-self.ensures.used in
    let more : List Entry = take (length c.args.log.now - n) (drop n c.args.log.now) in
    let long : n ≤ length c.args.self.now.log.items = subst (λ (l : List Entry). n ≤ length l) c.deref.ensures.value c.common-same.ensures.log in
    still_one s c.args.self.now.log.items c.extend_from_slice.new.self.items more n k (is_ok c.extend_from_slice.result)
    (stand i k (omega (arith, lt, used)) at) (c.kept_to-self.ensures.each i k lt at) long
    (c.extend_from_slice.ensures.items ∙ ap (λ (l : List Entry). if is_ok c.extend_from_slice.result then l ++ more else l) c.truncate.ensures.items)
