use Rattle.std.proofs.Common.{◌≡◌, ℕ, List, length, set, ap, sym, ◌∙◌}
use Rattle.std.proofs.Math.ListN.{length-set}
use Rattle.arrayvec.proofs.ArrayVecLemmas.{items-with_items}
use Rattle.mach_types.specs.Kernel.Scheduling.{is_of}
use Rattle.mach_types.proofs.Places.{alone, without, once_if_distinct}
use Rattle.scheduler.proofs.entry_list.change_at.Goals as goal

pub returns-in-Some : goal.returns-in-Some
returns-in-Some c =
    let there = alone (is_of c.args.tid) (λ (entry : ℕ × ℕ). (c.args.tid, c.args.set)) c.args.entries.now.items c.in-Some.place (0, 0)
    (sym c.requires.place ∙ c.in-Some.is) (once_if_distinct (λ (entry : ℕ × ℕ). entry.0) c.args.tid c.args.entries.now.items c.requires.once) in
    let same : set c.deref_mut.result.now c.in-Some.place (c.args.tid, c.args.set) ≡ set c.args.entries.now.items c.in-Some.place (c.args.tid, c.args.set) =
    ap (λ (es : List (ℕ × ℕ)). set es c.in-Some.place (c.args.tid, c.args.set)) c.deref_mut.ensures.value in
    items-with_items c.args.entries.now _ (ap length same ∙ length-set c.args.entries.now.items c.in-Some.place (c.args.tid, c.args.set)) ∙ same ∙ sym there.changed

pub returns-in_default : goal.returns-in_default
returns-in_default c =
    let none = without (is_of c.args.tid) (λ (entry : ℕ × ℕ). (c.args.tid, c.args.set)) c.args.entries.now.items (sym c.requires.place ∙ c.in_default.is) in
    sym none.changed
