use Rattle.std.proofs.Common.{ℕ, sym, ◌∙◌}
use Rattle.mach_types.specs.Kernel.Scheduling.{is_of}
use Rattle.mach_types.proofs.Places.{alone, without, once_if_distinct}
use Rattle.scheduler.proofs.entry_list.remove_at.Goals as goal

pub returns-in-Some : goal.returns-in-Some
returns-in-Some c =
    let there = alone (is_of c.args.tid) (λ (entry : ℕ × ℕ). entry) c.args.entries.now.items c.in-Some.place (0, 0)
    (sym c.requires.place ∙ c.in-Some.is) (once_if_distinct (λ (entry : ℕ × ℕ). entry.0) c.args.tid c.args.entries.now.items c.requires.once) in
    c.remove.ensures.items ∙ sym there.kept

pub returns-in_default : goal.returns-in_default
returns-in_default c =
    let none = without (is_of c.args.tid) (λ (entry : ℕ × ℕ). entry) c.args.entries.now.items (sym c.requires.place ∙ c.in_default.is) in
    sym none.kept
