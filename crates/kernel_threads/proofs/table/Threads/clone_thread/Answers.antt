use Rattle.std.proofs.Common.{◌≡◌, ◌≤◌, ◌++◌, ◌∷◌, [], ◌∙◌, sym, ap, eqb, length, false, arith}
use Rattle.kernel_threads.specs.Table.{Table}
use Rattle.kernel_threads.specs.declared.rows.Row.{Row}
use Rattle.kernel_threads.specs.declared.table.Slots.{Slots}
use Rattle.kernel_threads.proofs.Opened.{same_kept, not_full}
use Rattle.kernel_threads.specs.Waits.{numbers_of}
use Rattle.kernel_threads.proofs.Kept.{kept_grown}
use Rattle.kernel_threads.proofs.table.Threads.clone_thread.Goals as goal

pub invariant_of-self : goal.invariant_of-self
invariant_of-self c =
    let lent = c.deref_mut.result.now in
    let same : lent ≡ c.deref.result.now = c.deref_mut.ensures.value ∙ sym c.deref.ensures in
    let other : eqb (length lent.rows.items) 64 ≡ false =
    ap (λ (s : Slots). eqb (length s.rows.items) 64) same ∙ sym c.is_full.ensures.value ∙ c.if-is_full.false in
    let fits : length c.deref.result.now.rows.items ≤ 64 = c.is_full.ensures.fits in
    let within : length lent.rows.items ≤ 64 = omega (arith, fits, ap (λ (s : Slots). length s.rows.items) same) in
    kept_grown lent.rows.items c.push.new.self.items c.self.inside.given lent.waiters.items
    (same_kept c.self.inside.slots.value lent c.self.inside.given c.deref_mut.ensures.value c.self.invariant)
    c.args.start
    (c.push.ensures.items ∙ ap (λ (r : Row). lent.rows.items ++ r ∷ []) c.new.ensures)
    (omega (arith, c.requires.numbers, ap (λ (t : Table). t.threads.given) c.self.view_is))
    (not_full lent.rows.items c.self.inside.given (numbers_of lent.waiters.items) other within)

pub returns-clause-table : goal.returns-clause-table
returns-clause-table c = (invariant_of-self c).table
