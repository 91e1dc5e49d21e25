use Rattle.std.proofs.Common.{ℕ, ◌≡◌, true, false, cond, eqb, refl}
use Rattle.mach_types.proofs.Laws.{keeps_clear}
use Rattle.mach_types.specs.Kernel.Threads.{clear_if}
use Rattle.kernel_threads.specs.Rows.{clear_row_if, saved_in, thread_in}
use Rattle.kernel_threads.proofs.Opened.{same_kept, rising, same_table}
use Rattle.kernel_threads.proofs.Viewed.{IsRowChange, rows_saved, rows_threads}
use Rattle.kernel_threads.specs.Waits.{numbers_of}
use Rattle.kernel_threads.proofs.Kept.{kept_rows}
use Rattle.kernel_threads.proofs.table.Threads.set_clear.Goals as goal

-- a row with another address to clear
clears_row : (n at : ℕ) → IsRowChange (clear_row_if n at) (clear_if n at)
clears_row n at = record {
  thread = λ row. elim (eqb row.number n) as (λ b. thread_in (cond b (record row { clear_at = at }) row) ≡ cond b (record (thread_in row) { clear_at = at }) (thread_in row)) [ true ↦ refl | false ↦ refl ];
  saved = λ row. elim (eqb row.number n) as (λ b. saved_in (cond b (record row { clear_at = at }) row) ≡ saved_in row) [ true ↦ refl | false ↦ refl ];
  keeps = keeps_clear n at;
}

pub invariant_of-self : goal.invariant_of-self
invariant_of-self c =
    let lent = c.deref_mut.result.now in
    kept_rows lent.rows.items c.set_clear.new.rows.items c.self.inside.given lent.waiters.items
    (same_kept c.self.inside.slots.value lent c.self.inside.given c.deref_mut.ensures.value c.self.invariant)
    (clear_row_if c.args.tid.0 c.args.at) (clear_if c.args.tid.0 c.args.at) (clears_row c.args.tid.0 c.args.at) c.set_clear.ensures

pub returns-clause-threads : goal.returns-clause-threads
returns-clause-threads c =
    let lent = c.deref_mut.result.now in
    rows_threads lent.rows.items c.set_clear.new.rows.items c.self.inside.given (numbers_of lent.waiters.items)
    (clear_row_if c.args.tid.0 c.args.at) (clear_if c.args.tid.0 c.args.at) (clears_row c.args.tid.0 c.args.at) c.set_clear.ensures c.args.self.now
    (same_table c.self.inside.slots.value lent c.self.inside.given c.args.self.now c.deref_mut.ensures.value c.self.view_is)

pub returns-clause-saved : goal.returns-clause-saved
returns-clause-saved c =
    let lent = c.deref_mut.result.now in
    rows_saved lent.rows.items c.set_clear.new.rows.items c.self.inside.given (numbers_of lent.waiters.items)
    (clear_row_if c.args.tid.0 c.args.at) (clear_if c.args.tid.0 c.args.at) (clears_row c.args.tid.0 c.args.at) c.set_clear.ensures c.args.self.now
    (same_table c.self.inside.slots.value lent c.self.inside.given c.args.self.now c.deref_mut.ensures.value c.self.view_is)

pub returns-clause-table : goal.returns-clause-table
returns-clause-table c = (invariant_of-self c).table

pub set_clear-requires : goal.set_clear-requires
set_clear-requires c = rising c.self.inside.slots.value c.deref_mut.result.now c.self.inside.given c.deref_mut.ensures.value c.self.invariant.table
