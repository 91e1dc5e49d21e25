use Rattle.std.proofs.Common.{◌∙◌, List, find, ap}
use Rattle.std.specs.Option.{option_map}
use Rattle.kernel_threads.specs.Rows.{all_saved_in}
use Rattle.kernel_threads.specs.Table.{Table, hears_saved}
use Rattle.kernel_threads.specs.Waits.{waits_at}
use Rattle.kernel_threads.specs.declared.rows.Row.{Row}
use Rattle.kernel_threads.specs.declared.table.Slots.{Slots}
use Rattle.kernel_threads.specs.declared.waiters.Waiter.{Waiter}
use Rattle.kernel_threads.proofs.Addresses.{first_waits}
use Rattle.kernel_threads.proofs.Opened.{rising, slots_table}
use Rattle.mach_types.specs.Kernel.Threads.{longest_waiter}
use Rattle.kernel_threads.proofs.table.Threads.longest_waiter.Goals as goal

pub first_at-requires : goal.first_at-requires
first_at-requires c = rising c.self.inside.slots.value c.deref-2.result.now c.self.inside.given c.deref-2.ensures c.self.invariant.table

pub returns-clause-longest : goal.returns-clause-longest
returns-clause-longest c =
    let slots = c.self.inside.slots.value in
    let first = λ (rows : List Row) (ws : List Waiter). option_map (λ (w : Waiter). w.number) (find (waits_at c.args.at (hears_saved c.args.mask (all_saved_in rows))) ws) in
    c.first_at.ensures
    ∙ ap (first c.deref-2.result.now.rows.items) (c.as_slice-waiters.ensures.value ∙ ap (λ (s : Slots). s.waiters.items) c.deref.ensures)
    ∙ ap (λ (s : Slots). first s.rows.items slots.waiters.items) c.deref-2.ensures
    ∙ first_waits c.args.at (hears_saved c.args.mask (all_saved_in slots.rows.items)) (slots_table slots c.self.inside.given).threads slots.waiters.items c.self.invariant.addresses
    ∙ ap (λ (t : Table). longest_waiter c.args.at (hears_saved c.args.mask t.saved) t.threads) c.self.view_is
