-- The threads that wait, each with the address of its wait, as the plain values that they stand for.
use Rattle.std.specs.Prelude.{ℕ, ◌≡◌, ◌==◌, ◌&&◌, Bool, List, map, Some}
use Rattle.std.specs.List.{AllByRecursion, IsDistinct}
use Rattle.kernel_threads.specs.Rows.{table_in}
use Rattle.kernel_threads.specs.Table.{IsTable}
use Rattle.kernel_threads.specs.declared.rows.Row.{Row}
use Rattle.kernel_threads.specs.declared.waiters.Waiter.{Waiter}
use Rattle.mach_types.specs.Kernel.Threads.{Threads, state_of}
use Rattle.mach_types.specs.declared.threads.ThreadState.TheVariants.{Waiting}

-- the numbers of waiters, and that no two are the same
abbrev pub numbers_of : List Waiter → List ℕ
numbers_of waiters = map (λ waiter. waiter.number) waiters

abbrev pub stand_once : List Waiter → Type 0
stand_once waiters = IsDistinct (λ t u. t == u) (numbers_of waiters)

abbrev pub is_waiter : ℕ → Waiter → Bool
is_waiter n waiter = waiter.number == n

-- whether one waits at an address and listens
abbrev pub waits_at : ℕ → (ℕ → Bool) → Waiter → Bool
waits_at at listens waiter = waiter.at == at && listens waiter.number

-- each waiter is a thread that waits at its address
abbrev pub HaveAddresses : Threads → List Waiter → Type 0
HaveAddresses ts waiters = AllByRecursion (λ waiter. state_of waiter.number ts ≡ Some (Waiting waiter.at)) waiters

-- what holds of the rows, of how many numbers were given, and of the waiters: so does the table that they stand for, and
-- the addresses are those of the waiters' states
pub record IsKept (rows : List Row) (given : ℕ) (waiters : List Waiter) : Type 0 where
  pub table : IsTable (table_in rows given (numbers_of waiters))
  pub addresses : HaveAddresses (table_in rows given (numbers_of waiters)).threads waiters
