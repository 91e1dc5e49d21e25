-- exit(2): the tables once a thread is gone.
use Rattle.std.specs.Prelude.{ℕ, ◌≡◌, map, None}
use Rattle.mach_types.specs.Kernel.Threads.{running_on}
use Rattle.block_model.specs.Here.{Here}
use Rattle.block_model.specs.History.{file_among}
use Rattle.block_model.specs.Ids.{without_id}
use Rattle.block_model.specs.Kernel.{gone}
use Rattle.block_model.specs.Calls.Futexes.{answered_wait, anyone, wake}
use Rattle.sys_calls.specs.declared.kernel.Kernel.{Kernel}
use Rattle.sys_calls.specs.Made.{AreSaved}
use Rattle.sys_calls.specs.Tables.{HoldsTables}

-- thread t is gone from the hart, once at most so many of the threads that wait at an address were woken
pub record IsGone (h : Here) (k : Kernel) (k' : Kernel) (t : ℕ) (most : ℕ) (at : ℕ) (here : ℕ) : Type 0 where
  pub tables : HoldsTables k' (gone t (wake most at anyone h.kernel).kernel)
  pub ids : (gone t (wake most at anyone h.kernel).kernel).ids ≡ without_id t h.kernel.ids
  pub kept : AreSaved h.file k.threads
      → AreSaved (λ u. file_among (map (answered_wait h) (wake most at anyone h.kernel).threads) u (h.file u)) k'.threads
  pub idle : running_on here k'.threads.threads ≡ None
  pub alone : file_among (map (answered_wait h) (wake most at anyone h.kernel).threads) t (h.file t) ≡ h.file t
