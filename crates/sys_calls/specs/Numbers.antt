-- The calls after which the thread may not go on, and those over pages, by their numbers.
use Rattle.std.specs.Prelude.{ℕ, ◌≢◌}

-- a number of another call
pub record IsOther (number : ℕ) : Type 0 where
  pub exit : number ≢ 93
  pub exit_group : number ≢ 94
  pub futex : number ≢ 98
  pub sched_setaffinity : number ≢ 122
  pub sched_yield : number ≢ 124
  pub rt_sigreturn : number ≢ 139
  pub membarrier : number ≢ 283
  pub rseq : number ≢ 293

-- a number of a call that isn't over pages
pub record IsOffPages (number : ℕ) : Type 0 where
  pub brk : number ≢ 214
  pub munmap : number ≢ 215
  pub mmap : number ≢ 222
  pub mprotect : number ≢ 226
  pub madvise : number ≢ 233
