-- The pool of a processor (own): a count, and 64 bytes on its 512 slots of 8 bytes each. Pools lie 8,192 bytes apart. The
-- items of a pool are its slots below the count.
use Rattle.std.specs.Prelude.{ℕ, ◌+◌, ◌*◌, ◌^◌, ◌≤◌, Option, unwrap_or}
use Rattle.mach_types.specs.declared.user_memory.Store.{Store}
use Rattle.block_model.specs.History.{History}
use Rattle.block_model.specs.Setting.{Setting}
use Rattle.percpu_lib.specs.Pushes.{LieBeside, word_seen}

-- the pool of a processor, and a slot of a pool
abbrev pub pool_at : ℕ → ℕ → ℕ
pool_at pools cpu = pools + 8192 * cpu

abbrev pub slot_at : ℕ → ℕ → ℕ
slot_at pool k = pool + 64 + 8 * k

-- the word of the count as hart h sees it, and the count: each byte has a number, so that there always is one
abbrev pub count_seen : Setting → ℕ → ℕ → History → Option ℕ
count_seen s h pools before = word_seen s h (pool_at pools h) before

abbrev pub count_of : Setting → ℕ → ℕ → History → ℕ
count_of s h pools before = unwrap_or (count_seen s h pools before) 0

-- the stores to a count, and to a slot
abbrev pub count_store : ℕ → ℕ → Store
count_store pool count = record { at = pool; size = 8; value = count }

abbrev pub slot_store : ℕ → ℕ → ℕ → Store
slot_store pool k item = record { at = slot_at pool k; size = 8; value = item }

-- what is asked of the pool of a hart: it doesn't pass 2^64, its count is at most 512, and the count's word lies beside
-- the area
pub record IsPool (s : Setting) (area pools h : ℕ) (before : History) : Type 0 where
  pub low_pool : pool_at pools h + 4160 ≤ 2 ^ 64
  pub at_most : count_of s h pools before ≤ 512
  pub beside : LieBeside (pool_at pools h) 8 area 32
