-- What is read of a word of the generator (own): its decimal digits, three for each thing that may happen, and the rest for a
-- place among harts, threads or stays.
use Rattle.std.specs.Prelude.{ℕ, ◌/◌, ◌%◌, ◌==◌, if◌then◌else◌}

-- the lowest three digits: whether the stretch goes on
abbrev pub stay_of : ℕ → ℕ
stay_of w = w % 1000

-- the next three: whether the thread leaves its hart
abbrev pub preempt_of : ℕ → ℕ
preempt_of w = w / 1000 % 1000

-- the next three: whether a waiting store enters memory
abbrev pub drain_of : ℕ → ℕ
drain_of w = w / 1000000 % 1000

-- the next three: whether the thread is interrupted, by requests or a signal
abbrev pub interrupt_of : ℕ → ℕ
interrupt_of w = w / 1000000000 % 1000

-- a place among so many, by a number; 0 among none
abbrev pub place_among : ℕ → ℕ → ℕ
place_among n count = if count == 0 then 0 else n % count

-- the digits above these: a place among so many harts
abbrev pub hart_place : ℕ → ℕ → ℕ
hart_place w count = place_among (w / 1000000000000) count

-- the same digits divided by 840, of which each number of harts is a divisor: a place among so many threads
abbrev pub thread_place : ℕ → ℕ → ℕ
thread_place w count = place_among (w / 840000000000000) count

-- the same digits divided by 60,480, which is 72 times 840: which of the four stays a new stretch has. So it says nothing of its hart,
-- nor of a thread
abbrev pub stretch_of : ℕ → ℕ
stretch_of w = w / 60480000000000000 % 4
