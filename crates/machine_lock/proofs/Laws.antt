-- The laws that crates above cite.
pub use Rattle.machine_lock.proofs.LogLemmas.{adds_none, end_is_last, ended_of_advance, follows_length, follows_of_advance, follows_on, follows_self}
pub use Rattle.machine_lock.proofs.NumberLemmas.{append_two, in_append, in_merge, in_numbers, merge_front, numbers_rise, rises_below, rises_higher, rises_tail, rises_weaker}
