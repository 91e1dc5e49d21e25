-- Worked examples: the definitions of the ready list and the affinities, computed.
use Rattle.std.proofs.Common.{◌≡◌, ℕ, List, [], ◌∷◌, Some, None, true, false, refl}
use Rattle.mach_types.specs.Kernel.Scheduling.{Scheduling, all_harts, has_hart, harts_in, start_scheduling, affinity_of, first_for, with_thread, with_ready, without_ready, with_affinity}
use Rattle.scheduler.specs.Entries.{set_among, is_last}
use Rattle.scheduler.specs.Holding.{is_held, is_ready}

pub three_harts : all_harts 3 ≡ 7
three_harts = refl

-- of the harts 2 to 7, a machine of four has 2 and 3
pub harts_of_the_machine : harts_in 0xfc 4 ≡ 0xc
harts_of_the_machine = refl

pub hart_2_of_the_set : has_hart 0xc 2 ≡ true
hart_2_of_the_set = refl

pub hart_1_is_lacking : has_hart 0xc 1 ≡ false
hart_1_is_lacking = refl

-- two threads are ready; the first one may run on hart 0 alone
abbrev two : Scheduling
two = with_affinity 1 1 (with_ready 2 (with_thread 1 2 (start_scheduling 2)))

pub order_of_two : two.order ≡ 1 ∷ 2 ∷ []
order_of_two = refl

pub child_has_its_parents_harts : affinity_of 2 two ≡ 3
child_has_its_parents_harts = refl

pub first_for_hart_0 : first_for 0 two ≡ Some 1
first_for_hart_0 = refl

pub first_for_hart_1 : first_for 1 two ≡ Some 2
first_for_hart_1 = refl

pub none_for_hart_1 : first_for 1 (without_ready 2 two) ≡ None
none_for_hart_1 = refl

-- a new thread is held, and isn't ready
pub new_thread_is_held : is_held 2 (with_thread 1 2 (start_scheduling 2)) ≡ true
new_thread_is_held = refl

pub new_thread_is_not_ready : is_ready 2 (with_thread 1 2 (start_scheduling 2)) ≡ false
new_thread_is_not_ready = refl

-- of the entries of threads 2 and 5, the harts of each, and a number above the last one
abbrev entries : List (ℕ × ℕ)
entries = (2, 3) ∷ (5, 1) ∷ []

pub harts_of_thread_5 : set_among entries 5 ≡ 1
harts_of_thread_5 = refl

pub thread_4_has_none : set_among entries 4 ≡ 0
thread_4_has_none = refl

pub six_comes_last : is_last 6 entries ≡ true
six_comes_last = refl

pub four_comes_between : is_last 4 entries ≡ false
four_comes_between = refl
