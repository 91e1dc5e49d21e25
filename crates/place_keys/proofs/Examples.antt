-- Worked examples: the words of small values, all that a key has of them.
use Rattle.std.proofs.Common.{◌≡◌, ℕ, ◌*◌, true, false, List, [], ◌∷◌, ◌++◌, Option, Some, None, unwrap_or, slice_index, refl, ap, ◌∙◌}
use Rattle.mach_types.specs.Bytes.{word_at}
use Rattle.mach_types.specs.declared.barriers.Registered.{Registered}
use Rattle.mach_types.specs.declared.limits.End.TheVariants.{Exit, Killed}
use Rattle.mach_types.specs.declared.threads.ThreadState.TheVariants.{Ready, Running, Waiting}
use Rattle.mach_types.specs.Kernel.Scheduling.{Scheduling}
use Rattle.mach_types.specs.Kernel.Signals.{Signalling}
use Rattle.hart_state.specs.declared.hart.HartState.{HartState}
use Rattle.kernel_threads.specs.Table.{Table}
use Rattle.page_map.specs.Map.{Map, break_in, free_in, held_in}
use Rattle.page_map.specs.declared.listing.TheConstants.{ALL_PAGES}
unfoldable use Rattle.place_keys.specs.Differences.{differences}
use Rattle.place_keys.specs.HartWords.{hart_words}
unfoldable use Rattle.place_keys.specs.Packed.{packed_within}
use Rattle.place_keys.specs.Packed.{packed}
use Rattle.place_keys.specs.PageWords.{ALL_WORDS, memory_word, pages_words, permission_word, start_word}
use Rattle.place_keys.specs.TableWords.{area_words, end_words, ready_words, registered_words, signals_words, threads_words}
use Rattle.place_keys.specs.Words.{of_list, of_option}
use Rattle.place_keys.proofs.DifferenceCodes.{nothing_differs}

-- the second and the fourth of four numbers differ
two_differ : differences (slice_index (1 ∷ 2 ∷ 3 ∷ 4 ∷ [])) (slice_index (1 ∷ 9 ∷ 3 ∷ 0 ∷ [])) 0 0 4 ≡ 2 ∷ 9 ∷ 2 ∷ 0 ∷ 0 ∷ []
unfolding differences
two_differ = refl

-- registers, of which a0 (register 10) is 5, and all others are 0
abbrev five_in_a0 : List ℕ
five_in_a0 =
    0 ∷ 0 ∷ 0 ∷ 0 ∷ 0 ∷ 0 ∷ 0 ∷ 0 ∷ 0 ∷ 0 ∷ 5 ∷ 0 ∷ 0 ∷ 0 ∷ 0 ∷ 0
    ∷ 0 ∷ 0 ∷ 0 ∷ 0 ∷ 0 ∷ 0 ∷ 0 ∷ 0 ∷ 0 ∷ 0 ∷ 0 ∷ 0 ∷ 0 ∷ 0 ∷ 0 ∷ 0 ∷ []

-- hart on which thread 2 runs: a store of 7 waits, four bytes at 0x20000, which is reserved too; a barrier
-- asks hart 1's bit
abbrev busy_hart : HartState
busy_hart = record {
  file = record { x = five_in_a0 };
  pc = 65712;
  buffer = (record { at = 131072; size = 4; value = 7 }) ∷ [];
  running = Some (record { 0 = 2 });
  requests = 2;
  restart = true;
  waits = Some 3;
  reserved = Some 131072;
  ran = 30;
  credit = 4;
  events = 50;
  cid = 1;
}

-- 32 registers, of which the one past ten others is 5; the pc; one store; its thread; requests, a restart,
-- three harts that are waited for, the reservation and the concurrency id; neither the 30, the 4 nor the 50
words_of_hart : hart_words busy_hart
    ≡ 32 ∷ 11 ∷ 5 ∷ 0 ∷ 65712 ∷ 1 ∷ 131072 ∷ 4 ∷ 7 ∷ 1 ∷ 2 ∷ 2 ∷ 1 ∷ 1 ∷ 3 ∷ 1 ∷ 131072 ∷ 1 ∷ []
unfolding differences
words_of_hart = refl

-- thread 2 runs on hart 0, thread 3 is ready, and thread 4 waits at 0x20008; 4 numbers were given
abbrev three_threads : Table
three_threads = record {
  threads = record {
    live = (record { tid = 2; state = Running (record { 0 = 0 }); clear_at = 0 })
        ∷ (record { tid = 3; state = Ready; clear_at = 131080 }) ∷ (record { tid = 4; state = Waiting 131080; clear_at = 0 }) ∷ [];
    given = 4;
    waiters = 4 ∷ [];
  };
  saved = (2, None) ∷ (3, Some (record { file = record { x = five_in_a0 }; pc = 65716 }))
      ∷ (4, Some (record { file = record { x = five_in_a0 }; pc = 65720 })) ∷ [];
}

words_of_threads : threads_words three_threads
    ≡ 3 ∷ 2 ∷ 1 ∷ 0 ∷ 0 ∷ 3 ∷ 0 ∷ 131080 ∷ 4 ∷ 2 ∷ 131080 ∷ 0
    ∷ 3 ∷ 2 ∷ 0 ∷ 3 ∷ 1 ∷ 32 ∷ 11 ∷ 5 ∷ 0 ∷ 65716 ∷ 4 ∷ 1 ∷ 32 ∷ 11 ∷ 5 ∷ 0 ∷ 65720
    ∷ 4 ∷ 1 ∷ 4 ∷ []
unfolding differences
words_of_threads = refl

-- signals: the default action of the first one, an action of the second one, and what threads 2 and 3 mask
-- and have pending
abbrev some_signals : Signalling
some_signals = record {
  actions = (record { at = 0; flags = 0; mask = 0 }) ∷ (record { at = 65792; flags = 4; mask = 512 }) ∷ [];
  threads = (record { tid = 2; mask = 512; pending = 0; fault = None })
      ∷ (record { tid = 3; mask = 0; pending = 1024; fault = Some (record { signal = 11; code = 2; address = 4096 }) }) ∷ [];
}

words_of_signals : signals_words some_signals ≡ 6 ∷ 4 ∷ 65792 ∷ 1 ∷ 4 ∷ 1 ∷ 512 ∷ 0 ∷ 2 ∷ 2 ∷ 512 ∷ 0 ∷ 0 ∷ 3 ∷ 0 ∷ 1024 ∷ 1 ∷ 11 ∷ 2 ∷ 4096 ∷ []
unfolding differences
words_of_signals = refl

-- threads 3 and 5 are ready, in this order; thread 3 may run on hart 1 alone
words_of_scheduling : (let s : Scheduling = record { order = 5 ∷ 3 ∷ []; affinities = (3, 2) ∷ (5, 3) ∷ [] } in ready_words s)
    ≡ 2 ∷ 5 ∷ 3 ∷ 2 ∷ 3 ∷ 2 ∷ 5 ∷ 3 ∷ []
words_of_scheduling = refl

-- an area; registrations; an exit with status 3, and a kill by signal 11
words_of_area : of_list area_words ((2, record { at = 131104; sig = 1392848979 }) ∷ []) ≡ 1 ∷ 2 ∷ 131104 ∷ 1392848979 ∷ []
words_of_area = refl

words_of_registrations : (let r : Registered = record { global = false; private = true; rseq = true } in registered_words r) ≡ 0 ∷ 1 ∷ 1 ∷ []
words_of_registrations = refl

words_of_exit : of_option end_words (Some (Exit 3)) ≡ 1 ∷ 0 ∷ 3 ∷ []
words_of_exit = refl

words_of_kill : of_option end_words (Some (Killed 11)) ≡ 1 ∷ 1 ∷ 11 ∷ []
words_of_kill = refl

-- pages as at the start take two words, beside how many frames are free and the break
same_word : (o : Option ℕ) → unwrap_or o (unwrap_or o 0) ≡ unwrap_or o 0
same_word None = refl
same_word (Some n) = refl

words_of_untouched_pages : (start : Map) → pages_words start start ≡ 0 ∷ 0 ∷ free_in start ∷ break_in start ∷ []
words_of_untouched_pages start =
    ap (λ ws. ws ++ (differences (start_word start) (memory_word start start) 0 0 ALL_WORDS ++ free_in start ∷ break_in start ∷ []))
    (nothing_differs (permission_word start) (permission_word start) 0 0 ALL_PAGES (λ j low high. refl))
    ∙ ap (λ ws. 0 ∷ (ws ++ free_in start ∷ break_in start ∷ []))
    (nothing_differs (start_word start) (memory_word start start) 0 0 ALL_WORDS (λ j low high. same_word (word_at (held_in start) (8 * j) 8)))

-- numbers as bytes (DWARF Version 5, figure 22)
packed_numbers : packed (2 ∷ 127 ∷ 128 ∷ 129 ∷ 12857 ∷ []) ≡ 2 ∷ 127 ∷ 128 ∷ 1 ∷ 129 ∷ 1 ∷ 185 ∷ 100 ∷ []
unfolding packed_within
packed_numbers = refl
