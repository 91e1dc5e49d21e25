-- Worked examples: what is picked in each case, by which word, and the first words of generators, computed.
use Rattle.std.proofs.Common.{◌≡◌, ℕ, List, [], ◌∷◌, map, Option, Some, None, true, false, refl}
use Rattle.mach_types.specs.declared.events.Choice.{Choice}
use Rattle.mach_types.specs.declared.events.Choice.TheVariants as asked
use Rattle.mach_types.specs.declared.events.Sight.{Sight}
use Rattle.mach_types.specs.declared.events.Tid.{Tid}
use Rattle.rand_core.specs.Steps.{stream_of, word_bytes, u32_at}
use Rattle.rand_core.specs.Stream.{fill_bytes}
use Rattle.chooser.specs.declared.chooser.Pick.{Pick}
use Rattle.chooser.specs.Cases.{pick}
use Rattle.chooser.specs.Generators.{word, next_generator, after_words, first_generator, first_generators, generator_in, after_pick}
use Rattle.chooser.proofs.Sights.{idle}

abbrev thread_2 : Tid
thread_2 = record { 0 = 2 }

-- an event without credit
abbrev plain : Choice → Option Pick
plain c = Some (record { choice = c; credit = 0 })

-- an execution that leaves a credit
abbrev executed : ℕ → Option Pick
executed credit = Some (record { choice = asked.Exec; credit = credit })

-- a hart whose thread waits in a barrier
abbrev waiting : Sight
waiting = record idle { idle = false; in_barrier = true }

-- a hart whose thread has executed 16 instructions and may go on, while another one could run there
abbrev running : Sight
running = record idle { idle = false; first_ready = Some thread_2; exec_enabled = true; ran = 16 }

-- the same hart after a store, which waits
abbrev storing : Sight
storing = record running { stores = 1 }

pub picks_of_idle_and_waiting_harts :
    (pick idle 0 ≡ None)  -- idle hart does nothing
    × (pick (record idle { first_ready = Some thread_2 }) 0 ≡ plain (asked.Run thread_2))  -- idle hart runs a thread
    × (pick (record idle { first_ready = Some thread_2; requested = true }) 0 ≡ plain asked.Take)  -- request first
    × (pick waiting 0 ≡ None)  -- barrier goes on waiting
    × (pick (record waiting { all_taken = true }) 0 ≡ plain asked.Done)  -- barrier returns
    × (pick (record waiting { all_taken = true; requested = true }) 0 ≡ plain asked.Take)  -- request first
unfolding pick
picks_of_idle_and_waiting_harts = (refl, refl, refl, refl, refl, refl)

-- on credit a request, a signal and a waiting store make no difference; without it they come first
pub picks_by_what_is_seen :
    (pick (record running { local = true; credit = 7 }) 0 ≡ executed 6)  -- credit is lowered
    × (pick (record storing { local = true; credit = 1; requested = true; deliverable = true }) 0 ≡ executed 0)  -- last credit
    × (pick (record running { credit = 7 }) 0 ≡ plain asked.Preempt)  -- credit is for registers alone
    × (pick (record running { local = true }) 0 ≡ plain asked.Preempt)  -- no credit is left
    × (pick (record storing { requested = true }) 0 ≡ plain asked.Drain)  -- request drains first
    × (pick (record running { requested = true; deliverable = true }) 0 ≡ plain asked.Take)  -- request is taken
    × (pick (record storing { deliverable = true }) 0 ≡ plain asked.Drain)  -- signal drains first
    × (pick (record running { deliverable = true }) 0 ≡ plain asked.Signal)  -- signal is delivered
    × (pick (record storing { exec_enabled = false }) 0 ≡ plain asked.Drain)  -- held up hart drains
    × (pick (record running { exec_enabled = false }) 0 ≡ None)  -- held up hart waits
unfolding pick
picks_by_what_is_seen = (refl, refl, refl, refl, refl, refl, refl, refl, refl, refl)

-- by a word: the hart leaves, executes and gets credit or none, or drains where a store waits
pub picks_by_a_word :
    (pick running 0 ≡ plain asked.Preempt)
    × (pick running 8 ≡ plain asked.Preempt)
    × (pick running 80 ≡ plain asked.Preempt)
    × (pick (record running { ran = 17 }) 0 ≡ plain asked.Preempt)  -- leaves after 17
    × (pick running 4 ≡ executed 0)
    × (pick running 12 ≡ executed 0)
    × (pick (record running { ran = 15 }) 80 ≡ executed 5)  -- stays for 16
    × (pick (record running { first_ready = None }) 80 ≡ executed 5)  -- no other is ready
    × (pick storing 80 ≡ executed 5)  -- while a store waits
    × (pick storing 1 ≡ plain asked.Drain)
    × (pick storing 5 ≡ plain asked.Drain)
    × (pick (record storing { stores = 8; ran = 0 }) 93 ≡ plain asked.Drain)
    × (pick running 1 ≡ executed 0)
    × (pick storing 2 ≡ executed 0)
    × (pick running 15 ≡ executed 0)
    × (pick storing 15 ≡ executed 0)
    × (pick storing 23 ≡ executed 1)
    × (pick storing 82 ≡ executed 5)
    × (pick running 127 ≡ executed 7)
    × (pick running 130 ≡ executed 0)
    × (pick running 0xffffffffffffffff ≡ executed 7)
unfolding pick
picks_by_a_word = (refl, refl, refl, refl, refl, refl, refl, refl, refl, refl, refl, refl, refl, refl, refl, refl, refl, refl, refl, refl, refl)

-- each hart has the generator of its number, and an open pick moves it alone
pub generator_of_hart_3 : generator_in (first_generators 1) 3 ≡ first_generator 1 3
generator_of_hart_3 = refl

pub pick_moves_its_own : generator_in (after_pick running 3 (first_generators 1)) 3
    ≡ after_words 1 (first_generator 1 3)
pick_moves_its_own = refl

pub pick_leaves_others : generator_in (after_pick running 3 (first_generators 1)) 2 ≡ first_generator 1 2
pick_leaves_others = refl

pub settled_pick_moves_none : after_pick idle 3 (first_generators 1) ≡ first_generators 1
settled_pick_moves_none = refl

-- the first three words of generators; the values were computed apart from these definitions
abbrev three_words : ℕ → ℕ → List ℕ
three_words seed hart = map (λ n. word (after_words n (first_generator seed hart))) (0 ∷ 1 ∷ 2 ∷ [])

pub words_of_seed_1 :
    (three_words 1 0 ≡ 0xcfc5d07f6f03c29b ∷ 0xbf424132963fe08d ∷ 0x19a37d5757aaf520 ∷ [])
    × (three_words 1 1 ≡ 0xc3e67584b5c4fc2a ∷ 0x89837ec39e40f2c8 ∷ 0xa6bb0b2987ac94cd ∷ [])
unfolding first_generator word next_generator fill_bytes stream_of word_bytes u32_at
words_of_seed_1 = (refl, refl)

pub words_of_seed_42 :
    (three_words 42 0 ≡ 0xd0764d4f4476689f ∷ 0x519e4174576f3791 ∷ 0xfbe07cfb0c24ed8c ∷ [])
    × (three_words 42 1 ≡ 0x2b05935e6f17747d ∷ 0x990660bfc6a5df45 ∷ 0xe04e171981a890d4 ∷ [])
unfolding first_generator word next_generator fill_bytes stream_of word_bytes u32_at
words_of_seed_42 = (refl, refl)

-- the largest seed and hart 1 give seed 0
pub seeds_wrap : three_words 0xffffffffffffffff 1
    ≡ 0x53175d61490b23df ∷ 0x61da6f3dc380d507 ∷ 0x5c0fdf91ec9a7bfc ∷ []
unfolding first_generator word next_generator fill_bytes stream_of word_bytes u32_at
seeds_wrap = refl
