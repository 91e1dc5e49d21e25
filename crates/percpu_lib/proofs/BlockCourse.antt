-- A thread at the retry label of a block, whose hart is left undisturbed, is at the post-commit address after as many
-- instructions as stand before it, by a sequence that is whole.
use Rattle.std.proofs.Common.{◌≡◌, ℕ, zero, suc, ◌+◌, ◌*◌, ◌-◌, ◌%◌, ◌^◌, ◌<◌, ◌≤◌, ◌⊎◌, inl, inr, List, ◌++◌}
use Rattle.std.proofs.Common.{◌∷◌, refl, sym, ap, ◌∙◌, arith, subst, Bool, true, false, eqb, ltb}
use Rattle.std.proofs.Common.{Option, Some, None, ℤ, pos, length, slice_get}
use Rattle.std.proofs.lemmas.Bool.{cases_lt, lt-ltb}
use Rattle.mach_types.proofs.Laws.{eqb_same}
use Rattle.mach_types.specs.Events.{choice_with}
use Rattle.mach_types.specs.Kernel.Areas.{is_inside}
use Rattle.mach_types.specs.Kernel.Threads.{running_on}
use Rattle.mach_types.specs.Registers.{register}
use Rattle.mach_types.specs.declared.events.Entry.{Entry}
use Rattle.mach_types.specs.declared.events.Kind.TheVariants as kind
use Rattle.mach_types.specs.declared.registers.Regs.{Regs}
use Rattle.mach_types.specs.declared.sequences.Area.{Area}
use Rattle.mach_types.specs.declared.threads.Saved.{Saved}
use Rattle.rv_inst.specs.declared.instruction.Inst.{Inst}
use Rattle.rv_inst.specs.declared.instruction.Inst.TheVariants as inst
use Rattle.rv_inst.specs.Memory.{low_bytes}
use Rattle.rv_inst.specs.Words.{sum_64, word}
use Rattle.alone.specs.Temps.{IsLike, is_scratch}
use Rattle.alone.proofs.Laws.{loaded_small}
use Rattle.alone.proofs.Means.{means_addi, means_lui, means_lw, means_sd}
use Rattle.block_model.specs.Acts.{Sequence, begun_with, is_inside_at}
use Rattle.block_model.specs.Acts.{sequence_on, with_event}
use Rattle.block_model.specs.Deciding.{history}
use Rattle.block_model.specs.Events.{done_of}
use Rattle.block_model.specs.Events.Drain.{done_drain_of}
use Rattle.block_model.specs.Here.{waiting_here}
use Rattle.block_model.specs.History.{Event, History, file, file_among, here_in_history, running}
use Rattle.block_model.specs.Record.{Kernel}
use Rattle.block_model.specs.Run.{IsBlockRun, IsRunHistory}
use Rattle.block_model.specs.Setting.{Setting}
use Rattle.block_model.proofs.Laws.{IsStep, file_apart, runs_apart, step_of}
use Rattle.alone_laws.specs.Blocks.{IsFairSince, IsSoFar, among}
use Rattle.alone_laws.specs.Entering.{IsIn}
use Rattle.alone_laws.specs.Spans.{alone_from, code_of}
use Rattle.alone_laws.specs.Undisturbed.{Brings, IsUndisturbed, executed_on}
use Rattle.alone_laws.specs.Uses.{AlwaysOutside, CanAlwaysBegin, CanBegin, IsWellPlaced, Placed, is_before}
use Rattle.alone_laws.proofs.Arrivals.{IsCode}
use Rattle.alone_laws.proofs.Entered.{entered}
use Rattle.alone_laws.proofs.Entering.{inside_there}
use Rattle.alone_laws.proofs.OneStep.{step_load, step_next, step_store}
use Rattle.alone_laws.proofs.OpenSequences.{its_thread, none_drained, none_open, one_begun, one_drained}
use Rattle.alone_laws.proofs.OpenSequences.{one_executed, still_open}
use Rattle.alone_laws.proofs.Processors.{tells_first}
use Rattle.alone_laws.proofs.Sequences.{apart_step, each_among, exec_step, so_far, starts}
use Rattle.alone_laws.proofs.Steps.{IsIdle, drain_idle, standing_drain}
use Rattle.alone_laws.proofs.Undisturbed.{brought}
use Rattle.percpu_lib.specs.Forms.{Form, HoldsBlock, IsAtStart, IsBlockPlace, IsCommitted, block_of, committed}
use Rattle.percpu_lib.specs.Forms.{placed_of, range_of}
use Rattle.percpu_lib.specs.Words.{lower, upper}
use Rattle.percpu_lib.specs.declared.slots.Slots.{Slots}
use Rattle.percpu_lib.proofs.BlockCode.{KnowsTable}
use Rattle.percpu_lib.proofs.Courses.{HasCourse, IsCourse}
use Rattle.percpu_lib.proofs.UsesLaw.{fair_since, held_before, inside_start, is_code, is_placed, place_there}

-- a word that copies a register, or a sum, into one that every block may change
pub record IsCopy (form : Form) (k : ℕ) : Type 0 where
  pub rd : ℕ
  pub rs : ℕ
  pub imm : ℤ
  pub there : slice_get form.words k ≡ Some (Some (inst.Addi rd rs imm))
  pub scratch : is_scratch rd ≡ true
  pub some : eqb rd 0 ≡ false
  pub low : rd < 32

-- the words before the sequence: so many that copy, and then these four
pub record AsksFirst (form : Form) (lead : ℕ) : Type 0 where
  pub all : form.first ≡ lead + 4
  pub copies : (k : ℕ) → k < lead → IsCopy form k
  pub lw : slice_get form.words lead ≡ Some (Some (inst.Lw 5 form.slots.area (pos 0)))
  pub lui : slice_get form.words (lead + 1) ≡ Some (Some (inst.Lui 6 (upper form.slots.table)))
  pub addi : slice_get form.words (lead + 2) ≡ Some (Some (inst.Addi 6 6 (lower form.slots.table)))
  pub store : slice_get form.words (lead + 3) ≡ Some (Some (inst.Sd form.slots.area 6 (pos 8)))

module _ (s : Setting) (form : Form) (at : ℕ) (area : Area) (h t : ℕ) (law : HasCourse form)
    (lead : ℕ) (asks : AsksFirst form lead) where
  abbrev b : Placed
  b = placed_of form at area

  abbrev p : Slots
  p = form.slots

  abbrev pages : ℕ → Option Inst
  pages = code_of s.program.pages

  -- what is asked
  record IsAsked (history : History) : Type 0 where
    held : HoldsBlock s history form at area t
    begins : CanAlwaysBegin s b t history
    outside : AlwaysOutside s b t history

  fewer : (e : Event) (before : History) → IsAsked (e ∷ before) → IsAsked before
  fewer e before asked = record {
    held = held_before s e before form at area t asked.held;
    begins = asked.begins.0;
    outside = asked.outside.0;
  }

  -- before the sequence: the thread has executed so many words of the block
  record IsComing (n : ℕ) (before : History) : Type 0 where
    runs : running s h before ≡ Some t
    pc : (file s t before).pc ≡ at + 4 * n
    chosen : lead + 1 ≤ n → register (file s t before).file 5 ≡ h
    closed : 1 ≤ n → sequence_on s h before ≡ None

  -- in the sequence: so many instructions of it
  record IsGoing (n : ℕ) (before : History) : Type 0 where
    sequence : Sequence
    begun : IsAtStart s (at + 4 * form.first) h t sequence.begun
    chosen : eqb h (register (file s t sequence.begun).file 5) ≡ true
    thread : sequence.thread ≡ t
    is : sequence_on s h before ≡ Some sequence
    place : IsBlockPlace s form at area h t sequence.begun
    so : IsSoFar s (block_of s form at area h t sequence.begun) h t sequence.begun sequence.reached before n
    inside : is_inside (range_of form at) (alone_from s h t sequence.begun n).file.pc ≡ true

  -- so many instructions may be left behind the next
  data IsLeft (m : ℕ) (before : History) : Type 0 where
    coming : (n : ℕ) → n + m + 1 ≡ committed form → n ≤ lead + 4 → IsComing n before → IsLeft m before
    going : (n : ℕ) → n + m + 1 ≡ form.inside → IsGoing n before → IsLeft m before

  -- AN EVENT
  module _ (e : Event) (before : History) (run : IsRunHistory s (e ∷ before)) (asked : IsAsked (e ∷ before)) where
    step : IsStep s e before
    step = step_of s e before run

    held : HoldsBlock s (e ∷ before) form at area t
    held = asked.held

    placed : IsWellPlaced b
    placed = is_placed s form at area t law (e ∷ before) held

    code : IsCode s b (KnowsTable form)
    code = is_code s form at area t law (e ∷ before) held

    course_at : (begun : History) → IsBlockPlace s form at area h t begun → IsCourse s form at area h t begun
    course_at begun place = law.course s at area h t begun held.stands held.slots place

    fair_at : (begun : History) → IsAtStart s (at + 4 * form.first) h t begun → IsFairSince s
        (block_of s form at area h t begun) h t begun (e ∷ before)
    fair_at begun start = fair_since s form at area t law h begun start (e ∷ before) held.used

    -- inside its range the thread is inside what its area names
    named_in : running s h before ≡ Some t → IsIn s (range_of form at) t before → is_inside_at s h before ≡ true
    named_in runs inside =
        inside_there s (range_of form at) t h before runs inside
        ((entered s b t (KnowsTable form) placed code (e ∷ before) run held.uses).1.names h runs inside)

    -- an event of another hart
    apart_coming : (n : ℕ) → eqb e.entry.hart.0 h ≡ false → IsComing n before → IsComing n (e ∷ before)
    apart_coming n apart was =
        let same = file_apart s h t e before step apart was.runs in
        record {
          runs = runs_apart s h e before step apart ∙ was.runs;
          pc = ap (λ (f : Saved). f.pc) same ∙ was.pc;
          chosen = λ some. ap (λ (f : Saved). register f.file 5) same ∙ was.chosen some;
          closed = λ some. still_open s h e before apart ∙ was.closed some;
        }

    apart_going : (n : ℕ) → eqb e.entry.hart.0 h ≡ false → IsGoing n before → IsGoing n (e ∷ before)
    apart_going n apart was =
        let q = was.sequence in
        record {
          sequence = q;
          begun = was.begun;
          chosen = was.chosen;
          thread = was.thread;
          is = still_open s h e before apart ∙ was.is;
          place = was.place;
          so = apart_step s (block_of s form at area h t q.begun) h t q.begun (course_at q.begun was.place).sole e before q.reached n step
              (held.used.1.fair h q.begun was.begun (inr (q, was.is, refl))) apart was.so;
          inside = was.inside;
        }

    module _ (own : e.entry.hart.0 ≡ h) where
      -- a store that enters memory
      idle : e.entry.kind ≡ kind.Drain → IsIdle (here_in_history s before h) e.done
      idle is =
          let here = here_in_history s before e.entry.hart.0 in
          let did : e.done ≡ done_drain_of here (waiting_here here) =
          step.did ∙ ap (λ k. done_of (choice_with k e.entry) here) is in
          subst (λ k. IsIdle (here_in_history s before k) e.done) own
          (subst (IsIdle here) (sym did) (drain_idle here (waiting_here here) refl))

      drained_coming : (n : ℕ) → e.entry.kind ≡ kind.Drain → IsComing n before → IsComing n (e ∷ before)
      drained_coming n is was =
          let done = idle is in
          let same : file s t (e ∷ before) ≡ file s t before =
          ap (λ (fs : List (ℕ × Saved)). file_among fs t (file s t before)) done.files in
          record {
            runs = ap (λ (k : Kernel). running_on h k.threads) done.kernel ∙ was.runs;
            pc = ap (λ (f : Saved). f.pc) same ∙ was.pc;
            chosen = λ some. ap (λ (f : Saved). register f.file 5) same ∙ was.chosen some;
            closed = λ some. none_drained s h e before own is (was.closed some);
          }

      -- where a sequence goes on the thread is inside
      in_range_now : (n : ℕ) (was : IsGoing n before) → is_inside_at s h before ≡ true
      in_range_now n was =
          named_in was.so.now.runs (ap (λ (f : Saved). is_inside (range_of form at) f.pc) was.so.now.file ∙ was.inside)

      drained_going : (n : ℕ) → e.entry.kind ≡ kind.Drain → IsGoing n before → IsGoing n (e ∷ before)
      drained_going n is was =
          let q = was.sequence in
          let block = block_of s form at area h t q.begun in
          let sole = (course_at q.begun was.place).sole in
          record {
            sequence = with_event e before q;
            begun = was.begun;
            chosen = was.chosen;
            thread = was.thread;
            is = one_drained s h e before own (in_range_now n was) q is was.is;
            place = was.place;
            so = so_far s block h t q.begun sole (e ∷ before) n was.so.below
                (standing_drain s block.words h t q.begun e before (alone_from s h t q.begun n) step own
                (ap (λ k. choice_with k e.entry) is) (was.so.inside was.inside));
            inside = was.inside;
          }

      -- AN INSTRUCTION
      module _ (executes : e.entry.kind ≡ kind.Exec) where
        -- the next stage, or the end
        abbrev Next : ℕ → Type 0
        Next m = IsCommitted s form at h t (e ∷ before) ⊎ ((k : ℕ) × (k < m) × IsLeft k (e ∷ before))

        advanced : (n m : ℕ) (q : Sequence) → n + m + 1 ≡ form.inside → IsAtStart s (at + 4 * form.first) h t q.begun
            → eqb h (register (file s t q.begun).file 5) ≡ true → q.thread ≡ t
            → sequence_on s h (e ∷ before) ≡ Some q → q.reached ≡ e ∷ before
            → IsBlockPlace s form at area h t q.begun
            → IsSoFar s (block_of s form at area h t q.begun) h t q.begun q.reached (e ∷ before) (suc n)
            → Next m
        advanced n m q sum start chosen thread is reached place so =
            by_place ((course_at q.begun place).gone_on chosen (suc n) so.below)
          where
            by_place : ((is_inside (range_of form at) (alone_from s h t q.begun (suc n)).file.pc ≡ true)
                × (suc n < form.inside))
                ⊎ ((alone_from s h t q.begun (suc n)).file.pc ≡ at + 4 * committed form) → Next m
            by_place (inl inside) =
                let few = inside.1 in
                inr (
                  form.inside - 1 - suc n,
                  omega arith,
                  going (suc n) (omega arith) (record {
                    sequence = q;
                    begun = start;
                    chosen = chosen;
                    thread = thread;
                    is = is;
                    place = place;
                    so = so;
                    inside = inside.0;
                  }),
                )
            by_place (inr done) =
                let pc : (file s t q.reached).pc ≡ at + 4 * committed form =
                ap (λ (f : Saved). f.pc) so.reached.file ∙ done in
                inl (record {
                  sequence = q;
                  is = is;
                  thread = thread;
                  begins = ap (is_inside (range_of form at)) start.pc ∙ inside_start s form at area t law held.low;
                  reached = reached;
                  pc = ap (λ (x : History). (file s t x).pc) (sym reached) ∙ pc;
                  does = subst (λ (x : History). form.Whole s h t q.begun x) reached
                      (((course_at q.begun place).once (e ∷ before) q run (fair_at q.begun start) is refl).0 pc);
                })

        -- one more in the sequence
        executed_going : (n m : ℕ) → n + m + 1 ≡ form.inside → IsGoing n before → Next m
        executed_going n m sum was =
            let q = was.sequence in
            let block = block_of s form at area h t q.begun in
            let sole = (course_at q.begun was.place).sole in
            let inside = in_range_now n was in
            advanced n m (with_event e before q) sum was.begun was.chosen was.thread
            (one_executed s h e before own inside q executes was.is)
            refl was.place
            (exec_step s block h t q.begun sole e before q.reached n step
            (held.used.1.fair h q.begun was.begun (inr (q, was.is, refl))) own executes inside was.so)

        -- the first one
        executed_first : (m : ℕ) → m + 1 ≡ form.inside → IsComing (lead + 4) before → Next m
        executed_first m sum was =
            let block = block_of s form at area h t before in
            let lt = step.good.lt in
            let few = held.few in
            let four = asks.all in
            let start : IsAtStart s (at + 4 * form.first) h t before =
            record { runs = was.runs; pc = was.pc ∙ omega arith } in
            let in_it : IsIn s (range_of form at) t before =
            ap (is_inside (range_of form at)) start.pc ∙ inside_start s form at area t law held.low in
            let inside = named_in was.runs in_it in
            let fair = held.used.1.fair h before start (inl refl) in
            let place = place_there s form at area t law h e before run held (omega (arith, own)) start in
            let sole = (course_at before place).sole in
            advanced 0 m (begun_with h e before) (omega (arith, sum)) start
            (ap (λ n. eqb h n) (was.chosen (omega arith)) ∙ eqb_same h) (its_thread s h e before own t step executes was.runs)
            (one_begun s h e before own inside executes (was.closed (omega arith)))
            refl place
            (exec_step s block h t before sole e before before 0 step fair own executes inside
            (starts s block h t before was.runs sole before refl))

        -- BEFORE THE SEQUENCE
        module _ (n : ℕ) (few : n ≤ lead + 3) (was : IsComing n before) where
          before_start : is_before b (file s t before).pc ≡ true
          before_start =
              let low = held.low in
              let four = asks.all in
              ap (λ x. ltb ((x + (2 ^ 64 - at)) % 2 ^ 64) ((at + 4 * form.first + (2 ^ 64 - at)) % 2 ^ 64)) was.pc
              ∙ lt-ltb ((at + 4 * n + (2 ^ 64 - at)) % 2 ^ 64) ((at + 4 * form.first + (2 ^ 64 - at)) % 2 ^ 64) (omega arith)

          can : CanBegin s b h t before
          can = asked.begins.1 h was.runs before_start

          outside : is_inside_at s h before ≡ false
          outside = asked.outside.1 h was.runs before_start

          area_is : register (file s t before).file p.area ≡ area.at
          area_is =
              let low = held.low in
              let four = asks.all in
              let within = law.formed.within in
              let all = law.formed.short in
              held.uses.1.registers h was.runs
              (ap (λ x. ltb ((x + (2 ^ 64 - at)) % 2 ^ 64) (4 * length form.words)) was.pc
              ∙ lt-ltb ((at + 4 * n + (2 ^ 64 - at)) % 2 ^ 64) (4 * length form.words) (omega arith))

          came : (m : ℕ) → n + m + 1 ≡ committed form → running s h (e ∷ before) ≡ Some t
              → (file s t (e ∷ before)).pc ≡ at + 4 * suc n
              → (lead + 1 ≤ suc n → register (file s t (e ∷ before)).file 5 ≡ h) → Next m
          came m sum runs pc five = let four = asks.all in let inside = law.formed.inside in inr (
            committed form - 2 - n,
            omega arith,
            coming (suc n) (omega arith) (omega arith) (record {
              runs = runs;
              pc = pc;
              chosen = five;
              closed = λ some. none_open s h e before own outside;
            }),
          )

        abbrev bytes : ℕ → Bool
        bytes = among area.at 32

        copied : (n m : ℕ) → n < lead → n + m + 1 ≡ committed form → IsComing n before → Next m
        copied n m lt sum was =
            let low = held.low in
            let four = asks.all in
            let near = law.formed.short in
            let within = law.formed.within in
            let may = can n (omega arith) was in
            let c = asks.copies n lt in
            let i : Inst = inst.Addi c.rd c.rs c.imm in
            let f = (file s t before).file in
            let v = sum_64 (register f c.rs) (word c.imm) in
            let next = step_next s h t e before run own executes was.runs bytes may.usable is_scratch (at + 4 * n)
            was.pc i (held.stands.holds n i c.there) c.rd v (at + 4 * suc n)
            (λ g like. means_addi g (at + 4 * n) (at + 4 * suc n) (omega arith) c.rd c.rs c.imm (register f c.rs) v
            (unchanged f g like c.rs (is_scratch c.rs) refl) refl) c.scratch c.some c.low in
            came n (omega arith) was m sum next.runs_on next.goes_to (λ some. absurd (omega arith))
          where
            unchanged : (f g : Regs) → IsLike is_scratch f (register f) g → (r : ℕ) (b : Bool) → is_scratch r ≡ b
                → register g r ≡ register f r
            unchanged f g like r true is = like.temp r is
            unchanged f g like r false is = like.rest r is

        read_chosen : (m : ℕ) → lead + m + 1 ≡ committed form → IsComing lead before → Next m
        read_chosen m sum was =
            let low = held.low in
            let low_area = held.low_area in
            let near = law.formed.short in
            let within = law.formed.within in
            let may = can lead (omega arith) was in
            let i : Inst = inst.Lw 5 p.area (pos 0) in
            let one = step.good.lt in
            let few = held.few in
            let low_cpu : h < 8 = omega (arith, own) in
            let next = step_load s h t e before run own executes was.runs bytes may.usable is_scratch (at + 4 * lead)
            was.pc i (held.stands.holds lead i asks.lw) area.at 4 5 h (at + 4 * suc lead) true
            (λ f like. means_lw f (at + 4 * lead) 5 p.area (pos 0) area.at area.at
            (like.rest p.area held.slots.area ∙ area_is lead (omega arith) was) (omega arith))
            (each_among area.at 32 area.at 4 (omega arith) (omega arith))
            (tells_first s t area held.few before h run.0 held.processor.0 was.runs may.registered) refl refl
            (omega arith) (omega arith) in
            came lead (omega arith) was m sum next.runs_on next.goes_to
            (λ some. next.like.temp 5 refl ∙ loaded_small h low_cpu)

        upper_set : (m : ℕ) → lead + 1 + m + 1 ≡ committed form → IsComing (lead + 1) before → Next m
        upper_set m sum was =
            let low = held.low in
            let near = law.formed.short in
            let within = law.formed.within in
            let may = can (lead + 1) (omega arith) was in
            let i : Inst = inst.Lui 6 (upper p.table) in
            let next = step_next s h t e before run own executes was.runs bytes may.usable is_scratch
            (at + 4 * (lead + 1)) was.pc i (held.stands.holds (lead + 1) i asks.lui) 6 (word (upper p.table))
            (at + 4 * suc (lead + 1))
            (λ f like. means_lui f (at + 4 * (lead + 1)) (at + 4 * suc (lead + 1)) (omega arith) 6 (upper p.table)
            (word (upper p.table)) refl) refl refl (omega arith) in
            came (lead + 1) (omega arith) was m sum next.runs_on next.goes_to
            (λ some. next.like.temp 5 refl ∙ was.chosen (omega arith))

        lower_set : (m : ℕ) → lead + 2 + m + 1 ≡ committed form → IsComing (lead + 2) before → Next m
        lower_set m sum was =
            let six = register (file s t before).file 6 in
            let low = held.low in
            let near = law.formed.short in
            let within = law.formed.within in
            let may = can (lead + 2) (omega arith) was in
            let i : Inst = inst.Addi 6 6 (lower p.table) in
            let next = step_next s h t e before run own executes was.runs bytes may.usable is_scratch
            (at + 4 * (lead + 2)) was.pc i (held.stands.holds (lead + 2) i asks.addi) 6
            (sum_64 six (word (lower p.table))) (at + 4 * suc (lead + 2))
            (λ f like. means_addi f (at + 4 * (lead + 2)) (at + 4 * suc (lead + 2)) (omega arith) 6 6 (lower p.table) six
            (sum_64 six (word (lower p.table))) (like.temp 6 refl) refl) refl refl (omega arith) in
            came (lead + 2) (omega arith) was m sum next.runs_on next.goes_to
            (λ some. next.like.temp 5 refl ∙ was.chosen (omega arith))

        pointer_stored : (m : ℕ) → lead + 3 + m + 1 ≡ committed form → IsComing (lead + 3) before → Next m
        pointer_stored m sum was =
            let low = held.low in
            let low_area = held.low_area in
            let near = law.formed.short in
            let within = law.formed.within in
            let may = can (lead + 3) (omega arith) was in
            let i : Inst = inst.Sd p.area 6 (pos 8) in
            let six = register (file s t before).file 6 in
            let next = step_store s h t e before run own executes was.runs bytes may.usable is_scratch
            (at + 4 * (lead + 3)) was.pc i (held.stands.holds (lead + 3) i asks.store) (area.at + 8) 8 (low_bytes 8 six)
            (at + 4 * suc (lead + 3))
            (λ f like. means_sd f (at + 4 * (lead + 3)) p.area 6 (pos 8) area.at (area.at + 8) six (low_bytes 8 six)
            (like.rest p.area held.slots.area ∙ area_is (lead + 3) (omega arith) was) (omega arith) (like.temp 6 refl)
            refl)
            (each_among area.at 32 (area.at + 8) 8 (omega arith) (omega arith)) (omega arith) in
            came (lead + 3) (omega arith) was m sum next.runs_on next.goes_to
            (λ some. next.like.temp 5 refl ∙ was.chosen (omega arith))

        -- at a word behind those that copy
        executed_word : (n m j : ℕ) → n ≡ lead + j → n + m + 1 ≡ committed form → n ≤ lead + 4 → IsComing n before
            → Next m
        executed_word n m zero is sum few was =
            read_chosen m (omega arith) (subst (λ k. IsComing k before) (omega arith) was)
        executed_word n m (suc zero) is sum few was =
            upper_set m (omega arith) (subst (λ k. IsComing k before) (omega arith) was)
        executed_word n m (suc (suc zero)) is sum few was =
            lower_set m (omega arith) (subst (λ k. IsComing k before) (omega arith) was)
        executed_word n m (suc (suc (suc zero))) is sum few was =
            pointer_stored m (omega arith) (subst (λ k. IsComing k before) (omega arith) was)
        executed_word n m (suc (suc (suc (suc zero)))) is sum few was =
            let four = asks.all in
            executed_first m (omega arith) (subst (λ k. IsComing k before) (omega arith) was)
        executed_word n m (suc (suc (suc (suc (suc j))))) is sum few was = absurd (omega arith)

        executed_coming : (n m : ℕ) → n + m + 1 ≡ committed form → n ≤ lead + 4 → IsComing n before → Next m
        executed_coming n m sum few was = by_lead (cases_lt n lead)
          where
            by_lead : (n < lead) ⊎ (lead ≤ n) → Next m
            by_lead (inl lt) = copied n m lt sum was
            by_lead (inr past) = executed_word n m (n - lead) (omega arith) sum few was

  -- each event
  apart : (m : ℕ) (e : Event) (before : History) → IsRunHistory s (e ∷ before) → IsAsked (e ∷ before)
      → eqb e.entry.hart.0 h ≡ false → IsLeft m before → IsLeft m (e ∷ before)
  apart m e before run asked other (coming n sum few was) =
      coming n sum few (apart_coming e before run asked n other was)
  apart m e before run asked other (going n sum was) = going n sum (apart_going e before run asked n other was)

  drained : (m : ℕ) (e : Event) (before : History) → IsRunHistory s (e ∷ before) → IsAsked (e ∷ before)
      → e.entry.hart.0 ≡ h → e.entry.kind ≡ kind.Drain → IsLeft m before → IsLeft m (e ∷ before)
  drained m e before run asked own is (coming n sum few was) =
      coming n sum few (drained_coming e before run asked own n is was)
  drained m e before run asked own is (going n sum was) =
      going n sum (drained_going e before run asked own n is was)

  executed : (m : ℕ) (e : Event) (before : History) → IsRunHistory s (e ∷ before) → IsAsked (e ∷ before)
      → e.entry.hart.0 ≡ h → e.entry.kind ≡ kind.Exec → IsLeft m before
      → IsCommitted s form at h t (e ∷ before) ⊎ ((k : ℕ) × (k < m) × IsLeft k (e ∷ before))
  executed m e before run asked own is (coming n sum few was) =
      executed_coming e before run asked own is n m sum few was
  executed m e before run asked own is (going n sum was) = executed_going e before run asked own is n m sum was

  pub comes_to_commit : (m : ℕ) → suc m ≡ committed form → (log rest : List Entry) → IsBlockRun s (log ++ rest)
      → HoldsBlock s (history s (log ++ rest)) form at area t → CanAlwaysBegin s b t (history s (log ++ rest))
      → AlwaysOutside s b t (history s (log ++ rest))
      → running s h (history s log) ≡ Some t → (file s t (history s log)).pc ≡ at → IsUndisturbed h rest
      → suc m ≤ executed_on h rest → Brings s h (suc m) (IsCommitted s form at h t) log rest
  comes_to_commit m all log rest run held begins outside runs pc calm many =
      brought s h IsAsked fewer IsLeft (IsCommitted s form at h t) apart drained executed rest log m run
      (record { held = held; begins = begins; outside = outside }) calm
      (coming 0 (omega arith) (omega arith) (record {
        runs = runs;
        pc = pc ∙ omega arith;
        chosen = λ some. absurd (omega arith);
        closed = λ some. absurd (omega arith);
      })) many
