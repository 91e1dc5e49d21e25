-- Where a thread's own instructions just before the starts of blocks alone write the pointer of its area, the
-- pointer is 0 or the address of the descriptor of one of them. So before a block's sequence the thread is inside
-- no sequence.
use Rattle.std.proofs.Common.{◌≡◌, ◌≢◌, ℕ, zero, suc, ◌+◌, ◌<◌, ◌^◌, ◌⊎◌, ◌||◌, inl, inr, List, [], ◌∷◌, ◌++◌, drop}
use Rattle.std.proofs.Common.{refl, sym, ap, ◌∙◌, subst, arith, Bool, true, false, not, cond, eqb, leb, Option}
use Rattle.std.proofs.Common.{Some, None, unwrap_or, ◌&&◌}
use Rattle.std.specs.Prelude.{Contains}
use Rattle.std.specs.Option.{option_map_or}
use Rattle.std.proofs.lemmas.Bool.{eqb-true, eqb-false, false≢true}
use Rattle.std.proofs.lemmas.Bool.Decides.{nat_tests}
use Rattle.mach_types.proofs.Laws.{eqb_same, kind_is, kind_is_not}
use Rattle.mach_types.specs.Bytes.{byte_after, byte_over, overlay, word_at, written}
use Rattle.mach_types.specs.Events.{choice_with, is_kind}
use Rattle.mach_types.specs.Kernel.Areas.{Words, area_of, can_read_area, can_read_descriptor, descriptor_at}
use Rattle.mach_types.specs.Kernel.Areas.{has_flags, is_inside, is_inside_named, is_out_of_range, is_signed}
use Rattle.mach_types.specs.Kernel.Areas.{named, named_by, number_at, pointer_of, sequence_of, words_entered}
use Rattle.mach_types.specs.Kernel.Areas.{words_on, words_written, writes_of}
use Rattle.mach_types.specs.Kernel.SignalFrames.{frame_writes}
use Rattle.mach_types.specs.Kernel.Signals.{action_of, fault_of, mask_of, next_for}
use Rattle.mach_types.specs.Kernel.Threads.{is_ready}
use Rattle.mach_types.specs.declared.address_space.TheConstants.{USER_END}
use Rattle.mach_types.specs.declared.events.Kind.{Kind}
use Rattle.mach_types.specs.declared.events.Kind.TheVariants as kind
use Rattle.mach_types.specs.declared.sequences.Area.{Area}
use Rattle.mach_types.specs.declared.sequences.BadWhy.TheVariants as bad
use Rattle.mach_types.specs.declared.sequences.Named.{Named}
use Rattle.mach_types.specs.declared.sequences.Named.TheVariants as names
use Rattle.mach_types.specs.declared.sequences.Outcome.{Outcome}
use Rattle.mach_types.specs.declared.sequences.Outcome.TheVariants as comes_to
use Rattle.mach_types.specs.declared.sequences.Seq.{Seq}
use Rattle.mach_types.specs.declared.sequences.TheConstants.{AREA_SIZE, RSEQ_CS}
use Rattle.mach_types.specs.declared.user_memory.Store.{Store}
use Rattle.mach_types.specs.declared.user_memory.Write.{Write}
use Rattle.block_model.specs.Acts.{is_inside_at}
use Rattle.block_model.specs.Events.{done_of, refusal_of}
use Rattle.block_model.specs.Events.Preempt.{unless_in_barrier}
use Rattle.block_model.specs.Events.Run.{done_killed, done_run, done_running, lives_on}
use Rattle.block_model.specs.Events.Signal.{done_next, done_signal_by, file_interrupted, handled_unless_killed}
use Rattle.block_model.specs.Events.Signal.{kills, refusal_delivery, refusal_signal_by}
use Rattle.block_model.specs.Events.Take.{done_take_by}
use Rattle.block_model.specs.Here.{Done, Here, view, waiting_here}
use Rattle.block_model.specs.History.{Event, History, byte, file, here_in_history, kernel, running, waiting}
use Rattle.block_model.specs.Ids.{next_id}
use Rattle.block_model.specs.Run.{IsRunHistory}
use Rattle.block_model.specs.Sequences.{area_here, can_write_words, interruption_here, is_inside_here, words_to}
use Rattle.block_model.specs.Setting.{Setting}
use Rattle.block_model.proofs.Laws.{IsStep, drains_none, not_ready, one_hart, ran_before, run_ready}
use Rattle.block_model.proofs.Laws.{of_kernel, runs_apart, step_of, writes_none}
use Rattle.alone_laws.specs.Blocks.{among}
use Rattle.alone_laws.specs.Pointers.{AlwaysDescribed, AreDescribed, LiesBeside, PointerIs}
use Rattle.alone_laws.specs.Pointers.{PointerKept, StoresTable, WritesPointer, has_area, has_had, is_at, pointer_at}
use Rattle.alone_laws.specs.Spans.{Leaves, seen_at}
use Rattle.alone_laws.specs.Uses.{AlwaysOutside, CanAlwaysBegin, CanBegin, Placed, is_before}
use Rattle.alone_laws.proofs.Arrivals.{IsOnOrOff, awaits_open, begun_is, is_off, is_on, no_one, no_reason, on_or_off}
use Rattle.alone_laws.proofs.Arrivals.{signal_empty, take_empty}
use Rattle.alone_laws.proofs.Sequences.{each_among}
use Rattle.alone_laws.proofs.StoredWords.{among_low, beside_word, stored_word}
use Rattle.alone_laws.proofs.Steps.{IsIdle, drain_idle, overlay_append, sees_apart, sees_idle, take_idle}
use Rattle.alone_laws.proofs.Steps.{view_is, word_same}

written_append : (xs ys : List Write) (a b : ℕ) → written (xs ++ ys) a b ≡ written ys a (written xs a b)
written_append [] ys a b = refl
written_append (x ∷ xs) ys a b = written_append xs ys a (byte_after x a b)

drop_none : (n : ℕ) → drop n (let xs : List Store = [] in xs) ≡ []
drop_none zero = refl
drop_none (suc n) = refl

either_is : (a b : Bool) → a || b ≡ true → (a ≡ true) ⊎ (b ≡ true)
either_is true b is = inl refl
either_is false b is = inr is

exec_is_drain : kind.Exec ≡ kind.Drain → ⊥
exec_is_drain is = cc

module _ (s : Setting) (blocks : List Placed) (t at : ℕ)
    (low : (b : Placed) → Contains blocks b → b.table < 2 ^ 64) where
  abbrev IsOff : History → Type 0
  IsOff before = (h : ℕ) → running s h before ≢ Some t

  abbrev memory_bytes : History → ℕ → Option ℕ
  memory_bytes before a = Some (byte s before a)

  -- the pointer is 0 or the address of a descriptor
  pub record IsKnown (bytes : ℕ → Option ℕ) : Type 0 where
    pub number : ℕ
    pub word : word_at bytes (at + RSEQ_CS) 8 ≡ Some number
    pub known : (number ≡ 0) ⊎ ((b : Placed) × Contains blocks b × (number ≡ b.table))

  pub record IsKnownAt (before : History) : Type 0 where
    pub seen : (h : ℕ) → running s h before ≡ Some t → IsKnown (seen_at s h before)
    pub held : IsOff before → IsKnown (memory_bytes before)

  known_same : (f g : ℕ → Option ℕ) → ((a : ℕ) → pointer_at at a ≡ true → f a ≡ g a) → IsKnown g → IsKnown f
  known_same f g same was = record {
    number = was.number;
    word = word_same (pointer_at at) f g same (at + RSEQ_CS) 8
        (each_among (at + RSEQ_CS) 8 (at + RSEQ_CS) 8 (omega arith) (omega arith)) ∙ was.word;
    known = was.known;
  }

  -- WHAT THE KERNEL WRITES

  abbrev after_writes : List Write → (ℕ → ℕ) → ℕ → Option ℕ
  after_writes ws g a = Some (written ws a (g a))

  known_left : (ws : List Write) (g : ℕ → ℕ) → Leaves (pointer_at at) ws → IsKnown (λ a. Some (g a))
      → IsKnown (after_writes ws g)
  known_left ws g leaves was =
      known_same (after_writes ws g) (λ a. Some (g a)) (λ a has. ap Some (leaves a (g a) has)) was

  known_zero : (g : ℕ → ℕ) (from : ℕ) → from ≡ at
      → IsKnown (λ a. Some (byte_over (record { at = from + RSEQ_CS; size = 8; value = 0 }) a (g a)))
  known_zero g from is =
      subst (λ n. IsKnown (λ a. Some (byte_over (record { at = n + RSEQ_CS; size = 8; value = 0 }) a (g a)))) (sym is)
      (record {
        number = 0;
        word = stored_word g (record { at = at + RSEQ_CS; size = 8; value = 0 }) (omega arith);
        known = inl refl;
      })

  -- as that of the area: an interruption makes the pointer 0, or leaves it
  area_is : (o : Option Area) → option_map_or (is_at at) o false ≡ true → (area : Area) × (o ≡ Some area) × (area.at ≡ at)
  area_is None is = absurd (false≢true is)
  area_is (Some area) is = (area, refl, eqb-true area.at at is)

  known_interrupted : (g : ℕ → ℕ) (area : Area) → area.at ≡ at → (o : Outcome) → IsKnown (λ a. Some (g a))
      → IsKnown (after_writes (writes_of (Some area) o) g)
  known_interrupted g area is comes_to.Nothing was = was
  known_interrupted g area is comes_to.Cleared was = known_zero g area.at is
  known_interrupted g area is (comes_to.Aborted to) was = known_zero g area.at is
  known_interrupted g area is (comes_to.Killed why) was = was

  -- the words of the processor lie beside it
  known_words : (g : ℕ → ℕ) (area : Area) (w : Words) → area.at ≡ at → IsKnown (λ a. Some (g a))
      → IsKnown (after_writes (words_written area w) g)
  known_words g area w is was =
      let first : Store = record { at = area.at; size = 4; value = w.cpu_id_start } in
      let second : Store = record { at = area.at + 4; size = 4; value = w.cpu_id } in
      let third : Store = record { at = area.at + 20; size = 4; value = w.node_id } in
      let fourth : Store = record { at = area.at + 24; size = 4; value = w.mm_cid } in
      let one = λ (a : ℕ). byte_over first a (g a) in
      let two = λ (a : ℕ). byte_over second a (one a) in
      let three = λ (a : ℕ). byte_over third a (two a) in
      record {
        number = was.number;
        word = beside_word (λ a. Some (three a)) fourth (at + RSEQ_CS) 8 (inr (omega (arith, is)))
            ∙ beside_word (λ a. Some (two a)) third (at + RSEQ_CS) 8 (inr (omega (arith, is)))
            ∙ beside_word (λ a. Some (one a)) second (at + RSEQ_CS) 8 (inl (omega (arith, is)))
            ∙ beside_word (λ a. Some (g a)) first (at + RSEQ_CS) 8 (inl (omega (arith, is)))
            ∙ was.word;
        known = was.known;
      }

  known_entered : (g : ℕ → ℕ) (area : Area) (w : Words) (can : Bool) → area.at ≡ at → IsKnown (λ a. Some (g a))
      → IsKnown (after_writes (words_entered can area w) g)
  known_entered g area w true is was = known_words g area w is was
  known_entered g area w false is was = was

  known_more : (xs ys : List Write) (g : ℕ → ℕ) → IsKnown (after_writes ys (λ a. written xs a (g a)))
      → IsKnown (after_writes (xs ++ ys) g)
  known_more xs ys g was =
      known_same (after_writes (xs ++ ys) g) (after_writes ys (λ a. written xs a (g a)))
      (λ a has. ap Some (written_append xs ys a (g a))) was

  -- ONE MORE EVENT

  module _ (e : Event) (before : History) (run : IsRunHistory s (e ∷ before)) (was : IsKnownAt before)
      (w : WritesPointer s blocks t at e before) where
    step : IsStep s e before
    step = step_of s e before run

    abbrev own : ℕ
    own = e.entry.hart.0

    abbrev here : Here
    here = here_in_history s before own

    abbrev g : ℕ → ℕ
    g a = byte s before a

    free_at : (k : Kind) → e.entry.kind ≡ k → refusal_of (choice_with k e.entry) here ≡ None
    free_at k is = sym (ap (λ j. refusal_of (choice_with j e.entry) here) is) ∙ step.free

    did_at : (k : Kind) → e.entry.kind ≡ k → e.done ≡ done_of (choice_with k e.entry) here
    did_at k is = step.did ∙ ap (λ j. done_of (choice_with j e.entry) here) is

    -- by what it wrote as of the area
    by_area : (ws : List Write) → e.done.entered ≡ ws → e.entry.kind ≢ kind.Drain
        → (running s own before ≡ Some t) ⊎ ((e.entry.kind ≡ kind.Run) × (e.entry.tid.0 ≡ t))
        → IsKnown (λ a. Some (g a))
        → ((area : Area) → area_here here t ≡ Some area → area.at ≡ at → IsKnown (after_writes ws g))
        → IsKnown (memory_bytes (e ∷ before))
    by_area ws is other its known own_area = by_case (has_area t at (kernel s before).areas) refl
      where
        by_case : (c : Bool) → has_area t at (kernel s before).areas ≡ c → IsKnown (memory_bytes (e ∷ before))
        by_case false none = known_left e.done.entered g (w.elsewhere its none other) known
        by_case true some =
            let a = area_is (area_of t (kernel s before).areas) some in
            subst (λ (xs : List Write). IsKnown (after_writes xs g)) (sym is) (own_area a.0 a.1 a.2)

    -- what an interruption writes, and the frame of a signal
    abbrev interrupted : Outcome
    interrupted = interruption_here here t

    abbrev cut : List Write
    cut = writes_of (area_here here t) interrupted

    abbrev frame : ℕ → List Write
    frame signal =
        let g = here.kernel.signals in
        frame_writes signal (action_of signal g) (fault_of t signal g) (file_interrupted here t interrupted) (mask_of t g)

    known_cut : IsKnown (λ a. Some (g a)) → (area : Area) → area_here here t ≡ Some area → area.at ≡ at
        → IsKnown (after_writes cut g)
    known_cut base area some same =
        subst (λ (x : Option Area). IsKnown (after_writes (writes_of x interrupted) g)) (sym some)
        (known_interrupted g area same interrupted base)

    -- AN EVENT OF ITS HART, ON WHICH IT RAN

    module _ (ran : running s own before ≡ Some t) where
      seen_there : IsKnown (seen_at s own before)
      seen_there = was.seen own ran

      kept : e.done.drained ≡ 0 → Leaves (pointer_at at) e.done.entered
          → ((a c : ℕ) → pointer_at at a ≡ true → overlay e.done.executed a c ≡ c)
          → IsKnown (seen_at s own (e ∷ before))
      kept none leaves stores =
          known_same (seen_at s own (e ∷ before)) (seen_at s own before)
          (λ a has. ap Some (
          ap (λ (ws : List Store). overlay ws a (written e.done.entered a (byte s before a)))
          (step.waits ∙ ap (λ n. drop n (waiting own before ++ e.done.executed)) none)
          ∙ overlay_append (waiting own before) e.done.executed a (written e.done.entered a (byte s before a))
          ∙ stores a (overlay (waiting own before) a (written e.done.entered a (byte s before a))) has
          ∙ ap (overlay (waiting own before) a) (leaves a (byte s before a) has))) seen_there

      kept_idle : IsIdle here e.done → IsKnown (seen_at s own (e ∷ before))
      kept_idle idle =
          known_same (seen_at s own (e ∷ before)) (seen_at s own before)
          (λ a has. ap Some (sees_idle s e before a step idle)) seen_there

      -- where no store waits, memory is what it sees
      seen_memory : waiting own before ≡ [] → e.done.executed ≡ [] → IsKnown (memory_bytes (e ∷ before))
          → IsKnown (seen_at s own (e ∷ before))
      seen_memory empty none known =
          known_same (seen_at s own (e ∷ before)) (memory_bytes (e ∷ before))
          (λ a has. ap Some (
          ap (λ (ws : List Store). overlay ws a (byte s (e ∷ before) a))
          (step.waits ∙ ap (λ (es : List Store). drop e.done.drained (waiting own before ++ es)) none
          ∙ ap (λ (ws : List Store). drop e.done.drained (ws ++ [])) empty ∙ drop_none e.done.drained))) known

      in_memory : waiting own before ≡ [] → IsKnown (λ a. Some (g a))
      in_memory empty =
          known_same (λ a. Some (g a)) (seen_at s own before)
          (λ a has. ap Some (sym (ap (λ (ws : List Store). overlay ws a (byte s before a)) empty))) seen_there

      -- the instruction just before the start of a block stores the address of its descriptor
      stored : e.entry.kind ≡ kind.Exec → (b : Placed) → Contains blocks b → StoresTable s b t at e before
          → IsKnown (seen_at s own (e ∷ before))
      stored is b has it =
          let none = drains_none s e before step (λ drains. exec_is_drain (sym is ∙ drains)) in
          let store : Store = record { at = at + RSEQ_CS; size = 8; value = b.table } in
          let below = low b has in
          let under = λ (a : ℕ). overlay (waiting own before) a (written e.done.entered a (byte s before a)) in
          known_same (seen_at s own (e ∷ before)) (λ a. Some (byte_over store a (under a)))
          (λ a on_it. ap Some (
          ap (λ (ws : List Store). overlay ws a (written e.done.entered a (byte s before a)))
          (step.waits ∙ ap (λ n. drop n (waiting own before ++ e.done.executed)) none)
          ∙ overlay_append (waiting own before) e.done.executed a (written e.done.entered a (byte s before a))
          ∙ ap (λ (es : List Store). overlay es a (under a)) it.executed))
          (record {
            number = b.table;
            word = stored_word under store (omega arith);
            known = inr (b, has, refl);
          })

      by_exec : e.entry.kind ≡ kind.Exec → IsKnown (seen_at s own (e ∷ before))
      by_exec is = by_stores (w.stores ran)
        where
          by_stores : ((a c : ℕ) → pointer_at at a ≡ true → overlay e.done.executed a c ≡ c)
              ⊎ ((b : Placed) × Contains blocks b × StoresTable s b t at e before)
              → IsKnown (seen_at s own (e ∷ before))
          by_stores (inl leaves) =
              kept (drains_none s e before step (λ drains. exec_is_drain (sym is ∙ drains))) (w.own ran is) leaves
          by_stores (inr it) = stored is it.0 it.1 it.2

      by_take : e.entry.kind ≡ kind.Take → IsKnown (seen_at s own (e ∷ before))
      by_take is = by_restart here.restart (did_at kind.Take is ∙ ap (done_take_by here here.restart) ran)
        where
          by_restart : (c : Bool) → e.done ≡ done_take_by here c (Some t) → IsKnown (seen_at s own (e ∷ before))
          by_restart false did = kept_idle (subst (IsIdle here) (sym did) (take_idle here false (Some t) refl))
          by_restart true did =
              let empty = take_empty here (free_at kind.Take is) in
              let base = in_memory empty in
              seen_memory empty (ap (λ (d : Done). d.executed) did)
              (by_area cut (ap (λ (d : Done). d.entered) did)
              (kind_is_not e.entry.kind kind.Take kind.Drain is refl) (inl ran) base (known_cut base))

      by_signal : e.entry.kind ≡ kind.Signal → IsKnown (seen_at s own (e ∷ before))
      by_signal is =
          by_next (next_for t here.kernel.signals) refl
          (did_at kind.Signal is ∙ ap (done_signal_by here) ran)
        where
          may : refusal_signal_by here (Some t) ≡ None
          may = sym (ap (refusal_signal_by here) ran) ∙ free_at kind.Signal is

          empty : waiting own before ≡ []
          empty = signal_empty here t may

          other : e.entry.kind ≢ kind.Drain
          other = kind_is_not e.entry.kind kind.Signal kind.Drain is refl

          by_kill : (signal : ℕ) (k : Option ℕ) → e.done ≡ handled_unless_killed here t signal interrupted k
              → IsKnown (seen_at s own (e ∷ before))
          by_kill signal None did =
              let entered = ap (λ (d : Done). d.entered) did in
              let base = in_memory empty in
              seen_memory empty (ap (λ (d : Done). d.executed) did)
              (by_area (cut ++ frame signal) entered other (inl ran) base
              (λ area some same. known_more cut (frame signal) g (known_left (frame signal) (λ a. written cut a (g a))
              (w.frame (frame signal) ran is entered) (known_cut base area some same))))
          by_kill signal (Some killer) did =
              let base = in_memory empty in
              seen_memory empty (ap (λ (d : Done). d.executed) did)
              (by_area cut (ap (λ (d : Done). d.entered) did) other (inl ran) base (known_cut base))

          by_next : (next : Option ℕ) → next_for t here.kernel.signals ≡ next
              → e.done ≡ done_next here t (next_for t here.kernel.signals) → IsKnown (seen_at s own (e ∷ before))
          by_next None none did = absurd (no_reason (awaits_open here.awaits _
              (ap (λ n. unless_in_barrier here.awaits (refusal_delivery here n)) (sym none) ∙ may)))
          by_next (Some signal) some did =
              by_kill signal (kills here t signal interrupted) (did ∙ ap (done_next here t) some)

      runs_not : e.entry.kind ≡ kind.Run → ⊥
      runs_not is = no_one t (sym (run_ready here e.entry.tid.0 (free_at kind.Run is)).0 ∙ ran)

      own_kind : (k : Kind) → e.entry.kind ≡ k → IsKnown (seen_at s own (e ∷ before))
      own_kind kind.Exec is = by_exec is
      own_kind kind.Drain is =
          kept_idle (subst (IsIdle here) (sym (did_at kind.Drain is)) (drain_idle here (waiting_here here) refl))
      own_kind kind.Take is = by_take is
      own_kind kind.Run is = absurd (runs_not is)
      own_kind kind.Signal is = by_signal is
      own_kind k is =
          let did = did_at k is in
          let by_it = of_kernel here (choice_with k e.entry) refl in
          kept (ap (λ (d : Done). d.drained) did ∙ by_it.drained)
          (λ a c has. ap (λ (d : Done). written d.entered a c) did
          ∙ ap (λ (ws : List Write). written ws a c) (writes_none here (choice_with k e.entry) refl refl))
          (λ a c has. ap (λ (d : Done). overlay d.executed a c) did
          ∙ ap (λ (ws : List Store). overlay ws a c) by_it.executed)

      own_seen : IsKnown (seen_at s own (e ∷ before))
      own_seen = own_kind e.entry.kind refl

      -- where it leaves its hart no store waits
      left_hart : IsOff (e ∷ before) → IsKnown (memory_bytes (e ∷ before))
      left_hart off =
          known_same (memory_bytes (e ∷ before)) (seen_at s own (e ∷ before))
          (λ a has. ap Some (sym (ap (λ (ws : List Store). overlay ws a (byte s (e ∷ before) a))
          (step.waits ∙ step.fit.idle (idle (running s own (e ∷ before)) refl))))) own_seen
        where
          idle : (o : Option ℕ) → running s own (e ∷ before) ≡ o → running s own (e ∷ before) ≡ None
          idle None is = is
          idle (Some u) is =
              absurd (off own (is ∙ sym (ran_before s e before run (λ runs. runs_not runs) u is) ∙ ran))

    -- WHERE IT BEGINS TO RUN

    module _ (is : e.entry.kind ≡ kind.Run) (its : e.entry.tid.0 ≡ t) (off : IsOff before) where
      did : e.done ≡ done_run here t
      did = did_at kind.Run is ∙ ap (done_run here) its

      other : e.entry.kind ≢ kind.Drain
      other = kind_is_not e.entry.kind kind.Run kind.Drain is refl

      begun_area : (c : Bool) → e.done ≡ cond c (done_running here t interrupted) (done_killed here t interrupted)
          → IsKnown (memory_bytes (e ∷ before))
      begun_area true runs_it =
          let words = words_on own (next_id here.kernel.ids) in
          by_area (cut ++ words_to here (area_here here t) words) (ap (λ (d : Done). d.entered) runs_it) other
          (inr (is, its)) (was.held off)
          (λ area some same.
          subst (λ (x : Option Area). IsKnown (after_writes (writes_of x interrupted ++ words_to here x words) g))
          (sym some)
          (known_more (writes_of (Some area) interrupted) (words_to here (Some area) words) g
          (known_entered (λ a. written (writes_of (Some area) interrupted) a (g a)) area words
          (can_write_words here (Some area)) same (known_interrupted g area same interrupted (was.held off)))))
      begun_area false killed =
          by_area cut (ap (λ (d : Done). d.entered) killed) other (inr (is, its)) (was.held off)
          (known_cut (was.held off))

      begun_memory : IsKnown (memory_bytes (e ∷ before))
      begun_memory = begun_area (lives_on here t interrupted) did

      executed_none : (c : Bool) → (cond c (done_running here t interrupted) (done_killed here t interrupted)).executed ≡ []
      executed_none true = refl
      executed_none false = refl

      begun_seen : IsKnown (seen_at s own (e ∷ before))
      begun_seen =
          let idle = (run_ready here e.entry.tid.0 (free_at kind.Run is)).0 in
          let none : e.done.executed ≡ [] =
          ap (λ (d : Done). d.executed) did ∙ executed_none (lives_on here t interrupted) in
          known_same (seen_at s own (e ∷ before)) (memory_bytes (e ∷ before))
          (λ a has. ap Some (
          ap (λ (ws : List Store). overlay ws a (byte s (e ∷ before) a))
          (step.waits ∙ ap (λ (es : List Store). drop e.done.drained (waiting own before ++ es)) none
          ∙ ap (λ (ws : List Store). drop e.done.drained (ws ++ [])) (step.good.idle own idle)
          ∙ drop_none e.done.drained))) begun_memory

    -- EITHER

    -- a thread that begins to run was on no hart
    begins_off : e.entry.kind ≡ kind.Run → e.entry.tid.0 ≡ t → IsOff before
    begins_off is its h at_h =
        let ready = (run_ready here e.entry.tid.0 (free_at kind.Run is)).1 in
        false≢true (sym (not_ready s e before step h t at_h)
        ∙ sym (ap (λ n. is_ready n (kernel s before).threads) its) ∙ ready)

    seen_apart : (h : ℕ) → eqb own h ≡ false → running s h (e ∷ before) ≡ Some t → IsKnown (seen_at s h (e ∷ before))
    seen_apart h apart now =
        let there : running s h before ≡ Some t = sym (runs_apart s h e before step apart) ∙ now in
        let leaves = w.others
        (λ on_own. eqb-false own h apart (sym (one_hart s e before step h t there own on_own)))
        (λ is its. begins_off is its h there) in
        known_same (seen_at s h (e ∷ before)) (seen_at s h before)
        (λ a has. ap Some (sees_apart s h e before a apart (leaves a (byte s before a) has))) (was.seen h there)

    seen_own : running s own (e ∷ before) ≡ Some t → IsKnown (seen_at s own (e ∷ before))
    seen_own now = by_run (is_kind e.entry.kind kind.Run) refl
      where
        by_run : (c : Bool) → is_kind e.entry.kind kind.Run ≡ c → IsKnown (seen_at s own (e ∷ before))
        by_run true runs_now =
            let is = kind_is e.entry.kind kind.Run runs_now in
            let its = begun_is s e before t step is now in
            begun_seen is its (begins_off is its)
        by_run false other =
            own_seen (ran_before s e before run (kind_is_not e.entry.kind e.entry.kind kind.Run refl other) t now)

    seen_next : (h : ℕ) → running s h (e ∷ before) ≡ Some t → IsKnown (seen_at s h (e ∷ before))
    seen_next h now = by_hart (eqb own h) refl
      where
        by_hart : (c : Bool) → eqb own h ≡ c → IsKnown (seen_at s h (e ∷ before))
        by_hart false apart = seen_apart h apart now
        by_hart true is =
            let same = eqb-true own h is in
            subst (λ k. IsKnown (seen_at s k (e ∷ before))) same
            (seen_own (ap (λ k. running s k (e ∷ before)) same ∙ now))

    held_next : IsOff (e ∷ before) → IsKnown (memory_bytes (e ∷ before))
    held_next off = by_place (on_or_off s e before step t)
      where
        by_hart : (h : ℕ) → running s h before ≡ Some t → (c : Bool) → eqb own h ≡ c
            → IsKnown (memory_bytes (e ∷ before))
        by_hart h there false apart = absurd (off h (runs_apart s h e before step apart ∙ there))
        by_hart h there true is = left_hart (ap (λ k. running s k before) (eqb-true own h is) ∙ there) off

        begins : (c : Bool) → is_kind e.entry.kind kind.Run ≡ c → (d : Bool) → eqb e.entry.tid.0 t ≡ d
            → IsOff before → IsKnown (memory_bytes (e ∷ before))
        begins true runs_now true its none =
            begun_memory (kind_is e.entry.kind kind.Run runs_now) (eqb-true e.entry.tid.0 t its) none
        begins true runs_now false other none =
            known_left e.done.entered g (w.others (none own) (λ is. eqb-false e.entry.tid.0 t other)) (was.held none)
        begins false other d its none =
            known_left e.done.entered g
            (w.others (none own) (λ is. absurd (kind_is_not e.entry.kind e.entry.kind kind.Run refl other is)))
            (was.held none)

        by_place : IsOnOrOff s t before → IsKnown (memory_bytes (e ∷ before))
        by_place (is_on h there) = by_hart h there (eqb own h) refl
        by_place (is_off none) = begins (is_kind e.entry.kind kind.Run) refl (eqb e.entry.tid.0 t) refl none

    known_next : IsKnownAt (e ∷ before)
    known_next = record { seen = seen_next; held = held_next }

  -- WHOLE RUNS

  pub known : (before : History) → IsRunHistory s before → PointerKept s blocks t at before
      → has_had s t at before ≡ true → IsKnownAt before
  known [] run kept had = absurd (false≢true had)
  known (e ∷ before) run kept had =
      by_earlier (λ earlier. known before run.0 kept.0 earlier) (has_had s t at before) refl
    where
      at_first : PointerIs s t at 0 (e ∷ before) → IsKnownAt (e ∷ before)
      at_first zero_there = record {
        seen = λ h there. record { number = 0; word = zero_there.on_hart h there; known = inl refl };
        held = λ off. record { number = 0; word = zero_there.off_hart off; known = inl refl };
      }

      by_earlier : (has_had s t at before ≡ true → IsKnownAt before) → (c : Bool) → has_had s t at before ≡ c
          → IsKnownAt (e ∷ before)
      by_earlier was true earlier = known_next e before run (was earlier) (kept.1.later earlier)
      by_earlier was false none =
          by_now (either_is (has_area t at e.done.kernel.areas) (has_had s t at before) had)
        where
          by_now : (has_area t at e.done.kernel.areas ≡ true) ⊎ (has_had s t at before ≡ true)
              → IsKnownAt (e ∷ before)
          by_now (inr earlier) = absurd (false≢true (sym none ∙ earlier))
          by_now (inl now) = at_first (kept.1.first none now)

-- WHAT AN AREA NAMES

module _ (byte : ℕ → Option ℕ) (area : Area) (pc : ℕ) where
  abbrev IsOut : Named → Type 0
  IsOut n = is_inside_named n pc ≡ false

  either_out : (c : Bool) (x y : Named) → IsOut x → IsOut y → IsOut (cond c x y)
  either_out true x y p q = p
  either_out false x y p q = q

  -- a descriptor whose sequence the pc is out of
  by_descriptor : (p : ℕ) → is_inside (sequence_of (descriptor_at byte p)) pc ≡ false
      → IsOut (named_by byte area pc (descriptor_at byte p))
  by_descriptor p out =
      let d = descriptor_at byte p in
      let q = sequence_of d in
      either_out (not (eqb d.version 0)) (names.Bad bad.Version) _ refl
      (either_out (is_out_of_range q) (names.Bad bad.Range) _ refl
      (either_out (is_inside q q.abort) (names.Bad bad.AbortInside) _ refl
      (either_out (not (is_signed byte area q)) (names.Bad bad.Signature) _ refl
      (either_out (is_inside q pc && has_flags byte area d) (names.Bad bad.SeqFlags) (names.Good q) refl out))))

  by_pointer : (p : ℕ) → (p ≡ 0) ⊎ (is_inside (sequence_of (descriptor_at byte p)) pc ≡ false)
      → IsOut (cond (eqb p 0) names.Nothing
      (cond (leb USER_END p) (names.Bad bad.Pointer)
      (cond (not (can_read_descriptor byte p)) (names.Bad bad.Descriptor)
      (named_by byte area pc (descriptor_at byte p)))))
  by_pointer p (inl none) =
      ap (λ n. is_inside_named (cond (eqb n 0) names.Nothing
      (cond (leb USER_END p) (names.Bad bad.Pointer)
      (cond (not (can_read_descriptor byte p)) (names.Bad bad.Descriptor)
      (named_by byte area pc (descriptor_at byte p))))) pc) none
  by_pointer p (inr out) =
      either_out (eqb p 0) names.Nothing _ refl
      (either_out (leb USER_END p) (names.Bad bad.Pointer) _ refl
      (either_out (not (can_read_descriptor byte p)) (names.Bad bad.Descriptor)
      (named_by byte area pc (descriptor_at byte p)) refl (by_descriptor p out)))

  -- the word of the pointer is the pointer
  pointer_is : (n : ℕ) → word_at byte (area.at + RSEQ_CS) 8 ≡ Some n → pointer_of byte area ≡ n
  unfolding number_at
  pointer_is n is = ap (λ o. unwrap_or o 0) is

  named_out : (n : ℕ) → word_at byte (area.at + RSEQ_CS) 8 ≡ Some n
      → (n ≡ 0) ⊎ (is_inside (sequence_of (descriptor_at byte n)) pc ≡ false) → IsOut (named byte area pc)
  named_out n is out =
      either_out (not (can_read_area byte area)) (names.Bad bad.AreaBytes) _ refl
      (by_pointer (pointer_of byte area)
      (subst (λ p. (p ≡ 0) ⊎ (is_inside (sequence_of (descriptor_at byte p)) pc ≡ false))
      (sym (pointer_is n is)) out))

-- BEFORE A BLOCK'S SEQUENCE

module _ (s : Setting) (b : Placed) (blocks : List Placed) (t : ℕ)
    (beside : (other : Placed) → Contains blocks other → LiesBeside b other) where
  -- once it had the area
  had_it : (before : History) → area_of t (kernel s before).areas ≡ Some b.area
      → has_had s t b.area.at before ≡ true
  had_it [] registered = absurd cc
  had_it (e ∷ before) registered =
      ap (λ (o : Option Area). option_map_or (is_at b.area.at) o false || has_had s t b.area.at before) registered
      ∙ ap (λ c. c || has_had s t b.area.at before) (eqb_same b.area.at)

  module _ (h : ℕ) (before : History) (run : IsRunHistory s before) (kept : PointerKept s blocks t b.area.at before)
      (can : CanBegin s b h t before) (stand : AreDescribed s blocks h before)
      (runs : running s h before ≡ Some t) (here : is_before b (file s t before).pc ≡ true) where
    abbrev bytes : ℕ → Option ℕ
    bytes = view (here_in_history s before h)

    abbrev pc : ℕ
    pc = (file s t before).pc

    its : IsKnown s blocks t b.area.at (λ other has. (beside other has).low_table) (seen_at s h before)
    its =
        (known s blocks t b.area.at (λ other has. (beside other has).low_table) before run kept
        (had_it before can.registered)).seen h runs

    in_area : (a : ℕ) → pointer_at b.area.at a ≡ true → among b.area.at AREA_SIZE a ≡ true
    in_area a has =
        let place = among_low (b.area.at + RSEQ_CS) 8 a has in
        grind (arith, nat_tests)

    seen : word_at bytes (b.area.at + RSEQ_CS) 8 ≡ Some its.number
    seen =
        word_same (pointer_at b.area.at) bytes (seen_at s h before)
        (λ a has. view_is s h before a (can.usable.read a (in_area a has))) (b.area.at + RSEQ_CS) 8
        (each_among (b.area.at + RSEQ_CS) 8 (b.area.at + RSEQ_CS) 8 (omega arith) (omega arith))
        ∙ its.word

    by_number : (n : ℕ) → (n ≡ 0) ⊎ ((x : Placed) × Contains blocks x × (n ≡ x.table))
        → (n ≡ 0) ⊎ (is_inside (sequence_of (descriptor_at bytes n)) pc ≡ false)
    by_number n (inl none) = inl none
    by_number n (inr it) =
        inr (ap (λ p. is_inside (sequence_of (descriptor_at bytes p)) pc) it.2
        ∙ ap (λ (q : Seq). is_inside q pc) (stand.described it.0 it.1)
        ∙ (beside it.0 it.1).apart pc here)

    outside : is_inside_at s h before ≡ false
    outside =
        ap (λ (r : Option ℕ). option_map_or (is_inside_here (here_in_history s before h)) r false) runs
        ∙ ap (λ (o : Option Area). is_inside_named (option_map_or (λ (a : Area). named bytes a pc) o names.Nothing) pc)
        can.registered
        ∙ named_out bytes b.area pc its.number seen (by_number its.number its.known)

  pub always_outside : (before : History) → IsRunHistory s before → PointerKept s blocks t b.area.at before
      → CanAlwaysBegin s b t before → AlwaysDescribed s b blocks t before → AlwaysOutside s b t before
  always_outside [] run kept can stand = tt
  always_outside (e ∷ before) run kept can stand = (
    always_outside before run.0 kept.0 can.0 stand.0,
    λ h runs here. outside h before run.0 kept.0 (can.1 h runs here) (stand.1 h runs here) runs here,
  )
