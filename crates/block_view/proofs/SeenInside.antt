-- What is seen of a thread inside a sequence, and of how its sequence goes on: it is what is read by looking back.
use Rattle.std.proofs.Common.{◌≡◌, ℕ, List, [], ◌∷◌, ◌&&◌, refl, sym, ap, ◌∙◌, Bool, true, false, cond, not, Option, Some, None, is_none, is_some, arith, length, map}
use Rattle.std.specs.Option.{option_map_or}
use Rattle.std.proofs.lemmas.Bool.{eqb-false, false≢true}
use Rattle.mach_types.specs.Events.{choice_with, is_instruction, is_preempt}
use Rattle.mach_types.specs.Kernel.Areas.{is_inside, is_inside_named}
use Rattle.mach_types.specs.declared.events.Entry.{Entry}
use Rattle.mach_types.specs.declared.events.Kind.{Kind}
use Rattle.mach_types.specs.declared.events.Kind.TheVariants as kind
use Rattle.mach_types.specs.declared.limits.End.{End}
use Rattle.mach_types.specs.declared.sequences.Area.{Area}
use Rattle.mach_types.specs.declared.sequences.Named.{Named}
use Rattle.mach_types.specs.declared.sequences.Named.TheVariants as names
use Rattle.mach_types.specs.declared.sequences.Seq.{Seq}
use Rattle.mach_types.specs.declared.threads.Saved.{Saved}
use Rattle.mach_types.specs.declared.user_memory.Store.{Store}
use Rattle.block_model.specs.Acts.{Sequence as Known, has_killed, is_inside_at, is_taken_in, moved_out, named_at, sequence_on, with_event}
use Rattle.block_model.specs.Events.{done_of}
use Rattle.block_model.specs.Events.Drain.{done_drain_of}
use Rattle.block_model.specs.Events.Take.{done_take_by}
use Rattle.block_model.specs.Here.{Done, Here, runs, waiting_here}
use Rattle.block_model.specs.History.{Event, History, file, file_among, here_in_history, kernel, running}
use Rattle.block_model.specs.Run.{IsRunHistory}
use Rattle.block_model.specs.Sequences.{is_inside_here, named_here}
use Rattle.block_model.specs.Setting.{Setting}
use Rattle.block_view.specs.Ledgers.{begins, gone_on, is_more, leaves_inside, moves_out}
use Rattle.block_view.specs.Passing.{inside_at, is_by_signal, is_killed, passed_of, pc_at, sequence_inside}
use Rattle.block_view.specs.Tied.{going_at}
use Rattle.block_view.proofs.Logs.{whole_place}
use Rattle.block_view.proofs.Made.{made_at, whole_at}
use Rattle.block_view.proofs.Sequences.{Begins, Stays, Takes, is_from}

-- INSIDE

-- no thread is inside a sequence where no area is listed
none_named : (here : Here) (o : Option ℕ) → here.kernel.areas ≡ [] → option_map_or (named_here here) o names.Nothing ≡ names.Nothing
none_named here None none = refl
none_named here (Some t) none = rw none refl

none_of : {A B : Type 0} (f : A → B) (xs : List A) (ys : List B) → map f xs ≡ ys → length xs ≡ 0 → ys ≡ []
none_of f [] ys is none = sym is
none_of f (x ∷ xs) ys is none = absurd (omega (arith, none))

pub none_inside : {A : Type 0} (s : Setting) (h : ℕ) (before : History) (f : A → ℕ × Area) (listed : List A)
    → map f listed ≡ (kernel s before).areas → length listed ≡ 0 → None ≡ inside_at s h before
none_inside s h before f listed are none =
    let named = none_named (here_in_history s before h) (running s h before) (none_of f listed (kernel s before).areas are none) in
    sym (ap (λ n. sequence_inside n (pc_at s h before)) named)

some_if : (b : Bool) (sequence : Seq) → is_some (cond b (Some sequence) None) ≡ b
some_if true sequence = refl
some_if false sequence = refl

inside_named : (n : Named) (pc : ℕ) → is_some (sequence_inside n pc) ≡ is_inside_named n pc
inside_named names.Nothing pc = refl
inside_named (names.Good sequence) pc = some_if (is_inside sequence pc) sequence
inside_named (names.Bad why) pc = refl

-- a thread is seen inside a sequence exactly where it is inside
pub seen_inside : (s : Setting) (h : ℕ) (before : History) → is_some (inside_at s h before) ≡ is_inside_at s h before
seen_inside s h before = by_running (running s h before)
  where
    by_running : (o : Option ℕ)
        → is_some (sequence_inside (option_map_or (named_here (here_in_history s before h)) o names.Nothing) (option_map_or (λ t. (file s t before).pc) o 0))
        ≡ option_map_or (is_inside_here (here_in_history s before h)) o false
    by_running None = refl
    by_running (Some t) = inside_named (named_here (here_in_history s before h) t) (file s t before).pc

-- and the sequence is the one that its area names
named_good : (n : Named) (pc : ℕ) (sequence : Seq) → sequence_inside n pc ≡ Some sequence → n ≡ names.Good sequence
named_good names.Nothing pc sequence is = absurd cc
named_good (names.Good other) pc sequence is = by_test (is_inside other pc) is
  where
    by_test : (b : Bool) → cond b (Some other) None ≡ Some sequence → names.Good other ≡ names.Good sequence
    by_test true is = cc
    by_test false is = absurd cc
named_good (names.Bad why) pc sequence is = absurd cc

pub seen_named : (s : Setting) (h : ℕ) (before : History) (sequence : Seq) → inside_at s h before ≡ Some sequence → named_at s h before ≡ names.Good sequence
seen_named s h before sequence is = named_good (named_at s h before) (pc_at s h before) sequence is

-- WHAT AN EVENT IS TO A SEQUENCE

module _ (s : Setting) (e : Event) (before : History) where
  pub more_as : is_more (passed_of s e before) ≡ (is_inside_at s e.entry.hart.0 before && is_taken_in e.entry.kind e.done.interrupted)
  unfolding passed_of
  more_as = ap (λ b. b && is_taken_in e.entry.kind e.done.interrupted) (seen_inside s e.entry.hart.0 before)

  pub begins_as : begins (passed_of s e before) ≡ (is_inside_at s e.entry.hart.0 before && is_instruction e.entry.kind)
  unfolding passed_of
  begins_as = ap (λ b. b && is_instruction e.entry.kind) (seen_inside s e.entry.hart.0 before)

  pub leaves_as : leaves_inside (passed_of s e before) ≡ (is_inside_at s e.entry.hart.0 before && is_preempt e.entry.kind)
  unfolding passed_of
  leaves_as = ap (λ b. b && is_preempt e.entry.kind) (seen_inside s e.entry.hart.0 before)

-- FILES

-- a thread whose sequence its hart's newest event is of keeps its file while other harts make events
pub reached_file : (s : Setting) (before : History) (h : ℕ) (q : Known) → IsRunHistory s before → sequence_on s h before ≡ Some q
    → file s q.thread before ≡ file s q.thread q.reached
reached_file s [] h q run on = absurd cc
reached_file s (e ∷ before) h q run on = elim (is_from s e before h q on) [
  | Stays other was ↦
      (made_at s e before run).fit.apart h q.thread (file s q.thread before) (λ same. eqb-false e.entry.hart.0 h other (sym same))
      ((whole_place s before run.0).runs h q was).now
      ∙ reached_file s before h q run.0 was
  | Begins own none same ↦ ap (λ events. file s q.thread events) (ap (λ (x : Known). x.reached) same)
  | Takes r own inside taken was same ↦ ap (λ events. file s q.thread events) (ap (λ (x : Known). x.reached) same)
]

-- an event that a sequence takes in sets no file, unless it is an instruction
drain_sets : (here : Here) (ws : List Store) → (done_drain_of here ws).files ≡ []
drain_sets here [] = refl
drain_sets here (w ∷ ws) = refl

take_sets : (here : Here) (restart : Bool) (running : Option ℕ) → is_none (done_take_by here restart running).interrupted ≡ true
    → (done_take_by here restart running).files ≡ []
take_sets here false running none = refl
take_sets here true None none = refl
take_sets here true (Some t) none = absurd (false≢true none)

taken_sets : (k : Kind) (entry : Entry) (here : Here) → is_instruction k ≡ false → is_taken_in k (done_of (choice_with k entry) here).interrupted ≡ true
    → (done_of (choice_with k entry) here).files ≡ []
taken_sets kind.Exec entry here other taken = absurd (false≢true (sym other))
taken_sets kind.Drain entry here other taken = drain_sets here (waiting_here here)
taken_sets kind.Take entry here other taken = take_sets here here.restart (runs here) taken
taken_sets k entry here other taken = absurd (false≢true taken)

-- HOW A SEQUENCE GOES ON

module _ (n : Named) (before_pc pc : ℕ) where
  moved_if : (b : Bool) (sequence : Seq) → is_some (cond b (Some sequence) None) ≡ true
      → option_map_or (λ x. not (is_inside x pc)) (cond b (Some sequence) None) true ≡ not (is_inside sequence pc)
  moved_if true sequence was = refl
  moved_if false sequence was = absurd (false≢true was)

moves_named : (n : Named) (before_pc pc : ℕ) → is_some (sequence_inside n before_pc) ≡ true
    → option_map_or (λ sequence. not (is_inside sequence pc)) (sequence_inside n before_pc) true ≡ not (is_inside_named n pc)
moves_named names.Nothing before_pc pc was = absurd (false≢true was)
moves_named (names.Good sequence) before_pc pc was = moved_if names.Nothing before_pc pc (is_inside sequence before_pc) sequence was
moves_named (names.Bad why) before_pc pc was = absurd (false≢true was)

module _ (s : Setting) (e : Event) (before : History) (run : IsRunHistory s (e ∷ before)) where
  abbrev h : ℕ
  h = e.entry.hart.0

  -- the event is of a sequence; then it ends the process by a signal if at all
  pub dies_by_signal : (q : Known) → sequence_on s h (e ∷ before) ≡ Some q → is_killed e.done.ended ≡ has_killed e
  dies_by_signal q on = by_end e.done.ended refl
    where
      by_end : (o : Option End) → e.done.ended ≡ o → is_killed o ≡ is_some o
      by_end None is = refl
      by_end (Some over) is = ap is_by_signal ((whole_at s e before run).dies q over on is)

  -- an instruction moves the pc of its thread out of what was named before it where it is seen to
  pub moved_as : (q : Known) → sequence_on s h (e ∷ before) ≡ Some q → is_inside_at s h before ≡ true
      → moves_out (passed_of s e before) ≡ not (is_inside_named (named_at s h before) (file s q.thread (e ∷ before)).pc)
  unfolding passed_of
  moved_as q on inside =
      let runs = ((whole_place s (e ∷ before) run).runs h q on).now in
      moves_named (named_at s h before) (pc_at s h before) (pc_at s h (e ∷ before)) (seen_inside s h before ∙ inside)
      ∙ ap (λ o. not (is_inside_named (named_at s h before) (option_map_or (λ t. (file s t (e ∷ before)).pc) o 0))) runs

  -- so what is kept of a sequence that takes the event in is what is known of it
  module _ (i : ℕ) (q : Known) (own : q.hart ≡ h) (was : sequence_on s h before ≡ Some q) (inside : is_inside_at s h before ≡ true)
      (taken : is_taken_in e.entry.kind e.done.interrupted ≡ true) (on : sequence_on s h (e ∷ before) ≡ Some (with_event e before q)) where
    moved_on : (b : Bool) → is_instruction e.entry.kind ≡ b
        → cond b (moves_out (passed_of s e before)) (moved_out s q) ≡ not (is_inside_named (named_at s q.hart (cond b before q.last_instruction)) (file s q.thread (e ∷ before)).pc)
    moved_on true is =
        moved_as (with_event e before q) on inside
        ∙ ap (λ k. not (is_inside_named (named_at s k before) (file s q.thread (e ∷ before)).pc)) (sym own)
    moved_on false is =
        let here = here_in_history s before h in
        let did = (made_at s e before run).did in
        let sets : e.done.files ≡ [] =
        ap (λ (d : Done). d.files) did
        ∙ taken_sets e.entry.kind e.entry here is (ap (λ (d : Done). is_taken_in e.entry.kind d.interrupted) (sym did) ∙ taken) in
        let stays : file s q.thread (e ∷ before) ≡ file s q.thread q.reached =
        ap (λ files. file_among files q.thread (file s q.thread before)) sets ∙ reached_file s before h q run.0 was in
        ap (λ (f : Saved). not (is_inside_named (named_at s q.hart q.last_instruction) f.pc)) (sym stays)

    pub goes_on_as : gone_on (going_at s i q) (passed_of s e before) ≡ going_at s i (with_event e before q)
    unfolding passed_of
    goes_on_as =
        λ j. record {
          place = i;
          course = record {
            moved_out = moved_on (is_instruction e.entry.kind) refl j;
            died = dies_by_signal (with_event e before q) on j;
          };
        }
