-- A signal that is delivered: what is kept of the signals, the handler that is entered or isn't, and the parts after it.
use Rattle.process.proofs.Common.{◌≡◌, ℕ, ◌-◌, List, [], ◌∷◌, ◌++◌, append-nil, map, find, refl, sym, ap, ◌∙◌, subst, Bool, true, false, not, cond, eqb, eq-eqb, ◌||◌, Option, Some, None, slice_get, list_any, option_map, option_map_or, Area, Done, Here, IsWritten, Outcome, Parts, Saved, Write, area_here, byte_in, can_write_in, file_among, interruption_here, is_writable, lost_unless, SIGSEGV, area_of, interruption, pc_after, writes_of, can_write_frame, frame_writes, Signalling, action_of, is_handler, mask_of, areas_by_number, done_delivery, file_interrupted, handled_unless_killed, kills, kills_unhandled, IsDelivered, IsInterrupted, done_here, killer_of, signals_handled, signals_taken, IsEntered}
use Rattle.process.proofs.Events.{lost_nothing}
use Rattle.mach_types.specs.declared.signal_words.ThreadSignals.{ThreadSignals}
use Rattle.mach_types.specs.Kernel.Signals.{is_of}
use Rattle.mach_types.specs.declared.sequences.Outcome.TheVariants as comes_to
use Rattle.mach_types.specs.Kernel.SignalFrames.{entered}
use Rattle.mach_types.specs.Kernel.Signals.{fault_of, is_held, take_if, without_pending, without_signal}
use Rattle.mach_types.specs.declared.signal_words.Fault.{Fault}
use Rattle.process.proofs.Interruptions.{file_is, is_fatal, lost_twice, none_written, written_both}

-- SIGNALS

-- a signal that is taken leaves who is held, and the masks
held_over : (t s u : ℕ) (xs : List ThreadSignals) → list_any (is_of u) (map (take_if t s) xs) ≡ list_any (is_of u) xs
held_over t s u [] = refl
held_over t s u (x ∷ xs) = go (is_of t x) ∙ ap (λ b. is_of u x || b) (held_over t s u xs)
  where
    go : (b : Bool) → list_any (is_of u) (cond b (without_signal s x) x ∷ map (take_if t s) xs) ≡ (is_of u x || list_any (is_of u) (map (take_if t s) xs))
    go true = refl
    go false = refl

pub held_taken : (t s u : ℕ) (g : Signalling) → is_held u (without_pending t s g) ≡ is_held u g
held_taken t s u g = held_over t s u g.threads

mask_found : (c : Bool) (x y : ThreadSignals) (o p : Option ThreadSignals) → y.mask ≡ x.mask → option_map_or (λ (th : ThreadSignals). th.mask) o 0 ≡ option_map_or (λ (th : ThreadSignals). th.mask) p 0
    → option_map_or (λ (th : ThreadSignals). th.mask) (cond c (Some y) o) 0 ≡ option_map_or (λ (th : ThreadSignals). th.mask) (cond c (Some x) p) 0
mask_found true x y o p same rest = same
mask_found false x y o p same rest = rest

mask_first : (b : Bool) (s u : ℕ) (x : ThreadSignals) (xs ys : List ThreadSignals)
    → option_map_or (λ (th : ThreadSignals). th.mask) (find (is_of u) ys) 0 ≡ option_map_or (λ (th : ThreadSignals). th.mask) (find (is_of u) xs) 0
    → option_map_or (λ (th : ThreadSignals). th.mask) (find (is_of u) (cond b (without_signal s x) x ∷ ys)) 0 ≡ option_map_or (λ (th : ThreadSignals). th.mask) (find (is_of u) (x ∷ xs)) 0
mask_first true s u x xs ys rest = mask_found (is_of u x) x (without_signal s x) (find (is_of u) ys) (find (is_of u) xs) refl rest
mask_first false s u x xs ys rest = mask_found (is_of u x) x x (find (is_of u) ys) (find (is_of u) xs) refl rest

mask_over : (t s u : ℕ) (xs : List ThreadSignals) → option_map_or (λ th. th.mask) (find (is_of u) (map (take_if t s) xs)) 0 ≡ option_map_or (λ th. th.mask) (find (is_of u) xs) 0
mask_over t s u [] = refl
mask_over t s u (x ∷ xs) = mask_first (is_of t x) s u x xs (map (take_if t s) xs) (mask_over t s u xs)

pub mask_taken : (t s u : ℕ) (g : Signalling) → mask_of u (without_pending t s g) ≡ mask_of u g
mask_taken t s u g = mask_over t s u g.threads

-- THE HANDLER

-- the signal that kills where the action is a handler
pub killer_handler : (can_write : ℕ → Bool) (s : ℕ) (x : Saved) (g : Signalling) (made : Bool) → is_handler (action_of s g) ≡ true → can_write_frame can_write (action_of s g) x ≡ made
    → killer_of can_write s x g ≡ cond (not made) (Some SIGSEGV) None
killer_handler can_write s x g made handler may = rw (handler, may) refl

pub killer_default : (can_write : ℕ → Bool) (s : ℕ) (x : Saved) (g : Signalling) → is_handler (action_of s g) ≡ false → killer_of can_write s x g ≡ Some s
killer_default can_write s x g none = rw none refl

-- where the process is to be killed nothing changes
pub not_entered : (t h s killer : ℕ) (fault : Option Fault) (x : Saved) (m : Parts) → IsEntered t h s fault (Some killer) x x m m
not_entered t h s killer fault x m = record {
  file = refl;
  pages = none_written m.pages;
  harts = λ k. lost_nothing (eqb k h) (slice_get m.harts.items k);
  signals = refl;
}

-- THE WHOLE DELIVERY

-- this was done
record IsDoneSo (here : Here) (t : ℕ) (x : Saved) (m m' : Parts) (d : Done) : Type 0 where
  file : x ≡ file_among d.files t (here.file t)
  pages : IsWritten d.entered m.pages m'.pages
  harts : (k : ℕ) → slice_get m'.harts.items k ≡ option_map (lost_unless (eqb k here.hart) d.entered) (slice_get m.harts.items k)
  signals : m'.kernel.signals ≡ d.kernel.signals

-- an interruption that finds nothing bad leaves it to the handler
pub unhandled : (here : Here) (t s : ℕ) (o : Outcome) → is_fatal o ≡ false → kills here t s o ≡ kills_unhandled here t s o
unhandled here t s (comes_to.Killed why) goes = cc
unhandled here t s o goes = refl

-- what is known once the thread was interrupted
pub record IsHalfway (here : Here) (t h s : ℕ) (o : Outcome) (x x1 : Saved) (a : Option Area) (fault : Option Fault) (m m1 : Parts) : Type 0 where
  pub found : IsInterrupted here t h m x
  pub area : a ≡ area_of t (areas_by_number m.kernel.areas.items)
  pub comes : interruption (byte_in m.pages) (can_write_in m.pages) a x.pc ≡ o
  pub file : x1 ≡ record x { pc = pc_after x.pc o }
  pub pages : IsWritten (writes_of a o) m.pages m1.pages
  pub harts : (k : ℕ) → slice_get m1.harts.items k ≡ option_map (lost_unless (eqb k h) (writes_of a o)) (slice_get m.harts.items k)
  pub signals : m1.kernel.signals ≡ without_pending t s m.kernel.signals
  pub told : fault ≡ fault_of t s m.kernel.signals

module _ (here : Here) (t h s : ℕ) (o : Outcome) (x x1 x2 : Saved) (a : Option Area) (fault : Option Fault) (m m1 m2 : Parts) (half : IsHalfway here t h s o x x1 a fault m m1) where
  its_area : a ≡ area_here here t
  its_area = half.area ∙ half.found.area

  its_outcome : interruption_here here t ≡ o
  its_outcome =
      rw (half.found.bytes, half.found.writable, its_area, half.found.file) at half.comes

  its_file : x1 ≡ file_interrupted here t o
  its_file = half.file ∙ ap (λ (y : Saved). let z : Saved = record y { pc = pc_after y.pc o } in z) half.found.file

  its_signals : m1.kernel.signals ≡ signals_taken here t s
  its_signals = half.signals ∙ ap (without_pending t s) half.found.signals

  its_action : action_of s m1.kernel.signals ≡ action_of s here.kernel.signals
  its_action = ap (action_of s) its_signals

  its_fault : fault ≡ fault_of t s here.kernel.signals
  its_fault = half.told ∙ ap (fault_of t s) half.found.signals

  its_mask : mask_of t m1.kernel.signals ≡ mask_of t here.kernel.signals
  its_mask = ap (mask_of t) its_signals ∙ mask_taken t s t here.kernel.signals

  so : (killer : Option ℕ) → IsEntered t h s fault killer x1 x2 m1 m2 → IsDoneSo here t x2 m m2 (handled_unless_killed here t s o killer)
  so None is =
      let ws = writes_of a o in
      let vs = frame_writes s (action_of s m1.kernel.signals) fault x1 (mask_of t m1.kernel.signals) in
      let all : ws ++ vs ≡ (handled_unless_killed here t s o None).entered = rw (its_area, its_mask, its_file, its_action, its_fault) refl in
      record {
        file = is.file ∙ rw (its_action, its_file, eq-eqb t t refl) refl;
        pages = subst (λ (us : List Write). IsWritten us m.pages m2.pages) all (written_both ws vs m.pages m1.pages m2.pages half.pages is.pages);
        harts = λ k. is.harts k ∙ ap (option_map (lost_unless (eqb k h) vs)) (half.harts k) ∙ lost_twice (eqb k h) ws vs (slice_get m.harts.items k)
            ∙ ap (λ us. option_map (lost_unless (eqb k h) us) (slice_get m.harts.items k)) all
            ∙ ap (λ j. option_map (lost_unless (eqb k j) (handled_unless_killed here t s o None).entered) (slice_get m.harts.items k)) half.found.hart;
        signals = is.signals ∙ ap (signals_handled t s) its_signals;
      }
  so (Some killer) is =
      let ws = writes_of a o in
      let all : ws ++ [] ≡ writes_of (area_here here t) o = append-nil ws ∙ ap (λ b. writes_of b o) its_area in
      record {
        file = is.file ∙ half.file ∙ file_is here t o x half.found.file;
        pages = subst (λ (us : List Write). IsWritten us m.pages m2.pages) all (written_both ws [] m.pages m1.pages m2.pages half.pages is.pages);
        harts = λ k. is.harts k ∙ ap (option_map (lost_unless (eqb k h) [])) (half.harts k) ∙ lost_twice (eqb k h) ws [] (slice_get m.harts.items k)
            ∙ ap (λ us. option_map (lost_unless (eqb k h) us) (slice_get m.harts.items k)) all
            ∙ ap (λ j. option_map (lost_unless (eqb k j) (writes_of (area_here here t) o)) (slice_get m.harts.items k)) half.found.hart;
        signals = is.signals ∙ its_signals;
      }

  -- the whole, once it is known by which signal the process is to be killed
  whole : (killer : Option ℕ) → killer ≡ kills here t s o → IsEntered t h s fault killer x1 x2 m1 m2 → IsDelivered here t s killer x2 m m2
  whole killer dies is =
      let same : done_here here t s ≡ handled_unless_killed here t s o killer = ap (done_delivery here t s) its_outcome ∙ ap (handled_unless_killed here t s o) (sym dies) in
      let done : IsDoneSo here t x2 m m2 (done_here here t s) = subst (IsDoneSo here t x2 m m2) (sym same) (so killer is) in
      record {
        dies = dies ∙ ap (kills here t s) (sym its_outcome);
        file = done.file;
        pages = done.pages;
        harts = done.harts;
        signals = done.signals;
      }

  -- where the interruption found nothing bad, and where it did
  pub delivered_by : (killer : Option ℕ) → is_fatal o ≡ false → killer ≡ killer_of (can_write_in m1.pages) s x1 m1.kernel.signals → can_write_in m1.pages ≡ can_write_in m.pages
      → IsEntered t h s fault killer x1 x2 m1 m2 → IsDelivered here t s killer x2 m m2
  delivered_by killer goes dies writable is =
      let there : can_write_in m1.pages ≡ is_writable here = writable ∙ half.found.writable in
      whole killer (dies ∙ rw (there, its_file, its_action) refl ∙ sym (unhandled here t s o goes)) is
