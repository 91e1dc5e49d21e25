-- A ready thread stays ready, with its file, until it begins to run; and a thread keeps its area but where it runs itself.
use Rattle.block_model.proofs.Common.{◌≡◌, ◌≢◌, ℕ, List, [], ◌∷◌, refl, sym, ap, ◌∙◌, subst, true, cond, Some, Done, Event, Here, History, IsGoodHere, IsRunHistory, Kind, Saved, Setting, area_of, choice_of, done, file, file_among, files_interrupted, here_in_history, interruption_here, is_ready, kernel, ne_eqb, on, running, runs, state_of-with_state_other}
use Rattle.mach_types.specs.declared.events.Kind.TheVariants as kind
use Rattle.block_model.proofs.Runs.{allowed_at, settled}
use Rattle.block_model.proofs.PlainEvents.{plain_of}
use Rattle.block_model.proofs.OtherThreads.{beside_left, caller_apart, aside_called}
use Rattle.block_model.proofs.EventEffects.{Calls, EventDeed, Executes, Handles, Preempts, Restarts, Returns, RunKills, Runs, SignalKills, deed_of}
use Rattle.block_model.proofs.PlaceInvariant.{good_here}
use Rattle.block_model.proofs.KernelTables.{its_ready}
use Rattle.block_model.proofs.SignalTables.{interrupted_file}

-- what an event leaves as it is of a thread, where that is ready
pub record IsReadyKept (here : Here) (u : ℕ) (d : Done) : Type 0 where
  pub file : (f : Saved) → file_among d.files u f ≡ f
  pub ready : is_ready u d.kernel.threads ≡ true

-- and of its area, where it doesn't run on the hart of the event
abbrev pub IsAreaKept : Here → ℕ → Done → Type 0
IsAreaKept here u d = area_of u d.kernel.areas ≡ area_of u here.kernel.areas

module _ (here : Here) (good : IsGoodHere here) (u tid : ℕ) where
  still_ready : (d : Done) → is_ready u here.kernel.threads ≡ true → d.files ≡ [] → d.kernel.threads ≡ here.kernel.threads → IsReadyKept here u d
  still_ready d ready none same = record {
    file = λ f. ap (λ (ps : List (ℕ × Saved)). file_among ps u f) none;
    ready = ap (is_ready u) same ∙ ready;
  }

  -- the file of the thread that runs is set, or none is
  own_set : (t : ℕ) (x : Saved) (d : Done) → runs here ≡ Some t → is_ready u here.kernel.threads ≡ true → d.files ≡ (t, x) ∷ []
      → d.kernel.threads ≡ here.kernel.threads → IsReadyKept here u d
  own_set t x d at ready own same = record {
    file = λ f. ap (λ (ps : List (ℕ × Saved)). file_among ps u f) own ∙ ap (λ b. cond b x f) (ne_eqb t u (caller_apart here t good at u ready));
    ready = ap (is_ready u) same ∙ ready;
  }

  interrupted : (t : ℕ) (d : Done) → t ≢ u → is_ready u here.kernel.threads ≡ true → d.files ≡ files_interrupted here t (interruption_here here t)
      → d.kernel.threads ≡ here.kernel.threads → IsReadyKept here u d
  interrupted t d other ready own same = record {
    file = λ f. ap (λ (ps : List (ℕ × Saved)). file_among ps u f) own ∙ interrupted_file here t u (interruption_here here t) f other;
    ready = ap (is_ready u) same ∙ ready;
  }

  pub ready_deed : {k : Kind} {d : Done} → EventDeed here tid k d → (k ≡ kind.Run → tid ≢ u) → is_ready u here.kernel.threads ≡ true → IsReadyKept here u d
  ready_deed (Calls t e next calls outside) other ready =
      let aside = aside_called here t good next.at in
      record { file = λ f. aside.files u f ready; ready = aside.beside.ready u (caller_apart here t good next.at u ready) ready }
  ready_deed (Executes t e next) other ready = own_set t _ _ next.at ready refl refl
  ready_deed (Restarts t at) other ready = interrupted t _ (caller_apart here t good at u ready) ready refl refl
  ready_deed (Returns t at) other ready = own_set t _ _ at ready refl refl
  ready_deed (Preempts k t leaves at) other ready =
      record { file = λ f. refl; ready = (beside_left t t here.kernel).ready u (caller_apart here t good at u ready) ready }
  ready_deed Runs other ready = record {
    file = λ f. interrupted_file here tid u (interruption_here here tid) f (other refl);
    ready = ap its_ready (state_of-with_state_other tid u (λ e. other refl (sym e)) (on here.hart) here.kernel.threads) ∙ ready;
  }
  ready_deed RunKills other ready = interrupted tid _ (other refl) ready refl refl
  ready_deed (Handles t signal at) other ready = own_set t _ _ at ready refl refl
  ready_deed (SignalKills t signal killer at) other ready = interrupted t _ (caller_apart here t good at u ready) ready refl refl
  ready_deed deed other ready = still_ready _ ready refl refl

  -- areas change by calls of their threads alone
  area_deed : {k : Kind} {d : Done} → EventDeed here tid k d → runs here ≢ Some u → IsAreaKept here u d
  area_deed (Calls t e next calls outside) apart = (aside_called here t good next.at).beside.areas u (λ same. apart (next.at ∙ ap Some same))
  area_deed deed apart = refl

-- EVENTS OF A RUN

module _ (s : Setting) (e : Event) (before : History) (t : ℕ) (run : IsRunHistory s (e ∷ before)) where
  abbrev place : Here
  place = here_in_history s before e.entry.hart.0

  pub good_at : IsGoodHere place
  good_at =
      let a = allowed_at s before e.entry.hart.0 (choice_of e.entry) e.entry run.1 in
      good_here s (plain_of s before) e.entry.hart.0 a.lt (settled s before run.0).good

  kept_at : is_ready t (kernel s before).threads ≡ true → (e.entry.kind ≡ kind.Run → e.entry.tid.0 ≢ t) → IsReadyKept place t (done s before e.entry)
  unfolding done
  kept_at ready other = ready_deed place good_at t e.entry.tid.0 (deed_of place e.entry.kind e.entry) other ready

  ready_kept : is_ready t (kernel s before).threads ≡ true → (e.entry.kind ≡ kind.Run → e.entry.tid.0 ≢ t) → IsReadyKept place t e.done
  ready_kept ready other = subst (λ (x : Event). IsReadyKept place t x.done) (sym run.2) (kept_at ready other)

  area_at : running s e.entry.hart.0 before ≢ Some t → IsAreaKept place t (done s before e.entry)
  unfolding done
  area_at apart = area_deed place good_at t e.entry.tid.0 (deed_of place e.entry.kind e.entry) apart

-- an event that isn't the thread's own beginning to run
pub ready_stays : (s : Setting) (e : Event) (before : History) (t : ℕ) → IsRunHistory s (e ∷ before) → is_ready t (kernel s before).threads ≡ true
    → (e.entry.kind ≡ kind.Run → e.entry.tid.0 ≢ t) → is_ready t (kernel s (e ∷ before)).threads ≡ true
ready_stays s e before t run ready other = (ready_kept s e before t run ready other).ready

pub ready_file_stays : (s : Setting) (e : Event) (before : History) (t : ℕ) → IsRunHistory s (e ∷ before) → is_ready t (kernel s before).threads ≡ true
    → (e.entry.kind ≡ kind.Run → e.entry.tid.0 ≢ t) → file s t (e ∷ before) ≡ file s t before
ready_file_stays s e before t run ready other = (ready_kept s e before t run ready other).file (file s t before)

-- an event of a hart on which the thread doesn't run
pub area_stays : (s : Setting) (e : Event) (before : History) (t : ℕ) → IsRunHistory s (e ∷ before) → running s e.entry.hart.0 before ≢ Some t
    → area_of t (kernel s (e ∷ before)).areas ≡ area_of t (kernel s before).areas
area_stays s e before t run apart =
    subst (λ (x : Event). IsAreaKept (here_in_history s before e.entry.hart.0) t x.done) (sym run.2) (area_at s e before t run apart)
