-- A call keeps what agrees in the tables. There is a place for any tables, page map and registers: so what each place says of a call
-- holds of it.
use Rattle.sys_calls.proofs.Common.{◌≡◌, ℕ, zero, suc, ◌+◌, ◌/◌, ◌%◌, ◌<◌, ◌≤◌, ◌&&◌, true, false, leb, ltb, List, [], ◌∷◌, Option, Some, None, refl, sym, ap, subst, ◌∙◌, inl, inr, arith, cases_lt, eq-eqb, le-leb, le-ltb, lt-leb, lt-ltb, option_map, option_map_or, PageRun, permission_of, CallEnd, HoldsTables, IsTables, Kernel, Saved, running_on, Map, break_in, break_start_in, free_in, held_in, permission_in, called, running_harts, Here, id_of, HasPages, IsMade, HoldSignals, cond-false, cond-true, and_right, Page, byte_at, page_in, page_in-past, first_kernel, IsAgreed, agreed_called, IsAt, HoldAreas, saved_of}
use Rattle.mach_types.specs.declared.events.Hart.{Hart}
use Rattle.mach_types.specs.declared.events.Tid.{Tid}
use Rattle.block_model.specs.Here.{runs}
use Rattle.block_model.specs.Setting.{Setting}
use Rattle.sys_calls.proofs.Laws.{held_is, holds_itself, record_with}

-- WHAT A CALL KEEPS

-- tables that agreed before a call agree after it
pub agreed_after : (harts : ℕ) (h : Here) (t : ℕ) (k k' : Kernel) → HoldsTables k h.kernel → HoldsTables k' (called h t).kernel
    → runs h ≡ Some t → IsTables harts k.threads.threads k.ready → HoldAreas k → HoldSignals k
    → IsAgreed harts (record_with k' (called h t).kernel)
agreed_after harts h t k k' told held at tables areas signals =
    let before : IsAgreed harts (record_with k h.kernel) = record { tables = tables; areas = areas; signals = signals } in
    subst (IsAgreed harts) (sym (held_is k' (called h t).kernel held))
    (agreed_called harts h t at (subst (IsAgreed harts) (held_is k h.kernel told) before))

-- A PLACE

-- the pages below a number, each as a run of its own
runs_below : Map → ℕ → List PageRun
runs_below m zero = []
runs_below m (suc n) = record { first = n; count = 1; permission = permission_in m n } ∷ runs_below m n

runs_hold : (m : Map) (n k : ℕ) → k < n → permission_of (runs_below m n) k ≡ permission_in m k
unfolding runs_below
runs_hold m zero k lt = absurd (omega arith)
runs_hold m (suc n) k lt = elim (cases_lt k n) [
  | inl less ↦
      let outside : (leb n k && ltb k (n + 1)) ≡ false = ap (λ b. b && ltb k (n + 1)) (lt-leb n k less) in
      cond-false (leb n k && ltb k (n + 1)) (permission_in m n) (permission_of (runs_below m n) k) outside ∙ runs_hold m n k less
  | inr least ↦
      let same : n ≡ k = omega arith in
      let inside : (leb n k && ltb k (n + 1)) ≡ true = ap (λ b. b && ltb k (n + 1)) (le-leb n k least) ∙ lt-ltb k (n + 1) (omega arith) in
      cond-true (leb n k && ltb k (n + 1)) (permission_in m n) (permission_of (runs_below m n) k) inside ∙ ap (permission_in m) same
]

runs_end : (m : Map) (n k : ℕ) → n ≤ k → permission_of (runs_below m n) k ≡ None
unfolding runs_below
runs_end m zero k past = refl
runs_end m (suc n) k past =
    let outside : (leb n k && ltb k (n + 1)) ≡ false = ap (λ b. leb n k && b) (le-ltb k (n + 1) (omega arith)) ∙ and_right (leb n k) false refl in
    cond-false (leb n k && ltb k (n + 1)) (permission_in m n) (permission_of (runs_below m n) k) outside ∙ runs_end m n k (omega arith)

-- so many pages there are
pub all_runs : Map → List PageRun
all_runs m = runs_below m 67108864

runs_are : (m : Map) (k : ℕ) → permission_of (all_runs m) k ≡ permission_in m k
unfolding all_runs
runs_are m k = elim (cases_lt k 67108864) [
  | inl less ↦ runs_hold m 67108864 k less
  | inr past ↦ runs_end m 67108864 k past ∙ sym (ap (option_map (λ (p : Page). p.permission)) (page_in-past m k past))
]

-- the bytes of the map
abbrev byte_of : Map → ℕ → ℕ
byte_of m a = option_map_or (λ b. b) (held_in m a) 0

-- the file of a thread is what is saved of it; where nothing is, it is this one
abbrev file_or : Saved → Option Saved → Saved
file_or other o = option_map_or (λ x. x) o other

held_one : (offset : ℕ) (o : Option Page) → option_map (λ (p : Page). byte_at offset p.bytes) o
    ≡ option_map (λ _. option_map_or (λ b. b) (option_map (λ (p : Page). byte_at offset p.bytes) o) 0) (option_map (λ (p : Page). p.permission) o)
held_one offset None = refl
held_one offset (Some p) = refl

-- a place with these tables, this page map and these registers
module _ (k : Kernel) (m : Map) (here : Hart) (busy harts : ℕ) (tid : Tid) (saved : Saved) (cid : ℕ) where
  abbrev setting : Setting
  setting = record {
    program = record { pages = []; entry = 0; phdr = 0; phnum = 0; break_at = break_start_in m };
    limits = record { harts = harts; frames = 0; steps = 0 };
  }

  abbrev place : Here
  place = record {
    setting = setting;
    hart = here.0;
    file = λ u. file_or saved (saved_of u k.threads.saved);
    byte = byte_of m;
    waiting = λ _. [];
    reserved = None;
    requests = 0;
    restart = false;
    awaits = None;
    kernel = record_with k (record (first_kernel setting) {
      ids = (tid.0, cid) ∷ [];
      pages = record { runs = all_runs m; free = free_in m; break_at = break_in m };
    });
    beside = None;
  }

  its_pages : HasPages place m
  its_pages = record {
    permissions = λ n. sym (runs_are m n);
    held = λ a. held_one (a % 4096) (page_in m (a / 4096)) ∙ ap (option_map (λ _. byte_of m a)) (sym (runs_are m (a / 4096)));
    free = refl;
    break_at = refl;
    break_start = refl;
  }

  its_id : id_of tid.0 ((tid.0, cid) ∷ []) ≡ cid
  its_id = rw (eq-eqb tid.0 tid.0 refl) refl

  is_place : running_harts k.threads.threads harts ≡ busy → saved_of tid.0 k.threads.saved ≡ None → IsAt place k m here busy harts tid saved cid
  is_place running quiet = record {
    hart = refl;
    count = refl;
    tables = holds_itself k (record (first_kernel setting) {
      ids = (tid.0, cid) ∷ [];
      pages = record { runs = all_runs m; free = free_in m; break_at = break_in m };
    });
    running = running;
    pages = its_pages;
    file = sym (ap (file_or saved) quiet);
    id = its_id;
    own = inl refl;
    kept = λ u x is. sym (ap (file_or saved) is);
  }

  -- so where each place says what a call made of the tables, they agree after it
  pub agreed_made : (k' : Kernel) (m' : Map) (saved' : Saved) (end : CallEnd) → running_harts k.threads.threads harts ≡ busy
      → saved_of tid.0 k.threads.saved ≡ None → running_on here.0 k.threads.threads ≡ Some tid.0 → IsTables harts k.threads.threads k.ready → HoldAreas k → HoldSignals k
      → ((h : Here) → IsAt h k m here busy harts tid saved cid → IsMade h tid.0 k m k' m' saved' end (called h tid.0))
      → IsAgreed harts (record_with k' (called place tid.0).kernel)
  agreed_made k' m' saved' end running quiet at tables areas signals made =
      let is = is_place running quiet in
      agreed_after harts place tid.0 k k' is.tables (made place is).tables at tables areas signals
