-- What a call does that is fit, and what makes one fit: a step of the record, beside files that are the caller's own or of threads that
-- don't run.
use Rattle.block_model.proofs.Common.{◌≡◌, ◌≢◌, ℕ, zero, suc, ◌+◌, ◌/◌, ◌≤◌, ◌<◌, inl, inr, List, [], ◌∷◌, ◌++◌, refl, sym, ap, ◌∙◌, subst, arith, Bool, true, false, not, ◌||◌, Option, Some, None, AllByRecursion, Barrier, CallDone, Here, IsGoodHere, IsHeld, IsSound, IsTables, MayEnter, Neighbour, PageRun, Pages, Saved, Store, Threads, and_parts, by_call, can_write, cases_eq, cases_lt, each_byte, file_among, is_in, is_in_segment, lies_waiting_on, list_any, ne_eqb, not-false, not-true, or_in_segment, or_parts, permission_at, permission_of, running_on, runs, waiting_here}
use Rattle.block_model.specs.Calls.Memory.{lies_on}
use Rattle.block_model.proofs.KernelTables.{running_is, runs_once}
use Rattle.block_model.proofs.Pages.{IsPaged}
use Rattle.block_model.proofs.Barriers.Events.{IsAtOthers, IsFitBarriers}
use Rattle.block_model.proofs.PlaceInvariant.{IsFit}
use Rattle.block_model.proofs.Invariants.Calls.RecordSteps.{IsKept, IsMoved, kept_moved}

-- a barrier that a call begins is about other harts of the machine, and the caller's thread keeps its hart
pub record IsBegunByCall (here : Here) (c : CallDone) (b : Barrier) : Type 0 where
  pub others : IsAtOthers here b
  pub running : running_on here.hart c.kernel.threads ≢ None
  pub stays : running_on here.hart c.kernel.threads ≡ runs here

-- a thread that runs on one hart isn't that of another
pub runs_apart : (harts h k t u : ℕ) (ts : Threads) (sc : _) → IsTables harts ts sc → running_on h ts ≡ Some t → k ≢ h → running_on k ts ≡ Some u → t ≢ u
runs_apart harts h k t u ts sc tables at ne runs same =
    runs_once h k t ts (running_is harts h t ts sc tables at) ne (running_is harts k t ts sc tables (rw same runs))

-- the own thread's file first, the rest may be of others
pub own_apart : (here : Here) (t : ℕ) (x : Saved) (rest : List (ℕ × Saved)) (k u : ℕ) (f : Saved) → IsGoodHere here → runs here ≡ Some t → k ≢ here.hart → running_on k here.kernel.threads ≡ Some u → file_among ((t, x) ∷ rest) u f ≡ file_among rest u f
own_apart here t x rest k u f good at ne runs =
    rw (ne_eqb t u (runs_apart here.setting.limits.harts here.hart k t u here.kernel.threads here.kernel.scheduling good.kernel.tables at ne runs)) refl

-- a page that isn't one of a run can be written after a change where it could before
abbrev pub StaysWritable : Pages → PageRun → Pages → Type 0
StaysWritable before r after =
    (n : ℕ) → is_in r n ≡ false → can_write (permission_of before.runs n) ≡ true → can_write (permission_of after.runs n) ≡ true

-- threads of other harts stay where they are and keep their files, no page changes but those of a run that it takes, and the record
-- stays sound
pub record IsFitTaking (here : Here) (r : PageRun) (c : CallDone) : Type 0 where
  pub others : (k : ℕ) → k ≢ here.hart → running_on k c.kernel.threads ≡ running_on k here.kernel.threads
  pub apart : (k u : ℕ) (f : Saved) → k ≢ here.hart → running_on k here.kernel.threads ≡ Some u → file_among c.files u f ≡ f
  pub pages : StaysWritable here.kernel.pages r c.kernel.pages
  pub paged : IsPaged here.setting here.kernel.pages → IsPaged here.setting c.kernel.pages
  pub given : c.kernel.threads.given ≤ here.kernel.threads.given + 1
  pub barrier : (b : Barrier) → c.barrier ≡ Some b → IsBegunByCall here c b
  pub kernel : IsSound here.setting c.kernel
  pub held : IsHeld here.setting.limits.harts here.kernel → IsHeld here.setting.limits.harts c.kernel

-- a byte that passes a test or lies in the segment passes another one or lies there, where it passes a third or lies there
or_passes : (segment a b c : Bool) → (a ≡ true → b ≡ true → c ≡ true) → (segment || a) ≡ true → (segment || b) ≡ true → (segment || c) ≡ true
or_passes true a b c step p q = refl
or_passes false a b c step p q = step p q

pub segment_passes : (beside : Option Neighbour) (f g k : ℕ → Bool) (at : ℕ) → (f at ≡ true → g at ≡ true → k at ≡ true)
    → or_in_segment beside f at ≡ true → or_in_segment beside g at ≡ true → or_in_segment beside k at ≡ true
segment_passes None f g k at step p q = step p q
segment_passes (Some other) f g k at step p q = or_passes (is_in_segment at) (f at) (g at) (k at) step p q

-- a store that has no byte on the pages of the run may enter still
module _ (beside : Option Neighbour) (before after : Pages) (r : PageRun) (stays : StaysWritable before r after) where
  abbrev outside : ℕ → Bool
  outside = or_in_segment beside (λ a. not (is_in r (a / 4096)))

  abbrev can_in : Pages → ℕ → Bool
  can_in p = or_in_segment beside (λ a. can_write (permission_at p a))

  byte_stays : (at : ℕ) → outside at ≡ true → can_in before at ≡ true → can_in after at ≡ true
  byte_stays at =
      segment_passes beside (λ a. not (is_in r (a / 4096))) (λ a. can_write (permission_at before a)) (λ a. can_write (permission_at after a)) at
      (λ out may. stays (at / 4096) (not-true (is_in r (at / 4096)) out) may)

  bytes_stay : (at size : ℕ) → each_byte outside at size ≡ true → each_byte (can_in before) at size ≡ true → each_byte (can_in after) at size ≡ true
  bytes_stay at zero out may = refl
  bytes_stay at (suc n) out may =
      let apart = and_parts (outside at) (each_byte outside (at + 1) n) out in
      let can = and_parts (can_in before at) (each_byte (can_in before) (at + 1) n) may in
      rw (byte_stays at apart.0 can.0) (bytes_stay (at + 1) n apart.1 can.1)

  stores_stay : (ws : List Store) → list_any (lies_on beside r) ws ≡ false → AllByRecursion (MayEnter beside before) ws → AllByRecursion (MayEnter beside after) ws
  stores_stay [] none may = tt
  stores_stay (w ∷ ws) none may =
      let apart = or_parts (lies_on beside r w) (list_any (lies_on beside r) ws) none in
      (bytes_stay w.at w.size (not-false (each_byte outside w.at w.size) apart.0) may.0, stores_stay ws apart.1 may.1)

-- what isn't found among the first harts isn't on one of them
pub none_on : (beside : Option Neighbour) (r : PageRun) (waiting : ℕ → List Store) (n k : ℕ) → lies_waiting_on beside r waiting n ≡ false → k < n
    → list_any (lies_on beside r) (waiting k) ≡ false
none_on beside r waiting zero k none lt = absurd (omega arith)
none_on beside r waiting (suc n) k none lt =
    let both = or_parts (list_any (lies_on beside r) (waiting n)) (lies_waiting_on beside r waiting n) none in
    elim (cases_eq k n) [
      | inl same ↦ ap (λ j. list_any (lies_on beside r) (waiting j)) same ∙ both.0
      | inr two ↦ none_on beside r waiting n k both.1 (omega arith)
    ]

-- no thread runs past the machine's harts
pub nobody_past : (harts k : ℕ) (ts : Threads) (sc : _) → IsTables harts ts sc → harts ≤ k → running_on k ts ≡ None
nobody_past harts k ts sc tables past = go (running_on k ts) refl
  where
    go : (o : Option ℕ) → running_on k ts ≡ o → o ≡ None
    go None at = refl
    go (Some t) at = let below = tables.below t (record { 0 = k }) (running_is harts k t ts sc tables at) in absurd (omega arith)

-- a call is made where no store waits, and no store of another hart on a page that it takes
pub fit_by_call : (here : Here) (r : PageRun) (c : CallDone) → IsGoodHere here → here.awaits ≡ None → waiting_here here ≡ []
    → lies_waiting_on here.beside r here.waiting here.setting.limits.harts ≡ false → IsFitTaking here r c → IsFit here (by_call here c)
fit_by_call here r c good free none clear fit = record {
  executed = tt;
  few = let w = good.few in omega arith;
  drained = omega arith;
  idle = λ _. ap (λ (ws : List Store). ws ++ []) none;
  others = fit.others;
  apart = fit.apart;
  within = λ k. within k;
  paged = fit.paged;
  given = fit.given;
  one = omega arith;
  barriers = barriers;
  kernel = fit.kernel;
  held = fit.held;
}
  where
    barriers : IsFitBarriers here (by_call here c)
    barriers = record {
      still = λ left is. let bad : None ≡ Some left = sym free ∙ is in absurd cc;
      begun = λ b is.
          let its = fit.barrier b is in
          record {
            free = free;
            others = its.others;
            still = record { running = its.running; empty = ap (λ (ws : List Store). ws ++ []) none };
            stays = its.stays;
            not_took = refl;
            not_returned = refl;
          };
      took = λ is. refl;
      returned = λ is. absurd cc;
    }

    within : (k : ℕ) → AllByRecursion (MayEnter here.beside c.kernel.pages) (here.waiting k)
    within k = elim (cases_lt k here.setting.limits.harts) [
      | inl lt ↦
          stores_stay here.beside here.kernel.pages c.kernel.pages r fit.pages (here.waiting k)
          (none_on here.beside r here.waiting here.setting.limits.harts k clear lt) (good.within k)
      | inr past ↦
          let idle = nobody_past here.setting.limits.harts k here.kernel.threads here.kernel.scheduling good.kernel.tables past in
          rw (good.idle k idle) tt
    ]

-- a thread that runs on another hart keeps its file
abbrev pub IsApart : Here → List (ℕ × Saved) → Type 0
IsApart here files =
    (k u : ℕ) (f : Saved) → k ≢ here.hart → running_on k here.kernel.threads ≡ Some u
    → file_among files u f ≡ f

-- where no page changes, whatever is taken
pub pages_stay : (before after : Pages) (r : PageRun) → after ≡ before → StaysWritable before r after
pages_stay before after r same n outside may = subst (λ (p : Pages). can_write (permission_of p.runs n) ≡ true) (sym same) may

-- no barrier begins by such a call, and it takes no page
pub fit_moved : (here : Here) (r : PageRun) (c : CallDone) → c.barrier ≡ None → IsApart here c.files
    → IsMoved here.setting here.hart here.kernel c.kernel → IsFitTaking here r c
fit_moved here r c quiet apart moved = record {
  others = moved.others;
  apart = apart;
  pages = pages_stay here.kernel.pages c.kernel.pages r moved.pages;
  paged = λ is. subst (IsPaged here.setting) (sym moved.pages) is;
  given = let same = moved.given in omega arith;
  barrier = λ b is. let bad : None ≡ Some b = sym quiet ∙ is in absurd cc;
  kernel = moved.sound;
  held = moved.held;
}

pub fit_kept : (here : Here) (r : PageRun) (c : CallDone) → c.barrier ≡ None → IsApart here c.files
    → IsKept here.setting here.kernel c.kernel → IsFitTaking here r c
fit_kept here r c quiet apart kept =
    fit_moved here r c quiet apart (kept_moved here.setting here.hart here.kernel c.kernel kept)

pub apart_own : (here : Here) (t : ℕ) (x : Saved) (rest : List (ℕ × Saved)) → IsGoodHere here
    → runs here ≡ Some t → IsApart here rest → IsApart here ((t, x) ∷ rest)
apart_own here t x rest good at apart k u f ne run =
    own_apart here t x rest k u f good at ne run ∙ apart k u f ne run

pub apart_none : (here : Here) → IsApart here []
apart_none here k u f ne run = refl

pub apart_one : (here : Here) (t : ℕ) (x : Saved) → IsGoodHere here → runs here ≡ Some t
    → IsApart here ((t, x) ∷ [])
apart_one here t x good at = apart_own here t x [] good at (apart_none here)
