-- What holds at each place of a run, and what an event has to do so that it goes on to hold. No kind of event occurs here.
use Rattle.block_model.proofs.Common.{◌≡◌, ◌≢◌, ℕ, ◌+◌, ◌≤◌, ◌<◌, List, [], ◌∷◌, ◌++◌, length, drop, refl, sym, ap, ◌∙◌, arith, subst, Bool, true, false, cond, eqb, Option, Some, None, length-append, length-drop, suc, AllByRecursion, Done, Here, IsGoodHere, IsHeld, IsSound, MayEnter, Plain, Saved, Setting, Store, apply, awaits_of_own, eqb-false, eqb-true, file_among, here_in_plain, option_map, running_on, waiting_here, without_hart}
use Rattle.mach_types.specs.declared.user_memory.TheConstants.{STORE_BUFFER_CAPACITY}
use Rattle.block_model.proofs.Barriers.Requests.{IsAwaited}
use Rattle.block_model.proofs.Barriers.Events.{IsFitBarriers, IsStill, awaited_next, own_still, restart_next, waited_before}
use Rattle.block_model.proofs.Pages.{IsPaged}

-- what waits may enter memory, and as many stores wait as a buffer holds; an idle hart has no waiting store;
-- an event gives at most one number to a thread. A hart whose thread waits in a barrier runs a thread, and has no waiting store; what
-- holds of barriers that are waited in and of requests; and where a request asks for a restart, one is pending
pub record IsGood (s : Setting) (m : Plain) : Type 0 where
  pub within : (h : ℕ) → AllByRecursion (MayEnter None m.kernel.pages) (m.waiting h)
  pub few : (h : ℕ) → length (m.waiting h) ≤ STORE_BUFFER_CAPACITY
  pub idle : (h : ℕ) → running_on h m.kernel.threads ≡ None → m.waiting h ≡ []
  pub given : m.kernel.threads.given ≤ m.made + 1
  pub busy : (h left : ℕ) → m.awaits h ≡ Some left → running_on h m.kernel.threads ≢ None
  pub empty : (h left : ℕ) → m.awaits h ≡ Some left → m.waiting h ≡ []
  pub awaited : IsAwaited s.limits.harts m.requests m.awaits
  pub restart : (k : ℕ) → m.restart k ≡ true → m.requests k ≢ 0
  pub kernel : IsSound s m.kernel

-- what an event does that keeps it; and it sets no file of a thread that runs on another hart. What the record holds for threads
-- stays so too
pub record IsFit (here : Here) (d : Done) : Type 0 where
  pub executed : AllByRecursion (MayEnter here.beside d.kernel.pages) d.executed
  pub within : (k : ℕ) → AllByRecursion (MayEnter here.beside d.kernel.pages) (here.waiting k)
  pub few : length (waiting_here here) + length d.executed ≤ STORE_BUFFER_CAPACITY
  pub drained : d.drained ≤ length (waiting_here here)
  pub idle : running_on here.hart d.kernel.threads ≡ None → drop d.drained (waiting_here here ++ d.executed) ≡ []
  pub others : (k : ℕ) → k ≢ here.hart → running_on k d.kernel.threads ≡ running_on k here.kernel.threads
  pub apart : (k u : ℕ) (f : Saved) → k ≢ here.hart → running_on k here.kernel.threads ≡ Some u → file_among d.files u f ≡ f
  pub paged : IsPaged here.setting here.kernel.pages → IsPaged here.setting d.kernel.pages
  pub given : d.kernel.threads.given ≤ here.kernel.threads.given + 1
  pub one : d.instructions ≤ 1
  pub barriers : IsFitBarriers here d
  pub kernel : IsSound here.setting d.kernel
  pub held : IsHeld here.setting.limits.harts here.kernel → IsHeld here.setting.limits.harts d.kernel

-- one of two events, by a test
pub fit_either : (here : Here) (b : Bool) (x y : Done) → IsFit here x → IsFit here y → IsFit here (cond b x y)
fit_either here true x y p q = p
fit_either here false x y p q = q

pub all_append : {A : Type 0} (P : A → Type 0) (xs ys : List A) → AllByRecursion P xs → AllByRecursion P ys → AllByRecursion P (xs ++ ys)
all_append P [] ys p q = q
all_append P (x ∷ xs) ys p q = (p.0, all_append P xs ys p.1 q)

all_drop : (P : Store → Type 0) (n : ℕ) (xs : List Store) → AllByRecursion P xs → AllByRecursion P (drop n xs)
all_drop P (suc n) (x ∷ xs) p = all_drop P n xs p.1
all_drop P n xs p = p

pub good_here : (s : Setting) (m : Plain) (h : ℕ) → h < s.limits.harts → IsGood s m → IsGoodHere (here_in_plain s m h)
good_here s m h lt good = record {
  lt = lt;
  within = good.within;
  few = good.few h;
  idle = good.idle;
  busy = good.busy h;
  empty = good.empty h;
  kernel = good.kernel;
}

-- a thread waits in a barrier for these harts after an event of hart h, which is its own or another one
abbrev AwaitsNext : ℕ → Done → Option ℕ → ℕ → Bool → Type 0
AwaitsNext h d awaits left own = cond own (awaits_of_own d awaits) (cond d.took (option_map (without_hart h) awaits) awaits) ≡ Some left

-- what an event makes of each part: hart k is its own where `own` says so. Each hart's thread waits in a barrier for what `awaits` says
module _ (here : Here) (d : Done) (awaits : ℕ → Option ℕ) (same : awaits here.hart ≡ here.awaits) (fit : IsFit here d) where
  abbrev waits_after : ℕ → Bool → List Store
  waits_after k own = cond own (drop d.drained (here.waiting k ++ d.executed)) (here.waiting k)

  pub within_next : (k : ℕ) (own : Bool) → AllByRecursion (MayEnter here.beside d.kernel.pages) (waits_after k own)
  within_next k true =
      let may = MayEnter here.beside d.kernel.pages in
      all_drop may d.drained (here.waiting k ++ d.executed) (all_append may (here.waiting k) d.executed (fit.within k) fit.executed)
  within_next k false = fit.within k

  pub few_next : (k : ℕ) (own : Bool) → eqb here.hart k ≡ own → length (here.waiting k) ≤ STORE_BUFFER_CAPACITY
      → length (waits_after k own) ≤ STORE_BUFFER_CAPACITY
  few_next k true is was =
      let one : length (here.waiting k) + length d.executed ≤ STORE_BUFFER_CAPACITY = subst (λ j. length (here.waiting j) + length d.executed ≤ STORE_BUFFER_CAPACITY) (eqb-true here.hart k is) fit.few in
      omega (arith, length-drop d.drained (here.waiting k ++ d.executed), length-append (here.waiting k) d.executed)
  few_next k false is was = was

  stays_idle : (k : ℕ) → eqb here.hart k ≡ false → running_on k d.kernel.threads ≡ None → running_on k here.kernel.threads ≡ None
  stays_idle k is none = sym (fit.others k (λ e. eqb-false here.hart k is (sym e))) ∙ none

  pub idle_next : (k : ℕ) (own : Bool) → eqb here.hart k ≡ own → (running_on k here.kernel.threads ≡ None → here.waiting k ≡ [])
      → running_on k d.kernel.threads ≡ None → waits_after k own ≡ []
  idle_next k true is was none =
      let it : here.hart ≡ k = eqb-true here.hart k is in
      subst (λ j. drop d.drained (here.waiting j ++ d.executed) ≡ []) it (fit.idle (ap (λ j. running_on j d.kernel.threads) it ∙ none))
  idle_next k false is was none = was (stays_idle k is none)

  its_still : (k left : ℕ) → here.hart ≡ k → awaits_of_own d (awaits k) ≡ Some left → IsStill here d
  its_still k left it waits =
      own_still here d left fit.barriers (ap (awaits_of_own d) (sym same) ∙ ap (λ j. awaits_of_own d (awaits j)) it ∙ waits)

  pub busy_next : (k left : ℕ) (own : Bool) → eqb here.hart k ≡ own → ((left : ℕ) → awaits k ≡ Some left → running_on k here.kernel.threads ≢ None)
      → AwaitsNext here.hart d (awaits k) left own → running_on k d.kernel.threads ≢ None
  busy_next k left true is was waits =
      let it : here.hart ≡ k = eqb-true here.hart k is in
      subst (λ j. running_on j d.kernel.threads ≢ None) it (its_still k left it waits).running
  busy_next k left false is was waits =
      let before = waited_before here.hart left (awaits k) d.took waits in
      λ none. was before.0 before.1 (stays_idle k is none)

  pub empty_next : (k left : ℕ) (own : Bool) → eqb here.hart k ≡ own → ((left : ℕ) → awaits k ≡ Some left → here.waiting k ≡ [])
      → AwaitsNext here.hart d (awaits k) left own → waits_after k own ≡ []
  empty_next k left true is was waits =
      let it : here.hart ≡ k = eqb-true here.hart k is in
      subst (λ j. drop d.drained (here.waiting j ++ d.executed) ≡ []) it (its_still k left it waits).empty
  empty_next k left false is was waits =
      let before = waited_before here.hart left (awaits k) d.took waits in
      was before.0 before.1

pub good_next : (s : Setting) (m : Plain) (h : ℕ) (d : Done) → IsGood s m → IsFit (here_in_plain s m h) d → IsGood s (apply h d m)
good_next s m h d good fit =
    let here = here_in_plain s m h in
    record {
      within = λ k. within_next here d m.awaits refl fit k (eqb h k);
      few = λ k. few_next here d m.awaits refl fit k (eqb h k) refl (good.few k);
      idle = λ k none. idle_next here d m.awaits refl fit k (eqb h k) refl (good.idle k) none;
      given = let was = good.given in let now = fit.given in omega arith;
      busy = λ k left waits. busy_next here d m.awaits refl fit k left (eqb h k) refl (good.busy k) waits;
      empty = λ k left waits. empty_next here d m.awaits refl fit k left (eqb h k) refl (good.empty k) waits;
      awaited = awaited_next here d m.requests m.awaits refl fit.barriers good.awaited;
      restart = λ k is. restart_next k h (m.requests k) (m.restart k) d (good.restart k) is;
      kernel = fit.kernel;
    }
