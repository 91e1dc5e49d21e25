-- clone(2).
use Rattle.block_model.proofs.Common.{List, ◌≡◌, ◌≢◌, ℕ, [], ◌∷◌, refl, sym, ap, ◌∙◌, subst, arith, Bool, true, false, cond, Option, Some, None, CallDone, Here, IsGoodHere, IsSound, Kernel, PageRun, Saved, Setting, Thread, Write, argument, child_file, clear_if, cleared, clone_child_cleartid, had_child, has_flag, is_full, keeps_clear, ne_eqb, next_is_new, next_number, on, option_map, returned, running_on, runs, state_of, with_new_child}
use Rattle.block_model.proofs.AllowedHarts.{child_allowed, running_live}
use Rattle.block_model.proofs.KernelTables.{running_is}
use Rattle.block_model.proofs.KernelCalls.{child_not_held, child_same, tables_child}
use Rattle.block_model.proofs.Pages.{IsPaged}
use Rattle.block_model.proofs.ThreadRecords.{held_child}
use Rattle.block_model.proofs.Invariants.Calls.Conditions.{IsFitTaking, IsApart, apart_own, pages_stay}
use Rattle.block_model.proofs.Invariants.Calls.RecordSteps.{IsKept, kept_rows, kept_still}

-- a thread that runs has another number than the next
new_apart : (s : Setting) (h u : ℕ) (k : Kernel) → IsSound s k → running_on h k.threads ≡ Some u
    → next_number k ≢ u
new_apart s h u k sound runs same =
    let run = running_is s.limits.harts h u k.threads k.scheduling sound.tables runs in
    let none = next_is_new k.threads sound.tables.threads in
    let new = ap (λ (o : Option Thread). option_map (λ (th : Thread). th.state) o) none in
    let states : Some (on h) ≡ None = sym run ∙ ap (λ n. state_of n k.threads) (sym same) ∙ new in
    cc

apart_child : (here : Here) (x : Saved) → IsGoodHere here → IsApart here ((next_number here.kernel, x) ∷ [])
apart_child here x good k u f ne run =
    let other = new_apart here.setting k u here.kernel good.kernel run in
    rw (ne_eqb (next_number here.kernel) u other) refl

-- the record with a child: who runs, and that it is sound
module _ (s : Setting) (h t : ℕ) (k : Kernel)
    (sound : IsSound s k) (at : running_on h k.threads ≡ Some t) (free : is_full k.threads ≡ false) where
  pub running_child : (j : ℕ) → running_on j (had_child t k).threads ≡ running_on j k.threads
  running_child j = child_same s.limits.harts t k.threads k.scheduling sound.tables free j

  pub sound_child : IsSound s (had_child t k)
  sound_child =
      let harts = s.limits.harts in
      let new = child_not_held harts t k.threads k.scheduling sound.tables free in
      let lives = running_live harts h t k.threads k.scheduling sound.tables at in
      record {
        tables = tables_child harts t k.threads k.scheduling sound.tables free;
        allowed = child_allowed harts t k.threads k.scheduling new lives sound.allowed;
        console = sound.console;
      }

-- and then perhaps the address that the child's exit clears
kept_if_cleared : (s : Setting) (b : Bool) (t at : ℕ) (k : Kernel) → IsSound s k
    → IsKept s k (cond b (cleared t at k) k)
kept_if_cleared s true t at k sound = kept_rows s (clear_if t at) (keeps_clear t at) k sound
kept_if_cleared s false t at k sound = kept_still s k sound

pub kept_child : (here : Here) (t : ℕ) → IsSound here.setting (had_child t here.kernel)
    → IsKept here.setting (had_child t here.kernel) (with_new_child here t)
kept_child here t sound =
    let asked = has_flag (argument here t 0) clone_child_cleartid in
    let ctid = argument here t 4 in
    kept_if_cleared here.setting asked (next_number here.kernel) ctid (had_child t here.kernel) sound

-- the call where it isn't refused
abbrev child_made : Here → ℕ → List Write → CallDone
child_made here t entered =
    let child = next_number here.kernel in
    record {
      files = (t, returned child (here.file t)) ∷ (child, child_file here t) ∷ [];
      entered = entered;
      kernel = with_new_child here t;
      barrier = None;
      ended = None;
    }

pub fit_child : (here : Here) (t : ℕ) (entered : List Write) (r : PageRun) → IsGoodHere here → runs here ≡ Some t
    → is_full here.kernel.threads ≡ false
    → IsFitTaking here r (child_made here t entered)
fit_child here t entered r good at free =
    let s = here.setting in
    let child = next_number here.kernel in
    let kept = kept_child here t (sound_child s here.hart t here.kernel good.kernel at free) in
    let other = apart_child here (child_file here t) good in
    record {
      others = λ k ne. kept.running k ∙ running_child s here.hart t here.kernel good.kernel at free k;
      apart = apart_own here t (returned child (here.file t)) ((child, child_file here t) ∷ []) good at other;
      pages = pages_stay here.kernel.pages (with_new_child here t).pages r kept.pages;
      paged = λ is. subst (IsPaged here.setting) (sym kept.pages) is;
      given = let same = kept.given in omega arith;
      barrier = λ b is. absurd cc;
      kernel = kept.sound;
      held = λ is. kept.held (held_child s.limits.harts t here.kernel good.kernel.tables.threads is);
    }
