-- madvise(2): what the page map holds after it, and when it is refused.
use Rattle.sys_calls.proofs.Common.{◌≡◌, ℕ, ◌+◌, ◌*◌, ◌/◌, ◌%◌, ◌^◌, ◌<◌, ◌≤◌, ◌||◌, inl, inr, arith, Bool, true, false, not, ◌&&◌, and_parts, cases_lt, cond, eqb, eqb-true, false≢true, leb, le-leb, lt-leb, ltb, ltb-false, EINVAL, List, [], ◌∷◌, Option, Some, None, Ok, Err, refl, sym, ap, subst, ◌∙◌, option_map, written, Errno, Here, IsRemapped, Write, PageRun, is_in, permission_of, run, zeros_of, Map, break_in, break_start_in, code_in, free_in, held_in, permission_in, CallDone, HasPages, HoldsPages, pages_of, permission_here, zeros_of-at, argument, call_number, int_argument, taken_by}
use Rattle.mach_types.specs.Kernel.Pages.{is_mapped, is_without_code}
use Rattle.mach_types.specs.declared.address_space.TheConstants.{USER_END}
use Rattle.mach_types.specs.declared.errors.TheConstants.{ENOMEM}
use Rattle.page_map.specs.Map.{held_zeroed}
use Rattle.block_model.specs.Calls.Memory.{advice_writes, advised, can_drop, is_dropping, is_idle_advice, madvise_refusal, passes_last, taken_by_advice, wrote_unless}
use Rattle.sys_calls.proofs.PageCalls.{permissions_are, remapped, remapped_refused}

zeroed_by : (b : Bool) (o held : Option ℕ) (new old : ℕ) → held ≡ option_map (λ (x : ℕ). old) o → new ≡ cond b 0 old
    → cond b (option_map (λ (x : ℕ). 0) held) held ≡ option_map (λ (x : ℕ). new) o
zeroed_by true None held new old is after = ap (option_map (λ (x : ℕ). 0)) is
zeroed_by true (Some p) held new old is after = ap (option_map (λ (x : ℕ). 0)) is ∙ ap Some (sym after)
zeroed_by false o held new old is after = is ∙ ap (λ (v : ℕ). option_map (λ (x : ℕ). v) o) (sym after)

-- the pages of a run are zero
pub holds_zeroed : (h : Here) (m m' : Map) (r : PageRun) → HasPages h m → ((n : ℕ) → permission_in m' n ≡ permission_in m n)
    → ((a : ℕ) → held_in m' a ≡ held_zeroed r (held_in m) a) → free_in m' ≡ free_in m → break_in m' ≡ break_in m → break_start_in m' ≡ break_start_in m
    → HoldsPages h.kernel.pages h.setting.program.break_at (λ a. written (zeros_of r ∷ []) a (h.byte a)) m'
holds_zeroed h m m' r has permissions held frees breaks starts = record {
  permissions = λ n. permissions n ∙ has.permissions n;
  held = λ a.
      held a
      ∙ zeroed_by (is_in r (a / 4096)) (permission_of h.kernel.pages.runs (a / 4096)) (held_in m a) (written (zeros_of r ∷ []) a (h.byte a)) (h.byte a)
      (has.held a) (zeros_of-at r a (h.byte a));
  free = frees ∙ has.free;
  break_at = breaks ∙ has.break_at;
  break_start = starts ∙ has.break_start;
}

module _ (h : Here) (t : ℕ) (m m' : Map) (has : HasPages h m) (at len advice at' len' advice' : ℕ) (at_is : at ≡ at') (len_is : len ≡ len')
    (advice_is : advice ≡ advice')
  where
    refusal_here : madvise_refusal (permission_in m) (break_start_in m) at len advice ≡ madvise_refusal (permission_here h) h.setting.program.break_at at len advice
    refusal_here = λ i. madvise_refusal (permissions_are h m has i) (has.break_start i) at len advice

    pub madvise_refused : (ws : List Write) (e : Errno) → ws ≡ [] → Some e ≡ madvise_refusal (permission_in m) (break_start_in m) at len advice
        → m' ≡ m → IsRemapped h t m m' ws (Err e) (advised h t at' len' advice')
    madvise_refused ws e none is same =
        subst (λ (d : CallDone). IsRemapped h t m m' ws (Err e) d) (λ i. advised h t (at_is i) (len_is i) (advice_is i))
        (subst (λ (o : Option Errno). IsRemapped h t m m' ws (Err e) (wrote_unless h t o (advice_writes at len advice))) (is ∙ refusal_here)
        (subst (λ (w : List Write). IsRemapped h t m m' w (Err e) (wrote_unless h t (Some e) (advice_writes at len advice))) (sym none)
        (remapped_refused h t m m' e has same)))

    pub madvise_made : (ws : List Write) → ws ≡ advice_writes at len advice → None ≡ madvise_refusal (permission_in m) (break_start_in m) at len advice
        → HoldsPages h.kernel.pages h.setting.program.break_at (λ a. written ws a (h.byte a)) m' → ((a : ℕ) → code_in m' a ≡ code_in m a)
        → IsRemapped h t m m' ws (Ok 0) (advised h t at' len' advice')
    madvise_made ws told is holds code =
        subst (λ (d : CallDone). IsRemapped h t m m' ws (Ok 0) d) (λ i. advised h t (at_is i) (len_is i) (advice_is i))
        (subst (λ (o : Option Errno). IsRemapped h t m m' ws (Ok 0) (wrote_unless h t o (advice_writes at len advice))) (is ∙ refusal_here)
        (subst (λ (w : List Write). IsRemapped h t m m' ws (Ok 0) (wrote_unless h t None w)) told
        (remapped h t m m' 0 ws h.kernel.pages holds code)))

-- advice that drops nothing writes nothing
pub drops_none : (at len advice : ℕ) → (is_dropping advice && not (eqb len 0)) ≡ false → [] ≡ advice_writes at len advice
drops_none at len advice none = sym (ap (λ (b : Bool). cond b (zeros_of (run (at / 4096) (pages_of len) None) ∷ []) []) none)

pub drops_some : (at len advice : ℕ) → (is_dropping advice && not (eqb len 0)) ≡ true
    → zeros_of (run (at / 4096) (pages_of len) None) ∷ [] ≡ advice_writes at len advice
drops_some at len advice some = sym (ap (λ (b : Bool). cond b (zeros_of (run (at / 4096) (pages_of len) None) ∷ []) []) some)

-- WHAT CAN BE DROPPED

not_refused : (b : Bool) (e : Errno) (o : Option Errno) → cond b (Some e) o ≡ None → (b ≡ false) × (o ≡ None)
not_refused true e o is = cc
not_refused false e o is = (refl, is)

past_nothing : (b : Bool) (o : Option Errno) → cond b None o ≡ None → not b ≡ true → o ≡ None
past_nothing true o is some = absurd (false≢true some)
past_nothing false o is some = is

holds_not : (b : Bool) → not b ≡ false → b ≡ true
holds_not true is = refl
holds_not false is = cc

holds_then : (b c : Bool) → (b && not c) ≡ false → b ≡ true → c ≡ true
holds_then true true is drops = refl
holds_then true false is drops = cc
holds_then false c is drops = absurd (false≢true drops)

pub record IsDroppable (permission : ℕ → Option ℕ) (first count : ℕ) : Type 0 where
  pub ends : first + count ≤ 67108864
  pub mapped : is_mapped permission first count ≡ true
  pub bare : is_without_code permission first count ≡ true

pub droppable : (permission : ℕ → Option ℕ) (lowest at len advice : ℕ) → madvise_refusal permission lowest at len advice ≡ None
    → (is_dropping advice && not (eqb len 0)) ≡ true → IsDroppable permission (at / 4096) (pages_of len)
droppable permission lowest at len advice free drops =
    let asked = and_parts (is_dropping advice) (not (eqb len 0)) drops in
    let one = not_refused (not (is_idle_advice advice || is_dropping advice)) EINVAL _ free in
    let two = not_refused (not (eqb (at % 4096) 0)) EINVAL _ one.1 in
    let three = not_refused (passes_last at len) EINVAL _ two.1 in
    let four = past_nothing (eqb len 0) _ three.1 asked.1 in
    let five = not_refused (ltb USER_END (at + len)) ENOMEM _ four in
    let six = not_refused (not (is_mapped permission (at / 4096) (pages_of len))) ENOMEM _ five.1 in
    let seven = not_refused (is_dropping advice && not (can_drop permission lowest (at / 4096) (pages_of len))) EINVAL _ six.1 in
    let aligned = eqb-true (at % 4096) 0 (holds_not (eqb (at % 4096) 0) two.0) in
    let ends = ltb-false USER_END (at + len) five.0 in
    let can = holds_then (is_dropping advice) (can_drop permission lowest (at / 4096) (pages_of len)) seven.0 asked.0 in
    record {
      ends = omega (arith, aligned, ends);
      mapped = holds_not (is_mapped permission (at / 4096) (pages_of len)) six.0;
      bare = (and_parts (leb (pages_of lowest) (at / 4096)) (is_without_code permission (at / 4096) (pages_of len)) can).1;
    }

-- pages are counted up to the last address
pub past_last : (at len pages : ℕ) → pages ≡ pages_of len → leb 4503599627370496 (at / 4096 + pages) ≡ passes_last at len
past_last at len pages is = elim (cases_lt (at / 4096 + pages) 4503599627370496) [
  | inl low ↦
      let below : at + pages_of len * 4096 < 2 ^ 64 = omega (arith, is, low) in
      lt-leb 4503599627370496 (at / 4096 + pages) low ∙ sym (lt-leb (2 ^ 64) (at + pages_of len * 4096) below)
  | inr high ↦
      let past : 2 ^ 64 ≤ at + pages_of len * 4096 = omega (arith, is, high) in
      le-leb 4503599627370496 (at / 4096 + pages) high ∙ sym (le-leb (2 ^ 64) (at + pages_of len * 4096) past)
]

-- the pages that advice takes
pub taken_advising : (h : Here) (t : ℕ) (m : Map) → HasPages h m → (at len advice : ℕ) → at ≡ argument h t 0 → len ≡ argument h t 1
    → advice ≡ int_argument h t 2 → call_number h t ≡ 233
    → taken_by_advice (madvise_refusal (permission_in m) (break_start_in m) at len advice) at len advice ≡ taken_by (call_number h t) h t
taken_advising h t m has at len advice at_is len_is advice_is number =
    (λ i. taken_by_advice (madvise_refusal (permissions_are h m has i) (has.break_start i) (at_is i) (len_is i) (advice_is i)) (at_is i) (len_is i) (advice_is i))
    ∙ sym (ap (λ (n : ℕ). taken_by n h t) number)

pub madvise_idle : (h : Here) (t : ℕ) (m : Map) → HasPages h m → (at len advice at' len' advice' : ℕ) → at ≡ at' → len ≡ len' → advice ≡ advice'
    → (ws : List Write) → ws ≡ [] → (is_dropping advice && not (eqb len 0)) ≡ false → None ≡ madvise_refusal (permission_in m) (break_start_in m) at len advice
    → IsRemapped h t m m ws (Ok 0) (advised h t at' len' advice')
madvise_idle h t m has at len advice at' len' advice' at_is len_is advice_is ws none drops is =
    subst (λ (w : List Write). IsRemapped h t m m w (Ok 0) (advised h t at' len' advice')) (sym none)
    (madvise_made h t m m has at len advice at' len' advice' at_is len_is advice_is [] (drops_none at len advice drops) is has (λ a. refl))
