-- Calls that change pages: what the page map holds after them, which writes they tell, and when they are refused.
use Rattle.sys_calls.proofs.Common.{◌≡◌, ℕ, ◌+◌, ◌-◌, ◌/◌, ◌<◌, ◌≤◌, ◌&&◌, inl, inr, Bool, true, false, not, cond, eqb, leb, ltb, List, [], ◌∷◌, Option, Some, None, is_some, Result, Ok, Err, refl, sym, ap, subst, ◌∙◌, arith, option_map, and_parts, cases_lt, false≢true, le-leb, lt-ltb, ne_eqb, written, EINVAL, Errno, Here, IsRemapped, Write, PageRun, Pages, is_in, permission_of, run, zeros_of, break_run, permission_for, Map, break_in, break_start_in, free_in, held_in, permission_in, CallDone, argument, call_number, refused, said, mmap, zeros_if_mapped, HasPages, HoldsPages, cond-false, cond-true, eqb-true, IsErr, IsErrAnd, leb-true, ltb-false, ltb-true, MOST_PROT, mapped_count, pages_of, run_over, answer_unless, free_past, mapped_at, may_move_break, mmap_answer, mprotect_refusal, munmap_refusal, protected, unmapped, zeros_of-at, code_in, held_over, paged, are_mapping_flags, changed_unless, mapped_or_refused, may_break, permission_here, taken_by, unless_refused}
use Rattle.page_map.proofs.Laws.{IsProtectable, protectable}

-- an error that `?` hands on
pub passed_on : (x : Result ℕ Errno) (e : Errno) → IsErr x × IsErrAnd x (λ (d : Errno). d ≡ e) → x ≡ Err e
passed_on (Ok n) e both = let is = both.0 in absurd (false≢true is)
passed_on (Err d) e both = ap Err both.1

-- the permissions of all pages
pub permissions_are : (h : Here) (m : Map) → HasPages h m → permission_in m ≡ permission_here h
permissions_are h m has = λ i n. has.permissions n i

none_of : (o : Option ℕ) → is_some o ≡ false → o ≡ None
none_of None e = refl
none_of (Some x) e = cc

-- writes that put zeros on the pages of a run that is mapped, and no other byte
pub record IsZeroed (r : PageRun) (ws : List Write) (byte : ℕ → ℕ) : Type 0 where
  pub inside : (a : ℕ) → is_in r (a / 4096) ≡ true → option_map (λ (x : ℕ). 0) r.permission ≡ option_map (λ (x : ℕ). written ws a (byte a)) r.permission
  pub outside : (a : ℕ) → is_in r (a / 4096) ≡ false → written ws a (byte a) ≡ byte a

pub zeroed_none : (r : PageRun) (byte : ℕ → ℕ) → r.permission ≡ None → IsZeroed r [] byte
zeroed_none r byte none = record { inside = λ a here. rw none refl; outside = λ a there. refl }

pub is_inside : (r : PageRun) (n : ℕ) → is_in r n ≡ true → (r.first ≤ n) × (n < r.first + r.count)
is_inside r n is =
    let both = and_parts (leb r.first n) (ltb n (r.first + r.count)) is in
    (leb-true r.first n both.0, ltb-true n (r.first + r.count) both.1)

zeroed_empty : (r : PageRun) (byte : ℕ → ℕ) → r.count ≡ 0 → IsZeroed r [] byte
zeroed_empty r byte none = record {
  inside = λ a here. let both = is_inside r (a / 4096) here in let low = both.0 in let high = both.1 in absurd (omega (arith, none, low, high));
  outside = λ a there. refl;
}

pub zeroed_run : (r : PageRun) (byte : ℕ → ℕ) → IsZeroed r (zeros_of r ∷ []) byte
zeroed_run r byte = record {
  inside = λ a here.
      let zero_there : written (zeros_of r ∷ []) a (byte a) ≡ 0 = zeros_of-at r a (byte a) ∙ cond-true (is_in r (a / 4096)) 0 (byte a) here in
      ap (λ (v : ℕ). option_map (λ (x : ℕ). v) r.permission) (sym zero_there);
  outside = λ a there. zeros_of-at r a (byte a) ∙ cond-false (is_in r (a / 4096)) 0 (byte a) there;
}

zeroed_by : (r : PageRun) (byte : ℕ → ℕ) (b c : Bool) → is_some r.permission ≡ b → eqb r.count 0 ≡ c
    → IsZeroed r (cond (b && not c) (zeros_of r ∷ []) []) byte
zeroed_by r byte false c none count = zeroed_none r byte (none_of r.permission none)
zeroed_by r byte true true some none = zeroed_empty r byte (eqb-true r.count 0 none)
zeroed_by r byte true false some count = zeroed_run r byte

pub zeroed_mapped : (r : PageRun) (byte : ℕ → ℕ) → IsZeroed r (zeros_if_mapped r) byte
zeroed_mapped r byte = zeroed_by r byte (is_some r.permission) (eqb r.count 0) refl refl

held_by : (b : Bool) (r : PageRun) (o held : Option ℕ) (new old : ℕ)
    → (b ≡ true → option_map (λ (x : ℕ). 0) r.permission ≡ option_map (λ (x : ℕ). new) r.permission) → (b ≡ false → new ≡ old)
    → held ≡ option_map (λ (x : ℕ). old) o
    → cond b (option_map (λ (x : ℕ). 0) r.permission) held ≡ option_map (λ (x : ℕ). new) (cond b r.permission o)
held_by true r o held new old inside outside is = inside refl
held_by false r o held new old inside outside is = is ∙ ap (λ (v : ℕ). option_map (λ (x : ℕ). v) o) (sym (outside refl))

-- a run of pages was mapped, all zero, or removed
pub holds_over : (p : Pages) (lowest : ℕ) (byte : ℕ → ℕ) (m m' : Map) (r : PageRun) (free break_at : ℕ) (ws : List Write)
    → HoldsPages p lowest byte m → IsZeroed r ws byte
    → ((n : ℕ) → permission_in m' n ≡ run_over r (permission_in m) n)
    → ((a : ℕ) → held_in m' a ≡ held_over r (held_in m) a)
    → free_in m' ≡ free → break_in m' ≡ break_at → break_start_in m' ≡ break_start_in m
    → HoldsPages (record { runs = r ∷ p.runs; free = free; break_at = break_at }) lowest (λ a. written ws a (byte a)) m'
holds_over p lowest byte m m' r free break_at ws has zeroed permissions held frees breaks starts = record {
  permissions = λ n. permissions n ∙ ap (λ (o : Option ℕ). cond (is_in r n) r.permission o) (has.permissions n);
  held = λ a. held a ∙ held_by (is_in r (a / 4096)) r (permission_of p.runs (a / 4096)) (held_in m a) (written ws a (byte a)) (byte a) (zeroed.inside a) (zeroed.outside a) (has.held a);
  free = frees;
  break_at = breaks;
  break_start = starts ∙ has.break_start;
}

-- the call answers, writes, and leaves these pages
pub remapped : (h : Here) (t : ℕ) (m m' : Map) (n : ℕ) (ws : List Write) (pages : Pages)
    → HoldsPages pages h.setting.program.break_at (λ a. written ws a (h.byte a)) m' → ((a : ℕ) → code_in m' a ≡ code_in m a)
    → IsRemapped h t m m' ws (Ok n) (record (said h t n) { entered = ws; kernel = paged pages h.kernel })
remapped h t m m' n ws pages holds code = record { pages = holds; code = code; told = refl; kernel = refl; at_once = refl; goes_on = refl; files = refl }

-- the call is refused
pub remapped_refused : (h : Here) (t : ℕ) (m m' : Map) (e : Errno) → HasPages h m → m' ≡ m → IsRemapped h t m m' [] (Err e) (refused h t e)
remapped_refused h t m m' e has same =
    subst (λ (n : Map). IsRemapped h t m n [] (Err e) (refused h t e)) (sym same)
    (record { pages = has; code = λ a. refl; told = refl; kernel = refl; at_once = refl; goes_on = refl; files = refl })

-- a call that has no other answer than 0
pub refusal_is : (o : Option Errno) (e : Errno) → Err e ≡ answer_unless o → o ≡ Some e
refusal_is None e is = cc
refusal_is (Some d) e is = cc

pub no_refusal : (o : Option Errno) (u : Unit {0}) → Ok u ≡ answer_unless o → o ≡ None
no_refusal None u is = refl
no_refusal (Some d) u is = cc

changed_refused : (h : Here) (t : ℕ) (m m' : Map) (o : Option Errno) (e : Errno) (pages : Pages) → HasPages h m → o ≡ Some e → m' ≡ m
    → IsRemapped h t m m' [] (Err e) (changed_unless h t o pages)
changed_refused h t m m' o e pages has is same =
    subst (λ (x : Option Errno). IsRemapped h t m m' [] (Err e) (changed_unless h t x pages)) (sym is) (remapped_refused h t m m' e has same)

changed_made : (h : Here) (t : ℕ) (m m' : Map) (o : Option Errno) (pages : Pages) → o ≡ None
    → HoldsPages pages h.setting.program.break_at h.byte m' → ((a : ℕ) → code_in m' a ≡ code_in m a)
    → IsRemapped h t m m' [] (Ok 0) (changed_unless h t o pages)
changed_made h t m m' o pages is holds code =
    subst (λ (x : Option Errno). IsRemapped h t m m' [] (Ok 0) (changed_unless h t x pages)) (sym is) (remapped h t m m' 0 [] pages holds code)

-- munmap(2)
abbrev munmap_at : Here → ℕ → ℕ → ℕ → CallDone
munmap_at h t at len = changed_unless h t (munmap_refusal (permission_here h) at len) (unmapped at len h.kernel.pages)

module _ (h : Here) (t : ℕ) (m m' : Map) (has : HasPages h m) (at len at' len' : ℕ) (at_is : at ≡ at') (len_is : len ≡ len') where
  pub munmap_made : (u : Unit {0}) → Ok u ≡ answer_unless (munmap_refusal (permission_in m) at len)
      → ((n : ℕ) → permission_in m' n ≡ run_over (run (at / 4096) (pages_of len) None) (permission_in m) n)
      → ((a : ℕ) → held_in m' a ≡ held_over (run (at / 4096) (pages_of len) None) (held_in m) a)
      → free_in m' ≡ free_in m + mapped_count (permission_in m) (at / 4096) (pages_of len)
      → break_in m' ≡ break_in m → break_start_in m' ≡ break_start_in m → ((a : ℕ) → code_in m' a ≡ code_in m a)
      → IsRemapped h t m m' [] (Ok 0) (munmap_at h t at' len')
  munmap_made u is permissions held frees breaks starts code =
      let r = run (at / 4096) (pages_of len) None in
      let p = h.kernel.pages in
      let free_is : free_in m + mapped_count (permission_in m) (at / 4096) (pages_of len) ≡ p.free + mapped_count (permission_of p.runs) (at / 4096) (pages_of len) =
      (λ i. has.free i + mapped_count (permissions_are h m has i) (at / 4096) (pages_of len)) in
      subst (λ (d : CallDone). IsRemapped h t m m' [] (Ok 0) d) (λ i. munmap_at h t (at_is i) (len_is i))
      (changed_made h t m m' (munmap_refusal (permission_here h) at len) (unmapped at len p)
      (ap (λ (p : ℕ → Option ℕ). munmap_refusal p at len) (sym (permissions_are h m has)) ∙ no_refusal (munmap_refusal (permission_in m) at len) u is)
      (holds_over p h.setting.program.break_at h.byte m m' r (p.free + mapped_count (permission_of p.runs) (at / 4096) (pages_of len)) p.break_at [] has (zeroed_none r h.byte refl)
      permissions held (frees ∙ free_is) (breaks ∙ has.break_at) starts)
      code)

-- mprotect(2)
abbrev mprotect_at : Here → ℕ → ℕ → ℕ → ℕ → CallDone
mprotect_at h t at len prot = changed_unless h t (mprotect_refusal (permission_here h) at len prot) (protected at len prot h.kernel.pages)

-- a prot above those that a call takes is refused as any other of them
pub record IsProtOf (perm prot : ℕ) : Type 0 where
  pub same : prot ≤ 7 → perm ≡ prot
  pub above : 7 < prot → 7 < perm

pub refused_alike : (permission : ℕ → Option ℕ) (at len perm prot : ℕ) → IsProtOf perm prot
    → mprotect_refusal permission at len perm ≡ mprotect_refusal permission at len prot
refused_alike permission at len perm prot is = elim (cases_lt 7 prot) [
  | inl high ↦ rw (lt-ltb 7 perm (is.above high), lt-ltb 7 prot high) refl
  | inr low ↦ ap (mprotect_refusal permission at len) (is.same low)
]

given_by : (b : Bool) (x y : ℕ) (o o' : Option ℕ) → (b ≡ true → x ≡ y) → o ≡ o' → cond b (Some x) o ≡ cond b (Some y) o'
given_by true x y o o' same is = ap Some (same refl)
given_by false x y o o' same is = is

kept_by : (b : Bool) (o : Option ℕ) (given v : ℕ) → (b ≡ true → is_some o ≡ true)
    → option_map (λ (x : ℕ). v) o ≡ option_map (λ (x : ℕ). v) (cond b (Some given) o)
kept_by true None given v mapped = absurd (false≢true (mapped refl))
kept_by true (Some x) given v mapped = refl
kept_by false o given v mapped = refl

module _ (h : Here) (t : ℕ) (m m' : Map) (has : HasPages h m) (at len perm at' len' prot : ℕ) (at_is : at ≡ at') (len_is : len ≡ len')
    (prot_is : IsProtOf perm prot)
  where
    protect_refusal_is : (o : Option Errno) → mprotect_refusal (permission_in m) at len perm ≡ o → mprotect_refusal (permission_here h) at len prot ≡ o
    protect_refusal_is o is =
        ap (λ (p : ℕ → Option ℕ). mprotect_refusal p at len prot) (sym (permissions_are h m has))
        ∙ sym (refused_alike (permission_in m) at len perm prot prot_is) ∙ is

    pub mprotect_refused : (e : Errno) → Err e ≡ answer_unless (mprotect_refusal (permission_in m) at len perm) → m' ≡ m
        → IsRemapped h t m m' [] (Err e) (mprotect_at h t at' len' prot)
    mprotect_refused e is same =
        subst (λ (d : CallDone). IsRemapped h t m m' [] (Err e) d) (λ i. mprotect_at h t (at_is i) (len_is i) prot)
        (changed_refused h t m m' (mprotect_refusal (permission_here h) at len prot) e (protected at len prot h.kernel.pages) has
        (protect_refusal_is (Some e) (refusal_is (mprotect_refusal (permission_in m) at len perm) e is)) same)

    protectable_here : mprotect_refusal (permission_here h) at len prot ≡ None → (n : ℕ)
        → is_in (run (at / 4096) (pages_of len) None) n ≡ true → IsProtectable (permission_here h) prot (at / 4096) (pages_of len) n
    protectable_here free n here =
        let both = is_inside (run (at / 4096) (pages_of len) None) n here in
        protectable (permission_here h) at len prot n free both.0 both.1

    pub mprotect_made : (u : Unit {0}) → Ok u ≡ answer_unless (mprotect_refusal (permission_in m) at len perm)
        → ((n : ℕ) → permission_in m' n ≡ run_over (run (at / 4096) (pages_of len) (Some (permission_for perm))) (permission_in m) n)
        → ((a : ℕ) → held_in m' a ≡ held_in m a) → free_in m' ≡ free_in m
        → break_in m' ≡ break_in m → break_start_in m' ≡ break_start_in m → ((a : ℕ) → code_in m' a ≡ code_in m a)
        → IsRemapped h t m m' [] (Ok 0) (mprotect_at h t at' len' prot)
    mprotect_made u is permissions held frees breaks starts code =
        let r = run (at / 4096) (pages_of len) None in
        let free = protect_refusal_is None (no_refusal (mprotect_refusal (permission_in m) at len perm) u is) in
        subst (λ (d : CallDone). IsRemapped h t m m' [] (Ok 0) d) (λ i. mprotect_at h t (at_is i) (len_is i) prot)
        (changed_made h t m m' (mprotect_refusal (permission_here h) at len prot) (protected at len prot h.kernel.pages) free
        (record {
          permissions = λ n.
              permissions n
              ∙ given_by (is_in r n) (permission_for perm) (permission_for prot) (permission_in m n) (permission_of h.kernel.pages.runs n)
              (λ here. let page = protectable_here free n here in ap permission_for (prot_is.same page.taken)) (has.permissions n);
          held = λ a.
              held a ∙ has.held a
              ∙ kept_by (is_in r (a / 4096)) (permission_of h.kernel.pages.runs (a / 4096)) (permission_for prot) (h.byte a)
              (λ here. let page = protectable_here free (a / 4096) here in page.mapped);
          free = frees ∙ has.free;
          break_at = breaks ∙ has.break_at;
          break_start = starts ∙ has.break_start;
        })
        code)

-- mmap(2)
abbrev mmap_at : Here → ℕ → ℕ → ℕ → CallDone
mmap_at h t len prot = mapped_or_refused h t len prot (mmap_answer (permission_here h) h.kernel.pages.free len prot)

answered_alike : (permission : ℕ → Option ℕ) (free len perm prot : ℕ) → IsProtOf perm prot
    → mmap_answer permission free len perm ≡ mmap_answer permission free len prot
answered_alike permission free len perm prot is = elim (cases_lt 7 prot) [
  | inl high ↦ rw (lt-ltb 7 perm (is.above high), lt-ltb 7 prot high) refl
  | inr low ↦ ap (mmap_answer permission free len) (is.same low)
]

not_error : (b : Bool) (e : Errno) (x : Result ℕ Errno) (at : ℕ) → cond b (Err e) x ≡ Ok at → (b ≡ false) × (x ≡ Ok at)
not_error true e x at is = cc
not_error false e x at is = (refl, is)

taken_prot : (permission : ℕ → Option ℕ) (free len prot at : ℕ) → mmap_answer permission free len prot ≡ Ok at → prot ≤ 7
taken_prot permission free len prot at is =
    let one = not_error (eqb len 0) EINVAL _ at is in
    let two = not_error (ltb MOST_PROT prot) EINVAL _ at one.1 in
    ltb-false MOST_PROT prot two.0

module _ (h : Here) (t : ℕ) (m m' : Map) (has : HasPages h m) (len perm len' prot : ℕ) (len_is : len ≡ len') (prot_is : IsProtOf perm prot) where
  answer_is : mmap_answer (permission_here h) h.kernel.pages.free len prot ≡ mmap_answer (permission_in m) (free_in m) len perm
  answer_is =
      sym (answered_alike (permission_in m) (free_in m) len perm prot prot_is
      ∙ (λ i. mmap_answer (permissions_are h m has i) (has.free i) len prot))

  pub mmap_refused : (e : Errno) (ws : List Write) → ws ≡ [] → Err e ≡ mmap_answer (permission_in m) (free_in m) len perm → m' ≡ m
      → IsRemapped h t m m' ws (Err e) (mmap_at h t len' prot)
  mmap_refused e ws none is same =
      subst (λ (d : CallDone). IsRemapped h t m m' ws (Err e) d) (λ i. mmap_at h t (len_is i) prot)
      (subst (λ (x : Result ℕ Errno). IsRemapped h t m m' ws (Err e) (mapped_or_refused h t len prot x)) (is ∙ sym answer_is)
      (subst (λ (w : List Write). IsRemapped h t m m' w (Err e) (refused h t e)) (sym none) (remapped_refused h t m m' e has same)))

  pub mmap_made : (at : ℕ) (ws : List Write) → Ok at ≡ mmap_answer (permission_in m) (free_in m) len perm
      → ws ≡ zeros_of (run (at / 4096) (pages_of len) None) ∷ []
      → ((n : ℕ) → permission_in m' n ≡ run_over (run (at / 4096) (pages_of len) (Some (permission_for perm))) (permission_in m) n)
      → ((a : ℕ) → held_in m' a ≡ held_over (run (at / 4096) (pages_of len) (Some (permission_for perm))) (held_in m) a)
      → free_in m' ≡ free_in m - pages_of len
      → break_in m' ≡ break_in m → break_start_in m' ≡ break_start_in m → ((a : ℕ) → code_in m' a ≡ code_in m a)
      → IsRemapped h t m m' ws (Ok at) (mmap_at h t len' prot)
  mmap_made at ws is told permissions held frees breaks starts code =
      let r = run (at / 4096) (pages_of len) (Some (permission_for prot)) in
      let p = h.kernel.pages in
      let taken = taken_prot (permission_here h) h.kernel.pages.free len prot at (answer_is ∙ sym is) in
      let same = prot_is.same taken in
      subst (λ (d : CallDone). IsRemapped h t m m' ws (Ok at) d) (λ i. mmap_at h t (len_is i) prot)
      (subst (λ (x : Result ℕ Errno). IsRemapped h t m m' ws (Ok at) (mapped_or_refused h t len prot x)) (is ∙ sym answer_is)
      (subst (λ (w : List Write). IsRemapped h t m m' w (Ok at) (mapped_or_refused h t len prot (Ok at))) (sym told)
      (remapped h t m m' at (zeros_of r ∷ []) (mapped_at at len prot p)
      (holds_over p h.setting.program.break_at h.byte m m' r (p.free - pages_of len) p.break_at (zeros_of r ∷ []) has (zeroed_run r h.byte)
      (λ n. permissions n ∙ (λ i. run_over (run (at / 4096) (pages_of len) (Some (permission_for (same i)))) (permission_in m) n))
      (λ a. held a ∙ (λ i. held_over (run (at / 4096) (pages_of len) (Some (permission_for (same i)))) (held_in m) a))
      (frees ∙ ap (λ (f : ℕ). f - pages_of len) has.free) (breaks ∙ has.break_at) starts)
      code)))

-- brk(2)
abbrev moved_to : Here → ℕ → Pages
moved_to h at =
    record { runs = break_run h.kernel.pages.break_at at ∷ h.kernel.pages.runs; free = free_past (permission_here h) h.kernel.pages.free h.kernel.pages.break_at at; break_at = at }

abbrev brk_by : Here → ℕ → ℕ → Bool → CallDone
brk_by h t at may =
    let pages = cond may (moved_to h at) h.kernel.pages in
    record (said h t pages.break_at) {
      entered = cond may (zeros_if_mapped (break_run h.kernel.pages.break_at at)) [];
      kernel = paged pages h.kernel;
    }

abbrev brk_at : Here → ℕ → ℕ → CallDone
brk_at h t at = brk_by h t at (may_break h at)

-- a break that stays maps nothing
same_break : (b : ℕ) → zeros_if_mapped (break_run b b) ≡ []
same_break b =
    let none : pages_of b - pages_of b ≡ 0 = omega arith in
    rw (le-leb b b (omega arith), none) refl

module _ (h : Here) (t : ℕ) (m m' : Map) (has : HasPages h m) (at at' : ℕ) (at_is : at ≡ at') (result : ℕ) (ws : List Write)
    (answer : result ≡ break_in m') (told : ws ≡ zeros_if_mapped (break_run (break_in m) result))
    (code : (a : ℕ) → code_in m' a ≡ code_in m a)
  where
    may_is : may_move_break (break_start_in m) (free_in m) (break_in m) at ≡ may_break h at
    may_is = λ i. may_move_break (has.break_start i) (has.free i) (has.break_at i) at

    pub brk_stays : may_move_break (break_start_in m) (free_in m) (break_in m) at ≡ false → m' ≡ m → IsRemapped h t m m' ws (Ok result) (brk_at h t at')
    brk_stays may same =
        let stays : result ≡ h.kernel.pages.break_at = answer ∙ ap break_in same ∙ has.break_at in
        let none : ws ≡ [] = told ∙ (λ i. zeros_if_mapped (break_run (has.break_at i) (stays i))) ∙ same_break h.kernel.pages.break_at in
        subst (λ (d : CallDone). IsRemapped h t m m' ws (Ok result) d) (λ i. brk_at h t (at_is i))
        (subst (λ (b : Bool). IsRemapped h t m m' ws (Ok result) (brk_by h t at b)) (sym may ∙ may_is)
        (subst (λ (w : List Write). IsRemapped h t m m' w (Ok result) (brk_by h t at false)) (sym none)
        (subst (λ (n : ℕ). IsRemapped h t m m' [] (Ok n) (brk_by h t at false)) (sym stays)
        (remapped h t m m' h.kernel.pages.break_at [] h.kernel.pages (subst (λ (n : Map). HasPages h n) (sym same) has) code))))

    pub brk_moves : may_move_break (break_start_in m) (free_in m) (break_in m) at ≡ true → break_in m' ≡ at
        → ((n : ℕ) → permission_in m' n ≡ run_over (break_run (break_in m) at) (permission_in m) n)
        → ((a : ℕ) → held_in m' a ≡ held_over (break_run (break_in m) at) (held_in m) a)
        → free_in m' ≡ free_past (permission_in m) (free_in m) (break_in m) at
        → break_start_in m' ≡ break_start_in m
        → IsRemapped h t m m' ws (Ok result) (brk_at h t at')
    brk_moves may moved permissions held frees starts =
        let p = h.kernel.pages in
        let r = break_run p.break_at at in
        let moves : result ≡ at = answer ∙ moved in
        let zeros : ws ≡ zeros_if_mapped r = told ∙ (λ i. zeros_if_mapped (break_run (has.break_at i) (moves i))) in
        subst (λ (d : CallDone). IsRemapped h t m m' ws (Ok result) d) (λ i. brk_at h t (at_is i))
        (subst (λ (b : Bool). IsRemapped h t m m' ws (Ok result) (brk_by h t at b)) (sym may ∙ may_is)
        (subst (λ (w : List Write). IsRemapped h t m m' w (Ok result) (brk_by h t at true)) (sym zeros)
        (subst (λ (n : ℕ). IsRemapped h t m m' (zeros_if_mapped r) (Ok n) (brk_by h t at true)) (sym moves)
        (remapped h t m m' at (zeros_if_mapped r) (moved_to h at)
        (holds_over p h.setting.program.break_at h.byte m m' r (free_past (permission_here h) p.free p.break_at at) at (zeros_if_mapped r) has (zeroed_mapped r h.byte)
        (λ n. permissions n ∙ (λ i. run_over (break_run (has.break_at i) at) (permission_in m) n))
        (λ a. held a ∙ (λ i. held_over (break_run (has.break_at i) at) (held_in m) a))
        (frees ∙ (λ i. free_past (permissions_are h m has i) (has.free i) (has.break_at i) at)) moved starts)
        code))))

    -- whether it may move or not
    pub brk_remapped : break_in m' ≡ cond (may_move_break (break_start_in m) (free_in m) (break_in m) at) at (break_in m)
        → (may_move_break (break_start_in m) (free_in m) (break_in m) at ≡ false → m' ≡ m)
        → (may_move_break (break_start_in m) (free_in m) (break_in m) at ≡ true
        → (n : ℕ) → permission_in m' n ≡ run_over (break_run (break_in m) at) (permission_in m) n)
        → (may_move_break (break_start_in m) (free_in m) (break_in m) at ≡ true
        → (a : ℕ) → held_in m' a ≡ held_over (break_run (break_in m) at) (held_in m) a)
        → (may_move_break (break_start_in m) (free_in m) (break_in m) at ≡ true → free_in m' ≡ free_past (permission_in m) (free_in m) (break_in m) at)
        → break_start_in m' ≡ break_start_in m
        → IsRemapped h t m m' ws (Ok result) (brk_at h t at')
    brk_remapped breaks refused permissions held frees starts =
        by (may_move_break (break_start_in m) (free_in m) (break_in m) at) refl
      where
        by : (b : Bool) → may_move_break (break_start_in m) (free_in m) (break_in m) at ≡ b → IsRemapped h t m m' ws (Ok result) (brk_at h t at')
        by false may = brk_stays may (refused may)
        by true may =
            brk_moves may (breaks ∙ cond-true (may_move_break (break_start_in m) (free_in m) (break_in m) at) at (break_in m) may)
            (permissions may) (held may) (frees may) starts

-- the prot of an argument
pub prot_from : (perm prot prot' : ℕ) → prot ≡ prot' → (prot ≤ 7 → perm ≡ prot) → (7 < prot → 7 < perm) → IsProtOf perm prot'
prot_from perm prot prot' is same above = subst (IsProtOf perm) is (record { same = same; above = above })

-- mmap asks for its flags first
pub mmap_past_flags : (h : Here) (t : ℕ) (m m' : Map) (ws : List Write) (answer : Result ℕ Errno) (flags : ℕ) → flags ≡ argument h t 3
    → are_mapping_flags flags ≡ true → IsRemapped h t m m' ws answer (mmap_at h t (argument h t 1) (argument h t 2))
    → IsRemapped h t m m' ws answer (mmap h t)
mmap_past_flags h t m m' ws answer flags is may remapped_so =
    let taken : not (are_mapping_flags (argument h t 3)) ≡ false = ap (λ (f : ℕ). not (are_mapping_flags f)) (sym is) ∙ ap not may in
    subst (λ (d : CallDone). IsRemapped h t m m' ws answer d) (sym (cond-false (not (are_mapping_flags (argument h t 3))) _ _ taken)) remapped_so

-- a break that grows over a page tells its zeros
grown_run : (old new : ℕ) → old ≤ new → pages_of old < pages_of new
    → zeros_if_mapped (break_run old new) ≡ zeros_of (run (pages_of old) (pages_of new - pages_of old) (Some 6)) ∷ []
grown_run old new up more =
    rw (le-leb old new up, ne_eqb (pages_of new - pages_of old) 0 (λ none. omega (arith, none))) refl

pub zeros_grown : (old new first end : ℕ) → first ≡ pages_of old → end ≡ pages_of new → first < end → (ws : List Write)
    → ws ≡ zeros_of (run first (end - first) (Some 6)) ∷ [] → ws ≡ zeros_if_mapped (break_run old new)
zeros_grown old new first end first_is end_is more ws is =
    is ∙ (λ i. zeros_of (run (first_is i) (end_is i - first_is i) (Some 6)) ∷ [])
    ∙ sym (grown_run old new (omega (arith, first_is, end_is)) (omega (arith, first_is, end_is)))

-- the pages that munmap takes
pub taken_unmapping : (h : Here) (t : ℕ) (m : Map) → HasPages h m → (at len : ℕ) → at ≡ argument h t 0 → len ≡ argument h t 1
    → (o : Option Errno) → o ≡ munmap_refusal (permission_in m) at len → call_number h t ≡ 215
    → unless_refused o (run (at / 4096) (pages_of len) None) ≡ taken_by (call_number h t) h t
taken_unmapping h t m has at len at_is len_is o is number =
    let refusal : o ≡ munmap_refusal (permission_here h) (argument h t 0) (argument h t 1) =
    is ∙ (λ i. munmap_refusal (permissions_are h m has i) (at_is i) (len_is i)) in
    (λ i. unless_refused (refusal i) (run (at_is i / 4096) (pages_of (len_is i)) None)) ∙ sym (ap (λ (n : ℕ). taken_by n h t) number)

-- the pages that mprotect takes
pub taken_protecting : (h : Here) (t : ℕ) (m : Map) → HasPages h m → (at len perm : ℕ) → at ≡ argument h t 0 → len ≡ argument h t 1
    → IsProtOf perm (argument h t 2) → (o : Option Errno) → o ≡ mprotect_refusal (permission_in m) at len perm → call_number h t ≡ 226
    → unless_refused o (run (at / 4096) (pages_of len) (Some (permission_for (argument h t 2)))) ≡ taken_by (call_number h t) h t
taken_protecting h t m has at len perm at_is len_is prot_is o is number =
    let refusal : o ≡ mprotect_refusal (permission_here h) (argument h t 0) (argument h t 1) (argument h t 2) =
    is ∙ refused_alike (permission_in m) at len perm (argument h t 2) prot_is
    ∙ (λ i. mprotect_refusal (permissions_are h m has i) (at_is i) (len_is i) (argument h t 2)) in
    (λ i. unless_refused (refusal i) (run (at_is i / 4096) (pages_of (len_is i)) (Some (permission_for (argument h t 2)))))
    ∙ sym (ap (λ (n : ℕ). taken_by n h t) number)
