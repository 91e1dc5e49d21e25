-- brk(2), mmap(2), munmap(2), mprotect(2) and madvise(2): a page that such a call doesn't take can be written after it
-- where it could before.
use Rattle.block_model.proofs.Common.{◌≡◌, ℕ, ◌-◌, ◌/◌, ◌≤◌, inl, inr, List, [], ◌∷◌, refl, sym, subst, arith, Bool, true, false, not, cond, ◌&&◌, eqb, leb, ltb, Option, Some, None, Result, Ok, Err, is_none, is_some, Errno, Here, IsError, MAPPING_START, PAGE_SIZE, PageRun, Pages, USER_END, and_parts, argument, int_argument, can_write, cases_lt, cond_both, each_page-at, false≢true, is_in, is_writable, le-leb, le-ltb, leb-true, lt-ltb, paged, pages_of, permission_of, run, said, taken_by}
use Rattle.mach_types.specs.Kernel.Pages.{zeros_of}
use Rattle.mach_types.specs.Kernel.PageCalls.{break_run, free_past, mapped_at, mmap_answer, mprotect_refusal, munmap_refusal, permission_for, protected, unmapped}
use Rattle.block_model.specs.Calls.Memory.{advice_writes, brk, changed_unless, is_dropping, madvise, madvise_refusal, mapped_or_refused, may_break, mmap, mmap_errors, mprotect, munmap, no_pages, pages_at, permission_here, unless_refused, wrote_unless, zeros_if_mapped}
use Rattle.mach_types.specs.declared.user_memory.Write.{Write}
use Rattle.block_model.proofs.CallEffects.{CallDeed, Answers, Remaps, Same, Says, answers_0, by_errors}
use Rattle.block_model.proofs.Invariants.Calls.Conditions.{StaysWritable}
use Rattle.block_model.proofs.Pages.{IsPaged, paged_brk, paged_mmap, paged_mprotect, paged_munmap, IsPlaced, is_inside, placed}
use Rattle.block_model.proofs.WritableBytes.{AllWritable}

-- an address of a process is no error
address_no_error : (n : ℕ) → n ≤ USER_END → IsError n → ⊥
address_no_error n low error =
    let most = error.most in
    let is = error.is in
    omega arith

-- a call that answers 0 unless it is refused
deed_changed : (here : Here) (t number : ℕ) (o : Option Errno) (r : PageRun) (pages : Pages)
    → taken_by number here t ≡ unless_refused o r
    → StaysWritable here.kernel.pages r pages
    → (o ≡ None → IsPaged here.setting here.kernel.pages → IsPaged here.setting pages)
    → CallDeed here t number (changed_unless here t o pages)
deed_changed here t number (Some e) r pages takes stays paged_after = Says _
deed_changed here t number None r pages takes stays paged_after =
    answers_0 [] _ tt (Remaps pages
    (subst (λ (r : PageRun). StaysWritable here.kernel.pages r pages) (sym takes) stays)
    (paged_after refl))

-- outside a run that lies over them pages have the permissions that they had
over_stays : (r : PageRun) (rs : List PageRun) (n : ℕ) → is_in r n ≡ false
    → can_write (permission_of rs n) ≡ true
    → can_write (permission_of (r ∷ rs) n) ≡ true
over_stays r rs n outside may = rw outside may

pub deed_munmap : (here : Here) (t : ℕ) → CallDeed here t 215 (munmap here t)
deed_munmap here t =
    let p = argument here t 0 in
    let len = argument here t 1 in
    deed_changed here t 215 (munmap_refusal (permission_here here) p len)
    (run (p / PAGE_SIZE) (pages_of len) None) (unmapped p len here.kernel.pages) refl
    (over_stays _ here.kernel.pages.runs) (paged_munmap here.setting here.kernel.pages p len)

pub deed_mprotect : (here : Here) (t : ℕ) → CallDeed here t 226 (mprotect here t)
deed_mprotect here t =
    let p = argument here t 0 in
    let len = argument here t 1 in
    let prot = argument here t 2 in
    deed_changed here t 226 (mprotect_refusal (permission_here here) p len prot)
    (run (p / PAGE_SIZE) (pages_of len) (Some (permission_for prot)))
    (protected p len prot here.kernel.pages) refl
    (over_stays _ here.kernel.pages.runs) (paged_mprotect here.setting here.kernel.pages p len prot)

-- a page in a hole can't be written
hole_writes : (o : Option ℕ) → is_none o ≡ true → can_write o ≡ true → ⊥
hole_writes None none may = false≢true may
hole_writes (Some p) none may = false≢true none

module _ (here : Here) (len prot at : ℕ) (place : IsPlaced (permission_here here) len at) where
  abbrev mapped_run : PageRun
  mapped_run = run (at / PAGE_SIZE) (pages_of len) (Some (permission_for prot))

  begins : at / 4096 ≡ place.first
  begins = let is = place.is in omega arith

  mapped_writes : (n : ℕ) (b : Bool) → is_in mapped_run n ≡ b → can_write (permission_here here n) ≡ true
      → can_write (cond b mapped_run.permission (permission_here here n)) ≡ true
  mapped_writes n false is may = may
  mapped_writes n true is may =
      let inside = is_inside mapped_run n is in
      let low = inside.0 in
      let high = inside.1 in
      absurd (hole_writes (permission_here here n)
      (each_page-at (λ m. is_none (permission_here here m)) place.first (pages_of len) place.hole n
      (omega (arith, begins)) (omega (arith, begins))) may)

  mapped_stays : StaysWritable here.kernel.pages no_pages (mapped_at at len prot here.kernel.pages)
  mapped_stays n outside may = mapped_writes n (is_in mapped_run n) refl may

deed_mapped : (here : Here) (t len prot : ℕ) (x : Result ℕ Errno)
    → x ≡ mmap_answer (permission_here here) here.kernel.pages.free len prot
    → CallDeed here t 222 (mapped_or_refused here t len prot x)
deed_mapped here t len prot (Err e) is = Says _
deed_mapped here t len prot (Ok a) is =
    let place = placed (permission_here here) here.kernel.pages.free len prot a (sym is) in
    let high = place.high in
    let at = place.is in
    Answers a _ _ (λ _. address_no_error a (omega arith)) (tt, tt)
    (Remaps (mapped_at a len prot here.kernel.pages) (mapped_stays here len prot a place)
    (paged_mmap here.setting here.kernel.pages len prot a (sym is)))

pub deed_mmap : (here : Here) (t : ℕ) → CallDeed here t 222 (mmap here t)
deed_mmap here t = by_errors (mmap_errors here t) _
    (λ _. deed_mapped here t (argument here t 1) (argument here t 2) _ refl)

-- brk(2): where the break grows, pages are mapped that can be written
grown_stays : (r : PageRun) (rs : List PageRun) (b : Bool) (n : ℕ) → is_in r n ≡ b → r.permission ≡ Some 6
    → can_write (permission_of rs n) ≡ true → can_write (permission_of (r ∷ rs) n) ≡ true
grown_stays r rs true n is six may = rw (is, six) refl
grown_stays r rs false n is six may = rw is may

module _ (here : Here) (p : ℕ) where
  abbrev old : Pages
  old = here.kernel.pages

  abbrev moved : Pages
  moved = record {
    runs = break_run old.break_at p ∷ old.runs;
    free =
        free_past (permission_of old.runs) old.free old.break_at p;
    break_at = p;
  }

  grows : old.break_at ≤ p → (break_run old.break_at p).permission ≡ Some 6
  grows up = rw (le-leb old.break_at p up) refl

  moved_stays : StaysWritable old (cond (ltb p old.break_at) (break_run old.break_at p) no_pages) moved
  moved_stays = elim (cases_lt p old.break_at) [
    | inl down ↦ rw (lt-ltb p old.break_at down) (over_stays (break_run old.break_at p) old.runs)
    | inr up ↦
        rw (le-ltb p old.break_at up)
        (λ n outside may. grown_stays (break_run old.break_at p) old.runs
        (is_in (break_run old.break_at p) n) n refl (grows up) may)
  ]

-- madvise(2) leaves the pages, and writes zeros or nothing
deed_wrote : (here : Here) (t number : ℕ) (o : Option Errno) (ws : List Write) → AllWritable (is_writable here) ws
    → CallDeed here t number (wrote_unless here t o ws)
deed_wrote here t number (Some e) ws writable = Says _
deed_wrote here t number None ws writable = answers_0 ws here.kernel writable Same

advice_writable : (here : Here) (at len advice : ℕ) → AllWritable (is_writable here) (advice_writes at len advice)
advice_writable here at len advice =
    cond_both (is_dropping advice && not (eqb len 0)) (zeros_of (pages_at at len) ∷ []) [] (AllWritable (is_writable here)) (λ dropped. (tt, tt)) (λ none. tt)

pub deed_madvise : (here : Here) (t number : ℕ) → CallDeed here t number (madvise here t)
deed_madvise here t number =
    let p = argument here t 0 in
    let len = argument here t 1 in
    let advice = int_argument here t 2 in
    deed_wrote here t number (madvise_refusal (permission_here here) here.setting.program.break_at p len advice) (advice_writes p len advice)
    (advice_writable here p len advice)

-- a page that comes to be is zeroed, and nothing is stored
zeros_writable : (here : Here) (r : PageRun) → AllWritable (is_writable here) (zeros_if_mapped r)
zeros_writable here r =
    cond_both (is_some r.permission && not (eqb r.count 0)) (zeros_of r ∷ []) [] (AllWritable (is_writable here)) (λ mapped. (tt, tt)) (λ none. tt)

deed_moved : (here : Here) (t : ℕ) (b : Bool) → may_break here (argument here t 0) ≡ b
    → CallDeed here t 214
    (record (said here t (cond b (moved here (argument here t 0)) here.kernel.pages).break_at) {
      entered = cond b (zeros_if_mapped (break_run here.kernel.pages.break_at (argument here t 0))) [];
      kernel = paged (cond b (moved here (argument here t 0)) here.kernel.pages) here.kernel;
    })
deed_moved here t false may = Says _
deed_moved here t true may =
    let p = argument here t 0 in
    let lowest = here.setting.program.break_at in
    let k = here.kernel.pages in
    let within = (and_parts (leb lowest p) (leb p MAPPING_START)
    (and_parts (leb lowest p && leb p MAPPING_START)
    (leb (pages_of p - pages_of k.break_at) k.free) may).0).1 in
    let low = leb-true p MAPPING_START within in
    Answers p _ _ (λ _. address_no_error p (omega arith)) (zeros_writable here (break_run k.break_at p)) (Remaps (moved here p)
    (subst (λ b. StaysWritable k (cond (b && ltb p k.break_at) (break_run k.break_at p) no_pages)
    (moved here p)) (sym may) (moved_stays here p))
    (λ is. subst (λ b. IsPaged here.setting (cond b (moved here p) k)) may (paged_brk here.setting k is p)))

pub deed_brk : (here : Here) (t : ℕ) → CallDeed here t 214 (brk here t)
deed_brk here t = deed_moved here t (may_break here (argument here t 0)) refl
