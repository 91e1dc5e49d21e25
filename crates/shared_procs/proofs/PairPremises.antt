-- What holds at each place of a pair run of two images: no page lies in the gap and no thread has an area; so
-- what one process writes to the segment lies in it.
use Rattle.elf_load.specs.Start.{start_runs}
use Rattle.block_model.specs.Layouts.{IsLaidOut}
use Rattle.block_model.proofs.Laws.{IsPaged, loaded_is_laid_out, no_area_after, none_in_gap, paged_start}
use Rattle.shared_procs.proofs.Common.{◌≡◌, Bool, true, false, not, [], ◌∷◌, refl, sym, ap, ◌∙◌, subst, arith, all_stored, AreOfImages, choice_of, closing, Done, done_of, half, here_two, IsPairRunHistory, Kernel, neighbour, own_choice, pair_after, pair_start, PairEvent, PairHistory, PairSetting, permission_of, Program, setting}
use Rattle.shared_procs.proofs.Halves.{each_half}
use Rattle.shared_procs.proofs.HartsApart.{event_of}
use Rattle.shared_procs.proofs.InsideWrites.{AreInside, closing_inside, done_inside, inside_both}
use Rattle.shared_procs.proofs.OthersEvents.{made}
use Rattle.shared_procs.proofs.PairEvents.{IsClear}
use Rattle.shared_procs.proofs.Settled.{settled, standing_of}

-- NO AREA, AND NO PAGE BESIDE THE SEGMENT

-- what an event keeps of its process's record holds of both at each place
module _ (s : PairSetting) (P : Bool → Kernel → Type 0) (start : (q : Bool) → P q (half q (pair_start s)).kernel)
    (keeps : (e : PairEvent) (before : PairHistory) → IsPairRunHistory s (e ∷ before) → P e.process (half e.process (pair_after s before)).kernel
    → P e.process e.done.kernel) where
  at_each : (before : PairHistory) → IsPairRunHistory s before → (q : Bool) → P q (half q (pair_after s before)).kernel
  at_each [] run q = start q
  at_each (e ∷ before) run q =
      let m = pair_after s before in
      let was = at_each before run.0 in
      each_half (λ r x. P r x.kernel) e.entry.hart.0 e.process e.done m (keeps e before run (was e.process)) (was (not e.process)) q

pub no_area : (s : PairSetting) (p : Bool) (before : PairHistory) → IsPairRunHistory s before → (half p (pair_after s before)).kernel.areas ≡ []
no_area s p before run =
    at_each s (λ q k. k.areas ≡ []) start
    (λ e past its none. ap (λ (d : Done). d.kernel.areas) (made s e past its)
    ∙ no_area_after (here_two s (pair_after s past) e.process e.entry.hart.0) (λ is. absurd cc) none (own_choice (choice_of e.entry))) before run p
  where
    start : (q : Bool) → (half q (pair_start s)).kernel.areas ≡ []
    start true = refl
    start false = refl

paged : (s : PairSetting) (before : PairHistory) (p : Bool) → AreOfImages s → IsPairRunHistory s before
    → IsPaged (setting s p) (half p (pair_after s before)).kernel.pages
paged s before p images run =
    at_each s (λ q k. IsPaged (setting s q) k.pages) start
    (λ e past its is. (event_of s e past its).fit.paged is) before run p
  where
    laid : (q : Bool) → IsLaidOut (setting s q).program
    laid q = subst IsLaidOut (sym (images.program q)) (loaded_is_laid_out s.limits.frames (images.image q) (images.bootable q))

    start : (q : Bool) → IsPaged (setting s q) (half q (pair_start s)).kernel.pages
    start true = paged_start (setting s true) (laid true)
    start false = paged_start (setting s false) (laid false)

pages_clear : (s : PairSetting) (before : PairHistory) (p : Bool) → AreOfImages s → IsPairRunHistory s before
    → IsClear (half p (pair_after s before)).kernel.pages
pages_clear s before p images run n gap =
    (paged s before p images run).upper n (omega (arith, gap.0))
    (ap (λ (z : Program). permission_of (start_runs z.pages) n) (images.program p)
    ∙ none_in_gap s.limits.frames (images.image p) (images.bootable p) n gap.0 gap.1)

-- WHAT IS WRITTEN TO THE SEGMENT

pub lies_inside : (s : PairSetting) (e : PairEvent) (before : PairHistory) → AreOfImages s → IsPairRunHistory s (e ∷ before) → AreInside e.done.entered
lies_inside s e before images run =
    let m = pair_after s before in
    let h = e.entry.hart.0 in
    let p = e.process in
    let here = here_two s m p h in
    let clear = pages_clear s before p images run.0 in
    let its = event_of s e before run in
    let within = ((standing_of s m p (settled s before run.0) its.goes).good h its.lt).within in
    let d = done_of (own_choice (choice_of e.entry)) here in
    subst (λ (y : Done). AreInside y.entered) (sym (made s e before run))
    (inside_both d.entered (all_stored (closing s.limits.harts (half p m) d.ended))
    (done_inside here clear (neighbour s m p) refl (own_choice (choice_of e.entry)) (within h))
    (closing_inside here clear (neighbour s m p) refl (half p m) s.limits.harts d.ended within))
