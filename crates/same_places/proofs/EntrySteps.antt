-- Playing the events of a run again, one by one.
use Rattle.std.proofs.Common.{◌≡◌, ℕ, ◌+◌, ◌<◌, List, [], ◌∷◌, ◌++◌, length, take, drop, Option, Some, None, Result, IfOk, slice_get, map, refl, sym, ap, ◌∙◌, subst, arith, append_assoc, zero, suc, add-one}
use Rattle.elf_load.specs.declared.image.ImagePage.{ImagePage}
use Rattle.mach_types.specs.Events.{choice_of}
use Rattle.mach_types.specs.Limits.{InRange}
use Rattle.mach_types.specs.declared.events.Choice.{Choice}
use Rattle.mach_types.specs.declared.events.Entry.{Entry}
use Rattle.mach_types.specs.declared.events.Why.{Why}
use Rattle.block_model.specs.Deciding.{entry_in, event}
use Rattle.block_model.specs.Events.{done_of, refusal_of}
use Rattle.block_model.specs.Plain.{Plain, here_in_plain, here_of, plain_over, plain_seen, plain_start}
use Rattle.block_model.specs.Run.{IsBlockRun, IsRunHistory}
use Rattle.block_model.specs.Setting.{Seen, Setting}
use Rattle.block_model.proofs.Laws.{history-append, next_event, plain_made, run_before, standing, start_plain}
unfoldable use Rattle.block_model.specs.Deciding.{history}
unfoldable use Rattle.block_model.specs.Plain.{plain_after}
use Rattle.process.specs.Refinement.{HasCode, IsPlace, IsTied, answer_to, answered}
use Rattle.process.specs.declared.parts.Parts.{Parts}
use Rattle.same_places.specs.Places.{alone, plain_after_choice, rested}
use Rattle.same_places.specs.Replayed.{StandAfter}
use Rattle.same_places.specs.Resting.{rested_hart}
use Rattle.same_places.proofs.Carried.{tied_rested}

-- a list parted at an item
parted : {A : Type 0} (xs : List A) (i : ℕ) (x : A) → slice_get xs i ≡ Some x → take i xs ++ x ∷ drop (suc i) xs ≡ xs
parted [] i x at = let no : ⊥ = cc in absurd no
parted (z ∷ xs) zero x at = let same : z ≡ x = cc in ap (λ y. y ∷ xs) (sym same)
parted (z ∷ xs) (suc i) x at = ap (λ ys. z ∷ ys) (parted xs i x at)

taken_suc : {A : Type 0} (xs : List A) (i : ℕ) (x : A) → slice_get xs i ≡ Some x → take (suc i) xs ≡ take i xs ++ x ∷ []
taken_suc [] i x at = let no : ⊥ = cc in absurd no
taken_suc (z ∷ xs) zero x at = let same : z ≡ x = cc in ap (λ y. y ∷ []) same
taken_suc (z ∷ xs) (suc i) x at = ap (λ ys. z ∷ ys) (taken_suc xs i x at)

-- the log so far
abbrev so_far : Setting → List Entry → ℕ → Seen
so_far s log i = record { setting = s; seed = 0; log = take i log }

-- the next entry of a run is allowed
pub record IsEntryNext (s : Setting) (log : List Entry) (i : ℕ) (e : Entry) : Type 0 where
  pub before : IsBlockRun s (take i log)
  pub goes : plain_over (plain_after s (take i log)) ≡ None
  pub room : length (take i log) < s.limits.steps
  pub lt : e.hart.0 < s.limits.harts
  pub free : refusal_of (choice_of e) (here_in_plain s (plain_after s (take i log)) e.hart.0) ≡ None
  pub next : plain_after s (take (i + 1) log) ≡ plain_after_choice s (plain_after s (take i log)) e.hart.0 (choice_of e)

pub entry_next : (s : Setting) (log : List Entry) (i : ℕ) (e : Entry) → IsBlockRun s log → slice_get log i ≡ Some e → IsEntryNext s log i e
entry_next s log i e run at =
    let done = take i log in
    let v = so_far s log i in
    let whole : IsBlockRun s ((done ++ e ∷ []) ++ drop (suc i) log) = subst (λ (l : List Entry). IsBlockRun s l) (sym (append_assoc done (e ∷ []) (drop (suc i) log) ∙ parted log i e at)) run in
    let longer : IsBlockRun s (done ++ e ∷ []) = run_before s (done ++ e ∷ []) (drop (suc i) log) whole in
    let before : IsBlockRun s done = run_before s done (e ∷ []) longer in
    let last : IsRunHistory s (event s (history s done) e ∷ history s done) = subst (IsRunHistory s) (history-append s done e) longer.allowed in
    let next = next_event v e (done_of (choice_of e) (here_of v e.hart.0)) before last.1 refl in
    record {
      before = before;
      goes = next.goes;
      room = next.room;
      lt = next.lt;
      free = next.free;
      next = ap (plain_after s) (ap (λ k. take k log) (add-one i) ∙ taken_suc log i e at) ∙ next.next;
    }

-- the parts may make its event
pub place_next : (s : Setting) (log : List Entry) (i : ℕ) (e : Entry) (m : Parts) → InRange s.limits → IsEntryNext s log i e → StandAfter s (take i log) m
    → IsPlace (alone s (rested (plain_after s (take i log)))) m e.hart.0
place_next s log i e m limits is tied =
    let v = so_far s log i in
    let stands = standing v is.before in
    let made : (plain_seen v).made ≡ length (take i log) = plain_made v is.before in
    let room : length (take i log) < s.limits.steps = is.room in
    record {
      stands = record {
        good = stands.good;
        sound = stands.sound;
        held = stands.held;
        events = λ h. omega arith;
        ran = λ h. omega arith;
        given = stands.given;
      };
      tied = tied;
      limits = limits;
      goes = is.goes;
      room = omega arith;
      lt = is.lt;
    }

pub code_next : (s : Setting) (code : List ImagePage) (log : List Entry) (i : ℕ) (e : Entry) (m : Parts) → InRange s.limits → code ≡ s.program.pages → IsBlockRun s log → slice_get log i ≡ Some e
    → StandAfter s (take i log) m → HasCode code m e.hart.0
code_next s code log i e m limits pages run at tied = record {
  stand = alone s (rested (plain_after s (take i log)));
  place = place_next s log i e m limits (entry_next s log i e run at) tied;
  alone = record { none = refl; pages = pages };
}

-- and stand behind it then
made_by : (e : Entry) (o : Option Why) (r : Result Entry Why) (Q : Type 0) → r ≡ answered e o → o ≡ None → IfOk r (λ _. Q) → Q
made_by e None r Q is free after = subst (λ (x : Result Entry Why). IfOk x (λ _. Q)) is after
made_by e (Some why) r Q is free after = cc

pub stand_next_entry : (s : Setting) (code : List ImagePage) (log : List Entry) (i : ℕ) (e : Entry) (m m' : Parts) (r : Result Entry Why) → InRange s.limits → code ≡ s.program.pages → IsBlockRun s log → slice_get log i ≡ Some e
    → StandAfter s (take i log) m
    → ((t : Setting) (p : Plain) → IsPlace (alone t (rested p)) m e.hart.0 → code ≡ t.program.pages → r ≡ answer_to (alone t p) e.hart.0 (choice_of e))
    → ((t : Setting) (p : Plain) → IsPlace (alone t (rested p)) m e.hart.0 → code ≡ t.program.pages → IfOk r (λ _. IsTied t (rested (plain_after_choice t p e.hart.0 (choice_of e))) m'))
    → StandAfter s (take (i + 1) log) m'
stand_next_entry s code log i e m m' r limits pages run at tied answer becomes =
    let is = entry_next s log i e run at in
    let p = plain_after s (take i log) in
    let place = place_next s log i e m limits is tied in
    let then = made_by (entry_in (choice_of e) (here_in_plain s p e.hart.0)) (refusal_of (choice_of e) (here_in_plain s p e.hart.0)) r
    (IsTied s (rested (plain_after_choice s p e.hart.0 (choice_of e))) m') (answer s p place pages) is.free (becomes s p place pages) in
    subst (λ (q : Plain). IsTied s (rested q) m') (sym is.next) then

-- where nothing was played yet
pub stand_first : (s : Setting) (m m' : Parts) → m'.harts.items ≡ map rested_hart m.harts.items → m'.pages ≡ m.pages → m'.kernel ≡ m.kernel → m'.ended ≡ m.ended → IsTied s (plain_start s) m → StandAfter s [] m'
stand_first s m m' harts pages kernel ended tied =
    subst (λ (p : Plain). IsTied s (rested p) m') (sym (start_plain s)) (tied_rested s (plain_start s) m m' harts pages kernel ended tied)

pub stand_next_choice : (s : Setting) (code : List ImagePage) (log : List Entry) (i : ℕ) (e : Entry) (c : Choice) (m m' : Parts) (r : Result Entry Why) → c ≡ choice_of e → InRange s.limits → code ≡ s.program.pages → IsBlockRun s log
    → slice_get log i ≡ Some e → StandAfter s (take i log) m
    → ((t : Setting) (p : Plain) → IsPlace (alone t (rested p)) m e.hart.0 → code ≡ t.program.pages → r ≡ answer_to (alone t p) e.hart.0 c)
    → ((t : Setting) (p : Plain) → IsPlace (alone t (rested p)) m e.hart.0 → code ≡ t.program.pages → IfOk r (λ _. IsTied t (rested (plain_after_choice t p e.hart.0 c)) m'))
    → StandAfter s (take (i + 1) log) m'
stand_next_choice s code log i e c m m' r is limits pages run at tied answer becomes =
    stand_next_entry s code log i e m m' r limits pages run at tied
    (λ t p place same. subst (λ (x : Choice). r ≡ answer_to (alone t p) e.hart.0 x) is (answer t p place same))
    (λ t p place same. subst (λ (x : Choice). IfOk r (λ _. IsTied t (rested (plain_after_choice t p e.hart.0 x)) m')) is (becomes t p place same))
