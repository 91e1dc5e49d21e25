-- A log is gone through entry by entry: what a machine has made so far, and where one is refused.
use Rattle.std.proofs.Common.{◌≡◌, ℕ, ◌+◌, ◌<◌, ◌^◌, List, [], ◌∷◌, ◌++◌, length, map, take, drop, get_or, option_to_list, replicate, reverse, refl, sym, ap, ◌∙◌, subst, arith, eqb, ltb, ◌&&◌, Bool, true, false, cond, Option, Some, None, Result, Ok, Err}
use Rattle.std.proofs.lemmas.Bool.{eqb-true, false≢true, ltb-false, ltb-true}
use Rattle.std.proofs.lemmas.List.{get_or-replicate, get_or_past, length-map, length-replicate, map-append, take-append-drop, drop_more}
use Rattle.mach_types.proofs.Laws.{kind_back}
use Rattle.mach_types.specs.Events.{choice_of, kind_of}
use Rattle.mach_types.specs.Limits.{InRange}
use Rattle.mach_types.specs.declared.events.Entry.{Entry}
use Rattle.block_model.specs.Deciding.{decide, event, history}
use Rattle.block_model.specs.History.{Event, History}
use Rattle.block_model.specs.Replay.{IsFirstRefused, checked, is_as_said, line_of, made_by, script_of}
use Rattle.block_model.specs.Run.{IsBlockRun}
use Rattle.block_model.specs.Setting.{Seen, Setting}
use Rattle.block_model.specs.declared.refusals.Refused.{Refused}
use Rattle.block_model.proofs.Laws.{decided_is, history-nil, replays, start_run, within_limit}
use Rattle.block_view.specs.Acts.{acts_after, acts_of}
use Rattle.block_view.specs.Ledgers.{Kept, noted, nothing_kept, turn_noted}
use Rattle.block_view.specs.Passing.{IsDecided, IsMadeAgain, IsMadeBy, passed_of}
use Rattle.block_view.specs.Standing.{at_the_end, standings}
use Rattle.block_view.specs.Tied.{IsOfLog, IsTied}
use Rattle.block_view.specs.Turns.{turns}
use Rattle.block_view.specs.Viewing.{AreActs}
use Rattle.block_view.specs.declared.forms.Act.{Act}
use Rattle.block_view.specs.declared.ledger.Going.{Going as KeptGoing}
use Rattle.block_view.specs.declared.passing.Passed.{Passed}
use Rattle.block_view.proofs.Growing.{at-the-end}
use Rattle.block_view.proofs.Made.{made_at}
use Rattle.block_view.proofs.Seeing.{history_after, run_after}
use Rattle.block_view.proofs.Ties.{tied_next}
use Rattle.block_view.proofs.TurnsTold.{turns_told}

-- a machine made these entries of a setting
pub record HasMadeLog (s : Setting) (log : List Entry) (m : Seen) : Type 0 where
  pub setting : m.setting ≡ s
  pub made : m.log ≡ log
  pub run : IsBlockRun m.setting m.log

-- and a ledger is tied to their log
pub record HasMade (s : Setting) (log : List Entry) (m : Seen) (k : Kept) : Type 0 where
  pub so_far : HasMadeLog s log m
  pub tied : IsTied m.setting (history m.setting m.log) k

-- they are a block run of the setting
pub run_of_setting : (s : Setting) (log : List Entry) (m : Seen) → HasMadeLog s log m → IsBlockRun s log
run_of_setting s log m was = subst (IsBlockRun s) was.made (subst (λ x. IsBlockRun x m.log) was.setting was.run)

-- AT THE START

none_going : (n h : ℕ) (b : Bool) → ltb h n ≡ b → get_or {A = Option KeptGoing} (replicate n None) h None ≡ None
none_going n h true lt = get_or-replicate n h None None (ltb-true h n lt)
none_going n h false ge =
    let past = ltb-false h n ge in get_or_past (replicate n None) h None (omega (arith, length-replicate {A = Option KeptGoing} n None))

tied_start : (s : Setting) → IsTied s [] (nothing_kept s.limits.harts)
tied_start s = record {
  acts = refl;
  harts = length-replicate s.limits.harts None;
  going = λ i q at. absurd cc;
  rests = λ h none. none_going s.limits.harts h (ltb h s.limits.harts) refl;
  hanging = λ i q at. absurd cc;
  hangs = λ tid x is. absurd cc;
}

-- a ledger of nothing is tied to an empty log
pub tied_to_none : (m : Seen) (harts : ℕ) (k : Kept) → m.setting.limits.harts ≡ harts → m.log ≡ [] → k ≡ nothing_kept harts → IsOfLog m k
tied_to_none m harts k same none kept =
    subst (λ log. IsTied m.setting (history m.setting log) k) (sym none)
    (subst (λ events. IsTied m.setting events k) (sym (history-nil m.setting))
    (subst (IsTied m.setting []) (ap nothing_kept same ∙ sym kept) (tied_start m.setting)))

pub logged_none : (s : Setting) (seed : ℕ) (m : Seen) → m ≡ record { setting = s; seed = seed; log = [] } → HasMadeLog s [] m
logged_none s seed m is = record {
  setting = ap (λ (x : Seen). x.setting) is;
  made = ap (λ (x : Seen). x.log) is;
  run = subst (λ (x : Seen). IsBlockRun x.setting x.log) (sym is) (start_run s);
}

pub made_none : (s : Setting) (seed : ℕ) (m : Seen) (k : Kept) → m ≡ record { setting = s; seed = seed; log = [] } → k ≡ nothing_kept s.limits.harts → HasMade s [] m k
made_none s seed m k is kept =
    let tied : IsTied s (history s []) k =
    subst (IsTied s (history s [])) (sym kept) (subst (λ events. IsTied s events (nothing_kept s.limits.harts)) (sym (history-nil s)) (tied_start s)) in
    record {
      so_far = logged_none s seed m is;
      tied = subst (λ (x : Seen). IsTied x.setting (history x.setting x.log) k) (sym is) tied;
    }

-- ONE ENTRY MORE

pub logged_more : (s : Setting) (log : List Entry) (m m' : Seen) (entry : Entry) → HasMadeLog s log m → IsMadeBy m m' entry
    → HasMadeLog s (log ++ entry ∷ []) m'
logged_more s log m m' entry was made = record {
  setting = ap (λ (x : Seen). x.setting) made.longer ∙ was.setting;
  made = ap (λ (x : Seen). x.log) made.longer ∙ ap (λ xs. xs ++ entry ∷ []) was.made;
  run = made.block_run;
}

-- a ledger that is tied to the log before it is tied to that after it, and tells what the entry makes of the sequences
pub tied_to_more : (m m' : Seen) (k : Kept) (entry : Entry) (passed : Passed) → IsOfLog m k → IsMadeAgain m m' entry passed → IsOfLog m' (noted passed k)
tied_to_more m m' k entry passed tied again =
    let before = history m.setting m.log in
    let newest = event m.setting before entry in
    let same : m'.setting ≡ m.setting = ap (λ (x : Seen). x.setting) again.made.longer in
    let next : IsTied m.setting (newest ∷ before) (noted passed k) =
    subst (λ (p : Passed). IsTied m.setting (newest ∷ before) (noted p k)) (sym again.seen)
    (tied_next m.setting newest before k (run_after m m' entry again.made) tied) in
    subst (λ x. IsTied x (history m'.setting m'.log) (noted passed k)) (sym same)
    (subst (λ events. IsTied m.setting events (noted passed k)) (sym (history_after m m' entry again.made)) next)

pub told_of_more : (m m' : Seen) (k : Kept) (entry : Entry) (passed : Passed) → IsOfLog m k → IsMadeAgain m m' entry passed
    → option_to_list (turn_noted passed k) ≡ turns m.setting (event m.setting (history m.setting m.log) entry) (history m.setting m.log)
told_of_more m m' k entry passed tied again =
    let before = history m.setting m.log in
    ap (λ (p : Passed). option_to_list (turn_noted p k)) again.seen
    ∙ turns_told m.setting (event m.setting before entry) before k (run_after m m' entry again.made) tied

pub made_more : (s : Setting) (log : List Entry) (m m' : Seen) (k : Kept) (entry : Entry) (passed : Passed) → HasMade s log m k
    → IsMadeAgain m m' entry passed → HasMade s (log ++ entry ∷ []) m' (noted passed k)
made_more s log m m' k entry passed was again = record {
  so_far = logged_more s log m m' entry was.so_far again.made;
  tied = tied_to_more m m' k entry passed was.tied again;
}

-- it is of a hart that the ledger keeps
its_hart : (s : Setting) (e : Event) (before : History) (p : Passed) → p ≡ passed_of s e before → p.entry.hart.0 ≡ e.entry.hart.0
unfolding passed_of
its_hart s e before p is = ap (λ (x : Passed). x.entry.hart.0) is

pub hart_of_more : (m m' : Seen) (k : Kept) (entry : Entry) (passed : Passed) → IsOfLog m k → IsMadeAgain m m' entry passed
    → passed.entry.hart.0 < length k.going
hart_of_more m m' k entry passed tied again =
    let before = history m.setting m.log in
    let newest = event m.setting before entry in
    let lt = (made_at m.setting newest before (run_after m m' entry again.made)).lt in
    omega (arith, its_hart m.setting newest before passed again.seen, tied.harts)

pub hart_is_kept : (s : Setting) (log : List Entry) (m m' : Seen) (k : Kept) (entry : Entry) (passed : Passed) → HasMade s log m k
    → IsMadeAgain m m' entry passed → passed.entry.hart.0 < length k.going
hart_is_kept s log m m' k entry passed was again = hart_of_more m m' k entry passed was.tied again

-- its log is short
pub logged_few : (s : Setting) (log : List Entry) (m : Seen) → HasMadeLog s log m → InRange s.limits → length m.log + 1 < 2 ^ 32
logged_few s log m was limits =
    let within = within_limit m.setting m.log was.run in
    let same = ap (λ (x : Setting). x.limits.steps) was.setting in
    let most = limits.most_steps in
    omega arith

-- AN ENTRY THAT IS REFUSED

both : (a b : Bool) → (a && b) ≡ true → (a ≡ true) × (b ≡ true)
both true b is = (refl, is)
both false b is = absurd (false≢true is)

-- an entry of the same hart and choice that is as another says is that one
same_entry : (made entry : Entry) → made.hart.0 ≡ entry.hart.0 → choice_of made ≡ choice_of entry → is_as_said (line_of entry).check made ≡ true → made ≡ entry
same_entry made entry hart choice said =
    let parts = both (eqb made.tid.0 entry.tid.0) (eqb made.pc entry.pc) said in
    let kinds : made.kind ≡ entry.kind = sym (kind_back made.kind made.tid) ∙ ap kind_of choice ∙ kind_back entry.kind entry.tid in
    let tid = eqb-true made.tid.0 entry.tid.0 parts.0 in
    let pc = eqb-true made.pc entry.pc parts.1 in
    λ i. record { hart = record { 0 = hart i }; kind = kinds i; tid = record { 0 = tid i }; pc = pc i }

module _ (s : Setting) (log : List Entry) (entry : Entry) (never : decide s (history s log) entry.hart.0 (choice_of entry) ≡ Ok entry → ⊥) where
  by_said : (d : Entry) (b : Bool) → decide s (history s log) entry.hart.0 (choice_of entry) ≡ Ok d → is_as_said (line_of entry).check d ≡ b
      → cond b (Some d) None ≡ None
  by_said d false is said = refl
  by_said d true is said =
      let of = decided_is s (history s log) entry.hart.0 (choice_of entry) d is in
      absurd (never (is ∙ ap Ok (same_entry d entry of.0 of.1 said)))

  by_answer : (r : Result Entry Refused) → decide s (history s log) entry.hart.0 (choice_of entry) ≡ r → checked (line_of entry).check r ≡ None
  by_answer (Err why) is = refl
  by_answer (Ok d) is = by_said d (is_as_said (line_of entry).check d) is refl

  makes_none : made_by s log (line_of entry) ≡ None
  makes_none = by_answer (decide s (history s log) entry.hart.0 (choice_of entry)) refl

-- the first entry that isn't decided is the first line that is refused
pub first_refused : (s : Setting) (all : List Entry) (i : ℕ) (m : Seen) (entry : Entry) (n : ℕ) → HasMadeLog s (take i all) m
    → entry ≡ get_or all i entry → i < length all → (IsDecided m entry → ⊥) → n ≡ length m.log + 1 → IsFirstRefused s (script_of all) n
first_refused s all i m entry n was at lt never number =
    let log = take i all in
    let run = run_of_setting s log m was in
    let split : all ≡ log ++ entry ∷ drop (i + 1) all =
    sym (take-append-drop i all) ∙ ap (λ xs. log ++ xs) (drop_more all i entry lt ∙ ap (λ x. x ∷ drop (i + 1) all) (sym at)) in
    let so_far = ap length was.made in
    record {
      earlier = script_of log;
      line = line_of entry;
      later = script_of (drop (i + 1) all);
      log = log;
      parts = ap (map line_of) split ∙ map-append line_of log (entry ∷ drop (i + 1) all);
      number = omega (arith, length-map log line_of);
      allowed = replays s log run;
      refused = makes_none s log entry
          (λ decided. never
          (subst (λ xs. decide m.setting (history m.setting xs) entry.hart.0 (choice_of entry) ≡ Ok entry) (sym was.made)
          (subst (λ x. decide x (history x log) entry.hart.0 (choice_of entry) ≡ Ok entry) (sym was.setting) decided)));
    }

-- AT THE END

pub are_acts : (s : Setting) (log : List Entry) (m : Seen) (k : Kept) (list : List Act) → HasMade s log m k
    → list ≡ map (at_the_end m.setting (history m.setting m.log) []) (standings m.setting (history m.setting m.log)) → AreActs s log list
unfolding acts_of
are_acts s log m k list was is =
    record {
      block_run = run_of_setting s log m was.so_far;
      acts = is
          ∙ at-the-end m.setting (history m.setting m.log)
          ∙ ap (λ x. acts_after x [] (reverse (history x m.log))) was.so_far.setting
          ∙ ap (λ xs. acts_after s [] (reverse (history s xs))) was.so_far.made;
    }
