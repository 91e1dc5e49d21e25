-- The names of sequences are those by the acts of the log.
use Rattle.std.proofs.Common.{◌≡◌, ℕ, ◌+◌, List, [], ◌∷◌, ◌++◌, reverse, refl, sym, ap, ◌∙◌, subst, Bool, true, false, not, cond, eqb, ◌&&◌, ◌||◌, Option, Some, None, is_some, inl, inr, append-nil, append_assoc}
use Rattle.std.proofs.Math.Path.{fun_ext}
use Rattle.std.specs.List.{fold}
use Rattle.std.specs.Option.{option_to_list}
use Rattle.std.proofs.lemmas.List.{reverse-append}
use Rattle.std.proofs.lemmas.Bool.{cases_Bool, eqb-true}
use Rattle.mach_types.proofs.Laws.{eqb_same}
use Rattle.mach_types.specs.Events.{choice_of, is_instruction, is_preempt}
use Rattle.mach_types.specs.declared.events.Entry.{Entry}
use Rattle.mach_types.specs.declared.events.Kind.{Kind}
use Rattle.mach_types.specs.declared.events.Kind.TheVariants as kind
use Rattle.block_model.proofs.Laws.{history-append, run_before, same_here}
use Rattle.block_model.specs.Acts.{Sequence as Known, begun_with, is_inside_at, is_taken_in, sequence_on, taken_up, with_event}
use Rattle.block_model.specs.Deciding.{done, event, history}
use Rattle.block_model.specs.Events.{done_of}
use Rattle.block_model.specs.Here.{runs}
use Rattle.block_model.specs.History.{Event, History, here_in_history, is_of_hart}
use Rattle.block_model.specs.Plain.{here_in_plain, plain_after}
use Rattle.block_model.specs.Run.{IsBlockRun}
use Rattle.block_model.specs.Setting.{Setting}
use Rattle.block_view.specs.Acts.{Whole, act_begun_by, acts_after, acts_of, followed, form_alone}
use Rattle.block_view.specs.declared.forms.Act.{Act}
use Rattle.log_gather.specs.Gathered.{is_sequence_form, names_in}
use Rattle.log_gather.specs.LogEvents.{LogEvent, Name, log_events}
use Rattle.log_gather.specs.Spans.{names_from, names_of}
use Rattle.log_gather.specs.Facts.{Place, facts_at, first_place, here_at, inside_on, next_place, place_after, within_by}
use Rattle.log_gather.proofs.GatheredSpans.{machine_after, place-more}
use Rattle.block_model.proofs.Swaps.Logs.{seen}

-- EVENTS IN THEIR ORDER

abbrev pub events_after : Setting → History → List Entry → List Event
events_after s before [] = []
events_after s before (e ∷ log) = event s before e ∷ events_after s (event s before e ∷ before) log

reversed : (s : Setting) (before : History) (log : List Entry) → reverse (fold (λ b e. event s b e ∷ b) before log) ≡ reverse before ++ events_after s before log
reversed s before [] = sym (append-nil (reverse before))
reversed s before (e ∷ log) =
    let x = event s before e in
    reversed s (x ∷ before) log
    ∙ ap (λ l. l ++ events_after s (x ∷ before) log) (reverse-append (x ∷ []) before)
    ∙ append_assoc (reverse before) (x ∷ []) (events_after s (x ∷ before) log)

pub acts_in_order : (s : Setting) (log : List Entry) → acts_of s log ≡ acts_after s [] (events_after s [] log)
unfolding acts_of history
acts_in_order s log = ap (acts_after s []) (reversed s [] log)

-- WHETHER AN EVENT IS OF A SEQUENCE

-- at each place of a run
pub record IsPlaced (s : Setting) (p : Place) (before : History) : Type 0 where
  pub here : (h : ℕ) → here_in_plain s p.machine h ≡ here_in_history s before h
  pub within : (h : ℕ) → p.within h ≡ is_some (sequence_on s h before)

pub inside_is : (s : Setting) (p : Place) (before : History) (h : ℕ) → IsPlaced s p before → inside_on (here_in_plain s p.machine h) (runs (here_in_plain s p.machine h)) ≡ is_inside_at s h before
inside_is s p before h at = ap (λ here. inside_on here (runs here)) (at.here h)

pub quiet_is : (s : Setting) (p : Place) (before : History) (e : Entry) → IsPlaced s p before → (done_of (choice_of e) (here_at s p e)).interrupted ≡ (event s before e).done.interrupted
unfolding done
quiet_is s p before e at = ap (λ here. (done_of (choice_of e) here).interrupted) (at.here e.hart.0)

-- the sequence of an event of its hart
abbrev pub taken_if : Bool → ℕ → Event → History → Option Known → Option Known
taken_if inside h e before o = cond inside (taken_up h e before o) None

taken_some : (inside : Bool) (h : ℕ) (e : Event) (before : History) (o : Option Known) → is_some (taken_if inside h e before o) ≡ (inside && cond (is_some o) (is_taken_in e.entry.kind e.done.interrupted) (is_instruction e.entry.kind))
taken_some false h e before o = refl
taken_some true h e before None = go (is_instruction e.entry.kind)
  where
    go : (b : Bool) → is_some (cond b (Some (begun_with h e before)) None) ≡ b
    go true = refl
    go false = refl
taken_some true h e before (Some q) = go (is_taken_in e.entry.kind e.done.interrupted)
  where
    go : (b : Bool) → is_some (cond b (Some (with_event e before q)) None) ≡ b
    go true = refl
    go false = refl

pub own_sequence : (s : Setting) (e : Event) (before : History) → sequence_on s e.entry.hart.0 (e ∷ before) ≡ taken_if (is_inside_at s e.entry.hart.0 before) e.entry.hart.0 e before (sequence_on s e.entry.hart.0 before)
own_sequence s e before =
    ap (λ b. cond (not b) (sequence_on s e.entry.hart.0 before) (cond (is_inside_at s e.entry.hart.0 before) (taken_up e.entry.hart.0 e before (sequence_on s e.entry.hart.0 before)) None)) (eqb_same e.entry.hart.0)

pub within_sequence : (s : Setting) (p : Place) (before : History) (e : Entry) → IsPlaced s p before → (facts_at s p e).within ≡ is_some (sequence_on s e.hart.0 (event s before e ∷ before))
within_sequence s p before e at =
    let h = e.hart.0 in
    let x = event s before e in
    ap (λ i. within_by i (p.within h) e (done_of (choice_of e) (here_at s p e)).interrupted) (inside_is s p before h at)
    ∙ ap (λ w. within_by (is_inside_at s h before) w e (done_of (choice_of e) (here_at s p e)).interrupted) (at.within h)
    ∙ ap (within_by (is_inside_at s h before) (is_some (sequence_on s h before)) e) (quiet_is s p before e at)
    ∙ sym (ap is_some (own_sequence s x before) ∙ taken_some (is_inside_at s h before) h x before (sequence_on s h before))

within_next : (s : Setting) (p : Place) (before : History) (e : Entry) (h : ℕ) → IsPlaced s p before → (next_place s p e).within h ≡ is_some (sequence_on s h (event s before e ∷ before))
within_next s p before e h at = elim (cases_Bool (eqb e.hart.0 h)) [
  | inl own ↦
      ap (λ b. cond b (facts_at s p e).within (p.within h)) own ∙ within_sequence s p before e at
      ∙ ap (λ k. is_some (sequence_on s k (event s before e ∷ before))) (eqb-true e.hart.0 h own)
  | inr other ↦
      ap (λ b. cond b (facts_at s p e).within (p.within h)) other ∙ at.within h
      ∙ sym (ap (λ b. is_some (cond (not b) (sequence_on s h before) (cond (is_inside_at s h before) (taken_up h (event s before e) before (sequence_on s h before)) None))) other)
]

-- each place of a run is placed so
pub placed_next : (s : Setting) (earlier : List Entry) (p : Place) (e : Entry) → place_after s earlier ≡ p → IsBlockRun s (earlier ++ e ∷ []) → IsPlaced s p (history s earlier)
    → IsPlaced s (next_place s p e) (event s (history s earlier) e ∷ history s earlier)
placed_next s earlier p e at run was = record {
  here = λ h.
      ap (λ (q : Place). here_in_plain s q.machine h) (sym (place-more s earlier (e ∷ []) ∙ ap (λ q. next_place s q e) at))
      ∙ ap (λ m. here_in_plain s m h) (machine_after s (earlier ++ e ∷ []))
      ∙ same_here (seen s (earlier ++ e ∷ [])) h run
      ∙ ap (λ b. here_in_history s b h) (history-append s earlier e);
  within = λ h. within_next s p (history s earlier) e h was;
}

pub placed_start : (s : Setting) → IsBlockRun s [] → IsPlaced s (first_place s) []
unfolding plain_after history
placed_start s run = record { here = λ h. same_here (seen s []) h run; within = λ h. refl }

-- NAMES

hart_by : (a b c : Bool) (w x y z : Whole) (h : ℕ) → w.sequence.hart ≡ h → x.sequence.hart ≡ h → y.sequence.hart ≡ h → z.sequence.hart ≡ h → (cond a w (cond b x (cond c y z))).sequence.hart ≡ h
hart_by true b c w x y z h p q r t = p
hart_by false true c w x y z h p q r t = q
hart_by false false true w x y z h p q r t = r
hart_by false false false w x y z h p q r t = t

pub followed_hart : (s : Setting) (q : Known) (before : History) (later : List Event) → (followed s q before later).sequence.hart ≡ q.hart
followed_hart s q before [] = refl
followed_hart s q before (e ∷ later) =
    hart_by (not (is_of_hart q.hart e)) (is_inside_at s q.hart before && is_taken_in e.entry.kind e.done.interrupted) (is_inside_at s q.hart before && is_preempt e.entry.kind)
    _ _ _ _ q.hart (followed_hart s q (e ∷ before) later) (followed_hart s (with_event e before q) (e ∷ before) later) refl refl

alone_is_none : (k : Kind) → is_sequence_form (form_alone k) ≡ false
alone_is_none kind.Exec = refl
alone_is_none k = refl

-- how many acts came before, with one more
abbrev with_act : ℕ → (ℕ → ℕ) → ℕ → ℕ
with_act h acts k = cond (eqb h k) (acts k + 1) (acts k)

abbrev with_event_of : ℕ → Bool → (ℕ → ℕ) → ℕ → ℕ
with_event_of h begins acts k = cond (eqb h k && begins) (acts k + 1) (acts k)

one_more : (h : ℕ) (acts : ℕ → ℕ) → with_event_of h true acts ≡ with_act h acts
one_more h acts = fun_ext (λ k. go (eqb h k) k)
  where
    go : (b : Bool) (k : ℕ) → cond (b && true) (acts k + 1) (acts k) ≡ cond b (acts k + 1) (acts k)
    go true k = refl
    go false k = refl

none_more : (h : ℕ) (acts : ℕ → ℕ) → with_event_of h false acts ≡ acts
none_more h acts = fun_ext (λ k. go (eqb h k) k)
  where
    go : (b : Bool) (k : ℕ) → cond (b && false) (acts k + 1) (acts k) ≡ acts k
    go true k = refl
    go false k = refl

-- by the sequences before an event and after it
abbrev by_marks : (ℕ → ℕ) → ℕ → Bool → Bool → List LogEvent → List Name
by_marks acts h within was ms =
    let begins = within && not was in
    let rest = names_from (with_event_of h (not within || begins) acts) ms in
    cond begins (record { hart = h; number = acts h } ∷ rest) rest

names_step : (s : Setting) (x : Event) (before : History) (later : List Event) (o1 o2 : Option Known) (acts : ℕ → ℕ) (as' : List Act) (ms : List LogEvent)
    → ((q : Known) → o1 ≡ None → o2 ≡ Some q → q.hart ≡ x.entry.hart.0) → ((acts : ℕ → ℕ) → names_in acts as' ≡ names_from acts ms)
    → names_in acts (option_to_list (act_begun_by s x before later o1 o2) ++ as') ≡ by_marks acts x.entry.hart.0 (is_some o2) (is_some o1) ms
names_step s x before later o1 None acts as' ms own rest =
    let h = x.entry.hart.0 in
    ap (λ b. cond b (record { hart = h; number = acts h } ∷ names_in (with_act h acts) as') (names_in (with_act h acts) as')) (alone_is_none x.entry.kind)
    ∙ rest (with_act h acts) ∙ ap (λ c. names_from c ms) (sym (one_more h acts))
names_step s x before later None (Some q) acts as' ms own rest =
    let h = x.entry.hart.0 in
    let is : (followed s q (x ∷ before) later).sequence.hart ≡ h = followed_hart s q (x ∷ before) later ∙ own q refl refl in
    ap (λ k. record { hart = k; number = acts k } ∷ names_in (with_act k acts) as') is
    ∙ ap (λ l. record { hart = h; number = acts h } ∷ l) (rest (with_act h acts) ∙ ap (λ c. names_from c ms) (sym (one_more h acts)))
names_step s x before later (Some r) (Some q) acts as' ms own rest = rest acts ∙ ap (λ c. names_from c ms) (sym (none_more x.entry.hart.0 acts))

pub begun_own : (s : Setting) (x : Event) (before : History) (q : Known) → sequence_on s x.entry.hart.0 before ≡ None → sequence_on s x.entry.hart.0 (x ∷ before) ≡ Some q → q.hart ≡ x.entry.hart.0
begun_own s x before q none is =
    go (is_inside_at s x.entry.hart.0 before) (is_instruction x.entry.kind) (sym (own_sequence s x before ∙ ap (taken_if (is_inside_at s x.entry.hart.0 before) x.entry.hart.0 x before) none) ∙ is)
  where
    go : (a b : Bool) → cond a (cond b (Some (begun_with x.entry.hart.0 x before)) None) None ≡ Some q → q.hart ≡ x.entry.hart.0
    go true true same = let begun : begun_with x.entry.hart.0 x before ≡ q = cc in sym (ap (λ (k : Known). k.hart) begun)
    go true false same = absurd cc
    go false b same = absurd cc

names_are_by : (s : Setting) (earlier rest : List Entry) (p : Place) (acts : ℕ → ℕ) → place_after s earlier ≡ p → IsBlockRun s (earlier ++ rest) → IsPlaced s p (history s earlier)
    → names_in acts (acts_after s (history s earlier) (events_after s (history s earlier) rest)) ≡ names_from acts (log_events s p rest)
names_are_by s earlier [] p acts at run was = refl
names_are_by s earlier (e ∷ rest) p acts at run was =
    let h = e.hart.0 in
    let before = history s earlier in
    let x = event s before e in
    let there = next_place s p e in
    let longer : IsBlockRun s ((earlier ++ e ∷ []) ++ rest) = subst (λ (l : List Entry). IsBlockRun s l) (sym (append_assoc earlier (e ∷ []) rest)) run in
    let one = run_before s (earlier ++ e ∷ []) rest longer in
    let placed = placed_next s earlier p e at one was in
    let at_next : place_after s (earlier ++ e ∷ []) ≡ there = place-more s earlier (e ∷ []) ∙ ap (λ q. next_place s q e) at in
    let is = history-append s earlier e in
    let more : (acts : ℕ → ℕ) → names_in acts (acts_after s (x ∷ before) (events_after s (x ∷ before) rest)) ≡ names_from acts (log_events s there rest) =
    λ acts. ap (λ b. names_in acts (acts_after s b (events_after s b rest))) (sym is) ∙ names_are_by s (earlier ++ e ∷ []) rest there acts at_next longer (subst (IsPlaced s there) (sym is) placed) in
    names_step s x before (events_after s (x ∷ before) rest) (sequence_on s h before) (sequence_on s h (x ∷ before)) acts (acts_after s (x ∷ before) (events_after s (x ∷ before) rest)) (log_events s there rest)
    (λ q none some. begun_own s x before q none some) more
    ∙ ap (λ b. by_marks acts h b (is_some (sequence_on s h before)) (log_events s there rest)) (sym (within_sequence s p before e was))
    ∙ ap (λ b. by_marks acts h (facts_at s p e).within b (log_events s there rest)) (sym (was.within h))

-- the names of a log's sequences are those by its acts
pub names_by_acts : (s : Setting) (log : List Entry) → IsBlockRun s log → names_of s log ≡ names_in (λ k. 0) (acts_of s log)
unfolding history place_after
names_by_acts s log run =
    sym (ap (names_in (λ k. 0)) (acts_in_order s log) ∙ names_are_by s [] log (first_place s) (λ k. 0) refl run (placed_start s (run_before s [] log run)))
