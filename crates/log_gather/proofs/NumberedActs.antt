-- The act of a name is found among the acts of the log, with its numbers and its end.
use Rattle.std.proofs.Common.{◌≡◌, ℕ, ◌+◌, zero, suc, List, [], ◌∷◌, ◌++◌, length, refl, sym, ap, ◌∙◌, subst, arith, Bool, true, false, not, cond, eqb, ◌&&◌, ◌||◌, Option, Some, None, is_some, inl, inr, ◌⊎◌, append_assoc}
use Rattle.std.specs.List.{AllByRecursion}
use Rattle.std.specs.Option.{option_to_list}
use Rattle.std.proofs.lemmas.Bool.{and_parts, cases_Bool, eqb-true, false≢true}
use Rattle.mach_types.proofs.Laws.{eqb_same}
use Rattle.mach_types.specs.Events.{choice_of, choice_with, is_instruction, is_preempt}
use Rattle.mach_types.specs.declared.events.Choice.TheVariants as asked
use Rattle.mach_types.specs.declared.events.Entry.{Entry}
use Rattle.mach_types.specs.declared.events.Kind.{Kind}
use Rattle.mach_types.specs.declared.events.Kind.TheVariants as kind
use Rattle.block_model.proofs.Laws.{history-append, next_event, run_before, same_here}
use Rattle.block_model.specs.Acts.{Sequence as Known, begun_with, is_inside_at, is_taken_in, end_before, sequence_on, with_event}
use Rattle.block_model.specs.Deciding.{event, history, number_of, thread_in}
use Rattle.block_model.specs.Events.{done_of}
use Rattle.block_model.specs.Here.{Here, runs}
use Rattle.block_model.specs.History.{Event, History, here_in_history, is_of_hart, running}
use Rattle.block_model.specs.Plain.{here_of}
use Rattle.mach_types.specs.Kernel.Threads.{running_on}
use Rattle.block_model.specs.Record.{Kernel}
use Rattle.block_model.specs.Run.{IsBlockRun}
use Rattle.block_model.specs.Setting.{Setting}
use Rattle.block_view.specs.Acts.{Whole, act_alone, act_begun_by, act_of, acts_after, acts_of, followed, form_alone, verdict}
use Rattle.block_view.specs.Counting.{is_ended, is_left}
use Rattle.block_view.specs.declared.forms.Act.{Act}
use Rattle.log_gather.specs.Gathered.{nth_act}
use Rattle.log_gather.specs.LogEvents.{LogEvent, is_own, log_event, log_events, facts_of}
use Rattle.log_gather.specs.Spans.{after_act, before_act, begins_act, begins_own, from_act, goes_on, is_inside_at_place, is_inside_next, rest_of_act}
use Rattle.block_model.specs.PlainEvents.{is_plain, is_plain_exec_by}
use Rattle.log_gather.specs.Facts.{Place, facts_at, first_place, here_at, next_place, place_after, place_from}
use Rattle.log_gather.proofs.NamedSequences.{IsPlaced, acts_in_order, begun_own, events_after, followed_hart, inside_is, own_sequence, placed_next, placed_start, quiet_is, taken_if, within_sequence}
use Rattle.log_gather.proofs.LeftSequences.{IsFollowed, IsGoing, Plain, plain_kind, continues, followed_is, moved_by, moves_is, quiet, step_moved, stops, taken_is}
use Rattle.log_gather.proofs.GatheredSpans.{place-more}
use Rattle.block_model.proofs.Swaps.Logs.{last_decided, seen}

-- A SEQUENCE'S LAST ENTRY

begun_by : (a b c : Bool) (w x y z : Whole) (h : History) → w.sequence.begun ≡ h → x.sequence.begun ≡ h → y.sequence.begun ≡ h → z.sequence.begun ≡ h → (cond a w (cond b x (cond c y z))).sequence.begun ≡ h
begun_by true b c w x y z h p q r t = p
begun_by false true c w x y z h p q r t = q
begun_by false false true w x y z h p q r t = r
begun_by false false false w x y z h p q r t = t

followed_begun : (s : Setting) (q : Known) (before : History) (later : List Event) → (followed s q before later).sequence.begun ≡ q.begun
followed_begun s q before [] = refl
followed_begun s q before (e ∷ later) =
    begun_by (not (is_of_hart q.hart e)) (is_inside_at s q.hart before && is_taken_in e.entry.kind e.done.interrupted) (is_inside_at s q.hart before && is_preempt e.entry.kind)
    _ _ _ _ q.begun (followed_begun s q (e ∷ before) later) (followed_begun s (with_event e before q) (e ∷ before) later) refl refl

-- how far it reached
abbrev ReachesTo : ℕ → Whole → ℕ → ℕ → List LogEvent → Type 0
ReachesTo h w placed reached ms = length w.sequence.reached ≡ cond (goes_on facts_of h ms) (placed + length (rest_of_act facts_of h ms)) reached

reach_other : (h : ℕ) (w : Whole) (placed reached : ℕ) (x : LogEvent) (ms : List LogEvent) → is_own h x ≡ false → ReachesTo h w (suc placed) reached ms → ReachesTo h w placed reached (x ∷ ms)
reach_other h w placed reached x ms other rest =
    rest ∙ go (goes_on facts_of h ms) ∙ sym (ap (λ o. let b = cond o (not (begins_act x.facts)) (goes_on facts_of h ms) in cond b (placed + length (cond b (x ∷ rest_of_act facts_of h ms) [])) reached) other)
  where
    go : (b : Bool) → cond b (suc placed + length (rest_of_act facts_of h ms)) reached ≡ cond b (placed + length (cond b (x ∷ rest_of_act facts_of h ms) [])) reached
    go true = omega arith
    go false = refl

reach_taken : (h : ℕ) (w : Whole) (placed reached : ℕ) (x : LogEvent) (ms : List LogEvent) → goes_on facts_of h (x ∷ ms) ≡ true → ReachesTo h w (suc placed) (suc placed) ms → ReachesTo h w placed reached (x ∷ ms)
reach_taken h w placed reached x ms goes rest =
    rest ∙ either (goes_on facts_of h ms) refl ∙ omega arith ∙ sym (ap (λ b. cond b (placed + length (cond b (x ∷ rest_of_act facts_of h ms) [])) reached) goes)
  where
    either : (b : Bool) → goes_on facts_of h ms ≡ b → cond b (suc placed + length (rest_of_act facts_of h ms)) (suc placed) ≡ suc placed + length (rest_of_act facts_of h ms)
    either true is = refl
    either false is = rw (stops h ms is).0 (omega arith)

reach_over : (h : ℕ) (w : Whole) (placed : ℕ) (q : Known) (x : LogEvent) (ms : List LogEvent) → goes_on facts_of h (x ∷ ms) ≡ false → w.sequence ≡ q → ReachesTo h w placed (length q.reached) (x ∷ ms)
reach_over h w placed q x ms goes same =
    ap (λ (k : Known). length k.reached) same ∙ sym (ap (λ b. cond b (placed + length (cond b (x ∷ rest_of_act facts_of h ms) [])) (length q.reached)) goes)

abbrev after_if : Bool → Bool → Bool → Whole → Whole → Whole → Whole → Whole
after_if own taken hangs a b c d = cond (not own) a (cond taken b (cond hangs c d))

either_sequence : (b : Bool) (c d : Whole) (q : Known) → c.sequence ≡ q → d.sequence ≡ q → (cond b c d).sequence ≡ q
either_sequence true c d q p r = p
either_sequence false c d q p r = r

reaches : (s : Setting) (earlier rest : List Entry) (p : Place) (q : Known) → place_after s earlier ≡ p → IsBlockRun s (earlier ++ rest) → IsPlaced s p (history s earlier) → p.within q.hart ≡ true
    → ReachesTo q.hart (followed s q (history s earlier) (events_after s (history s earlier) rest)) (length (history s earlier)) (length q.reached) (log_events s p rest)
reaches s earlier [] p q at run placed within = refl
reaches s earlier (e ∷ rest) p q at run placed within =
    let h = q.hart in
    let before = history s earlier in
    let x = event s before e in
    let there = next_place s p e in
    let ms = log_events s there rest in
    let later = events_after s (x ∷ before) rest in
    let longer : IsBlockRun s ((earlier ++ e ∷ []) ++ rest) = subst (λ (l : List Entry). IsBlockRun s l) (sym (append_assoc earlier (e ∷ []) rest)) run in
    let one = run_before s (earlier ++ e ∷ []) rest longer in
    let placed_there = placed_next s earlier p e at one placed in
    let at_next : place_after s (earlier ++ e ∷ []) ≡ there = place-more s earlier (e ∷ []) ∙ ap (λ q. next_place s q e) at in
    let is = history-append s earlier e in
    let go_on : (r : Known) → there.within r.hart ≡ true → ReachesTo r.hart (followed s r (x ∷ before) later) (suc (length before)) (length r.reached) ms =
    λ r w.
    subst (λ b. ReachesTo r.hart (followed s r b (events_after s b rest)) (length b) (length r.reached) ms) is
    (reaches s (earlier ++ e ∷ []) rest there r at_next longer (subst (IsPlaced s there) (sym is) placed_there) w) in
    let inside = is_inside_at s h before in
    let taken = inside && is_taken_in e.kind x.done.interrupted in
    let hangs = inside && is_preempt e.kind in
    let a = followed s q (x ∷ before) later in
    let b = followed s (with_event x before q) (x ∷ before) later in
    let c : Whole = record { sequence = q; end = verdict s q (x ∷ before) later } in
    let d : Whole = record { sequence = q; end = end_before s q x before } in
    elim (cases_Bool (eqb e.hart.0 h)) [
      | inr other ↦
          subst (λ w. ReachesTo h w (length before) (length q.reached) (log_event s p e ∷ ms)) (sym (ap (λ o. after_if o taken hangs a b c d) other))
          (reach_other h a (length before) (length q.reached) (log_event s p e) ms other (go_on q (ap (λ o. cond o (facts_at s p e).within (p.within h)) other ∙ within)))
      | inl own ↦
          let hh = eqb-true e.hart.0 h own in
          let was : p.within e.hart.0 ≡ true = ap p.within hh ∙ within in
          let w = (facts_at s p e).within in
          let goes : goes_on facts_of h (log_event s p e ∷ ms) ≡ w =
          ap (λ o. cond o (not (begins_act (facts_at s p e))) (goes_on facts_of h ms)) own ∙ continues w (p.within e.hart.0) was in
          let taken_fact : w ≡ taken =
          taken_is (facts_at s p e).inside (p.within e.hart.0) (is_taken_in e.kind (done_of (choice_of e) (here_at s p e)).interrupted) (is_instruction e.kind) was
          ∙ ap (λ i. i && is_taken_in e.kind (done_of (choice_of e) (here_at s p e)).interrupted) (inside_is s p before e.hart.0 placed ∙ ap (λ k. is_inside_at s k before) hh)
          ∙ ap (λ o. inside && is_taken_in e.kind o) (quiet_is s p before e placed) in
          elim (cases_Bool w) [
            | inl within_it ↦
                subst (λ z. ReachesTo h z (length before) (length q.reached) (log_event s p e ∷ ms))
                (sym (ap (λ o. after_if o taken hangs a b c d) own ∙ ap (λ t. after_if true t hangs a b c d) (sym taken_fact ∙ within_it)))
                (reach_taken h b (length before) (length q.reached) (log_event s p e) ms (goes ∙ within_it)
                (go_on (with_event x before q) (ap (λ o. cond o w (p.within h)) own ∙ within_it)))
            | inr over ↦
                subst (λ z. ReachesTo h z (length before) (length q.reached) (log_event s p e ∷ ms))
                (sym (ap (λ o. after_if o taken hangs a b c d) own ∙ ap (λ t. after_if true t hangs a b c d) (sym taken_fact ∙ over)))
                (reach_over h (cond hangs c d) (length before) q (log_event s p e) ms (goes ∙ over) (either_sequence hangs c d q refl refl))
          ]
    ]

-- WHERE IT BEGINS

-- the thread that a plain event of a hart is of runs there
thread_runs : (s : Setting) (earlier : List Entry) (e : Entry) → IsBlockRun s (earlier ++ e ∷ []) → is_plain (choice_of e) (here_in_history s (history s earlier) e.hart.0) ≡ true → e.kind ≡ kind.Exec
    → running s e.hart.0 (history s earlier) ≡ Some e.tid.0
thread_runs s earlier e run plain is =
    let none = run_before s earlier (e ∷ []) run in
    let v = seen s earlier in
    let x = next_event v e (done_of (choice_of e) (here_of v e.hart.0)) none (last_decided s earlier e run) refl in
    let here = here_in_history s (history s earlier) e.hart.0 in
    let exec : choice_of e ≡ asked.Exec = ap (λ k. choice_with k e) is in
    let tid : e.tid.0 ≡ number_of (runs here) =
    ap (λ (y : Entry). y.tid.0) x.is ∙ ap (λ c. number_of (thread_in c (here_of v e.hart.0))) exec ∙ ap (λ z. number_of (runs z)) (same_here v e.hart.0 none) in
    go here (runs here) refl (sym (ap (λ c. is_plain c here) exec) ∙ plain) tid
  where
    go : (here : Here) (o : Option ℕ) → runs here ≡ o → is_plain_exec_by here o ≡ true → e.tid.0 ≡ number_of o → runs here ≡ Some e.tid.0
    go here None at plain tid = absurd (false≢true plain)
    go here (Some t) at plain tid = at ∙ ap Some (sym tid)

-- a sequence that begins with a plain event goes on behind it
begun_going : (s : Setting) (earlier : List Entry) (p : Place) (e : Entry) → IsBlockRun s (earlier ++ e ∷ []) → IsPlaced s p (history s earlier) → (facts_at s p e).plain ≡ true → (facts_at s p e).within ≡ true → p.within e.hart.0 ≡ false
    → IsGoing s (next_place s p e) (event s (history s earlier) e ∷ history s earlier) e.hart.0 (begun_with e.hart.0 (event s (history s earlier) e) (history s earlier)) (step_moved false (log_event s p e) e.hart.0)
begun_going s earlier p e run placed plain within was =
    let h = e.hart.0 in
    let before = history s earlier in
    let plain_here = ap (is_plain (choice_of e)) (sym (placed.here h)) ∙ plain in
    let calm = quiet s before e plain_here in
    let instruction : is_instruction e.kind ≡ true =
    (and_parts (facts_at s p e).inside (is_instruction e.kind) (sym (ap (λ w. (facts_at s p e).inside && cond w (is_taken_in e.kind (done_of (choice_of e) (here_at s p e)).interrupted) (is_instruction e.kind)) was) ∙ within)).1 in
    let exec = is_exec (plain_kind e.kind e (here_in_history s before h) plain_here) instruction in
    let runs_it = thread_runs s earlier e run plain_here exec in
    record {
      hart = refl;
      runs_there = ap (λ (k : Kernel). running_on h k.threads) calm.same ∙ runs_it;
      file_is = refl;
      moved_is = sym (moves_is s p before e e.tid.0 placed plain runs_it)
          ∙ sym (ap (λ b. cond (b && is_instruction e.kind) (facts_at s p e).moves_out false) (eqb_same h) ∙ ap (λ b. cond b (facts_at s p e).moves_out false) instruction);
      alive = calm.alive;
      within = ap (λ b. cond b (facts_at s p e).within (p.within h)) (eqb_same h) ∙ within;
    }
  where
    is_exec : (e.kind ≡ kind.Exec) ⊎ (e.kind ≡ kind.Drain) → is_instruction e.kind ≡ true → e.kind ≡ kind.Exec
    is_exec (inl is) instruction = is
    is_exec (inr is) instruction = absurd (false≢true (sym (ap is_instruction is) ∙ instruction))

-- THE ACT OF A NAME

-- an act that begins with z, which so many entries precede, and what follows z
pub record IsActOf (h : ℕ) (at_end : Bool) (placed : ℕ) (z : LogEvent) (xs : List LogEvent) (a : Act) : Type 0 where
  pub hart : a.hart.0 ≡ h
  pub first : a.first ≡ placed + 1
  pub other : z.facts.begins ≡ false → is_ended is_left a.form ≡ false
  pub last : z.facts.begins ≡ true → a.last ≡ placed + 1 + length (rest_of_act facts_of h xs)
  pub left : z.facts.begins ≡ true → z.facts.plain ≡ true → AllByRecursion (Plain h) (rest_of_act facts_of h xs)
      → is_ended is_left a.form ≡ (moved_by h (step_moved false z h) (rest_of_act facts_of h xs) && not (is_inside_next h at_end (after_act facts_of h xs)))

pub data IsFound (h n : ℕ) (at_end : Bool) (placed : ℕ) (ms : List LogEvent) (o : Option Act) : Type 0 where
  Nowhere : from_act facts_of h n ms ≡ [] → o ≡ None → IsFound h n at_end placed ms o
  There : (z : LogEvent) (xs : List LogEvent) (a : Act) → from_act facts_of h n ms ≡ z ∷ xs → o ≡ Some a → IsActOf h at_end (placed + length (before_act facts_of h n ms)) z xs a
      → IsFound h n at_end placed ms o

-- an event that isn't the first of act n: one that begins no act of the hart, or an earlier one
skips : (h n : ℕ) (at_end : Bool) (placed : ℕ) (x : LogEvent) (ms : List LogEvent) (o : Option Act) → begins_own h x.facts ≡ false → IsFound h n at_end (suc placed) ms o → IsFound h n at_end placed (x ∷ ms) o
skips h zero at_end placed x ms o none (Nowhere from is) = Nowhere (ap (λ b. cond b (x ∷ ms) (from_act facts_of h zero ms)) none ∙ from) is
skips h zero at_end placed x ms o none (There z xs a from is act) =
    There z xs a (ap (λ b. cond b (x ∷ ms) (from_act facts_of h zero ms)) none ∙ from) is
    (subst (λ k. IsActOf h at_end k z xs a) (let e : suc placed + length (before_act facts_of h zero ms) ≡ placed + length (x ∷ before_act facts_of h zero ms) = omega arith in e ∙ sym (ap (λ b. placed + length (cond b [] (x ∷ before_act facts_of h zero ms))) none)) act)
skips h (suc n) at_end placed x ms o none (Nowhere from is) = Nowhere (ap (λ b. cond b (from_act facts_of h n ms) (from_act facts_of h (suc n) ms)) none ∙ from) is
skips h (suc n) at_end placed x ms o none (There z xs a from is act) =
    There z xs a (ap (λ b. cond b (from_act facts_of h n ms) (from_act facts_of h (suc n) ms)) none ∙ from) is
    (subst (λ k. IsActOf h at_end k z xs a) (let e : suc placed + length (before_act facts_of h (suc n) ms) ≡ placed + length (x ∷ before_act facts_of h (suc n) ms) = omega arith in e ∙ sym (ap (λ b. placed + length (x ∷ cond b (before_act facts_of h n ms) (before_act facts_of h (suc n) ms))) none)) act)

one_fewer : (h n : ℕ) (at_end : Bool) (placed : ℕ) (x : LogEvent) (ms : List LogEvent) (o : Option Act) → begins_own h x.facts ≡ true → IsFound h n at_end (suc placed) ms o → IsFound h (suc n) at_end placed (x ∷ ms) o
one_fewer h n at_end placed x ms o one (Nowhere from is) = Nowhere (ap (λ b. cond b (from_act facts_of h n ms) (from_act facts_of h (suc n) ms)) one ∙ from) is
one_fewer h n at_end placed x ms o one (There z xs a from is act) =
    There z xs a (ap (λ b. cond b (from_act facts_of h n ms) (from_act facts_of h (suc n) ms)) one ∙ from) is
    (subst (λ k. IsActOf h at_end k z xs a) (let e : suc placed + length (before_act facts_of h n ms) ≡ placed + length (x ∷ before_act facts_of h n ms) = omega arith in e ∙ sym (ap (λ b. placed + length (x ∷ cond b (before_act facts_of h n ms) (before_act facts_of h (suc n) ms))) one)) act)

found_here : (h : ℕ) (at_end : Bool) (placed : ℕ) (x : LogEvent) (ms : List LogEvent) (a : Act) → begins_own h x.facts ≡ true → IsActOf h at_end placed x ms a → IsFound h zero at_end placed (x ∷ ms) (Some a)
found_here h at_end placed x ms a one act =
    There x ms a (ap (λ b. cond b (x ∷ ms) (from_act facts_of h zero ms)) one) refl
    (subst (λ k. IsActOf h at_end k x ms a) (let e : placed ≡ placed + 0 = omega arith in e ∙ sym (ap (λ b. placed + length (cond b [] (x ∷ before_act facts_of h zero ms))) one)) act)

-- acts of other harts are passed over
nth_other : (h n : ℕ) (a : Act) (as' : List Act) → eqb a.hart.0 h ≡ false → nth_act h n (a ∷ as') ≡ nth_act h n as'
nth_other h zero a as' other = ap (λ b. cond b (Some a) (nth_act h zero as')) other
nth_other h (suc n) a as' other = ap (λ b. cond b (nth_act h n as') (nth_act h (suc n) as')) other

alone_left : (k : Kind) → is_ended is_left (form_alone k) ≡ false
alone_left kind.Exec = refl
alone_left k = refl

begun_is : (s : Setting) (x : Event) (before : History) (q : Known) → sequence_on s x.entry.hart.0 before ≡ None → sequence_on s x.entry.hart.0 (x ∷ before) ≡ Some q → begun_with x.entry.hart.0 x before ≡ q
begun_is s x before q none is =
    go (is_inside_at s x.entry.hart.0 before) (is_instruction x.entry.kind) (sym (own_sequence s x before ∙ ap (taken_if (is_inside_at s x.entry.hart.0 before) x.entry.hart.0 x before) none) ∙ is)
  where
    go : (a b : Bool) → cond a (cond b (Some (begun_with x.entry.hart.0 x before)) None) None ≡ Some q → begun_with x.entry.hart.0 x before ≡ q
    go true true same = cc
    go true false same = absurd cc
    go false b same = absurd cc

begun_other : (s : Setting) (x : Event) (before : History) (later : List Event) (h n : ℕ) (o1 o2 : Option Known) (as' : List Act) → eqb x.entry.hart.0 h ≡ false
    → ((q : Known) → o1 ≡ None → o2 ≡ Some q → q.hart ≡ x.entry.hart.0) → nth_act h n (option_to_list (act_begun_by s x before later o1 o2) ++ as') ≡ nth_act h n as'
begun_other s x before later h n o1 None as' other own = nth_other h n (act_alone x before) as' other
begun_other s x before later h n None (Some q) as' other own =
    nth_other h n (act_of (followed s q (x ∷ before) later)) as' (ap (λ k. eqb k h) (followed_hart s q (x ∷ before) later ∙ own q refl refl) ∙ other)
begun_other s x before later h n (Some r) (Some q) as' other own = refl

nth_own : (h n : ℕ) (at_end : Bool) (placed : ℕ) (x : LogEvent) (ms : List LogEvent) (a : Act) (as' : List Act) → begins_own h x.facts ≡ true → a.hart.0 ≡ h
    → IsActOf h at_end placed x ms a → ((n : ℕ) → IsFound h n at_end (suc placed) ms (nth_act h n as')) → IsFound h n at_end placed (x ∷ ms) (nth_act h n (a ∷ as'))
nth_own h zero at_end placed x ms a as' one hart act rest =
    let own : eqb a.hart.0 h ≡ true = ap (λ k. eqb k h) hart ∙ eqb_same h in
    subst (IsFound h zero at_end placed (x ∷ ms)) (sym (ap (λ b. cond b (Some a) (nth_act h zero as')) own)) (found_here h at_end placed x ms a one act)
nth_own h (suc n) at_end placed x ms a as' one hart act rest =
    let own : eqb a.hart.0 h ≡ true = ap (λ k. eqb k h) hart ∙ eqb_same h in
    subst (IsFound h (suc n) at_end placed (x ∷ ms)) (sym (ap (λ b. cond b (nth_act h n as') (nth_act h (suc n) as')) own)) (one_fewer h n at_end placed x ms (nth_act h n as') one (rest n))

-- an event of the hart, by the sequences before it and after it
own_found : (s : Setting) (x : Event) (before : History) (later : List Event) (h n : ℕ) (at_end : Bool) (m : LogEvent) (ms : List LogEvent) (as' : List Act) (o1 o2 : Option Known) → x.entry.hart.0 ≡ h
    → is_own h m ≡ true → m.facts.within ≡ is_some o2 → m.facts.begins ≡ (is_some o2 && not (is_some o1))
    → ((q : Known) → o1 ≡ None → o2 ≡ Some q → IsActOf h at_end (length before) m ms (act_of (followed s q (x ∷ before) later)))
    → ((n : ℕ) → IsFound h n at_end (suc (length before)) ms (nth_act h n as'))
    → IsFound h n at_end (length before) (m ∷ ms) (nth_act h n (option_to_list (act_begun_by s x before later o1 o2) ++ as'))
own_found s x before later h n at_end m ms as' o1 None hart own within begins act rest =
    let one : begins_own h m.facts ≡ true = ap (λ b. b && begins_act m.facts) own ∙ ap (λ b. not b || m.facts.begins) within in
    let none = begins in
    nth_own h n at_end (length before) m ms (act_alone x before) as' one hart
    (record {
      hart = hart;
      first = refl;
      other = λ is. alone_left x.entry.kind;
      last = λ is. absurd (false≢true (sym none ∙ is));
      left = λ is plain all. absurd (false≢true (sym none ∙ is));
    })
    rest
own_found s x before later h n at_end m ms as' None (Some q) hart own within begins act rest =
    let one : begins_own h m.facts ≡ true = ap (λ b. b && begins_act m.facts) own ∙ ap (λ b. not m.facts.within || b) begins ∙ or_true (not m.facts.within) in
    let a = act q refl refl in
    nth_own h n at_end (length before) m ms (act_of (followed s q (x ∷ before) later)) as' one a.hart a rest
  where
    or_true : (b : Bool) → (b || true) ≡ true
    or_true true = refl
    or_true false = refl
own_found s x before later h n at_end m ms as' (Some r) (Some q) hart own within begins act rest =
    let none : begins_own h m.facts ≡ false = ap (λ b. b && begins_act m.facts) own ∙ ap (λ b. not b || m.facts.begins) within ∙ begins in
    skips h n at_end (length before) m ms (nth_act h n as') none (rest n)

either : (h : ℕ) (ms : List LogEvent) (placed : ℕ) (b : Bool) → goes_on facts_of h ms ≡ b → cond b (placed + length (rest_of_act facts_of h ms)) placed ≡ placed + length (rest_of_act facts_of h ms)
either h ms placed true is = refl
either h ms placed false is = rw (stops h ms is).0 (omega arith)

pub found : (s : Setting) (earlier rest : List Entry) (p : Place) (h n : ℕ) → place_after s earlier ≡ p → IsBlockRun s (earlier ++ rest) → IsPlaced s p (history s earlier)
    → IsFound h n (is_inside_at_place s (place_from s p rest) h) (length (history s earlier)) (log_events s p rest) (nth_act h n (acts_after s (history s earlier) (events_after s (history s earlier) rest)))
found s earlier [] p h n at run placed = Nowhere refl refl
found s earlier (e ∷ rest) p h n at run placed =
    let before = history s earlier in
    let x = event s before e in
    let there = next_place s p e in
    let ms = log_events s there rest in
    let later = events_after s (x ∷ before) rest in
    let as' = acts_after s (x ∷ before) later in
    let at_end = is_inside_at_place s (place_from s there rest) h in
    let longer : IsBlockRun s ((earlier ++ e ∷ []) ++ rest) = subst (λ (l : List Entry). IsBlockRun s l) (sym (append_assoc earlier (e ∷ []) rest)) run in
    let one = run_before s (earlier ++ e ∷ []) rest longer in
    let placed_there = placed_next s earlier p e at one placed in
    let at_next : place_after s (earlier ++ e ∷ []) ≡ there = place-more s earlier (e ∷ []) ∙ ap (λ q. next_place s q e) at in
    let is = history-append s earlier e in
    let placed_then = subst (IsPlaced s there) (sym is) placed_there in
    let more : (n : ℕ) → IsFound h n at_end (suc (length before)) ms (nth_act h n as') =
    λ n. subst (λ b. IsFound h n at_end (length b) ms (nth_act h n (acts_after s b (events_after s b rest)))) is (found s (earlier ++ e ∷ []) rest there h n at_next longer placed_then) in
    let o1 = sequence_on s e.hart.0 before in
    let o2 = sequence_on s e.hart.0 (x ∷ before) in
    elim (cases_Bool (eqb e.hart.0 h)) [
      | inr other ↦
          subst (IsFound h n at_end (length before) (log_event s p e ∷ ms)) (sym (begun_other s x before later h n o1 o2 as' other (λ q a b. begun_own s x before q a b)))
          (skips h n at_end (length before) (log_event s p e) ms (nth_act h n as') (ap (λ b. b && begins_act (facts_at s p e)) other) (more n))
      | inl own ↦
          let hh = eqb-true e.hart.0 h own in
          let within = within_sequence s p before e placed in
          let was = placed.within e.hart.0 in
          own_found s x before later h n at_end (log_event s p e) ms as' o1 o2 hh own within
          (ap (λ b. b && not (p.within e.hart.0)) within ∙ ap (λ b. is_some o2 && not b) was)
          (λ q none some.
          let begun = begun_is s x before q none some in
          let within_true : (facts_at s p e).within ≡ true = within ∙ ap is_some some in
          let was_false : p.within e.hart.0 ≡ false = was ∙ ap is_some none in
          let w = followed s q (x ∷ before) later in
          let hart_q : q.hart ≡ h = begun_own s x before q none some ∙ hh in
          let there_within : there.within q.hart ≡ true = ap there.within (hart_q ∙ sym hh) ∙ ap (λ b. cond b (facts_at s p e).within (p.within e.hart.0)) (eqb_same e.hart.0) ∙ within_true in
          let reached : length q.reached ≡ suc (length before) = ap (λ (k : Known). length k.reached) (sym begun) in
          let far : ReachesTo h w (suc (length before)) (suc (length before)) ms =
          subst (λ k. ReachesTo k w (suc (length before)) (suc (length before)) ms) hart_q
          (subst (λ k. ReachesTo q.hart w (suc (length before)) k ms) reached
          (subst (λ b. ReachesTo q.hart (followed s q b (events_after s b rest)) (length b) (length q.reached) ms) is
          (reaches s (earlier ++ e ∷ []) rest there q at_next longer placed_then there_within))) in
          record {
            hart = followed_hart s q (x ∷ before) later ∙ hart_q;
            first = ap (λ (b : History). length b + 1) (followed_begun s q (x ∷ before) later ∙ ap (λ (k : Known). k.begun) (sym begun));
            other = λ never. absurd (false≢true (sym never ∙ ap (λ b. b && not (p.within e.hart.0)) within_true ∙ ap not was_false));
            last = λ begins. far ∙ either h ms (suc (length before)) (goes_on facts_of h ms) refl ∙ omega arith;
            left = λ begins plain all.
                let going = begun_going s earlier p e one placed plain within_true was_false in
                let going_q = subst (λ k. IsGoing s there (x ∷ before) q.hart q (step_moved false (log_event s p e) k)) hh
                (subst (λ (k : Known). IsGoing s there (x ∷ before) k.hart k (step_moved false (log_event s p e) e.hart.0)) begun going) in
                let f = followed_is s (earlier ++ e ∷ []) rest there q (step_moved false (log_event s p e) h) at_next longer placed_then
                (subst (λ b. IsGoing s there b q.hart q (step_moved false (log_event s p e) h)) (sym is) going_q)
                (subst (λ k. AllByRecursion (Plain k) (rest_of_act facts_of k ms)) (sym hart_q) all) in
                let f_here = subst (λ b. IsFollowed q.hart (followed s q b (events_after s b rest)) (step_moved false (log_event s p e) h) (is_inside_at_place s (place_from s there rest) q.hart) (length b) (length q.reached) ms) is f in
                (subst (λ k. IsFollowed k w (step_moved false (log_event s p e) h) (is_inside_at_place s (place_from s there rest) k) (suc (length before)) (length q.reached) ms) hart_q f_here).left;
          })
          more
    ]

-- of a whole log
pub found_in : (s : Setting) (log : List Entry) (h n : ℕ) → IsBlockRun s log → IsFound h n (is_inside_at_place s (place_after s log) h) 0 (log_events s (first_place s) log) (nth_act h n (acts_of s log))
unfolding place_after history
found_in s log h n run =
    subst (λ (l : List Act). IsFound h n (is_inside_at_place s (place_from s (first_place s) log) h) 0 (log_events s (first_place s) log) (nth_act h n l)) (sym (acts_in_order s log))
    (found s [] log (first_place s) h n refl run (placed_start s (run_before s [] log run)))
