-- The stretch that a machine lends of a hart is the one that is lent by its log.
use Rattle.machine_core.proofs.Common.{List, [], sym, ◌∷◌, ◌++◌, ◌+◌, subst, arith, ◌≡◌, ℕ, ◌≤◌, ◌<◌, ◌||◌, ◌&&◌, refl, ap, ◌∙◌, Bool, true, false, not, cond, eqb, ltb, Option, None, Some, is_some, zero, suc, IsSome, le-ltb, lt-ltb, ne_eqb, option_and_then, option_map, option_map_or, Ended, Entry, HartState, Setting, sets_register, advance_at, has_ended, luck, next_entry, sight_with, history, is_writable, memory, waiting_here, History, events, here_in_history, ran, next_effect, is_local_on, thread, Stretch, advanced, file_on, hart_in, if◌then◌else◌, made_or_none, running, next_is_none, id_on, stretch_on}
use Rattle.mach_types.specs.declared.events.Advance.{Advance}
use Rattle.block_model.specs.Stretches.{is_on_credit, lent, lent_to}
use Rattle.machine_core.specs.Advancing.{made_in}
use Rattle.machine_core.proofs.Sights.{next_local}

-- nothing is lent where the run has ended, or of a hart that the machine hasn't
pub ended_lends_none : (s : Setting) (seed h : ℕ) (before : History) → has_ended s before ≡ true → None ≡ lent s seed h before
unfolding lent
ended_lends_none s seed h before over = rw over refl

pub past_lends_none : (s : Setting) (seed h : ℕ) (before : History) → s.limits.harts ≤ h → None ≡ lent s seed h before
unfolding lent
past_lends_none s seed h before past = rw (le-ltb h s.limits.harts past) (none_either (not (has_ended s before)))
  where
    none_either : (b : Bool) → None ≡ cond (b && false && is_on_credit (sight_with s h before (luck s seed h before))) (lent_to s seed h before (running s h before)) None
    none_either true = refl
    none_either false = refl

-- two ways to say that credit is left and the next instruction touches registers alone
on_credit : {X : Type 0} (waits : Bool) (credit : ℕ) (is_local : Bool) (x : Option X)
    → cond (false || waits || eqb credit 0 || not is_local) None x ≡ cond (not waits && (ltb 0 credit && is_local)) x None
on_credit true credit is_local x = refl
on_credit false zero true x = refl
on_credit false zero false x = refl
on_credit false (suc n) is_local x = rw (ne_eqb (suc n) 0 (λ none. omega (arith, none)), lt-ltb 0 (suc n) (omega arith)) (either is_local)
  where
    either : (b : Bool) → cond (not b) None x ≡ cond b x None
    either true = refl
    either false = refl

-- a hart in this state, with a thread or without
abbrev state_on : Setting → ℕ → ℕ → History → Option ℕ → HartState
state_on s seed h before o =
    let here = here_in_history s before h in
    record {
      file = (file_on here o).file;
      pc = (file_on here o).pc;
      buffer = waiting_here here;
      running = option_map thread o;
      requests = here.requests;
      restart = here.restart;
      waits = here.awaits;
      reserved = here.reserved;
      ran = ran h before;
      credit = (luck s seed h before).credit;
      events = events h before;
      cid = id_on here o;
    }

lent_on : (s : Setting) (seed h : ℕ) (before : History) (o : Option ℕ) → running s h before ≡ o → has_ended s before ≡ false → h < s.limits.harts
    → stretch_on s.program.pages h (state_on s seed h before o) ≡ lent s seed h before
unfolding lent
lent_on s seed h before None at goes lt = rw (goes, lt-ltb h s.limits.harts lt, at) refl
lent_on s seed h before (Some t) at goes lt =
    let here = here_in_history s before h in
    let credit = (luck s seed h before).credit in
    let is_local = option_map_or sets_register (next_effect s.program.pages (here.file t)) false in
    let same : is_local ≡ is_local_on here (Some t) = next_local (memory here) (is_writable here) s.program.pages (here.file t) in
    let whole : Option Stretch = lent_to s seed h before (Some t) in
    rw (goes, lt-ltb h s.limits.harts lt, at)
    (on_credit (is_some here.awaits) credit is_local whole ∙ ap (λ b. cond (not (is_some here.awaits) && (ltb 0 credit && b)) whole None) same)

pub lent_is : (s : Setting) (seed h : ℕ) (before : History) (x : HartState) → x ≡ hart_in (here_in_history s before h) (ran h before) (events h before) (luck s seed h before).credit
    → has_ended s before ≡ false → h < s.limits.harts → stretch_on s.program.pages h x ≡ lent s seed h before
lent_is s seed h before x is goes lt = ap (stretch_on s.program.pages h) is ∙ lent_on s seed h before (running s h before) refl goes lt

-- a log that is on its way to so many entries more
pub record IsOnItsWay (s : Setting) (seed h : ℕ) (begun now : List Entry) (made count : ℕ) : Type 0 where
  pub left : ℕ
  pub counted : left + made ≡ count
  pub whole : advanced s seed h left now ≡ advanced s seed h count begun

-- the entry that a hart makes next is made by an attempt to go on
made_next : (s : Setting) (seed h : ℕ) (log : List Entry) (n : ℕ) (o : Option Entry) (over : Bool) → next_entry s seed h (history s log) ≡ o → has_ended s (history s log) ≡ over
    → IsSome (option_and_then (λ e. advanced s seed h n (log ++ e ∷ [])) o)
    → advanced s seed h n (log ++ made_in (if over then Ended else made_or_none o)) ≡ option_and_then (λ e. advanced s seed h n (log ++ e ∷ [])) o
made_next s seed h log n None over at is some = cc
made_next s seed h log n (Some e) true at is some = let none : None ≡ Some e = sym (next_is_none s seed log h is) ∙ at in cc
made_next s seed h log n (Some e) false at is some = refl

pub goes_its_way : (s : Setting) (seed h : ℕ) (begun now : List Entry) (made count : ℕ) (a : Advance) → IsOnItsWay s seed h begun now made count → made < count
    → IsSome (advanced s seed h count begun) → a ≡ advance_at s seed h (history s now) → IsOnItsWay s seed h begun (now ++ made_in a) (made + 1) count
unfolding advance_at
goes_its_way s seed h begun now made count a way room some is = go way.left way.counted way.whole
  where
    go : (left : ℕ) → left + made ≡ count → advanced s seed h left now ≡ advanced s seed h count begun → IsOnItsWay s seed h begun (now ++ made_in a) (made + 1) count
    go zero counted whole = absurd (omega (arith, counted, room))
    go (suc n) counted whole = record {
      left = n;
      counted = omega (arith, counted);
      whole = ap (λ x. advanced s seed h n (now ++ made_in x)) is
          ∙ (made_next s seed h now n (next_entry s seed h (history s now)) (has_ended s (history s now)) refl refl (subst IsSome (sym whole) some) ∙ whole);
    }

pub is_there : (s : Setting) (seed h : ℕ) (begun now : List Entry) (made count : ℕ) → IsOnItsWay s seed h begun now made count → made ≡ count → advanced s seed h count begun ≡ Some now
is_there s seed h begun now made count way all = go way.left way.counted way.whole
  where
    go : (left : ℕ) → left + made ≡ count → advanced s seed h left now ≡ advanced s seed h count begun → advanced s seed h count begun ≡ Some now
    go zero counted whole = sym whole
    go (suc n) counted whole = absurd (omega (arith, counted, all))
