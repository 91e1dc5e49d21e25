-- What an attempt to go on by the choice of `run` comes to.
use Rattle.machine_core.proofs.Common.{◌≡◌, ℕ, ◌<◌, ◌≤◌, List, length, refl, sym, ap, ◌∙◌, true, false, leb, ◌||◌, Option, Some, None, is_some, Ok, Err, Result, option_map, le-ltb, Ended, Choice, Entry, History, Inside, IsMachine, Setting, Sight, here_in_history, past_of, ran, setting_of, Why, Pick, draws, pick, generator_in, word, IsChosen, advance_at, all_chosen, choice_at, credit_at, has_ended, next_entry, pick_at, decide, entry_in, history, over_at, sight_in, length-history, answered, Made, NoneNow, case_of, is_open, pick_in, choice_decides}
use Rattle.chooser.specs.declared.cases.Case.{Case}
use Rattle.chooser.specs.declared.cases.Case.TheVariants.{Settled, Open}
use Rattle.block_model.specs.declared.refusals.Refused.{Refused}
use Rattle.machine_core.proofs.ChoiceCredits.{choice_where, pick_read}
use Rattle.machine_core.proofs.Readings.{over_read}

-- whether a log is one of choices, as it is said and as it is computed
pub all_of : (s : Setting) (seed : ℕ) (log : List Entry) → IsChosen s seed log → true ≡ all_chosen s seed (history s log)
unfolding IsChosen
all_of s seed log chosen = sym chosen

pub chosen_of : (s : Setting) (seed : ℕ) (log : List Entry) → true ≡ all_chosen s seed (history s log) → IsChosen s seed log
unfolding IsChosen
chosen_of s seed log all = sym all

-- a machine whose run has ended, or whose log is full
pub over_ended : (m : Inside) → IsMachine m → is_some m.parts.ended ≡ true → has_ended (setting_of m) (past_of m) ≡ true
unfolding has_ended
over_ended m machine some = rw (ap is_some (sym (over_read m machine)) ∙ some) refl

-- and a machine that no event ended has ended where its log is full
pub ended_by_room : (m : Inside) (made : ℕ) → IsMachine m → false ≡ is_some m.parts.ended → made ≡ length m.log.items
    → leb m.limits.steps made ≡ has_ended (setting_of m) (past_of m)
unfolding has_ended
ended_by_room m made machine none long =
    let over : is_some (over_at (setting_of m) (past_of m)) ≡ false = ap is_some (sym (over_read m machine)) ∙ sym none in
    ap (leb m.limits.steps) (long ∙ sym (length-history (setting_of m) m.log.items)) ∙ ap (λ b. b || leb m.limits.steps (length (past_of m))) (sym over)

-- each answer
pub answers_ended : (s : Setting) (seed h : ℕ) (before : History) → has_ended s before ≡ true → Ended ≡ advance_at s seed h before
unfolding advance_at
answers_ended s seed h before over = rw over refl

pub answers_past : (s : Setting) (seed h : ℕ) (before : History) → has_ended s before ≡ false → s.limits.harts ≤ h → NoneNow ≡ advance_at s seed h before
unfolding advance_at next_entry choice_at
answers_past s seed h before goes past = rw (goes, le-ltb h s.limits.harts past) refl

pub answers_none : (s : Setting) (seed h : ℕ) (before : History) → has_ended s before ≡ false → h < s.limits.harts → None ≡ pick_at s seed h before → NoneNow ≡ advance_at s seed h before
unfolding advance_at next_entry
answers_none s seed h before goes lt none = rw (goes, choice_where s seed h before goes lt, ← none) refl

pub answers_made : (s : Setting) (seed h : ℕ) (before : History) (p : Pick) (e : Entry) → has_ended s before ≡ false → h < s.limits.harts → Some p ≡ pick_at s seed h before
    → e ≡ entry_in p.choice (here_in_history s before h) → Made e ≡ advance_at s seed h before
unfolding advance_at next_entry
answers_made s seed h before p e goes lt picked is = rw (goes, choice_where s seed h before goes lt, ← picked, is) refl

pub answers_next : (s : Setting) (seed h : ℕ) (before : History) (e : Entry) → has_ended s before ≡ false → next_entry s seed h before ≡ Some e → Made e ≡ advance_at s seed h before
unfolding advance_at
answers_next s seed h before e goes next = rw (goes, next) refl

-- where nothing is picked no word is drawn
pub no_draw : (x : Sight) (w : ℕ) → None ≡ pick x w → draws x ≡ false
unfolding pick
no_draw x w none = go (case_of x) none
  where
    go : (k : Case) → None ≡ pick_in k w x → is_open k ≡ false
    go (Settled p) is = refl
    go Open is = cc

-- what the machine picks is the place's pick
pub machine_picks : (m : Inside) (h : ℕ) (x : Sight) (p : Option Pick) → IsMachine m → true ≡ all_chosen (setting_of m) m.seed (past_of m) → h < m.limits.harts
    → x ≡ sight_in (here_in_history (setting_of m) (past_of m) h) (ran h (past_of m)) (credit_at (setting_of m) m.seed h (past_of m))
    → p ≡ pick x (word (generator_in m.chooser h)) → p ≡ pick_at (setting_of m) m.seed h (past_of m)
machine_picks m h x p machine all lt sees is =
    is ∙ (ap (λ y. pick y (word (generator_in m.chooser h))) sees
    ∙ pick_read (setting_of m) m.seed (past_of m) h m.chooser all (machine.generators (machine.chosen ∙ sym all) h lt))

pub never_refused : (made : Entry) (why : Why) (o : Option Why) → o ≡ None → Err why ≡ answered made o → ⊥
never_refused made why o none is = let bad : Err why ≡ Ok made = is ∙ ap (answered made) none in cc

pub made_is : (made e : Entry) (o : Option Why) → o ≡ None → Ok e ≡ answered made o → e ≡ made
made_is made e o none is = let same : Ok e ≡ Ok made = is ∙ ap (answered made) none in cc

pub none_of : {T : Type 0} (o : Option T) → false ≡ is_some o → o ≡ None
none_of None is = refl
none_of (Some x) is = cc

-- what is picked for a hart at its turn is what it makes next, and is allowed
pub record IsPicked (m : Inside) (h : ℕ) (p : Pick) : Type 0 where
  pub picked : Some p ≡ pick_at (setting_of m) m.seed h (past_of m)
  pub next : next_entry (setting_of m) m.seed h (past_of m) ≡ Some (entry_in p.choice (here_in_history (setting_of m) (past_of m) h))
  pub decided : decide (setting_of m) (past_of m) h p.choice ≡ Ok (entry_in p.choice (here_in_history (setting_of m) (past_of m) h))

next_where : (s : Setting) (seed h : ℕ) (before : History) (c : Choice) → choice_at s seed h before ≡ Some c → next_entry s seed h before ≡ Some (entry_in c (here_in_history s before h))
unfolding next_entry
next_where s seed h before c is = ap (option_map (λ z. entry_in z (here_in_history s before h))) is

pub turn_picks : (m : Inside) (h : ℕ) (x : Sight) (p : Pick) → IsMachine m → IsChosen (setting_of m) m.seed m.log.items → has_ended (setting_of m) (past_of m) ≡ false → h < m.limits.harts
    → x ≡ sight_in (here_in_history (setting_of m) (past_of m) h) (ran h (past_of m)) (credit_at (setting_of m) m.seed h (past_of m))
    → Some p ≡ pick x (word (generator_in m.chooser h)) → IsPicked m h p
turn_picks m h x p machine chosen going lt sees is =
    let s = setting_of m in
    let picked = machine_picks m h x (Some p) machine (all_of s m.seed m.log.items chosen) lt sees is in
    let choice : choice_at s m.seed h (past_of m) ≡ Some p.choice = choice_where s m.seed h (past_of m) going lt ∙ ap (option_map (λ (q : Pick). q.choice)) (sym picked) in
    record {
      picked = picked;
      next = next_where s m.seed h (past_of m) p.choice choice;
      decided = choice_decides s m.seed m.log.items h p.choice machine.run choice;
    }

pub same_entry : (e f : Entry) → (let a : Result Entry Refused = Ok e in a) ≡ Ok f → e ≡ f
same_entry e f is = cc

pub never_err : (w : Refused) (f : Entry) → (let a : Result Entry Refused = Err w in a) ≡ Ok f → ⊥
never_err w f is = cc
