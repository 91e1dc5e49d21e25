-- An entry that is due on a machine, and the place behind it.
use Rattle.std.proofs.Common.{◌≡◌, ◌+◌, ◌<◌, ◌^◌, [], ◌∷◌, ◌++◌, length, refl, ap, None, ◌∙◌, subst, arith}
use Rattle.mach_types.specs.Events.{choice_of}
use Rattle.mach_types.specs.Limits.{InRange}
use Rattle.mach_types.specs.declared.events.Entry.{Entry}
use Rattle.block_model.specs.Deciding.{done, entry_in, event}
use Rattle.block_model.specs.Events.{done_of, refusal_of}
use Rattle.block_model.specs.Here.{Here}
use Rattle.block_model.specs.History.{History, here_in_history}
use Rattle.block_model.specs.Plain.{here_of}
use Rattle.block_model.specs.Run.{IsBlockRun}
use Rattle.block_model.specs.Setting.{Seen, Setting}
use Rattle.block_model.proofs.Laws.{history-append, length-history, next_event, same_here}
use Rattle.event_facts.specs.Lines.{next_line}
use Rattle.event_facts.specs.Telling.{IsDecided, here_on, past_of}

-- its hart is one of the machine's, there is room for it, its condition holds, and it is the entry of its choice
pub record IsDue (m : Seen) (e : Entry) : Type 0 where
  pub lt : e.hart.0 < m.setting.limits.harts
  pub room : length m.log < m.setting.limits.steps
  pub free : refusal_of (choice_of e) (here_on m e.hart.0) ≡ None
  pub is : e ≡ entry_in (choice_of e) (here_on m e.hart.0)

pub due : (m : Seen) (e : Entry) → IsBlockRun m.setting m.log → IsDecided m e → IsDue m e
due m e run decided =
    let next = next_event m e (done_of (choice_of e) (here_of m e.hart.0)) run decided refl in
    let same : here_of m e.hart.0 ≡ here_on m e.hart.0 = same_here m e.hart.0 run in
    record {
      lt = next.lt;
      room = next.room;
      free = subst (λ (x : Here). refusal_of (choice_of e) x ≡ None) same next.free;
      is = subst (λ (x : Here). e ≡ entry_in (choice_of e) x) same next.is;
    }

-- what it does
pub what_is_done : (s : Setting) (before : History) (e : Entry) → done s before e ≡ done_of (choice_of e) (here_in_history s before e.hart.0)
unfolding done
what_is_done s before e = refl

-- what happened once it was made
pub past_after : (m m' : Seen) (e : Entry) → m' ≡ record m { log = m.log ++ e ∷ [] } → past_of m' ≡ event m.setting (past_of m) e ∷ past_of m
past_after m m' e made = ap past_of made ∙ history-append m.setting m.log e

-- the number of its line
pub line_is : (m : Seen) → length m.log + 1 ≡ next_line (past_of m)
line_is m = let same = length-history m.setting m.log in omega arith

pub few_lines : (m : Seen) (e : Entry) → IsBlockRun m.setting m.log → IsDecided m e → InRange m.setting.limits → length m.log + 1 < 2 ^ 32
few_lines m e run decided limits =
    let room = (due m e run decided).room in
    let most = limits.most_steps in
    omega arith
