-- How often a thread left its hart inside a sequence, as a run goes on.
use Rattle.std.proofs.Common.{◌≡◌, ℕ, ◌+◌, ◌<◌, ◌≤◌, Bool, true, false, cond, leb, List, [], ◌∷◌, ◌++◌, length, length-append, Option, Some, None, Result, Ok, Err, refl, sym, ap, ap₂, ◌∙◌, subst, arith}
use mir.Val.{bool_byte}
use Rattle.std.proofs.lemmas.Bool.{leb-false}
use Rattle.mach_types.proofs.Laws.{kind_back}
use Rattle.mach_types.specs.Events.{choice_of, kind_of}
use Rattle.mach_types.specs.declared.events.Choice.{Choice}
use Rattle.mach_types.specs.declared.events.Choice.TheVariants as choice
use Rattle.mach_types.specs.declared.events.Entry.{Entry}
use Rattle.mach_types.specs.declared.events.Hart.{Hart}
use Rattle.mach_types.specs.declared.events.Kind.{Kind}
use Rattle.mach_types.specs.declared.events.Kind.TheVariants as kind
use Rattle.mach_types.specs.declared.events.Why.TheVariants.{NoHart}
use Rattle.mach_types.specs.declared.limits.End.{End}
use Rattle.drawings.specs.declared.drawing.DrawnEvent.{DrawnEvent}
use Rattle.block_model.specs.Deciding.{decide, decide_in, entry_in, history, over_at, unless}
use Rattle.block_model.specs.Events.{refusal_of}
use Rattle.block_model.specs.Here.{Here}
use Rattle.block_model.specs.History.{History, here_in_history}
use Rattle.block_model.specs.Setting.{Seen, Setting}
use Rattle.block_model.specs.declared.refusals.Refused.{Refused}
use Rattle.block_model.specs.declared.refusals.Refused.TheVariants.{Full, NotEnabled}
use Rattle.block_model.proofs.Laws.{history-append}
use Rattle.drawn_machine.specs.Preemptions.{leaves_inside, left_inside, left_inside_in}

-- so often so far
pub record IsCounted (now : Seen) (inside : ℕ) : Type 0 where
  pub count : left_inside_in now ≡ inside
  pub few : inside ≤ length now.log

-- no event, no preemption
history_nil : (s : Setting) → history s [] ≡ []
unfolding history
history_nil s = refl

pub none_at_boot : (m : Seen) → m.log ≡ [] → IsCounted m 0
none_at_boot m empty = record {
  count = ap (λ (log : List Entry). left_inside m.setting (history m.setting log)) empty
      ∙ ap (left_inside m.setting) (history_nil m.setting);
  few = omega arith;
}

-- an event that is made is of a hart of the machine
by_tests : (full none : Bool) (r : Result Entry Refused) (entry : Entry)
    → cond full (Err Full) (cond none (Err (NotEnabled NoHart)) r) ≡ Ok entry → none ≡ false
by_tests true none r entry is = absurd cc
by_tests false true r entry is = absurd cc
by_tests false false r entry is = refl

by_decision : (made : ℕ) (over : Option End) (c : Choice) (here : Here) (entry : Entry) → decide_in made over c here ≡ Ok entry
    → here.hart < here.setting.limits.harts
by_decision made (Some e) c here entry is = absurd cc
by_decision made None c here entry is =
    leb-false here.setting.limits.harts here.hart
    (by_tests (leb here.setting.limits.steps made) (leb here.setting.limits.harts here.hart) (unless (entry_in c here) (refusal_of c here))
    entry is)

pub of_the_machine : (s : Setting) (before : History) (h : ℕ) (c : Choice) (entry : Entry) → decide s before h c ≡ Ok entry
    → h < s.limits.harts
unfolding decide
of_the_machine s before h c entry is = by_decision (length before) (over_at s before) c (here_in_history s before h) entry is

-- 1 for a truth
abbrev pub one_if : Bool → ℕ
one_if b = cond b 1 0

pub one_at_most : (b : Bool) → one_if b ≤ 1
one_at_most true = omega arith
one_at_most false = omega arith

pub as_number : (b : Bool) → bool_byte b ≡ one_if b
as_number true = refl
as_number false = refl

-- what is seen of the event that was drawn is seen of its entry
pub leaves_as_entry : (s : Setting) (before : History) (x : Entry) (e : DrawnEvent) (b : Bool) → x.hart ≡ e.hart → choice_of x ≡ e.choice
    → b ≡ leaves_inside s before e.hart.0 (kind_of e.choice) → b ≡ leaves_inside s before x.hart.0 x.kind
leaves_as_entry s before x e b hart choice is =
    let kind : x.kind ≡ kind_of e.choice = sym (kind_back x.kind x.tid) ∙ ap kind_of choice in
    is ∙ sym (ap₂ (λ (h : Hart) (k : Kind). leaves_inside s before h.0 k) hart kind)

-- no thread leaves by an instruction
pub none_leaves : (s : Setting) (before : History) (x : Entry) → x.kind ≡ kind.Exec → false ≡ leaves_inside s before x.hart.0 x.kind
none_leaves s before x is = rw is refl

pub exec_is : (x : Entry) → choice_of x ≡ choice.Exec → x.kind ≡ kind.Exec
exec_is x is = sym (kind_back x.kind x.tid) ∙ ap kind_of is

-- so one more is a number of 32 bits
pub small_count : (now : Seen) (inside : ℕ) (b : Bool) (n : ℕ) → length now.log ≤ 1000000 → IsCounted now inside → n ≡ bool_byte b
    → inside + n < 4294967296
small_count now inside b n short so_far number =
    let few = so_far.few in omega (arith, few, short, number, as_number b, one_at_most b)

-- one event more
counted_by : (now : Seen) (inside : ℕ) (x : Entry) (b : Bool) (n : ℕ) → n ≡ bool_byte b → IsCounted now inside
    → b ≡ leaves_inside now.setting (history now.setting now.log) x.hart.0 x.kind
    → IsCounted (record now { log = now.log ++ x ∷ [] }) (inside + n)
counted_by now inside x b n number so_far is =
    let before = history now.setting now.log in
    let next : left_inside now.setting (history now.setting (now.log ++ x ∷ []))
    ≡ left_inside now.setting before + one_if (leaves_inside now.setting before x.hart.0 x.kind) =
    ap (left_inside now.setting) (history-append now.setting now.log x) in
    let by_b : one_if (leaves_inside now.setting before x.hart.0 x.kind) ≡ one_if b = ap one_if (sym is) in
    let count = so_far.count in
    let few = so_far.few in
    record {
      count = omega (arith, next, by_b, count, number, as_number b);
      few = omega (arith, few, number, as_number b, one_at_most b, length-append now.log (x ∷ []));
    }

pub counted_more : (now next : Seen) (inside : ℕ) (x : Entry) (b : Bool) (n : ℕ) → n ≡ bool_byte b → IsCounted now inside
    → b ≡ leaves_inside now.setting (history now.setting now.log) x.hart.0 x.kind → next ≡ record now { log = now.log ++ x ∷ [] }
    → IsCounted next (inside + n)
counted_more now next inside x b n number so_far leaves is =
    subst (λ (v : Seen). IsCounted v (inside + n)) (sym is) (counted_by now inside x b n number so_far leaves)
