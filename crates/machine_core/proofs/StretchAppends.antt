-- A machine that takes a stretch in: the hart is as it was when the stretch was lent.
use Rattle.machine_core.proofs.Common.{List, [], ◌∷◌, ◌-◌, take, zero, suc, eqb, eq-eqb, ◌+◌, map, Bool, leb, is_some, not, ◌&&◌, ◌≡◌, ℕ, ◌<◌, ◌≤◌, ◌++◌, length, refl, sym, ap, ◌∙◌, subst, true, false, get_or, None, Some, arith, option_map, IsSome, with_item, same_Some, slice_get-get_or, Hart, HartState, ImagePage, Inside, IsBlockRun, IsMachine, Parts, Saved, Setting, past_of, plain_seen, seen, setting_of, thread, Tid, IsChosen, Luck, all_chosen, has_ended, history, over_at, History, events, stand_of, Stretch, advanced, stepped, Steps, is_lent, length-history, credit_of, file_of, file_on, hart_at, executed, or_parts, min, ◌^◌, leb-false, get_or_from_slice_get, awaits, IsStretchOf, appended, HasStayed, events_few, ran_few, stays, steps_of, worked_keeps, HasCode, IsAlone, taken_in}
use Rattle.std.proofs.lemmas.List.{length-take-le}
use Rattle.machine_core.proofs.AdvanceAnswers.{all_of, none_of}
use Rattle.machine_core.proofs.StretchSteps.{AreAllOn, IsOnWay, all_on, settled_alike}
use Rattle.machine_core.proofs.ChoiceCredits.{credit_read}
use Rattle.machine_core.proofs.Readings.{hart_read, here_read, over_read}
use Rattle.machine_core.proofs.MachineCredits.{IsSettled, machine_settled}
use Rattle.machine_core.proofs.MachineSteps.{IsLogPlace, place_of}

-- the hart of a stretch is one of the machine's
pub of_machine : (m : Inside) (h : Hart) (l : Stretch) → IsStretchOf (setting_of m) m.seed h.0 m.log.items l → h.0 < m.limits.harts
of_machine m h l fits = (is_lent (setting_of m) m.seed h.0 (history (setting_of m) fits.lent_at) fits.first fits.began).lt

-- it stands as when the stretch was lent, and the stretch's instructions come next
pub record IsReady (m : Inside) (h : Hart) (l : Stretch) (x : HartState) : Type 0 where
  pub thread : Tid
  pub way : IsOnWay (setting_of m) m.seed m.log.items m.parts m.chooser h thread x
  pub first : Stretch
  pub file : first.file ≡ file_of x
  pub credit : first.credit ≡ x.credit
  pub steps : Steps m.code first l.pcs l

-- a run that hasn't ended was ended by no event
pub goes_on : (m : Inside) → IsMachine m → has_ended (setting_of m) (past_of m) ≡ false → m.parts.ended ≡ None
unfolding has_ended
goes_on m machine goes =
    let both = or_parts (is_some (over_at (setting_of m) (past_of m))) (leb m.limits.steps (length (past_of m))) goes in
    over_read m machine ∙ none_of (over_at (setting_of m) (past_of m)) (sym both.0)

-- a hart on credit waits in no barrier
out_of_barrier : (idle in_barrier credit : Bool) → not idle && not in_barrier && credit ≡ true → in_barrier ≡ false
out_of_barrier idle in_barrier credit is = grind arith

-- a hart with a thread that waits in no barrier is on its way
pub on_way : (m : Inside) (h : Hart) (x : HartState) (t : Tid) → IsMachine m → IsChosen (setting_of m) m.seed m.log.items → has_ended (setting_of m) (past_of m) ≡ false
    → h.0 < m.limits.harts → x ≡ get_or m.parts.harts.items h.0 x → x.running ≡ Some t → x.waits ≡ None
    → IsOnWay (setting_of m) m.seed m.log.items m.parts m.chooser h t x
on_way m h x t machine chosen goes lt value busy free =
    let s = setting_of m in
    let in_list : h.0 < length m.parts.harts.items = omega (arith, machine.tied.all_harts, lt) in
    let chosen_so : m.chosen ≡ true = machine.chosen ∙ sym (all_of s m.seed m.log.items chosen) in
    record {
      run = machine.run;
      settled = subst (λ b. IsSettled s m.seed m.log.items m.parts m.chooser b) chosen_so (machine_settled m machine);
      limits = machine.limits;
      goes = goes_on m machine goes;
      lt = lt;
      there = slice_get-get_or m.parts.harts.items h.0 x in_list ∙ ap Some (sym value);
      busy = busy;
      no_barrier = free;
    }

pub ready : (m : Inside) (h : Hart) (l : Stretch) (x : HartState) → IsMachine m → IsChosen (setting_of m) m.seed m.log.items
    → IsStretchOf (setting_of m) m.seed h.0 m.log.items l → has_ended (setting_of m) (past_of m) ≡ false → events h.0 (past_of m) ≡ l.events
    → x ≡ get_or m.parts.harts.items h.0 x → IsReady m h l x
ready m h l x machine chosen fits goes same value =
    let s = setting_of m in
    let began = is_lent s m.seed h.0 (history s fits.lent_at) fits.first fits.began in
    let has = steps_of m.code fits.times fits.first l fits.so_far in
    let kept = worked_keeps m.code has.pcs fits.first l has.steps in
    let run : IsBlockRun s (fits.lent_at ++ fits.since) = subst (IsBlockRun s) (sym fits.whole) machine.run in
    let events_at : events h.0 (history s (fits.lent_at ++ fits.since)) ≡ events h.0 (history s fits.lent_at) =
    ap (λ g. events h.0 (history s g)) fits.whole ∙ (same ∙ (kept.1 ∙ ap (λ (a : Stretch). a.events) began.is)) in
    let stayed : HasStayed s m.seed h.0 began.thread (history s fits.lent_at) (past_of m) =
    subst (λ g. HasStayed s m.seed h.0 began.thread (history s fits.lent_at) (history s g)) fits.whole (stays s m.seed h.0 began.thread fits.lent_at fits.since run.allowed began.runs events_at) in
    let is = hart_read m h.0 x machine began.lt value in
    let there = here_read m h.0 in
    let all_so : true ≡ all_chosen s m.seed (past_of m) = all_of s m.seed m.log.items chosen in
    let pcs : l.pcs ≡ has.pcs = has.added ∙ ap (λ (a : Stretch). a.pcs ++ has.pcs) began.is in
    record {
      thread = thread began.thread;
      way = on_way m h x (thread began.thread) machine chosen goes began.lt value (ap (λ (y : HartState). y.running) is ∙ ap (option_map thread) stayed.runs)
          (ap (λ (y : HartState). y.waits) is ∙ none_of (awaits h.0 (past_of m)) (sym (stayed.same_waits ∙ out_of_barrier _ _ _ began.on_credit)));
      first = fits.first;
      file = ap (λ (a : Stretch). a.file) began.is ∙ (sym stayed.same_file
          ∙ (ap (λ o. let f : Saved = record { file = (file_on there o).file; pc = (file_on there o).pc } in f) (sym stayed.runs) ∙ ap file_of (sym is)));
      credit = ap (λ (a : Stretch). a.credit) began.is ∙ (ap (λ (k : Luck). k.credit) (sym stayed.same_luck)
          ∙ (sym (credit_read s m.seed (past_of m) h.0 all_so) ∙ ap (λ (y : HartState). y.credit) (sym is)));
      steps = subst (λ ps. Steps m.code fits.first ps l) (sym pcs) has.steps;
    }

-- a hart's counts fit their words once so many instructions more are counted as the log has room for
pub counts_fit : (m : Inside) (h : Hart) (x : HartState) (n : ℕ) → IsMachine m → h.0 < m.limits.harts → x ≡ get_or m.parts.harts.items h.0 x → length m.log.items + n ≤ m.limits.steps
    → (x.ran + n < 2 ^ 32) × (x.events + n < 2 ^ 32)
counts_fit m h x n machine lt value room =
    let there : HartState = hart_at (setting_of m) (plain_seen (seen m)) h.0 (credit_of m.parts.harts.items h.0) in
    let own : x ≡ there = value ∙ get_or_from_slice_get m.parts.harts.items h.0 there x (machine.tied.harts h.0 lt) in
    let ran : x.ran ≡ (plain_seen (seen m)).ran h.0 = ap (λ (y : HartState). y.ran) own in
    let made : x.events ≡ (plain_seen (seen m)).events h.0 = ap (λ (y : HartState). y.events) own in
    let few_ran = ran_few (seen m) h.0 machine.run in
    let few_made = events_few (seen m) h.0 machine.run in
    (omega (arith, ran, few_ran, room, machine.limits.most_steps), omega (arith, made, few_made, room, machine.limits.most_steps))

-- a machine's parts with this state of a hart
abbrev pub with_hart : Inside → ℕ → HartState → Parts
with_hart m h y = record m.parts { harts = with_item m.parts.harts h y }

-- the machine once it has taken the stretch in
pub record IsTakenIn (m : Inside) (h : Hart) (l : Stretch) (x : HartState) (t : Tid) (parts : Parts) : Type 0 where
  pub run : IsBlockRun (setting_of m) (m.log.items ++ map (executed h t) l.pcs)
  pub settled : IsSettled (setting_of m) m.seed (m.log.items ++ map (executed h t) l.pcs) parts m.chooser true
  pub log_after : advanced (setting_of m) m.seed h.0 (length l.pcs) m.log.items ≡ Some (m.log.items ++ map (executed h t) l.pcs)

pub taken : (m : Inside) (h : Hart) (l : Stretch) (x : HartState) (t : Tid) → IsReady m h l x → length m.log.items + length l.pcs ≤ m.limits.steps → x.running ≡ Some t
    → IsTakenIn m h l x t (with_hart m h.0 (taken_in l x))
taken m h l x t is room busy =
    let s = setting_of m in
    let same : is.thread ≡ t = same_Some is.thread t (sym is.way.busy ∙ busy) in
    let all = subst (λ u. AreAllOn s m.seed m.log.items m.parts m.chooser h u x l.pcs l) same
    (all_on s m.seed l.pcs m.log.items m.parts m.chooser h is.thread x is.first l is.way room is.file is.credit is.steps) in
    record {
      run = all.way.run;
      settled = settled_alike s m.seed (m.log.items ++ map (executed h t) l.pcs) all.parts (with_hart m h.0 (taken_in l x)) m.chooser true all.way.settled
          (λ k. sym (all.harts k)) (sym all.pages) (sym all.kernel) (sym all.ended);
      log_after = all.log_after;
    }

pub taken_ready : (m : Inside) (h : Hart) (l : Stretch) (x : HartState) (t : Tid) → IsMachine m → IsChosen (setting_of m) m.seed m.log.items
    → IsStretchOf (setting_of m) m.seed h.0 m.log.items l → has_ended (setting_of m) (past_of m) ≡ false → events h.0 (past_of m) ≡ l.events
    → x ≡ get_or m.parts.harts.items h.0 x → length m.log.items + length l.pcs ≤ m.limits.steps → x.running ≡ Some t → IsTakenIn m h l x t (with_hart m h.0 (taken_in l x))
taken_ready m h l x t machine chosen fits goes same value = taken m h l x t (ready m h l x machine chosen fits goes same value)

-- a run that hasn't ended has room
pub has_room : (m : Inside) → has_ended (setting_of m) (past_of m) ≡ false → length m.log.items < m.limits.steps
unfolding has_ended
has_room m goes =
    let long = length-history (setting_of m) m.log.items in
    let within = or_parts (is_some (over_at (setting_of m) (past_of m))) (leb m.limits.steps (length (past_of m))) goes in
    omega (arith, long, leb-false m.limits.steps (length (past_of m)) within.1)

-- the first instructions of a stretch are steps too
first_steps : (pages : List ImagePage) (n : ℕ) (pcs : List ℕ) (a l : Stretch) → Steps pages a pcs l → (b : Stretch) × Steps pages a (take n pcs) b
first_steps pages zero pcs a l steps = (a, refl)
first_steps pages (suc n) [] a l steps = (a, refl)
first_steps pages (suc n) (pc ∷ pcs) a l steps =
    let rest = first_steps pages n pcs (stepped pages a) l steps.2 in
    (rest.0, (steps.0, steps.1, rest.1))

-- so the hart makes so many entries
pub makes : (m : Inside) (h : Hart) (l : Stretch) (n : ℕ) → IsMachine m → IsChosen (setting_of m) m.seed m.log.items
    → IsStretchOf (setting_of m) m.seed h.0 m.log.items l → has_ended (setting_of m) (past_of m) ≡ false → events h.0 (past_of m) ≡ l.events
    → n ≤ length l.pcs → length m.log.items + n ≤ m.limits.steps → IsSome (advanced (setting_of m) m.seed h.0 n m.log.items)
makes m h l n machine chosen fits goes same within room =
    let s = setting_of m in
    let x : HartState = hart_at s (plain_seen (seen m)) h.0 (credit_of m.parts.harts.items h.0) in
    let there : x ≡ get_or m.parts.harts.items h.0 x = sym (get_or_from_slice_get m.parts.harts.items h.0 x x (machine.tied.harts h.0 (of_machine m h l fits))) in
    let is = ready m h l x machine chosen fits goes same there in
    let first = first_steps m.code n l.pcs is.first l is.steps in
    let long : length (take n l.pcs) ≡ n = length-take-le n l.pcs within in
    let all = all_on s m.seed (take n l.pcs) m.log.items m.parts m.chooser h is.thread x is.first first.0 is.way (omega (arith, room, long)) is.file is.credit first.1 in
    let made : advanced s m.seed h.0 n m.log.items ≡ Some (m.log.items ++ map (executed h is.thread) (take n l.pcs)) = ap (λ k. advanced s m.seed h.0 k m.log.items) (sym long) ∙ all.log_after in
    rw made refl

-- how many entries come of it
pub appended_is : (s : Setting) (h : ℕ) (before : History) (l : Stretch) → eqb (length l.pcs) 0 ≡ false → has_ended s before ≡ false → events h before ≡ l.events
    → appended s h before l ≡ min (length l.pcs) (s.limits.steps - length before)
appended_is s h before l some goes same = rw (some, goes, eq-eqb (events h before) l.events same) refl

-- the place of a machine whose run hasn't ended
pub place_open : (m : Inside) (h : ℕ) → IsMachine m → has_ended (setting_of m) (past_of m) ≡ false → h < m.limits.harts → IsLogPlace (seen m) m.parts h
place_open m h machine goes lt = place_of m h machine (goes_on m machine goes) (has_room m goes) lt

-- whose process is alone
pub is_alone : (m : Inside) → IsAlone m.code (stand_of (seen m))
is_alone m = record { none = refl; pages = refl }

pub code_open : (m : Inside) (h : ℕ) → IsMachine m → has_ended (setting_of m) (past_of m) ≡ false → h < m.limits.harts → HasCode m.code m.parts h
code_open m h machine goes lt = record { stand = stand_of (seen m); place = (place_open m h machine goes lt).at; alone = is_alone m }
