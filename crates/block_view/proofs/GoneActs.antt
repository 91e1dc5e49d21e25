-- A ledger does the same whatever acts are gone before those that it lists.
use Rattle.std.proofs.Common.{◌≡◌, ℕ, zero, suc, ◌+◌, ◌<◌, List, [], ◌∷◌, ◌++◌, ◌||◌, append_assoc, append-nil, length, length-append, map, set, slice_get, get_or, find, filter, refl, sym, ap, ◌∙◌, arith, eqb, Bool, true, false, cond, not, Option, Some, None, is_none}
use Rattle.std.specs.List.{list_all}
use Rattle.std.specs.Option.{option_map}
use Rattle.std.proofs.lemmas.Bool.{eqb-true, false_from_ne_true, false≢true}
use Rattle.std.proofs.lemmas.List.{map-append}
use Rattle.mach_types.proofs.Laws.{eqb_same}
use Rattle.mach_types.specs.Events.{is_run}
use Rattle.mach_types.specs.declared.events.Tid.{Tid}
use Rattle.block_model.specs.declared.acts.SeqEnd.{SeqEnd}
use Rattle.block_model.specs.declared.acts.SeqEnd.TheVariants as ends
use Rattle.block_view.specs.Following.{IsAtRest, IsLetGo, behind, hung_moved, moved}
use Rattle.block_view.specs.Following.IsLetGo.{Same, Gone}
use Rattle.block_view.specs.Ledgers.{HasPlaces, Kept, act_by, begins, begun, changed_at, closed, closed_by, course_by, end_by, end_here, ended_at, going_on, gone_on, hanging_of, is_more, is_of, is_open, is_place, leaves_inside, noted, open_from, open_one, settled, settled_act, settled_act_by, settled_by, stopped, stopped_act, taken_in, turn_in, turn_noted, verdict_by, with_act, with_act_alone, with_end, with_end_at, with_going, with_hanging, with_last, without_hanging}
use Rattle.block_view.specs.declared.forms.Act.{Act}
use Rattle.block_view.specs.declared.forms.Form.TheVariants.{Sequence}
use Rattle.block_view.specs.declared.ledger.Going.{Going}
use Rattle.block_view.specs.declared.ledger.Hanging.{Hanging}
use Rattle.block_view.specs.declared.passing.Passed.{Passed}
use Rattle.block_view.specs.declared.turns.Turn.{Turn}
use Rattle.block_view.specs.declared.turns.Turn.TheVariants.{Begins, Ends}
use Rattle.block_view.proofs.Noting.{noted_alone, noted_begun, noted_more, noted_stopped}

-- LISTS BEHIND OTHERS

changed_behind : (gone acts : List Act) (f : Act → Act) (i place : ℕ) → place ≡ length gone + i
    → changed_at place f (gone ++ acts) ≡ gone ++ changed_at i f acts
changed_behind [] acts f i place is = let same : place ≡ i = omega (arith, is) in ap (λ n. changed_at n f acts) same
changed_behind (x ∷ gone) acts f i zero is = absurd (omega (arith, is))
changed_behind (x ∷ gone) acts f i (suc place) is = ap (λ ys. x ∷ ys) (changed_behind gone acts f i place (omega (arith, is)))

got_behind : (gone acts : List Act) (i place : ℕ) → place ≡ length gone + i → slice_get (gone ++ acts) place ≡ slice_get acts i
got_behind [] acts i place is = let same : place ≡ i = omega (arith, is) in ap (slice_get acts) same
got_behind (x ∷ gone) acts i zero is = absurd (omega (arith, is))
got_behind (x ∷ gone) acts i (suc place) is = got_behind gone acts i place (omega (arith, is))

-- what goes on, moved
on_moved : (n h : ℕ) (xs : List (Option Going)) → get_or (map (option_map (moved n)) xs) h None ≡ option_map (moved n) (get_or xs h None)
on_moved n zero [] = refl
on_moved n (suc h) [] = refl
on_moved n zero (x ∷ xs) = refl
on_moved n (suc h) (x ∷ xs) = on_moved n h xs

set_moved : (n h : ℕ) (xs : List (Option Going)) (o : Option Going)
    → set (map (option_map (moved n)) xs) h (option_map (moved n) o) ≡ map (option_map (moved n)) (set xs h o)
set_moved n zero [] o = refl
set_moved n (suc h) [] o = refl
set_moved n zero (x ∷ xs) o = refl
set_moved n (suc h) (x ∷ xs) o = ap (λ ys. option_map (moved n) x ∷ ys) (set_moved n h xs o)

-- what hangs, moved
found_moved : (n : ℕ) (tid : Tid) (xs : List Hanging) → find (is_of tid) (map (hung_moved n) xs) ≡ option_map (hung_moved n) (find (is_of tid) xs)
found_moved n tid [] = refl
found_moved n tid (x ∷ xs) = by_head (is_of tid x) (found_moved n tid xs)
  where
    by_head : (b : Bool) → find (is_of tid) (map (hung_moved n) xs) ≡ option_map (hung_moved n) (find (is_of tid) xs)
        → cond b (Some (hung_moved n x)) (find (is_of tid) (map (hung_moved n) xs)) ≡ option_map (hung_moved n) (cond b (Some x) (find (is_of tid) xs))
    by_head true rest = refl
    by_head false rest = rest

left_moved : (n : ℕ) (tid : Tid) (xs : List Hanging)
    → filter (λ y. not (is_of tid y)) (map (hung_moved n) xs) ≡ map (hung_moved n) (filter (λ y. not (is_of tid y)) xs)
left_moved n tid [] = refl
left_moved n tid (x ∷ xs) = by_head (not (is_of tid x)) (left_moved n tid xs)
  where
    by_head : (b : Bool) → filter (λ y. not (is_of tid y)) (map (hung_moved n) xs) ≡ map (hung_moved n) (filter (λ y. not (is_of tid y)) xs)
        → cond b (hung_moved n x ∷ filter (λ y. not (is_of tid y)) (map (hung_moved n) xs)) (filter (λ y. not (is_of tid y)) (map (hung_moved n) xs))
        ≡ map (hung_moved n) (cond b (x ∷ filter (λ y. not (is_of tid y)) xs) (filter (λ y. not (is_of tid y)) xs))
    by_head true rest = ap (λ ys. hung_moved n x ∷ ys) rest
    by_head false rest = rest

module _ (gone : List Act) where
  abbrev n : ℕ
  n = length gone

  pub on_behind : (k : Kept) (h : ℕ) → going_on (behind gone k) h ≡ option_map (moved n) (going_on k h)
  on_behind k h = on_moved n h k.going

  hangs_behind : (k : Kept) (tid : Tid) → hanging_of (behind gone k) tid ≡ option_map (hung_moved n) (hanging_of k tid)
  hangs_behind k tid = found_moved n tid k.hanging

  -- EACH CHANGE

  ended_behind : (k : Kept) (place : ℕ) (end : SeqEnd) → with_end_at (n + place) end (behind gone k) ≡ behind gone (with_end_at place end k)
  ended_behind k place end = λ i. record {
    acts = changed_behind gone k.acts (with_end end) place (n + place) refl i;
    going = map (option_map (moved n)) k.going;
    hanging = map (hung_moved n) k.hanging;
  }

  told_behind : (k : Kept) (place : ℕ) (end : SeqEnd) → ended_at (n + place) end (behind gone k) ≡ ended_at place end k
  told_behind k place end = ap (option_map (with_end end)) (got_behind gone k.acts place (n + place) refl)

  without_behind : (k : Kept) (tid : Tid) → without_hanging tid (behind gone k) ≡ behind gone (without_hanging tid k)
  without_behind k tid = λ i. record {
    acts = gone ++ k.acts;
    going = map (option_map (moved n)) k.going;
    hanging = left_moved n tid k.hanging i;
  }

  act_behind : (k : Kept) (act : Act) → with_act act (behind gone k) ≡ behind gone (with_act act k)
  act_behind k act = λ i. record {
    acts = append_assoc gone k.acts (act ∷ []) i;
    going = map (option_map (moved n)) k.going;
    hanging = map (hung_moved n) k.hanging;
  }

  going_behind : (k : Kept) (h : ℕ) (o : Option Going) → with_going h (option_map (moved n) o) (behind gone k) ≡ behind gone (with_going h o k)
  going_behind k h o = λ i. record {
    acts = gone ++ k.acts;
    going = set_moved n h k.going o i;
    hanging = map (hung_moved n) k.hanging;
  }

  hung_behind : (k : Kept) (x : Hanging) → with_hanging (hung_moved n x) (behind gone k) ≡ behind gone (with_hanging x k)
  hung_behind k x = λ i. record {
    acts = gone ++ k.acts;
    going = map (option_map (moved n)) k.going;
    hanging = sym (map-append (hung_moved n) k.hanging (x ∷ [])) i;
  }

  -- ONE ENTRY

  settles_behind : (p : Passed) (k : Kept) → settled p (behind gone k) ≡ behind gone (settled p k)
  settles_behind p k = by_run (is_run p.entry.kind)
    where
      by_hanging : (o : Option Hanging) → settled_by p (option_map (hung_moved n) o) (behind gone k) ≡ behind gone (settled_by p o k)
      by_hanging None = refl
      by_hanging (Some x) =
          ap (without_hanging p.entry.tid) (ended_behind k x.place (verdict_by p)) ∙ without_behind (with_end_at x.place (verdict_by p) k) p.entry.tid

      by_run : (b : Bool) → cond b (settled_by p (hanging_of (behind gone k) p.entry.tid) (behind gone k)) (behind gone k)
          ≡ behind gone (cond b (settled_by p (hanging_of k p.entry.tid) k) k)
      by_run true = ap (λ o. settled_by p o (behind gone k)) (hangs_behind k p.entry.tid) ∙ by_hanging (hanging_of k p.entry.tid)
      by_run false = refl

  begins_behind : (p : Passed) (k : Kept) → begun p (behind gone k) ≡ behind gone (begun p k)
  begins_behind p k =
      let act = act_by p (Sequence ends.Unended) in
      let g : Going = record { place = length k.acts; course = course_by p } in
      ap (λ place. with_going p.entry.hart.0 (Some (record { place = place; course = course_by p })) (with_act act (behind gone k))) (length-append gone k.acts)
      ∙ ap (with_going p.entry.hart.0 (option_map (moved n) (Some g))) (act_behind k act)
      ∙ going_behind (with_act act k) p.entry.hart.0 (Some g)

  takes_behind : (g : Going) (p : Passed) (k : Kept) → taken_in (moved n g) p (behind gone k) ≡ behind gone (taken_in g p k)
  takes_behind g p k = λ i. record {
    acts = changed_behind gone k.acts (with_last p.number) g.place (n + g.place) refl i;
    going = set_moved n p.entry.hart.0 k.going (Some (gone_on g p)) i;
    hanging = map (hung_moved n) k.hanging;
  }

  stops_behind : (g : Going) (p : Passed) (k : Kept) → stopped (moved n g) p (behind gone k) ≡ behind gone (stopped g p k)
  stops_behind g p k = by_leaving (leaves_inside p)
    where
      x : Hanging
      x = record { tid = p.entry.tid; hart = p.entry.hart; place = g.place }

      by_leaving : (b : Bool)
          → with_going p.entry.hart.0 None (cond b (with_hanging (hung_moved n x) (behind gone k)) (with_end_at (n + g.place) (end_by g.course p) (behind gone k)))
          ≡ behind gone (with_going p.entry.hart.0 None (cond b (with_hanging x k) (with_end_at g.place (end_by g.course p) k)))
      by_leaving true =
          ap (with_going p.entry.hart.0 None) (hung_behind k x) ∙ going_behind (with_hanging x k) p.entry.hart.0 None
      by_leaving false =
          ap (with_going p.entry.hart.0 None) (ended_behind k g.place (end_by g.course p))
          ∙ going_behind (with_end_at g.place (end_by g.course p) k) p.entry.hart.0 None

  alone_behind : (p : Passed) (k : Kept) → with_act_alone p (behind gone k) ≡ behind gone (with_act_alone p k)
  alone_behind p k = act_behind k _

  module _ (p : Passed) (k : Kept) where
    abbrev h : ℕ
    h = p.entry.hart.0

    none_there : going_on k h ≡ None → going_on (behind gone k) h ≡ None
    none_there none = on_behind k h ∙ ap (option_map (moved n)) none

    some_there : (g : Going) → going_on k h ≡ Some g → going_on (behind gone k) h ≡ Some (moved n g)
    some_there g on = on_behind k h ∙ ap (option_map (moved n)) on

    none_by : (b : Bool) → begins p ≡ b → going_on k h ≡ None → noted p (behind gone k) ≡ behind gone (noted p k)
    none_by true starts none =
        noted_begun p (behind gone k) (none_there none) starts
        ∙ ap (begun p) (settles_behind p k)
        ∙ begins_behind p (settled p k)
        ∙ ap (behind gone) (sym (noted_begun p k none starts))
    none_by false other none =
        noted_alone p (behind gone k) (none_there none) other
        ∙ ap (with_act_alone p) (settles_behind p k)
        ∙ alone_behind p (settled p k)
        ∙ ap (behind gone) (sym (noted_alone p k none other))

    some_by : (g : Going) (b : Bool) → is_more p ≡ b → going_on k h ≡ Some g → noted p (behind gone k) ≡ behind gone (noted p k)
    some_by g true more on =
        noted_more p (behind gone k) (moved n g) (some_there g on) more
        ∙ ap (taken_in (moved n g) p) (settles_behind p k)
        ∙ takes_behind g p (settled p k)
        ∙ ap (behind gone) (sym (noted_more p k g on more))
    some_by g false other on =
        noted_stopped p (behind gone k) (moved n g) (some_there g on) other
        ∙ ap (λ x. with_act_alone p (stopped (moved n g) p x)) (settles_behind p k)
        ∙ ap (with_act_alone p) (stops_behind g p (settled p k))
        ∙ alone_behind p (stopped g p (settled p k))
        ∙ ap (behind gone) (sym (noted_stopped p k g on other))

    by_going : (o : Option Going) → going_on k h ≡ o → noted p (behind gone k) ≡ behind gone (noted p k)
    by_going None none = none_by (begins p) refl none
    by_going (Some g) on = some_by g (is_more p) refl on

    -- what an entry makes of it
    pub noted_behind : noted p (behind gone k) ≡ behind gone (noted p k)
    noted_behind = by_going (going_on k h) refl

    settled_told : settled_act p (behind gone k) ≡ settled_act p k
    settled_told = by_run (is_run p.entry.kind)
      where
        by_hanging : (o : Option Hanging) → settled_act_by p (option_map (hung_moved n) o) (behind gone k) ≡ settled_act_by p o k
        by_hanging None = refl
        by_hanging (Some x) = told_behind k x.place (verdict_by p)

        by_run : (b : Bool) → cond b (settled_act_by p (hanging_of (behind gone k) p.entry.tid) (behind gone k)) None
            ≡ cond b (settled_act_by p (hanging_of k p.entry.tid) k) None
        by_run true = ap (λ o. settled_act_by p o (behind gone k)) (hangs_behind k p.entry.tid) ∙ by_hanging (hanging_of k p.entry.tid)
        by_run false = refl

    stopped_told : (g : Going) → stopped_act (moved n g) p (settled p (behind gone k)) ≡ stopped_act g p (settled p k)
    stopped_told g =
        ap (stopped_act (moved n g) p) (settles_behind p k)
        ∙ ap (λ o. cond (leaves_inside p) None o) (told_behind (settled p k) g.place (end_by g.course p))

    turn_by : (o : Option Going) → turn_in (option_map (moved n) o) p (behind gone k) ≡ turn_in o p k
    turn_by None = ap (λ (act : Option Act). cond (begins p) (option_map Begins p.inside) (option_map Ends act)) settled_told
    turn_by (Some g) = ap (λ (act : Option Act). let none : Option Turn = None in cond (is_more p) none (option_map Ends act)) (stopped_told g)

    -- and what it tells
    pub turn_behind : turn_noted p (behind gone k) ≡ turn_noted p k
    unfolding turn_noted
    turn_behind = ap (λ o. turn_in o p (behind gone k)) (on_behind k h) ∙ turn_by (going_on k h)

  -- WHERE THE LOG ENDS

  pub closed_behind : (h : ℕ) (inside : Bool) (k : Kept) → closed h inside (behind gone k) ≡ behind gone (closed h inside k)
  closed_behind h inside k = ap (λ o. closed_by o inside (behind gone k)) (on_behind k h) ∙ by_going_on (going_on k h)
    where
      by_going_on : (o : Option Going) → closed_by (option_map (moved n) o) inside (behind gone k) ≡ behind gone (closed_by o inside k)
      by_going_on None = refl
      by_going_on (Some g) = ended_behind k g.place (end_here g.course inside)

  -- a place so far on is that of an act which is listed
  pub places_left : (k : Kept) → HasPlaces (behind gone k) → HasPlaces k
  places_left k places = record {
    going = λ h g on.
        let lt = places.going h (moved n g) (on_behind k h ∙ ap (option_map (moved n)) on) in
        omega (arith, lt, length-append gone k.acts);
    hanging = λ tid x is.
        let lt = places.hanging tid (hung_moved n x) (hangs_behind k tid ∙ ap (option_map (hung_moved n)) is) in
        omega (arith, lt, length-append gone k.acts);
  }

  -- no act that is gone is open
  apart_from : (a b : ℕ) → b < n → eqb (n + a) b ≡ false
  apart_from a b lt = false_from_ne_true (eqb (n + a) b) (λ is. let same = eqb-true (n + a) b is in absurd (omega (arith, same, lt)))

  shut : (k : Kept) (place : ℕ) (act : Act) → place < n → is_open (behind gone k) place act ≡ false
  shut k place act lt =
      (λ i. is_place place (option_map (λ (g : Going). g.place) (on_behind k act.hart.0 i))
      || is_place place (option_map (λ (x : Hanging). x.place) (hangs_behind k act.tid i)))
      ∙ both_shut (going_on k act.hart.0) (hanging_of k act.tid)
    where
      both_shut : (o : Option Going) (x : Option Hanging)
          → (is_place place (option_map (λ (g : Going). g.place) (option_map (moved n) o))
          || is_place place (option_map (λ (y : Hanging). y.place) (option_map (hung_moved n) x))) ≡ false
      both_shut None None = refl
      both_shut None (Some x) = apart_from x.place place lt
      both_shut (Some g) None = ap (λ b. b || false) (apart_from g.place place lt)
      both_shut (Some g) (Some x) = ap (λ b. b || eqb (n + x.place) place) (apart_from g.place place lt) ∙ apart_from x.place place lt

  none_told : (k : Kept) (first rest : List Act) (place : ℕ) → place + length first ≡ n
      → open_from (behind gone k) place (first ++ rest) ≡ open_from (behind gone k) n rest
  none_told k [] rest place is = let same : place ≡ n = omega (arith, is) in ap (λ m. open_from (behind gone k) m rest) same
  none_told k (act ∷ first) rest place is =
      ap (λ b. cond b (act ∷ []) [] ++ open_from (behind gone k) (place + 1) (first ++ rest)) (shut k place act (omega (arith, is)))
      ∙ none_told k first rest (place + 1) (omega (arith, is))

  same_place : (a b : ℕ) → eqb (n + a) (n + b) ≡ eqb a b
  same_place a b = by_same (eqb a b) refl
    where
      by_same : (c : Bool) → eqb a b ≡ c → eqb (n + a) (n + b) ≡ c
      by_same true is = ap (λ m. eqb (n + a) (n + m)) (sym (eqb-true a b is)) ∙ eqb_same (n + a)
      by_same false isnt =
          false_from_ne_true (eqb (n + a) (n + b))
          (λ is. let same = eqb-true (n + a) (n + b) is in let one : a ≡ b = omega (arith, same) in false≢true (sym isnt ∙ ap (eqb a) (sym one) ∙ eqb_same a))

  as_open : (k : Kept) (place : ℕ) (act : Act) → is_open (behind gone k) (n + place) act ≡ is_open k place act
  as_open k place act =
      (λ i. is_place (n + place) (option_map (λ (g : Going). g.place) (on_behind k act.hart.0 i))
      || is_place (n + place) (option_map (λ (x : Hanging). x.place) (hangs_behind k act.tid i)))
      ∙ (λ i. by_on (going_on k act.hart.0) i || by_hung (hanging_of k act.tid) i)
    where
      by_on : (o : Option Going) → is_place (n + place) (option_map (λ (g : Going). g.place) (option_map (moved n) o)) ≡ is_place place (option_map (λ (g : Going). g.place) o)
      by_on None = refl
      by_on (Some g) = same_place g.place place

      by_hung : (o : Option Hanging) → is_place (n + place) (option_map (λ (x : Hanging). x.place) (option_map (hung_moved n) o)) ≡ is_place place (option_map (λ (x : Hanging). x.place) o)
      by_hung None = refl
      by_hung (Some x) = same_place x.place place

  told_from : (k : Kept) (acts : List Act) (place at : ℕ) → at ≡ n + place → open_from (behind gone k) at acts ≡ open_from k place acts
  told_from k [] place at is = refl
  told_from k (act ∷ acts) place at is =
      let here : is_open (behind gone k) at act ≡ is_open k place act = ap (λ m. is_open (behind gone k) m act) is ∙ as_open k place act in
      (λ i. cond (here i) (act ∷ []) [] ++ told_from k acts (place + 1) (at + 1) (omega (arith, is)) i)

  -- the acts that are open are told alike
  pub open_behind : (k : Kept) → open_from (behind gone k) 0 (gone ++ k.acts) ≡ open_from k 0 k.acts
  open_behind k = none_told k gone k.acts 0 (omega arith) ∙ told_from k k.acts 0 n (omega arith)

-- WHAT IS LET GO

-- where nothing goes on, nothing is moved
unmoved : (a b : ℕ) (xs : List (Option Going)) → list_all is_none xs ≡ true → map (option_map (moved a)) xs ≡ map (option_map (moved b)) xs
unmoved a b [] none = refl
unmoved a b (None ∷ xs) none = ap (λ ys. None ∷ ys) (unmoved a b xs none)
unmoved a b (Some g ∷ xs) none = absurd (false≢true none)

pub let_go_behind : (gone : List Act) (k : Kept) → IsAtRest k → behind (gone ++ k.acts) (record k { acts = [] }) ≡ behind gone k
let_go_behind gone k rests = λ i. record {
  acts = append-nil (gone ++ k.acts) i;
  going = unmoved (length (gone ++ k.acts)) (length gone) k.going rests.going i;
  hanging =
      (ap (map (hung_moved (length (gone ++ k.acts)))) rests.hanging ∙ sym (ap (map (hung_moved (length gone))) rests.hanging)) i;
}

-- no act is gone
zero_moved : (g : Going) → moved 0 g ≡ g
zero_moved g = let same : 0 + g.place ≡ g.place = omega arith in ap (λ place. record g { place = place }) same

zero_hung : (x : Hanging) → hung_moved 0 x ≡ x
zero_hung x = let same : 0 + x.place ≡ x.place = omega arith in ap (λ place. record x { place = place }) same

nowhere_moved : (xs : List (Option Going)) → map (option_map (moved 0)) xs ≡ xs
nowhere_moved [] = refl
nowhere_moved (None ∷ xs) = ap (λ ys. None ∷ ys) (nowhere_moved xs)
nowhere_moved (Some g ∷ xs) = λ i. Some (zero_moved g i) ∷ nowhere_moved xs i

none_hung_moved : (xs : List Hanging) → map (hung_moved 0) xs ≡ xs
none_hung_moved [] = refl
none_hung_moved (x ∷ xs) = λ i. zero_hung x i ∷ none_hung_moved xs i

pub behind_none : (k : Kept) → behind [] k ≡ k
behind_none k = λ i. record { acts = k.acts; going = nowhere_moved k.going i; hanging = none_hung_moved k.hanging i }
