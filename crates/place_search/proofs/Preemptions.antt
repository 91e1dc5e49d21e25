-- What the logs of places cost, as more are visited.
use Rattle.std.proofs.Common.{◌≡◌, ℕ, ◌+◌, ◌≤◌, Bool, true, false, cond, List, [], ◌∷◌, ◌++◌, map, length, get_or, Option, Some, None, bytes_eq, refl, sym, ap, ◌∙◌, subst, arith, inl, inr, All, nat_le}
use Rattle.std.specs.Map.{lookup}
use Rattle.std.proofs.Math.ListN.{get_or-map}
use Rattle.std.proofs.lemmas.List.{get_or_append_left, get_or_at, length-map, map-append}
use Rattle.std.proofs.lemmas.List.Elements.{All-push}
use Rattle.std.proofs.lemmas.Bool.{leb-false, leb-true}
use Rattle.std.proofs.lemmas.Slice.Eq.{bytes_eq-Decides}
use Rattle.mach_types.specs.Events.{choice_of}
use Rattle.mach_types.specs.declared.events.Choice.{Choice}
use Rattle.mach_types.specs.declared.events.Choice.TheVariants as asked
use Rattle.mach_types.specs.declared.events.Entry.{Entry}
use Rattle.block_model.specs.Setting.{Setting}
use Rattle.page_map.specs.Map.{Map}
use Rattle.search_reductions.specs.declared.signals.Signals.{Signals}
use Rattle.settled_places.specs.Budgets.{spent}
use Rattle.settled_places.specs.Edges.{log_by_number}
use Rattle.settled_places.specs.Settling.{AreSettlingSteps}
use Rattle.place_search.specs.Logs.{log_next, logs_of}
use Rattle.place_search.specs.Preemptions.{ArePaid, IsDue, IsPut, budget_of, cost_of, kept_at, kept_of, no_dearer, paid_with}
use Rattle.place_search.specs.SettlingSteps.{HasMore, Ways, all_or_none, none_private}
use Rattle.place_search.specs.Visiting.{AreKeysOf, IsKeyOf}
use Rattle.place_search.specs.declared.row.Row.{Row}
use Rattle.place_search.proofs.Logs.{logs_push}

-- KEYS

put_case : (b : Bool) (place number : ℕ) (before : Option ℕ) (Q : Type 0) → cond b (Some place) before ≡ Some number → (b ≡ true → place ≡ number → Q) → (before ≡ Some number → Q) → Q
put_case true place number before Q is here there = here refl cc
put_case false place number before Q is here there = there is

-- where a key is put, each key has the number of its log, if that one has
pub keys_put : (s : Setting) (signals : Signals) (start : Map) (logs : List (List Entry)) (keys keys' : List (List ℕ × ℕ)) (key : List ℕ) (place : ℕ) → IsPut key place keys keys' → AreKeysOf s signals start logs keys → IsKeyOf s signals start logs (key, place)
    → AreKeysOf s signals start logs keys'
keys_put s signals start logs keys keys' key place put before new other number is =
    put_case (bytes_eq other key) place number (lookup (bytes_eq other) keys) (IsKeyOf s signals start logs (other, number)) (sym (put other) ∙ is)
    (λ same numbers. subst (λ (k : List ℕ). IsKeyOf s signals start logs (k, number)) (sym ((bytes_eq-Decides other key).0 same)) (subst (λ (n : ℕ). IsKeyOf s signals start logs (key, n)) numbers new))
    (λ known. before other number known)

-- WHAT LOGS COST

pub spent_append : (cost : Choice → ℕ) (log more : List Entry) → spent cost (log ++ more) ≡ spent cost log + spent cost more
spent_append cost [] more = omega arith
spent_append cost (e ∷ log) more = let rest = spent_append cost log more in omega arith

exec_is_free : (limit : Option ℕ) → cost_of limit asked.Exec ≡ 0
exec_is_free None = refl
exec_is_free (Some n) = refl

-- settling steps cost nothing
pub settling_is_free : (s : Setting) (ways : Ways) (limit : Option ℕ) (log more : List Entry) → AreSettlingSteps s ways.signals (all_or_none ways) none_private log more → spent (cost_of limit) more ≡ 0
settling_is_free s ways limit log [] steps = refl
settling_is_free s ways limit log (e ∷ more) steps =
    let rest = settling_is_free s ways limit (log ++ e ∷ []) more steps.1 in
    let one : cost_of limit (choice_of e) ≡ 0 = ap (cost_of limit) steps.0.is_exec ∙ exec_is_free limit in
    omega arith

-- what is kept of a place is what its log costs
pub kept_is : (cost : Choice → ℕ) (budget : ℕ) (rows : List Row) → ArePaid cost budget rows → (k : ℕ) → spent cost (log_by_number (logs_of rows) k) ≡ kept_at rows k
kept_is cost budget rows paid k = sym (get_or-map (spent cost) (logs_of rows) k []) ∙ ap (λ (ns : List ℕ). get_or ns k 0) paid.kept

-- one place more
pub paid_push : (cost : Choice → ℕ) (budget : ℕ) (rows : List Row) (row : Row) → row.preemptions ≡ spent cost (log_next (logs_of rows) row) → row.preemptions ≤ budget → ArePaid cost budget rows
    → ArePaid cost budget (rows ++ row ∷ [])
paid_push cost budget rows row is few paid =
    let all : kept_of (rows ++ row ∷ []) ≡ kept_of rows ++ row.preemptions ∷ [] = ap (λ (ns : List ℕ). 0 ∷ ns) (map-append (λ (r : Row). r.preemptions) rows (row ∷ [])) in
    record {
      kept = ap (map (spent cost)) (logs_push rows row) ∙ map-append (spent cost) (logs_of rows) (log_next (logs_of rows) row ∷ [])
          ∙ ap (λ (ns : List ℕ). ns ++ spent cost (log_next (logs_of rows) row) ∷ []) paid.kept ∙ ap (λ (n : ℕ). kept_of rows ++ n ∷ []) (sym is) ∙ sym all;
      few = subst (All (λ (n : ℕ). n ≤ budget)) (sym all) (All-push (λ (n : ℕ). n ≤ budget) (kept_of rows) row.preemptions paid.few few);
    }

pub kept_new : (rows : List Row) (row : Row) (number : ℕ) → number ≡ length rows + 1 → kept_at (rows ++ row ∷ []) number ≡ row.preemptions
kept_new rows row number is =
    ap (λ (ns : List ℕ). get_or ns number 0) (ap (λ (ns : List ℕ). 0 ∷ ns) (map-append (λ (r : Row). r.preemptions) rows (row ∷ [])))
    ∙ get_or_at (kept_of rows) row.preemptions [] 0 number (let size = length-map rows (λ (r : Row). r.preemptions) in omega arith)

pub kept_stays : (rows rows' more : List Row) (place : ℕ) → rows' ≡ rows ++ more → place ≤ length rows → kept_at rows place ≡ kept_at rows' place
kept_stays rows rows' more place is there =
    let size = length-map rows (λ (r : Row). r.preemptions) in
    sym (ap (λ (r : List Row). kept_at r place) is ∙ ap (λ (ns : List ℕ). get_or ns place 0) (ap (λ (ns : List ℕ). 0 ∷ ns) (map-append (λ (r : Row). r.preemptions) rows more))
    ∙ get_or_append_left (kept_of rows) (map (λ (r : Row). r.preemptions) more) 0 place (omega arith))

-- a place that is known has no more
known_case : (b : Bool) (place to : ℕ) → cond b (Some place) None ≡ Some to → (place ≡ to) × (b ≡ true)
known_case true place to is = (cc, refl)
known_case false place to is = absurd cc

pub known_as : (rows : List Row) (n to : ℕ) (found : Option ℕ) → no_dearer rows n found ≡ Some to → (found ≡ Some to) × (kept_at rows to ≤ n)
known_as rows n to None is = absurd cc
known_as rows n to (Some place) is =
    let x = known_case (nat_le (kept_at rows place) n) place to is in
    (ap Some x.0, subst (λ (k : ℕ). kept_at rows k ≤ n) x.0 (leb-true (kept_at rows place) n x.1))

pub paid_first : (cost : Choice → ℕ) (budget : ℕ) → ArePaid cost budget []
paid_first cost budget = record { kept = refl; few = All-push (λ (n : ℕ). n ≤ budget) [] 0 (λ k d lt. absurd (omega (arith, lt))) (omega arith) }

-- WHAT HAS TO BE TRIED

kept_out : (a b : Bool) → (a ≡ true → b ≡ true) → b ≡ false → a ≡ false
kept_out true b stays is = sym (stays refl) ∙ is
kept_out false b stays is = refl

-- what has to be tried when more may have been left out had to be before
pub due_before : (limit : Option ℕ) (before after : Bool) (log : List Entry) (c : Choice) → (before ≡ true → after ≡ true) → IsDue limit after log c → IsDue limit before log c
due_before limit before after log c stays (inl none) = inl (kept_out before after stays none)
due_before limit before after log c stays (inr cheap) = inr cheap

free_cost : (log : List Entry) → spent (cost_of None) log ≡ 0
free_cost [] = refl
free_cost (e ∷ log) = let rest = free_cost log in omega arith

-- where any number of preemptions is allowed, each choice has to be
pub all_due : (left_out : Bool) (log : List Entry) (c : Choice) → IsDue None left_out log c
all_due left_out log c = let nothing = free_cost log in inr (omega arith)

-- ONE CHOICE MORE

-- the log with its entry, and settling steps after it, costs as much more
pub spent_after : (s : Setting) (ways : Ways) (limit : Option ℕ) (log entries : List Entry) (c : Choice) (e : Entry) → choice_of e ≡ c → HasMore s ways log (e ∷ []) entries
    → spent (cost_of limit) (log ++ entries) ≡ spent (cost_of limit) log + cost_of limit c
spent_after s ways limit log entries c e choice more =
    let settled = more (e ∷ []) (record { more = []; entries_are = refl; steps = tt }) in
    let cost = cost_of limit in
    let all : spent cost entries ≡ spent cost (e ∷ settled.more) = ap (spent cost) settled.entries_are in
    let rest = settling_is_free s ways limit (log ++ e ∷ []) settled.more settled.steps in
    let one = ap cost choice in
    let both = spent_append cost log entries in
    omega arith

paid_case : (b : Bool) (m n : ℕ) → cond b (Some m) None ≡ Some n → (m ≡ n) × (b ≡ true)
paid_case true m n is = (cc, refl)
paid_case false m n is = absurd cc

pub paid_some : (limit : Option ℕ) (n m : ℕ) (c : Choice) → paid_with limit n c ≡ Some m → (m ≡ n + cost_of limit c) × (m ≤ budget_of limit)
paid_some limit n m c is =
    let x = paid_case (nat_le (n + cost_of limit c) (budget_of limit)) (n + cost_of limit c) m is in
    let few = leb-true (n + cost_of limit c) (budget_of limit) x.1 in
    let same = x.0 in
    (sym same, omega arith)

unpaid_case : (b : Bool) (m : ℕ) → cond b (Some m) None ≡ None → b ≡ false
unpaid_case true m is = absurd cc
unpaid_case false m is = refl

-- where it can't be paid for and one was left out, it need not be tried
pub not_due : (limit : Option ℕ) (left_out : Bool) (n : ℕ) (log : List Entry) (c : Choice) → n ≡ spent (cost_of limit) log → paid_with limit n c ≡ None → left_out ≡ true → IsDue limit left_out log c → ⊥
not_due limit left_out n log c kept none out (inl all) = let bad : true ≡ false = sym out ∙ all in absurd cc
not_due limit left_out n log c kept none out (inr cheap) =
    let over = leb-false (n + cost_of limit c) (budget_of limit) (unpaid_case (nat_le (n + cost_of limit c) (budget_of limit)) (n + cost_of limit c) none) in
    absurd (omega arith)
