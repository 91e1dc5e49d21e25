-- Whole drawn runs of one manner that begin alike go on alike.
use Rattle.std.proofs.Common.{◌≡◌, ◌≢◌, ℕ, ◌≤◌, Bool, true, false, cond, leb, List, [], ◌∷◌, ◌++◌, length, Option, Some, None, refl, sym, ap₂, subst, arith, append-nil, append_assoc, length-append}
use Rattle.std.specs.Prelude.{◌||◌}
use Rattle.std.specs.Option.{is_some, option_map}
use Rattle.std.proofs.lemmas.Bool.{le-ltb}
use Rattle.mach_types.specs.declared.events.Entry.{Entry}
use Rattle.mach_types.specs.declared.limits.End.{End}
use Rattle.mach_types.specs.declared.limits.End.TheVariants.{Limit, Unended}
use Rattle.drawings.specs.Drawings.{Drawn, draw}
use Rattle.block_model.specs.Choosing.{has_ended}
use Rattle.block_model.specs.Deciding.{end_of, end_unless, event, history, over_at}
use Rattle.block_model.specs.History.{History}
use Rattle.block_model.specs.Setting.{Setting}
use Rattle.block_model.proofs.Laws.{history-append, length-history}
use Rattle.drawn_runs.specs.declared.manner.Manner.{Manner}
use Rattle.drawn_runs.specs.DrawnRuns.{IsDrawn, IsDrawnHistory, drawing_at, drawn_at, drawn_entry, entry_of, scene_at}
use Rattle.drawn_runs.specs.WholeRuns.{IsDrawnRun}

-- a run that isn't left open has ended
by_room : (full : Bool) → cond full Limit Unended ≢ Unended → full ≡ true
by_room true over = refl
by_room false over = absurd (over refl)

by_end : (s : Setting) (made : ℕ) (o : Option End) → end_unless s made o ≢ Unended
    → (is_some o || leb s.limits.steps made) ≡ true
by_end s made (Some e) over = refl
by_end s made None over = by_room (leb s.limits.steps made) over

over_is_ended : (s : Setting) (before : History) → end_of s before ≢ Unended → has_ended s before ≡ true
unfolding end_of has_ended
over_is_ended s before over = by_end s (length before) (over_at s before) over

-- and nothing is drawn there
no_entry : (s : Setting) (before : History) (ended : Bool) (o : Option Drawn) → ended ≡ true
    → option_map (entry_of s before) (cond ended None o) ≡ None
no_entry s before true o is = refl
no_entry s before false o is = absurd cc

none_drawn : (s : Setting) (m : Manner) (before : History) → end_of s before ≢ Unended → drawn_entry s m before ≡ None
unfolding drawn_entry drawn_at
none_drawn s m before over =
    no_entry s before (has_ended s before) (draw (scene_at s before) (drawing_at s m before)) (over_is_ended s before over)

-- what a drawn log goes on from is drawn
pub last_drawn : (s : Setting) (m : Manner) (first : List Entry) (e : Entry) → IsDrawn s m (first ++ e ∷ [])
    → IsDrawnHistory s m (event s (history s first) e ∷ history s first)
last_drawn s m first e drawn = subst (λ (before : History). IsDrawnHistory s m before) (history-append s first e) drawn

pub drawn_before : (s : Setting) (m : Manner) (first more : List Entry) → IsDrawn s m (first ++ more) → IsDrawn s m first
drawn_before s m first [] drawn = subst (λ (l : List Entry). IsDrawn s m l) (append-nil first) drawn
drawn_before s m first (e ∷ more) drawn =
    let longer = drawn_before s m (first ++ e ∷ []) more
    (subst (λ (l : List Entry). IsDrawn s m l) (sym (append_assoc first (e ∷ []) more)) drawn) in
    (last_drawn s m first e longer).0

-- behind the script it goes on by the entry that is drawn
drawn_next : (s : Setting) (m : Manner) (first : List Entry) (e : Entry) (more : List Entry) → m.scripted ≤ length first
    → IsDrawn s m (first ++ e ∷ more) → drawn_entry s m (history s first) ≡ Some e
drawn_next s m first e more past drawn =
    let longer = drawn_before s m (first ++ e ∷ []) more
    (subst (λ (l : List Entry). IsDrawn s m l) (sym (append_assoc first (e ∷ []) more)) drawn) in
    let enough : m.scripted ≤ length (history s first) = omega (arith, length-history s first) in
    (last_drawn s m first e longer).1 (le-ltb (length (history s first)) m.scripted enough)

-- a run that is over has no entry more
none_more : (s : Setting) (m : Manner) (first : List Entry) (e : Entry) (more : List Entry) → m.scripted ≤ length first
    → end_of s (history s first) ≢ Unended → ¬ (IsDrawn s m (first ++ e ∷ more))
none_more s m first e more past over drawn =
    let next = drawn_next s m first e more past drawn in
    let none = none_drawn s m (history s first) over in
    absurd cc

-- the same entries, one more of them before
moved : (s : Setting) (m : Manner) (first : List Entry) (e : Entry) (more : List Entry)
    → IsDrawnRun s m (first ++ e ∷ more) → IsDrawnRun s m ((first ++ e ∷ []) ++ more)
moved s m first e more run =
    subst (λ (l : List Entry). IsDrawnRun s m l) (sym (append_assoc first (e ∷ []) more)) run

over_there : (s : Setting) (m : Manner) (first : List Entry) → IsDrawnRun s m (first ++ [])
    → end_of s (history s first) ≢ Unended
over_there s m first run = (subst (λ (l : List Entry). IsDrawnRun s m l) (append-nil first) run).over

pub goes_on_alike : (s : Setting) (m : Manner) (first more other : List Entry) → m.scripted ≤ length first
    → IsDrawnRun s m (first ++ more) → IsDrawnRun s m (first ++ other) → more ≡ other
goes_on_alike s m first [] [] past a b = refl
goes_on_alike s m first [] (f ∷ other) past a b = absurd (none_more s m first f other past (over_there s m first a) b.drawn)
goes_on_alike s m first (e ∷ more) [] past a b = absurd (none_more s m first e more past (over_there s m first b) a.drawn)
goes_on_alike s m first (e ∷ more) (f ∷ other) past a b =
    let one = drawn_next s m first e more past a.drawn in
    let two = drawn_next s m first f other past b.drawn in
    let same : e ≡ f = cc in
    let longer : m.scripted ≤ length (first ++ e ∷ []) = omega (arith, length-append first (e ∷ [])) in
    let second : IsDrawnRun s m (first ++ e ∷ other) =
    subst (λ (x : Entry). IsDrawnRun s m (first ++ x ∷ other)) (sym same) b in
    let rest = goes_on_alike s m (first ++ e ∷ []) more other longer (moved s m first e more a)
    (moved s m first e other second) in
    ap₂ (λ (x : Entry) (xs : List Entry). x ∷ xs) same rest
