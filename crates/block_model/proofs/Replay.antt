-- What a script makes is a block run that answers it, and each block run answers the script that it is.
use Rattle.block_model.proofs.Common.{◌≡◌, ℕ, ◌+◌, List, [], ◌∷◌, ◌++◌, length, map, refl, sym, ap, ◌∙◌, subst, Bool, true, false, cond, Option, Some, None, Result, Ok, Err, arith, append-nil, append_assoc, eq-eqb, AllAnswer, Ask, Entry, IsAllowedLog, IsRunHistory, Refused, Setting, checked, choice_of, decide, event, extended, fold, fold-append, history, is_as_said, map_push, play_line, played, played_read, script_of}
use Rattle.block_model.specs.Replay.{Answers, IsFirstBad, IsFirstRefused, made_by, play_read_line, line_of}
use Rattle.block_model.proofs.Runs.{decided_is, IsAllowedLog-append, IsAllowedLog-nil, run_before}

-- one more line
pub played-append : (s : Setting) (lines : List Ask) (line : Ask) → played s (lines ++ line ∷ []) ≡ play_line s (played s lines) line
unfolding played
played-append s lines line = fold-append (play_line s) (Ok []) lines (line ∷ [])

-- no line, no entry
pub played-nil : (s : Setting) → played s [] ≡ Ok []
unfolding played
played-nil s = refl

-- no line is played after one that is refused
stays_refused : (s : Setting) (n : ℕ) (lines : List Ask) → fold (play_line s) (Err n) lines ≡ Err n
stays_refused s n [] = refl
stays_refused s n (line ∷ lines) = stays_refused s n lines

-- what played-append says of more lines than one
played-more : (s : Setting) (lines more : List Ask) → played s (lines ++ more) ≡ fold (play_line s) (played s lines) more
unfolding played
played-more s lines more = fold-append (play_line s) (Ok []) lines more

-- what follows a line that is refused doesn't matter
pub played-refused : (s : Setting) (n : ℕ) (lines more : List Ask) → played s lines ≡ Err n → played s (lines ++ more) ≡ Err n
played-refused s n lines more refused = played-more s lines more ∙ ap (λ r. fold (play_line s) r more) refused ∙ stays_refused s n more

-- the same of scripts of which some lines can't be read
pub played_read-nil : (s : Setting) → played_read s [] ≡ Ok []
unfolding played_read
played_read-nil s = refl

pub played_read-append : (s : Setting) (lines : List (Option Ask)) (line : Option Ask) → played_read s (lines ++ line ∷ []) ≡ play_read_line s (played_read s lines) line
unfolding played_read
played_read-append s lines line = fold-append (play_read_line s) (Ok []) lines (line ∷ [])

stays_refused_read : (s : Setting) (n : ℕ) (lines : List (Option Ask)) → fold (play_read_line s) (Err n) lines ≡ Err n
stays_refused_read s n [] = refl
stays_refused_read s n (line ∷ lines) = stays_refused_read s n lines

pub played_read-refused : (s : Setting) (n : ℕ) (lines more : List (Option Ask)) → played_read s lines ≡ Err n → played_read s (lines ++ more) ≡ Err n
unfolding played_read
played_read-refused s n lines more refused = fold-append (play_read_line s) (Ok []) lines more ∙ ap (λ r. fold (play_read_line s) r more) refused ∙ stays_refused_read s n more

-- where each line can be read
read_from : (s : Setting) (lines : List Ask) (r : Result (List Entry) ℕ) → fold (play_read_line s) r (map Some lines) ≡ fold (play_line s) r lines
read_from s [] r = refl
read_from s (line ∷ lines) (Ok log) = read_from s lines (play_line s (Ok log) line)
read_from s (line ∷ lines) (Err n) = read_from s lines (Err n)

pub played_read-all : (s : Setting) (lines : List Ask) → played_read s (map Some lines) ≡ played s lines
unfolding played_read played
played_read-all s lines = read_from s lines (Ok [])

-- a line makes what is decided, where it is as the line says
made_parts : (check : _) (r : Result Entry Refused) (e : Entry) → checked check r ≡ Some e → (r ≡ Ok e) × (is_as_said check e ≡ true)
made_parts check (Ok d) e is = go (is_as_said check d) refl is
  where
    go : (b : Bool) → is_as_said check d ≡ b → cond b (Some d) None ≡ Some e → (◌≡◌ {A = Result Entry Refused} (Ok d) (Ok e)) × (is_as_said check e ≡ true)
    go true said made = let same : d ≡ e = cc in (ap Ok same, ap (is_as_said check) (sym same) ∙ said)
    go false said made = cc
made_parts check (Err why) e is = cc

pub made_is : (s : Setting) (log : List Entry) (line : Ask) (e : Entry) → made_by s log line ≡ Some e → (decide s (history s log) line.hart.0 line.choice ≡ Ok e) × (is_as_said line.check e ≡ true)
made_is s log line e is = made_parts line.check (decide s (history s log) line.hart.0 line.choice) e is

-- the entry that a line makes answers it
pub made_answers : (s : Setting) (log : List Entry) (line : Ask) (e : Entry) → made_by s log line ≡ Some e → Answers line e
made_answers s log line e is =
    let p = made_is s log line e is in
    let of = decided_is s (history s log) line.hart.0 line.choice e p.0 in
    record { of_hart = of.0; of_choice = of.1; as_said = p.1 }

-- a log that goes on as a history
pub history-more : (s : Setting) (log rest : List Entry) → history s (log ++ rest) ≡ fold (λ b e. event s b e ∷ b) (history s log) rest
unfolding history
history-more s log rest = fold-append (λ b e. event s b e ∷ b) [] log rest

-- of a block run each entry is decided after those before it
pub IsAllowedLog-next : (s : Setting) (log rest : List Entry) (e : Entry) → IsAllowedLog s (log ++ e ∷ rest) → decide s (history s log) e.hart.0 (choice_of e) ≡ Ok e
IsAllowedLog-next s log rest e run =
    let more : IsRunHistory s (fold (λ b e. event s b e ∷ b) (history s log) (e ∷ rest)) = subst (IsRunHistory s) (history-more s log (e ∷ rest)) run in
    (run_before s rest (event s (history s log) e ∷ history s log) more).1

-- an entry that is decided is made by each line that it answers
said_made : (check : _) (e : Entry) → is_as_said check e ≡ true → checked check (Ok e) ≡ Some e
said_made check e said = rw said refl

pub answer_made : (s : Setting) (log : List Entry) (line : Ask) (e : Entry) → decide s (history s log) e.hart.0 (choice_of e) ≡ Ok e → Answers line e → made_by s log line ≡ Some e
answer_made s log line e d a =
    let at : decide s (history s log) line.hart.0 line.choice ≡ Ok e =
    ap (λ k. decide s (history s log) k line.choice) (sym a.of_hart) ∙ ap (decide s (history s log) e.hart.0) (sym a.of_choice) ∙ d in
    ap (checked line.check) at ∙ said_made line.check e a.as_said

-- a block run is made by each script that it answers
made_from : (s : Setting) (lines : List Ask) (log rest : List Entry) → IsAllowedLog s (log ++ rest) → AllAnswer lines rest → fold (play_line s) (Ok log) lines ≡ Ok (log ++ rest)
made_from s [] log [] run all = rw append-nil refl
made_from s (line ∷ lines) log (e ∷ rest) run all =
    let made = answer_made s log line e (IsAllowedLog-next s log rest e run) all.0 in
    let joined : (log ++ e ∷ []) ++ rest ≡ log ++ e ∷ rest = append_assoc log (e ∷ []) rest in
    ap (λ o. fold (play_line s) (extended log o) lines) made
    ∙ made_from s lines (log ++ e ∷ []) rest (subst (IsAllowedLog s) (sym joined) run) all.1
    ∙ ap Ok joined
made_from s lines log rest run all = absurd all

-- what lines make after a log
pub record IsMadeFrom (s : Setting) (log : List Entry) (lines : List Ask) (whole : List Entry) : Type 0 where
  pub made : List Entry
  pub joined : whole ≡ log ++ made
  pub run : IsAllowedLog s whole
  pub answer : AllAnswer lines made

runs_from : (s : Setting) (lines : List Ask) (log whole : List Entry) → IsAllowedLog s log → fold (play_line s) (Ok log) lines ≡ Ok whole → IsMadeFrom s log lines whole
runs_from s [] log whole run is =
    let same : log ≡ whole = cc in
    record { made = []; joined = rw append-nil (sym same); run = subst (IsAllowedLog s) same run; answer = tt }
runs_from s (line ∷ lines) log whole run is = go (made_by s log line) refl is (λ e. runs_from s lines (log ++ e ∷ []) whole)
  where
    go : (o : Option Entry) → made_by s log line ≡ o → fold (play_line s) (extended log o) lines ≡ Ok whole →
        ((e : Entry) → IsAllowedLog s (log ++ e ∷ []) → fold (play_line s) (Ok (log ++ e ∷ [])) lines ≡ Ok whole → IsMadeFrom s (log ++ e ∷ []) lines whole) → IsMadeFrom s log (line ∷ lines) whole
    go None at end later = let err : ◌≡◌ {A = Result (List Entry) ℕ} (Err (length log + 1)) (Ok whole) = sym (stays_refused s (length log + 1) lines) ∙ end in cc
    go (Some e) at end later =
        let d = (made_is s log line e at).0 in
        let m = later e (IsAllowedLog-append s log line.hart.0 line.choice e run d) end in
        record { made = e ∷ m.made; joined = m.joined ∙ append_assoc log (e ∷ []) m.made; run = m.run; answer = (made_answers s log line e at, m.answer) }

-- what a script makes is a block run that answers it, and no other log is
pub played_is_run : (s : Setting) (lines : List Ask) (log : List Entry) → played s lines ≡ Ok log → IsAllowedLog s log × AllAnswer lines log
unfolding played
played_is_run s lines log is =
    let m = runs_from s lines [] log (IsAllowedLog-nil s) is in
    (m.run, subst (AllAnswer lines) (sym m.joined) m.answer)

pub run_is_played : (s : Setting) (lines : List Ask) (log : List Entry) → IsAllowedLog s log → AllAnswer lines log → played s lines ≡ Ok log
unfolding played
run_is_played s lines log run all = made_from s lines [] log run all

-- a log answers the script that it is
said_itself : (e : Entry) → is_as_said (line_of e).check e ≡ true
said_itself e = rw (eq-eqb e.tid.0 e.tid.0 refl, eq-eqb e.pc e.pc refl) refl

pub answers_itself : (log : List Entry) → AllAnswer (script_of log) log
answers_itself [] = tt
answers_itself (e ∷ log) = (record { of_hart = refl; of_choice = refl; as_said = said_itself e }, answers_itself log)

pub replays : (s : Setting) (log : List Entry) → IsAllowedLog s log → played s (script_of log) ≡ Ok log
replays s log run = run_is_played s (script_of log) log run (answers_itself log)

-- as many entries as lines
pub length-answers : (lines : List Ask) (log : List Entry) → AllAnswer lines log → length log ≡ length lines
length-answers [] [] all = refl
length-answers (line ∷ lines) (e ∷ log) all = let more = length-answers lines log all.1 in cc
length-answers lines log all = absurd all

-- the number of a refusal is that of the first line that is refused
first_number : (s : Setting) (earlier : List Ask) (log : List Entry) (n : ℕ) → played s earlier ≡ Ok log → ◌≡◌ {A = Result (List Entry) ℕ} (Err (length log + 1)) (Err n)
    → n ≡ length earlier + 1
first_number s earlier log n allowed err =
    let same : length log + 1 ≡ n = cc in
    let counted : length log ≡ length earlier = length-answers earlier log (played_is_run s earlier log allowed).1 in
    omega arith

refused_from : (s : Setting) (n : ℕ) (whole earlier lines : List Ask) (log : List Entry) → whole ≡ earlier ++ lines → played s earlier ≡ Ok log →
    fold (play_line s) (Ok log) lines ≡ Err n → IsFirstRefused s whole n
refused_from s n whole earlier [] log parts allowed is = cc
refused_from s n whole earlier (line ∷ lines) log parts allowed is =
    go (made_by s log line) refl is (λ e. refused_from s n whole (earlier ++ line ∷ []) lines (log ++ e ∷ []) (parts ∙ sym (append_assoc earlier (line ∷ []) lines)))
  where
    go : (o : Option Entry) → made_by s log line ≡ o → fold (play_line s) (extended log o) lines ≡ Err n →
        ((e : Entry) → played s (earlier ++ line ∷ []) ≡ Ok (log ++ e ∷ []) → fold (play_line s) (Ok (log ++ e ∷ [])) lines ≡ Err n → IsFirstRefused s whole n) → IsFirstRefused s whole n
    go None at end later =
        let number = first_number s earlier log n allowed (sym (stays_refused s (length log + 1) lines) ∙ end) in
        record { earlier = earlier; line = line; later = lines; log = log; parts = parts; number = number; allowed = allowed; refused = at }
    go (Some e) at end later = later e (played-append s earlier line ∙ ap (λ r. play_line s r line) allowed ∙ ap (extended log) at) end

pub refused_is : (s : Setting) (lines : List Ask) (n : ℕ) → played s lines ≡ Err n → IsFirstRefused s lines n
unfolding played
refused_is s lines n is = refused_from s n lines [] lines [] refl refl is

pub is_refused : (s : Setting) (lines : List Ask) (n : ℕ) → IsFirstRefused s lines n → played s lines ≡ Err n
is_refused s lines n f =
    let counted : length f.log ≡ length f.earlier = length-answers f.earlier f.log (played_is_run s f.earlier f.log f.allowed).1 in
    let number : length f.log + 1 ≡ n = ap (λ k. k + 1) counted ∙ sym f.number in
    ap (played s) f.parts
    ∙ played-more s f.earlier (f.line ∷ f.later)
    ∙ ap (λ r. fold (play_line s) r (f.line ∷ f.later)) f.allowed
    ∙ ap (λ o. fold (play_line s) (extended f.log o) f.later) f.refused
    ∙ stays_refused s (length f.log + 1) f.later
    ∙ ap Err number

-- the first line that can't be read or is refused
bad_from : (s : Setting) (n : ℕ) (whole : List (Option Ask)) (earlier : List Ask) (lines : List (Option Ask)) (log : List Entry) → whole ≡ map Some earlier ++ lines → played s earlier ≡ Ok log →
    fold (play_read_line s) (Ok log) lines ≡ Err n → IsFirstBad s whole n
bad_from s n whole earlier [] log parts allowed is = cc
bad_from s n whole earlier (None ∷ lines) log parts allowed is =
    let number = first_number s earlier log n allowed (sym (stays_refused_read s (length log + 1) lines) ∙ is) in
    record { earlier = earlier; line = None; later = lines; log = log; parts = parts; number = number; allowed = allowed; refused = refl }
bad_from s n whole earlier (Some line ∷ lines) log parts allowed is =
    let joined : map Some (earlier ++ line ∷ []) ++ lines ≡ map Some earlier ++ Some line ∷ lines =
    ap (λ ls. ls ++ lines) (map_push Some earlier line) ∙ append_assoc (map Some earlier) (Some line ∷ []) lines in
    go (made_by s log line) refl is (λ e. bad_from s n whole (earlier ++ line ∷ []) lines (log ++ e ∷ []) (parts ∙ sym joined))
  where
    go : (o : Option Entry) → made_by s log line ≡ o → fold (play_read_line s) (extended log o) lines ≡ Err n →
        ((e : Entry) → played s (earlier ++ line ∷ []) ≡ Ok (log ++ e ∷ []) → fold (play_read_line s) (Ok (log ++ e ∷ [])) lines ≡ Err n → IsFirstBad s whole n) → IsFirstBad s whole n
    go None at end later =
        let number = first_number s earlier log n allowed (sym (stays_refused_read s (length log + 1) lines) ∙ end) in
        record { earlier = earlier; line = Some line; later = lines; log = log; parts = parts; number = number; allowed = allowed; refused = at }
    go (Some e) at end later = later e (played-append s earlier line ∙ ap (λ r. play_line s r line) allowed ∙ ap (extended log) at) end

pub bad_is : (s : Setting) (lines : List (Option Ask)) (n : ℕ) → played_read s lines ≡ Err n → IsFirstBad s lines n
unfolding played_read played
bad_is s lines n is = bad_from s n lines [] lines [] refl refl is

pub is_bad : (s : Setting) (lines : List (Option Ask)) (n : ℕ) → IsFirstBad s lines n → played_read s lines ≡ Err n
unfolding played_read
is_bad s lines n f =
    let counted : length f.log ≡ length f.earlier = length-answers f.earlier f.log (played_is_run s f.earlier f.log f.allowed).1 in
    let number : length f.log + 1 ≡ n = ap (λ k. k + 1) counted ∙ sym f.number in
    ap (played_read s) f.parts
    ∙ fold-append (play_read_line s) (Ok []) (map Some f.earlier) (f.line ∷ f.later)
    ∙ ap (λ r. fold (play_read_line s) r (f.line ∷ f.later)) (played_read-all s f.earlier ∙ f.allowed)
    ∙ ap (λ o. fold (play_read_line s) (extended f.log o) f.later) f.refused
    ∙ stays_refused_read s (length f.log + 1) f.later
    ∙ ap Err number
