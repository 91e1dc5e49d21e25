-- The lines that say something, and their texts.
use Rattle.std.proofs.Common.{◌≡◌, ℕ, ◌^◌, ◌<◌, ◌≤◌, Bool, true, false, eqb, ltb, List, [], ◌∷◌, ◌++◌, map, Option, Some, None, refl, sym, ap, subst, ◌∙◌, arith, append_assoc}
use Rattle.std.specs.Char.{is_ascii_digit}
use Rattle.std.specs.Fmt.{decimal}
use Rattle.std.specs.List.{list_all, All, AllByRecursion, join_with_byte}
use Rattle.std.proofs.lemmas.Bool.Decides.{nat_tests}
use Rattle.std.proofs.lemmas.List.Elements.{All-cons, All-append}
use Rattle.std.proofs.lemmas.List.Splits.{slice_split_none, slice_split_at, join_with_byte-slice_split}
use Rattle.mach_types.specs.Events.{choice_for, choice_of, kind_of}
use Rattle.mach_types.specs.declared.events.Choice.{Choice}
use Rattle.mach_types.specs.declared.events.Choice.TheVariants as asked
use Rattle.mach_types.specs.declared.events.Entry.{Entry}
use Rattle.mach_types.specs.declared.events.Hart.{Hart}
use Rattle.mach_types.specs.declared.events.Kind.{Kind}
use Rattle.mach_types.specs.declared.events.Kind.TheVariants as kind
use Rattle.mach_types.specs.declared.events.Tid.{Tid}
use Rattle.step_log.proofs.Lines.{lines_of-cut}
use Rattle.step_log.proofs.Numbers.{both}
use Rattle.step_log.proofs.FieldReads.{hart_read-text, hart_read-only, kind_read-word, kind_read-only, tid_read-decimal, tid_read-only, pc_read-hex_text, pc_read-only, hex_text_digits, decimal_digits}
use Rattle.step_log.specs.Grammar.{IsLine, IsPrintable, IsChoice, IsCheckOf, RunsThat, line_text, line_fields, fields_behind, run_field, log_text}
use Rattle.step_log.specs.Script.{fields_of, lines_of, line_meaning, meaning_of_fields, whole_line, short_line, run_line, is_hex_digit, hart_read, kind_read, tid_read, pc_read, ◌>>=◌}
use Rattle.step_log.specs.Text.{hart_text, kind_word, hex_text, space, entry_line, newline}
use Rattle.step_log.specs.declared.fields.Line.{Line}

-- a text without a byte
abbrev Lacks : ℕ → List ℕ → Type 0
Lacks c bytes = All (λ b. eqb b c ≡ false) bytes

lacks_from : (c : ℕ) (test : ℕ → Bool) → ((b : ℕ) → test b ≡ true → eqb b c ≡ false) → (bytes : List ℕ) → list_all test bytes ≡ true → Lacks c bytes
lacks_from c test other [] all = λ k d within. absurd (omega arith)
lacks_from c test other (b ∷ bs) all =
    let parts = both (test b) (list_all test bs) all in
    All-cons (λ b. eqb b c ≡ false) b bs (other b parts.0) (lacks_from c test other bs parts.1)

visible_is : (c : ℕ) → c ≤ 32 → (b : ℕ) → ltb 32 b ≡ true → eqb b c ≡ false
visible_is c low b seen = grind (arith, nat_tests)

-- no field has a space or a newline
hart_lacks : (c h : ℕ) → c ≤ 32 → Lacks c (hart_text h)
hart_lacks c h low = lacks_from c (ltb 32) (visible_is c low) (hart_text h) (grind (arith, nat_tests))

word_lacks : (c : ℕ) (k : Kind) → c ≤ 32 → Lacks c (kind_word k)
word_lacks c k low = lacks_from c (ltb 32) (visible_is c low) (kind_word k) (go k)
  where
    go : (k : Kind) → list_all (ltb 32) (kind_word k) ≡ true
    go kind.Exec = refl
    go other = refl

decimal_lacks : (c n : ℕ) → c ≤ 32 → n < 2 ^ 32 → Lacks c (decimal n)
decimal_lacks c n low small = lacks_from c is_ascii_digit (λ b digit. grind (arith, nat_tests)) (decimal n) (decimal_digits n small)

hex_lacks : (c places n : ℕ) → c ≤ 32 → Lacks c (hex_text places n)
hex_lacks c places n low = lacks_from c is_hex_digit (λ b digit. grind (arith, nat_tests)) (hex_text places n) (hex_text_digits places n)

-- the fields of fields that are joined
fields_of-join : (f : List ℕ) (fs : List (List ℕ)) → AllByRecursion (Lacks 32) (f ∷ fs) → fields_of (join_with_byte space (f ∷ fs)) ≡ f ∷ fs
fields_of-join f [] h = slice_split_none (λ b. eqb b 32) f h.0
fields_of-join f (g ∷ gs) h =
    slice_split_at (λ b. eqb b 32) f 32 (join_with_byte space (g ∷ gs)) h.0 refl ∙ ap (λ (rest : List (List ℕ)). f ∷ rest) (fields_of-join g gs h.1)

behind_lacks : (choice : Choice) (check : Option (Tid × ℕ)) → IsChoice choice → IsCheckOf choice check → AllByRecursion (Lacks 32) (fields_behind choice check)
behind_lacks (asked.Run tid) None small fits = (decimal_lacks 32 tid.0 (omega arith) small, tt)
behind_lacks choice None small fits = tt
behind_lacks choice (Some check) small fits = (decimal_lacks 32 check.0.0 (omega arith) fits.0, (hex_lacks 32 16 check.1 (omega arith), tt))

-- the choice that an entry of this kind and thread answers
chosen : (choice : Choice) (hart : Hart) (tid : Tid) (pc : ℕ) → RunsThat choice tid
    → choice_of (record { hart = hart; kind = kind_of choice; tid = tid; pc = pc }) ≡ choice
chosen (asked.Run t) hart tid pc same = ap (λ (x : Tid). asked.Run x) (sym same)
chosen choice hart tid pc same = refl

abbrev line : Hart → Choice → Option (Tid × ℕ) → Line
line hart choice check = record { hart = hart; choice = choice; check = check }

read_four : (h k t p : List ℕ) (hart : Hart) (kind : Kind) (tid : Tid) (pc : ℕ) → hart_read h ≡ Some hart → kind_read k ≡ Some kind → tid_read t ≡ Some tid
    → pc_read p ≡ Some pc → meaning_of_fields (h ∷ k ∷ t ∷ p ∷ []) ≡ Some (whole_line (record { hart = hart; kind = kind; tid = tid; pc = pc }))
read_four h k t p hart kind tid pc eh ek et ep = rw (eh, ek, et, ep) refl

meaning-fields : (hart : Hart) (choice : Choice) (check : Option (Tid × ℕ)) → hart.0 < 8 → IsChoice choice → IsCheckOf choice check
    → meaning_of_fields (line_fields (record { hart = hart; choice = choice; check = check })) ≡ Some (record { hart = hart; choice = choice; check = check })
meaning-fields hart (asked.Run tid) None h c k = rw (hart_read-text hart h, tid_read-decimal tid c) refl
meaning-fields hart choice None h c k = rw (hart_read-text hart h) refl
meaning-fields hart choice (Some check) h c k =
    read_four (hart_text hart.0) (kind_word (kind_of choice)) (decimal check.0.0) (hex_text 16 check.1) hart (kind_of choice) check.0 check.1
    (hart_read-text hart h) (kind_read-word (kind_of choice)) (tid_read-decimal check.0 k.0) (pc_read-hex_text check.1 k.1)
    ∙ ap (λ (asks : Choice). Some (line hart asks (Some check))) (chosen choice hart check.0 check.1 k.2)

pub text_is_read : (l : Line) → IsLine l → line_meaning (line_text l) ≡ Some l
text_is_read l fits =
    ap meaning_of_fields (fields_of-join (hart_text l.hart.0) (kind_word (kind_of l.choice) ∷ fields_behind l.choice l.check)
    (hart_lacks 32 l.hart.0 (omega arith), (word_lacks 32 (kind_of l.choice) (omega arith), behind_lacks l.choice l.check fits.choice fits.check)))
    ∙ meaning-fields l.hart l.choice l.check fits.hart fits.choice fits.check

-- the other way
bind_some : {A B : Type 0} (o : Option A) (f : A → Option B) (y : B) → (o >>= f) ≡ Some y → (x : A) × (o ≡ Some x) × (f x ≡ Some y)
bind_some None f y e = cc
bind_some (Some x) f y e = (x, refl, e)

-- these fields say this line, which is one
abbrev Says : List (List ℕ) → Line → Type 0
Says fs l = IsLine l × (fs ≡ line_fields l)

bare_said : (H : Hart) (choice : Choice) (l : Line) → H.0 < 8 → IsChoice choice → Some (line H choice None) ≡ Some l
    → Says (hart_text H.0 ∷ kind_word (kind_of choice) ∷ run_field choice) l
bare_said H choice l small fits e =
    let same : line H choice None ≡ l = cc in
    subst (Says (hart_text H.0 ∷ kind_word (kind_of choice) ∷ run_field choice)) same (record { hart = small; choice = fits; check = tt }, refl)

short_said : (H : Hart) (K : Kind) (l : Line) → H.0 < 8 → short_line H K ≡ Some l → Says (hart_text H.0 ∷ kind_word K ∷ []) l
short_said H kind.Run l small e = cc
short_said H K l small e = bare_said H (choice_for K (record { 0 = 0 })) l small tt e

run_said : (H : Hart) (K : Kind) (t : Tid) (l : Line) → H.0 < 8 → t.0 < 2 ^ 32 → run_line H K t ≡ Some l
    → Says (hart_text H.0 ∷ kind_word K ∷ decimal t.0 ∷ []) l
run_said H kind.Run t l small thread e = bare_said H (asked.Run t) l small thread e
run_said H K t l small thread e = cc

whole_said : (H : Hart) (K : Kind) (t : Tid) (p : ℕ) → H.0 < 8 → t.0 < 2 ^ 32 → p < 2 ^ 64
    → Says (hart_text H.0 ∷ kind_word K ∷ decimal t.0 ∷ hex_text 16 p ∷ []) (whole_line (record { hart = H; kind = K; tid = t; pc = p }))
whole_said H kind.Run t p small thread pc = (record { hart = small; choice = thread; check = (thread, pc, refl) }, refl)
whole_said H K t p small thread pc = (record { hart = small; choice = tt; check = (thread, pc, tt) }, refl)

pub fields_said : (fs : List (List ℕ)) (l : Line) → meaning_of_fields fs ≡ Some l → Says fs l
fields_said [] l e = cc
fields_said (h ∷ []) l e = cc
fields_said (h ∷ k ∷ []) l e =
    let hart = bind_some (hart_read h) (λ H. kind_read k >>= (λ K. short_line H K)) l e in
    let kind = bind_some (kind_read k) (λ K. short_line hart.0 K) l hart.2 in
    let first = hart_read-only h hart.0 hart.1 in
    let second = kind_read-only k kind.0 kind.1 in
    let said = short_said hart.0 kind.0 l first.0 kind.2 in
    let same : h ∷ k ∷ [] ≡ hart_text hart.0.0 ∷ kind_word kind.0 ∷ [] = cc in
    (said.0, same ∙ said.1)
fields_said (h ∷ k ∷ t ∷ []) l e =
    let hart = bind_some (hart_read h) (λ H. kind_read k >>= (λ K. tid_read t >>= (λ T. run_line H K T))) l e in
    let kind = bind_some (kind_read k) (λ K. tid_read t >>= (λ T. run_line hart.0 K T)) l hart.2 in
    let thread = bind_some (tid_read t) (λ T. run_line hart.0 kind.0 T) l kind.2 in
    let first = hart_read-only h hart.0 hart.1 in
    let second = kind_read-only k kind.0 kind.1 in
    let third = tid_read-only t thread.0 thread.1 in
    let said = run_said hart.0 kind.0 thread.0 l first.0 third.0 thread.2 in
    let same : h ∷ k ∷ t ∷ [] ≡ hart_text hart.0.0 ∷ kind_word kind.0 ∷ decimal thread.0.0 ∷ [] = cc in
    (said.0, same ∙ said.1)
fields_said (h ∷ k ∷ t ∷ p ∷ []) l e =
    let whole : Hart → Kind → Tid → ℕ → Option Line = λ H K T P. Some (whole_line (record { hart = H; kind = K; tid = T; pc = P })) in
    let hart = bind_some (hart_read h) (λ H. kind_read k >>= (λ K. tid_read t >>= (λ T. pc_read p >>= (λ P. whole H K T P)))) l e in
    let kind = bind_some (kind_read k) (λ K. tid_read t >>= (λ T. pc_read p >>= (λ P. whole hart.0 K T P))) l hart.2 in
    let thread = bind_some (tid_read t) (λ T. pc_read p >>= (λ P. whole hart.0 kind.0 T P)) l kind.2 in
    let pc = bind_some (pc_read p) (λ P. whole hart.0 kind.0 thread.0 P) l thread.2 in
    let first = hart_read-only h hart.0 hart.1 in
    let second = kind_read-only k kind.0 kind.1 in
    let third = tid_read-only t thread.0 thread.1 in
    let fourth = pc_read-only p pc.0 pc.1 in
    let is : whole_line (record { hart = hart.0; kind = kind.0; tid = thread.0; pc = pc.0 }) ≡ l = cc in
    let same : h ∷ k ∷ t ∷ p ∷ [] ≡ hart_text hart.0.0 ∷ kind_word kind.0 ∷ decimal thread.0.0 ∷ hex_text 16 pc.0 ∷ [] = cc in
    subst (Says (h ∷ k ∷ t ∷ p ∷ [])) is
    (let said = whole_said hart.0 kind.0 thread.0 pc.0 first.0 third.0 fourth.0 in (said.0, same ∙ said.1))
fields_said (h ∷ k ∷ t ∷ p ∷ q ∷ more) l e = cc

pub only_text : (text : List ℕ) (l : Line) → line_meaning text ≡ Some l → text ≡ line_text l
only_text text l e = sym (join_with_byte-slice_split 32 text) ∙ ap (join_with_byte 32) ((fields_said (fields_of text) l e).1)

pub said_is_line : (text : List ℕ) (l : Line) → line_meaning text ≡ Some l → IsLine l
said_is_line text l e = (fields_said (fields_of text) l e).0

-- printed entries
pub entry_is_read : (e : Entry) → IsPrintable e → line_meaning (entry_line e) ≡ Some (whole_line e)
entry_is_read e fits =
    let said = whole_said e.hart e.kind e.tid e.pc fits.hart fits.thread fits.pc in
    ap (λ (fs : List (List ℕ)). line_meaning (join_with_byte space fs)) said.1 ∙ text_is_read (whole_line e) said.0

joined_lacks : (c : ℕ) → eqb 32 c ≡ false → (f : List ℕ) (fs : List (List ℕ)) → AllByRecursion (Lacks c) (f ∷ fs) → Lacks c (join_with_byte 32 (f ∷ fs))
joined_lacks c other f [] h = h.0
joined_lacks c other f (g ∷ gs) h =
    All-append (λ b. eqb b c ≡ false) f (32 ∷ join_with_byte 32 (g ∷ gs)) h.0
    (All-cons (λ b. eqb b c ≡ false) 32 (join_with_byte 32 (g ∷ gs)) other (joined_lacks c other g gs h.1))

line_lacks : (e : Entry) → IsPrintable e → Lacks 10 (entry_line e)
line_lacks e fits =
    joined_lacks 10 refl (hart_text e.hart.0) (kind_word e.kind ∷ decimal e.tid.0 ∷ hex_text 16 e.pc ∷ []) (
      hart_lacks 10 e.hart.0 (omega arith),
      (
        word_lacks 10 e.kind (omega arith),
        (
          decimal_lacks 10 e.tid.0 (omega arith) fits.thread,
          (hex_lacks 10 16 e.pc (omega arith), tt),
        ),
      ),
    )

-- the line of an entry before other text
pub entry_is_first : (e : Entry) (behind : List ℕ) → IsPrintable e → lines_of (entry_line e ++ newline ∷ behind) ≡ entry_line e ∷ lines_of behind
entry_is_first e behind fits =
    lines_of-cut (entry_line e ++ newline ∷ behind) (entry_line e) behind
    (slice_split_at (λ b. eqb b 10) (entry_line e) 10 behind (line_lacks e fits) refl)

pub log_lines : (log : List Entry) → AllByRecursion IsPrintable log → lines_of (log_text log) ≡ map entry_line log
log_lines [] fits = refl
log_lines (e ∷ es) fits =
    ap lines_of (append_assoc (entry_line e) (newline ∷ []) (log_text es)) ∙ entry_is_first e (log_text es) fits.0
    ∙ ap (λ (ls : List (List ℕ)). entry_line e ∷ ls) (log_lines es fits.1)

each_read : (log : List Entry) → AllByRecursion IsPrintable log → map line_meaning (map entry_line log) ≡ map (λ e. Some (whole_line e)) log
each_read [] fits = refl
each_read (e ∷ es) fits =
    let first = entry_is_read e fits.0 in
    let rest = each_read es fits.1 in
    cc

pub log_meanings : (log : List Entry) → AllByRecursion IsPrintable log → map line_meaning (lines_of (log_text log)) ≡ map (λ e. Some (whole_line e)) log
log_meanings log fits = ap (map line_meaning) (log_lines log fits) ∙ each_read log fits
