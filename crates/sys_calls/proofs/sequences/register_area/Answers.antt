-- The area is registered, or the process is killed.
use Rattle.sys_calls.proofs.Common.{◌≡◌, Bool, true, false, [], length, sym, ap, subst, ◌∙◌, arith, refl, ◌∷◌, length-append, Ok, length-map, are_words_writable, words_entered, words_on, words_written, Killed, CallDone, Here, IsEntered, IsMade, IsRead, Kernel, RegisteredArea, areas_by_number, is_writable, SIGSEGV, id_of, with_area, areas_fit, registered_areas}
use Rattle.sys_calls.specs.declared.calling.CallEnd.TheVariants as over
use Rattle.sys_calls.proofs.CallAnswers.{made_answered, answered_changed, made_ended}
use Rattle.sys_calls.proofs.AreaRegistration.{registered_done, registers_killed, registers_made, words_can}
use Rattle.sys_calls.proofs.CallerTables.{caller_lives}
use Rattle.sys_calls.proofs.sequences.register_area.Goals.{After-write_words}
use Rattle.sys_calls.proofs.sequences.register_area.Goals as goal
use Rattle.sys_calls.proofs.Laws.{holds_areas}

-- whether the words can be written, as a rule reads it; and the words, with the hart and the id
can_is : (c : After-write_words) (h : Here) → IsRead h c.args.pages.now c.args.tid.0 c.args.saved.now → are_words_writable (is_writable h) c.args.area ≡ c.write_words.result
can_is c h read = sym (words_can h c.args.pages.now c.args.tid.0 c.args.saved.now read c.args.area) ∙ sym c.write_words.ensures.answer

words_are : (c : After-write_words) (h : Here) → h.hart ≡ c.args.here.0 → id_of c.args.tid.0 h.kernel.ids ≡ c.args.cid → c.write_words.result ≡ true
    → c.write_words.new.written.items ≡ words_written c.args.area (words_on h.hart (id_of c.args.tid.0 h.kernel.ids))
words_are c h at holds made =
    c.write_words.ensures.told ∙ ap (λ (b : Bool). words_entered b c.args.area (words_on c.from-hart.result c.from.result)) made
    ∙ ap (λ n. words_written c.args.area (words_on n c.from.result)) (c.from-hart.ensures ∙ sym at) ∙ ap (λ n. words_written c.args.area (words_on h.hart n)) (c.from.ensures ∙ sym holds)

pub returns-then-not-write_words-clause-told : goal.returns-then-not-write_words-clause-told
returns-then-not-write_words-clause-told c = λ h hart read id.
    let cannot = can_is (goal.at.returns-then-not-write_words-clause-told c).After-write_words h read ∙ c.if-not-write_words.true in
    c.write_words.ensures.told ∙ ap (λ (b : Bool). words_entered b c.args.area (words_on c.from-hart.result c.from.result)) c.if-not-write_words.true
    ∙ ap (λ (d : CallDone). d.entered) (sym (registers_killed h c.args.tid.0 c.args.area cannot))

pub returns-then-not-write_words-clause-made : goal.returns-then-not-write_words-clause-made
returns-then-not-write_words-clause-made c = λ h hart told has read id.
    let m = c.args.pages.now in
    let t = c.args.tid.0 in
    let k = c.args.kernel.now in
    let m' = c.write_words.new.pages in
    let cannot = can_is (goal.at.returns-then-not-write_words-clause-made c).After-write_words h read ∙ c.if-not-write_words.true in
    let none : c.write_words.new.written.items ≡ [] =
    c.write_words.ensures.told ∙ ap (λ (b : Bool). words_entered b c.args.area (words_on c.from-hart.result c.from.result)) c.if-not-write_words.true in
    let made = made_ended h t c.args.here.0 k m m' c.args.saved.now c.write_words.new.written.items [] (Killed SIGSEGV) (Killed SIGSEGV) hart told read.file
    c.requires.caller has c.write_words.ensures.entered none refl in
    subst (λ (d : CallDone). IsMade h t k m k m' c.args.saved.now (over.ProcessEnd (Killed SIGSEGV)) d) (sym (registers_killed h t c.args.area cannot)) made

pub add_area-requires : goal.add_area-requires
add_area-requires c =
    let k = c.args.kernel.now in
    let t = c.args.tid.0 in
    let areas = areas_by_number k.areas.items in
    let more = areas_fit k.threads.threads (with_area t c.args.area areas)
    (registered_areas t c.args.area k.threads.threads areas (caller_lives k c.args.here.0 t c.requires.caller) c.requires.none c.requires.areas) in
    let size = length-append areas ((t, c.args.area) ∷ []) in
    let same : length areas ≡ length k.areas.items = length-map k.areas.items (λ (entry : RegisteredArea). (entry.tid.0, entry.area)) in
    record { room = omega (arith, more, c.requires.caller.tables.1.threads.few, size, same) }

pub returns-clause-told : goal.returns-clause-told
returns-clause-told c = λ h hart read id.
    let is = (goal.at.returns-clause-told c).After-write_words in
    words_are is h hart id c.if-not-write_words.false ∙ ap (λ (d : CallDone). d.entered) (sym (registers_made h c.args.tid.0 c.args.area (can_is is h read ∙ c.if-not-write_words.false)))

pub returns-clause-made : goal.returns-clause-made
returns-clause-made c = λ h hart told has read id.
    let m = c.args.pages.now in
    let t = c.args.tid.0 in
    let k = c.args.kernel.now in
    let area = c.args.area in
    let m' = c.write_words.new.pages in
    let saved = c.args.saved.now in
    let ws = words_written area (words_on h.hart (id_of t h.kernel.ids)) in
    let k' : Kernel = record k { areas = c.add_area.new.registered } in
    let is = (goal.at.returns-clause-made c).After-write_words in
    let can = can_is is h read ∙ c.if-not-write_words.false in
    let writes : c.write_words.new.written.items ≡ ws = words_are is h hart id c.if-not-write_words.false in
    let areas = with_area t area h.kernel.areas in
    let done = answered_changed h t k k' m m' ws c.write_words.new.written.items (Ok 0) (record h.kernel { areas = areas })
    (holds_areas told c.add_area.new.registered areas (c.add_area.ensures ∙ ap (with_area t area) told.areas)) refl refl refl
    (subst (IsEntered m m') writes c.write_words.ensures.entered) writes refl in
    let made = made_answered h t c.args.here.0 k k' m m' saved c.go_on.new.saved c.write_words.new.written.items (Ok 0) c.go_on.result (registered_done h t area)
    hart told has read.file c.requires.caller done c.requires.caller.tables
    c.go_on.ensures.saved c.go_on.ensures.stays c.go_on.ensures.runs_on c.go_on.ensures.waits_in_none c.go_on.ensures.ends c.go_on.ensures.answer in
    subst (λ (d : CallDone). IsMade h t k m k' m' c.go_on.new.saved c.go_on.result d) (sym (registers_made h t area can)) made
