-- An area is unregistered, or its words can't be written.
use Rattle.sys_calls.proofs.Common.{◌≡◌, ℕ, Bool, true, false, List, [], Some, sym, ap, subst, ◌∙◌, refl, Err, Ok, are_words_writable, area_of, without_area, words_entered, words_unregistered, words_written, Area, CallDone, EFAULT, Here, HoldsTables, IsAnswered, IsEntered, Kernel, Saved, Write, is_writable, refused, unregisters, unregisters_or_refused, areas_by_number, unregistration_asked}
use Rattle.sys_calls.proofs.CallAnswers.{answered_wrote, answered_changed}
use Rattle.sys_calls.proofs.AreaRegistration.{unregistered_done, unregisters_made, unregisters_refused, words_can}
use Rattle.sys_calls.proofs.sequences.unregister_area.Goals as goal
use Rattle.sys_calls.proofs.Laws.{holds_areas}

-- the call that isn't refused, of a thread that has this area
not_refused : (h : Here) (t : ℕ) (k : Kernel) (saved : Saved) (area : Area) (unit : Unit {0}) → HoldsTables k h.kernel → unregistration_asked saved (area_of t (areas_by_number k.areas.items)) ≡ Ok unit
    → area_of t (areas_by_number k.areas.items) ≡ Some area → unregisters_or_refused h t (unregistration_asked saved (area_of t h.kernel.areas)) ≡ unregisters h t (Some area)
not_refused h t k saved area unit told may is =
    ap (λ (areas : List (ℕ × Area)). unregisters_or_refused h t (unregistration_asked saved (area_of t areas))) (sym told.areas)
    ∙ ap (unregisters_or_refused h t) may
    ∙ ap (λ (areas : List (ℕ × Area)). unregisters h t (area_of t areas)) (sym told.areas) ∙ ap (unregisters h t) is

pub returns-then-not-write_words-clause-answered : goal.returns-then-not-write_words-clause-answered
returns-then-not-write_words-clause-answered c = λ h told read.
    let t = c.args.tid.0 in
    let m' = c.write_words.new.pages in
    let area = c.in-Some.area in
    let call = unregisters_or_refused h t (unregistration_asked c.args.saved.now (area_of t h.kernel.areas)) in
    let cannot : are_words_writable (is_writable h) area ≡ false =
    sym (words_can h c.args.pages.now t c.args.saved.now read area) ∙ sym c.write_words.ensures.answer ∙ c.if-not-write_words.true in
    let none : c.write_words.new.written.items ≡ [] =
    c.write_words.ensures.told ∙ ap (λ (b : Bool). words_entered b area words_unregistered) c.if-not-write_words.true in
    let is : call ≡ refused h t EFAULT =
    not_refused h t c.args.kernel.now c.args.saved.now area c.in_ok-may_unregister.field-0 told (sym c.may_unregister.ensures.answer ∙ c.in_ok-may_unregister.was) (sym c.area_of.ensures ∙ c.in-Some.is)
    ∙ unregisters_refused h t area cannot in
    let done = answered_wrote h t c.args.kernel.now c.args.pages.now m' (Err EFAULT) [] told (subst (IsEntered c.args.pages.now m') none c.write_words.ensures.entered) in
    subst (λ (w : List Write). IsAnswered h t c.args.kernel.now c.args.pages.now c.args.kernel.now m' w (Err EFAULT) call) (sym none)
    (subst (λ (d : CallDone). IsAnswered h t c.args.kernel.now c.args.pages.now c.args.kernel.now m' [] (Err EFAULT) d) (sym is) done)

pub returns-clause-answered : goal.returns-clause-answered
returns-clause-answered c = λ h told read.
    let t = c.args.tid.0 in
    let k = c.args.kernel.now in
    let m = c.args.pages.now in
    let area = c.in-Some.area in
    let saved = c.args.saved.now in
    let call = unregisters_or_refused h t (unregistration_asked saved (area_of t h.kernel.areas)) in
    let ws = words_written area words_unregistered in
    let k' : Kernel = record k { areas = c.remove_area.new.registered } in
    let can : are_words_writable (is_writable h) area ≡ true =
    sym (words_can h m t saved read area) ∙ sym c.write_words.ensures.answer ∙ c.if-not-write_words.false in
    let writes : c.write_words.new.written.items ≡ ws =
    c.write_words.ensures.told ∙ ap (λ (b : Bool). words_entered b area words_unregistered) c.if-not-write_words.false in
    let is : call ≡ unregistered_done h t area =
    not_refused h t k saved area c.in_ok-may_unregister.field-0 told (sym c.may_unregister.ensures.answer ∙ c.in_ok-may_unregister.was) (sym c.area_of.ensures ∙ c.in-Some.is)
    ∙ unregisters_made h t area can in
    let areas = without_area t h.kernel.areas in
    let done = answered_changed h t k k' m c.write_words.new.pages ws c.write_words.new.written.items (Ok 0) (record h.kernel { areas = areas })
    (holds_areas told c.remove_area.new.registered areas (c.remove_area.ensures ∙ ap (without_area t) told.areas)) refl refl refl
    (subst (IsEntered m c.write_words.new.pages) writes c.write_words.ensures.entered) writes refl in
    subst (λ (d : CallDone). IsAnswered h t k m k' c.write_words.new.pages c.write_words.new.written.items (Ok 0) d) (sym is) done
