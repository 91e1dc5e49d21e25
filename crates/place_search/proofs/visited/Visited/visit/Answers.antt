use Rattle.std.proofs.Common.{◌≤◌, subst, ◌≡◌, ◌+◌, ◌++◌, ℕ, List, Some, length, bytes_eq, length-append, reverse, sym, ap, ◌∙◌, arith}
use Rattle.std.specs.Map.{lookup}
use Rattle.std.proofs.lemmas.List.{length-reverse, reverse-reverse}
use Rattle.mach_types.specs.declared.events.Entry.{Entry}
use Rattle.place_search.specs.Preemptions.{ArePaid, kept_at, known_in}
use Rattle.place_search.specs.declared.visited.Visited.{Visited}
use Rattle.place_search.proofs.Nexts.{full_back, full_ends, full_has, full_paid, known_back, log_of, next_has, next_paid, row_of}
use Rattle.place_search.proofs.Preemptions.{known_as}
use Rattle.place_search.proofs.Visits.{same_more, single_more, single_stays, unchanged_has, unchanged_more}
use Rattle.place_search.proofs.visited.Visited.visit.Goals as goal

pub returns-in_err-key-clause-more : goal.returns-in_err-key-clause-more
returns-in_err-key-clause-more c = same_more c.args.self.now

pub returns-in-Some-clause-more : goal.returns-in-Some-clause-more
returns-in-Some-clause-more c = same_more c.args.self.now

known_keys : (v : Visited) (key key' : List ℕ) (n to : ℕ) → key' ≡ key → Some to ≡ known_in v.rows.items v.keys key' n → (lookup (bytes_eq key) v.keys ≡ Some to) × (kept_at v.rows.items to ≤ n)
known_keys v key key' n to same is = known_as v.rows.items n to (lookup (bytes_eq key) v.keys) (ap (λ (k : List ℕ). known_in v.rows.items v.keys k n) (sym same) ∙ sym is)

pub returns-in-Some-clause-back : goal.returns-in-Some-clause-back
returns-in-Some-clause-back c = λ s signals may.
    let known = known_keys c.args.self.now c.in_ok-key.key.items c.deref.result.now c.args.preemptions c.in-Some.known c.deref.ensures.value c.in-Some.ensures in
    known_back s signals c.args.self.now c.args.from.now c.args.entries.items c.args.owed c.args.made.now c.in_ok-key.key.items c.in-Some.known may c.in_ok-key.ensures known.0

pub returns-in-Some-clause-no_dearer : goal.returns-in-Some-clause-no_dearer
returns-in-Some-clause-no_dearer c =
    (known_keys c.args.self.now c.in_ok-key.key.items c.deref.result.now c.args.preemptions c.in-Some.known c.deref.ensures.value c.in-Some.ensures).1

pub returns-in_err-add-clause-paid : goal.returns-in_err-add-clause-paid
returns-in_err-add-clause-paid c = λ s signals cost budget may is few paid. subst (ArePaid cost budget) (sym c.in_err-add.ensures.err.rows) paid

pub returns-then-place-most-clause-more : goal.returns-then-place-most-clause-more
returns-then-place-most-clause-more c = same_more c.args.self.now

pub returns-in_err-log-clause-more : goal.returns-in_err-log-clause-more
returns-in_err-log-clause-more c = same_more c.args.self.now

pub returns-in_err-add-clause-kept : goal.returns-in_err-add-clause-kept
returns-in_err-add-clause-kept c = λ s signals may. unchanged_has s signals c.args.made.now.start c.args.self.now c.add.new.self c.in_err-add.ensures.err may.visited

pub returns-in_err-add-clause-more : goal.returns-in_err-add-clause-more
returns-in_err-add-clause-more c = unchanged_more c.args.self.now c.add.new.self c.in_err-add.ensures.err

pub returns-in_err-note-clause-kept : goal.returns-in_err-note-clause-kept
returns-in_err-note-clause-kept c = λ s signals may.
    let from = c.args.from.now.log.items in
    let entries : c.in_ok-log.log.items ≡ log_of c.args.from.now c.args.entries.items = c.in_ok-log.ensures ∙ ap (λ (l : List Entry). l ++ c.deref-3.result.now) c.deref-2.ensures.value ∙ ap (λ (l : List Entry). from ++ l) c.deref-3.ensures.value in
    let size : length c.in_ok-log.log.items ≡ length from + length c.args.entries.items = ap (λ (l : List Entry). length l) entries ∙ length-append from c.args.entries.items in
    let depth : c.len.result ≡ length from + length c.args.entries.items = omega arith in
    let own = c.reverse.new.self in
    let own_is : reverse own.items ≡ c.args.entries.items = ap (λ (l : List Entry). reverse l) c.reverse.ensures.items ∙ reverse-reverse c.args.entries.items in
    unchanged_has s signals c.args.made.now.start c.add.new.self c.note.new.self c.in_err-note.ensures.err
    (next_has s signals c.args.self.now c.add.new.self c.args.from.now c.args.entries.items c.args.owed c.args.made.now c.deref-4.result.now c.len.result c.args.preemptions may (c.deref-4.ensures.value ∙ c.in_ok-key.ensures) own own_is c.in_ok-add.ensures.ok depth)

pub returns-clause-kept : goal.returns-clause-kept
returns-clause-kept c = λ s signals may.
    let from = c.args.from.now.log.items in
    let entries : c.in_ok-log.log.items ≡ log_of c.args.from.now c.args.entries.items = c.in_ok-log.ensures ∙ ap (λ (l : List Entry). l ++ c.deref-3.result.now) c.deref-2.ensures.value ∙ ap (λ (l : List Entry). from ++ l) c.deref-3.ensures.value in
    let size : length c.in_ok-log.log.items ≡ length from + length c.args.entries.items = ap (λ (l : List Entry). length l) entries ∙ length-append from c.args.entries.items in
    let depth : c.len.result ≡ length from + length c.args.entries.items = omega arith in
    let own = c.reverse.new.self in
    let own_is : reverse own.items ≡ c.args.entries.items = ap (λ (l : List Entry). reverse l) c.reverse.ensures.items ∙ reverse-reverse c.args.entries.items in
    full_has s signals c.args.self.now c.add.new.self c.args.from.now c.args.entries.items c.args.owed c.args.made.now c.deref-4.result.now c.len.result c.args.preemptions may (c.deref-4.ensures.value ∙ c.in_ok-key.ensures) own own_is c.in_ok-add.ensures.ok depth
    c.note.new.self c.deref-5.result.now (c.deref-5.ensures.value ∙ entries) c.in_ok-note.ensures.ok

pub returns-clause-back : goal.returns-clause-back
returns-clause-back c = λ s signals may.
    let from = c.args.from.now.log.items in
    let entries : c.in_ok-log.log.items ≡ log_of c.args.from.now c.args.entries.items = c.in_ok-log.ensures ∙ ap (λ (l : List Entry). l ++ c.deref-3.result.now) c.deref-2.ensures.value ∙ ap (λ (l : List Entry). from ++ l) c.deref-3.ensures.value in
    let size : length c.in_ok-log.log.items ≡ length from + length c.args.entries.items = ap (λ (l : List Entry). length l) entries ∙ length-append from c.args.entries.items in
    let depth : c.len.result ≡ length from + length c.args.entries.items = omega arith in
    let own = c.reverse.new.self in
    let own_is : reverse own.items ≡ c.args.entries.items = ap (λ (l : List Entry). reverse l) c.reverse.ensures.items ∙ reverse-reverse c.args.entries.items in
    full_back s signals c.args.self.now c.add.new.self c.args.from.now c.args.entries.items c.args.owed c.args.made.now c.deref-4.result.now c.len.result c.args.preemptions may (c.deref-4.ensures.value ∙ c.in_ok-key.ensures) own own_is c.in_ok-add.ensures.ok depth
    c.note.new.self c.deref-5.result.now (c.deref-5.ensures.value ∙ entries) c.in_ok-note.ensures.ok c.places-place.result c.places-place.ensures

pub returns-clause-ends : goal.returns-clause-ends
returns-clause-ends c = λ not s signals may.
    let from = c.args.from.now.log.items in
    let entries : c.in_ok-log.log.items ≡ log_of c.args.from.now c.args.entries.items = c.in_ok-log.ensures ∙ ap (λ (l : List Entry). l ++ c.deref-3.result.now) c.deref-2.ensures.value ∙ ap (λ (l : List Entry). from ++ l) c.deref-3.ensures.value in
    let size : length c.in_ok-log.log.items ≡ length from + length c.args.entries.items = ap (λ (l : List Entry). length l) entries ∙ length-append from c.args.entries.items in
    let depth : c.len.result ≡ length from + length c.args.entries.items = omega arith in
    let own = c.reverse.new.self in
    let own_is : reverse own.items ≡ c.args.entries.items = ap (λ (l : List Entry). reverse l) c.reverse.ensures.items ∙ reverse-reverse c.args.entries.items in
    full_ends s signals c.args.self.now c.add.new.self c.args.from.now c.args.entries.items c.args.owed c.args.made.now c.deref-4.result.now c.len.result c.args.preemptions may (c.deref-4.ensures.value ∙ c.in_ok-key.ensures) own own_is c.in_ok-add.ensures.ok depth
    c.note.new.self c.deref-5.result.now (c.deref-5.ensures.value ∙ entries) c.in_ok-note.ensures.ok

pub returns-in_err-add-clause-single : goal.returns-in_err-add-clause-single
returns-in_err-add-clause-single c = λ one single. single_stays c.args.self.now c.add.new.self c.in_err-add.ensures.err.rows single

pub returns-in_err-note-clause-single : goal.returns-in_err-note-clause-single
returns-in_err-note-clause-single c = λ one single.
    let own : length c.reverse.new.self.items ≡ 1 = ap (λ (l : List Entry). length l) c.reverse.ensures.items ∙ length-reverse c.args.entries.items ∙ one in
    single_stays c.add.new.self c.note.new.self c.in_err-note.ensures.err.rows
    (single_more c.args.self.now c.add.new.self (row_of c.args.from.now c.args.preemptions c.args.owed c.reverse.new.self) c.deref-4.result.now c.len.result c.in_ok-add.ensures.ok own single)

pub returns-clause-single : goal.returns-clause-single
returns-clause-single c = λ one single.
    let own : length c.reverse.new.self.items ≡ 1 = ap (λ (l : List Entry). length l) c.reverse.ensures.items ∙ length-reverse c.args.entries.items ∙ one in
    single_stays c.add.new.self c.note.new.self c.in_ok-note.ensures.ok.rows
    (single_more c.args.self.now c.add.new.self (row_of c.args.from.now c.args.preemptions c.args.owed c.reverse.new.self) c.deref-4.result.now c.len.result c.in_ok-add.ensures.ok own single)

pub returns-clause-paid : goal.returns-clause-paid
returns-clause-paid c = λ s signals cost budget may is few paid.
    let from = c.args.from.now.log.items in
    let entries : c.in_ok-log.log.items ≡ log_of c.args.from.now c.args.entries.items = c.in_ok-log.ensures ∙ ap (λ (l : List Entry). l ++ c.deref-3.result.now) c.deref-2.ensures.value ∙ ap (λ (l : List Entry). from ++ l) c.deref-3.ensures.value in
    let size : length c.in_ok-log.log.items ≡ length from + length c.args.entries.items = ap (λ (l : List Entry). length l) entries ∙ length-append from c.args.entries.items in
    let depth : c.len.result ≡ length from + length c.args.entries.items = omega arith in
    let own = c.reverse.new.self in
    let own_is : reverse own.items ≡ c.args.entries.items = ap (λ (l : List Entry). reverse l) c.reverse.ensures.items ∙ reverse-reverse c.args.entries.items in
    full_paid s signals c.args.self.now c.add.new.self c.args.from.now c.args.entries.items c.args.owed c.args.made.now c.deref-4.result.now c.len.result c.args.preemptions may (c.deref-4.ensures.value ∙ c.in_ok-key.ensures) own own_is c.in_ok-add.ensures.ok depth
    c.note.new.self c.deref-5.result.now (c.deref-5.ensures.value ∙ entries) c.in_ok-note.ensures.ok cost budget is few paid

pub returns-in_err-note-clause-paid : goal.returns-in_err-note-clause-paid
returns-in_err-note-clause-paid c = λ s signals cost budget may is few paid.
    let from = c.args.from.now.log.items in
    let entries : c.in_ok-log.log.items ≡ log_of c.args.from.now c.args.entries.items = c.in_ok-log.ensures ∙ ap (λ (l : List Entry). l ++ c.deref-3.result.now) c.deref-2.ensures.value ∙ ap (λ (l : List Entry). from ++ l) c.deref-3.ensures.value in
    let size : length c.in_ok-log.log.items ≡ length from + length c.args.entries.items = ap (λ (l : List Entry). length l) entries ∙ length-append from c.args.entries.items in
    let depth : c.len.result ≡ length from + length c.args.entries.items = omega arith in
    let own = c.reverse.new.self in
    let own_is : reverse own.items ≡ c.args.entries.items = ap (λ (l : List Entry). reverse l) c.reverse.ensures.items ∙ reverse-reverse c.args.entries.items in
    subst (ArePaid cost budget) (sym c.in_err-note.ensures.err.rows)
    (next_paid s signals c.args.self.now c.add.new.self c.args.from.now c.args.entries.items c.args.owed c.args.made.now c.deref-4.result.now c.len.result c.args.preemptions may (c.deref-4.ensures.value ∙ c.in_ok-key.ensures) own own_is c.in_ok-add.ensures.ok depth cost budget is few paid)
