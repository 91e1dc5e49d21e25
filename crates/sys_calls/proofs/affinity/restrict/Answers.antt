-- The thread's harts are others; where its own isn't among them it leaves.
use Rattle.sys_calls.proofs.Common.{◌≡◌, ℕ, Bool, true, false, [], eqb, cond, refl, sym, ap, subst, ◌∙◌, Ok, list_any, eq-eqb, false≢true, ne_eqb, CallDone, EINVAL, Errno, Here, IsCaller, IsMade, IsTables, Kernel, refused, said, Scheduling, affinity_of, is_of, left, moved_off, setaffinity_with, cond-false, cond-true, harts_in, has_hart, with_affinity, restricted, tables_allowed}
use Rattle.block_model.specs.Record as record_of
use Rattle.scheduler.proofs.Laws.{affinity_of-changed}
use Rattle.sys_calls.proofs.Laws.{holds_scheduling}
use Rattle.sys_calls.proofs.CallAnswers.{made_left, made_answered, answered_changed, made_refused}
use Rattle.sys_calls.proofs.CallerTables.{caller_held}
use Rattle.sys_calls.proofs.affinity.restrict.Goals as goal
use Rattle.sys_calls.proofs.KernelWrites.{entered_none}

pub set_affinity-requires-clause-held : goal.set_affinity-requires-clause-held
set_affinity-requires-clause-held c = caller_held c.args.kernel.now c.args.here.0 c.args.tid.0 c.requires.caller

-- the set that the thread has now decides
has_now : (t set here : ℕ) (s s' : Scheduling) → list_any (is_of t) s.affinities ≡ true → s' ≡ with_affinity t set s → has_hart (affinity_of t s') here ≡ has_hart set here
has_now t set here s s' held is = ap (λ n. has_hart n here) (ap (affinity_of t) is ∙ affinity_of-changed t set s held)

-- the record, by whether the hart is in the set; and the call, by how many harts there are
abbrev moved_by : Bool → Here → ℕ → ℕ → record_of.Kernel
moved_by b h t set = cond b (restricted t set h.kernel) (left t (restricted t set h.kernel))

abbrev setaffinity_at : ℕ → Here → ℕ → ℕ → CallDone
setaffinity_at harts h t asked = cond (eqb (harts_in asked harts) 0) (refused h t EINVAL) (record (said h t 0) { kernel = moved_off h t (harts_in asked harts) })

-- a caller whose harts are others
allowed_caller : (k : Kernel) (here t set : ℕ) (s : Scheduling) → IsCaller k here t → s ≡ with_affinity t set k.ready
    → IsCaller (record k { ready = s }) here t
allowed_caller k here t set s caller is =
    let tables = tables_allowed caller.tables.0 t set k.threads.threads k.ready caller.tables.1 in
    record {
      tables = (caller.tables.0, subst (λ (s : Scheduling). IsTables caller.tables.0 k.threads.threads s) (sym is) tables);
      signals = caller.signals;
      runs = caller.runs;
      quiet = caller.quiet;
    }

-- what is chosen, by whether the hart is in the set
chosen : (h : Here) (t asked harts here : ℕ) (b : Bool) → h.setting.limits.harts ≡ harts → h.hart ≡ here → eqb (harts_in asked harts) 0 ≡ false → has_hart (harts_in asked harts) here ≡ b
    → (after : record_of.Kernel) → moved_by b h t (harts_in asked harts) ≡ after → setaffinity_with h t asked ≡ record (said h t 0) { kernel = after }
chosen h t asked harts here b count hart some at after is =
    let f = λ (n : ℕ). setaffinity_at n h t asked in
    ap f count ∙ cond-false (eqb (harts_in asked harts) 0) (refused h t EINVAL) _ some
    ∙ ap (λ (k : record_of.Kernel). record (said h t 0) { kernel = k }) (ap (λ (c : Bool). moved_by c h t (harts_in asked harts)) (ap (has_hart (harts_in asked harts)) hart ∙ at) ∙ is)

pub leave-requires : goal.leave-requires
leave-requires c =
    allowed_caller c.args.kernel.now c.args.here.0 c.args.tid.0 (harts_in c.args.set c.args.harts) c.set_affinity.new.self c.requires.caller c.in_default.ensures.ok

pub returns-in-Err : goal.returns-in-Err
returns-in-Err c = record {
  made = λ h m hart count told has file.
      let t = c.args.tid.0 in
      let k = c.args.kernel.now in
      let asked = c.args.set in
      let none : eqb (harts_in asked c.args.harts) 0 ≡ true = eq-eqb (harts_in asked c.args.harts) 0 (c.in-Err.ensures.no_hart.0 refl) in
      let is : setaffinity_with h t asked ≡ refused h t c.in-Err.errno =
      ap (λ (n : ℕ). setaffinity_at n h t asked) count ∙ cond-true (eqb (harts_in asked c.args.harts) 0) (refused h t EINVAL) _ none
      ∙ ap (λ (e : Errno). refused h t e) (sym c.in-Err.ensures.errno) in
      let made = made_refused h t c.args.here.0 k m c.args.saved.now c.go_on.new.saved c.in-Err.errno c.go_on.result (setaffinity_with h t asked) hart told has file c.requires.caller is
      c.go_on.ensures.saved c.go_on.ensures.stays c.go_on.ensures.runs_on c.go_on.ensures.waits_in_none c.go_on.ensures.ends c.go_on.ensures.answer in
      subst (λ (s : Scheduling). IsMade h t k m (record k { ready = s }) m c.go_on.new.saved c.go_on.result (setaffinity_with h t asked)) (sym c.in-Err.ensures.err) made;
}

pub returns-then-allows : goal.returns-then-allows
returns-then-allows c = record {
  made = λ h m hart count told has file.
      let t = c.args.tid.0 in
      let k = c.args.kernel.now in
      let set = harts_in c.args.set c.args.harts in
      let some : eqb set 0 ≡ false = ne_eqb set 0 (λ e. false≢true (c.in_default.ensures.no_hart.1 e)) in
      let held = caller_held k c.args.here.0 t c.requires.caller in
      let at : has_hart set c.args.here.0 ≡ true = sym (has_now t set c.args.here.0 k.ready c.set_affinity.new.self held c.in_default.ensures.ok) ∙ (sym c.allows.ensures ∙ c.if-allows.true) in
      let is = chosen h t c.args.set c.args.harts c.args.here.0 true count hart some at (restricted t set h.kernel) refl in
      let k' : Kernel = record k { ready = c.set_affinity.new.self } in
      let ready : k'.ready ≡ with_affinity t set h.kernel.scheduling = c.in_default.ensures.ok ∙ ap (with_affinity t set) told.scheduling in
      let done = answered_changed h t k k' m m [] [] (Ok 0) (restricted t set h.kernel)
      (holds_scheduling told c.set_affinity.new.self (with_affinity t set h.kernel.scheduling) ready) refl refl refl (entered_none m) refl refl in
      let allowed = allowed_caller k c.args.here.0 t set c.set_affinity.new.self c.requires.caller c.in_default.ensures.ok in
      let made = made_answered h t c.args.here.0 k k' m m c.args.saved.now c.go_on-then-allows.new.saved [] (Ok 0) c.go_on-then-allows.result _ hart told has file c.requires.caller done allowed.tables
      c.go_on-then-allows.ensures.saved c.go_on-then-allows.ensures.stays c.go_on-then-allows.ensures.runs_on c.go_on-then-allows.ensures.waits_in_none c.go_on-then-allows.ensures.ends c.go_on-then-allows.ensures.answer in
      subst (λ (d : CallDone). IsMade h t k m k' m c.go_on-then-allows.new.saved c.go_on-then-allows.result d) (sym is) made;
}

pub returns : goal.returns
returns c = record {
  made = λ h m hart count told has file.
      let t = c.args.tid.0 in
      let k = c.args.kernel.now in
      let set = harts_in c.args.set c.args.harts in
      let some : eqb set 0 ≡ false = ne_eqb set 0 (λ e. false≢true (c.in_default.ensures.no_hart.1 e)) in
      let held = caller_held k c.args.here.0 t c.requires.caller in
      let at : has_hart set c.args.here.0 ≡ false = sym (has_now t set c.args.here.0 k.ready c.set_affinity.new.self held c.in_default.ensures.ok) ∙ (sym c.allows.ensures ∙ c.if-allows.false) in
      let is = chosen h t c.args.set c.args.harts c.args.here.0 false count hart some at (left t (restricted t set h.kernel)) refl in
      let k1 : Kernel = record k { ready = c.set_affinity.new.self } in
      let ready : k1.ready ≡ with_affinity t set h.kernel.scheduling = c.in_default.ensures.ok ∙ ap (with_affinity t set) told.scheduling in
      let held = holds_scheduling told c.set_affinity.new.self (with_affinity t set h.kernel.scheduling) ready in
      let made = made_left h t c.args.here.0 k k1 c.leave.new.kernel m c.args.saved.now c.leave.new.saved c.leave.result (restricted t set h.kernel) hart has refl held refl file refl
      (allowed_caller k c.args.here.0 t set c.set_affinity.new.self c.requires.caller c.in_default.ensures.ok)
      c.leave.ensures.saved c.leave.ensures.threads c.leave.ensures.kept c.leave.ensures.ready c.leave.ensures.others c.leave.ensures.end c.leave.ensures.a0 in
      subst (λ (d : CallDone). IsMade h t k m c.leave.new.kernel m c.leave.new.saved c.leave.result d) (sym is) made;
}
