-- The hart and the node, where they are asked.
use Rattle.sys_calls.proofs.Common.{◌≡◌, ℕ, ◌+◌, Bool, true, false, not, ◌&&◌, ◌||◌, eqb, List, ◌++◌, sym, ap, subst, ◌∙◌, Ok, Err, CallDone, EFAULT, Here, IsAnswered, IsEntered, Map, Write, argument, can_write_in, each_byte, is_writable, said, and_parts, cond-false, cond-true, not_from_false, not_from_true, getcpu, is_usable, written_unless_zero}
use Rattle.sys_calls.proofs.KernelWrites.{entered_twice}
use Rattle.sys_calls.proofs.GuestMemory.{argument_is}
use Rattle.sys_calls.proofs.CallAnswers.{answered_said, answered_wrote}
use Rattle.sys_calls.proofs.affinity.getcpu.Goals as goal

-- a pointer, in the page map
abbrev usable : Map → ℕ → Bool
usable m at = eqb at 0 || each_byte (can_write_in m) at 4

usable_is : (h : Here) (t : ℕ) (m : Map) (at : ℕ) → can_write_in m ≡ is_writable h → usable m at ≡ is_usable h at
usable_is h t m at same = ap (λ (test : ℕ → Bool). eqb at 0 || each_byte test at 4) same

usable_after : (m m' : Map) (at : ℕ) → ((a : ℕ) → can_write_in m' a ≡ can_write_in m a) → usable m at ≡ true → usable m' at ≡ true
usable_after m m' at same e = rw (same at, same (at + 1), same (at + 1 + 1), same (at + 1 + 1 + 1)) e

both_are : (h : Here) (t : ℕ) (m : Map) (cpu node : ℕ) (b : Bool) → can_write_in m ≡ is_writable h → cpu ≡ argument h t 0 → node ≡ argument h t 1 → (usable m cpu && usable m node) ≡ b
    → (is_usable h (argument h t 0) && is_usable h (argument h t 1)) ≡ b
both_are h t m cpu node b same p q e =
    sym (λ i. is_usable h (p i) && is_usable h (q i)) ∙ sym (λ i. usable_is h t m cpu same i && usable_is h t m node same i) ∙ e

pub returns-then-not-are_usable-clause-answered : goal.returns-then-not-are_usable-clause-answered
returns-then-not-are_usable-clause-answered c = λ h k t hart told read.
    let m = c.args.pages.now in
    let no = both_are h t m c.argument-cpu.result c.argument-node.result false read.writable (c.argument-cpu.ensures ∙ argument_is h t c.args.saved.now read.file 0) (c.argument-node.ensures ∙ argument_is h t c.args.saved.now read.file 1)
    (sym c.are_usable.ensures ∙ c.if-not-are_usable.true) in
    let is = cond-true (not (is_usable h (argument h t 0) && is_usable h (argument h t 1))) _ _ (not_from_false _ no) in
    subst (λ (w : List Write). IsAnswered h t k m k m w (Err EFAULT) (getcpu h t)) (sym c.requires) (answered_said h t k m (Err EFAULT) (getcpu h t) told is)

pub write_unless_zero-requires-clause-usable : goal.write_unless_zero-requires-clause-usable
write_unless_zero-requires-clause-usable c =
    (and_parts (usable c.args.pages.now c.argument-cpu.result) (usable c.args.pages.now c.argument-node.result) (sym c.are_usable.ensures ∙ c.if-not-are_usable.false)).0

pub write_unless_zero-requires-2-clause-usable : goal.write_unless_zero-requires-2-clause-usable
write_unless_zero-requires-2-clause-usable c =
    usable_after c.args.pages.now c.write_unless_zero.new.pages c.argument-node.result c.write_unless_zero.ensures.same
    (and_parts (usable c.args.pages.now c.argument-cpu.result) (usable c.args.pages.now c.argument-node.result) (sym c.are_usable.ensures ∙ c.if-not-are_usable.false)).1

pub returns-clause-answered : goal.returns-clause-answered
returns-clause-answered c = λ h k t hart told read.
    let m = c.args.pages.now in
    let m' = c.write_unless_zero-2.new.pages in
    let cpu : c.argument-cpu.result ≡ argument h t 0 = c.argument-cpu.ensures ∙ argument_is h t c.args.saved.now read.file 0 in
    let node : c.argument-node.result ≡ argument h t 1 = c.argument-node.ensures ∙ argument_is h t c.args.saved.now read.file 1 in
    let yes = both_are h t m c.argument-cpu.result c.argument-node.result true read.writable cpu node (sym c.are_usable.ensures ∙ c.if-not-are_usable.false) in
    let v : List Write = written_unless_zero c.argument-cpu.result c.from.result in
    let w : List Write = written_unless_zero c.argument-node.result 0 in
    let entered : IsEntered m m' (v ++ w) = entered_twice m c.write_unless_zero.new.pages m' v w c.write_unless_zero.ensures.entered c.write_unless_zero-2.ensures.entered in
    let written : c.write_unless_zero-2.new.written.items ≡ v ++ w =
    c.write_unless_zero-2.ensures.told ∙ ap (λ (x : List Write). x ++ w) (c.write_unless_zero.ensures.told ∙ ap (λ (x : List Write). x ++ v) c.requires) in
    let writes : v ++ w ≡ written_unless_zero (argument h t 0) h.hart ++ written_unless_zero (argument h t 1) 0 =
    ap (λ (a : ℕ). written_unless_zero a c.from.result ++ w) cpu ∙ ap (λ (n : ℕ). written_unless_zero (argument h t 0) n ++ w) (c.from.ensures ∙ sym hart)
    ∙ ap (λ (a : ℕ). written_unless_zero (argument h t 0) h.hart ++ written_unless_zero a 0) node in
    let is : getcpu h t ≡ record (said h t 0) { entered = v ++ w } =
    cond-false (not (is_usable h (argument h t 0) && is_usable h (argument h t 1))) _ _ (not_from_true _ yes) ∙ ap (λ (ws : List Write). record (said h t 0) { entered = ws }) (sym writes) in
    let done = answered_wrote h t k m m' (Ok 0) (v ++ w) told entered in
    subst (λ (ws : List Write). IsAnswered h t k m k m' ws (Ok 0) (getcpu h t)) (sym written)
    (subst (λ (d : CallDone). IsAnswered h t k m k m' (v ++ w) (Ok 0) d) (sym is) done)
