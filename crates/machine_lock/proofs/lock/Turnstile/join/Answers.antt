use Rattle.std.proofs.Common.{rules, ℕ, ◌+◌, ◌≤◌, ◌≡◌, List, length, sym, refl, ap, ◌∙◌, subst, arith}
use Rattle.machine_lock.specs.Numbers.{RisesFrom, Owns, Apart, merge}
use Rattle.machine_lock.specs.Passes.{PassView, is_out}
use Rattle.machine_lock.specs.Steps.{Longer}
use Rattle.machine_lock.specs.Views.{staged}
use Rattle.machine_lock.specs.declared.history.Stage.TheVariants.{Away}
use Rattle.machine_lock.proofs.Keeps.{joins, learns}
use Rattle.machine_lock.proofs.NumberLemmas.{merge_apart}
use Rattle.machine_lock.specs.Turnstiles.{turnstile_of}
use Rattle.machine_lock.proofs.PassLemmas.{whose, idle, whole_away, seen_as, turnstile_kept}
use Rattle.mach_types.specs.declared.events.Entry.{Entry}
use Rattle.machine_lock.proofs.lock.Turnstile.join.Given as given
use Rattle.machine_lock.proofs.lock.Turnstile.join.Goals as goal

pub join_seat-requires : goal.join_seat-requires
join_seat-requires g c =
    let s = c.pass.inside.seat in
    let o = c.other.inside.seat in
    let table = c.args.self.now.table.shared in
    let of = whose (turnstile_of c.args.self.now) s c.args.pass.now c.pass.invariant c.pass.view_is c.requires.own.0 in
    let at = idle s c.args.pass.now c.pass.invariant c.pass.view_is c.requires.idle.0 in
    let other_of = whose (turnstile_of c.args.self.now) o c.args.other c.other.invariant c.other.view_is c.requires.own.1 in
    let other_at = idle o c.args.other c.other.invariant c.other.view_is c.requires.idle.1 in (
      of.0,
      other_of.0,
      other_at.1,
      search rules,
      joins g.M.Meaning.setting g.M.Meaning.log g.M.Meaning.next table.key s.id s.me.0 o.id o.me.0 of.1 at.0 other_of.1 other_at.0 c.pass.invariant.looked c.other.invariant.looked,
    )

pub load-requires : goal.load-requires
load-requires g c =
    let s = c.pass.inside.seat in
    let of = whose (turnstile_of c.args.self.now) s c.args.pass.now c.pass.invariant c.pass.view_is c.requires.own.0 in
    let at = idle s c.args.pass.now c.pass.invariant c.pass.view_is c.requires.idle.0 in
    let both = c.join_seat.ensures.2 in (
      c.join_seat.ensures.0 ∙ of.0,
      search rules,
      learns g.M.Meaning.setting g.M.Meaning.log g.M.Meaning.next c.args.self.now.table.shared.key _ _ c.join_seat.new.seat.me (ap (λ m. m.0.origin) both ∙ of.1) (ap (λ m. m.0.stage) both ∙ at.0),
    )

-- what the pass learns of which of them had seen more
learnt : (g : given.Over) (c : goal.After-load g) → (l : List Entry)
    × (c.load.new.seat.me ≡ (staged c.join_seat.new.seat.me.0 l Away, c.join_seat.new.seat.me.1))
    × Longer g.M.Meaning.setting g.M.Meaning.log g.M.Meaning.next c.args.self.now.table.shared.key c.join_seat.new.seat.me.0.seen c.join_seat.new.seat.me.0.other l
    × Owns c.join_seat.new.seat.me.0.mine (length l)
learnt g c =
    let of = whose (turnstile_of c.args.self.now) c.pass.inside.seat c.args.pass.now c.pass.invariant c.pass.view_is c.requires.own.0 in
    c.load.ensures.2 c.args.self.now.table.shared.key (ap (λ m. m.0.origin) c.join_seat.ensures.2 ∙ of.1)

pub invariant_of-pass : goal.invariant_of-pass
invariant_of-pass g c =
    let s = c.pass.inside.seat in
    let of = whose (turnstile_of c.args.self.now) s c.args.pass.now c.pass.invariant c.pass.view_is c.requires.own.0 in
    let at = idle s c.args.pass.now c.pass.invariant c.pass.view_is c.requires.idle.0 in
    let both = c.join_seat.ensures.2 in
    let now = learnt g c in
    whole_away c.load.new.seat c.args.self.now.table.shared.key (staged c.join_seat.new.seat.me.0 now.0 Away) (now.1 ∙ ap (λ l. (staged c.join_seat.new.seat.me.0 now.0 Away, l)) (ap (λ m. m.1) both ∙ at.1)) (ap (λ m. m.0.origin) both ∙ of.1) refl refl
    (subst (λ (n : ℕ). 1 ≤ n) (sym (ap (λ m. m.0.parts) both)) (let p = c.pass.invariant.sound.part in omega arith)) now.3

pub returns-clause-pass : goal.returns-clause-pass
returns-clause-pass g c =
    let view = ap (λ m. m.0) c.join_seat.ensures.2 in
    let me = ap (λ m. m.0) (learnt g c).1 in
    seen_as c.load.new.seat _ (turnstile_kept c.pass.inside.seat c.load.new.seat c.args.pass.now c.pass.view_is (c.load.ensures.0 ∙ c.join_seat.ensures.0) (ap (λ v. v.origin) me ∙ ap (λ v. v.origin) view)) refl
    (ap (λ v. v.mine) me ∙ (ap (λ v. v.mine) view ∙ (ap (λ (p : PassView g.row.M.Denot). merge p.mine c.other.inside.seat.me.0.mine) c.pass.view_is ∙ ap (λ (p : PassView g.row.M.Denot). merge c.args.pass.now.mine p.mine) c.other.view_is)))
    (ap (λ v. v.parts) me ∙ (ap (λ v. v.parts) view ∙ (ap (λ (p : PassView g.row.M.Denot). p.parts + c.other.inside.seat.me.0.parts) c.pass.view_is ∙ ap (λ (p : PassView g.row.M.Denot). c.args.pass.now.parts + p.parts) c.other.view_is)))
    (ap (λ v. is_out v.stage) me ∙ sym c.requires.idle.0)

pub returns-clause-seen : goal.returns-clause-seen
returns-clause-seen g c =
    let s = c.pass.inside.seat in
    let both = c.join_seat.ensures.2 in
    let now = learnt g c in
    let L : List Entry → List Entry → List Entry → Type 0 = λ a b l. Longer g.M.Meaning.setting g.M.Meaning.log g.M.Meaning.next c.args.self.now.table.shared.key a b l in
    let one : L s.me.0.seen c.join_seat.new.seat.me.0.other now.0 = subst (λ a. L a c.join_seat.new.seat.me.0.other now.0) (ap (λ m. m.0.seen) both) now.2 in
    let two : L s.me.0.seen c.other.inside.seat.me.0.seen now.0 = subst (λ b. L s.me.0.seen b now.0) (ap (λ m. m.0.other) both) one in
    let three : L s.me.0.seen c.other.inside.seat.me.0.seen c.load.new.seat.me.0.seen = subst (L s.me.0.seen c.other.inside.seat.me.0.seen) (sym (ap (λ m. m.0.seen) now.1)) two in
    subst (λ (p : PassView g.row.M.Denot). L p.seen c.args.other.seen c.load.new.seat.me.0.seen) c.pass.view_is
    (subst (λ (p : PassView g.row.M.Denot). L s.me.0.seen p.seen c.load.new.seat.me.0.seen) c.other.view_is three)

pub returns-clause-apart : goal.returns-clause-apart
returns-clause-apart g c =
    let s = c.pass.inside.seat in
    let o = c.other.inside.seat in
    let apart : Apart s.me.0.mine o.me.0.mine = merge_apart 0 s.me.0.mine o.me.0.mine (subst (RisesFrom 0) (ap (λ m. m.0.mine) c.join_seat.ensures.2) (learnt g c).3.rises) in
    subst (λ (p : PassView g.row.M.Denot). Apart p.mine c.args.other.mine) c.pass.view_is (subst (λ (p : PassView g.row.M.Denot). Apart s.me.0.mine p.mine) c.other.view_is apart)

pub returns-clause-sound : goal.returns-clause-sound
returns-clause-sound g c = (invariant_of-pass g c).sound
