-- A sound record's own lengths give the number. Where it is 0, the own ballot has room for the entry, and the answer holds the record with it;
-- else the record as it was.
use native.Mathlib.Omega.{arith}
use mathlib.Core.Path.{◌≡◌, refl, sym, ap, ◌∙◌}
use Prim.Native.Nat.{◌<◌}
use Rattle.frame.specs.Soundness.{Sound}
use Rattle.refusals.specs.Refusals.{number_in}
use Rattle.issuing.specs.Issuing.{issue_number}
use Rattle.frame.proofs.Sound.{sound}
use Rattle.frame.proofs.State.{own-fine, within-limit}
use Rattle.refusals.proofs.Refusals.{above-zero}
use Rattle.issuing.proofs.Issues.{Allowed, number-unsound, number_at, allowed, issue-refused, issue-done}
use Rattle.issuing.proofs.issue.Goals as goal

pub allowed-requires : goal.allowed-requires
allowed-requires c =
    let sounds : let a = c.args in Sound a.office a.log.now = sound _ _ (sym c.sound.ensures ∙ c.if-not-sound.false) in
    let s = sounds in
    let F = own-fine _ _ s _ refl in
    (omega arith, (s.head.most, (omega arith, (within-limit _ _ s, (omega (arith, s.most), omega arith)))))

pub returns-in-Ok : goal.returns-in-Ok
returns-in-Ok c =
    let sounds : let a = c.args in Sound a.office a.log.now = sound _ _ (sym c.sound.ensures ∙ c.if-not-sound.false) in
    let numbered : let a = c.args in number_in c.allowed.result ≡ issue_number a.office a.log.now a.line a.code = number_at _ _ sounds _ _ _ refl _ refl _ c.allowed.ensures in
    issue-done _ _ _ _ (sym numbered ∙ ap number_in c.in-Ok.is) _ refl _ c.issued.ensures _ c.with_own.ensures

pub returns-then-not-sound : goal.returns-then-not-sound
returns-then-not-sound c = issue-refused _ _ _ _ _ (c.number.ensures ∙ number-unsound _ _ _ _ (sym c.sound.ensures ∙ c.if-not-sound.true)) (λ z. omega (arith, c.number.ensures))

pub offset_bounds-office-own : goal.offset_bounds-office-own
offset_bounds-office-own c =
    let sounds : let a = c.args in Sound a.office a.log.now = sound _ _ (sym c.sound.ensures ∙ c.if-not-sound.false) in
    let placed : c.args.office.own < 8 = let H = sounds.head in omega (arith, H.member, H.most) in
    omega (arith, placed)

pub bounds-office-own : goal.bounds-office-own
bounds-office-own c =
    let sounds : let a = c.args in Sound a.office a.log.now = sound _ _ (sym c.sound.ensures ∙ c.if-not-sound.false) in
    let placed : c.args.office.own < 8 = let H = sounds.head in omega (arith, H.member, H.most) in
    omega (arith, placed)

pub overflow_sub-held : goal.overflow_sub-held
overflow_sub-held c =
    let sounds : let a = c.args in Sound a.office a.log.now = sound _ _ (sym c.sound.ensures ∙ c.if-not-sound.false) in
    omega (arith, sounds.within)

pub returns-in-Err : goal.returns-in-Err
returns-in-Err c =
    let sounds : let a = c.args in Sound a.office a.log.now = sound _ _ (sym c.sound.ensures ∙ c.if-not-sound.false) in
    let numbered : let a = c.args in number_in c.allowed.result ≡ issue_number a.office a.log.now a.line a.code = number_at _ _ sounds _ _ _ refl _ refl _ c.allowed.ensures in
    issue-refused _ _ _ _ _ (c.number-in-Err.ensures ∙ sym (ap number_in c.in-Err.is) ∙ numbered) (λ z. above-zero _ (sym c.number-in-Err.ensures ∙ z))

pub issued-requires : goal.issued-requires
issued-requires c =
    let sounds : let a = c.args in Sound a.office a.log.now = sound _ _ (sym c.sound.ensures ∙ c.if-not-sound.false) in
    let numbered : let a = c.args in number_in c.allowed.result ≡ issue_number a.office a.log.now a.line a.code = number_at _ _ sounds _ _ _ refl _ refl _ c.allowed.ensures in
    let may : let a = c.args in Allowed a.office a.log.now a.line a.code = allowed _ _ _ _ (sym numbered ∙ ap number_in c.in-Ok.is) in
    let A = may in let P = A.limits in (omega arith, omega arith, omega arith)

pub with_own-requires : goal.with_own-requires
with_own-requires c =
    let sounds : let a = c.args in Sound a.office a.log.now = sound _ _ (sym c.sound.ensures ∙ c.if-not-sound.false) in
    let numbered : let a = c.args in number_in c.allowed.result ≡ issue_number a.office a.log.now a.line a.code = number_at _ _ sounds _ _ _ refl _ refl _ c.allowed.ensures in
    let may : let a = c.args in Allowed a.office a.log.now a.line a.code = allowed _ _ _ _ (sym numbered ∙ ap number_in c.in-Ok.is) in
    let A = may in omega arith
