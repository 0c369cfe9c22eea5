-- Where a product or a sum passes 64 bits, it passes the list's end.
use Rattle.std.proofs.Common.{◌≡◌, ℕ, ◌+◌, ◌*◌, ◌≤◌, ◌<◌, Option, Some, length, ap, ◌∙◌, arith}
use mathlib.Core.Logic.{inl, inr}
use Rattle.trial_lines.proofs.Putting.{room_refused, room-taken}
use Rattle.trial_lines.proofs.writing.room_for.Goals as goal

pub returns-in_err-checked_mul : goal.returns-in_err-checked_mul
returns-in_err-checked_mul c =
    let a = c.args in
    c.from_residual.ensures ∙
    room_refused _ _ _ _ _ (λ h.
    let all : a.at + a.times * length c.said.result.now ≤ a.room = rw c.said.ensures h.1 in
    c.in_err-checked_mul.ensures (omega (arith, c.ranges.room.fits)))

pub returns-in_err-end : goal.returns-in_err-end
returns-in_err-end c =
    let a = c.args in
    c.from_residual-in_err-end.ensures ∙
    room_refused _ _ _ _ _ (λ h.
    let all : a.at + a.times * length c.said.result.now ≤ a.room = rw c.said.ensures h.1 in
    c.in_err-end.ensures (omega (arith, c.ranges.room.fits, c.in_ok-checked_mul.ensures)))

pub returns-then-each-eq0 : goal.returns-then-each-eq0
returns-then-each-eq0 c =
    let a = c.args in
    room_refused _ _ _ _ _ (λ h.
    let some : 0 < length c.said.result.now = rw c.said.ensures h.0 in
    let all : a.at + a.times * length c.said.result.now ≤ a.room = rw c.said.ensures h.1 in
    elim c.then-each-eq0.either [ inl e ↦ omega arith | inr q ↦ omega (arith, q.1, c.in_ok-checked_mul.ensures, c.in_ok-end.ensures) ])

pub returns : goal.returns
returns c =
    let a = c.args in
    let many = ap length c.said.ensures in
    let here : c.in_ok-end.end ≡ a.at + a.times * length c.said.result.now = omega (arith, c.in_ok-checked_mul.ensures, c.in_ok-end.ensures) in
    let e = here ∙ ap (λ (n : ℕ). a.at + a.times * n) many in
    ap {B = Option ℕ} Some e ∙ room-taken _ _ _ _ _ (omega (arith, many, c.if-each-eq0.false), omega (arith, e, c.if-end-room.false))
