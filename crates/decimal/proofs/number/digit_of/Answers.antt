-- Each return has the tests that led there; the definition picks by the same tests. A number past 64 bits is past `most`.
use borrow.Author.Tests.{le-leb, lt-leb}
use native.Mathlib.Omega.{arith}
use mathlib.Core.Path.{◌≡◌, refl, sym, ◌∙◌}
use mathlib.Core.Bool.{Bool, true, false, ◌&&◌}
use Prim.Native.Nat.{ℕ, ◌<◌, ◌≤◌}
use lib.Dec.{leb}
use Rattle.std.specs.Prelude.{Some, None}
use Rattle.std.specs.Char.{is_ascii_digit}
use Rattle.lists.specs.Tests.{both, pick}
use Rattle.decimal.specs.Number.{is_digit, appended, digit_of}
use Rattle.decimal.proofs.number.digit_of.Goals as goal

and-both : (a b : Bool) → a && b ≡ both a b
unfolding both
and-both true b = refl
and-both false b = refl

is-digit : (byte : ℕ) (t : Bool) → is_ascii_digit byte ≡ t → is_digit byte ≡ t
unfolding is_digit
is-digit byte t e = sym (and-both (leb 48 byte) (leb byte 57)) ∙ e

not-read : (most v byte : ℕ) → is_digit byte ≡ false → digit_of most v byte ≡ None
unfolding digit_of both pick
not-read most v byte e = rw e

past : (most v byte : ℕ) → is_digit byte ≡ true → most < appended v byte → digit_of most v byte ≡ None
unfolding digit_of both pick
past most v byte e h = rw (e, lt-leb (appended v byte) most h)

read : (most v byte : ℕ) → is_digit byte ≡ true → appended v byte ≤ most → digit_of most v byte ≡ Some (appended v byte)
unfolding digit_of both pick
read most v byte e h = rw (e, le-leb (appended v byte) most h)

pub returns-then-not-is_ascii_digit : goal.returns-then-not-is_ascii_digit
returns-then-not-is_ascii_digit c =
    let a = c.args in
    sym (not-read a.most a.so_far a.byte (is-digit a.byte false (sym c.is_ascii_digit.ensures.value ∙ c.if-not-is_ascii_digit.true)))

pub returns-in_err-checked_mul : goal.returns-in_err-checked_mul
returns-in_err-checked_mul c =
    let a = c.args in
    let d = is-digit a.byte true (sym c.is_ascii_digit.ensures.value ∙ c.if-not-is_ascii_digit.false) in
    c.from_residual.ensures ∙ sym (past a.most a.so_far a.byte d (omega (arith, c.in_err-checked_mul.ensures)))

pub returns-in_err-next : goal.returns-in_err-next
returns-in_err-next c =
    let a = c.args in
    let d = is-digit a.byte true (sym c.is_ascii_digit.ensures.value ∙ c.if-not-is_ascii_digit.false) in
    c.from_residual-in_err-next.ensures ∙ sym (past a.most a.so_far a.byte d (omega (arith, c.in_err-next.ensures, c.in_ok-checked_mul.ensures)))

pub returns-then-next-most : goal.returns-then-next-most
returns-then-next-most c =
    let a = c.args in
    let d = is-digit a.byte true (sym c.is_ascii_digit.ensures.value ∙ c.if-not-is_ascii_digit.false) in
    sym (past a.most a.so_far a.byte d (omega (arith, c.in_ok-next.ensures, c.in_ok-checked_mul.ensures)))

pub returns-else-next-most : goal.returns-else-next-most
returns-else-next-most c =
    let a = c.args in
    let d = is-digit a.byte true (sym c.is_ascii_digit.ensures.value ∙ c.if-not-is_ascii_digit.false) in
    let e : c.in_ok-next.next ≡ appended a.so_far a.byte = omega (arith, c.in_ok-next.ensures, c.in_ok-checked_mul.ensures) in
    rw (read a.most a.so_far a.byte d (omega arith), e)
