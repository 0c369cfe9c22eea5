-- Soundness first, then the number by what was read; a refused call leaves all as it was.
use native.Mathlib.Omega.{arith}
use mathlib.Core.Path.{◌≡◌, refl, sym, ap, ◌∙◌}
use mathlib.Core.Bool.{false}
use Prim.Native.Nat.{ℕ, ◌≤◌}
use lib.ListN.{length, length-drop, take}
use borrow.Author.Rules.{rules}
use Rattle.std.specs.Prelude.{Result, Ok}
use lib.Seq.{length-take-le}
use Rattle.reading.proofs.Answers.{rest-of-message}
use Rattle.frame.specs.Soundness.{Sound}
use Rattle.lists.specs.Tests.{pick}
use Rattle.refusals.specs.Refusals.{number_of}
use Rattle.shared_places.specs.FromEnd.{compares}
use Rattle.comparing.specs.Checking.{checked_in}
use Rattle.comparing.specs.declared.Refused.{Refused}
use Rattle.elections.specs.declared.State.{State}
use Rattle.frame.specs.State.{held_length, with_state}
use Rattle.taking.specs.Taking.{take_number, take_places}
use Rattle.frame.specs.declared.Record.{Record}
use Rattle.frame.proofs.Sound.{sound}
use Rattle.refusals.proofs.Refusals.{above-zero}
use Rattle.taking.proofs.Takes.{head-within, log-within, no-places, none-read, not-read, not_sound, number-found, places-found, take-refused}
use Rattle.taking.proofs.Work.{ready, ready-in, length-fits, state-fits, take-made}
use Rattle.taking.proofs.take.Goals.{In-Some, After-check-checked}
use Rattle.taking.proofs.take.Goals as goal

-- these two compare nothing
not-compared : (compares 1 ≡ false) × (compares 7 ≡ false)
unfolding compares pick
not-compared = (refl, refl)

sounds : (c : In-Some) → Sound c.args.office c.args.log.now
sounds c = sound _ _ (sym c.sound.ensures ∙ c.if-not-sound.false)

-- the held log is lent
held : (c : After-check-checked) → c.state-before.result.held ≡ held_length c.args.office
held c = ap (λ (x : State). x.held) c.state-before.ensures

lent : (c : After-check-checked) → take c.state-before.result.held c.args.log.now ≡ take (held_length c.args.office) c.args.log.now
lent c = ap (λ (k : ℕ). take k c.args.log.now) (held c)

-- the number and the places of the call are the check's
numbered : (c : After-check-checked) → (checked_in c.check-checked.result).number ≡ take_number c.args.office c.args.log.now c.args.msg.now
numbered c = number-found _ _ _ (sound _ _ (sym c.sound.ensures ∙ c.if-not-sound.false)) _ c.in-Some.ensures _ (lent c) _ c.check-checked.ensures

placed : (c : After-check-checked) → (checked_in c.check-checked.result).places ≡ take_places c.args.office c.args.log.now c.args.msg.now
placed c = places-found _ _ _ (sound _ _ (sym c.sound.ensures ∙ c.if-not-sound.false)) _ c.in-Some.ensures _ (lent c) _ c.check-checked.ensures

done : (c : After-check-checked) (places : ℕ) → c.check-checked.result ≡ Ok places → take_number c.args.office c.args.log.now c.args.msg.now ≡ 0
done c places e = sym (numbered c) ∙ ap (λ (x : Result ℕ Refused). (checked_in x).number) e

pub returns-then-not-sound : goal.returns-then-not-sound
returns-then-not-sound c =
    let one = not_sound _ _ _ (sym c.sound.ensures ∙ c.if-not-sound.true) in
    let t = take-refused _ _ _ 1 0 (sym one) (no-places _ _ _ (ap compares one ∙ not-compared.0)) (λ z. omega arith) in
    (c.refused.ensures ∙ ap (λ (x : Refused). record { number = number_of x.refusal; places = x.places; «record» = c.args.office }) c.into.ensures ∙ t.0, t.1)

pub returns-in_default : goal.returns-in_default
returns-in_default c =
    let S = sound _ _ (sym c.sound.ensures ∙ c.if-not-sound.false) in
    let seven = not-read _ _ _ S (none-read _ c.in_default.ensures) in
    let t = take-refused _ _ _ 7 0 (sym seven) (no-places _ _ _ (ap compares seven ∙ not-compared.1)) (λ z. omega arith) in
    (c.refused-in_default.ensures ∙ ap (λ (x : Refused). record { number = number_of x.refusal; places = x.places; «record» = c.args.office }) c.into-in_default.ensures ∙ t.0, t.1)

pub slice_bounds-rest-count : goal.slice_bounds-rest-count
slice_bounds-rest-count c = let within = head-within _ _ _ (sounds (goal.at.slice_bounds-rest-count c).In-Some) _ c.in-Some.ensures in omega (arith, within)

pub slice_bounds-rest-start : goal.slice_bounds-rest-start
slice_bounds-rest-start c = let within : c.in-Some.m.head ≤ length c.args.msg.now = head-within _ _ _ (sounds (goal.at.slice_bounds-rest-start c).In-Some) _ c.in-Some.ensures in search rules

pub state-before-requires : goal.state-before-requires
state-before-requires c = (sounds (goal.at.state-before-requires c).In-Some).within

pub slice_bounds-check-end : goal.slice_bounds-check-end
slice_bounds-check-end c =
    let S = sounds (goal.at.slice_bounds-check-end c).In-Some in
    let h : c.state-before.result.held ≡ held_length c.args.office = ap (λ (x : State). x.held) c.state-before.ensures in
    omega (arith, S.most, S.room, h)

pub slice_bounds-check-end-2 : goal.slice_bounds-check-end-2
slice_bounds-check-end-2 c =
    let S = sounds (goal.at.slice_bounds-check-end-2 c).In-Some in
    let h : c.state-before.result.held ≡ held_length c.args.office = ap (λ (x : State). x.held) c.state-before.ensures in
    sym (length-take-le c.state-before.result.held c.args.log.now (omega (arith, S.most, S.room, h)))

pub check-checked-requires : goal.check-checked-requires
check-checked-requires c =
    rw (rest-of-message c.args.msg.now c.in-Some.m.head, length-drop) (log-within _ _ _ (sounds (goal.at.check-checked-requires c).In-Some) _ c.in-Some.ensures)

pub returns-in-Err : goal.returns-in-Err
returns-in-Err c =
    let at = (goal.at.returns-in-Err c).After-check-checked in
    let number = ap (λ (x : Result ℕ Refused). (checked_in x).number) (sym c.in-Err.is) ∙ numbered at in
    let places = ap (λ (x : Result ℕ Refused). (checked_in x).places) (sym c.in-Err.is) ∙ placed at in
    let t = take-refused _ _ _ _ _ number places (above-zero c.in-Err.r.refusal) in
    (c.refused-in-Err.ensures ∙ t.0, t.1)

pub take_in-taken-requires : goal.take_in-taken-requires
take_in-taken-requires c = ready-in _ _ _ _ (done (goal.at.take_in-taken-requires c).After-check-checked _ c.in-Ok.is) c.in-Some.ensures _ c.state-before.ensures

pub overflow_add-m : goal.overflow_add-m
overflow_add-m c = omega (arith, length-fits _ _ _ _ (done (goal.at.overflow_add-m c).After-check-checked _ c.in-Ok.is) c.in-Some.ensures)

pub noted-noted-requires : goal.noted-noted-requires
noted-noted-requires c = (ready _ _ _ _ (done (goal.at.noted-noted-requires c).After-check-checked _ c.in-Ok.is) c.in-Some.ensures).sender-below

pub with_state-next-requires : goal.with_state-next-requires
with_state-next-requires c =
    let fits =
    state-fits _ _ _ _ (done (goal.at.with_state-next-requires c).After-check-checked _ c.in-Ok.is) c.in-Some.ensures _ c.state-before.ensures _ _
    c.take_in-taken.ensures.made c.take_in-taken.ensures.words in
    omega (arith, fits, ap (λ (y : Record). y.kept.dropped) c.with_kept_and_noted-behind.ensures)

pub returns : goal.returns
returns c =
    let at = (goal.at.returns c).After-check-checked in
    let places = ap (λ (x : Result ℕ Refused). (checked_in x).places) (sym c.in-Ok.is) ∙ placed at in
    take-made _ _ _ _ (done at _ c.in-Ok.is) c.in-Some.ensures _ c.state-before.ensures _ _
    c.take_in-taken.ensures.made c.take_in-taken.ensures.words _ places _ c.noted-noted.ensures _
    (c.with_state-next.ensures ∙ ap (λ (y : Record). with_state y c.take_in-taken.result.state) c.with_kept_and_noted-behind.ensures)
