-- In each arm the command is what the pattern says, and the arm's call promises what the definition says there.
use borrow.Author.Tests.{le-ltb, lt-ltb}
use mathlib.Core.Path.{refl}
use Rattle.lists.specs.Tests.{pick}
use Rattle.rehearsal_turns.specs.Turns.{turn_at, turn_words, turn_slots}
use Rattle.rehearsal_turns.proofs.turn_at.Goals as goal

pub returns-in-Found : goal.returns-in-Found
unfolding turn_at turn_words turn_slots
returns-in-Found c = let e = c.in-Found.is in record { value = rw e c.stay.ensures; log_after = rw e refl; slots_after = rw e refl }

pub returns-in-Issue : goal.returns-in-Issue
unfolding turn_at turn_words turn_slots
returns-in-Issue c = let e = c.in-Issue.is in record { value = rw e c.issue_turn.ensures; log_after = rw e refl; slots_after = rw e refl }

pub returns-else-m-lt-SLOTS : goal.returns-else-m-lt-SLOTS
unfolding turn_at turn_words turn_slots pick
returns-else-m-lt-SLOTS c =
    let e = c.in-Send.is in
    let none = le-ltb c.in-Send.m 4 c.if-m-lt-SLOTS.false in
    record { value = rw (e, none) c.stay-else-m-lt-SLOTS.ensures; log_after = rw e refl; slots_after = rw (e, none) refl }

pub returns-then-m-lt-SLOTS : goal.returns-then-m-lt-SLOTS
unfolding turn_at turn_words turn_slots pick
returns-then-m-lt-SLOTS c =
    let e = c.in-Send.is in
    let there = lt-ltb c.in-Send.m 4 c.if-m-lt-SLOTS.true in
    let turn = c.send_turn.ensures in
    record { value = rw (e, there) turn.turn; log_after = rw e refl; slots_after = rw (e, there) turn.sent }

pub returns-else-m-lt-SLOTS-2 : goal.returns-else-m-lt-SLOTS-2
unfolding turn_at turn_words turn_slots pick
returns-else-m-lt-SLOTS-2 c =
    let e = c.in-Take.is in
    let none = le-ltb c.in-Take.m 4 c.if-m-lt-SLOTS-2.false in
    record { value = rw (e, none) c.stay-else-m-lt-SLOTS-2.ensures; log_after = rw (e, none) refl; slots_after = rw e refl }

pub returns-then-m-lt-SLOTS-2 : goal.returns-then-m-lt-SLOTS-2
unfolding turn_at turn_words turn_slots pick
returns-then-m-lt-SLOTS-2 c =
    let e = c.in-Take.is in
    let there = lt-ltb c.in-Take.m 4 c.if-m-lt-SLOTS-2.true in
    let turn = c.take_turn.ensures in
    record { value = rw (e, there) turn.turn; log_after = rw (e, there) turn.words; slots_after = rw e refl }

pub returns-in-Elect : goal.returns-in-Elect
unfolding turn_at turn_words turn_slots
returns-in-Elect c =
    let e = c.in-Elect.is in
    record { value = rw e c.elect_turn.ensures.0; log_after = rw e c.elect_turn.ensures.1; slots_after = rw e refl }

pub returns-in-View : goal.returns-in-View
unfolding turn_at turn_words turn_slots
returns-in-View c = let e = c.in-View.is in record { value = rw e c.view_turn.ensures; log_after = rw e refl; slots_after = rw e refl }
