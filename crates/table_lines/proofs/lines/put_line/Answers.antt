-- The three ballots are those of the table, so that few entries are printed of each and few are settled.
use native.Mathlib.Omega.{arith}
use mathlib.Core.Path.{◌≡◌, ap, subst, ◌∙◌}
use mathlib.Core.List.{List, map}
use Prim.Native.Nat.{ℕ, ◌+◌, ◌≤◌}
use lib.ListN.{length, get_or}
use Rattle.ballots.specs.Ballots.{ballot_of, off_end}
use Rattle.ballots.specs.declared.Ballot.{Ballot}
use Rattle.frame.specs.Electing.{elect_of}
use Rattle.frame.specs.declared.Record.{Record}
use Rattle.tables.specs.Tables.{table_at}
use Rattle.table_lines.specs.Lines.{empty_log, settled_from, few}
use Rattle.printing.specs.Printing.{Puts}
use Rattle.table_lines.proofs.Small.{Three, three, small_any}
use Rattle.table_lines.proofs.Settled.{settled-few, settled-count}
use Rattle.table_lines.proofs.Written.{Seated, seated, seated-record, line-whole, line-written, spaced-short}
use Rattle.table_lines.proofs.lines.put_line.Goals as goal

-- the ballots of the table at a place
at_place : (place : ℕ) → Three (table_at place)
at_place place = three (table_at place) (small_any place)

module _ (tails : List Ballot) (place : ℕ) (e : tails ≡ map ballot_of (table_at place)) where
  seats : Seated (get_or tails 0 off_end) (at_place place).x
      × (Seated (get_or tails 1 off_end) (at_place place).y × Seated (get_or tails 2 off_end) (at_place place).z)
  seats = seated tails (table_at place) (at_place place) off_end e

pub put_ballot-second-requires : goal.put_ballot-second-requires
put_ballot-second-requires c =
    let s = seats c.table_at.result c.args.place c.table_at.ensures in
    (s.0.few-entries, (s.0.short, omega (arith, c.requires)))

pub put_ballot-third-requires : goal.put_ballot-third-requires
put_ballot-third-requires c =
    let s = seats c.table_at.result c.args.place c.table_at.ensures in
    let second = c.put_ballot-second in
    let one = spaced-short _ 32 s.0.few-entries in
    (s.1.0.few-entries, (s.1.0.short, omega (arith, c.requires, second.ensures.end, second.auto.out, one)))

pub put_ballot-last-requires : goal.put_ballot-last-requires
put_ballot-last-requires c =
    let s = seats c.table_at.result c.args.place c.table_at.ensures in
    let second = c.put_ballot-second in
    let third = c.put_ballot-third in
    let one = spaced-short _ 32 s.0.few-entries in
    let two = spaced-short _ 32 s.1.0.few-entries in
    let room : third.result + 27 ≤ length third.new.out =
    omega (arith, c.requires, second.ensures.end, second.auto.out, third.ensures.end, third.auto.out, one, two) in
    (s.1.1.few-entries, (s.1.1.short, room))

pub put_settled-requires : goal.put_settled-requires
put_settled-requires c =
    let r = c.args.«record» in
    let t = table_at c.args.place in
    let small = small_any c.args.place in
    let s = seats c.table_at.result c.args.place c.table_at.ensures in
    let second = c.put_ballot-second in
    let third = c.put_ballot-third in
    let last = c.put_ballot-last in
    let one = spaced-short _ 32 s.0.few-entries in
    let two = spaced-short _ 32 s.1.0.few-entries in
    let three = spaced-short _ 32 s.1.1.few-entries in
    let room : last.result + 27 ≤ length last.new.out =
    omega (
      arith,
      c.requires,
      second.ensures.end,
      second.auto.out,
      third.ensures.end,
      third.auto.out,
      last.ensures.end,
      last.auto.out,
      one,
      two,
      three,
    ) in
    let e = seated-record r c.with_table-seated.result t (at_place c.args.place) _ _ _ s.0 s.1.0 s.1.1 c.with_table-seated.ensures in
    let count : (elect_of c.with_table-seated.result empty_log).count ≤ 1024 =
    omega (arith, ap (λ (x : Record). (elect_of x empty_log).count) e, settled-count r t small) in
    (ap (λ (x : Record). few (settled_from x)) e ∙ settled-few r t small, (count, room))

pub returns : goal.returns
returns c =
    let a = c.args in
    let s = seats c.table_at.result a.place c.table_at.ensures in
    let seated = c.with_table-seated in
    let second = c.put_ballot-second.ensures in
    let third = c.put_ballot-third.ensures in
    let last = c.put_ballot-last.ensures in
    let end = c.put_settled.ensures in
    subst (λ (l : List ℕ). Puts a.out.now a.at l c.put_settled.result c.put_settled.new.out)
    (line-written a.«record» seated.result (table_at a.place) (at_place a.place) _ _ _ s.0 s.1.0 s.1.1 seated.ensures)
    (let w = line-whole (settled_from seated.result) _ _ _ a.out.now _ _ _ _ a.at _ _ _ _
    second.end second.output third.end third.output last.end last.output end.end end.output in
    record { end = w.0; output = w.1 })
