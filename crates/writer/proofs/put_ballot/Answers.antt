-- An empty ballot has no bytes; of another the mark, the office, the length and the values are stored one after the other.
use Prim.Native.Nat.{◌+◌, ◌*◌}
use mathlib.Core.Path.{refl, ◌∙◌, ◌≡◌}
use native.Mathlib.Omega.{arith}
use lib.ListN.{length-set, length}
use borrow.Author.Rules.{rules}
use Rattle.ballots.specs.Ballots.{tail_of}
use Rattle.spelling.specs.Spelling.{ballot_bytes}
use Rattle.writer.proofs.Ballots.{bytes-none, size-some, stores_some}
use Rattle.writer.proofs.put_ballot.Goals as goal

pub returns : goal.returns
returns c =
    let full : length c.args.b.now.cells ≡ 32 = search rules in
    let size : length (ballot_bytes c.args.o (tail_of c.args.b.now)) ≡ 4 + 4 * c.args.b.now.len = size-some c.args.o c.args.b.now full c.requires.0 c.if-b-eq0.false in
    let a = c.args in
    (omega (arith, size), c.put_run.ensures.1 ∙ stores_some a.o a.b.now full c.requires.0 c.if-b-eq0.false a.out.now a.at)

pub returns-then-b-eq0 : goal.returns-then-b-eq0
returns-then-b-eq0 c = rw (bytes-none c.args.o c.args.b.now c.if-b-eq0.true) (omega arith, refl)

pub bounds-out-at : goal.bounds-out-at
bounds-out-at c =
    let full : length c.args.b.now.cells ≡ 32 = search rules in
    let size : length (ballot_bytes c.args.o (tail_of c.args.b.now)) ≡ 4 + 4 * c.args.b.now.len = size-some c.args.o c.args.b.now full c.requires.0 c.if-b-eq0.false in
    omega (arith, size)

pub bounds-out-at-2 : goal.bounds-out-at-2
bounds-out-at-2 c =
    let full : length c.args.b.now.cells ≡ 32 = search rules in
    let size : length (ballot_bytes c.args.o (tail_of c.args.b.now)) ≡ 4 + 4 * c.args.b.now.len = size-some c.args.o c.args.b.now full c.requires.0 c.if-b-eq0.false in
    simp length-set (omega (arith, size))

pub bounds-out-at-3 : goal.bounds-out-at-3
bounds-out-at-3 c =
    let full : length c.args.b.now.cells ≡ 32 = search rules in
    let size : length (ballot_bytes c.args.o (tail_of c.args.b.now)) ≡ 4 + 4 * c.args.b.now.len = size-some c.args.o c.args.b.now full c.requires.0 c.if-b-eq0.false in
    simp length-set (omega (arith, size))

pub bounds-out-at-4 : goal.bounds-out-at-4
bounds-out-at-4 c =
    let full : length c.args.b.now.cells ≡ 32 = search rules in
    let size : length (ballot_bytes c.args.o (tail_of c.args.b.now)) ≡ 4 + 4 * c.args.b.now.len = size-some c.args.o c.args.b.now full c.requires.0 c.if-b-eq0.false in
    simp length-set (omega (arith, size))

pub put_run-requires : goal.put_run-requires
put_run-requires c =
    let full : length c.args.b.now.cells ≡ 32 = search rules in
    let size : length (ballot_bytes c.args.o (tail_of c.args.b.now)) ≡ 4 + 4 * c.args.b.now.len = size-some c.args.o c.args.b.now full c.requires.0 c.if-b-eq0.false in
    simp length-set (omega (arith, size, full))

pub shape_of-out : goal.shape_of-out
shape_of-out c = c.put_run.auto.out ∙ simp length-set
